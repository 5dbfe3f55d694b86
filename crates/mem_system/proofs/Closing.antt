-- What the closed table says when each CPU has nothing left. Serves the end of a system.
use Rattle.std.proofs.Common.{◌≡◌, ◌≢◌, ℕ, suc, ◌+◌, ◌<◌, ◌≤◌, Option, Some, None, true, List, [], ◌∷◌, ◌++◌, length, take, drop, refl, sym, ap}
use Rattle.std.proofs.Common.{◌∙◌, subst, inl, inr, arith, append-nil, append_assoc}
use Rattle.std.specs.Prelude.{All, min}
use Rattle.std.proofs.lemmas.Bool.{cases_eq}
use Rattle.std.proofs.lemmas.List.{take_all, drop_all}
use Rattle.group_tree.specs.Room.{max_count}
use Rattle.stock_word.specs.Stock.{stock_pages_of}
use Rattle.cpu_part.specs.Known.{HasOwn}
use Rattle.cpu_part.proofs.Owning.{own_same}
use Rattle.step_rules.specs.declared.phase.Stage.{Stage}
use Rattle.step_rules.specs.declared.phase.Stage.TheVariants.{FreshAt, BackAt}
use Rattle.step_rules.specs.declared.phase.Phase.{Phase}
use Rattle.step_rules.specs.declared.phase.Phase.TheVariants as phase
use Rattle.step_rules.specs.State.{Part, State, Zone, is_unheld, live_references, times}
use Rattle.step_rules.specs.After.{Run, state_of}
use Rattle.step_rules.proofs.Freeing.{zone_of_run}
use Rattle.step_rules.proofs.Sums.{sum_only}
use Rattle.boot_words.specs.{IsClosedRun, IsRunSoFar, hide, hide_phase, hide_stage, own_past, AllOf, BeginsRun, of_number, sum_over, words_in, zone_of_boot}
use Rattle.boot_words.specs.{HasSameLists, IsSettledAndDrained, stock_in, stock_said, word_in_phase, KnownTable}
use Rattle.boot_words.proofs.Counting.{is_low, is_none}
use Rattle.boot_words.proofs.Left.{zone_left}
use Rattle.boot_words.proofs.Owning.{lists_are_own}
use Rattle.boot_words.proofs.Returning.{none_booked}
use Rattle.mem_machine.specs.declared.frame_state.FrameState.{FrameState}
use Rattle.mem_machine.specs.declared.frame_state.FrameState.TheVariants.{Free, Lent, Head, Tail}
use Rattle.mem_machine.specs.{frame_state_at, phase_hidden, KnownMachine, IsConsistent, IsShownBy, left_by, part_at, NoneLentTo, Rests, HasDrained}
use Rattle.mem_machine.proofs.NoneLent.{lent_to_cpu, each_is_placed}
use Rattle.step_watch.proofs.Watching.{watches_both}
use Rattle.mem_system.specs.declared.audit.Audit.{Audit}
use Rattle.mem_system.specs.{CpuInRun, KnowsItself, parts_of, pasts_of, AreLastWords, Closes, ForEachCpu, SettlesInVisit, VisitsUnderLock, Empties}
use Rattle.mem_system.specs.{IsEmptied, IsAuditOf, HasNoPage, KnownEmptiedBoot, MachineAndCpu, MakesLastVisits, steps_of_visits, drops_of}
use Rattle.mem_system.specs.{pins_of_all, NothingIsLeft, KnownLocked, IsQuiet}
use Rattle.mem_system.proofs.Locking.{visits_watched}
use Rattle.mem_system.proofs.Running.{visits_go_on}

-- as many CPUs are visited as there are
pub turn_long : (Visit : MachineAndCpu → MachineAndCpu → Type 0) (m : KnownMachine) (cpus : List CpuInRun) (n : KnownMachine) (after : List CpuInRun) → ForEachCpu Visit m cpus n after
    → length after ≡ length cpus
turn_long Visit m [] n [] turn = refl
turn_long Visit m [] n (d ∷ after) turn = absurd turn
turn_long Visit m (c ∷ cpus) n [] turn = absurd turn
turn_long Visit m (c ∷ cpus) n (d ∷ after) turn = let rest = turn_long Visit turn.between cpus n after turn.rest in omega (arith, rest)

-- a list that is written back whole
pub written_back : (k : ℕ) (new old : List CpuInRun) → length new ≡ length old → k ≡ length old → take k (new ++ drop (length new) old) ≡ new
written_back k new old long all =
    ap (λ (l : List CpuInRun). take k (new ++ l)) (drop_all (length new) old (omega (arith, long))) ∙ ap (λ (l : List CpuInRun). take k l) (append-nil new)
    ∙ take_all k new (omega (arith, long, all))

-- ---- what the state says of one part, and of one frame

no_pages : (group : Option ℕ) (pages : ℕ) → stock_pages_of (stock_said group pages true) ≡ 0
no_pages None pages = refl
no_pages (Some g) pages = refl

-- a drained stock has no page
drained_none : (part : Part) → HasDrained part → stock_pages_of (stock_in part) ≡ 0
drained_none part drained = elim drained [
  | inl none ↦ ap (λ (o : Option ℕ). stock_pages_of (stock_said o part.stock.pages part.stock.is_drained)) none
  | inr was ↦ ap (λ b. stock_pages_of (stock_said part.stock.group part.stock.pages b)) was ∙ no_pages part.stock.group part.stock.pages
]

hidden_word : (x : Phase) (live : ℕ) → word_in_phase (hide_phase x) live ≡ word_in_phase x live
hidden_word (phase.Head u stage) live = by stage
  where
    by : (k : Stage) → word_in_phase (hide_stage u k) live ≡ word_in_phase (phase.Head u k) live
    by (FreshAt c) = refl
    by (BackAt c) = refl
    by k = refl
hidden_word x live = refl

shown_word : (r : FrameState) (live : ℕ) → word_in_phase (phase_hidden r) live ≡ live
shown_word Free live = refl
shown_word (Lent c) live = refl
shown_word (Head u) live = refl
shown_word (Tail g) live = refl

-- ---- one of the CPUs

-- the CPU of this number, which has nothing left, and of whose past the run goes on
pub record EndedCpu (t : KnownTable) (m : KnownMachine) (run : Run) (p : ℕ) : Type 0 where
  pub cpu : CpuInRun
  pub number : cpu.part.number ≡ p
  pub emptied : IsEmptied t m cpu.part
  pub knows : KnowsItself t cpu
  pub begins : BeginsRun (zone_of_boot t) run (own_past cpu.past)

found : (t : KnownTable) (m : KnownMachine) (run : Run) (p : ℕ) (cpus : List CpuInRun) → All (λ c. IsEmptied t m c) (parts_of cpus) → AllOf (KnowsItself t) cpus
    → AllOf (BeginsRun (zone_of_boot t) run) (pasts_of cpus) → 1 ≤ sum_over (of_number p) (pasts_of cpus) → EndedCpu t m run p
found t m run p [] all knows begin some = absurd (omega (arith, some))
found t m run p (c ∷ cpus) all knows begin some = elim (cases_eq (own_past c.past).number p) [
  | inl e ↦ record { cpu = c; number = knows.0.is.number ∙ e; emptied = all 0 c.part (omega arith); knows = knows.0; begins = begin.0 }
  | inr ne ↦
      let none = is_none (own_past c.past) p ne in
      found t m run p cpus (λ k any inside. all (suc k) any (omega (arith, inside))) knows.1 begin.1 (omega (arith, some, none))
]

-- the run leaves the CPU's lists and references as its past did
pub own_left : (t : KnownTable) (run : Run) (c : CpuInRun) → KnowsItself t c → BeginsRun (zone_of_boot t) run (own_past c.past)
    → HasOwn (state_of (zone_of_boot t) run) c.part
own_left t run c knows begins =
    let zone = zone_of_boot t in
    let past = own_past c.past in
    let some = knows.is.past.low in
    own_same (state_of zone past.seen) c.part knows.own (state_of zone run)
    (subst (λ (q : ℕ). HasSameLists q (state_of zone past.seen) (state_of zone run)) (sym knows.is.number)
    (lists_are_own zone past.seen run past.number (λ e. absurd (omega (arith, some, e))) begins.goes))

-- a machine that rests, CPUs that have nothing left, and the closed table
module _ (t : KnownTable) (m : KnownMachine) (cpus : List CpuInRun) (words : List ℕ) (ok : IsConsistent t m) (rests : Rests t m)
    (all : All (λ c. IsEmptied t m c) (parts_of cpus)) (knows : AllOf (KnowsItself t) cpus)
    (closed : IsClosedRun (zone_of_boot t) words (own_past m.run.past ∷ pasts_of cpus)) where
  abbrev zone : Zone
  zone = zone_of_boot t

  abbrev run : Run
  run = closed.end.run

  abbrev s : State
  s = state_of (zone_of_boot t) closed.end.run

  -- every CPU's own part hidden, the run leaves what the zone's past left
  pub hidden : hide s ≡ left_by t m.run.past
  hidden = zone_left zone run (own_past m.run.past) closed.end.is.legal closed.end.begin.0 rests.past_is.zone_is

  sized : s.zone.cpus ≡ t.cpus
  sized = ap (λ (z : Zone). z.cpus) (zone_of_run zone run)

  one : (p : ℕ) → 1 ≤ p → p ≤ t.cpus → EndedCpu t m run p
  one p low high =
      let count = closed.one_past p in
      let some = is_low p t.cpus high in
      let zeroth = rests.past_is.zone_is in
      let none = is_none (own_past m.run.past) p (λ e. absurd (omega (arith, e, zeroth, low))) in
      found t m run p cpus all knows closed.end.begin.1 (omega (arith, count, some, none))

  own_at : (p : ℕ) → 1 ≤ p → p ≤ t.cpus → ((s.parts p).fresh ≡ []) × ((f : ℕ) → s.references p f ≡ 0)
  own_at p low high =
      let e = one p low high in
      let own = own_left t run e.cpu e.knows e.begins in
      subst (λ (q : ℕ). ((s.parts q).fresh ≡ []) × ((f : ℕ) → s.references q f ≡ 0)) e.number
      (own.fresh ∙ e.emptied.idle.1, λ f. own.references f ∙ ap (times f) e.emptied.idle.3)

  settled : (p : ℕ) → 1 ≤ p → p ≤ t.cpus → IsSettledAndDrained (s.parts p)
  settled p low high =
      let e = one p low high in
      let left = sym (ap (λ (u : State). u.parts p) hidden) in
      let told = ok.shown.absorbed p in
      let unreported = ap (λ (x : Part). x.unreported) left in
      let reported = ap (λ (x : Part). x.reported) left in record {
        fresh = (own_at p low high).0;
        unreported = omega (arith, told, unreported);
        reported = omega (arith, told, reported);
        drained = subst HasDrained left (subst (λ (q : ℕ). HasDrained (part_at t m q)) e.number e.emptied.drained);
      }

  no_page : (p : ℕ) → 1 ≤ p → p ≤ t.cpus → HasNoPage t m (words_in zone words).stocks p
  no_page p low high =
      let high' : p ≤ s.zone.cpus = omega (arith, high, sized) in
      let part = settled p low high in record {
        words = record {
          stock = stock_in (s.parts p);
          encoded = closed.end.is.stocks.stock p low high';
          empty = drained_none (s.parts p) part.drained;
          none_reported = closed.end.is.stocks.report p low high' ∙ part.reported;
        };
        book = ap (λ (u : State). (u.parts p).book) (sym hidden) ∙ none_booked zone run p closed.end.is.legal part;
      }

  last_words : AreLastWords t m (words_in zone words).frames
  last_words f inside =
      let shown = ap (λ (u : State). u.phases f) hidden ∙ ok.shown.phases f in
      let live = live_references s f in
      let none : (p : ℕ) → p < s.zone.cpus + 1 → p ≢ 0 → s.references p f ≡ 0 = λ p low ne. (own_at p (omega (arith, ne)) (omega (arith, low, sized))).1 f in
      closed.end.is.frames.frame f (subst (λ (z : Zone). f < z.frames) (sym (zone_of_run zone run)) inside)
      ∙ sym (hidden_word (s.phases f) live) ∙ ap (λ (x : Phase). word_in_phase x live) shown ∙ shown_word (frame_state_at m.frame_states f) live
      ∙ sum_only (s.zone.cpus + 1) (λ p. s.references p f) 0 (omega arith) none
      ∙ ap (λ (u : State). u.references 0 f) hidden ∙ ok.shown.references f

  none_lent : (p : ℕ) → NoneLentTo p m.frame_states
  none_lent p f is =
      let cpu = lent_to_cpu t m ok rests.past_is.legal f p is in
      let e = one p cpu.0 cpu.1 in
      subst (λ (q : ℕ). NoneLentTo q m.frame_states) e.number e.emptied.none_lent f is

-- the CPUs' own drops count as returns too
drops_join : (a b c k most : ℕ) → min (min (a + b + c) most + k) most ≡ min (a + b + min (c + k) most) most
drops_join a b c k most = omega arith

-- the last visits, from their two rounds
pub all_visits : (t : KnownTable) (l : KnownLocked) (cpus : List CpuInRun) (x : KnownMachine) (rested : List CpuInRun)
    (k : KnownEmptiedBoot)
    → IsQuiet t l → pins_of_all (parts_of cpus) ≡ 0 → k.drops ≡ min (drops_of (parts_of cpus)) max_count
    → ForEachCpu (VisitsUnderLock t SettlesInVisit) l.machine cpus x rested → ForEachCpu (VisitsUnderLock t Empties) x rested k.machine k.cpus
    → MakesLastVisits t l cpus k
all_visits t l cpus x rested k quiet no_pin drops rests empties = record {
  quiet = quiet;
  no_pin = no_pin;
  settled = x;
  settled_cpus = rested;
  settles = rests;
  empties = empties;
  steps = steps_of_visits t SettlesInVisit l.machine cpus x rested rests ++ steps_of_visits t Empties x rested k.machine k.cpus empties;
  steps_are = refl;
  watched = watches_both l.machine.run.watch (steps_of_visits t SettlesInVisit l.machine cpus x rested rests) x.run.watch
      (steps_of_visits t Empties x rested k.machine k.cpus empties) k.machine.run.watch
      (visits_watched t SettlesInVisit l.machine cpus x rested rests) (visits_watched t Empties x rested k.machine k.cpus empties);
  drops = drops;
  so_far = λ earlier so_far.
      let first = visits_go_on t SettlesInVisit l.machine cpus x rested rests [] earlier quiet.rests.past_is.zone_is so_far in
      let one = steps_of_visits t SettlesInVisit l.machine cpus x rested rests in
      let two = steps_of_visits t Empties x rested k.machine k.cpus empties in
      subst (λ (r : Run). IsRunSoFar r (own_past k.machine.run.past) (pasts_of k.cpus)) (append_assoc earlier one two)
      (visits_go_on t Empties x rested k.machine k.cpus empties [] (earlier ++ one) first.0 first.1).1;
}

-- the table is closed
pub all_closes : (t : KnownTable) (k : KnownEmptiedBoot) (a : Audit) (words : List ℕ) → NothingIsLeft t k → AllOf (KnowsItself t) k.cpus → IsConsistent t k.machine
    → IsClosedRun (zone_of_boot t) words (own_past k.machine.run.past ∷ pasts_of k.cpus)
    → (((p : ℕ) → NoneLentTo p k.machine.frame_states) → IsAuditOf t k.machine k.drops a) → Closes t k a
all_closes t k a words nothing knows ok closed tells_then =
    let y = k.machine in
    let rests = nothing.rests in
    let all = nothing.all_emptied in
    let none = none_lent t y k.cpus words ok rests all knows closed in
    let hide_is = hidden t y k.cpus words ok rests all knows closed in
    let tells = tells_then (λ p f is. none p f is) in
    let placed = each_is_placed y.frame_states (λ f p is. none p f is) in
    let sized = ok.sizes.frame_states in
    let free = tells.free in
    let charged = tells.charged in
    let framed = tells.frames in
    record {
      all_emptied = all;
      count = nothing.count;
      none_lent = none;
      words = words;
      end = closed.end;
      no_page = no_page t y k.cpus words ok rests all knows closed;
      last_words = last_words t y k.cpus words ok rests all knows closed;
      zone = rests.past_is.zone_is;
      free = ap (λ (u : State). is_unheld u.hold) hide_is ∙ rests.free;
      left = subst (IsShownBy t y) (sym hide_is) ok.shown;
      counted = tells;
      adds_up = record {
        places = omega (arith, placed, sized, free, charged, framed);
        balances =
            let last_puts = tells.last_puts in
            let freezes = tells.freezes in
            let dropped = tells.drops in
            let returns = tells.returns in
            let balanced = ok.balances in
            rw (last_puts, freezes, dropped, returns, balanced) (drops_join y.counts.last_puts y.counts.freezes y.counts.killed_fresh k.drops max_count);
      };
    }
