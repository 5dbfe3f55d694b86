-- The room for more pages, and the front of a list that is paid for with a page of the CPU's stock. Serves `prove_room` and
-- `take_front`.
use Rattle.std.proofs.Common.{◌≡◌, ℕ, ◌+◌, ◌-◌, ◌*◌, ◌<◌, ◌≤◌, ◌==◌, Bool, true, false, Option, Some, None, List, [], ◌∷◌, ◌++◌, length, zero, suc}
use Rattle.std.proofs.Common.{refl, sym, ap, ◌∙◌, subst, arith, cond}
use Rattle.std.specs.Prelude.{nat_le, nat_lt}
use Rattle.std.proofs.lemmas.Bool.{and_from, false≢true, le-leb}
use Rattle.std.proofs.lemmas.Option.{none-some}
use Rattle.stock_word.specs.declared.stock.Stock.TheVariants.{HeldBy}
use Rattle.stock_word.specs.Stock.{group_of, is_held, stock_pages_of, group_base}
use Rattle.group_charge.specs.Charges.{AreCharges, current_of}
use Rattle.group_tree.specs.{is_in_subtree}
use Rattle.step_rules.specs.declared.phase.Way.TheVariants.{OnList}
use Rattle.step_rules.specs.declared.phase.Phase.TheVariants.{Lent}
use Rattle.step_rules.specs.declared.step.Action.TheVariants.{Consume}
use Rattle.step_rules.specs.declared.step.Answer.TheVariants.{Took}
use Rattle.step_rules.specs.{Part, Zone, front_of, is_cpu, one_if, times, visits, after, consumed, paid, cpu_makes}
use Rattle.step_rules.specs.{IsAnswer, is_legal, IsLocalStep, other_part_seen}
use Rattle.step_rules.specs.State.{State, sum_to}
use Rattle.step_rules.proofs.Basics.{at_each, at_same}
use Rattle.step_rules.proofs.Lists.{front_stands, length_last, times_same}
use Rattle.boot_words.specs.{hide, hide_phase, KnownPasts, MakesStep, MayMake, cpu_past, zone_of_boot, stock_in, stock_said, KnownTable}
use Rattle.cpu_part.specs.{TakesFront, KnownCpuLists, HasOwn}
use Rattle.cpu_part.proofs.Owning.{own_took}
use Rattle.step_watch.specs.Watched.{KnownWatch, Watches}
use Rattle.mem_machine.specs.declared.machine.Machine.TheInside.{Inside}
use Rattle.mem_machine.specs.{frame_state_at, frame_state_group, IsSoundMachine, machine_of, Makes, Visits, local_of, visit_state, KnownMachine}
use Rattle.mem_machine.specs.{IsConsistent, left_by, KnownRun, Records, HasRoomFor, HoldsPage, IsOfSize, PaysForFront}
use Rattle.mem_machine.specs.{take_front_steps}
use Rattle.mem_machine.proofs.Followed.{follows_same}
use Rattle.mem_machine.proofs.Ledgers.{ledger_visit_state}
use Rattle.mem_machine.proofs.Made.{holder_is_cpu, makes_as, one_leads, zone_seen}
use Rattle.mem_machine.proofs.Noted.{notes_one}
use Rattle.mem_machine.proofs.OwnFrames.{HasFrame, listed_own}
use Rattle.mem_machine.proofs.Reaching.{cpu_step}
use Rattle.mem_machine.proofs.Sight.{left_seen, left_then}
use Rattle.mem_machine.proofs.Staying.{sound_same}

-- ---- the room for more

at_most : (n k : ℕ) (h : ℕ → ℕ) → ((i : ℕ) → h i ≤ k) → sum_to n h ≤ n * k
unfolding sum_to
at_most zero k h each = omega arith
at_most (suc n) k h each = let rest = at_most n k h each in let last = each n in omega (arith, rest, last)

one_at_most : (b : Bool) → one_if b ≤ 1
one_at_most true = omega arith
one_at_most false = omega arith

cond_at_most : (b : Bool) (x : ℕ) → cond b x 0 ≤ x
cond_at_most true x = omega arith
cond_at_most false x = omega arith

-- each frame counts once, and each book is below 65,536
usage_small : (t : KnownTable) (m : KnownMachine) → IsConsistent t m → AreCharges m.ledger → (g : ℕ) → current_of m.ledger g ≤ t.frames * 1 + (t.cpus + 1) * 65535
usage_small t m ok charges g =
    let below : Option ℕ → Bool = is_in_subtree m.ledger.groups g in
    let part : ℕ → Part = (left_by t m.run.past).parts in
    let charged = at_most t.frames 1 (λ f. one_if (below (frame_state_group (frame_state_at m.frame_states f))))
    (λ f. one_at_most (below (frame_state_group (frame_state_at m.frame_states f)))) in
    let booked = at_most (t.cpus + 1) 65535 (λ q. cond (below (part q).stock.group) (part q).book 0)
    (λ q. let a = cond_at_most (below (part q).stock.group) (part q).book in let b = ok.shown.bounded q in omega (arith, a, b)) in
    let both = ledger_visit_state t m ok charges g in
    omega (arith, charged, booked, both)

pub room_for : (t : KnownTable) (m now : KnownMachine) → m ≡ now → IsConsistent t m → AreCharges m.ledger → IsOfSize t → (pages : ℕ) → pages < group_base → HasRoomFor now pages
room_for t m now same ok charges size pages few =
    let small = subst (λ (x : KnownMachine). current_of x.ledger 0 ≤ t.frames * 1 + (t.cpus + 1) * 65535) same (usage_small t m ok charges 0) in
    let frames = size.frames in
    let cpus = size.cpus in
    omega (arith, small, frames, cpus, few)

-- ---- a stock that pays

-- a stock that is held has this group and these pages
held_said : (o : Option ℕ) (n : ℕ) (d : Bool) (g k : ℕ) → stock_said o n d ≡ HeldBy g k → (o ≡ Some g) × (n ≡ k) × (d ≡ false)
held_said None n d g k is = absurd (none-some g (ap group_of is))
held_said (Some h) n true g k is = absurd (false≢true (ap is_held is))
held_said (Some h) n false g k is = (ap group_of is, ap stock_pages_of is, refl)

-- what the CPU holds is an answer to its consume
pub pays : (s : State) (p g k : ℕ) → stock_in (s.parts p) ≡ HeldBy g (k + 1) → IsAnswer s p (Consume g) Took
pays s p g k is =
    let stock = (s.parts p).stock in
    let held = held_said stock.group stock.pages stock.is_drained g (k + 1) is in
    let pages = held.1 in
    (held.0, held.2, omega (arith, pages))

-- the page is taken
paid_stock : (part : Part) (g k : ℕ) → stock_in part ≡ HeldBy g (k + 1) → stock_in (paid part) ≡ HeldBy g k
paid_stock part g k is =
    let held = held_said part.stock.group part.stock.pages part.stock.is_drained g (k + 1) is in
    let pages = held.1 in
    let less : part.stock.pages - 1 ≡ k = omega (arith, pages) in
    λ i. stock_said (held.0 i) (less i) (held.2 i)

-- every CPU's own part hidden, nothing changes
consume_hides : (s : State) (p g : ℕ) → s.phases (front_of (s.parts p).list) ≡ Lent p OnList → 1 ≤ (s.parts p).stock.pages → hide (after s p (Consume g) Took) ≡ hide s
consume_hides s p g was some =
    let part = s.parts p in
    let f = front_of part.list in
    let long = length_last f part.fresh in
    let pages : part.stock.pages - 1 + length (paid part).fresh ≡ part.stock.pages + length part.fresh = omega (arith, some, long) in
    let same : other_part_seen (paid part) ≡ other_part_seen part =
    λ i. record (other_part_seen part) { stock = record (part.stock) { pages = pages i } } in
    λ i. record (hide s) {
      phases = λ h. at_each s.phases f (consumed p g) (λ j x. hide_phase x ≡ hide_phase (s.phases j)) (sym (ap hide_phase was)) (λ j ne. refl) h i;
      parts = λ q. at_each s.parts p (paid part) (λ j x. other_part_seen x ≡ other_part_seen (s.parts j)) same (λ j ne. refl) q i;
    }

-- ---- the front that is paid for

module _ (t : KnownTable) (m : KnownMachine) (c : KnownCpuLists) (visit : Visits t m c) (g : ℕ) (page : HoldsPage t m c.number g) (none : c.fresh ≡ [])
    (some : 1 ≤ length c.list) where
  -- the front is on the CPU's list, once
  front_phase : (local_of t m).phases (front_of ((local_of t m).parts c.number).list) ≡ Lent c.number OnList
  front_phase =
      let listed = ap length visit.own.list in
      let stands : 1 ≤ times (front_of ((local_of t m).parts c.number).list) ((local_of t m).parts c.number).list =
      front_stands ((local_of t m).parts c.number).list (omega (arith, listed, some)) in
      (subst (λ (n : ℕ). HasFrame (local_of t m) n (Lent n OnList) (front_of ((local_of t m).parts c.number).list)) visit.who
      (listed_own (zone_of_boot t) (cpu_past m.run.past).seen (cpu_past m.run.past).number visit.held.holds.shows.legal (front_of ((local_of t m).parts c.number).list)
      (subst (λ (n : ℕ). 1 ≤ times (front_of ((local_of t m).parts c.number).list) ((local_of t m).parts n).list) (sym visit.who) stands))).phase_is

  consume_step : IsLocalStep (local_of t m) c.number c.number (Consume g) Took
  consume_step =
      let s = local_of t m in
      let cpu : is_cpu s.zone c.number ≡ true = ap (λ (z : Zone). is_cpu z c.number) (zone_seen t m.run.past)
      ∙ subst (λ (n : ℕ). is_cpu (zone_of_boot t) n ≡ true) visit.who (holder_is_cpu t m.run.past visit.held) in
      let listed : nat_le 1 (length (s.parts c.number).list) ≡ true = ap (λ (l : List ℕ). nat_le 1 (length l)) visit.own.list ∙ le-leb 1 (length c.list) some in
      let short : nat_lt (length (s.parts c.number).fresh) 32 ≡ true = ap (λ (l : List ℕ). nat_lt (length l) 32) (visit.own.fresh ∙ none) in
      let legal : is_legal s c.number (Consume g) ≡ true = and_from _ _ (and_from _ _ cpu listed) short in
      cpu_step s c.number (Consume g) Took refl legal (pays s c.number g page.0 page.1)

  pub front_may : MayMake t m.run.past c.number (Consume g)
  front_may = consume_step.legal

  -- the front is on the list once
  front_once : (f : ℕ) (rest : List ℕ) → c.list ≡ f ∷ rest → times f c.list ≤ 1
  front_once f rest front =
      let s = local_of t m in
      let stands : 1 ≤ times f (s.parts c.number).list = subst (λ (l : List ℕ). 1 ≤ times f l) (sym (visit.own.list ∙ front)) (let a = times_same f in omega (arith, a)) in
      let has = listed_own (zone_of_boot t) (cpu_past m.run.past).seen (cpu_past m.run.past).number visit.held.holds.shows.legal f
      (subst (λ (n : ℕ). 1 ≤ times f (s.parts n).list) (sym visit.who) stands) in
      let one = one_at_most ((cpu_past m.run.past).number == (cpu_past m.run.past).number) in
      let count = ap (λ (n : ℕ). times f (s.parts n).list) (sym visit.who) in
      let own = ap (times f) visit.own.list in
      let listed = has.listed in
      omega (arith, listed, one, count, own)

  module _ (run : KnownRun) (noted : Records t m.run (take_front_steps c.number g) run) where
    front_left : left_by t run.past ≡ left_by t m.run.past
    front_left =
        left_then t m (take_front_steps c.number g) run visit.held noted
        ∙ consume_hides (local_of t m) c.number g front_phase (pays (local_of t m) c.number g page.0 page.1).2
        ∙ sym (left_seen t m.run.past visit.held)

    module _ (f : ℕ) (d : KnownCpuLists) (takes : TakesFront f c d) where
      paid_now : (local_of t (record m { run = run })).parts c.number ≡ paid ((local_of t m).parts c.number)
      paid_now = ap (λ (s : State). s.parts c.number) (noted.grew.sees visit.held) ∙ at_same (local_of t m).parts c.number (paid ((local_of t m).parts c.number))

      number_same : d.number ≡ c.number
      number_same = ap (λ (x : KnownCpuLists). x.number) takes.2

      front_pays : PaysForFront t g f (visit_state m c) (visit_state (record m { run = run }) d)
      front_pays = record {
        takes = takes;
        page = λ more is. ap (λ (n : ℕ). stock_in ((local_of t (record m { run = run })).parts n)) number_same
            ∙ ap stock_in paid_now ∙ paid_stock ((local_of t m).parts c.number) g more is;
        machine = refl;
        left = front_left;
      }

      front_visit : Visits t (record m { run = run }) d
      front_visit =
          let later = sym (noted.grew.sees visit.held) in
          let own = own_took (local_of t m) c visit.own g f takes.0 (c.fresh ++ f ∷ []) takes.1 refl (front_once f takes.0 takes.1) in
          subst (λ (x : KnownCpuLists). Visits t (record m { run = run }) x) (sym takes.2) (record {
            held = noted.grew.held visit.held;
            who = noted.grew.holder visit.held ∙ visit.who;
            is_open = subst (λ (s : State). visits c.number s.hold ≡ true) later visit.is_open;
            own = subst (λ (s : State). HasOwn s (record c { list = takes.0; fresh = c.fresh ++ f ∷ [] })) later own;
          })

      front_makes : Makes t m (take_front_steps c.number g) (record m { run = run })
      front_makes = makes_as t m (record m { run = run }) c.number (take_front_steps c.number g) visit.held visit.who noted
          (one_leads c.number (local_of t m) (cpu_makes c.number (Consume g) Took) consume_step) (follows_same (local_of t m) m.ledger (take_front_steps c.number g) refl) refl

-- all of it, of the machine as it was seen before
pub record FrontPaid (t : KnownTable) (now : KnownMachine) (g f : ℕ) (c : KnownCpuLists) (n : KnownMachine) (d : KnownCpuLists) : Type 0 where
  pub pays : PaysForFront t g f (visit_state now c) (visit_state n d)
  pub visit : Visits t n d
  pub steps : Makes t now (take_front_steps c.number g) n

pub front_paid : (t : KnownTable) (m now : KnownMachine) → m ≡ now → (c : KnownCpuLists) → Visits t now c → (g f : ℕ) → HoldsPage t now c.number g → c.fresh ≡ []
    → 1 ≤ length c.list → (d : KnownCpuLists) → TakesFront f c d → (run : KnownRun) → Records t m.run (take_front_steps c.number g) run → FrontPaid t now g f c (record m { run = run }) d
front_paid t m now same c visit_now g f page_now none some d takes run noted =
    let visit : Visits t m c = subst (λ (x : KnownMachine). Visits t x c) (sym same) visit_now in
    let page : HoldsPage t m c.number g = subst (λ (x : KnownMachine). HoldsPage t x c.number g) (sym same) page_now in
    subst (λ (x : KnownMachine). FrontPaid t x g f c (record m { run = run }) d) same (record {
      pays = front_pays t m c visit g page none some run noted f d takes;
      visit = front_visit t m c visit g page none some run noted f d takes;
      steps = front_makes t m c visit g page none some run noted f d takes;
    })

-- the step as it was made
pub front_noted : (t : KnownTable) (run : KnownRun) (p g n h : ℕ) → n ≡ p → h ≡ g → (later : KnownPasts) (watch : KnownWatch) → MakesStep t run.past p (Consume h) Took later
    → Watches run.watch (cpu_makes n (Consume g) Took ∷ []) watch → Records t run (take_front_steps p g) (record { past = later; watch = watch })
front_noted t run p g n h number group later watch made saw =
    notes_one t run (cpu_makes p (Consume g) Took) (record { past = later; watch = watch })
    (subst (λ (k : ℕ). MakesStep t run.past p (Consume k) Took later) group made)
    (subst (λ (k : ℕ). Watches run.watch (cpu_makes k (Consume g) Took ∷ []) watch) number saw)

-- the fields after it
pub front_sound : {N : Type 0} (t : KnownTable) (fields : Inside N) → IsSoundMachine t fields → (now : KnownMachine) → machine_of fields ≡ now → (c : KnownCpuLists) → Visits t now c
    → (g : ℕ) → HoldsPage t now c.number g → c.fresh ≡ [] → 1 ≤ length c.list → (run : KnownRun) → Records t (machine_of fields).run (take_front_steps c.number g) run
    → IsSoundMachine {N = N} t (record fields { past = run.past; watch = run.watch })
front_sound {N} t fields ok now same c visit g page none some run noted =
    sound_same t fields ok run (front_left t (machine_of fields) c (subst (λ (x : KnownMachine). Visits t x c) (sym same) visit) g
    (subst (λ (x : KnownMachine). HoldsPage t x c.number g) (sym same) page) none some run noted)
