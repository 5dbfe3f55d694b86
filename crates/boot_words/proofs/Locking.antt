-- A load makes the step of Lock, or that of Unlock.
use Rattle.std.proofs.Common.{[], ◌≡◌, ◌≢◌, ℕ, ◌+◌, ◌≤◌, ◌==◌, ◌&&◌, ◌||◌, Bool, true, false, List, ◌∷◌, ◌++◌, length, cond, refl, ap, sym, ◌∙◌, subst, arith, inl, inr, eq-eqb}
use Rattle.std.specs.Prelude.{slice_index, not}
use Rattle.std.proofs.lemmas.Bool.{or_left}
use Rattle.atomic_table.specs.Table.{keeps}
use Rattle.stock_word.specs.declared.stock.Stock.{Stock}
use Rattle.stock_word.specs.{HasWord, word_of, stock_index}
use Rattle.step_rules.specs.declared.phase.Hold.TheVariants.{HeldBy, Unheld}
use Rattle.step_rules.specs.declared.step.Step.{Step}
use Rattle.step_rules.specs.declared.step.Action.TheVariants.{Lock, Unlock}
use Rattle.step_rules.specs.declared.step.Answer.{Answer}
use Rattle.step_rules.specs.declared.step.Answer.TheVariants.{Done}
use Rattle.step_rules.specs.{is_passing, Zone, Part, all_to, is_cpu, is_held_by, is_unheld, Allows, is_legal, no_page_pends, state_of, holds_lock}
use Rattle.step_rules.specs.{other_part_seen, references_seen_by, seen_by}
use Rattle.step_rules.specs.State.{State}
use Rattle.step_rules.proofs.CoverParts.{part_seen}
use Rattle.step_rules.proofs.CoverPhases.{seen_through}
use Rattle.step_rules.proofs.Freeing.{zone_of_run}
use Rattle.step_rules.proofs.LegalTests.{unlock_tests}
use Rattle.step_rules.proofs.Runs.{legal_more, state_more}
use Rattle.step_rules.proofs.SoundSteps.{cpu_range}
use Rattle.boot_words.specs.{OthersFollow, GrewBy, IsLegalLater, stock_in, hide, hide_phase, zone_references, HasSameLists, AllOf, BeginsRun}
use Rattle.boot_words.specs.{HoldsLock, local_seen, LeavesFree, KnownPasts, IsCpuPast, IsHeld, IsHolder, IsZonePast, MayMake, Unlocks, cpu_past}
use Rattle.boot_words.specs.{local_by_pasts, first_past, own_past, second_past, zone_of_boot, MayChange, first_alone, rest_of, IsAwayCpu, KnownTable}
use Rattle.boot_words.proofs.StockSteps.{stock_is_at, stock_low}
use Rattle.boot_words.specs.declared.past.Past.{Past}
use Rattle.boot_words.specs.Pasts.{Locks}
use Rattle.boot_words.proofs.Grown.{grown, grown_legal}
use Rattle.boot_words.proofs.Owning.{lists_are_own}
use Rattle.boot_words.proofs.Resting.{zone_rests}
use Rattle.boot_words.proofs.Each.{all_at}
use Rattle.boot_words.proofs.HolderSteps.{same_seen}
use Rattle.boot_words.specs.declared.word.Word.TheVariants.{AlwaysZero, StockOf}
use Rattle.boot_words.proofs.Growing.{free_holder, past_of_run}
use Rattle.boot_words.proofs.UnderLock.{fits_both, only_holder, plain_step, shows_end, stands_at}

-- after the step of Lock
pub record Takes (zone : Zone) (z c : Past) (found : ℕ) (later : List Past) : Type 0 where
  pub zone_past : Past
  pub cpu_past : Past
  pub later_is : later ≡ zone_past ∷ cpu_past ∷ []
  pub zone_grew : GrewBy z (record { seat = c.number; action = Lock }) Done zone_past
  pub cpu_grew : GrewBy c (record { seat = c.number; action = Lock }) Done cpu_past
  pub holds : HoldsLock zone zone_past cpu_past (local_seen zone cpu_past)
  pub found_state : hide (state_of zone zone_past.seen) ≡ record (hide (state_of zone z.seen)) { hold = HeldBy c.number }
  pub own : HasSameLists c.number (state_of zone c.seen) (state_of zone cpu_past.seen)

pub not_none : (zone : Zone) (cpu : ℕ) → is_cpu zone cpu ≡ true → cpu ≢ 0
not_none zone cpu is none = let range = cpu_range zone cpu is in let low = range.0 in absurd (omega (arith, low, none))

pub in_range : (zone : Zone) (cpu : ℕ) → 1 ≤ cpu → cpu ≤ zone.cpus → is_cpu zone cpu ≡ true
in_range zone cpu low high = grind arith

may_lock : (zone : Zone) (z c : Past) → z.number ≡ 0 → is_cpu zone c.number ≡ true → LeavesFree zone z → MayChange zone (z ∷ c ∷ []) AlwaysZero (λ n. n) (Takes zone z c)
may_lock zone z c zone_is cpu free id s k homes at small =
    let q = c.number in
    let all = all_at (AllOf (BeginsRun zone k.run)) s.views id (z ∷ c ∷ []) at k.fits in
    let zone_fits : OthersFollow z.number z.seen k.run = all.0.goes in
    let fits : OthersFollow q c.seen k.run = all.1.0.goes in
    let made_step : Step = record { seat = q; action = Lock } in
    let e : Step × Answer = (made_step, Done) in
    let state = state_of zone k.run in
    let rests : hide state ≡ hide (state_of zone z.seen) = zone_rests zone k.run z k.is.legal (past_of_run zone k.run z all.0) zone_is free in
    let free_now : is_unheld state.hold ≡ true = ap (λ (t : State). is_unheld t.hold) rests ∙ free in
    let is_one : is_cpu state.zone q ≡ true = ap (λ (y : Zone). is_cpu y q) (zone_of_run zone k.run) ∙ cpu in
    let legal : is_legal state q Lock ≡ true = (λ i. is_one i && free_now i) in
    let ok : Allows state q Lock Done = record { legal = legal; answered = tt; counted = tt } in
    let ne = not_none zone q cpu in
    let held : State = record state { hold = HeldBy q } in
    let more : state_of zone (k.run ++ e ∷ []) ≡ held = state_more zone k.run made_step Done in
    let zone_past = grown z zone_fits.rest e in
    let cpu_past = grown c fits.rest e in
    let by_zone : state_of zone zone_past.seen ≡ held = ap (λ r. state_of zone (r ++ e ∷ [])) (sym zone_fits.is) ∙ more in
    let by_cpu : state_of zone cpu_past.seen ≡ held = ap (λ r. state_of zone (r ++ e ∷ [])) (sym fits.is) ∙ more in
    let lists = lists_are_own zone c.seen k.run q ne fits in (
      zone_past ∷ cpu_past ∷ [],
      keeps,
      tt,
      plain_step zone s k id 0 z c made_step Done zone_is (inr refl) at (λ p holds. absurd (free_holder state.hold p free_now holds)) zone_fits fits tt ok,
      (
        refl,
        record {
          zone_past = zone_past;
          cpu_past = cpu_past;
          later_is = refl;
          zone_grew = record { between = zone_fits.rest; others = zone_fits.others; number = refl; seen = refl };
          cpu_grew = record { between = fits.rest; others = fits.others; number = refl; seen = refl };
          holds = record {
            zone_is = zone_is;
            cpu_is = ne;
            same = same_seen z c k.run e zone_fits fits;
            shows = record {
              legal = grown_legal zone k.run c e fits (legal_more zone k.run made_step Done k.is.legal ok);
              holds = ap (λ (t : State). holds_lock q t.hold) by_cpu ∙ or_left (q == q) false (eq-eqb q q refl);
              sees = refl;
            };
          };
          found_state = ap hide by_zone ∙ ap (λ (t : State). record t { hold = HeldBy q }) rests;
          own = subst (λ t. HasSameLists q (state_of zone c.seen) t) (sym by_cpu)
              (record { list = lists.list; fresh = lists.fresh; back = lists.back; references = lists.references });
        },
      ),
    )

-- after the step of Unlock
pub record Releases (zone : Zone) (z c : Past) (found : ℕ) (later : List Past) : Type 0 where
  pub zone_past : Past
  pub cpu_past : Past
  pub later_is : later ≡ zone_past ∷ cpu_past ∷ []
  pub zone_grew : GrewBy z (record { seat = c.number; action = Unlock }) Done zone_past
  pub cpu_grew : GrewBy c (record { seat = c.number; action = Unlock }) Done cpu_past
  pub same : zone_past.seen ≡ cpu_past.seen
  pub legal : IsLegalLater zone z zone_past × IsLegalLater zone c cpu_past
  pub low : 1 ≤ c.number
  pub high : c.number ≤ zone.cpus
  pub free : LeavesFree zone zone_past
  pub stock : HasWord (stock_in ((state_of zone cpu_past.seen).parts c.number)) × (found ≡ word_of (stock_in ((state_of zone cpu_past.seen).parts c.number)))
  pub away : holds_lock c.number (state_of zone cpu_past.seen).hold ≡ false
  pub left : hide (state_of zone zone_past.seen) ≡ hide (record (local_seen zone c) { hold = Unheld })

-- ---- hiding what a CPU sees from the others hides what is hidden of the whole state
twice_seen : (part : Part) → other_part_seen (other_part_seen part) ≡ other_part_seen part
twice_seen part =
    let e : part.stock.pages + length part.fresh + 0 ≡ part.stock.pages + length part.fresh = omega arith in
    ap (λ (n : ℕ). record (other_part_seen part) { stock = record (part.stock) { pages = n } }) e

zone_seen : (p : ℕ) (references : ℕ → ℕ → ℕ) (seat f : ℕ) → zone_references (references_seen_by p references) seat f ≡ zone_references references seat f
zone_seen p references seat f = by (seat == 0) (seat == p)
  where
    by : (a b : Bool) → cond a (cond (a || b) (references seat f) 0) 0 ≡ cond a (references seat f) 0
    by true b = refl
    by false b = refl

hide_seen : (p : ℕ) (s : State) → hide (seen_by p s) ≡ hide s
hide_seen p s i = record s {
  phases = λ f. seen_through hide_phase p (λ u r. refl) (λ u r. refl) (s.phases f) i;
  references = λ seat f. zone_seen p s.references seat f i;
  parts = λ cpu. part_seen other_part_seen twice_seen p s.parts cpu i;
}

unlock_seen : (p : ℕ) (s : State) → is_legal (seen_by p s) p Unlock ≡ is_legal s p Unlock
unlock_seen p s i = is_cpu s.zone p && is_held_by p s.hold && no_page_pends s
    && all_to s.zone.frames (λ f. not (seen_through is_passing p (λ u r. refl) (λ u r. refl) (s.phases f) i))

may_unlock : (zone : Zone) (z c : Past) → HoldsLock zone z c (local_seen zone c) → is_legal (local_seen zone c) c.number Unlock ≡ true
    → MayChange zone (z ∷ c ∷ []) (StockOf c.number) (λ n. n) (Releases zone z c)
may_unlock zone z c holds legal id s k homes at small =
    let q = c.number in
    let j = stock_index q in
    let local = local_seen zone c in
    let st = stands_at zone s k id z c at holds in
    let fit = fits_both zone s.words s.views id z c st in
    let made_step : Step = record { seat = q; action = Unlock } in
    let e : Step × Answer = (made_step, Done) in
    let state = state_of zone k.run in
    let shows = shows_end zone s.words s.views id z c st in
    let legal_now : is_legal state q Unlock ≡ true = sym (unlock_seen q state) ∙ sym (ap (λ (l : State). is_legal l q Unlock) shows.sees) ∙ legal in
    let ok : Allows state q Unlock Done = record { legal = legal_now; answered = tt; counted = tt } in
    let longer = legal_more zone k.run made_step Done k.is.legal ok in
    let range = cpu_range zone q (ap (λ (y : Zone). is_cpu y q) (sym (zone_of_run zone k.run)) ∙ (unlock_tests state q legal_now).0) in
    let zone_past = grown z fit.0.rest e in
    let cpu_past = grown c fit.1.rest e in
    let by_zone : state_of zone zone_past.seen ≡ record state { hold = Unheld } =
    ap (λ r. state_of zone (r ++ e ∷ [])) (sym fit.0.is) ∙ state_more zone k.run made_step Done in
    let by_cpu : state_of zone cpu_past.seen ≡ record state { hold = Unheld } =
    ap (λ r. state_of zone (r ++ e ∷ [])) (sym fit.1.is) ∙ state_more zone k.run made_step Done in
    let within : q ≤ state.zone.cpus = subst (λ y. q ≤ y.cpus) (sym (zone_of_run zone k.run)) range.1 in
    let word : slice_index s.words j ≡ word_of (stock_in (state.parts q)) =
    sym ((stock_is_at zone j (stock_low zone q range.1)).reads s.words) ∙ k.is.stocks.stock q range.0 within in (
      zone_past ∷ cpu_past ∷ [],
      keeps,
      tt,
      plain_step zone s k id j z c made_step Done holds.zone_is (inr refl) at (only_holder zone s.words s.views id z c st) fit.0 fit.1 tt ok,
      (
        refl,
        record {
          zone_past = zone_past;
          cpu_past = cpu_past;
          later_is = refl;
          zone_grew = record { between = fit.0.rest; others = fit.0.others; number = refl; seen = refl };
          cpu_grew = record { between = fit.1.rest; others = fit.1.others; number = refl; seen = refl };
          same = same_seen z c k.run e fit.0 fit.1;
          legal = (record { number = refl; legal = grown_legal zone k.run z e fit.0 longer }, record { number = refl; legal = grown_legal zone k.run c e fit.1 longer });
          low = range.0;
          high = range.1;
          free = ap (λ (t : State). is_unheld t.hold) by_zone;
          stock = subst (λ (t : State). HasWord (stock_in (t.parts q)) × (slice_index s.words j ≡ word_of (stock_in (t.parts q)))) (sym by_cpu) (k.is.stocks.has_word q range.0 within, word);
          away = ap (λ (t : State). holds_lock q t.hold) by_cpu;
          left = ap hide by_zone ∙ ap (λ (t : State). record t { hold = Unheld }) (sym (hide_seen q state) ∙ ap hide (sym shows.sees));
        },
      ),
    )

-- ---- to the contracts of lock and unlock
pub locks : (t : KnownTable) (z c s : KnownPasts) → IsZonePast t z → IsCpuPast t c → LeavesFree (zone_of_boot t) (own_past z) → s.pasts ≡ z.pasts ++ c.pasts
    → MayChange (zone_of_boot t) s.pasts AlwaysZero (λ n. n) (Takes (zone_of_boot t) (own_past s) (cpu_past s))
locks t z c s zone cpu free is =
    let table = zone_of_boot t in
    subst (λ (l : List Past). MayChange table l AlwaysZero (λ n. n) (Takes table (first_past l) (second_past l))) (sym (is ∙ (λ i. zone.alone i ++ cpu.alone i)))
    (may_lock table (own_past z) (own_past c) zone.zone_is (in_range table (own_past c).number cpu.low cpu.high) free)

pub locked : (t : KnownTable) (z c s : KnownPasts) (found : ℕ) → s.table ≡ t.table → Takes (zone_of_boot t) (own_past z) (own_past c) found s.pasts → Locks t z c s
locked t z c s found table m =
    subst (λ (l : List Past). Locks t z c (record { table = s.table; pasts = l })) (sym m.later_is) (record {
      zone_grew = m.zone_grew;
      cpu_grew = m.cpu_grew;
      held = record { table_is = table; both = refl; holds = m.holds };
      found = m.found_state;
      own = m.own;
    })

pub unlocks : (t : KnownTable) (s : KnownPasts) (cpu : ℕ) → IsHeld t s → IsHolder s cpu → MayMake t s cpu Unlock
    → MayChange (zone_of_boot t) s.pasts (StockOf cpu) (λ n. n) (Releases (zone_of_boot t) (own_past s) (cpu_past s))
unlocks t s cpu is holder legal =
    let table = zone_of_boot t in
    subst (λ (y : ℕ × List Past). MayChange table y.1 (StockOf y.0) (λ n. n) (Releases table (own_past s) (cpu_past s))) (λ i. (sym holder i, sym is.both i))
    (may_unlock table (own_past s) (cpu_past s) is.holds (subst (λ q. is_legal (local_by_pasts t s) q Unlock ≡ true) holder legal))

pub cpu_of_unlock : (t : KnownTable) (s : KnownPasts) (cpu : ℕ) → MayMake t s cpu Unlock → cpu ≤ t.cpus
cpu_of_unlock t s cpu legal =
    (cpu_range (zone_of_boot t) cpu (ap (λ y. is_cpu y cpu) (sym (zone_of_run (zone_of_boot t) (cpu_past s).seen)) ∙ (unlock_tests (local_by_pasts t s) cpu legal).0)).1

pub unlocked : (t : KnownTable) (s z c : KnownPasts) (pasts : List Past) (found : ℕ) → IsHeld t s → Releases (zone_of_boot t) (own_past s) (cpu_past s) found pasts
    → z ≡ record { table = t.table; pasts = first_alone pasts } → c ≡ record { table = t.table; pasts = rest_of pasts } → Unlocks t s z c
unlocked t s z c pasts found is m zone cpu =
    let number_zone : m.zone_past.number ≡ 0 = m.legal.0.number ∙ is.holds.zone_is in
    subst (λ (y : KnownPasts × KnownPasts). Unlocks t s y.0 y.1)
    (λ i. (sym zone i, sym cpu i))
    (subst (λ (l : List Past). Unlocks t s (record { table = t.table; pasts = first_alone l }) (record { table = t.table; pasts = rest_of l })) (sym m.later_is) (record {
      zone_grew = m.zone_grew;
      cpu_grew = m.cpu_grew;
      zone_is = record { table_is = refl; alone = refl; zone_is = number_zone; legal = m.legal.0.legal };
      cpu_is = record {
        table_is = refl;
        alone = refl;
        low = subst (λ n. 1 ≤ n) (sym m.legal.1.number) m.low;
        high = subst (λ n. n ≤ t.cpus) (sym m.legal.1.number) m.high;
        legal = m.legal.1.legal;
      };
      same = m.same;
      free = m.free;
      left = m.left;
    }))

-- the CPU has its past back, and saw its stock
pub released : (t : KnownTable) (s c : KnownPasts) (pasts : List Past) (found cpu : ℕ) (last : Stock) → IsHeld t s → IsHolder s cpu → Releases (zone_of_boot t) (own_past s) (cpu_past s) found pasts
    → c ≡ record { table = t.table; pasts = rest_of pasts } → ((stock : Stock) → HasWord stock → found ≡ word_of stock → last ≡ stock)
    → IsAwayCpu t (record { past = c; number = cpu; last = last })
released t s c pasts found cpu last is holder m cpu_is decodes =
    let left = unlocked t s (record { table = t.table; pasts = first_alone pasts }) c pasts found is m refl cpu_is in
    let past : own_past c ≡ m.cpu_past = ap own_past cpu_is ∙ ap (λ l. first_past (rest_of l)) m.later_is in
    let stock = stock_in ((state_of (zone_of_boot t) m.cpu_past.seen).parts (cpu_past s).number) in
    let saw : last ≡ stock = decodes stock m.stock.0 m.stock.1 in record {
      past = left.cpu_is;
      number = holder ∙ sym (ap (λ (p : Past). p.number) past ∙ m.legal.1.number);
      away = subst (λ (y : Past × ℕ). holds_lock y.1 (state_of (zone_of_boot t) y.0.seen).hold ≡ false) (λ i. (sym past i, sym holder i)) m.away;
      last = inl (subst (λ (y : Past × ℕ). stock_in ((state_of (zone_of_boot t) y.0.seen).parts y.1) ≡ last) (λ i. (sym past i, sym holder i)) (sym saw));
      has_word = subst HasWord (sym saw) m.stock.0;
    }
