-- What two rounds of meetings show of all pasts together. Serves `survey`, `meet_each`.
use Rattle.std.proofs.Common.{◌≡◌, ◌∙◌, ℕ, zero, suc, ◌≤◌, Some, List, [], ◌∷◌, ◌++◌, ◌||◌, length, get_or, inl, inr, refl, ap, sym, subst, true, arith, append_assoc}
use Rattle.std.specs.Prelude.{slice_get}
use Rattle.std.proofs.lemmas.Bool.{and_parts, cases_Bool, eqb-true, leb-true, true≢false}
use Rattle.std.proofs.lemmas.List.{append_cancel_left, length-map}
use Rattle.std.proofs.lemmas.Option.{get_or_from_slice_get, slice_get-get_or}
use Rattle.step_rules.specs.declared.phase.Hold.{Hold}
use Rattle.step_rules.specs.{Zone, is_cpu, may_zone_act, Run, state_of, IsLegalRun}
use Rattle.step_rules.proofs.Answering.{only_seats_act}
use Rattle.step_rules.proofs.PhaseLemmas.{none_some}
use Rattle.step_rules.proofs.Runs.{legal_more}
use Rattle.boot_words.specs.declared.past.Past.{Past}
use Rattle.boot_words.specs.{AreChangesOf, HasInOrder, IsRunSoFar, SeesMore, changes_nothing, changes_of, IsZonePast, own_past, AllOf, IsPastOf}
use Rattle.boot_words.specs.{HasNoStepOf, zone_of_boot, KnownTable}
use Rattle.boot_words.proofs.Gaining.{sees_changes, sees_in_order, the_run_so_far_is_legal}
use Rattle.boot_words.proofs.Holding.{allowed_at, append_none}
use Rattle.boot_words.proofs.Ordered.{IsSeatOfChange, has_behind, only_quiet_are_left_out, others_add_none}
use Rattle.mem_machine.specs.{KnownMachine, with_past}
use Rattle.mem_system.specs.{CpuInRun, parts_of, pasts_of, ForEachCpu}
use Rattle.script_replay.specs.Lines.{SystemState}
use Rattle.script_replay.proofs.Growing.{none_both, sees_both}
use Rattle.load_run.specs.Survey.{AreNumbered, HasPast, HasSeen, MeetsZone, SeesAllPasts, lasts_of}

-- ---- steps of others

none_parts : (seat : ℕ) (xs ys : Run) → HasNoStepOf seat (xs ++ ys) → HasNoStepOf seat xs × HasNoStepOf seat ys
none_parts seat [] ys none = (tt, none)
none_parts seat (e ∷ xs) ys none = let rest = none_parts seat xs ys none.1 in ((none.0, rest.0), rest.1)

-- a run that begins with a past begins with the one before
begins_before : (a b : Past) (run : Run) → SeesMore a b → HasPast run b → HasPast run a
begins_before a b run more goes = record {
  rest = more.between ++ goes.rest;
  is = goes.is ∙ ap (λ (r : Run). r ++ goes.rest) more.seen ∙ append_assoc a.seen more.between goes.rest;
  others = none_both a.number more.between goes.rest more.others (subst (λ (n : ℕ). HasNoStepOf n goes.rest) more.number goes.others);
}

-- ---- lists

pub at_index : {A : Type 0} (P : A → Type 0) (xs : List A) (k : ℕ) (x : A) → AllOf P xs → slice_get xs k ≡ Some x → P x
at_index P [] k x all at = absurd (none_some x at)
at_index P (y ∷ xs) zero x all at = subst P (get_or_from_slice_get (y ∷ xs) 0 x y at) all.0
at_index P (y ∷ xs) (suc k) x all at = at_index P xs k x all.1 at

-- ---- a legal run without steps that change nothing

low_seat : (zone : Zone) (hold : Hold) (seat : ℕ) → (is_cpu zone seat || may_zone_act hold seat) ≡ true → seat ≤ zone.cpus
low_seat zone hold seat acts = elim (cases_Bool (is_cpu zone seat)) [
  | inl cpu ↦ leb-true seat zone.cpus (and_parts _ _ cpu).1
  | inr none ↦ let is_zone = eqb-true seat 0 (and_parts _ _ (ap (λ b. b || may_zone_act hold seat) (sym none) ∙ acts)).0 in omega (arith, is_zone)
]

seats_of : (zone : Zone) (before run : Run) → IsLegalRun zone before → IsLegalRun zone (before ++ run) → AllOf (IsSeatOfChange zone.cpus) run
seats_of zone before [] so_far legal = tt
seats_of zone before (e ∷ run) so_far legal =
    let ok = allowed_at zone before e run legal in
    let here : IsSeatOfChange zone.cpus e = λ loud. low_seat zone (state_of zone before).hold e.0.seat
    (only_seats_act zone before so_far e.0.seat e.0.action e.1 ok (λ illegal. true≢false (sym (ap changes_nothing illegal) ∙ loud))) in (
      here,
      seats_of zone (before ++ e ∷ []) run (legal_more zone before e.0 e.1 so_far ok)
          (subst (IsLegalRun zone) (sym (append_assoc before (e ∷ []) run)) legal),
    )

-- the run so far is what the zone has seen, if that has all pasts as beginnings
are_changes : (zone : Zone) (steps : Run) (z : Past) (cpus : List Past) → IsLegalRun zone z.seen → length cpus ≡ zone.cpus → AllOf (IsPastOf z.seen) cpus
    → IsRunSoFar steps z cpus → AreChangesOf z.seen steps
are_changes zone steps z cpus legal count pasts so_far =
    only_quiet_are_left_out zone.cpus z.seen steps (seats_of zone [] z.seen (λ k. tt) legal) so_far.in_order same
  where
    same : (seat : ℕ) → seat ≤ zone.cpus → changes_of seat z.seen ≡ changes_of seat steps
    same zero below = so_far.of_zone
    same (suc index) below =
        let p = get_or cpus index z in
        let at : slice_get cpus index ≡ Some p = slice_get-get_or cpus index z (omega (arith, below, count)) in
        let goes = (at_index (IsPastOf z.seen) cpus index p pasts at).goes in
        ap (changes_of (suc index)) goes.is
        ∙ others_add_none (suc index) p.seen goes.rest (subst (λ (n : ℕ). HasNoStepOf n goes.rest) (so_far.number index p at) goes.others)
        ∙ so_far.of_cpu index p at

-- ---- a run that all have seen

in_own_order : (run : Run) → HasInOrder run run
in_own_order [] = refl
in_own_order (e ∷ run) = inr (run, refl, in_own_order run)

seen_changes : (run : Run) (p : Past) (seat : ℕ) → HasSeen run p → p.number ≡ seat → changes_of seat p.seen ≡ changes_of seat run
seen_changes run p seat has is =
    ap (changes_of seat) has.is ∙ others_add_none seat run has.rest (subst (λ (n : ℕ). HasNoStepOf n has.rest) is has.others)

-- it is the run so far
seen_run : (run : Run) (z : Past) (cpus : List Past) → AllOf (HasSeen run) (z ∷ cpus) → z.number ≡ 0 → AreNumbered cpus → IsRunSoFar run z cpus
seen_run run z cpus seen is_zone numbers = record {
  in_order = subst (λ (r : Run). HasInOrder r run) (sym (seen.0).is) (has_behind run run (seen.0).rest (in_own_order run));
  of_zone = seen_changes run z 0 seen.0 is_zone;
  number = numbers;
  of_cpu = λ index p at. seen_changes run p (suc index) (at_index (HasSeen run) cpus index p seen.1 at) (numbers index p at);
}

-- ---- a round of meetings

module _ (t : KnownTable) where
  abbrev Round : (m : KnownMachine) (cpus : List CpuInRun) (n : KnownMachine) (left : List CpuInRun) → Type 0
  Round m cpus n left = ForEachCpu (MeetsZone t) m cpus n left

  zone_sees : (m : KnownMachine) (cpus : List CpuInRun) (n : KnownMachine) (left : List CpuInRun) → Round m cpus n left
      → SeesMore (own_past m.run.past) (own_past n.run.past)
  zone_sees m [] n [] same = subst (λ (x : KnownMachine). SeesMore (own_past m.run.past) (own_past x.run.past)) (sym same)
      (record { between = []; others = tt; number = refl; seen = sym (append_none (own_past m.run.past).seen) })
  zone_sees m [] n (d ∷ left) round = absurd round
  zone_sees m (c ∷ cpus) n [] round = absurd round
  zone_sees m (c ∷ cpus) n (d ∷ left) round =
      sees_both (own_past m.run.past) (own_past round.between.run.past) (own_past n.run.past) round.first.meets.zone_sees (zone_sees round.between cpus n left round.rest)

  cpu_sees : (m : KnownMachine) (cpus : List CpuInRun) (n : KnownMachine) (left : List CpuInRun) → Round m cpus n left → (index : ℕ) (q : Past)
      → slice_get (pasts_of left) index ≡ Some q → (p : Past) × (slice_get (pasts_of cpus) index ≡ Some p) × SeesMore p q
  cpu_sees m [] n [] round index q at = absurd (none_some q at)
  cpu_sees m [] n (d ∷ left) round index q at = absurd round
  cpu_sees m (c ∷ cpus) n [] round index q at = absurd round
  cpu_sees m (c ∷ cpus) n (d ∷ left) round zero q at =
      (own_past c.past, refl, subst (SeesMore (own_past c.past)) (get_or_from_slice_get (pasts_of (d ∷ left)) 0 q (own_past d.past) at) round.first.meets.cpu_sees)
  cpu_sees m (c ∷ cpus) n (d ∷ left) round (suc index) q at = cpu_sees round.between cpus n left round.rest index q at

  stays_numbered : (m : KnownMachine) (cpus : List CpuInRun) (n : KnownMachine) (left : List CpuInRun) → Round m cpus n left → AreNumbered (pasts_of cpus)
      → AreNumbered (pasts_of left)
  stays_numbered m cpus n left round numbers index q at =
      let p = cpu_sees m cpus n left round index q at in p.2.number ∙ numbers index p.0 p.1

  -- nothing but pasts has changed
  same_machine : (m : KnownMachine) (cpus : List CpuInRun) (n : KnownMachine) (left : List CpuInRun) → Round m cpus n left → n ≡ with_past m n.run.past
  same_machine m [] n [] same = subst (λ (x : KnownMachine). x ≡ with_past m x.run.past) (sym same) refl
  same_machine m [] n (d ∷ left) round = absurd round
  same_machine m (c ∷ cpus) n [] round = absurd round
  same_machine m (c ∷ cpus) n (d ∷ left) round =
      same_machine round.between cpus n left round.rest ∙ ap (λ (x : KnownMachine). with_past x n.run.past) round.first.machine

  same_parts : (m : KnownMachine) (cpus : List CpuInRun) (n : KnownMachine) (left : List CpuInRun) → Round m cpus n left → parts_of left ≡ parts_of cpus
  same_parts m [] n [] round = refl
  same_parts m [] n (d ∷ left) round = absurd round
  same_parts m (c ∷ cpus) n [] round = absurd round
  same_parts m (c ∷ cpus) n (d ∷ left) round = λ i. round.first.part i ∷ same_parts round.between cpus n left round.rest i

  same_lasts : (m : KnownMachine) (cpus : List CpuInRun) (n : KnownMachine) (left : List CpuInRun) → Round m cpus n left → lasts_of left ≡ lasts_of cpus
  same_lasts m [] n [] round = refl
  same_lasts m [] n (d ∷ left) round = absurd round
  same_lasts m (c ∷ cpus) n [] round = absurd round
  same_lasts m (c ∷ cpus) n (d ∷ left) round = λ i. round.first.last i ∷ same_lasts round.between cpus n left round.rest i

  -- the run so far is still the run so far
  round_goes_on : (steps : Run) (m : KnownMachine) (cpus : List CpuInRun) (n : KnownMachine) (left : List CpuInRun) → Round m cpus n left
      → (own_past m.run.past).number ≡ 0 → IsRunSoFar steps (own_past m.run.past) (pasts_of cpus) → IsRunSoFar steps (own_past n.run.past) (pasts_of left)
  round_goes_on steps m cpus n left round is_zone so_far =
      let z = own_past m.run.past in
      let z' = own_past n.run.past in
      let zone = zone_sees m cpus n left round in
      record {
        in_order = sees_in_order z z' steps zone so_far.in_order;
        of_zone = subst (λ (k : ℕ). changes_of k z'.seen ≡ changes_of k z.seen) is_zone (sees_changes z z' zone) ∙ so_far.of_zone;
        number = stays_numbered m cpus n left round so_far.number;
        of_cpu = λ index q at.
            let p = cpu_sees m cpus n left round index q at in
            subst (λ (k : ℕ). changes_of k q.seen ≡ changes_of k (p.0).seen) (so_far.number index p.0 p.1) (sees_changes p.0 q p.2) ∙ so_far.of_cpu index p.0 p.1;
      }

  -- ---- two rounds

  -- Let the zone have seen this run after the first round. Each CPU's past before and after that round is a beginning of it,
  -- and at the second round the CPU sees it, and nothing of its own after the beginning.
  two_rounds : (seen : Run) (m : KnownMachine) (cpus : List CpuInRun) (n : KnownMachine) (mid : List CpuInRun) (x y : KnownMachine) (last : List CpuInRun)
      → Round m cpus n mid → Round x mid y last → seen ≡ (own_past n.run.past).seen → (more : Run) → (own_past x.run.past).seen ≡ seen ++ more
      → AllOf (HasPast seen) (pasts_of cpus) × AllOf (IsPastOf seen) (pasts_of mid) × AllOf (HasSeen seen) (pasts_of last)
  two_rounds seen m [] n [] x y [] first second is more longer = (tt, tt, tt)
  two_rounds seen m [] n [] x y (e ∷ last) first second is more longer = absurd second
  two_rounds seen m [] n (d ∷ mid) x y last first second is more longer = absurd first
  two_rounds seen m (c ∷ cpus) n [] x y last first second is more longer = absurd first
  two_rounds seen m (c ∷ cpus) n (d ∷ mid) x y [] first second is more longer = absurd second
  two_rounds seen m (c ∷ cpus) n (d ∷ mid) x y (e ∷ last) first second is more longer =
      let p = own_past d.past in
      let q = own_past e.past in
      let one = first.first.meets in
      let two = second.first.meets in
      let since = zone_sees first.between cpus n mid first.rest in
      let rest = since.between in
      let later = more ++ two.zone_sees.between in
      let begins : seen ≡ p.seen ++ rest = is ∙ since.seen ∙ ap (λ (r : Run). r ++ rest) one.same in
      let zone : (own_past second.between.run.past).seen ≡ seen ++ later =
      two.zone_sees.seen ∙ ap (λ (r : Run). r ++ two.zone_sees.between) longer ∙ append_assoc seen more two.zone_sees.between in
      let sees : q.seen ≡ seen ++ later = sym two.same ∙ zone in
      let same : rest ++ later ≡ two.cpu_sees.between =
      append_cancel_left p.seen (rest ++ later) two.cpu_sees.between
      (sym (append_assoc p.seen rest later) ∙ ap (λ (r : Run). r ++ later) (sym begins) ∙ sym sees ∙ two.cpu_sees.seen) in
      let none = none_parts p.number rest later (subst (HasNoStepOf p.number) (sym same) two.cpu_sees.others) in
      let low = one.cpu_is.low in
      let goes : HasPast seen p = record { rest = rest; is = begins; others = none.0 } in
      let rests = two_rounds seen first.between cpus n mid second.between y last first.rest second.rest is later zone in (
        (begins_before (own_past c.past) p seen one.cpu_sees goes, rests.0),
        (record { goes = goes; leaves_lock = λ zero. absurd (omega (arith, low, zero)) }, rests.1),
        (record { rest = later; is = sees; others = subst (λ (k : ℕ). HasNoStepOf k later) (sym two.cpu_sees.number) none.1 }, rests.2),
      )

-- what `survey` shows
pub sees_all : (t : KnownTable) (before mid after : SystemState) → ForEachCpu (MeetsZone t) before.locked.machine before.cpus mid.locked.machine mid.cpus
    → ForEachCpu (MeetsZone t) mid.locked.machine mid.cpus after.locked.machine after.cpus → mid.locked.sizes ≡ before.locked.sizes
    → after.locked.sizes ≡ mid.locked.sizes → IsZonePast t mid.locked.machine.run.past → length mid.cpus ≡ t.cpus → SeesAllPasts t before after
sees_all t before mid after first second sizes still is_zone count =
    let m = before.locked.machine in
    let n = mid.locked.machine in
    let y = after.locked.machine in
    let z = own_past n.run.past in
    let zone = zone_sees t m before.cpus n mid.cpus first in
    let later = zone_sees t n mid.cpus y after.cpus second in
    let pasts = two_rounds t z.seen m before.cpus n mid.cpus n y after.cpus first second refl [] (sym (append_none z.seen)) in
    let many : length (pasts_of mid.cpus) ≡ t.cpus = length-map mid.cpus (λ (c : CpuInRun). own_past c.past) ∙ count in
    let so_far = λ (steps : Run) (has : IsRunSoFar steps (own_past m.run.past) (pasts_of before.cpus)).
    round_goes_on t steps m before.cpus n mid.cpus first (sym zone.number ∙ is_zone.zone_is) has in
    let here : IsPastOf z.seen z = record { goes = record { rest = []; is = sym (append_none z.seen); others = tt }; leaves_lock = λ zero. tt } in
    let seen : AllOf (HasSeen z.seen) (own_past y.run.past ∷ pasts_of after.cpus) =
    (record { rest = later.between; is = later.seen; others = subst (λ (k : ℕ). HasNoStepOf k later.between) (sym later.number) later.others }, pasts.2) in
    record {
      locked = λ i. record {
        machine = (same_machine t n mid.cpus y after.cpus second ∙ ap (λ (x : KnownMachine). with_past x y.run.past) (same_machine t m before.cpus n mid.cpus first)) i;
        sizes = (still ∙ sizes) i;
      };
      parts = same_parts t n mid.cpus y after.cpus second ∙ same_parts t m before.cpus n mid.cpus first;
      lasts = same_lasts t n mid.cpus y after.cpus second ∙ same_lasts t m before.cpus n mid.cpus first;
      beginning = z.seen;
      legal = is_zone.legal;
      begins = (begins_before (own_past m.run.past) z z.seen zone here.goes, pasts.0);
      seen = seen;
      is_run = λ numbers. seen_run z.seen (own_past y.run.past) (pasts_of after.cpus) seen (later.number ∙ is_zone.zone_is) (stays_numbered t n mid.cpus y after.cpus second
          (stays_numbered t m before.cpus n mid.cpus first numbers));
      changes = λ steps has. are_changes (zone_of_boot t) steps z (pasts_of mid.cpus) is_zone.legal many pasts.1 (so_far steps has);
      steps_legal = λ steps has. (the_run_so_far_is_legal (zone_of_boot t) z.seen steps z (pasts_of mid.cpus) is_zone.legal is_zone.zone_is many (here, pasts.1) (so_far steps has)).0;
      goes_on = λ steps has. round_goes_on t steps n mid.cpus y after.cpus second is_zone.zone_is (so_far steps has);
    }
