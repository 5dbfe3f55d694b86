-- What the pasts of the zone and of a CPU gain, and the run so far.
use Rattle.std.proofs.Common.{[], ◌≡◌, ◌≢◌, ℕ, zero, suc, ◌+◌, ◌≤◌, ◌<◌, ◌==◌, ◌||◌, true, Some, List, ◌∷◌, ◌++◌, length, get_or, refl, ap, sym, ◌∙◌, subst, arith, rules, inl, inr, ⊎_elim, append_assoc}
use Rattle.std.specs.Prelude.{◌⊎◌, not, nat_le, slice_get, slice_set}
use Rattle.std.proofs.lemmas.Bool.{and_parts, cases_Bool, cases_eq, eqb-true, leb-true, true≢false}
use Rattle.std.proofs.lemmas.List.{get_or-set_other, get_or-set_same, length-set}
use Rattle.std.proofs.lemmas.Option.{get_or_from_slice_get, slice_get-get_or, slice_get_within}
use Rattle.step_rules.specs.declared.phase.Hold.{Hold}
use Rattle.step_rules.specs.declared.step.Step.{Step}
use Rattle.step_rules.specs.declared.step.Answer.{Answer}
use Rattle.step_rules.specs.declared.step.Answer.TheVariants.{Illegal}
use Rattle.step_rules.specs.declared.step.Action.{Action}
use Rattle.step_rules.specs.declared.step.Action.TheVariants.{Lock, Unlock, OpenVisit, ShutVisit, Get, Put, Freeze, Unfreeze, PassOut, TakeIn, PassBack, Collect, Consume, Credit, Report, Absorb, Fill, DrainStock, Grant, Ungrant, PlaceBlock, Publish, Return, Note, NoteGroupKill, SetMax, SetFlag, Make, Remove, Kill}
use Rattle.step_rules.specs.{Zone, is_cpu, is_unheld, may_zone_act, is_legal, Allows, Run, after, state_of, IsLegalRun}
use Rattle.step_rules.specs.State.{State}
use Rattle.step_rules.proofs.Freeing.{zone_of_run}
use Rattle.step_rules.proofs.LegalTests.{lock_tests, unlock_tests, open_visit_tests, shut_visit_tests, get_tests, put_tests, freeze_tests, unfreeze_tests, pass_out_tests, take_in_tests, pass_back_tests, collect_tests, consume_tests, credit_tests, report_tests, absorb_tests, fill_tests, drain_stock_tests, grant_tests, ungrant_tests, place_block_tests, publish_tests, return_tests, set_max_tests, set_flag_tests, make_tests, remove_tests, kill_tests}
use Rattle.step_rules.proofs.PhaseLemmas.{none_some}
use Rattle.step_rules.proofs.Runs.{after_illegal, allowed, legal_more, state_more}
use Rattle.boot_words.specs.declared.past.Past.{Past}
use Rattle.boot_words.specs.{AllOf, IsPastOf, GrewBy, KnownPasts, own_past, Meets, GrewByAll, SeesMore, changes_nothing, changes_of, HasInOrder}
use Rattle.boot_words.specs.{AreChangesOf, GainsSteps, ABootHasNoSteps, GainsGoOn, TheRunSoFarIsLegal, KnownTable}
use Rattle.boot_words.proofs.Holding.{allowed_at, append_none}
use Rattle.boot_words.proofs.Ordered.{changes_both, others_add_none, other_adds_none, without_none, has_none, without_both, has_behind, has_through, changes_in_order, as_many, IsSeatOfChange, only_quiet_are_left_out}

-- ---- one past that grows

grown_once : (before : Past) (e : Step × Answer) (later : Past) (earlier : Run) → GrewBy before e.0 e.1 later → HasInOrder before.seen earlier
    → HasInOrder later.seen (earlier ++ e ∷ [])
grown_once before e later earlier grew has =
    subst (λ r. HasInOrder r (earlier ++ e ∷ [])) (sym grew.seen)
    (without_both (λ made. Unit {0}) (before.seen ++ grew.between) earlier (e ∷ []) (e ∷ []) (has_behind before.seen earlier grew.between has)
    (without_none (λ made. Unit {0}) (e ∷ [])))

pub grown_number : (before : Past) (steps : Run) (later : Past) → GrewByAll before steps later → later.number ≡ before.number
grown_number before [] later e = ap (λ (p : Past). p.number) e
grown_number before (e ∷ steps) later grew = grown_number grew.0 steps later grew.2 ∙ grew.1.number

pub grown_in_order : (before : Past) (steps : Run) (later : Past) (earlier : Run) → GrewByAll before steps later → HasInOrder before.seen earlier
    → HasInOrder later.seen (earlier ++ steps)
grown_in_order before [] later earlier same has =
    subst (HasInOrder later.seen) (sym (append_none earlier)) (subst (λ (p : Past). HasInOrder p.seen earlier) (sym same) has)
grown_in_order before (e ∷ steps) later earlier grew has =
    subst (HasInOrder later.seen) (append_assoc earlier (e ∷ []) steps)
    (grown_in_order grew.0 steps later (earlier ++ e ∷ []) grew.2 (grown_once before e grew.0 earlier grew.1 has))

pub grown_changes : (before : Past) (steps : Run) (later : Past) → GrewByAll before steps later
    → changes_of before.number later.seen ≡ changes_of before.number before.seen + changes_of before.number steps
grown_changes before [] later same = let e = ap (λ (p : Past). changes_of before.number p.seen) same in omega (arith, e)
grown_changes before (e ∷ steps) later grew =
    let k = before.number in
    let rest : changes_of k later.seen ≡ changes_of k (grew.0).seen + changes_of k steps =
    subst (λ (n : ℕ). changes_of n later.seen ≡ changes_of n (grew.0).seen + changes_of n steps) grew.1.number (grown_changes grew.0 steps later grew.2) in
    let here = ap (changes_of k) grew.1.seen in
    let both = changes_both k (before.seen ++ grew.1.between) (e ∷ []) in
    let none = others_add_none k before.seen grew.1.between grew.1.others in
    omega (arith, rest, here, both, none)

pub sees_changes : (before later : Past) → SeesMore before later → changes_of before.number later.seen ≡ changes_of before.number before.seen
sees_changes before later more = ap (changes_of before.number) more.seen ∙ others_add_none before.number before.seen more.between more.others

pub sees_in_order : (before later : Past) (earlier : Run) → SeesMore before later → HasInOrder before.seen earlier → HasInOrder later.seen earlier
sees_in_order before later earlier more has = subst (λ r. HasInOrder r earlier) (sym more.seen) (has_behind before.seen earlier more.between has)

-- ---- both pasts

pub visit_gains : (z c : Past) (steps : Run) (z' c' : Past) → GrewByAll z steps z' → GrewByAll c steps c' → z.number ≡ 0
    → ((other : ℕ) → other ≢ 0 → other ≢ c.number → changes_of other steps ≡ 0) → GainsSteps z c steps z' c'
visit_gains z c steps z' c' zone cpu zone_is others = record {
  zone_number = grown_number z steps z' zone;
  cpu_number = grown_number c steps c' cpu;
  in_order = λ earlier has. grown_in_order z steps z' earlier zone has;
  of_zone = subst (λ (n : ℕ). changes_of n z'.seen ≡ changes_of n z.seen + changes_of n steps) zone_is (grown_changes z steps z' zone);
  of_cpu = grown_changes c steps c' cpu;
  of_others = others;
}

-- steps of one seat are no changes of another
pub of_one_seat : (number : ℕ) (steps : Run) → AllOf (λ (e : Step × Answer). e.0.seat ≡ number) steps → (other : ℕ) → other ≢ number → changes_of other steps ≡ 0
of_one_seat number [] all other ne = refl
of_one_seat number (e ∷ steps) all other ne =
    let here = other_adds_none other e (λ same. ne (sym same ∙ all.0)) in
    let more = of_one_seat number steps all.1 other ne in omega (arith, here, more)

-- steps of the zone and of one CPU are no changes of another CPU
pub of_two_seats : (number : ℕ) (steps : Run) → AllOf (λ (e : Step × Answer). (e.0.seat ≡ 0) ⊎ (e.0.seat ≡ number)) steps
    → (other : ℕ) → other ≢ 0 → other ≢ number → changes_of other steps ≡ 0
of_two_seats number [] all other not_zone ne = refl
of_two_seats number (e ∷ steps) all other not_zone ne =
    let here = other_adds_none other e (λ same. ⊎_elim (λ is. not_zone (sym same ∙ is)) (λ is. ne (sym same ∙ is)) all.0) in
    let more = of_two_seats number steps all.1 other not_zone ne in omega (arith, here, more)

pub none_gains : (z c : Past) (made : Run) (c' : Past) → GrewByAll c made c' → AreChangesOf made [] → GainsSteps z c [] z c'
none_gains z c made c' grew quiet = record {
  zone_number = refl;
  cpu_number = grown_number c made c' grew;
  in_order = λ earlier has. subst (HasInOrder z.seen) (sym (append_none earlier)) has;
  of_zone = omega arith;
  of_cpu = let all = grown_changes c made c' grew in let none = as_many c.number made [] quiet in omega (arith, all, none);
  of_others = λ other not_zone ne. refl;
}

pub meet_gains : (t : KnownTable) (z c z1 c1 : KnownPasts) (made : Run) (c2 z3 c3 : KnownPasts) (steps : Run) → Meets t z c z1 c1
    → GrewByAll (own_past c1) made (own_past c2) → Meets t z1 c2 z3 c3 → AreChangesOf made steps
    → AllOf (λ (e : Step × Answer). e.0.seat ≡ (own_past c).number) made
    → GainsSteps (own_past z) (own_past c) steps (own_past z3) (own_past c3)
meet_gains t z c z1 c1 made c2 z3 c3 steps first grew second quiet own =
    let k = (own_past c).number in
    let c_number : (own_past c1).number ≡ k = first.cpu_sees.number in
    let c2_number : (own_past c2).number ≡ k = grown_number (own_past c1) made (own_past c2) grew ∙ c_number in
    let z_number : (own_past z).number ≡ 0 = sym first.zone_sees.number ∙ first.zone_is.zone_is in
    let low : 1 ≤ k = subst (λ n. 1 ≤ n) c_number first.cpu_is.low in
    let alone : (other : ℕ) → other ≢ k → changes_of other steps ≡ 0 =
    λ other ne. as_many other made steps quiet ∙ of_one_seat k made own other ne in
    record {
      zone_number = second.zone_sees.number ∙ first.zone_sees.number;
      cpu_number = second.cpu_sees.number ∙ c2_number;
      in_order = λ earlier has.
          let met : HasInOrder (own_past c1).seen earlier =
          subst (λ r. HasInOrder r earlier) first.same (sees_in_order (own_past z) (own_past z1) earlier first.zone_sees has) in
          let all : HasInOrder (own_past c2).seen (earlier ++ made) = grown_in_order (own_past c1) made (own_past c2) earlier grew met in
          let again : HasInOrder (own_past z3).seen (earlier ++ made) =
          subst (λ r. HasInOrder r (earlier ++ made)) (sym second.same) (sees_in_order (own_past c2) (own_past c3) (earlier ++ made) second.cpu_sees all) in
          has_through (own_past z3).seen (earlier ++ made) (earlier ++ steps) again
          (without_both (λ e. Unit {0}) earlier earlier made steps (without_none (λ e. Unit {0}) earlier) (changes_in_order made steps quiet));
      of_zone =
          let a : changes_of 0 (own_past z1).seen ≡ changes_of 0 (own_past z).seen =
          subst (λ (n : ℕ). changes_of n (own_past z1).seen ≡ changes_of n (own_past z).seen) z_number (sees_changes (own_past z) (own_past z1) first.zone_sees) in
          let b : changes_of 0 (own_past z3).seen ≡ changes_of 0 (own_past z1).seen =
          subst (λ (n : ℕ). changes_of n (own_past z3).seen ≡ changes_of n (own_past z1).seen) first.zone_is.zone_is (sees_changes (own_past z1) (own_past z3) second.zone_sees) in
          let none = alone 0 (λ e. absurd (omega (arith, low, e))) in omega (arith, a, b, none);
      of_cpu =
          let a : changes_of k (own_past c1).seen ≡ changes_of k (own_past c).seen = sees_changes (own_past c) (own_past c1) first.cpu_sees in
          let b : changes_of k (own_past c2).seen ≡ changes_of k (own_past c1).seen + changes_of k made =
          subst (λ (n : ℕ). changes_of n (own_past c2).seen ≡ changes_of n (own_past c1).seen + changes_of n made) c_number
          (grown_changes (own_past c1) made (own_past c2) grew) in
          let d : changes_of k (own_past c3).seen ≡ changes_of k (own_past c2).seen =
          subst (λ (n : ℕ). changes_of n (own_past c3).seen ≡ changes_of n (own_past c2).seen) c2_number (sees_changes (own_past c2) (own_past c3) second.cpu_sees) in
          let same = as_many k made steps quiet in omega (arith, a, b, d, same);
      of_others = λ other not_zone ne. alone other ne;
    }

pub gains_both : (z c : Past) (one : Run) (z1 c1 : Past) (two : Run) (z2 c2 : Past) → GainsSteps z c one z1 c1 → GainsSteps z1 c1 two z2 c2
    → GainsSteps z c (one ++ two) z2 c2
gains_both z c one z1 c1 two z2 c2 first second = record {
  zone_number = second.zone_number ∙ first.zone_number;
  cpu_number = second.cpu_number ∙ first.cpu_number;
  in_order = λ earlier has. subst (HasInOrder z2.seen) (append_assoc earlier one two) (second.in_order (earlier ++ one) (first.in_order earlier has));
  of_zone = let a = first.of_zone in let b = second.of_zone in let d = changes_both 0 one two in omega (arith, a, b, d);
  of_cpu =
      let k = c.number in
      let a : changes_of k c1.seen ≡ changes_of k c.seen + changes_of k one = first.of_cpu in
      let b : changes_of k c2.seen ≡ changes_of k c1.seen + changes_of k two =
      subst (λ (n : ℕ). changes_of n c2.seen ≡ changes_of n c1.seen + changes_of n two) first.cpu_number second.of_cpu in
      let d = changes_both k one two in omega (arith, a, b, d);
  of_others = λ other not_zone ne.
      let a = first.of_others other not_zone ne in
      let b = second.of_others other not_zone (λ e. ne (e ∙ first.cpu_number)) in
      let d = changes_both other one two in omega (arith, a, b, d);
}

-- ---- the run so far

pub a_boot_has_no_steps : ABootHasNoSteps
a_boot_has_no_steps zone cpus none each = record {
  in_order = subst (λ r. HasInOrder r []) (sym none) (has_none []);
  of_zone = ap (changes_of 0) none;
  number = λ index cpu at. (each index cpu at).0;
  of_cpu = λ index cpu at. ap (changes_of (suc index)) (each index cpu at).1;
}

set_here : {X : Type 0} (xs : List X) (k : ℕ) (x y : X) → k < length xs → slice_get (slice_set xs k x) k ≡ Some y → y ≡ x
set_here xs k x y inside e = sym (get_or_from_slice_get (slice_set xs k x) k y y e) ∙ get_or-set_same xs k x y inside

set_else : {X : Type 0} (xs : List X) (k j : ℕ) (x y : X) → (j ≡ k → ⊥) → slice_get (slice_set xs k x) j ≡ Some y → slice_get xs j ≡ Some y
set_else xs k j x y ne e =
    let within = slice_get_within (slice_set xs k x) j y e in
    let same = length-set xs k x in
    slice_get-get_or xs j y (omega (arith, within, same)) ∙ ap Some (sym (get_or-set_other xs k j x y ne) ∙ get_or_from_slice_get (slice_set xs k x) j y y e)

pub gains_go_on : GainsGoOn
gains_go_on earlier steps zone zone' cpus index cpu cpu' so_far at gains =
    let inside : index < length cpus = slice_get_within cpus index cpu at in
    let number : cpu.number ≡ suc index = so_far.number index cpu at in
    record {
      in_order = gains.in_order earlier so_far.in_order;
      of_zone = let a = gains.of_zone in let b = so_far.of_zone in let d = changes_both 0 earlier steps in omega (arith, a, b, d);
      number = λ other p there. elim (cases_eq other index) [
        | inl e ↦
            let is : p ≡ cpu' = set_here cpus index cpu' p inside (subst (λ (n : ℕ). slice_get (slice_set cpus index cpu') n ≡ Some p) e there) in
            ap (λ (q : Past). q.number) is ∙ gains.cpu_number ∙ number ∙ ap suc (sym e)
        | inr ne ↦ so_far.number other p (set_else cpus index other cpu' p ne there)
      ];
      of_cpu = λ other p there. elim (cases_eq other index) [
        | inl e ↦
            let is : p ≡ cpu' = set_here cpus index cpu' p inside (subst (λ (n : ℕ). slice_get (slice_set cpus index cpu') n ≡ Some p) e there) in
            let same : changes_of (suc other) p.seen ≡ changes_of (suc index) cpu'.seen = ap (λ (q : Past). changes_of (suc other) q.seen) is ∙ ap (λ (n : ℕ). changes_of (suc n) cpu'.seen) e in
            let a : changes_of (suc index) cpu'.seen ≡ changes_of (suc index) cpu.seen + changes_of (suc index) steps =
            subst (λ (n : ℕ). changes_of n cpu'.seen ≡ changes_of n cpu.seen + changes_of n steps) number gains.of_cpu in
            let b : changes_of (suc index) cpu.seen ≡ changes_of (suc index) earlier = so_far.of_cpu index cpu at in
            let d : changes_of (suc index) (earlier ++ steps) ≡ changes_of (suc index) earlier + changes_of (suc index) steps = changes_both (suc index) earlier steps in
            let all : changes_of (suc index) cpu'.seen ≡ changes_of (suc index) (earlier ++ steps) = omega (arith, a, b, d) in
            same ∙ all ∙ ap (λ (n : ℕ). changes_of (suc n) (earlier ++ steps)) (sym e)
        | inr ne ↦
            let a : changes_of (suc other) p.seen ≡ changes_of (suc other) earlier = so_far.of_cpu other p (set_else cpus index other cpu' p ne there) in
            let none : changes_of (suc other) steps ≡ 0 =
            gains.of_others (suc other) (λ e. absurd (omega (arith, e))) (λ e. ne (let f : suc other ≡ suc index = e ∙ number in omega (arith, f))) in
            let d = changes_both (suc other) earlier steps in omega (arith, a, none, d)
      ];
    }

-- ---- the run so far is legal

-- a step whose answer changes nothing changes nothing
quiet_after : (s : State) (seat : ℕ) (action : Action) (answer : Answer) → changes_nothing answer ≡ true → after s seat action answer ≡ s
quiet_after s seat action Illegal quiet = after_illegal s seat action
quiet_after s seat Lock answer quiet = search rules
quiet_after s seat action answer quiet = search rules

-- a legal run without some steps that change nothing is legal, and leads to the same state
without_quiet : (zone : Zone) (before before' run steps : Run) → state_of zone before' ≡ state_of zone before → IsLegalRun zone before' → IsLegalRun zone (before ++ run)
    → AreChangesOf run steps → IsLegalRun zone (before' ++ steps) × (state_of zone (before' ++ steps) ≡ state_of zone (before ++ run))
without_quiet zone before before' [] steps same legal' legal e =
    let none : before' ++ steps ≡ before' = ap (λ r. before' ++ r) e ∙ append_none before' in
    (subst (IsLegalRun zone) (sym none) legal', ap (state_of zone) none ∙ same ∙ ap (state_of zone) (sym (append_none before)))
without_quiet zone before before' (e ∷ run) steps same legal' legal (inl out) =
    let more = append_assoc before (e ∷ []) run in
    let stays : state_of zone (before ++ e ∷ []) ≡ state_of zone before = state_more zone before e.0 e.1 ∙ quiet_after (state_of zone before) e.0.seat e.0.action e.1 out.0 in
    let rest = without_quiet zone (before ++ e ∷ []) before' run steps (same ∙ sym stays) legal' (subst (IsLegalRun zone) (sym more) legal) out.1 in
    (rest.0, rest.1 ∙ ap (state_of zone) more)
without_quiet zone before before' (e ∷ run) steps same legal' legal (inr h) =
    let more = append_assoc before (e ∷ []) run in
    let more' : (before' ++ e ∷ []) ++ h.0 ≡ before' ++ steps = append_assoc before' (e ∷ []) h.0 ∙ ap (λ r. before' ++ r) (sym h.1) in
    let ok : Allows (state_of zone before') e.0.seat e.0.action e.1 = subst (λ s. Allows s e.0.seat e.0.action e.1) (sym same) (allowed_at zone before e run legal) in
    let both : state_of zone (before' ++ e ∷ []) ≡ state_of zone (before ++ e ∷ []) =
    state_more zone before' e.0 e.1 ∙ ap (λ s. after s e.0.seat e.0.action e.1) same ∙ sym (state_more zone before e.0 e.1) in
    let rest = without_quiet zone (before ++ e ∷ []) (before' ++ e ∷ []) run h.0 both (legal_more zone before' e.0 e.1 legal' ok)
    (subst (IsLegalRun zone) (sym more) legal) h.2 in
    (subst (IsLegalRun zone) more' rest.0, ap (state_of zone) (sym more') ∙ rest.1 ∙ ap (state_of zone) more)

of_cpu_seat : (zone : Zone) (q : ℕ) → is_cpu zone q ≡ true → q ≤ zone.cpus
of_cpu_seat zone q e = leb-true q zone.cpus (and_parts (nat_le 1 q) (nat_le q zone.cpus) e).1

of_zone_seat : (n : ℕ) (hold : Hold) (q : ℕ) → may_zone_act hold q ≡ true → q ≤ n
of_zone_seat n hold q may = let e = eqb-true q 0 (and_parts (q == 0) (not (is_unheld hold)) may).0 in omega (arith, e)

of_either_seat : (s : State) (q : ℕ) → (is_cpu s.zone q || may_zone_act s.hold q) ≡ true → q ≤ s.zone.cpus
of_either_seat s q e = elim (cases_Bool (is_cpu s.zone q)) [
  | inl cpu ↦ of_cpu_seat s.zone q cpu
  | inr none ↦ of_zone_seat s.zone.cpus s.hold q (ap (λ b. b || may_zone_act s.hold q) (sym none) ∙ e)
]

-- a legal step is the zone's or a CPU's
seat_of_legal : (s : State) (q : ℕ) (action : Action) → is_legal s q action ≡ true → q ≤ s.zone.cpus
seat_of_legal s q Lock legal = of_cpu_seat s.zone q (lock_tests s q legal).0
seat_of_legal s q Unlock legal = of_cpu_seat s.zone q (unlock_tests s q legal).0
seat_of_legal s q (Get f) legal = of_cpu_seat s.zone q (get_tests s q f legal).0
seat_of_legal s q (Put f) legal = of_either_seat s q (put_tests s q f legal).0
seat_of_legal s q (Consume g) legal = of_cpu_seat s.zone q (consume_tests s q g legal).0
seat_of_legal s q (Credit f) legal = of_cpu_seat s.zone q (credit_tests s q f legal).0
seat_of_legal s q (OpenVisit p) legal = of_zone_seat s.zone.cpus s.hold q (open_visit_tests s q p legal).0
seat_of_legal s q (ShutVisit p) legal = of_zone_seat s.zone.cpus s.hold q (shut_visit_tests s q p legal).0
seat_of_legal s q (Freeze f n) legal = of_zone_seat s.zone.cpus s.hold q (freeze_tests s q f n legal).0
seat_of_legal s q (Unfreeze f n) legal = of_zone_seat s.zone.cpus s.hold q (unfreeze_tests s q f n legal).0
seat_of_legal s q (PassOut f p) legal = of_zone_seat s.zone.cpus s.hold q (pass_out_tests s q f p legal).0
seat_of_legal s q (TakeIn f) legal = of_cpu_seat s.zone q (take_in_tests s q f legal).0
seat_of_legal s q (PassBack f) legal = of_cpu_seat s.zone q (pass_back_tests s q f legal).0
seat_of_legal s q (Collect f p) legal = of_zone_seat s.zone.cpus s.hold q (collect_tests s q f p legal).0
seat_of_legal s q (Report n) legal = of_cpu_seat s.zone q (report_tests s q n legal).0
seat_of_legal s q (Absorb p) legal = of_zone_seat s.zone.cpus s.hold q (absorb_tests s q p legal).0
seat_of_legal s q (Fill p g n) legal = of_zone_seat s.zone.cpus s.hold q (fill_tests s q p g n legal).0
seat_of_legal s q (DrainStock p) legal = of_zone_seat s.zone.cpus s.hold q (drain_stock_tests s q p legal).0
seat_of_legal s q (Grant g n) legal = of_zone_seat s.zone.cpus s.hold q (grant_tests s q g n legal).0
seat_of_legal s q (Ungrant g n) legal = of_zone_seat s.zone.cpus s.hold q (ungrant_tests s q g n legal).0
seat_of_legal s q (PlaceBlock g k) legal = of_zone_seat s.zone.cpus s.hold q (place_block_tests s q g k legal).0
seat_of_legal s q (Publish f) legal = of_zone_seat s.zone.cpus s.hold q (publish_tests s q f legal).0
seat_of_legal s q (Return f) legal = of_zone_seat s.zone.cpus s.hold q (return_tests s q f legal).0
seat_of_legal s q (Note key g) legal = of_zone_seat s.zone.cpus s.hold q (and_parts (may_zone_act s.hold q) _ legal).0
seat_of_legal s q (NoteGroupKill g) legal = of_zone_seat s.zone.cpus s.hold q
    (and_parts (may_zone_act s.hold q) _ (and_parts _ (not (g == 0)) legal).0).0
seat_of_legal s q (SetMax g limit) legal = of_zone_seat s.zone.cpus s.hold q (set_max_tests s q g limit legal).0
seat_of_legal s q (SetFlag g flag) legal = of_zone_seat s.zone.cpus s.hold q (set_flag_tests s q g flag legal).0
seat_of_legal s q (Make path) legal = of_zone_seat s.zone.cpus s.hold q (make_tests s q path legal).0
seat_of_legal s q (Remove g) legal = of_zone_seat s.zone.cpus s.hold q (remove_tests s q g legal).0
seat_of_legal s q (Kill g) legal = of_zone_seat s.zone.cpus s.hold q (kill_tests s q g legal).0

-- each change of a legal run is of the zone or of a CPU
seats_of_legal : (zone : Zone) (before run : Run) → IsLegalRun zone (before ++ run) → AllOf (IsSeatOfChange zone.cpus) run
seats_of_legal zone before [] legal = tt
seats_of_legal zone before (e ∷ run) legal =
    let s = state_of zone before in
    let here : IsSeatOfChange zone.cpus e = λ loud. elim (allowed s e.0.seat e.0.action e.1 (allowed_at zone before e run legal)) [
      | inl illegal ↦ absurd (true≢false (sym (ap changes_nothing illegal) ∙ loud))
      | inr made ↦ subst (λ (z : Zone). e.0.seat ≤ z.cpus) (zone_of_run zone before) (seat_of_legal s e.0.seat e.0.action made.legal)
    ] in
    (here, seats_of_legal zone (before ++ e ∷ []) run (subst (IsLegalRun zone) (sym (append_assoc before (e ∷ []) run)) legal))

-- after a past of the run there is no change of its seat
past_changes : (run : Run) (p : Past) → IsPastOf run p → changes_of p.number run ≡ changes_of p.number p.seen
past_changes run p past = ap (changes_of p.number) past.goes.is ∙ others_add_none p.number p.seen past.goes.rest past.goes.others

each_of : {A : Type 0} (P : A → Type 0) (xs : List A) (k : ℕ) (x : A) → AllOf P xs → slice_get xs k ≡ Some x → P x
each_of P [] k x all at = absurd (none_some x at)
each_of P (y ∷ xs) zero x all at = subst P (get_or_from_slice_get (y ∷ xs) 0 x y at) all.0
each_of P (y ∷ xs) (suc k) x all at = each_of P xs k x all.1 at

by_seat : (run steps : Run) (n : ℕ) → changes_of 0 run ≡ changes_of 0 steps → ((index : ℕ) → suc index ≤ n → changes_of (suc index) run ≡ changes_of (suc index) steps)
    → (seat : ℕ) → seat ≤ n → changes_of seat run ≡ changes_of seat steps
by_seat run steps n of_zone of_cpu zero below = of_zone
by_seat run steps n of_zone of_cpu (suc index) below = of_cpu index below

pub the_run_so_far_is_legal : TheRunSoFarIsLegal
the_run_so_far_is_legal zone run steps z cpus legal zone_is count pasts so_far =
    let has : HasInOrder run steps = subst (λ r. HasInOrder r steps) (sym (pasts.0).goes.is) (has_behind z.seen steps (pasts.0).goes.rest so_far.in_order) in
    let of_zone : changes_of 0 run ≡ changes_of 0 steps =
    subst (λ (n : ℕ). changes_of n run ≡ changes_of n z.seen) zone_is (past_changes run z pasts.0) ∙ so_far.of_zone in
    let of_cpu : (index : ℕ) → suc index ≤ zone.cpus → changes_of (suc index) run ≡ changes_of (suc index) steps = λ index below.
    let inside : index < length cpus = omega (arith, below, count) in
    let p = get_or cpus index z in
    let at : slice_get cpus index ≡ Some p = slice_get-get_or cpus index z inside in
    subst (λ (n : ℕ). changes_of n run ≡ changes_of n p.seen) (so_far.number index p at) (past_changes run p (each_of (IsPastOf run) cpus index p pasts.1 at))
    ∙ so_far.of_cpu index p at in
    let same : (seat : ℕ) → seat ≤ zone.cpus → changes_of seat run ≡ changes_of seat steps = by_seat run steps zone.cpus of_zone of_cpu in
    without_quiet zone [] [] run steps refl (λ k. tt) legal
    (only_quiet_are_left_out zone.cpus run steps (seats_of_legal zone [] run legal) has same)
