-- What is counted of a run doesn't change by steps that the zone's seat doesn't make. Serves what the machine counts.
use Rattle.std.proofs.Common.{◌≡◌, ◌≢◌, ℕ, ◌==◌, ◌&&◌, Bool, true, false, [], ◌∷◌, ◌++◌, cond, length, refl, sym, ap, ◌∙◌, subst, inl, inr, append_assoc}
use Rattle.std.specs.List.{fold}
use Rattle.std.proofs.lemmas.Bool.{and_parts, cases_Bool, eqb-true, false≢true, ne_eqb}
use Rattle.group_tree.specs.Groups.{has_group}
use Rattle.group_charge.specs.Charges.{Ledger, peak_of}
use Rattle.step_rules.specs.declared.step.Step.{Step}
use Rattle.step_rules.specs.declared.step.Action.{Action}
use Rattle.step_rules.specs.declared.step.Action.TheVariants.{Collect, Freeze, Grant, Kill, Make, Note, NoteGroupKill, Put, Return}
use Rattle.step_rules.specs.declared.step.Answer.{Answer}
use Rattle.step_rules.specs.declared.step.Answer.TheVariants.{Done, Granted, Illegal, Last, Missed, Number}
use Rattle.step_rules.specs.State.{State}
use Rattle.step_rules.specs.{Zone, at_boot, Allows, is_legal, IsLegalRun, Run, after, state_of, pushed, IsPeak, makes_group}
use Rattle.step_rules.proofs.LegalTests.{collect_tests, freeze_tests, grant_tests, kill_tests, make_tests, return_tests}
use Rattle.step_rules.proofs.Noting.{events_are_counted}
use Rattle.step_rules.proofs.Peaking.{peaks_are_kept}
use Rattle.step_rules.proofs.Runs.{allowed, legal_from, state_more}
use Rattle.boot_words.specs.Runs.{HasNoStepOf}
use Rattle.boot_words.proofs.Holding.{allowed_at, append_none, take_length}
use Rattle.boot_words.specs.{zone_of_boot, KnownTable}
use Rattle.mem_machine.specs.declared.counts.Counts.{Counts}
use Rattle.mem_machine.specs.{AgreesWithRun, counts_after, counts_along, one_more_last_put}
use Rattle.mem_machine.proofs.Followed.{at_stays, below_stays, is_still, only_made, still_peak}
use Rattle.mem_system.specs.Locked.{counts_in}

-- ---- one step

no_zone : (seat : ℕ) (b : Bool) → seat ≢ 0 → ((seat == 0) && b) ≡ true → ⊥
no_zone seat b ne acts = ne (eqb-true seat 0 (and_parts (seat == 0) b acts).0)

legal_still : (s : State) (seat : ℕ) (action : Action) (answer : Answer) → seat ≢ 0 → is_legal s seat action ≡ true → is_still action answer ≡ true
legal_still s seat (Grant g n) Granted ne legal = absurd (no_zone seat _ ne (grant_tests s seat g n legal).0)
legal_still s seat (Note key g) Done ne legal = absurd (no_zone seat _ ne (and_parts _ _ legal).0)
legal_still s seat (NoteGroupKill g) Done ne legal = absurd (no_zone seat _ ne (and_parts _ _ (and_parts _ _ legal).0).0)
legal_still s seat (Kill g) Done ne legal = absurd (no_zone seat _ ne (kill_tests s seat g legal).0)
legal_still s seat (Make path) (Number n) ne legal = absurd (no_zone seat _ ne (make_tests s seat path legal).0)
legal_still s seat action answer ne legal = refl

illegal_still : (action : Action) → is_still action Illegal ≡ true
illegal_still (Grant g n) = refl
illegal_still action = refl

-- the step moves no peak and counts no event
other_still : (s : State) (seat : ℕ) (action : Action) (answer : Answer) → seat ≢ 0 → Allows s seat action answer → is_still action answer ≡ true
other_still s seat action answer ne ok = elim (allowed s seat action answer ok) [
  | inl illegal ↦ subst (λ (a : Answer). is_still action a ≡ true) (sym illegal) (illegal_still action)
  | inr made ↦ legal_still s seat action answer ne made.legal
]

legal_uncounted : (s : State) (seat : ℕ) (action : Action) (answer : Answer) (x : Counts) → seat ≢ 0 → is_legal s seat action ≡ true
    → counts_after s seat action answer x ≡ x
legal_uncounted s seat (Put f) Last x ne legal = ap (λ (b : Bool). cond b (one_more_last_put x) x) (ne_eqb seat 0 ne)
legal_uncounted s seat (Collect f p) Done x ne legal = absurd (no_zone seat _ ne (collect_tests s seat f p legal).0)
legal_uncounted s seat (Freeze f n) Done x ne legal = absurd (no_zone seat _ ne (freeze_tests s seat f n legal).0)
legal_uncounted s seat (Freeze f n) Missed x ne legal = absurd (no_zone seat _ ne (freeze_tests s seat f n legal).0)
legal_uncounted s seat (Return f) Done x ne legal = absurd (no_zone seat _ ne (return_tests s seat f legal).0)
legal_uncounted s seat action answer x ne legal = refl

illegal_uncounted : (s : State) (seat : ℕ) (action : Action) (x : Counts) → counts_after s seat action Illegal x ≡ x
illegal_uncounted s seat (Put f) x = refl
illegal_uncounted s seat action x = refl

-- nor does it count a unit
pub other_uncounted : (s : State) (seat : ℕ) (action : Action) (answer : Answer) (x : Counts) → seat ≢ 0 → Allows s seat action answer
    → counts_after s seat action answer x ≡ x
other_uncounted s seat action answer x ne ok = elim (allowed s seat action answer ok) [
  | inl illegal ↦ subst (λ (a : Answer). counts_after s seat action a x ≡ x) (sym illegal) (illegal_uncounted s seat action x)
  | inr made ↦ legal_uncounted s seat action answer x ne made.legal
]

still_makes : (m : ℕ) (action : Action) (answer : Answer) → is_still action answer ≡ true → makes_group m action answer ≡ false
still_makes m (Make path) (Number n) still = absurd (false≢true still)
still_makes m action answer still = refl

was_there : (s : State) (seat : ℕ) (action : Action) (answer : Answer) (m : ℕ) → is_still action answer ≡ true
    → has_group (after s seat action answer).groups m ≡ true → has_group s.groups m ≡ true
was_there s seat action answer m still there = elim (cases_Bool (has_group s.groups m)) [
  | inl here ↦ here
  | inr none ↦ absurd (false≢true (sym (still_makes m action answer still) ∙ only_made s seat action answer m none there))
]

-- ---- along a run

pub counts_both : (s : State) (xs ys : Run) (x : Counts)
    → counts_along s (xs ++ ys) x ≡ counts_along (fold (λ t e. after t e.0.seat e.0.action e.1) s xs) ys (counts_along s xs x)
counts_both s [] ys x = refl
counts_both s (e ∷ xs) ys x = counts_both (after s e.0.seat e.0.action e.1) xs ys (counts_after s e.0.seat e.0.action e.1 x)

-- the ledger has the peaks and the events of the run, and these are the run's counts of units
pub record CountsRun (t : KnownTable) (run : Run) (l : Ledger) (x : Counts) : Type 0 where
  pub agrees : AgreesWithRun t run l
  pub counts : x ≡ counts_in t run

pub legal_front : (zone : Zone) (xs ys : Run) → IsLegalRun zone (xs ++ ys) → IsLegalRun zone xs
legal_front zone xs ys legal = subst (IsLegalRun zone) (take_length xs ys) (legal_from zone (xs ++ ys) (length xs) legal)

counted_one : (t : KnownTable) (run : Run) (e : Step × Answer) (l : Ledger) (x : Counts) → IsLegalRun (zone_of_boot t) (run ++ e ∷ []) → e.0.seat ≢ 0
    → CountsRun t run l x → CountsRun t (run ++ e ∷ []) l x
counted_one t run e l x legal ne told =
    let zone = zone_of_boot t in
    let s = state_of zone run in
    let ok = allowed_at zone run e [] legal in
    let still = other_still s e.0.seat e.0.action e.1 ne ok in
    let was = λ (m : ℕ) (there : has_group (state_of zone (pushed run e.0 e.1)).groups m ≡ true).
    was_there s e.0.seat e.0.action e.1 m still (ap (λ (k : State). has_group k.groups m) (sym (state_more zone run e.0 e.1)) ∙ there) in
    let had = told.agrees in
    record {
      agrees = record {
        peak = λ m there.
            subst (IsPeak zone (pushed run e.0 e.1) m) (still_peak (state_of zone (pushed run e.0 e.1)) e.0.action e.1 m (peak_of l m) still)
            (peaks_are_kept.step zone run e.0 e.1 (legal_front zone run (e ∷ []) legal) ok m (peak_of l m) there (had.peak m));
        events = λ key m there. had.events key m (was m there)
            ∙ sym ((events_are_counted.step zone run e.0 e.1 key m).below ∙ below_stays key m s e _ still);
        events_local = λ key m there. had.events_local key m (was m there)
            ∙ sym ((events_are_counted.step zone run e.0 e.1 key m).local ∙ at_stays key m s e _ still);
      };
      counts = told.counts ∙ sym (counts_both (at_boot zone) run (e ∷ []) _ ∙ other_uncounted s e.0.seat e.0.action e.1 _ ne ok);
    }

-- steps that the zone's seat doesn't make leave what is counted
pub counted_beside : (t : KnownTable) (run rest : Run) (l : Ledger) (x : Counts) → IsLegalRun (zone_of_boot t) (run ++ rest) → HasNoStepOf 0 rest
    → CountsRun t run l x → CountsRun t (run ++ rest) l x
counted_beside t run [] l x legal none told = subst (λ (r : Run). CountsRun t r l x) (sym (append_none run)) told
counted_beside t run (e ∷ rest) l x legal none told =
    let more = append_assoc run (e ∷ []) rest in
    let all = subst (IsLegalRun (zone_of_boot t)) (sym more) legal in
    subst (λ (r : Run). CountsRun t r l x) more
    (counted_beside t (run ++ e ∷ []) rest l x all none.1 (counted_one t run e l x (legal_front (zone_of_boot t) (run ++ e ∷ []) rest all) none.0 told))
