-- A step under the lock on a word of the frames or of the stocks.
use Rattle.std.proofs.Common.{[], ◌≡◌, ℕ, Bool, true, false, ◌∷◌, ◌++◌, refl, ap, sym, ◌∙◌, subst, inl, inr, eq-eqb}
use Rattle.std.specs.Prelude.{◌⊎◌, ◌||◌, ◌==◌}
use Rattle.std.proofs.lemmas.Bool.{false≢true, or_left, true≢false}
use Rattle.std.proofs.lemmas.List.{append_cancel_left}
use Rattle.step_rules.specs.declared.phase.Hold.{Hold}
use Rattle.step_rules.specs.declared.phase.Hold.TheVariants.{HeldBy, Visiting}
use Rattle.step_rules.specs.declared.step.Step.{Step}
use Rattle.step_rules.specs.declared.step.Action.{Action}
use Rattle.step_rules.specs.declared.step.Action.TheVariants.{Lock, Unlock, OpenVisit, ShutVisit}
use Rattle.step_rules.specs.declared.step.Answer.{Answer}
use Rattle.step_rules.specs.declared.step.Answer.TheVariants.{Done, Illegal}
use Rattle.step_rules.specs.{Zone, is_held_by, visits, is_legal, Run, after, state_of, IsLegalRun, holds_lock, seen_by, ShowsLocal, is_of_lock}
use Rattle.step_rules.specs.State.{State}
use Rattle.step_rules.proofs.LegalTests.{open_visit_tests, shut_visit_tests}
use Rattle.step_rules.proofs.Own.{only_visit, own_after, own_legal}
use Rattle.step_rules.proofs.PhaseLemmas.{equal_test}
use Rattle.step_rules.proofs.Runs.{after_illegal, allowed, sound_run, state_more}
use Rattle.boot_words.specs.{HasNoStepOf, OthersFollow, HoldsLock, local_seen}
use Rattle.boot_words.proofs.Holding.{allowed_at, still_shows}
use Rattle.boot_words.specs.declared.past.Past.{Past}
use Rattle.boot_words.proofs.Grown.{grown}

-- ---- what the holder sees at the end of the run
pub shows_now : (zone : Zone) (z c : Past) (local : State) (run : Run) → HoldsLock zone z c local → OthersFollow z.number z.seen run → OthersFollow c.number c.seen run
    → IsLegalRun zone run → ShowsLocal zone run c.number local
shows_now zone z c local run holds zone_fits fits legal =
    let other : run ≡ c.seen ++ zone_fits.rest = zone_fits.is ∙ ap (λ s. s ++ zone_fits.rest) holds.same in
    let same : zone_fits.rest ≡ fits.rest = append_cancel_left c.seen zone_fits.rest fits.rest (sym other ∙ fits.is) in
    let none_of : HasNoStepOf 0 fits.rest = subst (λ (k : ℕ). HasNoStepOf k fits.rest) holds.zone_is (subst (HasNoStepOf z.number) same zone_fits.others) in
    subst (λ r. ShowsLocal zone r c.number local) (sym fits.is)
    (still_shows zone c.seen fits.rest c.number local holds.shows none_of fits.others (subst (IsLegalRun zone) fits.is legal))

pub legal_now : (zone : Zone) (run : Run) (cpu : ℕ) (local : State) (made_step : Step) → ShowsLocal zone run cpu local → (made_step.seat ≡ 0) ⊎ (made_step.seat ≡ cpu)
    → is_of_lock made_step.action ≡ false → is_legal local made_step.seat made_step.action ≡ true → is_legal (state_of zone run) made_step.seat made_step.action ≡ true
legal_now zone run cpu local made_step shows own inside legal =
    sym (own_legal (state_of zone run) cpu made_step.seat made_step.action (sound_run zone run shows.legal) own inside shows.holds)
    ∙ sym (ap (λ (l : State). is_legal l made_step.seat made_step.action) shows.sees) ∙ legal

pub same_seen : (z c : Past) (run : Run) (e : Step × Answer) (zone_fits : OthersFollow z.number z.seen run)
    → (fits : OthersFollow c.number c.seen run) → (grown z zone_fits.rest e).seen ≡ (grown c fits.rest e).seen
same_seen z c run e zone_fits fits = ap (λ r. r ++ e ∷ []) (sym zone_fits.is ∙ fits.is)

-- ---- what the holder sees after its step
held_own : (p q : ℕ) (hold : Hold) → holds_lock p hold ≡ true → is_held_by q hold ≡ true → holds_lock p (Visiting q) ≡ true
held_own p q (HeldBy r) holds held = sym (ap (λ (k : ℕ). holds_lock p (Visiting k)) (equal_test r q held)) ∙ same (r == p) holds
  where
    same : (b : Bool) → (b || false) ≡ true → b ≡ true
    same true e = refl
    same false e = e
held_own p q hold holds held = absurd (false≢true held)

visit_own : (p q : ℕ) (hold : Hold) → holds_lock p hold ≡ true → visits q hold ≡ true → holds_lock p (HeldBy q) ≡ true
visit_own p q hold holds visit = or_left _ false (eq-eqb q p (only_visit p q hold holds visit))

own_holds : (s : State) (p seat : ℕ) (action : Action) (answer : Answer) → is_of_lock action ≡ false → holds_lock p s.hold ≡ true →
    is_legal s seat action ≡ true → holds_lock p (after s seat action answer).hold ≡ true
own_holds s p seat action Illegal inside holds legal = ap (λ (t : State). holds_lock p t.hold) (after_illegal s seat action) ∙ holds
own_holds s p seat Lock answer inside holds legal = absurd (true≢false inside)
own_holds s p seat Unlock answer inside holds legal = absurd (true≢false inside)
own_holds s p seat (OpenVisit q) Done inside holds legal = held_own p q s.hold holds (open_visit_tests s seat q legal).1
own_holds s p seat (ShutVisit q) Done inside holds legal = visit_own p q s.hold holds (shut_visit_tests s seat q legal).1
own_holds s p seat action answer inside holds legal = holds

next_shows : (zone : Zone) (run : Run) (cpu : ℕ) (local : State) (made_step : Step) (answer : Answer) → ShowsLocal zone run cpu local
    → (made_step.seat ≡ 0) ⊎ (made_step.seat ≡ cpu) → is_of_lock made_step.action ≡ false → IsLegalRun zone (run ++ (made_step, answer) ∷ [])
    → ShowsLocal zone (run ++ (made_step, answer) ∷ []) cpu (after local made_step.seat made_step.action answer)
next_shows zone run cpu local made_step answer shows own inside legal =
    let s = state_of zone run in
    let seat = made_step.seat in
    let action = made_step.action in
    let more = state_more zone run made_step answer in
    elim (allowed s seat action answer (allowed_at zone run (made_step, answer) [] legal)) [
      | inl illegal ↦
          let stays : after s seat action answer ≡ s = ap (after s seat action) illegal ∙ after_illegal s seat action in record {
            legal = legal;
            holds = ap (λ (t : State). holds_lock cpu t.hold) (more ∙ stays) ∙ shows.holds;
            sees = ap (after local seat action) illegal ∙ after_illegal local seat action ∙ shows.sees ∙ sym (ap (seen_by cpu) (more ∙ stays));
          }
      | inr made ↦ record {
        legal = legal;
        holds = ap (λ (t : State). holds_lock cpu t.hold) more ∙ own_holds s cpu seat action answer inside shows.holds made.legal;
        sees =
            ap (λ (l : State). after l seat action answer) shows.sees
            ∙ sym (own_after s cpu seat action answer (sound_run zone run shows.legal) own inside shows.holds made.legal made.answered made.counted)
            ∙ sym (ap (seen_by cpu) more);
      }
    ]

-- the lock is still held, and the holder sees what its step makes of what it saw
pub record StillHolds (zone : Zone) (z c : Past) (later : State) : Type 0 where
  pub holds : HoldsLock zone z c (local_seen zone c)
  pub local_is : local_seen zone c ≡ later

pub next_holds : (zone : Zone) (run : Run) (z c : Past) (local : State) (made_step : Step) (answer : Answer) → HoldsLock zone z c local
    → (zone_fits : OthersFollow z.number z.seen run) → (fits : OthersFollow c.number c.seen run) → ShowsLocal zone run c.number local
    → (made_step.seat ≡ 0) ⊎ (made_step.seat ≡ c.number) → is_of_lock made_step.action ≡ false → IsLegalRun zone (run ++ (made_step, answer) ∷ [])
    → StillHolds zone (grown z zone_fits.rest (made_step, answer)) (grown c fits.rest (made_step, answer)) (after local made_step.seat made_step.action answer)
next_holds zone run z c local made_step answer has_lock zone_fits fits shows own inside legal =
    let e : Step × Answer = (made_step, answer) in
    let next : ShowsLocal zone ((c.seen ++ fits.rest) ++ e ∷ []) c.number (after local made_step.seat made_step.action answer) =
    subst (λ r. ShowsLocal zone (r ++ e ∷ []) c.number (after local made_step.seat made_step.action answer)) fits.is
    (next_shows zone run c.number local made_step answer shows own inside legal) in record {
      holds = record {
        zone_is = has_lock.zone_is;
        cpu_is = has_lock.cpu_is;
        same = same_seen z c run e zone_fits fits;
        shows = record { legal = next.legal; holds = next.holds; sees = refl };
      };
      local_is = sym next.sees;
    }
