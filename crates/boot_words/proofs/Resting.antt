-- While nobody holds the lock only fast steps are made.
use Rattle.std.proofs.Common.{[], ◌≡◌, ◌≢◌, ℕ, ◌==◌, true, false, ◌∷◌, ◌++◌, append_assoc, length, ap, sym, ◌∙◌, subst, inl, inr}
use Rattle.std.specs.Prelude.{not}
use Rattle.std.proofs.lemmas.Bool.{and_parts, false≢true, true≢false}
use Rattle.step_rules.specs.declared.phase.Hold.{Hold}
use Rattle.step_rules.specs.declared.step.Step.{Step}
use Rattle.step_rules.specs.declared.step.Answer.{Answer}
use Rattle.step_rules.specs.declared.step.Action.{Action}
use Rattle.step_rules.specs.declared.step.Action.TheVariants.{Lock, Unlock, OpenVisit, ShutVisit, Get, Put, Freeze, Unfreeze, PassOut, TakeIn, PassBack, Collect, Consume, Credit, Report, Absorb, Fill, DrainStock, Grant, Ungrant, PlaceBlock, Publish, Return, Note, NoteGroupKill, SetMax, SetFlag, Make, Remove, Kill}
use Rattle.step_rules.specs.{Zone, is_unheld, may_zone_act, visits, is_legal, Allows, Run, after, state_of, IsLegalRun, is_of_lock, KeepsInvariant}
use Rattle.step_rules.specs.State.{State}
use Rattle.step_rules.proofs.LegalTests.{open_visit_tests, shut_visit_tests, freeze_tests, unfreeze_tests, pass_out_tests, take_in_tests, pass_back_tests, collect_tests, report_tests, absorb_tests, fill_tests, drain_stock_tests, grant_tests, ungrant_tests, place_block_tests, publish_tests, return_tests, set_max_tests, set_flag_tests, make_tests, remove_tests, kill_tests}
use Rattle.step_rules.proofs.PhaseLemmas.{unheld_visit, visited}
use Rattle.step_rules.proofs.Runs.{after_illegal, allowed, legal_from, sound_run, state_more}
use Rattle.boot_words.specs.{HasNoStepOf, IsFast, hide, LeavesLock, ZoneRests}
use Rattle.boot_words.proofs.Hiding.{fast_is_hidden}
use Rattle.boot_words.proofs.Holding.{allowed_at, append_none, take_length}

no_zone : (hold : Hold) (q : ℕ) → is_unheld hold ≡ true → may_zone_act hold q ≡ true → ⊥
no_zone hold q free may = false≢true (sym (ap not free) ∙ (and_parts (q == 0) (not (is_unheld hold)) may).1)

no_visit : (hold : Hold) (q : ℕ) → is_unheld hold ≡ true → visits q hold ≡ true → ⊥
no_visit hold q free visit = unheld_visit hold q free (visited q hold visit)

only_fast : (s : State) (q : ℕ) (action : Action) → KeepsInvariant s → is_unheld s.hold ≡ true → is_of_lock action ≡ false → is_legal s q action ≡ true → IsFast action
only_fast s q Lock sound free inside legal = absurd (true≢false inside)
only_fast s q Unlock sound free inside legal = absurd (true≢false inside)
only_fast s q (Get f) sound free inside legal = tt
only_fast s q (Put f) sound free inside legal = tt
only_fast s q (Consume g) sound free inside legal = tt
only_fast s q (Credit f) sound free inside legal = tt
only_fast s q (OpenVisit p) sound free inside legal = no_zone s.hold q free (open_visit_tests s q p legal).0
only_fast s q (ShutVisit p) sound free inside legal = no_zone s.hold q free (shut_visit_tests s q p legal).0
only_fast s q (Freeze f n) sound free inside legal = no_zone s.hold q free (freeze_tests s q f n legal).0
only_fast s q (Unfreeze f n) sound free inside legal = no_zone s.hold q free (unfreeze_tests s q f n legal).0
only_fast s q (PassOut f p) sound free inside legal = no_zone s.hold q free (pass_out_tests s q f p legal).0
only_fast s q (TakeIn f) sound free inside legal = unheld_visit s.hold q free ((sound.frames f).out q (take_in_tests s q f legal).2)
only_fast s q (PassBack f) sound free inside legal = no_visit s.hold q free (pass_back_tests s q f legal).2
only_fast s q (Collect f p) sound free inside legal = no_zone s.hold q free (collect_tests s q f p legal).0
only_fast s q (Report n) sound free inside legal = no_visit s.hold q free (report_tests s q n legal).1
only_fast s q (Absorb p) sound free inside legal = no_zone s.hold q free (absorb_tests s q p legal).0
only_fast s q (Fill p g n) sound free inside legal = no_zone s.hold q free (fill_tests s q p g n legal).0
only_fast s q (DrainStock p) sound free inside legal = no_zone s.hold q free (drain_stock_tests s q p legal).0
only_fast s q (Grant g n) sound free inside legal = no_zone s.hold q free (grant_tests s q g n legal).0
only_fast s q (Ungrant g n) sound free inside legal = no_zone s.hold q free (ungrant_tests s q g n legal).0
only_fast s q (PlaceBlock g k) sound free inside legal = no_zone s.hold q free (place_block_tests s q g k legal).0
only_fast s q (Publish f) sound free inside legal = no_zone s.hold q free (publish_tests s q f legal).0
only_fast s q (Return f) sound free inside legal = no_zone s.hold q free (return_tests s q f legal).0
only_fast s q (Note key g) sound free inside legal = no_zone s.hold q free (and_parts (may_zone_act s.hold q) _ legal).0
only_fast s q (NoteGroupKill g) sound free inside legal = no_zone s.hold q free
    (and_parts (may_zone_act s.hold q) _ (and_parts _ (not (g == 0)) legal).0).0
only_fast s q (SetMax g limit) sound free inside legal = no_zone s.hold q free (set_max_tests s q g limit legal).0
only_fast s q (SetFlag g flag) sound free inside legal = no_zone s.hold q free (set_flag_tests s q g flag legal).0
only_fast s q (Make path) sound free inside legal = no_zone s.hold q free (make_tests s q path legal).0
only_fast s q (Remove g) sound free inside legal = no_zone s.hold q free (remove_tests s q g legal).0
only_fast s q (Kill g) sound free inside legal = no_zone s.hold q free (kill_tests s q g legal).0

-- one step of a CPU, after which the lock still is free
one_rests : (zone : Zone) (run : Run) (e : Step × Answer) → IsLegalRun zone run → is_unheld (state_of zone run).hold ≡ true → e.0.seat ≢ 0 → is_of_lock e.0.action ≡ false
    → Allows (state_of zone run) e.0.seat e.0.action e.1 → hide (state_of zone (run ++ e ∷ [])) ≡ hide (state_of zone run)
one_rests zone run e legal free ne inside ok =
    let s = state_of zone run in
    elim (allowed s e.0.seat e.0.action e.1 ok) [
      | inl illegal ↦ ap hide (state_more zone run e.0 e.1 ∙ ap (after s e.0.seat e.0.action) illegal ∙ after_illegal s e.0.seat e.0.action)
      | inr made ↦ (fast_is_hidden zone run 0 e.0 e.1 legal ne ne (only_fast s e.0.seat e.0.action (sound_run zone run legal) free inside made.legal) ok).hidden
    ]

legal_before : (zone : Zone) (xs ys : Run) → IsLegalRun zone (xs ++ ys) → IsLegalRun zone xs
legal_before zone xs ys legal = subst (IsLegalRun zone) (take_length xs ys) (legal_from zone (xs ++ ys) (length xs) legal)

still_rests : (zone : Zone) (seen rest : Run) → IsLegalRun zone (seen ++ rest) → HasNoStepOf 0 rest → LeavesLock rest → is_unheld (state_of zone seen).hold ≡ true
    → hide (state_of zone (seen ++ rest)) ≡ hide (state_of zone seen)
still_rests zone seen [] legal none leaves free = ap (λ r. hide (state_of zone r)) (append_none seen)
still_rests zone seen (e ∷ es) legal none leaves free =
    let more = append_assoc seen (e ∷ []) es in
    let here = one_rests zone seen e (legal_before zone seen (e ∷ es) legal) free none.0 leaves.0 (allowed_at zone seen e es legal) in
    let still : is_unheld (state_of zone (seen ++ e ∷ [])).hold ≡ true = ap (λ (s : State). is_unheld s.hold) here ∙ free in
    ap (λ r. hide (state_of zone r)) (sym more) ∙ still_rests zone (seen ++ e ∷ []) es (subst (IsLegalRun zone) (sym more) legal) none.1 leaves.1 still ∙ here

pub zone_rests : ZoneRests
zone_rests zone run z legal past zone_is free =
    let goes = past.goes in
    ap (λ r. hide (state_of zone r)) goes.is
    ∙ still_rests zone z.seen goes.rest (subst (IsLegalRun zone) goes.is legal) (subst (λ k. HasNoStepOf k goes.rest) zone_is goes.others) (past.leaves_lock zone_is) free
