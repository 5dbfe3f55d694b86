-- Every legal step keeps what holds of the state, and so does every legal run.
use Rattle.std.proofs.Common.{◌≡◌, ℕ, ◌<◌, ◌≤◌, ◌&&◌, ◌||◌, ◌==◌, true, length, refl, inl, inr}
use Rattle.std.specs.Prelude.{nat_le}
use Rattle.std.proofs.lemmas.Bool.{and_parts, leb-true, ltb-true, or_cases}
use Rattle.step_rules.specs.declared.phase.Hold.TheVariants.{Unheld, HeldBy, Visiting}
use Rattle.step_rules.specs.declared.step.Action.{Action}
use Rattle.step_rules.specs.declared.step.Action.TheVariants.{Lock, Unlock, OpenVisit, ShutVisit, Get, Put, Freeze, Unfreeze, PassOut}
use Rattle.step_rules.specs.declared.step.Action.TheVariants.{TakeIn, PassBack, Collect, Consume, Credit, Report, Absorb, Fill, DrainStock}
use Rattle.step_rules.specs.declared.step.Action.TheVariants.{Grant, Ungrant, PlaceBlock, Return, SetMax, SetFlag, Make, Remove, Kill}
use Rattle.step_rules.specs.declared.step.Answer.{Answer}
use Rattle.step_rules.specs.declared.step.Answer.TheVariants.{Done, Held, Left, Last, Took, Stocked, Pages, Granted, Placed, Number}
use Rattle.step_rules.specs.Phases.{ListFrame, FreshFrame, has_as, passes_out, passes_back, is_free, is_head_in_hand, is_returnable}
use Rattle.step_rules.specs.Phases as kinds
use Rattle.step_rules.specs.{Zone, is_cpu, is_frame, is_unheld, is_held_by, visits, front_of, is_legal, IsAnswer, IsCounted, nothing_passes}
use Rattle.step_rules.specs.{is_passable, takes_fill, after, without_unit, StateInvariant, KeepsInvariant}
use Rattle.step_rules.specs.State.{State}
use Rattle.step_rules.proofs.LegalTests.{collect_tests, consume_tests, credit_tests, fill_tests, freeze_tests, get_tests}
use Rattle.step_rules.proofs.LegalTests.{lock_tests, open_visit_tests, pass_back_tests, pass_out_tests, put_tests, report_tests}
use Rattle.step_rules.proofs.LegalTests.{return_tests, shut_visit_tests, take_in_tests, unfreeze_tests, unlock_tests}
use Rattle.step_rules.proofs.PhaseLemmas.{Returns, AsEnded, AsKilled, returning_is, unheld_visit, held_visit, visited, held_live}
use Rattle.step_rules.proofs.Referring.{live_from_references, live_from_one, seat_there, sound_referred, sound_frozen, sound_last, sound_unfrozen}
use Rattle.step_rules.proofs.Passing.{sound_passed_out, sound_taken_in, sound_sent_listed, sound_sent_fresh, sound_sent_back}
use Rattle.step_rules.proofs.Passing.{sound_collected, sound_consumed, sound_credited}
use Rattle.step_rules.proofs.Placing.{sound_placed, sound_returned, sound_hold, visit_rests, sound_reported, sound_absorbed, sound_drained, sound_filled}

pub below_frames : (zone : Zone) (f : ℕ) → is_frame zone f ≡ true → f < zone.frames
below_frames zone f e = ltb-true f zone.frames e

pub cpu_range : (zone : Zone) (p : ℕ) → is_cpu zone p ≡ true → (1 ≤ p) × (p ≤ zone.cpus)
cpu_range zone p e = let both = and_parts (nat_le 1 p) (nat_le p zone.cpus) e in (leb-true 1 p both.0, leb-true p zone.cpus both.1)

returned : (s : State) (f : ℕ) → KeepsInvariant s → Returns s.killed (s.phases f) → StateInvariant s.zone s.hold (without_unit s.phases f) s.references s.parts
returned s f sound (AsEnded u was) = sound_returned s f u _ sound was refl
returned s f sound (AsKilled u was killed) = sound_returned s f u _ sound was refl

pub sound_step : (s : State) (seat : ℕ) (action : Action) (answer : Answer) → KeepsInvariant s → is_legal s seat action ≡ true →
    IsAnswer s seat action answer → IsCounted s action answer → KeepsInvariant (after s seat action answer)
sound_step s seat Lock Done sound legal ok counted =
    let free : is_unheld s.hold ≡ true = (lock_tests s seat legal).1 in
    sound_hold s.zone s.hold (HeldBy seat) s.phases s.references s.parts sound (λ f q e. absurd (unheld_visit s.hold q free e))
sound_step s seat Unlock Done sound legal ok counted =
    let held : is_held_by seat s.hold ≡ true = (unlock_tests s seat legal).1 in
    sound_hold s.zone s.hold Unheld s.phases s.references s.parts sound (λ f q e. absurd (held_visit seat s.hold q held e))
sound_step s seat (OpenVisit p) Done sound legal ok counted =
    let held : is_held_by p s.hold ≡ true = (open_visit_tests s seat p legal).1 in
    sound_hold s.zone s.hold (Visiting p) s.phases s.references s.parts sound (λ f q e. absurd (held_visit p s.hold q held e))
sound_step s seat (ShutVisit p) Done sound legal ok counted =
    let visit : visits p s.hold ≡ true = (shut_visit_tests s seat p legal).1 in
    let rest : nothing_passes s p ≡ true = (shut_visit_tests s seat p legal).2 in
    sound_hold s.zone s.hold (HeldBy p) s.phases s.references s.parts sound (visit_rests s p sound (visited p s.hold visit) rest)
sound_step s seat (Get f) Held sound legal ok counted =
    let cpu : is_cpu s.zone seat ≡ true = (get_tests s seat f legal).0 in
    sound_referred s seat f _ sound (live_from_references s f sound (held_live _ counted)) (cpu_range s.zone seat cpu).1
sound_step s seat (Put f) (Left n) sound legal ok counted =
    let some : nat_le 1 (s.references seat f) ≡ true = (put_tests s seat f legal).2 in
    let one : 1 ≤ s.references seat f = leb-true 1 (s.references seat f) some in
    sound_referred s seat f _ sound (live_from_one s seat f sound one) (seat_there s seat f sound one)
sound_step s seat (Put f) Last sound legal ok counted =
    let some : nat_le 1 (s.references seat f) ≡ true = (put_tests s seat f legal).2 in
    let frame : is_frame s.zone f ≡ true = (put_tests s seat f legal).1 in
    sound_last s seat f sound (below_frames s.zone f frame) (leb-true 1 (s.references seat f) some) counted
sound_step s seat (Freeze f n) Done sound legal ok counted =
    let frame : is_frame s.zone f ≡ true = (freeze_tests s seat f n legal).1 in
    let some : nat_le 1 n ≡ true = (freeze_tests s seat f n legal).2 in
    let holds : nat_le n (s.references 0 f) ≡ true = (freeze_tests s seat f n legal).3 in
    sound_frozen s f n sound (below_frames s.zone f frame) (leb-true 1 n some) (leb-true n (s.references 0 f) holds) counted
sound_step s seat (Unfreeze f n) Done sound legal ok counted =
    let frame : is_frame s.zone f ≡ true = (unfreeze_tests s seat f n legal).1 in
    let hand : is_head_in_hand (s.phases f) ≡ true = (unfreeze_tests s seat f n legal).2 in
    sound_unfrozen s f _ sound (below_frames s.zone f frame) hand
sound_step s seat (PassOut f p) Done sound legal ok counted =
    let frame : is_frame s.zone f ≡ true = (pass_out_tests s seat f p legal).1 in
    let visit : visits p s.hold ≡ true = (pass_out_tests s seat f p legal).2 in
    let free : is_free (s.phases f) ≡ true = (pass_out_tests s seat f p legal).3 in
    sound_passed_out s f p sound (below_frames s.zone f frame) (visited p s.hold visit) free
sound_step s seat (TakeIn f) Done sound legal ok counted =
    let frame : is_frame s.zone f ≡ true = (take_in_tests s seat f legal).1 in
    let passes : passes_out seat (s.phases f) ≡ true = (take_in_tests s seat f legal).2 in
    sound_taken_in s f seat sound (below_frames s.zone f frame) passes
sound_step s seat (PassBack f) Done sound legal ok counted =
    let frame : is_frame s.zone f ≡ true = (pass_back_tests s seat f legal).1 in
    let visit : visits seat s.hold ≡ true = (pass_back_tests s seat f legal).2 in
    let may : is_passable s seat f ≡ true = (pass_back_tests s seat f legal).3 in
    let below = below_frames s.zone f frame in
    let at = visited seat s.hold visit in
    elim (or_cases (has_as ListFrame seat (s.phases f) && front_of (s.parts seat).list == f || has_as FreshFrame seat (s.phases f))
    (has_as kinds.BackFrame seat (s.phases f)) may) [
      | inl first ↦ elim (or_cases (has_as ListFrame seat (s.phases f) && front_of (s.parts seat).list == f) (has_as FreshFrame seat (s.phases f)) first) [
        | inl front ↦ sound_sent_listed s f seat sound below at (and_parts (has_as ListFrame seat (s.phases f)) (front_of (s.parts seat).list == f) front).0
        | inr fresh ↦ sound_sent_fresh s f seat sound below at fresh
      ]
      | inr back ↦ sound_sent_back s f seat sound below at back
    ]
sound_step s seat (Collect f p) Done sound legal ok counted =
    let frame : is_frame s.zone f ≡ true = (collect_tests s seat f p legal).1 in
    let passes : passes_back p (s.phases f) ≡ true = (collect_tests s seat f p legal).3 in
    sound_collected s f p sound (below_frames s.zone f frame) passes
sound_step s seat (Consume g) Took sound legal ok counted =
    let cpu : is_cpu s.zone seat ≡ true = (consume_tests s seat g legal).0 in
    let some : nat_le 1 (length (s.parts seat).list) ≡ true = (consume_tests s seat g legal).1 in
    let range = cpu_range s.zone seat cpu in
    sound_consumed s seat g sound range.0 range.1 (leb-true 1 (length (s.parts seat).list) some) ok.0 ok.2
sound_step s seat (Credit f) Stocked sound legal ok counted =
    let frame : is_frame s.zone f ≡ true = (credit_tests s seat f legal).1 in
    let fresh : has_as FreshFrame seat (s.phases f) ≡ true = (credit_tests s seat f legal).2 in
    sound_credited s f seat sound (below_frames s.zone f frame) fresh
sound_step s seat (Report n) Done sound legal ok counted =
    let few : nat_le n (s.parts seat).unreported ≡ true = (report_tests s seat n legal).2 in
    sound_reported s seat n sound (leb-true n (s.parts seat).unreported few)
sound_step s seat (Absorb p) (Pages n) sound legal ok counted = sound_absorbed s p n sound ok
sound_step s seat (Fill p g n) Done sound legal ok counted =
    let may : takes_fill (s.parts p) g ≡ true = (fill_tests s seat p g n legal).3 in
    sound_filled s p g n sound may
sound_step s seat (DrainStock p) (Pages n) sound legal ok counted = sound_drained s p n sound counted
sound_step s seat (Grant g n) Granted sound legal ok counted = sound
sound_step s seat (Ungrant g n) Done sound legal ok counted = sound
sound_step s seat (PlaceBlock g k) (Placed b) sound legal ok counted = sound_placed s g b sound ok.1
sound_step s seat (Return f) Done sound legal ok counted =
    let may : is_returnable s.killed (s.phases f) ≡ true = (return_tests s seat f legal).2 in
    returned s f sound (returning_is s.killed (s.phases f) may)
sound_step s seat (SetMax g limit) Done sound legal ok counted = sound
sound_step s seat (SetFlag g flag) Done sound legal ok counted = sound
sound_step s seat (Make path) (Number n) sound legal ok counted = sound
sound_step s seat (Remove g) Done sound legal ok counted = sound
sound_step s seat (Kill g) Done sound legal ok counted = sound
sound_step s seat action answer sound legal ok counted = sound
