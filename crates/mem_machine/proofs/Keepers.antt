-- Serves whoever names the group that a frame is charged to: it is there.
use Rattle.std.proofs.Common.{◌≡◌, ℕ, ◌<◌, ◌≤◌, true, cond, length, ap, arith}
use Rattle.std.proofs.lemmas.Bool.{eq-eqb}
use Rattle.group_tree.specs.Groups.{has_group}
use Rattle.group_charge.specs.Charges.{AreCharges}
use Rattle.step_rules.proofs.Sums.{sum_part}
use Rattle.boot_words.specs.Tables.{KnownTable}
use Rattle.mem_machine.specs.declared.frame_state.FrameState.{FrameState}
use Rattle.mem_machine.specs.declared.frame_state.FrameState.TheVariants.{Free, Lent, Head, Tail}
use Rattle.mem_machine.specs.declared.frame_state.Place.TheVariants as place
use Rattle.mem_machine.specs.{frame_state_at, place_of, frame_state_group, one_if_is, KnownMachine, IsConsistent, frames_charged}
use Rattle.mem_machine.proofs.Draining.{charged_there}

-- a frame that is charged to the group counts as one
counts : (s : FrameState) (g : ℕ) → place_of s ≡ place.Charged g → one_if_is g (frame_state_group s) ≡ 1
counts Free g is = cc
counts (Lent p) g is = cc
counts (Head unit) g is = let e : unit.group ≡ g = cc in ap (λ b. cond b 1 0) (eq-eqb unit.group g e)
counts (Tail h) g is = let e : h ≡ g = cc in ap (λ b. cond b 1 0) (eq-eqb h g e)

-- the group that a frame is charged to is there
pub keeper_there : (t : KnownTable) (m : KnownMachine) (f g : ℕ) → IsConsistent t m → AreCharges m.ledger → f < t.frames
    → place_of (frame_state_at m.frame_states f) ≡ place.Charged g → has_group m.ledger.groups g ≡ true
keeper_there t m f g good legal inside is =
    let one = counts (frame_state_at m.frame_states f) g is in
    let sized = good.sizes.frame_states in
    let part = sum_part (length m.frame_states) (λ (x : ℕ). one_if_is g (frame_state_group (frame_state_at m.frame_states x))) f (omega arith) in
    let all = good.shown.charged g in
    let some : 1 ≤ frames_charged m.frame_states g = omega (arith, one, part) in
    charged_there m.ledger g legal (omega (arith, all, some))
