-- A block's frames become a unit, one record after the other. Serves `place_unit`.
use Rattle.std.proofs.Common.{◌≡◌, ℕ, ◌^◌, ◌≤◌, ◌<◌, ◌==◌, Bool, true, false, cond, List, length, ap, ◌∙◌, arith, inl, inr}
use Rattle.std.proofs.lemmas.Bool.{eq-eqb, ne_eqb}
use Rattle.std.proofs.lemmas.Nat.{pow_pos}
use Rattle.zone_blocks.specs.declared.block.Block.{Block}
use Rattle.step_rules.specs.After.{is_within}
use Rattle.step_rules.proofs.Placing.{within_cases}
use Rattle.mem_machine.specs.declared.frame_state.FrameState.{FrameState}
use Rattle.mem_machine.specs.declared.frame_state.FrameState.TheVariants.{Head, Tail}
use Rattle.mem_machine.specs.{frame_state_at, placed_frame_state}

-- the frames from `at` up to this one are tails of the group, and all others have the records that they had
pub record TailsTo (old : List FrameState) (at g frame : ℕ) (now : List FrameState) : Type 0 where
  pub frames : length now ≡ length old
  pub inside : (f : ℕ) → at ≤ f → f < frame → frame_state_at now f ≡ Tail g
  pub outside : (f : ℕ) → (at ≤ f → f < frame → ⊥) → frame_state_at now f ≡ frame_state_at old f

-- the record of a frame of the block, and of one beside it
pub in_block : (frame_states : List FrameState) (g : ℕ) (b : Block) (f : ℕ) → is_within b.at (2 ^ b.order) f ≡ true
    → placed_frame_state frame_states g b f ≡ cond (f == b.at) (Head (record { group = g; order = b.order })) (Tail g)
in_block frame_states g b f w =
    ap (λ (x : Bool). cond x (cond (f == b.at) (Head (record { group = g; order = b.order })) (Tail g)) (frame_state_at frame_states f)) w

pub off_block : (frame_states : List FrameState) (g : ℕ) (b : Block) (f : ℕ) → is_within b.at (2 ^ b.order) f ≡ false → placed_frame_state frame_states g b f ≡ frame_state_at frame_states f
off_block frame_states g b f w =
    ap (λ (x : Bool). cond x (cond (f == b.at) (Head (record { group = g; order = b.order })) (Tail g)) (frame_state_at frame_states f)) w

pub head_of_block : (frame_states : List FrameState) (g : ℕ) (b : Block) (f : ℕ) → f ≡ b.at → placed_frame_state frame_states g b f ≡ Head (record { group = g; order = b.order })
head_of_block frame_states g b f e =
    let some = pow_pos b.order in
    elim (within_cases b.at (2 ^ b.order) f) [
      | inl w ↦ in_block frame_states g b f w.0 ∙ ap (λ (x : Bool). cond x (Head (record { group = g; order = b.order })) (Tail g)) (eq-eqb f b.at e)
      | inr out ↦ absurd (out.1 (omega (arith, e)) (omega (arith, e, some)))
    ]

pub tail_of_block : (frame_states : List FrameState) (g : ℕ) (b : Block) (f : ℕ) → is_within b.at (2 ^ b.order) f ≡ true → (f ≡ b.at → ⊥)
    → placed_frame_state frame_states g b f ≡ Tail g
tail_of_block frame_states g b f w ne =
    in_block frame_states g b f w ∙ ap (λ (x : Bool). cond x (Head (record { group = g; order = b.order })) (Tail g)) (ne_eqb f b.at ne)
