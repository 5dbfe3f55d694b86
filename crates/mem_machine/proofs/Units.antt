-- The units after a block of frames that were charged to no group was placed for one. Serves all calls that charge a
-- unit.
use Rattle.std.proofs.Common.{◌≡◌, ℕ, ◌+◌, ◌^◌, ◌≤◌, ◌<◌, true, false, None, List, length, refl, sym, ap, ◌∙◌, subst, arith, inl, inr}
use Rattle.std.proofs.lemmas.Bool.{cases_eq}
use Rattle.std.proofs.lemmas.Option.{none-some}
use Rattle.zone_blocks.specs.declared.block.Block.{Block}
use Rattle.zone_blocks.specs.Block.{IsBlock}
use Rattle.step_rules.specs.declared.phase.ChargedUnit.{ChargedUnit}
use Rattle.step_rules.specs.After.{is_within}
use Rattle.step_rules.proofs.Placing.{within_cases}
use Rattle.mem_machine.specs.declared.frame_state.FrameState.{FrameState}
use Rattle.mem_machine.specs.declared.frame_state.FrameState.TheVariants.{Head, Tail}
use Rattle.mem_machine.specs.{frame_state_at, frame_state_group, head_group_of, AreUnits, IsUnitAt, IsTailOf, PlacesUnit}
use Rattle.mem_machine.proofs.PlacesUnits.{head_of_block, tail_of_block, off_block}

-- the unit and the group that a record names
abbrev told_unit : FrameState → ChargedUnit
told_unit (Head unit) = unit
told_unit x = record { group = 0; order = 0 }

abbrev told_group : FrameState → ℕ
told_group (Tail g) = g
told_group x = 0

module _ (old new : List FrameState) (g : ℕ) (b : Block) (placed : PlacesUnit g b old new) (block : IsBlock (length old) b)
    (uncharged : (f : ℕ) → b.at ≤ f → f < b.at + 2 ^ b.order → frame_state_group (frame_state_at old f) ≡ None) (units : AreUnits old) where
  abbrev mine : ChargedUnit
  mine = record { group = g; order = b.order }

  sized : length new ≡ length old
  sized = placed.frames

  frame_state_in : (f : ℕ) → f ≡ b.at → frame_state_at new f ≡ Head mine
  frame_state_in f e = placed.records f ∙ head_of_block old g b f e

  frame_state_tail : (f : ℕ) → is_within b.at (2 ^ b.order) f ≡ true → (f ≡ b.at → ⊥) → frame_state_at new f ≡ Tail g
  frame_state_tail f w ne = placed.records f ∙ tail_of_block old g b f w ne

  frame_state_out : (f : ℕ) → is_within b.at (2 ^ b.order) f ≡ false → frame_state_at new f ≡ frame_state_at old f
  frame_state_out f w = placed.records f ∙ off_block old g b f w

  tail_stays : (x h : ℕ) → frame_state_at old x ≡ Tail h → frame_state_at new x ≡ Tail h
  tail_stays x h is = elim (within_cases b.at (2 ^ b.order) x) [
    | inl w ↦ absurd (none-some h (sym (uncharged x w.1 w.2) ∙ ap frame_state_group is))
    | inr out ↦ frame_state_out x out.0 ∙ is
  ]

  head_stays : (x : ℕ) (unit : ChargedUnit) → frame_state_at old x ≡ Head unit → frame_state_at new x ≡ Head unit
  head_stays x unit is = elim (within_cases b.at (2 ^ b.order) x) [
    | inl w ↦ absurd (none-some unit.group (sym (uncharged x w.1 w.2) ∙ ap frame_state_group is))
    | inr out ↦ frame_state_out x out.0 ∙ is
  ]

  head_is : frame_state_at new b.at ≡ Head mine
  head_is = frame_state_in b.at refl

  placed_unit : IsUnitAt new b.at mine
  placed_unit = record {
    block = subst (λ (n : ℕ). IsBlock n b) (sym sized) block;
    tails = λ x from before. elim (within_cases b.at (2 ^ b.order) x) [
      | inl w ↦ frame_state_tail x w.0 (λ e. absurd (omega arith))
      | inr out ↦ absurd (out.1 (omega arith) before)
    ];
  }

  heads_are : (f : ℕ) (unit : ChargedUnit) → frame_state_at new f ≡ Head unit → IsUnitAt new f unit
  heads_are f unit is = elim (within_cases b.at (2 ^ b.order) f) [
    | inl w ↦ elim (cases_eq f b.at) [
      | inl e ↦ subst (λ (x : ℕ). IsUnitAt new x unit) (sym e)
          (subst (IsUnitAt new b.at) (ap told_unit (sym (frame_state_in f e) ∙ is)) placed_unit)
      | inr ne ↦ absurd (none-some unit.group (ap head_group_of (sym (frame_state_tail f w.0 ne) ∙ is)))
    ]
    | inr out ↦
        let before = units.heads f unit (sym (frame_state_out f out.0) ∙ is) in
        record {
          block = subst (λ (n : ℕ). IsBlock n (record { at = f; order = unit.order })) (sym sized) before.block;
          tails = λ x from below. tail_stays x unit.group (before.tails x from below);
        }
  ]

  tails_are : (x h : ℕ) → frame_state_at new x ≡ Tail h → IsTailOf new x h
  tails_are x h is = elim (within_cases b.at (2 ^ b.order) x) [
    | inl w ↦ elim (cases_eq x b.at) [
      | inl e ↦ absurd (none-some g (ap head_group_of (sym is ∙ frame_state_in x e)))
      | inr ne ↦ record {
        head = b.at;
        unit = mine;
        heads = head_is;
        group = ap told_group (sym (frame_state_tail x w.0 ne) ∙ is);
        from = let low = w.1 in omega arith;
        before = w.2;
      }
    ]
    | inr out ↦
        let old_tail = units.tails x h (sym (frame_state_out x out.0) ∙ is) in
        record {
          head = old_tail.head;
          unit = old_tail.unit;
          heads = head_stays old_tail.head old_tail.unit old_tail.heads;
          group = old_tail.group;
          from = old_tail.from;
          before = old_tail.before;
        }
  ]

  -- each head has its unit, and each tail lies in one
  pub units_placed : AreUnits new
  units_placed = record { heads = heads_are; tails = tails_are }
