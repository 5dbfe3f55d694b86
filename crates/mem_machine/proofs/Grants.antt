-- A charge of the ledger is a grant of the rules, and pages that were granted and not used are ungranted. Serves
-- `take_block` and `fill_stock`.
use Rattle.std.proofs.Common.{◌≡◌, ℕ, ◌+◌, ◌-◌, ◌^◌, ◌≤◌, true, false, length, List, refl, sym, ap, ◌∙◌, subst, arith, inl, inr}
use Rattle.std.specs.Prelude.{not}
use Rattle.std.proofs.lemmas.Bool.{and_from, le-leb, cases_eq}
use Rattle.std.proofs.lemmas.List.FromFn.{length-map-range_with_len}
use Rattle.std.proofs.lemmas.Nat.{pow_pos}
use Rattle.zone_blocks.specs.declared.block.Block.{Block}
use Rattle.zone_blocks.specs.{IsBlock, Covers, IsFreeBlock, HasNoneFrom}
use Rattle.zone_blocks.proofs.Nested.{greater_denied}
use Rattle.zone_blocks.proofs.Unique.{in_maximal}
use Rattle.group_tree.specs.declared.group.Group.{Group}
use Rattle.group_tree.specs.Groups.{has_group, limit_of}
use Rattle.group_tree.specs.Room as room
use Rattle.group_charge.specs.Charges.{AreCharges, current_of}
use Rattle.step_rules.specs.declared.step.Action.TheVariants.{Grant, Ungrant, PlaceBlock}
use Rattle.step_rules.specs.declared.step.Answer.TheVariants.{Done, Granted, Over, NoFreeBlock}
use Rattle.step_rules.specs.Phases as phases
use Rattle.step_rules.specs.State.{State}
use Rattle.step_rules.specs.{Zone, with_at, free_in, usage_of, after, is_legal, IsLocalStep}
use Rattle.step_rules.proofs.Basics.{at_same, at_other}
use Rattle.step_rules.proofs.Placing.{block_free}
use Rattle.boot_words.specs.{hide, IsHeld, KnownTable}
use Rattle.mem_machine.specs.{free_of, KnownMachine, IsConsistent, IsShownBy, is_killed, local_of}
use Rattle.mem_machine.proofs.Hiding.{is_free_seen}
use Rattle.mem_machine.proofs.Made.{zone_acts, zone_seen}
use Rattle.mem_machine.proofs.Reaching.{zone_step}
use Rattle.mem_machine.proofs.Records.{length_free, free_at}
use Rattle.mem_machine.proofs.Sight.{shown_seen}
use Rattle.mem_machine.proofs.Usage.{usage_is}

module _ (t : KnownTable) (m : KnownMachine) (ok : IsConsistent t m) (facts : AreCharges m.ledger) (held : IsHeld t m.run.past) (p g : ℕ)
    (there : has_group m.ledger.groups g ≡ true) where
  shown : IsShownBy t m (hide (local_of t m))
  shown = shown_seen t m ok held

  there_seen : has_group (local_of t m).groups g ≡ true
  there_seen = ap (λ (groups : List Group). has_group groups g) shown.groups ∙ there

  module _ (alive : is_killed m.killed g ≡ false) (n : ℕ) where
    may_grant : is_legal (local_of t m) 0 (Grant g n) ≡ true
    may_grant = and_from _ _ (and_from _ _ (zone_acts t m.run.past held) there_seen) (ap not (shown.killed g ∙ alive))

    -- the group has the same room by the rules as by the charges
    room_same : (h : ℕ) → room.has_room m.ledger.groups (usage_of (local_of t m)) h n ≡ room.has_room m.ledger.groups (current_of m.ledger) h n
    room_same h = ap (λ (k : ℕ). room.fits_limit (limit_of m.ledger.groups h) (k + n)) (usage_is t m ok facts held h)

    -- if the charges have room, the grant succeeds
    pub is_granted : room.PathHasRoom m.ledger.groups (current_of m.ledger) g n → IsLocalStep (local_of t m) p 0 (Grant g n) Granted
    is_granted path = zone_step (local_of t m) p (Grant g n) Granted refl may_grant
        (subst (λ (groups : List Group). room.PathHasRoom groups (usage_of (local_of t m)) g n) (sym shown.groups) (λ h on. room_same h ∙ path h on))

    -- if they have none, the grant names the same group
    pub is_over : (h : ℕ) → room.IsLowestOver m.ledger.groups (current_of m.ledger) g n h → IsLocalStep (local_of t m) p 0 (Grant g n) (Over h)
    is_over h low = zone_step (local_of t m) p (Grant g n) (Over h) refl may_grant
        (subst (λ (groups : List Group). room.IsLowestOver groups (usage_of (local_of t m)) g n h) (sym shown.groups) (record {
          on_path = low.on_path;
          over = room_same h ∙ low.over;
          lowest = λ k on none. low.lowest k on (sym (room_same k) ∙ none);
        }))

  -- ---- the pages that pend

  module _ (n : ℕ) where
    -- the state with the pages pending
    abbrev pub with_granted : State
    with_granted = after (local_of t m) 0 (Grant g n) Granted

    pub pending_is : with_granted.pending g ≡ n
    pending_is =
        let none = shown.settled g in
        let e : with_granted.pending g ≡ (local_of t m).pending g + n = at_same (local_of t m).pending g ((local_of t m).pending g + n) in
        omega (arith, none, e)

    -- they are ungranted
    pub is_taken_back : IsLocalStep with_granted p 0 (Ungrant g n) Done
    is_taken_back = zone_step with_granted p (Ungrant g n) Done refl
        (and_from _ _ (and_from _ _ (zone_acts t m.run.past held) there_seen) (le-leb n (with_granted.pending g) (let e = pending_is in omega (arith, e)))) tt

    -- as long as all of them are used or ungranted, none pends
    pub none_pends : (h : ℕ) → with_at with_granted.pending g (with_granted.pending g - n) h ≡ 0
    none_pends h = elim (cases_eq h g) [
      | inl e ↦ ap (with_at with_granted.pending g (with_granted.pending g - n)) e ∙ at_same with_granted.pending g (with_granted.pending g - n)
          ∙ (let all = pending_is in omega (arith, all))
      | inr ne ↦ at_other with_granted.pending g (with_granted.pending g - n) h ne
          ∙ at_other (local_of t m).pending g ((local_of t m).pending g + n) h ne ∙ shown.settled h
    ]

    -- pages of the group may be placed
    pub may_place : (k : ℕ) → 2 ^ k ≤ n → is_legal with_granted 0 (PlaceBlock g k) ≡ true
    may_place k enough = and_from _ _ (and_from _ _ (zone_acts t m.run.past held) there_seen)
        (le-leb (2 ^ k) (with_granted.pending g) (let e = pending_is in omega (arith, e, enough)))

-- ---- free blocks

module _ (t : KnownTable) (m : KnownMachine) (ok : IsConsistent t m) (held : IsHeld t m.run.past) where
  frames_seen : length (free_in (local_of t m).zone (local_of t m).phases) ≡ length (free_of m.frame_states)
  frames_seen = length-map-range_with_len (λ f. phases.is_free ((local_of t m).phases f)) 0 (local_of t m).zone.frames
      ∙ ap (λ (z : Zone). z.frames) (zone_seen t m.run.past) ∙ sym ok.sizes.frame_states ∙ sym (length_free m.frame_states)

  -- a free block by the rules is one of the machine
  free_block : (b : Block) → IsFreeBlock (free_in (local_of t m).zone (local_of t m).phases) b → IsFreeBlock (free_of m.frame_states) b
  free_block b is = record {
    block = subst (λ (n : ℕ). IsBlock n b) frames_seen is.block;
    all_free = λ f inside.
        let both = block_free (local_of t m).zone (local_of t m).phases b is f inside.from inside.before in
        let low = both.0 in
        let same = ap (λ (z : Zone). z.frames) (zone_seen t m.run.past) in
        let sized = ok.sizes.frame_states in
        free_at m.frame_states f (omega (arith, low, same, sized)) ∙ sym (is_free_seen t m (local_of t m) (shown_seen t m ok held) f) ∙ both.1;
  }

  -- if the machine has no block of the order or above, there is none to place
  pub none_to_place : (k : ℕ) → HasNoneFrom m.blocks k → (b : Block) → b.order ≡ k → IsFreeBlock (free_in (local_of t m).zone (local_of t m).phases) b → ⊥
  none_to_place k none b order is =
      let own = free_block b is in
      let some = pow_pos b.order in
      let here : Covers b b.at = record { from = omega arith; before = omega (arith, some) } in
      let top = in_maximal (free_of m.frame_states) b.at (own.all_free b.at here) in
      let low = none top.0 (ok.areas.all top.0 top.1) in
      greater_denied (free_of m.frame_states) top.0 b top.1 own b.at top.2 here (omega (arith, low, order))

  -- then no block can be placed for the pages that were granted
  pub is_not_placed : (facts : AreCharges m.ledger) (p g : ℕ) (there : has_group m.ledger.groups g ≡ true) (n k : ℕ) → 2 ^ k ≤ n → HasNoneFrom m.blocks k
      → IsLocalStep (with_granted t m ok facts held p g there n) p 0 (PlaceBlock g k) NoFreeBlock
  is_not_placed facts p g there n k enough none =
      zone_step (with_granted t m ok facts held p g there n) p (PlaceBlock g k) NoFreeBlock refl (may_place t m ok facts held p g there n k enough) (none_to_place k none)
