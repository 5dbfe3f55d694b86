-- A block is charged to a group and taken, or none is there. Serves `take_block`.
use Rattle.std.proofs.Common.{◌≡◌, ℕ, zero, suc, ◌+◌, ◌-◌, ◌^◌, ◌≤◌, ◌<◌, ◌==◌, Bool, true, false, cond, Option, Some, None, List, [], ◌∷◌, length, get_or, refl, sym, ap, ◌∙◌, subst, arith, inl, inr, eq-eqb}
use Rattle.std.specs.List.{fold}
use Rattle.std.specs.Prelude.{is_some, nat_le}
use Rattle.std.specs.Cmp.{both_ways}
use Rattle.std.proofs.lemmas.Bool.{and_from, cases_eq, cond-true, false≢true, le-leb, lt-ltb, ne_eqb}
use Rattle.std.proofs.lemmas.List.{ext_get_or}
use Rattle.std.proofs.lemmas.List.FromFn.{get_or-map-range_with_len, length-map-range_with_len}
use Rattle.std.proofs.lemmas.Nat.{pow_pos}
use Rattle.std.proofs.lemmas.Option.{none-some}
use Rattle.zone_blocks.specs.declared.block.Block.{Block}
use Rattle.zone_blocks.specs.{IsBlock, IsFree, IsFreeBlock, AreMaximalBlocks, HasNoneFrom, IsFrontOfSmallest, TakesFrames, block_at}
use Rattle.zone_blocks.proofs.Halves.{lower_half}
use Rattle.group_tree.specs.Groups.{room_of}
use Rattle.group_tree.proofs.CallerLemmas.{number_in_room}
use Rattle.group_tree.specs.{has_group, PathHasRoom, IsLowestOver}
use Rattle.group_charge.specs.Charges.{Ledger, current_of, pages_of, with_charge, with_uncharge, PagesRise, AreCharges}
use Rattle.group_charge.proofs.CallerLemmas.{uncharge_events, uncharge_pages, uncharge_peaks}
use Rattle.lru_lists.specs.declared.record.Home.{Home}
use Rattle.lru_lists.specs.declared.record.Link.{Link}
use Rattle.lru_lists.specs.declared.lru.Lru.{Lru}
use Rattle.step_rules.specs.declared.phase.ChargedUnit.{ChargedUnit}
use Rattle.step_rules.specs.declared.phase.Stage.TheVariants.{Bare, Live}
use Rattle.step_rules.specs.declared.phase.Phase.TheVariants as phase
use Rattle.step_rules.specs.declared.step.Action.TheVariants.{Grant, PlaceBlock, Publish, Ungrant, Unfreeze}
use Rattle.step_rules.specs.declared.step.Answer.TheVariants.{Done, Granted, NoFreeBlock, Over, Placed}
use Rattle.step_rules.specs.Phases.{at_stage, is_head, is_head_in_hand}
use Rattle.step_rules.specs.Phases as phases
use Rattle.step_rules.specs.State.{State}
use Rattle.step_rules.specs.{Zone, free_in, is_frame, one_if, Run, after, is_within, placed_phase, is_legal, IsLocalRun, zone_makes}
use Rattle.step_rules.proofs.Basics.{at_same, at_other}
use Rattle.step_rules.proofs.Placing.{within_cases}
use Rattle.boot_words.specs.{hide, hide_phase, IsHeld, KnownTable}
use Rattle.mem_machine.specs.declared.frame_state.FrameState.{FrameState}
use Rattle.mem_machine.specs.declared.frame_state.FrameState.TheVariants.{Free, Head, Tail}
use Rattle.mem_machine.specs.{frame_state_at, is_free_state, free_of, frame_state_group, head_group_of, phase_hidden, KnownMachine, FitsFrameState}
use Rattle.mem_machine.specs.{IsConsistent, IsShownBy, home_of, is_killed, KnownRun, MayTakeAll, Records, after_made, MayCharge, over_steps, PlacesUnit}
use Rattle.mem_machine.specs.{TakesBlock, TakesNoBlock, taken_steps, unplaced_steps, Makes, StaysVisited, lock_holder, local_of}
use Rattle.mem_machine.specs.Steps.{publish_steps}
use Rattle.mem_machine.proofs.BlockCharges.{charges_rise}
use Rattle.mem_machine.proofs.Followed.{follows_same, same_events}
use Rattle.mem_machine.proofs.Grants.{is_granted, is_not_placed, is_over, is_taken_back, may_place, none_pends, with_granted}
use Rattle.mem_machine.proofs.GroupSteps.{AllGrouped, IsGroupStep, grouped}
use Rattle.mem_machine.proofs.Hiding.{is_free_seen}
use Rattle.mem_machine.proofs.Joins.{AllJoin}
use Rattle.mem_machine.proofs.LedgerMoves.{follows_grant}
use Rattle.mem_machine.proofs.Made.{held_here, makes, zone_acts, zone_seen}
use Rattle.mem_machine.proofs.Noted.{may_all, notes_both, run_steps}
use Rattle.mem_machine.proofs.PlacesUnits.{head_of_block, in_block, off_block, tail_of_block}
use Rattle.mem_machine.proofs.Reaching.{zone_step}
use Rattle.mem_machine.proofs.Records.{length_free, free_at, free_is, free_inside}
use Rattle.mem_machine.proofs.Sight.{left_then, shown_seen}
use Rattle.mem_machine.proofs.Units.{units_placed}
use Rattle.mem_machine.proofs.Usage.{usage_is}
use Rattle.mem_machine.proofs.ZoneSteps.{zone_visited}

-- ---- the block that was taken

-- the front of a block is a block
front_is_block : (n at e d : ℕ) → IsBlock n (block_at at (e + d)) → IsBlock n (block_at at e)
front_is_block n at e zero h = let s : e + zero ≡ e = omega arith in subst (λ (x : ℕ). IsBlock n (block_at at x)) s h
front_is_block n at e (suc d) h =
    let s : e + suc d ≡ e + d + 1 = omega arith in
    front_is_block n at e d (lower_half n at (e + d) (subst (λ (x : ℕ). IsBlock n (block_at at x)) s h))

used_in_block : (g : ℕ) (b : Block) (x : Bool) → is_free_state (cond x (Head (record { group = g; order = b.order })) (Tail g)) ≡ false
used_in_block g b true = refl
used_in_block g b false = refl

module _ (old : List FrameState) (blocks : List Block) (areas : AreMaximalBlocks (free_of old) blocks) (before free : List Bool) (was : before ≡ free_of old)
    (k : ℕ) (b : Block) (front : IsFrontOfSmallest blocks k b) (takes : TakesFrames before b free) where
  pub taken_inside : IsBlock (length old) b
  taken_inside =
      let s = front.is_smallest in
      let whole = (areas.each front.smallest s.there).is_free.block in
      let enough = s.sufficient in
      let order : front.smallest.order ≡ k + (front.smallest.order - k) = omega (arith, enough) in
      let long : length (free_of old) ≡ length old = length_free old in
      let named : IsBlock (length old) (block_at front.smallest.at (k + (front.smallest.order - k))) =
      subst (λ (x : ℕ × ℕ). IsBlock x.0 (block_at front.smallest.at x.1)) (λ i. (long i, order i)) whole in
      subst (IsBlock (length old)) (λ i. record { at = sym front.front i; order = sym front.order_is i })
      (front_is_block (length old) front.smallest.at k (front.smallest.order - k) named)

  pub taken_free : (f : ℕ) → b.at ≤ f → f < b.at + 2 ^ b.order → frame_state_at old f ≡ Free
  taken_free f low high =
      let is : IsFree (free_of old) f = subst (λ (l : List Bool). IsFree l f) was (takes.were_free f (record { from = low; before = high })) in
      let inside = free_inside old f is in
      free_is (frame_state_at old f) (sym (free_at old f inside) ∙ is)

  pub head_free : frame_state_at old b.at ≡ Free
  head_free = let some = pow_pos b.order in taken_free b.at (omega arith) (omega (arith, some))

  pub head_inside : b.at < length old
  head_inside = let h = taken_inside.inside in let some = pow_pos b.order in omega (arith, h, some)

  -- the free frames are those of the records once the unit is placed
  pub free_then : (frame_states : List FrameState) (g : ℕ) → PlacesUnit g b old frame_states → free ≡ free_of frame_states
  free_then frame_states g placed =
      let sized : length free ≡ length (free_of frame_states) =
      takes.same_length ∙ ap (λ (l : List Bool). length l) was ∙ length_free old ∙ sym placed.frames ∙ sym (length_free frame_states) in
      ext_get_or false free (free_of frame_states) sized (λ f within.
      let room : f < length frame_states = subst (λ (n : ℕ). f < n) (sized ∙ length_free frame_states) within in
      let now = free_at frame_states f room in
      elim (within_cases b.at (2 ^ b.order) f) [
        | inl w ↦
            let used : is_free_state (frame_state_at frame_states f) ≡ false =
            ap is_free_state (placed.records f ∙ in_block old g b f w.0) ∙ used_in_block g b (f == b.at) in
            both_ways _ _ (λ a. absurd (takes.in_use f (record { from = w.1; before = w.2 }) a)) (λ c. absurd (false≢true (sym used ∙ sym now ∙ c)))
        | inr out ↦
            let there : f < length old = subst (λ (n : ℕ). f < n) placed.frames room in
            let earlier : get_or before f false ≡ is_free_state (frame_state_at old f) = ap (λ (l : List Bool). get_or l f false) was ∙ free_at old f there in
            let same : is_free_state (frame_state_at frame_states f) ≡ is_free_state (frame_state_at old f) = ap is_free_state (placed.records f ∙ off_block old g b f out.0) in
            let o = takes.others f (λ c. out.1 c.from c.before) in
            both_ways _ _ (λ a. now ∙ same ∙ sym earlier ∙ o.0 a) (λ c. o.1 (earlier ∙ sym same ∙ sym now ∙ c))
      ])

-- a frame that is charged to no group is on no list
homeless : (room : ℕ) (h : Option Home) (x : FrameState) → x ≡ Free → FitsFrameState room h x → h ≡ None
homeless room None x is fits = refl
homeless room (Some k) x is fits = absurd (none-some k.owner (subst (λ (y : FrameState). head_group_of y ≡ Some k.owner) is fits.1))

-- steps that lead on may be made
may_steps : (t : KnownTable) (m : KnownMachine) (steps : Run) (b : State) → IsLocalRun (lock_holder m) (local_of t m) steps b → MayTakeAll t m.run.past steps
may_steps t m steps b leads =
    may_all t m.run.past (lock_holder m) (local_of t m) steps refl refl (run_steps (lock_holder m) (local_of t m) steps b leads)

-- what is required of the group, of the machine's fields
pub charge_here : (m now : KnownMachine) → m ≡ now → (g n : ℕ) → MayCharge now g n → MayCharge m g n
charge_here m now same g n may = subst (λ (x : KnownMachine). MayCharge x g n) (sym same) may

-- ---- the block, by its steps

module _ (t : KnownTable) (m : KnownMachine) (ok : IsConsistent t m) (facts : AreCharges m.ledger) (held : IsHeld t m.run.past) (g : ℕ) (b : Block)
    (there : has_group m.ledger.groups g ≡ true) (alive : is_killed m.killed g ≡ false)
    (path : PathHasRoom m.ledger.groups (current_of m.ledger) g (2 ^ b.order)) (block : IsBlock (length m.frame_states) b)
    (free : (f : ℕ) → b.at ≤ f → f < b.at + 2 ^ b.order → frame_state_at m.frame_states f ≡ Free) where
  shown : IsShownBy t m (hide (local_of t m))
  shown = shown_seen t m ok held

  abbrev unit : ChargedUnit
  unit = record { group = g; order = b.order }

  abbrev granted : State
  granted = with_granted t m ok facts held (lock_holder m) g there (2 ^ b.order)

  abbrev placed : State
  placed = after granted 0 (PlaceBlock g b.order) (Placed b)

  abbrev kept : State
  kept = after placed 0 (Unfreeze b.at 1) Done

  head_within : is_within b.at (2 ^ b.order) b.at ≡ true
  head_within =
      let some = pow_pos b.order in
      and_from (nat_le b.at b.at) _ (le-leb b.at b.at (omega arith)) (lt-ltb b.at (b.at + 2 ^ b.order) (omega (arith, some)))

  inside : b.at < t.frames
  inside = let some = pow_pos b.order in let h = block.inside in let sized = ok.sizes.frame_states in omega (arith, h, sized, some)

  here_free : frame_state_at m.frame_states b.at ≡ Free
  here_free = let some = pow_pos b.order in free b.at (omega arith) (omega (arith, some))

  no_list : home_of m.links b.at ≡ None
  no_list = homeless (room_of m.ledger.groups) (home_of m.links b.at) (frame_state_at m.frame_states b.at) here_free (ok.frame_states b.at inside)

  unreferred : (local_of t m).references 0 b.at ≡ 0
  unreferred = shown.references b.at ∙ ap (λ (h : Option Home). one_if (is_some h)) no_list

  frame_is : is_frame (local_of t m).zone b.at ≡ true
  frame_is = ap (λ (z : Zone). is_frame z b.at) (zone_seen t m.run.past) ∙ lt-ltb b.at t.frames inside

  head_bare : placed.phases b.at ≡ phase.Head unit Bare
  head_bare =
      ap (λ (x : Bool). cond x (placed_phase g b b.at) ((local_of t m).phases b.at)) head_within
      ∙ ap (λ (x : Bool). cond x (phase.Head unit Bare) (phase.Tail g)) (eq-eqb b.at b.at refl)

  head_live : kept.phases b.at ≡ phase.Head unit Live
  head_live = at_same placed.phases b.at (at_stage Live (placed.phases b.at)) ∙ ap (at_stage Live) head_bare

  head_held : kept.references 0 b.at ≡ 1
  head_held =
      let none = unreferred in
      at_same ((local_of t m).references 0) b.at ((local_of t m).references 0 b.at + 1) ∙ omega (arith, none)

  may_unfreeze : is_legal placed 0 (Unfreeze b.at 1) ≡ true
  may_unfreeze = and_from _ _ (and_from _ _ (and_from _ _ (and_from _ _ (zone_acts t m.run.past held) frame_is) (ap is_head_in_hand head_bare)) refl) refl

  may_publish : is_legal kept 0 (Publish b.at) ≡ true
  may_publish = and_from _ _ (and_from _ _ (and_from _ _ (zone_acts t m.run.past held) frame_is) (ap is_head head_live))
      (le-leb 1 (kept.references 0 b.at) (let e = head_held in omega (arith, e)))

  -- the rules of the steps see it free
  seen_free : IsFreeBlock (free_in (local_of t m).zone (local_of t m).phases) b
  seen_free =
      let sized = ok.sizes.frame_states in
      let same = ap (λ (z : Zone). z.frames) (zone_seen t m.run.past) in
      let long : length m.frame_states ≡ length (free_in (local_of t m).zone (local_of t m).phases) =
      sized ∙ sym same ∙ sym (length-map-range_with_len (λ f. phases.is_free ((local_of t m).phases f)) 0 (local_of t m).zone.frames) in
      record {
        block = subst (λ (n : ℕ). IsBlock n b) long block;
        all_free = λ f covers.
            let high = block.inside in
            let before = covers.before in
            let below : f < (local_of t m).zone.frames = omega (arith, high, before, sized, same) in
            get_or-map-range_with_len (λ x. phases.is_free ((local_of t m).phases x)) 0 (local_of t m).zone.frames f f false below (omega arith)
            ∙ is_free_seen t m (local_of t m) shown f ∙ ap is_free_state (free f covers.from covers.before);
      }

  pub taken_leads : IsLocalRun (lock_holder m) (local_of t m) (taken_steps g b.order b.at) (fold after_made (local_of t m) (taken_steps g b.order b.at))
  taken_leads = (
    is_granted t m ok facts held (lock_holder m) g there alive (2 ^ b.order) path,
    (
      zone_step granted (lock_holder m) (PlaceBlock g b.order) (Placed b) refl
          (may_place t m ok facts held (lock_holder m) g there (2 ^ b.order) b.order (omega arith)) (refl, seen_free),
      (
        zone_step placed (lock_holder m) (Unfreeze b.at 1) Done refl may_unfreeze tt,
        (zone_step kept (lock_holder m) (Publish b.at) Done refl may_publish tt, refl),
      ),
    ),
  )

  -- ---- what it leaves

  module _ (frame_states : List FrameState) (places : PlacesUnit g b m.frame_states frame_states) (links : List Link) (lists : List Lru)
      (joined : AllJoin m.links m.lists g b.at links lists) (fits : g < room_of m.ledger.groups) where
    phases_then : (f : ℕ) → hide_phase (kept.phases f) ≡ phase_hidden (frame_state_at frame_states f)
    phases_then f = elim (cases_eq f b.at) [
      | inl e ↦ ap hide_phase (ap kept.phases e ∙ head_live) ∙ sym (ap phase_hidden (places.records f ∙ head_of_block m.frame_states g b f e))
      | inr ne ↦ ap hide_phase (at_other placed.phases b.at (at_stage Live (placed.phases b.at)) f ne) ∙ elim (within_cases b.at (2 ^ b.order) f) [
        | inl w ↦ ap (λ (x : Bool). hide_phase (cond x (placed_phase g b f) ((local_of t m).phases f))) w.0
            ∙ ap (λ (x : Bool). hide_phase (cond x (phase.Head unit Bare) (phase.Tail g))) (ne_eqb f b.at ne)
            ∙ sym (ap phase_hidden (places.records f ∙ tail_of_block m.frame_states g b f w.0 ne))
        | inr out ↦ ap (λ (x : Bool). hide_phase (cond x (placed_phase g b f) ((local_of t m).phases f))) out.0 ∙ shown.phases f
            ∙ sym (ap phase_hidden (places.records f ∙ off_block m.frame_states g b f out.0))
      ]
    ]

    references_then : (f : ℕ) → kept.references 0 f ≡ one_if (is_some (home_of links f))
    references_then f = elim (cases_eq f b.at) [
      | inl e ↦ ap (kept.references 0) e ∙ head_held ∙ sym (ap (λ (h : Option Home). one_if (is_some h)) (ap (home_of links) e ∙ joined.joins.home))
      | inr ne ↦ at_other ((local_of t m).references 0) b.at ((local_of t m).references 0 b.at + 1) f ne ∙ shown.references f
          ∙ sym (ap (λ (h : Option Home). one_if (is_some h)) (joined.joins.homes f ne))
    ]

    homes_fit : (f : ℕ) → f < t.frames → FitsFrameState (room_of m.ledger.groups) (home_of links f) (frame_state_at frame_states f)
    homes_fit f within = elim (cases_eq f b.at) [
      | inl e ↦ subst (λ (x : Option Home × FrameState). FitsFrameState (room_of m.ledger.groups) x.0 x.1)
          (λ i. (sym (ap (home_of links) e ∙ joined.joins.home) i, sym (places.records f ∙ head_of_block m.frame_states g b f e) i)) (fits, refl)
      | inr ne ↦ subst (λ (h : Option Home). FitsFrameState (room_of m.ledger.groups) h (frame_state_at frame_states f)) (sym (joined.joins.homes f ne)) (elim (within_cases b.at (2 ^ b.order) f) [
        | inl w ↦ subst (λ (h : Option Home). FitsFrameState (room_of m.ledger.groups) h (frame_state_at frame_states f))
            (sym (homeless (room_of m.ledger.groups) (home_of m.links f) (frame_state_at m.frame_states f) (free f w.1 w.2) (ok.frame_states f within))) tt
        | inr out ↦ subst (FitsFrameState (room_of m.ledger.groups) (home_of m.links f)) (sym (places.records f ∙ off_block m.frame_states g b f out.0)) (ok.frame_states f within)
      ])
    ]

    module _ (blocks : List Block) (areas : AreMaximalBlocks (free_of frame_states) blocks) (rise : PagesRise m.ledger (with_charge m.ledger g (2 ^ b.order)) g (2 ^ b.order))
        (run : KnownRun) (noted : Records t m.run (taken_steps g b.order b.at) run) where
      abbrev then : KnownMachine
      then = record m { blocks = blocks; frame_states = frame_states; ledger = with_charge m.ledger g (2 ^ b.order); links = links; lists = lists; run = run }

      uncharged : (f : ℕ) → b.at ≤ f → f < b.at + 2 ^ b.order → frame_state_group (frame_state_at m.frame_states f) ≡ None
      uncharged f low high = ap frame_state_group (free f low high)

      pub taken_consistent : IsConsistent t (record m { blocks = blocks; frame_states = frame_states; ledger = with_charge m.ledger g (2 ^ b.order); links = links; lists = lists; run = run })
      taken_consistent = record {
        choice = ok.choice;
        sizes = record {
          frame_states = places.frames ∙ ok.sizes.frame_states;
          links = joined.frames ∙ ok.sizes.links;
          lists = joined.groups ∙ ok.sizes.lists;
          killed = ok.sizes.killed;
        };
        areas = areas;
        frame_states = homes_fit;
        units = units_placed m.frame_states frame_states g b places block uncharged ok.units;
        lists = joined.stand;
        balances = ok.balances;
        shown = subst (IsShownBy t then) (sym (left_then t m (taken_steps g b.order b.at) run held noted)) (record {
          groups = shown.groups;
          killed = shown.killed;
          phases = phases_then;
          references = references_then;
          settled = none_pends t m ok facts held (lock_holder m) g there (2 ^ b.order);
          absorbed = shown.absorbed;
          bounded = shown.bounded;
          charged = λ h.
              let a = rise h in
              let old = shown.charged h in
              let c = charges_rise m.frame_states frame_states g b places block uncharged h in
              omega (arith, a, old, c);
        });
      }

      pub taken_makes : Makes t m (taken_steps g b.order b.at)
          (record m { blocks = blocks; frame_states = frame_states; ledger = with_charge m.ledger g (2 ^ b.order); links = links; lists = lists; run = run })
      taken_makes = makes t m then (taken_steps g b.order b.at) held noted taken_leads
          (follows_grant (local_of t m) m.ledger shown.groups facts (usage_is t m ok facts held) g (2 ^ b.order) there
          (zone_makes (PlaceBlock g b.order) (Placed b) ∷ publish_steps b.at) refl
          (with_charge m.ledger g (2 ^ b.order)) (λ h. refl) (same_events (with_charge m.ledger g (2 ^ b.order)))) refl

      pub taken_visits : StaysVisited t m
          (record m { blocks = blocks; frame_states = frame_states; ledger = with_charge m.ledger g (2 ^ b.order); links = links; lists = lists; run = run })
      taken_visits = zone_visited t m then (taken_steps g b.order b.at) noted refl refl (λ p some. at_other (local_of t m).references 0 _ p some)

-- what is left of the machine as it was seen before
pub record AllTaken (t : KnownTable) (now n : KnownMachine) (g k f : ℕ) (free : List Bool) : Type 0 where
  pub consistent : IsConsistent t n
  pub free_is : free ≡ free_of n.frame_states
  pub takes : TakesBlock g k f now n
  pub visit : StaysVisited t now n
  pub steps : Makes t now (taken_steps g k f) n

pub taken_all : (t : KnownTable) (m now : KnownMachine) → m ≡ now → IsConsistent t m → AreCharges m.ledger → IsHeld t now.run.past → (g : ℕ)
    → (k pages : ℕ) → pages ≡ 2 ^ k → MayCharge now g (2 ^ k) → PathHasRoom m.ledger.groups (current_of m.ledger) g pages → (ledger : Ledger) → ledger ≡ with_charge m.ledger g pages
    → PagesRise m.ledger ledger g pages → (before free : List Bool) (b : Block) (blocks : List Block) → before ≡ free_of m.frame_states
    → IsFrontOfSmallest m.blocks k b → TakesFrames before b free → AreMaximalBlocks free blocks → (frame_states : List FrameState) → PlacesUnit g b m.frame_states frame_states
    → (f : ℕ) → f ≡ b.at → (links : List Link) (lists : List Lru) → AllJoin m.links m.lists g b.at links lists
    → (run : KnownRun) → Records t m.run (taken_steps g k f) run
    → AllTaken t now (record m { blocks = blocks; frame_states = frame_states; ledger = ledger; links = links; lists = lists; run = run }) g k f free
taken_all t m now same ok facts held_now g k pages size may_now room ledger charged rise before free b blocks was front takes areas_free frame_states placed f at links lists
    joined run noted =
    let held = held_here t m now same held_now in
    let may = charge_here m now same g (2 ^ k) may_now in
    let fits = number_in_room m.ledger.groups g facts.groups may.there in
    let order : k ≡ b.order = sym front.order_is in
    let so_many : pages ≡ 2 ^ b.order = size ∙ ap (λ (x : ℕ). 2 ^ x) order in
    let room_here : PathHasRoom m.ledger.groups (current_of m.ledger) g (2 ^ b.order) = subst (PathHasRoom m.ledger.groups (current_of m.ledger) g) so_many room in
    let ledger_is : ledger ≡ with_charge m.ledger g (2 ^ b.order) = charged ∙ ap (with_charge m.ledger g) so_many in
    let rise_here : PagesRise m.ledger (with_charge m.ledger g (2 ^ b.order)) g (2 ^ b.order) =
    subst (λ (x : Ledger × ℕ). PagesRise m.ledger x.0 g x.1) (λ j. (ledger_is j, so_many j)) rise in
    let front_here : IsFrontOfSmallest m.blocks b.order b = subst (λ (x : ℕ). IsFrontOfSmallest m.blocks x b) order front in
    let noted_here : Records t m.run (taken_steps g b.order b.at) run = subst (λ (x : ℕ × ℕ). Records t m.run (taken_steps g x.0 x.1) run) (λ j. (order j, at j)) noted in
    let block = taken_inside m.frame_states m.blocks ok.areas before free was b.order b front_here takes in
    let were_free = taken_free m.frame_states m.blocks ok.areas before free was b.order b front_here takes in
    let frees : free ≡ free_of frame_states = free_then m.frame_states m.blocks ok.areas before free was b.order b front_here takes frame_states g placed in
    let areas : AreMaximalBlocks (free_of frame_states) blocks = subst (λ (l : List Bool). AreMaximalBlocks l blocks) frees areas_free in
    subst (λ (x : KnownMachine × KnownMachine × ℕ × ℕ). AllTaken t x.0 x.1 g x.2 x.3 free)
    (λ j. (
      same j,
      record m { blocks = blocks; frame_states = frame_states; ledger = sym ledger_is j; links = links; lists = lists; run = run },
      sym order j,
      sym at j,
    ))
    (record {
      consistent = taken_consistent t m ok facts held g b may.there may.alive room_here block were_free frame_states placed links lists joined fits blocks areas rise_here run noted_here;
      free_is = frees;
      takes = record { room = room_here; front = front_here; areas = areas; unit = placed; listed = joined.joins; machine = refl };
      visit = taken_visits t m ok facts held g b may.there may.alive room_here block were_free frame_states placed links lists joined fits blocks areas rise_here run noted_here;
      steps = taken_makes t m ok facts held g b may.there may.alive room_here block were_free frame_states placed links lists joined fits blocks areas rise_here run noted_here;
    })

-- the head was on no list
pub was_away : (t : KnownTable) (m : KnownMachine) → IsConsistent t m → (before free : List Bool) (b : Block) → before ≡ free_of m.frame_states → (k : ℕ)
    → IsFrontOfSmallest m.blocks k b → TakesFrames before b free → home_of m.links b.at ≡ None
was_away t m ok before free b was k front takes =
    let sized = ok.sizes.frame_states in
    let low = head_inside m.frame_states m.blocks ok.areas before free was k b front takes in
    homeless (room_of m.ledger.groups) (home_of m.links b.at) (frame_state_at m.frame_states b.at) (head_free m.frame_states m.blocks ok.areas before free was k b front takes)
    (ok.frame_states b.at (omega (arith, sized, low)))

-- the grant may be made, if there is room
pub granted_may : (t : KnownTable) (m now : KnownMachine) → m ≡ now → IsConsistent t m → AreCharges m.ledger → IsHeld t now.run.past → (g k pages : ℕ) → MayCharge now g (2 ^ k)
    → PathHasRoom m.ledger.groups (current_of m.ledger) g pages → MayTakeAll t m.run.past (zone_makes (Grant g pages) Granted ∷ [])
granted_may t m now same ok facts held g k pages may_now room =
    let may = charge_here m now same g (2 ^ k) may_now in
    may_steps t m (zone_makes (Grant g pages) Granted ∷ []) _
    (is_granted t m ok facts (held_here t m now same held) (lock_holder m) g may.there may.alive pages room, refl)

-- the steps, with the pages, the block and the frame as the code names them
abbrev pub taken_as : (g pages k : ℕ) → Block → ℕ → Run
taken_as g pages k b at = zone_makes (Grant g pages) Granted ∷ zone_makes (PlaceBlock g k) (Placed b) ∷ publish_steps at

-- they may be made, once the block is known
pub taken_may : (t : KnownTable) (m now : KnownMachine) → m ≡ now → IsConsistent t m → AreCharges m.ledger → IsHeld t now.run.past → (g k pages : ℕ) → pages ≡ 2 ^ k
    → MayCharge now g (2 ^ k) → PathHasRoom m.ledger.groups (current_of m.ledger) g pages → (before free : List Bool) (b : Block) → before ≡ free_of m.frame_states
    → IsFrontOfSmallest m.blocks k b → TakesFrames before b free → (f : ℕ) → f ≡ b.at → MayTakeAll t m.run.past (taken_as g pages k b f)
taken_may t m now same ok facts held g k pages size may_now room before free b was front takes f head =
    let may = charge_here m now same g (2 ^ k) may_now in
    let order : k ≡ b.order = sym front.order_is in
    let so_many : pages ≡ 2 ^ b.order = size ∙ ap (λ (x : ℕ). 2 ^ x) order in
    let front_b : IsFrontOfSmallest m.blocks b.order b = subst (λ (x : ℕ). IsFrontOfSmallest m.blocks x b) order front in
    subst (λ (x : ℕ × ℕ × ℕ). MayTakeAll t m.run.past (taken_as g x.0 x.1 b x.2)) (λ j. (sym so_many j, sym order j, sym head j))
    (may_steps t m (taken_steps g b.order b.at) _
    (taken_leads t m ok facts (held_here t m now same held) g b may.there may.alive (subst (PathHasRoom m.ledger.groups (current_of m.ledger) g) so_many room)
    (taken_inside m.frame_states m.blocks ok.areas before free was b.order b front_b takes) (taken_free m.frame_states m.blocks ok.areas before free was b.order b front_b takes)))

pub taken_notes : (t : KnownTable) (a m d s : KnownRun) (g k pages f : ℕ) (b : Block) → pages ≡ 2 ^ k → f ≡ b.at → b.order ≡ k
    → Records t a (zone_makes (Grant g pages) Granted ∷ []) m → Records t m (zone_makes (PlaceBlock g k) (Placed b) ∷ []) d → Records t d (publish_steps f) s
    → Records t a (taken_steps g k f) s
taken_notes t a m d s g k pages f b size head order grants places published =
    let second : Records t m (zone_makes (PlaceBlock g k) (Placed (record { at = f; order = k })) ∷ []) d =
    subst (λ (x : Block). Records t m (zone_makes (PlaceBlock g k) (Placed x) ∷ []) d) (λ j. record { at = sym head j; order = order j }) places in
    let first : Records t a (zone_makes (Grant g (2 ^ k)) Granted ∷ []) m = subst (λ (x : ℕ). Records t a (zone_makes (Grant g x) Granted ∷ []) m) size grants in
    notes_both t a _ m _ s first (notes_both t m _ d _ s second published)

-- ---- no block

module _ (t : KnownTable) (m : KnownMachine) (ok : IsConsistent t m) (facts : AreCharges m.ledger) (held : IsHeld t m.run.past) (g k : ℕ)
    (there : has_group m.ledger.groups g ≡ true) (alive : is_killed m.killed g ≡ false)
    (path : PathHasRoom m.ledger.groups (current_of m.ledger) g (2 ^ k)) (none : HasNoneFrom m.blocks k) where
  none_shown : IsShownBy t m (hide (local_of t m))
  none_shown = shown_seen t m ok held

  pub none_leads : IsLocalRun (lock_holder m) (local_of t m) (unplaced_steps g k) (fold after_made (local_of t m) (unplaced_steps g k))
  none_leads = (
    is_granted t m ok facts held (lock_holder m) g there alive (2 ^ k) path,
    (is_not_placed t m ok held facts (lock_holder m) g there (2 ^ k) k (omega arith) none, (is_taken_back t m ok facts held (lock_holder m) g there (2 ^ k), refl)),
  )

  module _ (rise : PagesRise m.ledger (with_charge m.ledger g (2 ^ k)) g (2 ^ k)) (run : KnownRun) (noted : Records t m.run (unplaced_steps g k) run) where
    abbrev unplaced : KnownMachine
    unplaced = record m { ledger = with_uncharge (with_charge m.ledger g (2 ^ k)) g (2 ^ k); run = run }

    same_pages : (h : ℕ) → pages_of (with_uncharge (with_charge m.ledger g (2 ^ k)) g (2 ^ k)) h ≡ pages_of m.ledger h
    same_pages h =
        let own = rise g in
        let here = cond-true (g == g) (2 ^ k) 0 (eq-eqb g g refl) in
        let up = rise h in
        let down = uncharge_pages (with_charge m.ledger g (2 ^ k)) g (2 ^ k) (omega (arith, own, here)) h in
        omega (arith, up, down)

    pub none_consistent : IsConsistent t (record m { ledger = with_uncharge (with_charge m.ledger g (2 ^ k)) g (2 ^ k); run = run })
    none_consistent = record {
      choice = ok.choice;
      sizes = record { frame_states = ok.sizes.frame_states; links = ok.sizes.links; lists = ok.sizes.lists; killed = ok.sizes.killed };
      areas = ok.areas;
      frame_states = ok.frame_states;
      units = ok.units;
      lists = ok.lists;
      balances = ok.balances;
      shown = subst (IsShownBy t unplaced) (sym (left_then t m (unplaced_steps g k) run held noted)) (record {
        groups = none_shown.groups;
        killed = none_shown.killed;
        phases = none_shown.phases;
        references = none_shown.references;
        settled = none_pends t m ok facts held (lock_holder m) g there (2 ^ k);
        absorbed = none_shown.absorbed;
        bounded = none_shown.bounded;
        charged = λ h. same_pages h ∙ none_shown.charged h;
      });
    }

    pub none_makes : Makes t m (unplaced_steps g k) (record m { ledger = with_uncharge (with_charge m.ledger g (2 ^ k)) g (2 ^ k); run = run })
    none_makes = makes t m unplaced (unplaced_steps g k) held noted none_leads
        (follows_grant (local_of t m) m.ledger none_shown.groups facts (usage_is t m ok facts held) g (2 ^ k) there
        (zone_makes (PlaceBlock g k) NoFreeBlock ∷ zone_makes (Ungrant g (2 ^ k)) Done ∷ []) refl unplaced.ledger
        (uncharge_peaks (with_charge m.ledger g (2 ^ k)) g (2 ^ k)) (uncharge_events (with_charge m.ledger g (2 ^ k)) g (2 ^ k))) refl

    pub none_visits : StaysVisited t m (record m { ledger = with_uncharge (with_charge m.ledger g (2 ^ k)) g (2 ^ k); run = run })
    none_visits = zone_visited t m unplaced (unplaced_steps g k) noted refl refl (λ p some. refl)

-- what is left if there is none
pub record NoneTaken (t : KnownTable) (now n : KnownMachine) (g k : ℕ) : Type 0 where
  pub consistent : IsConsistent t n
  pub none : TakesNoBlock g k now n
  pub visit : StaysVisited t now n
  pub steps : Makes t now (unplaced_steps g k) n

pub none_all : (t : KnownTable) (m now : KnownMachine) → m ≡ now → IsConsistent t m → AreCharges m.ledger → IsHeld t now.run.past → (g k pages : ℕ) → pages ≡ 2 ^ k
    → MayCharge now g (2 ^ k) → PathHasRoom m.ledger.groups (current_of m.ledger) g pages → (charged ledger : Ledger) → charged ≡ with_charge m.ledger g pages
    → PagesRise m.ledger charged g pages → ledger ≡ with_uncharge charged g pages
    → (blocks : List Block) → blocks ≡ m.blocks → HasNoneFrom m.blocks k → (run : KnownRun) → Records t m.run (unplaced_steps g k) run
    → NoneTaken t now (record m { blocks = blocks; ledger = ledger; run = run }) g k
none_all t m now same ok facts held_now g k pages size may_now room charged ledger rises rise falls blocks kept none run noted =
    let held = held_here t m now same held_now in
    let may = charge_here m now same g (2 ^ k) may_now in
    let room_here : PathHasRoom m.ledger.groups (current_of m.ledger) g (2 ^ k) = subst (PathHasRoom m.ledger.groups (current_of m.ledger) g) size room in
    let rise_here : PagesRise m.ledger (with_charge m.ledger g (2 ^ k)) g (2 ^ k) =
    subst (λ (x : Ledger × ℕ). PagesRise m.ledger x.0 g x.1) (λ j. ((rises ∙ ap (with_charge m.ledger g) size) j, size j)) rise in
    let after_both : Ledger = with_uncharge (with_charge m.ledger g (2 ^ k)) g (2 ^ k) in
    let ledger_is : ledger ≡ after_both = falls ∙ (λ j. with_uncharge (rises j) g pages) ∙ (λ j. with_uncharge (with_charge m.ledger g (size j)) g (size j)) in
    subst (λ (x : KnownMachine × KnownMachine). NoneTaken t x.0 x.1 g k)
    (λ j. (same j, record m { blocks = sym kept j; ledger = sym ledger_is j; run = run }))
    (record {
      consistent = none_consistent t m ok facts held g k may.there may.alive room_here none rise_here run noted;
      none = record { room = room_here; none = none; machine = refl };
      visit = none_visits t m ok facts held g k may.there may.alive room_here none rise_here run noted;
      steps = none_makes t m ok facts held g k may.there may.alive room_here none rise_here run noted;
    })

-- the steps, with the pages as the code names them
abbrev pub unplaced_as : (g pages k : ℕ) → Run
unplaced_as g pages k = zone_makes (Grant g pages) Granted ∷ zone_makes (PlaceBlock g k) NoFreeBlock ∷ zone_makes (Ungrant g pages) Done ∷ []

pub unplaced_notes : (t : KnownTable) (a b d s : KnownRun) (g k pages : ℕ) → pages ≡ 2 ^ k → Records t a (zone_makes (Grant g pages) Granted ∷ []) b
    → Records t b (zone_makes (PlaceBlock g k) NoFreeBlock ∷ []) d → Records t d (zone_makes (Ungrant g pages) Done ∷ []) s → Records t a (unplaced_steps g k) s
unplaced_notes t a b d s g k pages size grants places takes =
    subst (λ (x : ℕ). Records t a (unplaced_as g x k) s) size (notes_both t a _ b _ s grants (notes_both t b _ d _ s places takes))

-- they may be made, if there is none
pub unplaced_may : (t : KnownTable) (m now : KnownMachine) → m ≡ now → IsConsistent t m → AreCharges m.ledger → IsHeld t now.run.past
    → (g k pages : ℕ) → pages ≡ 2 ^ k → MayCharge now g (2 ^ k) → PathHasRoom m.ledger.groups (current_of m.ledger) g pages → HasNoneFrom m.blocks k
    → MayTakeAll t m.run.past (unplaced_as g pages k)
unplaced_may t m now same ok facts held g k pages size may_now room none =
    let may = charge_here m now same g (2 ^ k) may_now in
    subst (λ (x : ℕ). MayTakeAll t m.run.past (unplaced_as g x k)) (sym size)
    (may_steps t m (unplaced_steps g k) _ (none_leads t m ok facts (held_here t m now same held) g k may.there may.alive
    (subst (PathHasRoom m.ledger.groups (current_of m.ledger) g) size room) none))

-- ---- a limit has no room

-- the refused grant changes nothing
pub refused_step : (t : KnownTable) (m now : KnownMachine) → m ≡ now → IsConsistent t m → AreCharges m.ledger → IsHeld t now.run.past → (g k pages over : ℕ)
    → MayCharge now g k → IsLowestOver m.ledger.groups (current_of m.ledger) g pages over → (l : Ledger) → l ≡ m.ledger
    → IsGroupStep t m (zone_makes (Grant g pages) (Over over)) l m.killed
refused_step t m now same ok facts held_now g k pages over may_now low l unchanged =
    let held = held_here t m now same held_now in
    let may = charge_here m now same g k may_now in
    let shown = shown_seen t m ok held in
    subst (λ (x : Ledger). IsGroupStep t m (zone_makes (Grant g pages) (Over over)) x m.killed) (sym unchanged) (record {
      step = is_over t m ok facts held (lock_holder m) g may.there may.alive pages over low;
      only = refl;
      groups = shown.groups;
      room = refl;
      killed = shown.killed;
      follows = follows_same (local_of t m) m.ledger (over_steps g pages over) refl;
      counts = refl;
    })

pub refused_all : (t : KnownTable) (m now : KnownMachine) → m ≡ now → IsConsistent t m → AreCharges m.ledger → IsHeld t now.run.past → (g k pages over : ℕ)
    → MayCharge now g k → IsLowestOver m.ledger.groups (current_of m.ledger) g pages over → (l : Ledger) → l ≡ m.ledger
    → (run : KnownRun) → Records t m.run (over_steps g pages over) run
    → AllGrouped t m now (zone_makes (Grant g pages) (Over over)) (record m { ledger = l; run = run })
refused_all t m now same ok facts held g k pages over may low l unchanged run noted =
    grouped t m ok (held_here t m now same held) (zone_makes (Grant g pages) (Over over)) l m.killed
    (refused_step t m now same ok facts held g k pages over may low l unchanged) (λ h. ap (λ (x : Ledger). pages_of x h) unchanged) refl run noted now same
