-- A fresh frame is kept for its group, or dropped. Serves `keep_one` and `drop_one`.
use Rattle.std.proofs.Common.{◌≡◌, ◌≢◌, ℕ, ◌+◌, ◌-◌, ◌^◌, ◌<◌, ◌≤◌, ◌==◌, Bool, true, false, cond, Option, Some, None, List, [], ◌∷◌, length, get_or}
use Rattle.std.proofs.Common.{refl, sym, ap, ◌∙◌, subst, arith, inl, inr, eq-eqb}
use Rattle.std.specs.Prelude.{drop, is_some, slice_set}
use Rattle.std.proofs.lemmas.Bool.{cases_eq, ne_eqb, false≢true}
use Rattle.std.proofs.lemmas.List.{get_or-set_same, get_or-set_other, length-set, ext_get_or}
use Rattle.zone_blocks.specs.declared.block.Block.{Block}
use Rattle.zone_blocks.specs.{IsBlock, AreMaximalBlocks, GivesFrames, IsInUse}
use Rattle.group_charge.specs.Charges.{Ledger, pages_of, with_uncharge}
use Rattle.group_charge.proofs.CallerLemmas.{uncharge_pages, uncharge_peaks, uncharge_events}
use Rattle.group_tree.specs.Groups.{room_of}
use Rattle.lru_lists.specs.declared.record.Home.{Home}
use Rattle.lru_lists.specs.declared.record.Link.{Link}
use Rattle.lru_lists.specs.declared.lru.Lru.{Lru}
use Rattle.boot_words.specs.{AreLegal, hide, hide_phase, KnownTable}
use Rattle.cpu_part.specs.Cpus.{KnownCpuLists}
use Rattle.step_rules.specs.declared.phase.ChargedUnit.{ChargedUnit}
use Rattle.step_rules.specs.declared.phase.Stage.TheVariants.{FreshAt, Collected, Live}
use Rattle.step_rules.specs.declared.phase.Phase.TheVariants as phase
use Rattle.step_rules.specs.declared.step.Action.TheVariants.{Return}
use Rattle.step_rules.specs.declared.step.Answer.TheVariants.{Done}
use Rattle.step_rules.specs.{told_pages, Part, Zone, one_if, times, with_at, without_unit, IsLocalRun, zone_makes}
use Rattle.step_rules.specs.State.{State}
use Rattle.step_rules.proofs.Basics.{at_other, at_same}
use Rattle.step_rules.proofs.SoundSteps.{below_frames}
use Rattle.step_rules.proofs.Lists.{times_same, without_front, without_none}
use Rattle.mem_machine.specs.declared.frame_state.FrameState.{FrameState}
use Rattle.mem_machine.specs.declared.frame_state.FrameState.TheVariants.{Free, Lent, Head}
use Rattle.mem_machine.specs.declared.counts.Counts.{Counts}
use Rattle.mem_machine.specs.{AreBooked, AreOwners, frame_state_at, is_free_state, free_of, frame_state_group, AreUnits, KnownMachine, FitsFrameState}
use Rattle.mem_machine.specs.{IsConsistent, IsShownBy, BalancesCounts, frames_charged, home_of, is_killed, left_by, pages_booked, stock_group, Visits}
use Rattle.mem_machine.specs.{local_of, AreLocal, KnownRun, MayTake, MayTakeAll, Records, PlacesUnit, with_killed_fresh, FreesFrames, HandsOver, KeepsFresh}
use Rattle.mem_machine.specs.{DropsFresh, collect_steps, keep_steps, drop_steps}
use Rattle.mem_machine.specs.Steps.{publish_steps}
use Rattle.mem_machine.proofs.Balances.{balanced_killed_fresh}
use Rattle.mem_machine.proofs.BlockCharges.{charges_rise}
use Rattle.mem_machine.proofs.Counted.{collects_none, comes_back}
use Rattle.mem_machine.proofs.Entries.{has_entry}
use Rattle.mem_machine.proofs.Followed.{follows_same, follows_still}
use Rattle.mem_machine.proofs.Freeing.{is_out, is_in, free_block_given}
use Rattle.mem_machine.proofs.HandOvers.{IsVisited, absorbed_part, collect_run, dropped_state, drop_run, kept_state, keep_run, one_more_held}
use Rattle.mem_machine.proofs.Joins.{AllJoin}
use Rattle.mem_machine.proofs.Moved.{AllMoved, books_fall, book_within, booked_here, fresh_here, group_seen, is_visited, left_moved, lent_in_use, lent_record, local_behind, makes_moved, may_next, no_home, number_range, own_moved, owners_moved, phases_freed, phases_set, shown_moved, sums_moved, visit_moved}
use Rattle.mem_machine.proofs.Made.{visits_here, zone_seen}
use Rattle.mem_machine.proofs.Noted.{local_legal, may_all, notes_both, run_steps}
use Rattle.mem_machine.proofs.OwnFrames.{HasFrame}
use Rattle.mem_machine.proofs.PlacesUnits.{head_of_block, off_block}
use Rattle.mem_machine.proofs.Records.{free_at, free_set, units_stay, charges_stay}
use Rattle.mem_machine.proofs.Sight.{left_seen, shown_seen}
use Rattle.mem_machine.proofs.Units.{units_placed}

-- lists with the same front have the same rest
tail_same : (f : ℕ) (xs ys : List ℕ) → f ∷ xs ≡ f ∷ ys → xs ≡ ys
tail_same f xs ys is = ap (λ (l : List ℕ). drop 1 l) is

-- one record changed, and which frames are free did not
free_stays : (frame_states : List FrameState) (f : ℕ) (x : FrameState) → f < length frame_states → is_free_state (frame_state_at frame_states f) ≡ false → is_free_state x ≡ false
    → free_of frame_states ≡ free_of (slice_set frame_states f x)
free_stays frame_states f x inside was now =
    free_set (free_of frame_states) (free_of frame_states) frame_states f x inside refl refl (λ a. absurd (false≢true (sym was ∙ sym (free_at frame_states f inside) ∙ a)))
    (λ a. absurd (false≢true (sym now ∙ a))) (λ g ne. (λ a. a, λ a. a))

-- a unit of one frame
placed_one : (frame_states : List FrameState) (g f : ℕ) → f < length frame_states
    → PlacesUnit g (record { at = f; order = 0 }) frame_states (slice_set frame_states f (Head (record { group = g; order = 0 })))
placed_one frame_states g f inside =
    let b : Block = record { at = f; order = 0 } in
    record {
      frames = length-set frame_states f (Head (record { group = g; order = 0 }));
      records = λ x. elim (cases_eq x f) [
        | inl e ↦ ap (frame_state_at (slice_set frame_states f (Head (record { group = g; order = 0 })))) e
            ∙ get_or-set_same frame_states f (Head (record { group = g; order = 0 })) Free inside ∙ sym (head_of_block frame_states g b x e)
        | inr ne ↦ get_or-set_other frame_states f x (Head (record { group = g; order = 0 })) Free ne
            ∙ sym (off_block frame_states g b x (is_out f (2 ^ 0) x (λ low high. ne (omega (arith, low, high)))))
      ];
    }

-- one frame was freed
frees_one : (frame_states new : List FrameState) (f : ℕ) → f < length frame_states → FreesFrames f (2 ^ 0) frame_states new → new ≡ slice_set frame_states f Free
frees_one frame_states new f inside frees =
    ext_get_or Free new (slice_set frame_states f Free) (frees.frames ∙ sym (length-set frame_states f Free)) (λ g within.
    frees.records g
    ∙ elim (cases_eq g f) [
      | inl e ↦ ap (λ (b : Bool). cond b Free (frame_state_at frame_states g)) (is_in f 1 g (omega (arith, e)) (omega (arith, e)))
          ∙ sym (ap (frame_state_at (slice_set frame_states f Free)) e ∙ get_or-set_same frame_states f Free Free inside)
      | inr ne ↦ ap (λ (b : Bool). cond b Free (frame_state_at frame_states g)) (is_out f 1 g (λ low high. ne (omega (arith, low, high))))
          ∙ sym (get_or-set_other frame_states f g Free Free ne)
    ])

module _ (t : KnownTable) (m : KnownMachine) (c : KnownCpuLists) (ok : IsConsistent t m) (visit : Visits t m c)
    (f g : ℕ) (rest : List ℕ) (front : c.fresh ≡ f ∷ rest) (of : stock_group t m c.number ≡ Some g) where
  abbrev s : State
  s = local_of t m

  abbrev unit : ChargedUnit
  unit = record { group = g; order = 0 }

  abbrev d : KnownCpuLists
  d = record c { fresh = rest }

  shown : IsShownBy t m (hide (local_of t m))
  shown = shown_seen t m ok visit.held

  mine : HasFrame (local_of t m) c.number (phase.Head (record { group = g; order = 0 }) (FreshAt c.number)) f
  mine = fresh_here t m c visit f g rest front of

  pub v : IsVisited (local_of t m) c.number f
  v = is_visited t m c visit f mine.framed

  abbrev part : Part
  part = absorbed_part (local_of t m) c.number f v (record { group = g; order = 0 })

  within : f < length m.frame_states
  within =
      let low = below_frames (local_of t m).zone f mine.framed in
      let same = ap (λ (z : Zone). z.frames) (zone_seen t m.run.past) in
      let sized = ok.sizes.frame_states in
      omega (arith, low, same, sized)

  is_lent : frame_state_at m.frame_states f ≡ Lent c.number
  is_lent = lent_record (frame_state_at m.frame_states f) c.number (sym (shown.phases f) ∙ ap hide_phase mine.phase_is)

  no_list : home_of m.links f ≡ None
  no_list = no_home (home_of m.links f) (sym mine.unreferred ∙ shown.references f)

  -- ---- the CPU's part

  none_reported : ((local_of t m).parts c.number).reported ≡ 0
  none_reported = let a : told_pages ((local_of t m).parts c.number) ≡ 0 = shown.absorbed c.number in omega (arith, a)

  some_booked : 1 ≤ ((local_of t m).parts c.number).book
  some_booked =
      let a = booked_here t m c visit in
      let b : length ((local_of t m).parts c.number).fresh ≡ length (f ∷ rest) = ap length (visit.own.fresh ∙ front) in
      omega (arith, a, b)

  same_cpu : one_if (c.number == c.number) ≡ 1
  same_cpu = ap one_if (eq-eqb c.number c.number refl)

  told : told_pages part ≡ told_pages ((local_of t m).parts c.number)
  told = let a = same_cpu in omega (arith, a)

  none_in_rest : times f rest ≡ 0
  none_in_rest =
      let a : times f ((local_of t m).parts c.number).fresh ≡ one_if (c.number == c.number) = mine.fresh in
      let b = ap (times f) (visit.own.fresh ∙ front) in
      let e = same_cpu in
      let h = times_same f in
      omega (arith, a, b, e, h)

  listed : part.list ≡ c.list
  listed = without_none f ((local_of t m).parts c.number).list mine.listed ∙ visit.own.list

  is_fresh : part.fresh ≡ rest
  is_fresh = without_front f ((local_of t m).parts c.number).fresh rest (visit.own.fresh ∙ front) none_in_rest

  is_back : part.back ≡ c.back
  is_back = without_none f ((local_of t m).parts c.number).back mine.back ∙ visit.own.back

  -- ---- the books

  of_group : ((local_of t m).parts c.number).stock.group ≡ Some g
  of_group = group_seen t m c visit ∙ of

  books : (h : ℕ) → pages_booked t.cpus (local_of t m).parts h ≡ pages_booked t.cpus (with_at (local_of t m).parts c.number part) h + cond (h == g) 1 0
  books = books_fall t.cpus (local_of t m).parts c.number (number_range t m c visit).1 part g of_group refl some_booked refl

  pub booked_some : 1 ≤ pages_booked t.cpus (local_of t m).parts g
  booked_some = book_within t.cpus (local_of t m).parts c.number (number_range t m c visit).1 part g of_group some_booked refl refl

  abbrev fallen : List ℕ → List ℕ
  fallen sums = slice_set sums g (get_or sums g 0 - 1)

  sums_fall : (sums : List ℕ) → AreBooked (length m.killed) t.cpus (hide (local_of t m)).parts sums → g < length m.killed → (h : ℕ)
      → get_or (fallen sums) h 0 ≡ pages_booked t.cpus (with_at (local_of t m).parts c.number part) h
  sums_fall sums are fits h =
      let b = books h in
      let a : get_or sums h 0 ≡ pages_booked t.cpus (local_of t m).parts h = are.each h in
      elim (cases_eq h g) [
        | inl e ↦
            let one : ◌≡◌ {A = ℕ} (cond (h == g) 1 0) 1 = ap (λ (x : Bool). cond x 1 0) (eq-eqb h g e) in
            let size = are.size in
            let here : get_or (fallen sums) h 0 ≡ get_or sums h 0 - 1 =
            ap (λ (k : ℕ). get_or (fallen sums) k 0) e ∙ get_or-set_same sums g (get_or sums g 0 - 1) 0 (omega (arith, fits, size))
            ∙ ap (λ (k : ℕ). get_or sums k 0 - 1) (sym e) in
            omega (arith, a, b, one, here)
        | inr ne ↦
            let none : ◌≡◌ {A = ℕ} (cond (h == g) 1 0) 0 = ap (λ (x : Bool). cond x 1 0) (ne_eqb h g ne) in
            let here = get_or-set_other sums g h (get_or sums g 0 - 1) 0 ne in
            omega (arith, a, b, none, here)
      ]

  -- ---- the steps

  pub keep_leads : IsLocalRun c.number (local_of t m) (keep_steps c.number f) (kept_state (local_of t m) c.number f v unit)
  keep_leads = collect_run (local_of t m) c.number f v unit mine.phase_is none_reported (publish_steps f) _
      (keep_run (local_of t m) c.number f v unit)

  pub drop_leads : is_killed m.killed g ≡ true → IsLocalRun c.number (local_of t m) (drop_steps c.number f) (dropped_state (local_of t m) c.number f v unit)
  drop_leads killed = collect_run (local_of t m) c.number f v unit mine.phase_is none_reported (zone_makes (Return f) Done ∷ []) _
      (drop_run (local_of t m) c.number f v unit (shown.killed g ∙ killed))

  -- ---- kept

  module _ (links : List Link) (lists : List Lru) (run : KnownRun) (joined : AllJoin m.links m.lists g f links lists) (fits : g < length m.killed)
      (noted : Records t m.run (keep_steps c.number f) run) where
    abbrev kept : KnownMachine
    kept = record m { frame_states = slice_set m.frame_states f (Head (record { group = g; order = 0 })); links = links; lists = lists; run = run }

    kept_free : free_of m.frame_states ≡ free_of kept.frame_states
    kept_free = free_stays m.frame_states f (Head (record { group = g; order = 0 })) within (ap is_free_state is_lent) refl

    kept_left : left_by t run.past ≡ hide (kept_state (local_of t m) c.number f v unit)
    kept_left = left_moved t m c visit kept d (keep_steps c.number f) _ noted keep_leads

    held_once : (y : ℕ) → one_more_held (local_of t m) c.number f v unit 0 y ≡ one_if (is_some (home_of links y))
    held_once y =
        ap (λ (r : ℕ → ℕ). r y) (at_same (local_of t m).references 0 (with_at ((local_of t m).references 0) f ((local_of t m).references 0 f + 1)))
        ∙ elim (cases_eq y f) [
          | inl e ↦ ap (with_at ((local_of t m).references 0) f ((local_of t m).references 0 f + 1)) e
              ∙ at_same ((local_of t m).references 0) f ((local_of t m).references 0 f + 1) ∙ ap (λ (n : ℕ). n + 1) mine.unreferred
              ∙ sym (ap (λ (k : ℕ). one_if (is_some (home_of links k))) e ∙ ap (λ (o : Option Home). one_if (is_some o)) joined.joins.home)
          | inr ne ↦ at_other ((local_of t m).references 0) f ((local_of t m).references 0 f + 1) y ne ∙ shown.references y
              ∙ sym (ap (λ (o : Option Home). one_if (is_some o)) (joined.joins.homes y ne))
        ]

    abbrev block : Block
    block = record { at = f; order = 0 }

    is_block : IsBlock (length m.frame_states) (record { at = f; order = 0 })
    is_block = record { order = omega arith; aligned = omega arith; inside = let a = within in omega (arith, a) }

    uncharged : (x : ℕ) → f ≤ x → x < f + 2 ^ 0 → frame_state_group (frame_state_at m.frame_states x) ≡ None
    uncharged x low high =
        let same : x ≡ f = omega (arith, low, high) in
        ap (λ (k : ℕ). frame_state_group (frame_state_at m.frame_states k)) same ∙ ap frame_state_group is_lent

    kept_shown : IsShownBy t kept (hide (kept_state (local_of t m) c.number f v unit))
    kept_shown = shown_moved t m kept (local_of t m) shown c.number part _ (one_more_held (local_of t m) c.number f v unit) refl refl
        (phases_set t m (local_of t m) shown f (phase.Head unit Live) (Head unit) within refl) held_once told (omega arith)
        (λ h.
        let a : pages_of m.ledger h ≡ frames_charged m.frame_states h + pages_booked t.cpus (local_of t m).parts h = shown.charged h in
        let b = books h in
        let e : frames_charged kept.frame_states h ≡ frames_charged m.frame_states h + cond (h == g) 1 0 =
        charges_rise m.frame_states kept.frame_states g (record { at = f; order = 0 }) (placed_one m.frame_states g f within) is_block uncharged h in
        omega (arith, a, b, e))

    kept_fits : (y : ℕ) → y < t.frames → FitsFrameState (room_of m.ledger.groups) (home_of links y) (frame_state_at kept.frame_states y)
    kept_fits y low = elim (cases_eq y f) [
      | inl e ↦ subst (λ (z : Option Home × FrameState). FitsFrameState (room_of m.ledger.groups) z.0 z.1)
          (λ i. (sym (ap (home_of links) e ∙ joined.joins.home) i, sym (ap (frame_state_at kept.frame_states) e ∙ get_or-set_same m.frame_states f (Head unit) Free within) i))
          (subst (λ (n : ℕ). g < n) ok.sizes.killed fits, refl)
      | inr ne ↦ subst (λ (z : Option Home × FrameState). FitsFrameState (room_of m.ledger.groups) z.0 z.1)
          (λ i. (sym (joined.joins.homes y ne) i, sym (get_or-set_other m.frame_states f y (Head unit) Free ne) i)) (ok.frame_states y low)
    ]

    kept_consistent : IsConsistent t kept
    kept_consistent = record {
      choice = ok.choice;
      sizes = record {
        frame_states = length-set m.frame_states f (Head unit) ∙ ok.sizes.frame_states;
        links = joined.frames ∙ ok.sizes.links;
        lists = joined.groups ∙ ok.sizes.lists;
        killed = ok.sizes.killed;
      };
      areas = subst (λ (l : List Bool). AreMaximalBlocks l m.blocks) kept_free ok.areas;
      frame_states = kept_fits;
      units = units_placed m.frame_states kept.frame_states g (record { at = f; order = 0 }) (placed_one m.frame_states g f within) is_block uncharged ok.units;
      lists = joined.stand;
      balances = ok.balances;
      shown = subst (IsShownBy t kept) (sym kept_left) kept_shown;
    }

    kept_visit : Visits t kept d
    kept_visit = visit_moved t m c visit kept d (keep_steps c.number f) _ noted keep_leads refl
        (own_moved (local_of t m) c visit.own part _ (one_more_held (local_of t m) c.number f v unit) c.list rest c.back
        (λ y. ap (λ (r : ℕ → ℕ). r y) (at_other (local_of t m).references 0 _ c.number (let low = (number_range t m c visit).0 in λ e. absurd (omega (arith, low, e)))))
        listed is_fresh is_back) refl

    pub all_kept : (free : List Bool) (sums : List ℕ) (owners : List (Option ℕ)) → free ≡ free_of m.frame_states
        → AreBooked (length m.killed) t.cpus (left_by t m.run.past).parts sums → AreOwners t.cpus (left_by t m.run.past).parts owners
        → AllMoved t m c (KeepsFresh g f) (keep_steps c.number f) kept d free (fallen sums) owners
    all_kept free sums owners is are own =
        let seen = left_seen t m.run.past visit.held in
        let are_seen : AreBooked (length m.killed) t.cpus (hide (local_of t m)).parts sums = subst (λ (u : State). AreBooked (length m.killed) t.cpus u.parts sums) seen are in record {
          consistent = kept_consistent;
          free_is = is ∙ kept_free;
          sums_are = subst (λ (u : State). AreBooked (length m.killed) t.cpus u.parts (fallen sums)) (sym kept_left)
              (sums_moved t m kept (local_of t m) shown c.number part (with_at (local_of t m).phases f (phase.Head unit Live)) (one_more_held (local_of t m) c.number f v unit) sums (fallen sums) are_seen
              (length-set sums g (get_or sums g 0 - 1)) (sums_fall sums are_seen fits));
          owners_are = subst (λ (u : State). AreOwners t.cpus u.parts owners) (sym kept_left)
              (owners_moved t m kept (local_of t m) shown c.number part (with_at (local_of t m).phases f (phase.Head unit Live)) (one_more_held (local_of t m) c.number f v unit) owners
              (subst (λ (u : State). AreOwners t.cpus u.parts owners) seen own) refl);
          does = record { listed = joined.joins; machine = refl; cpu = record { front = front; cpu = refl } };
          visit = kept_visit;
          makes = makes_moved t m c visit kept d (keep_steps c.number f) _ noted keep_leads (follows_same _ _ _ refl)
              (collects_none (local_of t m) f (phase.Head unit (FreshAt c.number)) mine.phase_is refl m.counts);
        }

  -- ---- dropped

  module _ (new : List FrameState) (frees : FreesFrames f (2 ^ 0) m.frame_states new) (blocks : List Block) (areas : AreMaximalBlocks (free_of new) blocks)
      (counts : Counts) (counted : counts ≡ with_killed_fresh m.counts) (killed : is_killed m.killed g ≡ true) (run : KnownRun)
      (noted : Records t m.run (drop_steps c.number f) run) where
    abbrev dropped : KnownMachine
    dropped = record m { blocks = blocks; frame_states = new; ledger = with_uncharge m.ledger g 1; counts = counts; run = run }

    one_set : new ≡ slice_set m.frame_states f Free
    one_set = frees_one m.frame_states new f within frees

    dropped_left : left_by t run.past ≡ hide (dropped_state (local_of t m) c.number f v unit)
    dropped_left = left_moved t m c visit dropped d (drop_steps c.number f) _ noted (drop_leads killed)

    charged_one : 1 ≤ pages_of m.ledger g
    charged_one =
        let a : pages_of m.ledger g ≡ frames_charged m.frame_states g + pages_booked t.cpus (local_of t m).parts g = shown.charged g in
        let b = booked_some in
        omega (arith, a, b)

    dropped_shown : IsShownBy t dropped (hide (dropped_state (local_of t m) c.number f v unit))
    dropped_shown = shown_moved t m dropped (local_of t m) shown c.number part _ (local_of t m).references refl refl
        (phases_freed t m (local_of t m) shown f new unit Collected frees) shown.references told (omega arith)
        (λ h.
        let a : pages_of m.ledger h ≡ frames_charged m.frame_states h + pages_booked t.cpus (local_of t m).parts h = shown.charged h in
        let b = books h in
        let e : frames_charged new h ≡ frames_charged m.frame_states h =
        ap (λ (l : List FrameState). frames_charged l h) one_set ∙ charges_stay m.frame_states f Free within (ap frame_state_group is_lent) refl h in
        let l = uncharge_pages m.ledger g 1 charged_one h in
        omega (arith, a, b, e, l))

    dropped_fits : (y : ℕ) → y < t.frames → FitsFrameState (room_of m.ledger.groups) (home_of m.links y) (frame_state_at new y)
    dropped_fits y low = subst (λ (l : List FrameState). FitsFrameState (room_of m.ledger.groups) (home_of m.links y) (frame_state_at l y)) (sym one_set) (elim (cases_eq y f) [
      | inl e ↦ subst (λ (o : Option Home). FitsFrameState (room_of m.ledger.groups) o (frame_state_at (slice_set m.frame_states f Free) y)) (sym (ap (home_of m.links) e ∙ no_list)) tt
      | inr ne ↦ subst (FitsFrameState (room_of m.ledger.groups) (home_of m.links y)) (sym (get_or-set_other m.frame_states f y Free Free ne)) (ok.frame_states y low)
    ])

    dropped_consistent : IsConsistent t dropped
    dropped_consistent = record {
      choice = ok.choice;
      sizes = record { frame_states = frees.frames ∙ ok.sizes.frame_states; links = ok.sizes.links; lists = ok.sizes.lists; killed = ok.sizes.killed };
      areas = areas;
      frame_states = dropped_fits;
      units = subst AreUnits (sym one_set) (units_stay m.frame_states f Free within (ap frame_state_group is_lent) refl ok.units);
      lists = ok.lists;
      balances = subst BalancesCounts (sym counted) (balanced_killed_fresh m.counts ok.balances);
      shown = subst (IsShownBy t dropped) (sym dropped_left) dropped_shown;
    }

    pub all_dropped : (free now_free : List Bool) (sums : List ℕ) (owners : List (Option ℕ)) → free ≡ free_of m.frame_states
        → GivesFrames free (record { at = f; order = 0 }) now_free → g < length m.killed
        → AreBooked (length m.killed) t.cpus (left_by t m.run.past).parts sums → AreOwners t.cpus (left_by t m.run.past).parts owners
        → AllMoved t m c (DropsFresh g f) (drop_steps c.number f) dropped d now_free (fallen sums) owners
    all_dropped free now_free sums owners was gives fits are own =
        let seen = left_seen t m.run.past visit.held in
        let are_seen : AreBooked (length m.killed) t.cpus (hide (local_of t m)).parts sums = subst (λ (u : State). AreBooked (length m.killed) t.cpus u.parts sums) seen are in
        let inside = within in record {
          consistent = dropped_consistent;
          free_is = free_block_given free now_free m.frame_states new f 0 (omega (arith, inside)) was gives frees;
          sums_are = subst (λ (u : State). AreBooked (length m.killed) t.cpus u.parts (fallen sums)) (sym dropped_left)
              (sums_moved t m dropped (local_of t m) shown c.number part (without_unit (with_at (local_of t m).phases f (phase.Head unit Collected)) f) (local_of t m).references sums (fallen sums) are_seen
              (length-set sums g (get_or sums g 0 - 1)) (sums_fall sums are_seen fits));
          owners_are = subst (λ (u : State). AreOwners t.cpus u.parts owners) (sym dropped_left)
              (owners_moved t m dropped (local_of t m) shown c.number part (without_unit (with_at (local_of t m).phases f (phase.Head unit Collected)) f) (local_of t m).references owners
              (subst (λ (u : State). AreOwners t.cpus u.parts owners) seen own) refl);
          does = record { frees = frees; areas = areas; machine = λ i. record dropped { counts = counted i }; cpu = record { front = front; cpu = refl } };
          visit = visit_moved t m c visit dropped d (drop_steps c.number f) _ noted (drop_leads killed) refl
              (own_moved (local_of t m) c visit.own part _ (local_of t m).references c.list rest c.back (λ y. refl) listed is_fresh is_back) refl;
          makes = makes_moved t m c visit dropped d (drop_steps c.number f) _ noted (drop_leads killed)
              (follows_still _ m.ledger _ _ refl (uncharge_peaks m.ledger g 1) (uncharge_events m.ledger g 1))
              (counted ∙ comes_back (local_of t m) f (phase.Head unit (FreshAt c.number)) mine.phase_is false true refl (shown.killed g ∙ killed) m.counts);
        }

-- ---- of the machine as it was seen before

-- a list that isn't empty has a front
pub front_of_some : (xs : List ℕ) → xs ≢ [] → (f : ℕ) × (rest : List ℕ) × (xs ≡ f ∷ rest)
front_of_some [] some = absurd (some refl)
front_of_some (x ∷ xs) some = (x, xs, refl)

module _ (t : KnownTable) (m now : KnownMachine) (same : m ≡ now) (c : KnownCpuLists) (visit_now : Visits t now c) (ok : IsConsistent t m)
    (g : ℕ) (of_now : stock_group t now c.number ≡ Some g) where
  visit : Visits t m c
  visit = visits_here t m now same c visit_now

  of : stock_group t m c.number ≡ Some g
  of = ap (λ (x : KnownMachine). stock_group t x c.number) same ∙ of_now

  pub none_reported_here : ((local_of t m).parts c.number).reported ≡ 0
  none_reported_here = let a : told_pages ((local_of t m).parts c.number) ≡ 0 = (shown_seen t m ok visit.held).absorbed c.number in omega (arith, a)

  -- a page of the fresh frame is in the sum of its group
  pub sum_some : (sums : List ℕ) → AreBooked (length m.killed) t.cpus (left_by t m.run.past).parts sums → c.fresh ≢ [] → 1 ≤ get_or sums g 0
  sum_some sums are some =
      let front = front_of_some c.fresh some in
      let a : get_or sums g 0 ≡ pages_booked t.cpus (local_of t m).parts g =
      (subst (λ (u : State). AreBooked (length m.killed) t.cpus u.parts sums) (left_seen t m.run.past visit.held) are).each g in
      let b = booked_some t m c ok visit front.0 g front.1 front.2 of in
      omega (arith, a, b)

  -- so there is room for the group
  pub has_room : (sums : List ℕ) → AreBooked (length m.killed) t.cpus (left_by t m.run.past).parts sums → c.fresh ≢ [] → g < length m.killed
  has_room sums are some = let low = has_entry sums g (sum_some sums are some) in let sized = are.size in omega (arith, low, sized)

  module _ (f : ℕ) (rest : List ℕ) (front : c.fresh ≡ f ∷ rest) where
    keep_local : AreLocal c.number (local_of t m) (keep_steps c.number f)
    keep_local = run_steps c.number (local_of t m) (keep_steps c.number f) _ (keep_leads t m c ok visit f g rest front of)

    pub collect_legal : AreLegal (local_of t m) (collect_steps c.number f)
    collect_legal = local_legal c.number (local_of t m) (collect_steps c.number f) (publish_steps f) keep_local

    pub away_here : (i : ℕ) → i ≡ f → home_of m.links i ≡ None
    away_here i index = ap (home_of m.links) index ∙ no_list t m c ok visit f g rest front of

    pub within_here : (i : ℕ) → i ≡ f → i < length m.frame_states
    within_here i index = let a = within t m c ok visit f g rest front of in omega (arith, a, index)

    pub unit_inside : (i k : ℕ) → i ≡ f → k ≡ 0 → i + 2 ^ k ≤ length m.frame_states
    unit_inside i k index zero_is =
        let a = within t m c ok visit f g rest front of in
        let one : 2 ^ k ≡ 1 = ap (λ (j : ℕ). 2 ^ j) zero_is in
        omega (arith, a, index, one)

    module _ (mid : KnownRun) (collected : Records t m.run (collect_steps c.number f) mid) where
      pub may_publish : MayTakeAll t mid.past (publish_steps f)
      may_publish = may_all t mid.past c.number _ (publish_steps f) (collected.grew.holder visit.held ∙ visit.who) (collected.grew.sees visit.held)
          (local_behind c.number (local_of t m) (collect_steps c.number f) (publish_steps f) keep_local)

      pub kept_notes : (last : KnownRun) → Records t mid (publish_steps f) last → Records t m.run (keep_steps c.number f) last
      kept_notes last published = notes_both t m.run (collect_steps c.number f) mid (publish_steps f) last collected published

      pub may_return : is_killed now.killed g ≡ true → (i : ℕ) → i ≡ f → MayTake t mid.past (zone_makes (Return i) Done)
      may_return killed i index = subst (λ (x : ℕ). MayTake t mid.past (zone_makes (Return x) Done)) (sym index)
          (may_next t m.run mid (collect_steps c.number f) [] (zone_makes (Return f) Done) c.number visit.held visit.who collected
          (run_steps c.number (local_of t m) (drop_steps c.number f) _
          (drop_leads t m c ok visit f g rest front of (ap (λ (x : KnownMachine). is_killed x.killed g) same ∙ killed))))

      pub dropped_notes : (last : KnownRun) (i : ℕ) → i ≡ f → Records t mid (zone_makes (Return i) Done ∷ []) last → Records t m.run (drop_steps c.number f) last
      dropped_notes last i index returned = notes_both t m.run (collect_steps c.number f) mid (zone_makes (Return f) Done ∷ []) last collected
          (subst (λ (x : ℕ). Records t mid (zone_makes (Return x) Done ∷ []) last) index returned)

    -- all of it, if it is kept
    pub keep_all : (free : List Bool) (sums sums' : List ℕ) (owners : List (Option ℕ)) → free ≡ free_of m.frame_states
        → AreBooked (length m.killed) t.cpus (left_by t m.run.past).parts sums → AreOwners t.cpus (left_by t m.run.past).parts owners → g < length m.killed
        → (h : KnownCpuLists) → HandsOver f c h → sums' ≡ slice_set sums g (get_or sums g 0 - 1) → (i k : ℕ) → i ≡ f → k ≡ 0
        → (links : List Link) (lists : List Lru) → AllJoin m.links m.lists g i links lists → (run : KnownRun) → Records t m.run (keep_steps c.number f) run
        → AllMoved t now c (KeepsFresh g f) (keep_steps c.number f)
        (record m { frame_states = slice_set m.frame_states i (Head (record { group = g; order = k })); links = links; lists = lists; run = run }) h free sums' owners
    keep_all free sums sums' owners is are own fits h hands fell i k index zero_is links lists joined_i run noted =
        let joined : AllJoin m.links m.lists g f links lists = subst (λ (j : ℕ). AllJoin m.links m.lists g j links lists) index joined_i in
        let last : h.fresh ≡ rest = tail_same f h.fresh rest (sym hands.front ∙ front) in
        let cpu : h ≡ record c { fresh = rest } = hands.cpu ∙ ap (λ (l : List ℕ). record c { fresh = l }) last in
        subst (λ (x : KnownMachine × KnownMachine × KnownCpuLists × List ℕ). AllMoved t x.0 c (KeepsFresh g f) (keep_steps c.number f) x.1 x.2 free x.3 owners)
        (λ j. (
          same j,
          record m { frame_states = slice_set m.frame_states (sym index j) (Head (record { group = g; order = sym zero_is j })); links = links; lists = lists; run = run },
          sym cpu j,
          sym fell j,
        )) (all_kept t m c ok visit f g rest front of links lists run joined fits noted free sums owners is are own)

    -- all of it, if it is dropped
    pub drop_all : (free now_free : List Bool) (sums sums' : List ℕ) (owners : List (Option ℕ)) → free ≡ free_of m.frame_states
        → AreBooked (length m.killed) t.cpus (left_by t m.run.past).parts sums → AreOwners t.cpus (left_by t m.run.past).parts owners → g < length m.killed
        → is_killed now.killed g ≡ true → (h : KnownCpuLists) → HandsOver f c h → sums' ≡ slice_set sums g (get_or sums g 0 - 1) → (i k : ℕ) → i ≡ f → k ≡ 0
        → (new : List FrameState) → FreesFrames i (2 ^ k) m.frame_states new → (blocks : List Block) → GivesFrames free (record { at = i; order = k }) now_free
        → AreMaximalBlocks now_free blocks → (ledger : Ledger) → ledger ≡ with_uncharge m.ledger g (2 ^ k)
        → (counts : Counts) → counts ≡ with_killed_fresh m.counts → (run : KnownRun) → Records t m.run (drop_steps c.number f) run
        → AllMoved t now c (DropsFresh g f) (drop_steps c.number f)
        (record m { blocks = blocks; frame_states = new; ledger = ledger; counts = counts; run = run }) h now_free sums' owners
    drop_all free now_free sums sums' owners is are own fits killed_now h hands fell i k index zero_is new frees_i blocks gives_i areas ledger uncharges counts counted run noted =
        let frees : FreesFrames f (2 ^ 0) m.frame_states new = subst (λ (x : ℕ × ℕ). FreesFrames x.0 (2 ^ x.1) m.frame_states new) (λ j. (index j, zero_is j)) frees_i in
        let gives : GivesFrames free (record { at = f; order = 0 }) now_free =
        subst (λ (x : ℕ × ℕ). GivesFrames free (record { at = x.0; order = x.1 }) now_free) (λ j. (index j, zero_is j)) gives_i in
        let inside = within t m c ok visit f g rest front of in
        let free_is : now_free ≡ free_of new = free_block_given free now_free m.frame_states new f 0 (omega (arith, inside)) is gives frees in
        let areas_now : AreMaximalBlocks (free_of new) blocks = subst (λ (l : List Bool). AreMaximalBlocks l blocks) free_is areas in
        let killed : is_killed m.killed g ≡ true = ap (λ (x : KnownMachine). is_killed x.killed g) same ∙ killed_now in
        let last : h.fresh ≡ rest = tail_same f h.fresh rest (sym hands.front ∙ front) in
        let cpu : h ≡ record c { fresh = rest } = hands.cpu ∙ ap (λ (l : List ℕ). record c { fresh = l }) last in
        let one : ledger ≡ with_uncharge m.ledger g 1 = uncharges ∙ ap (λ (j : ℕ). with_uncharge m.ledger g (2 ^ j)) zero_is in
        subst (λ (x : KnownMachine × KnownMachine × KnownCpuLists × List ℕ). AllMoved t x.0 c (DropsFresh g f) (drop_steps c.number f) x.1 x.2 now_free x.3 owners)
        (λ j. (
          same j,
          record m { blocks = blocks; frame_states = new; ledger = sym one j; counts = counts; run = run },
          sym cpu j,
          sym fell j,
        )) (all_dropped t m c ok visit f g rest front of new frees blocks areas_now counts counted killed run noted free now_free sums owners is gives fits are own)

    -- the page that is dropped is charged to the group
    pub drop_charged : (k : ℕ) → k ≡ 0 → 2 ^ k ≤ pages_of m.ledger g
    drop_charged k zero_is =
        let a : pages_of m.ledger g ≡ frames_charged m.frame_states g + pages_booked t.cpus (local_of t m).parts g = (shown_seen t m ok visit.held).charged g in
        let b = booked_some t m c ok visit f g rest front of in
        let one : 2 ^ k ≡ 1 = ap (λ (j : ℕ). 2 ^ j) zero_is in
        omega (arith, a, b, one)

    -- the frame is in use
    pub drop_in_use : (free : List Bool) → free ≡ free_of m.frame_states → (i k : ℕ) → i ≡ f → k ≡ 0 → IsInUse free (record { at = i; order = k })
    drop_in_use free was i k index zero_is = lent_in_use m.frame_states free f i k (within t m c ok visit f g rest front of) was
        (ap is_free_state (is_lent t m c ok visit f g rest front of)) index zero_is
