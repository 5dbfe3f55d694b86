-- A back frame's unit is freed. Serves `return_one`.
use Rattle.std.proofs.Common.{true, false, ◌≡◌, ℕ, ◌^◌, ◌<◌, ◌==◌, Bool, Option, None, List, [], ◌∷◌, length, get_or, refl, sym, ap, ◌∙◌, subst, arith}
use Rattle.std.proofs.lemmas.List.{get_or_default}
use Rattle.zone_blocks.specs.declared.block.Block.{Block}
use Rattle.zone_blocks.specs.{AreMaximalBlocks, GivesFrames}
use Rattle.group_charge.specs.Charges.{Ledger, with_uncharge}
use Rattle.group_charge.proofs.CallerLemmas.{uncharge_peaks, uncharge_events}
use Rattle.boot_words.specs.{hide, hide_phase, IsHolder, KnownPasts, MakesStep, MayMake, KnownTable}
use Rattle.cpu_part.specs.{PassesBackUnit, KnownCpuLists}
use Rattle.step_rules.specs.declared.phase.ChargedUnit.{ChargedUnit}
use Rattle.step_rules.specs.declared.phase.Stage.TheVariants.{AwaitsReturn, BackAt}
use Rattle.step_rules.specs.declared.phase.Phase.TheVariants as phase
use Rattle.step_rules.specs.declared.step.Action.TheVariants.{PassBack, Collect, Return}
use Rattle.step_rules.specs.declared.step.Answer.TheVariants.{Done}
use Rattle.step_rules.specs.{told_pages, Part, Zone, one_if, times, with_at, without_unit, IsLocalRun, zone_makes}
use Rattle.step_rules.specs.State.{State}
use Rattle.step_rules.proofs.Lists.{times_same, without_front, without_none}
use Rattle.step_rules.proofs.SoundSteps.{below_frames}
use Rattle.step_watch.specs.Watched.{Watches}
use Rattle.mem_machine.specs.declared.frame_state.FrameState.{FrameState}
use Rattle.mem_machine.specs.declared.frame_state.FrameState.TheVariants.{Head}
use Rattle.mem_machine.specs.declared.counts.Counts.{Counts}
use Rattle.mem_machine.specs.{AreBooked, AreOwners, frame_state_at, free_of, phase_hidden, KnownMachine, IsConsistent, IsShownBy, BalancesCounts}
use Rattle.mem_machine.specs.{home_of, left_by, pages_booked, Visits, local_of, AreLocal, KnownRun, MayTake, MayTakeAll, Records, FreesFrames, ReturnsBack}
use Rattle.mem_machine.specs.{return_steps, with_last_put}
use Rattle.mem_machine.specs.Steps.{unlist_steps}
use Rattle.mem_machine.proofs.Balances.{balanced_last_put}
use Rattle.mem_machine.proofs.Collecting.{passed_notes}
use Rattle.mem_machine.proofs.Counted.{comes_back}
use Rattle.mem_machine.proofs.Followed.{follows_still}
use Rattle.mem_machine.proofs.Freeing.{free_block_given, homes_fit, pages_freed, units_freed}
use Rattle.mem_machine.proofs.HandOvers.{IsVisited, handed_back, returned_state, return_run}
use Rattle.mem_machine.proofs.Made.{visits_here, zone_seen}
use Rattle.mem_machine.proofs.Moved.{AllMoved, back_here, books_stay, head_record, headed, is_visited, left_moved, makes_moved, may_next, no_home, number_range, own_moved, owners_moved, phases_freed, shown_moved, sums_moved, visit_moved}
use Rattle.mem_machine.proofs.Noted.{may_all, notes_both, run_steps}
use Rattle.mem_machine.proofs.OwnFrames.{HasFrame}
use Rattle.mem_machine.proofs.Sight.{left_seen, shown_seen}

module _ (t : KnownTable) (m : KnownMachine) (c : KnownCpuLists) (ok : IsConsistent t m) (visit : Visits t m c) (f : ℕ) (rest : List ℕ) (front : c.back ≡ f ∷ rest) where
  shown : IsShownBy t m (hide (local_of t m))
  shown = shown_seen t m ok visit.held

  found : (unit : ChargedUnit) × HasFrame (local_of t m) c.number (phase.Head unit (BackAt c.number)) f
  found = back_here t m c visit f rest front

  -- it heads a unit
  pub heads_one : (unit : ChargedUnit) × (frame_state_at m.frame_states f ≡ Head unit)
  heads_one = (found.0, head_record (frame_state_at m.frame_states f) found.0 (sym (shown.phases f) ∙ ap hide_phase found.1.phase_is))

  pub within : f < length m.frame_states
  within =
      let low = below_frames (local_of t m).zone f found.1.framed in
      let same = ap (λ (z : Zone). z.frames) (zone_seen t m.run.past) in
      let sized = ok.sizes.frame_states in
      omega (arith, low, same, sized)

  module _ (unit : ChargedUnit) (heads : frame_state_at m.frame_states f ≡ Head unit) where
    abbrev d : KnownCpuLists
    d = record c { back = rest }

    mine : HasFrame (local_of t m) c.number (phase.Head unit (BackAt c.number)) f
    mine = subst (λ (u : ChargedUnit). HasFrame (local_of t m) c.number (phase.Head u (BackAt c.number)) f)
        (ap (headed unit) (sym (ap hide_phase found.1.phase_is) ∙ shown.phases f ∙ ap phase_hidden heads)) found.1

    pub v : IsVisited (local_of t m) c.number f
    v = is_visited t m c visit f mine.framed

    abbrev part : Part
    part = handed_back (local_of t m) c.number f v unit

    pub return_leads : IsLocalRun c.number (local_of t m) (return_steps c.number f) (returned_state (local_of t m) c.number f v unit)
    return_leads = return_run (local_of t m) c.number f v unit mine.phase_is

    no_list : home_of m.links f ≡ None
    no_list = no_home (home_of m.links f) (sym mine.unreferred ∙ shown.references f)

    -- ---- the CPU's part

    told : told_pages part ≡ told_pages ((local_of t m).parts c.number)
    told = omega arith

    none_in_rest : times f rest ≡ 0
    none_in_rest =
        let a : times f ((local_of t m).parts c.number).back ≡ one_if (c.number == c.number) = mine.back in
        let b = ap (times f) (visit.own.back ∙ front) in
        let e = times_same c.number in
        let h = times_same f in
        omega (arith, a, b, e, h)

    books : (h : ℕ) → pages_booked t.cpus (with_at (local_of t m).parts c.number part) h ≡ pages_booked t.cpus (local_of t m).parts h
    books = books_stay t.cpus (local_of t m).parts c.number (number_range t m c visit).1 part refl refl

    module _ (new : List FrameState) (frees : FreesFrames f (2 ^ unit.order) m.frame_states new) (blocks : List Block) (areas : AreMaximalBlocks (free_of new) blocks)
        (counts : Counts) (counted : counts ≡ with_last_put m.counts) (run : KnownRun) (noted : Records t m.run (return_steps c.number f) run) where
      abbrev returned : KnownMachine
      returned = record m {
        blocks = blocks;
        frame_states = new;
        ledger = with_uncharge m.ledger unit.group (2 ^ unit.order);
        counts = counts;
        run = run;
      }

      left : left_by t run.past ≡ hide (returned_state (local_of t m) c.number f v unit)
      left = left_moved t m c visit returned d (return_steps c.number f) _ noted return_leads

      returned_shown : IsShownBy t returned (hide (returned_state (local_of t m) c.number f v unit))
      returned_shown = shown_moved t m returned (local_of t m) shown c.number part _ (local_of t m).references refl refl
          (phases_freed t m (local_of t m) shown f new unit AwaitsReturn frees) shown.references told (omega arith)
          (λ h.
          let a = pages_freed t m ok f unit heads new frees (pages_booked t.cpus (local_of t m).parts) shown.charged h in
          let b = books h in
          omega (arith, a, b))

      pub all_returned : (free now_free : List Bool) (sums : List ℕ) (owners : List (Option ℕ)) → free ≡ free_of m.frame_states
          → GivesFrames free (record { at = f; order = unit.order }) now_free
          → AreBooked (length m.killed) t.cpus (left_by t m.run.past).parts sums → AreOwners t.cpus (left_by t m.run.past).parts owners
          → AllMoved t m c (ReturnsBack f) (return_steps c.number f) returned d now_free sums owners
      all_returned free now_free sums owners was gives are own =
          let seen = left_seen t m.run.past visit.held in
          let are_seen : AreBooked (length m.killed) t.cpus (hide (local_of t m)).parts sums = subst (λ (u : State). AreBooked (length m.killed) t.cpus u.parts sums) seen are in
          let phases = without_unit (with_at (local_of t m).phases f (phase.Head unit AwaitsReturn)) f in record {
            consistent = record {
              choice = ok.choice;
              sizes = record { frame_states = frees.frames ∙ ok.sizes.frame_states; links = ok.sizes.links; lists = ok.sizes.lists; killed = ok.sizes.killed };
              areas = areas;
              frame_states = homes_fit t m ok f unit heads new frees m.links (λ x ne. refl) no_list;
              units = units_freed m.frame_states new f unit heads ok.units frees;
              lists = ok.lists;
              balances = subst BalancesCounts (sym counted) (balanced_last_put m.counts ok.balances);
              shown = subst (IsShownBy t returned) (sym left) returned_shown;
            };
            free_is = free_block_given free now_free m.frame_states new f unit.order (ok.units.heads f unit heads).block.inside was gives frees;
            sums_are = subst (λ (u : State). AreBooked (length m.killed) t.cpus u.parts sums) (sym left)
                (sums_moved t m returned (local_of t m) shown c.number part phases (local_of t m).references sums sums are_seen refl
                (λ h. are_seen.each h ∙ sym (books h)));
            owners_are = subst (λ (u : State). AreOwners t.cpus u.parts owners) (sym left)
                (owners_moved t m returned (local_of t m) shown c.number part phases (local_of t m).references owners
                (subst (λ (u : State). AreOwners t.cpus u.parts owners) seen own) refl);
            does = record { unit = unit; heads = heads; frees = frees; areas = areas; machine = λ i. record returned { counts = counted i }; front = front; cpu = refl };
            visit = visit_moved t m c visit returned d (return_steps c.number f) _ noted return_leads refl
                (own_moved (local_of t m) c visit.own part _ (local_of t m).references c.list c.fresh rest (λ y. refl)
                (without_none f ((local_of t m).parts c.number).list mine.listed ∙ visit.own.list)
                (without_none f ((local_of t m).parts c.number).fresh mine.fresh ∙ visit.own.fresh)
                (without_front f ((local_of t m).parts c.number).back rest (visit.own.back ∙ front) none_in_rest)) refl;
            makes = makes_moved t m c visit returned d (return_steps c.number f) _ noted return_leads
                (follows_still _ m.ledger _ _ refl (uncharge_peaks m.ledger unit.group (2 ^ unit.order)) (uncharge_events m.ledger unit.group (2 ^ unit.order)))
                (counted ∙ comes_back (local_of t m) f (phase.Head unit (BackAt c.number)) mine.phase_is true false refl refl m.counts);
          }

-- ---- of the machine as it was seen before

module _ (t : KnownTable) (m now : KnownMachine) (same : m ≡ now) (c : KnownCpuLists) (visit_now : Visits t now c) (ok : IsConsistent t m) where
  visit : Visits t m c
  visit = visits_here t m now same c visit_now

  module _ (f : ℕ) (rest : List ℕ) (front : c.back ≡ f ∷ rest) where
    local : AreLocal c.number (local_of t m) (return_steps c.number f)
    local =
        let one = heads_one t m c ok visit f rest front in
        run_steps c.number (local_of t m) (return_steps c.number f) _ (return_leads t m c ok visit f rest front one.0 one.1)

    pub back_may_pass : MayMake t m.run.past c.number (PassBack f)
    back_may_pass = local.0.legal

    pub within_here : (i : ℕ) → i ≡ f → i < length m.frame_states
    within_here i index = let a = within t m c ok visit f rest front in omega (arith, a, index)

    -- as its record is read
    pub read_head : (i : ℕ) → i ≡ f → (x : FrameState) → x ≡ get_or m.frame_states i x → frame_state_at m.frame_states i ≡ x
    read_head i index x read = get_or_default m.frame_states i _ x (within_here i index) ∙ sym read

    pub not_other : (i : ℕ) → i ≡ f → (x : FrameState) → x ≡ get_or m.frame_states i x → ((unit : ChargedUnit) → x ≡ Head unit → ⊥) → ⊥
    not_other i index x read other =
        let one = heads_one t m c ok visit f rest front in
        other one.0 (sym (read_head i index x read) ∙ ap (frame_state_at m.frame_states) index ∙ one.1)

    all : MayTakeAll t m.run.past (return_steps c.number f)
    all = may_all t m.run.past c.number (local_of t m) (return_steps c.number f) visit.who refl local

    module _ (q : ℕ) (number : q ≡ c.number) (mid : KnownPasts) (passed : MakesStep t m.run.past c.number (PassBack f) Done mid) where
      pub holder_then : IsHolder mid q
      holder_then = number ∙ sym (passed.cpu_grew.number ∙ visit.who)

      pub may_collect : MayMake t mid 0 (Collect f q)
      may_collect = subst (λ (x : ℕ). MayMake t mid 0 (Collect f x)) (sym number) (all.1 mid passed).0.legal

      module _ (later : KnownRun) (collected : MakesStep t mid 0 (Collect f q) Done later.past) (saw : Watches m.run.watch (unlist_steps q f) later.watch)
          (i : ℕ) (index : i ≡ f) where
        taken : Records t m.run (unlist_steps c.number f) later
        taken = passed_notes t m.run c.number q f number mid later passed collected saw

        pub may_return : MayTake t later.past (zone_makes (Return i) Done)
        may_return = subst (λ (x : ℕ). MayTake t later.past (zone_makes (Return x) Done)) (sym index)
            (may_next t m.run later (unlist_steps c.number f) [] (zone_makes (Return f) Done) c.number visit.held visit.who taken local)

        pub returned_notes : (last : KnownRun) → Records t later (zone_makes (Return i) Done ∷ []) last → Records t m.run (return_steps c.number f) last
        returned_notes last returned = notes_both t m.run (unlist_steps c.number f) later (zone_makes (Return f) Done ∷ []) last taken
            (subst (λ (x : ℕ). Records t later (zone_makes (Return x) Done ∷ []) last) index returned)

  pub return_all : (f : ℕ) (h : KnownCpuLists) → PassesBackUnit f c h → (free now_free : List Bool) (sums : List ℕ) (owners : List (Option ℕ)) → free ≡ free_of m.frame_states
      → AreBooked (length m.killed) t.cpus (left_by t m.run.past).parts sums → AreOwners t.cpus (left_by t m.run.past).parts owners → (i : ℕ) → i ≡ f
      → (unit : ChargedUnit) → frame_state_at m.frame_states i ≡ Head unit → (new : List FrameState) → FreesFrames i (2 ^ unit.order) m.frame_states new
      → (blocks : List Block) → GivesFrames free (record { at = i; order = unit.order }) now_free → AreMaximalBlocks now_free blocks
      → (ledger : Ledger) → ledger ≡ with_uncharge m.ledger unit.group (2 ^ unit.order) → (counts : Counts) → counts ≡ with_last_put m.counts
      → (run : KnownRun) → Records t m.run (return_steps c.number f) run
      → AllMoved t now c (ReturnsBack f) (return_steps c.number f)
      (record m { blocks = blocks; frame_states = new; ledger = ledger; counts = counts; run = run }) h now_free sums owners
  return_all f h hands free now_free sums owners was are own i index unit heads_i new frees_i blocks gives_i areas ledger uncharges counts counted run noted =
      let heads : frame_state_at m.frame_states f ≡ Head unit = ap (frame_state_at m.frame_states) (sym index) ∙ heads_i in
      let frees : FreesFrames f (2 ^ unit.order) m.frame_states new = subst (λ (x : ℕ). FreesFrames x (2 ^ unit.order) m.frame_states new) index frees_i in
      let gives : GivesFrames free (record { at = f; order = unit.order }) now_free =
      subst (λ (x : ℕ). GivesFrames free (record { at = x; order = unit.order }) now_free) index gives_i in
      let free_is : now_free ≡ free_of new =
      free_block_given free now_free m.frame_states new f unit.order (ok.units.heads f unit heads).block.inside was gives frees in
      let areas_now : AreMaximalBlocks (free_of new) blocks = subst (λ (l : List Bool). AreMaximalBlocks l blocks) free_is areas in
      subst (λ (x : KnownMachine × KnownMachine × KnownCpuLists). AllMoved t x.0 c (ReturnsBack f) (return_steps c.number f) x.1 x.2 now_free sums owners)
      (λ j. (
        same j,
        record m { blocks = blocks; frame_states = new; ledger = sym uncharges j; counts = counts; run = run },
        sym hands.2 j,
      )) (all_returned t m c ok visit f hands.0 hands.1 unit heads new frees blocks areas_now counts counted run noted free now_free sums owners was gives are own)
