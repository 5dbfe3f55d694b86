-- The front of the visited CPU's list is returned to the free areas. Serves `unlist_one`.
use Rattle.std.proofs.Common.{◌≡◌, ℕ, ◌<◌, ◌==◌, Bool, Option, List, ◌∷◌, length, refl, sym, ap, ◌∙◌, subst, arith, eq-eqb}
use Rattle.std.specs.Prelude.{slice_set}
use Rattle.zone_blocks.specs.declared.block.Block.{Block}
use Rattle.zone_blocks.specs.{AreMaximalBlocks, GivesFrames, IsInUse}
use Rattle.cpu_part.specs.{KnownCpuLists, PassesFront}
use Rattle.step_rules.specs.declared.phase.Way.TheVariants.{OnList}
use Rattle.step_rules.specs.declared.phase.Phase.TheVariants as phase
use Rattle.step_rules.specs.declared.step.Action.TheVariants.{PassBack, Collect}
use Rattle.step_rules.specs.declared.step.Answer.TheVariants.{Done}
use Rattle.step_rules.specs.{told_pages, Part, Zone, front_of, one_if, times, with_at, IsLocalRun}
use Rattle.step_rules.proofs.Lists.{times_same, without_front, without_none}
use Rattle.step_rules.proofs.SoundSteps.{below_frames}
use Rattle.boot_words.specs.{hide_phase, KnownPasts, MakesStep, MayMake, KnownTable}
use Rattle.mem_machine.specs.declared.frame_state.FrameState.TheVariants.{Free, Lent}
use Rattle.mem_machine.specs.{AreBooked, AreOwners, frame_state_at, frame_state_group, free_of, is_free_state, UnlistsOne, Visits, local_of}
use Rattle.mem_machine.specs.{KnownMachine, IsConsistent, left_by, KnownRun, MayTakeAll, Records, unlist_steps}
use Rattle.mem_machine.proofs.Counted.{collects_none}
use Rattle.mem_machine.proofs.HandOvers.{IsVisited, part_without, unlist_run, unlisted_state}
use Rattle.mem_machine.proofs.Lends.{all_moved}
use Rattle.mem_machine.proofs.Made.{visits_here, zone_seen}
use Rattle.mem_machine.proofs.Moved.{AllMoved, front_here, is_visited, lent_in_use, lent_record, phases_set}
use Rattle.mem_machine.proofs.Noted.{may_all, run_steps}
use Rattle.mem_machine.proofs.OwnFrames.{HasFrame}
use Rattle.mem_machine.proofs.Records.{free_given}
use Rattle.mem_machine.proofs.Sight.{shown_seen}

module _ (t : KnownTable) (m : KnownMachine) (c : KnownCpuLists) (ok : IsConsistent t m) (visit : Visits t m c) (f : ℕ) (rest : List ℕ) (front : c.list ≡ f ∷ rest) where
  mine : HasFrame (local_of t m) c.number (phase.Lent c.number OnList) f
  mine = front_here t m c visit f rest front

  pub v : IsVisited (local_of t m) c.number f
  v = is_visited t m c visit f mine.framed

  abbrev part : Part
  part = part_without (local_of t m) c.number f v (phase.Lent c.number OnList)

  pub front_inside : f < t.frames
  front_inside =
      let low = below_frames (local_of t m).zone f mine.framed in
      let same = ap (λ (z : Zone). z.frames) (zone_seen t m.run.past) in
      omega (arith, low, same)

  pub is_lent : frame_state_at m.frame_states f ≡ Lent c.number
  is_lent = lent_record (frame_state_at m.frame_states f) c.number (sym ((shown_seen t m ok visit.held).phases f) ∙ ap hide_phase mine.phase_is)

  none_in_rest : times f rest ≡ 0
  none_in_rest =
      let once : times f ((local_of t m).parts c.number).list ≡ one_if (c.number == c.number) = mine.listed in
      let one : one_if (c.number == c.number) ≡ 1 = ap one_if (eq-eqb c.number c.number refl) in
      let a = ap (times f) (visit.own.list ∙ front) in let b = times_same f in omega (arith, once, one, a, b)

  pub unlist_leads : IsLocalRun c.number (local_of t m) (unlist_steps c.number f) (unlisted_state (local_of t m) c.number f v)
  unlist_leads = unlist_run (local_of t m) c.number f v mine.phase_is (ap front_of (visit.own.list ∙ front))

  within : f < length m.frame_states
  within = let low = front_inside in let sized = ok.sizes.frame_states in omega (arith, low, sized)

  pub unlisted_moved : (blocks : List Block) → AreMaximalBlocks (free_of (slice_set m.frame_states f Free)) blocks → (run : KnownRun) → Records t m.run (unlist_steps c.number f) run
      → (sums : List ℕ) (owners : List (Option ℕ)) → AreBooked (length m.killed) t.cpus (left_by t m.run.past).parts sums → AreOwners t.cpus (left_by t m.run.past).parts owners
      → AllMoved t m c (UnlistsOne f) (unlist_steps c.number f) (record m { blocks = blocks; frame_states = slice_set m.frame_states f Free; run = run })
      (record c { list = rest }) (free_of (slice_set m.frame_states f Free)) sums owners
  unlisted_moved blocks areas run noted sums owners are own =
      let s = local_of t m in
      all_moved t m c ok visit f front_inside Free (ap frame_state_group is_lent) refl (with_at s.phases f phase.InZone)
      (phases_set t m s (shown_seen t m ok visit.held) f phase.InZone Free within refl) part
      told refl refl rest
      (without_front f (s.parts c.number).list rest (visit.own.list ∙ front) none_in_rest)
      (without_none f (s.parts c.number).fresh mine.fresh ∙ visit.own.fresh)
      (without_none f (s.parts c.number).back mine.back ∙ visit.own.back)
      (unlist_steps c.number f) unlist_leads refl (collects_none s f (phase.Lent c.number OnList) mine.phase_is refl m.counts) blocks areas run noted (UnlistsOne f) sums owners are own
      (record { rest = rest; front = front; areas = areas; machine = refl; cpu = refl })
    where
      told : told_pages part ≡ told_pages ((local_of t m).parts c.number)
      told = omega arith

-- ---- of the machine as it was seen before

module _ (t : KnownTable) (m now : KnownMachine) (same : m ≡ now) (c : KnownCpuLists) (visit : Visits t now c) (ok : IsConsistent t m) where
  here : Visits t m c
  here = visits_here t m now same c visit

  unlist_may : (f : ℕ) (rest : List ℕ) → c.list ≡ f ∷ rest → MayTakeAll t m.run.past (unlist_steps c.number f)
  unlist_may f rest front =
      may_all t m.run.past c.number (local_of t m) (unlist_steps c.number f) here.who refl
      (run_steps c.number (local_of t m) (unlist_steps c.number f) _ (unlist_leads t m c ok here f rest front))

  pub may_pass_front : (f : ℕ) (rest : List ℕ) → c.list ≡ f ∷ rest → MayMake t m.run.past c.number (PassBack f)
  may_pass_front f rest front = (unlist_may f rest front).0.legal

  module _ (f : ℕ) (h : KnownCpuLists) (hands : PassesFront f c h) where
    pub may_collect_front : (p : ℕ) → p ≡ c.number → (later : KnownPasts) → MakesStep t m.run.past c.number (PassBack f) Done later → MayMake t later 0 (Collect f p)
    may_collect_front p number later made = subst (λ (x : ℕ). MayMake t later 0 (Collect f x)) (sym number) ((unlist_may f hands.0 hands.1).1 later made).0.legal

    -- its frame may be freed
    pub may_give : (before : List Bool) (i k : ℕ) → before ≡ free_of m.frame_states → i ≡ f → k ≡ 0 → IsInUse before (record { at = i; order = k })
    may_give before i k was index zero_is =
        lent_in_use m.frame_states before f i k (within t m c ok here f hands.0 hands.1) was (ap is_free_state (is_lent t m c ok here f hands.0 hands.1)) index zero_is

    pub unlisted_all : (before free : List Bool) (k : ℕ) (blocks : List Block) (i : ℕ) (sums : List ℕ) (owners : List (Option ℕ)) → before ≡ free_of m.frame_states
        → AreBooked (length m.killed) t.cpus (left_by t m.run.past).parts sums → AreOwners t.cpus (left_by t m.run.past).parts owners → k ≡ 0
        → GivesFrames before (record { at = i; order = k }) free → AreMaximalBlocks free blocks → i ≡ f → (run : KnownRun) → Records t m.run (unlist_steps c.number f) run
        → AllMoved t now c (UnlistsOne f) (unlist_steps c.number f) (record m { blocks = blocks; frame_states = slice_set m.frame_states i Free; run = run }) h free sums owners
    unlisted_all before free k blocks i sums owners was are own zero_is gives areas index run noted =
        let gives_f : GivesFrames before (record { at = f; order = 0 }) free =
        subst (λ (x : ℕ × ℕ). GivesFrames before (record { at = x.0; order = x.1 }) free) (λ j. (index j, zero_is j)) gives in
        let low = front_inside t m c ok here f hands.0 hands.1 in
        let sized = ok.sizes.frame_states in
        let below : f < length m.frame_states = omega (arith, low, sized) in
        let free_is : free ≡ free_of (slice_set m.frame_states f Free) = free_given before free m.frame_states f Free below was gives_f refl in
        let areas_f : AreMaximalBlocks (free_of (slice_set m.frame_states f Free)) blocks = subst (λ (l : List Bool). AreMaximalBlocks l blocks) free_is areas in
        let all = unlisted_moved t m c ok here f hands.0 hands.1 blocks areas_f run noted sums owners are own in
        subst (λ (x : KnownMachine × KnownMachine × KnownCpuLists × List Bool). AllMoved t x.0 c (UnlistsOne f) (unlist_steps c.number f) x.1 x.2 x.3 sums owners)
        (λ j. (same j, record m { blocks = blocks; frame_states = slice_set m.frame_states (sym index j) Free; run = run }, sym hands.2 j, sym free_is j)) all
