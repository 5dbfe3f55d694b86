-- The zone's reference on a kept unit is given up: the unit is freed, or references of CPUs are left. Serves `evict` and
-- `put_zone_reference`.
use Rattle.std.proofs.Common.{◌≡◌, ◌≢◌, ℕ, ◌-◌, ◌^◌, ◌<◌, ◌≤◌, Bool, true, Option, Some, None, List, [], ◌∷◌, length, get_or, refl, sym, ap, ◌∙◌, subst, inl, inr, arith}
use Rattle.std.specs.Prelude.{is_some, nat_le}
use Rattle.std.proofs.lemmas.Bool.{and_from, cases_eq, false≢true, lt-ltb, le-leb}
use Rattle.std.proofs.lemmas.List.{get_or_default}
use Rattle.std.proofs.lemmas.Option.{none-some}
use Rattle.zone_blocks.specs.declared.block.Block.{Block}
use Rattle.zone_blocks.specs.{AreMaximalBlocks, GivesFrames}
use Rattle.group_charge.specs.{Ledger, with_uncharge, KnownNotes}
use Rattle.group_charge.proofs.CallerLemmas.{uncharge_events, uncharge_peaks}
use Rattle.lru_lists.specs.declared.record.Link.{Link}
use Rattle.lru_lists.specs.declared.record.Home.{Home}
use Rattle.lru_lists.specs.declared.lru.Lru.{Lru}
use Rattle.lru_lists.specs.Lists.{AllLinked}
use Rattle.step_rules.specs.declared.phase.ChargedUnit.{ChargedUnit}
use Rattle.step_rules.specs.declared.phase.Stage.{Stage}
use Rattle.step_rules.specs.declared.phase.Stage.TheVariants.{FreshAt, FreshPassing, Collected, Bare, Live, BackAt, BackPassing, AwaitsReturn}
use Rattle.step_rules.specs.declared.phase.Phase.{Phase}
use Rattle.step_rules.specs.declared.phase.Phase.TheVariants as phase
use Rattle.step_rules.specs.declared.step.Action.{Action}
use Rattle.step_rules.specs.declared.step.Action.TheVariants.{Freeze, Put, Return}
use Rattle.step_rules.specs.declared.step.Answer.{Answer}
use Rattle.step_rules.specs.declared.step.Answer.TheVariants as answer
use Rattle.step_rules.specs.{at_stage, is_live_phase, is_returnable, unit_of, Zone, is_frame, one_if, with_at, is_legal, Run, after, state_of}
use Rattle.step_rules.specs.{IsLocalStep, zone_makes}
use Rattle.step_rules.specs.State.{State}
use Rattle.step_rules.proofs.Basics.{at_same, at_other}
use Rattle.step_rules.proofs.Living.{live_are_referenced}
use Rattle.step_rules.proofs.Referring.{live_from_references}
use Rattle.step_rules.proofs.Runs.{sound_run}
use Rattle.boot_words.specs.{hide, hide_phase, KnownPasts, IsHeld, MakesStep, MayMake, cpu_past, local_by_pasts, zone_of_boot, KnownTable}
use Rattle.step_watch.specs.Watched.{Watches}
use Rattle.mem_machine.specs.declared.counts.Counts.{Counts}
use Rattle.mem_machine.specs.declared.frame_state.FrameState.{FrameState}
use Rattle.mem_machine.specs.declared.frame_state.FrameState.TheVariants.{Free, Head}
use Rattle.mem_machine.specs.{frame_state_at, free_of, phase_hidden, FreesFrames, LeavesList, Releases, release_steps, with_last_put}
use Rattle.group_tree.specs.Groups.{room_of}
use Rattle.mem_machine.specs.{one_more_last_put, Makes, StaysVisited, lock_holder, local_of, KnownMachine, BalancesCounts, FitsFrameState}
use Rattle.mem_machine.specs.{IsConsistent, IsShownBy, group_lists, home_of, left_by, lists_of, pages_booked, KnownRun, MayTake, Records}
use Rattle.mem_machine.specs.declared.releasing.Released.{Released}
use Rattle.mem_machine.specs.declared.releasing.Released.TheVariants.{Left, Returned}
use Rattle.mem_machine.proofs.Balances.{balanced_last_put}
use Rattle.mem_machine.proofs.Behind.{behind}
use Rattle.mem_machine.proofs.Counted.{returned_ended}
use Rattle.mem_machine.proofs.Followed.{follows_same, follows_still}
use Rattle.mem_machine.proofs.Freeing.{free_block_given, homes_fit, pages_freed, phases_freed, units_freed}
use Rattle.mem_machine.proofs.Noted.{notes_both, notes_one}
use Rattle.mem_machine.proofs.Reaching.{zone_step}
use Rattle.mem_machine.proofs.Made.{held_here, makes, zone_acts, zone_seen}
use Rattle.mem_machine.proofs.Sight.{left_then, shown_seen}
use Rattle.mem_machine.proofs.ZoneSteps.{zone_visited}

-- a home that is there counts one reference
kept_once : (home : Option Home) (n : ℕ) → n ≡ one_if (is_some home) → home ≢ None → n ≡ 1
kept_once None n is some = absurd (some refl)
kept_once (Some h) n is some = is

-- ---- a unit with references, as it is seen without the CPUs' own frames

unit_or : ChargedUnit → Option ChargedUnit → ChargedUnit
unit_or other None = other
unit_or other (Some u) = u

-- a head that has references, or is a CPU's back frame
pub is_used : (x : Phase) (u : ChargedUnit) → hide_phase x ≡ phase.Head u Live → unit_of x ≡ Some u
is_used phase.InZone u is = absurd (false≢true (ap is_live_phase is))
is_used (phase.Lent q way) u is = absurd (false≢true (ap is_live_phase is))
is_used (phase.Tail g) u is = absurd (false≢true (ap is_live_phase is))
is_used (phase.Head v (FreshAt q)) u is = absurd (false≢true (ap is_live_phase is))
is_used (phase.Head v (FreshPassing q)) u is = absurd (false≢true (ap is_live_phase is))
is_used (phase.Head v Collected) u is = absurd (false≢true (ap is_live_phase is))
is_used (phase.Head v Bare) u is = absurd (false≢true (ap is_live_phase is))
is_used (phase.Head v Live) u is = ap unit_of is
is_used (phase.Head v (BackAt q)) u is = ap unit_of is
is_used (phase.Head v (BackPassing q)) u is = absurd (false≢true (ap is_live_phase is))
is_used (phase.Head v AwaitsReturn) u is = absurd (false≢true (ap is_live_phase is))

staged : (x : Phase) (u : ChargedUnit) (stage : Stage) → unit_of x ≡ Some u → at_stage stage x ≡ phase.Head u stage
unfolding unit_or
staged phase.InZone u stage is = absurd (none-some u is)
staged (phase.Lent q way) u stage is = absurd (none-some u is)
staged (phase.Tail g) u stage is = absurd (none-some u is)
staged (phase.Head v old) u stage is = ap (λ (w : Option ChargedUnit). phase.Head (unit_or v w) stage) is

-- ---- one reference of the zone less

module _ (t : KnownTable) (m : KnownMachine) (ok : IsConsistent t m) (held : IsHeld t m.run.past) (f : ℕ) (inside : f < t.frames) (kept : home_of m.links f ≢ None) where
  shown : IsShownBy t m (hide (local_of t m))
  shown = shown_seen t m ok held

  pub kept_held : (local_of t m).references 0 f ≡ 1
  kept_held = kept_once (home_of m.links f) ((local_of t m).references 0 f) (shown.references f) kept

  frame_is : is_frame (local_of t m).zone f ≡ true
  frame_is = ap (λ (z : Zone). is_frame z f) (zone_seen t m.run.past) ∙ lt-ltb f t.frames inside

  one_held : nat_le 1 ((local_of t m).references 0 f) ≡ true
  one_held = le-leb 1 ((local_of t m).references 0 f) (let one = kept_held in omega (arith, one))

  -- the zone may put its reference, and freeze the frame
  pub may_put : is_legal (local_of t m) 0 (Put f) ≡ true
  may_put = and_from _ _ (and_from _ _ (zone_acts t m.run.past held) frame_is) one_held

  pub may_freeze : is_legal (local_of t m) 0 (Freeze f 1) ≡ true
  may_freeze = and_from _ _ (and_from _ _ (and_from _ _ (zone_acts t m.run.past held) frame_is) refl) one_held

  module _ (unit : ChargedUnit) (heads : frame_state_at m.frame_states f ≡ Head unit) where
    -- the state in which the head is in the zone's hand, and nobody has a reference
    abbrev pub ended : State
    ended = after (local_of t m) 0 (Put f) answer.Last

    head_ended : ended.phases f ≡ phase.Head unit AwaitsReturn
    head_ended = at_same (local_of t m).phases f (at_stage AwaitsReturn ((local_of t m).phases f))
        ∙ staged ((local_of t m).phases f) unit AwaitsReturn (is_used ((local_of t m).phases f) unit (shown.phases f ∙ ap phase_hidden heads))

    pub may_return : is_legal ended 0 (Return f) ≡ true
    may_return = and_from _ _ (and_from _ _ (zone_acts t m.run.past held) frame_is) (ap (is_returnable ended.killed) head_ended)

  module _ (links : List Link) (lists : List Lru) (leaves : LeavesList f (lists_of m) (group_lists links lists)) where
    homeless : home_of links f ≡ None
    homeless = ap (λ (k : Link). k.home) leaves.forgotten

    references_then : (g : ℕ) → with_at ((local_of t m).references 0) f ((local_of t m).references 0 f - 1) g ≡ one_if (is_some (home_of links g))
    references_then g = elim (cases_eq g f) [
      | inl e ↦
          let one = kept_held in
          ap (with_at ((local_of t m).references 0) f ((local_of t m).references 0 f - 1)) e ∙ at_same ((local_of t m).references 0) f ((local_of t m).references 0 f - 1)
          ∙ omega (arith, one) ∙ sym (ap (λ (h : Option Home). one_if (is_some h)) (ap (home_of links) e ∙ homeless))
      | inr ne ↦ at_other ((local_of t m).references 0) f ((local_of t m).references 0 f - 1) g ne ∙ shown.references g
          ∙ sym (ap (λ (h : Option Home). one_if (is_some h)) (leaves.homes g ne))
    ]

    -- ---- references of CPUs are left

    module _ (left : ℕ) (stand : AllLinked links lists) (linked : length links ≡ t.frames) (listed : length lists ≡ length m.lists) (run : KnownRun)
        (noted : Records t m.run (zone_makes (Put f) (answer.Left left) ∷ []) run) where
      abbrev then : KnownMachine
      then = record m { links = links; lists = lists; run = run }

      pub left_consistent : IsConsistent t (record m { links = links; lists = lists; run = run })
      left_consistent = record {
        choice = ok.choice;
        sizes = record { frame_states = ok.sizes.frame_states; links = linked; lists = listed ∙ ok.sizes.lists; killed = ok.sizes.killed };
        areas = ok.areas;
        frame_states = λ g within. elim (cases_eq g f) [
          | inl e ↦ subst (λ (h : Option Home). FitsFrameState (room_of m.ledger.groups) h (frame_state_at m.frame_states g)) (sym (ap (home_of links) e ∙ homeless)) tt
          | inr ne ↦ subst (λ (h : Option Home). FitsFrameState (room_of m.ledger.groups) h (frame_state_at m.frame_states g)) (sym (leaves.homes g ne)) (ok.frame_states g within)
        ];
        units = ok.units;
        lists = stand;
        balances = ok.balances;
        shown = subst (IsShownBy t then) (sym (left_then t m (zone_makes (Put f) (answer.Left left) ∷ []) run held noted)) (record {
          groups = shown.groups;
          killed = shown.killed;
          phases = shown.phases;
          references = references_then;
          settled = shown.settled;
          absorbed = shown.absorbed;
          bounded = shown.bounded;
          charged = shown.charged;
        });
      }

    -- ---- the unit is freed

    module _ (unit : ChargedUnit) (heads : frame_state_at m.frame_states f ≡ Head unit) where
      module _ (frame_states : List FrameState) (frees : FreesFrames f (2 ^ unit.order) m.frame_states frame_states) (blocks : List Block)
          (areas : AreMaximalBlocks (free_of frame_states) blocks) (stand : AllLinked links lists) (linked : length links ≡ t.frames) (listed : length lists ≡ length m.lists)
          (counts : Counts) (balances : BalancesCounts counts) (notes : KnownNotes) (run : KnownRun) where
        abbrev freed : KnownMachine
        freed = record m {
          blocks = blocks;
          frame_states = frame_states;
          ledger = with_uncharge m.ledger unit.group (2 ^ unit.order);
          links = links;
          lists = lists;
          counts = counts;
          notes = notes;
          run = run;
        }

        freed_shown : IsShownBy t freed (hide (after (ended unit heads) 0 (Return f) answer.Done))
        freed_shown = record {
          groups = shown.groups;
          killed = shown.killed;
          phases = phases_freed t m ok f unit heads frame_states frees (ended unit heads).phases
              (λ x ne. ap hide_phase (at_other (local_of t m).phases f (at_stage AwaitsReturn ((local_of t m).phases f)) x ne) ∙ shown.phases x)
              (ap unit_of (head_ended unit heads));
          references = references_then;
          settled = shown.settled;
          absorbed = shown.absorbed;
          bounded = shown.bounded;
          charged = pages_freed t m ok f unit heads frame_states frees (pages_booked t.cpus (hide (local_of t m)).parts) shown.charged;
        }

        -- the machine is consistent, if its past left that state
        pub freed_consistent : left_by t run.past ≡ hide (after (ended unit heads) 0 (Return f) answer.Done) → IsConsistent t (record m {
          blocks = blocks;
          frame_states = frame_states;
          ledger = with_uncharge m.ledger unit.group (2 ^ unit.order);
          links = links;
          lists = lists;
          counts = counts;
          notes = notes;
          run = run;
        })
        freed_consistent left = record {
          choice = ok.choice;
          sizes = record { frame_states = frees.frames ∙ ok.sizes.frame_states; links = linked; lists = listed ∙ ok.sizes.lists; killed = ok.sizes.killed };
          areas = areas;
          frame_states = homes_fit t m ok f unit heads frame_states frees links leaves.homes homeless;
          units = units_freed m.frame_states frame_states f unit heads ok.units frees;
          lists = stand;
          balances = balances;
          shown = subst (IsShownBy t freed) (sym left) freed_shown;
        }

-- the record that was read is the frame's
pub read_head : (t : KnownTable) (m : KnownMachine) → IsConsistent t m → (f i : ℕ) → f < t.frames → i ≡ f → (x : FrameState) (unit : ChargedUnit)
    → x ≡ get_or m.frame_states i x → x ≡ Head unit → frame_state_at m.frame_states i ≡ Head unit
read_head t m ok f i inside is x unit read head =
    let sized = ok.sizes.frame_states in
    let bound : i < length m.frame_states = omega (arith, inside, is, sized) in
    sym (get_or_default m.frame_states i x Free bound) ∙ sym read ∙ head

-- a step of the zone's seat on frame f, which the watch names i
pub notes_of_zone : (t : KnownTable) (a b : KnownRun) (f i : ℕ) → i ≡ f → (action : ℕ → Action) (answered : Answer) → MakesStep t a.past 0 (action f) answered b.past
    → Watches a.watch (zone_makes (action i) answered ∷ []) b.watch → Records t a (zone_makes (action f) answered ∷ []) b
notes_of_zone t a b f i is action answered made watched =
    notes_one t a (zone_makes (action f) answered) b made (subst (λ (x : ℕ). Watches a.watch (zone_makes (action x) answered ∷ []) b.watch) is watched)

-- and then the unit's return
pub notes_back : (t : KnownTable) (a b : KnownRun) (f i : ℕ) → i ≡ f → (action : ℕ → Action) (answered : Answer) → Records t a (zone_makes (action f) answered ∷ []) b
    → (d : KnownRun) → Records t b (zone_makes (Return i) answer.Done ∷ []) d → Records t a (zone_makes (action f) answered ∷ zone_makes (Return f) answer.Done ∷ []) d
notes_back t a b f i is action answered first d second =
    notes_both t a (zone_makes (action f) answered ∷ []) b (zone_makes (Return f) answer.Done ∷ []) d first
    (subst (λ (x : ℕ). Records t b (zone_makes (Return x) answer.Done ∷ []) d) is second)

-- the return may be made after that step
pub return_may : (t : KnownTable) (past later : KnownPasts) (f i : ℕ) → i ≡ f → (action : Action) (answered : Answer) → MakesStep t past 0 action answered later
    → is_legal (after (local_by_pasts t past) 0 action answered) 0 (Return f) ≡ true → MayTake t later (zone_makes (Return i) answer.Done)
return_may t past later f i is action answered made legal =
    subst (λ (x : ℕ × State). IsLocalStep x.1 (cpu_past later).number 0 (Return x.0) answer.Done) (λ j. (sym is j, sym made.local_is j))
    (zone_step (after (local_by_pasts t past) 0 action answered) (cpu_past later).number (Return f) answer.Done refl legal tt)

-- the unit is kept, by the machine's fields too
pub kept_here : (m now : KnownMachine) → m ≡ now → (f : ℕ) → home_of now.links f ≢ None → home_of m.links f ≢ None
kept_here m now same f kept = subst (λ (x : KnownMachine). home_of x.links f ≢ None) (sym same) kept

-- ---- the zone puts its reference

-- how many references a put leaves
pub left_few : (t : KnownTable) (past later : KnownPasts) (f n : ℕ) → IsHeld t past → MakesStep t past 0 (Put f) (answer.Left n) later → (1 ≤ n) × (n < 255)
left_few t past later f n held made =
    let at = behind t past later 0 (Put f) (answer.Left n) held made in
    let zone = zone_of_boot t in
    let counted = at.allowed.counted.0 in
    let some = at.allowed.counted.1 in
    let live = live_from_references (state_of zone at.run) f (sound_run zone at.run at.legal) (omega (arith, counted)) in
    let most = ((live_are_referenced zone at.run at.legal f).some live).1 in
    (some, omega (arith, counted, most))

-- the zone's reference may be put
pub put_may : (t : KnownTable) (m now : KnownMachine) → m ≡ now → IsConsistent t m → (f : ℕ) → f < t.frames → home_of now.links f ≢ None → IsHeld t now.run.past
    → MayMake t m.run.past 0 (Put f)
put_may t m now same ok f inside kept held = may_put t m ok (held_here t m now same held) f inside (kept_here m now same f kept)

-- after the last put the unit may be returned
pub put_returns : (t : KnownTable) (m now : KnownMachine) → m ≡ now → IsConsistent t m → (f i : ℕ) → f < t.frames → i ≡ f → home_of now.links f ≢ None → IsHeld t now.run.past
    → (unit : ChargedUnit) → frame_state_at m.frame_states i ≡ Head unit → is_legal (after (local_by_pasts t m.run.past) 0 (Put f) answer.Last) 0 (Return f) ≡ true
put_returns t m now same ok f i inside is kept held unit head =
    may_return t m ok (held_here t m now same held) f inside (kept_here m now same f kept) unit (subst (λ (x : ℕ). frame_state_at m.frame_states x ≡ Head unit) is head)

pub record AllReleased (t : KnownTable) (now n : KnownMachine) (f : ℕ) (result : Released) (free : List Bool) : Type 0 where
  pub consistent : IsConsistent t n
  pub free_is : free ≡ free_of n.frame_states
  pub releases : Releases f result now n
  pub visit : StaysVisited t now n
  pub steps : Makes t now (release_steps f result) n

module _ (t : KnownTable) (m : KnownMachine) (ok : IsConsistent t m) (held : IsHeld t m.run.past) (f : ℕ) (inside : f < t.frames) (kept : home_of m.links f ≢ None)
    (links : List Link) (lists : List Lru) (leaves : LeavesList f (lists_of m) (group_lists links lists)) (stand : AllLinked links lists)
    (linked : length links ≡ t.frames) (listed : length lists ≡ length m.lists) (run : KnownRun) where
  -- references of CPUs are left
  left_here : (left : ℕ) → 1 ≤ left → Records t m.run (release_steps f (Left left)) run → (free : List Bool) → free ≡ free_of m.frame_states
      → AllReleased t m (record m { links = links; lists = lists; run = run }) f (Left left) free
  left_here left some noted free was =
      let n : KnownMachine = record m { links = links; lists = lists; run = run } in
      let steps : Run = release_steps f (Left left) in
      record {
        consistent = left_consistent t m ok held f inside kept links lists leaves left stand linked listed run noted;
        free_is = was;
        releases = record { list = leaves; some = some; machine = refl };
        visit = zone_visited t m n steps noted refl refl (λ p some. at_other (local_of t m).references 0 _ p some);
        steps = makes t m n steps held noted
            (zone_step (local_of t m) (lock_holder m) (Put f) (answer.Left left) refl (may_put t m ok held f inside kept) tt, refl) (follows_same _ _ _ refl) refl;
      }

  -- the unit is freed
  returned_here : (unit : ChargedUnit) (heads : frame_state_at m.frame_states f ≡ Head unit) (before free : List Bool) → before ≡ free_of m.frame_states
      → GivesFrames before (record { at = f; order = unit.order }) free → (frame_states : List FrameState) → FreesFrames f (2 ^ unit.order) m.frame_states frame_states
      → (blocks : List Block) → AreMaximalBlocks free blocks → Records t m.run (release_steps f Returned) run
      → AllReleased t m (record m {
        blocks = blocks;
        frame_states = frame_states;
        ledger = with_uncharge m.ledger unit.group (2 ^ unit.order);
        links = links;
        lists = lists;
        counts = with_last_put m.counts;
        run = run;
      }) f Returned free
  returned_here unit heads before free was gives frame_states frees blocks areas_free noted =
      let steps : Run = release_steps f Returned in
      let free_is : free ≡ free_of frame_states =
      free_block_given before free m.frame_states frame_states f unit.order (ok.units.heads f unit heads).block.inside was gives frees in
      let areas : AreMaximalBlocks (free_of frame_states) blocks = subst (λ (l : List Bool). AreMaximalBlocks l blocks) free_is areas_free in
      let n : KnownMachine = record m {
        blocks = blocks;
        frame_states = frame_states;
        ledger = with_uncharge m.ledger unit.group (2 ^ unit.order);
        links = links;
        lists = lists;
        counts = with_last_put m.counts;
        run = run;
      } in
      record {
        consistent = freed_consistent t m ok held f inside kept links lists leaves unit heads frame_states frees blocks areas stand linked listed (with_last_put m.counts)
            (balanced_last_put m.counts ok.balances) m.notes run (left_then t m steps run held noted);
        free_is = free_is;
        releases = record { unit = unit; heads = heads; list = leaves; frees = frees; areas = areas; machine = refl };
        visit = zone_visited t m n steps noted refl refl (λ p some. at_other (local_of t m).references 0 _ p some);
        steps = makes t m n steps held noted (
          zone_step (local_of t m) (lock_holder m) (Put f) answer.Last refl (may_put t m ok held f inside kept) tt,
          (zone_step _ (lock_holder m) (Return f) answer.Done refl (may_return t m ok held f inside kept unit heads) tt, refl),
        )
            (follows_still _ m.ledger steps _ refl (uncharge_peaks m.ledger unit.group (2 ^ unit.order)) (uncharge_events m.ledger unit.group (2 ^ unit.order)))
            (sym (returned_ended (local_of t m) f (one_more_last_put m.counts)));
      }

-- ---- the same of the machine as it was seen before

pub left_all : (t : KnownTable) (m now : KnownMachine) → m ≡ now → IsConsistent t m → (f i : ℕ) → f < t.frames → i ≡ f → home_of now.links f ≢ None → IsHeld t now.run.past
    → (links : List Link) (lists : List Lru) → LeavesList i (lists_of m) (group_lists links lists) → AllLinked links lists → length links ≡ length m.links → length lists ≡ length m.lists
    → (left : ℕ) → 1 ≤ left → (run : KnownRun) → Records t m.run (release_steps f (Left left)) run → (free : List Bool) → free ≡ free_of m.frame_states
    → AllReleased t now (record m { links = links; lists = lists; run = run }) f (Left left) free
left_all t m now same ok f i inside is kept held links lists leaves stand linked listed left some run noted free was =
    subst (λ (x : KnownMachine). AllReleased t x (record m { links = links; lists = lists; run = run }) f (Left left) free) same
    (left_here t m ok (held_here t m now same held) f inside (kept_here m now same f kept) links lists
    (subst (λ (x : ℕ). LeavesList x (lists_of m) (group_lists links lists)) is leaves) stand (linked ∙ ok.sizes.links) listed run left some noted free was)

pub returned_all : (t : KnownTable) (m now : KnownMachine) → m ≡ now → IsConsistent t m → (f i : ℕ) → f < t.frames → i ≡ f → home_of now.links f ≢ None → IsHeld t now.run.past
    → (links : List Link) (lists : List Lru) → LeavesList i (lists_of m) (group_lists links lists) → AllLinked links lists → length links ≡ length m.links → length lists ≡ length m.lists
    → (unit : ChargedUnit) → frame_state_at m.frame_states i ≡ Head unit
    → (before free : List Bool) (blocks : List Block) (frame_states : List FrameState) (ledger : Ledger) (counts : Counts)
    → before ≡ free_of m.frame_states → FreesFrames i (2 ^ unit.order) m.frame_states frame_states → GivesFrames before (record { at = i; order = unit.order }) free
    → AreMaximalBlocks free blocks → ledger ≡ with_uncharge m.ledger unit.group (2 ^ unit.order) → counts ≡ with_last_put m.counts
    → (run : KnownRun) → Records t m.run (release_steps f Returned) run
    → AllReleased t now (record m {
      blocks = blocks;
      frame_states = frame_states;
      ledger = ledger;
      links = links;
      lists = lists;
      counts = counts;
      run = run;
    }) f Returned free
returned_all t m now same ok f i inside is kept held links lists leaves stand linked listed unit head before free blocks frame_states ledger counts was frees gives areas
    uncharged counted run noted =
    let all = returned_here t m ok (held_here t m now same held) f inside (kept_here m now same f kept) links lists
    (subst (λ (x : ℕ). LeavesList x (lists_of m) (group_lists links lists)) is leaves) stand (linked ∙ ok.sizes.links) listed run unit
    (subst (λ (x : ℕ). frame_state_at m.frame_states x ≡ Head unit) is head) before free was
    (subst (λ (x : ℕ). GivesFrames before (record { at = x; order = unit.order }) free) is gives) frame_states
    (subst (λ (x : ℕ). FreesFrames x (2 ^ unit.order) m.frame_states frame_states) is frees) blocks areas noted in
    subst (λ (x : KnownMachine × KnownMachine). AllReleased t x.0 x.1 f Returned free) (λ j. (
      same j,
      record m { blocks = blocks; frame_states = frame_states; ledger = sym uncharged j; links = links; lists = lists; counts = sym counted j; run = run },
    )) all
