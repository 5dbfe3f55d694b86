-- A kept unit is tried: it is missed, or it is frozen and freed. Serves `evict`.
use Rattle.std.proofs.Common.{◌≡◌, ◌≢◌, ℕ, ◌^◌, ◌<◌, Bool, true, Option, Some, None, List, length, refl, sym, ap, ◌∙◌, subst}
use Rattle.std.specs.Prelude.{IfSome}
use Rattle.group_tree.specs.Groups.{room_of}
use Rattle.zone_blocks.specs.declared.block.Block.{Block}
use Rattle.zone_blocks.specs.{AreMaximalBlocks, GivesFrames}
use Rattle.group_charge.specs.{Ledger, UsageRises, with_uncharge, KnownNotes, unit_noted}
use Rattle.group_charge.proofs.CallerLemmas.{uncharge_events, uncharge_peaks}
use Rattle.lru_lists.specs.declared.record.Link.{Link}
use Rattle.lru_lists.specs.declared.record.Home.{Home}
use Rattle.lru_lists.specs.declared.lru.Lru.{Lru}
use Rattle.lru_lists.specs.Lists.{AllLinked}
use Rattle.step_rules.specs.declared.phase.ChargedUnit.{ChargedUnit}
use Rattle.step_rules.specs.declared.step.Action.TheVariants.{Freeze, Return}
use Rattle.step_rules.specs.declared.step.Answer.TheVariants as answer
use Rattle.step_rules.specs.{Run, after, is_legal}
use Rattle.step_rules.proofs.Basics.{at_other}
use Rattle.boot_words.specs.Pasts.{IsHeld, MayMake, cpu_past, local_by_pasts}
use Rattle.boot_words.specs.Tables.{KnownTable}
use Rattle.mem_machine.specs.declared.counts.Counts.{Counts}
use Rattle.mem_machine.specs.declared.frame_state.FrameState.{FrameState}
use Rattle.mem_machine.specs.declared.frame_state.FrameState.TheVariants.{Head}
use Rattle.mem_machine.specs.{frame_state_at, free_of, head_group_of, KnownMachine, IsConsistent, IsShownBy, group_lists, home_of, lists_of, Makes}
use Rattle.mem_machine.specs.{StaysVisited, local_of, KnownRun, Records, FreesFrames, with_freeze, with_miss, one_more_freeze, LeavesList, EvictsUnit}
use Rattle.mem_machine.specs.{MissesUnit, evict_steps}
use Rattle.mem_machine.proofs.Balances.{balanced_freeze}
use Rattle.mem_machine.proofs.Counted.{returned_ended}
use Rattle.mem_machine.proofs.Followed.{follows_same, follows_still}
use Rattle.mem_machine.proofs.Freeing.{free_block_given}
use Rattle.mem_machine.proofs.Reaching.{zone_step}
use Rattle.mem_machine.proofs.Releases.{freed_consistent, kept_here, may_freeze, may_return}
use Rattle.mem_machine.proofs.Made.{held_here, makes}
use Rattle.mem_machine.proofs.Sight.{left_seen, left_then}
use Rattle.mem_machine.proofs.ZoneSteps.{zone_visited}

-- the zone's reference may be frozen
pub freeze_may : (t : KnownTable) (m now : KnownMachine) → m ≡ now → IsConsistent t m → (f : ℕ) → f < t.frames → home_of now.links f ≢ None → IsHeld t now.run.past
    → MayMake t m.run.past 0 (Freeze f 1)
freeze_may t m now same ok f inside kept held = may_freeze t m ok (held_here t m now same held) f inside (kept_here m now same f kept)

-- ---- a miss

pub record AllMissed (t : KnownTable) (now n : KnownMachine) (f : ℕ) : Type 0 where
  pub consistent : IsConsistent t n
  pub misses : MissesUnit now n
  pub visit : StaysVisited t now n
  pub steps : Makes t now (evict_steps f None) n

module _ (t : KnownTable) (m : KnownMachine) (ok : IsConsistent t m) (held : IsHeld t m.run.past) (f : ℕ) (inside : f < t.frames) (kept : home_of m.links f ≢ None)
    (run : KnownRun) (noted : Records t m.run (evict_steps f None) run) where
  missed : AllMissed t m (record m { counts = with_miss m.counts; run = run }) f
  missed =
      let n : KnownMachine = record m { counts = with_miss m.counts; run = run } in
      let left = left_then t m (evict_steps f None) run held noted ∙ sym (left_seen t m.run.past held) in
      let shown = ok.shown in
      record {
        consistent = record {
          choice = ok.choice;
          sizes = record { frame_states = ok.sizes.frame_states; links = ok.sizes.links; lists = ok.sizes.lists; killed = ok.sizes.killed };
          areas = ok.areas;
          frame_states = ok.frame_states;
          units = ok.units;
          lists = ok.lists;
          balances = ok.balances;
          shown = subst (IsShownBy t n) (sym left) (record {
            groups = shown.groups;
            killed = shown.killed;
            phases = shown.phases;
            references = shown.references;
            settled = shown.settled;
            absorbed = shown.absorbed;
            bounded = shown.bounded;
            charged = shown.charged;
          });
        };
        misses = refl;
        visit = zone_visited t m n (evict_steps f None) noted refl refl (λ p some. refl);
        steps = makes t m n (evict_steps f None) held noted
            (zone_step (local_of t m) (cpu_past m.run.past).number (Freeze f 1) answer.Missed refl (may_freeze t m ok held f inside kept) tt, refl) (follows_same _ _ _ refl) refl;
      }

pub missed_all : (t : KnownTable) (m now : KnownMachine) → m ≡ now → IsConsistent t m → (f : ℕ) → f < t.frames → home_of now.links f ≢ None → IsHeld t now.run.past
    → (counts : Counts) → counts ≡ with_miss m.counts → (run : KnownRun) → Records t m.run (evict_steps f None) run
    → AllMissed t now (record m { counts = counts; run = run }) f
missed_all t m now same ok f inside kept_now held_now counts counted run noted =
    subst (λ (x : KnownMachine × Counts). AllMissed t x.0 (record m { counts = x.1; run = run }) f) (λ j. (same j, sym counted j))
    (missed t m ok (held_here t m now same held_now) f inside (kept_here m now same f kept_now) run noted)

-- ---- a freeze

some_same : (a b : ℕ) → Some a ≡ Some b → a ≡ b
some_same a b e = cc

-- the unit's group is that of its list
same_group : (t : KnownTable) (m : KnownMachine) → IsConsistent t m → (f : ℕ) → f < t.frames → (unit : ChargedUnit)
    → frame_state_at m.frame_states f ≡ Head unit → (h : Home) → home_of m.links f ≡ Some h → unit.group ≡ h.owner
same_group t m ok f inside unit heads h home =
    let kept = subst (λ (x : Option Home). IfSome x (λ y. (y.owner < room_of m.ledger.groups) × (head_group_of (frame_state_at m.frame_states f) ≡ Some y.owner))) home (ok.frame_states f inside) in
    some_same unit.group h.owner (sym (ap head_group_of heads) ∙ kept.1)

pub record AllEvicted (t : KnownTable) (now n : KnownMachine) (f pages : ℕ) (free : List Bool) : Type 0 where
  pub consistent : IsConsistent t n
  pub free_is : free ≡ free_of n.frame_states
  pub evicts : EvictsUnit f pages now n
  pub visit : StaysVisited t now n
  pub steps : Makes t now (evict_steps f (Some pages)) n

module _ (t : KnownTable) (m : KnownMachine) (ok : IsConsistent t m) (held : IsHeld t m.run.past) (f : ℕ) (inside : f < t.frames) (kept : home_of m.links f ≢ None)
    (links : List Link) (lists : List Lru) (leaves : LeavesList f (lists_of m) (group_lists links lists)) (stand : AllLinked links lists)
    (linked : length links ≡ t.frames) (listed : length lists ≡ length m.lists) (unit : ChargedUnit) (heads : frame_state_at m.frame_states f ≡ Head unit)
    (before free : List Bool) (was : before ≡ free_of m.frame_states) (gives : GivesFrames before (record { at = f; order = unit.order }) free)
    (frame_states : List FrameState) (frees : FreesFrames f (2 ^ unit.order) m.frame_states frame_states) (blocks : List Block) (areas_free : AreMaximalBlocks free blocks)
    (usage : UsageRises (with_uncharge m.ledger unit.group (2 ^ unit.order)) m.ledger unit.group (2 ^ unit.order)) (run : KnownRun)
    (noted : Records t m.run (evict_steps f (Some (2 ^ unit.order))) run) where
  abbrev evicted_machine : KnownMachine
  evicted_machine = record m {
    blocks = blocks;
    frame_states = frame_states;
    ledger = with_uncharge m.ledger unit.group (2 ^ unit.order);
    links = links;
    lists = lists;
    counts = with_freeze m.counts;
    notes = unit_noted m.notes unit.group f (2 ^ unit.order);
    run = run;
  }

  free_is : free ≡ free_of frame_states
  free_is = free_block_given before free m.frame_states frame_states f unit.order (ok.units.heads f unit heads).block.inside was gives frees

  areas : AreMaximalBlocks (free_of frame_states) blocks
  areas = subst (λ (l : List Bool). AreMaximalBlocks l blocks) free_is areas_free

  evicted : AllEvicted t m evicted_machine f (2 ^ unit.order) free
  evicted =
      let steps : Run = evict_steps f (Some (2 ^ unit.order)) in
      let s = local_of t m in
      record {
        consistent = freed_consistent t m ok held f inside kept links lists leaves unit heads frame_states frees blocks areas stand linked listed (with_freeze m.counts)
            (balanced_freeze m.counts ok.balances) (unit_noted m.notes unit.group f (2 ^ unit.order)) run (left_then t m steps run held noted);
        free_is = free_is;
        evicts = record {
          unit = unit;
          heads = heads;
          size = refl;
          list = leaves;
          own = same_group t m ok f inside unit heads (record { owner = leaves.group; list = leaves.list }) leaves.home;
          usage = usage;
          frees = frees;
          areas = areas;
          machine = refl;
        };
        visit = zone_visited t m evicted_machine steps noted refl refl (λ p some. at_other s.references 0 _ p some);
        steps = makes t m evicted_machine steps held noted (
          zone_step s (cpu_past m.run.past).number (Freeze f 1) answer.Done refl (may_freeze t m ok held f inside kept) tt,
          (
            zone_step _ (cpu_past m.run.past).number (Return f) answer.Done refl (may_return t m ok held f inside kept unit heads) tt,
            refl,
          ),
        )
            (follows_still _ m.ledger steps _ refl (uncharge_peaks m.ledger unit.group (2 ^ unit.order)) (uncharge_events m.ledger unit.group (2 ^ unit.order)))
            (sym (returned_ended s f (one_more_freeze m.counts)));
      }

pub evicted_all : (t : KnownTable) (m now : KnownMachine) → m ≡ now → IsConsistent t m → (f i : ℕ) → f < t.frames → i ≡ f → home_of now.links f ≢ None → IsHeld t now.run.past
    → (links : List Link) (lists : List Lru) → LeavesList i (lists_of m) (group_lists links lists) → AllLinked links lists → length links ≡ length m.links → length lists ≡ length m.lists
    → (unit : ChargedUnit) → frame_state_at m.frame_states i ≡ Head unit
    → (before free : List Bool) (blocks : List Block) (frame_states : List FrameState) (ledger : Ledger) (counts : Counts) (pages : ℕ)
    (notes : KnownNotes) → notes ≡ unit_noted m.notes unit.group i pages
    → before ≡ free_of m.frame_states → FreesFrames i (2 ^ unit.order) m.frame_states frame_states → GivesFrames before (record { at = i; order = unit.order }) free
    → AreMaximalBlocks free blocks → ledger ≡ with_uncharge m.ledger unit.group (2 ^ unit.order)
    → UsageRises ledger m.ledger unit.group (2 ^ unit.order) → counts ≡ with_freeze m.counts → pages ≡ 2 ^ unit.order
    → (run : KnownRun) → Records t m.run (evict_steps f (Some pages)) run
    → AllEvicted t now (record m {
      blocks = blocks;
      frame_states = frame_states;
      ledger = ledger;
      links = links;
      lists = lists;
      counts = counts;
      notes = notes;
      run = run;
    }) f pages free
evicted_all t m now same ok f i inside is kept_now held_now links lists leaves stand linked listed unit head before free blocks frame_states ledger counts pages notes noted was frees
    gives areas uncharged usage counted size run made =
    let all = evicted t m ok (held_here t m now same held_now) f inside (kept_here m now same f kept_now) links lists
    (subst (λ (x : ℕ). LeavesList x (lists_of m) (group_lists links lists)) is leaves) stand (linked ∙ ok.sizes.links) listed unit
    (subst (λ (x : ℕ). frame_state_at m.frame_states x ≡ Head unit) is head) before free was
    (subst (λ (x : ℕ). GivesFrames before (record { at = x; order = unit.order }) free) is gives) frame_states
    (subst (λ (x : ℕ). FreesFrames x (2 ^ unit.order) m.frame_states frame_states) is frees) blocks areas
    (subst (λ (l : Ledger). UsageRises l m.ledger unit.group (2 ^ unit.order)) uncharged usage) run made in
    subst (λ (x : KnownMachine × ℕ × KnownMachine). AllEvicted t x.0 x.2 f x.1 free) (λ j. (
      same j,
      sym size j,
      record m {
        blocks = blocks;
        frame_states = frame_states;
        ledger = sym uncharged j;
        links = links;
        lists = lists;
        counts = sym counted j;
        notes = (sym (noted ∙ (λ l. unit_noted m.notes unit.group (is l) (size l)))) j;
        run = run;
      },
    )) all

-- after the freeze the unit may be returned
pub evict_returns : (t : KnownTable) (m now : KnownMachine) → m ≡ now → IsConsistent t m → (f i : ℕ) → f < t.frames → i ≡ f → home_of now.links f ≢ None → IsHeld t now.run.past
    → (unit : ChargedUnit) → frame_state_at m.frame_states i ≡ Head unit → is_legal (after (local_by_pasts t m.run.past) 0 (Freeze f 1) answer.Done) 0 (Return f) ≡ true
evict_returns t m now same ok f i inside is kept held unit head =
    may_return t m ok (held_here t m now same held) f inside (kept_here m now same f kept) unit (subst (λ (x : ℕ). frame_state_at m.frame_states x ≡ Head unit) is head)
