-- Reclaim in passes over the groups of a subtree, by ascending number.
use Rattle.std.specs.Prelude.{◌≡◌, ℕ, ◌-◌, ◌≤◌, ◌==◌, ◌&&◌, ◌⊎◌, Bool, true, false, not, min, max, nat_lt, if◌then◌else◌}
use Rattle.std.specs.Prelude.{List, [], ◌∷◌, ◌++◌, filter, length}
use Rattle.std.specs.List.{range_with_len}
use Rattle.group_tree.specs.{in_subtree, room_of}
use Rattle.group_tree.specs.declared.event.EventKey.TheVariants as event
use Rattle.group_tree.specs.declared.group.Group.{Group}
use Rattle.group_charge.specs.declared.note.Note.{Note}
use Rattle.group_charge.specs.declared.note.Note.TheVariants.{Low, Spared}
use Rattle.group_charge.specs.declared.settings.ReclaimSettings.{ReclaimSettings}
use Rattle.group_charge.specs.Charges.{are_protecting, current_of, with_noted}
use Rattle.group_protection.specs.Protections.{effective, low_key, min_key}
use Rattle.lru_lists.specs.declared.record.LruList.TheVariants.{Inactive, Active}
use Rattle.step_rules.specs.declared.step.NoteKey.TheVariants as key
use Rattle.step_rules.specs.After.{Run}
use Rattle.mem_machine.specs.Machines.{KnownMachine, active_in, inactive_in, with_detail, with_run}
use Rattle.mem_machine.specs.Clean.{clean_pages}
use Rattle.mem_machine.specs.Noted.{KnownRun}
use Rattle.mem_machine.specs.Ageing.{AgesGroup}
use Rattle.mem_machine.specs.Steps.{note_steps}
use Rattle.mem_reclaim.specs.declared.passes.Pass.TheVariants.{First, Second, Third}
use Rattle.mem_reclaim.specs.Wanted.{FreesNothing, Progress, Reclaiming, WhileWanted, progress}
use Rattle.mem_reclaim.specs.Units.{ScansList}
pub use Rattle.mem_reclaim.specs.declared.passes.Pass.{Pass}

-- ---- a group

-- the first pass ages lists
abbrev pub is_first : Pass → Bool
is_first First = true
is_first Second = false
is_first Third = false

-- the first pass over a group: its lists are aged, and then its inactive units are scanned; marked ones are spared
pub record AgesAndScans (group want : ℕ) (done : Progress) : Type 0 where
  pub aged : KnownMachine
  pub ages : AgesGroup group done.before aged
  pub scans : ScansList true group Inactive want (progress done.freed aged done.steps done.after)

-- what a pass does with a group: the first pass ages and scans it; the others scan its inactive and then its active
-- units, and ignore marks
abbrev pub PassesGroup : (is_first : Bool) → ℕ → ℕ → Reclaiming
PassesGroup true group want = AgesAndScans group want
PassesGroup false group want = WhileWanted (ScansList false group) (Inactive ∷ Active ∷ []) want

-- first `Does`, and then an event `low` is noted at the group, which the run notes, and then this detail
pub record NotesLow (group : ℕ) (detail : Note) (Does : Reclaiming) (done : Progress) : Type 0 where
  pub reclaimed : KnownMachine
  pub earlier : Run
  pub seen : KnownRun
  pub does : Does (progress done.freed done.before earlier reclaimed)
  pub noted : done.after
      ≡ with_detail (with_run (record reclaimed { ledger = with_noted event.Low reclaimed.ledger group }) seen) detail
  pub steps_are : done.steps ≡ earlier ++ note_steps key.Low group

-- `Does`, and then the event and the detail if they are to be noted
abbrev pub NotesLowIf : Bool → ℕ → Note → Reclaiming → Reclaiming
NotesLowIf false group detail Does done = Does done
NotesLowIf true group detail Does done = NotesLow group detail Does done

-- What a pass does with a group of this usage, of which memory.min and memory.low protect this much. If the third frees
-- a page of a group of which memory.low protects more than memory.min, an event `low` is noted.
abbrev pub ReclaimsGroup : Pass → (of_min of_low usage group want : ℕ) → Reclaiming
ReclaimsGroup First of_min of_low usage group want done = PassesGroup true group want done
ReclaimsGroup Second of_min of_low usage group want done = PassesGroup false group want done
ReclaimsGroup Third of_min of_low usage group want done =
    NotesLowIf (nat_lt of_min of_low && nat_lt 0 done.freed) group (Low group usage of_min of_low)
    (PassesGroup false group want) done

-- ---- a turn

-- how much of its usage a pass spares a group, of which memory.min and memory.low protect this much
abbrev pub spared_by : Pass → (of_min of_low : ℕ) → ℕ
spared_by First of_min of_low = max of_min of_low
spared_by Second of_min of_low = max of_min of_low
spared_by Third of_min of_low = of_min

-- how many pages a turn wants: all that are wanted, but if the pass spares some of the usage, no more than the rest
abbrev pub turn_want : (want usage spared : ℕ) → ℕ
turn_want want usage spared = if spared == 0 then want else min want (usage - spared)

-- The first pass notes if it wants fewer pages of a group than are wanted, and fewer than its clean ones. So protection
-- keeps clean pages from it.
abbrev pub notes_spared : Pass → (clean want wanted : ℕ) → Bool
notes_spared pass clean want wanted = is_first pass && nat_lt wanted want && nat_lt wanted clean

-- the machine with one detail more, if it is to be noted
abbrev pub with_detail_if : Bool → KnownMachine → Note → KnownMachine
with_detail_if is_noted machine note = if is_noted then with_detail machine note else machine

-- the group keeps no unit
abbrev pub keeps_no_unit : KnownMachine → (group : ℕ) → Bool
keeps_no_unit machine group = length (inactive_in machine group) == 0 && length (active_in machine group) == 0

-- `does want`, unless no page is wanted
abbrev pub IfWanted : (ℕ → Reclaiming) → ℕ → Reclaiming
IfWanted does want done = ((want ≡ 0) × FreesNothing done) ⊎ ((1 ≤ want) × does want done)

-- The turn of a group of this usage, of which memory.min and memory.low protect this much. If that cuts the turn of the
-- first pass short, a note says so before. The group has no turn if nothing is wanted of it.
abbrev pub TakesTurnOf : Pass → (of_min of_low usage group want : ℕ) → Reclaiming
TakesTurnOf pass of_min of_low usage group want done =
    let wanted = turn_want want usage (spared_by pass of_min of_low) in
    IfWanted (ReclaimsGroup pass of_min of_low usage group) wanted (progress done.freed
    (with_detail_if (notes_spared pass (clean_pages done.before group) want wanted) done.before (Spared group usage of_min of_low))
    done.steps done.after)

-- The turn of a group in a reclaim with this target. What protects the group is found when the turn begins.
abbrev pub TakesTurn : Pass → (target group want : ℕ) → Reclaiming
TakesTurn pass target group want done =
    TakesTurnOf pass (effective min_key done.before.ledger target group)
    (effective low_key done.before.ledger target group) (current_of done.before.ledger group) group want done

-- ---- a reclaim

-- the groups of the subtree, by ascending number
unfoldable pub subtree_of : List Group → ℕ → List ℕ
subtree_of groups group = filter (in_subtree groups group) (range_with_len 0 (room_of groups))

-- one pass over the groups of the subtree, by ascending number
abbrev pub ReclaimsPass : (target : ℕ) → Pass → ℕ → Reclaiming
ReclaimsPass target pass want done =
    WhileWanted (TakesTurn pass target) (subtree_of done.before.ledger.groups target) want done

-- the passes of a reclaim: the third only if some group of the tree has memory.low or memory.min
abbrev pub passes_of : List ReclaimSettings → List Pass
passes_of settings = First ∷ Second ∷ (if are_protecting settings then Third ∷ [] else [])

-- no pass comes after this one
abbrev pub is_last : Pass → List ReclaimSettings → Bool
is_last First settings = false
is_last Second settings = not (are_protecting settings)
is_last Third settings = true

-- these passes over the subtree: each is made only if pages are still wanted
abbrev pub MakesPasses : (target want : ℕ) → Reclaiming
MakesPasses target want done = WhileWanted (ReclaimsPass target) (passes_of done.before.ledger.settings) want done

-- the pass that takes what memory.low protects
abbrev pub third_pass : Pass
third_pass = Third
