-- What else holds of every command that was served, and of every end, whichever function made it.
use Rattle.std.specs.Prelude.{◌≡◌, ℕ, ◌≤◌, ◌<◌, ◌⊎◌, List, [], slice_index}
use Rattle.std.specs.Borrow.{Bor}
use Rattle.zone_blocks.specs.declared.config.Config.{Config}
use Rattle.zone_blocks.specs.Config.{IsValidConfig}
use Rattle.group_tree.specs.declared.fault.Fault.{Fault}
use Rattle.group_tree.specs.declared.fault.Fault.TheVariants.{Again}
use Rattle.control_files.specs.declared.file.File.TheVariants.{Reclaim}
use Rattle.control_files.specs.Files.{name_of_file}
use Rattle.boot_words.specs.Tables.{KnownTable}
use Rattle.mem_machine.specs.Local.{VisitState}
use Rattle.mem_reclaim.specs.Moves.{kills_in}
use Rattle.mem_system.specs.declared.audit.Audit.{Audit}
use Rattle.mem_system.specs.declared.command.LockedCommand.{LockedCommand}
use Rattle.mem_system.specs.declared.text_command.TextCommand.TheVariants.{Write}
use Rattle.mem_system.specs.declared.outcome.Outcome.{Outcome}
use Rattle.mem_system.specs.declared.outcome.Outcome.TheVariants.{Refused}
use Rattle.mem_system.specs.Commands.{ListStaysWithin}
use Rattle.boot_words.specs.{words_in, zone_of_boot}
use Rattle.boot_words.specs.Words.{Words}
use Rattle.mem_system.specs.Ends.{Closes, HasEmptyWords, KnownEmptiedBoot}
use Rattle.mem_system.specs.Releases.{ReleasesFrame}
use Rattle.mem_system.specs.TextCommands.{ServesText}
use Rattle.mem_system.specs.Visits.{Transition, LockedState, Serves}

-- all kills among the steps of a visit are the command's own: neither settling nor the visit itself kills a group
abbrev pub OnlyCommandsKill : Type 0
OnlyCommandsKill =
    (cmd : LockedCommand) (outcome : Outcome) (call : Transition LockedState) (served : Serves cmd outcome call)
    → kills_in call.steps ≡ kills_in served.inner

-- a Write that is refused changes nothing and makes no step, or it is one of memory.reclaim, refused with Again
abbrev pub OnlyReclaimFallsShort : Type 0
OnlyReclaimFallsShort =
    (table : KnownTable) (path file value : Bor (List ℕ)) (fault : Fault) (before after : LockedState)
    (served : ServesText table (Write path file value) (Refused fault) before after)
    → ((served.visit.serves.done ≡ served.visit.serves.settled.machine) × (served.visit.serves.inner ≡ []))
    ⊎ ((file.now ≡ name_of_file Reclaim) × (fault ≡ Again))

-- a Release leaves at most `high` frames in the CPU's list, if there were at most as many
abbrev pub ReleasesCutLists : Type 0
ReleasesCutLists =
    (sizes : Config) (frame : ℕ) (outcome : Outcome) (call : Transition VisitState) → IsValidConfig sizes
    → ReleasesFrame sizes frame outcome call → ListStaysWithin sizes call.before.cpu call.after.cpu

-- these last words of a boot are empty: no CPU's words hold a page, and no frame's word counts more than the zone's
-- reference
pub record LeavesEmptyWords (table : KnownTable) (words : Words) : Type 0 where
  pub each : (cpu : ℕ) → 1 ≤ cpu → cpu ≤ table.cpus → HasEmptyWords words.stocks cpu
  pub references : (frame : ℕ) → frame < table.frames → slice_index words.frames frame ≤ 1

-- the words of the run that a closed table ends hold no page, and no CPU's reference
abbrev pub EndsLeaveEmptyWords : Type 0
EndsLeaveEmptyWords =
    (table : KnownTable) (emptied : KnownEmptiedBoot) (audit : Audit)
    → (closes : Closes table emptied audit) → LeavesEmptyWords table (words_in (zone_of_boot table) closes.words)
