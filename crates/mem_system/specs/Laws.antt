-- What holds of every command that was served, whichever function served it.
use Rattle.std.specs.Prelude.{◌≡◌, ℕ, List, ◌∷◌, ◌++◌}
use Rattle.step_rules.specs.declared.step.Action.TheVariants.{Kill}
use Rattle.step_rules.specs.declared.step.Answer.{Answer}
use Rattle.step_rules.specs.declared.step.Step.{Step}
use Rattle.step_rules.specs.After.{Run}
use Rattle.group_tree.specs.declared.group.Group.{Group}
use Rattle.mem_alloc.specs.Laws.{ComesLast, TriesAllWithoutMin}
use Rattle.mem_system.specs.declared.command.LockedCommand.{LockedCommand}
use Rattle.mem_system.specs.declared.outcome.Outcome.{Outcome}
use Rattle.mem_system.specs.Asks.{MayAskFor}
use Rattle.mem_system.specs.Visits.{Transition, LockedState, Serves}

-- Each kill of a command comes last. After its CPU is settled, the command tries everything else for the limit that it
-- may ask for, except what memory.min keeps, before the first kill of the set that dies with the victim.
abbrev pub CommandsKillLast : Type 0
CommandsKillLast =
    (cmd : LockedCommand) (outcome : Outcome) (call : Transition LockedState)
    (served : Serves cmd outcome call) (before rest : Run)
    (made : Step × Answer) (group : ℕ) → served.inner ≡ before ++ made ∷ rest → made.0.action ≡ Kill group
    → ComesLast (MayAskFor cmd served.settled.machine.ledger.groups) call.table served.settled.machine before group

-- in a tree without memory.min that is everything else
abbrev pub CommandsTryAllWithoutMin : Type 0
CommandsTryAllWithoutMin = (cmd : LockedCommand) (groups : List Group) → TriesAllWithoutMin (MayAskFor cmd groups)
