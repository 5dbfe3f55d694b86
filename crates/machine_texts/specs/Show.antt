-- The text of the places of the frames and of what the groups use.
use Rattle.std.specs.Prelude.{ℕ, List, [], ◌++◌, codes, ◌*◌, ◌==◌, if◌then◌else◌}
use Rattle.std.specs.List.{flat_map}
use Rattle.std.specs.Fmt.{decimal}
use Rattle.group_tree.specs.declared.group.Group.{Group}
use Rattle.group_charge.specs.Charges.{Ledger, current_of}
use Rattle.control_files.specs.Limit.{page_bytes}
use Rattle.mem_machine.specs.Machines.{KnownMachine}
use Rattle.machine_texts.specs.Characters.{characters}
use Rattle.machine_texts.specs.Places.{places_text}

-- a line for a group other than the root, with its usage in bytes
abbrev pub usage_text : Ledger → Group → List ℕ
usage_text ledger group =
    if group.number == 0 then []
    else codes "current " ++ characters group.path
    ++ (codes " " ++ decimal (current_of ledger group.number * page_bytes) ++ codes "\n")

-- what is written for `show`
abbrev pub show_text : KnownMachine → List ℕ
show_text machine =
    places_text machine.ledger.groups machine.frame_states ++ flat_map (usage_text machine.ledger) machine.ledger.groups
