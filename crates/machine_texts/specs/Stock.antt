-- The text of one CPU's stock, and of how many frames and pins it has.
use Rattle.std.specs.Prelude.{ℕ, List, ◌++◌, codes, length, ◌*◌}
use Rattle.std.specs.Option.{option_map_or}
use Rattle.std.specs.Fmt.{decimal}
use Rattle.group_tree.specs.declared.group.Group.{Group}
use Rattle.group_tree.specs.Groups.{path_of}
use Rattle.stock_word.specs.declared.stock.Stock.{Stock}
use Rattle.stock_word.specs.declared.stock.Stock.TheVariants.{NoGroup, HeldBy, DrainedOf}
use Rattle.control_files.specs.Limit.{page_bytes}
use Rattle.boot_words.specs.Tables.{KnownTable}
use Rattle.cpu_part.specs.Cpus.{KnownCpuLists}
use Rattle.mem_machine.specs.{KnownMachine, stock_left}
use Rattle.machine_texts.specs.Characters.{characters}

-- the path of the group of this number; a hyphen if there is no such group
abbrev pub owner_text : List Group → ℕ → List ℕ
owner_text groups group = option_map_or characters (path_of groups group) (codes "-")

-- A stock: `none` if it was never filled; the path of its group and its bytes; or that it was drained, and the path of
-- the group that it was last filled for. If that group is gone, its number may be another group's now.
abbrev pub stock_text : List Group → Stock → List ℕ
stock_text groups NoGroup = codes "none"
stock_text groups (HeldBy group pages) = owner_text groups group ++ (codes " " ++ decimal (pages * page_bytes))
stock_text groups (DrainedOf group) = codes "drained " ++ owner_text groups group

-- how many frames the CPU has on its list, how many are fresh or back, and how many pins it has
abbrev pub counts_text : KnownCpuLists → List ℕ
counts_text cpu =
    codes " list " ++ decimal (length cpu.list) ++ codes " fresh " ++ decimal (length cpu.fresh)
    ++ codes " back " ++ decimal (length cpu.back) ++ codes " pins " ++ decimal (length cpu.pins)

-- the line about a CPU with this stock
abbrev pub cpu_text : List Group → KnownCpuLists → Stock → List ℕ
cpu_text groups cpu stock =
    codes "cpu " ++ decimal cpu.number ++ codes " stock "
    ++ (stock_text groups stock ++ (counts_text cpu ++ codes "\n"))

-- what is written for `stock`: the line about the CPU with its stock after the machine's past
abbrev pub stock_line_text : KnownTable → KnownMachine → KnownCpuLists → List ℕ
stock_line_text table machine cpu = cpu_text machine.ledger.groups cpu (stock_left table machine cpu.number)
