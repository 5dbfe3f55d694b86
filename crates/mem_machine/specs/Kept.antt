-- What contracts see of the machine's fields, and what always holds of them.
use Rattle.std.specs.Prelude.{◌≡◌, length}
use Rattle.boot_words.specs.Tables.{KnownTable}
use Rattle.mem_machine.specs.declared.machine.Machine.TheInside.{Inside}
use Rattle.mem_machine.specs.FrameStates.{free_of}
use Rattle.mem_machine.specs.Clean.{AreCleanCounts}
use Rattle.mem_machine.specs.Booked.{AreBooked, AreOwners}
use Rattle.mem_machine.specs.Machines.{KnownMachine, IsConsistent, left_by}

-- what contracts see of these fields
abbrev pub machine_of : {N : Type 0} → Inside N → KnownMachine
machine_of fields = record {
  blocks = fields.zone.blocks;
  frame_states = fields.frame_states.items;
  ledger = fields.charges;
  links = fields.links;
  lists = fields.lists.items;
  killed = fields.killed.items;
  counts = fields.counts;
  notes = fields.notes;
  is_proportional = fields.is_proportional;
  run = record { past = fields.past; watch = fields.watch };
}

-- What the fields show is consistent. The zone's free frames are those whose record is Free. The counts are those of the
-- clean pages on the groups' lists. The sums and owners are those of the stocks that the past left. There are as many
-- counts and sums as marks of killed groups.
pub record IsSoundMachine {N : Type 0} (table : KnownTable) (fields : Inside N) : Type 0 where
  pub consistent : IsConsistent table (machine_of fields)
  pub free : fields.zone.free ≡ free_of fields.frame_states.items
  pub clean : AreCleanCounts (length fields.killed.items) fields.frame_states.items fields.links fields.clean.items
  pub sums : AreBooked (length fields.killed.items) table.cpus (left_by table fields.past).parts fields.sums.items
  pub owners : AreOwners table.cpus (left_by table fields.past).parts fields.owners
