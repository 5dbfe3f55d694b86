use Rattle.std.proofs.Common.{◌≡◌, vec_capacity}
use Rattle.mem_machine.specs.Start.{AreEmpty}
use Rattle.mem_machine.proofs.start.empty_lists.Given as goal

-- the lists made so far are empty, and are those of the owners so far
abbrev pub invariant-loop-owner : goal.invariant-loop-owner
invariant-loop-owner l = record {
  empty : AreEmpty l.lists.items l.owner;
  room : vec_capacity l.lists ≡ l.room;
}
