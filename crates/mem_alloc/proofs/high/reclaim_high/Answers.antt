use Rattle.std.proofs.Common.{subst}
use Rattle.group_tree.specs.Groups.{AreGroups}
use Rattle.group_charge.specs.Charges.{Ledger}
use Rattle.mem_reclaim.proofs.Keeping.{keeps_none}
use Rattle.mem_alloc.specs.High.{PathHasHighRoom}
use Rattle.mem_alloc.proofs.HighRooms.{path_stays}
use Rattle.mem_alloc.proofs.high.reclaim_high.Goals as goal

pub returns-then-path_has_high_room-clause-high : goal.returns-then-path_has_high_room-clause-high
returns-then-path_has_high_room-clause-high g c =
    path_stays g.N.BootName.table c.args.group c.args.need c.args.machine.now
    (subst (λ (l : Ledger). AreGroups l.groups) c.charges-charges.ensures c.tree-tree.ensures.legal.groups) c.requires.there
    (subst (λ (l : Ledger). PathHasHighRoom l c.args.group c.args.need) c.charges-charges.ensures
    (c.path_has_high_room.ensures.0 c.if-path_has_high_room.true))

pub returns-then-path_has_high_room-clause-keeps : goal.returns-then-path_has_high_room-clause-keeps
returns-then-path_has_high_room-clause-keeps g c = keeps_none g.N.BootName.table c.args.machine.now
