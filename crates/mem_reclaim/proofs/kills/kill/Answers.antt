use Rattle.std.proofs.Common.{◌≡◌, List, ap, ◌∙◌, subst}
use Rattle.group_tree.specs.declared.group.Group.{Group}
use Rattle.group_tree.specs.Groups.{has_group}
use Rattle.group_charge.specs.Charges.{Ledger}
use Rattle.mem_machine.specs.Machines.{KnownMachine}
use Rattle.mem_reclaim.specs.{HasNoFlagged, IsHighestFlagged, alive_in_subtree, KillsSubtree}
use Rattle.mem_reclaim.proofs.Choosing.{chosen_there}
use Rattle.mem_reclaim.proofs.KilledRoots.{on_path_there}
use Rattle.mem_reclaim.proofs.KillSets.{KilledSo, OneKilled, alone_killed, head_killed}
use Rattle.mem_reclaim.proofs.Grown.{held_noted}
use Rattle.mem_reclaim.proofs.kills.kill.Goals as goal

pub kill_subtree-requires-clause-killed_root : goal.kill_subtree-requires-clause-killed_root
kill_subtree-requires-clause-killed_root g c =
    let groups : c.tree-tree.result.now ≡ c.note_victim.new.machine.ledger.groups = c.tree-tree.ensures.tree ∙ ap (λ (l : Ledger). l.groups) c.charges.ensures in
    on_path_there c.note_victim.new.machine.ledger.groups c.args.group c.in_ok-victim.victim c.in-Some.killed_root
    (subst (λ (l : List Group). IsHighestFlagged l c.args.group c.in_ok-victim.victim c.in-Some.killed_root) groups c.in-Some.ensures.highest).between

pub kill_noted-requires-clause-there : goal.kill_noted-requires-clause-there
kill_noted-requires-clause-there g c =
    ap (λ (x : KnownMachine). has_group x.ledger.groups c.in_ok-victim.victim) c.note_victim.ensures.machine
    ∙ chosen_there c.args.machine.now c.args.group c.in_ok-victim.victim (c.in_ok-victim.ensures {u = tt}).chosen

pub kill_subtree-requires-clause-held : goal.kill_subtree-requires-clause-held
kill_subtree-requires-clause-held g c =
    held_noted g.N.BootName.table c.args.machine.now c.note_victim.new.machine _ c.note_victim.ensures.machine c.requires.held

pub kill_noted-requires-clause-held : goal.kill_noted-requires-clause-held
kill_noted-requires-clause-held g c =
    held_noted g.N.BootName.table c.args.machine.now c.note_victim.new.machine _ c.note_victim.ensures.machine c.requires.held

pub returns-in-Some : goal.returns-in-Some
returns-in-Some g c =
    let t = g.N.BootName.table in
    let a = c.note_victim.new.machine in
    let n = c.kill_subtree.new.machine in
    let v = c.in_ok-victim.victim in
    let h = c.in-Some.killed_root in
    let e = c.kill_subtree.ensures in
    let so : KilledSo t (alive_in_subtree a h) (KillsSubtree t c.args.group h) a n =
    record { kills = e.kills; marked = e.marked; drained = e.drained; stocks = e.stocks; none_kept = e.none_kept; keeps = e.keeps } in
    let groups : c.tree-tree.result.now ≡ a.ledger.groups = c.tree-tree.ensures.tree ∙ ap (λ (l : Ledger). l.groups) c.charges.ensures in
    let high = subst (λ (l : List Group). IsHighestFlagged l c.args.group v h) groups c.in-Some.ensures.highest in
    let all = head_killed t c.args.group v h c.args.machine.now a n c.note_victim.ensures high so in
    record {
      victim = c.in_ok-victim.ensures {u = tt};
      kills = all.kills;
      marked = all.marked;
      drained = all.drained;
      stocks = all.stocks;
      none_kept = all.none_kept;
      keeps = all.keeps;
    }

pub returns-in-None : goal.returns-in-None
returns-in-None g c =
    let t = g.N.BootName.table in
    let a = c.note_victim.new.machine in
    let n = c.kill_noted.new.machine in
    let v = c.in_ok-victim.victim in
    let e = c.kill_noted.ensures in
    let one : OneKilled t c.args.group v a n =
    record { kills = e.kills; marked = e.marked; drained = e.drained; stocks = e.stocks; none_kept = e.none_kept; keeps = e.keeps } in
    let groups : c.tree-tree.result.now ≡ a.ledger.groups = c.tree-tree.ensures.tree ∙ ap (λ (l : Ledger). l.groups) c.charges.ensures in
    let none = subst (λ (l : List Group). HasNoFlagged l c.args.group v) groups c.in-None.ensures.highest in
    let all = alone_killed t c.args.group v c.args.machine.now a n (c.in_ok-victim.ensures {u = tt}).chosen c.note_victim.ensures none one in
    record {
      victim = c.in_ok-victim.ensures {u = tt};
      kills = all.kills;
      marked = all.marked;
      drained = all.drained;
      stocks = all.stocks;
      none_kept = all.none_kept;
      keeps = all.keeps;
    }
