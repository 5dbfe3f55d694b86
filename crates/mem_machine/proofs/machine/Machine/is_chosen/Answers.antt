-- The group of the CPU's stock is the one that the machine keeps for the CPU.
use Rattle.std.proofs.Common.{◌≡◌, Some, None, List, arith, false, refl, sym, ap, ◌∙◌}
use Rattle.group_tree.specs.declared.group.Group.{Group}
use Rattle.mem_machine.specs.{machine_of, KnownMachine, stock_group}
use Rattle.mem_machine.specs.Stocks.{is_chosen, test_of}
use Rattle.mem_machine.specs.declared.stocks.Stocks.{Stocks}
use Rattle.mem_machine.specs.declared.stocks.Stocks.TheVariants.{OfGroup, OfSubtree}
use Rattle.mem_machine.proofs.Owning.{owner_at}
use Rattle.mem_machine.proofs.machine.Machine.is_chosen.Goals as goal

of_none : (stocks : Stocks) (groups : List Group) → test_of stocks groups None ≡ false
of_none (OfGroup g) groups = refl
of_none (OfSubtree g) groups = refl

pub group-requires : goal.group-requires
group-requires g c = let few = c.self.invariant.owners.few in omega (arith, few, c.requires.cpu.0, c.requires.cpu.1)

pub returns-in_default : goal.returns-in_default
returns-in_default g c =
    let t = g.N.BootName.table in
    let m = machine_of c.self.inside in
    let none : stock_group t m c.args.cpu ≡ None = owner_at t.cpus _ _ c.self.invariant.owners c.args.cpu c.requires.cpu.0 c.requires.cpu.1 ∙ sym c.group.ensures ∙ c.in_default.is in
    sym (of_none c.args.stocks.now m.ledger.groups) ∙ ap (test_of c.args.stocks.now m.ledger.groups) (sym none)
    ∙ ap (λ (x : KnownMachine). is_chosen t (test_of c.args.stocks.now) x c.args.cpu) c.self.view_is

pub returns-in-OfGroup : goal.returns-in-OfGroup
returns-in-OfGroup g c =
    let t = g.N.BootName.table in
    let m = machine_of c.self.inside in
    let owner : stock_group t m c.args.cpu ≡ Some c.in-Some.owner = owner_at t.cpus _ _ c.self.invariant.owners c.args.cpu c.requires.cpu.0 c.requires.cpu.1 ∙ sym c.group.ensures ∙ c.in-Some.is in
    c.eq.ensures ∙ (λ i. test_of (sym c.in-OfGroup.is i) m.ledger.groups (sym owner i))
    ∙ ap (λ (x : KnownMachine). is_chosen t (test_of c.args.stocks.now) x c.args.cpu) c.self.view_is

pub returns-in-OfSubtree : goal.returns-in-OfSubtree
returns-in-OfSubtree g c =
    let t = g.N.BootName.table in
    let m = machine_of c.self.inside in
    let owner : stock_group t m c.args.cpu ≡ Some c.in-Some.owner = owner_at t.cpus _ _ c.self.invariant.owners c.args.cpu c.requires.cpu.0 c.requires.cpu.1 ∙ sym c.group.ensures ∙ c.in-Some.is in
    c.is_in_subtree.ensures ∙ (λ i. test_of (sym c.in-OfSubtree.is i) (c.tree.ensures.tree i) (sym owner i))
    ∙ ap (λ (x : KnownMachine). is_chosen t (test_of c.args.stocks.now) x c.args.cpu) c.self.view_is
