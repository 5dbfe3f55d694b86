use Rattle.std.proofs.Common.{◌≡◌, ◌∷◌, ap, rules, sym, ◌∙◌}
use Rattle.step_rules.specs.declared.step.Action.TheVariants.{PassBack}
use Rattle.cpu_part.specs.Cpus.{KnownCpuLists}
use Rattle.cpu_part.proofs.Making.{may_make_at}
use Rattle.cpu_part.proofs.Passing.{passed_inside}
use Rattle.cpu_part.proofs.cpu_lists.CpuLists.pass_front.Goals as goal

pub pass_back-requires-clause-legal : goal.pass_back-requires-clause-legal
pass_back-requires-clause-legal g c =
    let f = c.in_ok-frame.frame in let rest = c.pop_front.new.self.items in
    let front : c.args.self.now.list ≡ f ∷ rest = ap (λ (k : KnownCpuLists). k.list) (sym c.self.view_is) ∙ c.in_ok-frame.ensures.items in
    may_make_at _ _ c.args.tables.now.words_are _ _ (ap (λ (k : KnownCpuLists). k.number) c.self.view_is) c.args.held.now (PassBack f)
    (c.requires.legal f rest front)

pub returns-clause-answer : goal.returns-clause-answer
returns-clause-answer g c = search rules

pub returns-clause-frame : goal.returns-clause-frame
returns-clause-frame g c =
    let f = c.in_ok-frame.frame in let rest = c.pop_front.new.self.items in
    let front : c.args.self.now.list ≡ f ∷ rest = ap (λ (k : KnownCpuLists). k.list) (sym c.self.view_is) ∙ c.in_ok-frame.ensures.items in
    passed_inside g.N.BootName.table c.args.held.now c.args.self.now.number f (c.requires.legal f rest front)
