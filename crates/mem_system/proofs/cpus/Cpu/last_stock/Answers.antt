use Rattle.std.proofs.Common.{◌≡◌, ◌∙◌, ℕ, [], subst, sym}
use Rattle.stock_word.specs.declared.stock.Stock.TheVariants.{NoGroup}
use Rattle.boot_words.specs.Cpus.{state_left}
use Rattle.boot_words.proofs.Groupless.{no_group_nothing_fresh}
use Rattle.mem_system.specs.Cpus.{CpuInRun}
use Rattle.mem_system.proofs.cpus.Cpu.last_stock.Goals as goal

pub returns-clause-none_fresh : goal.returns-clause-none_fresh
returns-clause-none_fresh g c = λ none.
    let t = g.N.BootName.table in
    let past = c.self.inside.past in
    let knows = c.self.invariant in
    let last : past.last ≡ NoGroup = sym c.last.ensures ∙ none in
    let fresh : ((state_left t past).parts past.number).fresh ≡ [] = no_group_nothing_fresh t past knows.is last in
    subst (λ (x : CpuInRun). x.part.fresh ≡ []) c.self.view_is
    (sym knows.own.fresh ∙ subst (λ (q : ℕ). ((state_left t past).parts q).fresh ≡ []) knows.number fresh)
