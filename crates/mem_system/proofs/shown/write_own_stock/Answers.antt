-- Serves the contract of `write_own_stock`: the line is of the stock that the CPU saw last.
use Rattle.std.proofs.Common.{◌≡◌, ◌∙◌, ◌++◌, IfOk, List, ℕ, ap, subst}
use Rattle.std.specs.String.{string_bytes}
use Rattle.machine_texts.specs.Stock.{cpu_text}
use Rattle.group_charge.specs.Charges.{Ledger}
use Rattle.mem_system.specs.Cpus.{CpuInRun}
use Rattle.mem_system.proofs.shown.write_own_stock.Goals as goal

pub returns : goal.returns
returns g c =
    let groups = c.tree.ensures.tree ∙ ap (λ (l : Ledger). l.groups) c.charges.ensures in
    let part = ap (λ (x : CpuInRun). x.part) c.cpu.view_is in
    let stock = c.last_stock.ensures.last ∙ c.requires.last in
    subst (λ (line : List ℕ). IfOk c.write_stock.result (λ _. string_bytes c.write_stock.new.text ≡ string_bytes c.args.text.now ++ line))
    (λ i. cpu_text (groups i) (part i) (stock i)) c.write_stock.ensures
