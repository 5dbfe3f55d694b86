-- What the loop of `pages_prepaid` keeps.
use Rattle.std.proofs.Common.{◌≡◌, ◌≤◌, ◌*◌, ◌^◌}
use Rattle.step_rules.specs.{sum_to, stock_in_subtree}
use Rattle.mem_core.specs.Rows.{state_in}
use Rattle.mem_core.proofs.rows.Rows.pages_prepaid.Given as goal

abbrev pub invariant-loop-cpu : goal.invariant-loop-cpu
invariant-loop-cpu l = record {
  sum : l.sum ≡ sum_to l.cpu (λ p. stock_in_subtree l.self.tree l.group ((state_in l.self).parts p));
  few : l.sum ≤ l.cpu * 2 ^ 96;
}
