use Rattle.std.proofs.Common.{ℕ, Option, List, length, sym, ap, ◌∙◌, arith}
use Rattle.zone_blocks.specs.declared.block.Block.{Block}
use Rattle.zone_blocks.specs.OrderLists.{blocks_from}
use Rattle.zone_blocks.proofs.Walking.{from_step, from_none}
use Rattle.zone_blocks.proofs.walk.WalkIterator.next.Goals as goal

pub returns-clause-steps : goal.returns-clause-steps
returns-clause-steps c =
    let blocks = c.self.inside.areas.now.blocks in
    let rest : Option Block → List Block = λ r. blocks_from blocks r in
    sym c.self.view_is ∙ ap rest c.in_ok-block.was ∙ from_step blocks c.in_ok-block.block c.after-self-inside.result c.after-self-inside.ensures.apart.ordered
    (c.self.invariant c.in_ok-block.block c.in_ok-block.was) c.after-self-inside.ensures.next

pub returns-in_err-block-clause-steps : goal.returns-in_err-block-clause-steps
returns-in_err-block-clause-steps c =
    let blocks = c.self.inside.areas.now.blocks in
    let rest : Option Block → List Block = λ r. blocks_from blocks r in
    let none = sym c.self.view_is ∙ ap rest c.in_err-block.was ∙ from_none blocks in
    rw c.from_residual.ensures (none, none)

pub returns-clause-goes : goal.returns-clause-goes
returns-clause-goes c =
    let blocks = c.self.inside.areas.now.blocks in
    let rest : Option Block → List Block = λ r. blocks_from blocks r in
    let step = sym c.self.view_is ∙ ap rest c.in_ok-block.was
    ∙ from_step blocks c.in_ok-block.block c.after-self-inside.result c.after-self-inside.ensures.apart.ordered
    (c.self.invariant c.in_ok-block.block c.in_ok-block.was) c.after-self-inside.ensures.next in
    let size : List Block → ℕ = λ xs. length xs in
    omega (arith, ap size step)
