use Rattle.std.proofs.Common.{Bool, List, not, set, get_or, false, ap, ◌∙◌}
use Rattle.bit_levels.proofs.Words.{same_truth}
use Rattle.bit_levels.proofs.bits.Bits.toggle.Goals as goal

pub returns : goal.returns
returns c =
    let S : Bool → List Bool = λ v. set c.args.self.now c.args.number (not v) in
    c.set.ensures ∙ ap S (same_truth c.contains-value.result (get_or c.args.self.now c.args.number false) c.contains-value.ensures)
