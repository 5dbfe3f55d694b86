use Rattle.std.proofs.Common.{◌≡◌, ◌++◌, IfOk, List, ℕ, subst, sym}
use Rattle.std.specs.String.{string_bytes}
use Rattle.script_lint.proofs.Pieces.{sizes_default}
use Rattle.script_lint.proofs.text.write_sizes.Goals as goal

pub returns-then-sizes-eq-DEFAULT_HIGH : goal.returns-then-sizes-eq-DEFAULT_HIGH
returns-then-sizes-eq-DEFAULT_HIGH c =
    subst (λ (line : List ℕ). IfOk c.write_default.result (λ x. string_bytes c.write_default.new.text ≡ string_bytes c.args.text.now ++ line))
    (sym (sizes_default c.args.sizes.now c.if-sizes.true c.if-sizes-eq-DEFAULT_HIGH.true)) c.write_default.ensures
