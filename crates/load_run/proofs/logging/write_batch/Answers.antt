use Rattle.std.proofs.Common.{ℕ, List, [], ◌++◌, ◌==◌, sym, ap, ◌∙◌, codes, eq-eqb}
use Rattle.std.specs.Prelude.{decimal}
use Rattle.std.specs.String.{string_bytes}
use Rattle.std.proofs.lemmas.Bool.{cond-true}
use Rattle.std.proofs.lemmas.List.{append-nil}
use Rattle.load_run.proofs.logging.write_batch.Goals as goal

pub returns-then-batch-eq1 : goal.returns-then-batch-eq1
returns-then-batch-eq1 c =
    let none = cond-true (c.args.batch == 1) [] (codes " reclaim-batch " ++ decimal c.args.batch) (eq-eqb c.args.batch 1 c.if-batch-eq1.true) in
    let text = string_bytes c.args.text.now in
    sym (append-nil text) ∙ ap (λ (more : List ℕ). text ++ more) (sym none)
