-- Serves the contract of `take_line`: an empty line or a comment changes nothing.
use Rattle.std.proofs.Common.{◌+◌, ◌++◌, ◌∷◌, [], subst, sym}
use Rattle.log_check.specs.Taking.{HasChecked}
use Rattle.log_check.proofs.Steps.{takes_skipped}
use Rattle.log_check.proofs.progress.Progress.take_line.Goals as goal

pub returns-in-Skipped-clause-taken : goal.returns-in-Skipped-clause-taken
returns-in-Skipped-clause-taken c = λ count lines left checked.
    let old = c.args.self.now in
    subst (λ l. HasChecked old (count + 1) (lines ++ l ∷ []) left) (sym c.in-Skipped.is)
    (takes_skipped old.checker count lines old.steps old.free left checked)
