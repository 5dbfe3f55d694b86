-- Serves the contract of `write_left`: the pages follow the units.
use Rattle.std.proofs.Common.{◌≡◌, ◌++◌, ℕ, IfOk, List, codes, decimal, subst}
use Rattle.log_check.specs.ReasonTexts.{said}
use Rattle.log_check.proofs.Pieces.{behind}
use Rattle.log_check.proofs.text.write_left.Goals as goal

-- so many units
abbrev units_text : ℕ → List ℕ
units_text n = said (codes "left: ") n (codes " units without references, ")

pub returns : goal.returns
returns c =
    let old = c.args.text.now.items in
    let pages = decimal c.args.end.now.pending ++ codes " pages pending" in
    subst (λ (n : ℕ). IfOk c.say_pages.result (λ x. c.say_pages.new.text.items ≡ old ++ (units_text n ++ pages))) c.from.ensures
    (behind c.say_pages.result old _ _ (units_text c.from.result) pages c.in_ok-say.ensures c.say_pages.ensures)
