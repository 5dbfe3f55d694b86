-- The goals of `no_page_pends`.
use Rattle.std.proofs.Common.{◌≡◌, ◌<◌, ◌==◌, length, get_or, ◌∙◌, arith}
use Rattle.group_tree.specs.Bounds.{most_groups}
use Rattle.mem_core.specs.Rows.{state_in}
use Rattle.std.proofs.lemmas.Bool.{ne_eqb}
use Rattle.std.proofs.lemmas.List.{get_or_default}
use Rattle.mem_core.proofs.Adding.{all_not}
use Rattle.mem_core.proofs.rows.Rows.no_page_pends.Goals as goal

pub returns-then-index-ne0 : goal.returns-then-index-ne0
returns-then-index-ne0 c =
    let items = c.args.self.now.pending.items in
    let g = c.loop-number.number in
    let inside : g < length items = omega (arith, c.args.self.now.pending.ok.0, c.requires.fits.pending, c.loop-number-test.true) in
    let was : c.index.result.now ≡ get_or items g 0 = c.index.ensures ∙ get_or_default items g c.index.result.now 0 inside in
    all_not most_groups (λ g. (state_in c.args.self.now).pending g == 0) g c.loop-number-test.true (ne_eqb (get_or items g 0) 0 (λ e. c.if-index-ne0.true (was ∙ e)))
