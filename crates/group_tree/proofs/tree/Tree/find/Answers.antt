use Rattle.std.proofs.Common.{sym, ap, ◌∙◌}
use Rattle.std.specs.Option.{option_map}
use Rattle.std.specs.Str.{bytes_eq}
use Rattle.group_tree.specs.Groups.{Group, number_at}
use Rattle.group_tree.proofs.GroupLemmas.{find_turn, find_end}
use Rattle.group_tree.proofs.tree.Tree.find.Goals as goal

pub returns-then-eq : goal.returns-then-eq
unfolding number_at
returns-then-eq c =
    let same = sym (ap (λ text. bytes_eq text c.args.path.now) c.as_bytes.ensures.text) ∙ sym c.eq.ensures ∙ c.if-eq.true in
    let found = find_turn (λ g. bytes_eq g.path c.args.path.now) c.deref-row-items.result.now c.loop-row.row-index c.row-item.result
    c.loop-row-test.true c.row-item.is same in
    ap (option_map (λ (g : Group). g.number)) (sym found ∙ c.loop-row.invariant)

pub returns : goal.returns
unfolding number_at
returns c =
    let none = find_end (λ g. bytes_eq g.path c.args.path.now) c.deref-row-items.result.now c.loop-row.row-index c.loop-row-test.false in
    ap (option_map (λ (g : Group). g.number)) (sym none ∙ c.loop-row.invariant)
