-- Each group that the walk to the root passes has room.
use Rattle.std.proofs.Common.{ℕ, Bool, refl, List, sym, ap, ◌∙◌}
use Rattle.std.proofs.lemmas.Bool.{false≢true, both_ways}
use Rattle.group_tree.specs.declared.group.Group.{Group}
use Rattle.group_tree.specs.Ancestors.{ancestors_of}
use Rattle.group_tree.proofs.Walks.{left_start, left_turn, left_on, left_end}
use Rattle.mem_alloc.specs.High.{has_high_room}
use Rattle.mem_alloc.proofs.high.path_has_high_room.Goals as goal

pub loop-above-init : goal.loop-above-init
loop-above-init c =
    let l = c.args.charges.now in
    left_start l.groups (λ m. has_high_room l m c.args.pages) c.args.group c.into_iter-above-iterator.result c.requires
    (c.into_iter-above-iterator.ensures.into_iter_gives ∙ c.ancestors-above-items.ensures.value
    ∙ ap (λ (k : List Group). ancestors_of k c.args.group) c.tree-tree.ensures.tree)

pub has_high_room-requires : goal.has_high_room-requires
has_high_room-requires c =
    let l = c.args.charges.now in
    (left_turn l.groups (λ m. has_high_room l m c.args.pages) c.args.group c.in-Some.above c.loop-above.above-iterator c.next.new.self
    c.tree-tree.ensures.legal.groups c.loop-above.invariant c.in-Some.ensures.steps).there

pub loop-above-preserved : goal.loop-above-preserved
loop-above-preserved c =
    let l = c.args.charges.now in
    let test : ℕ → Bool = λ m. has_high_room l m c.args.pages in
    let turn = left_turn l.groups test c.args.group c.in-Some.above c.loop-above.above-iterator c.next.new.self
    c.tree-tree.ensures.legal.groups c.loop-above.invariant c.in-Some.ensures.steps in
    left_on l.groups test c.args.group c.in-Some.above c.next.new.self c.tree-tree.ensures.legal.groups turn
    (sym c.has_high_room.ensures ∙ c.if-not-has_high_room.false)

pub returns-then-not-has_high_room : goal.returns-then-not-has_high_room
returns-then-not-has_high_room c =
    let l = c.args.charges.now in
    let test : ℕ → Bool = λ m. has_high_room l m c.args.pages in
    let turn = left_turn l.groups test c.args.group c.in-Some.above c.loop-above.above-iterator c.next.new.self
    c.tree-tree.ensures.legal.groups c.loop-above.invariant c.in-Some.ensures.steps in (
      λ no. absurd (false≢true no),
      λ all. absurd (both_ways (test c.in-Some.above) (sym c.has_high_room.ensures ∙ c.if-not-has_high_room.true) (all c.in-Some.above turn.walked.on_path)),
    )

pub returns : goal.returns
returns c =
    let l = c.args.charges.now in (
      λ yes. left_end l.groups (λ m. has_high_room l m c.args.pages) c.args.group c.loop-above.above-iterator
          c.tree-tree.ensures.legal.groups c.loop-above.invariant c.in-None.ensures.steps.0,
      λ all. refl,
    )
