-- Each group that the walk to the root passes has room.
use Rattle.std.proofs.Common.{ℕ, Bool, sym, ◌∙◌}
use Rattle.group_tree.proofs.Walks.{left_start, left_turn, left_on, left_end, walked_lowest}
use Rattle.group_tree.specs.Room.{has_room}
use Rattle.step_rules.specs.Usage.{usage_of}
use Rattle.mem_core.specs.Rows.{state_in}
use Rattle.mem_core.proofs.rows.Rows.lowest_over.Goals as goal

pub loop-above-init : goal.loop-above-init
loop-above-init c =
    let r = c.args.self.now in
    left_start r.tree (λ m. has_room r.tree (usage_of (state_in r)) m c.args.pages) c.args.group c.into_iter-above-iterator.result c.requires.there
    (c.into_iter-above-iterator.ensures.into_iter_gives ∙ c.ancestors-above-items.ensures.value)

pub has_room-requires : goal.has_room-requires
has_room-requires c =
    let r = c.args.self.now in
    let test : ℕ → Bool = λ m. has_room r.tree (usage_of (state_in r)) m c.args.pages in
    record {
      fits = c.requires.fits;
      bounded = c.requires.bounded;
      there =
          (left_turn r.tree test c.args.group c.in-Some.above c.loop-above.above-iterator c.next.new.self c.groups.ensures.legal
          c.loop-above.invariant c.in-Some.ensures.steps).there;
    }

pub loop-above-preserved : goal.loop-above-preserved
loop-above-preserved c =
    let r = c.args.self.now in
    let test : ℕ → Bool = λ m. has_room r.tree (usage_of (state_in r)) m c.args.pages in
    let turn = left_turn r.tree test c.args.group c.in-Some.above c.loop-above.above-iterator c.next.new.self
    c.groups.ensures.legal c.loop-above.invariant c.in-Some.ensures.steps in
    left_on r.tree test c.args.group c.in-Some.above c.next.new.self c.groups.ensures.legal turn (sym c.has_room.ensures ∙ c.if-not-has_room.false)

pub returns-then-not-has_room-clause-some : goal.returns-then-not-has_room-clause-some
returns-then-not-has_room-clause-some c =
    let r = c.args.self.now in
    let test : ℕ → Bool = λ m. has_room r.tree (usage_of (state_in r)) m c.args.pages in
    let turn = left_turn r.tree test c.args.group c.in-Some.above c.loop-above.above-iterator c.next.new.self
    c.groups.ensures.legal c.loop-above.invariant c.in-Some.ensures.steps in
    record {
      on_path = turn.walked.on_path;
      over = sym c.has_room.ensures ∙ c.if-not-has_room.true;
      lowest = walked_lowest r.tree test c.args.group c.in-Some.above turn.walked;
    }

pub returns-clause-none : goal.returns-clause-none
returns-clause-none c =
    let r = c.args.self.now in
    left_end r.tree (λ m. has_room r.tree (usage_of (state_in r)) m c.args.pages) c.args.group c.loop-above.above-iterator
    c.groups.ensures.legal c.loop-above.invariant c.in-None.ensures.steps.0
