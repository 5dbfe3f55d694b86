use Rattle.std.proofs.Common.{◌≡◌, ◌+◌, ◌<◌, ℕ, Bool, length, set, sym, ap, ◌∙◌, subst, arith}
use Rattle.group_tree.specs.{limit_of, fits_limit, has_room}
use Rattle.group_tree.proofs.Walks.{walked_lowest}
use Rattle.group_charge.specs.Kept.{usage_by}
use Rattle.group_charge.proofs.KeptLemmas.{read_at}
use Rattle.group_charge.proofs.WalkLemmas.{Walking, walking_all, walking_on, walking_start, walking_tested, walking_turn, walking_within}
use Rattle.group_charge.proofs.walks.add_until_over.Goals as goal

pub loop-ancestor-init : goal.loop-ancestor-init
loop-ancestor-init c =
    let old = c.args.usages.now.items in
    walking_start ℕ 0 c.args.tree.now (λ m. has_room c.args.tree.now (usage_by old) m c.args.pages) c.args.group
    (λ _ usage. usage + c.args.pages) old c.into_iter-ancestor-iterator.result c.requires.there
    (c.into_iter-ancestor-iterator.ensures.into_iter_gives ∙ c.ancestors-ancestor-items.ensures.value)

pub index-requires : goal.index-requires
index-requires c =
    let old = c.args.usages.now.items in
    let now = c.loop-ancestor.usages.items in
    let m = c.in-Some.ancestor in
    let test : ℕ → Bool = λ k. has_room c.args.tree.now (usage_by old) k c.args.pages in
    let t = walking_turn ℕ 0 c.args.tree.now test c.args.group
    (λ _ usage. usage + c.args.pages) old m c.loop-ancestor.ancestor-iterator c.next.new.self now c.requires.legal c.loop-ancestor.invariant c.in-Some.ensures.steps in
    let within : m < length now = walking_within ℕ 0 c.args.tree.now test c.args.group (λ _ usage. usage + c.args.pages) old m c.next.new.self now
    c.requires.legal c.requires.size t in
    omega (arith, within, c.number-number.ensures.value, c.loop-ancestor.usages.ok.0)

pub index_mut-requires : goal.index_mut-requires
index_mut-requires c =
    let old = c.args.usages.now.items in
    let now = c.loop-ancestor.usages.items in
    let m = c.in-Some.ancestor in
    let test : ℕ → Bool = λ k. has_room c.args.tree.now (usage_by old) k c.args.pages in
    let t = walking_turn ℕ 0 c.args.tree.now test c.args.group
    (λ _ usage. usage + c.args.pages) old m c.loop-ancestor.ancestor-iterator c.next.new.self now c.requires.legal c.loop-ancestor.invariant c.in-Some.ensures.steps in
    let within : m < length now = walking_within ℕ 0 c.args.tree.now test c.args.group (λ _ usage. usage + c.args.pages) old m c.next.new.self now
    c.requires.legal c.requires.size t in
    omega (arith, within, c.number-number.ensures.value, c.loop-ancestor.usages.ok.0)

pub overflow_add-usage : goal.overflow_add-usage
overflow_add-usage c =
    let old = c.args.usages.now.items in
    let now = c.loop-ancestor.usages.items in
    let m = c.in-Some.ancestor in
    let test : ℕ → Bool = λ k. has_room c.args.tree.now (usage_by old) k c.args.pages in
    let t = walking_turn ℕ 0 c.args.tree.now test c.args.group
    (λ _ usage. usage + c.args.pages) old m c.loop-ancestor.ancestor-iterator c.next.new.self now c.requires.legal c.loop-ancestor.invariant c.in-Some.ensures.steps in
    let within : m < length now = walking_within ℕ 0 c.args.tree.now test c.args.group (λ _ usage. usage + c.args.pages) old m c.next.new.self now
    c.requires.legal c.requires.size t in
    let inside : c.number-number.result < length now = omega (arith, within, c.number-number.ensures.value) in
    let here : c.index.result.now ≡ usage_by old m = c.index.ensures
    ∙ read_at now c.number-number.result m c.index.result.now 0 inside c.number-number.ensures.value ∙ t.own in
    let fits = c.requires.fits m in
    omega (arith, here, fits)

pub max-requires : goal.max-requires
max-requires c =
    let old = c.args.usages.now.items in
    let test : ℕ → Bool = λ k. has_room c.args.tree.now (usage_by old) k c.args.pages in
    let t = walking_turn ℕ 0 c.args.tree.now test c.args.group
    (λ _ usage. usage + c.args.pages) old c.in-Some.ancestor c.loop-ancestor.ancestor-iterator c.next.new.self c.loop-ancestor.usages.items c.requires.legal c.loop-ancestor.invariant
    c.in-Some.ensures.steps in
    t.turn.there

pub returns-then-not-fits_limit-clause-room : goal.returns-then-not-fits_limit-clause-room
returns-then-not-fits_limit-clause-room c =
    let groups = c.args.tree.now in
    let old = c.args.usages.now.items in
    let now = c.loop-ancestor.usages.items in
    let m = c.in-Some.ancestor in
    let test : ℕ → Bool = λ k. has_room groups (usage_by old) k c.args.pages in
    let t = walking_turn ℕ 0 groups test c.args.group
    (λ _ usage. usage + c.args.pages) old m c.loop-ancestor.ancestor-iterator c.next.new.self now c.requires.legal c.loop-ancestor.invariant c.in-Some.ensures.steps in
    let within : m < length now = walking_within ℕ 0 groups test c.args.group (λ _ usage. usage + c.args.pages) old m c.next.new.self now
    c.requires.legal c.requires.size t in
    let inside : c.number-number.result < length now = omega (arith, within, c.number-number.ensures.value) in
    let here : c.index.result.now ≡ usage_by old m = c.index.ensures
    ∙ read_at now c.number-number.result m c.index.result.now 0 inside c.number-number.ensures.value ∙ t.own in
    let room : c.fits_limit.result ≡ has_room groups (usage_by old) m c.args.pages =
    c.fits_limit.ensures ∙ ap (λ o. fits_limit o (c.index.result.now + c.args.pages)) c.max.ensures
    ∙ ap (λ u. fits_limit (limit_of groups m) (u + c.args.pages)) here in
    record {
      on_path = t.turn.walked.on_path;
      over = sym room ∙ c.if-not-fits_limit.true;
      lowest = walked_lowest groups test c.args.group m t.turn.walked;
    }

pub returns-then-not-fits_limit-clause-added : goal.returns-then-not-fits_limit-clause-added
returns-then-not-fits_limit-clause-added c =
    let old = c.args.usages.now.items in
    let test : ℕ → Bool = λ k. has_room c.args.tree.now (usage_by old) k c.args.pages in
    let t = walking_turn ℕ 0 c.args.tree.now test c.args.group
    (λ _ usage. usage + c.args.pages) old c.in-Some.ancestor c.loop-ancestor.ancestor-iterator c.next.new.self c.loop-ancestor.usages.items c.requires.legal c.loop-ancestor.invariant
    c.in-Some.ensures.steps in
    t.changed

pub loop-ancestor-preserved : goal.loop-ancestor-preserved
loop-ancestor-preserved c =
    let groups = c.args.tree.now in
    let old = c.args.usages.now.items in
    let now = c.loop-ancestor.usages.items in
    let m = c.in-Some.ancestor in
    let test : ℕ → Bool = λ k. has_room groups (usage_by old) k c.args.pages in
    let t = walking_turn ℕ 0 groups test c.args.group
    (λ _ usage. usage + c.args.pages) old m c.loop-ancestor.ancestor-iterator c.next.new.self now c.requires.legal c.loop-ancestor.invariant c.in-Some.ensures.steps in
    let within : m < length now = walking_within ℕ 0 groups test c.args.group (λ _ usage. usage + c.args.pages) old m c.next.new.self now
    c.requires.legal c.requires.size t in
    let inside : c.number-number.result < length now = omega (arith, within, c.number-number.ensures.value) in
    let here : c.index.result.now ≡ usage_by old m = c.index.ensures
    ∙ read_at now c.number-number.result m c.index.result.now 0 inside c.number-number.ensures.value ∙ t.own in
    let room : c.fits_limit.result ≡ has_room groups (usage_by old) m c.args.pages =
    c.fits_limit.ensures ∙ ap (λ o. fits_limit o (c.index.result.now + c.args.pages)) c.max.ensures
    ∙ ap (λ u. fits_limit (limit_of groups m) (u + c.args.pages)) here in
    let item = c.index.result.now + c.args.pages in
    subst (λ i. Walking ℕ 0 groups test c.args.group (λ _ usage. usage + c.args.pages) old c.next.new.self (set now i item)) (sym c.number-number.ensures.value)
    (walking_on ℕ 0 groups test c.args.group (λ _ usage. usage + c.args.pages) old m c.next.new.self now item c.requires.legal t (sym room
    ∙ c.if-not-fits_limit.false) within (ap (λ u. u + c.args.pages) here))

pub returns-clause-room : goal.returns-clause-room
returns-clause-room c =
    let old = c.args.usages.now.items in
    let test : ℕ → Bool = λ k. has_room c.args.tree.now (usage_by old) k c.args.pages in
    walking_tested ℕ 0 c.args.tree.now test c.args.group
    (λ _ usage. usage + c.args.pages) old c.loop-ancestor.ancestor-iterator c.loop-ancestor.usages.items c.requires.legal c.loop-ancestor.invariant c.in-None.ensures.steps.0

pub returns-clause-added : goal.returns-clause-added
returns-clause-added c =
    let old = c.args.usages.now.items in
    let test : ℕ → Bool = λ k. has_room c.args.tree.now (usage_by old) k c.args.pages in
    walking_all ℕ 0 c.args.tree.now test c.args.group
    (λ _ usage. usage + c.args.pages) old c.loop-ancestor.ancestor-iterator c.loop-ancestor.usages.items c.requires.legal c.loop-ancestor.invariant c.in-None.ensures.steps.0
