use Rattle.std.proofs.Common.{◌≡◌, ◌-◌, ◌<◌, ℕ, not, length, set, sym, ap, ◌∙◌, subst, arith}
use Rattle.group_charge.specs.Kept.{UsagesPassed, usage_by}
use Rattle.group_charge.proofs.KeptLemmas.{read_at}
use Rattle.group_charge.proofs.WalkLemmas.{Walking, before_end, goes_on, goes_on_eq, is_end, no_end, walking_all, walking_on, walking_start}
use Rattle.group_charge.proofs.WalkLemmas.{walking_tested, walking_turn, walking_within}
use Rattle.group_charge.proofs.walks.subtract_until.Goals as goal

pub loop-ancestor-init : goal.loop-ancestor-init
loop-ancestor-init c =
    walking_start ℕ 0 c.args.tree.now (goes_on c.args.end) c.args.group
    (λ _ usage. usage - c.args.pages) c.args.usages.now.items c.into_iter-ancestor-iterator.result c.requires.there
    (c.into_iter-ancestor-iterator.ensures.into_iter_gives ∙ c.ancestors-ancestor-items.ensures.value)

pub returns-then-eq-clause-taken : goal.returns-then-eq-clause-taken
returns-then-eq-clause-taken c =
    let old = c.args.usages.now.items in
    let m = c.in-Some.ancestor in
    let t = walking_turn ℕ 0 c.args.tree.now (goes_on c.args.end) c.args.group
    (λ _ usage. usage - c.args.pages) old m c.loop-ancestor.ancestor-iterator c.next.new.self c.loop-ancestor.usages.items c.requires.legal c.loop-ancestor.invariant c.in-Some.ensures.steps in
    subst (λ o. UsagesPassed c.args.tree.now c.args.group o (λ pages. pages - c.args.pages) old c.loop-ancestor.usages.items)
    (sym (is_end c.args.end m (sym c.eq.ensures ∙ c.if-eq.true))) t.changed

pub index_mut-requires : goal.index_mut-requires
index_mut-requires c =
    let old = c.args.usages.now.items in
    let now = c.loop-ancestor.usages.items in
    let m = c.in-Some.ancestor in
    let t = walking_turn ℕ 0 c.args.tree.now (goes_on c.args.end) c.args.group
    (λ _ usage. usage - c.args.pages) old m c.loop-ancestor.ancestor-iterator c.next.new.self now c.requires.legal c.loop-ancestor.invariant c.in-Some.ensures.steps in
    let within : m < length now = walking_within ℕ 0 c.args.tree.now (goes_on c.args.end) c.args.group (λ _ usage. usage - c.args.pages) old m c.next.new.self now
    c.requires.legal c.requires.size t in
    omega (arith, within, c.number.ensures.value, c.loop-ancestor.usages.ok.0)

pub overflow_sub-index_mut : goal.overflow_sub-index_mut
overflow_sub-index_mut c =
    let old = c.args.usages.now.items in
    let now = c.loop-ancestor.usages.items in
    let m = c.in-Some.ancestor in
    let t = walking_turn ℕ 0 c.args.tree.now (goes_on c.args.end) c.args.group
    (λ _ usage. usage - c.args.pages) old m c.loop-ancestor.ancestor-iterator c.next.new.self now c.requires.legal c.loop-ancestor.invariant c.in-Some.ensures.steps in
    let within : m < length now = walking_within ℕ 0 c.args.tree.now (goes_on c.args.end) c.args.group (λ _ usage. usage - c.args.pages) old m c.next.new.self now
    c.requires.legal c.requires.size t in
    let inside : c.number.result < length now = omega (arith, within, c.number.ensures.value) in
    let here : c.index_mut.result.now ≡ usage_by old m = c.index_mut.ensures.value
    ∙ read_at now c.number.result m c.index_mut.result.now 0 inside c.number.ensures.value ∙ t.own in
    let goes = goes_on_eq c.args.end m ∙ ap not (sym c.eq.ensures ∙ c.if-eq.false) in
    let enough = c.requires.enough m (before_end c.args.tree.now c.args.group m c.args.end c.requires.legal c.requires.on_path t.turn.walked goes) in
    omega (arith, here, enough)

pub loop-ancestor-preserved : goal.loop-ancestor-preserved
loop-ancestor-preserved c =
    let groups = c.args.tree.now in
    let old = c.args.usages.now.items in
    let now = c.loop-ancestor.usages.items in
    let m = c.in-Some.ancestor in
    let t = walking_turn ℕ 0 groups (goes_on c.args.end) c.args.group
    (λ _ usage. usage - c.args.pages) old m c.loop-ancestor.ancestor-iterator c.next.new.self now c.requires.legal c.loop-ancestor.invariant c.in-Some.ensures.steps in
    let within : m < length now = walking_within ℕ 0 groups (goes_on c.args.end) c.args.group (λ _ usage. usage - c.args.pages) old m c.next.new.self now
    c.requires.legal c.requires.size t in
    let inside : c.number.result < length now = omega (arith, within, c.number.ensures.value) in
    let here : c.index_mut.result.now ≡ usage_by old m = c.index_mut.ensures.value
    ∙ read_at now c.number.result m c.index_mut.result.now 0 inside c.number.ensures.value ∙ t.own in
    let goes = goes_on_eq c.args.end m ∙ ap not (sym c.eq.ensures ∙ c.if-eq.false) in
    let item = c.index_mut.result.now - c.args.pages in
    subst (λ i. Walking ℕ 0 groups (goes_on c.args.end) c.args.group (λ _ usage. usage - c.args.pages) old c.next.new.self (set now i item))
    (sym c.number.ensures.value)
    (walking_on ℕ 0 groups (goes_on c.args.end) c.args.group (λ _ usage. usage - c.args.pages) old m c.next.new.self now item c.requires.legal t goes within
    (ap (λ u. u - c.args.pages) here))

pub returns-clause-taken : goal.returns-clause-taken
returns-clause-taken c =
    let groups = c.args.tree.now in
    let old = c.args.usages.now.items in
    let all = walking_all ℕ 0 groups (goes_on c.args.end) c.args.group
    (λ _ usage. usage - c.args.pages) old c.loop-ancestor.ancestor-iterator c.loop-ancestor.usages.items c.requires.legal c.loop-ancestor.invariant c.in-None.ensures.steps.0 in
    let tested = walking_tested ℕ 0 groups (goes_on c.args.end) c.args.group
    (λ _ usage. usage - c.args.pages) old c.loop-ancestor.ancestor-iterator c.loop-ancestor.usages.items c.requires.legal c.loop-ancestor.invariant c.in-None.ensures.steps.0 in
    subst (λ o. UsagesPassed groups c.args.group o (λ pages. pages - c.args.pages) old c.loop-ancestor.usages.items)
    (sym (no_end groups c.args.group c.args.end c.requires.on_path tested)) all
