use Rattle.std.proofs.Common.{◌≡◌, ◌<◌, true, length, get_or, set, sym, ap, ◌∙◌, subst, arith, refl}
use Rattle.group_tree.specs.{EventCounts, with_one_more}
use Rattle.group_charge.specs.Charges.{Account, empty_account}
use Rattle.group_charge.specs.Kept.{account_by, with_event}
use Rattle.group_charge.proofs.KeptLemmas.{read_at}
use Rattle.group_charge.proofs.WalkLemmas.{Walking, walking_on, walking_path, walking_start, walking_turn, walking_within}
use Rattle.group_charge.proofs.walks.count_event.Goals as goal

pub loop-ancestor-init : goal.loop-ancestor-init
loop-ancestor-init c =
    walking_start Account (empty_account 0) c.args.tree.now (λ _. true) c.args.group (with_event c.args.key) c.args.accounts.now.items c.into_iter-ancestor-iterator.result c.requires.there
    (c.into_iter-ancestor-iterator.ensures.into_iter_gives ∙ c.ancestors-ancestor-items.ensures.value)

pub index-requires : goal.index-requires
index-requires c =
    let groups = c.args.tree.now in
    let old = c.args.accounts.now.items in
    let now = c.loop-ancestor.accounts.items in
    let m = c.in-Some.ancestor in
    let f = with_event c.args.key in
    let t = walking_turn Account (empty_account 0) groups (λ _. true) c.args.group f old m c.loop-ancestor.ancestor-iterator c.next.new.self now
    c.requires.legal c.loop-ancestor.invariant c.in-Some.ensures.steps in
    let within : m < length now = walking_within Account (empty_account 0) groups (λ _. true) c.args.group f old m c.next.new.self now
    c.requires.legal c.requires.size t in
    omega (arith, within, c.number-at.ensures.value, c.loop-ancestor.accounts.ok.0)

pub index_mut-requires : goal.index_mut-requires
index_mut-requires c =
    let groups = c.args.tree.now in
    let old = c.args.accounts.now.items in
    let now = c.loop-ancestor.accounts.items in
    let m = c.in-Some.ancestor in
    let f = with_event c.args.key in
    let t = walking_turn Account (empty_account 0) groups (λ _. true) c.args.group f old m c.loop-ancestor.ancestor-iterator c.next.new.self now
    c.requires.legal c.loop-ancestor.invariant c.in-Some.ensures.steps in
    let within : m < length now = walking_within Account (empty_account 0) groups (λ _. true) c.args.group f old m c.next.new.self now
    c.requires.legal c.requires.size t in
    omega (arith, within, c.number-at.ensures.value, c.loop-ancestor.accounts.ok.0)

pub loop-ancestor-preserved : goal.loop-ancestor-preserved
loop-ancestor-preserved c =
    let groups = c.args.tree.now in
    let old = c.args.accounts.now.items in
    let now = c.loop-ancestor.accounts.items in
    let m = c.in-Some.ancestor in
    let f = with_event c.args.key in
    let t = walking_turn Account (empty_account 0) groups (λ _. true) c.args.group f old m c.loop-ancestor.ancestor-iterator c.next.new.self now
    c.requires.legal c.loop-ancestor.invariant c.in-Some.ensures.steps in
    let within : m < length now = walking_within Account (empty_account 0) groups (λ _. true) c.args.group f old m c.next.new.self now
    c.requires.legal c.requires.size t in
    let i = c.number-at.result in
    let inside : i < length now = omega (arith, within, c.number-at.ensures.value) in
    let read : (d : Account) → get_or now i d ≡ account_by old m = λ d. read_at now i m d (empty_account 0) inside c.number-at.ensures.value ∙ t.own in
    let was : Account = c.index_mut.result.now in
    let item : Account = record was { events = c.with_one_more.result } in
    let same : item ≡ f m (account_by old m) =
    ap (λ (e : EventCounts). record was { events = e }) (c.with_one_more.ensures ∙ ap (λ (a : Account). with_one_more c.args.key a.events) (c.index.ensures ∙ read _))
    ∙ ap (λ (a : Account). record a { events = with_one_more c.args.key (account_by old m).events }) (c.index_mut.ensures.value ∙ read _) in
    subst (λ k. Walking Account (empty_account 0) groups (λ _. true) c.args.group f old c.next.new.self (set now k item)) (sym c.number-at.ensures.value)
    (walking_on Account (empty_account 0) groups (λ _. true) c.args.group f old m c.next.new.self now item c.requires.legal t refl within same)

pub returns-clause-counted : goal.returns-clause-counted
returns-clause-counted c =
    walking_path Account (empty_account 0) c.args.tree.now
    (λ _. true) c.args.group (with_event c.args.key) c.args.accounts.now.items c.loop-ancestor.ancestor-iterator c.loop-ancestor.accounts.items c.requires.legal c.loop-ancestor.invariant c.in-None.ensures.steps.0
