use Rattle.std.proofs.Common.{◌≡◌, ◌<◌, ℕ, true, length, get_or, set, max, sym, ap, ◌∙◌, subst, arith, refl}
use Rattle.group_charge.specs.Charges.{Account, empty_account}
use Rattle.group_charge.specs.Kept.{account_by, usage_by, with_usage_peak}
use Rattle.group_charge.proofs.KeptLemmas.{read_at}
use Rattle.group_charge.proofs.WalkLemmas.{Walking, walking_on, walking_path, walking_start, walking_turn, walking_within}
use Rattle.group_charge.proofs.walks.raise_peaks.Goals as goal

pub loop-ancestor-init : goal.loop-ancestor-init
loop-ancestor-init c =
    walking_start Account (empty_account 0) c.args.tree.now (λ _. true) c.args.group
    (with_usage_peak c.args.usages.now.items) c.args.accounts.now.items c.into_iter-ancestor-iterator.result c.requires.there
    (c.into_iter-ancestor-iterator.ensures.into_iter_gives ∙ c.ancestors-ancestor-items.ensures.value)

pub index-usage-requires : goal.index-usage-requires
index-usage-requires c =
    let groups = c.args.tree.now in
    let old = c.args.accounts.now.items in
    let now = c.loop-ancestor.accounts.items in
    let m = c.in-Some.ancestor in
    let f = with_usage_peak c.args.usages.now.items in
    let t = walking_turn Account (empty_account 0) groups (λ _. true) c.args.group f old m c.loop-ancestor.ancestor-iterator c.next.new.self now
    c.requires.legal c.loop-ancestor.invariant c.in-Some.ensures.steps in
    let within : m < length now = walking_within Account (empty_account 0) groups (λ _. true) c.args.group f old m c.next.new.self now
    c.requires.legal c.requires.size t in
    omega (arith, within, t.size, c.requires.size, c.requires.usages, c.number-number.ensures.value, c.args.usages.now.ok.0)

pub index-requires : goal.index-requires
index-requires c =
    let groups = c.args.tree.now in
    let old = c.args.accounts.now.items in
    let now = c.loop-ancestor.accounts.items in
    let m = c.in-Some.ancestor in
    let f = with_usage_peak c.args.usages.now.items in
    let t = walking_turn Account (empty_account 0) groups (λ _. true) c.args.group f old m c.loop-ancestor.ancestor-iterator c.next.new.self now
    c.requires.legal c.loop-ancestor.invariant c.in-Some.ensures.steps in
    let within : m < length now = walking_within Account (empty_account 0) groups (λ _. true) c.args.group f old m c.next.new.self now
    c.requires.legal c.requires.size t in
    omega (arith, within, c.number-number.ensures.value, c.loop-ancestor.accounts.ok.0)

pub index_mut-requires : goal.index_mut-requires
index_mut-requires c =
    let groups = c.args.tree.now in
    let old = c.args.accounts.now.items in
    let now = c.loop-ancestor.accounts.items in
    let m = c.in-Some.ancestor in
    let f = with_usage_peak c.args.usages.now.items in
    let t = walking_turn Account (empty_account 0) groups (λ _. true) c.args.group f old m c.loop-ancestor.ancestor-iterator c.next.new.self now
    c.requires.legal c.loop-ancestor.invariant c.in-Some.ensures.steps in
    let within : m < length now = walking_within Account (empty_account 0) groups (λ _. true) c.args.group f old m c.next.new.self now
    c.requires.legal c.requires.size t in
    omega (arith, within, c.number-number.ensures.value, c.loop-ancestor.accounts.ok.0)

pub loop-ancestor-preserved : goal.loop-ancestor-preserved
loop-ancestor-preserved c =
    let groups = c.args.tree.now in
    let old = c.args.accounts.now.items in
    let now = c.loop-ancestor.accounts.items in
    let m = c.in-Some.ancestor in
    let f = with_usage_peak c.args.usages.now.items in
    let t = walking_turn Account (empty_account 0) groups (λ _. true) c.args.group f old m c.loop-ancestor.ancestor-iterator c.next.new.self now
    c.requires.legal c.loop-ancestor.invariant c.in-Some.ensures.steps in
    let within : m < length now = walking_within Account (empty_account 0) groups (λ _. true) c.args.group f old m c.next.new.self now
    c.requires.legal c.requires.size t in
    let i = c.number-number.result in
    let inside : i < length now = omega (arith, within, c.number-number.ensures.value) in
    let usages = c.args.usages.now.items in
    let in_usages : i < length usages = omega (arith, inside, t.size, c.requires.size, c.requires.usages) in
    let usage : c.index-usage.result.now ≡ usage_by usages m = c.index-usage.ensures
    ∙ read_at usages i m c.index-usage.result.now 0 in_usages c.number-number.ensures.value in
    let read : (d : Account) → get_or now i d ≡ account_by old m = λ d. read_at now i m d (empty_account 0) inside c.number-number.ensures.value ∙ t.own in
    let was : Account = c.index_mut.result.now in
    let item : Account = record was { peak = c.max.result } in
    let same : item ≡ f m (account_by old m) =
    ap (λ (p : ℕ). record was { peak = p }) (c.max.ensures ∙ ap (λ (a : Account). max a.peak c.index-usage.result.now) (c.index.ensures ∙ read _)
    ∙ ap (max (account_by old m).peak) usage)
    ∙ ap (λ (a : Account). record a { peak = max (account_by old m).peak (usage_by usages m) }) (c.index_mut.ensures.value ∙ read _) in
    subst (λ k. Walking Account (empty_account 0) groups (λ _. true) c.args.group f old c.next.new.self (set now k item)) (sym c.number-number.ensures.value)
    (walking_on Account (empty_account 0) groups (λ _. true) c.args.group f old m c.next.new.self now item c.requires.legal t refl within same)

pub returns-clause-raised : goal.returns-clause-raised
returns-clause-raised c =
    walking_path Account (empty_account 0) c.args.tree.now (λ _. true) c.args.group
    (with_usage_peak c.args.usages.now.items) c.args.accounts.now.items c.loop-ancestor.ancestor-iterator c.loop-ancestor.accounts.items c.requires.legal c.loop-ancestor.invariant c.in-None.ensures.steps.0
