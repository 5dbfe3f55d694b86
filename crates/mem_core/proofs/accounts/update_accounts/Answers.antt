-- Each group is passed once, and no other has an account that changes.
use Rattle.std.proofs.Common.{◌≡◌, ℕ, ◌<◌, ◌^◌, List, length, take, get_or, sym, ◌∙◌, ap, subst, arith}
use Rattle.std.proofs.lemmas.List.{take_all}
use Rattle.std.proofs.lemmas.List.Elements.{All-set}
use Rattle.group_tree.specs.declared.group.Group.{Group}
use Rattle.group_tree.specs.Groups.{AreGroups}
use Rattle.mem_core.specs.Rows.{state_in}
use Rattle.mem_core.specs.Accounts.{Account, account_after}
use Rattle.mem_core.proofs.AccountLemmas.{AreChanged, AreChanged-none, AreChanged-step, AreChanged-there}
use Rattle.mem_core.proofs.accounts.update_accounts.Goals as goal

pub loop-row-init : goal.loop-row-init
loop-row-init c = record {
  length = c.requires.length;
  few = c.requires.small;
  changed = AreChanged-none c.groups-row-items.result.now
      (account_after (state_in c.args.rows.now) c.args.action.now c.args.answer.now) c.args.accounts.now.items;
}

pub account_after-requires-clause-small : goal.account_after-requires-clause-small
account_after-requires-clause-small c =
    let n = c.number-place.result in
    let inside : n < length c.loop-row.accounts.items = omega (arith, c.loop-row.accounts.ok.0) in
    subst (λ (a : Account). a.peak < 2 ^ 108) (sym c.index.ensures) (c.loop-row.invariant.few n c.index.result.now inside)

pub loop-row-preserved : goal.loop-row-preserved
loop-row-preserved c =
    let rows = c.groups-row-items.result.now in
    let accounts = c.loop-row.accounts.items in
    let f : ℕ → Account → Account = account_after (state_in c.args.rows.now) c.args.action.now c.args.answer.now in
    let n = c.number-place.result in
    let facts : AreGroups rows = subst AreGroups (sym c.groups-row-items.ensures.groups) c.groups-row-items.ensures.legal in
    let inside : n < length accounts = omega (arith, c.loop-row.accounts.ok.0) in
    let number : n ≡ (get_or rows c.loop-row.row-index c.row-item.result).number = c.number-place.ensures.value ∙ ap (λ (g : Group). g.number) c.row-item.is in
    let value : c.account_after.result ≡ f n (get_or accounts n c.index.result.now) =
    c.account_after.ensures.account ∙ ap (λ (k : ℕ). f k c.index.result.now) (sym c.number-place.ensures.value) ∙ ap (f n) c.index.ensures in
    let few : c.account_after.result.peak < 2 ^ 108 = c.account_after.ensures.small in
    record {
      length = c.loop-row.invariant.length;
      few = All-set (λ (a : Account). a.peak < 2 ^ 108) accounts n c.account_after.result few c.loop-row.invariant.few;
      changed = AreChanged-step rows f c.args.accounts.now.items accounts c.loop-row.row-index n c.row-item.result
          c.index.result.now c.account_after.result facts.numbers_distinct c.loop-row-test.true inside number value c.loop-row.invariant.changed;
    }

pub returns-clause-follow : goal.returns-clause-follow
returns-clause-follow c =
    let rows = c.groups-row-items.result.now in
    let f : ℕ → Account → Account = account_after (state_in c.args.rows.now) c.args.action.now c.args.answer.now in
    let all : take c.loop-row.row-index rows ≡ c.args.rows.now.tree = take_all c.loop-row.row-index rows c.loop-row-test.false
    ∙ c.groups-row-items.ensures.groups in
    AreChanged-there c.args.rows.now.tree f c.args.accounts.now.items c.loop-row.accounts.items
    (subst (λ (groups : List Group). AreChanged groups f c.args.accounts.now.items c.loop-row.accounts.items) all c.loop-row.invariant.changed)
