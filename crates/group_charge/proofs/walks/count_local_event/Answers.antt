use Rattle.std.proofs.Common.{◌≡◌, ◌<◌, length, get_or, set, ap, ◌∙◌, arith}
use Rattle.group_tree.specs.Events.{EventCounts, with_one_more}
use Rattle.group_charge.specs.Charges.{Account, empty_account}
use Rattle.group_charge.specs.Kept.{account_by}
use Rattle.group_charge.proofs.KeptLemmas.{read_at}
use Rattle.group_charge.proofs.walks.count_local_event.Goals as goal

pub returns : goal.returns
returns c =
    let now = c.args.accounts.now.items in
    let i = c.number-number.result in
    let g = c.args.group in
    let own : Account = account_by now g in
    let within : i < length now = omega (arith, c.requires, c.number-number.ensures.value) in
    let read : (d : Account) → get_or now i d ≡ own = λ d. read_at now i g d (empty_account 0) within c.number-number.ensures.value in
    let was : Account = c.index_mut.result.now in
    record {
      counted = ap (λ (e : EventCounts). set now i (record was { events_local = e }))
          (c.with_one_more.ensures ∙ ap (λ (a : Account). with_one_more c.args.key a.events_local) (c.index.ensures ∙ read _))
          ∙ ap (λ (a : Account). set now i (record a { events_local = with_one_more c.args.key own.events_local })) (c.index_mut.ensures.value ∙ read _)
          ∙ ap (λ j. set now j (record own { events_local = with_one_more c.args.key own.events_local })) c.number-number.ensures.value;
    }
