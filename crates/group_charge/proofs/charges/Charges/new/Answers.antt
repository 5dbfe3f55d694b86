use Rattle.std.proofs.Common.{◌≡◌, ◌+◌, ◌∷◌, [], arith, length, replicate, sym, ap, ◌∙◌, subst}
use Rattle.std.proofs.lemmas.List.{get_or-replicate, length-replicate}
use Rattle.group_tree.specs.{initial_groups}
use Rattle.group_tree.proofs.GroupLemmas.{room_of-initial}
use Rattle.group_charge.specs.Charges.{empty_account, initial_ledger, no_settings}
use Rattle.group_charge.specs.Kept.{AreUsages, ledger_of}
use Rattle.group_charge.proofs.ChargeLemmas.{AreCharges-initial, same_ledger}
use Rattle.group_charge.proofs.StoredLemmas.{kept_as, stored_initial}
use Rattle.group_charge.proofs.charges.Charges.new.Goals as goal

pub invariant_of-result : goal.invariant_of-result
invariant_of-result c =
    let below = c.args.descendants in
    let first = empty_account 0 in
    let whole : ledger_of c.in_ok-tree.tree c.in_ok-accounts.accounts.items c.in_ok-settings.settings ≡ initial_ledger below =
    ap (λ rows. ledger_of rows c.in_ok-accounts.accounts.items c.in_ok-settings.settings) c.in_ok-tree.ensures
    ∙ ap (λ a. ledger_of (initial_groups below) a c.in_ok-settings.settings) (c.in_ok-accounts.ensures ∙ ap (λ n. replicate n first) (omega arith))
    ∙ ap (ledger_of (initial_groups below) (replicate (1 + below) first)) (c.in_ok-settings.ensures ∙ ap (λ n. replicate n no_settings) (omega arith))
    ∙ same_ledger _ _ _ _ (ap (λ a. a ∷ []) (get_or-replicate (1 + below) 0 first first (omega arith))) in
    kept_as _ _ _ _ (initial_ledger below) whole (AreCharges-initial below c.requires)
    (ap length c.in_ok-accounts.ensures ∙ length-replicate _ first ∙ omega (arith, room_of-initial below))
    (subst (AreUsages (initial_ledger below)) (sym (c.in_ok-usages.ensures ∙ ap (λ n. replicate n 0) (omega arith))) (stored_initial below))
