use Rattle.std.proofs.Common.{◌<◌, length, set, sym, ap, ◌∙◌, subst, arith}
use Rattle.std.proofs.lemmas.List.{length-set}
use Rattle.group_tree.specs.Groups.{with_group}
use Rattle.group_tree.proofs.GroupLemmas.{can_make, length-full, room_of-with}
use Rattle.group_charge.specs.{SamePages, empty_account, with_new_group, ledger_of}
use Rattle.group_charge.proofs.ChargeLemmas.{AreCharges-new, same_ledger}
use Rattle.group_charge.proofs.KeptLemmas.{kept_new}
use Rattle.group_charge.proofs.ReaderLemmas.{new_pages}
use Rattle.group_charge.proofs.StoredLemmas.{kept_as, stored_new}
use Rattle.group_charge.proofs.charges.Charges.make.Goals as goal

pub index_mut-requires : goal.index_mut-requires
index_mut-requires c =
    let groups = c.self.inside.tree in
    let can = can_make groups c.args.path.now (sym c.in_ok-group.ensures.refused) in
    let most = length-full groups c.in_ok-group.group c.in_ok-group.ensures.least.least in
    omega (arith, can.room, most, c.self.invariant.size, c.number.ensures.value, c.self.inside.accounts.ok.0)

pub returns-clause-made : goal.returns-clause-made
returns-clause-made c =
    let groups = c.self.inside.tree in
    let old = c.self.inside.accounts.items in
    let settings = c.self.inside.settings in
    let at = c.number.result in
    let g = c.in_ok-group.group in
    let rows = with_group groups g c.args.path.now in
    let free = c.in_ok-group.ensures.least.free in
    let can = can_make groups c.args.path.now (sym c.in_ok-group.ensures.refused) in
    let within : g < length old = omega (arith, can.room, length-full groups g c.in_ok-group.ensures.least.least, c.self.invariant.size) in
    ap (λ r. ledger_of r (set old at c.new_account.result) c.set.new.self) c.in_ok-group.ensures.made
    ∙ ap (λ s. ledger_of rows (set old at c.new_account.result) s) c.set.ensures
    ∙ ap (λ n. ledger_of rows (set old n c.new_account.result) (set settings g c.none.result)) c.number.ensures.value
    ∙ ap (λ a. ledger_of rows (set old g a) (set settings g c.none.result)) c.new_account.ensures
    ∙ ap (λ s. ledger_of rows (set old g (empty_account g)) (set settings g s)) c.none.ensures
    ∙ same_ledger _ _ _ _ (kept_new groups old g c.args.path.now free within)
    ∙ ap (λ l. with_new_group l g c.args.path.now) c.self.view_is

pub invariant_of-self-2 : goal.invariant_of-self-2
invariant_of-self-2 c =
    let l = ledger_of c.self.inside.tree c.self.inside.accounts.items c.self.inside.settings in
    let g = c.in_ok-group.group in
    let can = can_make c.self.inside.tree c.args.path.now (sym c.in_ok-group.ensures.refused) in
    let size = length-set c.self.inside.accounts.items c.number.result c.new_account.result ∙ c.self.invariant.size
    ∙ sym (room_of-with c.self.inside.tree g c.args.path.now) in
    kept_as _ _ _ _ (with_new_group l g c.args.path.now) (returns-clause-made c ∙ ap (λ k. with_new_group k g c.args.path.now) (sym c.self.view_is))
    (AreCharges-new l g c.args.path.now c.self.invariant.charges can c.in_ok-group.ensures.least) size
    (stored_new l c.self.inside.usages.items g c.args.path.now c.self.invariant.charges can c.in_ok-group.ensures.least.free c.self.invariant.usages_are)

pub returns-clause-pages : goal.returns-clause-pages
returns-clause-pages c = subst (SamePages c.args.self.now) (sym (returns-clause-made c)) (new_pages c.args.self.now c.in_ok-group.group c.args.path.now)
