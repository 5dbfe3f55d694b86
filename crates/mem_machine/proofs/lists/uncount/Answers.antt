use Rattle.std.proofs.Common.{◌≡◌, ◌^◌, ◌∙◌, ◌-◌, ℕ, Bool, false, get_or, ap, sym, arith, rules}
use Rattle.std.specs.Prelude.{slice_set}
use Rattle.std.proofs.lemmas.Nat.{pow_pos}
use Rattle.mem_machine.specs.Clean.{clean_left}
use Rattle.mem_machine.proofs.Entries.{entry_read, entry_set, has_entry}
use Rattle.mem_machine.proofs.lists.uncount.Goals as goal

pub index_mut-requires : goal.index_mut-requires
index_mut-requires c =
    let clean : c.args.is_dirty ≡ false = search rules in
    let counted = c.requires clean in
    let some = pow_pos c.args.order in
    let inside = has_entry c.args.clean.now.items c.args.group (omega (arith, counted, some)) in
    omega (arith, inside, c.number.ensures.value)

pub overflow_sub-index_mut : goal.overflow_sub-index_mut
overflow_sub-index_mut c =
    let clean : c.args.is_dirty ≡ false = search rules in
    let counted = c.requires clean in
    let some = pow_pos c.args.order in
    let inside = has_entry c.args.clean.now.items c.args.group (omega (arith, counted, some)) in
    let read = entry_read _ _ _ _ c.number.ensures.value inside c.index_mut.ensures.value in
    let pages : c.from.result ≡ 2 ^ c.args.order = search rules in
    omega (arith, read, counted, pages)

pub returns : goal.returns
returns c =
    let clean : c.args.is_dirty ≡ false = search rules in
    let counted = c.requires clean in
    let some = pow_pos c.args.order in
    let inside = has_entry c.args.clean.now.items c.args.group (omega (arith, counted, some)) in
    let pages : c.from.result ≡ 2 ^ c.args.order = search rules in
    entry_set (λ (count : ℕ). count - c.from.result) _ _ _ _ c.number.ensures.value inside c.index_mut.ensures.value
    ∙ ap (λ (n : ℕ). slice_set c.args.clean.now.items c.args.group (get_or c.args.clean.now.items c.args.group 0 - n)) pages
    ∙ ap (λ (d : Bool). clean_left d c.args.group c.args.order c.args.clean.now.items) (sym clean)
