use Rattle.std.proofs.Common.{◌≡◌, ◌∙◌, ◌+◌, ◌^◌, ℕ, ap, get_or, rules}
use Rattle.std.specs.Prelude.{slice_set}
use Rattle.mem_machine.proofs.Entries.{entry_set}
use Rattle.mem_machine.proofs.Joins.{join_all}
use Rattle.mem_machine.proofs.lists.join_list.Goals as goal

pub returns : goal.returns
returns c =
    let a = c.add.ensures in
    let all = join_all c.args.links.now c.args.lists.now.items c.args.group c.args.head _ c.number-owner.ensures.value c.requires.list c.requires.lists _ _ c.index.ensures _ _
    (record { stands = a.linked; owner = a.owner; inactive = a.inactive; active = a.active; changes = a.others; moves = a.moves; joined = a.joined })
    c.others_stay_linked.ensures c.one_of_all_changes.ensures in
    let pages : c.from.result ≡ 2 ^ c.args.order = search rules in
    let clean = entry_set (λ (count : ℕ). count + c.from.result) _ _ _ _ c.number-owner.ensures.value c.requires.count c.index_mut-2.ensures.value
    ∙ ap (λ (n : ℕ). slice_set c.args.clean.now.items c.args.group (get_or c.args.clean.now.items c.args.group 0 + n)) pages in
    record { joins = all.joins; lists = all.stand; groups = all.groups; frames = search rules; used = a.used; dirt = a.dirt; clean = clean }
