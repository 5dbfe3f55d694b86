use Rattle.std.proofs.Common.{Contains, ℕ, ◌<◌, List, length, get_or, ap, sym, ◌∙◌, subst}
use Rattle.group_tree.specs.declared.group.Group.{Group}
use Rattle.group_tree.proofs.GroupLemmas.{has_group-contains}
use Rattle.group_charge.specs.Charges.{Ledger, AreCharges}
use Rattle.mem_machine.specs.declared.frame_state.FrameState.{FrameState}
use Rattle.machine_texts.specs.Places.{FrameGroupExists}
use Rattle.machine_texts.proofs.Keepers.{frame_states_there}
use Rattle.machine_texts.proofs.show.write_show.Goals as goal

pub write_places-requires : goal.write_places-requires
write_places-requires g c =
    let legal = subst AreCharges c.charges-charges.ensures c.tree.ensures.legal in
    let there = frame_states_there g.N.BootName.table c.args.machine.now c.frame_states.ensures.consistent legal in
    let groups = c.tree.ensures.tree ∙ ap (λ (l : Ledger). l.groups) c.charges-charges.ensures in
    subst (λ (x : List Group). (k : ℕ) (d : FrameState) → k < length c.frame_states.result.now → FrameGroupExists x (get_or c.frame_states.result.now k d))
    (sym groups)
    (subst (λ (x : List FrameState). (k : ℕ) (d : FrameState) → k < length x → FrameGroupExists c.args.machine.now.ledger.groups (get_or x k d))
    (sym c.frame_states.ensures.frame_states) there)

pub write_usage-requires : goal.write_usage-requires
write_usage-requires g c =
    let here : Contains c.groups-group-items.result.now c.group-item.result = (c.loop-group.group-index, c.loop-group-test.true, sym c.group-item.is) in
    has_group-contains c.charges-charges.result.now.groups c.group-item.result
    (subst (λ rows. Contains rows c.group-item.result) (c.groups-group-items.ensures.groups ∙ c.tree-2.ensures.tree) here)
