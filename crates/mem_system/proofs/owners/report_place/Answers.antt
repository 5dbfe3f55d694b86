use Rattle.std.proofs.Common.{◌≡◌, ℕ, ◌<◌, rules, sym, subst}
use Rattle.group_charge.specs.Charges.{AreCharges}
use Rattle.mem_machine.specs.declared.frame_state.Place.TheVariants as place
use Rattle.mem_machine.specs.FrameStates.{frame_state_at, place_of}
use Rattle.mem_machine.proofs.Keepers.{keeper_there}
use Rattle.mem_system.proofs.owners.report_place.Goals as goal

pub returns-in-Charged-clause-place : goal.returns-in-Charged-clause-place
returns-in-Charged-clause-place g c =
    let same : c.unwrap-frame.result ≡ c.args.frame = search rules in
    subst (λ (f : ℕ). place_of (frame_state_at c.args.machine.now.frame_states f) ≡ place.Charged c.in-Charged.group) same (sym c.in-Charged.ensures.place)

pub returns-in-Charged-clause-groups : goal.returns-in-Charged-clause-groups
returns-in-Charged-clause-groups g c =
    let inside : c.unwrap-frame.result < g.N.BootName.table.frames = search rules in
    let legal = subst AreCharges c.charges.ensures c.prove_charges.ensures.legal in
    keeper_there g.N.BootName.table c.args.machine.now c.unwrap-frame.result c.in-Charged.group c.in-Charged.ensures.consistent legal
    inside (sym c.in-Charged.ensures.place)

pub returns-in-Lent-clause-place : goal.returns-in-Lent-clause-place
returns-in-Lent-clause-place g c = search rules
