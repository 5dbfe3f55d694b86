use Rattle.std.proofs.Common.{◌≡◌, ◌+◌, ℕ, rules, arith, refl, ap, ◌∙◌}
use Rattle.group_tree.specs.Groups.{room_of}
use Rattle.step_rules.specs.State.{sum_to}
use Rattle.mem_machine.specs.Machines.{frames_charged}
use Rattle.mem_machine.proofs.ChargedFrames.{are_counted}
use Rattle.mem_machine.proofs.machine.Machine.count_charged.Goals as goal

pub loop-number-init : goal.loop-number-init
unfolding sum_to
loop-number-init g c = refl

pub overflow_add-charged : goal.overflow_add-charged
overflow_add-charged g c =
    let few = c.prove_sizes.ensures.frames in
    let counted = are_counted g.N.BootName.table _ _ c.self.view_is c.self.invariant.consistent c.prove_charges.ensures.legal in
    let number : c.unwrap.result ≡ c.loop-number.number = search rules in
    let next = counted.next c.loop-number.number in
    let same = c.frames_of-charged.ensures ∙ ap (frames_charged c.args.self.now.frame_states) number in
    let below = c.loop-number-test.true in
    let within = counted.within (c.loop-number.number + 1) (omega arith) in
    let so_far = c.loop-number.invariant in
    omega (arith, few, next, same, within, so_far)

pub loop-number-preserved : goal.loop-number-preserved
loop-number-preserved g c =
    let counted = are_counted g.N.BootName.table _ _ c.self.view_is c.self.invariant.consistent c.prove_charges.ensures.legal in
    let number : c.unwrap.result ≡ c.loop-number.number = search rules in
    let next = counted.next c.loop-number.number in
    let same = c.frames_of-charged.ensures ∙ ap (frames_charged c.args.self.now.frame_states) number in
    let so_far = c.loop-number.invariant in
    omega (arith, next, same, so_far)

pub overflow_cast-result : goal.overflow_cast-result
overflow_cast-result g c =
    let few = c.prove_sizes.ensures.frames in
    let counted = are_counted g.N.BootName.table _ _ c.self.view_is c.self.invariant.consistent c.prove_charges.ensures.legal in
    let end : c.loop-number.number ≡ room_of c.args.self.now.ledger.groups = omega (arith, c.loop-number.auto.number-end, c.loop-number-test.false, c.room-number-end.ensures.groups) in
    let within = counted.within c.loop-number.number (omega arith) in
    let so_far = c.loop-number.invariant in
    omega (arith, few, within, so_far)

pub returns-clause-charged : goal.returns-clause-charged
returns-clause-charged g c =
    let counted = are_counted g.N.BootName.table _ _ c.self.view_is c.self.invariant.consistent c.prove_charges.ensures.legal in
    let end : c.loop-number.number ≡ room_of c.args.self.now.ledger.groups = omega (arith, c.loop-number.auto.number-end, c.loop-number-test.false, c.room-number-end.ensures.groups) in
    c.loop-number.invariant ∙ ap (λ (k : ℕ). sum_to k (frames_charged c.args.self.now.frame_states)) end ∙ counted.all

pub returns-clause-at_most : goal.returns-clause-at_most
returns-clause-at_most g c =
    let counted = are_counted g.N.BootName.table _ _ c.self.view_is c.self.invariant.consistent c.prove_charges.ensures.legal in
    let end : c.loop-number.number ≡ room_of c.args.self.now.ledger.groups = omega (arith, c.loop-number.auto.number-end, c.loop-number-test.false, c.room-number-end.ensures.groups) in
    let within = counted.within c.loop-number.number (omega arith) in
    let so_far = c.loop-number.invariant in
    omega (arith, within, so_far)
