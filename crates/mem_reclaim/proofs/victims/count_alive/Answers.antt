use Rattle.std.proofs.Common.{◌≡◌, ◌+◌, ℕ, sym, ap, ◌∙◌, subst, arith, rules}
use Rattle.mem_reclaim.specs.Victim.{may_be_killed}
use Rattle.mem_reclaim.proofs.Alive.{AliveTo, alive_all, alive_counted, alive_none, alive_skipped}
use Rattle.mem_reclaim.proofs.victims.count_alive.Goals as goal
use Rattle.mem_reclaim.proofs.victims.count_alive.Goals.{then-may_be_killed, else-may_be_killed}

pub loop-number-init : goal.loop-number-init
loop-number-init g c = alive_none c.args.machine.now c.args.group

pub loop-number-preserved : goal.loop-number-preserved
loop-number-preserved g c =
    let turn : c.in-Some.turn ≡ c.loop-number.number = search rules in
    let told : c.may_be_killed.result ≡ may_be_killed c.args.machine.now c.args.group c.loop-number.number =
    c.may_be_killed.ensures ∙ ap (may_be_killed c.args.machine.now c.args.group) turn in
    elim c.if-may_be_killed.branch [
      | then-may_be_killed w ↦
          let count : c.loop-number.count + 1 ≡ c.if-may_be_killed.count = search rules in
          subst (λ (x : ℕ). AliveTo c.args.machine.now c.args.group (c.loop-number.number + 1) x) count
          (alive_counted c.args.machine.now c.args.group c.loop-number.number c.loop-number.count c.loop-number.invariant (sym told ∙ w.if-may_be_killed.true))
      | else-may_be_killed w ↦
          let count : c.loop-number.count ≡ c.if-may_be_killed.count = search rules in
          subst (λ (x : ℕ). AliveTo c.args.machine.now c.args.group (c.loop-number.number + 1) x) count
          (alive_skipped c.args.machine.now c.args.group c.loop-number.number c.loop-number.count c.loop-number.invariant (sym told ∙ w.if-may_be_killed.false))
    ]

pub returns : goal.returns
returns g c = alive_all c.args.machine.now c.args.group c.loop-number.number c.loop-number.count c.loop-number.invariant
    (omega (arith, c.loop-number.auto.number-end, c.room-number-end.ensures.groups))
