use Rattle.std.proofs.Common.{◌≡◌, ◌+◌, ℕ, sym, ap, ◌∙◌, subst, arith, rules}
use Rattle.mem_machine.specs.Machines.{KnownMachine}
use Rattle.mem_reclaim.specs.Victim.{may_be_killed}
use Rattle.mem_reclaim.proofs.Choosing.{chosen_there}
use Rattle.mem_reclaim.proofs.KillSets.{KilledSoFar, OneKilled, below_all, below_first, below_more, below_same}
use Rattle.mem_reclaim.proofs.Grown.{held_after}
use Rattle.mem_reclaim.proofs.kills.kill_below.Goals as goal
use Rattle.mem_reclaim.proofs.kills.kill_below.Goals.{then-may_be_killed, else-may_be_killed}

pub loop-number-init : goal.loop-number-init
loop-number-init g c = below_first g.N.BootName.table c.args.limited c.args.killed_root c.args.machine.now

pub kill_noted-requires-clause-there : goal.kill_noted-requires-clause-there
kill_noted-requires-clause-there g c =
    chosen_there c.loop-number.machine c.args.killed_root c.in-Some.turn (sym c.may_be_killed.ensures ∙ c.if-may_be_killed.true)

pub kill_noted-requires-clause-held : goal.kill_noted-requires-clause-held
kill_noted-requires-clause-held g c =
    let kills = c.loop-number.invariant.so.kills in
    held_after g.N.BootName.table c.args.machine.now kills.steps c.loop-number.machine kills.runs c.requires.held

pub loop-number-preserved : goal.loop-number-preserved
loop-number-preserved g c =
    let t = g.N.BootName.table in
    let turn : c.in-Some.turn ≡ c.loop-number.number = search rules in
    let told : c.may_be_killed.result ≡ may_be_killed c.loop-number.machine c.args.killed_root c.loop-number.number =
    c.may_be_killed.ensures ∙ ap (may_be_killed c.loop-number.machine c.args.killed_root) turn in
    elim c.if-may_be_killed.branch [
      | then-may_be_killed w ↦
          let e = w.kill_noted.ensures in
          let one : OneKilled t c.args.limited c.in-Some.turn c.loop-number.machine w.kill_noted.new.machine =
          record { kills = e.kills; marked = e.marked; drained = e.drained; stocks = e.stocks; none_kept = e.none_kept; keeps = e.keeps } in
          let now : w.kill_noted.new.machine ≡ c.if-may_be_killed.machine = search rules in
          subst (λ (x : KnownMachine). KilledSoFar t c.args.limited c.args.killed_root c.args.machine.now (c.loop-number.number + 1) x) now
          (below_more t c.args.limited c.args.killed_root c.args.machine.now c.loop-number.number c.loop-number.machine c.loop-number.invariant
          (sym told ∙ w.if-may_be_killed.true) w.kill_noted.new.machine
          (subst (λ (k : ℕ). OneKilled t c.args.limited k c.loop-number.machine w.kill_noted.new.machine) turn one))
      | else-may_be_killed w ↦
          let now : c.loop-number.machine ≡ c.if-may_be_killed.machine = search rules in
          subst (λ (x : KnownMachine). KilledSoFar t c.args.limited c.args.killed_root c.args.machine.now (c.loop-number.number + 1) x) now
          (below_same t c.args.limited c.args.killed_root c.args.machine.now c.loop-number.number c.loop-number.machine c.loop-number.invariant
          (sym told ∙ w.if-may_be_killed.false))
    ]

pub returns : goal.returns
returns g c =
    let so = below_all g.N.BootName.table c.args.limited c.args.killed_root c.args.machine.now c.loop-number.number c.loop-number.machine
    c.loop-number.invariant
    (omega (arith, c.loop-number.auto.number-end, c.room-number-end.ensures.groups)) in
    record { kills = so.kills; marked = so.marked; drained = so.drained; stocks = so.stocks; none_kept = so.none_kept; keeps = so.keeps }
