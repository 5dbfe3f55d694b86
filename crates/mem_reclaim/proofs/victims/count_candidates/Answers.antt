use Rattle.std.proofs.Common.{◌≡◌, ◌+◌, ℕ, true, false, sym, ap, ◌∙◌, subst, arith, rules}
use Rattle.group_tree.specs.Groups.{room_of}
use Rattle.step_rules.specs.State.{one_if, sum_to}
use Rattle.mem_reclaim.specs.Victim.{is_candidate}
use Rattle.mem_reclaim.proofs.Choosing.{CountedTo, counted_none, counted_more}
use Rattle.mem_reclaim.proofs.victims.count_candidates.Goals as goal
use Rattle.mem_reclaim.proofs.victims.count_candidates.Goals.{then-is_candidate, else-is_candidate}

pub loop-number-init : goal.loop-number-init
loop-number-init g c = counted_none c.args.machine.now c.args.group

pub loop-number-preserved : goal.loop-number-preserved
loop-number-preserved g c =
    let turn : c.in-Some.turn ≡ c.loop-number.number = search rules in
    let told : c.is_candidate.result ≡ is_candidate c.args.machine.now c.args.group c.loop-number.number =
    c.is_candidate.ensures ∙ ap (is_candidate c.args.machine.now c.args.group) turn in
    elim c.if-is_candidate.branch [
      | then-is_candidate w ↦
          let count : c.loop-number.count + 1 ≡ c.if-is_candidate.count = search rules in
          subst (λ (x : ℕ). CountedTo c.args.machine.now c.args.group (c.loop-number.number + 1) x) count
          (counted_more c.args.machine.now c.args.group c.loop-number.number c.loop-number.count true c.loop-number.invariant (sym w.if-is_candidate.true ∙ told))
      | else-is_candidate w ↦
          let count : c.loop-number.count + 0 ≡ c.if-is_candidate.count = search rules in
          subst (λ (x : ℕ). CountedTo c.args.machine.now c.args.group (c.loop-number.number + 1) x) count
          (counted_more c.args.machine.now c.args.group c.loop-number.number c.loop-number.count false c.loop-number.invariant (sym w.if-is_candidate.false ∙ told))
    ]

pub returns : goal.returns
returns g c =
    let all : c.loop-number.number ≡ room_of c.args.machine.now.ledger.groups = omega (arith, c.loop-number.auto.number-end, c.room-number-end.ensures.groups) in
    c.loop-number.invariant.sum ∙ ap (λ (k : ℕ). sum_to k (λ j. one_if (is_candidate c.args.machine.now c.args.group j))) all
