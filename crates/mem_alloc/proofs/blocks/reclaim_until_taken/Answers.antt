use Rattle.std.proofs.Common.{◌≡◌, ℕ, ◌+◌, ◌^◌, ◌<◌, refl, ◌∙◌, subst}
use Rattle.mem_machine.specs.{taken_steps, unplaced_steps, visit_state, transition}
use Rattle.mem_reclaim.specs.{FreesBySteps, ReclaimsRound, MissedAll}
use Rattle.mem_alloc.specs.Blocks.{FindsNoBlock, TakesFreeBlock}
use Rattle.mem_alloc.proofs.Rounding.{rounds_none, rounds_done, rounds_succeed, rounds_end, rounds_more}
use Rattle.mem_alloc.proofs.Taking.{is_none, by_none, none_spares}
use Rattle.mem_alloc.proofs.blocks.reclaim_until_taken.Goals as goal

pub loop-round-init : goal.loop-round-init
loop-round-init g c =
    rounds_none g.N.BootName.table (2 ^ c.args.order) (FindsNoBlock c.args.group c.args.order) (TakesFreeBlock c.args.group c.args.order)
    c.args.machine.now c.args.cpu.now

pub reclaim_anywhere-freed-requires : goal.reclaim_anywhere-freed-requires
reclaim_anywhere-freed-requires g c =
    record { held = (c.loop-round.invariant.visit c.requires.visit).held }

pub take_block-requires-clause-visit : goal.take_block-requires-clause-visit
take_block-requires-clause-visit g c =
    c.reclaim_anywhere-freed.ensures.keeps.visit c.loop-round.cpu (c.loop-round.invariant.visit c.requires.visit)

pub returns-in-Ok-clause-takes : goal.returns-in-Ok-clause-takes
returns-in-Ok-clause-takes g c =
    let t = g.N.BootName.table in
    let freed = c.reclaim_anywhere-freed.result in
    let x = c.reclaim_anywhere-freed.new.machine in
    let wants : c.from.result ≡ 2 ^ c.args.order = c.from.ensures ∙ c.frames-pages.ensures.frames in
    let reclaims = subst (λ (w : ℕ). FreesBySteps t freed c.loop-round.machine x (ReclaimsRound 0 (c.loop-round.round + 1) w)) wants
    c.reclaim_anywhere-freed.ensures.reclaims in
    let missed = subst (λ (w : ℕ). freed < w → MissedAll 0 c.loop-round.machine x) wants c.reclaim_anywhere-freed.ensures.missed in
    rounds_succeed t (2 ^ c.args.order) (FindsNoBlock c.args.group c.args.order) (TakesFreeBlock c.args.group c.args.order) c.args.machine.now
    c.args.cpu.now c.loop-round.round c.loop-round.machine c.loop-round.cpu c.loop-round.invariant c.loop-round-test.true freed x reclaims
    missed c.reclaim_anywhere-freed.ensures.keeps c.take_block.new.self c.take_block.new.cpu (taken_steps c.args.group c.args.order c.in-Ok.head)
    c.in-Ok.ensures.steps c.in-Ok.head (record { takes = c.in-Ok.ensures.takes; cpu = c.in-Ok.ensures.cpu; steps_are = refl })

pub returns-in-Err-NoBlock-clause-takes : goal.returns-in-Err-NoBlock-clause-takes
returns-in-Err-NoBlock-clause-takes g c =
    let t = g.N.BootName.table in
    let freed = c.reclaim_anywhere-freed.result in
    let x = c.reclaim_anywhere-freed.new.machine in
    let wants : c.from.result ≡ 2 ^ c.args.order = c.from.ensures ∙ c.frames-pages.ensures.frames in
    let reclaims = subst (λ (w : ℕ). FreesBySteps t freed c.loop-round.machine x (ReclaimsRound 0 (c.loop-round.round + 1) w)) wants
    c.reclaim_anywhere-freed.ensures.reclaims in
    let missed = subst (λ (w : ℕ). freed < w → MissedAll 0 c.loop-round.machine x) wants c.reclaim_anywhere-freed.ensures.missed in
    let none = is_none _ _ c.args.group c.args.order c.in-Err-NoBlock.field-0 c.in-Err-NoBlock.field-0-is c.in-Err-NoBlock.ensures.refuses in
    let vain = by_none c.args.group c.args.order _ _ c.in-Err-NoBlock.field-0 c.in-Err-NoBlock.field-0-is c.in-Err-NoBlock.ensures.steps in
    rounds_end t (2 ^ c.args.order) (FindsNoBlock c.args.group c.args.order) (TakesFreeBlock c.args.group c.args.order) c.args.machine.now
    c.args.cpu.now c.loop-round.round c.loop-round.machine c.loop-round.cpu c.loop-round.invariant c.loop-round-test.true freed x reclaims
    missed c.reclaim_anywhere-freed.ensures.keeps c.take_block.new.self c.take_block.new.cpu (unplaced_steps c.args.group c.args.order) vain
    (record { none = none; cpu = c.in-Err-NoBlock.ensures.cpu; steps_are = refl }) c.if-freed-eq0.true

pub loop-round-preserved : goal.loop-round-preserved
loop-round-preserved g c =
    let t = g.N.BootName.table in
    let freed = c.reclaim_anywhere-freed.result in
    let x = c.reclaim_anywhere-freed.new.machine in
    let wants : c.from.result ≡ 2 ^ c.args.order = c.from.ensures ∙ c.frames-pages.ensures.frames in
    let reclaims = subst (λ (w : ℕ). FreesBySteps t freed c.loop-round.machine x (ReclaimsRound 0 (c.loop-round.round + 1) w)) wants
    c.reclaim_anywhere-freed.ensures.reclaims in
    let missed = subst (λ (w : ℕ). freed < w → MissedAll 0 c.loop-round.machine x) wants c.reclaim_anywhere-freed.ensures.missed in
    let none = is_none _ _ c.args.group c.args.order c.in-Err-NoBlock.field-0 c.in-Err-NoBlock.field-0-is c.in-Err-NoBlock.ensures.refuses in
    let vain = by_none c.args.group c.args.order _ _ c.in-Err-NoBlock.field-0 c.in-Err-NoBlock.field-0-is c.in-Err-NoBlock.ensures.steps in
    let does : FindsNoBlock c.args.group c.args.order (transition t (visit_state x c.loop-round.cpu) (unplaced_steps c.args.group c.args.order)
    (visit_state c.take_block.new.self c.take_block.new.cpu)) = record { none = none; cpu = c.in-Err-NoBlock.ensures.cpu; steps_are = refl } in
    rounds_more t (2 ^ c.args.order) (FindsNoBlock c.args.group c.args.order) (TakesFreeBlock c.args.group c.args.order) c.args.machine.now
    c.args.cpu.now c.loop-round.round c.loop-round.machine c.loop-round.cpu c.loop-round.invariant c.loop-round-test.true freed x reclaims
    missed c.reclaim_anywhere-freed.ensures.keeps c.take_block.new.self c.take_block.new.cpu (unplaced_steps c.args.group c.args.order) vain
    does c.if-freed-eq0.false
    (none_spares t c.args.group c.args.order x c.take_block.new.self c.loop-round.cpu c.take_block.new.cpu
    (unplaced_steps c.args.group c.args.order) does) c.take_block.ensures.visit

pub returns-clause-takes : goal.returns-clause-takes
returns-clause-takes g c =
    rounds_done g.N.BootName.table (2 ^ c.args.order) (FindsNoBlock c.args.group c.args.order) (TakesFreeBlock c.args.group c.args.order)
    c.args.machine.now c.args.cpu.now c.loop-round.round c.loop-round.machine c.loop-round.cpu c.loop-round.invariant
    c.loop-round-test.false

pub returns-clause-visit : goal.returns-clause-visit
returns-clause-visit g c = c.loop-round.invariant.visit c.requires.visit
