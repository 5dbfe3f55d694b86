use Rattle.std.proofs.Common.{◌≡◌, ℕ, ◌^◌, true, refl, sym, ◌∙◌, subst, rules}
use Rattle.std.specs.Prelude.{Err, IfErr}
use Rattle.group_tree.specs.Groups.{has_group}
use Rattle.group_tree.proofs.CallerLemmas.{in_subtree-above}
use Rattle.cpu_part.specs.Cpus.{KnownCpuLists}
use Rattle.mem_machine.specs.{KnownMachine, Makes, Visits, BySteps}
use Rattle.mem_alloc.specs.{ReclaimsHigh, HasMadeRoom, IsRoomAnswer, RelievesLimit, has_room_at}
use Rattle.mem_alloc.proofs.Lowering.{Lowers, lowers_both, usages_fall, run_lowers}
use Rattle.mem_alloc.proofs.Killing.{relieving_lowers}
use Rattle.mem_alloc.proofs.Making.{answer_is, so_far_more, so_far_none, so_far_over}
use Rattle.mem_alloc.proofs.Taking.{is_refused, by_refusal, is_none, by_none, so_far_takes, so_far_no_block, room_still, over_charges, over_not_none}
use Rattle.mem_alloc.proofs.blocks.charge_block.Goals as goal

pub returns-in-Ok-clause-charges : goal.returns-in-Ok-clause-charges
returns-in-Ok-clause-charges g c =
    so_far_takes g.N.BootName.table c.args.group c.args.order c.args.cpu.now c.args.machine.now c.tries.machine c.tries.invariant.0 c.tries.cpu
    c.tries.invariant.1 c.take_block.new.self c.take_block.new.cpu c.in-Ok.head c.in-Ok.ensures.takes c.in-Ok.ensures.cpu c.in-Ok.ensures.steps

pub returns-in-Err-NoBlock-clause-charges : goal.returns-in-Err-NoBlock-clause-charges
returns-in-Err-NoBlock-clause-charges g c =
    so_far_no_block g.N.BootName.table c.args.group c.args.order c.args.cpu.now c.args.machine.now c.tries.machine c.tries.invariant.0 c.tries.cpu
    c.tries.invariant.1 c.take_block.new.self c.take_block.new.cpu
    (is_none _ _ c.args.group c.args.order c.in-Err-NoBlock.field-0 c.in-Err-NoBlock.field-0-is c.in-Err-NoBlock.ensures.refuses) c.in-Err-NoBlock.ensures.cpu
    (by_none c.args.group c.args.order _ _ c.in-Err-NoBlock.field-0 c.in-Err-NoBlock.field-0-is c.in-Err-NoBlock.ensures.steps)

pub returns-in-Err-NoBlock-clause-room : goal.returns-in-Err-NoBlock-clause-room
returns-in-Err-NoBlock-clause-room g c _ =
    let none = is_none _ _ c.args.group c.args.order c.in-Err-NoBlock.field-0 c.in-Err-NoBlock.field-0-is c.in-Err-NoBlock.ensures.refuses in
    room_still g.N.BootName.table c.args.group c.args.order c.args.cpu.now c.args.machine.now c.tries.machine c.tries.invariant.0 c.tries.cpu
    c.tries.invariant.1 c.take_block.new.self c.take_block.new.cpu none c.requires.may_charge.there c.requires.may_charge.fits

pub take_block-requires-clause-visit : goal.take_block-requires-clause-visit
take_block-requires-clause-visit g c =
    subst (λ (k : KnownCpuLists). Visits g.N.BootName.table c.tries.machine k) (sym c.tries.invariant.1) (c.tries.invariant.0.visit c.requires.visit)

pub make_room-requires-clause-held : goal.make_room-requires-clause-held
make_room-requires-clause-held g c = c.in-Err-Over.ensures.visit.held

pub make_room-requires-clause-there : goal.make_room-requires-clause-there
make_room-requires-clause-there g c =
    let r = is_refused _ _ c.args.group c.args.order c.in-Err-Over.field-0 c.in-Err-Over.over c.in-Err-Over.field-0-is c.in-Err-Over.ensures.refuses in
    subst (λ (y : KnownMachine). has_group y.ledger.groups c.in-Err-Over.over.group ≡ true) (sym r.1)
    (in_subtree-above c.tries.machine.ledger.groups c.in-Err-Over.over.group c.args.group r.0.on_path)

pub tries-smaller : goal.tries-smaller
tries-smaller g c =
    let r = is_refused _ _ c.args.group c.args.order c.in-Err-Over.field-0 c.in-Err-Over.over c.in-Err-Over.field-0-is c.in-Err-Over.ensures.refuses in
    usages_fall g.N.BootName.table c.tries.machine c.make_room.new.machine c.in-Err-Over.over.group (2 ^ c.args.order)
    (lowers_both g.N.BootName.table _ _ _
    (subst (λ (y : KnownMachine). Lowers g.N.BootName.table c.tries.machine y) (sym r.1)
    (run_lowers g.N.BootName.table c.tries.machine c.take_block.new.self.run))
    (relieving_lowers g.N.BootName.table c.args.group c.in-Err-Over.over.group c.frames-pages.result c.take_block.new.self c.make_room.new.machine
    c.make_room.ensures.relieves)) c.make_room.ensures.below r.0.over
    (subst (λ (n : ℕ). has_room_at c.make_room.new.machine.ledger c.in-Err-Over.over.group n ≡ true) c.frames-pages.ensures.frames
    c.in_ok-make_room-in-Err-Over.ensures.room.room)

pub tries-preserved : goal.tries-preserved
tries-preserved g c =
    let t = g.N.BootName.table in
    let relieves = subst (λ (n : ℕ). BySteps Makes g.N.BootName.table (RelievesLimit c.args.group c.in-Err-Over.over.group n)
    c.take_block.new.self c.make_room.new.machine) c.frames-pages.ensures.frames c.make_room.ensures.relieves in
    let r = is_refused _ _ c.args.group c.args.order c.in-Err-Over.field-0 c.in-Err-Over.over c.in-Err-Over.field-0-is c.in-Err-Over.ensures.refuses in
    let run = by_refusal c.args.group c.args.order _ _ c.in-Err-Over.field-0 c.in-Err-Over.over c.in-Err-Over.field-0-is
    c.in-Err-Over.ensures.steps in (
      so_far_more t c.args.group (2 ^ c.args.order) c.args.cpu.now c.args.machine.now c.tries.machine c.tries.invariant.0 c.take_block.new.self c.tries.machine
          c.make_room.new.machine c.tries.cpu c.take_block.new.cpu c.in-Err-Over.over.group r.1 c.tries.invariant.1
          (c.in-Err-Over.ensures.cpu ∙ c.tries.invariant.1) r.0 refl run relieves
          (subst (λ (n : ℕ). HasMadeRoom c.args.group c.in-Err-Over.over.group n c.make_room.new.machine) c.frames-pages.ensures.frames
          c.in_ok-make_room-in-Err-Over.ensures.room)
          (c.make_room.ensures.visit c.take_block.new.cpu c.in-Err-Over.ensures.visit),
      c.in-Err-Over.ensures.cpu ∙ c.tries.invariant.1,
    )

pub returns-in_err-make_room-in-Err-Over-clause-charges : goal.returns-in_err-make_room-in-Err-Over-clause-charges
returns-in_err-make_room-in-Err-Over-clause-charges g c =
    let t = g.N.BootName.table in
    let relieves = subst (λ (n : ℕ). BySteps Makes g.N.BootName.table (RelievesLimit c.args.group c.in-Err-Over.over.group n)
    c.take_block.new.self c.make_room.new.machine) c.frames-pages.ensures.frames c.make_room.ensures.relieves in
    let r = is_refused _ _ c.args.group c.args.order c.in-Err-Over.field-0 c.in-Err-Over.over c.in-Err-Over.field-0-is c.in-Err-Over.ensures.refuses in
    let run = by_refusal c.args.group c.args.order _ _ c.in-Err-Over.field-0 c.in-Err-Over.over c.in-Err-Over.field-0-is
    c.in-Err-Over.ensures.steps in
    let x = c.in_err-make_room-in-Err-Over.field-0.0 in
    let is : IfErr c.from_residual.result (λ e. e ≡ x) = search rules in
    over_charges t c.args.group c.args.order c.from_residual.result x c.args.machine.now c.make_room.new.machine c.args.cpu.now
    c.take_block.new.cpu (answer_is c.from_residual.result x c.from_residual.ensures.0 is) (c.in-Err-Over.ensures.cpu ∙ c.tries.invariant.1)
    (so_far_over t c.args.group (2 ^ c.args.order) c.args.cpu.now c.args.machine.now c.tries.machine c.tries.invariant.0 c.take_block.new.self c.tries.machine
    c.make_room.new.machine c.tries.cpu c.take_block.new.cpu c.in-Err-Over.over.group r.1 c.tries.invariant.1
    (c.in-Err-Over.ensures.cpu ∙ c.tries.invariant.1) r.0 refl run relieves x
    (subst (λ (n : ℕ). IsRoomAnswer c.args.group c.in-Err-Over.over.group n (Err x) c.make_room.new.machine) c.frames-pages.ensures.frames
    c.in_err-make_room-in-Err-Over.ensures.room))

pub returns-in_err-make_room-in-Err-Over-clause-visit : goal.returns-in_err-make_room-in-Err-Over-clause-visit
returns-in_err-make_room-in-Err-Over-clause-visit g c =
    c.make_room.ensures.visit c.take_block.new.cpu c.in-Err-Over.ensures.visit

pub returns-in_err-make_room-in-Err-Over-clause-room : goal.returns-in_err-make_room-in-Err-Over-clause-room
returns-in_err-make_room-in-Err-Over-clause-room g c none =
    let x = c.in_err-make_room-in-Err-Over.field-0.0 in
    let is : IfErr c.from_residual.result (λ e. e ≡ x) = search rules in
    absurd (over_not_none c.args.group c.args.order c.in-Err-Over.over.group c.from_residual.result x c.make_room.new.machine
    (answer_is c.from_residual.result x c.from_residual.ensures.0 is)
    (subst (λ (n : ℕ). IsRoomAnswer c.args.group c.in-Err-Over.over.group n (Err x) c.make_room.new.machine) c.frames-pages.ensures.frames
    c.in_err-make_room-in-Err-Over.ensures.room) none)

pub tries-init : goal.tries-init
tries-init g c = (
  so_far_none g.N.BootName.table c.args.group (2 ^ c.args.order) c.args.cpu.now c.args.machine.now c.reclaim_high.new.machine
      (subst (λ (n : ℕ). BySteps Makes g.N.BootName.table (ReclaimsHigh c.args.group n) c.args.machine.now c.reclaim_high.new.machine) c.frames-pages.ensures.frames
      c.reclaim_high.ensures.high) c.requires.may_charge.alive,
  refl,
)
