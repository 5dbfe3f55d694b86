-- A frame that is found in use is one of the block's; at the end none was.
use Rattle.std.proofs.Common.{◌≡◌, ◌+◌, ◌^◌, ◌<◌, ◌≤◌, false, refl, sym, ◌∙◌, ap, arith}
use Rattle.std.proofs.lemmas.Bool.{true≢false}
use Rattle.mem_core.specs.Rows.{state_in}
use Rattle.step_rules.specs.Phases.{is_free}
use Rattle.step_rules.proofs.Placing.{free_in_at}
use Rattle.mem_core.proofs.FreeBlocks.{free_there}
use Rattle.mem_core.proofs.claims.is_all_free.Goals as goal

pub overflow_add-frame-end : goal.overflow_add-frame-end
overflow_add-frame-end c = let size = c.frames.ensures.frames in omega (arith, size, c.requires.inside.inside, c.requires.fits.frames)

pub returns-then-not-is_free : goal.returns-then-not-is_free
returns-then-not-is_free c =
    let s = state_in c.args.rows.now in
    let f = c.loop-frame.frame in
    let size = c.frames.ensures.frames in
    let low : c.args.block.now.at ≤ f = omega (arith, c.loop-frame.auto.frame) in
    let high : f < c.args.block.now.at + 2 ^ c.args.block.now.order = omega (arith, size, c.loop-frame-test.true) in
    let below : f < s.zone.frames = omega (arith, high, c.requires.inside.inside) in
    let used : is_free (s.phases f) ≡ false = ap is_free (sym c.phase.ensures) ∙ sym c.is_free.ensures ∙ c.if-not-is_free.true in (
      λ t. absurd (true≢false (sym t)),
      λ all. sym (sym (free_in_at s.zone s.phases f below (all f (record { from = low; before = high }))) ∙ used),
    )

pub returns : goal.returns
returns c =
    let s = state_in c.args.rows.now in
    let size = c.frames.ensures.frames in (
      λ t f covers. let below : f < s.zone.frames = omega (arith, covers.before, c.requires.inside.inside) in
          free_there s.zone s.phases f below (c.loop-frame.invariant f covers.from (omega (arith, covers.before, size, c.loop-frame-test.false))),
      λ all. refl,
    )
