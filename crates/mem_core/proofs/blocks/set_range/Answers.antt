-- One phase more.
use Rattle.std.proofs.Common.{◌≡◌, ℕ, ◌+◌, ◌-◌, ◌<◌, ◌≤◌, length, set, ◌∙◌, ap, arith}
use Rattle.mem_core.proofs.Ranges.{length-ranged, ranged, ranged_more, ranged_none}
use Rattle.mem_core.proofs.blocks.set_range.Goals as goal

pub loop-frame-init : goal.loop-frame-init
loop-frame-init c =
    let none : 0 ≡ c.args.at - c.args.at = omega arith in
    ranged_none c.args.phases.now c.args.at c.args.phase.now ∙ ap (λ n. ranged c.args.phases.now c.args.at n c.args.phase.now) none

pub set-requires : goal.set-requires
set-requires c =
    let at = c.args.at in
    let n : ℕ = c.loop-frame.frame - at in
    let low = c.loop-frame.auto.frame in
    let inside : at + n ≤ length c.args.phases.now = omega (arith, low, c.loop-frame-test.true, c.requires.inside) in
    let len = ap length c.loop-frame.invariant ∙ length-ranged c.args.phases.now at n c.args.phase.now inside in
    omega (arith, low, len, c.loop-frame-test.true, c.requires.inside)

pub loop-frame-preserved : goal.loop-frame-preserved
loop-frame-preserved c =
    let xs = c.args.phases.now in
    let at = c.args.at in
    let x = c.args.phase.now in
    let n : ℕ = c.loop-frame.frame - at in
    let low = c.loop-frame.auto.frame in
    let here : at + n < length xs = omega (arith, low, c.loop-frame-test.true, c.requires.inside) in
    let frame : c.loop-frame.frame ≡ at + n = omega (arith, low) in
    let more : n + 1 ≡ c.loop-frame.frame + 1 - at = omega (arith, low) in
    c.set.ensures ∙ (λ i. set (c.loop-frame.invariant i) (frame i) x) ∙ ranged_more xs at n x here ∙ ap (λ k. ranged xs at k x) more

pub returns : goal.returns
returns c =
    let low = c.loop-frame.auto.frame in
    let all : c.loop-frame.frame - c.args.at ≡ c.args.count = omega (arith, c.loop-frame.auto.frame-end, c.loop-frame-test.false) in
    c.loop-frame.invariant ∙ ap (λ n. ranged c.args.phases.now c.args.at n c.args.phase.now) all
