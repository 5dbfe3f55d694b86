-- The goals of `set_unit`.
use Rattle.std.proofs.Common.{◌≡◌, ℕ, ◌+◌, ◌^◌, ◌≤◌, List, length, get_or, set, ◌∙◌, ap, arith}
use Rattle.std.proofs.Math.Pow.{pow_mono}
use Rattle.mem_core.specs.Rows.{state_in}
use Rattle.step_rules.specs.declared.phase.Phase.{Phase}
use Rattle.step_rules.specs.declared.phase.Phase.TheVariants.{InZone, Head, Tail}
use Rattle.step_rules.specs.declared.phase.Stage.TheVariants.{Bare}
use Rattle.mem_core.proofs.Ranges.{length-ranged, ranged, block_phases}
use Rattle.mem_core.proofs.blocks.set_unit.Goals as goal

pub set-requires : goal.set-requires
set-requires c =
    let xs = c.args.rows.now.phases in
    let b = c.args.block.now in
    let g = c.args.group in
    let inside : b.at + 2 ^ b.order ≤ length xs = omega (arith, c.requires.fits.phases, c.requires.inside) in
    let range : c.set_range.new.phases ≡ ranged xs b.at (2 ^ b.order) (Tail g) = c.set_range.ensures
    ∙ ap (λ k. ranged xs b.at k (Tail g)) c.frames.ensures.frames in
    let len = ap length range ∙ length-ranged xs b.at (2 ^ b.order) (Tail g) inside in
    let some : 1 ≤ 2 ^ b.order = pow_mono {i = 0} (omega arith) in
    omega (arith, len, some, inside)

pub returns-clause-state : goal.returns-clause-state
returns-clause-state c =
    let s = state_in c.args.rows.now in
    let xs = c.args.rows.now.phases in
    let b = c.args.block.now in
    let g = c.args.group in
    let inside : b.at + 2 ^ b.order ≤ length xs = omega (arith, c.requires.fits.phases, c.requires.inside) in
    let range : c.set_range.new.phases ≡ ranged xs b.at (2 ^ b.order) (Tail g) = c.set_range.ensures
    ∙ ap (λ k. ranged xs b.at k (Tail g)) c.frames.ensures.frames in
    let shown : List Phase → ℕ → Phase = λ ys m. get_or (set ys b.at (Head (record { group = g; order = b.order }) Bare)) m InZone in
    let at_each : List Phase → ℕ → Phase = λ ys m. get_or ys m InZone in
    let phases = ap at_each c.set.ensures ∙ ap shown range ∙ block_phases xs g b inside in
    λ i. record s { phases = phases i }
