-- The goals of `free_unit`.
use Rattle.std.proofs.Common.{◌≡◌, ℕ, ◌+◌, ◌-◌, List, length, get_or, ◌∙◌, ap, arith, inl, inr}
use Rattle.step_rules.specs.State.{State}
use Rattle.mem_core.specs.Rows.{state_in}
use Rattle.std.specs.Prelude.{◌⊎◌, min, if◌then◌else◌}
use Rattle.step_rules.specs.declared.phase.Phase.{Phase}
use Rattle.step_rules.specs.declared.phase.Phase.TheVariants.{InZone}
use Rattle.step_rules.specs.{unit_of, unit_size, is_within}
use Rattle.mem_core.proofs.Ranges.{ranged, unit_phases, least_ends}
use Rattle.mem_core.proofs.blocks.free_unit.Goals as goal

pub returns-clause-state : goal.returns-clause-state
returns-clause-state c =
    let s = state_in c.args.rows.now in
    let xs = c.args.rows.now.phases in
    let f = c.args.frame in
    let size : c.unit_size-size.result ≡ unit_size (unit_of (s.phases f)) = c.unit_size-size.ensures ∙ ap (λ x. unit_size (unit_of x)) c.phase.ensures in
    let n : ℕ = min c.unit_size-size.result (c.args.rows.now.frames - f) in
    let range : c.set_range.new.phases ≡ ranged xs f n InZone = c.set_range.ensures ∙ ap (λ k. ranged xs f k InZone) c.min-frames.ensures in
    let len : length xs ≡ c.args.rows.now.frames = omega (arith, c.requires.fits.phases) in
    let there = c.requires.there in
    let ends : (n ≡ c.unit_size-size.result) ⊎ (f + n ≡ length xs) = elim (least_ends c.unit_size-size.result (c.args.rows.now.frames - f)) [
      | inl e ↦ inl e
      | inr e ↦ inr (omega arith)
    ] in
    let shown : List Phase → ℕ → Phase = λ ys m. get_or ys m InZone in
    let phases = ap shown range ∙ unit_phases xs f n c.unit_size-size.result (omega arith) (omega arith) ends in
    ◌∙◌ {A = State} (λ i. record s { phases = phases i }) (λ i. record s { phases = λ x. if is_within f (size i) x then InZone else s.phases x })
