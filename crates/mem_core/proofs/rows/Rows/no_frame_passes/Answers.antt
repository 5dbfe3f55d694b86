-- The goals of `no_frame_passes`.
use Rattle.std.proofs.Common.{◌≡◌, ◌==◌, true, length, sym, ◌∙◌, ap, arith}
use Rattle.mem_core.specs.{state_in, class_in, transit_class}
use Rattle.std.specs.Prelude.{not}
use Rattle.step_rules.specs.{is_passing, all_to}
use Rattle.step_rules.proofs.Sums.{all_same}
use Rattle.mem_core.proofs.Adding.{all_not}
use Rattle.mem_core.proofs.Tallying.{all_of, rest_class}
use Rattle.mem_core.proofs.rows.Rows.no_frame_passes.Goals as goal

pub returns-then-len-self : goal.returns-then-len-self
returns-then-len-self c =
    let s = state_in c.args.self.now in
    let xs = c.args.self.now.phases in
    let class = class_in transit_class xs in
    let len : length xs ≡ s.zone.frames = sym c.len.ensures ∙ c.if-len-self.true in
    (λ i. c.at_rest.ensures i == sym len i)
    ∙ all_of (length xs) class 0
    ∙ ap (λ n. all_to n (λ f. class f == 0)) len
    ∙ all_same s.zone.frames (λ f. class f == 0) (λ f. not (is_passing (s.phases f))) (λ f. sym (rest_class (s.phases f)))

pub returns-then-is_passing : goal.returns-then-is_passing
returns-then-is_passing c =
    let s = state_in c.args.self.now in
    let passes : is_passing (s.phases c.loop-frame.frame) ≡ true = sym (ap is_passing c.phase.ensures) ∙ sym c.is_passing.ensures ∙ c.if-is_passing.true in
    all_not s.zone.frames (λ f. not (is_passing (s.phases f))) c.loop-frame.frame (omega (arith, c.loop-frame-test.true)) (ap not passes)
