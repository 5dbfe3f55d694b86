-- The goals of `nothing_passes`.
use Rattle.std.proofs.Common.{◌≡◌, ◌+◌, ◌==◌, length, sym, ◌∙◌, ap, arith}
use Rattle.std.specs.Prelude.{not}
use Rattle.mem_core.specs.{state_in, class_in, transit_class}
use Rattle.step_rules.specs.{rests, all_to}
use Rattle.step_rules.proofs.Sums.{all_same}
use Rattle.mem_core.proofs.Adding.{all_not}
use Rattle.mem_core.proofs.Tallying.{none_of, rests_class}
use Rattle.mem_core.proofs.rows.Rows.nothing_passes.Goals as goal

pub returns-then-cpu-le-MAX_CPUS : goal.returns-then-cpu-le-MAX_CPUS
returns-then-cpu-le-MAX_CPUS c =
    let s = state_in c.args.self.now in
    let xs = c.args.self.now.phases in
    let cpu = c.args.cpu in
    let class = class_in transit_class xs in
    let len : length xs ≡ s.zone.frames = sym c.len.ensures ∙ c.if-len-self.true in
    ap (λ n. n == 0) c.in_transit.ensures
    ∙ none_of (length xs) class (cpu + 1)
    ∙ ap (λ n. all_to n (λ f. not (class f == cpu + 1))) len
    ∙ all_same s.zone.frames (λ f. not (class f == cpu + 1)) (rests s cpu) (λ f. sym (rests_class cpu (s.phases f) c.if-cpu-le-MAX_CPUS.true))

pub returns-then-not-rests : goal.returns-then-not-rests
returns-then-not-rests c =
    let s = state_in c.args.self.now in
    all_not s.zone.frames (rests s c.args.cpu) c.loop-frame.frame (omega (arith, c.loop-frame-test.true)) (sym c.rests.ensures ∙ c.if-not-rests.true)
