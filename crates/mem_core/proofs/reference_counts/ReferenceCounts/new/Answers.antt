-- No frame has references.
use Rattle.std.proofs.Common.{◌≡◌, ℕ, get_or, length, sym, ◌∙◌, ap, arith}
use Rattle.step_rules.proofs.Sums.{sum_none}
use Rattle.mem_core.proofs.Starting.{replicate_all}
use Rattle.mem_core.proofs.reference_counts.ReferenceCounts.new.Goals as goal

pub invariant_of-result : goal.invariant_of-result
invariant_of-result c =
    let xs = c.in_ok-counts.counts.items in
    let none : (f : ℕ) → get_or xs f 0 ≡ 0 = λ f. ap (λ l. get_or l f 0) c.in_ok-counts.ensures.items ∙ replicate_all c.args.frames 0 f in
    record {
      few = omega (arith, c.in_ok-counts.ensures.number, c.requires);
      each = λ f. let e = none f in omega arith;
      sum = sym (sum_none (length xs) (λ f. get_or xs f 0) (λ f b. none f));
    }
