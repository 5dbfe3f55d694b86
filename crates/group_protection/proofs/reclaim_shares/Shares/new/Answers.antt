use Rattle.std.proofs.Common.{◌≡◌, ℕ, ◌-◌, sym, ap, ◌∙◌, arith, rules, slice_index, set}
use Rattle.std.specs.Prelude.{min}
use Rattle.std.proofs.lemmas.List.{length-set}
use Rattle.std.proofs.lemmas.List.Edits.{fill_by_more}
use Rattle.group_protection.specs.Shares.{pages_lacking, remainder, sum_below, whole_part}
use Rattle.group_protection.proofs.Parting.{parts_fit, remainder_is, whole_part_is}
use Rattle.group_protection.proofs.SumsBelow.{sum_below_more, sum_below_none}
use Rattle.group_protection.proofs.reclaim_shares.Shares.new.Goals as goal

pub loop-number-init : goal.loop-number-init
loop-number-init c = record {
  long = search rules;
  given = sym (sum_below_none (whole_part c.args.room (slice_index c.args.available) c.args.want));
  few = omega arith;
  kept = λ group less. absurd (omega (arith, less));
}

pub loop-number-preserved : goal.loop-number-preserved
loop-number-preserved c =
    let more = sum_below_more c.loop-number.number (whole_part c.args.room (slice_index c.args.available) c.args.want) in
    let part = c.whole_part-given.ensures.part ∙ whole_part_is c.args.room (slice_index c.args.available) c.args.want _ _ c.loop-number.number c.total_of-total.ensures c.min-shared.ensures in
    let rest = c.remainder.ensures ∙ remainder_is c.args.room (slice_index c.args.available) c.args.want _ _ c.loop-number.number c.total_of-total.ensures c.min-shared.ensures in
    let so = c.loop-number.invariant.given in
    let few = c.loop-number.invariant.few in
    let low = c.whole_part-given.ensures.at_most in
    let fits = c.loop-number-test.element_fits in
    let long = c.loop-number.invariant.long in
    record {
      long = length-set c.loop-number.remainders c.loop-number.number c.remainder.result ∙ long;
      given = omega (arith, more, part, so);
      few = omega (arith, few, low, fits);
      kept = λ group less.
          ap (λ (x : ℕ). slice_index (set c.loop-number.remainders c.loop-number.number x) group) rest
          ∙ fill_by_more (remainder c.args.room (slice_index c.args.available) c.args.want) c.loop-number.remainders c.loop-number.number 0 (omega (arith, long)) c.loop-number.invariant.kept group less;
    }

pub overflow_sub-result : goal.overflow_sub-result
overflow_sub-result c =
    let end : c.loop-number.number ≡ c.args.room = omega arith in
    let so = c.loop-number.invariant.given ∙ ap (λ n. sum_below n (whole_part c.args.room (slice_index c.args.available) c.args.want)) end in
    let fit = parts_fit c.args.room (slice_index c.args.available) c.args.want in
    let shared = c.min-shared.ensures ∙ ap (min c.args.want) c.total_of-total.ensures in
    omega (arith, so, fit, shared)

pub invariant_of-result : goal.invariant_of-result
unfolding pages_lacking
invariant_of-result c =
    let end : c.loop-number.number ≡ c.args.room = omega arith in
    let so = c.loop-number.invariant.given ∙ ap (λ n. sum_below n (whole_part c.args.room (slice_index c.args.available) c.args.want)) end in
    let shared = c.min-shared.ensures ∙ ap (min c.args.want) c.total_of-total.ensures in (
      c.total_of-total.ensures,
      (λ group less. c.loop-number.invariant.kept group (omega (arith, less, end))),
      (λ i. shared i - so i),
      c.requires.room,
    )
