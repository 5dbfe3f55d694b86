-- The sum follows the change.
use Rattle.std.proofs.Common.{◌≡◌, ◌<◌, get_or, length, ◌∙◌, ap, arith}
use Rattle.std.proofs.lemmas.List.{get_or_default}
use Rattle.mem_core.proofs.Pinning.{each_set, sum_has, sum_set, sum_times}
use Rattle.mem_core.proofs.reference_counts.ReferenceCounts.set.Goals as goal

pub overflow_sub-self : goal.overflow_sub-self
overflow_sub-self c =
    let xs = c.self.inside.counts.items in
    let f = c.args.frame in
    let here : f < length xs = let e = ap length c.self.view_is in omega (arith, e, c.requires.there) in
    let was : c.from-was.result ≡ get_or xs f 0 = c.from-was.ensures ∙ c.index.ensures ∙ get_or_default xs f c.index.result.now 0 here in
    let has = sum_has xs f here in
    omega (arith, was, has, c.self.invariant.sum)

pub overflow_add-self : goal.overflow_add-self
overflow_add-self c =
    let xs = c.self.inside.counts.items in
    let most = sum_times (length xs) 255 (λ f. get_or xs f 0) c.self.invariant.each in
    omega (arith, most, c.self.invariant.few, c.self.inside.counts.ok.0, c.self.invariant.sum, c.requires.few)

pub invariant_of-self : goal.invariant_of-self
invariant_of-self c =
    let xs = c.self.inside.counts.items in
    let f = c.args.frame in
    let here : f < length xs = let e = ap length c.self.view_is in omega (arith, e, c.requires.there) in
    let was : c.from-was.result ≡ get_or xs f 0 = c.from-was.ensures ∙ c.index.ensures ∙ get_or_default xs f c.index.result.now 0 here in
    let has = sum_has xs f here in
    let change = sum_set xs f c.args.count here in
    record {
      few = c.self.invariant.few;
      each = each_set xs f c.args.count here c.requires.few c.self.invariant.each;
      sum = omega (arith, was, has, change, c.self.invariant.sum);
    }
