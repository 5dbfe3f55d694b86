-- The goals of `put`.
use Rattle.std.proofs.Common.{◌≡◌, ◌-◌, ◌∙◌, ap, arith}
use Rattle.step_rules.specs.After.{with_references}
use Rattle.mem_core.specs.Rows.{state_in}
use Rattle.mem_core.proofs.Serving.{put_counts}
use Rattle.mem_core.proofs.references.put.Goals as goal

pub set_references-requires-clause-few : goal.set_references-requires-clause-few
set_references-requires-clause-few c =
    let most = c.requires.bounded.references c.args.seat c.args.frame in
    let count = c.references-count.ensures in
    omega arith

pub overflow_sub-result : goal.overflow_sub-result
overflow_sub-result c =
    let a = put_counts (state_in c.args.rows.now) c.args.seat c.args.frame c.requires.legal in let e = c.live_references-live.ensures in omega arith

pub returns-then-live-ne1 : goal.returns-then-live-ne1
returns-then-live-ne1 c =
    let s = state_in c.args.rows.now in
    let p = c.args.seat in
    let f = c.args.frame in
    let some = put_counts s p f c.requires.legal in
    let live = c.live_references-live.ensures in
    let many = c.if-live-ne1.true in
    let count : c.references-count.result - 1 ≡ s.references p f - 1 = ap (λ n. n - 1) c.references-count.ensures in
    record {
      made = record {
        answered = tt;
        counted = (omega arith, omega arith);
        state = c.set_references.ensures.state ∙ ap (with_references s p f) count;
        fits = c.set_references.ensures.fits;
      };
    }
