-- One flag more.
use Rattle.std.proofs.Common.{◌≡◌, ℕ, Bool, ◌∷◌, [], ◌++◌, sym, ◌∙◌, ap, arith}
use Rattle.std.proofs.lemmas.List.FromFn.{map-range_with_len_more}
use Rattle.step_rules.specs.Phases.{is_free}
use Rattle.mem_core.specs.Rows.{state_in}
use Rattle.mem_core.proofs.rows.Rows.mark_free.Goals as goal

pub loop-frame-preserved : goal.loop-frame-preserved
loop-frame-preserved c =
    let s = state_in c.args.self.now in
    let f : ℕ → Bool = λ x. is_free (s.phases x) in
    let k = c.loop-frame.frame in
    let flag : c.is_free.result ≡ f k = c.is_free.ensures ∙ ap is_free c.phase.ensures in
    record {
      flags = c.push_reserved.ensures.items ∙ (λ i. c.loop-frame.invariant.flags i ++ flag i ∷ []) ∙ sym (map-range_with_len_more f 0 k k (omega arith));
      size = let a = c.push_reserved.ensures.len in let b = c.loop-frame.invariant.size in omega arith;
      room = c.push_reserved.ensures.capacity ∙ c.loop-frame.invariant.room;
    }
