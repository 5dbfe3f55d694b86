-- The goals of `put_last_at`.
use Rattle.std.proofs.Common.{◌≡◌, ◌-◌, ◌<◌, length, sym, ◌∙◌, ap, subst, arith}
use Rattle.step_rules.specs.State.{State}
use Rattle.step_rules.specs.{with_part, with_phase, with_references, at_stage, with_back}
use Rattle.mem_core.specs.Rows.{state_in}
use Rattle.mem_core.proofs.Serving.{put_room, after_last_cpu}
use Rattle.step_rules.specs.declared.phase.Stage.TheVariants.{BackAt}
use Rattle.mem_core.proofs.references.put_last_at.Goals as goal

pub set_references-requires-clause-few : goal.set_references-requires-clause-few
set_references-requires-clause-few c =
    let most = c.requires.bounded.references c.args.seat c.args.frame in
    let count = c.references-count.ensures in
    omega arith

pub push_back_frame-requires-clause-room : goal.push_back_frame-requires-clause-room
push_back_frame-requires-clause-room c =
    subst (λ (t : State). length (t.parts c.args.seat).back < 256) (sym c.set_phase.ensures.state)
    (subst (λ (t : State). length (t.parts c.args.seat).back < 256) (sym c.set_references.ensures.state)
    (put_room (state_in c.args.rows.now) c.args.seat c.args.frame c.requires.bounded c.requires.cpu c.requires.legal))

pub returns : goal.returns
returns c =
    let s = state_in c.args.rows.now in
    let p = c.args.seat in
    let f = c.args.frame in
    let count : c.references-count.result - 1 ≡ s.references p f - 1 = ap (λ n. n - 1) c.references-count.ensures in
    let phase : c.at_stage-phase.result ≡ at_stage (BackAt p) (s.phases f) = c.at_stage-phase.ensures ∙ ap (at_stage (BackAt p)) c.phase.ensures in
    let first : state_in c.set_references.new.self ≡ with_references s p f (s.references p f - 1) = c.set_references.ensures.state
    ∙ ap (with_references s p f) count in
    let second : state_in c.set_phase.new.self ≡ with_phase (with_references s p f (s.references p f - 1)) f
    (at_stage (BackAt p) (s.phases f)) = c.set_phase.ensures.state ∙ (λ i. with_phase (first i) f (phase i)) in
    record {
      made = record {
        answered = tt;
        counted = c.requires.last;
        state = c.push_back_frame.ensures.state ∙ ap (λ (t : State). with_part t p (with_back (t.parts p) f)) second ∙ after_last_cpu s p f c.requires.cpu;
        fits = c.push_back_frame.ensures.fits;
      };
    }
