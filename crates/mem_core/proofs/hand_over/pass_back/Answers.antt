-- The goals of `pass_back`.
use Rattle.std.proofs.Common.{◌≡◌, ◌+◌, ◌^◌, ◌<◌, Bool, sym, ◌∙◌, ap, subst}
use Rattle.step_rules.specs.State.{State, one_if, without}
use Rattle.step_rules.specs.After.{with_part, with_phase}
use Rattle.mem_core.specs.Rows.{state_in}
use Rattle.mem_core.proofs.Serving.{unreported_few}
use Rattle.step_rules.specs.Phases.{has_as, FreshFrame, passed_back}
use Rattle.mem_core.proofs.hand_over.pass_back.Goals as goal

pub unlist_frame-requires-clause-few : goal.unlist_frame-requires-clause-few
unlist_frame-requires-clause-few c =
    subst (λ (t : State). (t.parts c.args.seat).unreported < 2 ^ 100) (sym c.set_phase.ensures.state)
    (unreported_few (state_in c.args.rows.now) c.args.seat c.requires.bounded)

pub returns : goal.returns
returns c =
    let s = state_in c.args.rows.now in
    let p = c.args.seat in
    let f = c.args.frame in
    let fresh : c.is_fresh_at-was_fresh.result ≡ has_as FreshFrame p (s.phases f) = c.is_fresh_at-was_fresh.ensures ∙ ap (has_as FreshFrame p) c.phase.ensures in
    let phase : c.passed_back-phase.result ≡ passed_back (s.phases f) = c.passed_back-phase.ensures ∙ ap passed_back c.phase-2.ensures in
    let mid : state_in c.set_phase.new.self ≡ with_phase s f (passed_back (s.phases f)) = c.set_phase.ensures.state ∙ ap (with_phase s f) phase in
    let left : State → Bool → State = λ t b. with_part t p (record (t.parts p) {
      list = without f (t.parts p).list;
      fresh = without f (t.parts p).fresh;
      back = without f (t.parts p).back;
      unreported = (t.parts p).unreported + one_if b;
    }) in
    record {
      made = record {
        answered = tt;
        counted = tt;
        state = c.unlist_frame.ensures.state ∙ (λ i. left (mid i) (fresh i));
        fits = c.unlist_frame.ensures.fits;
      };
    }
