-- The phase of a frame gives its one place.
use Rattle.std.proofs.Common.{◌≡◌, ◌&&◌, true, sym, ◌∙◌, ap, arith}
use Rattle.step_rules.specs.State.{State, is_frame}
use Rattle.step_rules.specs.Places.{place_in, is_same_frame_place}
use Rattle.step_rules.proofs.Placed.{every_frame_has_one_place}
use Rattle.mem_core.specs.Shown.{state_shown}
use Rattle.mem_core.proofs.reading_core.Core.place.Goals as goal

pub returns-clause-run : goal.returns-clause-run
returns-clause-run c run shows p =
    let f = c.args.frame in
    let zone = c.args.self.now.zone in
    let told = (every_frame_has_one_place zone run shows.legal).told f p in
    let inside : is_frame zone f ≡ true = grind (arith, c.requires) in
    let phase : c.phase.result ≡ (state_shown c.args.self.now).phases f = c.phase.ensures.now in
    let place : c.place_in.result ≡ place_in ((state_shown c.args.self.now).phases f) = c.place_in.ensures ∙ ap place_in phase in
    told
    ∙ ap (λ (s : State). is_frame zone f && is_same_frame_place p (place_in (s.phases f))) (sym shows.state)
    ∙ ap (λ b. b && is_same_frame_place p (place_in ((state_shown c.args.self.now).phases f))) inside
    ∙ ap (is_same_frame_place p) (sym place)
