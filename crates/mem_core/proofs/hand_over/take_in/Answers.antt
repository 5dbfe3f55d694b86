-- The goals of `take_in`.
use Rattle.std.proofs.Common.{◌<◌, length, sym, ◌∙◌, ap, subst}
use Rattle.step_rules.specs.State.{State, with_last}
use Rattle.step_rules.specs.After.{with_part}
use Rattle.mem_core.specs.Rows.{state_in}
use Rattle.mem_core.proofs.Serving.{take_in_room}
use Rattle.mem_core.proofs.hand_over.take_in.Goals as goal

pub list_frame-requires-clause-room : goal.list_frame-requires-clause-room
list_frame-requires-clause-room c =
    subst (λ (t : State). length (t.parts c.args.seat).list < t.zone.frames) (sym c.set_phase.ensures.state)
    (take_in_room (state_in c.args.rows.now) c.args.seat c.args.frame c.requires.bounded c.requires.legal)

pub returns : goal.returns
returns c = record {
  made = record {
    answered = tt;
    counted = tt;
    state = c.list_frame.ensures.state ∙ ap (λ (t : State). with_part t c.args.seat (record (t.parts c.args.seat) {
      list =
          with_last (t.parts c.args.seat).list c.args.frame;
    })) c.set_phase.ensures.state;
    fits = c.list_frame.ensures.fits;
  };
}
