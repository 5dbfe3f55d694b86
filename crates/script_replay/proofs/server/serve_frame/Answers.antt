use Rattle.std.proofs.Common.{[], refl, sym}
use Rattle.mem_system.proofs.Found.{found_there}
use Rattle.mem_system.specs.Visits.{locked_state}
use Rattle.script_replay.proofs.Gaining.{gains_none}
use Rattle.script_replay.proofs.server.serve_frame.Goals as goal

pub returns-in_default-clause-answer : goal.returns-in_default-clause-answer
returns-in_default-clause-answer g c = record {
  steps = [];
  answered = (record { none = sym c.in_default.ensures.found; same_locked = refl; same_cpu = refl }, refl);
  gains = gains_none (locked_state c.args.locked.now c.args.cpu.now);
}

pub serve_frame_of-requires : goal.serve_frame_of-requires
serve_frame_of-requires g c = record { there = found_there _ _ _ (sym c.in-Some.ensures.found) }

pub returns-clause-answer : goal.returns-clause-answer
returns-clause-answer g c = c.serve_frame_of.ensures.answer c.args.path (sym c.in-Some.ensures.found)
