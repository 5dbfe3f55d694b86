use Rattle.std.proofs.Common.{◌∙◌, ap}
use Rattle.mem_system.specs.{KnownLocked, locked_state}
use Rattle.script_replay.specs.{known_system}
use Rattle.script_replay.proofs.Serving.{locked_settles}
use Rattle.script_replay.proofs.Visiting.{visit_written}
use Rattle.script_replay.proofs.visits.write_by_visit.Goals as goal

pub write_answer-requires : goal.write_answer-requires
write_answer-requires g c = let served = c.serve_locked-value in record {
  in_range = c.requires.in_range;
  groups = served.ensures.groups;
  settles = λ is. locked_settles g.N.BootName.table c.args.command.now (locked_state c.deref_mut-locked.result.now c.args.cpu.now)
      (locked_state served.new.locked served.new.cpu) served.result served.ensures.answers is;
  last = λ is. served.ensures.last;
}

pub returns : goal.returns
returns g c =
    let served = c.serve_locked-value in
    let left = served.new.locked in
    let written = c.write_answer.ensures.told in record {
      answered = record {
        text = written.text;
        so = visit_written (known_system g.N.BootName.table c.args.visitor.now.system.now.sizes) c.args.command.now c.deref_mut-locked.result.now left
            c.args.cpu.now served.new.cpu served.result written.text (ap (λ (l : KnownLocked). l.sizes) c.deref_mut-locked.ensures.value ∙ c.lock-guard.ensures) c.prove_sound.ensures served.ensures.answers c.prove_sound-2.ensures written.so;
        added = written.added;
      };
    }
