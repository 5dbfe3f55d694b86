use Rattle.std.proofs.Common.{◌∙◌, ap, sym}
use Rattle.mem_machine.specs.Showing.{stock_left}
use Rattle.mem_system.specs.Locked.{KnownLocked}
use Rattle.script_replay.proofs.UnderLock.{groups_locked, served_locked}
use Rattle.script_replay.proofs.locked_commands.serve_under_lock.Goals as goal

pub returns : goal.returns
returns g c =
    let t = g.N.BootName.table in
    let found = c.begin_command.new.locked in
    let served = c.serve_locked-value in
    let before = c.args.locked.now in
    let after = c.end_command.new.locked in record {
      served = served_locked t c.args.is_explained c.args.command.now before found served.new.locked after c.args.cpu.now served.new.cpu c.number-cpu_number.result
          c.number-cpu_number.ensures.number c.number-cpu_number.ensures.in_run c.begin_command.ensures.zone c.begin_command.ensures.watched c.end_command.ensures served.result served.ensures.answers;
      groups = groups_locked t c.args.is_explained c.args.command.now before found served.new.locked after c.args.cpu.now served.new.cpu c.number-cpu_number.result
          c.number-cpu_number.ensures.number c.number-cpu_number.ensures.in_run c.begin_command.ensures.zone c.begin_command.ensures.watched c.end_command.ensures served.result served.ensures.groups;
      last = served.ensures.last ∙ sym (ap (λ (l : KnownLocked). stock_left t l.machine served.new.cpu.part.number) c.end_command.ensures.locked);
    }
