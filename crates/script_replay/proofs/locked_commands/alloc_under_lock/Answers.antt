use Rattle.std.proofs.Common.{IsTrue, List, ap, inl, refl, sym, subst, ◌∙◌}
use Rattle.group_charge.specs.Charges.{Ledger}
use Rattle.group_tree.specs.Groups.{has_group, number_at}
use Rattle.group_tree.specs.declared.group.Group.{Group}
use Rattle.mem_machine.specs.Showing.{stock_left}
use Rattle.mem_system.specs.declared.command.LockedCommand.TheVariants as by_number
use Rattle.mem_system.specs.declared.text_command.TextCommand.TheVariants as cmd
use Rattle.mem_system.specs.{KnownLocked}
use Rattle.script_lines.specs.declared.line.Command.TheVariants.{Alloc, Settle}
use Rattle.reply_texts.specs.declared.line_answer.LineAnswer.TheVariants.{Served}
use Rattle.script_replay.proofs.UnderLock.{groups_locked, served_locked}
use Rattle.script_replay.proofs.locked_commands.alloc_under_lock.Goals as goal

pub serve_outcome-outcome-requires : goal.serve_outcome-outcome-requires
serve_outcome-outcome-requires g c =
    subst (λ (l : Ledger). IsTrue (has_group l.groups c.args.group)) (sym (ap (λ (l : KnownLocked). l.machine.ledger) c.begin_command.ensures.watched.locked))
    c.requires.there

pub returns : goal.returns
returns g c =
    let t = g.N.BootName.table in
    let found = c.begin_command.new.locked in
    let served = c.serve_outcome-outcome in
    let before = c.args.locked.now in
    let after = c.end_command.new.locked in
    let groups = ap (λ (l : KnownLocked). l.machine.ledger.groups) c.begin_command.ensures.watched.locked in record {
      served = λ path at. served_locked t c.args.is_explained (Alloc path c.args.order) before found served.new.locked after c.args.cpu.now served.new.cpu c.number-cpu_number.result
          c.number-cpu_number.ensures.number c.number-cpu_number.ensures.in_run c.begin_command.ensures.zone c.begin_command.ensures.watched c.end_command.ensures
          (Served served.result) (record {
            asked = cmd.Alloc path c.args.order;
            outcome = served.result;
            is_answer = (refl, refl);
            serves = record {
              served = by_number.Alloc c.args.group c.args.order;
              given = served.result;
              visit = served.ensures.served;
              stands = inl ((ap (λ (gs : List Group). number_at gs path.now) groups ∙ at, refl), refl);
              settled = served.ensures.settled;
              groups = served.ensures.groups;
            };
          });
      groups = groups_locked t c.args.is_explained Settle before found served.new.locked after c.args.cpu.now served.new.cpu c.number-cpu_number.result
          c.number-cpu_number.ensures.number c.number-cpu_number.ensures.in_run c.begin_command.ensures.zone c.begin_command.ensures.watched c.end_command.ensures
          (Served served.result) served.ensures.groups;
      last = served.ensures.ends.last ∙ sym (ap (λ (l : KnownLocked). stock_left t l.machine served.new.cpu.part.number) c.end_command.ensures.locked);
    }
