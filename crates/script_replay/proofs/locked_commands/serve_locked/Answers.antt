use Rattle.std.proofs.Common.{◌≡◌, None, Some, inl, refl, rules}
use Rattle.mem_system.specs.declared.command.LockedCommand.TheVariants as by_number
use Rattle.mem_system.specs.declared.outcome.Outcome.TheVariants as outcome
use Rattle.mem_system.specs.declared.text_command.TextCommand.TheVariants.{Settle}
use Rattle.script_replay.specs.Commands.{locked_command_of}
use Rattle.script_replay.proofs.locked_commands.serve_locked.Goals as goal

pub returns-in-Some : goal.returns-in-Some
returns-in-Some g c =
    let served = c.serve_text in
    let named : locked_command_of c.args.command.now ≡ Some c.in-Some.cmd = search rules in record {
      answers = record {
        asked = c.in-Some.cmd;
        outcome = served.result;
        is_answer = (named, refl);
        serves = served.ensures.served;
      };
      groups = served.ensures.groups;
      last = served.ensures.ends.last;
    }

pub returns-in-None : goal.returns-in-None
returns-in-None g c = let none : locked_command_of c.args.command.now ≡ None = search rules in record {
  answers = record {
    asked = Settle;
    outcome = outcome.Done;
    is_answer = (c.requires.settles none, refl);
    serves = record {
      served = by_number.Settle;
      given = outcome.Done;
      visit = c.serve_settle.ensures.served;
      stands = inl (refl, refl);
      settled = c.serve_settle.ensures.settled;
      groups = tt;
    };
  };
  groups = tt;
  last = c.serve_settle.ensures.ends.last;
}
