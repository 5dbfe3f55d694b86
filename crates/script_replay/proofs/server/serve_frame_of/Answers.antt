use Rattle.std.proofs.Common.{◌∙◌, ℕ, ap, refl}
use Rattle.cpu_part.specs.declared.answers.Fast.TheVariants.{Got}
use Rattle.group_tree.specs.Groups.{number_at}
use Rattle.mem_system.specs.{KnownLocked, locked_state}
use Rattle.reply_texts.specs.declared.steps.UnlockedAnswer.TheVariants as unlocked
use Rattle.script_lines.specs.declared.line.Command.TheVariants.{Alloc, Fast}
use Rattle.script_replay.specs.{OnlyWatched, steps_unlocked, terms}
use Rattle.script_replay.proofs.Gaining.{watched_gains}
use Rattle.script_replay.proofs.Serving.{lock_served, none_got, then_watched}
use Rattle.script_replay.proofs.server.serve_frame_of.Goals as goal

pub returns-in-Got-clause-answer : goal.returns-in-Got-clause-answer
returns-in-Got-clause-answer g c path is =
    let f = c.in-Got.frame in
    let group = c.args.group in
    let said = unlocked.Fast (Got f) in
    let l = c.args.locked.now in
    let mid = c.alloc_in_order.new.locked in
    let m = c.watch_paid.new.locked in
    let number = c.args.cpu.now.part.number in
    let before = locked_state l c.args.cpu.now in
    let left = c.alloc_in_order.new.cpu in
    let watched : OnlyWatched (steps_unlocked c.number-cpu_number.result (Fast group) said) mid m = c.watch_paid.ensures in
    let gained = watched_gains (steps_unlocked number (Fast group) said) (steps_unlocked c.number-cpu_number.result (Fast group) said) before mid m left
    c.in-Got.ensures.gains watched in record {
      steps = steps_unlocked number (Fast group) said;
      answered = record {
        gets = record { group = group; found = is; got = c.in-Got.ensures.answer };
        takes_no_lock = record {
          locked = then_watched g.N.BootName.table l mid m c.number-cpu_number.result number c.number-cpu_number.ensures.number (λ (n : ℕ). steps_unlocked n (Fast group) said)
              c.in-Got.ensures.only_saw watched;
          steps_are = refl;
          gains = gained;
        };
      };
      gains = gained;
    }

pub returns-in_default-clause-answer : goal.returns-in_default-clause-answer
returns-in_default-clause-answer g c path is =
    let l = c.args.locked.now in
    let tried = c.alloc_in_order in
    let served = c.alloc_under_lock in
    lock_served (terms g.N.BootName.table c.args.is_explained) (Alloc path 0) l served.new.locked c.args.cpu.now served.new.cpu
    (locked_state tried.new.locked tried.new.cpu) served.result (record {
      group = c.args.group;
      found = is;
      fast = tried.result;
      answers = tried.ensures.answer;
      none = c.in_default.not-Got;
    }) tried.ensures.only_saw (none_got c.args.cpu.now.part.number c.args.group tried.result (locked_state l c.args.cpu.now)
    (locked_state tried.new.locked tried.new.cpu) c.in_default.not-Got tried.ensures.gains) (λ settles. absurd settles) (served.ensures.served path
    (ap (λ (x : KnownLocked). number_at x.machine.ledger.groups path.now) tried.ensures.only_saw.locked ∙ is))
