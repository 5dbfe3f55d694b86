-- A group is found by its path, and so a block that is taken for the group is taken for its path. Serves `take_block`.
use Rattle.std.proofs.Common.{◌≡◌, ℕ, Some, List, refl, subst}
use Rattle.std.specs.Borrow.{Bor}
use Rattle.group_tree.specs.declared.group.Group.{Group}
use Rattle.group_tree.specs.Groups.{AreGroups, number_at, path_of}
use Rattle.group_tree.proofs.GroupLemmas.{group_at-contains, number_at-there, path_of-is}
use Rattle.group_charge.specs.Charges.{AreCharges, Ledger}
use Rattle.script_lines.specs.declared.line.Command.TheVariants as cmd
use Rattle.boot_words.specs.Tables.{KnownTable}
use Rattle.reply_texts.specs.declared.line_answer.LineAnswer.{LineAnswer}
use Rattle.script_replay.specs.ValueAnswers.{NamesItsGroups, SaysCommand}
use Rattle.tempolemon_c.specs.{CallsLive, IsCpu, SameButState, KnownLive}
use Rattle.tempolemon_c.specs.declared.calls.Call.TheVariants as call
use Rattle.tempolemon_c.specs.declared.calls.CallAnswer.TheVariants as returned

found_by_path : (groups : List Group) (n : ℕ) (path : List ℕ) → AreGroups groups → path_of groups n ≡ Some path → number_at groups path ≡ Some n
found_by_path groups n path are is =
    let at = path_of-is groups n path is in
    let there = group_at-contains groups n at.0 at.1 in
    let by_its_number = number_at-there groups at.0 are.paths_distinct there.0 in
    subst (λ (p : List ℕ). number_at groups p ≡ Some n) at.2 (subst (λ (m : ℕ). number_at groups at.0.path ≡ Some m) there.1 by_its_number)

module _ (frames : KnownTable) (cpu group order : ℕ) (from to : KnownLive) (value : LineAnswer) where
  abbrev groups : List Group
  groups = from.state.locked.machine.ledger.groups

  abbrev after : Ledger
  after = to.state.locked.machine.ledger

  pub block_taken : (path : Bor (List ℕ)) → IsCpu from.sizes.cpus cpu → AreCharges from.state.locked.machine.ledger → path_of groups group ≡ Some path.now
      → ((named : Bor (List ℕ)) → number_at groups named.now ≡ Some group
      → SaysCommand frames cpu (cmd.Alloc named order) from.state to.state value)
      → NamesItsGroups after value → SameButState from to → CallsLive frames cpu (call.Alloc group order) from to (returned.Served value)
  block_taken path exists legal is says there rest = record {
    command = cmd.Alloc path order;
    means = (is, refl);
    tells = record {
      answer = value;
      serves = record { there = record { low = exists.low; high = exists.high; names = tt }; says = says path (found_by_path groups group path.now legal.groups is); rest = rest };
      is_answer = (there, refl);
    };
  }
