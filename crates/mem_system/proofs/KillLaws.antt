-- Laws of a command's kills. Serves `laws`.
use Rattle.std.proofs.Common.{◌≡◌, ℕ, true, List, Option, sym, ap, ◌∙◌, arith}
use Rattle.group_tree.specs.declared.group.Group.{Group}
use Rattle.group_tree.specs.Groups.{has_group, in_subtree, limit_of}
use Rattle.group_tree.proofs.CallerLemmas.{limit_of-limited}
use Rattle.step_rules.specs.After.{Run}
use Rattle.boot_words.specs.Tables.{KnownTable}
use Rattle.mem_machine.specs.Machines.{KnownMachine}
use Rattle.mem_reclaim.specs.declared.sets.Killed.{Killed}
use Rattle.mem_alloc.specs.{IsOverLimit, WasLast}
use Rattle.mem_alloc.proofs.ComingLast.{kills_come_last}
use Rattle.mem_alloc.proofs.KillLaws.{die_with_their_sets, over_limit}
use Rattle.mem_system.specs.declared.command.LockedCommand.{LockedCommand}
use Rattle.mem_system.specs.declared.command.LockedCommand.TheVariants.{Alloc, Write}
use Rattle.mem_system.specs.declared.setting.Setting.TheVariants.{Max}
use Rattle.mem_system.specs.Commands.{NamesWhatExists}
use Rattle.mem_system.specs.Asks.{Ask, AsksForLimit, AsksForPages, MayAskFor}
use Rattle.mem_system.specs.KillLaws.{CommandsKillOverLimits, CommandsKillWholeSets, IsAboveSet, IsOverOnPath, KillsFor}

pub commands_kill_whole_sets : CommandsKillWholeSets
commands_kill_whole_sets cmd said call served before rest made g is kills =
    die_with_their_sets (MayAskFor cmd served.settled.machine.ledger.groups) call.table served.settled.machine served.inner before rest
    made g served.no_rash is kills

-- when everything else was tried for what the command asked
module _ (cmd : LockedCommand) (was : List Group) (t : KnownTable) (s : KnownMachine) (tried : Run) (killed : Killed)
    (last : WasLast (MayAskFor cmd was) t s tried killed) where
  abbrev asked : Ask
  asked = record { groups_before = was; groups = last.now.ledger.groups; limited = last.limited; pages = last.need }

  over : IsOverLimit last.now.ledger last.limited last.need
  over = over_limit last.now.ledger last.limited last.need last.over

  above_set : (g : ℕ) (set : Option ℕ) → has_group was g ≡ true → AsksForLimit g set asked → IsAboveSet g set last.now.ledger last.limited
  above_set g set there asks =
      let more = over.over in
      let none = asks.no_page in
      record {
        same = asks.limited;
        limit = over.limit;
        limit_is = sym (limit_of-limited was g set there) ∙ ap (λ (x : List Group × ℕ). limit_of x.0 x.1) (λ i. (sym asks.now_is i, sym asks.limited i)) ∙ over.limit_is;
        above = omega (arith, more, none);
      }

  over_on_path : (g order : ℕ) → AsksForPages g order asked → IsOverOnPath g order was last.now.ledger last.limited
  over_on_path g order asks =
      let more = over.over in
      let need = asks.below.need_is in
      record {
        on_path = ap (λ (l : List Group). in_subtree l last.limited g) (sym asks.same) ∙ asks.below.on_path;
        limit = over.limit;
        limit_is = ap (λ (l : List Group). limit_of l last.limited) (sym asks.same) ∙ over.limit_is;
        over = omega (arith, more, need);
        few = asks.below.few;
      }

kills_for : (cmd : LockedCommand) (was : List Group) (t : KnownTable) (s : KnownMachine) (tried : Run) (killed : Killed)
    (last : WasLast (MayAskFor cmd was) t s tried killed) → NamesWhatExists t was cmd → KillsFor cmd was last.now.ledger last.limited
kills_for (Write g (Max set)) was t s tried killed last names = above_set (Write g (Max set)) was t s tried killed last g set names last.asked
kills_for (Alloc g order) was t s tried killed last names = over_on_path (Alloc g order) was t s tried killed last g order last.asked
kills_for other was t s tried killed last names = absurd last.asked

pub commands_kill_over_limits : CommandsKillOverLimits
commands_kill_over_limits cmd said call served before rest made g is kills =
    let s = served.settled in
    let come = kills_come_last (MayAskFor cmd s.machine.ledger.groups) call.table s.machine served.inner before rest made g served.no_rash is kills in
    record {
      comes_last = come;
      reason = kills_for cmd s.machine.ledger.groups call.table s.machine come.tried come.killed come.last served.names;
    }
