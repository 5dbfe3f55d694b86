-- How a group is killed, and how its kept units are released.
use Rattle.std.specs.Prelude.{◌≡◌, ◌≢◌, ℕ, ◌+◌, ◌-◌, ◌≤◌, true, false, Option, Some, None, List, [], ◌∷◌, ◌++◌, Bool, length, slice_set}
use Rattle.std.specs.List.{fold}
use Rattle.group_tree.specs.Groups.{is_oom_group}
use Rattle.group_charge.specs.Charges.{current_of, with_group_kill_noted, with_kill_noted}
use Rattle.lru_lists.specs.declared.record.Entry.{Entry}
use Rattle.lru_lists.specs.declared.record.Home.{Home}
use Rattle.lru_lists.specs.Queue.{link_at}
use Rattle.step_rules.specs.After.{Run}
use Rattle.boot_words.specs.Tables.{KnownTable}
use Rattle.mem_machine.specs.declared.releasing.Released.{Released}
use Rattle.group_charge.specs.declared.note.Note.{Note}
use Rattle.group_charge.specs.declared.note.Note.TheVariants as note
use Rattle.mem_machine.specs.{KnownRun, HeadsKeptUnit, KnownMachine, active_in, home_of, inactive_in, part_at, with_run, Makes, StaysVisited}
use Rattle.mem_machine.specs.{with_note, Releases, release_steps, Drain, drain_stocks_steps, kill_steps, note_group_kill_steps, DrainsAllIf}
use Rattle.mem_machine.specs.{IsDrained, of_group, stock_group}
use Rattle.mem_reclaim.specs.Moves.{Rises, has_kill, kills_in, missed_in, misses_of, returned_in}
use Rattle.mem_reclaim.specs.declared.noting.CountsBeforeKill.{CountsBeforeKill}
use Rattle.mem_reclaim.specs.declared.sets.Killed.{Killed}
use Rattle.mem_reclaim.specs.Sets.{IsKilledRoot, alive_in_subtree, group_kill_note, kill_set}
use Rattle.mem_reclaim.specs.Staying.{OnlyLeave}
use Rattle.mem_reclaim.specs.Victim.{IsNext, own_frames, victim_note}

-- The unit is released: it leaves its list, and the zone's reference is put. Without another reference it is freed and
-- uncharged; else it stays charged and isn't kept. Then `Then` leads on.
pub record ReleasesUnit (unit : Entry) (Then : KnownMachine → Run → KnownMachine → Type 0) (before : KnownMachine)
    (steps : Run) (after : KnownMachine) : Type 0 where
  pub between : KnownMachine
  pub left : Released
  pub later : Run
  pub releases : Releases unit.number left before between
  pub others : Then between later after
  pub steps_are : steps ≡ release_steps unit.number left ++ later

-- the units are released in this order
abbrev pub ReleasesUnits : List Entry → KnownMachine → Run → KnownMachine → Type 0
ReleasesUnits [] before steps after = (after ≡ before) × (steps ≡ [])
ReleasesUnits (unit ∷ others) before steps after = ReleasesUnit unit (ReleasesUnits others) before steps after

-- the units are released by some steps
pub record ReleasesUnitsBySteps (table : KnownTable) (units : List Entry) (before after : KnownMachine) : Type 0 where
  pub steps : Run
  pub releases : ReleasesUnits units before steps after
  pub runs : Makes table before steps after

-- the machine with the group killed, and with one more kill noted at the group
abbrev pub with_killed : KnownMachine → ℕ → KnownMachine
with_killed machine group = record machine {
  ledger = with_kill_noted machine.ledger group;
  killed = slice_set machine.killed group true;
}

-- A group is killed. First it is marked as killed, which the run notes. Then its own stocks are drained, one CPU after
-- the other. Then its kept units, dirty ones included, are released: first the inactive units, then the active ones,
-- each list from the oldest on.
pub record KillsGroup (table : KnownTable) (group : ℕ) (before : KnownMachine) (steps : Run)
    (after : KnownMachine) : Type 0 where
  pub drained : KnownMachine
  pub between : KnownMachine
  pub drains : List Drain
  pub first : Run
  pub last : Run
  pub seen : KnownRun
  pub stocks : DrainsAllIf table (of_group group) table.cpus drains (with_run (with_killed before group) seen) drained
  pub inactive : ReleasesUnits (inactive_in drained group) drained first between
  pub active : ReleasesUnits (active_in between group) between last after
  pub steps_are : steps ≡ kill_steps group ++ (drain_stocks_steps drains ++ (first ++ last))

-- The first of these steps kills the group, and no other step kills. None is a freeze that missed. The machine's last
-- puts rose by the units that the steps return.
pub record HasOneKillStep (group : ℕ) (before : KnownMachine) (steps : Run) (after : KnownMachine) : Type 0 where
  pub later : Run
  pub front : steps ≡ kill_steps group ++ later
  pub no_kill : has_kill later ≡ false
  pub no_miss : (frame : ℕ) → missed_in frame later ≡ 0
  pub returned : Rises before.counts.last_puts (returned_in later) after.counts.last_puts

-- a group is killed by some steps
pub record KillsGroupBySteps (table : KnownTable) (group : ℕ) (before after : KnownMachine) : Type 0 where
  pub steps : Run
  pub kills : KillsGroup table group before steps after
  pub runs : Makes table before steps after
  pub once : HasOneKillStep group before steps after

-- how many kept units the group has
abbrev pub kept_units : KnownMachine → ℕ → ℕ
kept_units machine group = length (inactive_in machine group) + length (active_in machine group)

-- what a group has before it is killed: the machine's last puts so far, the group's frames, and its kept units
abbrev pub counts_before_kill : KnownMachine → ℕ → CountsBeforeKill
counts_before_kill machine group = record {
  last_puts = machine.counts.last_puts;
  frames = own_frames machine group;
  units = kept_units machine group;
}

-- The note of a group killed for the group `limited`, by what it had before. Its kept units that were freed are counted
-- as last puts, and the others are pinned. Its frames were freed or are still charged to it.
abbrev pub killed_note : ℕ → ℕ → CountsBeforeKill → KnownMachine → Note
killed_note limited group had after =
    note.Kill group (after.counts.last_puts - had.last_puts) (had.frames - own_frames after group)
    (had.units - (after.counts.last_puts - had.last_puts)) (own_frames after group) (current_of after.ledger limited)

-- a group is killed for the group `limited`, and a note says what became of its units
pub record KillsGroupNoted (table : KnownTable) (limited group : ℕ) (before : KnownMachine) (steps : Run)
    (after : KnownMachine) : Type 0 where
  pub killed : KnownMachine
  pub kills : KillsGroup table group before steps killed
  pub noted : after ≡ with_note killed (killed_note limited group (counts_before_kill before group) killed)

-- a group is killed and noted like this, and then `Then` leads on
pub record KillsGroupThen (table : KnownTable) (limited group : ℕ) (Then : KnownMachine → Run → KnownMachine → Type 0)
    (before : KnownMachine) (steps : Run) (after : KnownMachine) : Type 0 where
  pub between : KnownMachine
  pub first : Run
  pub later : Run
  pub kills : KillsGroupNoted table limited group before first between
  pub others : Then between later after
  pub steps_are : steps ≡ first ++ later

-- these groups are killed and noted like this, one after the other
abbrev pub KillsGroups : KnownTable → ℕ → List ℕ → KnownMachine → Run → KnownMachine → Type 0
KillsGroups table limited [] before steps after = (after ≡ before) × (steps ≡ [])
KillsGroups table limited (group ∷ others) before steps after =
    KillsGroupThen table limited group (KillsGroups table limited others) before steps after

-- A group is killed as a whole for the group `limited`. A note says how many groups die. Each group of its subtree that
-- isn't killed is killed, by ascending number. Then one `oom_group_kill` is noted at it.
pub record KillsSubtree (table : KnownTable) (limited killed_root : ℕ) (before : KnownMachine) (steps : Run)
    (after : KnownMachine) : Type 0 where
  pub between : KnownMachine
  pub killing : Run
  pub kills : KillsGroups table limited (alive_in_subtree before killed_root)
      (with_note before (group_kill_note before killed_root))
      killing between
  pub counted : after ≡ record between {
    ledger = with_group_kill_noted between.ledger killed_root;
    run = after.run;
  }
  pub steps_are : steps ≡ killing ++ note_group_kill_steps killed_root

-- these steps kill exactly these groups, in this order; none of them is a freeze that missed; and the machine's last
-- puts rose by the units that they return
pub record AreKillsOf (groups : List ℕ) (before : KnownMachine) (steps : Run) (after : KnownMachine) : Type 0 where
  pub killed : kills_in steps ≡ groups
  pub no_miss : (frame : ℕ) → missed_in frame steps ≡ 0
  pub returned : Rises before.counts.last_puts (returned_in steps) after.counts.last_puts

-- exactly these groups are killed, as `Kills` says, by some steps
pub record KillsGroupsBySteps (table : KnownTable) (groups : List ℕ)
    (Kills : KnownMachine → Run → KnownMachine → Type 0)
    (before after : KnownMachine) : Type 0 where
  pub steps : Run
  pub kills : Kills before steps after
  pub runs : Makes table before steps after
  pub these : AreKillsOf groups before steps after

-- what is done with a victim and its killed root: if its flag is on, the whole subtree is killed; else only the
-- victim is killed
abbrev pub KillsRootOrVictim : Bool → KnownTable → ℕ → Killed → KnownMachine → Run → KnownMachine → Type 0
KillsRootOrVictim true table limited killed = KillsSubtree table limited killed.killed_root
KillsRootOrVictim false table limited killed = KillsGroupNoted table limited killed.victim

-- A victim and all groups that die with it are killed for the group `limited`, by some steps. First a note says who is
-- the victim and why. Then the whole subtree is killed if its flag is on, else the victim alone.
pub record IsKilledBy (table : KnownTable) (limited : ℕ) (killed : Killed) (before after : KnownMachine) : Type 0 where
  pub next : ℕ
  pub follows : IsNext before limited killed.victim next
  pub killed_root_is : IsKilledRoot before.ledger.groups limited killed
  pub steps : Run
  pub kills : KillsRootOrVictim (is_oom_group before.ledger.groups killed.killed_root) table limited killed
      (with_note before (victim_note before limited killed.victim next)) steps after
  pub runs : Makes table before steps after
  pub these : AreKillsOf (kill_set before killed) before steps after

-- if the group has a victim, it is killed with all groups that die with it; else nothing changed
abbrev pub KillsVictim : KnownTable → ℕ → Option Killed → KnownMachine → KnownMachine → Type 0
KillsVictim table limited None before after = after ≡ before
KillsVictim table limited (Some killed) before after = IsKilledBy table limited killed before after

-- the victim, if one was killed
abbrev pub victim_of : Option Killed → Option ℕ
victim_of None = None
victim_of (Some killed) = Some killed.victim

-- the marks of killed groups, with these groups marked too
abbrev pub with_all_killed : List Bool → List ℕ → List Bool
with_all_killed marks groups = fold (λ (old : List Bool) (group : ℕ). slice_set old group true) marks groups

-- What a release of units keeps. Groups with their limits and each visit stay, and no visit is opened or shut. No usage
-- rises. Each unit that is kept was kept on the same list, and is as dirty as before. No unit is frozen, so no miss is
-- noted.
pub record OnlyReleases (table : KnownTable) (before after : KnownMachine) : Type 0 where
  pub groups : after.ledger.groups ≡ before.ledger.groups
  pub settings : after.ledger.settings ≡ before.ledger.settings
  pub usage : (group : ℕ) → current_of after.ledger group ≤ current_of before.ledger group
  pub visit : StaysVisited table before after
  pub leaves : OnlyLeave before after
  pub dirt : (frame : ℕ) → HeadsKeptUnit after frame
      → (link_at after.links frame).is_dirty ≡ (link_at before.links frame).is_dirty
  pub misses : (frame : ℕ) → misses_of after frame ≡ misses_of before frame

-- the stocks and the killed groups stay the same
pub record KeepsStocks (table : KnownTable) (before after : KnownMachine) : Type 0 where
  pub stocks : (cpu : ℕ) → part_at table after cpu ≡ part_at table before cpu
  pub killed : after.killed ≡ before.killed

-- each CPU's stock is of the same group, and each drained stock is still drained
pub record OnlyDrains (table : KnownTable) (before after : KnownMachine) : Type 0 where
  pub of : (cpu : ℕ) → stock_group table after cpu ≡ stock_group table before cpu
  pub drained : (cpu : ℕ) → IsDrained table before cpu → IsDrained table after cpu

-- no unit is kept for the group
abbrev pub HasNoKeptUnit : ℕ → KnownMachine → Type 0
HasNoKeptUnit group machine =
    (frame : ℕ) (home : Home) → home_of machine.links frame ≡ Some home → home.owner ≢ group
