-- No group is killed for a limit before everything else was tried that memory.min doesn't keep. This is read from a
-- call's steps and from the machine to which they lead.
use Rattle.std.specs.Prelude.{◌≡◌, ℕ, ◌≤◌, ◌==◌, ◌⊎◌, Bool, true, false, Some, List, [], ◌∷◌, ◌++◌}
use Rattle.std.specs.List.{list_any}
use Rattle.group_tree.specs.declared.group.Group.{Group}
use Rattle.group_tree.specs.Groups.{in_subtree}
use Rattle.group_charge.specs.Charges.{AreCharges}
use Rattle.lru_lists.specs.{owner_of, link_at}
use Rattle.step_rules.specs.declared.step.NoteKey.TheVariants as key
use Rattle.step_rules.specs.declared.step.Action.{Action}
use Rattle.step_rules.specs.declared.step.Action.TheVariants.{Kill, Note}
use Rattle.step_rules.specs.declared.step.Answer.{Answer}
use Rattle.step_rules.specs.declared.step.Step.{Step}
use Rattle.step_rules.specs.After.{Run}
use Rattle.boot_words.specs.Tables.{KnownTable}
use Rattle.mem_machine.specs.{HeadsKeptUnit, IsConsistent, KnownMachine, home_of, lock_holder, local_of, AreDrained, Transition, transition}
use Rattle.mem_machine.specs.Local.{IsLocalRun}
use Rattle.mem_reclaim.specs.declared.sets.Killed.{Killed}
use Rattle.mem_reclaim.specs.{CountsMisses, is_kill, kills_in, IsKilledRoot, kill_set, MissedAll, IsVictim}
use Rattle.mem_alloc.specs.Kills.{has_room_at, most_killed_for}

-- the step notes that only kills are left at the group's limit (`oom`)
abbrev pub is_oom_note : ℕ → Action → Bool
is_oom_note group (Note key.Oom noted) = noted == group
is_oom_note group action = false

-- one of the steps is this note at the group
abbrev pub has_oom_note : ℕ → Run → Bool
has_oom_note group steps = list_any (λ entry. is_oom_note group entry.0.action) steps

-- What these steps of a call say of the machine that they left. Each frame's misses are those from before the call and
-- those among the steps. Each unit that is kept was kept for the same group when the call began, and is as dirty as it
-- was then. Each group has the memory.min that it had then.
pub record IsLeftBySteps (call : Transition KnownMachine) : Type 0 where
  pub misses : CountsMisses call
  pub owners : (frame : ℕ) → HeadsKeptUnit call.after frame
      → owner_of (home_of call.after.links frame) ≡ owner_of (home_of call.before.links frame)
  pub dirt : (frame : ℕ) → HeadsKeptUnit call.after frame
      → (link_at call.after.links frame).is_dirty ≡ (link_at call.before.links frame).is_dirty
  pub settings : call.after.ledger.settings ≡ call.before.ledger.settings

-- For which limit and need a call that charges `pages` pages to a group may kill. The limit is that of the group or of
-- an ancestor, the need is these pages, and they are at most `most_killed_for`.
pub record IsChargedBelow (group pages : ℕ) (groups : List Group) (limited need : ℕ) : Type 0 where
  pub on_path : in_subtree groups limited group ≡ true
  pub need_is : need ≡ pages
  pub few : pages ≤ most_killed_for

-- After these steps of a call, the victim and all groups that die with it may be killed for the limit of the group
-- `limited`. The boot allows kills. The limit has no room for the needed pages, and a step noted `oom` there. Each
-- stock of the subtree is drained. Since the call began, a freeze of each clean unit that the subtree still keeps
-- missed, or memory.min keeps it. `killed` is the victim for this limit, with its killed root. The machine is
-- consistent, its charges add up, and it is the one that the steps left.
pub record MayKill (MayAsk : List Group → ℕ → ℕ → Type 0) (call : Transition KnownMachine)
    (killed : Killed) : Type 0 where
  pub limited : ℕ
  pub need : ℕ
  pub allowed : call.table.choices.is_no_kill ≡ false
  pub asked : MayAsk call.after.ledger.groups limited need
  pub over : has_room_at call.after.ledger limited need ≡ false
  pub noted : has_oom_note limited call.steps ≡ true
  pub drained : AreDrained call.table limited call.after
  pub missed : MissedAll limited call.before call.after
  pub chosen : IsVictim call.after limited (Some killed.victim)
  pub killed_root_is : IsKilledRoot call.after.ledger.groups limited killed
  pub consistent : IsConsistent call.table call.after
  pub charges : AreCharges call.after.ledger
  pub tied : IsLeftBySteps call

-- the first step kills a group
abbrev pub begins_with_kill : Run → Bool
begins_with_kill [] = false
begins_with_kill (entry ∷ later) = is_kill entry.0.action

-- The group may be killed after the steps `before` of a call and before the steps `rest`. The first steps, `tried`, led
-- to a machine in which a victim and all groups that die with it might be killed. The first kill of this set comes
-- right after `tried`. Since then exactly the groups of the set before this one were killed, in order. The others of
-- the set, `left`, are killed next, before any other group.
pub record MayKillAfter (table : KnownTable) (MayAsk : List Group → ℕ → ℕ → Type 0) (start : KnownMachine)
    (before : Run) (group : ℕ) (rest : Run) : Type 0 where
  pub tried : Run
  pub since : Run
  pub now : KnownMachine
  pub killed : Killed
  pub left : List ℕ
  pub later : List ℕ
  pub steps_are : before ≡ tried ++ since
  pub leads : IsLocalRun (lock_holder start) (local_of table start) tried (local_of table now)
  pub may : MayKill MayAsk (transition table start tried now) killed
  pub at_once : (since ≡ []) ⊎ (begins_with_kill since ≡ true)
  pub set_is : kill_set now killed ≡ kills_in since ++ group ∷ left
  pub others_die : kills_in rest ≡ left ++ later

-- Each kill among the steps of a call comes when its group may be killed. This holds for each place in the list: the
-- kill there may follow the steps before it, and precede the steps after it.
abbrev pub NoRashKill : KnownTable → (List Group → ℕ → ℕ → Type 0) → KnownMachine → Run → Type 0
NoRashKill table MayAsk start steps =
    (before rest : Run) (made : Step × Answer) (group : ℕ)
    → steps ≡ before ++ made ∷ rest → made.0.action ≡ Kill group → MayKillAfter table MayAsk start before group rest
