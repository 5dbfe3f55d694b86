-- What is counted for each group: its peak (memory.peak) and its events (memory.events, memory.events.local).
use Rattle.std.specs.Prelude.{◌≡◌, ◌^◌, ◌<◌, ◌==◌, ℕ, Bool, true, List, All, Option, Some, None, if◌then◌else◌}
use Rattle.std.specs.List.{slice_index_or}
use Rattle.group_tree.specs.declared.event.EventKey.{EventKey}
use Rattle.group_tree.specs.{EventCounts, no_events, with_one_more, has_group, in_subtree}
use Rattle.step_rules.specs.declared.step.Action.{Action}
use Rattle.step_rules.specs.declared.step.Answer.{Answer}
use Rattle.step_rules.specs.declared.step.Action.TheVariants.{Grant}
use Rattle.step_rules.specs.declared.step.Answer.TheVariants.{Granted}
use Rattle.step_rules.specs.State.{State}
use Rattle.step_rules.specs.{peak_follows, event_of, makes_group}
-- a group's peak, the event counts of the group and all below it, and those of the group itself
pub use Rattle.mem_core.specs.declared.account.Account.{Account}

-- the account of a new group
abbrev pub new_account : Account
new_account = record { peak = 0; events = no_events; events_local = no_events }

-- the account of the group in a list of accounts; beyond the list's end, that of a new group
abbrev pub account_in : List Account → ℕ → Account
account_in accounts g = slice_index_or accounts g new_account

-- the counts after an event, if there is one: one more of its kind, if its group passes the test
abbrev pub with_counted_event : (ℕ → Bool) → Option (EventKey × ℕ) → EventCounts → EventCounts
with_counted_event test None events = events
with_counted_event test (Some note) events = if test note.1 then with_one_more note.0 events else events

-- the counts of group g after one more step: the step's event is added if its group passes the test; a group that the
-- step makes has no event
abbrev pub events_after : (ℕ → Bool) → ℕ → Action → Answer → EventCounts → EventCounts
events_after test g step answer events = if makes_group g step answer then no_events else with_counted_event test
    (event_of step answer) events

-- the account of group g after one more step, which led to state t
abbrev pub account_after : State → Action → Answer → ℕ → Account → Account
account_after t step answer g account = record {
  peak = peak_follows t step answer g account.peak;
  events = events_after (in_subtree t.groups g) g step answer account.events;
  events_local = events_after (λ h. h == g) g step answer account.events_local;
}

-- the account of each existing group is that after the step
abbrev pub AccountsFollow : State → Action → Answer → List Account → List Account → Type 0
AccountsFollow t step answer old new = (m : ℕ) → has_group t.groups m ≡ true
    → account_in new m ≡ account_after t step answer m (account_in old m)

-- each peak is below 2^108
abbrev pub HaveSmallPeaks : List Account → Type 0
HaveSmallPeaks accounts = All (λ a. a.peak < 2 ^ 108) accounts

-- the group to which a step grants pages
abbrev pub granted_to : Action → Answer → Option ℕ
granted_to (Grant g n) Granted = Some g
granted_to step answer = None
