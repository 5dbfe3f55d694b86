-- For callers: what a note notes.
use Rattle.std.proofs.Common.{◌≡◌, ℕ, Bool, true, false, ◌==◌, ◌&&◌, Option, Some, None, List, refl, ◌∙◌, ap, if◌then◌else◌, cond}
use Rattle.group_tree.specs.declared.event.EventKey.{EventKey}
use Rattle.group_tree.specs.declared.group.Group.{Group}
use Rattle.group_tree.specs.{is_same_key, in_subtree, is_in_subtree}
use Rattle.step_rules.specs.declared.step.Action.{Action}
use Rattle.step_rules.specs.declared.step.Answer.{Answer}
use Rattle.step_rules.specs.{is_of_group, event_of, group_noted, noted_at, is_noted_in_subtree, is_noted_at}

-- ---- what a step notes, by any key, from the one note that it makes or doesn't make
pub noted_so : (kind key : EventKey) (g : ℕ) (action : Action) (answer : Answer) → event_of action answer ≡ Some (kind, g) →
    noted_at key action answer ≡ (if is_same_key key kind then Some g else None)
noted_so kind key g action answer e = ap (group_noted key) e

pub noted_nowhere : (key : EventKey) (action : Action) (answer : Answer) → event_of action answer ≡ None → noted_at key action answer ≡ None
noted_nowhere key action answer e = ap (group_noted key) e

pub noted_below_so : (kind key : EventKey) (g m : ℕ) (groups : List Group) (action : Action) (answer : Answer) →
    event_of action answer ≡ Some (kind, g) → is_noted_in_subtree key m groups action answer ≡ (is_same_key key kind && in_subtree groups m g)
noted_below_so kind key g m groups action answer e =
    ap (is_in_subtree groups m) (noted_so kind key g action answer e) ∙ by_key (is_same_key key kind)
  where
    by_key : (same : Bool) → is_in_subtree groups m (cond same (Some g) None) ≡ (same && in_subtree groups m g)
    by_key true = refl
    by_key false = refl

pub noted_at_so : (kind key : EventKey) (g m : ℕ) (groups : List Group) (action : Action) (answer : Answer) →
    event_of action answer ≡ Some (kind, g) → is_noted_at key m groups action answer ≡ (is_same_key key kind && g == m)
noted_at_so kind key g m groups action answer e =
    ap (λ (o : Option ℕ). is_of_group o m) (noted_so kind key g action answer e) ∙ by_key (is_same_key key kind)
  where
    by_key : (same : Bool) → is_of_group (cond same (Some g) None) m ≡ (same && g == m)
    by_key true = refl
    by_key false = refl
