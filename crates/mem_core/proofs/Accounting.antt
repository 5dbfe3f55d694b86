-- The accounts follow a step, and with them what a run says of peaks and events (for `Core::step`).
use Rattle.std.proofs.Common.{◌≡◌, ℕ, ◌==◌, ◌||◌, Bool, true, false, Option, Some, None, List, [], refl, sym, ◌∙◌, ap, subst, inl, inr, cond, eq-eqb}
use Rattle.std.specs.Prelude.{◌⊎◌}
use Rattle.std.proofs.lemmas.Bool.{cases_eq, cond-true, eqb-true, true≢false}
use Rattle.group_tree.specs.declared.event.EventKey.{EventKey}
use Rattle.group_tree.specs.declared.group.Group.{Group}
use Rattle.group_tree.specs.{EventCounts, is_same_key, no_events, count_of, with_one_more, one_more, has_group, in_subtree}
use Rattle.group_tree.specs.{without_group, is_in_subtree}
use Rattle.group_tree.proofs.EventLemmas.{counted, none_counted}
use Rattle.group_tree.proofs.GroupLemmas.{has_group-any}
use Rattle.group_tree.proofs.CallerLemmas.{has_group-with, has_group-limited, has_group-flagged, has_group-without}
use Rattle.step_rules.specs.declared.step.Step.{Step}
use Rattle.step_rules.specs.declared.step.Action.{Action}
use Rattle.step_rules.specs.declared.step.Action.TheVariants.{Lock, SetMax, SetFlag, Make, Remove}
use Rattle.step_rules.specs.declared.step.Answer.{Answer}
use Rattle.step_rules.specs.declared.step.Answer.TheVariants.{Illegal, Done, Number}
use Rattle.step_rules.specs.{Zone, Allows, is_of_group, Run, after, state_of, IsLegalRun, pushed, IsPeak, peak_follows, event_of}
use Rattle.step_rules.specs.{group_noted, noted_at, is_noted_in_subtree, is_noted_at, makes_group, count_after, events_in, events_local_in}
use Rattle.step_rules.specs.State.{State, boot_groups}
use Rattle.step_rules.proofs.Moving.{gone_itself}
use Rattle.step_rules.proofs.Peaking.{peaks_are_kept}
use Rattle.step_rules.proofs.Noting.{events_are_counted}
use Rattle.step_rules.proofs.Runs.{after_illegal, state_more}
use Rattle.mem_core.specs.Accounts.{Account, new_account, account_in, with_counted_event, events_after, account_after, AccountsFollow}
use Rattle.mem_core.specs.Shown.{AccountsMatchRun}

-- a group that is there after a step was there before, or the step made it
there_or_made : (s : State) (seat : ℕ) (action : Action) (answer : Answer) (m : ℕ)
    → has_group (after s seat action answer).groups m ≡ true
    → (has_group s.groups m ≡ true) ⊎ (makes_group m action answer ≡ true)
there_or_made s seat action Illegal m there =
    inl (subst (λ (t : State). has_group t.groups m ≡ true) (after_illegal s seat action) there)
there_or_made s seat (SetMax h limit) Done m there = inl (sym (has_group-limited s.groups h m limit) ∙ there)
there_or_made s seat (SetFlag h flag) Done m there = inl (sym (has_group-flagged s.groups h m flag) ∙ there)
there_or_made s seat (Make path) (Number n) m there =
    elim (cases_eq m n) [ inl e ↦ inr (eq-eqb m n e) | inr ne ↦ inl (sym (has_group-with s.groups n m path ne) ∙ there) ]
there_or_made s seat (Remove h) Done m there =
    elim (cases_eq m h) [
      | inl e ↦ absurd (true≢false (sym there
          ∙ subst (λ (k : ℕ). has_group (without_group s.groups h) k ≡ false) (sym e) (gone_itself s.groups h)))
      | inr ne ↦ inl
          (sym (has_group-without s.groups h m ne) ∙ there)
    ]
there_or_made s seat Lock answer m there = inl there
there_or_made s seat action answer m there = inl there

-- a step that notes an event leaves the groups as they are
notes_nothing_or_stays : (s : State) (seat : ℕ) (action : Action) (answer : Answer)
    → (event_of action answer ≡ None) ⊎ ((after s seat action answer).groups ≡ s.groups)
notes_nothing_or_stays s seat action Illegal = inr (ap (λ (t : State). t.groups) (after_illegal s seat action))
notes_nothing_or_stays s seat (SetMax h limit) Done = inl refl
notes_nothing_or_stays s seat (SetFlag h flag) Done = inl refl
notes_nothing_or_stays s seat (Make path) (Number n) = inl refl
notes_nothing_or_stays s seat (Remove h) Done = inl refl
notes_nothing_or_stays s seat Lock answer = inr refl
notes_nothing_or_stays s seat action answer = inr refl

noted_same : (key : EventKey) (s : State) (seat : ℕ) (action : Action) (answer : Answer) (g : ℕ)
    → is_in_subtree (after s seat action answer).groups g (noted_at key action answer) ≡ is_in_subtree s.groups g (noted_at key action answer)
noted_same key s seat action answer g =
    let at : List Group → Option (EventKey × ℕ) → Bool = λ groups note. is_in_subtree groups g (group_noted key note) in
    elim (notes_nothing_or_stays s seat action answer) [
      | inl none ↦ ap (at (after s seat action answer).groups) none ∙ sym (ap (at s.groups) none)
      | inr same ↦ ap (λ (groups : List Group). at groups (event_of action answer)) same
    ]

-- one more note counts one more of its key, at the groups that pass the test
note_counted : (test : ℕ → Bool) (passes : Option ℕ → Bool) (note : Option (EventKey × ℕ)) (key : EventKey) (counts : EventCounts)
    → passes None ≡ false → ((h : ℕ) → passes (Some h) ≡ test h)
    → count_of (with_counted_event test note counts) key ≡ cond (passes (group_noted key note)) (one_more (count_of counts key)) (count_of counts key)
note_counted test passes None key counts none some =
    ap (λ b. cond b (one_more (count_of counts key)) (count_of counts key)) (sym none)
note_counted test passes (Some note) key counts none some = by_test (test note.1) refl
  where
    count : ℕ
    count = count_of counts key

    same : Bool
    same = is_same_key key note.0

    by_key : (b c : Bool) → test note.1 ≡ c → cond b (cond c (one_more count) count) count
        ≡ cond (passes (cond b (Some note.1) None)) (one_more count) count
    by_key true c e = ap (λ x. cond x (one_more count) count) (sym e ∙ sym (some note.1))
    by_key false c e = ap (λ x. cond x (one_more count) count) (sym none)

    unchanged : (b : Bool) → count ≡ cond b (cond false (one_more count) count) count
    unchanged true = refl
    unchanged false = refl

    by_test : (c : Bool) → test note.1 ≡ c → count_of (cond c (with_one_more note.0 counts) counts) key
        ≡ cond (passes (cond same (Some note.1) None)) (one_more count) count
    by_test true e = counted note.0 key counts ∙ by_key same true e
    by_test false e = unchanged same ∙ by_key same false e

-- so the counts of each key follow a step as the run counts it
key_counted : (test : ℕ → Bool) (passes : Option ℕ → Bool) (key : EventKey) (g : ℕ) (action : Action) (answer : Answer) (counts : EventCounts)
    → passes None ≡ false → ((h : ℕ) → passes (Some h) ≡ test h)
    → count_of (events_after test g action answer counts) key
    ≡ cond (makes_group g action answer) 0 (cond (passes (noted_at key action answer)) (one_more (count_of counts key)) (count_of counts key))
key_counted test passes key g action answer counts none some = by_made (makes_group g action answer)
  where
    by_made : (made : Bool) → count_of (cond made no_events (with_counted_event test (event_of action answer) counts)) key
        ≡ cond made 0 (cond (passes (noted_at key action answer)) (one_more (count_of counts key)) (count_of counts key))
    by_made true = none_counted key
    by_made false = note_counted test passes (event_of action answer) key counts none some

below_counted : (key : EventKey) (s : State) (seat : ℕ) (action : Action) (answer : Answer) (g : ℕ) (a : Account) →
    count_of (account_after (after s seat action answer) action answer g a).events key
    ≡ count_after (is_noted_in_subtree key g) g s.groups action answer (count_of a.events key)
below_counted key s seat action answer g a =
    let groups : List Group = (after s seat action answer).groups in
    key_counted (in_subtree groups g) (is_in_subtree groups g) key g action answer a.events refl (λ h. refl)
    ∙ ap (λ x. cond (makes_group g action answer) 0 (cond x (one_more (count_of a.events key)) (count_of a.events key)))
    (noted_same key s seat action answer g)

local_counted : (key : EventKey) (s : State) (seat : ℕ) (action : Action) (answer : Answer) (g : ℕ) (a : Account) →
    count_of (account_after (after s seat action answer) action answer g a).events_local key
    ≡ count_after (is_noted_at key g) g s.groups action answer (count_of a.events_local key)
local_counted key s seat action answer g a =
    key_counted (λ h. h == g) (λ (o : Option ℕ). is_of_group o g) key g action answer a.events_local refl (λ h. refl)

-- two counts that follow one step are equal, if they were or the group is made
follow_alike : (test : List Group → Action → Answer → Bool) (g : ℕ) (groups : List Group) (action : Action) (answer : Answer) (x y : ℕ) →
    ((has : Bool) → has ≡ true → x ≡ y) ⊎ (makes_group g action answer ≡ true) → count_after test g groups action answer x
    ≡ count_after test g groups action answer y
follow_alike test g groups action answer x y (inl same) = ap (count_after test g groups action answer) (same true refl)
follow_alike test g groups action answer x y (inr made) =
    cond-true (makes_group g action answer) 0 (cond (test groups action answer) (one_more x) x) made
    ∙ sym (cond-true (makes_group g action answer) 0 (cond (test groups action answer) (one_more y) y) made)

pub tell_more : (zone : Zone) (run : Run) (step : Step) (answer : Answer) (old new : List Account) → IsLegalRun zone run
    → Allows (state_of zone run) step.seat step.action answer →
    AccountsMatchRun zone run old → AccountsFollow (after (state_of zone run) step.seat step.action answer) step.action answer old new
    → AccountsMatchRun zone (pushed run step answer) new
tell_more zone run step answer old new legal ok told follow =
    let s : State = state_of zone run in
    let t : State = after s step.seat step.action answer in
    let more : state_of zone (pushed run step answer) ≡ t = state_more zone run step answer in
    let before : (m : ℕ) → has_group (state_of zone (pushed run step answer)).groups m ≡ true → has_group t.groups m ≡ true =
    λ m there. subst (λ (x : State). has_group x.groups m ≡ true) more there in
    record {
      peaks = λ m there.
          let now : account_in new m ≡ account_after t step.action answer m (account_in old m) = follow m (before m there) in
          let kept = peaks_are_kept.step zone run step answer legal ok m (account_in old m).peak there (λ was. told.peaks m was) in
          subst (IsPeak zone (pushed run step answer) m)
          (ap (λ (x : State). peak_follows x step.action answer m (account_in old m).peak) more ∙ sym (ap (λ (a : Account). a.peak) now)) kept;
      events = λ key m there.
          let now = follow m (before m there) in
          let law = (events_are_counted.step zone run step answer key m).below in
          ap (λ (a : Account). count_of a.events key) now ∙ below_counted key s step.seat step.action answer m (account_in old m)
          ∙ follow_alike (is_noted_in_subtree key m) m s.groups step.action answer (count_of (account_in old m).events key) (events_in key zone run m)
          (elim (there_or_made s step.seat step.action answer m (before m there)) [ inl was ↦ inl (λ has e. told.events key m was) | inr made ↦ inr made ])
          ∙ sym law;
      events_local = λ key m there.
          let now = follow m (before m there) in
          let law = (events_are_counted.step zone run step answer key m).local in
          ap (λ (a : Account). count_of a.events_local key) now ∙ local_counted key s step.seat step.action answer m (account_in old m)
          ∙ follow_alike (is_noted_at key m) m s.groups step.action answer (count_of (account_in old m).events_local key) (events_local_in key zone run m)
          (elim (there_or_made s step.seat step.action answer m (before m there))
          [ inl was ↦ inl (λ has e. told.events_local key m was) | inr made ↦ inr made ])
          ∙ sym law;
    }

root_alone : (zone : Zone) (m : ℕ) → has_group (boot_groups zone) m ≡ true → 0 ≡ m
root_alone zone m there = eqb-true 0 m (or_none (0 == m) (sym (has_group-any (boot_groups zone) m) ∙ there))
  where
    or_none : (b : Bool) → (b || false) ≡ true → b ≡ true
    or_none true e = refl
    or_none false e = e

pub tell_start : (zone : Zone) (accounts : List Account) → ((m : ℕ) → account_in accounts m ≡ new_account) → AccountsMatchRun zone [] accounts
tell_start zone accounts new = record {
  peaks = λ m there. subst (λ (k : ℕ). IsPeak zone [] k (account_in accounts m).peak) (root_alone zone m there)
      (subst (IsPeak zone [] 0) (sym (ap (λ (a : Account). a.peak) (new m))) (peaks_are_kept.boot zone));
  events = λ key m there. ap (λ (a : Account). count_of a.events key) (new m) ∙ none_counted key ∙ sym (events_are_counted.boot zone key m).0;
  events_local = λ key m there. ap (λ (a : Account). count_of a.events_local key) (new m) ∙ none_counted key ∙ sym (events_are_counted.boot zone key m).1;
}
