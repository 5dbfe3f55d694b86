-- Each step that moves a peak or a count of the ledger, and what comes with it. Serves the `steps` clauses of the calls that charge,
-- note, kill, make, limit and remove.
use Rattle.std.proofs.Common.{◌≡◌, ◌≢◌, ℕ, ◌+◌, ◌<◌, ◌==◌, ◌&&◌, Bool, true, false, Option, Some, None, List, [], ◌∷◌, ◌++◌, cond, refl, sym, ap, ◌∙◌}
use Rattle.std.proofs.Common.{inl, inr, arith, eq-eqb, get_or}
use Rattle.std.specs.Prelude.{max, not, is_some, filter}
use Rattle.std.specs.List.{find}
use Rattle.std.specs.Option.{option_map_or, option_or}
use Rattle.std.proofs.lemmas.Bool.{cases_eq, ne_eqb, eqb-true, not_from_false, true≢false}
use Rattle.std.proofs.lemmas.List.Folds.{find-append}
use Rattle.group_tree.specs.Bounds.{most_groups}
use Rattle.group_tree.specs.declared.event.EventKey.{EventKey}
use Rattle.group_tree.specs.declared.group.Group.{Group}
use Rattle.group_tree.specs.{EventCounts, is_same_key, no_events, count_of, with_one_more, has_group, in_subtree, without_group, IsLeastFreeNumber}
use Rattle.group_tree.specs.{one_more}
use Rattle.group_tree.proofs.EventLemmas.{counted, none_counted}
use Rattle.group_tree.proofs.GroupLemmas.{find-filter, is_some-find}
use Rattle.group_charge.specs.declared.account.Account.{Account}
use Rattle.group_charge.specs.declared.settings.ReclaimSettings.{ReclaimSettings}
use Rattle.group_charge.specs.Charges.{Ledger, AreCharges, SamePeaks, SameEvents, CountsEvent, current_of, peak_of, events_of, events_local_of, account_at}
use Rattle.group_charge.specs.Charges.{with_settings, empty_account, with_charge, with_new_group, with_group_removed, with_group_limit, with_oom_flag}
use Rattle.group_charge.proofs.CallerLemmas.{charge_rises, charge_peaks, charge_events, has_account}
use Rattle.step_rules.specs.declared.step.Action.{Action}
use Rattle.step_rules.specs.declared.step.Action.TheVariants.{Grant, Make}
use Rattle.step_rules.specs.declared.step.Answer.TheVariants.{Done, Granted}
use Rattle.step_rules.specs.State.{State}
use Rattle.step_rules.specs.{Run, after, peak_follows, usage_of, event_of, count_after, is_noted_in_subtree, is_noted_at, makes_group, zone_makes}
use Rattle.step_rules.proofs.CallerLemmas.{noted_below_so, noted_at_so}
use Rattle.step_rules.proofs.Homes.{number_low}
use Rattle.step_rules.proofs.Moving.{gone_itself, pending_moves, pends_split}
use Rattle.mem_machine.specs.Following.{FollowsSteps}
use Rattle.mem_machine.specs.Steps.{make_steps, remove_steps, set_max_steps, set_oom_group_steps}
use Rattle.mem_machine.proofs.Followed.{Test, are_still, peak_still, below_still, at_still, follows_still}

-- ---- a grant

-- Before it, the lock's holder sees the ledger's groups and usage.
module _ (s : State) (l : Ledger) (seen : s.groups ≡ l.groups) (facts : AreCharges l) (usage : (h : ℕ) → usage_of s h ≡ current_of l h) (g n : ℕ)
    (there : has_group l.groups g ≡ true) where
  -- pages that are granted are in the usage of the group and of each of its ancestors
  granted_usage : (h : ℕ) → current_of (with_charge l g n) h ≡ usage_of (after s 0 (Grant g n) Granted) h
  granted_usage h =
      let low : g < most_groups = number_low l.groups g facts.groups there in
      let a = pending_moves s.groups s.pending h g (s.pending g + n) low in
      let b = pends_split s.groups h g (s.pending g) n in
      charge_rises l g n facts there h
      ∙ (λ i. cond (in_subtree (sym seen i) h g) (sym (usage h) i + n) (sym (usage h) i))
      ∙ sym (granted (in_subtree s.groups h g) (usage_of s h) (usage_of (after s 0 (Grant g n) Granted) h) (omega (arith, a, b)))
    where
      granted : (b : Bool) (x z : ℕ) → z ≡ x + cond b n 0 → z ≡ cond b (x + n) x
      granted true x z e = e
      granted false x z e = omega (arith, e)

  -- pages are granted, and then nothing moves but usage
  pub follows_grant : (rest : Run) → are_still rest ≡ true → (k : Ledger) → SamePeaks (with_charge l g n) k → SameEvents (with_charge l g n) k
      → FollowsSteps s l (zone_makes (Grant g n) Granted ∷ rest) k
  follows_grant rest still k peaks events =
      let now : State = after s 0 (Grant g n) Granted in
      let own = charge_events l g n in
      record {
        peak = λ h is. peaks h ∙ charge_peaks l g n facts h
            ∙ (λ i. cond (in_subtree (sym seen i) h g) (max (peak_of l h) (granted_usage h i)) (peak_of l h))
            ∙ sym (peak_still h now rest _ still);
        events = λ key h is. ap (λ (x : EventCounts). count_of x key) (events.events h ∙ own.events h) ∙ sym (below_still key h now rest _ still);
        events_local = λ key h is. ap (λ (x : EventCounts). count_of x key) (events.events_local h ∙ own.events_local h)
            ∙ sym (at_still key h now rest _ still);
      }

-- ---- an event

-- what one more event of the kind makes of the count of the key, if it counts here: all kinds and keys at once, so that a
-- new one needs no line
event_counted : (kind key : EventKey) (here : Bool) (x : EventCounts)
    → count_of (cond here (with_one_more kind x) x) key ≡ cond (is_same_key key kind && here) (one_more (count_of x key)) (count_of x key)
event_counted kind key here x = by_cases (is_same_key key kind) here (counted kind key x)
  where
    by_cases : (same here : Bool) → count_of (with_one_more kind x) key ≡ cond same (one_more (count_of x key)) (count_of x key)
        → count_of (cond here (with_one_more kind x) x) key ≡ cond (same && here) (one_more (count_of x key)) (count_of x key)
    by_cases true true counts = counts
    by_cases true false counts = refl
    by_cases false true counts = counts
    by_cases false false counts = refl

-- a step that is answered Done makes no group and moves no peak
done_makes_none : (m : ℕ) (action : Action) → makes_group m action Done ≡ false
done_makes_none m (Make path) = refl
done_makes_none m action = refl

done_peak : (t : State) (m : ℕ) (action : Action) (x : ℕ) → peak_follows t action Done m x ≡ x
done_peak t m (Grant g n) x = refl
done_peak t m action x = refl

-- what a step makes of a count that it passes the test of
done_count : (test : Test) (groups : List Group) (action : Action) (m n : ℕ) (b : Bool) → test groups action Done ≡ b
    → count_after test m groups action Done n ≡ cond b (one_more n) n
done_count test groups action m n b is =
    ap (λ (made : Bool). cond made 0 (cond (test groups action Done) (one_more n) n)) (done_makes_none m action)
    ∙ ap (λ (passed : Bool). cond passed (one_more n) n) is

turned : (a b : ℕ) → (a == b) ≡ (b == a)
turned a b = elim (cases_eq a b) [
  | inl e ↦ eq-eqb a b e ∙ sym (eq-eqb b a (sym e))
  | inr ne ↦ ne_eqb a b ne ∙ sym (ne_eqb b a (λ e. ne (sym e)))
]

-- a step notes an event at a group
pub follows_note : (kind : EventKey) (action : Action) (g : ℕ) → event_of action Done ≡ Some (kind, g) → (s : State) (l k : Ledger) → s.groups ≡ l.groups
    → CountsEvent kind l k g → SamePeaks l k → FollowsSteps s l (zone_makes action Done ∷ []) k
follows_note kind action g notes s l k seen counts peaks =
    record {
      peak = λ h is. peaks h ∙ sym (done_peak (after s 0 action Done) h action (peak_of l h));
      events = λ key h is.
          let old = events_of l h in
          ap (λ (x : EventCounts). count_of x key) (counts.events h)
          ∙ event_counted kind key (in_subtree l.groups h g) old
          ∙ (λ i. cond (is_same_key key kind && in_subtree (sym seen i) h g) (one_more (count_of old key)) (count_of old key))
          ∙ sym (done_count (is_noted_in_subtree key h) s.groups action h (count_of old key) _ (noted_below_so kind key g h s.groups action Done notes));
      events_local = λ key h is.
          let old = events_local_of l h in
          ap (λ (x : EventCounts). count_of x key) (counts.events_local h ∙ ap (λ (b : Bool). cond b (with_one_more kind old) old) (turned h g))
          ∙ event_counted kind key (g == h) old
          ∙ sym (done_count (is_noted_at key h) s.groups action h (count_of old key) _ (noted_at_so kind key g h s.groups action Done notes));
    }

-- ---- a limit, settings and a flag

pub follows_limit : (s : State) (l : Ledger) (g : ℕ) (limit : Option ℕ) → FollowsSteps s l (set_max_steps g limit) (with_group_limit l g limit)
unfolding peak_of events_of events_local_of account_at
follows_limit s l g limit = follows_still s l (set_max_steps g limit) (with_group_limit l g limit) refl (λ m. refl)
    (record { events = λ m. refl; events_local = λ m. refl })

pub follows_settings : (s : State) (l : Ledger) (g : ℕ) (settings : ReclaimSettings) → FollowsSteps s l [] (with_settings l g settings)
unfolding peak_of events_of events_local_of account_at
follows_settings s l g settings = follows_still s l [] (with_settings l g settings) refl (λ m. refl)
    (record { events = λ m. refl; events_local = λ m. refl })

pub follows_flag : (s : State) (l : Ledger) (g : ℕ) (flag : Bool) → FollowsSteps s l (set_oom_group_steps g flag) (with_oom_flag l g flag)
unfolding peak_of events_of events_local_of account_at
follows_flag s l g flag = follows_still s l (set_oom_group_steps g flag) (with_oom_flag l g flag) refl (λ m. refl)
    (record { events = λ m. refl; events_local = λ m. refl })

-- ---- a group that is made

none_is : {X : Type 0} (o : Option X) → is_some o ≡ false → o ≡ None
none_is None e = refl
none_is (Some x) e = absurd (true≢false e)

-- a number of an account, if there is one
abbrev read : {X : Type 0} → (Account → X) → X → List Account → ℕ → X
read r x accounts m = option_map_or r (find (λ (a : Account). a.group == m) accounts) x

made_read : {X : Type 0} (r : Account → X) (x : X) (l : Ledger) (n m : ℕ) → AreCharges l → has_group l.groups n ≡ false → r (empty_account n) ≡ x
    → read r x (l.accounts ++ empty_account n ∷ []) m ≡ cond (m == n) x (read r x l.accounts m)
made_read r x l n m facts free empty =
    ap (λ (o : Option Account). option_map_or r o x) (find-append (λ (a : Account). a.group == m) l.accounts (empty_account n ∷ []))
    ∙ elim (cases_eq m n) [
      | inl e ↦
          let none : find (λ (a : Account). a.group == m) l.accounts ≡ None =
          none_is _ (is_some-find (λ (a : Account). a.group == m) l.accounts ∙ has_account l m facts ∙ ap (has_group l.groups) e ∙ free) in
          ap (λ (o : Option Account). option_map_or r (option_or o (cond (n == m) (Some (empty_account n)) None)) x) none
          ∙ ap (λ (b : Bool). option_map_or r (cond b (Some (empty_account n)) None) x) (eq-eqb n m (sym e)) ∙ empty
          ∙ sym (ap (λ (b : Bool). cond b x (read r x l.accounts m)) (eq-eqb m n e))
      | inr ne ↦
          ap (λ (b : Bool). option_map_or r (option_or (find (λ (a : Account). a.group == m) l.accounts) (cond b (Some (empty_account n)) None)) x)
          (ne_eqb n m (λ e. ne (sym e)))
          ∙ or_none (find (λ (a : Account). a.group == m) l.accounts)
          ∙ sym (ap (λ (b : Bool). cond b x (read r x l.accounts m)) (ne_eqb m n ne))
    ]
  where
    or_none : (o : Option Account) → option_map_or r (option_or o None) x ≡ option_map_or r o x
    or_none None = refl
    or_none (Some a) = refl

made_count : (key : EventKey) (b : Bool) (x : EventCounts) → count_of (cond b no_events x) key ≡ cond b 0 (count_of x key)
made_count key true x = none_counted key
made_count key false x = refl

-- a group is made
pub follows_make : (s : State) (l : Ledger) (path : List ℕ) (n : ℕ) → AreCharges l → IsLeastFreeNumber l.groups n
    → FollowsSteps s l (make_steps path n) (with_new_group l n path)
unfolding peak_of events_of events_local_of account_at
follows_make s l path n facts least = record {
  peak = λ m is. made_read (λ (a : Account). a.peak) 0 l n m facts least.free refl;
  events = λ key m is. ap (λ (x : EventCounts). count_of x key) (made_read (λ (a : Account). a.events) no_events l n m facts least.free refl)
      ∙ made_count key (m == n) (read (λ (a : Account). a.events) no_events l.accounts m);
  events_local = λ key m is. ap (λ (x : EventCounts). count_of x key) (made_read (λ (a : Account). a.events_local) no_events l n m facts least.free refl)
      ∙ made_count key (m == n) (read (λ (a : Account). a.events_local) no_events l.accounts m);
}

-- ---- a group that is removed

removed_read : {X : Type 0} (r : Account → X) (x : X) (accounts : List Account) (g m : ℕ) → m ≢ g
    → read r x (filter (λ (a : Account). not (a.group == g)) accounts) m ≡ read r x accounts m
removed_read r x accounts g m other =
    ap (λ (o : Option Account). option_map_or r o x)
    (find-filter (λ (a : Account). a.group == m) (λ a. not (a.group == g)) accounts
    (λ k d lt t. not_from_false ((get_or accounts k d).group == g)
    (ne_eqb (get_or accounts k d).group g (λ e. other (sym (eqb-true (get_or accounts k d).group m t) ∙ e)))))

-- a group is removed: each that is still there has the account that it had
pub follows_remove : (s : State) (l : Ledger) (g : ℕ) → FollowsSteps s l (remove_steps g) (with_group_removed l g)
unfolding peak_of events_of events_local_of account_at
follows_remove s l g = record {
  peak = λ m is. removed_read (λ (a : Account). a.peak) 0 l.accounts g m (other m is);
  events = λ key m is. ap (λ (x : EventCounts). count_of x key) (removed_read (λ (a : Account). a.events) no_events l.accounts g m (other m is))
      ∙ sym (below_still key m s (remove_steps g) _ refl);
  events_local = λ key m is. ap (λ (x : EventCounts). count_of x key) (removed_read (λ (a : Account). a.events_local) no_events l.accounts g m (other m is))
      ∙ sym (at_still key m s (remove_steps g) _ refl);
}
  where
    other : (m : ℕ) → has_group (without_group s.groups g) m ≡ true → m ≢ g
    other m is e = true≢false (sym is ∙ ap (has_group (without_group s.groups g)) e ∙ gone_itself s.groups g)
