-- At the boot the ledger agrees with the run, which has no step. Serves `a_boot_agrees`, and the invariant of `Locked`.
use Rattle.std.proofs.Common.{◌≡◌, ℕ, ◌==◌, ◌||◌, Bool, true, false, Option, Some, None, [], cond, refl, sym, ap, ◌∙◌, subst, inl, inr}
use Rattle.std.specs.Option.{option_map_or}
use Rattle.std.proofs.lemmas.Bool.{cases_eq, ne_eqb, true≢false}
use Rattle.group_tree.specs.declared.event.EventKey.{EventKey}
use Rattle.group_tree.specs.{count_of, no_events, has_group}
use Rattle.group_tree.proofs.EventLemmas.{none_counted}
use Rattle.group_tree.proofs.GroupLemmas.{has_group-any}
use Rattle.group_charge.specs.declared.account.Account.{Account}
use Rattle.group_charge.specs.Charges.{account_at, empty_account, events_local_of, events_of, peak_of}
use Rattle.step_rules.specs.Peaks.{IsPeak}
use Rattle.step_rules.specs.State.{Zone, boot_groups}
use Rattle.step_rules.proofs.Noting.{events_are_counted}
use Rattle.step_rules.proofs.Peaking.{peaks_are_kept}
use Rattle.boot_words.specs.{zone_of_boot, KnownTable}
use Rattle.mem_machine.specs.Machines.{boot_ledger}
use Rattle.mem_machine.specs.{AgreesWithRun}

-- the one account there, or none
abbrev found : Bool → Option Account
found b = cond b (Some (empty_account 0)) None

none_below : (key : EventKey) (b : Bool) → count_of (option_map_or (λ (a : Account). a.events) (found b) no_events) key ≡ 0
none_below key true = none_counted key
none_below key false = none_counted key

none_at : (key : EventKey) (b : Bool) → count_of (option_map_or (λ (a : Account). a.events_local) (found b) no_events) key ≡ 0
none_at key true = none_counted key
none_at key false = none_counted key

first_events : (groups : ℕ) (key : EventKey) (m : ℕ) → count_of (events_of (boot_ledger groups) m) key ≡ 0
unfolding events_of account_at
first_events groups key m = none_below key (0 == m)

first_events_local : (groups : ℕ) (key : EventKey) (m : ℕ) → count_of (events_local_of (boot_ledger groups) m) key ≡ 0
unfolding events_local_of account_at
first_events_local groups key m = none_at key (0 == m)

first_peak : (groups : ℕ) → peak_of (boot_ledger groups) 0 ≡ 0
unfolding peak_of account_at
first_peak groups = refl

-- there is the root alone
root_alone : (zone : Zone) (m : ℕ) → has_group (boot_groups zone) m ≡ true → m ≡ 0
root_alone zone m there = elim (cases_eq m 0) [
  | inl e ↦ e
  | inr ne ↦ absurd (true≢false (sym there ∙ has_group-any (boot_groups zone) m ∙ ap (λ (b : Bool). b || false) (ne_eqb 0 m (λ e. ne (sym e)))))
]

pub first_agrees : (t : KnownTable) → AgreesWithRun t [] (boot_ledger t.choices.groups)
first_agrees t =
    let zone = zone_of_boot t in
    record {
      peak = λ g there. subst (λ (k : ℕ). IsPeak zone [] k (peak_of (boot_ledger t.choices.groups) k)) (sym (root_alone zone g there))
          (subst (IsPeak zone [] 0) (sym (first_peak t.choices.groups)) (peaks_are_kept.boot zone));
      events = λ key g there. first_events t.choices.groups key g ∙ sym (events_are_counted.boot zone key g).0;
      events_local = λ key g there. first_events_local t.choices.groups key g ∙ sym (events_are_counted.boot zone key g).1;
    }
