-- The stored usages stay the sums of the own pages. Serves the invariant of `Charges` and the clauses of `try_charge` that
-- speak of room.
use Rattle.std.proofs.Common.{◌≡◌, ◌≢◌, ℕ, ◌+◌, ◌-◌, ◌≤◌, Bool, true, false, cond, IsTrue, Option, None, List, length, replicate, sym, ap, ◌∙◌, subst, arith, ⊎_elim}
use Rattle.std.proofs.lemmas.Bool.{cases_Bool, cases_eq, cases_lt, cond-true, cond-false}
use Rattle.std.proofs.lemmas.List.{get_or-replicate, get_or_past, length-replicate}
use Rattle.group_tree.specs.declared.group.Group.{Group}
use Rattle.group_tree.specs.{room_of, is_passed, has_group, in_subtree}
use Rattle.group_tree.specs.declared.event.EventKey.{EventKey}
use Rattle.group_tree.proofs.GroupLemmas.{CanMake, room_of-initial, room_of-with, room_of-limited, room_of-flagged, room_of-without}
use Rattle.group_tree.proofs.Walks.{passed_all}
use Rattle.group_charge.specs.Charges.{Account, AreCharges, Ledger, ReclaimSettings, current_of, initial_ledger, pages_of, with_charge, with_group_limit}
use Rattle.group_charge.specs.Charges.{with_group_removed, with_noted, with_new_group, with_oom_flag, with_uncharge}
use Rattle.group_charge.specs.Kept.{AreSoundCharges, AreUsages, UsagesPassed, ledger_of, usage_by}
use Rattle.group_charge.proofs.SumLemmas.{usage-le-total}
use Rattle.group_charge.proofs.UsageLemmas.{usage-absent, usage-flagged, usage-limited, usage-new, usage-new_other, usage-noted}
use Rattle.group_charge.proofs.ChargeLemmas.{all_known, charge_rises, uncharge_falls}
use Rattle.group_charge.proofs.ReaderLemmas.{removed_usage}

-- ---- room by what is stored

-- ---- at first
pub stored_initial : (below : ℕ) → AreUsages (initial_ledger below) (replicate (1 + below) 0)
stored_initial below = record {
  size = let zero : ℕ = 0 in length-replicate (1 + below) zero ∙ sym (room_of-initial below);
  sums = λ g. zeros (1 + below) g ∙ sym (none g);
}
  where
    zeros : (n g : ℕ) → usage_by (replicate n 0) g ≡ 0
    zeros n g =
        let zero : ℕ = 0 in
        ⊎_elim
        (λ lt. get_or-replicate n g zero zero lt)
        (λ ge. let size = length-replicate n zero in get_or_past (replicate n zero) g zero (omega arith))
        (cases_lt g n)

    none : (g : ℕ) → current_of (initial_ledger below) g ≡ 0
    none g = omega (arith, usage-le-total (initial_ledger below).groups (initial_ledger below).accounts g)

-- ---- after a charge, and after one that was refused
pub stored_charged : (l : Ledger) (old new : List ℕ) (g n : ℕ) → AreCharges l → IsTrue (has_group l.groups g) → AreUsages l old → length new ≡ room_of l.groups →
    UsagesPassed l.groups g None (λ pages. pages + n) old new → AreUsages (with_charge l g n) new
stored_charged l old new g n facts there are size walked = record {
  size = size;
  sums = λ m.
      walked m ∙ ap (λ b. cond b (usage_by old m + n) (usage_by old m)) (passed_all l.groups g m)
      ∙ ap (λ u. cond (in_subtree l.groups m g) (u + n) u) (are.sums m) ∙ sym (charge_rises l g n facts there m);
}

-- ---- after pages were taken back
pub stored_taken : (l : Ledger) (old new : List ℕ) (g n : ℕ) → AreCharges l → IsTrue (has_group l.groups g) → n ≤ pages_of l g → AreUsages l old →
    length new ≡ room_of l.groups → UsagesPassed l.groups g None (λ pages. pages - n) old new → AreUsages (with_uncharge l g n) new
stored_taken l old new g n facts there enough are size walked = record {
  size = size;
  sums = λ m.
      let falls : current_of l m ≡ cond (in_subtree l.groups m g) (current_of (with_uncharge l g n) m + n) (current_of (with_uncharge l g n) m) =
      uncharge_falls l g n facts there enough m in
      let now : usage_by new m ≡ cond (in_subtree l.groups m g) (current_of l m - n) (current_of l m) =
      walked m ∙ ap (λ b. cond b (usage_by old m - n) (usage_by old m)) (passed_all l.groups g m)
      ∙ ap (λ u. cond (in_subtree l.groups m g) (u - n) u) (are.sums m) in
      ⊎_elim
      (λ t.
      let more : current_of l m ≡ current_of (with_uncharge l g n) m + n = falls
      ∙ cond-true (in_subtree l.groups m g) (current_of (with_uncharge l g n) m + n) (current_of (with_uncharge l g n) m) t in
      let less : usage_by new m ≡ current_of l m - n = now ∙ cond-true (in_subtree l.groups m g) (current_of l m - n) (current_of l m) t in
      omega arith)
      (λ f.
      now ∙ cond-false (in_subtree l.groups m g) (current_of l m - n) (current_of l m) f
      ∙ falls ∙ cond-false (in_subtree l.groups m g) (current_of (with_uncharge l g n) m + n) (current_of (with_uncharge l g n) m) f)
      (cases_Bool (in_subtree l.groups m g));
}

-- whoever is on the path has what is taken back
pub enough_stored : (l : Ledger) (usages : List ℕ) (g n m : ℕ) → AreCharges l → IsTrue (has_group l.groups g) → n ≤ pages_of l g →
    AreUsages l usages → IsTrue (is_passed l.groups g None m) → n ≤ usage_by usages m
enough_stored l usages g n m facts there enough are passed =
    let on : in_subtree l.groups m g ≡ true = sym (passed_all l.groups g m) ∙ passed in
    let falls : current_of l m ≡ current_of (with_uncharge l g n) m + n =
    uncharge_falls l g n facts there enough m
    ∙ cond-true (in_subtree l.groups m g) (current_of (with_uncharge l g n) m + n) (current_of (with_uncharge l g n) m) on in
    let stored = are.sums m in
    omega arith

-- ---- after what changes no usage
pub stored_noted : (key : EventKey) (l : Ledger) (usages : List ℕ) (g : ℕ) → AreUsages l usages → AreUsages (with_noted key l g) usages
stored_noted key l usages g are = record { size = are.size; sums = λ m. are.sums m ∙ sym (usage-noted key l.groups l.accounts g m) }

pub stored_limited : (l : Ledger) (usages : List ℕ) (g : ℕ) (limit : Option ℕ) → AreUsages l usages → AreUsages (with_group_limit l g limit) usages
stored_limited l usages g limit are = record { size = are.size ∙ sym (room_of-limited l.groups g limit); sums = λ m. are.sums m ∙ sym (usage-limited l.groups l.accounts g m limit) }

pub stored_flagged : (l : Ledger) (usages : List ℕ) (g : ℕ) (flag : Bool) → AreUsages l usages → AreUsages (with_oom_flag l g flag) usages
stored_flagged l usages g flag are = record { size = are.size ∙ sym (room_of-flagged l.groups g flag); sums = λ m. are.sums m ∙ sym (usage-flagged l.groups l.accounts g m flag) }

pub stored_new : (l : Ledger) (usages : List ℕ) (n : ℕ) (path : List ℕ) → AreCharges l → CanMake l.groups path → has_group l.groups n ≡ false →
    AreUsages l usages → AreUsages (with_new_group l n path) usages
stored_new l usages n path facts can free are = record {
  size = are.size ∙ sym (room_of-with l.groups n path);
  sums = λ m. are.sums m ∙
      ⊎_elim
      (λ same. ap (current_of l) same ∙ usage-absent l.groups l.accounts n free
      ∙ sym (ap (current_of (with_new_group l n path)) same ∙ usage-new l.groups l.accounts n path facts.groups can free (all_known l facts)))
      (λ other. sym (usage-new_other l.groups l.accounts n m path free (all_known l facts) other))
      (cases_eq m n);
}

pub stored_removed : (l : Ledger) (usages : List ℕ) (g : ℕ) → g ≢ 0 → AreCharges l → IsTrue (has_group l.groups g) → current_of l g ≡ 0 → AreUsages l usages →
    AreUsages (with_group_removed l g) usages
stored_removed l usages g below facts there empty are = record { size = are.size ∙ sym (room_of-without l.groups g below); sums = λ m. are.sums m ∙ sym (removed_usage l g m facts there empty) }

-- ---- all that is kept
-- what is kept for a ledger that is in order
pub kept_as : (groups : List Group) (accounts : List Account) (usages : List ℕ) (settings : List ReclaimSettings) (l : Ledger) → ledger_of groups accounts settings ≡ l →
    AreCharges l → length accounts ≡ room_of l.groups → AreUsages l usages → AreSoundCharges groups accounts usages settings
kept_as groups accounts usages settings l e facts size are = record {
  charges = subst AreCharges (sym e) facts;
  size = size ∙ ap (λ k. room_of k.groups) (sym e);
  usages_are = subst (λ k. AreUsages k usages) (sym e) are;
}
