-- What breaks the laws of kills because a unit wasn't tried. Serves `breaches`.
use Rattle.std.proofs.Common.{◌≡◌, ℕ, ◌≤◌, true, false, Some, List, [], ◌∷◌, inl, inr, refl, sym, subst, arith}
use Rattle.group_tree.specs.Path.{names_of, parent_path}
use Rattle.group_tree.specs.Groups.{group_at, in_subtree, number_at, parent_of, path_of}
use Rattle.group_charge.specs.Charges.{usage_charged}
use Rattle.group_protection.specs.Protections.{IsKeptByMin, effective, min_key}
use Rattle.group_protection.proofs.Effective.{effective-same}
use Rattle.lru_lists.specs.declared.record.LruList.TheVariants.{Inactive}
use Rattle.lru_lists.specs.Queue.{link_at}
use Rattle.boot_words.specs.Tables.{KnownTable}
use Rattle.mem_machine.specs.{KnownMachine, home_of}
use Rattle.mem_reclaim.specs.declared.sets.Killed.{Killed}
use Rattle.mem_reclaim.specs.{MissedAll}
use Rattle.mem_alloc.specs.KillBreaches.{Situation, HasRuns, IsTooEarly, call_in, full_with_min}

-- memory.min doesn't keep /a/b if nothing protects it
not_kept : (mins : List ℕ) (limited : ℕ) → effective min_key (full_with_min mins) limited 2 ≡ 0 → ¬ IsKeptByMin (full_with_min mins) (full_with_min mins) limited 2
not_kept mins limited none kept =
    let same = effective-same min_key kept.turn (full_with_min mins) limited (sym kept.groups) (sym kept.settings)
    (λ other. let x = kept.since other in let y = kept.until other in omega (arith, x, y)) 2 in
    let some = kept.some in
    omega (arith, same, some, none)

pub unset : ¬ IsKeptByMin (full_with_min []) (full_with_min []) 1 2
unfolding effective parent_of parent_path number_at usage_charged in_subtree path_of group_at names_of
unset = not_kept [] 1 refl

pub stranger : ¬ IsKeptByMin (full_with_min (0 ∷ 0 ∷ 0 ∷ 0 ∷ 3 ∷ [])) (full_with_min (0 ∷ 0 ∷ 0 ∷ 0 ∷ 3 ∷ [])) 1 2
unfolding effective parent_of parent_path number_at usage_charged in_subtree path_of group_at names_of
stranger = not_kept (0 ∷ 0 ∷ 0 ∷ 0 ∷ 3 ∷ []) 1 refl

pub unset_below_root : ¬ IsKeptByMin (full_with_min []) (full_with_min []) 0 2
unfolding effective parent_of parent_path number_at usage_charged in_subtree path_of group_at names_of
unset_below_root = not_kept [] 0 refl

-- frame 0 of /a/b is clean, no freeze of it missed in the call, and memory.min doesn't keep it
module _ (s : Situation) (below : in_subtree s.ledger.groups 1 2 ≡ true) (kept : home_of s.links 0 ≡ Some (record { owner = 2; list = Inactive }))
    (clean : (link_at s.links 0).is_dirty ≡ false) (none : s.misses ≤ s.misses_before) (unprotected : ¬ IsKeptByMin s.ledger_before s.ledger 1 2) where
  pub not_missed : (table : KnownTable) (before after : KnownMachine) → HasRuns s table before after
      → ¬ MissedAll 1 (call_in s table before after).before (call_in s table before after).after
  not_missed table before after runs all = elim (all 2 below) [
    | inl missed ↦
        let rose = missed 0 Inactive kept clean in
        let a = runs.misses_before in
        let b = runs.misses in
        omega (arith, rose, a, b, none)
    | inr spared ↦ unprotected spared
  ]

  pub too_early : (killed : Killed) → IsTooEarly s killed
  too_early killed table before after runs may = not_missed table before after runs
      (subst (λ (g : ℕ). MissedAll g (call_in s table before after).before (call_in s table before after).after) may.asked.0 may.missed)
