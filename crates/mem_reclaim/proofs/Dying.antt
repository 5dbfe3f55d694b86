-- Who is in the set of those that die with a victim. Serves the laws.
use Rattle.std.proofs.Common.{◌≡◌, ℕ, zero, suc, ◌+◌, ◌<◌, ◌&&◌, true, false, List, [], ◌∷◌, cond, refl, sym, ap, ◌∙◌, subst, inl, inr, arith}
use Rattle.std.proofs.Common.{Contains}
use Rattle.std.specs.Prelude.{not}
use Rattle.std.specs.List.{range_with_len}
use Rattle.std.proofs.lemmas.Bool.{and_from, and_parts, cases_Bool, cases_eq, cond-false, cond-true, true≢false}
use Rattle.std.proofs.lemmas.List.Elements.{All-contains, Contains-append_left, Contains-push, filter_passes}
use Rattle.group_tree.specs.Groups.{in_subtree, is_oom_group, room_of}
use Rattle.group_tree.proofs.CallerLemmas.{either_above, in_subtree-below, in_subtree-trans}
use Rattle.group_tree.proofs.CallerLemmas.{number_in_room}
use Rattle.mem_machine.specs.Machines.{KnownMachine, is_killed}
use Rattle.mem_reclaim.specs.declared.sets.Killed.{Killed}
use Rattle.mem_reclaim.specs.{FlaggedGroupsDieWhole, IsChosen, HasAllOrNone, OnlyTheLivingDie, VictimsDie, HasNoFlagged, IsKilledRoot}
use Rattle.mem_reclaim.specs.{IsHighestFlagged, alive_in_subtree, kill_set, may_be_killed}
use Rattle.mem_reclaim.proofs.Alive.{alive_more, alive_next, alive_to}
use Rattle.mem_reclaim.proofs.KilledRoots.{on_path_is, victim_unflagged}
use Rattle.mem_reclaim.proofs.KillSets.{all_one}

-- ---- the groups of a subtree that aren't killed

alive_in : (m : KnownMachine) (root k j : ℕ) → j < k → may_be_killed m root j ≡ true → Contains (alive_to m root k) j
alive_in m root zero j lt is = absurd (omega (arith, lt))
alive_in m root (suc k) j lt is =
    let next : k + 1 ≡ suc k = omega arith in
    subst (λ (n : ℕ). Contains (alive_to m root n) j) next (elim (cases_eq j k) [
      | inl e ↦
          subst (λ (x : ℕ). Contains (alive_to m root (k + 1)) x) (sym e)
          (subst (λ (l : List ℕ). Contains l k) (sym (alive_more m root k (subst (λ (x : ℕ). may_be_killed m root x ≡ true) e is)))
          (Contains-push (alive_to m root k) k))
      | inr ne ↦
          subst (λ (l : List ℕ). Contains l j) (sym (alive_next m root k))
          (Contains-append_left (alive_to m root k) (cond (may_be_killed m root k) (k ∷ []) []) j (alive_in m root k j (omega (arith, lt, ne)) is))
    ])

module _ (m : KnownMachine) (limited : ℕ) (killed : Killed) (is : IsChosen m limited killed) where
  low : (root j : ℕ) → may_be_killed m root j ≡ true → j < room_of m.ledger.groups
  low root j may = number_in_room m.ledger.groups j is.groups (in_subtree-below m.ledger.groups root j (and_parts (in_subtree m.ledger.groups root j) _ may).0)

  in_set : (root j : ℕ) → may_be_killed m root j ≡ true → Contains (alive_in_subtree m root) j
  in_set root j may = alive_in m root (room_of m.ledger.groups) j (low root j may) may

  of_set : (root j : ℕ) → Contains (alive_in_subtree m root) j → may_be_killed m root j ≡ true
  of_set root j there =
      All-contains (λ (x : ℕ). may_be_killed m root x ≡ true) (alive_in_subtree m root) j (filter_passes (may_be_killed m root) (range_with_len 0 (room_of m.ledger.groups))) there

  -- whoever may be killed for the lower of two groups may be killed for the higher one
  may_above : (g h j : ℕ) → in_subtree m.ledger.groups g h ≡ true → may_be_killed m h j ≡ true → may_be_killed m g j ≡ true
  may_above g h j below may =
      let p = and_parts (in_subtree m.ledger.groups h j) (not (is_killed m.killed j)) may in
      and_from (in_subtree m.ledger.groups g j) (not (is_killed m.killed j)) (in_subtree-trans m.ledger.groups g h j below p.0) p.1

  -- ---- with a flag

  module _ (high : IsHighestFlagged m.ledger.groups limited killed.victim killed.killed_root) where
    set_all : kill_set m killed ≡ alive_in_subtree m killed.killed_root
    set_all =
        cond-true (is_oom_group m.ledger.groups killed.killed_root) (alive_in_subtree m killed.killed_root) (killed.victim ∷ [])
        (on_path_is m.ledger.groups limited killed.victim killed.killed_root high.between).flag

    whole_inside : (g : ℕ) → in_subtree m.ledger.groups killed.killed_root g ≡ true → HasAllOrNone m g (kill_set m killed)
    whole_inside g inside = inl (λ other may.
        subst (λ (l : List ℕ). Contains l other) (sym set_all) (in_set killed.killed_root other (may_above killed.killed_root g other inside may)))

    whole_outside : (g : ℕ) → in_subtree m.ledger.groups limited g ≡ true → is_oom_group m.ledger.groups g ≡ true
        → in_subtree m.ledger.groups killed.killed_root g ≡ false → HasAllOrNone m g (kill_set m killed)
    whole_outside g below flag outside = inr (λ other may there.
        let dies = of_set killed.killed_root other (subst (λ (l : List ℕ). Contains l other) set_all there) in
        let under_root = (and_parts (in_subtree m.ledger.groups killed.killed_root other) _ dies).0 in
        let under_g = (and_parts (in_subtree m.ledger.groups g other) _ may).0 in
        let inside : in_subtree m.ledger.groups killed.killed_root g ≡ true = elim (either_above m.ledger.groups killed.killed_root g other under_root
        under_g) [
          | inl is_inside ↦ is_inside
          | inr above ↦
              let path = on_path_is m.ledger.groups limited killed.victim killed.killed_root high.between in
              high.highest g (and_from (in_subtree m.ledger.groups limited g && in_subtree m.ledger.groups g killed.victim) (is_oom_group m.ledger.groups g)
              (and_from (in_subtree m.ledger.groups limited g) (in_subtree m.ledger.groups g killed.victim) below
              (in_subtree-trans m.ledger.groups g killed.killed_root killed.victim above path.above)) flag)
        ] in
        true≢false (sym inside ∙ outside))

    flagged_whole : (g : ℕ) → in_subtree m.ledger.groups limited g ≡ true → is_oom_group m.ledger.groups g ≡ true → HasAllOrNone m g (kill_set m killed)
    flagged_whole g below flag = elim (cases_Bool (in_subtree m.ledger.groups killed.killed_root g)) [
      | inl inside ↦ whole_inside g inside
      | inr outside ↦ whole_outside g below flag outside
    ]

    flagged_victim : Contains (kill_set m killed) killed.victim
    flagged_victim =
        let path = on_path_is m.ledger.groups limited killed.victim killed.killed_root high.between in
        let may = and_parts (in_subtree m.ledger.groups limited killed.victim) (not (is_killed m.killed killed.victim)) is.chosen.chosen in
        subst (λ (l : List ℕ). Contains l killed.victim) (sym set_all)
        (in_set killed.killed_root killed.victim (and_from (in_subtree m.ledger.groups killed.killed_root killed.victim)
        (not (is_killed m.killed killed.victim)) path.above may.1))

    flagged_living : (g : ℕ) → Contains (kill_set m killed) g → may_be_killed m limited g ≡ true
    flagged_living g there =
        may_above limited killed.killed_root g (on_path_is m.ledger.groups limited killed.victim killed.killed_root high.between).below
        (of_set killed.killed_root g (subst (λ (l : List ℕ). Contains l g) set_all there))

  -- ---- without a flag

  module _ (none : HasNoFlagged m.ledger.groups limited killed.victim) (itself : killed.killed_root ≡ killed.victim) where
    victim_below : in_subtree m.ledger.groups limited killed.victim ≡ true
    victim_below = (and_parts (in_subtree m.ledger.groups limited killed.victim) (not (is_killed m.killed killed.victim)) is.chosen.chosen).0

    set_alone : kill_set m killed ≡ killed.victim ∷ []
    set_alone =
        cond-false (is_oom_group m.ledger.groups killed.killed_root) (alive_in_subtree m killed.killed_root) (killed.victim ∷ [])
        (ap (is_oom_group m.ledger.groups) itself ∙ victim_unflagged m.ledger.groups limited killed.victim victim_below none)

    only_victim : (g : ℕ) → Contains (kill_set m killed) g → g ≡ killed.victim
    only_victim g there =
        All-contains (λ (x : ℕ). x ≡ killed.victim) (killed.victim ∷ []) g (all_one (λ (x : ℕ). x ≡ killed.victim) killed.victim refl)
        (subst (λ (l : List ℕ). Contains l g) set_alone there)

    alone_whole : (g : ℕ) → in_subtree m.ledger.groups limited g ≡ true → is_oom_group m.ledger.groups g ≡ true → HasAllOrNone m g (kill_set m killed)
    alone_whole g below flag = inr (λ other may there.
        let under_g : in_subtree m.ledger.groups g killed.victim ≡ true =
        subst (λ (x : ℕ). in_subtree m.ledger.groups g x ≡ true) (only_victim other there) (and_parts (in_subtree m.ledger.groups g other) _ may).0 in
        true≢false (sym (and_from (in_subtree m.ledger.groups limited g && in_subtree m.ledger.groups g killed.victim) (is_oom_group m.ledger.groups g)
        (and_from (in_subtree m.ledger.groups limited g) (in_subtree m.ledger.groups g killed.victim) below under_g) flag) ∙ none g))

    alone_victim : Contains (kill_set m killed) killed.victim
    alone_victim = subst (λ (l : List ℕ). Contains l killed.victim) (sym set_alone) (Contains-push [] killed.victim)

    alone_living : (g : ℕ) → Contains (kill_set m killed) g → may_be_killed m limited g ≡ true
    alone_living g there = subst (λ (x : ℕ). may_be_killed m limited x ≡ true) (sym (only_victim g there)) is.chosen.chosen

-- ---- the laws

whole_by : (m : KnownMachine) (limited : ℕ) (killed : Killed) → IsChosen m limited killed → IsKilledRoot m.ledger.groups limited killed
    → (g : ℕ) → in_subtree m.ledger.groups limited g ≡ true → is_oom_group m.ledger.groups g ≡ true → HasAllOrNone m g (kill_set m killed)
whole_by m limited killed is (inl high) g below flag = flagged_whole m limited killed is high g below flag
whole_by m limited killed is (inr alone) g below flag = alone_whole m limited killed is alone.0 alone.1 g below flag

victim_by : (m : KnownMachine) (limited : ℕ) (killed : Killed) → IsChosen m limited killed → IsKilledRoot m.ledger.groups limited killed
    → Contains (kill_set m killed) killed.victim
victim_by m limited killed is (inl high) = flagged_victim m limited killed is high
victim_by m limited killed is (inr alone) = alone_victim m limited killed is alone.0 alone.1

living_by : (m : KnownMachine) (limited : ℕ) (killed : Killed) → IsChosen m limited killed → IsKilledRoot m.ledger.groups limited killed
    → (g : ℕ) → Contains (kill_set m killed) g → may_be_killed m limited g ≡ true
living_by m limited killed is (inl high) g there = flagged_living m limited killed is high g there
living_by m limited killed is (inr alone) g there = alone_living m limited killed is alone.0 alone.1 g there

pub flagged_die_whole : FlaggedGroupsDieWhole
flagged_die_whole m limited killed is g below flag = whole_by m limited killed is is.killed_root_is g below flag

pub victims_die : VictimsDie
victims_die m limited killed is = victim_by m limited killed is is.killed_root_is

pub only_the_living : OnlyTheLivingDie
only_the_living m limited killed is g there = living_by m limited killed is is.killed_root_is g there
