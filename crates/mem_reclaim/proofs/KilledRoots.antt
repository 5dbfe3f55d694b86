-- The highest flagged group on a path, as far as the walk up has come. Serves `highest_flagged` and `kill`.
use Rattle.std.proofs.Common.{◌≡◌, ◌≢◌, ℕ, ◌==◌, ◌&&◌, Bool, true, false, Option, Some, None, IsTrue, List, [], ◌∷◌, refl, sym, ap, ◌∙◌, subst, inl, inr}
use Rattle.std.specs.Prelude.{IfSome, not}
use Rattle.std.proofs.lemmas.Bool.{and_parts, and_cases, and_from, cases_Bool, cases_eq, eq-eqb, false_from_ne_true, ne_eqb, not-true, not_from_false}
use Rattle.std.proofs.lemmas.Bool.{true≢false}
use Rattle.group_tree.specs.declared.group.Group.{Group}
use Rattle.group_tree.specs.{ancestors_of, is_passed, AreGroups, has_group, in_subtree, is_oom_group, parent_of}
use Rattle.group_tree.proofs.CallerLemmas.{either_above, in_subtree-antisym, in_subtree-below, in_subtree-refl}
use Rattle.group_tree.proofs.Walks.{TurnAt, WalkAt, at_end_passed, at_next, at_on, at_start, at_turn, passed_here, passed_none, passed_on, passed_other}
use Rattle.mem_reclaim.specs.Sets.{HasNoFlagged, IsFlaggedAbove, is_flagged_between}

-- ---- a flagged group on the path

-- what is true of a flagged group on the path
pub record OnPath (groups : List Group) (limited victim group : ℕ) : Type 0 where
  pub below : in_subtree groups limited group ≡ true
  pub above : in_subtree groups group victim ≡ true
  pub flag : is_oom_group groups group ≡ true

pub on_path_is : (groups : List Group) (limited victim group : ℕ) → is_flagged_between groups limited victim group ≡ true → OnPath groups limited victim group
on_path_is groups limited victim group is =
    let p = and_parts (in_subtree groups limited group && in_subtree groups group victim) (is_oom_group groups group) is in
    let q = and_parts (in_subtree groups limited group) (in_subtree groups group victim) p.0 in
    record { below = q.0; above = q.1; flag = p.1 }

pub on_path_there : (groups : List Group) (limited victim group : ℕ) → is_flagged_between groups limited victim group ≡ true → IsTrue (has_group groups group)
on_path_there groups limited victim group is = in_subtree-below groups limited group (on_path_is groups limited victim group is).below

-- ---- as far as the walk up has come

-- of the flagged groups that the walk has passed this one is the highest
pub record HighestPassed (groups : List Group) (victim : ℕ) (next : Option ℕ) (root : ℕ) : Type 0 where
  pub flag : is_oom_group groups root ≡ true
  pub passed : is_passed groups victim next root ≡ true
  pub highest : (k : ℕ) → is_passed groups victim next k ≡ true → is_oom_group groups k ≡ true → in_subtree groups root k ≡ true

-- the highest of them, or there is none
abbrev pub HighestSoFar : List Group → (victim : ℕ) (next : Option ℕ) → Option ℕ → Type 0
HighestSoFar groups victim next None = (k : ℕ) → is_passed groups victim next k ≡ true → is_oom_group groups k ≡ false
HighestSoFar groups victim next (Some root) = HighestPassed groups victim next root

-- the group isn't this one
abbrev pub is_other : ℕ → ℕ → Bool
is_other limited k = not (k == limited)

-- the walk up from the victim, which hasn't passed the group `limited` yet
pub record RootSoFar (groups : List Group) (limited victim : ℕ) (root : Option ℕ) (left : List ℕ) : Type 0 where
  pub next : Option ℕ
  pub walk : WalkAt groups (is_other limited) victim next left
  pub so : HighestSoFar groups victim next root

pub head_first : (groups : List Group) (limited victim : ℕ) (left : List ℕ) → has_group groups victim ≡ true → left ≡ ancestors_of groups victim
    → RootSoFar groups limited victim None left
head_first groups limited victim left there is = record {
  next = Some victim;
  walk = at_start groups (is_other limited) victim left there is;
  so = λ k passed. absurd (true≢false (sym passed ∙ passed_none groups victim k));
}

-- the turn of group m, at which the walk has come
pub record RootTurn (groups : List Group) (limited victim m : ℕ) (root : Option ℕ) (rest : List ℕ) : Type 0 where
  pub turn : TurnAt groups (is_other limited) victim m rest
  pub so : HighestSoFar groups victim (Some m) root

pub root_turn : (groups : List Group) → AreGroups groups → (limited victim m : ℕ) (root : Option ℕ) (left rest : List ℕ)
    → RootSoFar groups limited victim root left
    → left ≡ m ∷ rest → RootTurn groups limited victim m root rest
root_turn groups facts limited victim m root left rest s is = record {
  turn = at_turn groups (is_other limited) victim m s.next left rest facts s.walk is;
  so = subst (λ (o : Option ℕ). HighestSoFar groups victim o root) (at_next groups (is_other limited) victim m s.next left rest facts s.walk is) s.so;
}

-- who was passed on the way to m, and isn't m
module _ (groups : List Group) (facts : AreGroups groups) (victim m : ℕ) (there : has_group groups m ≡ true) where
  passed_before : (k : ℕ) → k ≢ m → is_passed groups victim (parent_of groups m) k ≡ true → is_passed groups victim (Some m) k ≡ true
  passed_before k ne passed = passed_other groups victim m k facts there ne ∙ passed

  passed_after : (k : ℕ) → k ≢ m → is_passed groups victim (Some m) k ≡ true → is_passed groups victim (parent_of groups m) k ≡ true
  passed_after k ne passed = sym (passed_other groups victim m k facts there ne) ∙ passed

  -- it is below m
  below_turn : in_subtree groups m victim ≡ true → (k : ℕ) → is_passed groups victim (Some m) k ≡ true → in_subtree groups m k ≡ true
  below_turn on k passed =
      let p = and_parts (in_subtree groups k victim) (not (in_subtree groups k m)) passed in
      elim (either_above groups m k victim on p.0) [
        | inl below ↦ below
        | inr above ↦ absurd (true≢false (sym above ∙ not-true (in_subtree groups k m) p.1))
      ]

  turn_flagged : in_subtree groups m victim ≡ true → is_oom_group groups m ≡ true → HighestPassed groups victim (parent_of groups m) m
  turn_flagged on flag = record {
    flag = flag;
    passed = passed_on groups victim m facts on;
    highest = λ k passed is. elim (cases_eq k m) [
      | inl e ↦ subst (λ (x : ℕ). in_subtree groups m x ≡ true) (sym e) (in_subtree-refl groups m there)
      | inr ne ↦ below_turn on k (passed_before k ne passed)
    ];
  }

  turn_plain : (root : Option ℕ) → HighestSoFar groups victim (Some m) root → is_oom_group groups m ≡ false
      → HighestSoFar groups victim (parent_of groups m) root
  turn_plain None so flag = λ k passed. elim (cases_eq k m) [
    | inl e ↦ ap (is_oom_group groups) e ∙ flag
    | inr ne ↦ so k (passed_before k ne passed)
  ]
  turn_plain (Some h) so flag =
      let other : h ≢ m = λ e. true≢false (sym so.passed ∙ ap (is_passed groups victim (Some m)) e ∙ passed_here groups victim m there) in
      record {
        flag = so.flag;
        passed = passed_after h other so.passed;
        highest = λ k passed is. elim (cases_eq k m) [
          | inl e ↦ absurd (true≢false (sym is ∙ ap (is_oom_group groups) e ∙ flag))
          | inr ne ↦ so.highest k (passed_before k ne passed) is
        ];
      }

  -- the walk has passed m as the last one, and each group between m and the victim
  passed_between : in_subtree groups m victim ≡ true → (k : ℕ) → in_subtree groups m k ≡ true → in_subtree groups k victim ≡ true
      → is_passed groups victim (parent_of groups m) k ≡ true
  passed_between on k below up = elim (cases_eq k m) [
    | inl e ↦ subst (λ (x : ℕ). is_passed groups victim (parent_of groups m) x ≡ true) (sym e) (passed_on groups victim m facts on)
    | inr ne ↦
        passed_after k ne
        (and_from (in_subtree groups k victim) (not (in_subtree groups k m)) up
        (not_from_false (in_subtree groups k m) (false_from_ne_true (in_subtree groups k m) (λ t. ne (in_subtree-antisym groups k m facts t below)))))
  ]

  between_passed : in_subtree groups m victim ≡ true → (k : ℕ) → is_passed groups victim (parent_of groups m) k ≡ true → in_subtree groups m k ≡ true
  between_passed on k passed = elim (cases_eq k m) [
    | inl e ↦ subst (λ (x : ℕ). in_subtree groups m x ≡ true) (sym e) (in_subtree-refl groups m there)
    | inr ne ↦ below_turn on k (passed_before k ne passed)
  ]

  -- so if m is the group `limited`, this is the highest flagged group on the path
  pub passed_limited : in_subtree groups m victim ≡ true → (root : Option ℕ) → HighestSoFar groups victim (parent_of groups m) root
      → IsFlaggedAbove groups m victim root
  passed_limited on None so = λ k. elim (cases_Bool (is_flagged_between groups m victim k)) [
    | inl is ↦
        let p = on_path_is groups m victim k is in
        absurd (true≢false (sym p.flag ∙ so k (passed_between on k p.below p.above)))
    | inr none ↦ none
  ]
  passed_limited on (Some h) so = record {
    between = and_from (in_subtree groups m h && in_subtree groups h victim) (is_oom_group groups h)
        (and_from (in_subtree groups m h) (in_subtree groups h victim) (between_passed on h so.passed)
        (and_parts (in_subtree groups h victim) _ so.passed).0) so.flag;
    highest = λ k is. let p = on_path_is groups m victim k is in so.highest k (passed_between on k p.below p.above) p.flag;
  }

-- the highest flagged group after the turn of m, by whether m is flagged
abbrev pub root_after : Bool → ℕ → Option ℕ → Option ℕ
root_after true m root = Some m
root_after false m root = root

pub turn_after : (groups : List Group) → AreGroups groups → (limited victim m : ℕ) (root : Option ℕ) (rest : List ℕ)
    → RootTurn groups limited victim m root rest
    → (flag : Bool) → is_oom_group groups m ≡ flag → HighestSoFar groups victim (parent_of groups m) (root_after flag m root)
turn_after groups facts limited victim m root rest t true is = turn_flagged groups facts victim m t.turn.there t.turn.walked.on_path is
turn_after groups facts limited victim m root rest t false is = turn_plain groups facts victim m t.turn.there root t.so is

-- the walk goes on
pub root_on : (groups : List Group) → AreGroups groups → (limited victim m : ℕ) (root : Option ℕ) (rest : List ℕ) → RootTurn groups limited victim m root rest
    → (flag : Bool) → is_oom_group groups m ≡ flag → m ≢ limited → RootSoFar groups limited victim (root_after flag m root) rest
root_on groups facts limited victim m root rest t flag is other = record {
  next = parent_of groups m;
  walk = at_on groups (is_other limited) victim m rest facts t.turn (not_from_false (m == limited) (ne_eqb m limited other));
  so = turn_after groups facts limited victim m root rest t flag is;
}

-- it has come to the group `limited`
pub root_end : (groups : List Group) → AreGroups groups → (limited victim m : ℕ) (root : Option ℕ) (rest : List ℕ) → RootTurn groups limited victim m root rest
    → (flag : Bool) → is_oom_group groups m ≡ flag → m ≡ limited → IsFlaggedAbove groups limited victim (root_after flag m root)
root_end groups facts limited victim m root rest t flag is same =
    subst (λ (x : ℕ). IsFlaggedAbove groups x victim (root_after flag m root)) same
    (passed_limited groups facts victim m t.turn.there t.turn.walked.on_path (root_after flag m root)
    (turn_after groups facts limited victim m root rest t flag is))

-- it comes to it, since that is on the path
pub never_past : (groups : List Group) → AreGroups groups → (limited victim : ℕ) (root : Option ℕ) (left : List ℕ) → RootSoFar groups limited victim root left
    → left ≡ [] → in_subtree groups limited victim ≡ true → ⊥
never_past groups facts limited victim root left s none below =
    let odd = at_end_passed groups (is_other limited) victim s.next left facts s.walk none limited below in
    true≢false (sym (eq-eqb limited limited refl) ∙ not-true (limited == limited) odd)

-- the root has no flag
pub never_root : (groups : List Group) → AreGroups groups → (limited victim : ℕ) (root : Option ℕ) → IsFlaggedAbove groups limited victim root
    → IfSome root (λ h. h ≢ 0)
never_root groups facts limited victim None so = tt
never_root groups facts limited victim (Some h) so = λ e.
    true≢false (sym (on_path_is groups limited victim h so.between).flag ∙ ap (is_oom_group groups) e ∙ facts.root_flag)

-- without a flagged group on the path the victim, which is on it, isn't flagged
pub victim_unflagged : (groups : List Group) (limited victim : ℕ) → in_subtree groups limited victim ≡ true → HasNoFlagged groups limited victim
    → is_oom_group groups victim ≡ false
victim_unflagged groups limited victim below none =
    let self = in_subtree-refl groups victim (in_subtree-below groups limited victim below) in
    let path = and_from (in_subtree groups limited victim) (in_subtree groups victim victim) below self in
    elim (and_cases (in_subtree groups limited victim && in_subtree groups victim victim) (is_oom_group groups victim) (none victim)) [
      | inl odd ↦ absurd (true≢false (sym path ∙ odd))
      | inr flag ↦ flag
    ]
