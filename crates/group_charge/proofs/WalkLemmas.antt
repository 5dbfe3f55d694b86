-- A walk over `Tree::ancestors` that changes what is kept under the number of each group that it passes. Serves the contracts
-- of `walks::add_until_over`, `subtract_until`, `raise_peaks` and `count_max`.
use Rattle.std.proofs.Common.{◌≡◌, ℕ, ◌<◌, Bool, true, false, not, cond, ◌==◌, IsTrue, IfSome, Option, Some, None, List, [], ◌∷◌, length, get_or, set}
use Rattle.std.proofs.Common.{arith, refl, sym, ap, ◌∙◌, subst, ⊎_elim}
use Rattle.std.specs.Prelude.{nat_eq}
use Rattle.std.specs.Option.{option_eq}
use Rattle.std.proofs.lemmas.Bool.{cases_eq, cond-true, cond-false, eq-eqb, eqb-true, false_from_ne_true, false≢true}
use Rattle.std.proofs.lemmas.List.{get_or-set_other, get_or-set_same, length-set}
use Rattle.group_tree.specs.declared.group.Group.{Group}
use Rattle.group_tree.specs.{ancestors_of, is_passed, room_of, AreGroups, has_group, in_subtree, parent_of, on_path}
use Rattle.group_tree.proofs.CallerLemmas.{in_subtree-antisym, number_in_room}
use Rattle.group_tree.proofs.Walks.{TurnAt, WalkAt, WalkedTo, at_end, at_end_passed, at_next, at_on, at_start, at_turn, passed_all, passed_here}
use Rattle.group_tree.proofs.Walks.{passed_none, passed_on, passed_other}

-- ---- a list in which a walk changes one entry after another
module _ (X : Type 0) (d : X) (groups : List Group) (test : ℕ → Bool) (g : ℕ) (f : ℕ → X → X) (old : List X) where
  -- whoever was passed before `next` is changed, and nobody else
  abbrev pub IsChanged : Option ℕ → List X → Type 0
  IsChanged next new = (k : ℕ) → get_or new k d ≡ cond (is_passed groups g next k) (f k (get_or old k d)) (get_or old k d)

  -- these are left of the walk, whoever was passed passes the test, and the list has come so far
  pub record Walking (left : List ℕ) (new : List X) : Type 0 where
    pub next : Option ℕ
    pub at : WalkAt groups test g next left
    pub changed : IsChanged next new
    pub size : length new ≡ length old

  pub walking_start : (left : List ℕ) → has_group groups g ≡ true → left ≡ ancestors_of groups g → Walking left old
  walking_start left there e = record {
    next = Some g;
    at = at_start groups test g left there e;
    changed = λ k. sym (cond-false (is_passed groups g (Some g) k) (f k (get_or old k d)) (get_or old k d) (passed_none groups g k));
    size = refl;
  }

  -- the walk has come to m, whose entry is the old one
  pub record Turn (m : ℕ) (rest : List ℕ) (new : List X) : Type 0 where
    pub turn : TurnAt groups test g m rest
    pub changed : IsChanged (Some m) new
    pub own : get_or new m d ≡ get_or old m d
    pub size : length new ≡ length old

  pub walking_turn : (m : ℕ) (left rest : List ℕ) (new : List X) → AreGroups groups → Walking left new → left ≡ m ∷ rest → Turn m rest new
  walking_turn m left rest new facts w e =
      let turn = at_turn groups test g m w.next left rest facts w.at e in
      let here : IsChanged (Some m) new = subst (λ o. IsChanged o new) (at_next groups test g m w.next left rest facts w.at e) w.changed in
      record {
        turn = turn;
        changed = here;
        own = here m ∙ cond-false (is_passed groups g (Some m) m) (f m (get_or old m d)) (get_or old m d) (passed_here groups g m turn.there);
        size = w.size;
      }

  -- the list has an entry for m
  pub walking_within : (m : ℕ) (rest : List ℕ) (new : List X) → AreGroups groups → length old ≡ room_of groups → Turn m rest new → m < length new
  walking_within m rest new facts size t = omega (arith, number_in_room groups m facts t.turn.there, t.size, size)

  -- once it is changed, the walk goes on
  pub walking_on : (m : ℕ) (rest : List ℕ) (new : List X) (item : X) → AreGroups groups → Turn m rest new → test m ≡ true → m < length new →
      item ≡ f m (get_or old m d) → Walking rest (set new m item)
  walking_on m rest new item facts t passes within e = record {
    next = parent_of groups m;
    at = at_on groups test g m rest facts t.turn passes;
    changed = λ k.
        ⊎_elim
        (λ same.
        let here : get_or (set new m item) m d ≡ f m (get_or old m d) = get_or-set_same new m item d within ∙ e in
        let yes : is_passed groups g (parent_of groups m) m ≡ true = passed_on groups g m facts t.turn.walked.on_path in
        subst (λ j. get_or (set new m item) j d ≡ cond (is_passed groups g (parent_of groups m) j) (f j (get_or old j d)) (get_or old j d)) (sym same)
        (here ∙ sym (cond-true (is_passed groups g (parent_of groups m) m) (f m (get_or old m d)) (get_or old m d) yes)))
        (λ other.
        get_or-set_other new m k item d other ∙ t.changed k
        ∙ ap (λ b. cond b (f k (get_or old k d)) (get_or old k d)) (passed_other groups g m k facts t.turn.there other))
        (cases_eq k m);
    size = length-set new m item ∙ t.size;
  }

  -- at the end whoever is on the path is changed
  pub walking_all : (left : List ℕ) (new : List X) → AreGroups groups → Walking left new → left ≡ [] → IsChanged None new
  walking_all left new facts w e = subst (λ o. IsChanged o new) (at_end groups test g w.next left facts w.at e) w.changed

  pub walking_path : (left : List ℕ) (new : List X) → AreGroups groups → Walking left new → left ≡ [] → (k : ℕ) →
      get_or new k d ≡ on_path groups g (f k) k (get_or old k d)
  walking_path left new facts w e k =
      walking_all left new facts w e k ∙ ap (λ b. cond b (f k (get_or old k d)) (get_or old k d)) (passed_all groups g k)

  pub walking_tested : (left : List ℕ) (new : List X) → AreGroups groups → Walking left new → left ≡ [] → (k : ℕ) → in_subtree groups k g ≡ true → test k ≡ true
  walking_tested left new facts w e = at_end_passed groups test g w.next left facts w.at e

-- ---- a walk that ends before a group of the path
-- m is not the end
abbrev pub goes_on : Option ℕ → ℕ → Bool
goes_on None m = true
goes_on (Some end) m = not (end == m)

-- as the code tests it
pub goes_on_eq : (end : Option ℕ) (m : ℕ) → goes_on end m ≡ not (option_eq nat_eq end (Some m))
goes_on_eq None m = refl
goes_on_eq (Some end) m = refl

pub is_end : (end : Option ℕ) (m : ℕ) → option_eq nat_eq end (Some m) ≡ true → end ≡ Some m
is_end None m e = absurd (false≢true e)
is_end (Some end) m e = ap Some (eqb-true end m e)

-- a walk that passed the root had no end
pub no_end : (groups : List Group) (g : ℕ) (end : Option ℕ) → IfSome end (λ m. IsTrue (in_subtree groups m g)) →
    ((k : ℕ) → in_subtree groups k g ≡ true → goes_on end k ≡ true) → end ≡ None
no_end groups g None on all = refl
no_end groups g (Some end) on all =
    absurd (false≢true (sym (ap not (eq-eqb end end refl)) ∙ all end on))

-- until it comes to the end, it passes groups that lie below the end
pub before_end : (groups : List Group) (g m : ℕ) (end : Option ℕ) → AreGroups groups → IfSome end (λ e. IsTrue (in_subtree groups e g)) →
    WalkedTo groups (goes_on end) g m → goes_on end m ≡ true → is_passed groups g end m ≡ true
before_end groups g m None facts on w goes = rw w.on_path refl
before_end groups g m (Some end) facts on w goes =
    let apart : in_subtree groups m end ≡ false =
    false_from_ne_true (in_subtree groups m end) (λ up.
    ⊎_elim
    (λ (t : goes_on (Some end) end ≡ true). absurd (false≢true (sym (ap not (eq-eqb end end refl)) ∙ t)))
    (λ down.
    let same : end ≡ m = in_subtree-antisym groups end m facts down up in
    absurd (false≢true (sym (ap not (eq-eqb end m same)) ∙ goes)))
    (w.passed end on)) in
    rw (w.on_path, apart) refl
