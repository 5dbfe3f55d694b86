-- The pass of shares, and the groups of a pass. Serves `shares`, `reclaiming` and the laws about them.
use Rattle.std.proofs.Common.{◌≡◌, ℕ, zero, suc, ◌+◌, ◌-◌, ◌<◌, ◌≤◌, ◌==◌, ◌&&◌, Bool, true, false, Some, List, [], ◌∷◌, ◌++◌, replicate, cond, get_or, length, refl, sym, ap, ◌∙◌, subst, inl, inr, arith, eq-eqb}
use Rattle.std.specs.Prelude.{filter, min, nat_lt, slice_index, slice_set}
use Rattle.std.specs.List.{count_by, range_with_len}
use Rattle.std.proofs.lemmas.Bool.{cases_eq, cases_lt, cond-false, cond-true, le-ltb, ne_eqb}
use Rattle.std.proofs.lemmas.List.{append-nil, get_or-set_other, get_or-set_same, length-replicate, length-set}
use Rattle.std.proofs.lemmas.List.Sums.{sum_by-append}
use Rattle.group_tree.specs.{AreGroups, in_subtree, most_groups, room_of}
use Rattle.group_tree.proofs.CallerLemmas.{in_subtree-below}
use Rattle.group_charge.specs.Charges.{Ledger, current_of}
use Rattle.group_charge.specs.declared.note.Note.TheVariants.{Spared}
use Rattle.group_tree.proofs.CallerLemmas.{number_in_room}
use Rattle.group_protection.specs.Protections.{effective, low_key, min_key}
use Rattle.group_protection.specs.Shares.{Sharing, reclaim_share}
use Rattle.boot_words.specs.Tables.{KnownTable}
use Rattle.mem_machine.specs.{KnownMachine, clean_pages}
use Rattle.mem_reclaim.specs.declared.passes.Pass.TheVariants.{First}
use Rattle.mem_reclaim.specs.Laws.{GroupsWithoutShareHaveNoTurn, TurnsKeepToTheirShare, TurnsLeaveOutNoGroup}
use Rattle.mem_reclaim.specs.Moves.{FreesBySteps}
use Rattle.mem_reclaim.specs.Passes.{MakesPasses, TakesTurnOf, notes_spared, spared_by, subtree_of, turn_want, with_detail_if}
use Rattle.mem_reclaim.specs.Shares.{MakesAllPasses, Reclaims, ReclaimsShares, TakesItsShare, may_give, share_in_reclaim, shares_by}
use Rattle.mem_reclaim.specs.Wanted.{FreesNothing, Progress, Reclaiming, WhileWanted, progress}
use Rattle.mem_machine.proofs.First.{repeated}
use Rattle.mem_reclaim.proofs.FewMore.{turns_free_few_more}
use Rattle.mem_reclaim.proofs.Moving.{moves_both}

-- ---- what each group may give

none_given : (b : Bool) (x : ℕ) → (b ≡ true → ⊥) → cond b x 0 ≡ 0
none_given true x away = absurd (away refl)
none_given false x away = refl

-- a group outside the subtree gives nothing
pub may_give_none : (m : KnownMachine) (target g : ℕ) → (in_subtree m.ledger.groups target g ≡ true → ⊥) → may_give m target g ≡ 0
unfolding may_give
may_give_none m target g away = none_given (in_subtree m.ledger.groups target g) _ away

-- a group of the subtree gives its clean pages, as far as nothing protects them
pub may_give_is : (m : KnownMachine) (l : Ledger) (target g result clean used spared least low rest : ℕ) → l ≡ m.ledger → in_subtree m.ledger.groups target g ≡ true
    → clean ≡ clean_pages m g → used ≡ current_of l g → least ≡ effective min_key l target g → low ≡ effective low_key l target g
    → spared ≡ spared_by First least low → rest ≡ used - spared → result ≡ min clean rest → result ≡ may_give m target g
unfolding may_give
may_give_is m l target g result clean used spared least low rest same inside clean_is used_is least_is low_is spared_is rest_is is =
    is ∙ (λ i. min (clean_is i) (rest_is i)) ∙ (λ i. min (clean_pages m g) (used_is i - spared_is i))
    ∙ (λ i. min (clean_pages m g) (current_of (same i) g - spared_by First (least_is i) (low_is i)))
    ∙ (λ i. min (clean_pages m g) (current_of m.ledger g - spared_by First (effective min_key (same i) target g) (effective low_key (same i) target g)))
    ∙ sym (cond-true (in_subtree m.ledger.groups target g) _ 0 inside)

-- it is known what each group of a lesser number may give, and of no other yet
pub record GivesSoFar (m : KnownMachine) (target k : ℕ) (available : List ℕ) : Type 0 where
  pub size : length available ≡ most_groups
  pub known : (i : ℕ) → i < k → get_or available i 0 ≡ may_give m target i
  pub rest : (i : ℕ) → k ≤ i → get_or available i 0 ≡ 0

pub gives_none : (m : KnownMachine) (target : ℕ) → GivesSoFar m target 0 (replicate most_groups 0)
gives_none m target = record { size = length-replicate {A = ℕ} most_groups 0; known = λ i low. absurd (omega (arith, low)); rest = λ i past. repeated most_groups i 0 }

pub gives_more : (m : KnownMachine) (target k x : ℕ) (available : List ℕ) → GivesSoFar m target k available → k < most_groups
    → x ≡ may_give m target k → GivesSoFar m target (k + 1) (slice_set available k x)
gives_more m target k x available so fits is = record {
  size = length-set available k x ∙ so.size;
  known = λ i low. elim (cases_eq i k) [
    | inl e ↦
        subst (λ (j : ℕ). get_or (slice_set available k x) j 0 ≡ may_give m target j) (sym e)
        (get_or-set_same available k x 0 (let s = so.size in omega (arith, s, fits)) ∙ is)
    | inr ne ↦ get_or-set_other available k i x 0 ne ∙ so.known i (omega (arith, low, ne))
  ];
  rest = λ i past. get_or-set_other available k i x 0 (λ e. absurd (omega (arith, past, e))) ∙ so.rest i (omega (arith, past));
}

pub gives_all : (m : KnownMachine) (target k : ℕ) (available : List ℕ) → AreGroups m.ledger.groups → room_of m.ledger.groups ≤ k → GivesSoFar m target k available
    → slice_index available ≡ may_give m target
gives_all m target k available facts past so = λ i j. each j i
  where
    each : (j : ℕ) → slice_index available j ≡ may_give m target j
    each j = elim (cases_lt j k) [
      | inl low ↦ so.known j low
      | inr beyond ↦
          so.rest j beyond
          ∙ sym (may_give_none m target j (λ inside. let low = number_in_room m.ledger.groups j facts (in_subtree-below m.ledger.groups target j inside) in absurd (omega (arith, low, beyond, past))))
    ]

-- ---- the pass

-- the shares by these numbers are those of the machine
pub as_shares : (t : KnownTable) (m n : KnownMachine) (target want freed : ℕ) (sharing : Sharing) → sharing.room ≡ room_of m.ledger.groups → slice_index sharing.available ≡ may_give m target → sharing.want ≡ want
    → FreesBySteps t freed m n (WhileWanted (TakesItsShare (Some (shares_by sharing)) First target) (subtree_of m.ledger.groups target) want)
    → FreesBySteps t freed m n (ReclaimsShares target want)
as_shares t m n target want freed sharing room available wanted leads = record {
  steps = leads.steps;
  does = subst (λ (v : ℕ × (ℕ → ℕ) × ℕ). WhileWanted (TakesItsShare (Some (λ g. reclaim_share v.0 v.1 v.2 g)) First target) (subtree_of m.ledger.groups target) want
      (progress freed m leads.steps n)) (λ i. (room i, available i, wanted i)) leads.does;
  moves = leads.moves;
}

-- ---- all passes

pub as_all : (t : KnownTable) (m n : KnownMachine) (target want freed : ℕ) (b : Bool) → m.is_proportional ≡ b
    → FreesBySteps t freed m n (MakesAllPasses b target want) → FreesBySteps t freed m n (Reclaims target want)
as_all t m n target want freed b is leads = record {
  steps = leads.steps;
  does = subst (λ (x : Bool). MakesAllPasses x target want (progress freed m leads.steps n)) (sym is) leads.does;
  moves = leads.moves;
}

-- the shares were enough
pub shares_enough : (t : KnownTable) (m n : KnownMachine) (target want freed : ℕ) → want ≤ freed → FreesBySteps t freed m n (ReclaimsShares target want)
    → FreesBySteps t freed m n (MakesAllPasses true target want)
shares_enough t m n target want freed enough leads = record {
  steps = leads.steps;
  does = record {
    between = n;
    earlier = leads.steps;
    later = [];
    some = freed;
    more = 0;
    first = leads.does;
    second = inl (omega (arith, enough), record { no_page = refl; machine = refl; no_step = refl });
    freed_is = omega arith;
    steps_are = sym (append-nil leads.steps);
  };
  moves = leads.moves;
}

-- the passes take what the shares left
pub shares_then : (t : KnownTable) (m k n : KnownMachine) (target want some more : ℕ) → FreesBySteps t some m k (ReclaimsShares target want)
    → FreesBySteps t more k n (MakesPasses target (want - some)) → FreesBySteps t (some + more) m n (MakesAllPasses true target want)
shares_then t m k n target want some more one two = record {
  steps = one.steps ++ two.steps;
  does = record {
    between = k;
    earlier = one.steps;
    later = two.steps;
    some = some;
    more = more;
    first = one.does;
    second = two.does;
    freed_is = refl;
    steps_are = refl;
  };
  moves = moves_both t m k n some more one.steps two.steps one.moves two.moves;
}

-- no page is wanted
while_none : {A : Type 0} (does : A → ℕ → Reclaiming) (things : List A) (m : KnownMachine) (want : ℕ) → want ≡ 0 → WhileWanted does things want (progress 0 m [] m)
while_none does [] m want none = record { no_page = refl; machine = refl; no_step = refl }
while_none does (x ∷ xs) m want none = inl (none, record { no_page = refl; machine = refl; no_step = refl })

pub reclaims_none : (m : KnownMachine) (target want : ℕ) (b : Bool) → want ≡ 0 → MakesAllPasses b target want (progress 0 m [] m)
reclaims_none m target want false none = inl (none, record { no_page = refl; machine = refl; no_step = refl })
reclaims_none m target want true none = record {
  between = m;
  earlier = [];
  later = [];
  some = 0;
  more = 0;
  first = while_none (TakesItsShare (Some (share_in_reclaim m target want)) First target) (subtree_of m.ledger.groups target) m want none;
  second = inl (omega (arith, none), record { no_page = refl; machine = refl; no_step = refl });
  freed_is = refl;
  steps_are = refl;
}

-- ---- laws

turn_few : (want usage spared : ℕ) → turn_want want usage spared ≤ want
turn_few want usage spared = by (spared == 0)
  where
    by : (b : Bool) → cond b want (min want (usage - spared)) ≤ want
    by true = omega arith
    by false = omega arith

pub turns_keep_to_their_share : TurnsKeepToTheirShare
turns_keep_to_their_share share target g want most done one units turn =
    let few = turns_free_few_more First target g (min (share g) want) most done one units turn in
    let low = turn_few (min (share g) want) (current_of done.before.ledger g)
    (spared_by First (effective min_key done.before.ledger target g) (effective low_key done.before.ledger target g)) in
    omega (arith, few, low)

nothing_wanted : (least low usage g want : ℕ) (done : Progress) → want ≡ 0 → TakesTurnOf First least low usage g want done → FreesNothing done
nothing_wanted least low usage g want done none (inl rests) = record {
  no_page = rests.1.no_page;
  machine = rests.1.machine ∙ ap (λ (b : Bool). with_detail_if b done.before (Spared g usage least low)) (unnoted _ want none);
  no_step = rests.1.no_step;
}
  where
    unnoted : (wanted want : ℕ) → want ≡ 0 → notes_spared First (clean_pages done.before g) want wanted ≡ false
    unnoted wanted want none = ap (λ (b : Bool). b && nat_lt wanted (clean_pages done.before g)) (le-ltb wanted want (omega (arith, none)))
nothing_wanted least low usage g want done none (inr some) =
    let few = turn_few want usage (spared_by First least low) in
    let more = some.0 in
    absurd (omega (arith, few, more, none))

pub groups_without_share_have_no_turn : GroupsWithoutShareHaveNoTurn
groups_without_share_have_no_turn share target g want done turn none =
    nothing_wanted _ _ _ g (min (share g) want) done (omega (arith, none)) turn

-- each number stands once among those of which a test is true
count_kept : (t : ℕ → Bool) (b : Bool) (x : ℕ) (ys : List ℕ) → count_by t (cond b (x ∷ ys) ys) ≡ cond b (cond (t x) 1 0) 0 + count_by t ys
count_kept t true x ys = let both = sum_by-append (λ (i : ℕ). cond (t i) 1 0) (x ∷ []) ys in omega (arith, both)
count_kept t false x ys = omega arith

count_past : (p : ℕ → Bool) (g k n : ℕ) → g < k → count_by (λ i. i == g) (filter p (range_with_len k n)) ≡ 0
count_past p g k zero past = refl
count_past p g k (suc n) past =
    let rest = count_past p g (k + 1) n (omega arith) in
    let here = cond-false (k == g) 1 0 (ne_eqb k g (λ e. absurd (omega (arith, e, past)))) in
    count_kept (λ i. i == g) (p k) k (filter p (range_with_len (k + 1) n)) ∙ (λ i. cond (p k) (here i) 0 + rest i) ∙ both_zero (p k)
  where
    both_zero : (b : Bool) → cond b 0 0 + 0 ≡ 0
    both_zero true = refl
    both_zero false = refl

count_once : (p : ℕ → Bool) (g k n : ℕ) → p g ≡ true → k ≤ g → g < k + n → count_by (λ i. i == g) (filter p (range_with_len k n)) ≡ 1
count_once p g k zero is from before = absurd (omega (arith, from, before))
count_once p g k (suc n) is from before = elim (cases_eq k g) [
  | inl e ↦
      let rest = count_past p g (k + 1) n (omega (arith, e)) in
      let here : cond (k == g) 1 0 ≡ 1 = ap (λ (b : Bool). cond b 1 0) (eq-eqb k g e) in
      count_kept (λ i. i == g) (p k) k (filter p (range_with_len (k + 1) n)) ∙ (λ i. cond ((ap p e ∙ is) i) (here i) 0 + rest i)
  | inr ne ↦
      let rest = count_once p g (k + 1) n is (omega (arith, from, ne)) (omega (arith, before)) in
      let here = cond-false (k == g) 1 0 (ne_eqb k g ne) in
      count_kept (λ i. i == g) (p k) k (filter p (range_with_len (k + 1) n)) ∙ (λ i. cond (p k) (here i) 0 + rest i) ∙ one_more (p k)
]
  where
    one_more : (b : Bool) → cond b 0 0 + 1 ≡ 1
    one_more true = refl
    one_more false = refl

pub turns_leave_out_no_group : TurnsLeaveOutNoGroup
unfolding subtree_of
turns_leave_out_no_group groups target g facts inside =
    count_once (in_subtree groups target) g 0 (room_of groups) inside (omega arith)
    (let low = number_in_room groups g facts (in_subtree-below groups target g inside) in omega (arith, low))
