-- Runs that have steps in their order, and how many changes they have.
use Rattle.std.proofs.Common.{[], ◌≡◌, ◌≢◌, ℕ, ◌+◌, ◌≤◌, ◌==◌, ◌&&◌, Bool, true, false, ◌∷◌, ◌++◌, refl, ap, sym, ◌∙◌, subst, arith, inl, inr}
use Rattle.std.specs.Prelude.{not}
use Rattle.std.proofs.lemmas.Bool.{cases_Bool, ne_eqb, eq-eqb}
use Rattle.step_rules.specs.declared.step.Step.{Step}
use Rattle.step_rules.specs.declared.step.Answer.{Answer}
use Rattle.step_rules.specs.{one_if, Run}
use Rattle.boot_words.specs.{HasNoStepOf, changes_nothing, changes_of, IsRunWithout, HasInOrder, AreChangesOf, AllOf}
use Rattle.boot_words.proofs.Holding.{append_none}

-- ---- how many changes

-- what one step adds to the changes of the seat
abbrev pub change_of : ℕ → Step × Answer → ℕ
change_of seat e = one_if (e.0.seat == seat && not (changes_nothing e.1))

pub changes_both : (seat : ℕ) (xs ys : Run) → changes_of seat (xs ++ ys) ≡ changes_of seat xs + changes_of seat ys
changes_both seat [] ys = omega arith
changes_both seat (e ∷ xs) ys = let more = changes_both seat xs ys in omega (arith, more)

and_false : (x : Bool) → (x && false) ≡ false
and_false true = refl
and_false false = refl

-- a step whose answer changes nothing adds none
pub quiet_adds_none : (seat : ℕ) (e : Step × Answer) → changes_nothing e.1 ≡ true → change_of seat e ≡ 0
quiet_adds_none seat e quiet = ap (λ (b : Bool). one_if (e.0.seat == seat && not b)) quiet ∙ ap one_if (and_false (e.0.seat == seat))

-- another seat's step adds none
pub other_adds_none : (seat : ℕ) (e : Step × Answer) → e.0.seat ≢ seat → change_of seat e ≡ 0
other_adds_none seat e ne = ap (λ (b : Bool). one_if (b && not (changes_nothing e.1))) (ne_eqb e.0.seat seat ne)

-- the seat's own step whose answer changes something adds one
pub own_adds_one : (e : Step × Answer) → changes_nothing e.1 ≡ false → change_of e.0.seat e ≡ 1
own_adds_one e loud = ap (λ (b : Bool). one_if (e.0.seat == e.0.seat && not b)) loud ∙ ap (λ (b : Bool). one_if (b && true)) (eq-eqb e.0.seat e.0.seat refl)

-- without a step of the seat there is no change of it
pub none_of : (seat : ℕ) (run : Run) → HasNoStepOf seat run → changes_of seat run ≡ 0
none_of seat [] none = refl
none_of seat (e ∷ run) none =
    let here = other_adds_none seat e none.0 in
    let more = none_of seat run none.1 in omega (arith, here, more)

-- steps of others after a run add none
pub others_add_none : (seat : ℕ) (run between : Run) → HasNoStepOf seat between → changes_of seat (run ++ between) ≡ changes_of seat run
others_add_none seat run between none =
    let both = changes_both seat run between in
    let zero = none_of seat between none in omega (arith, both, zero)

-- ---- steps in order

pub without_none : (IsLeftOut : Step × Answer → Type 0) (run : Run) → IsRunWithout IsLeftOut run run
without_none IsLeftOut [] = refl
without_none IsLeftOut (e ∷ run) = inr (run, refl, without_none IsLeftOut run)

pub has_none : (run : Run) → HasInOrder run []
has_none [] = refl
has_none (e ∷ run) = inl (tt, has_none run)

pub without_both : (IsLeftOut : Step × Answer → Type 0) (xs ys xs' ys' : Run) → IsRunWithout IsLeftOut xs ys → IsRunWithout IsLeftOut xs' ys'
    → IsRunWithout IsLeftOut (xs ++ xs') (ys ++ ys')
without_both IsLeftOut [] ys xs' ys' e more = subst (λ r. IsRunWithout IsLeftOut xs' (r ++ ys')) (sym e) more
without_both IsLeftOut (x ∷ xs) ys xs' ys' (inl out) more = inl (out.0, without_both IsLeftOut xs ys xs' ys' out.1 more)
without_both IsLeftOut (x ∷ xs) ys xs' ys' (inr h) more =
    inr (h.0 ++ ys', ap (λ r. r ++ ys') h.1, without_both IsLeftOut xs h.0 xs' ys' h.2 more)

-- a longer run has the same steps
pub has_behind : (xs ys more : Run) → HasInOrder xs ys → HasInOrder (xs ++ more) ys
has_behind xs ys more has =
    subst (HasInOrder (xs ++ more)) (append_none ys) (without_both (λ made. Unit {0}) xs ys more [] has (has_none more))

-- a run has the steps that its steps have
pub has_through : (xs ys zs : Run) → HasInOrder xs ys → HasInOrder ys zs → HasInOrder xs zs
has_through [] ys zs e has = subst (λ r. HasInOrder r zs) e has
has_through (x ∷ xs) ys zs (inl out) has = inl (tt, has_through xs ys zs out.1 has)
has_through (x ∷ xs) ys zs (inr h) has =
    elim (subst (λ r. HasInOrder r zs) h.1 has) [
      | inl out ↦ inl (tt, has_through xs h.0 zs h.2 out.1)
      | inr g ↦ inr (g.0, g.1, has_through xs h.0 g.0 h.2 g.2)
    ]

pub changes_in_order : (xs ys : Run) → AreChangesOf xs ys → HasInOrder xs ys
changes_in_order [] ys e = e
changes_in_order (x ∷ xs) ys (inl out) = inl (tt, changes_in_order xs ys out.1)
changes_in_order (x ∷ xs) ys (inr h) = inr (h.0, h.1, changes_in_order xs h.0 h.2)

-- ---- both

-- the steps have no more changes than the run
pub fewer : (seat : ℕ) (run steps : Run) → HasInOrder run steps → changes_of seat steps ≤ changes_of seat run
fewer seat [] steps e = let same = ap (changes_of seat) e in omega (arith, same)
fewer seat (x ∷ run) steps (inl out) = let more = fewer seat run steps out.1 in omega (arith, more)
fewer seat (x ∷ run) steps (inr h) =
    let same = ap (changes_of seat) h.1 in
    let more = fewer seat run h.0 h.2 in omega (arith, same, more)

-- a run without steps that change nothing has as many changes
pub as_many : (seat : ℕ) (run steps : Run) → AreChangesOf run steps → changes_of seat steps ≡ changes_of seat run
as_many seat [] steps e = ap (changes_of seat) e
as_many seat (x ∷ run) steps (inl out) =
    let none = quiet_adds_none seat x out.0 in
    let more = as_many seat run steps out.1 in omega (arith, none, more)
as_many seat (x ∷ run) steps (inr h) =
    let same = ap (changes_of seat) h.1 in
    let more = as_many seat run h.0 h.2 in omega (arith, same, more)

-- each step of the run whose answer changes something is of a seat up to n
abbrev pub IsSeatOfChange : ℕ → Step × Answer → Type 0
IsSeatOfChange n e = changes_nothing e.1 ≡ false → e.0.seat ≤ n

-- If the run has the steps in order, and no more changes of any seat up to n than they have, then it is the steps and
-- others whose answer changes nothing.
pub only_quiet_are_left_out : (n : ℕ) (run steps : Run) → AllOf (IsSeatOfChange n) run → HasInOrder run steps
    → ((seat : ℕ) → seat ≤ n → changes_of seat run ≡ changes_of seat steps) → AreChangesOf run steps
only_quiet_are_left_out n [] steps low has same = has
only_quiet_are_left_out n (x ∷ run) steps low (inl out) same =
    elim (cases_Bool (changes_nothing x.1)) [
      | inl quiet ↦ inl (
        quiet,
        only_quiet_are_left_out n run steps low.1 out.1
            (λ seat below. let none = quiet_adds_none seat x quiet in let all = same seat below in omega (arith, none, all)),
      )
      | inr loud ↦ absurd (
          let one = own_adds_one x loud in
          let all = same x.0.seat (low.0 loud) in
          let most = fewer x.0.seat run steps out.1 in omega (arith, one, all, most))
    ]
only_quiet_are_left_out n (x ∷ run) steps low (inr h) same =
    inr (
      h.0,
      h.1,
      only_quiet_are_left_out n run h.0 low.1 h.2
          (λ seat below. let all = same seat below in let here = ap (changes_of seat) h.1 in omega (arith, all, here)),
    )
