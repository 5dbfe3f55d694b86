-- Grants keep to the limits, and pending pages are what a run counts.
use Rattle.std.proofs.Common.{◌≡◌, ℕ, ◌+◌, ◌-◌, ◌^◌, ◌≤◌, ◌==◌, Bool, true, false, Option, Some, None, refl, sym, ◌∙◌, ap, subst, arith}
use Rattle.std.proofs.Common.{inl, inr, cond, if◌then◌else◌, eq-eqb, zero, suc}
use Rattle.std.specs.Prelude.{nat_le}
use Rattle.std.proofs.lemmas.Bool.{cases_eq, ne_eqb, leb-true, le-leb}
use Rattle.group_tree.specs.{most_groups, in_subtree, limit_of, fits_limit}
use Rattle.step_rules.specs.declared.step.Action.{Action}
use Rattle.step_rules.specs.declared.step.Action.TheVariants.{Lock, Fill, DrainStock, Grant, Ungrant, PlaceBlock}
use Rattle.step_rules.specs.declared.step.Answer.{Answer}
use Rattle.step_rules.specs.declared.step.Answer.TheVariants.{Illegal, Done, Pages, Granted, Placed}
use Rattle.step_rules.specs.State.{State, sum_to}
use Rattle.step_rules.specs.{with_at, pages_pending, usage_of, is_legal, Allows, is_of_group, after, state_of, with_more, NoGrantPassesALimit}
use Rattle.step_rules.specs.{pending_in, pending_out, PendingIsCounted, KeepsInvariant}
use Rattle.step_rules.proofs.LegalTests.{fill_tests, place_block_tests, ungrant_tests}
use Rattle.step_rules.proofs.Basics.{at_same, at_other}
use Rattle.step_rules.proofs.Runs.{allowed}
use Rattle.step_rules.proofs.Sums.{none_if}
use Rattle.step_rules.proofs.Returning.{counted_so}

-- where one value rises by n, a sum of some of the values rises by n at most
sum_rises : (m : ℕ) (test : ℕ → Bool) (h : ℕ → ℕ) (k n : ℕ) →
    (sum_to m (λ i. if test i then with_at h k (h k + n) i else 0) ≤ sum_to m (λ i. if test i then h i else 0) + n) ×
    (m ≤ k → sum_to m (λ i. if test i then with_at h k (h k + n) i else 0) ≡ sum_to m (λ i. if test i then h i else 0))
unfolding sum_to
sum_rises zero test h k n = (omega arith, λ below. refl)
sum_rises (suc m) test h k n =
    let before = sum_rises m test h k n in
    elim (cases_eq m k) [
      | inl e ↦
          let rest = before.1 (omega arith) in
          let here : with_at h k (h k + n) m ≡ h m + n = ap (with_at h k (h k + n)) e ∙ at_same h k (h k + n) ∙ ap (λ (j : ℕ). h j + n) (sym e) in
          let one = at_most (test m) (with_at h k (h k + n) m) (h m) here in
          (omega arith, λ below. absurd (omega arith))
      | inr ne ↦
          let here : with_at h k (h k + n) m ≡ h m = at_other h k (h k + n) m ne in
          let one : cond (test m) (with_at h k (h k + n) m) 0 ≡ cond (test m) (h m) 0 = ap (λ (x : ℕ). cond (test m) x 0) here in
          let first = before.0 in
          (omega arith, λ below. (let rest = before.1 (omega arith) in omega arith))
    ]
  where
    at_most : (b : Bool) (x y : ℕ) → x ≡ y + n → cond b x 0 ≤ cond b y 0 + n
    at_most true x y e = omega arith
    at_most false x y e = omega arith

fits_below : (limit : Option ℕ) (a b : ℕ) → a ≤ b → fits_limit limit b ≡ true → fits_limit limit a ≡ true
fits_below None a b below e = refl
fits_below (Some limit) a b below e = let within = leb-true b limit e in le-leb a limit (omega arith)

pub no_grant_passes_a_limit : NoGrantPassesALimit
no_grant_passes_a_limit zone run legal seat g n made m on_path =
    let s = state_of zone run in
    let rises : pages_pending s.groups (with_at s.pending g (s.pending g + n)) m ≤ pages_pending s.groups s.pending m + n =
    (sum_rises most_groups (in_subtree s.groups m) s.pending g n).0 in
    let room : fits_limit (limit_of s.groups m) (usage_of s m + n) ≡ true = made.answered m on_path in
    fits_below (limit_of s.groups m) (usage_of (after s seat (Grant g n) Granted) m) (usage_of s m + n) (omega arith) room

-- the pages pending for one group change
pending_changes : (pending : ℕ → ℕ) (h g n i o : ℕ) → pending h + i ≡ n + o → pending g + cond (h == g) i 0 ≡ with_at pending h n g + cond (h == g) o 0
pending_changes pending h g n i o e =
    elim (cases_eq h g) [
      | inl same ↦
          let a : with_at pending h n g ≡ n = ap (with_at pending h n) (sym same) ∙ at_same pending h n in
          let b : pending g ≡ pending h = ap pending (sym same) in
          rw (eq-eqb h g same) (omega arith)
      | inr ne ↦
          let a : with_at pending h n g ≡ pending g = at_other pending h n g (λ d. ne (sym d)) in
          rw (ne_eqb h g ne) (omega arith)
    ]

more : (pending : ℕ → ℕ) (h g n : ℕ) → pending g + cond (h == g) n 0 ≡ with_at pending h (pending h + n) g + 0
more pending h g n = let a = pending_changes pending h g (pending h + n) n 0 (omega arith) in let b = none_if (h == g) 0 refl in omega arith

less : (pending : ℕ → ℕ) (h g n : ℕ) → n ≤ pending h → pending g + 0 ≡ with_at pending h (pending h - n) g + cond (h == g) n 0
less pending h g n some = let a = pending_changes pending h g (pending h - n) 0 n (omega arith) in let b = none_if (h == g) 0 refl in omega arith

drained_more : (pending : ℕ → ℕ) (o : Option ℕ) (g n : ℕ) → pending g + cond (is_of_group o g) n 0 ≡ with_more pending o n g + 0
drained_more pending None g n = refl
drained_more pending (Some h) g n = more pending h g n

pending_unchanged : (g : ℕ) (s : State) (seat : ℕ) (action : Action) →
    s.pending g + pending_in g s seat action Illegal ≡ (after s seat action Illegal).pending g + pending_out g s seat action Illegal
pending_unchanged g s seat Lock = refl
pending_unchanged g s seat action = refl

pending_made : (g : ℕ) (s : State) (seat : ℕ) (action : Action) (answer : Answer) → is_legal s seat action ≡ true →
    s.pending g + pending_in g s seat action answer ≡ (after s seat action answer).pending g + pending_out g s seat action answer
pending_made g s seat action Illegal legal = pending_unchanged g s seat action
pending_made g s seat (Grant h n) Granted legal = more s.pending h g n
pending_made g s seat (DrainStock p) (Pages n) legal = drained_more s.pending (s.parts p).stock.group g n
pending_made g s seat (Ungrant h n) Done legal =
    let some : nat_le n (s.pending h) ≡ true = (ungrant_tests s seat h n legal).2 in
    less s.pending h g n (leb-true n (s.pending h) some)
pending_made g s seat (Fill p h n) Done legal =
    let some : nat_le n (s.pending h) ≡ true = (fill_tests s seat p h n legal).4 in
    less s.pending h g n (leb-true n (s.pending h) some)
pending_made g s seat (PlaceBlock h k) (Placed b) legal =
    let some : nat_le (2 ^ k) (s.pending h) ≡ true = (place_block_tests s seat h k legal).2 in
    less s.pending h g (2 ^ k) (leb-true (2 ^ k) (s.pending h) some)
pending_made g s seat Lock answer legal = refl
pending_made g s seat action answer legal = refl

pending_allowed : (g : ℕ) (s : State) (seat : ℕ) (action : Action) (answer : Answer) → KeepsInvariant s → Allows s seat action answer →
    s.pending g + pending_in g s seat action answer ≡ (after s seat action answer).pending g + pending_out g s seat action answer
pending_allowed g s seat action answer sound ok =
    elim (allowed s seat action answer ok) [
      | inl illegal ↦ subst (λ (a : Answer). s.pending g + pending_in g s seat action a ≡ (after s seat action a).pending g
          + pending_out g s seat action a) (sym illegal) (pending_unchanged g s seat action)
      | inr made ↦ pending_made g s seat action answer made.legal
    ]

pub pending_is_counted : PendingIsCounted
pending_is_counted zone run legal g = counted_so (pending_in g) (pending_out g) (λ s. s.pending g) (λ z. refl) (pending_allowed g) zone run legal
