-- In a strict order exactly k of the numbers below a bound have fewer than k others before them. Serves the laws of shares.
use Rattle.std.proofs.Common.{◌≡◌, ℕ, zero, suc, ◌+◌, ◌-◌, ◌<◌, ◌≤◌, Bool, true, false, cond, ltb, inl, inr, sym, ap, ◌∙◌, arith}
use Rattle.std.proofs.lemmas.Bool.{cases_Bool, cases_lt, le-ltb, lt-ltb}
use Rattle.group_protection.proofs.SumsBelow.{count_below, count_below-le, count_below-le_count_below, count_below-lt_count_below, counts_none, counts_one, sum_below_none, sum_below_same, sum_below_suc}

both_below : (a b c d : ℕ) → a < b → c < d → ltb a b ≡ ltb c d
both_below a b c d one two = lt-ltb a b one ∙ sym (lt-ltb c d two)

both_above : (a b c d : ℕ) → b ≤ a → d ≤ c → ltb a b ≡ ltb c d
both_above a b c d one two = le-ltb a b one ∙ sym (le-ltb c d two)

-- a strict order on numbers, in which one of two different numbers is first
module _ (first : ℕ → ℕ → Bool) (not_self : (x : ℕ) → first x x ≡ false)
    (through : (x y z : ℕ) → first x y ≡ true → first y z ≡ true → first x z ≡ true)
    (one_is : (x y : ℕ) → (x ≡ y → ⊥) → first x y ≡ false → first y x ≡ true) where
  -- how many of the numbers below n come before x
  abbrev rank : ℕ → ℕ → ℕ
  rank n x = count_below n (λ y. first y x)

  rank_after : (n x : ℕ) → first n x ≡ true → rank (suc n) x ≡ rank n x + 1
  rank_after n x is = sum_below_suc n (λ y. cond (first y x) 1 0) ∙ ap (λ (b : Bool). rank n x + cond b 1 0) is

  rank_before : (n x : ℕ) → first n x ≡ false → rank (suc n) x ≡ rank n x
  rank_before n x is =
      let more = sum_below_suc n (λ y. cond (first y x) 1 0) in
      let none = counts_none (first n x) is in
      omega (arith, more, none)

  -- what comes after n has no lower rank, and what comes before it has a lower one
  no_lower : (n x : ℕ) → first n x ≡ true → rank n n ≤ rank n x
  no_lower n x is = count_below-le_count_below n (λ y. first y n) (λ y. first y x) (λ y within before. through y n x before is)

  lower : (n x : ℕ) → x < n → first x n ≡ true → rank n x < rank n n
  lower n x within is = count_below-lt_count_below n (λ y. first y x) (λ y. first y n) (λ y low before. through y x n before is) x within (not_self x) is

  pub ranks_below : (n k : ℕ) → k ≤ n → count_below n (λ x. ltb (rank n x) k) ≡ k
  ranks_below zero k low = let none = sum_below_none (λ x. cond (ltb (rank 0 x) k) 1 0) in omega (arith, none, low)
  ranks_below (suc n) k low =
      let more = sum_below_suc n (λ x. cond (ltb (rank (suc n) x) k) 1 0) in
      let own = rank_before n n (not_self n) in
      let few = count_below-le n (λ y. first y n) in
      elim (cases_lt (rank n n) k) [
        | inl less ↦
            let last = counts_one (ltb (rank (suc n) n) k) (lt-ltb (rank (suc n) n) k (omega (arith, own, less))) in
            let same = sum_below_same n (λ x. cond (ltb (rank (suc n) x) k) 1 0) (λ x. cond (ltb (rank n x) (k - 1)) 1 0)
            (λ x within. ap (λ (b : Bool). cond b 1 0) (one_less x within less)) in
            let rest = ranks_below n (k - 1) (omega (arith, low)) in
            omega (arith, more, last, same, rest, less)
        | inr none ↦
            let last = counts_none (ltb (rank (suc n) n) k) (le-ltb (rank (suc n) n) k (omega (arith, own, none))) in
            let same = sum_below_same n (λ x. cond (ltb (rank (suc n) x) k) 1 0) (λ x. cond (ltb (rank n x) k) 1 0)
            (λ x within. ap (λ (b : Bool). cond b 1 0) (no_less x none)) in
            let rest = ranks_below n k (omega (arith, few, none)) in
            omega (arith, more, last, same, rest)
      ]
    where
      one_less : (x : ℕ) → x < n → rank n n < k → ltb (rank (suc n) x) k ≡ ltb (rank n x) (k - 1)
      one_less x within less = elim (cases_Bool (first n x)) [
        | inl after ↦
            let is = rank_after n x after in
            elim (cases_lt (rank (suc n) x) k) [
              | inl below ↦ both_below _ _ _ _ below (omega (arith, is, below))
              | inr above ↦ both_above _ _ _ _ above (omega (arith, is, above))
            ]
        | inr before ↦
            let is = rank_before n x before in
            let under = lower n x within (one_is n x (λ e. omega (arith, within, e)) before) in
            both_below _ _ _ _ (omega (arith, is, under, less)) (omega (arith, under, less))
      ]

      no_less : (x : ℕ) → k ≤ rank n n → ltb (rank (suc n) x) k ≡ ltb (rank n x) k
      no_less x none = elim (cases_Bool (first n x)) [
        | inl after ↦
            let is = rank_after n x after in
            let over = no_lower n x after in
            both_above _ _ _ _ (omega (arith, is, over, none)) (omega (arith, over, none))
        | inr before ↦ ap (λ r. ltb r k) (rank_before n x before)
      ]
