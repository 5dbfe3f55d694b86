-- What holds of all shares. Serves the laws and crates above.
use Rattle.std.proofs.Common.{◌≡◌, ℕ, ◌+◌, ◌-◌, ◌*◌, ◌<◌, ◌≤◌, ◌||◌, ◌&&◌, true, false, cond, eqb, ltb, inl, inr, refl, ap, arith}
use Rattle.std.proofs.Math.Nat.{le_of_mul-le-mul_right, mod-lt, mul-le-mul_right}
use Rattle.std.proofs.lemmas.Bool.{cases_Bool, cases_lt, lt-ltb, ltb-true, or_left}
use Rattle.std.proofs.lemmas.Bool.Decides.{nat_tests}
use Rattle.group_protection.specs.Shares.{IsRounded, SharesAddUp, SharesAreAvailable, SharesAreInProportion, groups_ahead, is_ahead, pages_lacking, reclaim_share, remainder, sum_below, whole_part}
use Rattle.group_protection.proofs.Parting.{all_divided, divided, parts, parts_fit, shared, total, whole_part_at_most}
use Rattle.group_protection.proofs.Ranking.{ranks_below}
use Rattle.group_protection.proofs.SumsBelow.{count_below, count_below-le, count_below-le_count_below, counts_none, counts_one, sum_below-le_count_below, sum_below_plus, sum_below_same}

-- ---- the order: by remainders x, y, z of the numbers i, j, k

order_self : (x i : ℕ) → (ltb x x || (eqb x x && ltb i i)) ≡ false
order_self x i = grind (arith, nat_tests)

order_through : (x y z i j k : ℕ) → (ltb y x || (eqb x y && ltb i j)) ≡ true → (ltb z y || (eqb y z && ltb j k)) ≡ true → (ltb z x || (eqb x z && ltb i k)) ≡ true
order_through x y z i j k one two = grind (arith, nat_tests)

order_one : (x y i j : ℕ) → (i ≡ j → ⊥) → (ltb y x || (eqb x y && ltb i j)) ≡ false → (ltb x y || (eqb y x && ltb j i)) ≡ true
order_one x y i j other one = grind (arith, nat_tests)

-- ---- products, in numbers: of a division the quotient q, the divisor t and the remainder r

lacking_times : (s p l t r u : ℕ) → s ≡ p + l → p * t + r ≡ s * t → r ≤ u * t → l * t ≤ u * t
lacking_times s p l t r u is all less = let e : s * t ≡ (p + l) * t = ap (λ x. x * t) is in omega (arith, e, all, less)

round_up : (share q one t r n : ℕ) → share ≡ q + one → q * t + r ≡ n → one * t ≤ r + (t - 1) → share * t ≤ n + (t - 1)
round_up share q one t r n is all less = let e : share * t ≡ (q + one) * t = ap (λ x. x * t) is in omega (arith, e, all, less)

round_down : (share q one t r n : ℕ) → share ≡ q + one → q * t + r ≡ n → r < t → n ≤ share * t + (t - 1)
round_down share q one t r n is all less = let e : share * t ≡ (q + one) * t = ap (λ x. x * t) is in omega (arith, e, all, less)

no_rest : (q t r a s : ℕ) → q * t + r ≡ s * a → 0 < r → s ≤ t → a ≤ q → ⊥
no_rest q t r a s is some less all =
    let one = mul-le-mul_right t all in
    let two = mul-le-mul_right a less in
    omega (arith, is, some, one, two)

module _ (count : ℕ) (available : ℕ → ℕ) (want : ℕ) where
  abbrev rest : ℕ → ℕ
  rest = remainder count available want

  abbrev lacking : ℕ
  lacking = pages_lacking count available want

  -- how many groups have a remainder
  abbrev uneven : ℕ
  uneven = count_below count (λ group. ltb 0 (rest group))

  lacking_is : lacking ≡ shared count available want - parts count available want
  unfolding pages_lacking
  lacking_is = refl

  rest_low : (group : ℕ) → 0 < total count available want → rest group < total count available want
  unfolding remainder
  rest_low group some = mod-lt (shared count available want * available group) some

  -- each page that lacks is made of remainders, each less than a page
  lacking_few : lacking ≤ uneven
  lacking_few = elim (cases_lt 0 (total count available want)) [
    | inl some ↦
        let is = lacking_is in
        let fit = parts_fit count available want in
        let all = all_divided count available want in
        let less = sum_below-le_count_below count (total count available want) rest (λ group within. let low = rest_low group some in omega (arith, low)) in
        let whole : shared count available want ≡ parts count available want + lacking = omega (arith, is, fit) in
        le_of_mul-le-mul_right (lacking_times _ _ lacking _ _ uneven whole all less) some
    | inr none ↦ let is = lacking_is in omega (arith, is, none)
  ]

  -- a group gives one page more only if its part has a remainder: those that have one are ahead of it otherwise
  one_more_uneven : (group : ℕ) → ltb (groups_ahead count available want group) lacking ≡ true → 0 < rest group
  unfolding groups_ahead is_ahead
  one_more_uneven group is = elim (cases_lt 0 (rest group)) [
    | inl some ↦ some
    | inr none ↦
        let few = lacking_few in
        let fewer = ltb-true (groups_ahead count available want group) lacking is in
        let ahead = count_below-le_count_below count (λ other. ltb 0 (rest other)) (λ other. is_ahead count available want other group)
        (λ other within some. or_left _ _ (lt-ltb (rest group) (rest other) (let more = ltb-true 0 (rest other) some in omega (arith, more, none)))) in
        absurd (omega (arith, few, fewer, ahead))
  ]

  abbrev one_more : ℕ → ℕ
  one_more group = cond (ltb (groups_ahead count available want group) lacking) 1 0

  share_is : (group : ℕ) → reclaim_share count available want group ≡ whole_part count available want group + one_more group
  unfolding reclaim_share
  share_is group = refl

  -- exactly as many groups give one page more as pages lack
  ones_add_up : sum_below count one_more ≡ lacking
  unfolding groups_ahead is_ahead
  ones_add_up =
      let few = lacking_few in
      let fewer = count_below-le count (λ group. ltb 0 (rest group)) in
      ranks_below (λ other group. is_ahead count available want other group) (λ i. order_self (rest i) i)
      (λ i j k. order_through (rest i) (rest j) (rest k) i j k) (λ i j. order_one (rest i) (rest j) i j) count lacking (omega (arith, few, fewer))

  add_up : sum_below count (reclaim_share count available want) ≡ shared count available want
  add_up =
      let each = sum_below_same count (reclaim_share count available want) (λ group. whole_part count available want group + one_more group) (λ group within. share_is group) in
      let both = sum_below_plus count (whole_part count available want) one_more in
      let ones = ones_add_up in
      let is = lacking_is in
      let fit = parts_fit count available want in
      omega (arith, each, both, ones, is, fit)

  rounded : (group : ℕ) → 0 < total count available want
      → IsRounded (shared count available want * available group) (total count available want) (reclaim_share count available want group)
  rounded group some =
      let low = rest_low group some in
      let is = divided count available want group in
      let share = share_is group in
      elim (cases_Bool (ltb (groups_ahead count available want group) lacking)) [
        | inl more ↦
            let uneven = one_more_uneven group more in
            let one = counts_one _ more in
            record {
              at_most_up = round_up _ _ 1 _ _ _ (omega (arith, share, one)) is (omega (arith, uneven));
              at_least_down = round_down _ _ 1 _ _ _ (omega (arith, share, one)) is low;
            }
        | inr none ↦
            let one = counts_none _ none in
            record {
              at_most_up = round_up _ _ 0 _ _ _ (omega (arith, share, one)) is (omega arith);
              at_least_down = round_down _ _ 0 _ _ _ (omega (arith, share, one)) is low;
            }
      ]

  within : (group : ℕ) → reclaim_share count available want group ≤ available group
  within group =
      let share = share_is group in
      let low = whole_part_at_most count available want group in
      elim (cases_Bool (ltb (groups_ahead count available want group) lacking)) [
        | inl more ↦
            let one = counts_one _ more in
            let uneven = one_more_uneven group more in
            let is = divided count available want group in
            elim (cases_lt (whole_part count available want group) (available group)) [
              | inl less ↦ omega (arith, share, one, less)
              | inr all ↦ absurd (no_rest _ _ _ (available group) _ is uneven (omega arith) all)
            ]
        | inr none ↦
            let one = counts_none _ none in
            omega (arith, share, one, low)
      ]

pub shares_add_up : SharesAddUp
shares_add_up = add_up

pub shares_are_in_proportion : SharesAreInProportion
shares_are_in_proportion = rounded

pub shares_are_available : SharesAreAvailable
shares_are_available = within
