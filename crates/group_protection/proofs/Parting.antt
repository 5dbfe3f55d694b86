-- Parts of what is shared out. Serves `Shares` and the laws.
use Rattle.std.proofs.Common.{◌≡◌, ℕ, ◌+◌, ◌*◌, ◌/◌, ◌%◌, ◌≤◌, inl, inr, ap, ◌∙◌, arith}
use Rattle.std.specs.Prelude.{min}
use Rattle.std.proofs.Math.Nat.{div-le_of_le-mul, le_of_mul-le-mul_right, mul-le-mul_right}
use Rattle.std.proofs.lemmas.Bool.{cases_lt}
use Rattle.std.proofs.lemmas.Nat.{div-add-mod'}
use Rattle.group_protection.specs.Shares.{remainder, shared_pages, sum_below, whole_part}
use Rattle.group_protection.proofs.SumsBelow.{sum_below_divided, sum_below_le}

-- a part of what all may give at most is at most what the group may give
pub part_at_most : (shared pages total : ℕ) → shared ≤ total → shared * pages / total ≤ pages
part_at_most shared pages total less = div-le_of_le-mul total (mul-le-mul_right pages less)

module _ (count : ℕ) (available : ℕ → ℕ) (want : ℕ) where
  abbrev pub total : ℕ
  total = sum_below count available

  abbrev pub shared : ℕ
  shared = shared_pages count available want

  abbrev pub parts : ℕ
  parts = sum_below count (whole_part count available want)

  pub whole_part_is : (all given group : ℕ) → all ≡ total → given ≡ min want all → given * available group / all ≡ whole_part count available want group
  unfolding whole_part
  whole_part_is all given group is also = λ i. (also ∙ ap (min want) is) i * available group / is i

  pub remainder_is : (all given group : ℕ) → all ≡ total → given ≡ min want all → given * available group % all ≡ remainder count available want group
  unfolding remainder
  remainder_is all given group is also = λ i. (also ∙ ap (min want) is) i * available group % is i

  pub divided : (group : ℕ) → whole_part count available want group * total + remainder count available want group ≡ shared * available group
  unfolding whole_part remainder
  divided group = div-add-mod' (shared * available group) total

  pub all_divided : parts * total + sum_below count (remainder count available want) ≡ shared * total
  all_divided = sum_below_divided count shared total available (whole_part count available want) (remainder count available want) divided

  pub whole_part_at_most : (group : ℕ) → whole_part count available want group ≤ available group
  unfolding whole_part
  whole_part_at_most group = part_at_most shared (available group) total (omega arith)

  -- the parts rounded down are no more than is shared out
  pub parts_fit : parts ≤ shared
  parts_fit = elim (cases_lt 0 total) [
    | inl some ↦
        let all = all_divided in
        le_of_mul-le-mul_right (omega (arith, all)) some
    | inr none ↦
        let less = sum_below_le count (whole_part count available want) available (λ i within. whole_part_at_most i) in
        omega (arith, less, none)
  ]
