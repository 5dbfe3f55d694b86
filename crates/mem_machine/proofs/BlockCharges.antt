-- What is charged to each group after a block's frames become its unit. Serves all calls that charge a unit.
use Rattle.std.proofs.Common.{◌≡◌, ℕ, zero, suc, ◌+◌, ◌^◌, ◌≤◌, ◌<◌, ◌==◌, Bool, true, false, cond, Option, Some, None, List, length, refl, sym, ap, ◌∙◌, arith, inl, inr, eq-eqb}
use Rattle.std.proofs.lemmas.Bool.{cases_eq, ne_eqb}
use Rattle.zone_blocks.specs.declared.block.Block.{Block}
use Rattle.zone_blocks.specs.Block.{IsBlock}
use Rattle.step_rules.specs.State.{sum_to, one_if}
use Rattle.step_rules.specs.After.{is_within}
use Rattle.step_rules.proofs.Placing.{within_cases}
use Rattle.step_rules.proofs.Sums.{sum_same, sum_both, sum_none}
use Rattle.mem_machine.specs.declared.frame_state.FrameState.{FrameState}
use Rattle.mem_machine.specs.declared.frame_state.FrameState.TheVariants.{Head, Tail}
use Rattle.mem_machine.specs.{frame_state_at, frame_state_group, one_if_is, frames_charged, PlacesUnit}
use Rattle.mem_machine.proofs.PlacesUnits.{in_block, off_block}

-- ---- how many numbers lie in a range

abbrev within_one : ℕ → ℕ → ℕ → ℕ
within_one at size f = one_if (is_within at size f)

one_inside : (at size f : ℕ) → at ≤ f → f < at + size → within_one at size f ≡ 1
one_inside at size f low high = elim (within_cases at size f) [ inl w ↦ ap one_if w.0 | inr out ↦ absurd (out.1 low high) ]

none_outside : (at size f : ℕ) → (at ≤ f → f < at + size → ⊥) → within_one at size f ≡ 0
none_outside at size f not = elim (within_cases at size f) [ inl w ↦ absurd (not w.1 w.2) | inr out ↦ ap one_if out.0 ]

counted_below : (at size n : ℕ) → n ≤ at → sum_to n (within_one at size) ≡ 0
counted_below at size n below = sum_none n (within_one at size) (λ f lt. none_outside at size f (λ low high. omega (arith, lt, low, below)))

counted_inside : (at size n : ℕ) → at ≤ n → n ≤ at + size → sum_to n (within_one at size) + at ≡ n
unfolding sum_to
counted_inside at size zero low high = omega (arith, low)
counted_inside at size (suc n) low high = elim (cases_eq at (suc n)) [
  | inl e ↦ let none = counted_below at size (suc n) (omega (arith, e)) in omega (arith, none, e)
  | inr ne ↦
      let under : at ≤ n = omega (arith, low, ne) in
      let rest = counted_inside at size n under (omega (arith, high)) in
      let one = one_inside at size n under (omega (arith, high)) in
      omega (arith, rest, one)
]

counted_all : (at size n : ℕ) → at + size ≤ n → sum_to n (within_one at size) ≡ size
unfolding sum_to
counted_all at size zero inside = omega (arith, inside)
counted_all at size (suc n) inside = elim (cases_eq (at + size) (suc n)) [
  | inl e ↦ let all = counted_inside at size (suc n) (omega (arith, e)) (omega (arith, e)) in omega (arith, all, e)
  | inr ne ↦
      let rest = counted_all at size n (omega (arith, inside, ne)) in
      let none = none_outside at size n (λ low high. omega (arith, high, inside, ne)) in
      omega (arith, rest, none)
]

-- ---- the group's frames

group_within : (g : ℕ) (b : Block) (x : Bool) → frame_state_group (cond x (Head (record { group = g; order = b.order })) (Tail g)) ≡ Some g
group_within g b true = refl
group_within g b false = refl

none_counts : (h : ℕ) (o : Option ℕ) → o ≡ None → one_if_is h o ≡ 0
none_counts h None e = refl
none_counts h (Some k) e = ap (one_if_is h) e

counts_same : (h g : ℕ) → h ≡ g → one_if_is h (Some g) ≡ 1
counts_same h g e = ap (λ (x : Bool). cond x 1 0) (eq-eqb g h (sym e))

counts_else : (h g : ℕ) → (h ≡ g → ⊥) → one_if_is h (Some g) ≡ 0
counts_else h g ne = ap (λ (x : Bool). cond x 1 0) (ne_eqb g h (λ e. ne (sym e)))

module _ (old new : List FrameState) (g : ℕ) (b : Block) (placed : PlacesUnit g b old new) (block : IsBlock (length old) b)
    (uncharged : (f : ℕ) → b.at ≤ f → f < b.at + 2 ^ b.order → frame_state_group (frame_state_at old f) ≡ None) (h : ℕ) where
  abbrev size : ℕ
  size = 2 ^ b.order

  abbrev before : ℕ → ℕ
  before f = one_if_is h (frame_state_group (frame_state_at old f))

  abbrev after : ℕ → ℕ
  after f = one_if_is h (frame_state_group (frame_state_at new f))

  same_out : (f : ℕ) → is_within b.at size f ≡ false → after f ≡ before f
  same_out f w = ap (λ (x : FrameState). one_if_is h (frame_state_group x)) (placed.records f ∙ off_block old g b f w)

  own_in : (f : ℕ) → is_within b.at size f ≡ true → after f ≡ one_if_is h (Some g)
  own_in f w = ap (one_if_is h) (ap frame_state_group (placed.records f ∙ in_block old g b f w) ∙ group_within g b (f == b.at))

  own_share : h ≡ g → (f : ℕ) → after f ≡ before f + within_one b.at size f
  own_share e f = elim (within_cases b.at size f) [
    | inl w ↦
        let now = own_in f w.0 ∙ counts_same h g e in
        let was = none_counts h (frame_state_group (frame_state_at old f)) (uncharged f w.1 w.2) in
        let one : within_one b.at size f ≡ 1 = ap one_if w.0 in
        omega (arith, now, was, one)
    | inr out ↦
        let now = same_out f out.0 in
        let none : within_one b.at size f ≡ 0 = ap one_if out.0 in
        omega (arith, now, none)
  ]

  other_share : (h ≡ g → ⊥) → (f : ℕ) → after f ≡ before f
  other_share ne f = elim (within_cases b.at size f) [
    | inl w ↦ own_in f w.0 ∙ counts_else h g ne ∙ sym (none_counts h (frame_state_group (frame_state_at old f)) (uncharged f w.1 w.2))
    | inr out ↦ same_out f out.0
  ]

  -- the group has as many more frames as the block has, and every other group has as many as before
  pub charges_rise : frames_charged new h ≡ frames_charged old h + cond (h == g) (2 ^ b.order) 0
  charges_rise =
      let long : sum_to (length new) after ≡ sum_to (length old) after = ap (λ (n : ℕ). sum_to n after) placed.frames in
      elim (cases_eq h g) [
        | inl e ↦
            let more = sum_same (length old) after (λ f. before f + within_one b.at size f) (λ f lt. own_share e f) in
            let both = sum_both (length old) before (within_one b.at size) in
            let all = counted_all b.at size (length old) block.inside in
            let c : cond (h == g) (2 ^ b.order) 0 ≡ 2 ^ b.order = ap (λ (x : Bool). cond x (2 ^ b.order) 0) (eq-eqb h g e) in
            omega (arith, long, more, both, all, c)
        | inr ne ↦
            let same = sum_same (length old) after before (λ f lt. other_share ne f) in
            let c : cond (h == g) (2 ^ b.order) 0 ≡ 0 = ap (λ (x : Bool). cond x (2 ^ b.order) 0) (ne_eqb h g ne) in
            omega (arith, long, same, c)
      ]
