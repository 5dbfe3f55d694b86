-- A list that is filled with the maximal free blocks of one order, from address 0 on: for `fill_with_maximal`.
use Rattle.std.proofs.Common.{◌≡◌, ℕ, ◌+◌, ◌*◌, ◌/◌, ◌%◌, ◌<◌, ◌⊎◌, sym, ap, ◌∙◌, inl, inr, arith}
use Rattle.std.proofs.lemmas.Bool.{cases_lt}
use Rattle.std.proofs.lemmas.Nat.{div-add-mod'}
use Rattle.std.proofs.Math.Nat.{div-eq_of_lt-le}
use Rattle.zone_blocks.specs.declared.block.Block.{Block}

pub same_block : (a b : Block) → a.at ≡ b.at → a.order ≡ b.order → a ≡ b
same_block a b p q =
    let moved : ℕ → Block = λ at. record { at = at; order = a.order } in
    let ordered : ℕ → Block = λ order. record { at = b.at; order = order } in
    ap moved p ∙ ap ordered q

-- a multiple of m below (i + 1) * m is below i * m or is i * m
pub multiple_below : (x m i : ℕ) → 0 < m → x % m ≡ 0 → x < (i + 1) * m → (x < i * m) ⊎ (x ≡ i * m)
multiple_below x m i pos aligned below =
    elim (cases_lt x (i * m)) [
      | inl h ↦ inl h
      | inr h ↦
          let q : x / m ≡ i = div-eq_of_lt-le m h below in
          let e : x / m * m + x % m ≡ x = div-add-mod' x m in
          inr (rw (q, aligned) at (sym e) ∙ omega arith)
    ]
