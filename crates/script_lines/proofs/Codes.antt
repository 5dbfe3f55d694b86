-- A name can be told by its number.
use Rattle.std.proofs.Common.{◌≡◌, ◌≢◌, ℕ, zero, suc, ◌+◌, ◌*◌, ◌%◌, ◌/◌, ◌-◌, ◌^◌, ◌<◌, ◌≤◌, ◌⊎◌, inl, inr, List, [], ◌∷◌, All, length, take, get_or, arith, refl, sym, ap, ap₂, ◌∙◌}
use Rattle.std.proofs.Math.Nat.{mod-eq_of_lt}
use Rattle.std.proofs.lemmas.List.{get_or-take, length-take-le, take-take}
use Rattle.std.proofs.lemmas.List.FromFn.{fill_by_all}
use Rattle.std.proofs.lemmas.Bool.Decides.{eqb_tells}
use Rattle.script_lines.specs.Names.{code_from, code_of}

-- each is a byte
abbrev pub AreBytes : List ℕ → Type 0
AreBytes xs = All (λ b. b < 256) xs

tail : (b : ℕ) (bs : List ℕ) → AreBytes (b ∷ bs) → AreBytes bs
tail b bs a k d h = a (suc k) d (omega arith)

-- one byte more
pub code_more : (digits : ℕ) (xs : List ℕ) (i : ℕ) → i < length xs
    → code_from digits (take (suc i) xs) ≡ code_from digits (take i xs) * 256 + get_or xs i 0
code_more digits [] i h = absurd (omega arith)
code_more digits (x ∷ xs) zero h = refl
code_more digits (x ∷ xs) (suc i) h = code_more (digits * 256 + x) xs i (omega arith)

-- a bound of the number that goes on with these bytes
abbrev room : ℕ → List ℕ → ℕ
room most [] = most
room most (x ∷ xs) = room (most * 256) xs

below : (most digits : ℕ) (xs : List ℕ) → digits < most → AreBytes xs → code_from digits xs < room most xs
below most digits [] h a = h
below most digits (x ∷ xs) h a =
    let byte : x < 256 = a 0 0 (omega arith) in
    below (most * 256) (digits * 256 + x) xs (omega arith) (tail x xs a)

room_of_few : (xs : List ℕ) → length xs ≤ 6 → room 125 xs ≤ 2 ^ 56
room_of_few [] h = omega arith
room_of_few (a ∷ []) h = omega arith
room_of_few (a ∷ b ∷ []) h = omega arith
room_of_few (a ∷ b ∷ c ∷ []) h = omega arith
room_of_few (a ∷ b ∷ c ∷ d ∷ []) h = omega arith
room_of_few (a ∷ b ∷ c ∷ d ∷ e ∷ []) h = omega arith
room_of_few (a ∷ b ∷ c ∷ d ∷ e ∷ f ∷ []) h = omega arith
room_of_few (a ∷ b ∷ c ∷ d ∷ e ∷ f ∷ g ∷ xs) h = absurd (omega arith)

-- the number of a few bytes has room for one more
pub few_fit : (xs : List ℕ) → length xs ≤ 6 → AreBytes xs → code_of xs < 2 ^ 56
few_fit xs h a =
    let under = below 125 124 xs (omega arith) a in
    let most = room_of_few xs h in
    omega arith

-- where there is room, nothing is cut off
pub one_more_fits : (code b : ℕ) → code < 2 ^ 56 → b < 256 → ((code * 256) % 2 ^ 64 + b) % 2 ^ 64 ≡ code * 256 + b
one_more_fits code b h k =
    let shifted : (code * 256) % 2 ^ 64 ≡ code * 256 = mod-eq_of_lt (omega arith) in
    rw shifted (mod-eq_of_lt (omega arith))

-- as many bytes with the same number are the same
same_length : (c d : ℕ) (xs ys : List ℕ) → length xs ≡ length ys → AreBytes xs → AreBytes ys → code_from c xs ≡ code_from d ys → (c ≡ d) × (xs ≡ ys)
same_length c d [] [] l a b e = (e, refl)
same_length c d [] (y ∷ ys) l a b e = absurd (omega arith)
same_length c d (x ∷ xs) [] l a b e = absurd (omega arith)
same_length c d (x ∷ xs) (y ∷ ys) l a b e =
    let same = same_length (c * 256 + x) (d * 256 + y) xs ys (omega arith) (tail x xs a) (tail y ys b) e in
    let digits : c * 256 + x ≡ d * 256 + y = same.0 in
    let one : x < 256 = a 0 0 (omega arith) in
    let other : y < 256 = b 0 0 (omega arith) in
    (omega arith, ap₂ (λ (b : ℕ) (bs : List ℕ). b ∷ bs) (omega arith) same.1)

-- fewer bytes with the same number have more before them
fewer : (c d : ℕ) (xs ys : List ℕ) → 1 ≤ d → length xs ≤ length ys → AreBytes xs → AreBytes ys → code_from c xs ≡ code_from d ys → (xs ≡ ys) ⊎ (256 ≤ c)
fewer c d xs [] some l a b e = inl (same_length c d xs [] (omega arith) a b e).1
fewer c d xs (y ∷ ys) some l a b e =
    elim (eqb_tells (length xs) (suc (length ys))) [
      | inl is ↦ inl (same_length c d xs (y ∷ ys) is.1 a b e).1
      | inr isnt ↦
          let l1 : length xs ≢ suc (length ys) = isnt.1 in
          elim (eqb_tells (length xs) (length ys)) [
            | inl is ↦ let same = same_length c (d * 256 + y) xs ys is.1 a (tail y ys b) e in let same0 : c ≡ d * 256 + y = same.0 in inr (omega arith)
            | inr unequal ↦
                let l2 : length xs ≢ length ys = unequal.1 in
                elim (fewer c (d * 256 + y) xs ys (omega arith) (omega arith) a (tail y ys b) e) [
                  | inl same ↦ let lengths : length xs ≡ length ys = rw same refl in absurd (l2 lengths)
                  | inr more ↦ inr more
                ]
          ]
    ]

in_order : (m n : ℕ) → (m ≤ n) ⊎ (n ≤ m)
in_order zero n = inl (omega arith)
in_order (suc m) zero = inr (omega arith)
in_order (suc m) (suc n) = elim (in_order m n) [
  | inl h ↦ inl (omega arith)
  | inr h ↦ inr (omega arith)
]

-- bytes with the same number are the same
pub same_code : (xs ys : List ℕ) → AreBytes xs → AreBytes ys → code_of xs ≡ code_of ys → xs ≡ ys
same_code xs ys a b e = elim (in_order (length xs) (length ys)) [
  | inl h ↦ elim (fewer 124 124 xs ys (omega arith) h a b e) [
    | inl same ↦ same
    | inr more ↦ absurd (omega arith)
  ]
  | inr h ↦ elim (fewer 124 124 ys xs (omega arith) h b a (sym e)) [
    | inl same ↦ sym same
    | inr more ↦ absurd (omega arith)
  ]
]

-- after a first digit, a shift leaves the number of the first of eight bytes
shifted : (end n a b c d e f g h : ℕ) → a < 256 → b < 256 → c < 256 → d < 256 → e < 256 → f < 256 → g < 256 → h < 256
    → n ≡ ((((((a * 256 + b) * 256 + c) * 256 + d) * 256 + e) * 256 + f) * 256 + g) * 256 + h → end ≤ 7
    → (n / 2 ^ 8 + 124 * 2 ^ 56) / 2 ^ (56 - 8 * end) ≡ code_of (take end (a ∷ b ∷ c ∷ d ∷ e ∷ f ∷ g ∷ h ∷ []))
shifted zero n a b c d e f g h a1 b1 c1 d1 e1 f1 g1 h1 is few = omega arith
shifted (suc zero) n a b c d e f g h a1 b1 c1 d1 e1 f1 g1 h1 is few = omega arith
shifted (suc (suc zero)) n a b c d e f g h a1 b1 c1 d1 e1 f1 g1 h1 is few = omega arith
shifted (suc (suc (suc zero))) n a b c d e f g h a1 b1 c1 d1 e1 f1 g1 h1 is few = omega arith
shifted (suc (suc (suc (suc zero)))) n a b c d e f g h a1 b1 c1 d1 e1 f1 g1 h1 is few = omega arith
shifted (suc (suc (suc (suc (suc zero))))) n a b c d e f g h a1 b1 c1 d1 e1 f1 g1 h1 is few = omega arith
shifted (suc (suc (suc (suc (suc (suc zero)))))) n a b c d e f g h a1 b1 c1 d1 e1 f1 g1 h1 is few = omega arith
shifted (suc (suc (suc (suc (suc (suc (suc zero))))))) n a b c d e f g h a1 b1 c1 d1 e1 f1 g1 h1 is few = omega arith
shifted (suc (suc (suc (suc (suc (suc (suc (suc n9)))))))) n a b c d e f g h a1 b1 c1 d1 e1 f1 g1 h1 is few = absurd (omega arith)

-- the first eight, written out
first_eight : (xs : List ℕ) → 8 ≤ length xs → take 8 xs ≡ get_or xs 0 0 ∷ get_or xs 1 0 ∷ get_or xs 2 0 ∷ get_or xs 3 0
    ∷ get_or xs 4 0 ∷ get_or xs 5 0 ∷ get_or xs 6 0 ∷ get_or xs 7 0 ∷ []
first_eight xs room =
    fill_by_all (λ k. get_or xs k 0) (take 8 xs) 8 0 (length-take-le 8 xs room) (λ k h. get_or-take 8 xs k 0 h)

-- and so of the first bytes of a text
pub code_by_shift : (xs : List ℕ) (end n : ℕ) → 8 ≤ length xs → ((k : ℕ) → get_or xs k 0 < 256) → end ≤ 7
    → n ≡ ((((((get_or xs 0 0 * 256 + get_or xs 1 0) * 256 + get_or xs 2 0) * 256 + get_or xs 3 0) * 256 + get_or xs 4 0) * 256
    + get_or xs 5 0) * 256 + get_or xs 6 0) * 256 + get_or xs 7 0
    → (n / 2 ^ 8 + 124 * 2 ^ 56) / 2 ^ (56 - 8 * end) ≡ code_of (take end xs)
code_by_shift xs end n room bytes few is =
    shifted end n _ _ _ _ _ _ _ _ (bytes 0) (bytes 1) (bytes 2) (bytes 3) (bytes 4) (bytes 5) (bytes 6) (bytes 7) is few
    ∙ ap (λ front. code_of (take end front)) (sym (first_eight xs room)) ∙ ap code_of (take-take end 8 xs (omega arith))
