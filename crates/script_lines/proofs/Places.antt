-- The first place of a byte, by the marks of the first lanes.
use Rattle.std.proofs.Common.{◌≡◌, ◌≢◌, ℕ, suc, ◌+◌, ◌*◌, ◌^◌, ◌<◌, ◌≤◌, List, [], ◌∷◌, ◌++◌, All, length, take, get_or, ◌%◌, Bool, true, false, not, cond, eqb, ltb, Fits, w8, arith, refl, sym, ap, ◌∙◌}
use lib.Count.{count_trailing_zeros}
use lib.Lanes.{chunk, mask_l}
use mathlib.Core.List.{map}
use Rattle.std.proofs.lemmas.Bool.{eq-eqb, eqb-false, eqb-true, ltb-false, ltb-true}
use Rattle.std.proofs.lemmas.List.{get_or-take, get_or_append_left, length-append, length-take-le, take-append-le, take-take, take_all}
use Rattle.std.proofs.lemmas.List.Elements.{All-from_get_or}
use Rattle.std.proofs.lemmas.Simd.{length-chunk, map-map, run_in_chunk_fails, run_in_chunk_stops, trailing_mask_l}
use Rattle.std.specs.List.{prefix_len}
use Rattle.script_lines.specs.Places.{IsFirstPlace, IsPathEnd}

stops_here : (t : Bool) (m n l : ℕ) → (0 < m → n < l) → 0 < cond t 1 0 + 2 * m → cond (not t) (1 + n) 0 < suc l
stops_here true m n l later h = omega arith
stops_here false m n l later h = let past = later (omega arith) in omega arith

-- where a lane is marked, the lanes before the first such aren't all
stops : (p : ℕ → Bool) (xs : List ℕ) → 0 < mask_l (map p xs) → prefix_len (λ x. not (p x)) xs < length xs
stops p [] h = absurd (omega arith)
stops p (x ∷ xs) h = stops_here (p x) (mask_l (map p xs)) (prefix_len (λ y. not (p y)) xs) (length xs) (stops p xs) h

-- the lowest mark of the first lanes is the first place of a byte that p holds of
lowest_mark : (p : ℕ → Bool) (lanes : ℕ) (text : List ℕ) (marks : ℕ) → lanes ≤ 64 → lanes ≤ length text
    → marks ≡ mask_l (map p (chunk 0 lanes text)) → marks ≢ 0
    → (count_trailing_zeros 64 marks < lanes) × (p (get_or text (count_trailing_zeros 64 marks) 0) ≡ true)
    × All (λ b. p b ≡ false) (take (count_trailing_zeros 64 marks) text)
lowest_mark p lanes text marks few room is some =
    let v = chunk 0 lanes text in
    let long : length v ≡ lanes = length-chunk 0 lanes text (omega arith) in
    let marked : 0 < mask_l (map p v) = omega arith in
    let place = count_trailing_zeros 64 marks in
    let counted : place ≡ prefix_len (λ x. not (p x)) v
    = ap (count_trailing_zeros 64) is ∙ trailing_mask_l p 64 v (omega arith) marked in
    let short = stops p v marked in
    let low : place < lanes = omega arith in
    let here : p (get_or text (0 + place) 0) ≡ true = run_in_chunk_stops p text 0 lanes place 0 (omega arith) counted low in
    let at : 0 + place ≡ place = omega arith in (
      low,
      rw at at here,
      λ k d h.
          let taken = length-take-le place text (omega arith) in
          let fails : p (get_or text k d) ≡ false
          = run_in_chunk_fails p text 0 lanes place d (omega arith) counted k (omega arith) (omega arith) in
          ap p (get_or-take place text k d (omega arith)) ∙ fails,
    )

-- so it is the first place of the byte that was looked for
pub first_marked : (lanes wanted : ℕ) (text : List ℕ) (marks : ℕ) → lanes ≤ 64 → lanes ≤ length text
    → marks ≡ mask_l (map (λ x. eqb x wanted) (chunk 0 lanes text)) → marks ≢ 0
    → (count_trailing_zeros 64 marks < lanes) × IsFirstPlace wanted text (count_trailing_zeros 64 marks)
first_marked lanes wanted text marks few room is some =
    let found = lowest_mark (λ x. eqb x wanted) lanes text marks few room is some in
    let low = found.0 in (
      low,
      record {
        inside = omega arith;
        here = eqb-true _ wanted found.1;
        before = λ k d h. eqb-false _ wanted (found.2 k d h);
      },
    )

-- the marks of bytes that no path has
pub path_marked : (text : List ℕ) (marks : ℕ) → 16 ≤ length text → ((k : ℕ) → Fits w8 (get_or text k 0))
    → marks ≡ mask_l (map (λ x. ltb x 162) (map (λ x. (x + 129) % 256) (chunk 0 16 text))) → marks ≢ 0 → IsPathEnd text (count_trailing_zeros 64 marks)
path_marked text marks room bytes is some =
    let mask = is ∙ ap mask_l (map-map (λ x. ltb x 162) (λ x. (x + 129) % 256) (chunk 0 16 text)) in
    let found = lowest_mark (λ x. ltb ((x + 129) % 256) 162) 16 text marks (omega arith) room mask some in
    let low = found.0 in
    record {
      inside = omega arith;
      here = λ range. let high = ltb-true _ 162 found.1 in omega arith;
      before = All-from_get_or (λ b. (32 < b) × (b < 127)) (take (count_trailing_zeros 64 marks) text) 0 (λ k h.
          let taken = length-take-le (count_trailing_zeros 64 marks) text (omega arith) in
          let byte : get_or (take (count_trailing_zeros 64 marks) text) k 0 < 256
          = rw (get_or-take (count_trailing_zeros 64 marks) text k 0 (omega arith)) (bytes k).fits in
          let far = ltb-false _ 162 (found.2 k 0 h) in
          (omega arith, omega arith));
    }

mask_more : (p : ℕ → Bool) (xs : List ℕ) (y : ℕ) → p y ≡ true → mask_l (map p (xs ++ y ∷ [])) ≡ mask_l (map p xs) + 2 ^ length xs
mask_more p [] y e = rw e refl
mask_more p (x ∷ xs) y e =
    let more = mask_more p xs y e in
    let double : 2 ^ suc (length xs) ≡ 2 * 2 ^ length xs = omega arith in
    omega (arith, more, double)

-- the lowest mark of the first eight, with one more after them
pub near_marked : (wanted : ℕ) (text : List ℕ) (marks : ℕ) → 8 ≤ length text → marks ≡ mask_l (map (λ x. eqb x wanted) (chunk 0 8 text))
    → (count_trailing_zeros 64 (marks + 256) ≤ 8) × All (λ b. b ≢ wanted) (take (count_trailing_zeros 64 (marks + 256)) text)
    × (count_trailing_zeros 64 (marks + 256) < 8 → get_or text (count_trailing_zeros 64 (marks + 256)) 0 ≡ wanted)
near_marked wanted text marks room is =
    let v = take 8 text in
    let padded = v ++ wanted ∷ [] in
    let place = count_trailing_zeros 64 (marks + 256) in
    let long : length v ≡ 8 = length-take-le 8 text room in
    let nine : length padded ≡ 9 = length-append v (wanted ∷ []) ∙ ap (λ n. n + 1) long in
    let whole : take 9 padded ≡ padded = take_all 9 padded (omega arith) in
    let more : mask_l (map (λ x. eqb x wanted) padded) ≡ mask_l (map (λ x. eqb x wanted) v) + 2 ^ length v = mask_more (λ x. eqb x wanted) v wanted (eq-eqb wanted wanted refl) in
    let size : 2 ^ length v ≡ 256 = rw long refl in
    let all : marks + 256 ≡ mask_l (map (λ x. eqb x wanted) padded) = omega (arith, more, size, is) in
    let found = first_marked 9 wanted padded (marks + 256) (omega arith) (omega arith) (rw whole all) (λ e. omega arith) in
    let low : place ≤ 8 = omega (arith, found.0) in
    let front : take place padded ≡ take place text = take-append-le place v (wanted ∷ []) (omega arith) ∙ take-take place 8 text low in (
      low,
      rw front at found.1.before,
      λ near. sym (get_or_append_left v (wanted ∷ []) 0 place (omega arith) ∙ get_or-take 8 text place 0 near) ∙ found.1.here,
    )
