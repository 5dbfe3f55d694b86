-- A text that is cut at its first space.
use Rattle.std.proofs.Common.{◌≡◌, ◌≢◌, ℕ, zero, suc, ◌+◌, ◌-◌, ◌<◌, List, [], ◌∷◌, ◌++◌, arith, refl, sym, ap, ap₂, ◌∙◌, All, drop, get_or, length, take, inl, inr}
use Rattle.std.proofs.Math.Seq.{drop-cons, get_or-append_seam}
use Rattle.std.proofs.lemmas.Bool.{cases_lt}
use Rattle.std.proofs.lemmas.List.{get_or-take, get_or_append_left, length-take-le, take-append-drop, take_rest}
use Rattle.std.proofs.lemmas.Str.Parse.{digit_from_value}
use Rattle.std.specs.Str.Parse.{AllDigits}
use Rattle.script_lines.specs.{IsPathEnd, IsCut, IsCutAt, IsPathText}

-- the text has no space
abbrev pub NoSpace : List ℕ → Type 0
NoSpace text = All (λ b. b ≢ 32) text

no_space_tail : (b : ℕ) (bs : List ℕ) → NoSpace (b ∷ bs) → NoSpace bs
no_space_tail b bs a k d h = a (suc k) d (omega arith)

-- a text is cut in one way
same_cut : (w r v s : List ℕ) → NoSpace w → NoSpace v → w ++ 32 ∷ r ≡ v ++ 32 ∷ s → (w ≡ v) × (r ≡ s)
same_cut [] r [] s no_w no_v e = (refl, cc)
same_cut [] r (y ∷ v) s no_w no_v e = let h : y ≡ 32 = cc in absurd (no_v 0 0 (omega arith) h)
same_cut (x ∷ w) r [] s no_w no_v e = let h : x ≡ 32 = cc in absurd (no_w 0 0 (omega arith) h)
same_cut (x ∷ w) r (y ∷ v) s no_w no_v e =
    let tails : w ++ 32 ∷ r ≡ v ++ 32 ∷ s = cc in
    let heads : x ≡ y = cc in
    let rest = same_cut w r v s (no_space_tail x w no_w) (no_space_tail y v no_v) tails in
    (ap₂ (λ (b : ℕ) (bs : List ℕ). b ∷ bs) heads rest.0, rest.1)

-- where the text was cut, it is so in no other way
pub cut_once : (text w r v s : List ℕ) → IsCut text w r → NoSpace v → text ≡ v ++ 32 ∷ s → (w ≡ v) × (r ≡ s)
cut_once text w r v s cut no_v e = same_cut w r v s cut.no_space no_v (sym cut.parts ∙ e)

-- a text without a space has no cut
pub no_cut : (text v s : List ℕ) → NoSpace text → text ≡ v ++ 32 ∷ s → ⊥
no_cut [] [] s a e = cc
no_cut [] (y ∷ v) s a e = cc
no_cut (b ∷ bs) [] s a e = let h : b ≡ 32 = cc in a 0 0 (omega arith) h
no_cut (b ∷ bs) (y ∷ v) s a e = let tails : bs ≡ v ++ 32 ∷ s = cc in no_cut bs v s (no_space_tail b bs a) tails

-- a text is cut at a space with none before it
pub is_cut : (text : List ℕ) (end : ℕ) → end < length text → NoSpace (take end text) → get_or text end 0 ≡ 32 → IsCutAt text end
is_cut text end more none here =
    let next : suc end ≡ end + 1 = omega arith in
    let space : drop end text ≡ 32 ∷ drop (suc end) text = drop-cons text end 0 more ∙ ap (λ (b : ℕ). b ∷ drop (suc end) text) here in
    let parts : take end text ++ 32 ∷ drop (end + 1) text ≡ text
    = rw (← next) (ap (λ t. take end text ++ t) (sym space) ∙ take-append-drop end text) in
    (more, record { parts = sym parts; no_space = none })

-- and the slice after that place is the rest
pub cut_slice : (text : List ℕ) (end : ℕ) → IsCutAt text end
    → IsCut text (take end text) (take (length text - (end + 1)) (drop (end + 1) text))
cut_slice text end is = rw (take_rest text (end + 1)) is.1

pub cut_at : (text : List ℕ) (end : ℕ) → end < length text → NoSpace (take end text) → get_or text end 0 ≡ 32
    → IsCut text (take end text) (take (length text - (end + 1)) (drop (end + 1) text))
cut_at text end more none here = cut_slice text end (is_cut text end more none here)

-- a path has no space
pub path_no_space : (path : List ℕ) → IsPathText path → NoSpace path
path_no_space path is k d h e = let range = is.graphic k d h in omega arith

-- graphic bytes are no spaces
pub graphic_no_space : (text : List ℕ) → All (λ b. (32 < b) × (b < 127)) text → NoSpace text
graphic_no_space text graphic k d h e = let range = graphic k d h in omega arith

-- a path that a space follows ends at the first byte that no path has
pub path_ends : (text : List ℕ) (end : ℕ) (path rest : List ℕ) → IsPathEnd text end → IsPathText path → text ≡ path ++ 32 ∷ rest
    → (0 < end) × (get_or text end 0 ≡ 32)
path_ends text end path rest ends is e =
    let space : get_or text (length path) 0 ≡ 32 = rw e (get_or-append_seam path 32 rest 0) in
    let inside = ends.inside in
    let some = is.some in
    elim (cases_lt end (length path)) [
      | inl more ↦
          let same : get_or text end 0 ≡ get_or path end 0 = ap (λ t. get_or t end 0) e ∙ get_or_append_left path (32 ∷ rest) 0 end more in
          absurd (ends.here (rw same (is.graphic end 0 more)))
      | inr within ↦ elim (cases_lt (length path) end) [
        | inl past ↦
            let taken = length-take-le end text (omega arith) in
            let range = ends.before (length path) 0 (omega arith) in
            let here : get_or (take end text) (length path) 0 ≡ 32 = get_or-take end text (length path) 0 past ∙ space in
            absurd (omega arith)
        | inr whole ↦ let same : length path ≡ end = omega arith in (omega arith, rw (← same) space)
      ]
    ]

-- digits have no space
pub digits_no_space : (ds : List ℕ) → AllDigits 10 ds → NoSpace ds
digits_no_space [] a k d h e = omega arith
digits_no_space (c ∷ cs) a zero d h e = let range = digit_from_value c a.0 in omega arith
digits_no_space (c ∷ cs) a (suc k) d h e = digits_no_space cs a.1 k d (omega arith) e
