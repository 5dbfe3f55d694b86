-- How far a script was read.
use Rattle.std.proofs.Common.{◌≡◌, ℕ, suc, Bor, ◌+◌, ◌-◌, ◌<◌, ◌≤◌, List, [], ◌∷◌, ◌++◌, length, Bool, true, false, not, cond, filter, ◌||◌, ap₂, take, Option, Some, None}
use Rattle.std.proofs.Common.{MatchOption, IfSome, ◌==◌, drop, get_or, slice_get, refl, sym, ap, subst, ◌∙◌, arith, inl, inr}
use Rattle.std.specs.List.{AllZip, enumerate_from}
use Rattle.std.proofs.lemmas.Bool.{cases_lt}
use Rattle.std.proofs.Math.Bool.{or-false}
use Rattle.std.proofs.lemmas.List.Folds.{list_any-append}
use Rattle.std.proofs.lemmas.List.{append-nil, length-drop, length-take-le, take-append-drop, take_all, take_more}
use Rattle.std.proofs.lemmas.List.Sums.{count_by-le-length, sum_by-append}
use Rattle.std.proofs.lemmas.List.Elements.{filter-append}
use Rattle.std.proofs.lemmas.List.Splits.{length-slice_split}
use Rattle.std.proofs.Math.Seq.{drop-cons}
use Rattle.std.proofs.lemmas.Option.{get_or_from_slice_get, slice_get-get_or}
use Rattle.script_lines.specs.{IsLineEnd, AreLines, IsFirstBadLine, IsGoodLine, IsLimit, IsLineText, IsScript, asking_texts, ended_lines, has_go}
use Rattle.script_lines.specs.{is_go, is_skipped, texts_left, texts_of}
use Rattle.zone_blocks.specs.declared.config.Config.{Config}
use Rattle.script_lines.specs.declared.line.Line.{Line}
use Rattle.script_lines.proofs.Texts.{line_first}

-- the first lines of the script were good, and are these, with a `go` or none
pub record IsReadTo (sizes : Config) (script : List ℕ) (count : ℕ) (had_go : Bool) (lines : List Line) : Type 0 where
  pub good : (n : ℕ) → 1 ≤ n → n ≤ count → IsGoodLine sizes script n
  pub says : AreLines sizes (take count (texts_of script)) lines
  pub went_is : had_go ≡ has_go (take count (texts_of script))

-- the text of the next line
pub record IsNext (script : List ℕ) (count index : ℕ) (text : List ℕ) : Type 0 where
  pub index_is : index ≡ count
  pub inside : index < length (texts_of script)
  pub is_text : slice_get (texts_of script) index ≡ Some text

-- what is left after the first lines of the script
abbrev pub IsLeft : List ℕ → ℕ → Option (Bor (List ℕ)) → Type 0
IsLeft script count rest = drop count (texts_of script) ≡ texts_left rest

-- the number of the first line that is too far, if any
abbrev pub IsOver : List ℕ → Option ℕ → Type 0
IsOver script over = MatchOption over (length script ≤ 1048576) (λ n. (1048576 < length script) × (n ≡ ended_lines (take 1048576 script) + 1))

-- a limit tells that number
pub over_of : (script : List ℕ) (limit : ℕ) → IsLimit script limit → (over : Option ℕ) × IsOver script over
    × ((n : ℕ) → n < limit → IfSome over (λ first. n < first))
    × ((n : ℕ) → n < 18446744073709551615 → limit ≤ n → ¬ IfSome over (λ first. n < first))
over_of script limit is = elim (cases_lt 1048576 (length script)) [
  | inl long ↦ (Some limit, (long, is.0 long), (λ n h. h), (λ n small far near. omega arith))
  | inr fits ↦ let none = is.1 fits in (None, fits, (λ n h. tt), (λ n small far near. absurd (omega arith)))
]

zip_push : {A B : Type 0} (R : A → B → Type 0) (xs : List A) (ys : List B) (x : A) (y : B) → AllZip R xs ys → R x y → AllZip R (xs ++ x ∷ []) (ys ++ y ∷ [])
zip_push R [] [] x y all r = (r, tt)
zip_push R [] (b ∷ ys) x y all r = absurd all
zip_push R (a ∷ xs) [] x y all r = absurd all
zip_push R (a ∷ xs) (b ∷ ys) x y all r = (all.0, zip_push R xs ys x y all.1 r)

-- one text more has the next number
numbered_push : (n : ℕ) (texts : List (List ℕ)) (text : List ℕ) → enumerate_from n (texts ++ text ∷ []) ≡ enumerate_from n texts ++ (n + length texts, text) ∷ []
numbered_push n [] text = let e : n ≡ n + 0 = omega arith in ap (λ (m : ℕ). (m, text) ∷ []) e
numbered_push n (t ∷ texts) text =
    let e : n + 1 + length texts ≡ n + length (t ∷ texts) = omega arith in
    ap (λ (rest : List (ℕ × List ℕ)). (n, t) ∷ rest)
    (numbered_push (n + 1) texts text ∙ ap (λ (m : ℕ). enumerate_from (n + 1) texts ++ (m, text) ∷ []) e)

asking_push : (texts : List (List ℕ)) (text : List ℕ)
    → asking_texts (texts ++ text ∷ []) ≡ asking_texts texts ++ cond (not (is_skipped text)) ((1 + length texts, text) ∷ []) []
asking_push texts text =
    ap (filter (λ (t : ℕ × List ℕ). not (is_skipped t.1))) (numbered_push 1 texts text)
    ∙ filter-append (λ t. not (is_skipped t.1)) (enumerate_from 1 texts) ((1 + length texts, text) ∷ [])

-- as many texts as the lines that were read
count_read : (script : List ℕ) (count index : ℕ) (text : List ℕ) → IsNext script count index text
    → length (take count (texts_of script)) ≡ count
count_read script count index text next =
    let at = next.index_is in
    let inside = next.inside in
    length-take-le count (texts_of script) (omega arith)

-- the texts up to and with the next
next_text : (script : List ℕ) (count index : ℕ) (text : List ℕ) → IsNext script count index text
    → take (count + 1) (texts_of script) ≡ take count (texts_of script) ++ text ∷ []
next_text script count index text next =
    let at = get_or_from_slice_get (texts_of script) index text text next.is_text in
    let inside = next.inside in
    let here : get_or (texts_of script) count text ≡ text = rw (← next.index_is) at in
    let below : count < length (texts_of script) = rw (← next.index_is) inside in
    take_more (texts_of script) count text below ∙ ap (λ (t : List ℕ). take count (texts_of script) ++ t ∷ []) here

-- whether there is a `go` up to and with the next
next_go : (script : List ℕ) (count index : ℕ) (text : List ℕ) (had_go now : Bool) → IsNext script count index text
    → had_go ≡ has_go (take count (texts_of script)) → now ≡ (had_go || is_go text) → now ≡ has_go (take (count + 1) (texts_of script))
next_go script count index text had_go now next is now_is =
    let more : has_go (take (count + 1) (texts_of script)) ≡ has_go (take count (texts_of script) ++ text ∷ [])
    = ap has_go (next_text script count index text next) in
    let parts : has_go (take count (texts_of script) ++ text ∷ []) ≡ (has_go (take count (texts_of script)) || has_go (text ∷ []))
    = list_any-append is_go (take count (texts_of script)) (text ∷ []) in
    let one : has_go (text ∷ []) ≡ is_go text = or-false (is_go text) in
    now_is ∙ ap₂ (λ (a b : Bool). a || b) is (sym one) ∙ sym parts ∙ sym more

-- every line up to and with the next is good
more_good : (sizes : Config) (script : List ℕ) (count : ℕ) → ((n : ℕ) → 1 ≤ n → n ≤ count → IsGoodLine sizes script n)
    → IsGoodLine sizes script (count + 1) → (n : ℕ) → 1 ≤ n → n ≤ count + 1 → IsGoodLine sizes script n
more_good sizes script count before last n low high =
    elim (cases_lt count n) [
      | inl past ↦ let is_last : n ≡ count + 1 = omega arith in rw is_last last
      | inr within ↦ before n low within
    ]

-- a line that asks for nothing
pub passes_over : (sizes : Config) (script : List ℕ) (count : ℕ) (had_go now : Bool) (lines : List Line) (index : ℕ) (text : List ℕ)
    → IsReadTo sizes script count had_go lines → IsNext script count index text → IsGoodLine sizes script (index + 1)
    → is_skipped text ≡ true → now ≡ (had_go || is_go text) → IsReadTo sizes script (count + 1) now lines
passes_over sizes script count had_go now lines index text so_far next good skipped is =
    let asked = ap asking_texts (next_text script count index text next) ∙ asking_push (take count (texts_of script)) text in
    let same : asking_texts (take (count + 1) (texts_of script)) ≡ asking_texts (take count (texts_of script)) ++ [] = asked ∙ rw skipped refl in
    record {
      good = more_good sizes script count so_far.good (rw (← next.index_is) good);
      says = let P : List (ℕ × List ℕ) → Type 0 = λ texts. AllZip (λ t l. IsLineText sizes t.0 l t.1) texts lines in
          subst P (sym (same ∙ append-nil (asking_texts (take count (texts_of script))))) so_far.says;
      went_is = next_go script count index text had_go now next so_far.went_is is;
    }

-- a line that asks for something
pub takes_line : (sizes : Config) (script : List ℕ) (count : ℕ) (had_go now : Bool) (lines : List Line) (index : ℕ) (text : List ℕ) (line : Line)
    → IsReadTo sizes script count had_go lines → IsNext script count index text → IsGoodLine sizes script (index + 1)
    → is_skipped text ≡ false → IsLineText sizes (index + 1) line text → now ≡ (had_go || is_go text) → IsReadTo sizes script (count + 1) now (lines ++ line ∷ [])
takes_line sizes script count had_go now lines index text line so_far next good asks is now_is =
    let at = next.index_is in
    let read = count_read script count index text next in
    let number : 1 + length (take count (texts_of script)) ≡ index + 1 = omega arith in
    let asked = ap asking_texts (next_text script count index text next) ∙ asking_push (take count (texts_of script)) text in
    let same : asking_texts (take (count + 1) (texts_of script)) ≡ asking_texts (take count (texts_of script)) ++ (index + 1, text) ∷ []
    = asked ∙ rw asks (ap (λ (m : ℕ). asking_texts (take count (texts_of script)) ++ (m, text) ∷ []) number) in
    record {
      good = more_good sizes script count so_far.good (rw (← next.index_is) good);
      says = rw same (zip_push (λ t l. IsLineText sizes t.0 l t.1) _ lines (index + 1, text) line so_far.says is);
      went_is = next_go script count index text had_go now next so_far.went_is now_is;
    }

-- the next line is the first that isn't good
pub is_first_bad : (sizes : Config) (script : List ℕ) (count : ℕ) (had_go : Bool) (lines : List Line) (index : ℕ) (text : List ℕ)
    → IsReadTo sizes script count had_go lines → IsNext script count index text → ¬ IsGoodLine sizes script (index + 1)
    → IsFirstBadLine sizes script (index + 1)
is_first_bad sizes script count had_go lines index text so_far next bad =
    let at = next.index_is in
    let inside = next.inside in
    record {
      low = omega arith;
      high = omega arith;
      bad = bad;
      first = λ k low below. so_far.good k low (omega arith);
    }

-- a second `go` comes after a first
abbrev pub IsOnce : List ℕ → ℕ → List ℕ → Type 0
IsOnce script count text = is_go text ≡ true → has_go (take count (texts_of script)) ≡ false

-- what makes a line good
pub is_good : (sizes : Config) (script : List ℕ) (count index : ℕ) (text : List ℕ) (over : Option ℕ)
    → IsNext script count index text → length text ≤ 1024 → IsOver script over
    → IfSome over (λ first. index + 1 < first) → (is_skipped text ≡ false → (line : Line) × IsLineText sizes (index + 1) line text)
    → IsOnce script count text → IsGoodLine sizes script (index + 1)
is_good sizes script count index text None next short is_over near says once = record {
  text = text;
  is_text = let e : index + 1 - 1 ≡ index = omega arith in rw e next.is_text;
  short = short;
  within = λ long. let fits : length script ≤ 1048576 = is_over in absurd (omega arith);
  says = says;
  once = let at = next.index_is in let e : index + 1 - 1 ≡ count = omega arith in rw e once;
}
is_good sizes script count index text (Some first) next short is_over near says once = record {
  text = text;
  is_text = let e : index + 1 - 1 ≡ index = omega arith in rw e next.is_text;
  short = short;
  within = λ long. let last = is_over.1 in let below : index + 1 < first = near in omega arith;
  says = says;
  once = let at = next.index_is in let e : index + 1 - 1 ≡ count = omega arith in rw e once;
}

-- a good line has the text of the next line
same_text_at : (sizes : Config) (script : List ℕ) (count index : ℕ) (text : List ℕ) → IsNext script count index text
    → (good : IsGoodLine sizes script (index + 1)) → good.text ≡ text
same_text_at sizes script count index text next good =
    let e : index + 1 - 1 ≡ index = omega arith in
    let h : slice_get (texts_of script) index ≡ Some good.text = rw e at good.is_text in
    let is = next.is_text in cc

pub not_long : (sizes : Config) (script : List ℕ) (count index : ℕ) (text : List ℕ) → IsNext script count index text
    → 1024 < length text → ¬ IsGoodLine sizes script (index + 1)
not_long sizes script count index text next long good =
    let same = ap length (same_text_at sizes script count index text next good) in
    let short = good.short in omega arith

pub not_far : (sizes : Config) (script : List ℕ) (index : ℕ) (over : Option ℕ) → IsOver script over
    → ¬ IfSome over (λ first. index + 1 < first) → ¬ IsGoodLine sizes script (index + 1)
not_far sizes script index None is_over far good = far tt
not_far sizes script index (Some first) is_over far good =
    let within = good.within is_over.0 in let last = is_over.1 in far (omega arith)

pub not_said : (sizes : Config) (script : List ℕ) (count index : ℕ) (text : List ℕ) → IsNext script count index text
    → is_skipped text ≡ false → ((line : Line) → ¬ IsLineText sizes (index + 1) line text) → ¬ IsGoodLine sizes script (index + 1)
not_said sizes script count index text next asks none good =
    let same = same_text_at sizes script count index text next good in
    let asked : is_skipped good.text ≡ false = rw same asks in
    let said = good.says asked in
    let P : List ℕ → Type 0 = λ t. IsLineText sizes (index + 1) said.0 t in
    none said.0 (subst P same said.1)

-- a second `go` isn't good
pub not_once : (sizes : Config) (script : List ℕ) (count index : ℕ) (text : List ℕ) → IsNext script count index text
    → is_go text ≡ true → has_go (take count (texts_of script)) ≡ true → ¬ IsGoodLine sizes script (index + 1)
not_once sizes script count index text next goes before good =
    let same = same_text_at sizes script count index text next good in
    let now : is_go good.text ≡ true = rw same goes in
    let at = next.index_is in
    let e : index + 1 - 1 ≡ count = omega arith in
    let first : has_go (take count (texts_of script)) ≡ false = rw (← e) (good.once now) in
    cc

-- a beginning of a script has no more line feeds than the script
ended_more : (n : ℕ) (script : List ℕ) → ended_lines (take n script) ≤ ended_lines script
ended_more n script =
    let parts : ended_lines (take n script ++ drop n script) ≡ ended_lines (take n script) + ended_lines (drop n script)
    = sum_by-append (λ b. cond (b == 10) 1 0) (take n script) (drop n script) in
    let whole = ap ended_lines (take-append-drop n script) in
    omega arith

-- the last of the lines is within the bytes that a script may have
fits_when_good : (sizes : Config) (script : List ℕ)
    → ((n : ℕ) → 1 ≤ n → n ≤ length (texts_of script) → IsGoodLine sizes script n) → length script ≤ 1048576
fits_when_good sizes script good = elim (cases_lt 1048576 (length script)) [
  | inl long ↦
      let count = length-slice_split (λ b. b == 10) script in
      let ended = ended_more 1048576 script in
      let last = (good (length (texts_of script)) (omega arith) (omega arith)).within long in
      absurd (omega arith)
  | inr fits ↦ fits
]

-- after the last line
pub is_whole : (sizes : Config) (script : List ℕ) (count : ℕ) (had_go : Bool) (lines : List Line)
    → IsReadTo sizes script count had_go lines → count ≡ length (texts_of script) → IsScript sizes script lines
is_whole sizes script count had_go lines so_far all =
    let good : (n : ℕ) → 1 ≤ n → n ≤ length (texts_of script) → IsGoodLine sizes script n = λ n low high. so_far.good n low (omega arith) in
    let taken : take count (texts_of script) ≡ texts_of script = take_all count (texts_of script) (omega arith) in
    let P : List (List ℕ) → Type 0 = λ texts. AreLines sizes texts lines in
    record {
      fits = fits_when_good sizes script good;
      good = good;
      says = subst P taken so_far.says;
    }

-- as many lines as texts were read when nothing is left
pub all_read : (script : List ℕ) (count : ℕ) → count ≤ length (texts_of script) → IsLeft script count None → count ≡ length (texts_of script)
all_read script count within left =
    let size = length-drop count (texts_of script) in
    let none : length (drop count (texts_of script)) ≡ 0 = ap length left in
    omega arith

-- where the first of the texts that are left is this one, it is the next, and the others are left after it
pub next_of : (script : List ℕ) (count : ℕ) (text : List ℕ) (texts : List (List ℕ)) → drop count (texts_of script) ≡ text ∷ texts
    → IsNext script count count text × (drop (count + 1) (texts_of script) ≡ texts)
next_of script count text texts left =
    let size = length-drop count (texts_of script) in
    let some : length (drop count (texts_of script)) ≡ suc (length texts) = ap length left in
    let inside : count < length (texts_of script) = omega arith in
    let next : suc count ≡ count + 1 = omega arith in
    let same : get_or (texts_of script) count text ∷ drop (suc count) (texts_of script) ≡ text ∷ texts
    = sym (drop-cons (texts_of script) count text inside) ∙ left in
    let is_text : get_or (texts_of script) count text ≡ text = cc in
    let others : drop (suc count) (texts_of script) ≡ texts = cc in (
      record {
        index_is = refl;
        inside = inside;
        is_text = slice_get-get_or (texts_of script) count text inside ∙ ap Some is_text;
      },
      rw (← next) others,
    )

-- what is left begins with the next line
pub next_at : (script : List ℕ) (count end : ℕ) (rest : Option (Bor (List ℕ))) (left : Bor (List ℕ)) → IsLeft script count rest
    → rest ≡ Some left → IsLineEnd left.now end → IsNext script count count (take end left.now)
next_at script count end rest left is_left is ends =
    let first = line_first left.now end ends in
    (next_of script count (take end left.now) first.0 (is_left ∙ ap texts_left is ∙ first.1)).0

-- a script has fewer lines than a number can count
pub few_lines : (script : List ℕ) → length (texts_of script) ≤ length script + 1
few_lines script =
    let count = length-slice_split (λ b. b == 10) script in
    let few = count_by-le-length (λ b. b == 10) script in
    omega arith

-- a line that isn't `go` changes nothing
pub went_on : (had_go goes : Bool) → goes ≡ false → had_go ≡ (had_go || goes)
went_on true goes e = refl
went_on false goes e = sym e

pub went_now : (had_go goes : Bool) → goes ≡ true → true ≡ (had_go || goes)
went_now true goes e = refl
went_now false goes e = sym e
