-- How far the refused lines of a script were found.
use Rattle.std.proofs.Common.{◌≡◌, ◌∙◌, ℕ, ◌+◌, ◌≤◌, List, [], ◌∷◌, ◌++◌, length, take, Bool, true, false, Option, None, Some}
use Rattle.std.proofs.Common.{sym, ap, subst, arith, inl, inr}
use Rattle.std.proofs.lemmas.Bool.{cases_lt}
use Rattle.std.proofs.lemmas.List.{append-nil, append_assoc, length_push, take_more}
use Rattle.std.proofs.lemmas.Option.{get_or_from_slice_get}
use Rattle.zone_blocks.specs.declared.config.Config.{Config}
use Rattle.script_lines.specs.Script.{texts_of}
use Rattle.script_lines.proofs.Progress.{IsNext, IsOver}
use Rattle.script_lint.specs.{IsWithin, IsJudgedText, AreJudged, AreRefused, numbered}
use Rattle.script_lint.specs.declared.refusal.Refusal.{Refusal}
use Rattle.script_lint.specs.declared.refused.RefusedLine.{RefusedLine}
use Rattle.script_lint.proofs.Progress.{IsBefore}

-- something is known of each of the first lines, which are within the script, and these are the refused ones
pub record IsFoundTo (sizes : Config) (script : List ℕ) (count : ℕ) (refused : List RefusedLine) : Type 0 where
  pub judged : List (Option Refusal)
  pub long : length judged ≡ count
  pub judges : AreJudged sizes [] (take count (texts_of script)) judged
  pub within : (n : ℕ) → 1 ≤ n → n ≤ count → IsWithin script n
  pub are : refused ≡ numbered 1 judged

judged_push : (sizes : Config) (before texts : List (List ℕ)) (judged : List (Option Refusal)) (text : List ℕ) (why : Option Refusal)
    → AreJudged sizes before texts judged → IsJudgedText sizes (before ++ texts) text why
    → AreJudged sizes before (texts ++ text ∷ []) (judged ++ why ∷ [])
judged_push sizes before [] [] text why all is = (subst (λ (ts : List (List ℕ)). IsJudgedText sizes ts text why) (append-nil before) is, tt)
judged_push sizes before [] (j ∷ js) text why all is = absurd all
judged_push sizes before (t ∷ ts) [] text why all is = absurd all
judged_push sizes before (t ∷ ts) (j ∷ js) text why all is = (
  all.0,
  judged_push sizes (before ++ t ∷ []) ts js text why all.1
      (subst (λ (all_before : List (List ℕ)). IsJudgedText sizes all_before text why) (sym (append_assoc before (t ∷ []) ts)) is),
)

-- what is known of one line more has the next number
numbered_push : (n : ℕ) (judged : List (Option Refusal)) (j : Option Refusal)
    → numbered n (judged ++ j ∷ []) ≡ numbered n judged ++ numbered (n + length judged) (j ∷ [])
numbered_push n [] j = let e : n ≡ n + 0 = omega arith in ap (λ (m : ℕ). numbered m (j ∷ [])) e
numbered_push n (None ∷ rest) j =
    let e : n + 1 + length rest ≡ n + length {A = Option Refusal} (None ∷ rest) = omega arith in
    numbered_push (n + 1) rest j ∙ ap (λ (m : ℕ). numbered (n + 1) rest ++ numbered m (j ∷ [])) e
numbered_push n (Some why ∷ rest) j =
    let e : n + 1 + length rest ≡ n + length {A = Option Refusal} (Some why ∷ rest) = omega arith in
    ap (λ (lines : List RefusedLine). record { line = n; refusal = why } ∷ lines)
    (numbered_push (n + 1) rest j ∙ ap (λ (m : ℕ). numbered (n + 1) rest ++ numbered m (j ∷ [])) e)

pub next_text : (script : List ℕ) (count : ℕ) (text : List ℕ) → IsNext script count count text
    → take (count + 1) (texts_of script) ≡ take count (texts_of script) ++ text ∷ []
next_text script count text next =
    let here = get_or_from_slice_get (texts_of script) count text text next.is_text in
    take_more (texts_of script) count text next.inside ∙ ap (λ (t : List ℕ). take count (texts_of script) ++ t ∷ []) here

-- a line before the first that is too far is within the script
within_of : (script : List ℕ) (n : ℕ) (over : Option ℕ) (is_within : Bool) → IsOver script over → IsBefore is_within n over
    → is_within ≡ true → IsWithin script n
within_of script n None is_within is_over before is long = absurd (omega arith)
within_of script n (Some first) is_within is_over before is long =
    let near = before.0 is in let last = is_over.1 in omega arith

-- the next line was looked at
pub next_found : (sizes : Config) (script : List ℕ) (count : ℕ) (text : List ℕ) (over : Option ℕ) (is_within : Bool) (j : Option Refusal)
    (old now : List RefusedLine) → IsFoundTo sizes script count old → IsNext script count count text → IsOver script over
    → IsBefore is_within (count + 1) over → is_within ≡ true → IsJudgedText sizes (take count (texts_of script)) text j
    → now ≡ old ++ numbered (count + 1) (j ∷ []) → IsFoundTo sizes script (count + 1) now
next_found sizes script count text over is_within j old now so_far next is_over before is known added =
    let long = so_far.long in
    let number : 1 + length so_far.judged ≡ count + 1 = omega arith in
    record {
      judged = so_far.judged ++ j ∷ [];
      long = length_push so_far.judged j ∙ ap (λ (n : ℕ). n + 1) long;
      judges = subst (λ (texts : List (List ℕ)). AreJudged sizes [] texts (so_far.judged ++ j ∷ [])) (sym (next_text script count text next))
          (judged_push sizes [] (take count (texts_of script)) so_far.judged text j so_far.judges known);
      within = λ n low high. elim (cases_lt count n) [
        | inl past ↦ let is_last : n ≡ count + 1 = omega arith in rw is_last (within_of script (count + 1) over is_within is_over before is)
        | inr near ↦ so_far.within n low near
      ];
      are = added ∙ ap (λ (lines : List RefusedLine). lines ++ numbered (count + 1) (j ∷ [])) so_far.are
          ∙ ap (λ (n : ℕ). numbered 1 so_far.judged ++ numbered n (j ∷ [])) (sym number) ∙ sym (numbered_push 1 so_far.judged j);
    }

-- all lines were looked at
pub ends_whole : (sizes : Config) (script : List ℕ) (count : ℕ) (refused : List RefusedLine) → IsFoundTo sizes script count refused
    → count ≡ length (texts_of script) → AreRefused sizes script refused
ends_whole sizes script count refused so_far whole =
    let long = so_far.long in
    record {
      judged = so_far.judged;
      judges = rw long so_far.judges;
      within = λ n low high. so_far.within n low (omega arith);
      all = λ n low high near. omega arith;
      are = so_far.are;
    }

-- the next line is too far
pub ends_over : (sizes : Config) (script : List ℕ) (count : ℕ) (over : Option ℕ) (is_within : Bool) (refused : List RefusedLine)
    → IsFoundTo sizes script count refused → IsOver script over → IsBefore is_within (count + 1) over → is_within ≡ false
    → AreRefused sizes script refused
ends_over sizes script count None is_within refused so_far is_over before isnt = let yes = before.1 tt in cc
ends_over sizes script count (Some first) is_within refused so_far is_over before isnt =
    let long = so_far.long in
    record {
      judged = so_far.judged;
      judges = rw long so_far.judges;
      within = λ n low high. so_far.within n low (omega arith);
      all = λ n low high near.
          let last = is_over.1 in
          let le = near is_over.0 in
          elim (cases_lt (count + 1) first) [
            | inl before_it ↦ let yes = before.1 before_it in cc
            | inr far ↦ omega arith
          ];
      are = so_far.are;
    }
