-- How far a script was linted.
use Rattle.std.proofs.Common.{◌≡◌, ◌⊎◌, ◌↔◌, inl, inr, ℕ, Bor, ◌+◌, ◌-◌, ◌<◌, ◌≤◌, List, [], ◌∷◌, ◌++◌, All, length, Bool, true, false, ◌||◌, ap₂, take, Option, Some, None}
use Rattle.std.proofs.Common.{IfSome, IsTrue, MatchOption, get_or, slice_get, refl, sym, ap, subst, ◌∙◌, arith}
use Rattle.std.specs.Prelude.{⊤}
use Rattle.std.proofs.Math.Bool.{or-false}
use Rattle.std.proofs.lemmas.Bool.{cases_lt}
use Rattle.std.proofs.lemmas.List.Elements.{All-push}
use Rattle.std.proofs.lemmas.List.Folds.{list_any-append}
use Rattle.std.proofs.lemmas.List.Quantifiers.{all_pairs_push}
use Rattle.std.proofs.lemmas.List.{take_more}
use Rattle.std.proofs.lemmas.Option.{get_or_from_slice_get}
use Rattle.zone_blocks.specs.declared.config.Config.{Config}
use Rattle.script_lines.specs.Script.{IsGoodLine, IsLineText, has_go, is_go, is_skipped, texts_of}
use Rattle.script_lines.specs.declared.line.Line.{Line}
use Rattle.script_lines.specs.declared.line.Line.TheVariants.{Go, At}
use Rattle.script_lines.proofs.Progress.{IsNext, IsOver, is_good, not_far}
use Rattle.script_lint.specs.{AreFindings, IsFinding, IsLinted, IsWithin, Names, IsGoodHere, IsSpot, AddsFinding, AddsSpot, IsGoodText, IsRequest}
use Rattle.script_lint.specs.declared.finding.Cause.{Cause}
use Rattle.script_lint.specs.declared.finding.Cause.TheVariants.{InputTooLong, LineTooLong}
use Rattle.script_lint.specs.declared.finding.Finding.{Finding}
use Rattle.script_lint.specs.declared.finding.Spot.{Spot}
use Rattle.script_lint.proofs.Ends.{go_is, go_text}
use Rattle.script_lint.proofs.Spots.{spot_to}

-- the first lines of the script were linted, with a `go` or none among them
pub record IsLintedTo (sizes : Config) (script : List ℕ) (count : ℕ) (had_go : Bool) (findings : List Finding) : Type 0 where
  pub are : AreFindings sizes script count findings
  pub went_is : had_go ≡ has_go (take count (texts_of script))

-- ---- one line

either : (b : Bool) → (b ≡ true) ⊎ (b ≡ false)
either true = inl refl
either false = inr refl

-- a good text has a line of any number
says_line : (sizes : Config) (n : ℕ) (had_go : Bool) (text : List ℕ) → IsGoodText sizes had_go text
    → is_skipped text ≡ false → (line : Line) × IsLineText sizes n line text
says_line sizes n had_go text good asks = elim (good.says asks) [
  | inl goes ↦ (Go, go_text text goes)
  | inr is ↦ (At n is.0 is.1, (refl, is.2))
]

of_line : (sizes : Config) (n : ℕ) (text : List ℕ) (line : Line) → IsLineText sizes n line text → (is_go text ≡ true) ⊎ IsRequest sizes text
of_line sizes n text Go is = inl (go_is text is)
of_line sizes n text (At number cpu command) is = inr (cpu, command, is.1)

never_both : (goes had_go : Bool) → (goes ≡ true → had_go ≡ false) → had_go ≡ true → goes ≡ false
never_both true true once e = once refl
never_both false had_go once e = refl
never_both true false once e = cc

-- whether a line is before the first that isn't within the script
abbrev pub IsBefore : Bool → ℕ → Option ℕ → Type 0
IsBefore is_within n over = IsTrue is_within ↔ IfSome over (λ first. n < first)

true_of : (b : Bool) → IsTrue b → b ≡ true
true_of b h = h

true_is : (b : Bool) → b ≡ true → IsTrue b
true_is b e = e

within_before : (script : List ℕ) (n : ℕ) (over : Option ℕ) (is_within : Bool) → IsOver script over → IsBefore is_within n over
    → IsWithin script n → is_within ≡ true
within_before script n None is_within is_over before within = true_of is_within (before.1 tt)
within_before script n (Some first) is_within is_over before within =
    let last = is_over.1 in let near = within is_over.0 in true_of is_within (before.1 (omega arith))

within_after : (script : List ℕ) (n : ℕ) (over : Option ℕ) (is_within : Bool) → IsOver script over → IsBefore is_within n over
    → is_within ≡ true → IsWithin script n
within_after script n None is_within is_over before is long = absurd (omega arith)
within_after script n (Some first) is_within is_over before is long =
    let near = before.0 (true_is is_within is) in let last = is_over.1 in omega arith

-- the next line of the script, and what is known of it
module _ (sizes : Config) (script : List ℕ) (count index : ℕ) (text : List ℕ) (next : IsNext script count index text)
    (had_go : Bool) (went_is : had_go ≡ has_go (take count (texts_of script))) (over : Option ℕ) (is_over : IsOver script over)
    (is_within : Bool) (before : IsBefore is_within (index + 1) over) where
  same_text : (good : IsGoodLine sizes script (index + 1)) → good.text ≡ text
  same_text good =
      let e : index + 1 - 1 ≡ index = omega arith in
      let h : slice_get (texts_of script) index ≡ Some good.text = rw e at good.is_text in
      let is = next.is_text in cc

  -- a good text is that of a good line
  pub line_of : IsGoodHere sizes had_go (is_within ≡ true) text → IsGoodLine sizes script (index + 1)
  line_of good = is_good sizes script count index text over next good.short is_over (before.0 (true_is is_within good.within))
      (says_line sizes (index + 1) had_go text good.good) once
    where
      once : is_go text ≡ true → has_go (take count (texts_of script)) ≡ false
      once goes = sym went_is ∙ never_both had_go (is_go text) (λ e. good.good.once e) goes

  -- the text of a good line is good
  pub text_of : IsGoodLine sizes script (index + 1) → IsGoodHere sizes had_go (is_within ≡ true) text
  text_of good =
      let same = same_text good in
      let at = next.index_is in
      let e : index + 1 - 1 ≡ count = omega arith in
      record {
        good = record {
          says = λ asks.
              let said = good.says (subst (λ (t : List ℕ). is_skipped t ≡ false) (sym same) asks) in
              of_line sizes (index + 1) text said.0 (subst (λ (t : List ℕ). IsLineText sizes (index + 1) said.0 t) same said.1);
          once = never_both (is_go text) had_go (λ goes.
              let first : has_go (take (index + 1 - 1) (texts_of script)) ≡ false
              = good.once (subst (λ (t : List ℕ). is_go t ≡ true) (sym same) goes) in
              went_is ∙ rw e at first);
        };
        short = subst (λ (t : List ℕ). length t ≤ 1024) same good.short;
        within = elim (either is_within) [
          | inl is ↦ is
          | inr isnt ↦ absurd (not_far sizes script index over is_over (λ near. let yes = true_of is_within (before.1 near) in cc) good)
        ];
      }

  -- the finding of the line
  pub is_finding : (found : Finding) → found.line ≡ index + 1 → found.text.now ≡ text
      → IsSpot sizes had_go (is_within ≡ true) text found.spot → IsFinding sizes script found
  is_finding found line_is text_is spot =
      let at = next.index_is in
      let here : found.line - 1 ≡ index = omega arith in
      let first : found.line - 1 ≡ count = omega arith in
      record {
        low = omega arith;
        is_text = rw here (rw text_is next.is_text);
        bad = λ good. spot.bad (text_of (rw line_is at good));
        spot = rw first (rw text_is (rw (← went_is) (rw line_is
            (spot_to sizes had_go (is_within ≡ true) (IsWithin script (index + 1))
            (within_after script (index + 1) over is_within is_over before)
            (within_before script (index + 1) over is_within is_over before) text found.spot spot))));
      }

-- ---- the list

names_more : (fs : List Finding) (f : Finding) (n : ℕ) → Names fs n → Names (fs ++ f ∷ []) n
names_more [] f n h = absurd h
names_more (g ∷ fs) f n (inl h) = inl h
names_more (g ∷ fs) f n (inr h) = inr (names_more fs f n h)

names_last : (fs : List Finding) (f : Finding) → Names (fs ++ f ∷ []) f.line
names_last [] f = inl refl
names_last (g ∷ fs) f = inr (names_last fs f)

-- whether there is a `go` up to and with the next line
go_more : (script : List ℕ) (count index : ℕ) (text : List ℕ) (had_go : Bool) → IsNext script count index text
    → had_go ≡ has_go (take count (texts_of script)) → (had_go || is_go text) ≡ has_go (take (count + 1) (texts_of script))
go_more script count index text had_go next is =
    let at = get_or_from_slice_get (texts_of script) index text text next.is_text in
    let inside = next.inside in
    let here : get_or (texts_of script) count text ≡ text = rw (← next.index_is) at in
    let below : count < length (texts_of script) = rw (← next.index_is) inside in
    let more : take (count + 1) (texts_of script) ≡ take count (texts_of script) ++ text ∷ []
    = take_more (texts_of script) count text below ∙ ap (λ (t : List ℕ). take count (texts_of script) ++ t ∷ []) here in
    let parts : has_go (take count (texts_of script) ++ text ∷ []) ≡ (has_go (take count (texts_of script)) || has_go (text ∷ []))
    = list_any-append is_go (take count (texts_of script)) (text ∷ []) in
    let one : has_go (text ∷ []) ≡ is_go text = or-false (is_go text) in
    ap₂ (λ (a b : Bool). a || b) is (sym one) ∙ sym parts ∙ sym (ap has_go more)

-- what is linted of one line more
module _ (sizes : Config) (script : List ℕ) (count : ℕ) (findings : List Finding) (are : AreFindings sizes script count findings) where
  later : All (λ f. IsFinding sizes script f × (f.line ≤ count + 1)) findings
  later k d h = let is = are.sound k d h in let le = is.1 in (is.0, omega arith)

  -- a good line
  pub passes : IsGoodLine sizes script (count + 1) → AreFindings sizes script (count + 1) findings
  passes good = record {
    sound = later;
    in_order = are.in_order;
    complete = λ n low high. elim (cases_lt count n) [
      | inl past ↦ let is_last : n ≡ count + 1 = omega arith in inl (rw is_last good)
      | inr within ↦ are.complete n low within
    ];
  }

  -- a bad line
  pub finds : (found : Finding) → found.line ≡ count + 1 → IsFinding sizes script found
      → AreFindings sizes script (count + 1) (findings ++ found ∷ [])
  finds found line_is is = record {
    sound = All-push (λ f. IsFinding sizes script f × (f.line ≤ count + 1)) findings found later (is, omega arith);
    in_order = all_pairs_push (λ f g. f.line < g.line) findings found are.in_order
        (λ k d h. let one = are.sound k d h in let le = one.1 in omega arith);
    complete = λ n low high. elim (cases_lt count n) [
      | inl past ↦
          let is_last : found.line ≡ n = omega arith in
          inr (subst (Names (findings ++ found ∷ [])) is_last (names_last findings found))
      | inr within ↦ elim (are.complete n low within) [
        | inl good ↦ inl good
        | inr named ↦ inr (names_more findings found n named)
      ]
    ];
  }

-- the next line was linted
pub next_linted : (sizes : Config) (script : List ℕ) (count index : ℕ) (text : Bor (List ℕ)) (had_go is_within : Bool) (over : Option ℕ)
    (old now : List Finding) → IsLintedTo sizes script count had_go old → IsNext script count index text.now → IsOver script over
    → IsBefore is_within (index + 1) over → AddsFinding sizes (index + 1) had_go is_within text old now
    → AreFindings sizes script (index + 1) now
next_linted sizes script count index text had_go is_within over old now so_far next is_over before (inl same) =
    let at = next.index_is in
    let good = line_of sizes script count index text.now next had_go so_far.went_is over is_over is_within before same.1 in
    rw at (rw same.0 (passes sizes script count old so_far.are (rw at at good)))
next_linted sizes script count index text had_go is_within over old now so_far next is_over before (inr found) =
    let at = next.index_is in
    let one : Finding = record { line = index + 1; text = text; spot = found.0; near = found.1 } in
    let is = is_finding sizes script count index text.now next had_go so_far.went_is over is_over is_within before one refl refl found.3 in
    rw at (rw found.2 (finds sizes script count old so_far.are one (omega arith) is))

pub goes_further : (sizes : Config) (script : List ℕ) (count index : ℕ) (text : List ℕ) (had_go : Bool) (old now : List Finding)
    → IsLintedTo sizes script count had_go old → IsNext script count index text → AreFindings sizes script (index + 1) now
    → IsLintedTo sizes script (index + 1) (had_go || is_go text) now
goes_further sizes script count index text had_go old now so_far next are =
    let at = next.index_is in
    record { are = are; went_is = rw at (go_more script count index text had_go next so_far.went_is) }

-- ---- the parts of the loop

-- the place of what is found is in the text
pub found_inside : (sizes : Config) (had_go : Bool) (Within : Type 0) (text : List ℕ) (found : Option Spot)
    → MatchOption found (IsGoodHere sizes had_go Within text) (λ spot. IsSpot sizes had_go Within text spot)
    → IfSome found (λ spot. spot.place ≤ length text)
found_inside sizes had_go Within text None is = tt
found_inside sizes had_go Within text (Some spot) is = is.inside

-- what is found is what is added
pub adds_of : (sizes : Config) (number : ℕ) (had_go is_within : Bool) (text : Bor (List ℕ)) (found : Option Spot) (old now : List Finding)
    → MatchOption found (IsGoodHere sizes had_go (is_within ≡ true) text.now) (λ spot. IsSpot sizes had_go (is_within ≡ true) text.now spot)
    → AddsSpot number text found old now → AddsFinding sizes number had_go is_within text old now
adds_of sizes number had_go is_within text None old now is adds = inl (adds, is)
adds_of sizes number had_go is_within text (Some spot) old now is adds = inr (spot, adds.0, adds.1, is)

-- the line with the first byte too many was linted
pub ends_over : (sizes : Config) (script : List ℕ) (index : ℕ) (over : Option ℕ) (is_within : Bool) (findings : List Finding)
    → IsOver script over → IsBefore is_within (index + 1) over → is_within ≡ false → AreFindings sizes script (index + 1) findings
    → IsLinted sizes script findings
ends_over sizes script index None is_within findings is_over before isnt are = let yes = before.1 tt in cc
ends_over sizes script index (Some first) is_within findings is_over before isnt are = record {
  count = index + 1;
  all = λ n low high read.
      let le = read is_over.0 in
      let first_is = is_over.1 in
      elim (cases_lt (index + 1) first) [
        | inl near ↦ let yes = before.1 near in cc
        | inr far ↦ omega arith
      ];
  are = are;
}

-- all lines were linted
pub ends_whole : (sizes : Config) (script : List ℕ) (count : ℕ) (findings : List Finding) → count ≡ length (texts_of script)
    → AreFindings sizes script count findings → IsLinted sizes script findings
ends_whole sizes script count findings whole are = record { count = count; all = λ n low high read. omega arith; are = are }
