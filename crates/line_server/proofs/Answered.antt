-- What a line was answered.
use Rattle.std.proofs.Common.{◌≡◌, ◌∙◌, ℕ, true, false, List, [], ◌∷◌, ◌++◌, Option, None, Some, Result, Ok, Err, Vec, IfOk, ap, codes, inl, inr, refl, subst, sym}
use Rattle.std.specs.Cmp.Lexicographic.{same_text}
use Rattle.zone_blocks.specs.declared.config.Config.{Config}
use Rattle.boot_words.specs.Tables.{KnownTable}
use Rattle.script_lines.specs.Script.{IsLineText, is_skipped}
use Rattle.script_lines.specs.declared.line.Line.{Line}
use Rattle.script_lines.specs.declared.line.Line.TheVariants.{Go, At}
use Rattle.script_lint.specs.{IsFoundInText, IsGoodText, cause_text}
use Rattle.script_lint.specs.declared.finding.Finding.{Finding}
use Rattle.script_replay.specs.Lines.{SystemState}
use Rattle.line_server.specs.declared.form.SessionForm.{SessionForm}
use Rattle.line_server.specs.{SessionTerms, bad_line_answer, session_terms, RefusesText, AnswersServed, GivesAnswer, HasAnswer, ServesInForm}
use Rattle.line_server.specs.{WritesTurn}

-- a good text that isn't skipped has a line
pub says_line : (sizes : Config) (number : ℕ) (text : List ℕ) → IsGoodText sizes false text → is_skipped text ≡ false
    → (line : Line) × IsLineText sizes number line text
says_line sizes number text good asks = elim (good.says asks) [
  | inl goes ↦ (Go, same_text text (codes "go") (sym goes))
  | inr is ↦ (At number is.0 is.1, (refl, is.2))
]

-- why the line is bad was given
pub refused : {Z E : Type 0} (r : Result (Vec ℕ Z) E) (form : SessionForm) (sizes : Config) (text why : List ℕ) (found : Finding) → IsFoundInText sizes text found
    → why ≡ cause_text sizes found found.spot.cause → IfOk r (λ line. line.items ≡ bad_line_answer form why) → IfOk r (λ answer. RefusesText form sizes text answer.items)
refused (Ok x) form sizes text why found is said line = record { found = found; is_found = is; answer_is = line ∙ ap (bad_line_answer form) said }
refused (Err e) form sizes text why found is said line = tt

-- a line that was served in this form was answered so
pub answered_in : {Z E : Type 0} (r : Result (Vec ℕ Z) E) (t : KnownTable) (form is_form : SessionForm) (text : List ℕ) (line : Line)
    (before after : SystemState) (answer : List ℕ) → form ≡ is_form → ServesInForm is_form t text line before after answer
    → IfOk r (λ found. found.items ≡ answer) → GivesAnswer r (AnswersServed (session_terms t form) text line before after)
answered_in r t form is_form text line before after answer is serves found = record {
  answer = answer;
  so = subst (λ (f : SessionForm). ServesInForm f t text line before after answer) (sym is) serves;
  given = found;
}

module _ (on : SessionTerms) (sizes : Config) (number : ℕ) (text : List ℕ) where
  -- a line is skipped
  pub skipped : (state : SystemState) (answer : List ℕ) → is_skipped text ≡ true → answer ≡ [] → HasAnswer on sizes number (Some text) state state answer
  skipped state answer is none = record { served = None; answered = (refl, inl (is, none)) }

  -- a line is bad
  pub bad : {Z E : Type 0} (r : Result (Vec ℕ Z) E) (state : SystemState) → is_skipped text ≡ false
      → IfOk r (λ answer. RefusesText on.form sizes text answer.items)
      → IfOk r (λ answer. HasAnswer on sizes number (Some text) state state answer.items)
  bad (Ok x) state asks is = record { served = None; answered = (refl, inr (asks, is)) }
  bad (Err e) state asks is = tt

  -- a line is served
  pub served : {Z E : Type 0} (r : Result (Vec ℕ Z) E) (line : Line) (before after : SystemState) → IsLineText sizes number line text
      → GivesAnswer r (AnswersServed on text line before after)
      → IfOk r (λ answer. HasAnswer on sizes number (Some text) before after answer.items)
  served (Ok x) line before after is gives = record {
    served = Some line;
    answered = (is, subst (AnswersServed on text line before after) (sym gives.given) gives.so);
  }
  served (Err e) line before after is gives = tt

-- the answer of a turn was written, with an empty line
pub turn_written : (on : SessionTerms) (sizes : Config) (number : ℕ) (text : Option (List ℕ)) (before after : SystemState) (plain answer : List ℕ)
    → HasAnswer on sizes number text before after plain → answer ≡ plain ++ 10 ∷ [] → WritesTurn on sizes number text before after answer
turn_written on sizes number text before after plain answer has is = record {
  turn = record { text = text; served = has.served; answer = plain };
  text_is = refl;
  answered = has.answered;
  written_is = is;
}

-- a line is too long
pub too_long : {Z E : Type 0} (on : SessionTerms) (sizes : Config) (number : ℕ) (r : Result (Vec ℕ Z) E) (state : SystemState)
    → IfOk r (λ line. line.items ≡ bad_line_answer on.form (codes "line too long"))
    → IfOk r (λ answer. HasAnswer on sizes number None state state answer.items)
too_long on sizes number (Ok x) state is = record { served = None; answered = (refl, refl, is) }
too_long on sizes number (Err e) state is = tt
