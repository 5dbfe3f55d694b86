-- A check says `Legal` exactly of the legal logs.
use Rattle.std.proofs.Common.{◌≡◌, ℕ, Bool, ◌-◌, ◌↔◌, List, [], ◌∷◌, ◌++◌, IfSome, IsTrue, None, Option, Some, filter, flat_map, length, map, refl, sym, ap, ap₂, subst, ◌∙◌}
use Rattle.std.proofs.lemmas.Bool.{false≢true}
use Rattle.std.proofs.lemmas.List.{take_at}
use Rattle.step_rules.specs.declared.step.Step.{Step}
use Rattle.step_rules.specs.declared.step.Answer.{Answer}
use Rattle.step_rules.specs.{Zone, IsLegalRun}
use Rattle.step_rules.proofs.Runs.{legal_from}
use Rattle.mem_core.specs.declared.verdict.Verdict.TheVariants as verdict
use Rattle.mem_core.proofs.Checking.{says_of_log}
use Rattle.log_lines.specs.declared.line.LogLine.{LogLine}
use Rattle.log_lines.specs.Log.{IsLog, WholeLog, says_something, line_of_zone}
use Rattle.log_lines.proofs.BadLines.{bad_line_is_no_log, continues, filter_append, says_both}
use Rattle.log_lines.proofs.Logs.{ended, line_of_entry, same_entry, same_log, same_zone}
use Rattle.log_check.specs.declared.verdict.LogVerdict.{LogVerdict}
use Rattle.log_check.specs.declared.verdict.LogVerdict.TheVariants.{Legal, NotLegal, LeftOut, BadLine}
use Rattle.log_check.specs.declared.verdict.IllegalStep.{IllegalStep}
use Rattle.log_check.specs.Verdicts.{BreaksRules, IsLegalLog, IsLogVerdict, NamesLeftOut, says_legal}

steps_begin : (run all : List (Step × Answer)) (back : List LogLine) → map line_of_entry run ++ back ≡ map line_of_entry all
    → (more : List (Step × Answer)) × (all ≡ run ++ more)
steps_begin [] all back e = (all, refl)
steps_begin (x ∷ run) [] back e = cc
steps_begin (x ∷ run) (y ∷ all) back e =
    let heads : line_of_entry x ≡ line_of_entry y = cc in
    let tails : map line_of_entry run ++ back ≡ map line_of_entry all = cc in
    let others = steps_begin run all back tails in
    (others.0, ap₂ (λ (z : Step × Answer) (zs : List (Step × Answer)). z ∷ zs) (sym (same_entry x y heads)) others.1)

-- the run of a whole log goes on that of a front
record GoesOn (log front : WholeLog) : Type 0 where
  more : List (Step × Answer)
  run : log.run ≡ front.run ++ more
  zone : log.zone ≡ front.zone

goes_on_from : (log front : WholeLog) (back : List LogLine)
    → line_of_zone front.zone ∷ (map line_of_entry front.run ++ back) ≡ line_of_zone log.zone ∷ map line_of_entry log.run
    → GoesOn log front
goes_on_from log front back e =
    let heads : line_of_zone log.zone ≡ line_of_zone front.zone = cc in
    let tails : map line_of_entry front.run ++ back ≡ map line_of_entry log.run = cc in
    let steps = steps_begin front.run log.run back tails in
    record { more = steps.0; run = steps.1; zone = same_zone log.zone front.zone heads }

goes_on : (text front rest : List ℕ) (log start : WholeLog) → text ≡ front ++ rest → IsLog text log → IsLog front start → GoesOn log start
goes_on text front rest log start parts is begin =
    let all : flat_map ended is.texts ≡ flat_map ended begin.texts ++ rest
    = sym is.cut.parts ∙ parts ∙ ap (λ (t : List ℕ). t ++ rest) begin.cut.parts in
    let after = continues is.texts begin.texts rest is.cut.no_feeds begin.cut.no_feeds all in
    let lines = says_both begin.texts after.back begin.lines is.lines begin.says (rw after.lines at is.says) in
    goes_on_from log start (filter says_something lines.lines)
    (sym (ap (λ (ls : List LogLine). ls ++ filter says_something lines.lines) begin.in_order) ∙ sym (filter_append begin.lines lines.lines)
    ∙ ap (filter says_something) (sym lines.parts) ∙ is.in_order)

pub legal_front : (zone : Zone) (run more : List (Step × Answer)) → IsLegalRun zone (run ++ more) → IsLegalRun zone run
legal_front zone run more legal = subst (IsLegalRun zone) (take_at run more (length run) refl) (legal_from zone (run ++ more) (length run) legal)

no_verdict : (k : ℕ) (expected : Answer) → verdict.IllegalAt k expected ≡ verdict.Legal → ⊥
no_verdict k expected e = cc

breaks_rules : (text : List ℕ) (illegal : IllegalStep) → BreaksRules text illegal → ¬ IsLegalLog text
breaks_rules text illegal breaks legal =
    let on = goes_on text breaks.front breaks.rest legal.log breaks.log breaks.parts legal.is breaks.is in
    let zone = breaks.log.zone in
    let whole : IsLegalRun zone legal.log.run = subst (λ z. IsLegalRun z legal.log.run) on.zone legal.legal in
    let run : IsLegalRun zone breaks.log.run = legal_front zone breaks.log.run on.more (subst (IsLegalRun zone) on.run whole) in
    no_verdict (illegal.step - 1) illegal.expected ((says_of_log zone breaks.log.run (verdict.IllegalAt (illegal.step - 1) illegal.expected) breaks.first).1 run)

leaves_out : (text : List ℕ) (steps count : ℕ) (first : List IllegalStep) → NamesLeftOut text steps count first → ¬ IsLegalLog text
leaves_out text steps count first names legal =
    names.not_legal (subst (λ (log : WholeLog). IsLegalRun log.zone log.run) (same_log text legal.log names.log legal.is names.is) legal.legal)

pub exact : (all : Bool) (text : List ℕ) (end : LogVerdict) → IsLogVerdict all text end → IsTrue (says_legal end) ↔ IsLegalLog text
exact all text (Legal steps free left) is = (λ yes. record { log = is.log; is = is.is; legal = is.legal }, λ legal. refl)
exact all text (NotLegal illegal) is = (λ no. absurd (false≢true no), λ legal. absurd (breaks_rules text illegal is.1 legal))
exact all text (LeftOut steps count first) is = (λ no. absurd (false≢true no), λ legal. absurd (leaves_out text steps count first.items is.1 legal))
exact all text (BadLine line fault) is = (λ no. absurd (false≢true no), λ legal. absurd (bad_line_is_no_log text line legal.log is.first legal.is))

pub exact_if : (all : Bool) (input : Option (List ℕ)) (end : LogVerdict) → IfSome input (λ text. IsLogVerdict all text end)
    → IfSome input (λ text. IsTrue (says_legal end) ↔ IsLegalLog text)
exact_if all None end is = tt
exact_if all (Some text) end is = exact all text end is
