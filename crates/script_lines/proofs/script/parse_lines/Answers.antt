use Rattle.std.proofs.Common.{◌≡◌, ◌∷◌, ◌++◌, ◌+◌, [], codes, take, refl, rules, ◌∙◌, sym, ap, true, false, arith, None}
use Rattle.std.proofs.lemmas.List.{length-take-le}
use Rattle.script_lines.specs.Script.{is_go, is_skipped, texts_left}
use Rattle.script_lines.specs.declared.line.Line.TheVariants.{At, Go}
use Rattle.script_lines.proofs.Fronts.{first_front}
use Rattle.script_lines.proofs.Progress.{all_read, few_lines, is_first_bad, is_good, is_whole, next_at, next_of, not_far, not_long, not_once, not_said, over_of, passes_over, takes_line, went_now, went_on}
use Rattle.script_lines.proofs.Readings.{not_asked, request_asks, request_no_go, skipped_no_go}
use Rattle.script_lines.proofs.Texts.{line_first}
use Rattle.script_lines.proofs.script.parse_lines.Goals as goal
use Rattle.script_lines.proofs.script.parse_lines.Goals.{then-end-gt-MAX_LINE-via-then-end-gt-MAX_LINE}
use Rattle.script_lines.proofs.script.parse_lines.Goals.{then-end-gt-MAX_LINE-via-else-end-gt-MAX_LINE+then-number-limit}

pub overflow_add-number : goal.overflow_add-number
overflow_add-number c =
    let next = next_at c.args.input.now c.loop-rest.number _ _ c.in-Some.left c.loop-rest.invariant.1 c.in-Some.is c.line_end-end.ensures in
    let inside = next.inside in
    let few = few_lines c.args.input.now in
    record { fits = omega arith }

pub returns-then-end-gt-MAX_LINE-clause-bad_line : goal.returns-then-end-gt-MAX_LINE-clause-bad_line
returns-then-end-gt-MAX_LINE-clause-bad_line c =
    let next = next_at c.args.input.now c.loop-rest.number _ _ c.in-Some.left c.loop-rest.invariant.1 c.in-Some.is c.line_end-end.ensures in
    is_first_bad _ _ _ _ _ _ _ c.loop-rest.invariant.0 next (elim c.then-end-gt-MAX_LINE.branch [
      | then-end-gt-MAX_LINE-via-then-end-gt-MAX_LINE w ↦
          let taken = length-take-le c.line_end-end.result c.in-Some.left.now c.line_end-end.ensures.inside in
          let long = w.if-end-gt-MAX_LINE.true in
          not_long _ _ _ _ _ next (omega arith)
      | then-end-gt-MAX_LINE-via-else-end-gt-MAX_LINE+then-number-limit w ↦
          let few = few_lines c.args.input.now in
          let inside = next.inside in
          let over = over_of c.args.input.now c.first_number_past_limit-limit.result c.first_number_past_limit-limit.ensures in
          let past = w.if-number-limit.true in
          not_far c.args.sizes.now _ _ over.0 over.1 (over.3 (c.loop-rest.number + 1) (omega arith) (omega arith))
    ])

pub parse_request-requires-clause-front : goal.parse_request-requires-clause-front
parse_request-requires-clause-front c =
    let first = line_first c.in-Some.left.now c.line_end-end.result c.line_end-end.ensures in
    first_front c.in-Some.left.now _ first.0 first.1

pub loop-rest-preserved-in-Some-parse_request : goal.loop-rest-preserved-in-Some-parse_request
loop-rest-preserved-in-Some-parse_request c =
    let next = next_of c.args.input.now c.loop-rest.number _ (texts_left c.after_line-rest.result)
    (c.loop-rest.invariant.1 ∙ ap texts_left c.in-Some.is ∙ c.after_line-rest.ensures) in
    let taken = length-take-le c.line_end-end.result c.in-Some.left.now c.line_end-end.ensures.inside in
    let text = take c.line_end-end.result c.in-Some.left.now in
    let is = c.in-Some-parse_request.ensures in
    let goes = request_no_go _ _ _ text is in
    let line = At (c.loop-rest.number + 1) c.in-Some-parse_request.cpu c.in-Some-parse_request.command in
    let over = over_of c.args.input.now c.first_number_past_limit-limit.result c.first_number_past_limit-limit.ensures in
    let good = is_good c.args.sizes.now _ _ _ _ over.0 next.0 (omega arith) over.1
    (over.2 (c.loop-rest.number + 1) (omega arith)) (λ asks. (line, (refl, is))) (λ went. let bad : false ≡ true = sym goes ∙ went in cc) in
    let pushed : c.push_line.new.lines.items ≡ c.loop-rest.lines.items ++ line ∷ [] = search rules in
    let inside = next.0.inside in (
      rw pushed (takes_line _ _ _ c.loop-rest.had_go c.loop-rest.had_go _ _ text line c.loop-rest.invariant.0 next.0 good
          (request_asks _ _ _ text is) (refl, is) (went_on c.loop-rest.had_go (is_go text) goes)),
      next.1,
      omega arith,
    )

pub loop-rest-preserved-then-is_skipped : goal.loop-rest-preserved-then-is_skipped
loop-rest-preserved-then-is_skipped c =
    let next = next_of c.args.input.now c.loop-rest.number _ (texts_left c.after_line-rest-then-is_skipped.result)
    (c.loop-rest.invariant.1 ∙ ap texts_left c.in-Some.is ∙ c.after_line-rest-then-is_skipped.ensures) in
    let taken = length-take-le c.line_end-end.result c.in-Some.left.now c.line_end-end.ensures.inside in
    let text = take c.line_end-end.result c.in-Some.left.now in
    let is : is_skipped text ≡ true = sym c.is_skipped.ensures ∙ c.if-is_skipped.true in
    let goes = skipped_no_go text is in
    let over = over_of c.args.input.now c.first_number_past_limit-limit.result c.first_number_past_limit-limit.ensures in
    let good = is_good c.args.sizes.now _ _ _ _ over.0 next.0 (omega arith) over.1
    (over.2 (c.loop-rest.number + 1) (omega arith)) (λ asks. let bad : false ≡ true = sym asks ∙ is in cc) (λ went. let bad : false ≡ true = sym goes ∙ went in cc) in
    let inside = next.0.inside in
    (passes_over _ _ _ c.loop-rest.had_go _ _ _ _ c.loop-rest.invariant.0 next.0 good is (went_on c.loop-rest.had_go (is_go text) goes), next.1, omega arith)

pub returns-then-not-is_go-clause-bad_line : goal.returns-then-not-is_go-clause-bad_line
returns-then-not-is_go-clause-bad_line c =
    let next = next_at c.args.input.now c.loop-rest.number _ _ c.in-Some.left c.loop-rest.invariant.1 c.in-Some.is c.line_end-end.ensures in
    let text = take c.line_end-end.result c.in-Some.left.now in
    let goes : is_go text ≡ false = sym c.is_go.ensures ∙ c.if-not-is_go.true in
    is_first_bad _ _ _ _ _ _ _ c.loop-rest.invariant.0 next (not_said _ _ _ _ _ next (sym c.is_skipped.ensures
    ∙ c.if-is_skipped.false) (not_asked c.args.sizes.now _ text goes c.in_default-parse_request.ensures))

pub returns-then-had_go-clause-bad_line : goal.returns-then-had_go-clause-bad_line
returns-then-had_go-clause-bad_line c =
    let next = next_at c.args.input.now c.loop-rest.number _ _ c.in-Some.left c.loop-rest.invariant.1 c.in-Some.is c.line_end-end.ensures in
    is_first_bad _ _ _ _ _ _ _ c.loop-rest.invariant.0 next
    (not_once _ _ _ _ _ next (sym c.is_go.ensures ∙ c.if-not-is_go.false) (sym c.loop-rest.invariant.0.went_is ∙ c.if-had_go.true))

pub loop-rest-preserved : goal.loop-rest-preserved
loop-rest-preserved c =
    let next = next_of c.args.input.now c.loop-rest.number _ (texts_left c.after_line-rest-in-Some.result)
    (c.loop-rest.invariant.1 ∙ ap texts_left c.in-Some.is ∙ c.after_line-rest-in-Some.ensures) in
    let taken = length-take-le c.line_end-end.result c.in-Some.left.now c.line_end-end.ensures.inside in
    let text = take c.line_end-end.result c.in-Some.left.now in
    let goes : is_go text ≡ true = sym c.is_go.ensures ∙ c.if-not-is_go.false in
    let is : text ≡ codes "go" = search rules in
    let over = over_of c.args.input.now c.first_number_past_limit-limit.result c.first_number_past_limit-limit.ensures in
    let good = is_good c.args.sizes.now _ _ _ _ over.0 next.0 (omega arith) over.1
    (over.2 (c.loop-rest.number + 1) (omega arith)) (λ asks. (Go, is)) (λ went. sym c.loop-rest.invariant.0.went_is ∙ c.if-had_go.false) in
    let pushed : c.push.new.self.items ≡ c.loop-rest.lines.items ++ Go ∷ [] = search rules in
    let inside = next.0.inside in (
      rw pushed (takes_line _ _ _ c.loop-rest.had_go true _ _ text Go c.loop-rest.invariant.0 next.0 good
          (sym c.is_skipped.ensures ∙ c.if-is_skipped.false) is (went_now c.loop-rest.had_go (is_go text) goes)),
      next.1,
      omega arith,
    )

pub returns-clause-ok : goal.returns-clause-ok
returns-clause-ok c =
    let none : c.loop-rest.rest ≡ None = search rules in
    is_whole _ _ _ _ _ c.loop-rest.invariant.0
    (all_read c.args.input.now c.loop-rest.number c.loop-rest.invariant.2 (c.loop-rest.invariant.1 ∙ ap texts_left none))
