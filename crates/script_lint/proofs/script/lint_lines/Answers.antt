use Rattle.std.proofs.Common.{◌≡◌, ◌∙◌, ◌+◌, Bool, None, rules, ap, arith, refl, subst}
use Rattle.script_lines.specs.Script.{texts_left}
use Rattle.script_lines.proofs.Progress.{all_read, few_lines, next_of}
use Rattle.script_lint.proofs.Progress.{IsLintedTo, adds_of, ends_over, ends_whole, found_inside, goes_further, next_linted}
use Rattle.script_lint.proofs.script.lint_lines.Goals as goal

pub overflow_add-number : goal.overflow_add-number
overflow_add-number c =
    let next = next_of c.args.input.now c.loop-rest.number c.first_line.result.0.now (texts_left c.first_line.result.1)
    (c.loop-rest.invariant.1 ∙ ap texts_left c.in-Some.is ∙ c.first_line.ensures) in
    let inside = next.0.inside in
    let few = few_lines c.args.input.now in
    record { fits = omega arith }

pub add_finding-requires : goal.add_finding-requires
add_finding-requires c =
    found_inside c.args.sizes.now c.loop-rest.had_go _ c.first_line.result.0.now c.in_ok-found.found c.in_ok-found.ensures

pub returns-then-not-is_within : goal.returns-then-not-is_within
returns-then-not-is_within c =
    let script = c.args.input.now in
    let sizes = c.args.sizes.now in
    let index = c.loop-rest.number in
    let next = next_of script index c.first_line.result.0.now (texts_left c.first_line.result.1)
    (c.loop-rest.invariant.1 ∙ ap texts_left c.in-Some.is ∙ c.first_line.ensures) in
    let adds = adds_of sizes (index + 1) c.loop-rest.had_go c.is_within-is_within.result c.first_line.result.0 c.in_ok-found.found
    c.loop-rest.findings.items c.add_finding.new.findings.items c.in_ok-found.ensures c.in_ok-add_finding.ensures in
    let are = next_linted sizes script index index c.first_line.result.0 c.loop-rest.had_go c.is_within-is_within.result c.first_line_past_limit-over.result
    c.loop-rest.findings.items c.add_finding.new.findings.items c.loop-rest.invariant.0 next.0 c.first_line_past_limit-over.ensures
    c.is_within-is_within.ensures adds in
    ends_over sizes script index c.first_line_past_limit-over.result c.is_within-is_within.result c.add_finding.new.findings.items
    c.first_line_past_limit-over.ensures c.is_within-is_within.ensures c.if-not-is_within.true are

pub loop-rest-preserved-then-had_go : goal.loop-rest-preserved-then-had_go
loop-rest-preserved-then-had_go c =
    let script = c.args.input.now in
    let sizes = c.args.sizes.now in
    let index = c.loop-rest.number in
    let next = next_of script index c.first_line.result.0.now (texts_left c.first_line.result.1)
    (c.loop-rest.invariant.1 ∙ ap texts_left c.in-Some.is ∙ c.first_line.ensures) in
    let adds = adds_of sizes (index + 1) c.loop-rest.had_go c.is_within-is_within.result c.first_line.result.0 c.in_ok-found.found
    c.loop-rest.findings.items c.add_finding.new.findings.items c.in_ok-found.ensures c.in_ok-add_finding.ensures in
    let are = next_linted sizes script index index c.first_line.result.0 c.loop-rest.had_go c.is_within-is_within.result c.first_line_past_limit-over.result
    c.loop-rest.findings.items c.add_finding.new.findings.items c.loop-rest.invariant.0 next.0 c.first_line_past_limit-over.ensures
    c.is_within-is_within.ensures adds in
    let further = goes_further sizes script index index c.first_line.result.0.now c.loop-rest.had_go c.loop-rest.findings.items
    c.add_finding.new.findings.items c.loop-rest.invariant.0 next.0 are in
    let inside = next.0.inside in (
      subst (λ (had_go : Bool). IsLintedTo sizes script (index + 1) had_go c.add_finding.new.findings.items) (rw c.if-had_go.true refl) further,
      next.1,
      omega arith,
    )

pub loop-rest-preserved : goal.loop-rest-preserved
loop-rest-preserved c =
    let script = c.args.input.now in
    let sizes = c.args.sizes.now in
    let index = c.loop-rest.number in
    let next = next_of script index c.first_line.result.0.now (texts_left c.first_line.result.1)
    (c.loop-rest.invariant.1 ∙ ap texts_left c.in-Some.is ∙ c.first_line.ensures) in
    let adds = adds_of sizes (index + 1) c.loop-rest.had_go c.is_within-is_within.result c.first_line.result.0 c.in_ok-found.found
    c.loop-rest.findings.items c.add_finding.new.findings.items c.in_ok-found.ensures c.in_ok-add_finding.ensures in
    let are = next_linted sizes script index index c.first_line.result.0 c.loop-rest.had_go c.is_within-is_within.result c.first_line_past_limit-over.result
    c.loop-rest.findings.items c.add_finding.new.findings.items c.loop-rest.invariant.0 next.0 c.first_line_past_limit-over.ensures
    c.is_within-is_within.ensures adds in
    let further = goes_further sizes script index index c.first_line.result.0.now c.loop-rest.had_go c.loop-rest.findings.items
    c.add_finding.new.findings.items c.loop-rest.invariant.0 next.0 are in
    let inside = next.0.inside in (
      subst (λ (had_go : Bool). IsLintedTo sizes script (index + 1) had_go c.add_finding.new.findings.items) (search rules) further,
      next.1,
      omega arith,
    )

pub returns : goal.returns
returns c =
    let none : c.loop-rest.rest ≡ None = search rules in
    ends_whole c.args.sizes.now c.args.input.now c.loop-rest.number c.loop-rest.findings.items
    (all_read c.args.input.now c.loop-rest.number c.loop-rest.invariant.2 (c.loop-rest.invariant.1 ∙ ap texts_left none))
    c.loop-rest.invariant.0.are
