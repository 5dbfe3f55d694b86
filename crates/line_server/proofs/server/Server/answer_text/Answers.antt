-- Serves the contract of `answer_text`: the line is skipped, served or bad.
use Rattle.std.proofs.Common.{◌≡◌, ◌≤◌, ◌∙◌, ◌++◌, IfOk, List, Some, drop, length, rules, subst, sym, take}
use Rattle.std.proofs.lemmas.List.{take-append-le, take_all}
use Rattle.mem_system.specs.Cpus.{CpuInRun}
use Rattle.script_replay.specs.Lines.{SystemState, system_state}
use Rattle.line_server.specs.{KnownServer, terms_of, AnswersServed, GivesAnswer, HasAnswer}
use Rattle.line_server.proofs.Answered.{bad, served, skipped}
use Rattle.line_server.proofs.server.Server.answer_text.Goals as goal

pub returns-then-is_skipped-clause-answered : goal.returns-then-is_skipped-clause-answered
returns-then-is_skipped-clause-answered g c =
    skipped (terms_of g.N.BootName.table c.args.self.now) c.args.self.now.sizes c.args.number c.args.text.now c.args.self.now.state
    _ (sym c.is_skipped.ensures ∙ c.if-is_skipped.true) c.new.ensures.items

pub refuse_text-requires-clause-bad : goal.refuse_text-requires-clause-bad
refuse_text-requires-clause-bad g c = (c.args.number, c.in-None.ensures)

pub returns-in-None-clause-answered : goal.returns-in-None-clause-answered
returns-in-None-clause-answered g c =
    let frames = g.N.BootName.table in
    let inside = c.self.inside in
    let here : KnownServer = record { sizes = inside.sizes; form = inside.form; state = system_state inside.locked inside.cpus.items } in
    subst (λ (s : KnownServer). IfOk c.refuse_text.result (λ answer. HasAnswer (terms_of frames s) s.sizes c.args.number (Some c.args.text.now) s.state s.state answer.items))
    c.self.view_is
    (bad (terms_of frames here) inside.sizes c.args.number c.args.text.now c.refuse_text.result here.state
    (sym c.is_skipped.ensures ∙ c.if-is_skipped.false) c.refuse_text.ensures)

pub returns-in-Some-clause-answered : goal.returns-in-Some-clause-answered
returns-in-Some-clause-answered g c =
    let frames = g.N.BootName.table in
    let inside = c.self.inside in
    let here : KnownServer = record { sizes = inside.sizes; form = inside.form; state = system_state inside.locked inside.cpus.items } in
    let cpus = c.answer_line.new.cpus in
    let short : inside.cpus.len ≤ length cpus = search rules in
    let long : length cpus ≤ inside.cpus.len = search rules in
    let same : take inside.cpus.len (cpus ++ drop (length cpus) inside.cpus.items) ≡ cpus
    = take-append-le inside.cpus.len cpus (drop (length cpus) inside.cpus.items) short ∙ take_all inside.cpus.len cpus long in
    let after : List (CpuInRun) → SystemState = λ l. system_state c.answer_line.new.locked l in
    let gives = subst (λ (l : List (CpuInRun)). GivesAnswer c.answer_line.result (AnswersServed (terms_of frames here) c.args.text.now c.in-Some.line
    (system_state inside.locked l) (after cpus))) c.deref_mut.ensures.value c.answer_line.ensures.served in
    subst (λ (s : KnownServer). IfOk c.answer_line.result (λ answer. HasAnswer (terms_of frames s) s.sizes c.args.number (Some c.args.text.now) s.state
    (after (take inside.cpus.len (cpus ++ drop (length cpus) inside.cpus.items))) answer.items))
    c.self.view_is
    (subst (λ (l : List (CpuInRun)). IfOk c.answer_line.result (λ answer. HasAnswer (terms_of frames here) inside.sizes c.args.number (Some c.args.text.now) here.state
    (after l) answer.items))
    (sym same)
    (served (terms_of frames here) inside.sizes c.args.number c.args.text.now c.answer_line.result c.in-Some.line here.state (after cpus)
    c.in-Some.ensures gives))
