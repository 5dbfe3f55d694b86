-- Serves the contract of `parse`: clap found no fault in the words and these values, or a fault.
use Rattle.std.proofs.Common.{◌≡◌, ◌∙◌, ap, sym, subst, inl, inr, List, [], ℕ, map, option_and_then}
use Rattle.clap.specs.Words.{App, Row, fault_of, is_simple, is_simple_and_free, subcommand_of, subcommand_rows_of}
use Rattle.clap.specs.Kinds.{HasKind}
use Rattle.load_options.specs.Words.{GivesOptions, options_under, program}
use Rattle.load_options.proofs.Asking.{answers_fault, answers_memory, asked_found, asked_nothing}
use Rattle.load_options.proofs.command_line.parse.Goals as goal

pub returns-in-Err-clause-asked : goal.returns-in-Err-clause-asked
returns-in-Err-clause-asked g c =
    let texts : List (List ℕ) = map g.S.AsStr.text c.args.words.now in
    let kind : HasKind (fault_of program texts) c.in-Err.error =
    subst (λ (app : App). HasKind (fault_of app texts) c.in-Err.error) c.requires (c.in-Err.ensures.kinds (ap is_simple_and_free c.requires)) in
    elim kind [
      | inl memory ↦ answers_memory _ _ (c.words_fault.ensures memory)
      | inr among ↦ answers_fault _ _ (asked_nothing texts _ among)
    ]

pub returns-in-Ok-clause-asked : goal.returns-in-Ok-clause-asked
returns-in-Ok-clause-asked g c =
    let texts : List (List ℕ) = map g.S.AsStr.text c.args.words.now in
    let none : fault_of program texts ≡ [] =
    subst (λ (app : App). fault_of app texts ≡ []) c.requires (c.in-Ok.ensures.kinds (ap is_simple_and_free c.requires)) in
    let found : subcommand_rows_of c.in-Ok.found ≡ subcommand_of program texts =
    (c.in-Ok.ensures.ok.2 (ap is_simple c.requires)).1 ∙ ap (λ (app : App). subcommand_of app texts) c.requires in
    subst (λ asked. GivesOptions asked c.options_found-asked.result)
    (ap (option_and_then (λ (p : List ℕ × List Row). options_under p.0 p.1)) found ∙ sym (asked_found texts none))
    c.options_found-asked.ensures.asked
