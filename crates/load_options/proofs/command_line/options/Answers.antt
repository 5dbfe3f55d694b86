-- Serves the contract of `options`: the words ask for the version, or for what a parse finds.
use Rattle.std.proofs.Common.{◌≡◌, IfOk, map, rules, subst, sym}
use Rattle.clap.specs.Words.{app_of}
use Rattle.load_options.specs.Words.{GivesOptions, program}
use Rattle.load_options.proofs.Asking.{asked_parsed, asked_version, kept}
use Rattle.load_options.proofs.command_line.options.Goals as goal

pub returns-then-is_version-clause-asked : goal.returns-then-is_version-clause-asked
returns-then-is_version-clause-asked g c = asked_version (map g.S.AsStr.text c.args.words.now) (search rules)

pub parse-asked-requires : goal.parse-asked-requires
parse-asked-requires g c =
    let built : IfOk c.map_err.result (λ command. app_of command ≡ program) =
    kept c.memcg.result c.map_err.result _ _ c.map_err.ensures.cases c.memcg.ensures.app in
    rw c.in_ok-command.was at built

pub returns-clause-asked : goal.returns-clause-asked
returns-clause-asked g c =
    subst (λ asked. GivesOptions asked c.parse-asked.result) (sym (asked_parsed (map g.S.AsStr.text c.args.words.now) (search rules)))
    c.parse-asked.ensures.asked
