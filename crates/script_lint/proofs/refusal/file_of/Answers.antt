use Rattle.std.proofs.Common.{rules, ◌≡◌, codes, false}
use Rattle.std.specs.Str.{bytes_eq}
use Rattle.control_files.specs.Files.{name_of_file}
use Rattle.script_lint.proofs.Judging.{none_lacks}
use Rattle.script_lint.proofs.refusal.file_of.Goals as goal

pub returns-in-None-clause-none : goal.returns-in-None-clause-none
returns-in-None-clause-none c = c.no_file.ensures c.args.path.now

pub returns-else-is_root-clause-file : goal.returns-else-is_root-clause-file
returns-else-is_root-clause-file c =
    let named : c.args.name.now ≡ name_of_file c.in-Some.file = (c.file_named.ensures c.in-Some.file).0 c.in-Some.is in
    let other : bytes_eq c.args.path.now (codes "/") ≡ false = search rules in
    record {
      named = named;
      only = λ f e. let is = (c.file_named.ensures f).1 e in let found = c.in-Some.is in cc;
      there = none_lacks c.args.path.now c.args.name.now c.in-Some.file named other;
    }
