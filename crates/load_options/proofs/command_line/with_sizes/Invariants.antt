use Rattle.std.proofs.Common.{◌≡◌, false, map, drop}
use Rattle.clap.specs.Words.{app_of}
use Rattle.clap.specs.declared.builder.command.Command.TheViews.{out-Command as fields_of}
use Rattle.load_options.specs.Words.{size_rule, with_options}
use Rattle.load_options.proofs.command_line.with_sizes.Given as goal

abbrev pub invariant-loop-name : goal.invariant-loop-name
invariant-loop-name l = record {
  shape : with_options (app_of l.command).top (map (λ size. size_rule size.0.now size.2 size.3.now) (drop l.name-index l.sizes)) ≡ with_options (app_of l.initial.command).top (map (λ size. size_rule size.0.now size.2 size.3.now) l.sizes);
  local : (fields_of l.command).has_globals ≡ false;
}
