-- Serves the contract of `memcg`: the program's own settings, and its subcommands, one after the other.
use Rattle.std.proofs.Common.{◌∙◌, ap, codes}
use Rattle.std.proofs.lemmas.Result.{IfOk-weaker}
use Rattle.clap.specs.Simple.{App, with_subcommand}
use Rattle.load_options.specs.Words.{check_shape, command_shape, replay_shape, serve_shape, sized_shape}
use Rattle.load_options.proofs.command_line.memcg.Goals as goal

pub returns : goal.returns
returns c =
    let replay = c.in_ok-program-2.ensures replay_shape c.replay_command.ensures.shape
    ∙ ap (λ (app : App). with_subcommand app replay_shape) c.in_ok-program.ensures.app in
    let run = c.in_ok-program-3.ensures (command_shape (codes "run")) c.subcommand.ensures.shape
    ∙ ap (λ (app : App). with_subcommand app (command_shape (codes "run"))) replay in
    let check = c.in_ok-program-4.ensures check_shape c.check_command.ensures.shape
    ∙ ap (λ (app : App). with_subcommand app check_shape) run in
    let lint = c.in_ok-program-5.ensures (sized_shape (codes "lint")) c.sized.ensures.shape
    ∙ ap (λ (app : App). with_subcommand app (sized_shape (codes "lint"))) check in
    record {
      app = IfOk-weaker c.with_command-5.result _ _ (λ command serve. serve ∙ ap (λ (app : App). with_subcommand app serve_shape) lint)
          (c.with_command-5.ensures serve_shape c.serve_command.ensures.shape);
    }
