-- Serves the contract of `options_found`: words that ask for no options may be answered any fault.
use Rattle.std.proofs.Common.{sym}
use Rattle.load_options.proofs.Asking.{answers_fault}
use Rattle.load_options.proofs.command_line.options_found.Goals as goal

pub returns-in-Ok-clause-asked : goal.returns-in-Ok-clause-asked
returns-in-Ok-clause-asked c = answers_fault _ c.fault_of.result (sym c.in-None.ensures.asked)
