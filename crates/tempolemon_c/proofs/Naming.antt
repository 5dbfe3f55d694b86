-- What a typed call asks. Serves `Live::serve_command`.
use Rattle.script_lines.specs.declared.line.Command.{Command}
use Rattle.script_lines.specs.declared.line.Command.TheVariants.{Fast}
use Rattle.script_replay.specs.Commands.{HasValueAnswer}
use Rattle.tempolemon_c.specs.HandleCalls.{IsTypedCall}
use Rattle.tempolemon_c.specs.declared.calls.Call.TheVariants.{Script}

-- its answer is a value
pub has_value : (command : Command) → IsTypedCall (Script command) → HasValueAnswer command
has_value (Fast group) typed = absurd typed
has_value command typed = typed
