-- Serves the contract of `serve_into`: what isn't there is refused, and what was served gives its result.
use Rattle.std.proofs.Common.{rules}
use Rattle.tempolemon_c.proofs.Refusing.{no_cpu_called, no_frame_called, none_called}
use Rattle.tempolemon_c.proofs.Showing.{value_called}
use Rattle.tempolemon_c.proofs.calling.serve_into.Goals as goal

pub returns-then-not-is_live : goal.returns-then-not-is_live
returns-then-not-is_live c = none_called _ _ _ _ (search rules)

pub returns-in-NoCpu : goal.returns-in-NoCpu
returns-in-NoCpu c = no_cpu_called _ _ _ _ _ c.in-NoCpu.ensures

pub returns-in-NoFrame : goal.returns-in-NoFrame
returns-in-NoFrame c = no_frame_called _ _ _ _ _ c.in-NoFrame.ensures

pub returns-in-Served : goal.returns-in-Served
returns-in-Served c = value_called _ _ _ _ _ c.in-Served.ensures _ _ _ _ _ c.write_value.ensures.stays c.write_value.ensures.out
