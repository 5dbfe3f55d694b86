use Rattle.std.proofs.Common.{rules}
use Rattle.load_run.proofs.Putting.{fewer_left, lets_go, put_more, put_start}
use Rattle.load_run.proofs.boot_end.put_pins.Goals as goal

pub loop-frame-init : goal.loop-frame-init
loop-frame-init g c = (put_start _, search rules)

pub loop-frame-preserved : goal.loop-frame-preserved
loop-frame-preserved g c = (put_more _ _ _ _ c.loop-frame.invariant.0 c.put_pin.ensures.puts, search rules)

pub loop-frame-smaller : goal.loop-frame-smaller
loop-frame-smaller g c = fewer_left _ _ _ c.put_pin.ensures.puts

pub returns-clause-puts : goal.returns-clause-puts
returns-clause-puts g c = lets_go _ _ c.loop-frame.invariant.0 (search rules)
