use Rattle.std.proofs.Common.{◌≡◌, ◌∙◌, length, ap, sym}
use Rattle.mem_system.proofs.Closing.{written_back}
use Rattle.thread_runs.proofs.Sizes.{lines_there}
use Rattle.thread_runs.proofs.systems.live_by_threads.Goals as goal

pub run_and_replay-told-requires-clause-lines : goal.run_and_replay-told-requires-clause-lines
run_and_replay-told-requires-clause-lines g c κs within =
    lines_there c.args.boot.sizes _ g.N.BootName.table _ c.args.lines.now c.requires.sized c.requires.names
    (ap length c.deref_mut.ensures.value ∙ c.in_ok-system.ensures.count) c.requires.lines

pub run_and_replay-told-requires-clause-last : goal.run_and_replay-told-requires-clause-last
run_and_replay-told-requires-clause-last g c κs within =
    lines_there c.args.boot.sizes _ g.N.BootName.table _ c.args.last.now c.requires.sized c.requires.names
    (ap length c.deref_mut.ensures.value ∙ c.in_ok-system.ensures.count) c.requires.last

pub end_boot-ended-requires : goal.end_boot-ended-requires
end_boot-ended-requires g c =
    let first = c.deref_mut.ensures.value in
    let long : length c.run_and_replay-told.new.cpus ≡ length c.in_ok-system.cpus.items = c.run_and_replay-told.auto.cpus ∙ ap length first in
    let size = sym c.deref_mut.ensures.len ∙ ap length first in
    let same = written_back c.in_ok-system.cpus.len c.run_and_replay-told.new.cpus c.in_ok-system.cpus.items long size in
    record { count = ap length same ∙ long ∙ c.in_ok-system.ensures.count }
