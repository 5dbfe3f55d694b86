-- The steps that the watch takes of calls without the lock. Serves `watch_paid`, `watch_unlocked`, `watch_lock`.
use Rattle.std.proofs.Common.{◌≡◌, false, refl}
use Rattle.step_rules.specs.After.{Run}
use Rattle.step_watch.proofs.Watching.{watches_off}
use Rattle.mem_system.specs.Locked.{KnownLocked}
use Rattle.script_replay.specs.Answers.{OnlyWatched}

-- a watch that is off takes no step
pub unwatched : (steps : Run) (l : KnownLocked) → l.machine.run.watch.is_on ≡ false → OnlyWatched steps l l
unwatched steps l off = record {
  locked = refl;
  watched = watches_off l.machine.run.watch steps l.machine.run.watch off;
}
