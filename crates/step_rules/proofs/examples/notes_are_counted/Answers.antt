use Rattle.step_rules.proofs.SmallRuns.{noted_is_legal, low_counts, high_counts, max_counts, oom_counts, oom_kill_counts}
use Rattle.step_rules.proofs.examples.notes_are_counted.Goals as goal

pub returns : goal.returns
returns c = record { legal = noted_is_legal; low = low_counts; high = high_counts; max = max_counts; oom = oom_counts; oom_kill = oom_kill_counts }
