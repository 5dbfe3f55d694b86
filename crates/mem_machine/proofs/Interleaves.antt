-- The steps of a call among the steps of other CPUs. Serves `calls_interleave`.
use Rattle.std.proofs.Common.{ℕ, ◌++◌, sym, subst}
use Rattle.step_rules.specs.{Run, ShowsLocal, IsLocalRun, LocalRunsInterleave}
use Rattle.boot_words.specs.{zone_of_boot}
use Rattle.mem_machine.specs.{lock_holder, local_of, CallsInterleave}

pub calls_interleave : LocalRunsInterleave → CallsInterleave
calls_interleave law t run steps mixed before after shows made mixes =
    let p = lock_holder before in
    let now = local_of t after in
    subst (λ (q : ℕ). ShowsLocal (zone_of_boot t) (run ++ mixed) q now) (sym made.holder)
    (law (zone_of_boot t) run p (local_of t before) mixed now shows
    (subst (λ (r : Run). IsLocalRun p (local_of t before) r now) (sym mixes.own) made.leads) mixes.follows)
