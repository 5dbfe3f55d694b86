use Rattle.std.proofs.Common.{◌++◌, ◌∙◌, ap, subst}
use Rattle.boot_words.specs.{zone_of_boot, IsClosedRun, pasts_of_cpus}
use Rattle.boot_words.proofs.Closing.{closed_run}
use Rattle.boot_words.proofs.raw.BootWords.close.Goals as goal

pub returns : goal.returns
returns c =
    let pasts = ap (λ s. s.pasts) c.gather.ensures in
    subst (IsClosedRun (zone_of_boot c.args.self) _) pasts
    (closed_run _ c.args.self _ _ c.args.cpus.items _ c.end.ensures.end c.requires.cpus.0 (pasts ∙ ap (λ l. l ++ pasts_of_cpus c.args.cpus.items) c.requires.zone.alone) c.requires.cpus.1)
