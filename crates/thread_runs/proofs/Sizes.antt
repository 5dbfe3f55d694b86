-- The sizes of a boot under its name. Serves `live_by_threads`.
use Rattle.std.proofs.Common.{◌≡◌, ℕ, List, All, sym, ◌∙◌, subst}
use Rattle.zone_blocks.specs.declared.config.Config.{Config}
use Rattle.boot_words.specs.Tables.{KnownTable}
use Rattle.mem_system.specs.Boots.{IsSizedAs}
use Rattle.script_lines.specs.declared.line.Line.{Line}
use Rattle.script_replay.specs.Ranges.{LineInRange}

-- what lines name is in range, for as many parts as the boot name has CPUs
pub lines_there : (sizes : Config) (f t : KnownTable) (n : ℕ) (lines : List Line) → IsSizedAs sizes f → f ≡ t → n ≡ t.cpus
    → All (LineInRange sizes.frames sizes.cpus) lines → All (LineInRange t.frames n) lines
lines_there sizes f t n lines sized named long there =
    let as_named = subst (IsSizedAs sizes) named sized in
    subst (λ (b : ℕ × ℕ). All (LineInRange b.0 b.1) lines) (λ i. (sym as_named.frames i, sym (long ∙ as_named.cpus) i)) there
