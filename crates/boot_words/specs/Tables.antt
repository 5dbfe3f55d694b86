-- What contracts see of a table of words.
use Rattle.std.specs.Prelude.{ℕ}
use Rattle.atomic_table.specs.Seated.{TableId}
use Rattle.zone_blocks.specs.declared.choices.Choices.{Choices}

-- which table it is, how many frames and CPUs it has, and the choices of its boot
pub record KnownTable : Type 0 where
  pub table : TableId
  pub frames : ℕ
  pub cpus : ℕ
  pub choices : Choices
