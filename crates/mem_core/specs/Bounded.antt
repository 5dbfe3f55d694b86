-- How large the numbers of a state may be.
use Rattle.std.specs.Prelude.{◌≡◌, ℕ, ◌+◌, ◌≤◌, true, length}
use Rattle.group_tree.specs.Bounds.{most_groups}
use Rattle.step_rules.specs.declared.phase.Hold.{Hold}
use Rattle.step_rules.specs.declared.phase.Hold.TheVariants.{Unheld, HeldBy, Visiting}
use Rattle.step_rules.specs.State.{State, is_cpu, pins_of, sum_to}

-- only a CPU holds the lock
abbrev pub HolderIsThere : ℕ → Hold → Type 0
HolderIsThere cpus Unheld = Unit {0}
HolderIsThere cpus (HeldBy p) = p ≤ cpus
HolderIsThere cpus (Visiting p) = p ≤ cpus

-- all pages that are pending or stand in a book
abbrev pub pages_out : State → ℕ
pages_out s = sum_to most_groups s.pending + sum_to (s.zone.cpus + 1) (λ p. (s.parts p).book)

-- the numbers are bounded by so many pages
pub record IsBounded (n : ℕ) (s : State) : Type 0 where
  pub references : (seat f : ℕ) → s.references seat f ≤ 255
  pub pages : pages_out s ≤ n
  pub holder : HolderIsThere s.zone.cpus s.hold
  pub pins : (cpu : ℕ) → is_cpu s.zone cpu ≡ true → pins_of s cpu + length (s.parts cpu).back ≤ 256
