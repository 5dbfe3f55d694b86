-- The counts of freed units balance. Serves `release`, `evict`, `drop_one` and `return_one`.
use Rattle.std.proofs.Common.{◌≡◌, ℕ, ◌+◌, arith}
use Rattle.std.specs.Prelude.{min}
use Rattle.group_tree.specs.Room.{max_count}
use Rattle.mem_machine.specs.declared.counts.Counts.{Counts}
use Rattle.mem_machine.specs.Counts.{BalancesCounts, with_last_put, with_freeze, with_killed_fresh}

first_rises : (a b c most : ℕ) → min (min (a + b + c) most + 1) most ≡ min (min (a + 1) most + b + c) most
first_rises a b c most = omega arith

second_rises : (a b c most : ℕ) → min (min (a + b + c) most + 1) most ≡ min (a + min (b + 1) most + c) most
second_rises a b c most = omega arith

third_rises : (a b c most : ℕ) → min (min (a + b + c) most + 1) most ≡ min (a + b + min (c + 1) most) most
third_rises a b c most = omega arith

pub balanced_last_put : (counts : Counts) → BalancesCounts counts → BalancesCounts (with_last_put counts)
balanced_last_put counts balances = rw balances (first_rises counts.last_puts counts.freezes counts.killed_fresh max_count)

pub balanced_freeze : (counts : Counts) → BalancesCounts counts → BalancesCounts (with_freeze counts)
balanced_freeze counts balances = rw balances (second_rises counts.last_puts counts.freezes counts.killed_fresh max_count)

pub balanced_killed_fresh : (counts : Counts) → BalancesCounts counts → BalancesCounts (with_killed_fresh counts)
balanced_killed_fresh counts balances = rw balances (third_rises counts.last_puts counts.freezes counts.killed_fresh max_count)
