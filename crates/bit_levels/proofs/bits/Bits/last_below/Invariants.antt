use Rattle.std.proofs.Common.{◌*◌, ◌/◌, ◌≤◌}
use Rattle.std.specs.Option.{MatchOption}
use Rattle.bit_levels.specs.Sets.{HasNoneIn, IsLastIn}
use Rattle.bit_levels.proofs.bits.Bits.last_below.Given as goal

abbrev pub invariant-loop-word : goal.invariant-loop-word
invariant-loop-word l = record {
  within : l.word ≤ l.number / 64;
  so_far : MatchOption l.found (HasNoneIn l.self (l.word * 64) l.number) (IsLastIn l.self 0 l.number);
}

abbrev pub decreases-loop-word : goal.decreases-loop-word
decreases-loop-word l = l.word
