use Rattle.std.proofs.Common.{arith, tests}
use Rattle.std.proofs.lemmas.Nat.{one_shl, pow_pos}
use Rattle.std.proofs.lemmas.Nat.Bits.{and_pow}
use Rattle.bit_levels.proofs.word.has.Goals as goal

pub returns : goal.returns
returns c = grind (arith, tests, one_shl c.args.place 64 c.requires, and_pow c.args.word c.args.place, pow_pos c.args.place)
