use Rattle.std.proofs.Common.{refl, arith}
use Rattle.bit_levels.proofs.Words.{empty_words, empty_set}
use Rattle.bit_levels.proofs.bits.Bits.new.Goals as goal

pub invariant_of-result : goal.invariant_of-result
invariant_of-result c = empty_words c.args.len _ (omega arith) refl c.in_ok-words.words.items (c.in_ok-words.ensures.items_if_clones_equal (λ y h. h))

pub returns : goal.returns
returns c = empty_set c.args.len _ refl c.in_ok-words.words.items (c.in_ok-words.ensures.items_if_clones_equal (λ y h. h))
