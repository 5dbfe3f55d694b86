use Rattle.std.proofs.Common.{sym}
use Rattle.bit_levels.proofs.Words.{bound_of}
use Rattle.bit_levels.proofs.bits.Bits.len.Goals as goal

pub returns : goal.returns
returns c = sym (bound_of c.self.inside.len c.self.inside.words.items _ c.self.view_is)
