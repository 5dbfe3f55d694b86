use Rattle.std.proofs.Common.{◌∙◌, ◌*◌, ◌+◌, ◌-◌, sym, arith, rules}
use Rattle.bit_levels.specs.Sets.{HasNoneIn}
use Rattle.bit_levels.proofs.Words.{wider, further, found_some, found_none}
use Rattle.bit_levels.proofs.bits.Bits.last_below.Goals as goal

pub loop-word-init : goal.loop-word-init
loop-word-init c = record { within = omega arith; so_far = wider _ _ _ c.last_in_word_below-found.result c.last_in_word_below-found.ensures }

pub returns-then-is_some : goal.returns-then-is_some
returns-then-is_some c = found_some _ _ _ c.loop-word.found (sym c.is_some.ensures ∙ c.if-is_some.true) c.loop-word.invariant.so_far

pub loop-word-preserved : goal.loop-word-preserved
loop-word-preserved c =
    let none : HasNoneIn c.args.self.now (c.loop-word.word * 64) c.args.number =
    found_none _ _ c.loop-word.found (sym c.is_some.ensures ∙ c.if-is_some.false) c.loop-word.invariant.so_far in
    let within = c.loop-word.invariant.within in
    record {
      within = omega arith;
      so_far = further c.args.self.now ((c.loop-word.word - 1) * 64) ((c.loop-word.word - 1) * 64 + 64) c.args.number c.last_in_word-found.result (omega arith)
          (λ i from before. none i (omega arith) before) c.last_in_word-found.ensures;
    }

pub returns : goal.returns
returns c = search rules
