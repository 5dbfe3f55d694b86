use Rattle.std.proofs.Common.{sym, subst, List, Bool}
use Rattle.zone_blocks.specs.PairBits.{AreBitLists, ArePairBits}
use Rattle.zone_blocks.proofs.Pairing.{slot_within, toggled_is, bits_toggled, bits_kept, lists_toggled}
use Rattle.zone_blocks.proofs.pairs.toggle_pair.Goals as goal

pub toggle-requires : goal.toggle-requires
toggle-requires c =
    slot_within _ _ c.requires.pairs c.args.block.now c.in-Some.ensures.0 c.exponent.result c.in-Some.number c.index_mut.result.now
    c.exponent.ensures.exponent c.in-Some.ensures.1 c.index_mut.ensures.value

pub returns-in-Some-clause-bits : goal.returns-in-Some-clause-bits
returns-in-Some-clause-bits c = λ old new h change.
    let has = c.in-Some.ensures.0 in
    let P : List (List Bool) → Type 0 = λ pairs. ArePairBits c.args.frames new pairs in
    subst P (sym (toggled_is _ _ c.requires.pairs c.args.block.now has.order c.exponent.result c.in-Some.number c.index_mut.result.now
    c.toggle.new.self c.exponent.ensures.exponent c.in-Some.ensures.1 c.index_mut.ensures.value c.toggle.ensures))
    (bits_toggled c.args.frames old new c.args.block.now _ h change has)

pub returns-in_default-clause-bits : goal.returns-in_default-clause-bits
returns-in_default-clause-bits c = λ old new h change. bits_kept c.args.frames old new c.args.block.now _ h change c.in_default.ensures

pub returns-in-Some-clause-lists : goal.returns-in-Some-clause-lists
returns-in-Some-clause-lists c =
    let has = c.in-Some.ensures.0 in
    let P : List (List Bool) → Type 0 = λ pairs. AreBitLists c.args.frames pairs in
    subst P (sym (toggled_is _ _ c.requires.pairs c.args.block.now has.order c.exponent.result c.in-Some.number c.index_mut.result.now
    c.toggle.new.self c.exponent.ensures.exponent c.in-Some.ensures.1 c.index_mut.ensures.value c.toggle.ensures))
    (lists_toggled c.args.frames c.args.block.now _ c.requires.pairs has.order)
