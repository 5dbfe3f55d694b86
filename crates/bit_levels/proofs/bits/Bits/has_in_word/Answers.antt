use Rattle.std.proofs.Common.{◌+◌, ◌*◌, List, Bool, sym, subst, arith, refl}
use Rattle.std.proofs.lemmas.List.{get_or_read}
use Rattle.bit_levels.specs.Sets.{HasSomeIn}
use Rattle.bit_levels.proofs.Words.{bound_of, some_in_word, none_in_word, not_some}
use Rattle.bit_levels.proofs.bits.Bits.has_in_word.Goals as goal
use Rattle.std.proofs.lemmas.Bool.{not_from_false, not-true, eqb-false, ne_eqb}

pub index-members-requires : goal.index-members-requires
index-members-requires c =
    let n = bound_of c.self.inside.len c.self.inside.words.items _ c.self.view_is in
    let count = c.self.invariant.count in
    let len = c.self.inside.words.ok.0 in
    omega (arith, n, count, len)

pub returns : goal.returns
returns c =
    let P : List Bool → Type 0 = λ xs. HasSomeIn xs (c.args.word * 64) (c.args.word * 64 + 64) in
    let n = bound_of c.self.inside.len c.self.inside.words.items _ c.self.view_is in
    let count = c.self.invariant.count in
    let len = c.self.inside.words.ok.0 in
    let here = get_or_read c.self.inside.words.items (c.args.word) c.index-members.result.now (omega (arith, n, count, len)) c.index-members.ensures 0 in (
      λ t. subst P c.self.view_is (some_in_word c.self.inside.len c.self.inside.words.items c.self.invariant c.args.word
          c.index-members.result.now here (omega arith) (eqb-false _ _ (not-true _ t))),
      λ some. not_from_false _ (ne_eqb _ _ (λ z. not_some _ _ _
          (none_in_word c.self.inside.len c.self.inside.words.items c.self.invariant c.args.word (c.args.word * 64 + 64)
          c.index-members.result.now (omega arith) (λ p l. rw here refl) z)
          (subst P (sym c.self.view_is) some))),
    )
