use Rattle.std.proofs.Common.{◌∙◌, ap, sym}
use Rattle.boot_words.proofs.Parting.{some_word}
use Rattle.boot_words.proofs.Sharing.{join_allowed, nothing_allowed}
use Rattle.boot_words.proofs.raw.BootWords.join.Goals as goal

pub split_seat-requires : goal.split_seat-requires
split_seat-requires c = (
  ap (λ r. r.table) c.seat.view_is ∙ c.requires.tables.0 ∙ sym (ap (λ t. t.table) c.self.view_is),
  some_word _ _ _ c.self.invariant.words_are,
  nothing_allowed _ _ _,
)

pub join_seat-requires : goal.join_seat-requires
join_seat-requires c = (
  c.split_seat.ensures.0 ∙ (ap (λ r. r.table) c.seat.view_is ∙ c.requires.tables.0 ∙ sym (ap (λ t. t.table) c.self.view_is)),
  ap (λ r. r.table) (c.taken.view_is ∙ c.replace.ensures.value) ∙ c.requires.tables.1 ∙ sym (ap (λ t. t.table) c.self.view_is),
  c.taken.invariant,
  some_word _ _ _ c.self.invariant.words_are,
  join_allowed _ _ _ _ _,
)
