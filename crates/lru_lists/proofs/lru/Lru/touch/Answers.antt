use Rattle.std.proofs.Common.{◌≢◌, true, sym, ◌∙◌, refl}
use Rattle.lru_lists.specs.declared.record.LruList.TheVariants.{Inactive, Active}
use Rattle.lru_lists.specs.{link_at, list_of, marked}
use Rattle.lru_lists.proofs.Pairs.{remarked_stands, remarked_entries, other_unchanged, home_of_list, marks_true, marks_false, marked_owners}
use Rattle.lru_lists.proofs.lru.Lru.touch.Goals as goal

pub returns-then-is_marked_by_touch-clause-linked : goal.returns-then-is_marked_by_touch-clause-linked
returns-then-is_marked_by_touch-clause-linked c =
    rw c.set_marked.ensures (remarked_stands c.args.links.now c.args.self.now c.args.unit
    (record (link_at c.args.links.now c.args.unit) { is_marked = true }) c.requires.linked (refl, refl, refl))

pub returns-then-is_marked_by_touch-clause-touches : goal.returns-then-is_marked_by_touch-clause-touches
returns-then-is_marked_by_touch-clause-touches c =
    let m = marks_true (list_of c.args.links.now c.args.self.now.owner c.args.unit) (link_at c.args.links.now c.args.unit).is_marked
    (sym c.is_marked_by_touch.ensures ∙ c.if-is_marked_by_touch.true) in
    let there = home_of_list (link_at c.args.links.now c.args.unit).home c.args.self.now Inactive m.0 in
    let ne : Active ≢ Inactive = λ e. cc in
    let each = remarked_entries c.args.links.now c.args.self.now c.args.unit (record (link_at c.args.links.now c.args.unit) { is_marked = true })
    (marked true) c.requires.linked
    (refl, refl, refl) c.requires.frame refl in
    rw c.set_marked.ensures (
      m.0,
      m.1,
      each Inactive,
      each Active ∙ other_unchanged c.args.links.now c.args.self.now Inactive Active c.args.unit
          (marked true) c.requires.linked there ne,
    )

pub returns-else-is_marked_by_touch-clause-touches : goal.returns-else-is_marked_by_touch-clause-touches
returns-else-is_marked_by_touch-clause-touches c =
    let ne : Inactive ≢ Active = λ e. cc in (
      marks_false (list_of c.args.links.now c.args.self.now.owner c.args.unit) (link_at c.args.links.now c.args.unit).is_marked
          (sym c.is_marked_by_touch.ensures ∙ c.if-is_marked_by_touch.false),
      c.move_to.ensures.lost Inactive ne,
      c.move_to.ensures.gained,
    )

pub returns-then-is_marked_by_touch-clause-owners : goal.returns-then-is_marked_by_touch-clause-owners
returns-then-is_marked_by_touch-clause-owners c = rw c.set_marked.ensures (marked_owners c.args.links.now c.args.unit true)
