use Rattle.std.proofs.Common.{◌≡◌, ℕ, ◌-◌, Some, slice_set, count_by, sym, ap, ◌∙◌, subst}
use Rattle.group_charge.specs.Notes.{KnownNotes, is_detail, joined_span, last_noted}
use Rattle.group_charge.proofs.Counting.{spans_kept}
use Rattle.group_charge.proofs.notes.Notes.add_unit.Goals as goal

pub invariant_of-self : goal.invariant_of-self
invariant_of-self c =
    let joins = subst (λ (n : KnownNotes). joined_span (last_noted n) c.args.group c.args.first c.args.frames ≡ Some c.in-Some.span) (sym c.self.view_is)
    (sym c.joined.ensures ∙ c.in-Some.is) in
    let kept = spans_kept (record { list = c.self.inside.notes.items; left_out = c.self.inside.left_out; notes_details = c.self.inside.notes_details }) c.args.group
    c.args.first c.args.frames c.in-Some.span joins in (
      c.self.invariant.0,
      c.self.invariant.1 ∙ sym (ap (λ (n : ℕ). count_by is_detail (slice_set c.self.inside.notes.items (n - 1) c.in-Some.span))
          (c.len-last.ensures ∙ c.self.inside.notes.ok.0) ∙ kept),
    )
