-- A span in place of another leaves the number of spans. Serves `add_unit`.
use Rattle.std.proofs.Common.{◌≡◌, ℕ, ◌+◌, ◌-◌, ◌==◌, ◌&&◌, Bool, true, false, cond, Option, Some, None, List, length, count_by}
use Rattle.std.proofs.Common.{slice_get, slice_set, refl, ap, ◌∙◌, arith, subst}
use Rattle.std.proofs.lemmas.List.Sums.{sum_by-set}
use Rattle.std.proofs.lemmas.Option.{slice_get_within, get_or_from_slice_get, none-some}
use Rattle.group_charge.specs.declared.note.Note.{Note}
use Rattle.group_charge.specs.declared.note.Note.TheVariants.{Reclaimed}
use Rattle.group_charge.specs.Notes.{KnownNotes, is_detail, joined_span, last_noted, last_frame}

same_note : (a b : Note) → Some a ≡ Some b → a ≡ b
same_note a b e = cc

-- what a choice of two spans gives is a span
chosen_span : (one two : Bool) (x y span : Note) → is_detail x ≡ true → is_detail y ≡ true
    → cond one (Some x) (cond two (Some y) None) ≡ Some span → is_detail span ≡ true
chosen_span true two x y span a b e = subst (λ (n : Note). is_detail n ≡ true) (same_note x span e) a
chosen_span false true x y span a b e = subst (λ (n : Note). is_detail n ≡ true) (same_note y span e) b
chosen_span false false x y span a b e = absurd (none-some span e)

-- a note that a unit joins is a span, and is a span afterwards
record Spans (note : Option Note) (span : Note) : Type 0 where
  old : Note
  is : note ≡ Some old
  was_span : is_detail old ≡ true
  is_detail_still : is_detail span ≡ true

joined_spans : (note : Option Note) (g f k : ℕ) (span : Note) → joined_span note g f k ≡ Some span → Spans note span
joined_spans (Some (Reclaimed owner low high)) g f k span e = record {
  old = Reclaimed owner low high;
  is = refl;
  was_span = refl;
  is_detail_still = chosen_span (owner == g && (f == high + 1)) (owner == g && (f + k == low)) (Reclaimed g low (last_frame f k)) (Reclaimed g f high) span refl
      refl e;
}
joined_spans _ g f k span e = absurd (none-some span e)

-- the last note, if there is one that may be joined
last_there : (left : Bool) (list : List Note) (x : Note) → cond left (slice_get list (length list - 1)) None ≡ Some x → slice_get list (length list - 1) ≡ Some x
last_there true list x e = e
last_there false list x e = absurd (none-some x e)

abbrev counted : Bool → ℕ
counted b = cond b 1 0

pub spans_kept : (notes : KnownNotes) (g f k : ℕ) (span : Note) → joined_span (last_noted notes) g f k ≡ Some span
    → count_by is_detail (slice_set notes.list (length notes.list - 1) span) ≡ count_by is_detail notes.list
spans_kept notes g f k span e =
    let spans = joined_spans (last_noted notes) g f k span e in
    let list = notes.list in
    let at : ℕ = length list - 1 in
    let there = last_there (notes.left_out == 0) list spans.old spans.is in
    let below = slice_get_within list at spans.old there in
    let read = get_or_from_slice_get list at spans.old span there in
    let sums = sum_by-set (λ (n : Note). counted (is_detail n)) list at span span below in
    let was = ap counted (ap is_detail read ∙ spans.was_span) in
    let is = ap counted spans.is_detail_still in
    omega (arith, sums, was, is)
