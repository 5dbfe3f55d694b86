-- What is kept of the notes of a visit.
use Rattle.std.specs.Prelude.{ℕ, ◌+◌, ◌-◌, ◌==◌, ◌&&◌, min, Bool, true, false, Option, Some, None, List, [], ◌∷◌, ◌++◌}
use Rattle.std.specs.Prelude.{length, count_by, nat_lt, slice_get, slice_set, if◌then◌else◌}
use Rattle.group_tree.specs.Room.{max_count}
use Rattle.group_charge.specs.declared.note.Note.{Note}
use Rattle.group_charge.specs.declared.note.Note.TheVariants.{Reclaimed, Spared, Low}

-- how many notes are kept
abbrev pub most_notes : ℕ
most_notes = 4992

-- how many of them may be details
abbrev pub most_details : ℕ
most_details = 1024

-- What contracts see of the notes: the list of them, the oldest first; how many freed frames no note tells of; and
-- whether details are noted.
pub record KnownNotes : Type 0 where
  pub list : List Note
  pub left_out : ℕ
  pub notes_details : Bool

-- nothing is noted, and details won't be
abbrev pub no_notes : KnownNotes
no_notes = record { list = []; left_out = 0; notes_details = false }

-- the list with one more note at the end, as long as there are fewer than `most_notes`
abbrev pub note_added : List Note → Note → List Note
note_added list note = if nat_lt (length list) most_notes then list ++ note ∷ [] else list

-- the notes with this one at the end, as long as there are fewer than `most_notes`
abbrev pub noted : KnownNotes → Note → KnownNotes
noted notes note = record notes { list = note_added notes.list note }

-- nothing is noted any more; whether details are noted stays
abbrev pub forgotten : KnownNotes → KnownNotes
forgotten notes = record notes { list = []; left_out = 0 }

-- the note is a detail: a span of freed units, or what protected a group
abbrev pub is_detail : Note → Bool
is_detail (Reclaimed group first last) = true
is_detail (Spared group usage of_min of_low) = true
is_detail (Low group usage of_min of_low) = true
is_detail _ = false

-- one more detail may be noted
abbrev pub has_room_for_detail : List Note → Bool
has_room_for_detail list = nat_lt (count_by is_detail list) most_details && nat_lt (length list) most_notes

-- the notes with this detail at the end, if details are noted and there is room for one more
abbrev pub detail_noted : KnownNotes → Note → KnownNotes
detail_noted notes note =
    if notes.notes_details && has_room_for_detail notes.list then record notes { list = notes.list ++ note ∷ [] } else notes

-- the last of a unit's frames, which are this many from `first` on
abbrev pub last_frame : (first frames : ℕ) → ℕ
last_frame first frames = first + frames - 1

-- The span with the unit's frames, if the note is a span of units of the unit's group and the unit adjoins it: it
-- begins right after the span, or it ends right before it.
abbrev pub joined_span : Option Note → (group first frames : ℕ) → Option Note
joined_span (Some (Reclaimed owner low high)) group first frames =
    if owner == group && (first == high + 1) then Some (Reclaimed group low (last_frame first frames))
    else (if owner == group && (first + frames == low) then Some (Reclaimed group first high) else None)
joined_span _ group first frames = None

-- the note that the next freed unit may join: the last one, if each freed unit was noted so far
abbrev pub last_noted : KnownNotes → Option Note
last_noted notes = if notes.left_out == 0 then slice_get notes.list (length notes.list - 1) else None

-- the notes with a new span, which is this unit; if there is no room for one, its frames are left out
abbrev pub with_new_span : KnownNotes → (group first frames : ℕ) → KnownNotes
with_new_span notes group first frames =
    if has_room_for_detail notes.list
    then record notes { list = notes.list ++ Reclaimed group first (last_frame first frames) ∷ [] }
    else record notes { left_out = min (notes.left_out + frames) max_count }

-- the notes with this span in place of the last note or, if there is no such span, with a new one, which is this unit
abbrev pub with_span : Option Note → KnownNotes → (group first frames : ℕ) → KnownNotes
with_span (Some span) notes group first frames =
    record notes { list = slice_set notes.list (length notes.list - 1) span }
with_span None notes group first frames = with_new_span notes group first frames

-- The notes after a unit of the group was freed, whose frames are this many from `first` on. If freed units are noted,
-- the unit joins the last span if it can, and is a new span otherwise.
abbrev pub unit_noted : KnownNotes → (group first frames : ℕ) → KnownNotes
unit_noted notes group first frames =
    if notes.notes_details then with_span (joined_span (last_noted notes) group first frames) notes group first frames
    else notes
