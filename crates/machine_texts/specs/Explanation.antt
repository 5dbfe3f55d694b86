-- The explanation of what a command drained, reclaimed and killed.
use Rattle.std.specs.Prelude.{ℕ, ◌==◌, Bool, true, false, Option, Some, None, List, [], ◌∷◌, ◌++◌, ◌-◌, codes, if◌then◌else◌}
use Rattle.std.specs.List.{list_any}
use Rattle.std.specs.Option.{option_map}
use Rattle.std.specs.Fmt.{decimal}
use Rattle.group_tree.specs.declared.group.Group.{Group}
use Rattle.group_charge.specs.declared.note.Note.{Note}
use Rattle.group_charge.specs.declared.note.Note.TheVariants.{Limit, High, Zone, Asked, Stock, Reclaimed, Spared, Low, Round, Oom, Victim, GroupKill, Kill}
use Rattle.machine_texts.specs.Lines.{line_text}

-- the note says that a stock was drained, that a round of reclaim was made, or that a group was killed
abbrev pub is_attempt : Note → Bool
is_attempt (Stock cpu pages) = true
is_attempt (Round number returned missed pages usage) = true
is_attempt (Kill g returned pages pinned left usage) = true
is_attempt (Limit g max usage need) = false
is_attempt (High g high usage need) = false
is_attempt (Zone order) = false
is_attempt (Asked g pages) = false
is_attempt (Reclaimed g first last) = false
is_attempt (Spared g usage of_min of_low) = false
is_attempt (Low g usage of_min of_low) = false
is_attempt (Oom g) = false
is_attempt (Victim victim candidates next) = false
is_attempt (GroupKill g number) = false

-- The usage under the limit whose stocks are drained, after a note. A limit or a memory.high gives its usage, each of
-- its stocks takes off what it had, and after any other note there is none.
abbrev pub usage_after : Option ℕ → Note → Option ℕ
usage_after before (Limit g max usage need) = Some usage
usage_after before (High g high usage need) = Some usage
usage_after before (Stock cpu pages) = option_map (λ usage. usage - pages) before
usage_after before (Zone order) = None
usage_after before (Asked g pages) = None
usage_after before (Reclaimed g first last) = None
usage_after before (Spared g usage of_min of_low) = None
usage_after before (Low g usage of_min of_low) = None
usage_after before (Round number returned missed pages usage) = None
usage_after before (Oom g) = None
usage_after before (Victim victim candidates next) = None
usage_after before (GroupKill g number) = None
usage_after before (Kill g returned pages pinned left usage) = None

-- the line of each note; `usage` is that under the limit whose stocks are drained, if any
abbrev pub notes_text : List Group → (gone : List ℕ) → Option ℕ → List Note → List ℕ
notes_text groups gone usage [] = []
notes_text groups gone usage (note ∷ notes) =
    line_text groups gone usage note ++ notes_text groups gone (usage_after usage note) notes

-- this many frames were reclaimed of which no note tells; nothing is written of none
unfoldable pub left_out_text : ℕ → List ℕ
left_out_text frames = if frames == 0 then [] else (codes "# reclaimed " ++ decimal frames ++ codes " more frames\n")

-- What is written of the notes of a command: the line of each, and how many reclaimed frames they leave out. Nothing is
-- written if no stock was drained, no round made and no group killed. `gone` is the path of the group that the command
-- removed, if it removed one.
abbrev pub explanation_text : List Group → (gone : List ℕ) → List Note → (left_out : ℕ) → List ℕ
explanation_text groups gone notes left_out =
    if list_any is_attempt notes then notes_text groups gone None notes ++ left_out_text left_out else []
