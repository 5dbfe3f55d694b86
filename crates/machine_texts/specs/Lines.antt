-- The line of each note. Sizes are in bytes. `gone` is the path of the group that the command removed, if it removed
-- one.
use Rattle.std.specs.Prelude.{ℕ, Option, Some, None, unwrap_or, List, [], ◌++◌, codes, ◌+◌, ◌-◌, ◌*◌, ◌==◌, nat_lt, if◌then◌else◌}
use Rattle.std.specs.Fmt.{decimal}
use Rattle.group_tree.specs.declared.group.Group.{Group}
use Rattle.group_tree.specs.Groups.{path_of}
use Rattle.group_charge.specs.declared.note.Candidate.{Candidate}
use Rattle.group_charge.specs.declared.note.Note.{Note}
use Rattle.group_charge.specs.declared.note.Note.TheVariants.{Limit, High, Zone, Asked, Stock, Reclaimed, Spared, Low, Round, Oom, Victim, GroupKill, Kill}
use Rattle.control_files.specs.Limit.{page_bytes}
use Rattle.machine_texts.specs.Characters.{characters}

-- the bytes of this many pages
unfoldable pub bytes_text : ℕ → List ℕ
bytes_text pages = decimal (pages * page_bytes)

-- the path of a group; if the group doesn't exist any more, `gone`
unfoldable pub group_text : List Group → (gone : List ℕ) → ℕ → List ℕ
group_text groups gone g = characters (unwrap_or (path_of groups g) gone)

-- a group that may be killed, and its frames
unfoldable pub candidate_text : List Group → (gone : List ℕ) → Candidate → List ℕ
candidate_text groups gone c = group_text groups gone c.group ++ codes " frames " ++ decimal c.frames

-- the end of a line: the bytes of this many pages, and the usage under the limit then
unfoldable pub ending_text : ℕ → ℕ → List ℕ
ending_text pages usage = codes " bytes " ++ bytes_text pages ++ codes " usage " ++ bytes_text usage ++ codes "\n"

-- after this word a limit without room or a memory.high, the usage under it, and what was asked for
abbrev pub limit_line : (word : List ℕ) → List Group → (gone : List ℕ) → ℕ → ℕ → ℕ → ℕ → List ℕ
limit_line word groups gone g max usage need = word ++ group_text groups gone g ++ codes " " ++ bytes_text max
    ++ codes " usage " ++ bytes_text usage ++ codes " need " ++ bytes_text need ++ codes "\n"

-- no block of this order was free, and rounds follow
abbrev pub zone_line : (order : ℕ) → List ℕ
zone_line order = codes "# zone order " ++ decimal order ++ codes "\n"

-- this many pages were asked for, and rounds follow
abbrev pub asked_text : List Group → (gone : List ℕ) → ℕ → ℕ → List ℕ
asked_text groups gone g pages =
    codes "# asked " ++ group_text groups gone g ++ codes " " ++ bytes_text pages ++ codes "\n"

-- the frames from the first to the last, or the one frame
unfoldable pub range_text : (first last : ℕ) → List ℕ
range_text first last = if first == last then decimal first else (decimal first ++ codes "-" ++ decimal last)

-- a span of reclaimed units
abbrev pub reclaimed_text : List Group → (gone : List ℕ) → ℕ → ℕ → ℕ → List ℕ
reclaimed_text groups gone g first last =
    codes "# reclaimed " ++ group_text groups gone g ++ codes " " ++ range_text first last ++ codes "\n"

-- after this word a group, its usage when its turn began, and how much of it memory.min and memory.low protected
abbrev pub protected_line : (word : List ℕ) → List Group → (gone : List ℕ) → ℕ → ℕ → ℕ → ℕ → List ℕ
protected_line word groups gone g usage of_min of_low = word ++ group_text groups gone g ++ codes " usage " ++ bytes_text usage
    ++ codes " min " ++ bytes_text of_min ++ codes " low " ++ bytes_text of_low ++ codes "\n"

-- A stock that was drained under a limit, and the usage under the limit afterwards, by the usage before. Nothing is
-- written for a stock that was drained for another reason.
abbrev pub stock_line : Option ℕ → ℕ → ℕ → List ℕ
stock_line (Some usage) cpu pages = codes "# stock " ++ decimal cpu ++ ending_text pages (usage - pages)
stock_line None cpu pages = []

-- a round of reclaim: the units that were tried were either freed (`returned`) or missed
abbrev pub round_text : ℕ → ℕ → ℕ → ℕ → ℕ → List ℕ
round_text number returned missed pages usage = codes "# round " ++ decimal number ++ codes " tried "
    ++ decimal (returned + missed)
    ++ codes " missed " ++ decimal missed ++ codes " returned " ++ decimal returned ++ ending_text pages usage

-- a limit that couldn't be kept
abbrev pub oom_text : List Group → (gone : List ℕ) → ℕ → List ℕ
oom_text groups gone g = codes "# oom " ++ group_text groups gone g ++ codes "\n"

-- the next candidate, if there is more than one
unfoldable pub next_text : List Group → (gone : List ℕ) → ℕ → Candidate → List ℕ
next_text groups gone candidates next =
    if nat_lt 1 candidates then codes ", next " ++ candidate_text groups gone next else []

-- how many candidates there are, and the next of them
unfoldable pub others_text : List Group → (gone : List ℕ) → ℕ → Candidate → List ℕ
others_text groups gone candidates next =
    codes " of " ++ decimal candidates ++ codes " candidates" ++ next_text groups gone candidates next

-- the group that is killed, the number of candidates, and the next of them
abbrev pub victim_text : List Group → (gone : List ℕ) → Candidate → ℕ → Candidate → List ℕ
victim_text groups gone victim candidates next =
    codes "# victim " ++ candidate_text groups gone victim ++ others_text groups gone candidates next ++ codes "\n"

-- the group that is killed as a whole, and how many groups of its subtree die
abbrev pub group_kill_text : List Group → (gone : List ℕ) → ℕ → ℕ → List ℕ
group_kill_text groups gone g number =
    codes "# group " ++ group_text groups gone g ++ codes " groups " ++ decimal number ++ codes "\n"

-- a group that was killed: how many of its units were freed, and of how many pages; how many stay, since CPUs have pins
-- on them; how many pages stay charged to the group itself (`left`); and the usage under the limit, in pages
abbrev pub killed_text : List Group → (gone : List ℕ) → (g returned pages pinned left usage : ℕ) → List ℕ
killed_text groups gone g returned pages pinned left usage =
    codes "# killed " ++ group_text groups gone g ++ codes " returned " ++ decimal returned
    ++ codes " bytes " ++ bytes_text pages ++ codes " pinned " ++ decimal pinned ++ ending_text left usage

-- the line of a note; `usage` is that under the limit whose stocks are drained, if any
abbrev pub line_text : List Group → (gone : List ℕ) → Option ℕ → Note → List ℕ
line_text groups gone _ (Limit g max usage need) = limit_line (codes "# limit ") groups gone g max usage need
line_text groups gone _ (High g high usage need) = limit_line (codes "# high ") groups gone g high usage need
line_text groups gone _ (Zone order) = zone_line order
line_text groups gone _ (Asked g pages) = asked_text groups gone g pages
line_text groups gone usage (Stock cpu pages) = stock_line usage cpu pages
line_text groups gone _ (Reclaimed g first last) = reclaimed_text groups gone g first last
line_text groups gone _ (Spared g usage of_min of_low) =
    protected_line (codes "# spared ") groups gone g usage of_min of_low
line_text groups gone _ (Low g usage of_min of_low) = protected_line (codes "# low ") groups gone g usage of_min of_low
line_text groups gone _ (Round number returned missed pages usage) = round_text number returned missed pages usage
line_text groups gone _ (Oom g) = oom_text groups gone g
line_text groups gone _ (Victim victim candidates next) = victim_text groups gone victim candidates next
line_text groups gone _ (GroupKill g number) = group_kill_text groups gone g number
line_text groups gone _ (Kill g returned pages pinned left usage) =
    killed_text groups gone g returned pages pinned left usage
