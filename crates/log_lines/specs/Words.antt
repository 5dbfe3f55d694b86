-- The words of a line: names, numbers and paths, separated by single spaces.
use Rattle.std.specs.Prelude.{ℕ, ◌^◌, ◌<◌, ◌==◌, ◌&&◌, nat_le, not, Bool, true, false, IsTrue, List, [], ◌∷◌, ◌++◌}
use Rattle.std.specs.Prelude.{Option, Some, None, codes, decimal, length}
use Rattle.std.specs.List.{list_all}
use Rattle.group_tree.specs.Bounds.{longest_path, most_groups}
use Rattle.step_rules.specs.declared.step.NoteKey.{NoteKey}
use Rattle.step_rules.specs.declared.step.NoteKey.TheVariants.{Low, High, Max, Oom}
use Rattle.step_rules.specs.declared.step.Action.{Action}
use Rattle.step_rules.specs.declared.step.Action.TheVariants.{Lock, Unlock, OpenVisit, ShutVisit, Get, Put, Freeze, Unfreeze, PassOut, TakeIn}
use Rattle.step_rules.specs.declared.step.Action.TheVariants.{PassBack, Collect, Consume, Credit, Report, Absorb, Fill, DrainStock, Grant, Ungrant}
use Rattle.step_rules.specs.declared.step.Action.TheVariants.{PlaceBlock, Publish, Return, Note, NoteGroupKill, SetMax, SetFlag, Make, Remove, Kill}
use Rattle.step_rules.specs.declared.step.Answer.{Answer}
use Rattle.step_rules.specs.declared.step.Answer.TheVariants.{Illegal, Done, Held, Zero, Full, Left, Last, Missed, Took, Empty, OtherGroup, Drained}
use Rattle.step_rules.specs.declared.step.Answer.TheVariants.{Stocked, Pages, Granted, Over, Placed, NoFreeBlock}
use Rattle.step_rules.specs.declared.step.Answer.TheVariants as answer

-- the kinds of numbers
pub data Size : Type 0 where
  Wide : Size
  Narrow : Size
  GroupAction : Size
  OrderAction : Size

-- numbers of a kind are below this
abbrev pub bound_of : Size → ℕ
bound_of Wide = 2 ^ 64
bound_of Narrow = 2 ^ 32
bound_of GroupAction = most_groups
bound_of OrderAction = 11

-- a word: a fixed one, a number, or the path of a group
pub data Word : Type 0 where
  Fixed : List ℕ → Word
  Numeral : Size → ℕ → Word
  Path : List ℕ → Word

-- the text of a word; a number is in decimal, without a sign or a leading zero
abbrev pub word_text : Word → List ℕ
word_text (Fixed text) = text
word_text (Numeral size n) = decimal n
word_text (Path text) = text

-- the byte is not a space
abbrev pub is_no_space : ℕ → Bool
is_no_space b = not (b == 32)

-- the byte is above 32 and below 127
abbrev pub is_graphic : ℕ → Bool
is_graphic b = nat_le 33 b && nat_le b 126

-- a path that a line can contain: 1 to 512 bytes above 32 and below 127
abbrev pub is_path : List ℕ → Bool
is_path text = nat_le 1 (length text) && nat_le (length text) longest_path && list_all is_graphic text

-- the word can be written: a fixed one has no space, a number is below the bound of its kind, and a line can contain
-- a path
abbrev pub Fits : Word → Type 0
Fits (Fixed text) = IsTrue (list_all is_no_space text)
Fits (Numeral size n) = n < bound_of size
Fits (Path text) = IsTrue (is_path text)

-- the words, each after a space
abbrev pub spaced : List Word → List ℕ
spaced [] = []
spaced (word ∷ words) = 32 ∷ (word_text word ++ spaced words)

-- a number of 32 bits: a frame, a CPU or a count
abbrev pub number : ℕ → Word
number n = Numeral Narrow n

-- the number of a group
abbrev pub group : ℕ → Word
group g = Numeral GroupAction g

-- the order of a block
abbrev pub order : ℕ → Word
order k = Numeral OrderAction k

-- a limit in pages, or `max` for none
abbrev pub limit : Option ℕ → Word
limit None = Fixed (codes "max")
limit (Some pages) = number pages

-- whether a group is killed as a whole
abbrev pub flag : Bool → Word
flag false = Fixed (codes "0")
flag true = Fixed (codes "1")

-- ---- actions and answers

-- the name of a note
abbrev pub note_name : NoteKey → List ℕ
note_name Low = codes "note-low"
note_name High = codes "note-high"
note_name Max = codes "note-max"
note_name Oom = codes "note-oom"

-- the words of an action
abbrev pub action_words : Action → List Word
action_words Lock = Fixed (codes "lock") ∷ []
action_words Unlock = Fixed (codes "unlock") ∷ []
action_words (OpenVisit cpu) = Fixed (codes "open") ∷ number cpu ∷ []
action_words (ShutVisit cpu) = Fixed (codes "shut") ∷ number cpu ∷ []
action_words (Get frame) = Fixed (codes "get") ∷ number frame ∷ []
action_words (Put frame) = Fixed (codes "put") ∷ number frame ∷ []
action_words (Freeze frame count) = Fixed (codes "freeze") ∷ number frame ∷ number count ∷ []
action_words (Unfreeze frame count) = Fixed (codes "unfreeze") ∷ number frame ∷ number count ∷ []
action_words (PassOut frame cpu) = Fixed (codes "pass-out") ∷ number frame ∷ number cpu ∷ []
action_words (TakeIn frame) = Fixed (codes "take-in") ∷ number frame ∷ []
action_words (PassBack frame) = Fixed (codes "pass-back") ∷ number frame ∷ []
action_words (Collect frame cpu) = Fixed (codes "collect") ∷ number frame ∷ number cpu ∷ []
action_words (Consume g) = Fixed (codes "consume") ∷ group g ∷ []
action_words (Credit frame) = Fixed (codes "credit") ∷ number frame ∷ []
action_words (Report pages) = Fixed (codes "report") ∷ number pages ∷ []
action_words (Absorb cpu) = Fixed (codes "absorb") ∷ number cpu ∷ []
action_words (Fill cpu g pages) = Fixed (codes "fill") ∷ number cpu ∷ group g ∷ number pages ∷ []
action_words (DrainStock cpu) = Fixed (codes "drain") ∷ number cpu ∷ []
action_words (Grant g pages) = Fixed (codes "grant") ∷ group g ∷ number pages ∷ []
action_words (Ungrant g pages) = Fixed (codes "ungrant") ∷ group g ∷ number pages ∷ []
action_words (PlaceBlock g k) = Fixed (codes "place") ∷ group g ∷ order k ∷ []
action_words (Publish frame) = Fixed (codes "publish") ∷ number frame ∷ []
action_words (Return frame) = Fixed (codes "return") ∷ number frame ∷ []
action_words (Note key g) = Fixed (note_name key) ∷ group g ∷ []
action_words (NoteGroupKill g) = Fixed (codes "group-kill") ∷ group g ∷ []
action_words (SetMax g pages) = Fixed (codes "limit") ∷ group g ∷ limit pages ∷ []
action_words (SetFlag g oom_group) = Fixed (codes "flag") ∷ group g ∷ flag oom_group ∷ []
action_words (Make path) = Fixed (codes "make") ∷ Path path ∷ []
action_words (Remove g) = Fixed (codes "remove") ∷ group g ∷ []
action_words (Kill g) = Fixed (codes "kill") ∷ group g ∷ []

-- the words of an answer
abbrev pub answer_words : Answer → List Word
answer_words Illegal = Fixed (codes "illegal") ∷ []
answer_words Done = Fixed (codes "done") ∷ []
answer_words Held = Fixed (codes "held") ∷ []
answer_words Zero = Fixed (codes "zero") ∷ []
answer_words Full = Fixed (codes "full") ∷ []
answer_words (Left count) = Fixed (codes "left") ∷ number count ∷ []
answer_words Last = Fixed (codes "last") ∷ []
answer_words Missed = Fixed (codes "missed") ∷ []
answer_words Took = Fixed (codes "took") ∷ []
answer_words Empty = Fixed (codes "empty") ∷ []
answer_words OtherGroup = Fixed (codes "other-group") ∷ []
answer_words Drained = Fixed (codes "drained") ∷ []
answer_words Stocked = Fixed (codes "back") ∷ []
answer_words (Pages pages) = Fixed (codes "pages") ∷ Numeral Wide pages ∷ []
answer_words Granted = Fixed (codes "granted") ∷ []
answer_words (Over g) = Fixed (codes "over") ∷ group g ∷ []
answer_words (Placed block) = Fixed (codes "placed") ∷ number block.at ∷ order block.order ∷ []
answer_words NoFreeBlock = Fixed (codes "no-block") ∷ []
answer_words (answer.Number g) = Fixed (codes "number") ∷ group g ∷ []
