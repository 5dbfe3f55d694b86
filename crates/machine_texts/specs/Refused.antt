-- The line that says why a command is refused.
use Rattle.std.specs.Prelude.{ℕ, Option, Some, None, List, [], ◌++◌, codes}
use Rattle.std.specs.Fmt.{decimal}
use Rattle.group_tree.specs.declared.fault.Fault.{Fault}
use Rattle.group_tree.specs.declared.fault.Fault.TheVariants.{NoParent, Exists, BadName, TreeFull, TooDeep, NoGroup, HasChildren, Busy, PinsFull}
use Rattle.group_tree.specs.declared.fault.Fault.TheVariants.{NoFile, ReadOnly, BadLimit, BadNumber, BadConfig, OverLimit, NoFrames, Again, Killed}
use Rattle.group_tree.specs.declared.fault.Fault.TheVariants.{BadOrder, NotKept, NotPinned, WriteOnly}
use Rattle.group_tree.specs.Faults.{number_of}

-- the sentence of a refusal
abbrev pub sentence_of : Fault → List ℕ
sentence_of NoParent = codes "the parent group is not there"
sentence_of Exists = codes "the group is there already"
sentence_of BadName = codes "the path is malformed or that of the root"
sentence_of TreeFull = codes "there is no room for one more group"
sentence_of TooDeep = codes "the path has more than 8 names"
sentence_of NoGroup = codes "the group is not there"
sentence_of HasChildren = codes "the group has children"
sentence_of Busy = codes "the group still has pages"
sentence_of PinsFull = codes "the CPU holds too many references"
sentence_of NoFile = codes "the group has no such file"
sentence_of ReadOnly = codes "the file cannot be written"
sentence_of BadLimit = codes "the text is no limit"
sentence_of BadNumber = codes "the limit is too great a number"
sentence_of BadConfig = codes "the configuration is out of range"
sentence_of (OverLimit group) = codes "the charge goes over the limit of a group"
sentence_of NoFrames = codes "the zone has no free block that is great enough"
sentence_of Again = codes "fewer pages were given back than asked"
sentence_of Killed = codes "the group was killed"
sentence_of BadOrder = codes "the order is above 10"
sentence_of NotKept = codes "the frame is not the head of a kept unit"
sentence_of NotPinned = codes "the CPU holds no reference on the frame"
sentence_of WriteOnly = codes "the file cannot be read"

-- what the files take, if a text is no value of one
abbrev pub values_of : Fault → List ℕ
values_of BadLimit =
    codes "; memory.max, memory.high, memory.low, memory.min and memory.reclaim take whole bytes, with K M G T P E, "
    ++ codes "all but the last also max; memory.oom.group takes 0 or 1"
values_of fault = codes ""

-- where the frame is that the refused command names, if it is lent to a CPU; nothing if it isn't
unfoldable pub lent_text : (lent : Option ℕ) → List ℕ
lent_text None = []
lent_text (Some cpu) = codes "; it is on CPU " ++ decimal cpu ++ codes "'s list, or fresh there until CPU "
    ++ decimal cpu ++ codes " settles"

-- the line of a refusal: its number, its sentence, what the files take, and where a lent frame is
abbrev pub refused_text : Fault → (lent : Option ℕ) → List ℕ
refused_text fault lent =
    codes "# refused " ++ decimal (number_of fault) ++ codes ": " ++ sentence_of fault ++ values_of fault ++ lent_text lent ++ codes "\n"
