-- The numbers and names of the refusals.
use Rattle.std.specs.Prelude.{ℕ, List, codes}
use Rattle.group_tree.specs.declared.fault.Fault.{Fault}
use Rattle.group_tree.specs.declared.fault.Fault.TheVariants.{NoParent, Exists, BadName, TreeFull, TooDeep, NoGroup, HasChildren, Busy, PinsFull}
use Rattle.group_tree.specs.declared.fault.Fault.TheVariants.{NoFile, ReadOnly, BadLimit, BadNumber, BadConfig, OverLimit, NoFrames, Again, Killed}
use Rattle.group_tree.specs.declared.fault.Fault.TheVariants.{BadOrder, NotKept, NotPinned, WriteOnly}

-- the number of a refusal, 1 to 22
abbrev pub number_of : Fault → ℕ
number_of NoParent = 1
number_of Exists = 2
number_of BadName = 3
number_of TreeFull = 4
number_of TooDeep = 5
number_of NoGroup = 6
number_of HasChildren = 7
number_of Busy = 8
number_of PinsFull = 9
number_of NoFile = 10
number_of ReadOnly = 11
number_of BadLimit = 12
number_of BadNumber = 13
number_of BadConfig = 14
number_of (OverLimit group) = 15
number_of NoFrames = 16
number_of Again = 17
number_of Killed = 18
number_of BadOrder = 19
number_of NotKept = 20
number_of NotPinned = 21
number_of WriteOnly = 22

-- the bytes of a refusal's name
abbrev pub name_of : Fault → List ℕ
name_of NoParent = codes "NoParent"
name_of Exists = codes "Exists"
name_of BadName = codes "BadName"
name_of TreeFull = codes "TreeFull"
name_of TooDeep = codes "TooDeep"
name_of NoGroup = codes "NoGroup"
name_of HasChildren = codes "HasChildren"
name_of Busy = codes "Busy"
name_of PinsFull = codes "PinsFull"
name_of NoFile = codes "NoFile"
name_of ReadOnly = codes "ReadOnly"
name_of BadLimit = codes "BadLimit"
name_of BadNumber = codes "BadNumber"
name_of BadConfig = codes "BadConfig"
name_of (OverLimit group) = codes "OverLimit"
name_of NoFrames = codes "NoFrames"
name_of Again = codes "Again"
name_of Killed = codes "Killed"
name_of BadOrder = codes "BadOrder"
name_of NotKept = codes "NotKept"
name_of NotPinned = codes "NotPinned"
name_of WriteOnly = codes "WriteOnly"
