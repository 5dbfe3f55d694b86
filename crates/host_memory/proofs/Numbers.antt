-- The number of a refusal is at most 22.
use Rattle.std.proofs.Common.{◌≤◌, arith}
use Rattle.group_tree.specs.declared.fault.Fault.{Fault}
use Rattle.group_tree.specs.declared.fault.Fault.TheVariants.{NoParent, Exists, BadName, TreeFull, TooDeep, NoGroup, HasChildren, Busy, PinsFull, NoFile, ReadOnly}
use Rattle.group_tree.specs.declared.fault.Fault.TheVariants.{BadLimit, BadNumber, BadConfig, OverLimit, NoFrames, Again, Killed, BadOrder, NotKept, NotPinned, WriteOnly}
use Rattle.group_tree.specs.Faults.{number_of}

-- the number of a refusal
pub number_low : (fault : Fault) → number_of fault ≤ 22
number_low NoParent = omega arith
number_low Exists = omega arith
number_low BadName = omega arith
number_low TreeFull = omega arith
number_low TooDeep = omega arith
number_low NoGroup = omega arith
number_low HasChildren = omega arith
number_low Busy = omega arith
number_low PinsFull = omega arith
number_low NoFile = omega arith
number_low ReadOnly = omega arith
number_low BadLimit = omega arith
number_low BadNumber = omega arith
number_low BadConfig = omega arith
number_low (OverLimit group) = omega arith
number_low NoFrames = omega arith
number_low Again = omega arith
number_low Killed = omega arith
number_low BadOrder = omega arith
number_low NotKept = omega arith
number_low NotPinned = omega arith
number_low WriteOnly = omega arith
