-- The sentences of the reasons.
use Rattle.std.specs.Prelude.{ℕ, List, [], ◌++◌, Option, None, Some, Bool, true, false, codes}
use Rattle.std.specs.Fmt.{decimal}
use Rattle.group_tree.specs.declared.fault.Fault.{Fault}
use Rattle.group_tree.specs.Faults.{name_of, number_of}
use Rattle.step_rules.specs.declared.phase.Hold.{Hold}
use Rattle.step_rules.specs.declared.phase.Hold.TheVariants.{Unheld, HeldBy, Visiting}
use Rattle.step_rules.specs.declared.phase.Way.TheVariants.{PassingOut, OnList, PassingBack}
use Rattle.step_rules.specs.declared.phase.Stage.{Stage}
use Rattle.step_rules.specs.declared.phase.Stage.TheVariants.{FreshAt, FreshPassing, Collected, Bare, Live, BackAt, BackPassing, AwaitsReturn}
use Rattle.step_rules.specs.declared.phase.Phase.{Phase}
use Rattle.step_rules.specs.declared.phase.Phase.TheVariants.{InZone, Lent, Head, Tail}
use Rattle.mem_core.specs.declared.quantity.Quantity.{Quantity}
use Rattle.mem_core.specs.declared.quantity.Quantity.TheVariants.{Own, References, Pins, Listed, Fresh, Unreported, Reported, InStock, Pending, Usage}
use Rattle.log_check.specs.declared.reason.Reason.{Reason}
use Rattle.log_check.specs.declared.reason.Reason.TheVariants as why

-- a number between two texts
abbrev pub said : List ℕ → ℕ → List ℕ → List ℕ
said before n after = before ++ (decimal n ++ after)

-- two numbers, and texts around them
abbrev pub said_two : List ℕ → ℕ → List ℕ → ℕ → List ℕ → List ℕ
said_two before n between m after = before ++ (decimal n ++ said between m after)

-- who holds the lock
abbrev pub lock_text : Hold → List ℕ
lock_text Unheld = codes "the zone isn't locked"
lock_text (HeldBy cpu) = said (codes "the zone is locked by CPU ") cpu (codes ", and no visit is open")
lock_text (Visiting cpu) = said (codes "the zone is locked by CPU ") cpu (codes ", and its visit is open")

-- what a number counts, up to the number
abbrev pub quantity_text : Quantity → List ℕ
quantity_text (Own seat f) = said_two (codes "the number of references of seat ") seat (codes " on frame ") f (codes " is ")
quantity_text (References f) = said (codes "the number of references on frame ") f (codes " is ")
quantity_text (Pins cpu) = said (codes "the number of references and back frames of CPU ") cpu (codes " is ")
quantity_text (Listed cpu) = said (codes "the number of frames on CPU ") cpu (codes "'s list is ")
quantity_text (Fresh cpu) = said (codes "the number of fresh frames of CPU ") cpu (codes " is ")
quantity_text (Unreported cpu) = said (codes "the number of unreported pages of CPU ") cpu (codes " is ")
quantity_text (Reported cpu) = said (codes "the number of reported pages of CPU ") cpu (codes " is ")
quantity_text (InStock cpu) = said (codes "the number of pages in CPU ") cpu (codes "'s stock is ")
quantity_text (Pending g) = said (codes "the number of pages pending for group ") g (codes " is ")
quantity_text (Usage g) = said (codes "the usage of group ") g (codes " is ")

-- at which stage the unit is that the frame heads
abbrev pub head_text : ℕ → Stage → List ℕ
head_text f (FreshAt cpu) = said_two (codes "the unit at frame ") f (codes " is fresh at CPU ") cpu []
head_text f (FreshPassing cpu) = said_two (codes "the unit at frame ") f (codes " is fresh and in transit from CPU ") cpu []
head_text f Collected = said (codes "the unit at frame ") f (codes " is collected")
head_text f Bare = said (codes "the unit at frame ") f (codes " is bare")
head_text f Live = said (codes "the unit at frame ") f (codes " is in use")
head_text f (BackAt cpu) = said_two (codes "the unit at frame ") f (codes " is back at CPU ") cpu []
head_text f (BackPassing cpu) = said_two (codes "the unit at frame ") f (codes " is back and in transit from CPU ") cpu []
head_text f AwaitsReturn = said (codes "the unit at frame ") f (codes " is ended")

-- what the frame is
abbrev pub phase_text : ℕ → Phase → List ℕ
phase_text f InZone = said (codes "frame ") f (codes " is free")
phase_text f (Lent cpu PassingOut) = said_two (codes "frame ") f (codes " is in transit to CPU ") cpu []
phase_text f (Lent cpu OnList) = said_two (codes "frame ") f (codes " is on CPU ") cpu (codes "'s list")
phase_text f (Lent cpu PassingBack) = said_two (codes "frame ") f (codes " is in transit back from CPU ") cpu []
phase_text f (Head unit stage) = head_text f stage
phase_text f (Tail g) = said_two (codes "frame ") f (codes " is in a unit of group ") g (codes ", behind its head")

-- what the stock is
abbrev pub stock_state_text : ℕ → Option ℕ → Bool → List ℕ
stock_state_text cpu None drained = said (codes "CPU ") cpu (codes "'s stock is of no group")
stock_state_text cpu (Some g) true = said_two (codes "CPU ") cpu (codes "'s stock is of group ") g
    (codes " and was drained")
stock_state_text cpu (Some g) false = said_two (codes "CPU ") cpu (codes "'s stock is of group ") g []

-- whose pages the book has
abbrev pub book_text : ℕ → Option ℕ → List ℕ
book_text cpu None = said (codes "CPU ") cpu (codes "'s book has pages of no group")
book_text cpu (Some g) = said_two (codes "CPU ") cpu (codes "'s book has pages of group ") g []

-- why `mkdir` is refused
abbrev pub mkdir_refusal_text : Fault → List ℕ
mkdir_refusal_text fault = said (codes "mkdir is refused ") (number_of fault) (codes " ") ++ name_of fault

-- that the limit of the group has no room
abbrev pub full_limit_text : List ℕ → List ℕ
full_limit_text path = codes "the limit of " ++ (path ++ codes " has no room: ")

-- how far a limit has no room
abbrev pub sum_text : (usage pages limit : ℕ) → List ℕ
sum_text usage pages limit = decimal usage ++ said_two (codes " + ") pages (codes " > ") limit []

-- that the limit of the group has no room, and how far
abbrev pub room_text : (path : List ℕ) (usage pages limit : ℕ) → List ℕ
room_text path usage pages limit = full_limit_text path ++ sum_text usage pages limit

-- the sentence of a reason
abbrev pub reason_text : Reason → List ℕ
reason_text (why.NoCpu seat) = said (codes "seat ") seat (codes " isn't a CPU's")
reason_text (why.NoZoneSeat seat) = said (codes "seat ") seat (codes " isn't the zone's")
reason_text (why.Lock hold) = lock_text hold
reason_text (why.NoFrame f) = said (codes "frame ") f (codes " isn't the zone's")
reason_text (why.NoGroup g) = said (codes "group ") g (codes " doesn't exist")
reason_text (why.Number what count) = quantity_text what ++ decimal count
reason_text (why.Place f phase) = phase_text f phase
reason_text (why.NotFirst f cpu) = said_two (codes "frame ") f (codes " isn't the first of CPU ") cpu (codes "'s list")
reason_text (why.Unkilled f g) =
    said_two (codes "the unit at frame ") f (codes " is collected, and group ") g (codes " isn't killed")
reason_text why.BadCount = codes "a frame has 1 to 255 references"
reason_text (why.Stock cpu group drained) = stock_state_text cpu group drained
reason_text (why.Book cpu group) = book_text cpu group
reason_text (why.Killed g) = said (codes "group ") g (codes " is killed")
reason_text why.Root = codes "group 0 is the root"
reason_text (why.Child g) = said (codes "a group is below group ") g []
reason_text (why.Refused fault) = mkdir_refusal_text fault
reason_text why.MayBeMade = codes "the step may be made"
reason_text why.OnlyDone = codes "its only answer is done"
reason_text (why.NoRoom path usage pages limit) = room_text path usage pages limit
reason_text (why.Room g pages) =
    said_two (codes "each limit from group ") g (codes " up has room for ") pages (codes " pages")
reason_text (why.FreeBlock b) = said_two (codes "the block of order ") b.order (codes " at frame ") b.at (codes " is free")
reason_text (why.NoFreeBlock order) = said (codes "no block of order ") order (codes " is free")
reason_text (why.NoBlock b) = said_two (codes "no block of order ") b.order (codes " begins at frame ") b.at []
reason_text (why.OtherOrder order) = said (codes "the order is ") order []
reason_text (why.LeastNumber g) = said (codes "the least free group number is ") g []
