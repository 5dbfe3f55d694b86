-- The list of steps of each call, with the answer of each step.
use Rattle.std.specs.Prelude.{ℕ, zero, suc, Bool, Option, Some, None, List, [], ◌∷◌, sum_by}
use Rattle.std.specs.List.{flat_map}
use Rattle.step_rules.specs.declared.step.NoteKey.{NoteKey}
use Rattle.step_rules.specs.declared.step.NoteKey.TheVariants.{Max, Oom}
use Rattle.step_rules.specs.declared.step.Action.TheVariants.{OpenVisit, ShutVisit, PassBack, Collect, Fill, DrainStock, Grant, Ungrant, Consume, Note, Kill}
use Rattle.step_rules.specs.declared.step.Action.TheVariants.{Unfreeze, Publish, NoteGroupKill, SetMax, SetFlag, Make, Remove}
use Rattle.step_rules.specs.declared.step.Answer.TheVariants.{Done, Took, Pages, Granted, Over, Number}
use Rattle.step_rules.specs.After.{Run, cpu_makes, zone_makes}
use Rattle.boot_words.specs.Composed.{lend_run}

-- the CPU's visit begins
abbrev pub open_steps : ℕ → Run
open_steps cpu = zone_makes (OpenVisit cpu) Done ∷ []

-- the CPU's visit ends
abbrev pub shut_steps : ℕ → Run
shut_steps cpu = zone_makes (ShutVisit cpu) Done ∷ []

-- the zone passes the free frame to the CPU, which adds it to the end of its list
abbrev pub lend_steps : ℕ → ℕ → Run
lend_steps cpu frame = lend_run cpu frame

-- these frames are added to the end of the CPU's list, one after the other
abbrev pub refill_steps : ℕ → List ℕ → Run
refill_steps cpu frames = flat_map (lend_steps cpu) frames

-- the CPU passes the frame back, and the zone collects it
abbrev pub unlist_steps : ℕ → ℕ → Run
unlist_steps cpu frame =
    cpu_makes cpu (PassBack frame) Done ∷ zone_makes (Collect frame cpu) Done ∷ []

-- these frames are returned to the free areas, one after the other
abbrev pub drain_list_steps : ℕ → List ℕ → Run
drain_list_steps cpu frames = flat_map (unlist_steps cpu) frames

-- the unit that the frame heads gets the zone's reference, and is published
abbrev pub publish_steps : ℕ → Run
publish_steps head = zone_makes (Unfreeze head 1) Done ∷ zone_makes (Publish head) Done ∷ []

-- this many pages leave the group's charge; if there are none, or there is no group, there is no step
abbrev pub ungrant_steps : Option ℕ → ℕ → Run
ungrant_steps None pages = []
ungrant_steps (Some group) zero = []
ungrant_steps (Some group) (suc more) = zone_makes (Ungrant group (suc more)) Done ∷ []

-- the stock of the CPU, which is of this group, is drained of this many pages, and they leave the group's charge
abbrev pub drain_steps : ℕ → Option ℕ → ℕ → Run
drain_steps cpu group pages = zone_makes (DrainStock cpu) (Pages pages) ∷ ungrant_steps group pages

-- a drain: whose stock it was, the stock's group, and how many pages were in it
pub record Drain : Type 0 where
  pub cpu : ℕ
  pub group : Option ℕ
  pub pages : ℕ

-- how many pages these drains took
abbrev pub pages_drained : List Drain → ℕ
pages_drained drains = sum_by (λ drain. drain.pages) drains

-- the steps of these drains, in this order
abbrev pub drain_stocks_steps : List Drain → Run
drain_stocks_steps drains = flat_map (λ drain. drain_steps drain.cpu drain.group drain.pages) drains

-- this many pages are granted to the group and fill the CPU's stock
abbrev pub fill_steps : ℕ → ℕ → ℕ → Run
fill_steps cpu group pages =
    zone_makes (Grant group pages) Granted ∷ zone_makes (Fill cpu group pages) Done ∷ []

-- the grant of this many pages is refused, because group `over` has no room for them
abbrev pub over_steps : ℕ → ℕ → ℕ → Run
over_steps group pages over = zone_makes (Grant group pages) (Over over) ∷ []

-- the front of the CPU's list becomes fresh, paid for with a page of its stock, which is of the group
abbrev pub take_front_steps : ℕ → ℕ → Run
take_front_steps cpu group = cpu_makes cpu (Consume group) Took ∷ []

-- an event of this kind is noted at the group
abbrev pub note_steps : NoteKey → ℕ → Run
note_steps key group = zone_makes (Note key group) Done ∷ []

-- an event: the group's usage was about to exceed its limit
abbrev pub note_max_steps : ℕ → Run
note_max_steps group = note_steps Max group

-- an event: only kills are left to keep the group within its limit
abbrev pub note_oom_steps : ℕ → Run
note_oom_steps group = note_steps Oom group

-- the group is killed, which is an event of the group
abbrev pub kill_steps : ℕ → Run
kill_steps group = zone_makes (Kill group) Done ∷ []

-- an event: the group was killed as a whole
abbrev pub note_group_kill_steps : ℕ → Run
note_group_kill_steps group = zone_makes (NoteGroupKill group) Done ∷ []

-- a group of this path is made, and gets this number
abbrev pub make_steps : List ℕ → ℕ → Run
make_steps path number = zone_makes (Make path) (Number number) ∷ []

-- the group is removed
abbrev pub remove_steps : ℕ → Run
remove_steps group = zone_makes (Remove group) Done ∷ []

-- the group gets this limit
abbrev pub set_max_steps : ℕ → Option ℕ → Run
set_max_steps group limit = zone_makes (SetMax group limit) Done ∷ []

-- the group's flag says whether it is to be killed as a whole
abbrev pub set_oom_group_steps : ℕ → Bool → Run
set_oom_group_steps group flag = zone_makes (SetFlag group flag) Done ∷ []
