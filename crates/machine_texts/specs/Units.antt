-- The text of the kept units of a group.
use Rattle.std.specs.Prelude.{◌≡◌, ℕ, ◌+◌, ◌<◌, ◌==◌, Bool, List, [], ◌∷◌, ◌++◌, codes, map, if◌then◌else◌}
use Rattle.std.specs.Option.{option_map_or}
use Rattle.std.specs.Fmt.{decimal}
use Rattle.step_rules.specs.State.{most_references}
use Rattle.boot_words.specs.{LoadsReferences, own_past, zone_of_boot, KnownTable}
use Rattle.lru_lists.specs.declared.record.Entry.{Entry}
use Rattle.lru_lists.specs.declared.record.LruList.{LruList}
use Rattle.lru_lists.specs.declared.record.LruList.TheVariants.{Inactive, Active}
use Rattle.mem_machine.specs.{frame_state_at, headed_unit, KnownMachine, ListedUnit, entries_in, listed, units_in}

-- the list that a unit is on
abbrev pub list_text : LruList → List ℕ
list_text Inactive = codes " inactive"
list_text Active = codes " active"

-- the word, if it is so
abbrev pub text_if : Bool → List ℕ → List ℕ
text_if is_so text = if is_so then text else []

-- how many pins a unit has; nothing if it has none
abbrev pub pins_text : ℕ → List ℕ
pins_text pins = if pins == 0 then [] else codes " pins " ++ decimal pins

-- the order of the unit that the frame heads
abbrev pub order_at : KnownMachine → ℕ → ℕ
order_at machine head = option_map_or (λ unit. unit.order) (headed_unit (frame_state_at machine.frame_states head)) 0

-- whether the unit is dirty, whether it is marked, its pins, and the end of the line
abbrev pub rest_text : Entry → (pins : ℕ) → List ℕ
rest_text entry pins =
    text_if entry.is_dirty (codes " dirty")
    ++ (text_if entry.is_marked (codes " marked") ++ (pins_text pins ++ codes "\n"))

-- the line of a unit of this order with this many pins: its first frame, its order, its list, and the rest
abbrev pub unit_text : (order : ℕ) → ListedUnit → (pins : ℕ) → List ℕ
unit_text order unit pins =
    decimal unit.entry.number ++ codes " " ++ decimal order ++ (list_text unit.list ++ rest_text unit.entry pins)

-- a line for each of these units, with these numbers of pins
abbrev pub lines_text : KnownMachine → List ListedUnit → List ℕ → List ℕ
lines_text machine [] pins = []
lines_text machine (unit ∷ units) [] = []
lines_text machine (unit ∷ units) (found ∷ pins) =
    unit_text (order_at machine unit.entry.number) unit found ++ lines_text machine units pins

-- what is written for `units` of a group with these kept units and pins: a line for each, or `none`
abbrev pub units_text : KnownMachine → List ListedUnit → List ℕ → List ℕ
units_text machine [] pins = codes "none\n"
units_text machine (unit ∷ units) pins = lines_text machine (unit ∷ units) pins

-- each of these units had this number of pins at a load of its word
abbrev pub ArePinsOf : KnownTable → KnownMachine → List ListedUnit → List ℕ → Type 0
ArePinsOf table machine [] [] = Unit {0}
ArePinsOf table machine (unit ∷ units) (found ∷ pins) = (found < most_references)
    × LoadsReferences (zone_of_boot table) (own_past machine.run.past) unit.entry.number (found + 1)
    × ArePinsOf table machine units pins
ArePinsOf table machine units pins = ⊥

-- The word of each kept unit of the group was loaded once, in order. `tells` holds of the text of these units, with the
-- numbers of pins that the loads found. Nothing changed.
pub record ReadsUnits (table : KnownTable) (group : ℕ) (tells : List ℕ → Type 0) (before after : KnownMachine) : Type 0 where
  pub pins : List ℕ
  pub looks : ArePinsOf table before (units_in before group) pins
  pub told : tells (units_text before (units_in before group) pins)
  pub same : after ≡ before

-- The same of one of the group's lists alone.
pub record ReadsLines (table : KnownTable) (group : ℕ) (list : LruList) (tells : List ℕ → Type 0)
    (before after : KnownMachine) : Type 0 where
  pub pins : List ℕ
  pub looks : ArePinsOf table before (map (listed list) (entries_in before group list)) pins
  pub told : tells (lines_text before (map (listed list) (entries_in before group list)) pins)
  pub same : after ≡ before
