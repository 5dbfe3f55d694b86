-- The texts that a settled CPU gets of the zone.
use Rattle.std.specs.Prelude.{◌≡◌, ℕ, List, None}
use Rattle.group_tree.specs.Groups.{number_at}
use Rattle.boot_words.specs.Tables.{KnownTable}
use Rattle.machine_texts.specs.{blocks_text, show_text, stock_line_text}
use Rattle.mem_machine.specs.Machines.{KnownMachine}
use Rattle.mem_system.specs.{IsSound, KnownLocked, LockedState, SettlesCaller, UnitsAt, locked_state}
use Rattle.zone_threads.specs.Homes.{KnownHome, ServesBehind, UnderLock}
use Rattle.zone_threads.specs.declared.texts.TextAnswer.{TextAnswer}
use Rattle.zone_threads.specs.declared.texts.TextAnswer.TheVariants as answer
use Rattle.zone_threads.specs.declared.texts.TextCall.{TextCall}
use Rattle.zone_threads.specs.declared.texts.TextCall.TheVariants as call

-- the text is this, and the machine stays
pub record ShowsExactly (shown text : List ℕ) (before after : KnownMachine) : Type 0 where
  pub text_is : text ≡ shown
  pub stays : after ≡ before

-- What is said of a text of the units of the group of this path, of the settled state and of the machine that the looks
-- at words left.
abbrev pub SaysUnits : KnownTable → (path : List ℕ) → TextAnswer → LockedState → KnownMachine → Type 0
SaysUnits table path (answer.Text text) settled machine =
    UnitsAt table (number_at settled.locked.machine.ledger.groups path) ⊥ (λ shown. text.items ≡ shown)
    settled.locked.machine machine
SaysUnits table path answer.NoGroup settled machine =
    (number_at settled.locked.machine.ledger.groups path ≡ None) × (machine ≡ settled.locked.machine)
SaysUnits table path answer.NoMemory settled machine = Unit {0}

-- The same of each text. If memory ran out, the CPU is settled all the same.
abbrev pub SaysText : KnownTable → TextCall → TextAnswer → LockedState → KnownMachine → Type 0
SaysText table call.Show (answer.Text text) settled machine =
    ShowsExactly (show_text machine) text.items settled.locked.machine machine
SaysText table call.Blocks (answer.Text text) settled machine =
    ShowsExactly (blocks_text machine.blocks) text.items settled.locked.machine machine
SaysText table call.Stock (answer.Text text) settled machine =
    ShowsExactly (stock_line_text table settled.locked.machine settled.cpu.part) text.items settled.locked.machine machine
SaysText table (call.Units path) answer settled machine = SaysUnits table path.items answer settled machine
SaysText table asked answer.NoMemory settled machine = Unit {0}
SaysText table asked other settled machine = ⊥

-- The CPU was settled, which left a sound value behind the lock. `Says` holds of the settled state and of the machine that was
-- left, since the text of units looks at words.
pub record SettlesAndSays (table : KnownTable) (Says : LockedState → KnownMachine → Type 0) (before after : LockedState)
    : Type 0 where
  pub settled : KnownLocked
  pub settles : SettlesCaller table before (locked_state settled after.cpu)
  pub sound : IsSound table settled
  pub says : Says (locked_state settled after.cpu) after.locked.machine

-- what is done for a text
abbrev pub ReadsText : KnownTable → TextCall → TextAnswer → (from to : KnownHome) → Type 0
ReadsText frames asked answer = UnderLock (ServesBehind frames (SettlesAndSays frames (SaysText frames asked answer)))
