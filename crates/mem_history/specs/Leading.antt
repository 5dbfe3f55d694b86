-- Which step a call without the lock is, if it changes a list or a reference.
use Rattle.std.specs.Prelude.{◌≡◌, ℕ, Some, List, slice_get}
use Rattle.frame_word.specs.declared.answers.Get.TheVariants as get
use Rattle.frame_word.specs.declared.answers.Put.{Put as Putted}
use Rattle.frame_word.specs.declared.answers.Put.TheVariants as put
use Rattle.stock_word.specs.declared.stock.Stock.{Stock}
use Rattle.boot_words.specs.{zone_of_boot, KnownTable}
use Rattle.cpu_part.specs.declared.answers.Fast.TheVariants.{Got}
use Rattle.cpu_part.specs.declared.answers.Dropped.TheVariants.{Listed}
use Rattle.cpu_part.specs.{KnownCpuLists, FastAnswers, DropAnswers, PinAnswers, UnpinAnswers}
use Rattle.step_rules.specs.declared.step.Action.TheVariants.{Get, Put, Consume, Credit}
use Rattle.step_rules.specs.declared.step.Answer.{Answer}
use Rattle.step_rules.specs.declared.step.Answer.TheVariants.{Held, Left, Last, Took, Stocked}
use Rattle.step_rules.specs.After.{Run, state_of}
use Rattle.mem_machine.specs.{KnownMachine}
use Rattle.mem_history.specs.Whole.{ShowsAll, IsOwnStep}

-- the answer of the step Put, for what the part's put answered
abbrev pub put_answer : Putted → Answer
put_answer (put.Left left) = Left left
put_answer put.Last = Last

-- the run shows the whole, and this is its part at this index
pub record IsPart (table : KnownTable) (run : Run) (machine : KnownMachine) (cpus : List KnownCpuLists) (index : ℕ)
    (cpu : KnownCpuLists) : Type 0 where
  pub shows : ShowsAll table run machine cpus
  pub is_part : slice_get cpus index ≡ Some cpu

-- If a run shows the whole, a fast call of a CPU makes its part what one step after the run makes it. A get answered
-- Held is a Get, and a put is a Put. A fast allocation that gets a frame is a Consume, and a drop that lists a fresh frame
-- again is a Credit.
pub record FastCallsLead : Type 0 where
  pub held : (table : KnownTable) (run : Run) (machine : KnownMachine) (cpus : List KnownCpuLists) (index : ℕ)
      (cpu later : KnownCpuLists) → IsPart table run machine cpus index cpu → (frame : ℕ)
      → PinAnswers frame get.Held cpu later → IsOwnStep (state_of (zone_of_boot table) run) cpu (Get frame) Held later
  pub is_put : (table : KnownTable) (run : Run) (machine : KnownMachine) (cpus : List KnownCpuLists) (index : ℕ)
      (cpu later : KnownCpuLists) → IsPart table run machine cpus index cpu → (frame : ℕ)
      (answer : Putted) → UnpinAnswers frame answer cpu later
      → IsOwnStep (state_of (zone_of_boot table) run) cpu (Put frame) (put_answer answer) later
  pub got : (table : KnownTable) (run : Run) (machine : KnownMachine) (cpus : List KnownCpuLists) (index : ℕ)
      (cpu later : KnownCpuLists) → IsPart table run machine cpus index cpu → (group frame : ℕ) (last saw : Stock)
      → FastAnswers group (Got frame) last cpu saw later
      → IsOwnStep (state_of (zone_of_boot table) run) cpu (Consume group) Took later
  pub listed : (table : KnownTable) (run : Run) (machine : KnownMachine) (cpus : List KnownCpuLists) (index : ℕ)
      (cpu later : KnownCpuLists) → IsPart table run machine cpus index cpu → (frame : ℕ) (last saw : Stock)
      → DropAnswers frame Listed last cpu saw later
      → IsOwnStep (state_of (zone_of_boot table) run) cpu (Credit frame) Stocked later
