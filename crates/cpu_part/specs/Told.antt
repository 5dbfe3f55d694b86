-- Which steps of the run a fast call has made, by its answer.
use Rattle.std.specs.Prelude.{ℕ, [], ◌∷◌, Result, Ok, Err, if◌then◌else◌}
use Rattle.frame_word.specs.declared.answers.Get.{Get}
use Rattle.frame_word.specs.declared.answers.Get.TheVariants.{Raced}
use Rattle.frame_word.specs.declared.answers.Put.{Put}
use Rattle.group_tree.specs.declared.fault.Fault.{Fault}
use Rattle.stock_word.specs.declared.stock.Stock.{Stock}
use Rattle.stock_word.specs.Stock.{is_held}
use Rattle.step_rules.specs.declared.step.Action.{Action}
use Rattle.step_rules.specs.declared.step.Action.TheVariants as does
use Rattle.step_rules.specs.declared.step.Answer.{Answer}
use Rattle.step_rules.specs.declared.step.Answer.TheVariants.{Took, Stocked}
use Rattle.step_rules.specs.declared.step.Answer.TheVariants as said
use Rattle.step_rules.specs.After.{Run, cpu_makes}
use Rattle.boot_words.specs.Pasts.{get_said, put_said}
use Rattle.cpu_part.specs.declared.answers.Fast.{Fast}
use Rattle.cpu_part.specs.declared.answers.Fast.TheVariants.{Got, Drained}
use Rattle.cpu_part.specs.declared.answers.Dropped.{Dropped}
use Rattle.cpu_part.specs.declared.answers.Dropped.TheVariants.{Listed, NeedVisit}

-- An alloc_fast for the group, by a CPU that saw its stock so last. A drained stock is a step of the call that finds it
-- so: a later call makes none.
abbrev pub steps_of_fast : (cpu group : ℕ) → Fast → (last : Stock) → Run
steps_of_fast cpu g (Got f) last = cpu_makes cpu (does.Consume g) Took ∷ []
steps_of_fast cpu g Drained last = if is_held last then cpu_makes cpu (does.Consume g) said.Drained ∷ [] else []
steps_of_fast cpu g other last = []

-- a drop_fresh of the frame, by a CPU that saw its stock so last
abbrev pub steps_of_drop : (cpu frame : ℕ) → Dropped → (last : Stock) → Run
steps_of_drop cpu f Listed last = cpu_makes cpu (does.Credit f) Stocked ∷ []
steps_of_drop cpu f NeedVisit last = if is_held last then cpu_makes cpu (does.Credit f) said.Drained ∷ [] else []

-- a get of the frame: a race is no step, nor is a refusal for too many pins
abbrev pub steps_of_get : (cpu frame : ℕ) → Result Get Fault → Run
steps_of_get cpu f (Ok (Raced n)) = []
steps_of_get cpu f (Ok answer) = cpu_makes cpu (does.Get f) (get_said answer) ∷ []
steps_of_get cpu f (Err fault) = []

-- a put of the frame
abbrev pub steps_of_put : (cpu frame : ℕ) → Put → Run
steps_of_put cpu f answer = cpu_makes cpu (does.Put f) (put_said answer) ∷ []
