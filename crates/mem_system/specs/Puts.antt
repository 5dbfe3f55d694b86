-- The pins that a CPU puts one after the other, without the lock, and their steps.
use Rattle.std.specs.Prelude.{◌≡◌, ℕ, List, [], ◌∷◌, ◌++◌, map, IsPermutation}
use Rattle.frame_word.specs.declared.answers.Put.{Put}
use Rattle.step_rules.specs.After.{Run}
use Rattle.boot_words.specs.{GrewByAll, own_past}
use Rattle.cpu_part.specs.Told.{steps_of_put}
use Rattle.mem_system.specs.Cpus.{CpuInRun}

-- a pin of this frame was put, with this answer
pub record MadePut : Type 0 where
  pub frame : ℕ
  pub answer : Put

-- the frames of these puts
abbrev pub frames_put : List MadePut → List ℕ
frames_put puts = map (λ put. put.frame) puts

-- the steps of these puts by the CPU
abbrev pub unpin_steps : (cpu : ℕ) → List MadePut → Run
unpin_steps cpu [] = []
unpin_steps cpu (put ∷ puts) = steps_of_put cpu put.frame put.answer ++ unpin_steps cpu puts

-- The CPU put some of its pins, and its past grew by these steps.
pub record PutsPins (from to : CpuInRun) : Type 0 where
  pub puts : List MadePut
  pub number : to.part.number ≡ from.part.number
  pub pins : IsPermutation from.part.pins (frames_put puts ++ to.part.pins)
  pub run : GrewByAll (own_past from.past) (unpin_steps from.part.number puts) (own_past to.past)

-- each CPU put some of its pins
abbrev pub EachPuts : (before after : List CpuInRun) → Type 0
EachPuts [] [] = Unit {0}
EachPuts (from ∷ before) (to ∷ after) = PutsPins from to × EachPuts before after
EachPuts before after = ⊥
