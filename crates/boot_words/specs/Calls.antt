-- How a CPU's past grows by a call that takes no lock.
use Rattle.std.specs.Prelude.{◌≡◌, ◌≢◌, ℕ, ◌<◌, ◌≤◌}
use Rattle.frame_word.specs.declared.answers.Get.{Get}
use Rattle.frame_word.specs.declared.answers.Get.TheVariants as gets
use Rattle.step_rules.specs.declared.step.Action.{Action}
use Rattle.step_rules.specs.declared.step.Action.TheVariants as step
use Rattle.step_rules.specs.declared.step.Answer.{Answer}
use Rattle.step_rules.specs.declared.step.Answer.TheVariants.{Full, Held, Zero}
use Rattle.step_rules.specs.{Zone, Run, state_of, IsLegalRun, most_references}
use Rattle.boot_words.specs.Runs.{GrewBy, OthersFollow}
use Rattle.boot_words.specs.Words.{frame_word}
use Rattle.boot_words.specs.declared.past.Past.{Past}
use Rattle.boot_words.specs.Pasts.{KnownPasts, own_past, IsCpuPast}
use Rattle.boot_words.specs.Seats.{zone_of_boot}
use Rattle.boot_words.specs.Tables.{KnownTable}

-- a call by the CPU's seat was this step, with this answer
pub record CpuMakes (t : KnownTable) (s : KnownPasts) (action : Action) (answer : Answer) (s' : KnownPasts)
    : Type 0 where
  pub is_past : IsCpuPast t s'
  pub grew : GrewBy (own_past s) (record { seat = (own_past s).number; action = action }) answer (own_past s')

-- A get raced. Its load found 1 to 254 references, and its exchange found another word. Each is the frame's word after a
-- beginning of a legal run; between the two this CPU made no step.
pub record RacesAt (zone : Zone) (p : Past) (f found : ℕ) : Type 0 where
  pub loaded : Run
  pub exchanged : Run
  pub before : OthersFollow p.number p.seen loaded
  pub meanwhile : OthersFollow p.number loaded exchanged
  pub legal : IsLegalRun zone exchanged
  pub some : 1 ≤ frame_word (state_of zone loaded) f
  pub room : frame_word (state_of zone loaded) f < most_references
  pub found_is : frame_word (state_of zone exchanged) f ≡ found
  pub other : found ≢ frame_word (state_of zone loaded) f

-- a get ends in a step with its answer, or in a race, which is no step
abbrev pub GetsReference : KnownTable → KnownPasts → ℕ → Get → KnownPasts → Type 0
GetsReference t s f gets.Held s' = CpuMakes t s (step.Get f) Held s'
GetsReference t s f gets.Zero s' = CpuMakes t s (step.Get f) Zero s'
GetsReference t s f gets.Full s' = CpuMakes t s (step.Get f) Full s'
GetsReference t s f (gets.Raced n) s' = (s' ≡ s) × RacesAt (zone_of_boot t) (own_past s) f n
