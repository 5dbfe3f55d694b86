-- A run that others continue.
use Rattle.std.specs.Prelude.{[], ◌≡◌, ◌≢◌, ℕ, ◌==◌, ◌++◌, Bool, false, ◌∷◌}
use Rattle.step_rules.specs.declared.step.Action.{Action}
use Rattle.step_rules.specs.declared.step.Action.TheVariants.{Get, Put, Consume, Credit, Absorb, Fill}
use Rattle.step_rules.specs.{Run, IsLegalRun, Zone}
use Rattle.step_rules.specs.declared.step.Step.{Step}
use Rattle.step_rules.specs.declared.step.Answer.{Answer}
use Rattle.boot_words.specs.declared.past.Past.{Past}

-- the past of a seat that has noted no step
abbrev pub no_past : ℕ → Past
no_past number = record { number = number; seen = [] }

-- no step of the run is this seat's
abbrev pub HasNoStepOf : ℕ → Run → Type 0
HasNoStepOf seat [] = Unit {0}
HasNoStepOf seat (e ∷ run) = (e.0.seat ≢ seat) × HasNoStepOf seat run

-- the run is `seen` and then steps of other seats
pub record OthersFollow (seat : ℕ) (seen run : Run) : Type 0 where
  pub rest : Run
  pub is : run ≡ seen ++ rest
  pub others : HasNoStepOf seat rest

-- a step that needs no lock
abbrev pub IsFast : Action → Type 0
IsFast (Get f) = Unit {0}
IsFast (Put f) = Unit {0}
IsFast (Consume g) = Unit {0}
IsFast (Credit f) = Unit {0}
IsFast action = ⊥

-- the step fills the CPU's stock or absorbs its reports
abbrev pub books : ℕ → Action → Bool
books cpu (Fill other g n) = other == cpu
books cpu (Absorb other) = other == cpu
books cpu action = false

-- no step of the run fills the CPU's stock or absorbs its reports
abbrev pub BooksNothingOf : ℕ → Run → Type 0
BooksNothingOf cpu [] = Unit {0}
BooksNothingOf cpu (e ∷ run) = (books cpu e.0.action ≡ false) × BooksNothingOf cpu run

-- the past has grown by the step with its answer, after steps of others
pub record GrewBy (before : Past) (step : Step) (answer : Answer) (later : Past) : Type 0 where
  pub between : Run
  pub others : HasNoStepOf before.number between
  pub number : later.number ≡ before.number
  pub seen : later.seen ≡ (before.seen ++ between) ++ (step, answer) ∷ []

-- the later past is of the same seat, and a legal run
pub record IsLegalLater (zone : Zone) (before later : Past) : Type 0 where
  pub number : later.number ≡ before.number
  pub legal : IsLegalRun zone later.seen
