-- Actions made one after the other while pages are still wanted.
use Rattle.std.specs.Prelude.{◌≡◌, ℕ, ◌+◌, ◌-◌, ◌≤◌, ◌⊎◌, List, [], ◌∷◌, ◌++◌}
use Rattle.step_rules.specs.After.{Run}
use Rattle.group_charge.specs.declared.note.Note.{Note}
use Rattle.mem_machine.specs.Machines.{KnownMachine, with_note}

-- What a reclaim or a part of it did: how many pages it freed, the machine before, the steps, and the machine after.
pub record Progress : Type 0 where
  pub freed : ℕ
  pub before : KnownMachine
  pub steps : Run
  pub after : KnownMachine

-- the progress with these parts
abbrev pub progress : ℕ → KnownMachine → Run → KnownMachine → Progress
progress freed before steps after = record { freed = freed; before = before; steps = steps; after = after }

-- a statement about the progress of a reclaim
abbrev pub Reclaiming : Type 1
Reclaiming = Progress → Type 0

-- no page was freed, no step was made, and nothing changed
pub record FreesNothing (done : Progress) : Type 0 where
  pub no_page : done.freed ≡ 0
  pub machine : done.after ≡ done.before
  pub no_step : done.steps ≡ []

-- first the note is made, and then `Does` holds
abbrev pub AfterNote : Note → Reclaiming → Reclaiming
AfterNote note Does done = Does (progress done.freed (with_note done.before note) done.steps done.after)

-- The first part frees `some` pages. The second part, which may depend on `some`, frees `more`.
pub record BothFree (First : Reclaiming) (Second : ℕ → Reclaiming) (done : Progress) : Type 0 where
  pub between : KnownMachine
  pub earlier : Run
  pub later : Run
  pub some : ℕ
  pub more : ℕ
  pub first : First (progress some done.before earlier between)
  pub second : Second some (progress more between later done.after)
  pub freed_is : done.freed ≡ some + more
  pub steps_are : done.steps ≡ earlier ++ later

-- `does thing want` says what is done with one thing while `want` pages are wanted. It is done with each of these
-- things in turn, as long as pages are still wanted. The remaining things are left alone.
abbrev pub WhileWanted : {A : Type 0} → (A → ℕ → Reclaiming) → List A → ℕ → Reclaiming
WhileWanted does [] want done = FreesNothing done
WhileWanted does (thing ∷ others) want done =
    ((want ≡ 0) × FreesNothing done)
    ⊎ ((1 ≤ want) × BothFree (does thing want) (λ some. WhileWanted does others (want - some)) done)
