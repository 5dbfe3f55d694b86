-- What a load shows of the references that CPUs get and put meanwhile.
use Rattle.std.specs.Prelude.{◌≡◌, ℕ}
use Rattle.step_rules.specs.{Zone, live_references, Run, state_of, IsLegalRun}
use Rattle.boot_words.specs.Runs.{OthersFollow}
use Rattle.boot_words.specs.declared.past.Past.{Past}

-- the frame has this many references after a legal run that begins with the past, after which its seat made no step
pub record LoadsReferences (zone : Zone) (p : Past) (f n : ℕ) : Type 0 where
  pub run : Run
  pub begins : OthersFollow p.number p.seen run
  pub legal : IsLegalRun zone run
  pub counted : live_references (state_of zone run) f ≡ n
