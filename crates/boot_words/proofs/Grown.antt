-- The pasts of a table's seats as the run grows.
use Rattle.std.proofs.Common.{[], ◌∷◌, ◌++◌, subst}
use Rattle.step_rules.specs.declared.step.Step.{Step}
use Rattle.step_rules.specs.declared.step.Answer.{Answer}
use Rattle.step_rules.specs.{Zone, Run, IsLegalRun}
use Rattle.boot_words.specs.{OthersFollow, GrewByAll}
use Rattle.boot_words.specs.declared.past.Past.{Past}

-- the past that has noted the step
abbrev pub grown : Past → Run → Step × Answer → Past
grown p between e = record { number = p.number; seen = (p.seen ++ between) ++ e ∷ [] }

pub grown_legal : (zone : Zone) (run : Run) (p : Past) (e : Step × Answer) (fits : OthersFollow p.number p.seen run) → IsLegalRun zone (run ++ e ∷ [])
    → IsLegalRun zone (grown p fits.rest e).seen
grown_legal zone run p e fits legal = subst (λ r. IsLegalRun zone (r ++ e ∷ [])) fits.is legal

-- ---- several steps

-- a past that has grown by these steps and then by those has grown by all of them
pub all_grew_both : (a : Past) (one : Run) (b : Past) (two : Run) (c : Past) → GrewByAll a one b → GrewByAll b two c → GrewByAll a (one ++ two) c
all_grew_both a [] b two c same second = subst (λ (p : Past). GrewByAll p two c) same second
all_grew_both a (made ∷ one) b two c first second = (first.0, first.1, all_grew_both first.0 one b two c first.2 second)
