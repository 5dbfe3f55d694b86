-- What a session writes.
use Rattle.std.specs.Prelude.{◌≡◌, ℕ, ◌+◌, Bool, true, false, List, [], ◌∷◌, Option, IfSome, length}
use Rattle.std.specs.Io.KnownBytes.{Appends}
use Rattle.std.specs.List.{flat_map}
use Rattle.zone_blocks.specs.declared.config.Config.{Config}
use Rattle.script_replay.specs.Lines.{SystemState}
use Rattle.line_server.specs.Writing.{AppendsBeginning}
use Rattle.line_server.specs.declared.fault.ServeFault.{ServeFault}
use Rattle.line_server.specs.declared.fault.ServeFault.TheVariants.{Input, Output, NoMemory}
use Rattle.line_server.specs.Forms.{SessionTerms}
use Rattle.line_server.specs.Lines.{EndsAt, ReadsLine}
use Rattle.line_server.specs.Turns.{AnswersTurn, ServesAtMost, Turn, turn_text}

-- the lines of these turns were read, one after the other
abbrev pub ReadsTurns : List Turn → (before after : Option (List ℕ)) → Type 0
ReadsTurns [] before after = after ≡ before
ReadsTurns (turn ∷ turns) before after =
    (between : Option (List ℕ)) × ReadsLine turn.text before between × ReadsTurns turns between after

-- these turns were answered, one after the other; the first one has this number
abbrev pub AnswersTurns : SessionTerms → Config → (number : ℕ) → List Turn → (before after : SystemState) → Type 0
AnswersTurns on sizes number [] before after = after ≡ before
AnswersTurns on sizes number (turn ∷ turns) before after =
    (between : SystemState) × AnswersTurn on sizes number turn before between
    × AnswersTurns on sizes (number + 1) turns between after

-- what is written for these turns
abbrev pub session_text : List Turn → List ℕ
session_text turns = flat_map turn_text turns

-- Turns of a session: their lines were read one after the other, each was answered, and the output got their answers,
-- each with an empty line after it.
pub record HoldsSession (on : SessionTerms) (sizes : Config) (turns : List Turn) (input left : Option (List ℕ))
    (before after : SystemState) (output now : Option (List ℕ)) : Type 0 where
  pub reads : ReadsTurns turns input left
  pub answers : AnswersTurns on sizes 1 turns before after
  pub written : Appends output now (session_text turns)

-- a session up to its end
pub record ServesSession (on : SessionTerms) (sizes : Config) (input : Option (List ℕ)) (before after : SystemState)
    (output now : Option (List ℕ)) : Type 0 where
  pub turns : List Turn
  pub left : Option (List ℕ)
  pub holds : HoldsSession on sizes turns input left before after output now
  pub ends : IfSome left EndsAt

-- one turn, which was written
pub record WritesOne (on : SessionTerms) (sizes : Config) (number : ℕ) (input left : Option (List ℕ))
    (before after : SystemState) (output now : Option (List ℕ)) : Type 0 where
  pub turn : Turn
  pub reads : ReadsLine turn.text input left
  pub answers : AnswersTurn on sizes number turn before after
  pub written : Appends output now (turn_text turn)

-- the session ended, and nothing was done
pub record EndsHere (input : Option (List ℕ)) (before after : SystemState) (output now : Option (List ℕ)) : Type 0 where
  pub ends : IfSome input EndsAt
  pub stays : after ≡ before
  pub silent : now ≡ output

-- the next line, which has this number, was answered, and the session goes on; or it ended
abbrev pub EndsTurn : SessionTerms → Config → (number : ℕ) → (input left : Option (List ℕ))
    → (before after : SystemState) → (output now : Option (List ℕ)) → Bool → Type 0
EndsTurn on sizes number input left before after output now true =
    WritesOne on sizes number input left before after output now
EndsTurn on sizes number input left before after output now false = EndsHere input before after output now

-- a line was answered, and the output got a beginning of that
pub record BeginsTurn (on : SessionTerms) (sizes : Config) (number : ℕ) (before after : SystemState)
    (output now : Option (List ℕ)) : Type 0 where
  pub turn : Turn
  pub answers : AnswersTurn on sizes number turn before after
  pub begun : AppendsBeginning output now (turn_text turn)

-- What a fault at the line of this number leaves. If the input failed, nothing was done. If memory ran out, a line may
-- have been served, and nothing was written for it. If the output failed, it got a beginning of the answer.
abbrev pub FailsTurn : SessionTerms → Config → (number : ℕ) → (before after : SystemState)
    → (output now : Option (List ℕ)) → ServeFault → Type 0
FailsTurn on sizes number before after output now Input = (after ≡ before) × (now ≡ output)
FailsTurn on sizes number before after output now Output = BeginsTurn on sizes number before after output now
FailsTurn on sizes number before after output now NoMemory = ServesAtMost on before after × (now ≡ output)

-- a session that failed after these turns
pub record FailsSession (on : SessionTerms) (sizes : Config) (input : Option (List ℕ)) (before after : SystemState)
    (output now : Option (List ℕ)) (fault : ServeFault) : Type 0 where
  pub turns : List Turn
  pub left : Option (List ℕ)
  pub between : SystemState
  pub middle : Option (List ℕ)
  pub holds : HoldsSession on sizes turns input left before between output middle
  pub fails : FailsTurn on sizes (length turns + 1) between after middle now fault
