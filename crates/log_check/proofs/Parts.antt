-- What was read of an input so far, piece by piece. Serves `check_log`.
use Rattle.std.proofs.Common.{◌≡◌, ◌∙◌, ℕ, ◌<◌, ◌≤◌, List, [], ◌++◌, Option, None, Some, IfSome, ap, append_assoc, append-nil, arith, Bool, length, subst, sym}
use Rattle.std.proofs.KnownBytes.{Consumes-kept, Consumes-trans}
use Rattle.std.specs.Io.KnownBytes.{Consumes, IsAtEnd, Keeps}
use Rattle.log_check.specs.declared.verdict.LogVerdict.{LogVerdict}
use Rattle.log_check.specs.declared.reader.LogReader.{LogReader}
use Rattle.log_check.specs.declared.verdict.LogVerdict.TheVariants.{Legal, NotLegal, LeftOut, BadLine}
use Rattle.log_check.specs.{EndsBefore, NamesLineAfter, ReadsAsFar, ReadsUpTo, StopsAfter, IsLogVerdict, HasRoomForLine, HasRead, ReadsOrJudges}

-- these bytes were read of the input, and are what the log is known to begin with
pub record IsReadTo (input left : Option (List ℕ)) (log : LogReader) : Type 0 where
  pub bytes : List ℕ
  pub read : Consumes input left bytes
  pub known : HasRead bytes log

-- a piece more was read, and the log goes on
pub more : (input left after : Option (List ℕ)) (log new : LogReader) (piece : List ℕ) → IsReadTo input left log → Consumes left after piece
    → ((before : List ℕ) → HasRead before log → HasRead (before ++ piece) new) → IsReadTo input after new
more input left after log new piece so_far read goes_on = record {
  bytes = so_far.bytes ++ piece;
  read = Consumes-trans input left after so_far.bytes piece so_far.read read;
  known = goes_on so_far.bytes so_far.known;
}

-- a read failed, and took nothing
pub kept : (input left after : Option (List ℕ)) (log : LogReader) → IsReadTo input left log → Keeps left after → IsReadTo input after log
kept input left after log so_far same = record {
  bytes = so_far.bytes;
  read = Consumes-kept input left after so_far.bytes so_far.read same;
  known = so_far.known;
}

-- all was read
pub all_read : (all : Bool) (input left after : Option (List ℕ)) (log : LogReader) (end : LogVerdict) → log.is_all ≡ all → IsReadTo input left log
    → Consumes left after [] → IsAtEnd after → ((before : List ℕ) → HasRead before log → IsLogVerdict log.is_all before end)
    → IfSome input (λ text. IsLogVerdict all text end)
all_read mode None left after log end same so_far read at_end is = tt
all_read mode (Some all) None after log end same so_far read at_end is = absurd so_far.read
all_read mode (Some all) (Some rest) None log end same so_far read at_end is = absurd read
all_read mode (Some all) (Some rest) (Some last) log end same so_far read at_end is =
    let none : rest ≡ [] = read ∙ at_end in
    let whole : all ≡ so_far.bytes = so_far.read ∙ ap (λ (l : List ℕ). so_far.bytes ++ l) none ∙ append-nil so_far.bytes in
    subst (λ (l : List ℕ). IsLogVerdict mode l end) (sym whole) (subst (λ (b : Bool). IsLogVerdict b so_far.bytes end) same (is so_far.bytes so_far.known))

-- a piece more was read, and it is known what the log is
pub ended : (all : Bool) (input left after : Option (List ℕ)) (log new : LogReader) (piece : List ℕ) (end : LogVerdict) → new.is_all ≡ all
    → IsReadTo input left log → Consumes left after piece → ((before : List ℕ) → HasRead before log → ReadsOrJudges (before ++ piece) new (Some end))
    → IfSome input (λ text. IsLogVerdict all text end)
ended mode None left after log new piece end same so_far read is = tt
ended mode (Some all) None after log new piece end same so_far read is = absurd so_far.read
ended mode (Some all) (Some rest) None log new piece end same so_far read is = absurd read
ended mode (Some all) (Some rest) (Some last) log new piece end same so_far read is =
    let whole : all ≡ (so_far.bytes ++ piece) ++ last
    = so_far.read ∙ ap (λ (l : List ℕ). so_far.bytes ++ l) read ∙ sym (append_assoc so_far.bytes piece last) in
    subst (λ (l : List ℕ). IsLogVerdict mode l end) (sym whole)
    (subst (λ (b : Bool). IsLogVerdict b ((so_far.bytes ++ piece) ++ last) end) same (is so_far.bytes so_far.known last))

-- ---- how far it was read

-- the log as far as it was read ends before a line that comes after its lines
early : (bytes : List ℕ) (log : LogReader) (line : ℕ) → HasRead bytes log → HasRoomForLine log → log.lines < line → EndsBefore line bytes
early bytes log line has fits few = record {
  front = has.front;
  rest = log.line.items;
  parts = has.parts;
  texts = has.taken.are.texts;
  cut = has.taken.are.cut;
  few = subst (λ (n : ℕ). n < line) has.taken.are.count_is few;
  no_feed = has.no_feed;
  short = fits.short;
}

up_to : (input left after : Option (List ℕ)) (log : LogReader) (piece : List ℕ) (line : ℕ) → IsReadTo input left log → HasRoomForLine log
    → Consumes left after piece → length piece ≤ 4096 → log.lines < line → ReadsUpTo line input after
up_to input left after log piece line so_far fits read short few = record {
  text = so_far.bytes;
  piece = piece;
  early = early so_far.bytes log line so_far.known fits few;
  short = short;
  taken = Consumes-trans input left after so_far.bytes piece so_far.read read;
}

-- a piece more was read, in which a line is named
pub ended_far : (input left after : Option (List ℕ)) (log : LogReader) (piece : List ℕ) (end : LogVerdict) → IsReadTo input left log → HasRoomForLine log
    → Consumes left after piece → length piece ≤ 4096 → NamesLineAfter log.lines end → ReadsAsFar end input after
ended_far input left after log piece (Legal steps free left_end) so_far fits read short names = absurd names
ended_far input left after log piece (LeftOut steps count first) so_far fits read short names = absurd names
ended_far input left after log piece (NotLegal illegal) so_far fits read short names = up_to input left after log piece illegal.line so_far fits read short names
ended_far input left after log piece (BadLine line fault) so_far fits read short names = up_to input left after log piece line so_far fits read short names

-- all was read
pub all_far : (input left after : Option (List ℕ)) (log : LogReader) (end : LogVerdict) → IsReadTo input left log → HasRoomForLine log → Consumes left after []
    → IsAtEnd after → StopsAfter log.lines end → ReadsAsFar end input after
all_far input left after log (Legal steps free left_end) so_far fits read at_end stops = at_end
all_far input left after log (LeftOut steps count first) so_far fits read at_end stops = at_end
all_far input left after log (NotLegal illegal) so_far fits read at_end stops =
    up_to input left after log [] illegal.line so_far fits read (omega arith) stops
all_far input left after log (BadLine line fault) so_far fits read at_end stops =
    up_to input left after log [] line so_far fits read (omega arith) stops
