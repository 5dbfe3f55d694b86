-- Serves the loop of `take_bytes`: the bytes before this one are read.
use Rattle.std.proofs.Common.{ℕ, ◌≡◌, ◌≤◌, List, ◌++◌, take}
use Rattle.log_check.specs.Taking.{HasRoomForLine, HasRead}
use Rattle.log_check.proofs.reader.LogReader.take_bytes.Given as goal

abbrev pub invariant-loop-byte : goal.invariant-loop-byte
invariant-loop-byte l =
    HasRoomForLine l.self × ((before : List ℕ) → HasRead before l.initial.self → HasRead (before ++ take l.byte-index l.bytes) l.self)
    × (l.initial.self.lines ≤ l.self.lines) × (l.self.is_all ≡ l.initial.self.is_all)
