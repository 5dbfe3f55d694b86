use Rattle.std.proofs.Common.{◌≡◌, ◌≢◌, ◌-◌, ◌<◌, ◌≤◌, All, length, take}
use Rattle.script_lines.specs.Names.{code_of}
use Rattle.script_lines.proofs.verb.Name.at_front.Given as goal

-- the bytes so far, and their number
abbrev pub invariant-loop-end : goal.invariant-loop-end
invariant-loop-end l = (l.end ≤ length l.text) × All (λ b. (b ≢ 32) × (b < 256)) (take l.end l.text) × (l.end ≤ 7 → code_of (take l.end l.text) ≡ l.code)

abbrev pub decreases-loop-end : goal.decreases-loop-end
decreases-loop-end l = length l.text - l.end
