use Rattle.std.proofs.Common.{◌≡◌, ◌-◌, ◌≤◌, ◌++◌, drop, length}
use Rattle.std.specs.String.{string_bytes}
use Rattle.machine_texts.specs.Places.{places_text}
use Rattle.machine_texts.proofs.Spans.{rest_text}
use Rattle.machine_texts.proofs.places.write_places.Given as goal

abbrev pub decreases-loop-first : goal.decreases-loop-first
decreases-loop-first l = length l.frame_states - l.first

abbrev pub invariant-loop-first : goal.invariant-loop-first
invariant-loop-first l = record {
  within : l.first ≤ length l.frame_states;
  told : string_bytes l.text ++ rest_text l.tree l.first (drop l.first l.frame_states) ≡ string_bytes l.initial.text ++ places_text l.tree l.frame_states;
}
