use Rattle.step_rules.proofs.LocalRuns.{few_pins, few_back, few_fresh}
use Rattle.step_rules.proofs.examples.pins_and_fresh_frames_are_bounded.Goals as goal

pub returns : goal.returns
returns c = record { pins = few_pins; back = few_back; fresh = few_fresh }
