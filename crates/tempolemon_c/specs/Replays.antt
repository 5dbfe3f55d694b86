-- What a replay for a host answers, and why it fails.
use Rattle.std.specs.Prelude.{ℕ, Bool, false, List}
use Rattle.zone_blocks.specs.declared.config.Config.{Config}
use Rattle.zone_blocks.specs.Config.{IsValidConfig}
use Rattle.script_lines.specs.declared.line.Line.{Line}
use Rattle.script_lines.specs.Script.{IsFirstBadLine, IsScript}
use Rattle.load_run.specs.Answers.{AreReplayAnswers}
use Rattle.tempolemon_c.specs.declared.fault.ReplayFault.{ReplayFault}
use Rattle.tempolemon_c.specs.declared.fault.ReplayFault.TheVariants.{BadConfig, BadLine, NoMemory}

-- the sizes are in their ranges, and the text is what the program's `replay` answers to the script: what a new boot of
-- these sizes answers to its lines, with explanations and the report of the end if these are asked for
pub record IsReplayAnswer (sizes : Config) (is_explained is_audited : Bool) (script text : List ℕ) : Type 0 where
  pub valid : IsValidConfig sizes
  pub lines : List Line
  pub script_is : IsScript sizes script lines
  pub answers : AreReplayAnswers sizes (record { is_explained = is_explained; is_numbered = false }) is_audited lines
      text

-- the sizes are in their ranges, and this is the number of the first bad line of the script
pub record IsBadScript (sizes : Config) (script : List ℕ) (number : ℕ) : Type 0 where
  pub valid : IsValidConfig sizes
  pub first : IsFirstBadLine sizes script number

-- Which fault comes when. The sizes are judged first: every other fault says that they are in their ranges
abbrev pub HasReplayCause : Config → List ℕ → ReplayFault → Type 0
HasReplayCause sizes script BadConfig = ¬ IsValidConfig sizes
HasReplayCause sizes script (BadLine number) = IsBadScript sizes script number
HasReplayCause sizes script NoMemory = IsValidConfig sizes
