-- What the steps of a script are as a log: the sizes; then of each line its part of the log; then that of the end.
use Rattle.std.specs.Prelude.{◌≡◌, ℕ, ◌-◌, ◌==◌, if◌then◌else◌, Bool, true, List, [], ◌∷◌, ◌++◌, codes, decimal, get_or}
use Rattle.zone_blocks.specs.declared.choices.Choices.{Choices}
use Rattle.zone_blocks.specs.declared.config.Config.{Config}
use Rattle.step_rules.specs.After.{Run}
use Rattle.boot_words.specs.{zone_of_boot, KnownTable}
use Rattle.step_watch.specs.Watched.{steps_text}
use Rattle.log_lines.specs.Line.{zone_text}
use Rattle.script_lines.specs.declared.line.Line.{Line}
use Rattle.script_lines.specs.declared.line.Line.TheVariants.{Go, At}
use Rattle.script_lines.specs.Script.{texts_of}
use Rattle.script_replay.specs.Lines.{InOrder, SystemState}
use Rattle.script_replay.specs.Terms.{Terms, terms}
use Rattle.line_server.specs.Logs.{LogsLine, RenewsWatch, answer_comments}
use Rattle.load_run.specs.declared.boot_end.BootEnd.{BootEnd}
use Rattle.load_run.specs.Ending.{EndsHeld, IsWholeRun, boot_end_text, last_words}
use Rattle.load_run.specs.Starting.{IsNewBootState}

-- the text of the batch of reclaim, if the boot chose one
abbrev pub batch_text : ℕ → List ℕ
batch_text batch = if batch == 1 then [] else codes " reclaim-batch " ++ decimal batch

-- the name of a choice that has no value, if the boot makes it
abbrev pub choice_text : (is_made : Bool) → List ℕ → List ℕ
choice_text is_made name = if is_made then name else []

-- the text with the choices that the boot makes
abbrev pub with_choices : List ℕ → Choices → List ℕ
with_choices text choices =
    ((text ++ batch_text choices.reclaim_batch) ++ choice_text choices.is_no_kill (codes " no-kill"))
    ++ choice_text choices.is_proportional (codes " proportional")

-- the comment that a log of ours is known by: the sizes of the boot that the zone's line doesn't have, and its choices
abbrev pub sizes_comment : Config → List ℕ
sizes_comment sizes =
    with_choices (codes "# memcg batch " ++ (decimal sizes.batch ++ (codes " high " ++ (decimal sizes.high
    ++ (codes " stock " ++ decimal sizes.stock))))) sizes.choices ++ codes "\n"

-- what a log of a boot with these sizes begins with: the zone's line, and the comment with the other sizes
abbrev pub log_head_text : Config → List ℕ
log_head_text sizes = (zone_text sizes.frames sizes.cpus sizes.choices.groups ++ 10 ∷ []) ++ sizes_comment sizes

-- the text of the line of this number, from 1, among all texts of the script; nothing if there is none
abbrev pub text_at : List (List ℕ) → ℕ → List ℕ
text_at texts number = if number == 0 then [] else get_or texts (number - 1) []

-- the text of the line among all texts of its script; nothing for `go`
abbrev pub text_of_line : List (List ℕ) → Line → List ℕ
text_of_line texts Go = []
text_of_line texts (At number cpu command) = text_at texts number

-- bytes that have grown by a text of which `is_added` holds
pub record GrowsBy (is_added : List ℕ → Type 0) (before after : List ℕ) : Type 0 where
  pub text : List ℕ
  pub so : is_added text
  pub added : after ≡ before ++ text

-- the log of a line whose text is among these
abbrev pub LogsNext : Terms → List (List ℕ) → Line → (before after : SystemState) (log : List ℕ) → Type 0
LogsNext terms texts line before after log = LogsLine terms (text_of_line texts line) line before after log

-- the log of lines that are served one after the other
abbrev pub LogsAll : Terms → List (List ℕ) → List Line → (before after : SystemState) (log : List ℕ) → Type 0
LogsAll terms texts lines before after log = InOrder (LogsNext terms texts) lines before after log

-- The log of the end: a comment, the steps that leave nothing at any CPU, and what an audited run writes about the end.
-- The watch is new for it.
pub record LogsEnd (table : KnownTable) (before : SystemState)
    (log : List ℕ) : Type 0 where
  pub begun : SystemState
  pub renews : RenewsWatch before begun
  pub ended : BootEnd
  pub ends : EndsHeld table begun ended
  pub log_is : log
      ≡ codes "# end\n" ++ (steps_text ends.leaves.steps ++ answer_comments (boot_end_text true ended))

-- the log of lines that are served one after the other, each with its explanation, and then of the end
pub record LogsAllAndEnd (table : KnownTable) (texts : List (List ℕ))
    (lines : List Line)
    (before : SystemState) (log : List ℕ) : Type 0 where
  pub end : SystemState
  pub served_log : List ℕ
  pub served : LogsAll (terms table true) texts lines before end served_log
  pub ending : List ℕ
  pub ends : LogsEnd table end ending
  pub log_is : log ≡ served_log ++ ending

-- the steps of these lines
abbrev pub steps_of_logs : (terms : Terms) (texts : List (List ℕ)) (lines : List Line) (before after : SystemState)
    (log : List ℕ) → LogsAll terms texts lines before after log → Run
steps_of_logs terms texts [] before after log logs = []
steps_of_logs terms texts (line ∷ lines) before after log logs = logs.serves_first.serves.steps
    ++ steps_of_logs terms texts lines logs.between after logs.rest logs.serves_rest

-- The steps of a boot with these sizes, as a log: the sizes; then for each line of the script a comment, the steps by
-- which it is served, and its answer as `replay --explain` gives it, in comments, one line after the other from the
-- boot on; and then the steps of the end, and what is reported of it with `--audit`. `whole` is all these steps.
pub record AreLoggedSteps (sizes : Config) (script : List ℕ) (lines : List Line) (text : List ℕ) : Type 0 where
  pub frames : KnownTable
  pub start : SystemState
  pub first : IsNewBootState sizes frames start
  pub log : List ℕ
  pub logs : LogsAllAndEnd frames (texts_of script) lines start log
  pub whole : Run
  pub whole_is : whole ≡ steps_of_logs (terms frames true) (texts_of script) lines start logs.end logs.served_log
      logs.served ++ logs.ends.ends.leaves.steps
  pub is_whole : IsWholeRun (zone_of_boot frames) (last_words logs.ends.ends.closes) whole
  pub text_is : text ≡ log_head_text sizes ++ log
