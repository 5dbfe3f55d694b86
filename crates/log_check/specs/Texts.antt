-- The result of a check as text.
use Rattle.std.specs.Prelude.{ℕ, List, ◌++◌, Option, None, Some, codes, decimal, flat_map}
use Rattle.step_rules.specs.declared.step.Answer.{Answer}
use Rattle.log_lines.specs.Words.{answer_words, spaced}
use Rattle.log_check.specs.ReasonTexts.{reason_text, said}
use Rattle.log_check.specs.declared.verdict.LogEnd.{LogEnd}
use Rattle.log_check.specs.declared.verdict.LogVerdict.{LogVerdict}
use Rattle.log_check.specs.declared.verdict.LogVerdict.TheVariants.{Legal, NotLegal, LeftOut, BadLine}
use Rattle.log_check.specs.declared.verdict.IllegalStep.{IllegalStep}
use Rattle.log_check.specs.declared.line_fault.LineFault.{LineFault}
use Rattle.log_check.specs.declared.line_fault.LineFault.TheVariants.{NoSizes, NoLineFeed, TooLong, SizesAgain, StepFirst}
use Rattle.log_check.specs.declared.line_fault.LineFault.TheVariants.{ByteOrderMark, Gzip, WideText, CarriageReturn, NoLine}

-- the line and the number of a step
abbrev pub step_place_text : (line step : ℕ) → List ℕ
step_place_text line step = codes "line " ++ decimal line ++ codes ": step " ++ decimal step

-- the answer that is allowed there
abbrev pub due_text : Answer → List ℕ
due_text expected = codes " is not legal:" ++ spaced (answer_words expected) ++ codes " was due: "

-- the line for a step that isn't legal
abbrev pub illegal_text : IllegalStep → List ℕ
illegal_text illegal =
    step_place_text illegal.line illegal.step
    ++ (due_text illegal.expected ++ (reason_text illegal.reason ++ codes "\n"))

-- how many of the steps aren't legal
abbrev pub count_text : (count steps : ℕ) → List ℕ
count_text count steps = said (codes "not legal: ") count (said (codes " of ") steps (codes " steps\n"))

-- why a line is bad, after its number
abbrev pub why_text : LineFault → List ℕ
why_text NoSizes = codes ": the sizes are missing\n"
why_text NoLineFeed = codes ": it has no line feed\n"
why_text TooLong = codes ": it has more than 1024 bytes\n"
why_text ByteOrderMark = codes ": it begins with a UTF-8 byte order mark: a log is plain ASCII\n"
why_text Gzip = codes ": it looks like gzip: a log is plain ASCII\n"
why_text WideText = codes ": it looks like UTF-16: a log is plain ASCII\n"
why_text CarriageReturn = codes ": it ends with a carriage return: the log has Windows line ends\n"
why_text NoLine = codes ": it is neither a step nor sizes\n"
why_text SizesAgain = codes ": the sizes were given before\n"
why_text StepFirst = codes ": the sizes come first\n"

-- how many steps a legal log has
abbrev pub legal_text : ℕ → List ℕ
legal_text steps = said (codes "legal: ") steps (codes " steps, the promise holds\n")

-- after how many of them the lock was free
abbrev pub free_text : ℕ → List ℕ
free_text free = said (codes "free: the lock was free after ") free (codes " of them\n")

-- how many units and pages are left
abbrev pub left_text : LogEnd → List ℕ
left_text end =
    said (codes "left: ") end.units (codes " units without references, ") ++ (decimal end.pending ++ codes " pages pending")

-- who holds the lock
abbrev pub holder_text : Option ℕ → List ℕ
holder_text None = codes "\n"
holder_text (Some cpu) = said (codes ", locked by CPU ") cpu (codes "\n")

-- what a legal log leaves
abbrev pub end_text : LogEnd → List ℕ
end_text end = left_text end ++ holder_text end.holder

-- the lines that say what a log is
abbrev pub verdict_text : LogVerdict → List ℕ
verdict_text (Legal steps free end) = legal_text steps ++ (free_text free ++ end_text end)
verdict_text (NotLegal illegal) = illegal_text illegal
verdict_text (LeftOut steps count first) = flat_map illegal_text first.items ++ count_text count steps
verdict_text (BadLine line fault) = said (codes "bad line ") line (why_text fault)
