-- The refused lines of a script.
use Rattle.std.specs.Prelude.{◌≡◌, ℕ, ◌+◌, ◌≤◌, Option, None, Some, List, [], ◌∷◌, ◌++◌, codes, length, take, ⊤}
use Rattle.std.specs.Fmt.{decimal}
use Rattle.zone_blocks.specs.declared.config.Config.{Config}
use Rattle.script_lines.specs.Script.{texts_of}
use Rattle.script_lint.specs.Findings.{IsWithin}
use Rattle.script_lint.specs.Refusals.{IsJudgedText}
use Rattle.script_lint.specs.declared.refusal.Refusal.{Refusal}
use Rattle.script_lint.specs.declared.refusal.Refusal.TheVariants.{OrderTooGreat, NotModelled, NoFile, FileOfRoot, WriteOnly, BadPath, PathTooDeep}
use Rattle.script_lint.specs.declared.refusal.Refusal.TheVariants.{RootToChange, NeverMade, ReadOnly, NoLimit, NoAmount, NoFlag, TooGreat}
use Rattle.script_lint.specs.declared.refusal.Refusal.TheVariants.{LessThanPage}
use Rattle.script_lint.specs.declared.refused.RefusedLine.{RefusedLine}

-- the refusals among what is known of lines, each with the number of its line; the first line has the number `n`
abbrev pub numbered : (n : ℕ) → List (Option Refusal) → List RefusedLine
numbered n [] = []
numbered n (None ∷ rest) = numbered (n + 1) rest
numbered n (Some why ∷ rest) = record { line = n; refusal = why } ∷ numbered (n + 1) rest

-- each of these is known of the text beside it, after those before that and these
abbrev pub AreJudged : Config → (before texts : List (List ℕ)) → List (Option Refusal) → Type 0
AreJudged sizes before [] [] = ⊤
AreJudged sizes before (text ∷ texts) (why ∷ judged) =
    IsJudgedText sizes before text why × AreJudged sizes (before ++ text ∷ []) texts judged
AreJudged sizes before texts judged = ⊥

-- Something is known of each line that is within the bytes that a script may have, and of no other: whether it is
-- refused. These are the refused ones, in order.
pub record AreRefused (sizes : Config) (script : List ℕ) (refused : List RefusedLine) : Type 0 where
  pub judged : List (Option Refusal)
  pub judges : AreJudged sizes [] (take (length judged) (texts_of script)) judged
  pub within : (n : ℕ) → 1 ≤ n → n ≤ length judged → IsWithin script n
  pub all : (n : ℕ) → 1 ≤ n → n ≤ length (texts_of script) → IsWithin script n → n ≤ length judged
  pub are : refused ≡ numbered 1 judged

-- the files that each group has
abbrev pub files_text : List ℕ
files_text = codes "the files are memory.current, memory.max, memory.high, memory.low, memory.min, memory.peak, "
    ++ codes "memory.events, memory.events.local, memory.oom.group, memory.reclaim, memory.stat"

-- why a command is refused
abbrev pub sentence : Refusal → List ℕ
sentence OrderTooGreat = codes "orders are 0 to 10: 2^ORDER frames"
sentence BadPath =
    codes "a path has a / before each name, as /a/b: names of 1 to 255 bytes, not . or .., 512 bytes in all"
sentence PathTooDeep = codes "a path has at most 8 names"
sentence RootToChange = codes "/ can't be made or removed"
sentence NeverMade = codes "no line before makes this group"
sentence NotModelled = codes "this file isn't modelled; " ++ files_text
sentence NoFile = codes "no such file; " ++ files_text
sentence FileOfRoot = codes "/ has no files"
sentence WriteOnly = codes "memory.reclaim can't be read"
sentence ReadOnly =
    codes "only memory.max, memory.high, memory.low, memory.min, memory.oom.group and memory.reclaim can be written"
sentence NoLimit =
    codes "memory.max, memory.high, memory.low and memory.min take a whole number of bytes, with K M G T P E, or max"
sentence NoAmount = codes "memory.reclaim takes a whole number of bytes, with K M G T P E"
sentence NoFlag = codes "memory.oom.group takes 0 or 1"
sentence LessThanPage = codes "the value is in bytes, and is rounded up to a page of 4096"
sentence TooGreat = codes "a number of bytes is at most 18446744073709551615"

-- what it is: a refusal, or a doubt
abbrev pub verdict : Refusal → List ℕ
verdict LessThanPage = codes "doubtful"
verdict why = codes "refused"

-- the line that says that a line is refused or hardly meant, and why
abbrev pub refused_line_text : (name : List ℕ) → RefusedLine → List ℕ
refused_line_text name refused =
    name ++ (codes ":" ++ (decimal refused.line ++ (codes ": " ++ (verdict refused.refusal ++ (codes ": " ++ (sentence refused.refusal ++ codes "\n"))))))
