-- The form of a script: lines that each end with a line feed, which the last may lack.
use Rattle.std.specs.Prelude.{◌≡◌, ◌≢◌, ◌⊎◌, ℕ, Bool, true, false, not, ◌==◌, ◌+◌, ◌-◌, ◌<◌, ◌≤◌, List, [], ◌∷◌, ◌++◌, All}
use Rattle.std.specs.Prelude.{codes, nat_eq, count_by, drop, filter, length, slice_get, take, Option, None, Some, ⊤}
use Rattle.std.specs.Borrow.{Bor}
use Rattle.std.specs.List.{AllZip, enumerate_from, list_any, slice_split}
use Rattle.std.specs.Cmp.Lexicographic.{pointwise}
use Rattle.zone_blocks.specs.declared.config.Config.{Config}
use Rattle.script_lines.specs.declared.line.Line.{Line}
use Rattle.script_lines.specs.declared.line.Line.TheVariants.{Go, At}
use Rattle.script_lines.specs.declared.line.Command.{Command}
-- how each command is written
pub use Rattle.script_lines.specs.Verb.{IsPathText, WritesNumber, IsAllocText, IsReadText, IsWriteText, IsFrameText}
pub use Rattle.script_lines.specs.Verb.{IsGroupText, IsPath, HasArguments, IsCommandText}
use Rattle.script_lines.specs.Verb.{name_of_verb}
use Rattle.script_lines.specs.declared.verb.Verb.{Verb}
use Rattle.script_lines.specs.declared.fault.ScriptFault.{ScriptFault}
use Rattle.script_lines.specs.declared.fault.ScriptFault.TheVariants.{BadLine, NoMemory}

-- how many bytes a script may have
abbrev pub longest_script : ℕ
longest_script = 1048576

-- how many bytes a line may have, its line feed not counted
abbrev pub longest_line : ℕ
longest_line = 1024

-- the texts between the line feeds of a script
abbrev pub texts_of : List ℕ → List (List ℕ)
texts_of script = slice_split (λ b. b == 10) script

-- the texts of the rest of a script; none if there is no rest
abbrev pub texts_left : Option (Bor (List ℕ)) → List (List ℕ)
texts_left None = []
texts_left (Some rest) = texts_of rest.now

-- the text is a word, a space, and the rest, and the word has no space
pub record IsCut (text word rest : List ℕ) : Type 0 where
  pub parts : text ≡ word ++ 32 ∷ rest
  pub no_space : All (λ b. b ≢ 32) word

-- the text is cut at this place, which has its first space
abbrev pub IsCutAt : List ℕ → ℕ → Type 0
IsCutAt text end = (end < length text) × IsCut text (take end text) (drop (end + 1) text)

-- the text is the name of this command, or goes on with a space after it
abbrev pub BeginsWithName : Verb → List ℕ → Type 0
BeginsWithName verb text = (text ≡ name_of_verb verb) ⊎ (rest : List ℕ) × (text ≡ name_of_verb verb ++ 32 ∷ rest)

-- the text is the name of this command, and this is what follows a space after it; None if nothing does
abbrev pub IsNamed : Verb → Option (Bor (List ℕ)) → List ℕ → Type 0
IsNamed verb None text = text ≡ name_of_verb verb
IsNamed verb (Some rest) text = IsCut text (name_of_verb verb) rest.now

-- `P COMMAND`, P being the number of a CPU
pub record IsRequestText (sizes : Config) (cpu : ℕ) (command : Command) (text : List ℕ) : Type 0 where
  pub digits : List ℕ
  pub rest : List ℕ
  pub parts : text ≡ digits ++ 32 ∷ rest
  pub writes : WritesNumber digits cpu
  pub low : 1 ≤ cpu
  pub high : cpu ≤ sizes.cpus
  pub command_text : IsCommandText sizes command rest

-- whether the text is `go`
abbrev pub is_go : List ℕ → Bool
is_go text = pointwise nat_eq text (codes "go")

-- the n-th line is `go`, or is `P COMMAND` and has its number
abbrev pub IsLineText : Config → ℕ → Line → List ℕ → Type 0
IsLineText sizes n Go text = text ≡ codes "go"
IsLineText sizes n (At number cpu command) text = (number ≡ n) × IsRequestText sizes cpu command text

-- an empty text, or a comment
abbrev pub is_skipped : List ℕ → Bool
is_skipped [] = true
is_skipped (b ∷ bs) = b == 35

-- the texts that are neither empty nor comments, each with its number among all texts, from 1
abbrev pub asking_texts : List (List ℕ) → List (ℕ × List ℕ)
asking_texts texts = filter (λ t. not (is_skipped t.1)) (enumerate_from 1 texts)

-- the lines are those that these texts write, in order
abbrev pub AreLines : Config → List (List ℕ) → List Line → Type 0
AreLines sizes texts lines = AllZip (λ t line. IsLineText sizes t.0 line t.1) (asking_texts texts) lines

-- whether one of the texts is `go`
abbrev pub has_go : List (List ℕ) → Bool
has_go texts = list_any is_go texts

-- how many bytes of a script are line feeds, and so how many lines end in it
abbrev pub ended_lines : List ℕ → ℕ
ended_lines script = count_by (λ b. b == 10) script

-- the lines from this number on are past what a script may have; no line has the number 2^64 - 1
abbrev pub IsLimit : List ℕ → ℕ → Type 0
IsLimit script limit = (longest_script < length script → limit ≡ ended_lines (take longest_script script) + 1)
    × (length script ≤ longest_script → limit ≡ 18446744073709551615)

-- the n-th line is at most 1,024 bytes, is within the 1,048,576 bytes that a script may have, is `go`, `P COMMAND` or
-- skipped, and isn't a second `go`
pub record IsGoodLine (sizes : Config) (script : List ℕ) (n : ℕ) : Type 0 where
  pub text : List ℕ
  pub is_text : slice_get (texts_of script) (n - 1) ≡ Some text
  pub short : length text ≤ longest_line
  pub within : longest_script < length script → n ≤ ended_lines (take longest_script script)
  pub says : is_skipped text ≡ false → (line : Line) × IsLineText sizes n line text
  pub once : is_go text ≡ true → has_go (take (n - 1) (texts_of script)) ≡ false

-- the script is not too long, every line in it is good, and these are its lines
pub record IsScript (sizes : Config) (script : List ℕ) (lines : List Line) : Type 0 where
  pub fits : length script ≤ longest_script
  pub good : (n : ℕ) → 1 ≤ n → n ≤ length (texts_of script) → IsGoodLine sizes script n
  pub says : AreLines sizes (texts_of script) lines

-- the n-th line of the script, counted from 1, is the first that isn't good
pub record IsFirstBadLine (sizes : Config) (script : List ℕ) (n : ℕ) : Type 0 where
  pub low : 1 ≤ n
  pub high : n ≤ length (texts_of script)
  pub bad : ¬ IsGoodLine sizes script n
  pub first : (k : ℕ) → 1 ≤ k → k < n → IsGoodLine sizes script k

-- the fault names the first line that isn't good, or says that memory ran out
abbrev pub NamesFirstBadLine : Config → List ℕ → ScriptFault → Type 0
NamesFirstBadLine sizes script (BadLine n) = IsFirstBadLine sizes script n
NamesFirstBadLine sizes script NoMemory = ⊤
