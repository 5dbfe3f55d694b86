-- What is written for what is found.
use Rattle.std.specs.Prelude.{ℕ, ◌+◌, ◌-◌, ◌≤◌, Bool, List, [], ◌++◌, ◌==◌, Option, None, Some, codes, if◌then◌else◌, length, nat_lt}
use Rattle.std.specs.Char.{encode_utf8}
use Rattle.std.specs.Fmt.{decimal}
use Rattle.std.specs.List.{flat_map}
use Rattle.zone_blocks.specs.declared.config.Config.{Config}
use Rattle.script_lines.specs.Verb.{all_verbs, name_of_verb}
use Rattle.script_lines.specs.declared.verb.Verb.{Verb}
use Rattle.script_lint.specs.Causes.{byte_at, is_printable, verb_of, word_at}
use Rattle.script_lint.specs.Forms.{form_text_of}
use Rattle.script_lint.specs.declared.finding.Cause.{Cause}
use Rattle.script_lint.specs.declared.finding.Cause.TheVariants.{ByteOrderMark, WideText, Gzip, LateComment, NoCpu, CpuOutOfRange, UnknownCommand}
use Rattle.script_lint.specs.declared.finding.Cause.TheVariants.{TooFewWords, TooManyWords, TwoSpaces, SpaceAtEnd, Tab, CarriageReturn}
use Rattle.script_lint.specs.declared.finding.Cause.TheVariants.{NumberOutOfRange, FrameOutOfZone, GroupOutOfRange, UnprintableByte, LineTooLong}
use Rattle.script_lint.specs.declared.finding.Cause.TheVariants.{InputTooLong, SecondGo}
use Rattle.script_lint.specs.declared.finding.Finding.{Finding}

-- the place is one of the text, or its end
abbrev pub IsInside : Finding → Type 0
IsInside f = f.spot.place ≤ length f.text.now

-- a byte as it is shown: a question mark for one outside the printable ASCII
abbrev pub shown : ℕ → ℕ
shown b = if is_printable b then b else 63

-- the word that the place is in, as it is shown
abbrev pub shown_word_text : Finding → List ℕ
shown_word_text f = flat_map (λ b. encode_utf8 (shown b)) (word_at f.text.now f.spot.place)

-- the names of commands
abbrev pub names_text : List Verb → List ℕ
names_text verbs = flat_map (λ v. name_of_verb v ++ codes ", ") verbs

-- the command that may be meant, or all of them
abbrev pub near_text : Option Verb → List ℕ
near_text None = codes "; commands are " ++ (names_text all_verbs ++ codes "and go without a CPU")
near_text (Some v) = codes "; did you mean '" ++ name_of_verb v ++ codes "'?"

-- what is said of a carriage return, at the end of the line or before
abbrev pub return_text : Bool → List ℕ
return_text at_end =
    if at_end then codes "carriage return at the end of the line: the script has Windows line ends"
    else codes "carriage return"

-- which CPUs there are
abbrev pub cpus_text : ℕ → List ℕ
cpus_text cpus = codes " doesn't exist (CPUs 1 to "
    ++ (decimal cpus ++ (codes " with --cpus " ++ (decimal cpus ++ codes ")")))

-- which frames there are
abbrev pub zone_range_text : ℕ → List ℕ
zone_range_text frames =
    codes " is outside the zone (frames 0 to "
    ++ (decimal (frames - 1) ++ (codes " with --frames " ++ (decimal frames ++ codes ")")))

-- which numbers groups can have
abbrev pub group_range_text : ℕ → List ℕ
group_range_text groups = codes " is outside 0 to " ++ decimal (groups - 1)

-- why the line is bad
abbrev pub cause_text : Config → Finding → Cause → List ℕ
cause_text sizes f ByteOrderMark = codes "a UTF-8 byte order mark: a script is plain ASCII"
cause_text sizes f WideText = codes "this looks like UTF-16: a script is plain ASCII"
cause_text sizes f Gzip = codes "this looks like gzip: a script is plain ASCII"
cause_text sizes f LateComment = codes "a comment is a line that begins with #"
cause_text sizes f NoCpu = codes "no CPU's number: a line is P COMMAND or go"
cause_text sizes f CpuOutOfRange = codes "CPU " ++ (shown_word_text f ++ cpus_text sizes.cpus)
cause_text sizes f UnknownCommand = codes "no command '" ++ (shown_word_text f ++ (codes "'" ++ near_text f.near))
cause_text sizes f TooFewWords = codes "too few words: " ++ form_text_of (verb_of f.text.now)
cause_text sizes f TooManyWords = codes "too many words: " ++ form_text_of (verb_of f.text.now)
cause_text sizes f TwoSpaces = codes "two spaces"
cause_text sizes f SpaceAtEnd = codes "space at an end of the line"
cause_text sizes f Tab = codes "tab"
cause_text sizes f CarriageReturn = return_text (f.spot.place + 1 == length f.text.now)
cause_text sizes f NumberOutOfRange = codes "'"
    ++ (shown_word_text f ++ (codes "' isn't a number from 0 to 4294967295: " ++ form_text_of (verb_of f.text.now)))
cause_text sizes f FrameOutOfZone = codes "frame " ++ (shown_word_text f ++ zone_range_text sizes.frames)
cause_text sizes f GroupOutOfRange = codes "group " ++ (shown_word_text f ++ group_range_text sizes.choices.groups)
cause_text sizes f UnprintableByte = codes "byte " ++ decimal (byte_at f.text.now f.spot.place)
    ++ codes " isn't printable ASCII"
cause_text sizes f LineTooLong = codes "the line has more than 1024 bytes"
cause_text sizes f InputTooLong = codes "the script has more than 1048576 bytes"
cause_text sizes f SecondGo = codes "a second go"

-- the line of a finding
abbrev pub finding_text : List ℕ → Config → Finding → List ℕ
finding_text name sizes f =
    name ++ codes ":" ++ decimal f.line ++ codes ":" ++ decimal (f.spot.place + 1) ++ codes ": "
    ++ cause_text sizes f f.spot.cause ++ codes "\n"

-- the line that says that `high` is too low, if it may be the default
abbrev pub default_text : (high batch : ℕ) → List ℕ
default_text high batch =
    codes "sizes: --high " ++ (decimal high
    ++ (codes " (the default) is below --batch " ++ (decimal batch ++ codes "\n")))

-- the same, if it isn't
abbrev pub given_text : (high batch : ℕ) → List ℕ
given_text high batch = codes "sizes: --high " ++ decimal high ++ codes " is below --batch " ++ decimal batch
    ++ codes "\n"

-- the line that says why the sizes are refused, if they are
abbrev pub sizes_text : Config → List ℕ
sizes_text sizes =
    if nat_lt sizes.high sizes.batch then
    if sizes.high == 8 then default_text sizes.high sizes.batch else given_text sizes.high sizes.batch
    else []
