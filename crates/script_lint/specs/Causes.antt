-- Why no good line goes on at some place of a line: each cause as a test of the line's text and the place.
use Rattle.std.specs.Prelude.{ℕ, zero, suc, ◌+◌, ◌-◌, Bool, true, false, not, ◌&&◌, ◌||◌, ◌==◌, List, [], ◌∷◌, count_by}
use Rattle.std.specs.Prelude.{if◌then◌else◌, drop, is_some, nat_lt, slice_get, take, Option, None, Some}
use Rattle.std.specs.List.{find}
use Rattle.std.specs.Str.{bytes_eq}
use Rattle.script_lines.specs.{is_go, all_verbs, form_of_verb, name_of_verb}
use Rattle.script_lines.specs.declared.verb.ArgumentForm.{ArgumentForm}
use Rattle.script_lines.specs.declared.verb.ArgumentForm.TheVariants.{Group, PathOrder}
use Rattle.script_lines.specs.declared.verb.Verb.{Verb}
use Rattle.script_lint.specs.declared.finding.Cause.{Cause}
use Rattle.script_lint.specs.declared.finding.Cause.TheVariants.{ByteOrderMark, WideText, Gzip, LateComment, NoCpu, CpuOutOfRange, UnknownCommand}
use Rattle.script_lint.specs.declared.finding.Cause.TheVariants.{TooFewWords, TooManyWords, TwoSpaces, SpaceAtEnd, Tab, CarriageReturn}
use Rattle.script_lint.specs.declared.finding.Cause.TheVariants.{NumberOutOfRange, FrameOutOfZone, GroupOutOfRange, UnprintableByte, SecondGo}

-- ---- the text and the place

-- the byte, or a line feed if there is none
abbrev pub or_feed : Option ℕ → ℕ
or_feed None = 10
or_feed (Some b) = b

-- the byte at this place; at the end of the line it is the line feed
abbrev pub byte_at : List ℕ → ℕ → ℕ
byte_at text place = or_feed (slice_get text place)

-- the byte before this place; at the beginning of the line it is the line feed of the line before
abbrev pub byte_before : List ℕ → ℕ → ℕ
byte_before text place = if place == 0 then 10 else byte_at text (place - 1)

-- how many spaces are before this place
abbrev pub spaces_before : List ℕ → ℕ → ℕ
spaces_before text place = count_by (λ b. b == 32) (take place text)

-- what follows the first space
abbrev pub after_space : List ℕ → List ℕ
after_space [] = []
after_space (b ∷ bs) = if b == 32 then bs else after_space bs

-- what is before the first space
abbrev pub until_space : List ℕ → List ℕ
until_space [] = []
until_space (b ∷ bs) = if b == 32 then [] else b ∷ until_space bs

-- the word after so many spaces
abbrev pub word_behind : ℕ → List ℕ → List ℕ
word_behind zero text = until_space text
word_behind (suc n) text = word_behind n (after_space text)

-- the word that the place is in
abbrev pub word_at : List ℕ → ℕ → List ℕ
word_at text place = word_behind (spaces_before text place) text

-- ---- bytes

-- a decimal digit
abbrev pub is_digit : ℕ → Bool
is_digit b = nat_lt 47 b && nat_lt b 58

-- a byte of the printable ASCII that isn't a space
abbrev pub is_printable : ℕ → Bool
is_printable b = nat_lt 32 b && nat_lt b 127

-- a space, a tab, a carriage return, or a line feed
abbrev pub is_gap : ℕ → Bool
is_gap b = b == 32 || b == 9 || b == 13 || b == 10

-- a space or a tab
abbrev pub is_blank : ℕ → Bool
is_blank b = b == 32 || b == 9

-- ---- the causes

-- the text begins with the byte order mark of UTF-8 (RFC 3629, section 6)
abbrev pub is_byte_order_mark : List ℕ → ℕ → Bool
is_byte_order_mark text place =
    (place == 0) && (byte_at text 0 == 239) && (byte_at text 1 == 187) && (byte_at text 2 == 191)

-- the text begins with a byte order mark of UTF-16 (RFC 2781, section 3.2), or there is a byte 0, as in its letters
abbrev pub is_wide_text : List ℕ → ℕ → Bool
is_wide_text text place =
    (byte_at text place == 0)
    || ((place == 0) && (((byte_at text 0 == 255) && (byte_at text 1 == 254))
    || ((byte_at text 0 == 254) && (byte_at text 1 == 255))))

-- the text begins as a file of gzip does (RFC 1952, section 2.3.1)
abbrev pub is_gzip : List ℕ → ℕ → Bool
is_gzip text place = (place == 0) && (byte_at text 0 == 31) && (byte_at text 1 == 139)

-- a comment follows, after spaces and tabs or none
abbrev pub is_late_comment : List ℕ → ℕ → Bool
is_late_comment text place = or_feed (find (λ b. not (is_blank b)) (drop place text)) == 35

-- the first word isn't a number: a byte of it is neither a digit nor one of those that have causes of their own
abbrev pub is_no_cpu : List ℕ → ℕ → Bool
is_no_cpu text place =
    (spaces_before text place == 0) && not (is_gap (byte_at text place)) && not (is_digit (byte_at text place))
    && not (is_go text)

-- the first word is a number, and no CPU has it: a digit makes it too great, or it ends as zero
abbrev pub is_cpu_out_of_range : List ℕ → ℕ → Bool
is_cpu_out_of_range text place =
    (spaces_before text place == 0)
    && (is_digit (byte_at text place) || ((byte_at text place == 32) && is_digit (byte_at text 0)))

-- the command of this name
abbrev pub verb_named : List ℕ → Option Verb
verb_named name = find (λ v. bytes_eq (name_of_verb v) name) all_verbs

-- the name of a command, or no name at all
abbrev pub is_known : List ℕ → Bool
is_known [] = true
is_known name = is_some (verb_named name)

-- no command has the second word as its name: a byte leaves all names, or it ends before it is one
abbrev pub is_unknown_command : List ℕ → ℕ → Bool
is_unknown_command text place =
    (spaces_before text place == 1)
    && (not (is_gap (byte_at text place))
    || ((byte_at text place == 32 || byte_at text place == 10) && not (is_known (after_space (take place text)))))

-- a space, and a word before and after it
abbrev pub is_between_words : List ℕ → ℕ → Bool
is_between_words text place =
    (byte_at text place == 32) && not (is_gap (byte_before text place)) && not (is_gap (byte_at text (place + 1)))

-- a space, and another beside it
abbrev pub is_double_space : List ℕ → ℕ → Bool
is_double_space text place = (byte_at text place == 32)
    && (byte_before text place == 32 || byte_at text (place + 1) == 32)

-- the command whose name is the line's second word
abbrev pub verb_of : List ℕ → Option Verb
verb_of text = verb_named (word_behind 1 text)

-- a path and an order
abbrev pub is_order : ArgumentForm → Bool
is_order PathOrder = true
is_order other = false

-- the number of a group
abbrev pub is_group : ArgumentForm → Bool
is_group Group = true
is_group other = false

-- the command names an order
abbrev pub takes_order : Option Verb → Bool
takes_order None = false
takes_order (Some verb) = is_order (form_of_verb verb)

-- the command names a group by its number
abbrev pub takes_group : Option Verb → Bool
takes_group None = false
takes_group (Some verb) = is_group (form_of_verb verb)

-- an argument is no number of 32 bits: a byte of it is no digit, or a digit makes an order too great
abbrev pub is_number_out_of_range : List ℕ → ℕ → Bool
is_number_out_of_range text place =
    nat_lt 1 (spaces_before text place) && is_printable (byte_at text place)
    && (not (is_digit (byte_at text place)) || takes_order (verb_of text))

-- a digit makes the number of a group too great
abbrev pub is_group_out_of_range : List ℕ → ℕ → Bool
is_group_out_of_range text place =
    nat_lt 1 (spaces_before text place) && is_digit (byte_at text place) && takes_group (verb_of text)

-- a digit makes the number of a frame too great
abbrev pub is_frame_out_of_zone : List ℕ → ℕ → Bool
is_frame_out_of_zone text place =
    nat_lt 1 (spaces_before text place) && is_digit (byte_at text place) && not (takes_group (verb_of text))

-- the first cause that holds at the place, of those that come late
abbrev pub later_cause_at : List ℕ → ℕ → Cause
later_cause_at text place =
    if byte_at text place == 32 then SpaceAtEnd
    else if byte_at text place == 9 then Tab
    else if byte_at text place == 13 then CarriageReturn
    else if is_number_out_of_range text place then NumberOutOfRange
    else if is_frame_out_of_zone text place then FrameOutOfZone
    else if is_group_out_of_range text place then GroupOutOfRange
    else if not (is_printable (byte_at text place)) then UnprintableByte
    else SecondGo

-- the first cause that holds at the place
abbrev pub cause_at : List ℕ → ℕ → Cause
cause_at text place =
    if is_byte_order_mark text place then ByteOrderMark
    else if is_wide_text text place then WideText
    else if is_gzip text place then Gzip
    else if is_late_comment text place then LateComment
    else if is_no_cpu text place then NoCpu
    else if is_cpu_out_of_range text place then CpuOutOfRange
    else if is_unknown_command text place then UnknownCommand
    else if byte_at text place == 10 then TooFewWords
    else if is_between_words text place then TooManyWords
    else if is_double_space text place then TwoSpaces
    else later_cause_at text place
