-- How a line is parsed: functions on the list of its words.
use Rattle.std.specs.Prelude.{◌≡◌, ℕ, ◌^◌, ◌&&◌, ◌==◌, not, nat_le, nat_lt, Bool, true, false, List, [], ◌∷◌, Option, Some}
use Rattle.std.specs.Prelude.{None, bytes_eq, codes, decimal, length, if◌then◌else◌}
use Rattle.std.specs.Borrow.{Bor}
use Rattle.std.specs.List.{slice_split}
use Rattle.std.specs.Str.Parse.{digits_value}
use Rattle.group_tree.specs.Bounds.{most_groups}
use Rattle.zone_blocks.specs.Config.{most_cpus, most_frames, no_choices}
use Rattle.step_rules.specs.declared.step.Step.{Step}
use Rattle.step_rules.specs.declared.step.Action.{Action}
use Rattle.step_rules.specs.declared.step.Action.TheVariants as action
use Rattle.step_rules.specs.declared.step.Answer.{Answer}
use Rattle.step_rules.specs.declared.step.Answer.TheVariants as answer
use Rattle.log_lines.specs.declared.line.LogLine.{LogLine}
use Rattle.log_lines.specs.declared.line.LogLine.TheVariants as kinds
use Rattle.log_lines.specs.declared.name.ActionName.{ActionName}
use Rattle.log_lines.specs.declared.name.ActionName.TheVariants.{Lock, Unlock, Number, TwoNumbers, Group, Pages, Fill, Place, Limit, Flag, Make}
use Rattle.log_lines.specs.declared.name.AnswerName.{AnswerName}
use Rattle.log_lines.specs.declared.name.AnswerName.TheVariants as reply
use Rattle.log_lines.specs.Names.{action_named, action_of_group, action_of_number, action_of_two_numbers, action_of_pages, answer_named}
use Rattle.log_lines.specs.Words.{is_path}
use Rattle.log_lines.specs.Line.{is_log_comment, longest_log_line}

infixl 10 ◌>>=◌
-- continues with f if there is a value
abbrev pub ◌>>=◌ : {A B : Type 0} → Option A → (A → Option B) → Option B
None >>= f = None
(Some x) >>= f = f x

-- the result of a function, seen through view, is that of parsing
abbrev pub ParsesTo : {X Y : Type 0} → (X → Y) → Option X → Option Y → Type 0
ParsesTo view (Some x) read = read ≡ Some (view x)
ParsesTo view None read = read ≡ None

-- the words of a text: what its spaces separate
abbrev pub words_of : List ℕ → List (List ℕ)
words_of text = slice_split (λ b. b == 32) text

-- the words that are left of a line
abbrev pub words_left : Option (Bor (List ℕ)) → List (List ℕ)
words_left None = []
words_left (Some text) = words_of text.now

-- a parser takes words from the front, and gives a value and the words after it
abbrev pub ParserOf : Type 0 → Type 0
ParserOf A = List (List ℕ) → Option (A × List (List ℕ))

-- the first word
abbrev pub front_word : ParserOf (List ℕ)
front_word [] = None
front_word (word ∷ words) = Some (word, words)

-- x if the test passes
abbrev pub only_if : {A : Type 0} → Bool → A → Option A
only_if test x = if test then Some x else None

-- the number below 2 ^ 64 whose text the word is
abbrev pub u64_of : List ℕ → Option ℕ
u64_of word = only_if (bytes_eq (decimal (digits_value 10 word)) word && nat_lt (digits_value 10 word) (2 ^ 64))
    (digits_value 10 word)

-- the number below 2 ^ 32 whose text the word is
abbrev pub u32_of : List ℕ → Option ℕ
u32_of word = u64_of word >>= λ n. only_if (nat_lt n (2 ^ 32)) n

-- a number below 2 ^ 64
unfoldable pub wide_at : ParserOf ℕ
wide_at words = front_word words >>= λ word. u64_of word.0 >>= λ n. Some (n, word.1)

-- a number of 32 bits
unfoldable pub u32_at : ParserOf ℕ
u32_at words = front_word words >>= λ word. u32_of word.0 >>= λ n. Some (n, word.1)

-- the number of a group
unfoldable pub group_number_at : ParserOf ℕ
group_number_at words = do
  n ← u32_at words
  g ← only_if (nat_lt n.0 most_groups) n.0
  Some (g, n.1)

-- the order of a block
unfoldable pub block_order_at : ParserOf ℕ
block_order_at words = do
  n ← u32_at words
  k ← only_if (nat_lt n.0 11) n.0
  Some (k, n.1)

-- a limit, or none for `max`
abbrev pub limit_in_word : List ℕ → Option (Option ℕ)
limit_in_word word = if bytes_eq word (codes "max") then Some None else (u32_of word >>= λ n. Some (Some n))

-- a limit
unfoldable pub limit_at : ParserOf (Option ℕ)
limit_at words = front_word words >>= λ word. limit_in_word word.0 >>= λ n. Some (n, word.1)

-- `0` or `1`
abbrev pub flag_of : List ℕ → Option Bool
flag_of word = if bytes_eq word (codes "0") then Some false else only_if (bytes_eq word (codes "1")) true

-- a flag
unfoldable pub flag_at : ParserOf Bool
flag_at words = front_word words >>= λ word. flag_of word.0 >>= λ f. Some (f, word.1)

-- a path
unfoldable pub path_at : ParserOf (List ℕ)
path_at words = front_word words >>= λ word. only_if (is_path word.0) word.0 >>= λ path. Some (path, word.1)

-- the action of this name, with the arguments that follow
unfoldable pub arguments_at : ActionName → ParserOf Action
arguments_at Lock words = Some (action.Lock, words)
arguments_at Unlock words = Some (action.Unlock, words)
arguments_at (Number name) words = u32_at words >>= λ n. Some (action_of_number name n.0, n.1)
arguments_at (TwoNumbers name) words = u32_at words >>= λ m. u32_at m.1 >>= λ n.
    Some (action_of_two_numbers name m.0 n.0, n.1)
arguments_at (Group name) words = group_number_at words >>= λ g. Some (action_of_group name g.0, g.1)
arguments_at (Pages name) words = group_number_at words >>= λ g. u32_at g.1 >>= λ n.
    Some (action_of_pages name g.0 n.0, n.1)
arguments_at Fill words = u32_at words >>= λ p. group_number_at p.1 >>= λ g. u32_at g.1 >>= λ n.
    Some (action.Fill p.0 g.0 n.0, n.1)
arguments_at Place words =
    group_number_at words >>= λ g. block_order_at g.1 >>= λ k. Some (action.PlaceBlock g.0 k.0, k.1)
arguments_at Limit words = group_number_at words >>= λ g. limit_at g.1 >>= λ n. Some (action.SetMax g.0 n.0, n.1)
arguments_at Flag words = group_number_at words >>= λ g. flag_at g.1 >>= λ f. Some (action.SetFlag g.0 f.0, f.1)
arguments_at Make words = path_at words >>= λ p. Some (action.Make p.0, p.1)

-- an action
unfoldable pub action_at : ParserOf Action
action_at words = do
  word ← front_word words
  name ← action_named word.0
  arguments_at name word.1

-- the answer of this name, with the arguments that follow
unfoldable pub results_at : AnswerName → ParserOf Answer
results_at (reply.Alone reached) words = Some (reached, words)
results_at reply.Left words = u32_at words >>= λ n. Some (answer.Left n.0, n.1)
results_at reply.Pages words = wide_at words >>= λ n. Some (answer.Pages n.0, n.1)
results_at reply.Over words = group_number_at words >>= λ g. Some (answer.Over g.0, g.1)
results_at reply.Placed words = u32_at words >>= λ f. block_order_at f.1 >>= λ k.
    Some (answer.Placed (record { at = f.0; order = k.0 }), k.1)
results_at reply.Number words = group_number_at words >>= λ g. Some (answer.Number g.0, g.1)

-- an answer
unfoldable pub answer_at : ParserOf Answer
answer_at words = do
  word ← front_word words
  name ← answer_named word.0
  results_at name word.1

-- the words after this one
abbrev pub after_word : List ℕ → List (List ℕ) → Option (List (List ℕ))
after_word text words = front_word words >>= λ word. only_if (bytes_eq word.0 text) word.1

-- whether no word is left
abbrev pub is_end : List (List ℕ) → Bool
is_end [] = true
is_end (word ∷ words) = false

-- a step and its answer, from all of the words
unfoldable pub parsed_entry : List (List ℕ) → Option (Step × Answer)
parsed_entry words = do
  seat ← u32_at words
  act ← action_at seat.1
  rest ← after_word (codes ">") act.1
  got ← answer_at rest
  reached ← only_if (is_end got.1) got.0
  Some (record { seat = seat.0; action = act.0 }, reached)

-- `groups` and a number of groups, from all of the words
unfoldable pub groups_named : List (List ℕ) → Option ℕ
groups_named words = do
  rest ← after_word (codes "groups") words
  n ← u32_at rest
  last ← only_if (is_end n.1 && not (n.0 == no_choices.groups)) n.0
  only_if (nat_le 1 last && nat_le last most_groups) last

-- how many groups the zone has room for, from all of the words after its CPUs
unfoldable pub parsed_groups : List (List ℕ) → Option ℕ
parsed_groups words = if is_end words then Some no_choices.groups else groups_named words

-- the sizes of a zone, from all of the words
unfoldable pub parsed_zone : List (List ℕ) → Option LogLine
parsed_zone words = do
  frames ← u32_at words
  cpus ← u32_at frames.1
  groups ← parsed_groups cpus.1
  only_if (nat_le 1 frames.0 && nat_le frames.0 most_frames && nat_le 1 cpus.0 && nat_le cpus.0 most_cpus)
      (kinds.Zone frames.0 cpus.0 groups)

-- the line of a text
unfoldable pub line_of : List ℕ → Option LogLine
line_of text =
    if nat_lt longest_log_line (length text) then None
    else (if is_log_comment text then Some kinds.Skipped
    else (front_word (words_of text) >>= λ word.
    if bytes_eq word.0 (codes "zone") then parsed_zone word.1
    else (parsed_entry (words_of text) >>= λ e. Some (kinds.Step e.0 e.1))))
