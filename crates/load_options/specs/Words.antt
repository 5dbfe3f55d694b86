-- What the words of a command line ask for, in terms of what clap finds for the options of the program.
use Rattle.std.specs.Prelude.{◌≡◌, ℕ, Bool, true, false, List, [], ◌∷◌, ◌++◌, Option, Some, None, Result, Ok, Err, ⊤}
use Rattle.std.specs.Prelude.{pos, codes, if◌then◌else◌, nat_lt, option_and_then, ◌||◌}
use Rattle.std.specs.Option.{option_map_or}
use Rattle.std.specs.Str.{bytes_eq}
use Rattle.std.specs.Str.Parse.{digits_value, without_leading_plus}
use Rattle.clap.specs.Words.{App, Row, Rule, fault_of, new_rule, one_of, subcommand_of}
use Rattle.clap.specs.Simple.{Shape, new_shape}
use Rattle.clap.specs.ValueTests.{is_unsigned_in}
use Rattle.clap.specs.declared.builder.action.ArgAction.TheVariants.{SetTrue}
use Rattle.clap.specs.declared.builder.value_parser.ValueParser.TheVariants.{Signed}
use Rattle.clap.specs.Kinds.{Kinds}
use Rattle.group_tree.specs.Bounds.{most_groups}
use Rattle.zone_blocks.specs.declared.config.Config.{Config}
use Rattle.zone_blocks.specs.declared.choices.Choices.{Choices}
use Rattle.zone_blocks.specs.Config.{most_batch, most_cpus, most_frames, most_high, most_reclaim_batch, most_stock}
use Rattle.zone_blocks.specs.Config.{no_choices}
use Rattle.load_options.specs.declared.task.Options.{Options}
use Rattle.load_options.specs.declared.task.Task.{Task}
use Rattle.load_options.specs.declared.task.Task.TheVariants.{Replay, Steps, Run, Check, Lint, Serve, ServeSteps, Version}
use Rattle.load_options.specs.declared.fault.WordsFault.{WordsFault}
use Rattle.load_options.specs.declared.fault.WordsFault.TheVariants.{BadWords, NoMemory}

-- an option whose value is a whole number from 1 to `most`, with a default
abbrev pub size_rule : List ℕ → ℕ → List ℕ → Rule
size_rule name most default = record (new_rule name) {
  long = Some name;
  value_names = 1;
  parser = Some (Signed (pos 1) (pos most));
  defaults = default ∷ [];
}

-- an option without a value, given or not
abbrev pub flag_rule : List ℕ → Rule
flag_rule name = record (new_rule name) {
  long = Some name;
  action = Some SetTrue;
}

-- the command with more options
abbrev pub with_options : Shape → List Rule → Shape
with_options shape rules = record shape { rules = shape.rules ++ rules }

-- the command with one more option
abbrev pub with_option : Shape → Rule → Shape
with_option shape rule = with_options shape (rule ∷ [])

-- the options of the sizes
abbrev pub size_rules : List Rule
size_rules =
    size_rule (codes "frames") most_frames (codes "16")
    ∷ size_rule (codes "cpus") most_cpus (codes "2")
    ∷ size_rule (codes "batch") most_batch (codes "4")
    ∷ size_rule (codes "high") most_high (codes "8")
    ∷ size_rule (codes "stock") most_stock (codes "4")
    ∷ size_rule (codes "reclaim-batch") most_reclaim_batch (codes "1")
    ∷ size_rule (codes "groups") most_groups (codes "64")
    ∷ []

-- the options of the sizes and choices
abbrev pub zone_rules : List Rule
zone_rules = size_rules ++ flag_rule (codes "no-kill") ∷ flag_rule (codes "proportional") ∷ []

-- the options that both subcommands that answer scripts have
abbrev pub task_rules : List Rule
task_rules =
    ((zone_rules ++ flag_rule (codes "audit") ∷ []) ++ flag_rule (codes "numbered") ∷ [])
    ++ flag_rule (codes "strict") ∷ []

-- the subcommand on scripts of this name, with the options of the sizes and choices
abbrev pub sized_shape : List ℕ → Shape
sized_shape name = record (new_shape name) { rules = zone_rules }

-- the subcommand of this name that answers scripts, with its options
abbrev pub command_shape : List ℕ → Shape
command_shape name = record (new_shape name) { rules = task_rules }

-- `replay`, which has three more options
abbrev pub replay_shape : Shape
replay_shape = record (command_shape (codes "replay")) {
  rules =
      ((task_rules ++ flag_rule (codes "explain") ∷ []) ++ flag_rule (codes "check") ∷ [])
      ++ flag_rule (codes "steps") ∷ [];
}

-- `serve`, which has three more options than the sizes and choices
abbrev pub serve_shape : Shape
serve_shape = record (sized_shape (codes "serve")) {
  rules =
      ((zone_rules ++ flag_rule (codes "audit") ∷ []) ++ flag_rule (codes "explain") ∷ [])
      ++ flag_rule (codes "steps") ∷ [];
}

-- `check`, which has one option
abbrev pub check_shape : Shape
check_shape = record (new_shape (codes "check")) { rules = flag_rule (codes "all") ∷ [] }

-- the program without its subcommands
abbrev pub bare_program : App
bare_program = record {
  top = record (new_shape (codes "memcg")) { no_binary_name = true; subcommand_required = true; has_version = true };
  subs = [];
}

-- the program: it requires one of its subcommands, and its own name is not among the words
abbrev pub program : App
program = record {
  top = record (new_shape (codes "memcg")) {
    no_binary_name = true;
    subcommand_required = true;
    has_version = true;
    is_leaf = false;
  };
  subs =
      replay_shape ∷ command_shape (codes "run") ∷ check_shape ∷ sized_shape (codes "lint") ∷ serve_shape ∷ [];
}

-- the number that a text writes, in decimal digits and perhaps after a plus, if it is from 1 to `most`
abbrev pub number_in : ℕ → List ℕ → Option ℕ
number_in most text = if is_unsigned_in 1 most text then Some (digits_value 10 (without_leading_plus text)) else None

-- the number, if it is from 1 to `most`
abbrev pub number_kept : ℕ → ℕ → Option ℕ
number_kept most n = if nat_lt n 1 || nat_lt most n then None else Some n

-- the value of an option, given or by default
abbrev pub size_in : List ℕ → ℕ → List Row → Option ℕ
size_in name most found = option_and_then (number_in most) (one_of name found)

-- whether an option without a value is given
abbrev pub is_given : List ℕ → List Row → Bool
is_given name found = option_map_or (λ text. bytes_eq text (codes "true")) (one_of name found) false

-- f of the value, if there is one: this chains the lines of a `do`
infixl 10 ◌>>=◌
abbrev ◌>>=◌ : {A B : Type 0} → Option A → (A → Option B) → Option B
o >>= f = option_and_then f o

-- each choice is the value of its own option
abbrev pub choices_in : List Row → Option Choices
choices_in found = do
  reclaim_batch ← size_in (codes "reclaim-batch") most_reclaim_batch found
  groups ← size_in (codes "groups") most_groups found
  Some (record {
    is_proportional = is_given (codes "proportional") found;
    is_no_kill = is_given (codes "no-kill") found;
    reclaim_batch = reclaim_batch;
    groups = groups;
  })

-- each size is the value of its own option
abbrev pub sizes_in : List Row → Option Config
sizes_in found = do
  frames ← size_in (codes "frames") most_frames found
  cpus ← size_in (codes "cpus") most_cpus found
  batch ← size_in (codes "batch") most_batch found
  high ← size_in (codes "high") most_high found
  stock ← size_in (codes "stock") most_stock found
  choices ← choices_in found
  Some (record { frames = frames; cpus = cpus; batch = batch; high = high; stock = stock; choices = choices })

-- whether a flag is given that both subcommands that answer scripts have
abbrev pub has_task_flag : List Row → Bool
has_task_flag found =
    is_given (codes "audit") found || (is_given (codes "numbered") found || is_given (codes "strict") found)

-- whether a flag of `replay` is given besides `--steps`
abbrev pub has_other_flag : List Row → Bool
has_other_flag found =
    is_given (codes "explain") found || (is_given (codes "check") found || has_task_flag found)

-- the task of `replay` that writes the answers, with its own options
abbrev pub answering_task : List Row → Task
answering_task found = Replay (is_given (codes "explain") found) (is_given (codes "check") found)

-- the task of `replay`, with the options of this task alone; `--steps` goes with no other flag
abbrev pub replay_task_in : List Row → Option Task
replay_task_in found =
    if is_given (codes "steps") found
    then if has_other_flag found then None else Some Steps
    else Some (answering_task found)

-- the task of `serve`, with its own options; `--steps` goes with no other flag
abbrev pub serve_task_in : List Row → Option Task
serve_task_in found =
    if is_given (codes "steps") found
    then if is_given (codes "explain") found || is_given (codes "audit") found then None else Some ServeSteps
    else Some (Serve (is_given (codes "explain") found))

-- the task on a script that has this name
abbrev pub task_in : List ℕ → List Row → Option Task
task_in name found =
    if bytes_eq name (codes "replay") then replay_task_in found
    else if bytes_eq name (codes "run") then Some Run
    else if bytes_eq name (codes "lint") then Some Lint
    else if bytes_eq name (codes "serve") then serve_task_in found else None

-- the options that are given under the name of a subcommand on scripts
abbrev pub script_options_under : List ℕ → List Row → Option Options
script_options_under name found = do
  task ← task_in name found
  sizes ← sizes_in found
  Some (record {
    task = task;
    sizes = sizes;
    is_audited = is_given (codes "audit") found;
    is_numbered = is_given (codes "numbered") found;
    is_strict = is_given (codes "strict") found;
  })

-- the options of a task that boots nothing: it has the sizes that are the default of the other tasks
abbrev pub bare_options : Task → Options
bare_options task = record {
  task = task;
  sizes = record { frames = 16; cpus = 2; batch = 4; high = 8; stock = 4; choices = no_choices };
  is_audited = false;
  is_numbered = false;
  is_strict = false;
}

-- the options that are found under the name of a subcommand
abbrev pub options_under : List ℕ → List Row → Option Options
options_under name found =
    if bytes_eq name (codes "check") then Some (bare_options (Check (is_given (codes "all") found)))
    else script_options_under name found

-- what was found, if there is no fault
abbrev pub if_none : Kinds → Option Options → Option Options
if_none [] asked = asked
if_none (fault ∷ faults) asked = None

-- whether the words ask for the version: they are this one word
abbrev pub asks_version : List (List ℕ) → Bool
asks_version (word ∷ []) = bytes_eq word (codes "--version") || bytes_eq word (codes "-V")
asks_version words = false

-- what the words ask for, if it isn't the version: clap finds no fault in them, and these options under the name of a
-- subcommand
abbrev pub parsed_options : List (List ℕ) → Option Options
parsed_options words =
    if_none (fault_of program words) (option_and_then (λ p. options_under p.0 p.1) (subcommand_of program words))

-- what the words ask for
unfoldable pub options_of : List (List ℕ) → Option Options
options_of words = if asks_version words then Some (bare_options Version) else parsed_options words

-- the answer to the words: the options that they ask for; a fault, if they ask for none; or that memory ran out
abbrev pub GivesOptions : Option Options → Result Options WordsFault → Type 0
GivesOptions asked (Ok options) = asked ≡ Some options
GivesOptions asked (Err (BadWords text)) = asked ≡ None
GivesOptions asked (Err (NoMemory e)) = ⊤
