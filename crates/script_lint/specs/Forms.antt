-- What a line has to be.
use Rattle.std.specs.Prelude.{ℕ, Option, None, Some, List, ◌++◌, codes}
use Rattle.script_lines.specs.Verb.{form_of_verb, name_of_verb}
use Rattle.script_lines.specs.declared.verb.ArgumentForm.{ArgumentForm}
use Rattle.script_lines.specs.declared.verb.ArgumentForm.TheVariants.{Alone, Path, PathFile, PathFileValue, PathOrder, Group, Frame}
use Rattle.script_lines.specs.declared.verb.Verb.{Verb}

-- the words after the name of a command of this form
abbrev pub words_text : ArgumentForm → List ℕ
words_text Alone = codes ""
words_text Path = codes " PATH"
words_text PathFile = codes " PATH FILE"
words_text PathFileValue = codes " PATH FILE VALUE"
words_text PathOrder = codes " PATH ORDER"
words_text Group = codes " GROUP"
words_text Frame = codes " FRAME"

-- the form of this command after the CPU's number; of a line, if there is no command
abbrev pub form_text_of : Option Verb → List ℕ
form_text_of None = codes "a line is P COMMAND or go"
form_text_of (Some verb) = name_of_verb verb ++ words_text (form_of_verb verb)
