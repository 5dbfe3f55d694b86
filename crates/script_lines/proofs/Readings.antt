-- What a text says, once it is cut at its first space.
use Rattle.std.proofs.Common.{◌≡◌, ◌≢◌, ℕ, List, ◌∷◌, ◌++◌, Option, None, Some, MatchOption, subst, sym, ap, ◌∙◌, codes, true, false, inl, inr, ◌<◌, [], arith, refl, length, nat_eq}
use Rattle.std.proofs.lemmas.Bool.{eqb-true, ne_eqb}
use Rattle.std.proofs.lemmas.Str.Parse.{digit_from_value}
use Rattle.std.specs.Str.Parse.{AllDigits}
use Rattle.zone_blocks.specs.declared.config.Config.{Config}
use Rattle.script_lines.specs.Script.{BeginsWithName, HasArguments, IsAllocText, IsCommandText, IsCut, IsPathText}
use Rattle.script_lines.specs.Script.{IsLineText, IsReadText, IsRequestText, IsWriteText, WritesNumber, is_go, is_skipped}
use Rattle.script_lines.specs.declared.line.Line.{Line}
use Rattle.script_lines.specs.declared.line.Line.TheVariants.{Go, At}
use Rattle.script_lines.specs.declared.line.Command.{Command}
use Rattle.script_lines.specs.Verb.{Alone, Arguments, IsArguments, IsNameWith, form_of_verb, its_verb, name_of_verb, words_of_command}
use Rattle.script_lines.specs.declared.verb.ArgumentForm.TheVariants as form
use Rattle.script_lines.specs.declared.verb.Verb.{Verb}
use Rattle.script_lines.proofs.Forms.{form_of, its_form}
use Rattle.script_lines.proofs.Verbs.{name_no_space, same_verb}
use Rattle.script_lines.proofs.Cuts.{cut_once, digits_no_space, no_cut, path_no_space}

-- what a `None` says
pub on_none : {T : Type 0} (r : Option T) (P : Type 0) (Q : T → Type 0) → r ≡ None → P → MatchOption r P Q
on_none {T} r P Q is_none p = let F : Option T → Type 0 = λ o. MatchOption o P Q in subst F (sym is_none) p

-- a text that is neither `go` nor a request is no line
pub not_asked : (sizes : Config) (n : ℕ) (text : List ℕ) → is_go text ≡ false
    → ((cpu : ℕ) (command : Command) → ¬ IsRequestText sizes cpu command text) → (line : Line) → ¬ IsLineText sizes n line text
not_asked sizes n text goes none Go is = let now : is_go (codes "go") ≡ false = rw is at goes in cc
not_asked sizes n text goes none (At number cpu command) is = none cpu command is.1

digits_ask : (ds rest : List ℕ) → 0 < length ds → AllDigits 10 ds → is_skipped (ds ++ 32 ∷ rest) ≡ false
digits_ask [] rest some all = absurd (omega arith)
digits_ask (c ∷ cs) rest some all = ne_eqb c 35 (λ e. let range = digit_from_value c all.0 in omega arith)

digits_no_go : (ds rest : List ℕ) → 0 < length ds → AllDigits 10 ds → is_go (ds ++ 32 ∷ rest) ≡ false
digits_no_go [] rest some all = absurd (omega arith)
digits_no_go (c ∷ cs) rest some all =
    let other : nat_eq c 103 ≡ false = ne_eqb c 103 (λ e. let range = digit_from_value c all.0 in omega arith) in
    rw other refl

-- a request asks for something
pub request_asks : (sizes : Config) (cpu : ℕ) (command : Command) (text : List ℕ) → IsRequestText sizes cpu command text → is_skipped text ≡ false
request_asks sizes cpu command text is = rw is.parts (digits_ask is.digits is.rest is.writes.digits.0 is.writes.digits.1)

-- and isn't `go`
pub request_no_go : (sizes : Config) (cpu : ℕ) (command : Command) (text : List ℕ) → IsRequestText sizes cpu command text → is_go text ≡ false
request_no_go sizes cpu command text is = rw is.parts (digits_no_go is.digits is.rest is.writes.digits.0 is.writes.digits.1)

-- what isn't asked for isn't `go`
pub skipped_no_go : (text : List ℕ) → is_skipped text ≡ true → is_go text ≡ false
skipped_no_go [] e = refl
skipped_no_go (b ∷ bs) e = let hash : b ≡ 35 = eqb-true b 35 e in rw hash refl

-- what follows the path of `alloc` is its order
pub alloc_order : (text w r : List ℕ) → IsCut text w r → (path : List ℕ) (order : ℕ) → IsAllocText path order text → WritesNumber r order
alloc_order text w r cut path order is =
    subst (λ (x : List ℕ). WritesNumber x order) (sym (cut_once text w r path is.digits cut (path_no_space path is.path_text) is.parts).1) is.writes

-- what follows the path of `read` is its file
pub read_file : (text w r : List ℕ) → IsCut text w r → (path file : List ℕ) → IsReadText path file text → IsPathText r
read_file text w r cut path file is =
    subst IsPathText (sym (cut_once text w r path file cut (path_no_space path is.path_text) is.parts).1) is.file_text

-- what follows the path of `write` is its file and value
pub write_rest : (text w r : List ℕ) → IsCut text w r → (path file value : List ℕ) → IsWriteText path file value text → r ≡ file ++ 32 ∷ value
write_rest text w r cut path file value is = (cut_once text w r path (file ++ 32 ∷ value) cut (path_no_space path is.path_text) is.parts).1

-- the CPU and the command are the parts of the cut
pub request_parts : (sizes : Config) (text w r : List ℕ) → IsCut text w r → (cpu : ℕ) (command : Command)
    → IsRequestText sizes cpu command text → WritesNumber w cpu × IsCommandText sizes command r
request_parts sizes text w r cut cpu command is =
    let same = cut_once text w r is.digits is.rest cut (digits_no_space is.digits is.writes.digits.1) is.parts in
    let is_number : WritesNumber w cpu = subst (λ (x : List ℕ). WritesNumber x cpu) (sym same.0) is.writes in
    let is_command : IsCommandText sizes command r = subst (IsCommandText sizes command) (sym same.1) is.command_text in
    (is_number, is_command)

-- what the word before the first space and the rest of the text are, if the text is a name with arguments
name_parts : (sizes : Config) (text w r : List ℕ) → IsCut text w r → (v : Verb) (arguments : Arguments)
    → IsNameWith sizes (name_of_verb v) arguments text → (w ≡ name_of_verb v) × IsArguments sizes arguments r
name_parts sizes text w r cut v Alone is = absurd (no_cut (name_of_verb v) w r (name_no_space v) (sym is ∙ cut.parts))
name_parts sizes text w r cut v arguments is =
    let same = cut_once text w r (name_of_verb v) is.0 cut (name_no_space v) is.1 in
    (same.0, subst (IsArguments sizes arguments) (sym same.1) is.2)

pub command_parts : (sizes : Config) (text w r : List ℕ) → IsCut text w r → (command : Command) → IsCommandText sizes command text
    → (w ≡ name_of_verb (its_verb command)) × HasArguments sizes command r
command_parts sizes text w r cut command is = name_parts sizes text w r cut (its_verb command) (words_of_command command).1 is

begins_with : (sizes : Config) (text : List ℕ) (v : Verb) (arguments : Arguments) → IsNameWith sizes (name_of_verb v) arguments text → BeginsWithName v text
begins_with sizes text v Alone is = inl is
begins_with sizes text v arguments is = inr (is.0, is.1)

-- the text of a command begins with its name
pub begins : (sizes : Config) (text : List ℕ) (command : Command) → IsCommandText sizes command text → BeginsWithName (its_verb command) text
begins sizes text command is = begins_with sizes text (its_verb command) (words_of_command command).1 is

-- a name that doesn't stand alone is no text of a command
not_whole : (sizes : Config) (text : List ℕ) (v w : Verb) (arguments : Arguments) → text ≡ name_of_verb v → form_of arguments ≡ form_of_verb w
    → form_of_verb v ≢ form.Alone → ¬ IsNameWith sizes (name_of_verb w) arguments text
not_whole sizes text v w Alone e its more is = let same : v ≡ w = same_verb v w (sym e ∙ is) in more (ap form_of_verb same ∙ sym its)
not_whole sizes text v w arguments e its more is = no_cut (name_of_verb v) (name_of_verb w) is.0 (name_no_space v) (sym e ∙ is.1)

pub not_alone : (sizes : Config) (text : List ℕ) (v : Verb) → text ≡ name_of_verb v → form_of_verb v ≢ form.Alone → (command : Command)
    → ¬ IsCommandText sizes command text
not_alone sizes text v e more command is =
    not_whole sizes text v (its_verb command) (words_of_command command).1 e (its_form command) more is

-- no command is that of the text where none has the arguments
pub no_command : (sizes : Config) (text r : List ℕ) (v : Verb) → IsCut text (name_of_verb v) r
    → ((command : Command) → its_verb command ≡ v → ¬ HasArguments sizes command r) → (command : Command) → ¬ IsCommandText sizes command text
no_command sizes text r v cut none command is =
    let parts = command_parts sizes text (name_of_verb v) r cut command is in
    none command (sym (same_verb v (its_verb command) parts.0)) parts.1

-- a text of this name and these arguments
named_parts : (sizes : Config) (text r : List ℕ) (v : Verb) → IsCut text (name_of_verb v) r → (arguments : Arguments)
    → IsArguments sizes arguments r → IsNameWith sizes (name_of_verb v) arguments text
named_parts sizes text r v cut Alone has = absurd has
named_parts sizes text r v cut arguments has = (r, cut.parts, has)

-- the command of the text has this name and these arguments
pub is_command : (sizes : Config) (text r : List ℕ) (v : Verb) → IsCut text (name_of_verb v) r → (command : Command)
    → its_verb command ≡ v → HasArguments sizes command r → IsCommandText sizes command text
is_command sizes text r v cut command same has =
    let arguments = (words_of_command command).1 in
    subst (λ w. IsNameWith sizes (name_of_verb w) arguments text) (sym same) (named_parts sizes text r v cut arguments has)

-- what the arguments say is what the text says
pub from_arguments : (sizes : Config) (text r : List ℕ) (v : Verb) (found : Option Command) → IsCut text (name_of_verb v) r
    → MatchOption found ((command : Command) → its_verb command ≡ v → ¬ HasArguments sizes command r)
    (λ command. (its_verb command ≡ v) × HasArguments sizes command r)
    → MatchOption found ((command : Command) → ¬ IsCommandText sizes command text) (λ command. IsCommandText sizes command text)
from_arguments sizes text r v None cut is = no_command sizes text r v cut is
from_arguments sizes text r v (Some command) cut is = is_command sizes text r v cut command is.0 is.1
