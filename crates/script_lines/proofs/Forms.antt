-- The commands by the forms of what follows their names.
use Rattle.std.proofs.Common.{◌≡◌, ℕ, List, Bor, refl}
use Rattle.script_lines.specs.Verb.{Alone, Arguments, Frame, Group, Path, PathFile, PathFileValue, PathOrder, form_of_verb, its_verb, words_of_command}
use Rattle.script_lines.specs.declared.line.Command.{Command}
use Rattle.script_lines.specs.declared.line.Command.TheVariants as command
use Rattle.script_lines.specs.declared.verb.ArgumentForm.{ArgumentForm}
use Rattle.script_lines.specs.declared.verb.ArgumentForm.TheVariants as form
use Rattle.script_lines.specs.declared.verb.Verb.{Verb}
use Rattle.script_lines.specs.declared.verb.Verb.TheVariants.{Mkdir, Rmdir, Write, Read, Alloc, Fast, Release, Get, Put, Settle}
use Rattle.script_lines.specs.declared.verb.Verb.TheVariants.{OnFrame, Blocks, Show, Stock, Units}

abbrev pub form_of : Arguments → ArgumentForm
form_of Alone = form.Alone
form_of (Path path) = form.Path
form_of (PathFile path file) = form.PathFile
form_of (PathFileValue path file value) = form.PathFileValue
form_of (PathOrder path order) = form.PathOrder
form_of (Group group) = form.Group
form_of (Frame frame) = form.Frame

-- the arguments of a command have the form that its name asks for
pub its_form : (command : Command) → form_of (words_of_command command).1 ≡ form_of_verb (its_verb command)
its_form (command.Mkdir path) = refl
its_form other = refl

-- a text that is borrowed from nowhere
abbrev lent : List ℕ → Bor (List ℕ)
lent text = record { ref_ptr = (0, 0); now = text }

-- a name and arguments of its form are a command
pub made : (v : Verb) (arguments : Arguments) → form_of arguments ≡ form_of_verb v → (command : Command) × (words_of_command command ≡ (v, arguments))
made Mkdir (Path path) e = (command.Mkdir (lent path), refl)
made Rmdir (Path path) e = (command.Rmdir (lent path), refl)
made Write (PathFileValue path file value) e = (command.Write (lent path) (lent file) (lent value), refl)
made Read (PathFile path file) e = (command.Read (lent path) (lent file), refl)
made Alloc (PathOrder path order) e = (command.Alloc (lent path) order, refl)
made Fast (Group group) e = (command.Fast group, refl)
made Release (Frame frame) e = (command.Release frame, refl)
made Get (Frame frame) e = (command.Get frame, refl)
made Put (Frame frame) e = (command.Put frame, refl)
made Settle Alone e = (command.Settle, refl)
made (OnFrame act) (Frame frame) e = (command.OnFrame act frame, refl)
made Blocks Alone e = (command.Blocks, refl)
made Show Alone e = (command.Show, refl)
made Stock Alone e = (command.Stock, refl)
made Units (Path path) e = (command.Units (lent path), refl)
made v arguments e = cc
