-- What may be missing after the beginning of a good line.
use Rattle.std.specs.Prelude.{ℕ, ◌≤◌, List, [], ◌∷◌, ◌++◌, codes, drop, length}
use Rattle.script_lines.specs.Verb.{form_of_verb, name_of_verb}
use Rattle.script_lines.specs.declared.verb.ArgumentForm.{ArgumentForm}
use Rattle.script_lines.specs.declared.verb.ArgumentForm.TheVariants.{Alone, Path, PathFile, PathFileValue, PathOrder, Group, Frame}
use Rattle.script_lines.specs.declared.verb.Verb.{Verb}

-- one of these makes a good line of a beginning, unless that ends within a command's name
abbrev pub ends : List (List ℕ)
ends =
    codes "" ∷ codes "o" ∷ codes " show" ∷ codes "1 show" ∷ codes "/" ∷ codes "/ /" ∷ codes "/ / " ∷ codes "/ "
    ∷ codes "/ 0" ∷ codes "0" ∷ []

-- what may follow the name of a command of this form
abbrev pub example_text : ArgumentForm → List ℕ
example_text Alone = codes ""
example_text Path = codes " /"
example_text PathFile = codes " / /"
example_text PathFileValue = codes " / / "
example_text PathOrder = codes " / 0"
example_text Group = codes " 0"
example_text Frame = codes " 0"

-- a text that ends with the beginning of this command's name has the form with the rest of the name, and what may follow
abbrev pub IsNamedBy : (List ℕ → Type 0) → (front begun : List ℕ) → Verb → Type 0
IsNamedBy ArgumentForm front begun verb =
    (length begun ≤ length (name_of_verb verb))
    × ArgumentForm (front ++ (drop (length begun) (name_of_verb verb) ++ example_text (form_of_verb verb)))
