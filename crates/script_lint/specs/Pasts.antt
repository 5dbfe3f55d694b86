-- Which groups a script can have made.
use Rattle.std.specs.Prelude.{◌≡◌, ℕ, Bool, true, not, ◌&&◌, List, codes, nat_eq}
use Rattle.std.specs.Borrow.{Bor}
use Rattle.std.specs.HashSet.{HashSet, contains_by}
use Rattle.std.specs.List.{list_any}
use Rattle.std.specs.Cmp.Lexicographic.{pointwise}
use Rattle.std.specs.Str.{bytes_eq}
use Rattle.group_tree.specs.Path.{is_root}
use Rattle.script_lines.specs.Script.{has_go}
use Rattle.script_lines.specs.declared.line.Command.{Command}
use Rattle.script_lines.specs.declared.line.Command.TheVariants.{Rmdir, Read, Write, Alloc, Units}
use Rattle.script_lint.specs.Causes.{word_behind}
use Rattle.script_lint.specs.declared.past.Past.{Past}
use Rattle.script_lint.specs.declared.refusal.Refusal.{Refusal}
use Rattle.script_lint.specs.declared.refusal.Refusal.TheVariants.{NeverMade}

-- the text of a line is `P mkdir` with this path, also if it is bad for another reason
abbrev pub makes : (path text : List ℕ) → Bool
makes path text = bytes_eq (word_behind 1 text) (codes "mkdir") && pointwise nat_eq (word_behind 2 text) path

-- one of the texts makes the group of this path
abbrev pub is_made : List (List ℕ) → List ℕ → Bool
is_made texts path = list_any (makes path) texts

-- After these texts no group has the path. After a `go` the lines of the CPUs have no order, so nothing is known.
abbrev pub lacks_group : List (List ℕ) → List ℕ → Bool
lacks_group texts path = not (has_go texts) && (not (is_root path) && not (is_made texts path))

-- why the command is refused after these lines: it needs a group that no text makes
abbrev pub IsMissing : List (List ℕ) → Command → Refusal → Type 0
IsMissing texts (Rmdir path) NeverMade = lacks_group texts path.now ≡ true
IsMissing texts (Units path) NeverMade = lacks_group texts path.now ≡ true
IsMissing texts (Alloc path order) NeverMade = lacks_group texts path.now ≡ true
IsMissing texts (Read path file) NeverMade = lacks_group texts path.now ≡ true
IsMissing texts (Write path file value) NeverMade = lacks_group texts path.now ≡ true
IsMissing texts command why = ⊥

-- whether the path is one of these
abbrev pub has_path : {S : Type 0} → HashSet (Bor (List ℕ)) S → List ℕ → Bool
has_path paths path = contains_by (λ (key : Bor (List ℕ)). pointwise nat_eq path key.now) paths

-- the past is that of these texts
pub record KnowsPast (past : Past) (texts : List (List ℕ)) : Type 0 where
  pub made : (path : List ℕ) → has_path past.made path ≡ is_made texts path
  pub had_go : past.had_go ≡ has_go texts
