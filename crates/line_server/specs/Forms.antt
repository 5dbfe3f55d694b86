-- What a session writes for a line.
use Rattle.std.specs.Prelude.{ℕ, List, ◌++◌, codes}
use Rattle.boot_words.specs.Tables.{KnownTable}
use Rattle.line_server.specs.declared.form.SessionForm.{SessionForm}
use Rattle.line_server.specs.declared.form.SessionForm.TheVariants.{Answers, Steps}
use Rattle.line_server.specs.Logs.{comment}

-- the terms of a session: the table of its boot, and what it writes for a line
pub record SessionTerms : Type 0 where
  pub table : KnownTable
  pub form : SessionForm

-- the terms with this table and this form
abbrev pub session_terms : KnownTable → SessionForm → SessionTerms
session_terms table form = record { table = table; form = form }

-- the line that says why a line is bad: in a log it is a comment
abbrev pub bad_line_answer : SessionForm → (why : List ℕ) → List ℕ
bad_line_answer (Answers is_explained) why = codes "bad: " ++ (why ++ codes "\n")
bad_line_answer Steps why = comment (codes "# bad: " ++ why)
