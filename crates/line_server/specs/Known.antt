-- What contracts see of a server.
use Rattle.std.specs.Prelude.{◌≡◌}
use Rattle.zone_blocks.specs.declared.config.Config.{Config}
use Rattle.boot_words.specs.Tables.{KnownTable}
use Rattle.script_replay.specs.Lines.{SystemState}
use Rattle.line_server.specs.declared.form.SessionForm.{SessionForm}
use Rattle.line_server.specs.Forms.{SessionTerms, session_terms}

-- a boot that answers: its sizes, what it writes for a line, and what lies behind the lock and at the CPUs
pub record KnownServer : Type 0 where
  pub sizes : Config
  pub form : SessionForm
  pub state : SystemState

-- the terms on which it serves lines
abbrev pub terms_of : KnownTable → KnownServer → SessionTerms
terms_of frames server = session_terms frames server.form

-- all but the state is as before
pub record KeepsTerms (before after : KnownServer) : Type 0 where
  pub sizes : after.sizes ≡ before.sizes
  pub form : after.form ≡ before.form
