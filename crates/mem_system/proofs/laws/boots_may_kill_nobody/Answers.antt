use Rattle.std.proofs.Common.{sym, ◌∙◌}
use Rattle.std.proofs.lemmas.Bool.{false≢true}
use Rattle.mem_system.proofs.laws.boots_may_kill_nobody.Goals as goal

pub returns : goal.returns
returns c cmd reply call served before rest made g chosen is kills =
    let after = served.no_rash before rest made g is kills in
    false≢true (sym after.may.allowed ∙ chosen)
