-- A tree that has no fault to find has room for one more group.
use Rattle.std.proofs.Common.{◌≡◌, Option, None, Some, arith, refl, true}
use Rattle.std.specs.Prelude.{is_none}
use Rattle.std.proofs.lemmas.Bool.{false≢true}
use Rattle.group_tree.specs.declared.fault.Fault.{Fault}
use Rattle.group_tree.specs.Groups.{make_fault}
use Rattle.group_tree.proofs.GroupLemmas.{can_make}
use Rattle.mem_core.specs.Rows.{state_in}
use Rattle.step_rules.proofs.LegalTests.{make_tests}
use Rattle.mem_core.proofs.due.make_answer.Goals as goal

no_fault : (o : Option Fault) → is_none o ≡ true → o ≡ None
no_fault None e = refl
no_fault (Some x) e = absurd (false≢true e)

pub least_free-requires : goal.least_free-requires
least_free-requires c =
    let s = state_in c.args.rows.now in
    let path = c.args.path.now in
    let can = can_make s.groups path (no_fault (make_fault s.groups path) (make_tests s c.args.seat path c.requires.legal).1) in
    record { few = omega (arith, can.room, c.groups-groups.ensures.legal.room) }
