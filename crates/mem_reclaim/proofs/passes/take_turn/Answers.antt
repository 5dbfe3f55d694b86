use Rattle.group_tree.proofs.CallerLemmas.{in_subtree-refl}
use Rattle.std.proofs.Common.{sym, ap, ◌∙◌, subst}
use Rattle.boot_words.specs.Pasts.{IsHeld}
use Rattle.group_tree.specs.Groups.{AreGroups, has_group}
use Rattle.group_charge.specs.Charges.{Ledger}
use Rattle.group_charge.specs.declared.note.Note.TheVariants.{Spared}
use Rattle.mem_machine.specs.Machines.{KnownMachine}
use Rattle.mem_machine.specs.Clean.{clean_pages}
use Rattle.mem_reclaim.specs.Passes.{notes_spared}
use Rattle.mem_reclaim.proofs.NoUnits.{turn_of_none}
use Rattle.mem_reclaim.proofs.Passing.{only_noted, turn_none, turn_some}
use Rattle.mem_reclaim.proofs.passes.take_turn.Goals as goal

pub returns-then-keeps_no_unit : goal.returns-then-keeps_no_unit
returns-then-keeps_no_unit g c =
    let m = c.args.machine.now in
    let facts = subst (λ (l : Ledger). AreGroups l.groups) c.charges-charges.ensures c.prove_charges.ensures.legal.groups in
    let taken =
    turn_of_none g.N.BootName.table c.args.group m c.prove_consistent.ensures (sym c.keeps_no_unit.ensures ∙ c.if-keeps_no_unit.true) c.args.pass c.args.target c.args.want facts c.requires.inside
    (in_subtree-refl m.ledger.groups c.args.group c.requires.there) in
    record { turn = taken.turn; keeps = taken.keeps; usage = taken.usage; few = taken.few; leaves = taken.leaves; tried = taken.tried }

pub returns-then-wanted-eq0 : goal.returns-then-wanted-eq0
returns-then-wanted-eq0 g c =
    let m = c.args.machine.now in
    let p = c.protection_of-protection in
    let taken =
    turn_none g.N.BootName.table c.args.pass c.args.target c.args.group c.args.want p.result.min p.result.low c.current-usage.result c.spared_by.result
    c.turn_want-wanted.result m c.note_spared.new.machine c.charges-charges.result.now c.charges-charges.ensures c.prove_charges.ensures.legal.groups
    c.requires.inside p.ensures.min p.ensures.low c.current-usage.ensures c.spared_by.ensures c.turn_want-wanted.ensures
    c.note_spared.ensures c.if-wanted-eq0.true in
    record { turn = taken.turn; keeps = taken.keeps; usage = taken.usage; few = taken.few; leaves = taken.leaves; tried = taken.tried }

pub returns : goal.returns
returns g c =
    let m = c.args.machine.now in
    let p = c.protection_of-protection in
    let e = c.reclaim_group.ensures in
    let taken =
    turn_some g.N.BootName.table c.args.pass c.args.target c.args.group c.args.want p.result.min p.result.low c.current-usage.result c.spared_by.result
    c.turn_want-wanted.result m c.note_spared.new.machine c.charges-charges.result.now c.charges-charges.ensures c.prove_charges.ensures.legal.groups
    c.requires.inside p.ensures.min p.ensures.low c.current-usage.ensures c.spared_by.ensures c.turn_want-wanted.ensures
    c.note_spared.ensures c.if-wanted-eq0.false c.reclaim_group.result c.reclaim_group.new.machine
    e.passes e.keeps (in_subtree-refl m.ledger.groups c.args.group c.requires.there) e.usage e.few e.leaves e.missed in
    record { turn = taken.turn; keeps = taken.keeps; usage = taken.usage; few = taken.few; leaves = taken.leaves; tried = taken.tried }

pub reclaim_group-requires-clause-there : goal.reclaim_group-requires-clause-there
reclaim_group-requires-clause-there g c =
    let m = c.args.machine.now in
    let p = c.protection_of-protection in
    let noted = only_noted (notes_spared c.args.pass (clean_pages m c.args.group) c.args.want c.turn_want-wanted.result) m c.note_spared.new.machine
    (Spared c.args.group c.current-usage.result p.result.min p.result.low) c.note_spared.ensures in
    ap (λ (k : KnownMachine). has_group k.ledger.groups c.args.group) noted
    ∙ c.requires.there

pub reclaim_group-requires-clause-held : goal.reclaim_group-requires-clause-held
reclaim_group-requires-clause-held g c =
    let m = c.args.machine.now in
    let p = c.protection_of-protection in
    let noted = only_noted (notes_spared c.args.pass (clean_pages m c.args.group) c.args.want c.turn_want-wanted.result) m c.note_spared.new.machine
    (Spared c.args.group c.current-usage.result p.result.min p.result.low) c.note_spared.ensures in
    subst (λ (k : KnownMachine). IsHeld g.N.BootName.table k.run.past)
    (sym noted) c.requires.held
