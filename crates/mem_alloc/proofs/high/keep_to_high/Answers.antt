use Rattle.std.proofs.Common.{◌≡◌, ℕ, Some, None, sym, ap, ◌∙◌, subst, arith}
use Rattle.zone_blocks.specs.declared.choices.Choices.{Choices}
use Rattle.boot_words.specs.Tables.{KnownTable}
use Rattle.group_tree.specs.Groups.{has_group}
use Rattle.group_charge.specs.Charges.{Ledger}
use Rattle.group_charge.specs.declared.settings.ReclaimSettings.{ReclaimSettings}
use Rattle.group_charge.specs.declared.note.Note.TheVariants.{High}
use Rattle.step_rules.specs.declared.step.NoteKey.TheVariants as key
use Rattle.mem_machine.specs.{KnownMachine, with_note, note_steps}
use Rattle.mem_reclaim.proofs.Grown.{held_after, held_noted}
use Rattle.mem_reclaim.proofs.Keeping.{keeps_both, keeps_none}
use Rattle.mem_alloc.specs.High.{high_of}
use Rattle.mem_alloc.proofs.HighRooms.{high_has_room, high_keeps, high_reclaimed, no_high}
use Rattle.mem_alloc.proofs.high.keep_to_high.Goals as goal

pub returns-in_default : goal.returns-in_default
returns-in_default g c =
    let t = g.N.BootName.table in
    let none : high_of c.args.machine.now.ledger c.args.group ≡ None =
    ap (λ (l : Ledger). high_of l c.args.group) (sym c.charges.ensures) ∙ ap (λ (s : ReclaimSettings). s.high) (sym c.settings.ensures) ∙ c.in_default.is in
    record { high = no_high t c.args.group c.args.need c.args.machine.now none; keeps = keeps_none t c.args.machine.now }

pub returns-then-from : goal.returns-then-from
returns-then-from g c =
    let t = g.N.BootName.table in
    let some : high_of c.args.machine.now.ledger c.args.group ≡ Some c.in-Some.high =
    ap (λ (l : Ledger). high_of l c.args.group) (sym c.charges.ensures) ∙ ap (λ (s : ReclaimSettings). s.high) (sym c.settings.ensures) ∙ c.in-Some.is in
    let usage = c.current-usage.ensures in
    let low = c.if-from.true in
    record {
      high = high_has_room t c.args.group c.args.need c.args.machine.now c.in-Some.high some (omega (arith, usage, low, c.from.ensures, c.from-2.ensures, c.from-3.ensures));
      keeps = keeps_none t c.args.machine.now;
    }

pub note_event-requires-clause-held : goal.note_event-requires-clause-held
note_event-requires-clause-held g c = held_noted g.N.BootName.table c.args.machine.now c.note.new.self _ c.note.ensures c.requires.held

pub reclaim_in_batches-requires-clause-there : goal.reclaim_in_batches-requires-clause-there
reclaim_in_batches-requires-clause-there g c =
    ap (λ (k : KnownMachine). has_group k.ledger.groups c.args.group) c.note_event.ensures.machine
    ∙ ap (λ (k : KnownMachine). has_group k.ledger.groups c.args.group) c.note.ensures ∙ c.requires.there

pub reclaim_in_batches-requires-clause-held : goal.reclaim_in_batches-requires-clause-held
reclaim_in_batches-requires-clause-held g c =
    let t = g.N.BootName.table in
    held_after t c.note.new.self (note_steps key.High c.args.group) c.note_event.new.self c.note_event.ensures.steps
    (held_noted t c.args.machine.now c.note.new.self _ c.note.ensures c.requires.held)

pub returns-clause-high : goal.returns-clause-high
returns-clause-high g c =
    let m = c.args.machine.now in
    let high = c.in-Some.high in
    let some : high_of m.ledger c.args.group ≡ Some high =
    ap (λ (l : Ledger). high_of l c.args.group) (sym c.charges.ensures) ∙ ap (λ (s : ReclaimSettings). s.high) (sym c.settings.ensures) ∙ c.in-Some.is in
    let usage = c.current-usage.ensures in
    let more = c.if-from.false in
    let chosen : c.choices-batch.result.reclaim_batch ≡ g.N.BootName.table.choices.reclaim_batch =
    ap (λ (k : Choices). k.reclaim_batch) c.choices-batch.ensures ∙ ap (λ (w : KnownTable). w.choices.reclaim_batch) c.args.tables.now.words_are in
    high_reclaimed g.N.BootName.table c.args.group c.args.need m high some (omega (arith, usage, more, c.from.ensures, c.from-2.ensures, c.from-3.ensures)) c.note.new.self c.note_event.new.self
    c.reclaim_in_batches.new.machine c.reclaim_in_batches.result
    (subst (λ (u : ℕ). c.note.new.self ≡ with_note m (High c.args.group high u c.args.need)) usage c.note.ensures)
    c.note_event.ensures.machine c.note_event.ensures.steps c.choices-batch.result.reclaim_batch chosen c.reclaim_in_batches.ensures.rounds c.reclaim_in_batches.ensures.missed

pub returns-clause-keeps : goal.returns-clause-keeps
returns-clause-keeps g c =
    let t = g.N.BootName.table in
    let m = c.args.machine.now in
    let told = subst (λ (u : ℕ). c.note.new.self ≡ with_note m (High c.args.group c.in-Some.high u c.args.need)) c.current-usage.ensures c.note.ensures in
    keeps_both t m c.note_event.new.self c.reclaim_in_batches.new.machine
    (high_keeps t c.args.group c.in-Some.high c.args.need m c.note.new.self c.note_event.new.self told c.note_event.ensures.machine
    c.note_event.ensures.steps c.requires.held c.note_event.ensures.visit)
    c.reclaim_in_batches.ensures.keeps
