use Rattle.std.proofs.Common.{◌≡◌, false, Option, Some, sym, ap, ◌∙◌, subst}
use Rattle.std.specs.Prelude.{IfSome}
use Rattle.std.proofs.lemmas.Bool.{false≢true}
use Rattle.group_charge.specs.Charges.{AreCharges, Ledger}
use Rattle.mem_machine.specs.{KnownMachine, Makes, BySteps}
use Rattle.mem_reclaim.specs.declared.sets.Killed.{Killed}
use Rattle.mem_reclaim.specs.{IsKilledBy, KillsVictim, victim_of, with_all_killed, kill_set, IsVictim}
use Rattle.mem_alloc.specs.Kills.{KillsForRoom, has_room_at}
use Rattle.mem_alloc.proofs.Killing.{enough_room, fewer_alive, kills_end, so_far_killed, so_far_nobody, so_far_held, so_far_there}
use Rattle.mem_alloc.proofs.kills.kill_for.Goals as goal

pub kills-init : goal.kills-init
kills-init g c =
    so_far_nobody c.args.requester g.N.BootName.table c.args.limited c.args.pages c.args.machine.now c.note_event.new.self c.note.new.self
    c.note_event.ensures.machine c.note_event.ensures.steps c.note_event.ensures.visit c.note.ensures

pub needs_room-requires : goal.needs_room-requires
needs_room-requires g c =
    so_far_there c.args.requester g.N.BootName.table c.args.limited c.args.pages c.args.machine.now c.kills.machine
    c.kills.invariant c.requires.there

pub returns-then-not-needs_room-clause-kills : goal.returns-then-not-needs_room-clause-kills
returns-then-not-needs_room-clause-kills g c =
    let over : has_room_at c.args.machine.now.ledger c.args.limited c.args.pages ≡ false =
    ap (λ (l : Ledger). has_room_at l c.args.limited c.args.pages) (sym c.charges.ensures) ∙ sym c.has_room_at.ensures ∙ c.if-has_room_at.false in
    kills_end c.args.requester g.N.BootName.table c.args.limited c.args.pages c.args.machine.now c.kills.machine over c.kills.invariant
    (λ needs_room. absurd (false≢true (sym c.if-not-needs_room.true ∙ c.needs_room.ensures.1 needs_room)))

pub kill-requires-clause-there : goal.kill-requires-clause-there
kill-requires-clause-there g c =
    so_far_there c.args.requester g.N.BootName.table c.args.limited c.args.pages c.args.machine.now c.kills.machine
    c.kills.invariant c.requires.there

pub kill-requires-clause-held : goal.kill-requires-clause-held
kill-requires-clause-held g c =
    so_far_held c.args.requester g.N.BootName.table c.args.limited c.args.pages c.args.machine.now c.kills.machine c.kills.invariant c.requires.held

pub returns-then-not-needs_room-clause-visit : goal.returns-then-not-needs_room-clause-visit
returns-then-not-needs_room-clause-visit g c = c.kills.invariant.visit

pub returns-in_default-clause-visit : goal.returns-in_default-clause-visit
returns-in_default-clause-visit g c p v = c.kill.ensures.keeps.visit p (c.kills.invariant.visit p v)

pub returns-in_default-clause-kills : goal.returns-in_default-clause-kills
returns-in_default-clause-kills g c =
    let t = g.N.BootName.table in
    let over : has_room_at c.args.machine.now.ledger c.args.limited c.args.pages ≡ false =
    ap (λ (l : Ledger). has_room_at l c.args.limited c.args.pages) (sym c.charges.ensures) ∙ sym c.has_room_at.ensures ∙ c.if-has_room_at.false in
    let none = subst (λ (o : Option Killed). IsVictim c.kills.machine c.args.limited (victim_of o)) c.in_default.is c.kill.ensures.victim in
    let same : c.kill.new.machine ≡ c.kills.machine =
    subst (λ (o : Option Killed). KillsVictim t c.args.limited o c.kills.machine c.kill.new.machine) c.in_default.is c.kill.ensures.kills in
    subst (λ (y : KnownMachine). BySteps Makes t (KillsForRoom c.args.requester c.args.limited c.args.pages) c.args.machine.now y) (sym same)
    (kills_end c.args.requester t c.args.limited c.args.pages c.args.machine.now c.kills.machine over c.kills.invariant (λ needs_room. none))

pub kills-smaller : goal.kills-smaller
kills-smaller g c =
    let t = g.N.BootName.table in
    let x = c.kills.machine in
    let n = c.kill.new.machine in
    let killed = c.in-Some._killed in
    let charges : AreCharges x.ledger = subst (λ (l : Ledger). AreCharges l) c.charges-charges.ensures c.prove_charges.ensures.legal in
    let most : IsVictim x c.args.limited (Some killed.victim) =
    subst (λ (o : Option Killed). IsVictim x c.args.limited (victim_of o)) c.in-Some.is c.kill.ensures.victim in
    let kills : IsKilledBy t c.args.limited killed x n = subst (λ (o : Option Killed). KillsVictim t c.args.limited o x n) c.in-Some.is c.kill.ensures.kills in
    let marked : n.killed ≡ with_all_killed x.killed (kill_set x killed) =
    subst (λ (o : Option Killed). IfSome o (λ k. n.killed ≡ with_all_killed x.killed (kill_set x k))) c.in-Some.is c.kill.ensures.marked in
    fewer_alive t x n c.args.limited killed c.prove_consistent.ensures charges most kills.killed_root_is marked

pub kills-preserved : goal.kills-preserved
kills-preserved g c =
    let t = g.N.BootName.table in
    let x = c.kills.machine in
    let n = c.kill.new.machine in
    let killed = c.in-Some._killed in
    let charges : AreCharges x.ledger = subst (λ (l : Ledger). AreCharges l) c.charges-charges.ensures c.prove_charges.ensures.legal in
    let most : IsVictim x c.args.limited (Some killed.victim) =
    subst (λ (o : Option Killed). IsVictim x c.args.limited (victim_of o)) c.in-Some.is c.kill.ensures.victim in
    let kills : IsKilledBy t c.args.limited killed x n = subst (λ (o : Option Killed). KillsVictim t c.args.limited o x n) c.in-Some.is c.kill.ensures.kills in
    let marked : n.killed ≡ with_all_killed x.killed (kill_set x killed) =
    subst (λ (o : Option Killed). IfSome o (λ k. n.killed ≡ with_all_killed x.killed (kill_set x k))) c.in-Some.is c.kill.ensures.marked in
    so_far_killed c.args.requester t c.args.limited c.args.pages killed c.args.machine.now
    x n c.kills.invariant (c.needs_room.ensures.0 c.if-not-needs_room.false) c.prove_consistent.ensures charges most kills
    marked c.kill.ensures.stocks c.kill.ensures.keeps

pub returns-then-has_room_at : goal.returns-then-has_room_at
returns-then-has_room_at g c = record {
  kills = enough_room c.args.requester g.N.BootName.table c.args.limited c.args.pages c.args.machine.now
      (ap (λ (l : Ledger). has_room_at l c.args.limited c.args.pages) (sym c.charges.ensures) ∙ sym c.has_room_at.ensures ∙ c.if-has_room_at.true);
  visit = λ p v. v;
}
