use Rattle.std.proofs.Common.{◌≡◌, true, List, refl, sym, ap, ◌∙◌, subst}
use Rattle.group_tree.specs.declared.group.Group.{Group}
use Rattle.group_tree.specs.Groups.{has_group}
use Rattle.group_charge.specs.Charges.{Ledger, with_max_noted}
use Rattle.mem_machine.specs.{KnownMachine, drain_stocks_steps, note_max_steps}
use Rattle.mem_alloc.specs.Kills.{has_room_at}
use Rattle.mem_alloc.proofs.Lowering.{Lowers, lowers_both, note_lowers, all_lower, lowered_there}
use Rattle.mem_alloc.proofs.Killing.{allowed_lower}
use Rattle.mem_reclaim.proofs.Grown.{held_after}
use Rattle.mem_alloc.proofs.Making.{clears_by, limit_held, limit_visits, relieves_by}
use Rattle.mem_alloc.proofs.room.make_room.Goals as goal

pub note_event-requires-clause-held : goal.note_event-requires-clause-held
note_event-requires-clause-held g c =
    limit_held g.N.BootName.table c.args.limited c.args.pages c.args.machine.now c.note_limit.new.machine c.note_limit.ensures c.requires.held

pub drain_stocks-requires-clause-held : goal.drain_stocks-requires-clause-held
drain_stocks-requires-clause-held g c =
    held_after g.N.BootName.table c.note_limit.new.machine (note_max_steps c.args.limited) c.note_event.new.self c.note_event.ensures.steps
    (limit_held g.N.BootName.table c.args.limited c.args.pages c.args.machine.now c.note_limit.new.machine c.note_limit.ensures c.requires.held)

pub reclaim_for-requires-clause-held : goal.reclaim_for-requires-clause-held
reclaim_for-requires-clause-held g c =
    let t = g.N.BootName.table in
    let drains = c.drain_stocks.ensures.drains in
    held_after t c.note_event.new.self (drain_stocks_steps drains.drains) c.drain_stocks.new.self drains.steps
    (held_after t c.note_limit.new.machine (note_max_steps c.args.limited) c.note_event.new.self c.note_event.ensures.steps
    (limit_held t c.args.limited c.args.pages c.args.machine.now c.note_limit.new.machine c.note_limit.ensures c.requires.held))

pub kill_for_charge-requires-clause-held : goal.kill_for_charge-requires-clause-held
kill_for_charge-requires-clause-held g c =
    let t = g.N.BootName.table in
    let drains = c.drain_stocks.ensures.drains in
    let reclaims = c.reclaim_for.ensures.reclaims in
    held_after t c.drain_stocks.new.self reclaims.steps c.reclaim_for.new.machine reclaims.makes
    (held_after t c.note_event.new.self (drain_stocks_steps drains.drains) c.drain_stocks.new.self drains.steps
    (held_after t c.note_limit.new.machine (note_max_steps c.args.limited) c.note_event.new.self c.note_event.ensures.steps
    (limit_held t c.args.limited c.args.pages c.args.machine.now c.note_limit.new.machine c.note_limit.ensures c.requires.held)))

pub reclaim_for-requires-clause-there : goal.reclaim_for-requires-clause-there
reclaim_for-requires-clause-there g c =
    let sub = c.drain_stocks.ensures.drains in
    let noted : Lowers g.N.BootName.table c.args.machine.now c.note_event.new.self =
    subst (λ (y : KnownMachine). Lowers g.N.BootName.table c.args.machine.now y)
    (sym (c.note_event.ensures.machine ∙ ap (λ (y : KnownMachine). record y { ledger = with_max_noted y.ledger c.args.limited; run = c.note_event.new.self.run }) c.note_limit.ensures))
    (note_lowers g.N.BootName.table c.args.machine.now c.args.limited c.args.pages c.note_event.new.self.run) in
    let lowers = lowers_both g.N.BootName.table _ _ _ noted (all_lower g.N.BootName.table c.args.limited g.N.BootName.table.cpus _ _ sub.drains sub.all) in
    lowered_there g.N.BootName.table _ _ c.args.limited lowers c.requires.there

pub kill_for_charge-requires-clause-there : goal.kill_for_charge-requires-clause-there
kill_for_charge-requires-clause-there g c =
    let sub = c.drain_stocks.ensures.drains in
    let noted : Lowers g.N.BootName.table c.args.machine.now c.note_event.new.self =
    subst (λ (y : KnownMachine). Lowers g.N.BootName.table c.args.machine.now y)
    (sym (c.note_event.ensures.machine ∙ ap (λ (y : KnownMachine). record y { ledger = with_max_noted y.ledger c.args.limited; run = c.note_event.new.self.run }) c.note_limit.ensures))
    (note_lowers g.N.BootName.table c.args.machine.now c.args.limited c.args.pages c.note_event.new.self.run) in
    let lowers = lowers_both g.N.BootName.table _ _ _ noted (all_lower g.N.BootName.table c.args.limited g.N.BootName.table.cpus _ _ sub.drains sub.all) in
    ap (λ (x : List Group). has_group x c.args.limited) c.reclaim_for.ensures.reclaims.does.keeps.groups
    ∙ lowered_there g.N.BootName.table _ _ c.args.limited lowers c.requires.there

pub has_room_at-requires : goal.has_room_at-requires
has_room_at-requires g c =
    let sub = c.drain_stocks.ensures.drains in
    let noted : Lowers g.N.BootName.table c.args.machine.now c.note_event.new.self =
    subst (λ (y : KnownMachine). Lowers g.N.BootName.table c.args.machine.now y)
    (sym (c.note_event.ensures.machine ∙ ap (λ (y : KnownMachine). record y { ledger = with_max_noted y.ledger c.args.limited; run = c.note_event.new.self.run }) c.note_limit.ensures))
    (note_lowers g.N.BootName.table c.args.machine.now c.args.limited c.args.pages c.note_event.new.self.run) in
    let lowers = lowers_both g.N.BootName.table _ _ _ noted (all_lower g.N.BootName.table c.args.limited g.N.BootName.table.cpus _ _ sub.drains sub.all) in
    let there : has_group c.reclaim_for.new.machine.ledger.groups c.args.limited ≡ true =
    ap (λ (x : List Group). has_group x c.args.limited) c.reclaim_for.ensures.reclaims.does.keeps.groups
    ∙ lowered_there g.N.BootName.table _ _ c.args.limited lowers c.requires.there in
    let killed = c.kill_for_charge.ensures.kills in
    subst (λ (l : Ledger). has_group l.groups c.args.limited ≡ true) (sym c.charges.ensures)
    (lowered_there g.N.BootName.table _ _ c.args.limited
    (allowed_lower g.N.BootName.table c.args.requester c.args.limited c.args.pages c.reclaim_for.new.machine c.kill_for_charge.new.machine killed.steps
    killed.does) there)

pub returns-then-is_killed-clause-relieves : goal.returns-then-is_killed-clause-relieves
returns-then-is_killed-clause-relieves g c =
    relieves_by g.N.BootName.table c.args.requester c.args.limited c.args.pages c.args.machine.now c.drain_stocks.new.self c.reclaim_for.new.machine
    c.kill_for_charge.new.machine
    (clears_by g.N.BootName.table c.args.limited c.args.pages c.drain_stocks.result c.args.machine.now c.note_limit.new.machine c.note_event.new.self
    c.drain_stocks.new.self c.note_limit.ensures c.note_event.ensures.machine c.note_event.ensures.steps c.drain_stocks.ensures.drains c.drain_stocks.ensures.drained)
    c.reclaim_for.ensures.reclaims c.kill_for_charge.ensures.kills

pub returns-then-has_room_at-clause-relieves : goal.returns-then-has_room_at-clause-relieves
returns-then-has_room_at-clause-relieves g c =
    relieves_by g.N.BootName.table c.args.requester c.args.limited c.args.pages c.args.machine.now c.drain_stocks.new.self c.reclaim_for.new.machine
    c.kill_for_charge.new.machine
    (clears_by g.N.BootName.table c.args.limited c.args.pages c.drain_stocks.result c.args.machine.now c.note_limit.new.machine c.note_event.new.self
    c.drain_stocks.new.self c.note_limit.ensures c.note_event.ensures.machine c.note_event.ensures.steps c.drain_stocks.ensures.drains c.drain_stocks.ensures.drained)
    c.reclaim_for.ensures.reclaims c.kill_for_charge.ensures.kills

pub returns-else-has_room_at-clause-relieves : goal.returns-else-has_room_at-clause-relieves
returns-else-has_room_at-clause-relieves g c =
    relieves_by g.N.BootName.table c.args.requester c.args.limited c.args.pages c.args.machine.now c.drain_stocks.new.self c.reclaim_for.new.machine
    c.kill_for_charge.new.machine
    (clears_by g.N.BootName.table c.args.limited c.args.pages c.drain_stocks.result c.args.machine.now c.note_limit.new.machine c.note_event.new.self
    c.drain_stocks.new.self c.note_limit.ensures c.note_event.ensures.machine c.note_event.ensures.steps c.drain_stocks.ensures.drains c.drain_stocks.ensures.drained)
    c.reclaim_for.ensures.reclaims c.kill_for_charge.ensures.kills

pub returns-then-is_killed-clause-room : goal.returns-then-is_killed-clause-room
returns-then-is_killed-clause-room g c = sym c.is_killed.ensures ∙ c.if-is_killed.true

pub returns-then-has_room_at-clause-room : goal.returns-then-has_room_at-clause-room
returns-then-has_room_at-clause-room g c = record {
  room = ap (λ (l : Ledger). has_room_at l c.args.limited c.args.pages) (sym c.charges.ensures) ∙ sym c.has_room_at.ensures ∙ c.if-has_room_at.true;
  alive = sym c.is_killed.ensures ∙ c.if-is_killed.false;
}

pub returns-else-has_room_at-clause-room : goal.returns-else-has_room_at-clause-room
returns-else-has_room_at-clause-room g c = (
  refl,
  record {
    over = ap (λ (l : Ledger). has_room_at l c.args.limited c.args.pages) (sym c.charges.ensures) ∙ sym c.has_room_at.ensures ∙ c.if-has_room_at.false;
    alive = sym c.is_killed.ensures ∙ c.if-is_killed.false;
  },
)

pub returns-then-is_killed-clause-visit : goal.returns-then-is_killed-clause-visit
returns-then-is_killed-clause-visit g c p v =
    c.kill_for_charge.ensures.visit p (c.reclaim_for.ensures.visit p (c.drain_stocks.ensures.visit p (c.note_event.ensures.visit p
    (limit_visits g.N.BootName.table c.args.limited c.args.pages c.args.machine.now c.note_limit.new.machine c.note_limit.ensures p v))))

pub returns-then-has_room_at-clause-visit : goal.returns-then-has_room_at-clause-visit
returns-then-has_room_at-clause-visit g c p v =
    c.kill_for_charge.ensures.visit p (c.reclaim_for.ensures.visit p (c.drain_stocks.ensures.visit p (c.note_event.ensures.visit p
    (limit_visits g.N.BootName.table c.args.limited c.args.pages c.args.machine.now c.note_limit.new.machine c.note_limit.ensures p v))))

pub returns-else-has_room_at-clause-visit : goal.returns-else-has_room_at-clause-visit
returns-else-has_room_at-clause-visit g c p v =
    c.kill_for_charge.ensures.visit p (c.reclaim_for.ensures.visit p (c.drain_stocks.ensures.visit p (c.note_event.ensures.visit p
    (limit_visits g.N.BootName.table c.args.limited c.args.pages c.args.machine.now c.note_limit.new.machine c.note_limit.ensures p v))))
