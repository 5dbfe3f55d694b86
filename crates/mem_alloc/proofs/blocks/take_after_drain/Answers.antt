use Rattle.std.proofs.Common.{◌+◌, ◌^◌, ◌<◌, sym, ap, ◌∙◌, subst}
use Rattle.group_tree.specs.{has_group, PathHasRoom}
use Rattle.group_charge.specs.Charges.{current_of}
use Rattle.cpu_part.specs.Cpus.{KnownCpuLists}
use Rattle.group_charge.specs.declared.note.Note.TheVariants.{Zone}
use Rattle.mem_machine.specs.{KnownMachine, is_killed, with_note, Visits, visit_state}
use Rattle.mem_alloc.specs.Blocks.{MakesTakeRounds, MayHaveBlock}
use Rattle.mem_alloc.proofs.Rounding.{noted_visit, zone_noted}
use Rattle.mem_alloc.proofs.Taking.{is_refused, is_none, by_none, back_part, never_over, noted_room}
use Rattle.mem_alloc.proofs.Taking.{none_leaves, takes_after, reclaims_after, list_shrinks}
use Rattle.mem_alloc.proofs.blocks.take_after_drain.Goals as goal

pub take_block-requires-clause-charges : goal.take_block-requires-clause-charges
take_block-requires-clause-charges g c =
    let part = back_part _ _ _ _ _ c.drain_list.ensures.takes in
    record {
      there = ap (λ l. has_group l.groups c.args.group) part.ledger ∙ c.requires.room.charges.there;
      alive = ap (λ l. is_killed l c.args.group) part.killed ∙ c.requires.room.charges.alive;
      fits = subst (λ l. current_of l 0 + 2 ^ c.args.order < 2 ^ 32) (sym part.ledger) c.requires.room.charges.fits;
    }

pub take_block-requires-clause-none_fresh : goal.take_block-requires-clause-none_fresh
take_block-requires-clause-none_fresh g c = (back_part _ _ _ _ _ c.drain_list.ensures.takes).fresh ∙ c.requires.settled.0

pub take_block-requires-clause-none_back : goal.take_block-requires-clause-none_back
take_block-requires-clause-none_back g c = (back_part _ _ _ _ _ c.drain_list.ensures.takes).back ∙ c.requires.settled.1

pub unreachable-requires : goal.unreachable-requires
unreachable-requires g c =
    let room = subst (λ l. PathHasRoom l.groups (current_of l) c.args.group (2 ^ c.args.order))
    (sym (back_part _ _ _ _ _ c.drain_list.ensures.takes).ledger) c.requires.room.room in
    never_over c.drain_list.new.self c.args.group (2 ^ c.args.order) c.in-Err-Over.field-0-0.group room
    (is_refused c.drain_list.new.self c.take_block.new.self c.args.group c.args.order c.in-Err-Over.field-0 c.in-Err-Over.field-0-0
    c.in-Err-Over.field-0-is c.in-Err-Over.ensures.refuses).0

pub returns-in-Ok : goal.returns-in-Ok
returns-in-Ok g c = record {
  takes = takes_after g.N.BootName.table c.args.group c.args.order _ _ _ _ _ _ c.drain_list.result c.list_len-listed.result c.list_len-listed.ensures.count
      c.drain_list.ensures.at_most c.drain_list.ensures.takes c.drain_list.ensures.fewer_only_at_the_end c.in-Ok.ensures.cpu c.drain_list.ensures.steps
      c.in-Ok.head c.in-Ok.ensures.takes c.in-Ok.ensures.steps;
  stays =
      let part = back_part _ _ _ _ _ c.drain_list.ensures.takes in
      record {
        visit = c.take_block.ensures.visit;
        number = ap (λ (e : KnownCpuLists). e.number) c.take_block.ensures.cpu ∙ part.number;
        back = ap (λ (e : KnownCpuLists). e.back) c.take_block.ensures.cpu ∙ part.back;
      };
  fresh = ap (λ (e : KnownCpuLists). e.fresh) c.take_block.ensures.cpu ∙ (back_part _ _ _ _ _ c.drain_list.ensures.takes).fresh ∙ c.requires.settled.0;
  list = list_shrinks g.N.BootName.table c.args.group c.args.order _ _ c.take_block.new.self _ _ _ c.drain_list.result c.list_len-listed.result
      c.list_len-listed.ensures.count
      c.drain_list.ensures.at_most c.drain_list.ensures.takes c.drain_list.ensures.fewer_only_at_the_end c.in-Ok.ensures.cpu c.drain_list.ensures.steps;
}

pub reclaim_until_taken-requires : goal.reclaim_until_taken-requires
reclaim_until_taken-requires g c = record {
  visit = subst (λ (x : KnownMachine). Visits g.N.BootName.table x c.take_block.new.cpu) (sym c.note.ensures)
      (noted_visit g.N.BootName.table c.take_block.new.self c.take_block.new.cpu _ c.take_block.ensures.visit);
  room =
      let none = is_none _ _ c.args.group c.args.order c.in-Err-NoBlock.field-0 c.in-Err-NoBlock.field-0-is c.in-Err-NoBlock.ensures.refuses in
      let part = back_part _ _ _ _ _ c.drain_list.ensures.takes in
      let there = ap (λ l. has_group l.groups c.args.group) part.ledger ∙ c.requires.room.charges.there in
      let fits = subst (λ l. current_of l 0 + 2 ^ c.args.order < 2 ^ 32) (sym part.ledger) c.requires.room.charges.fits in
      subst (λ (x : KnownMachine). MayHaveBlock x c.args.group c.args.order) (sym c.note.ensures)
      (noted_room c.take_block.new.self _ c.args.group c.args.order
      (none_leaves g.N.BootName.table c.args.group c.args.order c.drain_list.new.self c.take_block.new.self c.drain_list.new.cpu
      c.take_block.new.cpu none (ap (λ l. is_killed l c.args.group) part.killed ∙ c.requires.room.charges.alive) there fits));
  settled =
      let part = back_part _ _ _ _ _ c.drain_list.ensures.takes in (
        ap (λ (e : KnownCpuLists). e.fresh) c.in-Err-NoBlock.ensures.cpu ∙ part.fresh ∙ c.requires.settled.0,
        ap (λ (e : KnownCpuLists). e.back) c.in-Err-NoBlock.ensures.cpu ∙ part.back ∙ c.requires.settled.1,
      );
}

pub returns-in-Err-NoBlock : goal.returns-in-Err-NoBlock
returns-in-Err-NoBlock g c =
    let rounds = zone_noted g.N.BootName.table c.args.order (MakesTakeRounds c.args.group c.args.order c.reclaim_until_taken.result)
    c.take_block.new.self c.note.new.self c.take_block.new.cpu (visit_state c.reclaim_until_taken.new.machine c.reclaim_until_taken.new.cpu)
    (c.note.ensures ∙ ap (λ k. with_note c.take_block.new.self (Zone k)) c.exponent.ensures.exponent) c.reclaim_until_taken.ensures.takes in
    let none = is_none _ _ c.args.group c.args.order c.in-Err-NoBlock.field-0 c.in-Err-NoBlock.field-0-is c.in-Err-NoBlock.ensures.refuses in
    let vain = by_none c.args.group c.args.order _ _ c.in-Err-NoBlock.field-0 c.in-Err-NoBlock.field-0-is c.in-Err-NoBlock.ensures.steps in
    let part = back_part _ _ _ _ _ c.drain_list.ensures.takes in
    let cpu = c.reclaim_until_taken.ensures.cpu ∙ c.in-Err-NoBlock.ensures.cpu in
    record {
      takes = reclaims_after g.N.BootName.table c.args.group c.args.order _ _ _ _ _ _ c.drain_list.result c.list_len-listed.result
          c.list_len-listed.ensures.count c.drain_list.ensures.at_most c.drain_list.ensures.takes c.drain_list.ensures.fewer_only_at_the_end
          cpu c.drain_list.ensures.steps _ _ none c.in-Err-NoBlock.ensures.cpu vain
          c.reclaim_until_taken.result rounds;
      stays = record {
        visit = c.reclaim_until_taken.ensures.visit;
        number = ap (λ (e : KnownCpuLists). e.number) cpu ∙ part.number;
        back = ap (λ (e : KnownCpuLists). e.back) cpu ∙ part.back;
      };
      fresh = ap (λ (e : KnownCpuLists). e.fresh) cpu ∙ part.fresh ∙ c.requires.settled.0;
      list = list_shrinks g.N.BootName.table c.args.group c.args.order _ _ c.reclaim_until_taken.new.machine _ _ _ c.drain_list.result
          c.list_len-listed.result c.list_len-listed.ensures.count c.drain_list.ensures.at_most c.drain_list.ensures.takes
          c.drain_list.ensures.fewer_only_at_the_end cpu c.drain_list.ensures.steps;
    }
