-- Serves the contract of `empty_cpu`: the list is returned whole, and then the stock is drained.
use Rattle.std.proofs.Common.{sym, ◌∙◌, subst}
use Rattle.std.specs.Prelude.{ℕ, take}
use Rattle.mem_machine.specs.{Drains, stock_group, Makes, IsCpuOf, drain_steps}
use Rattle.mem_machine.proofs.Moved.{number_range}
use Rattle.mem_system.proofs.Listing.{cut_off}
use Rattle.mem_system.proofs.Turns.{EmptyParts, whole_list, taken_alone, emptied_alone, emptied_drained, emptied}
use Rattle.mem_system.proofs.last_visits.empty_cpu.Goals as goal

pub drain_stock-requires-clause-cpu : goal.drain_stock-requires-clause-cpu
drain_stock-requires-clause-cpu g c =
    let t = g.N.BootName.table in
    subst (IsCpuOf t) (sym c.number.ensures.number) (number_range t c.drain_list.new.self c.drain_list.new.cpu c.drain_list.ensures.visit)

pub drain_stock-requires-clause-held : goal.drain_stock-requires-clause-held
drain_stock-requires-clause-held g c = c.drain_list.ensures.visit.held

pub shut-requires : goal.shut-requires
shut-requires g c = c.drain_stock.ensures.visit c.drain_list.new.cpu c.drain_list.ensures.visit

pub prove_none_lent-requires-clause-none_listed : goal.prove_none_lent-requires-clause-none_listed
prove_none_lent-requires-clause-none_listed g c =
    let done = c.drain_list.ensures in
    (whole_list _ _ c.args.cpu.now.list c.drain_list.new.cpu.list done.listed c.list_len-listed.ensures.count done.fewer_only_at_the_end
    (cut_off _ _ _ _ _ done.takes).split).none_left

pub prove_none_lent-requires-clause-none_fresh : goal.prove_none_lent-requires-clause-none_fresh
prove_none_lent-requires-clause-none_fresh g c = (cut_off _ _ _ _ _ c.drain_list.ensures.takes).fresh ∙ c.requires.settled.none_fresh

pub returns : goal.returns
returns g c =
    let t = g.N.BootName.table in
    let m = c.args.machine.now in
    let n = c.shut.new.self in
    let first = c.args.cpu.now in
    let d = c.drain_list.new.cpu in
    let entered = c.open.new.self in
    let x = c.drain_list.new.self in
    let y = c.drain_stock.new.self in
    let done = c.drain_list.ensures in
    let k = c.drain_list.result in
    let pages = c.drain_stock.result in
    let cut = cut_off _ _ _ _ _ done.takes in
    let whole = whole_list _ _ first.list d.list done.listed c.list_len-listed.ensures.count done.fewer_only_at_the_end cut.split in
    let named = c.number.ensures.number in
    let parts : EmptyParts t m n first d entered x y (take k first.list) pages = record {
      held = c.requires.holds.held;
      opened = c.open.ensures.machine;
      first = c.open.ensures.steps;
      takes = done.takes;
      gives = done.steps;
      drains = subst (λ (q : ℕ). Drains t q pages x y) named c.drain_stock.ensures.drains;
      drips = subst (λ (q : ℕ). Makes t x (drain_steps q (stock_group t x q) pages) y) named c.drain_stock.ensures.steps;
      shut = c.shut.ensures.machine;
      last = c.shut.ensures.steps;
      same = cut.number;
    } in
    record {
      empties = emptied t m n first d entered x y (take k first.list) pages parts whole.all_taken;
      shut = c.shut.ensures.shut;
      holds = c.shut.ensures.holds;
      emptied = record {
        idle = (
          whole.none_left,
          cut.fresh ∙ c.requires.settled.none_fresh,
          cut.back ∙ c.requires.settled.none_back,
          (taken_alone _ _ _ _ _ done.takes).pins ∙ c.requires.settled.no_pin,
        );
        none_lent = c.prove_none_lent.ensures;
        drained = emptied_drained t m n first d entered x y (take k first.list) pages parts;
      };
      others = emptied_alone t m n first d entered x y (take k first.list) pages parts;
    }
