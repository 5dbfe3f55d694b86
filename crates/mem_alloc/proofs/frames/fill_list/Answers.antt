use Rattle.std.proofs.Common.{[], length, inl, inr, ap, refl, sym, ◌∙◌, subst, arith, length-append, rules}
use Rattle.std.proofs.lemmas.List.{nil_from_length}
use Rattle.mem_machine.specs.{IsCpuOf, refill_steps}
use Rattle.mem_machine.proofs.Followed.{makes_none}
use Rattle.mem_machine.proofs.Moved.{number_range}
use Rattle.mem_alloc.proofs.Filling.{lent_part, lent_stock, lent_none, lent_batch, no_frame, reclaims_for, reclaimed_front}
use Rattle.mem_alloc.proofs.frames.fill_list.Goals as goal

pub returns-then-refill-gt0-clause-fills : goal.returns-then-refill-gt0-clause-fills
returns-then-refill-gt0-clause-fills g c =
    let t = g.N.BootName.table in
    let done = c.refill.ensures in
    let many = c.if-refill-gt0.true in record {
      steps = refill_steps c.args.cpu.now.number done.refills.frames;
      does = inr (record {
        is = nil_from_length c.args.cpu.now.list (omega (arith, c.list_len.ensures.count));
        does = inl (lent_batch t c.refill.result c.args.sizes.batch _ _ _ _ done.refills (omega (arith, many)) done.at_most
            done.fewer_only_at_the_end);
      });
      makes = done.refills.steps;
    }

pub returns-then-refill-gt0-clause-page : goal.returns-then-refill-gt0-clause-page
returns-then-refill-gt0-clause-page g c =
    let done = c.refill.ensures.refills in
    (c.requires.page.0, lent_stock g.N.BootName.table done.frames _ _ _ _ c.requires.visit.held done.steps done.lends ∙ c.requires.page.1)

pub returns-then-refill-gt0-clause-front : goal.returns-then-refill-gt0-clause-front
returns-then-refill-gt0-clause-front g c =
    let done = c.refill.ensures in
    let all = done.refills.all in
    let l = lent_part _ _ _ _ _ done.refills.lends in
    let a = ap length l.list ∙ length-append c.args.cpu.now.list done.refills.frames in
    omega (arith, all, a)

pub returns-then-refill_in_rounds : goal.returns-then-refill_in_rounds
returns-then-refill_in_rounds g c =
    let t = g.N.BootName.table in
    let done = c.refill.ensures in
    let first = lent_none t c.refill.result c.args.sizes.batch c.args.machine.now c.refill.new.self c.args.cpu.now c.refill.new.cpu
    done.refills c.if-refill-gt0.false done.fewer_only_at_the_end c.requires.sizes.batch_low in
    let reclaims = reclaims_for t c.args.sizes c.args.machine.now c.refill.new.self c.refill_in_rounds.new.machine
    c.refill_in_rounds.new.machine c.args.cpu.now c.refill.new.cpu c.refill_in_rounds.new.cpu
    (nil_from_length c.args.cpu.now.list (omega (arith, c.list_len.ensures.count))) first c.if-refill_in_rounds.ensures.refills in
    record {
      fills = record {
        steps = reclaims.steps;
        does = inr (record { is = nil_from_length c.args.cpu.now.list (omega (arith, c.list_len.ensures.count)); does = inr reclaims.does });
        makes = reclaims.makes;
      };
      visit = search rules;
      page = (
        c.requires.page.0,
        c.if-refill_in_rounds.ensures.stock ∙ lent_stock t done.refills.frames _ _ _ _ c.requires.visit.held done.refills.steps done.refills.lends
            ∙ c.requires.page.1,
      );
      front = reclaimed_front t c.args.sizes c.args.machine.now c.refill_in_rounds.new.machine c.args.cpu.now c.refill_in_rounds.new.cpu
          reclaims.steps reclaims.does;
    }

pub returns-clause-fills : goal.returns-clause-fills
returns-clause-fills g c =
    let t = g.N.BootName.table in
    let done = c.refill.ensures in
    let first = lent_none t c.refill.result c.args.sizes.batch c.args.machine.now c.refill.new.self c.args.cpu.now c.refill.new.cpu
    done.refills c.if-refill-gt0.false done.fewer_only_at_the_end c.requires.sizes.batch_low in
    no_frame t c.args.sizes c.args.machine.now c.refill.new.self c.refill_in_rounds.new.machine c.drain_stock.new.self
    c.args.cpu.now c.refill.new.cpu c.refill_in_rounds.new.cpu
    (nil_from_length c.args.cpu.now.list (omega (arith, c.list_len.ensures.count))) first c.drain_stock.result
    c.number-cpu_number.result c.if-refill_in_rounds.ensures.refills c.number-cpu_number.ensures.number c.drain_stock.ensures.drains
    c.drain_stock.ensures.steps

pub returns-then-list_len-gt0-clause-fills : goal.returns-then-list_len-gt0-clause-fills
returns-then-list_len-gt0-clause-fills g c =
    let many = c.if-list_len-gt0.true in record {
      steps = [];
      does = inl (record {
        is = omega (arith, many, c.list_len.ensures.count);
        does = record { machine = refl; cpu = refl; steps_are = refl };
      });
      makes = makes_none g.N.BootName.table c.args.machine.now;
    }

pub refill_in_rounds-requires-clause-none_fresh : goal.refill_in_rounds-requires-clause-none_fresh
refill_in_rounds-requires-clause-none_fresh g c =
    (lent_part _ _ _ _ _ c.refill.ensures.refills.lends).fresh ∙ c.requires.none_fresh

-- the CPU that holds the lock is one of the boot
pub drain_stock-requires-clause-cpu : goal.drain_stock-requires-clause-cpu
drain_stock-requires-clause-cpu g c =
    let t = g.N.BootName.table in
    subst (IsCpuOf t) (sym c.number-cpu_number.ensures.number)
    (number_range t c.refill_in_rounds.new.machine c.refill_in_rounds.new.cpu c.if-refill_in_rounds.ensures.visit)
