use Rattle.std.proofs.Common.{rules, ℕ, ◌<◌, ◌≤◌, [], length, take, ap, refl, arith}
use Rattle.mem_machine.specs.Steps.{drain_list_steps}
use Rattle.mem_machine.proofs.Followed.{makes_none}
use Rattle.mem_system.proofs.Listing.{cut_off, whole_batch, left_over}
use Rattle.mem_system.proofs.releases.cut_list.Goals as goal

pub returns-then-list_len-sizes : goal.returns-then-list_len-sizes
returns-then-list_len-sizes g c =
    let done = c.drain_list.ensures in
    let before = c.args.cpu.now in
    let stands : c.args.sizes.high ≤ length before.list = omega (arith, c.list_len.ensures.count) in
    let kept = cut_off _ _ _ _ _ done.takes in
    let all = whole_batch c.drain_list.result c.args.sizes.batch c.args.sizes.high before.list c.drain_list.new.cpu.list done.at_most done.listed
    done.fewer_only_at_the_end kept.split c.requires.sizes.high_low stands in
    let left = left_over c.drain_list.result before.list c.drain_list.new.cpu.list done.listed kept.split in
    let some = c.requires.sizes.batch_low in
    record {
      cuts = record {
        steps = drain_list_steps before.number (take c.drain_list.result before.list);
        does = record {
          cut = take c.drain_list.result before.list;
          at_high = λ _. ap (λ (k : ℕ). take k before.list) all;
          below_high = λ less. absurd (omega (arith, less, stands));
          takes = done.takes;
          steps_are = refl;
        };
        makes = done.steps;
      };
      visit = search rules;
      room = omega (arith, c.list_len.ensures.count, c.list_len.ensures.bound, all, left, some);
      below_high = λ within. omega (arith, all, left, some, within);
    }

pub returns-else-list_len-sizes-clause-cuts : goal.returns-else-list_len-sizes-clause-cuts
returns-else-list_len-sizes-clause-cuts g c =
    let below : length c.args.cpu.now.list < c.args.sizes.high = omega (arith, c.list_len.ensures.count) in record {
      steps = [];
      does = record { cut = []; at_high = λ stands. absurd (omega (arith, stands, below)); below_high = λ _. refl; takes = record { machine = refl; cpu = refl }; steps_are = refl };
      makes = makes_none g.N.BootName.table c.args.machine.now;
    }

pub returns-else-list_len-sizes-clause-below_high : goal.returns-else-list_len-sizes-clause-below_high
returns-else-list_len-sizes-clause-below_high g c = search rules
