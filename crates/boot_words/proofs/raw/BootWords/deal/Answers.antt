use Rattle.std.proofs.Common.{◌+◌, rules, ap, ◌∙◌, arith}
use Rattle.stock_word.specs.declared.stock.Stock.TheVariants.{NoGroup}
use Rattle.boot_words.specs.Seats.{cpus_pasts, first_alone, rest_of}
use Rattle.boot_words.proofs.Dealing.{all_left, last_seats, next_past, next_seats, no_seats, none_more, one_more}
use Rattle.boot_words.proofs.raw.BootWords.deal.Goals as goal

pub loop-cpu-init : goal.loop-cpu-init
loop-cpu-init c = record {
  table = search rules;
  range = omega arith;
  pasts = c.requires.pasts ∙ ap (cpus_pasts 1) (all_left c.args.cpus);
  room = c.in_ok-seats.ensures.exact;
  number = ap (λ n. n + 1) c.in_ok-seats.ensures.len;
  seats = no_seats _ _ _ c.in_ok-seats.ensures.items;
}

pub seated-requires : goal.seated-requires
seated-requires c = record { table = c.loop-cpu.invariant.table }

pub push_reserved-requires : goal.push_reserved-requires
push_reserved-requires c =
    let n = c.loop-cpu.invariant.number in
    let room = c.loop-cpu.invariant.room in
    omega arith

pub loop-cpu-preserved : goal.loop-cpu-preserved
loop-cpu-preserved c =
    let more = one_more _ _ c.loop-cpu-test.true in
    let next = next_past _ _ _ _ c.loop-cpu.invariant.pasts more in
    record {
      table = ap (λ s. s.table) c.seated.ensures.rest;
      range = omega arith;
      room = c.push_reserved.ensures.capacity ∙ c.loop-cpu.invariant.room;
      number = let longer = c.push_reserved.ensures.len in let n = c.loop-cpu.invariant.number in omega arith;
      pasts = ap (λ s. s.pasts) c.seated.ensures.rest ∙ ap rest_of next;
      seats = next_seats _ _ _ _ _ _ _ _ c.loop-cpu.invariant.seats more
          (c.seated.ensures.seat ∙ ap (λ l. record { past = record { table = c.args.self.now.table; pasts = first_alone l }; number = c.loop-cpu.cpu; last = NoGroup }) next)
          c.push_reserved.ensures.items;
    }

pub returns : goal.returns
returns c = last_seats _ _ _ _ _ c.loop-cpu.invariant.seats (none_more _ _ c.loop-cpu-test.false)
