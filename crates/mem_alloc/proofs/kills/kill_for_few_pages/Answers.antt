use Rattle.mem_alloc.proofs.Killing.{few_kills, many_rest}
use Rattle.mem_alloc.proofs.kills.kill_for_few_pages.Goals as goal

pub returns-then-pages-le-MAX_KILLED_FOR-clause-kills : goal.returns-then-pages-le-MAX_KILLED_FOR-clause-kills
returns-then-pages-le-MAX_KILLED_FOR-clause-kills g c =
    few_kills g.N.BootName.table c.args.requester c.args.limited c.args.pages c.args.machine.now c.kill_for.new.machine
    c.if-pages-le-MAX_KILLED_FOR.true c.kill_for.ensures.kills

pub returns-else-pages-le-MAX_KILLED_FOR : goal.returns-else-pages-le-MAX_KILLED_FOR
returns-else-pages-le-MAX_KILLED_FOR g c = record {
  kills = many_rest g.N.BootName.table c.args.requester c.args.limited c.args.pages c.args.machine.now c.if-pages-le-MAX_KILLED_FOR.false;
  visit = λ p v. v;
}
