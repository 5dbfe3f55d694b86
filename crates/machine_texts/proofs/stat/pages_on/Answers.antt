use Rattle.std.proofs.Common.{◌≡◌, ◌<◌, ◌≤◌, ◌^◌, length, rules, arith}
use Rattle.std.proofs.lemmas.Iterator.{YieldsList-from_map}
use Rattle.std.proofs.lemmas.Iterator.Consumers.{YieldsList-at, YieldsList-from_first, sum_by_from_yields_List}
use Rattle.std.proofs.lemmas.Iterator.Adapters.{fits_from_length, at_most_from_yields_List}
use Rattle.mem_machine.specs.{entries_in}
use Rattle.machine_texts.specs.Stat.{counted_pages, pages_on}
use Rattle.machine_texts.proofs.Counting.{few_on}
use Rattle.machine_texts.proofs.stat.pages_on.Goals as goal

pub sum-requires-clause-fits : goal.sum-requires-clause-fits
sum-requires-clause-fits g c =
    let few : length (entries_in c.args.machine.now c.args.group c.args.list) ≤ 2 ^ 32 = search rules in
    fits_from_length _ _ (2 ^ 32) (2 ^ 64)
    (at_most_from_yields_List (YieldsList-at c.map.ensures.source
    (YieldsList-from_first (λ e. e) (λ es. es) (entries_in c.args.machine.now c.args.group c.args.list) c.entries.ensures)) few)
    c.map.ensures.closure (omega arith) (λ x r q k. search rules)

pub returns-clause-pages : goal.returns-clause-pages
returns-clause-pages g c =
    sum_by_from_yields_List (counted_pages c.args.machine.now c.args.only_dirty) (entries_in c.args.machine.now c.args.group c.args.list) c.map.result c.sum.result
    c.sum.ensures.ran
    (YieldsList-from_map _ (counted_pages c.args.machine.now c.args.only_dirty)
    (YieldsList-at c.map.ensures.source (YieldsList-from_first (λ e. e) (λ es. es) (entries_in c.args.machine.now c.args.group c.args.list) c.entries.ensures))
    c.map.ensures.closure (λ x r q k. search rules))

pub returns-clause-few : goal.returns-clause-few
returns-clause-few g c =
    let told : c.sum.result ≡ pages_on c.args.machine.now c.args.list c.args.only_dirty c.args.group = returns-clause-pages g c in
    let short : length (entries_in c.args.machine.now c.args.group c.args.list) < 2 ^ 32 = search rules in
    let few = few_on g.N.BootName.table c.args.machine.now c.prove_consistent.ensures c.args.only_dirty (entries_in c.args.machine.now c.args.group c.args.list) in
    omega (arith, told, short, few)
