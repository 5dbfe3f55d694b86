use Rattle.std.proofs.Common.{◌+◌, ◌≤◌, sym, subst, arith}
use Rattle.boot_words.specs.{AllOf, IsAwayCpu}
use Rattle.boot_words.proofs.SeenSame.{firsts_away}
use Rattle.boot_words.proofs.raw.BootWords.new.Goals as goal

pub returns-in-Ok-clause-away : goal.returns-in-Ok-clause-away
returns-in-Ok-clause-away c =
    let t = c.in_ok-words.words in
    let high : 1 + c.args.cpus ≤ t.cpus + 1 = (let e = c.in_ok-words.ensures.sizes.1 in omega arith) in
    subst (AllOf (IsAwayCpu t)) (sym c.in-Ok.ensures) (firsts_away t 1 c.args.cpus (omega arith) high)
