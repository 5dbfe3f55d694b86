use Rattle.std.proofs.Common.{ap}
use Rattle.boot_words.specs.Composed.{lend_run}
use Rattle.cpu_part.specs.Cpus.{KnownCpuLists}
use Rattle.cpu_part.proofs.Making.{are_legal_at, made_at}
use Rattle.cpu_part.proofs.cpu_lists.CpuLists.borrow.Goals as goal

pub lend-requires-clause-legal : goal.lend-requires-clause-legal
lend-requires-clause-legal g c =
    are_legal_at _ _ c.args.tables.now.words_are _ _ (λ p. lend_run p c.args.frame) (ap (λ (k : KnownCpuLists). k.number) c.self.view_is) c.args.held.now
    c.requires.legal

pub returns-clause-run : goal.returns-clause-run
returns-clause-run g c =
    made_at _ _ c.args.tables.now.words_are _ _ (λ p. lend_run p c.args.frame) (ap (λ (k : KnownCpuLists). k.number) c.self.view_is) c.args.held.now _ c.lend.ensures
