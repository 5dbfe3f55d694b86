use Rattle.std.proofs.Common.{◌++◌, ap, ◌∙◌}
use Rattle.boot_words.specs.Pasts.{KnownPasts}
use Rattle.boot_words.proofs.Locking.{locks}
use Rattle.boot_words.proofs.SeenSame.{lock_last}
use Rattle.boot_words.proofs.raw.BootWords.lock.Goals as goal

pub load-requires-clause-may : goal.load-requires-clause-may
load-requires-clause-may c =
    let seat = ap (λ k. k.past) c.cpu.view_is in
    locks c.args.self.now c.args.zone.now c.args.cpu.now.past c.join.new.seat c.requires.zone c.requires.cpu.past c.requires.free
    (ap (λ s. s.pasts) c.join.ensures.seat ∙ ap (λ (s : KnownPasts). c.args.zone.now.pasts ++ s.pasts) seat)

pub returns-clause-last : goal.returns-clause-last
returns-clause-last c =
    let seat = ap (λ k. k.past) c.cpu.view_is in
    lock_last c.args.self.now c.args.zone.now c.args.cpu.now c.join.new.seat c.load.new.seat c.load.result c.requires.zone c.requires.cpu
    (ap (λ s. s.pasts) c.join.ensures.seat ∙ ap (λ (s : KnownPasts). c.args.zone.now.pasts ++ s.pasts) seat) (c.load.ensures.table ∙ ap (λ s. s.table) c.join.ensures.seat) c.load.ensures.post
