use Rattle.std.proofs.Common.{◌++◌, ap, sym, ◌∙◌, subst}
use Rattle.boot_words.specs.{KnownPasts, IsAwayCpu}
use Rattle.boot_words.proofs.SeenSame.{meet_knows, meets}
use Rattle.boot_words.proofs.raw.BootWords.meet.Goals as goal

pub load-requires-clause-may : goal.load-requires-clause-may
load-requires-clause-may c =
    let seat = ap (λ k. k.past) c.cpu.view_is in
    meets c.args.self.now c.args.zone.now c.args.cpu.now.past c.join.new.seat c.requires.zone c.requires.cpu.past c.requires.free
    (ap (λ s. s.pasts) c.join.ensures.seat ∙ ap (λ (s : KnownPasts). c.args.zone.now.pasts ++ s.pasts) seat)

pub returns-clause-cpu : goal.returns-clause-cpu
returns-clause-cpu c =
    let t = c.args.self.now in
    let is : IsAwayCpu t (record { past = c.cpu.inside.past; number = c.cpu.inside.number; last = c.cpu.inside.last }) = subst (IsAwayCpu t) (sym c.cpu.view_is) c.requires.cpu in
    meet_knows t c.args.zone.now (record { past = c.cpu.inside.past; number = c.cpu.inside.number; last = c.cpu.inside.last }) c.join.new.seat c.split_others.result c.load.new.seat.pasts c.load.result
    c.requires.zone is (ap (λ s. s.pasts) c.join.ensures.seat) c.load.ensures.post c.split_others.ensures.others
