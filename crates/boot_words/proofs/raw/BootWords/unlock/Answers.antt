use Rattle.std.proofs.Common.{ap, sym, subst}
use Rattle.step_rules.specs.declared.step.Action.TheVariants.{Unlock}
use Rattle.boot_words.specs.Pasts.{IsHolder, MayMake}
use Rattle.boot_words.proofs.Locking.{cpu_of_unlock, unlocks}
use Rattle.boot_words.proofs.raw.BootWords.unlock.Goals as goal

pub load-found-requires-clause-place : goal.load-found-requires-clause-place
load-found-requires-clause-place c =
    cpu_of_unlock c.args.self.now c.args.zone.now c.cpu.inside.number
    (subst (λ n. MayMake c.args.self.now c.args.zone.now n Unlock) (sym (ap (λ k. k.number) c.cpu.view_is)) c.requires.legal)

pub load-found-requires-clause-may : goal.load-found-requires-clause-may
load-found-requires-clause-may c =
    let same = sym (ap (λ k. k.number) c.cpu.view_is) in
    unlocks c.args.self.now c.args.zone.now c.cpu.inside.number c.requires.held (subst (IsHolder c.args.zone.now) same c.requires.holder)
    (subst (λ n. MayMake c.args.self.now c.args.zone.now n Unlock) same c.requires.legal)
