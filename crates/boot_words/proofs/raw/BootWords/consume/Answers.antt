use Rattle.std.proofs.Common.{◌≡◌, ◌+◌, ◌-◌, sym, ap, subst, arith}
use Rattle.step_rules.specs.declared.step.Action.TheVariants.{Consume}
use Rattle.boot_words.specs.{KnownPasts, MayDo, IsAwayCpu}
use Rattle.boot_words.proofs.Prepaying.{consumes}
use Rattle.boot_words.proofs.raw.BootWords.consume.Goals as goal

pub exchange_stock-found-requires-clause-may : goal.exchange_stock-found-requires-clause-may
exchange_stock-found-requires-clause-may c =
    let t = c.args.self.now in
    let some = c.if-pages-eq0.false in
    let legal : MayDo t c.cpu.inside.past (Consume c.in-HeldBy.held) =
    subst (λ g. MayDo t c.cpu.inside.past (Consume g)) (sym c.if-held-group.true)
    (subst (λ (s : KnownPasts). MayDo t s (Consume c.args.group)) (sym (ap (λ k. k.past) c.cpu.view_is)) c.requires.legal) in
    consumes t (record { past = c.cpu.inside.past; number = c.cpu.inside.number; last = c.cpu.inside.last }) c.in-HeldBy.held c.in-HeldBy.pages (c.in-HeldBy.pages - 1)
    (subst (IsAwayCpu t) (sym c.cpu.view_is) c.requires.cpu) legal c.in-HeldBy.is (let e : c.in-HeldBy.pages ≡ c.in-HeldBy.pages - 1 + 1 = omega (arith, some) in e)
