use Rattle.std.proofs.Common.{◌≡◌, false, refl, ap, sym, subst}
use Rattle.step_rules.specs.{state_of, holds_lock}
use Rattle.step_rules.specs.declared.step.Action.TheVariants.{Get}
use Rattle.boot_words.specs.{KnownPasts, MayDo, own_past, zone_of_boot, IsAwayCpu}
use Rattle.boot_words.proofs.Keeping.{keeps_gets}
use Rattle.boot_words.proofs.raw.BootWords.get.Goals as goal

pub get_since-requires : goal.get_since-requires
get_since-requires c =
    let t = c.args.self.now in
    let is : IsAwayCpu t (record { past = c.cpu.inside.past; number = c.cpu.inside.number; last = c.cpu.inside.last }) = subst (IsAwayCpu t) (sym c.cpu.view_is) c.requires.cpu in (
      is.past,
      (
        refl,
        (
          subst (λ n. holds_lock n (state_of (zone_of_boot t) (own_past c.cpu.inside.past).seen).hold ≡ false) is.number is.away,
          subst (λ (s : KnownPasts). MayDo t s (Get c.args.frame)) (sym (ap (λ k. k.past) c.cpu.view_is)) c.requires.legal,
        ),
      ),
    )

pub returns-clause-cpu : goal.returns-clause-cpu
returns-clause-cpu c =
    keeps_gets c.args.self.now (record { past = c.cpu.inside.past; number = c.cpu.inside.number; last = c.cpu.inside.last }) c.args.frame c.get_since.result c.get_since.new.seat
    (subst (IsAwayCpu c.args.self.now) (sym c.cpu.view_is) c.requires.cpu) c.get_since.ensures
