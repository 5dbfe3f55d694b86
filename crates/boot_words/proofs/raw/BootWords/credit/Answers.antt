use Rattle.std.proofs.Common.{◌+◌, refl, sym, ap, subst, ◌∙◌}
use Rattle.step_rules.specs.declared.step.Action.TheVariants.{Credit}
use Rattle.boot_words.specs.{KnownPasts, MayDo, own_past, IsAwayCpu, zone_of_boot}
use Rattle.stock_word.specs.declared.stock.Stock.TheVariants.{DrainedOf, HeldBy}
use Rattle.stock_word.specs.Stock.{word_of}
use Rattle.step_rules.specs.declared.step.Answer.TheVariants.{Stocked}
use Rattle.boot_words.proofs.Groupless.{no_credit}
use Rattle.boot_words.proofs.Prepaying.{TellsPage, credits, exchanged_page}
use Rattle.boot_words.proofs.raw.BootWords.credit.Goals as goal

pub exchange_stock-found-requires-clause-may : goal.exchange_stock-found-requires-clause-may
exchange_stock-found-requires-clause-may c =
    let t = c.args.self.now in
    let legal : MayDo t c.cpu.inside.past (Credit c.args.frame) =
    subst (λ (s : KnownPasts). MayDo t s (Credit c.args.frame)) (sym (ap (λ k. k.past) c.cpu.view_is)) c.requires.legal in
    credits t (record { past = c.cpu.inside.past; number = c.cpu.inside.number; last = c.cpu.inside.last }) c.args.frame c.in-HeldBy.group c.in-HeldBy.pages
    (subst (IsAwayCpu t) (sym c.cpu.view_is) c.requires.cpu) legal c.in-HeldBy.is

pub returns-then-found-word : goal.returns-then-found-word
returns-then-found-word c =
    let t = c.args.self.now in
    let g = c.in-HeldBy.group in
    let n = c.in-HeldBy.pages in
    let view = c.cpu.view_is in
    let later = c.exchange_stock-found.new.seat in
    let post : TellsPage (zone_of_boot t) (own_past c.args.cpu.now.past) (Credit c.args.frame) Stocked (HeldBy g n) (HeldBy g (n + 1)) (DrainedOf g) c.exchange_stock-found.result later.pasts =
    subst (λ (s : KnownPasts). TellsPage (zone_of_boot t) (own_past s) (Credit c.args.frame) Stocked (HeldBy g n) (HeldBy g (n + 1)) (DrainedOf g) c.exchange_stock-found.result later.pasts)
    (ap (λ k. k.past) view) c.exchange_stock-found.ensures.post in (
      g,
      n,
      sym (ap (λ k. k.last) view) ∙ c.in-HeldBy.is,
      exchanged_page t c.args.cpu.now (Credit c.args.frame) Stocked (HeldBy g (n + 1)) (record { past = later; number = c.cpu.inside.number; last = HeldBy g (n + 1) }) c.requires.cpu
          (ap (λ k. k.number) view) refl (c.exchange_stock-found.ensures.table ∙ ap (λ k. k.past.table) view)
          (post.took (c.if-found-word.true ∙ c.word.ensures ∙ ap word_of c.in-HeldBy.is)),
    )

pub unreachable-requires : goal.unreachable-requires
unreachable-requires c =
    no_credit c.args.self.now c.args.cpu.now c.args.frame c.requires.cpu (sym (ap (λ k. k.last) c.cpu.view_is) ∙ c.in-NoGroup.is) c.requires.legal
