use Rattle.std.proofs.Common.{sym, ◌∙◌, subst}
use Rattle.stock_word.specs.declared.stock.Stock.TheVariants.{DrainedOf}
use Rattle.stock_word.specs.Stock.{word_of}
use Rattle.boot_words.specs.{KnownPasts, cpu_past, own_past, zone_of_boot, MayChange}
use Rattle.boot_words.specs.declared.word.Word.TheVariants.{StockOf}
use Rattle.boot_words.proofs.Drains.{Drains, cpu_of_drain, drained_none, drained_some, drains, looked_on, looks_to_drain}
use Rattle.boot_words.proofs.raw.BootWords.drain.Goals as goal

pub load-looked-requires-clause-place : goal.load-looked-requires-clause-place
load-looked-requires-clause-place c = (cpu_of_drain c.args.self.now c.args.held.now c.args.cpu c.requires.legal).1

pub load-looked-requires-clause-may : goal.load-looked-requires-clause-may
load-looked-requires-clause-may c = looks_to_drain c.args.self.now c.args.held.now c.args.cpu c.requires.held c.requires.legal

pub drain_of-requires-clause-cpu : goal.drain_of-requires-clause-cpu
drain_of-requires-clause-cpu c = (cpu_of_drain c.args.self.now c.args.held.now c.args.cpu c.requires.legal).1

pub drain_of-requires-clause-may : goal.drain_of-requires-clause-may
drain_of-requires-clause-may c =
    let t = c.args.self.now in
    let g = c.in-Some.group in
    let on = looked_on t c.args.held.now c.args.cpu c.load-looked.result c.load-looked.new.seat c.of_word.result g c.requires.held c.load-looked.ensures.table c.load-looked.ensures.post
    c.of_word.ensures (sym c.group.ensures ∙ c.in-Some.is) in
    subst (λ (s : KnownPasts). MayChange (zone_of_boot t) s.pasts (StockOf c.args.cpu) (λ n. word_of (DrainedOf g)) (Drains (zone_of_boot t) (own_past s) (cpu_past s) c.args.cpu)) (sym on.0)
    (drains t c.args.held.now c.args.cpu g c.requires.held c.requires.legal on.1 on.2)

pub returns-in-None : goal.returns-in-None
returns-in-None c =
    drained_none c.args.self.now c.args.held.now c.args.cpu c.load-looked.result c.load-looked.new.seat c.of_word.result c.requires.held c.load-looked.ensures.table c.load-looked.ensures.post
    c.of_word.ensures (sym c.group.ensures ∙ c.in-None.is)

pub returns-in-Some : goal.returns-in-Some
returns-in-Some c =
    let t = c.args.self.now in
    let on = looked_on t c.args.held.now c.args.cpu c.load-looked.result c.load-looked.new.seat c.of_word.result c.in-Some.group c.requires.held c.load-looked.ensures.table c.load-looked.ensures.post
    c.of_word.ensures (sym c.group.ensures ∙ c.in-Some.is) in
    let post : Drains (zone_of_boot t) (own_past c.args.held.now) (cpu_past c.args.held.now) c.args.cpu c.drain_of.result c.drain_of.new.held.pasts =
    subst (λ (s : KnownPasts). Drains (zone_of_boot t) (own_past s) (cpu_past s) c.args.cpu c.drain_of.result c.drain_of.new.held.pasts) on.0 c.drain_of.ensures.post in
    drained_some t c.args.held.now c.args.cpu c.drain_of.result c.drain_of.new.held c.of_word-in-Some.result c.pages.result c.requires.held
    (c.drain_of.ensures.table ∙ c.load-looked.ensures.table) post c.of_word-in-Some.ensures c.pages.ensures
