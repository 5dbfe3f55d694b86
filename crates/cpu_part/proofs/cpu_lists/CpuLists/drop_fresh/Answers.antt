use Rattle.std.proofs.Common.{◌+◌, refl, subst, sym}
use Rattle.stock_word.specs.declared.answers.Credit.TheVariants as credits
use Rattle.step_rules.specs.declared.step.Action.TheVariants.{Credit}
use Rattle.boot_words.specs.Cpus.{CreditsPage}
use Rattle.boot_words.specs.Tables.{KnownTable}
use Rattle.cpu_part.specs.Known.{KnowsItsPart}
use Rattle.cpu_part.proofs.Knowing.{knows_drained, knows_listed, may_credit}
use Rattle.cpu_part.proofs.Making.{may_do_at}
use Rattle.cpu_part.proofs.cpu_lists.CpuLists.drop_fresh.Goals as goal

pub credit-requires-clause-legal : goal.credit-requires-clause-legal
credit-requires-clause-legal g c =
    may_do_at _ _ c.args.tables.now.words_are c.args.seat.now.past (Credit c.args.frame) (may_credit _ _ _ c.requires.knows c.args.frame c.requires.fresh)

pub returns-in-Drained-clause-knows : goal.returns-in-Drained-clause-knows
returns-in-Drained-clause-knows g c =
    let told = subst (λ (u : KnownTable). CreditsPage u c.args.seat.now c.args.frame credits.Drained c.credit.new.cpu) c.args.tables.now.words_are
    c.in-Drained.ensures in
    knows_drained _ _ _ c.requires.knows (Credit c.args.frame) c.credit.new.cpu tt (λ s q. refl) told

pub returns-in-Stocked-clause-knows : goal.returns-in-Stocked-clause-knows
returns-in-Stocked-clause-knows g c =
    let knows = subst (KnowsItsPart _ _) (sym c.self.view_is) c.requires.knows in
    let told = subst (λ (u : KnownTable). CreditsPage u c.args.seat.now c.args.frame credits.Stocked c.credit.new.cpu) c.args.tables.now.words_are
    c.in-Stocked.ensures in
    let left = c.relist.ensures.fresh in
    knows_listed _ _ _ knows c.args.frame told.0 (told.1 + 1) left.0 c.saturating_add-self-inside.result c.relist.new.list.items c.relist.new.fresh.items
    c.credit.new.cpu told.3 left.1 left.2 c.relist.ensures.list left.3
