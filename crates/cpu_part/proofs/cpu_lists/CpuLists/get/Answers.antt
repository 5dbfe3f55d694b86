use Rattle.std.proofs.Common.{◌+◌, ◌<◌, length, arith, subst, sym}
use Rattle.frame_word.specs.declared.answers.Get.TheVariants as gets
use Rattle.step_rules.specs.declared.step.Action.TheVariants.{Get}
use Rattle.boot_words.specs.{GetsReference, IsAwayCpu, KnownTable}
use Rattle.cpu_part.specs.{KnownCpuLists, KnowsItsPart}
use Rattle.cpu_part.proofs.Knowing.{knows_held, knows_not_held, may_get}
use Rattle.cpu_part.proofs.Making.{may_do_at}
use Rattle.cpu_part.proofs.Telling.{not_pinned, same_answer, told_get}
use Rattle.cpu_part.proofs.Unlisted.{got_unlisted, pinned_not_zero}
use Rattle.cpu_part.proofs.cpu_lists.CpuLists.get.Goals as goal

pub get-requires-clause-legal : goal.get-requires-clause-legal
get-requires-clause-legal g c =
    let bound = c.self.invariant.0.pin_bound in
    let room : length c.self.inside.back.items + length c.self.inside.pins.items < 256 = omega arith in
    let knows = subst (KnowsItsPart _ _) (sym c.self.view_is) c.requires.knows in
    may_do_at _ _ c.args.tables.now.words_are c.args.seat.now.past (Get c.args.frame) (may_get _ _ _ knows c.args.frame c.requires.frame room)

pub returns-in-Held-clause-unlisted : goal.returns-in-Held-clause-unlisted
returns-in-Held-clause-unlisted g c =
    let run = subst (λ (u : KnownTable). GetsReference u c.args.seat.now.past c.args.frame gets.Held c.get.new.cpu.past) c.args.tables.now.words_are
    c.in-Held.ensures.run in
    got_unlisted _ _ _ c.requires.knows c.args.frame gets.Held c.get.new.cpu.past run

pub returns-in-Held-clause-knows : goal.returns-in-Held-clause-knows
returns-in-Held-clause-knows g c =
    let knows = subst (KnowsItsPart _ _) (sym c.self.view_is) c.requires.knows in
    let is = subst (λ (u : KnownTable). IsAwayCpu u c.get.new.cpu) c.args.tables.now.words_are c.in-Held.ensures.cpu in
    let run = subst (λ (u : KnownTable). GetsReference u c.args.seat.now.past c.args.frame gets.Held c.get.new.cpu.past) c.args.tables.now.words_are
    c.in-Held.ensures.run in
    knows_held _ _ _ knows c.get.new.cpu is c.in-Held.ensures.same.0 c.args.frame c.push_reserved.new.self.items run c.push_reserved.ensures.items

pub returns-in_default-clause-answer : goal.returns-in_default-clause-answer
returns-in_default-clause-answer g c =
    let bound = c.self.invariant.0.pin_bound in
    let room : length c.self.inside.back.items + length c.self.inside.pins.items < 256 = omega arith in
    let run = subst (λ (u : KnownTable). GetsReference u c.args.seat.now.past c.args.frame c.get.result c.get.new.cpu.past) c.args.tables.now.words_are
    c.get.ensures.run in
    let told = not_pinned _ _ _ c.requires.knows c.args.frame c.get.result c.get.new.cpu.past c.in_default.not-Held run in
    (subst (λ (k : KnownCpuLists). length k.back + length k.pins < 256) c.self.view_is room, told.0, told.1)

pub returns-in_default-clause-never_zero : goal.returns-in_default-clause-never_zero
returns-in_default-clause-never_zero g c =
    let run = subst (λ (u : KnownTable). GetsReference u c.args.seat.now.past c.args.frame c.get.result c.get.new.cpu.past) c.args.tables.now.words_are
    c.get.ensures.run in
    λ some is. pinned_not_zero _ _ _ c.requires.knows c.args.frame c.get.result c.get.new.cpu.past run some (same_answer c.get.result gets.Zero is)

pub returns-in_default-clause-unlisted : goal.returns-in_default-clause-unlisted
returns-in_default-clause-unlisted g c =
    let run = subst (λ (u : KnownTable). GetsReference u c.args.seat.now.past c.args.frame c.get.result c.get.new.cpu.past) c.args.tables.now.words_are
    c.get.ensures.run in
    got_unlisted _ _ _ c.requires.knows c.args.frame c.get.result c.get.new.cpu.past run

pub returns-in_default-clause-run : goal.returns-in_default-clause-run
returns-in_default-clause-run g c =
    let run = subst (λ (u : KnownTable). GetsReference u c.args.seat.now.past c.args.frame c.get.result c.get.new.cpu.past) c.args.tables.now.words_are
    c.get.ensures.run in
    told_get _ _ _ c.requires.knows c.args.frame c.get.result c.get.new.cpu.past run

pub returns-in_default-clause-knows : goal.returns-in_default-clause-knows
returns-in_default-clause-knows g c =
    let is = subst (λ (u : KnownTable). IsAwayCpu u c.get.new.cpu) c.args.tables.now.words_are c.get.ensures.cpu in
    let run = subst (λ (u : KnownTable). GetsReference u c.args.seat.now.past c.args.frame c.get.result c.get.new.cpu.past) c.args.tables.now.words_are
    c.get.ensures.run in
    knows_not_held _ _ _ c.requires.knows c.get.new.cpu is c.get.ensures.same.0 c.args.frame c.get.result c.get.ensures.same.1 c.in_default.not-Held run
