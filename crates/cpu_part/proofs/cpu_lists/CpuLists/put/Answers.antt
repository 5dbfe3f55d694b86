use Rattle.std.proofs.Common.{◌≤◌, length, ap, arith, rules, subst, sym, ◌∙◌}
use Rattle.std.proofs.lemmas.List.{length-append}
use Rattle.step_rules.specs.declared.step.Action.TheVariants.{Put}
use Rattle.step_rules.specs.declared.step.Answer.TheVariants as said
use Rattle.step_rules.specs.State.{times}
use Rattle.boot_words.specs.{CpuMakes, IsAwayCpu, KnownTable}
use Rattle.cpu_part.specs.{KnownCpuLists, KnowsItsPart}
use Rattle.cpu_part.proofs.Counts.{one_shorter}
use Rattle.cpu_part.proofs.Knowing.{knows_last, knows_left, may_put}
use Rattle.cpu_part.proofs.Making.{may_do_at}
use Rattle.cpu_part.proofs.Unlisted.{put_last, put_left}
use Rattle.cpu_part.proofs.cpu_lists.CpuLists.put.Goals as goal

pub put-requires-clause-legal : goal.put-requires-clause-legal
put-requires-clause-legal g c =
    let knows = subst (KnowsItsPart _ _) (sym c.self.view_is) c.requires.knows in
    let pinned = subst (λ (k : KnownCpuLists). 1 ≤ times c.args.frame k.pins) (sym c.self.view_is) c.requires.pinned in
    may_do_at _ _ c.args.tables.now.words_are c.args.seat.now.past (Put c.args.frame) (may_put _ _ _ knows c.args.frame pinned)

pub invariant_of-self : goal.invariant_of-self
invariant_of-self g c =
    let within = c.self.invariant.0 in let bound = within.pin_bound in
    let fewer = one_shorter c.args.frame c.self.inside.pins.items c.unpin.new.pins.items c.unpin.ensures.pins in
    let more = ap length c.push_back_reserved.ensures.items ∙ length-append c.self.inside.back.items _ in
    (record { list_bound = within.list_bound; fresh_bound = within.fresh_bound; pin_bound = omega (arith, fewer, more, bound) }, search rules)

pub invariant_of-self-in-Left : goal.invariant_of-self-in-Left
invariant_of-self-in-Left g c =
    let within = c.self.invariant.0 in let bound = within.pin_bound in
    let fewer = one_shorter c.args.frame c.self.inside.pins.items c.unpin.new.pins.items c.unpin.ensures.pins in
    (record { list_bound = within.list_bound; fresh_bound = within.fresh_bound; pin_bound = omega (arith, fewer, bound) }, search rules)

pub returns-in-Last-clause-unlisted : goal.returns-in-Last-clause-unlisted
returns-in-Last-clause-unlisted g c =
    let run = subst (λ (u : KnownTable). CpuMakes u c.args.seat.now.past (Put c.args.frame) said.Last c.put.new.cpu.past) c.args.tables.now.words_are
    c.in-Last.ensures.run in
    put_last _ _ _ c.requires.knows c.args.frame c.put.new.cpu.past run

pub returns-in-Last-clause-knows : goal.returns-in-Last-clause-knows
returns-in-Last-clause-knows g c =
    let knows = subst (KnowsItsPart _ _) (sym c.self.view_is) c.requires.knows in
    let is = subst (λ (u : KnownTable). IsAwayCpu u c.put.new.cpu) c.args.tables.now.words_are c.in-Last.ensures.cpu in
    let run = subst (λ (u : KnownTable). CpuMakes u c.args.seat.now.past (Put c.args.frame) said.Last c.put.new.cpu.past) c.args.tables.now.words_are
    c.in-Last.ensures.run in
    knows_last _ _ _ knows c.put.new.cpu is c.in-Last.ensures.same.0 c.args.frame c.unpin.new.pins.items c.push_back_reserved.new.self.items run
    c.unpin.ensures.pins c.push_back_reserved.ensures.items

pub returns-in-Left-clause-answer : goal.returns-in-Left-clause-answer
returns-in-Left-clause-answer g c =
    let run = subst (λ (u : KnownTable). CpuMakes u c.args.seat.now.past (Put c.args.frame) (said.Left c.in-Left.left) c.put.new.cpu.past)
    c.args.tables.now.words_are c.in-Left.ensures.run in
    let told = put_left _ _ _ c.requires.knows c.args.frame c.in-Left.left c.put.new.cpu.past run in
    let low = told.1 in let high = told.2 in search rules

pub returns-in-Left-clause-unlisted : goal.returns-in-Left-clause-unlisted
returns-in-Left-clause-unlisted g c =
    let run = subst (λ (u : KnownTable). CpuMakes u c.args.seat.now.past (Put c.args.frame) (said.Left c.in-Left.left) c.put.new.cpu.past)
    c.args.tables.now.words_are c.in-Left.ensures.run in
    (put_left _ _ _ c.requires.knows c.args.frame c.in-Left.left c.put.new.cpu.past run).0

pub returns-in-Left-clause-knows : goal.returns-in-Left-clause-knows
returns-in-Left-clause-knows g c =
    let knows = subst (KnowsItsPart _ _) (sym c.self.view_is) c.requires.knows in
    let is = subst (λ (u : KnownTable). IsAwayCpu u c.put.new.cpu) c.args.tables.now.words_are c.in-Left.ensures.cpu in
    let run = subst (λ (u : KnownTable). CpuMakes u c.args.seat.now.past (Put c.args.frame) (said.Left c.in-Left.left) c.put.new.cpu.past)
    c.args.tables.now.words_are c.in-Left.ensures.run in
    knows_left _ _ _ knows c.put.new.cpu is c.in-Left.ensures.same.0 c.args.frame c.in-Left.left c.unpin.new.pins.items run c.unpin.ensures.pins
