use Rattle.std.proofs.Common.{refl, sym, subst}
use Rattle.step_rules.specs.declared.step.Action.{Action}
use Rattle.step_rules.specs.declared.step.Answer.{Answer}
use Rattle.step_rules.specs.After.{zone_makes}
use Rattle.boot_words.specs.{MakesStep, IsPlain}
use Rattle.mem_machine.specs.Noted.{MayTake}
use Rattle.mem_machine.proofs.AtTable.{held_at, made_at, take_at}
use Rattle.mem_machine.proofs.Noted.{notes_one}
use Rattle.mem_machine.proofs.stepping.make_step.Goals as goal

pub make_plain-requires-clause-held : goal.make_plain-requires-clause-held
make_plain-requires-clause-held g c = held_at _ _ c.args.tables.now.words_are _ c.requires.held

pub make_plain-requires-clause-plain : goal.make_plain-requires-clause-plain
make_plain-requires-clause-plain g c =
    subst (λ (x : Action × Answer). IsPlain x.0) (sym (c.requires.legal.4 _ c.made-action.ensures)) c.requires.legal.3

pub make_plain-requires-clause-step : goal.make_plain-requires-clause-step
make_plain-requires-clause-step g c =
    take_at _ _ c.args.tables.now.words_are c.args.past.now (zone_makes c.made-action.result.0 c.made-action.result.1)
    (subst (λ (x : Action × Answer). MayTake g.N.BootName.table c.args.past.now (zone_makes x.0 x.1)) (sym (c.requires.legal.4 _ c.made-action.ensures)) c.requires.legal.2)

pub returns-clause-held : goal.returns-clause-held
returns-clause-held g c = (made_at _ _ c.args.tables.now.words_are 0 refl _ _ _ _ c.make_plain.ensures.run).held

pub returns-clause-run : goal.returns-clause-run
returns-clause-run g c = λ action answer builds.
    subst (λ (x : Action × Answer). MakesStep g.N.BootName.table c.args.past.now 0 x.0 x.1 c.make_plain.new.held) (builds _ c.made-action.ensures)
    (made_at _ _ c.args.tables.now.words_are 0 refl _ _ _ _ c.make_plain.ensures.run)

pub returns-clause-notes : goal.returns-clause-notes
returns-clause-notes g c = λ action answer builds.
    notes_one g.N.BootName.table (record { past = c.args.past.now; watch = c.args.watch.now }) (zone_makes action answer) (record { past = c.make_plain.new.held; watch = c.take.new.self })
    (returns-clause-run g c action answer builds) (c.take.ensures action answer builds)
