use Rattle.std.proofs.Common.{ℕ, [], ◌∷◌, refl, rules, subst, sym}
use Rattle.step_rules.specs.declared.step.Action.TheVariants.{Publish, Unfreeze}
use Rattle.step_rules.specs.declared.step.Answer.TheVariants.{Done}
use Rattle.step_rules.specs.After.{zone_makes}
use Rattle.mem_machine.specs.Noted.{KnownRun, MayTake, Records}
use Rattle.mem_machine.proofs.AtTable.{held_at, made_at, may_at}
use Rattle.mem_machine.proofs.Noted.{legal_step, notes_both}
use Rattle.mem_machine.proofs.Releases.{notes_of_zone}
use Rattle.mem_machine.proofs.publishing.publish.Goals as goal

pub unfreeze-requires : goal.unfreeze-requires
unfreeze-requires g c = record {
  held = held_at _ _ c.args.tables.now.words_are _ c.requires.held;
  legal = may_at _ _ c.args.tables.now.words_are 0 refl c.args.past.now (Unfreeze c.args.head 1) c.requires.legal.0.legal;
}

pub make_step-requires-clause-legal : goal.make_step-requires-clause-legal
make_step-requires-clause-legal g c =
    let made = made_at _ _ c.args.tables.now.words_are 0 refl _ (Unfreeze c.args.head 1) Done _ c.unfreeze.ensures in
    legal_step _ _ _ _ (subst (λ (x : ℕ). MayTake g.N.BootName.table c.unfreeze.new.held (zone_makes (Publish x) Done)) (sym c.number-frame.ensures)
    (c.requires.legal.1 _ made).0) tt (search rules)

pub returns : goal.returns
returns g c =
    let t = g.N.BootName.table in
    let mid : KnownRun = record { past = c.unfreeze.new.held; watch = c.take.new.self } in
    let last : KnownRun = record { past = c.make_step.new.past; watch = c.make_step.new.watch } in
    notes_both t (record { past = c.args.past.now; watch = c.args.watch.now }) (zone_makes (Unfreeze c.args.head 1) Done ∷ []) mid (zone_makes (Publish c.args.head) Done ∷ []) last
    (notes_of_zone t _ mid c.args.head _ c.number-frame.ensures (λ x. Unfreeze x 1) Done (made_at _ _ c.args.tables.now.words_are 0 refl _ _ _ _ c.unfreeze.ensures)
    (c.take.ensures _ _ (search rules)))
    (subst (λ (x : ℕ). Records t mid (zone_makes (Publish x) Done ∷ []) last) c.number-frame.ensures (c.make_step.ensures.notes _ _ (search rules)))
