use Rattle.std.proofs.Common.{◌≡◌, ◌<◌, ◌∷◌, length, rules, sym, ap, ◌∙◌}
use Rattle.boot_words.specs.Composed.{take_back_run}
use Rattle.cpu_part.specs.Cpus.{KnownCpuLists}
use Rattle.cpu_part.proofs.Counts.{front_removed}
use Rattle.cpu_part.proofs.Making.{are_legal_at, made_at}
use Rattle.cpu_part.proofs.Passing.{passed_inside}
use Rattle.cpu_part.proofs.cpu_lists.CpuLists.give_back_fresh.Goals as goal

pub take_back-requires-clause-legal : goal.take_back-requires-clause-legal
take_back-requires-clause-legal g c =
    let f = c.remove-frame.result in let rest = c.remove-frame.new.self.items in
    let some : 0 < length c.self.inside.fresh.items = search rules in
    let front : c.args.self.now.fresh ≡ f ∷ rest = ap (λ (k : KnownCpuLists). k.fresh) (sym c.self.view_is)
    ∙ front_removed f c.self.inside.fresh.items rest some c.remove-frame.ensures.value c.remove-frame.ensures.items in
    are_legal_at _ _ c.args.tables.now.words_are _ _ (λ p. take_back_run p f) (ap (λ (k : KnownCpuLists). k.number) c.self.view_is) c.args.held.now
    (c.requires.legal f rest front)

pub returns-clause-run : goal.returns-clause-run
returns-clause-run g c =
    made_at _ _ c.args.tables.now.words_are _ _ (λ p. take_back_run p c.remove-frame.result) (ap (λ (k : KnownCpuLists). k.number) c.self.view_is)
    c.args.held.now _ c.take_back.ensures

pub returns-clause-frame : goal.returns-clause-frame
returns-clause-frame g c =
    let f = c.remove-frame.result in let rest = c.remove-frame.new.self.items in
    let some : 0 < length c.self.inside.fresh.items = search rules in
    let front : c.args.self.now.fresh ≡ f ∷ rest = ap (λ (k : KnownCpuLists). k.fresh) (sym c.self.view_is)
    ∙ front_removed f c.self.inside.fresh.items rest some c.remove-frame.ensures.value c.remove-frame.ensures.items in
    passed_inside g.N.BootName.table c.args.held.now c.args.self.now.number f (c.requires.legal f rest front).0
