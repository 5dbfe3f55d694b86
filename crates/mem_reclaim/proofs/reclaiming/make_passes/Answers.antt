use Rattle.std.proofs.Common.{◌≡◌, ◌+◌, ◌-◌, false, true, not, [], ◌∷◌, cond, refl, sym, ap, ◌∙◌, arith}
use Rattle.group_charge.specs.Charges.{Ledger, are_protecting}
use Rattle.mem_reclaim.specs.declared.passes.Pass.TheVariants.{First, Second, Third}
use Rattle.mem_reclaim.specs.Passes.{ReclaimsPass, passes_of}
use Rattle.mem_reclaim.proofs.Wanting.{both_done, both_enough, first_enough, three_done}
use Rattle.mem_reclaim.proofs.Keeping.{keeps_both}
use Rattle.mem_reclaim.proofs.Passing.{all_missed, as_pass, as_passes, with_third}
use Rattle.mem_reclaim.proofs.Grown.{held_after}
use Rattle.mem_reclaim.proofs.reclaiming.make_passes.Goals as goal

-- ---- enough after the first pass

pub returns-then-want-first-clause-reclaims : goal.returns-then-want-first-clause-reclaims
returns-then-want-first-clause-reclaims g c =
    let m = c.args.machine.now in
    as_passes g.N.BootName.table c.args.group c.args.want c.reclaim_pass-first.result m c.reclaim_pass-first.new.machine (passes_of m.ledger.settings) refl
    (first_enough g.N.BootName.table (ReclaimsPass c.args.group) First (Second ∷ cond (are_protecting m.ledger.settings) (Third ∷ []) []) c.args.want m c.requires.wanted
    c.reclaim_pass-first.result c.reclaim_pass-first.new.machine (as_pass _ First _ c.args.want _ _ _ c.reclaim_pass-first.ensures.passes) c.if-want-first.true)

pub returns-then-want-first-clause-missed : goal.returns-then-want-first-clause-missed
returns-then-want-first-clause-missed g c less = let enough = c.if-want-first.true in absurd (omega (arith, less, enough))

-- ---- the second pass

pub reclaim_pass-requires-clause-held : goal.reclaim_pass-requires-clause-held
reclaim_pass-requires-clause-held g c =
    let first = c.reclaim_pass-first.ensures.passes in
    held_after g.N.BootName.table c.args.machine.now first.steps c.reclaim_pass-first.new.machine first.moves.runs c.requires.held

pub returns-then-want-both-clause-reclaims : goal.returns-then-want-both-clause-reclaims
returns-then-want-both-clause-reclaims g c =
    let m = c.args.machine.now in
    as_passes g.N.BootName.table c.args.group c.args.want _ m c.reclaim_pass.new.machine (passes_of m.ledger.settings) refl
    (both_enough g.N.BootName.table (ReclaimsPass c.args.group) First Second c.args.want m c.requires.wanted c.reclaim_pass-first.result c.reclaim_pass-first.new.machine
    (as_pass _ First _ c.args.want _ _ _ c.reclaim_pass-first.ensures.passes) c.if-want-first.false c.reclaim_pass.result c.reclaim_pass.new.machine (as_pass _ Second _ (c.args.want - c.reclaim_pass-first.result) _ _ _ c.reclaim_pass.ensures.passes)
    (cond (are_protecting m.ledger.settings) (Third ∷ []) []) c.if-want-both.true)

pub returns-then-want-both-clause-missed : goal.returns-then-want-both-clause-missed
returns-then-want-both-clause-missed g c less = let enough = c.if-want-both.true in absurd (omega (arith, less, enough))

pub returns-then-want-both-clause-keeps : goal.returns-then-want-both-clause-keeps
returns-then-want-both-clause-keeps g c =
    keeps_both g.N.BootName.table c.args.machine.now c.reclaim_pass-first.new.machine c.reclaim_pass.new.machine c.reclaim_pass-first.ensures.keeps c.reclaim_pass.ensures.keeps

-- ---- nothing is protected

pub returns-then-not-is_protecting-clause-reclaims : goal.returns-then-not-is_protecting-clause-reclaims
returns-then-not-is_protecting-clause-reclaims g c =
    let m = c.args.machine.now in
    let same = c.reclaim_pass.ensures.keeps.settings ∙ c.reclaim_pass-first.ensures.keeps.settings in
    let off : are_protecting m.ledger.settings ≡ false =
    ap are_protecting (sym same) ∙ ap (λ (l : Ledger). are_protecting l.settings) (sym c.charges.ensures) ∙ sym c.is_protecting.ensures ∙ c.if-not-is_protecting.true in
    as_passes g.N.BootName.table c.args.group c.args.want _ m c.reclaim_pass.new.machine (First ∷ Second ∷ []) (with_third false m.ledger.settings off)
    (both_done g.N.BootName.table (ReclaimsPass c.args.group) First Second c.args.want m c.requires.wanted c.reclaim_pass-first.result c.reclaim_pass-first.new.machine
    (as_pass _ First _ c.args.want _ _ _ c.reclaim_pass-first.ensures.passes) c.if-want-first.false c.reclaim_pass.result c.reclaim_pass.new.machine (as_pass _ Second _ (c.args.want - c.reclaim_pass-first.result) _ _ _ c.reclaim_pass.ensures.passes))

pub returns-then-not-is_protecting-clause-missed : goal.returns-then-not-is_protecting-clause-missed
returns-then-not-is_protecting-clause-missed g c less =
    let off = ap are_protecting (sym c.reclaim_pass.ensures.keeps.settings) ∙ ap (λ (l : Ledger). are_protecting l.settings) (sym c.charges.ensures) ∙ sym c.is_protecting.ensures ∙ c.if-not-is_protecting.true in
    all_missed g.N.BootName.table c.args.group c.args.machine.now c.reclaim_pass-first.new.machine c.reclaim_pass.new.machine c.reclaim_pass-first.ensures.keeps
    (c.reclaim_pass.ensures.tried (ap not off) (omega (arith, less)))

pub returns-then-not-is_protecting-clause-keeps : goal.returns-then-not-is_protecting-clause-keeps
returns-then-not-is_protecting-clause-keeps g c =
    keeps_both g.N.BootName.table c.args.machine.now c.reclaim_pass-first.new.machine c.reclaim_pass.new.machine c.reclaim_pass-first.ensures.keeps c.reclaim_pass.ensures.keeps

-- ---- the third pass

pub reclaim_pass-requires-2-clause-held : goal.reclaim_pass-requires-2-clause-held
reclaim_pass-requires-2-clause-held g c =
    let first = c.reclaim_pass-first.ensures.passes in
    let second = c.reclaim_pass.ensures.passes in
    held_after g.N.BootName.table c.reclaim_pass-first.new.machine second.steps c.reclaim_pass.new.machine second.moves.runs
    (held_after g.N.BootName.table c.args.machine.now first.steps c.reclaim_pass-first.new.machine first.moves.runs c.requires.held)

pub returns-clause-reclaims : goal.returns-clause-reclaims
returns-clause-reclaims g c =
    let m = c.args.machine.now in
    let same = c.reclaim_pass.ensures.keeps.settings ∙ c.reclaim_pass-first.ensures.keeps.settings in
    let on : are_protecting m.ledger.settings ≡ true =
    ap are_protecting (sym same) ∙ ap (λ (l : Ledger). are_protecting l.settings) (sym c.charges.ensures) ∙ sym c.is_protecting.ensures ∙ c.if-not-is_protecting.false in
    as_passes g.N.BootName.table c.args.group c.args.want _ m c.reclaim_pass-2.new.machine (First ∷ Second ∷ Third ∷ []) (with_third true m.ledger.settings on)
    (three_done g.N.BootName.table (ReclaimsPass c.args.group) First Second c.args.want m c.requires.wanted c.reclaim_pass-first.result c.reclaim_pass-first.new.machine
    (as_pass _ First _ c.args.want _ _ _ c.reclaim_pass-first.ensures.passes) c.if-want-first.false c.reclaim_pass.result c.reclaim_pass.new.machine (as_pass _ Second _ (c.args.want - c.reclaim_pass-first.result) _ _ _ c.reclaim_pass.ensures.passes)
    Third c.if-want-both.false c.reclaim_pass-2.result c.reclaim_pass-2.new.machine (as_pass _ Third _ (c.args.want - (c.reclaim_pass-first.result + c.reclaim_pass.result)) _ _ _ c.reclaim_pass-2.ensures.passes))

pub returns-clause-missed : goal.returns-clause-missed
returns-clause-missed g c less =
    let t = g.N.BootName.table in
    all_missed t c.args.group c.args.machine.now c.reclaim_pass.new.machine c.reclaim_pass-2.new.machine
    (keeps_both t c.args.machine.now c.reclaim_pass-first.new.machine c.reclaim_pass.new.machine c.reclaim_pass-first.ensures.keeps c.reclaim_pass.ensures.keeps)
    (c.reclaim_pass-2.ensures.tried refl (omega (arith, less)))

pub returns-clause-keeps : goal.returns-clause-keeps
returns-clause-keeps g c =
    let t = g.N.BootName.table in
    keeps_both t c.args.machine.now c.reclaim_pass.new.machine c.reclaim_pass-2.new.machine
    (keeps_both t c.args.machine.now c.reclaim_pass-first.new.machine c.reclaim_pass.new.machine c.reclaim_pass-first.ensures.keeps c.reclaim_pass.ensures.keeps)
    c.reclaim_pass-2.ensures.keeps
