use Rattle.std.proofs.Common.{◌≡◌, ◌∙◌, ap, subst, List}
use Rattle.std.specs.Slots.{slots_items}
use Rattle.step_rules.specs.State.{Zone}
use Rattle.boot_words.specs.declared.past.Past.{Past}
use Rattle.boot_words.specs.{zone_of_boot, IsEndOfRun}
use Rattle.boot_words.proofs.Closing.{end_of_run}
use Rattle.boot_words.proofs.raw.BootWords.end.Goals as goal

pub returns-clause-end : goal.returns-clause-end
returns-clause-end c =
    let final = c.close_with.ensures.values.2 in
    let zone = c.self.invariant.zone_is ∙ ap zone_of_boot c.self.view_is in
    subst (λ (y : Zone × List Past). IsEndOfRun y.0 (slots_items c.close_with.result.words) y.1) (λ i. (zone i, ap (λ r. r.pasts) c.seat.view_is i)) (end_of_run _ _ _ _ _ final)
