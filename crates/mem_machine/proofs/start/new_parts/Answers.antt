use Rattle.std.proofs.Common.{◌≡◌, ◌∙◌, ◌+◌, ◌-◌, ℕ, ap, false, min, replicate, rules, subst}
use Rattle.group_tree.specs.Bounds.{most_groups}
use Rattle.group_charge.specs.Charges.{initial_ledger}
use Rattle.mem_machine.specs.Start.{AreEmpty}
use Rattle.mem_machine.proofs.start.new_parts.Goals as goal

pub returns : goal.returns
returns c =
    let below : c.saturating_sub-below.result ≡ min c.args.groups most_groups - 1 = search rules in
    record {
      free = c.in_ok-zone.ensures.free;
      areas = c.in_ok-zone.ensures.areas;
      frame_states = c.in_ok-zone.ensures.frame_states;
      frames = c.in_ok-zone.ensures.frames;
      nowhere = c.in_ok-zone.ensures.nowhere;
      charges = c.in_ok-charges.ensures ∙ ap initial_ledger below;
      lists = subst (λ (n : ℕ). AreEmpty c.in_ok-lists.lists.items (n + 1)) below c.in_ok-lists.ensures.lists;
      clean = c.in_ok-lists.ensures.clean ∙ ap (λ (n : ℕ). replicate (n + 1) 0) below;
      sums = c.in_ok-lists.ensures.sums ∙ ap (λ (n : ℕ). replicate (n + 1) 0) below;
      killed = c.in_ok-lists.ensures.killed ∙ ap (λ (n : ℕ). replicate (n + 1) false) below;
      notes = c.in_ok-notes.ensures;
    }
