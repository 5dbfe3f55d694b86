use Rattle.std.proofs.Common.{◌≡◌, ◌∙◌, ℕ, ap, false, refl, replicate, rules, subst}
use Rattle.mem_machine.specs.Machines.{boot_ledger, boot_room}
use Rattle.mem_machine.specs.Start.{AreEmpty}
use Rattle.mem_machine.proofs.Clean.{clean_first}
use Rattle.mem_machine.proofs.First.{first_is, owners_first, rests_first, starts, sums_first}
use Rattle.mem_machine.proofs.machine.Machine.new.Goals as goal

pub invariant_of-result : goal.invariant_of-result
invariant_of-result g c =
    let t = g.N.BootName.table in
    let sized : c.frames.result ≡ g.N.BootName.table.frames = search rules in
    let room : c.choices-groups.result.groups ≡ g.N.BootName.table.choices.groups = search rules in
    let first = first_is t _ c.frames.result sized c.in-Ok.ensures.frame_states (c.in-Ok.ensures.charges ∙ ap boot_ledger room) c.in-Ok.ensures.nowhere (c.in-Ok.ensures.killed ∙ ap (λ (n : ℕ). replicate (boot_room n) false) room) refl c.in-Ok.ensures.notes c.is_proportional.ensures c.requires.past in
    let kept = starts t _ first _ c.frames.result sized c.in-Ok.ensures.frames (subst (λ (n : ℕ). AreEmpty c.in-Ok.parts.lists.items (boot_room n)) room c.in-Ok.ensures.lists) c.in-Ok.ensures.free c.in-Ok.ensures.areas in
    record {
      consistent = kept.0;
      free = kept.1;
      clean = clean_first _ _ c.in-Ok.ensures.nowhere _ _ c.in-Ok.ensures.killed _ c.in-Ok.ensures.clean;
      sums = sums_first t _ first _ _ c.in-Ok.ensures.killed _ c.in-Ok.ensures.sums;
      owners = owners_first t _ first _ c.new.ensures c.prove_sizes.ensures.few;
    }

pub returns-clause-first : goal.returns-clause-first
returns-clause-first g c =
    let sized : c.frames.result ≡ g.N.BootName.table.frames = search rules in
    let room : c.choices-groups.result.groups ≡ g.N.BootName.table.choices.groups = search rules in
    first_is g.N.BootName.table _ c.frames.result sized c.in-Ok.ensures.frame_states (c.in-Ok.ensures.charges ∙ ap boot_ledger room) c.in-Ok.ensures.nowhere (c.in-Ok.ensures.killed ∙ ap (λ (n : ℕ). replicate (boot_room n) false) room) refl c.in-Ok.ensures.notes
    c.is_proportional.ensures c.requires.past

pub returns-clause-rests : goal.returns-clause-rests
returns-clause-rests g c = rests_first g.N.BootName.table _ (returns-clause-first g c)
