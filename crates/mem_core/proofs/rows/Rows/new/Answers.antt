-- All is as at boot.
use Rattle.std.proofs.Common.{◌-◌, false, length, get_or, sym, ◌∙◌, ap}
use Rattle.std.proofs.Math.Nat.{min-eq_left}
use Rattle.std.proofs.lemmas.List.{length-replicate}
use Rattle.group_tree.specs.{most_groups, initial_groups}
use Rattle.step_rules.specs.declared.phase.Phase.TheVariants.{InZone}
use Rattle.step_rules.specs.State.{Zone, at_boot}
use Rattle.mem_core.proofs.Starting.{replicate_all, new_part, new_reference}
use Rattle.mem_core.proofs.rows.Rows.new.Goals as goal

pub returns-clause-state : goal.returns-clause-state
returns-clause-state c =
    let zone : Zone = record { frames = c.args.frames; cpus = c.args.cpus; groups = c.args.groups } in
    let seats = c.in_ok-seats.seats.items in
    let none = c.in_ok-seats.ensures.none in
    λ i. record (at_boot zone) {
      groups = (c.in_ok-tree.ensures ∙ ap (λ n. initial_groups (n - 1)) (sym (min-eq_left c.requires.groups.1))) i;
      killed = λ g. (ap (λ l. get_or l g false) c.in_ok-killed.ensures.items ∙ replicate_all most_groups false g) i;
      phases = λ f. (ap (λ l. get_or l f InZone) c.in_ok-phases.ensures ∙ replicate_all c.args.frames InZone f) i;
      references = λ seat f. new_reference c.args.frames seats seat f none i;
      parts = λ p. new_part c.args.frames seats p none i;
      pending = λ g. (ap (λ l. get_or l g 0) c.in_ok-pending.ensures.items ∙ replicate_all most_groups 0 g) i;
    }

pub returns-clause-fits : goal.returns-clause-fits
returns-clause-fits c = record {
  frames = c.requires.frames;
  cpus = c.requires.cpus;
  phases = ap length c.in_ok-phases.ensures ∙ length-replicate c.args.frames InZone;
  seats = c.in_ok-seats.ensures.number;
  killed = c.in_ok-killed.ensures.number;
  pending = c.in_ok-pending.ensures.number;
  rooms = c.in_ok-seats.ensures.rooms;
}
