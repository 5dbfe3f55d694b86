-- At first all is as at boot.
use Rattle.std.proofs.Common.{◌≡◌, ◌*◌, ◌^◌, lit<, [], sym, ◌∙◌, ap, subst, arith}
use Rattle.step_rules.specs.State.{Zone, State, at_boot}
use Rattle.step_rules.specs.Invariant.{KeepsInvariant, IsHomed}
use Rattle.step_rules.proofs.Runs.{sound_boot}
use Rattle.step_rules.proofs.Keeping.{homed_run}
use Rattle.mem_core.specs.Rows as rows
use Rattle.mem_core.specs.{IsBounded, zone_of_config}
use Rattle.mem_core.proofs.Linking.{rows_are}
use Rattle.mem_core.proofs.Advancing.{bounded_boot}
use Rattle.mem_core.proofs.checker.Checker.new.Goals as goal

pub invariant_of-result : goal.invariant_of-result
invariant_of-result c =
    let s = rows.state_in c.in_ok-rows.rows in
    let zone : Zone = zone_of_config c.args.config in
    let boot : s ≡ at_boot zone = c.in_ok-rows.ensures.state in
    let frames : s.zone.frames ≡ c.args.config.frames = ap (λ (t : State). t.zone.frames) boot in
    record {
      fits = c.in_ok-rows.ensures.fits;
      sound = subst KeepsInvariant (sym boot) (sound_boot zone);
      homed = subst IsHomed (sym boot) (homed_run zone [] (λ k. tt)).1;
      bounded = subst (IsBounded (0 * 2 ^ 32)) (sym boot) (bounded_boot (0 * 2 ^ 32) zone);
      few = lit< tt;
      frames = c.in_ok-areas.ensures.frames ∙ sym frames;
      room = let b = c.in_ok-free.ensures.exact in omega arith;
    }

pub returns-clause-state : goal.returns-clause-state
returns-clause-state c = rows_are c.in_ok-rows.rows [] [] 0 ∙ c.in_ok-rows.ensures.state
