-- At first all is as at boot.
use Rattle.std.proofs.Common.{◌≡◌, ◌*◌, ◌^◌, ◌<◌, lit<, [], refl, sym, ◌∙◌, ap, subst, arith}
use Rattle.group_tree.specs.Bounds.{most_groups}
use Rattle.step_rules.specs.State.{Zone, State, at_boot}
use Rattle.step_rules.specs.Invariant.{KeepsInvariant, IsHomed}
use Rattle.step_rules.proofs.Runs.{sound_boot}
use Rattle.step_rules.proofs.Keeping.{homed_run}
use Rattle.mem_core.specs.Rows as rows
use Rattle.mem_core.specs.{IsBounded, zone_of_config, new_account, account_in, HaveSmallPeaks}
use Rattle.mem_core.specs.declared.reading_core.Core.TheInside.{Inside}
use Rattle.mem_core.proofs.Linking.{shown_is}
use Rattle.mem_core.proofs.Advancing.{bounded_boot}
use Rattle.std.proofs.Common.{replicate}
use Rattle.std.proofs.lemmas.List.{get_or-replicate, length-replicate}
use Rattle.mem_core.proofs.Starting.{replicate_all}
use Rattle.mem_core.specs.Accounts.{Account}
use Rattle.mem_core.proofs.Accounting.{tell_start}
use Rattle.mem_core.proofs.reading_core.Core.new.Goals as goal

new_peaks : HaveSmallPeaks (replicate most_groups new_account)
new_peaks k d h =
    let len = length-replicate {A = Account} most_groups new_account in subst (λ (a : Account). a.peak < 2 ^ 108)
    (sym (get_or-replicate most_groups k new_account d (omega arith))) (lit< tt)

pub set_areas-requires-clause-frames : goal.set_areas-requires-clause-frames
set_areas-requires-clause-frames c = c.in_ok-areas.ensures.frames ∙ sym (ap (λ (t : State). t.zone.frames) c.in_ok-rows.ensures.state)

pub invariant_of-result : goal.invariant_of-result
invariant_of-result c =
    let s = rows.state_in c.in_ok-rows.rows in
    let zone : Zone = zone_of_config c.args.config in
    let boot : s ≡ at_boot zone = c.in_ok-rows.ensures.state in
    let frames : s.zone.frames ≡ c.args.config.frames = ap (λ (t : State). t.zone.frames) boot in
    record {
      fits = c.in_ok-rows.ensures.fits;
      sound = subst KeepsInvariant (sym boot) (sound_boot zone);
      homed = subst IsHomed (sym boot) (homed_run zone [] (λ k. tt)).1;
      bounded = subst (IsBounded (0 * 2 ^ 32)) (sym boot) (bounded_boot (0 * 2 ^ 32) zone);
      accounts = c.in_ok-accounts.ensures.number;
      peaks = subst HaveSmallPeaks (sym c.in_ok-accounts.ensures.items) new_peaks;
      few = lit< tt;
      frames = c.set_areas.ensures.frames ∙ c.in_ok-areas.ensures.frames ∙ sym frames;
      room = let a = c.set_areas.ensures.room in let b = c.in_ok-free.ensures.exact in omega arith;
      areas = c.set_areas.ensures.areas;
    }

pub returns-clause-empty : goal.returns-clause-empty
returns-clause-empty c =
    let s = rows.state_in c.in_ok-rows.rows in
    let inside : Inside = record {
      rows = c.in_ok-rows.rows;
      free = c.set_areas.new.free;
      accounts =
          c.in_ok-accounts.accounts;
      areas = c.set_areas.new.areas;
      steps = 0;
    } in
    let zone : Zone = zone_of_config c.args.config in
    let boot : s ≡ at_boot zone = c.in_ok-rows.ensures.state in
    let same : s.zone ≡ zone = ap (λ (t : State). t.zone) boot in
    record {
      legal = λ k. tt;
      steps = refl;
      state = shown_is inside ∙ boot ∙ ap at_boot (sym same);
      accounts = tell_start (s.zone) c.in_ok-accounts.accounts.items (λ m. ap (λ l. account_in l m) c.in_ok-accounts.ensures.items
          ∙ replicate_all most_groups new_account m);
    }
