use Rattle.std.proofs.Common.{◌≢◌, ◌∙◌, [], ap, refl, rules}
use Rattle.group_charge.specs.declared.settings.ReclaimSettings.{ReclaimSettings}
use Rattle.group_charge.specs.Charges.{Ledger, settings_of, with_settings}
use Rattle.mem_machine.specs.Steps.{set_oom_group_steps}
use Rattle.mem_system.proofs.files.write_setting.Goals as goal

pub returns-in-Max-clause-written : goal.returns-in-Max-clause-written
returns-in-Max-clause-written g c =
    let below : c.args.group ≢ 0 = search rules in
    let set = c.set_limit.ensures.sets in
    rw c.in-Max.is (record { steps = set.steps; does = (below, set.does); makes = set.makes })

pub returns-in-High-clause-written : goal.returns-in-High-clause-written
returns-in-High-clause-written g c =
    let below : c.args.group ≢ 0 = search rules in
    let set = c.set_high.ensures.sets in
    rw c.in-High.is (record { steps = set.steps; does = (below, set.does); makes = set.makes })

pub returns-in-Low-clause-written : goal.returns-in-Low-clause-written
returns-in-Low-clause-written g c =
    let below : c.args.group ≢ 0 = search rules in
    let m = c.args.machine.now in
    let group = c.args.group in
    let set = c.set_settings.ensures in
    let kept = c.settings-settings.ensures ∙ ap (λ (l : Ledger). settings_of l group) c.charges.ensures in
    let is = set.machine ∙ ap (λ (s : ReclaimSettings). record m { ledger = with_settings m.ledger group (record s { low = c.in-Low.low }) }) kept in
    rw c.in-Low.is (record { steps = []; does = (below, (is, refl)); makes = set.steps })

pub returns-in-Min-clause-written : goal.returns-in-Min-clause-written
returns-in-Min-clause-written g c =
    let below : c.args.group ≢ 0 = search rules in
    let m = c.args.machine.now in
    let group = c.args.group in
    let set = c.set_settings-in-Min.ensures in
    let kept = c.settings-settings.ensures ∙ ap (λ (l : Ledger). settings_of l group) c.charges.ensures in
    let is = set.machine ∙ ap (λ (s : ReclaimSettings). record m { ledger = with_settings m.ledger group (record s { min = c.in-Min.min }) }) kept in
    rw c.in-Min.is (record { steps = []; does = (below, (is, refl)); makes = set.steps })

pub returns-in-OomGroup-clause-written : goal.returns-in-OomGroup-clause-written
returns-in-OomGroup-clause-written g c =
    let below : c.args.group ≢ 0 = search rules in
    let set = c.set_oom_group.ensures in
    rw c.in-OomGroup.is (record {
      steps = set_oom_group_steps c.args.group c.in-OomGroup.flag;
      does = (below, record { machine = set.machine; steps_are = refl });
      makes = set.steps;
    })

pub returns-in-Reclaim-clause-written : goal.returns-in-Reclaim-clause-written
returns-in-Reclaim-clause-written g c = rw c.in-Reclaim.is c.reclaim_asked.ensures.written
