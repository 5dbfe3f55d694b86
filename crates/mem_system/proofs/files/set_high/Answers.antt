use Rattle.std.proofs.Common.{ap, ◌∙◌, []}
use Rattle.group_tree.specs.Groups.{has_group}
use Rattle.group_charge.specs.declared.settings.ReclaimSettings.{ReclaimSettings}
use Rattle.group_charge.specs.Charges.{Ledger, settings_of, with_settings}
use Rattle.mem_machine.specs.Machines.{KnownMachine}
use Rattle.mem_reclaim.proofs.Grown.{held_after}
use Rattle.mem_system.proofs.Writing.{high_set}
use Rattle.mem_system.proofs.files.set_high.Goals as goal

pub lower_to_high-requires-clause-there : goal.lower_to_high-requires-clause-there
lower_to_high-requires-clause-there g c =
    ap (λ (k : KnownMachine). has_group k.ledger.groups c.args.group) c.set_settings.ensures.machine ∙ c.requires.there

pub lower_to_high-requires-clause-held : goal.lower_to_high-requires-clause-held
lower_to_high-requires-clause-held g c =
    held_after g.N.BootName.table c.args.machine.now [] c.set_settings.new.self c.set_settings.ensures.steps c.requires.held

pub returns-clause-sets : goal.returns-clause-sets
returns-clause-sets g c =
    let m = c.args.machine.now in
    let set = c.set_settings.ensures in
    let kept = c.settings-settings.ensures ∙ ap (λ (l : Ledger). settings_of l c.args.group) c.charges.ensures in
    high_set g.N.BootName.table c.args.group c.args.high m c.set_settings.new.self c.lower_to_high.new.machine
    (set.machine ∙ ap (λ (s : ReclaimSettings). record m { ledger = with_settings m.ledger c.args.group (record s { high = c.args.high }) }) kept)
    set.steps c.lower_to_high.ensures.lowers

pub returns-clause-visit : goal.returns-clause-visit
returns-clause-visit g c = λ y v. c.lower_to_high.ensures.visit y (c.set_settings.ensures.visit y v)
