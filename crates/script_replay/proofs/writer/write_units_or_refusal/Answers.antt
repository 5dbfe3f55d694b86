use Rattle.std.proofs.Common.{◌∙◌, None, Some, Ok, ap, rules}
use Rattle.group_tree.specs.Groups.{number_at}
use Rattle.group_tree.specs.declared.fault.Fault.TheVariants.{NoGroup}
use Rattle.reply_texts.specs.Replies.{refusal_text}
use Rattle.script_replay.specs.Reasons.{reasoned_text}
use Rattle.script_replay.proofs.UnitTexts.{locked_stays, units_failed, units_none, units_there}
use Rattle.script_replay.proofs.Serving.{not_noted}
use Rattle.script_replay.proofs.writer.write_units_or_refusal.Goals as goal

pub returns-in_err-is_there : goal.returns-in_err-is_there
returns-in_err-is_there g c =
    let seen = c.write_units_at in
    let l = c.args.locked.now in
    let group = number_at l.machine.ledger.groups c.args.path.now in record {
      told = units_failed g.N.BootName.table (reasoned_text c.args.is_explained (refusal_text NoGroup) (Some NoGroup) None) c.args.text.now seen.new.text
          seen.new.text l.machine seen.new.locked.machine c.from_residual.result group seen.result seen.ensures.units c.in_err-is_there.field-0.0
          c.in_err-is_there.was (λ text. search rules);
      stays = locked_stays g.N.BootName.table group _ _ l seen.new.locked seen.ensures.units seen.ensures.sizes;
    }

pub returns-then-is_there : goal.returns-then-is_there
returns-then-is_there g c =
    let seen = c.write_units_at in
    let l = c.args.locked.now in
    let group = number_at l.machine.ledger.groups c.args.path.now in record {
      told = units_there g.N.BootName.table (reasoned_text c.args.is_explained (refusal_text NoGroup) (Some NoGroup) None) c.args.text.now seen.new.text
          seen.new.text l.machine seen.new.locked.machine (Ok tt) group seen.result seen.ensures.units (c.in_ok-is_there.was ∙ ap Ok c.if-is_there.true);
      stays = locked_stays g.N.BootName.table group _ _ l seen.new.locked seen.ensures.units seen.ensures.sizes;
    }

pub returns : goal.returns
returns g c =
    let seen = c.write_units_at in
    let l = c.args.locked.now in
    let group = number_at l.machine.ledger.groups c.args.path.now in record {
      told = units_none g.N.BootName.table (reasoned_text c.args.is_explained (refusal_text NoGroup) (Some NoGroup) None) c.args.text.now seen.new.text
          c.write_value.new.text l.machine seen.new.locked.machine c.write_value.result group seen.result seen.ensures.units
          (c.in_ok-is_there.was ∙ ap Ok c.if-is_there.false) (not_noted c.write_value.result _ _ _ c.write_value.ensures);
      stays = locked_stays g.N.BootName.table group _ _ l seen.new.locked seen.ensures.units seen.ensures.sizes;
    }
