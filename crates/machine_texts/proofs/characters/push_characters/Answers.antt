use Rattle.std.proofs.Common.{◌∙◌, sym}
use Rattle.machine_texts.proofs.Codes.{added_whole}
use Rattle.machine_texts.proofs.characters.push_characters.Goals as goal

pub returns-in-Ok : goal.returns-in-Ok
returns-in-Ok c = added_whole c.push_str.result _ _ _ c.args.codes.now c.push_str.ensures.bytes
    c.in-Ok.ensures.cases.0 (sym c.are_ascii.ensures ∙ c.if-are_ascii.true)
