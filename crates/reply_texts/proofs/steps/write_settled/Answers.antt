use Rattle.std.proofs.Common.{rules}
use Rattle.reply_texts.proofs.steps.write_settled.Goals as goal

pub returns : goal.returns
returns c = search rules
