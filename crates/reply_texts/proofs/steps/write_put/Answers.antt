use Rattle.std.proofs.Common.{rules}
use Rattle.reply_texts.proofs.steps.write_put.Goals as goal

pub returns-in-Last : goal.returns-in-Last
returns-in-Last c = search rules
