use Rattle.std.proofs.Common.{rules}
use Rattle.reply_texts.proofs.steps.write_get.Goals as goal

pub returns-in-Raced : goal.returns-in-Raced
returns-in-Raced c = search rules
