use Rattle.std.proofs.Common.{rules}
use Rattle.reply_texts.proofs.steps.write_unlocked.Goals as goal

pub returns-in-Listed : goal.returns-in-Listed
returns-in-Listed c = search rules
