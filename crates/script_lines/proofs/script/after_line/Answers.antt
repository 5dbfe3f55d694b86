use Rattle.script_lines.proofs.Texts.{feed_at, first_text, last_text}
use Rattle.script_lines.proofs.script.after_line.Goals as goal

pub returns-then-end-text : goal.returns-then-end-text
returns-then-end-text c = first_text c.args.text.now c.args.end (feed_at c.args.text.now c.args.end c.requires c.if-end-text.true)

pub returns-else-end-text : goal.returns-else-end-text
returns-else-end-text c = last_text c.args.text.now c.args.end c.requires c.if-end-text.false
