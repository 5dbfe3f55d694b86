use Rattle.std.proofs.Common.{refl, rules}
use Rattle.machine_texts.specs.{blocks_text, show_text, stock_line_text}
use Rattle.mem_system.specs.Visits.{locked_state}
use Rattle.reply_texts.specs.Answers.{settled_text}
use Rattle.script_lines.specs.declared.line.Command.TheVariants.{Blocks, Settle, Show, Stock}
use Rattle.script_replay.proofs.Serving.{is_settle, settled_written}
use Rattle.script_replay.proofs.writer.write_settled_cpu.Goals as goal

pub returns-in-Blocks-clause-told : goal.returns-in-Blocks-clause-told
returns-in-Blocks-clause-told g c =
    settled_written g.N.BootName.table c.args.is_explained c.args.command.now Blocks (locked_state c.args.locked.now c.args.cpu.now) c.write_blocks.result
    c.args.text.now c.write_blocks.new.text (blocks_text c.machine.result.now.blocks) c.in-Blocks.is (search rules) c.write_blocks.ensures

pub returns-in-Show-clause-told : goal.returns-in-Show-clause-told
returns-in-Show-clause-told g c =
    settled_written g.N.BootName.table c.args.is_explained c.args.command.now Show (locked_state c.args.locked.now c.args.cpu.now) c.write_show.result
    c.args.text.now c.write_show.new.text (show_text c.machine-in-Show.result.now) c.in-Show.is (search rules) c.write_show.ensures

pub returns-in-Stock-clause-told : goal.returns-in-Stock-clause-told
returns-in-Stock-clause-told g c =
    let l = c.args.locked.now in
    settled_written g.N.BootName.table c.args.is_explained c.args.command.now Stock (locked_state l c.args.cpu.now) c.write_own_stock.result
    c.args.text.now c.write_own_stock.new.text (stock_line_text g.N.BootName.table l.machine c.args.cpu.now.part) c.in-Stock.is refl
    c.write_own_stock.ensures

pub returns-in_default-clause-told : goal.returns-in_default-clause-told
returns-in_default-clause-told g c =
    settled_written g.N.BootName.table c.args.is_explained c.args.command.now Settle (locked_state c.args.locked.now c.args.cpu.now) c.write_settled.result
    c.args.text.now c.write_settled.new.text settled_text
    (is_settle c.args.command.now c.requires.settles c.in_default.not-Blocks c.in_default.not-Show c.in_default.not-Stock c.in_default.not-Units) refl
    c.write_settled.ensures
