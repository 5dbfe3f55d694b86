use Rattle.std.proofs.Common.{true, false}
use Rattle.control_files.proofs.FlagLemmas.{flag_reads_back}
use Rattle.control_files.proofs.flag.write_flag.Goals as goal

pub returns-then-flag-clause-reads_back : goal.returns-then-flag-clause-reads_back
returns-then-flag-clause-reads_back c = rw (c.text_of.ensures, c.if-flag.true) (flag_reads_back true)

pub returns-else-flag-clause-reads_back : goal.returns-else-flag-clause-reads_back
returns-else-flag-clause-reads_back c = rw (c.text_of-else-flag.ensures, c.if-flag.false) (flag_reads_back false)
