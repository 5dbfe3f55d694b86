use Rattle.std.proofs.Common.{◌^◌, ◌<◌, rules}
use Rattle.control_files.proofs.WritingLemmas.{pages_read_back, max_reads_back}
use Rattle.control_files.proofs.limit.write_limit.Goals as goal

pub returns-in-None-clause-reads_back : goal.returns-in-None-clause-reads_back
returns-in-None-clause-reads_back c = rw (c.text_of.ensures, c.in-None.is) max_reads_back

pub returns-in-Some-clause-reads_back : goal.returns-in-Some-clause-reads_back
returns-in-Some-clause-reads_back c =
    let small : c.in-Some.pages < 2 ^ 32 = search rules in
    rw (c.pages_text.ensures, c.in-Some.is) (pages_read_back c.in-Some.pages small)
