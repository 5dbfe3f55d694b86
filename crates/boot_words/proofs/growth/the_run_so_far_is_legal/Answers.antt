use Rattle.boot_words.proofs.Gaining.{the_run_so_far_is_legal}
use Rattle.boot_words.proofs.growth.the_run_so_far_is_legal.Goals as goal

pub returns : goal.returns
returns c = the_run_so_far_is_legal
