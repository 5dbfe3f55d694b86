use Rattle.control_files.proofs.FileLemmas.{found-name_of}
use Rattle.control_files.proofs.file.file_named.Goals as goal

pub returns : goal.returns
returns c file = rw c.first_named.ensures (found-name_of c.args.name.now file)
