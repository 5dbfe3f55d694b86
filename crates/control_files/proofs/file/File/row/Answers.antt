use Rattle.std.proofs.Common.{rules}
use Rattle.control_files.proofs.file.File.row.Goals as goal

pub returns-in-Peak : goal.returns-in-Peak
returns-in-Peak c = search rules

pub returns-in-OomGroup : goal.returns-in-OomGroup
returns-in-OomGroup c = search rules
