-- What a command that texts give stands for names only what exists. Serves `serve_text`.
use Rattle.std.proofs.Common.{◌≡◌, ℕ, List, sym, subst}
use Rattle.group_tree.specs.declared.group.Group.{Group}
use Rattle.boot_words.specs.Tables.{KnownTable}
use Rattle.mem_system.specs.declared.command.LockedCommand.{LockedCommand}
use Rattle.mem_system.specs.declared.command.LockedCommand.TheVariants as cmd
use Rattle.mem_system.specs.declared.text_command.TextCommand.{TextCommand}
use Rattle.mem_system.specs.declared.text_command.TextCommand.TheVariants.{Mkdir, Rmdir, Write, Read, Settle, Owner, Touch, Dirty, Clean, Release}
use Rattle.mem_system.specs.declared.text_command.TextCommand.TheVariants.{Alloc}
use Rattle.mem_system.specs.{IsOfZone, NamesWhatExists, StandsFor}
use Rattle.mem_system.proofs.Found.{found_there}

module _ (t : KnownTable) (groups : List Group) where
  pub names_exist : (command : TextCommand) (c : LockedCommand) → IsOfZone t command → StandsFor groups command c → NamesWhatExists t groups c
  names_exist (Rmdir path) (cmd.Rmdir group) zone is = found_there groups path.now group is
  names_exist (Write path file value) (cmd.Write group setting) zone is = found_there groups path.now group is.is_file.number
  names_exist (Read path name) (cmd.Read group file) zone is = (found_there groups path.now group is.number, is.below_root)
  names_exist (Alloc path order) (cmd.Alloc group same) zone is = found_there groups path.now group is.0
  names_exist (Mkdir path) c zone is = subst (NamesWhatExists t groups) (sym is) tt
  names_exist Settle c zone is = subst (NamesWhatExists t groups) (sym is) tt
  names_exist (Owner frame) c zone is = subst (NamesWhatExists t groups) (sym is) zone
  names_exist (Touch frame) c zone is = subst (NamesWhatExists t groups) (sym is) zone
  names_exist (Dirty frame) c zone is = subst (NamesWhatExists t groups) (sym is) zone
  names_exist (Clean frame) c zone is = subst (NamesWhatExists t groups) (sym is) zone
  names_exist (Release frame) c zone is = subst (NamesWhatExists t groups) (sym is) zone
  names_exist command c zone is = absurd is
