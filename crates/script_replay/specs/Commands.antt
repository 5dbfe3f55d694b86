-- What a command of a script is under the lock, and what it names.
use Rattle.std.specs.Prelude.{ℕ, zero, Bool, true, false, List, [], Option, Some, None}
use Rattle.std.specs.Borrow.{Bor}
use Rattle.mem_system.specs.declared.text_command.TextCommand.{TextCommand}
use Rattle.mem_system.specs.declared.text_command.TextCommand.TheVariants as cmd
use Rattle.script_lines.specs.declared.line.Command.{Command}
use Rattle.script_lines.specs.declared.line.Command.TheVariants.{Mkdir, Rmdir, Write, Read, Alloc, Fast, Release, Get, Put}
use Rattle.script_lines.specs.declared.line.Command.TheVariants.{OnFrame, Settle, Blocks, Show, Stock, Units}
use Rattle.script_lines.specs.declared.line.FrameAct.{FrameAct}
use Rattle.script_lines.specs.declared.line.FrameAct.TheVariants.{Touch, Dirty, Clean, Owner}

-- the command that is this act on this frame
abbrev pub act_on : FrameAct → ℕ → TextCommand
act_on Touch frame = cmd.Touch frame
act_on Dirty frame = cmd.Dirty frame
act_on Clean frame = cmd.Clean frame
act_on Owner frame = cmd.Owner frame

-- The command that is served under the lock, as its texts give it, and whose reply is the answer. An Alloc of a single frame
-- and a Release are tried without the lock before. All others need no lock, or only settle their CPU.
abbrev pub locked_command_of : Command → Option TextCommand
locked_command_of (Mkdir path) = Some (cmd.Mkdir path)
locked_command_of (Rmdir path) = Some (cmd.Rmdir path)
locked_command_of (Write path file value) = Some (cmd.Write path file value)
locked_command_of (Read path file) = Some (cmd.Read path file)
locked_command_of (Alloc path order) = Some (cmd.Alloc path order)
locked_command_of (Release frame) = Some (cmd.Release frame)
locked_command_of (OnFrame act frame) = Some (act_on act frame)
locked_command_of other = None

-- the command is tried without the lock, whatever lies behind the lock
abbrev pub is_tried : Command → Bool
is_tried (Fast group) = true
is_tried (Release frame) = true
is_tried (Get frame) = true
is_tried (Put frame) = true
is_tried other = false

-- the path of the group, if the command allocates a single frame
abbrev pub frame_path : Command → Option (Bor (List ℕ))
frame_path (Alloc path zero) = Some path
frame_path other = None

-- the command settles its CPU, and does nothing else
abbrev pub OnlySettles : Command → Type 0
OnlySettles Settle = Unit {0}
OnlySettles Blocks = Unit {0}
OnlySettles Show = Unit {0}
OnlySettles Stock = Unit {0}
OnlySettles (Units path) = Unit {0}
OnlySettles other = ⊥

-- the answer is a value: it has no text of any length
abbrev pub HasValueAnswer : Command → Type 0
HasValueAnswer Blocks = ⊥
HasValueAnswer Show = ⊥
HasValueAnswer Stock = ⊥
HasValueAnswer (Units path) = ⊥
HasValueAnswer other = Unit {0}

-- the frame that has to be the head of a kept unit for the command, if there is one
abbrev pub head_named : Command → Option ℕ
head_named (Release frame) = Some frame
head_named (OnFrame Owner frame) = None
head_named (OnFrame act frame) = Some frame
head_named other = None

-- the path of the group that the command removes, if it is to remove one
abbrev pub path_removed : Command → List ℕ
path_removed (Rmdir path) = path.now
path_removed other = []
