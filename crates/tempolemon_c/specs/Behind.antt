-- The boot behind a handle.
use Rattle.std.specs.Prelude.{Option}
use Rattle.tempolemon_c.specs.declared.handle.Handle.{Handle}
use Rattle.host_memory.specs.{led_of}
use Rattle.tempolemon_c.specs.Handles.{LiveBoot}

-- the boot behind a handle, if there is one
abbrev pub behind : Handle → Option LiveBoot
behind handle = led_of handle.raw.frames handle.raw.live
