-- The faults of a session.
use Rattle.std.specs.Prelude.{⊤}
use Rattle.line_server.specs.declared.reading.ReadFault.{ReadFault}
use Rattle.line_server.specs.declared.reading.ReadFault.TheVariants as reading
use Rattle.line_server.specs.declared.fault.ServeFault.{ServeFault}
use Rattle.line_server.specs.declared.fault.ServeFault.TheVariants.{Input, Output, NoMemory}

-- the same fault of a session
abbrev pub read_fault : ReadFault → ServeFault
read_fault reading.Input = Input
read_fault reading.NoMemory = NoMemory

-- a fault of reading: the input failed, or memory ran out
abbrev pub IsServeReadFault : ServeFault → Type 0
IsServeReadFault Input = ⊤
IsServeReadFault Output = ⊥
IsServeReadFault NoMemory = ⊤
