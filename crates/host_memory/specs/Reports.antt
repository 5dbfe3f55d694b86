-- What a host reads of an end.
use Rattle.mem_system.specs.declared.end_with_pins.SystemEnd.{SystemEnd}
use Rattle.host_memory.specs.declared.report.Report.{Report}

-- the end, as the report says it
abbrev pub end_of : Report → SystemEnd
end_of report = record {
  held = report.held;
  audit = record {
    frames = report.frames;
    free = report.free;
    charged = report.charged;
    last_puts = report.last_puts;
    freezes = report.freezes;
    drops = report.drops;
    returns = report.returns;
  };
}
