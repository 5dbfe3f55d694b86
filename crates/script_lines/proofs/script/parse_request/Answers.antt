use Rattle.std.proofs.Common.{arith, ◌+◌}
use Rattle.script_lines.proofs.Cuts.{cut_slice, digits_no_space}
use Rattle.script_lines.proofs.Fronts.{front_rest}
use Rattle.script_lines.proofs.Readings.{on_none, request_parts}
use Rattle.script_lines.proofs.script.parse_request.Goals as goal
use Rattle.script_lines.proofs.script.parse_request.Goals.{then-cpu-lt1-via-then-cpu-lt1, then-cpu-lt1-via-else-cpu-lt1+then-sizes-cpu}

pub returns-in_err-cpu : goal.returns-in_err-cpu
returns-in_err-cpu c = on_none _ _ _ c.from_residual.ensures (λ cpu command is.
    c.in_err-cpu.ensures is.digits is.rest cpu
    (record { parts = is.parts; no_space = digits_no_space is.digits is.writes.digits.1 }) is.writes)

pub returns-then-cpu-lt1 : goal.returns-then-cpu-lt1
returns-then-cpu-lt1 c cpu command is =
    let read = c.in_ok-cpu.ensures in
    let value = (request_parts c.args.sizes.now _ _ _ (cut_slice _ _ read.0) cpu command is).0.value in
    let same = read.1.value in
    let low = is.low in
    let high = is.high in
    elim c.then-cpu-lt1.branch [
      | then-cpu-lt1-via-then-cpu-lt1 w ↦ omega arith
      | then-cpu-lt1-via-else-cpu-lt1+then-sizes-cpu w ↦ omega arith
    ]

pub returns-in_err-command : goal.returns-in_err-command
returns-in_err-command c = on_none _ _ _ c.from_residual-in_err-command.ensures
    (λ cpu command is. c.in_err-command.ensures command (request_parts c.args.sizes.now _ _ _ (cut_slice _ _ c.in_ok-cpu.ensures.0) cpu command is).1)

pub parse_command-requires-clause-front : goal.parse_command-requires-clause-front
parse_command-requires-clause-front c =
    let inside = c.in_ok-cpu.ensures.0.0 in
    front_rest c.args.text.now c.args.wide.now (c.in_ok-cpu.end + 1) c.requires.front (omega arith)
