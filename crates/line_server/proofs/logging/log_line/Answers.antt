-- Serves the contract of `log_line`: the line was served with a new watch; its part was added, or memory ran out for that.
use Rattle.std.proofs.Common.{◌≡◌, ◌∙◌, ◌++◌, ap, rules, sym, true}
use Rattle.step_watch.specs.Watched.{KnownWatch, has_whole_log, log_text}
use Rattle.script_replay.specs.Lines.{SystemState, system_state}
use Rattle.script_replay.specs.Terms.{Terms, terms}
use Rattle.line_server.proofs.Logged.{line_logged, line_part, renewed}
use Rattle.line_server.proofs.logging.log_line.Goals as goal

pub returns-in_err-serve_line : goal.returns-in_err-serve_line
returns-in_err-serve_line g c =
    let on : Terms = terms g.N.BootName.table true in
    let s : SystemState = system_state c.args.locked.now c.args.cpus.now in
    let begun : SystemState = system_state c.set_watch.new.self c.args.cpus.now in
    let e : SystemState = system_state c.serve_line.new.locked c.serve_line.new.cpus in
    let renews = renewed c.args.locked.now c.set_watch.new.self c.args.cpus.now c.logging.result c.logging.ensures c.set_watch.ensures in
    let served = c.serve_line.ensures.served in
    record { logged = line_part c.from_residual.result on c.args.text.now c.args.line.now s begun e served.text c.args.log.now.items _ renews served.so (search rules) }

pub returns-in_err-add_line : goal.returns-in_err-add_line
returns-in_err-add_line g c =
    let on : Terms = terms g.N.BootName.table true in
    let s : SystemState = system_state c.args.locked.now c.args.cpus.now in
    let begun : SystemState = system_state c.set_watch.new.self c.args.cpus.now in
    let e : SystemState = system_state c.serve_line.new.locked c.serve_line.new.cpus in
    let renews = renewed c.args.locked.now c.set_watch.new.self c.args.cpus.now c.logging.result c.logging.ensures c.set_watch.ensures in
    let served = c.in_ok-serve_line.ensures.served in
    record { logged = line_part c.from_residual-in_err-add_line.result on c.args.text.now c.args.line.now s begun e served.text c.args.log.now.items _ renews served.so (search rules) }

pub returns-in_err-add_steps : goal.returns-in_err-add_steps
returns-in_err-add_steps g c =
    let on : Terms = terms g.N.BootName.table true in
    let s : SystemState = system_state c.args.locked.now c.args.cpus.now in
    let begun : SystemState = system_state c.set_watch.new.self c.args.cpus.now in
    let e : SystemState = system_state c.serve_line.new.locked c.serve_line.new.cpus in
    let renews = renewed c.args.locked.now c.set_watch.new.self c.args.cpus.now c.logging.result c.logging.ensures c.set_watch.ensures in
    let served = c.in_ok-serve_line.ensures.served in
    record { logged = line_part c.from_residual-in_err-add_steps.result on c.args.text.now c.args.line.now s begun e served.text c.args.log.now.items _ renews served.so (search rules) }

pub returns : goal.returns
returns g c =
    let on : Terms = terms g.N.BootName.table true in
    let s : SystemState = system_state c.args.locked.now c.args.cpus.now in
    let begun : SystemState = system_state c.set_watch.new.self c.args.cpus.now in
    let e : SystemState = system_state c.serve_line.new.locked c.serve_line.new.cpus in
    let renews = renewed c.args.locked.now c.set_watch.new.self c.args.cpus.now c.logging.result c.logging.ensures c.set_watch.ensures in
    let served = c.in_ok-serve_line.ensures.served in
    let front = c.add_line.new.log.items in
    let steps = c.in_ok-add_steps.ensures in
    let told : c.as_bytes.result.now ≡ served.text = search rules in
    record {
      logged = line_logged c.add_answer.result on c.args.text.now c.args.line.now s begun e served.text c.args.log.now.items c.add_answer.new.log.items renews served.so
          front c.add_steps.new.log.items c.as_bytes.result.now c.in_ok-add_line.ensures (ap has_whole_log (sym c.watch.ensures) ∙ steps.whole)
          (steps.added ∙ ap (λ (k : KnownWatch). front ++ log_text k) c.watch.ensures) told c.add_answer.ensures;
    }
