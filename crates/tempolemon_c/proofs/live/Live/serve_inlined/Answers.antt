use Rattle.std.proofs.Common.{◌≡◌, ◌≤◌, ◌∙◌, ◌++◌, List, drop, length, refl, rules, subst, sym, take}
use Rattle.std.proofs.lemmas.List.{take-append-le, take_all}
use Rattle.mem_system.specs.Cpus.{CpuInRun}
use Rattle.script_lines.specs.declared.line.Command.{Command}
use Rattle.script_replay.specs.{system_state, CpuCommandInRange, SaysCommand}
use Rattle.tempolemon_c.specs.{ReturnsCommandAnswer, KnownLive}
use Rattle.tempolemon_c.specs.declared.calls.CallAnswer.TheVariants.{Served}
use Rattle.tempolemon_c.proofs.live.Live.serve_inlined.Goals as goal

pub returns : goal.returns
returns g c =
    let frames = g.N.BootName.table in
    let inside = c.self.inside in
    let cpu = c.args.cpu in
    let command : Command = c.args.command.now in
    let cpus = c.serve_value.new.cpus in
    let value = c.serve_value.result in
    let live : KnownLive = record {
      sizes = inside.sizes;
      state = system_state inside.locked inside.cpus.items;
      unread_answer = inside.unread_answer.items;
    } in
    let left : KnownLive = record {
      sizes = inside.sizes;
      state = system_state c.serve_value.new.locked cpus;
      unread_answer = inside.unread_answer.items;
    } in
    let says : SaysCommand frames cpu command live.state left.state value =
    subst (λ l. SaysCommand frames cpu command (system_state inside.locked l) left.state value)
    c.deref_mut.ensures.value c.serve_value.ensures.answer in
    let there : CpuCommandInRange inside.sizes.frames inside.sizes.cpus cpu command = search rules in
    let short : inside.cpus.len ≤ length cpus = search rules in
    let long : length cpus ≤ inside.cpus.len = search rules in
    let same : take inside.cpus.len (cpus ++ drop (length cpus) inside.cpus.items) ≡ cpus
    = take-append-le inside.cpus.len cpus (drop (length cpus) inside.cpus.items) short ∙ take_all inside.cpus.len cpus long in
    subst (λ (from : KnownLive). ReturnsCommandAnswer frames cpu command from
    (record {
      sizes = inside.sizes;
      state = system_state c.serve_value.new.locked (take inside.cpus.len (cpus ++ drop (length cpus) inside.cpus.items));
      unread_answer = inside.unread_answer.items;
    }) (Served value)) c.self.view_is
    (subst (λ (l : List CpuInRun). ReturnsCommandAnswer frames cpu command live
    (record { sizes = inside.sizes; state = system_state c.serve_value.new.locked l; unread_answer = inside.unread_answer.items })
    (Served value)) (sym same)
    (record {
      answer = value;
      serves = record { there = there; says = says; rest = record { sizes = refl; unread_answer = refl } };
      is_answer = (c.serve_value.ensures.groups, refl);
    }))
