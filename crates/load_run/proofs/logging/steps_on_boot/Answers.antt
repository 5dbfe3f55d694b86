use Rattle.std.proofs.Common.{◌∙◌, ◌++◌, Bor, List, ℕ, ap, length, map, refl, subst, sym, true}
use Rattle.mem_system.specs.Cpus.{CpuInRun}
use Rattle.script_replay.specs.{SystemState, system_state, terms}
use Rattle.script_lines.specs.Script.{texts_of}
use Rattle.load_run.specs.Logs.{LogsAllAndEnd, LogsEnd, log_head_text, steps_of_logs}
use Rattle.load_run.proofs.Logged.{both_logged, logs_whole}
use Rattle.load_run.proofs.Starting.{given_back, lent_parts, lent_so_far, lines_there, new_state}
use Rattle.load_run.proofs.logging.steps_on_boot.Goals as goal

pub log_each-served-requires : goal.log_each-served-requires
log_each-served-requires g c =
    let booted = c.in_ok-locked.ensures in
    let long = ap length c.deref_mut.ensures.value ∙ booted.count in
    record { there = lines_there c.args.boot.sizes _ _ c.args.lines.now booted.sized long c.requires.lines }

pub log_end-ended-requires : goal.log_end-ended-requires
log_end-ended-requires g c =
    let same = given_back _ _ _ _ c.deref_mut.ensures.value c.deref_mut.ensures.len c.log_each-served.auto.cpus in
    record { count = ap length same ∙ c.log_each-served.auto.cpus ∙ ap length c.deref_mut.ensures.value ∙ c.in_ok-locked.ensures.count }

pub returns : goal.returns
returns g c =
    let t = g.N.BootName.table in
    let booted = c.in_ok-locked.ensures in
    let left = c.log_each-served.new in
    let start : SystemState = system_state c.in_ok-locked.locked c.deref_mut.result.now in
    let end : SystemState = system_state left.locked left.cpus in
    let texts = ap (map (λ (text : Bor (List ℕ)). text.now)) c.deref.ensures.value ∙ c.in_ok-texts.ensures in
    let adds = c.in_ok-ended.ensures.logged in
    let ends = subst (λ (cpus : List CpuInRun). LogsEnd t (system_state left.locked cpus) adds.part)
    (given_back _ _ _ _ c.deref_mut.ensures.value c.deref_mut.ensures.len c.log_each-served.auto.cpus) adds.so in
    let grown = both_logged t _ c.args.lines.now start end _ _ _ adds.part c.in_ok-served.ensures.logged ends adds.added in
    let head = c.in_ok-log.ensures ∙ ap log_head_text (sym c.requires.sizes) in
    let first = new_state _ _ t _ c.deref_mut.result.now refl booted.sized booted.machine booted.sizes
    (lent_parts _ _ c.deref_mut.ensures.value booted.cpus) (lent_so_far _ _ _ c.deref_mut.ensures.value booted.so_far) in
    let lines = c.args.lines.now in
    let script = texts_of c.args.script.now in
    let logs : LogsAllAndEnd t script lines start grown.text
    = subst (λ (l : List (List ℕ)). LogsAllAndEnd t l lines start grown.text) texts grown.so in
    record {
      steps = record {
        frames = t;
        start = start;
        first = first;
        log = grown.text;
        logs = logs;
        whole = steps_of_logs (terms t true) script lines start logs.end logs.served_log logs.served ++ logs.ends.ends.leaves.steps;
        whole_is = refl;
        is_whole = logs_whole t script lines start grown.text first.so_far logs;
        text_is = grown.added ∙ ap (λ (l : List ℕ). l ++ grown.text) head;
      };
    }
