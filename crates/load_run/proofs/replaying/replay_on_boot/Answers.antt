use Rattle.std.proofs.Common.{◌∙◌, ◌++◌, List, [], ap, length, refl, subst}
use Rattle.boot_words.specs.{zone_of_boot}
use Rattle.mem_system.specs.Cpus.{CpuInRun}
use Rattle.step_rules.specs.After.{Run}
use Rattle.mem_history.proofs.Along.{legal_front}
use Rattle.script_replay.specs.{HasRun, SystemState, steps_of_served, system_state, form_terms}
use Rattle.script_replay.proofs.Gaining.{all_lines_go_on}
use Rattle.script_replay.proofs.Keeping.{legal_lines_keep_it}
use Rattle.load_run.specs.Ending.{EndsHeld, boot_end_text}
use Rattle.std.proofs.lemmas.Result.{IfOk-at_ok, IfOk-weaker}
use Rattle.load_run.proofs.Starting.{boot_agrees, boot_shown, given_back, lent_parts, lent_so_far, lines_there, new_state}
use Rattle.load_run.proofs.Whole.{whole_run}
use Rattle.load_run.proofs.replaying.replay_on_boot.Goals as goal

pub replay-answers-requires : goal.replay-answers-requires
replay-answers-requires g c =
    let booted = c.in_ok-locked.ensures in
    let long = ap length c.deref_mut.ensures.value ∙ booted.count in
    record { there = lines_there c.args.boot.sizes _ _ c.args.lines.now booted.sized long c.requires.lines }

pub end_boot-ended-requires : goal.end_boot-ended-requires
end_boot-ended-requires g c =
    let same = given_back _ _ _ _ c.deref_mut.ensures.value c.deref_mut.ensures.len c.replay-answers.auto.cpus in
    record { count = ap length same ∙ c.replay-answers.auto.cpus ∙ ap length c.deref_mut.ensures.value ∙ c.in_ok-locked.ensures.count }

pub returns : goal.returns
returns g c =
    let t = g.N.BootName.table in
    let booted = c.in_ok-locked.ensures in
    let left = c.replay-answers.new in
    let start : SystemState = system_state c.in_ok-locked.locked c.deref_mut.result.now in
    let new = new_state _ _ t _ c.deref_mut.result.now refl booted.sized booted.machine booted.sizes
    (lent_parts _ _ c.deref_mut.ensures.value booted.cpus) (lent_so_far _ _ _ c.deref_mut.ensures.value booted.so_far) in
    let served = IfOk-at_ok _ c.in_ok-answers.was c.replay-answers.ensures.outcome.replayed in
    let end : SystemState = system_state left.locked left.cpus in
    let answers = c.in_ok-answers.field-0.items in
    let on = form_terms t c.args.form in
    let lines = c.args.lines.now in
    let run : Run = steps_of_served on lines start end answers served in
    let has : HasRun run end = all_lines_go_on on lines start end answers served [] new.so_far in
    let told = c.end_boot-ended.result in
    let ends = subst (λ (cpus : List CpuInRun). EndsHeld t (system_state left.locked cpus) told)
    (given_back _ _ _ _ c.deref_mut.ensures.value c.deref_mut.ensures.len c.replay-answers.auto.cpus) c.end_boot-ended.ensures.ends in
    let all = whole_run t run end told has ends in
    let legal = legal_front (zone_of_boot t) run ends.leaves.steps all.leads.legal in
    record {
      answers = IfOk-weaker c.with_end.result _ _ (λ text is. record {
        frames = t;
        start = start;
        end = end;
        run = run;
        answers = answers;
        ending = boot_end_text c.args.is_audited told;
        first = new;
        served = served;
        history = legal_lines_keep_it on lines start end answers served [] (boot_shown _ _ _ new) legal (boot_agrees _ _ _ new);
        agrees = boot_agrees _ _ _ new;
        ends = record { ended = told; ends = ends; text_is = refl };
        whole = run ++ ends.leaves.steps;
        whole_is = refl;
        is_whole = all;
        text_is = is;
      }) c.with_end.ensures.told;
    }
