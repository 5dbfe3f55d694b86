use Rattle.std.proofs.Common.{◌≡◌, ℕ, List, true, [], ◌++◌, ◌∙◌, ap, length, refl, subst, sym}
use Rattle.std.proofs.lemmas.Result.{IfErr-at_err, IfOk-at_ok, err_from_is_err_and}
use Rattle.boot_words.specs.{zone_of_boot}
use Rattle.mem_system.specs.{CpuInRun, KnownLocked}
use Rattle.step_watch.specs.Watched.{has_legal_steps}
use Rattle.script_replay.specs.{lines_so_far, HasRun, SystemState, system_state, form_terms}
use Rattle.load_run.specs.{checked_text, EndsChecked, boot_end_text}
use Rattle.load_run.proofs.Starting.{boot_agrees, boot_shown, given_back, lent_parts, lent_so_far, lines_there}
use Rattle.load_run.proofs.Stopped.{new_watched, stop_told}
use Rattle.load_run.proofs.Watched.{saw_more}
use Rattle.load_run.proofs.Whole.{kept_goes_on, whole_run}
use Rattle.load_run.proofs.checked_replaying.check_on_boot.Goals as goal

pub replay_checked-answers-requires-clause-there : goal.replay_checked-answers-requires-clause-there
replay_checked-answers-requires-clause-there g c =
    let booted = c.in_ok-locked.ensures in
    let long = ap length c.deref_mut.ensures.value ∙ booted.count in
    lines_there c.args.boot.sizes _ _ c.args.lines.now booted.sized long c.requires.lines

pub replay_checked-answers-requires-clause-legal : goal.replay_checked-answers-requires-clause-legal
replay_checked-answers-requires-clause-legal g c =
    ap (λ (l : KnownLocked). has_legal_steps l.machine.run.watch) c.set_watch.ensures ∙ c.in_ok-watch.ensures.legal

pub end_checked_boot-requires : goal.end_checked_boot-requires
end_checked_boot-requires g c =
    let same = given_back _ _ _ _ c.deref_mut.ensures.value c.deref_mut.ensures.len c.replay_checked-answers.auto.cpus in
    record { count = ap length same ∙ c.replay_checked-answers.auto.cpus ∙ ap length c.deref_mut.ensures.value ∙ c.in_ok-locked.ensures.count }

pub returns-in_err-answers : goal.returns-in_err-answers
returns-in_err-answers g c =
    let booted = c.in_ok-locked.ensures in
    let new = new_watched c.args.boot.sizes c.args.sizes g.N.BootName.table _ c.deref_mut.result.now _ _ booted.sized c.requires.sizes
    booted.machine booted.sizes (lent_parts _ _ c.deref_mut.ensures.value booted.cpus) (lent_so_far _ _ _ c.deref_mut.ensures.value booted.so_far)
    c.in_ok-watch.ensures c.set_watch.ensures in
    let p = err_from_is_err_and c.from_residual-in_err-answers.result c.from_residual-in_err-answers.ensures.1 in
    rw (p.1, p.2) (record {
      answers = tt;
      fault = stop_told c.args.boot.sizes c.args.form _ c.args.lines.now _ _ _ new
          (IfErr-at_err _ c.in_err-answers.was c.replay_checked-answers.ensures.outcome.stopped);
    })

pub returns-then-not-seen : goal.returns-then-not-seen
returns-then-not-seen g c =
    let t = g.N.BootName.table in
    let booted = c.in_ok-locked.ensures in
    let left = c.replay_checked-answers.new in
    let new = new_watched c.args.boot.sizes c.args.sizes t _ c.deref_mut.result.now _ _ booted.sized c.requires.sizes
    booted.machine booted.sizes (lent_parts _ _ c.deref_mut.ensures.value booted.cpus) (lent_so_far _ _ _ c.deref_mut.ensures.value booted.so_far)
    c.in_ok-watch.ensures c.set_watch.ensures in
    let told = c.end_checked_boot.result in
    let ends = subst (λ (cpus : List CpuInRun). EndsChecked t (system_state left.locked cpus) told.0 told.1)
    (given_back _ _ _ _ c.deref_mut.ensures.value c.deref_mut.ensures.len c.replay_checked-answers.auto.cpus) c.end_checked_boot.ensures.ends in
    let replays = IfOk-at_ok _ c.in_ok-answers.was c.replay_checked-answers.ensures.outcome.replayed in
    record {
      answers = tt;
      fault = record {
        frames = t;
        start = system_state c.set_watch.new.self c.deref_mut.result.now;
        end = system_state left.locked left.cpus;
        answers = c.in_ok-answers.answers.items;
        ended = told.0;
        new = new;
        history = replays.history (boot_shown _ _ _ new.first) (boot_agrees _ _ _ new.first) new.watched;
        ends = ends.ends;
        not_legal = sym ends.is_legal ∙ c.if-not-seen.true;
      };
    }

pub returns : goal.returns
returns g c =
    let t = g.N.BootName.table in
    let booted = c.in_ok-locked.ensures in
    let left = c.replay_checked-answers.new in
    let new = new_watched c.args.boot.sizes c.args.sizes t _ c.deref_mut.result.now _ _ booted.sized c.requires.sizes
    booted.machine booted.sizes (lent_parts _ _ c.deref_mut.ensures.value booted.cpus) (lent_so_far _ _ _ c.deref_mut.ensures.value booted.so_far)
    c.in_ok-watch.ensures c.set_watch.ensures in
    let told = c.end_checked_boot.result in
    let ends = subst (λ (cpus : List CpuInRun). EndsChecked t (system_state left.locked cpus) told.0 told.1)
    (given_back _ _ _ _ c.deref_mut.ensures.value c.deref_mut.ensures.len c.replay_checked-answers.auto.cpus) c.end_checked_boot.ensures.ends in
    let replays = IfOk-at_ok _ c.in_ok-answers.was c.replay_checked-answers.ensures.outcome.replayed in
    let tells = replays.history (boot_shown _ _ _ new.first) (boot_agrees _ _ _ new.first) new.watched in
    let held = ends.ends in
    let on : has_legal_steps held.emptied.machine.run.watch ≡ true = sym ends.is_legal ∙ c.if-not-seen.false in
    let saw = saw_more (zone_of_boot t) tells.run left.locked.machine.run.watch held.leaves.steps held.emptied.machine.run.watch tells.saw held.leaves.watched on in
    let start : SystemState = system_state c.set_watch.new.self c.deref_mut.result.now in
    let end : SystemState = system_state left.locked left.cpus in
    let has : HasRun tells.run end = kept_goes_on (form_terms t c.args.form) c.args.lines.now (lines_so_far [] start) (lines_so_far tells.run end) _ tells.history new.first.so_far in
    let shown = c.in_ok-told.told.items in
    record {
      answers = record {
        shown = shown;
        replay = record {
          frames = t;
          start = start;
          end = end;
          run = tells.run;
          answers = c.in_ok-answers.answers.items;
          ending = boot_end_text c.args.is_audited told.0;
          first = new.first;
          served = replays.served;
          history = tells.history;
          agrees = boot_agrees _ _ _ new.first;
          ends = record { ended = told.0; ends = held; text_is = refl };
          whole = tells.run ++ held.leaves.steps;
          whole_is = refl;
          is_whole = whole_run t tells.run end told.0 has held;
          text_is = c.in_ok-told.ensures.told;
        };
        text_is = c.in_ok-with_steps.ensures.told ∙ ap (λ (n : ℕ). shown ++ checked_text n) (ends.steps ∙ saw.count);
      };
      fault = tt;
    }
