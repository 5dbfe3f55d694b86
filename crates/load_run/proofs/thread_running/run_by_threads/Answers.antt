-- Serves the contract of `run_by_threads`: what stands goes from the boot to the lines before `go`, from these to the
-- look at all pasts, from that to the threads, to the second look, and ends.
use Rattle.std.proofs.Common.{◌≡◌, ◌∙◌, ◌≤◌, ℕ, false, List, ◌++◌, refl, arith, length, ap, subst, sym, take, drop}
use Rattle.std.proofs.lemmas.Result.{IfOk-at_ok, IfOk-weaker}
use Rattle.zone_blocks.specs.declared.config.Config.{Config}
use Rattle.mem_system.specs.{CpuInRun, KnownLocked}
use Rattle.script_replay.specs.{ServesAll, SystemState, system_state, known_system, numbered_terms, AreAllAnswers, workers_from}
use Rattle.script_replay.proofs.Running.{go_least}
use Rattle.load_run.specs.{EndsHeld, boot_end_text, SeesAllPasts}
use Rattle.load_run.proofs.Starting.{given_back, lent_parts, lent_so_far, new_state}
use Rattle.load_run.proofs.Joining.{are_answers, early_there, later_there}
use Rattle.load_run.proofs.thread_running.run_by_threads.Goals as goal

pub split_at-requires : goal.split_at-requires
split_at-requires g c = subst (λ (n : ℕ). n ≤ length c.args.lines.now) (sym c.before_go.ensures) (go_least c.args.lines.now)

pub replay-first-requires : goal.replay-first-requires
replay-first-requires g c =
    let booted = c.in_ok-locked.ensures in
    let long = ap length c.deref_mut.ensures.value ∙ booted.count in
    record { there = early_there c.args.boot.sizes _ c.before_go.result _ c.args.lines.now _ booted.sized long c.split_at.ensures.front c.requires.lines }

pub survey-requires : goal.survey-requires
survey-requires g c =
    let back = given_back _ _ _ _ c.deref_mut.ensures.value c.deref_mut.ensures.len c.replay-first.auto.cpus in
    record { count = ap length (c.deref_mut-2.ensures.value ∙ back) ∙ c.replay-first.auto.cpus ∙ ap length c.deref_mut.ensures.value ∙ c.in_ok-locked.ensures.count }

pub serve_later-told-requires-clause-count : goal.serve_later-told-requires-clause-count
serve_later-told-requires-clause-count g c =
    let back = given_back _ _ _ _ c.deref_mut.ensures.value c.deref_mut.ensures.len c.replay-first.auto.cpus in
    let looked = given_back _ _ _ _ c.deref_mut-2.ensures.value c.deref_mut-2.ensures.len c.survey.auto.cpus in
    let long : length c.deref_mut-3.result.now ≡ g.N.BootName.table.cpus =
    ap length (c.deref_mut-3.ensures.value ∙ looked) ∙ c.survey.auto.cpus ∙ ap length (c.deref_mut-2.ensures.value ∙ back) ∙ c.replay-first.auto.cpus
    ∙ ap length c.deref_mut.ensures.value ∙ c.in_ok-locked.ensures.count in
    let sized = c.prove_quiet.ensures.quiet.sized.cpus in
    let most = c.prove_quiet.ensures.quiet.valid.cpus_high in
    omega (arith, long, sized, most)

pub serve_later-told-requires-clause-lines : goal.serve_later-told-requires-clause-lines
serve_later-told-requires-clause-lines g c κs within =
    let back = given_back _ _ _ _ c.deref_mut.ensures.value c.deref_mut.ensures.len c.replay-first.auto.cpus in
    let looked = given_back _ _ _ _ c.deref_mut-2.ensures.value c.deref_mut-2.ensures.len c.survey.auto.cpus in
    let booted = c.in_ok-locked.ensures in
    let long = ap length (c.deref_mut-3.ensures.value ∙ looked) ∙ c.survey.auto.cpus ∙ ap length (c.deref_mut-2.ensures.value ∙ back) ∙ c.replay-first.auto.cpus
    ∙ ap length c.deref_mut.ensures.value ∙ booted.count in
    later_there c.args.boot.sizes _ c.before_go.result _ c.args.lines.now _ booted.sized long c.split_at.ensures.back c.requires.lines

pub survey-requires-2 : goal.survey-requires-2
survey-requires-2 g c =
    let back = given_back _ _ _ _ c.deref_mut.ensures.value c.deref_mut.ensures.len c.replay-first.auto.cpus in
    let looked = given_back _ _ _ _ c.deref_mut-2.ensures.value c.deref_mut-2.ensures.len c.survey.auto.cpus in
    let same = given_back _ _ _ _ c.deref_mut-3.ensures.value c.deref_mut-3.ensures.len c.serve_later-told.auto.cpus in
    record {
      count = ap length (c.deref_mut-4.ensures.value ∙ same) ∙ c.serve_later-told.auto.cpus ∙ ap length (c.deref_mut-3.ensures.value ∙ looked) ∙ c.survey.auto.cpus
          ∙ ap length (c.deref_mut-2.ensures.value ∙ back) ∙ c.replay-first.auto.cpus ∙ ap length c.deref_mut.ensures.value ∙ c.in_ok-locked.ensures.count;
    }

pub end_boot-ended-requires : goal.end_boot-ended-requires
end_boot-ended-requires g c =
    let back = given_back _ _ _ _ c.deref_mut.ensures.value c.deref_mut.ensures.len c.replay-first.auto.cpus in
    let looked = given_back _ _ _ _ c.deref_mut-2.ensures.value c.deref_mut-2.ensures.len c.survey.auto.cpus in
    let same = given_back _ _ _ _ c.deref_mut-3.ensures.value c.deref_mut-3.ensures.len c.serve_later-told.auto.cpus in
    let again = given_back _ _ _ _ c.deref_mut-4.ensures.value c.deref_mut-4.ensures.len c.survey-2.auto.cpus in
    record {
      count = ap length again ∙ c.survey-2.auto.cpus ∙ ap length (c.deref_mut-4.ensures.value ∙ same) ∙ c.serve_later-told.auto.cpus
          ∙ ap length (c.deref_mut-3.ensures.value ∙ looked) ∙ c.survey.auto.cpus ∙ ap length (c.deref_mut-2.ensures.value ∙ back) ∙ c.replay-first.auto.cpus
          ∙ ap length c.deref_mut.ensures.value ∙ c.in_ok-locked.ensures.count;
    }

pub returns : goal.returns
returns g c =
    let t = g.N.BootName.table in
    let sizes = c.args.boot.sizes in
    let lines = c.args.lines.now in
    let is_numbered = c.args.is_numbered in
    let booted = c.in_ok-locked.ensures in
    let shown = c.deref_mut.ensures.value in
    let back = given_back _ _ _ _ shown c.deref_mut.ensures.len c.replay-first.auto.cpus in
    let met = c.deref_mut-2.ensures.value ∙ back in
    let looked = given_back _ _ _ _ c.deref_mut-2.ensures.value c.deref_mut-2.ensures.len c.survey.auto.cpus in
    let lent = c.deref_mut-3.ensures.value ∙ looked in
    let same = given_back _ _ _ _ c.deref_mut-3.ensures.value c.deref_mut-3.ensures.len c.serve_later-told.auto.cpus in
    let left = c.deref_mut-4.ensures.value ∙ same in
    let again = given_back _ _ _ _ c.deref_mut-4.ensures.value c.deref_mut-4.ensures.len c.survey-2.auto.cpus in
    let start : SystemState = system_state c.in_ok-locked.locked c.deref_mut.result.now in
    let replayed : SystemState = system_state c.replay-first.new.locked c.replay-first.new.cpus in
    let at_go : SystemState = system_state c.survey.new.locked c.survey.new.cpus in
    let end : SystemState = system_state c.into_parts-locked.result.0 c.serve_later-told.new.cpus in
    let at_end : SystemState = system_state c.survey-2.new.locked c.survey-2.new.cpus in
    let early = c.in_ok-answers.answers.items in
    let later = c.in_ok-told.field-0.items in
    let ended = c.end_boot-ended.result in
    let new = new_state _ _ t _ c.deref_mut.result.now refl booted.sized booted.machine booted.sizes (lent_parts _ _ shown booted.cpus)
    (lent_so_far _ _ _ shown booted.so_far) in
    let served : ServesAll (numbered_terms t false is_numbered) c.split_at.result.0.now start replayed early =
    IfOk-at_ok (λ v. ServesAll (numbered_terms t false is_numbered) c.split_at.result.0.now start replayed v.items) c.in_ok-answers.was
    c.replay-first.ensures.outcome.replayed in
    let sees = subst (λ (cpus : List CpuInRun). SeesAllPasts t (system_state c.replay-first.new.locked cpus) at_go) met c.survey.ensures.sees in
    let all = IfOk-at_ok _ c.in_ok-told.was c.serve_later-told.ensures.told in
    let kept = c.of-system.ensures.sizes ∙ ap (λ (l : KnownLocked). l.sizes) c.set_sizes.ensures ∙ c.sizes-sizes.ensures.are ∙ booted.sizes in
    let tells : AreAllAnswers (known_system t sizes) (workers_from 1 at_go.cpus c.split_at.result.1.now is_numbered) end.cpus all.0 later =
    subst (λ (x : List CpuInRun × Config). AreAllAnswers (known_system t x.1) (workers_from 1 x.0 c.split_at.result.1.now is_numbered) end.cpus all.0 later)
    (λ i. (lent i, kept i)) all.1 in
    let long = c.serve_later-told.auto.cpus ∙ ap length lent ∙ c.survey.auto.cpus ∙ ap length met ∙ c.replay-first.auto.cpus ∙ ap length shown ∙ booted.count in
    let sees_end = subst (λ (cpus : List CpuInRun). SeesAllPasts t (system_state c.into_parts-locked.result.0 cpus) at_end) left c.survey-2.ensures.sees in
    let ends = subst (λ (cpus : List CpuInRun). EndsHeld t (system_state c.survey-2.new.locked cpus) ended) again c.end_boot-ended.ensures.ends in
    let joined : c.extend_from_slice.new.self.items ≡ early ++ later =
    c.in_ok-extend_from_slice.ensures.items ∙ ap (λ (l : List ℕ). early ++ l) c.deref.ensures.value in
    record {
      answers = IfOk-weaker c.with_end.result _ _ (λ text is.
          are_answers sizes is_numbered c.args.is_audited t lines c.split_at.result.0.now c.split_at.result.1.now start replayed at_go end at_end early later text.items
          all.0 ended new (c.split_at.ensures.front ∙ ap (λ (n : ℕ). take n lines) c.before_go.ensures)
          (c.split_at.ensures.back ∙ ap (λ (n : ℕ). drop n lines) c.before_go.ensures) served sees tells
          (record { quiet = c.into_parts-locked.ensures.quiet; count = long }) sees_end ends
          (is ∙ ap (λ (l : List ℕ). l ++ boot_end_text c.args.is_audited ended) joined)) c.with_end.ensures.told;
    }
