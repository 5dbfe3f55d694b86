use Rattle.std.proofs.Common.{◌≡◌, ◌++◌, IfOk, refl, rules}
use Rattle.std.proofs.lemmas.Result.{IfOk-at_ok}
use Rattle.script_replay.specs.{workers_from, known_system}
use Rattle.script_replay.proofs.Workers.{Answers, both_answer, halves_answer}
use Rattle.script_replay.proofs.threads.+halves.Goals as goal

pub run_both-returns : goal.run_both-returns
run_both-returns g t c =
    let on = known_system g.N.BootName.table c.args.job.now.visitor.system.now.sizes in
    let lines = c.args.job.now.lines.now in
    let numbered = c.args.job.now.is_numbered in
    let ws = workers_from c.args.first c.args.front.now lines numbered in
    let vs = workers_from c.args.second c.args.back.now lines numbered in
    let front : IfOk c.join_mut-ours.result.0 (λ text. Answers on ws c.front-1.given.0 text.items) = search rules in
    let back : IfOk c.join_mut-ours.result.1 (λ text. Answers on vs c.back-1.given.0 text.items) = search rules in
    let is : c.extend_from_slice.new.self.items ≡ c.in_ok-text.text.items ++ c.in_ok-others.others.items = search rules in
    both_answer on ws vs _ _ _ _ _ (IfOk-at_ok (λ text. Answers on ws c.front-1.given.0 text.items) c.in_ok-text.was front)
    (IfOk-at_ok (λ text. Answers on vs c.back-1.given.0 text.items) c.in_ok-others.was back) is

pub run_from-returns : goal.run_from-returns
run_from-returns g t c =
    let cut = c.split_at_mut-front in
    halves_answer (known_system g.N.BootName.table c.args.job.now.visitor.system.now.sizes) c.args.first _ c.args.cpus.now cut.result.0.now cut.result.1.now _ c.run_both.new.front c.run_both.new.back
    c.args.job.now.lines.now c.args.job.now.is_numbered c.run_both.result cut.ensures.value (search rules) refl c.run_both.ensures
