use Rattle.std.proofs.Common.{◌≡◌, ◌≢◌, arith, length, sym, take}
use Rattle.std.proofs.lemmas.List.{take-take}
use Rattle.std.proofs.lemmas.List.Elements.{All-same, All-take}
use Rattle.script_lines.proofs.Words.{no_near_space, word_ends}
use Rattle.script_lines.proofs.verb.near_end.Goals as goal

pub returns-then-place-text-clause-end : goal.returns-then-place-text-clause-end
returns-then-place-text-clause-end c few =
    word_ends c.args.text.now c.args.wide.now c.near_space-place.result c.requires.front (λ k. (c.type_inv.text k).fits) (omega arith)
    c.near_space-place.ensures.before (λ more. c.near_space-place.ensures.stop (omega arith))

pub returns-then-place-text-clause-long : goal.returns-then-place-text-clause-long
returns-then-place-text-clause-long c long verb =
    let low = c.near_space-place.ensures.low in
    let eight : c.near_space-place.result ≡ 8 = omega arith in
    no_near_space c.args.text.now c.args.wide.now verb c.requires.front (omega arith) (rw eight at c.near_space-place.ensures.before)

pub returns-else-place-text-clause-end : goal.returns-else-place-text-clause-end
returns-else-place-text-clause-end c few =
    let text = c.args.text.now in
    let wide = c.args.wide.now in
    let n = length text in
    let place = c.near_space-place.result in
    let front = take-take n place wide (omega arith) in
    let none = All-same (λ b. b ≢ 32) (take n wide) (take n (take place wide)) (sym front)
    (All-take (λ b. b ≢ 32) n (take place wide) c.near_space-place.ensures.before) in
    word_ends text wide n c.requires.front (λ k. (c.type_inv.text k).fits) (omega arith) none (λ more. absurd (omega arith))

pub returns-else-place-text-clause-long : goal.returns-else-place-text-clause-long
returns-else-place-text-clause-long c long verb =
    let low = c.near_space-place.ensures.low in
    let eight : c.near_space-place.result ≡ 8 = omega arith in
    no_near_space c.args.text.now c.args.wide.now verb c.requires.front (omega arith) (rw eight at c.near_space-place.ensures.before)
