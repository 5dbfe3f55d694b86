use Rattle.std.proofs.Common.{◌≡◌, ◌≢◌, ℕ, List, [], ◌∷◌, ◌++◌, length, refl, ap, arith}
use Rattle.std.proofs.Common.{length-append}
use Rattle.mem_machine.specs.{note_oom_steps}
use Rattle.mem_reclaim.specs.Moves.{kills_in}
use Rattle.mem_alloc.specs.KillBreaches.{killed_for_a, kills_of}
use Rattle.mem_alloc.proofs.RashSteps.{first_of_set, in_set, kill}
use Rattle.mem_alloc.proofs.breaches.a_kill_of_half_a_set_is_rash.Goals as goal

pub returns-clause-half : goal.returns-clause-half
returns-clause-half c = λ table start these rash.
    let after = rash (note_oom_steps 1) [] (kill 2) 2 refl refl in
    let set = ap length (first_of_set after refl (2 ∷ 3 ∷ []) these) in
    let long = ap length after.others_die in
    let sum = length-append after.left after.later in
    omega (arith, set, long, sum)

pub returns-clause-reversed : goal.returns-clause-reversed
returns-clause-reversed c = λ table start these rash.
    let after = rash (note_oom_steps 1) (kills_of (2 ∷ [])) (kill 3) 3 refl refl in
    let set : 2 ∷ 3 ∷ [] ≡ 3 ∷ after.left = first_of_set after refl (2 ∷ 3 ∷ []) these in
    cc

no_three : (since left : List ℕ) → 2 ∷ [] ≢ since ++ 3 ∷ left
no_three [] left is = cc
no_three (g ∷ since) left is = let long = ap length is in let sum = length-append since (3 ∷ left) in omega (arith, long, sum)

pub returns-clause-one_more : goal.returns-clause-one_more
returns-clause-one_more c = λ table start these rash.
    let after = rash (killed_for_a (2 ∷ [])) [] (kill 3) 3 refl refl in
    no_three (kills_in after.since) after.left (in_set after (2 ∷ []) these)
