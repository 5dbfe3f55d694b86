-- Serves `take_and_drop`: what was just taken is fresh.
use Rattle.std.proofs.Common.{◌≡◌, ℕ, ◌≤◌, List, [], ◌∷◌, ◌++◌, ap, arith}
use Rattle.step_rules.specs.State.{times}
use Rattle.step_rules.proofs.Lists.{times_last, times_same}
use Rattle.cpu_part.specs.Cpus.{KnownCpuLists}
use Rattle.bench.proofs.prepaid.take_and_drop.Goals as goal

taken_is_fresh : (f : ℕ) (before after : List ℕ) → after ≡ before ++ f ∷ [] → 1 ≤ times f after
taken_is_fresh f before after is =
    let last = times_last f f before in let one = times_same f in
    let fresh = ap (times f) is in
    omega (arith, last, one, fresh)

pub drop_fresh-requires : goal.drop_fresh-requires
drop_fresh-requires g c = taken_is_fresh _ _ _ (ap (λ (k : KnownCpuLists). k.fresh) c.in-Got.ensures.answer.part)
