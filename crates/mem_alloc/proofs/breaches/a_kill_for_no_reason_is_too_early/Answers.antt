use Rattle.std.proofs.Common.{length, ap, arith}
use Rattle.std.proofs.lemmas.Bool.{true≢false}
use Rattle.group_tree.specs.Groups.{room_of}
use Rattle.mem_alloc.proofs.breaches.a_kill_for_no_reason_is_too_early.Goals as goal

pub returns-clause-not_allowed : goal.returns-clause-not_allowed
returns-clause-not_allowed c = λ table before after runs may. true≢false may.allowed

pub returns-clause-counted_twice : goal.returns-clause-counted_twice
returns-clause-counted_twice c = λ table before after runs may. let long = ap length may.charges.numbers in omega (arith, long)

pub returns-clause-forgotten_kills : goal.returns-clause-forgotten_kills
unfolding room_of
returns-clause-forgotten_kills c = λ table before after runs may. let long = may.consistent.sizes.killed in omega (arith, long)
