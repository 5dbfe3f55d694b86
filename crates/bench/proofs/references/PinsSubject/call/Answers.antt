-- Serves `call`: what was just pinned can be put.
use Rattle.std.proofs.Common.{◌≡◌, ℕ, ◌≤◌, subst, ap, arith}
use Rattle.frame_word.specs.declared.answers.Get.{Get}
use Rattle.frame_word.specs.declared.answers.Get.TheVariants.{Held}
use Rattle.step_rules.specs.State.{times}
use Rattle.step_rules.proofs.Lists.{times_last, times_same}
use Rattle.cpu_part.specs.{KnownCpuLists, PinAnswers}
use Rattle.bench.proofs.references.PinsSubject.call.Goals as goal

held_is_pinned : (f : ℕ) (got : Get) (c d : KnownCpuLists) → got ≡ Held → PinAnswers f got c d → 1 ≤ times f d.pins
held_is_pinned f got c d is answers =
    let held = subst (λ (x : Get). PinAnswers f x c d) is answers in
    let last = times_last f f c.pins in let one = times_same f in
    let pins = ap (λ (k : KnownCpuLists). times f k.pins) held in
    omega (arith, last, one, pins)

pub put-requires : goal.put-requires
put-requires g c = held_is_pinned _ _ _ _ c.in-Ok-Held.field-0-is c.in-Ok-Held.ensures.answer.1
