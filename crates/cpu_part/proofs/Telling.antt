-- The steps that the answer of a fast call tells of are those by which the CPU's past grew.
use Rattle.std.proofs.Common.{◌≡◌, ◌≢◌, ℕ, [], ◌∷◌, refl, ap, sym, ◌∙◌, subst}
use Rattle.std.specs.Prelude.{Result, Err, Ok}
use Rattle.frame_word.specs.declared.answers.Get as gets
use Rattle.frame_word.specs.declared.answers.Get.TheVariants as get
use Rattle.group_tree.specs.declared.fault.Fault.{Fault}
use Rattle.step_rules.specs.declared.step.Action.{Action}
use Rattle.step_rules.specs.declared.step.Answer.{Answer}
use Rattle.step_rules.specs.After.{cpu_makes}
use Rattle.boot_words.specs.{GrewBy, GrewByAll, KnownPasts, own_past, zone_of_boot, CpuMakes, GetsReference, RacesAt, KnownCpuSeat, KnownTable}
use Rattle.cpu_part.specs.{IfRaced, PinAnswers, KnownCpuLists, KnowsItsPart, steps_of_get}

module _ (t : KnownTable) (k : KnownCpuSeat) (c : KnownCpuLists) (knows : KnowsItsPart t k c) where
  pub told_one : (action : Action) (answer : Answer) (s : KnownPasts) → CpuMakes t k.past action answer s
      → GrewByAll (own_past k.past) (cpu_makes c.number action answer ∷ []) (own_past s)
  told_one action answer s made = (
    own_past s,
    subst (λ (n : ℕ). GrewBy (own_past k.past) (record { seat = n; action = action }) answer (own_past s)) (sym knows.is.number ∙ knows.number) made.grew,
    refl,
  )

  pub told_get : (f : ℕ) (answer : gets.Get) (s : KnownPasts) → GetsReference t k.past f answer s → GrewByAll (own_past k.past) (steps_of_get c.number f (Ok answer)) (own_past s)
  told_get f get.Held s made = told_one _ _ s made
  told_get f get.Zero s made = told_one _ _ s made
  told_get f get.Full s made = told_one _ _ s made
  told_get f (get.Raced n) s raced = ap own_past raced.0

  -- an answer that adds no pin
  pub not_pinned : (f : ℕ) (answer : gets.Get) (s : KnownPasts) → answer ≢ get.Held → GetsReference t k.past f answer s
      → PinAnswers f answer c c × IfRaced answer (RacesAt (zone_of_boot t) (own_past k.past) f)
  not_pinned f get.Held s not made = absurd (not refl)
  not_pinned f get.Zero s not made = (refl, tt)
  not_pinned f get.Full s not made = (refl, tt)
  not_pinned f (get.Raced n) s not raced = (refl, raced.1)

abbrev answer_in : Result gets.Get Fault → gets.Get
answer_in (Ok answer) = answer
answer_in (Err fault) = get.Zero

pub same_answer : (answer other : gets.Get) → ◌≡◌ {A = Result gets.Get Fault} (Ok answer) (Ok other) → answer ≡ other
same_answer answer other same = ap answer_in same
