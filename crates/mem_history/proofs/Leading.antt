-- A fast call that changes a list or a reference is one step of its CPU. Serves `fast_calls_lead`.
use Rattle.std.proofs.Common.{◌≡◌, ℕ, ◌+◌, ◌^◌, ◌-◌, List, [], ◌∷◌, ◌++◌, refl, sym, ◌∙◌, ap, subst}
use Rattle.std.specs.Prelude.{min, remove}
use Rattle.frame_word.specs.declared.answers.Put.{Put as Putted}
use Rattle.frame_word.specs.declared.answers.Put.TheVariants as put
use Rattle.boot_words.specs.{zone_of_boot, KnownTable}
use Rattle.cpu_part.specs.{UnpinAnswers, KnownCpuLists, HasOwn}
use Rattle.cpu_part.proofs.Legal.{fresh_once, listed_once}
use Rattle.cpu_part.proofs.Owning.{own_credited, own_last, own_left, own_pinned, own_took}
use Rattle.step_rules.specs.declared.step.Action.{Action}
use Rattle.step_rules.specs.declared.step.Action.TheVariants.{Get, Put, Consume, Credit}
use Rattle.step_rules.specs.declared.step.Answer.{Answer}
use Rattle.step_rules.specs.declared.step.Answer.TheVariants.{Held, Left, Last, Took, Stocked}
use Rattle.step_rules.specs.{KeepsInvariant, Run, after, state_of}
use Rattle.step_rules.specs.State.{State}
use Rattle.step_rules.proofs.Runs.{sound_run}
use Rattle.mem_machine.specs.{KnownMachine}
use Rattle.mem_history.specs.{IsOwnStep, FastCallsLead, IsPart, put_answer}
use Rattle.mem_history.proofs.Wholes.{not_zone}

-- the part that the step makes is the later one
makes_part : (s : State) (c d e : KnownCpuLists) (action : Action) (answer : Answer) → e.number ≡ c.number → d ≡ e
    → HasOwn (after s c.number action answer) e → IsOwnStep s c action answer d
makes_part s c d e action answer number is own =
    record { number = ap (λ (x : KnownCpuLists). x.number) is ∙ number; own = subst (HasOwn (after s c.number action answer)) (sym is) own }

module _ (t : KnownTable) (run : Run) (m : KnownMachine) (cpus : List KnownCpuLists) (k : ℕ) (c d : KnownCpuLists) (part : IsPart t run m cpus k c) where
  abbrev whole : State
  whole = state_of (zone_of_boot t) run

  sound : KeepsInvariant (state_of (zone_of_boot t) run)
  sound = sound_run (zone_of_boot t) run part.shows.legal

  own : HasOwn (state_of (zone_of_boot t) run) c
  own = (part.shows.each k c part.is_part).own

  step_put : (f : ℕ) (answer : Putted) → UnpinAnswers f answer c d → IsOwnStep (state_of (zone_of_boot t) run) c (Put f) (put_answer answer) d
  step_put f (put.Left n) told =
      makes_part whole c d (record c { pins = d.pins }) (Put f) (Left n) refl told.3 (own_left whole c own f n d.pins told.0)
  step_put f put.Last told = makes_part whole c d (record c { pins = d.pins; back = c.back ++ f ∷ [] }) (Put f) Last refl told.1
      (own_last whole c own f d.pins (c.back ++ f ∷ []) (not_zone t run m cpus k c part.shows part.is_part) told.0 refl)

pub fast_calls_lead : FastCallsLead
fast_calls_lead = record {
  held = λ t run m cpus k c d part f told.
      makes_part (state_of (zone_of_boot t) run) c d (record c { pins = c.pins ++ f ∷ [] }) (Get f) Held refl told
      (own_pinned (state_of (zone_of_boot t) run) c (own t run m cpus k c d part) f (c.pins ++ f ∷ []) refl);
  is_put = λ t run m cpus k c d part f answer told. step_put t run m cpus k c d part f answer told;
  got = λ t run m cpus k c d part g f last saw told.
      let s = state_of (zone_of_boot t) run in let mine = own t run m cpus k c d part in
      makes_part s c d (record c { list = told.rest; fresh = c.fresh ++ f ∷ [] }) (Consume g) Took refl told.part
      (own_took s c mine g f told.rest (c.fresh ++ f ∷ []) told.front refl (listed_once s (sound t run m cpus k c d part) c mine f));
  listed = λ t run m cpus k c d part f last saw told.
      let s = state_of (zone_of_boot t) run in let mine = own t run m cpus k c d part in
      makes_part s c d (record c { list = c.list ++ f ∷ []; fresh = remove c.fresh told.place; drops = min (c.drops + 1) (2 ^ 64 - 1) }) (Credit f) Stocked
      refl told.part
      (own_credited s c mine f told.place (min (c.drops + 1) (2 ^ 64 - 1)) (c.list ++ f ∷ []) (remove c.fresh told.place) told.inside told.is_there refl refl
      (fresh_once s (sound t run m cpus k c d part) c mine f));
}
