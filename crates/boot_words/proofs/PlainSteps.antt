-- A load makes any step that changes no word.
use Rattle.std.proofs.Common.{[], List, ◌∷◌, refl, sym, subst, rules}
use Rattle.atomic_table.specs.Table.{keeps}
use Rattle.step_rules.specs.declared.step.Step.{Step}
use Rattle.step_rules.specs.declared.step.Action.{Action}
use Rattle.step_rules.specs.declared.step.Action.TheVariants.{Lock}
use Rattle.step_rules.specs.declared.step.Answer.{Answer}
use Rattle.step_rules.specs.State.{State}
use Rattle.step_rules.specs.{Allows, IsAnswer, IsCounted, state_of, IsLocalStep}
use Rattle.step_rules.proofs.LocalLaws.{made_allows}
use Rattle.step_rules.proofs.Own.{own_answer}
use Rattle.step_rules.proofs.Runs.{legal_more, sound_run}
use Rattle.boot_words.specs.{IsPlain, KnownPasts, IsHeld, cpu_past, local_by_pasts, own_past, zone_of_boot, MayChange, KnownTable}
use Rattle.boot_words.specs.declared.past.Past.{Past}
use Rattle.boot_words.proofs.Grown.{grown}
use Rattle.boot_words.proofs.HolderSteps.{legal_now, next_holds}
use Rattle.boot_words.specs.declared.word.Word.TheVariants.{AlwaysZero}
use Rattle.boot_words.proofs.UnderLock.{MadeHeld, fits_both, only_holder, plain_step, shows_end, stands_at}

plain_counted : (s : State) (action : Action) (answer : Answer) → IsPlain action → IsCounted s action answer
plain_counted s Lock answer plain = tt
plain_counted s action answer plain = search rules

pub makes_plain : (t : KnownTable) (s : KnownPasts) (made_step : Step) (answer : Answer) → IsHeld t s → IsPlain made_step.action
    → IsLocalStep (local_by_pasts t s) (cpu_past s).number made_step.seat made_step.action answer
    → MayChange (zone_of_boot t) s.pasts AlwaysZero (λ n. n) (λ found. MadeHeld (zone_of_boot t) (own_past s) (cpu_past s) made_step answer)
makes_plain t s made_step answer is plain is_step =
    let zone = zone_of_boot t in
    let z = own_past s in
    let c = cpu_past s in
    let e : Step × Answer = (made_step, answer) in
    subst (λ (l : List Past). MayChange zone l AlwaysZero (λ n. n) (λ found. MadeHeld zone z c made_step answer)) (sym is.both)
    (λ id b k homes at small.
    let st = stands_at zone b k id z c at is.holds in
    let fit = fits_both zone b.words b.views id z c st in
    let state = state_of zone k.run in
    let shows = shows_end zone b.words b.views id z c st in
    let legal = legal_now zone k.run c.number (local_by_pasts t s) made_step shows is_step.own is_step.inside is_step.legal in
    let answered : IsAnswer state made_step.seat made_step.action answer =
    own_answer state c.number made_step.seat made_step.action answer (sound_run zone k.run k.is.legal) is_step.own legal
    (subst (λ (l : State). IsAnswer l made_step.seat made_step.action answer) shows.sees is_step.answered) in
    let ok : Allows state made_step.seat made_step.action answer = made_allows state made_step.seat made_step.action answer
    (record { legal = legal; answered = answered; counted = plain_counted state made_step.action answer plain }) in
    let next = next_holds zone k.run z c (local_by_pasts t s) made_step answer is.holds fit.0 fit.1 shows is_step.own is_step.inside
    (legal_more zone k.run made_step answer k.is.legal ok) in (
      grown z fit.0.rest e ∷ grown c fit.1.rest e ∷ [],
      keeps,
      tt,
      plain_step zone b k id 0 z c made_step answer is.holds.zone_is is_step.own at (only_holder zone b.words b.views id z c st) fit.0 fit.1 plain ok,
      (
        refl,
        record {
          zone_past = grown z fit.0.rest e;
          cpu_past = grown c fit.1.rest e;
          later_is = refl;
          grew = record {
            zone_grew = record { between = fit.0.rest; others = fit.0.others; number = refl; seen = refl };
            cpu_grew = record { between = fit.1.rest; others = fit.1.others; number = refl; seen = refl };
            holds = next.holds;
            local_is = next.local_is;
          };
        },
      ),
    ))
