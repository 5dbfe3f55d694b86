-- A step that takes no lock carries the whole on. Serves `fast_lines_follow`.
use Rattle.std.proofs.Common.{◌≡◌, true, [], ◌∷◌, refl, sym, ◌∙◌, ap, subst}
use Rattle.std.proofs.lemmas.List.{length-set}
use Rattle.group_charge.specs.Charges.{Ledger}
use Rattle.cpu_part.specs.Known.{HasOwn}
use Rattle.step_rules.specs.declared.step.Step.{Step}
use Rattle.step_rules.specs.declared.step.Action.{Action}
use Rattle.step_rules.specs.declared.step.Action.TheVariants.{Get, Put, Consume, Credit}
use Rattle.step_rules.specs.declared.step.Answer.{Answer}
use Rattle.step_rules.specs.State.{State}
use Rattle.step_rules.specs.{is_unheld, Run, state_of, pushed, cpu_makes}
use Rattle.step_rules.proofs.Runs.{state_more}
use Rattle.boot_words.specs.{hide, IsFast, zone_of_boot}
use Rattle.boot_words.proofs.Hiding.{fast_is_hidden}
use Rattle.boot_words.proofs.Holding.{allowed_at}
use Rattle.mem_machine.specs.{AgreesWithRun, KnownMachine, left_by}
use Rattle.mem_machine.proofs.Followed.{is_still}
use Rattle.mem_history.specs.Whole.{FastLinesFollow}
use Rattle.mem_history.proofs.Agreeing.{tells_still}
use Rattle.mem_history.proofs.Wholes.{not_zone, others_keep, part_number, parts_after}

fast_still : (action : Action) (answer : Answer) → IsFast action → is_still action answer ≡ true
fast_still (Get f) answer fast = refl
fast_still (Put f) answer fast = refl
fast_still (Consume g) answer fast = refl
fast_still (Credit f) answer fast = refl
fast_still action answer fast = absurd fast

pub fast_lines_follow : FastLinesFollow
fast_lines_follow t run cpus k before action answer later shows serves legal =
    let zone = zone_of_boot t in
    let m = before.machine in let n = later.machine in
    let c = before.cpu in let d = later.cpu in
    let p = c.number in
    let is_part = serves.is_part in
    let step : Step = record { seat = p; action = action } in
    let done : Run = pushed run step answer in
    let not = not_zone t run m cpus k c shows is_part in
    let hidden : hide (state_of zone done) ≡ hide (state_of zone run) =
    (fast_is_hidden zone run 0 step answer shows.legal not not serves.fast (allowed_at zone run (step, answer) [] legal)).hidden in
    let same = serves.left ∙ ap (λ (s : State). record s { hold = (left_by t n.run.past).hold }) shows.left in
    record {
      shows = record {
        legal = legal;
        free = ap (λ (s : State). is_unheld s.hold) hidden ∙ shows.free;
        left = same ∙ ap (λ (s : State). record s { hold = (left_by t n.run.past).hold }) (sym hidden);
        count = length-set cpus k d ∙ shows.count;
        each = parts_after (state_of zone done) cpus k c d is_part (serves.leads.number ∙ part_number t run m cpus k c shows is_part)
            (subst (λ (s : State). HasOwn s d) (sym (state_more zone run step answer)) serves.leads.own)
            (λ j e at ne. others_keep t run m cpus k c shows is_part (cpu_makes p action answer ∷ []) (λ q some far. (λ is. far (sym is), tt)) j e at ne);
      };
      agrees = λ told. subst (λ (l : Ledger). AgreesWithRun t done l) (sym (ap (λ (x : KnownMachine). x.ledger) serves.machine))
          (tells_still t run m.ledger step answer shows.legal legal (fast_still action answer serves.fast) (ap (λ (s : State). s.groups) hidden) told);
    }
