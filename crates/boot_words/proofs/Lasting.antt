-- A fast step that was legal at the CPU's own last step still is.
use Rattle.std.proofs.Common.{◌≡◌, ◌≢◌, ℕ, ◌+◌, ◌&&◌, ◌||◌, Bool, true, false, length, take, refl, sym, ap, ◌∙◌, subst, arith}
use Rattle.std.specs.Prelude.{nat_le, nat_lt, not}
use Rattle.std.proofs.lemmas.Bool.{ne_eqb}
use Rattle.step_rules.specs.declared.step.Action.{Action}
use Rattle.step_rules.specs.declared.step.Action.TheVariants.{Get, Put, Consume, Credit}
use Rattle.step_rules.specs.Phases.{FreshFrame}
use Rattle.step_rules.specs.{has_as, Zone, is_cpu, is_frame, is_unheld, may_zone_act, one_if, sum_to, times, is_legal, Run, state_of, IsLegalRun}
use Rattle.step_rules.specs.{KeepsInvariant}
use Rattle.step_rules.specs.State.{State}
use Rattle.step_rules.proofs.Freeing.{zone_of_run}
use Rattle.step_rules.proofs.Runs.{legal_from, sound_run}
use Rattle.boot_words.specs.{OthersFollow, IsFast, HasSameLists, FastLegalityLasts}
use Rattle.boot_words.proofs.Holding.{take_length}
use Rattle.boot_words.proofs.Owning.{lists_are_own}

pub beginning_is_legal : (zone : Zone) (seen run : Run) (cpu : ℕ) → OthersFollow cpu seen run → IsLegalRun zone run → IsLegalRun zone seen
beginning_is_legal zone seen run cpu goes legal =
    subst (IsLegalRun zone) (ap (take (length seen)) goes.is ∙ take_length seen goes.rest) (legal_from zone run (length seen) legal)

same_one : (a b : Bool) → one_if a ≡ one_if b → a ≡ b
same_one true true e = refl
same_one true false e = absurd (omega arith)
same_one false true e = absurd (omega arith)
same_one false false e = refl

no_zone : (s : State) (cpu : ℕ) → cpu ≢ 0 → may_zone_act s.hold cpu ≡ false
no_zone s cpu ne = ap (λ b. b && not (is_unheld s.hold)) (ne_eqb cpu 0 ne)

fast_lasts : (s t : State) (cpu : ℕ) (action : Action) → cpu ≢ 0 → t.zone ≡ s.zone → KeepsInvariant s → KeepsInvariant t → HasSameLists cpu s t → IsFast action
    → is_legal t cpu action ≡ is_legal s cpu action
fast_lasts s t cpu (Get f) ne zone was is same fast =
    λ i. is_cpu (zone i) cpu && is_frame (zone i) f && nat_lt (sum_to ((zone i).frames) (λ m. same.references i m) + length (same.back i)) 256
fast_lasts s t cpu (Put f) ne zone was is same fast =
    (λ i. (is_cpu (zone i) cpu || no_zone t cpu ne i) && is_frame (zone i) f && nat_le 1 (same.references i f))
    ∙ sym (λ i. (is_cpu s.zone cpu || no_zone s cpu ne i) && is_frame s.zone f && nat_le 1 (s.references cpu f))
fast_lasts s t cpu (Consume g) ne zone was is same fast =
    λ i. is_cpu (zone i) cpu && nat_le 1 (length (same.list i)) && nat_lt (length (same.fresh i)) 32
fast_lasts s t cpu (Credit f) ne zone was is same fast =
    let has : has_as FreshFrame cpu (t.phases f) ≡ has_as FreshFrame cpu (s.phases f) =
    same_one _ _ (sym (is.lists cpu FreshFrame f) ∙ ap (times f) same.fresh ∙ was.lists cpu FreshFrame f) in
    λ i. is_cpu (zone i) cpu && is_frame (zone i) f && has i
fast_lasts s t cpu action ne zone was is same fast = absurd fast

pub fast_legality_lasts : FastLegalityLasts
fast_legality_lasts zone seen run cpu action ne legal goes fast =
    fast_lasts (state_of zone seen) (state_of zone run) cpu action ne (zone_of_run zone run ∙ sym (zone_of_run zone seen))
    (sound_run zone seen (beginning_is_legal zone seen run cpu goes legal)) (sound_run zone run legal) (lists_are_own zone seen run cpu ne goes) fast
