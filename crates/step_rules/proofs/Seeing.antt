-- What a CPU sees tells which steps are legal. Serves `legality_is_seen`, `the_lock_is_passed_on`, `all_is_seen`.
use Rattle.std.proofs.Common.{◌≡◌, ℕ, ◌&&◌, true, false, refl, sym, ◌∙◌, ap, subst, arith, inl, inr, eq-eqb, ◌==◌}
use Rattle.std.specs.Prelude.{◌⊎◌, not}
use Rattle.std.proofs.lemmas.Bool.{or_left, cases_Bool, ne_eqb, cond-false}
use Rattle.step_rules.specs.declared.phase.Phase.{Phase}
use Rattle.step_rules.specs.declared.step.Action.{Action}
use Rattle.step_rules.specs.declared.step.Action.TheVariants.{Lock, Unlock}
use Rattle.step_rules.specs.declared.step.Answer.TheVariants.{Done}
use Rattle.step_rules.specs.{is_passing, Part, is_unheld, is_cpu, is_held_by, visits, is_legal, no_page_pends, no_frame_passes, state_of, seen_by}
use Rattle.step_rules.specs.{phase_seen_by, other_part_seen, parts_seen_by, holds_lock, AllLegalityIsSeen, LockIsPassedOn, SeesAll, AllIsSeen}
use Rattle.step_rules.specs.{KeepsInvariant, IsHomed}
use Rattle.step_rules.specs.State.{State}
use Rattle.step_rules.proofs.Sums.{all_same}
use Rattle.step_rules.proofs.CoverPhases.{seen_through, frees_seen}
use Rattle.step_rules.proofs.CoverParts.{own_part, part_seen}
use Rattle.step_rules.proofs.CoverUsage.{usage_seen}
use Rattle.step_rules.proofs.Own.{own_legal, only_visit}
use Rattle.step_rules.proofs.Runs.{sound_run, state_more, legal_more}
use Rattle.step_rules.proofs.Keeping.{homed_run}

-- a frame passes under the cover exactly where it does
passing_seen : (p : ℕ) (x : Phase) → is_passing (phase_seen_by p x) ≡ is_passing x
passing_seen p x = seen_through is_passing p (λ u q. refl) (λ u q. refl) x

still_seen : (s : State) (p : ℕ) → no_frame_passes (seen_by p s) ≡ no_frame_passes s
still_seen s p = all_same s.zone.frames (λ f. not (is_passing (phase_seen_by p (s.phases f)))) (λ f. not (is_passing (s.phases f)))
    (λ f. ap not (passing_seen p (s.phases f)))

any_legal : (s : State) (p seat : ℕ) (action : Action) → KeepsInvariant s → (seat ≡ 0) ⊎ (seat ≡ p) → holds_lock p s.hold ≡ true →
    is_legal (seen_by p s) seat action ≡ is_legal s seat action
any_legal s p seat Lock sound own holds = refl
any_legal s p seat Unlock sound own holds = ap (λ b. is_cpu s.zone seat && is_held_by seat s.hold && no_page_pends s && b) (still_seen s p)
any_legal s p seat action sound own holds = own_legal s p seat action sound own refl holds

pub legality_is_seen : AllLegalityIsSeen
legality_is_seen zone run p local shows seat action own =
    let s = state_of zone run in
    let same : is_legal local seat action ≡ is_legal s seat action =
    ap (λ (l : State). is_legal l seat action) shows.sees ∙ any_legal s p seat action (sound_run zone run shows.legal) own shows.holds in
    record {
      same = same;
      illegal = λ e. sym same ∙ e;
      not_illegal = λ e. same ∙ e;
    }

pub the_lock_is_passed_on : LockIsPassedOn
the_lock_is_passed_on = record {
  taken = λ zone run p legal may.
      let more = state_more zone run (record { seat = p; action = Lock }) Done in
      record {
        legal = legal_more zone run (record { seat = p; action = Lock }) Done legal (record { legal = may; answered = tt; counted = tt });
        holds = ap (λ (t : State). holds_lock p t.hold) more ∙ or_left _ _ (eq-eqb p p refl);
        sees = sym (ap (seen_by p) more);
      };
  given_back = λ zone run p local shows may.
      let here = (legality_is_seen zone run p local shows p Unlock (inr refl)).same in
      record {
        legal = legal_more zone run (record { seat = p; action = Unlock }) Done shows.legal (record { legal = sym here ∙ may; answered = tt; counted = tt });
        free = ap (λ (t : State). is_unheld t.hold) (state_more zone run (record { seat = p; action = Unlock }) Done);
      };
}

-- of another CPU p sees the book, and as its stock the same
covered_stock : (s : State) (p q : ℕ) → KeepsInvariant s → IsHomed s → holds_lock p s.hold ≡ true → (q ≡ p → ⊥) →
    (parts_seen_by p s.parts q).stock.pages ≡ (s.parts q).book
covered_stock s p q sound homed holds ne =
    let off : visits q s.hold ≡ false = elim (cases_Bool (visits q s.hold)) [
      | inl visit ↦ absurd (ne (only_visit p q s.hold holds visit))
      | inr none ↦ none
    ] in
    let told = homed.quiet q off in
    let booked = sound.booked q in
    ap (λ (part : Part). part.stock.pages) (cond-false (q == p) (s.parts q) (other_part_seen (s.parts q)) (ne_eqb q p ne)) ∙ (omega arith)

seen_state : (s : State) (p : ℕ) → KeepsInvariant s → IsHomed s → holds_lock p s.hold ≡ true → SeesAll s (seen_by p s) p
seen_state s p sound homed holds = record {
  zone = refl;
  groups = refl;
  killed = refl;
  pending = refl;
  usage = usage_seen s p sound;
  free = frees_seen p s.zone s.phases;
  own = own_part p s.parts p refl;
  book = part_seen (λ part. part.book) (λ part. refl) p s.parts;
  others = λ q ne. covered_stock s p q sound homed holds ne;
}

pub all_is_seen : AllIsSeen
all_is_seen zone run p local shows =
    let both = homed_run zone run shows.legal in
    subst (λ (l : State). SeesAll (state_of zone run) l p) (sym shows.sees) (seen_state (state_of zone run) p both.0 both.1 shows.holds)
