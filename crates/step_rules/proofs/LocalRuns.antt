-- A small visit is local; and what is legal at the bounds.
use Rattle.std.proofs.Common.{◌≡◌, ◌++◌, true, false, refl, inl, inr, zero, suc}
use Rattle.std.proofs.lemmas.Bool.{true≢false, false≢true}
use Rattle.step_rules.specs.declared.step.Action.TheVariants.{Get, Consume}
use Rattle.step_rules.specs.State.{State, sum_to, all_to}
use Rattle.step_rules.specs.{at_boot, is_legal, state_of, IsLegalRun, seen_by, ShowsLocal, IsLocalRun, own_steps, IsInterleaved, small_zone}
use Rattle.step_rules.specs.{lock_taken, vain_visit, with_pins, with_back_frames, with_fresh_frames}
use Rattle.step_rules.proofs.SmallRuns.{legal_each}
use Rattle.step_rules.proofs.Interleaving.{local_runs_interleave}

-- what CPU 1 sees with the lock
abbrev seen : State
seen = seen_by 1 (state_of small_zone lock_taken)

taken_is_legal : IsLegalRun small_zone lock_taken
taken_is_legal = legal_each (at_boot small_zone) lock_taken (record { legal = refl; answered = tt; counted = tt }, tt)

pub taken_is_shown : ShowsLocal small_zone lock_taken 1 seen
taken_is_shown = record { legal = taken_is_legal; holds = refl; sees = refl }

pub visit_is_local : IsLocalRun 1 seen (own_steps 1 vain_visit) seen
unfolding all_to sum_to
visit_is_local = (
  record { own = inl refl; inside = refl; legal = refl; answered = tt },
  (
    record { own = inr refl; inside = refl; legal = refl; answered = tt },
    (record { own = inl refl; inside = refl; legal = refl; answered = tt }, refl),
  ),
)

pub visit_is_interleaved : IsInterleaved small_zone lock_taken 1 vain_visit
unfolding sum_to
visit_is_interleaved zero = record { other = λ e. absurd (true≢false e); own = λ e. tt }
visit_is_interleaved (suc zero) = record { other = λ e. record { legal = refl; answered = tt; counted = refl }; own = λ e. absurd (false≢true e) }
visit_is_interleaved (suc (suc zero)) = record { other = λ e. absurd (true≢false e); own = λ e. refl }
visit_is_interleaved (suc (suc (suc zero))) = record { other = λ e. absurd (true≢false e); own = λ e. tt }
visit_is_interleaved (suc (suc (suc (suc k)))) = tt

pub visit_is_shown : ShowsLocal small_zone (lock_taken ++ vain_visit) 1 seen
visit_is_shown = local_runs_interleave small_zone lock_taken 1 seen vain_visit seen taken_is_shown visit_is_local visit_is_interleaved

pub few_pins : (is_legal (with_pins 255) 1 (Get 1) ≡ true) × (is_legal (with_pins 256) 1 (Get 1) ≡ false)
unfolding sum_to
few_pins = (refl, refl)

pub few_back : (is_legal (with_back_frames 255) 1 (Get 1) ≡ true) × (is_legal (with_back_frames 256) 1 (Get 1) ≡ false)
unfolding sum_to
few_back = (refl, refl)

pub few_fresh : (is_legal (with_fresh_frames 31) 1 (Consume 0) ≡ true) × (is_legal (with_fresh_frames 32) 1 (Consume 0) ≡ false)
few_fresh = (refl, refl)
