-- What a frame's record says of the phase that the lock's holder sees. Serves the calls that ask whether a frame is free,
-- is in the zone's hand, or is in transit.
use Rattle.std.proofs.Common.{◌≡◌, ℕ, ◌&&◌, Bool, true, false, refl, sym, ap, ◌∙◌}
use Rattle.std.specs.Prelude.{not}
use Rattle.step_rules.specs.declared.phase.ChargedUnit.{ChargedUnit}
use Rattle.step_rules.specs.declared.phase.Stage.TheVariants.{FreshAt, Live, BackAt}
use Rattle.step_rules.specs.declared.phase.Way.TheVariants.{OnList}
use Rattle.step_rules.specs.declared.phase.Phase.{Phase}
use Rattle.step_rules.specs.declared.phase.Phase.TheVariants as phase
use Rattle.step_rules.specs.{no_frame_passes, nothing_passes, rests, is_free, is_passing, passes_back, passes_out}
use Rattle.step_rules.specs.State.{State}
use Rattle.step_rules.proofs.Sums.{all_each}
use Rattle.boot_words.specs.Hidden.{hide, hide_phase}
use Rattle.boot_words.specs.Tables.{KnownTable}
use Rattle.mem_machine.specs.declared.frame_state.FrameState.{FrameState}
use Rattle.mem_machine.specs.declared.frame_state.FrameState.TheVariants.{Free, Lent, Head, Tail}
use Rattle.mem_machine.specs.{frame_state_at, is_free_state, phase_hidden, KnownMachine, IsShownBy}

-- what doesn't tell a fresh frame from one of a list, nor a back frame from a live one, is the same of the hidden phase
pub hidden_through : {Y : Type 0} (T : Phase → Y) → ((u : ChargedUnit) (q : ℕ) → T (phase.Lent q OnList) ≡ T (phase.Head u (FreshAt q)))
    → ((u : ChargedUnit) (q : ℕ) → T (phase.Head u Live) ≡ T (phase.Head u (BackAt q))) → (x : Phase) → T (hide_phase x) ≡ T x
hidden_through T fresh back phase.InZone = refl
hidden_through T fresh back (phase.Lent q way) = refl
hidden_through T fresh back (phase.Tail g) = refl
hidden_through T fresh back (phase.Head u (FreshAt q)) = fresh u q
hidden_through T fresh back (phase.Head u (BackAt q)) = back u q
hidden_through T fresh back (phase.Head u stage) = refl

-- ---- of a state that is shown, hidden

module _ (t : KnownTable) (m : KnownMachine) (s : State) (shown : IsShownBy t m (hide s)) where
  pub is_free_seen : (f : ℕ) → is_free (s.phases f) ≡ is_free_state (frame_state_at m.frame_states f)
  is_free_seen f =
      sym (hidden_through is_free (λ u q. refl) (λ u q. refl) (s.phases f)) ∙ ap is_free (shown.phases f) ∙ by (frame_state_at m.frame_states f)
    where
      by : (x : FrameState) → is_free (phase_hidden x) ≡ is_free_state x
      by Free = refl
      by (Lent q) = refl
      by (Head unit) = refl
      by (Tail g) = refl

  passes_none : (f : ℕ) → is_passing (s.phases f) ≡ false
  passes_none f =
      sym (hidden_through is_passing (λ u q. refl) (λ u q. refl) (s.phases f)) ∙ ap is_passing (shown.phases f) ∙ by (frame_state_at m.frame_states f)
    where
      by : (x : FrameState) → is_passing (phase_hidden x) ≡ false
      by Free = refl
      by (Lent q) = refl
      by (Head unit) = refl
      by (Tail g) = refl

  rests_all : (p f : ℕ) → rests s p f ≡ true
  rests_all p f =
      sym (hidden_through (still p) (λ u q. refl) (λ u q. refl) (s.phases f)) ∙ ap (still p) (shown.phases f) ∙ by (frame_state_at m.frame_states f)
    where
      still : ℕ → Phase → Bool
      still p x = not (passes_out p x) && not (passes_back p x)

      by : (x : FrameState) → still p (phase_hidden x) ≡ true
      by Free = refl
      by (Lent q) = refl
      by (Head unit) = refl
      by (Tail g) = refl

  -- no frame is in transit
  pub none_passes : no_frame_passes s ≡ true
  none_passes = all_each s.zone.frames (λ f. not (is_passing (s.phases f))) (λ f inside. ap not (passes_none f))

  pub nothing_passes_here : (p : ℕ) → nothing_passes s p ≡ true
  nothing_passes_here p = all_each s.zone.frames (rests s p) (λ f inside. rests_all p f)
