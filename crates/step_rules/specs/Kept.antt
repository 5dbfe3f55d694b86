-- Which units were published: kept for their group until they are returned.
use Rattle.std.specs.Prelude.{◌≡◌, ℕ, ◌==◌, ◌||◌, Bool, true, false, fold, if◌then◌else◌}
use Rattle.step_rules.specs.declared.step.Action.{Action}
use Rattle.step_rules.specs.declared.step.Action.TheVariants.{Publish, Return}
use Rattle.step_rules.specs.declared.step.Answer.{Answer}
use Rattle.step_rules.specs.declared.step.Answer.TheVariants.{Done}
use Rattle.step_rules.specs.Phases.{is_head, is_live_phase}
use Rattle.step_rules.specs.State.{Zone}
use Rattle.step_rules.specs.After.{Run, state_of, IsLegalRun}
use Rattle.step_rules.specs.Returns.{phase_awaits_return}

-- whether frame f is published after one more step
abbrev pub published_after : ℕ → Bool → Action → Answer → Bool
published_after f old (Publish g) Done = if f == g then true else old
published_after f old (Return g) Done = if f == g then false else old
published_after f old action answer = old

-- the frame was published and not returned since
abbrev pub is_published : Run → ℕ → Bool
is_published run f = fold (λ old e. published_after f old e.0.action e.1) false run

-- a published frame heads a charged unit, which is at the stage Live or has an open end
pub record PublishedIsKept (zone : Zone) (run : Run) (f : ℕ) : Type 0 where
  pub head : is_published run f ≡ true → is_head ((state_of zone run).phases f) ≡ true
  pub used_or_ended : is_published run f ≡ true
      → (is_live_phase ((state_of zone run).phases f) || phase_awaits_return ((state_of zone run).phases f)) ≡ true

-- after every legal run each published frame heads a charged unit, live or with an open end
abbrev pub AllPublishedIsKept : Type 0
AllPublishedIsKept = (zone : Zone) (run : Run) → IsLegalRun zone run → (f : ℕ) → PublishedIsKept zone run f
