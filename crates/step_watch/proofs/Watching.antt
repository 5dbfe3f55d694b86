-- What follows from the steps that a watch took (for `Watch`, the laws, and the crates whose steps are watched).
use Rattle.std.proofs.Common.{◌≡◌, ℕ, ◌++◌, true, false, List, [], ◌∷◌, length-append, refl, sym, ◌∙◌, ap, subst, arith}
use Rattle.std.proofs.lemmas.Bool.{and_parts, false≢true}
use Rattle.std.proofs.lemmas.Grind.{flat_map-append}
use Rattle.std.proofs.lemmas.List.{append_assoc, append-nil}
use Rattle.step_rules.specs.declared.step.Step.{Step}
use Rattle.step_rules.specs.declared.step.Answer.{Answer}
use Rattle.step_rules.specs.State.{Zone, State}
use Rattle.step_rules.specs.After.{Run, after, state_of, IsLegalRun}
use Rattle.step_rules.proofs.Runs.{one_more, state_more, legal_more}
use Rattle.mem_core.proofs.Keeping.{always_keeps}
use Rattle.log_lines.specs.Line.{entry_text}
use Rattle.step_watch.specs.{KnownWatch, AreAllowedFrom, IsNewWatch, SawRun, Watches, has_legal_steps, log_text, state_seen, steps_text}

-- a watch that takes no steps says nothing
pub watches_off : (before : KnownWatch) (steps : Run) (later : KnownWatch) → later.is_on ≡ false → Watches before steps later
watches_off before steps later off = record {
  saw = λ on. absurd (false≢true (sym off ∙ (and_parts _ _ on).0));
  wrote = λ on. absurd (false≢true (sym off ∙ (and_parts _ _ on).0));
}

pub watches_none : (watch : KnownWatch) → Watches watch [] watch
watches_none watch = record {
  saw = λ on. record { was_legal = on; allowed = refl; count = omega arith };
  wrote = λ on. record { was_whole = on; added = sym (append-nil (log_text watch)) };
}

allowed_both : (s : State) (first : Run) (t : State) (second : Run) (u : State) → AreAllowedFrom s first t → AreAllowedFrom t second u
    → AreAllowedFrom s (first ++ second) u
allowed_both s [] t second u same rest = subst (λ (x : State). AreAllowedFrom x second u) (sym same) rest
allowed_both s (made ∷ first) t second u allowed rest =
    (allowed.0, allowed_both (after s made.0.seat made.0.action made.1) first t second u allowed.1 rest)

pub watches_both : (before : KnownWatch) (first : Run) (between : KnownWatch) (second : Run) (later : KnownWatch)
    → Watches before first between → Watches between second later → Watches before (first ++ second) later
watches_both before first between second later one two = record {
  wrote = λ on.
      let last = two.wrote on in
      let start = one.wrote last.was_whole in
      record {
        was_whole = start.was_whole;
        added = last.added ∙ ap (λ (text : List ℕ). text ++ steps_text second) start.added
            ∙ append_assoc (log_text before) (steps_text first) (steps_text second)
            ∙ ap (λ (text : List ℕ). log_text before ++ text) (sym (flat_map-append (λ (made : Step × Answer). entry_text made.0 made.1 ++ 10 ∷ []) first second));
      };
  saw = λ on.
      let last = two.saw on in
      let start = one.saw last.was_legal in
      let parts = length-append first second in
      let a = start.count in
      let b = last.count in
      record {
        was_legal = start.was_legal;
        allowed = allowed_both (state_seen before) first (state_seen between) second (state_seen later) start.allowed last.allowed;
        count = omega (arith, parts, a, b);
      };
}

-- a legal run goes on with steps that are allowed from the state on to which it leads
pub goes_on : (zone : Zone) (run : Run) (s : State) (steps : Run) (t : State) → IsLegalRun zone run → s ≡ state_of zone run
    → AreAllowedFrom s steps t → IsLegalRun zone (run ++ steps) × (t ≡ state_of zone (run ++ steps))
goes_on zone run s [] t legal here same =
    subst (λ (r : Run). IsLegalRun zone r × (t ≡ state_of zone r)) (sym (append-nil run)) (legal, sym same ∙ here)
goes_on zone run s (made ∷ steps) t legal here allowed =
    let more = one_more run made.0 made.1 in
    let allowed_there = subst (λ (x : State). AreAllowedFrom x (made ∷ steps) t) here allowed in
    subst (λ (r : Run). IsLegalRun zone r × (t ≡ state_of zone r)) (append_assoc run (made ∷ []) steps)
    (goes_on zone more (after (state_of zone run) made.0.seat made.0.action made.1) steps t
    (legal_more zone run made.0 made.1 legal allowed_there.0) (sym (state_more zone run made.0 made.1)) allowed_there.1)

pub watched_runs_are_legal : (zone : Zone) (new : KnownWatch) (run : Run) (later : KnownWatch)
    → IsNewWatch zone new → Watches new run later → has_legal_steps later ≡ true → SawRun zone run later
watched_runs_are_legal zone new run later first watched on =
    let saw = watched.saw on in
    let ends = goes_on zone [] (state_seen new) run (state_seen later) (λ k. tt) first.state saw.allowed in
    let a = saw.count in
    let b = first.steps in
    record {
      legal = ends.0;
      state = ends.1;
      count = omega (arith, a, b);
      promise = always_keeps zone run ends.0;
    }
