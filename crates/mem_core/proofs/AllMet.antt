-- A step may be made exactly if each of its conditions is met. Serves `first_unmet`.
use Rattle.std.proofs.Common.{◌≡◌, ◌∙◌, ℕ, ◌&&◌, ◌==◌, Bool, true, false, List, [], ◌∷◌, None, Some, ap, cond, is_none, not, refl, subst, sym}
use Rattle.std.proofs.lemmas.Bool.{and_parts}
use Rattle.step_rules.specs.declared.step.Action.{Action}
use Rattle.step_rules.specs.declared.step.Action.TheVariants.{Lock, Unlock, OpenVisit, ShutVisit, Get, Put, Freeze, Unfreeze, PassOut, TakeIn, PassBack, Collect, Consume, Credit}
use Rattle.step_rules.specs.declared.step.Action.TheVariants.{Report, Absorb, Fill, DrainStock, Grant, Ungrant, PlaceBlock, Publish, Return, Note, NoteGroupKill, SetMax, SetFlag}
use Rattle.step_rules.specs.declared.step.Action.TheVariants.{Make, Remove, Kill}
use Rattle.group_tree.specs.Groups.{has_child, has_group}
use Rattle.step_rules.specs.State.{State}
use Rattle.step_rules.specs.{may_zone_act, usage_of, is_legal}
use Rattle.mem_core.specs.declared.conditions.Condition.{Condition}
use Rattle.mem_core.specs.Conditions.{conditions_of, first_unmet, is_met}

-- the first test holds, and each condition is met
abbrev and_met : Bool → State → List Condition → Bool
and_met so_far s [] = so_far
and_met so_far s (condition ∷ rest) = and_met (so_far && is_met s condition) s rest

-- each condition is met
abbrev all_met : State → List Condition → Bool
all_met s conditions = and_met true s conditions

in_turn : (z a b c d : Bool) → (z && (a && b && c && d)) ≡ (z && a && b && c && d)
in_turn true a b c d = refl
in_turn false a b c d = refl

is_table : (s : State) (seat : ℕ) (action : Action) → is_legal s seat action ≡ all_met s (conditions_of seat action)
is_table s seat Lock = refl
is_table s seat Unlock = refl
is_table s seat (OpenVisit cpu) = refl
is_table s seat (ShutVisit cpu) = refl
is_table s seat (Get f) = refl
is_table s seat (Put f) = refl
is_table s seat (Freeze f n) = refl
is_table s seat (Unfreeze f n) = refl
is_table s seat (PassOut f cpu) = refl
is_table s seat (TakeIn f) = refl
is_table s seat (PassBack f) = refl
is_table s seat (Collect f cpu) = refl
is_table s seat (Consume g) = refl
is_table s seat (Credit f) = refl
is_table s seat (Report n) = refl
is_table s seat (Absorb cpu) = refl
is_table s seat (Fill cpu g n) = refl
is_table s seat (DrainStock cpu) = refl
is_table s seat (Grant g n) = refl
is_table s seat (Ungrant g n) = refl
is_table s seat (PlaceBlock g k) = refl
is_table s seat (Publish f) = refl
is_table s seat (Return f) = refl
is_table s seat (Note key g) = refl
is_table s seat (NoteGroupKill g) = refl
is_table s seat (SetMax g limit) = refl
is_table s seat (SetFlag g flag) = refl
is_table s seat (Make path) = refl
is_table s seat (Remove g) =
    in_turn (may_zone_act s.hold seat) (has_group s.groups g) (not (g == 0)) (not (has_child s.groups g)) (usage_of s g == 0)
is_table s seat (Kill g) = refl

and_true : (b : Bool) → (b && true) ≡ b
and_true true = refl
and_true false = refl

gone : (b x : Bool) → ((b && false) && x) ≡ (b && false)
gone true x = refl
gone false x = refl

none_unmet : (s : State) (so_far : Bool) (cs : List Condition) → and_met so_far s cs ≡ (so_far && is_none (first_unmet s cs))
none_unmet s so_far [] = sym (and_true so_far)
none_unmet s so_far (c ∷ cs) = by (is_met s c) (λ b. none_unmet s b cs)
  where
    by : (met : Bool) → ((b : Bool) → and_met b s cs ≡ (b && is_none (first_unmet s cs))) → and_met (so_far && met) s cs ≡ (so_far && is_none (cond (not met) (Some c) (first_unmet s cs)))
    by true rest = ap (λ b. and_met b s cs) (and_true so_far) ∙ rest so_far
    by false rest = rest (so_far && false) ∙ gone so_far (is_none (first_unmet s cs))

-- a step may be made exactly if it has no condition that isn't met
pub legal_is : (s : State) (seat : ℕ) (action : Action) → is_legal s seat action ≡ is_none (first_unmet s (conditions_of seat action))
legal_is s seat action = is_table s seat action ∙ none_unmet s true (conditions_of seat action)

met_start : (s : State) (so_far : Bool) (cs : List Condition) → and_met so_far s cs ≡ true → so_far ≡ true
met_start s so_far [] met = met
met_start s so_far (c ∷ cs) met = (and_parts so_far (is_met s c) (met_start s (so_far && is_met s c) cs met)).0

not_none : (c : Condition) → None ≡ Some c → ⊥
not_none c e = cc

-- the condition that was found isn't met
pub found_unmet : (s : State) (cs : List Condition) (c : Condition) → first_unmet s cs ≡ Some c → is_met s c ≡ false
found_unmet s [] c found = absurd (not_none c found)
found_unmet s (d ∷ cs) c found = by (is_met s d) refl (found_unmet s cs c) found
  where
    by : (v : Bool) → is_met s d ≡ v → (first_unmet s cs ≡ Some c → is_met s c ≡ false) → cond (not v) (Some d) (first_unmet s cs) ≡ Some c
        → is_met s c ≡ false
    by true is later e = later e
    by false is later e =
        let same : d ≡ c = cc in
        subst (λ x. is_met s x ≡ false) same is

found_met : (s t : State) (so_far : Bool) (cs : List Condition) (c : Condition) → first_unmet s cs ≡ Some c → and_met so_far t cs ≡ true
    → is_met t c ≡ true
found_met s t so_far [] c found met = absurd (not_none c found)
found_met s t so_far (d ∷ cs) c found met = by (is_met s d) (λ e. found_met s t (so_far && is_met t d) cs c e met) found
  where
    by : (v : Bool) → (first_unmet s cs ≡ Some c → is_met t c ≡ true) → cond (not v) (Some d) (first_unmet s cs) ≡ Some c → is_met t c ≡ true
    by true later e = later e
    by false later e =
        let same : d ≡ c = cc in
        subst (λ x. is_met t x ≡ true) same (and_parts so_far (is_met t d) (met_start t (so_far && is_met t d) cs met)).1

-- the first condition of a step that a state doesn't meet is met in each state in which the step may be made
pub needs_first : (s t : State) (seat : ℕ) (action : Action) (c : Condition) → first_unmet s (conditions_of seat action) ≡ Some c
    → is_legal t seat action ≡ true → is_met t c ≡ true
needs_first s t seat action c found legal = found_met s t true (conditions_of seat action) c found (sym (is_table t seat action) ∙ legal)
