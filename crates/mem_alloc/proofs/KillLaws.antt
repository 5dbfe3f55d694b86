-- Laws of kills beside that each comes last. Serves `laws`, and those of the commands.
use Rattle.std.proofs.Common.{◌≡◌, ℕ, ◌+◌, ◌⊎◌, true, false, List, [], ◌∷◌, ◌++◌, Option, Some, None, length, refl, sym, ap, ◌∙◌, inl, inr, arith}
use Rattle.std.specs.Prelude.{nat_le}
use Rattle.std.proofs.lemmas.Bool.{false≢true, leb-false}
use Rattle.group_tree.specs.declared.group.Group.{Group}
use Rattle.group_tree.specs.{limit_of, fits_limit}
use Rattle.group_charge.specs.Charges.{Ledger, current_of}
use Rattle.step_rules.specs.declared.step.Action.{Action}
use Rattle.step_rules.specs.declared.step.Action.TheVariants.{Kill}
use Rattle.step_rules.specs.declared.step.Answer.{Answer}
use Rattle.step_rules.specs.declared.step.Step.{Step}
use Rattle.step_rules.specs.After.{Run}
use Rattle.mem_reclaim.specs.Moves.{is_kill, killed_by, kills_in}
use Rattle.mem_reclaim.proofs.KillSets.{kills_both}
use Rattle.mem_alloc.specs.{has_room_at, ChargesKillOverLimits, ChargesKillWholeSets, GroupsDieWithTheirSets, IsOverLimit, IsChargedBelow}
use Rattle.mem_alloc.specs.{begins_with_kill}
use Rattle.mem_alloc.proofs.ComingLast.{kills_come_last, was_last}

-- ---- the rest of a set

-- the first of these steps kill exactly these groups
record BeginsWithKillsOf (groups : List ℕ) (steps : Run) : Type 0 where
  pub first : Run
  pub later : Run
  pub steps_are : steps ≡ first ++ later
  pub kills : kills_in first ≡ groups

abbrev rest_of : List ℕ → List ℕ
rest_of [] = []
rest_of (x ∷ xs) = xs

abbrev first_of : List ℕ → ℕ
first_of [] = 0
first_of (x ∷ xs) = x

-- one more step before them: it kills the first of the groups, or nobody
one_more : (e : Step × Answer) (a : Action) → e.0.action ≡ a → (steps : Run) (g : ℕ) (groups more : List ℕ)
    → ((wanted : List ℕ) → kills_in steps ≡ wanted ++ more → BeginsWithKillsOf wanted steps)
    → kills_in (e ∷ steps) ≡ g ∷ (groups ++ more) → BeginsWithKillsOf (g ∷ groups) (e ∷ steps)
one_more e (Kill v) kill steps g groups more later is =
    let all : v ∷ kills_in steps ≡ g ∷ (groups ++ more) = ap (λ (a : Action). killed_by a ++ kills_in steps) (sym kill) ∙ is in
    let rest = later groups (ap rest_of all) in
    record {
      first = e ∷ rest.first;
      later = rest.later;
      steps_are = ap (λ (k : Run). e ∷ k) rest.steps_are;
      kills = ap (λ (k : List ℕ). killed_by e.0.action ++ k) rest.kills
          ∙ ap (λ (a : Action). killed_by a ++ groups) kill
          ∙ ap (λ (k : List ℕ). first_of k ∷ groups) all;
    }
one_more e other kill steps g groups more later is =
    let all : kills_in steps ≡ g ∷ (groups ++ more) = ap (λ (a : Action). killed_by a ++ kills_in steps) (sym kill) ∙ is in
    let rest = later (g ∷ groups) all in
    record {
      first = e ∷ rest.first;
      later = rest.later;
      steps_are = ap (λ (k : Run). e ∷ k) rest.steps_are;
      kills = ap (λ (a : Action). killed_by a ++ kills_in rest.first) kill ∙ rest.kills;
    }

first_kills : (steps : Run) (groups more : List ℕ) → kills_in steps ≡ groups ++ more → BeginsWithKillsOf groups steps
first_kills steps [] more is = record { first = []; later = steps; steps_are = refl; kills = refl }
first_kills [] (g ∷ groups) more is = absurd (let none = ap length is in omega (arith, none))
first_kills (e ∷ steps) (g ∷ groups) more is =
    one_more e e.0.action refl steps g groups more (λ wanted kills. first_kills steps wanted more kills) is

begins_at_once : (since others : Run) (e : Step × Answer) (g : ℕ) → e.0.action ≡ Kill g → (since ≡ []) ⊎ (begins_with_kill since ≡ true)
    → begins_with_kill (since ++ e ∷ others) ≡ true
begins_at_once [] others e g kill begins = ap is_kill kill
begins_at_once (x ∷ since) others e g kill (inl none) = absurd (let long = ap length none in omega (arith, long))
begins_at_once (x ∷ since) others e g kill (inr first) = first

pub die_with_their_sets : (MayAsk : List Group → ℕ → ℕ → Type 0) → GroupsDieWithTheirSets MayAsk
die_with_their_sets MayAsk t start steps before rest made g none is kills =
    let after = none before rest made g is kills in
    let set = first_kills rest after.left after.later after.others_die in
    record {
      tried = after.tried;
      since = after.since;
      others = set.first;
      later = set.later;
      killed = after.killed;
      before_is = after.steps_are;
      rest_is = set.steps_are;
      last = was_last MayAsk t start before g rest after;
      at_once = begins_at_once after.since set.first made g kills after.at_once;
      whole = kills_both after.since (made ∷ set.first)
          ∙ ap (λ (one : List ℕ). kills_in after.since ++ (one ++ kills_in set.first)) (ap killed_by kills)
          ∙ ap (λ (k : List ℕ). kills_in after.since ++ g ∷ k) set.kills
          ∙ sym after.set_is;
    }

pub charges_kill_whole_sets : ChargesKillWholeSets
charges_kill_whole_sets g pages = die_with_their_sets (IsChargedBelow g pages)

-- ---- the limit that has no room

pub over_limit : (l : Ledger) (g pages : ℕ) → has_room_at l g pages ≡ false → IsOverLimit l g pages
over_limit l g pages over = by_limit (limit_of l.groups g) refl
  where
    by_limit : (limit : Option ℕ) → limit_of l.groups g ≡ limit → IsOverLimit l g pages
    by_limit None is = absurd (false≢true (sym over ∙ ap (λ (o : Option ℕ). fits_limit o (current_of l g + pages)) is))
    by_limit (Some limit) is =
        let full : nat_le (current_of l g + pages) limit ≡ false = sym (ap (λ (o : Option ℕ). fits_limit o (current_of l g + pages)) is) ∙ over in
        let more = leb-false (current_of l g + pages) limit full in
        record { limit = limit; limit_is = is; over = omega (arith, more) }

pub charges_kill_over_limits : ChargesKillOverLimits
charges_kill_over_limits g pages t start steps before rest made v none is kills =
    let come = kills_come_last (IsChargedBelow g pages) t start steps before rest made v none is kills in
    let last = come.last in
    record {
      comes_last = come;
      on_path = last.asked.on_path;
      over = over_limit last.now.ledger last.limited pages
          (ap (λ (k : ℕ). has_room_at last.now.ledger last.limited k) (sym last.asked.need_is) ∙ last.over);
      few = last.asked.few;
    }
