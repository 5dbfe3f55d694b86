-- Which lists of steps have a rash kill. Serves `breaches`.
use Rattle.std.proofs.Common.{◌≡◌, ◌≢◌, ℕ, true, List, [], ◌∷◌, ◌++◌, length, sym, ap, subst, ◌∙◌, inl, inr, arith}
use Rattle.std.proofs.lemmas.Bool.{false≢true}
use Rattle.std.proofs.lemmas.List.{append-nil}
use Rattle.step_rules.specs.declared.step.Action.{Action}
use Rattle.step_rules.specs.declared.step.Action.TheVariants.{Kill}
use Rattle.step_rules.specs.declared.step.Answer.{Answer}
use Rattle.step_rules.specs.declared.step.Answer.TheVariants.{Done}
use Rattle.step_rules.specs.declared.step.Step.{Step}
use Rattle.step_rules.specs.After.{Run, zone_makes}
use Rattle.boot_words.specs.Tables.{KnownTable}
use Rattle.mem_machine.specs.Machines.{KnownMachine}
use Rattle.mem_reclaim.specs.Moves.{is_kill, killed_by, kills_in}
use Rattle.mem_reclaim.proofs.KillSets.{kills_both}
use Rattle.mem_alloc.specs.NoRash.{MayKillAfter, begins_with_kill, has_oom_note}
use Rattle.mem_alloc.specs.KillBreaches.{TheseMayDie, asks_a_page}

-- the step of a kill
abbrev pub kill : ℕ → Step × Answer
kill group = zone_makes (Kill group) Done

second_none : (x y : List ℕ) → [] ≡ x ++ y → y ≡ []
second_none [] y none = sym none
second_none (g ∷ x) y none = absurd (let long = ap length none in omega (arith, long))

starts_with_a_kill : (since : Run) → begins_with_kill since ≡ true → kills_in since ≢ []
starts_with_a_kill [] first none = false≢true first
starts_with_a_kill (e ∷ later) first none = by_action e.0.action first none
  where
    by_action : (a : Action) → is_kill a ≡ true → killed_by a ++ kills_in later ≢ []
    by_action (Kill group) kill z = let long = ap length z in omega (arith, long)
    by_action other kill z = false≢true kill

-- a kill after these steps
module _ {table : KnownTable} {start : KnownMachine} {before rest : Run} {group : ℕ}
    (after : MayKillAfter table asks_a_page start before group rest) where
  pub noted : has_oom_note 1 after.tried ≡ true
  noted = subst (λ (g : ℕ). has_oom_note g after.tried ≡ true) after.may.asked.0 after.may.noted

  pub in_set : (set : List ℕ) → TheseMayDie set table start → set ≡ kills_in after.since ++ group ∷ after.left
  in_set set these = sym (these after.tried after.now after.killed after.leads after.may) ∙ after.set_is

  -- none of them kills
  module _ (none : kills_in before ≡ []) where
    no_kill_since : kills_in after.since ≡ []
    no_kill_since = second_none (kills_in after.tried) (kills_in after.since)
        (sym none ∙ ap kills_in after.steps_are ∙ kills_both after.tried after.since)

    pub at_once : before ≡ after.tried
    at_once = after.steps_are ∙ ap (λ (s : Run). after.tried ++ s) nothing ∙ append-nil after.tried
      where
        nothing : after.since ≡ []
        nothing = elim after.at_once [ inl so ↦ so | inr first ↦ absurd (starts_with_a_kill after.since first no_kill_since) ]

    pub first_of_set : (set : List ℕ) → TheseMayDie set table start → set ≡ group ∷ after.left
    first_of_set set these = in_set set these ∙ ap (λ (k : List ℕ). k ++ group ∷ after.left) no_kill_since
