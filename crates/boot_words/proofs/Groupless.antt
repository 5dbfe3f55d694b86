-- A CPU that saw no group last has no fresh frame.
use Rattle.std.proofs.Common.{[], ◌≡◌, ℕ, ◌≤◌, Bool, true, false, None, List, ◌∷◌, refl, ap, sym, ◌∙◌, subst, arith, inl, inr, eq-eqb}
use Rattle.stock_word.specs.declared.stock.Stock.TheVariants.{NoGroup}
use Rattle.stock_word.specs.Stock.{drained_of, group_of}
use Rattle.step_rules.specs.declared.step.Action.TheVariants.{Credit}
use Rattle.step_rules.specs.Invariant.{PhasePaid, groups_in}
use Rattle.step_rules.specs.Phases.{FreshFrame, has_as}
use Rattle.step_rules.specs.State.{State, one_if, times}
use Rattle.step_rules.proofs.LegalTests.{credit_tests}
use Rattle.step_rules.proofs.PhaseLemmas.{fresh_is, none_some}
use Rattle.step_rules.proofs.Runs.{sound_run}
use Rattle.boot_words.specs.{MayDo, own_past, zone_of_boot, IsAwayCpu, KnownCpuSeat, state_left, NoGroupNothingFresh, KnownTable}
use Rattle.boot_words.proofs.Drains.{group_by}

-- the group of the stock that its past left
group_left : (t : KnownTable) (c : KnownCpuSeat) → IsAwayCpu t c → c.last ≡ NoGroup → ((state_left t c).parts c.number).stock.group ≡ None
group_left t c is none =
    let part = (state_left t c).parts c.number in
    sym (group_by part.stock.group part.stock.pages part.stock.is_drained)
    ∙ elim is.last [
      | inl same ↦ ap group_of (same ∙ none)
      | inr gone ↦ ap group_of (gone ∙ ap drained_of none)
    ]

no_fresh : (t : KnownTable) (c : KnownCpuSeat) (f : ℕ) → IsAwayCpu t c → c.last ≡ NoGroup → has_as FreshFrame c.number ((state_left t c).phases f) ≡ true → ⊥
no_fresh t c f is none has =
    let s = state_left t c in
    let fresh = fresh_is c.number (s.phases f) has in
    let paid = subst (PhasePaid s.zone.cpus (groups_in s.parts)) fresh.1 ((sound_run (zone_of_boot t) (own_past c.past).seen is.past.legal).frames f).paid in
    none_some fresh.0.group (sym (group_left t c is none) ∙ paid.group)

pub no_credit : (t : KnownTable) (c : KnownCpuSeat) (f : ℕ) → IsAwayCpu t c → c.last ≡ NoGroup → MayDo t c.past (Credit f) → ⊥
no_credit t c f is none legal =
    let s = state_left t c in
    no_fresh t c f is none (subst (λ q. has_as FreshFrame q (s.phases f) ≡ true) (sym is.number) (credit_tests s (own_past c.past).number f legal).2)

fresh_none : (s : State) (cpu : ℕ) (fresh : List ℕ) → ((f : ℕ) → times f fresh ≡ one_if (has_as FreshFrame cpu (s.phases f))) → ((f : ℕ) → has_as FreshFrame cpu (s.phases f) ≡ true → ⊥) → fresh ≡ []
fresh_none s cpu [] is none = refl
fresh_none s cpu (f ∷ rest) is none = absurd (by (has_as FreshFrame cpu (s.phases f)) refl)
  where
    some : 1 ≤ times f (f ∷ rest)
    some = let a = ap one_if (eq-eqb f f refl) in omega (arith, a)

    by : (b : Bool) → has_as FreshFrame cpu (s.phases f) ≡ b → ⊥
    by true e = none f e
    by false e = let a = is f ∙ ap one_if e in let m = some in absurd (omega (arith, a, m))

pub no_group_nothing_fresh : NoGroupNothingFresh
no_group_nothing_fresh t c is none =
    let s = state_left t c in
    fresh_none s c.number (s.parts c.number).fresh (λ f. (sound_run (zone_of_boot t) (own_past c.past).seen is.past.legal).lists c.number FreshFrame f) (λ f has. no_fresh t c f is none has)
