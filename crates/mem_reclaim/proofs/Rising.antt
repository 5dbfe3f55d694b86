-- Counts that rise by the steps. Serves the clauses on the counts of rounds and of kills.
use Rattle.std.proofs.Common.{◌≡◌, ℕ, ◌+◌, ◌≤◌, ◌⊎◌, ◌++◌, List, [], ◌∷◌, Option, Some, None, zero, suc, refl, sym, ap, subst, inl, inr, arith, cond}
use Rattle.std.specs.Prelude.{min}
use Rattle.std.proofs.lemmas.Bool.{cases_lt}
use Rattle.std.proofs.lemmas.List.Sums.{sum_by-append}
use Rattle.group_tree.specs.Room.{max_count, one_more}
use Rattle.lru_lists.specs.declared.record.Entry.{Entry}
use Rattle.step_rules.specs.declared.step.Step.{Step}
use Rattle.step_rules.specs.declared.step.Answer.{Answer}
use Rattle.step_rules.specs.After.{Run}
use Rattle.mem_machine.specs.declared.releasing.Released.{Released}
use Rattle.mem_machine.specs.declared.releasing.Released.TheVariants.{Left, Returned}
use Rattle.mem_machine.specs.{KnownMachine, Releases, release_steps, Drain, drain_steps, drain_stocks_steps}
use Rattle.mem_reclaim.specs.{Rises, all_missed_in, is_any_miss, is_return, returned_in, ReleasesUnits}

-- ---- one count

pub rises_none : (before after : ℕ) → after ≡ before → Rises before 0 after
rises_none before after is = inl (omega (arith, is))

pub rises_both : (a b c some more : ℕ) → Rises a some b → Rises b more c → Rises a (some + more) c
rises_both a b c some more (inl x) (inl y) = inl (omega (arith, x, y))
rises_both a b c some more (inl x) (inr y) = inr y
rises_both a b c some more (inr x) (inl y) = inr (omega (arith, x, y))
rises_both a b c some more (inr x) (inr y) = inr y

up_to : (before most : ℕ) → (min (before + 1) most ≡ before + 1) ⊎ (most ≤ min (before + 1) most)
up_to before most = elim (cases_lt before most) [
  | inl lt ↦ inl (omega (arith, lt))
  | inr le ↦ inr (omega (arith, le))
]

pub rises_one : (before after : ℕ) → after ≡ one_more before → Rises before 1 after
rises_one before after is = subst (λ (n : ℕ). Rises before 1 n) (sym is) (up_to before max_count)

-- ---- what lists of steps return, and what they missed

pub returned_both : (one two : Run) → returned_in (one ++ two) ≡ returned_in one + returned_in two
returned_both one two = sum_by-append (λ (e : Step × Answer). cond (is_return e.0.action e.1) 1 0) one two

pub missed_both : (one two : Run) → all_missed_in (one ++ two) ≡ all_missed_in one + all_missed_in two
missed_both one two = sum_by-append (λ (e : Step × Answer). cond (is_any_miss e.0.action e.1) 1 0) one two

drain_returns_none : (q : ℕ) (o : Option ℕ) (pages : ℕ) → returned_in (drain_steps q o pages) ≡ 0
drain_returns_none q None pages = refl
drain_returns_none q (Some g) zero = refl
drain_returns_none q (Some g) (suc n) = refl

pub drains_return_none : (drains : List Drain) → returned_in (drain_stocks_steps drains) ≡ 0
drains_return_none [] = refl
drains_return_none (d ∷ rest) =
    let one = drain_returns_none d.cpu d.group d.pages in
    let more = drains_return_none rest in
    let both = returned_both (drain_steps d.cpu d.group d.pages) (drain_stocks_steps rest) in
    omega (arith, one, more, both)

-- ---- units that are released

release_rises : (m n : KnownMachine) (f : ℕ) (left : Released) → Releases f left m n
    → Rises m.counts.last_puts (returned_in (release_steps f left)) n.counts.last_puts
release_rises m n f (Left left) is = rises_none m.counts.last_puts n.counts.last_puts (ap (λ (x : KnownMachine). x.counts.last_puts) is.machine)
release_rises m n f Returned is = rises_one m.counts.last_puts n.counts.last_puts (ap (λ (x : KnownMachine). x.counts.last_puts) is.machine)

pub units_rise : (units : List Entry) (m : KnownMachine) (steps : Run) (n : KnownMachine) → ReleasesUnits units m steps n
    → Rises m.counts.last_puts (returned_in steps) n.counts.last_puts
units_rise [] m steps n all =
    subst (λ (r : Run). Rises m.counts.last_puts (returned_in r) n.counts.last_puts) (sym all.1)
    (rises_none m.counts.last_puts n.counts.last_puts (ap (λ (x : KnownMachine). x.counts.last_puts) all.0))
units_rise (u ∷ rest) m steps n all =
    let x = all.between in
    let one : Run = release_steps u.number all.left in
    subst (λ (r : Run). Rises m.counts.last_puts (returned_in r) n.counts.last_puts) (sym all.steps_are)
    (subst (λ (k : ℕ). Rises m.counts.last_puts k n.counts.last_puts) (sym (returned_both one all.later))
    (rises_both m.counts.last_puts x.counts.last_puts n.counts.last_puts (returned_in one) (returned_in all.later)
    (release_rises m x u.number all.left all.releases) (units_rise rest x all.later n all.others)))
