-- What the machine's past says after some steps under the lock. Serves all calls.
use Rattle.std.proofs.Common.{◌≡◌, ℕ, ◌+◌, ◌==◌, ◌&&◌, cond, [], ◌∷◌, ◌++◌, sym, ap, ◌∙◌, subst, arith}
use Rattle.std.specs.List.{fold}
use Rattle.std.proofs.lemmas.Bool.{ne_eqb}
use Rattle.std.proofs.lemmas.List.Sums.{sum_by-append, sum_by-cons}
use Rattle.group_charge.specs.declared.note.Note.{Note}
use Rattle.step_rules.specs.declared.step.Step.{Step}
use Rattle.step_rules.specs.declared.step.Answer.{Answer}
use Rattle.step_rules.specs.State.{State}
use Rattle.step_rules.specs.{Run, other_part_seen}
use Rattle.boot_words.specs.{GrewByAll, IsHeld, own_past, HasNoStepOf, KnownTable}
use Rattle.boot_words.specs.declared.past.Past.{Past}
use Rattle.mem_machine.specs.{KnownMachine, part_at, with_note, Makes, local_of, after_made}
use Rattle.mem_machine.proofs.Sight.{left_seen, left_then}
use Rattle.mem_reclaim.specs.Moves.{is_miss, missed_in, misses_of}

-- ---- misses

pub missed_append : (f : ℕ) (one two : Run) → missed_in f (one ++ two) ≡ missed_in f one + missed_in f two
missed_append f one two = sum_by-append (λ (e : Step × Answer). cond (e.0.seat == 0 && is_miss f e.0.action e.1) 1 0) one two

-- others' steps are no misses
missed_none : (f : ℕ) (rest : Run) → HasNoStepOf 0 rest → missed_in f rest ≡ 0
missed_none f [] none = omega arith
missed_none f (e ∷ rest) none =
    let here : ◌≡◌ {A = ℕ} (cond (e.0.seat == 0 && is_miss f e.0.action e.1) 1 0) 0 = ap (λ b. cond (b && is_miss f e.0.action e.1) 1 0) (ne_eqb e.0.seat 0 none.0) in
    let both = sum_by-cons (λ (x : Step × Answer). cond (x.0.seat == 0 && is_miss f x.0.action x.1) 1 0) e rest in
    both ∙ (λ i. here i + missed_none f rest none.1 i)

missed_grown : (f : ℕ) (steps : Run) (p q : Past) → p.number ≡ 0 → GrewByAll p steps q → missed_in f q.seen ≡ missed_in f p.seen + missed_in f steps
missed_grown f [] p q zeroth same = let e = ap (λ (x : Past). missed_in f x.seen) same in omega (arith, e)
missed_grown f (e ∷ steps) p q zeroth grew =
    let mid = grew.0 in let g = grew.1 in
    let later = missed_grown f steps mid q (g.number ∙ zeroth) grew.2 in
    let seen = ap (missed_in f) g.seen in
    let one = missed_append f (p.seen ++ g.between) (e ∷ []) in
    let two = missed_append f p.seen g.between in
    let none = missed_none f g.between (subst (λ (k : ℕ). HasNoStepOf k g.between) zeroth g.others) in
    let front = missed_append f (e ∷ []) steps in
    omega (arith, later, seen, one, two, none, front)

-- ---- what the holder sees

module _ (t : KnownTable) (m : KnownMachine) (steps : Run) (n : KnownMachine) (runs : Makes t m steps n) (held : IsHeld t m.run.past) where
  pub held_after : IsHeld t n.run.past
  held_after = runs.noted.grew.held held

  pub misses_after : (f : ℕ) → misses_of n f ≡ misses_of m f + missed_in f steps
  misses_after f = missed_grown f steps (own_past m.run.past) (own_past n.run.past) held.holds.zone_is (runs.noted.grew.zone_grew held)

  -- steps that leave the stocks
  pub parts_after : (cpu : ℕ) → (fold after_made (local_of t m) steps).parts cpu ≡ (local_of t m).parts cpu → part_at t n cpu ≡ part_at t m cpu
  parts_after cpu same =
      ap (λ (s : State). s.parts cpu) (left_then t m steps n.run held runs.noted) ∙ ap other_part_seen same
      ∙ sym (ap (λ (s : State). s.parts cpu) (left_seen t m.run.past held))

-- after a note
pub held_noted : (t : KnownTable) (m n : KnownMachine) (note : Note) → n ≡ with_note m note → IsHeld t m.run.past → IsHeld t n.run.past
held_noted t m n note is held = subst (λ (x : KnownMachine). IsHeld t x.run.past) (sym is) held
