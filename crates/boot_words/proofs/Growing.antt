-- The pasts of all seats as the run grows.
use Rattle.std.proofs.Common.{[], ◌≡◌, ◌≢◌, ℕ, ◌+◌, ◌<◌, ◌≤◌, ◌==◌, ◌||◌, Bool, true, false, List, ◌∷◌, ◌++◌, set, refl, ap, sym, ◌∙◌, subst, arith, inl, inr, append_assoc, eq-eqb}
use Rattle.std.specs.Prelude.{◌⊎◌, nat_le, slice_index}
use Rattle.std.specs.List.{fold}
use Rattle.std.proofs.lemmas.Bool.{false≢true}
use Rattle.std.proofs.lemmas.List.{length-set, set-get_or}
use mathlib.Core.Option.{some}
use lib.ListN.{get_elem?}
use Rattle.stock_word.specs.Stock.{group_base}
use Rattle.step_rules.specs.declared.phase.Hold.{Hold}
use Rattle.step_rules.specs.declared.phase.Hold.TheVariants.{HeldBy, Unheld, Visiting}
use Rattle.step_rules.specs.declared.step.Action.{Action}
use Rattle.step_rules.specs.declared.step.Action.TheVariants.{Lock, OpenVisit, ShutVisit, Unlock}
use Rattle.step_rules.specs.declared.step.Answer.{Answer}
use Rattle.step_rules.specs.declared.step.Answer.TheVariants.{Illegal}
use Rattle.step_rules.specs.declared.step.Step.{Step}
use Rattle.step_rules.specs.State.{State}
use Rattle.step_rules.specs.{Zone, at_boot, is_unheld, one_if, Run, after, state_of, is_of_lock, holds_lock}
use Rattle.step_rules.proofs.PhaseLemmas.{equal_test}
use Rattle.step_rules.proofs.Runs.{after_illegal, next}
use Rattle.boot_words.specs.{HasNoStepOf, IsFast, OthersFollow, IsRunOf, AllOf, IsPastOf, LeavesLock, words_in, AreFast, HasLock, BeginsRun, RunRule}
use Rattle.boot_words.specs.{of_number, sum_over, total_over}
use Rattle.boot_words.specs.declared.past.Past.{Past}
use Rattle.boot_words.proofs.Grown.{grown}
use Rattle.boot_words.proofs.Holding.{append_none}
use Rattle.boot_words.proofs.Owning.{fold_on}
use Rattle.boot_words.proofs.Each.{all_set}
use Rattle.boot_words.proofs.Booking.{AreSmall, small_more}
use Rattle.boot_words.proofs.Seats.{counts_same, seats_set}
use Rattle.boot_words.proofs.Totals.{total_plus}

-- ---- runs of steps that need no lock
pub fast_hold : (s : State) (q : ℕ) (action : Action) (answer : Answer) → IsFast action → (after s q action answer).hold ≡ s.hold
fast_hold s q action Illegal fast = ap (λ (t : State). t.hold) (after_illegal s q action)
fast_hold s q Lock answer fast = absurd fast
fast_hold s q Unlock answer fast = absurd fast
fast_hold s q (OpenVisit p) answer fast = absurd fast
fast_hold s q (ShutVisit p) answer fast = absurd fast
fast_hold s q action answer fast = refl

fold_hold : (s : State) (run : Run) → AreFast run → (fold next s run).hold ≡ s.hold
fold_hold s [] fast = refl
fold_hold s (e ∷ run) fast = fold_hold (next s e) run fast.1 ∙ fast_hold s e.0.seat e.0.action e.1 fast.0

pub same_hold : (zone : Zone) (seen rest : Run) → AreFast rest → (state_of zone (seen ++ rest)).hold ≡ (state_of zone seen).hold
same_hold zone seen rest fast = ap (λ (t : State). t.hold) (fold_on (at_boot zone) seen rest) ∙ fold_hold (state_of zone seen) rest fast

fast_more : (run : Run) (e : Step × Answer) → AreFast run → IsFast e.0.action → AreFast (run ++ e ∷ [])
fast_more [] e all one = (one, tt)
fast_more (x ∷ run) e all one = (all.0, fast_more run e all.1 one)

none_more : (seat : ℕ) (run : Run) (e : Step × Answer) → HasNoStepOf seat run → e.0.seat ≢ seat → HasNoStepOf seat (run ++ e ∷ [])
none_more seat [] e all ne = (ne, tt)
none_more seat (x ∷ run) e all ne = (all.0, none_more seat run e all.1 ne)

pub none_both : (seat : ℕ) (xs ys : Run) → HasNoStepOf seat xs → HasNoStepOf seat ys → HasNoStepOf seat (xs ++ ys)
none_both seat [] ys a b = b
none_both seat (x ∷ xs) ys a b = (a.0, none_both seat xs ys a.1 b)

fast_unlocked : (action : Action) → IsFast action → is_of_lock action ≡ false
fast_unlocked Lock fast = absurd fast
fast_unlocked Unlock fast = absurd fast
fast_unlocked action fast = refl

fast_leaves : (run : Run) → AreFast run → LeavesLock run
fast_leaves [] fast = tt
fast_leaves (e ∷ run) fast = (fast_unlocked e.0.action fast.0, fast_leaves run fast.1)

-- the rule of boot_words asks less of a past
pub past_of_run : (zone : Zone) (run : Run) (p : Past) → BeginsRun zone run p → IsPastOf run p
past_of_run zone run p fits = record { goes = fits.goes; leaves_lock = λ zeroth. fast_leaves fits.goes.rest (fits.fast (inl zeroth)) }

-- ---- who holds the lock
or_same : (a b : ℕ) → ((a == b) || false) ≡ true → a ≡ b
or_same a b e = equal_test a b (by (a == b) e)
  where
    by : (c : Bool) → (c || false) ≡ true → c ≡ true
    by true h = refl
    by false h = h

pub one_holder : (hold : Hold) (p q : ℕ) → holds_lock p hold ≡ true → holds_lock q hold ≡ true → q ≡ p
one_holder (HeldBy r) p q a b = sym (or_same r q b) ∙ or_same r p a
one_holder (Visiting r) p q a b = sym (equal_test r q b) ∙ equal_test r p a
one_holder Unheld p q a b = absurd (false≢true a)

pub free_holder : (hold : Hold) (q : ℕ) → is_unheld hold ≡ true → holds_lock q hold ≡ true → ⊥
free_holder (HeldBy r) q free b = absurd (false≢true free)
free_holder (Visiting r) q free b = absurd (false≢true free)
free_holder Unheld q free b = absurd (false≢true b)

-- ---- the pasts of other seats
zero_if : (b : Bool) → one_if b ≡ 0 → b ≡ true → ⊥
zero_if true none is = absurd (let a : 1 ≡ 0 = none in omega arith)
zero_if false none is = absurd (false≢true is)

not_of : (seat : ℕ) (p : Past) → of_number seat p ≡ 0 → seat ≢ p.number
not_of seat p none same = zero_if (p.number == seat) none (eq-eqb p.number seat (sym same))

-- a past that need not note the step still is a beginning
abbrev others_go : (p : Past) (run : Run) (e : Step × Answer) → e.0.seat ≢ p.number → OthersFollow p.number p.seen run → OthersFollow p.number p.seen (run ++ e ∷ [])
others_go p run e ne goes = record {
  rest = goes.rest ++ e ∷ [];
  is = ap (λ l. l ++ e ∷ []) goes.is ∙ append_assoc p.seen goes.rest (e ∷ []);
  others = none_more p.number goes.rest e goes.others ne;
}

other_after_fast : (zone : Zone) (run : Run) (e : Step × Answer) (p : Past) → IsFast e.0.action → of_number e.0.seat p ≡ 0 → BeginsRun zone run p
    → BeginsRun zone (run ++ e ∷ []) p
other_after_fast zone run e p fast none fits = record {
  goes = others_go p run e (not_of e.0.seat p none) fits.goes;
  fast = λ lock. fast_more fits.goes.rest e (fits.fast lock) fast;
  few = fits.few;
}

left_none : (a b : ℕ) → a + b ≡ 0 → a ≡ 0
left_none a b e = omega arith

right_none : (a b : ℕ) → a + b ≡ 0 → b ≡ 0
right_none a b e = omega arith

-- the pasts of the zone and of one CPU
abbrev pub of_both : ℕ → Past → ℕ
of_both cpu p = of_number 0 p + of_number cpu p

-- nobody but this CPU holds the lock after the run
abbrev pub IsOnlyHolder : Zone → Run → ℕ → Type 0
IsOnlyHolder zone run cpu = (q : ℕ) → holds_lock q (state_of zone run).hold ≡ true → q ≡ cpu

other_after_locked : (zone : Zone) (run : Run) (e : Step × Answer) (cpu : ℕ) (p : Past) → (e.0.seat ≡ 0) ⊎ (e.0.seat ≡ cpu) → IsOnlyHolder zone run cpu
    → of_both cpu p ≡ 0 → BeginsRun zone run p → BeginsRun zone (run ++ e ∷ []) p
other_after_locked zone run e cpu p own holder none fits =
    let not_zone = not_of 0 p (left_none (of_number 0 p) (of_number cpu p) none) in
    let not_cpu = not_of cpu p (right_none (of_number 0 p) (of_number cpu p) none) in
    let away : HasLock zone p → ⊥ = λ lock. elim lock [
      | inl zeroth ↦ not_zone (sym zeroth)
      | inr holds ↦ not_cpu (sym (holder p.number (
          ap (λ r. holds_lock p.number (state_of zone r).hold) fits.goes.is
          ∙ ap (holds_lock p.number) (same_hold zone p.seen fits.goes.rest (fits.fast (inr holds))) ∙ holds)))
    ] in
    record {
      goes = others_go p run e (elim own [
        | inl zeroth ↦ λ same. not_zone (sym zeroth ∙ same)
        | inr is ↦ λ same. not_cpu (sym is ∙ same)
      ]) fits.goes;
      fast = λ lock. absurd (away lock);
      few = fits.few;
    }

-- ---- the pasts of the seat that notes the step
pub grown_begins : (zone : Zone) (run : Run) (p : Past) (e : Step × Answer) (goes : OthersFollow p.number p.seen run) → AreSmall (state_of zone (run ++ e ∷ []))
    → BeginsRun zone (run ++ e ∷ []) (grown p goes.rest e)
grown_begins zone run p e goes small = record {
  goes = record { rest = []; is = ap (λ l. l ++ e ∷ []) goes.is ∙ sym (append_none ((p.seen ++ goes.rest) ++ e ∷ [])); others = tt };
  fast = λ lock. tt;
  few = subst (λ r. ((state_of zone (r ++ e ∷ [])).parts p.number).book < group_base) goes.is (small p.number);
}

at_most : (b : Bool) → one_if b ≤ 1
at_most true = omega arith
at_most false = omega arith

pub at_most_one : (zone : Zone) (words : List ℕ) (seats : List (List Past)) → RunRule zone words seats → (q : ℕ) → total_over (of_number q) seats ≤ 1
at_most_one zone words seats k q = let one = k.one_past q in let few = at_most (nat_le q zone.cpus) in omega (arith, one, few)

-- ---- one seat notes a step
-- the words and pasts that a step leaves keep the rule, if each past of another seat is a beginning still
noted : (zone : Zone) (words : List ℕ) (seats : List (List Past)) (k : RunRule zone words seats) (id j x : ℕ) (old new : List Past) (e : Step × Answer) (weight : Past → ℕ)
    → get_elem? seats id ≡ some old → ((q : ℕ) → sum_over (of_number q) new ≡ sum_over (of_number q) old)
    → ((p : Past) → weight p ≡ 0 → BeginsRun zone k.run p → BeginsRun zone (k.run ++ e ∷ []) p) → total_over weight seats ≤ sum_over weight old
    → AllOf (BeginsRun zone (k.run ++ e ∷ [])) new → AreSmall (after (state_of zone k.run) e.0.seat e.0.action e.1) → IsRunOf zone (words_in zone (set words j x)) (k.run ++ e ∷ [])
    → RunRule zone (set words j x) (set seats id new)
noted zone words seats k id j x old new e weight at same others whole fits small now = record {
  run = k.run ++ e ∷ [];
  is = now;
  wide = length-set words j x ∙ k.wide;
  small = small_more zone k.run e.0 e.1 small;
  one_past = λ number. counts_same seats id old new at same number ∙ k.one_past number;
  fits = seats_set (BeginsRun zone k.run) (BeginsRun zone (k.run ++ e ∷ [])) weight others seats id old new at whole k.fits fits;
}

has_own : (p : Past) → 1 ≤ sum_over (of_number p.number) (p ∷ [])
has_own p = let e : of_number p.number p ≡ 1 = ap one_if (eq-eqb p.number p.number refl) in omega (arith, e)

-- A CPU's seat notes a step of the CPU that needs no lock.
pub notes_alone : (zone : Zone) (words : List ℕ) (seats : List (List Past)) (k : RunRule zone words seats) (id j x : ℕ) (p : Past) (action : Action) (answer : Answer)
    (goes : OthersFollow p.number p.seen k.run) → get_elem? seats id ≡ some (p ∷ []) → IsFast action → AreSmall (after (state_of zone k.run) p.number action answer)
    → IsRunOf zone (words_in zone (set words j x)) (k.run ++ (record { seat = p.number; action = action }, answer) ∷ [])
    → RunRule zone (set words j x) (set seats id (grown p goes.rest (record { seat = p.number; action = action }, answer) ∷ []))
notes_alone zone words seats k id j x p action answer goes at fast small now =
    let e : Step × Answer = (record { seat = p.number; action = action }, answer) in
    let few = at_most_one zone words seats k p.number in
    let own = has_own p in
    noted zone words seats k id j x (p ∷ []) (grown p goes.rest e ∷ []) e (of_number p.number) at (λ q. refl)
    (λ u none. other_after_fast zone k.run e u fast none) (omega (arith, few, own)) (grown_begins zone k.run p e goes (small_more zone k.run e.0 e.1 small), tt) small now

both_counted : (z c : Past) → z.number ≡ 0 → 2 ≤ sum_over (of_both c.number) (z ∷ c ∷ [])
both_counted z c zeroth =
    let a : of_number 0 z ≡ 1 = ap one_if (eq-eqb z.number 0 zeroth) in
    let b : of_number c.number c ≡ 1 = ap one_if (eq-eqb c.number c.number refl) in
    omega (arith, a, b)

-- The seat that has the zone's past and that of the lock's holder, or of the CPU that takes the lock, notes a step of one of the two.
pub notes_both : (zone : Zone) (words : List ℕ) (seats : List (List Past)) (k : RunRule zone words seats) (id j x : ℕ) (z c : Past) (step : Step) (answer : Answer)
    (zone_goes : OthersFollow z.number z.seen k.run) (goes : OthersFollow c.number c.seen k.run) → get_elem? seats id ≡ some (z ∷ c ∷ []) → z.number ≡ 0
    → (step.seat ≡ 0) ⊎ (step.seat ≡ c.number) → IsOnlyHolder zone k.run c.number → AreSmall (after (state_of zone k.run) step.seat step.action answer)
    → IsRunOf zone (words_in zone (set words j x)) (k.run ++ (step, answer) ∷ [])
    → RunRule zone (set words j x) (set seats id (grown z zone_goes.rest (step, answer) ∷ grown c goes.rest (step, answer) ∷ []))
notes_both zone words seats k id j x z c step answer zone_goes goes at zeroth own holder small now =
    let e : Step × Answer = (step, answer) in
    let all = total_plus (of_number 0) (of_number c.number) seats in
    let a = at_most_one zone words seats k 0 in
    let b = at_most_one zone words seats k c.number in
    let two = both_counted z c zeroth in
    let later = small_more zone k.run step answer small in
    noted zone words seats k id j x (z ∷ c ∷ []) (grown z zone_goes.rest e ∷ grown c goes.rest e ∷ []) e (of_both c.number) at (λ q. refl)
    (λ u none. other_after_locked zone k.run e c.number u own holder none) (omega (arith, all, a, b, two))
    (grown_begins zone k.run z e zone_goes later, (grown_begins zone k.run c e goes later, tt)) small now

-- No step is made: the word stays, and the seat's pasts have seen more or less of the run.
pub notes_nothing : (zone : Zone) (words : List ℕ) (seats : List (List Past)) (k : RunRule zone words seats) (id j x : ℕ) (old new : List Past) → get_elem? seats id ≡ some old
    → x ≡ slice_index words j → ((q : ℕ) → sum_over (of_number q) new ≡ sum_over (of_number q) old) → AllOf (BeginsRun zone k.run) new
    → RunRule zone (set words j x) (set seats id new)
notes_nothing zone words seats k id j x old new at stays same fits = record {
  run = k.run;
  is = subst (λ (l : List ℕ). IsRunOf zone (words_in zone l) k.run) (sym (ap (set words j) stays ∙ set-get_or words j 0)) k.is;
  wide = length-set words j x ∙ k.wide;
  small = k.small;
  one_past = λ number. counts_same seats id old new at same number ∙ k.one_past number;
  fits = all_set (AllOf (BeginsRun zone k.run)) seats id new fits k.fits;
}
