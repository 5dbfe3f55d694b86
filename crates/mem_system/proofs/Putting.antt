-- The pins of CPUs, put one after the other, and what follows of a CPU's steps at the end.
use Rattle.std.proofs.Common.{◌≡◌, ℕ, zero, suc, ◌+◌, ◌<◌, ◌≤◌, Option, Some, None, List, [], ◌∷◌, ◌++◌, ◌∙◌, length, take, get_or, refl, sym, ap, subst, arith, append_assoc, append-nil}
use Rattle.std.specs.Prelude.{IfSome, IsPermutation, MatchOption, slice_set}
use Rattle.std.proofs.lemmas.List.{map-append, nil_from_length, take_all, take_more_set}
use Rattle.std.proofs.lemmas.List.Sorted.{IsPermutation-append_right, IsPermutation-refl, IsPermutation-trans}
use Rattle.std.proofs.lemmas.List.Sums.{sum_by-append, sum_by-cons}
use Rattle.frame_word.specs.declared.answers.Put.{Put}
use Rattle.frame_word.specs.declared.answers.Put.TheVariants.{Left, Last}
use Rattle.step_rules.specs.{Run, times}
use Rattle.boot_words.specs.{KnownCpuSeat, GrewByAll, own_past, AllOf, BeginsRun, zone_of_boot, KnownTable}
use Rattle.boot_words.proofs.Gaining.{grown_number}
use Rattle.boot_words.proofs.Grown.{all_grew_both}
use Rattle.cpu_part.specs.{KnownCpuLists, UnpinAnswers, steps_of_put, KnowsItsPart}
use Rattle.cpu_part.proofs.Counts.{one_shorter}
use Rattle.cpu_part.proofs.Knowing.{pinned_inside}
use Rattle.mem_machine.specs.{VisitState, KnownMachine}
use Rattle.mem_system.specs.{CpuInRun, between_locks, parts_of, pasts_of, IsSound, KnownLocked, Empties, ForEachCpu, SettlesInVisit, VisitsUnderLock}
use Rattle.mem_system.specs.{machine_and_cpu, pins_of_all, steps_of_visits, EndsCpu, PutsAndEnds, EachPuts, MadePut, PutsPins, frames_put}
use Rattle.mem_system.specs.{unpin_steps}
use Rattle.mem_system.specs.declared.end_with_pins.SystemEnd.{SystemEnd}
use Rattle.mem_system.specs.Commands.{Transition}
use Rattle.mem_system.specs.Ends.{Ends}

-- ---- one CPU

-- a frame that the CPU has pinned is one of the table
pub pin_in_table : (t : KnownTable) (k : KnownCpuSeat) (c : KnownCpuLists) → KnowsItsPart t k c → (found : Option ℕ)
    → MatchOption found (c.pins ≡ []) (λ f. 1 ≤ times f c.pins) → IfSome found (λ f. f < t.frames)
pin_in_table t k c knows None none = tt
pin_in_table t k c knows (Some f) pinned = pinned_inside t k c knows f pinned

parted : (f : ℕ) (answer : Put) (c d : KnownCpuLists) → UnpinAnswers f answer c d → IsPermutation c.pins (f ∷ d.pins)
parted f (Left n) c d one = one.0
parted f Last c d one = one.0

same_number : (f : ℕ) (answer : Put) (c d : KnownCpuLists) → UnpinAnswers f answer c d → d.number ≡ c.number
same_number f (Left n) c d one = ap (λ (x : KnownCpuLists). x.number) one.3
same_number f Last c d one = ap (λ (x : KnownCpuLists). x.number) one.1

-- a reference less
pub fewer_pins : (f : ℕ) (answer : Put) (c d : KnownCpuLists) → UnpinAnswers f answer c d → length d.pins < length c.pins
fewer_pins f answer c d one = let fewer = one_shorter f c.pins d.pins (parted f answer c d one) in omega (arith, fewer)

pub put_none : (c : CpuInRun) → PutsPins c c
put_none c = record { puts = []; number = refl; pins = IsPermutation-refl c.part.pins; run = refl }

steps_both : (n : ℕ) (a b : List MadePut) → unpin_steps n (a ++ b) ≡ unpin_steps n a ++ unpin_steps n b
steps_both n [] b = refl
steps_both n (put ∷ a) b = ap (λ (r : Run). steps_of_put n put.frame put.answer ++ r) (steps_both n a b)

-- puts go on
pub put_both : (a b c : CpuInRun) → PutsPins a b → PutsPins b c → PutsPins a c
put_both a b c one two =
    let n = a.part.number in
    let rest = subst (λ (m : ℕ). GrewByAll (own_past b.past) (unpin_steps m two.puts) (own_past c.past)) one.number two.run in
    let pins : IsPermutation (frames_put one.puts ++ b.part.pins) ((frames_put one.puts ++ frames_put two.puts) ++ c.part.pins) =
    subst (IsPermutation (frames_put one.puts ++ b.part.pins)) (sym (append_assoc (frames_put one.puts) (frames_put two.puts) c.part.pins))
    (IsPermutation-append_right (frames_put one.puts) b.part.pins (frames_put two.puts ++ c.part.pins) two.pins) in
    record {
      puts = one.puts ++ two.puts;
      number = two.number ∙ one.number;
      pins = subst (λ (l : List ℕ). IsPermutation a.part.pins (l ++ c.part.pins)) (sym (map-append (λ (put : MadePut). put.frame) one.puts two.puts))
          (IsPermutation-trans a.part.pins (frames_put one.puts ++ b.part.pins) _ one.pins pins);
      run = subst (λ (r : Run). GrewByAll (own_past a.past) r (own_past c.past)) (sym (steps_both n one.puts two.puts))
          (all_grew_both (own_past a.past) (unpin_steps n one.puts) (own_past b.past) (unpin_steps n two.puts) (own_past c.past) one.run rest);
    }

-- one put more
pub put_more : (a b c : CpuInRun) (f : ℕ) (answer : Put) → PutsPins a b → UnpinAnswers f answer b.part c.part
    → GrewByAll (own_past b.past) (steps_of_put b.part.number f answer) (own_past c.past) → PutsPins a c
put_more a b c f answer so_far one grew =
    put_both a b c so_far
    (record {
      puts = record { frame = f; answer = answer } ∷ [];
      number = same_number f answer b.part c.part one;
      pins = parted f answer b.part c.part one;
      run = grew;
    })

-- ---- all CPUs

pub each_none : (cpus : List CpuInRun) → EachPuts cpus cpus
each_none [] = tt
each_none (c ∷ cpus) = (put_none c, each_none cpus)

-- one CPU more puts its pins
pub each_more : (before now : List CpuInRun) (i : ℕ) (any d : CpuInRun) → i < length now → EachPuts before now → PutsPins (get_or now i any) d
    → EachPuts before (slice_set now i d)
each_more [] [] i any d inside so_far one = omega (arith, inside)
each_more [] (b ∷ now) i any d inside so_far one = absurd so_far
each_more (a ∷ before) [] i any d inside so_far one = absurd so_far
each_more (a ∷ before) (b ∷ now) zero any d inside so_far one = (put_both a b d so_far.0 one, so_far.1)
each_more (a ∷ before) (b ∷ now) (suc i) any d inside so_far one = (so_far.0, each_more before now i any d (omega (arith, inside)) so_far.1 one)

-- one CPU more has none
pub none_more : (i : ℕ) (cpus : List CpuInRun) (d : CpuInRun) → pins_of_all (parts_of (take i cpus)) ≡ 0 → i < length cpus → d.part.pins ≡ []
    → pins_of_all (parts_of (take (i + 1) (slice_set cpus i d))) ≡ 0
none_more i cpus d so_far inside none =
    let own : length d.part.pins ≡ 0 = ap length none in
    let parts = sum_by-append (λ (x : KnownCpuLists). length x.pins) (parts_of (take i cpus)) (d.part ∷ []) in
    let split : parts_of (take i cpus ++ d ∷ []) ≡ parts_of (take i cpus) ++ d.part ∷ [] = map-append (λ (x : CpuInRun). x.part) (take i cpus) (d ∷ []) in
    let none_yet : pins_of_all (parts_of (take i cpus ++ d ∷ [])) ≡ 0 = ap pins_of_all split ∙ omega (arith, parts, own, so_far) in
    subst (λ (l : List CpuInRun). pins_of_all (parts_of l) ≡ 0) (sym (take_more_set cpus i d inside)) none_yet

-- all have none, once the loop is past the last
pub none_at_end : (i : ℕ) (cpus : List CpuInRun) → pins_of_all (parts_of (take i cpus)) ≡ 0 → length cpus ≤ i → pins_of_all (parts_of cpus) ≡ 0
none_at_end i cpus so_far past = subst (λ (l : List CpuInRun). pins_of_all (parts_of l) ≡ 0) (take_all i cpus past) so_far

-- ---- to the end of the run

module _ (t : KnownTable) (run : Run) where
  ends_cpu : (m n x y : KnownMachine) (a b c d : CpuInRun) → PutsPins a b → b.part.pins ≡ [] → VisitsUnderLock t SettlesInVisit (machine_and_cpu m b) (machine_and_cpu n c)
      → VisitsUnderLock t Empties (machine_and_cpu x c) (machine_and_cpu y d) → BeginsRun (zone_of_boot t) run (own_past d.past) → EndsCpu t run a
  ends_cpu m n x y a b c d puts none settles empties is_last =
      let k = a.part.number in
      let one = grown_number (own_past a.past) (unpin_steps k puts.puts) (own_past b.past) puts.run in
      let two = grown_number (own_past b.past) (between_locks b.part.number settles.visit.steps) (own_past c.past) settles.run.cpu_grew in
      let settling = subst (λ (i : ℕ). GrewByAll (own_past b.past) (between_locks i settles.visit.steps) (own_past c.past)) puts.number settles.run.cpu_grew in
      let emptying = subst (λ (i : ℕ). GrewByAll (own_past c.past) (between_locks i empties.visit.steps) (own_past d.past))
      (sym empties.run.number ∙ two ∙ settles.run.number ∙ puts.number) empties.run.cpu_grew in
      record {
        puts = puts.puts;
        number = sym one ∙ settles.run.number ∙ puts.number;
        pins = subst (IsPermutation a.part.pins) (ap (λ (l : List ℕ). frames_put puts.puts ++ l) none ∙ append-nil (frames_put puts.puts)) puts.pins;
        settling = settles.visit.steps;
        emptying = empties.visit.steps;
        last = own_past d.past;
        grew = all_grew_both (own_past a.past) (unpin_steps k puts.puts) (own_past b.past)
            (between_locks k settles.visit.steps ++ between_locks k empties.visit.steps) (own_past d.past) puts.run
            (all_grew_both (own_past b.past) (between_locks k settles.visit.steps) (own_past c.past) (between_locks k empties.visit.steps) (own_past d.past) settling emptying);
        is_last = is_last;
      }

  -- each CPU, from its parked part to the end of the run
  pub each_ends : (m n x y : KnownMachine) (parked cpus settled emptied : List CpuInRun) → EachPuts parked cpus → pins_of_all (parts_of cpus) ≡ 0
      → ForEachCpu (VisitsUnderLock t SettlesInVisit) m cpus n settled → ForEachCpu (VisitsUnderLock t Empties) x settled y emptied
      → AllOf (BeginsRun (zone_of_boot t) run) (pasts_of emptied) → AllOf (EndsCpu t run) parked
  each_ends m n x y [] cpus settled emptied puts none settles empties last = tt
  each_ends m n x y (a ∷ parked) [] settled emptied puts none settles empties last = absurd puts
  each_ends m n x y (a ∷ parked) (b ∷ cpus) [] emptied puts none settles empties last = absurd settles
  each_ends m n x y (a ∷ parked) (b ∷ cpus) (c ∷ settled) [] puts none settles empties last = absurd empties
  each_ends m n x y (a ∷ parked) (b ∷ cpus) (c ∷ settled) (d ∷ emptied) puts none settles empties last =
      let all : length b.part.pins + pins_of_all (parts_of cpus) ≡ 0 = sym (sum_by-cons (λ (p : KnownCpuLists). length p.pins) b.part (parts_of cpus)) ∙ none in (
        ends_cpu m settles.between x empties.between a b c d puts.0 (nil_from_length b.part.pins (omega (arith, all))) settles.first empties.first last.0,
        each_ends settles.between n empties.between y parked cpus settled emptied puts.1 (omega (arith, all)) settles.rest empties.rest last.1,
      )

-- ---- the zone's past

zone_grew : (t : KnownTable) (Does : Transition VisitState → Type 0) (m : KnownMachine) (cpus : List CpuInRun) (n : KnownMachine) (left : List CpuInRun)
    (visits : ForEachCpu (VisitsUnderLock t Does) m cpus n left)
    → GrewByAll (own_past m.run.past) (steps_of_visits t Does m cpus n left visits) (own_past n.run.past)
zone_grew t Does m [] n [] visits = ap (λ (k : KnownMachine). own_past k.run.past) visits
zone_grew t Does m [] n (d ∷ left) visits = absurd visits
zone_grew t Does m (c ∷ cpus) n [] visits = absurd visits
zone_grew t Does m (c ∷ cpus) n (d ∷ left) visits =
    all_grew_both (own_past m.run.past) (between_locks c.part.number visits.first.visit.steps) (own_past visits.between.run.past)
    (steps_of_visits t Does visits.between cpus n left visits.rest) (own_past n.run.past) visits.first.run.zone_grew
    (zone_grew t Does visits.between cpus n left visits.rest)

-- an end of this system, whose pins were put before it
pub puts_and_ends : (t : KnownTable) (locked : KnownLocked) (parts left : List CpuInRun) (ended : SystemEnd) → IsSound t locked
    → ended.held ≡ pins_of_all (parts_of parts) → EachPuts parts left → Ends t locked left ended.audit → PutsAndEnds t locked parts ended
puts_and_ends t locked parts left ended sound held puts ends =
    let visits = ends.visits in
    let settling = steps_of_visits t SettlesInVisit locked.machine left visits.settled visits.settled_cpus visits.settles in
    let emptying = steps_of_visits t Empties visits.settled visits.settled_cpus ends.emptied.machine ends.emptied.cpus visits.empties in
    record {
      sound = sound;
      held = held;
      left = left;
      puts = puts;
      ends = ends;
      each = each_ends t ends.closes.end.run _ _ _ _ parts left _ _ puts visits.no_pin visits.settles visits.empties ends.closes.end.begin.1;
      zone = subst (λ (r : Run). GrewByAll (own_past locked.machine.run.past) r (own_past ends.emptied.machine.run.past)) (sym visits.steps_are)
          (all_grew_both (own_past locked.machine.run.past) settling (own_past visits.settled.run.past) emptying (own_past ends.emptied.machine.run.past)
          (zone_grew t SettlesInVisit locked.machine left visits.settled visits.settled_cpus visits.settles)
          (zone_grew t Empties visits.settled visits.settled_cpus ends.emptied.machine ends.emptied.cpus visits.empties));
    }
