-- Pins that are put, one after the other, and the steps that the watch takes of them.
use Rattle.std.proofs.Common.{◌≡◌, ℕ, ◌<◌, Some, List, [], ◌∷◌, ◌++◌, length, refl, sym, ap, subst, arith, append_assoc, append-nil}
use Rattle.std.specs.Prelude.{slice_get, slice_set}
use Rattle.std.proofs.lemmas.List.Sums.{sum_by-append}
use Rattle.frame_word.specs.declared.answers.Put.{Put}
use Rattle.boot_words.specs.declared.past.Past.{Past}
use Rattle.boot_words.specs.{Meets, own_past, GainsSteps, GrewByAll, IsRunSoFar, KnownTable}
use Rattle.boot_words.proofs.Gaining.{gains_both, gains_go_on, none_gains}
use Rattle.step_rules.specs.declared.step.Answer.{Answer}
use Rattle.step_rules.specs.declared.step.Step.{Step}
use Rattle.step_rules.specs.After.{Run}
use Rattle.cpu_part.specs.{KnownCpuLists, UnpinAnswers, steps_of_put}
use Rattle.step_watch.specs.Watched.{Watches}
use Rattle.step_watch.proofs.Watching.{watches_both, watches_none}
use Rattle.mem_machine.specs.Machines.{KnownMachine, with_past}
use Rattle.mem_system.proofs.Putting.{fewer_pins}
use Rattle.mem_system.specs.{CpuInRun, parts_of, pasts_of, ForEachCpu, KnownEmptiedBoot, MachineAndCpu, MakesLastVisits, machine_and_cpu, pins_of_all}
use Rattle.mem_system.specs.{KnownLocked, locked_state}
use Rattle.script_replay.specs.{OnlyWatched, SystemState, system_state}
use Rattle.script_replay.proofs.Gaining.{both_saw, met_gains, put_made, saw_both, watched_gains, watched_saw}
use Rattle.load_run.specs.Ending.{LeavesNothing, PutsAllPins, PutsEach, PutsHeldPin, put_steps, steps_of_all_puts, steps_of_puts}

-- ---- lists

-- the entry after these
at_seam : {X : Type 0} (xs : List X) (x : X) (ys : List X) → slice_get (xs ++ x ∷ ys) (length xs) ≡ Some x
at_seam [] x ys = refl
at_seam (z ∷ xs) x ys = at_seam xs x ys

-- and with another entry there
set_seam : {X : Type 0} (xs : List X) (x y : X) (ys : List X) → slice_set (xs ++ x ∷ ys) (length xs) y ≡ (xs ++ y ∷ []) ++ ys
set_seam [] x y ys = refl
set_seam {X = X} (z ∷ xs) x y ys = ap (λ (l : List X). z ∷ l) (set_seam xs x y ys)

-- ---- a put

-- a put between two meetings, which the watch took then
pub put_met : (t : KnownTable) (l l1 l2 m : KnownLocked) (c c1 c2 c3 : CpuInRun) (f : ℕ) (answer : Put) (made : Step × Answer)
    → (own_past c.past).number ≡ c.part.number → l1 ≡ record l { machine = with_past l.machine l1.machine.run.past } → c1.part ≡ c.part
    → Meets t l.machine.run.past c.past l1.machine.run.past c1.past → UnpinAnswers f answer c1.part c2.part
    → GrewByAll (own_past c1.past) (steps_of_put c1.part.number f answer) (own_past c2.past)
    → l2 ≡ record l1 { machine = with_past l1.machine l2.machine.run.past } → c3.part ≡ c2.part
    → Meets t l1.machine.run.past c2.past l2.machine.run.past c3.past → OnlyWatched (made ∷ []) l2 m
    → made ∷ [] ≡ put_steps c.part.number f answer → c3.last ≡ c.last → PutsHeldPin f (machine_and_cpu l.machine c) (machine_and_cpu m.machine c3)
put_met t l l1 l2 m c c1 c2 c3 f answer made in_run one same first unpins grew two still second only is last =
    let steps = put_steps c.part.number f answer in
    let took : OnlyWatched steps l2 m = subst (λ (r : Run). OnlyWatched r l2 m) is only in
    let saw = saw_both t [] steps l l2 m (both_saw t l l1 l2 c.past c1.past c2.past c3.past one first two second) (watched_saw t steps l2 m took) in
    let gains = met_gains t l l1 l2 c c1 c2 c3 (λ (k : ℕ). put_steps k f answer) in_run same first (put_made c1.part.number c1.past c2.past f answer grew) second in
    record {
      answer = answer;
      cpu = subst (λ (p : KnownCpuLists × KnownCpuLists). UnpinAnswers f answer p.0 p.1) (λ i. (same i, sym still i)) unpins;
      last = last;
      machine = ap (λ (x : KnownLocked). x.machine) saw.locked;
      watched = saw.watched;
      gains = watched_gains steps steps (locked_state l c) l2 m c3 gains took;
    }

-- ---- the puts of a CPU

-- the pins of these frames were put so far
pub record PutSoFar (before now : MachineAndCpu) : Type 0 where
  pub frames : List ℕ
  pub puts : PutsEach frames before now

pub put_start : (before : MachineAndCpu) → PutSoFar before before
put_start before = record { frames = []; puts = refl }

puts_more : (frames : List ℕ) (f : ℕ) (before mid after : MachineAndCpu) → PutsEach frames before mid → PutsHeldPin f mid after → PutsEach (frames ++ f ∷ []) before after
puts_more [] f before mid after puts one =
    record { between = after; first = subst (λ (x : MachineAndCpu). PutsHeldPin f x after) puts one; rest = refl }
puts_more (e ∷ frames) f before mid after puts one = record {
  between = puts.between;
  first = puts.first;
  rest = puts_more frames f puts.between mid after puts.rest one;
}

pub put_more : (f : ℕ) (before mid after : MachineAndCpu) → PutSoFar before mid → PutsHeldPin f mid after → PutSoFar before after
put_more f before mid after so_far one = record {
  frames = so_far.frames ++ f ∷ [];
  puts = puts_more so_far.frames f before mid after so_far.puts one;
}

-- a pin less
pub fewer_left : (f : ℕ) (before after : MachineAndCpu) → PutsHeldPin f before after → length after.cpu.part.pins < length before.cpu.part.pins
fewer_left f before after one = fewer_pins f one.answer before.cpu.part after.cpu.part one.cpu

pub lets_go : (before after : MachineAndCpu) → PutSoFar before after → after.cpu.part.pins ≡ [] → PutsAllPins before after
lets_go before after so_far none = record { frames = so_far.frames; puts = so_far.puts; none_left = none }

-- no pin is left then
pub none_pinned : (m : KnownMachine) (cpus : List CpuInRun) (n : KnownMachine) (left : List CpuInRun) → ForEachCpu PutsAllPins m cpus n left
    → pins_of_all (parts_of left) ≡ 0
none_pinned m [] n [] puts = refl
none_pinned m [] n (d ∷ left) puts = absurd puts
none_pinned m (c ∷ cpus) n [] puts = absurd puts
none_pinned m (c ∷ cpus) n (d ∷ left) puts =
    let none : length d.part.pins ≡ 0 = ap length puts.first.none_left in
    let rest = none_pinned puts.between cpus n left puts.rest in
    let parts = sum_by-append (λ (x : KnownCpuLists). length x.pins) (d.part ∷ []) (parts_of left) in
    omega (arith, parts, none, rest)

nothing_held : (l : List ℕ) → length l ≡ 0 → l ≡ []
nothing_held [] h = refl
nothing_held (x ∷ xs) h = absurd (omega (arith, h))

-- without a pin, none is put
pub none_put : (m : KnownMachine) (cpus : List CpuInRun) → pins_of_all (parts_of cpus) ≡ 0 → ForEachCpu PutsAllPins m cpus m cpus
none_put m [] none = refl
none_put m (c ∷ cpus) none =
    let parts = sum_by-append (λ (x : KnownCpuLists). length x.pins) (c.part ∷ []) (parts_of cpus) in
    record {
      between = m;
      first = record { frames = []; puts = refl; none_left = nothing_held c.part.pins (omega (arith, parts, none)) };
      rest = none_put m cpus (omega (arith, parts, none));
    }

-- ---- the watch

each_watched : (frames : List ℕ) (before after : MachineAndCpu) (puts : PutsEach frames before after)
    → Watches before.machine.run.watch (steps_of_puts frames before after puts) after.machine.run.watch
each_watched [] before after puts = subst (λ (x : MachineAndCpu). Watches before.machine.run.watch [] x.machine.run.watch) (sym puts) (watches_none before.machine.run.watch)
each_watched (f ∷ frames) before after puts =
    watches_both before.machine.run.watch (put_steps before.cpu.part.number f puts.first.answer) puts.between.machine.run.watch
    (steps_of_puts frames puts.between after puts.rest) after.machine.run.watch puts.first.watched (each_watched frames puts.between after puts.rest)

-- the watch takes the steps of all puts
pub puts_watched : (m : KnownMachine) (cpus : List CpuInRun) (n : KnownMachine) (left : List CpuInRun) (puts : ForEachCpu PutsAllPins m cpus n left)
    → Watches m.run.watch (steps_of_all_puts m cpus n left puts) n.run.watch
puts_watched m [] n [] puts = subst (λ (k : KnownMachine). Watches m.run.watch [] k.run.watch) (sym puts) (watches_none m.run.watch)
puts_watched m [] n (d ∷ left) puts = absurd puts
puts_watched m (c ∷ cpus) n [] puts = absurd puts
puts_watched m (c ∷ cpus) n (d ∷ left) puts =
    watches_both m.run.watch (steps_of_puts puts.first.frames (machine_and_cpu m c) (machine_and_cpu puts.between d) puts.first.puts) puts.between.run.watch
    (steps_of_all_puts puts.between cpus n left puts.rest) n.run.watch
    (each_watched puts.first.frames (machine_and_cpu m c) (machine_and_cpu puts.between d) puts.first.puts) (puts_watched puts.between cpus n left puts.rest)

-- ---- the run so far

each_gains : (frames : List ℕ) (before after : MachineAndCpu) (puts : PutsEach frames before after)
    → GainsSteps (own_past before.machine.run.past) (own_past before.cpu.past) (steps_of_puts frames before after puts)
    (own_past after.machine.run.past) (own_past after.cpu.past)
each_gains [] before after puts =
    subst (λ (x : MachineAndCpu). GainsSteps (own_past before.machine.run.past) (own_past before.cpu.past) [] (own_past x.machine.run.past) (own_past x.cpu.past))
    (sym puts) (none_gains (own_past before.machine.run.past) (own_past before.cpu.past) [] (own_past before.cpu.past) refl refl)
each_gains (f ∷ frames) before after puts =
    gains_both (own_past before.machine.run.past) (own_past before.cpu.past) (put_steps before.cpu.part.number f puts.first.answer)
    (own_past puts.between.machine.run.past) (own_past puts.between.cpu.past) (steps_of_puts frames puts.between after puts.rest)
    (own_past after.machine.run.past) (own_past after.cpu.past) puts.first.gains (each_gains frames puts.between after puts.rest)

-- The steps of all puts go on from the run so far. The CPUs before these have the pasts `done`.
pub puts_go_on : (done : List Past) (m : KnownMachine) (cpus : List CpuInRun) (n : KnownMachine) (left : List CpuInRun) (puts : ForEachCpu PutsAllPins m cpus n left)
    (earlier : Run) → IsRunSoFar earlier (own_past m.run.past) (done ++ pasts_of cpus)
    → IsRunSoFar (earlier ++ steps_of_all_puts m cpus n left puts) (own_past n.run.past) (done ++ pasts_of left)
puts_go_on done m [] n [] puts earlier so_far =
    subst (λ (x : Run × KnownMachine). IsRunSoFar x.0 (own_past x.1.run.past) (done ++ [])) (λ i. (sym (append-nil earlier) i, sym puts i)) so_far
puts_go_on done m [] n (d ∷ left) puts earlier so_far = absurd puts
puts_go_on done m (c ∷ cpus) n [] puts earlier so_far = absurd puts
puts_go_on done m (c ∷ cpus) n (d ∷ left) puts earlier so_far =
    let steps = steps_of_puts puts.first.frames (machine_and_cpu m c) (machine_and_cpu puts.between d) puts.first.puts in
    let more = steps_of_all_puts puts.between cpus n left puts.rest in
    let gains = each_gains puts.first.frames (machine_and_cpu m c) (machine_and_cpu puts.between d) puts.first.puts in
    let one = gains_go_on earlier steps (own_past m.run.past) (own_past puts.between.run.past) (done ++ own_past c.past ∷ pasts_of cpus) (length done)
    (own_past c.past) (own_past d.past) so_far (at_seam done (own_past c.past) (pasts_of cpus)) gains in
    let now = subst (IsRunSoFar (earlier ++ steps) (own_past puts.between.run.past)) (set_seam done (own_past c.past) (own_past d.past) (pasts_of cpus)) one in
    let rest = puts_go_on (done ++ own_past d.past ∷ []) puts.between cpus n left puts.rest (earlier ++ steps) now in
    subst (λ (x : Run × List Past). IsRunSoFar x.0 (own_past n.run.past) x.1)
    (λ i. (append_assoc earlier steps more i, append_assoc done (own_past d.past ∷ []) (pasts_of left) i)) rest

-- ---- nothing is left

pub leaves_nothing : (t : KnownTable) (before : SystemState) (held : ℕ) (emptied : KnownEmptiedBoot) (locked : KnownLocked)
    (cpus : List CpuInRun)
    → held ≡ pins_of_all (parts_of before.cpus) → ForEachCpu PutsAllPins before.locked.machine before.cpus locked.machine cpus → locked.sizes ≡ before.locked.sizes
    → (held ≡ 0 → system_state locked cpus ≡ before) → MakesLastVisits t locked cpus emptied → LeavesNothing t before held emptied
leaves_nothing t before held emptied locked cpus held_are puts sizes free visits =
    let putting = steps_of_all_puts before.locked.machine before.cpus locked.machine cpus puts in
    record {
      held_are = held_are;
      locked = locked;
      cpus = cpus;
      puts = puts;
      sizes = sizes;
      free = free;
      visits = visits;
      steps = putting ++ visits.steps;
      steps_are = refl;
      watched = watches_both before.locked.machine.run.watch putting locked.machine.run.watch visits.steps emptied.machine.run.watch
          (puts_watched before.locked.machine before.cpus locked.machine cpus puts) visits.watched;
      so_far = λ earlier so_far. subst (λ (r : Run). IsRunSoFar r (own_past emptied.machine.run.past) (pasts_of emptied.cpus))
          (append_assoc earlier putting visits.steps)
          (visits.so_far (earlier ++ putting) (puts_go_on [] before.locked.machine before.cpus locked.machine cpus puts earlier so_far));
    }

-- no pin was held
pub leaves_free : (t : KnownTable) (before : SystemState) (emptied : KnownEmptiedBoot)
    → MakesLastVisits t before.locked before.cpus emptied
    → LeavesNothing t before 0 emptied
leaves_free t before emptied visits =
    leaves_nothing t before 0 emptied before.locked before.cpus (sym visits.no_pin) (none_put before.locked.machine before.cpus visits.no_pin) refl
    (λ none. refl) visits
