-- Visits under the lock, and the steps that the watch takes of them. Serves the visits at the end of a system.
use Rattle.std.proofs.Common.{◌≡◌, ℕ, List, [], ◌∷◌, ◌++◌, sym, ap, ◌∙◌, subst}
use Rattle.step_rules.specs.After.{cpu_makes}
use Rattle.boot_words.specs.Tables.{KnownTable}
use Rattle.cpu_part.specs.Cpus.{KnownCpuLists}
use Rattle.boot_words.specs.Cpus.{KnownCpuSeat}
use Rattle.boot_words.specs.Pasts.{IsHeld, KnownPasts, Locks, Unlocks, own_past}
use Rattle.step_rules.specs.State.{State}
use Rattle.step_rules.specs.declared.step.Action.TheVariants.{Lock, Unlock}
use Rattle.step_rules.specs.declared.step.Answer.TheVariants.{Done}
use Rattle.step_watch.specs.Watched.{KnownWatch, Watches}
use Rattle.step_watch.proofs.Watching.{watches_none, watches_both}
use Rattle.mem_machine.specs.{KnownMachine, left_by, part_at, with_past, with_run, with_watch, KnownRun, frame_state_at, Holds, VisitState}
use Rattle.mem_machine.specs.{VisitMakes, visit_state, HasDrained}
use Rattle.mem_machine.proofs.Sight.{left_seen}
use Rattle.mem_system.specs.Commands.{Transition, BySteps}
use Rattle.mem_system.specs.Cpus.{CpuInRun, between_locks, cpu_in_run}
use Rattle.mem_system.specs.Ends.{ForEachCpu, IsEmptied, LendsAndFillsNone, VisitsUnderLock, machine_and_cpu, steps_of_visits}
use Rattle.mem_system.proofs.Running.{visit_in_run}

-- what stays the same but for the run, twice
pub run_twice : (m x n : KnownMachine) (r v : KnownRun) → x ≡ with_run m r → n ≡ with_run x v → n ≡ with_run m n.run
run_twice m x n r v first second =
    let is : n ≡ with_run m v = second ∙ ap (λ (k : KnownMachine). with_run k v) first in
    is ∙ ap (with_run m) (sym (ap (λ (k : KnownMachine). k.run) is))

-- a visit between the lock and its release, which the watch takes too
pub locked_visit : (t : KnownTable) (Does : Transition VisitState → Type 0) (m m0 m1 n1 n2 n : KnownMachine) (c d : KnownCpuLists) (p : ℕ) → p ≡ c.number
    → m0 ≡ with_past m m0.run.past → m1 ≡ with_watch m0 m1.run.watch → Watches m0.run.watch (cpu_makes p Lock Done ∷ []) m1.run.watch
    → Holds t m1 c → BySteps VisitMakes t Does (visit_state m1 c) (visit_state n1 d)
    → n2 ≡ with_watch n1 n2.run.watch → Watches n1.run.watch (cpu_makes p Unlock Done ∷ []) n2.run.watch → n ≡ with_past n2 n.run.past
    → (seat seat' : KnownCpuSeat) → (own_past seat.past).number ≡ c.number → Locks t m.run.past seat.past m0.run.past → Unlocks t n2.run.past n.run.past seat'.past
    → VisitsUnderLock t Does (machine_and_cpu m (cpu_in_run c seat)) (machine_and_cpu n (cpu_in_run d seat'))
locked_visit t Does m m0 m1 n1 n2 n c d p named locks found lock holds visit left unlock frees seat seat' its takes gives =
    let seen : BySteps VisitMakes t Does (visit_state (with_run m m1.run) c) (visit_state n1 d) =
    subst (λ (k : KnownMachine). BySteps VisitMakes t Does (visit_state k c) (visit_state n1 d)) (run_twice m m0 m1 _ _ locks found) visit in record {
      found = m1.run;
      left = n1;
      holder = holds.who;
      lock = subst (λ (z : ℕ × KnownWatch). Watches z.1 (cpu_makes z.0 Lock Done ∷ []) m1.run.watch) (λ i. (named i, ap (λ (k : KnownMachine). k.run.watch) locks i)) lock;
      visit = seen;
      unlock = subst (λ (z : ℕ × KnownWatch). Watches n1.run.watch (cpu_makes z.0 Unlock Done ∷ []) z.1) (λ i. (named i, ap (λ (k : KnownMachine). k.run.watch) (sym frees) i)) unlock;
      machine = run_twice n1 n2 n _ _ left frees;
      run = visit_in_run t c.number seen.steps m.run.past seat.past m1.run.past n1.run.past n.run.past seat'.past its
          (subst (Locks t m.run.past seat.past) (sym (ap (λ (k : KnownMachine). k.run.past) found)) takes) seen.makes.noted.grew
          (subst (λ (x : KnownPasts). Unlocks t x n.run.past seat'.past) (ap (λ (k : KnownMachine). k.run.past) left) gives);
    }

-- what the CPU sees, after a step that the watch takes
pub holds_seen : (t : KnownTable) (m n : KnownMachine) (c : KnownCpuLists) → n ≡ with_watch m n.run.watch → Holds t m c → Holds t n c
holds_seen t m n c is holds = subst (λ (k : KnownMachine). Holds t k c) (sym is) (record { held = holds.held; who = holds.who; own = holds.own })

-- the CPU that holds the lock stays the same
pub same_holder : (t : KnownTable) (Does : Transition VisitState → Type 0) (m n : KnownMachine) (c d : KnownCpuLists) → BySteps VisitMakes t Does (visit_state m c) (visit_state n d)
    → Holds t m c → Holds t n d → d.number ≡ c.number
same_holder t Does m n c d visit first last = sym last.who ∙ visit.makes.holder ∙ first.who

-- ---- the parts of the run, after a lock and its release

pub part_locked : (t : KnownTable) (zone cpu held : KnownPasts) → Locks t zone cpu held → (q : ℕ) → (left_by t held).parts q ≡ (left_by t zone).parts q
part_locked t zone cpu held locks q = ap (λ (s : State). s.parts q) locks.found

part_unlocked : (t : KnownTable) (held zone cpu : KnownPasts) → IsHeld t held → Unlocks t held zone cpu → (q : ℕ) → (left_by t zone).parts q ≡ (left_by t held).parts q
part_unlocked t held zone cpu is unlocks q = ap (λ (s : State). s.parts q) unlocks.left ∙ sym (ap (λ (s : State). s.parts q) (left_seen t held is))

-- the machine of a CPU's visit, when the CPU has released the lock
pub part_given : (t : KnownTable) (n1 n2 n : KnownMachine) (d : KnownCpuLists) (past : KnownPasts) → n2 ≡ with_watch n1 n2.run.watch → Holds t n1 d
    → Unlocks t n2.run.past n.run.past past → (q : ℕ) → part_at t n q ≡ part_at t n1 q
part_given t n1 n2 n d past left holds gives q =
    part_unlocked t n1.run.past n.run.past past holds.held (subst (λ (x : KnownPasts). Unlocks t x n.run.past past) (ap (λ (k : KnownMachine). k.run.past) left) gives) q

pub part_taken : (t : KnownTable) (m m0 m1 : KnownMachine) (past : KnownPasts) → m1 ≡ with_watch m0 m1.run.watch → Locks t m.run.past past m0.run.past
    → (q : ℕ) → part_at t m1 q ≡ part_at t m q
part_taken t m m0 m1 past found takes q =
    part_locked t m.run.past past m1.run.past (subst (Locks t m.run.past past) (sym (ap (λ (k : KnownMachine). k.run.past) found)) takes) q

pub emptied_seen : (t : KnownTable) (m n : KnownMachine) (r : KnownRun) (c : KnownCpuLists) → n ≡ with_run m r → ((q : ℕ) → part_at t n q ≡ part_at t m q)
    → IsEmptied t m c → IsEmptied t n c
emptied_seen t m n r c is parts emptied = record {
  idle = emptied.idle;
  none_lent = λ f lent. emptied.none_lent f (sym (ap (λ (k : KnownMachine). frame_state_at k.frame_states f) is) ∙ lent);
  drained = subst HasDrained (sym (parts c.number)) emptied.drained;
}

pub alone_seen : (t : KnownTable) (m m1 n1 n : KnownMachine) (v r : KnownRun) → m1 ≡ with_run m v → n ≡ with_run n1 r
    → ((q : ℕ) → part_at t m1 q ≡ part_at t m q) → ((q : ℕ) → part_at t n q ≡ part_at t n1 q) → LendsAndFillsNone t m1 n1 → LendsAndFillsNone t m n
alone_seen t m m1 n1 n v r first last taken given alone = record {
  none_lent = λ p none f is.
      alone.none_lent p (λ g there. none g (sym (ap (λ (k : KnownMachine). frame_state_at k.frame_states g) first) ∙ there)) f
      (sym (ap (λ (k : KnownMachine). frame_state_at k.frame_states f) last) ∙ is);
  drained = λ q was. subst HasDrained (sym (given q)) (alone.drained q (subst HasDrained (sym (taken q)) was));
}

-- ---- the steps that the watch takes

visit_watched : (t : KnownTable) (Does : Transition VisitState → Type 0) (m : KnownMachine) (c : CpuInRun) (n : KnownMachine) (d : CpuInRun)
    (v : VisitsUnderLock t Does (machine_and_cpu m c) (machine_and_cpu n d)) → Watches m.run.watch (between_locks c.part.number v.visit.steps) n.run.watch
visit_watched t Does m c n d v =
    watches_both m.run.watch (cpu_makes c.part.number Lock Done ∷ []) v.found.watch (v.visit.steps ++ cpu_makes c.part.number Unlock Done ∷ []) n.run.watch v.lock
    (watches_both v.found.watch v.visit.steps v.left.run.watch (cpu_makes c.part.number Unlock Done ∷ []) n.run.watch v.visit.makes.noted.watched v.unlock)

-- the watch takes the steps of all visits
pub visits_watched : (t : KnownTable) (Does : Transition VisitState → Type 0) (m : KnownMachine) (cpus : List CpuInRun) (n : KnownMachine) (left : List CpuInRun)
    (visits : ForEachCpu (VisitsUnderLock t Does) m cpus n left) → Watches m.run.watch (steps_of_visits t Does m cpus n left visits) n.run.watch
visits_watched t Does m [] n [] visits = subst (λ (k : KnownMachine). Watches m.run.watch [] k.run.watch) (sym visits) (watches_none m.run.watch)
visits_watched t Does m [] n (d ∷ left) visits = absurd visits
visits_watched t Does m (c ∷ cpus) n [] visits = absurd visits
visits_watched t Does m (c ∷ cpus) n (d ∷ left) visits =
    watches_both m.run.watch (between_locks c.part.number visits.first.visit.steps) visits.between.run.watch
    (steps_of_visits t Does visits.between cpus n left visits.rest) n.run.watch
    (visit_watched t Does m c visits.between d visits.first) (visits_watched t Does visits.between cpus n left visits.rest)
