-- How the pasts of the zone and of a CPU go through visits. Serves `serve_outcome` and the visits at the end of a system.
use Rattle.std.proofs.Common.{◌≡◌, ℕ, List, [], ◌∷◌, ◌++◌, Some, length, refl, sym, ap, ◌∙◌, subst, inr, append_assoc}
use Rattle.std.specs.Prelude.{◌⊎◌, slice_get, slice_set}
use Rattle.step_rules.specs.declared.step.Step.{Step}
use Rattle.step_rules.specs.declared.step.Answer.{Answer}
use Rattle.step_rules.specs.declared.step.Action.TheVariants.{Lock, Unlock}
use Rattle.step_rules.specs.declared.step.Answer.TheVariants.{Done}
use Rattle.step_rules.specs.State.{State}
use Rattle.step_rules.specs.After.{Run, after, cpu_makes}
use Rattle.boot_words.specs.declared.past.Past.{Past}
use Rattle.boot_words.specs.{GrewBy, AllOf, KnownPasts, Unlocks, cpu_past, own_past, GainsSteps, IsRunSoFar, KnownTable}
use Rattle.boot_words.specs.Pasts.{Locks}
use Rattle.boot_words.proofs.Grown.{all_grew_both}
use Rattle.boot_words.proofs.Holding.{append_none}
use Rattle.boot_words.proofs.Gaining.{gains_go_on, of_two_seats, visit_gains}
use Rattle.mem_machine.specs.{KnownMachine, with_run, PastsGrowBy, VisitState, local_of}
use Rattle.mem_machine.specs.Local.{IsLocalRun}
use Rattle.mem_system.specs.Commands.{Transition}
use Rattle.mem_system.specs.{CpuInRun, VisitsInRun, between_locks, pasts_of, ForEachCpu, VisitsUnderLock, machine_and_cpu, steps_of_visits}

-- A visit in the run: the CPU takes the lock, the pasts grow by these steps, and the CPU releases the lock.
pub visit_in_run : (t : KnownTable) (p : ℕ) (steps : Run) (zone past held held' zone' past' : KnownPasts) → (own_past past).number ≡ p
    → Locks t zone past held → PastsGrowBy t held steps held' → Unlocks t held' zone' past' → VisitsInRun p steps zone past zone' past'
visit_in_run t p steps zone past held held' zone' past' number locks grew unlocks =
    let named : (cpu_past held').number ≡ p = grew.holder locks.held ∙ locks.cpu_grew.number ∙ number in record {
      number = number;
      zone_grew = (
        own_past held,
        subst (λ (q : ℕ). GrewBy (own_past zone) (record { seat = q; action = Lock }) Done (own_past held)) number locks.zone_grew,
        all_grew_both (own_past held) steps (own_past held') (cpu_makes p Unlock Done ∷ []) (own_past zone') (grew.zone_grew locks.held)
            (own_past zone', subst (λ (q : ℕ). GrewBy (own_past held') (record { seat = q; action = Unlock }) Done (own_past zone')) named unlocks.zone_grew, refl),
      );
      cpu_grew = (
        cpu_past held,
        subst (λ (q : ℕ). GrewBy (own_past past) (record { seat = q; action = Lock }) Done (cpu_past held)) number locks.cpu_grew,
        all_grew_both (cpu_past held) steps (cpu_past held') (cpu_makes p Unlock Done ∷ []) (own_past past') (grew.cpu_grew locks.held)
            (own_past past', subst (λ (q : ℕ). GrewBy (cpu_past held') (record { seat = q; action = Unlock }) Done (own_past past')) named unlocks.cpu_grew, refl),
      );
      same = unlocks.same;
    }

-- ---- the run so far goes on by visits

-- the step is of the zone's seat or of this CPU's
abbrev pub IsOfTwo : ℕ → Step × Answer → Type 0
IsOfTwo p made = (made.0.seat ≡ 0) ⊎ (made.0.seat ≡ p)

-- so are the steps of a visit, with its Lock and its Unlock
locked_of_two : (p : ℕ) (a : State) (steps : Run) (b : State) → IsLocalRun p a steps b → AllOf (IsOfTwo p) (steps ++ cpu_makes p Unlock Done ∷ [])
locked_of_two p a [] b same = (inr refl, tt)
locked_of_two p a (e ∷ steps) b leads = (leads.0.own, locked_of_two p (after a e.0.seat e.0.action e.1) steps b leads.1)

-- a visit under the lock gains its steps
visit_under_lock_gains : (t : KnownTable) (Does : Transition VisitState → Type 0) (m : KnownMachine) (c : CpuInRun) (n : KnownMachine) (d : CpuInRun)
    (v : VisitsUnderLock t Does (machine_and_cpu m c) (machine_and_cpu n d)) → (own_past m.run.past).number ≡ 0
    → GainsSteps (own_past m.run.past) (own_past c.past) (between_locks c.part.number v.visit.steps) (own_past n.run.past) (own_past d.past)
visit_under_lock_gains t Does m c n d v zone =
    let p = c.part.number in
    let steps = v.visit.steps in
    let a = local_of t (with_run m v.found) in
    let b = local_of t v.left in
    let leads : IsLocalRun p a steps b = subst (λ (q : ℕ). IsLocalRun q a steps b) v.holder v.visit.makes.leads in
    visit_gains (own_past m.run.past) (own_past c.past) (between_locks p steps) (own_past n.run.past) (own_past d.past) v.run.zone_grew v.run.cpu_grew zone
    (λ other some ne. of_two_seats p (between_locks p steps) (inr refl, locked_of_two p a steps b leads) other some (λ is. ne (is ∙ sym v.run.number)))

-- the first past after others, and what stands there when it is another
at_front : (before : List Past) (p : Past) (rest : List Past) → slice_get (before ++ p ∷ rest) (length before) ≡ Some p
at_front [] p rest = refl
at_front (x ∷ before) p rest = at_front before p rest

set_front : (before : List Past) (p q : Past) (rest : List Past) → slice_set (before ++ p ∷ rest) (length before) q ≡ (before ++ q ∷ []) ++ rest
set_front [] p q rest = refl
set_front (x ∷ before) p q rest = ap (λ (l : List Past). x ∷ l) (set_front before p q rest)

-- The run so far goes on by the visits of some CPUs. The pasts `before` are those of the CPUs in front of them.
pub visits_go_on : (t : KnownTable) (Does : Transition VisitState → Type 0) (m : KnownMachine) (cpus : List CpuInRun) (n : KnownMachine) (left : List CpuInRun)
    (visits : ForEachCpu (VisitsUnderLock t Does) m cpus n left) (before : List Past) (earlier : Run) → (own_past m.run.past).number ≡ 0
    → IsRunSoFar earlier (own_past m.run.past) (before ++ pasts_of cpus)
    → ((own_past n.run.past).number ≡ 0)
    × IsRunSoFar (earlier ++ steps_of_visits t Does m cpus n left visits) (own_past n.run.past) (before ++ pasts_of left)
visits_go_on t Does m [] n [] visits before earlier zone so_far = (
  ap (λ (k : KnownMachine). (own_past k.run.past).number) visits ∙ zone,
  subst (λ (r : Run). IsRunSoFar r (own_past n.run.past) (before ++ [])) (sym (append_none earlier))
      (subst (λ (k : KnownMachine). IsRunSoFar earlier (own_past k.run.past) (before ++ [])) (sym visits) so_far),
)
visits_go_on t Does m [] n (d ∷ left) visits before earlier zone so_far = absurd visits
visits_go_on t Does m (c ∷ cpus) n [] visits before earlier zone so_far = absurd visits
visits_go_on t Does m (c ∷ cpus) n (d ∷ left) visits before earlier zone so_far =
    let x = visits.between in
    let here = between_locks c.part.number visits.first.visit.steps in
    let more = steps_of_visits t Does x cpus n left visits.rest in
    let gains = visit_under_lock_gains t Does m c x d visits.first zone in
    let next : IsRunSoFar (earlier ++ here) (own_past x.run.past) ((before ++ own_past d.past ∷ []) ++ pasts_of cpus) =
    subst (IsRunSoFar (earlier ++ here) (own_past x.run.past)) (set_front before (own_past c.past) (own_past d.past) (pasts_of cpus))
    (gains_go_on earlier here (own_past m.run.past) (own_past x.run.past) (before ++ pasts_of (c ∷ cpus)) (length before) (own_past c.past) (own_past d.past) so_far
    (at_front before (own_past c.past) (pasts_of cpus)) gains) in
    let rest = visits_go_on t Does x cpus n left visits.rest (before ++ own_past d.past ∷ []) (earlier ++ here) (gains.zone_number ∙ zone) next in (
      rest.0,
      subst (λ (z : Run × List Past). IsRunSoFar z.0 (own_past n.run.past) z.1)
          (λ i. (append_assoc earlier here more i, append_assoc before (own_past d.past ∷ []) (pasts_of left) i)) rest.1,
    )
