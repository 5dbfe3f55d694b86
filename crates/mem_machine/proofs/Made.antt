-- Steps that were made, and where they lead. Serves the `steps` and `visit` clauses of all calls.
use Rattle.std.proofs.Common.{◌≡◌, ℕ, true, [], ◌∷◌, refl, ap, sym, ◌∙◌, subst}
use Rattle.std.specs.List.{fold}
use Rattle.std.proofs.lemmas.Bool.{false≢true}
use Rattle.step_rules.specs.declared.phase.Hold.{Hold}
use Rattle.step_rules.specs.declared.phase.Hold.TheVariants.{Unheld, HeldBy, Visiting}
use Rattle.step_rules.specs.declared.step.Step.{Step}
use Rattle.step_rules.specs.declared.step.Answer.{Answer}
use Rattle.step_rules.specs.State.{State}
use Rattle.step_rules.specs.{Zone, is_cpu, may_zone_act, visits, IsLocalStep, Run, IsLocalRun, holds_lock}
use Rattle.step_rules.proofs.Freeing.{zone_of_run}
use Rattle.step_rules.proofs.Keeping.{keepers_are_there}
use Rattle.boot_words.specs.{KnownPasts, IsHeld, cpu_past, local_by_pasts, zone_of_boot, HasSameLists, KnownTable}
use Rattle.cpu_part.specs.{KnownCpuLists, HasOwn}
use Rattle.mem_machine.specs.{counts_along, FollowsSteps, KnownRun, Records, after_made, KnownMachine, Holds, Makes, StaysVisited, Visits, lock_holder}
use Rattle.mem_machine.specs.{local_of}

-- who holds the lock may act for the zone
holder_acts : (p : ℕ) (hold : Hold) → holds_lock p hold ≡ true → may_zone_act hold 0 ≡ true
holder_acts p Unheld holds = absurd (false≢true holds)
holder_acts p (HeldBy q) holds = refl
holder_acts p (Visiting q) holds = refl

pub zone_acts : (t : KnownTable) (past : KnownPasts) → IsHeld t past → may_zone_act (local_by_pasts t past).hold 0 ≡ true
zone_acts t past is = holder_acts (cpu_past past).number (local_by_pasts t past).hold is.holds.shows.holds

-- the zone is the boot's
pub zone_seen : (t : KnownTable) (past : KnownPasts) → (local_by_pasts t past).zone ≡ zone_of_boot t
zone_seen t past = zone_of_run (zone_of_boot t) (cpu_past past).seen

-- the lock's holder is a CPU of the boot
pub holder_is_cpu : (t : KnownTable) (past : KnownPasts) → IsHeld t past → is_cpu (zone_of_boot t) (cpu_past past).number ≡ true
holder_is_cpu t past is =
    ap (λ (z : Zone). is_cpu z (cpu_past past).number) (sym (zone_seen t past))
    ∙ (keepers_are_there (zone_of_boot t) (cpu_past past).seen is.holds.shows.legal).holder (cpu_past past).number is.holds.shows.holds

-- what is said of the machine as it was seen before holds of the machine
pub held_here : (t : KnownTable) (m now : KnownMachine) → m ≡ now → IsHeld t now.run.past → IsHeld t m.run.past
held_here t m now same is = subst (λ (x : KnownMachine). IsHeld t x.run.past) (sym same) is

pub visits_here : (t : KnownTable) (m now : KnownMachine) → m ≡ now → (c : KnownCpuLists) → Visits t now c → Visits t m c
visits_here t m now same c visit = subst (λ (x : KnownMachine). Visits t x c) (sym same) visit

pub holds_here : (t : KnownTable) (m now : KnownMachine) → m ≡ now → (c : KnownCpuLists) → Holds t now c → Holds t m c
holds_here t m now same c holds = subst (λ (x : KnownMachine). Holds t x c) (sym same) holds

-- what was noted leads where the steps lead
pub makes : (t : KnownTable) (m n : KnownMachine) (steps : Run) → IsHeld t m.run.past → Records t m.run steps n.run
    → IsLocalRun (lock_holder m) (local_of t m) steps (fold after_made (local_of t m) steps)
    → FollowsSteps (local_of t m) m.ledger steps n.ledger → n.counts ≡ counts_along (local_of t m) steps m.counts → Makes t m steps n
makes t m n steps is noted leads follows counts = record {
  holder = noted.grew.holder is;
  leads = subst (IsLocalRun (lock_holder m) (local_of t m) steps) (sym (noted.grew.sees is)) leads;
  follows = follows;
  counts = counts;
  noted = noted;
}

-- the same of the CPU of this number, which holds the lock
pub makes_as : (t : KnownTable) (m n : KnownMachine) (p : ℕ) (steps : Run) → IsHeld t m.run.past → lock_holder m ≡ p → Records t m.run steps n.run
    → IsLocalRun p (local_of t m) steps (fold after_made (local_of t m) steps)
    → FollowsSteps (local_of t m) m.ledger steps n.ledger → n.counts ≡ counts_along (local_of t m) steps m.counts → Makes t m steps n
makes_as t m n p steps is who noted leads follows counts =
    makes t m n steps is noted (subst (λ (k : ℕ). IsLocalRun k (local_of t m) steps (fold after_made (local_of t m) steps)) (sym who) leads) follows counts

-- one step leads to the state after it
pub one_leads : (p : ℕ) (s : State) (e : Step × Answer) → IsLocalStep s p e.0.seat e.0.action e.1 → IsLocalRun p s (e ∷ []) (fold after_made s (e ∷ []))
one_leads p s e step = (step, refl)

pub own_same : (s u : State) (c : KnownCpuLists) → HasSameLists c.number s u → HasOwn s c → HasOwn u c
own_same s u c same own = record {
  list = same.list ∙ own.list;
  fresh = same.fresh ∙ own.fresh;
  back = same.back ∙ own.back;
  references = λ f. ap (λ (r : ℕ → ℕ). r f) same.references ∙ own.references f;
}

-- steps that leave the lock and all lists leave each visit open
pub stays_visited : (t : KnownTable) (m n : KnownMachine) (steps : Run) → Records t m.run steps n.run → (fold after_made (local_of t m) steps).hold ≡ (local_of t m).hold
    → ((p : ℕ) → HasSameLists p (local_of t m) (fold after_made (local_of t m) steps)) → StaysVisited t m n
stays_visited t m n steps noted hold same c visit =
    let later = sym (noted.grew.sees visit.held) in
    record {
      held = noted.grew.held visit.held;
      who = noted.grew.holder visit.held ∙ visit.who;
      is_open = subst (λ (s : State). visits c.number s.hold ≡ true) later (ap (visits c.number) hold ∙ visit.is_open);
      own = subst (λ (s : State). HasOwn s c) later (own_same (local_of t m) (fold after_made (local_of t m) steps) c (same c.number) visit.own);
    }

-- a machine with the same run is visited as before
pub visit_same : (t : KnownTable) (m n : KnownMachine) (c : KnownCpuLists) → n.run ≡ m.run → Visits t m c → Visits t n c
visit_same t m n c same visit = record {
  held = subst (λ (r : KnownRun). IsHeld t r.past) (sym same) visit.held;
  who = ap (λ (r : KnownRun). (cpu_past r.past).number) same ∙ visit.who;
  is_open = ap (λ (r : KnownRun). visits c.number (local_by_pasts t r.past).hold) same ∙ visit.is_open;
  own = subst (λ (r : KnownRun). HasOwn (local_by_pasts t r.past) c) (sym same) visit.own;
}
