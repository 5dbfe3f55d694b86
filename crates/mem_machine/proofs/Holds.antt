-- A visit is opened and shut. Serves `open` and `shut`.
use Rattle.std.proofs.Common.{◌≡◌, ℕ, ◌+◌, true, [], ◌∷◌, refl, sym, ap, ◌∙◌, subst, arith, eq-eqb}
use Rattle.std.proofs.lemmas.Bool.{and_from}
use Rattle.step_rules.specs.declared.phase.Hold.{Hold}
use Rattle.step_rules.specs.declared.step.Step.{Step}
use Rattle.step_rules.specs.declared.step.Action.TheVariants.{OpenVisit, ShutVisit}
use Rattle.step_rules.specs.declared.step.Answer.{Answer}
use Rattle.step_rules.specs.declared.step.Answer.TheVariants.{Done}
use Rattle.step_rules.specs.{IsLocalStep, is_held_by, visits}
use Rattle.step_rules.specs.State.{State}
use Rattle.boot_words.specs.Hidden.{hide}
use Rattle.boot_words.specs.Tables.{KnownTable}
use Rattle.cpu_part.specs.{KnownCpuLists, HasOwn}
use Rattle.mem_machine.specs.{counts_along, IsSoundMachine, machine_of, Holds, IsShut, Makes, Visits, lock_holder, local_of, KnownMachine, IsShownBy}
use Rattle.mem_machine.specs.{with_run, KnownRun, Records, after_made}
use Rattle.mem_machine.specs.declared.machine.Machine.TheInside.{Inside}
use Rattle.mem_machine.proofs.Followed.{are_still, follows_same}
use Rattle.mem_machine.proofs.Hiding.{nothing_passes_here}
use Rattle.mem_machine.proofs.Locks.{shown_held}
use Rattle.mem_machine.proofs.Made.{makes, one_leads, zone_acts}
use Rattle.mem_machine.proofs.Reaching.{zone_step}
use Rattle.mem_machine.proofs.Sight.{left_then, shown_seen}
use Rattle.mem_machine.proofs.Staying.{HaveSameBooks, owners_stay, sums_stay}

-- ---- a step that changes who holds the lock, and nothing else

module _ {N : Type 0} (t : KnownTable) (fields : Inside N) (ok : IsSoundMachine t fields) (c : KnownCpuLists) (holds : Holds t (machine_of fields) c)
    (e : Step × Answer) (hold : Hold) (only : after_made (local_of t (machine_of fields)) e ≡ record (local_of t (machine_of fields)) { hold = hold })
    (run : KnownRun) (noted : Records t (machine_of fields).run (e ∷ []) run) where
  abbrev m : KnownMachine
  m = machine_of {N = N} fields

  pub sound_held : IsSoundMachine {N = N} t (record fields { past = run.past; watch = run.watch })
  sound_held =
      let was = ok.consistent in
      let same : HaveSameBooks (local_of t (machine_of {N = N} fields)).parts (after_made (local_of t (machine_of {N = N} fields)) e).parts = record { book = λ k. ap (λ (x : State). (x.parts k).book) only; group = λ k. ap (λ (x : State). (x.parts k).stock.group) only } in
      record {
        consistent = record {
          choice = was.choice;
          sizes = record { frame_states = was.sizes.frame_states; links = was.sizes.links; lists = was.sizes.lists; killed = was.sizes.killed };
          areas = was.areas;
          frame_states = was.frame_states;
          units = was.units;
          lists = was.lists;
          balances = was.balances;
          shown = subst (IsShownBy t (with_run (machine_of {N = N} fields) run)) (sym (left_then t (machine_of {N = N} fields) (e ∷ []) run holds.held noted ∙ ap hide only))
              (shown_held t (machine_of {N = N} fields) (with_run (machine_of {N = N} fields) run) (hide (local_of t (machine_of {N = N} fields))) hold refl (shown_seen t (machine_of {N = N} fields) was holds.held));
        };
        free = ok.free;
        clean = ok.clean;
        sums = sums_stay t (machine_of {N = N} fields) holds.held (e ∷ []) run noted same fields.sums.items ok.sums;
        owners = owners_stay t (machine_of {N = N} fields) holds.held (e ∷ []) run noted same fields.owners ok.owners;
      }

  -- what is seen then
  sees_then : local_of t (with_run (machine_of {N = N} fields) run) ≡ record (local_of t (machine_of {N = N} fields)) { hold = hold }
  sees_then = noted.grew.sees holds.held ∙ only

  pub hold_then : (local_of t (with_run (machine_of {N = N} fields) run)).hold ≡ hold
  hold_then = ap (λ (s : State). s.hold) sees_then

  pub holds_then : Holds t (with_run (machine_of {N = N} fields) run) c
  holds_then = record {
    held = noted.grew.held holds.held;
    who = noted.grew.holder holds.held ∙ holds.who;
    own = subst (λ (s : State). HasOwn s c) (sym sees_then) (record { list = holds.own.list; fresh = holds.own.fresh; back = holds.own.back; references = holds.own.references });
  }

  pub makes_then : IsLocalStep (local_of t (machine_of fields)) (lock_holder (machine_of fields)) e.0.seat e.0.action e.1 → are_still (e ∷ []) ≡ true
      → (machine_of {N = N} fields).counts ≡ counts_along (local_of t (machine_of fields)) (e ∷ []) (machine_of {N = N} fields).counts
      → Makes t (machine_of fields) (e ∷ []) (with_run (machine_of {N = N} fields) run)
  makes_then step still counts =
      makes t (machine_of {N = N} fields) (with_run (machine_of {N = N} fields) run) (e ∷ []) holds.held noted (one_leads (lock_holder (machine_of {N = N} fields)) (local_of t (machine_of {N = N} fields)) e step)
      (follows_same (local_of t (machine_of {N = N} fields)) fields.charges (e ∷ []) still) counts

-- ---- the two steps

module _ {N : Type 0} (t : KnownTable) (fields : Inside N) (ok : IsSoundMachine t fields) (c : KnownCpuLists) (holds : Holds t (machine_of fields) c) where
  pub may_open : IsShut t (machine_of fields) c.number → IsLocalStep (local_of t (machine_of fields)) (lock_holder (machine_of fields)) 0 (OpenVisit c.number) Done
  may_open shut = zone_step (local_of t (machine_of {N = N} fields)) (lock_holder (machine_of {N = N} fields)) (OpenVisit c.number) Done refl
      (and_from _ _ (zone_acts t fields.past holds.held) (ap (is_held_by c.number) shut ∙ eq-eqb c.number c.number refl)) tt

  none_told : (a b : ℕ) → a + b ≡ 0 → (a ≡ 0) × (b ≡ 0)
  none_told a b none = (omega (arith, none), omega (arith, none))

  pub may_shut : visits c.number (local_of t (machine_of fields)).hold ≡ true → IsLocalStep (local_of t (machine_of fields)) (lock_holder (machine_of fields)) 0 (ShutVisit c.number) Done
  may_shut is_open =
      let s = local_of t (machine_of {N = N} fields) in
      let shown = shown_seen t (machine_of {N = N} fields) ok.consistent holds.held in
      let none = none_told (s.parts c.number).unreported (s.parts c.number).reported (shown.absorbed c.number) in
      zone_step s (lock_holder (machine_of {N = N} fields)) (ShutVisit c.number) Done refl
      (and_from _ _ (and_from _ _ (and_from _ _ (and_from _ _ (zone_acts t fields.past holds.held) is_open) (nothing_passes_here t (machine_of {N = N} fields) s shown c.number))
      (eq-eqb _ 0 none.0)) (eq-eqb _ 0 none.1)) tt

-- a visited CPU holds the lock
pub visit_holds : (t : KnownTable) (m : KnownMachine) (c : KnownCpuLists) → Visits t m c → Holds t m c
visit_holds t m c visit = record { held = visit.held; who = visit.who; own = visit.own }
