-- Steps of reclaim, put together; and those of one try. Serves the clauses on steps of all calls.
use Rattle.std.proofs.Common.{◌≡◌, ℕ, ◌+◌, ◌^◌, ◌==◌, ◌||◌, Bool, false, Option, Some, None, [], ◌∷◌, ◌++◌, refl, sym, ap, ◌∙◌, subst, arith, cond}
use Rattle.std.specs.Prelude.{unwrap_or}
use Rattle.std.proofs.lemmas.List.Folds.{list_any-append}
use Rattle.step_rules.specs.declared.phase.ChargedUnit.{ChargedUnit}
use Rattle.step_rules.specs.declared.phase.Stage.{Stage}
use Rattle.step_rules.specs.declared.phase.Stage.TheVariants.{FreshAt, FreshPassing, Collected, Bare, Live, BackAt, BackPassing, AwaitsReturn}
use Rattle.step_rules.specs.declared.phase.Phase.{Phase}
use Rattle.step_rules.specs.declared.phase.Phase.TheVariants as phase
use Rattle.step_rules.specs.declared.step.Step.{Step}
use Rattle.step_rules.specs.declared.step.Action.TheVariants.{Freeze}
use Rattle.step_rules.specs.declared.step.Answer.{Answer}
use Rattle.step_rules.specs.declared.step.Answer.TheVariants.{Done, Missed}
use Rattle.step_rules.specs.{at_stage, unit_of, Run, after, unit_size, zone_makes}
use Rattle.step_rules.specs.State.{State}
use Rattle.group_charge.specs.{KnownNotes}
use Rattle.step_rules.proofs.Basics.{at_same}
use Rattle.mem_machine.specs.declared.frame_state.FrameState.TheVariants.{Head}
use Rattle.boot_words.specs.{hide_phase, hide_stage, IsHeld, own_past, KnownTable}
use Rattle.mem_machine.specs.{frame_state_at, phase_hidden, KnownRun, KnownMachine, IsConsistent, Makes, lock_holder, local_of, Evicts, evict_steps}
use Rattle.mem_machine.proofs.Sight.{shown_seen}
use Rattle.mem_reclaim.proofs.Grown.{misses_after, missed_append}
use Rattle.mem_machine.specs.Local.{IsLocalRun}
use Rattle.mem_machine.specs.declared.counts.Counts.{Counts}
use Rattle.mem_reclaim.specs.{FreesPages, Rises, all_missed_in, pages_freed_by, pages_returned, returned_in, missed_in, is_kill, has_kill}
use Rattle.mem_reclaim.proofs.Rising.{missed_both, returned_both, rises_both, rises_none, rises_one}
use Rattle.mem_machine.proofs.Followed.{makes_both, makes_none}

-- ---- one list of steps after another

pub pages_both : (p : ℕ) (one two : Run) (a b : State) → IsLocalRun p a one b → pages_returned a (one ++ two) ≡ pages_returned a one + pages_returned b two
pages_both p [] two a b run = ap (λ (s : State). pages_returned s two) run ∙ none (pages_returned b two)
  where
    none : (n : ℕ) → n ≡ 0 + n
    none n = omega arith
pages_both p (e ∷ rest) two a b run =
    let later = pages_both p rest two (after a e.0.seat e.0.action e.1) b run.1 in
    let x : ℕ = pages_freed_by a e.0.action e.1 in
    let y : ℕ = pages_returned (after a e.0.seat e.0.action e.1) rest in
    let z : ℕ = pages_returned b two in
    ap (λ (n : ℕ). x + n) later ∙ (let e : x + (y + z) ≡ x + y + z = omega arith in e)

both_false : (a b : Bool) → a ≡ false → b ≡ false → (a || b) ≡ false
both_false a b x y = rw x y

pub moves_none : (t : KnownTable) (m n : KnownMachine) → Makes t m [] n → n.run ≡ m.run → n.counts ≡ m.counts → FreesPages t m 0 [] n
moves_none t m n runs same counts = record {
  runs = runs;
  pages = refl;
  no_kill = refl;
  misses = λ f. let e = ap (λ (r : KnownRun). missed_in f (own_past r.past).seen) same in omega (arith, e);
  returned = rises_none m.counts.freezes n.counts.freezes (ap (λ (k : Counts). k.freezes) counts);
  missed = rises_none m.counts.misses n.counts.misses (ap (λ (k : Counts). k.misses) counts);
}

pub moves_rest : (t : KnownTable) (m : KnownMachine) → FreesPages t m 0 [] m
moves_rest t m = moves_none t m m (makes_none t m) refl refl

pub moves_both : (t : KnownTable) (a b c : KnownMachine) (some more : ℕ) (one two : Run) → FreesPages t a some one b → FreesPages t b more two c
    → FreesPages t a (some + more) (one ++ two) c
moves_both t a b c some more one two first second = record {
  runs = makes_both t one two a b c first.runs second.runs;
  pages =
      let x = pages_both (lock_holder a) one two (local_of t a) (local_of t b) first.runs.leads in
      let y = first.pages in let z = second.pages in
      omega (arith, x, y, z);
  no_kill = list_any-append (λ (e : Step × Answer). is_kill e.0.action) one two ∙ both_false (has_kill one) (has_kill two) first.no_kill second.no_kill;
  misses = λ f.
      let x = first.misses f in let y = second.misses f in
      let z = missed_append f one two in
      omega (arith, x, y, z);
  returned =
      subst (λ (k : ℕ). Rises a.counts.freezes k c.counts.freezes) (sym (returned_both one two))
      (rises_both a.counts.freezes b.counts.freezes c.counts.freezes (returned_in one) (returned_in two) first.returned second.returned);
  missed =
      subst (λ (k : ℕ). Rises a.counts.misses k c.counts.misses) (sym (missed_both one two))
      (rises_both a.counts.misses b.counts.misses c.counts.misses (all_missed_in one) (all_missed_in two) first.missed second.missed);
}

-- ---- other notes

-- the steps lead to the machine with other notes as well
pub moves_noted : (t : KnownTable) (m n : KnownMachine) (freed : ℕ) (steps : Run) (notes : KnownNotes) → FreesPages t m freed steps n
    → FreesPages t m freed steps (record n { notes = notes })
moves_noted t m n freed steps notes k = record {
  runs = let r = k.runs in record { holder = r.holder; leads = r.leads; follows = r.follows; counts = r.counts; noted = r.noted };
  pages = k.pages;
  no_kill = k.no_kill;
  misses = k.misses;
  returned = k.returned;
  missed = k.missed;
}

-- and from one with other notes
pub moves_after_notes : (t : KnownTable) (m n : KnownMachine) (freed : ℕ) (steps : Run) (notes : KnownNotes)
    → FreesPages t (record m { notes = notes }) freed steps n → FreesPages t m freed steps n
moves_after_notes t m n freed steps notes k = record {
  runs = let r = k.runs in record { holder = r.holder; leads = r.leads; follows = r.follows; counts = r.counts; noted = r.noted };
  pages = k.pages;
  no_kill = k.no_kill;
  misses = k.misses;
  returned = k.returned;
  missed = k.missed;
}

-- ---- one try

-- a frame that looks live is live, or back at the CPU
frozen_unit : (x : Phase) (unit : ChargedUnit) → hide_phase x ≡ phase.Head unit Live → unit_of (at_stage AwaitsReturn x) ≡ Some unit
frozen_unit phase.InZone unit same = cc
frozen_unit (phase.Lent q way) unit same = cc
frozen_unit (phase.Tail g) unit same = cc
frozen_unit (phase.Head other stage) unit same = head_unit other stage unit same
  where
    head_unit : (other : ChargedUnit) (stage : Stage) (unit : ChargedUnit) → hide_stage other stage ≡ phase.Head unit Live → Some other ≡ Some unit
    head_unit other Live unit same = cc
    head_unit other (BackAt q) unit same = cc
    head_unit other (FreshAt q) unit same = cc
    head_unit other (FreshPassing q) unit same = cc
    head_unit other Collected unit same = cc
    head_unit other Bare unit same = cc
    head_unit other (BackPassing q) unit same = cc
    head_unit other AwaitsReturn unit same = cc

unit_frozen : (t : KnownTable) (m : KnownMachine) (f : ℕ) (unit : ChargedUnit) → frame_state_at m.frame_states f ≡ Head unit → IsConsistent t m → IsHeld t m.run.past
    → unit_of ((after (local_of t m) 0 (Freeze f 1) Done).phases f) ≡ Some unit
unit_frozen t m f unit heads ok held =
    ap unit_of (at_same (local_of t m).phases f (at_stage AwaitsReturn ((local_of t m).phases f)))
    ∙ frozen_unit ((local_of t m).phases f) unit ((shown_seen t m ok held).phases f ∙ ap phase_hidden heads)

-- a miss counts on the frame
pub missed_here : (f g : ℕ) → ◌≡◌ {A = ℕ} (missed_in g (zone_makes (Freeze f 1) Missed ∷ [])) (cond (f == g) 1 0)
missed_here f g = omega arith

pub moves_try : (t : KnownTable) (m n : KnownMachine) (f : ℕ) (answer : Option ℕ) → IsConsistent t m → IsHeld t m.run.past → Evicts f answer m n
    → Makes t m (evict_steps f answer) n → FreesPages t m (unwrap_or answer 0) (evict_steps f answer) n
moves_try t m n f None ok held is runs = record {
  runs = runs;
  pages = refl;
  no_kill = refl;
  misses = misses_after t m (evict_steps f None) n runs held;
  returned = rises_none m.counts.freezes n.counts.freezes (ap (λ (x : KnownMachine). x.counts.freezes) is);
  missed = rises_one m.counts.misses n.counts.misses (ap (λ (x : KnownMachine). x.counts.misses) is);
}
moves_try t m n f (Some pages) ok held is runs = record {
  runs = runs;
  pages =
      let size : unit_size (unit_of ((after (local_of t m) 0 (Freeze f 1) Done).phases f)) ≡ 2 ^ is.unit.order =
      ap unit_size (unit_frozen t m f is.unit is.heads ok held) in
      let given = is.size in
      omega (arith, size, given);
  no_kill = refl;
  misses = misses_after t m (evict_steps f (Some pages)) n runs held;
  returned = rises_one m.counts.freezes n.counts.freezes (ap (λ (x : KnownMachine). x.counts.freezes) is.machine);
  missed = rises_none m.counts.misses n.counts.misses (ap (λ (x : KnownMachine). x.counts.misses) is.machine);
}
