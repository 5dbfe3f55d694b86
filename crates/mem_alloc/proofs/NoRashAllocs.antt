-- No kill of an allocation comes before everything else was tried. Serves the calls that name the steps of an Alloc.
use Rattle.std.proofs.Common.{◌≡◌, ℕ, ◌≤◌, ◌^◌, true, false, List, [], ◌++◌, refl, sym, ap, ◌∙◌, subst, inl, inr, arith}
use Rattle.std.specs.Prelude.{Result, Ok, Err}
use Rattle.boot_words.specs.Pasts.{IsHeld}
use Rattle.group_tree.specs.declared.group.Group.{Group}
use Rattle.group_tree.specs.Groups.{in_subtree}
use Rattle.group_charge.specs.Charges.{current_of}
use Rattle.zone_blocks.specs.declared.config.Config.{Config}
use Rattle.boot_words.specs.Tables.{KnownTable}
use Rattle.cpu_part.specs.Cpus.{KnownCpuLists}
use Rattle.step_rules.specs.After.{Run}
use Rattle.mem_machine.specs.{KnownMachine, Makes, VisitState, visit_state, take_front_steps, Transition, transition}
use Rattle.mem_reclaim.specs.Moves.{has_kill}
use Rattle.mem_alloc.specs.declared.faults.AllocFault.{AllocFault}
use Rattle.mem_alloc.specs.declared.faults.AllocFault.TheVariants.{Over, NoFrames, RequesterKilled}
use Rattle.mem_alloc.specs.{ChargesAfterDrain, ChargesNoBatch, ChargesOne, FillsDrainedStock, FillsStock, LacksBatch, PaysForFrame, AllocatesFrame}
use Rattle.mem_alloc.specs.{AllocatesBlock, ChargesBlock, FindsNoBlock, RetriesBlock, TakesFreeBlock, NoRashKill}
use Rattle.mem_alloc.proofs.Calm.{drained_calm, drains_calm, fills_calm, finds_none_calm, takes_calm}
pub use Rattle.mem_alloc.proofs.Calm.{no_kill_both}
use Rattle.mem_alloc.proofs.NoRash.{Passes, RashFree, drain_same, passes_both, passes_none, passes_same, quiet_after_room, rash_both, rash_quiet, refusal_rash}

-- ---- the whole of an allocation

module _ (t : KnownTable) (MayAsk : List Group → ℕ → ℕ → Type 0) (s : KnownMachine) (c : KnownCpuLists) (held_there : IsHeld t s.run.past) (g : ℕ) where
  abbrev Asks : ℕ → Type 0
  Asks pages = (over : ℕ) → in_subtree s.ledger.groups over g ≡ true → pages ≤ 8 → MayAsk s.ledger.groups over pages

  -- ---- single frames

  stock_quiet : (pages : ℕ) (call : Transition VisitState) → FillsStock g pages call → has_kill call.steps ≡ false
  stock_quiet pages call h = ap has_kill h.steps_are

  -- a stock for which there is no room kills nobody
  no_batch_passes : (sizes : Config) (x : KnownMachine) (steps : Run) (y : KnownMachine) → LacksBatch g sizes.stock (transition t x steps y)
      → Passes t x steps y × (y.ledger.groups ≡ x.ledger.groups) × (has_kill steps ≡ false)
  no_batch_passes sizes x steps y (inl h) =
      subst (λ (z : Run × KnownMachine). Passes t x z.0 z.1 × (z.1.ledger.groups ≡ x.ledger.groups) × (has_kill z.0 ≡ false))
      (λ i. (sym h.1.steps_are i, sym h.1.machine i)) (passes_none t x, refl, refl)
  no_batch_passes sizes x steps y (inr h) = (
    passes_same t x y steps (subst (λ (k : Run). Makes t x k y) (sym h.steps_are) h.refuses) (ap (λ (z : KnownMachine). z.links) h.machine)
        (ap (λ (z : KnownMachine). z.ledger.settings) h.machine) (λ k. let e = ap (λ (z : KnownMachine). current_of z.ledger k) h.machine in omega (arith, e)),
    ap (λ (z : KnownMachine). z.ledger.groups) h.machine,
    ap has_kill h.steps_are,
  )

  module _ (asks : Asks 1) where
    one_rash : (answer : Result (Unit {0}) AllocFault) (made : Run) (x : KnownMachine) (steps : Run) (n : VisitState) → x.ledger.groups ≡ s.ledger.groups
        → Passes t s made x → ChargesOne g answer (transition t (visit_state x c) steps n) → RashFree t MayAsk s made steps
    one_rash (Ok v) made x steps n is since h =
        quiet_after_room t MayAsk s held_there g 1 s.ledger.groups asks (FillsStock g 1) made x c steps n is since (stock_quiet 1) h
    one_rash (Err cause) made x steps n is since h =
        refusal_rash t MayAsk s held_there g 1 s.ledger.groups asks cause made x c steps n is since h

    lacks_rash : (sizes : Config) (answer : Result (Unit {0}) AllocFault) (made : Run) (x : KnownMachine) (steps : Run) (n : VisitState)
        → x.ledger.groups ≡ s.ledger.groups → Passes t s made x
        → ChargesNoBatch sizes g answer (transition t (visit_state x c) steps n) → RashFree t MayAsk s made steps
    lacks_rash sizes answer made x steps n is since h =
        let y = h.between in
        let lacks = no_batch_passes sizes x h.earlier y.machine h.first.does in
        let one = subst (λ (e : KnownCpuLists). ChargesOne g answer (transition t (visit_state y.machine e) h.later n)) h.first.cpu h.second in
        subst (λ (k : Run). RashFree t MayAsk s made k) (sym h.steps_are) (rash_both t MayAsk s held_there made h.earlier h.later
        (rash_quiet t MayAsk s held_there made h.earlier lacks.2)
        (one_rash answer (made ++ h.earlier) y.machine h.later n (lacks.1 ∙ is) (passes_both t s x y.machine made h.earlier since lacks.0) one))

    charges_rash : (sizes : Config) (answer : Result (Unit {0}) AllocFault) (made : Run) (x : KnownMachine) (steps : Run) (n : VisitState)
        → x.ledger.groups ≡ s.ledger.groups → Passes t s made x
        → FillsDrainedStock sizes g answer (transition t (visit_state x c) steps n) → RashFree t MayAsk s made steps
    charges_rash sizes (Ok v) made x steps n is since (inl h) = rash_quiet t MayAsk s held_there made steps (ap has_kill h.fills.steps_are)
    charges_rash sizes (Ok v) made x steps n is since (inr h) = lacks_rash sizes (Ok v) made x steps n is since h
    charges_rash sizes (Err cause) made x steps n is since h = lacks_rash sizes (Err cause) made x steps n is since h

    anew_rash : (sizes : Config) (answer : Result (Unit {0}) AllocFault) (steps : Run) (n : VisitState)
        → ChargesAfterDrain sizes g answer (transition t (visit_state s c) steps n) → RashFree t MayAsk s [] steps
    anew_rash sizes answer steps n all =
        let h = all.does in
        let x = h.between in
        let same = drain_same t s x.machine c.number h.first.drained h.first.drains in
        let passes = passes_same t s x.machine h.earlier h.first.runs same.links same.settings same.usage in
        let charges = subst (λ (y : KnownCpuLists). FillsDrainedStock sizes g answer (transition t (visit_state x.machine y) h.later n)) h.first.cpu h.second in
        subst (λ (k : Run). RashFree t MayAsk s [] k) (sym h.steps_are) (rash_both t MayAsk s held_there [] h.earlier h.later
        (rash_quiet t MayAsk s held_there [] h.earlier (drains_calm (transition t (visit_state s c) h.earlier x) h.first))
        (charges_rash sizes answer h.earlier x.machine h.later n same.groups passes charges))

    pays_rash : (sizes : Config) (answer : Result (Unit {0}) AllocFault) (steps : Run) (n : VisitState)
        → PaysForFrame sizes g answer (transition t (visit_state s c) steps n) → RashFree t MayAsk s [] steps
    pays_rash sizes (Ok v) steps n (inl h) = rash_quiet t MayAsk s held_there [] steps (ap has_kill h.does.steps_are)
    pays_rash sizes (Ok v) steps n (inr h) = anew_rash sizes (Ok v) steps n h
    pays_rash sizes (Err cause) steps n h = anew_rash sizes (Err cause) steps n h

    pub frame_no_rash : (sizes : Config) (answer : Result ℕ AllocFault) (steps : Run) (n : VisitState)
        → AllocatesFrame sizes g answer (transition t (visit_state s c) steps n) → NoRashKill t MayAsk s steps
    frame_no_rash sizes (Ok f) steps n living =
        let h = living.does in
        let last = h.filling ++ take_front_steps c.number g in
        let quiet = no_kill_both h.filling (take_front_steps c.number g) (fills_calm sizes (Ok tt) (transition t h.paid h.filling h.filled) h.fills) refl in
        subst (λ (k : Run). RashFree t MayAsk s [] k) (sym h.steps_are) (rash_both t MayAsk s held_there [] h.paying last
        (pays_rash sizes (Ok tt) h.paying h.paid h.pays) (rash_quiet t MayAsk s held_there h.paying last quiet))
    frame_no_rash sizes (Err (Over over)) steps n h = pays_rash sizes (Err (Over over)) steps n h.does
    frame_no_rash sizes (Err NoFrames) steps n living =
        let h = living.does in
        let quiet = fills_calm sizes (Err NoFrames) (transition t h.between h.later n) h.second in
        subst (λ (k : Run). RashFree t MayAsk s [] k) (sym h.steps_are) (rash_both t MayAsk s held_there [] h.earlier h.later
        (pays_rash sizes (Ok tt) h.earlier h.between h.first) (rash_quiet t MayAsk s held_there h.earlier h.later quiet))
    frame_no_rash sizes (Err RequesterKilled) steps n (inl h) = rash_quiet t MayAsk s held_there [] steps (ap has_kill h.does.steps_are)
    frame_no_rash sizes (Err RequesterKilled) steps n (inr h) = pays_rash sizes (Err RequesterKilled) steps n h.does

  -- ---- blocks

  module _ (k : ℕ) (asks : Asks (2 ^ k)) where
    charged_rash : (answer : Result ℕ AllocFault) (steps : Run) (n : VisitState)
        → ChargesBlock g k answer (transition t (visit_state s c) steps n) → RashFree t MayAsk s [] steps
    charged_rash (Ok head) steps n h =
        quiet_after_room t MayAsk s held_there g (2 ^ k) s.ledger.groups asks (TakesFreeBlock g k head) [] s c steps n refl (passes_none t s)
        (takes_calm g k head) h
    charged_rash (Err (Over over)) steps n h =
        refusal_rash t MayAsk s held_there g (2 ^ k) s.ledger.groups asks (Over over) [] s c steps n refl (passes_none t s) h
    charged_rash (Err NoFrames) steps n h =
        quiet_after_room t MayAsk s held_there g (2 ^ k) s.ledger.groups asks (FindsNoBlock g k) [] s c steps n refl (passes_none t s)
        (finds_none_calm g k) h
    charged_rash (Err RequesterKilled) steps n h =
        refusal_rash t MayAsk s held_there g (2 ^ k) s.ledger.groups asks RequesterKilled [] s c steps n refl (passes_none t s) h

    retries_rash : (answer : Result ℕ AllocFault) (steps : Run) (n : VisitState)
        → RetriesBlock g k answer (transition t (visit_state s c) steps n) → RashFree t MayAsk s [] steps
    retries_rash answer steps n h =
        let quiet = drained_calm g k answer (transition t h.between h.later n) h.second in
        subst (λ (r : Run). RashFree t MayAsk s [] r) (sym h.steps_are) (rash_both t MayAsk s held_there [] h.earlier h.later
        (charged_rash (Err NoFrames) h.earlier h.between h.first) (rash_quiet t MayAsk s held_there h.earlier h.later quiet))

    pub block_no_rash : (answer : Result ℕ AllocFault) (steps : Run) (n : VisitState)
        → AllocatesBlock g k answer (transition t (visit_state s c) steps n) → NoRashKill t MayAsk s steps
    block_no_rash (Ok head) steps n (inl h) = charged_rash (Ok head) steps n h.does
    block_no_rash (Ok head) steps n (inr h) = retries_rash (Ok head) steps n h.does
    block_no_rash (Err (Over over)) steps n h = charged_rash (Err (Over over)) steps n h.does
    block_no_rash (Err NoFrames) steps n h = retries_rash (Err NoFrames) steps n h.does
    block_no_rash (Err RequesterKilled) steps n (inl h) = rash_quiet t MayAsk s held_there [] steps (ap has_kill h.does.steps_are)
    block_no_rash (Err RequesterKilled) steps n (inr h) = charged_rash (Err RequesterKilled) steps n h.does
