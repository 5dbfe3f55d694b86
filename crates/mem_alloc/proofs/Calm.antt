-- Parts of an allocation that kill nobody. Serves the calls that name the steps of an Alloc.
use Rattle.std.proofs.Common.{◌≡◌, ℕ, zero, suc, ◌-◌, ◌^◌, Bool, true, false, List, [], ◌∷◌, ◌++◌, refl, ap, ◌∙◌, inl, inr, ◌||◌}
use Rattle.std.specs.Prelude.{Result, Ok, Err}
use Rattle.std.proofs.lemmas.List.Folds.{list_any-append}
use Rattle.zone_blocks.specs.declared.config.Config.{Config}
use Rattle.step_rules.specs.declared.step.Answer.{Answer}
use Rattle.step_rules.specs.declared.step.Step.{Step}
use Rattle.step_rules.specs.After.{Run}
use Rattle.group_charge.specs.declared.note.Note.TheVariants.{Zone}
use Rattle.mem_machine.specs.{with_note, VisitState, visit_state, stock_group, unlist_steps, drain_list_steps, lend_steps, refill_steps, Finds}
use Rattle.mem_machine.specs.{InTurn, Stays, Transition, transition}
use Rattle.mem_reclaim.specs.Moves.{has_kill, is_kill}
use Rattle.mem_reclaim.proofs.LettingGo.{quiet_drain}
use Rattle.mem_alloc.specs.declared.faults.AllocFault.{AllocFault}
use Rattle.mem_alloc.specs.declared.faults.AllocFault.TheVariants.{Over, NoFrames, RequesterKilled}
use Rattle.mem_alloc.specs.{DrainsStock, AfterZoneNote, FailsInRounds, FreesInRound, MakesRound, SucceedsInRounds, FillsList, HasNoFreeFrame}
use Rattle.mem_alloc.specs.{LendsBatch, LendsNoFrame, MakesRefillRounds, RefillsInRounds, FindsNoBlock, MakesTakeRounds, TakesAfterDrain}
use Rattle.mem_alloc.specs.{TakesFreeBlock, TakesInRounds, TakesOrReclaims}

pub no_kill_both : (one two : Run) → has_kill one ≡ false → has_kill two ≡ false → has_kill (one ++ two) ≡ false
no_kill_both one two a b = list_any-append (λ (e : Step × Answer). is_kill e.0.action) one two ∙ ap (λ (x : Bool). x || has_kill two) a ∙ b

-- no step of such a transition is a kill
abbrev pub AllCalm : (Transition VisitState → Type 0) → Type 0
AllCalm P = (call : Transition VisitState) → P call → has_kill call.steps ≡ false

calm_both : (steps one two : Run) → steps ≡ one ++ two → has_kill one ≡ false → has_kill two ≡ false → has_kill steps ≡ false
calm_both steps one two is a b = ap has_kill is ∙ no_kill_both one two a b

calm_stay : AllCalm Stays
calm_stay call h = ap has_kill h.steps_are

calm_turns : (First Second : Transition VisitState → Type 0) → AllCalm First → AllCalm Second → AllCalm (InTurn First Second)
calm_turns First Second one two call h = calm_both call.steps h.earlier h.later h.steps_are
    (one (transition call.table call.before h.earlier h.between) h.first) (two (transition call.table h.between h.later call.after) h.second)

-- ---- lists

pub refill_calm : (p : ℕ) (frames : List ℕ) → has_kill (refill_steps p frames) ≡ false
refill_calm p [] = refl
refill_calm p (f ∷ frames) = no_kill_both (lend_steps p f) (refill_steps p frames) refl (refill_calm p frames)

pub back_calm : (p : ℕ) (frames : List ℕ) → has_kill (drain_list_steps p frames) ≡ false
back_calm p [] = refl
back_calm p (f ∷ frames) = no_kill_both (unlist_steps p f) (drain_list_steps p frames) refl (back_calm p frames)

-- ---- rounds of reclaim

module _ (want : ℕ) (Fails : Transition VisitState → Type 0) (failing : AllCalm Fails) where
  round_calm : (number freed : ℕ) (Tries : Transition VisitState → Type 0) → AllCalm Tries → AllCalm (MakesRound number want freed Tries)
  round_calm number freed Tries trying call h =
      calm_both call.steps h.reclaiming h.trying h.steps_are h.moves.no_kill
      (trying (transition call.table (visit_state h.reclaimed call.before.cpu) h.trying call.after) h.tries)

  gives_calm : (number : ℕ) → AllCalm (FreesInRound number want Fails)
  gives_calm number call h = round_calm number h.freed Fails failing call h.round

  fails_calm : (rounds : ℕ) → AllCalm (FailsInRounds rounds want Fails)
  fails_calm zero call h = calm_stay call h
  fails_calm (suc more) call (inl h) = round_calm (16 - more) 0 Fails failing call h
  fails_calm (suc more) call (inr h) =
      calm_turns (FreesInRound (16 - more) want Fails) (FailsInRounds more want Fails) (gives_calm (16 - more)) (fails_calm more) call h

  succeeds_calm : (rounds : ℕ) (Succeeds : Transition VisitState → Type 0) → AllCalm Succeeds → AllCalm (SucceedsInRounds rounds want Succeeds Fails)
  succeeds_calm zero Succeeds succeeding call h = absurd h
  succeeds_calm (suc more) Succeeds succeeding call (inl h) = round_calm (16 - more) h.0 Succeeds succeeding call h.1
  succeeds_calm (suc more) Succeeds succeeding call (inr h) =
      calm_turns (FreesInRound (16 - more) want Fails) (SucceedsInRounds more want Succeeds Fails) (gives_calm (16 - more))
      (succeeds_calm more Succeeds succeeding) call h

-- a note before them is no step
noted_calm : (order : ℕ) (Does : Transition VisitState → Type 0) → AllCalm Does → AllCalm (AfterZoneNote order Does)
noted_calm order Does calm call h =
    calm (transition call.table (visit_state (with_note call.before.machine (Zone order)) call.before.cpu) call.steps call.after) h

-- ---- a single frame

lends_calm : (batch : ℕ) → AllCalm (LendsBatch batch)
lends_calm batch call h = ap has_kill h.steps_are ∙ refill_calm call.before.cpu.number h.frames

lends_none_calm : AllCalm LendsNoFrame
lends_none_calm call h = calm_stay call h.does

pub drains_calm : AllCalm DrainsStock
drains_calm call h =
    let p = call.before.cpu.number in
    ap has_kill h.steps_are ∙ (quiet_drain p (stock_group call.table call.before.machine p) h.drained).no_kill

refills_calm : (batch : ℕ) (filled : Bool) → AllCalm (RefillsInRounds batch filled)
refills_calm batch true = noted_calm 0 (MakesRefillRounds batch true) (succeeds_calm 1 LendsNoFrame lends_none_calm 16 (LendsBatch batch) (lends_calm batch))
refills_calm batch false = noted_calm 0 (MakesRefillRounds batch false) (fails_calm 1 LendsNoFrame lends_none_calm 16)

pub fills_calm : (sizes : Config) (answer : Result (Unit {0}) AllocFault) → AllCalm (FillsList sizes answer)
fills_calm sizes (Ok v) call (inl h) = calm_stay call h.does
fills_calm sizes (Ok v) call (inr h) = elim h.does [
  | inl lends ↦ lends_calm sizes.batch call lends
  | inr rounds ↦ refills_calm sizes.batch true call rounds.does
]
fills_calm sizes (Err NoFrames) call h =
    calm_turns (RefillsInRounds sizes.batch false) (Finds HasNoFreeFrame DrainsStock) (refills_calm sizes.batch false)
    (λ last drains. drains_calm last drains.does) call h.does.does
fills_calm sizes (Err (Over over)) call h = absurd h
fills_calm sizes (Err RequesterKilled) call h = absurd h

-- ---- a block

pub takes_calm : (g k head : ℕ) → AllCalm (TakesFreeBlock g k head)
takes_calm g k head call h = ap has_kill h.steps_are

pub finds_none_calm : (g k : ℕ) → AllCalm (FindsNoBlock g k)
finds_none_calm g k call h = ap has_kill h.steps_are

take_rounds_calm : (g k : ℕ) (answer : Result ℕ AllocFault) → AllCalm (MakesTakeRounds g k answer)
take_rounds_calm g k (Ok head) call h =
    succeeds_calm (2 ^ k) (FindsNoBlock g k) (finds_none_calm g k) 16 (TakesFreeBlock g k head) (takes_calm g k head) call h
take_rounds_calm g k (Err NoFrames) call h = fails_calm (2 ^ k) (FindsNoBlock g k) (finds_none_calm g k) 16 call h
take_rounds_calm g k (Err (Over over)) call h = absurd h
take_rounds_calm g k (Err RequesterKilled) call h = absurd h

rounds_calm : (g k : ℕ) (answer : Result ℕ AllocFault) → AllCalm (TakesInRounds g k answer)
rounds_calm g k answer = noted_calm k (MakesTakeRounds g k answer) (take_rounds_calm g k answer)

or_reclaims_calm : (g k : ℕ) (answer : Result ℕ AllocFault) → AllCalm (TakesOrReclaims g k answer)
or_reclaims_calm g k (Ok head) call (inl h) = takes_calm g k head call h
or_reclaims_calm g k (Err cause) call (inl h) = absurd h
or_reclaims_calm g k answer call (inr h) =
    calm_turns (FindsNoBlock g k) (TakesInRounds g k answer) (finds_none_calm g k) (rounds_calm g k answer) call h

pub drained_calm : (g k : ℕ) (answer : Result ℕ AllocFault) → AllCalm (TakesAfterDrain g k answer)
drained_calm g k answer call h =
    calm_both call.steps (drain_list_steps call.before.cpu.number call.before.cpu.list) h.later h.steps_are
    (back_calm call.before.cpu.number call.before.cpu.list)
    (or_reclaims_calm g k answer (transition call.table (visit_state h.drained call.after.cpu) h.later call.after) h.takes)
