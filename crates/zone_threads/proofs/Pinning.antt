-- A CPU that may have one more pin may still have it after an allocation of a block, why a pin is missed all the same, and
-- what such a call answers. Serves `Behind::alloc_pinned` and `Home::alloc_pinned`.
use Rattle.std.proofs.Common.{◌≡◌, ◌≢◌, ◌∙◌, ℕ, ◌≤◌, List, [], ◌∷◌, ◌++◌, length, ap, arith, inl, inr, refl, subst}
use Rattle.std.specs.Prelude.{IsSomeAnd, Ok}
use Rattle.std.proofs.lemmas.Bool.{cases_Bool}
use Rattle.frame_word.specs.declared.answers.Get.{Get}
use Rattle.frame_word.specs.declared.answers.Get.TheVariants.{Full, Held, Raced, Zero}
use Rattle.step_rules.specs.declared.step.Action.TheVariants as does
use Rattle.step_rules.specs.declared.step.Answer.TheVariants as said
use Rattle.step_rules.specs.State.{Zone, most_references}
use Rattle.step_rules.specs.{Allows, IsLegalRun, Run, cpu_makes, references_on, state_of}
use Rattle.step_rules.proofs.Referenced.{references_kept}
use Rattle.step_rules.proofs.Runs.{legal_from}
use Rattle.boot_words.specs.{GrewByAll, own_past, zone_of_boot}
use Rattle.boot_words.specs.declared.past.Past.{Past}
use Rattle.boot_words.specs.Pasts.{get_said}
use Rattle.boot_words.specs.Tables.{KnownTable}
use Rattle.boot_words.proofs.Holding.{allowed_at, take_length}
use Rattle.group_tree.specs.declared.fault.Fault.TheVariants.{NotPinned}
use Rattle.cpu_part.specs.Cpus.{KnownCpuLists}
use Rattle.mem_machine.specs.{ReturnsAllBack, Settles, SettlesAllFresh, SettlesFresh, Transition, transition, UnlistsMany, VisitState, is_fresh_killed}
use Rattle.mem_machine.specs.{visit_state}
use Rattle.mem_alloc.specs.{AllocatesBlock}
use Rattle.mem_system.specs.declared.command.LockedCommand.{LockedCommand}
use Rattle.mem_system.specs.declared.command.LockedCommand.TheVariants.{Alloc}
use Rattle.mem_system.specs.declared.outcome.Outcome.{Outcome}
use Rattle.mem_system.specs.declared.outcome.Outcome.TheVariants as outcome
use Rattle.mem_system.specs.{CpuInRun, IsServed, LockedState}
use Rattle.zone_threads.specs.Calling.{AllocatesPinned, Calls, FindsReferences, HasPinRoom, IsMissedFor, MayPinBlock, MissesPin, Pins}
use Rattle.zone_threads.specs.Calling.{ServesPinned}
use Rattle.zone_threads.specs.{KnownHome, UnderLock}
use Rattle.zone_threads.specs.declared.calls.Call.TheVariants.{AllocPinned}
use Rattle.zone_threads.specs.declared.calls.CallAnswer.{CallAnswer}
use Rattle.zone_threads.specs.declared.calls.CallAnswer.TheVariants as answer

abbrev pins_at : VisitState → List ℕ
pins_at now = now.cpu.pins

unlisted_pins : (frames : List ℕ) (m n : VisitState) → UnlistsMany frames m n → pins_at n ≡ pins_at m
unlisted_pins [] m n s = ap (λ (c : KnownCpuLists). c.pins) s.cpu
unlisted_pins (f ∷ rest) m n s = unlisted_pins rest s.between n s.rest ∙ ap (λ (c : KnownCpuLists). c.pins) s.first.cpu

-- the list may be returned to the zone, but no pin is put
block_pins : (g k f : ℕ) (call : Transition VisitState) → AllocatesBlock g k (Ok f) call → pins_at call.after ≡ pins_at call.before
block_pins g k f call h = elim h [
  | inl once ↦ ap (λ (c : KnownCpuLists). c.pins) once.does.does.cpu
  | inr again ↦
      unlisted_pins again.does.between.cpu.list again.does.between (visit_state again.does.second.drained call.after.cpu) again.does.second.drains
      ∙ ap (λ (c : KnownCpuLists). c.pins) again.does.first.does.cpu
]

fresh_pins : (t : KnownTable) (f : ℕ) (m n : VisitState) → SettlesFresh t f m n → pins_at n ≡ pins_at m
fresh_pins t f m n s = elim (cases_Bool (is_fresh_killed t m)) [
  | inl killed ↦ ap (λ (c : KnownCpuLists). c.pins) (s.drops killed).cpu.cpu
  | inr alive ↦ ap (λ (c : KnownCpuLists). c.pins) (s.keeps alive).cpu.cpu
]

all_fresh_pins : (t : KnownTable) (frames : List ℕ) (m n : VisitState) → SettlesAllFresh t frames m n → pins_at n ≡ pins_at m
all_fresh_pins t [] m n s = ap (λ (c : KnownCpuLists). c.pins) s.cpu
all_fresh_pins t (f ∷ rest) m n s = all_fresh_pins t rest s.between n s.rest ∙ fresh_pins t f m s.between s.first

all_back_pins : (frames : List ℕ) (m n : VisitState) → ReturnsAllBack frames m n → pins_at n ≡ pins_at m
all_back_pins [] m n s = ap (λ (c : KnownCpuLists). c.pins) s.cpu
all_back_pins (f ∷ rest) m n s = all_back_pins rest s.between n s.rest ∙ ap (λ (c : KnownCpuLists). c.pins) s.first.cpu

settled_pins : (t : KnownTable) (m n : VisitState) → Settles t m n → pins_at n ≡ pins_at m
settled_pins t m n s = all_back_pins m.cpu.back s.mid n s.back ∙ all_fresh_pins t m.cpu.fresh m s.mid s.fresh

-- after the allocation no frame is back, and the pins are the same
pub room_left : (t : KnownTable) (group order f : ℕ) (start now : LockedState) → 1 ≤ order
    → IsServed t (Alloc group order) (outcome.Frame f) start now → now.cpu.part.back ≡ [] → HasPinRoom start.cpu → HasPinRoom now.cpu
room_left t group order f start now some a back room =
    let call = transition t a.serves.settled a.serves.inner (visit_state a.serves.done now.cpu.part) in
    let block = block_pins group order f call (a.serves.executes.1.block (λ e. omega (arith, e, some))) in
    let pins = ap length (block ∙ settled_pins t _ a.serves.settled a.serves.settles) in
    let none = ap length back in omega (arith, pins, none, room)

-- ---- why a pin was missed

legal_front : (zone : Zone) (run more : Run) → IsLegalRun zone (run ++ more) → IsLegalRun zone run
legal_front zone run more legal = subst (IsLegalRun zone) (take_length run more) (legal_from zone (run ++ more) (length run) legal)

-- a get that is a step of a legal run finds as many references as its answer says
finds : (t : KnownTable) (frame count : ℕ) (got : Get) (from to : CpuInRun)
    → ((run : Run) → IsLegalRun (zone_of_boot t) run → Allows (state_of (zone_of_boot t) run) from.part.number (does.Get frame) (get_said got)
    → references_on (zone_of_boot t) run frame ≡ count)
    → GrewByAll (own_past from.past) (cpu_makes from.part.number (does.Get frame) (get_said got) ∷ []) (own_past to.past)
    → IsLegalRun (zone_of_boot t) (own_past to.past).seen → FindsReferences t frame count got from to
finds t frame count got from to counts grew legal =
    let zone = zone_of_boot t in
    let made = cpu_makes from.part.number (does.Get frame) (get_said got) in
    let run = (own_past from.past).seen ++ grew.1.between in
    let then : (own_past to.past).seen ≡ run ++ made ∷ [] = ap (λ (p : Past). p.seen) grew.2 ∙ grew.1.seen in
    let whole = subst (IsLegalRun zone) then legal in
    let begun = legal_front zone run (made ∷ []) whole in record {
      found = run;
      meanwhile = record { rest = grew.1.between; is = refl; others = grew.1.others };
      then = then;
      legal = begun;
      count_is = counts run begun (allowed_at zone run made [] whole);
    }

missed_by : (t : KnownTable) (frame : ℕ) (got : Get) (from to : CpuInRun) → got ≢ Held → Pins t frame got from to
    → IsLegalRun (zone_of_boot t) (own_past to.past).seen → IsMissedFor t frame got from to
missed_by t frame Held from to apart asks legal = absurd (apart refl)
missed_by t frame Zero from to apart asks legal =
    finds t frame 0 Zero from to (λ run begun ok. references_kept (zone_of_boot t) run begun from.part.number (does.Get frame) said.Zero ok) asks.run legal
missed_by t frame Full from to apart asks legal =
    finds t frame most_references Full from to (λ run begun ok. references_kept (zone_of_boot t) run begun from.part.number (does.Get frame) said.Full ok) asks.run legal
missed_by t frame (Raced found) from to apart asks legal = asks.raced

-- the next visit shows that the CPU's past is legal
pub missed_for : (t : KnownTable) (frame : ℕ) (next : LockedCommand) (given : Outcome) (from : CpuInRun) (missed after : LockedState)
    → (pin : MissesPin t frame from missed.cpu) → IsServed t next given missed after → IsMissedFor t frame pin.got from missed.cpu
missed_for t frame next given from missed after pin served =
    let zone = zone_of_boot t in
    let locks = served.taken.locks in
    let seen = (own_past missed.cpu.past).seen in
    let legal = subst (IsLegalRun zone) locks.cpu_grew.seen locks.held.holds.shows.legal in
    missed_by t frame pin.got from missed.cpu pin.not_held pin.asks
    (legal_front zone seen locks.cpu_grew.between (legal_front zone (seen ++ locks.cpu_grew.between) _ legal))

-- ---- the answers

-- if no frame was given, the refusal is that of the allocation
pub refusal_served : (t : KnownTable) (group order : ℕ) (given : Outcome) (before after : LockedState) → ((f : ℕ) → given ≢ outcome.Frame f)
    → IsServed t (Alloc group order) given before after → ServesPinned t group order given before after
refusal_served t group order (outcome.Frame f) before after none served = absurd (none f refl)
refusal_served t group order other before after none served = served

-- what was done under the lock is what the call says
pub pinned_answer : (t : KnownTable) (group order : ℕ) (said : CallAnswer) (before after : KnownHome) → IsSomeAnd before.cpu (MayPinBlock order)
    → UnderLock (AllocatesPinned t group order said) before after → Calls t (AllocPinned group order) before after said
pinned_answer t group order answer.NoGroup before after may done = (may, done)
pinned_answer t group order (answer.Served given) before after may done = (may, done)
pinned_answer t group order (answer.Refused NotPinned) before after may done = (may, done)
pinned_answer t group order other before after may done = absurd done.done
