-- A stock that is drained stays drained while room is made. Serves `fill_one`.
use Rattle.std.proofs.Common.{ℕ, Bool, true, false, Option, Some, List, [], ◌∷◌, refl, sym, subst, inl, inr}
use Rattle.std.proofs.lemmas.Bool.{cases_Bool, cases_lt}
use Rattle.boot_words.specs.Pasts.{IsHeld}
use Rattle.step_rules.specs.After.{Run}
use Rattle.boot_words.specs.Tables.{KnownTable}
use Rattle.mem_machine.specs.{KnownMachine, with_run, HasDrained, IsDrained, of_subtree, note_max_steps, note_oom_steps, MachineStays, transition}
use Rattle.mem_machine.proofs.StocksKept.{drained_kept}
use Rattle.mem_reclaim.specs.declared.sets.Killed.{Killed}
use Rattle.mem_reclaim.proofs.Grown.{held_after}
use Rattle.mem_reclaim.proofs.LettingGo.{drains_leave}
use Rattle.mem_alloc.specs.Kills.{KillsVictims, KillsForRoom, UnlessNoKill, has_room_at, with_oom_noted_at}
use Rattle.mem_alloc.specs.Room.{ClearsBelow, KillsForFewPages, RelievesLimit, with_max_noted_at}

-- each drained stock stays drained
abbrev pub StaysDrained : KnownTable → KnownMachine → KnownMachine → Type 0
StaysDrained t m n = (p : ℕ) → IsDrained t m p → IsDrained t n p

stays : (t : KnownTable) (m : KnownMachine) (steps : Run) (n : KnownMachine) → MachineStays (transition t m steps n) → StaysDrained t m n
stays t m steps n h p was = subst (λ (x : KnownMachine). IsDrained t x p) (sym h.machine) was

clears : (t : KnownTable) (g pages : ℕ) (m n : KnownMachine) (steps : Run) → IsHeld t m.run.past → ClearsBelow g pages (transition t m steps n)
    → StaysDrained t m n
clears t g pages m n steps held h p was =
    let x = with_run (with_max_noted_at m g pages) h.seen in
    (drains_leave t (of_subtree g) t.cpus x n h.drains h.all).stocks.drained p (drained_kept t m x (note_max_steps g) held h.notes refl p was)

each : (r : Option ℕ) (t : KnownTable) (g pages : ℕ) (victims : List Killed) (m n : KnownMachine) (steps : Run)
    → KillsVictims r g pages victims (transition t m steps n) → StaysDrained t m n
each r t g pages [] m n steps h p was = stays t m steps n h p was
each r t g pages (killed ∷ later) m n steps h p was = each r t g pages later h.between n h.later h.second p (h.first.stocks.drained p was)

kills : (r : Option ℕ) (t : KnownTable) (g pages : ℕ) (m n : KnownMachine) (steps : Run) → IsHeld t m.run.past → KillsForRoom r g pages (transition t m steps n)
    → StaysDrained t m n
kills r t g pages m n steps held k = elim (cases_Bool (has_room_at m.ledger g pages)) [
  | inl room ↦ stays t m steps n (k.room room)
  | inr over ↦
      let h = k.over over in
      let x = with_run (with_oom_noted_at m g) h.seen in
      λ p was. each r t g pages h.victims x n h.killing h.kills p (drained_kept t m x (note_oom_steps g) held h.notes refl p was)
]

few : (t : KnownTable) (r g pages : ℕ) (m n : KnownMachine) (steps : Run) → IsHeld t m.run.past → KillsForFewPages r g pages (transition t m steps n)
    → StaysDrained t m n
few t r g pages m n steps held k = elim (cases_lt 8 pages) [
  | inl many ↦ stays t m steps n (k.many many)
  | inr low ↦ kills (Some r) t g pages m n steps held (k.few low)
]

-- so do kills that the boot may not allow
unless : (no_kill : Bool) (t : KnownTable) (r g pages : ℕ) (m n : KnownMachine) (steps : Run) → IsHeld t m.run.past
    → UnlessNoKill no_kill (KillsForFewPages r g pages) (transition t m steps n) → StaysDrained t m n
unless false t r g pages m n steps held k = few t r g pages m n steps held k
unless true t r g pages m n steps held k = stays t m steps n k

pub relieves_drained : (t : KnownTable) (r g pages : ℕ) (m n : KnownMachine) (steps : Run) → IsHeld t m.run.past
    → RelievesLimit r g pages (transition t m steps n) → StaysDrained t m n
relieves_drained t r g pages m n steps held h p was =
    let x = h.between in
    let next = h.second in
    let y = next.between in
    let held_x = held_after t m h.earlier x h.first.runs held in
    let held_y = held_after t x next.earlier y next.first.moves.runs held_x in
    unless t.choices.is_no_kill t r g pages y n next.later held_y next.second p
    (subst HasDrained (sym (next.first.keeps.stocks p)) (clears t g pages m x h.earlier held h.first p was))
