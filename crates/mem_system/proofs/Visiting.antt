-- A whole visit under the lock, from what its calls say. Serves `serve_outcome`.
use Rattle.std.proofs.Common.{◌≡◌, ℕ, true, false, ◌++◌, refl, sym, ap, ◌∙◌, subst, unwrap_or}
use Rattle.std.specs.List.{flat_map}
use Rattle.std.proofs.lemmas.Bool.{false≢true}
use Rattle.step_rules.specs.declared.phase.Hold.{Hold}
use Rattle.step_rules.specs.declared.phase.Hold.TheVariants.{HeldBy, Unheld, Visiting}
use Rattle.step_rules.specs.{Part, is_unheld, visits, Run, state_of}
use Rattle.boot_words.specs.{KnownCpuSeat, IsHeld, Unlocks, own_past, zone_of_boot, KnownTable}
use Rattle.boot_words.specs.Pasts.{Locks}
use Rattle.cpu_part.specs.{KnownCpuLists, KnowsItsPart}
use Rattle.mem_machine.specs.{KnownMachine, is_killed, with_past, with_run, without_notes, Holds, IsShut, Makes, visit_state, Rests}
use Rattle.mem_machine.specs.{Settles, fresh_steps, return_all_steps, settle_steps, open_steps, shut_steps, transition}
use Rattle.mem_machine.proofs.Followed.{makes_both}
use Rattle.mem_reclaim.proofs.Grown.{held_after, misses_after}
use Rattle.mem_system.specs.declared.command.LockedCommand.{LockedCommand}
use Rattle.mem_system.specs.declared.outcome.Outcome.{Outcome}
use Rattle.mem_system.specs.{Executes, NamesWhatExists, cpu_in_run, AllShut, CountsItsRun, KnownLocked, IsServed, locked_state, visit_steps}
use Rattle.mem_system.proofs.Counted.{visit_counted}
use Rattle.mem_system.proofs.Killing.{around_quiet, obeys_no_rash}
use Rattle.mem_system.proofs.Locking.{part_locked, run_twice}
use Rattle.mem_system.proofs.Running.{visit_in_run}
use Rattle.mem_system.proofs.Turns.{same_settle}

-- while the lock is free, no visit is open
free_shut : (p : ℕ) (hold : Hold) → is_unheld hold ≡ true → visits p hold ≡ false
free_shut p Unheld free = refl
free_shut p (HeldBy q) free = absurd (false≢true free)
free_shut p (Visiting q) free = absurd (false≢true free)

pub resting_shut : (t : KnownTable) (m : KnownMachine) → Rests t m → AllShut t m
resting_shut t m rests p = free_shut p (state_of (zone_of_boot t) (own_past m.run.past).seen).hold rests.free

-- notes that are forgotten leave who holds the lock, and what it sees
pub forgotten_holds : (t : KnownTable) (m n : KnownMachine) (c : KnownCpuLists) → n ≡ without_notes m → Holds t m c → Holds t n c
forgotten_holds t m n c is holds = subst (λ (k : KnownMachine). Holds t k c) (sym is) (record { held = holds.held; who = holds.who; own = holds.own })

pub forgotten_shut : (t : KnownTable) (m n : KnownMachine) (p : ℕ) → n ≡ without_notes m → IsShut t m p → IsShut t n p
forgotten_shut t m n p is shut = subst (λ (k : KnownMachine). IsShut t k p) (sym is) shut

-- What the calls of a visit say, one after the other. The CPU takes the lock, earlier notes are forgotten, the visit is
-- opened, the CPU is settled, inner steps are made, the visit is shut, and the CPU releases the lock.
pub record GoesThrough (t : KnownTable) (m : KnownMachine) (c : KnownCpuLists) (seat : KnownCpuSeat) (inner : Run) (k : KnownMachine) (d : KnownCpuLists) (seat' : KnownCpuSeat) : Type 0 where
  pub found : KnownMachine
  pub begun : KnownMachine
  pub entered : KnownMachine
  pub mid : KnownMachine
  pub settled : KnownCpuLists
  pub done : KnownMachine
  pub left : KnownMachine
  pub knows : KnowsItsPart t seat c
  pub locks : found ≡ with_past m found.run.past
  pub takes : Locks t m.run.past seat.past found.run.past
  pub holds : Holds t found c
  pub shut : IsShut t found c.number
  pub forgets : begun ≡ without_notes found
  pub opens : entered ≡ with_run begun entered.run
  pub opening : Makes t begun (open_steps c.number) entered
  pub settles : Settles t (visit_state entered c) (visit_state mid settled)
  pub settling : Makes t entered (settle_steps t (visit_state entered c)) mid
  pub same : settled.number ≡ c.number
  pub making : Makes t mid inner done
  pub still : d.number ≡ settled.number
  pub shuts : left ≡ with_run done left.run
  pub shutting : Makes t done (shut_steps d.number) left
  pub left_holds : Holds t left d
  pub left_shut : IsShut t left d.number
  pub unlocks : k ≡ with_past left k.run.past
  pub gives : Unlocks t left.run.past k.run.past seat'.past

module _ (t : KnownTable) (m : KnownMachine) (c : KnownCpuLists) (seat : KnownCpuSeat) (inner : Run) (k : KnownMachine) (d : KnownCpuLists) (seat' : KnownCpuSeat)
    (v : GoesThrough t m c seat inner k d seat') where
  begun_is : v.begun ≡ with_run (without_notes m) v.begun.run
  begun_is = run_twice (without_notes m) (without_notes v.found) v.begun (record (m.run) { past = v.found.run.past }) v.found.run (ap without_notes v.locks) v.forgets

  entered_is : v.entered ≡ with_run (without_notes m) v.entered.run
  entered_is = run_twice (without_notes m) v.begun v.entered v.begun.run v.entered.run begun_is v.opens

  begun_held : IsHeld t v.begun.run.past
  begun_held = subst (λ (x : KnownMachine). IsHeld t x.run.past) (sym v.forgets) v.takes.held

  -- the same frames are settled by the same steps as before the lock was taken
  settle_same : settle_steps t (visit_state v.entered c) ≡ settle_steps t (visit_state m c)
  settle_same =
      same_settle t v.begun v.entered c v.opens begun_held v.opening
      ∙ ap (λ (x : KnownMachine). settle_steps t (visit_state x c)) (v.forgets ∙ ap without_notes v.locks)
      ∙ ap (λ (q : Part). flat_map (fresh_steps (is_killed m.killed (unwrap_or q.stock.group 0)) c.number) c.fresh ++ return_all_steps (visit_state m c))
      (part_locked t m.run.past seat.past v.found.run.past v.takes c.number)

  -- the machine found, and what it is when the visit is opened and when it is shut
  found_is : v.found ≡ with_run m v.found.run
  found_is = run_twice m m v.found m.run _ refl v.locks

  left_is : v.left ≡ with_run k v.left.run
  left_is = sym (ap (λ (x : KnownMachine). with_run x v.left.run) v.unlocks)

  -- the visit is opened, whether or not the notes are forgotten
  opened : Makes t (with_run m v.found.run) (open_steps c.number) (with_run m v.entered.run)
  opened =
      let all : Makes t (without_notes (with_run m v.found.run)) (open_steps c.number) (with_run (without_notes m) v.entered.run) =
      subst (λ (x : KnownMachine × KnownMachine). Makes t x.0 (open_steps c.number) x.1) (λ i. ((v.forgets ∙ ap without_notes found_is) i, entered_is i)) v.opening in
      record { holder = all.holder; leads = all.leads; follows = all.follows; counts = all.counts; noted = all.noted }

  -- all steps of the visit
  all_made : Makes t v.found (visit_steps t (visit_state m c) inner) v.left
  all_made =
      let p = c.number in
      let middle = settle_steps t (visit_state m c) in
      let forgot : Makes t (without_notes v.found) (open_steps p) v.entered = subst (λ (x : KnownMachine). Makes t x (open_steps p) v.entered) v.forgets v.opening in
      let first : Makes t v.found (open_steps p) v.entered =
      record { holder = forgot.holder; leads = forgot.leads; follows = forgot.follows; counts = forgot.counts; noted = forgot.noted } in
      let rests : Makes t v.entered middle v.mid = subst (λ (s : Run). Makes t v.entered s v.mid) settle_same v.settling in
      let ended : Makes t v.done (shut_steps p) v.left = subst (λ (q : ℕ). Makes t v.done (shut_steps q) v.left) (v.still ∙ v.same) v.shutting in
      makes_both t (open_steps p) (middle ++ (inner ++ shut_steps p)) v.found v.entered v.left first
      (makes_both t middle (inner ++ shut_steps p) v.entered v.mid v.left rests (makes_both t inner (shut_steps p) v.mid v.done v.left v.making ended))

  -- the machine still counts its run
  pub counted : Rests t m → CountsItsRun t m → Rests t k → CountsItsRun t k
  counted rests told rests_after =
      visit_counted t m v.found v.left k (visit_steps t (visit_state m c) inner) seat.past seat'.past rests told v.locks v.takes all_made v.unlocks v.gives rests_after

-- the whole command
pub served : (t : KnownTable) (cmd : LockedCommand) (outcome : Outcome) (l k : KnownLocked) (c : KnownCpuLists) (seat : KnownCpuSeat) (inner : Run) (d : KnownCpuLists) (seat' : KnownCpuSeat)
    (v : GoesThrough t l.machine c seat inner k.machine d seat') → k.sizes ≡ l.sizes
    → NamesWhatExists t v.mid.ledger.groups cmd → Executes l.sizes cmd outcome (transition t (visit_state v.mid v.settled) inner (visit_state v.done d))
    → IsServed t cmd outcome (locked_state l (cpu_in_run c seat)) (locked_state k (cpu_in_run d seat'))
served t cmd outcome l k c seat inner d seat' v sizes names executed =
    let p = c.number in
    let m = l.machine in
    let steps = visit_steps t (visit_state m c) inner in
    let all = all_made t m c seat inner k.machine d seat' v in
    let its : (own_past seat.past).number ≡ p = sym v.knows.is.number ∙ v.knows.number in
    let held = held_after t v.entered (settle_steps t (visit_state v.entered c)) v.mid v.settling
    (held_after t v.begun (open_steps p) v.entered v.opening (begun_held t m c seat inner k.machine d seat' v)) in
    record {
      steps = steps;
      serves = record {
        settled = visit_state v.mid v.settled;
        seen = v.entered.run;
        settles = subst (λ (x : KnownMachine). Settles t (visit_state x c) (visit_state v.mid v.settled)) (entered_is t m c seat inner k.machine d seat' v) v.settles;
        names = names;
        inner = inner;
        done = v.done;
        executes = executed;
        no_rash = obeys_no_rash t l.sizes v.mid v.settled held cmd outcome inner (visit_state v.done d) names executed;
        only_inner = around_quiet t p (visit_state m c);
        misses = misses_after t v.mid inner v.done v.making held;
        machine = run_twice v.done v.left k.machine _ _ v.shuts v.unlocks;
        sizes = sizes;
        steps_are = refl;
      };
      found = v.found.run;
      left = v.left.run;
      taken = record {
        locks = v.takes;
        watch = ap (λ (x : KnownMachine). x.run.watch) v.locks;
        holds = subst (λ (x : KnownMachine). Holds t x c) (found_is t m c seat inner k.machine d seat' v) v.holds;
        shut = subst (λ (x : KnownMachine). IsShut t x p) (found_is t m c seat inner k.machine d seat' v) v.shut;
      };
      opens = opened t m c seat inner k.machine d seat' v;
      makes = subst (λ (x : KnownMachine × KnownMachine). Makes t x.0 steps x.1)
          (λ i. (found_is t m c seat inner k.machine d seat' v i, left_is t m c seat inner k.machine d seat' v i)) all;
      released = record {
        holds = subst (λ (x : KnownMachine). Holds t x d) (left_is t m c seat inner k.machine d seat' v) v.left_holds;
        shut = subst (λ (x : KnownMachine). IsShut t x d.number) (left_is t m c seat inner k.machine d seat' v) v.left_shut;
        watch = ap (λ (x : KnownMachine). x.run.watch) v.unlocks;
        unlocks = v.gives;
      };
      run = visit_in_run t p steps m.run.past seat.past v.found.run.past v.left.run.past k.machine.run.past seat'.past its v.takes all.noted.grew v.gives;
    }
