-- A Dirty that is served right after an Alloc finds the unit that the Alloc gave. Serves `serve_dirty_alloc`.
use Rattle.std.proofs.Common.{◌≡◌, ℕ, zero, suc, ◌^◌, ◌<◌, ◌≤◌, false, true, Option, Some, List, [], ◌∷◌, ◌++◌, length, refl, sym, ap, ◌∙◌, subst, inl, inr, arith}
use Rattle.std.specs.Prelude.{Ok, unwrap_or}
use Rattle.std.proofs.lemmas.Bool.{false≢true}
use Rattle.std.proofs.lemmas.Option.{none-some}
use Rattle.zone_blocks.specs.declared.config.Config.{Config}
use Rattle.group_tree.specs.declared.fault.Fault.TheVariants.{NotKept}
use Rattle.step_rules.specs.declared.step.Action.TheVariants.{Consume}
use Rattle.step_rules.specs.{Run, after, paid, is_legal, IsLocalRun, Part, Zone, times}
use Rattle.step_rules.specs.State.{State}
use Rattle.step_rules.proofs.Basics.{at_same}
use Rattle.step_rules.proofs.Lists.{times_same}
use Rattle.step_rules.proofs.SoundSteps.{below_frames}
use Rattle.boot_words.specs.{cpu_past, zone_of_boot, KnownTable}
use Rattle.lru_lists.specs.declared.record.Home.{Home}
use Rattle.mem_machine.specs.{IsConsistent, KnownMachine, home_of, is_killed, with_run, LendsMany, VisitState, local_of, lock_holder}
use Rattle.mem_machine.specs.{visit_state, ReturnsAllBack, SettlesAllFresh, is_fresh_killed, settle_steps, open_steps, shut_steps, take_front_steps}
use Rattle.mem_machine.specs.{stock_group, Transition, transition}
use Rattle.mem_machine.proofs.Listing.{home_inside}
use Rattle.mem_machine.proofs.Made.{zone_seen}
use Rattle.mem_machine.proofs.OwnFrames.{fresh_own}
use Rattle.mem_reclaim.proofs.Grown.{parts_after}
use Rattle.mem_alloc.specs.{AllocatesBlock, FindsNoBlock, TakesFreeBlock, LacksBatch, PaysForFrame, AllocatesFrame, FillsList, LendsBatch}
use Rattle.mem_alloc.specs.{LendsNoFrame, MakesRoom, PreparesCharge, SucceedsInRounds}
use Rattle.mem_system.specs.declared.command.LockedCommand.{LockedCommand}
use Rattle.mem_system.specs.declared.command.LockedCommand.TheVariants.{Alloc, Dirty}
use Rattle.mem_system.specs.declared.outcome.Outcome.{Outcome}
use Rattle.mem_system.specs.declared.outcome.Outcome.TheVariants.{Done, Frame, Refused}
use Rattle.mem_system.specs.{FreshOf, NotesDirt, IsServed, LockedState, begun, visit_state_of, with_run_at}

-- the frame heads a kept unit
abbrev pub IsHome : KnownMachine → ℕ → Type 0
IsHome m f = (h : Home) × (home_of m.links f ≡ Some h)

-- ---- a block is kept as soon as it is taken

taken_home : (g k f : ℕ) (call : Transition VisitState) → TakesFreeBlock g k f call → IsHome call.after.machine f
taken_home g k f call h = (_, h.takes.listed.home)

rounds_home : (rounds want g k f : ℕ) (call : Transition VisitState) → SucceedsInRounds rounds want (TakesFreeBlock g k f) (FindsNoBlock g k) call
    → IsHome call.after.machine f
rounds_home zero want g k f call h = absurd h
rounds_home (suc rounds) want g k f call h = elim h [
  | inl last ↦ taken_home g k f _ last.1.tries
  | inr more ↦ rounds_home rounds want g k f (transition call.table more.between more.later call.after) more.second
]

pub block_home : (g k f : ℕ) (call : Transition VisitState) → AllocatesBlock g k (Ok f) call → IsHome call.after.machine f
block_home g k f call h = elim h [
  | inl once ↦ taken_home g k f _ once.does.does
  | inr again ↦ elim again.does.second.takes [
    | inl free ↦ taken_home g k f _ free
    | inr later ↦ rounds_home 16 (2 ^ k) g k f _ later.second
  ]
]

-- ---- the group of a single frame is alive when it is taken

lent_killed : (frames : List ℕ) (m n : VisitState) → LendsMany frames m n → n.machine.killed ≡ m.machine.killed
lent_killed [] m n s = ap (λ (k : KnownMachine). k.killed) s.machine
lent_killed (f ∷ rest) m n s = lent_killed rest s.between n s.rest ∙ ap (λ (k : KnownMachine). k.killed) s.first.lends.machine

abbrev SameKilled : Transition VisitState → Type 0
SameKilled call = call.after.machine.killed ≡ call.before.machine.killed

refill_killed : (batch rounds : ℕ) (call : Transition VisitState) → SucceedsInRounds rounds 1 (LendsBatch batch) LendsNoFrame call → SameKilled call
refill_killed batch zero call h = absurd h
refill_killed batch (suc rounds) call h = elim h [
  | inl last ↦ lent_killed last.1.tries.frames _ _ last.1.tries.lends ∙ last.1.keeps.killed
  | inr more ↦ refill_killed batch rounds (transition call.table more.between more.later call.after) more.second
      ∙ (ap (λ (k : KnownMachine). k.killed) more.first.round.tries.does.machine ∙ more.first.round.keeps.killed)
]

filled_killed : (sizes : Config) (call : Transition VisitState) → FillsList sizes (Ok tt) call → SameKilled call
filled_killed sizes call h = elim h [
  | inl there ↦ ap (λ (k : KnownMachine). k.killed) there.does.machine
  | inr refills ↦ elim refills.does [
    | inl lends ↦ lent_killed lends.frames _ _ lends.lends
    | inr rounds ↦ refill_killed sizes.batch 16 _ rounds.does
  ]
]

room_alive : (g pages : ℕ) (refused_at : List ℕ) (call : Transition KnownMachine) → MakesRoom g refused_at pages call → is_killed call.before.killed g ≡ false
    → is_killed call.after.killed g ≡ false
room_alive g pages [] call h alive = ap (λ (m : KnownMachine). is_killed m.killed g) h.machine ∙ alive
room_alive g pages (limited ∷ others) call h alive =
    room_alive g pages others (transition call.table h.between h.later call.after) h.second h.first.room.alive

prepared_alive : (g pages : ℕ) (refused_at : List ℕ) (call : Transition KnownMachine) → PreparesCharge g refused_at pages call
    → is_killed call.before.killed g ≡ false → is_killed call.after.killed g ≡ false
prepared_alive g pages refused_at call h alive =
    room_alive g pages refused_at (transition call.table h.between h.later call.after) h.second (ap (λ k. is_killed k g) h.first.keeps.killed ∙ alive)

lacks_alive : (g pages : ℕ) (call : Transition KnownMachine) → LacksBatch g pages call → is_killed call.before.killed g ≡ false
    → is_killed call.after.killed g ≡ false
lacks_alive g pages call (inl high) alive = ap (λ (m : KnownMachine). is_killed m.killed g) high.1.machine ∙ alive
lacks_alive g pages call (inr limit) alive = ap (λ (m : KnownMachine). is_killed m.killed g) limit.machine ∙ alive

paid_alive : (sizes : Config) (g : ℕ) (call : Transition VisitState) → PaysForFrame sizes g (Ok tt) call → is_killed call.before.machine.killed g ≡ false
    → is_killed call.after.machine.killed g ≡ false
paid_alive sizes g call h alive = elim h [
  | inl held ↦ ap (λ (m : KnownMachine). is_killed m.killed g) held.does.machine ∙ alive
  | inr charges ↦
      let drained = ap (λ (m : KnownMachine). is_killed m.killed g) charges.does.first.drains.machine ∙ alive in
      elim charges.does.second [
        | inl whole ↦ ap (λ (m : KnownMachine). is_killed m.killed g) whole.fills.fills.machine ∙ drained
        | inr one ↦
            let lacks = lacks_alive g sizes.stock _ one.first.does drained in
            ap (λ (m : KnownMachine). is_killed m.killed g) one.second.does.fills.machine
            ∙ prepared_alive g 1 one.second.refused_at _ one.second.makes lacks
      ]
]

-- the group of a frame that was taken isn't killed
frame_alive : (sizes : Config) (g f : ℕ) (call : Transition VisitState) → AllocatesFrame sizes g (Ok f) call
    → is_killed call.after.machine.killed g ≡ false
frame_alive sizes g f call h =
    let gets = h.does in
    let paid = paid_alive sizes g (transition call.table call.before gets.paying gets.paid) gets.pays h.is in
    let filled = filled_killed sizes (transition call.table gets.paid gets.filling gets.filled) gets.fills in
    ap (λ (m : KnownMachine). is_killed m.killed g) gets.takes.machine ∙ (ap (λ k. is_killed k g) filled ∙ paid)

-- ---- the stock after it is of that group

-- a list of local steps is made in two parts
parts_of : (p : ℕ) (one two : Run) (s u : State) → IsLocalRun p s (one ++ two) u → (v : State) × IsLocalRun p s one v × IsLocalRun p v two u
parts_of p [] two s u run = (s, refl, run)
parts_of p (e ∷ one) two s u run =
    let rest = parts_of p one two (after s e.0.seat e.0.action e.1) u run.1 in (rest.0, (run.0, rest.1), rest.2)

-- a CPU that paid with a page of the group is the one that holds the lock, and its stock is of the group
taken_group : (p q g : ℕ) (s u : State) → IsLocalRun p s (take_front_steps q g) u → (q ≡ p) × ((u.parts q).stock.group ≡ Some g)
taken_group p q g s u run =
    let step = run.0 in (
      elim step.own [
        | inl zone ↦ absurd (false≢true (sym (ap (λ (k : ℕ). is_legal s k (Consume g)) zone) ∙ step.legal))
        | inr own ↦ own
      ],
      ap (λ (x : State). (x.parts q).stock.group) (sym run.1) ∙ ap (λ (x : Part). x.stock.group) (at_same s.parts q (paid (s.parts q))) ∙ step.answered.0,
    )

module _ (t : KnownTable) (group f : ℕ) (start now : LockedState) (a : IsServed t (Alloc group 0) (Frame f) start now) where
  abbrev held_at_end : KnownMachine
  held_at_end = with_run now.locked.machine a.left

  same_cpu : lock_holder (with_run start.locked.machine a.found) ≡ now.cpu.part.number
  same_cpu = sym a.makes.holder ∙ a.released.holds.who

  -- when the visit was shut
  group_seen : ((local_of t held_at_end).parts now.cpu.part.number).stock.group ≡ Some group
  group_seen =
      let p = lock_holder (with_run start.locked.machine a.found) in
      let s = local_of t (with_run start.locked.machine a.found) in
      let u = local_of t held_at_end in
      let c = start.cpu.part.number in
      let gets = (a.serves.executes.1.frame refl).does in
      let q = a.serves.settled.cpu.number in
      let settling = settle_steps t (visit_state_of start) in
      let all = subst (λ (r : Run). IsLocalRun p s r u) a.serves.steps_are a.makes.leads in
      let opened = parts_of p (open_steps c) (settling ++ (a.serves.inner ++ shut_steps c)) s u all in
      let settled = parts_of p settling (a.serves.inner ++ shut_steps c) opened.0 u opened.2 in
      let made = parts_of p a.serves.inner (shut_steps c) settled.0 u settled.2 in
      let inner = subst (λ (r : Run). IsLocalRun p settled.0 r made.0) gets.steps_are made.1 in
      let paid = parts_of p gets.paying (gets.filling ++ take_front_steps q group) settled.0 made.0 inner in
      let filled = parts_of p gets.filling (take_front_steps q group) paid.0 made.0 paid.2 in
      let taken = taken_group p q group filled.0 made.0 filled.2 in
      subst (λ (k : ℕ). (u.parts k).stock.group ≡ Some group) (taken.0 ∙ same_cpu)
      (ap (λ (x : State). (x.parts q).stock.group) (sym made.2.1) ∙ taken.1)

  -- the frame is one of the zone
  pub frame_inside : now.cpu.part.fresh ≡ f ∷ [] → f < t.frames
  frame_inside fresh =
      let holds = a.released.holds in
      let q = now.cpu.part.number in
      let s = local_of t held_at_end in
      let p = lock_holder held_at_end in
      let some : 1 ≤ times f (s.parts p).fresh =
      subst (λ (k : ℕ). 1 ≤ times f (s.parts k).fresh) (sym holds.who) (let e = ap (times f) (holds.own.fresh ∙ fresh) in let one = times_same f in omega (arith, e, one)) in
      let mine = fresh_own (zone_of_boot t) (cpu_past a.left.past).seen p holds.held.holds.shows.legal f group some
      (subst (λ (k : ℕ). (s.parts k).stock.group ≡ Some group) (sym holds.who) group_seen) in
      let low = below_frames s.zone f mine.framed in
      let same = ap (λ (z : Zone). z.frames) (zone_seen t a.left.past) in
      omega (arith, low, same)

  -- when the CPU is settled in its next visit
  group_then : (cmd : LockedCommand) (r : Outcome) (end : LockedState) (d : IsServed t cmd r now end)
      → stock_group t (with_run now.locked.machine d.serves.seen) now.cpu.part.number ≡ Some group
  group_then cmd r end d =
      let q = now.cpu.part.number in
      let x = with_run now.locked.machine d.found in
      ap (λ (y : Part). y.stock.group) (parts_after t x (open_steps q) (with_run now.locked.machine d.serves.seen) d.opens d.taken.holds.held q refl)
      ∙ ap (λ (y : State). (y.parts q).stock.group) d.taken.locks.found
      ∙ ap (λ (y : State). (y.parts q).stock.group) a.released.unlocks.left
      ∙ group_seen

-- ---- the Dirty

none_back : (back : List ℕ) (m n : VisitState) → back ≡ [] → ReturnsAllBack back m n → n.machine ≡ m.machine
none_back [] m n none s = s.machine
none_back (f ∷ rest) m n none s = let e = ap length none in absurd (omega (arith, e))

none_fresh : (t : KnownTable) (fresh : List ℕ) (m n : VisitState) → fresh ≡ [] → SettlesAllFresh t fresh m n → n.machine ≡ m.machine
none_fresh t [] m n none s = s.machine
none_fresh t (f ∷ rest) m n none s = let e = ap length none in absurd (omega (arith, e))

-- a single fresh frame, of a group that isn't killed, is kept
one_fresh : (t : KnownTable) (f : ℕ) (m n : VisitState) → is_fresh_killed t m ≡ false → SettlesAllFresh t (f ∷ []) m n → IsHome n.machine f
one_fresh t f m n alive s = (_, ap (λ (k : KnownMachine). home_of k.links f) s.rest.machine ∙ (s.first.keeps alive).listed.home)

module _ (t : KnownTable) (group f : ℕ) (start now : LockedState) where
  -- the frame that the Alloc gave is a kept unit, once its CPU is settled
  settled_home : (order : ℕ) → IsServed t (Alloc group order) (Frame f) start now → FreshOf (Frame f) order now.cpu.part.fresh → now.cpu.part.back ≡ []
      → (r : Outcome) (end : LockedState) (d : IsServed t (Dirty f) r now end) → IsHome d.serves.settled.machine f
  settled_home zero a fresh back r end d =
      let m = with_run_at (begun (visit_state_of now)) d.serves.seen in
      let s = d.serves.settles in
      let call = transition t a.serves.settled a.serves.inner (visit_state a.serves.done now.cpu.part) in
      let alive = ap (λ (x : KnownMachine). is_killed x.killed group) a.serves.machine
      ∙ frame_alive start.locked.sizes group f call (a.serves.executes.1.frame refl) in
      let kept = one_fresh t f m s.mid
      (ap (λ (o : Option ℕ). is_killed now.locked.machine.killed (unwrap_or o 0)) (group_then t group f start now a (Dirty f) r end d) ∙ alive)
      (subst (λ (l : List ℕ). SettlesAllFresh t l m s.mid) fresh s.fresh) in
      (kept.0, ap (λ (k : KnownMachine). home_of k.links f) (none_back m.cpu.back s.mid d.serves.settled back s.back) ∙ kept.1)
  settled_home (suc less) a fresh back r end d =
      let m = with_run_at (begun (visit_state_of now)) d.serves.seen in
      let s = d.serves.settles in
      let call = transition t a.serves.settled a.serves.inner (visit_state a.serves.done now.cpu.part) in
      let kept = block_home group (suc less) f call (a.serves.executes.1.block (λ e. omega (arith, e))) in (
        kept.0,
        ap (λ (k : KnownMachine). home_of k.links f) (none_back m.cpu.back s.mid d.serves.settled back s.back ∙ none_fresh t m.cpu.fresh m s.mid fresh s.fresh)
            ∙ (ap (λ (x : KnownMachine). home_of x.links f) a.serves.machine ∙ kept.1),
      )

  unit_noted : (r : Outcome) (call : Transition KnownMachine) → NotesDirt f true r call → IsHome call.before f → r ≡ Done
  unit_noted Done call h home = refl
  unit_noted (Refused NotKept) call h home = absurd (none-some home.0 (sym h.on_no_list ∙ home.1))
  unit_noted r call h home = absurd h

  -- so the reply to the Dirty is Done
  pub dirty_done : (order : ℕ) → IsServed t (Alloc group order) (Frame f) start now → FreshOf (Frame f) order now.cpu.part.fresh → now.cpu.part.back ≡ []
      → (r : Outcome) (end : LockedState) → IsServed t (Dirty f) r now end → r ≡ Done
  dirty_done order a fresh back r end d = unit_noted r _ d.serves.executes.does.does (settled_home order a fresh back r end d)

  -- the frame is one of the zone
  pub given_inside : (order : ℕ) → IsServed t (Alloc group order) (Frame f) start now → FreshOf (Frame f) order now.cpu.part.fresh
      → IsConsistent t now.locked.machine → f < t.frames
  given_inside zero a fresh ok = frame_inside t group f start now a fresh
  given_inside (suc less) a fresh ok =
      let call = transition t a.serves.settled a.serves.inner (visit_state a.serves.done now.cpu.part) in
      let kept = block_home group (suc less) f call (a.serves.executes.1.block (λ e. omega (arith, e))) in
      home_inside t now.locked.machine ok f kept.0 (ap (λ (x : KnownMachine). home_of x.links f) a.serves.machine ∙ kept.1)
