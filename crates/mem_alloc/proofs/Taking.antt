-- Blocks that are charged and taken. Serves `charge_block`, `take_after_drain` and `alloc_block`.
use Rattle.std.proofs.Common.{◌≡◌, ℕ, ◌^◌, ◌<◌, ◌≤◌, true, false, List, [], ◌∷◌, ◌++◌, length, take, refl, sym, ap, ◌∙◌, subst, inl, inr, arith}
use Rattle.std.specs.Prelude.{Result, Ok, Err}
use Rattle.std.proofs.lemmas.Bool.{cases_lt, false≢true}
use Rattle.std.proofs.lemmas.List.{append-nil, length-append, take_all}
use Rattle.group_tree.specs.declared.group.Group.{Group}
use Rattle.group_tree.specs.{has_group, PathHasRoom, IsLowestOver}
use Rattle.group_charge.specs.declared.charges.Over.{Over as OverLimit}
use Rattle.group_charge.specs.Charges.{current_of, with_charge, with_uncharge}
use Rattle.boot_words.specs.Tables.{KnownTable}
use Rattle.cpu_part.specs.Cpus.{KnownCpuLists}
use Rattle.step_rules.specs.After.{Run}
use Rattle.mem_machine.specs.declared.blocks.TakeFault.{TakeFault}
use Rattle.mem_machine.specs.declared.blocks.TakeFault.TheVariants as fault
use Rattle.group_charge.specs.declared.note.Note.{Note}
use Rattle.mem_machine.specs.{KnownMachine, is_killed, with_note, with_run, Makes, VisitMakes, VisitState, visit_state, UnlistsMany, TakesBlock}
use Rattle.mem_machine.specs.{TakesNoBlock, RefusesBlock, block_steps, taken_steps, unplaced_steps, HasRoomFor, over_steps, drain_list_steps, BySteps}
use Rattle.mem_machine.specs.{Transition, transition}
use Rattle.mem_alloc.specs.declared.faults.AllocFault.{AllocFault}
use Rattle.mem_alloc.specs.declared.faults.AllocFault.TheVariants.{Over, NoFrames, RequesterKilled}
use Rattle.mem_alloc.specs.{AfterRoom, IsRefusedFor, IsRoomAnswer, AllocatesBlock, ChargesBlock, FindsNoBlock, MayHaveBlock, RetriesBlock}
use Rattle.mem_alloc.specs.{TakesAfterDrain, TakesFreeBlock, TakesInRounds, TakesOrReclaims}
use Rattle.mem_alloc.proofs.Lowering.{Lowers, lowers_none, lowered_fits, usage_back, room_back}
use Rattle.mem_alloc.proofs.Making.{RoomSoFar, so_far_does}
use Rattle.mem_alloc.proofs.Rounding.{FailureSpares}
use Rattle.mem_machine.proofs.Followed.{makes_both}

-- ---- one try

-- the limit of a group had no room
pub is_refused : (m n : KnownMachine) (g k : ℕ) (e : TakeFault) (o : OverLimit) → e ≡ fault.Over o → RefusesBlock g k e m n
    → IsLowestOver m.ledger.groups (current_of m.ledger) g (2 ^ k) o.group × (n ≡ with_run m n.run)
is_refused m n g k e o is refuses = subst (λ (x : TakeFault). RefusesBlock g k x m n) is refuses

pub by_refusal : {t : KnownTable} (g k : ℕ) (a b : KnownMachine) (e : TakeFault) (o : OverLimit) → e ≡ fault.Over o → Makes t a (block_steps g k (Err e)) b
    → Makes t a (over_steps g (2 ^ k) o.group) b
by_refusal {t = t} g k a b e o is steps = subst (λ (x : TakeFault). Makes t a (block_steps g k (Err x)) b) is steps

-- no block was free
pub is_none : (m n : KnownMachine) (g k : ℕ) (e : TakeFault) → e ≡ fault.NoBlock → RefusesBlock g k e m n → TakesNoBlock g k m n
is_none m n g k e is refuses = subst (λ (x : TakeFault). RefusesBlock g k x m n) is refuses

pub by_none : {t : KnownTable} (g k : ℕ) (a b : KnownMachine) (e : TakeFault) → e ≡ fault.NoBlock → Makes t a (block_steps g k (Err e)) b
    → Makes t a (unplaced_steps g k) b
by_none {t = t} g k a b e is steps = subst (λ (x : TakeFault). Makes t a (block_steps g k (Err x)) b) is steps

-- what it leaves, if it was tried after usages fell
room_left : (t : KnownTable) (g k : ℕ) (m x n : KnownMachine) → Lowers t m x → is_killed x.killed g ≡ false → TakesNoBlock g k x n → has_group m.ledger.groups g ≡ true
    → HasRoomFor m (2 ^ k) → MayHaveBlock n g k
room_left t g k m x n lowers alive none there fits =
    let ledger : n.ledger ≡ with_uncharge (with_charge x.ledger g (2 ^ k)) g (2 ^ k) = ap (λ (z : KnownMachine). z.ledger) none.machine in
    let groups : n.ledger.groups ≡ m.ledger.groups = ap (λ (z : KnownMachine). z.ledger.groups) none.machine ∙ lowers.groups in
    let here : HasRoomFor x (2 ^ k) = lowered_fits t m x (2 ^ k) lowers fits in
    let back : current_of n.ledger 0 ≡ current_of x.ledger 0 = ap (λ l. current_of l 0) ledger ∙ usage_back x.ledger g (2 ^ k) 0 in
    record {
      charges = record {
        there = ap (λ (l : List Group). has_group l g) groups ∙ there;
        alive = ap (λ (z : KnownMachine). is_killed z.killed g) none.machine ∙ alive;
        fits = omega (arith, here, back);
      };
      room = subst (λ l. PathHasRoom l.groups (current_of l) g (2 ^ k)) (sym ledger) (room_back x.ledger g (2 ^ k) none.room);
    }

-- ---- after the tries that were refused

module _ (t : KnownTable) (g k : ℕ) (c : KnownCpuLists) (m x : KnownMachine) (so_far : RoomSoFar t g (2 ^ k) c m x) (y : KnownCpuLists) (mine : y ≡ c)
    (n : KnownMachine) (d : KnownCpuLists) where
  does_here : (Does : Transition VisitState → Type 0) → BySteps VisitMakes t Does (visit_state x y) (visit_state n d) → BySteps VisitMakes t (AfterRoom g (2 ^ k) Does) (visit_state m c) (visit_state n d)
  does_here Does b = so_far_does t g (2 ^ k) c m x so_far Does n d (subst (λ (e : KnownCpuLists). BySteps VisitMakes t Does (visit_state x e) (visit_state n d)) mine b)

  pub so_far_takes : (head : ℕ) → TakesBlock g k head x n → d ≡ y → Makes t x (taken_steps g k head) n
      → BySteps VisitMakes t (AfterRoom g (2 ^ k) (TakesFreeBlock g k head)) (visit_state m c) (visit_state n d)
  so_far_takes head takes cpu run =
      does_here (TakesFreeBlock g k head)
      (record { steps = taken_steps g k head; does = record { takes = takes; cpu = cpu; steps_are = refl }; makes = run })

  pub so_far_no_block : TakesNoBlock g k x n → d ≡ y → Makes t x (unplaced_steps g k) n
      → BySteps VisitMakes t (AfterRoom g (2 ^ k) (FindsNoBlock g k)) (visit_state m c) (visit_state n d)
  so_far_no_block none cpu run =
      does_here (FindsNoBlock g k)
      (record { steps = unplaced_steps g k; does = record { none = none; cpu = cpu; steps_are = refl }; makes = run })

  -- what a call for which no block is free leaves
  pub room_still : TakesNoBlock g k x n → has_group m.ledger.groups g ≡ true → HasRoomFor m (2 ^ k) → MayHaveBlock n g k
  room_still none there fits = room_left t g k m x n so_far.lowers so_far.alive none there fits

-- a charge is refused for good
charges_refused : (t : KnownTable) (g k : ℕ) (e : AllocFault) (a b : VisitState)
    → BySteps VisitMakes t (IsRefusedFor g (2 ^ k) e) a b → BySteps VisitMakes t (ChargesBlock g k (Err e)) a b
charges_refused t g k (Over over) a b by = by
charges_refused t g k NoFrames a b by = absurd by.does.does.does.1.room
charges_refused t g k RequesterKilled a b by = by

pub over_charges : (t : KnownTable) (g k : ℕ) (r : Result ℕ AllocFault) (x : AllocFault) (m n : KnownMachine) (c d : KnownCpuLists) → r ≡ Err x
    → d ≡ c → BySteps VisitMakes t (IsRefusedFor g (2 ^ k) x) (visit_state m c) (visit_state n c) → BySteps VisitMakes t (ChargesBlock g k r) (visit_state m c) (visit_state n d)
over_charges t g k r x m n c d is cpu by =
    subst (λ (z : KnownCpuLists × Result ℕ AllocFault). BySteps VisitMakes t (ChargesBlock g k z.1) (visit_state m c) (visit_state n z.0)) (λ i. (sym cpu i, sym is i))
    (charges_refused t g k x (visit_state m c) (visit_state n c) by)

abbrev fault_of : Result ℕ AllocFault → AllocFault
fault_of (Ok head) = RequesterKilled
fault_of (Err cause) = cause

-- which isn't for want of a free block
pub over_not_none : (g k over : ℕ) (r : Result ℕ AllocFault) (x : AllocFault) (n : KnownMachine) → r ≡ Err x
    → IsRoomAnswer g over (2 ^ k) (Err x) n → r ≡ Err NoFrames → ⊥
over_not_none g k over r x n is why none =
    let same : x ≡ NoFrames = sym (ap fault_of is) ∙ ap fault_of none in
    subst (λ (z : AllocFault). IsRoomAnswer g over (2 ^ k) (Err z) n) same why

-- ---- the list that is returned to the zone

pub record BackPart (frames : List ℕ) (m : KnownMachine) (c : KnownCpuLists) (n : KnownMachine) (d : KnownCpuLists) : Type 0 where
  pub split : c.list ≡ frames ++ d.list
  pub number : d.number ≡ c.number
  pub fresh : d.fresh ≡ c.fresh
  pub back : d.back ≡ c.back
  pub ledger : n.ledger ≡ m.ledger
  pub killed : n.killed ≡ m.killed

pub back_part : (frames : List ℕ) (m n : KnownMachine) (c d : KnownCpuLists) → UnlistsMany frames (visit_state m c) (visit_state n d) → BackPart frames m c n d
back_part [] m n c d h = record {
  split = sym (ap (λ (e : KnownCpuLists). e.list) h.cpu);
  number = ap (λ (e : KnownCpuLists). e.number) h.cpu;
  fresh = ap (λ (e : KnownCpuLists). e.fresh) h.cpu;
  back = ap (λ (e : KnownCpuLists). e.back) h.cpu;
  ledger = ap (λ (z : KnownMachine). z.ledger) h.machine;
  killed = ap (λ (z : KnownMachine). z.killed) h.machine;
}
back_part (f ∷ frames) m n c d h =
    let one = h.first in
    let more = back_part frames h.between.machine n h.between.cpu d h.rest in
    record {
      split = one.front ∙ ap (λ (l : List ℕ). f ∷ l) (sym (ap (λ (e : KnownCpuLists). e.list) one.cpu) ∙ more.split);
      number = more.number ∙ ap (λ (e : KnownCpuLists). e.number) one.cpu;
      fresh = more.fresh ∙ ap (λ (e : KnownCpuLists). e.fresh) one.cpu;
      back = more.back ∙ ap (λ (e : KnownCpuLists). e.back) one.cpu;
      ledger = more.ledger ∙ ap (λ (z : KnownMachine). z.ledger) one.machine;
      killed = more.killed ∙ ap (λ (z : KnownMachine). z.killed) one.machine;
    }

-- if as many frames were asked for as the list has, all were returned
pub all_back : (k count : ℕ) (list left : List ℕ) → k ≤ count → count ≡ length list → (k < count → left ≡ []) → list ≡ take k list ++ left → take k list ≡ list
all_back k count list left few counts rest split = elim (cases_lt k count) [
  | inl less ↦ sym (split ∙ ap (λ (l : List ℕ). take k list ++ l) (rest less) ∙ append-nil (take k list))
  | inr enough ↦ take_all k list (omega (arith, counts, enough))
]

-- every limit of the path has room, so no try is refused
pub never_over : (m : KnownMachine) (g pages over : ℕ) → PathHasRoom m.ledger.groups (current_of m.ledger) g pages
    → IsLowestOver m.ledger.groups (current_of m.ledger) g pages over → ⊥
never_over m g pages over room low = false≢true (sym low.over ∙ room over low.on_path)

-- ---- rounds of reclaim

-- a try that finds no block keeps usages and stocks
pub none_spares : (t : KnownTable) (g k : ℕ) → FailureSpares t (FindsNoBlock g k)
none_spares t g k m n c d steps h = record {
  lowers = record {
    groups = ap (λ (y : KnownMachine). y.ledger.groups) h.none.machine;
    killed = λ v dead. ap (λ (y : KnownMachine). is_killed y.killed v) h.none.machine ∙ dead;
    falls = λ j.
        let ledger = ap (λ (y : KnownMachine). current_of y.ledger j) h.none.machine in
        let back : current_of n.ledger j ≡ current_of m.ledger j = ledger ∙ usage_back m.ledger g (2 ^ k) j in
        omega (arith, back);
  };
  killed = ap (λ (y : KnownMachine). y.killed) h.none.machine;
  cpu = h.cpu;
}

-- what one try that finds no block leaves
pub none_leaves : (t : KnownTable) (g k : ℕ) (m n : KnownMachine) (c d : KnownCpuLists) → TakesNoBlock g k m n → is_killed m.killed g ≡ false → has_group m.ledger.groups g ≡ true
    → HasRoomFor m (2 ^ k) → MayHaveBlock n g k
none_leaves t g k m n c d none alive there fits = room_left t g k m m n (lowers_none t m) alive none there fits

-- a note leaves the room for a block
pub noted_room : (m : KnownMachine) (note : Note) (g k : ℕ) → MayHaveBlock m g k → MayHaveBlock (with_note m note) g k
noted_room m note g k may = record {
  charges = let c = may.charges in record { there = c.there; alive = c.alive; fits = c.fits };
  room = may.room;
}

-- ---- what the second try leaves
module _ (t : KnownTable) (g k : ℕ) (m x n : KnownMachine) (c y d : KnownCpuLists) (count listed : ℕ) (counts : listed ≡ length c.list) (few : count ≤ listed)
    (gives : UnlistsMany (take count c.list) (visit_state m c) (visit_state x y)) (rest : count < listed → y.list ≡ []) (stays : d ≡ y)
    (giving : Makes t m (drain_list_steps c.number (take count c.list)) x) where
  part : BackPart (take count c.list) m c x y
  part = back_part (take count c.list) m x c y gives

  whole : take count c.list ≡ c.list
  whole = all_back count listed c.list y.list few counts rest part.split

  given : UnlistsMany c.list (visit_state m c) (visit_state x d)
  given = subst (λ (z : List ℕ × KnownCpuLists). UnlistsMany z.0 (visit_state m c) (visit_state x z.1)) (λ i. (whole i, sym stays i)) gives

  by_giving : Makes t m (drain_list_steps c.number c.list) x
  by_giving = subst (λ (z : List ℕ). Makes t m (drain_list_steps c.number z) x) whole giving

  then : (steps : Run) → Makes t x steps n → Makes t m (drain_list_steps c.number c.list ++ steps) n
  then steps run = makes_both t (drain_list_steps c.number c.list) steps m x n by_giving run

  takes_drained : (r : Result ℕ AllocFault) → BySteps VisitMakes t (TakesOrReclaims g k r) (visit_state x y) (visit_state n d)
      → BySteps VisitMakes t (TakesAfterDrain g k r) (visit_state m c) (visit_state n d)
  takes_drained r b = record {
    steps = drain_list_steps c.number c.list ++ b.steps;
    does = record {
      drained = x;
      later = b.steps;
      drains = given;
      takes = subst (λ (z : KnownCpuLists). TakesOrReclaims g k r (transition t (visit_state x z) b.steps (visit_state n d))) (sym stays) b.does;
      steps_are = refl;
    };
    makes = then b.steps b.makes;
  }

  -- it takes the block
  pub takes_after : (head : ℕ) → TakesBlock g k head x n → Makes t x (taken_steps g k head) n
      → BySteps VisitMakes t (TakesAfterDrain g k (Ok head)) (visit_state m c) (visit_state n d)
  takes_after head takes run =
      takes_drained (Ok head)
      (record { steps = taken_steps g k head; does = inl (record { takes = takes; cpu = stays; steps_are = refl }); makes = run })

  -- or finds none, and rounds of reclaim follow
  module _ (w : KnownMachine) (z : KnownCpuLists) (none : TakesNoBlock g k x w) (same : z ≡ y)
      (vain : Makes t x (unplaced_steps g k) w) where
    in_rounds : (r : Result ℕ AllocFault) → BySteps VisitMakes t (TakesInRounds g k r) (visit_state w z) (visit_state n d) → BySteps VisitMakes t (TakesOrReclaims g k r) (visit_state x y) (visit_state n d)
    in_rounds r there =
        let rounds = subst (λ (u : KnownCpuLists). BySteps VisitMakes t (TakesInRounds g k r) (visit_state w u) (visit_state n d)) same there in
        record {
          steps = unplaced_steps g k ++ rounds.steps;
          does = inr (record {
            between = visit_state w y;
            earlier = unplaced_steps g k;
            later = rounds.steps;
            first = record { none = none; cpu = refl; steps_are = refl };
            second = rounds.does;
            steps_are = refl;
          });
          makes = makes_both t (unplaced_steps g k) rounds.steps x w n vain rounds.makes;
        }

    pub reclaims_after : (r : Result ℕ AllocFault) → BySteps VisitMakes t (TakesInRounds g k r) (visit_state w z) (visit_state n d) → BySteps VisitMakes t (TakesAfterDrain g k r) (visit_state m c) (visit_state n d)
    reclaims_after r there = takes_drained r (in_rounds r there)

  pub list_shrinks : length d.list ≤ length c.list
  list_shrinks =
      let a = ap length part.split ∙ length-append (take count c.list) y.list in
      let b = ap (λ (e : KnownCpuLists). length e.list) stays in
      omega (arith, a, b)

-- ---- the whole allocation

-- after the list was drained no limit is in the way, and nobody is killed
no_over : (g k over : ℕ) (call : Transition VisitState) → TakesAfterDrain g k (Err (Over over)) call → ⊥
no_over g k over call h = elim h.takes [
  | inl none ↦ none
  | inr rounds ↦ rounds.second
]

no_kill : (g k : ℕ) (call : Transition VisitState) → TakesAfterDrain g k (Err RequesterKilled) call → ⊥
no_kill g k call h = elim h.takes [
  | inl none ↦ none
  | inr rounds ↦ rounds.second
]

module _ (t : KnownTable) (g k : ℕ) (m : KnownMachine) (c : KnownCpuLists) (alive : is_killed m.killed g ≡ false) where
  by_answer : (r : Result ℕ AllocFault) (n : VisitState) → BySteps VisitMakes t (RetriesBlock g k r) (visit_state m c) n → BySteps VisitMakes t (AllocatesBlock g k r) (visit_state m c) n
  by_answer (Ok head) n b = record { steps = b.steps; does = inr (record { is = alive; does = b.does }); makes = b.makes }
  by_answer (Err NoFrames) n b = record { steps = b.steps; does = record { is = alive; does = b.does }; makes = b.makes }
  by_answer (Err (Over over)) n b = absurd (no_over g k over _ b.does.second)
  by_answer (Err RequesterKilled) n b = absurd (no_kill g k _ b.does.second)

  -- no block is free at first, and what comes of the drained list decides
  pub decides_drained : (r : Result ℕ AllocFault) (cause : AllocFault) (x n : KnownMachine) (y d : KnownCpuLists) → cause ≡ NoFrames → y ≡ c
      → BySteps VisitMakes t (ChargesBlock g k (Err cause)) (visit_state m c) (visit_state x y)
      → BySteps VisitMakes t (TakesAfterDrain g k r) (visit_state x y) (visit_state n d) → BySteps VisitMakes t (AllocatesBlock g k r) (visit_state m c) (visit_state n d)
  decides_drained r cause x n y d named mine charged drained =
      let first = subst (λ (f : AllocFault). BySteps VisitMakes t (ChargesBlock g k (Err f)) (visit_state m c) (visit_state x y)) named charged in
      by_answer r (visit_state n d) (record {
        steps = first.steps ++ drained.steps;
        does = record {
          between = visit_state x y;
          earlier = first.steps;
          later = drained.steps;
          first = first.does;
          second = drained.does;
          steps_are = refl;
        };
        makes = makes_both t first.steps drained.steps m x n first.makes drained.makes;
      })
