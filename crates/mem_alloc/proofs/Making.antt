-- Charges that are refused, one after the other. Serves the loops of `fill_one` and `charge_block`.
use Rattle.std.proofs.Common.{◌≡◌, ℕ, ◌+◌, ◌<◌, Bool, false, Option, Some, None, List, [], ◌∷◌, ◌++◌, refl, sym, ap, ◌∙◌, subst}
use Rattle.std.specs.Prelude.{nat_le, Result, Ok, Err, IsErr, IfErr, IfOk, MatchResult}
use Rattle.std.proofs.lemmas.Bool.{false≢true, leb-false}
use Rattle.std.proofs.lemmas.List.{append_assoc, append-nil}
use Rattle.boot_words.specs.Pasts.{IsHeld}
use Rattle.group_tree.specs.declared.group.Group.{Group}
use Rattle.group_tree.specs.{limit_of, IsLowestOver, fits_limit}
use Rattle.group_charge.specs.Charges.{current_of, with_max_noted}
use Rattle.boot_words.specs.Tables.{KnownTable}
use Rattle.cpu_part.specs.Cpus.{KnownCpuLists}
use Rattle.step_rules.specs.After.{Run}
use Rattle.mem_machine.specs.{KnownMachine, is_killed, with_run, Makes, StaysVisited, VisitMakes, Visits, VisitState, visit_state, over_steps}
use Rattle.mem_machine.specs.{note_max_steps, drain_stocks_steps, fill_steps, Fills, DrainsSubtree, DrainsAllBelow, AreDrained, BySteps, Transition}
use Rattle.mem_machine.specs.{transition}
use Rattle.mem_reclaim.specs.Wanted.{progress}
use Rattle.mem_reclaim.specs.{FreesBySteps, ReclaimsRounds, pages_wanted, Keeps, MissedAll}
use Rattle.mem_reclaim.proofs.Keeping.{keeps_none}
use Rattle.mem_reclaim.proofs.Moving.{moves_rest}
use Rattle.mem_alloc.specs.{AfterRoom, ClearsBelow, HasMadeRoom, IsRefusedAt, IsRefusedFor, IsRoomAnswer, ReclaimsHigh, KillsForFewPages, KillsIfAllowed, MakesRoom}
use Rattle.mem_alloc.specs.{PreparesCharge, ReclaimsBefore, ReclaimsFor, RelievesLimit, with_limit_noted, with_max_noted_at, ChargesOne, FillsStock}
use Rattle.mem_alloc.specs.declared.faults.AllocFault.{AllocFault}
use Rattle.mem_alloc.proofs.Lowering.{Lowers, keeps_lower, lowers_both, run_lowers}
use Rattle.mem_alloc.proofs.Killing.{relieving_lowers}
use Rattle.mem_machine.proofs.Followed.{makes_both, makes_none}
use Rattle.mem_machine.proofs.Made.{visit_same}

-- the note of a limit makes no step
pub limit_visits : (t : KnownTable) (g pages : ℕ) (m x : KnownMachine) → x ≡ with_limit_noted m g pages → StaysVisited t m x
limit_visits t g pages m x is =
    subst (StaysVisited t m) (sym is) (λ c v. visit_same t m (with_limit_noted m g pages) c refl v)

pub limit_held : (t : KnownTable) (g pages : ℕ) (m x : KnownMachine) → x ≡ with_limit_noted m g pages → IsHeld t m.run.past → IsHeld t x.run.past
limit_held t g pages m x is held = subst (λ (y : KnownMachine). IsHeld t y.run.past) (sym is) held

-- the notes, and then the drains. Serves `make_room`
pub clears_by : (t : KnownTable) (g pages back : ℕ) (m y x n : KnownMachine) → y ≡ with_limit_noted m g pages → x ≡ record y { ledger = with_max_noted y.ledger g; run = x.run }
    → Makes t y (note_max_steps g) x → DrainsSubtree t g back x n → AreDrained t g n → BySteps Makes t (ClearsBelow g pages) m n
clears_by t g pages back m y x n told noted noting_y drains drained =
    let both : x ≡ with_run (with_max_noted_at m g pages) x.run =
    noted ∙ ap (λ (k : KnownMachine). record k { ledger = with_max_noted k.ledger g; run = x.run }) told in
    let noting_told : Makes t (with_limit_noted m g pages) (note_max_steps g) x =
    subst (λ (k : KnownMachine). Makes t k (note_max_steps g) x) told noting_y in
    let noting : Makes t m (note_max_steps g) x =
    record { holder = noting_told.holder; leads = noting_told.leads; follows = noting_told.follows; counts = noting_told.counts; noted = noting_told.noted } in
    let both_made = makes_both t (note_max_steps g) (drain_stocks_steps drains.drains) m x n noting drains.steps in record {
      steps = note_max_steps g ++ drain_stocks_steps drains.drains;
      does = record {
        drains = drains.drains;
        seen = x.run;
        notes = subst (Makes t m (note_max_steps g)) both noting;
        all = subst (λ (k : KnownMachine). DrainsAllBelow t g t.cpus drains.drains k n) both drains.all;
        drained = drained;
        steps_are = refl;
        runs = both_made;
      };
      makes = both_made;
    }

-- and then the rounds, and the kills
pub relieves_by : (t : KnownTable) (r g pages : ℕ) (m x y n : KnownMachine) → BySteps Makes t (ClearsBelow g pages) m x → BySteps Makes t (ReclaimsFor g pages) x y
    → BySteps Makes t (KillsIfAllowed (KillsForFewPages r g pages)) y n → BySteps Makes t (RelievesLimit r g pages) m n
relieves_by t r g pages m x y n first next last = record {
  steps = first.steps ++ (next.steps ++ last.steps);
  does = record {
    between = x;
    earlier = first.steps;
    later = next.steps ++ last.steps;
    first = first.does;
    second = record { between = y; earlier = next.steps; later = last.steps; first = next.does; second = last.does; steps_are = refl };
    steps_are = refl;
  };
  makes = makes_both t first.steps (next.steps ++ last.steps) m x n first.makes (makes_both t next.steps last.steps x y n next.makes last.makes);
}

-- there is no limit
pub no_rounds : (t : KnownTable) (g pages : ℕ) (m : KnownMachine) → limit_of m.ledger.groups g ≡ None → BySteps Makes t (ReclaimsFor g pages) m m
no_rounds t g pages m none = record {
  steps = [];
  does = record {
    freed = 0;
    reclaims = subst (λ (o : Option ℕ). ReclaimsBefore o t.choices.reclaim_batch g pages (progress 0 m [] m)) (sym none) (record { no_page = refl; machine = refl; no_step = refl });
    missed = λ over. absurd (false≢true (sym over ∙ ap (λ (o : Option ℕ). fits_limit o (current_of m.ledger g + pages)) none));
    keeps = keeps_none t m;
    moves = moves_rest t m;
  };
  makes = makes_none t m;
}

-- there is one
pub rounds_for : (t : KnownTable) (g pages limit batch freed : ℕ) (m n : KnownMachine) → limit_of m.ledger.groups g ≡ Some limit
    → batch ≡ t.choices.reclaim_batch → FreesBySteps t freed m n (ReclaimsRounds g (pages_wanted batch g pages limit) 16)
    → (limit < current_of n.ledger g + pages → MissedAll g m n) → Keeps t m n → BySteps Makes t (ReclaimsFor g pages) m n
rounds_for t g pages limit batch freed m n is chosen leads missed keeps = record {
  steps = leads.steps;
  does = record {
    freed = freed;
    reclaims = subst (λ (x : Option ℕ × ℕ). ReclaimsBefore x.0 x.1 g pages (progress freed m leads.steps n)) (λ i. (sym is i, chosen i)) leads.does;
    missed = λ over.
        let here : limit_of n.ledger.groups g ≡ Some limit = ap (λ (l : List Group). limit_of l g) keeps.groups ∙ is in
        let full : nat_le (current_of n.ledger g + pages) limit ≡ false =
        sym (ap (λ (o : Option ℕ). fits_limit o (current_of n.ledger g + pages)) here) ∙ over in
        missed (leb-false (current_of n.ledger g + pages) limit full);
    keeps = keeps;
    moves = leads.moves;
  };
  makes = leads.moves.runs;
}

-- charges that were refused, and then one more
room_more : (t : KnownTable) (g pages over : ℕ) (before : List ℕ) (m x n : KnownMachine) (making last : Run) → MakesRoom g before pages (transition t m making x)
    → IsRefusedAt g over pages (Ok tt) (transition t x last n) → MakesRoom g (before ++ over ∷ []) pages (transition t m (making ++ last) n)
room_more t g pages over [] m x n making last makes refused = record {
  between = n;
  earlier = last;
  later = [];
  first = subst (λ (y : KnownMachine). IsRefusedAt g over pages (Ok tt) (transition t y last n)) makes.machine refused;
  second = record { machine = refl; steps_are = refl };
  steps_are = ap (λ (r : Run). r ++ last) makes.steps_are ∙ sym (append-nil last);
}
room_more t g pages over (h ∷ before) m x n making last makes refused = record {
  between = makes.between;
  earlier = makes.earlier;
  later = makes.later ++ last;
  first = makes.first;
  second = room_more t g pages over before makes.between x n makes.later last makes.second refused;
  steps_are = ap (λ (r : Run). r ++ last) makes.steps_are ∙ append_assoc makes.earlier makes.later last;
}

-- the same after what memory.high asks for
prepared_more : (t : KnownTable) (g pages over : ℕ) (before : List ℕ) (m x n : KnownMachine) (making last : Run) → PreparesCharge g before pages (transition t m making x)
    → IsRefusedAt g over pages (Ok tt) (transition t x last n) → PreparesCharge g (before ++ over ∷ []) pages (transition t m (making ++ last) n)
prepared_more t g pages over before m x n making last makes refused = record {
  between = makes.between;
  earlier = makes.earlier;
  later = makes.later ++ last;
  first = makes.first;
  second = room_more t g pages over before makes.between x n makes.later last makes.second refused;
  steps_are = ap (λ (r : Run). r ++ last) makes.steps_are ∙ append_assoc makes.earlier makes.later last;
}

-- what the loops keep: the charges so far were refused at groups that have room now, and nothing else happened
pub record RoomSoFar (t : KnownTable) (g pages : ℕ) (c : KnownCpuLists) (m n : KnownMachine) : Type 0 where
  pub refused_at : List ℕ
  pub making : Run
  pub makes : PreparesCharge g refused_at pages (transition t m making n)
  pub runs : Makes t m making n
  pub visit : Visits t m c → Visits t n c
  pub lowers : Lowers t m n
  pub alive : is_killed n.killed g ≡ false

pub so_far_none : (t : KnownTable) (g pages : ℕ) (c : KnownCpuLists) (m x : KnownMachine) → BySteps Makes t (ReclaimsHigh g pages) m x → is_killed m.killed g ≡ false
    → RoomSoFar t g pages c m x
so_far_none t g pages c m x high alive = record {
  refused_at = [];
  making = high.steps;
  makes = record {
    between = x;
    earlier = high.steps;
    later = [];
    first = high.does;
    second = record { machine = refl; steps_are = refl };
    steps_are = sym (append-nil high.steps);
  };
  runs = high.makes;
  visit = high.does.keeps.visit c;
  lowers = keeps_lower t m x high.does.keeps;
  alive = ap (λ (k : List Bool). is_killed k g) high.does.keeps.killed ∙ alive;
}

module _ (t : KnownTable) (g pages : ℕ) (c : KnownCpuLists) (m x : KnownMachine) (so_far : RoomSoFar t g pages c m x) where
  -- one more charge was refused, by its steps
  module _ (y z n : KnownMachine) (d e : KnownCpuLists) (over : ℕ) (same : y ≡ with_run x y.run) (mine : d ≡ c) (mine_after : e ≡ c)
      (low : IsLowestOver z.ledger.groups (current_of z.ledger) g pages over) (before_it : z ≡ x)
      (refusing : Makes t z (over_steps g pages over) y) (relieves : BySteps Makes t (RelievesLimit g over pages) y n) where
    refused : (answer : Result (Unit {0}) AllocFault) → IsRoomAnswer g over pages answer n
        → IsRefusedAt g over pages answer (transition t x (over_steps g pages over ++ relieves.steps) n)
    refused answer room = record {
      lowest = subst (λ (k : KnownMachine). IsLowestOver k.ledger.groups (current_of k.ledger) g pages over) before_it low;
      relieving = relieves.steps;
      seen = y.run;
      refuses = subst (λ (k : KnownMachine × KnownMachine). Makes t k.0 (over_steps g pages over) k.1) (λ i. (before_it i, same i)) refusing;
      relieves = subst (λ (k : KnownMachine). RelievesLimit g over pages (transition t k relieves.steps n)) same relieves.does;
      room = room;
      steps_are = refl;
    }

    lowered : Lowers t x n
    lowered = lowers_both t x y n (subst (λ (k : KnownMachine). Lowers t x k) (sym same) (run_lowers t x y.run)) (relieving_lowers t g over pages y n relieves)

    runs_on : Makes t m (so_far.making ++ (over_steps g pages over ++ relieves.steps)) n
    runs_on = makes_both t so_far.making (over_steps g pages over ++ relieves.steps) m x n so_far.runs
        (makes_both t (over_steps g pages over) relieves.steps x y n
        (subst (λ (k : KnownMachine). Makes t k (over_steps g pages over) y) before_it refusing) relieves.makes)

    -- and its group has room now
    pub so_far_more : HasMadeRoom g over pages n → Visits t n e → RoomSoFar t g pages c m n
    so_far_more room visit = record {
      refused_at = so_far.refused_at ++ over ∷ [];
      making = so_far.making ++ (over_steps g pages over ++ relieves.steps);
      makes = prepared_more t g pages over so_far.refused_at m x n so_far.making
          (over_steps g pages over ++ relieves.steps) so_far.makes (refused (Ok tt) room);
      runs = runs_on;
      visit = λ v. subst (λ (k : KnownCpuLists). Visits t n k) mine_after visit;
      lowers = lowers_both t m x n so_far.lowers lowered;
      alive = room.alive;
    }

    -- or it is refused for good
    pub so_far_over : (cause : AllocFault) → IsRoomAnswer g over pages (Err cause) n → BySteps VisitMakes t (IsRefusedFor g pages cause) (visit_state m c) (visit_state n c)
    so_far_over cause is = record {
      steps = so_far.making ++ (over_steps g pages over ++ relieves.steps);
      does = record {
        refused_at = so_far.refused_at;
        cleared = x;
        making = so_far.making;
        later = over_steps g pages over ++ relieves.steps;
        makes = so_far.makes;
        does = record { does = (over, refused (Err cause) is); cpu = refl };
        steps_are = refl;
      };
      makes = runs_on;
    }

  -- this is done by steps of its own, now that there is room
  pub so_far_does : (Does : Transition VisitState → Type 0) (n : KnownMachine) (d : KnownCpuLists) → BySteps VisitMakes t Does (visit_state x c) (visit_state n d)
      → BySteps VisitMakes t (AfterRoom g pages Does) (visit_state m c) (visit_state n d)
  so_far_does Does n d b = record {
    steps = so_far.making ++ b.steps;
    does = record {
      refused_at = so_far.refused_at;
      cleared = x;
      making = so_far.making;
      later = b.steps;
      makes = so_far.makes;
      does = b.does;
      steps_are = refl;
    };
    makes = makes_both t so_far.making b.steps m x n so_far.runs b.makes;
  }

  -- the pages are granted, and fill the stock
  pub so_far_fills : (n : KnownMachine) → Fills t c.number g pages x n → Makes t x (fill_steps c.number g pages) n
      → BySteps VisitMakes t (AfterRoom g pages (FillsStock g pages)) (visit_state m c) (visit_state n c)
  so_far_fills n fills steps =
      so_far_does (FillsStock g pages) n c
      (record { steps = fill_steps c.number g pages; does = record { fills = fills; cpu = refl; steps_are = refl }; makes = steps })

-- an answer that is a refusal, of this cause
pub refused_with : {T E : Type 0} (r : Result T E) (x : E) (P : T → Type 0) (Q : E → Type 0) → IsErr r → IfErr r (λ e. e ≡ x)
    → ((e : E) → e ≡ x → Q e) → MatchResult r P Q
refused_with (Ok v) x P Q not is q = absurd (false≢true not)
refused_with (Err e) x P Q is same q = q e same

-- an answer that is a refusal of this cause is this one
pub answer_is : {T : Type 0} (r : Result T AllocFault) (x : AllocFault) → IsErr r → IfErr r (λ e. e ≡ x) → r ≡ Err x
answer_is (Ok v) x not is = absurd (false≢true not)
answer_is (Err e) x not is = ap (λ (z : AllocFault). Err z) is

-- a refusal for good of a charge of one page
pub refuses_one : (t : KnownTable) (g : ℕ) (r : Result (Unit {0}) AllocFault) (cause : AllocFault) (m : KnownMachine) (c : KnownCpuLists) (n : KnownMachine) (d : KnownCpuLists)
    → r ≡ Err cause → d ≡ c → BySteps VisitMakes t (IsRefusedFor g 1 cause) (visit_state m c) (visit_state n c) → BySteps VisitMakes t (ChargesOne g r) (visit_state m c) (visit_state n d)
refuses_one t g r cause m c n d is cpu b =
    subst (λ (z : KnownCpuLists × Result (Unit {0}) AllocFault). BySteps VisitMakes t (ChargesOne g z.1) (visit_state m c) (visit_state n z.0))
    (λ i. (sym cpu i, sym is i)) b

pub if_ok_none : {T E : Type 0} (r : Result T E) (P : T → Type 0) → IsErr r → IfOk r P
if_ok_none (Ok v) P not = absurd (false≢true not)
if_ok_none (Err e) P not = tt
