-- All fresh frames and then all back frames are settled. Serves `settle_one` and the loops of `settle_fresh` and
-- `settle_back`.
use Rattle.std.proofs.Common.{◌≡◌, ℕ, ◌+◌, ◌-◌, ◌<◌, ◌≤◌, Bool, true, false, Option, Some, None, List, [], ◌∷◌, length, refl, sym, ap, ◌∙◌, subst, arith, inl, inr, slice_index_or, unwrap_or}
use Rattle.std.specs.List.{flat_map, fold}
use Rattle.std.proofs.lemmas.Bool.{cases_Bool, false≢true}
use Rattle.std.proofs.lemmas.Option.{none-some}
use Rattle.boot_words.specs.Tables.{KnownTable}
use Rattle.cpu_part.specs.Cpus.{KnownCpuLists}
use Rattle.step_rules.specs.State.{Part, State, with_at}
use Rattle.step_rules.specs.After.{absorbed, with_report, without_frame}
use Rattle.step_rules.proofs.Basics.{at_each}
use Rattle.boot_words.specs.Pasts.{IsHeld}
use Rattle.mem_machine.specs.{AreOwners, KnownMachine, is_killed, left_by, stock_group, Makes, Visits, group_of_fresh, local_of}
use Rattle.mem_machine.specs.{visit_state, after_made, FindsNoneBack, FindsNoneFresh, HandsOver, KeepsFresh, DropsFresh, SettlesFresh}
use Rattle.mem_machine.specs.{SettlesAllFresh, ReturnsBack, ReturnsAllBack, LeavesOthers, Settles, collect_steps, fresh_steps, is_fresh_killed}
use Rattle.mem_machine.specs.{return_steps, settle_steps}
use Rattle.mem_machine.proofs.Followed.{makes_both, makes_none}
use Rattle.mem_machine.proofs.Made.{visits_here}
use Rattle.mem_machine.proofs.Moved.{fresh_group_here, number_range}
use Rattle.mem_machine.proofs.Sight.{left_seen, left_then}

-- ---- one fresh frame

-- what a settle does with a fresh frame leaves all this
pub record WentOver (t : KnownTable) (f : ℕ) (m : KnownMachine) (c : KnownCpuLists) (n : KnownMachine) (d : KnownCpuLists) : Type 0 where
  pub front : c.fresh ≡ f ∷ d.fresh
  pub others : LeavesOthers c d
  pub back : d.back ≡ c.back
  pub killed : n.killed ≡ m.killed

went_over : (t : KnownTable) (f : ℕ) (m : KnownMachine) (c : KnownCpuLists) (n : KnownMachine) (d : KnownCpuLists) → HandsOver f c d → n.killed ≡ m.killed → WentOver t f m c n d
went_over t f m c n d hands killed = record {
  front = hands.front;
  others = record {
    number = ap (λ (x : KnownCpuLists). x.number) hands.cpu;
    list = ap (λ (x : KnownCpuLists). x.list) hands.cpu;
    pins = ap (λ (x : KnownCpuLists). x.pins) hands.cpu;
  };
  back = ap (λ (x : KnownCpuLists). x.back) hands.cpu;
  killed = killed;
}

pub settled_over : (t : KnownTable) (f : ℕ) (m : KnownMachine) (c : KnownCpuLists) (n : KnownMachine) (d : KnownCpuLists) → SettlesFresh t f (visit_state m c) (visit_state n d) → WentOver t f m c n d
settled_over t f m c n d one = elim (cases_Bool (is_fresh_killed t (visit_state m c))) [
  | inl killed ↦ let drops = one.drops killed in went_over t f m c n d drops.cpu (ap (λ (x : KnownMachine). x.killed) drops.machine)
  | inr alive ↦ let keeps = one.keeps alive in went_over t f m c n d keeps.cpu (ap (λ (x : KnownMachine). x.killed) keeps.machine)
]

-- the steps leave the group of each stock
group_at : (parts : ℕ → Part) (p : ℕ) (new : Part) → new.stock.group ≡ (parts p).stock.group → (q : ℕ) → (with_at parts p new q).stock.group ≡ (parts q).stock.group
group_at parts p new same q = at_each parts p new (λ j x. x.stock.group ≡ (parts j).stock.group) same (λ j ne. refl) q

handed_group : (s : State) (p f : ℕ) (q : ℕ) → ((fold after_made s (collect_steps p f)).parts q).stock.group ≡ (s.parts q).stock.group
handed_group s p f q =
    let one : ℕ → Part = with_at s.parts p (without_frame (s.parts p) (s.phases f) p f) in
    let two : ℕ → Part = with_at one p (with_report (one p) 1) in
    group_at two p (absorbed (two p) 1) refl q ∙ group_at one p (with_report (one p) 1) refl q ∙ group_at s.parts p (without_frame (s.parts p) (s.phases f) p f) refl q

fresh_group_after : (b : Bool) (s : State) (p f q : ℕ) → ((fold after_made s (fresh_steps b p f)).parts q).stock.group ≡ (s.parts q).stock.group
fresh_group_after true s p f q = handed_group s p f q
fresh_group_after false s p f q = handed_group s p f q

group_stays : (t : KnownTable) (b : Bool) (m n : KnownMachine) (p f q : ℕ) → IsHeld t m.run.past → Makes t m (fresh_steps b p f) n → stock_group t n q ≡ stock_group t m q
group_stays t b m n p f q held makes =
    ap (λ (u : State). (u.parts q).stock.group) (left_then t m (fresh_steps b p f) n.run held makes.noted)
    ∙ fresh_group_after b (local_of t m) p f q ∙ ap (λ (u : State). (u.parts q).stock.group) (sym (left_seen t m.run.past held))

-- the group that a fresh frame is of is that of the stock
pub named_group : (t : KnownTable) (m : KnownMachine) (c : KnownCpuLists) (g : ℕ) → stock_group t m c.number ≡ Some g → group_of_fresh t (visit_state m c) ≡ g
named_group t m c g of = ap (λ (o : Option ℕ). unwrap_or o 0) of

-- ---- whose the stock is

module _ (t : KnownTable) (m now : KnownMachine) (same : m ≡ now) (c : KnownCpuLists) (visit : Visits t now c) where
  pub number_here : (1 ≤ c.number) × (c.number ≤ t.cpus)
  number_here = number_range t m c (visits_here t m now same c visit)

  pub owner_here : (owners : List (Option ℕ)) → AreOwners t.cpus (left_by t m.run.past).parts owners → (n : ℕ) → n ≡ c.number
      → slice_index_or owners (n - 1) None ≡ stock_group t now c.number
  owner_here owners are n named =
      let range = number_here in
      let next : n - 1 + 1 ≡ c.number = omega (arith, named, range) in
      are.each (n - 1) (omega (arith, named, range)) ∙ ap (stock_group t m) next ∙ ap (λ (x : KnownMachine). stock_group t x c.number) same

  -- a CPU with a fresh frame has a stock of a group
  pub some_owner : (owners : List (Option ℕ)) → AreOwners t.cpus (left_by t m.run.past).parts owners → (n : ℕ) → n ≡ c.number → 1 ≤ length c.fresh
      → None ≡ slice_index_or owners (n - 1) None → ⊥
  some_owner owners are n named some none =
      let its = fresh_group_here t m c (visits_here t m now same c visit) some in
      none-some its.0 (none ∙ owner_here owners are n named ∙ sym (ap (λ (x : KnownMachine). stock_group t x c.number) same) ∙ its.1)

-- the two ways in which it goes
module _ (t : KnownTable) (f g : ℕ) (m : KnownMachine) (c : KnownCpuLists) (n : KnownMachine) (d : KnownCpuLists) (of : stock_group t m c.number ≡ Some g) where
  named : group_of_fresh t (visit_state m c) ≡ g
  named = named_group t m c g of

  pub settles_kept : is_killed m.killed g ≡ false → KeepsFresh g f (visit_state m c) (visit_state n d) → SettlesFresh t f (visit_state m c) (visit_state n d)
  settles_kept alive keeps = record {
    keeps = λ e. subst (λ (k : ℕ). KeepsFresh k f (visit_state m c) (visit_state n d)) (sym named) keeps;
    drops = λ e. absurd (false≢true (sym (ap (is_killed m.killed) named ∙ alive) ∙ e));
  }

  pub settles_dropped : is_killed m.killed g ≡ true → DropsFresh g f (visit_state m c) (visit_state n d) → SettlesFresh t f (visit_state m c) (visit_state n d)
  settles_dropped killed drops = record {
    keeps = λ e. absurd (false≢true (sym e ∙ ap (is_killed m.killed) named ∙ killed));
    drops = λ e. subst (λ (k : ℕ). DropsFresh k f (visit_state m c) (visit_state n d)) (sym named) drops;
  }

pub steps_of : (t : KnownTable) (f g : ℕ) (m : KnownMachine) (c : KnownCpuLists) (n : KnownMachine) → stock_group t m c.number ≡ Some g → (b : Bool) → is_killed m.killed g ≡ b
    → Makes t m (fresh_steps b c.number f) n → Makes t m (fresh_steps (is_fresh_killed t (visit_state m c)) c.number f) n
steps_of t f g m c n of b is run = subst (λ (k : Bool). Makes t m (fresh_steps k c.number f) n) (sym (ap (is_killed m.killed) (named_group t m c g of) ∙ is)) run

pub none_fresh : (xs : List ℕ) (n : ℕ) → n ≡ length xs → n ≡ 0 → xs ≡ []
none_fresh [] n count zero_is = refl
none_fresh (x ∷ xs) n count zero_is = absurd (omega (arith, count, zero_is))

-- ---- all fresh frames

-- what is settled from here on is what is left of a settle from the beginning
pub record FreshSoFar (t : KnownTable) (m : KnownMachine) (c : KnownCpuLists) (x : KnownMachine) (y : KnownCpuLists) : Type 0 where
  pub settles : (n : KnownMachine) (d : KnownCpuLists) → SettlesAllFresh t y.fresh (visit_state x y) (visit_state n d) → SettlesAllFresh t c.fresh (visit_state m c) (visit_state n d)
  pub steps : (b : KnownMachine) → Makes t x (flat_map (fresh_steps (is_fresh_killed t (visit_state m c)) c.number) y.fresh) b
      → Makes t m (flat_map (fresh_steps (is_fresh_killed t (visit_state m c)) c.number) c.fresh) b
  pub visit : Visits t x y
  pub others : LeavesOthers c y
  pub back : y.back ≡ c.back
  pub killed : is_fresh_killed t (visit_state x y) ≡ is_fresh_killed t (visit_state m c)

pub same_others : (c : KnownCpuLists) → LeavesOthers c c
same_others c = record { number = refl; list = refl; pins = refl }

pub both_others : (c d e : KnownCpuLists) → LeavesOthers c d → LeavesOthers d e → LeavesOthers c e
both_others c d e a b = record { number = b.number ∙ a.number; list = b.list ∙ a.list; pins = b.pins ∙ a.pins }

pub fresh_start : (t : KnownTable) (m : KnownMachine) (c : KnownCpuLists) → Visits t m c → FreshSoFar t m c m c
fresh_start t m c visit = record {
  settles = λ n d rest. rest;
  steps = λ b rest. rest;
  visit = visit;
  others = same_others c;
  back = refl;
  killed = refl;
}

pub fresh_more : (t : KnownTable) (m : KnownMachine) (c : KnownCpuLists) (x : KnownMachine) (y : KnownCpuLists) (x' : KnownMachine) (y' : KnownCpuLists) (f : ℕ)
    → FreshSoFar t m c x y → SettlesFresh t f (visit_state x y) (visit_state x' y') → Visits t x' y'
    → Makes t x (fresh_steps (is_fresh_killed t (visit_state x y)) y.number f) x' → FreshSoFar t m c x' y'
fresh_more t m c x y x' y' f so_far one visit run =
    let over = settled_over t f x y x' y' one in
    let k : Bool = is_fresh_killed t (visit_state m c) in
    let p : ℕ = c.number in
    let run_c : Makes t x (fresh_steps k p f) x' =
    subst (λ (z : ℕ × Bool). Makes t x (fresh_steps z.1 z.0 f) x') (λ i. (so_far.others.number i, so_far.killed i)) run in
    let same : group_of_fresh t (visit_state x' y') ≡ group_of_fresh t (visit_state x y) =
    ap (λ (o : Option ℕ). unwrap_or o 0) (ap (stock_group t x') over.others.number ∙ group_stays t (is_fresh_killed t (visit_state x y)) x x' y.number f y.number so_far.visit.held run) in
    record {
      settles = λ n d rest. so_far.settles n d (subst (λ (l : List ℕ). SettlesAllFresh t l (visit_state x y) (visit_state n d)) (sym over.front) (record { between = visit_state x' y'; first = one; rest = rest }));
      steps = λ b rest. so_far.steps b (subst (λ (l : List ℕ). Makes t x (flat_map (fresh_steps k p) l) b) (sym over.front)
          (makes_both t (fresh_steps k p f) (flat_map (fresh_steps k p) y'.fresh) x x' b run_c rest));
      visit = visit;
      others = both_others c y y' so_far.others over.others;
      back = over.back ∙ so_far.back;
      killed = (λ i. is_killed (over.killed i) (same i)) ∙ so_far.killed;
    }

-- none is left
pub record FreshSettled (t : KnownTable) (m : KnownMachine) (c : KnownCpuLists) (n : KnownMachine) (d : KnownCpuLists) : Type 0 where
  pub settles : SettlesAllFresh t c.fresh (visit_state m c) (visit_state n d)
  pub steps : Makes t m (flat_map (fresh_steps (is_fresh_killed t (visit_state m c)) c.number) c.fresh) n
  pub others : LeavesOthers c d
  pub back : d.back ≡ c.back
  pub none_fresh : d.fresh ≡ []

pub fresh_end : (t : KnownTable) (m : KnownMachine) (c : KnownCpuLists) (x : KnownMachine) (y : KnownCpuLists) (n : KnownMachine) (d : KnownCpuLists)
    → FreshSoFar t m c x y → FindsNoneFresh (visit_state x y) (visit_state n d) → FreshSettled t m c n d
fresh_end t m c x y n d so_far none =
    let k : Bool = is_fresh_killed t (visit_state m c) in
    record {
      settles = so_far.settles n d (subst (λ (l : List ℕ). SettlesAllFresh t l (visit_state x y) (visit_state n d)) (sym none.none_fresh) none.stays);
      steps = so_far.steps n
          (subst (λ (l : List ℕ). Makes t x (flat_map (fresh_steps k c.number) l) n) (sym none.none_fresh)
          (subst (λ (z : KnownMachine). Makes t x [] z) (sym none.stays.machine) (makes_none t x)));
      others = subst (λ (e : KnownCpuLists). LeavesOthers c e) (sym none.stays.cpu) so_far.others;
      back = ap (λ (e : KnownCpuLists). e.back) none.stays.cpu ∙ so_far.back;
      none_fresh = ap (λ (e : KnownCpuLists). e.fresh) none.stays.cpu ∙ none.none_fresh;
    }

-- ---- all back frames

pub record BackSoFar (t : KnownTable) (m : KnownMachine) (c : KnownCpuLists) (x : KnownMachine) (y : KnownCpuLists) : Type 0 where
  pub returns : (n : KnownMachine) (d : KnownCpuLists) → ReturnsAllBack y.back (visit_state x y) (visit_state n d) → ReturnsAllBack c.back (visit_state m c) (visit_state n d)
  pub steps : (b : KnownMachine) → Makes t x (flat_map (return_steps c.number) y.back) b → Makes t m (flat_map (return_steps c.number) c.back) b
  pub visit : Visits t x y
  pub others : LeavesOthers c y
  pub fresh : y.fresh ≡ c.fresh

pub back_start : (t : KnownTable) (m : KnownMachine) (c : KnownCpuLists) → Visits t m c → BackSoFar t m c m c
back_start t m c visit = record { returns = λ n d rest. rest; steps = λ b rest. rest; visit = visit; others = same_others c; fresh = refl }

pub back_more : (t : KnownTable) (m : KnownMachine) (c : KnownCpuLists) (x : KnownMachine) (y : KnownCpuLists) (x' : KnownMachine) (y' : KnownCpuLists) (f : ℕ)
    → BackSoFar t m c x y → ReturnsBack f (visit_state x y) (visit_state x' y') → Visits t x' y'
    → Makes t x (return_steps y.number f) x' → BackSoFar t m c x' y'
back_more t m c x y x' y' f so_far one visit run =
    let p : ℕ = c.number in
    let others : LeavesOthers y y' = record {
      number = ap (λ (e : KnownCpuLists). e.number) one.cpu;
      list = ap (λ (e : KnownCpuLists). e.list) one.cpu;
      pins = ap (λ (e : KnownCpuLists). e.pins) one.cpu;
    } in
    let run_c : Makes t x (return_steps p f) x' = subst (λ (q : ℕ). Makes t x (return_steps q f) x') so_far.others.number run in
    record {
      returns = λ n d rest. so_far.returns n d (subst (λ (l : List ℕ). ReturnsAllBack l (visit_state x y) (visit_state n d)) (sym one.front) (record { between = visit_state x' y'; first = one; rest = rest }));
      steps = λ b rest. so_far.steps b (subst (λ (l : List ℕ). Makes t x (flat_map (return_steps p) l) b) (sym one.front)
          (makes_both t (return_steps p f) (flat_map (return_steps p) y'.back) x x' b run_c rest));
      visit = visit;
      others = both_others c y y' so_far.others others;
      fresh = ap (λ (e : KnownCpuLists). e.fresh) one.cpu ∙ so_far.fresh;
    }

pub record BackSettled (t : KnownTable) (m : KnownMachine) (c : KnownCpuLists) (n : KnownMachine) (d : KnownCpuLists) : Type 0 where
  pub returns : ReturnsAllBack c.back (visit_state m c) (visit_state n d)
  pub steps : Makes t m (flat_map (return_steps c.number) c.back) n
  pub others : LeavesOthers c d
  pub fresh : d.fresh ≡ c.fresh
  pub none_back : d.back ≡ []

pub back_end : (t : KnownTable) (m : KnownMachine) (c : KnownCpuLists) (x : KnownMachine) (y : KnownCpuLists) (n : KnownMachine) (d : KnownCpuLists)
    → BackSoFar t m c x y → FindsNoneBack (visit_state x y) (visit_state n d) → BackSettled t m c n d
back_end t m c x y n d so_far none = record {
  returns = so_far.returns n d (subst (λ (l : List ℕ). ReturnsAllBack l (visit_state x y) (visit_state n d)) (sym none.none_back) none.stays);
  steps = so_far.steps n
      (subst (λ (l : List ℕ). Makes t x (flat_map (return_steps c.number) l) n) (sym none.none_back)
      (subst (λ (z : KnownMachine). Makes t x [] z) (sym none.stays.machine) (makes_none t x)));
  others = subst (λ (e : KnownCpuLists). LeavesOthers c e) (sym none.stays.cpu) so_far.others;
  fresh = ap (λ (e : KnownCpuLists). e.fresh) none.stays.cpu ∙ so_far.fresh;
  none_back = ap (λ (e : KnownCpuLists). e.back) none.stays.cpu ∙ none.none_back;
}

-- ---- both

-- the front of the back frames leaves at each step, and that of the fresh frames
pub fewer : (f : ℕ) (xs ys : List ℕ) → xs ≡ f ∷ ys → length ys < length xs
fewer f xs ys is = let a : length xs ≡ length (f ∷ ys) = ap length is in omega (arith, a)

pub record AllSettled (t : KnownTable) (m : KnownMachine) (c : KnownCpuLists) (n : KnownMachine) (d : KnownCpuLists) : Type 0 where
  pub settles : Settles t (visit_state m c) (visit_state n d)
  pub others : LeavesOthers c d
  pub none_fresh : d.fresh ≡ []
  pub none_back : d.back ≡ []
  pub steps : Makes t m (settle_steps t (visit_state m c)) n

pub settle_both : (t : KnownTable) (m : KnownMachine) (c : KnownCpuLists) (x : KnownMachine) (y : KnownCpuLists) (n : KnownMachine) (d : KnownCpuLists)
    → SettlesAllFresh t c.fresh (visit_state m c) (visit_state x y) → LeavesOthers c y × (y.back ≡ c.back) × (y.fresh ≡ [])
    → Makes t m (flat_map (fresh_steps (is_fresh_killed t (visit_state m c)) c.number) c.fresh) x
    → ReturnsAllBack y.back (visit_state x y) (visit_state n d) → LeavesOthers y d × (d.fresh ≡ y.fresh) × (d.back ≡ [])
    → Makes t x (flat_map (return_steps y.number) y.back) n → AllSettled t m c n d
settle_both t m c x y n d fresh leaves run back leaves' run' = record {
  settles = record { mid = visit_state x y; fresh = fresh; back = subst (λ (l : List ℕ). ReturnsAllBack l (visit_state x y) (visit_state n d)) leaves.1 back };
  others = both_others c y d leaves.0 leaves'.0;
  none_fresh = leaves'.1 ∙ leaves.2;
  none_back = leaves'.2;
  steps = makes_both t (flat_map (fresh_steps (is_fresh_killed t (visit_state m c)) c.number) c.fresh) (flat_map (return_steps c.number) c.back) m x n run
      (subst (λ (z : ℕ × List ℕ). Makes t x (flat_map (return_steps z.0) z.1) n) (λ i. (leaves.0.number i, leaves.1 i)) run');
}
