-- What is kept on the way to a frame, and how the parts of an allocation fit together. Serves `fill_drained_stock`,
-- `pay_for_frame`, `fill_list` and `alloc_frame`.
use Rattle.std.proofs.Common.{◌≡◌, ℕ, zero, suc, ◌+◌, ◌-◌, ◌<◌, ◌≤◌, true, false, List, [], ◌∷◌, ◌++◌, length, refl, sym, ap, ◌∙◌, subst, inl, inr}
use Rattle.std.proofs.Common.{arith, length-append}
use Rattle.std.specs.Prelude.{Result, Ok, Err, IsErr, IfErr, OnOk}
use Rattle.std.proofs.lemmas.List.{append_assoc, append-nil}
use Rattle.zone_blocks.specs.{HasNoneFrom, IsValidConfig}
use Rattle.stock_word.specs.declared.stock.Stock.TheVariants.{HeldBy}
use Rattle.cpu_part.specs.Cpus.{KnownCpuLists}
use Rattle.zone_blocks.specs.declared.config.Config.{Config}
use Rattle.step_rules.specs.After.{Run}
use Rattle.group_charge.specs.declared.note.Note.TheVariants.{Zone}
use Rattle.mem_machine.specs.{KnownMachine, is_killed, with_note, with_run, Makes, VisitMakes, Visits, visit_state, LendsMany, Refills, HoldsPage}
use Rattle.mem_machine.specs.{MayCharge, PaysForFront, stock_now, Drains, Fills, stock_group, drain_steps, refill_steps, take_front_steps, BySteps}
use Rattle.mem_machine.specs.{Finds, transition}
use Rattle.boot_words.specs.{IsHeld, stock_in, KnownTable}
use Rattle.mem_machine.proofs.StocksKept.{filled_stock, has_stock_step, stock_kept, stock_left}
use Rattle.mem_reclaim.specs.Staying.{Keeps}
use Rattle.mem_alloc.specs.declared.faults.AllocFault.{AllocFault}
use Rattle.mem_alloc.specs.declared.faults.AllocFault.TheVariants.{Over, NoFrames, RequesterKilled}
use Rattle.mem_alloc.specs.{IsRefusedAt, IsRefusedFor, ChargesAfterDrain, ChargesNoBatch, ChargesOne, DrainsStock, FillsBatch}
use Rattle.mem_alloc.specs.{FillsDrainedStock, FillsStock, LacksBatch, PaysForFrame, FailsInRounds, AllocatesFrame, FillsList, HasNoFreeFrame}
use Rattle.mem_alloc.specs.{LendsBatch, LendsNoFrame, RefillsInRounds, RefillsList}
use Rattle.mem_alloc.proofs.Making.{answer_is}
use Rattle.mem_alloc.proofs.Lowering.{Lowers, lowers_both, run_lowers}
use Rattle.mem_alloc.proofs.Killing.{relieves_lower}
use Rattle.mem_alloc.proofs.Rounding.{FailureSpares, InTheEnd, spares_same, noted_fails_spare, noted_in_the_end}
use Rattle.mem_machine.proofs.Followed.{makes_both, makes_none}

-- ---- what is kept

-- the CPU's number and lists
pub record KeepsPart (c d : KnownCpuLists) : Type 0 where
  pub number : d.number ≡ c.number
  pub list : d.list ≡ c.list
  pub fresh : d.fresh ≡ c.fresh
  pub back : d.back ≡ c.back

pub keeps_both : (c y d : KnownCpuLists) → KeepsPart c y → KeepsPart y d → KeepsPart c d
keeps_both c y d a b = record {
  number = b.number ∙ a.number;
  list = b.list ∙ a.list;
  fresh = b.fresh ∙ a.fresh;
  back = b.back ∙ a.back;
}

same_keeps : (c d : KnownCpuLists) → d ≡ c → KeepsPart c d
same_keeps c d same = record {
  number = ap (λ (e : KnownCpuLists). e.number) same;
  list = ap (λ (e : KnownCpuLists). e.list) same;
  fresh = ap (λ (e : KnownCpuLists). e.fresh) same;
  back = ap (λ (e : KnownCpuLists). e.back) same;
}

pub refused_lowers : (t : KnownTable) (g pages over : ℕ) (answer : Result (Unit {0}) AllocFault) (m n : KnownMachine) (steps : Run)
    → IsRefusedAt g over pages answer (transition t m steps n) → Lowers t m n
refused_lowers t g pages over answer m n steps r =
    let x = with_run m r.seen in
    lowers_both t m x n (run_lowers t m r.seen) (relieves_lower t g over pages x n r.relieving r.relieves)

refusal_keeps : (t : KnownTable) (g pages : ℕ) (cause : AllocFault) (m n : KnownMachine) (c d : KnownCpuLists) (steps : Run)
    → IsRefusedFor g pages cause (transition t (visit_state m c) steps (visit_state n d)) → KeepsPart c d
refusal_keeps t g pages cause m n c d steps h = same_keeps c d h.does.cpu

one_keeps : (t : KnownTable) (g : ℕ) (r : Result (Unit {0}) AllocFault) (m n : KnownMachine) (c d : KnownCpuLists) (steps : Run)
    → ChargesOne g r (transition t (visit_state m c) steps (visit_state n d)) → KeepsPart c d
one_keeps t g (Ok v) m n c d steps h = same_keeps c d h.does.cpu
one_keeps t g (Err e) m n c d steps h = refusal_keeps t g 1 e m n c d steps h

charges_keep : (t : KnownTable) (sizes : Config) (g : ℕ) (r : Result (Unit {0}) AllocFault) (m n : KnownMachine) (c d : KnownCpuLists) (steps : Run)
    → FillsDrainedStock sizes g r (transition t (visit_state m c) steps (visit_state n d)) → KeepsPart c d
charges_keep t sizes g (Ok v) m n c d steps (inl h) = same_keeps c d h.fills.cpu
charges_keep t sizes g (Ok v) m n c d steps (inr h) =
    keeps_both c h.between.cpu d (same_keeps c h.between.cpu h.first.cpu) (one_keeps t g (Ok v) h.between.machine n h.between.cpu d h.later h.second)
charges_keep t sizes g (Err e) m n c d steps h =
    keeps_both c h.between.cpu d (same_keeps c h.between.cpu h.first.cpu) (one_keeps t g (Err e) h.between.machine n h.between.cpu d h.later h.second)

own_drain_keeps : (t : KnownTable) (m n : KnownMachine) (c d : KnownCpuLists) (steps : Run) → DrainsStock (transition t (visit_state m c) steps (visit_state n d)) → KeepsPart c d
own_drain_keeps t m n c d steps h = same_keeps c d h.cpu

drain_charges_keep : (t : KnownTable) (sizes : Config) (g : ℕ) (r : Result (Unit {0}) AllocFault) (m n : KnownMachine) (c d : KnownCpuLists) (steps : Run)
    → ChargesAfterDrain sizes g r (transition t (visit_state m c) steps (visit_state n d)) → KeepsPart c d
drain_charges_keep t sizes g r m n c d steps h =
    let x = h.does.between in
    keeps_both c x.cpu d (own_drain_keeps t m x.machine c x.cpu h.does.earlier h.does.first)
    (charges_keep t sizes g r x.machine n x.cpu d h.does.later h.does.second)

pub pays_keep : (t : KnownTable) (sizes : Config) (g : ℕ) (r : Result (Unit {0}) AllocFault) (m n : KnownMachine) (c d : KnownCpuLists) (steps : Run)
    → PaysForFrame sizes g r (transition t (visit_state m c) steps (visit_state n d)) → KeepsPart c d
pays_keep t sizes g (Ok v) m n c d steps (inl h) = same_keeps c d h.does.cpu
pays_keep t sizes g (Ok v) m n c d steps (inr h) = drain_charges_keep t sizes g (Ok v) m n c d steps h
pays_keep t sizes g (Err e) m n c d steps h = drain_charges_keep t sizes g (Err e) m n c d steps h

-- ---- the stock holds a page

filled_page : (t : KnownTable) (g k : ℕ) (m n : KnownMachine) (c d : KnownCpuLists) (steps : Run) → Visits t n d
    → FillsStock g k (transition t (visit_state m c) steps (visit_state n d)) → 1 ≤ k → c.fresh ≡ [] → HoldsPage t n d.number g
filled_page t g k m n c d steps visit f some none =
    let number = ap (λ (e : KnownCpuLists). e.number) f.cpu in
    let fills : Fills t d.number g k m n = subst (λ (p : ℕ). Fills t p g k m n) (sym number) f.fills in
    let all : k - 1 + 1 ≡ k = omega (arith, some) in
    (k - 1, filled_stock t m n d g k visit (ap (λ (e : KnownCpuLists). e.fresh) f.cpu ∙ none) fills ∙ ap (HeldBy g) (sym all))

pub charged_page : (t : KnownTable) (sizes : Config) (g : ℕ) (r : Result (Unit {0}) AllocFault) (m n : KnownMachine) (c d : KnownCpuLists) (steps : Run)
    → IsValidConfig sizes → Visits t n d → FillsDrainedStock sizes g r (transition t (visit_state m c) steps (visit_state n d)) → c.fresh ≡ []
    → OnOk r (HoldsPage t n d.number g)
charged_page t sizes g (Ok v) m n c d steps valid visit (inl h) none = filled_page t g sizes.stock m n c d steps visit h.fills valid.stock_low none
charged_page t sizes g (Ok v) m n c d steps valid visit (inr h) none =
    let one = h.second in
    filled_page t g 1 one.cleared n h.between.cpu d one.later visit one.does (omega arith) (ap (λ (e : KnownCpuLists). e.fresh) h.first.cpu ∙ none)
charged_page t sizes g (Err e) m n c d steps valid visit h none = tt

-- ---- the own stock has a page

-- it had one before
pub pays_none : (t : KnownTable) (m n : KnownMachine) (c : KnownCpuLists) → n ≡ m → (sizes : Config) (g : ℕ) → HoldsPage t m c.number g
    → BySteps VisitMakes t (PaysForFrame sizes g (Ok tt)) (visit_state m c) (visit_state n c)
pays_none t m n c same sizes g page = record {
  steps = [];
  does = inl (record { is = page; does = record { machine = same; cpu = refl; steps_are = refl } });
  makes = subst (λ (z : KnownMachine). Makes t m [] z) (sym same) (makes_none t m);
}

-- ---- frames that are lent

pub record LentPart (frames : List ℕ) (m : KnownMachine) (c : KnownCpuLists) (n : KnownMachine) (d : KnownCpuLists) : Type 0 where
  pub number : d.number ≡ c.number
  pub list : d.list ≡ c.list ++ frames
  pub fresh : d.fresh ≡ c.fresh
  pub back : d.back ≡ c.back

pub lent_part : (frames : List ℕ) (m n : KnownMachine) (c d : KnownCpuLists) → LendsMany frames (visit_state m c) (visit_state n d) → LentPart frames m c n d
lent_part [] m n c d h = record {
  number = ap (λ (e : KnownCpuLists). e.number) h.cpu;
  list = ap (λ (e : KnownCpuLists). e.list) h.cpu ∙ sym (append-nil c.list);
  fresh = ap (λ (e : KnownCpuLists). e.fresh) h.cpu;
  back = ap (λ (e : KnownCpuLists). e.back) h.cpu;
}
lent_part (f ∷ frames) m n c d h =
    let one = h.first.lends in
    let more = lent_part frames h.between.machine n h.between.cpu d h.rest in
    record {
      number = more.number ∙ ap (λ (e : KnownCpuLists). e.number) one.cpu;
      list = more.list ∙ ap (λ (e : KnownCpuLists). e.list ++ frames) one.cpu ∙ append_assoc c.list (f ∷ []) frames;
      fresh = more.fresh ∙ ap (λ (e : KnownCpuLists). e.fresh) one.cpu;
      back = more.back ∙ ap (λ (e : KnownCpuLists). e.back) one.cpu;
    }

lent_calm : (p : ℕ) (frames : List ℕ) → has_stock_step (refill_steps p frames) ≡ false
lent_calm p [] = refl
lent_calm p (f ∷ frames) = lent_calm p frames

-- the stock has the same pages
pub lent_stock : (t : KnownTable) (frames : List ℕ) (m n : KnownMachine) (c d : KnownCpuLists) → IsHeld t m.run.past → Makes t m (refill_steps c.number frames) n
    → LendsMany frames (visit_state m c) (visit_state n d) → stock_now t n d.number ≡ stock_now t m c.number
lent_stock t frames m n c d held makes lends =
    stock_kept t m n (refill_steps c.number frames) held makes (lent_calm c.number frames) c d (lent_part frames m n c d lends).number

-- a reclaim leaves its pages
pub spared_stock : (t : KnownTable) (m n : KnownMachine) (c : KnownCpuLists) → Visits t m c → Keeps t m n → c.fresh ≡ []
    → stock_now t n c.number ≡ stock_now t m c.number
spared_stock t m n c visit keeps none =
    let later = keeps.visit c visit in
    stock_left t n c later.held later.own none ∙ ap stock_in (keeps.stocks c.number) ∙ sym (stock_left t m c visit.held visit.own none)

-- ---- the parts put together

-- the batch fits
pub batch_fits : (t : KnownTable) (sizes : Config) (g : ℕ) (m n : KnownMachine) (c : KnownCpuLists) → BySteps VisitMakes t (FillsBatch g sizes.stock) (visit_state m c) (visit_state n c)
    → BySteps VisitMakes t (FillsDrainedStock sizes g (Ok tt)) (visit_state m c) (visit_state n c)
batch_fits t sizes g m n c fills = record { steps = fills.steps; does = inl fills.does; makes = fills.makes }

-- the batch doesn't fit, and then one page is charged, or is refused
module _ (t : KnownTable) (sizes : Config) (g : ℕ) (m x n : KnownMachine) (c d : KnownCpuLists) (lacks : BySteps Makes t (LacksBatch g sizes.stock) m x) where
  charges_one : (r : Result (Unit {0}) AllocFault) → BySteps VisitMakes t (ChargesOne g r) (visit_state x c) (visit_state n d)
      → BySteps VisitMakes t (ChargesNoBatch sizes g r) (visit_state m c) (visit_state n d)
  charges_one r b = record {
    steps = lacks.steps ++ b.steps;
    does = record {
      between = visit_state x c;
      earlier = lacks.steps;
      later = b.steps;
      first = record { does = lacks.does; cpu = refl };
      second = b.does;
      steps_are = refl;
    };
    makes = makes_both t lacks.steps b.steps m x n lacks.makes b.makes;
  }

  pub one_charged : (r : Result (Unit {0}) AllocFault) → BySteps VisitMakes t (ChargesOne g r) (visit_state x c) (visit_state n d)
      → BySteps VisitMakes t (FillsDrainedStock sizes g r) (visit_state m c) (visit_state n d)
  one_charged (Ok v) b = let l = charges_one (Ok v) b in record { steps = l.steps; does = inr l.does; makes = l.makes }
  one_charged (Err e) b = charges_one (Err e) b

-- which may be charged still
pub still_may : (t : KnownTable) (g pages k : ℕ) (m x : KnownMachine) (steps : Run) → LacksBatch g pages (transition t m steps x) → MayCharge m g k → MayCharge x g k
still_may t g pages k m x steps (inl h) may = subst (λ (z : KnownMachine). MayCharge z g k) (sym h.1.machine) may
still_may t g pages k m x steps (inr h) may =
    subst (λ (z : KnownMachine). MayCharge z g k) (sym h.machine) (record { there = may.there; alive = may.alive; fits = may.fits })

-- the own stock is drained first
module _ (t : KnownTable) (pages q : ℕ) (m k x : KnownMachine) (c : KnownCpuLists) (same : k ≡ m) (named : q ≡ c.number)
    (drains : Drains t q pages k x) (draining : Makes t k (drain_steps q (stock_group t k q) pages) x) where
  abbrev own_steps : Run
  own_steps = drain_steps c.number (stock_group t m c.number) pages

  by_drain : Makes t m own_steps x
  by_drain = subst (λ (z : KnownMachine × ℕ). Makes t z.0 (drain_steps z.1 (stock_group t z.0 z.1) pages) x) (λ i. (same i, named i)) draining

  drains_own : DrainsStock (transition t (visit_state m c) own_steps (visit_state x c))
  drains_own = record {
    drained = pages;
    drains = subst (λ (z : KnownMachine × ℕ). Drains t z.1 pages z.0 x) (λ i. (same i, named i)) drains;
    cpu = refl;
    runs = by_drain;
    steps_are = refl;
  }

  pub drained_own : BySteps VisitMakes t DrainsStock (visit_state m c) (visit_state x c)
  drained_own = record { steps = own_steps; does = drains_own; makes = by_drain }

  -- it had no page of the group
  module _ (sizes : Config) (g : ℕ) (n : KnownMachine) (d : KnownCpuLists) (lacks : ¬ HoldsPage t m c.number g) where
    charges_anew : (r : Result (Unit {0}) AllocFault) → BySteps VisitMakes t (FillsDrainedStock sizes g r) (visit_state x c) (visit_state n d)
        → BySteps VisitMakes t (ChargesAfterDrain sizes g r) (visit_state m c) (visit_state n d)
    charges_anew r b = record {
      steps = own_steps ++ b.steps;
      does = record {
        is = lacks;
        does = record { between = visit_state x c; earlier = own_steps; later = b.steps; first = drains_own; second = b.does; steps_are = refl };
      };
      makes = makes_both t own_steps b.steps m x n by_drain b.makes;
    }

    pub pays_anew : (r : Result (Unit {0}) AllocFault) → BySteps VisitMakes t (FillsDrainedStock sizes g r) (visit_state x c) (visit_state n d)
        → BySteps VisitMakes t (PaysForFrame sizes g r) (visit_state m c) (visit_state n d)
    pays_anew (Ok v) b = let h = charges_anew (Ok v) b in record { steps = h.steps; does = inr h.does; makes = h.makes }
    pays_anew (Err cause) b = charges_anew (Err cause) b

-- ---- the list

none_lent : (frames : List ℕ) (m n : KnownMachine) (c d : KnownCpuLists) → length frames ≡ 0 → LendsMany frames (visit_state m c) (visit_state n d) → (n ≡ m) × (d ≡ c)
none_lent [] m n c d none h = (h.machine, h.cpu)
none_lent (f ∷ frames) m n c d none h = absurd (omega (arith, none))

-- no frame was lent, since none is free
no_steps : (t : KnownTable) (frames : List ℕ) (m n : KnownMachine) (c d : KnownCpuLists) → length frames ≡ 0
    → Makes t m (refill_steps c.number frames) n → Makes t m [] n
no_steps t [] m n c d none run = run
no_steps t (f ∷ frames) m n c d none run = absurd (omega (arith, none))

pub lent_none : (t : KnownTable) (count batch : ℕ) (m n : KnownMachine) (c d : KnownCpuLists) → Refills t count (visit_state m c) (visit_state n d)
    → count ≤ 0 → (count < batch → HasNoneFrom n.blocks 0) → 1 ≤ batch → BySteps VisitMakes t LendsNoFrame (visit_state m c) (visit_state n d)
lent_none t count batch m n c d refills few fewer some =
    let all = refills.all in
    let none : length refills.frames ≡ 0 = omega (arith, few, all) in
    let same = none_lent refills.frames m n c d none refills.lends in
    let free : HasNoneFrom m.blocks 0 = subst (λ (x : KnownMachine). HasNoneFrom x.blocks 0) same.0 (fewer (omega (arith, few, some))) in record {
      steps = [];
      does = record { is = free; does = record { machine = same.0; cpu = same.1; steps_are = refl } };
      makes = no_steps t refills.frames m n c d none refills.steps;
    }

-- some were lent
pub lent_batch : (t : KnownTable) (count batch : ℕ) (m n : KnownMachine) (c d : KnownCpuLists) (refills : Refills t count (visit_state m c) (visit_state n d))
    → 1 ≤ count → count ≤ batch → (count < batch → HasNoneFrom n.blocks 0)
    → LendsBatch batch (transition t (visit_state m c) (refill_steps c.number refills.frames) (visit_state n d))
lent_batch t count batch m n c d refills many low fewer =
    let all = refills.all in
    record {
      frames = refills.frames;
      some = omega (arith, all, many);
      at_most = omega (arith, all, low);
      fewer = λ less. fewer (omega (arith, all, less));
      lends = refills.lends;
      steps_are = refl;
    }

-- ---- rounds of reclaim for the list

pub no_frame_spares : (t : KnownTable) → FailureSpares t LendsNoFrame
no_frame_spares t m n c d steps h = spares_same t m n c d h.does.machine h.does.cpu

none_after : (t : KnownTable) (rounds : ℕ) (m n : KnownMachine) (c d : KnownCpuLists) (steps : Run) → HasNoneFrom m.blocks 0
    → FailsInRounds rounds 1 LendsNoFrame (transition t (visit_state m c) steps (visit_state n d)) → HasNoneFrom n.blocks 0
none_after t zero m n c d steps none h = subst (λ (x : KnownMachine). HasNoneFrom x.blocks 0) (sym h.machine) none
none_after t (suc more) m n c d steps none (inl h) =
    subst (λ (x : KnownMachine). HasNoneFrom x.blocks 0) (sym h.tries.does.machine) h.tries.is
none_after t (suc more) m n c d steps none (inr h) =
    let tries = h.first.round.tries in
    let here : HasNoneFrom h.between.machine.blocks 0 =
    subst (λ (x : KnownMachine). HasNoneFrom x.blocks 0) (sym tries.does.machine) tries.is in
    none_after t more h.between.machine n h.between.cpu d h.later here h.second

-- no frame is free, also after rounds of reclaim, and the stock is drained
module _ (t : KnownTable) (sizes : Config) (m k x n : KnownMachine) (c e y : KnownCpuLists) (empty : c.list ≡ [])
    (first : BySteps VisitMakes t LendsNoFrame (visit_state m c) (visit_state k e)) where
  from_first : (P : KnownMachine → KnownCpuLists → Type 0) → P k e → P m c
  from_first P p = subst (λ (z : KnownMachine × KnownCpuLists). P z.0 z.1) (λ i. (first.does.does.machine i, first.does.does.cpu i)) p

  pub no_frame : (pages q : ℕ) → BySteps VisitMakes t (RefillsInRounds sizes.batch false) (visit_state k e) (visit_state x y) → q ≡ y.number → Drains t q pages x n
      → Makes t x (drain_steps q (stock_group t x q) pages) n → BySteps VisitMakes t (FillsList sizes (Err NoFrames)) (visit_state m c) (visit_state n y)
  no_frame pages q rounds named drains steps =
      let there = from_first (λ u v. BySteps VisitMakes t (RefillsInRounds sizes.batch false) (visit_state u v) (visit_state x y)) rounds in
      let last = drained_own t pages q x x n y refl named drains steps in record {
        steps = there.steps ++ last.steps;
        does = record {
          is = empty;
          does = record {
            is = first.does.is;
            does = record {
              between = visit_state x y;
              earlier = there.steps;
              later = last.steps;
              first = there.does;
              second = record { is = none_after t 16 (with_note m (Zone 0)) x c y there.steps first.does.is there.does; does = last.does };
              steps_are = refl;
            };
          };
        };
        makes = makes_both t there.steps last.steps m x n there.makes last.makes;
      }

  -- or free frames come to the list after rounds
  pub reclaims_for : BySteps VisitMakes t (RefillsInRounds sizes.batch true) (visit_state k e) (visit_state x y)
      → BySteps VisitMakes t (Finds HasNoFreeFrame (RefillsInRounds sizes.batch true)) (visit_state m c) (visit_state x y)
  reclaims_for rounds =
      let here = from_first (λ u v. BySteps VisitMakes t (RefillsInRounds sizes.batch true) (visit_state u v) (visit_state x y)) rounds in record {
        steps = here.steps;
        does = record { is = first.does.is; does = here.does };
        makes = here.makes;
      }

pub no_frame_keeps : (t : KnownTable) (sizes : Config) (cause : AllocFault) (m n : KnownMachine) (c d : KnownCpuLists) (steps : Run)
    → FillsList sizes (Err cause) (transition t (visit_state m c) steps (visit_state n d)) → KeepsPart c d
no_frame_keeps t sizes (Over over) m n c d steps h = absurd h
no_frame_keeps t sizes RequesterKilled m n c d steps h = absurd h
no_frame_keeps t sizes NoFrames m n c d steps h =
    let all = h.does.does in
    let x = all.between in
    let rounds = noted_fails_spare t 1 LendsNoFrame (no_frame_spares t) 0 m x.machine c x.cpu all.earlier all.first in
    keeps_both c x.cpu d (same_keeps c x.cpu rounds.cpu)
    (own_drain_keeps t x.machine n x.cpu d all.later all.second.does)

module _ (t : KnownTable) (sizes : Config) (m n : KnownMachine) (c d : KnownCpuLists) (steps : Run)
    (h : Finds HasNoFreeFrame (RefillsInRounds sizes.batch true) (transition t (visit_state m c) steps (visit_state n d))) where
  abbrev last : InTheEnd t 1 LendsNoFrame (no_frame_spares t) (LendsBatch sizes.batch) m c (visit_state n d)
  last = noted_in_the_end t 1 LendsNoFrame (no_frame_spares t) 0 (LendsBatch sizes.batch) m c (visit_state n d) steps h.does

  pub reclaimed_front : 1 ≤ length d.list
  reclaimed_front =
      let l = lent_part last.succeeds.frames last.before n last.cpu d last.succeeds.lends in
      let a = ap length l.list ∙ length-append last.cpu.list last.succeeds.frames in
      let some = last.succeeds.some in
      omega (arith, some, a)

-- what a list that has a frame leaves
pub record FilledPart (sizes : Config) (m : KnownMachine) (c : KnownCpuLists) (n : KnownMachine) (d : KnownCpuLists) : Type 0 where
  pub number : d.number ≡ c.number
  pub fresh : d.fresh ≡ c.fresh
  pub back : d.back ≡ c.back
  pub high : length c.list ≤ sizes.high → length d.list ≤ sizes.high

batch_part : (t : KnownTable) (sizes : Config) (m n : KnownMachine) (c d : KnownCpuLists) (steps : Run) → IsValidConfig sizes → c.list ≡ []
    → LendsBatch sizes.batch (transition t (visit_state m c) steps (visit_state n d)) → FilledPart sizes m c n d
batch_part t sizes m n c d steps valid empty h =
    let l = lent_part h.frames m n c d h.lends in
    record {
      number = l.number;
      fresh = l.fresh;
      back = l.back;
      high = λ low.
          let a : length d.list ≡ length c.list + length h.frames = ap length l.list ∙ length-append c.list h.frames in
          let b : length c.list ≡ 0 = ap length empty in
          let e = h.at_most in
          let v = valid.high_low in
          omega (arith, a, b, e, v);
    }

refilled_part : (t : KnownTable) (sizes : Config) (m n : KnownMachine) (c d : KnownCpuLists) (steps : Run) → IsValidConfig sizes → c.list ≡ []
    → RefillsList sizes.batch (transition t (visit_state m c) steps (visit_state n d)) → FilledPart sizes m c n d
refilled_part t sizes m n c d steps valid empty (inl h) = batch_part t sizes m n c d steps valid empty h
refilled_part t sizes m n c d steps valid empty (inr h) =
    let e = noted_in_the_end t 1 LendsNoFrame (no_frame_spares t) 0 (LendsBatch sizes.batch) m c (visit_state n d) steps h.does in
    let cpu = e.spares.cpu in
    let b = batch_part t sizes e.before n e.cpu d e.trying valid (ap (λ (y : KnownCpuLists). y.list) cpu ∙ empty) e.succeeds in
    record {
      number = b.number ∙ ap (λ (y : KnownCpuLists). y.number) cpu;
      fresh = b.fresh ∙ ap (λ (y : KnownCpuLists). y.fresh) cpu;
      back = b.back ∙ ap (λ (y : KnownCpuLists). y.back) cpu;
      high = λ low. let a : length e.cpu.list ≡ length c.list = ap (λ (y : KnownCpuLists). length y.list) cpu in b.high (omega (arith, a, low));
    }

pub filled_part : (t : KnownTable) (sizes : Config) (m n : KnownMachine) (c d : KnownCpuLists) (steps : Run) → IsValidConfig sizes → FillsList sizes (Ok tt) (transition t (visit_state m c) steps (visit_state n d))
    → FilledPart sizes m c n d
filled_part t sizes m n c d steps valid (inl h) = record {
  number = ap (λ (e : KnownCpuLists). e.number) h.does.cpu;
  fresh = ap (λ (e : KnownCpuLists). e.fresh) h.does.cpu;
  back = ap (λ (e : KnownCpuLists). e.back) h.does.cpu;
  high = λ low. let a : length d.list ≡ length c.list = ap (λ (e : KnownCpuLists). length e.list) h.does.cpu in omega (arith, a, low);
}
filled_part t sizes m n c d steps valid (inr h) = refilled_part t sizes m n c d steps valid h.is h.does

-- ---- the whole allocation

module _ (t : KnownTable) (sizes : Config) (g : ℕ) (m : KnownMachine) (c : KnownCpuLists) (alive : is_killed m.killed g ≡ false) where
  -- a charge is refused for good
  refused_for : (x : AllocFault) (n : KnownMachine) (d : KnownCpuLists) → BySteps VisitMakes t (PaysForFrame sizes g (Err x)) (visit_state m c) (visit_state n d)
      → BySteps VisitMakes t (AllocatesFrame sizes g (Err x)) (visit_state m c) (visit_state n d)
  refused_for (Over over) n d b = record { steps = b.steps; does = record { is = alive; does = b.does }; makes = b.makes }
  refused_for NoFrames n d b = absurd b.does.does.second.second.does.does.1.room
  refused_for RequesterKilled n d b = record { steps = b.steps; does = inr (record { is = alive; does = b.does }); makes = b.makes }

  pub not_paid : (r : Result ℕ AllocFault) (x : AllocFault) (n : KnownMachine) (d : KnownCpuLists) → IsErr r → IfErr r (λ e. e ≡ x)
      → BySteps VisitMakes t (PaysForFrame sizes g (Err x)) (visit_state m c) (visit_state n d) → BySteps VisitMakes t (AllocatesFrame sizes g r) (visit_state m c) (visit_state n d)
  not_paid r x n d not is b =
      subst (λ (z : Result ℕ AllocFault). BySteps VisitMakes t (AllocatesFrame sizes g z) (visit_state m c) (visit_state n d))
      (sym (answer_is r x not is))
      (refused_for x n d b)

  module _ (k : KnownMachine) (y : KnownCpuLists) (pays : BySteps VisitMakes t (PaysForFrame sizes g (Ok tt)) (visit_state m c) (visit_state k y)) where
    -- no frame is free
    none_found : (x : AllocFault) (n : KnownMachine) (d : KnownCpuLists) → BySteps VisitMakes t (FillsList sizes (Err x)) (visit_state k y) (visit_state n d)
        → BySteps VisitMakes t (AllocatesFrame sizes g (Err x)) (visit_state m c) (visit_state n d)
    none_found (Over over) n d b = absurd b.does
    none_found RequesterKilled n d b = absurd b.does
    none_found NoFrames n d b = record {
      steps = pays.steps ++ b.steps;
      does = record {
        is = alive;
        does = record { between = visit_state k y; earlier = pays.steps; later = b.steps; first = pays.does; second = b.does; steps_are = refl };
      };
      makes = makes_both t pays.steps b.steps m k n pays.makes b.makes;
    }

    pub not_found : (r : Result ℕ AllocFault) (x : AllocFault) (n : KnownMachine) (d : KnownCpuLists) → IsErr r → IfErr r (λ e. e ≡ x)
        → BySteps VisitMakes t (FillsList sizes (Err x)) (visit_state k y) (visit_state n d) → BySteps VisitMakes t (AllocatesFrame sizes g r) (visit_state m c) (visit_state n d)
    not_found r x n d not is b =
        subst (λ (z : Result ℕ AllocFault). BySteps VisitMakes t (AllocatesFrame sizes g z) (visit_state m c) (visit_state n d))
        (sym (answer_is r x not is))
        (none_found x n d b)

    -- the front of the list is paid for
    pub gets_frame : (f : ℕ) (l n : KnownMachine) (z d : KnownCpuLists) → z.number ≡ c.number → BySteps VisitMakes t (FillsList sizes (Ok tt)) (visit_state k y) (visit_state l z)
        → PaysForFront t g f (visit_state l z) (visit_state n d) → Makes t l (take_front_steps z.number g) n
        → BySteps VisitMakes t (AllocatesFrame sizes g (Ok f)) (visit_state m c) (visit_state n d)
    gets_frame f l n z d named fills takes steps =
        let last : Makes t l (take_front_steps c.number g) n = subst (λ (p : ℕ). Makes t l (take_front_steps p g) n) named steps in record {
          steps = pays.steps ++ (fills.steps ++ take_front_steps c.number g);
          does = record {
            is = alive;
            does = record {
              paid = visit_state k y;
              filled = visit_state l z;
              paying = pays.steps;
              filling = fills.steps;
              pays = pays.does;
              fills = fills.does;
              takes = takes;
              steps_are = refl;
            };
          };
          makes = makes_both t pays.steps (fills.steps ++ take_front_steps c.number g) m k n pays.makes
              (makes_both t fills.steps (take_front_steps c.number g) k l n fills.makes last);
        }
