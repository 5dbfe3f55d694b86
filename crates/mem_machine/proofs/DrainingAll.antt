-- What drains leave of the stocks; and the stocks of a subtree, or of a group, are drained, one CPU after the other. Serves
-- `drain_chosen`, and the crates above.
use Rattle.std.proofs.Common.{◌≡◌, ℕ, ◌+◌, ◌-◌, ◌*◌, ◌≤◌, ◌==◌, Bool, true, false, Option, Some, None, List, [], ◌∷◌, ◌++◌, suc, refl}
use Rattle.std.proofs.Common.{sym, ap, ◌∙◌, subst, inl, inr, arith}
use Rattle.std.specs.Prelude.{is_some}
use Rattle.std.proofs.lemmas.List.{append-nil}
use Rattle.std.proofs.lemmas.List.Sums.{sum_by-append}
use Rattle.std.proofs.lemmas.Grind.{flat_map-append}
use Rattle.std.proofs.lemmas.Bool.{cases_eq, false≢true}
use Rattle.step_rules.specs.State.{Part, State}
use Rattle.step_rules.specs.After.{Run, drained}
use Rattle.step_rules.proofs.Basics.{at_other, at_same}
use Rattle.boot_words.specs.Tables.{KnownTable}
use Rattle.mem_machine.specs.{KnownMachine, part_at, stock_group, Makes, StaysVisited, Drain, drain_steps, drain_stocks_steps, pages_drained}
use Rattle.mem_machine.specs.{AreDrainedIf, Drains, DrainsAllIf, DrainsBySteps, DrainsIf, DrainsNoted, HasDrained}
use Rattle.mem_machine.specs.{IsDrained, StockTest}
use Rattle.mem_machine.proofs.Draining.{groups_stay}
use Rattle.mem_machine.proofs.Followed.{makes_both, makes_none}

-- ---- one drain

-- a drained part pays for nothing
drained_has : (part : Part) (n : ℕ) → HasDrained (drained part n)
drained_has part n = by part.stock.group refl
  where
    by : (o : Option ℕ) → part.stock.group ≡ o → HasDrained (drained part n)
    by None e = inl e
    by (Some g) e = inr (ap is_some e)

module _ (t : KnownTable) (q n : ℕ) (x y : KnownMachine) (d : Drains t q n x y) where
  pub drained_part : part_at t y q ≡ drained (part_at t x q) n
  drained_part = ap (λ (s : State). s.parts q) d.left ∙ at_same (λ p. part_at t x p) q (drained (part_at t x q) n)

  pub drained_else : (p : ℕ) → (p ≡ q → ⊥) → part_at t y p ≡ part_at t x p
  drained_else p ne = ap (λ (s : State). s.parts p) d.left ∙ at_other (λ k. part_at t x k) q (drained (part_at t x q) n) p ne

  -- it is drained now
  pub drained_now : IsDrained t y q
  drained_now = subst HasDrained (sym drained_part) (drained_has (part_at t x q) n)

  -- each stock is of the same group, and each that was drained still is
  pub drained_groups : (p : ℕ) → stock_group t y p ≡ stock_group t x p
  drained_groups p = elim (cases_eq p q) [
    | inl e ↦ subst (λ (k : ℕ). stock_group t y k ≡ stock_group t x k) (sym e) (ap (λ (part : Part). part.stock.group) drained_part)
    | inr ne ↦ ap (λ (part : Part). part.stock.group) (drained_else p ne)
  ]

  pub drained_still : (p : ℕ) → IsDrained t x p → IsDrained t y p
  drained_still p was = elim (cases_eq p q) [
    | inl e ↦ subst (IsDrained t y) (sym e) drained_now
    | inr ne ↦ subst HasDrained (sym (drained_else p ne)) was
  ]

  pub drained_trees : y.ledger.groups ≡ x.ledger.groups
  drained_trees = ap (λ (k : KnownMachine). k.ledger.groups) d.machine ∙ groups_stay x.ledger (stock_group t x q) n

-- ---- the usage

-- ---- the drains of one CPU's stock, if it is chosen

module _ (t : KnownTable) (test : StockTest) (q : ℕ) (x n : KnownMachine) where
  pub below_groups : (drains : List Drain) → DrainsIf t test q drains x n → n.ledger.groups ≡ x.ledger.groups
  below_groups [] d = ap (λ (y : KnownMachine). y.ledger.groups) d.1
  below_groups (e ∷ []) d = drained_trees t q e.pages x (record n { notes = x.notes }) d.1.drains.drains
  below_groups (e ∷ f ∷ more) d = absurd d

  pub below_owners : (drains : List Drain) → DrainsIf t test q drains x n → (p : ℕ) → stock_group t n p ≡ stock_group t x p
  below_owners [] d p = ap (λ (y : KnownMachine). stock_group t y p) d.1
  below_owners (e ∷ []) d p = drained_groups t q e.pages x (record n { notes = x.notes }) d.1.drains.drains p
  below_owners (e ∷ f ∷ more) d p = absurd d

  pub below_still : (drains : List Drain) → DrainsIf t test q drains x n → (p : ℕ) → IsDrained t x p → IsDrained t n p
  below_still [] d p was = subst (λ (y : KnownMachine). IsDrained t y p) (sym d.1) was
  below_still (e ∷ []) d p was = drained_still t q e.pages x (record n { notes = x.notes }) d.1.drains.drains p was
  below_still (e ∷ f ∷ more) d p was = absurd d

  pub below_drained : (drains : List Drain) → DrainsIf t test q drains x n → test x.ledger.groups (stock_group t x q) ≡ true → IsDrained t n q
  below_drained [] d below = absurd (false≢true (sym d.0 ∙ below))
  below_drained (e ∷ []) d below = drained_now t q e.pages x (record n { notes = x.notes }) d.1.drains.drains
  below_drained (e ∷ f ∷ more) d below = absurd d

-- it is chosen, and is drained
pub drained_one : (t : KnownTable) (test : StockTest) (q pages : ℕ) (m n : KnownMachine) → test m.ledger.groups (stock_group t m q) ≡ true
    → DrainsNoted t q pages m n → Makes t m (drain_steps q (stock_group t m q) pages) n → DrainsBySteps t (DrainsIf t test q) pages m n
drained_one t test q pages m n chosen drains steps = record {
  drains = record { cpu = q; group = stock_group t m q; pages = pages } ∷ [];
  all = (chosen, record { same_cpu = refl; group = refl; drains = drains });
  sum = omega arith;
  steps = subst (λ (r : Run). Makes t m r n) (sym (append-nil (drain_steps q (stock_group t m q) pages))) steps;
}

-- it isn't chosen
drained_not : (t : KnownTable) (test : StockTest) (q : ℕ) (m : KnownMachine) → test m.ledger.groups (stock_group t m q) ≡ false → DrainsBySteps t (DrainsIf t test q) 0 m m
drained_not t test q m other = record { drains = []; all = (other, refl); sum = refl; steps = makes_none t m }

-- ---- all of them

-- after k CPUs
pub record DrainedSoFar (t : KnownTable) (test : StockTest) (k pages : ℕ) (m n : KnownMachine) : Type 0 where
  pub drains : List Drain
  pub all : DrainsAllIf t test k drains m n
  pub sum : pages ≡ pages_drained drains
  pub drained : AreDrainedIf t test k n
  pub steps : Makes t m (drain_stocks_steps drains) n
  pub small : pages ≤ k * 4294967295
  pub visit : StaysVisited t m n

are_drained : (t : KnownTable) (test : StockTest) (k : ℕ) (x n : KnownMachine) (last : List Drain) → DrainsIf t test (k + 1) last x n → AreDrainedIf t test k x → AreDrainedIf t test (k + 1) n
are_drained t test k x n last d before q some few below =
    let was : test x.ledger.groups (stock_group t x q) ≡ true = (λ i. test (sym (below_groups t test (k + 1) x n last d) i) (sym (below_owners t test (k + 1) x n last d q) i)) ∙ below in
    elim (cases_eq q (k + 1)) [
      | inl e ↦ subst (IsDrained t n) (sym e) (below_drained t test (k + 1) x n last d (subst (λ (j : ℕ). test x.ledger.groups (stock_group t x j) ≡ true) e was))
      | inr ne ↦ below_still t test (k + 1) x n last d q (before q some (omega (arith, few, ne)) was)
    ]

pub drained_more : (t : KnownTable) (test : StockTest) (k pages more : ℕ) (m x n : KnownMachine) → DrainedSoFar t test k pages m x → DrainsBySteps t (DrainsIf t test (k + 1)) more x n
    → StaysVisited t x n → more ≤ 4294967295 → DrainedSoFar t test (k + 1) (pages + more) m n
drained_more t test k pages more m x n before last stays bound =
    let next : suc k ≡ k + 1 = omega arith in
    let both = sum_by-append (λ (d : Drain). d.pages) before.drains last.drains in
    let a = before.sum in
    let b = last.sum in
    let low = before.small in
    let list : drain_stocks_steps before.drains ++ drain_stocks_steps last.drains ≡ drain_stocks_steps (before.drains ++ last.drains) =
    sym (flat_map-append (λ (d : Drain). drain_steps d.cpu d.group d.pages) before.drains last.drains) in
    record {
      drains = before.drains ++ last.drains;
      all = subst (λ (j : ℕ). DrainsAllIf t test j (before.drains ++ last.drains) m n) next
          (record {
            first = before.drains;
            last = last.drains;
            between = x;
            drains_are = refl;
            makes_first = before.all;
            makes_last = subst (λ (j : ℕ). DrainsIf t test j last.drains x n) (sym next) last.all;
          });
      sum = omega (arith, both, a, b);
      drained = are_drained t test k x n last.drains last.all before.drained;
      steps = subst (λ (r : Run). Makes t m r n) list (makes_both t (drain_stocks_steps before.drains) (drain_stocks_steps last.drains) m x n before.steps last.steps);
      small = omega (arith, low, bound);
      visit = λ c visit. stays c (before.visit c visit);
    }

pub drained_end : (t : KnownTable) (test : StockTest) (k pages : ℕ) (m n : KnownMachine) → DrainedSoFar t test k pages m n → k ≡ t.cpus → DrainsBySteps t (DrainsAllIf t test t.cpus) pages m n
drained_end t test k pages m n so_far all = record {
  drains = so_far.drains;
  all = subst (λ (j : ℕ). DrainsAllIf t test j so_far.drains m n) all so_far.all;
  sum = so_far.sum;
  steps = so_far.steps;
}

-- no stock was drained yet
pub drained_first : (t : KnownTable) (test : StockTest) (m : KnownMachine) → DrainedSoFar t test 0 0 m m
drained_first t test m = record {
  drains = [];
  all = (refl, refl);
  sum = refl;
  drained = λ q some few. absurd (omega (arith, some, few));
  steps = makes_none t m;
  small = omega arith;
  visit = λ c visit. visit;
}

-- the next stock isn't chosen
pub drained_skips : (t : KnownTable) (test : StockTest) (k pages : ℕ) (m n : KnownMachine) → DrainedSoFar t test k pages m n
    → test n.ledger.groups (stock_group t n (k + 1)) ≡ false → DrainedSoFar t test (k + 1) pages m n
drained_skips t test k pages m n before now =
    let same : pages + 0 ≡ pages = omega arith in
    subst (λ (j : ℕ). DrainedSoFar t test (k + 1) j m n) same
    (drained_more t test k pages 0 m n n before (drained_not t test (k + 1) n now) (λ c visit. visit) (omega arith))
