-- Serves the commands that lower a usage or set a limit, and `execute`.
use Rattle.std.proofs.Common.{◌≡◌, ℕ, ◌+◌, ◌<◌, ◌≤◌, ◌++◌, [], List, Option, Some, None, true, false, refl, sym, ◌∙◌, subst, arith}
use Rattle.group_tree.specs.declared.group.Group.{Group}
use Rattle.group_tree.specs.Groups.{has_group, has_child}
use Rattle.group_charge.specs.Charges.{current_of}
use Rattle.boot_words.specs.Tables.{KnownTable}
use Rattle.cpu_part.specs.Cpus.{KnownCpuLists}
use Rattle.mem_machine.specs.{KnownMachine, with_run, KeepsVisit, Makes, Visits, drain_stocks_steps, set_max_steps, AreDrained, DrainsSubtree}
use Rattle.mem_machine.specs.{of_subtree, BySteps, transition}
use Rattle.mem_machine.proofs.Followed.{makes_both, makes_none}
use Rattle.mem_reclaim.specs.{FreesBySteps, ReclaimsRounds, pages_missing, Keeps, MissedAll}
use Rattle.mem_reclaim.proofs.LettingGo.{drains_leave}
use Rattle.mem_alloc.specs.{KillsForRoom, KillsIfAllowed, with_limit_noted}
use Rattle.mem_system.specs.{IsLeaf, LowersUsage, LowersAbove, LowersToHigh, KeepsToLimit, with_high_told, SetsLimit, with_limit_of}

-- a call on the machine alone keeps the visit if the CPU is visited after it
pub keeps_visit : (t : KnownTable) (m n : KnownMachine) (c : KnownCpuLists) → Visits t n c → KeepsVisit t c n c
keeps_visit t m n c v = record { visit = v; number = refl; back = refl }

-- ---- a usage that is lowered

pub lowered_groups : (t : KnownTable) (g limit : ℕ) (m n : KnownMachine) → BySteps Makes t (LowersUsage g limit) m n
    → n.ledger.groups ≡ m.ledger.groups
lowered_groups t g limit m n b =
    b.does.keeps.groups ∙ (drains_leave t (of_subtree g) t.cpus m b.does.drained b.does.drains b.does.drains_all).groups

-- the stocks are drained, and then the rounds are made
pub lowered_by : (t : KnownTable) (g limit pages freed : ℕ) (m x n : KnownMachine) → DrainsSubtree t g pages m x
    → AreDrained t g x
    → FreesBySteps t freed x n (ReclaimsRounds g (pages_missing g 0 limit) 16)
    → (limit < current_of n.ledger g + 0 → MissedAll g x n) → Keeps t x n → BySteps Makes t (LowersUsage g limit) m n
lowered_by t g limit pages freed m x n sub none leads missed keeps = record {
  steps = drain_stocks_steps sub.drains ++ leads.steps;
  does = record {
    drains = sub.drains;
    drained = x;
    drains_all = sub.all;
    none_held = none;
    drain_runs = sub.steps;
    freed = freed;
    reclaims = leads;
    missed = λ over. missed (omega (arith, over));
    keeps = keeps;
    steps_are = refl;
  };
  makes = makes_both t (drain_stocks_steps sub.drains) leads.steps m x n sub.steps leads.moves.runs;
}

-- ---- a limit that is set

-- the usage is above it
pub lowered_above : (t : KnownTable) (g limit : ℕ) (m y x n : KnownMachine) → limit < current_of m.ledger g → y ≡ with_limit_noted m g 0
    → BySteps Makes t (LowersUsage g limit) y x → BySteps Makes t (KillsIfAllowed (KillsForRoom None g 0)) x n
    → BySteps Makes t (LowersAbove g limit) m n
lowered_above t g limit m y x n over told of_y k =
    let b = subst (λ (z : KnownMachine). BySteps Makes t (LowersUsage g limit) z x) told of_y in record {
      steps = b.steps ++ k.steps;
      does = record {
        above = λ more. record { lowered = x; lowering = b.steps; killing = k.steps; lowers = b.does; kills = k.does; steps_are = refl };
        within = λ (less : current_of m.ledger g ≤ limit). absurd (omega (arith, over, less));
      };
      makes = makes_both t b.steps k.steps m x n
          (record { holder = b.makes.holder; leads = b.makes.leads; follows = b.makes.follows; counts = b.makes.counts; noted = b.makes.noted }) k.makes;
    }

-- the usage is within it
pub lowered_none : (t : KnownTable) (g limit : ℕ) (m : KnownMachine) → current_of m.ledger g ≤ limit
    → BySteps Makes t (LowersAbove g limit) m m
lowered_none t g limit m within = record {
  steps = [];
  does = record {
    above = λ (over : limit < current_of m.ledger g). absurd (omega (arith, over, within));
    within = λ less. record { machine = refl; steps_are = refl };
  };
  makes = makes_none t m;
}

-- the limit is set, and then the usage is kept to it
limited_by : (t : KnownTable) (g : ℕ) (of : Option ℕ) (m x n : KnownMachine) → x ≡ with_run (with_limit_of m g of) x.run
    → Makes t m (set_max_steps g of) x
    → BySteps Makes t (KeepsToLimit g of) x n → BySteps Makes t (SetsLimit g of) m n
limited_by t g of m x n is first last = record {
  steps = set_max_steps g of ++ last.steps;
  does = record {
    lowering = last.steps;
    seen = x.run;
    sets = subst (Makes t m (set_max_steps g of)) is first;
    keeps = subst (λ (k : KnownMachine). KeepsToLimit g of (transition t k last.steps n)) is last.does;
    steps_are = refl;
  };
  makes = makes_both t (set_max_steps g of) last.steps m x n first last.makes;
}

-- there is one
pub limited_to : (t : KnownTable) (g limit : ℕ) (of : Option ℕ) (m x n : KnownMachine) → of ≡ Some limit
    → x ≡ with_run (with_limit_of m g of) x.run
    → Makes t m (set_max_steps g of) x → BySteps Makes t (LowersAbove g limit) x n
    → BySteps Makes t (SetsLimit g of) m n
limited_to t g limit of m x n some is first last =
    let keeps = subst (λ (o : Option ℕ). KeepsToLimit g o (transition t x last.steps n)) (sym some) last.does in
    limited_by t g of m x n is first (record { steps = last.steps; does = keeps; makes = last.makes })

-- there is none
pub limited_none : (t : KnownTable) (g : ℕ) (of : Option ℕ) (m x : KnownMachine) → of ≡ None → x ≡ with_run (with_limit_of m g of) x.run
    → Makes t m (set_max_steps g of) x → BySteps Makes t (SetsLimit g of) m x
limited_none t g of m x none is first =
    let keeps = subst (λ (o : Option ℕ). KeepsToLimit g o (transition t x [] x)) (sym none) (record { machine = refl; steps_are = refl }) in
    limited_by t g of m x x is first (record { steps = []; does = keeps; makes = makes_none t x })

-- ---- a memory.high that is set

-- there is none
pub high_none : (t : KnownTable) (g : ℕ) (of : Option ℕ) (m : KnownMachine) → of ≡ None → BySteps Makes t (LowersToHigh g of) m m
high_none t g of m none = subst (λ (o : Option ℕ). BySteps Makes t (LowersToHigh g o) m m) (sym none) (record {
  steps = [];
  does = record { machine = refl; steps_are = refl };
  makes = makes_none t m;
})

module _ (t : KnownTable) (g high : ℕ) (of : Option ℕ) (m : KnownMachine) (some : of ≡ Some high) where
  -- the usage is above it
  pub high_above : (y n : KnownMachine) → high < current_of m.ledger g → y ≡ with_high_told m g high → BySteps Makes t (LowersUsage g high) y n
      → BySteps Makes t (LowersToHigh g of) m n
  high_above y n over told of_y =
      let b = subst (λ (z : KnownMachine). BySteps Makes t (LowersUsage g high) z n) told of_y in
      subst (λ (o : Option ℕ). BySteps Makes t (LowersToHigh g o) m n) (sym some) (record {
        steps = b.steps;
        does = record {
          above = λ more. b.does;
          within = λ (less : current_of m.ledger g ≤ high). absurd (omega (arith, over, less));
        };
        makes = record { holder = b.makes.holder; leads = b.makes.leads; follows = b.makes.follows; counts = b.makes.counts; noted = b.makes.noted };
      })

  -- the usage is within it
  pub high_within : current_of m.ledger g ≤ high → BySteps Makes t (LowersToHigh g of) m m
  high_within within = subst (λ (o : Option ℕ). BySteps Makes t (LowersToHigh g o) m m) (sym some) (record {
    steps = [];
    does = record {
      above = λ (over : high < current_of m.ledger g). absurd (omega (arith, over, within));
      within = λ less. record { machine = refl; steps_are = refl };
    };
    makes = makes_none t m;
  })

-- ---- a group that is removed

-- the group is there still, and no group lies below it
pub leaf_keeps : (was now : List Group) (g : ℕ) → now ≡ was → has_group was g ≡ true → IsLeaf was g
    → (has_group now g ≡ true) × (has_child now g ≡ false)
leaf_keeps was now g same there is =
    subst (λ (l : List Group). (has_group l g ≡ true) × (has_child l g ≡ false)) (sym same) (there, is.1)
