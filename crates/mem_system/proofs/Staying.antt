-- Serves `serve_outcome`: settling leaves the groups.
use Rattle.std.proofs.Common.{◌≡◌, ℕ, List, [], ◌∷◌, ap, ◌∙◌, inl, inr}
use Rattle.std.proofs.lemmas.Bool.{cases_Bool}
use Rattle.boot_words.specs.Tables.{KnownTable}
use Rattle.cpu_part.specs.Cpus.{KnownCpuLists}
use Rattle.mem_machine.specs.{KnownMachine, visit_state, SettlesFresh, SettlesAllFresh, ReturnsAllBack, Settles, is_fresh_killed}

module _ (t : KnownTable) where
  settled_fresh : (f : ℕ) (m n : KnownMachine) (c d : KnownCpuLists) → SettlesFresh t f (visit_state m c) (visit_state n d) → n.ledger.groups ≡ m.ledger.groups
  settled_fresh f m n c d s = elim (cases_Bool (is_fresh_killed t (visit_state m c))) [
    | inl killed ↦ ap (λ (k : KnownMachine). k.ledger.groups) (s.drops killed).machine
    | inr alive ↦ ap (λ (k : KnownMachine). k.ledger.groups) (s.keeps alive).machine
  ]

  settled_all : (frames : List ℕ) (m n : KnownMachine) (c d : KnownCpuLists) → SettlesAllFresh t frames (visit_state m c) (visit_state n d)
      → n.ledger.groups ≡ m.ledger.groups
  settled_all [] m n c d s = ap (λ (k : KnownMachine). k.ledger.groups) s.machine
  settled_all (f ∷ rest) m n c d s = settled_all rest s.between.machine n s.between.cpu d s.rest ∙ settled_fresh f m s.between.machine c s.between.cpu s.first

returned_all : (frames : List ℕ) (m n : KnownMachine) (c d : KnownCpuLists) → ReturnsAllBack frames (visit_state m c) (visit_state n d) → n.ledger.groups ≡ m.ledger.groups
returned_all [] m n c d s = ap (λ (k : KnownMachine). k.ledger.groups) s.machine
returned_all (f ∷ rest) m n c d s = returned_all rest s.between.machine n s.between.cpu d s.rest ∙ ap (λ (k : KnownMachine). k.ledger.groups) s.first.machine

pub settled_groups : (t : KnownTable) (m n : KnownMachine) (c d : KnownCpuLists) → Settles t (visit_state m c) (visit_state n d) → n.ledger.groups ≡ m.ledger.groups
settled_groups t m n c d s = returned_all c.back s.mid.machine n s.mid.cpu d s.back ∙ settled_all t c.fresh m s.mid.machine c s.mid.cpu s.fresh
