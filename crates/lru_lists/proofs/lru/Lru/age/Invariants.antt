use Rattle.std.proofs.Common.{◌≡◌, ◌<◌, ◌+◌, ◌-◌, ◌++◌, ℕ, false, length, map, take, drop}
use Rattle.lru_lists.specs.Lists.{AreLinked, KeepsUnits, SameOwners, inactive_of, active_of, marked}
use Rattle.lru_lists.proofs.lru.Lru.age.Given as goal

abbrev pub decreases-loop-self : goal.decreases-loop-self
decreases-loop-self l = l.self.active.length

abbrev pub invariant-loop-self : goal.invariant-loop-self
invariant-loop-self l = record {
  stands : AreLinked l.links l.self;
  owner : l.self.owner ≡ l.fn.self.owner;
  keeps : KeepsUnits l.fn.links l.links l.fn.self.owner;
  owners : SameOwners l.fn.links l.links;
  moved : (k : ℕ) × (inactive_of l.links l.self ≡ inactive_of l.fn.links l.fn.self ++ map (marked false) (take k (active_of l.fn.links l.fn.self)))
      × (active_of l.links l.self ≡ drop k (active_of l.fn.links l.fn.self))
      × ((j : ℕ) → j < k → length (inactive_of l.fn.links l.fn.self) + j < length (active_of l.fn.links l.fn.self) - j);
}
