use Rattle.lru_lists.proofs.Walking.{rest_holds}
use Rattle.lru_lists.proofs.walk.WalkIterator.next.Goals as goal

pub invariant_of-self : goal.invariant_of-self
invariant_of-self c =
    rw c.link.ensures (rest_holds c.self.inside.links.now c.self.inside.next c.self.inside.left c.in_ok-unit.unit c.in_ok-unit.was c.if-self-eq0.false c.self.invariant)
