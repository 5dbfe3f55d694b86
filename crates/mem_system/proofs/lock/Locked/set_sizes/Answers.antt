use Rattle.std.proofs.Common.{◌∙◌, ℕ, length, subst, sym}
use Rattle.std.specs.Vec.{vec_capacity}
use Rattle.mem_system.specs.Locked.{IsEmptyWithRoom}
use Rattle.mem_system.proofs.lock.Locked.set_sizes.Goals as goal

pub invariant_of-self : goal.invariant_of-self
invariant_of-self g c =
    let q = c.self.invariant.quiet in
    let seats = c.self.inside.seats in record {
      quiet = record { shut = q.shut; rests = q.rests; counted = q.counted; valid = c.requires.valid; sized = c.requires.sized };
      seats = subst (λ (n : ℕ). IsEmptyWithRoom n (length seats.items) (vec_capacity seats))
          (sym q.sized.cpus ∙ c.requires.sized.cpus) c.self.invariant.seats;
    }
