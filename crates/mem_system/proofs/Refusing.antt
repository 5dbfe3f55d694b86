-- A refusal that changes nothing. Serves `remove_group`.
use Rattle.std.proofs.Common.{ℕ, [], refl}
use Rattle.group_tree.specs.declared.fault.Fault.{Fault}
use Rattle.group_tree.specs.declared.fault.Fault.TheVariants.{BadName, HasChildren}
use Rattle.boot_words.specs.Tables.{KnownTable}
use Rattle.mem_machine.specs.{KnownMachine, Makes, BySteps, transition}
use Rattle.mem_machine.proofs.Followed.{makes_none}
use Rattle.mem_system.specs.declared.outcome.Outcome.TheVariants.{Refused}
use Rattle.mem_system.specs.{IsNoLeaf, Removes}

-- the group can't be removed
pub none_removed : (t : KnownTable) (group : ℕ) (fault : Fault) (m : KnownMachine) → IsNoLeaf m.ledger.groups group fault
    → BySteps Makes t (Removes group (Refused fault)) m m
none_removed t group fault m none = record { steps = []; does = stays fault none; makes = makes_none t m }
  where
    stays : (f : Fault) → IsNoLeaf m.ledger.groups group f → Removes group (Refused f) (transition t m [] m)
    stays BadName why = (why, record { machine = refl; steps_are = refl })
    stays HasChildren why = (why, record { machine = refl; steps_are = refl })
    stays f why = absurd why
