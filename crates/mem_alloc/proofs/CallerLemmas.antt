-- What crates above cite: the group over whose limit a charge would have gone is there.
use Rattle.std.proofs.Common.{◌≡◌, ℕ, ◌^◌, true, subst, sym}
use Rattle.std.specs.Prelude.{Err}
use Rattle.group_tree.specs.Groups.{has_group}
use Rattle.group_tree.proofs.CallerLemmas.{in_subtree-above}
use Rattle.boot_words.specs.Tables.{KnownTable}
use Rattle.cpu_part.specs.Cpus.{KnownCpuLists}
use Rattle.zone_blocks.specs.declared.config.Config.{Config}
use Rattle.step_rules.specs.After.{Run}
use Rattle.mem_machine.specs.{KnownMachine, visit_state, transition}
use Rattle.mem_alloc.specs.declared.faults.AllocFault.TheVariants.{Over}
use Rattle.mem_alloc.specs.{IsRefusedFor, AllocatesFrame, AllocatesBlock}
use Rattle.mem_alloc.proofs.Lowering.{lowered_there}
use Rattle.mem_alloc.proofs.Filling.{refused_lowers}

over_there : (t : KnownTable) (g pages over : ℕ) (m n : KnownMachine) (c d : KnownCpuLists) (steps : Run)
    → IsRefusedFor g pages (Over over) (transition t (visit_state m c) steps (visit_state n d)) → has_group n.ledger.groups over ≡ true
over_there t g pages over m n c d steps h =
    let at = h.does.does.0 in
    let refused = h.does.does.1 in
    subst (λ (o : ℕ). has_group n.ledger.groups o ≡ true) (sym refused.room.0)
    (lowered_there t h.cleared n at (refused_lowers t g pages at (Err (Over over)) h.cleared n h.later refused)
    (in_subtree-above h.cleared.ledger.groups at g refused.lowest.on_path))

-- after a frame was refused
pub frame_over_there : (t : KnownTable) (sizes : Config) (g over : ℕ) (m n : KnownMachine) (c d : KnownCpuLists) (steps : Run)
    → AllocatesFrame sizes g (Err (Over over)) (transition t (visit_state m c) steps (visit_state n d)) → has_group n.ledger.groups over ≡ true
frame_over_there t sizes g over m n c d steps h =
    let anew = h.does.does in
    let charges = anew.second in
    over_there t g 1 over charges.between.machine n charges.between.cpu d charges.later charges.second

-- after a block was refused
pub block_over_there : (t : KnownTable) (g k over : ℕ) (m n : KnownMachine) (c d : KnownCpuLists) (steps : Run)
    → AllocatesBlock g k (Err (Over over)) (transition t (visit_state m c) steps (visit_state n d)) → has_group n.ledger.groups over ≡ true
block_over_there t g k over m n c d steps h = over_there t g (2 ^ k) over m n c d steps h.does
