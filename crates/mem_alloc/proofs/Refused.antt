-- A charge that is refused in a boot without kills. Serves `refused_charges_tried_all`.
use Rattle.std.proofs.Common.{◌≡◌, ℕ, Bool, true, false, ◌++◌, refl, sym, ap, ◌∙◌, subst, arith}
use Rattle.std.specs.Prelude.{Err}
use Rattle.boot_words.specs.Pasts.{IsHeld}
use Rattle.group_tree.specs.declared.event.EventKey.TheVariants as event
use Rattle.group_charge.proofs.UsageLemmas.{usage-noted}
use Rattle.mem_machine.specs.{KnownMachine, with_run, over_steps, of_subtree, AreDrained, MachineStays, Transition, transition}
use Rattle.mem_reclaim.specs.{MissedAll}
use Rattle.mem_reclaim.proofs.LettingGo.{drains_leave}
use Rattle.mem_alloc.specs.declared.faults.AllocFault.TheVariants.{Over}
use Rattle.mem_alloc.specs.Laws.{TriedAll}
use Rattle.mem_alloc.specs.NoRash.{IsChargedBelow}
use Rattle.mem_alloc.specs.{IsRefusedAt, UnlessNoKill, has_room_at, with_max_noted_at}
use Rattle.mem_alloc.proofs.NoRash.{drained_on, missed_since, passes_both, passes_same}

-- kills that the boot doesn't allow leave the machine as it is
pub none_killed : (no_kill : Bool) (Kills : Transition KnownMachine → Type 0) (call : Transition KnownMachine) → no_kill ≡ true
    → UnlessNoKill no_kill Kills call → MachineStays call
none_killed no_kill Kills call chosen done = subst (λ (b : Bool). UnlessNoKill b Kills call) chosen done

pub refused_tried_all : (r g pages named : ℕ) (call : Transition KnownMachine) → call.table.choices.is_no_kill ≡ true
    → IsHeld call.table call.before.run.past → IsRefusedAt r g pages (Err (Over named)) call → TriedAll g pages call
refused_tried_all r g pages named call chosen held h =
    let t = call.table in
    let m = call.before in
    let n = call.after in
    let w = with_run m h.seen in
    let clears = h.relieves.first in
    let x = h.relieves.between in
    let next = h.relieves.second in
    let reclaims = next.first in
    let y = next.between in
    let kills = none_killed t.choices.is_no_kill _ (transition t y next.later n) chosen next.second in
    let same : n ≡ y = kills.machine in
    let over : has_room_at n.ledger g pages ≡ false = h.room.1.over in
    let drains = drains_leave t (of_subtree g) t.cpus (with_run (with_max_noted_at w g pages) clears.seen) x clears.drains clears.all in
    let noted = passes_same t m w (over_steps r pages g) h.refuses refl refl (λ k. omega arith) in
    let cleared = passes_same t w x h.relieves.earlier clears.runs drains.links drains.settings
    (λ k. let low = drains.usage k in let e = usage-noted event.Max w.ledger.groups w.ledger.accounts g k in omega (arith, low, e)) in
    let since = passes_both t m w x (over_steps r pages g) h.relieves.earlier noted cleared in
    let missed = missed_since t (IsChargedBelow r pages) m held g (over_steps r pages g ++ h.relieves.earlier) x y since
    (reclaims.missed (ap (λ (k : KnownMachine). has_room_at k.ledger g pages) (sym same) ∙ over)) in
    let drained = drained_on t (IsChargedBelow r pages) m held g x y reclaims.keeps.groups reclaims.keeps.stocks clears.drained in
    record {
      over = over;
      drained = subst (λ (k : KnownMachine). AreDrained t g k) (sym same) drained;
      missed = subst (λ (k : KnownMachine). MissedAll g m k) (sym same) missed;
    }
