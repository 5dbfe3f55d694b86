-- The ledger's number for a group is its usage by the run. Serves `current_is_kept`, `the_whole_is_promised`.
use Rattle.std.proofs.Common.{◌≡◌, ℕ, ◌+◌, List, sym, ◌∙◌, ap, arith}
use Rattle.group_charge.specs.Charges.{AreCharges, current_of}
use Rattle.boot_words.specs.{zone_of_boot, KnownTable}
use Rattle.cpu_part.specs.Cpus.{KnownCpuLists}
use Rattle.step_rules.specs.{KeepsInvariant, told_pages, frames_kept, pages_prepaid, usage_of, Run, state_of}
use Rattle.step_rules.specs.State.{State}
use Rattle.step_rules.proofs.CoverUsage.{usage_seen}
use Rattle.step_rules.proofs.Runs.{sound_run}
use Rattle.step_rules.proofs.Freeing.{zone_of_run}
use Rattle.step_rules.proofs.Settling.{nothing_pends}
use Rattle.mem_machine.specs.{KnownMachine, IsConsistent, left_by}
use Rattle.mem_machine.proofs.Usage.{usage_hidden, usage_left}
use Rattle.mem_history.specs.{ShowsAll, CurrentIsKept}

-- the ledger's number is the usage by the run
pub current_is : (t : KnownTable) (run : Run) (m : KnownMachine) (cpus : List KnownCpuLists) → ShowsAll t run m cpus → IsConsistent t m → AreCharges m.ledger
    → (g : ℕ) → current_of m.ledger g ≡ usage_of (state_of (zone_of_boot t) run) g
current_is t run m cpus shows ok charges g =
    let whole = state_of (zone_of_boot t) run in
    let sound : KeepsInvariant whole = sound_run (zone_of_boot t) run shows.legal in
    let book_is : (q : ℕ) → ((left_by t m.run.past).parts q).stock.pages ≡ ((left_by t m.run.past).parts q).book = λ q.
    let booked = sound.booked q in let none = ok.shown.absorbed q in
    let pages = ap (λ (s : State). (s.parts q).stock.pages) shows.left in let book = ap (λ (s : State). (s.parts q).book) shows.left in
    let told = ap (λ (s : State). told_pages (s.parts q)) shows.left in omega (arith, booked, none, pages, book, told) in
    sym (usage_left t m ok charges g book_is) ∙ ap (λ (s : State). usage_of s g) shows.left ∙ sym (usage_hidden whole sound 0 g) ∙ usage_seen whole 0 sound g

pub current_is_kept : CurrentIsKept
current_is_kept t run m cpus shows ok charges g =
    let placed = nothing_pends (zone_of_boot t) run shows.legal shows.free in
    current_is t run m cpus shows ok charges g
    ∙ placed.usage g
    ∙ (λ i. frames_kept (state_of (zone_of_boot t) run).groups (state_of (zone_of_boot t) run).phases (zone_of_run (zone_of_boot t) run i).frames g
    + pages_prepaid (state_of (zone_of_boot t) run).groups (state_of (zone_of_boot t) run).parts (zone_of_run (zone_of_boot t) run i).cpus g)
