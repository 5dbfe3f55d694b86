-- What the CPU that has taken the lock sees is what the run shows it. Serves `the_holder_is_shown`, `lines_follow`.
use Rattle.std.proofs.Common.{◌≡◌, ℕ, ◌+◌, List, length, sym, ◌∙◌, ap, subst, arith}
use Rattle.cpu_part.specs.{KnownCpuLists, HasOwn}
use Rattle.cpu_part.proofs.Owning.{own_unseen}
use Rattle.step_rules.specs.declared.phase.Hold.{Hold}
use Rattle.step_rules.specs.declared.phase.Hold.TheVariants.{HeldBy}
use Rattle.step_rules.specs.{Part, Zone, Run, state_of, IsLegalRun, other_part_seen, seen_by}
use Rattle.step_rules.specs.State.{State}
use Rattle.boot_words.specs.{hide, show_own, cpu_past, zone_of_boot, KnownTable}
use Rattle.boot_words.proofs.Showing.{holder_sees_both}
use Rattle.mem_machine.specs.{KnownMachine, VisitState, left_by, local_of}
use Rattle.mem_history.specs.Whole.{HasTakenLock, LeavesState}

-- two parts with the same lists that look the same to others
part_same : (x y : Part) → other_part_seen x ≡ other_part_seen y → x.list ≡ y.list → x.fresh ≡ y.fresh → x.back ≡ y.back → x ≡ y
part_same x y same list fresh back =
    let seen : x.stock.pages + length x.fresh ≡ y.stock.pages + length y.fresh = ap (λ (z : Part). z.stock.pages) same in
    let long = ap length fresh in
    let pages : x.stock.pages ≡ y.stock.pages = omega (arith, seen, long) in
    λ i. record {
      list = list i;
      fresh = fresh i;
      back = back i;
      stock = record { group = ap (λ (z : Part). z.stock.group) same i; pages = pages i; is_drained = ap (λ (z : Part). z.stock.is_drained) same i };
      book = ap (λ (z : Part). z.book) same i;
      unreported = ap (λ (z : Part). z.unreported) same i;
      reported = ap (λ (z : Part). z.reported) same i;
    }

-- after two legal runs a CPU sees the same if it has the same, and all else is the same
pub sees_same : (zone : Zone) (run other : Run) (c : KnownCpuLists) → IsLegalRun zone run → IsLegalRun zone other
    → hide (state_of zone run) ≡ hide (state_of zone other) → HasOwn (state_of zone run) c → HasOwn (state_of zone other) c
    → seen_by c.number (state_of zone run) ≡ seen_by c.number (state_of zone other)
sees_same zone run other c legal legal_other same own own_other =
    let p = c.number in let s = state_of zone run in let u = state_of zone other in
    let part : s.parts p ≡ u.parts p = part_same (s.parts p) (u.parts p) (ap (λ (x : State). x.parts p) same) (own.list ∙ sym own_other.list)
    (own.fresh ∙ sym own_other.fresh) (own.back ∙ sym own_other.back) in
    let references : s.references p ≡ u.references p = λ i f. (own.references f ∙ sym (own_other.references f)) i in
    holder_sees_both zone run p legal ∙ (λ i. show_own p (part i) (references i) (same i)) ∙ sym (holder_sees_both zone other p legal_other)

-- what the machine's past left, except who holds the lock
pub leaves : (t : KnownTable) (m : KnownMachine) (s : State) (hold : Hold) → left_by t m.run.past ≡ hide s → LeavesState t m (record s { hold = hold })
leaves t m s hold left = ap (λ (x : State). record x { hold = (left_by t m.run.past).hold }) left

module _ (t : KnownTable) (run : Run) (cpus : List KnownCpuLists) (k : ℕ) (now : VisitState) (taken : HasTakenLock t cpus k now)
    (legal : IsLegalRun (zone_of_boot t) run) where
  abbrev m : KnownMachine
  m = now.machine

  abbrev c : KnownCpuLists
  c = now.cpu

  -- what the holder's past left, whole
  abbrev seen : State
  seen = state_of (zone_of_boot t) (cpu_past now.machine.run.past).seen

  left_is : left_by t now.machine.run.past ≡ hide (state_of (zone_of_boot t) (cpu_past now.machine.run.past).seen)
  left_is = ap (λ (r : Run). hide (state_of (zone_of_boot t) r)) taken.holds.held.holds.same

  local_is : local_of t now.machine ≡ seen_by now.cpu.number (state_of (zone_of_boot t) (cpu_past now.machine.run.past).seen)
  local_is = ap (λ (q : ℕ). seen_by q seen) taken.holds.who

  -- the run that shows the whole left the CPU's lists, and what the machine's past left; then the CPU sees the same
  pub sees_whole : LeavesState t now.machine (state_of (zone_of_boot t) run) → HasOwn (state_of (zone_of_boot t) run) now.cpu
      → state_of (zone_of_boot t) run ≡ record (state_of (zone_of_boot t) run) { hold = HeldBy now.cpu.number }
      → local_of t now.machine ≡ seen_by now.cpu.number (state_of (zone_of_boot t) run)
  sees_whole left own held =
      let zone = zone_of_boot t in
      let hold : (left_by t m.run.past).hold ≡ HeldBy c.number = ap (λ (x : State). x.hold) left_is ∙ ap (λ (x : State). x.hold) (sym local_is) ∙ taken.shut in
      let same : hide seen ≡ hide (state_of zone run) = sym left_is ∙ left ∙ ap (λ (h : Hold). record (hide (state_of zone run)) { hold = h }) hold ∙ ap hide (sym held) in
      local_is ∙ sees_same zone (cpu_past m.run.past).seen run c taken.holds.held.holds.shows.legal legal same
      (own_unseen seen c (subst (λ (x : State). HasOwn x c) local_is taken.holds.own)) own
