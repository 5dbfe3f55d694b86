-- The usage by the rules of the steps is the ledger's: a CPU's fresh frames count for the group of its stock, and are in
-- its stock's book. Serves `take_block`, `remove` and `fill_stock`.
use Rattle.std.proofs.Common.{◌≡◌, ℕ, ◌+◌, ◌==◌, Bool, true, false, cond, Option, Some, List, refl, sym, ap, ◌∙◌, arith}
use Rattle.std.proofs.lemmas.Bool.{ne_eqb}
use Rattle.group_tree.specs.Bounds.{most_groups}
use Rattle.group_tree.specs.declared.group.Group.{Group}
use Rattle.group_tree.specs.Groups.{in_subtree}
use Rattle.group_charge.specs.Charges.{AreCharges, current_of}
use Rattle.group_tree.specs.{is_in_subtree}
use Rattle.step_rules.specs.declared.phase.ChargedUnit.{ChargedUnit}
use Rattle.step_rules.specs.declared.phase.Stage.TheVariants.{FreshAt, Live, BackAt}
use Rattle.step_rules.specs.declared.phase.Way.TheVariants.{OnList}
use Rattle.step_rules.specs.declared.phase.Phase.{Phase}
use Rattle.step_rules.specs.declared.phase.Phase.TheVariants as phase
use Rattle.step_rules.specs.{KeepsInvariant, PhasePaid, groups_in, told_pages, keeper_of, Part, one_if, sum_to, Run, state_of}
use Rattle.step_rules.specs.{frames_kept, stock_in_subtree, pages_prepaid, pages_pending, usage_of, other_part_seen, parts_seen_by, phase_seen_by}
use Rattle.step_rules.specs.{seen_by}
use Rattle.step_rules.specs.State.{State}
use Rattle.step_rules.proofs.CoverParts.{other_part}
use Rattle.step_rules.proofs.CoverUsage.{usage_seen}
use Rattle.step_rules.proofs.Freeing.{zone_of_run}
use Rattle.step_rules.proofs.Runs.{sound_run}
use Rattle.step_rules.proofs.Sums.{sum_same, sum_none}
use Rattle.boot_words.specs.{hide, hide_phase, IsHeld, cpu_past, own_past, zone_of_boot, KnownTable}
use Rattle.mem_machine.specs.declared.frame_state.FrameState.{FrameState}
use Rattle.mem_machine.specs.declared.frame_state.FrameState.TheVariants.{Free, Lent, Head, Tail}
use Rattle.mem_machine.specs.{frame_state_at, frame_state_group, phase_hidden, KnownMachine, IsConsistent, left_by, local_of}
use Rattle.mem_machine.proofs.Ledgers.{cond_zero, ledger_visit_state}

-- ---- a state counts as much if every CPU's own part is hidden

fresh_hidden : (b : Bool) (u : ChargedUnit) (q : ℕ) → b ≡ false → keeper_of (cond b (phase.Head u (FreshAt q)) (phase.Lent q OnList)) ≡ keeper_of (hide_phase (phase.Head u (FreshAt q)))
fresh_hidden b u q off = ap (λ (x : Bool). keeper_of (cond x (phase.Head u (FreshAt q)) (phase.Lent q OnList))) off

back_hidden : (b : Bool) (u : ChargedUnit) (q : ℕ) → keeper_of (cond b (phase.Head u (BackAt q)) (phase.Head u Live)) ≡ Some u.group
back_hidden true u q = refl
back_hidden false u q = refl

-- beyond the last CPU no frame is fresh
keeper_hidden : (cpus : ℕ) (groups : ℕ → Option ℕ) (x : Phase) → PhasePaid cpus groups x → keeper_of (phase_seen_by (cpus + 1) x) ≡ keeper_of (hide_phase x)
keeper_hidden cpus groups (phase.Head u (FreshAt q)) paid = fresh_hidden (q == cpus + 1) u q (ne_eqb q (cpus + 1) (λ e. let high = paid.high in absurd (omega (arith, high, e))))
keeper_hidden cpus groups (phase.Head u (BackAt q)) paid = back_hidden (q == cpus + 1) u q
keeper_hidden cpus groups (phase.Head u stage) paid = refl
keeper_hidden cpus groups phase.InZone paid = refl
keeper_hidden cpus groups (phase.Lent q way) paid = refl
keeper_hidden cpus groups (phase.Tail g) paid = refl

pub usage_hidden : (s : State) → KeepsInvariant s → (p g : ℕ) → usage_of (seen_by p s) g ≡ usage_of (hide s) g
usage_hidden s sound p g =
    let n = s.zone.cpus in
    let frames : frames_kept s.groups (λ f. phase_seen_by (n + 1) (s.phases f)) s.zone.frames g ≡ frames_kept s.groups (λ f. hide_phase (s.phases f)) s.zone.frames g =
    sum_same s.zone.frames _ _ (λ f inside. ap (λ (o : Option ℕ). one_if (is_in_subtree s.groups g o)) (keeper_hidden n (groups_in s.parts) (s.phases f) (sound.frames f).paid)) in
    let stocks : pages_prepaid s.groups (parts_seen_by (n + 1) s.parts) n g ≡ pages_prepaid s.groups (λ q. other_part_seen (s.parts q)) n g =
    sum_same (n + 1) _ _ (λ q inside. ap (stock_in_subtree s.groups g) (other_part (n + 1) s.parts q (λ e. absurd (omega (arith, inside, e))))) in
    let a = usage_seen s p sound g in
    let b = usage_seen s (n + 1) sound g in
    omega (arith, a, b, frames, stocks)

-- ---- a hidden state counts as much as the machine's fields

keeper_is : (x : FrameState) → keeper_of (phase_hidden x) ≡ frame_state_group x
keeper_is Free = refl
keeper_is (Lent q) = refl
keeper_is (Head unit) = refl
keeper_is (Tail g) = refl

module _ (t : KnownTable) (m : KnownMachine) (ok : IsConsistent t m) (charges : AreCharges m.ledger) (g : ℕ) where
  stock_is : (groups : List Group) (part : Part) → part.stock.pages ≡ part.book → stock_in_subtree groups g part ≡ cond (is_in_subtree groups g part.stock.group) part.book 0
  stock_is groups part same = ap (λ (n : ℕ). cond (is_in_subtree groups g part.stock.group) n 0) same

  -- if all pages of each book are in the stock, or paid for fresh frames
  pub usage_left : ((q : ℕ) → ((left_by t m.run.past).parts q).stock.pages ≡ ((left_by t m.run.past).parts q).book)
      → usage_of (left_by t m.run.past) g ≡ current_of m.ledger g
  usage_left book_is =
      let s = left_by t m.run.past in
      let groups = m.ledger.groups in
      let zone : s.zone ≡ zone_of_boot t = zone_of_run (zone_of_boot t) (own_past m.run.past).seen in
      let frames : frames_kept s.groups s.phases s.zone.frames g ≡ sum_to t.frames (λ f. one_if (is_in_subtree groups g (frame_state_group (frame_state_at m.frame_states f)))) =
      (λ i. frames_kept (ok.shown.groups i) s.phases ((zone i).frames) g)
      ∙ sum_same t.frames _ _ (λ f inside. ap (λ (o : Option ℕ). one_if (is_in_subtree groups g o)) (ap keeper_of (ok.shown.phases f) ∙ keeper_is (frame_state_at m.frame_states f))) in
      let stocks : pages_prepaid s.groups s.parts s.zone.cpus g ≡ sum_to (t.cpus + 1) (λ q. cond (is_in_subtree groups g (s.parts q).stock.group) (s.parts q).book 0) =
      (λ i. pages_prepaid (ok.shown.groups i) s.parts ((zone i).cpus) g) ∙ sum_same (t.cpus + 1) _ _ (λ q inside. stock_is groups (s.parts q) (book_is q)) in
      let none : pages_pending s.groups s.pending g ≡ 0 =
      sum_none most_groups _ (λ h inside. ap (λ (n : ℕ). cond (in_subtree s.groups g h) n 0) (ok.shown.settled h) ∙ cond_zero (in_subtree s.groups g h)) in
      let all = ledger_visit_state t m ok charges g in
      omega (arith, frames, stocks, none, all)

-- the usage that the rules of the steps count is the ledger's
pub usage_is : (t : KnownTable) (m : KnownMachine) → IsConsistent t m → AreCharges m.ledger → IsHeld t m.run.past → (g : ℕ) → usage_of (local_of t m) g ≡ current_of m.ledger g
usage_is t m ok charges is g =
    let zone = zone_of_boot t in
    let seen = (cpu_past m.run.past).seen in
    let sound : KeepsInvariant (state_of zone seen) = sound_run zone seen is.holds.shows.legal in
    let left : left_by t m.run.past ≡ hide (state_of zone seen) = ap (λ (r : Run). hide (state_of zone r)) is.holds.same in
    let book_is : (q : ℕ) → ((left_by t m.run.past).parts q).stock.pages ≡ ((left_by t m.run.past).parts q).book = λ q.
    let booked = sound.booked q in let none = ok.shown.absorbed q in
    let pages = ap (λ (s : State). (s.parts q).stock.pages) left in let book = ap (λ (s : State). (s.parts q).book) left in
    let told = ap (λ (s : State). told_pages (s.parts q)) left in omega (arith, booked, none, pages, book, told) in
    usage_hidden (state_of zone seen) sound (cpu_past m.run.past).number g ∙ ap (λ (s : State). usage_of s g) (sym left) ∙ usage_left t m ok charges g book_is
