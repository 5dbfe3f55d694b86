-- The pages charged to a subtree, counted over a run, are its usage. Serves `the_promise_is_kept`.
use Rattle.std.proofs.Common.{◌≡◌, ℕ, ◌+◌, ◌-◌, ◌^◌, ◌<◌, ◌≤◌, ◌==◌, Bool, true, false, Option, Some, None, List, length, refl}
use Rattle.std.proofs.Common.{sym, ◌∙◌, ap, subst, arith, inl, inr, cond, zero, suc}
use Rattle.std.specs.Prelude.{nat_le}
use Rattle.std.proofs.lemmas.Bool.{cases_lt, cases_eq, true≢false, leb-true, or_right, and_parts}
use Rattle.std.proofs.lemmas.Nat.{pow_pos}
use Rattle.zone_blocks.specs.declared.block.Block.{Block}
use Rattle.group_tree.specs.declared.group.Group.{Group}
use Rattle.group_tree.specs.Groups.{has_group, in_subtree}
use Rattle.group_tree.specs.{most_groups, is_in_subtree}
use Rattle.step_rules.specs.declared.phase.ChargedUnit.{ChargedUnit}
use Rattle.step_rules.specs.declared.phase.Way.TheVariants.{PassingOut, OnList}
use Rattle.step_rules.specs.declared.phase.Stage.TheVariants.{FreshAt, Bare, Live, AwaitsReturn}
use Rattle.step_rules.specs.declared.phase.Phase.{Phase}
use Rattle.step_rules.specs.declared.phase.Phase.TheVariants.{InZone, Lent, Head, Tail}
use Rattle.step_rules.specs.declared.step.Action.{Action}
use Rattle.step_rules.specs.declared.step.Action.TheVariants.{Lock, Put, Freeze, Unfreeze, PassOut, TakeIn, PassBack, Collect, Consume}
use Rattle.step_rules.specs.declared.step.Action.TheVariants.{Credit, Report, Absorb, Fill, DrainStock, Grant, Ungrant, PlaceBlock, Return}
use Rattle.step_rules.specs.declared.step.Action.TheVariants.{SetMax, SetFlag, Make, Remove}
use Rattle.step_rules.specs.declared.step.Answer.{Answer}
use Rattle.step_rules.specs.declared.step.Answer.TheVariants.{Illegal, Done, Last, Took, Stocked, Pages, Granted, Placed, Number}
use Rattle.step_rules.specs.Phases.{FreshFrame}
use Rattle.step_rules.specs.{keeper_of, unit_of, has_as, is_free, passes_out, at_stage, passed_back, collected, stage_after_last, is_returnable, Zone}
use Rattle.step_rules.specs.{Part, at_boot, with_at, one_if, is_cpu, is_frame, visits, front_of, with_last, frames_kept}
use Rattle.step_rules.specs.{stock_in_subtree, pages_prepaid, pages_pending, usage_of, is_legal, IsAnswer, IsCounted, IsMade, Allows, takes_fill, Run}
use Rattle.step_rules.specs.{IsLegalRun, after, state_of, is_within, unit_size, placed_phase, with_block, without_unit, with_more, with_back}
use Rattle.step_rules.specs.{without_frame, with_report, absorbed, paid, credited, consumed, filled, drained, units_after_run, groups_after}
use Rattle.step_rules.specs.{groups_of, charged_in, unit_pages, charged_out, charged_in_subtree, PhasePaid, groups_in, KeepsInvariant, some_there}
use Rattle.step_rules.specs.{IsHomed}
use Rattle.step_rules.specs.State.{State, sum_to, boot_groups}
use Rattle.step_rules.proofs.LegalTests.{consume_tests, credit_tests, drain_stock_tests, fill_tests, grant_tests, pass_out_tests}
use Rattle.step_rules.proofs.LegalTests.{place_block_tests, return_tests, take_in_tests, ungrant_tests}
use Rattle.step_rules.proofs.Basics.{at_itself}
use Rattle.step_rules.proofs.Sums.{none_if, sum_same, sum_none, sum_both}
use Rattle.step_rules.proofs.PhaseLemmas.{fresh_is, free_is, out_is, listed_is, returning_is, Returns, AsEnded, AsKilled, equal_test, none_some}
use Rattle.step_rules.proofs.SoundSteps.{below_frames}
use Rattle.step_rules.proofs.Passing.{front_listed, in_zone}
use Rattle.step_rules.proofs.Placing.{within_cases, block_free, in_block, off_block, in_unit, off_unit}
use Rattle.step_rules.proofs.Runs.{after_illegal, allowed}
use Rattle.step_rules.proofs.LocalLaws.{no_illegal}
use Rattle.step_rules.proofs.Homes.{number_low, cpu_low, same_keeper, sent_keeper, got_keeper}
use Rattle.step_rules.proofs.Keeping.{homed_run}
use Rattle.step_rules.proofs.Moving.{kept_one, pends_one, pends_split, pends_less, frames_move, frames_stay, prepaid_moves, prepaid_stays, pending_moves, stock_as}
use Rattle.step_rules.proofs.Telling.{told_run}
use Rattle.step_rules.proofs.Uniting.{units_follow_the_run}
use Rattle.step_rules.proofs.Returning.{counted_so_along}

-- ---- the groups
groups_made : (s : State) (x : List Group) (seat : ℕ) (action : Action) (answer : Answer) → s.groups ≡ x → IsMade s seat action answer →
    (after s seat action answer).groups ≡ groups_after x action answer
groups_made s x seat action Illegal e made = absurd (no_illegal s seat action made.answered)
groups_made s x seat (Make path) (Number n) e made = λ i. groups_after (e i) (Make path) (Number n)
groups_made s x seat (SetMax g limit) Done e made = λ i. groups_after (e i) (SetMax g limit) Done
groups_made s x seat (SetFlag g flag) Done e made = λ i. groups_after (e i) (SetFlag g flag) Done
groups_made s x seat (Remove g) Done e made = λ i. groups_after (e i) (Remove g) Done
groups_made s x seat Lock answer e made = e
groups_made s x seat action answer e made = e

groups_still : (x : List Group) (action : Action) → groups_after x action Illegal ≡ x
groups_still x Lock = refl
groups_still x action = refl

pub groups_in_run : (zone : Zone) (run : Run) → IsLegalRun zone run → (state_of zone run).groups ≡ groups_of zone run
groups_in_run zone run legal =
    told_run (λ x seat action answer. groups_after x action answer) (λ s x. s.groups ≡ x) (λ x seat action. groups_still x action)
    (λ s x seat action answer sound. groups_made s x seat action answer) zone (boot_groups zone) refl run legal

-- ---- sums over a range
-- of the numbers below n those of a range below n are as many as it has
within_all : (n at size : ℕ) → (n ≤ at → sum_to n (λ i. one_if (is_within at size i)) ≡ 0)
    × (at ≤ n → n ≤ at + size → sum_to n (λ i. one_if (is_within at size i)) + at ≡ n)
    × (at + size ≤ n → sum_to n (λ i. one_if (is_within at size i)) ≡ size)
unfolding sum_to
within_all zero at size = (λ e. refl, λ low high. omega arith, λ past. omega arith)
within_all (suc n) at size =
    let before = within_all n at size in
    elim (within_cases at size n) [
      | inl within ↦
          let one : one_if (is_within at size n) ≡ 1 = ap one_if within.0 in
          let low = within.1 in
          let high = within.2 in
          let a = before.1 low (omega arith) in
          (λ e. absurd (omega arith), λ e f. omega arith, λ past. omega arith)
      | inr without ↦
          let none : one_if (is_within at size n) ≡ 0 = ap one_if without.0 in (
            λ e. (let a = before.0 (omega arith) in omega arith),
            λ e f. elim (cases_lt n at) [
              | inl under ↦ (let a = before.0 (omega arith) in omega arith)
              | inr over ↦ absurd (without.1 over (omega arith))
            ],
            λ past. elim (cases_lt n at) [
              | inl under ↦ (let a = before.0 (omega arith) in omega arith)
              | inr over ↦ elim (cases_lt n (at + size)) [
                | inl inside ↦ absurd (without.1 over inside)
                | inr beyond ↦ (let a = before.2 beyond in omega arith)
              ]
            ],
          )
    ]

module _ (groups : List Group) (m : ℕ) where
  -- frames of a range that nobody keeps before are kept by group g
  range_adds : (n at size g : ℕ) (phases later : ℕ → Phase) → at + size ≤ n →
      ((x : ℕ) → is_within at size x ≡ true → (keeper_of (phases x) ≡ None) × (keeper_of (later x) ≡ Some g)) →
      ((x : ℕ) → is_within at size x ≡ false → keeper_of (later x) ≡ keeper_of (phases x)) →
      frames_kept groups later n m ≡ frames_kept groups phases n m + pends_one groups m g size
  range_adds n at size g phases later inside here beyond =
      sum_same n (λ i. kept_one groups m (later i)) (λ i. kept_one groups m (phases i) + more i) (λ i below. each i)
      ∙ sum_both n (λ i. kept_one groups m (phases i)) more
      ∙ ap (λ k. frames_kept groups phases n m + k) (counts (in_subtree groups m g))
    where
      more : ℕ → ℕ
      more i = pends_one groups m g (one_if (is_within at size i))

      each : (i : ℕ) → kept_one groups m (later i) ≡ kept_one groups m (phases i) + more i
      each i = elim (within_cases at size i) [
        | inl within ↦
            let both = here i within.0 in
            let a : kept_one groups m (phases i) ≡ 0 = ap (λ o. one_if (is_in_subtree groups m o)) both.0 in
            let b : kept_one groups m (later i) ≡ one_if (in_subtree groups m g) = ap (λ o. one_if (is_in_subtree groups m o)) both.1 in
            let c : more i ≡ pends_one groups m g 1 = ap (λ t. pends_one groups m g (one_if t)) within.0 in
            let d = as_one (in_subtree groups m g) in
            omega arith
        | inr without ↦
            let a : kept_one groups m (later i) ≡ kept_one groups m (phases i) = ap (λ o. one_if (is_in_subtree groups m o)) (beyond i without.0) in
            let c : more i ≡ pends_one groups m g 0 = ap (λ t. pends_one groups m g (one_if t)) without.0 in
            let d = as_none (in_subtree groups m g) in
            omega arith
      ]
        where
          as_one : (c : Bool) → one_if c ≡ cond c 1 0
          as_one true = refl
          as_one false = refl

          as_none : (c : Bool) → ◌≡◌ {A = ℕ} (cond c 0 0) 0
          as_none true = refl
          as_none false = refl

      counts : (c : Bool) → sum_to n (λ i. cond c (one_if (is_within at size i)) 0) ≡ cond c size 0
      counts true = (within_all n at size).2 inside
      counts false = sum_none n (λ i. 0) (λ i below. refl)

-- ---- one step
-- the frames kept, the pages prepaid and those pending in the subtree of group m, by another list of groups than the state's
abbrev total : List Group → ℕ → State → ℕ
total groups m s = frames_kept groups s.phases s.zone.frames m + pages_prepaid groups s.parts s.zone.cpus m + pages_pending groups s.pending m

placed_keeper : (g : ℕ) (b : Block) (x : ℕ) → keeper_of (placed_phase g b x) ≡ Some g
placed_keeper g b x = by_head (x == b.at)
  where
    by_head : (t : Bool) → keeper_of (cond t (Head (record { group = g; order = b.order }) Bare) (Tail g)) ≡ Some g
    by_head true = refl
    by_head false = refl

-- a unit comes back
unit_goes : (groups : List Group) (m : ℕ) (s : State) (f : ℕ) (u : ChargedUnit) → KeepsInvariant s → unit_of (s.phases f) ≡ Some u →
    keeper_of (s.phases f) ≡ Some u.group →
    frames_kept groups s.phases s.zone.frames m
    ≡ frames_kept groups (without_unit s.phases f) s.zone.frames m + unit_pages (in_subtree groups m) (unit_of (s.phases f))
unit_goes groups m s f u sound unit keeper =
    let size : unit_size (unit_of (s.phases f)) ≡ 2 ^ u.order = ap unit_size unit in
    let some = pow_pos u.order in
    let e = in_zone s (f + 2 ^ u.order - 1) sound (busy (f + 2 ^ u.order - 1) (omega arith) (omega arith)) in
    range_adds groups m s.zone.frames f (2 ^ u.order) u.group (without_unit s.phases f) s.phases (omega arith)
    (λ x within. (
      ap keeper_of (in_unit s.phases f x (ap (λ n. is_within f n x) size ∙ within)),
      elim (within_cases f (2 ^ u.order) x) [ inl w ↦ kept x w.1 w.2 | inr o ↦ absurd (true≢false (sym within ∙ o.0)) ],
    ))
    (λ x off. sym (ap keeper_of (off_unit s.phases f x (ap (λ n. is_within f n x) size ∙ off))))
    ∙ ap (λ o. frames_kept groups (without_unit s.phases f) s.zone.frames m + unit_pages (in_subtree groups m) o) (sym unit)
  where
    kept : (x : ℕ) → f ≤ x → x < f + 2 ^ u.order → keeper_of (s.phases x) ≡ Some u.group
    kept x low high = elim (cases_eq x f) [
      | inl e ↦ ap (λ (k : ℕ). keeper_of (s.phases k)) e ∙ keeper
      | inr ne ↦ ap keeper_of (sound.units f u unit x (omega arith) high)
    ]

    busy : (x : ℕ) → f ≤ x → x < f + 2 ^ u.order → is_free (s.phases x) ≡ false
    busy x low high = kept_busy (s.phases x) (kept x low high)
      where
        kept_busy : (y : Phase) → keeper_of y ≡ Some u.group → is_free y ≡ false
        kept_busy InZone e = absurd (none_some u.group e)
        kept_busy (Lent p way) e = refl
        kept_busy (Head v stage) e = refl
        kept_busy (Tail g) e = refl

any_unit_goes : (groups : List Group) (m : ℕ) (s : State) (f : ℕ) → KeepsInvariant s → Returns s.killed (s.phases f) →
    frames_kept groups s.phases s.zone.frames m
    ≡ frames_kept groups (without_unit s.phases f) s.zone.frames m + unit_pages (in_subtree groups m) (unit_of (s.phases f))
any_unit_goes groups m s f sound (AsEnded u was) = unit_goes groups m s f u sound (ap unit_of was) (ap keeper_of was)
any_unit_goes groups m s f sound (AsKilled u was killed) = unit_goes groups m s f u sound (ap unit_of was) (ap keeper_of was)

-- a stock is drained
drain_moves : (groups : List Group) (m : ℕ) (s : State) (p n : ℕ) → IsHomed s → n ≡ (s.parts p).stock.pages → (o : Option ℕ) → (s.parts p).stock.group ≡ o →
    pages_pending groups (with_more s.pending (s.parts p).stock.group n) m + stock_in_subtree groups m (drained (s.parts p) n)
    ≡ pages_pending groups s.pending m + stock_in_subtree groups m (s.parts p)
drain_moves groups m s p n h all None e =
    let a : pages_pending groups (with_more s.pending (s.parts p).stock.group n) m ≡ pages_pending groups s.pending m =
    ap (λ x. pages_pending groups (with_more s.pending x n) m) e in
    let c = stock_as groups m (s.parts p) None e in
    let d = stock_as groups m (drained (s.parts p) n) None e in
    omega arith
drain_moves groups m s p n h all (Some k) e =
    let a : pages_pending groups (with_more s.pending (s.parts p).stock.group n) m
    ≡ pages_pending groups (with_at s.pending k (s.pending k + n)) m = ap (λ x. pages_pending groups (with_more s.pending x n) m) e in
    let c = stock_as groups m (s.parts p) (Some k) e in
    let d = stock_as groups m (drained (s.parts p) n) (Some k) e in
    let f = pends_less groups m k (s.parts p).stock.pages n (omega arith) in
    elim (cases_lt 0 n) [
      | inl some ↦
          let low = number_low s.groups k h.tree (sym (ap (some_there s.groups) e) ∙ h.stocks p (omega arith)) in
          let b = pending_moves groups s.pending m k (s.pending k + n) low in
          let g = pends_split groups m k (s.pending k) n in
          omega arith
      | inr none ↦
          let zero_pages : n ≡ 0 = omega arith in
          let b : pages_pending groups (with_at s.pending k (s.pending k + n)) m ≡ pages_pending groups s.pending m =
          ap (λ x. pages_pending groups x m) (ap (with_at s.pending k) (omega arith) ∙ at_itself s.pending k) in
          let g = none_if (in_subtree groups m k) n zero_pages in
          omega arith
    ]

module _ (groups : List Group) (m : ℕ) where
  moves_exactly : (s : State) (run : Run) (seat : ℕ) (action : Action) (answer : Answer) → KeepsInvariant s → IsHomed s →
      ((f : ℕ) → unit_of (s.phases f) ≡ (units_after_run run).unit f) → is_legal s seat action ≡ true → IsAnswer s seat action answer → IsCounted s action answer →
      total groups m s + charged_in (in_subtree groups m) run seat action answer
      ≡ total groups m (after s seat action answer) + charged_out (in_subtree groups m) run seat action answer
  moves_exactly s run seat action Illegal sound h told legal ok counted = absurd (no_illegal s seat action ok)
  moves_exactly s run seat (Put f) Last sound h told legal ok counted =
      let a = frames_stay groups s.phases s.zone.frames m f (at_stage (stage_after_last seat) (s.phases f))
      (same_keeper (stage_after_last seat) (s.phases f)) in
      let b : pages_prepaid groups (cond (seat == 0) s.parts (with_at s.parts seat (with_back (s.parts seat) f))) s.zone.cpus m
      ≡ pages_prepaid groups s.parts s.zone.cpus m = by_seat (seat == 0) in
      λ i. sym a i + sym b i + pages_pending groups s.pending m + 0
    where
      by_seat : (c : Bool) → pages_prepaid groups (cond c s.parts (with_at s.parts seat (with_back (s.parts seat) f))) s.zone.cpus m
          ≡ pages_prepaid groups s.parts s.zone.cpus m
      by_seat true = refl
      by_seat false = prepaid_stays groups s.parts s.zone.cpus m seat (with_back (s.parts seat) f) refl
  moves_exactly s run seat (Freeze f n) Done sound h told legal ok counted =
      let a = frames_stay groups s.phases s.zone.frames m f (at_stage AwaitsReturn (s.phases f)) (same_keeper AwaitsReturn (s.phases f)) in omega arith
  moves_exactly s run seat (Unfreeze f n) Done sound h told legal ok counted =
      let a = frames_stay groups s.phases s.zone.frames m f (at_stage Live (s.phases f)) (same_keeper Live (s.phases f)) in omega arith
  moves_exactly s run seat (PassOut f p) Done sound h told legal ok counted =
      let free : is_free (s.phases f) ≡ true = (pass_out_tests s seat f p legal).3 in
      let a = frames_stay groups s.phases s.zone.frames m f (Lent p PassingOut) (sym (ap keeper_of (free_is (s.phases f) free))) in omega arith
  moves_exactly s run seat (TakeIn f) Done sound h told legal ok counted =
      let passes : passes_out seat (s.phases f) ≡ true = (take_in_tests s seat f legal).2 in
      let part : Part = record (s.parts seat) { list = with_last (s.parts seat).list f } in
      let a = frames_stay groups s.phases s.zone.frames m f (Lent seat OnList) (sym (ap keeper_of (out_is seat (s.phases f) passes))) in
      let b = prepaid_stays groups s.parts s.zone.cpus m seat part refl in
      λ i. sym a i + sym b i + pages_pending groups s.pending m + 0
  moves_exactly s run seat (PassBack f) Done sound h told legal ok counted =
      let a = frames_stay groups s.phases s.zone.frames m f (passed_back (s.phases f)) (sent_keeper (s.phases f)) in
      let b = prepaid_stays groups s.parts s.zone.cpus m seat (without_frame (s.parts seat) (s.phases f) seat f) refl in
      λ i. sym a i + sym b i + pages_pending groups s.pending m + 0
  moves_exactly s run seat (Collect f p) Done sound h told legal ok counted =
      let a = frames_stay groups s.phases s.zone.frames m f (collected (s.phases f)) (got_keeper (s.phases f)) in omega arith
  moves_exactly s run seat (Consume g) Took sound h told legal ok counted =
      let cpu : is_cpu s.zone seat ≡ true = (consume_tests s seat g legal).0 in
      let some : nat_le 1 (length (s.parts seat).list) ≡ true = (consume_tests s seat g legal).1 in
      let f = front_of (s.parts seat).list in
      let listed = listed_is seat (s.phases f) (front_listed s seat sound (leb-true 1 (length (s.parts seat).list) some)) in
      let below = in_zone s f sound (ap is_free listed) in
      let a = frames_move groups s.phases s.zone.frames m f (consumed seat g) below in
      let was : kept_one groups m (s.phases f) ≡ 0 = ap (kept_one groups m) listed in
      let b = prepaid_moves groups s.parts s.zone.cpus m seat (paid (s.parts seat)) (cpu_low s.zone seat cpu) in
      let c = stock_as groups m (s.parts seat) (Some g) ok.0 in
      let d = stock_as groups m (paid (s.parts seat)) (Some g) ok.0 in
      let e = one_paid (in_subtree groups m g) (s.parts seat).stock.pages ok.2 in
      omega arith
    where
      one_paid : (c : Bool) (n : ℕ) → 1 ≤ n → cond c n 0 ≡ cond c (n - 1) 0 + one_if c
      one_paid true n some = omega arith
      one_paid false n some = refl
  moves_exactly s run seat (Credit f) Stocked sound h told legal ok counted =
      let cpu : is_cpu s.zone seat ≡ true = (credit_tests s seat f legal).0 in
      let frame : is_frame s.zone f ≡ true = (credit_tests s seat f legal).1 in
      let fresh : has_as FreshFrame seat (s.phases f) ≡ true = (credit_tests s seat f legal).2 in
      let is = fresh_is seat (s.phases f) fresh in
      let paid : PhasePaid s.zone.cpus (groups_in s.parts) (Head is.0 (FreshAt seat)) =
      subst (PhasePaid s.zone.cpus (groups_in s.parts)) is.1 (sound.frames f).paid in
      let a = frames_move groups s.phases s.zone.frames m f (Lent seat OnList) (below_frames s.zone f frame) in
      let was : kept_one groups m (s.phases f) ≡ one_if (in_subtree groups m is.0.group) = ap (kept_one groups m) is.1 in
      let b = prepaid_moves groups s.parts s.zone.cpus m seat (credited (s.parts seat) f) (cpu_low s.zone seat cpu) in
      let c = stock_as groups m (s.parts seat) (Some is.0.group) paid.group in
      let d = stock_as groups m (credited (s.parts seat) f) (Some is.0.group) paid.group in
      let e = one_back (in_subtree groups m is.0.group) (s.parts seat).stock.pages in
      omega arith
    where
      one_back : (c : Bool) (n : ℕ) → cond c (n + 1) 0 ≡ cond c n 0 + one_if c
      one_back true n = refl
      one_back false n = refl
  moves_exactly s run seat (Report n) Done sound h told legal ok counted =
      let b = prepaid_stays groups s.parts s.zone.cpus m seat (with_report (s.parts seat) n) refl in
      λ i. frames_kept groups s.phases s.zone.frames m + sym b i + pages_pending groups s.pending m + 0
  moves_exactly s run seat (Absorb p) (Pages n) sound h told legal ok counted =
      let b = prepaid_stays groups s.parts s.zone.cpus m p (absorbed (s.parts p) n) refl in
      λ i. frames_kept groups s.phases s.zone.frames m + sym b i + pages_pending groups s.pending m + 0
  moves_exactly s run seat (Fill p g n) Done sound h told legal ok counted =
      let visit : visits p s.hold ≡ true = (fill_tests s seat p g n legal).1 in
      let there : has_group s.groups g ≡ true = (fill_tests s seat p g n legal).2 in
      let may : takes_fill (s.parts p) g ≡ true = (fill_tests s seat p g n legal).3 in
      let some : nat_le n (s.pending g) ≡ true = (fill_tests s seat p g n legal).4 in
      let enough = leb-true n (s.pending g) some in
      let empty = equal_test (s.parts p).stock.pages 0 (and_parts ((s.parts p).stock.pages == 0) _ may).0 in
      let cpu : is_cpu s.zone p ≡ true = h.holder p (or_right _ _ visit) in
      let b = prepaid_moves groups s.parts s.zone.cpus m p (filled (s.parts p) g n) (cpu_low s.zone p cpu) in
      let none : stock_in_subtree groups m (s.parts p) ≡ 0 = none_if (is_in_subtree groups m (s.parts p).stock.group) (s.parts p).stock.pages empty in
      let c = pending_moves groups s.pending m g (s.pending g - n) (number_low s.groups g h.tree there) in
      let d = pends_less groups m g (s.pending g) n enough in
      omega arith
  moves_exactly s run seat (DrainStock p) (Pages n) sound h told legal ok counted =
      let cpu : is_cpu s.zone p ≡ true = (drain_stock_tests s seat p legal).1 in
      let b = prepaid_moves groups s.parts s.zone.cpus m p (drained (s.parts p) n) (cpu_low s.zone p cpu) in
      let c = drain_moves groups m s p n h counted (s.parts p).stock.group refl in
      omega arith
  moves_exactly s run seat (Grant g n) Granted sound h told legal ok counted =
      let there : has_group s.groups g ≡ true = (grant_tests s seat g n legal).1 in
      let a = pending_moves groups s.pending m g (s.pending g + n) (number_low s.groups g h.tree there) in
      let b = pends_split groups m g (s.pending g) n in
      omega arith
  moves_exactly s run seat (Ungrant g n) Done sound h told legal ok counted =
      let there : has_group s.groups g ≡ true = (ungrant_tests s seat g n legal).1 in
      let some : nat_le n (s.pending g) ≡ true = (ungrant_tests s seat g n legal).2 in
      let c = pending_moves groups s.pending m g (s.pending g - n) (number_low s.groups g h.tree there) in
      let d = pends_less groups m g (s.pending g) n (leb-true n (s.pending g) some) in
      omega arith
  moves_exactly s run seat (PlaceBlock g k) (Placed b) sound h told legal ok counted =
      let there : has_group s.groups g ≡ true = (place_block_tests s seat g k legal).1 in
      let some : nat_le (2 ^ k) (s.pending g) ≡ true = (place_block_tests s seat g k legal).2 in
      let one = pow_pos b.order in
      let free = block_free s.zone s.phases b ok.1 in
      let end = (free (b.at + 2 ^ b.order - 1) (omega arith) (omega arith)).0 in
      let a = range_adds groups m s.zone.frames b.at (2 ^ b.order) g s.phases (with_block s.phases g b) (omega arith)
      (λ x within. (
        elim (within_cases b.at (2 ^ b.order) x) [
          | inl w ↦ ap keeper_of (free_is (s.phases x) (free x w.1 w.2).1)
          | inr o ↦ absurd (true≢false (sym within ∙ o.0))
        ],
        ap keeper_of (in_block s.phases g b x within) ∙ placed_keeper g b x,
      ))
      (λ x off. ap keeper_of (off_block s.phases g b x off)) in
      let size : pends_one groups m g (2 ^ b.order) ≡ pends_one groups m g (2 ^ k) = ap (λ x. pends_one groups m g (2 ^ x)) ok.0 in
      let c = pending_moves groups s.pending m g (s.pending g - 2 ^ k) (number_low s.groups g h.tree there) in
      let d = pends_less groups m g (s.pending g) (2 ^ k) (leb-true (2 ^ k) (s.pending g) some) in
      omega arith
  moves_exactly s run seat (Return f) Done sound h told legal ok counted =
      let may : is_returnable s.killed (s.phases f) ≡ true = (return_tests s seat f legal).2 in
      let a = any_unit_goes groups m s f sound (returning_is s.killed (s.phases f) may) in
      let b : unit_pages (in_subtree groups m) (unit_of (s.phases f)) ≡ unit_pages (in_subtree groups m) ((units_after_run run).unit f) =
      ap (unit_pages (in_subtree groups m)) (told f) in
      omega arith
  moves_exactly s run seat Lock answer sound h told legal ok counted = refl
  moves_exactly s run seat action answer sound h told legal ok counted = refl

  none_charged : (run : Run) (seat : ℕ) (action : Action) →
      (charged_in (in_subtree groups m) run seat action Illegal ≡ 0) × (charged_out (in_subtree groups m) run seat action Illegal ≡ 0)
  none_charged run seat Lock = (refl, refl)
  none_charged run seat action = (refl, refl)

  moves_allowed : (zone : Zone) (run : Run) (seat : ℕ) (action : Action) (answer : Answer) → IsLegalRun zone run → Allows (state_of zone run) seat action answer →
      total groups m (state_of zone run) + charged_in (in_subtree groups m) run seat action answer
      ≡ total groups m (after (state_of zone run) seat action answer) + charged_out (in_subtree groups m) run seat action answer
  moves_allowed zone run seat action answer legal ok =
      let s = state_of zone run in
      elim (allowed s seat action answer ok) [
        | inl illegal ↦ subst (λ (a : Answer). total groups m s + charged_in (in_subtree groups m) run seat action a
            ≡ total groups m (after s seat action a) + charged_out (in_subtree groups m) run seat action a) (sym illegal)
            (let none = none_charged run seat action in
            let same : total groups m (after s seat action Illegal) ≡ total groups m s = ap (total groups m) (after_illegal s seat action) in
            let a = none.0 in
            let b = none.1 in
            omega arith)
        | inr made ↦
            let both = homed_run zone run legal in
            moves_exactly s run seat action answer both.0 both.1 (λ f. (units_follow_the_run zone run legal f).unit) made.legal made.answered made.counted
      ]

  nothing_at_first : (zone : Zone) → total groups m (at_boot zone) ≡ 0
  nothing_at_first zone =
      let a : frames_kept groups (at_boot zone).phases zone.frames m ≡ 0 = sum_none zone.frames (λ f. 0) (λ f below. refl) in
      let b : pages_prepaid groups (at_boot zone).parts zone.cpus m ≡ 0 = sum_none (zone.cpus + 1) (λ p. 0) (λ p below. refl) in
      let c : pages_pending groups (at_boot zone).pending m ≡ 0 =
      sum_none most_groups (λ h. pends_one groups m h 0) (λ h below. none_if (in_subtree groups m h) 0 refl) in
      omega arith

-- the usage of a group is the pages charged to it and to those below it
pub charged_is_usage : (zone : Zone) (run : Run) → IsLegalRun zone run → (g : ℕ) → charged_in_subtree zone run g ≡ usage_of (state_of zone run) g
charged_is_usage zone run legal g =
    let told = groups_in_run zone run legal in
    let e = counted_so_along (charged_in (in_subtree (groups_of zone run) g)) (charged_out (in_subtree (groups_of zone run) g)) (total (groups_of zone run) g) zone
    (nothing_at_first (groups_of zone run) g zone) (λ before seat action answer legal ok. moves_allowed (groups_of zone run) g zone before seat action answer legal ok)
    run legal in
    let same : total (groups_of zone run) g (state_of zone run) ≡ usage_of (state_of zone run) g = ap (λ gs. total gs g (state_of zone run)) (sym told) in
    omega arith
