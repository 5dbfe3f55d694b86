-- No step but a grant raises any usage. Serves `only_grants_raise_usage` and the laws of peaks.
use Rattle.std.proofs.Common.{◌≡◌, ℕ, ◌+◌, ◌-◌, ◌^◌, ◌<◌, ◌≤◌, ◌==◌, Bool, true, false, Option, Some, None, List, length, refl}
use Rattle.std.proofs.Common.{sym, ◌∙◌, ap, subst, arith, inl, inr, cond, if◌then◌else◌, zero, suc}
use Rattle.std.specs.Prelude.{nat_le, is_none}
use Rattle.std.proofs.lemmas.Bool.{cases_eq, cases_Bool, cases_lt, false≢true, true≢false, leb-true, or_right}
use Rattle.group_tree.specs.declared.group.Group.{Group}
use Rattle.group_tree.specs.Groups.{has_group, in_subtree, with_group, with_limit, with_oom_group, without_group, make_fault, AreGroups}
use Rattle.group_tree.proofs.GroupLemmas.{CanMake}
use Rattle.group_tree.proofs.CallerLemmas.{has_group-without_own, in_subtree-with, in_subtree-limited, in_subtree-flagged, in_subtree-without, in_subtree-with_new, in_subtree-above}
use Rattle.group_tree.proofs.CallerLemmas.{in_subtree-below}
use Rattle.zone_blocks.specs.declared.block.Block.{Block}
use Rattle.group_tree.specs.{most_groups, is_there, is_in_subtree}
use Rattle.step_rules.specs.declared.phase.Hold.{Hold}
use Rattle.step_rules.specs.declared.phase.Stage.TheVariants.{FreshAt, Bare, Live, AwaitsReturn}
use Rattle.step_rules.specs.declared.phase.Phase.{Phase}
use Rattle.step_rules.specs.declared.phase.Phase.TheVariants.{InZone, Lent, Head, Tail}
use Rattle.step_rules.specs.{is_within, unit_size, with_block, without_unit, with_more, with_back, without_frame, paid, credited, consumed, filled}
use Rattle.step_rules.specs.{drained, keeper_of, unit_of, has_as, is_free, passes_out, at_stage, passed_back, collected, stage_after_last, is_legal}
use Rattle.step_rules.specs.{IsAnswer, IsCounted, UsageMoves, Zone, Part, with_at, one_if, is_cpu, is_frame, visits, front_of, with_last}
use Rattle.step_rules.specs.{frames_kept, stock_in_subtree, pages_prepaid, pages_pending, usage_of, PhasePaid, groups_in}
use Rattle.step_rules.specs.{KeepsInvariant, some_there, Homes, IsHomed}
use Rattle.step_rules.specs.declared.phase.Way.TheVariants.{PassingOut, OnList}
use Rattle.step_rules.specs.declared.step.Action.{Action}
use Rattle.step_rules.specs.declared.step.Action.TheVariants.{Lock, Put, Freeze, Unfreeze, PassOut, TakeIn, PassBack, Collect, Consume}
use Rattle.step_rules.specs.declared.step.Action.TheVariants.{Credit, Report, Absorb, Fill, DrainStock, Grant, Ungrant, PlaceBlock, Return}
use Rattle.step_rules.specs.declared.step.Action.TheVariants.{SetMax, SetFlag, Make, Remove}
use Rattle.step_rules.specs.declared.step.Answer.{Answer}
use Rattle.step_rules.specs.declared.step.Answer.TheVariants.{Illegal, Done, Last, Took, Stocked, Pages, Granted, Placed, Number}
use Rattle.step_rules.specs.Phases.{FreshFrame}
use Rattle.step_rules.proofs.LegalTests.{consume_tests, credit_tests, drain_stock_tests, fill_tests, grant_tests, make_tests}
use Rattle.step_rules.proofs.LegalTests.{pass_out_tests, place_block_tests, take_in_tests, ungrant_tests}
use Rattle.step_rules.proofs.PhaseLemmas.{fresh_is, free_is, out_is, listed_is}
use Rattle.step_rules.proofs.Passing.{front_listed, in_zone}
use Rattle.step_rules.proofs.SoundSteps.{below_frames}
use Rattle.step_rules.specs.State.{State, sum_to}
use Rattle.step_rules.proofs.Basics.{at_each, at_same, at_other}
use Rattle.step_rules.proofs.Sums.{sum_same, sum_none, sum_both, sum_change}
use Rattle.step_rules.proofs.Placing.{within_cases}
use Rattle.step_rules.proofs.Homes.{number_low, cpu_low, making, same_keeper, sent_keeper, got_keeper}

-- ---- sums

-- a sum of lesser values is less
pub sum_less : (n : ℕ) (g h : ℕ → ℕ) → ((i : ℕ) → i < n → g i ≤ h i) → sum_to n g ≤ sum_to n h
unfolding sum_to
sum_less zero g h each = omega arith
sum_less (suc n) g h each = let a = sum_less n g h (λ i below. each i (omega arith)) in let b = each n (omega arith) in omega arith

-- values seen through a function
pub sum_at : {X : Type 0} (n : ℕ) (H : X → ℕ) (h : ℕ → X) (k : ℕ) (x : X) → k < n →
    sum_to n (λ i. H (with_at h k x i)) + H (h k) ≡ sum_to n (λ i. H (h i)) + H x
sum_at n H h k x below =
    let a = sum_change n (λ i. H (h i)) k (H x) below in
    let b : sum_to n (λ i. H (with_at h k x i)) ≡ sum_to n (with_at (λ i. H (h i)) k (H x)) =
    sum_same n (λ i. H (with_at h k x i)) (with_at (λ i. H (h i)) k (H x))
    (λ i here. at_each h k x (λ m y. H y ≡ with_at (λ j. H (h j)) k (H x) m) (sym (at_same (λ j. H (h j)) k (H x)))
    (λ m ne. sym (at_other (λ j. H (h j)) k (H x) m ne)) i) in
    omega arith

-- ---- the three parts of usage
module _ (groups : List Group) (m : ℕ) where
  -- 1 where a frame in this phase is kept in the subtree
  abbrev pub kept_one : Phase → ℕ
  kept_one x = one_if (is_in_subtree groups m (keeper_of x))

  -- pages that are pending for group h count where that is in the subtree
  abbrev pub pends_one : ℕ → ℕ → ℕ
  pends_one h n = if in_subtree groups m h then n else 0

pub pends_split : (groups : List Group) (m h a b : ℕ) → pends_one groups m h (a + b) ≡ pends_one groups m h a + pends_one groups m h b
pends_split groups m h a b = split (in_subtree groups m h)
  where
    split : (c : Bool) → cond c (a + b) 0 ≡ cond c a 0 + cond c b 0
    split true = refl
    split false = refl

pub pends_less : (groups : List Group) (m h a n : ℕ) → n ≤ a → pends_one groups m h a ≡ pends_one groups m h (a - n) + pends_one groups m h n
pends_less groups m h a n some = split (in_subtree groups m h)
  where
    split : (c : Bool) → cond c a 0 ≡ cond c (a - n) 0 + cond c n 0
    split true = omega arith
    split false = refl

at_group_one : (c : Bool) (n : ℕ) → one_if c ≤ n + cond c 1 0
at_group_one true n = omega arith
at_group_one false n = omega arith

-- a frame's phase changes
pub frames_move : (groups : List Group) (phases : ℕ → Phase) (n m f : ℕ) (y : Phase) → f < n →
    frames_kept groups (with_at phases f y) n m + kept_one groups m (phases f) ≡ frames_kept groups phases n m + kept_one groups m y
frames_move groups phases n m f y below = sum_at n (kept_one groups m) phases f y below

-- and keeps its keeper
pub frames_stay : (groups : List Group) (phases : ℕ → Phase) (n m f : ℕ) (y : Phase) → keeper_of y ≡ keeper_of (phases f) →
    frames_kept groups (with_at phases f y) n m ≡ frames_kept groups phases n m
frames_stay groups phases n m f y e =
    sum_same n (λ i. kept_one groups m (with_at phases f y i)) (λ i. kept_one groups m (phases i))
    (λ i below. at_each phases f y (λ k x. kept_one groups m x ≡ kept_one groups m (phases k)) (ap (λ o. one_if (is_in_subtree groups m o)) e) (λ k ne. refl) i)

-- a CPU's stock changes
pub prepaid_moves : (groups : List Group) (parts : ℕ → Part) (cpus m p : ℕ) (part : Part) → p < cpus + 1 →
    pages_prepaid groups (with_at parts p part) cpus m + stock_in_subtree groups m (parts p)
    ≡ pages_prepaid groups parts cpus m + stock_in_subtree groups m part
prepaid_moves groups parts cpus m p part below = sum_at (cpus + 1) (stock_in_subtree groups m) parts p part below

-- and is the same
pub prepaid_stays : (groups : List Group) (parts : ℕ → Part) (cpus m p : ℕ) (part : Part) → part.stock ≡ (parts p).stock →
    pages_prepaid groups (with_at parts p part) cpus m ≡ pages_prepaid groups parts cpus m
prepaid_stays groups parts cpus m p part e =
    sum_same (cpus + 1) (λ i. stock_in_subtree groups m (with_at parts p part i)) (λ i. stock_in_subtree groups m (parts i))
    (λ i below. at_each parts p part (λ k x. stock_in_subtree groups m x ≡ stock_in_subtree groups m (parts k))
    (ap (λ st. if is_in_subtree groups m st.group then st.pages else 0) e) (λ k ne. refl) i)

-- the pages pending for one group change
pub pending_moves : (groups : List Group) (pending : ℕ → ℕ) (m g n : ℕ) → g < most_groups →
    pages_pending groups (with_at pending g n) m + pends_one groups m g (pending g) ≡ pages_pending groups pending m + pends_one groups m g n
pending_moves groups pending m g n below =
    let a = sum_change most_groups (λ h. pends_one groups m h (pending h)) g (pends_one groups m g n) below in
    let b : pages_pending groups (with_at pending g n) m ≡ sum_to most_groups (with_at (λ h. pends_one groups m h (pending h)) g (pends_one groups m g n)) =
    sum_same most_groups (λ h. pends_one groups m h (with_at pending g n h)) (with_at (λ h. pends_one groups m h (pending h)) g (pends_one groups m g n))
    (λ i here. at_each pending g n (λ k x. pends_one groups m k x ≡ with_at (λ h. pends_one groups m h (pending h)) g (pends_one groups m g n) k)
    (sym (at_same (λ h. pends_one groups m h (pending h)) g (pends_one groups m g n)))
    (λ k ne. sym (at_other (λ h. pends_one groups m h (pending h)) g (pends_one groups m g n) k ne)) i) in
    omega arith

pub pending_rises : (groups : List Group) (pending : ℕ → ℕ) (m h n : ℕ) →
    pages_pending groups (with_at pending h (pending h + n)) m ≤ pages_pending groups pending m + pends_one groups m h n
pending_rises groups pending m h n =
    elim (cases_lt h most_groups) [
      | inl low ↦ let a = pending_moves groups pending m h (pending h + n) low in let b = pends_split groups m h (pending h) n in omega arith
      | inr past ↦
          let a : pages_pending groups (with_at pending h (pending h + n)) m ≡ pages_pending groups pending m =
          sum_same most_groups (λ k. pends_one groups m k (with_at pending h (pending h + n) k)) (λ k. pends_one groups m k (pending k))
          (λ k below. ap (pends_one groups m k) (at_other pending h (pending h + n) k (λ e. absurd (omega arith)))) in
          omega arith
    ]

-- ---- a block, and a unit
-- how many numbers below n are within a range
within_counts : (n at size : ℕ) → (n ≤ at → sum_to n (λ i. one_if (is_within at size i)) ≡ 0)
    × (at ≤ n → sum_to n (λ i. one_if (is_within at size i)) + at ≤ n) × (sum_to n (λ i. one_if (is_within at size i)) ≤ size)
unfolding sum_to
within_counts zero at size = (λ e. refl, λ low. omega arith, omega arith)
within_counts (suc n) at size =
    let before = within_counts n at size in
    let small = before.2 in
    elim (within_cases at size n) [
      | inl within ↦
          let one : one_if (is_within at size n) ≡ 1 = ap one_if within.0 in
          let low = within.1 in
          let high = within.2 in
          let a = before.1 low in
          (λ e. absurd (omega arith), λ e. omega arith, omega arith)
      | inr without ↦
          let none : one_if (is_within at size n) ≡ 0 = ap one_if without.0 in (
            λ e. (let a = before.0 (omega arith) in omega arith),
            λ e. elim (cases_lt n at) [
              | inl under ↦ (let a = before.0 (omega arith) in omega arith)
              | inr over ↦ (let a = before.1 over in omega arith)
            ],
            omega arith,
          )
    ]

block_adds : (groups : List Group) (phases : ℕ → Phase) (n m g : ℕ) (b : Block) →
    frames_kept groups (with_block phases g b) n m ≤ frames_kept groups phases n m + pends_one groups m g (2 ^ b.order)
block_adds groups phases n m g b =
    let more : ℕ → ℕ = λ i. pends_one groups m g (one_if (is_within b.at (2 ^ b.order) i)) in
    let a = sum_less n (λ i. kept_one groups m (with_block phases g b i)) (λ i. kept_one groups m (phases i) + more i)
    (λ i below. each i (is_within b.at (2 ^ b.order) i) (i == b.at)) in
    let c = sum_both n (λ i. kept_one groups m (phases i)) more in
    let d : sum_to n more ≤ pends_one groups m g (2 ^ b.order) = counts (in_subtree groups m g) in
    omega arith
  where
    each : (i : ℕ) (w t : Bool) → kept_one groups m (cond w (cond t (Head (record { group = g; order = b.order }) Bare) (Tail g)) (phases i))
        ≤ kept_one groups m (phases i) + pends_one groups m g (one_if w)
    each i true true = at_group_one (in_subtree groups m g) (kept_one groups m (phases i))
    each i true false = at_group_one (in_subtree groups m g) (kept_one groups m (phases i))
    each i false t = omega arith

    counts : (c : Bool) → sum_to n (λ i. cond c (one_if (is_within b.at (2 ^ b.order) i)) 0) ≤ cond c (2 ^ b.order) 0
    counts true = (within_counts n b.at (2 ^ b.order)).2
    counts false = let z = sum_none n (λ i. 0) (λ i below. refl) in omega arith

unit_falls : (groups : List Group) (phases : ℕ → Phase) (n m f : ℕ) → frames_kept groups (without_unit phases f) n m ≤ frames_kept groups phases n m
unit_falls groups phases n m f =
    sum_less n (λ i. kept_one groups m (without_unit phases f i)) (λ i. kept_one groups m (phases i))
    (λ i below. each i (is_within f (unit_size (unit_of (phases f))) i))
  where
    each : (i : ℕ) (w : Bool) → kept_one groups m (cond w InZone (phases i)) ≤ kept_one groups m (phases i)
    each i true = omega arith
    each i false = omega arith

-- ---- the tree changes
one_if_less : (a b : Bool) → (a ≡ true → b ≡ true) → one_if a ≤ one_if b
one_if_less true b e = let c : one_if b ≡ 1 = ap one_if (e refl) in omega arith
one_if_less false b e = omega arith

pages_less : (a b : Bool) (n : ℕ) → (a ≡ true → 1 ≤ n → b ≡ true) → cond a n 0 ≤ cond b n 0
pages_less false b n e = omega arith
pages_less true true n e = omega arith
pages_less true false n e = elim (cases_lt 0 n) [ inl some ↦ absurd (false≢true (e refl (omega arith))) | inr none ↦ omega arith ]

-- no usage rises where nothing that is kept comes into a subtree
usage_falls : (zone : Zone) (hold : Hold) (groups later : List Group) (phases : ℕ → Phase) (parts : ℕ → Part) (pending : ℕ → ℕ) (m : ℕ) →
    Homes zone hold groups phases parts pending →
    ((h : ℕ) → has_group groups h ≡ true → in_subtree later m h ≡ true → in_subtree groups m h ≡ true) →
    frames_kept later phases zone.frames m + pages_prepaid later parts zone.cpus m + pages_pending later pending m
    ≤ frames_kept groups phases zone.frames m + pages_prepaid groups parts zone.cpus m + pages_pending groups pending m
usage_falls zone hold groups later phases parts pending m homes stays =
    let a = sum_less zone.frames (λ i. kept_one later m (phases i)) (λ i. kept_one groups m (phases i))
    (λ i below. frame (keeper_of (phases i)) (homes.frames i)) in
    let b = sum_less (zone.cpus + 1) (λ q. stock_in_subtree later m (parts q)) (λ q. stock_in_subtree groups m (parts q))
    (λ q below. stock (parts q).stock.group (parts q).stock.pages (homes.stocks q)) in
    let c = sum_less most_groups (λ h. pends_one later m h (pending h)) (λ h. pends_one groups m h (pending h))
    (λ h below. pages_less (in_subtree later m h) (in_subtree groups m h) (pending h) (pends h)) in
    omega arith
  where
    frame : (o : Option ℕ) → is_there groups o ≡ true → one_if (is_in_subtree later m o) ≤ one_if (is_in_subtree groups m o)
    frame None e = omega arith
    frame (Some h) e = one_if_less (in_subtree later m h) (in_subtree groups m h) (stays h e)

    stock : (o : Option ℕ) (n : ℕ) → (1 ≤ n → some_there groups o ≡ true) → cond (is_in_subtree later m o) n 0 ≤ cond (is_in_subtree groups m o) n 0
    stock None n e = omega arith
    stock (Some h) n e = pages_less (in_subtree later m h) (in_subtree groups m h) n (λ is some. stays h (e some) is)

    pends : (h : ℕ) → in_subtree later m h ≡ true → 1 ≤ pending h → in_subtree groups m h ≡ true
    pends h is some = elim (cases_Bool (has_group groups h)) [
      | inl there ↦ stays h there is
      | inr absent ↦ absurd (let a = homes.pages h absent in omega arith)
    ]

-- a group that isn't there has no usage
pub usage_absent : (s : State) (m : ℕ) → has_group s.groups m ≡ false → usage_of s m ≡ 0
usage_absent s m absent =
    let none : (h : ℕ) → in_subtree s.groups m h ≡ false = λ h. elim (cases_Bool (in_subtree s.groups m h)) [
      | inl is ↦ absurd (true≢false (sym (in_subtree-above s.groups m h is) ∙ absent))
      | inr not_so ↦ not_so
    ] in
    let below : (o : Option ℕ) → is_in_subtree s.groups m o ≡ false = λ o. elim o as
    (λ k. is_in_subtree s.groups m k ≡ false) [ None ↦ refl | Some h ↦ none h ] in
    let a = sum_none s.zone.frames (λ f. one_if (is_in_subtree s.groups m (keeper_of (s.phases f)))) (λ f here. ap one_if (below (keeper_of (s.phases f)))) in
    let b = sum_none (s.zone.cpus + 1) (λ p. stock_in_subtree s.groups m (s.parts p))
    (λ p here. ap (λ t. cond t (s.parts p).stock.pages 0) (below (s.parts p).stock.group)) in
    let c = sum_none most_groups (λ h. pends_one s.groups m h (s.pending h)) (λ h here. ap (λ t. cond t (s.pending h) 0) (none h)) in
    omega arith

-- a removed group is gone
pub gone_itself : (groups : List Group) (n : ℕ) → has_group (without_group groups n) n ≡ false
gone_itself = has_group-without_own

-- a group that is made has nothing below it, and the others have what they had
made_stays : (groups : List Group) (path : List ℕ) (n m : ℕ) → AreGroups groups → CanMake groups path → has_group groups n ≡ false →
    (h : ℕ) → has_group groups h ≡ true → in_subtree (with_group groups n path) m h ≡ true → in_subtree groups m h ≡ true
made_stays groups path n m tree can free h there is =
    let other : h ≡ n → ⊥ = λ e. true≢false (sym there ∙ ap (has_group groups) e ∙ free) in
    elim (cases_eq m n) [
      | inl e ↦ absurd (other (in_subtree-with_new groups n h path tree can free (ap (λ k. in_subtree (with_group groups n path) k h) (sym e) ∙ is)))
      | inr ne ↦ sym (in_subtree-with groups n m h path ne other) ∙ is
    ]

removed_stays : (groups : List Group) (g m h : ℕ) → in_subtree (without_group groups g) m h ≡ true → in_subtree groups m h ≡ true
removed_stays groups g m h is =
    let above : m ≡ g → ⊥ = λ e. true≢false (sym (in_subtree-above (without_group groups g) m h is) ∙ ap (has_group (without_group groups g)) e
    ∙ gone_itself groups g) in
    let below : h ≡ g → ⊥ = λ e. true≢false (sym (in_subtree-below (without_group groups g) m h is) ∙ ap (has_group (without_group groups g)) e
    ∙ gone_itself groups g) in
    sym (in_subtree-without groups g m h above below) ∙ is

-- ---- one step
pub same_least : (n : ℕ) → n ≤ n
same_least n = omega arith

no_more : {a b : ℕ} → a ≡ b → a ≤ b
no_more e = omega arith

pub moves_illegal : (s : State) (seat : ℕ) (action : Action) → UsageMoves s seat action Illegal
moves_illegal s seat Lock = λ m. same_least (usage_of s m)
moves_illegal s seat action = λ m. same_least (usage_of s m)

pub stock_as : (groups : List Group) (m : ℕ) (part : Part) (o : Option ℕ) → part.stock.group ≡ o →
    stock_in_subtree groups m part ≡ cond (is_in_subtree groups m o) part.stock.pages 0
stock_as groups m part o e = ap (λ x. cond (is_in_subtree groups m x) part.stock.pages 0) e

pub usage_step : (s : State) (seat : ℕ) (action : Action) (answer : Answer) → KeepsInvariant s → IsHomed s → is_legal s seat action ≡ true →
    IsAnswer s seat action answer → IsCounted s action answer → UsageMoves s seat action answer
usage_step s seat action Illegal sound h legal ok counted = moves_illegal s seat action
usage_step s seat (Put f) Last sound h legal ok counted = λ m.
    let a = frames_stay s.groups s.phases s.zone.frames m f (at_stage (stage_after_last seat) (s.phases f))
    (same_keeper (stage_after_last seat) (s.phases f)) in
    let b : pages_prepaid s.groups (cond (seat == 0) s.parts (with_at s.parts seat (with_back (s.parts seat) f))) s.zone.cpus m
    ≡ pages_prepaid s.groups s.parts s.zone.cpus m = by_seat m (seat == 0) in
    no_more (λ i. a i + b i + pages_pending s.groups s.pending m)
  where
    by_seat : (m : ℕ) (c : Bool) → pages_prepaid s.groups (cond c s.parts (with_at s.parts seat (with_back (s.parts seat) f))) s.zone.cpus m
        ≡ pages_prepaid s.groups s.parts s.zone.cpus m
    by_seat m true = refl
    by_seat m false = prepaid_stays s.groups s.parts s.zone.cpus m seat (with_back (s.parts seat) f) refl
usage_step s seat (Freeze f n) Done sound h legal ok counted = λ m.
    let a = frames_stay s.groups s.phases s.zone.frames m f (at_stage AwaitsReturn (s.phases f)) (same_keeper AwaitsReturn (s.phases f)) in omega arith
usage_step s seat (Unfreeze f n) Done sound h legal ok counted = λ m.
    let a = frames_stay s.groups s.phases s.zone.frames m f (at_stage Live (s.phases f)) (same_keeper Live (s.phases f)) in omega arith
usage_step s seat (PassOut f p) Done sound h legal ok counted = λ m.
    let free : is_free (s.phases f) ≡ true = (pass_out_tests s seat f p legal).3 in
    let a = frames_stay s.groups s.phases s.zone.frames m f (Lent p PassingOut) (sym (ap keeper_of (free_is (s.phases f) free))) in omega arith
usage_step s seat (TakeIn f) Done sound h legal ok counted = λ m.
    let passes : passes_out seat (s.phases f) ≡ true = (take_in_tests s seat f legal).2 in
    let part : Part = record (s.parts seat) { list = with_last (s.parts seat).list f } in
    let a = frames_stay s.groups s.phases s.zone.frames m f (Lent seat OnList) (sym (ap keeper_of (out_is seat (s.phases f) passes))) in
    let b = prepaid_stays s.groups s.parts s.zone.cpus m seat part refl in
    no_more (λ i. a i + b i + pages_pending s.groups s.pending m)
usage_step s seat (PassBack f) Done sound h legal ok counted = λ m.
    let a = frames_stay s.groups s.phases s.zone.frames m f (passed_back (s.phases f)) (sent_keeper (s.phases f)) in
    let b = prepaid_stays s.groups s.parts s.zone.cpus m seat (without_frame (s.parts seat) (s.phases f) seat f) refl in
    no_more (λ i. a i + b i + pages_pending s.groups s.pending m)
usage_step s seat (Collect f p) Done sound h legal ok counted = λ m.
    let a = frames_stay s.groups s.phases s.zone.frames m f (collected (s.phases f)) (got_keeper (s.phases f)) in omega arith
usage_step s seat (Consume g) Took sound h legal ok counted = λ m.
    let cpu : is_cpu s.zone seat ≡ true = (consume_tests s seat g legal).0 in
    let some : nat_le 1 (length (s.parts seat).list) ≡ true = (consume_tests s seat g legal).1 in
    let f = front_of (s.parts seat).list in
    let listed = listed_is seat (s.phases f) (front_listed s seat sound (leb-true 1 (length (s.parts seat).list) some)) in
    let below = in_zone s f sound (ap is_free listed) in
    let a = frames_move s.groups s.phases s.zone.frames m f (consumed seat g) below in
    let was : kept_one s.groups m (s.phases f) ≡ 0 = ap (kept_one s.groups m) listed in
    let b = prepaid_moves s.groups s.parts s.zone.cpus m seat (paid (s.parts seat)) (cpu_low s.zone seat cpu) in
    let c = stock_as s.groups m (s.parts seat) (Some g) ok.0 in
    let d = stock_as s.groups m (paid (s.parts seat)) (Some g) ok.0 in
    let e = one_paid (in_subtree s.groups m g) (s.parts seat).stock.pages ok.2 in
    omega arith
  where
    one_paid : (c : Bool) (n : ℕ) → 1 ≤ n → cond c n 0 ≡ cond c (n - 1) 0 + one_if c
    one_paid true n some = omega arith
    one_paid false n some = refl
usage_step s seat (Credit f) Stocked sound h legal ok counted = λ m.
    let cpu : is_cpu s.zone seat ≡ true = (credit_tests s seat f legal).0 in
    let frame : is_frame s.zone f ≡ true = (credit_tests s seat f legal).1 in
    let fresh : has_as FreshFrame seat (s.phases f) ≡ true = (credit_tests s seat f legal).2 in
    let is = fresh_is seat (s.phases f) fresh in
    let paid : PhasePaid s.zone.cpus (groups_in s.parts) (Head is.0 (FreshAt seat)) =
    subst (PhasePaid s.zone.cpus (groups_in s.parts)) is.1 (sound.frames f).paid in
    let a = frames_move s.groups s.phases s.zone.frames m f (Lent seat OnList) (below_frames s.zone f frame) in
    let was : kept_one s.groups m (s.phases f) ≡ one_if (in_subtree s.groups m is.0.group) = ap (kept_one s.groups m) is.1 in
    let b = prepaid_moves s.groups s.parts s.zone.cpus m seat (credited (s.parts seat) f) (cpu_low s.zone seat cpu) in
    let c = stock_as s.groups m (s.parts seat) (Some is.0.group) paid.group in
    let d = stock_as s.groups m (credited (s.parts seat) f) (Some is.0.group) paid.group in
    let e = one_back (in_subtree s.groups m is.0.group) (s.parts seat).stock.pages in
    omega arith
  where
    one_back : (c : Bool) (n : ℕ) → cond c (n + 1) 0 ≡ cond c n 0 + one_if c
    one_back true n = refl
    one_back false n = refl
usage_step s seat (Report n) Done sound h legal ok counted = λ m.
    let part : Part = record (s.parts seat) { unreported = (s.parts seat).unreported - n; reported = (s.parts seat).reported + n } in
    let b = prepaid_stays s.groups s.parts s.zone.cpus m seat part refl in omega arith
usage_step s seat (Absorb p) (Pages n) sound h legal ok counted = λ m.
    let part : Part = record (s.parts p) { book = (s.parts p).book - n; reported = (s.parts p).reported - n } in
    let b = prepaid_stays s.groups s.parts s.zone.cpus m p part refl in omega arith
usage_step s seat (Fill p g n) Done sound h legal ok counted = λ m.
    let visit : visits p s.hold ≡ true = (fill_tests s seat p g n legal).1 in
    let there : has_group s.groups g ≡ true = (fill_tests s seat p g n legal).2 in
    let some : nat_le n (s.pending g) ≡ true = (fill_tests s seat p g n legal).4 in
    let enough = leb-true n (s.pending g) some in
    let cpu : is_cpu s.zone p ≡ true = h.holder p (or_right _ _ visit) in
    let b = prepaid_moves s.groups s.parts s.zone.cpus m p (filled (s.parts p) g n) (cpu_low s.zone p cpu) in
    let c = pending_moves s.groups s.pending m g (s.pending g - n) (number_low s.groups g h.tree there) in
    let d = pends_less s.groups m g (s.pending g) n enough in
    omega arith
usage_step s seat (DrainStock p) (Pages n) sound h legal ok counted = λ m.
    let cpu : is_cpu s.zone p ≡ true = (drain_stock_tests s seat p legal).1 in
    let b = prepaid_moves s.groups s.parts s.zone.cpus m p (drained (s.parts p) n) (cpu_low s.zone p cpu) in
    let c = to_pending m (s.parts p).stock.group refl in
    omega arith
  where
    to_pending : (m : ℕ) (o : Option ℕ) → (s.parts p).stock.group ≡ o →
        pages_pending s.groups (with_more s.pending (s.parts p).stock.group n) m + stock_in_subtree s.groups m (drained (s.parts p) n)
        ≤ pages_pending s.groups s.pending m + stock_in_subtree s.groups m (s.parts p)
    to_pending m None e =
        let a : pages_pending s.groups (with_more s.pending (s.parts p).stock.group n) m ≡ pages_pending s.groups s.pending m =
        ap (λ x. pages_pending s.groups (with_more s.pending x n) m) e in
        let c = stock_as s.groups m (s.parts p) None e in
        let d = stock_as s.groups m (drained (s.parts p) n) None e in
        omega arith
    to_pending m (Some k) e =
        let a : pages_pending s.groups (with_more s.pending (s.parts p).stock.group n) m
        ≡ pages_pending s.groups (with_at s.pending k (s.pending k + n)) m = ap (λ x. pages_pending s.groups (with_more s.pending x n) m) e in
        let b = pending_rises s.groups s.pending m k n in
        let c = stock_as s.groups m (s.parts p) (Some k) e in
        let d = stock_as s.groups m (drained (s.parts p) n) (Some k) e in
        let f = pends_less s.groups m k (s.parts p).stock.pages n (omega arith) in
        omega arith
usage_step s seat (Grant g n) Granted sound h legal ok counted = λ m.
    let there : has_group s.groups g ≡ true = (grant_tests s seat g n legal).1 in
    let a = pending_moves s.groups s.pending m g (s.pending g + n) (number_low s.groups g h.tree there) in
    let b = pends_split s.groups m g (s.pending g) n in
    granted (in_subtree s.groups m g) (frames_kept s.groups s.phases s.zone.frames m + pages_prepaid s.groups s.parts s.zone.cpus m)
    (pages_pending s.groups s.pending m)
    (pages_pending s.groups (with_at s.pending g (s.pending g + n)) m) (omega arith)
  where
    granted : (c : Bool) (x y z : ℕ) → z ≡ y + cond c n 0 → x + z ≡ cond c (x + y + n) (x + y)
    granted true x y z e = omega arith
    granted false x y z e = omega arith
usage_step s seat (Ungrant g n) Done sound h legal ok counted = λ m.
    let there : has_group s.groups g ≡ true = (ungrant_tests s seat g n legal).1 in
    let some : nat_le n (s.pending g) ≡ true = (ungrant_tests s seat g n legal).2 in
    let c = pending_moves s.groups s.pending m g (s.pending g - n) (number_low s.groups g h.tree there) in
    let d = pends_less s.groups m g (s.pending g) n (leb-true n (s.pending g) some) in
    omega arith
usage_step s seat (PlaceBlock g k) (Placed b) sound h legal ok counted = λ m.
    let there : has_group s.groups g ≡ true = (place_block_tests s seat g k legal).1 in
    let some : nat_le (2 ^ k) (s.pending g) ≡ true = (place_block_tests s seat g k legal).2 in
    let a = block_adds s.groups s.phases s.zone.frames m g b in
    let size : pends_one s.groups m g (2 ^ b.order) ≡ pends_one s.groups m g (2 ^ k) = ap (λ x. pends_one s.groups m g (2 ^ x)) ok.0 in
    let c = pending_moves s.groups s.pending m g (s.pending g - 2 ^ k) (number_low s.groups g h.tree there) in
    let d = pends_less s.groups m g (s.pending g) (2 ^ k) (leb-true (2 ^ k) (s.pending g) some) in
    omega arith
usage_step s seat (Return f) Done sound h legal ok counted = λ m. let a = unit_falls s.groups s.phases s.zone.frames m f in omega arith
usage_step s seat (SetMax g limit) Done sound h legal ok counted = λ m.
    usage_falls s.zone s.hold s.groups (with_limit s.groups g limit) s.phases s.parts s.pending m h
    (λ k there is. sym (in_subtree-limited s.groups g m k limit) ∙ is)
usage_step s seat (SetFlag g flag) Done sound h legal ok counted = λ m.
    usage_falls s.zone s.hold s.groups (with_oom_group s.groups g flag) s.phases s.parts s.pending m h
    (λ k there is. sym (in_subtree-flagged s.groups g m k flag) ∙ is)
usage_step s seat (Make path) (Number n) sound h legal ok counted = λ m.
    let none : is_none (make_fault s.groups path) ≡ true = (make_tests s seat path legal).1 in
    usage_falls s.zone s.hold s.groups (with_group s.groups n path) s.phases s.parts s.pending m h
    (made_stays s.groups path n m h.tree (making s path h none) ok.free)
usage_step s seat (Remove g) Done sound h legal ok counted = λ m.
    usage_falls s.zone s.hold s.groups (without_group s.groups g) s.phases s.parts s.pending m h (λ k there is. removed_stays s.groups g m k is)
usage_step s seat Lock answer sound h legal ok counted = λ m. same_least (usage_of s m)
usage_step s seat action answer sound h legal ok counted = λ m. same_least (usage_of s m)
