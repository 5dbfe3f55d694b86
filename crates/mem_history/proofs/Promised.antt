-- The promise holds of what the machine and the parts show. Serves `the_whole_is_promised`.
use Rattle.std.proofs.Common.{if◌then◌else◌, ◌≡◌, ℕ, ◌+◌, ◌-◌, ◌≤◌, ◌<◌, ◌==◌, Bool, true, false, None, Some, List, [], ◌∷◌, length, map, refl, sym, ◌∙◌, ap, subst, arith, inl, inr, zero, suc, eq-eqb}
use Rattle.std.specs.Prelude.{nat_le}
use Rattle.std.specs.List.{range_with_len, slice_get, slice_index_or}
use Rattle.std.specs.Option.{option_map_or}
use Rattle.std.proofs.lemmas.Bool.{cases_lt, cases_Bool, true≢false, and_from, and_left, and_right, le-leb, leb-true, cond-true, cond-false}
use Rattle.std.proofs.lemmas.Option.{slice_get_past}
use Rattle.group_charge.specs.Charges.{AreCharges}
use Rattle.zone_blocks.specs.Areas.{AreMaximalBlocks}
use Rattle.boot_words.specs.{zone_of_boot, KnownTable}
use Rattle.cpu_part.specs.Cpus.{KnownCpuLists}
use Rattle.step_rules.specs.declared.phase.ChargedUnit.{ChargedUnit}
use Rattle.step_rules.specs.declared.phase.Stage.{Stage}
use Rattle.step_rules.specs.declared.phase.Way.{Way}
use Rattle.step_rules.specs.declared.phase.Stage.TheVariants.{FreshAt, BackAt, Live}
use Rattle.step_rules.specs.declared.phase.Way.TheVariants.{OnList}
use Rattle.step_rules.specs.declared.phase.Phase.{Phase}
use Rattle.step_rules.specs.declared.phase.Phase.TheVariants as phase
use Rattle.step_rules.specs.Phases.{ListFrame, FreshFrame, has_as, keeper_of}
use Rattle.step_rules.specs.Phases as phases
use Rattle.step_rules.specs.{Zone, Part, PartStock, one_if, is_cpu, free_in, times, Run, state_of, lent_to, IsShown, other_part_seen, PhasePaid}
use Rattle.step_rules.specs.{groups_in, KeepsInvariant}
use Rattle.step_rules.specs.State.{State}
use Rattle.step_rules.proofs.PhaseLemmas.{listed_is, fresh_is}
use Rattle.step_rules.proofs.Freeing.{zone_of_run}
use Rattle.step_rules.proofs.LentTo.{frames_are_lent}
use Rattle.step_rules.proofs.Promising.{the_promise_is_kept}
use Rattle.mem_machine.specs.declared.frame_state.FrameState.{FrameState}
use Rattle.mem_machine.specs.declared.frame_state.FrameState.TheVariants.{Free, Lent, Head, Tail}
use Rattle.mem_machine.specs.FrameStates as frame_states
use Rattle.mem_machine.specs.{frame_state_at, free_of, phase_hidden, KnownMachine, IsConsistent, left_by, part_at, stock_group}
use Rattle.step_rules.proofs.Runs.{sound_run}
use Rattle.boot_words.specs.Hidden.{hide_phase}
use Rattle.mem_history.specs.{ShowsAll, TheWholeIsPromised, list_by, fresh_frames_by, keeper_by, stock_by, shown_of}
use Rattle.mem_history.proofs.Currents.{current_is}

-- an entry of a list that is long enough
there : {X : Type 0} (xs : List X) (k : ℕ) → k < length xs → (x : X) × (slice_get xs k ≡ Some x)
there [] k h = absurd (omega arith)
there (x ∷ xs) zero h = (x, refl)
there (x ∷ xs) (suc k) h = there xs k (omega arith)

-- a list that has no frame is empty
none_stands : (xs : List ℕ) → ((f : ℕ) → times f xs ≡ 0) → xs ≡ []
none_stands [] none = refl
none_stands (x ∷ xs) none = absurd (let a = none x in let b : one_if (x == x) ≡ 1 = ap one_if (eq-eqb x x refl) in omega arith)

-- ---- which frames are free

free_covered : (y : Phase) → phases.is_free y ≡ phases.is_free (hide_phase y)
free_covered phase.InZone = refl
free_covered (phase.Lent q way) = refl
free_covered (phase.Tail g) = refl
free_covered (phase.Head u (FreshAt q)) = refl
free_covered (phase.Head u (BackAt q)) = refl
free_covered (phase.Head u stage) = refl

free_plain : (x : FrameState) → phases.is_free (phase_hidden x) ≡ frame_states.is_free_state x
free_plain Free = refl
free_plain (Lent q) = refl
free_plain (Head unit) = refl
free_plain (Tail g) = refl

free_each : (xs : List FrameState) (F : ℕ → Bool) (a : ℕ) → ((i j : ℕ) → a + i ≡ j → F j ≡ frame_states.is_free_state (slice_index_or xs i Free)) →
    map F (range_with_len a (length xs)) ≡ map frame_states.is_free_state xs
free_each [] F a each = refl
free_each (x ∷ xs) F a each =
    let here : F a ≡ frame_states.is_free_state x = each 0 a (omega arith) in
    let rest = free_each xs F (a + 1) (λ i j e. each (suc i) j (omega arith)) in
    λ j. here j ∷ rest j

-- ---- records, by their phases

in_zone_plain : (x : FrameState) → phase.InZone ≡ phase_hidden x → x ≡ Free
in_zone_plain Free e = refl
in_zone_plain (Lent q) e = cc
in_zone_plain (Head unit) e = cc
in_zone_plain (Tail g) e = cc

tail_plain : (x : FrameState) (g : ℕ) → phase.Tail g ≡ phase_hidden x → x ≡ Tail g
tail_plain Free g e = cc
tail_plain (Lent q) g e = cc
tail_plain (Head unit) g e = cc
tail_plain (Tail h) g e = cc

any_lent_plain : (x : FrameState) (q : ℕ) (way : Way) → phase.Lent q way ≡ phase_hidden x → x ≡ Lent q
any_lent_plain Free q way e = cc
any_lent_plain (Lent r) q way e = cc
any_lent_plain (Head unit) q way e = cc
any_lent_plain (Tail g) q way e = cc

any_head_plain : (x : FrameState) (u : ChargedUnit) (stage : Stage) → phase.Head u stage ≡ phase_hidden x → x ≡ Head u
any_head_plain Free u stage e = cc
any_head_plain (Lent r) u stage e = cc
any_head_plain (Head unit) u stage e = cc
any_head_plain (Tail g) u stage e = cc

module _ (t : KnownTable) (run : Run) (m : KnownMachine) (cpus : List KnownCpuLists) (shows : ShowsAll t run m cpus)
    (is : IsConsistent t m) (charges : AreCharges m.ledger) where
  abbrev zone : Zone
  zone = zone_of_boot t

  abbrev whole : State
  whole = state_of zone run

  sound : KeepsInvariant whole
  sound = sound_run zone run shows.legal

  -- ---- a number that is no CPU's has nothing

  nobody_listed : (p : ℕ) → is_cpu zone p ≡ false → (whole.parts p).list ≡ []
  nobody_listed p nobody = none_stands (whole.parts p).list (λ f. elim (cases_Bool (has_as ListFrame p (whole.phases f))) [
    | inl listed ↦ absurd (true≢false (sym (frames_are_lent zone run shows.legal f p (ap lent_to (listed_is p (whole.phases f) listed))) ∙ nobody))
    | inr off ↦ sound.lists p ListFrame f ∙ ap one_if off
  ])

  nobody_fresh : (p : ℕ) → is_cpu zone p ≡ false → (whole.parts p).fresh ≡ []
  nobody_fresh p nobody = none_stands (whole.parts p).fresh (λ f. elim (cases_Bool (has_as FreshFrame p (whole.phases f))) [
    | inl fresh ↦
        let was = fresh_is p (whole.phases f) fresh in
        let paid : PhasePaid whole.zone.cpus (groups_in whole.parts) (phase.Head was.0 (FreshAt p)) =
        subst (PhasePaid whole.zone.cpus (groups_in whole.parts)) was.1 (sound.frames f).paid in
        let high : p ≤ t.cpus = subst (λ (z : Zone). p ≤ z.cpus) (zone_of_run zone run) paid.high in
        absurd (true≢false (sym (and_from (nat_le 1 p) (nat_le p t.cpus) (le-leb 1 p paid.low) (le-leb p t.cpus high)) ∙ nobody))
    | inr off ↦ sound.lists p FreshFrame f ∙ ap one_if off
  ])

  zero_no : is_cpu zone 0 ≡ false
  zero_no = and_left (nat_le 1 0) (nat_le 0 t.cpus) refl

  past_no : (k : ℕ) → length cpus ≤ k → is_cpu zone (suc k) ≡ false
  past_no k past = elim (cases_Bool (nat_le (suc k) t.cpus)) [
    | inl low ↦ absurd (let count = shows.count in let h = leb-true (suc k) t.cpus low in omega arith)
    | inr high ↦ and_right (nat_le 1 (suc k)) (nat_le (suc k) t.cpus) high
  ]

  -- ---- lists and stocks

  list_is : (p : ℕ) → list_by cpus p ≡ (whole.parts p).list
  list_is zero = sym (nobody_listed 0 zero_no)
  list_is (suc k) = elim (cases_lt k (length cpus)) [
    | inl inside ↦
        let part = there cpus k inside in
        ap (λ o. option_map_or (λ (c : KnownCpuLists). c.list) o []) part.1 ∙ sym (shows.each k part.0 part.1).own.list
        ∙ ap (λ (q : ℕ). (whole.parts q).list) (shows.each k part.0 part.1).number
    | inr past ↦ ap (λ o. option_map_or (λ (c : KnownCpuLists). c.list) o []) (slice_get_past cpus k past) ∙ sym (nobody_listed (suc k) (past_no k past))
  ]

  fresh_is_by : (p : ℕ) → fresh_frames_by cpus p ≡ (whole.parts p).fresh
  fresh_is_by zero = sym (nobody_fresh 0 zero_no)
  fresh_is_by (suc k) = elim (cases_lt k (length cpus)) [
    | inl inside ↦
        let part = there cpus k inside in
        ap (λ o. option_map_or (λ (c : KnownCpuLists). c.fresh) o []) part.1 ∙ sym (shows.each k part.0 part.1).own.fresh
        ∙ ap (λ (q : ℕ). (whole.parts q).fresh) (shows.each k part.0 part.1).number
    | inr past ↦ ap (λ o. option_map_or (λ (c : KnownCpuLists). c.fresh) o []) (slice_get_past cpus k past) ∙ sym (nobody_fresh (suc k) (past_no k past))
  ]

  part_left : (p : ℕ) → (left_by t m.run.past).parts p ≡ other_part_seen (whole.parts p)
  part_left p = ap (λ (s : State). s.parts p) shows.left

  stock_is : (p : ℕ) → stock_by t m cpus p ≡ (whole.parts p).stock
  stock_is p =
      let seen = ap (λ (x : Part). x.stock.pages) (part_left p) in
      let fresh = ap length (fresh_is_by p) in
      let pages : (part_at t m p).stock.pages - length (fresh_frames_by cpus p) ≡ (whole.parts p).stock.pages = omega (arith, seen, fresh) in
      λ i. record {
        group = ap (λ (x : Part). x.stock.group) (part_left p) i;
        pages = pages i;
        is_drained = ap (λ (x : Part). x.stock.is_drained) (part_left p) i;
      }

  -- ---- keepers

  fresh_times : (f p : ℕ) → times f (fresh_frames_by cpus p) ≡ one_if (has_as FreshFrame p (whole.phases f))
  fresh_times f p = ap (times f) (fresh_is_by p) ∙ sound.lists p FreshFrame f

  lent_keeper : (f p : ℕ) (b : Bool) → has_as FreshFrame p (whole.phases f) ≡ b → keeper_by t m cpus f (Lent p) ≡ (if b then stock_group t m p else None)
  lent_keeper f p true e = cond-true _ _ _ (le-leb 1 (times f (fresh_frames_by cpus p)) (let a = fresh_times f p in let b = ap one_if e in omega arith))
  lent_keeper f p false e = cond-false _ _ _ (ap (nat_le 1) (fresh_times f p ∙ ap one_if e))

  keeper_is : (f : ℕ) (x : FrameState) (y : Phase) → whole.phases f ≡ y → hide_phase y ≡ phase_hidden x → keeper_by t m cpus f x ≡ keeper_of y
  keeper_is f x phase.InZone e same = ap (keeper_by t m cpus f) (in_zone_plain x same)
  keeper_is f x (phase.Tail g) e same = ap (keeper_by t m cpus f) (tail_plain x g same)
  keeper_is f x (phase.Lent q way) e same =
      ap (keeper_by t m cpus f) (any_lent_plain x q way same) ∙ lent_keeper f q false (ap (has_as FreshFrame q) e)
  keeper_is f x (phase.Head u (FreshAt q)) e same =
      let paid : PhasePaid whole.zone.cpus (groups_in whole.parts) (phase.Head u (FreshAt q)) =
      subst (PhasePaid whole.zone.cpus (groups_in whole.parts)) e (sound.frames f).paid in
      ap (keeper_by t m cpus f) (any_lent_plain x q OnList same) ∙ lent_keeper f q true (ap (has_as FreshFrame q) e ∙ eq-eqb q q refl)
      ∙ ap (λ (s : PartStock). s.group) (stock_is q) ∙ paid.group
  keeper_is f x (phase.Head u (BackAt q)) e same = ap (keeper_by t m cpus f) (any_head_plain x u Live same)
  keeper_is f x (phase.Head u stage) e same = ap (keeper_by t m cpus f) (any_head_plain x u stage same)

  covers_at : (f : ℕ) → hide_phase (whole.phases f) ≡ phase_hidden (frame_state_at m.frame_states f)
  covers_at f = sym (ap (λ (s : State). s.phases f) shows.left) ∙ is.shown.phases f

  free_is : free_in whole.zone whole.phases ≡ free_of m.frame_states
  free_is =
      let sized : whole.zone.frames ≡ length m.frame_states = ap (λ (z : Zone). z.frames) (zone_of_run zone run) ∙ sym is.sizes.frame_states in
      ap (λ (n : ℕ). map (λ f. phases.is_free (whole.phases f)) (range_with_len 0 n)) sized
      ∙ free_each m.frame_states (λ f. phases.is_free (whole.phases f)) 0
      (λ i j e. ap (λ (f : ℕ). phases.is_free (whole.phases f)) (sym (the_same i j e))
      ∙ free_covered (whole.phases i) ∙ ap phases.is_free (covers_at i) ∙ free_plain (frame_state_at m.frame_states i))
    where
      the_same : (i j : ℕ) → 0 + i ≡ j → i ≡ j
      the_same i j e = omega arith

  pub is_shown : IsShown whole (shown_of t m cpus)
  is_shown = record {
    areas = subst (λ (free : List Bool). AreMaximalBlocks free m.blocks) (sym free_is) is.areas;
    lists = list_is;
    keeper = λ f. keeper_is f (frame_state_at m.frame_states f) (whole.phases f) refl (covers_at f);
    groups = sym is.shown.groups ∙ ap (λ (s : State). s.groups) shows.left;
    stocks = stock_is;
    current = λ g known. current_is t run m cpus shows is charges g;
  }

pub the_whole_is_promised : TheWholeIsPromised
the_whole_is_promised t run m cpus shows is charges =
    the_promise_is_kept (zone_of_boot t) run (shown_of t m cpus) shows.legal shows.free (is_shown t run m cpus shows is charges)
