-- The clean pages on the lists of each group. Serves each call that changes a list, a unit's dirt or a record.
use Rattle.std.proofs.Common.{◌≡◌, ◌≢◌, ℕ, zero, suc, ◌+◌, ◌-◌, ◌*◌, ◌^◌, ◌<◌, ◌≤◌, ◌==◌, ◌⊎◌, Bool, true, false, Option, Some, None, List, length, get_or, replicate, cond, refl, sym, ap, ◌∙◌, subst, arith, inl, inr, eq-eqb}
use Rattle.std.specs.Prelude.{slice_set, IfSome}
use Rattle.std.proofs.Math.Pow.{pow_mono}
use Rattle.std.proofs.lemmas.Bool.{cases_eq, ne_eqb, cond-true, cond-false}
use Rattle.std.proofs.lemmas.Option.{none-some}
use Rattle.std.proofs.lemmas.Nat.{pow_pos}
use Rattle.std.proofs.lemmas.List.{get_or-set_same, get_or-set_other, length-replicate, length-set}
use Rattle.group_tree.specs.Groups.{room_of}
use Rattle.lru_lists.specs.declared.record.Link.{Link}
use Rattle.lru_lists.specs.declared.record.Home.{Home}
use Rattle.lru_lists.specs.{link_at, nowhere, owner_of, AreNowhere, SameOwners, SameUse}
use Rattle.step_rules.specs.declared.phase.ChargedUnit.{ChargedUnit}
use Rattle.step_rules.specs.{is_within}
use Rattle.step_rules.specs.State.{sum_to, with_at}
use Rattle.step_rules.proofs.Basics.{at_same, at_other}
use Rattle.step_rules.proofs.Placing.{within_cases}
use Rattle.step_rules.proofs.Sums.{sum_change, sum_none, sum_part, sum_same}
use Rattle.mem_machine.proofs.First.{repeated}
use Rattle.mem_machine.specs.declared.frame_state.FrameState.{FrameState}
use Rattle.mem_machine.specs.declared.frame_state.FrameState.TheVariants.{Free, Lent, Head, Tail}
use Rattle.boot_words.specs.Tables.{KnownTable}
use Rattle.zone_blocks.specs.declared.block.Block.{Block}
use Rattle.lru_lists.specs.declared.lru.Lru.{Lru}
use Rattle.mem_machine.specs.{KnownMachine, IsConsistent, JoinsList, LeavesList, PlacesUnit, group_lists, lists_of}
use Rattle.mem_machine.specs.{AreCleanCounts, AreUnits, FitsFrameState, FreesFrames, clean_dirtied, clean_joined, clean_left, clean_owner, clean_pages_in, frame_state_at, head_group_of, home_of, pages_headed, pages_if_is}

-- what a frame counts for a group
abbrev counted : List FrameState → List Link → (group frame : ℕ) → ℕ
counted states links g f = pages_if_is g (clean_owner (link_at links f)) (pages_headed (frame_state_at states f))

-- ---- what one frame counts

no_owner : (d : Bool) (o : Option ℕ) → o ≡ None → cond d None o ≡ None
no_owner true o none = refl
no_owner false o none = none

away_owner : (h : Option Home) → h ≡ None → owner_of h ≡ None
away_owner h none = ap owner_of none

-- a frame on no list counts for no group
pub away_counts : (states : List FrameState) (links : List Link) (g f : ℕ) → home_of links f ≡ None → counted states links g f ≡ 0
away_counts states links g f none =
    ap (λ (o : Option ℕ). pages_if_is g o (pages_headed (frame_state_at states f)))
    (no_owner (link_at links f).is_dirty (owner_of (link_at links f).home) (away_owner (link_at links f).home none))

own_pages : (g : ℕ) (o : ℕ) (p : ℕ) → g ≡ o → pages_if_is g (Some o) p ≡ p
own_pages g o p e = cond-true (o == g) p 0 (eq-eqb o g (sym e))

other_pages : (g : ℕ) (o : ℕ) (p : ℕ) → (g ≡ o → ⊥) → pages_if_is g (Some o) p ≡ 0
other_pages g o p ne = cond-false (o == g) p 0 (ne_eqb o g (λ e. ne (sym e)))

few_pages : (g : ℕ) (o : Option ℕ) (p : ℕ) → pages_if_is g o p ≤ p
few_pages g None p = omega arith
few_pages g (Some o) p = at_most (o == g)
  where
    at_most : (b : Bool) → cond b p 0 ≤ p
    at_most true = omega arith
    at_most false = omega arith

few_headed : (states : List FrameState) → AreUnits states → (f : ℕ) (s : FrameState) → frame_state_at states f ≡ s → pages_headed s ≤ 1024
few_headed states units f Free is = omega arith
few_headed states units f (Lent p) is = omega arith
few_headed states units f (Head unit) is = pow_mono {i = unit.order} {j = 10} (units.heads f unit is).block.order
few_headed states units f (Tail g) is = omega arith

sum_few : (n k : ℕ) (h : ℕ → ℕ) → ((i : ℕ) → h i ≤ k) → sum_to n h ≤ n * k
unfolding sum_to
sum_few zero k h each = omega arith
sum_few (suc n) k h each = let rest = sum_few n k h each in let one = each n in omega (arith, rest, one)

-- a group has at most 1,024 clean pages for each frame
pub clean_few : (states : List FrameState) (links : List Link) → AreUnits states → (g : ℕ) → clean_pages_in states links g ≤ length states * 1024
clean_few states links units g = sum_few (length states) 1024 (counted states links g) each
  where
    each : (f : ℕ) → counted states links g f ≤ 1024
    each f =
        let a = few_pages g (clean_owner (link_at links f)) (pages_headed (frame_state_at states f)) in
        let b = few_headed states units f (frame_state_at states f) refl in
        omega (arith, a, b)

-- ---- the counts

pub clean_first : (states : List FrameState) (links : List Link) → AreNowhere links → (marks : List Bool) (room : ℕ) → marks ≡ replicate room false
    → (counts : List ℕ) → counts ≡ replicate room 0 → AreCleanCounts (length marks) states links counts
clean_first states links none marks room unmarked counts zeros = record {
  size = ap length zeros ∙ length-replicate {A = ℕ} room 0 ∙ sym (ap length unmarked ∙ length-replicate room false);
  each = λ g. ap (λ (l : List ℕ). get_or l g 0) zeros ∙ repeated room g 0 ∙ sym (sum_none (length states) (counted states links g)
      (λ f inside. away_counts states links g f (ap (λ (l : Link). l.home) (none f))));
}

-- each frame counts as before
same_counts : {room : ℕ} (before after : List FrameState) (links now : List Link) (counts : List ℕ) → length after ≡ length before
    → ((g f : ℕ) → f < length before → counted after now g f ≡ counted before links g f) → AreCleanCounts room before links counts
    → AreCleanCounts room after now counts
same_counts before after links now counts size same are = record {
  size = are.size;
  each = λ g. are.each g ∙ sym (ap (λ (n : ℕ). sum_to n (counted after now g)) size
      ∙ sum_same (length before) (counted after now g) (counted before links g) (same g));
}

-- only records of frames on no list change
pub clean_states : {room : ℕ} (before after : List FrameState) (links : List Link) (counts : List ℕ) → length after ≡ length before
    → ((f : ℕ) → f < length before → (frame_state_at after f ≡ frame_state_at before f) ⊎ (home_of links f ≡ None))
    → AreCleanCounts room before links counts → AreCleanCounts room after links counts
clean_states before after links counts size each are = same_counts before after links links counts size same are
  where
    same : (g f : ℕ) → f < length before → counted after links g f ≡ counted before links g f
    same g f inside = elim (each f inside) [
      | inl e ↦ ap (λ (s : FrameState). pages_if_is g (clean_owner (link_at links f)) (pages_headed s)) e
      | inr none ↦ away_counts after links g f none ∙ sym (away_counts before links g f none)
    ]

-- each frame is on a list of the same owner, and as dirty
pub clean_owners : {room : ℕ} (states : List FrameState) (before after : List Link) (counts : List ℕ) → SameOwners before after
    → AreCleanCounts room states before counts → AreCleanCounts room states after counts
clean_owners states before after counts owners are = same_counts states states before after counts refl
    (λ g f inside. λ i. pages_if_is g (cond (owners.dirty f i) None (owners.owner f i)) (pages_headed (frame_state_at states f))) are

-- ---- one unit changes

module _ (states : List FrameState) (before after : List Link) (f : ℕ) (unit : ChargedUnit) (used : SameUse before after f) (inside : f < length states)
    (heads : frame_state_at states f ≡ Head unit) (was now : Option ℕ) (was_is : clean_owner (link_at before f) ≡ was) (now_is : clean_owner (link_at after f) ≡ now) where
  changed : (g i : ℕ) → i < length states → counted states after g i ≡ with_at (counted states before g) f (counted states after g f) i
  changed g i below = elim (cases_eq i f) [
    | inl e ↦ ap (counted states after g) e ∙ sym (ap (with_at (counted states before g) f (counted states after g f)) e ∙ at_same (counted states before g) f (counted states after g f))
    | inr ne ↦
        (λ k. pages_if_is g (cond (used.dirty i ne k) None (owner_of (used.home i ne k))) (pages_headed (frame_state_at states i)))
        ∙ sym (at_other (counted states before g) f (counted states after g f) i ne)
  ]

  pub clean_then : (g : ℕ) → clean_pages_in states after g + pages_if_is g was (2 ^ unit.order) ≡ clean_pages_in states before g + pages_if_is g now (2 ^ unit.order)
  clean_then g =
      let a = sum_same (length states) (counted states after g) (with_at (counted states before g) f (counted states after g f)) (changed g) in
      let b = sum_change (length states) (counted states before g) f (counted states after g f) inside in
      let c : counted states before g f ≡ pages_if_is g was (2 ^ unit.order) = λ k. pages_if_is g (was_is k) (pages_headed (heads k)) in
      let d : counted states after g f ≡ pages_if_is g now (2 ^ unit.order) = λ k. pages_if_is g (now_is k) (pages_headed (heads k)) in
      omega (arith, a, b, c, d)

-- a clean unit is in the count of its group
pub clean_has : {room : ℕ} (states : List FrameState) (links : List Link) (f : ℕ) (unit : ChargedUnit) → f < length states → frame_state_at states f ≡ Head unit
    → (counts : List ℕ) → AreCleanCounts room states links counts → clean_owner (link_at links f) ≡ Some unit.group
    → 2 ^ unit.order ≤ get_or counts unit.group 0
clean_has states links f unit inside heads counts are was =
    let a = sum_part (length states) (counted states links unit.group) f inside in
    let b : counted states links unit.group f ≡ pages_if_is unit.group (Some unit.group) (2 ^ unit.order) = λ k. pages_if_is unit.group (was k) (pages_headed (heads k)) in
    let c = own_pages unit.group unit.group (2 ^ unit.order) refl in
    let d = are.each unit.group in
    omega (arith, a, b, c, d)

-- a unit joined or left, or became clean or dirty
module _ {room : ℕ} (states : List FrameState) (before after : List Link) (f : ℕ) (unit : ChargedUnit) (used : SameUse before after f) (inside : f < length states)
    (heads : frame_state_at states f ≡ Head unit) (counts : List ℕ) (are : AreCleanCounts room states before counts) (low : unit.group < room) where
  pub clean_more : clean_owner (link_at before f) ≡ None → clean_owner (link_at after f) ≡ Some unit.group → AreCleanCounts room states after (clean_joined unit.group unit.order counts)
  clean_more was now = record {
    size = length-set counts unit.group (get_or counts unit.group 0 + 2 ^ unit.order) ∙ are.size;
    each = λ g. elim (cases_eq g unit.group) [
      | inl e ↦
          let a = clean_then states before after f unit used inside heads None (Some unit.group) was now unit.group in
          let b = own_pages unit.group unit.group (2 ^ unit.order) refl in
          let c = are.each unit.group in
          let d = get_or-set_same counts unit.group (get_or counts unit.group 0 + 2 ^ unit.order) 0 (let s = are.size in omega (arith, s, low)) in
          subst (λ (k : ℕ). get_or (clean_joined unit.group unit.order counts) k 0 ≡ clean_pages_in states after k) (sym e) (omega (arith, a, b, c, d))
      | inr ne ↦
          let a = clean_then states before after f unit used inside heads None (Some unit.group) was now g in
          let b = other_pages g unit.group (2 ^ unit.order) ne in
          let c = are.each g in
          let d = get_or-set_other counts unit.group g (get_or counts unit.group 0 + 2 ^ unit.order) 0 ne in
          omega (arith, a, b, c, d)
    ];
  }

  pub clean_fewer : clean_owner (link_at before f) ≡ Some unit.group → clean_owner (link_at after f) ≡ None → AreCleanCounts room states after (clean_left false unit.group unit.order counts)
  clean_fewer was now = record {
    size = length-set counts unit.group (get_or counts unit.group 0 - 2 ^ unit.order) ∙ are.size;
    each = λ g. elim (cases_eq g unit.group) [
      | inl e ↦
          let a = clean_then states before after f unit used inside heads (Some unit.group) None was now unit.group in
          let b = own_pages unit.group unit.group (2 ^ unit.order) refl in
          let c = are.each unit.group in
          let d = get_or-set_same counts unit.group (get_or counts unit.group 0 - 2 ^ unit.order) 0 (let s = are.size in omega (arith, s, low)) in
          let has = clean_has states before f unit inside heads counts are was in
          subst (λ (k : ℕ). get_or (clean_left false unit.group unit.order counts) k 0 ≡ clean_pages_in states after k) (sym e) (omega (arith, a, b, c, d, has))
      | inr ne ↦
          let a = clean_then states before after f unit used inside heads (Some unit.group) None was now g in
          let b = other_pages g unit.group (2 ^ unit.order) ne in
          let c = are.each g in
          let d = get_or-set_other counts unit.group g (get_or counts unit.group 0 - 2 ^ unit.order) 0 ne in
          omega (arith, a, b, c, d)
    ];
  }

  pub clean_same : clean_owner (link_at after f) ≡ clean_owner (link_at before f) → AreCleanCounts room states after counts
  clean_same same = record {
    size = are.size;
    each = λ g.
        let a = clean_then states before after f unit used inside heads (clean_owner (link_at before f)) (clean_owner (link_at before f)) refl same g in
        let c = are.each g in
        omega (arith, a, c);
  }

-- ---- dirt decides

pub dirty_owner : (d : Bool) (o : Option ℕ) → d ≡ true → cond d None o ≡ None
dirty_owner d o is = ap (λ (b : Bool). cond b None o) is

pub clean_owner_is : (d : Bool) (o : Option ℕ) (g : ℕ) → d ≡ false → o ≡ Some g → cond d None o ≡ Some g
clean_owner_is d o g is owner = ap (λ (b : Bool). cond b None o) is ∙ owner

pub away_clean : (links : List Link) (f : ℕ) → home_of links f ≡ None → clean_owner (link_at links f) ≡ None
away_clean links f none = no_owner (link_at links f).is_dirty (owner_of (link_at links f).home) (away_owner (link_at links f).home none)

-- the group of a unit on a list is the owner of the list
pub listed_owner : (room : ℕ) (h : Option Home) (s : FrameState) (unit : ChargedUnit) → h ≢ None → FitsFrameState room h s → s ≡ Head unit → (unit.group < room) × (owner_of h ≡ Some unit.group)
listed_owner room None s unit kept fits heads = absurd (kept refl)
listed_owner room (Some home) s unit kept fits heads =
    let same : Some unit.group ≡ Some home.owner = ap head_group_of (sym heads) ∙ fits.1 in
    (subst (λ (o : Option ℕ). IfSome o (λ g. g < room)) (sym same) fits.0, sym same)

-- a unit left its list
pub clean_gone : {room : ℕ} (states : List FrameState) (before after : List Link) (f : ℕ) (unit : ChargedUnit) → SameUse before after f → f < length states
    → frame_state_at states f ≡ Head unit → (counts : List ℕ) → AreCleanCounts room states before counts → home_of before f ≢ None
    → FitsFrameState room (home_of before f) (frame_state_at states f) → link_at after f ≡ nowhere → (d : Bool) → (link_at before f).is_dirty ≡ d
    → AreCleanCounts room states after (clean_left d unit.group unit.order counts)
clean_gone {room} states before after f unit used inside heads counts are kept fits gone true dirty =
    let owner = listed_owner room (home_of before f) (frame_state_at states f) unit kept fits heads in
    clean_same states before after f unit used inside heads counts are owner.0
    (ap clean_owner gone ∙ sym (dirty_owner (link_at before f).is_dirty (owner_of (home_of before f)) dirty))
clean_gone {room} states before after f unit used inside heads counts are kept fits gone false dirty =
    let owner = listed_owner room (home_of before f) (frame_state_at states f) unit kept fits heads in
    clean_fewer states before after f unit used inside heads counts are owner.0
    (clean_owner_is (link_at before f).is_dirty (owner_of (home_of before f)) unit.group dirty owner.1) (ap clean_owner gone)

-- a clean unit is counted before it leaves
pub clean_there : {room : ℕ} (states : List FrameState) (links : List Link) (f : ℕ) (unit : ChargedUnit) → f < length states → frame_state_at states f ≡ Head unit
    → (counts : List ℕ) → AreCleanCounts room states links counts → home_of links f ≢ None → FitsFrameState room (home_of links f) (frame_state_at states f)
    → (link_at links f).is_dirty ≡ false → 2 ^ unit.order ≤ get_or counts unit.group 0
clean_there {room} states links f unit inside heads counts are kept fits dirty =
    let owner = listed_owner room (home_of links f) (frame_state_at states f) unit kept fits heads in
    clean_has states links f unit inside heads counts are
    (clean_owner_is (link_at links f).is_dirty (owner_of (home_of links f)) unit.group dirty owner.1)

-- a unit joined its list
pub clean_kept : {room : ℕ} (states : List FrameState) (before after : List Link) (f : ℕ) (unit : ChargedUnit) → SameUse before after f → f < length states
    → frame_state_at states f ≡ Head unit → (counts : List ℕ) → AreCleanCounts room states before counts → unit.group < room → home_of before f ≡ None
    → owner_of (home_of after f) ≡ Some unit.group → (link_at after f).is_dirty ≡ false
    → AreCleanCounts room states after (clean_joined unit.group unit.order counts)
clean_kept states before after f unit used inside heads counts are low away owner clean =
    clean_more states before after f unit used inside heads counts are low (away_clean before f away)
    (clean_owner_is (link_at after f).is_dirty (owner_of (home_of after f)) unit.group clean owner)

-- a unit on a list is dirty or clean
pub clean_marked : {room : ℕ} (states : List FrameState) (before after : List Link) (f : ℕ) (unit : ChargedUnit) → SameUse before after f → f < length states
    → frame_state_at states f ≡ Head unit → (counts : List ℕ) → AreCleanCounts room states before counts → home_of before f ≢ None
    → FitsFrameState room (home_of before f) (frame_state_at states f) → home_of after f ≡ home_of before f
    → (was now : Bool) → (link_at before f).is_dirty ≡ was → (link_at after f).is_dirty ≡ now
    → AreCleanCounts room states after (clean_dirtied was now unit.group unit.order counts)
clean_marked {room} states before after f unit used inside heads counts are kept fits home was now was_is now_is = by was now was_is now_is
  where
    owner : (unit.group < room) × (owner_of (home_of before f) ≡ Some unit.group)
    owner = listed_owner room (home_of before f) (frame_state_at states f) unit kept fits heads

    same : (d : Bool) → (link_at before f).is_dirty ≡ d → (link_at after f).is_dirty ≡ d → clean_owner (link_at after f) ≡ clean_owner (link_at before f)
    same d a b = λ k. cond ((b ∙ sym a) k) None (owner_of (home k))

    by : (was now : Bool) → (link_at before f).is_dirty ≡ was → (link_at after f).is_dirty ≡ now → AreCleanCounts room states after (clean_dirtied was now unit.group unit.order counts)
    by true true a b = clean_same states before after f unit used inside heads counts are owner.0 (same true a b)
    by false false a b = clean_same states before after f unit used inside heads counts are owner.0 (same false a b)
    by false true a b = clean_fewer states before after f unit used inside heads counts are owner.0
        (clean_owner_is (link_at before f).is_dirty (owner_of (home_of before f)) unit.group a owner.1)
        (dirty_owner (link_at after f).is_dirty (owner_of (home_of after f)) b)
    by true false a b = clean_more states before after f unit used inside heads counts are owner.0
        (dirty_owner (link_at before f).is_dirty (owner_of (home_of before f)) a)
        (clean_owner_is (link_at after f).is_dirty (owner_of (home_of after f)) unit.group b (ap owner_of home ∙ owner.1))

-- ---- frames that are freed or lent were on no list

head_away : (room : ℕ) (h : Option Home) (s : FrameState) → FitsFrameState room h s → head_group_of s ≡ None → h ≡ None
head_away room None s fits none = refl
head_away room (Some home) s fits none = absurd (none-some home.owner (sym none ∙ fits.1))

-- of frames on no list afterwards, the record may have changed
pub clean_freed : {room : ℕ} (fit : ℕ) (before after : List FrameState) (links : List Link) (counts : List ℕ) (at count : ℕ) → FreesFrames at count before after
    → ((f : ℕ) → f < length after → FitsFrameState fit (home_of links f) (frame_state_at after f))
    → AreCleanCounts room before links counts → AreCleanCounts room after links counts
clean_freed fit before after links counts at count frees fits are = clean_states before after links counts frees.frames each are
  where
    decide : (f : ℕ) → f < length before → (b : Bool) → frame_state_at after f ≡ cond b Free (frame_state_at before f)
        → (frame_state_at after f ≡ frame_state_at before f) ⊎ (home_of links f ≡ None)
    decide f inside true is = inr (head_away fit (home_of links f) (frame_state_at after f) (fits f (let s = frees.frames in omega (arith, s, inside))) (ap head_group_of is))
    decide f inside false is = inl is

    each : (f : ℕ) → f < length before → (frame_state_at after f ≡ frame_state_at before f) ⊎ (home_of links f ≡ None)
    each f inside = decide f inside (is_within at count f) (frees.records f)

-- one record changes, of a frame that headed no unit
pub clean_set : {room : ℕ} (states : List FrameState) (links : List Link) (counts : List ℕ) (f : ℕ) (s : FrameState) → home_of links f ≡ None
    → AreCleanCounts room states links counts → AreCleanCounts room (slice_set states f s) links counts
clean_set states links counts f s away are = clean_states states (slice_set states f s) links counts (length-set states f s)
    (λ i inside. elim (cases_eq i f) [
      | inl e ↦ inr (ap (home_of links) e ∙ away)
      | inr ne ↦ inl (get_or-set_other states f i s Free ne)
    ]) are

-- ---- of a consistent machine

pub fits_here : (t : KnownTable) (m : KnownMachine) → IsConsistent t m → (f : ℕ) → f < length m.frame_states
    → FitsFrameState (room_of m.ledger.groups) (home_of m.links f) (frame_state_at m.frame_states f)
fits_here t m ok f inside = ok.frame_states f (let s = ok.sizes.frame_states in omega (arith, s, inside))

-- there are as many counts as marks
fits_counted : (t : KnownTable) (m : KnownMachine) → IsConsistent t m → (f : ℕ) → f < t.frames → FitsFrameState (length m.killed) (home_of m.links f) (frame_state_at m.frame_states f)
fits_counted t m ok f inside = subst (λ (room : ℕ). FitsFrameState room (home_of m.links f) (frame_state_at m.frame_states f)) (sym ok.sizes.killed) (ok.frame_states f inside)

-- no count is above 1,024 pages for each frame
pub clean_room : {room : ℕ} (t : KnownTable) (m : KnownMachine) → IsConsistent t m → (counts : List ℕ) → AreCleanCounts room m.frame_states m.links counts
    → (g : ℕ) → get_or counts g 0 ≤ length m.links * 1024
clean_room t m ok counts are g =
    let a = are.each g in
    let b = clean_few m.frame_states m.links ok.units g in
    let c = ok.sizes.frame_states in
    let d = ok.sizes.links in
    omega (arith, a, b, c, d)

-- frames of a unit were freed
pub clean_after_free : {room : ℕ} (t : KnownTable) (n : KnownMachine) → IsConsistent t n → (before : List FrameState) (counts : List ℕ) (at count : ℕ)
    → FreesFrames at count before n.frame_states → AreCleanCounts room before n.links counts → AreCleanCounts room n.frame_states n.links counts
clean_after_free t n ok before counts at count frees are = clean_freed (room_of n.ledger.groups) before n.frame_states n.links counts at count frees (fits_here t n ok) are

-- one frame was lent, or came back: its record heads no unit
pub clean_after_set : {room : ℕ} (t : KnownTable) (n : KnownMachine) → IsConsistent t n → (before : List FrameState) (counts : List ℕ) (f : ℕ) (s : FrameState)
    → n.frame_states ≡ slice_set before f s → head_group_of s ≡ None → AreCleanCounts room before n.links counts → AreCleanCounts room n.frame_states n.links counts
clean_after_set t n ok before counts f s set none are = clean_states before n.frame_states n.links counts size each are
  where
    size : length n.frame_states ≡ length before
    size = ap length set ∙ length-set before f s

    each : (i : ℕ) → i < length before → (frame_state_at n.frame_states i ≡ frame_state_at before i) ⊎ (home_of n.links i ≡ None)
    each i inside = elim (cases_eq i f) [
      | inl e ↦
          let at : frame_state_at n.frame_states i ≡ s = ap (λ (l : List FrameState). frame_state_at l i) set ∙ ap (λ (k : ℕ). frame_state_at (slice_set before f s) k) e
          ∙ get_or-set_same before f s Free (subst (λ (k : ℕ). k < length before) e inside) in
          inr (head_away (room_of n.ledger.groups) (home_of n.links i) (frame_state_at n.frame_states i) (fits_here t n ok i (omega (arith, size, inside))) (ap head_group_of at ∙ none))
      | inr ne ↦ inl (ap (λ (l : List FrameState). frame_state_at l i) set ∙ get_or-set_other before f i s Free ne)
    ]

-- a unit left its list, as the calls see it
pub clean_left_here : (t : KnownTable) (m now : KnownMachine) → m ≡ now → IsConsistent t m → (f i : ℕ) → f < t.frames → i ≡ f → home_of now.links f ≢ None
    → (unit : ChargedUnit) → frame_state_at m.frame_states i ≡ Head unit → (counts : List ℕ) → AreCleanCounts (length m.killed) m.frame_states m.links counts
    → (links : List Link) (lists : List Lru) → LeavesList i (lists_of m) (group_lists links lists)
    → AreCleanCounts (length m.killed) m.frame_states links (clean_left (link_at m.links i).is_dirty unit.group unit.order counts)
clean_left_here t m now same ok f i inside is kept unit heads counts are links lists leaves =
    let here = subst (λ (k : ℕ). LeavesList k (lists_of m) (group_lists links lists)) is leaves in
    let s = ok.sizes.frame_states in
    subst (λ (k : ℕ). AreCleanCounts (length m.killed) m.frame_states links (clean_left (link_at m.links k).is_dirty unit.group unit.order counts)) (sym is)
    (clean_gone m.frame_states m.links links f unit here.used (omega (arith, s, inside)) (subst (λ (k : ℕ). frame_state_at m.frame_states k ≡ Head unit) is heads) counts are
    (subst (λ (x : KnownMachine). home_of x.links f ≢ None) (sym same) kept) (fits_counted t m ok f inside) here.forgotten (link_at m.links f).is_dirty refl)

-- a clean unit is counted, as the calls see it
pub clean_there_here : (t : KnownTable) (m now : KnownMachine) → m ≡ now → IsConsistent t m → (f i : ℕ) → f < t.frames → i ≡ f → home_of now.links f ≢ None
    → (unit : ChargedUnit) → frame_state_at m.frame_states i ≡ Head unit → (counts : List ℕ) → AreCleanCounts (length m.killed) m.frame_states m.links counts
    → (link_at m.links i).is_dirty ≡ false → 2 ^ unit.order ≤ get_or counts unit.group 0
clean_there_here t m now same ok f i inside is kept unit heads counts are clean =
    let s = ok.sizes.frame_states in
    clean_there m.frame_states m.links f unit (omega (arith, s, inside)) (subst (λ (k : ℕ). frame_state_at m.frame_states k ≡ Head unit) is heads) counts are
    (subst (λ (x : KnownMachine). home_of x.links f ≢ None) (sym same) kept) (fits_counted t m ok f inside)
    (subst (λ (k : ℕ). (link_at m.links k).is_dirty ≡ false) is clean)

-- a frame became a unit of its own, and joined its group's list
pub clean_kept_here : {room : ℕ} (states : List FrameState) (links after : List Link) (f : ℕ) (unit : ChargedUnit) (counts : List ℕ) → f < length states
    → SameUse links after f → (link_at after f).is_dirty ≡ false → home_of links f ≡ None → owner_of (home_of after f) ≡ Some unit.group → unit.group < room
    → AreCleanCounts room states links counts → AreCleanCounts room (slice_set states f (Head unit)) after (clean_joined unit.group unit.order counts)
clean_kept_here states links after f unit counts inside used clean away owner low are =
    clean_kept (slice_set states f (Head unit)) links after f unit used (let s = length-set states f (Head unit) in omega (arith, s, inside))
    (get_or-set_same states f (Head unit) Free inside) counts (clean_set states links counts f (Head unit) away are) low away owner clean

-- a block became a unit, and joined its group's list
pub clean_placed : {room : ℕ} (t : KnownTable) (n : KnownMachine) → IsConsistent t n → (states : List FrameState) (links : List Link) (lists : List Lru) (group : ℕ) (block : Block)
    (counts : List ℕ) → block.at < length states → PlacesUnit group block states n.frame_states → JoinsList group block.at (group_lists links lists) (lists_of n)
    → SameUse links n.links block.at → (link_at n.links block.at).is_dirty ≡ false → home_of links block.at ≡ None → group < room
    → AreCleanCounts room states links counts → AreCleanCounts room n.frame_states n.links (clean_joined group block.order counts)
clean_placed t n ok states links lists group block counts inside places joins used clean away low are =
    clean_kept n.frame_states links n.links block.at (record { group = group; order = block.order }) used (let s = places.frames in omega (arith, s, inside))
    heads counts (clean_states states n.frame_states links counts places.frames each are) low away (ap owner_of joins.home) clean
  where
    first : (b c : Bool) → b ≡ true → c ≡ true → (x y z : FrameState) → cond b (cond c x y) z ≡ x
    first b c e d x y z = ap (λ (k : Bool). cond k (cond c x y) z) e ∙ ap (λ (k : Bool). cond k x y) d

    within : is_within block.at (2 ^ block.order) block.at ≡ true
    within = let some = pow_pos block.order in elim (within_cases block.at (2 ^ block.order) block.at) [ inl w ↦ w.0 | inr o ↦ absurd (o.1 (omega arith) (omega arith)) ]

    heads : frame_state_at n.frame_states block.at ≡ Head (record { group = group; order = block.order })
    heads = places.records block.at ∙ first (is_within block.at (2 ^ block.order) block.at) (block.at == block.at) within (eq-eqb block.at block.at refl) _ _ _

    decide : (i : ℕ) → i < length states → (i ≡ block.at → ⊥) → (b : Bool)
        → frame_state_at n.frame_states i ≡ cond b (cond (i == block.at) (Head (record { group = group; order = block.order })) (Tail group)) (frame_state_at states i)
        → (frame_state_at n.frame_states i ≡ frame_state_at states i) ⊎ (home_of links i ≡ None)
    decide i here ne false is = inl is
    decide i here ne true is =
        let tail : frame_state_at n.frame_states i ≡ Tail group = is ∙ cond-false (i == block.at) _ _ (ne_eqb i block.at ne) in
        inr (sym (joins.homes i ne) ∙ head_away (room_of n.ledger.groups) (home_of n.links i) (frame_state_at n.frame_states i) (fits_here t n ok i (let s = places.frames in omega (arith, s, here))) (ap head_group_of tail))

    each : (i : ℕ) → i < length states → (frame_state_at n.frame_states i ≡ frame_state_at states i) ⊎ (home_of links i ≡ None)
    each i here = elim (cases_eq i block.at) [
      | inl e ↦ inr (ap (home_of links) e ∙ away)
      | inr ne ↦ decide i here ne (is_within block.at (2 ^ block.order) i) (places.records i)
    ]

-- a unit is dirty or clean, as the calls see it
pub clean_marked_here : (t : KnownTable) (m now : KnownMachine) → m ≡ now → IsConsistent t m → (f i : ℕ) → f < t.frames → i ≡ f → home_of now.links f ≢ None
    → (unit : ChargedUnit) → frame_state_at m.frame_states i ≡ Head unit → (counts : List ℕ) → AreCleanCounts (length m.killed) m.frame_states m.links counts
    → (links : List Link) → SameUse m.links links i → home_of links i ≡ home_of m.links i → (was is : Bool) → was ≡ (link_at m.links i).is_dirty
    → (link_at links i).is_dirty ≡ is → AreCleanCounts (length m.killed) m.frame_states links (clean_dirtied was is unit.group unit.order counts)
clean_marked_here t m now same ok f i inside at kept unit heads counts are links used home was is was_is is_is =
    let s = ok.sizes.frame_states in
    let kept_m : home_of m.links f ≢ None = subst (λ (x : KnownMachine). home_of x.links f ≢ None) (sym same) kept in
    clean_marked m.frame_states m.links links i unit used (omega (arith, s, inside, at)) heads counts are (subst (λ (k : ℕ). home_of m.links k ≢ None) (sym at) kept_m)
    (subst (λ (k : ℕ). FitsFrameState (length m.killed) (home_of m.links k) (frame_state_at m.frame_states k)) (sym at) (fits_counted t m ok f inside)) home was is (sym was_is) is_is

-- there is room for the group of a kept unit, as the calls see it
pub listed_group : (t : KnownTable) (m now : KnownMachine) → m ≡ now → IsConsistent t m → (f i : ℕ) → f < t.frames → i ≡ f → home_of now.links f ≢ None
    → (unit : ChargedUnit) → frame_state_at m.frame_states i ≡ Head unit → unit.group < length m.killed
listed_group t m now same ok f i inside at kept unit heads =
    (listed_owner (length m.killed) (home_of m.links f) (frame_state_at m.frame_states f) unit (subst (λ (x : KnownMachine). home_of x.links f ≢ None) (sym same) kept) (fits_counted t m ok f inside)
    (subst (λ (k : ℕ). frame_state_at m.frame_states k ≡ Head unit) at heads)).0
