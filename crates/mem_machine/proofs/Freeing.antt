-- A unit is freed: its frames are free, and its pages are uncharged from its group. Serves `free_unit` and all its
-- callers.
use Rattle.std.proofs.Common.{◌≡◌, ℕ, ◌+◌, ◌-◌, ◌^◌, ◌<◌, ◌≤◌, ◌==◌, Bool, true, false, Option, Some, None, List, length, get_or, cond}
use Rattle.std.proofs.Common.{zero, suc, refl, sym, ap, ◌∙◌, subst, arith, inl, inr, eq-eqb}
use Rattle.std.specs.Prelude.{slice_set, min}
use Rattle.std.specs.Cmp.{both_ways}
use Rattle.std.proofs.lemmas.Bool.{cases_eq, cases_lt, ne_eqb, cond-true, cond-false, false≢true}
use Rattle.std.proofs.lemmas.Option.{none-some}
use Rattle.std.proofs.lemmas.Nat.{pow_pos}
use Rattle.std.proofs.lemmas.List.{get_or-set_same, get_or-set_other, length-set, ext_get_or}
use Rattle.zone_blocks.specs.{IsBlock, GivesFrames, IsInUse}
use Rattle.group_charge.specs.Charges.{pages_of, with_uncharge}
use Rattle.group_charge.proofs.CallerLemmas.{uncharge_pages}
use Rattle.lru_lists.specs.declared.record.Link.{Link}
use Rattle.lru_lists.specs.declared.record.Home.{Home}
use Rattle.step_rules.specs.declared.phase.ChargedUnit.{ChargedUnit}
use Rattle.step_rules.specs.declared.phase.Phase.{Phase}
use Rattle.step_rules.specs.declared.phase.Phase.TheVariants as phase
use Rattle.step_rules.specs.{unit_of, one_if, is_within, unit_size, without_unit}
use Rattle.step_rules.specs.State.{sum_to}
use Rattle.step_rules.proofs.Sums.{sum_same, sum_both, sum_none}
use Rattle.step_rules.proofs.Placing.{within_cases}
use Rattle.boot_words.specs.Tables.{KnownTable}
use Rattle.mem_machine.specs.declared.frame_state.FrameState.{FrameState}
use Rattle.mem_machine.specs.declared.frame_state.FrameState.TheVariants.{Free, Head, Tail}
use Rattle.boot_words.specs.Hidden.{hide_phase}
use Rattle.mem_machine.specs.{frame_state_at, is_free_state, free_of, frame_state_group, head_group_of, one_if_is, phase_hidden, AreUnits, IsUnitAt}
use Rattle.group_tree.specs.Groups.{room_of}
use Rattle.mem_machine.specs.{KnownMachine, FitsFrameState, IsConsistent, home_of, frames_charged, FreesFrames}
use Rattle.mem_machine.proofs.Records.{free_at, length_free}

-- ---- frames that are noted as free, one after the other

-- a frame lies within
pub is_in : (at n f : ℕ) → at ≤ f → f < at + n → is_within at n f ≡ true
is_in at n f from below = elim (within_cases at n f) [ inl w ↦ w.0 | inr out ↦ absurd (out.1 from below) ]

-- or without
pub is_out : (at n f : ℕ) → (at ≤ f → f < at + n → ⊥) → is_within at n f ≡ false
is_out at n f not = elim (within_cases at n f) [ inl w ↦ absurd (not w.1 w.2) | inr out ↦ out.0 ]

pub frees_none : (frame_states : List FrameState) (at : ℕ) → FreesFrames at 0 frame_states frame_states
frees_none frame_states at = record {
  frames = refl;
  records = λ f. sym (ap (λ (b : Bool). cond b Free (frame_state_at frame_states f)) (is_out at 0 f (λ a b. absurd (omega (arith, a, b)))));
}

pub frees_more : (frame_states now : List FrameState) (at n : ℕ) → at + n < length frame_states → FreesFrames at n frame_states now
    → FreesFrames at (n + 1) frame_states (slice_set now (at + n) Free)
frees_more frame_states now at n below so_far =
    let long = so_far.frames in
    let inside : at + n < length now = omega (arith, long, below) in
    record {
      frames = length-set now (at + n) Free ∙ so_far.frames;
      records = λ f. elim (cases_eq f (at + n)) [
        | inl e ↦
            let w : is_within at (n + 1) f ≡ true = is_in at (n + 1) f (omega (arith, e)) (omega (arith, e)) in
            ap (λ (k : ℕ). frame_state_at (slice_set now (at + n) Free) k) e ∙ get_or-set_same now (at + n) Free Free inside
            ∙ sym (ap (λ (b : Bool). cond b Free (frame_state_at frame_states f)) w)
        | inr ne ↦
            get_or-set_other now (at + n) f Free Free ne ∙ so_far.records f
            ∙ ap (λ (b : Bool). cond b Free (frame_state_at frame_states f)) (elim (within_cases at n f) [
              | inl w ↦ w.0 ∙ sym (is_in at (n + 1) f w.1 (let a = w.2 in omega (arith, a)))
              | inr out ↦ out.0 ∙ sym (is_out at (n + 1) f (λ a b. out.1 a (omega (arith, a, b, ne))))
            ])
      ];
    }

-- a unit has a frame
pub power_some : (k n : ℕ) → 2 ^ k ≤ n → 1 ≤ n
power_some k n is = let some = pow_pos k in omega (arith, some, is)

-- ---- which frames are free

pub free_block_given : (before after : List Bool) (frame_states new : List FrameState) (at k : ℕ) → at + 2 ^ k ≤ length frame_states → before ≡ free_of frame_states
    → GivesFrames before (record { at = at; order = k }) after → FreesFrames at (2 ^ k) frame_states new → after ≡ free_of new
free_block_given before after frame_states new at k inside was gives frees =
    let long : length after ≡ length frame_states = sym gives.same_length ∙ ap length was ∙ length_free frame_states in
    let sized : length after ≡ length (free_of new) = long ∙ sym frees.frames ∙ sym (length_free new) in
    ext_get_or false after (free_of new) sized (λ g within.
    let there : g < length frame_states = omega (arith, long, within) in
    let bound : g < length new = let e = frees.frames in omega (arith, e, there) in
    let now = free_at new g bound in
    elim (within_cases at (2 ^ k) g) [
      | inl w ↦
          gives.were_free g (record { from = w.1; before = w.2 })
          ∙ sym (now ∙ ap is_free_state (frees.records g) ∙ ap (λ (b : Bool). is_free_state (cond b Free (frame_state_at frame_states g))) w.0)
      | inr out ↦
          let old : get_or before g false ≡ is_free_state (frame_state_at frame_states g) = ap (λ (l : List Bool). get_or l g false) was ∙ free_at frame_states g there in
          let same : is_free_state (frame_state_at new g) ≡ is_free_state (frame_state_at frame_states g) =
          ap is_free_state (frees.records g) ∙ ap (λ (b : Bool). is_free_state (cond b Free (frame_state_at frame_states g))) out.0 in
          let o = gives.others g (λ h. out.1 h.from h.before) in
          both_ways _ _ (λ a. now ∙ same ∙ sym old ∙ o.1 a) (λ b. o.0 (old ∙ sym same ∙ sym now ∙ b))
    ])

-- the frames of a unit are in use
pub unit_in_use : (before : List Bool) (frame_states : List FrameState) (f : ℕ) (unit : ChargedUnit) → before ≡ free_of frame_states → AreUnits frame_states → frame_state_at frame_states f ≡ Head unit
    → IsInUse before (record { at = f; order = unit.order })
unit_in_use before frame_states f unit was units heads =
    let is = units.heads f unit heads in
    let long : length before ≡ length frame_states = ap length was ∙ length_free frame_states in
    let block = is.block in
    let room = block.inside in
    record {
      block = record { order = block.order; aligned = block.aligned; inside = omega (arith, long, room) };
      none_free = λ g covers free.
          let low = covers.from in let high = covers.before in
          let there : g < length frame_states = omega (arith, high, room) in
          let told : is_free_state (frame_state_at frame_states g) ≡ true = sym (free_at frame_states g there) ∙ sym (ap (λ (l : List Bool). get_or l g false) was) ∙ free in
          elim (cases_eq g f) [
            | inl e ↦ absurd (false≢true (sym (ap (λ (k : ℕ). is_free_state (frame_state_at frame_states k)) e ∙ ap is_free_state heads) ∙ told))
            | inr ne ↦ absurd (false≢true (sym (ap is_free_state (is.tails g (omega (arith, low, ne)) high)) ∙ told))
          ];
    }

-- ---- the sum over the frames of a unit

pub sum_within : (l at n : ℕ) → sum_to l (λ x. one_if (is_within at n x)) ≡ min (l - at) n
unfolding sum_to
sum_within zero at n = omega arith
sum_within (suc l) at n =
    let a = sum_within l at n in
    elim (within_cases at n l) [
      | inl w ↦ let one : one_if (is_within at n l) ≡ 1 = ap one_if w.0 in let low = w.1 in let high = w.2 in omega (arith, a, one, low, high)
      | inr out ↦
          let none : one_if (is_within at n l) ≡ 0 = ap one_if out.0 in
          elim (cases_lt l at) [
            | inl below ↦ omega (arith, a, none, below)
            | inr from ↦ elim (cases_lt l (at + n)) [
              | inl under ↦ absurd (out.1 from under)
              | inr over ↦ omega (arith, a, none, from, over)
            ]
          ]
    ]

module _ (frame_states new : List FrameState) (f : ℕ) (unit : ChargedUnit) (heads : frame_state_at frame_states f ≡ Head unit) (units : AreUnits frame_states)
    (frees : FreesFrames f (2 ^ unit.order) frame_states new) where
  abbrev n : ℕ
  n = 2 ^ unit.order

  mine : IsUnitAt frame_states f unit
  mine = units.heads f unit heads

  -- the frames of the unit are its group's
  group_in : (x : ℕ) → f ≤ x → x < f + n → frame_state_group (frame_state_at frame_states x) ≡ Some unit.group
  group_in x from below = elim (cases_eq x f) [
    | inl e ↦ ap (λ (k : ℕ). frame_state_group (frame_state_at frame_states k)) e ∙ ap frame_state_group heads
    | inr ne ↦ ap frame_state_group (mine.tails x (omega (arith, from, ne)) below)
  ]

  frame_state_in : (x : ℕ) → is_within f n x ≡ true → frame_state_at new x ≡ Free
  frame_state_in x w = frees.records x ∙ ap (λ (b : Bool). cond b Free (frame_state_at frame_states x)) w

  frame_state_out : (x : ℕ) → is_within f n x ≡ false → frame_state_at new x ≡ frame_state_at frame_states x
  frame_state_out x w = frees.records x ∙ ap (λ (b : Bool). cond b Free (frame_state_at frame_states x)) w

  -- a frame after another head isn't of the unit
  apart : (h x : ℕ) (u : ChargedUnit) → (h ≡ f → ⊥) → frame_state_at frame_states h ≡ Head u → h < x → x < h + 2 ^ u.order → is_within f n x ≡ false
  apart h x u ne is from below = is_out f n x (λ low high. elim (cases_lt h f) [
    | inl before ↦
        -- the head of the unit would be a tail of the other's
        let tail = (units.heads h u is).tails f before (omega (arith, low, below)) in
        absurd (none-some unit.group (ap head_group_of (sym tail ∙ heads)))
    | inr behind ↦
        -- the other's head would be a tail of the unit
        let tail = mine.tails h (omega (arith, behind, ne)) (omega (arith, from, high)) in
        absurd (none-some u.group (ap head_group_of (sym tail ∙ is)))
  ])

  pub units_freed : AreUnits new
  units_freed = record {
    heads = λ h u is. elim (within_cases f n h) [
      | inl w ↦ absurd (none-some u.group (ap head_group_of (sym (frame_state_in h w.0) ∙ is)))
      | inr out ↦
          let was : frame_state_at frame_states h ≡ Head u = sym (frame_state_out h out.0) ∙ is in
          let some = pow_pos unit.order in
          let ne : (h ≡ f → ⊥) = λ e. out.1 (omega (arith, e)) (omega (arith, e, some)) in
          let old = units.heads h u was in
          record {
            block = subst (λ (l : ℕ). IsBlock l (record { at = h; order = u.order })) (sym frees.frames) old.block;
            tails = λ x from below. frame_state_out x (apart h x u ne was from below) ∙ old.tails x from below;
          }
    ];
    tails = λ x g is. elim (within_cases f n x) [
      | inl w ↦ absurd (none-some g (ap frame_state_group (sym (frame_state_in x w.0) ∙ is)))
      | inr out ↦
          let old = units.tails x g (sym (frame_state_out x out.0) ∙ is) in
          let from = old.from in
          let below = old.before in
          elim (within_cases f n old.head) [
            | inl w ↦ elim (cases_eq old.head f) [
              | inl e ↦
                  let same : old.unit ≡ unit = ap told_unit (sym old.heads ∙ ap (frame_state_at frame_states) e ∙ heads) in
                  let size : 2 ^ old.unit.order ≡ n = ap (λ (u : ChargedUnit). 2 ^ u.order) same in
                  absurd (out.1 (omega (arith, e, from)) (omega (arith, e, below, size)))
              | inr ne ↦
                  let low = w.1 in
                  absurd (none-some old.unit.group (ap head_group_of (sym (mine.tails old.head (omega (arith, low, ne)) w.2) ∙ old.heads)))
            ]
            | inr else_ ↦ record {
              head = old.head;
              unit = old.unit;
              heads = frame_state_out old.head else_.0 ∙ old.heads;
              group = old.group;
              from = from;
              before = below;
            }
          ]
    ];
  }
    where
      told_unit : FrameState → ChargedUnit
      told_unit (Head u) = u
      told_unit x = unit

  -- the frames of the unit are charged to its group no more
  one_less : (g x : ℕ) → one_if_is g (frame_state_group (frame_state_at frame_states x))
      ≡ one_if_is g (frame_state_group (frame_state_at new x)) + cond (g == unit.group) (one_if (is_within f n x)) 0
  one_less g x = elim (within_cases f n x) [
    | inl w ↦
        let now : one_if_is g (frame_state_group (frame_state_at new x)) ≡ 0 = ap (λ (s : FrameState). one_if_is g (frame_state_group s)) (frame_state_in x w.0) in
        let one : one_if (is_within f n x) ≡ 1 = ap one_if w.0 in
        let was : one_if_is g (frame_state_group (frame_state_at frame_states x)) ≡ cond (unit.group == g) 1 0 = ap (one_if_is g) (group_in x w.1 w.2) in
        elim (cases_eq g unit.group) [
          | inl e ↦
              let a : ◌≡◌ {A = ℕ} (cond (unit.group == g) 1 0) 1 = cond-true (unit.group == g) 1 0 (eq-eqb unit.group g (sym e)) in
              let b : cond (g == unit.group) (one_if (is_within f n x)) 0 ≡ one_if (is_within f n x) =
              cond-true (g == unit.group) _ 0 (eq-eqb g unit.group e) in
              omega (arith, now, one, was, a, b)
          | inr ne ↦
              let a : ◌≡◌ {A = ℕ} (cond (unit.group == g) 1 0) 0 = cond-false (unit.group == g) 1 0 (ne_eqb unit.group g (λ e. ne (sym e))) in
              let b : cond (g == unit.group) (one_if (is_within f n x)) 0 ≡ 0 = cond-false (g == unit.group) _ 0 (ne_eqb g unit.group ne) in
              omega (arith, now, was, a, b)
        ]
    | inr out ↦
        let same : one_if_is g (frame_state_group (frame_state_at frame_states x)) ≡ one_if_is g (frame_state_group (frame_state_at new x)) =
        ap (λ (s : FrameState). one_if_is g (frame_state_group s)) (sym (frame_state_out x out.0)) in
        let none : one_if (is_within f n x) ≡ 0 = ap one_if out.0 in
        let zero_is : cond (g == unit.group) (one_if (is_within f n x)) 0 ≡ 0 =
        ap (λ (k : ℕ). cond (g == unit.group) k 0) none ∙ cond_zero (g == unit.group) in
        omega (arith, same, zero_is)
  ]
    where
      cond_zero : (b : Bool) → ◌≡◌ {A = ℕ} (cond b 0 0) 0
      cond_zero true = refl
      cond_zero false = refl

  sum_of : (g l : ℕ) → f + n ≤ l → sum_to l (λ x. cond (g == unit.group) (one_if (is_within f n x)) 0) ≡ cond (g == unit.group) n 0
  sum_of g l long = by_case (g == unit.group)
    where
      by_case : (b : Bool) → sum_to l (λ x. cond b (one_if (is_within f n x)) 0) ≡ cond b n 0
      by_case true = let a = sum_within l f n in omega (arith, a, long)
      by_case false = sum_none l (λ x. 0) (λ x below. refl)

  pub charges_freed : (g : ℕ) → frames_charged frame_states g ≡ frames_charged new g + cond (g == unit.group) n 0
  charges_freed g =
      let l = length frame_states in
      let a : frames_charged new g ≡ sum_to l (λ x. one_if_is g (frame_state_group (frame_state_at new x))) =
      ap (λ (k : ℕ). sum_to k (λ x. one_if_is g (frame_state_group (frame_state_at new x)))) frees.frames in
      let b = sum_same l (λ x. one_if_is g (frame_state_group (frame_state_at frame_states x)))
      (λ x. one_if_is g (frame_state_group (frame_state_at new x)) + cond (g == unit.group) (one_if (is_within f n x)) 0) (λ x below. one_less g x) in
      let c = sum_both l (λ x. one_if_is g (frame_state_group (frame_state_at new x))) (λ x. cond (g == unit.group) (one_if (is_within f n x)) 0) in
      let d = sum_of g l mine.block.inside in
      omega (arith, a, b, c, d)

-- ---- the machine after a unit was freed

module _ (t : KnownTable) (m : KnownMachine) (ok : IsConsistent t m) (f : ℕ) (unit : ChargedUnit) (heads : frame_state_at m.frame_states f ≡ Head unit) where
  -- the pages of the unit are charged to its group
  pub unit_charged : 2 ^ unit.order ≤ pages_of m.ledger unit.group
  unit_charged =
      let some : FreesFrames f (2 ^ unit.order) m.frame_states (freed m.frame_states f (2 ^ unit.order)) =
      freed_frees m.frame_states f (2 ^ unit.order) (ok.units.heads f unit heads).block.inside in
      let a = charges_freed m.frame_states (freed m.frame_states f (2 ^ unit.order)) f unit heads ok.units some unit.group in
      let b : cond (unit.group == unit.group) (2 ^ unit.order) 0 ≡ 2 ^ unit.order =
      cond-true (unit.group == unit.group) _ 0 (eq-eqb unit.group unit.group refl) in
      let c = ok.shown.charged unit.group in
      omega (arith, a, b, c)
    where
      freed : List FrameState → ℕ → ℕ → List FrameState
      freed frame_states at zero = frame_states
      freed frame_states at (suc k) = slice_set (freed frame_states at k) (at + k) Free

      freed_frees : (frame_states : List FrameState) (at k : ℕ) → at + k ≤ length frame_states → FreesFrames at k frame_states (freed frame_states at k)
      freed_frees frame_states at zero inside = frees_none frame_states at
      freed_frees frame_states at (suc k) inside =
          subst (λ (j : ℕ). FreesFrames at j frame_states (slice_set (freed frame_states at k) (at + k) Free)) (omega arith)
          (frees_more frame_states (freed frame_states at k) at k (omega (arith, inside)) (freed_frees frame_states at k (omega (arith, inside))))

  module _ (frame_states : List FrameState) (frees : FreesFrames f (2 ^ unit.order) m.frame_states frame_states) where
    -- a frame of the unit is free, and all others have the phases that they had
    pub phases_freed : (phases : ℕ → Phase) → ((x : ℕ) → (x ≡ f → ⊥) → hide_phase (phases x) ≡ phase_hidden (frame_state_at m.frame_states x))
        → unit_of (phases f) ≡ Some unit → (x : ℕ) → hide_phase (without_unit phases f x) ≡ phase_hidden (frame_state_at frame_states x)
    phases_freed phases others is x =
        let some = pow_pos unit.order in
        ap (λ (o : Option ChargedUnit). hide_phase (cond (is_within f (unit_size o) x) phase.InZone (phases x))) is
        ∙ elim (within_cases f (2 ^ unit.order) x) [
          | inl w ↦ ap (λ (b : Bool). hide_phase (cond b phase.InZone (phases x))) w.0
              ∙ sym (ap phase_hidden (frees.records x ∙ ap (λ (b : Bool). cond b Free (frame_state_at m.frame_states x)) w.0))
          | inr out ↦ ap (λ (b : Bool). hide_phase (cond b phase.InZone (phases x))) out.0
              ∙ others x (λ e. out.1 (omega (arith, e)) (omega (arith, e, some)))
              ∙ sym (ap phase_hidden (frees.records x ∙ ap (λ (b : Bool). cond b Free (frame_state_at m.frame_states x)) out.0))
        ]

    -- a frame that fits its record still does, and the head if it is on no list
    pub homes_fit : (links : List Link) → ((x : ℕ) → (x ≡ f → ⊥) → home_of links x ≡ home_of m.links x) → home_of links f ≡ None → (x : ℕ) → x < t.frames
        → FitsFrameState (room_of m.ledger.groups) (home_of links x) (frame_state_at frame_states x)
    homes_fit links others gone x within = elim (cases_eq x f) [
      | inl e ↦ subst (λ (h : Option Home). FitsFrameState (room_of m.ledger.groups) h (frame_state_at frame_states x)) (sym (ap (home_of links) e ∙ gone)) tt
      | inr ne ↦ subst (λ (h : Option Home). FitsFrameState (room_of m.ledger.groups) h (frame_state_at frame_states x)) (sym (others x ne)) (elim (within_cases f (2 ^ unit.order) x) [
        | inl inside ↦
            let low = inside.1 in
            let tail = (ok.units.heads f unit heads).tails x (omega (arith, low, ne)) inside.2 in
            let old : FitsFrameState (room_of m.ledger.groups) (home_of m.links x) (Tail unit.group) = subst (FitsFrameState (room_of m.ledger.groups) (home_of m.links x)) tail (ok.frame_states x within) in
            subst (FitsFrameState (room_of m.ledger.groups) (home_of m.links x))
            (sym (frees.records x ∙ ap (λ (b : Bool). cond b Free (frame_state_at m.frame_states x)) inside.0)) old
        | inr out ↦ subst (FitsFrameState (room_of m.ledger.groups) (home_of m.links x))
            (sym (frees.records x ∙ ap (λ (b : Bool). cond b Free (frame_state_at m.frame_states x)) out.0)) (ok.frame_states x within)
      ])
    ]

    -- the pages of the unit are charged to its group no more
    pub pages_freed : (booked : ℕ → ℕ) → ((g : ℕ) → pages_of m.ledger g ≡ frames_charged m.frame_states g + booked g) → (g : ℕ)
        → pages_of (with_uncharge m.ledger unit.group (2 ^ unit.order)) g ≡ frames_charged frame_states g + booked g
    pages_freed booked charged g =
        let a = charged g in
        let b = charges_freed m.frame_states frame_states f unit heads ok.units frees g in
        let c = uncharge_pages m.ledger unit.group (2 ^ unit.order) unit_charged g in
        omega (arith, a, b, c)
