-- One frame's record changes. Serves `lend_one`, `unlist_one` and all calls that move frames.
use Rattle.std.proofs.Common.{◌≡◌, ℕ, ◌+◌, ◌<◌, Bool, true, false, Some, None, List, [], ◌∷◌, length, get_or, refl, sym, ap, ◌∙◌, subst, inl, inr, arith, zero, suc}
use Rattle.std.specs.Prelude.{slice_set}
use Rattle.std.specs.Cmp.{both_ways}
use Rattle.std.proofs.lemmas.Bool.{cases_eq, false≢true}
use Rattle.std.proofs.lemmas.Option.{none-some}
use Rattle.std.proofs.lemmas.List.{get_or-set_same, get_or-set_other, length-set, ext_get_or}
use Rattle.zone_blocks.specs.{IsBlock, Covers, IsFree, TakesFrames}
use Rattle.step_rules.specs.State.{sum_to}
use Rattle.step_rules.proofs.Sums.{sum_same}
use Rattle.mem_machine.specs.declared.frame_state.FrameState.{FrameState}
use Rattle.mem_machine.specs.declared.frame_state.FrameState.TheVariants.{Free}
use Rattle.mem_machine.specs.{frame_state_at, is_free_state, free_of, frame_state_group, one_if_is, AreUnits, frames_charged}

-- ---- which frames are free

pub length_free : (frame_states : List FrameState) → length (free_of frame_states) ≡ length frame_states
length_free [] = refl
length_free (x ∷ xs) = let e = length_free xs in omega (arith, e)

pub free_at : (frame_states : List FrameState) (f : ℕ) → f < length frame_states → get_or (free_of frame_states) f false ≡ is_free_state (frame_state_at frame_states f)
free_at [] f inside = absurd (omega arith)
free_at (x ∷ xs) zero inside = refl
free_at (x ∷ xs) (suc f) inside = free_at xs f (omega arith)

-- a free frame has the record of one
pub free_is : (x : FrameState) → is_free_state x ≡ true → x ≡ Free
free_is Free e = refl
free_is x e = absurd (false≢true e)

-- a frame that is in the free areas is one of the records
pub free_inside : (frame_states : List FrameState) (f : ℕ) → IsFree (free_of frame_states) f → f < length frame_states
free_inside [] f is = absurd (false≢true is)
free_inside (x ∷ xs) zero is = omega arith
free_inside (x ∷ xs) (suc f) is = let h = free_inside xs f is in omega (arith, h)

-- a block of one frame covers that alone
pub covers_one : (f : ℕ) → Covers (record { at = f; order = 0 }) f
covers_one f = record { from = omega arith; before = omega arith }

pub one_covered : (f g : ℕ) → Covers (record { at = f; order = 0 }) g → g ≡ f
one_covered f g h = let a = h.from in let b : g < f + 1 = h.before in omega (arith, a, b)

-- the free frames of two sets that differ at one frame
pub free_set : (before after : List Bool) (frame_states : List FrameState) (f : ℕ) (x : FrameState) → f < length frame_states → before ≡ free_of frame_states → length after ≡ length before
    → (IsFree after f → is_free_state x ≡ true) → (is_free_state x ≡ true → IsFree after f)
    → ((g : ℕ) → (g ≡ f → ⊥) → (IsFree after g → IsFree before g) × (IsFree before g → IsFree after g))
    → after ≡ free_of (slice_set frame_states f x)
free_set before after frame_states f x inside was same to from others =
    let sized : length after ≡ length (free_of (slice_set frame_states f x)) =
    same ∙ ap length was ∙ length_free frame_states ∙ sym (length-set frame_states f x) ∙ sym (length_free (slice_set frame_states f x)) in
    ext_get_or false after (free_of (slice_set frame_states f x)) sized (λ g within.
    let room : g < length (slice_set frame_states f x) = subst (λ (n : ℕ). g < n) (sized ∙ length_free (slice_set frame_states f x)) within in
    let now = free_at (slice_set frame_states f x) g room in
    elim (cases_eq g f) [
      | inl e ↦
          let here : is_free_state (frame_state_at (slice_set frame_states f x) g) ≡ is_free_state x =
          ap (λ (h : ℕ). is_free_state (frame_state_at (slice_set frame_states f x) h)) e ∙ ap is_free_state (get_or-set_same frame_states f x Free inside) in
          both_ways _ _ (λ a. now ∙ here ∙ to (subst (λ (h : ℕ). IsFree after h) e a))
          (λ b. subst (λ (h : ℕ). IsFree after h) (sym e) (from (sym here ∙ sym now ∙ b)))
      | inr ne ↦
          let there : g < length frame_states = subst (λ (n : ℕ). g < n) (length-set frame_states f x) room in
          let old : get_or before g false ≡ is_free_state (frame_state_at frame_states g) = ap (λ (l : List Bool). get_or l g false) was ∙ free_at frame_states g there in
          let else_ : is_free_state (frame_state_at (slice_set frame_states f x) g) ≡ is_free_state (frame_state_at frame_states g) = ap is_free_state (get_or-set_other frame_states f g x Free ne) in
          both_ways _ _ (λ a. now ∙ else_ ∙ sym old ∙ (others g ne).0 a) (λ b. (others g ne).1 (old ∙ sym else_ ∙ sym now ∙ b))
    ])

-- after a frame was taken
pub free_taken : (before after : List Bool) (frame_states : List FrameState) (f : ℕ) (x : FrameState) → f < length frame_states → before ≡ free_of frame_states
    → TakesFrames before (record { at = f; order = 0 }) after → is_free_state x ≡ false → after ≡ free_of (slice_set frame_states f x)
free_taken before after frame_states f x inside was takes used =
    free_set before after frame_states f x inside was takes.same_length (λ a. absurd (takes.in_use f (covers_one f) a)) (λ a. absurd (false≢true (sym used ∙ a)))
    (λ g ne. let o = takes.others g (λ h. ne (one_covered f g h)) in (o.0, o.1))

-- after a frame was freed
pub free_given : (before after : List Bool) (frame_states : List FrameState) (f : ℕ) (x : FrameState) → f < length frame_states → before ≡ free_of frame_states
    → TakesFrames after (record { at = f; order = 0 }) before → is_free_state x ≡ true → after ≡ free_of (slice_set frame_states f x)
free_given before after frame_states f x inside was gives free =
    free_set before after frame_states f x inside was (sym gives.same_length) (λ a. free) (λ a. gives.were_free f (covers_one f))
    (λ g ne. let o = gives.others g (λ h. ne (one_covered f g h)) in (o.1, o.0))

-- ---- units and charges, if the frame is charged neither before nor after

module _ (frame_states : List FrameState) (f : ℕ) (x : FrameState) (inside : f < length frame_states) (was : frame_state_group (frame_state_at frame_states f) ≡ None) (now : frame_state_group x ≡ None) where
  -- another frame's record stays, and one that is charged is another's
  charged_else : (g h : ℕ) → frame_state_group (frame_state_at (slice_set frame_states f x) g) ≡ Some h → frame_state_at (slice_set frame_states f x) g ≡ frame_state_at frame_states g
  charged_else g h is = elim (cases_eq g f) [
    | inl e ↦ absurd (none-some h (sym now ∙ sym (ap frame_state_group (get_or-set_same frame_states f x Free inside))
        ∙ ap (λ (k : ℕ). frame_state_group (frame_state_at (slice_set frame_states f x) k)) (sym e) ∙ is))
    | inr ne ↦ get_or-set_other frame_states f g x Free ne
  ]

  -- a frame that was charged keeps its record
  charged_stays : (g h : ℕ) → frame_state_group (frame_state_at frame_states g) ≡ Some h → frame_state_at (slice_set frame_states f x) g ≡ frame_state_at frame_states g
  charged_stays g h is = elim (cases_eq g f) [
    | inl e ↦ absurd (none-some h (sym was ∙ ap (λ (k : ℕ). frame_state_group (frame_state_at frame_states k)) (sym e) ∙ is))
    | inr ne ↦ get_or-set_other frame_states f g x Free ne
  ]

  pub units_stay : AreUnits frame_states → AreUnits (slice_set frame_states f x)
  units_stay units = record {
    heads = λ g unit is.
        let old = units.heads g unit (sym (charged_else g unit.group (ap frame_state_group is)) ∙ is) in
        record {
          block = subst (λ (n : ℕ). IsBlock n (record { at = g; order = unit.order })) (sym (length-set frame_states f x)) old.block;
          tails = λ y from before. charged_stays y unit.group (ap frame_state_group (old.tails y from before)) ∙ old.tails y from before;
        };
    tails = λ y g is.
        let old = units.tails y g (sym (charged_else y g (ap frame_state_group is)) ∙ is) in
        record {
          head = old.head;
          unit = old.unit;
          heads = charged_stays old.head old.unit.group (ap frame_state_group old.heads) ∙ old.heads;
          group = old.group;
          from = old.from;
          before = old.before;
        };
  }

  pub charges_stay : (g : ℕ) → frames_charged (slice_set frame_states f x) g ≡ frames_charged frame_states g
  charges_stay g =
      ap (λ (n : ℕ). sum_to n (λ y. one_if_is g (frame_state_group (frame_state_at (slice_set frame_states f x) y)))) (length-set frame_states f x)
      ∙ sum_same (length frame_states) (λ y. one_if_is g (frame_state_group (frame_state_at (slice_set frame_states f x) y))) (λ y. one_if_is g (frame_state_group (frame_state_at frame_states y)))
      (λ y within. elim (cases_eq y f) [
        | inl e ↦ ap (one_if_is g) (ap (λ (k : ℕ). frame_state_group (frame_state_at (slice_set frame_states f x) k)) e ∙ ap frame_state_group (get_or-set_same frame_states f x Free inside) ∙ now
            ∙ sym was ∙ ap (λ (k : ℕ). frame_state_group (frame_state_at frame_states k)) (sym e))
        | inr ne ↦ ap (λ (z : FrameState). one_if_is g (frame_state_group z)) (get_or-set_other frame_states f y x Free ne)
      ])
