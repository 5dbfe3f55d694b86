-- Phases under the cover.
use Rattle.std.proofs.Common.{◌≡◌, ℕ, ◌^◌, ◌==◌, Bool, true, false, map, refl, sym, ◌∙◌, ap, subst, cond, eq-eqb}
use Rattle.std.specs.List.{range_with_len}
use Rattle.std.proofs.lemmas.Bool.{ne_eqb}
use Rattle.zone_blocks.specs.declared.block.Block.{Block}
use Rattle.step_rules.specs.declared.phase.ChargedUnit.{ChargedUnit}
use Rattle.step_rules.specs.declared.phase.Way.TheVariants.{OnList, PassingBack}
use Rattle.step_rules.specs.declared.phase.Stage.TheVariants.{FreshAt, FreshPassing, Collected, Bare, Live, BackAt, BackPassing, AwaitsReturn}
use Rattle.step_rules.specs.declared.phase.Phase.{Phase}
use Rattle.step_rules.specs.declared.phase.Phase.TheVariants.{InZone, Lent, Head, Tail}
use Rattle.step_rules.specs.{Kind, is_free, has_as, passes_out, passes_back, is_head_in_hand, is_returnable, unit_of, at_stage, passed_back}
use Rattle.step_rules.specs.{collected, Zone, with_at, free_in, with_block, placed_phase, is_within, without_unit, unit_size, phase_seen_by}
use Rattle.step_rules.specs.Phases.{ListFrame, FreshFrame, BackFrame}
use Rattle.step_rules.proofs.Basics.{at_through, cond-ap}
use Rattle.step_rules.proofs.PhaseLemmas.{by_kind, InHand, WasCollected, WasBare, WasEnded, CameBack, FromList, FromFresh, FromBack}
use Rattle.step_rules.proofs.PhaseLemmas.{Returns, AsEnded, AsKilled, listed_is, fresh_is, back_is}

at_cond : {Y : Type 0} (T : Phase → Y) (b : Bool) (x y : Phase) → T y ≡ T x → T (cond b x y) ≡ T x
at_cond T true x y e = refl
at_cond T false x y e = e

-- what doesn't tell a fresh frame from one of a list, nor a back frame from a live one, is seen under the cover
pub seen_through : {Y : Type 0} (T : Phase → Y) (p : ℕ) → ((u : ChargedUnit) (q : ℕ) → T (Lent q OnList) ≡ T (Head u (FreshAt q))) →
    ((u : ChargedUnit) (q : ℕ) → T (Head u Live) ≡ T (Head u (BackAt q))) →
    (x : Phase) → T (phase_seen_by p x) ≡ T x
seen_through T p fresh back InZone = refl
seen_through T p fresh back (Lent q way) = refl
seen_through T p fresh back (Tail g) = refl
seen_through T p fresh back (Head u (FreshAt q)) = at_cond T (q == p) (Head u (FreshAt q)) (Lent q OnList) (fresh u q)
seen_through T p fresh back (Head u (BackAt q)) = at_cond T (q == p) (Head u (BackAt q)) (Head u Live) (back u q)
seen_through T p fresh back (Head u stage) = refl

pub out_seen : (p q : ℕ) (x : Phase) → passes_out q (phase_seen_by p x) ≡ passes_out q x
out_seen p q x = seen_through (passes_out q) p (λ u r. refl) (λ u r. refl) x

pub back_seen : (p q : ℕ) (x : Phase) → passes_back q (phase_seen_by p x) ≡ passes_back q x
back_seen p q x = seen_through (passes_back q) p (λ u r. refl) (λ u r. refl) x

pub free_seen : (p : ℕ) (x : Phase) → is_free (phase_seen_by p x) ≡ is_free x
free_seen p x = seen_through is_free p (λ u r. refl) (λ u r. refl) x

pub hand_seen : (p : ℕ) (x : Phase) → is_head_in_hand (phase_seen_by p x) ≡ is_head_in_hand x
hand_seen p x = seen_through is_head_in_hand p (λ u r. refl) (λ u r. refl) x

pub return_seen : (p : ℕ) (killed : ℕ → Bool) (x : Phase) → is_returnable killed (phase_seen_by p x) ≡ is_returnable killed x
return_seen p killed x = seen_through (is_returnable killed) p (λ u r. refl) (λ u r. refl) x

pub frees_seen : (p : ℕ) (zone : Zone) (phases : ℕ → Phase) → free_in zone (λ f. phase_seen_by p (phases f)) ≡ free_in zone phases
frees_seen p zone phases = ap (λ (test : ℕ → Bool). map test (range_with_len 0 zone.frames)) (λ i. λ f. free_seen p (phases f) i)

fresh_own : (u : ChargedUnit) (p q : ℕ) (kind : Kind) (b : Bool) → (q == p) ≡ b →
    has_as kind p (cond b (Head u (FreshAt q)) (Lent q OnList)) ≡ has_as kind p (Head u (FreshAt q))
fresh_own u p q kind true e = refl
fresh_own u p q kind false e = by_kind (λ k. has_as k p (Lent q OnList) ≡ has_as k p (Head u (FreshAt q))) e (sym e) refl kind

back_own : (u : ChargedUnit) (p q : ℕ) (kind : Kind) (b : Bool) → (q == p) ≡ b →
    has_as kind p (cond b (Head u (BackAt q)) (Head u Live)) ≡ has_as kind p (Head u (BackAt q))
back_own u p q kind true e = refl
back_own u p q kind false e = by_kind (λ k. has_as k p (Head u Live) ≡ has_as k p (Head u (BackAt q))) refl refl (sym e) kind

-- a CPU sees its own frames
pub own_seen : (p : ℕ) (kind : Kind) (x : Phase) → has_as kind p (phase_seen_by p x) ≡ has_as kind p x
own_seen p kind InZone = refl
own_seen p kind (Lent q way) = refl
own_seen p kind (Tail g) = refl
own_seen p kind (Head u (FreshAt q)) = fresh_own u p q kind (q == p) refl
own_seen p kind (Head u (BackAt q)) = back_own u p q kind (q == p) refl
own_seen p kind (Head u stage) = refl

pub own_fresh : (u : ChargedUnit) (p : ℕ) → phase_seen_by p (Head u (FreshAt p)) ≡ Head u (FreshAt p)
own_fresh u p = rw (eq-eqb p p refl)

pub own_back : (u : ChargedUnit) (p : ℕ) → phase_seen_by p (Head u (BackAt p)) ≡ Head u (BackAt p)
own_back u p = rw (eq-eqb p p refl)

pub other_fresh : (u : ChargedUnit) (p q : ℕ) → (q ≡ p → ⊥) → phase_seen_by p (Head u (FreshAt q)) ≡ Lent q OnList
other_fresh u p q ne = rw (ne_eqb q p ne)

pub other_back : (u : ChargedUnit) (p q : ℕ) → (q ≡ p → ⊥) → phase_seen_by p (Head u (BackAt q)) ≡ Head u Live
other_back u p q ne = rw (ne_eqb q p ne)

-- a phase that goes on, uncovered before and after
pub record GoesOn (p : ℕ) (move : Phase → Phase) (x : Phase) : Type 0 where
  pub before : phase_seen_by p x ≡ x
  pub after : phase_seen_by p (move x) ≡ move x

-- the phases under the cover after a frame went on
pub gone_on : (p : ℕ) (phases : ℕ → Phase) (f : ℕ) (move : Phase → Phase) → GoesOn p move (phases f) →
    (λ (m : ℕ). phase_seen_by p (with_at phases f (move (phases f)) m)) ≡ with_at (λ m. phase_seen_by p (phases m)) f (move (phase_seen_by p (phases f)))
gone_on p phases f move goes = at_through (phase_seen_by p) phases f (move (phases f))
    ∙ ap (with_at (λ m. phase_seen_by p (phases m)) f) (goes.after ∙ ap move (sym goes.before))

at_phase : (p : ℕ) (move : Phase → Phase) (x y : Phase) → x ≡ y → GoesOn p move y → GoesOn p move x
at_phase p move x y e goes = subst (GoesOn p move) (sym e) goes

pub woken_goes : (p : ℕ) (x : Phase) → InHand x → GoesOn p (at_stage Live) x
woken_goes p x (WasCollected u e) = at_phase p (at_stage Live) x (Head u Collected) e (record { before = refl; after = refl })
woken_goes p x (WasBare u e) = at_phase p (at_stage Live) x (Head u Bare) e (record { before = refl; after = refl })
woken_goes p x (WasEnded u e) = at_phase p (at_stage Live) x (Head u AwaitsReturn) e (record { before = refl; after = refl })

pub ended_goes : (p : ℕ) (x : Phase) (u : ChargedUnit) → x ≡ Head u Live → GoesOn p (at_stage AwaitsReturn) x
ended_goes p x u e = at_phase p (at_stage AwaitsReturn) x (Head u Live) e (record { before = refl; after = refl })

pub backed_goes : (p : ℕ) (x : Phase) (u : ChargedUnit) → x ≡ Head u Live → GoesOn p (at_stage (BackAt p)) x
backed_goes p x u e = at_phase p (at_stage (BackAt p)) x (Head u Live) e (record { before = refl; after = own_back u p })

pub collected_goes : (p q : ℕ) (x : Phase) → CameBack q x → GoesOn p collected x
collected_goes p q x (FromList e) = at_phase p collected x (Lent q PassingBack) e (record { before = refl; after = refl })
collected_goes p q x (FromFresh u e) = at_phase p collected x (Head u (FreshPassing q)) e (record { before = refl; after = refl })
collected_goes p q x (FromBack u e) = at_phase p collected x (Head u (BackPassing q)) e (record { before = refl; after = refl })

pub listed_goes : (p : ℕ) (x : Phase) → has_as ListFrame p x ≡ true → GoesOn p passed_back x
listed_goes p x has = at_phase p passed_back x (Lent p OnList) (listed_is p x has) (record { before = refl; after = refl })

pub fresh_goes : (p : ℕ) (x : Phase) → has_as FreshFrame p x ≡ true → GoesOn p passed_back x
fresh_goes p x has = let is = fresh_is p x has in at_phase p passed_back x (Head is.0 (FreshAt p)) is.1 (record { before = own_fresh is.0 p; after = refl })

pub back_goes : (p : ℕ) (x : Phase) → has_as BackFrame p x ≡ true → GoesOn p passed_back x
back_goes p x has = let is = back_is p x has in at_phase p passed_back x (Head is.0 (BackAt p)) is.1 (record { before = own_back is.0 p; after = refl })

placed_seen : (p g : ℕ) (b : Block) (x : ℕ) → phase_seen_by p (placed_phase g b x) ≡ placed_phase g b x
placed_seen p g b x = placed (x == b.at)
  where
    placed : (t : Bool) → phase_seen_by p (cond t (Head (record { group = g; order = b.order }) Bare) (Tail g))
        ≡ cond t (Head (record { group = g; order = b.order }) Bare) (Tail g)
    placed true = refl
    placed false = refl

pub block_seen : (p : ℕ) (phases : ℕ → Phase) (g : ℕ) (b : Block) →
    (λ (x : ℕ). phase_seen_by p (with_block phases g b x)) ≡ with_block (λ x. phase_seen_by p (phases x)) g b
block_seen p phases g b = λ i. λ x. (cond-ap (phase_seen_by p) (is_within b.at (2 ^ b.order) x) (placed_phase g b x) (phases x)
    ∙ ap (λ y. cond (is_within b.at (2 ^ b.order) x) y (phase_seen_by p (phases x))) (placed_seen p g b x)) i

returned_unit : (p : ℕ) (killed : ℕ → Bool) (x : Phase) → Returns killed x → unit_of (phase_seen_by p x) ≡ unit_of x
returned_unit p killed x (AsEnded u e) = ap (λ y. unit_of (phase_seen_by p y)) e ∙ sym (ap unit_of e)
returned_unit p killed x (AsKilled u e k) = ap (λ y. unit_of (phase_seen_by p y)) e ∙ sym (ap unit_of e)

pub unit_seen : (p : ℕ) (killed : ℕ → Bool) (phases : ℕ → Phase) (f : ℕ) → Returns killed (phases f) →
    (λ (x : ℕ). phase_seen_by p (without_unit phases f x)) ≡ without_unit (λ x. phase_seen_by p (phases x)) f
unit_seen p killed phases f returns = λ i. λ x. (cond-ap (phase_seen_by p) (is_within f (unit_size (unit_of (phases f))) x) InZone (phases x)
    ∙ ap (λ u. cond (is_within f (unit_size u) x) InZone (phase_seen_by p (phases x))) (sym (returned_unit p killed (phases f) returns))) i
