-- Which phase a frame is in, by the tests that it passes.
use Rattle.std.proofs.Common.{◌≡◌, ℕ, ◌≤◌, ◌&&◌, ◌==◌, Bool, true, false, Option, Some, None, refl, sym, ◌∙◌, ap, cond}
use Rattle.std.specs.Prelude.{nat_le}
use Rattle.std.proofs.lemmas.Bool.{ne_eqb, eqb-true, false≢true, true≢false, and_parts, leb-true}
use Rattle.step_rules.specs.declared.phase.Hold.{Hold}
use Rattle.step_rules.specs.declared.phase.Hold.TheVariants.{Visiting}
use Rattle.step_rules.specs.declared.phase.ChargedUnit.{ChargedUnit}
use Rattle.step_rules.specs.declared.phase.Way.TheVariants.{PassingOut, OnList, PassingBack}
use Rattle.step_rules.specs.declared.phase.Stage.{Stage}
use Rattle.step_rules.specs.declared.phase.Stage.TheVariants.{FreshAt, FreshPassing, Collected, Bare, Live, BackAt, BackPassing, AwaitsReturn}
use Rattle.step_rules.specs.declared.phase.Phase.{Phase}
use Rattle.step_rules.specs.declared.phase.Phase.TheVariants.{InZone, Lent, Head, Tail}
use Rattle.step_rules.specs.declared.step.Answer.{Answer}
use Rattle.step_rules.specs.declared.step.Answer.TheVariants.{Held, Zero, Full}
use Rattle.step_rules.specs.Phases.{Kind, ListFrame, FreshFrame, BackFrame, is_free, is_live_phase, has_as, passes_out, passes_back, is_head_in_hand, is_returnable}
use Rattle.step_rules.specs.State.{is_unheld, is_held_by, visits}
use Rattle.step_rules.specs.Legal.{get_answer}

pub by_kind : (P : Kind → Type 0) → P ListFrame → P FreshFrame → P BackFrame → (kind : Kind) → P kind
by_kind P a b c ListFrame = a
by_kind P a b c FreshFrame = b
by_kind P a b c BackFrame = c

pub equal_test : (a b : ℕ) → (a == b) ≡ true → a ≡ b
equal_test a b e = eqb-true a b e

-- the frame is live
pub live_is : (x : Phase) → is_live_phase x ≡ true → (u : ChargedUnit) × (x ≡ Head u Live)
live_is (Head u Live) e = (u, refl)
live_is x e = absurd (false≢true e)

pub free_is : (x : Phase) → is_free x ≡ true → x ≡ InZone
free_is InZone e = refl
free_is x e = absurd (false≢true e)

pub out_is : (p : ℕ) (x : Phase) → passes_out p x ≡ true → x ≡ Lent p PassingOut
out_is p (Lent q PassingOut) e = ap (λ r. Lent r PassingOut) (equal_test q p e)
out_is p x e = absurd (false≢true e)

-- what passes back was on the list, fresh, or a back frame
pub data CameBack (p : ℕ) (x : Phase) : Type 0 where
  FromList : x ≡ Lent p PassingBack → CameBack p x
  FromFresh : (u : ChargedUnit) → x ≡ Head u (FreshPassing p) → CameBack p x
  FromBack : (u : ChargedUnit) → x ≡ Head u (BackPassing p) → CameBack p x

pub came_back : (p : ℕ) (x : Phase) → passes_back p x ≡ true → CameBack p x
came_back p (Lent q PassingBack) e = FromList (ap (λ r. Lent r PassingBack) (equal_test q p e))
came_back p (Head u (FreshPassing q)) e = FromFresh u (ap (λ r. Head u (FreshPassing r)) (equal_test q p e))
came_back p (Head u (BackPassing q)) e = FromBack u (ap (λ r. Head u (BackPassing r)) (equal_test q p e))
came_back p x e = absurd (false≢true e)

pub listed_is : (p : ℕ) (x : Phase) → has_as ListFrame p x ≡ true → x ≡ Lent p OnList
listed_is p (Lent q OnList) e = ap (λ r. Lent r OnList) (equal_test q p e)
listed_is p (Head u stage) e = absurd (false≢true e)
listed_is p x e = absurd (false≢true e)

pub fresh_is : (p : ℕ) (x : Phase) → has_as FreshFrame p x ≡ true → (u : ChargedUnit) × (x ≡ Head u (FreshAt p))
fresh_is p (Head u (FreshAt q)) e = (u, ap (λ r. Head u (FreshAt r)) (equal_test q p e))
fresh_is p x e = absurd (false≢true e)

pub back_is : (p : ℕ) (x : Phase) → has_as BackFrame p x ≡ true → (u : ChargedUnit) × (x ≡ Head u (BackAt p))
back_is p (Head u (BackAt q)) e = (u, ap (λ r. Head u (BackAt r)) (equal_test q p e))
back_is p x e = absurd (false≢true e)

-- the head of a unit in the zone's hand
pub data InHand (x : Phase) : Type 0 where
  WasCollected : (u : ChargedUnit) → x ≡ Head u Collected → InHand x
  WasBare : (u : ChargedUnit) → x ≡ Head u Bare → InHand x
  WasEnded : (u : ChargedUnit) → x ≡ Head u AwaitsReturn → InHand x

pub in_hand : (x : Phase) → is_head_in_hand x ≡ true → InHand x
in_hand (Head u Collected) e = WasCollected u refl
in_hand (Head u Bare) e = WasBare u refl
in_hand (Head u AwaitsReturn) e = WasEnded u refl
in_hand x e = absurd (false≢true e)

-- a unit that may come back is ended, or was collected fresh and its group is killed
pub data Returns (killed : ℕ → Bool) (x : Phase) : Type 0 where
  AsEnded : (u : ChargedUnit) → x ≡ Head u AwaitsReturn → Returns killed x
  AsKilled : (u : ChargedUnit) → x ≡ Head u Collected → killed u.group ≡ true → Returns killed x

pub returning_is : (killed : ℕ → Bool) (x : Phase) → is_returnable killed x ≡ true → Returns killed x
returning_is killed (Head u AwaitsReturn) e = AsEnded u refl
returning_is killed (Head u Collected) e = AsKilled u refl e
returning_is killed x e = absurd (false≢true e)

-- no CPU but p has the frame
abbrev pub IsOnlyAt : ℕ → Phase → Type 0
IsOnlyAt p x = (q : ℕ) (kind : Kind) → (q ≡ p → ⊥) → has_as kind q x ≡ false

pub only_listed : (p : ℕ) → IsOnlyAt p (Lent p OnList)
only_listed p q kind ne = by_kind (λ k. has_as k q (Lent p OnList) ≡ false) (ne_eqb p q (λ e. ne (sym e))) refl refl kind

pub only_fresh : (u : ChargedUnit) (p : ℕ) → IsOnlyAt p (Head u (FreshAt p))
only_fresh u p q kind ne = by_kind (λ k. has_as k q (Head u (FreshAt p)) ≡ false) refl (ne_eqb p q (λ e. ne (sym e))) refl kind

pub only_back : (u : ChargedUnit) (p : ℕ) → IsOnlyAt p (Head u (BackAt p))
only_back u p q kind ne = by_kind (λ k. has_as k q (Head u (BackAt p)) ≡ false) refl refl (ne_eqb p q (λ e. ne (sym e))) kind

-- the phases in which no CPU has the frame, nor does it pass or have references
abbrev pub is_quiet_stage : Stage → Bool
is_quiet_stage Collected = true
is_quiet_stage Bare = true
is_quiet_stage AwaitsReturn = true
is_quiet_stage _ = false

abbrev pub is_quiet : Phase → Bool
is_quiet InZone = true
is_quiet (Lent q way) = false
is_quiet (Head u stage) = is_quiet_stage stage
is_quiet (Tail g) = true

pub nobody_has_stage : (u : ChargedUnit) (stage : Stage) → is_quiet_stage stage ≡ true → (q : ℕ) (kind : Kind) → has_as kind q (Head u stage) ≡ false
nobody_has_stage u Collected e q kind = by_kind (λ k. has_as k q (Head u Collected) ≡ false) refl refl refl kind
nobody_has_stage u Bare e q kind = by_kind (λ k. has_as k q (Head u Bare) ≡ false) refl refl refl kind
nobody_has_stage u AwaitsReturn e q kind = by_kind (λ k. has_as k q (Head u AwaitsReturn) ≡ false) refl refl refl kind
nobody_has_stage u stage e q kind = absurd (false≢true e)

pub nobody_has : (x : Phase) → is_quiet x ≡ true → (q : ℕ) (kind : Kind) → has_as kind q x ≡ false
nobody_has InZone e q kind = refl
nobody_has (Lent p way) e q kind = absurd (false≢true e)
nobody_has (Head u stage) e q kind = nobody_has_stage u stage e q kind
nobody_has (Tail g) e q kind = refl

pub nobody_has_live : (u : ChargedUnit) (q : ℕ) (kind : Kind) → has_as kind q (Head u Live) ≡ false
nobody_has_live u q kind = by_kind (λ k. has_as k q (Head u Live) ≡ false) refl refl refl kind

pub nobody_has_fresh_passing : (u : ChargedUnit) (p q : ℕ) (kind : Kind) → has_as kind q (Head u (FreshPassing p)) ≡ false
nobody_has_fresh_passing u p q kind = by_kind (λ k. has_as k q (Head u (FreshPassing p)) ≡ false) refl refl refl kind

pub nobody_has_back_passing : (u : ChargedUnit) (p q : ℕ) (kind : Kind) → has_as kind q (Head u (BackPassing p)) ≡ false
nobody_has_back_passing u p q kind = by_kind (λ k. has_as k q (Head u (BackPassing p)) ≡ false) refl refl refl kind

pub nobody_has_out : (p q : ℕ) (kind : Kind) → has_as kind q (Lent p PassingOut) ≡ false
nobody_has_out p q kind = by_kind (λ k. has_as k q (Lent p PassingOut) ≡ false) refl refl refl kind

pub nobody_has_returning : (p q : ℕ) (kind : Kind) → has_as kind q (Lent p PassingBack) ≡ false
nobody_has_returning p q kind = by_kind (λ k. has_as k q (Lent p PassingBack) ≡ false) refl refl refl kind

pub free_rests : (x : Phase) → is_free x ≡ true → (q : ℕ) → (passes_out q x ≡ false) × (passes_back q x ≡ false)
free_rests InZone e q = (refl, refl)
free_rests x e q = absurd (false≢true e)

pub none_some : {X : Type 0} (v : X) → ◌≡◌ {A = Option X} None (Some v) → ⊥
none_some v e = cc

pub visited : (p : ℕ) (hold : Hold) → visits p hold ≡ true → hold ≡ Visiting p
visited p (Visiting q) e = ap Visiting (equal_test q p e)
visited p hold e = absurd (false≢true e)

pub same_visitor : (p q : ℕ) → Visiting p ≡ Visiting q → p ≡ q
same_visitor p q e = cc

pub unheld_visit : (hold : Hold) (q : ℕ) → is_unheld hold ≡ true → hold ≡ Visiting q → ⊥
unheld_visit hold q e v = true≢false (sym e ∙ ap is_unheld v)

pub held_visit : (p : ℕ) (hold : Hold) (q : ℕ) → is_held_by p hold ≡ true → hold ≡ Visiting q → ⊥
held_visit p hold q e v = true≢false (sym e ∙ ap (is_held_by p) v)

pub held_case : (a b : Bool) → ◌≡◌ {A = Answer} Held (cond a Held (cond b Full Zero)) → a ≡ true
held_case true b h = refl
held_case false true h = cc
held_case false false h = cc

pub held_live : (n : ℕ) → Held ≡ get_answer n → 1 ≤ n
held_live n h = leb-true 1 n (and_parts (nat_le 1 n) (nat_le n 254) (held_case (nat_le 1 n && nat_le n 254) (n == 255) h)).0
