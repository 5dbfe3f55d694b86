-- A frame has references exactly where it is live. Serves `live_are_referenced`.
use Rattle.std.proofs.Common.{◌≡◌, ℕ, ◌+◌, ◌-◌, ◌^◌, ◌≤◌, ◌&&◌, ◌==◌, Bool, true, false, refl, sym, ◌∙◌, ap, subst, arith, inl, inr, cond}
use Rattle.std.specs.Prelude.{nat_le}
use Rattle.std.proofs.lemmas.Bool.{cases_eq, false≢true, true≢false, and_parts, leb-true}
use Rattle.zone_blocks.specs.declared.block.Block.{Block}
use Rattle.step_rules.specs.declared.phase.Stage.TheVariants.{FreshAt, FreshPassing, Bare, Live, BackAt, BackPassing, AwaitsReturn}
use Rattle.step_rules.specs.declared.phase.Phase.{Phase}
use Rattle.step_rules.specs.declared.phase.Phase.TheVariants.{InZone, Lent, Head, Tail}
use Rattle.step_rules.specs.declared.step.Step.{Step}
use Rattle.step_rules.specs.declared.step.Action.{Action}
use Rattle.step_rules.specs.declared.step.Action.TheVariants.{Lock, Get, Put, Freeze, Unfreeze, PassOut, TakeIn, PassBack, Collect, Consume, Credit}
use Rattle.step_rules.specs.declared.step.Action.TheVariants.{PlaceBlock, Return}
use Rattle.step_rules.specs.declared.step.Answer.{Answer}
use Rattle.step_rules.specs.declared.step.Answer.TheVariants.{Illegal, Done, Held, Left, Last, Took, Stocked, Placed}
use Rattle.step_rules.specs.{is_live_phase, at_stage, stage_after_last, passed_back, collected, unit_of, at_boot, with_at, sum_to, is_cpu}
use Rattle.step_rules.specs.{live_references, Allows, IsMade, get_answer, after, placed_phase, with_block, unit_size, without_unit}
use Rattle.step_rules.specs.{AllLiveAreReferenced, KeepsInvariant}
use Rattle.step_rules.specs.State.{State}
use Rattle.step_rules.proofs.LegalTests.{get_tests, put_tests, unfreeze_tests}
use Rattle.step_rules.proofs.Basics.{at_same, at_other, at_each}
use Rattle.step_rules.proofs.Sums.{sum_same, sum_none, sum_change}
use Rattle.step_rules.proofs.PhaseLemmas.{in_hand, InHand, WasCollected, WasBare, WasEnded, held_case}
use Rattle.step_rules.proofs.Referring.{changed, changed_others, changed_seats, changed_here, seat_there}
use Rattle.step_rules.proofs.Placing.{within_cases, in_block, off_block, in_unit, off_unit}
use Rattle.step_rules.proofs.Runs.{after_illegal, allowed, kept_along, sound_boot, sound_run}
use Rattle.step_rules.proofs.LocalLaws.{no_illegal}

-- ---- sums of references
pub sum_changed : (s : State) (k f n : ℕ) → k ≤ s.zone.cpus →
    sum_to (s.zone.cpus + 1) (λ seat. changed s.references k f n seat f) + s.references k f ≡ live_references s f + n
sum_changed s k f n there =
    let h : ℕ → ℕ = λ seat. s.references seat f in
    let same : sum_to (s.zone.cpus + 1) (λ seat. changed s.references k f n seat f) ≡ sum_to (s.zone.cpus + 1) (with_at h k n) =
    sum_same (s.zone.cpus + 1) (λ seat. changed s.references k f n seat f) (with_at h k n)
    (λ seat below. at_each h k n (λ m v. changed s.references k f n m f ≡ v) (changed_here s.references k f n)
    (λ m ne. changed_seats s.references k f n m ne) seat) in
    let sums = sum_change (s.zone.cpus + 1) h k n (omega arith) in
    omega arith

sum_others : (s : State) (k f n m : ℕ) → (m ≡ f → ⊥) →
    sum_to (s.zone.cpus + 1) (λ seat. changed s.references k f n seat m) ≡ live_references s m
sum_others s k f n m ne = sum_same (s.zone.cpus + 1) _ _ (λ seat below. changed_others s.references k f n m ne seat)

-- ---- live phases
live_at : (phases : ℕ → Phase) (g : ℕ) (y : Phase) (f : ℕ) → (is_live_phase y ≡ true → is_live_phase (phases g) ≡ true) → is_live_phase (with_at phases g y f) ≡ true →
    is_live_phase (phases f) ≡ true
live_at phases g y f here live = at_each phases g y (λ m z. is_live_phase z ≡ true → is_live_phase (phases m) ≡ true) here (λ m ne e. e) f live

live_off : (phases : ℕ → Phase) (g : ℕ) (y : Phase) (f : ℕ) → is_live_phase y ≡ false → is_live_phase (with_at phases g y f) ≡ true →
    (f ≡ g → ⊥) × (is_live_phase (phases f) ≡ true)
live_off phases g y f dead live = (
  λ same. true≢false (sym live ∙ ap (λ (m : ℕ). is_live_phase (with_at phases g y m)) same ∙ ap is_live_phase (at_same phases g y) ∙ dead),
  live_at phases g y f (λ e. absurd (true≢false (sym e ∙ dead))) live,
)

sent_live : (x : Phase) → is_live_phase (passed_back x) ≡ true → is_live_phase x ≡ true
sent_live (Head u (FreshAt p)) e = absurd (false≢true e)
sent_live (Head u (BackAt p)) e = absurd (false≢true e)
sent_live (Head u stage) e = e
sent_live InZone e = e
sent_live (Lent p way) e = absurd (false≢true e)
sent_live (Tail g) e = e

got_live : (x : Phase) → is_live_phase (collected x) ≡ true → is_live_phase x ≡ true
got_live (Head u (FreshPassing p)) e = absurd (false≢true e)
got_live (Head u (BackPassing p)) e = absurd (false≢true e)
got_live (Head u stage) e = e
got_live InZone e = e
got_live (Lent p way) e = absurd (false≢true e)
got_live (Tail g) e = e

last_dead : (seat : ℕ) (x : Phase) → is_live_phase (at_stage (stage_after_last seat) x) ≡ false
last_dead seat (Head u stage) = by_seat (seat == 0)
  where
    by_seat : (b : Bool) → is_live_phase (Head u (cond b AwaitsReturn (BackAt seat))) ≡ false
    by_seat true = refl
    by_seat false = refl
last_dead seat InZone = refl
last_dead seat (Lent p way) = refl
last_dead seat (Tail g) = refl

frozen_dead : (x : Phase) → is_live_phase (at_stage AwaitsReturn x) ≡ false
frozen_dead (Head u stage) = refl
frozen_dead InZone = refl
frozen_dead (Lent p way) = refl
frozen_dead (Tail g) = refl

pub hand_dead : (x : Phase) → InHand x → is_live_phase x ≡ false
hand_dead x (WasCollected u e) = ap is_live_phase e
hand_dead x (WasBare u e) = ap is_live_phase e
hand_dead x (WasEnded u e) = ap is_live_phase e

placed_dead : (g : ℕ) (b : Block) (f : ℕ) → is_live_phase (placed_phase g b f) ≡ false
placed_dead g b f = by_head (f == b.at)
  where
    by_head : (t : Bool) → is_live_phase (cond t (Head (record { group = g; order = b.order }) Bare) (Tail g)) ≡ false
    by_head true = refl
    by_head false = refl

block_live : (phases : ℕ → Phase) (g : ℕ) (b : Block) (f : ℕ) → is_live_phase (with_block phases g b f) ≡ true → is_live_phase (phases f) ≡ true
block_live phases g b f live =
    elim (within_cases b.at (2 ^ b.order) f) [
      | inl within ↦ absurd (true≢false (sym live ∙ ap is_live_phase (in_block phases g b f within.0) ∙ placed_dead g b f))
      | inr without ↦ sym (ap is_live_phase (off_block phases g b f without.0)) ∙ live
    ]

unit_live : (phases : ℕ → Phase) (g f : ℕ) → is_live_phase (without_unit phases g f) ≡ true → is_live_phase (phases f) ≡ true
unit_live phases g f live =
    elim (within_cases g (unit_size (unit_of (phases g))) f) [
      | inl within ↦ absurd (true≢false (sym live ∙ ap is_live_phase (in_unit phases g f within.0)))
      | inr without ↦ sym (ap is_live_phase (off_unit phases g f without.0)) ∙ live
    ]

-- ---- a live frame has 1 to 255 references
abbrev IsReferred : ℕ → State → Type 0
IsReferred f s = is_live_phase (s.phases f) ≡ true → (1 ≤ live_references s f) × (live_references s f ≤ 255)

pub held_range : (n : ℕ) → Held ≡ get_answer n → (1 ≤ n) × (n ≤ 254)
held_range n h =
    let both = and_parts (nat_le 1 n) (nat_le n 254) (held_case (nat_le 1 n && nat_le n 254) (n == 255) h) in
    (leb-true 1 n both.0, leb-true n 254 both.1)

-- how many references there are after a step
more_by_one : (t r l : ℕ) → t + r ≡ l + (r + 1) → 1 ≤ l → l ≤ 254 → (1 ≤ t) × (t ≤ 255)
more_by_one t r l e low high = (omega arith, omega arith)

less_by_one : (t r l n : ℕ) → t + r ≡ l + (r - 1) → 1 ≤ r → l ≡ n + 1 → 1 ≤ n → l ≤ 255 → (1 ≤ t) × (t ≤ 255)
less_by_one t r l n e one all left top = (omega arith, omega arith)

first_given : (t r l n : ℕ) → t + r ≡ l + (r + n) → l ≡ 0 → 1 ≤ n → n ≤ 255 → (1 ≤ t) × (t ≤ 255)
first_given t r l n e none low high = (omega arith, omega arith)

as_many : (t l : ℕ) → t ≡ l → (1 ≤ l) × (l ≤ 255) → (1 ≤ t) × (t ≤ 255)
as_many t l e range = subst (λ (m : ℕ). (1 ≤ m) × (m ≤ 255)) (sym e) range

zero_low : (n : ℕ) → 0 ≤ n
zero_low n = omega arith

referred_made : (f : ℕ) (s : State) (seat : ℕ) (action : Action) (answer : Answer) → KeepsInvariant s → IsReferred f s → IsMade s seat action answer →
    IsReferred f (after s seat action answer)
referred_made f s seat action Illegal sound holds made = absurd (no_illegal s seat action made.answered)
referred_made f s seat (Get g) Held sound holds made = λ live.
    let cpu : is_cpu s.zone seat ≡ true = (get_tests s seat g made.legal).0 in
    let there : seat ≤ s.zone.cpus = leb-true seat s.zone.cpus (and_parts (nat_le 1 seat) (nat_le seat s.zone.cpus) cpu).1 in
    let later = after s seat (Get g) Held in
    elim (cases_eq f g) [
      | inl same ↦
          let range = held_range (live_references s g) made.counted in
          subst (λ (m : ℕ). (1 ≤ live_references (after s seat (Get g) Held) m) × (live_references (after s seat (Get g) Held) m ≤ 255)) (sym same)
          (more_by_one (live_references later g) (s.references seat g) (live_references s g) (sum_changed s seat g (s.references seat g + 1) there)
          range.0 range.1)
      | inr ne ↦ as_many (live_references later f) (live_references s f) (sum_others s seat g (s.references seat g + 1) f ne) (holds live)
    ]
referred_made f s seat (Put g) (Left n) sound holds made = λ live.
    let some : nat_le 1 (s.references seat g) ≡ true = (put_tests s seat g made.legal).2 in
    let one : 1 ≤ s.references seat g = leb-true 1 (s.references seat g) some in
    let there = seat_there s seat g sound one in
    let later = after s seat (Put g) (Left n) in
    elim (cases_eq f g) [
      | inl same ↦
          let top : live_references s g ≤ 255 = subst (λ (m : ℕ). live_references s m ≤ 255) same (holds live).1 in
          subst (λ (m : ℕ). (1 ≤ live_references (after s seat (Put g) (Left n)) m) × (live_references (after s seat (Put g) (Left n)) m ≤ 255)) (sym same)
          (less_by_one (live_references later g) (s.references seat g) (live_references s g) n (sum_changed s seat g (s.references seat g - 1) there)
          one made.counted.0 made.counted.1 top)
      | inr ne ↦ as_many (live_references later f) (live_references s f) (sum_others s seat g (s.references seat g - 1) f ne) (holds live)
    ]
referred_made f s seat (Put g) Last sound holds made = λ live.
    let off = live_off s.phases g (at_stage (stage_after_last seat) (s.phases g)) f (last_dead seat (s.phases g)) live in
    as_many (live_references (after s seat (Put g) Last) f) (live_references s f) (sum_others s seat g (s.references seat g - 1) f off.0) (holds off.1)
referred_made f s seat (Freeze g n) Done sound holds made = λ live.
    let off = live_off s.phases g (at_stage AwaitsReturn (s.phases g)) f (frozen_dead (s.phases g)) live in
    as_many (live_references (after s seat (Freeze g n) Done) f) (live_references s f) (sum_others s 0 g (s.references 0 g - n) f off.0) (holds off.1)
referred_made f s seat (Unfreeze g n) Done sound holds made = λ live.
    let tests = unfreeze_tests s seat g n made.legal in
    let later = after s seat (Unfreeze g n) Done in
    elim (cases_eq f g) [
      | inl same ↦
          let dead = hand_dead (s.phases g) (in_hand (s.phases g) tests.2) in
          let none : live_references s g ≡ 0 = sum_none (s.zone.cpus + 1) (λ k. s.references k g) (λ k below. (sound.frames g).unreferred dead k) in
          subst (λ (m : ℕ). (1 ≤ live_references (after s seat (Unfreeze g n) Done) m) × (live_references (after s seat (Unfreeze g n) Done) m ≤ 255)) (sym same)
          (first_given (live_references later g) (s.references 0 g) (live_references s g) n (sum_changed s 0 g (s.references 0 g + n) (zero_low s.zone.cpus))
          none (leb-true 1 n tests.3) (leb-true n 255 tests.4))
      | inr ne ↦ as_many (live_references later f) (live_references s f) (sum_others s 0 g (s.references 0 g + n) f ne)
          (holds (sym (ap is_live_phase (at_other s.phases g (at_stage Live (s.phases g)) f ne)) ∙ live))
    ]
referred_made f s seat (PassOut g p) Done sound holds made = λ live. holds (live_at s.phases g _ f (λ e. absurd (false≢true e)) live)
referred_made f s seat (TakeIn g) Done sound holds made = λ live. holds (live_at s.phases g _ f (λ e. absurd (false≢true e)) live)
referred_made f s seat (PassBack g) Done sound holds made = λ live. holds (live_at s.phases g _ f (sent_live (s.phases g)) live)
referred_made f s seat (Collect g p) Done sound holds made = λ live. holds (live_at s.phases g _ f (got_live (s.phases g)) live)
referred_made f s seat (Consume g) Took sound holds made = λ live. holds (live_at s.phases _ _ f (λ e. absurd (false≢true e)) live)
referred_made f s seat (Credit g) Stocked sound holds made = λ live. holds (live_at s.phases g _ f (λ e. absurd (false≢true e)) live)
referred_made f s seat (PlaceBlock g k) (Placed b) sound holds made = λ live. holds (block_live s.phases g b f live)
referred_made f s seat (Return g) Done sound holds made = λ live. holds (unit_live s.phases g f live)
referred_made f s seat Lock answer sound holds made = holds
referred_made f s seat action answer sound holds made = holds

referred_allowed : (f : ℕ) (s : State) (seat : ℕ) (action : Action) (answer : Answer) → KeepsInvariant s → IsReferred f s → Allows s seat action answer →
    IsReferred f (after s seat action answer)
referred_allowed f s seat action answer sound holds ok =
    elim (allowed s seat action answer ok) [
      | inl illegal ↦ subst (IsReferred f) (sym (ap (after s seat action) illegal ∙ after_illegal s seat action)) holds
      | inr made ↦ referred_made f s seat action answer sound holds made
    ]

pub live_are_referenced : AllLiveAreReferenced
live_are_referenced zone run legal f =
    let sound = sound_run zone run legal in
    let kept = kept_along (λ (x : ℕ) (e : Step × Answer). x) (λ s x. IsReferred f s)
    (λ s x e sound holds ok. referred_allowed f s e.0.seat e.0.action e.1 sound holds ok) (at_boot zone) 0 run (sound_boot zone)
    (λ live. absurd (false≢true live)) legal in
    record { none = (sound.frames f).unreferred; some = kept.1 }
