-- What a legal step finds: room on a list, pages in a book (for the actions in hand_over, references and stocks).
use Rattle.std.proofs.Common.{◌≡◌, ℕ, ◌+◌, ◌-◌, ◌^◌, ◌<◌, ◌≤◌, ◌||◌, ◌==◌, true, false, length, sym, ◌∙◌, ap, arith, inl, inr, cond}
use Rattle.std.specs.Prelude.{nat_le}
use Rattle.std.proofs.lemmas.Bool.{cases_lt, false≢true, leb-true, ltb-true, or_cases, and_parts, eqb-true, ne_eqb}
use Rattle.step_rules.specs.declared.phase.Phase.{Phase}
use Rattle.step_rules.specs.declared.step.Action.TheVariants.{Get, Put, TakeIn, Credit, Consume, Unfreeze}
use Rattle.step_rules.specs.Phases.{ListFrame, FreshFrame}
use Rattle.step_rules.specs.{has_as, is_head_in_hand, is_live_phase, passes_out, at_stage, with_part, with_phase, with_references, with_back}
use Rattle.step_rules.specs.{after_last, with_at, is_cpu, is_frame, live_references, may_zone_act, is_legal}
use Rattle.step_rules.specs.declared.phase.Stage.TheVariants.{AwaitsReturn, BackAt}
use Rattle.step_rules.specs.State.{State}
use Rattle.step_rules.proofs.LegalTests.{consume_tests}
use Rattle.step_rules.proofs.Sums.{sum_part}
use Rattle.step_rules.proofs.PhaseLemmas.{out_is, fresh_is, in_hand, WasCollected, WasBare, WasEnded}
use Rattle.mem_core.specs.Rooms.{IsBelowBounds}

pub out_unlisted : (p : ℕ) (x : Phase) → passes_out p x ≡ true → has_as ListFrame p x ≡ false
out_unlisted p x e = ap (has_as ListFrame p) (out_is p x e)

pub fresh_unlisted : (p : ℕ) (x : Phase) → has_as FreshFrame p x ≡ true → has_as ListFrame p x ≡ false
fresh_unlisted p x e = ap (has_as ListFrame p) (fresh_is p x e).1

pub take_in_room : (s : State) (p f : ℕ) → IsBelowBounds s → is_legal s p (TakeIn f) ≡ true → length (s.parts p).list < s.zone.frames
take_in_room s p f few legal =
    let frame : is_frame s.zone f ≡ true = grind (arith, legal) in
    let out : passes_out p (s.phases f) ≡ true = grind (arith, legal) in
    few.room p ListFrame f (ltb-true f s.zone.frames frame) (out_unlisted p (s.phases f) out)

pub credit_room : (s : State) (p f : ℕ) → IsBelowBounds s → is_legal s p (Credit f) ≡ true → length (s.parts p).list < s.zone.frames
credit_room s p f few legal =
    let frame : is_frame s.zone f ≡ true = grind (arith, legal) in
    let fresh : has_as FreshFrame p (s.phases f) ≡ true = grind (arith, legal) in
    few.room p ListFrame f (ltb-true f s.zone.frames frame) (fresh_unlisted p (s.phases f) fresh)

-- a CPU that puts a frame has it for a pin
pub put_room : (s : State) (p f : ℕ) → IsBelowBounds s → (p ≡ 0 → ⊥) → is_legal s p (Put f) ≡ true → length (s.parts p).back < 256
put_room s p f few ne legal =
    let seat : (is_cpu s.zone p || may_zone_act s.hold p) ≡ true = grind (arith, legal) in
    let frame : is_frame s.zone f ≡ true = grind (arith, legal) in
    let some : nat_le 1 (s.references p f) ≡ true = grind (arith, legal) in
    let cpu : is_cpu s.zone p ≡ true = elim (or_cases (is_cpu s.zone p) (may_zone_act s.hold p) seat) [
      | inl is ↦ is
      | inr zone ↦ absurd (ne (let e : (p == 0) ≡ true = grind (arith, zone) in eqb-true p 0 e))
    ] in
    let one = leb-true 1 (s.references p f) some in
    let part = sum_part s.zone.frames (s.references p) f (ltb-true f s.zone.frames frame) in
    let most = few.pins p cpu in
    omega arith

-- a seat that puts is one of the sum
pub put_counts : (s : State) (p f : ℕ) → is_legal s p (Put f) ≡ true → 1 ≤ live_references s f
put_counts s p f legal =
    let seat : (is_cpu s.zone p || may_zone_act s.hold p) ≡ true = grind (arith, legal) in
    let some : nat_le 1 (s.references p f) ≡ true = grind (arith, legal) in
    let one = leb-true 1 (s.references p f) some in
    let below : p < s.zone.cpus + 1 = elim (or_cases (is_cpu s.zone p) (may_zone_act s.hold p) seat) [
      | inl cpu ↦ let h = leb-true p s.zone.cpus (and_parts (nat_le 1 p) (nat_le p s.zone.cpus) cpu).1 in omega arith
      | inr zone ↦ let e : (p == 0) ≡ true = grind (arith, zone) in let z : p ≡ 0 = eqb-true p 0 e in omega arith
    ] in
    let part = sum_part (s.zone.cpus + 1) (λ seat. s.references seat f) p below in
    omega arith

pub pages_few : (s : State) (p : ℕ) → IsBelowBounds s → (s.parts p).stock.pages < 2 ^ 100
pages_few s p few = let a = few.booked p in let b = few.books p in omega arith

pub unreported_few : (s : State) (p : ℕ) → IsBelowBounds s → (s.parts p).unreported < 2 ^ 100
unreported_few s p few = let a = few.booked p in let b = few.books p in omega arith

pub book_few : (s : State) (p : ℕ) → IsBelowBounds s → (s.parts p).book < 2 ^ 100
book_few s p few = let b = few.books p in omega arith

-- a CPU's last put: the frame joins its back frames
pub after_last_cpu : (s : State) (p f : ℕ) → (p ≡ 0 → ⊥) →
    with_part (with_phase (with_references s p f (s.references p f - 1)) f (at_stage (BackAt p) (s.phases f))) p (with_back (s.parts p) f) ≡ after_last s p f
after_last_cpu s p f ne =
    let other : (p == 0) ≡ false = ne_eqb p 0 ne in
    λ i. record s {
      references = with_at s.references p (with_at (s.references p) f (s.references p f - 1));
      phases = with_at s.phases f (at_stage (cond (sym other i) AwaitsReturn (BackAt p)) (s.phases f));
      parts = cond (sym other i) s.parts (with_at s.parts p (with_back (s.parts p) f));
    }

-- a CPU that pays has room for one more fresh frame
pub consume_room : (s : State) (p g : ℕ) → is_legal s p (Consume g) ≡ true → length (s.parts p).fresh < 32
consume_room s p g legal = ltb-true (length (s.parts p).fresh) 32 (consume_tests s p g legal).2

pub consume_some : (s : State) (p g : ℕ) → is_legal s p (Consume g) ≡ true → 1 ≤ length (s.parts p).list
consume_some s p g legal =
    let some : nat_le 1 (length (s.parts p).list) ≡ true = grind (arith, legal) in
    leb-true 1 (length (s.parts p).list) some

-- a seat's references are some of all
pub get_few : (s : State) (p f : ℕ) → is_legal s p (Get f) ≡ true → s.references p f ≤ live_references s f
get_few s p f legal =
    let cpu : is_cpu s.zone p ≡ true = grind (arith, legal) in
    let high = leb-true p s.zone.cpus (and_parts (nat_le 1 p) (nat_le p s.zone.cpus) cpu).1 in
    sum_part (s.zone.cpus + 1) (λ seat. s.references seat f) p (omega arith)

hand_not_live : (x : Phase) → is_head_in_hand x ≡ true → is_live_phase x ≡ false
hand_not_live x e = elim (in_hand x e) [
  | WasCollected u is ↦ ap is_live_phase is
  | WasBare u is ↦ ap is_live_phase is
  | WasEnded u is ↦ ap is_live_phase is
]

-- a unit in the zone's hand has no reference
pub unfreeze_few : (s : State) (p f m : ℕ) → IsBelowBounds s → is_legal s p (Unfreeze f m) ≡ true → s.references 0 f + m ≤ 255
unfreeze_few s p f m few legal =
    let hand : is_head_in_hand (s.phases f) ≡ true = grind (arith, legal) in
    let top : nat_le m 255 ≡ true = grind (arith, legal) in
    let most = leb-true m 255 top in
    elim (cases_lt 0 (s.references 0 f)) [
      | inl some ↦ absurd (false≢true (sym (hand_not_live (s.phases f) hand) ∙ few.live 0 f some))
      | inr none ↦ omega arith
    ]
