-- A CPU has at most 32 fresh frames, and at most 256 pins and back frames. Serves `parts_are_booked`.
use Rattle.std.proofs.Common.{◌≡◌, ℕ, ◌+◌, ◌-◌, ◌<◌, ◌≤◌, ◌==◌, Bool, true, false, length, refl, sym, ◌∙◌, ap, subst, arith, inl, inr, cond, if◌then◌else◌}
use Rattle.std.specs.Prelude.{nat_le, nat_lt}
use Rattle.std.proofs.lemmas.Bool.{cases_eq, ne_eqb, leb-true, ltb-true}
use Rattle.step_rules.specs.declared.step.Action.{Action}
use Rattle.step_rules.specs.declared.step.Action.TheVariants.{Lock, Get, Put, Freeze, Unfreeze, TakeIn, PassBack, Consume, Credit, Report, Absorb, Fill}
use Rattle.step_rules.specs.declared.step.Action.TheVariants.{DrainStock}
use Rattle.step_rules.specs.declared.step.Answer.{Answer}
use Rattle.step_rules.specs.declared.step.Answer.TheVariants.{Illegal, Done, Held, Left, Last, Took, Stocked, Pages}
use Rattle.step_rules.specs.{Zone, Part, at_boot, with_at, sum_to, front_of, is_cpu, is_frame, pins_of, IsMade, Run, IsLegalRun, after, state_of}
use Rattle.step_rules.specs.{with_listed, with_report, absorbed, paid, credited, filled, drained, without_frame, with_back, KeepsInvariant}
use Rattle.step_rules.specs.State.{State}
use Rattle.step_rules.proofs.LegalTests.{consume_tests, get_tests, put_tests}
use Rattle.step_rules.proofs.Basics.{at_same, at_other, at_each}
use Rattle.step_rules.proofs.Sums.{sum_change, sum_none}
use Rattle.step_rules.proofs.Lists.{length_last, length_without}
use Rattle.step_rules.proofs.SoundSteps.{below_frames, cpu_range}
use Rattle.step_rules.proofs.Placed.{zone_kept}
use Rattle.step_rules.proofs.LocalLaws.{no_illegal}
use Rattle.step_rules.proofs.Telling.{told_run}

-- ---- fresh frames
abbrev HaveFewFresh : (ℕ → Part) → Type 0
HaveFewFresh parts = (p : ℕ) → length (parts p).fresh ≤ 32

one_few : (parts : ℕ → Part) (q : ℕ) (part : Part) → HaveFewFresh parts → length part.fresh ≤ 32 → HaveFewFresh (with_at parts q part)
one_few parts q part few so = at_each parts q part (λ k x. length x.fresh ≤ 32) so (λ k ne. few k)

fresh_made : (s : State) (x : ℕ) (seat : ℕ) (action : Action) (answer : Answer) → KeepsInvariant s → HaveFewFresh s.parts → IsMade s seat action answer →
    HaveFewFresh (after s seat action answer).parts
fresh_made s x seat action Illegal sound few made = absurd (no_illegal s seat action made.answered)
fresh_made s x seat (Put f) Last sound few made = by_seat (seat == 0)
  where
    by_seat : (c : Bool) → HaveFewFresh (cond c s.parts (with_at s.parts seat (with_back (s.parts seat) f)))
    by_seat true = few
    by_seat false = one_few s.parts seat (with_back (s.parts seat) f) few (few seat)
fresh_made s x seat (TakeIn f) Done sound few made = one_few s.parts seat (with_listed (s.parts seat) f) few (few seat)
fresh_made s x seat (PassBack f) Done sound few made =
    one_few s.parts seat (without_frame (s.parts seat) (s.phases f) seat f) few
    (let a = length_without f (s.parts seat).fresh in let b = few seat in omega arith)
fresh_made s x seat (Consume g) Took sound few made =
    let legal = made.legal in
    let low : nat_lt (length (s.parts seat).fresh) 32 ≡ true = (consume_tests s seat g legal).2 in
    one_few s.parts seat (paid (s.parts seat)) few
    (let a = length_last (front_of (s.parts seat).list) (s.parts seat).fresh in
    let b = ltb-true (length (s.parts seat).fresh) 32 low in omega arith)
fresh_made s x seat (Credit f) Stocked sound few made =
    one_few s.parts seat (credited (s.parts seat) f) few (let a = length_without f (s.parts seat).fresh in let b = few seat in omega arith)
fresh_made s x seat (Report n) Done sound few made = one_few s.parts seat (with_report (s.parts seat) n) few (few seat)
fresh_made s x seat (Absorb p) (Pages n) sound few made = one_few s.parts p (absorbed (s.parts p) n) few (few p)
fresh_made s x seat (Fill p g n) Done sound few made = one_few s.parts p (filled (s.parts p) g n) few (few p)
fresh_made s x seat (DrainStock p) (Pages n) sound few made = one_few s.parts p (drained (s.parts p) n) few (few p)
fresh_made s x seat Lock answer sound few made = few
fresh_made s x seat action answer sound few made = few

pub few_fresh : (zone : Zone) (run : Run) → IsLegalRun zone run → (p : ℕ) → length ((state_of zone run).parts p).fresh ≤ 32
few_fresh zone run legal =
    told_run (λ (x : ℕ) seat action answer. x) (λ s x. HaveFewFresh s.parts) (λ x seat action. refl) fresh_made zone 0 (λ p. omega arith) run legal

-- ---- pins and back frames
abbrev pub pins_in : (ℕ → ℕ → ℕ) → ℕ → ℕ → ℕ
pins_in references frames p = sum_to frames (λ f. references p f)

abbrev pub HaveFewPins : Zone → (ℕ → ℕ → ℕ) → (ℕ → Part) → Type 0
HaveFewPins zone references parts = (p : ℕ) → is_cpu zone p ≡ true → pins_in references zone.frames p + length (parts p).back ≤ 256

-- other back frames, no more than before
back_few : (zone : Zone) (references : ℕ → ℕ → ℕ) (parts : ℕ → Part) (q : ℕ) (part : Part) → HaveFewPins zone references parts →
    length part.back ≤ length (parts q).back → HaveFewPins zone references (with_at parts q part)
back_few zone references parts q part few so p cpu =
    elim (cases_eq p q) [
      | inl e ↦
          let a : with_at parts q part p ≡ part = ap (with_at parts q part) e ∙ at_same parts q part in
          let b : length (with_at parts q part p).back ≡ length part.back = ap (λ (x : Part). length x.back) a in
          let c : length (parts p).back ≡ length (parts q).back = ap (λ (k : ℕ). length (parts k).back) e in
          let d = few p cpu in
          omega arith
      | inr ne ↦
          let b : length (with_at parts q part p).back ≡ length (parts p).back = ap (λ (x : Part). length x.back) (at_other parts q part p ne) in
          let d = few p cpu in
          omega arith
    ]

-- the references of one seat on one frame change
pins_here : (references : ℕ → ℕ → ℕ) (frames seat f n : ℕ) → f < frames →
    pins_in (with_at references seat (with_at (references seat) f n)) frames seat + references seat f ≡ pins_in references frames seat + n
pins_here references frames seat f n below =
    let a = sum_change frames (references seat) f n below in
    let b : pins_in (with_at references seat (with_at (references seat) f n)) frames seat ≡ sum_to frames (with_at (references seat) f n) =
    ap (λ (h : ℕ → ℕ). sum_to frames (λ m. h m)) (at_same references seat (with_at (references seat) f n)) in
    omega arith

pins_there : (references : ℕ → ℕ → ℕ) (frames seat f n p : ℕ) → (p ≡ seat → ⊥) →
    pins_in (with_at references seat (with_at (references seat) f n)) frames p ≡ pins_in references frames p
pins_there references frames seat f n p ne =
    ap (λ (h : ℕ → ℕ). sum_to frames (λ m. h m)) (at_other references seat (with_at (references seat) f n) p ne)

-- one reference more, where there was room, or fewer
more_few : (s : State) (seat f n : ℕ) → HaveFewPins s.zone s.references s.parts → f < s.zone.frames →
    pins_of s seat + n + length (s.parts seat).back ≤ 256 + s.references seat f →
    HaveFewPins s.zone (with_at s.references seat (with_at (s.references seat) f n)) s.parts
more_few s seat f n few below room p cpu =
    elim (cases_eq p seat) [
      | inl e ↦
          let a = pins_here s.references s.zone.frames seat f n below in
          let b : pins_in (with_at s.references seat (with_at (s.references seat) f n)) s.zone.frames p + length (s.parts p).back
          ≡ pins_in (with_at s.references seat (with_at (s.references seat) f n)) s.zone.frames seat + length (s.parts seat).back =
          ap (λ (k : ℕ). pins_in (with_at s.references seat (with_at (s.references seat) f n)) s.zone.frames k + length (s.parts k).back) e in
          omega arith
      | inr ne ↦
          let a = pins_there s.references s.zone.frames seat f n p ne in
          let b = few p cpu in
          omega arith
    ]

-- the zone's references are nobody's pins
zone_few : (s : State) (f n : ℕ) → HaveFewPins s.zone s.references s.parts → HaveFewPins s.zone (with_at s.references 0 (with_at (s.references 0) f n)) s.parts
zone_few s f n few p cpu =
    let low = (cpu_range s.zone p cpu).0 in
    let a = pins_there s.references s.zone.frames 0 f n p (λ e. (omega arith)) in
    let b = few p cpu in
    omega arith

pub pins_made : (s : State) (x : ℕ) (seat : ℕ) (action : Action) (answer : Answer) → KeepsInvariant s → HaveFewPins s.zone s.references s.parts → IsMade s seat action answer →
    HaveFewPins s.zone (after s seat action answer).references (after s seat action answer).parts
pins_made s x seat action Illegal sound few made = absurd (no_illegal s seat action made.answered)
pins_made s x seat (Get f) Held sound few made =
    let legal = made.legal in
    let frame : is_frame s.zone f ≡ true = (get_tests s seat f legal).1 in
    let low : nat_lt (pins_of s seat + length (s.parts seat).back) 256 ≡ true = (get_tests s seat f legal).2 in
    more_few s seat f (s.references seat f + 1) few (below_frames s.zone f frame)
    (let a = ltb-true (pins_of s seat + length (s.parts seat).back) 256 low in omega arith)
pins_made s x seat (Put f) (Left n) sound few made = λ p cpu.
    let legal = made.legal in
    let frame : is_frame s.zone f ≡ true = (put_tests s seat f legal).1 in
    elim (cases_eq p seat) [
      | inl e ↦
          let own = few seat (ap (is_cpu s.zone) (sym e) ∙ cpu) in
          more_few s seat f (s.references seat f - 1) few (below_frames s.zone f frame) (omega arith) p cpu
      | inr ne ↦
          let a = pins_there s.references s.zone.frames seat f (s.references seat f - 1) p ne in
          let b = few p cpu in
          omega arith
    ]
pins_made s x seat (Put f) Last sound few made = λ p cpu.
    let legal = made.legal in
    let frame : is_frame s.zone f ≡ true = (put_tests s seat f legal).1 in
    let some_test : nat_le 1 (s.references seat f) ≡ true = (put_tests s seat f legal).2 in
    let some = leb-true 1 (s.references seat f) some_test in
    last p cpu (below_frames s.zone f frame) some
  where
    others : (p : ℕ) → (p ≡ seat → ⊥) → (b : Bool) → (cond b s.parts (with_at s.parts seat (with_back (s.parts seat) f))) p ≡ s.parts p
    others p ne true = refl
    others p ne false = at_other s.parts seat (with_back (s.parts seat) f) p ne

    last : (p : ℕ) → is_cpu s.zone p ≡ true → f < s.zone.frames → 1 ≤ s.references seat f →
        pins_in (with_at s.references seat (with_at (s.references seat) f (s.references seat f - 1))) s.zone.frames p
        + length ((if seat == 0 then s.parts else with_at s.parts seat (with_back (s.parts seat) f)) p).back ≤ 256
    last p cpu below some = elim (cases_eq p seat) [
      | inl e ↦
          let range = (cpu_range s.zone p cpu).0 in
          let off : (seat == 0) ≡ false = ne_eqb seat 0 (λ z. (omega arith)) in
          let own = few seat (ap (is_cpu s.zone) (sym e) ∙ cpu) in
          let a = pins_here s.references s.zone.frames seat f (s.references seat f - 1) below in
          let same : pins_in (with_at s.references seat (with_at (s.references seat) f (s.references seat f - 1))) s.zone.frames p
          ≡ pins_in (with_at s.references seat (with_at (s.references seat) f (s.references seat f - 1))) s.zone.frames seat =
          ap (pins_in (with_at s.references seat (with_at (s.references seat) f (s.references seat f - 1))) s.zone.frames) e in
          let part : (if seat == 0 then s.parts else with_at s.parts seat (with_back (s.parts seat) f)) p ≡ with_back (s.parts seat) f =
          ap (λ (b : Bool). (if b then s.parts else with_at s.parts seat (with_back (s.parts seat) f)) p) off
          ∙ ap (with_at s.parts seat (with_back (s.parts seat) f)) e ∙ at_same s.parts seat (with_back (s.parts seat) f) in
          let back : length ((if seat == 0 then s.parts else with_at s.parts seat (with_back (s.parts seat) f)) p).back ≡ length (with_back (s.parts seat) f).back =
          ap (λ (y : Part). length y.back) part in
          let one = length_last f (s.parts seat).back in
          omega arith
      | inr ne ↦
          let a = pins_there s.references s.zone.frames seat f (s.references seat f - 1) p ne in
          let part : (if seat == 0 then s.parts else with_at s.parts seat (with_back (s.parts seat) f)) p ≡ s.parts p = others p ne (seat == 0) in
          let back : length ((if seat == 0 then s.parts else with_at s.parts seat (with_back (s.parts seat) f)) p).back ≡ length (s.parts p).back =
          ap (λ (y : Part). length y.back) part in
          let b = few p cpu in
          omega arith
    ]
pins_made s x seat (Freeze f n) Done sound few made = zone_few s f (s.references 0 f - n) few
pins_made s x seat (Unfreeze f n) Done sound few made = zone_few s f (s.references 0 f + n) few
pins_made s x seat (TakeIn f) Done sound few made = back_few s.zone s.references s.parts seat (with_listed (s.parts seat) f) few (omega arith)
pins_made s x seat (PassBack f) Done sound few made =
    back_few s.zone s.references s.parts seat (without_frame (s.parts seat) (s.phases f) seat f) few
    (let a = length_without f (s.parts seat).back in omega arith)
pins_made s x seat (Consume g) Took sound few made = back_few s.zone s.references s.parts seat (paid (s.parts seat)) few (omega arith)
pins_made s x seat (Credit f) Stocked sound few made = back_few s.zone s.references s.parts seat (credited (s.parts seat) f) few (omega arith)
pins_made s x seat (Report n) Done sound few made = back_few s.zone s.references s.parts seat (with_report (s.parts seat) n) few (omega arith)
pins_made s x seat (Absorb p) (Pages n) sound few made = back_few s.zone s.references s.parts p (absorbed (s.parts p) n) few (omega arith)
pins_made s x seat (Fill p g n) Done sound few made = back_few s.zone s.references s.parts p (filled (s.parts p) g n) few (omega arith)
pins_made s x seat (DrainStock p) (Pages n) sound few made = back_few s.zone s.references s.parts p (drained (s.parts p) n) few (omega arith)
pins_made s x seat Lock answer sound few made = few
pins_made s x seat action answer sound few made = few

pub pins_boot : (zone : Zone) → HaveFewPins zone (at_boot zone).references (at_boot zone).parts
pins_boot zone q is = let none : pins_in (at_boot zone).references zone.frames q ≡ 0 = sum_none zone.frames (λ f. 0) (λ f below. refl) in omega arith

pub few_pins : (zone : Zone) (run : Run) → IsLegalRun zone run → (p : ℕ) → is_cpu zone p ≡ true →
    pins_of (state_of zone run) p + length ((state_of zone run).parts p).back ≤ 256
few_pins zone run legal p cpu =
    let s = state_of zone run in
    let kept = told_run (λ (x : ℕ) seat action answer. x) (λ t x. HaveFewPins zone t.references t.parts × (t.zone ≡ zone)) (λ x seat action. refl)
    (λ t x seat action answer sound few made. (
      subst (λ (z : Zone). HaveFewPins z (after t seat action answer).references (after t seat action answer).parts) few.1
          (pins_made t x seat action answer sound (subst (λ (z : Zone). HaveFewPins z t.references t.parts) (sym few.1) few.0) made),
      zone_kept t seat action answer ∙ few.1,
    )) zone 0 (pins_boot zone, refl) run legal in
    let few = kept.0 p cpu in
    let size : pins_of s p ≡ pins_in s.references zone.frames p = ap (λ (z : Zone). pins_in s.references z.frames p) kept.1 in
    omega arith
