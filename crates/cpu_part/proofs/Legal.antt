-- The frames that a CPU has in a sound state, and which of its steps without the lock are legal there.
use Rattle.std.proofs.Common.{◌≡◌, ℕ, ◌+◌, ◌<◌, ◌≤◌, ◌&&◌, ◌||◌, Bool, true, false, List, length, leb, ltb, refl, ap, sym, ◌∙◌, arith, inl, inr}
use Rattle.std.proofs.lemmas.Bool.{cases_lt, false≢true, le-leb, lt-ltb}
use Rattle.step_rules.specs.declared.phase.Phase.{Phase}
use Rattle.step_rules.specs.declared.phase.Phase.TheVariants as phase
use Rattle.step_rules.specs.declared.step.Action.TheVariants.{Get, Put, Consume, Credit}
use Rattle.step_rules.specs.{KeepsInvariant, is_legal, Kind, has_as, is_free, is_live_phase, frames_of, is_cpu, may_zone_act, one_if, pins_of, times}
use Rattle.step_rules.specs.Phases.{FreshFrame, ListFrame}
use Rattle.step_rules.specs.State.{State}
use Rattle.step_rules.proofs.Lists.{count_length, one_if_true}
use Rattle.step_rules.proofs.Sums.{sum_same}
use Rattle.cpu_part.specs.{KnownCpuLists, HasOwn}

at_most_one : (b : Bool) → one_if b ≤ 1
at_most_one true = omega arith
at_most_one false = omega arith

-- a free frame is on no list and has no reference
free_has : (kind : Kind) (q : ℕ) (x : Phase) → is_free x ≡ true → has_as kind q x ≡ false
free_has kind q phase.InZone free = refl
free_has kind q (phase.Lent p way) free = absurd (false≢true free)
free_has kind q (phase.Head u stage) free = absurd (false≢true free)
free_has kind q (phase.Tail g) free = absurd (false≢true free)

free_dead : (x : Phase) → is_free x ≡ true → is_live_phase x ≡ false
free_dead phase.InZone free = refl
free_dead (phase.Lent p way) free = absurd (false≢true free)
free_dead (phase.Head u stage) free = absurd (false≢true free)
free_dead (phase.Tail g) free = absurd (false≢true free)

module _ (s : State) (sound : KeepsInvariant s) (c : KnownCpuLists) (own : HasOwn s c) where
  listed_inside : (f : ℕ) (kind : Kind) → 1 ≤ times f (frames_of (s.parts c.number) kind) → f < s.zone.frames
  listed_inside f kind some = elim (cases_lt f s.zone.frames) [
    | inl low ↦ low
    | inr past ↦
        let none = sound.lists c.number kind f ∙ ap one_if (free_has kind c.number (s.phases f) ((sound.frames f).inside past)) in
        absurd (omega (arith, none, some))
  ]

  -- ---- its frames are the zone's, and on a list once

  pub list_inside : (f : ℕ) → 1 ≤ times f c.list → f < s.zone.frames
  list_inside f some = listed_inside f ListFrame (let e = ap (times f) own.list in omega (arith, e, some))

  pub fresh_inside : (f : ℕ) → 1 ≤ times f c.fresh → f < s.zone.frames
  fresh_inside f some = listed_inside f FreshFrame (let e = ap (times f) own.fresh in omega (arith, e, some))

  pub pin_inside : (f : ℕ) → 1 ≤ times f c.pins → f < s.zone.frames
  pin_inside f some = elim (cases_lt f s.zone.frames) [
    | inl low ↦ low
    | inr past ↦
        let none = (sound.frames f).unreferred (free_dead (s.phases f) ((sound.frames f).inside past)) c.number in
        let own = own.references f in
        absurd (omega (arith, none, own, some))
  ]

  pub listed_once : (f : ℕ) → times f c.list ≤ 1
  listed_once f =
      let e = ap (times f) (sym own.list) ∙ sound.lists c.number ListFrame f in
      let few = at_most_one (has_as ListFrame c.number (s.phases f)) in omega (arith, e, few)

  fresh_as : (f : ℕ) → times f c.fresh ≡ one_if (has_as FreshFrame c.number (s.phases f))
  fresh_as f = ap (times f) (sym own.fresh) ∙ sound.lists c.number FreshFrame f

  pub fresh_once : (f : ℕ) → times f c.fresh ≤ 1
  fresh_once f = let e = fresh_as f in let few = at_most_one (has_as FreshFrame c.number (s.phases f)) in omega (arith, e, few)

  -- ---- its steps

  module _ (cpu : is_cpu s.zone c.number ≡ true) where
    pub legal_consume : (g : ℕ) → 1 ≤ length c.list → length c.fresh < 32 → is_legal s c.number (Consume g) ≡ true
    legal_consume g some short =
        let list : leb 1 (length (s.parts c.number).list) ≡ true = ap (λ (l : List ℕ). leb 1 (length l)) own.list ∙ le-leb 1 (length c.list) some in
        let fresh : ltb (length (s.parts c.number).fresh) 32 ≡ true = ap (λ (l : List ℕ). ltb (length l) 32) own.fresh ∙ lt-ltb (length c.fresh) 32 short in
        λ i. cpu i && list i && fresh i

    pub legal_credit : (f : ℕ) → 1 ≤ times f c.fresh → is_legal s c.number (Credit f) ≡ true
    legal_credit f some =
        let told = fresh_as f in
        let inside = lt-ltb f s.zone.frames (fresh_inside f some) in
        let fresh = one_if_true (has_as FreshFrame c.number (s.phases f)) (omega (arith, told, some)) in
        λ i. cpu i && inside i && fresh i

    pub legal_put : (f : ℕ) → 1 ≤ times f c.pins → is_legal s c.number (Put f) ≡ true
    legal_put f some =
        let inside = lt-ltb f s.zone.frames (pin_inside f some) in
        let has : leb 1 (s.references c.number f) ≡ true = le-leb 1 (s.references c.number f) (let r = own.references f in omega (arith, r, some)) in
        λ i. (cpu i || may_zone_act s.hold c.number) && inside i && has i

    pub legal_get : (f : ℕ) → f < s.zone.frames → length c.back + length c.pins < 256 → is_legal s c.number (Get f) ≡ true
    legal_get f below room =
        let none : (m : ℕ) → s.zone.frames ≤ m → times m c.pins ≡ 0 = λ m past. elim (cases_lt 0 (times m c.pins)) [
          | inl some ↦ absurd (let low = pin_inside m (omega (arith, some)) in omega (arith, low, past))
          | inr few ↦ omega (arith, few)
        ] in
        let pins : pins_of s c.number ≡ length c.pins =
        sum_same s.zone.frames (s.references c.number) (λ m. times m c.pins) (λ m inside. own.references m)
        ∙ count_length s.zone.frames c.pins none in
        let back = ap length own.back in
        let inside = lt-ltb f s.zone.frames below in
        let few = lt-ltb (pins_of s c.number + length (s.parts c.number).back) 256 (omega (arith, pins, back, room)) in
        λ i. cpu i && inside i && few i
