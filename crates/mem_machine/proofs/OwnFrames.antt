-- The frames in the lists of the lock's holder, by what it sees after a legal run. Serves the calls that move them.
use Rattle.std.proofs.Common.{◌≡◌, ℕ, ◌≤◌, true, false, Option, Some, None, length, refl, sym, ap, ◌∙◌, subst, inl, inr, arith}
use Rattle.std.proofs.lemmas.Bool.{cases_lt, false≢true, lt-ltb}
use Rattle.step_rules.specs.declared.phase.ChargedUnit.{ChargedUnit}
use Rattle.step_rules.specs.declared.phase.Stage.TheVariants.{FreshAt, BackAt}
use Rattle.step_rules.specs.declared.phase.Way.TheVariants.{OnList}
use Rattle.step_rules.specs.declared.phase.Phase.{Phase}
use Rattle.step_rules.specs.declared.phase.Phase.TheVariants.{Lent, Head}
use Rattle.step_rules.specs.{Kind, has_as, is_free, is_live_phase, Part, Zone, frames_of, front_of, is_frame, one_if, times, Run, state_of}
use Rattle.step_rules.specs.{IsLegalRun, PhasePaid, groups_in, IsBooked, KeepsInvariant, phase_seen_by, seen_by}
use Rattle.step_rules.specs.Phases.{ListFrame, FreshFrame, BackFrame}
use Rattle.step_rules.specs.State.{State}
use Rattle.step_rules.proofs.CoverParts.{own_part, own_reference}
use Rattle.step_rules.proofs.CoverPhases.{own_back, own_fresh}
use Rattle.step_rules.proofs.Lists.{front_stands, one_if_true}
use Rattle.step_rules.proofs.PhaseLemmas.{back_is, fresh_is, listed_is}
use Rattle.step_rules.proofs.Runs.{sound_run}

-- The CPU has the frame, whose phase this is. It is a frame of the zone, which has no reference on it, and it is in the
-- list of that phase once and in no other.
pub record HasFrame (s : State) (p : ℕ) (x : Phase) (f : ℕ) : Type 0 where
  pub phase_is : s.phases f ≡ x
  pub framed : is_frame s.zone f ≡ true
  pub unreferred : s.references 0 f ≡ 0
  pub listed : times f (s.parts p).list ≡ one_if (has_as ListFrame p x)
  pub fresh : times f (s.parts p).fresh ≡ one_if (has_as FreshFrame p x)
  pub back : times f (s.parts p).back ≡ one_if (has_as BackFrame p x)

abbrev number : Option ℕ → ℕ
number None = 0
number (Some n) = n

module _ (zone : Zone) (run : Run) (p : ℕ) (legal : IsLegalRun zone run) where
  abbrev u : State
  u = state_of zone run

  abbrev s : State
  s = seen_by p (state_of zone run)

  sound : KeepsInvariant (state_of zone run)
  sound = sound_run zone run legal

  mine : (seen_by p (state_of zone run)).parts p ≡ (state_of zone run).parts p
  mine = own_part p (state_of zone run).parts p refl

  -- how often a frame is in a list of the CPU
  counted : (kind : Kind) (f : ℕ) → times f (frames_of (s.parts p) kind) ≡ one_if (has_as kind p (u.phases f))
  counted kind f = ap (λ (x : Part). times f (frames_of x kind)) mine ∙ sound.lists p kind f

  -- the phase of a frame in a list
  has : (kind : Kind) (f : ℕ) → 1 ≤ times f (frames_of (s.parts p) kind) → has_as kind p (u.phases f) ≡ true
  has kind f some = one_if_true (has_as kind p (u.phases f)) (let a = counted kind f in omega (arith, a, some))

  own : (f : ℕ) (x : Phase) → u.phases f ≡ x → phase_seen_by p x ≡ x → is_free x ≡ false → is_live_phase x ≡ false → HasFrame s p x f
  own f x is seen used idle =
      let fits = sound.frames f in record {
        phase_is = ap (phase_seen_by p) is ∙ seen;
        framed = elim (cases_lt f u.zone.frames) [
          | inl below ↦ lt-ltb f u.zone.frames below
          | inr past ↦ absurd (false≢true (sym (ap is_free is ∙ used) ∙ fits.inside past))
        ];
        unreferred = own_reference p u.references 0 f (inl refl) ∙ fits.unreferred (ap is_live_phase is ∙ idle) 0;
        listed = counted ListFrame f ∙ ap (λ (y : Phase). one_if (has_as ListFrame p y)) is;
        fresh = counted FreshFrame f ∙ ap (λ (y : Phase). one_if (has_as FreshFrame p y)) is;
        back = counted BackFrame f ∙ ap (λ (y : Phase). one_if (has_as BackFrame p y)) is;
      }

  pub listed_own : (f : ℕ) → 1 ≤ times f (s.parts p).list → HasFrame s p (Lent p OnList) f
  listed_own f some = own f (Lent p OnList) (listed_is p (u.phases f) (has ListFrame f some)) refl refl refl

  pub back_own : (f : ℕ) → 1 ≤ times f (s.parts p).back → (unit : ChargedUnit) × HasFrame s p (Head unit (BackAt p)) f
  back_own f some =
      let is = back_is p (u.phases f) (has BackFrame f some) in
      (is.0, own f (Head is.0 (BackAt p)) is.1 (own_back is.0 p) refl refl)

  -- the group of the stock paid for a fresh frame
  paid : (f : ℕ) (unit : ChargedUnit) → u.phases f ≡ Head unit (FreshAt p) → (g : ℕ) → (s.parts p).stock.group ≡ Some g
      → unit ≡ record { group = g; order = 0 }
  paid f unit is g of =
      let by : PhasePaid u.zone.cpus (groups_in u.parts) (Head unit (FreshAt p)) = subst (PhasePaid u.zone.cpus (groups_in u.parts)) is (sound.frames f).paid in
      let same : Some unit.group ≡ Some g = sym by.group ∙ ap (λ (x : Part). x.stock.group) (sym mine) ∙ of in
      λ i. record { group = ap number same i; order = by.order i }

  pub fresh_own : (f g : ℕ) → 1 ≤ times f (s.parts p).fresh → (s.parts p).stock.group ≡ Some g
      → HasFrame s p (Head (record { group = g; order = 0 }) (FreshAt p)) f
  fresh_own f g some of =
      let is = fresh_is p (u.phases f) (has FreshFrame f some) in
      let unit = paid f is.0 is.1 g of in
      own f (Head (record { group = g; order = 0 }) (FreshAt p)) (is.1 ∙ ap (λ (x : ChargedUnit). Head x (FreshAt p)) unit) (own_fresh (record { group = g; order = 0 }) p)
      refl refl

  -- a CPU that has a fresh frame has a stock of a group
  pub fresh_group : 1 ≤ length (s.parts p).fresh → (g : ℕ) × ((s.parts p).stock.group ≡ Some g)
  fresh_group some =
      let f = front_of (s.parts p).fresh in
      let is = fresh_is p (u.phases f) (has FreshFrame f (front_stands (s.parts p).fresh some)) in
      let by : PhasePaid u.zone.cpus (groups_in u.parts) (Head is.0 (FreshAt p)) = subst (PhasePaid u.zone.cpus (groups_in u.parts)) is.1 (sound.frames f).paid in
      (is.0.group, ap (λ (x : Part). x.stock.group) mine ∙ by.group)

  pub own_booked : IsBooked (s.parts p)
  own_booked = subst IsBooked (sym mine) (sound.booked p)
