-- What a CPU may pass back, and what is booked for it once it is settled.
use Rattle.std.proofs.Common.{◌≡◌, ℕ, ◌+◌, ◌≤◌, ◌==◌, ◌&&◌, ◌||◌, true, false, length, refl, sym, ◌∙◌, ap, subst, arith, inl, inr, eq-eqb}
use Rattle.std.proofs.lemmas.Bool.{lt-ltb, or_left, or_right}
use Rattle.step_rules.specs.declared.step.Action.TheVariants.{PassBack}
use Rattle.step_rules.specs.Phases.{ListFrame, FreshFrame, has_as, is_free}
use Rattle.step_rules.specs.Phases as kinds
use Rattle.step_rules.specs.State.{State}
use Rattle.step_rules.specs.{Part, front_of, is_cpu, is_frame, is_held_by, visits, is_legal, is_passable, state_of, KeepsInvariant, IsHomed}
use Rattle.step_rules.proofs.CoverParts.{own_part}
use Rattle.step_rules.proofs.Keeping.{homed_run}
use Rattle.step_rules.proofs.Lists.{one_if_true}
use Rattle.step_rules.proofs.Own.{own_legal}
use Rattle.step_rules.proofs.Passing.{front_listed, in_zone}
use Rattle.step_rules.proofs.PhaseLemmas.{back_is, fresh_is, listed_is}
use Rattle.step_rules.proofs.Runs.{sound_run}
use Rattle.step_rules.proofs.Stocked.{stocks_fit}
use Rattle.boot_words.specs.Sight.{MayPassBack, FromList, FromFresh, FromBack, FrontsPassBack, NoneBooked}

-- the frame may be passed back, and isn't free
record IsHad (s : State) (cpu f : ℕ) : Type 0 where
  pub passable : is_passable s cpu f ≡ true
  pub taken : is_free (s.phases f) ≡ false

had : (s : State) (cpu f : ℕ) → KeepsInvariant s → MayPassBack (s.parts cpu) f → IsHad s cpu f
had s cpu f sound (FromList some is) =
    let at = front_of (s.parts cpu).list in
    let listed : has_as ListFrame cpu (s.phases f) ≡ true = subst (λ (k : ℕ). has_as ListFrame cpu (s.phases k) ≡ true) (sym is) (front_listed s cpu sound some) in
    record {
      passable = or_left _ (has_as kinds.BackFrame cpu (s.phases f)) (or_left _ (has_as FreshFrame cpu (s.phases f))
          (λ i. listed i && eq-eqb at f (sym is) i));
      taken = ap is_free (listed_is cpu (s.phases f) listed);
    }
had s cpu f sound (FromFresh some) =
    let fresh : has_as FreshFrame cpu (s.phases f) ≡ true = one_if_true _ (subst (λ (n : ℕ). 1 ≤ n) (sound.lists cpu FreshFrame f) some) in
    record {
      passable = or_left _ (has_as kinds.BackFrame cpu (s.phases f)) (or_right (has_as ListFrame cpu (s.phases f) && front_of (s.parts cpu).list == f) _ fresh);
      taken = ap is_free (fresh_is cpu (s.phases f) fresh).1;
    }
had s cpu f sound (FromBack some) =
    let back : has_as kinds.BackFrame cpu (s.phases f) ≡ true = one_if_true _ (subst (λ (n : ℕ). 1 ≤ n) (sound.lists cpu kinds.BackFrame f) some) in
    record {
      passable = or_right (has_as ListFrame cpu (s.phases f) && front_of (s.parts cpu).list == f || has_as FreshFrame cpu (s.phases f)) _ back;
      taken = ap is_free (back_is cpu (s.phases f) back).1;
    }

may_pass_back : (s : State) (cpu f : ℕ) → KeepsInvariant s → IsHomed s → visits cpu s.hold ≡ true → MayPassBack (s.parts cpu) f → is_legal s cpu (PassBack f) ≡ true
may_pass_back s cpu f sound homed visit may =
    let is = had s cpu f sound may in
    let cpu_is : is_cpu s.zone cpu ≡ true = homed.holder cpu (or_right (is_held_by cpu s.hold) (visits cpu s.hold) visit) in
    let frame : is_frame s.zone f ≡ true = lt-ltb f s.zone.frames (in_zone s f sound is.taken) in
    λ i. cpu_is i && frame i && visit i && is.passable i

pub fronts_pass_back : FrontsPassBack
fronts_pass_back zone run cpu f local shows visit may =
    let s = state_of zone run in
    let both = homed_run zone run shows.legal in
    let visiting : visits cpu s.hold ≡ true = sym (ap (λ (x : State). visits cpu x.hold) shows.sees) ∙ visit in
    let part : local.parts cpu ≡ s.parts cpu = ap (λ (x : State). x.parts cpu) shows.sees ∙ own_part cpu s.parts cpu refl in
    let legal = may_pass_back s cpu f both.0 both.1 visiting (subst (λ (x : Part). MayPassBack x f) part may) in
    ap (λ (x : State). is_legal x cpu (PassBack f)) shows.sees
    ∙ own_legal s cpu cpu (PassBack f) both.0 (inr refl) refl shows.holds ∙ legal

all_none : (book pages fresh unreported reported : ℕ) → book ≡ pages + fresh + unreported + reported → pages ≡ 0 → fresh ≡ 0 → unreported ≡ 0 → reported ≡ 0 → book ≡ 0
all_none book pages fresh unreported reported e a b c d = omega arith

pub none_booked : NoneBooked
none_booked zone run cpu legal is =
    let part = (state_of zone run).parts cpu in
    let fits = stocks_fit zone run legal cpu in
    elim is.drained [
      | inl none ↦ fits.book none
      | inr drained ↦ all_none part.book part.stock.pages (length part.fresh) part.unreported part.reported ((sound_run zone run legal).booked cpu)
          (fits.none drained) (ap length is.fresh) is.unreported is.reported
    ]
