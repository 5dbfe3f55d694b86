-- Gets and puts leave a CPU's stock alone, and what the CPU knows of it.
use Rattle.std.proofs.Common.{[], ◌≡◌, ℕ, ◌==◌, Bool, true, false, cond, ◌∷◌, ◌++◌, length, refl, ap, sym, ◌∙◌, subst}
use Rattle.step_rules.specs.declared.step.Action.{Action}
use Rattle.step_rules.specs.declared.step.Action.TheVariants.{Get, Put}
use Rattle.step_rules.specs.declared.step.Answer.{Answer}
use Rattle.step_rules.specs.declared.step.Answer.TheVariants.{Full, Held, Left, Last, Zero}
use Rattle.step_rules.specs.State.{State}
use Rattle.step_rules.specs.{with_at, after, state_of, IsLegalRun, with_back, holds_lock}
use Rattle.step_rules.proofs.Basics.{at_same}
use Rattle.step_rules.proofs.Runs.{legal_from, state_more}
use Rattle.boot_words.specs.{HasNoStepOf, IsFast, stock_in, stock_said, KnownPasts, own_past, zone_of_boot, KnownTable}
use Rattle.boot_words.proofs.Holding.{take_length}
use Rattle.boot_words.proofs.Away.{away_stays}
use Rattle.frame_word.specs.declared.answers.Get as gets
use Rattle.frame_word.specs.declared.answers.Get.TheVariants as said
use Rattle.boot_words.specs.{GetsReference, CpuMakes, IsAwayCpu, KnownCpuSeat, SawLast}
use Rattle.boot_words.proofs.Growing.{fast_hold}
use Rattle.boot_words.proofs.Prepaying.{saw_still}

same_get : (s : State) (q f : ℕ) (answer : Answer) → ((after s q (Get f) answer).parts q).stock ≡ (s.parts q).stock
same_get s q f Held = refl
same_get s q f answer = refl

same_put : (s : State) (q f : ℕ) (answer : Answer) → ((after s q (Put f) answer).parts q).stock ≡ (s.parts q).stock
same_put s q f (Left n) = refl
same_put s q f Last = by_seat (q == 0)
  where
    by_seat : (b : Bool) → ((cond b s.parts (with_at s.parts q (with_back (s.parts q) f))) q).stock ≡ (s.parts q).stock
    by_seat true = refl
    by_seat false = ap (λ x. x.stock) (at_same s.parts q (with_back (s.parts q) f))
same_put s q f answer = refl

-- a step that changes neither the CPU's stock nor who holds the lock
pub keeps_cpu : (t : KnownTable) (c : KnownCpuSeat) (action : Action) (answer : Answer) (s' : KnownPasts) → IsAwayCpu t c → IsFast action
    → ((s : State) (q : ℕ) → ((after s q action answer).parts q).stock ≡ (s.parts q).stock)
    → CpuMakes t c.past action answer s' → IsAwayCpu t (record { past = s'; number = c.number; last = c.last })
keeps_cpu t c action answer s' is fast same m =
    let zone = zone_of_boot t in
    let p = own_past c.past in
    let q = c.number in
    let between = m.grew.between in
    let before = p.seen ++ between in
    let seen = m.grew.seen in
    let whole : IsLegalRun zone (before ++ (record { seat = p.number; action = action }, answer) ∷ []) = subst (IsLegalRun zone) seen m.is_past.legal in
    let legal : IsLegalRun zone before = subst (IsLegalRun zone) (take_length before ((record { seat = p.number; action = action }, answer) ∷ []))
    (legal_from zone (before ++ (record { seat = p.number; action = action }, answer) ∷ []) (length before) whole) in
    let stays = away_stays zone p.seen between q legal (subst (λ k. HasNoStepOf k between) (sym is.number) m.grew.others) is.away in
    let s = state_of zone before in
    let later : state_of zone (own_past s').seen ≡ after s q action answer =
    ap (state_of zone) seen ∙ state_more zone before (record { seat = p.number; action = action }) answer ∙ ap (λ k. after s k action answer) (sym is.number) in
    let stock : stock_in ((after s q action answer).parts q) ≡ stock_in (s.parts q) = ap (λ st. stock_said st.group st.pages st.is_drained) (same s q) in record {
      past = m.is_past;
      number = is.number ∙ sym m.grew.number;
      away = ap (λ (x : State). holds_lock q x.hold) later ∙ ap (holds_lock q) (fast_hold s q action answer fast) ∙ stays.0;
      last = subst (λ x. SawLast x c.last) (sym (ap (λ (x : State). stock_in (x.parts q)) later ∙ stock)) (saw_still ((state_of zone p.seen).parts q) (s.parts q) c.last stays.1 is.last);
      has_word = is.has_word;
    }

pub keeps_get : (t : KnownTable) (c : KnownCpuSeat) (f : ℕ) (answer : Answer) (s' : KnownPasts) → IsAwayCpu t c → CpuMakes t c.past (Get f) answer s'
    → IsAwayCpu t (record { past = s'; number = c.number; last = c.last })
keeps_get t c f answer s' is m = keeps_cpu t c (Get f) answer s' is tt (λ s q. same_get s q f answer) m

pub keeps_put : (t : KnownTable) (c : KnownCpuSeat) (f : ℕ) (answer : Answer) (s' : KnownPasts) → IsAwayCpu t c → CpuMakes t c.past (Put f) answer s'
    → IsAwayCpu t (record { past = s'; number = c.number; last = c.last })
keeps_put t c f answer s' is m = keeps_cpu t c (Put f) answer s' is tt (λ s q. same_put s q f answer) m

-- each answer of a get
pub keeps_gets : (t : KnownTable) (c : KnownCpuSeat) (f : ℕ) (answer : gets.Get) (s' : KnownPasts) → IsAwayCpu t c → GetsReference t c.past f answer s'
    → IsAwayCpu t (record { past = s'; number = c.number; last = c.last })
keeps_gets t c f said.Held s' is m = keeps_get t c f Held s' is m
keeps_gets t c f said.Zero s' is m = keeps_get t c f Zero s' is m
keeps_gets t c f said.Full s' is m = keeps_get t c f Full s' is m
keeps_gets t c f (said.Raced n) s' is m = subst (λ (s : KnownPasts). IsAwayCpu t (record { past = s; number = c.number; last = c.last })) (sym m.0) is
