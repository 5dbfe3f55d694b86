-- By its past a seat knows which frames are in its hand. Serves `seats_know_their_own`.
use Rattle.std.proofs.Common.{[], ◌≡◌, ◌≢◌, ℕ, ◌≤◌, Bool, true, false, Some, List, ◌∷◌, refl, ap, sym, ◌∙◌, arith, eq-eqb}
use mathlib.Core.Logic.{dite}
use native.Mathlib.Decide.{ℕ_discrete}
use Rattle.step_rules.specs.declared.phase.Stage.{Stage}
use Rattle.step_rules.specs.declared.phase.Stage.TheVariants.{AwaitsReturn, BackAt, Bare, Collected, FreshAt}
use Rattle.step_rules.specs.declared.phase.Way.TheVariants.{OnList}
use Rattle.step_rules.specs.declared.phase.Phase.{Phase}
use Rattle.step_rules.specs.declared.phase.Phase.TheVariants.{InZone, Lent, Head, Tail}
use Rattle.step_rules.specs.Phases.{BackFrame, FreshFrame, ListFrame}
use Rattle.step_rules.specs.State.{State}
use Rattle.step_rules.specs.{Kind, has_as, Zone, frames_of, one_if, times, Run, state_of, IsLegalRun}
use Rattle.step_rules.proofs.PhaseLemmas.{back_is, fresh_is, listed_is, none_some}
use Rattle.step_rules.proofs.Runs.{sound_run}
use Rattle.boot_words.specs.{hide, hide_phase, hide_stage, in_hand_of, stage_in_hand_of, AllOf, AllPasts, BeginsRun, HasSameLists, KnowsItsOwn, SeatsKnowTheirOwn}
use Rattle.boot_words.specs.declared.past.Past.{Past}
use Rattle.boot_words.proofs.Backs.{back_of, backs_are_cpus}
use Rattle.boot_words.proofs.Counts.{references_are_own}
use Rattle.boot_words.proofs.Lasting.{beginning_is_legal}
use Rattle.boot_words.proofs.Left.{cpu_left, zone_left}
use Rattle.boot_words.proofs.Owning.{lists_are_own}

same_some : (a b : ℕ) → Some a ≡ Some b → a ≡ b
same_some a b e = cc

-- ---- the zone's hand, if every CPU's own part is hidden
shows : (x : Phase) → in_hand_of (hide_phase x) ≡ Some 0 → in_hand_of x ≡ Some 0
shows (Head u stage) e = by stage e
  where
    by : (k : Stage) → in_hand_of (hide_stage u k) ≡ Some 0 → stage_in_hand_of k ≡ Some 0
    by (BackAt c) h = absurd (none_some 0 h)
    by (FreshAt c) h = h
    by k h = h
shows x e = e

hides : (x : Phase) → ((c : ℕ) → back_of x ≡ Some c → 1 ≤ c) → in_hand_of x ≡ Some 0 → in_hand_of (hide_phase x) ≡ Some 0
hides (Head u stage) backs e = by stage backs e
  where
    by : (k : Stage) → ((c : ℕ) → back_of (Head u k) ≡ Some c → 1 ≤ c) → stage_in_hand_of k ≡ Some 0 → in_hand_of (hide_stage u k) ≡ Some 0
    by (BackAt c) low h = let a = low c refl in let b = same_some c 0 h in absurd (omega (arith, a, b))
    by (FreshAt c) low h = h
    by k low h = h
hides x backs e = e

still_zones : (zone : Zone) (was is : Run) (f : ℕ) → IsLegalRun zone was → hide (state_of zone is) ≡ hide (state_of zone was)
    → in_hand_of ((state_of zone was).phases f) ≡ Some 0 → in_hand_of ((state_of zone is).phases f) ≡ Some 0
still_zones zone was is f legal same e =
    shows ((state_of zone is).phases f)
    (ap (λ (t : State). in_hand_of (t.phases f)) same ∙ hides ((state_of zone was).phases f) (λ c b. (backs_are_cpus zone was legal f c b).0) e)

-- ---- a CPU's hand, by its lists
kind_of : (x : Phase) (q : ℕ) → q ≢ 0 → in_hand_of x ≡ Some q → (kind : Kind) × (has_as kind q x ≡ true)
kind_of (Lent c OnList) q ne e = (ListFrame, eq-eqb c q (same_some c q e))
kind_of (Lent c way) q ne e = absurd (none_some q e)
kind_of InZone q ne e = absurd (ne (sym (same_some 0 q e)))
kind_of (Tail g) q ne e = absurd (ne (sym (same_some 0 q e)))
kind_of (Head u stage) q ne e = by stage e
  where
    by : (k : Stage) → stage_in_hand_of k ≡ Some q → (kind : Kind) × (has_as kind q (Head u k) ≡ true)
    by (FreshAt c) h = (FreshFrame, eq-eqb c q (same_some c q h))
    by (BackAt c) h = (BackFrame, eq-eqb c q (same_some c q h))
    by Collected h = absurd (ne (sym (same_some 0 q h)))
    by Bare h = absurd (ne (sym (same_some 0 q h)))
    by AwaitsReturn h = absurd (ne (sym (same_some 0 q h)))
    by k h = absurd (none_some q h)

hand_of_kind : (x : Phase) (q : ℕ) (kind : Kind) → has_as kind q x ≡ true → in_hand_of x ≡ Some q
hand_of_kind x q ListFrame e = ap in_hand_of (listed_is q x e)
hand_of_kind x q FreshFrame e = ap in_hand_of (fresh_is q x e).1
hand_of_kind x q BackFrame e = ap in_hand_of (back_is q x e).1

same_kind : (s t : State) (q : ℕ) → HasSameLists q s t → (kind : Kind) → frames_of (t.parts q) kind ≡ frames_of (s.parts q) kind
same_kind s t q same ListFrame = same.list
same_kind s t q same FreshFrame = same.fresh
same_kind s t q same BackFrame = same.back

one_true : (a b : Bool) → one_if a ≡ one_if b → a ≡ true → b ≡ true
one_true a true e is = refl
one_true true false e is = absurd (let h : 1 ≡ 0 = e in omega arith)
one_true false false e is = is

still_cpus : (zone : Zone) (was is : Run) (q f : ℕ) → q ≢ 0 → IsLegalRun zone was → IsLegalRun zone is
    → ((kind : Kind) → frames_of ((state_of zone is).parts q) kind ≡ frames_of ((state_of zone was).parts q) kind)
    → in_hand_of ((state_of zone was).phases f) ≡ Some q → in_hand_of ((state_of zone is).phases f) ≡ Some q
still_cpus zone was is q f ne legal longer same e =
    let has = kind_of ((state_of zone was).phases f) q ne e in
    hand_of_kind ((state_of zone is).phases f) q has.0
    (one_true _ _ (sym ((sound_run zone was legal).lists q has.0 f) ∙ sym (ap (times f) (same has.0)) ∙ (sound_run zone is longer).lists q has.0 f) has.1)

-- ---- what a seat knows
knows : (zone : Zone) (run : Run) → IsLegalRun zone run → (p : Past) → BeginsRun zone run p → KnowsItsOwn zone (state_of zone run) p
knows zone run legal p begins =
    let earlier = beginning_is_legal zone p.seen run p.number begins.goes legal in record {
      references = references_are_own zone p.seen run p.number legal begins.goes;
      hand = λ f. dite (ℕ_discrete p.number 0)
          (λ zeroth.
          let left = zone_left zone run p legal begins zeroth in
          let to : Some p.number ≡ Some 0 = ap (λ (n : ℕ). Some n) zeroth in (
            λ e. still_zones zone run p.seen f legal (sym left) (e ∙ to) ∙ sym to,
            λ e. still_zones zone p.seen run f earlier left (e ∙ to) ∙ sym to,
          ))
          (λ ne.
          let same = same_kind (state_of zone p.seen) (state_of zone run) p.number (lists_are_own zone p.seen run p.number ne begins.goes) in (
            still_cpus zone run p.seen p.number f ne legal earlier (λ kind. sym (same kind)),
            still_cpus zone p.seen run p.number f ne earlier legal same,
          ));
      zone_knows = zone_left zone run p legal begins;
      cpu_knows = λ ne. (lists_are_own zone p.seen run p.number ne begins.goes, cpu_left zone run p legal begins);
    }

pasts_know : (zone : Zone) (run : Run) → IsLegalRun zone run → (ps : List Past) → AllOf (BeginsRun zone run) ps → AllOf (KnowsItsOwn zone (state_of zone run)) ps
pasts_know zone run legal [] all = tt
pasts_know zone run legal (p ∷ ps) all = (knows zone run legal p all.0, pasts_know zone run legal ps all.1)

all_know : (zone : Zone) (run : Run) → IsLegalRun zone run → (seats : List (List Past)) → AllPasts (BeginsRun zone run) seats → AllPasts (KnowsItsOwn zone (state_of zone run)) seats
all_know zone run legal [] all = tt
all_know zone run legal (ps ∷ seats) all = (pasts_know zone run legal ps all.0, all_know zone run legal seats all.1)

pub seats_know_their_own : SeatsKnowTheirOwn
seats_know_their_own zone words seats k = all_know zone k.run k.is.legal seats k.fits
