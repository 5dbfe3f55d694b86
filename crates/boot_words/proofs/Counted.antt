-- The word of a frame counts its references. Serves `words_count_references`.
use Rattle.std.proofs.Common.{◌≡◌, ℕ, ◌<◌, ◌≤◌, ◌==◌, ◌||◌, true, false, Some, None, refl, ap, sym, ◌∙◌, subst, arith, eq-eqb}
use Rattle.std.specs.Prelude.{MatchOption, slice_index}
use Rattle.frame_word.specs.{mark, visit_index}
use Rattle.step_rules.specs.declared.phase.ChargedUnit.{ChargedUnit}
use Rattle.step_rules.specs.declared.phase.Stage.{Stage}
use Rattle.step_rules.specs.declared.phase.Stage.TheVariants.{AwaitsReturn, BackAt, BackPassing, Bare, Collected, FreshAt, FreshPassing, Live}
use Rattle.step_rules.specs.declared.phase.Way.TheVariants.{OnList, PassingBack, PassingOut}
use Rattle.step_rules.specs.declared.phase.Phase.{Phase}
use Rattle.step_rules.specs.declared.phase.Phase.TheVariants.{InZone, Lent, Head, Tail}
use Rattle.step_rules.specs.State.{State, most_references}
use Rattle.step_rules.specs.{is_live_phase, passes_back, passes_out, Zone, is_cpu, live_references, one_if, visits, Run, state_of, PhasePaid, groups_in, lent_to, holds_lock}
use Rattle.step_rules.proofs.Freeing.{zone_of_run}
use Rattle.step_rules.proofs.Keeping.{homed_run}
use Rattle.step_rules.proofs.LentTo.{frames_are_lent, frames_pass}
use Rattle.step_rules.proofs.Living.{live_are_referenced}
use Rattle.step_rules.proofs.Runs.{sound_run}
use Rattle.step_rules.proofs.SoundSteps.{cpu_range}
use Rattle.boot_words.specs.{word_in_phase, frame_word, IsRunOf, words_in, in_hand_of, IsFrameCounted, IsVisitorsMark, WordsCountReferences}
use Rattle.boot_words.specs.Words.{Words}
use Rattle.boot_words.proofs.Backs.{back_of, backs_are_cpus}
use Rattle.boot_words.proofs.WordCounts.{none_live}

module _ (zone : Zone) (words : Words) (run : Run) (is : IsRunOf zone words run) (f : ℕ) where
  abbrev s : State
  s = state_of zone run

  abbrev live : ℕ
  live = live_references (state_of zone run) f

  -- what is to be shown of a frame in this phase with this word
  record Counts (x : Phase) (word : ℕ) : Type 0 where
    pub counts : word ≤ most_references → live ≡ word
    pub unreferred : most_references < word → live ≡ 0
    pub marked : most_references < word → IsVisitorsMark zone words.frames word
    pub hand : MatchOption (in_hand_of x) (1 ≤ word) (λ seat. (word ≡ 0) × (seat ≤ zone.cpus))

  none_of : (x : Phase) → s.phases f ≡ x → is_live_phase x ≡ false → live ≡ 0
  none_of x e dead = none_live s f (sound_run zone run is.legal) (ap is_live_phase e ∙ dead)

  -- a frame in a hand
  handed : (x : Phase) (seat : ℕ) → s.phases f ≡ x → is_live_phase x ≡ false → in_hand_of x ≡ Some seat → seat ≤ zone.cpus → Counts x live
  handed x seat e dead hand low =
      let none = none_of x e dead in record {
        counts = λ few. refl;
        unreferred = λ many. none;
        marked = λ many. absurd (omega (arith, none, many));
        hand = subst (λ o. MatchOption o (1 ≤ live) (λ seat. (live ≡ 0) × (seat ≤ zone.cpus))) (sym hand) (none, low);
      }

  -- a frame in transit
  passing : (x : Phase) (c : ℕ) → s.phases f ≡ x → is_live_phase x ≡ false → in_hand_of x ≡ None → (passes_out c x || passes_back c x) ≡ true → Counts x (mark c)
  passing x c e dead hand passes =
      let hold = frames_pass zone run is.legal f c (ap (λ y. passes_out c y || passes_back c y) e ∙ passes) in
      let same = zone_of_run zone run in
      let of_cpu : is_cpu zone c ≡ true =
      subst (λ (z : Zone). is_cpu z c ≡ true) same ((homed_run zone run is.legal).1.holder c (ap (holds_lock c) hold ∙ eq-eqb c c refl)) in
      let range = cpu_range zone c of_cpu in
      let many : 256 ≤ mark c = omega arith in record {
        counts = λ few. absurd (omega (arith, few));
        unreferred = λ above. none_of x e dead;
        marked = λ above. record {
          cpu = c;
          of_cpu = of_cpu;
          is_mark = refl;
          opened = ap (λ (z : Zone). slice_index words.frames (visit_index z.frames c)) (sym same)
              ∙ is.frames.visit c range.0 (subst (λ (z : Zone). c ≤ z.cpus) (sym same) range.1)
              ∙ ap (λ h. one_if (visits c h)) hold ∙ ap one_if (eq-eqb c c refl);
        };
        hand = subst (λ o. MatchOption o (1 ≤ mark c) (λ seat. (mark c ≡ 0) × (seat ≤ zone.cpus))) (sym hand) (omega arith);
      }

  -- the CPU that has a lent, fresh or back frame
  lent_low : (x : Phase) (c : ℕ) → s.phases f ≡ x → lent_to x ≡ Some c → c ≤ zone.cpus
  lent_low x c e to = (cpu_range zone c (frames_are_lent zone run is.legal f c (ap lent_to e ∙ to))).1

  fresh_low : (u : ChargedUnit) (c : ℕ) → s.phases f ≡ Head u (FreshAt c) → c ≤ zone.cpus
  fresh_low u c e =
      let paid : PhasePaid s.zone.cpus (groups_in s.parts) (Head u (FreshAt c)) = subst (PhasePaid s.zone.cpus (groups_in s.parts)) e ((sound_run zone run is.legal).frames f).paid in
      subst (λ (z : Zone). c ≤ z.cpus) (zone_of_run zone run) paid.high

  back_low : (u : ChargedUnit) (c : ℕ) → s.phases f ≡ Head u (BackAt c) → c ≤ zone.cpus
  back_low u c e = (backs_are_cpus zone run is.legal f c (ap back_of e)).1

  zeroth : 0 ≤ zone.cpus
  zeroth = omega arith

  self : (c : ℕ) → (c == c) ≡ true
  self c = eq-eqb c c refl

  or_self : (c : ℕ) → ((c == c) || false) ≡ true
  or_self c = ap (λ b. b || false) (self c)

  by_phase : (x : Phase) → s.phases f ≡ x → Counts x (word_in_phase x live)
  by_phase InZone e = handed InZone 0 e refl refl zeroth
  by_phase (Tail g) e = handed (Tail g) 0 e refl refl zeroth
  by_phase (Lent c OnList) e = handed (Lent c OnList) c e refl refl (lent_low (Lent c OnList) c e refl)
  by_phase (Lent c PassingOut) e = passing (Lent c PassingOut) c e refl refl (or_self c)
  by_phase (Lent c PassingBack) e = passing (Lent c PassingBack) c e refl refl (self c)
  by_phase (Head u stage) e = by stage e
    where
      by : (k : Stage) → s.phases f ≡ Head u k → Counts (Head u k) (word_in_phase (Head u k) live)
      by (FreshAt c) h = handed (Head u (FreshAt c)) c h refl refl (fresh_low u c h)
      by (BackAt c) h = handed (Head u (BackAt c)) c h refl refl (back_low u c h)
      by Collected h = handed (Head u Collected) 0 h refl refl zeroth
      by Bare h = handed (Head u Bare) 0 h refl refl zeroth
      by AwaitsReturn h = handed (Head u AwaitsReturn) 0 h refl refl zeroth
      by (FreshPassing c) h = passing (Head u (FreshPassing c)) c h refl refl (self c)
      by (BackPassing c) h = passing (Head u (BackPassing c)) c h refl refl (self c)
      by Live h =
          let range = (live_are_referenced zone run is.legal f).some (ap is_live_phase h) in
          let high = range.1 in record {
            counts = λ few. refl;
            unreferred = λ many. absurd (omega (arith, many, high));
            marked = λ many. absurd (omega (arith, many, high));
            hand = range.0;
          }

  pub frame_is_counted : f < zone.frames → IsFrameCounted zone words.frames (state_of zone run) f
  frame_is_counted inside =
      let word : slice_index words.frames f ≡ frame_word s f = is.frames.frame f (subst (λ (z : Zone). f < z.frames) (sym (zone_of_run zone run)) inside) in
      let it : Counts (s.phases f) (slice_index words.frames f) = subst (Counts (s.phases f)) (sym word) (by_phase (s.phases f) refl) in record {
        counts = it.counts;
        unreferred = it.unreferred;
        marked = it.marked;
        hand = it.hand;
      }

pub words_count_references : WordsCountReferences
words_count_references zone words seats k f inside = frame_is_counted zone (words_in zone words) k.run k.is f inside
