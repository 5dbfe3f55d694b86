-- What a step under the lock says of the CPU's frames.
use Rattle.std.proofs.Common.{◌≡◌, ℕ, ◌<◌, List, ◌∷◌, sym, ap, ◌∙◌, subst, arith}
use Rattle.step_rules.specs.declared.step.Action.TheVariants.{PassBack}
use Rattle.step_rules.specs.{KeepsInvariant, Zone, is_frame, times, state_of, seen_by}
use Rattle.step_rules.proofs.Freeing.{zone_of_run}
use Rattle.step_rules.proofs.LegalTests.{pass_back_tests}
use Rattle.step_rules.proofs.Lists.{times_same}
use Rattle.step_rules.proofs.Runs.{sound_run}
use Rattle.step_rules.proofs.SoundSteps.{below_frames}
use Rattle.boot_words.specs.{KnownPasts, IsHeld, IsHolder, MayMake, cpu_past, local_by_pasts, zone_of_boot, KnownTable}
use Rattle.cpu_part.specs.{KnownCpuLists, HasOwn}
use Rattle.cpu_part.proofs.Legal.{list_inside}
use Rattle.cpu_part.proofs.Owning.{own_unseen}

module _ (t : KnownTable) (s : KnownPasts) where
  zone_is : (local_by_pasts t s).zone ≡ zone_of_boot t
  zone_is = zone_of_run (zone_of_boot t) (cpu_past s).seen

  -- a frame that may be passed back is one of the table
  pub passed_inside : (p f : ℕ) → MayMake t s p (PassBack f) → f < t.frames
  passed_inside p f legal =
      let inside = (pass_back_tests (local_by_pasts t s) p f legal).1 in
      below_frames (zone_of_boot t) f (ap (λ (z : Zone). is_frame z f) (sym zone_is) ∙ inside)

  module _ (c : KnownCpuLists) (own : HasOwn (local_by_pasts t s) c) where
    -- a listed frame of the lock's holder is one of the table
    pub front_inside : IsHeld t s → IsHolder s c.number → (f : ℕ) (rest : List ℕ) → c.list ≡ f ∷ rest → f < t.frames
    front_inside held holder f rest front =
        let zone = zone_of_boot t in let run = (cpu_past s).seen in
        let sound : KeepsInvariant (state_of zone run) = sound_run zone run held.holds.shows.legal in
        let there : HasOwn (state_of zone run) c =
        own_unseen (state_of zone run) c (subst (λ (q : ℕ). HasOwn (seen_by q (state_of zone run)) c) (sym holder) own) in
        let count = ap (times f) front in let once = times_same f in
        subst (λ (z : Zone). f < z.frames) (zone_of_run zone run) (list_inside (state_of zone run) sound c there f (omega (arith, count, once)))
