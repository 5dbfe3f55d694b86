-- The free areas are determined by the run. Serves `areas_follow_the_run`.
use Rattle.std.proofs.Common.{◌≡◌, ℕ, ◌+◌, ◌<◌, ◌&&◌, [], ◌∷◌, ◌++◌, map, refl, sym, ◌∙◌, ap, arith, zero, suc}
use Rattle.std.specs.List.{fold, range_with_len}
use Rattle.std.proofs.lemmas.Bool.{lt-ltb}
use Rattle.std.proofs.lemmas.List.FromFn.{map-range_with_len_more}
use Rattle.zone_blocks.proofs.Unique.{unique_blocks}
use Rattle.step_rules.specs.declared.phase.Phase.{Phase}
use Rattle.step_rules.specs.declared.phase.Phase.TheVariants.{InZone, Lent, Head, Tail}
use Rattle.step_rules.specs.declared.step.FramePlace.TheVariants.{Free}
use Rattle.step_rules.specs.{is_free, Zone, at_boot, free_in, Run, state_of, places_of, is_same_frame_place, place_in, free_frames, AllAreasFollowRun}
use Rattle.step_rules.specs.State.{State}
use Rattle.step_rules.proofs.Placed.{every_frame_has_one_place, zone_kept}
use Rattle.step_rules.proofs.Runs.{next}

map_same : {X : Type 0} (n : ℕ) (f g : ℕ → X) → ((i : ℕ) → i < n → f i ≡ g i) → map f (range_with_len 0 n) ≡ map g (range_with_len 0 n)
map_same zero f g each = refl
map_same (suc n) f g each =
    let more : suc n ≡ n + 1 = omega arith in
    ap (λ (k : ℕ). map f (range_with_len 0 k)) more ∙ map-range_with_len_more f 0 n n (omega arith)
    ∙ (λ i. map_same n f g (λ k below. each k (omega arith)) i ++ each n (omega arith) i ∷ [])
    ∙ sym (map-range_with_len_more g 0 n n (omega arith)) ∙ sym (ap (λ (k : ℕ). map g (range_with_len 0 k)) more)

-- the sizes of the zone stay
zone_on : (s : State) (run : Run) → (fold next s run).zone ≡ s.zone
zone_on s [] = refl
zone_on s (e ∷ run) = zone_on (next s e) run ∙ zone_kept s e.0.seat e.0.action e.1

pub zone_of_run : (zone : Zone) (run : Run) → (state_of zone run).zone ≡ zone
zone_of_run zone run = zone_on (at_boot zone) run

free_place : (x : Phase) → is_same_frame_place Free (place_in x) ≡ is_free x
free_place InZone = refl
free_place (Lent p way) = refl
free_place (Head u stage) = refl
free_place (Tail g) = refl

pub areas_follow_the_run : AllAreasFollowRun
areas_follow_the_run zone run legal =
    let s = state_of zone run in
    let told = (every_frame_has_one_place zone run legal).told in
    record {
      same =
          ap (λ (z : Zone). free_in z s.phases) (zone_of_run zone run)
          ∙ map_same zone.frames (λ f. is_free (s.phases f)) (λ f. places_of zone run f Free)
          (λ f below. sym (told f Free ∙ ap (λ b. b && is_same_frame_place Free (place_in (s.phases f))) (lt-ltb f zone.frames below) ∙ free_place (s.phases f)));
      one = λ a b first second. unique_blocks (free_frames zone run) a b first second;
    }
