-- The three parts of usage, counted over a run. Serves `current_follows_the_run`.
use Rattle.std.proofs.Common.{◌≡◌, ℕ, ◌+◌, ◌<◌, ◌&&◌, ◌==◌, Bool, true, false, Option, Some, None, refl, sym, ◌∙◌, ap, cond, if◌then◌else◌, eq-eqb}
use Rattle.std.proofs.lemmas.Bool.{ne_eqb, lt-ltb}
use Rattle.group_tree.specs.Groups.{in_subtree}
use Rattle.group_tree.specs.{most_groups, is_there, is_in_subtree}
use Rattle.step_rules.specs.declared.phase.Phase.{Phase}
use Rattle.step_rules.specs.declared.phase.Phase.TheVariants.{InZone, Lent, Head, Tail}
use Rattle.step_rules.specs.declared.step.FramePlace.TheVariants.{Charged}
use Rattle.step_rules.specs.{keeper_of, Zone, one_if, sum_to, frames_kept, stock_in_subtree, pages_prepaid, pages_pending, state_of}
use Rattle.step_rules.specs.{places_of, is_same_frame_place, place_in, counted_with_state, stock_gained, stock_lost, counted, pending_in, pending_out}
use Rattle.step_rules.specs.{last_fill, AllCurrentFollowsRun, IsHomed}
use Rattle.step_rules.specs.State.{State}
use Rattle.step_rules.proofs.Sums.{sum_same, sum_none, sum_both, sum_only}
use Rattle.step_rules.proofs.Counting.{stocks_are_counted}
use Rattle.step_rules.proofs.Granting.{pending_is_counted}
use Rattle.step_rules.proofs.Placed.{every_frame_has_one_place}
use Rattle.step_rules.proofs.Keeping.{homed_run}
use Rattle.step_rules.proofs.Homes.{number_low}
use Rattle.step_rules.proofs.Telling.{fill_is_told}
use Rattle.step_rules.proofs.Freeing.{zone_of_run}

-- a sum of what is in, where of each it is what there is and what is out
in_and_out : (n : ℕ) (test : ℕ → Bool) (a b c : ℕ → ℕ) → ((i : ℕ) → i < n → a i ≡ b i + c i) →
    sum_to n (λ i. if test i then a i else 0) ≡ sum_to n (λ i. if test i then b i else 0) + sum_to n (λ i. if test i then c i else 0)
in_and_out n test a b c each =
    sum_same n (λ i. if test i then a i else 0) (λ i. (if test i then b i else 0) + (if test i then c i else 0)) (λ i below. split (test i) i below)
    ∙ sum_both n (λ i. if test i then b i else 0) (λ i. if test i then c i else 0)
  where
    split : (t : Bool) (i : ℕ) → i < n → cond t (a i) 0 ≡ cond t (b i) 0 + cond t (c i) 0
    split true i below = each i below
    split false i below = refl

-- ---- frames
abbrev is_of : Option ℕ → ℕ → Bool
is_of None h = false
is_of (Some g) h = h == g

-- the pair at a group, of a frame whose keeper is this
charged_is : (x : Phase) (h : ℕ) → is_same_frame_place (Charged h) (place_in x) ≡ is_of (keeper_of x) h
charged_is InZone h = refl
charged_is (Lent p way) h = refl
charged_is (Head u stage) h = refl
charged_is (Tail g) h = refl

-- of all groups one at most has the frame
one_pair : (zone : Zone) (s : State) (g : ℕ) (o : Option ℕ) → IsHomed s → is_there s.groups o ≡ true →
    one_if (is_in_subtree s.groups g o) ≡ sum_to most_groups (λ h. one_if (in_subtree s.groups g h && is_of o h))
one_pair zone s g None homed there = sym (sum_none most_groups (λ h. one_if (in_subtree s.groups g h && false)) (λ h below. no_pair (in_subtree s.groups g h)))
  where
    no_pair : (b : Bool) → one_if (b && false) ≡ 0
    no_pair true = refl
    no_pair false = refl
one_pair zone s g (Some k) homed there =
    sym (sum_only most_groups (λ h. one_if (in_subtree s.groups g h && h == k)) k (number_low s.groups k homed.tree there)
    (λ h below ne. ap (λ b. one_if (in_subtree s.groups g h && b)) (ne_eqb h k ne) ∙ no_pair (in_subtree s.groups g h))
    ∙ ap (λ b. one_if (in_subtree s.groups g k && b)) (eq-eqb k k refl) ∙ ap one_if (and_so (in_subtree s.groups g k)))
  where
    no_pair : (b : Bool) → one_if (b && false) ≡ 0
    no_pair true = refl
    no_pair false = refl

    and_so : (b : Bool) → (b && true) ≡ b
    and_so true = refl
    and_so false = refl

pub current_follows_the_run : AllCurrentFollowsRun
current_follows_the_run zone run legal g =
    let s = state_of zone run in
    let homed = (homed_run zone run legal).1 in
    let told = (every_frame_has_one_place zone run legal).told in
    let sizes : s.zone ≡ zone = zone_of_run zone run in
    record {
      kept = sum_same zone.frames (λ f. one_if (is_in_subtree s.groups g (keeper_of (s.phases f))))
          (λ f. sum_to most_groups (λ h. one_if (in_subtree s.groups g h && places_of zone run f (Charged h))))
          (λ f below. one_pair zone s g (keeper_of (s.phases f)) homed (homed.frames f)
          ∙ sum_same most_groups (λ h. one_if (in_subtree s.groups g h && is_of (keeper_of (s.phases f)) h))
          (λ h. one_if (in_subtree s.groups g h && places_of zone run f (Charged h)))
          (λ h low. ap (λ b. one_if (in_subtree s.groups g h && b))
          (sym (told f (Charged h) ∙ ap (λ b. b && is_same_frame_place (Charged h) (place_in (s.phases f))) (lt-ltb f zone.frames below)
          ∙ charged_is (s.phases f) h))));
      prepaid =
          in_and_out (zone.cpus + 1) (λ p. is_in_subtree s.groups g (last_fill run p).group) (λ p. counted (stock_gained p) run)
          (λ p. (s.parts p).stock.pages) (λ p. counted (stock_lost p) run)
          (λ p below. stocks_are_counted zone run legal p)
          ∙ ap (λ n. n + sum_to (zone.cpus + 1) (λ p. if is_in_subtree s.groups g (last_fill run p).group then counted (stock_lost p) run else 0))
          (sum_same (zone.cpus + 1) (λ p. if is_in_subtree s.groups g (last_fill run p).group then (s.parts p).stock.pages else 0)
          (λ p. stock_in_subtree s.groups g (s.parts p)) (λ p below. same_stock p));
      pending = in_and_out most_groups (in_subtree s.groups g) (λ h. counted_with_state (pending_in h) zone run) s.pending
          (λ h. counted_with_state (pending_out h) zone run) (λ h below. pending_is_counted zone run legal h);
      usage = ap (λ (z : Zone). frames_kept s.groups s.phases z.frames g + pages_prepaid s.groups s.parts z.cpus g + pages_pending s.groups s.pending g) sizes;
    }
  where
    same_stock : (p : ℕ) → cond (is_in_subtree (state_of zone run).groups g (last_fill run p).group) ((state_of zone run).parts p).stock.pages 0
        ≡ stock_in_subtree (state_of zone run).groups g ((state_of zone run).parts p)
    same_stock p = ap (λ o. cond (is_in_subtree (state_of zone run).groups g o) ((state_of zone run).parts p).stock.pages 0)
        (sym (fill_is_told zone run legal p).0)
