-- Who has the most frames among the group numbers below some number, and how many may be killed. Serves `most_charged`,
-- `victim`, `next_after`, `count_candidates`.
use Rattle.std.proofs.Common.{◌≡◌, ℕ, suc, ◌+◌, ◌<◌, ◌≤◌, Bool, true, false, Option, Some, None, IsTrue, refl, ap, ◌∙◌, subst, arith}
use Rattle.std.proofs.lemmas.Bool.{and_parts}
use Rattle.std.specs.Prelude.{not}
use Rattle.group_tree.specs.Groups.{AreGroups, has_group, in_subtree, room_of}
use Rattle.group_tree.proofs.CallerLemmas.{in_subtree-below}
use Rattle.group_tree.proofs.CallerLemmas.{number_in_room}
use Rattle.step_rules.specs.State.{one_if, sum_to}
use Rattle.mem_machine.specs.Machines.{KnownMachine}
use Rattle.mem_reclaim.specs.Victim.{IsMost, is_candidate, is_excluded, may_be_chosen, may_be_killed, own_frames}

-- of the groups below k that the test chooses, v has the most frames, this many
pub record BestSoFar (m : KnownMachine) (test : ℕ → Bool) (k v frames : ℕ) : Type 0 where
  pub chosen : test v ≡ true
  pub own : own_frames m v ≡ frames
  pub some : 1 ≤ frames
  pub before : v < k
  pub most : (j : ℕ) → j < k → test j ≡ true → own_frames m j ≤ frames
  pub least : (j : ℕ) → j < k → test j ≡ true → own_frames m j ≡ frames → v ≤ j

-- so far, none has a frame, or there is one with the most
abbrev pub BestBelow : KnownMachine → (ℕ → Bool) → ℕ → Option ℕ → ℕ → Type 0
BestBelow m test k None frames = (frames ≡ 0) × ((j : ℕ) → j < k → test j ≡ true → own_frames m j ≡ 0)
BestBelow m test k (Some v) frames = BestSoFar m test k v frames

-- who may be killed is there
pub chosen_there : (m : KnownMachine) (g k : ℕ) → may_be_killed m g k ≡ true → IsTrue (has_group m.ledger.groups k)
chosen_there m g k chosen = in_subtree-below m.ledger.groups g k (and_parts (in_subtree m.ledger.groups g k) _ chosen).0

-- there is room for who may be killed
chosen_below : (m : KnownMachine) → AreGroups m.ledger.groups → (g : ℕ) (excluded : Option ℕ) (k : ℕ) → may_be_chosen m g excluded k ≡ true → k < room_of m.ledger.groups
chosen_below m facts g excluded k chosen =
    number_in_room m.ledger.groups k facts (chosen_there m g k (and_parts (not (is_excluded excluded k)) (may_be_killed m g k) chosen).1)

-- all numbers were looked at
pub best_end : (m : KnownMachine) → AreGroups m.ledger.groups → (g : ℕ) (excluded : Option ℕ) (k : ℕ) (best : Option ℕ) (frames : ℕ)
    → BestBelow m (may_be_chosen m g excluded) k best frames → room_of m.ledger.groups ≤ k → IsMost m (may_be_chosen m g excluded) best
best_end m facts g excluded k None frames b all = λ j chosen. let low = chosen_below m facts g excluded j chosen in b.1 j (omega (arith, low, all)) chosen
best_end m facts g excluded k (Some v) frames b all = record {
  chosen = b.chosen;
  some = let x = b.some in let y = b.own in omega (arith, x, y);
  most = λ j chosen.
      let low = chosen_below m facts g excluded j chosen in
      let x = b.most j (omega (arith, low, all)) chosen in
      let y = b.own in
      omega (arith, x, y);
  least = λ j chosen same. let low = chosen_below m facts g excluded j chosen in b.least j (omega (arith, low, all)) chosen (same ∙ b.own);
}

-- ---- how many may be killed

-- this many of the numbers below k are candidates
pub record CountedTo (m : KnownMachine) (g k count : ℕ) : Type 0 where
  pub sum : count ≡ sum_to k (λ j. one_if (is_candidate m g j))
  pub few : count ≤ k

pub counted_none : (m : KnownMachine) (g : ℕ) → CountedTo m g 0 0
unfolding sum_to
counted_none m g = record { sum = refl; few = omega arith }

sum_next : (n : ℕ) (h : ℕ → ℕ) → sum_to (suc n) h ≡ sum_to n h + h n
unfolding sum_to
sum_next n h = refl

at_most_one : (b : Bool) → one_if b ≤ 1
at_most_one true = omega arith
at_most_one false = omega arith

-- one number more was looked at
pub counted_more : (m : KnownMachine) (g k count : ℕ) (is : Bool) → CountedTo m g k count → is ≡ is_candidate m g k → CountedTo m g (k + 1) (count + one_if is)
counted_more m g k count is so told =
    let next : suc k ≡ k + 1 = omega arith in
    let one = sum_next k (λ j. one_if (is_candidate m g j)) in
    let same : one_if is ≡ one_if (is_candidate m g k) = ap one_if told in
    let few = at_most_one is in
    let sum = so.sum in
    let low = so.few in
    subst (λ (x : ℕ). CountedTo m g x (count + one_if is)) next (record {
      sum = omega (arith, sum, one, same);
      few = omega (arith, few, low);
    })
