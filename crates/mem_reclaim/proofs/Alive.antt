-- The groups of a subtree that aren't killed, as far as the numbers were looked at. Serves `count_alive` and `kill_below`.
use Rattle.std.proofs.Common.{◌≡◌, ℕ, ◌+◌, ◌≤◌, true, false, List, [], ◌∷◌, ◌++◌, length, cond, refl, sym, ap, ◌∙◌, arith, length-append}
use Rattle.std.specs.Prelude.{filter}
use Rattle.std.specs.List.{range_with_len}
use Rattle.std.proofs.lemmas.Bool.{cond-true, cond-false}
use Rattle.std.proofs.lemmas.List.{append-nil, map-id}
use Rattle.std.proofs.lemmas.List.FromFn.{filter_of_map_range_with_len_more}
use Rattle.group_tree.specs.Groups.{room_of}
use Rattle.mem_machine.specs.Machines.{KnownMachine}
use Rattle.mem_reclaim.specs.{alive_in_subtree, may_be_killed}

-- those with a number below k
abbrev pub alive_to : KnownMachine → ℕ → ℕ → List ℕ
alive_to m root k = filter (may_be_killed m root) (range_with_len 0 k)

pub alive_next : (m : KnownMachine) (root k : ℕ) → alive_to m root (k + 1) ≡ alive_to m root k ++ cond (may_be_killed m root k) (k ∷ []) []
alive_next m root k =
    let p = may_be_killed m root in
    sym (ap (filter p) (map-id (range_with_len 0 (k + 1))))
    ∙ filter_of_map_range_with_len_more p (λ (x : ℕ). x) 0 k k (omega arith)
    ∙ ap (λ (l : List ℕ). filter p l ++ cond (p k) (k ∷ []) []) (map-id (range_with_len 0 k))

-- group k is one of them
pub alive_more : (m : KnownMachine) (root k : ℕ) → may_be_killed m root k ≡ true → alive_to m root (k + 1) ≡ alive_to m root k ++ k ∷ []
alive_more m root k is =
    alive_next m root k ∙ ap (λ (l : List ℕ). alive_to m root k ++ l) (cond-true (may_be_killed m root k) (k ∷ []) [] is)

-- group k isn't
pub alive_same : (m : KnownMachine) (root k : ℕ) → may_be_killed m root k ≡ false → alive_to m root (k + 1) ≡ alive_to m root k
alive_same m root k is =
    alive_next m root k ∙ ap (λ (l : List ℕ). alive_to m root k ++ l) (cond-false (may_be_killed m root k) (k ∷ []) [] is)
    ∙ append-nil (alive_to m root k)

-- ---- how many they are

pub record AliveTo (m : KnownMachine) (root k count : ℕ) : Type 0 where
  pub all : count ≡ length (alive_to m root k)
  pub few : count ≤ k

pub alive_none : (m : KnownMachine) (root : ℕ) → AliveTo m root 0 0
alive_none m root = record { all = refl; few = omega arith }

pub alive_counted : (m : KnownMachine) (root k count : ℕ) → AliveTo m root k count → may_be_killed m root k ≡ true → AliveTo m root (k + 1) (count + 1)
alive_counted m root k count so is =
    let all = so.all in
    let few = so.few in
    let more = ap length (alive_more m root k is) in
    let sum = length-append (alive_to m root k) (k ∷ []) in
    record { all = omega (arith, all, more, sum); few = omega (arith, few) }

pub alive_skipped : (m : KnownMachine) (root k count : ℕ) → AliveTo m root k count → may_be_killed m root k ≡ false → AliveTo m root (k + 1) count
alive_skipped m root k count so is =
    let few = so.few in
    record { all = so.all ∙ sym (ap length (alive_same m root k is)); few = omega (arith, few) }

pub alive_all : (m : KnownMachine) (root k count : ℕ) → AliveTo m root k count → k ≡ room_of m.ledger.groups → count ≡ length (alive_in_subtree m root)
alive_all m root k count so all = so.all ∙ ap (λ (x : ℕ). length (alive_to m root x)) all
