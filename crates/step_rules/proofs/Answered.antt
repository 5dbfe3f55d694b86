-- Each step has an answer that it may get. Serves `every_step_is_answered`.
use Rattle.std.proofs.Common.{◌≡◌, ℕ, zero, suc, ◌+◌, ◌-◌, ◌<◌, ◌≤◌, ◌⊎◌, Bool, true, false, Option, Some, None, List, length, refl, ◌∙◌, ap, subst, arith}
use Rattle.std.proofs.Common.{inl, inr, cond}
use Rattle.std.specs.Prelude.{nat_le}
use Rattle.std.proofs.lemmas.Bool.{cases_Bool, cases_eq, leb-true}
use Rattle.zone_blocks.specs.declared.block.Block.{Block}
use Rattle.zone_blocks.specs.Areas.{IsFreeBlock}
use Rattle.zone_blocks.proofs.Unique.{decide_free_block}
use Rattle.group_tree.specs.declared.group.Group.{Group}
use Rattle.group_tree.specs.{most_groups, has_group, parent_of, AreGroups, IsLeastFreeNumber, depth_at, has_room, PathHasRoom, IsLowestOver}
use Rattle.group_tree.proofs.AncestorLemmas.{parent_of-none_root}
use Rattle.group_tree.proofs.CallerLemmas.{in_subtree-above, in_subtree-refl}
use Rattle.group_tree.proofs.Walks.{WalkedTo, walked_up, walked_all, walked_lowest, parent_depth}
use Rattle.step_rules.specs.declared.step.Action.{Action}
use Rattle.step_rules.specs.declared.step.Action.TheVariants.{Get, Put, Freeze, Consume, Credit, Absorb, DrainStock, Grant, PlaceBlock, Make}
use Rattle.step_rules.specs.declared.step.Answer.{Answer}
use Rattle.step_rules.specs.declared.step.Answer.TheVariants.{Illegal, Done, Held, Zero, Full, Left, Last, Missed, Took, Empty, OtherGroup, Drained, Stocked}
use Rattle.step_rules.specs.declared.step.Answer.TheVariants.{Pages, Granted, Over, Placed, NoFreeBlock, Number}
use Rattle.step_rules.specs.State.{State}
use Rattle.step_rules.specs.{live_references, free_in, usage_of, is_legal, get_answer, IsAnswer, IsCounted, state_of, EveryStepIsAnswered}
use Rattle.step_rules.specs.{KeepsInvariant}
use Rattle.step_rules.proofs.LegalTests.{grant_tests, put_tests}
use Rattle.step_rules.proofs.Sums.{sum_part}
use Rattle.step_rules.proofs.PhaseLemmas.{none_some}
use Rattle.step_rules.proofs.Referring.{seat_there}
use Rattle.step_rules.proofs.LocalLaws.{made_allows}
use Rattle.step_rules.proofs.Runs.{sound_run}
use Rattle.step_rules.proofs.Keeping.{keepers_are_there}

-- ---- room, or who has none
abbrev RoomOrOver : List Group → (ℕ → ℕ) → ℕ → ℕ → Type 0
RoomOrOver groups usage g n = PathHasRoom groups usage g n ⊎ ((m : ℕ) × IsLowestOver groups usage g n m)

room_or_over : (groups : List Group) (usage : ℕ → ℕ) (g n : ℕ) → AreGroups groups → has_group groups g ≡ true → RoomOrOver groups usage g n
room_or_over groups usage g n tree there =
    climb (depth_at groups g + 1) g (omega arith) (record { on_path = in_subtree-refl groups g there; passed = λ k above. inr above })
  where
    -- m passes: the walk goes on to its parent, or it was the root
    go_on : (m : ℕ) → WalkedTo groups (λ k. has_room groups usage k n) g m → has_room groups usage m n ≡ true → (above : Option ℕ) →
        parent_of groups m ≡ above → ((p : ℕ) → depth_at groups p < depth_at groups m → WalkedTo groups (λ k. has_room groups usage k n) g p → RoomOrOver groups usage g n) → RoomOrOver groups usage g n
    go_on m walked passes None e more =
        let root = parent_of-none_root groups m tree (in_subtree-above groups m g walked.on_path) e in
        inl (walked_all groups (λ k. has_room groups usage k n) g m tree walked passes root)
    go_on m walked passes (Some p) e more =
        more p (parent_depth groups m p tree e) (walked_up groups (λ k. has_room groups usage k n) g m p tree walked passes e)

    climb : (left m : ℕ) → depth_at groups m < left → WalkedTo groups (λ k. has_room groups usage k n) g m → RoomOrOver groups usage g n
    climb zero m few walked = absurd (omega (arith, few))
    climb (suc left) m few walked =
        elim (cases_Bool (has_room groups usage m n)) [
          | inl passes ↦ go_on m walked passes (parent_of groups m) refl (λ p up on. climb left p (omega (arith, up, few)) on)
          | inr fails ↦ inr (
            m,
            record {
              on_path = walked.on_path;
              over = fails;
              lowest = walked_lowest groups (λ k. has_room groups usage k n) g m walked;
            },
          )
        ]

-- ---- a free block of this order, or none
block_or_none : (free : List Bool) (k n : ℕ) →
    ((b : Block) × (b.order ≡ k) × IsFreeBlock free b) ⊎ ((b : Block) → b.order ≡ k → b.at < n → IsFreeBlock free b → ⊥)
block_or_none free k zero = inr (λ b e few is. omega (arith, few))
block_or_none free k (suc n) =
    elim (block_or_none free k n) [
      | inl found ↦ inl found
      | inr none ↦ elim (decide_free_block free (record { at = n; order = k })) [
        | inl is ↦ inl (record { at = n; order = k }, refl, is)
        | inr not ↦ inr (λ b e few is. elim (cases_eq b.at n) [
          | inl here ↦ not (subst (IsFreeBlock free) (λ i. record { at = here i; order = e i }) is)
          | inr other ↦ none b e (omega (arith, few, other)) is
        ])
      ]
    ]

any_block_or_none : (free : List Bool) (k : ℕ) →
    ((b : Block) × (b.order ≡ k) × IsFreeBlock free b) ⊎ ((b : Block) → b.order ≡ k → IsFreeBlock free b → ⊥)
any_block_or_none free k =
    elim (block_or_none free k (length free + 1)) [
      | inl found ↦ inl found
      | inr none ↦ inr (λ b e is. let inside = is.block.inside in none b e (omega (arith, inside)) is)
    ]

-- ---- the least number that no group has
number_or_all : (groups : List Group) (n : ℕ) → ((m : ℕ) × IsLeastFreeNumber groups m) ⊎ ((k : ℕ) → k < n → has_group groups k ≡ true)
number_or_all groups zero = inr (λ k few. absurd (omega (arith, few)))
number_or_all groups (suc n) =
    elim (number_or_all groups n) [
      | inl found ↦ inl found
      | inr all ↦ elim (cases_Bool (has_group groups n)) [
        | inl there ↦ inr (λ k few. elim (cases_eq k n) [
          | inl e ↦ ap (has_group groups) e ∙ there
          | inr other ↦ all k (omega (arith, few, other))
        ])
        | inr free ↦ inl (n, record { free = free; least = all })
      ]
    ]

least_number : (groups : List Group) → ((g : ℕ) → has_group groups g ≡ true → g < most_groups) → (m : ℕ) × IsLeastFreeNumber groups m
least_number groups few =
    elim (number_or_all groups (most_groups + 1)) [
      | inl found ↦ found
      | inr all ↦ absurd (let past = few most_groups (all most_groups (omega arith)) in omega (arith, past))
    ]

-- ---- the answers
-- an answer that the step gets where it is legal
abbrev IsAnswered : State → ℕ → Action → Type 0
IsAnswered s seat action = (answer : Answer) × IsAnswer s seat action answer × IsCounted s action answer

get_given : (s : State) (seat f : ℕ) → IsAnswered s seat (Get f)
get_given s seat f = (get_answer (live_references s f), by_tests _ _, refl)
  where
    by_tests : (some full : Bool) → IsAnswer s seat (Get f) (cond some Held (cond full Full Zero))
    by_tests true full = tt
    by_tests false true = tt
    by_tests false false = tt

put_given : (s : State) (seat f : ℕ) → 1 ≤ live_references s f → IsAnswered s seat (Put f)
put_given s seat f some =
    elim (cases_eq (live_references s f) 1) [
      | inl one ↦ (Last, tt, one)
      | inr more ↦ (Left (live_references s f - 1), tt, (omega (arith, some), omega (arith, some, more)))
    ]

freeze_given : (s : State) (seat f n : ℕ) → IsAnswered s seat (Freeze f n)
freeze_given s seat f n = elim (cases_eq (live_references s f) n) [ inl all ↦ (Done, tt, all) | inr other ↦ (Missed, tt, other) ]

-- the number is that of the option, or isn't
of_or_other : (o : Option ℕ) (g : ℕ) → (o ≡ Some g) ⊎ (o ≡ Some g → ⊥)
of_or_other None g = inr (λ e. none_some g e)
of_or_other (Some h) g = elim (cases_eq h g) [ inl e ↦ inl (ap Some e) | inr ne ↦ inr (λ e. ne (same h g e)) ]
  where
    same : (a b : ℕ) → Some a ≡ Some b → a ≡ b
    same a b z = cc

consume_given : (s : State) (seat g : ℕ) → IsAnswered s seat (Consume g)
consume_given s seat g =
    elim (of_or_other (s.parts seat).stock.group g) [
      | inr other ↦ (OtherGroup, other, tt)
      | inl of ↦ elim (cases_Bool (s.parts seat).stock.is_drained) [
        | inl drained ↦ (Drained, (of, drained), tt)
        | inr not ↦ elim (cases_eq (s.parts seat).stock.pages 0) [
          | inl none ↦ (Empty, (of, not, none), tt)
          | inr some ↦ (Took, (of, not, omega (arith, some)), tt)
        ]
      ]
    ]

credit_given : (s : State) (seat f : ℕ) → IsAnswered s seat (Credit f)
credit_given s seat f = elim (cases_Bool (s.parts seat).stock.is_drained) [ inl drained ↦ (Drained, drained, tt) | inr not ↦ (Stocked, not, tt) ]

grant_given : (s : State) (seat g n : ℕ) → AreGroups s.groups → has_group s.groups g ≡ true → IsAnswered s seat (Grant g n)
grant_given s seat g n tree there =
    elim (room_or_over s.groups (usage_of s) g n tree there) [ inl room ↦ (Granted, room, tt) | inr over ↦ (Over over.0, over.1, tt) ]

place_given : (s : State) (seat g k : ℕ) → IsAnswered s seat (PlaceBlock g k)
place_given s seat g k =
    elim (any_block_or_none (free_in s.zone s.phases) k) [
      | inl found ↦ (Placed found.0, (found.1, found.2), tt)
      | inr none ↦ (NoFreeBlock, none, tt)
    ]

answered : (s : State) (seat : ℕ) (action : Action) → KeepsInvariant s → AreGroups s.groups → ((g : ℕ) → has_group s.groups g ≡ true → g < most_groups) →
    is_legal s seat action ≡ true → IsAnswered s seat action
answered s seat (Get f) sound tree few legal = get_given s seat f
answered s seat (Put f) sound tree few legal =
    let has : nat_le 1 (s.references seat f) ≡ true = (put_tests s seat f legal).2 in
    let one = leb-true 1 (s.references seat f) has in
    let there = seat_there s seat f sound one in
    let part = sum_part (s.zone.cpus + 1) (λ q. s.references q f) seat (omega (arith, there)) in
    put_given s seat f (omega (arith, one, part))
answered s seat (Freeze f n) sound tree few legal = freeze_given s seat f n
answered s seat (Consume g) sound tree few legal = consume_given s seat g
answered s seat (Credit f) sound tree few legal = credit_given s seat f
answered s seat (Absorb p) sound tree few legal = (Pages (s.parts p).reported, refl, tt)
answered s seat (DrainStock p) sound tree few legal = (Pages (s.parts p).stock.pages, tt, refl)
answered s seat (Grant g n) sound tree few legal =
    let there : has_group s.groups g ≡ true = (grant_tests s seat g n legal).1 in
    grant_given s seat g n tree there
answered s seat (PlaceBlock g k) sound tree few legal = place_given s seat g k
answered s seat (Make path) sound tree few legal = let least = least_number s.groups few in (Number least.0, least.1, tt)
answered s seat action sound tree few legal = (Done, tt, tt)

pub every_step_is_answered : EveryStepIsAnswered
every_step_is_answered zone run legal seat action =
    let s = state_of zone run in
    let there = keepers_are_there zone run legal in
    elim (cases_Bool (is_legal s seat action)) [
      | inl may ↦
          let a = answered s seat action (sound_run zone run legal) there.groups there.numbers may in
          (a.0, made_allows s seat action a.0 (record { legal = may; answered = a.1; counted = a.2 }))
      | inr not ↦ (Illegal, not)
    ]
