-- How many frames are charged to a group, counted by the groups. Serves `count_charged`.
use Rattle.std.proofs.Common.{◌≡◌, ℕ, zero, suc, ◌+◌, ◌<◌, ◌≤◌, Bool, true, false, cond, Option, Some, None, List, [], ◌∷◌, length, take, refl, sym, subst, ap, ◌∙◌, inl, inr, arith}
use Rattle.std.specs.Prelude.{is_some, IfSome, sum_by}
use Rattle.std.proofs.lemmas.Bool.{cases_lt, eq-eqb, ne_eqb}
use Rattle.std.proofs.lemmas.List.{take_all}
use Rattle.std.proofs.lemmas.List.Sums.{sum_by-append}
use Rattle.std.proofs.Math.Seq.{take-suc}
use Rattle.group_tree.specs.Groups.{room_of}
use Rattle.group_tree.proofs.CallerLemmas.{number_in_room}
use Rattle.group_charge.specs.Charges.{AreCharges}
use Rattle.step_rules.specs.State.{one_if, sum_to}
use Rattle.step_rules.proofs.Sums.{sum_none, sum_only, sum_same, sum_swap}
use Rattle.boot_words.specs.Tables.{KnownTable}
use Rattle.mem_machine.specs.declared.frame_state.FrameState.{FrameState}
use Rattle.mem_machine.specs.declared.frame_state.FrameState.TheVariants.{Free, Lent, Head, Tail}
use Rattle.mem_machine.specs.declared.frame_state.Place.TheVariants as place
use Rattle.mem_machine.specs.{frame_state_at, place_of, frame_state_group, one_if_is, KnownMachine, IsConsistent, frames_charged, frames_in_groups}
use Rattle.mem_machine.proofs.Keepers.{keeper_there}

-- a group below the bound is counted once
one_number : (k : ℕ) (group : Option ℕ) → IfSome group (λ g. g < k) → sum_to k (λ g. one_if_is g group) ≡ one_if (is_some group)
one_number k None few = sum_none k (λ g. 0) (λ g below. refl)
one_number k (Some n) few =
    sum_only k (λ g. one_if_is g (Some n)) n few (λ g below ne. ap (λ (b : Bool). cond b 1 0) (ne_eqb n g (λ e. ne (sym e))))
    ∙ ap (λ (b : Bool). cond b 1 0) (eq-eqb n n refl)

-- a sum over the first frames, one after the other
sum_over : (h : FrameState → ℕ) (frame_states : List FrameState) (k : ℕ) → k ≤ length frame_states → sum_to k (λ f. h (frame_state_at frame_states f)) ≡ sum_by h (take k frame_states)
unfolding sum_to
sum_over h frame_states zero within = refl
sum_over h frame_states (suc k) within =
    let rest = sum_over h frame_states k (omega arith) in
    let inside : k < length frame_states = omega arith in
    let more = ap (sum_by h) (take-suc frame_states k Free inside) in
    let both = sum_by-append h (take k frame_states) (frame_state_at frame_states k ∷ []) in
    omega (arith, rest, more, both)

-- the group that a frame is charged to has a number below this
group_low : (room : ℕ) (s : FrameState) → ((g : ℕ) → place_of s ≡ place.Charged g → g < room) → IfSome (frame_state_group s) (λ g. g < room)
group_low room Free low = tt
group_low room (Lent p) low = tt
group_low room (Head unit) low = low unit.group refl
group_low room (Tail g) low = low g refl

-- what is charged to the groups are all frames that are charged
all_charged : (t : KnownTable) (m : KnownMachine) → IsConsistent t m → AreCharges m.ledger
    → sum_to (room_of m.ledger.groups) (frames_charged m.frame_states) ≡ frames_in_groups m.frame_states
all_charged t m ok legal =
    let n : ℕ = length m.frame_states in
    let room : ℕ = room_of m.ledger.groups in
    sum_swap room n (λ g f. one_if_is g (frame_state_group (frame_state_at m.frame_states f)))
    ∙ sum_same n (λ f. sum_to room (λ g. one_if_is g (frame_state_group (frame_state_at m.frame_states f)))) (λ f. one_if (is_some (frame_state_group (frame_state_at m.frame_states f))))
    (λ f inside. one_number room (frame_state_group (frame_state_at m.frame_states f)) (low f inside))
    ∙ sum_over (λ s. one_if (is_some (frame_state_group s))) m.frame_states n (omega arith)
    ∙ ap frames_in_groups (take_all n m.frame_states (omega arith))
  where
    low : (f : ℕ) → f < length m.frame_states → IfSome (frame_state_group (frame_state_at m.frame_states f)) (λ g. g < room_of m.ledger.groups)
    low f inside =
        let sized = ok.sizes.frame_states in
        let below : f < t.frames = omega arith in
        group_low (room_of m.ledger.groups) (frame_state_at m.frame_states f) (λ g is. number_in_room m.ledger.groups g legal.groups (keeper_there t m f g ok legal below is))

one_at_most : (b : Bool) → one_if b ≤ 1
one_at_most true = omega arith
one_at_most false = omega arith

charged_few : (frame_states : List FrameState) → frames_in_groups frame_states ≤ length frame_states
charged_few [] = omega arith
charged_few (x ∷ xs) =
    let rest = charged_few xs in
    let one = one_at_most (is_some (frame_state_group x)) in
    let both = sum_by-append (λ (y : FrameState). one_if (is_some (frame_state_group y))) (x ∷ []) xs in
    omega (arith, rest, one, both)

-- a sum grows with its bound
sum_grows : (m k : ℕ) (h : ℕ → ℕ) → k ≤ m → sum_to k h ≤ sum_to m h
unfolding sum_to
sum_grows zero k h le = let e : k ≡ 0 = omega arith in rw e (omega arith)
sum_grows (suc m) k h le = elim (cases_lt k (suc m)) [
  | inl lt ↦ let rest = sum_grows m k h (omega arith) in omega (arith, rest)
  | inr ge ↦ let e : k ≡ suc m = omega arith in rw e (omega arith)
]

-- the first groups have no more frames than the zone
some_charged : (t : KnownTable) (m : KnownMachine) → IsConsistent t m → AreCharges m.ledger
    → (k : ℕ) → k ≤ room_of m.ledger.groups → sum_to k (frames_charged m.frame_states) ≤ t.frames
some_charged t m ok legal k le =
    let grows = sum_grows (room_of m.ledger.groups) k (frames_charged m.frame_states) le in
    let all = all_charged t m ok legal in
    let few = charged_few m.frame_states in
    let sized = ok.sizes.frame_states in
    omega (arith, grows, all, few, sized)

-- What the first groups are charged for: with one more its frames more, at most the frames of the zone, and of all
-- groups the frames that are charged
pub record AreCounted (room frames : ℕ) (frame_states : List FrameState) : Type 0 where
  pub next : (k : ℕ) → sum_to (k + 1) (frames_charged frame_states) ≡ sum_to k (frames_charged frame_states) + frames_charged frame_states k
  pub within : (k : ℕ) → k ≤ room → sum_to k (frames_charged frame_states) ≤ frames
  pub all : sum_to room (frames_charged frame_states) ≡ frames_in_groups frame_states

sum_next : (k : ℕ) (h : ℕ → ℕ) → sum_to (k + 1) h ≡ sum_to k h + h k
unfolding sum_to
sum_next k h = let e : k + 1 ≡ suc k = omega arith in rw e refl

pub are_counted : (t : KnownTable) (m now : KnownMachine) → m ≡ now → IsConsistent t m → AreCharges m.ledger
    → AreCounted (room_of now.ledger.groups) t.frames now.frame_states
are_counted t m now same ok legal = subst (λ (x : KnownMachine). AreCounted (room_of x.ledger.groups) t.frames x.frame_states) same (record {
  next = λ k. sum_next k (frames_charged m.frame_states);
  within = some_charged t m ok legal;
  all = all_charged t m ok legal;
})
