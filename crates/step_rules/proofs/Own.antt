-- Steps of p and of the zone's seat, under p's cover.
use Rattle.std.proofs.Common.{◌≡◌, ℕ, ◌+◌, ◌-◌, ◌^◌, ◌≤◌, ◌&&◌, ◌||◌, ◌==◌, Bool, true, false, Option, Some, List, length, refl, sym, ◌∙◌}
use Rattle.std.proofs.Common.{ap, subst, arith, inl, inr, cond, eq-eqb}
use Rattle.std.specs.Prelude.{◌⊎◌, nat_le, nat_lt, not}
use Rattle.std.proofs.lemmas.Bool.{cases_eq, cases_Bool, ne_eqb, false≢true, true≢false, and_parts, leb-true, or_cases, cond-true, cond-false}
use Rattle.group_tree.specs.Groups.{has_group, has_child}
use Rattle.zone_blocks.specs.declared.block.Block.{Block}
use Rattle.zone_blocks.specs.Areas.{IsFreeBlock}
use Rattle.step_rules.specs.declared.phase.Hold.{Hold}
use Rattle.step_rules.specs.declared.phase.Hold.TheVariants.{Visiting}
use Rattle.step_rules.specs.declared.phase.Way.TheVariants.{PassingOut, OnList}
use Rattle.step_rules.specs.declared.phase.Stage.TheVariants.{Live, BackAt, AwaitsReturn}
use Rattle.step_rules.specs.declared.phase.Phase.{Phase}
use Rattle.step_rules.specs.declared.phase.Phase.TheVariants.{Lent}
use Rattle.step_rules.specs.declared.step.Action.{Action}
use Rattle.step_rules.specs.declared.step.Action.TheVariants.{Lock, Unlock, ShutVisit, Get, Put, Freeze, Unfreeze, PassOut, TakeIn, PassBack, Collect}
use Rattle.step_rules.specs.declared.step.Action.TheVariants.{Consume, Credit, Report, Absorb, Fill, DrainStock, Grant, PlaceBlock, Publish, Return}
use Rattle.step_rules.specs.declared.step.Action.TheVariants.{Remove}
use Rattle.step_rules.specs.declared.step.Answer.{Answer}
use Rattle.step_rules.specs.declared.step.Answer.TheVariants.{Illegal, Done, Held, Left, Last, Took, Empty, Drained, OtherGroup, Stocked, Pages}
use Rattle.step_rules.specs.declared.step.Answer.TheVariants.{Granted, Over, Placed, NoFreeBlock}
use Rattle.step_rules.specs.Phases.{Kind, ListFrame, FreshFrame, has_as, passes_back, is_head, is_head_in_hand}
use Rattle.step_rules.specs.Phases.{is_returnable, passed_back, collected, at_stage, stage_after_last}
use Rattle.step_rules.specs.Phases as kinds
use Rattle.step_rules.specs.{Zone, Part, with_at, sum_to, is_cpu, is_frame, visits, may_zone_act, front_of, pins_of, with_last, usage_of, is_legal}
use Rattle.step_rules.specs.{IsAnswer, IsCounted, nothing_passes, rests, is_passable, takes_fill, after, after_last, with_phase, with_part, with_more}
use Rattle.step_rules.specs.{without_frame, paid, credited, filled, drained, with_back, consumed, seen_by, phase_seen_by, other_part_seen}
use Rattle.step_rules.specs.{parts_seen_by, references_seen_by, holds_lock, is_of_lock, KeepsInvariant}
use Rattle.step_rules.specs.State.{State}
use Rattle.group_tree.specs.Room.{PathHasRoom, IsLowestOver}
use Rattle.step_rules.proofs.LegalTests.{collect_tests, consume_tests, credit_tests, fill_tests, freeze_tests, pass_back_tests}
use Rattle.step_rules.proofs.LegalTests.{put_tests, report_tests, return_tests, take_in_tests, unfreeze_tests}
use Rattle.step_rules.proofs.Basics.{at_through, same_state}
use Rattle.step_rules.proofs.Sums.{all_same}
use Rattle.step_rules.proofs.PhaseLemmas.{live_is, in_hand, came_back, returning_is, equal_test}
use Rattle.step_rules.proofs.Referring.{changed, live_from_one}
use Rattle.step_rules.proofs.SoundSteps.{cpu_range}
use Rattle.step_rules.proofs.Runs.{after_illegal}
use Rattle.step_rules.proofs.CoverPhases.{out_seen, back_seen, free_seen, hand_seen, return_seen, frees_seen, own_seen, gone_on, woken_goes}
use Rattle.step_rules.proofs.CoverPhases.{ended_goes, backed_goes, collected_goes, listed_goes, fresh_goes, back_goes, block_seen, unit_seen, GoesOn}
use Rattle.step_rules.proofs.CoverParts.{own_part, part_seen, own_changed, any_changed, own_reference, own_referred}
use Rattle.step_rules.proofs.CoverUsage.{usage_seen}

-- the seat is the zone's or p
abbrev pub IsOwn : ℕ → ℕ → Type 0
IsOwn p seat = (seat ≡ 0) ⊎ (seat ≡ p)

-- who holds the lock is the only one that may be visited
pub only_visit : (p q : ℕ) (hold : Hold) → holds_lock p hold ≡ true → visits q hold ≡ true → q ≡ p
only_visit p q (Visiting r) h v = sym (equal_test r q v) ∙ equal_test r p h
only_visit p q hold h v = absurd (false≢true v)

cpu_own : (zone : Zone) (p seat : ℕ) → IsOwn p seat → is_cpu zone seat ≡ true → seat ≡ p
cpu_own zone p seat (inl none) cpu = absurd (let range = cpu_range zone seat cpu in let low = range.0 in omega arith)
cpu_own zone p seat (inr own) cpu = own

-- a test of a CPU's seat need only be the same where the seat is p
at_cpu : (zone : Zone) (p seat : ℕ) (a b : Bool) → IsOwn p seat → (seat ≡ p → a ≡ b) → (is_cpu zone seat && a) ≡ (is_cpu zone seat && b)
at_cpu zone p seat a b own same =
    elim (cases_Bool (is_cpu zone seat)) [
      | inl cpu ↦ ap (λ x. is_cpu zone seat && x) (same (cpu_own zone p seat own cpu))
      | inr other ↦ rw other
    ]

regroup3 : (a b c : Bool) → (a && b && c) ≡ (a && (b && c))
regroup3 true b c = refl
regroup3 false b c = refl

regroup4 : (a b c d : Bool) → (a && b && c && d) ≡ (a && (b && c && d))
regroup4 true b c d = refl
regroup4 false b c d = refl

at_cpu3 : (zone : Zone) (p seat : ℕ) (b b' c c' : Bool) → IsOwn p seat → (seat ≡ p → b ≡ b') → (seat ≡ p → c ≡ c') →
    (is_cpu zone seat && b && c) ≡ (is_cpu zone seat && b' && c')
at_cpu3 zone p seat b b' c c' own same same' =
    regroup3 (is_cpu zone seat) b c ∙ at_cpu zone p seat (b && c) (b' && c') own (λ e. (λ i. same e i && same' e i)) ∙ sym (regroup3 (is_cpu zone seat) b' c')

at_cpu4 : (zone : Zone) (p seat : ℕ) (b c d d' : Bool) → IsOwn p seat → (seat ≡ p → d ≡ d') →
    (is_cpu zone seat && b && c && d) ≡ (is_cpu zone seat && b && c && d')
at_cpu4 zone p seat b c d d' own same =
    regroup4 (is_cpu zone seat) b c d ∙ at_cpu zone p seat (b && c && d) (b && c && d') own (λ e. ap (λ x. b && c && x) (same e))
    ∙ sym (regroup4 (is_cpu zone seat) b c d')

nothing_seen : (s : State) (p q : ℕ) → nothing_passes (seen_by p s) q ≡ nothing_passes s q
nothing_seen s p q = all_same s.zone.frames (rests (seen_by p s) q) (rests s q) (λ f. λ i. not (out_seen p q (s.phases f) i) && not (back_seen p q (s.phases f) i))

own_pins : (s : State) (p seat : ℕ) → IsOwn p seat → pins_of (seen_by p s) seat ≡ pins_of s seat
own_pins s p seat own = ap (sum_to s.zone.frames) (λ i. λ f. own_reference p s.references seat f own i)

-- only the head of a live unit has references
head_seen : (s : State) (p f : ℕ) → KeepsInvariant s → (a : Bool) →
    (a && is_head (phase_seen_by p (s.phases f)) && nat_le 1 (s.references 0 f)) ≡ (a && is_head (s.phases f) && nat_le 1 (s.references 0 f))
head_seen s p f sound a =
    elim (cases_Bool (nat_le 1 (s.references 0 f))) [
      | inl some ↦
          let is = live_is (s.phases f) (live_from_one s 0 f sound (leb-true 1 (s.references 0 f) some)) in
          ap (λ (b : Bool). a && b && nat_le 1 (s.references 0 f)) (ap (λ x. is_head (phase_seen_by p x)) is.1 ∙ sym (ap is_head is.1))
      | inr none ↦ rw none (both_false (a && is_head (phase_seen_by p (s.phases f))) (a && is_head (s.phases f)))
    ]
  where
    both_false : (x y : Bool) → (x && false) ≡ (y && false)
    both_false true true = refl
    both_false true false = refl
    both_false false true = refl
    both_false false false = refl

-- a fill is legal where p is visited alone
fill_seen : (s : State) (p q g n : ℕ) (a : Bool) → holds_lock p s.hold ≡ true →
    (a && visits q s.hold && has_group s.groups g && takes_fill (parts_seen_by p s.parts q) g && nat_le n (s.pending g))
    ≡ (a && visits q s.hold && has_group s.groups g && takes_fill (s.parts q) g && nat_le n (s.pending g))
fill_seen s p q g n a holds =
    elim (cases_Bool (visits q s.hold)) [
      | inl visit ↦ ap (λ (part : Part). a && visits q s.hold && has_group s.groups g && takes_fill part g && nat_le n (s.pending g))
          (own_part p s.parts q (only_visit p q s.hold holds visit))
      | inr other ↦ rw other (no_visit a (has_group s.groups g) (takes_fill (parts_seen_by p s.parts q) g) (takes_fill (s.parts q) g) (nat_le n (s.pending g)))
    ]
  where
    no_visit : (a b c d e : Bool) → (a && false && b && c && e) ≡ (a && false && b && d && e)
    no_visit true b c d e = refl
    no_visit false b c d e = refl

-- a step of p or the zone is legal under the cover exactly where it is
pub own_legal : (s : State) (p seat : ℕ) (action : Action) → KeepsInvariant s → IsOwn p seat → is_of_lock action ≡ false → holds_lock p s.hold ≡ true →
    is_legal (seen_by p s) seat action ≡ is_legal s seat action
own_legal s p seat Lock sound own inside holds = absurd (true≢false inside)
own_legal s p seat Unlock sound own inside holds = absurd (true≢false inside)
own_legal s p seat (ShutVisit q) sound own inside holds =
    let a : (parts_seen_by p s.parts q).unreported ≡ (s.parts q).unreported = part_seen (λ part. part.unreported) (λ part. refl) p s.parts q in
    let b : (parts_seen_by p s.parts q).reported ≡ (s.parts q).reported = part_seen (λ part. part.reported) (λ part. refl) p s.parts q in
    (λ i. may_zone_act s.hold seat && visits q s.hold && nothing_seen s p q i && a i == 0 && b i == 0)
own_legal s p seat (Get f) sound own inside holds =
    at_cpu3 s.zone p seat _ _ _ _ own (λ e. refl) (λ e. (λ i. nat_lt (own_pins s p seat own i + length (own_part p s.parts seat e i).back) 256))
own_legal s p seat (Put f) sound own inside holds =
    (λ i. (is_cpu s.zone seat || may_zone_act s.hold seat) && is_frame s.zone f && nat_le 1 (own_reference p s.references seat f own i))
own_legal s p seat (Freeze f n) sound own inside holds =
    (λ i. may_zone_act s.hold seat && is_frame s.zone f && nat_le 1 n && nat_le n (own_reference p s.references 0 f (inl refl) i))
own_legal s p seat (Unfreeze f n) sound own inside holds =
    (λ i. may_zone_act s.hold seat && is_frame s.zone f && hand_seen p (s.phases f) i && nat_le 1 n && nat_le n 255)
own_legal s p seat (PassOut f q) sound own inside holds = (λ i. may_zone_act s.hold seat && is_frame s.zone f && visits q s.hold && free_seen p (s.phases f) i)
own_legal s p seat (TakeIn f) sound own inside holds = (λ i. is_cpu s.zone seat && is_frame s.zone f && out_seen p seat (s.phases f) i)
own_legal s p seat (PassBack f) sound own inside holds =
    at_cpu4 s.zone p seat _ _ _ _ own (λ e.
    let k : (kind : Kind) → has_as kind seat (phase_seen_by p (s.phases f)) ≡ has_as kind seat (s.phases f) =
    λ kind. subst (λ (r : ℕ). has_as kind r (phase_seen_by p (s.phases f)) ≡ has_as kind r (s.phases f)) (sym e) (own_seen p kind (s.phases f)) in
    (λ i. k ListFrame i && front_of (own_part p s.parts seat e i).list == f || k FreshFrame i || k kinds.BackFrame i))
own_legal s p seat (Collect f q) sound own inside holds =
    (λ i. may_zone_act s.hold seat && is_frame s.zone f && is_cpu s.zone q && back_seen p q (s.phases f) i)
own_legal s p seat (Consume g) sound own inside holds =
    at_cpu3 s.zone p seat _ _ _ _ own (λ e. ap (λ (part : Part). nat_le 1 (length part.list)) (own_part p s.parts seat e))
    (λ e. ap (λ (part : Part). nat_lt (length part.fresh) 32) (own_part p s.parts seat e))
own_legal s p seat (Credit f) sound own inside holds =
    at_cpu3 s.zone p seat _ _ _ _ own (λ e. refl) (λ e. subst (λ (r : ℕ). has_as FreshFrame r (phase_seen_by p (s.phases f)) ≡ has_as FreshFrame r (s.phases f))
    (sym e) (own_seen p FreshFrame (s.phases f)))
own_legal s p seat (Report n) sound own inside holds =
    at_cpu3 s.zone p seat _ _ _ _ own (λ e. refl) (λ e. ap (λ (part : Part). nat_le n part.unreported) (own_part p s.parts seat e))
own_legal s p seat (Fill q g n) sound own inside holds = fill_seen s p q g n (may_zone_act s.hold seat) holds
own_legal s p seat (Publish f) sound own inside holds = head_seen s p f sound (may_zone_act s.hold seat && is_frame s.zone f)
own_legal s p seat (Return f) sound own inside holds = (λ i. may_zone_act s.hold seat && is_frame s.zone f && return_seen p s.killed (s.phases f) i)
own_legal s p seat (Remove g) sound own inside holds =
    (λ i. may_zone_act s.hold seat && (has_group s.groups g && not (g == 0) && not (has_child s.groups g) && usage_seen s p sound g i == 0))
own_legal s p seat action sound own inside holds = refl

-- all usage at once
usages_seen : (s : State) (p : ℕ) → KeepsInvariant s → usage_of (seen_by p s) ≡ usage_of s
usages_seen s p sound = λ i. λ g. usage_seen s p sound g i

-- an answer under the cover is one of the whole state
pub own_answer : (s : State) (p seat : ℕ) (action : Action) (answer : Answer) → KeepsInvariant s → IsOwn p seat → is_legal s seat action ≡ true →
    IsAnswer (seen_by p s) seat action answer → IsAnswer s seat action answer
own_answer s p seat (Consume g) Took sound own legal ok =
    let cpu : is_cpu s.zone seat ≡ true = (consume_tests s seat g legal).0 in
    subst (λ (part : Part). (part.stock.group ≡ Some g) × (part.stock.is_drained ≡ false) × (1 ≤ part.stock.pages))
    (own_part p s.parts seat (cpu_own s.zone p seat own cpu)) ok
own_answer s p seat (Consume g) Empty sound own legal ok =
    let cpu : is_cpu s.zone seat ≡ true = (consume_tests s seat g legal).0 in
    subst (λ (part : Part). (part.stock.group ≡ Some g) × (part.stock.is_drained ≡ false) × (part.stock.pages ≡ 0))
    (own_part p s.parts seat (cpu_own s.zone p seat own cpu)) ok
own_answer s p seat (Consume g) Drained sound own legal ok =
    let cpu : is_cpu s.zone seat ≡ true = (consume_tests s seat g legal).0 in
    subst (λ (part : Part). (part.stock.group ≡ Some g) × (part.stock.is_drained ≡ true)) (own_part p s.parts seat (cpu_own s.zone p seat own cpu)) ok
own_answer s p seat (Consume g) OtherGroup sound own legal ok =
    let cpu : is_cpu s.zone seat ≡ true = (consume_tests s seat g legal).0 in
    subst (λ (part : Part). part.stock.group ≡ Some g → ⊥) (own_part p s.parts seat (cpu_own s.zone p seat own cpu)) ok
own_answer s p seat (Credit f) Stocked sound own legal ok =
    let cpu : is_cpu s.zone seat ≡ true = (credit_tests s seat f legal).0 in
    subst (λ (part : Part). part.stock.is_drained ≡ false) (own_part p s.parts seat (cpu_own s.zone p seat own cpu)) ok
own_answer s p seat (Credit f) Drained sound own legal ok =
    let cpu : is_cpu s.zone seat ≡ true = (credit_tests s seat f legal).0 in
    subst (λ (part : Part). part.stock.is_drained ≡ true) (own_part p s.parts seat (cpu_own s.zone p seat own cpu)) ok
own_answer s p seat (Absorb q) (Pages n) sound own legal ok = ok ∙ part_seen (λ part. part.reported) (λ part. refl) p s.parts q
own_answer s p seat (Grant g n) Granted sound own legal ok = subst (λ (usage : ℕ → ℕ). PathHasRoom s.groups usage g n) (usages_seen s p sound) ok
own_answer s p seat (Grant g n) (Over m) sound own legal ok = subst (λ (usage : ℕ → ℕ). IsLowestOver s.groups usage g n m) (usages_seen s p sound) ok
own_answer s p seat (PlaceBlock g k) (Placed b) sound own legal ok =
    (ok.0, subst (λ (free : List Bool). IsFreeBlock free b) (frees_seen p s.zone s.phases) ok.1)
own_answer s p seat (PlaceBlock g k) NoFreeBlock sound own legal ok =
    subst (λ (free : List Bool). (b : Block) → b.order ≡ k → IsFreeBlock free b → ⊥) (frees_seen p s.zone s.phases) ok
own_answer s p seat action answer sound own legal ok = ok

-- a reference more or less, or another phase with it
referred_seen : (s : State) (p seat f : ℕ) (F : ℕ → ℕ) → IsOwn p seat →
    references_seen_by p (changed s.references seat f (F (s.references seat f)))
    ≡ changed (references_seen_by p s.references) seat f (F (references_seen_by p s.references seat f))
referred_seen s p seat f F own = own_referred p s.references seat f (F (s.references seat f)) own
    ∙ ap (λ (n : ℕ). changed (references_seen_by p s.references) seat f (F n)) (sym (own_reference p s.references seat f own))

last_seen : (s : State) (p seat f : ℕ) → KeepsInvariant s → IsOwn p seat → 1 ≤ s.references seat f → seen_by p (after_last s seat f) ≡ after_last (seen_by p s) seat f
last_seen s p seat f sound own some =
    let is = live_is (s.phases f) (live_from_one s seat f sound some) in
    elim (cases_eq seat 0) [
      | inl zone ↦ subst (λ (k : ℕ). seen_by p (after_last s k f) ≡ after_last (seen_by p s) k f) (sym zone)
          (same_state s (gone_on p s.phases f (at_stage AwaitsReturn) (ended_goes p (s.phases f) is.0 is.1)) (referred_seen s p 0 f (λ n. n - 1) (inl refl)) refl)
      | inr ne ↦
          let e : seat ≡ p = elim own [ inl z ↦ absurd (ne z) | inr e ↦ e ] in
          let stage : stage_after_last seat ≡ BackAt p = cond-false (seat == 0) AwaitsReturn (BackAt seat) (ne_eqb seat 0 ne) ∙ ap BackAt e in
          let goes : GoesOn p (at_stage (stage_after_last seat)) (s.phases f) =
          subst (λ z. GoesOn p (at_stage z) (s.phases f)) (sym stage) (backed_goes p (s.phases f) is.0 is.1) in
          let parts : parts_seen_by p (cond (seat == 0) s.parts (with_at s.parts seat (with_back (s.parts seat) f)))
          ≡ cond (seat == 0) (parts_seen_by p s.parts) (with_at (parts_seen_by p s.parts) seat (with_back (parts_seen_by p s.parts seat) f)) =
          ap (parts_seen_by p) (cond-false (seat == 0) s.parts (with_at s.parts seat (with_back (s.parts seat) f)) (ne_eqb seat 0 ne))
          ∙ own_changed p s.parts seat (λ part. with_back part f) e
          ∙ sym (cond-false (seat == 0) (parts_seen_by p s.parts) (with_at (parts_seen_by p s.parts) seat (with_back (parts_seen_by p s.parts seat) f))
          (ne_eqb seat 0 ne)) in
          same_state s (gone_on p s.phases f (at_stage (stage_after_last seat)) goes) (referred_seen s p seat f (λ n. n - 1) own) parts
    ]

-- a frame is passed back under the cover as it is
sent_seen : (s : State) (p seat f : ℕ) → seat ≡ p → GoesOn p passed_back (s.phases f) →
    seen_by p (with_part (with_phase s f (passed_back (s.phases f))) seat (without_frame (s.parts seat) (s.phases f) seat f))
    ≡ after (seen_by p s) seat (PassBack f) Done
sent_seen s p seat f e goes =
    same_state s (gone_on p s.phases f passed_back goes) refl
    (own_changed p s.parts seat (λ part. without_frame part (s.phases f) seat f) e
    ∙ ap (λ (x : Phase). with_at (parts_seen_by p s.parts) seat (without_frame (parts_seen_by p s.parts seat) x seat f)) (sym goes.before))

drained_seen : (part : Part) (n : ℕ) → n ≡ part.stock.pages → other_part_seen (drained part n) ≡ drained (other_part_seen part) n
drained_seen part n is =
    let e : part.stock.pages - n + length part.fresh ≡ part.stock.pages + length part.fresh - n = omega arith in
    ap (λ (k : ℕ). record (other_part_seen (drained part n)) { stock = record ((drained part n).stock) { pages = k } }) e

-- what a step of p or the zone changes is the same under the cover
pub own_after : (s : State) (p seat : ℕ) (action : Action) (answer : Answer) → KeepsInvariant s → IsOwn p seat → is_of_lock action ≡ false →
    holds_lock p s.hold ≡ true →
    is_legal s seat action ≡ true → IsAnswer s seat action answer → IsCounted s action answer → seen_by p (after s seat action answer)
    ≡ after (seen_by p s) seat action answer
own_after s p seat action Illegal sound own inside holds legal ok counted =
    ap (seen_by p) (after_illegal s seat action) ∙ sym (after_illegal (seen_by p s) seat action)
own_after s p seat (Get f) Held sound own inside holds legal ok counted = same_state s refl (referred_seen s p seat f (λ n. n + 1) own) refl
own_after s p seat (Put f) (Left n) sound own inside holds legal ok counted = same_state s refl (referred_seen s p seat f (λ n. n - 1) own) refl
own_after s p seat (Put f) Last sound own inside holds legal ok counted =
    let some : nat_le 1 (s.references seat f) ≡ true = (put_tests s seat f legal).2 in
    last_seen s p seat f sound own (leb-true 1 (s.references seat f) some)
own_after s p seat (Freeze f n) Done sound own inside holds legal ok counted =
    let one : nat_le 1 n ≡ true = (freeze_tests s seat f n legal).2 in
    let some : nat_le n (s.references 0 f) ≡ true = (freeze_tests s seat f n legal).3 in
    let low : 1 ≤ n = leb-true 1 n one in
    let high : n ≤ s.references 0 f = leb-true n (s.references 0 f) some in
    let is = live_is (s.phases f) (live_from_one s 0 f sound (omega arith)) in
    same_state s (gone_on p s.phases f (at_stage AwaitsReturn) (ended_goes p (s.phases f) is.0 is.1)) (referred_seen s p 0 f (λ k. k - n) (inl refl)) refl
own_after s p seat (Unfreeze f n) Done sound own inside holds legal ok counted =
    let hand : is_head_in_hand (s.phases f) ≡ true = (unfreeze_tests s seat f n legal).2 in
    same_state s (gone_on p s.phases f (at_stage Live) (woken_goes p (s.phases f) (in_hand (s.phases f) hand)))
    (referred_seen s p 0 f (λ k. k + n) (inl refl)) refl
own_after s p seat (PassOut f q) Done sound own inside holds legal ok counted =
    same_state s (at_through (phase_seen_by p) s.phases f (Lent q PassingOut)) refl refl
own_after s p seat (TakeIn f) Done sound own inside holds legal ok counted =
    let cpu : is_cpu s.zone seat ≡ true = (take_in_tests s seat f legal).0 in
    same_state s (at_through (phase_seen_by p) s.phases f (Lent seat OnList)) refl
    (own_changed p s.parts seat (λ part. record part { list = with_last part.list f }) (cpu_own s.zone p seat own cpu))
own_after s p seat (PassBack f) Done sound own inside holds legal ok counted =
    let cpu : is_cpu s.zone seat ≡ true = (pass_back_tests s seat f legal).0 in
    let e : seat ≡ p = cpu_own s.zone p seat own cpu in
    let may : is_passable s seat f ≡ true = (pass_back_tests s seat f legal).3 in
    let mine : (kind : Kind) → has_as kind seat (s.phases f) ≡ true → has_as kind p (s.phases f) ≡ true =
    λ kind. subst (λ (r : ℕ). has_as kind r (s.phases f) ≡ true) e in
    sent_seen s p seat f e (elim (or_cases (has_as ListFrame seat (s.phases f) && front_of (s.parts seat).list == f || has_as FreshFrame seat (s.phases f))
    (has_as kinds.BackFrame seat (s.phases f)) may) [
      | inl first ↦ elim (or_cases (has_as ListFrame seat (s.phases f) && front_of (s.parts seat).list == f) (has_as FreshFrame seat (s.phases f)) first) [
        | inl front ↦ listed_goes p (s.phases f) (mine ListFrame (and_parts (has_as ListFrame seat (s.phases f)) (front_of (s.parts seat).list == f) front).0)
        | inr fresh ↦ fresh_goes p (s.phases f) (mine FreshFrame fresh)
      ]
      | inr back ↦ back_goes p (s.phases f) (mine kinds.BackFrame back)
    ])
own_after s p seat (Collect f q) Done sound own inside holds legal ok counted =
    let passes : passes_back q (s.phases f) ≡ true = (collect_tests s seat f q legal).3 in
    same_state s (gone_on p s.phases f collected (collected_goes p q (s.phases f) (came_back q (s.phases f) passes))) refl refl
own_after s p seat (Consume g) Took sound own inside holds legal ok counted =
    let cpu : is_cpu s.zone seat ≡ true = (consume_tests s seat g legal).0 in
    let e : seat ≡ p = cpu_own s.zone p seat own cpu in
    let front : front_of (s.parts seat).list ≡ front_of (parts_seen_by p s.parts seat).list =
    ap (λ (part : Part). front_of part.list) (sym (own_part p s.parts seat e)) in
    let fresh : phase_seen_by p (consumed seat g) ≡ consumed seat g = cond-true (seat == p) (consumed seat g) (Lent seat OnList) (eq-eqb seat p e) in
    same_state s
    (at_through (phase_seen_by p) s.phases (front_of (s.parts seat).list) (consumed seat g)
    ∙ (λ i. with_at (λ m. phase_seen_by p (s.phases m)) (front i) (fresh i)))
    refl (own_changed p s.parts seat paid e)
own_after s p seat (Credit f) Stocked sound own inside holds legal ok counted =
    let cpu : is_cpu s.zone seat ≡ true = (credit_tests s seat f legal).0 in
    same_state s (at_through (phase_seen_by p) s.phases f (Lent seat OnList)) refl
    (own_changed p s.parts seat (λ part. credited part f) (cpu_own s.zone p seat own cpu))
own_after s p seat (Report n) Done sound own inside holds legal ok counted =
    let cpu : is_cpu s.zone seat ≡ true = (report_tests s seat n legal).0 in
    same_state s refl refl (own_changed p s.parts seat (λ part. record part { unreported = part.unreported - n; reported = part.reported + n })
    (cpu_own s.zone p seat own cpu))
own_after s p seat (Absorb q) (Pages n) sound own inside holds legal ok counted =
    same_state s refl refl (any_changed p s.parts q (λ part. record part { book = part.book - n; reported = part.reported - n }) refl)
own_after s p seat (Fill q g n) Done sound own inside holds legal ok counted =
    let visit : visits q s.hold ≡ true = (fill_tests s seat q g n legal).1 in
    same_state (record s { pending = with_at s.pending g (s.pending g - n) }) refl refl
    (own_changed p s.parts q (λ part. filled part g n) (only_visit p q s.hold holds visit))
own_after s p seat (DrainStock q) (Pages n) sound own inside holds legal ok counted =
    let group : (s.parts q).stock.group ≡ (parts_seen_by p s.parts q).stock.group = sym (part_seen (λ part. part.stock.group) (λ part. refl) p s.parts q) in
    same_state (record s { pending = with_more s.pending (s.parts q).stock.group n }) refl refl
    (any_changed p s.parts q (λ part. drained part n) (drained_seen (s.parts q) n counted))
    ∙ ap (λ (o : Option ℕ). record (seen_by p s) {
      parts = with_at (parts_seen_by p s.parts) q (drained (parts_seen_by p s.parts q) n);
      pending = with_more s.pending o n;
    }) group
own_after s p seat (PlaceBlock g k) (Placed b) sound own inside holds legal ok counted =
    same_state (record s { pending = with_at s.pending g (s.pending g - 2 ^ k) }) (block_seen p s.phases g b) refl refl
own_after s p seat (Return f) Done sound own inside holds legal ok counted =
    let may : is_returnable s.killed (s.phases f) ≡ true = (return_tests s seat f legal).2 in
    same_state s (unit_seen p s.killed s.phases f (returning_is s.killed (s.phases f) may)) refl refl
own_after s p seat Lock answer sound own inside holds legal ok counted = refl
own_after s p seat action answer sound own inside holds legal ok counted = refl
