-- Each frame that a group keeps lies in a unit. Serves `the_promise_is_kept`.
use Rattle.std.proofs.Common.{◌≡◌, ℕ, ◌+◌, ◌^◌, ◌<◌, ◌≤◌, true, Option, Some, None, length, refl, sym, ◌∙◌, ap, subst, arith, inl, inr, eq-eqb}
use Rattle.std.specs.Prelude.{◌⊎◌, nat_le}
use Rattle.std.proofs.lemmas.Bool.{cases_eq, ne_eqb, leb-true}
use Rattle.std.proofs.lemmas.Nat.{pow_pos}
use Rattle.zone_blocks.specs.declared.block.Block.{Block}
use Rattle.step_rules.specs.declared.phase.ChargedUnit.{ChargedUnit}
use Rattle.step_rules.specs.declared.phase.Way.TheVariants.{PassingOut, OnList}
use Rattle.step_rules.specs.declared.phase.Stage.{Stage}
use Rattle.step_rules.specs.declared.phase.Stage.TheVariants.{FreshAt, Bare, Live, AwaitsReturn}
use Rattle.step_rules.specs.declared.phase.Phase.{Phase}
use Rattle.step_rules.specs.declared.phase.Phase.TheVariants.{InZone, Lent, Head, Tail}
use Rattle.step_rules.specs.declared.step.Action.{Action}
use Rattle.step_rules.specs.declared.step.Action.TheVariants.{Lock, Put, Freeze, Unfreeze, PassOut, TakeIn, PassBack, Collect, Consume, Credit, PlaceBlock, Return}
use Rattle.step_rules.specs.declared.step.Answer.{Answer}
use Rattle.step_rules.specs.declared.step.Answer.TheVariants.{Illegal, Done, Last, Took, Stocked, Placed}
use Rattle.step_rules.specs.Phases.{FreshFrame, is_free, has_as, passes_out, unit_of, at_stage, stage_after_last, passed_back, collected, is_returnable}
use Rattle.step_rules.specs.State.{Zone, State, with_at, front_of}
use Rattle.step_rules.specs.Legal.{IsMade}
use Rattle.step_rules.specs.After.{Run, IsLegalRun, after, state_of, is_within, placed_phase, with_block, unit_size, without_unit, consumed}
use Rattle.step_rules.specs.Invariant.{PhasePaid, groups_in, KeepsInvariant}
use Rattle.step_rules.proofs.LegalTests.{consume_tests, credit_tests, pass_out_tests, return_tests, take_in_tests}
use Rattle.step_rules.proofs.Basics.{at_same, at_other}
use Rattle.step_rules.proofs.PhaseLemmas.{free_is, out_is, listed_is, fresh_is, none_some, returning_is, Returns, AsEnded, AsKilled}
use Rattle.step_rules.proofs.Passing.{front_listed}
use Rattle.step_rules.proofs.Placing.{within_cases, block_free, in_block, off_block, in_unit, off_unit}
use Rattle.step_rules.proofs.LocalLaws.{no_illegal}
use Rattle.step_rules.proofs.Telling.{told_run}

-- a unit of the group whose head is h goes beyond h to the frame
abbrev pub HasHead : (ℕ → Phase) → ℕ → ℕ → Type 0
HasHead phases f g = (h : ℕ) × (u : ChargedUnit) × (unit_of (phases h) ≡ Some u) × (u.group ≡ g) × (h < f) × (f < h + 2 ^ u.order)

-- each frame that is not a head, and that a group keeps, has one
abbrev pub HaveHeads : (ℕ → Phase) → Type 0
HaveHeads phases = (f g : ℕ) → phases f ≡ Tail g → HasHead phases f g

abbrev order_of : Option ChargedUnit → ℕ
order_of None = 0
order_of (Some u) = u.order

same_order : (a b : ChargedUnit) → Some a ≡ Some b → a.order ≡ b.order
same_order a b z = ap order_of z

-- one frame changes its phase: it becomes no tail, and the unit that it heads stays or has no tail
heads_at : (phases : ℕ → Phase) (k : ℕ) (y : Phase) → ((g : ℕ) → y ≡ Tail g → phases k ≡ Tail g) →
    ((u : ChargedUnit) → unit_of (phases k) ≡ Some u → (u.order ≡ 0) ⊎ (unit_of y ≡ Some u)) → HaveHeads phases → HaveHeads (with_at phases k y)
heads_at phases k y tail unit heads f g is =
    let was : phases f ≡ Tail g = elim (cases_eq f k) [
      | inl e ↦ ap phases e ∙ tail g (sym (at_same phases k y) ∙ ap (with_at phases k y) (sym e) ∙ is)
      | inr ne ↦ sym (at_other phases k y f ne) ∙ is
    ] in
    let old = heads f g was in
    elim (cases_eq old.0 k) [
      | inl e ↦ elim (unit old.1 (ap (λ (m : ℕ). unit_of (phases m)) (sym e) ∙ old.2)) [
        | inl alone ↦ absurd (
            let one : 2 ^ old.1.order ≡ 1 = ap (λ (n : ℕ). 2 ^ n) alone in
            let low = old.4 in
            let high = old.5 in
            omega arith
            )
        | inr same ↦ (old.0, old.1, ap (λ (m : ℕ). unit_of (with_at phases k y m)) e ∙ ap unit_of (at_same phases k y) ∙ same, old.3, old.4, old.5)
      ]
      | inr ne ↦ (old.0, old.1, ap unit_of (at_other phases k y old.0 ne) ∙ old.2, old.3, old.4, old.5)
    ]

-- the same unit at another stage
staged_tail : (stage : Stage) (x : Phase) (g : ℕ) → at_stage stage x ≡ Tail g → x ≡ Tail g
staged_tail stage InZone g e = e
staged_tail stage (Lent p way) g e = e
staged_tail stage (Head u old) g e = absurd (let no : Head u stage ≡ Tail g → ⊥ = λ z. cc in no e)
staged_tail stage (Tail h) g e = e

staged_unit : (stage : Stage) (x : Phase) → unit_of (at_stage stage x) ≡ unit_of x
staged_unit stage InZone = refl
staged_unit stage (Lent p way) = refl
staged_unit stage (Head u old) = refl
staged_unit stage (Tail h) = refl

heads_staged : (phases : ℕ → Phase) (k : ℕ) (stage : Stage) → HaveHeads phases → HaveHeads (with_at phases k (at_stage stage (phases k)))
heads_staged phases k stage =
    heads_at phases k (at_stage stage (phases k)) (λ g. staged_tail stage (phases k) g) (λ u e. inr (staged_unit stage (phases k) ∙ e))

sent_tail : (x : Phase) (g : ℕ) → passed_back x ≡ Tail g → x ≡ Tail g
sent_tail InZone g e = e
sent_tail (Lent p way) g e = absurd (let no : Lent p _ ≡ Tail g → ⊥ = λ z. cc in no e)
sent_tail (Head u old) g e = absurd (let no : Head u _ ≡ Tail g → ⊥ = λ z. cc in no e)
sent_tail (Tail h) g e = e

sent_unit : (x : Phase) → unit_of (passed_back x) ≡ unit_of x
sent_unit InZone = refl
sent_unit (Lent p way) = refl
sent_unit (Head u old) = refl
sent_unit (Tail h) = refl

got_tail : (x : Phase) (g : ℕ) → collected x ≡ Tail g → x ≡ Tail g
got_tail InZone g e = e
got_tail (Lent p way) g e = absurd (let no : InZone ≡ Tail g → ⊥ = λ z. cc in no e)
got_tail (Head u old) g e = absurd (let no : Head u _ ≡ Tail g → ⊥ = λ z. cc in no e)
got_tail (Tail h) g e = e

got_unit : (x : Phase) → unit_of (collected x) ≡ unit_of x
got_unit InZone = refl
got_unit (Lent p way) = refl
got_unit (Head u old) = refl
got_unit (Tail h) = refl

-- a block is placed: its frames were free, so no head and no tail of another unit is among them
heads_placed : (s : State) (g : ℕ) (b : Block) → ((x : ℕ) → b.at ≤ x → x < b.at + 2 ^ b.order → is_free (s.phases x) ≡ true) → HaveHeads s.phases →
    HaveHeads (with_block s.phases g b)
heads_placed s g b free heads f h is =
    let some = pow_pos b.order in
    elim (within_cases b.at (2 ^ b.order) f) [
      | inl within ↦
          let placed : placed_phase g b f ≡ Tail h = sym (in_block s.phases g b f within.0) ∙ is in
          let low = within.1 in
          elim (cases_eq f b.at) [
            | inl e ↦ absurd (no_head (sym (head_at f e) ∙ placed))
            | inr ne ↦
                let unit : unit_of (with_block s.phases g b b.at) ≡ Some (record { group = g; order = b.order }) =
                ap unit_of (in_block s.phases g b b.at (here b.at refl)) ∙ ap unit_of (head_at b.at refl) in
                (b.at, record { group = g; order = b.order }, unit, same_tail g h (sym (tail_at f ne) ∙ placed), omega arith, within.2)
          ]
      | inr without ↦
          let old = heads f h (sym (off_block s.phases g b f without.0) ∙ is) in
          elim (within_cases b.at (2 ^ b.order) old.0) [
            | inl within ↦ absurd (none_some old.1 (sym (ap unit_of (free_is (s.phases old.0) (free old.0 within.1 within.2))) ∙ old.2))
            | inr off ↦ (old.0, old.1, ap unit_of (off_block s.phases g b old.0 off.0) ∙ old.2, old.3, old.4, old.5)
          ]
    ]
  where
    head_at : (x : ℕ) → x ≡ b.at → placed_phase g b x ≡ Head (record { group = g; order = b.order }) Bare
    head_at x e = rw (eq-eqb x b.at e) refl

    tail_at : (x : ℕ) → (x ≡ b.at → ⊥) → placed_phase g b x ≡ Tail g
    tail_at x ne = rw (ne_eqb x b.at ne) refl

    no_head : Head (record { group = g; order = b.order }) Bare ≡ Tail h → ⊥
    no_head z = cc

    same_tail : (i j : ℕ) → Tail i ≡ Tail j → i ≡ j
    same_tail i j z = cc

    here : (x : ℕ) → x ≡ b.at → is_within b.at (2 ^ b.order) x ≡ true
    here x e = let some = pow_pos b.order in elim (within_cases b.at (2 ^ b.order) x) [ inl w ↦ w.0 | inr o ↦ absurd (o.1 (omega arith) (omega arith)) ]

-- a unit comes back: a frame beyond it has a head beyond it
heads_returned : (s : State) (k : ℕ) (u : ChargedUnit) → KeepsInvariant s → unit_of (s.phases k) ≡ Some u → HaveHeads s.phases → HaveHeads (without_unit s.phases k)
heads_returned s k u sound unit heads f g is =
    let size : unit_size (unit_of (s.phases k)) ≡ 2 ^ u.order = ap unit_size unit in
    elim (within_cases k (unit_size (unit_of (s.phases k))) f) [
      | inl within ↦ absurd (no_tail (sym (in_unit s.phases k f within.0) ∙ is))
      | inr without ↦
          let old = heads f g (sym (off_unit s.phases k f without.0) ∙ is) in
          let low = old.4 in
          let high = old.5 in
          elim (within_cases k (unit_size (unit_of (s.phases k))) old.0) [
            | inl within ↦ absurd (elim (cases_eq old.0 k) [
              | inl e ↦
                  let same : Some old.1 ≡ Some u = sym old.2 ∙ ap (λ (m : ℕ). unit_of (s.phases m)) e ∙ unit in
                  let order : 2 ^ old.1.order ≡ 2 ^ u.order = ap (λ (n : ℕ). 2 ^ n) (same_order old.1 u same) in
                  without.1 (omega arith) (omega arith)
              | inr ne ↦
                  let from = within.1 in
                  let before = within.2 in
                  none_some old.1 (sym (ap unit_of (sound.units k u unit old.0 (omega arith) (omega arith))) ∙ old.2)
            ])
            | inr off ↦ (old.0, old.1, ap unit_of (off_unit s.phases k old.0 off.0) ∙ old.2, old.3, old.4, old.5)
          ]
    ]
  where
    no_tail : InZone ≡ Tail g → ⊥
    no_tail z = cc

any_returned : (s : State) (k : ℕ) → KeepsInvariant s → Returns s.killed (s.phases k) → HaveHeads s.phases → HaveHeads (without_unit s.phases k)
any_returned s k sound (AsEnded u was) = heads_returned s k u sound (ap unit_of was)
any_returned s k sound (AsKilled u was killed) = heads_returned s k u sound (ap unit_of was)

heads_made : (s : State) (x : ℕ) (seat : ℕ) (action : Action) (answer : Answer) → KeepsInvariant s → HaveHeads s.phases → IsMade s seat action answer →
    HaveHeads (after s seat action answer).phases
heads_made s x seat action Illegal sound heads made = absurd (no_illegal s seat action made.answered)
heads_made s x seat (Put f) Last sound heads made = heads_staged s.phases f (stage_after_last seat) heads
heads_made s x seat (Freeze f n) Done sound heads made = heads_staged s.phases f AwaitsReturn heads
heads_made s x seat (Unfreeze f n) Done sound heads made = heads_staged s.phases f Live heads
heads_made s x seat (PassOut f p) Done sound heads made =
    let legal = made.legal in
    let free : is_free (s.phases f) ≡ true = (pass_out_tests s seat f p legal).3 in
    heads_at s.phases f (Lent p PassingOut) (λ g e. absurd (no_lent p g e))
    (λ u e. absurd (none_some u (sym (ap unit_of (free_is (s.phases f) free)) ∙ e))) heads
  where
    no_lent : (p g : ℕ) → Lent p PassingOut ≡ Tail g → ⊥
    no_lent p g z = cc
heads_made s x seat (TakeIn f) Done sound heads made =
    let legal = made.legal in
    let passes : passes_out seat (s.phases f) ≡ true = (take_in_tests s seat f legal).2 in
    heads_at s.phases f (Lent seat OnList) (λ g e. absurd (no_lent g e))
    (λ u e. absurd (none_some u (sym (ap unit_of (out_is seat (s.phases f) passes)) ∙ e))) heads
  where
    no_lent : (g : ℕ) → Lent seat OnList ≡ Tail g → ⊥
    no_lent g z = cc
heads_made s x seat (PassBack f) Done sound heads made =
    heads_at s.phases f (passed_back (s.phases f)) (λ g. sent_tail (s.phases f) g) (λ u e. inr (sent_unit (s.phases f) ∙ e)) heads
heads_made s x seat (Collect f p) Done sound heads made =
    heads_at s.phases f (collected (s.phases f)) (λ g. got_tail (s.phases f) g) (λ u e. inr (got_unit (s.phases f) ∙ e)) heads
heads_made s x seat (Consume g) Took sound heads made =
    let legal = made.legal in
    let some : nat_le 1 (length (s.parts seat).list) ≡ true = (consume_tests s seat g legal).1 in
    let f = front_of (s.parts seat).list in
    let listed = listed_is seat (s.phases f) (front_listed s seat sound (leb-true 1 (length (s.parts seat).list) some)) in
    heads_at s.phases f (consumed seat g) (λ h e. absurd (no_head h e)) (λ u e. absurd (none_some u (sym (ap unit_of listed) ∙ e))) heads
  where
    no_head : (h : ℕ) → consumed seat g ≡ Tail h → ⊥
    no_head h z = cc
heads_made s x seat (Credit f) Stocked sound heads made =
    let legal = made.legal in
    let fresh : has_as FreshFrame seat (s.phases f) ≡ true = (credit_tests s seat f legal).2 in
    let is = fresh_is seat (s.phases f) fresh in
    let paid : PhasePaid s.zone.cpus (groups_in s.parts) (Head is.0 (FreshAt seat)) =
    subst (PhasePaid s.zone.cpus (groups_in s.parts)) is.1 (sound.frames f).paid in
    heads_at s.phases f (Lent seat OnList) (λ g e. absurd (no_lent g e))
    (λ u e. inl (same_order u is.0 (sym e ∙ ap unit_of is.1) ∙ paid.order)) heads
  where
    no_lent : (g : ℕ) → Lent seat OnList ≡ Tail g → ⊥
    no_lent g z = cc
heads_made s x seat (PlaceBlock g k) (Placed b) sound heads made =
    heads_placed s g b (λ m low high. (block_free s.zone s.phases b made.answered.1 m low high).1) heads
heads_made s x seat (Return f) Done sound heads made =
    let legal = made.legal in
    let may : is_returnable s.killed (s.phases f) ≡ true = (return_tests s seat f legal).2 in
    any_returned s f sound (returning_is s.killed (s.phases f) may) heads
heads_made s x seat Lock answer sound heads made = heads
heads_made s x seat action answer sound heads made = heads

-- after every legal run each tail has a head
pub heads_run : (zone : Zone) (run : Run) → IsLegalRun zone run → HaveHeads (state_of zone run).phases
heads_run zone run legal =
    told_run (λ (x : ℕ) seat action answer. x) (λ s x. HaveHeads s.phases) (λ x seat action. refl) heads_made zone 0
    (λ f g e. absurd (let no : InZone ≡ Tail g → ⊥ = λ z. cc in no e)) run legal
