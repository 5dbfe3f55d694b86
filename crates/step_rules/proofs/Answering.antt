-- Each step has one answer, but for which free block is placed. Serves `answers_are_determined`, `only_seats_act`.
use Rattle.std.proofs.Common.{◌≡◌, ℕ, ◌+◌, ◌≤◌, ◌==◌, true, false, Option, Some, None, List, refl, sym, ◌∙◌, ap, subst, arith, inl, inr, if◌then◌else◌, eq-eqb}
use Rattle.std.specs.Prelude.{◌⊎◌, ◌||◌}
use Rattle.std.proofs.lemmas.Bool.{cases_order, or_left, or_right, ne_eqb, false≢true, true≢false}
use Rattle.group_tree.specs.{AreGroups, IsLeastFreeNumber, PathHasRoom, IsLowestOver}
use Rattle.group_tree.proofs.CallerLemmas.{in_subtree-antisym}
use Rattle.step_rules.specs.declared.step.Action.{Action}
use Rattle.step_rules.specs.declared.step.Action.TheVariants.{Lock, Unlock, Get, Put, Freeze, TakeIn, PassBack, Consume, Credit, Report, Absorb}
use Rattle.step_rules.specs.declared.step.Action.TheVariants.{DrainStock, Grant, PlaceBlock, Make}
use Rattle.step_rules.specs.declared.step.Answer.{Answer}
use Rattle.step_rules.specs.declared.step.Answer.TheVariants.{Illegal, Done, Left, Last, Missed, Took, Empty, OtherGroup, Drained, Stocked}
use Rattle.step_rules.specs.declared.step.Answer.TheVariants.{Pages, Granted, Over, Placed, NoFreeBlock, Number}
use Rattle.step_rules.specs.{Zone, Part, live_references, is_cpu, may_zone_act, usage_of, is_legal, is_of_group, IsAnswer, IsCounted, IsMade, Allows}
use Rattle.step_rules.specs.{state_of, IsPlacing, AnswersAreDetermined, OnlySeatsAct}
use Rattle.step_rules.specs.State.{State}
use Rattle.step_rules.proofs.LegalTests.{consume_tests, credit_tests, get_tests, lock_tests, pass_back_tests, put_tests}
use Rattle.step_rules.proofs.LegalTests.{report_tests, take_in_tests, unlock_tests}
use Rattle.step_rules.proofs.Runs.{allowed}
use Rattle.step_rules.proofs.Keeping.{keepers_are_there}
use Rattle.step_rules.proofs.Freeing.{zone_of_run}

-- an action that is answered Done and in no other way
abbrev IsPlain : Action → Type 0
IsPlain (Get f) = ⊥
IsPlain (Put f) = ⊥
IsPlain (Freeze f n) = ⊥
IsPlain (Consume g) = ⊥
IsPlain (Credit f) = ⊥
IsPlain (Absorb p) = ⊥
IsPlain (DrainStock p) = ⊥
IsPlain (Grant g n) = ⊥
IsPlain (PlaceBlock g k) = ⊥
IsPlain (Make path) = ⊥
IsPlain action = Unit {0}

plain_done : (s : State) (seat : ℕ) (action : Action) (answer : Answer) → IsPlain action → IsAnswer s seat action answer → answer ≡ Done
plain_done s seat action Done plain ok = refl
plain_done s seat Lock answer plain ok = absurd ok
plain_done s seat (Get f) answer plain ok = absurd plain
plain_done s seat (Put f) answer plain ok = absurd plain
plain_done s seat (Freeze f n) answer plain ok = absurd plain
plain_done s seat (Consume g) answer plain ok = absurd plain
plain_done s seat (Credit f) answer plain ok = absurd plain
plain_done s seat (Absorb p) answer plain ok = absurd plain
plain_done s seat (DrainStock p) answer plain ok = absurd plain
plain_done s seat (Grant g n) answer plain ok = absurd plain
plain_done s seat (PlaceBlock g k) answer plain ok = absurd plain
plain_done s seat (Make path) answer plain ok = absurd plain
plain_done s seat action answer plain ok = absurd ok

-- ---- the answers that others decide
-- a put by the references that there are
data PutAs (live : ℕ) (answer : Answer) : Type 0 where
  WasLast : answer ≡ Last → live ≡ 1 → PutAs live answer
  WasLeft : (n : ℕ) → answer ≡ Left n → live ≡ n + 1 → 1 ≤ n → PutAs live answer

put_as : (s : State) (seat f : ℕ) (answer : Answer) → IsAnswer s seat (Put f) answer → IsCounted s (Put f) answer → PutAs (live_references s f) answer
put_as s seat f Last ok counted = WasLast refl counted
put_as s seat f (Left n) ok counted = WasLeft n refl counted.0 counted.1
put_as s seat f answer ok counted = absurd ok

put_one : (live : ℕ) (a b : Answer) → PutAs live a → PutAs live b → a ≡ b
put_one live a b (WasLast e one) (WasLast d two) = e ∙ sym d
put_one live a b (WasLeft n e one low) (WasLeft m d two high) = let same : n ≡ m = omega arith in e ∙ ap Left same ∙ sym d
put_one live a b (WasLast e one) (WasLeft m d two high) = absurd (omega arith)
put_one live a b (WasLeft n e one low) (WasLast d two) = absurd (omega arith)

data FreezeAs (all : Type 0) (answer : Answer) : Type 0 where
  WasAll : answer ≡ Done → all → FreezeAs all answer
  WasMissed : answer ≡ Missed → (all → ⊥) → FreezeAs all answer

freeze_as : (s : State) (seat f n : ℕ) (answer : Answer) → IsAnswer s seat (Freeze f n) answer → IsCounted s (Freeze f n) answer →
    FreezeAs (live_references s f ≡ n) answer
freeze_as s seat f n Done ok counted = WasAll refl counted
freeze_as s seat f n Missed ok counted = WasMissed refl counted
freeze_as s seat f n answer ok counted = absurd ok

freeze_one : (all : Type 0) (a b : Answer) → FreezeAs all a → FreezeAs all b → a ≡ b
freeze_one all a b (WasAll e hit) (WasAll d too) = e ∙ sym d
freeze_one all a b (WasMissed e miss) (WasMissed d miss_too) = e ∙ sym d
freeze_one all a b (WasAll e hit) (WasMissed d miss) = absurd (miss hit)
freeze_one all a b (WasMissed e miss) (WasAll d hit) = absurd (miss hit)

-- ---- the answers of a stock
-- what a consume is answered by a stock
abbrev stock_says : Part → ℕ → Answer
stock_says part g =
    if is_of_group part.stock.group g then (if part.stock.is_drained then Drained else (if part.stock.pages == 0 then Empty else Took)) else OtherGroup

of_group : (o : Option ℕ) (g : ℕ) → o ≡ Some g → is_of_group o g ≡ true
of_group o g e = ap (λ x. is_of_group x g) e ∙ eq-eqb g g refl

of_other : (o : Option ℕ) (g : ℕ) → (o ≡ Some g → ⊥) → is_of_group o g ≡ false
of_other None g ne = refl
of_other (Some h) g ne = ne_eqb h g (λ e. ne (ap Some e))

consume_says : (s : State) (seat g : ℕ) (answer : Answer) → IsAnswer s seat (Consume g) answer → answer ≡ stock_says (s.parts seat) g
consume_says s seat g Took ok =
    rw (of_group (s.parts seat).stock.group g ok.0, ok.1, ne_eqb (s.parts seat).stock.pages 0 (λ e. (let some = ok.2 in omega arith))) refl
consume_says s seat g Empty ok = rw (of_group (s.parts seat).stock.group g ok.0, ok.1, eq-eqb (s.parts seat).stock.pages 0 ok.2) refl
consume_says s seat g Drained ok = rw (of_group (s.parts seat).stock.group g ok.0, ok.1) refl
consume_says s seat g OtherGroup ok = rw (of_other (s.parts seat).stock.group g ok) refl
consume_says s seat g answer ok = absurd ok

credit_says : (s : State) (seat f : ℕ) (answer : Answer) → IsAnswer s seat (Credit f) answer → answer ≡ (if (s.parts seat).stock.is_drained then Drained else Stocked)
credit_says s seat f Stocked ok = rw ok refl
credit_says s seat f Drained ok = rw ok refl
credit_says s seat f answer ok = absurd ok

absorb_says : (s : State) (seat p : ℕ) (answer : Answer) → IsAnswer s seat (Absorb p) answer → answer ≡ Pages (s.parts p).reported
absorb_says s seat p (Pages n) ok = ap Pages ok
absorb_says s seat p answer ok = absurd ok

drain_says : (s : State) (seat p : ℕ) (answer : Answer) → IsAnswer s seat (DrainStock p) answer → IsCounted s (DrainStock p) answer →
    answer ≡ Pages (s.parts p).stock.pages
drain_says s seat p (Pages n) ok counted = ap Pages counted
drain_says s seat p answer ok counted = absurd ok

-- ---- a grant, a new group, a block
data GrantAs (s : State) (g n : ℕ) (answer : Answer) : Type 0 where
  HadRoom : answer ≡ Granted → PathHasRoom s.groups (usage_of s) g n → GrantAs s g n answer
  HadNone : (m : ℕ) → answer ≡ Over m → IsLowestOver s.groups (usage_of s) g n m → GrantAs s g n answer

grant_as : (s : State) (seat g n : ℕ) (answer : Answer) → IsAnswer s seat (Grant g n) answer → GrantAs s g n answer
grant_as s seat g n Granted ok = HadRoom refl ok
grant_as s seat g n (Over m) ok = HadNone m refl ok
grant_as s seat g n answer ok = absurd ok

grant_one : (s : State) (g n : ℕ) (a b : Answer) → AreGroups s.groups → GrantAs s g n a → GrantAs s g n b → a ≡ b
grant_one s g n a b tree (HadRoom e room) (HadRoom d too) = e ∙ sym d
grant_one s g n a b tree (HadNone m e low) (HadNone k d deep) =
    e ∙ ap Over (in_subtree-antisym s.groups m k tree (deep.lowest m low.on_path low.over) (low.lowest k deep.on_path deep.over)) ∙ sym d
grant_one s g n a b tree (HadRoom e room) (HadNone k d deep) = absurd (false≢true (sym deep.over ∙ room k deep.on_path))
grant_one s g n a b tree (HadNone m e low) (HadRoom d room) = absurd (false≢true (sym low.over ∙ room m low.on_path))

make_as : (s : State) (seat : ℕ) (path : List ℕ) (answer : Answer) → IsAnswer s seat (Make path) answer → (n : ℕ) × (answer ≡ Number n) × IsLeastFreeNumber s.groups n
make_as s seat path (Number n) ok = (n, refl, ok)
make_as s seat path answer ok = absurd ok

least_one : (s : State) (n m : ℕ) → IsLeastFreeNumber s.groups n → IsLeastFreeNumber s.groups m → n ≡ m
least_one s n m a b = elim (cases_order n m) [
  | inl e ↦ e
  | inr either ↦ elim either [
    | inl less ↦ absurd (true≢false (sym (b.least n less) ∙ a.free))
    | inr more ↦ absurd (true≢false (sym (a.least m more) ∙ b.free))
  ]
]

-- two answers are one, or both place a block
abbrev AreAlike : Answer → Answer → Type 0
AreAlike a b = (a ≡ b) ⊎ (IsPlacing a × IsPlacing b)

place_alike : (s : State) (seat g k : ℕ) (a b : Answer) → IsAnswer s seat (PlaceBlock g k) a → IsAnswer s seat (PlaceBlock g k) b → AreAlike a b
place_alike s seat g k (Placed x) (Placed y) one other = inr ((x, refl), (y, refl))
place_alike s seat g k NoFreeBlock NoFreeBlock one other = inl refl
place_alike s seat g k (Placed x) NoFreeBlock one other = absurd (other x one.0 one.1)
place_alike s seat g k NoFreeBlock (Placed y) one other = absurd (one y other.0 other.1)
place_alike s seat g k (Placed x) b one other = absurd other
place_alike s seat g k NoFreeBlock b one other = absurd other
place_alike s seat g k a b one other = absurd one

made_alike : (s : State) (seat : ℕ) (action : Action) (a b : Answer) → AreGroups s.groups → IsMade s seat action a → IsMade s seat action b → AreAlike a b
made_alike s seat (Get f) a b tree x y = inl (x.counted ∙ sym y.counted)
made_alike s seat (Put f) a b tree x y = inl (put_one (live_references s f) a b (put_as s seat f a x.answered x.counted) (put_as s seat f b y.answered y.counted))
made_alike s seat (Freeze f n) a b tree x y =
    inl (freeze_one (live_references s f ≡ n) a b (freeze_as s seat f n a x.answered x.counted) (freeze_as s seat f n b y.answered y.counted))
made_alike s seat (Consume g) a b tree x y = inl (consume_says s seat g a x.answered ∙ sym (consume_says s seat g b y.answered))
made_alike s seat (Credit f) a b tree x y = inl (credit_says s seat f a x.answered ∙ sym (credit_says s seat f b y.answered))
made_alike s seat (Absorb p) a b tree x y = inl (absorb_says s seat p a x.answered ∙ sym (absorb_says s seat p b y.answered))
made_alike s seat (DrainStock p) a b tree x y = inl (drain_says s seat p a x.answered x.counted ∙ sym (drain_says s seat p b y.answered y.counted))
made_alike s seat (Grant g n) a b tree x y = inl (grant_one s g n a b tree (grant_as s seat g n a x.answered) (grant_as s seat g n b y.answered))
made_alike s seat (PlaceBlock g k) a b tree x y = place_alike s seat g k a b x.answered y.answered
made_alike s seat (Make path) a b tree x y =
    let one = make_as s seat path a x.answered in
    let other = make_as s seat path b y.answered in
    inl (one.1 ∙ ap Number (least_one s one.0 other.0 one.2 other.2) ∙ sym other.1)
made_alike s seat action a b tree x y = inl (plain_done s seat action a tt x.answered ∙ sym (plain_done s seat action b tt y.answered))

-- what is made is legal, and what is answered Illegal isn't
not_both : (s : State) (seat : ℕ) (action : Action) (a : Answer) → a ≡ Illegal → Allows s seat action a → is_legal s seat action ≡ true → ⊥
not_both s seat action a e ok legal = false≢true (sym (refused a e ok) ∙ legal)
  where
    refused : (x : Answer) → x ≡ Illegal → Allows s seat action x → is_legal s seat action ≡ false
    refused x d allows = subst (λ (y : Answer). Allows s seat action y) d allows

-- two answers that one step may get in one state
pub answers_alike : (s : State) (seat : ℕ) (action : Action) (a b : Answer) → AreGroups s.groups → Allows s seat action a → Allows s seat action b
    → (a ≡ b) ⊎ (IsPlacing a × IsPlacing b)
answers_alike s seat action a b tree x y =
    elim (allowed s seat action a x) [
      | inl e ↦ elim (allowed s seat action b y) [
        | inl d ↦ inl (e ∙ sym d)
        | inr made ↦ absurd (not_both s seat action a e x made.legal)
      ]
      | inr made ↦ elim (allowed s seat action b y) [
        | inl d ↦ absurd (not_both s seat action b d y made.legal)
        | inr too ↦ made_alike s seat action a b tree made too
      ]
    ]

pub answers_are_determined : AnswersAreDetermined
answers_are_determined zone run legal seat action a b x y =
    answers_alike (state_of zone run) seat action a b (keepers_are_there zone run legal).groups x y

-- ---- who makes a step
acts : (s : State) (seat : ℕ) (action : Action) → is_legal s seat action ≡ true → (is_cpu s.zone seat || may_zone_act s.hold seat) ≡ true
acts s seat Lock legal = let cpu : is_cpu s.zone seat ≡ true = (lock_tests s seat legal).0 in or_left _ _ cpu
acts s seat Unlock legal = let cpu : is_cpu s.zone seat ≡ true = (unlock_tests s seat legal).0 in or_left _ _ cpu
acts s seat (Get f) legal = let cpu : is_cpu s.zone seat ≡ true = (get_tests s seat f legal).0 in or_left _ _ cpu
acts s seat (TakeIn f) legal = let cpu : is_cpu s.zone seat ≡ true = (take_in_tests s seat f legal).0 in or_left _ _ cpu
acts s seat (PassBack f) legal = let cpu : is_cpu s.zone seat ≡ true = (pass_back_tests s seat f legal).0 in or_left _ _ cpu
acts s seat (Consume g) legal = let cpu : is_cpu s.zone seat ≡ true = (consume_tests s seat g legal).0 in or_left _ _ cpu
acts s seat (Credit f) legal = let cpu : is_cpu s.zone seat ≡ true = (credit_tests s seat f legal).0 in or_left _ _ cpu
acts s seat (Report n) legal = let cpu : is_cpu s.zone seat ≡ true = (report_tests s seat n legal).0 in or_left _ _ cpu
acts s seat (Put f) legal = let either : (is_cpu s.zone seat || may_zone_act s.hold seat) ≡ true = (put_tests s seat f legal).0 in either
acts s seat action legal = let zone : may_zone_act s.hold seat ≡ true = grind arith in or_right _ _ zone

pub only_seats_act : OnlySeatsAct
only_seats_act zone run legal seat action answer ok other =
    let s = state_of zone run in
    elim (allowed s seat action answer ok) [
      | inl illegal ↦ absurd (other illegal)
      | inr made ↦ ap (λ (z : Zone). is_cpu z seat || may_zone_act s.hold seat) (sym (zone_of_run zone run)) ∙ acts s seat action made.legal
    ]
