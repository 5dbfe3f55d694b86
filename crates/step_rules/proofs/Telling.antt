-- What the state has is what a run says, folded apart. Serves `groups_follow_the_run`, `the_lock_follows_the_run`, `parts_follow_the_run`.
use Rattle.std.proofs.Common.{◌≡◌, ℕ, ◌==◌, Bool, true, false, Option, Some, None, [], ◌∷◌, refl, sym, ◌∙◌, ap, subst, arith, inl, inr}
use Rattle.std.proofs.Common.{cond, if◌then◌else◌, eq-eqb}
use Rattle.std.specs.Prelude.{is_some}
use Rattle.std.proofs.lemmas.Bool.{cases_eq, ne_eqb, false≢true, true≢false, cond-false}
use Rattle.std.specs.List.{fold}
use Rattle.std.specs.Option.{option_and_then, option_map_or}
use Rattle.group_tree.specs.declared.group.Group.{Group}
use Rattle.group_tree.specs.Groups.{has_group, limit_of, is_oom_group, with_group, with_limit, with_oom_group, without_group}
use Rattle.group_tree.specs.Groups.{group_at}
use Rattle.group_tree.proofs.CallerLemmas.{has_group-with, has_group-limited, has_group-flagged, has_group-without, limit_of-with, limit_of-with_new}
use Rattle.group_tree.proofs.CallerLemmas.{limit_of-without, limit_of-limited, limit_of-limited_other, limit_of-flagged, is_oom_group-with_new}
use Rattle.group_tree.proofs.GroupLemmas.{is_oom_group-with, is_oom_group-without, is_oom_group-limited, is_oom_group-flagged}
use Rattle.group_tree.proofs.GroupLemmas.{is_oom_group-flagged_other}
use Rattle.step_rules.specs.declared.step.Step.{Step}
use Rattle.step_rules.specs.declared.step.Action.{Action}
use Rattle.step_rules.specs.declared.step.Action.TheVariants.{Lock, Unlock, OpenVisit, ShutVisit, Put, TakeIn, PassBack, Consume, Credit}
use Rattle.step_rules.specs.declared.step.Action.TheVariants.{Report, Absorb, Fill, DrainStock, SetMax, SetFlag, Make, Remove, Kill}
use Rattle.step_rules.specs.declared.step.Answer.{Answer}
use Rattle.step_rules.specs.declared.step.Answer.TheVariants.{Illegal, Done, Last, Took, Stocked, Pages, Number}
use Rattle.step_rules.specs.{Zone, Part, at_boot, with_at, without, with_last, front_of, is_unheld, is_held_by, visits, IsMade, Allows, Run, after}
use Rattle.step_rules.specs.{state_of, with_back, without_frame, paid, credited, filled, drained, IsLegalRun, limit_after, flag_after, killed_after}
use Rattle.step_rules.specs.{AllGroupsFollowRun, holder_after, open_after, hold_of, TheLockFollowsRun, InHand, hand_after, LastFill, fill_after}
use Rattle.step_rules.specs.{last_fill, AllPartsFollowRun, KeepsInvariant}
use Rattle.step_rules.specs.State.{State, boot_groups, boot_root}
use Rattle.step_rules.proofs.LegalTests.{lock_tests, open_visit_tests, shut_visit_tests, unlock_tests}
use Rattle.step_rules.proofs.PhaseLemmas.{equal_test, none_some}
use Rattle.step_rules.proofs.SoundSteps.{cpu_range}
use Rattle.step_rules.proofs.Runs.{after_illegal, allowed, kept_along, sound_boot}
use Rattle.step_rules.proofs.LocalLaws.{no_illegal}
use Rattle.step_rules.proofs.Moving.{gone_itself}

-- a relation that each made step keeps, and which an illegal one leaves, holds after every legal run
module _ {X : Type 0} (tell : X → ℕ → Action → Answer → X) (R : State → X → Type 0)
    (still : (x : X) (seat : ℕ) (action : Action) → tell x seat action Illegal ≡ x)
    (made : (s : State) (x : X) (seat : ℕ) (action : Action) (answer : Answer) → KeepsInvariant s → R s x → IsMade s seat action answer →
    R (after s seat action answer) (tell x seat action answer)) where
  told_step : (s : State) (x : X) (e : Step × Answer) → KeepsInvariant s → R s x → Allows s e.0.seat e.0.action e.1 →
      R (after s e.0.seat e.0.action e.1) (tell x e.0.seat e.0.action e.1)
  told_step s x e sound holds ok =
      elim (allowed s e.0.seat e.0.action e.1 ok) [
        | inl illegal ↦
            subst (λ (a : Answer). R (after s e.0.seat e.0.action a) (tell x e.0.seat e.0.action a)) (sym illegal)
            (subst (λ (t : State). R t (tell x e.0.seat e.0.action Illegal)) (sym (after_illegal s e.0.seat e.0.action))
            (subst (R s) (sym (still x e.0.seat e.0.action)) holds))
        | inr is ↦ made s x e.0.seat e.0.action e.1 sound holds is
      ]

  pub told_run : (zone : Zone) (x : X) → R (at_boot zone) x → (run : Run) → IsLegalRun zone run →
      R (state_of zone run) (fold (λ old e. tell old e.0.seat e.0.action e.1) x run)
  told_run zone x start run legal = (kept_along (λ old e. tell old e.0.seat e.0.action e.1) R told_step (at_boot zone) x run (sound_boot zone) start legal).1

-- ---- groups
abbrev HasLimit : ℕ → State → Option ℕ → Type 0
HasLimit g s x = has_group s.groups g ≡ true → limit_of s.groups g ≡ x

limit_still : (g : ℕ) (x : Option ℕ) (seat : ℕ) (action : Action) → limit_after g x action Illegal ≡ x
limit_still g x seat Lock = refl
limit_still g x seat action = refl

limit_made : (g : ℕ) (s : State) (x : Option ℕ) (seat : ℕ) (action : Action) (answer : Answer) → HasLimit g s x → IsMade s seat action answer →
    HasLimit g (after s seat action answer) (limit_after g x action answer)
limit_made g s x seat action Illegal holds made = absurd (no_illegal s seat action made.answered)
limit_made g s x seat (SetMax h limit) Done holds made = λ there. elim (cases_eq g h) [
  | inl e ↦ rw (eq-eqb g h e) (ap (limit_of (with_limit s.groups h limit)) e
      ∙ limit_of-limited s.groups h limit (sym (has_group-limited s.groups h h limit) ∙ sym (ap (has_group (with_limit s.groups h limit)) e) ∙ there))
  | inr ne ↦ rw (ne_eqb g h ne) (limit_of-limited_other s.groups h g limit ne ∙ holds (sym (has_group-limited s.groups h g limit) ∙ there))
]
limit_made g s x seat (SetFlag h flag) Done holds made = λ there.
    limit_of-flagged s.groups h g flag ∙ holds (sym (has_group-flagged s.groups h g flag) ∙ there)
limit_made g s x seat (Make path) (Number n) holds made = λ there. elim (cases_eq g n) [
  | inl e ↦ rw (eq-eqb g n e) (ap (limit_of (with_group s.groups n path)) e ∙ limit_of-with_new s.groups n path made.answered.free)
  | inr ne ↦ rw (ne_eqb g n ne) (limit_of-with s.groups n g path ne ∙ holds (sym (has_group-with s.groups n g path ne) ∙ there))
]
limit_made g s x seat (Remove h) Done holds made = λ there.
    let ne : g ≡ h → ⊥ = λ e. true≢false (sym there ∙ ap (has_group (without_group s.groups h)) e ∙ gone_itself s.groups h) in
    limit_of-without s.groups h g ne ∙ holds (sym (has_group-without s.groups h g ne) ∙ there)
limit_made g s x seat Lock answer holds made = holds
limit_made g s x seat action answer holds made = holds

abbrev HasFlag : ℕ → State → Bool → Type 0
HasFlag g s x = has_group s.groups g ≡ true → is_oom_group s.groups g ≡ x

flag_still : (g : ℕ) (x : Bool) (seat : ℕ) (action : Action) → flag_after g x action Illegal ≡ x
flag_still g x seat Lock = refl
flag_still g x seat action = refl

flag_made : (g : ℕ) (s : State) (x : Bool) (seat : ℕ) (action : Action) (answer : Answer) → HasFlag g s x → IsMade s seat action answer →
    HasFlag g (after s seat action answer) (flag_after g x action answer)
flag_made g s x seat action Illegal holds made = absurd (no_illegal s seat action made.answered)
flag_made g s x seat (SetMax h limit) Done holds made = λ there.
    is_oom_group-limited s.groups h g limit ∙ holds (sym (has_group-limited s.groups h g limit) ∙ there)
flag_made g s x seat (SetFlag h flag) Done holds made = λ there. elim (cases_eq g h) [
  | inl e ↦ rw (eq-eqb g h e) (ap (is_oom_group (with_oom_group s.groups h flag)) e
      ∙ is_oom_group-flagged s.groups h flag (sym (has_group-flagged s.groups h h flag) ∙ sym (ap (has_group (with_oom_group s.groups h flag)) e) ∙ there))
  | inr ne ↦ rw (ne_eqb g h ne) (is_oom_group-flagged_other s.groups h g flag ne ∙ holds (sym (has_group-flagged s.groups h g flag) ∙ there))
]
flag_made g s x seat (Make path) (Number n) holds made = λ there. elim (cases_eq g n) [
  | inl e ↦ rw (eq-eqb g n e) (ap (is_oom_group (with_group s.groups n path)) e ∙ is_oom_group-with_new s.groups n path made.answered.free)
  | inr ne ↦ rw (ne_eqb g n ne) (is_oom_group-with s.groups n g path ∙ holds (sym (has_group-with s.groups n g path ne) ∙ there))
]
flag_made g s x seat (Remove h) Done holds made = λ there.
    let ne : g ≡ h → ⊥ = λ e. true≢false (sym there ∙ ap (has_group (without_group s.groups h)) e ∙ gone_itself s.groups h) in
    is_oom_group-without s.groups h g ne ∙ holds (sym (has_group-without s.groups h g ne) ∙ there)
flag_made g s x seat Lock answer holds made = holds
flag_made g s x seat action answer holds made = holds

-- the root's flag is off at first
flag_boot : (zone : Zone) (g : ℕ) → is_oom_group (boot_groups zone) g ≡ false
unfolding is_oom_group group_at
flag_boot zone g = by_number (0 == g)
  where
    by_number : (b : Bool) → option_map_or (λ (x : Group). x.oom_group) (cond b (Some (boot_root zone)) None) false ≡ false
    by_number true = refl
    by_number false = refl

abbrev IsKilled : ℕ → State → Bool → Type 0
IsKilled g s x = s.killed g ≡ x

killed_still : (g : ℕ) (x : Bool) (seat : ℕ) (action : Action) → killed_after g x action Illegal ≡ x
killed_still g x seat Lock = refl
killed_still g x seat action = refl

killed_made : (g : ℕ) (s : State) (x : Bool) (seat : ℕ) (action : Action) (answer : Answer) → IsKilled g s x → IsMade s seat action answer →
    IsKilled g (after s seat action answer) (killed_after g x action answer)
killed_made g s x seat action Illegal holds made = absurd (no_illegal s seat action made.answered)
killed_made g s x seat (Make path) (Number n) holds made = ap (λ b. if g == n then false else b) holds
killed_made g s x seat (Kill h) Done holds made = ap (λ b. if g == h then true else b) holds
killed_made g s x seat Lock answer holds made = holds
killed_made g s x seat action answer holds made = holds

-- the root has no limit at first
limit_boot : (zone : Zone) (g : ℕ) → limit_of (boot_groups zone) g ≡ None
unfolding limit_of group_at
limit_boot zone g = by_number (0 == g)
  where
    by_number : (b : Bool) → option_and_then (λ (x : Group). x.limit) (cond b (Some (boot_root zone)) None) ≡ None
    by_number true = refl
    by_number false = refl

pub groups_follow_the_run : AllGroupsFollowRun
groups_follow_the_run zone run legal g = record {
  limit = told_run (λ x seat action answer. limit_after g x action answer) (HasLimit g) (limit_still g)
      (λ s x seat action answer sound. limit_made g s x seat action answer) zone None (λ there. limit_boot zone g) run legal;
  flag = told_run (λ x seat action answer. flag_after g x action answer) (HasFlag g) (flag_still g)
      (λ s x seat action answer sound. flag_made g s x seat action answer) zone false (λ there. flag_boot zone g) run legal;
  killed = told_run (λ x seat action answer. killed_after g x action answer) (IsKilled g) (killed_still g)
      (λ s x seat action answer sound. killed_made g s x seat action answer) zone false refl run legal;
}

-- ---- the lock
abbrev HasHold : State → Option ℕ × Bool → Type 0
HasHold s x = (s.hold ≡ hold_of x.0 x.1) × (x.0 ≡ None → x.1 ≡ false)

abbrev tell_hold : Option ℕ × Bool → ℕ → Action → Answer → Option ℕ × Bool
tell_hold x seat action answer = (holder_after x.0 seat action answer, open_after x.1 action answer)

hold_still : (x : Option ℕ × Bool) (seat : ℕ) (action : Action) → tell_hold x seat action Illegal ≡ x
hold_still x seat Lock = refl
hold_still x seat action = refl

unheld_none : (o : Option ℕ) (b : Bool) → is_unheld (hold_of o b) ≡ true → o ≡ None
unheld_none None b e = refl
unheld_none (Some p) true e = absurd (false≢true e)
unheld_none (Some p) false e = absurd (false≢true e)

held_shut : (q : ℕ) (o : Option ℕ) (b : Bool) → is_held_by q (hold_of o b) ≡ true → (o ≡ Some q) × (b ≡ false)
held_shut q None b e = absurd (false≢true e)
held_shut q (Some p) true e = absurd (false≢true e)
held_shut q (Some p) false e = (ap (λ (k : ℕ). Some k) (equal_test p q e), refl)

visit_some : (q : ℕ) (o : Option ℕ) (b : Bool) → visits q (hold_of o b) ≡ true → o ≡ Some q
visit_some q None b e = absurd (false≢true e)
visit_some q (Some p) true e = ap (λ (k : ℕ). Some k) (equal_test p q e)
visit_some q (Some p) false e = absurd (false≢true e)

hold_made : (s : State) (x : Option ℕ × Bool) (seat : ℕ) (action : Action) (answer : Answer) → HasHold s x → IsMade s seat action answer →
    HasHold (after s seat action answer) (tell_hold x seat action answer)
hold_made s x seat action Illegal holds made = absurd (no_illegal s seat action made.answered)
hold_made s x seat Lock Done holds made =
    let legal = made.legal in
    let free : is_unheld s.hold ≡ true = (lock_tests s seat legal).1 in
    let none = unheld_none x.0 x.1 (ap is_unheld (sym holds.0) ∙ free) in
    (ap (hold_of (Some seat)) (sym (holds.1 none)), λ e. absurd (none_some seat (sym e)))
hold_made s x seat Unlock Done holds made =
    let legal = made.legal in
    let held : is_held_by seat s.hold ≡ true = (unlock_tests s seat legal).1 in
    (refl, λ e. (held_shut seat x.0 x.1 (ap (is_held_by seat) (sym holds.0) ∙ held)).1)
hold_made s x seat (OpenVisit p) Done holds made =
    let legal = made.legal in
    let held : is_held_by p s.hold ≡ true = (open_visit_tests s seat p legal).1 in
    let is = (held_shut p x.0 x.1 (ap (is_held_by p) (sym holds.0) ∙ held)).0 in
    (ap (λ o. hold_of o true) (sym is), λ e. absurd (none_some p (sym e ∙ is)))
hold_made s x seat (ShutVisit p) Done holds made =
    let legal = made.legal in
    let visit : visits p s.hold ≡ true = (shut_visit_tests s seat p legal).1 in
    let is = visit_some p x.0 x.1 (ap (visits p) (sym holds.0) ∙ visit) in
    (ap (λ o. hold_of o false) (sym is), λ e. refl)
hold_made s x seat Lock answer holds made = holds
hold_made s x seat action answer holds made = holds

first_alone : (run : Run) (x : Option ℕ × Bool) →
    (fold (λ old e. tell_hold old e.0.seat e.0.action e.1) x run).0 ≡ fold (λ old e. holder_after old e.0.seat e.0.action e.1) x.0 run
first_alone [] x = refl
first_alone (e ∷ run) x = first_alone run (tell_hold x e.0.seat e.0.action e.1)

second_alone : (run : Run) (x : Option ℕ × Bool) →
    (fold (λ old e. tell_hold old e.0.seat e.0.action e.1) x run).1 ≡ fold (λ old e. open_after old e.0.action e.1) x.1 run
second_alone [] x = refl
second_alone (e ∷ run) x = second_alone run (tell_hold x e.0.seat e.0.action e.1)

pub the_lock_follows_the_run : TheLockFollowsRun
the_lock_follows_the_run zone run legal =
    let told = told_run tell_hold HasHold hold_still (λ s x seat action answer sound. hold_made s x seat action answer) zone (None, false)
    (refl, λ e. refl) run legal in
    let a = first_alone run (None, false) in
    let b = second_alone run (None, false) in
    record {
      hold = told.0 ∙ (λ i. hold_of (a i) (b i));
      free = λ e. sym b ∙ told.1 (a ∙ e);
    }

-- ---- a CPU's part
module _ {Y : Type 0} (H : Part → Y) (parts : ℕ → Part) (p : ℕ) (x : Y) (holds : H (parts p) ≡ x) where
  at_part : (k : ℕ) (part : Part) (F : Y → Y) → H part ≡ F (H (parts k)) → H (with_at parts k part p) ≡ cond (p == k) (F x) x
  at_part k part F e = elim (cases_eq p k) [
    | inl same ↦ rw (eq-eqb p k same) (e ∙ ap F (ap (λ (n : ℕ). H (parts n)) (sym same) ∙ holds))
    | inr ne ↦ rw (ne_eqb p k ne) holds
  ]

  off_part : (k : ℕ) (part : Part) → H part ≡ H (parts k) → H (with_at parts k part p) ≡ x
  off_part k part e = elim (cases_eq p k) [
    | inl same ↦ rw (eq-eqb p k same) (e ∙ ap (λ (n : ℕ). H (parts n)) (sym same) ∙ holds)
    | inr ne ↦ rw (ne_eqb p k ne) holds
  ]

  -- a last put changes the part of a CPU alone
  last_part : (p ≡ 0 → ⊥) → (seat : ℕ) (part : Part) (F : Y → Y) → H part ≡ F (H (parts seat)) →
      H (cond (seat == 0) parts (with_at parts seat part) p) ≡ cond (p == seat) (F x) x
  last_part some seat part F e = elim (cases_eq seat 0) [
    | inl none ↦
        ap (λ c. H (cond c parts (with_at parts seat part) p)) (eq-eqb seat 0 none) ∙ holds
        ∙ sym (cond-false (p == seat) (F x) x (ne_eqb p seat (λ same. some (same ∙ none))))
    | inr ne ↦ ap (λ c. H (cond c parts (with_at parts seat part) p)) (ne_eqb seat 0 ne) ∙ at_part seat part F e
  ]

  last_off : (seat : ℕ) (part : Part) → H part ≡ H (parts seat) → H (cond (seat == 0) parts (with_at parts seat part) p) ≡ x
  last_off seat part e = by_seat (seat == 0)
    where
      by_seat : (c : Bool) → H (cond c parts (with_at parts seat part) p) ≡ x
      by_seat true = holds
      by_seat false = off_part seat part e

abbrev pub hand_in : Part → InHand
hand_in part = record { list = part.list; fresh = part.fresh; back = part.back }

abbrev HasHand : ℕ → State → InHand → Type 0
HasHand p s x = hand_in (s.parts p) ≡ x

hand_still : (p : ℕ) (x : InHand) (seat : ℕ) (action : Action) → hand_after p x seat action Illegal ≡ x
hand_still p x seat Lock = refl
hand_still p x seat action = refl

pub hand_made : (p : ℕ) → (p ≡ 0 → ⊥) → (s : State) (x : InHand) (seat : ℕ) (action : Action) (answer : Answer) → HasHand p s x → IsMade s seat action answer →
    HasHand p (after s seat action answer) (hand_after p x seat action answer)
hand_made p some s x seat action Illegal holds made = absurd (no_illegal s seat action made.answered)
hand_made p some s x seat (Put f) Last holds made =
    last_part hand_in s.parts p x holds some seat (with_back (s.parts seat) f) (λ old. record old { back = with_last old.back f }) refl
hand_made p some s x seat (TakeIn f) Done holds made = at_part hand_in s.parts p x holds seat _ (λ old. record old { list = with_last old.list f }) refl
hand_made p some s x seat (PassBack f) Done holds made =
    at_part hand_in s.parts p x holds seat (without_frame (s.parts seat) (s.phases f) seat f)
    (λ old. record { list = without f old.list; fresh = without f old.fresh; back = without f old.back }) refl
hand_made p some s x seat (Consume g) Took holds made =
    at_part hand_in s.parts p x holds seat (paid (s.parts seat))
    (λ old. record old { list = without (front_of old.list) old.list; fresh = with_last old.fresh (front_of old.list) }) refl
hand_made p some s x seat (Credit f) Stocked holds made =
    at_part hand_in s.parts p x holds seat (credited (s.parts seat) f) (λ old. record old { list = with_last old.list f; fresh = without f old.fresh }) refl
hand_made p some s x seat (Report n) Done holds made = off_part hand_in s.parts p x holds seat _ refl
hand_made p some s x seat (Absorb q) (Pages n) holds made = off_part hand_in s.parts p x holds q _ refl
hand_made p some s x seat (Fill q g n) Done holds made = off_part hand_in s.parts p x holds q (filled (s.parts q) g n) refl
hand_made p some s x seat (DrainStock q) (Pages n) holds made = off_part hand_in s.parts p x holds q (drained (s.parts q) n) refl
hand_made p some s x seat Lock answer holds made = holds
hand_made p some s x seat action answer holds made = holds

abbrev fill_in : Part → LastFill
fill_in part = record { group = part.stock.group; is_drained = part.stock.is_drained }

abbrev HasFill : ℕ → State → LastFill → Type 0
HasFill p s x = fill_in (s.parts p) ≡ x

fill_still : (p : ℕ) (x : LastFill) (seat : ℕ) (action : Action) → fill_after p x action Illegal ≡ x
fill_still p x seat Lock = refl
fill_still p x seat action = refl

fill_made : (p : ℕ) (s : State) (x : LastFill) (seat : ℕ) (action : Action) (answer : Answer) → HasFill p s x → IsMade s seat action answer →
    HasFill p (after s seat action answer) (fill_after p x action answer)
fill_made p s x seat action Illegal holds made = absurd (no_illegal s seat action made.answered)
fill_made p s x seat (Put f) Last holds made = last_off fill_in s.parts p x holds seat (with_back (s.parts seat) f) refl
fill_made p s x seat (TakeIn f) Done holds made = off_part fill_in s.parts p x holds seat _ refl
fill_made p s x seat (PassBack f) Done holds made = off_part fill_in s.parts p x holds seat (without_frame (s.parts seat) (s.phases f) seat f) refl
fill_made p s x seat (Consume g) Took holds made = off_part fill_in s.parts p x holds seat (paid (s.parts seat)) refl
fill_made p s x seat (Credit f) Stocked holds made = off_part fill_in s.parts p x holds seat (credited (s.parts seat) f) refl
fill_made p s x seat (Report n) Done holds made = off_part fill_in s.parts p x holds seat _ refl
fill_made p s x seat (Absorb q) (Pages n) holds made = off_part fill_in s.parts p x holds q _ refl
fill_made p s x seat (Fill q g n) Done holds made =
    at_part fill_in s.parts p x holds q (filled (s.parts q) g n) (λ old. record { group = Some g; is_drained = false }) refl
fill_made p s x seat (DrainStock q) (Pages n) holds made =
    at_part fill_in s.parts p x holds q (drained (s.parts q) n) (λ old. record old { is_drained = is_some old.group }) refl
fill_made p s x seat Lock answer holds made = holds
fill_made p s x seat action answer holds made = holds

-- the stock's last fill, of any seat
pub fill_is_told : (zone : Zone) (run : Run) → IsLegalRun zone run → (p : ℕ) →
    (((state_of zone run).parts p).stock.group ≡ (last_fill run p).group) × (((state_of zone run).parts p).stock.is_drained ≡ (last_fill run p).is_drained)
fill_is_told zone run legal p =
    let fill =
    told_run (λ x seat action answer. fill_after p x action answer) (HasFill p) (fill_still p)
    (λ s x seat action answer sound. fill_made p s x seat action answer) zone (record { group = None; is_drained = false }) refl run legal in
    (ap (λ (h : LastFill). h.group) fill, ap (λ (h : LastFill). h.is_drained) fill)

pub parts_follow_the_run : AllPartsFollowRun
parts_follow_the_run zone run legal p cpu =
    let some : p ≡ 0 → ⊥ = λ e. (let low = (cpu_range zone p cpu).0 in omega arith) in
    let hand = told_run (hand_after p) (HasHand p) (hand_still p) (λ s x seat action answer sound. hand_made p some s x seat action answer) zone
    (record { list = []; fresh = []; back = [] }) refl run legal in
    let fill = fill_is_told zone run legal p in
    record {
      list = ap (λ (h : InHand). h.list) hand;
      fresh = ap (λ (h : InHand). h.fresh) hand;
      back = ap (λ (h : InHand). h.back) hand;
      group = fill.0;
      is_drained = fill.1;
    }
