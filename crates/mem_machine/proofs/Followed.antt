-- The peaks and the event counts of the ledger follow lists of steps. Serves the `steps` clauses of all calls.
use Rattle.std.proofs.Common.{◌≡◌, ℕ, ◌&&◌, ◌++◌, Bool, true, false, Option, Some, None, List, [], ◌∷◌, cond, refl, sym, ap, ◌∙◌, subst, inl, inr, eq-eqb}
use Rattle.std.specs.Prelude.{is_none}
use Rattle.std.specs.List.{fold}
use Rattle.std.proofs.lemmas.List.Sums.{fold-append}
use Rattle.std.proofs.lemmas.Bool.{cases_eq, cases_Bool, and_parts, true≢false, false≢true}
use Rattle.group_tree.specs.declared.event.EventKey.{EventKey}
use Rattle.group_tree.specs.declared.group.Group.{Group}
use Rattle.group_tree.specs.{EventCounts, count_of, has_group, without_group, one_more, is_in_subtree}
use Rattle.group_tree.proofs.CallerLemmas.{has_group-with, has_group-limited, has_group-flagged, has_group-without}
use Rattle.group_charge.specs.Charges.{Ledger, SamePeaks, SameEvents}
use Rattle.step_rules.specs.declared.step.Step.{Step}
use Rattle.step_rules.specs.declared.step.Action.{Action}
use Rattle.step_rules.specs.declared.step.Action.TheVariants.{Lock, Grant, SetMax, SetFlag, Make, Remove}
use Rattle.step_rules.specs.declared.step.Answer.{Answer}
use Rattle.step_rules.specs.declared.step.Answer.TheVariants.{Illegal, Done, Granted, Number}
use Rattle.step_rules.specs.State.{State}
use Rattle.step_rules.specs.{Run, after, peak_follows, IsLocalRun, event_of, noted_at, is_noted_at, is_noted_in_subtree, makes_group}
use Rattle.step_rules.specs.{is_of_group}
use Rattle.step_rules.proofs.CallerLemmas.{noted_nowhere}
use Rattle.step_rules.proofs.Moving.{gone_itself}
use Rattle.boot_words.specs.Pasts.{cpu_past, local_by_pasts}
use Rattle.boot_words.specs.Tables.{KnownTable}
use Rattle.mem_machine.specs.{Moves, moved_along, moves_peak, moves_count, ExistsAfter, FollowsSteps, counts_after, counts_along, KnownMachine, Makes}
use Rattle.mem_machine.specs.{lock_holder, local_of, KnownRun, Records, after_made}
use Rattle.mem_machine.specs.declared.counts.Counts.{Counts}
use Rattle.mem_machine.proofs.Noted.{notes_none, notes_both, run_ends}
use Rattle.mem_machine.proofs.Reaching.{run_both}

-- ---- one list after another

illegal_groups : (s : State) (seat : ℕ) (action : Action) (m : ℕ) → has_group (after s seat action Illegal).groups m ≡ has_group s.groups m
illegal_groups s seat Lock m = refl
illegal_groups s seat action m = refl

-- a step after which a group is there that wasn't makes it
pub only_made : (s : State) (seat : ℕ) (action : Action) (answer : Answer) (m : ℕ) → has_group s.groups m ≡ false
    → has_group (after s seat action answer).groups m ≡ true → makes_group m action answer ≡ true
only_made s seat action Illegal m absent there = absurd (true≢false (sym there ∙ illegal_groups s seat action m ∙ absent))
only_made s seat (SetMax g limit) Done m absent there = absurd (true≢false (sym there ∙ has_group-limited s.groups g m limit ∙ absent))
only_made s seat (SetFlag g flag) Done m absent there = absurd (true≢false (sym there ∙ has_group-flagged s.groups g m flag ∙ absent))
only_made s seat (Make path) (Number n) m absent there = elim (cases_eq m n) [
  | inl e ↦ eq-eqb m n e
  | inr ne ↦ absurd (true≢false (sym there ∙ has_group-with s.groups n m path ne ∙ absent))
]
only_made s seat (Remove g) Done m absent there =
    absurd (true≢false (sym there ∙ has_group-without s.groups g m
    (λ e. true≢false (sym there ∙ ap (has_group (without_group s.groups g)) e ∙ gone_itself s.groups g)) ∙ absent))
only_made s seat Lock answer m absent there = absurd (true≢false (sym there ∙ absent))
only_made s seat action answer m absent there = absurd (true≢false (sym there ∙ absent))

-- a number of group m that begins anew when the group is made
abbrev pub Begins : Moves → ℕ → Type 0
Begins moves m = (s : State) (e : Step × Answer) (x y : ℕ) → makes_group m e.0.action e.1 ≡ true → moves s e x ≡ moves s e y

made_peak : (t : State) (action : Action) (answer : Answer) (m x : ℕ) → makes_group m action answer ≡ true → peak_follows t action answer m x ≡ 0
made_peak t (Make path) (Number n) m x made = ap (λ (b : Bool). cond b 0 x) made
made_peak t Lock answer m x made = absurd (false≢true made)
made_peak t action answer m x made = absurd (false≢true made)

pub peak_begins : (m : ℕ) → Begins (moves_peak m) m
peak_begins m s e x y made =
    let now : State = after s e.0.seat e.0.action e.1 in
    made_peak now e.0.action e.1 m x made ∙ sym (made_peak now e.0.action e.1 m y made)

abbrev pub Test : Type 0
Test = List Group → Action → Answer → Bool

pub count_begins : (test : Test) (m : ℕ) → Begins (moves_count test m) m
count_begins test m s e x y made =
    ap (λ (b : Bool). cond b 0 (cond (test s.groups e.0.action e.1) (one_more x) x)) made
    ∙ sym (ap (λ (b : Bool). cond b 0 (cond (test s.groups e.0.action e.1) (one_more y) y)) made)

over_both : (moves : Moves) (p : ℕ) (a : State) (one two : Run) (b : State) (x : ℕ) → IsLocalRun p a one b
    → moved_along moves a (one ++ two) x ≡ moved_along moves b two (moved_along moves a one x)
over_both moves p a [] two b x run = ap (λ (s : State). moved_along moves s two x) run
over_both moves p a (e ∷ rest) two b x run =
    over_both moves p (after a e.0.seat e.0.action e.1) rest two b (moves a e x) run.1

-- of a group that isn't there at first, and is at the end, it is the same whatever it was at first
over_anew : (moves : Moves) (m : ℕ) → Begins moves m → (p : ℕ) (s : State) (steps : Run) (t : State) (x y : ℕ) → IsLocalRun p s steps t
    → has_group s.groups m ≡ false → has_group t.groups m ≡ true → moved_along moves s steps x ≡ moved_along moves s steps y
over_anew moves m begins p s [] t x y run absent there = absurd (true≢false (sym there ∙ ap (λ (k : State). has_group k.groups m) (sym run) ∙ absent))
over_anew moves m begins p s (e ∷ rest) t x y run absent there =
    let now : State = after s e.0.seat e.0.action e.1 in
    elim (cases_Bool (has_group now.groups m)) [
      | inl here ↦ ap (moved_along moves now rest)
          (begins s e x y (only_made s e.0.seat e.0.action e.1 m absent here))
      | inr none ↦ over_anew moves m begins p now rest t (moves s e x) (moves s e y) run.1 none there
    ]

module _ (p : ℕ) (a : State) (one : Run) (b : State) (two : Run) (c : State) (first : IsLocalRun p a one b) (second : IsLocalRun p b two c) (m : ℕ) where
  joined : (moves : Moves) → Begins moves m → (x y z : ℕ) → (has_group b.groups m ≡ true → y ≡ moved_along moves a one x)
      → z ≡ moved_along moves b two y → has_group c.groups m ≡ true → z ≡ moved_along moves a (one ++ two) x
  joined moves begins x y z before behind there =
      behind ∙ elim (cases_Bool (has_group b.groups m)) [
        | inl here ↦ ap (moved_along moves b two) (before here)
        | inr none ↦ over_anew moves m begins p b two c y (moved_along moves a one x) second none there
      ] ∙ sym (over_both moves p a one two b x first)

-- the counts after one list and then another
counts_both : (p : ℕ) (a : State) (one two : Run) (b : State) (x : Counts) → IsLocalRun p a one b
    → counts_along a (one ++ two) x ≡ counts_along b two (counts_along a one x)
counts_both p a [] two b x run = ap (λ (s : State). counts_along s two x) run
counts_both p a (e ∷ rest) two b x run =
    counts_both p (after a e.0.seat e.0.action e.1) rest two b (counts_after a e.0.seat e.0.action e.1 x) run.1

-- one list after another
pub makes_both : (t : KnownTable) (one two : Run) (a b c : KnownMachine) → Makes t a one b → Makes t b two c → Makes t a (one ++ two) c
makes_both t one two a b c first second =
    let p = lock_holder a in
    let s = local_of t a in
    let u = local_of t b in
    let v = local_of t c in
    let then_leads : IsLocalRun p u two v = subst (λ (q : ℕ). IsLocalRun q u two v) first.holder second.leads in
    let here : fold after_made s one ≡ u = run_ends p s one u first.leads in
    let end : fold after_made u two ≡ v = run_ends p u two v then_leads in
    let whole : fold after_made s (one ++ two) ≡ v = fold-append after_made s one two ∙ ap (λ (x : State). fold after_made x two) here ∙ end in
    let was : (m : ℕ) → has_group u.groups m ≡ true → ExistsAfter s one m = λ m. subst (λ (x : State). has_group x.groups m ≡ true) (sym here) in
    let is : (m : ℕ) → ExistsAfter s (one ++ two) m → has_group v.groups m ≡ true = λ m. subst (λ (x : State). has_group x.groups m ≡ true) whole in
    let is_then : (m : ℕ) → ExistsAfter s (one ++ two) m → ExistsAfter u two m = λ m there. subst (λ (x : State). has_group x.groups m ≡ true) (sym end) (is m there) in
    record {
      holder = second.holder ∙ first.holder;
      leads = run_both p one two s u v first.leads then_leads;
      follows = record {
        peak = λ m there. joined p s one u two v first.leads then_leads m (moves_peak m) (peak_begins m) _ _ _
            (λ old. first.follows.peak m (was m old)) (second.follows.peak m (is_then m there)) (is m there);
        events = λ key m there. joined p s one u two v first.leads then_leads m (moves_count (is_noted_in_subtree key m) m)
            (count_begins (is_noted_in_subtree key m) m)
            _ _ _ (λ old. first.follows.events key m (was m old)) (second.follows.events key m (is_then m there)) (is m there);
        events_local = λ key m there. joined p s one u two v first.leads then_leads m (moves_count (is_noted_at key m) m)
            (count_begins (is_noted_at key m) m) _ _ _ (λ old. first.follows.events_local key m (was m old)) (second.follows.events_local key m (is_then m there)) (is m there);
      };
      counts = second.counts ∙ ap (counts_along u two) first.counts ∙ sym (counts_both p s one two u a.counts first.leads);
      noted = notes_both t a.run one b.run two c.run first.noted second.noted;
    }

-- ---- steps that move nothing

-- the step moves no peak and no count
abbrev pub is_still : Action → Answer → Bool
is_still (Grant g n) Granted = false
is_still (Make path) (Number n) = false
is_still action answer = is_none (event_of action answer)

-- no step of the list does
abbrev pub are_still : Run → Bool
are_still [] = true
are_still (e ∷ rest) = is_still e.0.action e.1 && are_still rest

pub still_peak : (t : State) (action : Action) (answer : Answer) (m x : ℕ) → is_still action answer ≡ true → peak_follows t action answer m x ≡ x
still_peak t (Grant g n) Granted m x still = absurd (false≢true still)
still_peak t (Make path) (Number n) m x still = absurd (false≢true still)
still_peak t action answer m x still = refl

no_note : (o : Option (EventKey × ℕ)) → is_none o ≡ true → o ≡ None
no_note None e = refl
no_note (Some note) e = absurd (false≢true e)

pub still_note : (key : EventKey) (action : Action) (answer : Answer) → is_still action answer ≡ true → noted_at key action answer ≡ None
still_note key (Grant g n) Granted still = refl
still_note key (Make path) (Number n) still = refl
still_note key action answer still = noted_nowhere key action answer (no_note (event_of action answer) still)

still_make : (m : ℕ) (action : Action) (answer : Answer) → is_still action answer ≡ true → makes_group m action answer ≡ false
still_make m (Make path) (Number n) still = absurd (false≢true still)
still_make m action answer still = refl

abbrev pub Stays : Moves → Type 0
Stays moves = (s : State) (e : Step × Answer) (x : ℕ) → is_still e.0.action e.1 ≡ true → moves s e x ≡ x

pub count_stays : (test : Test) (m : ℕ) → ((groups : List Group) (action : Action) (answer : Answer) → is_still action answer ≡ true
    → test groups action answer ≡ false) → Stays (moves_count test m)
count_stays test m none s e x still =
    ap (λ (b : Bool). cond b 0 (cond (test s.groups e.0.action e.1) (one_more x) x)) (still_make m e.0.action e.1 still)
    ∙ ap (λ (b : Bool). cond b (one_more x) x) (none s.groups e.0.action e.1 still)

over_still : (moves : Moves) → Stays moves → (s : State) (steps : Run) (x : ℕ) → are_still steps ≡ true → moved_along moves s steps x ≡ x
over_still moves stays s [] x still = refl
over_still moves stays s (e ∷ rest) x still =
    let both = and_parts (is_still e.0.action e.1) (are_still rest) still in
    over_still moves stays (after s e.0.seat e.0.action e.1) rest (moves s e x) both.1
    ∙ stays s e x both.0

pub peak_still : (m : ℕ) (s : State) (steps : Run) (x : ℕ) → are_still steps ≡ true → moved_along (moves_peak m) s steps x ≡ x
peak_still m = over_still (moves_peak m) (λ s e x still. still_peak (after s e.0.seat e.0.action e.1) e.0.action e.1 m x still)

pub below_stays : (key : EventKey) (m : ℕ) → Stays (moves_count (is_noted_in_subtree key m) m)
below_stays key m = count_stays (is_noted_in_subtree key m) m (λ groups action answer still. ap (is_in_subtree groups m) (still_note key action answer still))

pub at_stays : (key : EventKey) (m : ℕ) → Stays (moves_count (is_noted_at key m) m)
at_stays key m = count_stays (is_noted_at key m) m (λ groups action answer still. ap (λ (o : Option ℕ). is_of_group o m) (still_note key action answer still))

pub below_still : (key : EventKey) (m : ℕ) (s : State) (steps : Run) (x : ℕ) → are_still steps ≡ true
    → moved_along (moves_count (is_noted_in_subtree key m) m) s steps x ≡ x
below_still key m = over_still (moves_count (is_noted_in_subtree key m) m) (below_stays key m)

pub at_still : (key : EventKey) (m : ℕ) (s : State) (steps : Run) (x : ℕ) → are_still steps ≡ true
    → moved_along (moves_count (is_noted_at key m) m) s steps x ≡ x
at_still key m = over_still (moves_count (is_noted_at key m) m) (at_stays key m)

pub follows_still : (s : State) (l : Ledger) (steps : Run) (k : Ledger) → are_still steps ≡ true → SamePeaks l k → SameEvents l k → FollowsSteps s l steps k
follows_still s l steps k still peaks events = record {
  peak = λ m there. peaks m ∙ sym (peak_still m s steps _ still);
  events = λ key m there. ap (λ (x : EventCounts). count_of x key) (events.events m) ∙ sym (below_still key m s steps _ still);
  events_local = λ key m there. ap (λ (x : EventCounts). count_of x key) (events.events_local m) ∙ sym (at_still key m s steps _ still);
}

-- the ledger stays
pub same_events : (l : Ledger) → SameEvents l l
same_events l = record { events = λ m. refl; events_local = λ m. refl }

pub follows_same : (s : State) (l : Ledger) (steps : Run) → are_still steps ≡ true → FollowsSteps s l steps l
follows_same s l steps still = follows_still s l steps l still (λ m. refl) (same_events l)

-- ---- no step

pub makes_none : (t : KnownTable) (a : KnownMachine) → Makes t a [] a
makes_none t a = record { holder = refl; leads = refl; follows = follows_same _ _ _ refl; counts = refl; noted = notes_none t a.run }

-- the ledger, the counts and the run stay
pub makes_stay : (t : KnownTable) (m n : KnownMachine) → n.ledger ≡ m.ledger → n.counts ≡ m.counts → n.run ≡ m.run → Makes t m [] n
makes_stay t m n same counted unnoted = record {
  holder = ap (λ (r : KnownRun). (cpu_past r.past).number) unnoted;
  leads = ap (λ (r : KnownRun). local_by_pasts t r.past) (sym unnoted);
  counts = counted;
  noted = subst (Records t m.run []) (sym unnoted) (notes_none t m.run);
  follows = subst (FollowsSteps (local_of t m) m.ledger []) (sym same) (follows_same (local_of t m) m.ledger [] refl);
}
