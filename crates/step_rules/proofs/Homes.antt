-- Each group that keeps a frame or a page is there. Serves `keepers_are_there`, and the laws of usage and peaks.
use Rattle.std.proofs.Common.{◌≡◌, ℕ, ◌+◌, ◌-◌, ◌^◌, ◌<◌, ◌≤◌, ◌==◌, Bool, true, false, Option, Some, None, List, refl, sym, ◌∙◌, ap, subst}
use Rattle.std.proofs.Common.{arith, inl, inr, cond, eq-eqb, ◌||◌}
use Rattle.std.specs.Prelude.{not, is_none}
use Rattle.std.proofs.lemmas.Bool.{cases_eq, cases_Bool, cases_lt, ne_eqb, false≢true, true≢false, or_left, or_right}
use Rattle.group_tree.specs.declared.group.Group.{Group}
use Rattle.group_tree.specs.declared.fault.Fault.{Fault}
use Rattle.group_tree.specs.Groups.{has_group, has_child, in_subtree, make_fault, with_group, with_limit, with_oom_group, without_group, IsLeastFreeNumber, AreGroups}
use Rattle.group_tree.proofs.GroupLemmas.{AreGroups-with, AreGroups-limited, AreGroups-flagged, AreGroups-without, CanMake, can_make, length-full}
use Rattle.group_tree.proofs.GroupLemmas.{room_of-with, room_of-without, room_of-limited, room_of-flagged}
use Rattle.group_tree.proofs.CallerLemmas.{has_group-with_kept, has_group-limited, has_group-flagged, has_group-without, in_subtree-refl}
use Rattle.group_tree.proofs.CallerLemmas.{number_below}
use Rattle.group_tree.specs.{most_groups, is_there, is_in_subtree, room_of}
use Rattle.step_rules.specs.declared.phase.Hold.{Hold}
use Rattle.step_rules.specs.declared.phase.Hold.TheVariants.{Unheld, HeldBy, Visiting}
use Rattle.step_rules.specs.declared.phase.Stage.{Stage}
use Rattle.step_rules.specs.declared.phase.Stage.TheVariants.{FreshAt, Bare, Live, AwaitsReturn}
use Rattle.step_rules.specs.declared.phase.Phase.{Phase}
use Rattle.step_rules.specs.declared.phase.Phase.TheVariants.{InZone, Lent, Head, Tail}
use Rattle.step_rules.specs.declared.step.Action.{Action}
use Rattle.step_rules.specs.declared.step.Action.TheVariants.{Lock, Unlock, OpenVisit, ShutVisit, Put, Freeze, Unfreeze, PassOut, TakeIn}
use Rattle.step_rules.specs.declared.step.Action.TheVariants.{PassBack, Collect, Consume, Credit, Report, Absorb, Fill, DrainStock, Grant}
use Rattle.step_rules.specs.declared.step.Action.TheVariants.{Ungrant, PlaceBlock, Return, SetMax, SetFlag, Make, Remove}
use Rattle.step_rules.specs.declared.step.Answer.{Answer}
use Rattle.step_rules.specs.declared.step.Answer.TheVariants.{Illegal, Done, Last, Took, Stocked, Pages, Granted, Placed, Number}
use Rattle.step_rules.specs.Phases.{FreshFrame}
use Rattle.step_rules.specs.{keeper_of, has_as, at_stage, passed_back, collected, stage_after_last, unit_of, Zone, Part, with_at, one_if, is_cpu}
use Rattle.step_rules.specs.{is_unheld, is_held_by, visits, front_of, frames_kept, stock_in_subtree, pages_prepaid, pages_pending}
use Rattle.step_rules.specs.{usage_of, is_legal, IsAnswer, IsCounted, is_removable, after, is_within, unit_size, with_more, with_back, holds_lock}
use Rattle.step_rules.specs.{PhasePaid, groups_in, KeepsInvariant, some_there, told_pages, Homes, IsHomed}
use Rattle.step_rules.specs.State.{State}
use Rattle.step_rules.proofs.LegalTests.{absorb_tests, credit_tests, fill_tests, grant_tests, lock_tests, make_tests}
use Rattle.step_rules.proofs.LegalTests.{open_visit_tests, pass_back_tests, place_block_tests, removable_tests, remove_tests, report_tests}
use Rattle.step_rules.proofs.LegalTests.{set_flag_tests, shut_visit_tests, ungrant_tests, unlock_tests}
use Rattle.step_rules.proofs.Basics.{at_each}
use Rattle.step_rules.proofs.Sums.{sum_part}
use Rattle.step_rules.proofs.PhaseLemmas.{visited, fresh_is, free_is, equal_test, none_some}
use Rattle.step_rules.proofs.SoundSteps.{cpu_range}
use Rattle.step_rules.proofs.Runs.{after_illegal}

module _ {zone : Zone} {hold : Hold} {groups : List Group} {phases : ℕ → Phase} {parts : ℕ → Part} {pending : ℕ → ℕ}
    (h : Homes zone hold groups phases parts pending) where
  homes_hold : (later : Hold) → ((q : ℕ) → holds_lock q later ≡ true → is_cpu zone q ≡ true) → ((q : ℕ) → visits q later ≡ false → told_pages (parts q) ≡ 0) →
      Homes zone later groups phases parts pending
  homes_hold later holder quiet =
      record { tree = h.tree; room = h.room; frames = h.frames; stocks = h.stocks; beyond = h.beyond; pages = h.pages; holder = holder; quiet = quiet }

  homes_phase : (f : ℕ) (y : Phase) → is_there groups (keeper_of y) ≡ true → Homes zone hold groups (with_at phases f y) parts pending
  homes_phase f y there = record {
    tree = h.tree;
    room = h.room;
    frames = at_each phases f y (λ n x. is_there groups (keeper_of x) ≡ true) there (λ n ne. h.frames n);
    stocks = h.stocks;
    beyond = h.beyond;
    pages = h.pages;
    holder = h.holder;
    quiet = h.quiet;
  }

  homes_phases : (later : ℕ → Phase) → ((f : ℕ) → is_there groups (keeper_of (later f)) ≡ true) → Homes zone hold groups later parts pending
  homes_phases later there = record { tree = h.tree; room = h.room; frames = there; stocks = h.stocks; beyond = h.beyond; pages = h.pages; holder = h.holder; quiet = h.quiet }

  homes_part : (p : ℕ) (part : Part) → (1 ≤ part.stock.pages → some_there groups part.stock.group ≡ true) → (is_cpu zone p ≡ false → part.stock.pages ≡ 0) →
      (visits p hold ≡ false → told_pages part ≡ 0) → Homes zone hold groups phases (with_at parts p part) pending
  homes_part p part stock beyond quiet = record {
    tree = h.tree;
    room = h.room;
    frames = h.frames;
    stocks = at_each parts p part (λ n x. 1 ≤ x.stock.pages → some_there groups x.stock.group ≡ true) stock (λ n ne. h.stocks n);
    beyond = at_each parts p part (λ n x. is_cpu zone n ≡ false → x.stock.pages ≡ 0) beyond (λ n ne. h.beyond n);
    pages = h.pages;
    holder = h.holder;
    quiet = at_each parts p part (λ n x. visits n hold ≡ false → told_pages x ≡ 0) quiet (λ n ne. h.quiet n);
  }

  homes_pending : (later : ℕ → ℕ) → ((g : ℕ) → has_group groups g ≡ false → later g ≡ 0) → Homes zone hold groups phases parts later
  homes_pending later pages = record {
    tree = h.tree;
    room = h.room;
    frames = h.frames;
    stocks = h.stocks;
    beyond = h.beyond;
    pages = pages;
    holder = h.holder;
    quiet = h.quiet;
  }

  -- the pages of one group, which is there, change
  pages_at : (g n : ℕ) → (has_group groups g ≡ false → n ≡ 0) → (k : ℕ) → has_group groups k ≡ false → with_at pending g n k ≡ 0
  pages_at g n none = at_each pending g n (λ k x. has_group groups k ≡ false → x ≡ 0) none (λ k ne. h.pages k)

  pages_drained : (o : Option ℕ) (n : ℕ) → (1 ≤ n → some_there groups o ≡ true) → (k : ℕ) → has_group groups k ≡ false → with_more pending o n k ≡ 0
  pages_drained None n some k absent = h.pages k absent
  pages_drained (Some g) n some k absent = pages_at g (pending g + n) (λ gone. elim (cases_lt 0 n) [
    | inl more ↦ absurd (true≢false (sym (some (omega arith)) ∙ gone))
    | inr none ↦ let a = h.pages g gone in omega arith
  ]) k absent

  homes_last : (seat : ℕ) (part : Part) (b : Bool) → Homes zone hold groups phases (with_at parts seat part) pending →
      Homes zone hold groups phases (cond b parts (with_at parts seat part)) pending
  homes_last seat part true changed = h
  homes_last seat part false changed = changed

  -- a group that keeps anything has some usage
  kept_frame : (f g : ℕ) → f < zone.frames → keeper_of (phases f) ≡ Some g → has_group groups g ≡ true → 1 ≤ frames_kept groups phases zone.frames g
  kept_frame f g below e there =
      let a : one_if (is_in_subtree groups g (keeper_of (phases f))) ≡ 1 = ap (λ o. one_if (is_in_subtree groups g o)) e
      ∙ ap one_if (in_subtree-refl groups g there) in
      let b = sum_part zone.frames (λ x. one_if (is_in_subtree groups g (keeper_of (phases x)))) f below in
      omega arith

  kept_stock : (q g : ℕ) → q < zone.cpus + 1 → (parts q).stock.group ≡ Some g → has_group groups g ≡ true →
      (parts q).stock.pages ≤ pages_prepaid groups parts zone.cpus g
  kept_stock q g below e there =
      let a : stock_in_subtree groups g (parts q) ≡ (parts q).stock.pages =
      ap (λ o. cond (is_in_subtree groups g o) (parts q).stock.pages 0) e ∙ ap (λ b. cond b (parts q).stock.pages 0) (in_subtree-refl groups g there) in
      let b = sum_part (zone.cpus + 1) (λ p. stock_in_subtree groups g (parts p)) q below in
      omega arith

  kept_pending : (g : ℕ) → g < most_groups → has_group groups g ≡ true → pending g ≤ pages_pending groups pending g
  kept_pending g below there =
      let a : cond (in_subtree groups g g) (pending g) 0 ≡ pending g = ap (λ b. cond b (pending g) 0) (in_subtree-refl groups g there) in
      let b = sum_part most_groups (λ k. cond (in_subtree groups g k) (pending k) 0) g below in
      omega arith

pub same_keeper : (st : Stage) (x : Phase) → keeper_of (at_stage st x) ≡ keeper_of x
same_keeper st InZone = refl
same_keeper st (Lent q way) = refl
same_keeper st (Head u old) = refl
same_keeper st (Tail g) = refl

pub sent_keeper : (x : Phase) → keeper_of (passed_back x) ≡ keeper_of x
sent_keeper InZone = refl
sent_keeper (Lent q way) = refl
sent_keeper (Head u old) = refl
sent_keeper (Tail g) = refl

pub got_keeper : (x : Phase) → keeper_of (collected x) ≡ keeper_of x
got_keeper InZone = refl
got_keeper (Lent q way) = refl
got_keeper (Head u old) = refl
got_keeper (Tail g) = refl

-- a frame whose keeper stays
homes_same : {zone : Zone} {hold : Hold} {groups : List Group} {phases : ℕ → Phase} {parts : ℕ → Part} {pending : ℕ → ℕ}
    (h : Homes zone hold groups phases parts pending) →
    (f : ℕ) (y : Phase) → keeper_of y ≡ keeper_of (phases f) → Homes zone hold groups (with_at phases f y) parts pending
homes_same {groups = groups} h f y e = homes_phase h f y (ap (is_there groups) e ∙ h.frames f)

-- the numbers of groups that are there are low
pub number_low : (groups : List Group) (g : ℕ) → AreGroups groups → has_group groups g ≡ true → g < most_groups
number_low = number_below

pub cpu_low : (zone : Zone) (q : ℕ) → is_cpu zone q ≡ true → q < zone.cpus + 1
cpu_low zone q cpu = let a = (cpu_range zone q cpu).1 in omega arith

-- a group goes where nothing of it is kept
gone_keeps : {zone : Zone} {hold : Hold} {phases : ℕ → Phase} {parts : ℕ → Part} {pending : ℕ → ℕ} (groups : List Group) (g : ℕ) →
    Homes zone hold groups phases parts pending → has_group groups g ≡ true →
    frames_kept groups phases zone.frames g + pages_prepaid groups parts zone.cpus g + pages_pending groups pending g ≡ 0 →
    has_child groups g ≡ false → (g ≡ 0 → ⊥) → ((f : ℕ) → zone.frames ≤ f → phases f ≡ InZone) →
    Homes zone hold (without_group groups g) phases parts pending
gone_keeps {zone} {hold} {phases} {parts} {pending} groups g h there none leaf below outside = record {
  tree = AreGroups-without groups g h.tree leaf below;
  room = λ some few. room_of-without groups g below ∙ h.room some few;
  frames = λ f. frame f (keeper_of (phases f)) refl;
  stocks = λ q some. stock q some (parts q).stock.group refl;
  beyond = h.beyond;
  pages = λ k absent. elim (cases_eq k g) [
    | inl e ↦ let a = kept_pending h g low there in let b : pending k ≡ pending g = ap pending e in omega arith
    | inr ne ↦ h.pages k (sym (has_group-without groups g k ne) ∙ absent)
  ];
  holder = h.holder;
  quiet = h.quiet;
}
  where
    low : g < most_groups
    low = number_low groups g h.tree there

    frame : (f : ℕ) (o : Option ℕ) → keeper_of (phases f) ≡ o → is_there (without_group groups g) (keeper_of (phases f)) ≡ true
    frame f None e = ap (is_there (without_group groups g)) e
    frame f (Some k) e = elim (cases_eq k g) [
      | inl same ↦ elim (cases_lt f zone.frames) [
        | inl inside ↦ absurd (let a = kept_frame h f g inside (e ∙ ap (λ (n : ℕ). Some n) same) there in omega arith)
        | inr past ↦ absurd (none_some k (sym (ap keeper_of (outside f past)) ∙ e))
      ]
      | inr ne ↦ ap (is_there (without_group groups g)) e ∙ has_group-without groups g k ne ∙ sym (ap (is_there groups) e) ∙ h.frames f
    ]

    stock : (q : ℕ) → 1 ≤ (parts q).stock.pages → (o : Option ℕ) → (parts q).stock.group ≡ o → some_there (without_group groups g) (parts q).stock.group ≡ true
    stock q some None e = absurd (true≢false (sym (h.stocks q some) ∙ ap (some_there groups) e))
    stock q some (Some k) e = elim (cases_eq k g) [
      | inl same ↦ absurd (elim (cases_Bool (is_cpu zone q)) [
        | inl cpu ↦ (let a = kept_stock h q g (cpu_low zone q cpu) (e ∙ ap (λ (n : ℕ). Some n) same) there in omega arith)
        | inr other ↦ (let a = h.beyond q other in omega arith)
      ])
      | inr ne ↦ ap (some_there (without_group groups g)) e ∙ has_group-without groups g k ne ∙ sym (ap (some_there groups) e) ∙ h.stocks q some
    ]

-- one group more, or another limit: who is there stays there
more_keeps : {zone : Zone} {hold : Hold} {phases : ℕ → Phase} {parts : ℕ → Part} {pending : ℕ → ℕ} (groups later : List Group) →
    Homes zone hold groups phases parts pending → AreGroups later → room_of later ≡ room_of groups →
    ((g : ℕ) → has_group groups g ≡ true → has_group later g ≡ true) → Homes zone hold later phases parts pending
more_keeps {phases = phases} {parts = parts} groups later h tree room stays = record {
  tree = tree;
  room = λ some few. room ∙ h.room some few;
  frames = λ f. frame (keeper_of (phases f)) (h.frames f);
  stocks = λ q some. stock (parts q).stock.group (h.stocks q some);
  beyond = h.beyond;
  pages = λ g absent. h.pages g (gone g absent);
  holder = h.holder;
  quiet = h.quiet;
}
  where
    frame : (o : Option ℕ) → is_there groups o ≡ true → is_there later o ≡ true
    frame None e = refl
    frame (Some g) e = stays g e

    stock : (o : Option ℕ) → some_there groups o ≡ true → some_there later o ≡ true
    stock None e = absurd (false≢true e)
    stock (Some g) e = stays g e

    gone : (g : ℕ) → has_group later g ≡ false → has_group groups g ≡ false
    gone g absent = elim (cases_Bool (has_group groups g)) [
      | inl there ↦ absurd (true≢false (sym (stays g there) ∙ absent))
      | inr e ↦ e
    ]

-- a new group's number is low
new_low : (groups : List Group) (path : List ℕ) (n : ℕ) → CanMake groups path → IsLeastFreeNumber groups n → n < room_of groups
new_low groups path n can free = let a = length-full groups n free.least in let b = can.room in omega arith

no_fault : (o : Option Fault) → is_none o ≡ true → o ≡ None
no_fault None e = refl
no_fault (Some x) e = absurd (false≢true e)

pub making : (s : State) (path : List ℕ) → IsHomed s → is_none (make_fault s.groups path) ≡ true → CanMake s.groups path
making s path h none = can_make s.groups path (no_fault (make_fault s.groups path) none)

-- who holds the lock, and who visits
held_is : (p q : ℕ) → holds_lock q (HeldBy p) ≡ true → p ≡ q
held_is p q e = equal_test p q (only (p == q) e)
  where
    only : (b : Bool) → (b || false) ≡ true → b ≡ true
    only true e = refl
    only false e = e

visit_is : (p q : ℕ) → holds_lock q (Visiting p) ≡ true → p ≡ q
visit_is p q e = equal_test p q e

pub unheld_rests : (hold : Hold) (q : ℕ) → is_unheld hold ≡ true → visits q hold ≡ false
unheld_rests Unheld q e = refl
unheld_rests (HeldBy p) q e = absurd (false≢true e)
unheld_rests (Visiting p) q e = absurd (false≢true e)

pub held_rests : (p : ℕ) (hold : Hold) (q : ℕ) → is_held_by p hold ≡ true → visits q hold ≡ false
held_rests p (HeldBy r) q e = refl
held_rests p Unheld q e = absurd (false≢true e)
held_rests p (Visiting r) q e = absurd (false≢true e)

not_true : (b : Bool) → not b ≡ true → b ≡ false
not_true true e = absurd (false≢true e)
not_true false e = refl

-- where a step visits, pages may be told
at_visit : {n : ℕ} (b : Bool) → b ≡ true → b ≡ false → n ≡ 0
at_visit b visit none = absurd (true≢false (sym visit ∙ none))

pub homes_step : (s : State) (seat : ℕ) (action : Action) (answer : Answer) → KeepsInvariant s → IsHomed s → is_legal s seat action ≡ true →
    IsAnswer s seat action answer → IsCounted s action answer → IsHomed (after s seat action answer)
homes_step s seat action Illegal sound h legal ok counted = subst IsHomed (sym (after_illegal s seat action)) h
homes_step s seat Lock Done sound h legal ok counted =
    let cpu : is_cpu s.zone seat ≡ true = (lock_tests s seat legal).0 in
    let free : is_unheld s.hold ≡ true = (lock_tests s seat legal).1 in
    homes_hold h (HeldBy seat) (λ q e. subst (λ k. is_cpu s.zone k ≡ true) (held_is seat q e) cpu) (λ q e. h.quiet q (unheld_rests s.hold q free))
homes_step s seat Unlock Done sound h legal ok counted =
    let held : is_held_by seat s.hold ≡ true = (unlock_tests s seat legal).1 in
    homes_hold h Unheld (λ q e. absurd (false≢true e)) (λ q e. h.quiet q (held_rests seat s.hold q held))
homes_step s seat (OpenVisit p) Done sound h legal ok counted =
    let held : is_held_by p s.hold ≡ true = (open_visit_tests s seat p legal).1 in
    homes_hold h (Visiting p) (λ q e. subst (λ k. is_cpu s.zone k ≡ true) (visit_is p q e) (h.holder p (or_left _ _ held)))
    (λ q e. h.quiet q (held_rests p s.hold q held))
homes_step s seat (ShutVisit p) Done sound h legal ok counted =
    let visit : visits p s.hold ≡ true = (shut_visit_tests s seat p legal).1 in
    let none : ((s.parts p).unreported == 0) ≡ true = (shut_visit_tests s seat p legal).3 in
    let gone : ((s.parts p).reported == 0) ≡ true = (shut_visit_tests s seat p legal).4 in
    let a = equal_test (s.parts p).unreported 0 none in
    let b = equal_test (s.parts p).reported 0 gone in
    homes_hold h (HeldBy p) (λ q e. subst (λ k. is_cpu s.zone k ≡ true) (held_is p q e) (h.holder p (or_right _ _ visit)))
    (λ q e. elim (cases_eq q p) [
      | inl same ↦ subst (λ k. told_pages (s.parts k) ≡ 0) (sym same) (omega arith)
      | inr ne ↦ h.quiet q (ap (visits q) (visited p s.hold visit) ∙ ne_eqb p q (λ d. ne (sym d)))
    ])
homes_step s seat (Put f) Last sound h legal ok counted =
    let phase = homes_same h f (at_stage (stage_after_last seat) (s.phases f)) (same_keeper (stage_after_last seat) (s.phases f)) in
    homes_last phase seat (with_back (s.parts seat) f) (seat == 0)
    (homes_part phase seat (with_back (s.parts seat) f) (h.stocks seat) (h.beyond seat) (h.quiet seat))
homes_step s seat (Freeze f n) Done sound h legal ok counted = homes_same h f _ (same_keeper AwaitsReturn (s.phases f))
homes_step s seat (Unfreeze f n) Done sound h legal ok counted = homes_same h f _ (same_keeper Live (s.phases f))
homes_step s seat (PassOut f p) Done sound h legal ok counted = homes_phase h f _ refl
homes_step s seat (TakeIn f) Done sound h legal ok counted = homes_part (homes_phase h f _ refl) seat _ (h.stocks seat) (h.beyond seat) (h.quiet seat)
homes_step s seat (PassBack f) Done sound h legal ok counted =
    let visit : visits seat s.hold ≡ true = (pass_back_tests s seat f legal).2 in
    homes_part (homes_same h f _ (sent_keeper (s.phases f))) seat _ (h.stocks seat) (h.beyond seat) (at_visit (visits seat s.hold) visit)
homes_step s seat (Collect f p) Done sound h legal ok counted = homes_phase h f _ (got_home (s.phases f) (h.frames f))
  where
    got_home : (x : Phase) → is_there s.groups (keeper_of x) ≡ true → is_there s.groups (keeper_of (collected x)) ≡ true
    got_home InZone e = refl
    got_home (Lent q way) e = refl
    got_home (Head u old) e = e
    got_home (Tail g) e = e
homes_step s seat (Consume g) Took sound h legal ok counted =
    let there : has_group s.groups g ≡ true = sym (ap (some_there s.groups) ok.0) ∙ h.stocks seat ok.2 in
    homes_part (homes_phase h (front_of (s.parts seat).list) _ there) seat _ (λ some. h.stocks seat ok.2)
    (λ other. let a = h.beyond seat other in omega arith) (h.quiet seat)
homes_step s seat (Credit f) Stocked sound h legal ok counted =
    let cpu : is_cpu s.zone seat ≡ true = (credit_tests s seat f legal).0 in
    let fresh : has_as FreshFrame seat (s.phases f) ≡ true = (credit_tests s seat f legal).2 in
    let is = fresh_is seat (s.phases f) fresh in
    let paid : PhasePaid s.zone.cpus (groups_in s.parts) (Head is.0 (FreshAt seat)) =
    subst (PhasePaid s.zone.cpus (groups_in s.parts)) is.1 (sound.frames f).paid in
    let there : has_group s.groups is.0.group ≡ true = sym (ap (λ x. is_there s.groups (keeper_of x)) is.1) ∙ h.frames f in
    homes_part (homes_phase h f _ refl) seat _ (λ some. ap (some_there s.groups) paid.group ∙ there) (λ other. absurd (true≢false (sym cpu ∙ other)))
    (h.quiet seat)
homes_step s seat (Report n) Done sound h legal ok counted =
    let visit : visits seat s.hold ≡ true = (report_tests s seat n legal).1 in
    homes_part h seat _ (h.stocks seat) (h.beyond seat) (at_visit (visits seat s.hold) visit)
homes_step s seat (Absorb p) (Pages n) sound h legal ok counted =
    let visit : visits p s.hold ≡ true = (absorb_tests s seat p legal).1 in
    homes_part h p _ (h.stocks p) (h.beyond p) (at_visit (visits p s.hold) visit)
homes_step s seat (Fill p g n) Done sound h legal ok counted =
    let visit : visits p s.hold ≡ true = (fill_tests s seat p g n legal).1 in
    let there : has_group s.groups g ≡ true = (fill_tests s seat p g n legal).2 in
    homes_part (homes_pending h _ (pages_at h g (s.pending g - n) (λ gone. absurd (true≢false (sym there ∙ gone))))) p _ (λ some. there)
    (λ other. absurd (true≢false (sym (h.holder p (or_right _ _ visit)) ∙ other))) (h.quiet p)
homes_step s seat (DrainStock p) (Pages n) sound h legal ok counted =
    homes_part (homes_pending h _ (pages_drained h (s.parts p).stock.group n (λ some. h.stocks p (omega arith)))) p _
    (λ some. h.stocks p (omega arith)) (λ other. let a = h.beyond p other in omega arith) (h.quiet p)
homes_step s seat (Grant g n) Granted sound h legal ok counted =
    let there : has_group s.groups g ≡ true = (grant_tests s seat g n legal).1 in
    homes_pending h _ (pages_at h g (s.pending g + n) (λ gone. absurd (true≢false (sym there ∙ gone))))
homes_step s seat (Ungrant g n) Done sound h legal ok counted =
    let there : has_group s.groups g ≡ true = (ungrant_tests s seat g n legal).1 in
    homes_pending h _ (pages_at h g (s.pending g - n) (λ gone. absurd (true≢false (sym there ∙ gone))))
homes_step s seat (PlaceBlock g k) (Placed b) sound h legal ok counted =
    let there : has_group s.groups g ≡ true = (place_block_tests s seat g k legal).1 in
    homes_phases (homes_pending h _ (pages_at h g (s.pending g - 2 ^ k) (λ gone. absurd (true≢false (sym there ∙ gone))))) _
    (λ f. placed_home f (is_within b.at (2 ^ b.order) f) (f == b.at) there)
  where
    placed_home : (f : ℕ) (a c : Bool) → has_group s.groups g ≡ true →
        is_there s.groups (keeper_of (cond a (cond c (Head (record { group = g; order = b.order }) Bare) (Tail g)) (s.phases f))) ≡ true
    placed_home f true true e = e
    placed_home f true false e = e
    placed_home f false c e = h.frames f
homes_step s seat (Return f) Done sound h legal ok counted = homes_phases h _ (λ x. back_home x (is_within f (unit_size (unit_of (s.phases f))) x))
  where
    back_home : (x : ℕ) (a : Bool) → is_there s.groups (keeper_of (cond a InZone (s.phases x))) ≡ true
    back_home x true = refl
    back_home x false = h.frames x
homes_step s seat (SetMax g limit) Done sound h legal ok counted =
    more_keeps s.groups (with_limit s.groups g limit) h (AreGroups-limited s.groups g limit h.tree)
    (room_of-limited s.groups g limit) (λ k there. has_group-limited s.groups g k limit ∙ there)
homes_step s seat (SetFlag g flag) Done sound h legal ok counted =
    let inner : not (g == 0) ≡ true = (set_flag_tests s seat g flag legal).2 in
    more_keeps s.groups (with_oom_group s.groups g flag) h
    (AreGroups-flagged s.groups g flag h.tree (λ e. true≢false (sym inner ∙ ap not (eq-eqb g 0 e))))
    (room_of-flagged s.groups g flag) (λ k there. has_group-flagged s.groups g k flag ∙ there)
homes_step s seat (Make path) (Number n) sound h legal ok counted =
    let none : is_none (make_fault s.groups path) ≡ true = (make_tests s seat path legal).1 in
    let can = making s path h none in
    more_keeps s.groups (with_group s.groups n path) h (AreGroups-with s.groups n path h.tree can (new_low s.groups path n can ok) ok.free)
    (room_of-with s.groups n path) (λ k there. has_group-with_kept s.groups n k path ok.free there)
homes_step s seat (Remove g) Done sound h legal ok counted =
    let may : is_removable s g ≡ true = (remove_tests s seat g legal).1 in
    let there : has_group s.groups g ≡ true = (removable_tests s g may).0 in
    let inner : not (g == 0) ≡ true = (removable_tests s g may).1 in
    let leaf : not (has_child s.groups g) ≡ true = (removable_tests s g may).2 in
    let none : (usage_of s g == 0) ≡ true = (removable_tests s g may).3 in
    gone_keeps s.groups g h there (equal_test (usage_of s g) 0 none) (not_true (has_child s.groups g) leaf)
    (λ e. true≢false (sym inner ∙ ap not (eq-eqb g 0 e)))
    (λ f past. free_is (s.phases f) ((sound.frames f).inside past))
homes_step s seat Lock answer sound h legal ok counted = h
homes_step s seat action answer sound h legal ok counted = h
