-- The machine counts what its run counts: from the boot on, through each visit, and through steps of others. Serves the
-- invariant of `Locked`.
use Rattle.std.proofs.Common.{◌≡◌, ◌≢◌, ℕ, ◌==◌, Bool, true, false, List, [], ◌∷◌, ◌++◌, cond, take, refl, sym, ap, ◌∙◌, subst, inl, inr, zero, suc, append_assoc}
use Rattle.std.proofs.Common.{arith, eq-eqb}
use Rattle.std.specs.Prelude.{IfSome}
use Rattle.std.specs.List.{slice_get}
use Rattle.std.proofs.lemmas.Bool.{cases_Bool, or_left, or_right, true≢false}
use Rattle.std.proofs.lemmas.List.{append_cancel_left}
use Rattle.group_tree.specs.declared.group.Group.{Group}
use Rattle.group_tree.specs.Groups.{has_group}
use Rattle.group_charge.specs.Charges.{Ledger, peak_of}
use Rattle.step_rules.specs.declared.phase.ChargedUnit.{ChargedUnit}
use Rattle.step_rules.specs.declared.phase.Way.TheVariants.{OnList}
use Rattle.step_rules.specs.declared.phase.Stage.{Stage}
use Rattle.step_rules.specs.declared.phase.Stage.TheVariants.{BackAt, FreshAt, Live}
use Rattle.step_rules.specs.declared.phase.Phase.{Phase}
use Rattle.step_rules.specs.declared.phase.Phase.TheVariants.{Head, Lent}
use Rattle.step_rules.specs.declared.step.Step.{Step}
use Rattle.step_rules.specs.declared.step.Action.{Action}
use Rattle.step_rules.specs.declared.step.Action.TheVariants.{Collect, Lock, Return, Unlock}
use Rattle.step_rules.specs.declared.step.Answer.{Answer}
use Rattle.step_rules.specs.declared.step.Answer.TheVariants.{Done, Illegal}
use Rattle.step_rules.specs.State.{State}
use Rattle.step_rules.specs.{Zone, at_boot, IsAnswer, IsCounted, IsLegalRun, Run, after, state_of, phase_seen_by, seen_by, stage_seen_by, ShowsLocal}
use Rattle.step_rules.specs.{pushed, IsInterleaved, IsLocalRun, MayFollow, is_own, own_steps, is_killed_return_phase}
use Rattle.step_rules.proofs.LocalLaws.{other_step_is_hidden, own_step_is_legal}
use Rattle.step_rules.proofs.Peaking.{peaks_are_kept}
use Rattle.step_rules.proofs.Runs.{allowed, state_more}
use Rattle.boot_words.specs.{IsHeld, KnownPasts, Meets, Unlocks, cpu_past, own_past, AllOf, HasNoStepOf, zone_of_boot, KnownTable}
use Rattle.boot_words.specs.Pasts.{Locks}
use Rattle.boot_words.proofs.Holding.{allowed_at, append_none}
use Rattle.mem_machine.specs.declared.counts.Counts.{Counts}
use Rattle.mem_machine.specs.{AgreesWithRun, counts_after, counts_along, is_back_passing, one_more_last_put, one_more_return, no_counts}
use Rattle.mem_machine.specs.{with_killed_fresh, Makes, local_of, lock_holder, IsFirst, KnownMachine, with_past, Rests}
use Rattle.mem_machine.proofs.Agreeing.{first_agrees}
use Rattle.mem_machine.proofs.Tells.{ledgers_agree}
use Rattle.mem_system.specs.{VisitsFindCounts, CountsItsRun, counts_in}
use Rattle.mem_system.proofs.Beside.{CountsRun, counted_beside, counts_both, other_uncounted}
use Rattle.mem_system.proofs.Mixed.{AreBehindOthers, all_own, as_many, gained, just_these, zone_and_cpu}

-- ---- what the lock's holder sees of a step counts as the whole does

back_seen : (p : ℕ) (unit : ChargedUnit) (stage : Stage) → is_back_passing (stage_seen_by p unit stage) ≡ is_back_passing (Head unit stage)
back_seen p unit (FreshAt q) = by_cases (q == p)
  where
    by_cases : (b : Bool) → is_back_passing (cond b (Head unit (FreshAt q)) (Lent q OnList)) ≡ false
    by_cases true = refl
    by_cases false = refl
back_seen p unit (BackAt q) = by_cases (q == p)
  where
    by_cases : (b : Bool) → is_back_passing (cond b (Head unit (BackAt q)) (Head unit Live)) ≡ false
    by_cases true = refl
    by_cases false = refl
back_seen p unit stage = refl

phase_back : (p : ℕ) (phase : Phase) → is_back_passing (phase_seen_by p phase) ≡ is_back_passing phase
phase_back p (Head unit stage) = back_seen p unit stage
phase_back p phase = refl

killed_seen : (p : ℕ) (killed : ℕ → Bool) (unit : ChargedUnit) (stage : Stage)
    → is_killed_return_phase killed (stage_seen_by p unit stage) ≡ is_killed_return_phase killed (Head unit stage)
killed_seen p killed unit (FreshAt q) = by_cases (q == p)
  where
    by_cases : (b : Bool) → is_killed_return_phase killed (cond b (Head unit (FreshAt q)) (Lent q OnList)) ≡ false
    by_cases true = refl
    by_cases false = refl
killed_seen p killed unit (BackAt q) = by_cases (q == p)
  where
    by_cases : (b : Bool) → is_killed_return_phase killed (cond b (Head unit (BackAt q)) (Head unit Live)) ≡ false
    by_cases true = refl
    by_cases false = refl
killed_seen p killed unit stage = refl

phase_killed : (p : ℕ) (killed : ℕ → Bool) (phase : Phase) → is_killed_return_phase killed (phase_seen_by p phase) ≡ is_killed_return_phase killed phase
phase_killed p killed (Head unit stage) = killed_seen p killed unit stage
phase_killed p killed phase = refl

count_seen : (p : ℕ) (s : State) (seat : ℕ) (action : Action) (answer : Answer) (x : Counts)
    → counts_after (seen_by p s) seat action answer x ≡ counts_after s seat action answer x
count_seen p s seat (Collect f q) Done x = ap (λ (b : Bool). cond b (one_more_last_put x) x) (phase_back p (s.phases f))
count_seen p s seat (Return f) Done x =
    ap (λ (b : Bool). cond b (with_killed_fresh x) (one_more_return x)) (phase_killed p s.killed (s.phases f))
count_seen p s seat action answer x = refl

-- ---- the steps of a visit among those of others

never_illegal : (s : State) (seat : ℕ) (action : Action) → IsAnswer s seat action Illegal → ⊥
never_illegal s seat Lock answered = answered
never_illegal s seat action answered = answered

-- no step is refused
abbrev Answered : Run → Type 0
Answered run = AllOf (λ e. e.1 ≢ Illegal) run

all_answered : (p : ℕ) (a : State) (steps : Run) (b : State) → IsLocalRun p a steps b → Answered steps
all_answered p a [] b leads = tt
all_answered p a (e ∷ steps) b leads = (
  λ is. never_illegal a e.0.seat e.0.action (subst (IsAnswer a e.0.seat e.0.action) is leads.0.answered),
  all_answered p (after a e.0.seat e.0.action e.1) steps b leads.1,
)

answered_rest : (p : ℕ) (e : Step × Answer) (mixed : Run) → Answered (own_steps p (e ∷ mixed)) → Answered (own_steps p mixed)
answered_rest p e mixed all = by_cases (is_own p e.0.seat) all
  where
    by_cases : (b : Bool) → Answered (cond b (e ∷ own_steps p mixed) (own_steps p mixed)) → Answered (own_steps p mixed)
    by_cases true all = all.1
    by_cases false all = all

interleaved : (zone : Zone) (p : ℕ) (run mixed : Run) → IsLegalRun zone (run ++ mixed) → Answered (own_steps p mixed) → IsInterleaved zone run p mixed
interleaved zone p run [] legal all k = tt
interleaved zone p run (e ∷ mixed) legal all zero =
    let s = state_of zone run in
    let ok = allowed_at zone run e mixed legal in
    let decided : is_own p e.0.seat ≡ true → IsCounted s e.0.action e.1 = λ own. elim (allowed s e.0.seat e.0.action e.1 ok) [
      | inl illegal ↦ absurd ((subst (λ (b : Bool). Answered (cond b (e ∷ own_steps p mixed) (own_steps p mixed))) own all).0 illegal)
      | inr made ↦ made.counted
    ] in
    subst (λ (r : Run). MayFollow p (state_of zone r) e.0.seat e.0.action e.1) (sym (append_none run))
    (record { other = λ off. ok; own = decided })
interleaved zone p run (e ∷ mixed) legal all (suc k) =
    subst (λ (r : Run). IfSome (slice_get mixed k) (λ d. MayFollow p (state_of zone r) d.0.seat d.0.action d.1))
    (append_assoc run (e ∷ []) (take k mixed))
    (interleaved zone p (run ++ e ∷ []) mixed (subst (IsLegalRun zone) (sym (append_assoc run (e ∷ []) mixed)) legal) (answered_rest p e mixed all) k)

not_own : (p seat : ℕ) → is_own p seat ≡ false → (seat ≢ 0) × (seat ≢ p)
not_own p seat other = (
  λ e. true≢false (sym (or_left (seat == 0) (seat == p) (eq-eqb seat 0 e)) ∙ other),
  λ e. true≢false (sym (or_right (seat == 0) (seat == p) (eq-eqb seat p e)) ∙ other),
)

-- the whole counts as the holder of the lock does along its own steps
count_mixed : (zone : Zone) (p : ℕ) (run : Run) (a : State) (mixed : Run) (b : State) (x : Counts) → ShowsLocal zone run p a
    → IsLocalRun p a (own_steps p mixed) b → IsInterleaved zone run p mixed
    → counts_along (state_of zone run) mixed x ≡ counts_along a (own_steps p mixed) x
count_mixed zone p run a [] b x shows leads mixes = refl
count_mixed zone p run a (e ∷ mixed) b x shows leads mixes =
    let s = state_of zone run in
    let own = own_steps p mixed in
    let here : MayFollow p s e.0.seat e.0.action e.1 =
    subst (λ (r : Run). MayFollow p (state_of zone r) e.0.seat e.0.action e.1) (append_none run) (mixes zero) in
    let later : IsInterleaved zone (pushed run e.0 e.1) p mixed = λ k.
    subst (λ (r : Run). IfSome (slice_get mixed k) (λ d. MayFollow p (state_of zone r) d.0.seat d.0.action d.1))
    (sym (append_assoc run (e ∷ []) (take k mixed))) (mixes (suc k)) in
    let made = sym (state_more zone run e.0 e.1) in
    elim (cases_Bool (is_own p e.0.seat)) [
      | inl is ↦
          let parts : IsLocalRun p a (e ∷ own) b = subst (λ (c : Bool). IsLocalRun p a (cond c (e ∷ own) own) b) is leads in
          let seen = own_step_is_legal zone run p a e.0 e.1 shows parts.0 (here.own is) in
          let y = counts_after a e.0.seat e.0.action e.1 x in
          ap (counts_along (after s e.0.seat e.0.action e.1) mixed)
          (sym (count_seen p s e.0.seat e.0.action e.1 x) ∙ ap (λ (k : State). counts_after k e.0.seat e.0.action e.1 x) (sym shows.sees))
          ∙ ap (λ (k : State). counts_along k mixed y) made
          ∙ count_mixed zone p (pushed run e.0 e.1) (after a e.0.seat e.0.action e.1) mixed b y seen parts.1 later
          ∙ ap (λ (c : Bool). counts_along a (cond c (e ∷ own) own) x) (sym is)
      | inr other ↦
          let rest : IsLocalRun p a own b = subst (λ (c : Bool). IsLocalRun p a (cond c (e ∷ own) own) b) other leads in
          let who = not_own p e.0.seat other in
          let ok = here.other other in
          let seen = other_step_is_hidden zone run p a e.0 e.1 shows (inl who) ok in
          ap (counts_along (after s e.0.seat e.0.action e.1) mixed) (other_uncounted s e.0.seat e.0.action e.1 x who.0 ok)
          ∙ ap (λ (k : State). counts_along k mixed x) made
          ∙ count_mixed zone p (pushed run e.0 e.1) a mixed b x seen rest later
          ∙ ap (λ (c : Bool). counts_along a (cond c (e ∷ own) own) x) (sym other)
    ]

-- ---- between the machine and the run

-- the run went on by steps of others, and the machine is the same otherwise
grown : (t : KnownTable) (run rest : Run) (l : Ledger) (x : Counts) (k : KnownMachine) → (own_past k.run.past).seen ≡ run ++ rest → Rests t k
    → HasNoStepOf 0 rest → k.ledger ≡ l → k.counts ≡ x → CountsRun t run l x → CountsItsRun t k
grown t run rest l x k is rests none ledger counts told =
    let legal = subst (IsLegalRun (zone_of_boot t)) is rests.past_is.legal in
    let all : CountsRun t (own_past k.run.past).seen k.ledger k.counts =
    subst (λ (v : Run × Ledger × Counts). CountsRun t v.0 v.1 v.2) (λ i. (sym is i, sym ledger i, sym counts i))
    (counted_beside t run rest l x legal none told) in
    record { agrees = all.agrees; counts = all.counts }

resting : (t : KnownTable) (m : KnownMachine) → CountsItsRun t m → CountsRun t (own_past m.run.past).seen m.ledger m.counts
resting t m told = record { agrees = told.agrees; counts = told.counts }

-- a CPU and the zone met
pub met_counted : (t : KnownTable) (m k : KnownMachine) (past past' : KnownPasts) → Rests t m → CountsItsRun t m → Meets t m.run.past past k.run.past past'
    → Rests t k → k ≡ with_past m k.run.past → CountsItsRun t k
met_counted t m k past past' rests told meets rests_after is =
    let more = meets.zone_sees in
    grown t (own_past m.run.past).seen more.between m.ledger m.counts k more.seen rests_after
    (subst (λ (q : ℕ). HasNoStepOf q more.between) rests.past_is.zone_is more.others)
    (ap (λ (y : KnownMachine). y.ledger) is) (ap (λ (y : KnownMachine). y.counts) is) (resting t m told)

-- ---- a visit

one_more : (seat : ℕ) (run : Run) (e : Step × Answer) → HasNoStepOf seat run → e.0.seat ≢ seat → HasNoStepOf seat (run ++ e ∷ [])
one_more seat [] e none ne = (ne, tt)
one_more seat (d ∷ run) e none ne = (none.0, one_more seat run e none.1 ne)

-- A CPU took the lock, made these steps with the zone's seat, and released the lock.
pub visit_counted : (t : KnownTable) (m found n k : KnownMachine) (steps : Run) (past past' : KnownPasts) → Rests t m → CountsItsRun t m
    → found ≡ with_past m found.run.past → Locks t m.run.past past found.run.past → Makes t found steps n
    → k ≡ with_past n k.run.past → Unlocks t n.run.past k.run.past past' → Rests t k → CountsItsRun t k
visit_counted t m found n k steps past past' rests told locked locks makes unlocked gives rests_after =
    let zone = zone_of_boot t in
    let held = found.run.past in
    let p = lock_holder found in
    let a = local_of t found in
    let b = local_of t n in
    let z = own_past m.run.past in
    let z1 = own_past held in
    let z2 = own_past n.run.past in
    let holds = locks.held.holds in
    let grew = makes.noted.grew in
    let still : IsHeld t n.run.past = grew.held locks.held in
    -- taking the lock
    let lock : Step × Answer = (record { seat = (own_past past).number; action = Lock }, Done) in
    let gap = locks.zone_grew.between in
    let is_one : z1.seen ≡ z.seen ++ (gap ++ lock ∷ []) = locks.zone_grew.seen ∙ append_assoc z.seen gap (lock ∷ []) in
    let legal_one : IsLegalRun zone z1.seen = subst (IsLegalRun zone) (sym holds.same) holds.shows.legal in
    let others = one_more 0 gap lock (subst (λ (q : ℕ). HasNoStepOf q gap) rests.past_is.zone_is locks.zone_grew.others)
    (λ zero_is. holds.cpu_is (locks.cpu_grew.number ∙ zero_is)) in
    let told_one : CountsRun t z1.seen found.ledger found.counts =
    subst (λ (v : Run × KnownMachine). CountsRun t v.0 v.1.ledger v.1.counts) (λ i. (sym is_one i, sym locked i))
    (counted_beside t z.seen (gap ++ lock ∷ []) m.ledger m.counts (subst (IsLegalRun zone) is_one legal_one) others (resting t m told)) in
    let shows : ShowsLocal zone z1.seen p a = subst (λ (r : Run). ShowsLocal zone r p a) (sym holds.same) holds.shows in
    -- the steps of the visit
    let zone_gains = gained z1 steps z2 (grew.zone_grew locks.held) in
    let cpu_gains = gained (cpu_past held) steps (cpu_past n.run.past) (grew.cpu_grew locks.held) in
    let mixed = zone_gains.run in
    let same_run : cpu_gains.run ≡ mixed = append_cancel_left z1.seen cpu_gains.run mixed
    (ap (λ (l : Run). l ++ cpu_gains.run) holds.same ∙ sym cpu_gains.seen ∙ sym still.holds.same ∙ zone_gains.seen) in
    let by_zone : AreBehindOthers 0 steps mixed = subst (λ (q : ℕ). AreBehindOthers q steps mixed) holds.zone_is zone_gains.behind in
    let by_cpu : AreBehindOthers p steps mixed = subst (λ (r : Run). AreBehindOthers p steps r) same_run cpu_gains.behind in
    let many = as_many p steps mixed by_cpu in
    let own : own_steps p mixed ≡ steps = just_these p 0 p (zone_and_cpu p) steps mixed by_zone (omega (arith, many)) ∙ all_own p a steps b makes.leads in
    let legal_two : IsLegalRun zone (z1.seen ++ mixed) = subst (IsLegalRun zone) (sym still.holds.same ∙ zone_gains.seen) still.holds.shows.legal in
    let leads : IsLocalRun p a (own_steps p mixed) b = subst (λ (r : Run). IsLocalRun p a r b) (sym own) makes.leads in
    let follows = interleaved zone p z1.seen mixed legal_two (subst Answered (sym own) (all_answered p a steps b makes.leads)) in
    let counts : n.counts ≡ counts_in t (z1.seen ++ mixed) =
    makes.counts ∙ ap (counts_along a steps) told_one.counts ∙ ap (λ (r : Run). counts_along a r (counts_in t z1.seen)) (sym own)
    ∙ sym (count_mixed zone p z1.seen a mixed b (counts_in t z1.seen) shows leads follows) ∙ sym (counts_both (at_boot zone) z1.seen mixed no_counts) in
    let told_two : CountsRun t (z1.seen ++ mixed) n.ledger n.counts = record {
      agrees = ledgers_agree t z1.seen steps mixed found n shows told_one.agrees makes (record { own = own; follows = follows });
      counts = counts;
    } in
    -- releasing the lock
    let unlock : Step × Answer = (record { seat = (cpu_past n.run.past).number; action = Unlock }, Done) in
    let behind = gives.zone_grew.between ++ unlock ∷ [] in
    grown t (z1.seen ++ mixed) behind n.ledger n.counts k
    (gives.zone_grew.seen ∙ append_assoc z2.seen gives.zone_grew.between (unlock ∷ []) ∙ ap (λ (r : Run). r ++ behind) zone_gains.seen) rests_after
    (one_more 0 gives.zone_grew.between unlock (subst (λ (q : ℕ). HasNoStepOf q gives.zone_grew.between) still.holds.zone_is gives.zone_grew.others)
    still.holds.cpu_is) (ap (λ (y : KnownMachine). y.ledger) unlocked) (ap (λ (y : KnownMachine). y.counts) unlocked) told_two

-- ---- a boot

pub first_counted : (t : KnownTable) (m : KnownMachine) → IsFirst t m → CountsItsRun t m
first_counted t m first =
    let none : (own_past m.run.past).seen ≡ [] = ap (λ (x : KnownPasts). (own_past x).seen) first.past in
    record {
      agrees = subst (λ (v : Run × Ledger). AgreesWithRun t v.0 v.1) (λ i. (sym none i, sym first.ledger i)) (first_agrees t);
      counts = first.counts ∙ ap (counts_in t) (sym none);
    }

-- ---- from one visit to the next

pub visits_find_counts : VisitsFindCounts
visits_find_counts t left found others sound sound_found is none =
    let here = own_past found.machine.run.past in
    let m = found.machine in
    let l = left.machine.ledger in
    let legal = subst (IsLegalRun (zone_of_boot t)) is sound_found.quiet.rests.past_is.legal in
    let was : CountsRun t here.seen l left.machine.counts = subst (λ (r : Run). CountsRun t r l left.machine.counts) (sym is)
    (counted_beside t (own_past left.machine.run.past).seen others l left.machine.counts legal none (resting t left.machine sound.quiet.counted)) in
    let now = sound_found.quiet.counted in
    let there = λ (g : ℕ). ap (λ (gs : List Group). has_group gs g) sound_found.consistent.shown.groups in
    record {
      counts = now.counts ∙ sym was.counts;
      peak = λ g is. peaks_are_kept.one (zone_of_boot t) here.seen g (peak_of m.ledger g) (peak_of l g) (now.agrees.peak g (there g ∙ is))
          (was.agrees.peak g (there g ∙ is));
      events = λ key g is. now.agrees.events key g (there g ∙ is) ∙ sym (was.agrees.events key g (there g ∙ is));
      events_local = λ key g is. now.agrees.events_local key g (there g ∙ is) ∙ sym (was.agrees.events_local key g (there g ∙ is));
    }
