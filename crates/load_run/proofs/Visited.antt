-- A run shows a visit whose CPU's past is a beginning of it, and what a look behind the lock found. Serves
-- `runs_show_visits`, `runs_show_finds`, `pasts_begin`.
use Rattle.std.proofs.Common.{◌≡◌, ◌≢◌, ◌∙◌, ℕ, ◌==◌, Bool, true, false, [], ◌∷◌, ◌++◌, cond, refl, ap, sym, subst, arith, inl, inr, append_assoc}
use Rattle.std.specs.Prelude.{◌⊎◌}
use Rattle.std.proofs.lemmas.Bool.{and_parts, eqb-true, false≢true, true≢false}
use Rattle.std.proofs.lemmas.List.Elements.{filter-append}
use Rattle.step_rules.specs.declared.phase.Hold.{Hold}
use Rattle.step_rules.specs.declared.phase.Hold.TheVariants.{HeldBy, Unheld, Visiting}
use Rattle.step_rules.specs.declared.step.Step.{Step}
use Rattle.step_rules.specs.declared.step.Answer.{Answer}
use Rattle.step_rules.specs.declared.step.Answer.TheVariants.{Done}
use Rattle.step_rules.specs.declared.step.Action.{Action}
use Rattle.step_rules.specs.declared.step.Action.TheVariants.{Lock, Unlock, OpenVisit, ShutVisit, Get, Put, Freeze, Unfreeze, PassOut, TakeIn, PassBack, Collect}
use Rattle.step_rules.specs.declared.step.Action.TheVariants.{Consume, Credit, Report, Absorb, Fill, DrainStock, Grant, Ungrant, PlaceBlock, Publish, Return}
use Rattle.step_rules.specs.declared.step.Action.TheVariants.{Note, NoteGroupKill, SetMax, SetFlag, Make, Remove, Kill}
use Rattle.step_rules.specs.{Zone, is_unheld, may_zone_act, visits, Allows, IsAnswer, IsMade, is_legal, IsLegalRun, Run, after, state_of, is_own}
use Rattle.step_rules.specs.{own_steps, KeepsInvariant, cpu_makes}
use Rattle.step_rules.specs.State.{State}
use Rattle.step_rules.proofs.LegalTests.{lock_tests, open_visit_tests, shut_visit_tests, freeze_tests, unfreeze_tests, pass_out_tests, take_in_tests, pass_back_tests, collect_tests}
use Rattle.step_rules.proofs.LegalTests.{report_tests, absorb_tests, fill_tests, drain_stock_tests, grant_tests, ungrant_tests, place_block_tests, publish_tests, return_tests}
use Rattle.step_rules.proofs.LegalTests.{set_max_tests, set_flag_tests, make_tests, remove_tests, kill_tests}
use Rattle.step_rules.proofs.PhaseLemmas.{visited}
use Rattle.step_rules.proofs.Runs.{after_illegal, allowed, sound_run, state_more}
use Rattle.boot_words.specs.{GrewByAll, hide, own_past, HasNoStepOf, IsFast, zone_of_boot, KnownTable}
use Rattle.boot_words.specs.declared.past.Past.{Past}
use Rattle.boot_words.proofs.Hiding.{fast_is_hidden}
use Rattle.boot_words.proofs.Holding.{allowed_at, append_none}
use Rattle.mem_machine.specs.{KnownMachine, IsShownBy}
use Rattle.mem_system.specs.{between_locks, IsSound, KnownLocked}
use Rattle.mem_system.proofs.Beside.{legal_front}
use Rattle.mem_system.proofs.Mixed.{AreBehindOthers, all_own, as_many, both, gained, has_none, just_these}
use Rattle.mem_system.proofs.Mixed.{no_fewer, none_of, own_is, steps_of, zone_and_cpu}
use Rattle.load_run.specs.Threads.{IsStateOf, PastsBegin, RunsShowFinds, RunsShowVisits}

-- ---- where a visit begins

-- of two beginnings of a run, one is a beginning of the other
which_first : (xs us ys vs : Run) → xs ++ us ≡ ys ++ vs
    → ((mid : Run) × (xs ≡ ys ++ mid) × (vs ≡ mid ++ us)) ⊎ ((mid : Run) × (ys ≡ xs ++ mid) × (us ≡ mid ++ vs))
which_first [] us ys vs e = inr (ys, refl, e)
which_first (x ∷ xs) us [] vs e = inl (x ∷ xs, refl, sym e)
which_first (x ∷ xs) us (y ∷ ys) vs e =
    let here : x ≡ y = ap (λ (l : Run). first_of x l) e in
    elim (which_first xs us ys vs (ap (λ (l : Run). others_of l) e)) [
      | inl h ↦ inl (h.0, ap (λ (l : Run). x ∷ l) h.1 ∙ ap (λ (z : Step × Answer). z ∷ (ys ++ h.0)) here, h.2)
      | inr h ↦ inr (h.0, ap (λ (l : Run). y ∷ l) h.1 ∙ ap (λ (z : Step × Answer). z ∷ (xs ++ h.0)) (sym here), h.2)
    ]
  where
    first_of : Step × Answer → Run → Step × Answer
    first_of d [] = d
    first_of d (z ∷ l) = z

    others_of : Run → Run
    others_of [] = []
    others_of (z ∷ l) = l

-- After the zone's past and steps of others, the CPU and the zone's seat have made just these steps.
pub record IsBehind (cpu : ℕ) (lock : Step × Answer) (steps seen run : Run) : Type 0 where
  pub gap : Run
  pub rest : Run
  pub others : HasNoStepOf 0 gap
  pub is : run ≡ seen ++ (gap ++ lock ∷ rest)
  pub own : own_steps cpu (lock ∷ rest) ≡ own_steps cpu (lock ∷ steps)

pub behind_both : (cpu : ℕ) (lock : Step × Answer) (steps : Run) (z c z' c' : Past) → z.number ≡ 0 → c.number ≡ cpu → GrewByAll z (lock ∷ steps) z'
    → GrewByAll c (lock ∷ steps) c' → z'.seen ≡ c'.seen → IsBehind cpu lock steps z.seen z'.seen
behind_both cpu lock steps z c z' c' zone_is cpu_is zone_grew cpu_grew same =
    let g = gained z (lock ∷ steps) z' zone_grew in
    let d = gained c (lock ∷ steps) c' cpu_grew in
    let zh : AreBehindOthers 0 (lock ∷ steps) g.run = subst (λ (n : ℕ). AreBehindOthers n (lock ∷ steps) g.run) zone_is g.behind in
    let ch : AreBehindOthers cpu (lock ∷ steps) d.run = subst (λ (n : ℕ). AreBehindOthers n (lock ∷ steps) d.run) cpu_is d.behind in
    let z_is : z'.seen ≡ z.seen ++ (zh.0 ++ lock ∷ zh.1) = g.seen ∙ ap (λ (l : Run). z.seen ++ l) zh.3 in
    let c_is : c'.seen ≡ c.seen ++ (ch.0 ++ lock ∷ ch.1) = d.seen ∙ ap (λ (l : Run). c.seen ++ l) ch.3 in
    let zone_run : AreBehindOthers 0 (lock ∷ steps) (lock ∷ zh.1) = ([], zh.1, tt, refl, zh.4) in
    let cpu_run : AreBehindOthers cpu (lock ∷ steps) (lock ∷ ch.1) = ([], ch.1, tt, refl, ch.4) in
    let one_run : (z.seen ++ zh.0) ++ lock ∷ zh.1 ≡ (c.seen ++ ch.0) ++ lock ∷ ch.1 =
    append_assoc z.seen zh.0 (lock ∷ zh.1) ∙ sym z_is ∙ same ∙ c_is ∙ sym (append_assoc c.seen ch.0 (lock ∷ ch.1)) in
    elim (which_first (z.seen ++ zh.0) (lock ∷ zh.1) (c.seen ++ ch.0) (lock ∷ ch.1) one_run) [
      | inl h ↦
          let all = as_many cpu (lock ∷ steps) (lock ∷ ch.1) cpu_run in
          let is = ap (steps_of cpu) h.2 in
          let parts = both cpu h.0 (lock ∷ zh.1) in
          record {
            gap = zh.0;
            rest = zh.1;
            others = zh.2;
            is = z_is;
            own = just_these cpu 0 cpu (zone_and_cpu cpu) (lock ∷ steps) (lock ∷ zh.1) zone_run (omega (arith, all, is, parts));
          }
      | inr h ↦
          let all = as_many 0 (lock ∷ steps) (lock ∷ zh.1) zone_run in
          let least = no_fewer cpu 0 (lock ∷ steps) (lock ∷ ch.1) cpu_run in
          let is = ap (steps_of 0) h.2 in
          let parts = both 0 h.0 (lock ∷ ch.1) in
          let before = none_of 0 zh.0 zh.2 in
          let joined = both 0 zh.0 h.0 in
          record {
            gap = zh.0 ++ h.0;
            rest = ch.1;
            others = has_none 0 (zh.0 ++ h.0) (omega (arith, all, least, is, parts, before, joined));
            is = z_is ∙ ap (λ (l : Run). z.seen ++ (zh.0 ++ l)) h.2 ∙ ap (λ (l : Run). z.seen ++ l) (sym (append_assoc zh.0 h.0 (lock ∷ ch.1)));
            own = just_these cpu cpu 0 (λ seat not_cpu not_zone. zone_and_cpu cpu seat not_zone not_cpu) (lock ∷ steps) (lock ∷ ch.1) cpu_run (omega (arith, all, is, parts));
          }
    ]

-- ---- without the zone's seat nothing changes

-- no visit is open
abbrev NoVisit : Hold → Type 0
NoVisit hold = (q : ℕ) → hold ≡ Visiting q → ⊥

-- what is left if every CPU's own part is hidden, and who holds the lock
abbrev hide_all : State → State
hide_all s = record (hide s) { hold = Unheld }

-- no visit is open after it, and nothing has changed that isn't hidden
record LeavesAll (s t : State) : Type 0 where
  closed : NoVisit t.hold
  hidden : hide_all t ≡ hide_all s

no_zone : (hold : Hold) (q : ℕ) → q ≢ 0 → may_zone_act hold q ≡ true → ⊥
no_zone hold q ne may = ne (eqb-true q 0 (and_parts (q == 0) _ may).0)

no_visit : (hold : Hold) (q : ℕ) → NoVisit hold → visits q hold ≡ true → ⊥
no_visit hold q closed visit = closed q (visited q hold visit)

-- a CPU's step while no visit is open is a fast one, a Lock or an Unlock
only_fast : (s : State) (q : ℕ) (action : Action) → KeepsInvariant s → NoVisit s.hold → q ≢ 0 → is_legal s q action ≡ true
    → IsFast action ⊎ ((action ≡ Lock) ⊎ (action ≡ Unlock))
only_fast s q Lock sound closed ne legal = inr (inl refl)
only_fast s q Unlock sound closed ne legal = inr (inr refl)
only_fast s q (Get f) sound closed ne legal = inl tt
only_fast s q (Put f) sound closed ne legal = inl tt
only_fast s q (Consume g) sound closed ne legal = inl tt
only_fast s q (Credit f) sound closed ne legal = inl tt
only_fast s q (TakeIn f) sound closed ne legal = absurd (closed q ((sound.frames f).out q (take_in_tests s q f legal).2))
only_fast s q (PassBack f) sound closed ne legal = absurd (no_visit s.hold q closed (pass_back_tests s q f legal).2)
only_fast s q (Report n) sound closed ne legal = absurd (no_visit s.hold q closed (report_tests s q n legal).1)
only_fast s q (OpenVisit p) sound closed ne legal = absurd (no_zone s.hold q ne (open_visit_tests s q p legal).0)
only_fast s q (ShutVisit p) sound closed ne legal = absurd (no_zone s.hold q ne (shut_visit_tests s q p legal).0)
only_fast s q (Freeze f n) sound closed ne legal = absurd (no_zone s.hold q ne (freeze_tests s q f n legal).0)
only_fast s q (Unfreeze f n) sound closed ne legal = absurd (no_zone s.hold q ne (unfreeze_tests s q f n legal).0)
only_fast s q (PassOut f p) sound closed ne legal = absurd (no_zone s.hold q ne (pass_out_tests s q f p legal).0)
only_fast s q (Collect f p) sound closed ne legal = absurd (no_zone s.hold q ne (collect_tests s q f p legal).0)
only_fast s q (Absorb p) sound closed ne legal = absurd (no_zone s.hold q ne (absorb_tests s q p legal).0)
only_fast s q (Fill p g n) sound closed ne legal = absurd (no_zone s.hold q ne (fill_tests s q p g n legal).0)
only_fast s q (DrainStock p) sound closed ne legal = absurd (no_zone s.hold q ne (drain_stock_tests s q p legal).0)
only_fast s q (Grant g n) sound closed ne legal = absurd (no_zone s.hold q ne (grant_tests s q g n legal).0)
only_fast s q (Ungrant g n) sound closed ne legal = absurd (no_zone s.hold q ne (ungrant_tests s q g n legal).0)
only_fast s q (PlaceBlock g k) sound closed ne legal = absurd (no_zone s.hold q ne (place_block_tests s q g k legal).0)
only_fast s q (Publish f) sound closed ne legal = absurd (no_zone s.hold q ne (publish_tests s q f legal).0)
only_fast s q (Return f) sound closed ne legal = absurd (no_zone s.hold q ne (return_tests s q f legal).0)
only_fast s q (Note key g) sound closed ne legal = absurd (no_zone s.hold q ne (and_parts (may_zone_act s.hold q) _ legal).0)
only_fast s q (NoteGroupKill g) sound closed ne legal = absurd (no_zone s.hold q ne
    (and_parts (may_zone_act s.hold q) _ (and_parts _ _ legal).0).0)
only_fast s q (SetMax g limit) sound closed ne legal = absurd (no_zone s.hold q ne (set_max_tests s q g limit legal).0)
only_fast s q (SetFlag g flag) sound closed ne legal = absurd (no_zone s.hold q ne (set_flag_tests s q g flag legal).0)
only_fast s q (Make path) sound closed ne legal = absurd (no_zone s.hold q ne (make_tests s q path legal).0)
only_fast s q (Remove g) sound closed ne legal = absurd (no_zone s.hold q ne (remove_tests s q g legal).0)
only_fast s q (Kill g) sound closed ne legal = absurd (no_zone s.hold q ne (kill_tests s q g legal).0)

held_closed : (q : ℕ) → NoVisit (HeldBy q)
held_closed q p e = true≢false (ap is_held e)
  where
    is_held : Hold → Bool
    is_held (HeldBy p) = true
    is_held hold = false

free_closed : (hold : Hold) → is_unheld hold ≡ true → NoVisit hold
free_closed hold free q e = true≢false (sym free ∙ ap is_unheld e)

lock_leaves : (s : State) (q : ℕ) (answer : Answer) → IsAnswer s q Lock answer → LeavesAll s (after s q Lock answer)
lock_leaves s q Done answered = record { closed = held_closed q; hidden = refl }
lock_leaves s q answer answered = absurd answered

unlock_leaves : (s : State) (q : ℕ) (answer : Answer) → IsAnswer s q Unlock answer → LeavesAll s (after s q Unlock answer)
unlock_leaves s q Done answered = record { closed = free_closed Unheld refl; hidden = refl }
unlock_leaves s q answer answered = absurd answered

step_leaves : (zone : Zone) (run : Run) (e : Step × Answer) → IsLegalRun zone run → NoVisit (state_of zone run).hold → e.0.seat ≢ 0
    → Allows (state_of zone run) e.0.seat e.0.action e.1 → LeavesAll (state_of zone run) (state_of zone (run ++ e ∷ []))
step_leaves zone run e legal closed ne ok =
    let s = state_of zone run in
    let more = state_more zone run e.0 e.1 in
    elim (allowed s e.0.seat e.0.action e.1 ok) [
      | inl illegal ↦
          let same = more ∙ ap (after s e.0.seat e.0.action) illegal ∙ after_illegal s e.0.seat e.0.action in
          record { closed = subst (λ (t : State). NoVisit t.hold) (sym same) closed; hidden = ap hide_all same }
      | inr made ↦ elim (only_fast s e.0.seat e.0.action (sound_run zone run legal) closed ne made.legal) [
        | inl fast ↦
            let same = (fast_is_hidden zone run 0 e.0 e.1 legal ne ne fast ok).hidden in
            record {
              closed = subst NoVisit (sym (ap (λ (t : State). t.hold) same)) closed;
              hidden = ap (λ (t : State). record t { hold = Unheld }) same;
            }
        | inr locks ↦ subst (LeavesAll s) (sym more) (elim locks [
          | inl is ↦ subst (λ (a : Action). LeavesAll s (after s e.0.seat a e.1)) (sym is)
              (lock_leaves s e.0.seat e.1 (subst (λ (a : Action). IsAnswer s e.0.seat a e.1) is made.answered))
          | inr is ↦ subst (λ (a : Action). LeavesAll s (after s e.0.seat a e.1)) (sym is)
              (unlock_leaves s e.0.seat e.1 (subst (λ (a : Action). IsAnswer s e.0.seat a e.1) is made.answered))
        ])
      ]
    ]

run_leaves : (zone : Zone) (seen rest : Run) → IsLegalRun zone (seen ++ rest) → HasNoStepOf 0 rest → NoVisit (state_of zone seen).hold
    → LeavesAll (state_of zone seen) (state_of zone (seen ++ rest))
run_leaves zone seen [] legal none closed =
    subst (λ (r : Run). LeavesAll (state_of zone seen) (state_of zone r)) (sym (append_none seen)) (record { closed = closed; hidden = refl })
run_leaves zone seen (e ∷ rest) legal none closed =
    let more = append_assoc seen (e ∷ []) rest in
    let here = step_leaves zone seen e (legal_front zone seen (e ∷ rest) legal) closed none.0 (allowed_at zone seen e rest legal) in
    let all = run_leaves zone (seen ++ e ∷ []) rest (subst (IsLegalRun zone) (sym more) legal) none.1 here.closed in
    subst (λ (r : Run). LeavesAll (state_of zone seen) (state_of zone r)) more
    (record { closed = all.closed; hidden = all.hidden ∙ here.hidden })

free_is : (hold : Hold) → is_unheld hold ≡ true → hold ≡ Unheld
free_is Unheld free = refl
free_is hold free = absurd (false≢true free)

-- if the lock is free again, nothing has changed that isn't hidden
pub still_hidden : (zone : Zone) (seen rest : Run) → IsLegalRun zone (seen ++ rest) → HasNoStepOf 0 rest → is_unheld (state_of zone seen).hold ≡ true
    → is_unheld (state_of zone (seen ++ rest)).hold ≡ true → hide (state_of zone (seen ++ rest)) ≡ hide (state_of zone seen)
still_hidden zone seen rest legal none free again =
    let s = state_of zone seen in
    let t = state_of zone (seen ++ rest) in
    let all = (run_leaves zone seen rest legal none (free_closed s.hold free)).hidden in
    ap (λ (h : Hold). record (hide t) { hold = h }) (free_is t.hold again) ∙ all
    ∙ ap (λ (h : Hold). record (hide s) { hold = h }) (sym (free_is s.hold free))

-- what a visit of the run found, right before its Lock
pub visit_in_run : (t : KnownTable) (m : KnownMachine) (cpu : ℕ) (steps seen run : Run) → IsLegalRun (zone_of_boot t) run → IsStateOf t m (state_of (zone_of_boot t) seen)
    → (b : IsBehind cpu (record { seat = cpu; action = Lock }, Done) steps seen run) → IsStateOf t m (state_of (zone_of_boot t) (seen ++ b.gap))
visit_in_run t m cpu steps seen run legal found b =
    let zone = zone_of_boot t in
    let lock : Step × Answer = (record { seat = cpu; action = Lock }, Done) in
    let front = seen ++ b.gap in
    let whole : IsLegalRun zone (front ++ lock ∷ b.rest) =
    subst (IsLegalRun zone) (b.is ∙ sym (append_assoc seen b.gap (lock ∷ b.rest))) legal in
    let made : IsMade (state_of zone front) cpu Lock Done = allowed_at zone front lock b.rest whole in
    let free = (lock_tests (state_of zone front) cpu made.legal).1 in
    let same = still_hidden zone seen b.gap (legal_front zone front (lock ∷ b.rest) whole) b.others found.free free in
    record { free = free; shown = subst (IsShownBy t m) (sym same) found.shown }

-- ---- the law

own_between : (cpu : ℕ) (steps : Run) → own_steps cpu steps ≡ steps → own_steps cpu (between_locks cpu steps) ≡ between_locks cpu steps
own_between cpu steps all =
    let lock : Step × Answer = cpu_makes cpu Lock Done in
    let unlock : Run = cpu_makes cpu Unlock Done ∷ [] in
    let mine : is_own cpu cpu ≡ true = own_is cpu cpu (inr refl) in
    ap (λ (t : Bool). cond t (lock ∷ own_steps cpu (steps ++ unlock)) (own_steps cpu (steps ++ unlock))) mine
    ∙ ap (λ (l : Run). lock ∷ l) (filter-append (λ d. is_own cpu d.0.seat) steps unlock ∙ ap (λ (l : Run). l ++ own_steps cpu unlock) all
    ∙ ap (λ (t : Bool). steps ++ cond t unlock []) mine)

-- what is behind the lock is what the zone's past left
found_behind : (t : KnownTable) (found : KnownLocked) → IsSound t found → IsStateOf t found.machine (state_of (zone_of_boot t) (own_past found.machine.run.past).seen)
found_behind t found sound = record { free = sound.quiet.rests.free; shown = sound.consistent.shown }

pub runs_show_visits : RunsShowVisits
runs_show_visits table cmd outcome before after run sound served left begins =
    let zone = zone_of_boot table in
    let cpu = before.cpu.part.number in
    let visit = served.run in
    let rests = sound.quiet.rests in
    let rests_after = left.quiet.rests in
    let z = own_past before.locked.machine.run.past in
    let z_after = own_past after.locked.machine.run.past in
    let b = behind_both cpu (cpu_makes cpu Lock Done) (served.steps ++ cpu_makes cpu Unlock Done ∷ []) z (own_past before.cpu.past) z_after
    (own_past after.cpu.past) rests.past_is.zone_is visit.number visit.zone_grew visit.cpu_grew visit.same in
    let during : Run = cpu_makes cpu Lock Done ∷ b.rest in
    let is : z_after.seen ≡ (z.seen ++ b.gap) ++ during = b.is ∙ sym (append_assoc z.seen b.gap during) in
    record {
      before = z.seen ++ b.gap;
      during = during;
      after = begins.rest;
      is = begins.is ∙ ap (λ (l : Run). l ++ begins.rest) (sym visit.same ∙ is) ∙ append_assoc (z.seen ++ b.gap) during begins.rest;
      found_is = visit_in_run table before.locked.machine cpu _ z.seen z_after.seen rests_after.past_is.legal (found_behind table before.locked sound) b;
      own = b.own ∙ own_between cpu served.steps (subst (λ (q : ℕ). own_steps q served.steps ≡ served.steps) served.taken.holds.who
          (all_own _ _ served.steps _ served.makes.leads));
      left_is = subst (λ (l : Run). IsStateOf table after.locked.machine (state_of zone l)) is (found_behind table after.locked left);
    }

pub runs_show_finds : RunsShowFinds
runs_show_finds table found after run sound same begins = record {
  before = (own_past found.machine.run.past).seen;
  after = begins.rest;
  is = begins.is ∙ ap (λ (l : Run). l ++ begins.rest) (sym same);
  found_is = found_behind table found sound;
}

pub pasts_begin : PastsBegin
pasts_begin before after steps grew =
    let g = gained (own_past before) grew.made grew.last grew.grew in record {
      rest = g.run ++ grew.more.between;
      is = grew.more.seen ∙ ap (λ (l : Run). l ++ grew.more.between) g.seen ∙ append_assoc (own_past before).seen g.run grew.more.between;
    }
