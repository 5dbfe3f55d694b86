-- The ledger has a run's peaks and event counts, and each call keeps this true. Serves `ledgers_agree`.
use Rattle.std.proofs.Common.{◌≡◌, ◌≢◌, ℕ, ◌==◌, ◌&&◌, ◌++◌, Bool, true, false, [], ◌∷◌, cond, take, length, Option, Some, refl, sym, ap, ◌∙◌, subst, inl, inr, zero, suc, eq-eqb}
use Rattle.std.specs.Prelude.{IfSome, max}
use Rattle.std.specs.List.{slice_get}
use Rattle.std.proofs.lemmas.Bool.{cases_Bool, and_parts, eqb-true, or_left, or_right, true≢false}
use Rattle.std.proofs.lemmas.List.{append_assoc, append-nil}
use Rattle.std.proofs.Math.Seq.{take-append_seam}
use Rattle.group_tree.specs.{count_of, has_group, in_subtree}
use Rattle.group_charge.specs.Charges.{peak_of, events_of, events_local_of}
use Rattle.step_rules.specs.declared.step.Step.{Step}
use Rattle.step_rules.specs.declared.step.Action.{Action}
use Rattle.step_rules.specs.declared.step.Action.TheVariants.{Grant, Note, NoteGroupKill, Kill, Make}
use Rattle.step_rules.specs.declared.step.Answer.{Answer}
use Rattle.step_rules.specs.declared.step.Answer.TheVariants.{Illegal, Done, Granted, Number}
use Rattle.step_rules.specs.{Zone, is_legal, Allows, usage_of, Run, after, state_of, IsLegalRun, ShowsLocal, IsLocalStep, pushed, is_own, own_steps}
use Rattle.step_rules.specs.{IsLocalRun, MayFollow, IsInterleaved, IsPeak, peak_follows, is_noted_at, is_noted_in_subtree, events_in, events_local_in}
use Rattle.step_rules.specs.State.{State}
use Rattle.step_rules.proofs.LegalTests.{grant_tests, make_tests, kill_tests}
use Rattle.step_rules.proofs.Runs.{allowed, sound_run}
use Rattle.step_rules.proofs.CoverUsage.{usage_seen}
use Rattle.step_rules.proofs.Interleaving.{local_runs_interleave}
use Rattle.step_rules.proofs.LocalLaws.{own_step_is_legal, other_step_is_hidden}
use Rattle.step_rules.proofs.Peaking.{peaks_are_kept}
use Rattle.step_rules.proofs.Noting.{events_are_counted}
use Rattle.boot_words.specs.{zone_of_boot}
use Rattle.mem_machine.specs.{Moves, moved_along, moves_peak, moves_count, ExistsAfter, lock_holder, local_of, LedgersAgree}
use Rattle.mem_machine.proofs.Noted.{run_ends}
use Rattle.mem_machine.proofs.Followed.{is_still, only_made, Stays, Test, still_peak, below_stays, at_stays, count_begins}

-- ---- steps of other CPUs

illegal_still : (action : Action) → is_still action Illegal ≡ true
illegal_still (Grant g n) = refl
illegal_still action = refl

not_zone : (seat : ℕ) (b : Bool) → seat ≢ 0 → ((seat == 0) && b) ≡ true → ⊥
not_zone seat b ne acts = ne (eqb-true seat 0 (and_parts (seat == 0) b acts).0)

not_own : (p seat : ℕ) → is_own p seat ≡ false → (seat ≢ 0) × (seat ≢ p)
not_own p seat other = (
  λ e. true≢false (sym (or_left (seat == 0) (seat == p) (eq-eqb seat 0 e)) ∙ other),
  λ e. true≢false (sym (or_right (seat == 0) (seat == p) (eq-eqb seat p e)) ∙ other),
)

-- no step that moves a peak or a count is a CPU's
cpu_still : (s : State) (seat : ℕ) (action : Action) (answer : Answer) → seat ≢ 0 → is_legal s seat action ≡ true → is_still action answer ≡ true
cpu_still s seat (Grant g n) Granted ne legal = absurd (not_zone seat _ ne (grant_tests s seat g n legal).0)
cpu_still s seat (Note key g) Done ne legal = absurd (not_zone seat _ ne (and_parts _ _ legal).0)
cpu_still s seat (NoteGroupKill g) Done ne legal = absurd (not_zone seat _ ne (and_parts _ _ (and_parts _ _ legal).0).0)
cpu_still s seat (Kill g) Done ne legal = absurd (not_zone seat _ ne (kill_tests s seat g legal).0)
cpu_still s seat (Make path) (Number n) ne legal = absurd (not_zone seat _ ne (make_tests s seat path legal).0)
cpu_still s seat action answer ne legal = refl

other_still : (s : State) (seat : ℕ) (action : Action) (answer : Answer) → seat ≢ 0 → Allows s seat action answer → is_still action answer ≡ true
other_still s seat action answer ne ok = elim (allowed s seat action answer ok) [
  | inl illegal ↦ subst (λ (a : Answer). is_still action a ≡ true) (sym illegal) (illegal_still action)
  | inr made ↦ cpu_still s seat action answer ne made.legal
]

-- ---- along the mixed steps

get_last : (run : Run) (e : Step × Answer) → slice_get (run ++ e ∷ []) (length run) ≡ Some e
get_last [] e = refl
get_last (x ∷ run) e = get_last run e

-- the last answer of a legal run is allowed
last_allowed : (zone : Zone) (run : Run) (step : Step) (answer : Answer) → IsLegalRun zone (pushed run step answer)
    → Allows (state_of zone run) step.seat step.action answer
last_allowed zone run step answer legal =
    subst (λ (z : Option (Step × Answer) × Run). IfSome z.0 (λ e. Allows (state_of zone z.1) e.0.seat e.0.action e.1))
    (λ i. (get_last run (step, answer) i, take-append_seam run ((step, answer) ∷ []) i)) (legal (length run))

module _ (zone : Zone) (p m : ℕ) where
  -- the groups that the CPU sees are those of the whole
  groups_seen : (run : Run) (a : State) → ShowsLocal zone run p a → has_group a.groups m ≡ has_group (state_of zone run).groups m
  groups_seen run a shows = ap (λ (s : State). has_group s.groups m) shows.sees

  -- the peak follows by what the CPU sees as by the whole
  follows_seen : (t : State) (run : Run) → ShowsLocal zone run p t → (action : Action) (answer : Answer) (x : ℕ)
      → peak_follows t action answer m x ≡ peak_follows (state_of zone run) action answer m x
  follows_seen t run shows (Grant g n) Granted x =
      let s = state_of zone run in
      ap (λ (k : State). cond (in_subtree k.groups m g) (max x (usage_of k m)) x) shows.sees
      ∙ ap (λ (u : ℕ). cond (in_subtree s.groups m g) (max x u) x) (usage_seen s p (sound_run zone run shows.legal) m)
  follows_seen t run shows (Make path) (Number n) x = refl
  follows_seen t run shows action answer x = refl

  -- a number that changes at own steps by its moves, and doesn't change at others' steps
  module _ (Tells : Run → ℕ → Type 0) (moves : Moves)
      (own_on : (run : Run) (a : State) (e : Step × Answer) (x : ℕ) → ShowsLocal zone run p a → IsLocalStep a p e.0.seat e.0.action e.1
      → Allows (state_of zone run) e.0.seat e.0.action e.1 → ShowsLocal zone (pushed run e.0 e.1) p (after a e.0.seat e.0.action e.1)
      → has_group (after a e.0.seat e.0.action e.1).groups m ≡ true → (has_group a.groups m ≡ true → Tells run x)
      → Tells (pushed run e.0 e.1) (moves a e x))
      (other_on : (run : Run) (a : State) (e : Step × Answer) (x : ℕ) → ShowsLocal zone run p a → ShowsLocal zone (pushed run e.0 e.1) p a
      → Allows (state_of zone run) e.0.seat e.0.action e.1 → is_still e.0.action e.1 ≡ true → has_group a.groups m ≡ true → Tells run x
      → Tells (pushed run e.0 e.1) x) where
    tells_on : (run : Run) (a : State) (mixed : Run) (b : State) (x : ℕ) → ShowsLocal zone run p a → IsLocalRun p a (own_steps p mixed) b
        → IsInterleaved zone run p mixed → has_group b.groups m ≡ true → (has_group a.groups m ≡ true → Tells run x)
        → Tells (run ++ mixed) (moved_along moves a (own_steps p mixed) x)
    tells_on run a [] b x shows leads mixes there told =
        subst (λ (r : Run). Tells r x) (sym (append-nil run)) (told (ap (λ (s : State). has_group s.groups m) leads ∙ there))
    tells_on run a (e ∷ mixed) b x shows leads mixes there told =
        let here : MayFollow p (state_of zone run) e.0.seat e.0.action e.1 =
        subst (λ (r : Run). MayFollow p (state_of zone r) e.0.seat e.0.action e.1) (append-nil run) (mixes zero) in
        let later : IsInterleaved zone (pushed run e.0 e.1) p mixed = λ k.
        subst (λ (r : Run). IfSome (slice_get mixed k) (λ d. MayFollow p (state_of zone r) d.0.seat d.0.action d.1))
        (sym (append_assoc run (e ∷ []) (take k mixed))) (mixes (suc k)) in
        subst (λ (r : Run). Tells r (moved_along moves a (own_steps p (e ∷ mixed)) x)) (append_assoc run (e ∷ []) mixed)
        (elim (cases_Bool (is_own p e.0.seat)) [
          | inl own ↦
              let parts : IsLocalRun p a (e ∷ own_steps p mixed) b =
              subst (λ (c : Bool). IsLocalRun p a (cond c (e ∷ own_steps p mixed) (own_steps p mixed)) b) own leads in
              let now : State = after a e.0.seat e.0.action e.1 in
              let seen : ShowsLocal zone (pushed run e.0 e.1) p now = own_step_is_legal zone run p a e.0 e.1 shows parts.0 (here.own own) in
              let ok : Allows (state_of zone run) e.0.seat e.0.action e.1 = last_allowed zone run e.0 e.1 seen.legal in
              subst (λ (c : Bool). Tells (pushed run e.0 e.1 ++ mixed) (moved_along moves a (cond c (e ∷ own_steps p mixed) (own_steps p mixed)) x)) (sym own)
              (tells_on (pushed run e.0 e.1) now mixed b (moves a e x) seen parts.1 later there
              (λ is. own_on run a e x shows parts.0 ok seen is told))
          | inr other ↦
              let rest : IsLocalRun p a (own_steps p mixed) b =
              subst (λ (c : Bool). IsLocalRun p a (cond c (e ∷ own_steps p mixed) (own_steps p mixed)) b) other leads in
              let who = not_own p e.0.seat other in
              let ok = here.other other in
              let seen : ShowsLocal zone (pushed run e.0 e.1) p a = other_step_is_hidden zone run p a e.0 e.1 shows (inl who) ok in
              subst (λ (c : Bool). Tells (pushed run e.0 e.1 ++ mixed) (moved_along moves a (cond c (e ∷ own_steps p mixed) (own_steps p mixed)) x)) (sym other)
              (tells_on (pushed run e.0 e.1) a mixed b x seen rest later there
              (λ is. other_on run a e x shows seen ok (other_still (state_of zone run) e.0.seat e.0.action e.1 who.0 ok) is (told is)))
        ])

  -- ---- a peak

  peak_own : (run : Run) (a : State) (e : Step × Answer) (x : ℕ) → ShowsLocal zone run p a → IsLocalStep a p e.0.seat e.0.action e.1
      → Allows (state_of zone run) e.0.seat e.0.action e.1 → ShowsLocal zone (pushed run e.0 e.1) p (after a e.0.seat e.0.action e.1)
      → has_group (after a e.0.seat e.0.action e.1).groups m ≡ true → (has_group a.groups m ≡ true → IsPeak zone run m x)
      → IsPeak zone (pushed run e.0 e.1) m (peak_follows (after a e.0.seat e.0.action e.1) e.0.action e.1 m x)
  peak_own run a e x shows step ok seen is told =
      let now : State = after a e.0.seat e.0.action e.1 in
      subst (IsPeak zone (pushed run e.0 e.1) m) (sym (follows_seen now (pushed run e.0 e.1) seen e.0.action e.1 x))
      (peaks_are_kept.step zone run e.0 e.1 shows.legal ok m x (sym (groups_seen (pushed run e.0 e.1) now seen) ∙ is)
      (λ was. told (groups_seen run a shows ∙ was)))

  peak_other : (run : Run) (a : State) (e : Step × Answer) (x : ℕ) → ShowsLocal zone run p a → ShowsLocal zone (pushed run e.0 e.1) p a
      → Allows (state_of zone run) e.0.seat e.0.action e.1 → is_still e.0.action e.1 ≡ true → has_group a.groups m ≡ true → IsPeak zone run m x
      → IsPeak zone (pushed run e.0 e.1) m x
  peak_other run a e x shows seen ok still is told =
      subst (IsPeak zone (pushed run e.0 e.1) m) (still_peak (state_of zone (pushed run e.0 e.1)) e.0.action e.1 m x still)
      (peaks_are_kept.step zone run e.0 e.1 shows.legal ok m x (sym (groups_seen (pushed run e.0 e.1) a seen) ∙ is) (λ was. told))

  -- ---- a count, which the law of the rules follows

  module _ (test : Test) (count : Run → ℕ) (law : (run : Run) (e : Step × Answer)
      → count (pushed run e.0 e.1) ≡ moves_count test m (state_of zone run) e (count run)) (stays : Stays (moves_count test m)) where
    count_own : (run : Run) (a : State) (e : Step × Answer) (x : ℕ) → ShowsLocal zone run p a → IsLocalStep a p e.0.seat e.0.action e.1
        → Allows (state_of zone run) e.0.seat e.0.action e.1 → ShowsLocal zone (pushed run e.0 e.1) p (after a e.0.seat e.0.action e.1)
        → has_group (after a e.0.seat e.0.action e.1).groups m ≡ true → (has_group a.groups m ≡ true → x ≡ count run)
        → moves_count test m a e x ≡ count (pushed run e.0 e.1)
    count_own run a e x shows step ok seen is told =
        let s = state_of zone run in
        ap (λ (k : State). moves_count test m k e x) shows.sees
        ∙ elim (cases_Bool (has_group a.groups m)) [
          | inl here ↦ ap (moves_count test m s e) (told here)
          | inr none ↦ count_begins test m s e x (count run) (only_made a e.0.seat e.0.action e.1 m none is)
        ]
        ∙ sym (law run e)

    count_other : (run : Run) (a : State) (e : Step × Answer) (x : ℕ) → ShowsLocal zone run p a → ShowsLocal zone (pushed run e.0 e.1) p a
        → Allows (state_of zone run) e.0.seat e.0.action e.1 → is_still e.0.action e.1 ≡ true → has_group a.groups m ≡ true → x ≡ count run
        → x ≡ count (pushed run e.0 e.1)
    count_other run a e x shows seen ok still is told =
        told ∙ sym (law run e ∙ stays (state_of zone run) e (count run) still)

-- ---- the law

pub ledgers_agree : LedgersAgree
ledgers_agree t run steps mixed before behind shows told makes mixes =
    let zone = zone_of_boot t in
    let p = lock_holder before in
    let a = local_of t before in
    let b = local_of t behind in
    let own : IsLocalRun p a (own_steps p mixed) b = subst (λ (r : Run). IsLocalRun p a r b) (sym mixes.own) makes.leads in
    let shown : ShowsLocal zone (run ++ mixed) p b = local_runs_interleave zone run p a mixed b shows own mixes.follows in
    let was : (m : ℕ) → has_group a.groups m ≡ true → has_group (state_of zone run).groups m ≡ true = λ m here. ap (λ (s : State). has_group s.groups m) (sym shows.sees) ∙ here in
    let is : (m : ℕ) → has_group (state_of zone (run ++ mixed)).groups m ≡ true → has_group b.groups m ≡ true = λ m here. ap (λ (s : State). has_group s.groups m) shown.sees ∙ here in
    let then : (m : ℕ) → has_group (state_of zone (run ++ mixed)).groups m ≡ true → ExistsAfter a steps m =
    λ m here. ap (λ (s : State). has_group s.groups m) (run_ends p a steps b makes.leads) ∙ is m here in
    record {
      peak = λ m there.
          subst (IsPeak zone (run ++ mixed) m) (ap (λ (r : Run). moved_along (moves_peak m) a r (peak_of before.ledger m)) mixes.own
          ∙ sym (makes.follows.peak m (then m there)))
          (tells_on zone p m (λ r x. IsPeak zone r m x) (moves_peak m) (peak_own zone p m) (peak_other zone p m)
          run a mixed b (peak_of before.ledger m) shows own mixes.follows (is m there) (λ here. told.peak m (was m here)));
      events = λ key m there.
          let test = is_noted_in_subtree key m in
          let law = λ (r : Run) (e : Step × Answer). (events_are_counted.step zone r e.0 e.1 key m).below in
          makes.follows.events key m (then m there)
          ∙ ap (λ (r : Run). moved_along (moves_count test m) a r (count_of (events_of before.ledger m) key)) (sym mixes.own)
          ∙ tells_on zone p m (λ r x. x ≡ events_in key zone r m) (moves_count test m)
          (count_own zone p m test (λ r. events_in key zone r m) law (below_stays key m)) (count_other zone p m test (λ r. events_in key zone r m) law (below_stays key m))
          run a mixed b (count_of (events_of before.ledger m) key) shows own mixes.follows (is m there) (λ here. told.events key m (was m here));
      events_local = λ key m there.
          let test = is_noted_at key m in
          let law = λ (r : Run) (e : Step × Answer). (events_are_counted.step zone r e.0 e.1 key m).local in
          makes.follows.events_local key m (then m there)
          ∙ ap (λ (r : Run). moved_along (moves_count test m) a r (count_of (events_local_of before.ledger m) key)) (sym mixes.own)
          ∙ tells_on zone p m (λ r x. x ≡ events_local_in key zone r m) (moves_count test m)
          (count_own zone p m test (λ r. events_local_in key zone r m) law (at_stays key m)) (count_other zone p m test (λ r. events_local_in key zone r m) law (at_stays key m))
          run a mixed b (count_of (events_local_of before.ledger m) key) shows own mixes.follows (is m there) (λ here. told.events_local key m (was m here));
    }
