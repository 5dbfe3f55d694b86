-- Steps under the lock, by the seat that has the zone's past and that of the lock's holder.
use Rattle.std.proofs.Common.{[], ◌≡◌, ℕ, zero, suc, true, false, List, ◌∷◌, ◌++◌, set, refl, sym, ◌∙◌, subst}
use Rattle.std.specs.Prelude.{◌⊎◌, slice_index}
use Rattle.std.proofs.lemmas.List.{set-get_or}
use mathlib.Core.Option.{some, some-ne-none}
use lib.ListN.{get_elem?}
use Rattle.atomic_table.specs.Table.{State as Board, keeps}
use Rattle.step_rules.specs.declared.step.Step.{Step}
use Rattle.step_rules.specs.declared.step.Action.{Action}
use Rattle.step_rules.specs.declared.step.Action.TheVariants.{Fill}
use Rattle.step_rules.specs.declared.step.Answer.{Answer}
use Rattle.step_rules.specs.{Zone, Allows, is_legal, after, state_of, ShowsLocal, is_of_lock}
use Rattle.boot_words.specs.{OthersFollow, IsRunOf, ChangesWords, IsPlain, GrewUnderLock, HoldsLock, local_seen, AllOf, words_in, BeginsRun, RunRule}
use Rattle.boot_words.specs.{run_rule, KnownPasts, IsHeld, MakesStep, cpu_past, own_past, zone_of_boot, MayChange, KnownTable}
use Rattle.boot_words.specs.declared.past.Past.{Past}
use Rattle.boot_words.proofs.Grown.{grown}
use Rattle.boot_words.proofs.Plain.{plain_steps_keep_words}
use Rattle.boot_words.proofs.Each.{all_at}
use Rattle.boot_words.proofs.Stepping.{words_follow}
use Rattle.boot_words.proofs.HolderSteps.{legal_now, next_holds, shows_now}
use Rattle.boot_words.specs.declared.word.Word.{Word}
use Rattle.boot_words.proofs.Booking.{AreSmall, IsNoFill, small_step}
use Rattle.boot_words.proofs.Fast.{Leaves}
use Rattle.boot_words.proofs.Growing.{IsOnlyHolder, notes_both, one_holder}

-- by the rule both pasts of a seat are beginnings of the run
pub both_begin : (zone : Zone) (words : List ℕ) (seats : List (List Past)) (k : RunRule zone words seats) (id : ℕ) (z c : Past) → get_elem? seats id ≡ some (z ∷ c ∷ [])
    → OthersFollow z.number z.seen k.run × OthersFollow c.number c.seen k.run
both_begin zone words seats k id z c at = let all = all_at (AllOf (BeginsRun zone k.run)) seats id (z ∷ c ∷ []) at k.fits in (all.0.goes, all.1.0.goes)

-- The rule holds, and a seat has the zone's past and that of the CPU which holds the lock.
pub record Stands (zone : Zone) (words : List ℕ) (seats : List (List Past)) (id : ℕ) (z c : Past) : Type 0 where
  pub rule : RunRule zone words seats
  pub at : get_elem? seats id ≡ some (z ∷ c ∷ [])
  pub holds : HoldsLock zone z c (local_seen zone c)

module _ (zone : Zone) (words : List ℕ) (seats : List (List Past)) (id : ℕ) (z c : Past) (st : Stands zone words seats id z c) where
  pub fits_both : OthersFollow z.number z.seen st.rule.run × OthersFollow c.number c.seen st.rule.run
  fits_both = both_begin zone words seats st.rule id z c st.at

  -- what the holder sees it sees at the end of the run
  pub shows_end : ShowsLocal zone st.rule.run c.number (local_seen zone c)
  shows_end = shows_now zone z c (local_seen zone c) st.rule.run st.holds fits_both.0 fits_both.1 st.rule.is.legal

  pub legal_end : (step : Step) → (step.seat ≡ 0) ⊎ (step.seat ≡ c.number) → is_of_lock step.action ≡ false → is_legal (local_seen zone c) step.seat step.action ≡ true
      → is_legal (state_of zone st.rule.run) step.seat step.action ≡ true
  legal_end step own unlocked legal = legal_now zone st.rule.run c.number (local_seen zone c) step shows_end own unlocked legal

  pub only_holder : IsOnlyHolder zone st.rule.run c.number
  only_holder q holds = one_holder (state_of zone st.rule.run).hold c.number q shows_end.holds holds

set_there : {A : Type 0} (xs : List A) (i : ℕ) (x y : A) → get_elem? xs i ≡ some x → get_elem? (set xs i y) i ≡ some y
set_there [] i x y at = absurd (some-ne-none x (sym at))
set_there (z ∷ xs) zero x y at = refl
set_there (z ∷ xs) (suc i) x y at = set_there xs i x y at

-- both pasts have grown by the step, and the rule holds of the words that it leaves
pub record StepsOn (zone : Zone) (words : List ℕ) (seats : List (List Past)) (id : ℕ) (z c : Past) (made : Step × Answer) : Type 0 where
  pub zone_past : Past
  pub cpu_past : Past
  pub stands : Stands zone words (set seats id (zone_past ∷ cpu_past ∷ [])) id zone_past cpu_past
  pub grew : GrewUnderLock zone z c made zone_past cpu_past

-- the run grows by a step that is legal in what the holder sees, and whose answer the words decide
pub steps_small : (zone : Zone) (words : List ℕ) (seats : List (List Past)) (id : ℕ) (z c : Past) (st : Stands zone words seats id z c) (j x : ℕ) (step : Step) (answer : Answer)
    → (step.seat ≡ 0) ⊎ (step.seat ≡ c.number) → is_of_lock step.action ≡ false → is_legal (local_seen zone c) step.seat step.action ≡ true
    → ChangesWords zone (words_in zone words) step.seat step.action answer (words_in zone (set words j x))
    → AreSmall (after (state_of zone st.rule.run) step.seat step.action answer)
    → StepsOn zone (set words j x) seats id z c (step, answer)
steps_small zone words seats id z c st j x step answer own unlocked legal changes small =
    let fit = fits_both zone words seats id z c st in
    let now = words_follow zone (words_in zone words) (words_in zone (set words j x)) st.rule.run step answer st.rule.is
    (legal_end zone words seats id z c st step own unlocked legal) changes in
    let next = next_holds zone st.rule.run z c (local_seen zone c) step answer st.holds fit.0 fit.1 (shows_end zone words seats id z c st) own unlocked now.legal in
    let zone_past = grown z fit.0.rest (step, answer) in
    let cpu_past = grown c fit.1.rest (step, answer) in record {
      zone_past = zone_past;
      cpu_past = cpu_past;
      stands = record {
        rule = notes_both zone words seats st.rule id j x z c step answer fit.0 fit.1 st.at st.holds.zone_is own (only_holder zone words seats id z c st) small now;
        at = set_there seats id (z ∷ c ∷ []) (zone_past ∷ cpu_past ∷ []) st.at;
        holds = next.holds;
      };
      grew = record {
        zone_grew = record { between = fit.0.rest; others = fit.0.others; number = refl; seen = refl };
        cpu_grew = record { between = fit.1.rest; others = fit.1.others; number = refl; seen = refl };
        holds = next.holds;
        local_is = next.local_is;
      };
    }

-- for any step but a fill
pub steps_on : (zone : Zone) (words : List ℕ) (seats : List (List Past)) (id : ℕ) (z c : Past) (st : Stands zone words seats id z c) (j x : ℕ) (step : Step) (answer : Answer)
    → (step.seat ≡ 0) ⊎ (step.seat ≡ c.number) → is_of_lock step.action ≡ false → IsNoFill step.action → is_legal (local_seen zone c) step.seat step.action ≡ true
    → ChangesWords zone (words_in zone words) step.seat step.action answer (words_in zone (set words j x))
    → StepsOn zone (set words j x) seats id z c (step, answer)
steps_on zone words seats id z c st j x step answer own unlocked none legal changes =
    steps_small zone words seats id z c st j x step answer own unlocked legal changes (small_step (state_of zone st.rule.run) step.seat step.action answer none st.rule.small)

-- ---- one step by one access
-- the seat's two pasts have grown by the step
pub record MadeHeld (zone : Zone) (z c : Past) (step : Step) (answer : Answer) (later : List Past) : Type 0 where
  pub zone_past : Past
  pub cpu_past : Past
  pub later_is : later ≡ zone_past ∷ cpu_past ∷ []
  pub grew : GrewUnderLock zone z c (step, answer) zone_past cpu_past

abbrev pub stands_at : (zone : Zone) (s : Board (Unit {0}) (List Past)) (k : run_rule zone s) (id : ℕ) (z c : Past) → get_elem? s.views id ≡ some (z ∷ c ∷ [])
    → HoldsLock zone z c (local_seen zone c) → Stands zone s.words s.views id z c
stands_at zone s k id z c at holds = record { rule = k; at = at; holds = holds }

pub by_access : (zone : Zone) (s : Board (Unit {0}) (List Past)) (id j x : ℕ) (z c : Past) (step : Step) (answer : Answer) → StepsOn zone (set s.words j x) s.views id z c (step, answer)
    → Leaves zone s id j x (MadeHeld zone z c step answer)
by_access zone s id j x z c step answer r = (
  r.zone_past ∷ r.cpu_past ∷ [],
  keeps,
  tt,
  r.stands.rule,
  (refl, record { zone_past = r.zone_past; cpu_past = r.cpu_past; later_is = refl; grew = r.grew }),
)

pub held_makes_small : (zone : Zone) (s : Board (Unit {0}) (List Past)) (k : run_rule zone s) (id j x : ℕ) (z c : Past) (step : Step) (answer : Answer)
    → get_elem? s.views id ≡ some (z ∷ c ∷ []) → HoldsLock zone z c (local_seen zone c) → (step.seat ≡ 0) ⊎ (step.seat ≡ c.number)
    → is_of_lock step.action ≡ false → is_legal (local_seen zone c) step.seat step.action ≡ true
    → ChangesWords zone (words_in zone s.words) step.seat step.action answer (words_in zone (set s.words j x))
    → AreSmall (after (state_of zone k.run) step.seat step.action answer) → Leaves zone s id j x (MadeHeld zone z c step answer)
held_makes_small zone s k id j x z c step answer at holds own unlocked legal changes small =
    by_access zone s id j x z c step answer
    (steps_small zone s.words s.views id z c (stands_at zone s k id z c at holds) j x step answer own unlocked legal changes small)

pub held_makes : (zone : Zone) (s : Board (Unit {0}) (List Past)) (k : run_rule zone s) (id j x : ℕ) (z c : Past) (step : Step) (answer : Answer)
    → get_elem? s.views id ≡ some (z ∷ c ∷ []) → HoldsLock zone z c (local_seen zone c) → (step.seat ≡ 0) ⊎ (step.seat ≡ c.number)
    → is_of_lock step.action ≡ false → IsNoFill step.action → is_legal (local_seen zone c) step.seat step.action ≡ true
    → ChangesWords zone (words_in zone s.words) step.seat step.action answer (words_in zone (set s.words j x))
    → Leaves zone s id j x (MadeHeld zone z c step answer)
held_makes zone s k id j x z c step answer at holds own unlocked none legal changes =
    by_access zone s id j x z c step answer
    (steps_on zone s.words s.views id z c (stands_at zone s k id z c at holds) j x step answer own unlocked none legal changes)

-- the seat after a step, as contracts see it
pub held_made : (t : KnownTable) (s : KnownPasts) (step : Step) (answer : Answer) (s' : KnownPasts) → IsHeld t s → s'.table ≡ s.table
    → MadeHeld (zone_of_boot t) (own_past s) (cpu_past s) step answer s'.pasts → MakesStep t s step.seat step.action answer s'
held_made t s step answer s' is table m =
    subst (λ (l : List Past). MakesStep t s step.seat step.action answer (record { table = s'.table; pasts = l })) (sym m.later_is) (record {
      zone_grew = m.grew.zone_grew;
      cpu_grew = m.grew.cpu_grew;
      held = record { table_is = table ∙ is.table_is; both = refl; holds = m.grew.holds };
      local_is = m.grew.local_is;
    })

-- the holder's seat in contracts, as the rule sees it
pub of_held : (t : KnownTable) (s : KnownPasts) (word : Word) (change : ℕ → ℕ) (post : ℕ → List Past → Type 0) → IsHeld t s
    → MayChange (zone_of_boot t) (own_past s ∷ cpu_past s ∷ []) word change post → MayChange (zone_of_boot t) s.pasts word change post
of_held t s word change post is may = subst (λ (l : List Past). MayChange (zone_of_boot t) l word change post) (sym is.both) may

-- ---- steps that no word is of
plain_no_fill : (action : Action) → IsPlain action → IsNoFill action
plain_no_fill (Fill cpu g n) plain = absurd plain
plain_no_fill action plain = tt

-- Such a step is made by a load of any word, and both pasts note it.
pub plain_step : (zone : Zone) (s : Board (Unit {0}) (List Past)) (k : run_rule zone s) (id j : ℕ) (z c : Past) (step : Step) (answer : Answer)
    → z.number ≡ 0 → (step.seat ≡ 0) ⊎ (step.seat ≡ c.number) → get_elem? s.views id ≡ some (z ∷ c ∷ []) → IsOnlyHolder zone k.run c.number
    → (zone_fits : OthersFollow z.number z.seen k.run) → (fits : OthersFollow c.number c.seen k.run)
    → IsPlain step.action → Allows (state_of zone k.run) step.seat step.action answer
    → RunRule zone (set s.words j (slice_index s.words j)) (set s.views id (grown z zone_fits.rest (step, answer) ∷ grown c fits.rest (step, answer) ∷ []))
plain_step zone s k id j z c step answer zone_is own at holder zone_fits fits plain ok =
    notes_both zone s.words s.views k id j (slice_index s.words j) z c step answer zone_fits fits at zone_is own holder
    (small_step (state_of zone k.run) step.seat step.action answer (plain_no_fill step.action plain) k.small)
    (subst (λ (l : List ℕ). IsRunOf zone (words_in zone l) (k.run ++ (step, answer) ∷ [])) (sym (set-get_or s.words j 0))
    (plain_steps_keep_words zone (words_in zone s.words) k.run step answer k.is plain ok))
