-- Several steps by one load: their words end as they began.
use Rattle.std.proofs.Common.{[], ◌≡◌, ℕ, zero, suc, ◌+◌, ◌*◌, ◌<◌, ◌≤◌, ◌==◌, ◌&&◌, true, false, Bool, List, ◌∷◌, length, set, get_or-set_same, refl, ap, sym, ◌∙◌, subst, arith, inl, inr}
use Rattle.std.specs.Prelude.{◌⊎◌, ◌||◌, slice_index}
use Rattle.std.proofs.lemmas.Bool.{false≢true}
use Rattle.std.proofs.lemmas.List.{set-get_or}
use mathlib.Core.Option.{some}
use lib.ListN.{get_elem?}
use Rattle.atomic_table.specs.Table.{State as Board, keeps}
use Rattle.atomic_table.proofs.Lists.{set_again}
use Rattle.frame_word.specs.{mark}
use Rattle.stock_word.specs.Stock.{report_index}
use Rattle.step_rules.specs.declared.phase.Phase.{Phase}
use Rattle.step_rules.specs.declared.phase.Phase.TheVariants.{InZone, Lent, Head}
use Rattle.step_rules.specs.declared.phase.Stage.TheVariants.{BackAt, FreshAt}
use Rattle.step_rules.specs.declared.phase.Way.TheVariants.{OnList}
use Rattle.step_rules.specs.declared.step.Step.{Step}
use Rattle.step_rules.specs.declared.step.Action.TheVariants.{Absorb, Collect, PassBack, PassOut, Report, TakeIn}
use Rattle.step_rules.specs.declared.step.Answer.{Answer}
use Rattle.step_rules.specs.declared.step.Answer.TheVariants.{Done, Pages}
use Rattle.step_rules.specs.{Kind, has_as, is_free, is_live_phase, Part, Zone, front_of, is_cpu, live_references, is_legal, is_passable, Run}
use Rattle.step_rules.specs.{state_of, is_of_lock, zone_makes, cpu_makes}
use Rattle.step_rules.specs.Phases.{ListFrame, FreshFrame, BackFrame}
use Rattle.step_rules.specs.State.{State}
use Rattle.step_rules.proofs.CoverParts.{part_seen}
use Rattle.step_rules.proofs.Freeing.{zone_of_run}
use Rattle.step_rules.proofs.LegalTests.{pass_back_tests, pass_out_tests}
use Rattle.step_rules.proofs.SoundSteps.{below_frames, cpu_range}
use Rattle.boot_words.specs.Words.{Words}
use Rattle.boot_words.specs.{IsRunOf, with_report_word, word_in_phase, ChangesWords, frame_word_at, report_word_at, AreLegal, GrewInTurn, MakesInTurn}
use Rattle.boot_words.specs.{lend_run, take_back_run, HoldsLock, local_seen, frame_base, words_in, RunRule, run_rule, KnownPasts, KnownTable}
use Rattle.boot_words.specs.{IsHeld, IsHolder, cpu_past, local_by_pasts, own_past, zone_of_boot, MayChange}
use Rattle.boot_words.specs.declared.past.Past.{Past}
use Rattle.boot_words.proofs.Composing.{Midst, at_first, set_over, then_made}
use Rattle.boot_words.proofs.WordCounts.{none_live}
use Rattle.boot_words.proofs.Following.{stands_in}
use Rattle.boot_words.proofs.Parts.{frame_reads, words_set}
use Rattle.boot_words.proofs.StockSteps.{report_low, stock_is_at, stock_words_set}
use Rattle.boot_words.specs.declared.word.Word.TheVariants.{AlwaysZero}
use Rattle.boot_words.proofs.Booking.{IsNoFill}
use Rattle.boot_words.proofs.Fast.{Leaves}
use Rattle.boot_words.proofs.UnderLock.{Stands, legal_end, of_held, shows_end, stands_at, steps_on}

-- ---- one step after another
-- The first of these steps are made, and the rest is legal: the rule holds of the words, and the seat at `id` has the two pasts.
pub record Along (zone : Zone) (seats : List (List Past)) (id : ℕ) (z c : Past) (steps : Run) (words : List ℕ) (rest : Run) : Type 0 where
  pub zone_past : Past
  pub cpu_past : Past
  pub now : List (List Past)
  pub same : (w : List Past) → set now id w ≡ set seats id w
  pub stands : Stands zone words now id zone_past cpu_past
  pub midst : Midst zone z c steps zone_past cpu_past rest

pub begins : (zone : Zone) (s : Board (Unit {0}) (List Past)) (k : run_rule zone s) (id : ℕ) (z c : Past) (steps : Run) → get_elem? s.views id ≡ some (z ∷ c ∷ [])
    → HoldsLock zone z c (local_seen zone c) → AreLegal (local_seen zone c) steps → Along zone s.views id z c steps s.words steps
begins zone s k id z c steps at holds legal = record {
  zone_past = z;
  cpu_past = c;
  now = s.views;
  same = λ w. refl;
  stands = stands_at zone s k id z c at holds;
  midst = at_first zone z c steps holds legal;
}

pub goes_along : (zone : Zone) (seats : List (List Past)) (id : ℕ) (z c : Past) (steps : Run) (words : List ℕ) (e : Step × Answer) (rest : Run) (j x : ℕ)
    → Along zone seats id z c steps words (e ∷ rest) → (e.0.seat ≡ 0) ⊎ (e.0.seat ≡ c.number) → is_of_lock e.0.action ≡ false → IsNoFill e.0.action
    → ChangesWords zone (words_in zone words) e.0.seat e.0.action e.1 (words_in zone (set words j x)) → Along zone seats id z c steps (set words j x) rest
goes_along zone seats id z c steps words e rest j x a own unlocked none changes =
    let own_now : (e.0.seat ≡ 0) ⊎ (e.0.seat ≡ a.cpu_past.number) = elim own [
      | inl zeroth ↦ inl zeroth
      | inr is ↦ inr (is ∙ sym a.midst.number)
    ] in
    let r = steps_on zone words a.now id a.zone_past a.cpu_past a.stands j x e.0 e.1 own_now unlocked none a.midst.legal.0 changes in record {
      zone_past = r.zone_past;
      cpu_past = r.cpu_past;
      now = set a.now id (r.zone_past ∷ r.cpu_past ∷ []);
      same = λ w. set_over a.now id (r.zone_past ∷ r.cpu_past ∷ []) w ∙ a.same w;
      stands = r.stands;
      midst = then_made zone z c steps a.zone_past a.cpu_past r.zone_past r.cpu_past e rest a.midst r.grew;
    }

-- both pasts have grown by the steps
pub record MadeInTurn (zone : Zone) (z c : Past) (steps : Run) (later : List Past) : Type 0 where
  pub zone_past : Past
  pub cpu_past : Past
  pub later_is : later ≡ zone_past ∷ cpu_past ∷ []
  pub holds : HoldsLock zone zone_past cpu_past (local_seen zone cpu_past)
  pub grew : GrewInTurn zone z c steps zone_past cpu_past

-- all steps are made, and all words are as they were
pub ends : (zone : Zone) (s : Board (Unit {0}) (List Past)) (id : ℕ) (z c : Past) (steps : Run) (words : List ℕ) → Along zone s.views id z c steps words [] → words ≡ s.words
    → Leaves zone s id 0 (slice_index s.words 0) (MadeInTurn zone z c steps)
ends zone s id z c steps words a same =
    let pasts : List Past = a.zone_past ∷ a.cpu_past ∷ [] in
    let seats : a.now ≡ set s.views id pasts = sym (set_again a.now id pasts a.stands.at) ∙ a.same pasts in (
      pasts,
      keeps,
      tt,
      subst (λ (l : List ℕ × List (List Past)). RunRule zone l.0 l.1) (λ i. ((same ∙ sym (set-get_or s.words 0 0)) i, seats i)) a.stands.rule,
      (
        refl,
        record {
          zone_past = a.zone_past;
          cpu_past = a.cpu_past;
          later_is = refl;
          holds = a.midst.holds;
          grew = a.midst.on a.zone_past a.cpu_past (refl, refl);
        },
      ),
    )

pub made_in_turn : (t : KnownTable) (s : KnownPasts) (steps : Run) (s' : KnownPasts) → IsHeld t s → s'.table ≡ s.table
    → MadeInTurn (zone_of_boot t) (own_past s) (cpu_past s) steps s'.pasts → MakesInTurn t s steps s'
made_in_turn t s steps s' is table m =
    subst (λ (l : List Past). MakesInTurn t s steps (record { table = s'.table; pasts = l })) (sym m.later_is)
    (record { held = record { table_is = table ∙ is.table_is; both = refl; holds = m.holds }; grew = m.grew })

-- ---- the word of a frame that nobody can get
-- a frame in this phase is in a hand
abbrev IsHeldFrame : Phase → Type 0
IsHeldFrame x = ((live : ℕ) → word_in_phase x live ≡ live) × (is_live_phase x ≡ false)

zero_word : (zone : Zone) (words : Words) (run : Run) (f : ℕ) → IsRunOf zone words run → f < zone.frames → IsHeldFrame ((state_of zone run).phases f) → frame_word_at words f ≡ 0
zero_word zone words run f is inside in_hand =
    let s = state_of zone run in
    let stands = stands_in zone words run is in
    stands.frames.frame f (subst (λ z. f < z.frames) (sym (zone_of_run zone run)) inside) ∙ in_hand.0 (live_references s f) ∙ none_live s f stands.sound in_hand.1

free_held : (x : Phase) → is_free x ≡ true → IsHeldFrame x
free_held InZone e = (λ live. refl, refl)
free_held x e = absurd (false≢true e)

own_held : (kind : Kind) (cpu : ℕ) (x : Phase) → has_as kind cpu x ≡ true → IsHeldFrame x
own_held ListFrame cpu (Lent other OnList) e = (λ live. refl, refl)
own_held FreshFrame cpu (Head unit (FreshAt other)) e = (λ live. refl, refl)
own_held BackFrame cpu (Head unit (BackAt other)) e = (λ live. refl, refl)
own_held kind cpu x e = absurd (false≢true e)

passable_held : (s : State) (cpu f : ℕ) → is_passable s cpu f ≡ true → IsHeldFrame (s.phases f)
passable_held s cpu f e =
    by_list (has_as ListFrame cpu (s.phases f)) (front_of (s.parts cpu).list == f) (has_as FreshFrame cpu (s.phases f)) (has_as BackFrame cpu (s.phases f)) refl refl refl e
  where
    by_list : (a b d g : Bool) → has_as ListFrame cpu (s.phases f) ≡ a → has_as FreshFrame cpu (s.phases f) ≡ d → has_as BackFrame cpu (s.phases f) ≡ g
        → (((a && b) || d) || g) ≡ true → IsHeldFrame (s.phases f)
    by_list true b d g la lf lb h = own_held ListFrame cpu (s.phases f) la
    by_list false b true g la lf lb h = own_held FreshFrame cpu (s.phases f) lf
    by_list false b false true la lf lb h = own_held BackFrame cpu (s.phases f) lb
    by_list false b false false la lf lb h = absurd (false≢true h)

-- ---- lend
pub may_lend : (zone : Zone) (z c : Past) (f : ℕ) → HoldsLock zone z c (local_seen zone c) → AreLegal (local_seen zone c) (lend_run c.number f)
    → MayChange zone (z ∷ c ∷ []) AlwaysZero (λ n. n) (λ found. MadeInTurn zone z c (lend_run c.number f))
may_lend zone z c f holds legal id b k homes at small =
    let q = c.number in
    let j = frame_base zone + f in
    let steps = lend_run q f in
    let tests = pass_out_tests (state_of zone k.run) 0 f q
    (legal_end zone b.words b.views id z c (stands_at zone b k id z c at holds) (record { seat = 0; action = PassOut f q }) (inl refl) refl legal.0) in
    let none : slice_index b.words j ≡ 0 =
    sym (frame_reads zone f b.words)
    ∙ zero_word zone (words_in zone b.words) k.run f k.is (subst (λ y. f < y.frames) (zone_of_run zone k.run) (below_frames (state_of zone k.run).zone f tests.1)) (free_held _ tests.3) in
    let sent = set b.words j (mark q) in
    let one = goes_along zone b.views id z c steps b.words (zone_makes (PassOut f q) Done) (cpu_makes q (TakeIn f) Done ∷ []) j (mark q)
    (begins zone b k id z c steps at holds legal) (inl refl) refl tt (words_set zone f (mark q) b.words) in
    let two = goes_along zone b.views id z c steps sent (cpu_makes q (TakeIn f) Done) [] j 0 one (inr refl) refl tt (words_set zone f 0 sent) in
    ends zone b id z c steps (set sent j 0) two (set_over b.words j (mark q) 0 ∙ ap (set b.words j) (sym none) ∙ set-get_or b.words j 0)

pub lends : (t : KnownTable) (s : KnownPasts) (cpu f : ℕ) → IsHeld t s → IsHolder s cpu → AreLegal (local_by_pasts t s) (lend_run cpu f)
    → MayChange (zone_of_boot t) s.pasts AlwaysZero (λ n. n) (λ found. MadeInTurn (zone_of_boot t) (own_past s) (cpu_past s) (lend_run cpu f))
lends t s cpu f is holder legal =
    of_held t s AlwaysZero (λ n. n) (λ found. MadeInTurn (zone_of_boot t) (own_past s) (cpu_past s) (lend_run cpu f)) is
    (subst (λ q. MayChange (zone_of_boot t) (own_past s ∷ cpu_past s ∷ []) AlwaysZero (λ n. n) (λ found. MadeInTurn (zone_of_boot t) (own_past s) (cpu_past s) (lend_run q f))) (sym holder)
    (may_lend (zone_of_boot t) (own_past s) (cpu_past s) f is.holds (subst (λ q. AreLegal (local_by_pasts t s) (lend_run q f)) holder legal)))

-- ---- take_back
set_swap : {A : Type 0} (xs : List A) (i j : ℕ) (x y : A) → ¬ (i ≡ j) → set (set xs i x) j y ≡ set (set xs j y) i x
set_swap [] i j x y ne = refl
set_swap (z ∷ xs) zero zero x y ne = absurd (ne refl)
set_swap (z ∷ xs) zero (suc j) x y ne = refl
set_swap (z ∷ xs) (suc i) zero x y ne = refl
set_swap (z ∷ xs) (suc i) (suc j) x y ne = ap (λ l. z ∷ l) (set_swap xs i j x y (λ e. ne (ap suc e)))

-- a word that was 0 is 0 again
zero_again : (words : List ℕ) (j x : ℕ) → slice_index words j ≡ 0 → set (set words j x) j 0 ≡ words
zero_again words j x none = set_over words j x 0 ∙ ap (set words j) (sym none) ∙ set-get_or words j 0

both_again : (words : List ℕ) (j r x y : ℕ) → ¬ (r ≡ j) → slice_index words j ≡ 0 → slice_index words r ≡ 0 → set (set (set (set words j x) r y) j 0) r 0 ≡ words
both_again words j r x y apart a b =
    ap (λ (l : List ℕ). set l r 0) (set_swap (set words j x) r j y 0 apart ∙ ap (λ (l : List ℕ). set l r y) (zero_again words j x a)) ∙ zero_again words r y b

-- the report word is none of the frames'
report_stays : (zone : Zone) (words : List ℕ) (f x cpu : ℕ) → report_word_at (words_in zone (set words (frame_base zone + f) x)) cpu ≡ report_word_at (words_in zone words) cpu
report_stays zone words f x cpu = ap (λ w. report_word_at w cpu) (words_set zone f x words)

-- what the table's words say of the CPU that holds the lock and passes the frame back
record FrameAtCpu (zone : Zone) (words : List ℕ) (cpu f : ℕ) : Type 0 where
  pub low : 1 ≤ cpu
  pub high : cpu ≤ zone.cpus
  pub frame : slice_index words (frame_base zone + f) ≡ 0
  pub report : report_word_at (words_in zone words) cpu ≡ 0
  pub wide : report_index cpu < length (words_in zone words).stocks

wide_row : (cpu cpus n : ℕ) → cpu ≤ cpus → 16 * (cpus + 1) ≤ n → report_index cpu < n
wide_row cpu cpus n high wide = omega (arith, high, wide)

frame_at_cpu : (zone : Zone) (words : List ℕ) (seats : List (List Past)) (id : ℕ) (z c : Past) (f : ℕ) (st : Stands zone words seats id z c)
    → is_legal (local_seen zone c) c.number (PassBack f) ≡ true → ((local_seen zone c).parts c.number).reported ≡ 0 → FrameAtCpu zone words c.number f
frame_at_cpu zone words seats id z c f st legal absorbed =
    let q = c.number in
    let run = st.rule.run in
    let is = st.rule.is in
    let s = state_of zone run in
    let same = zone_of_run zone run in
    let tests = pass_back_tests s q f (legal_end zone words seats id z c st (record { seat = q; action = PassBack f }) (inr refl) refl legal) in
    let range = cpu_range zone q (subst (λ y. is_cpu y q ≡ true) same tests.0) in
    let shows = shows_end zone words seats id z c st in
    let none : (s.parts q).reported ≡ 0 =
    sym (part_seen (λ (p : Part). p.reported) (λ p. refl) q s.parts q) ∙ sym (ap (λ (l : State). (l.parts q).reported) shows.sees) ∙ absorbed in
    record {
      low = range.0;
      high = range.1;
      frame = sym (frame_reads zone f words)
          ∙ zero_word zone (words_in zone words) run f is (subst (λ y. f < y.frames) same (below_frames s.zone f tests.1)) (passable_held s q f tests.3);
      report = is.stocks.report q range.0 (subst (λ y. q ≤ y.cpus) (sym same) range.1) ∙ none;
      wide = wide_row q zone.cpus (length (words_in zone words).stocks) range.1
          (subst (λ y. 16 * (y.cpus + 1) ≤ length (words_in zone words).stocks) same is.stocks.wide);
    }

pub may_take_back : (zone : Zone) (z c : Past) (f : ℕ) → HoldsLock zone z c (local_seen zone c) → AreLegal (local_seen zone c) (take_back_run c.number f)
    → ((local_seen zone c).parts c.number).reported ≡ 0 → MayChange zone (z ∷ c ∷ []) AlwaysZero (λ n. n) (λ found. MadeInTurn zone z c (take_back_run c.number f))
may_take_back zone z c f holds legal absorbed id b k homes at small =
    let q = c.number in
    let j = frame_base zone + f in
    let r = report_index q in
    let steps = take_back_run q f in
    let found = frame_at_cpu zone b.words b.views id z c f (stands_at zone b k id z c at holds) legal.0 absorbed in
    let low = report_low zone q found.high in
    let w1 = set b.words j (mark q) in
    let w2 = set w1 r 1 in
    let w3 = set w2 j 0 in
    let report1 : report_word_at (words_in zone w1) q ≡ 0 = report_stays zone b.words f (mark q) q ∙ found.report in
    let wide1 : r < length (words_in zone w1).stocks = subst (λ (w : Words). r < length w.stocks) (sym (words_set zone f (mark q) b.words)) found.wide in
    let report3 : report_word_at (words_in zone w3) q ≡ 1 =
    report_stays zone w2 f 0 q ∙ ap (λ w. report_word_at w q) (stock_words_set zone r 1 low w1) ∙ get_or-set_same (words_in zone w1).stocks r 1 0 wide1 in
    let one = goes_along zone b.views id z c steps b.words (cpu_makes q (PassBack f) Done) _ j (mark q)
    (begins zone b k id z c steps at holds legal) (inr refl) refl tt (words_set zone f (mark q) b.words) in
    let two = goes_along zone b.views id z c steps w1 (cpu_makes q (Report 1) Done) _ r 1 one (inr refl) refl tt
    (stock_words_set zone r 1 low w1 ∙ ap (with_report_word (words_in zone w1) q) (let e : 1 ≡ report_word_at (words_in zone w1) q + 1 = omega (arith, report1) in e)) in
    let three = goes_along zone b.views id z c steps w2 (zone_makes (Collect f q) Done) _ j 0 two (inl refl) refl tt (words_set zone f 0 w2) in
    let four = goes_along zone b.views id z c steps w3 (record { seat = 0; action = Absorb q }, Pages 1) [] r 0 three (inl refl) refl tt
    (sym report3, stock_words_set zone r 0 low w3) in
    ends zone b id z c steps (set w3 r 0) four
    (both_again b.words j r (mark q) 1 (λ e. absurd (omega (arith, e, low))) found.frame (sym ((stock_is_at zone r low).reads b.words) ∙ found.report))

pub takes_back : (t : KnownTable) (s : KnownPasts) (cpu f : ℕ) → IsHeld t s → IsHolder s cpu → AreLegal (local_by_pasts t s) (take_back_run cpu f)
    → ((local_by_pasts t s).parts cpu).reported ≡ 0
    → MayChange (zone_of_boot t) s.pasts AlwaysZero (λ n. n) (λ found. MadeInTurn (zone_of_boot t) (own_past s) (cpu_past s) (take_back_run cpu f))
takes_back t s cpu f is holder legal absorbed =
    of_held t s AlwaysZero (λ n. n) (λ found. MadeInTurn (zone_of_boot t) (own_past s) (cpu_past s) (take_back_run cpu f)) is
    (subst (λ q. MayChange (zone_of_boot t) (own_past s ∷ cpu_past s ∷ []) AlwaysZero (λ n. n) (λ found. MadeInTurn (zone_of_boot t) (own_past s) (cpu_past s) (take_back_run q f))) (sym holder)
    (may_take_back (zone_of_boot t) (own_past s) (cpu_past s) f is.holds (subst (λ q. AreLegal (local_by_pasts t s) (take_back_run q f)) holder legal)
    (subst (λ q. ((local_by_pasts t s).parts q).reported ≡ 0) holder absorbed)))
