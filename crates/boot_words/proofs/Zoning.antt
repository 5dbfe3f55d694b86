-- From freeze, unfreeze and fill by one access to their contracts.
use Rattle.std.proofs.Common.{Bool, true, false, cond, ◌≡◌, ℕ, eqb, ◌+◌, ◌<◌, ◌≤◌, ◌==◌, List, set, refl, ap, sym, ◌∙◌, subst, inl, eq-eqb}
use Rattle.std.specs.Prelude.{slice_index}
use Rattle.std.proofs.lemmas.Bool.{cond-false, cond-true, ne_eqb}
use Rattle.std.proofs.lemmas.List.{set-get_or}
use prog.Atomic.{either}
use Rattle.atomic_table.proofs.Lists.{exchanged}
use Rattle.stock_word.specs.declared.stock.Stock.TheVariants.{HeldBy}
use Rattle.stock_word.specs.{HasWord, word_of, stock_index}
use Rattle.step_rules.specs.declared.step.Action.TheVariants.{Fill, Freeze, Unfreeze}
use Rattle.step_rules.specs.declared.step.Answer.TheVariants.{Done, Missed}
use Rattle.step_rules.specs.State.{Part, State, Zone, is_frame}
use Rattle.step_rules.specs.After.{state_of}
use Rattle.step_rules.proofs.Freeing.{zone_of_run}
use Rattle.step_rules.proofs.LegalTests.{freeze_tests, unfreeze_tests}
use Rattle.step_rules.proofs.SoundSteps.{below_frames}
use Rattle.boot_words.specs.Words.{Words}
use Rattle.boot_words.specs.{with_frame_word, ChangesWords, frame_word_at, freeze_answer, local_seen, frame_base, words_in, KnownPasts, IsHeld}
use Rattle.boot_words.specs.{MakesStep, MayMake, cpu_past, freeze_said, local_by_pasts, own_past, zone_of_boot, MayChange, KnownTable}
use Rattle.boot_words.specs.declared.past.Past.{Past}
use Rattle.boot_words.proofs.Parts.{frame_reads, words_set}
use Rattle.boot_words.proofs.StockSteps.{stock_low, stock_words_set}
use Rattle.boot_words.specs.declared.word.Word.TheVariants.{OfFrame, StockOf}
use Rattle.step_rules.proofs.CoverParts.{part_seen}
use Rattle.boot_words.proofs.Booking.{small_fill}
use Rattle.boot_words.proofs.UnderLock.{MadeHeld, held_made, held_makes, held_makes_small, of_held, shows_end, stands_at}

freeze_changes : (zone : Zone) (words : Words) (seat f count n : ℕ) → frame_word_at words f ≡ n
    → ChangesWords zone words seat (Freeze f count) (freeze_answer count n) (with_frame_word words f (either (eqb n count) 0 n))
freeze_changes zone words seat f count n is =
    let F : ℕ → Type 0 = λ word. ChangesWords zone words seat (Freeze f count) (freeze_answer count n) (with_frame_word words f word) in
    exchanged n count 0 F
    (λ hit. subst (λ a. ChangesWords zone words seat (Freeze f count) a (with_frame_word words f 0)) (sym (cond-true (n == count) Done Missed (eq-eqb n count hit)))
    (is ∙ hit, refl))
    (λ miss. subst (λ a. ChangesWords zone words seat (Freeze f count) a (with_frame_word words f n)) (sym (cond-false (n == count) Done Missed (ne_eqb n count miss)))
    ((λ e. miss (sym is ∙ e)), (λ i. record words { frames = (ap (λ m. set words.frames f m) (sym is) ∙ set-get_or words.frames f 0) i })))

abbrev pub freezes_post : Zone → Past → Past → ℕ → ℕ → ℕ → List Past → Type 0
freezes_post zone z c f count found = MadeHeld zone z c (record { seat = 0; action = Freeze f count }) (freeze_answer count found)

pub freezes : (t : KnownTable) (s : KnownPasts) (f count : ℕ) → IsHeld t s → MayMake t s 0 (Freeze f count)
    → MayChange (zone_of_boot t) s.pasts (OfFrame f) (λ n. either (n == count) 0 n) (freezes_post (zone_of_boot t) (own_past s) (cpu_past s) f count)
freezes t s f count is legal =
    let zone = zone_of_boot t in
    let j = frame_base zone + f in
    of_held t s (OfFrame f) (λ n. either (n == count) 0 n) (freezes_post zone (own_past s) (cpu_past s) f count) is
    (λ id b k homes at small.
    let n = slice_index b.words j in
    held_makes zone b k id j (either (eqb n count) 0 n) (own_past s) (cpu_past s) (record { seat = 0; action = Freeze f count }) (freeze_answer count n) at is.holds (inl refl) refl tt legal
    (subst (ChangesWords zone (words_in zone b.words) 0 (Freeze f count) (freeze_answer count n)) (sym (words_set zone f (either (eqb n count) 0 n) b.words))
    (freeze_changes zone (words_in zone b.words) 0 f count n (frame_reads zone f b.words))))

abbrev pub unfreezes_post : Zone → Past → Past → ℕ → ℕ → ℕ → List Past → Type 0
unfreezes_post zone z c f count found = MadeHeld zone z c (record { seat = 0; action = Unfreeze f count }) Done

pub unfreezes : (t : KnownTable) (s : KnownPasts) (f count : ℕ) → IsHeld t s → MayMake t s 0 (Unfreeze f count)
    → MayChange (zone_of_boot t) s.pasts (OfFrame f) (λ n. count) (λ found. unfreezes_post (zone_of_boot t) (own_past s) (cpu_past s) f count count)
unfreezes t s f count is legal =
    let zone = zone_of_boot t in
    of_held t s (OfFrame f) (λ n. count) (λ found. unfreezes_post zone (own_past s) (cpu_past s) f count count) is
    (λ id b k homes at small.
    held_makes zone b k id (frame_base zone + f) count (own_past s) (cpu_past s) (record { seat = 0; action = Unfreeze f count }) Done at is.holds (inl refl) refl tt legal
    (words_set zone f count b.words))

abbrev pub fills_post : Zone → Past → Past → ℕ → ℕ → ℕ → List Past → Type 0
fills_post zone z c cpu g n = MadeHeld zone z c (record { seat = 0; action = Fill cpu g n }) Done

pub fills : (t : KnownTable) (s : KnownPasts) (cpu g n : ℕ) → IsHeld t s → cpu ≤ t.cpus → HasWord (HeldBy g n) → ((local_by_pasts t s).parts cpu).book ≡ 0 → MayMake t s 0 (Fill cpu g n)
    → MayChange (zone_of_boot t) s.pasts (StockOf cpu) (λ x. word_of (HeldBy g n)) (λ found. fills_post (zone_of_boot t) (own_past s) (cpu_past s) cpu g n)
fills t s cpu g n is high fits none legal =
    let zone = zone_of_boot t in
    let x = word_of (HeldBy g n) in
    of_held t s (StockOf cpu) (λ x. word_of (HeldBy g n)) (λ found. fills_post zone (own_past s) (cpu_past s) cpu g n) is
    (λ id b k homes at small.
    let shows = shows_end zone b.words b.views id (own_past s) (cpu_past s) (stands_at zone b k id (own_past s) (cpu_past s) at is.holds) in
    let empty : ((state_of zone k.run).parts cpu).book ≡ 0 =
    sym (part_seen (λ (p : Part). p.book) (λ p. refl) (cpu_past s).number (state_of zone k.run).parts cpu) ∙ sym (ap (λ (l : State). (l.parts cpu).book) shows.sees) ∙ none in
    held_makes_small zone b k id (stock_index cpu) x (own_past s) (cpu_past s) (record { seat = 0; action = Fill cpu g n }) Done at is.holds (inl refl) refl legal
    (fits, stock_words_set zone (stock_index cpu) x (stock_low zone cpu high) b.words)
    (small_fill (state_of zone k.run) 0 cpu g n empty fits.1 k.small))

-- ---- a legal step is of a frame of the table
pub zone_seen : (t : KnownTable) (s : KnownPasts) → (local_seen (zone_of_boot t) (cpu_past s)).zone ≡ zone_of_boot t
zone_seen t s = zone_of_run (zone_of_boot t) (cpu_past s).seen

pub frame_of_freeze : (t : KnownTable) (s : KnownPasts) (f count : ℕ) → MayMake t s 0 (Freeze f count) → f < t.frames
frame_of_freeze t s f count legal =
    below_frames (zone_of_boot t) f (ap (λ z. is_frame z f) (sym (zone_seen t s)) ∙ (freeze_tests (local_seen (zone_of_boot t) (cpu_past s)) 0 f count legal).1)

pub frame_of_unfreeze : (t : KnownTable) (s : KnownPasts) (f count : ℕ) → MayMake t s 0 (Unfreeze f count) → f < t.frames
frame_of_unfreeze t s f count legal =
    below_frames (zone_of_boot t) f (ap (λ z. is_frame z f) (sym (zone_seen t s)) ∙ (unfreeze_tests (local_seen (zone_of_boot t) (cpu_past s)) 0 f count legal).1)

said_freeze : (hit : Bool) → freeze_said hit ≡ cond hit Done Missed
said_freeze true = refl
said_freeze false = refl

pub froze : (t : KnownTable) (s : KnownPasts) (f count found : ℕ) (s' : KnownPasts) → IsHeld t s → s'.table ≡ s.table
    → freezes_post (zone_of_boot t) (own_past s) (cpu_past s) f count found s'.pasts → MakesStep t s 0 (Freeze f count) (freeze_said (found == count)) s'
froze t s f count found s' is table post =
    subst (λ a. MakesStep t s 0 (Freeze f count) a s') (sym (said_freeze (found == count)))
    (held_made t s (record { seat = 0; action = Freeze f count }) (freeze_answer count found) s' is table post)
