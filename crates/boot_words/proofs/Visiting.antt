-- The visit of the lock's holder, the frames that it hands over, and the pages that its stock pays.
use Rattle.std.proofs.Common.{◌≡◌, ℕ, ◌+◌, ◌-◌, ◌%◌, ◌^◌, ◌<◌, ◌≤◌, true, List, set, refl, ap, sym, ◌∙◌, subst, arith, inl, inr}
use Rattle.std.specs.Prelude.{slice_index}
use Rattle.frame_word.specs.{mark, visit_index}
use Rattle.stock_word.specs.declared.stock.Stock.TheVariants.{HeldBy}
use Rattle.stock_word.specs.{HasWord, word_of, stock_index}
use Rattle.stock_word.specs.Stock.{group_base}
use Rattle.step_rules.specs.declared.step.Action.TheVariants.{Collect, Consume, OpenVisit, PassBack, ShutVisit}
use Rattle.step_rules.specs.declared.step.Answer.TheVariants.{Done, Took}
use Rattle.step_rules.specs.State.{State}
use Rattle.step_rules.specs.{Zone, is_cpu, is_frame, IsAnswer, state_of}
use Rattle.step_rules.proofs.CoverParts.{own_part}
use Rattle.step_rules.proofs.Freeing.{zone_of_run}
use Rattle.step_rules.proofs.Keeping.{homed_run}
use Rattle.step_rules.proofs.LegalTests.{collect_tests, pass_back_tests}
use Rattle.step_rules.proofs.SoundSteps.{below_frames, cpu_range}
use Rattle.boot_words.specs.{stock_in, stock_said, with_stock_word, ChangesWords, stock_word_at, local_seen, frame_base, words_in, KnownPasts, IsHeld}
use Rattle.boot_words.specs.{IsHolder, MakesStep, MayMake, cpu_past, local_by_pasts, own_past, zone_of_boot, MayChange, KnownTable}
use Rattle.boot_words.specs.declared.past.Past.{Past}
use Rattle.boot_words.proofs.Parts.{words_set}
use Rattle.boot_words.proofs.StockSteps.{stock_is_at, stock_low, stock_words_set}
use Rattle.boot_words.specs.declared.word.Word.TheVariants.{OfFrame, StockOf, VisitOf}
use Rattle.boot_words.proofs.UnderLock.{MadeHeld, Stands, held_made, held_makes, of_held, shows_end, stands_at}
use Rattle.boot_words.proofs.Zoning.{zone_seen}

-- the CPU that holds the lock is one of the zone
pub cpu_of_held : (t : KnownTable) (s : KnownPasts) → IsHeld t s → (1 ≤ (cpu_past s).number) × ((cpu_past s).number ≤ t.cpus)
cpu_of_held t s is =
    let zone = zone_of_boot t in
    let c = cpu_past s in
    let shows = is.holds.shows in
    cpu_range zone c.number (subst (λ (z : Zone). is_cpu z c.number ≡ true) (zone_of_run zone c.seen) ((homed_run zone c.seen shows.legal).1.holder c.number shows.holds))

pub holder_of_held : (t : KnownTable) (s : KnownPasts) (cpu : ℕ) → IsHeld t s → IsHolder s cpu → (1 ≤ cpu) × (cpu ≤ t.cpus)
holder_of_held t s cpu is holder = subst (λ n. (1 ≤ n) × (n ≤ t.cpus)) (sym holder) (cpu_of_held t s is)

-- ---- pass_back and collect
abbrev pub passes_post : Zone → Past → Past → ℕ → ℕ → List Past → Type 0
passes_post zone z c f found = MadeHeld zone z c (record { seat = c.number; action = PassBack f }) Done

pub passes_back_held : (t : KnownTable) (s : KnownPasts) (cpu f : ℕ) → IsHeld t s → IsHolder s cpu → MayMake t s cpu (PassBack f)
    → MayChange (zone_of_boot t) s.pasts (OfFrame f) (λ n. mark cpu) (λ found. passes_post (zone_of_boot t) (own_past s) (cpu_past s) f (mark cpu))
passes_back_held t s cpu f is holder legal =
    let zone = zone_of_boot t in
    let z = own_past s in
    let c = cpu_past s in
    of_held t s (OfFrame f) (λ n. mark cpu) (λ found. passes_post zone z c f (mark cpu)) is
    (λ id b k homes at small.
    held_makes zone b k id (frame_base zone + f) (mark cpu) z c (record { seat = c.number; action = PassBack f }) Done at is.holds (inr refl) refl tt
    (subst (λ q. MayMake t s q (PassBack f)) holder legal)
    (subst (λ q. ChangesWords zone (words_in zone b.words) c.number (PassBack f) Done (words_in zone (set b.words (frame_base zone + f) (mark q)))) (sym holder)
    (words_set zone f (mark c.number) b.words)))

pub passed_back_made : (t : KnownTable) (s : KnownPasts) (cpu f found : ℕ) (s' : KnownPasts) → IsHeld t s → IsHolder s cpu → s'.table ≡ s.table
    → passes_post (zone_of_boot t) (own_past s) (cpu_past s) f found s'.pasts → MakesStep t s cpu (PassBack f) Done s'
passed_back_made t s cpu f found s' is holder table post =
    subst (λ q. MakesStep t s q (PassBack f) Done s') (sym holder) (held_made t s (record { seat = (cpu_past s).number; action = PassBack f }) Done s' is table post)

pub frame_of_pass_back : (t : KnownTable) (s : KnownPasts) (cpu f : ℕ) → MayMake t s cpu (PassBack f) → f < t.frames
frame_of_pass_back t s cpu f legal =
    below_frames (zone_of_boot t) f (ap (λ z. is_frame z f) (sym (zone_seen t s)) ∙ (pass_back_tests (local_by_pasts t s) cpu f legal).1)

abbrev pub collects_post : Zone → Past → Past → ℕ → ℕ → List Past → Type 0
collects_post zone z c f found = MadeHeld zone z c (record { seat = 0; action = Collect f c.number }) Done

pub collects_held : (t : KnownTable) (s : KnownPasts) (cpu f : ℕ) → IsHeld t s → IsHolder s cpu → MayMake t s 0 (Collect f cpu)
    → MayChange (zone_of_boot t) s.pasts (OfFrame f) (λ n. 0) (λ found. collects_post (zone_of_boot t) (own_past s) (cpu_past s) f 0)
collects_held t s cpu f is holder legal =
    let zone = zone_of_boot t in
    let z = own_past s in
    let c = cpu_past s in
    of_held t s (OfFrame f) (λ n. 0) (λ found. collects_post zone z c f 0) is
    (λ id b k homes at small.
    held_makes zone b k id (frame_base zone + f) 0 z c (record { seat = 0; action = Collect f c.number }) Done at is.holds (inl refl) refl tt
    (subst (λ q. MayMake t s 0 (Collect f q)) holder legal) (words_set zone f 0 b.words))

pub collected_made : (t : KnownTable) (s : KnownPasts) (cpu f found : ℕ) (s' : KnownPasts) → IsHeld t s → IsHolder s cpu → s'.table ≡ s.table
    → collects_post (zone_of_boot t) (own_past s) (cpu_past s) f found s'.pasts → MakesStep t s 0 (Collect f cpu) Done s'
collected_made t s cpu f found s' is holder table post =
    subst (λ q. MakesStep t s 0 (Collect f q) Done s') (sym holder) (held_made t s (record { seat = 0; action = Collect f (cpu_past s).number }) Done s' is table post)

pub frame_of_collect : (t : KnownTable) (s : KnownPasts) (cpu f : ℕ) → MayMake t s 0 (Collect f cpu) → f < t.frames
frame_of_collect t s cpu f legal =
    below_frames (zone_of_boot t) f (ap (λ z. is_frame z f) (sym (zone_seen t s)) ∙ (collect_tests (local_by_pasts t s) 0 f cpu legal).1)

-- ---- visits
abbrev pub opens_post : Zone → Past → Past → ℕ → ℕ → List Past → Type 0
opens_post zone z c cpu found = MadeHeld zone z c (record { seat = 0; action = OpenVisit cpu }) Done

pub opens : (t : KnownTable) (s : KnownPasts) (cpu : ℕ) → IsHeld t s → MayMake t s 0 (OpenVisit cpu)
    → MayChange (zone_of_boot t) s.pasts (VisitOf cpu) (λ n. 1) (λ found. opens_post (zone_of_boot t) (own_past s) (cpu_past s) cpu 1)
opens t s cpu is legal =
    let zone = zone_of_boot t in
    of_held t s (VisitOf cpu) (λ n. 1) (λ found. opens_post zone (own_past s) (cpu_past s) cpu 1) is
    (λ id b k homes at small.
    held_makes zone b k id (frame_base zone + visit_index zone.frames cpu) 1 (own_past s) (cpu_past s) (record { seat = 0; action = OpenVisit cpu }) Done at is.holds
    (inl refl) refl tt legal (words_set zone (visit_index zone.frames cpu) 1 b.words))

abbrev pub shuts_post : Zone → Past → Past → ℕ → ℕ → List Past → Type 0
shuts_post zone z c cpu found = MadeHeld zone z c (record { seat = 0; action = ShutVisit cpu }) Done

pub shuts : (t : KnownTable) (s : KnownPasts) (cpu : ℕ) → IsHeld t s → MayMake t s 0 (ShutVisit cpu)
    → MayChange (zone_of_boot t) s.pasts (VisitOf cpu) (λ n. 0) (λ found. shuts_post (zone_of_boot t) (own_past s) (cpu_past s) cpu 0)
shuts t s cpu is legal =
    let zone = zone_of_boot t in
    of_held t s (VisitOf cpu) (λ n. 0) (λ found. shuts_post zone (own_past s) (cpu_past s) cpu 0) is
    (λ id b k homes at small.
    held_makes zone b k id (frame_base zone + visit_index zone.frames cpu) 0 (own_past s) (cpu_past s) (record { seat = 0; action = ShutVisit cpu }) Done at is.holds
    (inl refl) refl tt legal (words_set zone (visit_index zone.frames cpu) 0 b.words))

-- ---- consume_held
-- the stock of the lock's holder, as its word says it
pub record StockHeld (zone : Zone) (words : List ℕ) (c : Past) : Type 0 where
  pub low : 1 ≤ c.number
  pub high : c.number ≤ zone.cpus
  pub fits : HasWord (stock_in ((local_seen zone c).parts c.number))
  pub word : slice_index words (stock_index c.number) ≡ word_of (stock_in ((local_seen zone c).parts c.number))
  pub reads : stock_word_at (words_in zone words) c.number ≡ slice_index words (stock_index c.number)
  pub few : ((local_seen zone c).parts c.number).book < group_base

pub stock_held : (zone : Zone) (words : List ℕ) (seats : List (List Past)) (id : ℕ) (z c : Past) → 1 ≤ c.number → c.number ≤ zone.cpus → (st : Stands zone words seats id z c)
    → StockHeld zone words c
stock_held zone words seats id z c low high st =
    let q = c.number in
    let s = state_of zone st.rule.run in
    let is = st.rule.is in
    let own : (local_seen zone c).parts q ≡ s.parts q = ap (λ (l : State). l.parts q) (shows_end zone words seats id z c st).sees ∙ own_part q s.parts q refl in
    let within : q ≤ s.zone.cpus = subst (λ y. q ≤ y.cpus) (sym (zone_of_run zone st.rule.run)) high in
    let reads = (stock_is_at zone (stock_index q) (stock_low zone q high)).reads words in record {
      low = low;
      high = high;
      fits = subst (λ p. HasWord (stock_in p)) (sym own) (is.stocks.has_word q low within);
      word = sym reads ∙ is.stocks.stock q low within ∙ ap (λ p. word_of (stock_in p)) (sym own);
      reads = reads;
      few = subst (λ p. p.book < group_base) (sym own) (st.rule.small q);
    }

one_less : (x y : ℕ) → x ≡ y + 1 → x < 18446744073709551616 → (x + (2 ^ 64 - 1)) % 2 ^ 64 ≡ y
one_less x y e h = omega arith

held_more : (g n : ℕ) → word_of (HeldBy g (n + 1)) ≡ word_of (HeldBy g n) + 1
held_more g n = omega arith

one_page : (n : ℕ) → 1 ≤ n → n ≡ n - 1 + 1
one_page n some = omega (arith, some)

abbrev pub takes_post : Zone → Past → Past → ℕ → ℕ → List Past → Type 0
takes_post zone z c g found = MadeHeld zone z c (record { seat = c.number; action = Consume g }) Took

pub takes_held : (t : KnownTable) (s : KnownPasts) (cpu g : ℕ) → IsHeld t s → IsHolder s cpu → IsAnswer (local_by_pasts t s) cpu (Consume g) Took → MayMake t s cpu (Consume g)
    → MayChange (zone_of_boot t) s.pasts (StockOf cpu) (λ n. (n + (2 ^ 64 - 1)) % 2 ^ 64) (takes_post (zone_of_boot t) (own_past s) (cpu_past s) g)
takes_held t s cpu g is holder pays legal =
    let zone = zone_of_boot t in
    let z = own_past s in
    let c = cpu_past s in
    let q = c.number in
    let range = cpu_of_held t s is in
    let paid = subst (λ k. IsAnswer (local_by_pasts t s) k (Consume g) Took) holder pays in
    let pages = ((local_seen zone c).parts q).stock.pages in
    let n = pages - 1 in
    let stock : stock_in ((local_seen zone c).parts q) ≡ HeldBy g (n + 1) = λ i. stock_said (paid.0 i) (one_page pages paid.2 i) (paid.1 i) in
    subst (λ k. MayChange zone s.pasts (StockOf k) (λ x. (x + (2 ^ 64 - 1)) % 2 ^ 64) (takes_post zone z c g)) (sym holder)
    (of_held t s (StockOf q) (λ x. (x + (2 ^ 64 - 1)) % 2 ^ 64) (takes_post zone z c g) is
    (λ id b k homes at small.
    let st = stands_at zone b k id z c at is.holds in
    let h = stock_held zone b.words b.views id z c range.0 range.1 st in
    let j = stock_index q in
    let low = stock_low zone q range.1 in
    let found : slice_index b.words j ≡ word_of (HeldBy g (n + 1)) = h.word ∙ ap word_of stock in
    let fits : HasWord (HeldBy g (n + 1)) = subst HasWord stock h.fits in
    let few : n < group_base = let b = fits.1 in omega (arith, b) in
    let less : (slice_index b.words j + (2 ^ 64 - 1)) % 2 ^ 64 ≡ word_of (HeldBy g n) = one_less (slice_index b.words j) (word_of (HeldBy g n)) (found ∙ held_more g n) small in
    held_makes zone b k id j ((slice_index b.words j + (2 ^ 64 - 1)) % 2 ^ 64) z c (record { seat = q; action = Consume g }) Took at is.holds (inr refl) refl tt
    (subst (λ k. MayMake t s k (Consume g)) holder legal) (
      n,
      record {
        before_fits = fits;
        after_fits = (fits.0, few);
        found = h.reads ∙ found;
        later_is = stock_words_set zone j ((slice_index b.words j + (2 ^ 64 - 1)) % 2 ^ 64) low b.words ∙ ap (with_stock_word (words_in zone b.words) q) less;
      },
    )))

pub took_made : (t : KnownTable) (s : KnownPasts) (cpu g found : ℕ) (s' : KnownPasts) → IsHeld t s → IsHolder s cpu → s'.table ≡ s.table
    → takes_post (zone_of_boot t) (own_past s) (cpu_past s) g found s'.pasts → MakesStep t s cpu (Consume g) Took s'
took_made t s cpu g found s' is holder table post =
    subst (λ q. MakesStep t s q (Consume g) Took s') (sym holder) (held_made t s (record { seat = (cpu_past s).number; action = Consume g }) Took s' is table post)
