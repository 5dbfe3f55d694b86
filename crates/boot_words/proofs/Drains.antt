-- A put and a drain under the lock: their words say who has what.
use Rattle.std.proofs.Common.{[], ◌≡◌, ◌≢◌, ℕ, ◌+◌, ◌-◌, ◌*◌, ◌%◌, ◌^◌, ◌<◌, ◌≤◌, Bool, true, false, Option, Some, None, List, ◌∷◌, set, refl, ap, sym, ◌∙◌, subst, arith, inl}
use Rattle.std.specs.Prelude.{◌⊎◌, slice_index}
use Rattle.std.proofs.lemmas.List.{set-get_or}
use mathlib.Core.Logic.{dite}
use mathlib.Core.Option.{some}
use native.Mathlib.Decide.{ℕ_discrete}
use lib.ListN.{get_elem?}
use Rattle.atomic_table.specs.Table.{State as Board}
use Rattle.group_tree.specs.Bounds.{most_groups}
use Rattle.stock_word.specs.declared.stock.Stock.{Stock}
use Rattle.stock_word.specs.declared.stock.Stock.TheVariants.{NoGroup, HeldBy, DrainedOf}
use Rattle.stock_word.specs.{HasWord, group_of, stock_pages_of, word_of, stock_index}
use Rattle.step_rules.specs.declared.step.Step.{Step}
use Rattle.step_rules.specs.declared.step.Action.TheVariants.{DrainStock, Put}
use Rattle.step_rules.specs.declared.step.Answer.TheVariants.{Pages}
use Rattle.step_rules.specs.State.{Part, State, Zone, is_cpu, is_frame}
use Rattle.step_rules.specs.After.{state_of}
use Rattle.step_rules.proofs.CoverParts.{part_seen}
use Rattle.step_rules.proofs.Freeing.{zone_of_run}
use Rattle.step_rules.proofs.LegalTests.{drain_stock_tests, put_tests}
use Rattle.step_rules.proofs.SoundSteps.{below_frames, cpu_range}
use Rattle.boot_words.specs.{stock_in, stock_said, with_frame_word, ChangesWords, frame_word_at, put_answer_at, HoldsLock, local_seen, frame_base}
use Rattle.boot_words.specs.{words_in, run_rule, KnownPasts, IsHeld, IsHolder, MakesStep, MayMake, cpu_past, local_by_pasts, own_past, zone_of_boot}
use Rattle.boot_words.specs.{MayChange, KnownTable}
use Rattle.boot_words.specs.Steps.{OfGroup, OfNone}
use Rattle.boot_words.specs.declared.past.Past.{Past}
use Rattle.boot_words.proofs.Parts.{frame_reads, words_set}
use Rattle.boot_words.proofs.Putting.{less_one, put_changes}
use Rattle.boot_words.proofs.StockSteps.{stock_is_at, stock_low, stock_words_set}
use Rattle.boot_words.specs.declared.word.Word.TheVariants.{OfFrame, StockOf}
use Rattle.boot_words.proofs.Fast.{stays}
use Rattle.boot_words.proofs.Referring.{word_positive}
use Rattle.boot_words.proofs.UnderLock.{MadeHeld, held_made, held_makes, legal_end, of_held, shows_end, stands_at}

zone_left : (t : KnownTable) (s : KnownPasts) → (local_seen (zone_of_boot t) (cpu_past s)).zone ≡ zone_of_boot t
zone_left t s = zone_of_run (zone_of_boot t) (cpu_past s).seen

-- ---- put
pub record PutsHeld (zone : Zone) (z c : Past) (seat f found : ℕ) (later : List Past) : Type 0 where
  pub some : 1 ≤ found
  pub made : MadeHeld zone z c (record { seat = seat; action = Put f }) (put_answer_at found) later

pub puts_held : (t : KnownTable) (s : KnownPasts) (seat f : ℕ) → IsHeld t s → (seat ≡ 0) ⊎ IsHolder s seat → MayMake t s seat (Put f)
    → MayChange (zone_of_boot t) s.pasts (OfFrame f) (λ n. (n + (2 ^ 64 - 1)) % 2 ^ 64) (PutsHeld (zone_of_boot t) (own_past s) (cpu_past s) seat f)
puts_held t s seat f is own legal =
    let zone = zone_of_boot t in
    let z = own_past s in
    let c = cpu_past s in
    let made_step : Step = record { seat = seat; action = Put f } in
    of_held t s (OfFrame f) (λ n. (n + (2 ^ 64 - 1)) % 2 ^ 64) (PutsHeld zone z c seat f) is
    (λ id b k homes at small.
    let j = frame_base zone + f in
    let n = slice_index b.words j in
    let words = words_in zone b.words in
    let reads : frame_word_at words f ≡ n = frame_reads zone f b.words in
    let positive = word_positive zone words k.run seat f k.is (legal_end zone b.words b.views id z c (stands_at zone b k id z c at is.holds) made_step own refl legal) in
    let some : 1 ≤ n = omega (arith, positive, reads) in
    let r = held_makes zone b k id j ((n + (2 ^ 64 - 1)) % 2 ^ 64) z c made_step (put_answer_at n) at is.holds own refl tt legal
    (subst (ChangesWords zone words seat (Put f) (put_answer_at n)) (ap (with_frame_word words f) (sym (less_one n some small)) ∙ sym (words_set zone f ((n + (2 ^ 64 - 1)) % 2 ^ 64) b.words))
    (put_changes zone words seat f n reads some)) in
    (r.0, r.1, r.2, r.3, (r.4.0, record { some = some; made = r.4.1 })))

pub frame_of_put_held : (t : KnownTable) (s : KnownPasts) (seat f : ℕ) → MayMake t s seat (Put f) → f < t.frames
frame_of_put_held t s seat f legal =
    below_frames (zone_of_boot t) f (ap (λ z. is_frame z f) (sym (zone_left t s)) ∙ (put_tests (local_seen (zone_of_boot t) (cpu_past s)) seat f legal).1)

-- ---- drain
pub cpu_of_drain : (t : KnownTable) (s : KnownPasts) (cpu : ℕ) → MayMake t s 0 (DrainStock cpu) → (1 ≤ cpu) × (cpu ≤ t.cpus)
cpu_of_drain t s cpu legal =
    cpu_range (zone_of_boot t) cpu (ap (λ z. is_cpu z cpu) (sym (zone_left t s)) ∙ (drain_stock_tests (local_seen (zone_of_boot t) (cpu_past s)) 0 cpu legal).1)

pub group_by : (o : Option ℕ) (n : ℕ) (d : Bool) → group_of (stock_said o n d) ≡ o
group_by None n d = refl
group_by (Some k) n true = refl
group_by (Some k) n false = refl

no_group : (s : Stock) → group_of s ≡ None → s ≡ NoGroup
no_group NoGroup e = refl
no_group (HeldBy g n) e = absurd (let a : Some g ≡ None = e in cc)
no_group (DrainedOf g) e = absurd (let a : Some g ≡ None = e in cc)

some_word : (s : Stock) (g : ℕ) → group_of s ≡ Some g → word_of s ≢ 0
some_word NoGroup g e none = absurd (let a : None ≡ Some g = e in cc)
some_word (HeldBy k n) g e none = let a : (k + 1) * 65536 + n ≡ 0 = none in absurd (omega arith)
some_word (DrainedOf k) g e none = let a : 4294967296 + (k + 1) * 65536 ≡ 0 = none in absurd (omega arith)

-- the stock that the word says, of the group that the holder sees
pub record StockFound (zone : Zone) (c : Past) (cpu found : ℕ) : Type 0 where
  pub stock : Stock
  pub fits : HasWord stock
  pub word : found ≡ word_of stock
  pub group : group_of stock ≡ ((local_seen zone c).parts cpu).stock.group

pub stock_found : (zone : Zone) (b : Board (Unit {0}) (List Past)) (k : run_rule zone b) (id : ℕ) (z c : Past) (cpu : ℕ) → get_elem? b.views id ≡ some (z ∷ c ∷ [])
    → HoldsLock zone z c (local_seen zone c) → 1 ≤ cpu → cpu ≤ zone.cpus → StockFound zone c cpu (slice_index b.words (stock_index cpu))
stock_found zone b k id z c cpu at holds low high =
    let s = state_of zone k.run in
    let part = s.parts cpu in
    let within : cpu ≤ s.zone.cpus = subst (λ y. cpu ≤ y.cpus) (sym (zone_of_run zone k.run)) high in
    let shows = shows_end zone b.words b.views id z c (stands_at zone b k id z c at holds) in record {
      stock = stock_in part;
      fits = k.is.stocks.has_word cpu low within;
      word = sym ((stock_is_at zone (stock_index cpu) (stock_low zone cpu high)).reads b.words) ∙ k.is.stocks.stock cpu low within;
      group = group_by part.stock.group part.stock.pages part.stock.is_drained ∙ sym (part_seen (λ (x : Part). x.stock.group) (λ x. refl) c.number s.parts cpu)
          ∙ sym (ap (λ (l : State). (l.parts cpu).stock.group) shows.sees);
    }

-- the load drains a stock of no group
pub record LooksToDrain (zone : Zone) (z c : Past) (cpu found : ℕ) (later : List Past) : Type 0 where
  pub is : StockFound zone c cpu found
  pub none : found ≡ 0 → MadeHeld zone z c (record { seat = 0; action = DrainStock cpu }) (Pages 0) later
  pub looked : found ≢ 0 → later ≡ z ∷ c ∷ []

-- the swap drains a stock of a group
pub record Drains (zone : Zone) (z c : Past) (cpu found : ℕ) (later : List Past) : Type 0 where
  pub stock : Stock
  pub fits : HasWord stock
  pub word : found ≡ word_of stock
  pub made : MadeHeld zone z c (record { seat = 0; action = DrainStock cpu }) (Pages (stock_pages_of stock)) later

pub looks_to_drain : (t : KnownTable) (s : KnownPasts) (cpu : ℕ) → IsHeld t s → MayMake t s 0 (DrainStock cpu)
    → MayChange (zone_of_boot t) s.pasts (StockOf cpu) (λ n. n) (LooksToDrain (zone_of_boot t) (own_past s) (cpu_past s) cpu)
looks_to_drain t s cpu is legal =
    let zone = zone_of_boot t in
    let z = own_past s in
    let c = cpu_past s in
    let range = cpu_of_drain t s cpu legal in
    let j = stock_index cpu in
    of_held t s (StockOf cpu) (λ n. n) (LooksToDrain zone z c cpu) is
    (λ id b k homes at small.
    let n = slice_index b.words j in
    let there = stock_found zone b k id z c cpu at is.holds range.0 range.1 in
    let words = words_in zone b.words in
    let same : words_in zone (set b.words j n) ≡ words = ap (words_in zone) (set-get_or b.words j 0) in
    let reads = (stock_is_at zone j (stock_low zone cpu range.1)).reads b.words in
    dite (ℕ_discrete n 0)
    (λ e.
    let r = held_makes zone b k id j n z c (record { seat = 0; action = DrainStock cpu }) (Pages 0) at is.holds (inl refl) refl tt legal
    (OfNone refl (record { fits = tt; found = reads ∙ e; later_is = same })) in
    (r.0, r.1, r.2, r.3, (r.4.0, record { is = there; none = λ h. r.4.1; looked = λ ne. absurd (ne e) })))
    (λ ne.
    let r = stays zone b k id j n (z ∷ c ∷ []) at refl in
    (r.0, r.1, r.2, r.3, (r.4.0, record { is = there; none = λ e. absurd (ne e); looked = λ h. r.4.1 }))))

pub drains : (t : KnownTable) (s : KnownPasts) (cpu g : ℕ) → IsHeld t s → MayMake t s 0 (DrainStock cpu) → ((local_by_pasts t s).parts cpu).stock.group ≡ Some g → g < most_groups
    → MayChange (zone_of_boot t) s.pasts (StockOf cpu) (λ n. word_of (DrainedOf g)) (Drains (zone_of_boot t) (own_past s) (cpu_past s) cpu)
drains t s cpu g is legal group few =
    let zone = zone_of_boot t in
    let z = own_past s in
    let c = cpu_past s in
    let range = cpu_of_drain t s cpu legal in
    let j = stock_index cpu in
    let x = word_of (DrainedOf g) in
    of_held t s (StockOf cpu) (λ n. x) (Drains zone z c cpu) is
    (λ id b k homes at small.
    let there = stock_found zone b k id z c cpu at is.holds range.0 range.1 in
    let low = stock_low zone cpu range.1 in
    let r = held_makes zone b k id j x z c (record { seat = 0; action = DrainStock cpu }) (Pages (stock_pages_of there.stock)) at is.holds (inl refl) refl tt legal
    (OfGroup there.stock g (there.group ∙ group) refl
    (record { before_fits = there.fits; after_fits = few; found = (stock_is_at zone j low).reads b.words ∙ there.word; later_is = stock_words_set zone j x low b.words })) in
    (r.0, r.1, r.2, r.3, (r.4.0, record { stock = there.stock; fits = there.fits; word = there.word; made = r.4.1 })))

-- ---- the answers of a drain
pub group_few : (s : Stock) (g : ℕ) → HasWord s → group_of s ≡ Some g → g < most_groups
group_few NoGroup g h e = absurd (let a : None ≡ Some g = e in cc)
group_few (HeldBy k n) g h e = let a : Some k ≡ Some g = e in let b : k ≡ g = cc in subst (λ x. x < most_groups) b h.0
group_few (DrainedOf k) g h e = let a : Some k ≡ Some g = e in let b : k ≡ g = cc in subst (λ x. x < most_groups) b h

-- a load that found a group is no step, and the seat is what it was
pub looked_on : (t : KnownTable) (s : KnownPasts) (cpu found : ℕ) (s' : KnownPasts) (read : Stock) (g : ℕ) → IsHeld t s → s'.table ≡ s.table
    → (post : LooksToDrain (zone_of_boot t) (own_past s) (cpu_past s) cpu found s'.pasts) → ((stock : Stock) → HasWord stock → found ≡ word_of stock → read ≡ stock) → group_of read ≡ Some g
    → (s' ≡ s) × (((local_by_pasts t s).parts cpu).stock.group ≡ Some g) × (g < most_groups)
looked_on t s cpu found s' read g is table post decodes group =
    let stock = post.is.stock in
    let read_is : read ≡ stock = decodes stock post.is.fits post.is.word in
    let has : group_of stock ≡ Some g = sym (ap group_of read_is) ∙ group in
    let later = post.looked (λ none. some_word stock g has (sym post.is.word ∙ none)) in
    ((λ i. record { table = table i; pasts = (later ∙ sym is.both) i }), sym post.is.group ∙ has, group_few stock g post.is.fits has)

pub drained_none : (t : KnownTable) (s : KnownPasts) (cpu found : ℕ) (s' : KnownPasts) (read : Stock) → IsHeld t s → s'.table ≡ s.table
    → (post : LooksToDrain (zone_of_boot t) (own_past s) (cpu_past s) cpu found s'.pasts) → ((stock : Stock) → HasWord stock → found ≡ word_of stock → read ≡ stock) → group_of read ≡ None
    → MakesStep t s 0 (DrainStock cpu) (Pages 0) s'
drained_none t s cpu found s' read is table post decodes group =
    let stock = post.is.stock in
    let none : stock ≡ NoGroup = no_group stock (sym (ap group_of (decodes stock post.is.fits post.is.word)) ∙ group) in
    held_made t s (record { seat = 0; action = DrainStock cpu }) (Pages 0) s' is table (post.none (post.is.word ∙ ap word_of none))

pub drained_some : (t : KnownTable) (s : KnownPasts) (cpu found : ℕ) (s' : KnownPasts) (read : Stock) (pages : ℕ) → IsHeld t s → s'.table ≡ s.table
    → (post : Drains (zone_of_boot t) (own_past s) (cpu_past s) cpu found s'.pasts) → ((stock : Stock) → HasWord stock → found ≡ word_of stock → read ≡ stock) → pages ≡ stock_pages_of read
    → MakesStep t s 0 (DrainStock cpu) (Pages pages) s'
drained_some t s cpu found s' read pages is table post decodes all =
    held_made t s (record { seat = 0; action = DrainStock cpu }) (Pages pages) s' is table
    (subst (λ n. MadeHeld (zone_of_boot t) (own_past s) (cpu_past s) (record { seat = 0; action = DrainStock cpu }) (Pages n) s'.pasts)
    (sym (all ∙ ap stock_pages_of (decodes post.stock post.fits post.word))) post.made)
