-- A CPU's exchange of its stock word is a consume or a credit, or finds it drained.
use Rattle.std.proofs.Common.{[], ◌≡◌, ◌≢◌, ℕ, suc, eqb, ◌+◌, ◌*◌, ◌<◌, ◌≤◌, ◌==◌, Bool, true, false, Some, None, Option, List, ◌∷◌, ◌++◌, length, set, get_or-set_same, refl, ap, sym, ◌∙◌, subst, arith, inl, inr}
use Rattle.std.specs.Prelude.{slice_index, is_some}
use Rattle.std.proofs.lemmas.List.{set-get_or}
use mathlib.Core.Option.{some}
use lib.ListN.{get_elem?}
use prog.Atomic.{either}
use Rattle.atomic_table.specs.Table.{State as Board}
use Rattle.atomic_table.proofs.Lists.{exchanged}
use Rattle.group_tree.specs.Bounds.{most_groups}
use Rattle.stock_word.specs.declared.stock.Stock.{Stock}
use Rattle.stock_word.specs.declared.stock.Stock.TheVariants.{NoGroup, HeldBy, DrainedOf}
use Rattle.stock_word.specs.{HasWord, drained_of, word_of, stock_index}
use Rattle.stock_word.proofs.Stocks.{same_word}
use Rattle.stock_word.specs.Stock.{group_base}
use Rattle.step_rules.specs.declared.step.Action.{Action}
use Rattle.step_rules.specs.declared.step.Action.TheVariants.{Consume, Credit}
use Rattle.step_rules.specs.declared.step.Answer.{Answer}
use Rattle.step_rules.specs.declared.step.Answer.TheVariants.{Drained, Stocked, Took}
use Rattle.step_rules.specs.{Part, Zone, one_if, times, is_legal, Run, state_of, IsLegalRun, holds_lock, KeepsInvariant}
use Rattle.step_rules.specs.State.{State}
use Rattle.step_rules.specs.Phases.{FreshFrame}
use Rattle.step_rules.proofs.Freeing.{zone_of_run}
use Rattle.step_rules.proofs.LegalTests.{credit_tests}
use Rattle.step_rules.proofs.Runs.{sound_run}
use Rattle.boot_words.specs.{IsFast, HasSameOrDrained, IsRunOf, stock_in, stock_said, with_stock_word, ChangesWords, stock_word_at, words_in}
use Rattle.boot_words.specs.{run_rule, MayDo, first_past, own_past, zone_of_boot, MayChange, Exchanges, IsAwayCpu, KnownCpuSeat, SawLast, KnownTable}
use Rattle.boot_words.specs.declared.past.Past.{Past}
use Rattle.boot_words.proofs.Away.{away_stays}
use Rattle.boot_words.proofs.StockSteps.{stock_is_at, stock_low, stock_words_set}
use Rattle.boot_words.specs.declared.word.Word.TheVariants.{StockOf}
use Rattle.boot_words.proofs.Calling.{made}
use Rattle.boot_words.proofs.Fast.{Leaves, Made, legal_still, makes_on, past_begins}
use Rattle.boot_words.proofs.Booking.{AreSmall}
use Rattle.boot_words.proofs.Growing.{fast_hold}

-- ---- drains of a stock that the CPU saw
said_drained : (o : Option ℕ) (n : ℕ) (d : Bool) → stock_said o 0 (is_some o) ≡ drained_of (stock_said o n d)
said_drained None n d = refl
said_drained (Some g) n true = refl
said_drained (Some g) n false = refl

drained_once : (s : Stock) → drained_of (drained_of s) ≡ drained_of s
drained_once NoGroup = refl
drained_once (HeldBy g n) = refl
drained_once (DrainedOf g) = refl

pub saw_still : (a b : Part) (last : Stock) → HasSameOrDrained a b → SawLast (stock_in a) last → SawLast (stock_in b) last
saw_still a b last same saw = elim same.stock [
  | inl stays ↦ subst (λ s. SawLast s last) (sym (ap (λ st. stock_said st.group st.pages st.is_drained) stays)) saw
  | inr gone ↦
      let now : stock_in b ≡ drained_of (stock_in a) = (λ i. stock_said (same.group i) (gone.0 i) (gone.1 i)) ∙ said_drained a.stock.group a.stock.pages a.stock.is_drained in
      elim saw [
        | inl is ↦ inr (now ∙ ap drained_of is)
        | inr was ↦ inr (now ∙ ap drained_of was ∙ drained_once last)
      ]
]

-- after the step the CPU knows its stock, and is still without the lock
pub record Knows (zone : Zone) (p : Past) (action : Action) (answer : Answer) (stock : Stock) (later : List Past) : Type 0 where
  pub made : Made zone p action answer later
  pub away : holds_lock p.number (state_of zone made.past.seen).hold ≡ false
  pub stock_is : stock_in ((state_of zone made.past.seen).parts p.number) ≡ stock
  pub fits : HasWord stock

-- the CPU's stock in the run's state, by its word
pub record StockNow (zone : Zone) (words : List ℕ) (run : Run) (cpu : ℕ) (last : Stock) : Type 0 where
  pub away : holds_lock cpu (state_of zone run).hold ≡ false
  pub saw : SawLast (stock_in ((state_of zone run).parts cpu)) last
  pub word : slice_index words (stock_index cpu) ≡ word_of (stock_in ((state_of zone run).parts cpu))
  pub reads : stock_word_at (words_in zone words) cpu ≡ slice_index words (stock_index cpu)

pub stock_now : (zone : Zone) (s : Board (Unit {0}) (List Past)) (k : run_rule zone s) (id : ℕ) (p : Past) (last : Stock) → get_elem? s.views id ≡ some (p ∷ [])
    → 1 ≤ p.number → p.number ≤ zone.cpus → holds_lock p.number (state_of zone p.seen).hold ≡ false → SawLast (stock_in ((state_of zone p.seen).parts p.number)) last
    → StockNow zone s.words k.run p.number last
stock_now zone s k id p last at low high away saw =
    let q = p.number in
    let fits = (past_begins zone s k id p at).goes in
    let legal : IsLegalRun zone (p.seen ++ fits.rest) = subst (IsLegalRun zone) fits.is k.is.legal in
    let stays = away_stays zone p.seen fits.rest q legal fits.others away in
    let is = sym fits.is in
    let reads = (stock_is_at zone (stock_index q) (stock_low zone q high)).reads s.words in
    let within : q ≤ (state_of zone k.run).zone.cpus = subst (λ z. q ≤ z.cpus) (sym (zone_of_run zone k.run)) high in record {
      away = subst (λ r. holds_lock q (state_of zone r).hold ≡ false) is stays.0;
      saw = subst (λ r. SawLast (stock_in ((state_of zone r).parts q)) last) is (saw_still ((state_of zone p.seen).parts q) ((state_of zone (p.seen ++ fits.rest)).parts q) last stays.1 saw);
      word = sym reads ∙ k.is.stocks.stock q low within;
      reads = reads;
    }

-- the stock after the step, by its word
stock_left : (zone : Zone) (words : List ℕ) (run : Run) (cpu : ℕ) (stock : Stock) → IsRunOf zone (words_in zone words) run → 1 ≤ cpu → cpu ≤ zone.cpus → HasWord stock
    → stock_word_at (words_in zone words) cpu ≡ word_of stock → stock_in ((state_of zone run).parts cpu) ≡ stock
stock_left zone words run cpu stock is low high fits found =
    let within : cpu ≤ (state_of zone run).zone.cpus = subst (λ z. cpu ≤ z.cpus) (sym (zone_of_run zone run)) high in
    same_word (stock_in ((state_of zone run).parts cpu)) stock (is.stocks.has_word cpu low within) fits (sym (is.stocks.stock cpu low within) ∙ found)

-- ---- the exchange finds the stock that was seen last, or a drained one
pub record TellsPage (zone : Zone) (p : Past) (action : Action) (answer : Answer) (before left drained : Stock) (found : ℕ) (later : List Past) : Type 0 where
  pub took : found ≡ word_of before → Knows zone p action answer left later
  pub gone : found ≢ word_of before → Knows zone p action Drained drained later

not_zero : (n : ℕ) → 1 ≤ n → n ≢ 0
not_zero n low none = absurd (omega (arith, low, none))

exchange_page : (zone : Zone) (p : Past) (action : Action) (answer : Answer) (g n m : ℕ) → 1 ≤ p.number → p.number ≤ zone.cpus → IsFast action
    → is_legal (state_of zone p.seen) p.number action ≡ true → holds_lock p.number (state_of zone p.seen).hold ≡ false
    → SawLast (stock_in ((state_of zone p.seen).parts p.number)) (HeldBy g n) → g < most_groups → n < group_base
    → ((s : State) → KeepsInvariant s → AreSmall s → is_legal s p.number action ≡ true → stock_in (s.parts p.number) ≡ HeldBy g n → m < group_base)
    → ((words : List ℕ) → m < group_base → stock_word_at (words_in zone words) p.number ≡ word_of (HeldBy g n)
    → ChangesWords zone (words_in zone words) p.number action answer (with_stock_word (words_in zone words) p.number (word_of (HeldBy g m))))
    → ((words : List ℕ) → stock_word_at (words_in zone words) p.number ≡ word_of (DrainedOf g) → ChangesWords zone (words_in zone words) p.number action Drained (words_in zone words))
    → MayChange zone (p ∷ []) (StockOf p.number) (λ x. either (x == word_of (HeldBy g n)) (word_of (HeldBy g m)) x) (TellsPage zone p action answer (HeldBy g n) (HeldBy g m) (DrainedOf g))
exchange_page zone p action answer g n m low high fast legal away saw few before_few room takes drains id s k homes at small =
    let q = p.number in
    let j = stock_index q in
    let found = slice_index s.words j in
    let before = word_of (HeldBy g n) in
    let left = word_of (HeldBy g m) in
    let x = either (eqb found before) left found in
    let ne = not_zero q low in
    let now = stock_now zone s k id p (HeldBy g n) at low high away saw in
    let wide : 16 * (zone.cpus + 1) ≤ length (words_in zone s.words).stocks = subst (λ z. 16 * (z.cpus + 1) ≤ length (words_in zone s.words).stocks) (zone_of_run zone k.run) k.is.stocks.wide in
    let inside : j < length (words_in zone s.words).stocks = omega (arith, high, wide) in
    let F : ℕ → Type 0 = λ word. word ≡ x → Leaves zone s id j x (TellsPage zone p action answer (HeldBy g n) (HeldBy g m) (DrainedOf g) found) in
    exchanged found before left F
    (λ hit word.
    let held : stock_in ((state_of zone k.run).parts q) ≡ HeldBy g n =
    same_word (stock_in ((state_of zone k.run).parts q)) (HeldBy g n) (k.is.stocks.has_word q low (subst (λ z. q ≤ z.cpus) (sym (zone_of_run zone k.run)) high)) (few, before_few) (sym now.word ∙ hit) in
    let after_few : m < group_base = room (state_of zone k.run) (sound_run zone k.run k.is.legal) k.small (legal_still zone s k id p action at ne fast legal) held in
    let later : words_in zone (set s.words j x) ≡ with_stock_word (words_in zone s.words) q left = stock_words_set zone j x (stock_low zone q high) s.words ∙ ap (with_stock_word (words_in zone s.words) q) (sym word) in
    let r = makes_on zone s k id j x p action answer at ne fast legal
    (subst (ChangesWords zone (words_in zone s.words) q action answer) (sym later) (takes s.words after_few (now.reads ∙ hit))) in
    let made = r.4.1 in (
      r.0,
      r.1,
      r.2,
      r.3,
      (
        r.4.0,
        record {
          took = λ h. record {
            made = made.made;
            away = ap (λ (t : State). holds_lock q t.hold) made.state ∙ ap (holds_lock q) (fast_hold (state_of zone k.run) q action answer fast) ∙ now.away;
            stock_is = stock_left zone (set s.words j x) made.made.past.seen q (HeldBy g m) made.now low high (few, after_few)
                (ap (λ w. stock_word_at w q) later ∙ get_or-set_same (words_in zone s.words).stocks j left 0 inside);
            fits = (few, after_few);
          };
          gone = λ not. absurd (not hit);
        },
      ),
    ))
    (λ miss word.
    let drained : stock_in ((state_of zone k.run).parts q) ≡ DrainedOf g = elim now.saw [
      | inl is ↦ absurd (miss (now.word ∙ ap word_of is))
      | inr was ↦ was
    ] in
    let is : found ≡ word_of (DrainedOf g) = now.word ∙ ap word_of drained in
    let later : words_in zone (set s.words j x) ≡ words_in zone s.words = ap (words_in zone) (ap (set s.words j) (sym word) ∙ set-get_or s.words j 0) in
    let r = makes_on zone s k id j x p action Drained at ne fast legal
    (subst (ChangesWords zone (words_in zone s.words) q action Drained) (sym later) (drains s.words (now.reads ∙ is))) in
    let made = r.4.1 in (
      r.0,
      r.1,
      r.2,
      r.3,
      (
        r.4.0,
        record {
          took = λ hit. absurd (miss hit);
          gone = λ not. record {
            made = made.made;
            away = ap (λ (t : State). holds_lock q t.hold) made.state ∙ ap (holds_lock q) (fast_hold (state_of zone k.run) q action Drained fast) ∙ now.away;
            stock_is = stock_left zone (set s.words j x) made.made.past.seen q (DrainedOf g) made.now low high few (ap (λ w. stock_word_at w q) later ∙ now.reads ∙ is);
            fits = few;
          };
        },
      ),
    )) refl

pub may_consume : (zone : Zone) (p : Past) (g n : ℕ) → 1 ≤ p.number → p.number ≤ zone.cpus → is_legal (state_of zone p.seen) p.number (Consume g) ≡ true
    → holds_lock p.number (state_of zone p.seen).hold ≡ false → SawLast (stock_in ((state_of zone p.seen).parts p.number)) (HeldBy g (n + 1)) → HasWord (HeldBy g (n + 1))
    → MayChange zone (p ∷ []) (StockOf p.number) (λ x. either (x == word_of (HeldBy g (n + 1))) (word_of (HeldBy g n)) x)
    (TellsPage zone p (Consume g) Took (HeldBy g (n + 1)) (HeldBy g n) (DrainedOf g))
may_consume zone p g n low high legal away saw fits =
    let few : n < group_base = let b = fits.1 in omega (arith, b) in
    exchange_page zone p (Consume g) Took g (n + 1) n low high tt legal away saw fits.0 fits.1 (λ s sound small ok is. few)
    (λ words less found. (n, record { before_fits = fits; after_fits = (fits.0, few); found = found; later_is = refl }))
    (λ words found. record { fits = fits.0; found = found; later_is = refl })

times_length : (f : ℕ) (xs : List ℕ) → times f xs ≤ length xs
times_length f [] = omega arith
times_length f (x ∷ xs) = let more = times_length f xs in by (x == f) more
  where
    by : (b : Bool) → times f xs ≤ length xs → one_if b + times f xs ≤ suc (length xs)
    by true h = omega arith
    by false h = omega arith

pages_held : (o : Option ℕ) (n : ℕ) (d : Bool) (g m : ℕ) → stock_said o n d ≡ HeldBy g m → n ≡ m
pages_held None n d g m e = absurd (let a : NoGroup ≡ HeldBy g m = e in cc)
pages_held (Some k) n true g m e = absurd (let a : DrainedOf k ≡ HeldBy g m = e in cc)
pages_held (Some k) n false g m e = let a : HeldBy k n ≡ HeldBy g m = e in cc

-- a stock of which a page is out has room for it
page_fits : (s : State) (q f g n : ℕ) → KeepsInvariant s → AreSmall s → is_legal s q (Credit f) ≡ true → stock_in (s.parts q) ≡ HeldBy g n → n + 1 < group_base
page_fits s q f g n sound small legal is =
    let part = s.parts q in
    let pages : part.stock.pages ≡ n = pages_held part.stock.group part.stock.pages part.stock.is_drained g n is in
    let one : times f part.fresh ≡ 1 = sound.lists q FreshFrame f ∙ ap one_if (credit_tests s q f legal).2 in
    let some = times_length f part.fresh in
    let booked = sound.booked q in
    let few = small q in
    omega (arith, pages, one, some, booked, few)

pub may_credit : (zone : Zone) (p : Past) (f g n : ℕ) → 1 ≤ p.number → p.number ≤ zone.cpus → is_legal (state_of zone p.seen) p.number (Credit f) ≡ true
    → holds_lock p.number (state_of zone p.seen).hold ≡ false → SawLast (stock_in ((state_of zone p.seen).parts p.number)) (HeldBy g n) → HasWord (HeldBy g n)
    → MayChange zone (p ∷ []) (StockOf p.number) (λ x. either (x == word_of (HeldBy g n)) (word_of (HeldBy g (n + 1))) x)
    (TellsPage zone p (Credit f) Stocked (HeldBy g n) (HeldBy g (n + 1)) (DrainedOf g))
may_credit zone p f g n low high legal away saw fits =
    exchange_page zone p (Credit f) Stocked g n (n + 1) low high tt legal away saw fits.0 fits.1 (λ s sound small ok is. page_fits s p.number f g n sound small ok is)
    (λ words room found. (g, n, record { before_fits = fits; after_fits = (fits.0, room); found = found; later_is = refl }))
    (λ words found. (g, record { fits = fits.0; found = found; later_is = refl }))

-- ---- to the contracts of consume and credit
pub consumes : (t : KnownTable) (c : KnownCpuSeat) (g n m : ℕ) → IsAwayCpu t c → MayDo t c.past (Consume g) → c.last ≡ HeldBy g n → n ≡ m + 1
    → MayChange (zone_of_boot t) c.past.pasts (StockOf c.number) (λ x. either (x == word_of (HeldBy g n)) (word_of (HeldBy g m)) x)
    (TellsPage (zone_of_boot t) (own_past c.past) (Consume g) Took (HeldBy g n) (HeldBy g m) (DrainedOf g))
consumes t c g n m is legal last more =
    let zone = zone_of_boot t in
    let p = own_past c.past in
    let at = is.number in
    let q = p.number in
    subst (λ (y : List Past × (ℕ × ℕ)). MayChange zone y.0 (StockOf y.1.0) (λ x. either (x == word_of (HeldBy g y.1.1)) (word_of (HeldBy g m)) x)
    (TellsPage zone p (Consume g) Took (HeldBy g y.1.1) (HeldBy g m) (DrainedOf g))) (λ i. (sym is.past.alone i, (sym at i, sym more i)))
    (may_consume zone p g m is.past.low is.past.high legal (subst (λ k. holds_lock k (state_of zone p.seen).hold ≡ false) at is.away)
    (subst (λ (y : ℕ × Stock). SawLast (stock_in ((state_of zone p.seen).parts y.0)) y.1) (λ i. (at i, (last ∙ ap (HeldBy g) more) i)) is.last)
    (subst HasWord (last ∙ ap (HeldBy g) more) is.has_word))

pub credits : (t : KnownTable) (c : KnownCpuSeat) (f g n : ℕ) → IsAwayCpu t c → MayDo t c.past (Credit f) → c.last ≡ HeldBy g n
    → MayChange (zone_of_boot t) c.past.pasts (StockOf c.number) (λ x. either (x == word_of (HeldBy g n)) (word_of (HeldBy g (n + 1))) x)
    (TellsPage (zone_of_boot t) (own_past c.past) (Credit f) Stocked (HeldBy g n) (HeldBy g (n + 1)) (DrainedOf g))
credits t c f g n is legal last =
    let zone = zone_of_boot t in
    let p = own_past c.past in
    let at = is.number in
    subst (λ (y : List Past × ℕ). MayChange zone y.0 (StockOf y.1) (λ x. either (x == word_of (HeldBy g n)) (word_of (HeldBy g (n + 1))) x)
    (TellsPage zone p (Credit f) Stocked (HeldBy g n) (HeldBy g (n + 1)) (DrainedOf g))) (λ i. (sym is.past.alone i, sym at i))
    (may_credit zone p f g n is.past.low is.past.high legal (subst (λ k. holds_lock k (state_of zone p.seen).hold ≡ false) at is.away)
    (subst (λ (y : ℕ × Stock). SawLast (stock_in ((state_of zone p.seen).parts y.0)) y.1) (λ i. (at i, last i)) is.last) (subst HasWord last is.has_word))

-- the exchange was a step of the CPU
pub exchanged_page : (t : KnownTable) (c : KnownCpuSeat) (action : Action) (answer : Answer) (stock : Stock) (c' : KnownCpuSeat) → IsAwayCpu t c → c'.number ≡ c.number → c'.last ≡ stock
    → c'.past.table ≡ c.past.table → Knows (zone_of_boot t) (own_past c.past) action answer stock c'.past.pasts → Exchanges t c action answer stock c'
exchanged_page t c action answer stock c' is number last table k =
    let zone = zone_of_boot t in
    let m = made t c.past action answer c'.past is.past table k.made in
    let q : c'.number ≡ (own_past c.past).number = number ∙ is.number in
    let past : own_past c'.past ≡ k.made.past = ap first_past k.made.later_is in record {
      is = record {
        past = m.is_past;
        number = q ∙ sym m.grew.number;
        away = subst (λ (y : Past × ℕ). holds_lock y.1 (state_of zone y.0.seen).hold ≡ false) (λ i. (sym past i, sym q i)) k.away;
        last = inl (subst (λ (y : Past × ℕ). stock_in ((state_of zone y.0.seen).parts y.1) ≡ stock) (λ i. (sym past i, sym q i)) k.stock_is ∙ sym last);
        has_word = subst HasWord (sym last) k.fits;
      };
      number = number;
      last_is = last;
      makes = m;
    }
