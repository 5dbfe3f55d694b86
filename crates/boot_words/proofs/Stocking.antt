-- Stocks and reports.
use Rattle.std.proofs.Common.{◌≡◌, ℕ, ◌+◌, ◌-◌, ◌≤◌, Bool, true, false, Option, Some, None, List, length, refl, sym, ◌∙◌, ap, subst, arith}
use Rattle.std.specs.Prelude.{slice_set, is_some}
use Rattle.std.proofs.lemmas.Bool.{leb-true}
use Rattle.stock_word.specs.declared.stock.Stock.{Stock}
use Rattle.stock_word.specs.declared.stock.Stock.TheVariants.{NoGroup, HeldBy, DrainedOf}
use Rattle.stock_word.specs.{word_of, HasWord, stock_pages_of, group_of, stock_index, report_index}
use Rattle.stock_word.proofs.Stocks.{same_word}
use Rattle.step_rules.specs.declared.phase.Way.TheVariants.{OnList}
use Rattle.step_rules.specs.declared.phase.Phase.{Phase}
use Rattle.step_rules.specs.declared.phase.Phase.TheVariants.{Lent}
use Rattle.step_rules.specs.declared.step.Action.TheVariants.{Consume, Credit, Report, Absorb, Fill, DrainStock}
use Rattle.step_rules.specs.declared.step.Answer.TheVariants.{Done, Took, Drained, Stocked, Pages}
use Rattle.step_rules.specs.State.{State}
use Rattle.step_rules.specs.{Part, with_at, front_of, is_cpu, live_references, is_legal, after, paid, credited, consumed, with_report, absorbed}
use Rattle.step_rules.specs.{filled, drained, IsBooked}
use Rattle.step_rules.proofs.Basics.{at_same, at_other, at_each}
use Rattle.step_rules.proofs.LegalTests.{consume_tests, credit_tests, report_tests, absorb_tests, fill_tests, drain_stock_tests}
use Rattle.step_rules.proofs.Passing.{front_listed}
use Rattle.step_rules.proofs.PhaseLemmas.{listed_is, fresh_is}
use Rattle.step_rules.proofs.SoundSteps.{cpu_range}
use Rattle.step_rules.proofs.Stocked.{FitsStock}
use Rattle.boot_words.specs.Words.{Words, AreStockWords, word_in_phase, frame_word, stock_said, stock_in, with_stock_word, with_report_word}
use Rattle.boot_words.specs.Steps.{stock_word_at, report_word_at, ExchangesStock, FindsStock, LeavesDrained, OfGroup, OfNone}
use Rattle.boot_words.proofs.WordLists.{frames_same, stock_set, report_set, stocks_same}
use Rattle.boot_words.proofs.Following.{Stands, Follows, same_stocks, visited_cpu}

-- ---- what the stock of a part says of its group, its pages, and whether it was drained
held_parts : (o : Option ℕ) (n : ℕ) (d : Bool) (g m : ℕ) → stock_said o n d ≡ HeldBy g m → (o ≡ Some g) × (n ≡ m) × (d ≡ false)
held_parts None n d g m e = absurd (let a : NoGroup ≡ HeldBy g m = e in cc)
held_parts (Some k) n true g m e = absurd (let a : DrainedOf k ≡ HeldBy g m = e in cc)
held_parts (Some k) n false g m e =
    let a : HeldBy k n ≡ HeldBy g m = e in
    let b : k ≡ g = cc in
    let c : n ≡ m = cc in
    (ap Some b, c, refl)

drained_parts : (o : Option ℕ) (n : ℕ) (d : Bool) (g : ℕ) → stock_said o n d ≡ DrainedOf g → (o ≡ Some g) × (d ≡ true)
drained_parts None n d g e = absurd (let a : NoGroup ≡ DrainedOf g = e in cc)
drained_parts (Some k) n true g e =
    let a : DrainedOf k ≡ DrainedOf g = e in
    let b : k ≡ g = cc in
    (ap Some b, refl)
drained_parts (Some k) n false g e = absurd (let a : HeldBy k n ≡ DrainedOf g = e in cc)

none_parts : (o : Option ℕ) (n : ℕ) (d : Bool) → stock_said o n d ≡ NoGroup → o ≡ None
none_parts None n d e = refl
none_parts (Some k) n true e = absurd (let a : DrainedOf k ≡ NoGroup = e in cc)
none_parts (Some k) n false e = absurd (let a : HeldBy k n ≡ NoGroup = e in cc)

group_by : (o : Option ℕ) (n : ℕ) (d : Bool) → group_of (stock_said o n d) ≡ o
group_by None n d = refl
group_by (Some k) n true = refl
group_by (Some k) n false = refl

pages_by : (o : Option ℕ) (n : ℕ) (d : Bool) → (o ≡ None → n ≡ 0) → (d ≡ true → n ≡ 0) → stock_pages_of (stock_said o n d) ≡ n
pages_by None n d none_left drained_left = sym (none_left refl)
pages_by (Some k) n true none_left drained_left = sym (drained_left refl)
pages_by (Some k) n false none_left drained_left = refl

no_page : (book pages fresh unreported reported : ℕ) → book ≡ pages + fresh + unreported + reported → book ≡ 0 → pages ≡ 0
no_page book pages fresh unreported reported e none = omega arith

no_pages : (part : Part) → FitsStock part → IsBooked part → part.stock.group ≡ None → part.stock.pages ≡ 0
no_pages part fits booked e = no_page part.book part.stock.pages (length part.fresh) part.unreported part.reported booked (fits.book e)

pages_in : (part : Part) → FitsStock part → IsBooked part → stock_pages_of (stock_in part) ≡ part.stock.pages
pages_in part fits booked = pages_by part.stock.group part.stock.pages part.stock.is_drained (no_pages part fits booked) fits.none

-- the stock that the word says is the CPU's
stock_found : (s : State) (words : Words) (cpu : ℕ) (stock : Stock) → Stands s words → is_cpu s.zone cpu ≡ true → HasWord stock
    → stock_word_at words cpu ≡ word_of stock → stock_in (s.parts cpu) ≡ stock
stock_found s words cpu stock stands is fits found =
    let range = cpu_range s.zone cpu is in
    same_word (stock_in (s.parts cpu)) stock (stands.stocks.has_word cpu range.0 range.1) fits (sym (stands.stocks.stock cpu range.0 range.1) ∙ found)

-- ---- one part changes
part_stock : (s t : State) (words : List ℕ) (cpu : ℕ) (part : Part) (stock : Stock) → AreStockWords s words → cpu ≤ s.zone.cpus → t.zone ≡ s.zone
    → t.parts ≡ with_at s.parts cpu part → stock_in part ≡ stock → HasWord stock → part.reported ≡ (s.parts cpu).reported
    → AreStockWords t (slice_set words (stock_index cpu) (word_of stock))
part_stock s t words cpu part stock are high zone parts is fits reported =
    let here : t.parts cpu ≡ part = ap (λ (h : ℕ → Part). h cpu) parts ∙ at_same s.parts cpu part in
    stock_set s t words cpu stock are high zone (ap stock_in here ∙ is) fits (ap (λ (x : Part). x.reported) here ∙ reported)
    (λ q ne.
    let there : t.parts q ≡ s.parts q = ap (λ (h : ℕ → Part). h q) parts ∙ at_other s.parts cpu part q ne in
    record { stock = ap (λ (x : Part). x.stock) there; reported = ap (λ (x : Part). x.reported) there })

part_report : (s t : State) (words : List ℕ) (cpu word : ℕ) (part : Part) → AreStockWords s words → cpu ≤ s.zone.cpus → t.zone ≡ s.zone
    → t.parts ≡ with_at s.parts cpu part → part.stock ≡ (s.parts cpu).stock → part.reported ≡ word
    → AreStockWords t (slice_set words (report_index cpu) word)
part_report s t words cpu word part are high zone parts stock is =
    let here : t.parts cpu ≡ part = ap (λ (h : ℕ → Part). h cpu) parts ∙ at_same s.parts cpu part in
    report_set s t words cpu word are high zone (ap (λ (x : Part). x.stock) here ∙ stock) (ap (λ (x : Part). x.reported) here ∙ is)
    (λ q ne.
    let there : t.parts q ≡ s.parts q = ap (λ (h : ℕ → Part). h q) parts ∙ at_other s.parts cpu part q ne in
    record { stock = ap (λ (x : Part). x.stock) there; reported = ap (λ (x : Part). x.reported) there })

-- a frame in a phase of the same word leaves the words of frames and visits
phase_kept : (s : State) (f : ℕ) (y : Phase) → word_in_phase y (live_references s f) ≡ word_in_phase (s.phases f) (live_references s f)
    → (m : ℕ) → word_in_phase (with_at s.phases f y m) (live_references s m) ≡ frame_word s m
phase_kept s f y same m = at_each s.phases f y (λ k x. word_in_phase x (live_references s k) ≡ frame_word s k) same (λ k ne. refl) m

one_less : (n m : ℕ) → n ≡ m + 1 → n - 1 ≡ m
one_less n m e = omega arith

positive : (n m : ℕ) → n ≡ m + 1 → 1 ≤ n
positive n m e = omega arith

pub follows_consume : (s : State) (words later : Words) (seat g n : ℕ) → Stands s words → is_legal s seat (Consume g) ≡ true
    → ExchangesStock words seat (HeldBy g (n + 1)) (HeldBy g n) later → Follows s seat (Consume g) Took (with_stock_word words seat (word_of (HeldBy g n)))
follows_consume s words later seat g n stands legal x =
    let tests = consume_tests s seat g legal in
    let range = cpu_range s.zone seat tests.0 in
    let part = s.parts seat in
    let is = held_parts part.stock.group part.stock.pages part.stock.is_drained g (n + 1) (stock_found s words seat (HeldBy g (n + 1)) stands tests.0 x.before_fits x.found) in
    let f = front_of part.list in
    let was = listed_is seat (s.phases f) (front_listed s seat stands.sound (leb-true 1 (length part.list) tests.1)) in
    let less = one_less part.stock.pages n is.1 in
    let t = after s seat (Consume g) Took in
    record {
      answered = (is.0, is.2, positive part.stock.pages n is.1);
      counted = tt;
      frames = frames_same s t words.frames stands.frames (record {
        zone = refl;
        frame = phase_kept s f (consumed seat g) (sym (ap (λ y. word_in_phase y (live_references s f)) was));
        visit = λ cpu. refl;
      });
      stocks = part_stock s t words.stocks seat (paid part) (HeldBy g n) stands.stocks range.1 refl refl
          (λ i. stock_said (is.0 i) (less i) (is.2 i)) x.after_fits refl;
    }

pub follows_consume_drained : (s : State) (words later : Words) (seat g : ℕ) → Stands s words → is_legal s seat (Consume g) ≡ true
    → FindsStock words seat (DrainedOf g) later → Follows s seat (Consume g) Drained words
follows_consume_drained s words later seat g stands legal x =
    let tests = consume_tests s seat g legal in
    let part = s.parts seat in
    let is = drained_parts part.stock.group part.stock.pages part.stock.is_drained g (stock_found s words seat (DrainedOf g) stands tests.0 x.fits x.found) in
    record { answered = is; counted = tt; frames = stands.frames; stocks = stands.stocks }

pub follows_credit : (s : State) (words later : Words) (seat f g n : ℕ) → Stands s words → is_legal s seat (Credit f) ≡ true
    → ExchangesStock words seat (HeldBy g n) (HeldBy g (n + 1)) later
    → Follows s seat (Credit f) Stocked (with_stock_word words seat (word_of (HeldBy g (n + 1))))
follows_credit s words later seat f g n stands legal x =
    let tests = credit_tests s seat f legal in
    let range = cpu_range s.zone seat tests.0 in
    let part = s.parts seat in
    let is = held_parts part.stock.group part.stock.pages part.stock.is_drained g n (stock_found s words seat (HeldBy g n) stands tests.0 x.before_fits x.found) in
    let was = (fresh_is seat (s.phases f) tests.2).1 in
    let t = after s seat (Credit f) Stocked in
    record {
      answered = is.2;
      counted = tt;
      frames = frames_same s t words.frames stands.frames (record {
        zone = refl;
        frame = phase_kept s f (Lent seat OnList) (sym (ap (λ y. word_in_phase y (live_references s f)) was));
        visit = λ cpu. refl;
      });
      stocks = part_stock s t words.stocks seat (credited part f) (HeldBy g (n + 1)) stands.stocks range.1 refl refl
          (λ i. stock_said (is.0 i) (is.1 i + 1) (is.2 i)) x.after_fits refl;
    }

pub follows_credit_drained : (s : State) (words later : Words) (seat f g : ℕ) → Stands s words → is_legal s seat (Credit f) ≡ true
    → FindsStock words seat (DrainedOf g) later → Follows s seat (Credit f) Drained words
follows_credit_drained s words later seat f g stands legal x =
    let tests = credit_tests s seat f legal in
    let part = s.parts seat in
    let is = drained_parts part.stock.group part.stock.pages part.stock.is_drained g (stock_found s words seat (DrainedOf g) stands tests.0 x.fits x.found) in
    record { answered = is.1; counted = tt; frames = stands.frames; stocks = stands.stocks }

pub follows_report : (s : State) (words : Words) (seat n : ℕ) → Stands s words → is_legal s seat (Report n) ≡ true
    → Follows s seat (Report n) Done (with_report_word words seat (report_word_at words seat + n))
follows_report s words seat n stands legal =
    let tests = report_tests s seat n legal in
    let range = cpu_range s.zone seat tests.0 in
    let t = after s seat (Report n) Done in
    record {
      answered = tt;
      counted = tt;
      frames = frames_same s t words.frames stands.frames (record { zone = refl; frame = λ f. refl; visit = λ cpu. refl });
      stocks = part_report s t words.stocks seat (report_word_at words seat + n) (with_report (s.parts seat) n) stands.stocks range.1 refl refl refl
          (ap (λ m. m + n) (sym (stands.stocks.report seat range.0 range.1)));
    }

none_left : (n m : ℕ) → n ≡ m → m - n ≡ 0
none_left n m e = omega arith

pub follows_absorb : (s : State) (words : Words) (seat cpu n : ℕ) → Stands s words → is_legal s seat (Absorb cpu) ≡ true
    → n ≡ report_word_at words cpu → Follows s seat (Absorb cpu) (Pages n) (with_report_word words cpu 0)
follows_absorb s words seat cpu n stands legal found =
    let tests = absorb_tests s seat cpu legal in
    let range = cpu_range s.zone cpu (visited_cpu s words cpu stands tests.1) in
    let is : n ≡ (s.parts cpu).reported = found ∙ stands.stocks.report cpu range.0 range.1 in
    let t = after s seat (Absorb cpu) (Pages n) in
    record {
      answered = is;
      counted = tt;
      frames = frames_same s t words.frames stands.frames (record { zone = refl; frame = λ f. refl; visit = λ q. refl });
      stocks = part_report s t words.stocks cpu 0 (absorbed (s.parts cpu) n) stands.stocks range.1 refl refl refl (none_left n (s.parts cpu).reported is);
    }

pub follows_fill : (s : State) (words : Words) (seat cpu g n : ℕ) → Stands s words → is_legal s seat (Fill cpu g n) ≡ true
    → HasWord (HeldBy g n) → Follows s seat (Fill cpu g n) Done (with_stock_word words cpu (word_of (HeldBy g n)))
follows_fill s words seat cpu g n stands legal fits =
    let tests = fill_tests s seat cpu g n legal in
    let range = cpu_range s.zone cpu (visited_cpu s words cpu stands tests.1) in
    let t = after s seat (Fill cpu g n) Done in
    record {
      answered = tt;
      counted = tt;
      frames = frames_same s t words.frames stands.frames (record { zone = refl; frame = λ f. refl; visit = λ q. refl });
      stocks = part_stock s t words.stocks cpu (filled (s.parts cpu) g n) (HeldBy g n) stands.stocks range.1 refl refl refl fits refl;
    }

pub follows_drain : (s : State) (words later : Words) (seat cpu n : ℕ) → Stands s words → is_legal s seat (DrainStock cpu) ≡ true
    → LeavesDrained words cpu n later → Follows s seat (DrainStock cpu) (Pages n) later
follows_drain s words later seat cpu n stands legal (OfGroup stock g of pages x) =
    let tests = drain_stock_tests s seat cpu legal in
    let range = cpu_range s.zone cpu tests.1 in
    let part = s.parts cpu in
    let is = stock_found s words cpu stock stands tests.1 x.before_fits x.found in
    let group : part.stock.group ≡ Some g = sym (group_by part.stock.group part.stock.pages part.stock.is_drained) ∙ ap group_of is ∙ of in
    let t = after s seat (DrainStock cpu) (Pages n) in
    subst (Follows s seat (DrainStock cpu) (Pages n)) (sym x.later_is) (record {
      answered = tt;
      counted = pages ∙ sym (ap stock_pages_of is) ∙ pages_in part (stands.fits cpu) (stands.sound.booked cpu);
      frames = frames_same s t words.frames stands.frames (record { zone = refl; frame = λ f. refl; visit = λ q. refl });
      stocks = part_stock s t words.stocks cpu (drained part n) (DrainedOf g) stands.stocks range.1 refl refl
          (λ i. stock_said (group i) (part.stock.pages - n) (is_some (group i))) x.after_fits refl;
    })
follows_drain s words later seat cpu n stands legal (OfNone pages x) =
    let tests = drain_stock_tests s seat cpu legal in
    let part = s.parts cpu in
    let is = stock_found s words cpu NoGroup stands tests.1 x.fits x.found in
    let group = none_parts part.stock.group part.stock.pages part.stock.is_drained is in
    let none : part.stock.pages ≡ 0 = no_pages part (stands.fits cpu) (stands.sound.booked cpu) group in
    let left : part.stock.pages - n ≡ part.stock.pages = nothing_less part.stock.pages n none in
    let mark : is_some part.stock.group ≡ part.stock.is_drained = ap is_some group ∙ sym ((stands.fits cpu).mark group) in
    let t = after s seat (DrainStock cpu) (Pages n) in
    subst (Follows s seat (DrainStock cpu) (Pages n)) (sym x.later_is) (record {
      answered = tt;
      counted = pages ∙ sym none;
      frames = frames_same s t words.frames stands.frames (record { zone = refl; frame = λ f. refl; visit = λ q. refl });
      stocks = stocks_same s t words.stocks stands.stocks refl (same_stocks s.parts cpu (drained part n) (record {
        stock = λ i. record { group = part.stock.group; pages = left i; is_drained = mark i };
        reported = refl;
      }));
    })
  where
    nothing_less : (a n : ℕ) → a ≡ 0 → a - n ≡ a
    nothing_less a n e = omega arith
