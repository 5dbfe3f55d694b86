-- References, stocks and books are what a run counts.
use Rattle.std.proofs.Common.{◌≡◌, ℕ, ◌+◌, ◌-◌, ◌≤◌, ◌&&◌, ◌||◌, ◌==◌, Bool, true, false, [], ◌∷◌, refl, sym, ◌∙◌, ap, subst, arith, inl, inr, cond, eq-eqb}
use Rattle.std.specs.Prelude.{nat_le}
use Rattle.std.specs.List.{fold}
use Rattle.std.proofs.lemmas.Bool.{cases_eq, ne_eqb, and_parts, leb-true}
use Rattle.step_rules.specs.declared.step.Step.{Step}
use Rattle.step_rules.specs.declared.step.Action.{Action}
use Rattle.step_rules.specs.declared.step.Action.TheVariants.{Lock, Get, Put, Freeze, Unfreeze, TakeIn, PassBack, Consume, Credit, Report}
use Rattle.step_rules.specs.declared.step.Action.TheVariants.{Absorb, Fill, DrainStock}
use Rattle.step_rules.specs.declared.step.Answer.{Answer}
use Rattle.step_rules.specs.declared.step.Answer.TheVariants.{Illegal, Done, Held, Left, Last, Took, Stocked, Pages}
use Rattle.step_rules.specs.{Zone, Part, at_boot, with_at, is_legal, IsAnswer, IsCounted, Allows, takes_fill, is_of_group, Run, after, state_of}
use Rattle.step_rules.specs.{IsLegalRun, with_back, paid, credited, filled, drained, count_at, references_gained, references_lost, stock_gained}
use Rattle.step_rules.specs.{stock_lost, book_gained, book_lost, counted, ReferencesAreCounted, StocksAreCounted, BooksAreCounted, KeepsInvariant}
use Rattle.step_rules.specs.State.{State}
use Rattle.step_rules.proofs.LegalTests.{fill_tests, freeze_tests, put_tests}
use Rattle.step_rules.proofs.Basics.{at_same, at_other}
use Rattle.step_rules.proofs.PhaseLemmas.{equal_test}
use Rattle.step_rules.proofs.Sums.{none_if}
use Rattle.step_rules.proofs.Referring.{Referring, changed, changed_others, changed_here}
use Rattle.step_rules.proofs.Runs.{after_illegal, allowed, kept_along, sound_boot}

-- two sums told at once are told each
pair_first : (f g : Step × Answer → ℕ) (run : Run) (t : ℕ × ℕ) →
    (fold (λ (t : ℕ × ℕ) (e : Step × Answer). (t.0 + f e, t.1 + g e)) t run).0 ≡ fold (λ (n : ℕ) (e : Step × Answer). n + f e) t.0 run
pair_first f g [] t = refl
pair_first f g (e ∷ run) t = pair_first f g run (t.0 + f e, t.1 + g e)

pair_last : (f g : Step × Answer → ℕ) (run : Run) (t : ℕ × ℕ) →
    (fold (λ (t : ℕ × ℕ) (e : Step × Answer). (t.0 + f e, t.1 + g e)) t run).1 ≡ fold (λ (n : ℕ) (e : Step × Answer). n + g e) t.1 run
pair_last f g [] t = refl
pair_last f g (e ∷ run) t = pair_last f g run (t.0 + f e, t.1 + g e)

abbrev Count : Type 0
Count = ℕ → Action → Answer → ℕ

-- a number of the state that each step changes by what it counts in and out is what the run counts
counts_balance : (gain loss : Count) (F : State → ℕ) → ((zone : Zone) → F (at_boot zone) ≡ 0) →
    ((s : State) (seat : ℕ) (action : Action) (answer : Answer) → KeepsInvariant s → Allows s seat action answer →
    F s + gain seat action answer ≡ F (after s seat action answer) + loss seat action answer) →
    (zone : Zone) (run : Run) → IsLegalRun zone run → counted gain run ≡ F (state_of zone run) + counted loss run
counts_balance gain loss F boot each zone run legal =
    let f : Step × Answer → ℕ = λ e. gain e.0.seat e.0.action e.1 in
    let g : Step × Answer → ℕ = λ e. loss e.0.seat e.0.action e.1 in
    let kept = kept_along (λ (t : ℕ × ℕ) (e : Step × Answer). (t.0 + f e, t.1 + g e)) (λ s t. t.0 ≡ F s + t.1)
    (λ s t e sound holds ok. let change = each s e.0.seat e.0.action e.1 sound ok in omega arith)
    (at_boot zone) (0, 0) run (sound_boot zone) (let z = boot zone in omega arith) legal in
    sym (pair_first f g run (0, 0)) ∙ kept.1 ∙ ap (λ n. F (state_of zone run) + n) (pair_last f g run (0, 0))

-- an illegal step counts nothing
no_references_in : (k m seat : ℕ) (action : Action) → references_gained k m seat action Illegal ≡ 0
no_references_in k m seat Lock = refl
no_references_in k m seat action = refl

no_references_out : (k m seat : ℕ) (action : Action) → references_lost k m seat action Illegal ≡ 0
no_references_out k m seat Lock = refl
no_references_out k m seat action = refl

no_stock_in : (p seat : ℕ) (action : Action) → stock_gained p seat action Illegal ≡ 0
no_stock_in p seat Lock = refl
no_stock_in p seat action = refl

no_stock_out : (p seat : ℕ) (action : Action) → stock_lost p seat action Illegal ≡ 0
no_stock_out p seat Lock = refl
no_stock_out p seat action = refl

no_book_in : (p seat : ℕ) (action : Action) → book_gained p seat action Illegal ≡ 0
no_book_in p seat Lock = refl
no_book_in p seat action = refl

no_book_out : (p seat : ℕ) (action : Action) → book_lost p seat action Illegal ≡ 0
no_book_out p seat Lock = refl
no_book_out p seat action = refl

count_here : (a b k m n : ℕ) → a ≡ k → b ≡ m → count_at a b k m n ≡ n
count_here a b k m n e d = rw (eq-eqb a k e, eq-eqb b m d)

count_not : (a b k m n : ℕ) → (a ≡ k → b ≡ m → ⊥) → count_at a b k m n ≡ 0
count_not a b k m n ne =
    elim (cases_eq a k) [
      | inl e ↦ rw (eq-eqb a k e, ne_eqb b m (ne e))
      | inr other ↦ rw (ne_eqb a k other)
    ]

-- one seat's references on one frame change
reference_changes : (references : Referring) (seat f n i o k m : ℕ) → references seat f + i ≡ n + o →
    references k m + count_at seat f k m i ≡ changed references seat f n k m + count_at seat f k m o
reference_changes references seat f n i o k m e =
    elim (cases_eq seat k) [
      | inl same ↦ elim (cases_eq f m) [
        | inl here ↦
            let a = count_here seat f k m i same here in
            let b = count_here seat f k m o same here in
            let c : changed references seat f n k m ≡ n = (λ j. changed references seat f n (same_back same j) (same_back here j))
            ∙ changed_here references seat f n in
            let d : references k m ≡ references seat f = (λ j. references (same_back same j) (same_back here j)) in
            omega arith
        | inr not_here ↦
            let a = count_not seat f k m i (λ _ d. not_here d) in
            let b = count_not seat f k m o (λ _ d. not_here d) in
            let c = changed_others references seat f n m (λ d. not_here (sym d)) k in
            omega arith
      ]
      | inr other ↦
          let a = count_not seat f k m i (λ d _. other d) in
          let b = count_not seat f k m o (λ d _. other d) in
          let c : changed references seat f n k m ≡ references k m =
          ap (λ (r : ℕ → ℕ). r m) (at_other references seat (with_at (references seat) f n) k (λ d. other (sym d))) in
          omega arith
    ]
  where
    same_back : {a b : ℕ} → a ≡ b → b ≡ a
    same_back e = sym e

count_zero : (a b k m : ℕ) → count_at a b k m 0 ≡ 0
count_zero a b k m = same (a == k && b == m)
  where
    same : (t : Bool) → ◌≡◌ {A = ℕ} (cond t 0 0) 0
    same true = refl
    same false = refl

-- references given, and references taken
given : (references : Referring) (seat f n k m : ℕ) → references k m + count_at seat f k m n ≡ changed references seat f (references seat f + n) k m + 0
given references seat f n k m = let a = reference_changes references seat f (references seat f + n) n 0 k m (omega arith) in let b =
    count_zero seat f k m in omega arith

taken : (references : Referring) (seat f n k m : ℕ) → n ≤ references seat f →
    references k m + 0 ≡ changed references seat f (references seat f - n) k m + count_at seat f k m n
taken references seat f n k m some = let a = reference_changes references seat f (references seat f - n) 0 n k m (omega arith) in let b =
    count_zero seat f k m in omega arith

references_made : (k m : ℕ) (s : State) (seat : ℕ) (action : Action) (answer : Answer) → is_legal s seat action ≡ true →
    s.references k m + references_gained k m seat action answer ≡ (after s seat action answer).references k m + references_lost k m seat action answer
references_made k m s seat action Illegal legal =
    let a = no_references_in k m seat action in
    let b = no_references_out k m seat action in
    let c : (after s seat action Illegal).references k m ≡ s.references k m = ap (λ (t : State). t.references k m) (after_illegal s seat action) in
    omega arith
references_made k m s seat (Get f) Held legal = given s.references seat f 1 k m
references_made k m s seat (Unfreeze f n) Done legal = given s.references 0 f n k m
references_made k m s seat (Put f) (Left n) legal =
    let some : nat_le 1 (s.references seat f) ≡ true = (put_tests s seat f legal).2 in
    taken s.references seat f 1 k m (leb-true 1 (s.references seat f) some)
references_made k m s seat (Put f) Last legal =
    let some : nat_le 1 (s.references seat f) ≡ true = (put_tests s seat f legal).2 in
    taken s.references seat f 1 k m (leb-true 1 (s.references seat f) some)
references_made k m s seat (Freeze f n) Done legal =
    let some : nat_le n (s.references 0 f) ≡ true = (freeze_tests s seat f n legal).3 in
    taken s.references 0 f n k m (leb-true n (s.references 0 f) some)
references_made k m s seat Lock answer legal = refl
references_made k m s seat action answer legal = refl

pub references_are_counted : ReferencesAreCounted
references_are_counted zone run legal seat f =
    counts_balance (references_gained seat f) (references_lost seat f) (λ s. s.references seat f) (λ z. refl)
    (λ s k action answer sound ok. by_answer s k action answer ok) zone run legal
  where
    by_answer : (s : State) (k : ℕ) (action : Action) (answer : Answer) → Allows s k action answer →
        s.references seat f + references_gained seat f k action answer ≡ (after s k action answer).references seat f + references_lost seat f k action answer
    by_answer s k action answer ok =
        elim (allowed s k action answer ok) [
          | inl illegal ↦
              subst (λ (a : Answer). s.references seat f + references_gained seat f k action a ≡ (after s k action a).references seat f
              + references_lost seat f k action a) (sym illegal)
              (let a = no_references_in seat f k action in
              let b = no_references_out seat f k action in
              let c : (after s k action Illegal).references seat f ≡ s.references seat f = ap (λ (t : State). t.references seat f) (after_illegal s k action) in
              omega arith)
          | inr made ↦ references_made seat f s k action answer made.legal
        ]

-- one CPU's part changes
part_changes : (T : Part → ℕ) (parts : ℕ → Part) (q p : ℕ) (part : Part) (i o : ℕ) → T (parts q) + i ≡ T part + o →
    T (parts p) + cond (q == p) i 0 ≡ T (with_at parts q part p) + cond (q == p) o 0
part_changes T parts q p part i o e =
    elim (cases_eq q p) [
      | inl same ↦
          let a : T (with_at parts q part p) ≡ T part = ap (λ (k : ℕ). T (with_at parts q part k)) (sym same) ∙ ap T (at_same parts q part) in
          let b : T (parts p) ≡ T (parts q) = ap (λ (k : ℕ). T (parts k)) (sym same) in
          rw (eq-eqb q p same) (omega arith)
      | inr ne ↦
          let a : T (with_at parts q part p) ≡ T (parts p) = ap T (at_other parts q part p (λ d. ne (sym d))) in
          rw (ne_eqb q p ne) (omega arith)
    ]

pub gained : (T : Part → ℕ) (parts : ℕ → Part) (q p : ℕ) (part : Part) (n : ℕ) → T (parts q) + n ≡ T part →
    T (parts p) + cond (q == p) n 0 ≡ T (with_at parts q part p) + 0
gained T parts q p part n e = let a = part_changes T parts q p part n 0 (omega arith) in let b = none_if (q == p) 0 refl in omega arith

pub lost : (T : Part → ℕ) (parts : ℕ → Part) (q p : ℕ) (part : Part) (n : ℕ) → T (parts q) ≡ T part + n →
    T (parts p) + 0 ≡ T (with_at parts q part p) + cond (q == p) n 0
lost T parts q p part n e = let a = part_changes T parts q p part 0 n (omega arith) in let b = none_if (q == p) 0 refl in omega arith

pub stayed : (T : Part → ℕ) (parts : ℕ → Part) (q p : ℕ) (part : Part) → T (parts q) ≡ T part → T (parts p) + 0 ≡ T (with_at parts q part p) + 0
stayed T parts q p part e = let a = part_changes T parts q p part 0 0 (omega arith) in let b = none_if (q == p) 0 refl in omega arith

pub stayed_last : (T : Part → ℕ) (parts : ℕ → Part) (q p f : ℕ) → T (parts q) ≡ T (with_back (parts q) f) →
    T (parts p) + 0 ≡ T (cond (q == 0) parts (with_at parts q (with_back (parts q) f)) p) + 0
stayed_last T parts q p f e = by_seat (q == 0)
  where
    by_seat : (b : Bool) → T (parts p) + 0 ≡ T (cond b parts (with_at parts q (with_back (parts q) f)) p) + 0
    by_seat true = refl
    by_seat false = stayed T parts q p (with_back (parts q) f) e

-- the pages of a stock
abbrev pages_in : Part → ℕ
pages_in part = part.stock.pages

stock_made : (p : ℕ) (s : State) (seat : ℕ) (action : Action) (answer : Answer) → is_legal s seat action ≡ true → IsAnswer s seat action answer →
    IsCounted s action answer →
    pages_in (s.parts p) + stock_gained p seat action answer ≡ pages_in ((after s seat action answer).parts p) + stock_lost p seat action answer
stock_made p s seat action Illegal legal ok count =
    let a = no_stock_in p seat action in
    let b = no_stock_out p seat action in
    let c : pages_in ((after s seat action Illegal).parts p) ≡ pages_in (s.parts p) = ap (λ (t : State). pages_in (t.parts p)) (after_illegal s seat action) in
    omega arith
stock_made p s seat (Put f) Last legal ok count = stayed_last pages_in s.parts seat p f refl
stock_made p s seat (TakeIn f) Done legal ok count = stayed pages_in s.parts seat p _ refl
stock_made p s seat (PassBack f) Done legal ok count = stayed pages_in s.parts seat p _ refl
stock_made p s seat (Consume g) Took legal ok count = let some = ok.2 in lost pages_in s.parts seat p (paid (s.parts seat)) 1 (omega arith)
stock_made p s seat (Credit f) Stocked legal ok count = gained pages_in s.parts seat p (credited (s.parts seat) f) 1 refl
stock_made p s seat (Report n) Done legal ok count = stayed pages_in s.parts seat p _ refl
stock_made p s seat (Absorb q) (Pages n) legal ok count = stayed pages_in s.parts q p _ refl
stock_made p s seat (Fill q g n) Done legal ok count =
    let may : takes_fill (s.parts q) g ≡ true = (fill_tests s seat q g n legal).3 in
    let none : (s.parts q).stock.pages ≡ 0 =
    equal_test (s.parts q).stock.pages 0 (and_parts ((s.parts q).stock.pages == 0)
    ((s.parts q).book == 0 || is_of_group (s.parts q).stock.group g) may).0 in
    gained pages_in s.parts q p (filled (s.parts q) g n) n (omega arith)
stock_made p s seat (DrainStock q) (Pages n) legal ok count = lost pages_in s.parts q p (drained (s.parts q) n) n (omega arith)
stock_made p s seat Lock answer legal ok count = refl
stock_made p s seat action answer legal ok count = refl

pub stocks_are_counted : StocksAreCounted
stocks_are_counted zone run legal p =
    counts_balance (stock_gained p) (stock_lost p) (λ s. pages_in (s.parts p)) (λ z. refl) (λ s k action answer sound ok. by_answer s k action answer ok) zone run legal
  where
    by_answer : (s : State) (k : ℕ) (action : Action) (answer : Answer) → Allows s k action answer →
        pages_in (s.parts p) + stock_gained p k action answer ≡ pages_in ((after s k action answer).parts p) + stock_lost p k action answer
    by_answer s k action answer ok =
        elim (allowed s k action answer ok) [
          | inl illegal ↦
              subst (λ (a : Answer). pages_in (s.parts p) + stock_gained p k action a ≡ pages_in ((after s k action a).parts p) + stock_lost p k action a)
              (sym illegal)
              (let a = no_stock_in p k action in
              let b = no_stock_out p k action in
              let c : pages_in ((after s k action Illegal).parts p) ≡ pages_in (s.parts p) =
              ap (λ (t : State). pages_in (t.parts p)) (after_illegal s k action) in
              omega arith)
          | inr made ↦ stock_made p s k action answer made.legal made.answered made.counted
        ]

-- the book of a CPU
abbrev book_in_part : Part → ℕ
book_in_part part = part.book

book_made : (p : ℕ) (s : State) (seat : ℕ) (action : Action) (answer : Answer) → KeepsInvariant s → is_legal s seat action ≡ true →
    IsAnswer s seat action answer → IsCounted s action answer →
    book_in_part (s.parts p) + book_gained p seat action answer ≡ book_in_part ((after s seat action answer).parts p) + book_lost p seat action answer
book_made p s seat action Illegal sound legal ok count =
    let a = no_book_in p seat action in
    let b = no_book_out p seat action in
    let c : book_in_part ((after s seat action Illegal).parts p) ≡ book_in_part (s.parts p) =
    ap (λ (t : State). book_in_part (t.parts p)) (after_illegal s seat action) in
    omega arith
book_made p s seat (Put f) Last sound legal ok count = stayed_last book_in_part s.parts seat p f refl
book_made p s seat (TakeIn f) Done sound legal ok count = stayed book_in_part s.parts seat p _ refl
book_made p s seat (PassBack f) Done sound legal ok count = stayed book_in_part s.parts seat p _ refl
book_made p s seat (Consume g) Took sound legal ok count = stayed book_in_part s.parts seat p _ refl
book_made p s seat (Credit f) Stocked sound legal ok count = stayed book_in_part s.parts seat p _ refl
book_made p s seat (Report n) Done sound legal ok count = stayed book_in_part s.parts seat p _ refl
book_made p s seat (Absorb q) (Pages n) sound legal ok count =
    let book = sound.booked q in
    lost book_in_part s.parts q p (record (s.parts q) { book = (s.parts q).book - n; reported = (s.parts q).reported - n }) n (omega arith)
book_made p s seat (Fill q g n) Done sound legal ok count = gained book_in_part s.parts q p (filled (s.parts q) g n) n refl
book_made p s seat (DrainStock q) (Pages n) sound legal ok count =
    let book = sound.booked q in
    lost book_in_part s.parts q p (drained (s.parts q) n) n (omega arith)
book_made p s seat Lock answer sound legal ok count = refl
book_made p s seat action answer sound legal ok count = refl

pub books_are_counted : BooksAreCounted
books_are_counted zone run legal p =
    counts_balance (book_gained p) (book_lost p) (λ s. book_in_part (s.parts p)) (λ z. refl) by_answer zone run legal
  where
    by_answer : (s : State) (k : ℕ) (action : Action) (answer : Answer) → KeepsInvariant s → Allows s k action answer →
        book_in_part (s.parts p) + book_gained p k action answer ≡ book_in_part ((after s k action answer).parts p) + book_lost p k action answer
    by_answer s k action answer sound ok =
        elim (allowed s k action answer ok) [
          | inl illegal ↦
              subst (λ (a : Answer). book_in_part (s.parts p) + book_gained p k action a ≡ book_in_part ((after s k action a).parts p)
              + book_lost p k action a) (sym illegal)
              (let a = no_book_in p k action in
              let b = no_book_out p k action in
              let c : book_in_part ((after s k action Illegal).parts p) ≡ book_in_part (s.parts p) =
              ap (λ (t : State). book_in_part (t.parts p)) (after_illegal s k action) in
              omega arith)
          | inr made ↦ book_made p s k action answer sound made.legal made.answered made.counted
        ]
