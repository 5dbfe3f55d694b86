-- The words of a state, from those of a state that differs in one word or in none.
use Rattle.std.proofs.Common.{◌≡◌, ◌≢◌, ℕ, ◌+◌, ◌-◌, ◌*◌, ◌<◌, ◌≤◌, List, length, set, sym, ◌∙◌, ap, subst, arith, inl, inr, length-set, get_or-set_other, get_or-set_same}
use Rattle.std.specs.Prelude.{slice_index, slice_set}
use Rattle.std.proofs.lemmas.Bool.{cases_eq}
use Rattle.frame_word.specs.Word.{visit_index}
use Rattle.stock_word.specs.declared.stock.Stock.{Stock}
use Rattle.stock_word.specs.{word_of, HasWord, stock_index, report_index}
use Rattle.step_rules.specs.State.{State, Part}
use Rattle.boot_words.specs.Words.{AreFrameWords, AreStockWords, frame_word, visit_word, stock_in}

-- ---- words of frames and visits

-- the word of each frame and each visit is the same in both states
pub record HasSameFrameWords (s t : State) : Type 0 where
  pub zone : t.zone ≡ s.zone
  pub frame : (f : ℕ) → frame_word t f ≡ frame_word s f
  pub visit : (cpu : ℕ) → visit_word t cpu ≡ visit_word s cpu

pub frames_same : (s t : State) (words : List ℕ) → AreFrameWords s words → HasSameFrameWords s t → AreFrameWords t words
frames_same s t words are same = record {
  wide = subst (λ z. z.frames + z.cpus ≤ length words) (sym same.zone) are.wide;
  frame = λ f below. are.frame f (subst (λ z. f < z.frames) same.zone below) ∙ sym (same.frame f);
  visit = λ cpu low high. ap (λ z. slice_index words (visit_index z.frames cpu)) same.zone ∙ are.visit cpu low (subst (λ z. cpu ≤ z.cpus) same.zone high)
      ∙ sym (same.visit cpu);
}

-- one frame gets this word
pub record HasFrameWord (s t : State) (f word : ℕ) : Type 0 where
  pub here : frame_word t f ≡ word
  pub others : (m : ℕ) → m ≢ f → frame_word t m ≡ frame_word s m

apart : (frames cpu f : ℕ) → f < frames → frames + (cpu - 1) ≢ f
apart frames cpu f below e = absurd (omega (arith, below, e))

pub frame_set : (s t : State) (words : List ℕ) (f word : ℕ) → AreFrameWords s words → f < s.zone.frames → t.zone ≡ s.zone → t.hold ≡ s.hold
    → HasFrameWord s t f word → AreFrameWords t (slice_set words f word)
frame_set s t words f word are below zone hold has = record {
  wide = subst (λ z. z.frames + z.cpus ≤ length (set words f word)) (sym zone) (subst (λ n. s.zone.frames + s.zone.cpus ≤ n) (sym (length-set words f word)) are.wide);
  frame = λ m inside. elim (cases_eq m f) [
    | inl e ↦
        subst (λ (k : ℕ). slice_index (set words f word) k ≡ frame_word t k) (sym e)
        (get_or-set_same words f word 0 (omega (arith, below, are.wide)) ∙ sym has.here)
    | inr ne ↦ get_or-set_other words f m word 0 ne ∙ are.frame m (subst (λ z. m < z.frames) zone inside) ∙ sym (has.others m ne)
  ];
  visit = λ cpu low high.
      ap (λ z. slice_index (set words f word) (visit_index z.frames cpu)) zone
      ∙ get_or-set_other words f (visit_index s.zone.frames cpu) word 0 (apart s.zone.frames cpu f below)
      ∙ are.visit cpu low (subst (λ z. cpu ≤ z.cpus) zone high) ∙ sym (ap (λ h. visit_word (record s { hold = h }) cpu) hold);
}

other_visit : (frames a b : ℕ) → 1 ≤ a → 1 ≤ b → a ≢ b → frames + (a - 1) ≢ frames + (b - 1)
other_visit frames a b la lb ne e = ne (omega (arith, la, lb, e))

not_visit : (frames cpu f : ℕ) → f < frames → f ≢ frames + (cpu - 1)
not_visit frames cpu f below e = absurd (omega (arith, below, e))

-- one visit gets this word
pub visit_set : (s t : State) (words : List ℕ) (cpu word : ℕ) → AreFrameWords s words → 1 ≤ cpu → cpu ≤ s.zone.cpus → t.zone ≡ s.zone
    → ((f : ℕ) → frame_word t f ≡ frame_word s f) → visit_word t cpu ≡ word → ((q : ℕ) → q ≢ cpu → visit_word t q ≡ visit_word s q)
    → AreFrameWords t (slice_set words (visit_index s.zone.frames cpu) word)
visit_set s t words cpu word are low high zone same here others =
    let at = visit_index s.zone.frames cpu in record {
      wide = subst (λ z. z.frames + z.cpus ≤ length (set words at word)) (sym zone) (subst (λ n. s.zone.frames + s.zone.cpus ≤ n) (sym (length-set words at word)) are.wide);
      frame = λ f inside.
          let below = subst (λ z. f < z.frames) zone inside in
          get_or-set_other words at f word 0 (not_visit s.zone.frames cpu f below) ∙ are.frame f below ∙ sym (same f);
      visit = λ q from to. ap (λ z. slice_index (set words at word) (visit_index z.frames q)) zone ∙ elim (cases_eq q cpu) [
        | inl e ↦
            subst (λ (k : ℕ). slice_index (set words at word) (visit_index s.zone.frames k) ≡ visit_word t k) (sym e)
            (get_or-set_same words at word 0 (omega (arith, low, high, are.wide)) ∙ sym here)
        | inr ne ↦
            get_or-set_other words at (visit_index s.zone.frames q) word 0 (other_visit s.zone.frames q cpu from low ne)
            ∙ are.visit q from (subst (λ z. q ≤ z.cpus) zone to) ∙ sym (others q ne)
      ];
    }

-- ---- words of stocks and reports

-- the stock and the reported pages of the part are the same in both
pub record HasSameStock (a b : Part) : Type 0 where
  pub stock : b.stock ≡ a.stock
  pub reported : b.reported ≡ a.reported

stock_kept : (a b : Part) → HasSameStock a b → stock_in b ≡ stock_in a
stock_kept a b same = ap (λ st. stock_in (record a { stock = st })) same.stock

pub stocks_same : (s t : State) (words : List ℕ) → AreStockWords s words → t.zone ≡ s.zone → ((cpu : ℕ) → HasSameStock (s.parts cpu) (t.parts cpu))
    → AreStockWords t words
stocks_same s t words are zone same = record {
  wide = subst (λ z. 16 * (z.cpus + 1) ≤ length words) (sym zone) are.wide;
  has_word = λ cpu low high. subst HasWord (sym (stock_kept _ _ (same cpu))) (are.has_word cpu low (subst (λ z. cpu ≤ z.cpus) zone high));
  stock = λ cpu low high. are.stock cpu low (subst (λ z. cpu ≤ z.cpus) zone high) ∙ sym (ap word_of (stock_kept _ _ (same cpu)));
  report = λ cpu low high. are.report cpu low (subst (λ z. cpu ≤ z.cpus) zone high) ∙ sym (same cpu).reported;
}

stock_apart : (a b : ℕ) → a ≢ b → 16 * a ≢ 16 * b
stock_apart a b ne e = ne (omega (arith, e))

report_apart : (a b : ℕ) → 16 * a + 1 ≢ 16 * b
report_apart a b e = absurd (omega (arith, e))

stock_not_report : (a b : ℕ) → 16 * a ≢ 16 * b + 1
stock_not_report a b e = absurd (omega (arith, e))

reports_apart : (a b : ℕ) → a ≢ b → 16 * a + 1 ≢ 16 * b + 1
reports_apart a b ne e = ne (omega (arith, e))

-- one CPU gets this stock
pub stock_set : (s t : State) (words : List ℕ) (cpu : ℕ) (stock : Stock) → AreStockWords s words → cpu ≤ s.zone.cpus → t.zone ≡ s.zone
    → stock_in (t.parts cpu) ≡ stock → HasWord stock → (t.parts cpu).reported ≡ (s.parts cpu).reported
    → ((q : ℕ) → q ≢ cpu → HasSameStock (s.parts q) (t.parts q)) → AreStockWords t (slice_set words (stock_index cpu) (word_of stock))
stock_set s t words cpu stock are high zone is fits reported others =
    let at = stock_index cpu in
    let word = word_of stock in record {
      wide = subst (λ z. 16 * (z.cpus + 1) ≤ length (set words at word)) (sym zone) (subst (λ n. 16 * (s.zone.cpus + 1) ≤ n) (sym (length-set words at word)) are.wide);
      has_word = λ q from to. elim (cases_eq q cpu) [
        | inl e ↦ subst (λ k. HasWord (stock_in (t.parts k))) (sym e) (subst HasWord (sym is) fits)
        | inr ne ↦ subst HasWord (sym (stock_kept _ _ (others q ne))) (are.has_word q from (subst (λ z. q ≤ z.cpus) zone to))
      ];
      stock = λ q from to. elim (cases_eq q cpu) [
        | inl e ↦
            subst (λ (k : ℕ). slice_index (set words at word) (stock_index k) ≡ word_of (stock_in (t.parts k))) (sym e)
            (get_or-set_same words at word 0 (omega (arith, high, are.wide)) ∙ sym (ap word_of is))
        | inr ne ↦
            get_or-set_other words at (stock_index q) word 0 (stock_apart q cpu ne)
            ∙ are.stock q from (subst (λ z. q ≤ z.cpus) zone to) ∙ sym (ap word_of (stock_kept _ _ (others q ne)))
      ];
      report = λ q from to. get_or-set_other words at (report_index q) word 0 (report_apart q cpu)
          ∙ are.report q from (subst (λ z. q ≤ z.cpus) zone to) ∙ sym (elim (cases_eq q cpu) [
            | inl e ↦ subst (λ (k : ℕ). (t.parts k).reported ≡ (s.parts k).reported) (sym e) reported
            | inr ne ↦ (others q ne).reported
          ]);
    }

-- one CPU gets this report
pub report_set : (s t : State) (words : List ℕ) (cpu word : ℕ) → AreStockWords s words → cpu ≤ s.zone.cpus → t.zone ≡ s.zone
    → (t.parts cpu).stock ≡ (s.parts cpu).stock → (t.parts cpu).reported ≡ word
    → ((q : ℕ) → q ≢ cpu → HasSameStock (s.parts q) (t.parts q)) → AreStockWords t (slice_set words (report_index cpu) word)
report_set s t words cpu word are high zone stock is others =
    let at = report_index cpu in
    let kept : (q : ℕ) → stock_in (t.parts q) ≡ stock_in (s.parts q) = λ q. elim (cases_eq q cpu) [
      | inl e ↦ subst (λ (k : ℕ). stock_in (t.parts k) ≡ stock_in (s.parts k)) (sym e) (ap (λ st. stock_in (record (s.parts cpu) { stock = st })) stock)
      | inr ne ↦ stock_kept _ _ (others q ne)
    ] in record {
      wide = subst (λ z. 16 * (z.cpus + 1) ≤ length (set words at word)) (sym zone) (subst (λ n. 16 * (s.zone.cpus + 1) ≤ n) (sym (length-set words at word)) are.wide);
      has_word = λ q from to. subst HasWord (sym (kept q)) (are.has_word q from (subst (λ z. q ≤ z.cpus) zone to));
      stock = λ q from to. get_or-set_other words at (stock_index q) word 0 (stock_not_report q cpu)
          ∙ are.stock q from (subst (λ z. q ≤ z.cpus) zone to) ∙ sym (ap word_of (kept q));
      report = λ q from to. elim (cases_eq q cpu) [
        | inl e ↦
            subst (λ (k : ℕ). slice_index (set words at word) (report_index k) ≡ (t.parts k).reported) (sym e)
            (get_or-set_same words at word 0 (omega (arith, high, are.wide)) ∙ sym is)
        | inr ne ↦
            get_or-set_other words at (report_index q) word 0 (reports_apart q cpu ne)
            ∙ are.report q from (subst (λ z. q ≤ z.cpus) zone to) ∙ sym (others q ne).reported
      ];
    }
