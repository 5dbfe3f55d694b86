-- Reading takes exactly the words of a value, and reads them again.
use Rattle.std.proofs.Common.{◌≡◌, ◌≢◌, ℕ, ◌^◌, ◌<◌, ◌≤◌, Bool, true, false, cond, ltb, List, [], ◌∷◌, ◌++◌, map, Option, Some, None}
use Rattle.std.proofs.Common.{arith, refl, sym, ap, ap₂, ◌∙◌, append_assoc, subst, ◌⊎◌, inl, inr, bytes_eq, codes, decimal, ltb-true, lt-ltb}
use Rattle.std.specs.List.{AllByRecursion}
use Rattle.std.proofs.lemmas.Fmt.{decimal_is_IsNumeral}
use Rattle.std.proofs.lemmas.Str.Parse.{digit_from_value}
use Rattle.std.specs.Str.Parse.{AllDigits}
use Rattle.std.proofs.lemmas.Slice.Eq.{bytes_eq-Decides}
use Rattle.log_lines.specs.Words.{Size, Wide, GroupAction, OrderAction, bound_of, Word, Numeral, Path, Fits, word_text}
use Rattle.log_lines.specs.Words.{is_path, number, group, order, limit, flag}
use Rattle.log_lines.specs.Reading.{◌>>=◌, ParserOf, front_word, only_if, u64_of, u32_of, wide_at, u32_at, group_number_at, block_order_at, limit_in_word, limit_at, flag_of, flag_at, path_at}
use Rattle.log_lines.proofs.Numbers.{number_again, number_is, only_if_is}

-- the texts of words
abbrev pub texts : List Word → List (List ℕ)
texts words = map word_text words

-- each word can be written
abbrev pub AllFit : List Word → Type 0
AllFit words = AllByRecursion Fits words

-- the texts begin with those of the words, which fit, and the rest follows
pub record Takes (from : List (List ℕ)) (words : List Word) (rest : List (List ℕ)) : Type 0 where
  pub parts : from ≡ texts words ++ rest
  pub fit : AllFit words

-- what reading gives is written by these words, and they are read again
pub record IsCodec {A : Type 0} (read : ParserOf A) (words : A → List Word) : Type 0 where
  pub takes : (from : List (List ℕ)) (x : A) (rest : List (List ℕ)) → read from ≡ Some (x, rest) → Takes from (words x) rest
  pub again : (x : A) (rest : List (List ℕ)) → AllFit (words x) → read (texts (words x) ++ rest) ≡ Some (x, rest)

pub not_true : (b : Bool) → ¬ (b ≡ true) → b ≡ false
not_true true fails = absurd (fails refl)
not_true false fails = refl

-- the value of a step that gave one
pub bind_is : {A B : Type 0} (r : Option A) (f : A → Option B) (y : B) → (r >>= f) ≡ Some y → (x : A) × (r ≡ Some x) × (f x ≡ Some y)
bind_is (Some x) f y e = (x, refl, e)
bind_is None f y e = absurd cc

pub some_is : {A : Type 0} (x y : A) → ◌≡◌ {A = Option A} (Some x) (Some y) → x ≡ y
some_is x y e = cc

-- the first word and the others
pub first_is : (from : List (List ℕ)) (w : List ℕ × List (List ℕ)) → front_word from ≡ Some w → from ≡ w.0 ∷ w.1
first_is [] w e = absurd cc
first_is (word ∷ words) w e = let same : (word, words) ≡ w = some_is (word, words) w e in rw (← same) refl

pub fit_append : (a b : List Word) → AllFit a → AllFit b → AllFit (a ++ b)
fit_append [] b fa fb = fb
fit_append (x ∷ a) b fa fb = (fa.0, fit_append a b fa.1 fb)

pub fit_parts : (a b : List Word) → AllFit (a ++ b) → AllFit a × AllFit b
fit_parts [] b f = (tt, f)
fit_parts (x ∷ a) b f = let rest = fit_parts a b f.1 in ((f.0, rest.0), rest.1)

pub texts_append : (a b : List Word) → texts (a ++ b) ≡ texts a ++ texts b
texts_append [] b = refl
texts_append (x ∷ a) b = ap (λ (ts : List (List ℕ)). word_text x ∷ ts) (texts_append a b)

-- what follows what was taken
pub takes_both : (from : List (List ℕ)) (a : List Word) (middle : List (List ℕ)) (b : List Word) (rest : List (List ℕ))
    → Takes from a middle → Takes middle b rest → Takes from (a ++ b) rest
takes_both from a middle b rest one two = record {
  parts = one.parts ∙ ap (λ (ts : List (List ℕ)). texts a ++ ts) two.parts ∙ sym (append_assoc (texts a) (texts b) rest)
      ∙ ap (λ (ts : List (List ℕ)). ts ++ rest) (sym (texts_append a b));
  fit = fit_append a b one.fit two.fit;
}

-- ---- one value, and two

-- what is made of a value that was read
abbrev pub gives : {A V : Type 0} → (A → V) → A × List (List ℕ) → Option (V × List (List ℕ))
gives f a = Some (f a.0, a.1)

module _ {A V : Type 0} {ra : ParserOf A} {wa : A → List Word} (ca : IsCodec ra wa) (f : A → V) where
  pub one_takes : (from : List (List ℕ)) (v : V) (rest : List (List ℕ)) → (ra from >>= gives f) ≡ Some (v, rest)
      → (a : A) × (f a ≡ v) × Takes from (wa a) rest
  one_takes from v rest e =
      let a = bind_is (ra from) (gives f) (v, rest) e in
      let same = some_is (f a.0.0, a.0.1) (v, rest) a.2 in
      (a.0.0, ap (λ p. p.0) same, ca.takes from a.0.0 rest (a.1 ∙ ap (λ (r : List (List ℕ)). Some (a.0.0, r)) (ap (λ p. p.1) same)))

  pub one_again : (a : A) (rest : List (List ℕ)) → AllFit (wa a) → (ra (texts (wa a) ++ rest) >>= gives f) ≡ Some (f a, rest)
  one_again a rest fit = rw (ca.again a rest fit) refl

module _ {A B V : Type 0} {ra : ParserOf A} {rb : ParserOf B} {wa : A → List Word} {wb : B → List Word}
    (ca : IsCodec ra wa) (cb : IsCodec rb wb) (f : A → B → V) where
  pub two_takes : (from : List (List ℕ)) (v : V) (rest : List (List ℕ)) → (ra from >>= λ a. rb a.1 >>= gives (f a.0)) ≡ Some (v, rest)
      → (a : A) × (b : B) × (f a b ≡ v) × Takes from (wa a ++ wb b) rest
  two_takes from v rest e =
      let a = bind_is (ra from) (λ a. rb a.1 >>= gives (f a.0)) (v, rest) e in
      let b = one_takes cb (f a.0.0) a.0.1 v rest a.2 in
      (a.0.0, b.0, b.1, takes_both from (wa a.0.0) a.0.1 (wb b.0) rest (ca.takes from a.0.0 a.0.1 a.1) b.2)

  pub two_again : (a : A) (b : B) (rest : List (List ℕ)) → AllFit (wa a) → AllFit (wb b)
      → (ra (texts (wa a) ++ (texts (wb b) ++ rest)) >>= λ a. rb a.1 >>= gives (f a.0)) ≡ Some (f a b, rest)
  two_again a b rest fa fb = rw (ca.again a (texts (wb b) ++ rest) fa) (one_again cb (f a) b rest fb)

-- ---- the kinds of words

number_is_below : (bound n : ℕ) (r : Option ℕ) (x : ℕ) → (r >>= λ m. only_if (ltb m bound) m) ≡ Some x → (r ≡ Some x) × (x < bound)
number_is_below bound n r x e =
    let m = bind_is r (λ m. only_if (ltb m bound) m) x e in
    let passed = only_if_is (ltb m.0 bound) m.0 x m.2 in
    (m.1 ∙ ap Some passed.1, rw (← passed.1) (ltb-true m.0 bound passed.0))

u32_is : (word : List ℕ) (n : ℕ) → u32_of word ≡ Some n → (word ≡ decimal n) × (n < 2 ^ 32)
u32_is word n e =
    let below = number_is_below (2 ^ 32) n (u64_of word) n e in
    ((number_is word n below.0).0, below.1)

u32_again : (n : ℕ) → n < 2 ^ 32 → u32_of (decimal n) ≡ Some n
u32_again n lt = rw (number_again n (omega arith), lt-ltb n (2 ^ 32) lt) refl

-- a value, and the words that are left
abbrev keeps : {A : Type 0} → List (List ℕ) → A → Option (A × List (List ℕ))
keeps rest x = Some (x, rest)

-- a word that a test on the word reads
word_codec : {A : Type 0} (test : List ℕ → Option A) (word : A → Word)
    → ((text : List ℕ) (x : A) → test text ≡ Some x → (text ≡ word_text (word x)) × Fits (word x))
    → ((x : A) → Fits (word x) → test (word_text (word x)) ≡ Some x)
    → IsCodec (λ from. front_word from >>= λ w. test w.0 >>= keeps w.1) (λ x. word x ∷ [])
word_codec {A} test word is back = record {
  takes = λ from x rest e.
      let w = bind_is (front_word from) (λ w. test w.0 >>= keeps w.1) (x, rest) e in
      let y = bind_is (test w.0.0) (keeps w.0.1) (x, rest) w.2 in
      let same = some_is (y.0, w.0.1) (x, rest) y.2 in
      let value : y.0 ≡ x = ap (λ p. p.0) same in
      let others : w.0.1 ≡ rest = ap (λ p. p.1) same in
      let read = is w.0.0 x (y.1 ∙ ap Some value) in
      record { parts = first_is from w.0 w.1 ∙ ap₂ (λ (t : List ℕ) (ts : List (List ℕ)). t ∷ ts) read.0 others; fit = (read.1, tt) };
  again = λ x rest fit. rw (back x fit.0) refl;
}

pub wide_codec : IsCodec wide_at (λ n. Numeral Wide n ∷ [])
unfolding wide_at
wide_codec = word_codec u64_of (λ n. Numeral Wide n) (λ text n e. number_is text n e) (λ n fit. number_again n fit)

pub number_codec : IsCodec u32_at (λ n. number n ∷ [])
unfolding u32_at
number_codec = word_codec u32_of number (λ text n e. u32_is text n e) (λ n fit. u32_again n fit)

le_below : (x bound : ℕ) → x < bound → bound ≤ 2 ^ 32 → x < 2 ^ 32
le_below x bound lt le = omega arith

-- a number below a smaller bound
small_codec : (size : Size) → bound_of size ≤ 2 ^ 32
    → IsCodec (λ from. u32_at from >>= λ n. only_if (ltb n.0 (bound_of size)) n.0 >>= keeps n.1) (λ g. Numeral size g ∷ [])
small_codec size le = record {
  takes = λ from x rest e.
      let n = bind_is (u32_at from) (λ n. only_if (ltb n.0 (bound_of size)) n.0 >>= keeps n.1) (x, rest) e in
      let g = bind_is (only_if (ltb n.0.0 (bound_of size)) n.0.0) (keeps n.0.1) (x, rest) n.2 in
      let passed = only_if_is (ltb n.0.0 (bound_of size)) n.0.0 g.0 g.1 in
      let same = some_is (g.0, n.0.1) (x, rest) g.2 in
      let value : n.0.0 ≡ x = passed.1 ∙ ap (λ p. p.0) same in
      let others : n.0.1 ≡ rest = ap (λ p. p.1) same in
      let taken = number_codec.takes from x rest (n.1 ∙ ap₂ (λ (m : ℕ) (ts : List (List ℕ)). Some (m, ts)) value others) in
      record { parts = taken.parts; fit = (rw (← value) (ltb-true n.0.0 (bound_of size) passed.0), tt) };
  again = λ x rest fit. rw (number_codec.again x rest (le_below x (bound_of size) fit.0 le, tt), lt-ltb x (bound_of size) fit.0) refl;
}

pub group_codec : IsCodec group_number_at (λ g. group g ∷ [])
unfolding group_number_at
group_codec = small_codec GroupAction (omega arith)

pub order_codec : IsCodec block_order_at (λ k. order k ∷ [])
unfolding block_order_at
order_codec = small_codec OrderAction (omega arith)

-- ---- words that are no numbers

-- different texts
pub other_text : (x y : List ℕ) → x ≢ y → bytes_eq x y ≡ false
other_text x y other = not_true (bytes_eq x y) (λ same. other ((bytes_eq-Decides x y).0 same))

no_digits : ¬ AllDigits 10 (codes "max")
no_digits a = let bad = digit_from_value 109 a.0 in omega arith

-- how a test went
pub chosen : {A : Type 0} (b : Bool) (x y z : A) → cond b x y ≡ z → ((b ≡ true) × (x ≡ z)) ⊎ ((b ≡ false) × (y ≡ z))
chosen true x y z e = inl (refl, e)
chosen false x y z e = inr (refl, e)

limit_is : (word : List ℕ) (n : Option ℕ) → limit_in_word word ≡ Some n → (word ≡ word_text (limit n)) × Fits (limit n)
limit_is word n e =
    elim (chosen (bytes_eq word (codes "max")) (Some None) (u32_of word >>= λ m. Some (Some m)) (Some n) e) [
      | inl h ↦ subst (λ (k : Option ℕ). (word ≡ word_text (limit k)) × Fits (limit k)) (some_is None n h.1) ((bytes_eq-Decides word (codes "max")).0 h.0, refl)
      | inr h ↦ let m = bind_is (u32_of word) (λ m. Some (Some m)) n h.1 in
          subst (λ (k : Option ℕ). (word ≡ word_text (limit k)) × Fits (limit k)) (some_is (Some m.0) n m.2) (u32_is word m.0 m.1)
    ]

-- no number is written `max`
max_is_no_number : (n : ℕ) → n < 2 ^ 64 → bytes_eq (decimal n) (codes "max") ≡ false
max_is_no_number n lt = other_text (decimal n) (codes "max") (λ same. let digits = (decimal_is_IsNumeral n lt).0.1 in no_digits (rw same at digits))

limit_again : (n : Option ℕ) → Fits (limit n) → limit_in_word (word_text (limit n)) ≡ Some n
limit_again None fit = refl
limit_again (Some n) fit = rw (max_is_no_number n (omega arith), u32_again n fit) refl

pub limit_codec : IsCodec limit_at (λ n. limit n ∷ [])
unfolding limit_at
limit_codec = word_codec limit_in_word limit limit_is limit_again

flag_is : (word : List ℕ) (f : Bool) → flag_of word ≡ Some f → (word ≡ word_text (flag f)) × Fits (flag f)
flag_is word f e =
    elim (chosen (bytes_eq word (codes "0")) (Some false) (only_if (bytes_eq word (codes "1")) true) (Some f) e) [
      | inl h ↦ subst (λ (k : Bool). (word ≡ word_text (flag k)) × Fits (flag k)) (some_is false f h.1) ((bytes_eq-Decides word (codes "0")).0 h.0, refl)
      | inr h ↦ let passed = only_if_is (bytes_eq word (codes "1")) true f h.1 in
          subst (λ (k : Bool). (word ≡ word_text (flag k)) × Fits (flag k)) passed.1 ((bytes_eq-Decides word (codes "1")).0 passed.0, refl)
    ]

flag_again : (f : Bool) → Fits (flag f) → flag_of (word_text (flag f)) ≡ Some f
flag_again true fit = refl
flag_again false fit = refl

pub flag_codec : IsCodec flag_at (λ f. flag f ∷ [])
unfolding flag_at
flag_codec = word_codec flag_of flag flag_is flag_again

pub path_codec : IsCodec path_at (λ p. Path p ∷ [])
unfolding path_at
path_codec = word_codec (λ w. only_if (is_path w) w) Path
    (λ text p e. let passed = only_if_is (is_path text) text p e in (passed.1, rw (← passed.1) passed.0)) (λ p fit. rw fit refl)
