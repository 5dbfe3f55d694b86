-- The pages booked to the stocks of each group, and the sums that count them, after one part changed. Serves each call that
-- fills, drains or absorbs.
use Rattle.std.proofs.Common.{◌≡◌, ℕ, ◌+◌, ◌-◌, ◌<◌, ◌≤◌, ◌==◌, Bool, true, false, Some, None, List, cond, get_or, refl, sym, ap, ◌∙◌, subst, inl, inr, arith, eq-eqb}
use Rattle.std.specs.Prelude.{slice_set}
use Rattle.std.proofs.lemmas.Bool.{cases_eq, ne_eqb, cond-true, cond-false}
use Rattle.std.proofs.lemmas.List.{get_or-set_same, get_or-set_other, length-set}
use Rattle.step_rules.specs.State.{Part, sum_to, with_at}
use Rattle.step_rules.proofs.Basics.{at_through}
use Rattle.step_rules.proofs.Sums.{sum_change, sum_part}
use Rattle.mem_machine.specs.{one_if_is, booked, pages_booked, AreBooked}

-- ---- what one stock counts

pub counts_own : (h g : ℕ) → h ≡ g → one_if_is h (Some g) ≡ 1
counts_own h g e = cond-true (g == h) 1 0 (eq-eqb g h (sym e))

pub counts_other : (h g : ℕ) → (h ≡ g → ⊥) → one_if_is h (Some g) ≡ 0
counts_other h g ne = cond-false (g == h) 1 0 (ne_eqb g h (λ e. ne (sym e)))

booked_is : (h : ℕ) (part : Part) (c : ℕ) → one_if_is h part.stock.group ≡ c → booked h part ≡ cond (c == 0) 0 part.book
booked_is h part c is = ap (λ (k : ℕ). cond (k == 0) 0 part.book) is

pub booked_none : (h : ℕ) (part : Part) → part.stock.group ≡ None → booked h part ≡ 0
booked_none h part none = booked_is h part 0 (ap (one_if_is h) none)

pub booked_own : (g : ℕ) (part : Part) → part.stock.group ≡ Some g → booked g part ≡ part.book
booked_own g part group = booked_is g part 1 (ap (one_if_is g) group ∙ counts_own g g refl)

-- the book of a stock of the group g, as any group counts it
booked_of : (h g : ℕ) (part : Part) → part.stock.group ≡ Some g → booked h part ≡ cond (h == g) part.book 0
booked_of h g part group = elim (cases_eq h g) [
  | inl e ↦ booked_is h part 1 (ap (one_if_is h) group ∙ counts_own h g e) ∙ sym (cond-true (h == g) part.book 0 (eq-eqb h g e))
  | inr ne ↦ booked_is h part 0 (ap (one_if_is h) group ∙ counts_other h g ne) ∙ sym (cond-false (h == g) part.book 0 (ne_eqb h g ne))
]

booked_empty : (h : ℕ) (part : Part) → part.book ≡ 0 → booked h part ≡ 0
booked_empty h part empty = ap (λ (x : ℕ). cond (one_if_is h part.stock.group == 0) 0 x) empty ∙ same (one_if_is h part.stock.group == 0)
  where
    same : (b : Bool) → ◌≡◌ {A = ℕ} (cond b 0 0) 0
    same true = refl
    same false = refl

cond_split : (b : Bool) (x y z : ℕ) → x + y ≡ z → cond b x 0 + cond b y 0 ≡ cond b z 0
cond_split true x y z e = e
cond_split false x y z e = refl

-- parts with the same books and groups have the same pages booked
pub books_same : (cpus : ℕ) (a b : ℕ → Part) → ((k : ℕ) → (b k).book ≡ (a k).book) → ((k : ℕ) → (b k).stock.group ≡ (a k).stock.group) → (h : ℕ)
    → pages_booked cpus b h ≡ pages_booked cpus a h
books_same cpus a b book group h = ap (λ (f : ℕ → ℕ). sum_to (cpus + 1) f) (λ i. λ k. cond (one_if_is h (group k i) == 0) 0 (book k i))

-- ---- the sums

pub sums_same : {room : ℕ} (cpus : ℕ) (a b : ℕ → Part) (sums : List ℕ) → AreBooked room cpus a sums → ((h : ℕ) → pages_booked cpus b h ≡ pages_booked cpus a h)
    → AreBooked room cpus b sums
sums_same cpus a b sums are same = record { size = are.size; each = λ h. are.each h ∙ sym (same h) }

-- the sum of one group changes
sums_else : {room : ℕ} (cpus : ℕ) (a b : ℕ → Part) (sums : List ℕ) (g x : ℕ) → AreBooked room cpus a sums → g < room → x ≡ pages_booked cpus b g
    → ((h : ℕ) → (h ≡ g → ⊥) → pages_booked cpus b h ≡ pages_booked cpus a h) → AreBooked room cpus b (slice_set sums g x)
sums_else cpus a b sums g x are inside here others = record {
  size = length-set sums g x ∙ are.size;
  each = λ h. elim (cases_eq h g) [
    | inl e ↦
        subst (λ (k : ℕ). get_or (slice_set sums g x) k 0 ≡ pages_booked cpus b k) (sym e) (get_or-set_same sums g x 0 (let s = are.size in omega (arith, s, inside)) ∙ here)
    | inr ne ↦ get_or-set_other sums g h x 0 ne ∙ are.each h ∙ sym (others h ne)
  ];
}

-- ---- after one part changed

module _ (cpus : ℕ) (parts : ℕ → Part) (q : ℕ) (inside : q ≤ cpus) where
  books_move : (new : Part) (h : ℕ) → pages_booked cpus (with_at parts q new) h + booked h (parts q) ≡ pages_booked cpus parts h + booked h new
  books_move new h =
      ap (λ (f : ℕ → ℕ). sum_to (cpus + 1) f + booked h (parts q)) (at_through (booked h) parts q new)
      ∙ sum_change (cpus + 1) (λ p. booked h (parts p)) q (booked h new) (omega (arith, inside))

  -- what is booked to a stock is booked to its group
  pub book_within : (g : ℕ) → (parts q).stock.group ≡ Some g → (parts q).book ≤ pages_booked cpus parts g
  book_within g group =
      let own = booked_own g (parts q) group in
      let part = sum_part (cpus + 1) (λ p. booked g (parts p)) q (omega (arith, inside)) in
      omega (arith, own, part)

  -- nothing is booked to a stock of no group, before or after
  pub books_none : (new : Part) → (parts q).stock.group ≡ None → new.stock.group ≡ None → (h : ℕ) → pages_booked cpus (with_at parts q new) h ≡ pages_booked cpus parts h
  books_none new was is h =
      let move = books_move new h in let a = booked_none h (parts q) was in let b = booked_none h new is in omega (arith, move, a, b)

  -- a book of the group has this many pages less
  module _ (new : Part) (g k : ℕ) (was : (parts q).stock.group ≡ Some g) (is : new.stock.group ≡ Some g) (less : new.book + k ≡ (parts q).book) where
    pub books_less : (h : ℕ) → pages_booked cpus parts h ≡ pages_booked cpus (with_at parts q new) h + cond (h == g) k 0
    books_less h =
        let move = books_move new h in
        let a = booked_of h g (parts q) was in
        let b = booked_of h g new is in
        let split = cond_split (h == g) new.book k (parts q).book less in
        omega (arith, move, a, b, split)

    pub sums_less : {room : ℕ} (sums : List ℕ) → AreBooked room cpus parts sums → g < room → AreBooked room cpus (with_at parts q new) (slice_set sums g (get_or sums g 0 - k))
    sums_less sums are fits = sums_else cpus parts (with_at parts q new) sums g (get_or sums g 0 - k) are fits
        (let a = are.each g in let b = books_less g in let z : cond (g == g) k 0 ≡ k = cond-true (g == g) k 0 (eq-eqb g g refl) in omega (arith, a, b, z))
        (λ h ne. let b = books_less h in let z : cond (h == g) k 0 ≡ 0 = cond-false (h == g) k 0 (ne_eqb h g ne) in omega (arith, b, z))

  -- an empty book is now one of the group, with this many pages
  module _ (new : Part) (g k : ℕ) (empty : (parts q).book ≡ 0) (is : new.stock.group ≡ Some g) (more : new.book ≡ k) where
    pub books_more : (h : ℕ) → pages_booked cpus (with_at parts q new) h ≡ pages_booked cpus parts h + cond (h == g) k 0
    books_more h =
        let move = books_move new h in
        let a = booked_empty h (parts q) empty in
        let b = booked_of h g new is in
        let same = ap (λ (x : ℕ). cond (h == g) x 0) more in
        omega (arith, move, a, b, same)

    pub sums_more : {room : ℕ} (sums : List ℕ) → AreBooked room cpus parts sums → g < room → AreBooked room cpus (with_at parts q new) (slice_set sums g (get_or sums g 0 + k))
    sums_more sums are fits = sums_else cpus parts (with_at parts q new) sums g (get_or sums g 0 + k) are fits
        (let a = are.each g in let b = books_more g in let z : cond (g == g) k 0 ≡ k = cond-true (g == g) k 0 (eq-eqb g g refl) in omega (arith, a, b, z))
        (λ h ne. let b = books_more h in let z : cond (h == g) k 0 ≡ 0 = cond-false (h == g) k 0 (ne_eqb h g ne) in omega (arith, b, z))
