-- Lists of units without repetition: the neighbours after a unit was removed, or appended at the newest end.
use Rattle.std.proofs.Common.{◌≡◌, ◌≢◌, ℕ, ◌+◌, ◌==◌, ◌||◌, true, false, Some, None, List, [], ◌∷◌, ◌++◌, length, sym, ◌∙◌, ap, subst, inl, inr}
use Rattle.std.proofs.Common.{arith, refl, eq-eqb}
use Rattle.std.proofs.lemmas.Bool.{cases_eq, ne_eqb, cases_Bool, false≢true, or_parts, both_ways}
use Rattle.lru_lists.specs.Queue.{is_among, HasNoRepeats, oldest_of, newest_of, unit_behind, before_from, unit_before, list_without}

-- ---- one removed

pub among_without : (f g : ℕ) (xs : List ℕ) → g ≢ f → is_among (list_without f xs) g ≡ is_among xs g
among_without f g [] ne = refl
among_without f g (x ∷ xs) ne = elim (cases_eq x f) [
  | inl e ↦ let t : (x == f) ≡ true = eq-eqb x f e in let u : (x == g) ≡ false = ne_eqb x g (λ h. ne (sym h ∙ e)) in rw (t, u) refl
  | inr n ↦ let t : (x == f) ≡ false = ne_eqb x f n in rw t (ap (λ b. (x == g) || b) (among_without f g xs ne))
]

pub gone_without : (f : ℕ) (xs : List ℕ) → HasNoRepeats xs → is_among (list_without f xs) f ≡ false
gone_without f [] apart = refl
gone_without f (x ∷ xs) apart = elim (cases_eq x f) [
  | inl e ↦ let t : (x == f) ≡ true = eq-eqb x f e in rw t (subst (λ (v : ℕ). is_among xs v ≡ false) e apart.0)
  | inr n ↦ let t : (x == f) ≡ false = ne_eqb x f n in rw (t, t) (gone_without f xs apart.1)
]

pub apart_without : (f : ℕ) (xs : List ℕ) → HasNoRepeats xs → HasNoRepeats (list_without f xs)
apart_without f [] apart = tt
apart_without f (x ∷ xs) apart = elim (cases_eq x f) [
  | inl e ↦ let t : (x == f) ≡ true = eq-eqb x f e in rw t (apart.1)
  | inr n ↦ let t : (x == f) ≡ false = ne_eqb x f n in rw t (among_without f x xs n ∙ apart.0, apart_without f xs apart.1)
]

pub length_without : (f : ℕ) (xs : List ℕ) → is_among xs f ≡ true → length (list_without f xs) + 1 ≡ length xs
length_without f [] h = absurd (false≢true h)
length_without f (x ∷ xs) h = elim (cases_eq x f) [
  | inl e ↦ let t : (x == f) ≡ true = eq-eqb x f e in rw t (omega arith)
  | inr n ↦
      let t : (x == f) ≡ false = ne_eqb x f n in
      let k : is_among xs f ≡ true = rw t at h in
      let i : length (list_without f xs) + 1 ≡ length xs = length_without f xs k in
      rw t (omega arith)
]

-- ---- neighbours

pub after_among : (xs : List ℕ) (f n : ℕ) → unit_behind xs f ≡ Some n → is_among xs n ≡ true
after_among [] f n h = cc
after_among (x ∷ []) f n h = elim (cases_eq x f) [
  | inl e ↦ let t : (x == f) ≡ true = eq-eqb x f e in let k : None ≡ Some n = rw t at h in cc
  | inr d ↦ let t : (x == f) ≡ false = ne_eqb x f d in let k : None ≡ Some n = rw t at h in cc
]
after_among (x ∷ y ∷ ys) f n h = elim (cases_eq x f) [
  | inl e ↦
      let t : (x == f) ≡ true = eq-eqb x f e in
      let k : Some y ≡ Some n = rw t at h in
      let j : y ≡ n = cc in
      let u : (y == n) ≡ true = eq-eqb y n j in
      elim (cases_Bool (x == n)) [ inl a ↦ rw a refl | inr a ↦ rw (a, u) refl ]
  | inr d ↦
      let t : (x == f) ≡ false = ne_eqb x f d in
      let k : unit_behind (y ∷ ys) f ≡ Some n = rw t at h in
      let i : is_among (y ∷ ys) n ≡ true = after_among (y ∷ ys) f n k in
      elim (cases_Bool (x == n)) [ inl a ↦ rw a refl | inr a ↦ rw a i ]
]

-- a unit of a list differs from one that isn't in the list
pub other_than_first : (x : ℕ) (xs : List ℕ) (n : ℕ) → is_among xs x ≡ false → is_among xs n ≡ true → x ≢ n
other_than_first x xs n out in_it e = both_ways (is_among xs n) (subst (λ (v : ℕ). is_among xs v ≡ false) e out) in_it

pub before_none : (x : ℕ) (xs : List ℕ) (f : ℕ) → is_among xs f ≡ false → before_from x xs f ≡ None
before_none x [] f h = refl
before_none x (y ∷ ys) f h =
    let p = or_parts (y == f) (is_among ys f) h in
    rw (p.0) (before_none y ys f (p.1))

pub before_among : (x : ℕ) (xs : List ℕ) (f p : ℕ) → before_from x xs f ≡ Some p → (is_among (x ∷ xs) p ≡ true) × (is_among xs f ≡ true)
before_among x [] f p h = cc
before_among x (y ∷ ys) f p h = elim (cases_eq y f) [
  | inl e ↦
      let t : (y == f) ≡ true = eq-eqb y f e in
      let k : Some x ≡ Some p = rw t at h in
      let j : x ≡ p = cc in
      let u : (x == p) ≡ true = eq-eqb x p j in
      (rw u refl, rw t refl)
  | inr d ↦
      let t : (y == f) ≡ false = ne_eqb y f d in
      let i = before_among y ys f p (rw t at h) in
      (elim (cases_Bool (x == p)) [ inl a ↦ rw a refl | inr a ↦ rw a (i.0) ], rw t (i.1))
]

-- ---- the ends once f is out

pub before_some : (x : ℕ) (xs : List ℕ) (f : ℕ) → is_among xs f ≡ true → before_from x xs f ≢ None
before_some x [] f h b = false≢true h
before_some x (y ∷ ys) f h b = elim (cases_eq y f) [
  | inl e ↦ let t : (y == f) ≡ true = eq-eqb y f e in let k : Some x ≡ None = rw t at b in cc
  | inr d ↦
      let t : (y == f) ≡ false = ne_eqb y f d in
      before_some y ys f (rw t at h) (rw t at b)
]

pub oldest_gone : (xs : List ℕ) (f : ℕ) → HasNoRepeats xs → is_among xs f ≡ true → unit_before xs f ≡ None → oldest_of (list_without f xs) ≡ unit_behind xs f
oldest_gone [] f apart h b = absurd (false≢true h)
oldest_gone (x ∷ xs) f apart h b = elim (cases_eq x f) [
  | inl e ↦ let t : (x == f) ≡ true = eq-eqb x f e in rw t refl
  | inr d ↦
      let t : (x == f) ≡ false = ne_eqb x f d in
      let k : is_among xs f ≡ true = rw t at h in
      absurd (before_some x xs f k b)
]

pub oldest_stays : (xs : List ℕ) (f p : ℕ) → HasNoRepeats xs → unit_before xs f ≡ Some p → oldest_of (list_without f xs) ≡ oldest_of xs
oldest_stays [] f p apart b = refl
oldest_stays (x ∷ xs) f p apart b =
    let i = before_among x xs f p b in
    let t : (x == f) ≡ false = ne_eqb x f (other_than_first x xs f apart.0 (i.1)) in
    rw t refl

pub newest_gone : (x : ℕ) (xs : List ℕ) (f : ℕ) → HasNoRepeats (x ∷ xs) → is_among xs f ≡ true → unit_behind xs f ≡ None
    → newest_of (x ∷ list_without f xs) ≡ before_from x xs f
newest_gone x [] f apart h a = absurd (false≢true h)
newest_gone x (y ∷ []) f apart h a = elim (cases_eq y f) [
  | inl e ↦ let t : (y == f) ≡ true = eq-eqb y f e in rw t refl
  | inr d ↦ let t : (y == f) ≡ false = ne_eqb y f d in absurd (false≢true (rw t at h))
]
newest_gone x (y ∷ z ∷ zs) f apart h a = elim (cases_eq y f) [
  | inl e ↦ let t : (y == f) ≡ true = eq-eqb y f e in let k : Some z ≡ None = rw t at a in cc
  | inr d ↦
      let t : (y == f) ≡ false = ne_eqb y f d in
      let k : is_among (z ∷ zs) f ≡ true = rw t at h in
      let j : unit_behind (z ∷ zs) f ≡ None = rw t at a in
      rw t (newest_gone y (z ∷ zs) f (apart.1) k j)
]

pub newest_stays : (x : ℕ) (xs : List ℕ) (f n : ℕ) → HasNoRepeats (x ∷ xs) → unit_behind xs f ≡ Some n → newest_of (x ∷ list_without f xs) ≡ newest_of (x ∷ xs)
newest_stays x [] f n apart a = refl
newest_stays x (y ∷ []) f n apart a = elim (cases_eq y f) [
  | inl e ↦ let t : (y == f) ≡ true = eq-eqb y f e in let k : None ≡ Some n = rw t at a in cc
  | inr d ↦ let t : (y == f) ≡ false = ne_eqb y f d in let k : None ≡ Some n = rw t at a in cc
]
newest_stays x (y ∷ z ∷ zs) f n apart a = elim (cases_eq y f) [
  | inl e ↦ let t : (y == f) ≡ true = eq-eqb y f e in rw t refl
  | inr d ↦
      let t : (y == f) ≡ false = ne_eqb y f d in
      let j : unit_behind (z ∷ zs) f ≡ Some n = rw t at a in
      rw t (newest_stays y (z ∷ zs) f n (apart.1) j)
]

-- ---- neighbours once f is out

-- the unit before f has the one after it as its next
pub after_gone : (x : ℕ) (xs : List ℕ) (f p : ℕ) → HasNoRepeats (x ∷ xs) → before_from x xs f ≡ Some p → unit_behind (x ∷ list_without f xs) p ≡ unit_behind xs f
after_gone x [] f p apart b = cc
after_gone x (y ∷ ys) f p apart b = elim (cases_eq y f) [
  | inl e ↦
      let t : (y == f) ≡ true = eq-eqb y f e in
      let k : Some x ≡ Some p = rw t at b in
      let j : x ≡ p = cc in
      let u : (x == p) ≡ true = eq-eqb x p j in
      rw (t, u) refl
  | inr d ↦
      let t : (y == f) ≡ false = ne_eqb y f d in
      let k : before_from y ys f ≡ Some p = rw t at b in
      let in_it = before_among y ys f p k in
      let u : (x == p) ≡ false = ne_eqb x p (other_than_first x (y ∷ ys) p apart.0 (in_it.0)) in
      rw (t, u) (after_gone y ys f p (apart.1) k)
]

-- the unit after the first stays, if the first isn't just before f
pub first_stays : (x : ℕ) (xs : List ℕ) (f : ℕ) → before_from x xs f ≢ Some x → oldest_of (list_without f xs) ≡ oldest_of xs
first_stays x [] f nb = refl
first_stays x (y ∷ ys) f nb = elim (cases_eq y f) [
  | inl e ↦ let t : (y == f) ≡ true = eq-eqb y f e in absurd (nb (rw t refl))
  | inr d ↦ let t : (y == f) ≡ false = ne_eqb y f d in rw t refl
]

-- what isn't just before f in the whole list isn't in the list after the first
pub not_before : (x : ℕ) (xs : List ℕ) (f g : ℕ) → HasNoRepeats xs → x ≢ g → before_from x xs f ≢ Some g → unit_before xs f ≢ Some g
not_before x [] f g apart ne nb b = cc
not_before x (y ∷ ys) f g apart ne nb b = elim (cases_eq y f) [
  | inl e ↦
      let out : is_among ys f ≡ false = subst (λ (v : ℕ). is_among ys v ≡ false) e apart.0 in
      let k : before_from y ys f ≡ None = before_none y ys f out in
      cc
  | inr d ↦ let t : (y == f) ≡ false = ne_eqb y f d in nb (rw t b)
]

-- another unit than the one before f has its next as before
pub after_stays : (xs : List ℕ) (f g : ℕ) → HasNoRepeats xs → g ≢ f → unit_before xs f ≢ Some g → unit_behind (list_without f xs) g ≡ unit_behind xs g
after_stays [] f g apart ne nb = refl
after_stays (x ∷ xs) f g apart ne nb = elim (cases_eq x f) [
  | inl e ↦
      let t : (x == f) ≡ true = eq-eqb x f e in
      let u : (x == g) ≡ false = ne_eqb x g (λ q. ne (sym q ∙ e)) in
      rw (t, u) refl
  | inr d ↦
      let t : (x == f) ≡ false = ne_eqb x f d in
      elim (cases_eq x g) [
        | inl e ↦ let u : (x == g) ≡ true = eq-eqb x g e in rw (t, u) (first_stays x xs f (λ q. nb (q ∙ ap Some e)))
        | inr o ↦ let u : (x == g) ≡ false = ne_eqb x g o in rw (t, u) (after_stays xs f g apart.1 ne (not_before x xs f g apart.1 o nb))
      ]
]

-- the unit after f has the one before it as its previous
pub before_gone : (x : ℕ) (xs : List ℕ) (f n : ℕ) → HasNoRepeats (x ∷ xs) → unit_behind xs f ≡ Some n → before_from x (list_without f xs) n ≡ before_from x xs f
before_gone x [] f n apart a = cc
before_gone x (y ∷ []) f n apart a = elim (cases_eq y f) [
  | inl e ↦ let t : (y == f) ≡ true = eq-eqb y f e in let k : None ≡ Some n = rw t at a in cc
  | inr d ↦ let t : (y == f) ≡ false = ne_eqb y f d in let k : None ≡ Some n = rw t at a in cc
]
before_gone x (y ∷ z ∷ zs) f n apart a = elim (cases_eq y f) [
  | inl e ↦
      let t : (y == f) ≡ true = eq-eqb y f e in
      let k : Some z ≡ Some n = rw t at a in
      let j : z ≡ n = cc in
      let u : (z == n) ≡ true = eq-eqb z n j in
      rw (t, u) refl
  | inr d ↦
      let t : (y == f) ≡ false = ne_eqb y f d in
      let k : unit_behind (z ∷ zs) f ≡ Some n = rw t at a in
      let u : (y == n) ≡ false = ne_eqb y n (other_than_first y (z ∷ zs) n (apart.1.0) (after_among (z ∷ zs) f n k)) in
      rw (t, u) (before_gone y (z ∷ zs) f n (apart.1) k)
]

-- the unit after the first of two, which isn't the second's next, has as its previous what it had
pub second_stays : (x y : ℕ) (ys : List ℕ) (g : ℕ) → oldest_of ys ≢ Some g → before_from x ys g ≡ before_from y ys g
second_stays x y [] g na = refl
second_stays x y (z ∷ zs) g na =
    let u : (z == g) ≡ false = ne_eqb z g (λ q. na (ap Some q)) in
    rw u refl

-- another unit than the one after f has its previous as before
pub before_stays : (x : ℕ) (xs : List ℕ) (f g : ℕ) → HasNoRepeats (x ∷ xs) → g ≢ f → unit_behind xs f ≢ Some g → before_from x (list_without f xs) g ≡ before_from x xs g
before_stays x [] f g apart ne na = refl
before_stays x (y ∷ ys) f g apart ne na = elim (cases_eq y f) [
  | inl e ↦
      let t : (y == f) ≡ true = eq-eqb y f e in
      let u : (y == g) ≡ false = ne_eqb y g (λ q. ne (sym q ∙ e)) in
      rw (t, u) (second_stays x y ys g (rw t at na))
  | inr d ↦
      let t : (y == f) ≡ false = ne_eqb y f d in
      elim (cases_eq y g) [
        | inl e ↦ let u : (y == g) ≡ true = eq-eqb y g e in rw (t, u) refl
        | inr o ↦ let u : (y == g) ≡ false = ne_eqb y g o in rw (t, u) (before_stays y ys f g apart.1 ne (rw t at na))
      ]
]

-- ---- one put after the newest

pub among_push : (xs : List ℕ) (f g : ℕ) → is_among (xs ++ f ∷ []) g ≡ (is_among xs g || f == g)
among_push [] f g = elim (cases_Bool (f == g)) [ inl t ↦ rw t refl | inr t ↦ rw t refl ]
among_push (x ∷ xs) f g = elim (cases_Bool (x == g)) [ inl t ↦ rw t refl | inr t ↦ rw t (among_push xs f g) ]

pub apart_push : (xs : List ℕ) (f : ℕ) → HasNoRepeats xs → is_among xs f ≡ false → HasNoRepeats (xs ++ f ∷ [])
apart_push [] f apart out = (refl, tt)
apart_push (x ∷ xs) f apart out =
    let p = or_parts (x == f) (is_among xs f) out in
    let t : (f == x) ≡ false = ne_eqb f x (λ q. both_ways (x == f) (p.0) (eq-eqb x f (sym q))) in
    (among_push xs f x ∙ rw (apart.0, t) refl, apart_push xs f apart.1 (p.1))

pub oldest_push : (xs : List ℕ) (f t : ℕ) → newest_of xs ≡ Some t → oldest_of (xs ++ f ∷ []) ≡ oldest_of xs
oldest_push [] f t h = cc
oldest_push (x ∷ xs) f t h = refl

pub newest_none : (xs : List ℕ) → newest_of xs ≡ None → xs ≡ []
newest_none [] h = refl
newest_none (x ∷ []) h = cc
newest_none (x ∷ y ∷ ys) h = let e : y ∷ ys ≡ [] = newest_none (y ∷ ys) h in cc

pub newest_push : (xs : List ℕ) (f : ℕ) → newest_of (xs ++ f ∷ []) ≡ Some f
newest_push [] f = refl
newest_push (x ∷ []) f = refl
newest_push (x ∷ y ∷ ys) f = newest_push (y ∷ ys) f

pub newest_among : (xs : List ℕ) (t : ℕ) → newest_of xs ≡ Some t → is_among xs t ≡ true
newest_among [] t h = cc
newest_among (x ∷ []) t h = let j : x ≡ t = cc in let u : (x == t) ≡ true = eq-eqb x t j in rw u refl
newest_among (x ∷ y ∷ ys) t h =
    let i : is_among (y ∷ ys) t ≡ true = newest_among (y ∷ ys) t h in
    elim (cases_Bool (x == t)) [ inl a ↦ rw a refl | inr a ↦ rw a i ]

pub after_push_newest : (xs : List ℕ) (f t : ℕ) → HasNoRepeats xs → newest_of xs ≡ Some t → unit_behind (xs ++ f ∷ []) t ≡ Some f
after_push_newest [] f t apart h = cc
after_push_newest (x ∷ []) f t apart h = let j : x ≡ t = cc in let u : (x == t) ≡ true = eq-eqb x t j in rw u refl
after_push_newest (x ∷ y ∷ ys) f t apart h =
    let u : (x == t) ≡ false = ne_eqb x t (other_than_first x (y ∷ ys) t apart.0 (newest_among (y ∷ ys) t h)) in
    rw u (after_push_newest (y ∷ ys) f t apart.1 h)

pub after_push_other : (xs : List ℕ) (f g : ℕ) → is_among xs g ≡ true → newest_of xs ≢ Some g → unit_behind (xs ++ f ∷ []) g ≡ unit_behind xs g
after_push_other [] f g h nn = absurd (false≢true h)
after_push_other (x ∷ []) f g h nn = elim (cases_eq x g) [
  | inl e ↦ absurd (nn (ap Some e))
  | inr d ↦ let u : (x == g) ≡ false = ne_eqb x g d in absurd (false≢true (rw u at h))
]
after_push_other (x ∷ y ∷ ys) f g h nn = elim (cases_eq x g) [
  | inl e ↦ let u : (x == g) ≡ true = eq-eqb x g e in rw u refl
  | inr d ↦ let u : (x == g) ≡ false = ne_eqb x g d in rw u (after_push_other (y ∷ ys) f g (rw u at h) nn)
]

pub after_push_last : (xs : List ℕ) (f : ℕ) → is_among xs f ≡ false → unit_behind (xs ++ f ∷ []) f ≡ None
after_push_last [] f out = let u : (f == f) ≡ true = eq-eqb f f refl in rw u refl
after_push_last (x ∷ xs) f out =
    let p = or_parts (x == f) (is_among xs f) out in
    rw (p.0) (after_push_last xs f (p.1))

pub before_push_other : (x : ℕ) (xs : List ℕ) (f g : ℕ) → g ≢ f → before_from x (xs ++ f ∷ []) g ≡ before_from x xs g
before_push_other x [] f g ne = let u : (f == g) ≡ false = ne_eqb f g (λ q. ne (sym q)) in rw u refl
before_push_other x (y ∷ ys) f g ne = elim (cases_Bool (y == g)) [
  | inl t ↦ rw t refl
  | inr t ↦ rw t (before_push_other y ys f g ne)
]

pub before_push_last : (x : ℕ) (xs : List ℕ) (f : ℕ) → is_among xs f ≡ false → before_from x (xs ++ f ∷ []) f ≡ newest_of (x ∷ xs)
before_push_last x [] f out = let u : (f == f) ≡ true = eq-eqb f f refl in rw u refl
before_push_last x (y ∷ ys) f out =
    let p = or_parts (y == f) (is_among ys f) out in
    rw (p.0) (before_push_last y ys f (p.1))
