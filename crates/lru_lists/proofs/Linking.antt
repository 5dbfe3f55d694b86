-- What the records link after a push at the newest end, and after a unit was removed.
use Rattle.std.proofs.Common.{◌≡◌, ◌≢◌, ℕ, ◌+◌, ◌<◌, ◌≤◌, ◌==◌, ◌⊎◌, true, false, Option, Some, None, List, [], ◌∷◌, ◌++◌, length, sym, ◌∙◌, ap}
use Rattle.std.proofs.Common.{subst, inl, inr, arith, refl, eq-eqb}
use Rattle.std.proofs.lemmas.Bool.{cases_eq, cases_lt, ne_eqb, eqb-true, cases_Bool, false≢true, or_parts, or_cases, both_ways}
use Rattle.std.proofs.lemmas.List.{get_or_past, length_push}
use Rattle.std.specs.List.{IsDistinct, AllByRecursion, list_any}
use Rattle.std.proofs.lemmas.Map.Steps.{length-le_from_distinct_below}
use Rattle.lru_lists.specs.declared.record.Link.{Link}
use Rattle.lru_lists.specs.declared.record.Home.{Home}
use Rattle.lru_lists.specs.declared.queue.Queue.{Queue}
use Rattle.lru_lists.specs.Queue.{link_at, nowhere, is_among, HasNoRepeats, oldest_of, newest_of, unit_behind, before_from, unit_before, list_without, IsLinked}
use Rattle.lru_lists.specs.Queue.{units_from, units_of, end_or, pushed_queue, queue_without}
use Rattle.lru_lists.proofs.Lists.{among_without, gone_without, apart_without, length_without, before_none, before_among, oldest_gone, oldest_stays}
use Rattle.lru_lists.proofs.Lists.{newest_gone, newest_stays, after_gone, after_stays, before_gone, before_stays, among_push, apart_push, oldest_push}
use Rattle.lru_lists.proofs.Lists.{newest_none, newest_push, after_push_newest, after_push_other, after_push_last, before_push_other}
use Rattle.lru_lists.proofs.Lists.{before_push_last, other_than_first}

-- ---- the list that is linked is the one that is walked

pub walked : (links : List Link) (ys : List ℕ) → HasNoRepeats ys → ((f : ℕ) → is_among ys f ≡ true → (link_at links f).newer ≡ unit_behind ys f)
    → units_from links (oldest_of ys) (length ys) ≡ ys
walked links [] apart h = refl
walked links (y ∷ ys) apart h =
    let t : (y == y) ≡ true = eq-eqb y y refl in
    let e : (link_at links y).newer ≡ oldest_of ys = h y (rw t refl) ∙ rw t refl in
    rw e (ap (λ (zs : List ℕ). y ∷ zs) (walked links ys apart.1 (λ f i.
    let u : (y == f) ≡ false = ne_eqb y f (other_than_first y ys f apart.0 i) in
    let j : is_among (y ∷ ys) f ≡ true = rw u i in
    let k : (link_at links f).newer ≡ unit_behind (y ∷ ys) f = h f j in
    k ∙ rw u refl)))

pub units_are : (links : List Link) (home : Home) (queue : Queue) (units : List ℕ) → IsLinked links home queue units → units_of links queue ≡ units
units_are links home queue units linked = rw (linked.oldest, linked.count) (walked links units linked.apart linked.newer)

-- ---- units are frames, and fewer than the frames if one frame isn't among them

pub within : (links : List Link) (home : Home) (queue : Queue) (units : List ℕ) (f : ℕ) → IsLinked links home queue units
    → is_among units f ≡ true → f < length links
within links home queue units f linked i = elim (cases_lt f (length links)) [
  | inl lt ↦ lt
  | inr le ↦
      let e : link_at links f ≡ nowhere = get_or_past links f nowhere le in
      let h : (link_at links f).home ≡ Some home = linked.homes f i in
      let k : None ≡ Some home = sym (ap (λ (v : Link). v.home) e) ∙ h in
      cc
]

pub any_is_among : (xs : List ℕ) (q : ℕ) → list_any (λ x. q == x) xs ≡ is_among xs q
any_is_among [] q = refl
any_is_among (x ∷ xs) q = elim (cases_eq x q) [
  | inl e ↦ let t : (x == q) ≡ true = eq-eqb x q e in let u : (q == x) ≡ true = eq-eqb q x (sym e) in rw (t, u) refl
  | inr n ↦ let t : (x == q) ≡ false = ne_eqb x q n in let u : (q == x) ≡ false = ne_eqb q x (λ e. n (sym e)) in rw (t, u) (any_is_among xs q)
]

pub others_differ : (x : ℕ) (xs : List ℕ) → is_among xs x ≡ false → AllByRecursion (λ y. (x == y) ≡ false) xs
others_differ x [] out = tt
others_differ x (y ∷ ys) out =
    let p = or_parts (y == x) (is_among ys x) out in
    (ne_eqb x y (λ e. both_ways (y == x) (p.0) (eq-eqb y x (sym e))), others_differ x ys (p.1))

pub distinct : (xs : List ℕ) → HasNoRepeats xs → IsDistinct (λ x y. x == y) xs
unfolding IsDistinct
distinct [] apart = tt
distinct (x ∷ xs) apart = (others_differ x xs apart.0, distinct xs apart.1)

pub few : (links : List Link) (home : Home) (queue : Queue) (units : List ℕ) (f : ℕ) → IsLinked links home queue units
    → is_among units f ≡ false → f < length links → length units < length links
few links home queue units f linked out lt =
    let apart : HasNoRepeats (f ∷ units) = (out, linked.apart) in
    let all : (q : ℕ) → list_any (λ x. q == x) (f ∷ units) ≡ true → q < length links = λ q h.
    elim (or_cases (f == q) (is_among units q) (sym (any_is_among (f ∷ units) q) ∙ h)) [
      | inl e ↦ subst (λ (v : ℕ). v < length links) (eqb-true f q e) lt
      | inr i ↦ within links home queue units q linked i
    ] in
    let le : length (f ∷ units) ≤ length links = length-le_from_distinct_below (f ∷ units) (length links) (distinct (f ∷ units) apart) all in
    omega arith

-- ---- whether this is the unit at an end

pub is_some_of : (o : Option ℕ) (f : ℕ) → (o ≡ Some f) ⊎ (o ≢ Some f)
is_some_of None f = inr (λ h. let k : None ≡ Some f = h in cc)
is_some_of (Some u) f = elim (cases_eq u f) [
  | inl e ↦ inl (ap Some e)
  | inr n ↦ inr (λ h. let k : Some u ≡ Some f = h in n (let j : u ≡ f = cc in j))
]

-- ---- a push

-- what a push leaves in the records and at the ends
pub record Pushed (before after : List Link) (home : Home) (q r : Queue) (unit : ℕ) : Type 0 where
  pub unit_home : (link_at after unit).home ≡ Some home
  pub unit_older : (link_at after unit).older ≡ q.newest
  pub unit_newer : (link_at after unit).newer ≡ None
  pub homes : (g : ℕ) → g ≢ unit → (link_at after g).home ≡ (link_at before g).home
  pub olders : (g : ℕ) → g ≢ unit → (link_at after g).older ≡ (link_at before g).older
  pub newest_newer : (t : ℕ) → t ≢ unit → q.newest ≡ Some t → (link_at after t).newer ≡ Some unit
  pub newers : (g : ℕ) → g ≢ unit → q.newest ≢ Some g → (link_at after g).newer ≡ (link_at before g).newer
  pub queue : r ≡ pushed_queue q unit

pub oldest_pushed : (o : Option ℕ) (xs : List ℕ) (unit : ℕ) → o ≡ newest_of xs → end_or o (oldest_of xs) (Some unit) ≡ oldest_of (xs ++ unit ∷ [])
oldest_pushed None xs unit e = let k : xs ≡ [] = newest_none xs (sym e) in rw k refl
oldest_pushed (Some t) xs unit e = sym (oldest_push xs unit t (sym e))

pub before_pushed : (xs : List ℕ) (unit : ℕ) → is_among xs unit ≡ false → unit_before (xs ++ unit ∷ []) unit ≡ newest_of xs
before_pushed [] unit out = refl
before_pushed (x ∷ xs) unit out = before_push_last x xs unit ((or_parts (x == unit) (is_among xs unit) out).1)

pub before_pushed_other : (xs : List ℕ) (unit g : ℕ) → g ≢ unit → is_among xs g ≡ true → unit_before (xs ++ unit ∷ []) g ≡ unit_before xs g
before_pushed_other [] unit g ne i = absurd (false≢true i)
before_pushed_other (x ∷ xs) unit g ne i = before_push_other x xs unit g ne

-- a unit of the longer list is the new one or one of the old
pub pushed_cases : (xs : List ℕ) (unit g : ℕ) → is_among (xs ++ unit ∷ []) g ≡ true → (g ≡ unit) ⊎ ((g ≢ unit) × (is_among xs g ≡ true))
pushed_cases xs unit g i = elim (cases_eq g unit) [
  | inl e ↦ inl e
  | inr n ↦ inr (
    n,
    elim (or_cases (is_among xs g) (unit == g) (sym (among_push xs unit g) ∙ i)) [
      | inl h ↦ h
      | inr h ↦ absurd (n (sym (eqb-true unit g h)))
    ],
  )
]

pub pushed_among : (xs : List ℕ) (unit : ℕ) → is_among (xs ++ unit ∷ []) unit ≡ true
pushed_among xs unit =
    let t : (unit == unit) ≡ true = eq-eqb unit unit refl in
    among_push xs unit unit ∙ rw t (elim (cases_Bool (is_among xs unit)) [ inl a ↦ rw a refl | inr a ↦ rw a refl ])

pub pushed_among_old : (xs : List ℕ) (unit g : ℕ) → is_among xs g ≡ true → is_among (xs ++ unit ∷ []) g ≡ true
pushed_among_old xs unit g i = among_push xs unit g ∙ rw i refl

pub links_pushed : (before after : List Link) (home : Home) (q r : Queue) (unit : ℕ) (xs : List ℕ) → IsLinked before home q xs
    → is_among xs unit ≡ false → Pushed before after home q r unit → IsLinked after home r (xs ++ unit ∷ [])
links_pushed before after home q r unit xs l out p = record {
  apart = apart_push xs unit l.apart out;
  homes = λ f i. elim (pushed_cases xs unit f i) [
    | inl e ↦ rw e p.unit_home
    | inr n ↦ p.homes f n.0 ∙ l.homes f n.1
  ];
  at_home = λ f h. elim (cases_eq f unit) [
    | inl e ↦ rw e (pushed_among xs unit)
    | inr n ↦ pushed_among_old xs unit f (l.at_home f (sym (p.homes f n) ∙ h))
  ];
  oldest = rw (p.queue, l.oldest) (oldest_pushed q.newest xs unit l.newest);
  newest = rw p.queue (sym (newest_push xs unit));
  count = rw (p.queue, l.count) (sym (length_push xs unit));
  older = λ f i. elim (pushed_cases xs unit f i) [
    | inl e ↦ rw e (p.unit_older ∙ l.newest ∙ sym (before_pushed xs unit out))
    | inr n ↦ p.olders f n.0 ∙ l.older f n.1 ∙ sym (before_pushed_other xs unit f n.0 n.1)
  ];
  newer = λ f i. elim (pushed_cases xs unit f i) [
    | inl e ↦ rw e (p.unit_newer ∙ sym (after_push_last xs unit out))
    | inr n ↦ elim (is_some_of q.newest f) [
      | inl t ↦ p.newest_newer f n.0 t ∙ sym (after_push_newest xs unit f l.apart (sym l.newest ∙ t))
      | inr t ↦ p.newers f n.0 t ∙ l.newer f n.1 ∙ sym (after_push_other xs unit f n.1 (λ h. t (l.newest ∙ h)))
    ]
  ];
}

-- ---- a unit removed

-- what taking a unit out leaves in the records and at the ends
pub record Unlinked (before after : List Link) (home : Home) (q r : Queue) (unit : ℕ) (older newer : Option ℕ) : Type 0 where
  pub unit_home : (link_at after unit).home ≡ None
  pub homes : (g : ℕ) → g ≢ unit → (link_at after g).home ≡ (link_at before g).home
  pub older_newer : (t : ℕ) → t ≢ unit → older ≡ Some t → (link_at after t).newer ≡ newer
  pub newer_older : (t : ℕ) → t ≢ unit → newer ≡ Some t → (link_at after t).older ≡ older
  pub olders : (g : ℕ) → g ≢ unit → newer ≢ Some g → (link_at after g).older ≡ (link_at before g).older
  pub newers : (g : ℕ) → g ≢ unit → older ≢ Some g → (link_at after g).newer ≡ (link_at before g).newer
  pub queue : r ≡ queue_without q older newer

pub oldest_out : (xs : List ℕ) (unit : ℕ) (o : Option ℕ) → HasNoRepeats xs → is_among xs unit ≡ true → o ≡ unit_before xs unit
    → end_or o (oldest_of xs) (unit_behind xs unit) ≡ oldest_of (list_without unit xs)
oldest_out xs unit None apart i e = sym (oldest_gone xs unit apart i (sym e))
oldest_out xs unit (Some p) apart i e = sym (oldest_stays xs unit p apart (sym e))

-- the newest once the first is out
pub newest_out_first : (x : ℕ) (xs : List ℕ) (n : Option ℕ) → n ≡ oldest_of xs → end_or n (newest_of (x ∷ xs)) None ≡ newest_of xs
newest_out_first x [] n e = rw e refl
newest_out_first x (y ∷ ys) n e = rw e refl

pub newest_out_later : (x : ℕ) (xs : List ℕ) (unit : ℕ) (n : Option ℕ) → HasNoRepeats (x ∷ xs) → is_among xs unit ≡ true → n ≡ unit_behind xs unit
    → end_or n (newest_of (x ∷ xs)) (before_from x xs unit) ≡ newest_of (x ∷ list_without unit xs)
newest_out_later x xs unit None apart i e = sym (newest_gone x xs unit apart i (sym e))
newest_out_later x xs unit (Some t) apart i e = sym (newest_stays x xs unit t apart (sym e))

pub newest_out : (xs : List ℕ) (unit : ℕ) (n : Option ℕ) → HasNoRepeats xs → is_among xs unit ≡ true → n ≡ unit_behind xs unit
    → end_or n (newest_of xs) (unit_before xs unit) ≡ newest_of (list_without unit xs)
newest_out [] unit n apart i e = absurd (false≢true i)
newest_out (x ∷ xs) unit n apart i e = elim (cases_eq x unit) [
  | inl q ↦
      let t : (x == unit) ≡ true = eq-eqb x unit q in
      let out : is_among xs unit ≡ false = subst (λ (v : ℕ). is_among xs v ≡ false) q apart.0 in
      let b : before_from x xs unit ≡ None = before_none x xs unit out in
      let k : n ≡ oldest_of xs = e ∙ rw t refl in
      rw (b, t) (newest_out_first x xs n k)
  | inr d ↦
      let t : (x == unit) ≡ false = ne_eqb x unit d in
      let j : is_among xs unit ≡ true = rw t at i in
      let k : n ≡ unit_behind xs unit = e ∙ rw t refl in
      rw t (newest_out_later x xs unit n apart j k)
]

-- who stays is another than who is out
pub stays_other : (xs : List ℕ) (unit f : ℕ) → HasNoRepeats xs → is_among (list_without unit xs) f ≡ true → f ≢ unit
stays_other xs unit f apart h e =
    both_ways (is_among (list_without unit xs) unit) (gone_without unit xs apart) (subst (λ (v : ℕ). is_among (list_without unit xs) v ≡ true) e h)

-- the oldest unit has none before it
pub first_has_none : (xs : List ℕ) (n : ℕ) → HasNoRepeats xs → oldest_of xs ≡ Some n → unit_before xs n ≡ None
first_has_none [] n apart h = refl
first_has_none (x ∷ xs) n apart h =
    let e : x ≡ n = cc in
    before_none x xs n (subst (λ (v : ℕ). is_among xs v ≡ false) e apart.0)

-- without the first unit, whoever isn't the second has its previous as before
pub without_first : (x : ℕ) (xs : List ℕ) (g : ℕ) → oldest_of xs ≢ Some g → unit_before xs g ≡ before_from x xs g
without_first x [] g na = refl
without_first x (y ∷ ys) g na =
    let u : (y == g) ≡ false = ne_eqb y g (λ q. na (ap Some q)) in
    rw u refl

-- the neighbours of another unit once this one is out, for whole lists
pub after_out_before : (xs : List ℕ) (unit p : ℕ) → HasNoRepeats xs → unit_before xs unit ≡ Some p → unit_behind (list_without unit xs) p ≡ unit_behind xs unit
after_out_before [] unit p apart b = cc
after_out_before (x ∷ xs) unit p apart b =
    let i = before_among x xs unit p b in
    let t : (x == unit) ≡ false = ne_eqb x unit (other_than_first x xs unit apart.0 (i.1)) in
    rw t (after_gone x xs unit p apart b)

pub before_out_after : (xs : List ℕ) (unit n : ℕ) → HasNoRepeats xs → unit_behind xs unit ≡ Some n → unit_before (list_without unit xs) n ≡ unit_before xs unit
before_out_after [] unit n apart a = cc
before_out_after (x ∷ xs) unit n apart a = elim (cases_eq x unit) [
  | inl q ↦
      let t : (x == unit) ≡ true = eq-eqb x unit q in
      let out : is_among xs unit ≡ false = subst (λ (v : ℕ). is_among xs v ≡ false) q apart.0 in
      let b : before_from x xs unit ≡ None = before_none x xs unit out in
      let k : oldest_of xs ≡ Some n = rw t at a in
      rw (t, b) (first_has_none xs n apart.1 k)
  | inr d ↦
      let t : (x == unit) ≡ false = ne_eqb x unit d in
      let k : unit_behind xs unit ≡ Some n = rw t at a in
      rw t (before_gone x xs unit n apart k)
]

pub before_out_other : (xs : List ℕ) (unit g : ℕ) → HasNoRepeats xs → g ≢ unit → unit_behind xs unit ≢ Some g → unit_before (list_without unit xs) g ≡ unit_before xs g
before_out_other [] unit g apart ne na = refl
before_out_other (x ∷ xs) unit g apart ne na = elim (cases_eq x unit) [
  | inl q ↦
      let t : (x == unit) ≡ true = eq-eqb x unit q in
      rw t (without_first x xs g (rw t at na))
  | inr d ↦
      let t : (x == unit) ≡ false = ne_eqb x unit d in
      rw t (before_stays x xs unit g apart ne (rw t at na))
]

pub links_unlinked : (old new : List Link) (home : Home) (q r : Queue) (unit : ℕ) (o n : Option ℕ) (xs : List ℕ) → IsLinked old home q xs
    → is_among xs unit ≡ true → o ≡ unit_before xs unit → n ≡ unit_behind xs unit → Unlinked old new home q r unit o n
    → IsLinked new home r (list_without unit xs)
links_unlinked old new home q r unit o n xs l i eo en p = record {
  apart = apart_without unit xs l.apart;
  homes = λ f h. let ne = stays_other xs unit f l.apart h in p.homes f ne ∙ l.homes f (sym (among_without unit f xs ne) ∙ h);
  at_home = λ f h. elim (cases_eq f unit) [
    | inl e ↦ let k : None ≡ Some home = sym p.unit_home ∙ rw e at h in cc
    | inr ne ↦ among_without unit f xs ne ∙ l.at_home f (sym (p.homes f ne) ∙ h)
  ];
  oldest = rw (p.queue, l.oldest, en) (oldest_out xs unit o l.apart i eo);
  newest = rw (p.queue, l.newest, eo) (newest_out xs unit n l.apart i en);
  count =
      let k : length (list_without unit xs) + 1 ≡ length xs = length_without unit xs i in
      let e : q.length ≡ length xs = l.count in
      rw p.queue (omega arith);
  older = λ f h.
      let ne = stays_other xs unit f l.apart h in
      let j : is_among xs f ≡ true = sym (among_without unit f xs ne) ∙ h in
      elim (is_some_of n f) [
        | inl t ↦ p.newer_older f ne t ∙ eo ∙ sym (before_out_after xs unit f l.apart (sym en ∙ t))
        | inr t ↦ p.olders f ne t ∙ l.older f j ∙ sym (before_out_other xs unit f l.apart ne (λ a. t (en ∙ a)))
      ];
  newer = λ f h.
      let ne = stays_other xs unit f l.apart h in
      let j : is_among xs f ≡ true = sym (among_without unit f xs ne) ∙ h in
      elim (is_some_of o f) [
        | inl t ↦ p.older_newer f ne t ∙ en ∙ sym (after_out_before xs unit f l.apart (sym eo ∙ t))
        | inr t ↦ p.newers f ne t ∙ l.newer f j ∙ sym (after_stays xs unit f l.apart ne (λ a. t (eo ∙ a)))
      ];
}
