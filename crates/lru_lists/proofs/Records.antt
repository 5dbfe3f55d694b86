-- What the writes of a push and of an unlink leave in each record.
-- They serve the contracts of `queue::push_newest` and `queue::unlink_keeping_flags`.
use Rattle.std.proofs.Common.{◌≡◌, ◌≢◌, ℕ, ◌<◌, Bool, true, false, Option, Some, None, IfSome, List, [], ◌∷◌, ◌++◌, length, slice_set, sym, ◌∙◌, ap}
use Rattle.std.proofs.Common.{inl, inr, arith, refl, get_or-set_same, get_or-set_other}
use Rattle.std.proofs.lemmas.Bool.{cases_eq, cases_lt, false_from_ne_true}
use Rattle.std.proofs.lemmas.List.{length-set, set_past}
use Rattle.lru_lists.specs.declared.record.Link.{Link}
use Rattle.lru_lists.specs.declared.record.Home.{Home}
use Rattle.lru_lists.specs.declared.queue.Queue.{Queue}
use Rattle.lru_lists.specs.Queue.{link_at, nowhere, is_among, unit_behind, unit_before, list_without, IsLinked, units_of, newest_link, unlinked, with_newer}
use Rattle.lru_lists.specs.Queue.{with_older, pushed_queue, queue_without, StaysElsewhere, SameUse}
use Rattle.lru_lists.proofs.Lists.{after_among, before_among, newest_among}
use Rattle.lru_lists.proofs.Linking.{Pushed, Unlinked, within, units_are, links_pushed, links_unlinked, few}

pub set_same : (links : List Link) (i : ℕ) (v : Link) → i < length links → link_at (slice_set links i v) i ≡ v
set_same links i v lt = get_or-set_same links i v nowhere lt

pub set_other : (links : List Link) (i g : ℕ) (v : Link) → g ≢ i → link_at (slice_set links i v) g ≡ link_at links g
set_other links i g v ne = get_or-set_other links i g v nowhere ne

-- a part of the records that a write leaves alone
pub part_set : {X : Type 0} (h : Link → X) (links : List Link) (i g : ℕ) (v : Link) → h v ≡ h (link_at links i)
    → h (link_at (slice_set links i v) g) ≡ h (link_at links g)
part_set h links i g v e = elim (cases_eq g i) [
  | inl q ↦ elim (cases_lt i (length links)) [
    | inl lt ↦ rw q (ap h (set_same links i v lt) ∙ e)
    | inr le ↦ ap (λ (ls : List Link). h (link_at ls g)) (set_past links i v le)
  ]
  | inr n ↦ ap h (set_other links i g v n)
]

pub length_newer : (links : List Link) (o n : Option ℕ) → length (with_newer links o n) ≡ length links
length_newer links None n = refl
length_newer links (Some u) n = length-set links u _

pub length_older : (links : List Link) (o n : Option ℕ) → length (with_older links o n) ≡ length links
length_older links None n = refl
length_older links (Some u) n = length-set links u _

pub part_newer : {X : Type 0} (h : Link → X) → ((k : Link) (n : Option ℕ) → h (record k { newer = n }) ≡ h k)
    → (links : List Link) (o n : Option ℕ) (g : ℕ) → h (link_at (with_newer links o n) g) ≡ h (link_at links g)
part_newer h e links None n g = refl
part_newer h e links (Some u) n g = part_set h links u g (record (link_at links u) { newer = n }) (e (link_at links u) n)

pub part_older : {X : Type 0} (h : Link → X) → ((k : Link) (n : Option ℕ) → h (record k { older = n }) ≡ h k)
    → (links : List Link) (o n : Option ℕ) (g : ℕ) → h (link_at (with_older links o n) g) ≡ h (link_at links g)
part_older h e links None n g = refl
part_older h e links (Some u) n g = part_set h links u g (record (link_at links u) { older = n }) (e (link_at links u) n)

pub newer_at : (links : List Link) (o n : Option ℕ) (t : ℕ) → t < length links → o ≡ Some t → (link_at (with_newer links o n) t).newer ≡ n
newer_at links None n t lt e = cc
newer_at links (Some u) n t lt e =
    let q : t ≡ u = cc in
    let l : u < length links = omega arith in
    rw q (ap (λ (k : Link). k.newer) (set_same links u (record (link_at links u) { newer = n }) l))

pub older_at : (links : List Link) (o n : Option ℕ) (t : ℕ) → t < length links → o ≡ Some t → (link_at (with_older links o n) t).older ≡ n
older_at links None n t lt e = cc
older_at links (Some u) n t lt e =
    let q : t ≡ u = cc in
    let l : u < length links = omega arith in
    rw q (ap (λ (k : Link). k.older) (set_same links u (record (link_at links u) { older = n }) l))

pub newer_other : (links : List Link) (o n : Option ℕ) (g : ℕ) → o ≢ Some g → link_at (with_newer links o n) g ≡ link_at links g
newer_other links None n g ne = refl
newer_other links (Some u) n g ne = set_other links u g _ (λ e. ne (ap Some (sym e)))

pub older_other : (links : List Link) (o n : Option ℕ) (g : ℕ) → o ≢ Some g → link_at (with_older links o n) g ≡ link_at links g
older_other links None n g ne = refl
older_other links (Some u) n g ne = set_other links u g _ (λ e. ne (ap Some (sym e)))

-- a unit on no list isn't among those of a list
pub away_out : (links : List Link) (home : Home) (q : Queue) (xs : List ℕ) (unit : ℕ) → IsLinked links home q xs → (link_at links unit).home ≡ None
    → is_among xs unit ≡ false
away_out links home q xs unit l away = false_from_ne_true (is_among xs unit) (λ i. let k : None ≡ Some home = sym away ∙ l.homes unit i in cc)

-- the newest unit is a frame on the list
pub newest_within : (links : List Link) (home : Home) (q : Queue) (xs : List ℕ) (t : ℕ) → IsLinked links home q xs → q.newest ≡ Some t
    → (is_among xs t ≡ true) × (t < length links)
newest_within links home q xs t l e =
    let i : is_among xs t ≡ true = newest_among xs t (sym l.newest ∙ e) in
    (i, within links home q xs t l i)

-- ---- the records after a push

abbrev pub after_push : List Link → Home → Queue → ℕ → Bool → List Link
after_push links home q unit dirty = slice_set (with_newer links q.newest (Some unit)) unit (newest_link home q.newest dirty)

pub pushed : (links : List Link) (home : Home) (q : Queue) (xs : List ℕ) (unit : ℕ) (dirty : Bool) → IsLinked links home q xs → unit < length links
    → Pushed links (after_push links home q unit dirty) home q (pushed_queue q unit) unit
pushed links home q xs unit dirty l lt =
    let mid : List Link = with_newer links q.newest (Some unit) in
    let e : length mid ≡ length links = length_newer links q.newest (Some unit) in
    let here : link_at (after_push links home q unit dirty) unit ≡ newest_link home q.newest dirty =
    set_same mid unit (newest_link home q.newest dirty) (omega (arith, e, lt)) in
    record {
      unit_home = ap (λ (k : Link). k.home) here;
      unit_older = ap (λ (k : Link). k.older) here;
      unit_newer = ap (λ (k : Link). k.newer) here;
      homes = λ g ne. ap (λ (k : Link). k.home) (set_other mid unit g _ ne) ∙ part_newer (λ k. k.home) (λ _ _. refl) links q.newest (Some unit) g;
      olders = λ g ne. ap (λ (k : Link). k.older) (set_other mid unit g _ ne) ∙ part_newer (λ k. k.older) (λ _ _. refl) links q.newest (Some unit) g;
      newest_newer = λ t ne h. ap (λ (k : Link). k.newer) (set_other mid unit t _ ne)
          ∙ newer_at links q.newest (Some unit) t ((newest_within links home q xs t l h).1) h;
      newers = λ g ne h. ap (λ (k : Link). k.newer) (set_other mid unit g _ ne) ∙ ap (λ (k : Link). k.newer) (newer_other links q.newest (Some unit) g h);
      queue = refl;
    }

pub push_others : (links : List Link) (home : Home) (q : Queue) (xs : List ℕ) (unit : ℕ) (dirty : Bool) → IsLinked links home q xs
    → StaysElsewhere links (after_push links home q unit dirty) home unit
push_others links home q xs unit dirty l g ne away =
    set_other (with_newer links q.newest (Some unit)) unit g _ ne
    ∙ newer_other links q.newest (Some unit) g (λ h. away (l.homes g ((newest_within links home q xs g l h).0)))

pub push_use : (links : List Link) (home : Home) (q : Queue) (unit : ℕ) (dirty : Bool) → SameUse links (after_push links home q unit dirty) unit
push_use links home q unit dirty =
    let mid : List Link = with_newer links q.newest (Some unit) in
    record {
      frames = length-set mid unit _ ∙ length_newer links q.newest (Some unit);
      home = λ g ne. ap (λ (k : Link). k.home) (set_other mid unit g _ ne) ∙ part_newer (λ k. k.home) (λ _ _. refl) links q.newest (Some unit) g;
      marked = λ g ne. ap (λ (k : Link). k.is_marked) (set_other mid unit g _ ne) ∙ part_newer (λ k. k.is_marked) (λ _ _. refl) links q.newest (Some unit) g;
      dirty = λ g ne. ap (λ (k : Link). k.is_dirty) (set_other mid unit g _ ne) ∙ part_newer (λ k. k.is_dirty) (λ _ _. refl) links q.newest (Some unit) g;
    }

-- ---- the records after a unit was removed

abbrev pub after_unlink : List Link → ℕ → Option ℕ → Option ℕ → Link → List Link
after_unlink links unit o n k = slice_set (with_older (with_newer links o n) n o) unit (unlinked k)

-- a neighbour is a frame on the list
pub older_within : (links : List Link) (home : Home) (q : Queue) (xs : List ℕ) (unit t : ℕ) → IsLinked links home q xs → unit_before xs unit ≡ Some t
    → (is_among xs t ≡ true) × (t < length links)
older_within links home q [] unit t l e = cc
older_within links home q (x ∷ xs) unit t l e =
    let i = (before_among x xs unit t e).0 in
    (i, within links home q (x ∷ xs) t l i)

pub newer_within : (links : List Link) (home : Home) (q : Queue) (xs : List ℕ) (unit t : ℕ) → IsLinked links home q xs → unit_behind xs unit ≡ Some t
    → (is_among xs t ≡ true) × (t < length links)
newer_within links home q xs unit t l e =
    let i : is_among xs t ≡ true = after_among xs unit t e in
    (i, within links home q xs t l i)

pub unlinks : (links : List Link) (home : Home) (q : Queue) (xs : List ℕ) (unit : ℕ) (o n : Option ℕ) (k : Link) → IsLinked links home q xs
    → unit < length links → o ≡ unit_before xs unit → n ≡ unit_behind xs unit
    → Unlinked links (after_unlink links unit o n k) home q (queue_without q o n) unit o n
unlinks links home q xs unit o n k l lt eo en =
    let one : List Link = with_newer links o n in
    let two : List Link = with_older one n o in
    let e1 : length one ≡ length links = length_newer links o n in
    let e2 : length two ≡ length one = length_older one n o in
    let here : link_at (after_unlink links unit o n k) unit ≡ unlinked k = set_same two unit (unlinked k) (omega (arith, e1, e2, lt)) in
    record {
      unit_home = ap (λ (v : Link). v.home) here;
      homes = λ g ne. ap (λ (v : Link). v.home) (set_other two unit g _ ne)
          ∙ part_older (λ v. v.home) (λ _ _. refl) one n o g ∙ part_newer (λ v. v.home) (λ _ _. refl) links o n g;
      older_newer = λ t ne h. ap (λ (v : Link). v.newer) (set_other two unit t _ ne)
          ∙ part_older (λ v. v.newer) (λ _ _. refl) one n o t ∙ newer_at links o n t ((older_within links home q xs unit t l (sym eo ∙ h)).1) h;
      newer_older = λ t ne h. ap (λ (v : Link). v.older) (set_other two unit t _ ne)
          ∙ older_at one n o t (let w : t < length links = (newer_within links home q xs unit t l (sym en ∙ h)).1 in omega (arith, e1, w)) h;
      olders = λ g ne h. ap (λ (v : Link). v.older) (set_other two unit g _ ne)
          ∙ ap (λ (v : Link). v.older) (older_other one n o g h) ∙ part_newer (λ v. v.older) (λ _ _. refl) links o n g;
      newers = λ g ne h. ap (λ (v : Link). v.newer) (set_other two unit g _ ne)
          ∙ part_older (λ v. v.newer) (λ _ _. refl) one n o g ∙ ap (λ (v : Link). v.newer) (newer_other links o n g h);
      queue = refl;
    }

pub unlink_others : (links : List Link) (home : Home) (q : Queue) (xs : List ℕ) (unit : ℕ) (o n : Option ℕ) (k : Link) → IsLinked links home q xs
    → o ≡ unit_before xs unit → n ≡ unit_behind xs unit → StaysElsewhere links (after_unlink links unit o n k) home unit
unlink_others links home q xs unit o n k l eo en g ne away =
    set_other (with_older (with_newer links o n) n o) unit g _ ne
    ∙ older_other (with_newer links o n) n o g (λ h. away (l.homes g ((newer_within links home q xs unit g l (sym en ∙ h)).0)))
    ∙ newer_other links o n g (λ h. away (l.homes g ((older_within links home q xs unit g l (sym eo ∙ h)).0)))

pub unlink_use : (links : List Link) (unit : ℕ) (o n : Option ℕ) (k : Link) → SameUse links (after_unlink links unit o n k) unit
unlink_use links unit o n k =
    let one : List Link = with_newer links o n in
    let two : List Link = with_older one n o in
    record {
      frames = length-set two unit _ ∙ length_older one n o ∙ length_newer links o n;
      home = λ g ne. ap (λ (v : Link). v.home) (set_other two unit g _ ne)
          ∙ part_older (λ v. v.home) (λ _ _. refl) one n o g ∙ part_newer (λ v. v.home) (λ _ _. refl) links o n g;
      marked = λ g ne. ap (λ (v : Link). v.is_marked) (set_other two unit g _ ne)
          ∙ part_older (λ v. v.is_marked) (λ _ _. refl) one n o g ∙ part_newer (λ v. v.is_marked) (λ _ _. refl) links o n g;
      dirty = λ g ne. ap (λ (v : Link). v.is_dirty) (set_other two unit g _ ne)
          ∙ part_older (λ v. v.is_dirty) (λ _ _. refl) one n o g ∙ part_newer (λ v. v.is_dirty) (λ _ _. refl) links o n g;
    }

-- ---- whole calls

pub pushed_linked : (links : List Link) (home : Home) (q : Queue) (unit : ℕ) (dirty : Bool) → IsLinked links home q (units_of links q)
    → unit < length links → (link_at links unit).home ≡ None
    → IsLinked (after_push links home q unit dirty) home (pushed_queue q unit) (units_of links q ++ unit ∷ [])
pushed_linked links home q unit dirty l lt away =
    links_pushed links (after_push links home q unit dirty) home q (pushed_queue q unit) unit (units_of links q) l
    (away_out links home q (units_of links q) unit l away) (pushed links home q (units_of links q) unit dirty l lt)

pub pushed_units : (links : List Link) (home : Home) (q : Queue) (unit : ℕ) (dirty : Bool) → IsLinked links home q (units_of links q)
    → unit < length links → (link_at links unit).home ≡ None
    → units_of (after_push links home q unit dirty) (pushed_queue q unit) ≡ units_of links q ++ unit ∷ []
pushed_units links home q unit dirty l lt away =
    units_are (after_push links home q unit dirty) home (pushed_queue q unit) (units_of links q ++ unit ∷ []) (pushed_linked links home q unit dirty l lt away)

-- the records that an unlink leaves, if the neighbours are those in the unit's record
abbrev pub after_out : List Link → ℕ → List Link
after_out links unit = after_unlink links unit (link_at links unit).older (link_at links unit).newer (link_at links unit)

abbrev pub queue_out : List Link → Queue → ℕ → Queue
queue_out links q unit = queue_without q (link_at links unit).older (link_at links unit).newer

pub out_linked : (links : List Link) (home : Home) (q : Queue) (unit : ℕ) → IsLinked links home q (units_of links q) → (link_at links unit).home ≡ Some home
    → IsLinked (after_out links unit) home (queue_out links q unit) (list_without unit (units_of links q))
out_linked links home q unit l h =
    let xs : List ℕ = units_of links q in
    let i : is_among xs unit ≡ true = l.at_home unit h in
    let eo = l.older unit i in
    let en = l.newer unit i in
    links_unlinked links (after_out links unit) home q (queue_out links q unit) unit (link_at links unit).older (link_at links unit).newer xs l i eo en
    (unlinks links home q xs unit (link_at links unit).older (link_at links unit).newer (link_at links unit) l (within links home q xs unit l i) eo en)

pub out_units : (links : List Link) (home : Home) (q : Queue) (unit : ℕ) → IsLinked links home q (units_of links q) → (link_at links unit).home ≡ Some home
    → units_of (after_out links unit) (queue_out links q unit) ≡ list_without unit (units_of links q)
out_units links home q unit l h =
    units_are (after_out links unit) home (queue_out links q unit) (list_without unit (units_of links q)) (out_linked links home q unit l h)

pub out_others : (links : List Link) (home : Home) (q : Queue) (unit : ℕ) → IsLinked links home q (units_of links q) → (link_at links unit).home ≡ Some home
    → StaysElsewhere links (after_out links unit) home unit
out_others links home q unit l h =
    let i : is_among (units_of links q) unit ≡ true = l.at_home unit h in
    unlink_others links home q (units_of links q) unit (link_at links unit).older (link_at links unit).newer (link_at links unit) l (l.older unit i)
    (l.newer unit i)

-- a neighbour in a record is a frame
pub some_within : (links : List Link) (home : Home) (q : Queue) (xs : List ℕ) (o : Option ℕ) → IsLinked links home q xs
    → ((t : ℕ) → o ≡ Some t → is_among xs t ≡ true) → IfSome o (λ u. u < length links)
some_within links home q xs None l h = tt
some_within links home q xs (Some t) l h = within links home q xs t l (h t refl)

pub newest_frame : (links : List Link) (home : Home) (q : Queue) → IsLinked links home q (units_of links q) → IfSome q.newest (λ u. u < length links)
newest_frame links home q l =
    some_within links home q (units_of links q) q.newest l (λ t e. (newest_within links home q (units_of links q) t l e).0)

pub older_frame : (links : List Link) (home : Home) (q : Queue) (unit : ℕ) → IsLinked links home q (units_of links q) → (link_at links unit).home ≡ Some home
    → IfSome (link_at links unit).older (λ u. u < length links)
older_frame links home q unit l h =
    let xs : List ℕ = units_of links q in
    let i : is_among xs unit ≡ true = l.at_home unit h in
    some_within links home q xs (link_at links unit).older l (λ t e. (older_within links home q xs unit t l (sym (l.older unit i) ∙ e)).0)

pub newer_frame : (links : List Link) (home : Home) (q : Queue) (unit : ℕ) → IsLinked links home q (units_of links q) → (link_at links unit).home ≡ Some home
    → IfSome (link_at links unit).newer (λ u. u < length links)
newer_frame links home q unit l h =
    let xs : List ℕ = units_of links q in
    let i : is_among xs unit ≡ true = l.at_home unit h in
    some_within links home q xs (link_at links unit).newer l (λ t e. (newer_within links home q xs unit t l (sym (l.newer unit i) ∙ e)).0)

-- a list that a frame isn't on is shorter than the frames are many
pub room : (links : List Link) (home : Home) (q : Queue) (unit : ℕ) → IsLinked links home q (units_of links q) → unit < length links
    → (link_at links unit).home ≡ None → q.length < length links
room links home q unit l lt away =
    let f : length (units_of links q) < length links = few links home q (units_of links q) unit l (away_out links home q (units_of links q) unit l away) lt in
    let e : q.length ≡ length (units_of links q) = l.count in
    omega arith
