-- Two lists of one owner, and those of others, after a push or an unlink on one of them.
-- They serve the contracts of `Lru`.
use Rattle.std.proofs.Common.{◌≡◌, ◌≢◌, ℕ, zero, suc, ◌+◌, ◌<◌, ◌==◌, ◌⊎◌, Bool, true, false, Option, Some, None, List, [], ◌∷◌, ◌++◌, length}
use Rattle.std.proofs.Common.{slice_index_or, slice_set, get_or-set_same, get_or-set_other, map, take, drop, option_map, sym, ◌∙◌, ap, subst, inl}
use Rattle.std.proofs.Common.{inr, arith, refl, eq-eqb, add-one}
use Rattle.std.proofs.lemmas.Bool.{cases_eq, ne_eqb, cases_Bool, true≢false, false≢true, or_parts, false_from_ne_true}
use Rattle.std.proofs.lemmas.List.{append_assoc, length-map, length-set, map-append}
use Rattle.lru_lists.specs.declared.record.Link.{Link}
use Rattle.lru_lists.specs.declared.record.Home.{Home}
use Rattle.lru_lists.specs.declared.record.Entry.{Entry}
use Rattle.lru_lists.specs.declared.record.LruList.{LruList}
use Rattle.lru_lists.specs.declared.record.LruList.TheVariants.{Inactive, Active}
use Rattle.lru_lists.specs.declared.lru.Lru.{Lru}
use Rattle.lru_lists.specs.declared.queue.Queue.{Queue}
use Rattle.lru_lists.specs.{oldest_of, unit_behind, link_at, nowhere, is_among, HasNoRepeats, list_without, IsLinked, units_of, StaysElsewhere}
use Rattle.lru_lists.specs.{SameUse, newest_link, unlinked, active_of, inactive_of, is_marked_by_touch, first_entry, entry_after, KeepsUnits}
use Rattle.lru_lists.specs.{OthersStayLinked, OneOfAllChanges, changed_at, home_in, queue_of, with_queue, AreLinked, MovesOnly, entries_of, marked}
use Rattle.lru_lists.specs.{entry_of, entries_without, list_at, list_of, owner_of, ChangesOwn, IsOnNone, SameOwners}
use Rattle.lru_lists.proofs.Lists.{other_than_first}
use Rattle.lru_lists.proofs.Linking.{units_are}
use Rattle.lru_lists.proofs.Records.{set_same, set_other, part_set}

-- ---- a list whose units' records stay

pub same_links : (before after : List Link) (home : Home) (q : Queue) (xs : List ℕ) → IsLinked before home q xs
    → ((f : ℕ) → is_among xs f ≡ true → link_at after f ≡ link_at before f) → ((f : ℕ) → (link_at after f).home ≡ Some home → is_among xs f ≡ true)
    → IsLinked after home q xs
same_links before after home q xs l same homes = record {
  apart = l.apart;
  homes = λ f i. ap (λ (k : Link). k.home) (same f i) ∙ l.homes f i;
  at_home = homes;
  oldest = l.oldest;
  newest = l.newest;
  count = l.count;
  older = λ f i. ap (λ (k : Link). k.older) (same f i) ∙ l.older f i;
  newer = λ f i. ap (λ (k : Link). k.newer) (same f i) ∙ l.newer f i;
}

-- records with the same mark and dirt give the same entry
pub entry_same : (before after : List Link) (f : ℕ) → (link_at after f).is_marked ≡ (link_at before f).is_marked
    → (link_at after f).is_dirty ≡ (link_at before f).is_dirty
    → entry_of after f ≡ entry_of before f
entry_same before after f m d = cc

pub entries_same : (before after : List Link) (xs : List ℕ) → ((f : ℕ) → is_among xs f ≡ true → entry_of after f ≡ entry_of before f)
    → map (entry_of after) xs ≡ map (entry_of before) xs
entries_same before after [] h = refl
entries_same before after (x ∷ xs) h =
    let t : (x == x) ≡ true = eq-eqb x x refl in
    let e : entry_of after x ≡ entry_of before x = h x (rw t refl) in
    let r : map (entry_of after) xs ≡ map (entry_of before) xs =
    entries_same before after xs (λ f i. h f (elim (cases_Bool (x == f)) [ inl a ↦ rw a refl | inr a ↦ rw a i ])) in
    cc

pub entries_out : (before after : List Link) (unit : ℕ) (xs : List ℕ) → HasNoRepeats xs
    → ((f : ℕ) → f ≢ unit → entry_of after f ≡ entry_of before f)
    → map (entry_of after) (list_without unit xs) ≡ entries_without unit (map (entry_of before) xs)
entries_out before after unit [] apart h = refl
entries_out before after unit (x ∷ xs) apart h = elim (cases_eq x unit) [
  | inl e ↦
      let t : (x == unit) ≡ true = eq-eqb x unit e in
      rw t (entries_same before after xs (λ f i. h f (λ q. other_than_first x xs f apart.0 i (e ∙ sym q))))
  | inr n ↦
      let t : (x == unit) ≡ false = ne_eqb x unit n in
      let e : entry_of after x ≡ entry_of before x = h x n in
      let r : map (entry_of after) (list_without unit xs) ≡ entries_without unit (map (entry_of before) xs) = entries_out before after unit xs apart.1 h in
      rw t (cc)
]

-- ---- the other lists than the one that changed

pub elsewhere_same : (before after : List Link) (home there : Home) (q : Queue) (xs : List ℕ) (unit : ℕ) → IsLinked before there q xs
    → StaysElsewhere before after home unit → home ≢ there → (link_at before unit).home ≢ Some there
    → (f : ℕ) → is_among xs f ≡ true → link_at after f ≡ link_at before f
elsewhere_same before after home there q xs unit l stays ne away f i =
    let h : (link_at before f).home ≡ Some there = l.homes f i in
    stays f (λ e. away (subst (λ (v : ℕ). (link_at before v).home ≡ Some there) e h))
    (λ k. let j : Some there ≡ Some home = sym h ∙ k in ne (let w : home ≡ there = cc in w))

pub elsewhere_linked : (before after : List Link) (home there : Home) (q : Queue) (xs : List ℕ) (unit : ℕ) → IsLinked before there q xs
    → StaysElsewhere before after home unit → SameUse before after unit → home ≢ there
    → (link_at before unit).home ≢ Some there → (link_at after unit).home ≢ Some there → IsLinked after there q xs
elsewhere_linked before after home there q xs unit l stays used ne away out =
    same_links before after there q xs l (elsewhere_same before after home there q xs unit l stays ne away)
    (λ f h. elim (cases_eq f unit) [
      | inl e ↦ absurd (out (subst (λ (v : ℕ). (link_at after v).home ≡ Some there) e h))
      | inr n ↦ l.at_home f (sym (used.home f n) ∙ h)
    ])

-- ---- what a change of one unit does to the records

pub place_here : (owner : ℕ) (list : LruList) → list_at (Some (record { owner = owner; list = list })) owner ≡ Some list
place_here owner list = let t : (owner == owner) ≡ true = eq-eqb owner owner refl in rw t refl

pub not_here : (home : Option Home) (owner : ℕ) (list : LruList) → list_at home owner ≡ None → home ≢ Some (record { owner = owner; list = list })
not_here home owner list h e =
    let k : Some list ≡ None = sym (place_here owner list) ∙ sym (ap (λ (o : Option Home). list_at o owner) e) ∙ h in
    cc

-- ---- a push and an unlink on one of an owner's lists

pub queue_same : (lru : Lru) (list : LruList) (q : Queue) → queue_of (with_queue lru list q) list ≡ q
queue_same lru Inactive q = refl
queue_same lru Active q = refl

pub queue_other : (lru : Lru) (list m : LruList) (q : Queue) → m ≢ list → queue_of (with_queue lru list q) m ≡ queue_of lru m
queue_other lru Inactive Inactive q ne = absurd (ne refl)
queue_other lru Inactive Active q ne = refl
queue_other lru Active Inactive q ne = refl
queue_other lru Active Active q ne = absurd (ne refl)

pub home_same : (lru : Lru) (list m : LruList) (q : Queue) → home_in (with_queue lru list q) m ≡ home_in lru m
home_same lru Inactive m q = refl
home_same lru Active m q = refl

pub cases_list : (m list : LruList) → (m ≡ list) ⊎ (m ≢ list)
cases_list Inactive Inactive = inl refl
cases_list Inactive Active = inr (λ e. cc)
cases_list Active Inactive = inr (λ e. cc)
cases_list Active Active = inl refl

pub homes_differ : (lru : Lru) (list m : LruList) → m ≢ list → home_in lru list ≢ home_in lru m
homes_differ lru list m ne e = ne (sym (ap (λ (h : Home). h.list) e))

-- a unit on one of the lists isn't on the other
pub elsewhere : (lru : Lru) (list : LruList) (home : Option Home) → home ≡ Some (home_in lru list) → (m : LruList) → m ≢ list → home ≢ Some (home_in lru m)
elsewhere lru list home there m ne e =
    let k : Some (home_in lru list) ≡ Some (home_in lru m) = sym there ∙ e in
    homes_differ lru list m ne (let w : home_in lru list ≡ home_in lru m = cc in w)

-- the list that didn't change, after a push or an unlink on the other
pub other_linked : (before after : List Link) (lru : Lru) (list m : LruList) (unit : ℕ) → AreLinked before lru → m ≢ list
    → StaysElsewhere before after (home_in lru list) unit → SameUse before after unit
    → (link_at before unit).home ≢ Some (home_in lru m) → (link_at after unit).home ≢ Some (home_in lru m)
    → IsLinked after (home_in lru m) (queue_of lru m) (units_of before (queue_of lru m))
other_linked before after lru list m unit stands ne stays used b a =
    elsewhere_linked before after (home_in lru list) (home_in lru m) (queue_of lru m) (units_of before (queue_of lru m)) unit (stands m) stays used
    (homes_differ lru list m ne) b a

pub other_entries : (before after : List Link) (lru : Lru) (list m : LruList) (unit : ℕ) → AreLinked before lru → m ≢ list
    → StaysElsewhere before after (home_in lru list) unit → SameUse before after unit
    → (link_at before unit).home ≢ Some (home_in lru m) → (link_at after unit).home ≢ Some (home_in lru m)
    → entries_of after lru m ≡ entries_of before lru m
other_entries before after lru list m unit stands ne stays used b a =
    let xs : List ℕ = units_of before (queue_of lru m) in
    let same = elsewhere_same before after (home_in lru list) (home_in lru m) (queue_of lru m) xs unit (stands m) stays (homes_differ lru list m ne) b in
    ap (λ (ys : List ℕ). map (entry_of after) ys)
    (units_are after (home_in lru m) (queue_of lru m) xs (other_linked before after lru list m unit stands ne stays used b a))
    ∙ entries_same before after xs (λ f i. ap
    (λ (k : Link). let e : Entry = record { number = f; is_marked = k.is_marked; is_dirty = k.is_dirty } in e) (same f i))

-- both lists stay linked after a change of one of them
pub stands_after : (before after : List Link) (lru : Lru) (list : LruList) (q : Queue) (unit : ℕ) → AreLinked before lru
    → IsLinked after (home_in lru list) q (units_of after q)
    → StaysElsewhere before after (home_in lru list) unit → SameUse before after unit
    → ((m : LruList) → m ≢ list → (link_at before unit).home ≢ Some (home_in lru m)) →
    ((m : LruList) → m ≢ list → (link_at after unit).home ≢ Some (home_in lru m))
    → AreLinked after (with_queue lru list q)
stands_after before after lru list q unit stands linked stays used b a m = elim (cases_list m list) [
  | inl e ↦ rw (e, home_same lru list list q, queue_same lru list q) linked
  | inr ne ↦
      let l = other_linked before after lru list m unit stands ne stays used (b m ne) (a m ne) in
      rw (home_same lru list m q, queue_other lru list m q ne, units_are after (home_in lru m) (queue_of lru m) (units_of before (queue_of lru m)) l) l
]

pub moves_only : (before after : List Link) (lru : Lru) (list : LruList) (unit : ℕ) → StaysElsewhere before after (home_in lru list) unit
    → SameUse before after unit → MovesOnly before after lru.owner unit
moves_only before after lru list unit stays used = record {
  frames = used.frames;
  home = used.home;
  kept = λ g ne n. stays g ne (not_here (link_at before g).home lru.owner list n);
}

-- the units of a list that isn't changed are walked alike
pub entries_kept : (before after : List Link) (unit : ℕ) → SameUse before after unit → (f : ℕ) → f ≢ unit → entry_of after f ≡ entry_of before f
entries_kept before after unit used f ne = entry_same before after f (used.marked f ne) (used.dirty f ne)

pub among_other : (links : List Link) (home : Home) (q : Queue) (xs : List ℕ) (unit f : ℕ) → IsLinked links home q xs → (link_at links unit).home ≢ Some home
    → is_among xs f ≡ true → f ≢ unit
among_other links home q xs unit f l away i e = away (subst (λ (v : ℕ). (link_at links v).home ≡ Some home) e (l.homes f i))

pub pushed_entries : (before after : List Link) (lru : Lru) (list : LruList) (q : Queue) (unit : ℕ) (older : Option ℕ) → AreLinked before lru
    → IsOnNone before unit
    → units_of after q ≡ units_of before (queue_of lru list) ++ unit ∷ []
    → link_at after unit ≡ newest_link (home_in lru list) older (link_at before unit).is_dirty → SameUse before after unit
    → entries_of after (with_queue lru list q) list ≡ entries_of before lru list ++ marked false (entry_of before unit) ∷ []
pushed_entries before after lru list q unit older stands away units at used =
    let xs : List ℕ = units_of before (queue_of lru list) in
    let out : (link_at before unit).home ≢ Some (home_in lru list) = λ e. let k : None ≡ Some (home_in lru list) = sym away ∙ e in cc in
    let old : map (entry_of after) xs ≡ map (entry_of before) xs =
    entries_same before after xs (λ f i. entries_kept before after unit used f
    (among_other before (home_in lru list) (queue_of lru list) xs unit f (stands list) out i)) in
    let new : entry_of after unit ≡ marked false (entry_of before unit) =
    ap (λ (k : Link). let e : Entry = record { number = unit; is_marked = k.is_marked; is_dirty = k.is_dirty } in e) at in
    rw (queue_same lru list q, units, map-append (entry_of after) xs (unit ∷ []), old, new) refl

pub unlinked_entries : (before after : List Link) (lru : Lru) (list : LruList) (q : Queue) (unit : ℕ) → AreLinked before lru
    → units_of after q ≡ list_without unit (units_of before (queue_of lru list)) → SameUse before after unit
    → entries_of after (with_queue lru list q) list ≡ entries_without unit (entries_of before lru list)
unlinked_entries before after lru list q unit stands units used =
    rw (queue_same lru list q, units)
    (entries_out before after unit (units_of before (queue_of lru list)) ((stands list).apart) (entries_kept before after unit used))

pub entries_of_other : (links : List Link) (lru : Lru) (list m : LruList) (q : Queue) → m ≢ list
    → entries_of links (with_queue lru list q) m ≡ entries_of links lru m
entries_of_other links lru list m q ne = rw (queue_other lru list m q ne) refl

-- ---- a frame on no list whose record is reset

pub forgotten_linked : (links : List Link) (lru : Lru) (unit : ℕ) → AreLinked links lru → IsOnNone links unit → unit < length links
    → (m : LruList) → IsLinked (slice_set links unit nowhere) (home_in lru m) (queue_of lru m) (units_of links (queue_of lru m))
forgotten_linked links lru unit stands away lt m =
    let out : (link_at links unit).home ≢ Some (home_in lru m) = λ e. let k : None ≡ Some (home_in lru m) = sym away ∙ e in cc in
    let xs : List ℕ = units_of links (queue_of lru m) in
    same_links links (slice_set links unit nowhere) (home_in lru m) (queue_of lru m) xs (stands m)
    (λ f i. set_other links unit f nowhere (among_other links (home_in lru m) (queue_of lru m) xs unit f (stands m) out i))
    (λ f h. elim (cases_eq f unit) [
      | inl e ↦
          let k : link_at (slice_set links unit nowhere) f ≡ nowhere = rw e (set_same links unit nowhere lt) in
          let j : None ≡ Some (home_in lru m) = sym (ap (λ (v : Link). v.home) k) ∙ h in
          cc
      | inr n ↦ (stands m).at_home f (sym (ap (λ (v : Link). v.home) (set_other links unit f nowhere n)) ∙ h)
    ])

pub forgotten_stands : (links : List Link) (lru : Lru) (unit : ℕ) → AreLinked links lru → IsOnNone links unit → unit < length links
    → AreLinked (slice_set links unit nowhere) lru
forgotten_stands links lru unit stands away lt m =
    let l = forgotten_linked links lru unit stands away lt m in
    rw (units_are (slice_set links unit nowhere) (home_in lru m) (queue_of lru m) (units_of links (queue_of lru m)) l) l

pub forgotten_entries : (links : List Link) (lru : Lru) (unit : ℕ) → AreLinked links lru → IsOnNone links unit → unit < length links
    → (m : LruList) → entries_of (slice_set links unit nowhere) lru m ≡ entries_of links lru m
forgotten_entries links lru unit stands away lt m =
    let l = forgotten_linked links lru unit stands away lt m in
    let out : (link_at links unit).home ≢ Some (home_in lru m) = λ e. let k : None ≡ Some (home_in lru m) = sym away ∙ e in cc in
    let xs : List ℕ = units_of links (queue_of lru m) in
    ap (λ (ys : List ℕ). map (entry_of (slice_set links unit nowhere)) ys) (units_are (slice_set links unit nowhere) (home_in lru m) (queue_of lru m) xs l)
    ∙ entries_same links (slice_set links unit nowhere) xs (λ f i.
    let e = set_other links unit f nowhere (among_other links (home_in lru m) (queue_of lru m) xs unit f (stands m) out i) in
    ap (λ (k : Link). let e : Entry = record { number = f; is_marked = k.is_marked; is_dirty = k.is_dirty } in e) e)

pub forgotten_moves : (links : List Link) (owner unit : ℕ) → MovesOnly links (slice_set links unit nowhere) owner unit
forgotten_moves links owner unit = record {
  frames = length-set links unit nowhere;
  home = λ g ne. ap (λ (k : Link). k.home) (set_other links unit g nowhere ne);
  kept = λ g ne n. set_other links unit g nowhere ne;
}

-- ---- changes of one unit, one after the other

pub moves_both : (a b c : List Link) (owner unit : ℕ) → MovesOnly a b owner unit → MovesOnly b c owner unit → MovesOnly a c owner unit
moves_both a b c owner unit p q = record {
  frames = q.frames ∙ p.frames;
  home = λ g ne. q.home g ne ∙ p.home g ne;
  kept = λ g ne n. q.kept g ne (ap (λ (h : Option Home). list_at h owner) (p.home g ne) ∙ n) ∙ p.kept g ne n;
}

-- the records after a change of one unit that is on a list of the owner before or after, or both
pub changed_own : (before after : List Link) (owner unit : ℕ) → MovesOnly before after owner unit
    → (list_of before owner unit ≡ None → list_of after owner unit ≡ None → ⊥) → (list_of before owner unit ≡ None → IsOnNone before unit)
    → (list_of after owner unit ≡ None → IsOnNone after unit) → ChangesOwn before after owner
changed_own before after owner unit m own came gone = record {
  frames = m.frames;
  kept = λ f b a. elim (cases_eq f unit) [
    | inl e ↦ absurd (own (subst (λ (v : ℕ). list_of before owner v ≡ None) e b) (subst (λ (v : ℕ). list_of after owner v ≡ None) e a))
    | inr n ↦ m.kept f n b
  ];
  joined = λ f b a. elim (cases_eq f unit) [
    | inl e ↦ rw e (came (subst (λ (v : ℕ). list_of before owner v ≡ None) e b))
    | inr n ↦ absurd (a (ap (λ (o : Option Home). list_at o owner) (m.home f n) ∙ b))
  ];
  left = λ f b a. elim (cases_eq f unit) [
    | inl e ↦ rw e (gone (subst (λ (v : ℕ). list_of after owner v ≡ None) e a))
    | inr n ↦ absurd (b (ap (λ (o : Option Home). list_at o owner) (sym (m.home f n)) ∙ a))
  ];
}

-- a unit whose home is a list of the owner is on that list
pub list_at_home : (links : List Link) (lru : Lru) (list : LruList) (f : ℕ) → (link_at links f).home ≡ Some (home_in lru list)
    → list_of links lru.owner f ≡ Some list
list_at_home links lru list f h = ap (λ (o : Option Home). list_at o lru.owner) h ∙ place_here lru.owner list

-- a unit on a list of the owner has that home
pub home_of_list : (h : Option Home) (lru : Lru) (list : LruList) → list_at h lru.owner ≡ Some list → h ≡ Some (home_in lru list)
home_of_list None lru list e = cc
home_of_list (Some h) lru list e = elim (cases_eq h.owner lru.owner) [
  | inl q ↦
      let t : (h.owner == lru.owner) ≡ true = eq-eqb h.owner lru.owner q in
      let k : Some h.list ≡ Some list = rw t at e in
      let j : h.list ≡ list = cc in
      let w : h ≡ home_in lru list = rw (← q, ← j) refl in
      ap Some w
  | inr n ↦
      let t : (h.owner == lru.owner) ≡ false = ne_eqb h.owner lru.owner n in
      let k : None ≡ Some list = rw t at e in
      cc
]

-- a unit that comes onto a list of the owner from none
pub own_after_push : (before after : List Link) (lru : Lru) (list : LruList) (unit : ℕ) → MovesOnly before after lru.owner unit
    → IsOnNone before unit → (link_at after unit).home ≡ Some (home_in lru list) → ChangesOwn before after lru.owner
own_after_push before after lru list unit m away h =
    let k : list_of after lru.owner unit ≡ Some list = list_at_home after lru list unit h in
    changed_own before after lru.owner unit m (λ b a. let j : Some list ≡ None = sym k ∙ a in cc) (λ b. away) (λ a. let j : Some list ≡ None = sym k ∙ a in cc)

-- ---- a whole push and a whole unlink

-- what a change of one of the lists leaves, and the list's entries
pub record AfterChange (before after : List Link) (lru : Lru) (list : LruList) (q : Queue) (unit : ℕ) (es : List Entry) : Type 0 where
  pub stands : AreLinked after (with_queue lru list q)
  pub entries : entries_of after (with_queue lru list q) list ≡ es
  pub other : (m : LruList) → m ≢ list → entries_of after (with_queue lru list q) m ≡ entries_of before lru m
  pub moves : MovesOnly before after lru.owner unit

module _ (before after : List Link) (lru : Lru) (list : LruList) (q : Queue) (unit : ℕ) (stands : AreLinked before lru)
    (linked : IsLinked after (home_in lru list) q (units_of after q)) (stays : StaysElsewhere before after (home_in lru list) unit)
    (used : SameUse before after unit) where
  after_change : (es : List Entry) → entries_of after (with_queue lru list q) list ≡ es
      → ((m : LruList) → m ≢ list → (link_at before unit).home ≢ Some (home_in lru m))
      → ((m : LruList) → m ≢ list → (link_at after unit).home ≢ Some (home_in lru m)) → AfterChange before after lru list q unit es
  after_change es same b a = record {
    stands = stands_after before after lru list q unit stands linked stays used b a;
    entries = same;
    other = λ m ne. entries_of_other after lru list m q ne ∙ other_entries before after lru list m unit stands ne stays used (b m ne) (a m ne);
    moves = moves_only before after lru list unit stays used;
  }

  -- a push of a unit that is on no list
  pub after_push : (older : Option ℕ) → IsOnNone before unit → units_of after q ≡ units_of before (queue_of lru list) ++ unit ∷ []
      → link_at after unit ≡ newest_link (home_in lru list) older (link_at before unit).is_dirty
      → AfterChange before after lru list q unit (entries_of before lru list ++ marked false (entry_of before unit) ∷ [])
  after_push older away units at =
      let there : (link_at after unit).home ≡ Some (home_in lru list) = ap (λ (k : Link). k.home) at in
      after_change _ (pushed_entries before after lru list q unit older stands away units at used)
      (λ m ne e. let k : None ≡ Some (home_in lru m) = sym away ∙ e in cc) (elsewhere lru list _ there)

  -- an unlink of a unit of the list
  pub after_unlink : (link_at before unit).home ≡ Some (home_in lru list) → units_of after q ≡ list_without unit (units_of before (queue_of lru list))
      → link_at after unit ≡ unlinked (link_at before unit)
      → AfterChange before after lru list q unit (entries_without unit (entries_of before lru list))
  after_unlink there units at =
      after_change _ (unlinked_entries before after lru list q unit stands units used) (elsewhere lru list _ there)
      (λ m ne e. let k : None ≡ Some (home_in lru m) = sym (ap (λ (v : Link). v.home) at) ∙ e in cc)

-- ---- a unit that isn't on a list

pub entries_lack : (links : List Link) (unit : ℕ) (xs : List ℕ) → is_among xs unit ≡ false
    → entries_without unit (map (entry_of links) xs) ≡ map (entry_of links) xs
entries_lack links unit [] out = refl
entries_lack links unit (x ∷ xs) out =
    let p = or_parts (x == unit) (is_among xs unit) out in
    let r : entries_without unit (map (entry_of links) xs) ≡ map (entry_of links) xs = entries_lack links unit xs (p.1) in
    rw (p.0, r) refl

-- a list of the owner that the unit isn't on
pub other_lacks : (links : List Link) (lru : Lru) (m : LruList) (unit : ℕ) → AreLinked links lru → (link_at links unit).home ≢ Some (home_in lru m)
    → entries_without unit (entries_of links lru m) ≡ entries_of links lru m
other_lacks links lru m unit stands away =
    let xs : List ℕ = units_of links (queue_of lru m) in
    entries_lack links unit xs (false_from_ne_true (is_among xs unit) (λ i. away ((stands m).homes unit i)))

-- ---- a record of which the marks alone changed

abbrev pub SameNeighbours : Link → Link → Type 0
SameNeighbours k j = (k.home ≡ j.home) × (k.older ≡ j.older) × (k.newer ≡ j.newer)

pub remarked_linked : (links : List Link) (home : Home) (q : Queue) (xs : List ℕ) (unit : ℕ) (k : Link) → IsLinked links home q xs
    → SameNeighbours k (link_at links unit) → IsLinked (slice_set links unit k) home q xs
remarked_linked links home q xs unit k l same = record {
  apart = l.apart;
  homes = λ f i. part_set (λ (v : Link). v.home) links unit f k (same.0) ∙ l.homes f i;
  at_home = λ f h. l.at_home f (sym (part_set (λ (v : Link). v.home) links unit f k (same.0)) ∙ h);
  oldest = l.oldest;
  newest = l.newest;
  count = l.count;
  older = λ f i. part_set (λ (v : Link). v.older) links unit f k (same.1) ∙ l.older f i;
  newer = λ f i. part_set (λ (v : Link). v.newer) links unit f k (same.2) ∙ l.newer f i;
}

pub remarked_stands : (links : List Link) (lru : Lru) (unit : ℕ) (k : Link) → AreLinked links lru → SameNeighbours k (link_at links unit)
    → AreLinked (slice_set links unit k) lru
remarked_stands links lru unit k stands same m =
    let l = remarked_linked links (home_in lru m) (queue_of lru m) (units_of links (queue_of lru m)) unit k (stands m) same in
    rw (units_are (slice_set links unit k) (home_in lru m) (queue_of lru m) (units_of links (queue_of lru m)) l) l

pub remarked_map : (links : List Link) (unit : ℕ) (k : Link) (change : Entry → Entry) (xs : List ℕ) → unit < length links
    → (let e : Entry = record { number = unit; is_marked = k.is_marked; is_dirty = k.is_dirty } in e) ≡ change (entry_of links unit)
    → map (entry_of (slice_set links unit k)) xs ≡ changed_at unit change (map (entry_of links) xs)
remarked_map links unit k change [] lt e = refl
remarked_map links unit k change (x ∷ xs) lt e =
    let r : map (entry_of (slice_set links unit k)) xs ≡ changed_at unit change (map (entry_of links) xs) = remarked_map links unit k change xs lt e in
    elim (cases_eq x unit) [
      | inl q ↦
          let t : (x == unit) ≡ true = eq-eqb x unit q in
          let s : entry_of (slice_set links unit k) x ≡ change (entry_of links x) =
          rw q (ap (λ (v : Link). let w : Entry = record { number = unit; is_marked = v.is_marked; is_dirty = v.is_dirty } in w)
          (set_same links unit k lt) ∙ e) in
          rw t (cc)
      | inr n ↦
          let t : (x == unit) ≡ false = ne_eqb x unit n in
          let s : entry_of (slice_set links unit k) x ≡ entry_of links x =
          ap (λ (v : Link). let w : Entry = record { number = x; is_marked = v.is_marked; is_dirty = v.is_dirty } in w) (set_other links unit x k n) in
          rw t (cc)
    ]

pub remarked_entries : (links : List Link) (lru : Lru) (unit : ℕ) (k : Link) (change : Entry → Entry) → AreLinked links lru
    → SameNeighbours k (link_at links unit)
    → unit < length links → (let e : Entry = record { number = unit; is_marked = k.is_marked; is_dirty = k.is_dirty } in e) ≡ change (entry_of links unit)
    → (m : LruList) → entries_of (slice_set links unit k) lru m ≡ changed_at unit change (entries_of links lru m)
remarked_entries links lru unit k change stands same lt e m =
    let xs : List ℕ = units_of links (queue_of lru m) in
    let l = remarked_linked links (home_in lru m) (queue_of lru m) xs unit k (stands m) same in
    ap (λ (ys : List ℕ). map (entry_of (slice_set links unit k)) ys) (units_are (slice_set links unit k) (home_in lru m) (queue_of lru m) xs l)
    ∙ remarked_map links unit k change xs lt e

-- no unit of this number is there to be changed
pub changed_lacks : (links : List Link) (unit : ℕ) (change : Entry → Entry) (xs : List ℕ) → is_among xs unit ≡ false
    → changed_at unit change (map (entry_of links) xs) ≡ map (entry_of links) xs
changed_lacks links unit change [] out = refl
changed_lacks links unit change (x ∷ xs) out =
    let p = or_parts (x == unit) (is_among xs unit) out in
    let r : changed_at unit change (map (entry_of links) xs) ≡ map (entry_of links) xs = changed_lacks links unit change xs (p.1) in
    rw (p.0) (cc)

pub keeps_both : (a b c : List Link) (owner : ℕ) → KeepsUnits a b owner → KeepsUnits b c owner → KeepsUnits a c owner
keeps_both a b c owner p q = record {
  frames = q.frames ∙ p.frames;
  others = λ f n. q.others f (ap (λ (v : Link). list_at v.home owner) (p.others f n) ∙ n) ∙ p.others f n;
  units = λ f n. q.units f (p.units f n);
}

-- ---- the lists of other owners

pub other_homes : (other : Lru) (owner : ℕ) (m : LruList) → other.owner ≢ owner → list_at (Some (home_in other m)) owner ≡ None
other_homes other owner m ne = let t : (other.owner == owner) ≡ false = ne_eqb other.owner owner ne in rw t refl

pub cases_none : (o : Option LruList) → (o ≡ None) ⊎ (o ≢ None)
cases_none None = inl refl
cases_none (Some l) = inr (λ e. let k : Some l ≡ None = e in cc)

pub others_same : (before after : List Link) (owner : ℕ) (other : Lru) (m : LruList) (f : ℕ) → ChangesOwn before after owner → other.owner ≢ owner
    → (link_at before f).home ≡ Some (home_in other m) → link_at after f ≡ link_at before f
others_same before after owner other m f c ne h =
    let b : list_of before owner f ≡ None = ap (λ (o : Option Home). list_at o owner) h ∙ other_homes other owner m ne in
    elim (cases_none (list_of after owner f)) [
      | inl a ↦ c.kept f b a
      | inr a ↦ let k : Some (home_in other m) ≡ None = sym h ∙ c.joined f b a in cc
    ]

pub others_home : (before after : List Link) (owner : ℕ) (other : Lru) (m : LruList) (f : ℕ) → ChangesOwn before after owner → other.owner ≢ owner
    → (link_at after f).home ≡ Some (home_in other m) → (link_at before f).home ≡ Some (home_in other m)
others_home before after owner other m f c ne h =
    let a : list_of after owner f ≡ None = ap (λ (o : Option Home). list_at o owner) h ∙ other_homes other owner m ne in
    elim (cases_none (list_of before owner f)) [
      | inl b ↦ sym (ap (λ (v : Link). v.home) (c.kept f b a)) ∙ h
      | inr b ↦ let k : Some (home_in other m) ≡ None = sym h ∙ c.left f b a in cc
    ]

pub others_linked : (before after : List Link) (owner : ℕ) (other : Lru) (m : LruList) → ChangesOwn before after owner → other.owner ≢ owner
    → AreLinked before other
    → IsLinked after (home_in other m) (queue_of other m) (units_of before (queue_of other m))
others_linked before after owner other m c ne stands =
    same_links before after (home_in other m) (queue_of other m) (units_of before (queue_of other m)) (stands m)
    (λ f i. others_same before after owner other m f c ne ((stands m).homes f i))
    (λ f h. (stands m).at_home f (others_home before after owner other m f c ne h))

pub others_stay_linked : OthersStayLinked
others_stay_linked before after owner other c ne stands = (
  (λ m. let l = others_linked before after owner other m c ne stands in
      rw (units_are after (home_in other m) (queue_of other m) (units_of before (queue_of other m)) l) l),
  (λ m. let xs : List ℕ = units_of before (queue_of other m) in
      ap (λ (ys : List ℕ). map (entry_of after) ys)
      (units_are after (home_in other m) (queue_of other m) xs (others_linked before after owner other m c ne stands))
      ∙ entries_same before after xs (λ f i.
      ap (λ (k : Link). let w : Entry = record { number = f; is_marked = k.is_marked; is_dirty = k.is_dirty } in w)
      (others_same before after owner other m f c ne ((stands m).homes f i)))),
)

pub one_of_all_changes : OneOfAllChanges
one_of_all_changes before after lists new all lt stands c k any lk = elim (cases_eq k new.owner) [
  | inl e ↦
      let got : slice_index_or (slice_set lists new.owner new) k any ≡ new =
      rw e (get_or-set_same lists new.owner new any lt) in
      rw got (sym e, stands)
  | inr n ↦
      let got : slice_index_or (slice_set lists new.owner new) k any ≡ slice_index_or lists k any =
      get_or-set_other lists new.owner k new any n in
      let old = all k any (rw (← length-set lists new.owner new) lk) in
      let ne : (slice_index_or lists k any).owner ≢ new.owner = λ q. n (sym (old.0) ∙ q) in
      rw got (old.0, (others_stay_linked before after new.owner (slice_index_or lists k any) c ne (old.1)).0)
]

-- an unlink removes the unit from each list: of the other it changes nothing
pub unlinked_each : (before after : List Link) (lru new : Lru) (list : LruList) (unit : ℕ) → AreLinked before lru
    → (link_at before unit).home ≡ Some (home_in lru list)
    → entries_of after new list ≡ entries_without unit (entries_of before lru list)
    → ((m : LruList) → m ≢ list → entries_of after new m ≡ entries_of before lru m)
    → (m : LruList) → entries_of after new m ≡ entries_without unit (entries_of before lru m)
unlinked_each before after lru new list unit stands there own other m = elim (cases_list m list) [
  | inl e ↦ rw e own
  | inr ne ↦ other m ne ∙ sym (other_lacks before lru m unit stands (elsewhere lru list _ there m ne))
]

-- a unit that was removed is added again as it was, unmarked
pub entry_unlinked : (before after : List Link) (unit : ℕ) → link_at after unit ≡ unlinked (link_at before unit)
    → marked false (entry_of after unit) ≡ marked false (entry_of before unit)
entry_unlinked before after unit e = ap (λ (k : Link). let w : Entry = record { number = unit; is_marked = false; is_dirty = k.is_dirty } in w) e

-- the list that a unit isn't on has nothing to change
pub other_unchanged : (links : List Link) (lru : Lru) (list m : LruList) (unit : ℕ) (change : Entry → Entry) → AreLinked links lru
    → (link_at links unit).home ≡ Some (home_in lru list) → m ≢ list → changed_at unit change (entries_of links lru m) ≡ entries_of links lru m
other_unchanged links lru list m unit change stands there ne =
    let xs : List ℕ = units_of links (queue_of lru m) in
    changed_lacks links unit change xs (false_from_ne_true (is_among xs unit) (λ i. elsewhere lru list _ there m ne ((stands m).homes unit i)))

-- ---- ends and neighbours, read

pub oldest_read : (links : List Link) (xs : List ℕ) → option_map (entry_of links) (oldest_of xs) ≡ first_entry (map (entry_of links) xs)
oldest_read links [] = refl
oldest_read links (x ∷ xs) = refl

pub after_read : (links : List Link) (unit : ℕ) (xs : List ℕ) → option_map (entry_of links) (unit_behind xs unit) ≡ entry_after unit (map (entry_of links) xs)
after_read links unit [] = refl
after_read links unit (x ∷ xs) = elim (cases_Bool (x == unit)) [
  | inl t ↦ rw t (oldest_read links xs)
  | inr t ↦ rw t (after_read links unit xs)
]

-- ---- the oldest unit moves

pub oldest_first : (xs : List ℕ) (unit : ℕ) → oldest_of xs ≡ Some unit → (take 1 xs ≡ unit ∷ []) × (list_without unit xs ≡ drop 1 xs) × (is_among xs unit ≡ true)
oldest_first [] unit e = cc
oldest_first (x ∷ xs) unit e =
    let q : x ≡ unit = cc in
    let t : (x == unit) ≡ true = eq-eqb x unit q in
    (ap (λ (v : ℕ). v ∷ []) q, rw t refl, rw t refl)

pub entries_first : (links : List Link) (unit : ℕ) (xs : List ℕ) → oldest_of xs ≡ Some unit
    → (entries_without unit (map (entry_of links) xs) ≡ drop 1 (map (entry_of links) xs)) × (take 1 (map (entry_of links) xs) ≡ entry_of links unit ∷ [])
entries_first links unit [] e = cc
entries_first links unit (x ∷ xs) e =
    let q : x ≡ unit = cc in
    let t : (x == unit) ≡ true = eq-eqb x unit q in
    (rw t refl, ap (λ (v : ℕ). entry_of links v ∷ []) q)

pub some_oldest : (xs : List ℕ) → 0 < length xs → oldest_of xs ≡ None → ⊥
some_oldest [] lt e = omega arith
some_oldest (x ∷ xs) lt e = cc

pub marks_true : (o : Option LruList) (b : Bool) → is_marked_by_touch o b ≡ true → (o ≡ Some Inactive) × (b ≡ false)
marks_true (Some Inactive) false h = (refl, refl)
marks_true (Some Inactive) true h = absurd (false≢true h)
marks_true (Some Active) b h = absurd (false≢true h)
marks_true None b h = absurd (false≢true h)

pub marks_false : (o : Option LruList) (b : Bool) → is_marked_by_touch o b ≡ false → o ≡ Some Inactive → b ≡ true
marks_false (Some Inactive) false h e = absurd (true≢false h)
marks_false (Some Inactive) true h e = refl
marks_false (Some Active) b h e = cc
marks_false None b h e = cc

pub some_list : (o : Option LruList) → o ≢ None → (list : LruList) × (o ≡ Some list)
some_list None h = absurd (h refl)
some_list (Some list) h = (list, refl)

-- ---- as many as there are, one by one

pub len_is : (links : List Link) (lru : Lru) → AreLinked links lru → (m : LruList) → (queue_of lru m).length ≡ length (entries_of links lru m)
len_is links lru stands m = (stands m).count ∙ sym (length-map (units_of links (queue_of lru m)) (entry_of links))

pub take_step : (k : ℕ) (xs : List Entry) → take k xs ++ take 1 (drop k xs) ≡ take (suc k) xs
take_step zero [] = refl
take_step zero (x ∷ xs) = refl
take_step (suc k) [] = refl
take_step (suc k) (x ∷ xs) = ap (λ (ys : List Entry). x ∷ ys) (take_step k xs)

pub ages_step : (before mid after : List Link) (old cur new : Lru) (k : ℕ)
    → inactive_of mid cur ≡ inactive_of before old ++ map (marked false) (take k (active_of before old))
    → inactive_of after new ≡ inactive_of mid cur ++ map (marked false) (take 1 (active_of mid cur))
    → active_of mid cur ≡ drop k (active_of before old)
    → inactive_of after new ≡ inactive_of before old ++ map (marked false) (take (k + 1) (active_of before old))
ages_step before mid after old cur new k ik one ak =
    let xs : List Entry = active_of before old in
    let e : map (marked false) (take k xs) ++ map (marked false) (take 1 (drop k xs)) ≡ map (marked false) (take (k + 1) xs) =
    sym (map-append (marked false) (take k xs) (take 1 (drop k xs))) ∙ ap (map (marked false)) (take_step k xs ∙ ap (λ (n : ℕ). take n xs) (sym (add-one k))) in
    rw (one, ik, ak, append_assoc (inactive_of before old) (map (marked false) (take k xs)) (map (marked false) (take 1 (drop k xs))), e) refl

-- ---- a unit removed, and its record reset

-- what taking the unit out and forgetting it leaves
pub record AfterUnlinkAndClear (before after : List Link) (lru new : Lru) (unit : ℕ) : Type 0 where
  pub stands : AreLinked after new
  pub entries : (m : LruList) → entries_of after new m ≡ entries_without unit (entries_of before lru m)

pub after_unlink_and_clear : (before mid : List Link) (lru new : Lru) (list : LruList) (unit : ℕ) → AreLinked before lru
    → list_of before lru.owner unit ≡ Some list → AreLinked mid new
    → entries_of mid new list ≡ entries_without unit (entries_of before lru list)
    → ((m : LruList) → m ≢ list → entries_of mid new m ≡ entries_of before lru m)
    → link_at mid unit ≡ unlinked (link_at before unit) → unit < length mid
    → AfterUnlinkAndClear before (slice_set mid unit nowhere) lru new unit
after_unlink_and_clear before mid lru new list unit stands on mid_stands entries other gone lt =
    let away : IsOnNone mid unit = ap (λ (k : Link). k.home) gone in
    let there = home_of_list (link_at before unit).home lru list on in
    record {
      stands = forgotten_stands mid new unit mid_stands away lt;
      entries = λ m. forgotten_entries mid new unit mid_stands away lt m
          ∙ unlinked_each before mid lru new list unit stands there entries other m;
    }

-- ---- the owners of the frames' lists, and the frames' dirt

pub use_both : (a b c : List Link) (unit : ℕ) → SameUse a b unit → SameUse b c unit → SameUse a c unit
use_both a b c unit p q = record {
  frames = q.frames ∙ p.frames;
  home = λ g ne. q.home g ne ∙ p.home g ne;
  marked = λ g ne. q.marked g ne ∙ p.marked g ne;
  dirty = λ g ne. q.dirty g ne ∙ p.dirty g ne;
}

pub forgotten_use : (links : List Link) (unit : ℕ) → SameUse links (slice_set links unit nowhere) unit
forgotten_use links unit = record {
  frames = length-set links unit nowhere;
  home = λ g ne. ap (λ (k : Link). k.home) (set_other links unit g nowhere ne);
  marked = λ g ne. ap (λ (k : Link). k.is_marked) (set_other links unit g nowhere ne);
  dirty = λ g ne. ap (λ (k : Link). k.is_dirty) (set_other links unit g nowhere ne);
}

pub owners_both : (a b c : List Link) → SameOwners a b → SameOwners b c → SameOwners a c
owners_both a b c p q = record { owner = λ f. q.owner f ∙ p.owner f; dirty = λ f. q.dirty f ∙ p.dirty f }

-- a unit that stays on the owner's lists, as dirty as it was, where every other unit is used as it was
pub owners_kept : (before after : List Link) (unit : ℕ) → SameUse before after unit
    → owner_of (link_at after unit).home ≡ owner_of (link_at before unit).home → (link_at after unit).is_dirty ≡ (link_at before unit).is_dirty
    → SameOwners before after
owners_kept before after unit used own dirt = record {
  owner = λ f. elim (cases_eq f unit) [
    | inl e ↦ rw e own
    | inr ne ↦ ap owner_of (used.home f ne)
  ];
  dirty = λ f. elim (cases_eq f unit) [ inl e ↦ rw e dirt | inr ne ↦ used.dirty f ne ];
}

-- a unit that was pulled from one of the owner's lists and pushed onto one of them
pub moved_owners : (before mid after : List Link) (lru : Lru) (owner : ℕ) (from list : LruList) (unit : ℕ) → list_of before lru.owner unit ≡ Some from
    → SameUse before mid unit → link_at mid unit ≡ unlinked (link_at before unit) → SameUse mid after unit → owner ≡ lru.owner
    → owner_of (link_at after unit).home ≡ Some owner → (link_at after unit).is_dirty ≡ (link_at mid unit).is_dirty → SameOwners before after
moved_owners before mid after lru owner from list unit on out pulled came same home dirt =
    owners_kept before after unit (use_both before mid after unit out came)
    (home ∙ ap Some same ∙ sym (ap owner_of (home_of_list (link_at before unit).home lru from on)))
    (dirt ∙ ap (λ (k : Link). k.is_dirty) pulled)

-- a unit whose mark was changed
pub marked_owners : (links : List Link) (unit : ℕ) (mark : Bool) → SameOwners links (slice_set links unit (record (link_at links unit) { is_marked = mark }))
marked_owners links unit mark = record {
  owner = λ f. part_set (λ (k : Link). owner_of k.home) links unit f (record (link_at links unit) { is_marked = mark }) refl;
  dirty = λ f. part_set (λ (k : Link). k.is_dirty) links unit f (record (link_at links unit) { is_marked = mark }) refl;
}
