-- The lists of one group changed: its units were marked, moved or dirtied. Each frame is on a list of the same group as
-- before, and the lists of all other groups stay. Serves all calls that change a list.
use Rattle.std.proofs.Common.{◌≡◌, ◌≢◌, ℕ, ◌<◌, ◌==◌, ◌||◌, ◌⊎◌, Bool, true, false, Option, Some, None, List, [], ◌∷◌, ◌++◌, length, map, refl, sym, ap, ◌∙◌}
use Rattle.group_tree.specs.Groups.{room_of}
use Rattle.std.proofs.Common.{◌≤◌, subst, inl, inr, eq-eqb, cond, get_or}
use Rattle.boot_words.specs.Tables.{KnownTable}
use Rattle.mem_machine.specs.FrameStates.{frame_state_at}
use Rattle.std.specs.Prelude.{is_some, option_map, slice_set}
use Rattle.step_rules.specs.State.{one_if}
use Rattle.std.proofs.lemmas.List.{get_or-set_other, get_or_past}
use Rattle.std.proofs.lemmas.Bool.{cases_eq, ne_eqb, or_left, or_right, cases_lt}
use Rattle.std.proofs.lemmas.Option.{none-some}
use Rattle.lru_lists.specs.declared.record.Link.{Link}
use Rattle.lru_lists.specs.declared.record.Home.{Home}
use Rattle.lru_lists.specs.declared.record.Entry.{Entry}
use Rattle.lru_lists.specs.declared.record.LruList.{LruList}
use Rattle.lru_lists.specs.declared.record.LruList.TheVariants.{Inactive, Active}
use Rattle.lru_lists.specs.declared.lru.Lru.{Lru}
use Rattle.lru_lists.specs.{link_at, is_among, units_of, list_without, AreLinked, AllLinked, OthersStayLinked, ChangesOwn, Touches, list_of, list_at}
use Rattle.lru_lists.specs.{home_in, queue_of, entries_of, entry_of, inactive_of, active_of, changed_at, dirtied, entries_without, marked}
use Rattle.lru_lists.specs.declared.lru.Touched.{Touched}
use Rattle.lru_lists.specs.declared.lru.Touched.TheVariants as touch
use Rattle.mem_machine.specs.declared.frame_state.FrameState.{FrameState}
use Rattle.mem_machine.specs.Machines.{FitsFrameState, OthersStay, lists_at, no_lists, group_lists, KnownMachine, IsConsistent, home_of}

cases_none : (o : Option LruList) → (o ≡ None) ⊎ (o ≢ None)
cases_none None = inl refl
cases_none (Some list) = inr (λ e. none-some list (sym e))

some_list : (o : Option LruList) → o ≢ None → (list : LruList) × (o ≡ Some list)
some_list None not = absurd (not refl)
some_list (Some list) not = (list, refl)

-- the owner's list at a home of its own
pub place_here : (owner : ℕ) (list : LruList) → list_at (Some (record { owner = owner; list = list })) owner ≡ Some list
place_here owner list = let t : (owner == owner) ≡ true = eq-eqb owner owner refl in rw t refl

abbrev value_or : {X : Type 0} → X → Option X → X
value_or any None = any
value_or any (Some x) = x

some_same : {X : Type 0} (any a b : X) → Some a ≡ Some b → a ≡ b
some_same any a b e = ap (value_or any) e

home_of_list : (h : Option Home) (lru : Lru) (list : LruList) → list_at h lru.owner ≡ Some list → h ≡ Some (home_in lru list)
home_of_list None lru list is = absurd (none-some list is)
home_of_list (Some h) lru list is = elim (cases_eq h.owner lru.owner) [
  | inl e ↦
      let t : (h.owner == lru.owner) ≡ true = eq-eqb h.owner lru.owner e in
      let there : Some h.list ≡ Some list = rw t at is in
      λ i. Some (record { owner = e i; list = some_same list h.list list there i })
  | inr ne ↦
      let u : (h.owner == lru.owner) ≡ false = ne_eqb h.owner lru.owner ne in
      let none : None ≡ Some list = rw u at is in
      absurd (none-some list none)
]

-- a record fits as before if the frame is on a list of the same owner
pub fits_home : (room : ℕ) (h k : Option Home) (frame_state : FrameState) → option_map (λ (x : Home). x.owner) k ≡ option_map (λ (x : Home). x.owner) h
    → FitsFrameState room h frame_state → FitsFrameState room k frame_state
fits_home room None None frame_state same fits = fits
fits_home room None (Some k) frame_state same fits = absurd (none-some k.owner (sym same))
fits_home room (Some h) None frame_state same fits = absurd (none-some h.owner same)
fits_home room (Some h) (Some k) frame_state same fits = (subst (λ (n : ℕ). n < room) (sym (some_same 0 k.owner h.owner same)) fits.0, fits.1 ∙ sym same)

-- a frame on no list, which no owner has afterwards, has the record that it had
none_stays : (h k : Option Home) → option_map (λ (x : Home). x.owner) k ≡ option_map (λ (x : Home). x.owner) h → h ≡ None → k ≡ None
none_stays h None same none = refl
none_stays h (Some k) same none = absurd (none-some k.owner (sym (same ∙ ap (option_map (λ (x : Home). x.owner)) none)))

pub unlisted_stay : (before after : List Link) (owner f : ℕ) → ChangesOwn before after owner
    → option_map (λ (x : Home). x.owner) (link_at after f).home ≡ option_map (λ (x : Home). x.owner) (link_at before f).home
    → (link_at before f).home ≡ None → link_at after f ≡ link_at before f
unlisted_stay before after owner f changes same none =
    changes.kept f (ap (λ (h : Option Home). list_at h owner) none)
    (ap (λ (h : Option Home). list_at h owner) (none_stays (link_at before f).home (link_at after f).home same none))

-- the frame is a unit of one of the two lists
pub is_listed : List Link → Lru → ℕ → Bool
is_listed links lru f = is_among (units_of links lru.inactive) f || is_among (units_of links lru.active) f

listed_as : (links : List Link) (lru : Lru) (list : LruList) (f : ℕ) → is_among (units_of links (queue_of lru list)) f ≡ true → is_listed links lru f ≡ true
unfolding is_listed
listed_as links lru Inactive f is = or_left _ _ is
listed_as links lru Active f is = or_right _ _ is

or_cases : (a b : Bool) → (a || b) ≡ true → (a ≡ true) ⊎ (b ≡ true)
or_cases true b is = inl refl
or_cases false b is = inr is

listed_where : (links : List Link) (lru : Lru) (f : ℕ) → is_listed links lru f ≡ true
    → (list : LruList) × (is_among (units_of links (queue_of lru list)) f ≡ true)
unfolding is_listed
listed_where links lru f is = elim (or_cases (is_among (units_of links lru.inactive) f) (is_among (units_of links lru.active) f) is) [
  | inl a ↦ (Inactive, a)
  | inr b ↦ (Active, b)
]

module _ (before after : List Link) (lru new : Lru) (old_stands : AreLinked before lru) (new_stands : AreLinked after new) (owner : new.owner ≡ lru.owner)
    (changes : ChangesOwn before after lru.owner) (on : (f : ℕ) → is_listed before lru f ≡ true → is_listed after new f ≡ true)
    (off : (f : ℕ) → is_listed after new f ≡ true → is_listed before lru f ≡ true) where
  -- each frame is on a list of the same owner as before
  pub owners_stay : (f : ℕ) → option_map (λ (x : Home). x.owner) (link_at after f).home ≡ option_map (λ (x : Home). x.owner) (link_at before f).home
  owners_stay f = elim (cases_none (list_of before lru.owner f)) [
    | inl none ↦ elim (cases_none (list_of after lru.owner f)) [
      | inl still ↦ ap (λ (k : Link). option_map (λ (x : Home). x.owner) k.home) (changes.kept f none still)
      | inr came ↦
          let l = some_list (list_of after lru.owner f) came in
          let home : (link_at after f).home ≡ Some (home_in new l.0) =
          home_of_list (link_at after f).home new l.0 (ap (list_at (link_at after f).home) owner ∙ l.1) in
          let was = listed_where before lru f (off f (listed_as after new l.0 f ((new_stands l.0).at_home f home))) in
          let there : list_of before lru.owner f ≡ Some was.0 =
          ap (λ (h : Option Home). list_at h lru.owner) ((old_stands was.0).homes f was.1) ∙ place_here lru.owner was.0 in
          absurd (none-some was.0 (sym none ∙ there))
    ]
    | inr was ↦
        let l = some_list (list_of before lru.owner f) was in
        let home : (link_at before f).home ≡ Some (home_in lru l.0) = home_of_list (link_at before f).home lru l.0 l.1 in
        let now = listed_where after new f (on f (listed_as before lru l.0 f ((old_stands l.0).at_home f home))) in
        let stands : (link_at after f).home ≡ Some (home_in new now.0) = (new_stands now.0).homes f now.1 in
        ap (option_map (λ (x : Home). x.owner)) stands ∙ ap Some owner ∙ sym (ap (option_map (λ (x : Home). x.owner)) home)
  ]

-- ---- lists of entries, and the numbers in them

numbers : (links : List Link) (xs : List ℕ) → map (λ (e : Entry). e.number) (map (entry_of links) xs) ≡ xs
numbers links [] = refl
numbers links (x ∷ xs) = ap (λ (l : List ℕ). x ∷ l) (numbers links xs)

dirtied_number : (unit : ℕ) (d : Bool) (b : Bool) (e : Entry) → (cond b (dirtied d e) e).number ≡ e.number
dirtied_number unit d true e = refl
dirtied_number unit d false e = refl

dirtied_numbers : (unit : ℕ) (d : Bool) (es : List Entry) → map (λ (e : Entry). e.number) (changed_at unit (dirtied d) es) ≡ map (λ (e : Entry). e.number) es
dirtied_numbers unit d [] = refl
dirtied_numbers unit d (e ∷ es) = λ i. dirtied_number unit d (e.number == unit) e i ∷ dirtied_numbers unit d es i

-- the same units are on the lists after one was dirtied
dirtied_units : (before after : List Link) (lru : Lru) (unit : ℕ) (d : Bool)
    → ((list : LruList) → entries_of after lru list ≡ changed_at unit (dirtied d) (entries_of before lru list))
    → (list : LruList) → units_of after (queue_of lru list) ≡ units_of before (queue_of lru list)
dirtied_units before after lru unit d is list =
    sym (numbers after (units_of after (queue_of lru list)))
    ∙ ap (map (λ (e : Entry). e.number)) (is list)
    ∙ dirtied_numbers unit d (entries_of before lru list)
    ∙ numbers before (units_of before (queue_of lru list))

pub dirtied_owners : (before after : List Link) (lru : Lru) (unit : ℕ) (d : Bool) → AreLinked before lru → AreLinked after lru
    → ChangesOwn before after lru.owner
    → ((list : LruList) → entries_of after lru list ≡ changed_at unit (dirtied d) (entries_of before lru list))
    → (f : ℕ) → option_map (λ (x : Home). x.owner) (link_at after f).home ≡ option_map (λ (x : Home). x.owner) (link_at before f).home
unfolding is_listed
dirtied_owners before after lru unit d old new changes is =
    let a = dirtied_units before after lru unit d is in
    let same : (f : ℕ) → is_listed after lru f ≡ is_listed before lru f = λ f. λ i. is_among (a Inactive i) f || is_among (a Active i) f in
    owners_stay before after lru lru old new refl changes (λ f h. same f ∙ h) (λ f h. sym (same f) ∙ h)

-- ---- a touch

marked_number : (b c : Bool) (e : Entry) → (cond c (marked b e) e).number ≡ e.number
marked_number b true e = refl
marked_number b false e = refl

marked_numbers : (unit : ℕ) (b : Bool) (es : List Entry) → map (λ (e : Entry). e.number) (changed_at unit (marked b) es) ≡ map (λ (e : Entry). e.number) es
marked_numbers unit b [] = refl
marked_numbers unit b (e ∷ es) = λ i. marked_number b (e.number == unit) e i ∷ marked_numbers unit b es i

without_numbers : (unit : ℕ) (es : List Entry) → map (λ (e : Entry). e.number) (entries_without unit es) ≡ list_without unit (map (λ (e : Entry). e.number) es)
without_numbers unit [] = refl
without_numbers unit (e ∷ es) = elim (cases_eq e.number unit) [
  | inl q ↦ let t : (e.number == unit) ≡ true = eq-eqb e.number unit q in rw t refl
  | inr ne ↦ let u : (e.number == unit) ≡ false = ne_eqb e.number unit ne in rw u (ap (λ (l : List ℕ). e.number ∷ l) (without_numbers unit es))
]

numbers_end : (es : List Entry) (e : Entry) → map (λ (x : Entry). x.number) (es ++ e ∷ []) ≡ map (λ (x : Entry). x.number) es ++ e.number ∷ []
numbers_end [] e = refl
numbers_end (x ∷ es) e = ap (λ (l : List ℕ). x.number ∷ l) (numbers_end es e)

among_without : (f g : ℕ) (xs : List ℕ) → (g ≡ f → ⊥) → is_among (list_without f xs) g ≡ is_among xs g
among_without f g [] ne = refl
among_without f g (x ∷ xs) ne = elim (cases_eq x f) [
  | inl e ↦ let t : (x == f) ≡ true = eq-eqb x f e in let u : (x == g) ≡ false = ne_eqb x g (λ h. ne (sym h ∙ e)) in rw (t, u) refl
  | inr n ↦ let t : (x == f) ≡ false = ne_eqb x f n in rw t (ap (λ b. (x == g) || b) (among_without f g xs ne))
]

among_end : (f : ℕ) (xs : List ℕ) → is_among (xs ++ f ∷ []) f ≡ true
among_end f [] = let t : (f == f) ≡ true = eq-eqb f f refl in rw t refl
among_end f (x ∷ xs) = or_right (x == f) _ (among_end f xs)

among_more : (f g : ℕ) (xs : List ℕ) → (g ≡ f → ⊥) → is_among (xs ++ f ∷ []) g ≡ is_among xs g
among_more f g [] ne = let u : (f == g) ≡ false = ne_eqb f g (λ h. ne (sym h)) in rw u refl
among_more f g (x ∷ xs) ne = ap (λ b. (x == g) || b) (among_more f g xs ne)

-- the units after a touch that moved one
moved_listed : (f g : ℕ) (inactive active : List ℕ) → (g ≡ f → ⊥)
    → (is_among (list_without f inactive) g || is_among (list_without f active ++ f ∷ []) g) ≡ (is_among inactive g || is_among active g)
moved_listed f g inactive active ne = λ i. among_without f g inactive ne i || (among_more f g (list_without f active) ne ∙ among_without f g active ne) i

-- the units of a list are the numbers of its entries
units_numbers : (links : List Link) (lru : Lru) (list : LruList)
    → units_of links (queue_of lru list) ≡ map (λ (e : Entry). e.number) (entries_of links lru list)
units_numbers links lru list = sym (numbers links (units_of links (queue_of lru list)))

touched_listed : (before after : List Link) (lru new : Lru) (f : ℕ) (touched : Touched) → AreLinked before lru → list_of before lru.owner f ≢ None
    → Touches before lru f touched after new → (g : ℕ) → is_listed after new g ≡ is_listed before lru g
unfolding is_listed
touched_listed before after lru new f touch.Marked old on touches g =
    let a : units_of after new.inactive ≡ units_of before lru.inactive = units_numbers after new Inactive ∙ ap (map (λ (e : Entry). e.number)) touches.2
    ∙ marked_numbers f true (inactive_of before lru) ∙ sym (units_numbers before lru Inactive) in
    let b : units_of after new.active ≡ units_of before lru.active = units_numbers after new Active ∙ ap (map (λ (e : Entry). e.number)) touches.3
    ∙ sym (units_numbers before lru Active) in
    λ i. is_among (a i) g || is_among (b i) g
touched_listed before after lru new f touch.Active old on touches g =
    let a : units_of after new.inactive ≡ list_without f (units_of before lru.inactive) = units_numbers after new Inactive
    ∙ ap (map (λ (e : Entry). e.number)) touches.1
    ∙ without_numbers f (inactive_of before lru) ∙ ap (list_without f) (sym (units_numbers before lru Inactive)) in
    let b : units_of after new.active ≡ list_without f (units_of before lru.active) ++ f ∷ [] =
    units_numbers after new Active ∙ ap (map (λ (e : Entry). e.number)) touches.2
    ∙ numbers_end (entries_without f (active_of before lru)) (marked false (entry_of before f))
    ∙ ap (λ (l : List ℕ). l ++ f ∷ []) (without_numbers f (active_of before lru) ∙ ap (list_without f) (sym (units_numbers before lru Active))) in
    let now : (is_among (units_of after new.inactive) g || is_among (units_of after new.active) g)
    ≡ (is_among (list_without f (units_of before lru.inactive)) g || is_among (list_without f (units_of before lru.active) ++ f ∷ []) g) =
    λ i. is_among (a i) g || is_among (b i) g in
    elim (cases_eq g f) [
      | inl e ↦
          let l = some_list (list_of before lru.owner f) on in
          let was : (is_among (units_of before lru.inactive) f || is_among (units_of before lru.active) f) ≡ true =
          listed_as before lru l.0 f ((old l.0).at_home f (home_of_list (link_at before f).home lru l.0 l.1)) in
          let is : (is_among (list_without f (units_of before lru.inactive)) f || is_among (list_without f (units_of before lru.active) ++ f ∷ []) f) ≡ true =
          or_right _ _ (among_end f (list_without f (units_of before lru.active))) in
          subst (λ (k : ℕ). (is_among (units_of after new.inactive) k || is_among (units_of after new.active) k)
          ≡ (is_among (units_of before lru.inactive) k || is_among (units_of before lru.active) k)) (sym e)
          ((λ i. is_among (a i) f || is_among (b i) f) ∙ is ∙ sym was)
      | inr ne ↦ now ∙ moved_listed f g (units_of before lru.inactive) (units_of before lru.active) ne
    ]

pub touched_owners : (before after : List Link) (lru new : Lru) (f : ℕ) (touched : Touched) → AreLinked before lru → AreLinked after new → new.owner ≡ lru.owner
    → ChangesOwn before after lru.owner → list_of before lru.owner f ≢ None → Touches before lru f touched after new
    → (g : ℕ) → option_map (λ (x : Home). x.owner) (link_at after g).home ≡ option_map (λ (x : Home). x.owner) (link_at before g).home
touched_owners before after lru new f touched old stands owner changes on touches =
    let same = touched_listed before after lru new f touched old on touches in
    owners_stay before after lru new old stands owner changes (λ g h. same g ∙ h) (λ g h. sym (same g) ∙ h)

-- ---- the lists of all other groups

-- a group that there is no room for has no unit
pub no_entries : (links : List Link) (list : LruList) → entries_of links no_lists list ≡ []
no_entries links Inactive = refl
no_entries links Active = refl

pub none_beyond : (links : List Link) (lists : List Lru) (g : ℕ) → length lists ≤ g → (list : LruList) → entries_of links (lists_at lists g) list ≡ []
none_beyond links lists g past list = ap (λ (x : Lru). entries_of links x list) (get_or_past lists g no_lists past) ∙ no_entries links list

-- if the lists of one group change, those of every other group are unchanged
pub others_stay : (before after : List Link) (lists : List Lru) (g : ℕ) (lru new : Lru) → AllLinked before lists → lru.owner ≡ g
    → ChangesOwn before after lru.owner → OthersStayLinked → OthersStay g (group_lists before lists) (group_lists after (slice_set lists g new))
others_stay before after lists g lru new all own changes others_stay_linked h list within ne =
    let stays : get_or (slice_set lists g new) h no_lists ≡ get_or lists h no_lists = get_or-set_other lists g h new no_lists ne in
    ap (λ (x : Lru). entries_of after x list) stays ∙ elim (cases_lt h (length lists)) [
      | inl inside ↦
          let apart : (get_or lists h no_lists).owner ≢ lru.owner = λ e. ne (sym (all h no_lists inside).0 ∙ e ∙ own) in
          (others_stay_linked before after lru.owner (get_or lists h no_lists) changes apart (all h no_lists inside).1).1 list
      | inr past ↦ none_beyond after lists h past list ∙ sym (none_beyond before lists h past list)
    ]

-- if each frame is on a list of the same group as before, the machine is consistent again
pub lists_consistent : (t : KnownTable) (m : KnownMachine) → IsConsistent t m → (links : List Link) (lists : List Lru) → length links ≡ length m.links
    → length lists ≡ length m.lists → ((f : ℕ) → option_map (λ (x : Home). x.owner) (home_of links f) ≡ option_map (λ (x : Home). x.owner) (home_of m.links f))
    → AllLinked links lists → IsConsistent t (record m { links = links; lists = lists })
lists_consistent t m ok links lists linked listed owners all = record {
  choice = ok.choice;
  sizes = record { frame_states = ok.sizes.frame_states; links = linked ∙ ok.sizes.links; lists = listed ∙ ok.sizes.lists; killed = ok.sizes.killed };
  areas = ok.areas;
  frame_states = λ f within. fits_home (room_of m.ledger.groups) (home_of m.links f) (home_of links f) (frame_state_at m.frame_states f) (owners f) (ok.frame_states f within);
  units = ok.units;
  lists = all;
  balances = ok.balances;
  shown = record {
    groups = ok.shown.groups;
    killed = ok.shown.killed;
    phases = ok.shown.phases;
    references = λ f. ok.shown.references f ∙ ap one_if (sym (some_home (home_of m.links f) (home_of links f) (owners f)));
    settled = ok.shown.settled;
    absorbed = ok.shown.absorbed;
    bounded = ok.shown.bounded;
    charged = ok.shown.charged;
  };
}
  where
    some_home : (a b : Option Home) → option_map (λ (x : Home). x.owner) b ≡ option_map (λ (x : Home). x.owner) a → is_some b ≡ is_some a
    some_home None None same = refl
    some_home (Some x) (Some y) same = refl
    some_home None (Some y) same = absurd (none-some y.owner (sym same))
    some_home (Some x) None same = absurd (none-some x.owner same)
