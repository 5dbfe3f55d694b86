-- The units of one list, as entries. Serves walks over a list, in the crates above too.
use Rattle.std.proofs.Common.{◌≡◌, ℕ, ◌<◌, ◌==◌, ◌||◌, Bool, true, false, Option, Some, List, [], ◌∷◌, ◌++◌, map, length, refl, sym, ap, ◌∙◌, subst, inl, inr, arith, eq-eqb}
use Rattle.mem_machine.proofs.OneGroup.{no_units}
use Rattle.mem_machine.proofs.Listed.{none_beyond, place_here}
use Rattle.std.proofs.lemmas.Bool.{cases_eq, cases_lt, ne_eqb, or_parts, false≢true}
use Rattle.std.proofs.lemmas.Option.{none-some}
use Rattle.std.proofs.lemmas.List.{get_or_past}
use Rattle.lru_lists.specs.declared.record.Link.{Link}
use Rattle.lru_lists.specs.declared.record.Home.{Home}
use Rattle.lru_lists.specs.declared.record.Entry.{Entry}
use Rattle.lru_lists.specs.declared.record.LruList.{LruList}
use Rattle.lru_lists.specs.{link_at, list_at, nowhere, is_among, HasNoRepeats, units_of, entries_without, entry_after, first_entry, entry_of, queue_of}
use Rattle.boot_words.specs.Tables.{KnownTable}
use Rattle.mem_machine.specs.{KnownMachine, IsConsistent, home_of, lists_at, no_lists, entries_in}

-- the unit of this number is among them
abbrev pub has_unit : ℕ → List Entry → Bool
has_unit f [] = false
has_unit f (e ∷ es) = e.number == f || has_unit f es

-- no unit is among them twice
abbrev pub AreApartUnits : List Entry → Type 0
AreApartUnits [] = Unit {0}
AreApartUnits (e ∷ es) = (has_unit e.number es ≡ false) × AreApartUnits es

-- each is as its record says
abbrev pub AreAsRead : List Link → List Entry → Type 0
AreAsRead links [] = Unit {0}
AreAsRead links (e ∷ es) = (e ≡ entry_of links e.number) × AreAsRead links es

-- the units of one of the group's lists
pub record IsListed (now : KnownMachine) (g : ℕ) (list : LruList) (entries : List Entry) : Type 0 where
  pub apart : AreApartUnits entries
  pub homes : (f : ℕ) → has_unit f entries ≡ true → home_of now.links f ≡ Some (record { owner = g; list = list })
  pub at_home : (f : ℕ) → home_of now.links f ≡ Some (record { owner = g; list = list }) → has_unit f entries ≡ true
  pub read : AreAsRead now.links entries

-- ---- a unit in the middle

-- it is among them
or_true : (b c : Bool) → c ≡ true → (b || c) ≡ true
or_true true c is = refl
or_true false c is = is

pub has_mid : (xs ys : List Entry) (e : Entry) (f : ℕ) → e.number ≡ f → has_unit f (xs ++ e ∷ ys) ≡ true
has_mid [] ys e f is = let t : (e.number == f) ≡ true = eq-eqb e.number f is in rw t refl
has_mid (x ∷ xs) ys e f is = or_true (x.number == f) (has_unit f (xs ++ e ∷ ys)) (has_mid xs ys e f is)

-- and not among those before it
pub apart_mid : (xs ys : List Entry) (e : Entry) → AreApartUnits (xs ++ e ∷ ys) → has_unit e.number xs ≡ false
apart_mid [] ys e apart = refl
apart_mid (x ∷ xs) ys e apart = elim (cases_eq x.number e.number) [
  | inl same ↦ absurd (false≢true (sym apart.0 ∙ has_mid xs ys e x.number (sym same)))
  | inr ne ↦ let t : (x.number == e.number) ≡ false = ne_eqb x.number e.number ne in rw t (apart_mid xs ys e apart.1)
]

pub read_mid : (links : List Link) (xs ys : List Entry) (e : Entry) → AreAsRead links (xs ++ e ∷ ys) → e ≡ entry_of links e.number
read_mid links [] ys e read = read.0
read_mid links (x ∷ xs) ys e read = read_mid links xs ys e read.1

-- the next one, and the list without it
pub after_mid : (xs ys : List Entry) (e : Entry) → has_unit e.number xs ≡ false → entry_after e.number (xs ++ e ∷ ys) ≡ first_entry ys
after_mid [] ys e not = let t : (e.number == e.number) ≡ true = eq-eqb e.number e.number refl in rw t refl
after_mid (x ∷ xs) ys e not =
    let p = or_parts (x.number == e.number) (has_unit e.number xs) not in
    rw (p.0) (after_mid xs ys e p.1)

pub without_mid : (xs ys : List Entry) (e : Entry) → has_unit e.number xs ≡ false → entries_without e.number (xs ++ e ∷ ys) ≡ xs ++ ys
without_mid [] ys e not = let t : (e.number == e.number) ≡ true = eq-eqb e.number e.number refl in rw t refl
without_mid (x ∷ xs) ys e not =
    let p = or_parts (x.number == e.number) (has_unit e.number xs) not in
    rw (p.0) (ap (λ (l : List Entry). x ∷ l) (without_mid xs ys e p.1))

-- ---- the lists of a consistent machine

map_has : (links : List Link) (units : List ℕ) (f : ℕ) → has_unit f (map (entry_of links) units) ≡ is_among units f
map_has links [] f = refl
map_has links (x ∷ xs) f = ap (λ (b : Bool). x == f || b) (map_has links xs f)

map_apart : (links : List Link) (units : List ℕ) → HasNoRepeats units → AreApartUnits (map (entry_of links) units)
map_apart links [] apart = tt
map_apart links (x ∷ xs) apart = (map_has links xs x ∙ apart.0, map_apart links xs apart.1)

map_read : (links : List Link) (units : List ℕ) → AreAsRead links (map (entry_of links) units)
map_read links [] = tt
map_read links (x ∷ xs) = (refl, map_read links xs)

there_listed : (t : KnownTable) (m : KnownMachine) → IsConsistent t m → (g : ℕ) → g < length m.lists → (list : LruList) → IsListed m g list (entries_in m g list)
there_listed t m ok g there list =
    let stand = ok.lists g no_lists there in
    let linked = stand.1 list in
    let units : List ℕ = units_of m.links (queue_of (lists_at m.lists g) list) in
    let home : Some (record { owner = (lists_at m.lists g).owner; list = list }) ≡ Some (record { owner = g; list = list }) =
    λ i. Some (record { owner = stand.0 i; list = list }) in
    record {
      apart = map_apart m.links units linked.apart;
      homes = λ f is. linked.homes f (sym (map_has m.links units f) ∙ is) ∙ home;
      at_home = λ f is. map_has m.links units f ∙ linked.at_home f (is ∙ sym home);
      read = map_read m.links units;
    }

pub listed_is : (t : KnownTable) (m : KnownMachine) → IsConsistent t m → (g : ℕ) (list : LruList) → IsListed m g list (entries_in m g list)
listed_is t m ok g list = elim (cases_lt g (length m.lists)) [
  | inl there ↦ there_listed t m ok g there list
  | inr past ↦ subst (IsListed m g list) (sym (none_beyond m.links m.lists g past list)) (record {
    apart = tt;
    homes = λ f is. absurd (false≢true is);
    at_home = λ f is. absurd (none-some list (sym (no_units t m ok g past f) ∙ ap (λ (h : Option Home). list_at h g) is ∙ place_here g list));
    read = tt;
  })
]

-- a frame that is on a list is one of the zone's
pub home_inside : (t : KnownTable) (m : KnownMachine) → IsConsistent t m → (f : ℕ) (h : Home) → home_of m.links f ≡ Some h → f < t.frames
home_inside t m ok f h home = elim (cases_lt f t.frames) [
  | inl lt ↦ lt
  | inr out ↦
      let sized = ok.sizes.links in
      let past : link_at m.links f ≡ nowhere = get_or_past m.links f nowhere (omega (arith, sized, out)) in
      absurd (none-some h (sym (ap (λ (k : Link). k.home) past) ∙ home))
]
