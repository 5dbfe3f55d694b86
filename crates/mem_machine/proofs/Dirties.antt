-- A unit is noted as dirty, or not. Serves `set_dirty`.
use Rattle.std.proofs.Common.{◌≡◌, ◌≢◌, ℕ, ◌<◌, Bool, Option, Some, None, List, [], length, get_or, refl, sym, ap, ◌∙◌, subst, arith}
use Rattle.std.specs.Prelude.{slice_set, option_map, IfSome}
use Rattle.std.proofs.lemmas.List.{get_or_default, set-get_or}
use Rattle.std.proofs.lemmas.Option.{none-some}
use Rattle.group_tree.specs.Groups.{room_of}
use Rattle.lru_lists.specs.declared.record.Link.{Link}
use Rattle.lru_lists.specs.declared.record.Home.{Home}
use Rattle.lru_lists.specs.declared.record.LruList.{LruList}
use Rattle.lru_lists.specs.declared.record.LruList.TheVariants.{Inactive, Active}
use Rattle.lru_lists.specs.declared.lru.Lru.{Lru}
use Rattle.lru_lists.specs.Lists.{OthersStayLinked, OneOfAllChanges, AreLinked, AllLinked, ChangesOwn, list_of, list_at, entries_of, changed_at, dirtied}
use Rattle.boot_words.specs.Tables.{KnownTable}
use Rattle.mem_machine.specs.{frame_state_at, head_group_of, KnownMachine, IsConsistent, OthersStay, home_of, lists_at, no_lists, group_lists}
use Rattle.mem_machine.specs.{lists_of, Dirties, Makes}
use Rattle.mem_machine.proofs.Listed.{dirtied_owners, lists_consistent, place_here, unlisted_stay, others_stay}
use Rattle.mem_machine.proofs.Followed.{makes_stay}

-- a home that is there is of a group that there is room for
pub owner_bound : (t : KnownTable) (m : KnownMachine) → IsConsistent t m → (f : ℕ) (h : Home) → f < t.frames
    → home_of m.links f ≡ Some h → h.owner < room_of m.ledger.groups
owner_bound t m ok f h inside is = (subst (λ (x : Option Home). IfSome x (λ y. (y.owner < room_of m.ledger.groups) × (head_group_of
    (frame_state_at m.frame_states f) ≡ Some y.owner))) is (ok.frame_states f inside)).0

pub on_list : (links : List Link) (f : ℕ) (h : Home) → home_of links f ≡ Some h → list_of links h.owner f ≢ None
on_list links f h is none = none-some h.list (sym none ∙ ap (λ (x : Option Home). list_at x h.owner) is ∙ place_here h.owner h.list)

module _ (t : KnownTable) (m : KnownMachine) (ok : IsConsistent t m) (f : ℕ) (inside : f < t.frames) (h : Home)
    (home : home_of m.links f ≡ Some h)
    (lru : Lru) (read : lru ≡ get_or m.lists h.owner lru) where
  bound : h.owner < length m.lists
  bound = let a = owner_bound t m ok f h inside home in let b = ok.sizes.lists in omega (arith, a, b)

  pub owned : lru.owner ≡ h.owner
  owned = ap (λ (x : Lru). x.owner) read ∙ (ok.lists h.owner lru bound).0

  pub stands : AreLinked m.links lru
  stands = subst (AreLinked m.links) (sym read) (ok.lists h.owner lru bound).1

  pub its_lists : lists_at m.lists h.owner ≡ lru
  its_lists = sym (read ∙ get_or_default m.lists h.owner lru no_lists bound)

  module _ (links : List Link) (d : Bool) (now_stands : AreLinked links lru)
      (entries : (list : LruList) → entries_of links lru list ≡ changed_at f (dirtied d) (entries_of m.links lru list))
      (changes : ChangesOwn m.links links lru.owner) (others_stay_linked : OthersStayLinked) (one_of_all_changes : OneOfAllChanges) where
    same_lists : slice_set m.lists h.owner lru ≡ m.lists
    same_lists = ap (slice_set m.lists h.owner) read ∙ set-get_or m.lists h.owner lru

    all_stand : AllLinked links m.lists
    all_stand = subst (AllLinked links) (ap (λ (k : ℕ). slice_set m.lists k lru) owned ∙ same_lists)
        (one_of_all_changes m.links links m.lists lru ok.lists (subst (λ (k : ℕ). k < length m.lists) (sym owned) bound) now_stands changes)

    owners : (g : ℕ) → option_map (λ (x : Home). x.owner) (home_of links g) ≡ option_map (λ (x : Home). x.owner) (home_of m.links g)
    owners = dirtied_owners m.links links lru f d stands now_stands changes entries

    pub dirty_consistent : IsConsistent t (record m { links = links })
    dirty_consistent = lists_consistent t m ok links m.lists changes.frames refl owners all_stand

    pub dirty_does : Dirties f d m (record m { links = links })
    dirty_does = record {
      group = h.owner;
      list = h.list;
      home = home;
      machine = refl;
      inactive = subst (λ (x : Lru). entries_of links x Inactive ≡ changed_at f (dirtied d) (entries_of m.links x Inactive)) (sym its_lists)
          (entries Inactive);
      active = subst (λ (x : Lru). entries_of links x Active ≡ changed_at f (dirtied d) (entries_of m.links x Active)) (sym its_lists) (entries Active);
      others = subst (λ (l : List Lru). OthersStay h.owner (lists_of m) (group_lists links l)) same_lists
          (others_stay m.links links m.lists h.owner lru lru ok.lists owned changes others_stay_linked);
      unlisted = λ g none. unlisted_stay m.links links lru.owner g changes (owners g) none;
    }

-- a kept unit has a home
pub has_home : (m now : KnownMachine) → m ≡ now → (f i : ℕ) → i ≡ f → home_of now.links f ≢ None → None ≡ home_of m.links i → ⊥
has_home m now same f i is kept none =
    kept (subst (λ (x : KnownMachine × ℕ). home_of x.0.links x.1 ≡ None) (λ j. (same j, is j)) (sym none))

-- all of it, of the machine as it was seen before
pub record AllDirtied (t : KnownTable) (now : KnownMachine) (f : ℕ) (d : Bool) (n : KnownMachine) : Type 0 where
  pub consistent : IsConsistent t n
  pub dirties : Dirties f d now n
  pub steps : Makes t now [] n

pub dirty_all : (t : KnownTable) (m now : KnownMachine) → m ≡ now → IsConsistent t m → (f i : ℕ) → f < t.frames → i ≡ f → (h : Home)
    → Some h ≡ home_of m.links i → (lru : Lru) → lru ≡ get_or m.lists h.owner lru → (links : List Link) (d : Bool) → AreLinked links lru
    → ((list : LruList) → entries_of links lru list ≡ changed_at i (dirtied d) (entries_of m.links lru list)) → ChangesOwn m.links links lru.owner
    → OthersStayLinked → OneOfAllChanges → AllDirtied t now f d (record m { links = links })
dirty_all t m now same ok f i inside is h home lru read links d now_stands entries changes others all =
    let at : home_of m.links f ≡ Some h = ap (home_of m.links) (sym is) ∙ sym home in
    let told : (list : LruList) → entries_of links lru list ≡ changed_at f (dirtied d) (entries_of m.links lru list) =
    subst (λ (k : ℕ). (list : LruList) → entries_of links lru list ≡ changed_at k (dirtied d) (entries_of m.links lru list)) is entries in
    subst (λ (x : KnownMachine). AllDirtied t x f d (record m { links = links })) same (record {
      consistent = dirty_consistent t m ok f inside h at lru read links d now_stands told changes others all;
      dirties = dirty_does t m ok f inside h at lru read links d now_stands told changes others all;
      steps = makes_stay t m (record m { links = links }) refl refl refl;
    })
