-- The two lists of one group are read, or change and nothing else. Serves `age`, `renew` and the walks.
use Rattle.std.proofs.Common.{◌≡◌, ℕ, ◌<◌, ◌≤◌, ◌==◌, false, inl, inr, Option, Some, None, List, [], ◌∷◌, ◌++◌, length, get_or, refl, sym, ap, ◌∙◌, subst, arith}
use Rattle.mem_machine.proofs.Dirties.{owner_bound}
use Rattle.std.specs.Prelude.{slice_set, option_map}
use Rattle.std.proofs.lemmas.Bool.{cases_lt, ne_eqb}
use Rattle.std.proofs.lemmas.List.{get_or_default, get_or_past, get_or-set_same, length-set}
use Rattle.group_tree.specs.Groups.{room_of}
use Rattle.lru_lists.specs.declared.record.Link.{Link}
use Rattle.lru_lists.specs.declared.record.Home.{Home}
use Rattle.lru_lists.specs.declared.record.Entry.{Entry}
use Rattle.lru_lists.specs.declared.record.LruList.{LruList}
use Rattle.lru_lists.specs.declared.lru.Lru.{Lru}
use Rattle.lru_lists.specs.Queue.{nowhere}
use Rattle.lru_lists.specs.Lists.{HasNoUnits, OthersStayLinked, OneOfAllChanges, AreLinked, AllLinked, ChangesOwn, SameOwners, Ages, owner_of, list_of, list_at, entries_of}
use Rattle.lru_lists.specs.Lists.{inactive_of, active_of, entries_without, entry_of, marked, first_entry, entry_after}
use Rattle.boot_words.specs.Tables.{KnownTable}
use Rattle.mem_machine.specs.declared.frame_state.FrameState.{FrameState}
use Rattle.mem_machine.specs.{FitsFrameState, frame_state_at, KnownMachine, IsConsistent, OthersStay, UnlistedStay, home_of, lists_at, entries_in, no_lists, lists_of, AgesGroup}
use Rattle.mem_machine.specs.{RenewsUnit, Makes}
use Rattle.mem_machine.proofs.Listed.{lists_consistent, none_beyond, others_stay, place_here, unlisted_stay}
use Rattle.mem_machine.proofs.Followed.{makes_stay}

-- ---- the lists as they are read

-- the lists of a group number, as they are read from the machine
module _ (t : KnownTable) (m : KnownMachine) (ok : IsConsistent t m) (g : ℕ) (there : g < length m.lists) (any lru : Lru) (read : lru ≡ get_or m.lists g any) where
  read_owner : lru.owner ≡ g
  read_owner = ap (λ (x : Lru). x.owner) read ∙ (ok.lists g any there).0

  read_stands : AreLinked m.links lru
  read_stands = subst (AreLinked m.links) (sym read) (ok.lists g any there).1

  read_is : lists_at m.lists g ≡ lru
  read_is = sym (read ∙ get_or_default m.lists g any no_lists there)

-- the lists that were read of a group number
pub record AreRead (now : KnownMachine) (g : ℕ) (lru : Lru) : Type 0 where
  pub linked : AreLinked now.links lru
  pub owner : lru.owner ≡ g
  pub entries : (list : LruList) → entries_of now.links lru list ≡ entries_in now g list

pub lists_read : (t : KnownTable) (m now : KnownMachine) → m ≡ now → IsConsistent t m → (g i : ℕ) → i < length m.lists → i ≡ g → (any lru : Lru)
    → lru ≡ get_or m.lists i any → AreRead now g lru
lists_read t m now same ok g i there is any lru read =
    subst (λ (x : KnownMachine × ℕ). AreRead x.0 x.1 lru) (λ j. (same j, is j)) (record {
      linked = read_stands t m ok i there any lru read;
      owner = read_owner t m ok i there any lru read;
      entries = λ list. ap (λ (x : Lru). entries_of m.links x list) (sym (read_is t m ok i there any lru read));
    })

-- no frame is on a list of a group that there is no room for
unowned : (room i : ℕ) (home : Option Home) (frame_state : FrameState) → FitsFrameState room home frame_state → room ≤ i → list_at home i ≡ None
unowned room i None frame_state fits past = refl
unowned room i (Some h) frame_state fits past =
    let low = fits.0 in
    let other : (h.owner == i) ≡ false = ne_eqb h.owner i (λ e. absurd (omega (arith, low, past, e))) in
    rw other refl

pub no_units : (t : KnownTable) (m : KnownMachine) → IsConsistent t m → (i : ℕ) → length m.lists ≤ i → HasNoUnits m.links i
no_units t m ok i past f = elim (cases_lt f t.frames) [
  | inl inside ↦ unowned (room_of m.ledger.groups) i (home_of m.links f) (frame_state_at m.frame_states f) (ok.frame_states f inside)
      (let size = ok.sizes.lists in omega (arith, size, past))
  | inr out ↦ ap (λ (l : Link). list_at l.home i) (get_or_past m.links f nowhere (let size = ok.sizes.links in omega (arith, size, out)))
]

-- the lists of a group that there is no room for are empty
pub lists_beyond : (t : KnownTable) (m now : KnownMachine) → m ≡ now → IsConsistent t m → (g i : ℕ) → length m.lists ≤ i → i ≡ g → (lru : Lru) → lru.owner ≡ i
    → ((links : List Link) → HasNoUnits links i → AreLinked links lru) → ((links : List Link) (list : LruList) → entries_of links lru list ≡ []) → AreRead now g lru
lists_beyond t m now same ok g i past is lru owner linked empty =
    subst (λ (x : KnownMachine × ℕ). AreRead x.0 x.1 lru) (λ j. (same j, is j)) (record {
      linked = linked m.links (no_units t m ok i past);
      owner = owner;
      entries = λ list. empty m.links list ∙ sym (none_beyond m.links m.lists i past list);
    })

-- the unit is on the list that its link names
pub read_on : (now : KnownMachine) (g : ℕ) (lru : Lru) → AreRead now g lru → (f i : ℕ) → i ≡ f → (list : LruList)
    → home_of now.links f ≡ Some (record { owner = g; list = list }) → list_of now.links lru.owner i ≡ Some list
read_on now g lru is f i at list home =
    ap (λ (x : ℕ × ℕ). list_of now.links x.0 x.1) (λ j. (is.owner j, at j))
    ∙ ap (λ (h : Option Home). list_at h g) home ∙ place_here g list

-- the first unit of a list, and the one after another, as they are read
pub oldest_is : (m now : KnownMachine) → m ≡ now → (g : ℕ) (lru : Lru) → AreRead now g lru → (list : LruList) (unit : Option Entry)
    → unit ≡ first_entry (entries_of m.links lru list) → unit ≡ first_entry (entries_in now g list)
oldest_is m now same g lru is list unit read = read ∙ (λ j. first_entry (entries_of (same j).links lru list)) ∙ ap first_entry (is.entries list)

pub newer_is : (m now : KnownMachine) → m ≡ now → (g : ℕ) (lru : Lru) → AreRead now g lru → (f i : ℕ) → i ≡ f → (list : LruList)
    → home_of now.links f ≡ Some (record { owner = g; list = list }) → (unit : Option Entry)
    → ((l : LruList) → list_of m.links lru.owner i ≡ Some l → unit ≡ entry_after i (entries_of m.links lru l)) → unit ≡ entry_after f (entries_in now g list)
newer_is m now same g lru is f i at list home unit read =
    read list (ap (λ (x : KnownMachine). list_of x.links lru.owner i) same ∙ read_on now g lru is f i at list home)
    ∙ (λ j. entry_after (at j) (entries_of (same j).links lru list)) ∙ ap (entry_after f) (is.entries list)

-- ---- the lists as they change

owner_mapped : (h : Option Home) → option_map (λ (x : Home). x.owner) h ≡ owner_of h
owner_mapped None = refl
owner_mapped (Some h) = refl

-- what else is unchanged after the lists of one group changed
pub record GroupChanged (t : KnownTable) (now : KnownMachine) (g : ℕ) (lru new : Lru) (n : KnownMachine) : Type 0 where
  pub consistent : IsConsistent t n
  pub machine : n ≡ record now { links = n.links; lists = n.lists }
  pub before : lists_at now.lists g ≡ lru
  pub after : lists_at n.lists g ≡ new
  pub others : OthersStay g (lists_of now) (lists_of n)
  pub owners : SameOwners now.links n.links
  pub unlisted : UnlistedStay now.links n.links
  pub steps : Makes t now [] n

module _ (t : KnownTable) (m : KnownMachine) (ok : IsConsistent t m) (g : ℕ) (room : g < length m.lists) (any lru : Lru) (read : lru ≡ get_or m.lists g any)
    (links : List Link) (new : Lru) (now_stands : AreLinked links new) (owner : new.owner ≡ lru.owner) (changes : ChangesOwn m.links links lru.owner)
    (owners : SameOwners m.links links) (others_stay_linked : OthersStayLinked) (one_of_all_changes : OneOfAllChanges) where
  own : lru.owner ≡ g
  own = read_owner t m ok g room any lru read

  all_stand : AllLinked links (slice_set m.lists g new)
  all_stand = subst (λ (k : ℕ). AllLinked links (slice_set m.lists k new)) (owner ∙ own)
      (one_of_all_changes m.links links m.lists new ok.lists (subst (λ (k : ℕ). k < length m.lists) (sym (owner ∙ own)) room) now_stands
      (subst (ChangesOwn m.links links) (sym owner) changes))

  mapped : (f : ℕ) → option_map (λ (x : Home). x.owner) (home_of links f) ≡ option_map (λ (x : Home). x.owner) (home_of m.links f)
  mapped f = owner_mapped (home_of links f) ∙ owners.owner f ∙ sym (owner_mapped (home_of m.links f))

  group_changed : GroupChanged t m g lru new (record m { links = links; lists = slice_set m.lists g new })
  group_changed = record {
    consistent = lists_consistent t m ok links (slice_set m.lists g new) changes.frames (length-set m.lists g new) mapped all_stand;
    machine = refl;
    before = read_is t m ok g room any lru read;
    after = get_or-set_same m.lists g new no_lists room;
    others = others_stay m.links links m.lists g lru new ok.lists own changes others_stay_linked;
    owners = owners;
    unlisted = λ f none. unlisted_stay m.links links lru.owner f changes (mapped f) none;
    steps = makes_stay t m (record m { links = links; lists = slice_set m.lists g new }) refl refl refl;
  }

-- the same, of the machine as it was seen before
pub change_all : (t : KnownTable) (m now : KnownMachine) → m ≡ now → IsConsistent t m → (g i : ℕ) → i < length m.lists → i ≡ g → (any lru : Lru)
    → lru ≡ get_or m.lists i any → (links : List Link) (new : Lru) → AreLinked links new → new.owner ≡ lru.owner → ChangesOwn m.links links lru.owner
    → SameOwners m.links links → OthersStayLinked → OneOfAllChanges
    → GroupChanged t now g lru new (record m { links = links; lists = slice_set m.lists i new })
change_all t m now same ok g i fits is any lru read links new stands owner changes owners others all =
    subst (λ (x : KnownMachine × ℕ). GroupChanged t x.0 x.1 lru new (record m { links = links; lists = slice_set m.lists i new })) (λ j. (same j, is j))
    (group_changed t m ok i fits any lru read links new stands owner changes owners others all)

-- ---- the group was aged

pub ages_group : (t : KnownTable) (m now : KnownMachine) → m ≡ now → (g : ℕ) (lru new : Lru) (n : KnownMachine) → GroupChanged t now g lru new n
    → Ages m.links lru n.links new → AgesGroup g now n
ages_group t m now same g lru new n changed ages = record {
  machine = changed.machine;
  ages = subst (λ (x : KnownMachine × Lru × Lru). Ages x.0.links x.1 n.links x.2) (λ j. (same j, sym changed.before j, sym changed.after j)) ages;
  others = changed.others;
  owners = changed.owners;
  unlisted = changed.unlisted;
}

-- a group that there is no room for has nothing to age
pub ages_beyond : (t : KnownTable) (m now : KnownMachine) → m ≡ now → (g i : ℕ) → length m.lists ≤ i → i ≡ g → AgesGroup g now now × Makes t now [] now
ages_beyond t m now same g i past is = subst (λ (x : KnownMachine × ℕ). AgesGroup x.1 x.0 x.0 × Makes t x.0 [] x.0) (λ j. (same j, is j)) (
  record {
    machine = refl;
    ages = subst (λ (l : Lru). Ages m.links l m.links l) (sym (get_or_past m.lists i no_lists past)) (record {
      moved = 0;
      inactive = refl;
      active = refl;
      enough = omega arith;
      fewest = λ k low. absurd (omega (arith, low));
    });
    others = λ other list within ne. refl;
    owners = record { owner = λ f. refl; dirty = λ f. refl };
    unlisted = λ f none. refl;
  },
  makes_stay t m m refl refl refl,
)

-- ---- a unit of the group was renewed

-- there is room for the group of a unit on a list
pub renewed_there : (t : KnownTable) (m now : KnownMachine) → m ≡ now → IsConsistent t m → (f : ℕ) → f < t.frames → (g i : ℕ) → i ≡ g → (list : LruList)
    → home_of now.links f ≡ Some (record { owner = g; list = list }) → i < length m.lists
renewed_there t m now same ok f inside g i is list home =
    let low = owner_bound t m ok f (record { owner = g; list = list }) inside (ap (λ (x : KnownMachine). home_of x.links f) same ∙ home) in
    let sized = ok.sizes.lists in
    omega (arith, low, sized, is)

pub renews_unit : (t : KnownTable) (m now : KnownMachine) → m ≡ now → (g f i : ℕ) → i ≡ f → (lru new : Lru) (n : KnownMachine)
    → GroupChanged t now g lru new n
    → inactive_of n.links new ≡ entries_without i (inactive_of m.links lru) ++ marked false (entry_of m.links i) ∷ []
    → active_of n.links new ≡ active_of m.links lru → RenewsUnit g f now n
renews_unit t m now same g f i is lru new n changed inactive active = record {
  machine = changed.machine;
  inactive = subst (λ (x : KnownMachine × Lru × Lru × ℕ). inactive_of n.links x.2 ≡ entries_without x.3 (inactive_of x.0.links x.1)
      ++ marked false (entry_of x.0.links x.3) ∷ []) (λ j. (same j, sym changed.before j, sym changed.after j, is j)) inactive;
  active = subst (λ (x : KnownMachine × Lru × Lru). active_of n.links x.2 ≡ active_of x.0.links x.1)
      (λ j. (same j, sym changed.before j, sym changed.after j)) active;
  others = changed.others;
  owners = changed.owners;
  unlisted = changed.unlisted;
}
