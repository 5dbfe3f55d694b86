-- A unit is touched. Serves `touch`.
use Rattle.std.proofs.Common.{◌≡◌, ℕ, ◌<◌, Some, List, [], length, get_or, refl, sym, ap, ◌∙◌, subst, arith}
use Rattle.std.specs.Prelude.{slice_set, option_map}
use Rattle.std.proofs.lemmas.List.{get_or-set_same, length-set}
use Rattle.lru_lists.specs.declared.record.Link.{Link}
use Rattle.lru_lists.specs.declared.record.Home.{Home}
use Rattle.lru_lists.specs.declared.lru.Lru.{Lru}
use Rattle.lru_lists.specs.declared.lru.Touched.{Touched}
use Rattle.lru_lists.specs.Lists.{OthersStayLinked, OneOfAllChanges, AreLinked, AllLinked, ChangesOwn, Touches, list_of}
use Rattle.boot_words.specs.Tables.{KnownTable}
use Rattle.mem_machine.specs.{KnownMachine, IsConsistent, home_of, no_lists, TouchesUnit, Makes}
use Rattle.mem_machine.proofs.Listed.{touched_owners, lists_consistent, unlisted_stay, others_stay}
use Rattle.mem_machine.proofs.Dirties.{owner_bound, on_list, owned, stands, its_lists}
use Rattle.mem_machine.proofs.Followed.{makes_stay}

module _ (t : KnownTable) (m : KnownMachine) (ok : IsConsistent t m) (f : ℕ) (inside : f < t.frames) (h : Home)
    (home : home_of m.links f ≡ Some h)
    (lru : Lru) (read : lru ≡ get_or m.lists h.owner lru) (links : List Link) (new : Lru) (touched : Touched) (now_stands : AreLinked links new)
    (owner : new.owner ≡ lru.owner) (touches : Touches m.links lru f touched links new) (changes : ChangesOwn m.links links lru.owner)
    (others_stay_linked : OthersStayLinked) (one_of_all_changes : OneOfAllChanges) where
  bound : h.owner < length m.lists
  bound = let a = owner_bound t m ok f h inside home in let b = ok.sizes.lists in omega (arith, a, b)

  own : lru.owner ≡ h.owner
  own = owned t m ok f inside h home lru read

  all_stand : AllLinked links (slice_set m.lists h.owner new)
  all_stand = subst (λ (k : ℕ). AllLinked links (slice_set m.lists k new)) (owner ∙ own)
      (one_of_all_changes m.links links m.lists new ok.lists (subst (λ (k : ℕ). k < length m.lists) (sym (owner ∙ own)) bound) now_stands
      (subst (ChangesOwn m.links links) (sym owner) changes))

  owners : (g : ℕ) → option_map (λ (x : Home). x.owner) (home_of links g) ≡ option_map (λ (x : Home). x.owner) (home_of m.links g)
  owners = touched_owners m.links links lru new f touched (stands t m ok f inside h home lru read) now_stands owner changes
      (λ none. on_list m.links f h home (ap (λ (k : ℕ). list_of m.links k f) (sym own) ∙ none)) touches

  pub touch_consistent : IsConsistent t (record m { links = links; lists = slice_set m.lists h.owner new })
  touch_consistent = lists_consistent t m ok links (slice_set m.lists h.owner new) changes.frames (length-set m.lists h.owner new) owners all_stand

  pub touch_does : TouchesUnit f touched m (record m { links = links; lists = slice_set m.lists h.owner new })
  touch_does = record {
    group = h.owner;
    list = h.list;
    home = home;
    machine = refl;
    touches = subst (λ (x : Lru × Lru). Touches m.links x.0 f touched links x.1)
        (λ i. (sym (its_lists t m ok f inside h home lru read) i, sym (get_or-set_same m.lists h.owner new no_lists bound) i)) touches;
    others = others_stay m.links links m.lists h.owner lru new ok.lists own changes others_stay_linked;
    unlisted = λ g none. unlisted_stay m.links links lru.owner g changes (owners g) none;
  }

-- all of it, of the machine as it was seen before
pub record AllTouched (t : KnownTable) (now : KnownMachine) (f : ℕ) (touched : Touched) (n : KnownMachine) : Type 0 where
  pub consistent : IsConsistent t n
  pub touches : TouchesUnit f touched now n
  pub steps : Makes t now [] n

pub touch_all : (t : KnownTable) (m now : KnownMachine) → m ≡ now → IsConsistent t m → (f i : ℕ) → f < t.frames → i ≡ f → (h : Home)
    → Some h ≡ home_of m.links i → (lru : Lru) → lru ≡ get_or m.lists h.owner lru → (links : List Link) (new : Lru) (touched : Touched) → AreLinked links new
    → new.owner ≡ lru.owner → Touches m.links lru i touched links new → ChangesOwn m.links links lru.owner
    → OthersStayLinked → OneOfAllChanges → AllTouched t now f touched (record m { links = links; lists = slice_set m.lists h.owner new })
touch_all t m now same ok f i inside is h home lru read links new touched now_stands owner touches changes others all =
    let at : home_of m.links f ≡ Some h = ap (home_of m.links) (sym is) ∙ sym home in
    let told : Touches m.links lru f touched links new = subst (λ (k : ℕ). Touches m.links lru k touched links new) is touches in
    let n : KnownMachine = record m { links = links; lists = slice_set m.lists h.owner new } in
    subst (λ (x : KnownMachine). AllTouched t x f touched n) same (record {
      consistent = touch_consistent t m ok f inside h at lru read links new touched now_stands owner told changes others all;
      touches = touch_does t m ok f inside h at lru read links new touched now_stands owner told changes others all;
      steps = makes_stay t m n refl refl refl;
    })
