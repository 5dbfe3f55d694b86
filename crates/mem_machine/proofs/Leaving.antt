-- A kept unit leaves its list. Serves `leave_list`.
use Rattle.std.proofs.Common.{◌≡◌, ℕ, ◌<◌, Option, Some, List, length, get_or, sym, ap, ◌∙◌, subst}
use Rattle.std.specs.Prelude.{slice_set, IfSome}
use Rattle.std.proofs.lemmas.Option.{none-some}
use Rattle.std.proofs.lemmas.List.{get_or-set_same, get_or_default, length-set}
use Rattle.lru_lists.specs.declared.record.Link.{Link}
use Rattle.lru_lists.specs.declared.record.Home.{Home}
use Rattle.lru_lists.specs.declared.lru.Lru.{Lru}
use Rattle.lru_lists.specs.Queue.{link_at, nowhere, SameUse}
use Rattle.lru_lists.specs.Lists.{OthersStayLinked, OneOfAllChanges, AreLinked, AllLinked, ChangesOwn, MovesOnly, inactive_of, active_of, entries_without, list_at}
use Rattle.mem_machine.specs.{home_of, lists_at, no_lists, group_lists, LeavesList}
use Rattle.mem_machine.proofs.Listed.{others_stay}

-- all that `leave_list` leaves
pub record AllLeave (links : List Link) (lists : List Lru) (f : ℕ) (after : List Link) (new : List Lru) : Type 0 where
  pub leaves : LeavesList f (group_lists links lists) (group_lists after new)
  pub stand : AllLinked after new
  pub frames : length after ≡ length links
  pub groups : length new ≡ length lists

-- the home is of one of the owners
pub owner_within : (home : Option Home) (h : Home) (lists : List Lru) → Some h ≡ home → IfSome home (λ x. x.owner < length lists) → h.owner < length lists
owner_within home h lists is owner = subst (λ (x : Option Home). IfSome x (λ y. y.owner < length lists)) (sym is) owner

module _ (links : List Link) (lists : List Lru) (f : ℕ) (h : Home) (home : Some h ≡ home_of links f) (owner : IfSome (home_of links f) (λ x. x.owner < length lists))
    (all : AllLinked links lists) (lru any : Lru) (read : lru ≡ get_or lists h.owner any) where
  bound : h.owner < length lists
  bound = owner_within (home_of links f) h lists home owner

  own : lru.owner ≡ h.owner
  own = ap (λ (x : Lru). x.owner) read ∙ (all h.owner any bound).0

  its_lists : lists_at lists h.owner ≡ lru
  its_lists = sym (read ∙ get_or_default lists h.owner any no_lists bound)

  module _ (after : List Link) (new : Lru) (now_stands : AreLinked after new) (same : new.owner ≡ lru.owner)
      (inactive : inactive_of after new ≡ entries_without f (inactive_of links lru)) (active : active_of after new ≡ entries_without f (active_of links lru))
      (forgotten : link_at after f ≡ nowhere) (changes : ChangesOwn links after lru.owner) (moves : MovesOnly links after lru.owner f)
      (used : SameUse links after f) (others_stay_linked : OthersStayLinked) (one_of_all_changes : OneOfAllChanges) where
    now_its : lists_at (slice_set lists h.owner new) h.owner ≡ new
    now_its = get_or-set_same lists h.owner new no_lists bound

    all_stand : AllLinked after (slice_set lists h.owner new)
    all_stand = subst (λ (k : ℕ). AllLinked after (slice_set lists k new)) (same ∙ own)
        (one_of_all_changes links after lists new all (subst (λ (k : ℕ). k < length lists) (sym (same ∙ own)) bound) now_stands
        (subst (ChangesOwn links after) (sym same) changes))

    pub leave_all : AllLeave links lists f after (slice_set lists h.owner new)
    leave_all = record {
      leaves = record {
        group = h.owner;
        list = h.list;
        home = sym home;
        forgotten = forgotten;
        homes = moves.home;
        unlisted = λ g none. moves.kept g (λ e. none-some h (sym none ∙ ap (home_of links) e ∙ sym home)) (ap (λ (x : Option Home). list_at x lru.owner) none);
        used = used;
        inactive = subst (λ (x : Lru × Lru). inactive_of after x.1 ≡ entries_without f (inactive_of links x.0))
            (λ i. (sym its_lists i, sym now_its i)) inactive;
        active = subst (λ (x : Lru × Lru). active_of after x.1 ≡ entries_without f (active_of links x.0)) (λ i. (sym its_lists i, sym now_its i)) active;
        others = others_stay links after lists h.owner lru new all own changes others_stay_linked;
      };
      stand = all_stand;
      frames = changes.frames;
      groups = length-set lists h.owner new;
    }
