-- A unit comes onto its group's inactive list. Serves `join_list`.
use Rattle.std.proofs.Common.{◌≡◌, ℕ, ◌<◌, false, Option, Some, List, [], ◌∷◌, ◌++◌, length, get_or, sym, ap, ◌∙◌, subst}
use Rattle.std.specs.Prelude.{slice_set}
use Rattle.std.proofs.lemmas.List.{get_or-set_same, get_or_default, length-set}
use Rattle.lru_lists.specs.declared.record.Link.{Link}
use Rattle.lru_lists.specs.declared.record.Home.{Home}
use Rattle.lru_lists.specs.declared.record.LruList.TheVariants.{Inactive}
use Rattle.lru_lists.specs.declared.lru.Lru.{Lru}
use Rattle.lru_lists.specs.{link_at, OthersStayLinked, OneOfAllChanges, AreLinked, AllLinked, ChangesOwn, MovesOnly, list_at, inactive_of, active_of}
use Rattle.lru_lists.specs.Lists as lists
use Rattle.mem_machine.specs.{lists_at, no_lists, group_lists, JoinsList}
use Rattle.mem_machine.proofs.Listed.{others_stay}

-- a unit was added to the lists of a group
pub record IsAdded (links : List Link) (lru : Lru) (f : ℕ) (after : List Link) (new : Lru) : Type 0 where
  pub stands : AreLinked after new
  pub owner : new.owner ≡ lru.owner
  pub inactive : inactive_of after new ≡ inactive_of links lru ++ record { number = f; is_marked = false; is_dirty = false } ∷ []
  pub active : active_of after new ≡ active_of links lru
  pub changes : ChangesOwn links after lru.owner
  pub moves : MovesOnly links after lru.owner f
  pub joined : (link_at after f).home ≡ Some (lists.home_in lru Inactive)

-- all that `join_list` leaves
pub record AllJoin (links : List Link) (lists : List Lru) (g f : ℕ) (after : List Link) (new : List Lru) : Type 0 where
  pub joins : JoinsList g f (group_lists links lists) (group_lists after new)
  pub stand : AllLinked after new
  pub frames : length after ≡ length links
  pub groups : length new ≡ length lists

module _ (links : List Link) (lists : List Lru) (g f : ℕ) (there : g < length lists) (all : AllLinked links lists) (any lru : Lru)
    (read : lru ≡ get_or lists g any) where
  own : lru.owner ≡ g
  own = ap (λ (x : Lru). x.owner) read ∙ (all g any there).0

  module _ (after : List Link) (new : Lru) (added : IsAdded links lru f after new) (others_stay_linked : OthersStayLinked) (one_of_all_changes : OneOfAllChanges) where
    all_stand : AllLinked after (slice_set lists g new)
    all_stand = subst (λ (k : ℕ). AllLinked after (slice_set lists k new)) (added.owner ∙ own)
        (one_of_all_changes links after lists new all (subst (λ (k : ℕ). k < length lists) (sym (added.owner ∙ own)) there) added.stands
        (subst (ChangesOwn links after) (sym added.owner) added.changes))

    join_here : AllJoin links lists g f after (slice_set lists g new)
    join_here =
        let now : get_or (slice_set lists g new) g no_lists ≡ new = get_or-set_same lists g new no_lists there in
        let was : lru ≡ lists_at lists g = read ∙ get_or_default lists g any no_lists there in
        record {
          joins = record {
            home = added.joined ∙ (λ i. Some (record { owner = own i; list = Inactive }));
            homes = λ x ne. added.moves.home x ne;
            inactive = ap (inactive_of after) now ∙ added.inactive
                ∙ ap (λ (l : Lru). inactive_of links l ++ record { number = f; is_marked = false; is_dirty = false } ∷ []) was;
            active = ap (active_of after) now ∙ added.active ∙ ap (active_of links) was;
            others = others_stay links after lists g lru new all own added.changes others_stay_linked;
            unlisted = λ x ne none. added.moves.kept x ne (ap (λ (h : Option Home). list_at h lru.owner) none);
          };
          stand = all_stand;
          frames = added.changes.frames;
          groups = length-set lists g new;
        }

-- the same if the group's lists were read and written by its number
pub join_all : (links : List Link) (lists : List Lru) (g f o : ℕ) → o ≡ g → g < length lists → AllLinked links lists → (any lru : Lru)
    → lru ≡ get_or lists o any → (after : List Link) (new : Lru) → IsAdded links lru f after new → OthersStayLinked → OneOfAllChanges
    → AllJoin links lists g f after (slice_set lists o new)
join_all links lists g f o index there all any lru read after new added others_stay_linked one_of_all_changes =
    let read_here : lru ≡ get_or lists g any = read ∙ ap (λ (k : ℕ). get_or lists k any) index in
    subst (λ (k : ℕ). AllJoin links lists g f after (slice_set lists k new)) (sym index)
    (join_here links lists g f there all any lru read_here after new added others_stay_linked one_of_all_changes)
