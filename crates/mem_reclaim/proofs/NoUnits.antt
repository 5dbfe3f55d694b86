-- The turn of a group that keeps no unit. Serves `take_turn`.
use Rattle.std.proofs.Common.{◌≡◌, ◌≢◌, ℕ, ◌-◌, ◌<◌, ◌==◌, ◌&&◌, Bool, true, false, Some, None, Option, List, [], ◌∷◌, length}
use Rattle.std.proofs.Common.{refl, sym, ap, ◌∙◌, subst, inl, inr, arith, nat_lt, suc, cond}
use Rattle.std.proofs.lemmas.Bool.{and_parts, cases_eq, cond-false, eqb-true, false≢true, le-ltb, ne_eqb}
use Rattle.std.proofs.lemmas.List.{append-nil}
use Rattle.group_tree.specs.Groups.{AreGroups, in_subtree}
use Rattle.group_charge.specs.Charges.{current_of}
use Rattle.group_charge.specs.declared.note.Note.TheVariants as note
use Rattle.group_protection.specs.Protections.{effective, low_key, min_key}
use Rattle.lru_lists.specs.declared.record.Entry.{Entry}
use Rattle.lru_lists.specs.declared.record.Home.{Home}
use Rattle.lru_lists.specs.declared.record.Link.{Link}
use Rattle.lru_lists.specs.declared.record.LruList.{LruList}
use Rattle.lru_lists.specs.declared.record.LruList.TheVariants.{Inactive, Active}
use Rattle.lru_lists.specs.{link_at, owner_of}
use Rattle.step_rules.proofs.Sums.{sum_none}
use Rattle.boot_words.specs.Tables.{KnownTable}
use Rattle.mem_machine.specs.{KnownMachine, IsConsistent, active_in, entries_in, frame_state_at, home_of, inactive_in}
use Rattle.mem_machine.specs.Ageing.{AgesGroup}
use Rattle.mem_machine.specs.Clean.{clean_owner, clean_pages, pages_headed, pages_if_is}
use Rattle.mem_machine.proofs.Followed.{makes_none}
use Rattle.mem_machine.proofs.Listing.{has_unit, listed_is}
use Rattle.mem_reclaim.specs.Wanted.{WhileWanted, progress}
use Rattle.mem_reclaim.specs.Moves.{FreesBySteps}
use Rattle.mem_reclaim.specs.Units.{ScansList, TriesReclaim}
use Rattle.mem_reclaim.specs.declared.passes.Pass.{Pass}
use Rattle.mem_reclaim.specs.declared.passes.Pass.TheVariants.{First, Second, Third}
use Rattle.mem_reclaim.specs.Passes.{PassesGroup, ReclaimsGroup, is_first, keeps_no_unit, notes_spared, spared_by, turn_want, with_detail_if}
use Rattle.mem_reclaim.proofs.Keeping.{keeps_none}
use Rattle.mem_reclaim.proofs.Moving.{moves_rest}
use Rattle.mem_reclaim.proofs.Passing.{TurnTaken, aged_leads, low_holds, turn_none, turn_some}
use Rattle.mem_reclaim.proofs.Wanting.{both_done, rested}

empty_of : (entries : List Entry) → length entries ≡ 0 → entries ≡ []
empty_of [] none = refl
empty_of (e ∷ es) none = absurd (let a : suc (length es) ≡ 0 = none in omega (arith, a))

-- no group gives pages of a unit that isn't on its lists
gives_none : (g pages : ℕ) (link : Link) → ((list : LruList) → link.home ≢ Some (record { owner = g; list = list })) → pages_if_is g (clean_owner link) pages ≡ 0
gives_none g pages link away = by link.is_dirty link.home refl
  where
    by : (dirty : Bool) (home : Option Home) → link.home ≡ home → pages_if_is g (cond dirty None (owner_of home)) pages ≡ 0
    by true home is = refl
    by false None is = refl
    by false (Some h) is = elim (cases_eq h.owner g) [
      | inl own ↦ absurd (away h.list (is ∙ (λ i. Some (record { owner = own i; list = h.list }))))
      | inr other ↦ cond-false (h.owner == g) pages 0 (ne_eqb h.owner g other)
    ]

off : (a b c : Bool) → c ≡ false → (a && b && c) ≡ false
off true true c none = none
off true false c none = refl
off false b c none = refl

and_false : (b : Bool) → (b && false) ≡ false
and_false true = refl
and_false false = refl

module _ (t : KnownTable) (g : ℕ) (m : KnownMachine) (ok : IsConsistent t m) (none : keeps_no_unit m g ≡ true) where
  empty : (list : LruList) → entries_in m g list ≡ []
  empty Inactive = empty_of (inactive_in m g) (eqb-true (length (inactive_in m g)) 0 (and_parts (length (inactive_in m g) == 0) _ none).0)
  empty Active = empty_of (active_in m g) (eqb-true (length (active_in m g)) 0 (and_parts (length (inactive_in m g) == 0) _ none).1)

  away : (f : ℕ) (list : LruList) → home_of m.links f ≢ Some (record { owner = g; list = list })
  away f list home = false≢true (ap (has_unit f) (sym (empty list)) ∙ (listed_is t m ok g list).at_home f home)

  none_clean : clean_pages m g ≡ 0
  none_clean = sum_none (length m.frame_states) _ (λ f below. gives_none g (pages_headed (frame_state_at m.frame_states f)) (link_at m.links f) (away f))

  scans : (spares_marked : Bool) (list : LruList) (want : ℕ) → FreesBySteps t 0 m m (ScansList spares_marked g list want)
  scans spares_marked list want = record {
    steps = [];
    does = subst (λ (entries : List Entry). WhileWanted (TriesReclaim spares_marked g) entries want (progress 0 m [] m)) (sym (empty list)) (rested m);
    moves = moves_rest t m;
  }

  ages : AgesGroup g m m
  ages = record {
    machine = refl;
    ages = record {
      moved = 0;
      inactive = sym (append-nil (inactive_in m g));
      active = refl;
      enough = let a = ap length (empty Active) in omega (arith, a);
      fewest = λ k below. absurd (omega (arith, below));
    };
    others = λ other list below ne. refl;
    owners = record { owner = λ f. refl; dirty = λ f. refl };
    unlisted = λ f out. refl;
  }

  scans_both : (want : ℕ) → 0 < want → FreesBySteps t 0 m m (PassesGroup false g want)
  scans_both want some = both_done t (ScansList false g) Inactive Active want m some 0 m (scans false Inactive want) some 0 m (scans false Active (want - 0))

  reclaims : (pass : Pass) (of_min of_low usage want : ℕ) → 0 < want → FreesBySteps t 0 m m (ReclaimsGroup pass of_min of_low usage g want)
  reclaims First of_min of_low usage want some =
      let h = aged_leads t m m m g want 0 ages (makes_none t m) (scans true Inactive want) in record { steps = h.steps; does = h.does; moves = h.moves }
  reclaims Second of_min of_low usage want some = let h = scans_both want some in record { steps = h.steps; does = h.does; moves = h.moves }
  reclaims Third of_min of_low usage want some = low_holds t of_min of_low usage g want 0 m m (scans_both want some) (and_false (nat_lt of_min of_low))

  -- it frees nothing, and no clean unit is left untried
  pub turn_of_none : (pass : Pass) (target want : ℕ) → AreGroups m.ledger.groups → in_subtree m.ledger.groups target g ≡ true → in_subtree m.ledger.groups g g ≡ true
      → TurnTaken t pass target g want 0 m m
  turn_of_none pass target want facts below own =
      let of_min = effective min_key m.ledger target g in
      let of_low = effective low_key m.ledger target g in
      let usage = current_of m.ledger g in
      let wanted = turn_want want usage (spared_by pass of_min of_low) in
      let unnoted : notes_spared pass (clean_pages m g) want wanted ≡ false = off (is_first pass) (nat_lt wanted want) _ (le-ltb wanted (clean_pages m g) (omega (arith, none_clean))) in
      let begins : m ≡ with_detail_if (notes_spared pass (clean_pages m g) want wanted) m (note.Spared g usage of_min of_low) =
      ap (λ (b : Bool). with_detail_if b m (note.Spared g usage of_min of_low)) (sym unnoted) in
      elim (cases_eq wanted 0) [
        | inl nothing ↦
            turn_none t pass target g want of_min of_low usage (spared_by pass of_min of_low) wanted m m m.ledger refl facts below refl refl refl refl refl begins nothing
        | inr some ↦
            turn_some t pass target g want of_min of_low usage (spared_by pass of_min of_low) wanted m m m.ledger refl facts below refl refl refl refl refl begins some 0 m
            (reclaims pass of_min of_low usage wanted (omega (arith, some))) (keeps_none t m) own (λ above inside. omega arith) (omega arith) (λ later f home here. here)
            (λ later less f list home clean. absurd (away f list home))
      ]
