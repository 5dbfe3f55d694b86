-- What is done with one unit, and with its list. Serves `try_reclaim` and the scan.
use Rattle.std.proofs.Common.{◌≡◌, ◌+◌, ℕ, ◌==◌, ◌&&◌, ◌⊎◌, Bool, true, false, Option, Some, None, List, [], ◌∷◌, ◌++◌, refl, sym, ap, ◌∙◌, subst}
use Rattle.std.proofs.Common.{inl, inr, arith, cond, eq-eqb}
use Rattle.std.specs.Prelude.{unwrap_or}
use Rattle.std.proofs.lemmas.List.{append-nil}
use Rattle.std.proofs.lemmas.Bool.{cases_eq, true≢false}
use Rattle.std.proofs.lemmas.Option.{none-some}
use Rattle.lru_lists.specs.declared.record.Link.{Link}
use Rattle.lru_lists.specs.declared.record.Home.{Home}
use Rattle.lru_lists.specs.declared.record.Entry.{Entry}
use Rattle.lru_lists.specs.declared.record.LruList.{LruList}
use Rattle.lru_lists.specs.declared.record.LruList.TheVariants.{Inactive, Active}
use Rattle.lru_lists.specs.{link_at, entries_without, entry_of, marked}
use Rattle.step_rules.specs.After.{Run}
use Rattle.boot_words.specs.Tables.{KnownTable}
use Rattle.mem_machine.specs.{IsConsistent, KnownMachine, home_of, Makes, RenewsUnit, entries_in, EvictsUnit, Evicts, evict_steps}
use Rattle.boot_words.specs.Pasts.{IsHeld}
use Rattle.mem_reclaim.specs.{FreesBySteps, missed_in, misses_of, progress, TriesReclaimAs, TriesReclaim, OnlyLeave, IsMissed}
use Rattle.mem_reclaim.proofs.Moving.{moves_rest, moves_none, moves_try, missed_here}
use Rattle.mem_reclaim.proofs.Wanting.{rested}

-- ---- the three cases

pub meets_dirty : (t : KnownTable) (spares_marked : Bool) (g : ℕ) (e : Entry) (m : KnownMachine) → e.is_dirty ≡ true
    → FreesBySteps t 0 m m (TriesReclaim spares_marked g e 1)
meets_dirty t spares_marked g e m dirty = record {
  steps = [];
  does = subst (λ (d : Bool). TriesReclaimAs d (spares_marked && e.is_marked) g e.number (progress 0 m [] m)) (sym dirty) (rested m);
  moves = moves_rest t m;
}

pub meets_spared : (t : KnownTable) (spares_marked : Bool) (g f : ℕ) (e : Entry) (m n : KnownMachine) → e.is_dirty ≡ false
    → (spares_marked && e.is_marked) ≡ true
    → e.number ≡ f → RenewsUnit g f m n → Makes t m [] n → FreesBySteps t 0 m n (TriesReclaim spares_marked g e 1)
meets_spared t spares_marked g f e m n clean spared is renews runs = record {
  steps = [];
  does = subst (λ (x : Bool × Bool × ℕ). TriesReclaimAs x.0 x.1 g x.2 (progress 0 m [] n)) (λ i. (sym clean i, sym spared i, sym is i))
      (record { no_page = refl; renews = renews; no_step = refl });
  moves = moves_none t m n runs (ap (λ (x : KnownMachine). x.run) renews.machine) (ap (λ (x : KnownMachine). x.counts) renews.machine);
}

pub meets_tried : (t : KnownTable) (spares_marked : Bool) (g f : ℕ) (e : Entry) (m n : KnownMachine) (answer : Option ℕ) (freed : ℕ) → IsConsistent t m → IsHeld t m.run.past
    → e.is_dirty ≡ false
    → (spares_marked && e.is_marked) ≡ false → e.number ≡ f → Evicts f answer m n → Makes t m (evict_steps f answer) n → freed ≡ unwrap_or answer 0
    → FreesBySteps t freed m n (TriesReclaim spares_marked g e 1)
meets_tried t spares_marked g f e m n answer freed ok held clean spared is evicts runs pages =
    subst (λ (p : ℕ). FreesBySteps t p m n (TriesReclaim spares_marked g e 1)) (sym pages) (record {
      steps = evict_steps f answer;
      does = subst (λ (x : Bool × Bool × ℕ). TriesReclaimAs x.0 x.1 g x.2 (progress (unwrap_or answer 0) m (evict_steps f answer) n)) (λ i. (sym clean i, sym spared i, sym is i))
          (record { answer = answer; evicts = evicts; pages = refl; tries = refl });
      moves = moves_try t m n f answer ok held evicts runs;
    })

-- ---- the list that the unit was on

-- the list is unchanged, or the unit left it, and perhaps joined its newest end again
abbrev pub MetList : ℕ → LruList → ℕ → KnownMachine → KnownMachine → Type 0
MetList g list f m n =
    (entries_in n g list ≡ entries_in m g list) ⊎ ((back : List Entry) × (entries_in n g list ≡ entries_without f (entries_in m g list) ++ back))

same_home : (a b : Home) → Some a ≡ Some b → a.owner ≡ b.owner
same_home a b e = cc

evicted_entries : (m n : KnownMachine) (g f pages : ℕ) (list : LruList) → EvictsUnit f pages m n → home_of m.links f ≡ Some (record { owner = g; list = list })
    → entries_in n g list ≡ entries_without f (entries_in m g list)
evicted_entries m n g f pages Inactive is home =
    let own : is.list.group ≡ g = same_home (record { owner = is.list.group; list = is.list.list }) (record { owner = g; list = Inactive }) (sym is.list.home ∙ home) in
    subst (λ (k : ℕ). entries_in n k Inactive ≡ entries_without f (entries_in m k Inactive)) own is.list.inactive
evicted_entries m n g f pages Active is home =
    let own : is.list.group ≡ g = same_home (record { owner = is.list.group; list = is.list.list }) (record { owner = g; list = Active }) (sym is.list.home ∙ home) in
    subst (λ (k : ℕ). entries_in n k Active ≡ entries_without f (entries_in m k Active)) own is.list.active

tried_list : (m n : KnownMachine) (g f : ℕ) (list : LruList) (answer : Option ℕ) → Evicts f answer m n → home_of m.links f ≡ Some (record { owner = g; list = list })
    → MetList g list f m n
tried_list m n g f list None is home = inl (ap (λ (x : KnownMachine). entries_in x g list) is)
tried_list m n g f list (Some pages) is home =
    inr ([], evicted_entries m n g f pages list is home ∙ sym (append-nil (entries_without f (entries_in m g list))))

met_as : (dirty spared : Bool) (m n : KnownMachine) (g f freed : ℕ) (steps : Run) (list : LruList) → TriesReclaimAs dirty spared g f (progress freed m steps n)
    → (spared ≡ true → list ≡ Inactive) → home_of m.links f ≡ Some (record { owner = g; list = list }) → MetList g list f m n
met_as true spared m n g f freed steps list is inactive home = inl (ap (λ (x : KnownMachine). entries_in x g list) is.machine)
met_as false true m n g f freed steps list is inactive home =
    subst (λ (l : LruList). MetList g l f m n) (sym (inactive refl)) (inr (marked false (entry_of m.links f) ∷ [], is.renews.inactive))
met_as false false m n g f freed steps list is inactive home = tried_list m n g f list is.answer is.evicts home

pub met_list : (spares_marked : Bool) (m n : KnownMachine) (g want freed : ℕ) (e : Entry) (steps : Run) (list : LruList)
    → TriesReclaim spares_marked g e want (progress freed m steps n)
    → (spares_marked ≡ true → list ≡ Inactive) → home_of m.links e.number ≡ Some (record { owner = g; list = list }) → MetList g list e.number m n
met_list true m n g want freed e steps list is inactive home = met_as e.is_dirty e.is_marked m n g e.number freed steps list is (λ i. inactive refl) home
met_list false m n g want freed e steps list is inactive home = met_as e.is_dirty false m n g e.number freed steps list is (λ i. absurd (true≢false (sym i))) home

-- ---- if marks don't count, units leave and none joins, and one that stays clean is missed

try_leaves : (m n : KnownMachine) (f : ℕ) (answer : Option ℕ) → Evicts f answer m n → OnlyLeave m n
try_leaves m n f None is x h home = ap (λ (k : KnownMachine). home_of k.links x) (sym is) ∙ home
try_leaves m n f (Some pages) is x h home = elim (cases_eq x f) [
  | inl e ↦ absurd (none-some h (sym (ap (home_of n.links) e ∙ ap (λ (k : Link). k.home) is.list.forgotten) ∙ home))
  | inr ne ↦ sym (is.list.homes x ne) ∙ home
]

try_misses : (m n : KnownMachine) (f : ℕ) (answer : Option ℕ) → Evicts f answer m n → misses_of n f ≡ misses_of m f + missed_in f (evict_steps f answer)
    → (h : Home) → IsMissed m n f h
try_misses m n f None is counts h home clean =
    let here = missed_here f f in
    let one : ◌≡◌ {A = ℕ} (cond (f == f) 1 0) 1 = ap (λ (b : Bool). cond b 1 0) (eq-eqb f f refl) in
    omega (arith, counts, here, one)
try_misses m n f (Some pages) is counts h home clean = absurd (none-some h (sym (ap (λ (k : Link). k.home) is.list.forgotten) ∙ home))

leaves_as : (dirty : Bool) (m n : KnownMachine) (g f freed : ℕ) (steps : Run) → TriesReclaimAs dirty false g f (progress freed m steps n) → OnlyLeave m n
leaves_as true m n g f freed steps is x h home = ap (λ (k : KnownMachine). home_of k.links x) (sym is.machine) ∙ home
leaves_as false m n g f freed steps is x h home = try_leaves m n f is.answer is.evicts x h home

misses_as : (dirty : Bool) (m n : KnownMachine) (g f freed : ℕ) (steps : Run) → TriesReclaimAs dirty false g f (progress freed m steps n)
    → misses_of n f ≡ misses_of m f + missed_in f steps → (link_at m.links f).is_dirty ≡ dirty → (h : Home) → IsMissed m n f h
misses_as true m n g f freed steps is counts dirt h home clean =
    absurd (true≢false (sym dirt ∙ ap (λ (k : KnownMachine). (link_at k.links f).is_dirty) (sym is.machine) ∙ clean))
misses_as false m n g f freed steps is counts dirt h home clean =
    try_misses m n f is.answer is.evicts (subst (λ (r : Run). misses_of n f ≡ misses_of m f + missed_in f r) is.tries counts) h home clean

pub met_leaves : (m n : KnownMachine) (g want freed : ℕ) (e : Entry) (steps : Run) → TriesReclaim false g e want (progress freed m steps n) → OnlyLeave m n
met_leaves m n g want freed e steps is = leaves_as e.is_dirty m n g e.number freed steps is

pub met_misses : (m n : KnownMachine) (g want freed : ℕ) (e : Entry) (steps : Run) → TriesReclaim false g e want (progress freed m steps n)
    → misses_of n e.number ≡ misses_of m e.number + missed_in e.number steps → (link_at m.links e.number).is_dirty ≡ e.is_dirty → (h : Home) → IsMissed m n e.number h
met_misses m n g want freed e steps is counts dirt = misses_as e.is_dirty m n g e.number freed steps is counts dirt
