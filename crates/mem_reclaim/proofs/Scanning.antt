-- A scan of one list, as far as it came. Serves `scan`.
use Rattle.std.proofs.Common.{◌≡◌, ◌≢◌, ℕ, ◌+◌, ◌<◌, ◌≤◌, ◌==◌, ◌||◌, ◌⊎◌, Bool, true, false, Option, Some, None, List, [], ◌∷◌, ◌++◌, length}
use Rattle.std.proofs.Common.{refl, sym, ap, ◌∙◌, subst, inl, inr, arith}
use Rattle.std.proofs.lemmas.Bool.{cases_eq, ne_eqb, false≢true}
use Rattle.std.proofs.lemmas.Option.{none-some}
use Rattle.std.proofs.lemmas.List.{append_assoc, append-nil}
use Rattle.group_tree.specs.declared.group.Group.{Group}
use Rattle.group_tree.specs.Groups.{in_subtree}
use Rattle.group_charge.specs.Charges.{current_of}
use Rattle.lru_lists.specs.declared.record.Entry.{Entry}
use Rattle.lru_lists.specs.declared.record.LruList.{LruList}
use Rattle.lru_lists.specs.declared.record.LruList.TheVariants.{Inactive}
use Rattle.lru_lists.specs.{link_at, entry_after, first_entry, entry_of, entries_without}
use Rattle.boot_words.specs.Tables.{KnownTable}
use Rattle.mem_machine.specs.{KnownMachine, IsConsistent, home_of, entries_in}
use Rattle.mem_reclaim.specs.{misses_of, FreesBySteps, WhileWanted, progress, TriesReclaim, ScansList, Keeps, OnlyLeave, IsMissed}
use Rattle.mem_reclaim.proofs.Wanting.{SoFar, so_far_none, so_far_more, so_far_done, so_far_enough}
use Rattle.mem_reclaim.proofs.Keeping.{keeps_none, keeps_both, only_both}
use Rattle.mem_reclaim.proofs.Meeting.{MetList, met_list, met_leaves, met_misses}
use Rattle.mem_machine.proofs.Listing.{has_unit, IsListed, listed_is, home_inside, has_mid, apart_mid, read_mid, after_mid, without_mid}

-- the next unit is the first of these; of none, nothing is said
abbrev pub IsNext : Option Entry → List Entry → Type 0
IsNext next [] = Unit {0}
IsNext next (e ∷ es) = next ≡ Some e

-- a clean unit on the list is still to be handled, or was missed
abbrev pub MissedOrLeft : KnownMachine → ℕ → LruList → KnownMachine → List Entry → Type 0
MissedOrLeft m g list now todo = (f : ℕ) → home_of now.links f ≡ Some (record { owner = g; list = list }) → (link_at now.links f).is_dirty ≡ false
    → (has_unit f todo ≡ true) ⊎ (misses_of m f < misses_of now f)

-- Some units stayed, some are still to be met, and some moved after them
pub record ScanSoFar (t : KnownTable) (spares_marked : Bool) (g : ℕ) (list : LruList) (want : ℕ) (m : KnownMachine) (i freed : ℕ) (next : Option Entry)
    (now : KnownMachine) : Type 0 where
  pub stayed : List Entry
  pub todo : List Entry
  pub moved : List Entry
  pub are : entries_in now g list ≡ stayed ++ (todo ++ moved)
  pub left : length todo + i ≡ length (entries_in m g list)
  pub next_is : IsNext next todo
  pub so_far : SoFar t (TriesReclaim spares_marked g) (entries_in m g list) want m todo freed now
  pub keeps : Keeps t m now
  pub usage : (x : ℕ) → in_subtree m.ledger.groups x g ≡ true → current_of now.ledger x + freed ≡ current_of m.ledger x
  pub few : freed < want + 1024
  pub leaves : spares_marked ≡ false → OnlyLeave m now
  pub missed : spares_marked ≡ false → MissedOrLeft m g list now todo

first_is_next : (next : Option Entry) (entries : List Entry) → next ≡ first_entry entries → IsNext next entries
first_is_next next [] is = tt
first_is_next next (e ∷ es) is = is

pub scan_first : (t : KnownTable) (m : KnownMachine) → IsConsistent t m → (spares_marked : Bool) (g : ℕ)
    (list : LruList) (want : ℕ)
    (next : Option Entry) → next ≡ first_entry (entries_in m g list) → ScanSoFar t spares_marked g list want m 0 0 next m
scan_first t m ok spares_marked g list want next is = record {
  stayed = [];
  todo = entries_in m g list;
  moved = [];
  are = sym (append-nil (entries_in m g list));
  left = omega arith;
  next_is = first_is_next next (entries_in m g list) is;
  so_far = so_far_none t (TriesReclaim spares_marked g) (entries_in m g list) want m;
  keeps = keeps_none t m;
  usage = λ x below. omega arith;
  few = omega arith;
  leaves = λ off f h home. home;
  missed = λ off f home clean. inl ((listed_is t m ok g list).at_home f home);
}

-- ---- the unit that is met next

pub record Here (t : KnownTable) (g : ℕ) (list : LruList) (now : KnownMachine) (stayed todo : List Entry) (u : Entry) : Type 0 where
  pub rest : List Entry
  pub ahead : todo ≡ u ∷ rest
  pub read : u ≡ entry_of now.links u.number
  pub home : home_of now.links u.number ≡ Some (record { owner = g; list = list })
  pub inside : u.number < t.frames
  pub front : has_unit u.number stayed ≡ false

ahead_is : (next : Option Entry) (todo : List Entry) (i n : ℕ) → IsNext next todo → length todo + i ≡ n → i < n → (u : Entry) → next ≡ Some u
    → (rest : List Entry) × (todo ≡ u ∷ rest)
ahead_is next [] i n is left lt u some = absurd (omega (arith, left, lt))
ahead_is next (e ∷ es) i n is left lt u some = (es, ap (λ (x : Entry). x ∷ es) (same e u (sym is ∙ some)))
  where
    same : (a b : Entry) → Some a ≡ Some b → a ≡ b
    same a b e = cc

module _ (t : KnownTable) (spares_marked : Bool) (g : ℕ) (list : LruList) (want : ℕ) (m : KnownMachine) (i freed : ℕ)
    (next : Option Entry) (now : KnownMachine) (ok : IsConsistent t now) (s : ScanSoFar t spares_marked g list want m i freed next now)
    (units : ℕ) (counted : units ≡ length (entries_in m g list)) (left : i < units) (u : Entry) (some : next ≡ Some u) where
  entries_are : (rest : List Entry) → s.todo ≡ u ∷ rest → entries_in now g list ≡ s.stayed ++ u ∷ (rest ++ s.moved)
  entries_are rest ahead = s.are ∙ ap (λ (l : List Entry). s.stayed ++ (l ++ s.moved)) ahead

  pub scan_here : Here t g list now s.stayed s.todo u
  scan_here =
      let a = ahead_is next s.todo i units s.next_is (s.left ∙ sym counted) left u some in
      let ys : List Entry = a.0 ++ s.moved in
      let is : IsListed now g list (s.stayed ++ u ∷ ys) = subst (IsListed now g list) (entries_are a.0 a.1) (listed_is t now ok g list) in
      let home = is.homes u.number (has_mid s.stayed ys u u.number refl) in
      record {
        rest = a.0;
        ahead = a.1;
        read = read_mid now.links s.stayed ys u is.read;
        home = home;
        inside = home_inside t now ok u.number (record { owner = g; list = list }) home;
        front = apart_mid s.stayed ys u is.apart;
      }

  abbrev here : Here t g list now s.stayed s.todo u
  here = scan_here

  module _ (r : ℕ) (then : KnownMachine) (inactive : spares_marked ≡ true → list ≡ Inactive) (wanted : freed < want) (small : r ≤ 1024)
      (leads : FreesBySteps t r now then (TriesReclaim spares_marked g u 1)) (keeps : Keeps t now then)
      (usage : (x : ℕ) → in_subtree now.ledger.groups x g ≡ true → current_of then.ledger x + r ≡ current_of now.ledger x)
      (newer : Option Entry) (f : ℕ) (at : f ≡ u.number) (newer_is : newer ≡ entry_after f (entries_in now g list)) where
    now_are : entries_in now g list ≡ s.stayed ++ u ∷ (here.rest ++ s.moved)
    now_are = entries_are here.rest here.ahead

    -- which units stayed and which moved
    split : MetList g list u.number now then
        → (stayed : List Entry) × (moved : List Entry) × (entries_in then g list ≡ stayed ++ (here.rest ++ moved))
    split (inl same) = (s.stayed ++ u ∷ [], s.moved, same ∙ now_are ∙ sym (append_assoc s.stayed (u ∷ []) (here.rest ++ s.moved)))
    split (inr gone) = (
      s.stayed,
      s.moved ++ gone.0,
      gone.1 ∙ ap (λ (l : List Entry). entries_without u.number l ++ gone.0) now_are
          ∙ ap (λ (l : List Entry). l ++ gone.0) (without_mid s.stayed (here.rest ++ s.moved) u here.front)
          ∙ append_assoc s.stayed (here.rest ++ s.moved) gone.0 ∙ ap (λ (l : List Entry). s.stayed ++ l) (append_assoc here.rest s.moved gone.0),
    )

    next_of : (rest moved : List Entry) → newer ≡ first_entry (rest ++ moved) → IsNext newer rest
    next_of [] moved is = tt
    next_of (e ∷ es) moved is = is

    then_missed : spares_marked ≡ false → MissedOrLeft m g list then here.rest
    then_missed off f home clean =
        let does : TriesReclaim false g u 1 (progress r now leads.steps then) = subst (λ (b : Bool). TriesReclaim b g u 1 (progress r now leads.steps then)) off leads.does in
        let was = met_leaves now then g 1 r u leads.steps does f (record { owner = g; list = list }) home in
        let kept : home_of then.links f ≢ None = λ none. none-some (record { owner = g; list = list }) (sym none ∙ home) in
        let a = s.keeps.misses f in
        let b = keeps.misses f in
        elim (s.missed off f was (sym (keeps.dirt f kept) ∙ clean)) [
          | inl left_to ↦ elim (cases_eq u.number f) [
            | inl e ↦
                let dirt : (link_at now.links u.number).is_dirty ≡ u.is_dirty = sym (ap (λ (x : Entry). x.is_dirty) here.read) in
                let rose = subst (λ (x : ℕ). IsMissed now then x (record { owner = g; list = list })) e
                (met_misses now then g 1 r u leads.steps does (leads.moves.misses u.number) dirt (record { owner = g; list = list })) home clean in
                inr (omega (arith, a, rose))
            | inr ne ↦
                let out : (u.number == f) ≡ false = ne_eqb u.number f ne in
                let there : (u.number == f || has_unit f here.rest) ≡ true = sym (ap (has_unit f) here.ahead) ∙ left_to in
                inl (rw out at there)
          ]
          | inr rose ↦ inr (omega (arith, b, rose))
        ]

    pub scan_more : ScanSoFar t spares_marked g list want m (i + 1) (freed + r) newer then
    scan_more =
        let parts = split (met_list spares_marked now then g 1 r u leads.steps list leads.does inactive here.home) in
        let groups = s.keeps.groups in
        record {
          stayed = parts.0;
          todo = here.rest;
          moved = parts.1;
          are = parts.2;
          left = let a = s.left in let b : length s.todo ≡ length (u ∷ here.rest) = ap length here.ahead in omega (arith, a, b);
          next_is = next_of here.rest s.moved (newer_is ∙ ap (λ (x : ℕ). entry_after x (entries_in now g list)) at ∙ ap (entry_after u.number) now_are ∙ after_mid s.stayed (here.rest ++ s.moved) u here.front);
          so_far = so_far_more t (TriesReclaim spares_marked g) (entries_in m g list) want m u here.rest freed now
              (subst (λ (l : List Entry). SoFar t (TriesReclaim spares_marked g) (entries_in m g list) want m l freed now) here.ahead s.so_far) wanted r then
              (record { steps = leads.steps; does = leads.does; moves = leads.moves });
          keeps = keeps_both t m now then s.keeps keeps;
          usage = λ x below.
              let a = s.usage x below in
              let b = usage x (ap (λ (l : List Group). in_subtree l x g) groups ∙ below) in
              omega (arith, a, b);
          few = omega (arith, wanted, small);
          leaves = λ off. only_both m now then (s.leaves off)
              (met_leaves now then g 1 r u leads.steps (subst (λ (b : Bool). TriesReclaim b g u 1 (progress r now leads.steps then)) off leads.does));
          missed = then_missed;
        }

-- ---- the end

pub record ScanEnds (t : KnownTable) (spares_marked : Bool) (g : ℕ) (list : LruList) (want : ℕ) (m : KnownMachine) (freed : ℕ)
    (now : KnownMachine) : Type 0 where
  pub scans : FreesBySteps t freed m now (ScansList spares_marked g list want)
  pub missed : spares_marked ≡ false → freed < want → (f : ℕ) → IsMissed m now f (record { owner = g; list = list })

none_left : (todo : List Entry) (i n : ℕ) → length todo + i ≡ n → n ≤ i → todo ≡ []
none_left [] i n left all = refl
none_left (e ∷ es) i n left all = absurd (let a : length (e ∷ es) + i ≡ n = left in omega (arith, a, all))

-- the units are those of the list in the first machine
of_list : (t : KnownTable) (spares_marked : Bool) (g : ℕ) (list : LruList) (want freed : ℕ) (m now : KnownMachine)
    → FreesBySteps t freed m now (WhileWanted (TriesReclaim spares_marked g) (entries_in m g list) want)
    → FreesBySteps t freed m now (ScansList spares_marked g list want)
of_list t spares_marked g list want freed m now h = record { steps = h.steps; does = h.does; moves = h.moves }

-- all were met
pub scan_done : (t : KnownTable) (spares_marked : Bool) (g : ℕ) (list : LruList) (want : ℕ) (m : KnownMachine) (i freed : ℕ) (next : Option Entry)
    (now : KnownMachine)
    → ScanSoFar t spares_marked g list want m i freed next now → (units : ℕ) → units ≡ length (entries_in m g list) → units ≤ i
    → ScanEnds t spares_marked g list want m freed now
scan_done t spares_marked g list want m i freed next now s units counted all =
    let none : s.todo ≡ [] = none_left s.todo i units (s.left ∙ sym counted) all in
    record {
      scans = of_list t spares_marked g list want freed m now (so_far_done t (TriesReclaim spares_marked g) (entries_in m g list) want m freed now
          (subst (λ (l : List Entry). SoFar t (TriesReclaim spares_marked g) (entries_in m g list) want m l freed now) none s.so_far));
      missed = λ off less f home clean. elim (s.missed off f home clean) [
        | inl to ↦ absurd (false≢true (sym (ap (has_unit f) none) ∙ to))
        | inr rose ↦ rose
      ];
    }

-- enough pages were freed
pub scan_enough : (t : KnownTable) (spares_marked : Bool) (g : ℕ) (list : LruList) (want : ℕ) (m : KnownMachine) (i freed : ℕ) (next : Option Entry)
    (now : KnownMachine)
    → ScanSoFar t spares_marked g list want m i freed next now → want ≤ freed → ScanEnds t spares_marked g list want m freed now
scan_enough t spares_marked g list want m i freed next now s enough = record {
  scans = of_list t spares_marked g list want freed m now
      (so_far_enough t (TriesReclaim spares_marked g) (entries_in m g list) want m s.todo freed now s.so_far enough);
  missed = λ off less f home clean. absurd (omega (arith, less, enough));
}
