-- The lines of kept units, one after the other, and the looks at their words. Serves `write_list` and `write_units`.
use Rattle.std.proofs.Common.{◌≡◌, ℕ, ◌+◌, ◌<◌, Option, Some, None, List, [], ◌∷◌, ◌++◌, length, map, refl, sym, ap, ◌∙◌, subst, arith}
use Rattle.std.proofs.Common.{Result, Ok, Err, IfOk, IsOk}
use Rattle.std.proofs.lemmas.List.{append-nil, append_assoc, length-append, map-append}
use Rattle.step_rules.specs.State.{most_references}
use Rattle.boot_words.specs.{LoadsReferences, own_past, zone_of_boot, KnownTable}
use Rattle.lru_lists.specs.declared.record.Entry.{Entry}
use Rattle.lru_lists.specs.declared.record.LruList.{LruList}
use Rattle.lru_lists.specs.Lists.{entry_after, first_entry}
use Rattle.mem_machine.specs.{KnownMachine, IsConsistent, home_of, ListedUnit, entries_in, listed, units_in}
use Rattle.mem_machine.proofs.Listing.{IsListed, apart_mid, after_mid, has_mid, home_inside, listed_is}
use Rattle.machine_texts.specs.Units.{ArePinsOf, ReadsLines, ReadsUnits, lines_text, order_at, unit_text, units_text}
use Rattle.lru_lists.specs.declared.record.LruList.TheVariants.{Inactive, Active}

-- ---- some units and then others

pub lines_append : (m : KnownMachine) (us vs : List ListedUnit) (ps qs : List ℕ) → length ps ≡ length us
    → lines_text m (us ++ vs) (ps ++ qs) ≡ lines_text m us ps ++ lines_text m vs qs
lines_append m [] vs [] qs same = refl
lines_append m [] vs (p ∷ ps) qs same = absurd (omega (arith, same))
lines_append m (u ∷ us) vs [] qs same = absurd (omega (arith, same))
lines_append m (u ∷ us) vs (p ∷ ps) qs same =
    let line : List ℕ = unit_text (order_at m u.entry.number) u p in
    let s : length (p ∷ ps) ≡ length (u ∷ us) = same in
    ap (λ (t : List ℕ). line ++ t) (lines_append m us vs ps qs (omega (arith, s))) ∙ sym (append_assoc line (lines_text m us ps) (lines_text m vs qs))

pub pins_both : (t : KnownTable) (m : KnownMachine) (us vs : List ListedUnit) (ps qs : List ℕ) → ArePinsOf t m us ps → ArePinsOf t m vs qs
    → ArePinsOf t m (us ++ vs) (ps ++ qs)
pins_both t m [] vs [] qs first second = second
pins_both t m [] vs (p ∷ ps) qs first second = absurd first
pins_both t m (u ∷ us) vs [] qs first second = absurd first
pins_both t m (u ∷ us) vs (p ∷ ps) qs first second = (first.0, first.1, pins_both t m us vs ps qs first.2 second)

pub pins_count : (t : KnownTable) (m : KnownMachine) (us : List ListedUnit) (ps : List ℕ) → ArePinsOf t m us ps → length ps ≡ length us
pins_count t m [] [] are = refl
pins_count t m [] (p ∷ ps) are = absurd are
pins_count t m (u ∷ us) [] are = absurd are
pins_count t m (u ∷ us) (p ∷ ps) are = let more = pins_count t m us ps are.2 in omega (arith, more)

-- ---- the walk over one list

-- The units that were met have their lines, and the others are still to be met.
pub record MetSoFar (t : KnownTable) (g : ℕ) (list : LruList) (before : KnownMachine) (i : ℕ) (next : Option Entry) (now : KnownMachine)
    (tells : List ℕ → Type 0) : Type 0 where
  pub met : List Entry
  pub todo : List Entry
  pub are : entries_in before g list ≡ met ++ todo
  pub count : length met ≡ i
  pub next_is : next ≡ first_entry todo
  pub pins : List ℕ
  pub looks : ArePinsOf t before (map (listed list) met) pins
  pub same : now ≡ before
  pub told : tells (lines_text before (map (listed list) met) pins)

pub met_none : (t : KnownTable) (g : ℕ) (list : LruList) (m : KnownMachine) (next : Option Entry) (tells : List ℕ → Type 0) → next ≡ first_entry (entries_in m g list)
    → tells [] → MetSoFar t g list m 0 next m tells
met_none t g list m next tells is none = record {
  met = [];
  todo = entries_in m g list;
  are = refl;
  count = refl;
  next_is = is;
  pins = [];
  looks = tt;
  same = refl;
  told = none;
}

-- the unit that is met next
pub record IsMet (t : KnownTable) (g : ℕ) (list : LruList) (before now : KnownMachine) (met todo : List Entry) (u : Entry) : Type 0 where
  pub rest : List Entry
  pub ahead : todo ≡ u ∷ rest
  pub home : home_of now.links u.number ≡ Some (record { owner = g; list = list })
  pub inside : u.number < t.frames
  pub newer : entry_after u.number (entries_in now g list) ≡ first_entry rest

ahead_is : (next : Option Entry) (todo : List Entry) (u : Entry) → next ≡ first_entry todo → next ≡ Some u → (rest : List Entry) × (todo ≡ u ∷ rest)
ahead_is next [] u is some = absurd (let e : None ≡ Some u = sym is ∙ some in cc)
ahead_is next (e ∷ es) u is some = (es, let s : Some e ≡ Some u = sym is ∙ some in ap (λ (x : Entry). x ∷ es) (same e u s))
  where
    same : (a b : Entry) → Some a ≡ Some b → a ≡ b
    same a b e = cc

module _ (t : KnownTable) (g : ℕ) (list : LruList) (before : KnownMachine) (i : ℕ) (next : Option Entry) (now : KnownMachine)
    (tells : List ℕ → Type 0) (ok : IsConsistent t now) (s : MetSoFar t g list before i next now tells) where
  same_entries : entries_in now g list ≡ entries_in before g list
  same_entries = ap (λ (x : KnownMachine). entries_in x g list) s.same

  pub is_met : (u : Entry) → next ≡ Some u → IsMet t g list before now s.met s.todo u
  is_met u some =
      let a = ahead_is next s.todo u s.next_is some in
      let are : entries_in now g list ≡ s.met ++ u ∷ a.0 = same_entries ∙ s.are ∙ ap (λ (l : List Entry). s.met ++ l) a.1 in
      let is : IsListed now g list (s.met ++ u ∷ a.0) = subst (IsListed now g list) are (listed_is t now ok g list) in
      let home = is.homes u.number (has_mid s.met a.0 u u.number refl) in
      record {
        rest = a.0;
        ahead = a.1;
        home = home;
        inside = home_inside t now ok u.number (record { owner = g; list = list }) home;
        newer = ap (λ (l : List Entry). entry_after u.number l) are ∙ after_mid s.met a.0 u (apart_mid s.met a.0 u is.apart);
      }

  pub met_more : (u : Entry) (some : next ≡ Some u) (newer : Option Entry) → newer ≡ entry_after u.number (entries_in now g list) → (pins : ℕ) → pins < most_references
      → LoadsReferences (zone_of_boot t) (own_past now.run.past) u.number (pins + 1) → (n : KnownMachine) → n ≡ now → (more : List ℕ → Type 0)
      → ((text : List ℕ) → tells text → more (text ++ unit_text (order_at now u.number) (listed list u) pins)) → MetSoFar t g list before (i + 1) newer n more
  met_more u some newer is pins few loads n kept more line =
      let h = is_met u some in
      let units : List ListedUnit = map (listed list) s.met in
      let both : map (listed list) (s.met ++ u ∷ []) ≡ units ++ listed list u ∷ [] = map-append (listed list) s.met (u ∷ []) in
      let one : LoadsReferences (zone_of_boot t) (own_past before.run.past) u.number (pins + 1)
      = subst (λ (x : KnownMachine). LoadsReferences (zone_of_boot t) (own_past x.run.past) u.number (pins + 1)) s.same loads in
      let looks : ArePinsOf t before (units ++ listed list u ∷ []) (s.pins ++ pins ∷ []) =
      pins_both t before units (listed list u ∷ []) s.pins (pins ∷ []) s.looks (few, one, tt) in
      let order : order_at now u.number ≡ order_at before u.number = ap (λ (x : KnownMachine). order_at x u.number) s.same in
      let lines : lines_text before units s.pins ++ unit_text (order_at now u.number) (listed list u) pins
      ≡ lines_text before (units ++ listed list u ∷ []) (s.pins ++ pins ∷ []) =
      ap (λ (k : ℕ). lines_text before units s.pins ++ unit_text k (listed list u) pins) order
      ∙ ap (λ (l : List ℕ). lines_text before units s.pins ++ l) (sym (append-nil (unit_text (order_at before u.number) (listed list u) pins)))
      ∙ sym (lines_append before units (listed list u ∷ []) s.pins (pins ∷ []) (pins_count t before units s.pins s.looks)) in
      record {
        met = s.met ++ u ∷ [];
        todo = h.rest;
        are = s.are ∙ ap (λ (l : List Entry). s.met ++ l) h.ahead ∙ sym (append_assoc s.met (u ∷ []) h.rest);
        count = let c = s.count in let l = length-append s.met (u ∷ []) in omega (arith, c, l);
        next_is = is ∙ h.newer;
        pins = s.pins ++ pins ∷ [];
        looks = subst (λ (l : List ListedUnit). ArePinsOf t before l (s.pins ++ pins ∷ [])) (sym both) looks;
        same = kept ∙ s.same;
        told = subst (λ (l : List ListedUnit). more (lines_text before l (s.pins ++ pins ∷ []))) (sym both)
            (subst more lines (line (lines_text before units s.pins) s.told));
      }

-- ---- the text so far, and one more line

-- both were added
pub joined : {T E : Type 0} (r w l : Result T E) (start now new text line : List ℕ) → IfOk r (λ _. IsOk w) → IfOk r (λ _. IsOk l)
    → IfOk w (λ _. now ≡ start ++ text) → IfOk l (λ _. new ≡ now ++ line) → IfOk r (λ _. new ≡ start ++ (text ++ line))
joined (Err e) w l start now new text line a b told added = tt
joined (Ok x) (Err e) l start now new text line a b told added = cc
joined (Ok x) (Ok y) (Err e) start now new text line a b told added = cc
joined (Ok x) (Ok y) (Ok z) start now new text line a b told added =
    added ∙ ap (λ (t : List ℕ). t ++ line) told ∙ append_assoc start text line

-- ---- both lists of a group

has_lines : (m : KnownMachine) (us : List ListedUnit) (ps : List ℕ) → 0 < length us → units_text m us ps ≡ lines_text m us ps
has_lines m [] ps some = absurd (omega (arith, some))
has_lines m (u ∷ us) ps some = refl

-- the lines of the inactive units and then those of the active ones
pub both_lists : (t : KnownTable) (g : ℕ) (m between n : KnownMachine) (first second all : List ℕ → Type 0) → 0 < length (units_in m g)
    → ReadsLines t g Inactive first m between → ReadsLines t g Active second between n
    → ((one other : List ℕ) → first one → second other → all (one ++ other)) → ReadsUnits t g all m n
both_lists t g m between n first second all some inactive active together =
    let one : List ListedUnit = map (listed Inactive) (entries_in m g Inactive) in
    let other : List ListedUnit = map (listed Active) (entries_in m g Active) in
    let looks : ArePinsOf t m other active.pins
    = subst (λ (x : KnownMachine). ArePinsOf t x (map (listed Active) (entries_in x g Active)) active.pins) inactive.same active.looks in
    let told : second (lines_text m other active.pins)
    = subst (λ (x : KnownMachine). second (lines_text x (map (listed Active) (entries_in x g Active)) active.pins)) inactive.same active.told in
    record {
      pins = inactive.pins ++ active.pins;
      looks = pins_both t m one other inactive.pins active.pins inactive.looks looks;
      told = subst all (sym (lines_append m one other inactive.pins active.pins (pins_count t m one inactive.pins inactive.looks))
          ∙ sym (has_lines m (one ++ other) (inactive.pins ++ active.pins) some)) (together _ _ inactive.told told);
      same = active.same ∙ inactive.same;
    }

-- two texts, one after the other
pub both_added : {T E : Type 0} (r w l : Result T E) (start now new : List ℕ) → IfOk r (λ _. IsOk w) → IfOk r (λ _. IsOk l)
    → (text line : List ℕ) → IfOk w (λ _. now ≡ start ++ text) → IfOk l (λ _. new ≡ now ++ line) → IfOk r (λ _. new ≡ start ++ (text ++ line))
both_added r w l start now new a b text line told added = joined r w l start now new text line a b told added
