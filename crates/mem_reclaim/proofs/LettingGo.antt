-- What a release of units keeps, and how a group is killed. Serves `release_units` and `kill_group`.
use Rattle.std.proofs.Common.{◌≡◌, ◌≢◌, ℕ, ◌+◌, ◌<◌, ◌≤◌, ◌==◌, Bool, true, Option, Some, None, List, [], ◌∷◌, ◌++◌, length, zero, suc, refl, sym, ap, ◌∙◌, subst, ◌||◌, ◌^◌, false}
use Rattle.std.proofs.Common.{inl, inr, arith, eq-eqb}
use Rattle.std.specs.Prelude.{slice_set}
use Rattle.std.proofs.lemmas.Bool.{cases_eq, false≢true}
use Rattle.std.proofs.lemmas.Option.{none-some}
use Rattle.std.proofs.lemmas.List.{append_assoc, append-nil}
use Rattle.lru_lists.specs.declared.record.Link.{Link}
use Rattle.lru_lists.specs.declared.record.Home.{Home}
use Rattle.lru_lists.specs.declared.record.Entry.{Entry}
use Rattle.lru_lists.specs.declared.record.LruList.{LruList}
use Rattle.lru_lists.specs.declared.record.LruList.TheVariants.{Inactive, Active}
use Rattle.lru_lists.specs.{link_at, entries_without, first_entry}
use Rattle.step_rules.specs.State.{Part}
use Rattle.step_rules.specs.After.{Run}
use Rattle.boot_words.specs.Tables.{KnownTable}
use Rattle.mem_machine.specs.declared.releasing.Released.{Released}
use Rattle.mem_machine.specs.declared.releasing.Released.TheVariants.{Left, Returned}
use Rattle.mem_machine.specs.{KnownMachine, IsConsistent, home_of, lists_of, part_at, with_run, Makes, StaysVisited, entries_in}
use Rattle.mem_machine.specs.{LeavesList, Releases, release_steps, Drain, drain_stocks_steps, kill_steps, drain_steps, AreOwnDrained, DrainsNoted}
use Rattle.mem_machine.specs.{DrainsIf, DrainsAllIf, DrainsGroup, HasDrained, StockTest, of_group, stock_group, uncharged}
use Rattle.boot_words.specs.Pasts.{IsHeld}
use Rattle.mem_machine.proofs.Draining.{groups_stay}
use Rattle.mem_machine.proofs.Falling.{current_falls}
use Rattle.std.proofs.lemmas.List.Folds.{list_any-append}
use Rattle.mem_reclaim.proofs.Grown.{held_after, misses_after, missed_append, parts_after}
use Rattle.group_charge.specs.Charges.{Ledger, current_of}
use Rattle.step_rules.specs.declared.step.Step.{Step}
use Rattle.step_rules.specs.declared.step.Answer.{Answer}
use Rattle.mem_machine.proofs.DrainingAll.{below_owners, below_still}
use Rattle.mem_machine.specs.declared.counts.Counts.{Counts}
use Rattle.mem_reclaim.specs.{Rises, has_kill, is_kill, missed_in, misses_of, returned_in, OnlyLeave, KillsGroupBySteps, HasNoKeptUnit, KeepsStocks}
use Rattle.mem_reclaim.specs.{ReleasesUnits, ReleasesUnitsBySteps, OnlyDrains, OnlyReleases, with_killed}
use Rattle.mem_machine.proofs.Listing.{has_unit, listed_is, home_inside, has_mid}
use Rattle.mem_reclaim.proofs.Rising.{drains_return_none, returned_both, rises_both, units_rise}
use Rattle.mem_machine.proofs.Followed.{makes_both, makes_none}

-- ---- what stays

pub only_lets_none : (t : KnownTable) (m : KnownMachine) → OnlyReleases t m m
only_lets_none t m = record {
  groups = refl;
  settings = refl;
  usage = λ g. omega arith;
  visit = λ c v. v;
  leaves = λ f h is. is;
  dirt = λ f kept. refl;
  misses = λ f. refl;
}

kept_was : (m n : KnownMachine) → OnlyLeave m n → (f : ℕ) → home_of n.links f ≢ None → home_of m.links f ≢ None
kept_was m n leaves f kept none = was (home_of n.links f) refl
  where
    was : (h : Option Home) → home_of n.links f ≡ h → ⊥
    was None is = kept is
    was (Some h) is = none-some h (sym none ∙ leaves f h is)

pub only_lets_both : (t : KnownTable) (a b c : KnownMachine) → OnlyReleases t a b → OnlyReleases t b c → OnlyReleases t a c
only_lets_both t a b c p q = record {
  groups = q.groups ∙ p.groups;
  settings = q.settings ∙ p.settings;
  usage = λ g. let x = p.usage g in let y = q.usage g in omega (arith, x, y);
  visit = λ x v. q.visit x (p.visit x v);
  leaves = λ f h is. p.leaves f h (q.leaves f h is);
  dirt = λ f kept. q.dirt f kept ∙ p.dirt f (kept_was b c q.leaves f kept);
  misses = λ f. q.misses f ∙ p.misses f;
}

-- ---- which steps these are

-- none of the steps is a kill, and none is a freeze that missed
pub record AreQuiet (steps : Run) : Type 0 where
  pub no_kill : has_kill steps ≡ false
  pub no_miss : (f : ℕ) → missed_in f steps ≡ 0

both_false : (a b : Bool) → a ≡ false → b ≡ false → (a || b) ≡ false
both_false a b x y = rw x y

pub quiet_both : (one two : Run) → AreQuiet one → AreQuiet two → AreQuiet (one ++ two)
quiet_both one two p q = record {
  no_kill = list_any-append (λ (e : Step × Answer). is_kill e.0.action) one two ∙ both_false (has_kill one) (has_kill two) p.no_kill q.no_kill;
  no_miss = λ f.
      let x = p.no_miss f in
      let y = q.no_miss f in
      let z = missed_append f one two in
      omega (arith, x, y, z);
}

pub quiet_none : AreQuiet []
quiet_none = record { no_kill = refl; no_miss = λ f. refl }

quiet_release : (f : ℕ) (left : Released) → AreQuiet (release_steps f left)
quiet_release f (Left left) = record { no_kill = refl; no_miss = λ g. refl }
quiet_release f Returned = record { no_kill = refl; no_miss = λ g. refl }

quiet_units : (units : List Entry) (m : KnownMachine) (steps : Run) (n : KnownMachine) → ReleasesUnits units m steps n → AreQuiet steps
quiet_units [] m steps n all = subst AreQuiet (sym all.1) quiet_none
quiet_units (u ∷ rest) m steps n all =
    subst AreQuiet (sym all.steps_are)
    (quiet_both (release_steps u.number all.left) all.later (quiet_release u.number all.left) (quiet_units rest all.between all.later n all.others))

pub quiet_drain : (q : ℕ) (o : Option ℕ) (pages : ℕ) → AreQuiet (drain_steps q o pages)
quiet_drain q None pages = record { no_kill = refl; no_miss = λ f. refl }
quiet_drain q (Some g) zero = record { no_kill = refl; no_miss = λ f. refl }
quiet_drain q (Some g) (suc n) = record { no_kill = refl; no_miss = λ f. refl }

pub quiet_drains : (drains : List Drain) → AreQuiet (drain_stocks_steps drains)
quiet_drains [] = quiet_none
quiet_drains (d ∷ rest) = quiet_both (drain_steps d.cpu d.group d.pages) (drain_stocks_steps rest) (quiet_drain d.cpu d.group d.pages) (quiet_drains rest)

-- ---- what quiet steps leave

module _ (t : KnownTable) (m : KnownMachine) (steps : Run) (n : KnownMachine) (runs : Makes t m steps n) (held : IsHeld t m.run.past) where
  pub quiet_misses : ((f : ℕ) → missed_in f steps ≡ 0) → (f : ℕ) → misses_of n f ≡ misses_of m f
  quiet_misses none f = let a = misses_after t m steps n runs held f in let b = none f in omega (arith, a, b)

  -- the links stay
  pub only_lets_same : n.ledger.groups ≡ m.ledger.groups → n.ledger.settings ≡ m.ledger.settings → ((g : ℕ) → current_of n.ledger g ≤ current_of m.ledger g) → n.links ≡ m.links
      → StaysVisited t m n → ((f : ℕ) → missed_in f steps ≡ 0) → OnlyReleases t m n
  only_lets_same groups settings usage links visit misses = record {
    groups = groups;
    settings = settings;
    usage = usage;
    visit = visit;
    leaves = λ f h is. ap (λ (l : List Link). home_of l f) (sym links) ∙ is;
    dirt = λ f kept. ap (λ (l : List Link). (link_at l f).is_dirty) links;
    misses = quiet_misses misses;
  }

-- ---- one unit

off_list : (t : KnownTable) (m n : KnownMachine) (f : ℕ) → LeavesList f (lists_of m) (lists_of n) → n.ledger.groups ≡ m.ledger.groups → n.ledger.settings ≡ m.ledger.settings
    → ((g : ℕ) → current_of n.ledger g ≤ current_of m.ledger g) → ((g : ℕ) → misses_of n g ≡ misses_of m g)
    → StaysVisited t m n → OnlyReleases t m n
off_list t m n f list groups settings usage misses visit =
    let gone : home_of n.links f ≡ None = ap (λ (k : Link). k.home) list.forgotten in
    record {
      groups = groups;
      settings = settings;
      usage = usage;
      visit = visit;
      leaves = λ x h home. elim (cases_eq x f) [
        | inl e ↦ absurd (none-some h (sym (ap (home_of n.links) e ∙ gone) ∙ home))
        | inr ne ↦ sym (list.homes x ne) ∙ home
      ];
      dirt = λ g kept. list.used.dirty g (λ e. kept (ap (home_of n.links) e ∙ gone));
      misses = misses;
    }

module _ (t : KnownTable) (m n : KnownMachine) (f : ℕ) (held : IsHeld t m.run.past) where
  release_lets : (left : Released) → Releases f left m n → StaysVisited t m n → Makes t m (release_steps f left) n → OnlyReleases t m n
  release_lets (Left left) is visit runs = off_list t m n f is.list (ap (λ (x : KnownMachine). x.ledger.groups) is.machine)
      (ap (λ (x : KnownMachine). x.ledger.settings) is.machine)
      (λ g. let e = ap (λ (x : KnownMachine). current_of x.ledger g) is.machine in omega (arith, e))
      (quiet_misses t m (release_steps f (Left left)) n runs held (quiet_release f (Left left)).no_miss) visit
  release_lets Returned is visit runs = off_list t m n f is.list (ap (λ (x : KnownMachine). x.ledger.groups) is.machine)
      (ap (λ (x : KnownMachine). x.ledger.settings) is.machine)
      (λ g.
      let e = ap (λ (x : KnownMachine). current_of x.ledger g) is.machine in
      let low = current_falls m.ledger (Some is.unit.group) (2 ^ is.unit.order) g in
      omega (arith, e, low))
      (quiet_misses t m (release_steps f Returned) n runs held (quiet_release f Returned).no_miss) visit

  release_stocks : (left : Released) → Releases f left m n → Makes t m (release_steps f left) n → KeepsStocks t m n
  release_stocks (Left left) is runs =
      record { stocks = λ p. parts_after t m (release_steps f (Left left)) n runs held p refl; killed = ap (λ (x : KnownMachine). x.killed) is.machine }
  release_stocks Returned is runs =
      record { stocks = λ p. parts_after t m (release_steps f Returned) n runs held p refl; killed = ap (λ (x : KnownMachine). x.killed) is.machine }

release_list : (m n : KnownMachine) (f : ℕ) (left : Released) → Releases f left m n → LeavesList f (lists_of m) (lists_of n)
release_list m n f (Left left) is = is.list
release_list m n f Returned is = is.list

same_home : (a b : Home) → Some a ≡ Some b → a.owner ≡ b.owner
same_home a b e = cc

off_entries : (m n : KnownMachine) (g f : ℕ) (list : LruList) → LeavesList f (lists_of m) (lists_of n)
    → home_of m.links f ≡ Some (record { owner = g; list = list }) → entries_in n g list ≡ entries_without f (entries_in m g list)
off_entries m n g f Inactive is home =
    let own : is.group ≡ g = same_home (record { owner = is.group; list = is.list }) (record { owner = g; list = Inactive }) (sym is.home ∙ home) in
    subst (λ (k : ℕ). entries_in n k Inactive ≡ entries_without f (entries_in m k Inactive)) own is.inactive
off_entries m n g f Active is home =
    let own : is.group ≡ g = same_home (record { owner = is.group; list = is.list }) (record { owner = g; list = Active }) (sym is.home ∙ home) in
    subst (λ (k : ℕ). entries_in n k Active ≡ entries_without f (entries_in m k Active)) own is.active

-- ---- the units of a list that were released so far

pub record LetGoSoFar (t : KnownTable) (g : ℕ) (list : LruList) (m : KnownMachine) (i : ℕ) (now : KnownMachine) : Type 0 where
  pub steps : Run
  pub whole : (rest : Run) (n : KnownMachine) → ReleasesUnits (entries_in now g list) now rest n → ReleasesUnits (entries_in m g list) m (steps ++ rest) n
  pub runs : Makes t m steps now
  pub left : length (entries_in now g list) + i ≡ length (entries_in m g list)
  pub keeps : OnlyReleases t m now
  pub stocks : KeepsStocks t m now

pub let_go_first : (t : KnownTable) (g : ℕ) (list : LruList) (m : KnownMachine) → LetGoSoFar t g list m 0 m
let_go_first t g list m = record {
  steps = [];
  whole = λ rest n all. all;
  runs = makes_none t m;
  left = omega arith;
  keeps = only_lets_none t m;
  stocks = record { stocks = λ p. refl; killed = refl };
}

-- the oldest unit that is left
pub record Oldest (t : KnownTable) (g : ℕ) (list : LruList) (now : KnownMachine) (u : Entry) : Type 0 where
  pub rest : List Entry
  pub entries : entries_in now g list ≡ u ∷ rest
  pub home : home_of now.links u.number ≡ Some (record { owner = g; list = list })
  pub inside : u.number < t.frames

first_is : (entries : List Entry) (u : Entry) → Some u ≡ first_entry entries → (rest : List Entry) × (entries ≡ u ∷ rest)
first_is [] u is = absurd (none-some u (sym is))
first_is (e ∷ es) u is = (es, ap (λ (x : Entry). x ∷ es) (same e u (sym is)))
  where
    same : (a b : Entry) → Some a ≡ Some b → a ≡ b
    same a b e = cc

-- there is one as long as units are left
pub one_is_left : (entries : List Entry) (oldest : Option Entry) → oldest ≡ first_entry entries → oldest ≡ None → 1 ≤ length entries → ⊥
one_is_left [] oldest first none some = omega (arith, some)
one_is_left (e ∷ es) oldest first none some = none-some e (sym none ∙ first)

pub oldest_is : (t : KnownTable) (g : ℕ) (list : LruList) (now : KnownMachine) → IsConsistent t now → (u : Entry)
    → (oldest : Option Entry) → oldest ≡ first_entry (entries_in now g list) → oldest ≡ Some u → Oldest t g list now u
oldest_is t g list now ok u oldest first some =
    let e = first_is (entries_in now g list) u (sym some ∙ first) in
    let listed = listed_is t now ok g list in
    let home = listed.homes u.number (ap (has_unit u.number) e.1 ∙ has_mid [] e.0 u u.number refl) in
    record {
      rest = e.0;
      entries = e.1;
      home = home;
      inside = home_inside t now ok u.number (record { owner = g; list = list }) home;
    }

without_first : (u : Entry) (rest : List Entry) → entries_without u.number (u ∷ rest) ≡ rest
without_first u rest = let t : (u.number == u.number) ≡ true = eq-eqb u.number u.number refl in rw t refl

pub let_go_more : (t : KnownTable) (g : ℕ) (list : LruList) (m : KnownMachine) (i : ℕ) (now : KnownMachine) → LetGoSoFar t g list m i now
    → (u : Entry) → Oldest t g list now u → (f : ℕ) → f ≡ u.number → (left : Released) (then : KnownMachine) → Releases f left now then
    → StaysVisited t now then → Makes t now (release_steps f left) then → IsHeld t m.run.past → LetGoSoFar t g list m (i + 1) then
let_go_more t g list m i now s u o f at left then releases_f visit runs_f held =
    let here : IsHeld t now.run.past = held_after t m s.steps now s.runs held in
    let releases : Releases u.number left now then = subst (λ (x : ℕ). Releases x left now then) at releases_f in
    let runs : Makes t now (release_steps u.number left) then = subst (λ (x : ℕ). Makes t now (release_steps x left) then) at runs_f in
    let tail : entries_in then g list ≡ o.rest =
    off_entries now then g u.number list (release_list now then u.number left releases) o.home ∙ ap (entries_without u.number) o.entries
    ∙ without_first u o.rest in
    record {
      steps = s.steps ++ release_steps u.number left;
      whole = λ rest n all.
          subst (λ (r : Run). ReleasesUnits (entries_in m g list) m r n) (sym (append_assoc s.steps (release_steps u.number left) rest))
          (s.whole (release_steps u.number left ++ rest) n (subst (λ (l : List Entry). ReleasesUnits l now (release_steps u.number left ++ rest) n) (sym o.entries)
          (record {
            between = then;
            left = left;
            later = rest;
            releases = releases;
            others = subst (λ (l : List Entry). ReleasesUnits l then rest n) tail all;
            steps_are = refl;
          })));
      runs = makes_both t s.steps (release_steps u.number left) m now then s.runs runs;
      left =
          let a = s.left in
          let b : length (entries_in now g list) ≡ length (u ∷ o.rest) = ap length o.entries in
          let d : length (entries_in then g list) ≡ length o.rest = ap length tail in
          omega (arith, a, b, d);
      keeps = only_lets_both t m now then s.keeps (release_lets t now then u.number here left releases visit runs);
      stocks =
          let x = release_stocks t now then u.number here left releases runs in
          record { stocks = λ p. x.stocks p ∙ s.stocks.stocks p; killed = x.killed ∙ s.stocks.killed };
    }

none_left : (entries : List Entry) (i n : ℕ) → length entries + i ≡ n → n ≤ i → entries ≡ []
none_left [] i n left all = refl
none_left (e ∷ es) i n left all = absurd (let a : length (e ∷ es) + i ≡ n = left in omega (arith, a, all))

pub let_go_empty : (t : KnownTable) (g : ℕ) (list : LruList) (m : KnownMachine) (i : ℕ) (now : KnownMachine) → LetGoSoFar t g list m i now
    → length (entries_in m g list) ≤ i → entries_in now g list ≡ []
let_go_empty t g list m i now s all = none_left (entries_in now g list) i _ s.left all

pub let_go_done : (t : KnownTable) (g : ℕ) (list : LruList) (m : KnownMachine) (i : ℕ) (now : KnownMachine) → LetGoSoFar t g list m i now
    → length (entries_in m g list) ≤ i → ReleasesUnitsBySteps t (entries_in m g list) m now
let_go_done t g list m i now s all =
    let empty = let_go_empty t g list m i now s all in
    record {
      steps = s.steps;
      releases = subst (λ (r : Run). ReleasesUnits (entries_in m g list) m r now) (append-nil s.steps)
          (s.whole [] now (subst (λ (l : List Entry). ReleasesUnits l now [] now) (sym empty) (refl, refl)));
      runs = s.runs;
    }

-- ---- the stocks are drained

pub settings_stay : (l : Ledger) (o : Option ℕ) (n : ℕ) → (uncharged l o n).settings ≡ l.settings
settings_stay l None n = refl
settings_stay l (Some g) n = refl

-- what a drain leaves
pub record LeavesUnits (t : KnownTable) (before after : KnownMachine) : Type 0 where
  pub groups : after.ledger.groups ≡ before.ledger.groups
  pub settings : after.ledger.settings ≡ before.ledger.settings
  pub links : after.links ≡ before.links
  pub killed : after.killed ≡ before.killed
  pub counts : after.counts ≡ before.counts
  pub usage : (g : ℕ) → current_of after.ledger g ≤ current_of before.ledger g
  pub stocks : OnlyDrains t before after

leaves_units_none : (t : KnownTable) (m : KnownMachine) → LeavesUnits t m m
leaves_units_none t m = record {
  groups = refl;
  settings = refl;
  links = refl;
  killed = refl;
  counts = refl;
  usage = λ g. omega arith;
  stocks = record { of = λ p. refl; drained = λ p is. is };
}

leaves_units_both : (t : KnownTable) (a b c : KnownMachine) → LeavesUnits t a b → LeavesUnits t b c → LeavesUnits t a c
leaves_units_both t a b c p q = record {
  groups = q.groups ∙ p.groups;
  settings = q.settings ∙ p.settings;
  links = q.links ∙ p.links;
  killed = q.killed ∙ p.killed;
  counts = q.counts ∙ p.counts;
  usage = λ g. let x = p.usage g in let y = q.usage g in omega (arith, x, y);
  stocks = record { of = λ x. q.stocks.of x ∙ p.stocks.of x; drained = λ x is. q.stocks.drained x (p.stocks.drained x is) };
}

module _ (t : KnownTable) (test : StockTest) where
  one_drains : (q : ℕ) (m n : KnownMachine) (drains : List Drain) → DrainsIf t test q drains m n → OnlyDrains t m n
  one_drains q m n drains h = record { of = below_owners t test q m n drains h; drained = below_still t test q m n drains h }

  drain_leaves : (m n : KnownMachine) (q pages : ℕ) → DrainsNoted t q pages m n → OnlyDrains t m n → LeavesUnits t m n
  drain_leaves m n q pages d stocks = record {
    groups = ap (λ (x : KnownMachine). x.ledger.groups) d.drains.machine ∙ groups_stay m.ledger (stock_group t m q) pages;
    settings = ap (λ (x : KnownMachine). x.ledger.settings) d.drains.machine ∙ settings_stay m.ledger (stock_group t m q) pages;
    links = ap (λ (x : KnownMachine). x.links) d.drains.machine;
    killed = ap (λ (x : KnownMachine). x.killed) d.drains.machine;
    counts = ap (λ (x : KnownMachine). x.counts) d.drains.machine;
    usage = λ g.
        let e : current_of n.ledger g ≡ current_of (uncharged m.ledger (stock_group t m q) pages) g = ap (λ (x : KnownMachine). current_of x.ledger g) d.drains.machine in
        let low = current_falls m.ledger (stock_group t m q) pages g in
        omega (arith, e, low);
    stocks = stocks;
  }

  one_leaves : (q : ℕ) (m n : KnownMachine) (drains : List Drain) → DrainsIf t test q drains m n → LeavesUnits t m n
  one_leaves q m n [] h = record {
    groups = ap (λ (x : KnownMachine). x.ledger.groups) h.1;
    settings = ap (λ (x : KnownMachine). x.ledger.settings) h.1;
    links = ap (λ (x : KnownMachine). x.links) h.1;
    killed = ap (λ (x : KnownMachine). x.killed) h.1;
    counts = ap (λ (x : KnownMachine). x.counts) h.1;
    usage = λ g. let e = ap (λ (x : KnownMachine). current_of x.ledger g) h.1 in omega (arith, e);
    stocks = one_drains q m n [] h;
  }
  one_leaves q m n (drain ∷ []) h = drain_leaves m n q drain.pages h.1.drains (one_drains q m n (drain ∷ []) h)
  one_leaves q m n (one ∷ two ∷ more) h = absurd h

  pub drains_leave : (k : ℕ) (m n : KnownMachine) (drains : List Drain) → DrainsAllIf t test k drains m n → LeavesUnits t m n
  drains_leave zero m n drains h = subst (λ (x : KnownMachine). LeavesUnits t m x) (sym h.1) (leaves_units_none t m)
  drains_leave (suc k) m n drains h =
      leaves_units_both t m h.between n (drains_leave k m h.between h.first h.makes_first) (one_leaves (suc k) h.between n h.last h.makes_last)

-- ---- a group is killed

-- the last puts that are counted grew by the units that the steps of a kill return: drains return none
last_puts_rise : (v : ℕ) (m a d b n : KnownMachine) → a ≡ with_run (with_killed m v) a.run → d.counts ≡ a.counts → (drains : List Drain) (first last : Run)
    → Rises d.counts.last_puts (returned_in first) b.counts.last_puts → Rises b.counts.last_puts (returned_in last) n.counts.last_puts
    → Rises m.counts.last_puts (returned_in (drain_stocks_steps drains ++ (first ++ last))) n.counts.last_puts
last_puts_rise v m a d b n is drained drains first last one two =
    let at_drain : d.counts.last_puts ≡ m.counts.last_puts =
    ap (λ (k : Counts). k.last_puts) drained ∙ ap (λ (x : KnownMachine). x.counts.last_puts) is in
    let both = rises_both d.counts.last_puts b.counts.last_puts n.counts.last_puts (returned_in first) (returned_in last) one two in
    let none = drains_return_none drains in
    let rest = returned_both first last in
    let all = returned_both (drain_stocks_steps drains) (first ++ last) in
    let e : returned_in first + returned_in last ≡ returned_in (drain_stocks_steps drains ++ (first ++ last)) = omega (arith, none, rest, all) in
    subst (λ (k : ℕ). Rises m.counts.last_puts k n.counts.last_puts) e
    (subst (λ (k : ℕ). Rises k (returned_in first + returned_in last) n.counts.last_puts) at_drain both)

-- what the parts of a kill leave, one after the other
pub record AllKilled (t : KnownTable) (v : ℕ) (m n : KnownMachine) : Type 0 where
  pub kills : KillsGroupBySteps t v m n
  pub marked : n.killed ≡ slice_set m.killed v true
  pub drained : AreOwnDrained t v n
  pub none_kept : HasNoKeptUnit v n
  pub keeps : OnlyReleases t m n
  pub stocks : OnlyDrains t m n

-- no unit is on an empty list
none_listed : (t : KnownTable) (m : KnownMachine) → IsConsistent t m → (v : ℕ) (list : LruList) → entries_in m v list ≡ []
    → (f : ℕ) → home_of m.links f ≡ Some (record { owner = v; list = list }) → ⊥
none_listed t m ok v list empty f home =
    false≢true (sym (ap (has_unit f) empty) ∙ (listed_is t m ok v list).at_home f home)

keeps_none_of : (t : KnownTable) (b n : KnownMachine) → IsConsistent t b → IsConsistent t n → (v : ℕ)
    → entries_in b v Inactive ≡ [] → entries_in n v Active ≡ [] → OnlyLeave b n → (f : ℕ) (list : LruList)
    → home_of n.links f ≡ Some (record { owner = v; list = list }) → ⊥
keeps_none_of t b n ok_b ok_n v first last leaves f Inactive home = none_listed t b ok_b v Inactive first f (leaves f _ home)
keeps_none_of t b n ok_b ok_n v first last leaves f Active home = none_listed t n ok_n v Active last f home

pub all_killed : (t : KnownTable) (v : ℕ) (m a d b n : KnownMachine) → a ≡ with_run (with_killed m v) a.run
    → ((g : ℕ) → current_of a.ledger g ≡ current_of m.ledger g) → Makes t m (kill_steps v) a → StaysVisited t m a → IsHeld t m.run.past
    → (pages : ℕ) → DrainsGroup t v pages a d → AreOwnDrained t v d → StaysVisited t a d
    → ReleasesUnitsBySteps t (entries_in d v Inactive) d b → entries_in b v Inactive ≡ [] → OnlyReleases t d b → KeepsStocks t d b → IsConsistent t b
    → ReleasesUnitsBySteps t (entries_in b v Active) b n → entries_in n v Active ≡ [] → OnlyReleases t b n → KeepsStocks t b n → IsConsistent t n → AllKilled t v m n
all_killed t v m a d b n is usage killed visit_killed held pages drains drained visit_drained first first_empty first_keeps first_stocks ok_b last last_empty last_keeps last_stocks ok_n =
    let unit = drains_leave t (of_group v) t.cpus a d drains.drains drains.all in
    let stock : (p : ℕ) → part_at t n p ≡ part_at t d p = λ p. last_stocks.stocks p ∙ first_stocks.stocks p in
    let groups : n.ledger.groups ≡ d.ledger.groups = last_keeps.groups ∙ first_keeps.groups in
    let kept : (p : ℕ) → part_at t a p ≡ part_at t m p = λ p. parts_after t m (kill_steps v) a killed held p refl in
    let marks : (p : ℕ) → stock_group t a p ≡ stock_group t m p = λ p. ap (λ (x : Part). x.stock.group) (kept p) in
    let at_first : OnlyReleases t m a = only_lets_same t m (kill_steps v) a killed held (ap (λ (x : KnownMachine). x.ledger.groups) is)
    (ap (λ (x : KnownMachine). x.ledger.settings) is) (λ g. let e = usage g in omega (arith, e)) (ap (λ (x : KnownMachine). x.links) is) visit_killed (λ f. refl) in
    let quiet_first = quiet_drains drains.drains in
    let at_drain : OnlyReleases t a d = only_lets_same t a (drain_stocks_steps drains.drains) d drains.steps (held_after t m (kill_steps v) a killed held)
    unit.groups unit.settings unit.usage unit.links visit_drained quiet_first.no_miss in
    let later : Run = drain_stocks_steps drains.drains ++ (first.steps ++ last.steps) in
    let quiet : AreQuiet later = quiet_both (drain_stocks_steps drains.drains) (first.steps ++ last.steps) (quiet_drains drains.drains)
    (quiet_both first.steps last.steps (quiet_units (entries_in d v Inactive) d first.steps b first.releases)
    (quiet_units (entries_in b v Active) b last.steps n last.releases)) in
    record {
      kills = record {
        steps = kill_steps v ++ (drain_stocks_steps drains.drains ++ (first.steps ++ last.steps));
        kills = record {
          drained = d;
          between = b;
          drains = drains.drains;
          first = first.steps;
          last = last.steps;
          seen = a.run;
          stocks = subst (λ (x : KnownMachine). DrainsAllIf t (of_group v) t.cpus drains.drains x d) is drains.all;
          inactive = first.releases;
          active = last.releases;
          steps_are = refl;
        };
        runs = makes_both t (kill_steps v) (drain_stocks_steps drains.drains ++ (first.steps ++ last.steps)) m a n killed
            (makes_both t (drain_stocks_steps drains.drains) (first.steps ++ last.steps) a d n drains.steps
            (makes_both t first.steps last.steps d b n first.runs last.runs));
        once = record {
          later = later;
          front = refl;
          no_kill = quiet.no_kill;
          no_miss = quiet.no_miss;
          returned = last_puts_rise v m a d b n is unit.counts drains.drains first.steps last.steps
              (units_rise (entries_in d v Inactive) d first.steps b first.releases) (units_rise (entries_in b v Active) b last.steps n last.releases);
        };
      };
      marked = last_stocks.killed ∙ first_stocks.killed ∙ unit.killed ∙ ap (λ (x : KnownMachine). x.killed) is;
      drained = λ q some few of.
          subst HasDrained (sym (stock q)) (drained q some few ((λ i. of_group v (sym groups i) (sym (ap (λ (x : Part). x.stock.group) (stock q)) i)) ∙ of));
      none_kept = λ f h home owner.
          keeps_none_of t b n ok_b ok_n v first_empty last_empty last_keeps.leaves f h.list
          (home ∙ (λ i. Some (record { owner = owner i; list = h.list })));
      keeps = only_lets_both t m a n at_first (only_lets_both t a d n at_drain (only_lets_both t d b n first_keeps last_keeps));
      stocks = record {
        of = λ p. ap (λ (x : Part). x.stock.group) (stock p) ∙ unit.stocks.of p ∙ marks p;
        drained = λ p was. subst HasDrained (sym (stock p)) (unit.stocks.drained p (subst HasDrained (sym (kept p)) was));
      };
    }
