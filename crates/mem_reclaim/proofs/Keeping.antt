-- What stays, from one call to the next, and in one call. Serves the clauses on what stays.
use Rattle.std.proofs.Common.{◌≡◌, ◌≢◌, ℕ, ◌+◌, ◌≤◌, Bool, true, false, Option, Some, None, List, refl, sym, ap, ◌∙◌, subst, arith, cond}
use Rattle.std.proofs.lemmas.Bool.{true≢false}
use Rattle.std.proofs.lemmas.Option.{none-some}
use Rattle.group_tree.specs.Groups.{in_subtree}
use Rattle.group_charge.specs.{KnownNotes, current_of}
use Rattle.lru_lists.specs.declared.record.Link.{Link}
use Rattle.lru_lists.specs.declared.record.Home.{Home}
use Rattle.lru_lists.specs.{link_at, SameOwners, owner_of}
use Rattle.boot_words.specs.Tables.{KnownTable}
use Rattle.cpu_part.specs.Cpus.{KnownCpuLists}
use Rattle.mem_machine.specs.{KnownMachine, home_of, left_by, Makes, Visits, KnownRun, evict_steps, MissesUnit, EvictsUnit, Evicts}
use Rattle.boot_words.specs.Pasts.{IsHeld, own_past}
use Rattle.mem_machine.proofs.Made.{visit_same}
use Rattle.mem_reclaim.specs.{missed_in, IsDirtyUnit, Keeps, OnlyLeave, IsMissed}
use Rattle.mem_reclaim.proofs.Grown.{misses_after, parts_after}

-- ---- one call after another

pub keeps_none : (t : KnownTable) (m : KnownMachine) → Keeps t m m
keeps_none t m = record {
  stocks = λ p. refl;
  killed = refl;
  groups = refl;
  settings = refl;
  usage = λ g. omega arith;
  visit = λ c v. v;
  dirty = λ f is. is;
  owners = λ f kept. refl;
  dirt = λ f kept. refl;
  misses = λ f. omega arith;
}

-- who is kept was kept
pub kept_before : (t : KnownTable) (m n : KnownMachine) → Keeps t m n → (f : ℕ) → home_of n.links f ≢ None → home_of m.links f ≢ None
kept_before t m n keeps f kept none = no_owner (home_of n.links f) kept (keeps.owners f kept ∙ ap owner_of none)
  where
    no_owner : (h : Option Home) → h ≢ None → owner_of h ≡ None → ⊥
    no_owner None some is = some refl
    no_owner (Some h) some is = none-some h.owner (sym is)

pub keeps_both : (t : KnownTable) (a b c : KnownMachine) → Keeps t a b → Keeps t b c → Keeps t a c
keeps_both t a b c p q = record {
  stocks = λ x. q.stocks x ∙ p.stocks x;
  killed = q.killed ∙ p.killed;
  groups = q.groups ∙ p.groups;
  settings = q.settings ∙ p.settings;
  usage = λ g. let x = p.usage g in let y = q.usage g in omega (arith, x, y);
  visit = λ x v. q.visit x (p.visit x v);
  dirty = λ f is. q.dirty f (p.dirty f is);
  owners = λ f kept. q.owners f kept ∙ p.owners f (kept_before t b c q f kept);
  dirt = λ f kept. q.dirt f kept ∙ p.dirt f (kept_before t b c q f kept);
  misses = λ f. let x = p.misses f in let y = q.misses f in omega (arith, x, y);
}

-- other notes change nothing that is kept
pub keeps_noted : (t : KnownTable) (m n : KnownMachine) (notes : KnownNotes) → Keeps t m n → Keeps t m (record n { notes = notes })
keeps_noted t m n notes k = record {
  stocks = k.stocks;
  killed = k.killed;
  groups = k.groups;
  settings = k.settings;
  usage = k.usage;
  visit = λ c v. visit_same t n (record n { notes = notes }) c refl (k.visit c v);
  dirty = λ f is. let x = k.dirty f is in record { kept = x.kept; dirty = x.dirty };
  owners = k.owners;
  dirt = k.dirt;
  misses = k.misses;
}

-- nor do other notes before
pub keeps_after_notes : (t : KnownTable) (m n : KnownMachine) (notes : KnownNotes) → Keeps t (record m { notes = notes }) n → Keeps t m n
keeps_after_notes t m n notes k = record {
  stocks = k.stocks;
  killed = k.killed;
  groups = k.groups;
  settings = k.settings;
  usage = k.usage;
  visit = λ c v. k.visit c (visit_same t m (record m { notes = notes }) c refl v);
  dirty = λ f is. k.dirty f (record { kept = is.kept; dirty = is.dirty });
  owners = k.owners;
  dirt = k.dirt;
  misses = k.misses;
}

pub only_both : (a b c : KnownMachine) → OnlyLeave a b → OnlyLeave b c → OnlyLeave a c
only_both a b c p q f h is = p f h (q f h is)

-- what was missed on a list stays missed, also counted from before
pub missed_still : (t : KnownTable) (a b c d : KnownMachine) → Keeps t a b → Keeps t c d → OnlyLeave c d → (f : ℕ) (h : Home) → IsMissed b c f h → IsMissed a d f h
missed_still t a b c d first last only f h is home clean =
    let there = only f h home in
    let kept : home_of d.links f ≢ None = λ none. none-some h (sym none ∙ home) in
    let x = is there (sym (last.dirt f kept) ∙ clean) in
    let y = first.misses f in
    let z = last.misses f in
    omega (arith, x, y, z)

-- ---- the lists of a group changed, and nothing else

pub keeps_owners : (t : KnownTable) (m n : KnownMachine) → n ≡ record m { links = n.links; lists = n.lists } → SameOwners m.links n.links → Keeps t m n
keeps_owners t m n is owners =
    let same : n.run ≡ m.run = ap (λ (x : KnownMachine). x.run) is in
    record {
      stocks = λ p. ap (λ (r : KnownRun). (left_by t r.past).parts p) same;
      killed = ap (λ (x : KnownMachine). x.killed) is;
      groups = ap (λ (x : KnownMachine). x.ledger.groups) is;
      settings = ap (λ (x : KnownMachine). x.ledger.settings) is;
      usage = λ g. let e = ap (λ (x : KnownMachine). current_of x.ledger g) is in omega (arith, e);
      visit = λ c v. visit_same t m n c same v;
      dirty = λ f d. record { kept = still_kept (home_of m.links f) (home_of n.links f) (owners.owner f) d.kept; dirty = owners.dirty f ∙ d.dirty };
      owners = λ f kept. owners.owner f;
      dirt = λ f kept. owners.dirty f;
      misses = λ f. let e = ap (λ (r : KnownRun). missed_in f (own_past r.past).seen) same in omega (arith, e);
    }
  where
    still_kept : (h k : Option Home) → owner_of k ≡ owner_of h → h ≢ None → k ≢ None
    still_kept None k same some none = some refl
    still_kept (Some h) k same some none = none-some h.owner (sym (ap owner_of none) ∙ same)

-- ---- a try

on_path_low : (b : Bool) (n pages : ℕ) → n ≤ cond b (n + pages) n
on_path_low true n pages = omega arith
on_path_low false n pages = omega arith

module _ (t : KnownTable) (m n : KnownMachine) (f : ℕ) (visit : (c : KnownCpuLists) → Visits t m c → Visits t n c) (held : IsHeld t m.run.past) where
  keeps_missed : MissesUnit m n → Makes t m (evict_steps f None) n → Keeps t m n
  keeps_missed is runs =
      let links : n.links ≡ m.links = ap (λ (x : KnownMachine). x.links) is in
      record {
        stocks = λ p. parts_after t m (evict_steps f None) n runs held p refl;
        killed = ap (λ (x : KnownMachine). x.killed) is;
        groups = ap (λ (x : KnownMachine). x.ledger.groups) is;
        settings = ap (λ (x : KnownMachine). x.ledger.settings) is;
        usage = λ g. let e = ap (λ (x : KnownMachine). current_of x.ledger g) is in omega (arith, e);
        visit = visit;
        dirty = λ g d. subst (λ (l : List Link). IsDirtyUnit l g) (sym links) d;
        owners = λ g kept. ap (λ (l : List Link). owner_of (home_of l g)) links;
        dirt = λ g kept. ap (λ (l : List Link). (link_at l g).is_dirty) links;
        misses = λ g. let e = misses_after t m (evict_steps f None) n runs held g in omega (arith, e);
      }

  keeps_evicted : (pages : ℕ) → EvictsUnit f pages m n → Makes t m (evict_steps f (Some pages)) n → (link_at m.links f).is_dirty ≡ false → Keeps t m n
  keeps_evicted pages is runs clean =
      let gone : home_of n.links f ≡ None = ap (λ (k : Link). k.home) is.list.forgotten in
      let other : (g : ℕ) → home_of n.links g ≢ None → g ≢ f = λ g kept e. kept (ap (home_of n.links) e ∙ gone) in
      record {
        stocks = λ p. parts_after t m (evict_steps f (Some pages)) n runs held p refl;
        killed = ap (λ (x : KnownMachine). x.killed) is.machine;
        groups = ap (λ (x : KnownMachine). x.ledger.groups) is.machine;
        settings = ap (λ (x : KnownMachine). x.ledger.settings) is.machine;
        usage = λ g. let e = is.usage g in let low = on_path_low (in_subtree n.ledger.groups g is.unit.group) (current_of n.ledger g) pages in omega (arith, e, low);
        visit = visit;
        dirty = λ g d.
            let ne : g ≢ f = λ e. true≢false (sym d.dirty ∙ ap (λ (x : ℕ). (link_at m.links x).is_dirty) e ∙ clean) in
            record { kept = λ none. d.kept (sym (is.list.homes g ne) ∙ none); dirty = is.list.used.dirty g ne ∙ d.dirty };
        owners = λ g kept. ap owner_of (is.list.homes g (other g kept));
        dirt = λ g kept. is.list.used.dirty g (other g kept);
        misses = λ g. let e = misses_after t m (evict_steps f (Some pages)) n runs held g in omega (arith, e);
      }

  pub keeps_try : (answer : Option ℕ) → Evicts f answer m n → Makes t m (evict_steps f answer) n → (link_at m.links f).is_dirty ≡ false → Keeps t m n
  keeps_try None is runs clean = keeps_missed is runs
  keeps_try (Some pages) is runs clean = keeps_evicted pages is runs clean
