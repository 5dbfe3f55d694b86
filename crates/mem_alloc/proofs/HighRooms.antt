-- memory.high, from a group up to the root. Serves `keep_to_high`, `keep_path_to_high` and `reclaim_high`.
use Rattle.std.proofs.Common.{◌≡◌, ℕ, ◌+◌, ◌<◌, ◌≤◌, ◌==◌, inl, inr, true, false, Option, Some, None, List, [], ◌∷◌, ◌++◌, refl, sym, ap, ◌∙◌, subst, arith, eq-eqb}
use Rattle.std.specs.List.{list_any}
use Rattle.std.specs.Option.{option_map_or}
use Rattle.std.proofs.lemmas.Bool.{leb-true, or_left, or_right}
use Rattle.std.proofs.lemmas.List.{append_assoc, append-nil}
use Rattle.boot_words.specs.Pasts.{IsHeld}
use Rattle.group_tree.specs.declared.event.EventKey.TheVariants as event
use Rattle.group_tree.specs.declared.group.Group.{Group}
use Rattle.group_tree.specs.{ancestors_from, ancestors_of, depth_at, is_there, AreGroups, has_group, parent_of, fits_limit}
use Rattle.group_tree.proofs.AncestorLemmas.{ancestors_of-step, ancestors_of-subtree, parent-is_there}
use Rattle.group_tree.proofs.Walks.{parent_depth}
use Rattle.group_charge.specs.Charges.{current_of, with_noted}
use Rattle.group_charge.specs.declared.note.Note.TheVariants.{High}
use Rattle.group_charge.proofs.UsageLemmas.{usage-noted}
use Rattle.lru_lists.specs.declared.record.Link.{Link}
use Rattle.lru_lists.specs.{owner_of, link_at}
use Rattle.step_rules.specs.declared.step.NoteKey.TheVariants as key
use Rattle.step_rules.specs.After.{Run}
use Rattle.boot_words.specs.Tables.{KnownTable}
use Rattle.mem_machine.specs.{KnownMachine, home_of, with_note, with_run, Makes, StaysVisited, note_steps, BySteps, Transition, transition}
use Rattle.mem_machine.proofs.Followed.{makes_both, makes_none}
use Rattle.mem_machine.proofs.Made.{visit_same}
use Rattle.mem_reclaim.specs.{FreesBySteps, has_kill, ReclaimsRounds, max_rounds, pages_wanted, IsDirtyUnit, Keeps, MissedAll}
use Rattle.mem_reclaim.proofs.Grown.{misses_after, parts_after}
use Rattle.mem_reclaim.proofs.Keeping.{keeps_none, keeps_both}
use Rattle.mem_alloc.specs.High.{KeepToHigh, KeepsToHigh, PathHasHighRoom, ReclaimsHigh, has_high_room, high_of, with_high_noted_at}
use Rattle.mem_alloc.proofs.Calm.{no_kill_both}

-- ---- one group

-- the note and the event, of the machine before both
module _ (t : KnownTable) (g high need : ℕ) (m y x : KnownMachine) (told : y ≡ with_note m (High g high (current_of m.ledger g) need))
    (noted : x ≡ record y { ledger = with_noted event.High y.ledger g; run = x.run }) (noting : Makes t y (note_steps key.High g) x) where
  pub high_noted : x ≡ with_run (with_high_noted_at m g high need) x.run
  high_noted = noted ∙ ap (λ (k : KnownMachine). record k { ledger = with_noted event.High k.ledger g; run = x.run }) told

  pub high_runs : Makes t m (note_steps key.High g) x
  high_runs =
      let runs : Makes t (with_note m (High g high (current_of m.ledger g) need)) (note_steps key.High g) x =
      subst (λ (k : KnownMachine). Makes t k (note_steps key.High g) x) told noting in
      record { holder = runs.holder; leads = runs.leads; follows = runs.follows; counts = runs.counts; noted = runs.noted }

  -- they keep what a reclaim keeps
  pub high_keeps : IsHeld t m.run.past → StaysVisited t y x → Keeps t m x
  high_keeps held visit =
      let first = note_steps key.High g in
      let links : x.links ≡ m.links = ap (λ (k : KnownMachine). k.links) high_noted in
      record {
        stocks = λ p. parts_after t m first x high_runs held p refl;
        killed = ap (λ (k : KnownMachine). k.killed) high_noted;
        groups = ap (λ (k : KnownMachine). k.ledger.groups) high_noted;
        settings = ap (λ (k : KnownMachine). k.ledger.settings) high_noted;
        usage = λ h.
            let e : current_of x.ledger h ≡ current_of m.ledger h =
            ap (λ (k : KnownMachine). current_of k.ledger h) high_noted ∙ usage-noted event.High m.ledger.groups m.ledger.accounts g h in
            omega (arith, e);
        visit = λ c v. visit c (visit_same t m y c (ap (λ (k : KnownMachine). k.run) told) v);
        dirty = λ f d. subst (λ (l : List Link). IsDirtyUnit l f) (sym links) d;
        owners = λ f kept. ap (λ (l : List Link). owner_of (home_of l f)) links;
        dirt = λ f kept. ap (λ (l : List Link). (link_at l f).is_dirty) links;
        misses = λ f. let e = misses_after t m first x high_runs held f in omega (arith, e);
      }

module _ (t : KnownTable) (g need : ℕ) (m : KnownMachine) where
  abbrev pub HighKept : KnownMachine → Type 0
  HighKept n = BySteps Makes t (KeepsToHigh (high_of m.ledger g) g need) m n

  pub no_high : high_of m.ledger g ≡ None → HighKept m
  no_high none = record {
    steps = [];
    does = subst (λ (o : Option ℕ). KeepsToHigh o g need (transition t m [] m)) (sym none) (record { machine = refl; steps_are = refl });
    makes = makes_none t m;
  }

  module _ (high : ℕ) (some : high_of m.ledger g ≡ Some high) where
    pub high_has_room : current_of m.ledger g + need ≤ high → HighKept m
    high_has_room low = record {
      steps = [];
      does = subst (λ (o : Option ℕ). KeepsToHigh o g need (transition t m [] m)) (sym some) (inl (low, record { machine = refl; steps_are = refl }));
      makes = makes_none t m;
    }

    pub high_reclaimed : high < current_of m.ledger g + need → (y x n : KnownMachine) (freed : ℕ) → y ≡ with_note m (High g high (current_of m.ledger g) need)
        → x ≡ record y { ledger = with_noted event.High y.ledger g; run = x.run } → Makes t y (note_steps key.High g) x
        → (batch : ℕ) → batch ≡ t.choices.reclaim_batch
        → FreesBySteps t freed x n (ReclaimsRounds g (pages_wanted batch g need high) max_rounds) → (high < current_of n.ledger g + need → MissedAll g x n) → HighKept n
    high_reclaimed more y x n freed told noted noting batch chosen rounds missed =
        let is = high_noted t g high need m y x told noted noting in
        let first = high_runs t g high need m y x told noted noting in
        let here : FreesBySteps t freed (with_run (with_high_noted_at m g high need) x.run) n (ReclaimsRounds g (pages_wanted t.choices.reclaim_batch g need high) max_rounds) =
        subst (λ (k : KnownMachine × ℕ). FreesBySteps t freed k.0 n (ReclaimsRounds g (pages_wanted k.1 g need high) max_rounds)) (λ i. (is i, chosen i)) rounds in
        record {
          steps = note_steps key.High g ++ here.steps;
          does = subst (λ (o : Option ℕ). KeepsToHigh o g need (transition t m (note_steps key.High g ++ here.steps) n)) (sym some) (inr (record {
            over = more;
            seen = x.run;
            freed = freed;
            later = here.steps;
            notes = subst (Makes t m (note_steps key.High g)) is first;
            rounds = here.does;
            missed = subst (λ (k : KnownMachine). high < current_of n.ledger g + need → MissedAll g k n) is missed;
            moves = here.moves;
            steps_are = refl;
          }));
          makes = makes_both t (note_steps key.High g) here.steps m (with_run (with_high_noted_at m g high need) x.run) n
              (subst (Makes t m (note_steps key.High g)) is first) here.moves.runs;
        }

calm : (o : Option ℕ) (g need : ℕ) (call : Transition KnownMachine) → KeepsToHigh o g need call → has_kill call.steps ≡ false
calm None g need call h = ap has_kill h.steps_are
calm (Some high) g need call (inl h) = ap has_kill h.1.steps_are
calm (Some high) g need call (inr h) = ap has_kill h.steps_are ∙ h.moves.no_kill

-- ---- from a group up to the root

-- how many groups are left at most
abbrev pub left_above : List Group → Option ℕ → ℕ
left_above groups next = option_map_or (λ above. depth_at groups above + 1) next 0

pub less_above : (groups : List Group) (above : ℕ) (next : Option ℕ) → AreGroups groups → next ≡ parent_of groups above → left_above groups next < depth_at groups above + 1
less_above groups above None facts up = omega arith
less_above groups above (Some p) facts up = let d = parent_depth groups above p facts (sym up) in omega (arith, d)

-- the groups below the next one had their turn
pub record HighSoFar (t : KnownTable) (g need : ℕ) (m : KnownMachine) (next : Option ℕ) (now : KnownMachine) : Type 0 where
  pub steps : Run
  pub whole : (rest : Run) (n : KnownMachine) → KeepToHigh (ancestors_from m.ledger.groups next) need (transition t now rest n)
      → KeepToHigh (ancestors_of m.ledger.groups g) need (transition t m (steps ++ rest) n)
  pub runs : Makes t m steps now
  pub keeps : Keeps t m now
  pub no_kill : has_kill steps ≡ false
  pub there : is_there m.ledger.groups next ≡ true

pub high_begins : (t : KnownTable) (g need : ℕ) (m : KnownMachine) → has_group m.ledger.groups g ≡ true → HighSoFar t g need m (Some g) m
high_begins t g need m there = record { steps = []; whole = λ rest n h. h; runs = makes_none t m; keeps = keeps_none t m; no_kill = refl; there = there }

pub high_ends : (t : KnownTable) (g need : ℕ) (m now : KnownMachine) → HighSoFar t g need m None now → BySteps Makes t (ReclaimsHigh g need) m now
high_ends t g need m now so = record {
  steps = so.steps;
  does = record {
    each = subst (λ (k : Run). KeepToHigh (ancestors_of m.ledger.groups g) need (transition t m k now)) (append-nil so.steps)
        (so.whole [] now (record { machine = refl; steps_are = refl }));
    runs = so.runs;
    keeps = so.keeps;
    no_kill = so.no_kill;
  };
  makes = so.runs;
}

pub high_goes_on : (t : KnownTable) (g need : ℕ) (m : KnownMachine) → AreGroups m.ledger.groups → (above : ℕ) (next : Option ℕ) (now then : KnownMachine) → HighSoFar t g need m (Some above) now → next ≡ parent_of m.ledger.groups above
    → BySteps Makes t (KeepsToHigh (high_of now.ledger above) above need) now then → Keeps t now then → HighSoFar t g need m next then
high_goes_on t g need m facts above next now then so up one keeps = record {
  steps = so.steps ++ one.steps;
  whole = λ rest n h.
      let step : ancestors_of m.ledger.groups above ≡ above ∷ ancestors_from m.ledger.groups next =
      ancestors_of-step m.ledger.groups above facts so.there ∙ ap (λ (o : Option ℕ). above ∷ ancestors_from m.ledger.groups o) (sym up) in
      subst (λ (k : Run). KeepToHigh (ancestors_of m.ledger.groups g) need (transition t m k n)) (sym (append_assoc so.steps one.steps rest))
      (so.whole (one.steps ++ rest) n (subst (λ (l : List ℕ). KeepToHigh l need (transition t now (one.steps ++ rest) n)) (sym step) (record {
        between = then;
        earlier = one.steps;
        later = rest;
        first = one.does;
        second = h;
        steps_are = refl;
      })));
  runs = makes_both t so.steps one.steps m now then so.runs one.makes;
  keeps = keeps_both t m now then so.keeps keeps;
  no_kill = no_kill_both so.steps one.steps so.no_kill (calm (high_of now.ledger above) above need (transition t now one.steps then) one.does);
  there = subst (λ (o : Option ℕ). is_there m.ledger.groups o ≡ true) (sym up) (parent-is_there m.ledger.groups above facts);
}

-- ---- each group of the path has room

room_stays : (t : KnownTable) (m : KnownMachine) (g need : ℕ) (o : Option ℕ) → fits_limit o (current_of m.ledger g + need) ≡ true → KeepsToHigh o g need (transition t m [] m)
room_stays t m g need None fits = record { machine = refl; steps_are = refl }
room_stays t m g need (Some high) fits = inl (leb-true (current_of m.ledger g + need) high fits, record { machine = refl; steps_are = refl })

all_stay : (t : KnownTable) (m : KnownMachine) (need : ℕ) (path : List ℕ) → ((k : ℕ) → list_any (λ a. a == k) path ≡ true → has_high_room m.ledger k need ≡ true)
    → KeepToHigh path need (transition t m [] m)
all_stay t m need [] room = record { machine = refl; steps_are = refl }
all_stay t m need (g ∷ others) room = record {
  between = m;
  earlier = [];
  later = [];
  first = room_stays t m g need (high_of m.ledger g) (room g (or_left (g == g) (list_any (λ a. a == g) others) (eq-eqb g g refl)));
  second = all_stay t m need others (λ k there. room k (or_right (g == k) (list_any (λ a. a == k) others) there));
  steps_are = refl;
}

pub path_stays : (t : KnownTable) (g need : ℕ) (m : KnownMachine) → AreGroups m.ledger.groups → has_group m.ledger.groups g ≡ true → PathHasHighRoom m.ledger g need
    → BySteps Makes t (ReclaimsHigh g need) m m
path_stays t g need m facts there room = record {
  steps = [];
  does = record {
    each = all_stay t m need (ancestors_of m.ledger.groups g) (λ k on. room k (sym (ancestors_of-subtree m.ledger.groups k g facts there) ∙ on));
    runs = makes_none t m;
    keeps = keeps_none t m;
    no_kill = refl;
  };
  makes = makes_none t m;
}
