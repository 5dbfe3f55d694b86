-- No kill comes before everything else was tried. Serves the calls that name a command's steps.
use Rattle.std.proofs.Common.{◌≡◌, ◌≢◌, ℕ, ◌≤◌, Bool, true, false, Option, Some, None, List, [], ◌∷◌, ◌++◌, refl, sym, ap, ◌∙◌}
use Rattle.std.proofs.Common.{subst, inl, inr, arith, eq-eqb, ◌==◌, ◌||◌, ◌⊎◌}
use Rattle.std.specs.Prelude.{Result, Ok, Err}
use Rattle.std.proofs.lemmas.Option.{none-some}
use Rattle.std.proofs.lemmas.Bool.{cases_Bool, cases_lt, false≢true}
use Rattle.std.proofs.lemmas.List.{append_assoc, append-nil}
use Rattle.std.proofs.lemmas.List.Folds.{list_any-append}
use Rattle.boot_words.specs.Pasts.{IsHeld}
use Rattle.group_tree.specs.declared.event.EventKey.TheVariants as event
use Rattle.group_tree.specs.declared.group.Group.{Group}
use Rattle.group_tree.specs.Groups.{in_subtree, is_oom_group}
use Rattle.group_charge.specs.Charges.{current_of}
use Rattle.group_charge.proofs.UsageLemmas.{usage-noted}
use Rattle.group_protection.proofs.Topping.{kept_still}
use Rattle.lru_lists.specs.declared.record.Link.{Link}
use Rattle.lru_lists.specs.declared.record.Home.{Home}
use Rattle.lru_lists.specs.{owner_of, link_at}
use Rattle.boot_words.specs.Tables.{KnownTable}
use Rattle.cpu_part.specs.Cpus.{KnownCpuLists}
use Rattle.step_rules.specs.declared.step.Action.TheVariants.{Kill}
use Rattle.step_rules.specs.declared.step.Answer.{Answer}
use Rattle.step_rules.specs.declared.step.Step.{Step}
use Rattle.step_rules.specs.{Part, Run}
use Rattle.mem_machine.specs.{HeadsKeptUnit, KnownMachine, home_of, part_at, with_note, with_run, Makes, VisitState, visit_state}
use Rattle.mem_machine.specs.{note_group_kill_steps, note_oom_steps, over_steps, AreDrained, HasDrained, Drains, of_subtree, stock_group, uncharged}
use Rattle.mem_machine.specs.{MachineStays, OfMachineAlone, Transition, transition}
use Rattle.mem_machine.proofs.Draining.{groups_stay}
use Rattle.mem_machine.proofs.Falling.{current_falls}
use Rattle.mem_machine.proofs.Followed.{makes_both, makes_none}
use Rattle.mem_reclaim.specs.declared.sets.Killed.{Killed}
use Rattle.mem_reclaim.specs.{has_kill, is_kill, killed_by, kills_in, Keeps, MissedAll, IsKilledBy, KillsGroups, KillsRootOrVictim, OnlyDrains}
use Rattle.mem_reclaim.specs.{OnlyReleases, alive_in_subtree, group_kill_note, kill_set, victim_note}
use Rattle.mem_reclaim.proofs.KillSets.{kills_both}
use Rattle.mem_reclaim.proofs.Grown.{held_after, misses_after, parts_after}
use Rattle.mem_reclaim.proofs.LettingGo.{drains_leave, quiet_drains, settings_stay}
use Rattle.mem_alloc.specs.{UnlessNoKill, KillsVictims, KillsForRoom, KillsOneVictim, KillsUntilRoom, has_room_at, with_oom_noted_at, AfterRoom, ClearsBelow}
use Rattle.mem_alloc.specs.{IsRefusedAt, IsRefusedFor, IsRefusedAtSome, KillsForFewPages, MakesRoom, PreparesCharge, ReclaimsFor, RelievesLimit}
use Rattle.mem_alloc.specs.{with_max_noted_at, MayKill, MayKillAfter, begins_with_kill, has_oom_note, is_oom_note}
use Rattle.mem_alloc.specs.declared.faults.AllocFault.{AllocFault}

-- ---- the place of a pair in a list

abbrev first_or : Step × Answer → Run → Step × Answer
first_or d [] = d
first_or d (x ∷ xs) = x

abbrev rest_of : Run → Run
rest_of [] = []
rest_of (x ∷ xs) = xs

first_same : (x y : Step × Answer) (xs ys : Run) → x ∷ xs ≡ y ∷ ys → x ≡ y
first_same x y xs ys is = ap (first_or x) is

rest_same : (x y : Step × Answer) (xs ys : Run) → x ∷ xs ≡ y ∷ ys → xs ≡ ys
rest_same x y xs ys is = ap rest_of is

-- a pair of two lists joined is in the first or in the second
stands_in : (one two before rest : Run) (e : Step × Answer) → one ++ two ≡ before ++ e ∷ rest
    → ((more : Run) × (one ≡ before ++ e ∷ more) × (more ++ two ≡ rest)) ⊎ ((later : Run) × (before ≡ one ++ later) × (two ≡ later ++ e ∷ rest))
stands_in [] two before rest e is = inr (before, refl, is)
stands_in (x ∷ one) two [] rest e is =
    inl (one, ap (λ (a : Step × Answer). a ∷ one) (first_same x e (one ++ two) rest is), rest_same x e (one ++ two) rest is)
stands_in (x ∷ one) two (y ∷ before) rest e is =
    let head = first_same x y (one ++ two) (before ++ e ∷ rest) is in
    elim (stands_in one two before rest e (rest_same x y (one ++ two) (before ++ e ∷ rest) is)) [
      | inl here ↦ inl (here.0, ap (λ (z : (Step × Answer) × Run). z.0 ∷ z.1) (λ i. (head i, here.1 i)), here.2)
      | inr there ↦ inr (
        there.0,
        ap (λ (z : (Step × Answer) × Run). z.0 ∷ z.1) (λ i. (sym head i, there.1 i)),
        there.2,
      )
    ]

or_mid : (a b c : Bool) → b ≡ true → (a || (b || c)) ≡ true
or_mid true b c is = refl
or_mid false b c is = ap (λ (x : Bool). x || c) is

or_left : (a b : Bool) → a ≡ true → (a || b) ≡ true
or_left a b is = ap (λ (x : Bool). x || b) is

or_right : (a b : Bool) → b ≡ true → (a || b) ≡ true
or_right true b is = refl
or_right false b is = is

kills_there : (before rest : Run) (e : Step × Answer) (v : ℕ) → e.0.action ≡ Kill v → has_kill (before ++ e ∷ rest) ≡ true
kills_there before rest e v kill =
    list_any-append (λ (x : Step × Answer). is_kill x.0.action) before (e ∷ rest)
    ∙ or_mid (has_kill before) (is_kill e.0.action) (has_kill rest) (ap is_kill kill)

-- ---- lists that begin with kills

-- the first step kills a group, or none does
abbrev KillsFirst : Run → Type 0
KillsFirst steps = (has_kill steps ≡ false) ⊎ (begins_with_kill steps ≡ true)

begins_so : (before rest : Run) (e : Step × Answer) → begins_with_kill (before ++ e ∷ rest) ≡ true → (before ≡ []) ⊎ (begins_with_kill before ≡ true)
begins_so [] rest e first = inl refl
begins_so (x ∷ before) rest e first = inr first

-- what leads up to a kill among such steps begins with a kill too
comes_at_once : (steps before rest : Run) (e : Step × Answer) (v : ℕ) → KillsFirst steps → steps ≡ before ++ e ∷ rest → e.0.action ≡ Kill v
    → (before ≡ []) ⊎ (begins_with_kill before ≡ true)
comes_at_once steps before rest e v (inl quiet) is kill = absurd (false≢true (sym quiet ∙ ap has_kill is ∙ kills_there before rest e v kill))
comes_at_once steps before rest e v (inr first) is kill = begins_so before rest e (sym (ap begins_with_kill is) ∙ first)

begins_longer : (one two : Run) → begins_with_kill one ≡ true → begins_with_kill (one ++ two) ≡ true
begins_longer [] two first = absurd (false≢true first)
begins_longer (x ∷ one) two first = first

subtree_first : (t : KnownTable) (g head : ℕ) (groups : List ℕ) (m : KnownMachine) (steps : Run) (n : KnownMachine) → KillsGroups t g groups m steps n
    → KillsFirst (steps ++ note_group_kill_steps head)
subtree_first t g head [] m steps n h = inl (ap (λ (k : Run). has_kill (k ++ note_group_kill_steps head)) h.1)
subtree_first t g head (v ∷ groups) m steps n h =
    let one : begins_with_kill h.first ≡ true = ap begins_with_kill h.kills.kills.steps_are in
    let all : begins_with_kill steps ≡ true = ap begins_with_kill h.steps_are ∙ begins_longer h.first h.later one in
    inr (begins_longer steps (note_group_kill_steps head) all)

set_first : (flag : Bool) (t : KnownTable) (g : ℕ) (killed : Killed) (m : KnownMachine) (steps : Run) (n : KnownMachine)
    → KillsRootOrVictim flag t g killed m steps n → KillsFirst steps
set_first true t g killed m steps n h =
    subst (λ (k : Run). KillsFirst k) (sym h.steps_are)
    (subtree_first t g killed.killed_root (alive_in_subtree m killed.killed_root)
    (with_note m (group_kill_note m killed.killed_root)) h.killing h.between h.kills)
set_first false t g killed m steps n h = inr (ap begins_with_kill h.kills.steps_are)

-- ---- what steps leave of the machine

-- the steps lead there, no unit came onto a list or changed its dirt, settings stay, and no usage rises
pub record Passes (t : KnownTable) (m : KnownMachine) (steps : Run) (n : KnownMachine) : Type 0 where
  pub runs : Makes t m steps n
  pub owners : (f : ℕ) → HeadsKeptUnit n f → owner_of (home_of n.links f) ≡ owner_of (home_of m.links f)
  pub dirt : (f : ℕ) → HeadsKeptUnit n f → (link_at n.links f).is_dirty ≡ (link_at m.links f).is_dirty
  pub settings : n.ledger.settings ≡ m.ledger.settings
  pub usage : (g : ℕ) → current_of n.ledger g ≤ current_of m.ledger g

pub passes_none : (t : KnownTable) (m : KnownMachine) → Passes t m [] m
passes_none t m = record { runs = makes_none t m; owners = λ f is. refl; dirt = λ f is. refl; settings = refl; usage = λ g. omega arith }

owned : (o was : Option Home) → o ≢ None → owner_of o ≡ owner_of was → was ≢ None
owned None was kept same none = kept refl
owned (Some h) was kept same none = none-some h.owner (sym (same ∙ ap owner_of none))

was_kept : (t : KnownTable) (m n : KnownMachine) (steps : Run) → Passes t m steps n → (f : ℕ) → home_of n.links f ≢ None → home_of m.links f ≢ None
was_kept t m n steps p f is = owned (home_of n.links f) (home_of m.links f) is (p.owners f is)

pub passes_both : (t : KnownTable) (m x n : KnownMachine) (one two : Run) → Passes t m one x → Passes t x two n → Passes t m (one ++ two) n
passes_both t m x n one two a b = record {
  runs = makes_both t one two m x n a.runs b.runs;
  owners = λ f is. b.owners f is ∙ a.owners f (was_kept t x n two b f is);
  dirt = λ f is. b.dirt f is ∙ a.dirt f (was_kept t x n two b f is);
  settings = b.settings ∙ a.settings;
  usage = λ g. let x = a.usage g in let y = b.usage g in omega (arith, x, y);
}

-- steps by which the lists stay
pub passes_same : (t : KnownTable) (m n : KnownMachine) (steps : Run) → Makes t m steps n → n.links ≡ m.links
    → n.ledger.settings ≡ m.ledger.settings → ((g : ℕ) → current_of n.ledger g ≤ current_of m.ledger g) → Passes t m steps n
passes_same t m n steps runs links settings usage = record {
  runs = runs;
  owners = λ f is. ap (λ (l : List Link). owner_of (home_of l f)) links;
  dirt = λ f is. ap (λ (l : List Link). (link_at l f).is_dirty) links;
  settings = settings;
  usage = usage;
}

-- ---- drains

-- the lists, the groups and their settings are the same
pub record SameUnits (m n : KnownMachine) : Type 0 where
  pub links : n.links ≡ m.links
  pub groups : n.ledger.groups ≡ m.ledger.groups
  pub settings : n.ledger.settings ≡ m.ledger.settings
  pub usage : (g : ℕ) → current_of n.ledger g ≤ current_of m.ledger g

pub drain_same : (t : KnownTable) (m n : KnownMachine) (q k : ℕ) → Drains t q k m n → SameUnits m n
drain_same t m n q k d = record {
  links = ap (λ (x : KnownMachine). x.links) d.machine;
  groups = ap (λ (x : KnownMachine). x.ledger.groups) d.machine ∙ groups_stay m.ledger (stock_group t m q) k;
  settings = ap (λ (x : KnownMachine). x.ledger.settings) d.machine ∙ settings_stay m.ledger (stock_group t m q) k;
  usage = λ g.
      let e : current_of n.ledger g ≡ current_of (uncharged m.ledger (stock_group t m q) k) g = ap (λ (x : KnownMachine). current_of x.ledger g) d.machine in
      let low = current_falls m.ledger (stock_group t m q) k g in
      omega (arith, e, low);
}

-- ---- rounds of reclaim

pub keeps_pass : (t : KnownTable) (m n : KnownMachine) (steps : Run) → Makes t m steps n → Keeps t m n → Passes t m steps n
keeps_pass t m n steps runs keeps = record { runs = runs; owners = keeps.owners; dirt = keeps.dirt; settings = keeps.settings; usage = keeps.usage }

-- ---- no kill too early, in a part of a call's steps

-- each kill among these steps of a call, which made other steps before them, comes when its group may be killed
abbrev pub RashFree : KnownTable → (List Group → ℕ → ℕ → Type 0) → KnownMachine → Run → Run → Type 0
RashFree t MayAsk start made steps =
    (before rest : Run) (e : Step × Answer) (group : ℕ) → steps ≡ before ++ e ∷ rest → e.0.action ≡ Kill group
    → MayKillAfter t MayAsk start (made ++ before) group rest

module _ (t : KnownTable) (MayAsk : List Group → ℕ → ℕ → Type 0) (s : KnownMachine) (held_there : IsHeld t s.run.past) where
  pub rash_quiet : (made steps : Run) → has_kill steps ≡ false → RashFree t MayAsk s made steps
  rash_quiet made steps quiet before rest e v is kill =
      absurd (false≢true (sym quiet ∙ ap has_kill is ∙ kills_there before rest e v kill))

  -- more steps come after
  may_longer : (before rest two : Run) (v : ℕ) → MayKillAfter t MayAsk s before v rest → MayKillAfter t MayAsk s before v (rest ++ two)
  may_longer before rest two v may = record {
    tried = may.tried;
    since = may.since;
    now = may.now;
    killed = may.killed;
    left = may.left;
    later = may.later ++ kills_in two;
    steps_are = may.steps_are;
    leads = may.leads;
    may = may.may;
    at_once = may.at_once;
    set_is = may.set_is;
    others_die =
        kills_both rest two ∙ ap (λ (k : List ℕ). k ++ kills_in two) may.others_die ∙ append_assoc may.left may.later (kills_in two);
  }

  pub rash_both : (made one two : Run) → RashFree t MayAsk s made one → RashFree t MayAsk s (made ++ one) two
      → RashFree t MayAsk s made (one ++ two)
  rash_both made one two first last before rest e v is kill = elim (stands_in one two before rest e is) [
    | inl here ↦
        subst (λ (r : Run). MayKillAfter t MayAsk s (made ++ before) v r) here.2
        (may_longer (made ++ before) here.0 two v (first before here.0 e v here.1 kill))
    | inr there ↦
        let same : (made ++ one) ++ there.0 ≡ made ++ before =
        append_assoc made one there.0 ∙ ap (λ (r : Run). made ++ r) (sym there.1) in
        subst (λ (done : Run). MayKillAfter t MayAsk s done v rest) same (last there.0 rest e v there.2 kill)
  ]

  -- the steps kill just the groups of a set, the first of them at once
  rash_set : (made steps : Run) (m : KnownMachine) (killed : Killed) → Makes t s made m
      → MayKill MayAsk (transition t s made m) killed → KillsFirst steps → kills_in steps ≡ kill_set m killed → RashFree t MayAsk s made steps
  rash_set made steps m killed runs may first these before rest e v is kill = record {
    tried = made;
    since = before;
    now = m;
    killed = killed;
    left = kills_in rest;
    later = [];
    steps_are = refl;
    leads = runs.leads;
    may = may;
    at_once = comes_at_once steps before rest e v first is kill;
    set_is = sym these ∙ ap kills_in is ∙ kills_both before (e ∷ rest)
        ∙ ap (λ (one : List ℕ). kills_in before ++ (one ++ kills_in rest)) (ap killed_by kill);
    others_die = sym (append-nil (kills_in rest));
  }

  -- what a part of the call's steps leaves, and that no kill among them is too early
  pub record Tame (made : Run) (m : KnownMachine) (steps : Run) (n : KnownMachine) : Type 0 where
    pub rash : RashFree t MayAsk s made steps
    pub passes : Passes t m steps n
    pub groups : n.ledger.groups ≡ m.ledger.groups

  pub tame_quiet : (made : Run) (m : KnownMachine) (steps : Run) (n : KnownMachine) → Passes t m steps n → n.ledger.groups ≡ m.ledger.groups
      → has_kill steps ≡ false → Tame made m steps n
  tame_quiet made m steps n passes groups quiet = record { rash = rash_quiet made steps quiet; passes = passes; groups = groups }

  pub tame_none : (made : Run) (m : KnownMachine) → Tame made m [] m
  tame_none made m = tame_quiet made m [] m (passes_none t m) refl refl

  pub tame_both : (made : Run) (m x n : KnownMachine) (one two : Run) → Tame made m one x → Tame (made ++ one) x two n → Tame made m (one ++ two) n
  tame_both made m x n one two a b = record {
    rash = rash_both made one two a.rash b.rash;
    passes = passes_both t m x n one two a.passes b.passes;
    groups = b.groups ∙ a.groups;
  }

  tame_stays : (made : Run) (m : KnownMachine) (steps : Run) (n : KnownMachine) → MachineStays (transition t m steps n) → Tame made m steps n
  tame_stays made m steps n h =
      subst (λ (z : Run × KnownMachine). Tame made m z.0 z.1) (λ i. (sym h.steps_are i, sym h.machine i)) (tame_none made m)

  -- ---- kills

  -- what makes the next kill one that may come
  pub record Ready (limited : ℕ) (made : Run) (m : KnownMachine) : Type 0 where
    pub since : Passes t s made m
    pub noted : has_oom_note limited made ≡ true
    pub drained : AreDrained t limited m
    pub missed : MissedAll limited s m

  noted_more : (g : ℕ) (one two : Run) → has_oom_note g one ≡ true → has_oom_note g (one ++ two) ≡ true
  noted_more g one two is =
      list_any-append (λ (e : Step × Answer). is_oom_note g e.0.action) one two ∙ or_left (has_oom_note g one) (has_oom_note g two) is

  noted_last : (g : ℕ) (one two : Run) → has_oom_note g two ≡ true → has_oom_note g (one ++ two) ≡ true
  noted_last g one two is =
      list_any-append (λ (e : Step × Answer). is_oom_note g e.0.action) one two ∙ or_right (has_oom_note g one) (has_oom_note g two) is

  is_kept : (o : Option Home) → o ≢ None → (h : Home) × (o ≡ Some h)
  is_kept None kept = absurd (kept refl)
  is_kept (Some h) kept = (h, refl)

  -- the steps of a victim's kill, with all who die with it
  kill_passes : (g : ℕ) (killed : Killed) (m n : KnownMachine) (kills : IsKilledBy t g killed m n) → OnlyReleases t m n → Passes t m kills.steps n
  kill_passes g killed m n kills keeps = record {
    runs = kills.runs;
    owners = λ f is.
        let there = is_kept (home_of n.links f) is in
        ap owner_of (there.1 ∙ sym (keeps.leaves f there.0 there.1));
    dirt = keeps.dirt;
    settings = keeps.settings;
    usage = keeps.usage;
  }

  still_drained : (g : ℕ) (m n : KnownMachine) → n.ledger.groups ≡ m.ledger.groups → OnlyDrains t m n → AreDrained t g m → AreDrained t g n
  still_drained g m n groups stocks drained q low high is =
      stocks.drained q (drained q low high
      (ap (λ (z : List Group × Option ℕ). of_subtree g z.0 z.1) (λ i. (sym groups i, sym (stocks.of q) i)) ∙ is))

  still_missed : (g : ℕ) (m n : KnownMachine) → OnlyReleases t m n → MissedAll g s m → MissedAll g s n
  still_missed g m n keeps missed other inside = elim (missed other (ap (λ (l : List Group). in_subtree l g other) (sym keeps.groups) ∙ inside)) [
    | inl all ↦ inl (λ f list is clean.
        let there = keeps.leaves f (record { owner = other; list = list }) is in
        let kept : home_of n.links f ≢ None = λ none. none-some (record { owner = other; list = list }) (sym none ∙ is) in
        let p = all f list there (sym (keeps.dirt f kept) ∙ clean) in
        let q = keeps.misses f in
        omega (arith, p, q))
    | inr spared ↦ inr (kept_still s.ledger s.ledger m.ledger n.ledger g other keeps.groups keeps.settings (λ h. omega arith) keeps.usage spared)
  ]

  ready_more : (r : Option ℕ) (g pages : ℕ) (killed : Killed) (made : Run) (m : KnownMachine) (steps : Run) (n : KnownMachine) → Ready g made m
      → (one : KillsOneVictim r g pages killed (transition t m steps n)) → Ready g (made ++ steps) n
  ready_more r g pages killed made m steps n ready one =
      let passes = subst (λ (k : Run). Passes t m k n) (sym one.steps_are) (kill_passes g killed m n one.kills one.keeps) in
      record {
        since = passes_both t s m n made steps ready.since passes;
        noted = noted_more g made steps ready.noted;
        drained = still_drained g m n one.keeps.groups one.stocks ready.drained;
        missed = still_missed g m n one.keeps ready.missed;
      }

  may_kill : (r : Option ℕ) (g pages : ℕ) (killed : Killed) (made : Run) (m : KnownMachine) (steps : Run) (n : KnownMachine)
      → t.choices.is_no_kill ≡ false → MayAsk m.ledger.groups g pages → Ready g made m → KillsOneVictim r g pages killed (transition t m steps n)
      → MayKill MayAsk (transition t s made m) killed
  may_kill r g pages killed made m steps n allowed asked ready one = record {
    limited = g;
    need = pages;
    allowed = allowed;
    asked = asked;
    over = one.needs_room.over;
    noted = ready.noted;
    drained = ready.drained;
    missed = ready.missed;
    chosen = one.chosen;
    killed_root_is = one.kills.killed_root_is;
    consistent = one.consistent;
    charges = one.charges;
    tied = record {
      misses = misses_after t s made m ready.since.runs held_there;
      owners = ready.since.owners;
      dirt = ready.since.dirt;
      settings = ready.since.settings;
    };
  }

  tame_one : (r : Option ℕ) (g pages : ℕ) (killed : Killed) (made : Run) (m : KnownMachine) (steps : Run) (n : KnownMachine)
      → t.choices.is_no_kill ≡ false → MayAsk m.ledger.groups g pages → Ready g made m → KillsOneVictim r g pages killed (transition t m steps n)
      → Tame made m steps n
  tame_one r g pages killed made m steps n allowed asked ready one =
      let may = may_kill r g pages killed made m steps n allowed asked ready one in
      let first = set_first (is_oom_group m.ledger.groups killed.killed_root) t g killed (with_note m (victim_note m g killed.victim one.kills.next))
      one.kills.steps n one.kills.kills in
      subst (λ (k : Run). Tame made m k n) (sym one.steps_are) (record {
        rash = rash_set made one.kills.steps m killed ready.since.runs may first one.kills.these.killed;
        passes = kill_passes g killed m n one.kills one.keeps;
        groups = one.keeps.groups;
      })

  tame_each : (r : Option ℕ) (g pages : ℕ) (victims : List Killed) (made : Run) (m : KnownMachine) (steps : Run) (n : KnownMachine)
      → t.choices.is_no_kill ≡ false → MayAsk m.ledger.groups g pages → Ready g made m → KillsVictims r g pages victims (transition t m steps n)
      → Tame made m steps n
  tame_each r g pages [] made m steps n allowed asked ready each = tame_stays made m steps n each
  tame_each r g pages (killed ∷ later) made m steps n allowed asked ready each =
      let x = each.between in
      let first = each.earlier in
      let one = tame_one r g pages killed made m first x allowed asked ready each.first in
      let still = subst (λ (l : List Group). MayAsk l g pages) (sym each.first.keeps.groups) asked in
      let rest = tame_each r g pages later (made ++ first) x each.later n allowed still (ready_more r g pages killed made m first x ready each.first) each.second in
      subst (λ (k : Run). Tame made m k n) (sym each.steps_are) (tame_both made m x n first each.later one rest)

  -- where each part of a CPU stays, each stock of the subtree stays drained
  pub drained_on : (g : ℕ) (m n : KnownMachine) → n.ledger.groups ≡ m.ledger.groups → ((q : ℕ) → part_at t n q ≡ part_at t m q) → AreDrained t g m → AreDrained t g n
  drained_on g m n groups stock drained q low high is =
      subst HasDrained (sym (stock q))
      (drained q low high (ap (λ (z : List Group × Part). of_subtree g z.0 z.1.stock.group) (λ i. (sym groups i, sym (stock q) i)) ∙ is))

  -- everything was tried, and one more `oom` is noted after that
  tame_victims : (r : Option ℕ) (g pages : ℕ) (made : Run) (m : KnownMachine) (steps : Run) (n : KnownMachine) → t.choices.is_no_kill ≡ false
      → MayAsk m.ledger.groups g pages → Passes t s made m → AreDrained t g m → MissedAll g s m → KillsUntilRoom r g pages (transition t m steps n) → Tame made m steps n
  tame_victims r g pages made m steps n allowed asked since drained missed h =
      let x = with_run (with_oom_noted_at m g) h.seen in
      let uses : (h : ℕ) → current_of x.ledger h ≡ current_of m.ledger h = usage-noted event.Oom m.ledger.groups m.ledger.accounts g in
      let note = passes_same t m x (note_oom_steps g) h.notes refl refl (λ h. let e = uses h in omega (arith, e)) in
      let here = held_after t s made m since.runs held_there in
      let ready : Ready g (made ++ note_oom_steps g) x = record {
        since = passes_both t s m x made (note_oom_steps g) since note;
        noted = noted_last g made (note_oom_steps g) (or_left (g == g) false (eq-eqb g g refl));
        drained = drained_on g m x refl (λ q. parts_after t m (note_oom_steps g) x h.notes here q refl) drained;
        missed = λ other inside. elim (missed other inside) [
          | inl all ↦ inl (λ f list is clean.
              let p = all f list is clean in
              let q = misses_after t m (note_oom_steps g) x h.notes here f in
              omega (arith, p, q))
          | inr spared ↦
              inr (kept_still s.ledger s.ledger m.ledger x.ledger g other refl refl (λ h. omega arith) (λ h. let e = uses h in omega (arith, e)) spared)
        ];
      } in
      subst (λ (k : Run). Tame made m k n) (sym h.steps_are) (tame_both made m x n (note_oom_steps g) h.killing
      (tame_quiet made m (note_oom_steps g) x note refl refl)
      (tame_each r g pages h.victims (made ++ note_oom_steps g) x h.killing n allowed asked ready h.kills))

  pub tame_kills : (r : Option ℕ) (g pages : ℕ) (made : Run) (m : KnownMachine) (steps : Run) (n : KnownMachine) → t.choices.is_no_kill ≡ false
      → MayAsk m.ledger.groups g pages → Passes t s made m → AreDrained t g m → (has_room_at m.ledger g pages ≡ false → MissedAll g s m)
      → KillsForRoom r g pages (transition t m steps n) → Tame made m steps n
  tame_kills r g pages made m steps n allowed asked since drained missed h = elim (cases_Bool (has_room_at m.ledger g pages)) [
    | inl room ↦ tame_stays made m steps n (h.room room)
    | inr over ↦ tame_victims r g pages made m steps n allowed asked since drained (missed over) (h.over over)
  ]

  -- kills that the boot may not allow
  pub unless_tame : (no_kill : Bool) → t.choices.is_no_kill ≡ no_kill → (Kills : Transition KnownMachine → Type 0) (made : Run) (m : KnownMachine) (steps : Run) (n : KnownMachine)
      → (t.choices.is_no_kill ≡ false → Kills (transition t m steps n) → Tame made m steps n) → UnlessNoKill no_kill Kills (transition t m steps n)
      → Tame made m steps n
  unless_tame false is Kills made m steps n tame h = tame is h
  unless_tame true is Kills made m steps n tame h = tame_stays made m steps n h

  -- ---- a limit without room

  pub missed_since : (g : ℕ) (made : Run) (m n : KnownMachine) → Passes t s made m → MissedAll g m n → MissedAll g s n
  missed_since g made m n since missed other inside = elim (missed other inside) [
    | inl all ↦ inl (λ f list is clean.
        let p = all f list is clean in
        let q = misses_after t s made m since.runs held_there f in
        omega (arith, p, q))
    | inr spared ↦ inr (kept_still s.ledger m.ledger n.ledger n.ledger g other refl refl since.usage (λ h. omega arith) spared)
  ]

  clears_tame : (g pages : ℕ) (made : Run) (m : KnownMachine) (steps : Run) (n : KnownMachine) → ClearsBelow g pages (transition t m steps n) → Tame made m steps n
  clears_tame g pages made m steps n h =
      let same = drains_leave t (of_subtree g) t.cpus (with_run (with_max_noted_at m g pages) h.seen) n h.drains h.all in
      tame_quiet made m steps n (passes_same t m n steps h.runs same.links same.settings (λ h. let low = same.usage h in let e = usage-noted event.Max m.ledger.groups m.ledger.accounts g h in omega (arith, low, e))) same.groups (ap has_kill h.steps_are ∙ (quiet_drains h.drains).no_kill)

  reclaims_tame : (g pages : ℕ) (made : Run) (m : KnownMachine) (steps : Run) (n : KnownMachine) → ReclaimsFor g pages (transition t m steps n)
      → Tame made m steps n
  reclaims_tame g pages made m steps n h =
      tame_quiet made m steps n (keeps_pass t m n steps h.moves.runs h.keeps) h.keeps.groups h.moves.no_kill

  few_tame : (r g pages : ℕ) (made : Run) (m : KnownMachine) (steps : Run) (n : KnownMachine) → t.choices.is_no_kill ≡ false → (pages ≤ 8 → MayAsk m.ledger.groups g pages)
      → Passes t s made m → AreDrained t g m → (has_room_at m.ledger g pages ≡ false → MissedAll g s m)
      → KillsForFewPages r g pages (transition t m steps n) → Tame made m steps n
  few_tame r g pages made m steps n allowed asked since drained missed h = elim (cases_lt 8 pages) [
    | inl many ↦ tame_stays made m steps n (h.many many)
    | inr few ↦ tame_kills (Some r) g pages made m steps n allowed (asked few) since drained missed (h.few few)
  ]

  relieves_tame : (r g pages : ℕ) (made : Run) (m : KnownMachine) (steps : Run) (n : KnownMachine) → (pages ≤ 8 → MayAsk m.ledger.groups g pages)
      → Passes t s made m → RelievesLimit r g pages (transition t m steps n) → Tame made m steps n
  relieves_tame r g pages made m steps n asked since h =
      let x = h.between in
      let next = h.second in
      let y = next.between in
      let one = clears_tame g pages made m h.earlier x h.first in
      let after_one = passes_both t s m x made h.earlier since one.passes in
      let two = reclaims_tame g pages (made ++ h.earlier) x next.earlier y next.first in
      let after_two = passes_both t s x y (made ++ h.earlier) next.earlier after_one two.passes in
      let drained = drained_on g x y next.first.keeps.groups next.first.keeps.stocks h.first.drained in
      let still = λ (few : pages ≤ 8). subst (λ (l : List Group). MayAsk l g pages) (sym (two.groups ∙ one.groups)) (asked few) in
      let done = (made ++ h.earlier) ++ next.earlier in
      let three = unless_tame t.choices.is_no_kill refl (KillsForFewPages r g pages) done y next.later n
      (λ allowed kills. few_tame r g pages done y next.later n allowed still after_two drained
      (λ over. missed_since g (made ++ h.earlier) x y after_one (next.first.missed over)) kills) next.second in
      let rest = subst (λ (k : Run). Tame (made ++ h.earlier) x k n) (sym next.steps_are)
      (tame_both (made ++ h.earlier) x y n next.earlier next.later two three) in
      subst (λ (k : Run). Tame made m k n) (sym h.steps_are) (tame_both made m x n h.earlier h.later one rest)

  -- ---- charges of this many pages to the group, which may ask for these limits

  module _ (g pages : ℕ) (base : List Group) (asks : (over : ℕ) → in_subtree base over g ≡ true → pages ≤ 8 → MayAsk base over pages) where
    -- the charge is refused, and the named group has room afterwards or not
    refused_tame : (over : ℕ) (answer : Result (Unit {0}) AllocFault) (made : Run) (m : KnownMachine) (steps : Run) (n : KnownMachine) → m.ledger.groups ≡ base → Passes t s made m
        → IsRefusedAt g over pages answer (transition t m steps n) → Tame made m steps n
    refused_tame over answer made m steps n is since h =
        let first = over_steps g pages over in
        let x = with_run m h.seen in
        let refused = passes_same t m x first h.refuses refl refl (λ h. omega arith) in
        let here : in_subtree base over g ≡ true = ap (λ (l : List Group). in_subtree l over g) (sym is) ∙ h.lowest.on_path in
        let asked = λ (few : pages ≤ 8). subst (λ (l : List Group). MayAsk l over pages) (sym is) (asks over here few) in
        let relieved = relieves_tame g over pages (made ++ first) x h.relieving n asked (passes_both t s m x made first since refused) h.relieves in
        subst (λ (k : Run). Tame made m k n) (sym h.steps_are) (tame_both made m x n first h.relieving (tame_quiet made m first x refused refl refl) relieved)

    pub makes_tame : (refused : List ℕ) (made : Run) (m : KnownMachine) (steps : Run) (n : KnownMachine) → m.ledger.groups ≡ base → Passes t s made m
        → MakesRoom g refused pages (transition t m steps n) → Tame made m steps n
    makes_tame [] made m steps n is since h =
        subst (λ (y : Run × KnownMachine). Tame made m y.0 y.1) (λ i. (sym h.steps_are i, sym h.machine i)) (tame_none made m)
    makes_tame (over ∷ later) made m steps n is since h =
        let x = h.between in
        let first = h.earlier in
        let one = refused_tame over (Ok tt) made m first x is since h.first in
        let two = makes_tame later (made ++ first) x h.later n (one.groups ∙ is) (passes_both t s m x made first since one.passes) h.second in
        subst (λ (k : Run). Tame made m k n) (sym h.steps_are) (tame_both made m x n first h.later one two)

    prepares_tame : (refused : List ℕ) (made : Run) (m : KnownMachine) (steps : Run) (n : KnownMachine) → m.ledger.groups ≡ base → Passes t s made m
        → PreparesCharge g refused pages (transition t m steps n) → Tame made m steps n
    prepares_tame refused made m steps n is since h =
        let x = h.between in
        let one = tame_quiet made m h.earlier x (keeps_pass t m x h.earlier h.first.runs h.first.keeps) h.first.keeps.groups h.first.no_kill in
        let two = makes_tame refused (made ++ h.earlier) x h.later n (one.groups ∙ is) (passes_both t s m x made h.earlier since one.passes) h.second in
        subst (λ (k : Run). Tame made m k n) (sym h.steps_are) (tame_both made m x n h.earlier h.later one two)

    -- this is done after room was made for the charge, and comes no kill of it too early
    pub after_room_rash : (Does : Transition VisitState → Type 0) (made : Run) (m : KnownMachine) (c : KnownCpuLists) (steps : Run) (n : VisitState) → m.ledger.groups ≡ base
        → Passes t s made m
        → ((done later : Run) (x : KnownMachine) → x.ledger.groups ≡ base → Passes t s done x
        → Does (transition t (visit_state x c) later n) → RashFree t MayAsk s done later)
        → AfterRoom g pages Does (transition t (visit_state m c) steps n) → RashFree t MayAsk s made steps
    after_room_rash Does made m c steps n is since free h =
        let x = h.cleared in
        let one = prepares_tame h.refused_at made m h.making x is since h.makes in
        let done = passes_both t s m x made h.making since one.passes in
        subst (λ (k : Run). RashFree t MayAsk s made k) (sym h.steps_are) (rash_both made h.making h.later one.rash
        (free (made ++ h.making) h.later x (one.groups ∙ is) done h.does))

    -- the same if what is done after that kills nobody
    pub quiet_after_room : (Does : Transition VisitState → Type 0) (made : Run) (m : KnownMachine) (c : KnownCpuLists) (steps : Run) (n : VisitState) → m.ledger.groups ≡ base
        → Passes t s made m → ((call : Transition VisitState) → Does call → has_kill call.steps ≡ false)
        → AfterRoom g pages Does (transition t (visit_state m c) steps n) → RashFree t MayAsk s made steps
    quiet_after_room Does made m c steps n is since quiet h =
        after_room_rash Does made m c steps n is since
        (λ done later x groups passes does. rash_quiet done later (quiet (transition t (visit_state x c) later n) does)) h

    -- the same if the charge is refused for good
    pub refusal_rash : (cause : AllocFault) (made : Run) (m : KnownMachine) (c : KnownCpuLists) (steps : Run) (n : VisitState) → m.ledger.groups ≡ base
        → Passes t s made m → IsRefusedFor g pages cause (transition t (visit_state m c) steps n)
        → RashFree t MayAsk s made steps
    refusal_rash cause made m c steps n is since h =
        after_room_rash (OfMachineAlone (IsRefusedAtSome g pages cause)) made m c steps n is since
        (λ done later x groups passes does.
        (refused_tame does.does.0 (Err cause) done x later n.machine groups passes does.does.1).rash) h
