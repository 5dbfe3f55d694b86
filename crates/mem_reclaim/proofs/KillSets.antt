-- Several groups that are killed, one after the other, and the notes around their kills. Serves `kill_noted`,
-- `kill_below`, `kill_subtree` and `kill`.
use Rattle.std.proofs.Common.{◌≡◌, ℕ, ◌+◌, ◌≤◌, Bool, true, false, Option, List, [], ◌∷◌, ◌++◌, cond, refl, sym, ap, ◌∙◌, subst, arith, inl, inr}
use Rattle.std.proofs.Common.{All, ◌&&◌}
use Rattle.std.specs.Prelude.{not, slice_set}
use Rattle.std.proofs.lemmas.Bool.{and_parts, or_parts, true≢false}
use Rattle.std.proofs.lemmas.List.{append_assoc, append-nil, get_or-set_other}
use Rattle.std.proofs.lemmas.List.Elements.{All-append, All-cons, All-nil}
use Rattle.std.proofs.lemmas.List.Sums.{fold-append}
use Rattle.group_tree.specs.Groups.{room_of}
use Rattle.group_tree.specs.Groups.{in_subtree, is_oom_group}
use Rattle.group_charge.specs.Charges.{current_of, with_group_kill_noted}
use Rattle.step_rules.specs.declared.step.Action.{Action}
use Rattle.step_rules.specs.declared.step.Action.TheVariants as action
use Rattle.step_rules.specs.{Run, is_of_group, Part}
use Rattle.group_charge.specs.declared.note.Note.{Note}
use Rattle.group_charge.specs.Notes.{noted}
use Rattle.boot_words.specs.Tables.{KnownTable}
use Rattle.mem_machine.specs.{KnownMachine, is_killed, part_at, with_note, Makes, StaysVisited, kill_steps, note_group_kill_steps, AreOwnDrained}
use Rattle.mem_machine.specs.{HasDrained}
use Rattle.boot_words.specs.Pasts.{IsHeld}
use Rattle.mem_machine.proofs.Made.{visit_same}
use Rattle.mem_reclaim.proofs.Grown.{held_after, missed_append, parts_after}
use Rattle.mem_machine.proofs.Followed.{makes_both, makes_none}
use Rattle.mem_reclaim.specs.declared.noting.CountsBeforeKill.{CountsBeforeKill}
use Rattle.mem_reclaim.specs.declared.sets.Killed.{Killed}
use Rattle.mem_reclaim.specs.{HasNoKeptUnit, IsKilledBy, KillsGroups, KillsRootOrVictim, KillsGroupBySteps, KillsGroupNoted, KillsGroupsBySteps}
use Rattle.mem_reclaim.specs.{KillsSubtree, AreKillsOf, OnlyDrains, OnlyReleases, counts_before_kill, killed_note, with_all_killed, NotesVictim}
use Rattle.mem_reclaim.specs.{Rises, has_kill, is_kill, killed_by, kills_in, missed_in, returned_in, HasNoFlagged, IsKilledRoot, IsHighestFlagged}
use Rattle.mem_reclaim.specs.{alive_in_subtree, group_kill_note, kill_set, OnlyLeave, may_be_killed, victim_note}
use Rattle.mem_reclaim.proofs.KilledRoots.{on_path_is, victim_unflagged}
use Rattle.mem_reclaim.proofs.Alive.{alive_more, alive_same, alive_to}
use Rattle.mem_reclaim.proofs.LettingGo.{only_lets_both, only_lets_none, only_lets_same}
use Rattle.mem_reclaim.proofs.Rising.{returned_both, rises_both, rises_none}

-- ---- whom steps kill

pub kills_both : (one two : Run) → kills_in (one ++ two) ≡ kills_in one ++ kills_in two
kills_both [] two = refl
kills_both (e ∷ rest) two =
    ap (λ (l : List ℕ). killed_by e.0.action ++ l) (kills_both rest two) ∙ sym (append_assoc (killed_by e.0.action) (kills_in rest) (kills_in two))

kills_nobody : (a : Action) → is_kill a ≡ false → killed_by a ≡ []
kills_nobody (action.Kill g) odd = absurd (true≢false odd)
kills_nobody a quiet = refl

pub quiet_kills : (steps : Run) → has_kill steps ≡ false → kills_in steps ≡ []
quiet_kills [] quiet = refl
quiet_kills (e ∷ rest) quiet =
    let p = or_parts (is_kill e.0.action) (has_kill rest) quiet in
    ap (λ (l : List ℕ). l ++ kills_in rest) (kills_nobody e.0.action p.0) ∙ quiet_kills rest p.1

these_none : (m : KnownMachine) → AreKillsOf [] m [] m
these_none m = record { killed = refl; no_miss = λ f. refl; returned = rises_none m.counts.last_puts m.counts.last_puts refl }

these_both : (first last : List ℕ) (a b c : KnownMachine) (one two : Run) → AreKillsOf first a one b → AreKillsOf last b two c
    → AreKillsOf (first ++ last) a (one ++ two) c
these_both first last a b c one two p q = record {
  killed = kills_both one two ∙ (λ i. p.killed i ++ q.killed i);
  no_miss = λ f. let x = p.no_miss f in let y = q.no_miss f in let z = missed_append f one two in omega (arith, x, y, z);
  returned = subst (λ (k : ℕ). Rises a.counts.last_puts k c.counts.last_puts) (sym (returned_both one two))
      (rises_both a.counts.last_puts b.counts.last_puts c.counts.last_puts (returned_in one) (returned_in two) p.returned q.returned);
}

-- ---- what is so of each group that was killed, and stays so

own_still : (t : KnownTable) (g : ℕ) (b n : KnownMachine) → AreOwnDrained t g b → OnlyDrains t b n → AreOwnDrained t g n
own_still t g b n drained stocks = λ q some few of.
    stocks.drained q (drained q some few (ap (λ (o : Option ℕ). is_of_group o g) (sym (stocks.of q)) ∙ of))

none_still : (g : ℕ) (b n : KnownMachine) → HasNoKeptUnit g b → OnlyLeave b n → HasNoKeptUnit g n
none_still g b n none leaves = λ f h home. none f h (leaves f h home)

drains_both : (t : KnownTable) (a b c : KnownMachine) → OnlyDrains t a b → OnlyDrains t b c → OnlyDrains t a c
drains_both t a b c p q = record { of = λ x. q.of x ∙ p.of x; drained = λ x is. q.drained x (p.drained x is) }

pub all_one : (P : ℕ → Type 0) (g : ℕ) → P g → All P (g ∷ [])
all_one P g here = All-cons P g [] here (All-nil P)

-- ---- groups that are killed

-- exactly these groups were killed, as `Kills` says; and what that leaves
pub record KilledSo (t : KnownTable) (groups : List ℕ) (Kills : KnownMachine → Run → KnownMachine → Type 0) (m n : KnownMachine) : Type 0 where
  pub kills : KillsGroupsBySteps t groups Kills m n
  pub marked : n.killed ≡ with_all_killed m.killed groups
  pub drained : All (λ g. AreOwnDrained t g n) groups
  pub stocks : OnlyDrains t m n
  pub none_kept : All (λ g. HasNoKeptUnit g n) groups
  pub keeps : OnlyReleases t m n

-- ---- one group, and the note after its kill

-- a note changes nothing that a kill keeps
pub lets_before_note : (t : KnownTable) (m b : KnownMachine) (last : Note) → OnlyReleases t m b → OnlyReleases t m (with_note b last)
lets_before_note t m b last k = record {
  groups = k.groups;
  settings = k.settings;
  usage = k.usage;
  visit = λ c v. visit_same t b (with_note b last) c refl (k.visit c v);
  leaves = k.leaves;
  dirt = k.dirt;
  misses = k.misses;
}

pub lets_after_note : (t : KnownTable) (m n : KnownMachine) (first : Note) → OnlyReleases t (with_note m first) n → OnlyReleases t m n
lets_after_note t m n first k = record {
  groups = k.groups;
  settings = k.settings;
  usage = k.usage;
  visit = λ c v. k.visit c (visit_same t m (with_note m first) c refl v);
  leaves = k.leaves;
  dirt = k.dirt;
  misses = k.misses;
}

-- a group was killed, and that was noted
pub record OneKilled (t : KnownTable) (limited g : ℕ) (m n : KnownMachine) : Type 0 where
  pub kills : KillsGroupsBySteps t (g ∷ []) (KillsGroupNoted t limited g) m n
  pub marked : n.killed ≡ slice_set m.killed g true
  pub drained : AreOwnDrained t g n
  pub stocks : OnlyDrains t m n
  pub none_kept : HasNoKeptUnit g n
  pub keeps : OnlyReleases t m n

pub one_so : (t : KnownTable) (limited g : ℕ) (m n : KnownMachine) → OneKilled t limited g m n → KilledSo t (g ∷ []) (KillsGroupNoted t limited g) m n
one_so t limited g m n one = record {
  kills = one.kills;
  marked = one.marked;
  drained = all_one (λ (x : ℕ). AreOwnDrained t x n) g one.drained;
  stocks = one.stocks;
  none_kept = all_one (λ (x : ℕ). HasNoKeptUnit x n) g one.none_kept;
  keeps = one.keeps;
}

pub one_killed : (t : KnownTable) (limited g : ℕ) (m b n : KnownMachine) (had : CountsBeforeKill) → had ≡ counts_before_kill m g → KillsGroupBySteps t g m b
    → b.killed ≡ slice_set m.killed g true → AreOwnDrained t g b → OnlyDrains t m b → HasNoKeptUnit g b → OnlyReleases t m b
    → n ≡ with_note b (killed_note limited g had b) → OneKilled t limited g m n
one_killed t limited g m b n had had_is kills marked drained stocks none_kept keeps noted_had =
    let last : Note = killed_note limited g (counts_before_kill m g) b in
    let noted : n ≡ with_note b last = noted_had ∙ ap (λ (h : CountsBeforeKill). with_note b (killed_note limited g h b)) had_is in
    let once = kills.once in
    subst (λ (x : KnownMachine). OneKilled t limited g m x) (sym noted) (record {
      kills = record {
        steps = kills.steps;
        kills = record { killed = b; kills = kills.kills; noted = refl };
        runs = record { holder = kills.runs.holder; leads = kills.runs.leads; follows = kills.runs.follows; counts = kills.runs.counts; noted = kills.runs.noted };
        these = record {
          killed = ap kills_in once.front ∙ ap (λ (l : List ℕ). g ∷ l) (quiet_kills once.later once.no_kill);
          no_miss = λ f.
              let front : missed_in f kills.steps ≡ missed_in f (kill_steps g ++ once.later) = ap (missed_in f) once.front in
              let parts = missed_append f (kill_steps g) once.later in
              let first : missed_in f (kill_steps g) ≡ 0 = refl in
              let later = once.no_miss f in
              omega (arith, front, parts, first, later);
          returned =
              let front : returned_in kills.steps ≡ returned_in (kill_steps g ++ once.later) = ap returned_in once.front in
              let parts = returned_both (kill_steps g) once.later in
              let first : returned_in (kill_steps g) ≡ 0 = refl in
              let all : returned_in once.later ≡ returned_in kills.steps = omega (arith, front, parts, first) in
              subst (λ (k : ℕ). Rises m.counts.last_puts k b.counts.last_puts) all once.returned;
        };
      };
      marked = marked;
      drained = drained;
      stocks = record { of = stocks.of; drained = stocks.drained };
      none_kept = none_kept;
      keeps = lets_before_note t m b last keeps;
    })

-- ---- one group after another

kills_all_more : (t : KnownTable) (limited : ℕ) (groups : List ℕ) (g : ℕ) (m b n : KnownMachine) (one two : Run) → KillsGroups t limited groups m one b
    → KillsGroupNoted t limited g b two n → KillsGroups t limited (groups ++ g ∷ []) m (one ++ two) n
kills_all_more t limited [] g m b n one two all last = record {
  between = n;
  first = two;
  later = [];
  kills = subst (λ (x : KnownMachine). KillsGroupNoted t limited g x two n) all.0 last;
  others = (refl, refl);
  steps_are = ap (λ (r : Run). r ++ two) all.1 ∙ sym (append-nil two);
}
kills_all_more t limited (h ∷ groups) g m b n one two all last = record {
  between = all.between;
  first = all.first;
  later = all.later ++ two;
  kills = all.kills;
  others = kills_all_more t limited groups g all.between b n all.later two all.others last;
  steps_are = ap (λ (r : Run). r ++ two) all.steps_are ∙ append_assoc all.first all.later two;
}

set_none : (t : KnownTable) (limited : ℕ) (m : KnownMachine) → KilledSo t [] (KillsGroups t limited []) m m
set_none t limited m = record {
  kills = record { steps = []; kills = (refl, refl); runs = makes_none t m; these = these_none m };
  marked = refl;
  drained = All-nil (λ (g : ℕ). AreOwnDrained t g m);
  stocks = record { of = λ p. refl; drained = λ p is. is };
  none_kept = All-nil (λ (g : ℕ). HasNoKeptUnit g m);
  keeps = only_lets_none t m;
}

set_more : (t : KnownTable) (limited : ℕ) (groups : List ℕ) (g : ℕ) (m b n : KnownMachine) → KilledSo t groups (KillsGroups t limited groups) m b
    → KilledSo t (g ∷ []) (KillsGroupNoted t limited g) b n → KilledSo t (groups ++ g ∷ []) (KillsGroups t limited (groups ++ g ∷ [])) m n
set_more t limited groups g m b n so one = record {
  kills = record {
    steps = so.kills.steps ++ one.kills.steps;
    kills = kills_all_more t limited groups g m b n so.kills.steps one.kills.steps so.kills.kills one.kills.kills;
    runs = makes_both t so.kills.steps one.kills.steps m b n so.kills.runs one.kills.runs;
    these = these_both groups (g ∷ []) m b n so.kills.steps one.kills.steps so.kills.these one.kills.these;
  };
  marked = one.marked ∙ ap (λ (k : List Bool). with_all_killed k (g ∷ [])) so.marked
      ∙ sym (fold-append (λ (old : List Bool) (x : ℕ). slice_set old x true) m.killed groups (g ∷ []));
  drained = All-append (λ (x : ℕ). AreOwnDrained t x n) groups (g ∷ [])
      (λ k d lt. own_still t _ b n (so.drained k d lt) one.stocks) one.drained;
  stocks = drains_both t m b n so.stocks one.stocks;
  none_kept = All-append (λ (x : ℕ). HasNoKeptUnit x n) groups (g ∷ []) (λ k d lt. none_still _ b n (so.none_kept k d lt) one.keeps.leaves)
      one.none_kept;
  keeps = only_lets_both t m b n so.keeps one.keeps;
}

-- ---- the groups of a subtree, by ascending number

-- those with a number below k were killed; the others are marked or not as they were
pub record KilledSoFar (t : KnownTable) (limited root : ℕ) (m : KnownMachine) (k : ℕ) (now : KnownMachine) : Type 0 where
  pub so : KilledSo t (alive_to m root k) (KillsGroups t limited (alive_to m root k)) m now
  pub alive : (j : ℕ) → k ≤ j → is_killed now.killed j ≡ is_killed m.killed j

pub below_first : (t : KnownTable) (limited root : ℕ) (m : KnownMachine) → KilledSoFar t limited root m 0 m
below_first t limited root m = record { so = set_none t limited m; alive = λ j le. refl }

may_still : (t : KnownTable) (limited root : ℕ) (m : KnownMachine) (k : ℕ) (now : KnownMachine) → KilledSoFar t limited root m k now
    → may_be_killed m root k ≡ may_be_killed now root k
may_still t limited root m k now s =
    let alive = s.alive k (omega arith) in
    let groups = s.so.keeps.groups in
    (λ i. in_subtree (sym groups i) root k && not (sym alive i))

-- group k isn't there, is outside or is killed
pub below_same : (t : KnownTable) (limited root : ℕ) (m : KnownMachine) (k : ℕ) (now : KnownMachine) → KilledSoFar t limited root m k now
    → may_be_killed now root k ≡ false → KilledSoFar t limited root m (k + 1) now
below_same t limited root m k now s dead =
    let same = alive_same m root k (may_still t limited root m k now s ∙ dead) in
    record {
      so = subst (λ (l : List ℕ). KilledSo t l (KillsGroups t limited l) m now) (sym same) s.so;
      alive = λ j le. s.alive j (omega (arith, le));
    }

-- group k is killed
pub below_more : (t : KnownTable) (limited root : ℕ) (m : KnownMachine) (k : ℕ) (now : KnownMachine) → KilledSoFar t limited root m k now
    → may_be_killed now root k ≡ true → (n : KnownMachine) → OneKilled t limited k now n → KilledSoFar t limited root m (k + 1) n
below_more t limited root m k now s may n one =
    let more = alive_more m root k (may_still t limited root m k now s ∙ may) in
    record {
      so = subst (λ (l : List ℕ). KilledSo t l (KillsGroups t limited l) m n) (sym more)
          (set_more t limited (alive_to m root k) k m now n s.so (one_so t limited k now n one));
      alive = λ j le.
          ap (λ (l : List Bool). is_killed l j) one.marked
          ∙ get_or-set_other now.killed k j true false (λ e. absurd (omega (arith, le, e)))
          ∙ s.alive j (omega (arith, le));
    }

pub below_all : (t : KnownTable) (limited root : ℕ) (m : KnownMachine) (k : ℕ) (now : KnownMachine) → KilledSoFar t limited root m k now → k ≡ room_of m.ledger.groups
    → KilledSo t (alive_in_subtree m root) (KillsGroups t limited (alive_in_subtree m root)) m now
below_all t limited root m k now s all = subst (λ (x : ℕ). KilledSo t (alive_to m root x) (KillsGroups t limited (alive_to m root x)) m now) all s.so

-- ---- a subtree between its note and its count

pub subtree_killed : (t : KnownTable) (limited root : ℕ) (m a b n : KnownMachine) → a ≡ with_note m (group_kill_note m root)
    → KilledSo t (alive_in_subtree a root) (KillsGroups t limited (alive_in_subtree a root)) a b
    → n ≡ record b { ledger = with_group_kill_noted b.ledger root; run = n.run } → ((g : ℕ) → current_of n.ledger g ≡ current_of b.ledger g)
    → Makes t b (note_group_kill_steps root) n → StaysVisited t b n → IsHeld t m.run.past
    → KilledSo t (alive_in_subtree m root) (KillsSubtree t limited root) m n
subtree_killed t limited root m a b n noted so_a counted usage runs visit held =
    let note : Note = group_kill_note m root in
    let so : KilledSo t (alive_in_subtree m root) (KillsGroups t limited (alive_in_subtree m root)) (with_note m note) b =
    subst (λ (x : KnownMachine). KilledSo t (alive_in_subtree x root) (KillsGroups t limited (alive_in_subtree x root)) x b) noted so_a in
    let killing : Run = so.kills.steps in
    let these = so.kills.these in
    let held_then = held_after t (with_note m note) killing b so.kills.runs held in
    let kept : (p : ℕ) → part_at t n p ≡ part_at t b p = λ p. parts_after t b (note_group_kill_steps root) n runs held_then p refl in
    let still : OnlyDrains t b n = record {
      of = λ p. ap (λ (x : Part). x.stock.group) (kept p);
      drained = λ p was. subst HasDrained (sym (kept p)) was;
    } in
    record {
      kills = record {
        steps = killing ++ note_group_kill_steps root;
        kills = record { between = b; killing = killing; kills = so.kills.kills; counted = counted; steps_are = refl };
        runs = makes_both t killing (note_group_kill_steps root) m b n
            (record { holder = so.kills.runs.holder; leads = so.kills.runs.leads; follows = so.kills.runs.follows; counts = so.kills.runs.counts; noted = so.kills.runs.noted }) runs;
        these = record {
          killed = kills_both killing (note_group_kill_steps root) ∙ append-nil (kills_in killing) ∙ these.killed;
          no_miss = λ f.
              let x = these.no_miss f in
              let y : missed_in f (note_group_kill_steps root) ≡ 0 = refl in
              let z = missed_append f killing (note_group_kill_steps root) in
              omega (arith, x, y, z);
          returned =
              let y : returned_in (note_group_kill_steps root) ≡ 0 = refl in
              let z = returned_both killing (note_group_kill_steps root) in
              let all : returned_in killing ≡ returned_in (killing ++ note_group_kill_steps root) = omega (arith, y, z) in
              subst (λ (x : KnownMachine). Rises m.counts.last_puts (returned_in (killing ++ note_group_kill_steps root)) x.counts.last_puts) (sym counted)
              (subst (λ (k : ℕ). Rises m.counts.last_puts k b.counts.last_puts) all these.returned);
        };
      };
      marked = ap (λ (x : KnownMachine). x.killed) counted ∙ so.marked;
      drained = λ k d lt. own_still t _ b n (so.drained k d lt) still;
      stocks = drains_both t m b n (record { of = so.stocks.of; drained = so.stocks.drained }) still;
      none_kept = subst (λ (x : KnownMachine). All (λ (g : ℕ). HasNoKeptUnit g x) (alive_in_subtree m root)) (sym counted)
          (λ k d lt. so.none_kept k d lt);
      keeps = only_lets_both t m b n (lets_after_note t m b note so.keeps)
          (only_lets_same t b (note_group_kill_steps root) n runs held_then
          (ap (λ (x : KnownMachine). x.ledger.groups) counted) (ap (λ (x : KnownMachine). x.ledger.settings) counted) (λ g. let e = usage g in omega (arith, e))
          (ap (λ (x : KnownMachine). x.links) counted) visit (λ f. refl));
    }

-- ---- the victim, and all that die with it

-- who is killed, by whether a flag applies
abbrev pub set_if : Bool → KnownMachine → Killed → List ℕ
set_if flag machine killed = cond flag (alive_in_subtree machine killed.killed_root) (killed.victim ∷ [])

pub record VictimKilled (t : KnownTable) (limited : ℕ) (killed : Killed) (m n : KnownMachine) : Type 0 where
  pub kills : IsKilledBy t limited killed m n
  pub marked : n.killed ≡ with_all_killed m.killed (kill_set m killed)
  pub drained : All (λ g. AreOwnDrained t g n) (kill_set m killed)
  pub stocks : OnlyDrains t m n
  pub none_kept : All (λ g. HasNoKeptUnit g n) (kill_set m killed)
  pub keeps : OnlyReleases t m n

pub victim_killed : (t : KnownTable) (limited : ℕ) (killed : Killed) (m a n : KnownMachine) → NotesVictim limited killed.victim m a
    → IsKilledRoot a.ledger.groups limited killed → (flag : Bool) → is_oom_group a.ledger.groups killed.killed_root ≡ flag
    → KilledSo t (set_if flag a killed) (KillsRootOrVictim flag t limited killed) a n → VictimKilled t limited killed m n
victim_killed t limited killed m a n told head_a flag flag_a so_flag =
    let note : Note = victim_note m limited killed.victim told.next in
    let so_a : KilledSo t (kill_set a killed) (KillsRootOrVictim (is_oom_group a.ledger.groups killed.killed_root) t limited killed) a n =
    subst (λ (b : Bool). KilledSo t (set_if b a killed) (KillsRootOrVictim b t limited killed) a n) (sym flag_a) so_flag in
    let so : KilledSo t (kill_set m killed) (KillsRootOrVictim (is_oom_group m.ledger.groups killed.killed_root) t limited killed) (with_note m note) n =
    subst (λ (x : KnownMachine). KilledSo t (kill_set x killed) (KillsRootOrVictim (is_oom_group x.ledger.groups killed.killed_root) t limited killed) x n)
    told.machine so_a in
    record {
      kills = record {
        next = told.next;
        follows = told.follows;
        killed_root_is = subst (λ (x : KnownMachine). IsKilledRoot x.ledger.groups limited killed) told.machine head_a;
        steps = so.kills.steps;
        kills = so.kills.kills;
        runs = record { holder = so.kills.runs.holder; leads = so.kills.runs.leads; follows = so.kills.runs.follows; counts = so.kills.runs.counts; noted = so.kills.runs.noted };
        these = record { killed = so.kills.these.killed; no_miss = so.kills.these.no_miss; returned = so.kills.these.returned };
      };
      marked = so.marked;
      drained = so.drained;
      stocks = record { of = so.stocks.of; drained = so.stocks.drained };
      none_kept = so.none_kept;
      keeps = lets_after_note t m n note so.keeps;
    }

-- without a flag the victim is killed alone
pub alone_killed : (t : KnownTable) (limited v : ℕ) (m a n : KnownMachine) → may_be_killed m limited v ≡ true → NotesVictim limited v m a
    → HasNoFlagged a.ledger.groups limited v → OneKilled t limited v a n → VictimKilled t limited (record { victim = v; killed_root = v }) m n
alone_killed t limited v m a n may told none one =
    let below : in_subtree a.ledger.groups limited v ≡ true =
    ap (λ (x : KnownMachine). in_subtree x.ledger.groups limited v) told.machine ∙ (and_parts (in_subtree m.ledger.groups limited v) _ may).0 in
    victim_killed t limited (record { victim = v; killed_root = v }) m a n told (inr (none, refl)) false (victim_unflagged a.ledger.groups limited v below none)
    (one_so t limited v a n one)

-- with one the highest flagged group dies with its subtree
pub head_killed : (t : KnownTable) (limited v h : ℕ) (m a n : KnownMachine) → NotesVictim limited v m a → IsHighestFlagged a.ledger.groups limited v h
    → KilledSo t (alive_in_subtree a h) (KillsSubtree t limited h) a n → VictimKilled t limited (record { victim = v; killed_root = h }) m n
head_killed t limited v h m a n told high so =
    victim_killed t limited (record { victim = v; killed_root = h }) m a n told (inl high) true (on_path_is a.ledger.groups limited v h high.between).flag so
