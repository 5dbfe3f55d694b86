-- What kills keep, and kills one after the other. Serves `kill_for`, `make_room`, and those who call them.
use Rattle.std.proofs.Common.{◌≡◌, ℕ, zero, suc, ◌<◌, ◌≤◌, Bool, true, false, Option, Some, None, List, [], ◌∷◌, ◌++◌, map, refl, sym, ap, ◌∙◌}
use Rattle.std.proofs.Common.{subst, inl, inr, arith, cond, length}
use Rattle.std.specs.Prelude.{set, slice_index_or, slice_set}
use Rattle.std.proofs.lemmas.Bool.{and_parts, cases_Bool, cases_lt, false≢true, not-true}
use Rattle.std.proofs.lemmas.List.{append_assoc, append-nil, get_or-set_same, length-set}
use Rattle.group_tree.specs.Bounds.{most_groups}
use Rattle.group_tree.specs.declared.group.Group.{Group}
use Rattle.group_tree.specs.Groups.{has_group, in_subtree}
use Rattle.group_tree.specs.declared.event.EventKey.TheVariants.{Oom}
use Rattle.group_charge.specs.declared.account.Account as charge
use Rattle.group_charge.specs.Charges.{AreCharges, current_of, usage_charged, with_event_at, with_oom_noted}
use Rattle.group_charge.proofs.CallerLemmas.{sum-map_same}
use Rattle.group_tree.proofs.CallerLemmas.{number_below, number_in_room}
use Rattle.group_charge.proofs.SumLemmas.{share}
use Rattle.boot_words.specs.Pasts.{IsHeld}
use Rattle.step_rules.specs.{sum_to, Run}
use Rattle.group_charge.specs.declared.note.Note.TheVariants as notes
use Rattle.boot_words.specs.Tables.{KnownTable}
use Rattle.mem_machine.specs.{IsConsistent, KnownMachine, is_killed, with_run, with_note, Makes, StaysVisited, note_oom_steps, BySteps, MachineStays}
use Rattle.mem_machine.specs.{Transition, transition, KnownRun}
use Rattle.mem_reclaim.specs.declared.sets.Killed.{Killed}
use Rattle.mem_reclaim.specs.{IsKilledBy, OnlyDrains, OnlyReleases, with_all_killed, IsKilledRoot, kill_set, IsVictim}
use Rattle.mem_reclaim.proofs.Choosing.{chosen_there}
use Rattle.mem_reclaim.proofs.Dying.{victims_die}
use Rattle.mem_alloc.specs.{NeedsRoom, KillsVictims, KillsForRoom, KillsOneVictim, has_room_at, with_oom_noted_at, KillsForFewPages, KillsIfAllowed, RelievesLimit, UnlessNoKill}
use Rattle.mem_alloc.proofs.Lowering.{Lowers, lowers_none, lowers_both, clears_lower, keeps_lower, sum_less}
use Rattle.mem_machine.proofs.Followed.{makes_both, makes_none}
use Rattle.mem_machine.proofs.Made.{visit_same}
use Rattle.mem_reclaim.proofs.Grown.{held_after}

-- ---- what is kept

-- who was killed stays killed
stays_marked : (marks : List Bool) (v j : ℕ) → is_killed marks j ≡ true → is_killed (set marks v true) j ≡ true
stays_marked [] v j dead = dead
stays_marked (x ∷ marks) zero zero dead = refl
stays_marked (x ∷ marks) zero (suc j) dead = dead
stays_marked (x ∷ marks) (suc v) zero dead = dead
stays_marked (x ∷ marks) (suc v) (suc j) dead = stays_marked marks v j dead

all_stay_marked : (groups : List ℕ) (marks : List Bool) (j : ℕ) → is_killed marks j ≡ true → is_killed (with_all_killed marks groups) j ≡ true
all_stay_marked [] marks j dead = dead
all_stay_marked (v ∷ groups) marks j dead = all_stay_marked groups (slice_set marks v true) j (stays_marked marks v j dead)

pub one_lowers : (t : KnownTable) (groups : List ℕ) (m n : KnownMachine) → n.killed ≡ with_all_killed m.killed groups → OnlyReleases t m n
    → Lowers t m n
one_lowers t groups m n marked keeps = record {
  groups = keeps.groups;
  killed = λ j dead. ap (λ (k : List Bool). is_killed k j) marked ∙ all_stay_marked groups m.killed j dead;
  falls = keeps.usage;
}

pub each_lowers : (r : Option ℕ) (t : KnownTable) (g pages : ℕ) (victims : List Killed) (m n : KnownMachine) (steps : Run)
    → KillsVictims r g pages victims (transition t m steps n) → Lowers t m n
each_lowers r t g pages [] m n steps h = subst (λ (x : KnownMachine). Lowers t m x) (sym h.machine) (lowers_none t m)
each_lowers r t g pages (killed ∷ later) m n steps h =
    lowers_both t m h.between n (one_lowers t (kill_set m killed) m h.between h.first.marked h.first.keeps)
    (each_lowers r t g pages later h.between n h.later h.second)

usage_noted : (groups : List Group) (xs : List charge.Account) (g m : ℕ) → usage_charged groups (map (with_event_at Oom groups g) xs) m ≡ usage_charged groups xs m
unfolding usage_charged
usage_noted groups xs g m = sum-map_same (share groups m) (with_event_at Oom groups g) (λ a. refl) xs

pub oom_lowers : (t : KnownTable) (m : KnownMachine) (g : ℕ) (w : KnownRun) → Lowers t m (with_run (with_oom_noted_at m g) w)
oom_lowers t m g w = record {
  groups = refl;
  killed = λ v dead. dead;
  falls = λ h.
      let a : current_of (with_oom_noted_at m g).ledger h ≡ current_of m.ledger h = usage_noted m.ledger.groups m.ledger.accounts g h in
      omega (arith, a);
}

stays_lower : (t : KnownTable) (m n : KnownMachine) (steps : Run) → MachineStays (transition t m steps n) → Lowers t m n
stays_lower t m n steps h = subst (λ (x : KnownMachine). Lowers t m x) (sym h.machine) (lowers_none t m)

pub kills_lower : (r : Option ℕ) (t : KnownTable) (g pages : ℕ) (m n : KnownMachine) (steps : Run) → KillsForRoom r g pages (transition t m steps n) → Lowers t m n
kills_lower r t g pages m n steps k = elim (cases_Bool (has_room_at m.ledger g pages)) [
  | inl room ↦ stays_lower t m n steps (k.room room)
  | inr over ↦
      let h = k.over over in
      let x = with_run (with_oom_noted_at m g) h.seen in
      lowers_both t m x n (oom_lowers t m g h.seen) (each_lowers r t g pages h.victims x n h.killing h.kills)
]

few_lower : (t : KnownTable) (r g pages : ℕ) (m n : KnownMachine) (steps : Run) → KillsForFewPages r g pages (transition t m steps n) → Lowers t m n
few_lower t r g pages m n steps k = elim (cases_lt 8 pages) [
  | inl many ↦ stays_lower t m n steps (k.many many)
  | inr few ↦ kills_lower (Some r) t g pages m n steps (k.few few)
]

-- so do kills that the boot may not allow
unless_lower : (no_kill : Bool) (t : KnownTable) (r g pages : ℕ) (m n : KnownMachine) (steps : Run)
    → UnlessNoKill no_kill (KillsForFewPages r g pages) (transition t m steps n) → Lowers t m n
unless_lower false t r g pages m n steps k = few_lower t r g pages m n steps k
unless_lower true t r g pages m n steps k = stays_lower t m n steps k

pub allowed_lower : (t : KnownTable) (r g pages : ℕ) (m n : KnownMachine) (steps : Run)
    → KillsIfAllowed (KillsForFewPages r g pages) (transition t m steps n) → Lowers t m n
allowed_lower t r g pages m n steps k = unless_lower t.choices.is_no_kill t r g pages m n steps k

pub relieves_lower : (t : KnownTable) (r g pages : ℕ) (m n : KnownMachine) (steps : Run) → RelievesLimit r g pages (transition t m steps n)
    → Lowers t m n
relieves_lower t r g pages m n steps h =
    let x = h.between in
    let y = h.second.between in
    lowers_both t m x n (clears_lower t g pages m x h.earlier h.first)
    (lowers_both t x y n (keeps_lower t x y h.second.first.keeps) (allowed_lower t r g pages y n h.second.later h.second.second))

pub relieving_lowers : (t : KnownTable) (r g pages : ℕ) (m n : KnownMachine) → BySteps Makes t (RelievesLimit r g pages) m n → Lowers t m n
relieving_lowers t r g pages m n b = relieves_lower t r g pages m n b.steps b.does

-- ---- the loop of kills

-- how many group numbers aren't marked as killed
abbrev pub alive_at : List Bool → ℕ → ℕ
alive_at marks g = cond (is_killed marks g) 0 1

abbrev pub count_alive : KnownMachine → ℕ
count_alive m = sum_to most_groups (alive_at m.killed)

alive_less : (marks later : List Bool) (v : ℕ) → is_killed later v ≡ true → is_killed marks v ≡ false → alive_at later v < alive_at marks v
alive_less marks later v dead alive =
    let now : alive_at later v ≡ 0 = ap (λ (b : Bool). cond b 0 1) dead in
    let was : alive_at marks v ≡ 1 = ap (λ (b : Bool). cond b 0 1) alive in
    omega (arith, now, was)

alive_falls : (b d : Bool) → (b ≡ true → d ≡ true) → cond {A = ℕ} d 0 1 ≤ cond b 0 1
alive_falls false false stays = omega arith
alive_falls false true stays = omega arith
alive_falls true false stays = absurd (false≢true (stays refl))
alive_falls true true stays = omega arith

pub victim_below : (m : KnownMachine) → AreCharges m.ledger → (g v : ℕ) → IsVictim m g (Some v) → v < most_groups
victim_below m charges g v most = number_below m.ledger.groups v charges.groups (chosen_there m g v most.chosen)

-- each of these is marked
all_marked : (groups : List ℕ) (marks : List Bool) (v k : ℕ) → v < length marks → k < length groups → slice_index_or groups k v ≡ v
    → is_killed (with_all_killed marks groups) v ≡ true
all_marked [] marks v k inside low is = absurd (omega (arith, low))
all_marked (x ∷ groups) marks v zero inside low is =
    all_stay_marked groups (slice_set marks x true) v
    (subst (λ (y : ℕ). is_killed (slice_set marks y true) v ≡ true) (sym is) (get_or-set_same marks v true false inside))
all_marked (x ∷ groups) marks v (suc k) inside low is =
    let long = length-set marks x true in
    all_marked groups (slice_set marks x true) v k (omega (arith, inside, long)) (omega (arith, low)) is

pub fewer_alive : (t : KnownTable) (m n : KnownMachine) (g : ℕ) (killed : Killed) → IsConsistent t m → AreCharges m.ledger
    → IsVictim m g (Some killed.victim) → IsKilledRoot m.ledger.groups g killed → n.killed ≡ with_all_killed m.killed (kill_set m killed)
    → count_alive n < count_alive m
fewer_alive t m n g killed whole charges most head marked =
    let v = killed.victim in
    let groups = kill_set m killed in
    let now = with_all_killed m.killed groups in
    let low = victim_below m charges g v most in
    let many = whole.sizes.killed in
    let within = number_in_room m.ledger.groups v charges.groups (chosen_there m g v most.chosen) in
    let inside : v < length m.killed = omega (arith, within, many) in
    let alive : is_killed m.killed v ≡ false = not-true (is_killed m.killed v) (and_parts (in_subtree m.ledger.groups g v) _ most.chosen).1 in
    let dies = victims_die m g killed (record { groups = charges.groups; chosen = most; killed_root_is = head }) in
    let dead : is_killed now v ≡ true = all_marked groups m.killed v dies.0 inside dies.1 dies.2 in
    subst (λ (k : List Bool). sum_to most_groups (alive_at k) < count_alive m) (sym marked)
    (sum_less most_groups (alive_at now) (alive_at m.killed) v low
    (λ j. alive_falls (is_killed m.killed j) (is_killed now j) (all_stay_marked groups m.killed j)) (alive_less m.killed now v dead alive))

-- kills, and one more
kills_more : (r : Option ℕ) (t : KnownTable) (g pages : ℕ) (killed : Killed) (victims : List Killed) (m x n : KnownMachine) (first last : Run)
    → KillsVictims r g pages victims (transition t m first x) → KillsOneVictim r g pages killed (transition t x last n)
    → KillsVictims r g pages (victims ++ killed ∷ []) (transition t m (first ++ last) n)
kills_more r t g pages killed [] m x n first last each one = record {
  between = n;
  earlier = last;
  later = [];
  first = subst (λ (y : KnownMachine). KillsOneVictim r g pages killed (transition t y last n)) each.machine one;
  second = record { machine = refl; steps_are = refl };
  steps_are = ap (λ (k : Run). k ++ last) each.steps_are ∙ sym (append-nil last);
}
kills_more r t g pages killed (u ∷ victims) m x n first last each one = record {
  between = each.between;
  earlier = each.earlier;
  later = each.later ++ last;
  first = each.first;
  second = kills_more r t g pages killed victims each.between x n each.later last each.second one;
  steps_are = ap (λ (k : Run). k ++ last) each.steps_are ∙ append_assoc each.earlier each.later last;
}

-- An `oom` was noted at the group, and these victims have been killed so far, with all groups that die with them.
-- Nothing else happened.
pub record KillsSoFar (r : Option ℕ) (t : KnownTable) (g pages : ℕ) (m n : KnownMachine) : Type 0 where
  pub seen : KnownRun
  pub notes : Makes t m (note_oom_steps g) (with_run (with_oom_noted_at m g) seen)
  pub victims : List Killed
  pub killing : Run
  pub kills : KillsVictims r g pages victims (transition t (with_run (with_oom_noted_at m g) seen) killing n)
  pub runs : Makes t (with_run (with_oom_noted_at m g) seen) killing n
  pub visit : StaysVisited t m n

-- the note, after the event
pub so_far_nobody : (r : Option ℕ) (t : KnownTable) (g pages : ℕ) (m x n : KnownMachine)
    → x ≡ record m { ledger = with_oom_noted m.ledger g; run = x.run } → Makes t m (note_oom_steps g) x → StaysVisited t m x
    → n ≡ with_note x (notes.Oom g) → KillsSoFar r t g pages m n
so_far_nobody r t g pages m x n event noting visit told =
    let counted : KnownMachine = record m { ledger = with_oom_noted m.ledger g; run = x.run } in
    let noting_m : Makes t m (note_oom_steps g) counted =
    subst (λ (y : KnownMachine). Makes t m (note_oom_steps g) y) event noting in
    subst (λ (y : KnownMachine). KillsSoFar r t g pages m y) (sym (told ∙ (λ i. with_note (event i) (notes.Oom g)))) (record {
      seen = x.run;
      notes = record { holder = noting_m.holder; leads = noting_m.leads; follows = noting_m.follows; counts = noting_m.counts; noted = noting_m.noted };
      victims = [];
      killing = [];
      kills = record { machine = refl; steps_are = refl };
      runs = makes_none t (with_run (with_oom_noted_at m g) x.run);
      visit = λ c v. visit_same t counted (with_note counted (notes.Oom g)) c refl (subst (StaysVisited t m) event visit c v);
    })

pub so_far_killed : (r : Option ℕ) (t : KnownTable) (g pages : ℕ) (killed : Killed) (m x n : KnownMachine) → KillsSoFar r t g pages m x
    → NeedsRoom r g pages x → IsConsistent t x → AreCharges x.ledger → IsVictim x g (Some killed.victim) → IsKilledBy t g killed x n
    → n.killed ≡ with_all_killed x.killed (kill_set x killed) → OnlyDrains t x n → OnlyReleases t x n → KillsSoFar r t g pages m n
so_far_killed r t g pages killed m x n so_far needs_room whole charges chosen kills marked stocks keeps = record {
  seen = so_far.seen;
  notes = so_far.notes;
  victims = so_far.victims ++ killed ∷ [];
  killing = so_far.killing ++ kills.steps;
  kills = kills_more r t g pages killed so_far.victims (with_run (with_oom_noted_at m g) so_far.seen) x n so_far.killing kills.steps so_far.kills (record {
    needs_room = needs_room;
    chosen = chosen;
    consistent = whole;
    charges = charges;
    kills = kills;
    steps_are = refl;
    marked = marked;
    stocks = stocks;
    keeps = keeps;
  });
  runs = makes_both t so_far.killing kills.steps (with_run (with_oom_noted_at m g) so_far.seen) x n so_far.runs kills.runs;
  visit = λ c v. keeps.visit c (so_far.visit c v);
}

-- who holds the lock then
pub so_far_held : (r : Option ℕ) (t : KnownTable) (g pages : ℕ) (m n : KnownMachine) → KillsSoFar r t g pages m n → IsHeld t m.run.past → IsHeld t n.run.past
so_far_held r t g pages m n so_far held =
    let x = with_run (with_oom_noted_at m g) so_far.seen in
    held_after t x so_far.killing n so_far.runs (held_after t m (note_oom_steps g) x so_far.notes held)

pub so_far_there : (r : Option ℕ) (t : KnownTable) (g pages : ℕ) (m n : KnownMachine) → KillsSoFar r t g pages m n → has_group m.ledger.groups g ≡ true
    → has_group n.ledger.groups g ≡ true
so_far_there r t g pages m n so_far there =
    let l = each_lowers r t g pages so_far.victims (with_run (with_oom_noted_at m g) so_far.seen) n so_far.killing so_far.kills in
    ap (λ (x : List Group). has_group x g) l.groups ∙ there

-- the kills are over
pub kills_end : (r : Option ℕ) (t : KnownTable) (g pages : ℕ) (m n : KnownMachine) → has_room_at m.ledger g pages ≡ false
    → KillsSoFar r t g pages m n → (NeedsRoom r g pages n → IsVictim n g None) → BySteps Makes t (KillsForRoom r g pages) m n
kills_end r t g pages m n over so_far ended = record {
  steps = note_oom_steps g ++ so_far.killing;
  does = record {
    room = λ room. absurd (false≢true (sym over ∙ room));
    over = λ _. record {
      victims = so_far.victims;
      killing = so_far.killing;
      seen = so_far.seen;
      notes = so_far.notes;
      kills = so_far.kills;
      ended = ended;
      steps_are = refl;
    };
  };
  makes = makes_both t (note_oom_steps g) so_far.killing m (with_run (with_oom_noted_at m g) so_far.seen) n so_far.notes so_far.runs;
}

-- ---- kills for a few pages alone

pub few_kills : (t : KnownTable) (r g pages : ℕ) (m n : KnownMachine) → pages ≤ 8 → BySteps Makes t (KillsForRoom (Some r) g pages) m n
    → BySteps Makes t (KillsForFewPages r g pages) m n
few_kills t r g pages m n few kills = record { steps = kills.steps; does = record { few = λ _. kills.does; many = λ many. absurd (omega (arith, few, many)) }; makes = kills.makes }

pub many_rest : (t : KnownTable) (r g pages : ℕ) (m : KnownMachine) → 8 < pages → BySteps Makes t (KillsForFewPages r g pages) m m
many_rest t r g pages m many = record {
  steps = [];
  does = record { few = λ few. absurd (omega (arith, few, many)); many = λ _. record { machine = refl; steps_are = refl } };
  makes = makes_none t m;
}

-- ---- kills that the boot allows, or doesn't

pub kills_allowed : (t : KnownTable) (Kills : Transition KnownMachine → Type 0) (m n : KnownMachine) → t.choices.is_no_kill ≡ false
    → BySteps Makes t Kills m n → BySteps Makes t (KillsIfAllowed Kills) m n
kills_allowed t Kills m n allowed b = record {
  steps = b.steps;
  does = subst (λ (no : Bool). UnlessNoKill no Kills (transition t m b.steps n)) (sym allowed) b.does;
  makes = b.makes;
}

pub kills_nobody : (t : KnownTable) (Kills : Transition KnownMachine → Type 0) (m : KnownMachine) → t.choices.is_no_kill ≡ true
    → BySteps Makes t (KillsIfAllowed Kills) m m
kills_nobody t Kills m chosen = record {
  steps = [];
  does = subst (λ (no : Bool). UnlessNoKill no Kills (transition t m [] m)) (sym chosen) (record { machine = refl; steps_are = refl });
  makes = makes_none t m;
}

-- ---- no kill at all

pub enough_room : (r : Option ℕ) (t : KnownTable) (g pages : ℕ) (m : KnownMachine) → has_room_at m.ledger g pages ≡ true
    → BySteps Makes t (KillsForRoom r g pages) m m
enough_room r t g pages m room = record {
  steps = [];
  does = record { room = λ _. record { machine = refl; steps_are = refl }; over = λ over. absurd (false≢true (sym over ∙ room)) };
  makes = makes_none t m;
}
