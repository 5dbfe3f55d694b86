-- Steps on the groups alone. Serves `note_event`, `note_group_kill`, `mark_killed`, `set_max`, `set_oom_group`,
-- `set_settings`, `make` and `remove`.
use Rattle.std.proofs.Common.{◌≡◌, ◌≢◌, ℕ, ◌<◌, Bool, true, false, Option, Some, None, List, [], ◌∷◌, length, refl, sym, ap, ◌∙◌, subst, eq-eqb, arith}
use Rattle.std.specs.Prelude.{is_none, not, slice_set}
use Rattle.std.proofs.lemmas.Bool.{and_from, ne_eqb}
use Rattle.std.proofs.lemmas.List.{get_or-set_same, get_or-set_other}
use Rattle.group_tree.specs.declared.event.EventKey.{EventKey}
use Rattle.group_tree.specs.declared.event.EventKey.TheVariants.{OomKill, OomGroupKill}
use Rattle.group_tree.specs.declared.fault.Fault.{Fault}
use Rattle.group_tree.specs.declared.group.Group.{Group}
use Rattle.group_tree.proofs.CallerLemmas.{number_in_room}
use Rattle.group_tree.proofs.GroupLemmas.{can_make, length-full, room_of-flagged, room_of-limited, room_of-with, room_of-without}
use Rattle.group_tree.specs.{has_child, room_of, has_group, make_fault, IsLeastFreeNumber}
use Rattle.group_charge.specs.declared.settings.ReclaimSettings.{ReclaimSettings}
use Rattle.group_charge.specs.Charges.{Ledger, AreCharges, CountsEvent, SamePages, SamePeaks, account_at, current_of, pages_of, with_settings}
use Rattle.group_charge.specs.Charges.{with_new_group, with_group_removed, with_group_limit, with_oom_flag}
use Rattle.step_rules.specs.declared.step.Step.{Step}
use Rattle.step_rules.specs.declared.step.NoteKey.{NoteKey}
use Rattle.step_rules.specs.declared.step.Action.{Action}
use Rattle.step_rules.specs.declared.step.Action.TheVariants.{Kill, Make, Note, NoteGroupKill, Remove, SetFlag, SetMax}
use Rattle.step_rules.specs.declared.step.Answer.{Answer}
use Rattle.step_rules.specs.declared.step.Answer.TheVariants.{Done, Number}
use Rattle.step_rules.specs.{event_key, event_of, IsLocalStep, is_removable, with_at, usage_of, zone_makes}
use Rattle.step_rules.specs.State.{State}
use Rattle.step_rules.proofs.Basics.{at_each}
use Rattle.boot_words.specs.{hide, IsHeld, HasSameLists, KnownTable}
use Rattle.mem_machine.specs.{AreBooked, AreOwners, counts_along, FollowsSteps, Makes, StaysVisited, lock_holder, local_of, KnownMachine, AddsGroup}
use Rattle.mem_machine.specs.{FitsFrameState, IsConsistent, IsShownBy, frame_state_at, home_of, is_killed, left_by, KnownRun, MayTake, Records, after_made}
use Rattle.mem_machine.proofs.LedgerMoves.{follows_flag, follows_limit, follows_make, follows_note, follows_remove, follows_settings}
use Rattle.mem_machine.proofs.Made.{makes, one_leads, stays_visited, zone_acts}
use Rattle.mem_machine.proofs.Noted.{notes_none}
use Rattle.mem_machine.proofs.Reaching.{zone_step}
use Rattle.mem_machine.proofs.Sight.{left_then, shown_seen}
use Rattle.mem_machine.proofs.Staying.{HaveSameBooks, owners_stay, sums_stay}
use Rattle.mem_machine.proofs.Usage.{usage_is}

-- ---- a step that changes the groups and which of them are killed

-- what such a step leaves, of the machine as it was seen before
pub record AllGrouped (t : KnownTable) (m now : KnownMachine) (made : Step × Answer) (n : KnownMachine) : Type 0 where
  pub consistent : IsConsistent t n
  pub sums : (sums : List ℕ) → AreBooked (length m.killed) t.cpus (left_by t m.run.past).parts sums → AreBooked (length n.killed) t.cpus (left_by t n.run.past).parts sums
  pub owners : (owners : List (Option ℕ)) → AreOwners t.cpus (left_by t m.run.past).parts owners → AreOwners t.cpus (left_by t n.run.past).parts owners
  pub steps : Makes t now (made ∷ []) n
  pub visit : StaysVisited t now n

-- what is known of such a step before it is made
pub record IsGroupStep (t : KnownTable) (m : KnownMachine) (made : Step × Answer) (l : Ledger) (marks : List Bool) : Type 0 where
  pub step : IsLocalStep (local_of t m) (lock_holder m) made.0.seat made.0.action made.1
  pub only : after_made (local_of t m) made ≡ record (local_of t m) { groups = (after_made (local_of t m) made).groups; killed = (after_made (local_of t m) made).killed }
  pub groups : (after_made (local_of t m) made).groups ≡ l.groups
  pub room : room_of l.groups ≡ room_of m.ledger.groups
  pub killed : (g : ℕ) → (after_made (local_of t m) made).killed g ≡ is_killed marks g
  pub follows : FollowsSteps (local_of t m) m.ledger (made ∷ []) l
  pub counts : m.counts ≡ counts_along (local_of t m) (made ∷ []) m.counts

-- the step may be made
pub may_group : (t : KnownTable) (m : KnownMachine) (made : Step × Answer) (l : Ledger) (marks : List Bool) → IsGroupStep t m made l marks → MayTake t m.run.past made
may_group t m made l marks is = is.step

module _ (t : KnownTable) (m : KnownMachine) (ok : IsConsistent t m) (is : IsHeld t m.run.past) (made : Step × Answer) (l : Ledger) (marks : List Bool)
    (group : IsGroupStep t m made l marks) (pages : SamePages m.ledger l) (sized : length marks ≡ length m.killed) (run : KnownRun) (noted : Records t m.run (made ∷ []) run) where
  abbrev then : KnownMachine
  then = record m { ledger = l; killed = marks; run = run }

  shown_then : IsShownBy t (record m { ledger = l; killed = marks; run = run }) (hide (after_made (local_of t m) made))
  shown_then =
      let shown = shown_seen t m ok is in
      subst (λ (u : State). IsShownBy t (record m { ledger = l; killed = marks; run = run }) (hide u)) (sym group.only) (record {
        groups = group.groups;
        killed = group.killed;
        phases = shown.phases;
        references = shown.references;
        settled = shown.settled;
        absorbed = shown.absorbed;
        bounded = shown.bounded;
        charged = λ h. pages h ∙ shown.charged h;
      })

  grouped_here : AllGrouped t m m made (record m { ledger = l; killed = marks; run = run })
  grouped_here =
      let s = local_of t m in
      let u = after_made (local_of t m) made in
      let same : HaveSameBooks (local_of t m).parts (after_made (local_of t m) made).parts = record { book = λ k. ap (λ (x : State). (x.parts k).book) group.only; group = λ k. ap (λ (x : State). (x.parts k).stock.group) group.only } in
      record {
        consistent = record {
          choice = ok.choice;
          sizes = record {
            frame_states = ok.sizes.frame_states;
            links = ok.sizes.links;
            lists = ok.sizes.lists ∙ sym group.room;
            killed = sized ∙ ok.sizes.killed ∙ sym group.room;
          };
          areas = ok.areas;
          frame_states = λ f inside. subst (λ (room : ℕ). FitsFrameState room (home_of m.links f) (frame_state_at m.frame_states f)) (sym group.room) (ok.frame_states f inside);
          units = ok.units;
          lists = ok.lists;
          balances = ok.balances;
          shown = subst (IsShownBy t then) (sym (left_then t m (made ∷ []) run is noted)) shown_then;
        };
        sums = λ sums are. subst (λ (room : ℕ). AreBooked room t.cpus (left_by t run.past).parts sums) (sym sized) (sums_stay t m is (made ∷ []) run noted same sums are);
        owners = owners_stay t m is (made ∷ []) run noted same;
        steps = makes t m then (made ∷ []) is noted (one_leads (lock_holder m) s made group.step) group.follows group.counts;
        visit = stays_visited t m then (made ∷ []) noted (ap (λ (x : State). x.hold) group.only)
            (λ p. subst (HasSameLists p s) (sym group.only) (record { list = refl; fresh = refl; back = refl; references = refl }));
      }

  pub grouped : (now : KnownMachine) → m ≡ now → AllGrouped t m now made (record m { ledger = l; killed = marks; run = run })
  grouped now same = subst (λ (x : KnownMachine). AllGrouped t m x made (record m { ledger = l; killed = marks; run = run })) same grouped_here

-- ---- the steps

-- a group that is there has a mark, and so has one that can be made
pub there_inside : (t : KnownTable) (m now : KnownMachine) → m ≡ now → IsConsistent t m → AreCharges m.ledger → (g : ℕ) → has_group now.ledger.groups g ≡ true → g < length m.killed
there_inside t m now same ok facts g there =
    let low = number_in_room m.ledger.groups g facts.groups (ap (λ (x : KnownMachine). has_group x.ledger.groups g) same ∙ there) in
    let sized = ok.sizes.killed in
    omega (arith, low, sized)

pub made_inside : (t : KnownTable) (m : KnownMachine) → IsConsistent t m → (g : ℕ) (path : List ℕ) → None ≡ make_fault m.ledger.groups path → IsLeastFreeNumber m.ledger.groups g
    → g < length m.killed
made_inside t m ok g path allowed least =
    let few = length-full m.ledger.groups g least.least in
    let room = (can_make m.ledger.groups path (sym allowed)).room in
    let sized = ok.sizes.killed in
    omega (arith, few, room, sized)

-- the marks after one was set or cleared
marks_set : (killed : ℕ → Bool) (marks : List Bool) (g : ℕ) (b : Bool) → ((h : ℕ) → killed h ≡ is_killed marks h) → g < length marks → (h : ℕ)
    → with_at killed g b h ≡ is_killed (slice_set marks g b) h
marks_set killed marks g b are inside h =
    at_each killed g b (λ (k : ℕ) (x : Bool). x ≡ is_killed (slice_set marks g b) k)
    (sym (get_or-set_same marks g b false inside)) (λ k ne. are k ∙ sym (get_or-set_other marks g k b false ne)) h

-- nothing was refused
none_of : (x : Option Fault) → x ≡ None → is_none x ≡ true
none_of x e = ap is_none e

module _ (t : KnownTable) (m now : KnownMachine) (same : m ≡ now) (ok : IsConsistent t m) (held : IsHeld t now.run.past) where
  is : IsHeld t m.run.past
  is = subst (λ (x : KnownMachine). IsHeld t x.run.past) (sym same) held

  shown : IsShownBy t m (hide (local_of t m))
  shown = shown_seen t m ok is

  -- a group that is there is one that the lock's holder sees
  seen_there : (g : ℕ) → has_group now.ledger.groups g ≡ true → has_group (local_of t m).groups g ≡ true
  seen_there g there = ap (λ (gs : List Group). has_group gs g) shown.groups ∙ ap (λ (x : KnownMachine). has_group x.ledger.groups g) same ∙ there

  module _ (g : ℕ) (there : has_group now.ledger.groups g ≡ true) where
    -- a step notes an event of this kind at the group, and changes nothing that is seen
    notes : (kind : EventKey) (action : Action) → event_of action Done ≡ Some (kind, g) → ((s : State) (x : _) → x ≡ counts_along s (zone_makes action Done ∷ []) x)
        → after_made (local_of t m) (zone_makes action Done) ≡ local_of t m → IsLocalStep (local_of t m) (lock_holder m) 0 action Done
        → (l : Ledger) → l.groups ≡ m.ledger.groups → CountsEvent kind m.ledger l g → SamePeaks m.ledger l → IsGroupStep t m (zone_makes action Done) l m.killed
    notes kind action noted none stays step l groups counts peaks = record {
      step = step;
      only = stays ∙ (λ i. record (local_of t m) { groups = (sym stays i).groups; killed = (sym stays i).killed });
      groups = ap (λ (x : State). x.groups) stays ∙ shown.groups ∙ sym groups;
      room = ap room_of groups;
      killed = λ h. ap (λ (x : State). x.killed h) stays ∙ shown.killed h;
      follows = follows_note kind action g noted (local_of t m) m.ledger l shown.groups counts peaks;
      counts = none (local_of t m) m.counts;
    }

    pub notes_event : (key : NoteKey) (kind : EventKey) → kind ≡ event_key key → (l : Ledger) → l.groups ≡ m.ledger.groups → CountsEvent kind m.ledger l g
        → SamePeaks m.ledger l → IsGroupStep t m (zone_makes (Note key g) Done) l m.killed
    notes_event key kind counted l groups counts peaks = notes kind (Note key g) (ap (λ (k : EventKey). Some (k, g)) (sym counted)) (λ s x. refl) refl
        (zone_step (local_of t m) (lock_holder m) (Note key g) Done refl (and_from _ _ (zone_acts t m.run.past is) (seen_there g there)) tt) l groups counts peaks

    pub notes_group_kill : g ≢ 0 → (l : Ledger) → l.groups ≡ m.ledger.groups → CountsEvent OomGroupKill m.ledger l g → SamePeaks m.ledger l
        → IsGroupStep t m (zone_makes (NoteGroupKill g) Done) l m.killed
    notes_group_kill below l groups counts peaks = notes OomGroupKill (NoteGroupKill g) refl (λ s x. refl) refl
        (zone_step (local_of t m) (lock_holder m) (NoteGroupKill g) Done refl
        (and_from _ _ (and_from _ _ (zone_acts t m.run.past is) (seen_there g there)) (ap not (ne_eqb g 0 below))) tt) l groups counts peaks

    -- a group is killed
    pub kills : g < length m.killed → is_killed now.killed g ≡ false → (l : Ledger) → l.groups ≡ m.ledger.groups → CountsEvent OomKill m.ledger l g → SamePeaks m.ledger l
        → (marks : List Bool) → marks ≡ slice_set m.killed g true → IsGroupStep t m (zone_makes (Kill g) Done) l marks
    kills inside alive l groups counts peaks marks set = subst (λ (k : List Bool). IsGroupStep t m (zone_makes (Kill g) Done) l k) (sym set) (record {
      step = zone_step (local_of t m) (lock_holder m) (Kill g) Done refl (and_from _ _ (and_from _ _ (zone_acts t m.run.past is) (seen_there g there))
          (ap not (shown.killed g ∙ ap (λ (x : KnownMachine). is_killed x.killed g) same ∙ alive))) tt;
      only = refl;
      groups = shown.groups ∙ sym groups;
      room = ap room_of groups;
      killed = marks_set (local_of t m).killed m.killed g true shown.killed inside;
      follows = follows_note OomKill (Kill g) g refl (local_of t m) m.ledger l shown.groups counts peaks;
      counts = refl;
    })

    pub sets_max : (limit : Option ℕ) → g ≢ 0 → (l : Ledger) → l ≡ with_group_limit m.ledger g limit → IsGroupStep t m (zone_makes (SetMax g limit) Done) l m.killed
    sets_max limit below l limited = subst (λ (k : Ledger). IsGroupStep t m (zone_makes (SetMax g limit) Done) k m.killed) (sym limited) (record {
      step = zone_step (local_of t m) (lock_holder m) (SetMax g limit) Done refl
          (and_from _ _ (and_from _ _ (zone_acts t m.run.past is) (seen_there g there)) (ap not (ne_eqb g 0 below))) tt;
      only = refl;
      groups = ap (λ (gs : List Group). (after_made (record (local_of t m) { groups = gs }) (zone_makes (SetMax g limit) Done)).groups) shown.groups;
      room = room_of-limited m.ledger.groups g limit;
      killed = shown.killed;
      follows = follows_limit (local_of t m) m.ledger g limit;
      counts = refl;
    })

    pub sets_oom_group : (flag : Bool) → g ≢ 0 → (l : Ledger) → l ≡ with_oom_flag m.ledger g flag → IsGroupStep t m (zone_makes (SetFlag g flag) Done) l m.killed
    sets_oom_group flag below l flagged = subst (λ (k : Ledger). IsGroupStep t m (zone_makes (SetFlag g flag) Done) k m.killed) (sym flagged) (record {
      step = zone_step (local_of t m) (lock_holder m) (SetFlag g flag) Done refl
          (and_from _ _ (and_from _ _ (zone_acts t m.run.past is) (seen_there g there)) (ap not (ne_eqb g 0 below))) tt;
      only = refl;
      groups = ap (λ (gs : List Group). (after_made (record (local_of t m) { groups = gs }) (zone_makes (SetFlag g flag) Done)).groups) shown.groups;
      room = room_of-flagged m.ledger.groups g flag;
      killed = shown.killed;
      follows = follows_flag (local_of t m) m.ledger g flag;
      counts = refl;
    })

    -- a group that goes
    pub removes : AreCharges m.ledger → has_child now.ledger.groups g ≡ false → g ≢ 0 → current_of now.ledger g ≡ 0 → (l : Ledger) → l ≡ with_group_removed m.ledger g
        → IsGroupStep t m (zone_makes (Remove g) Done) l m.killed
    removes charges leaf below empty l removed =
        let s = local_of t m in
        let no_child : has_child s.groups g ≡ false = ap (λ (gs : List Group). has_child gs g) shown.groups ∙ ap (λ (x : KnownMachine). has_child x.ledger.groups g) same ∙ leaf in
        let none : usage_of s g ≡ 0 = usage_is t m ok charges is g ∙ ap (λ (x : KnownMachine). current_of x.ledger g) same ∙ empty in
        let removable : is_removable s g ≡ true =
        and_from _ _ (and_from _ _ (and_from _ _ (seen_there g there) (ap not (ne_eqb g 0 below))) (ap not no_child)) (eq-eqb (usage_of s g) 0 none) in
        subst (λ (k : Ledger). IsGroupStep t m (zone_makes (Remove g) Done) k m.killed) (sym removed) (record {
          step = zone_step s (lock_holder m) (Remove g) Done refl (and_from _ _ (zone_acts t m.run.past is) removable) tt;
          only = refl;
          groups = ap (λ (gs : List Group). (after_made (record (local_of t m) { groups = gs }) (zone_makes (Remove g) Done)).groups) shown.groups;
          room = room_of-without m.ledger.groups g below;
          killed = shown.killed;
          follows = follows_remove s m.ledger g;
          counts = refl;
        })

  -- a group is made
  pub makes_group : (g : ℕ) (path : List ℕ) → g < length m.killed → None ≡ make_fault m.ledger.groups path → AreCharges m.ledger → IsLeastFreeNumber m.ledger.groups g
      → (l : Ledger) → l ≡ with_new_group m.ledger g path → (marks : List Bool) → marks ≡ slice_set m.killed g false
      → IsGroupStep t m (zone_makes (Make path) (Number g)) l marks
  makes_group g path inside allowed facts least l made marks cleared = subst (λ (x : Ledger × List Bool). IsGroupStep t m (zone_makes (Make path) (Number g)) x.0 x.1) (λ i. (sym made i, sym cleared i)) (record {
    step = zone_step (local_of t m) (lock_holder m) (Make path) (Number g) refl
        (and_from _ _ (zone_acts t m.run.past is) (ap (λ (gs : List Group). is_none (make_fault gs path)) shown.groups ∙ none_of (make_fault m.ledger.groups path) (sym allowed)))
        (subst (λ (gs : List Group). IsLeastFreeNumber gs g) (sym shown.groups) least);
    only = refl;
    groups = ap (λ (gs : List Group). (after_made (record (local_of t m) { groups = gs }) (zone_makes (Make path) (Number g))).groups) shown.groups;
    room = room_of-with m.ledger.groups g path;
    killed = marks_set (local_of t m).killed m.killed g false shown.killed inside;
    follows = follows_make (local_of t m) m.ledger path g facts least;
    counts = refl;
  })

  pub adds : (l : Ledger) (marks : List Bool) (g : ℕ) (path : List ℕ) → IsLeastFreeNumber m.ledger.groups g → l ≡ with_new_group m.ledger g path
      → marks ≡ slice_set m.killed g false → (run : KnownRun) → AddsGroup g path now (record m { ledger = l; killed = marks; run = run })
  adds l marks g path least is_new set run = record {
    least = subst (λ (k : KnownMachine). IsLeastFreeNumber k.ledger.groups g) same least;
    machine = (λ i. record m { ledger = is_new i; killed = set i; run = run })
        ∙ ap (λ (k : KnownMachine). record k { ledger = with_new_group k.ledger g path; killed = slice_set k.killed g false; run = run }) same;
  }

-- ---- no step

-- what is set for a group binds no step
pub settings_consistent : (t : KnownTable) (m : KnownMachine) (l : Ledger) (g : ℕ) (settings : ReclaimSettings) → l ≡ with_settings m.ledger g settings
    → IsConsistent t m → IsConsistent t (record m { ledger = l })
unfolding pages_of account_at
settings_consistent t m l g settings set ok = subst (λ (k : Ledger). IsConsistent t (record m { ledger = k })) (sym set) (record {
  choice = ok.choice;
  sizes = record { frame_states = ok.sizes.frame_states; links = ok.sizes.links; lists = ok.sizes.lists; killed = ok.sizes.killed };
  areas = ok.areas;
  frame_states = ok.frame_states;
  units = ok.units;
  lists = ok.lists;
  balances = ok.balances;
  shown = record {
    groups = ok.shown.groups;
    killed = ok.shown.killed;
    phases = ok.shown.phases;
    references = ok.shown.references;
    settled = ok.shown.settled;
    absorbed = ok.shown.absorbed;
    bounded = ok.shown.bounded;
    charged = ok.shown.charged;
  };
})

pub settings_make : (t : KnownTable) (m : KnownMachine) (g : ℕ) (settings : ReclaimSettings) → Makes t m [] (record m { ledger = with_settings m.ledger g settings })
settings_make t m g settings = record {
  holder = refl;
  leads = refl;
  follows = follows_settings (local_of t m) m.ledger g settings;
  counts = refl;
  noted = notes_none t m.run;
}

-- only the groups and the run are others, where the call did this to the groups
pub ledger_is : (m now : KnownMachine) → m ≡ now → (does : Ledger → Ledger) (ledger : Ledger) → ledger ≡ does m.ledger → (run : KnownRun)
    → record m { ledger = ledger; run = run } ≡ record now { ledger = does now.ledger; run = run }
ledger_is m now same does ledger is run = λ i. record (same i) { ledger = (is ∙ ap (λ (x : KnownMachine). does x.ledger) same) i; run = run }
