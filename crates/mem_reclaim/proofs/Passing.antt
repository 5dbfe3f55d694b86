-- Passes over a group and over the groups of a subtree. Serves all of `passes` and `reclaiming`.
use Rattle.std.proofs.Common.{◌≡◌, ◌≢◌, ℕ, ◌+◌, ◌-◌, ◌<◌, ◌≤◌, ◌==◌, ◌&&◌, Bool, true, false, List, [], ◌∷◌, ◌++◌, cond}
use Rattle.std.proofs.Common.{refl, sym, ap, ◌∙◌, subst, inl, inr, arith, nat_lt, suc}
use Rattle.std.specs.Prelude.{IfSome, Option, Some, None, filter, min, option_map}
use Rattle.std.specs.List.{range_with_len}
use Rattle.std.proofs.lemmas.Bool.{cases_eq, cases_lt, cond-false, cond-true, eq-eqb, false≢true, ne_eqb, not-true}
use Rattle.std.proofs.lemmas.Option.{none-some}
use Rattle.boot_words.specs.Pasts.{IsHeld}
use Rattle.group_tree.specs.declared.event.EventKey.TheVariants as event
use Rattle.group_tree.specs.declared.group.Group.{Group}
use Rattle.group_tree.specs.Groups.{AreGroups, in_subtree, room_of}
use Rattle.group_tree.proofs.CallerLemmas.{in_subtree-below}
use Rattle.group_charge.specs.declared.settings.ReclaimSettings.{ReclaimSettings}
use Rattle.group_charge.specs.Charges.{Ledger, are_protecting, current_of, with_noted}
use Rattle.group_charge.specs.declared.note.Note.{Note}
use Rattle.group_charge.specs.declared.note.Note.TheVariants as note
use Rattle.group_tree.proofs.CallerLemmas.{number_in_room}
use Rattle.group_charge.proofs.UsageLemmas.{usage-noted}
use Rattle.group_protection.specs.Protections.{effective, low_key, min_key}
use Rattle.group_protection.proofs.Effective.{nothing_set}
use Rattle.group_protection.proofs.Topping.{kept_by_min, kept_still}
use Rattle.lru_lists.specs.declared.record.LruList.{LruList}
use Rattle.lru_lists.specs.declared.record.LruList.TheVariants.{Inactive, Active}
use Rattle.step_rules.specs.declared.step.NoteKey.TheVariants as key
use Rattle.step_rules.specs.After.{Run}
use Rattle.boot_words.specs.Tables.{KnownTable}
use Rattle.mem_machine.specs.Machines.{KnownMachine, home_of, with_detail, with_run}
use Rattle.mem_machine.specs.Local.{Makes, StaysVisited}
use Rattle.mem_machine.specs.Clean.{clean_pages}
use Rattle.mem_machine.specs.Noted.{KnownRun}
use Rattle.mem_machine.specs.Ageing.{AgesGroup}
use Rattle.mem_machine.specs.Steps.{note_steps}
use Rattle.mem_reclaim.specs.Wanted.{WhileWanted, progress}
use Rattle.mem_reclaim.specs.Moves.{FreesPages, FreesBySteps}
use Rattle.mem_reclaim.specs.Units.{ScansList}
use Rattle.mem_reclaim.specs.declared.passes.Pass.{Pass}
use Rattle.mem_reclaim.specs.declared.passes.Pass.TheVariants.{First, Second, Third}
use Rattle.mem_reclaim.specs.Passes.{AgesAndScans, MakesPasses, NotesLowIf, PassesGroup, ReclaimsGroup, ReclaimsPass, TakesTurn, TakesTurnOf, is_first, is_last}
use Rattle.mem_reclaim.specs.Passes.{notes_spared, passes_of, spared_by, subtree_of}
use Rattle.mem_reclaim.specs.Shares.{TakesItsShare, part_of}
use Rattle.mem_reclaim.specs.Passes.{turn_want, with_detail_if}
use Rattle.mem_reclaim.specs.Staying.{Keeps, OnlyLeave, IsMissed, MissedAll, MissedOfGroup, MissedOrKept, UsageFalls}
use Rattle.mem_reclaim.proofs.Grown.{misses_after, parts_after}
use Rattle.mem_reclaim.proofs.Wanting.{SoFar, so_far_none, so_far_more, so_far_done, so_far_enough}
use Rattle.mem_reclaim.proofs.Moving.{moves_after_notes, moves_both, moves_none, moves_noted, moves_rest}
use Rattle.mem_reclaim.proofs.Rising.{rises_none}
use Rattle.mem_reclaim.proofs.Keeping.{keeps_after_notes, keeps_both, keeps_none, keeps_noted, keeps_owners, missed_still, only_both}

-- ---- a group's first pass

pub aged_leads : (t : KnownTable) (m aged n : KnownMachine) (g want freed : ℕ) → AgesGroup g m aged → Makes t m [] aged
    → FreesBySteps t freed aged n (ScansList true g Inactive want)
    → FreesBySteps t freed m n (AgesAndScans g want)
aged_leads t m aged n g want freed ages runs scans =
    let e : 0 + freed ≡ freed = omega arith in
    record {
      steps = scans.steps;
      does = record { aged = aged; ages = ages; scans = scans.does };
      moves = subst (λ (x : ℕ). FreesPages t m x scans.steps n) e
          (moves_both t m aged n 0 freed [] scans.steps
          (moves_none t m aged runs (ap (λ (x : KnownMachine). x.run) ages.machine) (ap (λ (x : KnownMachine). x.counts) ages.machine)) scans.moves);
    }

pub aged_keeps : (t : KnownTable) (m aged : KnownMachine) (g : ℕ) → AgesGroup g m aged → Keeps t m aged
aged_keeps t m aged g ages = keeps_owners t m aged ages.machine ages.owners

-- usage falls by both parts
pub usage_both : (t : KnownTable) (a b c : KnownMachine) (g x some more : ℕ) → Keeps t a b
    → (in_subtree a.ledger.groups x g ≡ true → current_of b.ledger x + some ≡ current_of a.ledger x)
    → (in_subtree b.ledger.groups x g ≡ true → current_of c.ledger x + more ≡ current_of b.ledger x)
    → in_subtree a.ledger.groups x g ≡ true → current_of c.ledger x + (some + more) ≡ current_of a.ledger x
usage_both t a b c g x some more keeps first second below =
    let u = first below in
    let v = second (ap (λ (l : List Group). in_subtree l x g) keeps.groups ∙ below) in
    omega (arith, u, v)

pub aged_usage : (t : KnownTable) (m aged n : KnownMachine) (g x freed : ℕ) → AgesGroup g m aged
    → (in_subtree aged.ledger.groups x g ≡ true → current_of n.ledger x + freed ≡ current_of aged.ledger x)
    → in_subtree m.ledger.groups x g ≡ true → current_of n.ledger x + freed ≡ current_of m.ledger x
aged_usage t m aged n g x freed ages second below =
    let same = ap (λ (y : KnownMachine). current_of y.ledger x) ages.machine in
    let v = second (ap (λ (y : KnownMachine). in_subtree y.ledger.groups x g) ages.machine ∙ below) in
    omega (arith, same, v)

-- ---- a group's second pass

pub both_missed : (t : KnownTable) (m k n : KnownMachine) (g : ℕ) → Keeps t m k → Keeps t k n → OnlyLeave k n
    → ((f : ℕ) → IsMissed m k f (record { owner = g; list = Inactive })) → ((f : ℕ) → IsMissed k n f (record { owner = g; list = Active }))
    → (f : ℕ) (list : LruList) → IsMissed m n f (record { owner = g; list = list })
both_missed t m k n g first last only inactive active f Inactive =
    missed_still t m m k n (keeps_none t m) last only f (record { owner = g; list = Inactive }) (inactive f)
both_missed t m k n g first last only inactive active f Active =
    missed_still t m k n n first (keeps_none t n) (λ x h home. home) f (record { owner = g; list = Active }) (active f)

-- ---- the event of a third pass

-- the machine with one `low` more at the group, and this run
abbrev pub low_noted : KnownMachine → ℕ → KnownRun → KnownMachine
low_noted x g w = with_run (record x { ledger = with_noted event.Low x.ledger g }) w

-- what the third pass over a group leaves
pub record GroupGives (t : KnownTable) (of_min of_low used g want freed : ℕ) (m n : KnownMachine) : Type 0 where
  pub passes : FreesBySteps t freed m n (ReclaimsGroup Third of_min of_low used g want)
  pub keeps : Keeps t m n
  pub usage : UsageFalls g freed m n
  pub leaves : OnlyLeave m n
  pub missed : freed < want → MissedOfGroup g m n

module _ (t : KnownTable) (of_min of_low usage g want freed : ℕ) (m x : KnownMachine) (leads : FreesBySteps t freed m x (PassesGroup false g want)) where
  abbrev detail : Note
  detail = note.Low g usage of_min of_low

  abbrev breaks : Bool
  breaks = nat_lt of_min of_low && nat_lt 0 freed

  -- memory.low isn't broken
  pub low_holds : breaks ≡ false → FreesBySteps t freed m x (ReclaimsGroup Third of_min of_low usage g want)
  low_holds off = record {
    steps = leads.steps;
    does = subst (λ (b : Bool). NotesLowIf b g detail (PassesGroup false g want) (progress freed m leads.steps x)) (sym off) leads.does;
    moves = leads.moves;
  }

  module _ (w : KnownRun) (held : IsHeld t x.run.past) (runs : Makes t x (note_steps key.Low g) (low_noted x g w)) where
    same_usage : (h : ℕ) → current_of (low_noted x g w).ledger h ≡ current_of x.ledger h
    same_usage h = usage-noted event.Low x.ledger.groups x.ledger.accounts g h

    low_moves : FreesPages t x 0 (note_steps key.Low g) (low_noted x g w)
    low_moves = record {
      runs = runs;
      pages = refl;
      no_kill = refl;
      misses = misses_after t x (note_steps key.Low g) (low_noted x g w) runs held;
      returned = rises_none x.counts.freezes x.counts.freezes refl;
      missed = rises_none x.counts.misses x.counts.misses refl;
    }

    low_keeps : StaysVisited t x (low_noted x g w) → Keeps t x (low_noted x g w)
    low_keeps visit = record {
      stocks = λ p. parts_after t x (note_steps key.Low g) (low_noted x g w) runs held p refl;
      killed = refl;
      groups = refl;
      settings = refl;
      usage = λ h. let e = same_usage h in omega (arith, e);
      visit = visit;
      dirty = λ f is. record { kept = is.kept; dirty = is.dirty };
      owners = λ f kept. refl;
      dirt = λ f kept. refl;
      misses = λ f. let e = misses_after t x (note_steps key.Low g) (low_noted x g w) runs held f in omega (arith, e);
    }

    low_gives : breaks ≡ true → StaysVisited t x (low_noted x g w) → Keeps t m x → UsageFalls g freed m x → OnlyLeave m x
        → (freed < want → MissedOfGroup g m x) → GroupGives t of_min of_low usage g want freed m (with_detail (low_noted x g w) detail)
    low_gives on visit keeps falls leaves missed =
        let e : freed + 0 ≡ freed = omega arith in
        let n = with_detail (low_noted x g w) detail in
        let steps = leads.steps ++ note_steps key.Low g in
        record {
          passes = record {
            steps = steps;
            does = subst (λ (b : Bool). NotesLowIf b g detail (PassesGroup false g want) (progress freed m steps n)) (sym on)
                (record { reclaimed = x; earlier = leads.steps; seen = w; does = leads.does; noted = refl; steps_are = refl });
            moves = moves_noted t m (low_noted x g w) freed steps n.notes
                (subst (λ (k : ℕ). FreesPages t m k steps (low_noted x g w)) e
                (moves_both t m x (low_noted x g w) freed 0 leads.steps (note_steps key.Low g) leads.moves low_moves));
          };
          keeps = keeps_noted t m (low_noted x g w) n.notes (keeps_both t m x (low_noted x g w) keeps (low_keeps visit));
          usage = λ h below. let a = same_usage h in let u = falls h below in omega (arith, a, u);
          leaves = λ f h home. leaves f h home;
          missed = λ less f list home clean.
              let more = missed less f list home clean in
              let e = misses_after t x (note_steps key.Low g) (low_noted x g w) runs held f in
              omega (arith, more, e);
        }

-- memory.low was broken, and that is noted
pub low_broken : (t : KnownTable) (of_min of_low usage g want freed : ℕ) (m x n last : KnownMachine) → FreesBySteps t freed m x (PassesGroup false g want) → IsHeld t x.run.past
    → n ≡ low_noted x g n.run → Makes t x (note_steps key.Low g) n → StaysVisited t x n → last ≡ with_detail n (note.Low g usage of_min of_low)
    → (nat_lt of_min of_low && nat_lt 0 freed) ≡ true → Keeps t m x → UsageFalls g freed m x → OnlyLeave m x
    → (freed < want → MissedOfGroup g m x) → GroupGives t of_min of_low usage g want freed m last
low_broken t of_min of_low usage g want freed m x n last leads held is runs visit detailed on keeps falls leaves missed =
    subst (GroupGives t of_min of_low usage g want freed m) (sym (detailed ∙ ap (λ (k : KnownMachine). with_detail k (note.Low g usage of_min of_low)) is))
    (low_gives t of_min of_low usage g want freed m x leads n.run held (subst (Makes t x (note_steps key.Low g)) is runs) on (subst (StaysVisited t x) is visit) keeps falls leaves missed)

-- ---- a turn

pub last_not_first : (pass : Pass) (settings : List ReclaimSettings) → is_last pass settings ≡ true → is_first pass ≡ false
last_not_first First settings last = absurd (false≢true last)
last_not_first Second settings last = refl
last_not_first Third settings last = refl

-- a detail changes the notes alone
pub only_noted : (b : Bool) (m x : KnownMachine) (detail : Note) → x ≡ with_detail_if b m detail → x ≡ record m { notes = x.notes }
only_noted b m x detail is = subst (λ (k : KnownMachine). k ≡ record m { notes = k.notes }) (sym is) (at b)
  where
    at : (c : Bool) → with_detail_if c m detail ≡ record m { notes = (with_detail_if c m detail).notes }
    at true = refl
    at false = refl

pub record TurnTaken (t : KnownTable) (pass : Pass) (target g want freed : ℕ) (m n : KnownMachine) : Type 0 where
  pub turn : FreesBySteps t freed m n (TakesTurn pass target g want)
  pub keeps : Keeps t m n
  pub usage : UsageFalls g freed m n
  pub few : freed < want + 1024
  pub leaves : is_first pass ≡ false → OnlyLeave m n
  pub tried : is_last pass m.ledger.settings ≡ true → freed < want → MissedOrKept target g m n

-- the turn begins with the machine `x`, in which what protects the group may be noted
module _ (t : KnownTable) (pass : Pass) (target g want of_min of_low usage spared wanted : ℕ) (m x : KnownMachine) (l : Ledger) (same : l ≡ m.ledger)
    (facts : AreGroups l.groups) (below : in_subtree m.ledger.groups target g ≡ true) (least : of_min ≡ effective min_key l target g)
    (low : of_low ≡ effective low_key l target g) (uses : usage ≡ current_of l g) (spares : spared ≡ spared_by pass of_min of_low)
    (wants : wanted ≡ turn_want want usage spared)
    (begins : x ≡ with_detail_if (notes_spared pass (clean_pages m g) want wanted) m (note.Spared g usage of_min of_low)) where
  min_is : of_min ≡ effective min_key m.ledger target g
  min_is = least ∙ ap (λ (k : Ledger). effective min_key k target g) same

  low_is : of_low ≡ effective low_key m.ledger target g
  low_is = low ∙ ap (λ (k : Ledger). effective low_key k target g) same

  usage_is : usage ≡ current_of m.ledger g
  usage_is = uses ∙ ap (λ (k : Ledger). current_of k g) same

  is : wanted ≡ turn_want want usage (spared_by pass of_min of_low)
  is = wants ∙ (λ i. turn_want want usage (spares i))

  notes_alone : x ≡ record m { notes = x.notes }
  notes_alone = only_noted (notes_spared pass (clean_pages m g) want wanted) m x (note.Spared g usage of_min of_low) begins

  begins_so : x ≡ with_detail_if (notes_spared pass (clean_pages m g) want (turn_want want usage (spared_by pass of_min of_low))) m (note.Spared g usage of_min of_low)
  begins_so = begins ∙ (λ i. with_detail_if (notes_spared pass (clean_pages m g) want (is i)) m (note.Spared g usage of_min of_low))

  as_turn : (freed : ℕ) (steps : Run) (n : KnownMachine) → TakesTurnOf pass of_min of_low usage g want (progress freed m steps n)
      → TakesTurn pass target g want (progress freed m steps n)
  as_turn freed steps n = subst (λ (v : ℕ × ℕ × ℕ). TakesTurnOf pass v.0 v.1 v.2 g want (progress freed m steps n)) (λ i. (min_is i, low_is i, usage_is i))

  -- the last pass spares what memory.min protects
  last_spares_min : (p : Pass) → is_last p m.ledger.settings ≡ true → spared_by p of_min of_low ≡ of_min
  last_spares_min First last = absurd (false≢true last)
  last_spares_min Second last =
      let off = not-true (are_protecting m.ledger.settings) last in
      let a : of_min ≡ 0 = min_is ∙ nothing_set min_key m.ledger target g off in
      let b : of_low ≡ 0 = low_is ∙ nothing_set low_key m.ledger target g off in
      omega (arith, a, b)
  last_spares_min Third last = refl

  kept : (n : KnownMachine) → Keeps t m n → is_last pass m.ledger.settings ≡ true → spared ≢ 0 → current_of n.ledger g ≤ spared → MissedOrKept target g m n
  kept n keeps last some few =
      let e = spares ∙ last_spares_min pass last in
      inr (kept_by_min m.ledger n.ledger target g keeps.groups keeps.settings keeps.usage
      (λ none. some (e ∙ min_is ∙ none)) (omega (arith, few, e, min_is)))

  wants_all : spared ≡ 0 → wanted ≡ want
  wants_all none = wants ∙ cond-true (spared == 0) want (min want (usage - spared)) (eq-eqb spared 0 none)

  wants_rest : spared ≢ 0 → wanted ≡ min want (usage - spared)
  wants_rest some = wants ∙ cond-false (spared == 0) want (min want (usage - spared)) (ne_eqb spared 0 some)

  -- nothing is wanted
  pub turn_none : wanted ≡ 0 → TurnTaken t pass target g want 0 m x
  turn_none none =
      let keeps : Keeps t m x = subst (Keeps t m) (sym notes_alone) (keeps_noted t m m x.notes (keeps_none t m)) in
      let uses_same = ap (λ (k : KnownMachine). current_of k.ledger g) notes_alone in
      record {
        turn = record {
          steps = [];
          does = as_turn 0 [] x (inl (sym is ∙ none, record { no_page = refl; machine = begins_so; no_step = refl }));
          moves = subst (FreesPages t m 0 []) (sym notes_alone) (moves_noted t m m 0 [] x.notes (moves_rest t m));
        };
        keeps = keeps;
        usage = λ above inside. let e = ap (λ (k : KnownMachine). current_of k.ledger above) notes_alone in omega (arith, e);
        few = omega arith;
        leaves = λ off f h home. sym (ap (λ (k : KnownMachine). home_of k.links f) notes_alone) ∙ home;
        tried = λ last less. elim (cases_eq spared 0) [
          | inl all ↦ let e = wants_all all in absurd (omega (arith, e, none, less))
          | inr more ↦ let e = wants_rest more in kept x keeps last more (omega (arith, e, none, less, uses_same, usage_is))
        ];
      }

  -- the turn has begun
  pub turn_some : wanted ≢ 0 → (freed : ℕ) (n : KnownMachine) → FreesBySteps t freed x n (ReclaimsGroup pass of_min of_low usage g wanted)
      → Keeps t x n → in_subtree m.ledger.groups g g ≡ true → UsageFalls g freed x n → freed < wanted + 1024
      → (is_first pass ≡ false → OnlyLeave x n) → (is_first pass ≡ false → freed < wanted → MissedOfGroup g x n) → TurnTaken t pass target g want freed m n
  turn_some some freed n leads keeps own falls few leaves missed =
      let still : Keeps t m n = keeps_after_notes t m n x.notes (subst (λ (k : KnownMachine). Keeps t k n) notes_alone keeps) in
      let fell : UsageFalls g freed m n = subst (λ (k : KnownMachine). UsageFalls g freed k n) notes_alone falls in
      record {
        turn = record {
          steps = leads.steps;
          does = as_turn freed leads.steps n (inr (
            omega (arith, is, some),
            subst (λ (v : ℕ × KnownMachine). ReclaimsGroup pass of_min of_low usage g v.0 (progress freed v.1 leads.steps n)) (λ i. (is i, begins_so i)) leads.does,
          ));
          moves = moves_after_notes t m n freed leads.steps x.notes (subst (λ (k : KnownMachine). FreesPages t k freed leads.steps n) notes_alone leads.moves);
        };
        keeps = still;
        usage = fell;
        few = elim (cases_eq spared 0) [
          | inl all ↦ let e = wants_all all in omega (arith, e, few)
          | inr more ↦ let e = wants_rest more in omega (arith, e, few)
        ];
        leaves = λ off. subst (λ (k : KnownMachine). OnlyLeave k n) notes_alone (leaves off);
        tried = λ last less.
            let clean : freed < wanted → MissedOfGroup g m n = λ fewer. subst (λ (k : KnownMachine). MissedOfGroup g k n) notes_alone (missed (last_not_first pass m.ledger.settings last) fewer) in
            elim (cases_eq spared 0) [
              | inl all ↦ let e = wants_all all in inl (clean (omega (arith, e, less)))
              | inr more ↦ elim (cases_lt freed wanted) [
                | inl fewer ↦ inl (clean fewer)
                | inr enough ↦
                    let e = wants_rest more in
                    let u = fell g own in
                    kept n still last more (omega (arith, e, u, less, enough, usage_is))
              ]
            ];
      }

-- what was tried stays tried, also counted from before
tried_still : (t : KnownTable) (target other : ℕ) (a b c d : KnownMachine) → Keeps t a b → Keeps t c d → OnlyLeave c d → MissedOrKept target other b c → MissedOrKept target other a d
tried_still t target other a b c d first last only (inl missed) = inl (λ f list. missed_still t a b c d first last only f (record { owner = other; list = list }) (missed f list))
tried_still t target other a b c d first last only (inr kept) = inr (kept_still a.ledger b.ledger c.ledger d.ledger target other last.groups last.settings first.usage last.usage kept)

-- ---- a pass

-- a turn of the pass wants at most what is wanted, and all of it if the pass is the last
part_few : (shares : Option (ℕ → ℕ)) (group want : ℕ) → part_of shares group want ≤ want
part_few None group want = omega arith
part_few (Some share) group want = omega arith

part_all : (shares : Option (ℕ → ℕ)) (pass : Pass) (settings : List ReclaimSettings) (group want : ℕ) → (shares ≢ None → is_first pass ≡ true) → is_last pass settings ≡ true
    → part_of shares group want ≡ want
part_all None pass settings group want first last = refl
part_all (Some share) pass settings group want first last = absurd (false≢true (sym (last_not_first pass settings last) ∙ first (λ none. none-some share (sym none))))

pub shares_first : {A : Type 0} (f : A → ℕ → ℕ) (o : Option A) (first : Bool) → (o ≢ None → first ≡ true) → option_map f o ≢ None → first ≡ true
shares_first f None first given some = absurd (some refl)
shares_first f (Some x) first given some = given (λ none. none-some x (sym none))

-- shares of as many numbers have a place for each lesser one
pub share_inside : {A : Type 0} (o : Option A) (room_in : A → ℕ) (room g : ℕ) → IfSome o (λ s. room_in s ≡ room) → g < room → IfSome o (λ s. g < room_in s)
share_inside None room_in room g is low = tt
share_inside (Some s) room_in room g is low = omega (arith, is, low)

-- the groups of the subtree from this number on
abbrev pub groups_from : List Group → (g k : ℕ) → List ℕ
groups_from groups g k = filter (in_subtree groups g) (range_with_len k (room_of groups - k))

next_group : (groups : List Group) (g k : ℕ) → k < room_of groups
    → groups_from groups g k ≡ cond (in_subtree groups g k) (k ∷ groups_from groups g (k + 1)) (groups_from groups g (k + 1))
next_group groups g k low =
    let e : room_of groups - k ≡ suc (room_of groups - (k + 1)) = omega (arith, low) in
    ap (λ n. filter (in_subtree groups g) (range_with_len k n)) e

-- the groups of lesser numbers had their turn
pub record PassSoFar (t : KnownTable) (shares : Option (ℕ → ℕ)) (pass : Pass) (g want : ℕ) (m : KnownMachine) (k freed : ℕ) (now : KnownMachine) : Type 0 where
  pub so_far : SoFar t (TakesItsShare shares pass g) (subtree_of m.ledger.groups g) want m (groups_from m.ledger.groups g k) freed now
  pub keeps : Keeps t m now
  pub usage : current_of now.ledger g + freed ≡ current_of m.ledger g
  pub few : freed < want + 1024
  pub leaves : is_first pass ≡ false → OnlyLeave m now
  pub tried : is_last pass m.ledger.settings ≡ true → freed < want → (other : ℕ) → other < k → in_subtree m.ledger.groups g other ≡ true
      → MissedOrKept g other m now

pub pass_none : (t : KnownTable) (shares : Option (ℕ → ℕ)) (pass : Pass) (g want : ℕ) (m : KnownMachine) → PassSoFar t shares pass g want m 0 0 m
unfolding subtree_of
pass_none t shares pass g want m = record {
  so_far = subst (λ (l : List ℕ). SoFar t (TakesItsShare shares pass g) (subtree_of m.ledger.groups g) want m l 0 m)
      (ap (λ (n : ℕ). filter (in_subtree m.ledger.groups g) (range_with_len 0 n)) (omega arith)) (so_far_none t (TakesItsShare shares pass g) (subtree_of m.ledger.groups g) want m);
  keeps = keeps_none t m;
  usage = omega arith;
  few = omega arith;
  leaves = λ off f h home. home;
  tried = λ last less other low inside. absurd (omega (arith, low));
}

module _ (t : KnownTable) (shares : Option (ℕ → ℕ)) (pass : Pass) (g want : ℕ) (m : KnownMachine) (k freed : ℕ) (now : KnownMachine)
    (s : PassSoFar t shares pass g want m k freed now) where
  -- the same group in the tree as it is now
  as_first : (inside : Bool) (turn : ℕ) → turn ≡ k → in_subtree now.ledger.groups g turn ≡ inside → in_subtree m.ledger.groups g k ≡ inside
  as_first inside turn at is = (λ i. in_subtree (sym s.keeps.groups i) g (sym at i)) ∙ is

  -- the group of the turn is there
  pub turn_inside : AreGroups m.ledger.groups → (turn : ℕ) → in_subtree now.ledger.groups g turn ≡ true → turn < room_of m.ledger.groups
  turn_inside facts turn is =
      number_in_room m.ledger.groups turn facts (in_subtree-below m.ledger.groups g turn (ap (λ (l : List Group). in_subtree l g turn) (sym s.keeps.groups) ∙ is))

  pub pass_skips : (turn : ℕ) → turn ≡ k → k < room_of m.ledger.groups → in_subtree now.ledger.groups g turn ≡ false → PassSoFar t shares pass g want m (k + 1) freed now
  pass_skips turn at low away =
      let out = as_first false turn at away in
      record {
        so_far = subst (λ (l : List ℕ). SoFar t (TakesItsShare shares pass g) (subtree_of m.ledger.groups g) want m l freed now)
            (next_group m.ledger.groups g k low ∙ cond-false (in_subtree m.ledger.groups g k) _ _ out) s.so_far;
        keeps = s.keeps;
        usage = s.usage;
        few = s.few;
        leaves = s.leaves;
        tried = λ last less other before inside. elim (cases_eq other k) [
          | inl e ↦ absurd (false≢true (sym out ∙ ap (in_subtree m.ledger.groups g) (sym e) ∙ inside))
          | inr ne ↦ s.tried last less other (omega (arith, before, ne)) inside
        ];
      }

  pub pass_more : (shares ≢ None → is_first pass ≡ true) → freed < want → (turn : ℕ) → turn ≡ k → k < room_of m.ledger.groups → in_subtree now.ledger.groups g turn ≡ true
      → (part some : ℕ) (then : KnownMachine) → part ≡ part_of shares turn (want - freed) → FreesBySteps t some now then (TakesTurn pass g turn part)
      → Keeps t now then → UsageFalls turn some now then → some < part + 1024 → (is_first pass ≡ false → OnlyLeave now then)
      → (is_last pass now.ledger.settings ≡ true → some < part → MissedOrKept g turn now then) → PassSoFar t shares pass g want m (k + 1) (freed + some) then
  pass_more first wanted turn at low inside part some then part_is leads keeps usage few leaves tried =
      let here = as_first true turn at inside in
      let later = groups_from m.ledger.groups g (k + 1) in
      record {
        so_far = so_far_more t (TakesItsShare shares pass g) (subtree_of m.ledger.groups g) want m turn later freed now
            (subst (λ (l : List ℕ). SoFar t (TakesItsShare shares pass g) (subtree_of m.ledger.groups g) want m l freed now)
            (next_group m.ledger.groups g k low ∙ cond-true (in_subtree m.ledger.groups g k) (k ∷ later) later here ∙ ap (λ (x : ℕ). x ∷ later) (sym at)) s.so_far) wanted some then
            (subst (λ (x : ℕ). FreesBySteps t some now then (TakesTurn pass g turn x)) part_is leads);
        keeps = keeps_both t m now then s.keeps keeps;
        usage = let a = s.usage in let b = usage g inside in omega (arith, a, b);
        few = let most = part_few shares turn (want - freed) in omega (arith, wanted, few, part_is, most);
        leaves = λ off. only_both m now then (s.leaves off) (leaves off);
        tried = λ last less other before inside_too. elim (cases_eq other k) [
          | inl e ↦
              tried_still t g other m now then then s.keeps (keeps_none t then) (λ x y home. home)
              (subst (λ (x : ℕ). MissedOrKept g x now then) (at ∙ sym e) (tried (ap (is_last pass) s.keeps.settings ∙ last)
              (let all_of_it = part_all shares pass m.ledger.settings turn (want - freed) first last in omega (arith, less, wanted, part_is, all_of_it))))
          | inr ne ↦
              tried_still t g other m m now then (keeps_none t m) keeps (leaves (last_not_first pass m.ledger.settings last))
              (s.tried last (omega (arith, less)) other (omega (arith, before, ne)) inside_too)
        ];
      }

  pub pass_enough : want ≤ freed → FreesBySteps t freed m now (WhileWanted (TakesItsShare shares pass g) (subtree_of m.ledger.groups g) want)
  pass_enough enough = so_far_enough t (TakesItsShare shares pass g) (subtree_of m.ledger.groups g) want m (groups_from m.ledger.groups g k) freed now s.so_far enough

  pub pass_done : room_of m.ledger.groups ≤ k → FreesBySteps t freed m now (WhileWanted (TakesItsShare shares pass g) (subtree_of m.ledger.groups g) want)
  pass_done past =
      let none : room_of m.ledger.groups - k ≡ 0 = omega (arith, past) in
      so_far_done t (TakesItsShare shares pass g) (subtree_of m.ledger.groups g) want m freed now
      (subst (λ (l : List ℕ). SoFar t (TakesItsShare shares pass g) (subtree_of m.ledger.groups g) want m l freed now)
      (ap (λ n. filter (in_subtree m.ledger.groups g) (range_with_len k n)) none) s.so_far)

  -- each group of the subtree had its turn
  pub all_tried : AreGroups m.ledger.groups → room_of m.ledger.groups ≤ k → is_last pass m.ledger.settings ≡ true → freed < want → MissedAll g m now
  all_tried facts past last less other inside =
      let there : in_subtree m.ledger.groups g other ≡ true = ap (λ (l : List Group). in_subtree l g other) (sym s.keeps.groups) ∙ inside in
      let low = number_in_room m.ledger.groups other facts (in_subtree-below m.ledger.groups g other there) in
      s.tried last less other (omega (arith, low, past)) there

-- without shares it is a pass of the reclaim
pub as_pass : (t : KnownTable) (pass : Pass) (g want freed : ℕ) (m n : KnownMachine)
    → FreesBySteps t freed m n (WhileWanted (TakesItsShare None pass g) (subtree_of m.ledger.groups g) want) → FreesBySteps t freed m n (ReclaimsPass g pass want)
as_pass t pass g want freed m n leads = record { steps = leads.steps; does = leads.does; moves = leads.moves }

-- ---- all passes

-- what the last pass missed was missed in the whole
pub all_missed : (t : KnownTable) (g : ℕ) (m k n : KnownMachine) → Keeps t m k → MissedAll g k n → MissedAll g m n
all_missed t g m k n first missed other inside = tried_still t g other m k n n first (keeps_none t n) (λ x y home. home) (missed other inside)

-- these passes are those of a reclaim
pub as_passes : (t : KnownTable) (g want freed : ℕ) (m n : KnownMachine) (passes : List Pass) → passes_of m.ledger.settings ≡ passes
    → FreesBySteps t freed m n (WhileWanted (ReclaimsPass g) passes want) → FreesBySteps t freed m n (MakesPasses g want)
as_passes t g want freed m n passes are leads = record {
  steps = leads.steps;
  does = subst (λ (l : List Pass). WhileWanted (ReclaimsPass g) l want (progress freed m leads.steps n)) (sym are) leads.does;
  moves = leads.moves;
}

-- the third pass is made if something is protected
pub with_third : (b : Bool) (settings : List ReclaimSettings) → are_protecting settings ≡ b → passes_of settings ≡ First ∷ Second ∷ cond b (Third ∷ []) []
with_third b settings is = ap (λ (x : Bool). First ∷ Second ∷ cond x (Third ∷ []) []) is
