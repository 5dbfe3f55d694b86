-- A free frame goes to the list of the visited CPU, or the front of its list is free again. Serves `lend_one`, `lend` and
-- `unlist_one`.
use Rattle.std.proofs.Common.{◌≡◌, ℕ, ◌<◌, ◌≤◌, Bool, true, false, Option, Some, None, List, [], ◌∷◌, ◌++◌, length, get_or, refl, sym, ap, ◌∙◌, subst, inl, inr, arith, eq-eqb}
use Rattle.std.specs.List.{fold}
use Rattle.std.specs.Prelude.{slice_set}
use Rattle.std.proofs.lemmas.Bool.{and_from, cases_eq, lt-ltb}
use Rattle.std.proofs.lemmas.List.{get_or-set_other, get_or-set_same, length-set}
use Rattle.std.proofs.lemmas.Option.{none-some}
use Rattle.zone_blocks.specs.declared.block.Block.{Block}
use Rattle.zone_blocks.specs.{AreMaximalBlocks, HasNoneFrom, IsFree, IsFrontOfSmallest, TakesFrames}
use Rattle.lru_lists.specs.declared.record.Home.{Home}
use Rattle.step_rules.specs.declared.phase.Way.TheVariants.{OnList, PassingOut}
use Rattle.step_rules.specs.declared.phase.Phase.{Phase}
use Rattle.step_rules.specs.declared.phase.Phase.TheVariants as phase
use Rattle.step_rules.specs.declared.step.Action.TheVariants.{PassOut, TakeIn}
use Rattle.step_rules.specs.declared.step.Answer.TheVariants.{Done}
use Rattle.step_rules.specs.Phases as phases
use Rattle.step_rules.specs.{told_pages, Part, Zone, is_frame, with_at, is_legal, Run, after, with_listed, IsLocalRun}
use Rattle.step_rules.specs.State.{State}
use Rattle.step_rules.proofs.Basics.{at_other, at_same}
use Rattle.boot_words.specs.{AreLegal, hide, hide_phase, KnownTable}
use Rattle.cpu_part.specs.Cpus.{KnownCpuLists}
use Rattle.mem_machine.specs.declared.frame_state.FrameState.{FrameState}
use Rattle.mem_machine.specs.declared.frame_state.FrameState.TheVariants.{Free, Lent, Head, Tail}
use Rattle.mem_machine.specs.{AreBooked, AreOwners, counts_along, frame_state_at, frame_state_group, free_of, head_group_of, is_free_state}
use Rattle.mem_machine.specs.{phase_hidden, LendsFrame, LendsNone, LendsOne, Visits, local_of, visit_state, KnownMachine, VisitState, FitsFrameState}
use Rattle.mem_machine.specs.{IsConsistent, IsShownBy, home_of, left_by, pages_booked, AreLocal, KnownRun, Records, after_made, lend_steps}
use Rattle.group_tree.specs.Groups.{room_of}
use Rattle.mem_machine.proofs.Followed.{are_still, follows_same}
use Rattle.mem_machine.proofs.HandOvers.{IsVisited}
use Rattle.mem_machine.proofs.Hiding.{is_free_seen}
use Rattle.mem_machine.proofs.Made.{visits_here, zone_seen}
use Rattle.mem_machine.proofs.Moved.{AllMoved, books_stay, is_visited, left_moved, makes_moved, number_range, own_moved, owners_moved, shown_moved, sums_moved, visit_moved}
use Rattle.mem_machine.proofs.Noted.{local_legal}
use Rattle.mem_machine.proofs.Reaching.{cpu_step, zone_step}
use Rattle.mem_machine.proofs.Records.{charges_stay, covers_one, free_at, free_inside, free_is, free_taken, units_stay}
use Rattle.mem_machine.proofs.Sight.{left_seen, shown_seen}

-- ---- one frame's record changes, which is charged neither before nor after, and the CPU's part

-- a frame that heads no unit is on no list
no_list : (room : ℕ) (home : Option Home) (x : FrameState) → FitsFrameState room home x → head_group_of x ≡ None → home ≡ None
no_list room None x fits none = refl
no_list room (Some h) x fits none = absurd (none-some h.owner (sym none ∙ fits.1))

unheaded : (x : FrameState) → frame_state_group x ≡ None → head_group_of x ≡ None
unheaded Free is = refl
unheaded (Lent q) is = refl
unheaded (Head unit) is = is
unheaded (Tail g) is = refl

module _ (t : KnownTable) (m : KnownMachine) (c : KnownCpuLists) (ok : IsConsistent t m) (visit : Visits t m c) (f : ℕ) (inside : f < t.frames)
    (r : FrameState) (was : frame_state_group (frame_state_at m.frame_states f) ≡ None) (now : frame_state_group r ≡ None)
    (ph : ℕ → Phase) (phases_are : (y : ℕ) → hide_phase (ph y) ≡ phase_hidden (frame_state_at (slice_set m.frame_states f r) y))
    (part : Part) (told : told_pages part ≡ told_pages ((local_of t m).parts c.number)) (book : part.book ≡ ((local_of t m).parts c.number).book)
    (group : part.stock.group ≡ ((local_of t m).parts c.number).stock.group)
    (list : List ℕ) (listed : part.list ≡ list) (fresh : part.fresh ≡ c.fresh) (back : part.back ≡ c.back)
    (steps : Run) (leads : IsLocalRun c.number (local_of t m) steps (record (local_of t m) { phases = ph; parts = with_at (local_of t m).parts c.number part; references = (local_of t m).references }))
    (still : are_still steps ≡ true) (counts : m.counts ≡ counts_along (local_of t m) steps m.counts)
    (blocks : List Block) (areas : AreMaximalBlocks (free_of (slice_set m.frame_states f r)) blocks) (run : KnownRun) (noted : Records t m.run steps run) where
  abbrev s : State
  s = local_of t m

  abbrev x : State
  x = record (local_of t m) { phases = ph; parts = with_at (local_of t m).parts c.number part; references = (local_of t m).references }

  abbrev n : KnownMachine
  n = record m { blocks = blocks; frame_states = slice_set m.frame_states f r; run = run }

  abbrev d : KnownCpuLists
  d = record c { list = list; fresh = c.fresh; back = c.back }

  within : f < length m.frame_states
  within = let sized = ok.sizes.frame_states in omega (arith, sized, inside)

  books : (h : ℕ) → pages_booked t.cpus (with_at (local_of t m).parts c.number part) h ≡ pages_booked t.cpus (local_of t m).parts h
  books = books_stay t.cpus (local_of t m).parts c.number (number_range t m c visit).1 part book group

  fits : (y : ℕ) → y < t.frames → FitsFrameState (room_of m.ledger.groups) (home_of m.links y) (frame_state_at (slice_set m.frame_states f r) y)
  fits y low = elim (cases_eq y f) [
    | inl e ↦
        let none = no_list (room_of m.ledger.groups) (home_of m.links f) (frame_state_at m.frame_states f) (ok.frame_states f inside) (unheaded (frame_state_at m.frame_states f) was) in
        subst (λ (h : Option Home). FitsFrameState (room_of m.ledger.groups) h (frame_state_at (slice_set m.frame_states f r) y)) (sym (ap (home_of m.links) e ∙ none)) tt
    | inr ne ↦ subst (FitsFrameState (room_of m.ledger.groups) (home_of m.links y)) (sym (get_or-set_other m.frame_states f y r Free ne)) (ok.frame_states y low)
  ]

  shown : IsShownBy t m (hide (local_of t m))
  shown = shown_seen t m ok visit.held

  left : left_by t run.past ≡ hide x
  left = left_moved t m c visit n d steps x noted leads

  pub consistent_moved : IsConsistent t (record m { blocks = blocks; frame_states = slice_set m.frame_states f r; run = run })
  consistent_moved = record {
    choice = ok.choice;
    sizes = record { frame_states = length-set m.frame_states f r ∙ ok.sizes.frame_states; links = ok.sizes.links; lists = ok.sizes.lists; killed = ok.sizes.killed };
    areas = areas;
    frame_states = fits;
    units = units_stay m.frame_states f r within was now ok.units;
    lists = ok.lists;
    balances = ok.balances;
    shown = subst (IsShownBy t n) (sym left) (shown_moved t m n s shown c.number part ph s.references refl refl phases_are shown.references told
        (let same = book in omega (arith, same))
        (λ h. let a = shown.charged h in let b = charges_stay m.frame_states f r within was now h in let e = books h in omega (arith, a, b, e)));
  }

  pub all_moved : (Does : VisitState → VisitState → Type 0) (sums : List ℕ) (owners : List (Option ℕ)) → AreBooked (length m.killed) t.cpus (left_by t m.run.past).parts sums → AreOwners t.cpus (left_by t m.run.past).parts owners
      → Does (visit_state m c) (visit_state (record m { blocks = blocks; frame_states = slice_set m.frame_states f r; run = run }) (record c { list = list; fresh = c.fresh; back = c.back }))
      → AllMoved t m c Does steps (record m { blocks = blocks; frame_states = slice_set m.frame_states f r; run = run }) (record c { list = list; fresh = c.fresh; back = c.back })
      (free_of (slice_set m.frame_states f r)) sums owners
  all_moved Does sums owners are own does =
      let seen = left_seen t m.run.past visit.held in
      let here = subst (λ (u : State). AreBooked (length m.killed) t.cpus u.parts sums) seen are in
      record {
        consistent = consistent_moved;
        free_is = refl;
        sums_are = subst (λ (u : State). AreBooked (length m.killed) t.cpus u.parts sums) (sym left)
            (sums_moved t m n s shown c.number part ph s.references sums sums here refl (λ h. here.each h ∙ sym (books h)));
        owners_are = subst (λ (u : State). AreOwners t.cpus u.parts owners) (sym left)
            (owners_moved t m n s shown c.number part ph s.references owners (subst (λ (u : State). AreOwners t.cpus u.parts owners) seen own) group);
        does = does;
        visit = visit_moved t m c visit n d steps x noted leads refl (own_moved s c visit.own part ph s.references list c.fresh c.back (λ y. refl) listed fresh back) refl;
        makes = makes_moved t m c visit n d steps x noted leads (follows_same s m.ledger steps still) counts;
      }

-- ---- a free frame is lent

abbrev lend_state : State → ℕ → ℕ → State
lend_state s p f = fold after_made s (lend_steps p f)

module _ (t : KnownTable) (m : KnownMachine) (c : KnownCpuLists) (ok : IsConsistent t m) (visit : Visits t m c) (f : ℕ) (inside : f < t.frames)
    (free : frame_state_at m.frame_states f ≡ Free) where
  framed : is_frame (local_of t m).zone f ≡ true
  framed = ap (λ (z : Zone). is_frame z f) (zone_seen t m.run.past) ∙ lt-ltb f t.frames inside

  v : IsVisited (local_of t m) c.number f
  v = is_visited t m c visit f framed

  lend_local : AreLocal c.number (local_of t m) (lend_steps c.number f)
  lend_local =
      let s = local_of t m in
      let out : State = after s 0 (PassOut f c.number) Done in
      let is_free : phases.is_free (s.phases f) ≡ true = is_free_seen t m s (shown_seen t m ok visit.held) f ∙ ap is_free_state free in
      let may_pass : is_legal s 0 (PassOut f c.number) ≡ true = and_from _ _ (and_from _ _ (and_from _ _ v.acts v.framed) v.visiting) is_free in
      let passing : phases.passes_out c.number (with_at s.phases f (phase.Lent c.number PassingOut) f) ≡ true =
      ap (phases.passes_out c.number) (at_same s.phases f (phase.Lent c.number PassingOut)) ∙ eq-eqb c.number c.number refl in
      let may_take : is_legal out c.number (TakeIn f) ≡ true = and_from _ _ (and_from _ _ v.cpu v.framed) passing in
      (zone_step s c.number (PassOut f c.number) Done refl may_pass tt, (cpu_step out c.number (TakeIn f) Done refl may_take tt, tt))

  pub lend_legal : AreLegal (local_of t m) (lend_steps c.number f)
  lend_legal = local_legal c.number (local_of t m) (lend_steps c.number f) [] lend_local

  lend_leads : IsLocalRun c.number (local_of t m) (lend_steps c.number f) (lend_state (local_of t m) c.number f)
  lend_leads = (lend_local.0, (lend_local.1.0, refl))

  lent_inside : f < length m.frame_states
  lent_inside = let sized = ok.sizes.frame_states in omega (arith, inside, sized)

  phases_lent : (g : ℕ) → hide_phase ((lend_state (local_of t m) c.number f).phases g) ≡ phase_hidden (frame_state_at (slice_set m.frame_states f (Lent c.number)) g)
  phases_lent g =
      let s = local_of t m in
      let mid : ℕ → Phase = with_at s.phases f (phase.Lent c.number PassingOut) in
      elim (cases_eq g f) [
        | inl e ↦ subst (λ (k : ℕ). hide_phase (with_at mid f (phase.Lent c.number OnList) k) ≡ phase_hidden (frame_state_at (slice_set m.frame_states f (Lent c.number)) k)) (sym e)
            (ap hide_phase (at_same mid f (phase.Lent c.number OnList)) ∙ sym (ap phase_hidden (get_or-set_same m.frame_states f (Lent c.number) Free lent_inside)))
        | inr ne ↦ ap hide_phase (at_other mid f (phase.Lent c.number OnList) g ne ∙ at_other s.phases f (phase.Lent c.number PassingOut) g ne)
            ∙ (shown_seen t m ok visit.held).phases g ∙ sym (ap phase_hidden (get_or-set_other m.frame_states f g (Lent c.number) Free ne))
      ]

  pub lent_moved : (blocks : List Block) → AreMaximalBlocks (free_of (slice_set m.frame_states f (Lent c.number))) blocks → (run : KnownRun) → Records t m.run (lend_steps c.number f) run
      → (sums : List ℕ) (owners : List (Option ℕ)) → AreBooked (length m.killed) t.cpus (left_by t m.run.past).parts sums → AreOwners t.cpus (left_by t m.run.past).parts owners
      → AllMoved t m c (LendsFrame f) (lend_steps c.number f) (record m { blocks = blocks; frame_states = slice_set m.frame_states f (Lent c.number); run = run })
      (record c { list = c.list ++ f ∷ [] }) (free_of (slice_set m.frame_states f (Lent c.number))) sums owners
  lent_moved blocks areas run noted sums owners are own =
      let s = local_of t m in
      all_moved t m c ok visit f inside (Lent c.number) (ap frame_state_group free) refl (lend_state s c.number f).phases phases_lent
      (with_listed (s.parts c.number) f) refl refl refl (c.list ++ f ∷ []) (ap (λ (l : List ℕ). l ++ f ∷ []) visit.own.list) visit.own.fresh visit.own.back
      (lend_steps c.number f) lend_leads refl refl blocks areas run noted (LendsFrame f) sums owners are own (record { areas = areas; machine = refl; cpu = refl })

-- ---- of the machine as it was seen before

module _ (t : KnownTable) (m now : KnownMachine) (same : m ≡ now) (c : KnownCpuLists) (visit : Visits t now c) (ok : IsConsistent t m) (f : ℕ) (inside : f < t.frames)
    (free_now : frame_state_at now.frame_states f ≡ Free) where
  free_here : frame_state_at m.frame_states f ≡ Free
  free_here = ap (λ (x : KnownMachine). frame_state_at x.frame_states f) same ∙ free_now

  pub may_lend : AreLegal (local_of t m) (lend_steps c.number f)
  may_lend = lend_legal t m c ok (visits_here t m now same c visit) f inside free_here

  pub lent_all : (d : KnownCpuLists) (before free : List Bool) (blocks : List Block) (i q : ℕ) (sums : List ℕ) (owners : List (Option ℕ)) → before ≡ free_of m.frame_states
      → AreBooked (length m.killed) t.cpus (left_by t m.run.past).parts sums → AreOwners t.cpus (left_by t m.run.past).parts owners
      → TakesFrames before (record { at = i; order = 0 }) free → AreMaximalBlocks free blocks → i ≡ f → q ≡ c.number → d ≡ record c { list = c.list ++ f ∷ [] }
      → (run : KnownRun) → Records t m.run (lend_steps c.number f) run
      → AllMoved t now c (LendsFrame f) (lend_steps c.number f) (record m { blocks = blocks; frame_states = slice_set m.frame_states i (Lent q); run = run }) d free sums owners
  lent_all d before free blocks i q sums owners was are own takes areas index number cpu run noted =
      let takes_f : TakesFrames before (record { at = f; order = 0 }) free = subst (λ (x : ℕ). TakesFrames before (record { at = x; order = 0 }) free) index takes in
      let sized = ok.sizes.frame_states in
      let below : f < length m.frame_states = omega (arith, inside, sized) in
      let free_is : free ≡ free_of (slice_set m.frame_states f (Lent c.number)) = free_taken before free m.frame_states f (Lent c.number) below was takes_f refl in
      let areas_f : AreMaximalBlocks (free_of (slice_set m.frame_states f (Lent c.number))) blocks = subst (λ (l : List Bool). AreMaximalBlocks l blocks) free_is areas in
      let all = lent_moved t m c ok (visits_here t m now same c visit) f inside free_here blocks areas_f run noted sums owners are own in
      subst (λ (x : KnownMachine × KnownMachine × KnownCpuLists × List Bool). AllMoved t x.0 c (LendsFrame f) (lend_steps c.number f) x.1 x.2 x.3 sums owners)
      (λ j. (same j, record m { blocks = blocks; frame_states = slice_set m.frame_states (sym index j) (Lent (sym number j)); run = run }, sym cpu j, sym free_is j)) all

  -- the zone's areas have the frame
  pub given_free : (before : List Bool) (i : ℕ) → before ≡ free_of m.frame_states → i ≡ f → IsFree before i
  given_free before i was index =
      let sized = ok.sizes.frame_states in
      let below : f < length m.frame_states = omega (arith, inside, sized) in
      ap (λ (x : ℕ). get_or before x false) index ∙ ap (λ (l : List Bool). get_or l f false) was ∙ free_at m.frame_states f below ∙ ap is_free_state free_here

-- the number of a visited CPU fits a byte
pub number_low : (t : KnownTable) (m now : KnownMachine) → m ≡ now → (c : KnownCpuLists) → Visits t now c → c.number ≤ t.cpus
number_low t m now same c visit = (number_range t m c (visits_here t m now same c visit)).1

-- ---- the first of the free frames

-- there is no free frame
pub lent_to_none : (m now : KnownMachine) → m ≡ now → (c : KnownCpuLists) (blocks : List Block) (k : ℕ) → k ≡ 0 → HasNoneFrom m.blocks k → blocks ≡ m.blocks
    → LendsNone (visit_state now c) (visit_state (record m { blocks = blocks }) c)
lent_to_none m now same c blocks k zero_is none is = record {
  none = subst (λ (x : KnownMachine × ℕ). HasNoneFrom x.0.blocks x.1) (λ j. (same j, zero_is j)) none;
  stays = record { machine = (λ i. record m { blocks = is i }) ∙ same; cpu = refl };
}

front_is : (k : ℕ) (b : Block) (blocks : List Block) → IsFrontOfSmallest blocks k b → k ≡ 0 → b ≡ record { at = b.at; order = 0 }
front_is k b blocks taken zero_is = λ i. record { at = b.at; order = (taken.order_is ∙ zero_is) i }

taken_free : (before after : List Bool) (frame_states : List FrameState) (f : ℕ) → before ≡ free_of frame_states → TakesFrames before (record { at = f; order = 0 }) after
    → (f < length frame_states) × (frame_state_at frame_states f ≡ Free)
taken_free before after frame_states f was takes =
    let is : IsFree (free_of frame_states) f = subst (λ (l : List Bool). IsFree l f) was (takes.were_free f (covers_one f)) in
    let inside = free_inside frame_states f is in
    (inside, free_is (frame_state_at frame_states f) (sym (free_at frame_states f inside) ∙ is))

-- the block that was taken is one frame of the zone, which was free
pub block_inside : (frame_states : List FrameState) (blocks : List Block) (before free : List Bool) (k : ℕ) (b : Block) → before ≡ free_of frame_states → k ≡ 0
    → IsFrontOfSmallest blocks k b → TakesFrames before b free → (b.at < length frame_states) × (frame_state_at frame_states b.at ≡ Free)
block_inside frame_states blocks before free k b was zero_is taken takes =
    taken_free before free frame_states b.at was (subst (λ (x : Block). TakesFrames before x free) (front_is k b blocks taken zero_is) takes)

-- that frame is lent
module _ (t : KnownTable) (m now : KnownMachine) (same : m ≡ now) (c : KnownCpuLists) (visit : Visits t now c) (ok : IsConsistent t m)
    (before free : List Bool) (k : ℕ) (b : Block) (f : ℕ) (was : before ≡ free_of m.frame_states) (zero_is : k ≡ 0)
    (taken : IsFrontOfSmallest m.blocks k b) (takes : TakesFrames before b free) (at : f ≡ b.at) where
  block : b ≡ record { at = f; order = 0 }
  block = λ j. record { at = sym at j; order = (taken.order_is ∙ zero_is) j }

  there : (f < length m.frame_states) × (frame_state_at m.frame_states f ≡ Free)
  there = taken_free before free m.frame_states f was (subst (λ (x : Block). TakesFrames before x free) block takes)

  pub first_inside : f < t.frames
  first_inside = let h = there.0 in let sized = ok.sizes.frame_states in omega (arith, h, sized)

  first_free : frame_state_at now.frame_states f ≡ Free
  first_free = sym (ap (λ (x : KnownMachine). frame_state_at x.frame_states f) same) ∙ there.1

  pub may_lend_first : AreLegal (local_of t m) (lend_steps c.number f)
  may_lend_first = may_lend t m now same c visit ok f first_inside first_free

  pub first_lent : (d : KnownCpuLists) (blocks : List Block) (i q : ℕ) (sums : List ℕ) (owners : List (Option ℕ)) → AreBooked (length m.killed) t.cpus (left_by t m.run.past).parts sums
      → AreOwners t.cpus (left_by t m.run.past).parts owners → AreMaximalBlocks free blocks → i ≡ f → q ≡ c.number → d ≡ record c { list = c.list ++ f ∷ [] }
      → (run : KnownRun) → Records t m.run (lend_steps c.number f) run
      → AllMoved t now c (LendsOne f) (lend_steps c.number f) (record m { blocks = blocks; frame_states = slice_set m.frame_states i (Lent q); run = run }) d free sums owners
  first_lent d blocks i q sums owners are own areas index number cpu run noted =
      let all = lent_all t m now same c visit ok f first_inside first_free d before free blocks i q sums owners was are own
      (subst (λ (x : Block). TakesFrames before x free) (block ∙ (λ j. record { at = sym index j; order = 0 })) takes) areas index number cpu run noted in
      record {
        consistent = all.consistent;
        free_is = all.free_is;
        sums_are = all.sums_are;
        owners_are = all.owners_are;
        does = record {
          front = subst (λ (x : KnownMachine × ℕ × Block). IsFrontOfSmallest x.0.blocks x.1 x.2) (λ j. (same j, zero_is j, block j)) taken;
          lends = all.does;
        };
        visit = all.visit;
        makes = all.makes;
      }
