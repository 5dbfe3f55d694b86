-- A frame of the visited CPU moved, and the CPU's part changed: what the machine shows then, what is booked, and that the
-- visit goes on. Serves the calls that move frames of a CPU's lists.
use Rattle.std.proofs.Common.{◌≡◌, ℕ, ◌+◌, ◌-◌, ◌^◌, ◌<◌, ◌≤◌, ◌==◌, Bool, true, false, Option, Some, None, List, [], ◌∷◌, ◌++◌, length, cond, get_or, refl, sym, ap, ◌∙◌, subst, inl, inr, arith, eq-eqb}
use Rattle.std.specs.List.{fold}
use Rattle.std.specs.Prelude.{is_some, slice_set}
use Rattle.std.proofs.lemmas.Bool.{cases_eq, false≢true, ne_eqb}
use Rattle.std.proofs.lemmas.Nat.{pow_pos}
use Rattle.std.proofs.lemmas.Option.{none-some}
use Rattle.std.proofs.lemmas.List.{get_or-set_same, get_or-set_other}
use Rattle.zone_blocks.specs.Zone.{IsInUse}
use Rattle.group_charge.specs.Charges.{pages_of}
use Rattle.lru_lists.specs.declared.record.Home.{Home}
use Rattle.stock_word.specs.Stock.{group_base}
use Rattle.step_rules.specs.declared.phase.ChargedUnit.{ChargedUnit}
use Rattle.step_rules.specs.declared.phase.Stage.{Stage}
use Rattle.step_rules.specs.declared.phase.Stage.TheVariants.{BackAt, FreshAt, Live}
use Rattle.step_rules.specs.declared.phase.Way.TheVariants.{OnList}
use Rattle.step_rules.specs.declared.phase.Phase.{Phase}
use Rattle.step_rules.specs.declared.phase.Phase.TheVariants as phase
use Rattle.step_rules.specs.{unit_of, told_pages, IsBooked, Part, Zone, is_cpu, is_frame, one_if, sum_to, times, visits, with_at, Run, is_within}
use Rattle.step_rules.specs.{unit_size, without_unit, IsLocalStep, IsLocalRun}
use Rattle.step_rules.specs.State.{State}
use Rattle.step_rules.specs.declared.step.Answer.{Answer}
use Rattle.step_rules.specs.declared.step.Step.{Step}
use Rattle.step_rules.proofs.Basics.{at_each, at_other, at_same, at_through}
use Rattle.step_rules.proofs.Lists.{times_same}
use Rattle.step_rules.proofs.Placing.{within_cases}
use Rattle.step_rules.proofs.Sums.{sum_change}
use Rattle.step_rules.proofs.SoundSteps.{cpu_range}
use Rattle.boot_words.specs.{hide, hide_phase, IsHeld, cpu_past, local_by_pasts, zone_of_boot, KnownTable}
use Rattle.cpu_part.specs.{KnownCpuLists, HasOwn}
use Rattle.mem_machine.specs.declared.frame_state.FrameState.{FrameState}
use Rattle.mem_machine.specs.declared.frame_state.FrameState.TheVariants.{Free, Lent, Head, Tail}
use Rattle.mem_machine.specs.{frame_state_at, free_of, is_free_state, one_if_is, phase_hidden, AreBooked, AreOwners, counts_along, FollowsSteps}
use Rattle.mem_machine.specs.{FreesFrames, KnownMachine, VisitState, IsConsistent, IsShownBy, booked, frames_charged, home_of, left_by, pages_booked}
use Rattle.mem_machine.specs.{stock_group, AreLocal, KnownRun, MayTake, Records, after_made, Makes, Visits, lock_holder, local_of, visit_state}
use Rattle.mem_machine.proofs.HandOvers.{IsVisited}
use Rattle.mem_machine.proofs.Made.{holder_is_cpu, zone_acts, zone_seen}
use Rattle.mem_machine.proofs.Noted.{run_ends}
use Rattle.mem_machine.proofs.OwnFrames.{HasFrame, back_own, fresh_group, fresh_own, listed_own, own_booked}
use Rattle.mem_machine.proofs.Records.{free_at, length_free, one_covered}
use Rattle.mem_machine.proofs.Sight.{left_seen}

-- ---- the books, if one part changed

module _ (cpus : ℕ) (parts : ℕ → Part) (p : ℕ) (inside : p ≤ cpus) (part : Part) where
  books_change : (h : ℕ) → pages_booked cpus (with_at parts p part) h + booked h (parts p) ≡ pages_booked cpus parts h + booked h part
  books_change h =
      ap (λ (b : ℕ → ℕ). sum_to (cpus + 1) b + booked h (parts p)) (at_through (booked h) parts p part)
      ∙ sum_change (cpus + 1) (λ k. booked h (parts k)) p (booked h part) (omega (arith, inside))

  -- the book and the group stay
  pub books_stay : part.book ≡ (parts p).book → part.stock.group ≡ (parts p).stock.group → (h : ℕ)
      → pages_booked cpus (with_at parts p part) h ≡ pages_booked cpus parts h
  books_stay book group h =
      let a = books_change h in
      let b : booked h part ≡ booked h (parts p) = λ i. cond (one_if_is h (group i) == 0) 0 (book i) in
      omega (arith, a, b)

  -- one page less is booked to a stock of this group
  pub books_fall : (g : ℕ) → (parts p).stock.group ≡ Some g → part.stock.group ≡ (parts p).stock.group → 1 ≤ (parts p).book
      → part.book ≡ (parts p).book - 1 → (h : ℕ)
      → pages_booked cpus parts h ≡ pages_booked cpus (with_at parts p part) h + cond (h == g) 1 0
  books_fall g of group some book h =
      let a = books_change h in
      let b = booked_of (parts p) of in
      let d = booked_of part (group ∙ of) in
      elim (cases_eq h g) [
        | inl e ↦
            let u : (h == g) ≡ true = eq-eqb h g e in
            let b' : booked h (parts p) ≡ (parts p).book = b ∙ ap (λ (x : Bool). cond x (parts p).book 0) u in
            let d' : booked h part ≡ part.book = d ∙ ap (λ (x : Bool). cond x part.book 0) u in
            let one : ◌≡◌ {A = ℕ} (cond (h == g) 1 0) 1 = ap (λ (x : Bool). cond x 1 0) u in
            omega (arith, a, b', d', one, some, book)
        | inr ne ↦
            let u : (h == g) ≡ false = ne_eqb h g ne in
            let b' : booked h (parts p) ≡ 0 = b ∙ ap (λ (x : Bool). cond x (parts p).book 0) u in
            let d' : booked h part ≡ 0 = d ∙ ap (λ (x : Bool). cond x part.book 0) u in
            let none : ◌≡◌ {A = ℕ} (cond (h == g) 1 0) 0 = ap (λ (x : Bool). cond x 1 0) u in
            omega (arith, a, b', d', none)
      ]
    where
      booked_of : (x : Part) → x.stock.group ≡ Some g → booked h x ≡ cond (h == g) x.book 0
      booked_of x is = ap (λ (o : Option ℕ). cond (one_if_is h o == 0) 0 x.book) is ∙ elim (cases_eq h g) [
        | inl e ↦ ap (λ (b : Bool). cond (cond b 1 0 == 0) 0 x.book) (eq-eqb g h (sym e)) ∙ sym (ap (λ (b : Bool). cond b x.book 0) (eq-eqb h g e))
        | inr ne ↦ ap (λ (b : Bool). cond (cond b 1 0 == 0) 0 x.book) (ne_eqb g h (λ e. ne (sym e)))
            ∙ sym (ap (λ (b : Bool). cond b x.book 0) (ne_eqb h g ne))
      ]

  -- what is booked to the group of the stock is at least its book
  pub book_within : (g : ℕ) → (parts p).stock.group ≡ Some g → 1 ≤ (parts p).book → part.stock.group ≡ (parts p).stock.group
      → part.book ≡ (parts p).book - 1 → 1 ≤ pages_booked cpus parts g
  book_within g of some group book =
      let a = books_fall g of group some book g in
      let one : ◌≡◌ {A = ℕ} (cond (g == g) 1 0) 1 = ap (λ (x : Bool). cond x 1 0) (eq-eqb g g refl) in
      omega (arith, a, one)

-- ---- records

abbrev lent_to : Phase → Option ℕ
lent_to (phase.Lent q way) = Some q
lent_to x = None

abbrev number : Option ℕ → ℕ
number None = 0
number (Some n) = n

-- a frame that is lent to the CPU has the record of one
pub lent_record : (x : FrameState) (q : ℕ) → phase_hidden x ≡ phase.Lent q OnList → x ≡ Lent q
lent_record Free q is = absurd (none-some q (ap lent_to is))
lent_record (Lent r) q is = ap Lent (ap (λ (y : Phase). number (lent_to y)) is)
lent_record (Head unit) q is = absurd (none-some q (ap lent_to is))
lent_record (Tail g) q is = absurd (none-some q (ap lent_to is))

abbrev pub headed : ChargedUnit → Phase → ChargedUnit
headed unit (phase.Head u stage) = u
headed unit x = unit

-- a frame that has references has the record of a head
pub head_record : (x : FrameState) (unit : ChargedUnit) → phase_hidden x ≡ phase.Head unit Live → x ≡ Head unit
head_record Free unit is = absurd (none-some unit (ap unit_of is))
head_record (Lent r) unit is = absurd (none-some unit (ap unit_of is))
head_record (Head u) unit is = ap Head (ap (headed unit) is)
head_record (Tail g) unit is = absurd (none-some unit (ap unit_of is))

-- a frame on which the zone has no reference is on no list
pub no_home : (home : Option Home) → 0 ≡ one_if (is_some home) → home ≡ None
no_home None is = refl
no_home (Some h) is = absurd (omega (arith, is))

-- a frame that isn't free is in use
pub lent_in_use : (frame_states : List FrameState) (before : List Bool) (f i k : ℕ) → f < length frame_states → before ≡ free_of frame_states
    → is_free_state (frame_state_at frame_states f) ≡ false → i ≡ f → k ≡ 0 → IsInUse before (record { at = i; order = k })
lent_in_use frame_states before f i k inside was used index zero_is =
    subst (λ (x : ℕ × ℕ). IsInUse before (record { at = x.0; order = x.1 })) (λ j. (sym index j, sym zero_is j)) (record {
      block = let long : length before ≡ length frame_states = ap length was ∙ length_free frame_states in
          record { order = omega arith; aligned = omega arith; inside = omega (arith, inside, long) };
      none_free = λ g covers free. absurd (false≢true (sym used ∙ sym (free_at frame_states f inside)
          ∙ sym (ap (λ (l : List Bool). get_or l f false) was) ∙ subst (λ (h : ℕ). get_or before h false ≡ true) (one_covered f g covers) free));
    })

-- ---- what the fields show

module _ (t : KnownTable) (m : KnownMachine) (s : State) (shown : IsShownBy t m (hide s)) (f : ℕ) where
  -- one frame has another phase, and its record is of that phase
  pub phases_set : (x : Phase) (r : FrameState) → f < length m.frame_states → hide_phase x ≡ phase_hidden r → (y : ℕ)
      → hide_phase (with_at s.phases f x y) ≡ phase_hidden (frame_state_at (slice_set m.frame_states f r) y)
  phases_set x r inside is y = elim (cases_eq y f) [
    | inl e ↦ subst (λ (k : ℕ). hide_phase (with_at s.phases f x k) ≡ phase_hidden (frame_state_at (slice_set m.frame_states f r) k)) (sym e)
        (ap hide_phase (at_same s.phases f x) ∙ is ∙ sym (ap phase_hidden (get_or-set_same m.frame_states f r Free inside)))
    | inr ne ↦ ap hide_phase (at_other s.phases f x y ne) ∙ shown.phases y ∙ sym (ap phase_hidden (get_or-set_other m.frame_states f y r Free ne))
  ]

  -- the frames of a unit are free
  pub phases_freed : (new : List FrameState) (unit : ChargedUnit) (stage : Stage) → FreesFrames f (2 ^ unit.order) m.frame_states new → (y : ℕ)
      → hide_phase (without_unit (with_at s.phases f (phase.Head unit stage)) f y) ≡ phase_hidden (frame_state_at new y)
  phases_freed new unit stage frees y =
      let x : Phase = phase.Head unit stage in
      let some = pow_pos unit.order in
      ap (λ (z : Phase). hide_phase (cond (is_within f (unit_size (unit_of z)) y) phase.InZone (with_at s.phases f x y))) (at_same s.phases f x)
      ∙ (elim (within_cases f (2 ^ unit.order) y) [
        | inl w ↦ ap (λ (b : Bool). hide_phase (cond b phase.InZone (with_at s.phases f x y))) w.0
            ∙ sym (ap (λ (b : Bool). phase_hidden (cond b Free (frame_state_at m.frame_states y))) w.0)
        | inr out ↦ ap (λ (b : Bool). hide_phase (cond b phase.InZone (with_at s.phases f x y))) out.0
            ∙ ap hide_phase (at_other s.phases f x y (λ e. out.1 (omega (arith, e)) (omega (arith, e, some)))) ∙ shown.phases y
            ∙ sym (ap (λ (b : Bool). phase_hidden (cond b Free (frame_state_at m.frame_states y))) out.0)
      ])
      ∙ sym (ap phase_hidden (frees.records y))

-- a CPU's part changed, and phases and the zone's references
module _ (t : KnownTable) (m n : KnownMachine) (s : State) (shown : IsShownBy t m (hide s)) (p : ℕ) (part : Part) (ph : ℕ → Phase) (references : ℕ → ℕ → ℕ) where
  abbrev then : State
  then = record s { phases = ph; parts = with_at s.parts p part; references = references }

  -- the fields of a machine show it
  pub shown_moved : n.ledger.groups ≡ m.ledger.groups → n.killed ≡ m.killed
      → ((y : ℕ) → hide_phase (ph y) ≡ phase_hidden (frame_state_at n.frame_states y))
      → ((y : ℕ) → references 0 y ≡ one_if (is_some (home_of n.links y)))
      → told_pages part ≡ told_pages (s.parts p) → part.book ≤ (s.parts p).book
      → ((h : ℕ) → pages_of n.ledger h ≡ frames_charged n.frame_states h + pages_booked t.cpus (with_at s.parts p part) h)
      → IsShownBy t n (hide (record s { phases = ph; parts = with_at s.parts p part; references = references }))
  shown_moved groups killed phases refs told book charged = record {
    groups = shown.groups ∙ sym groups;
    killed = λ g. shown.killed g ∙ ap (λ (k : List Bool). get_or k g false) (sym killed);
    phases = phases;
    references = refs;
    settled = shown.settled;
    absorbed = at_each s.parts p part (λ k x. told_pages x ≡ 0) (told ∙ shown.absorbed p) (λ k ne. shown.absorbed k);
    bounded = at_each s.parts p part (λ k x. x.book < group_base) (let a = shown.bounded p in omega (arith, a, book)) (λ k ne. shown.bounded k);
    charged = charged;
  }

  -- the sums are those of the books
  pub sums_moved : {room : ℕ} (before after : List ℕ) → AreBooked room t.cpus (hide s).parts before → length after ≡ length before
      → ((g : ℕ) → get_or after g 0 ≡ pages_booked t.cpus (with_at s.parts p part) g)
      → AreBooked room t.cpus (hide (record s { phases = ph; parts = with_at s.parts p part; references = references })).parts after
  sums_moved before after are size each = record { size = size ∙ are.size; each = each }

  -- the groups of the stocks stay
  pub owners_moved : (owners : List (Option ℕ)) → AreOwners t.cpus (hide s).parts owners → part.stock.group ≡ (s.parts p).stock.group
      → AreOwners t.cpus (hide (record s { phases = ph; parts = with_at s.parts p part; references = references })).parts owners
  owners_moved owners are group = record {
    size = are.size;
    few = are.few;
    each = λ place low. are.each place low
        ∙ sym (at_each s.parts p part (λ k x. x.stock.group ≡ (s.parts k).stock.group) group (λ k ne. refl) (place + 1));
    beyond = are.beyond;
  }

-- the CPU's lists are those of its part
pub own_moved : (s : State) (c : KnownCpuLists) → HasOwn s c → (part : Part) (ph : ℕ → Phase) (references : ℕ → ℕ → ℕ) (list fresh back : List ℕ)
    → ((f : ℕ) → references c.number f ≡ s.references c.number f) → part.list ≡ list → part.fresh ≡ fresh → part.back ≡ back
    → HasOwn (record s { phases = ph; parts = with_at s.parts c.number part; references = references }) (record c { list = list; fresh = fresh; back = back })
own_moved s c own part ph references list fresh back same on_list is_fresh is_back =
    let here = at_same s.parts c.number part in record {
      list = ap (λ (x : Part). x.list) here ∙ on_list;
      fresh = ap (λ (x : Part). x.fresh) here ∙ is_fresh;
      back = ap (λ (x : Part). x.back) here ∙ is_back;
      references = λ f. same f ∙ own.references f;
    }

-- ---- the visit

module _ (t : KnownTable) (m : KnownMachine) (c : KnownCpuLists) (visit : Visits t m c) where
  -- what is known of the CPU in each step
  pub is_visited : (f : ℕ) → is_frame (local_of t m).zone f ≡ true → IsVisited (local_of t m) c.number f
  is_visited f framed = record {
    acts = zone_acts t m.run.past visit.held;
    visiting = visit.is_open;
    cpu = subst (λ (z : Zone). is_cpu z c.number ≡ true) (sym (zone_seen t m.run.past))
        (subst (λ (p : ℕ). is_cpu (zone_of_boot t) p ≡ true) visit.who (holder_is_cpu t m.run.past visit.held));
    framed = framed;
  }

  pub number_range : (1 ≤ c.number) × (c.number ≤ t.cpus)
  number_range = cpu_range (zone_of_boot t) c.number
      (subst (λ (p : ℕ). is_cpu (zone_of_boot t) p ≡ true) visit.who (holder_is_cpu t m.run.past visit.held))

  -- the group of the stock in what the CPU sees
  pub group_seen : ((local_of t m).parts c.number).stock.group ≡ stock_group t m c.number
  group_seen = ap (λ (s : State). (s.parts c.number).stock.group) (sym (left_seen t m.run.past visit.held))

  -- what is known of the frames in its lists
  pub front_here : (f : ℕ) (rest : List ℕ) → c.list ≡ f ∷ rest → HasFrame (local_of t m) c.number (phase.Lent c.number OnList) f
  front_here f rest front =
      subst (λ (p : ℕ). HasFrame (local_of t m) p (phase.Lent p OnList) f) visit.who
      (listed_own (zone_of_boot t) (cpu_past m.run.past).seen (lock_holder m) visit.held.holds.shows.legal f
      (subst (λ (p : ℕ). 1 ≤ times f ((local_of t m).parts p).list) (sym visit.who)
      (let a = ap (times f) (visit.own.list ∙ front) in let b = times_same f in omega (arith, a, b))))

  pub fresh_here : (f g : ℕ) (rest : List ℕ) → c.fresh ≡ f ∷ rest → stock_group t m c.number ≡ Some g
      → HasFrame (local_of t m) c.number (phase.Head (record { group = g; order = 0 }) (FreshAt c.number)) f
  fresh_here f g rest front of =
      subst (λ (p : ℕ). HasFrame (local_of t m) p (phase.Head (record { group = g; order = 0 }) (FreshAt p)) f) visit.who
      (fresh_own (zone_of_boot t) (cpu_past m.run.past).seen (lock_holder m) visit.held.holds.shows.legal f g
      (subst (λ (p : ℕ). 1 ≤ times f ((local_of t m).parts p).fresh) (sym visit.who)
      (let a = ap (times f) (visit.own.fresh ∙ front) in let b = times_same f in omega (arith, a, b)))
      (subst (λ (p : ℕ). ((local_of t m).parts p).stock.group ≡ Some g) (sym visit.who) (group_seen ∙ of)))

  pub back_here : (f : ℕ) (rest : List ℕ) → c.back ≡ f ∷ rest
      → (unit : ChargedUnit) × HasFrame (local_of t m) c.number (phase.Head unit (BackAt c.number)) f
  back_here f rest front =
      subst (λ (p : ℕ). (unit : ChargedUnit) × HasFrame (local_of t m) p (phase.Head unit (BackAt p)) f) visit.who
      (back_own (zone_of_boot t) (cpu_past m.run.past).seen (lock_holder m) visit.held.holds.shows.legal f
      (subst (λ (p : ℕ). 1 ≤ times f ((local_of t m).parts p).back) (sym visit.who)
      (let a = ap (times f) (visit.own.back ∙ front) in let b = times_same f in omega (arith, a, b))))

  -- with a fresh frame it has a stock of a group
  pub fresh_group_here : 1 ≤ length c.fresh → (g : ℕ) × (stock_group t m c.number ≡ Some g)
  fresh_group_here some =
      let its = fresh_group (zone_of_boot t) (cpu_past m.run.past).seen (lock_holder m) visit.held.holds.shows.legal
      (subst (λ (p : ℕ). 1 ≤ length ((local_of t m).parts p).fresh) (sym visit.who) (let a = ap length visit.own.fresh in omega (arith, a, some))) in
      (its.0, sym group_seen ∙ subst (λ (p : ℕ). ((local_of t m).parts p).stock.group ≡ Some its.0) visit.who its.1)

  pub booked_here : IsBooked ((local_of t m).parts c.number)
  booked_here = subst (λ (p : ℕ). IsBooked ((local_of t m).parts p)) visit.who
      (own_booked (zone_of_boot t) (cpu_past m.run.past).seen (lock_holder m) visit.held.holds.shows.legal)

  module _ (n : KnownMachine) (d : KnownCpuLists) (steps : Run) (x : State) (noted : Records t m.run steps n.run) (leads : IsLocalRun c.number (local_of t m) steps x) where
    sees_then : local_of t n ≡ x
    sees_then = noted.grew.sees visit.held ∙ run_ends c.number (local_of t m) steps x leads

    pub left_moved : left_by t n.run.past ≡ hide x
    left_moved = left_seen t n.run.past (noted.grew.held visit.held) ∙ ap hide sees_then

    pub makes_moved : FollowsSteps (local_of t m) m.ledger steps n.ledger → n.counts ≡ counts_along (local_of t m) steps m.counts → Makes t m steps n
    makes_moved follows counts = record {
      holder = noted.grew.holder visit.held;
      leads = subst (λ (z : ℕ × State). IsLocalRun z.0 (local_of t m) steps z.1) (λ i. (sym visit.who i, sym sees_then i)) leads;
      follows = follows;
      counts = counts;
      noted = noted;
    }

    pub visit_moved : x.hold ≡ (local_of t m).hold → HasOwn x d → d.number ≡ c.number → Visits t n d
    visit_moved hold own same = record {
      held = noted.grew.held visit.held;
      who = noted.grew.holder visit.held ∙ visit.who ∙ sym same;
      is_open = ap (λ (z : ℕ × State). visits z.0 z.1.hold) (λ i. (same i, sees_then i)) ∙ ap (visits c.number) hold ∙ visit.is_open;
      own = subst (λ (z : State). HasOwn z d) (sym sees_then) own;
    }

-- ---- the run

-- what is local after the first steps
pub local_behind : (p : ℕ) (a : State) (first second : Run) → AreLocal p a (first ++ second) → AreLocal p (fold after_made a first) second
local_behind p a [] second all = all
local_behind p a (e ∷ rest) second all = local_behind p (after_made a e) rest second all.1

-- once the first steps were made, the next may be taken
pub may_next : (t : KnownTable) (run later : KnownRun) (first rest : Run) (e : Step × Answer) (p : ℕ) → IsHeld t run.past → (cpu_past run.past).number ≡ p
    → Records t run first later → AreLocal p (local_by_pasts t run.past) (first ++ e ∷ rest) → MayTake t later.past e
may_next t run later first rest e p held who noted all =
    subst (λ (x : ℕ × State). IsLocalStep x.1 x.0 e.0.seat e.0.action e.1) (λ i. (sym (noted.grew.holder held ∙ who) i, sym (noted.grew.sees held) i))
    (local_behind p (local_by_pasts t run.past) first (e ∷ rest) all).0

-- ---- the machine as it was seen before

-- what a call leaves that makes these steps
pub record AllMoved (t : KnownTable) (now : KnownMachine) (c : KnownCpuLists) (Does : VisitState → VisitState → Type 0) (steps : Run) (n : KnownMachine) (d : KnownCpuLists)
    (free : List Bool) (sums : List ℕ) (owners : List (Option ℕ)) : Type 0 where
  pub consistent : IsConsistent t n
  pub free_is : free ≡ free_of n.frame_states
  pub sums_are : AreBooked (length n.killed) t.cpus (left_by t n.run.past).parts sums
  pub owners_are : AreOwners t.cpus (left_by t n.run.past).parts owners
  pub does : Does (visit_state now c) (visit_state n d)
  pub visit : Visits t n d
  pub makes : Makes t now steps n
