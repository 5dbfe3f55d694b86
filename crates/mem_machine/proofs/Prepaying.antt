-- Pages are charged and fill the CPU's stock. Serves `fill_stock`.
use Rattle.std.proofs.Common.{◌≡◌, ℕ, ◌+◌, ◌-◌, ◌<◌, ◌≤◌, ◌||◌, ◌^◌, Bool, true, false, Option, Some, List, [], ◌∷◌, length, get_or, refl, sym, ap, ◌∙◌, subst, arith, eq-eqb}
use Rattle.std.specs.List.{fold}
use Rattle.std.specs.Prelude.{slice_set}
use Rattle.std.proofs.lemmas.Bool.{and_from, le-leb}
use Rattle.group_tree.specs.declared.group.Group.{Group}
use Rattle.group_tree.specs.Groups.{has_group}
use Rattle.group_tree.specs.Room as room
use Rattle.group_tree.proofs.CallerLemmas.{number_in_room}
use Rattle.mem_machine.proofs.Entries.{entry_read, entry_set}
use Rattle.group_charge.specs.Charges.{Ledger, AreCharges, current_of, with_charge}
use Rattle.group_charge.proofs.CallerLemmas.{charge_pages}
use Rattle.stock_word.specs.Stock.{group_base}
use Rattle.step_rules.specs.declared.step.Action.TheVariants.{Fill, Grant}
use Rattle.step_rules.specs.declared.step.Answer.TheVariants.{Done, Granted, Over}
use Rattle.step_rules.specs.{told_pages, Part, with_at, is_legal, is_of_group, takes_fill, filled, state_of, with_part, IsLocalRun, zone_makes}
use Rattle.step_rules.specs.{other_part_seen}
use Rattle.step_rules.specs.State.{State}
use Rattle.step_rules.proofs.Basics.{at_each}
use Rattle.step_rules.proofs.CoverParts.{own_part}
use Rattle.step_rules.proofs.SoundSteps.{cpu_range}
use Rattle.boot_words.specs.{hide, IsHeld, KnownPasts, MakesStep, cpu_past, zone_of_boot, HasSameLists, KnownTable}
use Rattle.boot_words.proofs.Returning.{none_booked}
use Rattle.cpu_part.specs.Cpus.{KnownCpuLists}
use Rattle.step_watch.specs.Watched.{KnownWatch, Watches}
use Rattle.mem_machine.specs.declared.machine.Machine.TheInside.{Inside}
use Rattle.mem_machine.specs.{AreBooked, AreOwners, FollowsSteps, IsSoundMachine, machine_of, Makes, StaysVisited, Visits, lock_holder, local_of}
use Rattle.mem_machine.specs.{KnownMachine, IsConsistent, IsShownBy, is_killed, left_by, KnownRun, MayTake, MayTakeAll}
use Rattle.mem_machine.specs.{Records, after_made, HasRoomFor, MayCharge, fill_steps, over_steps, Fills, HasDrained, IsDrained, RefusesGrant}
use Rattle.mem_machine.proofs.AtTable.{made_at}
use Rattle.mem_machine.proofs.Booking.{books_more, sums_more}
use Rattle.mem_machine.proofs.Followed.{follows_same, same_events}
use Rattle.mem_machine.proofs.Grants.{is_granted, is_over, none_pends, pending_is, with_granted}
use Rattle.mem_machine.proofs.LedgerMoves.{follows_grant}
use Rattle.mem_machine.proofs.Made.{holder_is_cpu, makes, makes_as, stays_visited, zone_acts}
use Rattle.mem_machine.proofs.Noted.{may_all, notes_both, notes_one, run_ends, run_steps}
use Rattle.mem_machine.proofs.Owning.{owners_set}
use Rattle.mem_machine.proofs.Reaching.{zone_step}
use Rattle.mem_machine.proofs.Seen.{own_booked}
use Rattle.mem_machine.proofs.Sight.{hide_part, left_seen, left_then, shown_seen}
use Rattle.mem_machine.proofs.Staying.{room_booked, sound_same}
use Rattle.mem_machine.proofs.Usage.{usage_is}

-- ---- what a fill leaves

-- what a fill leaves
abbrev pub fill_state : State → ℕ → ℕ → ℕ → State
fill_state s p g k = with_part s p (filled (s.parts p) g k)

-- every CPU's own part hidden: the CPU that fills has no fresh frame
pub fill_hidden : (s : State) (p g k : ℕ) → (s.parts p).fresh ≡ [] → hide (fill_state s p g k) ≡ fill_state (hide s) p g k
fill_hidden s p g k none = hide_part s p (λ part. filled part g k)
    (let part = s.parts p in let long = ap length none in let same : k + length part.fresh ≡ k = omega (arith, long) in
    λ i. record (filled (other_part_seen part) g k) { stock = record { group = Some g; pages = same i; is_drained = false } })

-- what the run left before is `u`
module _ (t : KnownTable) (m : KnownMachine) (u : State) (ok : IsShownBy t m u) (p g k : ℕ) (inside : p ≤ t.cpus) (empty : (u.parts p).book ≡ 0) where
  more : (filled (u.parts p) g k).book ≡ k
  more = omega (arith, empty)

  fill_shown : (facts : AreCharges m.ledger) → has_group m.ledger.groups g ≡ true → k < group_base → (run : KnownRun)
      → IsShownBy t (record m { ledger = with_charge m.ledger g k; run = run }) (fill_state u p g k)
  fill_shown facts there small run = record {
    groups = ok.groups;
    killed = ok.killed;
    phases = ok.phases;
    references = ok.references;
    settled = ok.settled;
    absorbed = at_each u.parts p (filled (u.parts p) g k) (λ j x. told_pages x ≡ 0) (ok.absorbed p) (λ j ne. ok.absorbed j);
    bounded = at_each u.parts p (filled (u.parts p) g k) (λ j x. x.book < group_base) (omega (arith, empty, small)) (λ j ne. ok.bounded j);
    charged = λ h.
        let all = ok.charged h in
        let rise = charge_pages m.ledger g k facts there h in
        let books = books_more t.cpus u.parts p inside (filled (u.parts p) g k) g k empty refl more h in
        omega (arith, all, rise, books);
  }

  fill_sums : (sums : List ℕ) → AreBooked (length m.killed) t.cpus u.parts sums → g < length m.killed → AreBooked (length m.killed) t.cpus (fill_state u p g k).parts (slice_set sums g (get_or sums g 0 + k))
  fill_sums sums are fits = sums_more t.cpus u.parts p inside (filled (u.parts p) g k) g k empty refl more sums are fits

-- ---- the steps

module _ (t : KnownTable) (m : KnownMachine) (c : KnownCpuLists) (ok : IsConsistent t m) (facts : AreCharges m.ledger) (visit : Visits t m c) (none : c.fresh ≡ [])
    (drained : IsDrained t m c.number) where
  shown : IsShownBy t m (hide (local_of t m))
  shown = shown_seen t m ok visit.held

  seen : left_by t m.run.past ≡ hide (local_of t m)
  seen = left_seen t m.run.past visit.held

  -- the CPU is one of the boot
  pub filler_is : (1 ≤ c.number) × (c.number ≤ t.cpus)
  filler_is = subst (λ (n : ℕ). (1 ≤ n) × (n ≤ t.cpus)) visit.who (cpu_range (zone_of_boot t) (cpu_past m.run.past).number (holder_is_cpu t m.run.past visit.held))

  -- nothing is booked to its stock
  pub nothing_booked : ((local_of t m).parts c.number).book ≡ 0
  nothing_booked =
      let zone = zone_of_boot t in
      let run = (cpu_past m.run.past).seen in
      let own : (local_of t m).parts c.number ≡ (state_of zone run).parts c.number = own_part (cpu_past m.run.past).number (state_of zone run).parts c.number (sym visit.who) in
      let told = shown.absorbed c.number in
      ap (λ (part : Part). part.book) own ∙ none_booked zone run c.number visit.held.holds.shows.legal (record {
        fresh = ap (λ (part : Part). part.fresh) (sym own) ∙ visit.own.fresh ∙ none;
        unreported = ap (λ (part : Part). part.unreported) (sym own) ∙ (let a : ((local_of t m).parts c.number).unreported ≡ 0 = omega (arith, told) in a);
        reported = ap (λ (part : Part). part.reported) (sym own) ∙ (let a : ((local_of t m).parts c.number).reported ≡ 0 = omega (arith, told) in a);
        drained = subst HasDrained own (subst (λ (s : State). HasDrained (s.parts c.number)) seen drained);
      })

  booked_left : ((left_by t m.run.past).parts c.number).book ≡ 0
  booked_left = ap (λ (s : State). (s.parts c.number).book) seen ∙ nothing_booked

  -- so it has no page
  no_page : ((local_of t m).parts c.number).stock.pages ≡ 0
  no_page =
      let empty = nothing_booked in
      let booked = own_booked t m c ok (record { held = visit.held; who = visit.who; own = visit.own }) in
      omega (arith, booked, empty)

  module _ (g k : ℕ) (there : has_group m.ledger.groups g ≡ true) (alive : is_killed m.killed g ≡ false) (has : room.PathHasRoom m.ledger.groups (current_of m.ledger) g k)
    where
      -- the steps are legal, and lead there
      pub fill_leads : IsLocalRun c.number (local_of t m) (fill_steps c.number g k) (fill_state (local_of t m) c.number g k)
      fill_leads =
          let s = local_of t m in
          let p = c.number in
          let now = with_granted t m ok facts visit.held p g there k in
          let may : takes_fill (s.parts p) g ≡ true =
          and_from _ _ (eq-eqb _ 0 no_page) (ap (λ (b : Bool). b || is_of_group (s.parts p).stock.group g) (eq-eqb _ 0 nothing_booked)) in
          let enough = le-leb k (now.pending g) (let all = pending_is t m ok facts visit.held p g there k in omega (arith, all)) in
          let legal : is_legal now 0 (Fill p g k) ≡ true =
          and_from _ _ (and_from _ _ (and_from _ _ (and_from _ _ (zone_acts t m.run.past visit.held) visit.is_open)
          (ap (λ (groups : List Group). has_group groups g) shown.groups ∙ there)) may) enough in (
            is_granted t m ok facts visit.held p g there alive k has,
            (
              zone_step now p (Fill p g k) Done refl legal tt,
              λ i. record (fill_state s p g k) { pending = λ h. (none_pends t m ok facts visit.held p g there k h ∙ sym (shown.settled h)) i },
            ),
          )

      fill_follows : FollowsSteps (local_of t m) m.ledger (fill_steps c.number g k) (with_charge m.ledger g k)
      fill_follows = follows_grant (local_of t m) m.ledger shown.groups facts (usage_is t m ok facts visit.held) g k there (zone_makes (Fill c.number g k) Done ∷ []) refl
          (with_charge m.ledger g k) (λ h. refl) (same_events (with_charge m.ledger g k))

      fill_lists : (p : ℕ) → HasSameLists p (local_of t m) (fill_state (local_of t m) c.number g k)
      fill_lists p =
          let s = local_of t m in
          let same : (h : Part → List ℕ) → ((part : Part) → h (filled part g k) ≡ h part) → h (with_at s.parts c.number (filled (s.parts c.number) g k) p) ≡ h (s.parts p) =
          λ h stays. at_each s.parts c.number (filled (s.parts c.number) g k) (λ j x. h x ≡ h (s.parts j)) (stays (s.parts c.number)) (λ j ne. refl) p in
          record {
            list = same (λ x. x.list) (λ x. refl);
            fresh = same (λ x. x.fresh) (λ x. refl);
            back = same (λ x. x.back) (λ x. refl);
            references = refl;
          }

      -- the grant may be taken, and after it the fill
      pub fill_may : MayTakeAll t m.run.past (fill_steps c.number g k)
      fill_may = may_all t m.run.past c.number (local_of t m) (fill_steps c.number g k) visit.who refl
          (run_steps c.number (local_of t m) (fill_steps c.number g k) (fill_state (local_of t m) c.number g k) fill_leads)

      module _ (run : KnownRun) (noted : Records t m.run (fill_steps c.number g k) run) where
        ends : fold after_made (local_of t m) (fill_steps c.number g k) ≡ fill_state (local_of t m) c.number g k
        ends = run_ends c.number (local_of t m) (fill_steps c.number g k) (fill_state (local_of t m) c.number g k) fill_leads

        fill_left : left_by t run.past ≡ fill_state (left_by t m.run.past) c.number g k
        fill_left =
            left_then t m (fill_steps c.number g k) run visit.held noted ∙ ap hide ends
            ∙ fill_hidden (local_of t m) c.number g k (visit.own.fresh ∙ none)
            ∙ ap (λ (s : State). fill_state s c.number g k) (sym seen)

        pub filled_consistent : k < group_base → (l : Ledger) → l ≡ with_charge m.ledger g k → IsConsistent t (record m { ledger = l; run = run })
        filled_consistent small l charged = subst (λ (x : Ledger). IsConsistent t (record m { ledger = x; run = run })) (sym charged) (record {
          choice = ok.choice;
          sizes = record { frame_states = ok.sizes.frame_states; links = ok.sizes.links; lists = ok.sizes.lists; killed = ok.sizes.killed };
          areas = ok.areas;
          frame_states = ok.frame_states;
          units = ok.units;
          lists = ok.lists;
          balances = ok.balances;
          shown = subst (IsShownBy t (record m { ledger = with_charge m.ledger g k; run = run })) (sym fill_left)
              (fill_shown t m (left_by t m.run.past) ok.shown c.number g k filler_is.1 booked_left facts there small run);
        })

        pub filled_sums : (sums : List ℕ) → AreBooked (length m.killed) t.cpus (left_by t m.run.past).parts sums → g < length m.killed
            → AreBooked (length m.killed) t.cpus (left_by t run.past).parts (slice_set sums g (get_or sums g 0 + k))
        filled_sums sums are fits = subst (λ (s : State). AreBooked (length m.killed) t.cpus s.parts (slice_set sums g (get_or sums g 0 + k))) (sym fill_left)
            (fill_sums t m (left_by t m.run.past) ok.shown c.number g k filler_is.1 booked_left sums are fits)

        pub filled_owners : (owners : List (Option ℕ)) → AreOwners t.cpus (left_by t m.run.past).parts owners
            → AreOwners t.cpus (left_by t run.past).parts (slice_set owners (c.number - 1) (Some g))
        filled_owners owners are = subst (λ (s : State). AreOwners t.cpus s.parts (slice_set owners (c.number - 1) (Some g))) (sym fill_left)
            (owners_set t.cpus (left_by t m.run.past).parts owners are c.number (filled ((left_by t m.run.past).parts c.number) g k) g filler_is.0 filler_is.1 refl)

        pub fills_here : Fills t c.number g k m (record m { ledger = with_charge m.ledger g k; run = run })
        fills_here = record { room = has; machine = refl; left = fill_left }

        pub fill_makes : Makes t m (fill_steps c.number g k) (record m { ledger = with_charge m.ledger g k; run = run })
        fill_makes = makes_as t m (record m { ledger = with_charge m.ledger g k; run = run }) c.number (fill_steps c.number g k) visit.held visit.who noted
            (subst (IsLocalRun c.number (local_of t m) (fill_steps c.number g k)) (sym ends) fill_leads) fill_follows refl

        pub fill_visit : Visits t (record m { ledger = with_charge m.ledger g k; run = run }) c
        fill_visit = stays_visited t m (record m { ledger = with_charge m.ledger g k; run = run }) (fill_steps c.number g k) noted
            (ap (λ (s : State). s.hold) ends) (λ p. subst (HasSameLists p (local_of t m)) (sym ends) (fill_lists p)) c visit

-- ---- a refusal

module _ (t : KnownTable) (m : KnownMachine) (ok : IsConsistent t m) (facts : AreCharges m.ledger) (is : IsHeld t m.run.past) (g k over : ℕ)
    (there : has_group m.ledger.groups g ≡ true) (alive : is_killed m.killed g ≡ false) (low : room.IsLowestOver m.ledger.groups (current_of m.ledger) g k over) where
  -- the grant that names the lowest group without room may be taken
  pub refused_may : MayTake t m.run.past (zone_makes (Grant g k) (Over over))
  refused_may = is_over t m ok facts is (lock_holder m) g there alive k over low

  module _ (run : KnownRun) (noted : Records t m.run (over_steps g k over) run) where
    refused_left : left_by t run.past ≡ left_by t m.run.past
    refused_left = left_then t m (over_steps g k over) run is noted ∙ sym (left_seen t m.run.past is)

    pub refused_here : RefusesGrant t g k over m (record m { run = run })
    refused_here = record {
      machine = refl;
      left = refused_left;
      steps = makes t m (record m { run = run }) (over_steps g k over) is noted (refused_may, refl) (follows_same (local_of t m) m.ledger (over_steps g k over) refl) refl;
    }

    pub refused_visit : StaysVisited t m (record m { run = run })
    refused_visit = stays_visited t m (record m { run = run }) (over_steps g k over) noted refl (λ p. record { list = refl; fresh = refl; back = refl; references = refl })

-- ---- in the words of the call

-- what is known of the machine before it
pub record KnowsFill (t : KnownTable) (m : KnownMachine) (c : KnownCpuLists) (g k : ℕ) : Type 0 where
  pub visit : Visits t m c
  pub drained : IsDrained t m c.number
  pub there : has_group m.ledger.groups g ≡ true
  pub alive : is_killed m.killed g ≡ false

pub knows_fill : (t : KnownTable) (m now : KnownMachine) → m ≡ now → (c : KnownCpuLists) (g k : ℕ) → Visits t now c → MayCharge now g k → IsDrained t now c.number
    → KnowsFill t m c g k
knows_fill t m now same c g k visit charges drained =
    subst (λ (x : KnownMachine). KnowsFill t x c g k) (sym same) (record { visit = visit; drained = drained; there = charges.there; alive = charges.alive })

-- the steps as they were made
pub fill_noted : (t u : KnownTable) → u ≡ t → (run : KnownRun) (p g k n h : ℕ) → n ≡ p → h ≡ g → (mid : KnownRun) → Records t run (zone_makes (Grant g k) Granted ∷ []) mid
    → (later : KnownPasts) (watch : KnownWatch) → MakesStep u mid.past 0 (Fill n h k) Done later → Watches mid.watch (zone_makes (Fill n g k) Done ∷ []) watch
    → Records t run (fill_steps p g k) (record { past = later; watch = watch })
fill_noted t u at run p g k n h number group mid granted later watch made saw =
    notes_both t run (zone_makes (Grant g k) Granted ∷ []) mid (zone_makes (Fill p g k) Done ∷ []) (record { past = later; watch = watch }) granted
    (notes_one t mid (zone_makes (Fill p g k) Done) (record { past = later; watch = watch })
    (made_at t u at 0 refl mid.past (Fill p g k) Done later (subst (λ (x : ℕ × ℕ). MakesStep u mid.past 0 (Fill x.0 x.1 k) Done later) (λ i. (number i, group i)) made))
    (subst (λ (x : ℕ). Watches mid.watch (zone_makes (Fill x g k) Done ∷ []) watch) number saw))

-- the fields after it
module _ {N : Type 0} (t : KnownTable) (fields : Inside N) (ok : IsSoundMachine t fields) (c : KnownCpuLists) (g k : ℕ) (facts : AreCharges fields.charges)
    (knows : KnowsFill t (machine_of fields) c g k) (none : c.fresh ≡ []) where
  abbrev m : KnownMachine
  m = machine_of fields

  -- the group is one of those that the machine has room for, and so has a sum
  group_inside : g < length fields.killed.items
  group_inside =
      let low = number_in_room fields.charges.groups g facts.groups knows.there in
      let size = ok.consistent.sizes.killed in
      omega (arith, low, size)

  pub fill_entry : g < length fields.sums.items
  fill_entry = let low = group_inside in let size = ok.sums.size in omega (arith, low, size)

  -- the group's sum doesn't overflow
  pub fill_fits : (now : KnownMachine) → machine_of fields ≡ now → HasRoomFor now k → (i x : ℕ) → i ≡ g → x ≡ get_or fields.sums.items i x → x + k < 2 ^ 32
  fill_fits now same room i x is read =
      let booked = room_booked t m m refl ok.consistent facts g k knows.there (subst (λ (x : KnownMachine). HasRoomFor x k) (sym same) room) g refl in
      let sum = ok.sums.each g in
      let own = entry_read fields.sums.items i g x is fill_entry read in
      omega (arith, booked, sum, own)

  module _ (has : room.PathHasRoom fields.charges.groups (current_of fields.charges) g k) (run : KnownRun) (noted : Records t (machine_of fields).run (fill_steps c.number g k) run) where
    pub sound_consistent : k < group_base → (charges : Ledger) → charges ≡ with_charge fields.charges g k → IsConsistent t (record (machine_of fields) { ledger = charges; run = run })
    sound_consistent small charges charged = filled_consistent t m c ok.consistent facts knows.visit none knows.drained g k knows.there knows.alive has run noted small charges charged

    pub sound_sums : (i x : ℕ) → i ≡ g → x ≡ get_or fields.sums.items i x
        → AreBooked (length fields.killed.items) t.cpus (left_by t run.past).parts (slice_set fields.sums.items i (x + k))
    sound_sums i x is read = subst (AreBooked (length fields.killed.items) t.cpus (left_by t run.past).parts)
        (sym (entry_set (λ (sum : ℕ). sum + k) fields.sums.items i g x is fill_entry read))
        (filled_sums t m c ok.consistent facts knows.visit none knows.drained g k knows.there knows.alive has run noted fields.sums.items ok.sums group_inside)

    pub sound_owners : (n : ℕ) → n ≡ c.number → (owners : List (Option ℕ)) → owners ≡ slice_set fields.owners (n - 1) (Some g)
        → AreOwners t.cpus (left_by t run.past).parts owners
    sound_owners n number owners set = subst (AreOwners t.cpus (left_by t run.past).parts) (sym (set ∙ ap (λ (x : ℕ). slice_set fields.owners (x - 1) (Some g)) number))
        (filled_owners t m c ok.consistent facts knows.visit none knows.drained g k knows.there knows.alive has run noted fields.owners ok.owners)

-- what a fill leaves, of the machine as it was seen before
pub record AllFilled (t : KnownTable) (now : KnownMachine) (c : KnownCpuLists) (g k : ℕ) (after : KnownMachine) : Type 0 where
  pub fills : Fills t c.number g k now after
  pub steps : Makes t now (fill_steps c.number g k) after
  pub visit : Visits t after c

pub filled_now : (t : KnownTable) (m now : KnownMachine) → m ≡ now → (c : KnownCpuLists) (g k : ℕ) → IsConsistent t m → AreCharges m.ledger → KnowsFill t m c g k → c.fresh ≡ []
    → room.PathHasRoom m.ledger.groups (current_of m.ledger) g k → (run : KnownRun) → Records t m.run (fill_steps c.number g k) run → (l : Ledger) → l ≡ with_charge m.ledger g k
    → AllFilled t now c g k (record m { ledger = l; run = run })
filled_now t m now same c g k ok facts knows none has run noted l charged =
    subst (λ (x : KnownMachine × Ledger). AllFilled t x.0 c g k (record m { ledger = x.1; run = run })) (λ i. (same i, sym charged i)) (record {
      fills = fills_here t m c ok facts knows.visit none knows.drained g k knows.there knows.alive has run noted;
      steps = fill_makes t m c ok facts knows.visit none knows.drained g k knows.there knows.alive has run noted;
      visit = fill_visit t m c ok facts knows.visit none knows.drained g k knows.there knows.alive has run noted;
    })

-- what a refusal leaves
module _ {N : Type 0} (t : KnownTable) (fields : Inside N) (ok : IsSoundMachine t fields) (c : KnownCpuLists) (g k over : ℕ) (facts : AreCharges fields.charges)
    (knows : KnowsFill t (machine_of fields) c g k) (low : room.IsLowestOver fields.charges.groups (current_of fields.charges) g k over) (run : KnownRun)
    (noted : Records t (machine_of fields).run (over_steps g k over) run) (charges : Ledger) (same : charges ≡ fields.charges) where
  abbrev before : KnownMachine
  before = machine_of fields

  pub refused_sound : IsSoundMachine {N = N} t (record fields { charges = charges; past = run.past; watch = run.watch })
  refused_sound = subst (λ (l : Ledger). IsSoundMachine {N = N} t (record fields { charges = l; past = run.past; watch = run.watch })) (sym same)
      (sound_same t fields ok run (refused_left t before ok.consistent facts knows.visit.held g k over knows.there knows.alive low run noted))

  pub refused_now : (now : KnownMachine) → machine_of fields ≡ now → RefusesGrant t g k over now (machine_of {N = N} (record fields { charges = charges; past = run.past; watch = run.watch }))
  refused_now now was = subst (λ (x : KnownMachine × Ledger). RefusesGrant t g k over x.0 (record before { ledger = x.1; run = run })) (λ i. (was i, sym same i))
      (refused_here t before ok.consistent facts knows.visit.held g k over knows.there knows.alive low run noted)

  pub refused_visits : Visits t (machine_of {N = N} (record fields { charges = charges; past = run.past; watch = run.watch })) c
  refused_visits = subst (λ (l : Ledger). Visits t (record before { ledger = l; run = run }) c) (sym same)
      (refused_visit t before ok.consistent facts knows.visit.held g k over knows.there knows.alive low run noted c knows.visit)
