-- What a drain of a stock leaves of the machine. Serves `drain_stock`.
use Rattle.std.proofs.Common.{◌≡◌, ℕ, ◌+◌, ◌-◌, ◌<◌, ◌≤◌, true, Option, Some, None, List, [], ◌∷◌, length, get_or, refl, sym, ap, ◌∙◌, subst, inl, inr, arith}
use Rattle.std.specs.List.{fold}
use Rattle.std.specs.Prelude.{slice_set}
use Rattle.group_tree.specs.declared.group.Group.{Group}
use Rattle.group_tree.specs.Groups.{has_group, room_of}
use Rattle.group_charge.specs.declared.note.Note.TheVariants.{Stock}
use Rattle.group_charge.specs.{Ledger, pages_of, KnownNotes, noted}
use Rattle.group_charge.proofs.CallerLemmas.{uncharge_pages}
use Rattle.stock_word.specs.Stock.{group_base}
use Rattle.step_rules.specs.declared.step.Action.TheVariants.{DrainStock, Ungrant}
use Rattle.step_rules.specs.declared.step.Answer.TheVariants.{Done, Pages}
use Rattle.step_rules.specs.{told_pages, Run, drained, IsLocalRun, zone_makes}
use Rattle.step_rules.specs.State.{State}
use Rattle.step_rules.proofs.Basics.{at_each}
use Rattle.boot_words.specs.{hide, KnownPasts, IsHeld, MakesStep, MayMake, cpu_past, HasSameLists, KnownTable}
use Rattle.step_watch.specs.Watched.{KnownWatch, Watches}
use Rattle.mem_machine.specs.declared.machine.Machine.TheInside.{Inside}
use Rattle.mem_machine.specs.{AreBooked, AreOwners, IsSoundMachine, machine_of, Makes, StaysVisited, lock_holder, local_of, KnownMachine}
use Rattle.mem_machine.specs.{FitsFrameState, IsConsistent, IsCpuOf, IsShownBy, frame_state_at, frames_charged, home_of, left_by, pages_booked, stock_group, AreLocal, KnownRun, MayTake}
use Rattle.mem_machine.specs.{MayTakeAll, Records, after_made, drain_steps, Drains, DrainsNoted, uncharged}
use Rattle.mem_machine.proofs.AtTable.{made_at}
use Rattle.mem_machine.proofs.Behind.{FitsDrain, fits_drain}
use Rattle.mem_machine.proofs.Booking.{book_within, books_less, books_none, books_same, sums_less, sums_same}
use Rattle.mem_machine.proofs.Entries.{entry_set, has_entry}
use Rattle.mem_machine.proofs.Draining.{drain_counts, drain_follows, drain_hidden, drain_leads, drain_lists, drain_may, drain_state, drained_none, groups_stay, ungrants_none, ungrants_some}
use Rattle.mem_machine.proofs.Made.{makes, stays_visited}
use Rattle.mem_machine.proofs.Noted.{may_all, notes_both, notes_one, run_ends, run_steps}
use Rattle.mem_machine.proofs.Owning.{owners_same}
use Rattle.mem_machine.proofs.Sight.{left_seen, left_then}

-- what the run left before is `u`
module _ (t : KnownTable) (m : KnownMachine) (u : State) (ok : IsShownBy t m u) (q n : ℕ) (inside : q ≤ t.cpus) (within : n ≤ (u.parts q).book) where
  less : (drained (u.parts q) n).book + n ≡ (u.parts q).book
  less = omega (arith, within)

  -- the pages are charged to their group
  pub drain_charged : (g : ℕ) → (u.parts q).stock.group ≡ Some g → n ≤ pages_of m.ledger g
  drain_charged g group =
      let book = book_within t.cpus u.parts q inside g group in let all = ok.charged g in omega (arith, book, all, within)

  charged_after : (o : Option ℕ) → (u.parts q).stock.group ≡ o → (h : ℕ) → pages_of (uncharged m.ledger o n) h
      ≡ frames_charged m.frame_states h + pages_booked t.cpus (drain_state u q n).parts h
  charged_after None group h =
      let all = ok.charged h in let same = books_none t.cpus u.parts q inside (drained (u.parts q) n) group group h in omega (arith, all, same)
  charged_after (Some g) group h =
      let fall = uncharge_pages m.ledger g n (drain_charged g group) h in
      let fewer = books_less t.cpus u.parts q inside (drained (u.parts q) n) g n group group less h in
      let all = ok.charged h in
      omega (arith, fall, fewer, all)

  pub drain_shown : (o : Option ℕ) → (u.parts q).stock.group ≡ o → (run : KnownRun)
      → IsShownBy t (record m { ledger = uncharged m.ledger o n; run = run }) (drain_state u q n)
  drain_shown o group run = record {
    groups = ok.groups ∙ sym (groups_stay m.ledger o n);
    killed = ok.killed;
    phases = ok.phases;
    references = ok.references;
    settled = ok.settled;
    absorbed = at_each u.parts q (drained (u.parts q) n) (λ j x. told_pages x ≡ 0) (ok.absorbed q) (λ j ne. ok.absorbed j);
    bounded = at_each u.parts q (drained (u.parts q) n) (λ j x. x.book < group_base) (let a = ok.bounded q in omega (arith, a)) (λ j ne. ok.bounded j);
    charged = charged_after o group;
  }

  -- the groups of the stocks stay
  drain_groups : (p : ℕ) → ((drain_state u q n).parts p).stock.group ≡ (u.parts p).stock.group
  drain_groups = at_each u.parts q (drained (u.parts q) n) (λ j x. x.stock.group ≡ (u.parts j).stock.group) refl (λ j ne. refl)

  pub drain_owners : (owners : List (Option ℕ)) → AreOwners t.cpus u.parts owners → AreOwners t.cpus (drain_state u q n).parts owners
  drain_owners = owners_same t.cpus u.parts (drain_state u q n).parts drain_groups

  pub drain_sums : (sums : List ℕ) → AreBooked (length m.killed) t.cpus u.parts sums → (g : ℕ) → (u.parts q).stock.group ≡ Some g → g < length m.killed
      → AreBooked (length m.killed) t.cpus (drain_state u q n).parts (slice_set sums g (get_or sums g 0 - n))
  drain_sums sums are g group fits = sums_less t.cpus u.parts q inside (drained (u.parts q) n) g n group group less sums are fits

  pub drain_sums_none : n ≡ 0 → (sums : List ℕ) → AreBooked (length m.killed) t.cpus u.parts sums → AreBooked (length m.killed) t.cpus (drain_state u q n).parts sums
  drain_sums_none none sums are = sums_same t.cpus u.parts (drain_state u q n).parts sums are
      (books_same t.cpus u.parts (drain_state u q n).parts
      (at_each u.parts q (drained (u.parts q) n) (λ j x. x.book ≡ (u.parts j).book) (omega (arith, none)) (λ j ne. refl)) drain_groups)

  -- its sum has the pages
  pub drain_sum_within : (sums : List ℕ) → AreBooked (length m.killed) t.cpus u.parts sums → (g : ℕ) → (u.parts q).stock.group ≡ Some g → n ≤ get_or sums g 0
  drain_sum_within sums are g group =
      let book = book_within t.cpus u.parts q inside g group in let sum = are.each g in omega (arith, book, within, sum)

-- ---- all of it, in the words of the call

-- what a drain leaves, of the machine as it was seen before
pub record AllDrained (t : KnownTable) (now : KnownMachine) (q n : ℕ) (after : KnownMachine) : Type 0 where
  pub drains : Drains t q n now after
  pub steps : Makes t now (drain_steps q (stock_group t now q) n) after
  pub visit : StaysVisited t now after

-- what is known once the drain is made
pub record KnowsDrain (t : KnownTable) (m : KnownMachine) (q n : ℕ) : Type 0 where
  pub is : IsHeld t m.run.past
  pub inside : q ≤ t.cpus
  pub legal : MayMake t m.run.past 0 (DrainStock q)
  pub fits : FitsDrain (local_of t m) q n

pub knows_drain : (t u : KnownTable) → u ≡ t → (m now : KnownMachine) → m ≡ now → IsHeld t now.run.past → (q n : ℕ) → IsCpuOf t q → (later : KnownPasts)
    → MakesStep u m.run.past 0 (DrainStock q) (Pages n) later → KnowsDrain t m q n
knows_drain t u at m now same held q n of later made =
    let is : IsHeld t m.run.past = subst (λ (x : KnownMachine). IsHeld t x.run.past) (sym same) held in record {
      is = is;
      inside = of.1;
      legal = drain_may t m.run.past is q of;
      fits = fits_drain t m.run.past later q n is (made_at t u at 0 refl m.run.past (DrainStock q) (Pages n) later made);
    }

module _ (t : KnownTable) (m : KnownMachine) (ok : IsConsistent t m) (q n : ℕ) (k : KnowsDrain t m q n) where
  seen : left_by t m.run.past ≡ hide (local_of t m)
  seen = left_seen t m.run.past k.is

  within : n ≤ ((left_by t m.run.past).parts q).book
  within = let few = k.fits.within in let same = ap (λ (s : State). (s.parts q).book) seen in omega (arith, few, same)

  -- the group that the holder sees
  own_group : (o : Option ℕ) → stock_group t m q ≡ o → ((local_of t m).parts q).stock.group ≡ o
  own_group o group = ap (λ (s : State). (s.parts q).stock.group) (sym seen) ∙ group

  pub no_group_none : stock_group t m q ≡ None → n ≡ 0
  no_group_none none = k.fits.no_group (own_group None none)

  -- the pages are charged to a group that is there
  pub there_now : (g : ℕ) → stock_group t m q ≡ Some g → 1 ≤ n → (has_group m.ledger.groups g ≡ true) × (n ≤ pages_of m.ledger g)
  there_now g group some = (
    ap (λ l. has_group l g) (sym ok.shown.groups ∙ ap (λ (s : State). s.groups) seen) ∙ k.fits.there g (own_group (Some g) group) some,
    drain_charged t m (left_by t m.run.past) ok.shown q n k.inside within g group,
  )

  pub sum_within : (sums : List ℕ) → AreBooked (length m.killed) t.cpus (left_by t m.run.past).parts sums → (g : ℕ) → stock_group t m q ≡ Some g → n ≤ get_or sums g 0
  sum_within sums are g group = drain_sum_within t m (left_by t m.run.past) ok.shown q n k.inside within sums are g group

  -- the ungrant is the second step
  pub ungrant_may : (g : ℕ) → stock_group t m q ≡ Some g → 1 ≤ n → (later : KnownPasts) → MakesStep t m.run.past 0 (DrainStock q) (Pages n) later
      → MayTake t later (zone_makes (Ungrant g n) Done)
  ungrant_may g group some later made =
      let p = (cpu_past m.run.past).number in
      let two : Run = zone_makes (DrainStock q) (Pages n) ∷ zone_makes (Ungrant g n) Done ∷ [] in
      let all : AreLocal p (local_of t m) two = subst (λ (r : Run). AreLocal p (local_of t m) (zone_makes (DrainStock q) (Pages n) ∷ r)) (ungrants_some g n some)
      (run_steps p (local_of t m) (drain_steps q (Some g) n) (drain_state (local_of t m) q n)
      (drain_leads (local_of t m) q n p (Some g) (own_group (Some g) group) k.legal k.fits)) in
      let may : MayTakeAll t m.run.past two = may_all t m.run.past p (local_of t m) two refl refl all in
      (may.1 later made).0

  module _ (o : Option ℕ) (group : stock_group t m q ≡ o) (run : KnownRun) (noted : Records t m.run (drain_steps q o n) run) where
    ends : fold after_made (local_of t m) (drain_steps q o n) ≡ drain_state (local_of t m) q n
    ends = run_ends (lock_holder m) (local_of t m) (drain_steps q o n) (drain_state (local_of t m) q n)
        (drain_leads (local_of t m) q n (lock_holder m) o (own_group o group) k.legal k.fits)

    drain_left : left_by t run.past ≡ drain_state (left_by t m.run.past) q n
    drain_left =
        left_then t m (drain_steps q o n) run k.is noted ∙ ap hide ends ∙ drain_hidden (local_of t m) q n k.fits.enough
        ∙ ap (λ (s : State). drain_state s q n) (sym seen)

    pub drained_consistent : (l : Ledger) → l ≡ uncharged m.ledger o n → IsConsistent t (record m { ledger = l; run = run })
    drained_consistent l off = subst (λ (x : Ledger). IsConsistent t (record m { ledger = x; run = run })) (sym off) (record {
      choice = ok.choice;
      sizes = record {
        frame_states = ok.sizes.frame_states;
        links = ok.sizes.links;
        lists = ok.sizes.lists ∙ ap room_of (sym (groups_stay m.ledger o n));
        killed = ok.sizes.killed ∙ ap room_of (sym (groups_stay m.ledger o n));
      };
      areas = ok.areas;
      frame_states = λ f within. subst (λ (groups : List Group). FitsFrameState (room_of groups) (home_of m.links f) (frame_state_at m.frame_states f)) (sym (groups_stay m.ledger o n))
          (ok.frame_states f within);
      units = ok.units;
      lists = ok.lists;
      balances = ok.balances;
      shown = subst (IsShownBy t (record m { ledger = uncharged m.ledger o n; run = run })) (sym drain_left)
          (drain_shown t m (left_by t m.run.past) ok.shown q n k.inside within o group run);
    })

    pub owners_then : (owners : List (Option ℕ)) → AreOwners t.cpus (left_by t m.run.past).parts owners → AreOwners t.cpus (left_by t run.past).parts owners
    owners_then owners are = subst (λ (s : State). AreOwners t.cpus s.parts owners) (sym drain_left)
        (drain_owners t m (left_by t m.run.past) ok.shown q n k.inside within owners are)

    pub sums_then : (sums : List ℕ) → AreBooked (length m.killed) t.cpus (left_by t m.run.past).parts sums → (g : ℕ) → o ≡ Some g → g < length m.killed
        → AreBooked (length m.killed) t.cpus (left_by t run.past).parts (slice_set sums g (get_or sums g 0 - n))
    sums_then sums are g of fits = subst (λ (s : State). AreBooked (length m.killed) t.cpus s.parts (slice_set sums g (get_or sums g 0 - n))) (sym drain_left)
        (drain_sums t m (left_by t m.run.past) ok.shown q n k.inside within sums are g (group ∙ of) fits)

    pub sums_stay : n ≡ 0 → (sums : List ℕ) → AreBooked (length m.killed) t.cpus (left_by t m.run.past).parts sums → AreBooked (length m.killed) t.cpus (left_by t run.past).parts sums
    sums_stay none sums are = subst (λ (s : State). AreBooked (length m.killed) t.cpus s.parts sums) (sym drain_left)
        (drain_sums_none t m (left_by t m.run.past) ok.shown q n k.inside within none sums are)

    drained_here : AllDrained t m q n (record m { ledger = uncharged m.ledger o n; run = run })
    drained_here = record {
      drains = record {
        machine = ap (λ (x : Option ℕ). record m { ledger = uncharged m.ledger x n; run = run }) (sym group);
        left = drain_left;
        booked = within;
        drained_before = λ d. elim d [
          | inl none ↦ no_group_none none
          | inr was ↦ k.fits.drained (ap (λ (s : State). (s.parts q).stock.is_drained) (sym seen) ∙ was)
        ];
      };
      steps = subst (λ (x : Option ℕ). Makes t m (drain_steps q x n) (record m { ledger = uncharged m.ledger o n; run = run })) (sym group)
          (makes t m (record m { ledger = uncharged m.ledger o n; run = run }) (drain_steps q o n) k.is noted
          (subst (IsLocalRun (lock_holder m) (local_of t m) (drain_steps q o n)) (sym ends)
          (drain_leads (local_of t m) q n (lock_holder m) o (own_group o group) k.legal k.fits))
          (drain_follows (local_of t m) q n m.ledger o) (drain_counts (local_of t m) q n m.counts o));
      visit = stays_visited t m (record m { ledger = uncharged m.ledger o n; run = run }) (drain_steps q o n) noted
          (ap (λ (s : State). s.hold) ends) (λ p. subst (HasSameLists p (local_of t m)) (sym ends) (drain_lists (local_of t m) q n p));
    }

    pub drained_now : (now : KnownMachine) → m ≡ now → (l : Ledger) → l ≡ uncharged m.ledger o n → AllDrained t now q n (record m { ledger = l; run = run })
    drained_now now same l off =
        subst (λ (x : KnownMachine × Ledger). AllDrained t x.0 q n (record m { ledger = x.1; run = run })) (λ i. (same i, sym off i)) drained_here

-- the steps as they were made: with pages, and without
pub noted_none : (t u : KnownTable) → u ≡ t → (run : KnownRun) (q n : ℕ) (o : Option ℕ) → n ≡ 0 → (later : KnownPasts) (watch : KnownWatch)
    → MakesStep u run.past 0 (DrainStock q) (Pages n) later → Watches run.watch (zone_makes (DrainStock q) (Pages n) ∷ []) watch
    → Records t run (drain_steps q o n) (record { past = later; watch = watch })
noted_none t u at run q n o none later watch made saw =
    subst (λ (r : Run). Records t run (zone_makes (DrainStock q) (Pages n) ∷ r) (record { past = later; watch = watch })) (sym (ungrants_none o n none))
    (notes_one t run (zone_makes (DrainStock q) (Pages n)) (record { past = later; watch = watch }) (made_at t u at 0 refl run.past (DrainStock q) (Pages n) later made) saw)

pub noted_some : (t u : KnownTable) → u ≡ t → (run : KnownRun) (q n g : ℕ) → 1 ≤ n → (later : KnownPasts) (watch : KnownWatch)
    → MakesStep u run.past 0 (DrainStock q) (Pages n) later → Watches run.watch (zone_makes (DrainStock q) (Pages n) ∷ []) watch → (last : KnownRun)
    → Records t (record { past = later; watch = watch }) (zone_makes (Ungrant g n) Done ∷ []) last → Records t run (drain_steps q (Some g) n) last
noted_some t u at run q n g some later watch made saw last rest =
    subst (λ (r : Run). Records t run (zone_makes (DrainStock q) (Pages n) ∷ r) last) (sym (ungrants_some g n some))
    (notes_both t run (zone_makes (DrainStock q) (Pages n) ∷ []) (record { past = later; watch = watch }) (zone_makes (Ungrant g n) Done ∷ []) last
    (notes_one t run (zone_makes (DrainStock q) (Pages n)) (record { past = later; watch = watch }) (made_at t u at 0 refl run.past (DrainStock q) (Pages n) later made) saw) rest)

-- the fields after it
module _ {N : Type 0} (t : KnownTable) (fields : Inside N) (ok : IsSoundMachine t fields) (q n : ℕ) (k : KnowsDrain t (machine_of fields) q n) where
  abbrev m : KnownMachine
  m = machine_of fields

  -- the sum of the group has an entry, and at least the pages
  pub drained_entry : (g : ℕ) → stock_group t (machine_of fields) q ≡ Some g → 1 ≤ n → g < length fields.sums.items
  drained_entry g group some =
      let within = sum_within t m ok.consistent q n k fields.sums.items ok.sums g group in
      has_entry fields.sums.items g (omega (arith, within, some))

  pub drained_sums : (g : ℕ) → stock_group t (machine_of fields) q ≡ Some g → 1 ≤ n → (i x : ℕ) → i ≡ g → x ≡ get_or fields.sums.items i x
      → (run : KnownRun) → Records t (machine_of fields).run (drain_steps q (Some g) n) run
      → AreBooked (length fields.killed.items) t.cpus (left_by t run.past).parts (slice_set fields.sums.items i (x - n))
  drained_sums g group some i x is read run noted =
      let inside = drained_entry g group some in
      subst (AreBooked (length fields.killed.items) t.cpus (left_by t run.past).parts)
      (sym (entry_set (λ (sum : ℕ). sum - n) fields.sums.items i g x is inside read))
      (sums_then t m ok.consistent q n k (Some g) group run noted fields.sums.items ok.sums g refl (let size = ok.sums.size in omega (arith, size, inside)))

  pub emptied_sound : n ≡ 0 → (run : KnownRun) → Records t (machine_of fields).run (drain_steps q (stock_group t (machine_of fields) q) n) run
      → IsSoundMachine {N = N} t (record fields { past = run.past; watch = run.watch })
  emptied_sound none run noted =
      let o = stock_group t m q in record {
        consistent = drained_consistent t m ok.consistent q n k o refl run noted fields.charges (drained_none fields.charges o n none);
        free = ok.free;
        clean = ok.clean;
        sums = sums_stay t m ok.consistent q n k o refl run noted none fields.sums.items ok.sums;
        owners = owners_then t m ok.consistent q n k o refl run noted fields.owners ok.owners;
      }

-- ---- a drain that is noted

-- the note is no step
pub drains_noted : (t : KnownTable) (m n : KnownMachine) (q k : ℕ) → Drains t q k m n → (notes : KnownNotes) → notes ≡ noted n.notes (Stock q k)
    → DrainsNoted t q k m (record n { notes = notes })
drains_noted t m n q k drains notes note =
    let same : n.notes ≡ m.notes = ap (λ (x : KnownMachine). x.notes) drains.machine in record {
      drains = subst (Drains t q k m) (λ i. record n { notes = same i }) drains;
      noted = note ∙ ap (λ (x : KnownNotes). noted x (Stock q k)) same;
    }

pub makes_noted : (t : KnownTable) (m n : KnownMachine) (steps : Run) (notes : KnownNotes) → Makes t m steps n → Makes t m steps (record n { notes = notes })
makes_noted t m n steps notes makes = record { holder = makes.holder; leads = makes.leads; follows = makes.follows; counts = makes.counts; noted = makes.noted }

pub noted_sound : {N : Type 0} (t : KnownTable) (fields : Inside N) (notes : KnownNotes) → IsSoundMachine t fields → IsSoundMachine {N = N} t (record fields { notes = notes })
noted_sound {N} t fields notes ok = let was = ok.consistent in record {
  consistent = record {
    choice = was.choice;
    sizes = record { frame_states = was.sizes.frame_states; links = was.sizes.links; lists = was.sizes.lists; killed = was.sizes.killed };
    areas = was.areas;
    frame_states = was.frame_states;
    units = was.units;
    lists = was.lists;
    balances = was.balances;
    shown = record {
      groups = was.shown.groups;
      killed = was.shown.killed;
      phases = was.shown.phases;
      references = was.shown.references;
      settled = was.shown.settled;
      absorbed = was.shown.absorbed;
      bounded = was.shown.bounded;
      charged = was.shown.charged;
    };
  };
  free = ok.free;
  clean = ok.clean;
  sums = ok.sums;
  owners = ok.owners;
}
