-- Laws of victims, of what was tried, and of notes. Serves `laws`.
use Rattle.std.proofs.Common.{◌≡◌, ℕ, ◌-◌, ◌<◌, ◌≤◌, ◌==◌, Bool, Some, None, refl, sym, ap, ◌∙◌, subst, inl, inr, arith}
use Rattle.std.specs.Prelude.{min}
use Rattle.std.proofs.lemmas.Bool.{cond-false, ne_eqb}
use Rattle.group_tree.specs.Room.{max_count}
use Rattle.group_charge.specs.Charges.{current_of}
use Rattle.group_charge.specs.declared.note.Note.TheVariants as note
use Rattle.mem_machine.specs.Machines.{KnownMachine, with_note}
use Rattle.mem_reclaim.specs.{KillsRootOrVictim, KillsGroupNoted, kept_units, LoneKillsAreNotedAsMade, MissedUnitsWereTried, RoundsAreNotedAsMade}
use Rattle.group_protection.specs.Protections.{effective, low_key, min_key}
use Rattle.mem_reclaim.specs.declared.passes.Pass.{Pass}
use Rattle.mem_reclaim.specs.declared.passes.Pass.TheVariants.{First, Second, Third}
use Rattle.mem_reclaim.specs.Laws.{ProtectedGroupsHaveNoTurn}
use Rattle.mem_machine.specs.Clean.{clean_pages}
use Rattle.mem_reclaim.specs.Passes.{notes_spared, spared_by, turn_want}
use Rattle.mem_reclaim.proofs.Passing.{only_noted}
use Rattle.mem_reclaim.specs.{TheVictimIsOne, Rises, all_missed_in, returned_in, own_frames, victim_note}

pub the_victim_is_one : TheVictimIsOne
the_victim_is_one m g None None one two = refl
the_victim_is_one m g None (Some v) one two = let none = one v two.chosen in let some = two.some in absurd (omega (arith, none, some))
the_victim_is_one m g (Some v) None one two = let none = two v one.chosen in let some = one.some in absurd (omega (arith, none, some))
the_victim_is_one m g (Some v) (Some u) one two =
    let more = one.most u two.chosen in
    let less = two.most v one.chosen in
    let same : own_frames m u ≡ own_frames m v = omega (arith, more, less) in
    let low = one.least u two.chosen same in
    let high = two.least v one.chosen (sym same) in
    let number : v ≡ u = omega (arith, low, high) in
    ap Some number

pub missed_units_were_tried : MissedUnitsWereTried
missed_units_were_tried t before freed steps after g moves missed f home below is clean = elim (missed home.owner below) [
  | inl all ↦
      let rose = all f home.list is clean in
      let counted = moves.misses f in
      inl (omega (arith, rose, counted))
  | inr kept ↦ inr kept
]

-- each pass spares at least what memory.min protects
spares_more : (pass : Pass) (of_min of_low : ℕ) → of_min ≤ spared_by pass of_min of_low
spares_more First of_min of_low = omega arith
spares_more Second of_min of_low = omega arith
spares_more Third of_min of_low = omega arith

pub protected_groups_have_no_turn : ProtectedGroupsHaveNoTurn
protected_groups_have_no_turn pass target g want done (inl none) some low =
    let of_min : ℕ = effective min_key done.before.ledger target g in
    let of_low : ℕ = effective low_key done.before.ledger target g in
    let usage : ℕ = current_of done.before.ledger g in
    let is_noted = notes_spared pass (clean_pages done.before g) want (turn_want want usage (spared_by pass of_min of_low)) in
    record {
      no_page = none.1.no_page;
      machine = only_noted is_noted done.before done.after (note.Spared g usage of_min of_low) none.1.machine;
      no_step = none.1.no_step;
    }
protected_groups_have_no_turn pass target g want done (inr (wants, does)) some low =
    let of_min : ℕ = effective min_key done.before.ledger target g in
    let of_low : ℕ = effective low_key done.before.ledger target g in
    let spared : ℕ = spared_by pass of_min of_low in
    let more = spares_more pass of_min of_low in
    let e = cond-false (spared == 0) want (min want (current_of done.before.ledger g - spared)) (ne_eqb spared 0 (λ none. omega (arith, none, more, some))) in
    absurd (omega (arith, wants, e, more, low))

-- the difference of a count that rose by this many and isn't at its greatest is this many
risen : (before more after : ℕ) → Rises before more after → after < max_count → after - before ≡ more
risen before more after (inl is) low = omega (arith, is)
risen before more after (inr most) low = absurd (omega (arith, most, low))

pub rounds_are_noted_as_made : RoundsAreNotedAsMade
rounds_are_noted_as_made g k want done made few_freezes few_misses =
    let x = made.reclaimed in
    let freezes : done.after.counts.freezes ≡ x.counts.freezes = ap (λ (m : KnownMachine). m.counts.freezes) made.noted in
    let misses : done.after.counts.misses ≡ x.counts.misses = ap (λ (m : KnownMachine). m.counts.misses) made.noted in
    let units : x.counts.freezes - done.before.counts.freezes ≡ returned_in done.steps =
    risen done.before.counts.freezes (returned_in done.steps) x.counts.freezes made.returned (omega (arith, freezes, few_freezes)) in
    let missed : x.counts.misses - done.before.counts.misses ≡ all_missed_in done.steps =
    risen done.before.counts.misses (all_missed_in done.steps) x.counts.misses made.missed (omega (arith, misses, few_misses)) in
    record {
      reclaimed = x;
      noted = made.noted ∙ (λ i. with_note x (note.Round k (units i) (missed i) done.freed (current_of x.ledger g)));
    }

pub lone_kills_are_noted_as_made : LoneKillsAreNotedAsMade
lone_kills_are_noted_as_made t limited killed before after kill alone few =
    let told = with_note before (victim_note before limited killed.victim kill.next) in
    let kills : KillsGroupNoted t limited killed.victim told kill.steps after =
    subst (λ (b : Bool). KillsRootOrVictim b t limited killed told kill.steps after) alone kill.kills in
    let x = kills.killed in
    let v = killed.victim in
    let puts : after.counts.last_puts ≡ x.counts.last_puts = ap (λ (m : KnownMachine). m.counts.last_puts) kills.noted in
    let units : x.counts.last_puts - before.counts.last_puts ≡ returned_in kill.steps =
    risen before.counts.last_puts (returned_in kill.steps) x.counts.last_puts
    (subst (λ (k : ℕ). Rises before.counts.last_puts (returned_in kill.steps) k) puts kill.these.returned) (omega (arith, puts, few)) in
    record {
      killed = x;
      noted = kills.noted ∙ (λ i. with_note x
          (note.Kill v (units i) (own_frames before v - own_frames x v) (kept_units before v - units i) (own_frames x v) (current_of x.ledger limited)));
    }
