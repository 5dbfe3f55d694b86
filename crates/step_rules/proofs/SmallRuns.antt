-- The small runs are legal, each step in turn.
use Rattle.std.proofs.Common.{◌≡◌, ℕ, Bool, true, false, List, [], ◌∷◌, ◌++◌, ◌==◌, length, refl, sym, ap, subst, arith, rules, inl, inr, zero, suc}
use Rattle.std.specs.List.{fold, slice_index_or}
use Rattle.std.proofs.lemmas.Bool.{cases_eq, ne_eqb, true≢false}
use Rattle.zone_blocks.specs.Areas.{IsFreeBlock}
use Rattle.group_tree.specs.Path.{names_of}
use Rattle.group_tree.specs.Groups.{has_group, group_at, path_of, in_subtree, limit_of}
use Rattle.step_rules.specs.State.{State, sum_to, all_to, boot_groups}
use Rattle.step_rules.specs.{at_boot, Allows, Run, IsLegalRun, small_zone, life_of_a_frame, credited_twice, returned_twice, unlocked_too_soon}
use Rattle.step_rules.specs.{returned_when_killed, at_the_borders, in_line, noted_events, events_in, events_local_in}
use Rattle.group_tree.specs.Room.{PathHasRoom, has_room}
use Rattle.group_tree.specs.declared.event.EventKey.TheVariants.{Low, High, Max, Oom, OomKill}
use Rattle.step_rules.proofs.Runs.{next, IsLegalFrom}

-- each step is allowed after those before it
abbrev pub AreAllowed : State → Run → Type 0
AreAllowed s [] = Unit {0}
AreAllowed s (e ∷ run) = Allows s e.0.seat e.0.action e.1 × AreAllowed (next s e) run

pub legal_each : (s : State) (run : Run) → AreAllowed s run → IsLegalFrom s run
legal_each s [] each k = tt
legal_each s (e ∷ run) each zero = each.0
legal_each s (e ∷ run) each (suc k) = legal_each (next s e) run each.1 k

pub allowed_both : (s : State) (run later : Run) → AreAllowed s run → AreAllowed (fold next s run) later → AreAllowed s (run ++ later)
allowed_both s [] later each then = then
allowed_both s (e ∷ run) later each then = (each.0, allowed_both (next s e) run later each.1 then)

-- the root has no limit
pub root_has_room : (usage : ℕ → ℕ) (n : ℕ) → PathHasRoom (boot_groups small_zone) usage 0 n
unfolding limit_of group_at
root_has_room usage n m below =
    elim (cases_eq 0 m) [
      | inl e ↦ subst (λ (k : ℕ). has_room (boot_groups small_zone) usage k n ≡ true) e refl
      | inr ne ↦ rw (ne_eqb 0 m ne) refl
    ]

-- frame 0 of the small zone is a free block where it is free
pub front_block : (free : List Bool) → length free ≡ 2 → slice_index_or free 0 false ≡ true → IsFreeBlock free (record { at = 0; order = 0 })
front_block free size first = record {
  block = record { order = omega arith; aligned = refl; inside = omega arith };
  all_free = λ f covers.
      let low = covers.from in
      let high = covers.before in
      let e : 0 ≡ f = omega arith in
      subst (λ (k : ℕ). slice_index_or free k false ≡ true) e first;
}

pub life_is_legal : IsLegalRun small_zone life_of_a_frame
unfolding has_group group_at sum_to all_to
life_is_legal = legal_each (at_boot small_zone) life_of_a_frame (search (rules, root_has_room) depth 40 fits 3000)

pub credited_twice_is_refused : IsLegalRun small_zone credited_twice
unfolding has_group group_at sum_to all_to
credited_twice_is_refused = legal_each (at_boot small_zone) credited_twice (search (rules, root_has_room) depth 40)

pub returned_twice_is_refused : IsLegalRun small_zone returned_twice
unfolding has_group group_at sum_to all_to
returned_twice_is_refused = legal_each (at_boot small_zone) returned_twice (search (rules, root_has_room, front_block) depth 40)

pub unlocked_too_soon_is_refused : IsLegalRun small_zone unlocked_too_soon
unfolding has_group group_at sum_to all_to
unlocked_too_soon_is_refused = legal_each (at_boot small_zone) unlocked_too_soon (search (rules, root_has_room) depth 40)

pub returned_when_killed_is_legal : IsLegalRun small_zone returned_when_killed
unfolding has_group group_at sum_to all_to
returned_when_killed_is_legal = legal_each (at_boot small_zone) returned_when_killed (search (rules, root_has_room) depth 40)

pub borders_are_kept : IsLegalRun small_zone at_the_borders
unfolding has_group group_at sum_to all_to
borders_are_kept = legal_each (at_boot small_zone) at_the_borders (
  record { legal = refl; answered = tt; counted = tt },
  (
    refl,
    (
      record { legal = refl; answered = root_has_room _ 1; counted = tt },
      (
        record { legal = refl; answered = (refl, front_block _ refl refl); counted = tt },
        (
          refl,
          (
            record { legal = refl; answered = tt; counted = tt },
            (
              record { legal = refl; answered = tt; counted = refl },
              (
                record { legal = refl; answered = tt; counted = (refl, omega arith) },
                (
                  record { legal = refl; answered = tt; counted = refl },
                  (
                    record { legal = refl; answered = tt; counted = refl },
                    (
                      record { legal = refl; answered = tt; counted = λ e. absurd (true≢false (ap (λ n. n == 254) (sym e))) },
                      (
                        record { legal = refl; answered = tt; counted = tt },
                        (
                          refl,
                          (refl, tt),
                        ),
                      ),
                    ),
                  ),
                ),
              ),
            ),
          ),
        ),
      ),
    ),
  ),
)

pub line_is_kept : IsLegalRun small_zone in_line
unfolding has_group group_at sum_to all_to
line_is_kept = legal_each (at_boot small_zone) in_line (search (rules, root_has_room, front_block) depth 40)

pub noted_is_legal : IsLegalRun small_zone noted_events
unfolding has_group group_at sum_to all_to
noted_is_legal = legal_each (at_boot small_zone) noted_events (search rules)

pub low_counts : (events_in Low small_zone noted_events 0 ≡ 1) × (events_local_in Low small_zone noted_events 0 ≡ 1)
unfolding in_subtree path_of group_at names_of
low_counts = (refl, refl)

pub high_counts : (events_in High small_zone noted_events 0 ≡ 1) × (events_local_in High small_zone noted_events 0 ≡ 1)
unfolding in_subtree path_of group_at names_of
high_counts = (refl, refl)

pub max_counts : (events_in Max small_zone noted_events 0 ≡ 1) × (events_local_in Max small_zone noted_events 0 ≡ 1)
unfolding in_subtree path_of group_at names_of
max_counts = (refl, refl)

pub oom_counts : (events_in Oom small_zone noted_events 0 ≡ 2) × (events_local_in Oom small_zone noted_events 0 ≡ 2)
unfolding in_subtree path_of group_at names_of
oom_counts = (refl, refl)

pub oom_kill_counts : (events_in OomKill small_zone noted_events 0 ≡ 1) × (events_local_in OomKill small_zone noted_events 0 ≡ 1)
unfolding in_subtree path_of group_at names_of
oom_kill_counts = (refl, refl)
