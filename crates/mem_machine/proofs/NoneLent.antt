-- What is lent when the machine ends, and how many frames are free and charged. Serves `prove_none_lent`, and the end of
-- a system.
use Rattle.std.proofs.Common.{◌≡◌, ℕ, ◌+◌, ◌==◌, ◌&&◌, Bool, true, false, List, [], ◌∷◌, cond, length, refl, sym, ap, ◌∙◌, arith, suc, eq-eqb}
use Rattle.std.specs.Prelude.{is_some, nat_le}
use Rattle.std.proofs.lemmas.List.Sums.{sum_by-append}
use Rattle.step_rules.specs.declared.phase.Phase.TheVariants as phase
use Rattle.step_rules.specs.declared.phase.Stage.TheVariants.{FreshAt}
use Rattle.step_rules.specs.declared.phase.Way.TheVariants.{OnList}
use Rattle.step_rules.specs.Phases.{ListFrame, has_as}
use Rattle.step_rules.specs.State.{Part, one_if, times}
use Rattle.step_rules.specs.After.{state_of}
use Rattle.step_rules.proofs.CoverParts.{own_part}
use Rattle.step_rules.proofs.CoverPhases.{own_seen}
use Rattle.step_rules.proofs.Runs.{sound_run}
use Rattle.boot_words.specs.{cpu_past, zone_of_boot, KnownTable}
use Rattle.cpu_part.specs.Cpus.{KnownCpuLists}
use Rattle.mem_machine.specs.declared.frame_state.FrameState.{FrameState}
use Rattle.mem_machine.specs.declared.frame_state.FrameState.TheVariants.{Free, Lent, Head, Tail}
use Rattle.mem_machine.specs.{frame_state_at, is_free_state, frame_state_group, Holds, group_of_fresh, local_of, phase_of, visit_state, KnownMachine}
use Rattle.mem_machine.specs.{IsConsistent, frames_free, frames_in_groups, NoneLentTo}
-- who a frame is lent to is one of the CPUs
pub use Rattle.mem_machine.proofs.LentTo.{lent_to_cpu}
use Rattle.mem_machine.proofs.Seen.{phase_seen}

unlisted : (b : Bool) (g p : ℕ) → has_as ListFrame p (cond (b && nat_le 1 0) (phase.Head (record { group = g; order = 0 }) (FreshAt p)) (phase.Lent p OnList)) ≡ (p == p)
unlisted true g p = refl
unlisted false g p = refl

-- the CPU that holds the lock has no frame that is lent to it, if it has no listed and no fresh frame
pub none_lent : (t : KnownTable) (m : KnownMachine) (c : KnownCpuLists) → IsConsistent t m → Holds t m c → c.list ≡ [] → c.fresh ≡ [] → NoneLentTo c.number m.frame_states
none_lent t m c ok holds no_list no_fresh f is =
    let p = (cpu_past m.run.past).number in
    let u = state_of (zone_of_boot t) (cpu_past m.run.past).seen in
    let sound = sound_run (zone_of_boot t) (cpu_past m.run.past).seen holds.held.holds.shows.legal in
    let seen : (local_of t m).phases f ≡ phase_of c (group_of_fresh t (visit_state m c)) f (Lent c.number) =
    phase_seen t m c ok holds f ∙ ap (phase_of c (group_of_fresh t (visit_state m c)) f) is in
    let listed : has_as ListFrame c.number ((local_of t m).phases f) ≡ true =
    ap (has_as ListFrame c.number) seen
    ∙ ap (λ (l : List ℕ). has_as ListFrame c.number (cond (c.number == c.number && nat_le 1 (times f l)) (phase.Head (record { group = group_of_fresh t (visit_state m c); order = 0 }) (FreshAt c.number)) (phase.Lent c.number OnList))) no_fresh
    ∙ unlisted (c.number == c.number) (group_of_fresh t (visit_state m c)) c.number ∙ eq-eqb c.number c.number refl in
    let whole : has_as ListFrame p (u.phases f) ≡ true = sym (own_seen p ListFrame (u.phases f)) ∙ ap (λ (k : ℕ). has_as ListFrame k ((local_of t m).phases f)) holds.who ∙ listed in
    let count : times f (u.parts p).list ≡ 1 = sound.lists p ListFrame f ∙ ap one_if whole in
    let own : (u.parts p).list ≡ c.list = ap (λ (x : Part). x.list) (sym (own_part p u.parts p refl)) ∙ ap (λ (k : ℕ). ((local_of t m).parts k).list) holds.who ∙ holds.own.list in
    let none : times f (u.parts p).list ≡ 0 = ap (times f) (own ∙ no_list) in
    omega (arith, count, none)

-- if no frame is lent, each is free or charged
pub each_is_placed : (frame_states : List FrameState) → ((f p : ℕ) → frame_state_at frame_states f ≡ Lent p → ⊥) → frames_free frame_states + frames_in_groups frame_states ≡ length frame_states
each_is_placed [] none = refl
each_is_placed (x ∷ xs) none =
    let rest = each_is_placed xs (λ f p is. none (suc f) p is) in
    let this = one_place x (λ p is. none 0 p is) in
    let free : frames_free (x ∷ xs) ≡ 0 + one_if (is_free_state x) + frames_free xs = sum_by-append (λ (y : FrameState). one_if (is_free_state y)) (x ∷ []) xs in
    let charged : frames_in_groups (x ∷ xs) ≡ 0 + one_if (is_some (frame_state_group x)) + frames_in_groups xs =
    sum_by-append (λ (y : FrameState). one_if (is_some (frame_state_group y))) (x ∷ []) xs in
    omega (arith, rest, this, free, charged)
  where
    one_place : (x : FrameState) → ((p : ℕ) → x ≡ Lent p → ⊥) → one_if (is_free_state x) + one_if (is_some (frame_state_group x)) ≡ 1
    one_place Free none = refl
    one_place (Lent p) none = absurd (none p refl)
    one_place (Head unit) none = refl
    one_place (Tail g) none = refl
