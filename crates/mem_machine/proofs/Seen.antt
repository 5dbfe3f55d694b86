-- What the lock's holder sees is what the machine's fields and its own lists show. Serves callers that read phases, parts
-- or references of `local_of`.
use Rattle.std.proofs.Common.{◌≡◌, ℕ, ◌==◌, ◌&&◌, List, cond, refl, sym, ap, ◌∙◌, subst}
use Rattle.std.specs.Prelude.{nat_le, unwrap_or}
use Rattle.step_rules.specs.declared.phase.Phase.TheVariants as phase
use Rattle.step_rules.specs.declared.phase.Stage.TheVariants.{FreshAt, BackAt, Live}
use Rattle.step_rules.specs.declared.phase.Way.TheVariants.{OnList}
use Rattle.step_rules.specs.{IsBooked, Part, times, Run, state_of}
use Rattle.step_rules.specs.State.{State}
use Rattle.step_rules.proofs.CoverParts.{own_part}
use Rattle.step_rules.proofs.Runs.{sound_run}
use Rattle.boot_words.specs.{hide, show_phase, cpu_past, zone_of_boot, KnownTable}
use Rattle.boot_words.proofs.Showing.{holder_sees_both}
use Rattle.cpu_part.specs.Cpus.{KnownCpuLists}
use Rattle.mem_machine.specs.declared.frame_state.FrameState.{FrameState}
use Rattle.mem_machine.specs.declared.frame_state.FrameState.TheVariants.{Free, Lent, Head, Tail}
use Rattle.mem_machine.specs.{frame_state_at, phase_hidden, KnownMachine, IsConsistent, left_by, Holds, group_of_fresh, local_of}
use Rattle.mem_machine.specs.{phase_of, visit_state}

phase_as : (c : KnownCpuLists) (part : Part) (g f : ℕ) (x : FrameState) → unwrap_or part.stock.group 0 ≡ g → part.fresh ≡ c.fresh → part.back ≡ c.back
    → show_phase c.number part f (phase_hidden x) ≡ phase_of c g f x
phase_as c part g f Free group fresh back = refl
phase_as c part g f (Lent q) group fresh back =
    λ i. cond (q == c.number && nat_le 1 (times f (fresh i))) (phase.Head (record { group = group i; order = 0 }) (FreshAt q)) (phase.Lent q OnList)
phase_as c part g f (Head unit) group fresh back = ap (λ (l : List ℕ). cond (nat_le 1 (times f l)) (phase.Head unit (BackAt c.number)) (phase.Head unit Live)) back
phase_as c part g f (Tail h) group fresh back = refl

module _ (t : KnownTable) (m : KnownMachine) (c : KnownCpuLists) (ok : IsConsistent t m) (holds : Holds t m c) where
  -- what was seen, whole
  abbrev whole : State
  whole = state_of (zone_of_boot t) (cpu_past m.run.past).seen

  left_whole : left_by t m.run.past ≡ hide (state_of (zone_of_boot t) (cpu_past m.run.past).seen)
  left_whole = ap (λ (r : Run). hide (state_of (zone_of_boot t) r)) holds.held.holds.same

  own_whole : (local_of t m).parts c.number ≡ (state_of (zone_of_boot t) (cpu_past m.run.past).seen).parts c.number
  own_whole = own_part (cpu_past m.run.past).number (state_of (zone_of_boot t) (cpu_past m.run.past).seen).parts c.number (sym holds.who)

  -- a phase is that of the frame's record and of the CPU's lists
  pub phase_seen : (f : ℕ) → (local_of t m).phases f ≡ phase_of c (group_of_fresh t (visit_state m c)) f (frame_state_at m.frame_states f)
  phase_seen f =
      let zone = zone_of_boot t in
      let run = (cpu_past m.run.past).seen in
      let p = (cpu_past m.run.past).number in
      let u = state_of zone run in
      let both = holder_sees_both zone run p holds.held.holds.shows.legal in
      let x = frame_state_at m.frame_states f in
      let hidden : (hide u).phases f ≡ phase_hidden x = ap (λ (v : State). v.phases f) (sym left_whole) ∙ ok.shown.phases f in
      let group : unwrap_or (u.parts c.number).stock.group 0 ≡ group_of_fresh t (visit_state m c) =
      ap (λ (v : State). unwrap_or (v.parts c.number).stock.group 0) (sym left_whole) in
      ap (λ (v : State). v.phases f) both
      ∙ ap (λ (n : ℕ). show_phase n (u.parts n) f ((hide u).phases f)) holds.who
      ∙ ap (show_phase c.number (u.parts c.number) f) hidden
      ∙ phase_as c (u.parts c.number) (group_of_fresh t (visit_state m c)) f x group
      (ap (λ (v : Part). v.fresh) (sym own_whole) ∙ holds.own.fresh) (ap (λ (v : Part). v.back) (sym own_whole) ∙ holds.own.back)

  -- and its book is the pages of its stock and of its fresh frames
  pub own_booked : IsBooked ((local_of t m).parts c.number)
  own_booked = subst IsBooked (sym own_whole) ((sound_run (zone_of_boot t) (cpu_past m.run.past).seen holds.held.holds.shows.legal).booked c.number)
