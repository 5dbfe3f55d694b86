-- Who has a unit, by the state after a run that goes on from the machine's past. Serves `no_unit_is_lost`.
use Rattle.std.proofs.Common.{◌≡◌, ◌⊎◌, ℕ, ◌+◌, ◌<◌, ◌≤◌, true, Option, Some, None, List, refl, sym, ap, ◌∙◌, inl, inr, arith, zero, suc, eq-eqb}
use Rattle.std.specs.Prelude.{is_some, unwrap_or}
use Rattle.std.proofs.lemmas.Bool.{cases_lt, cases_eq, false≢true}
use Rattle.std.proofs.lemmas.Nat.{pow_pos}
use Rattle.step_rules.specs.declared.phase.ChargedUnit.{ChargedUnit}
use Rattle.step_rules.specs.declared.phase.Stage.{Stage}
use Rattle.step_rules.specs.declared.phase.Stage.TheVariants.{FreshAt, Live, BackAt}
use Rattle.step_rules.specs.declared.phase.Way.TheVariants.{OnList}
use Rattle.step_rules.specs.declared.phase.Phase.{Phase}
use Rattle.step_rules.specs.declared.phase.Phase.TheVariants as phase
use Rattle.step_rules.specs.Phases.{BackFrame, FreshFrame, ListFrame}
use Rattle.step_rules.specs.{has_as, is_live_phase, KeepsInvariant, Zone, one_if, times, state_of}
use Rattle.step_rules.specs.State.{State, sum_to}
use Rattle.step_rules.proofs.Freeing.{zone_of_run}
use Rattle.step_rules.proofs.Living.{live_are_referenced}
use Rattle.step_rules.proofs.Runs.{sound_run}
use Rattle.boot_words.specs.{hide, hide_phase, hide_stage, own_past, zone_of_boot, KnownTable}
use Rattle.boot_words.proofs.Backs.{back_of, backs_are_cpus}
use Rattle.boot_words.proofs.Left.{zone_left}
use Rattle.cpu_part.specs.{KnownCpuLists, HasOwn}
use Rattle.lru_lists.specs.declared.record.Home.{Home}
use Rattle.mem_machine.specs.declared.frame_state.FrameState.{FrameState}
use Rattle.mem_machine.specs.declared.frame_state.FrameState.TheVariants.{Lent, Head}
use Rattle.group_tree.specs.Groups.{room_of}
use Rattle.mem_machine.specs.{frame_state_at, head_group_of, phase_hidden, FitsFrameState, KnownMachine, IsConsistent, home_of, left_by}
use Rattle.mem_machine.specs.{Rests}
use Rattle.mem_machine.proofs.NoneLent.{lent_to_cpu}
use Rattle.mem_system.specs.Lost.{AreAllCpus, ConsistentMachinesLoseNoUnit, SomeCpu, IsKeptFor, HasUnit, HasLent}

-- what is 1 at least in all, some seat has
some_seat : (n : ℕ) (h : ℕ → ℕ) → 1 ≤ sum_to n h → (i : ℕ) × (i < n) × (1 ≤ h i)
unfolding sum_to
some_seat zero h some = absurd (omega (arith, some))
some_seat (suc n) h some = elim (cases_lt 0 (h n)) [
  | inl here ↦ (n, omega arith, omega (arith, here))
  | inr none ↦ let rest = some_seat n h (omega (arith, some, none)) in (rest.0, (let low = rest.1 in omega (arith, low)), rest.2)
]

some_home : (room : ℕ) (home : Option Home) (x : FrameState) (g : ℕ) → FitsFrameState room home x → head_group_of x ≡ Some g
    → ((h : Home) × (home ≡ Some h) × (h.owner ≡ g)) ⊎ (home ≡ None)
some_home room None x g kept group = inr refl
some_home room (Some h) x g kept group = inl (h, refl, ap (λ (o : Option ℕ). unwrap_or o 0) (sym kept.1 ∙ group))

-- a head that looks live has references, or is a CPU's back frame
two_ways : (x : Phase) (u : ChargedUnit) → hide_phase x ≡ phase.Head u Live
    → (is_live_phase x ≡ true) ⊎ ((c : ℕ) × (back_of x ≡ Some c) × (has_as BackFrame c x ≡ true))
two_ways (phase.Head v stage) u e = by stage e
  where
    by : (k : Stage) → hide_stage v k ≡ phase.Head u Live
        → (is_live_phase (phase.Head v k) ≡ true) ⊎ ((c : ℕ) × (back_of (phase.Head v k) ≡ Some c) × (has_as BackFrame c (phase.Head v k) ≡ true))
    by (BackAt c) e = inr (c, refl, eq-eqb c c refl)
    by (FreshAt c) e = absurd (false≢true (ap is_live_phase e))
    by k e = inl (ap is_live_phase e)
two_ways x u e = inl (ap is_live_phase e)

-- a frame that looks lent to a CPU is on its list, or fresh there
lent_ways : (x : Phase) (p : ℕ) → hide_phase x ≡ phase.Lent p OnList → (has_as ListFrame p x ≡ true) ⊎ (has_as FreshFrame p x ≡ true)
lent_ways (phase.Head v stage) p e = by stage (ap (has_as ListFrame p) e ∙ eq-eqb p p refl)
  where
    by : (k : Stage) → has_as ListFrame p (hide_stage v k) ≡ true
        → (has_as ListFrame p (phase.Head v k) ≡ true) ⊎ (has_as FreshFrame p (phase.Head v k) ≡ true)
    by (FreshAt c) has = inr has
    by (BackAt c) has = inl has
    by k has = inl has
lent_ways x p e = inl (ap (has_as ListFrame p) e ∙ eq-eqb p p refl)

module _ (t : KnownTable) (m : KnownMachine) (ok : IsConsistent t m) (rests : Rests t m) (cpus : List KnownCpuLists) (all : AreAllCpus t m cpus) where
  abbrev zone : Zone
  zone = zone_of_boot t

  abbrev s : State
  s = state_of (zone_of_boot t) all.run

  sound : KeepsInvariant s
  sound = sound_run zone all.run all.legal

  hidden : hide s ≡ left_by t m.run.past
  hidden = zone_left zone all.run (own_past m.run.past) all.legal all.begins rests.past_is.zone_is

  looks : (f : ℕ) (r : FrameState) → frame_state_at m.frame_states f ≡ r → hide_phase (s.phases f) ≡ phase_hidden r
  looks f r is = ap (λ (u : State). u.phases f) hidden ∙ ok.shown.phases f ∙ ap phase_hidden is

  -- what follows of the CPU of a number, that CPU has
  its : (p : ℕ) (Has : KnownCpuLists → Type 0) → (1 ≤ p) × (p ≤ t.cpus) → ((c : KnownCpuLists) → c.number ≡ p → HasOwn s c → Has c) → SomeCpu cpus Has
  its p Has range has =
      let one = all.all p range.0 range.1 in
      (one.0, one.1, one.2, has one.1 one.3 (all.own one.0 one.1 one.2))

  module _ (f : ℕ) (u : ChargedUnit) (is : frame_state_at m.frame_states f ≡ Head u) where
    referred : home_of m.links f ≡ None → is_live_phase (s.phases f) ≡ true → SomeCpu cpus (HasUnit f)
    referred none live =
        let some = some_seat (s.zone.cpus + 1) (λ p. s.references p f) ((live_are_referenced zone all.run all.legal f).some live).0 in
        let p = some.0 in
        let low = some.1 in
        let has = some.2 in
        let sized = ap (λ (z : Zone). z.cpus) (zone_of_run zone all.run) in
        let zones : s.references 0 f ≡ 0 = ap (λ (v : State). v.references 0 f) hidden ∙ ok.shown.references f ∙ ap (λ (h : Option Home). one_if (is_some h)) none in
        elim (cases_eq p 0) [
          | inl zeroth ↦ let same = ap (λ (q : ℕ). s.references q f) zeroth in absurd (omega (arith, has, same, zones))
          | inr ne ↦ its p (HasUnit f) (omega (arith, ne), omega (arith, low, sized)) (λ c e own.
              let same = ap (λ (q : ℕ). s.references q f) e in
              let pins = own.references f in
              inr (omega (arith, has, same, pins)))
        ]

    inside : f < t.frames
    inside =
        let block = (ok.units.heads f u is).block.inside in
        let some = pow_pos u.order in
        let sized = ok.sizes.frame_states in
        omega (arith, block, some, sized)

    found : IsKeptFor m u.group f ⊎ SomeCpu cpus (HasUnit f)
    found = elim (some_home (room_of m.ledger.groups) (home_of m.links f) (frame_state_at m.frame_states f) u.group (ok.frame_states f inside) (ap head_group_of is)) [
      | inl home ↦ inl home
      | inr none ↦ inr (elim (two_ways (s.phases f) u (looks f (Head u) is)) [
        | inl live ↦ referred none live
        | inr back ↦
            its back.0 (HasUnit f) (backs_are_cpus zone all.run all.legal f back.0 back.1) (λ c e own.
            let count : times f (s.parts back.0).back ≡ 1 = sound.lists back.0 BackFrame f ∙ ap one_if back.2 in
            let same = ap (λ (q : ℕ). times f (s.parts q).back) e in
            let its_own = ap (times f) own.back in
            inl (omega (arith, count, same, its_own)))
      ])
    ]

  lent_found : (f p : ℕ) → frame_state_at m.frame_states f ≡ Lent p → SomeCpu cpus (HasLent p f)
  lent_found f p is = its p (HasLent p f) (lent_to_cpu t m ok rests.past_is.legal f p is) (λ c e own. (
    e,
    elim (lent_ways (s.phases f) p (looks f (Lent p) is)) [
      | inl listed ↦
          let count : times f (s.parts p).list ≡ 1 = sound.lists p ListFrame f ∙ ap one_if listed in
          let same = ap (λ (q : ℕ). times f (s.parts q).list) e in
          let its_own = ap (times f) own.list in
          inl (omega (arith, count, same, its_own))
      | inr fresh ↦
          let count : times f (s.parts p).fresh ≡ 1 = sound.lists p FreshFrame f ∙ ap one_if fresh in
          let same = ap (λ (q : ℕ). times f (s.parts q).fresh) e in
          let its_own = ap (times f) own.fresh in
          inr (omega (arith, count, same, its_own))
    ],
  ))

pub no_unit_is_lost : ConsistentMachinesLoseNoUnit
no_unit_is_lost t m ok rests cpus all = record {
  heads = λ f u is. found t m ok rests cpus all f u is;
  tails = ok.units.tails;
  lent = λ f p is. lent_found t m ok rests cpus all f p is;
}
