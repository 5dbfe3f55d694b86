-- What a CPU sees is the hidden state with its own part shown.
use Rattle.std.proofs.Common.{◌≡◌, ◌≢◌, ℕ, ◌==◌, ◌&&◌, ◌||◌, Bool, true, false, cond, Some, Option, refl, sym, ap, ◌∙◌, inl, inr, eq-eqb}
use Rattle.std.specs.Prelude.{nat_le, unwrap_or}
use Rattle.std.proofs.lemmas.Bool.{cases_eq, ne_eqb}
use Rattle.step_rules.specs.declared.phase.ChargedUnit.{ChargedUnit}
use Rattle.step_rules.specs.declared.phase.Way.{Way}
use Rattle.step_rules.specs.declared.phase.Way.TheVariants.{OnList}
use Rattle.step_rules.specs.declared.phase.Stage.{Stage}
use Rattle.step_rules.specs.declared.phase.Stage.TheVariants.{FreshAt, FreshPassing, Collected, Bare, Live, BackAt, AwaitsReturn, BackPassing}
use Rattle.step_rules.specs.declared.phase.Phase.{Phase}
use Rattle.step_rules.specs.declared.phase.Phase.TheVariants.{InZone, Lent, Head, Tail}
use Rattle.step_rules.specs.Phases.{FreshFrame, BackFrame}
use Rattle.step_rules.specs.{has_as, Part, one_if, with_at, times, state_of, seen_by, phase_seen_by, parts_seen_by, references_seen_by}
use Rattle.step_rules.specs.{other_part_seen, PhasePaid, groups_in, KeepsInvariant}
use Rattle.step_rules.specs.State.{State}
use Rattle.step_rules.proofs.Basics.{at_each, same_state}
use Rattle.step_rules.proofs.CoverParts.{own_part, other_part, own_reference}
use Rattle.step_rules.proofs.Runs.{sound_run}
use Rattle.boot_words.specs.{hide, hide_phase, show_own, show_phase, zone_references, HolderSeesBoth}

none_back : (h f : ℕ) (part : Part) (unit : ChargedUnit) (stage : Stage) → times f part.back ≡ 0 → Head unit stage ≡ show_phase h part f (Head unit stage)
none_back h f part unit stage e = ap (λ n. cond (nat_le 1 n) (Head unit (BackAt h)) (Head unit stage)) (sym e)

none_fresh : (h f q : ℕ) (part : Part) (way : Way) → times f part.fresh ≡ 0 → Lent q way ≡ show_phase h part f (Lent q way)
none_fresh h f q part way e = and_no (q == h) ∙ ap (λ n. cond (q == h && nat_le 1 n) (Head (record { group = unwrap_or part.stock.group 0; order = 0 }) (FreshAt q)) (Lent q way)) (sym e)
  where
    and_no : (b : Bool) → Lent q way ≡ cond (b && nat_le 1 0) (Head (record { group = unwrap_or part.stock.group 0; order = 0 }) (FreshAt q)) (Lent q way)
    and_no true = refl
    and_no false = refl

same_unit : (u : ChargedUnit) (group : Option ℕ) → group ≡ Some u.group → u.order ≡ 0 → u ≡ record { group = unwrap_or group 0; order = 0 }
same_unit u group is order i = record { group = unwrap_or (sym is i) 0; order = order i }

both_at : (h f : ℕ) (part : Part) (groups : ℕ → Option ℕ) (cpus : ℕ) (x : Phase) → groups h ≡ part.stock.group → PhasePaid cpus groups x
    → times f part.fresh ≡ one_if (has_as FreshFrame h x) → times f part.back ≡ one_if (has_as BackFrame h x) → phase_seen_by h x ≡ show_phase h part f (hide_phase x)
both_at h f part groups cpus InZone g paid fresh back = refl
both_at h f part groups cpus (Tail k) g paid fresh back = refl
both_at h f part groups cpus (Lent q way) g paid fresh back = none_fresh h f q part way fresh
both_at h f part groups cpus (Head u (FreshAt q)) g paid fresh back =
    elim (cases_eq q h) [
      | inl e ↦
          let on : (q == h) ≡ true = eq-eqb q h e in
          let one : times f part.fresh ≡ 1 = fresh ∙ ap one_if on in
          let unit = same_unit u part.stock.group (sym g ∙ ap groups (sym e) ∙ paid.group) paid.order in
          ap (λ b. cond b (Head u (FreshAt q)) (Lent q OnList)) on ∙ ap (λ v. Head v (FreshAt q)) unit
          ∙ sym ((λ i. cond (on i && nat_le 1 (one i)) (Head (record { group = unwrap_or part.stock.group 0; order = 0 }) (FreshAt q)) (Lent q OnList)))
      | inr ne ↦
          let off : (q == h) ≡ false = ne_eqb q h ne in
          ap (λ b. cond b (Head u (FreshAt q)) (Lent q OnList)) off ∙ none_fresh h f q part OnList (fresh ∙ ap one_if off)
    ]
both_at h f part groups cpus (Head u (BackAt q)) g paid fresh back =
    elim (cases_eq q h) [
      | inl e ↦
          let on : (q == h) ≡ true = eq-eqb q h e in
          let one : times f part.back ≡ 1 = back ∙ ap one_if on in
          ap (λ b. cond b (Head u (BackAt q)) (Head u Live)) on ∙ ap (λ k. Head u (BackAt k)) e ∙ sym (ap (λ n. cond (nat_le 1 n) (Head u (BackAt h)) (Head u Live)) one)
      | inr ne ↦
          let off : (q == h) ≡ false = ne_eqb q h ne in
          ap (λ b. cond b (Head u (BackAt q)) (Head u Live)) off ∙ none_back h f part u Live (back ∙ ap one_if off)
    ]
both_at h f part groups cpus (Head u (FreshPassing q)) g paid fresh back = none_back h f part u (FreshPassing q) back
both_at h f part groups cpus (Head u (BackPassing q)) g paid fresh back = none_back h f part u (BackPassing q) back
both_at h f part groups cpus (Head u Collected) g paid fresh back = none_back h f part u Collected back
both_at h f part groups cpus (Head u Bare) g paid fresh back = none_back h f part u Bare back
both_at h f part groups cpus (Head u Live) g paid fresh back = none_back h f part u Live back
both_at h f part groups cpus (Head u AwaitsReturn) g paid fresh back = none_back h f part u AwaitsReturn back

phases_both : (s : State) (h f : ℕ) → KeepsInvariant s → phase_seen_by h (s.phases f) ≡ show_phase h (s.parts h) f (hide_phase (s.phases f))
phases_both s h f sound =
    both_at h f (s.parts h) (groups_in s.parts) s.zone.cpus (s.phases f) refl ((sound.frames f).paid) (sound.lists h FreshFrame f) (sound.lists h BackFrame f)

references_both : (references : ℕ → ℕ → ℕ) (h seat f : ℕ) → references_seen_by h references seat f ≡ with_at (zone_references references) h (references h) seat f
references_both references h seat f =
    at_each (zone_references references) h (references h) (λ q r. references_seen_by h references q f ≡ r f)
    (own_reference h references h f (inr refl)) (λ q ne. other q ne) seat
  where
    off : (q : ℕ) (b : Bool) → cond (b || false) (references q f) 0 ≡ cond b (references q f) 0
    off q true = refl
    off q false = refl

    other : (q : ℕ) → q ≢ h → references_seen_by h references q f ≡ zone_references references q f
    other q ne = ap (λ b. cond (q == 0 || b) (references q f) 0) (ne_eqb q h ne) ∙ off q (q == 0)

parts_both : (parts : ℕ → Part) (h q : ℕ) → parts_seen_by h parts q ≡ with_at (λ cpu. other_part_seen (parts cpu)) h (parts h) q
parts_both parts h q =
    at_each (λ cpu. other_part_seen (parts cpu)) h (parts h) (λ k x. parts_seen_by h parts k ≡ x) (own_part h parts h refl) (λ k ne. other_part h parts k ne) q

pub sees_both : (s : State) (h : ℕ) → KeepsInvariant s → seen_by h s ≡ show_own h (s.parts h) (s.references h) (hide s)
sees_both s h sound =
    same_state s (λ i. λ f. phases_both s h f sound i) (λ i. λ q. λ f. references_both s.references h q f i) (λ i. λ q. parts_both s.parts h q i)

pub holder_sees_both : HolderSeesBoth
holder_sees_both zone run cpu legal = sees_both (state_of zone run) cpu (sound_run zone run legal)
