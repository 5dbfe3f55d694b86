-- What the zone's past left is what the lock's holder sees, both with every CPU's own part hidden. Serves all calls under
-- the lock.
use Rattle.std.proofs.Common.{◌≡◌, ℕ, ◌+◌, ◌==◌, ◌||◌, Bool, true, false, length, cond, refl, ap, sym, ◌∙◌, subst, arith}
use Rattle.std.specs.List.{fold}
use Rattle.step_rules.specs.{Part, Run, state_of, with_part, other_part_seen, references_seen_by, seen_by}
use Rattle.step_rules.specs.State.{State}
use Rattle.step_rules.proofs.Basics.{cond-ap}
use Rattle.step_rules.proofs.CoverParts.{part_seen}
use Rattle.step_rules.proofs.CoverPhases.{seen_through}
use Rattle.boot_words.specs.{hide, hide_phase, zone_references, KnownPasts, IsHeld, cpu_past, local_by_pasts, zone_of_boot, KnownTable}
use Rattle.mem_machine.specs.{local_of, KnownMachine, IsConsistent, IsShownBy, left_by, KnownRun, Records, after_made}

twice_seen : (part : Part) → other_part_seen (other_part_seen part) ≡ other_part_seen part
twice_seen part =
    let e : part.stock.pages + length part.fresh + 0 ≡ part.stock.pages + length part.fresh = omega arith in
    ap (λ (n : ℕ). record (other_part_seen part) { stock = record (part.stock) { pages = n } }) e

zone_seen : (p : ℕ) (references : ℕ → ℕ → ℕ) (seat f : ℕ) → zone_references (references_seen_by p references) seat f ≡ zone_references references seat f
zone_seen p references seat f = by (seat == 0) (seat == p)
  where
    by : (a b : Bool) → cond a (cond (a || b) (references seat f) 0) 0 ≡ cond a (references seat f) 0
    by true b = refl
    by false b = refl

pub hide_seen : (p : ℕ) (s : State) → hide (seen_by p s) ≡ hide s
hide_seen p s i = record s {
  phases = λ f. seen_through hide_phase p (λ u r. refl) (λ u r. refl) (s.phases f) i;
  references = λ seat f. zone_seen p s.references seat f i;
  parts = λ cpu. part_seen other_part_seen twice_seen p s.parts cpu i;
}

pub left_seen : (t : KnownTable) (past : KnownPasts) → IsHeld t past → left_by t past ≡ hide (local_by_pasts t past)
left_seen t past is =
    ap (λ (r : Run). hide (state_of (zone_of_boot t) r)) is.holds.same
    ∙ sym (hide_seen (cpu_past past).number (state_of (zone_of_boot t) (cpu_past past).seen))

-- what the steps made of what was seen is left, hidden
pub left_then : (t : KnownTable) (m : KnownMachine) (steps : Run) (run : KnownRun) → IsHeld t m.run.past → Records t m.run steps run
    → left_by t run.past ≡ hide (fold after_made (local_of t m) steps)
left_then t m steps run is noted = left_seen t run.past (noted.grew.held is) ∙ ap hide (noted.grew.sees is)

-- the machine's fields are what the lock's holder sees
pub shown_seen : (t : KnownTable) (m : KnownMachine) → IsConsistent t m → IsHeld t m.run.past → IsShownBy t m (hide (local_of t m))
shown_seen t m ok is = subst (IsShownBy t m) (left_seen t m.run.past is) ok.shown

-- a change of one part that hiding the part's lists lets through
pub hide_part : (s : State) (q : ℕ) (change : Part → Part) → other_part_seen (change (s.parts q)) ≡ change (other_part_seen (s.parts q))
    → hide (with_part s q (change (s.parts q))) ≡ with_part (hide s) q (change ((hide s).parts q))
hide_part s q change same i = record (hide s) {
  parts = λ p. (cond-ap other_part_seen (p == q) (change (s.parts q)) (s.parts p) ∙ ap (λ (x : Part). cond (p == q) x (other_part_seen (s.parts p))) same) i;
}
