-- Steps that move one frame, or change one CPU's part, keep the invariant.
use Rattle.std.proofs.Common.{◌≡◌, ℕ, ◌+◌, ◌^◌, ◌<◌, Bool, true, false, Option, Some, List, refl, sym, ◌∙◌, ap, subst, arith, inl, inr}
use Rattle.std.specs.Prelude.{◌⊎◌}
use Rattle.step_rules.specs.declared.phase.Hold.{Hold}
use Rattle.step_rules.specs.declared.phase.ChargedUnit.{ChargedUnit}
use Rattle.step_rules.specs.declared.phase.Phase.{Phase}
use Rattle.step_rules.specs.declared.phase.Phase.TheVariants.{Tail}
use Rattle.step_rules.specs.{Kind, has_as, unit_of, Zone, Part, with_at, one_if, without, with_last, frames_of, times, PhasePaid, FrameFits}
use Rattle.step_rules.specs.{groups_in, IsBooked, StateInvariant}
use Rattle.step_rules.proofs.Basics.{at_other, at_each, at_itself}
use Rattle.step_rules.proofs.Lists.{times_same, times_other, times_last, times_without, times_without_other}

-- how a list of one kind changes where frame f goes from one phase to another
pub data ListMoves (f : ℕ) (xs ys : List ℕ) (b c : Bool) : Type 0 where
  Stays : ys ≡ xs → c ≡ b → ListMoves f xs ys b c
  Joins : ys ≡ with_last xs f → b ≡ false → c ≡ true → ListMoves f xs ys b c
  Leaves : ys ≡ without f xs → c ≡ false → ListMoves f xs ys b c

moved_here : (f : ℕ) (xs ys : List ℕ) (b c : Bool) → ListMoves f xs ys b c → times f xs ≡ one_if b → times f ys ≡ one_if c
moved_here f xs ys b c (Stays e d) h = ap (times f) e ∙ h ∙ ap one_if (sym d)
moved_here f xs ys b c (Joins e off on) h =
    let a = times_last f f xs in
    let d = times_same f in
    let n : one_if b ≡ 0 = ap one_if off in
    let m : one_if c ≡ 1 = ap one_if on in
    ap (times f) e ∙ (omega arith)
moved_here f xs ys b c (Leaves e off) h = ap (times f) e ∙ times_without f xs ∙ sym (ap one_if off)

moved_other : (f m : ℕ) (xs ys : List ℕ) (b c : Bool) → (m ≡ f → ⊥) → ListMoves f xs ys b c → times m ys ≡ times m xs
moved_other f m xs ys b c ne (Stays e d) = ap (times m) e
moved_other f m xs ys b c ne (Joins e off on) =
    let a = times_last m f xs in
    let d = times_other f m (λ z. ne (sym z)) in
    ap (times m) e ∙ (omega arith)
moved_other f m xs ys b c ne (Leaves e off) = ap (times m) e ∙ times_without_other m f xs ne

-- one frame goes from phase x to y, one part changes with it, and references only at that frame
pub record Moves (zone : Zone) (hold : Hold) (references later : ℕ → ℕ → ℕ) (parts : ℕ → Part) (f p : ℕ) (x y : Phase) (part : Part) : Type 0 where
  pub fits : FrameFits zone hold (groups_in parts) (λ seat. later seat f) f y
  pub others : (m : ℕ) → (m ≡ f → ⊥) → (seat : ℕ) → later seat m ≡ references seat m
  pub group : part.stock.group ≡ (parts p).stock.group
  pub lists : (kind : Kind) → ListMoves f (frames_of (parts p) kind) (frames_of part kind) (has_as kind p x) (has_as kind p y)
  pub elsewhere : (q : ℕ) (kind : Kind) → (q ≡ p → ⊥) → has_as kind q y ≡ has_as kind q x
  pub unit : (u : ChargedUnit) → unit_of y ≡ Some u → (u.order ≡ 0) ⊎ (unit_of x ≡ Some u)
  pub no_tail : (g : ℕ) → x ≡ Tail g → ⊥
  pub booked : IsBooked part

pub same_groups : (parts : ℕ → Part) (p : ℕ) (part : Part) → part.stock.group ≡ (parts p).stock.group → groups_in parts ≡ groups_in (with_at parts p part)
same_groups parts p part e = λ i. λ q. at_each parts p part (λ n x. (parts n).stock.group ≡ x.stock.group) (sym e) (λ n ne. refl) q i

move_one : (zone : Zone) (hold : Hold) (phases : ℕ → Phase) (references later : ℕ → ℕ → ℕ) (parts : ℕ → Part) (f p : ℕ) (y : Phase) (part : Part) →
    StateInvariant zone hold phases references parts → Moves zone hold references later parts f p (phases f) y part →
    StateInvariant zone hold (with_at phases f y) later (with_at parts p part)
move_one zone hold phases references later parts f p y part s m =
    let groups : groups_in parts ≡ groups_in (with_at parts p part) = same_groups parts p part m.group in
    record {
      frames = at_each phases f y (λ n x. FrameFits zone hold (groups_in (with_at parts p part)) (λ seat. later seat n) n x)
          (subst (λ (g : ℕ → Option ℕ). FrameFits zone hold g (λ seat. later seat f) f y) groups m.fits)
          (λ n ne.
          let same : (λ (seat : ℕ). references seat n) ≡ (λ seat. later seat n) = λ i. λ seat. sym (m.others n ne seat) i in
          subst (λ (g : ℕ → Option ℕ). FrameFits zone hold g (λ seat. later seat n) n (phases n)) groups
          (subst (λ (r : ℕ → ℕ). FrameFits zone hold (groups_in parts) r n (phases n)) same (s.frames n)));
      lists = λ q kind. at_each phases f y (λ n x. times n (frames_of (with_at parts p part q) kind) ≡ one_if (has_as kind q x))
          (at_each parts p part (λ k part'. times f (frames_of part' kind) ≡ one_if (has_as kind k y))
          (moved_here f (frames_of (parts p) kind) (frames_of part kind) (has_as kind p (phases f)) (has_as kind p y) (m.lists kind) (s.lists p kind f))
          (λ k ne. s.lists k kind f ∙ ap one_if (sym (m.elsewhere k kind ne)))
          q)
          (λ n other. at_each parts p part (λ k part'. times n (frames_of part' kind) ≡ one_if (has_as kind k (phases n)))
          (moved_other f n (frames_of (parts p) kind) (frames_of part kind) (has_as kind p (phases f)) (has_as kind p y) other (m.lists kind)
          ∙ s.lists p kind n)
          (λ k ne. s.lists k kind n)
          q);
      units = at_each phases f y (λ n x. (unit : ChargedUnit) → unit_of x ≡ Some unit → (z : ℕ) → n < z → z < n
          + 2 ^ unit.order → with_at phases f y z ≡ Tail unit.group)
          (λ unit e z low high. elim (m.unit unit e) [
            | inl one ↦ absurd (let a : 2 ^ unit.order ≡ 1 = ap (λ k. 2 ^ k) one in omega arith)
            | inr old ↦ at_other phases f y z (λ same. absurd (omega arith)) ∙ s.units f unit old z low high
          ])
          (λ n ne unit e z low high.
          let tail : phases z ≡ Tail unit.group = s.units n unit e z low high in
          at_other phases f y z (λ same. m.no_tail unit.group (ap phases (sym same) ∙ tail)) ∙ tail);
      booked = at_each parts p part (λ k part'. IsBooked part') m.booked (λ k ne. s.booked k);
    }

pub sound_one : (zone : Zone) (hold : Hold) (phases : ℕ → Phase) (references later : ℕ → ℕ → ℕ) (parts : ℕ → Part) (f p : ℕ) (x y : Phase) (part : Part) →
    StateInvariant zone hold phases references parts → phases f ≡ x → Moves zone hold references later parts f p x y part →
    StateInvariant zone hold (with_at phases f y) later (with_at parts p part)
sound_one zone hold phases references later parts f p x y part s was m =
    move_one zone hold phases references later parts f p y part s (subst (λ (z : Phase). Moves zone hold references later parts f p z y part) (sym was) m)

-- the same where no part changes
pub sound_phase : (zone : Zone) (hold : Hold) (phases : ℕ → Phase) (references later : ℕ → ℕ → ℕ) (parts : ℕ → Part) (f : ℕ) (x y : Phase) →
    StateInvariant zone hold phases references parts → phases f ≡ x → Moves zone hold references later parts f 0 x y (parts 0) →
    StateInvariant zone hold (with_at phases f y) later parts
sound_phase zone hold phases references later parts f x y s was m =
    subst (λ (ps : ℕ → Part). StateInvariant zone hold (with_at phases f y) later ps) (at_itself parts 0)
    (sound_one zone hold phases references later parts f 0 x y (parts 0) s was m)

-- the same where no phase changes either
pub sound_references : (zone : Zone) (hold : Hold) (phases : ℕ → Phase) (references later : ℕ → ℕ → ℕ) (parts : ℕ → Part) (f : ℕ) →
    StateInvariant zone hold phases references parts → Moves zone hold references later parts f 0 (phases f) (phases f) (parts 0) →
    StateInvariant zone hold phases later parts
sound_references zone hold phases references later parts f s m =
    subst (λ (ph : ℕ → Phase). StateInvariant zone hold ph later parts) (at_itself phases f)
    (sound_phase zone hold phases references later parts f (phases f) (phases f) s refl m)

-- a part changes in its numbers alone, and what is fresh stays paid
pub sound_part : (zone : Zone) (hold : Hold) (phases : ℕ → Phase) (references : ℕ → ℕ → ℕ) (parts : ℕ → Part) (p : ℕ) (part : Part) →
    StateInvariant zone hold phases references parts → ((f : ℕ) → PhasePaid zone.cpus (groups_in (with_at parts p part)) (phases f)) →
    ((kind : Kind) → frames_of part kind ≡ frames_of (parts p) kind) → IsBooked part →
    StateInvariant zone hold phases references (with_at parts p part)
sound_part zone hold phases references parts p part s paid lists booked = record {
  frames = λ f.
      let old = s.frames f in
      record { out = old.out; returning = old.returning; unreferred = old.unreferred; seats = old.seats; paid = paid f; inside = old.inside };
  lists = λ q kind f. at_each parts p part (λ k part'. times f (frames_of part' kind) ≡ one_if (has_as kind k (phases f)))
      (ap (times f) (lists kind) ∙ s.lists p kind f) (λ k ne. s.lists k kind f) q;
  units = s.units;
  booked = at_each parts p part (λ k part'. IsBooked part') booked (λ k ne. s.booked k);
}

-- the same where the stock stays of its group
pub sound_numbers : (zone : Zone) (hold : Hold) (phases : ℕ → Phase) (references : ℕ → ℕ → ℕ) (parts : ℕ → Part) (p : ℕ) (part : Part) →
    StateInvariant zone hold phases references parts → part.stock.group
    ≡ (parts p).stock.group → ((kind : Kind) → frames_of part kind ≡ frames_of (parts p) kind) → IsBooked part →
    StateInvariant zone hold phases references (with_at parts p part)
sound_numbers zone hold phases references parts p part s group lists booked =
    sound_part zone hold phases references parts p part s
    (λ f. subst (λ (g : ℕ → Option ℕ). PhasePaid zone.cpus g (phases f)) (same_groups parts p part group) (s.frames f).paid)
    lists booked
