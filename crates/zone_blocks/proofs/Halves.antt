-- A block and its halves, for `free_upper_halves`, and a block and its buddy, for `take_buddy`.
use Rattle.std.proofs.Common.{◌≡◌, ◌≢◌, ℕ, zero, suc, ◌+◌, ◌-◌, ◌*◌, ◌/◌, ◌^◌, ◌%◌, ◌<◌, ◌⊎◌, Bool, eqb, List, refl, sym, ap, ◌∙◌, subst, inl, inr, arith, eq-eqb}
use Rattle.std.proofs.lemmas.Bool.{cases_lt, cases_eq, ne_eqb, cond-true, cond-false}
use Rattle.std.proofs.lemmas.Nat.{pow_pos, pow-add, mod-pow-add, mod_below}
use Rattle.std.proofs.Math.Nat.{add-mod_right, mod-le}
use Rattle.zone_blocks.specs.declared.block.Block.{Block}
use Rattle.zone_blocks.specs.{IsBlock, Covers, enclosing, buddy, IsFree, FreeBlocks, Overlaps, Inserts, block_at, free_set_of, AreSoundAreas}
use Rattle.zone_blocks.specs.{TakesFrames, GivesFrames}
use Rattle.zone_blocks.proofs.Filling.{same_block}
use Rattle.zone_blocks.proofs.Nested.{covers_start, start_is}
use Rattle.zone_blocks.proofs.Sets.{decide_covers}
use Rattle.zone_blocks.proofs.BuddyFrames.{gives_frames, kept_more, apart_from_use}

pub double : (e : ℕ) → 2 ^ (e + 1) ≡ 2 ^ e + 2 ^ e
double e = let p = pow-add 2 e 1 in omega (arith, p)

-- the remainder by twice 2 ^ e
pub parity : (at e : ℕ) → at % 2 ^ (e + 1) ≡ (at / 2 ^ e % 2) * 2 ^ e + at % 2 ^ e
parity at e =
    let one : ℕ = 1 in
    let s : one + e ≡ e + 1 = omega arith in
    rw s at (mod-pow-add at 1 e)

pub aligned_by_half : (at e : ℕ) → at % 2 ^ (e + 1) ≡ 0 → at % 2 ^ e ≡ 0
aligned_by_half at e h = let p = parity at e in omega (arith, p)

pub next_aligned : (at m : ℕ) → at % m ≡ 0 → (at + m) % m ≡ 0
next_aligned at m h = add-mod_right at m ∙ h

-- ---- the halves of a block of order e + 1

pub lower_half : (n at e : ℕ) → IsBlock n (block_at at (e + 1)) → IsBlock n (block_at at e)
lower_half n at e h =
    let order = h.order in
    let inside = h.inside in
    let d = double e in
    record { order = omega arith; aligned = aligned_by_half at e h.aligned; inside = omega arith }

pub upper_half : (n at e : ℕ) → IsBlock n (block_at at (e + 1)) → IsBlock n (block_at (at + 2 ^ e) e)
upper_half n at e h =
    let order = h.order in
    let inside = h.inside in
    let d = double e in
    record { order = omega arith; aligned = next_aligned at (2 ^ e) (aligned_by_half at e h.aligned); inside = omega arith }

upper_enclosed : (n at e : ℕ) → IsBlock n (block_at at (e + 1)) → (enclosing (block_at (at + 2 ^ e) e)).at ≡ at
upper_enclosed n at e h =
    let d = double e in
    sym (start_is at (2 ^ (e + 1)) (at + 2 ^ e) (pow_pos (e + 1)) h.aligned (omega arith) (omega (arith, d, pow_pos e)))

lower_enclosed : (n at e : ℕ) → IsBlock n (block_at at (e + 1)) → (enclosing (block_at at e)).at ≡ at
lower_enclosed n at e h =
    let d = double e in
    sym (start_is at (2 ^ (e + 1)) at (pow_pos (e + 1)) h.aligned (omega arith) (omega (arith, d, pow_pos e)))

-- the halves u and v of a block
pub record AreHalves (n : ℕ) (whole u v : Block) : Type 0 where
  pub first : IsBlock n u
  pub second : IsBlock n v
  pub in_first : (f : ℕ) → Covers u f → Covers whole f
  pub in_second : (f : ℕ) → Covers v f → Covers whole f
  pub apart : (f : ℕ) → Covers v f → ¬ Covers u f
  pub both : (f : ℕ) → Covers whole f → ¬ Covers u f → Covers v f
  pub encloses : Covers (enclosing u) v.at

in_upper : (at e f : ℕ) → Covers (block_at (at + 2 ^ e) e) f → Covers (block_at at (e + 1)) f
in_upper at e f c = let d = double e in let from = c.from in let before = c.before in record { from = omega arith; before = omega (arith, d) }

in_lower : (at e f : ℕ) → Covers (block_at at e) f → Covers (block_at at (e + 1)) f
in_lower at e f c = let d = double e in let from = c.from in let before = c.before in record { from = from; before = omega (arith, d) }

pub upper_first : (n at e : ℕ) → IsBlock n (block_at at (e + 1)) → AreHalves n (block_at at (e + 1)) (block_at (at + 2 ^ e) e) (block_at at e)
upper_first n at e h =
    let d = double e in
    let pos = pow_pos e in
    let start = upper_enclosed n at e h in
    record {
      first = upper_half n at e h;
      second = lower_half n at e h;
      in_first = in_upper at e;
      in_second = in_lower at e;
      apart = λ f c q. let before = c.before in let from = q.from in absurd (omega arith);
      both = λ f w out. let from = w.from in let before = w.before in elim (cases_lt f (at + 2 ^ e)) [
        | inl lt ↦ record { from = from; before = lt }
        | inr ge ↦ absurd (out record { from = ge; before = omega (arith, d) })
      ];
      encloses = record { from = omega (arith, start); before = omega (arith, start, d) };
    }

pub lower_first : (n at e : ℕ) → IsBlock n (block_at at (e + 1)) → AreHalves n (block_at at (e + 1)) (block_at at e) (block_at (at + 2 ^ e) e)
lower_first n at e h =
    let d = double e in
    let pos = pow_pos e in
    let start = lower_enclosed n at e h in
    record {
      first = lower_half n at e h;
      second = upper_half n at e h;
      in_first = in_lower at e;
      in_second = in_upper at e;
      apart = λ f c q. let from = c.from in let before = q.before in absurd (omega arith);
      both = λ f w out. let from = w.from in let before = w.before in elim (cases_lt f (at + 2 ^ e)) [
        | inl lt ↦ absurd (out record { from = from; before = lt })
        | inr ge ↦ record { from = ge; before = omega (arith, d) }
      ];
      encloses = record { from = omega (arith, start); before = omega (arith, start, d) };
    }

-- what is known while a block is halved: the areas are kept, and the block of order k at `at` is in use
pub record Halving (areas : FreeBlocks) (at k : ℕ) : Type 0 where
  pub kept : AreSoundAreas areas
  pub block : IsBlock areas.frames (block_at at k)
  pub in_use : (f : ℕ) → Covers (block_at at k) f → ¬ IsFree (free_set_of areas) f

-- one half is put in, and the other stays in use
halve : (old new : FreeBlocks) (whole u v : Block) → Halving old whole.at whole.order → AreHalves old.frames whole u v → Inserts old.blocks u new.blocks
    → new.frames ≡ old.frames → Halving new v.at v.order × ((free : List Bool) → TakesFrames free whole (free_set_of old) → TakesFrames free v (free_set_of new))
halve old new whole u v h halves inserts same =
    let given : GivesFrames (free_set_of old) u (free_set_of new) =
    gives_frames old new u inserts halves.first (λ f c. h.in_use f (halves.in_first f c)) same in
    let in_use : (f : ℕ) → Covers v f → ¬ IsFree (free_set_of new) f = λ f c is.
    h.in_use f (halves.in_second f c) ((given.others f (halves.apart f c)).1 is) in
    let kept = kept_more old new u h.kept inserts halves.first (λ f c. h.in_use f (halves.in_first f c)) same (λ g.
    in_use v.at (covers_start v) (g.all_free v.at halves.encloses)) in (
      record { kept = kept; block = rw same halves.second; in_use = in_use },
      λ free t. record {
        same_length = sym given.same_length ∙ t.same_length;
        were_free = λ f c. t.were_free f (halves.in_second f c);
        in_use = in_use;
        others = λ f out. elim (decide_covers u f) [
          | inl c ↦ ((λ _. t.were_free f (halves.in_first f c)), (λ _. given.were_free f c))
          | inr not ↦
              let r = given.others f not in
              let s = t.others f (λ w. out (halves.both f w not)) in
              ((λ is. s.0 (r.1 is)), (λ is. r.0 (s.1 is)))
        ];
      },
    )

-- a half of a block in use shares no frame with a block that is there
half_apart : (areas : FreeBlocks) (whole u v : Block) → Halving areas whole.at whole.order → AreHalves areas.frames whole u v → Overlaps areas.blocks u → ⊥
half_apart areas whole u v h halves = apart_from_use areas u h.kept.maximal (λ f c. h.in_use f (halves.in_first f c))

-- the same at a block u and an order k that are known to be these
pub half_ready : (areas : FreeBlocks) (at k e : ℕ) (u x y : Block) → k ≡ e + 1 → u ≡ x
    → (IsBlock areas.frames (block_at at (e + 1)) → AreHalves areas.frames (block_at at (e + 1)) x y) → Halving areas at k
    → IsBlock areas.frames u × (Overlaps areas.blocks u → ⊥)
half_ready areas at k e u x y ek eu halves h' =
    let H : ℕ → Type 0 = λ i. Halving areas at i in
    let P : Block → Type 0 = λ z. IsBlock areas.frames z × (Overlaps areas.blocks z → ⊥) in
    let h : Halving areas at (e + 1) = subst H ek h' in
    let parts = halves h.block in
    subst P (sym eu) (parts.first, half_apart areas (block_at at (e + 1)) x y h parts)

pub halve_at : (old new : FreeBlocks) (at k e : ℕ) (u x y : Block) → k ≡ e + 1 → u ≡ x
    → (IsBlock old.frames (block_at at (e + 1)) → AreHalves old.frames (block_at at (e + 1)) x y) → Halving old at k
    → Inserts old.blocks u new.blocks → new.frames ≡ old.frames
    → Halving new y.at y.order × ((free : List Bool) → TakesFrames free (block_at at k) (free_set_of old) → TakesFrames free y (free_set_of new))
halve_at old new at k e u x y ek eu halves h' inserts same =
    let H : ℕ → Type 0 = λ i. Halving old at i in
    let I : Block → Type 0 = λ z. Inserts old.blocks z new.blocks in
    let h : Halving old at (e + 1) = subst H ek h' in
    let r = halve old new (block_at at (e + 1)) x y h (halves h.block) (subst I eu inserts) same in
    (r.0, λ free t. let T : ℕ → Type 0 = λ i. TakesFrames free (block_at at i) (free_set_of old) in r.1 free (subst T ek t))

-- the size of a half, and the upper half, as the code has them
pub size_is : (e size order : ℕ) → size ≡ 2 ^ order → order ≡ e → size ≡ 2 ^ e
size_is e size order s o = let power : ℕ → ℕ = λ i. 2 ^ i in s ∙ ap power o

pub half_is : (at e size order : ℕ) → size ≡ 2 ^ order → order ≡ e → (u : Block) → u ≡ block_at (at + size) order → u ≡ block_at (at + 2 ^ e) e
half_is at e size order s o u same =
    let sum : ℕ → ℕ = λ i. at + i in
    same ∙ same_block (block_at (at + size) order) (block_at (at + 2 ^ e) e) (ap sum (size_is e size order s o)) o

-- ---- a block and its buddy

pub record HasBuddyAt (b : Block) (at : ℕ) : Type 0 where
  pub buddy_is : buddy b ≡ block_at at b.order
  pub placed : ((at ≡ b.at + 2 ^ b.order) × ((enclosing b).at ≡ b.at)) ⊎ ((at + 2 ^ b.order ≡ b.at) × ((enclosing b).at ≡ at))

lower_placed : (b : Block) → b.at % 2 ^ (b.order + 1) ≡ 0 → HasBuddyAt b (b.at + 2 ^ b.order)
lower_placed b h =
    let test = eq-eqb (b.at % 2 ^ (b.order + 1)) 0 h in
    let at = cond-true (eqb (b.at % 2 ^ (b.order + 1)) 0) (b.at + 2 ^ b.order) (b.at - 2 ^ b.order) test in
    record {
      buddy_is = same_block (buddy b) (block_at (b.at + 2 ^ b.order) b.order) at refl;
      placed = inl (refl, omega (arith, h));
    }

odd_from : (x m : ℕ) → x < 2 → (x * m ≡ 0 → ⊥) → x ≡ 1
odd_from zero m l h = absurd (h (omega arith))
odd_from (suc zero) m l h = refl
odd_from (suc (suc x)) m l h = absurd (omega arith)

upper_placed : (n : ℕ) (b : Block) → IsBlock n b → b.at % 2 ^ (b.order + 1) ≢ 0 → HasBuddyAt b (b.at - 2 ^ b.order)
upper_placed n b block h =
    let test = ne_eqb (b.at % 2 ^ (b.order + 1)) 0 h in
    let at = cond-false (eqb (b.at % 2 ^ (b.order + 1)) 0) (b.at + 2 ^ b.order) (b.at - 2 ^ b.order) test in
    let p = parity b.at b.order in
    let aligned = block.aligned in
    let bit : b.at / 2 ^ b.order % 2 ≡ 1 = odd_from (b.at / 2 ^ b.order % 2) (2 ^ b.order)
    (mod_below (b.at / 2 ^ b.order) 2 (omega arith)) (λ z. h (omega (arith, p, aligned, z))) in
    let p' = rw bit at p in
    let le = mod-le b.at (2 ^ (b.order + 1)) in
    record {
      buddy_is = same_block (buddy b) (block_at (b.at - 2 ^ b.order) b.order) at refl;
      placed = inr (omega (arith, p', aligned, le), omega (arith, p', aligned, le));
    }

pub has_buddy : (n : ℕ) (b : Block) → IsBlock n b → (at : ℕ) × HasBuddyAt b at
has_buddy n b block =
    elim (cases_eq (b.at % 2 ^ (b.order + 1)) 0) [
      | inl e ↦ (b.at + 2 ^ b.order, lower_placed b e)
      | inr ne ↦ (b.at - 2 ^ b.order, upper_placed n b block ne)
    ]
