-- The word of a frame and its number of references.
use Rattle.std.proofs.Common.{◌≡◌, ◌≢◌, ℕ, ◌+◌, ◌<◌, ◌≤◌, ◌==◌, Bool, true, false, refl, sym, ◌∙◌, ap, arith, inl, inr, cond, ◌&&◌}
use Rattle.std.specs.Prelude.{nat_le}
use Rattle.std.proofs.lemmas.Bool.{cases_Bool, cond-false, le-leb, leb-true, ne_eqb}
use Rattle.step_rules.specs.declared.phase.Way.TheVariants.{PassingOut, PassingBack}
use Rattle.step_rules.specs.declared.phase.Stage.TheVariants.{FreshPassing, BackPassing}
use Rattle.step_rules.specs.declared.phase.Phase.{Phase}
use Rattle.step_rules.specs.declared.phase.Phase.TheVariants.{Lent, Head}
use Rattle.step_rules.specs.declared.step.Answer.TheVariants.{Held, Zero, Full}
use Rattle.step_rules.specs.{is_live_phase, live_references, sum_to, get_answer, KeepsInvariant}
use Rattle.step_rules.specs.State.{State}
use Rattle.step_rules.proofs.PhaseLemmas.{live_is}
use Rattle.step_rules.proofs.Referring.{changed, changed_others}
use Rattle.step_rules.proofs.Sums.{sum_none, sum_same}
use Rattle.boot_words.specs.Words.{word_in_phase, frame_word}

-- other frames keep their references
pub sum_others : (s : State) (k f n m : ℕ) → m ≢ f → sum_to (s.zone.cpus + 1) (λ seat. changed s.references k f n seat m) ≡ live_references s m
sum_others s k f n m ne = sum_same (s.zone.cpus + 1) _ _ (λ seat below. changed_others s.references k f n m ne seat)

pub none_live : (s : State) (f : ℕ) → KeepsInvariant s → is_live_phase (s.phases f) ≡ false → live_references s f ≡ 0
none_live s f sound dead = sum_none (s.zone.cpus + 1) (λ seat. s.references seat f) (λ seat below. (sound.frames f).unreferred dead seat)

-- a frame in a live phase has its number of references as its word
pub live_word : (s : State) (f : ℕ) → is_live_phase (s.phases f) ≡ true → (live : ℕ) → word_in_phase (s.phases f) live ≡ live
live_word s f is live = ap (λ x. word_in_phase x live) (live_is (s.phases f) is).1

not_marked : (q : ℕ) → 256 + q < 256 → ⊥
not_marked q low = omega arith

-- a word below the marks is a number of references
pub low_word : (x : Phase) (live : ℕ) → word_in_phase x live < 256 → word_in_phase x live ≡ live
low_word (Lent q PassingOut) live low = absurd (not_marked q low)
low_word (Lent q PassingBack) live low = absurd (not_marked q low)
low_word (Head u (FreshPassing q)) live low = absurd (not_marked q low)
low_word (Head u (BackPassing q)) live low = absurd (not_marked q low)
low_word x live low = refl

not_le : (a b : ℕ) → b < a → nat_le a b ≡ false
not_le a b h = elim (cases_Bool (nat_le a b)) [
  | inl e ↦ absurd (let l = leb-true a b e in omega arith)
  | inr e ↦ e
]

and_not : (b : Bool) → (b && false) ≡ false
and_not true = refl
and_not false = refl

high_answer : (n : ℕ) → 256 ≤ n → get_answer n ≡ Zero
high_answer n high =
    cond-false (nat_le 1 n && nat_le n 254) Held (cond (n == 255) Full Zero) (ap (λ b. nat_le 1 n && b) (not_le n 254 (omega (arith, high))) ∙ and_not (nat_le 1 n))
    ∙ cond-false (n == 255) Full Zero (ne_eqb n 255 (λ e. absurd (omega (arith, high, e))))

pub held_answer : (n : ℕ) → 1 ≤ n → n ≤ 254 → get_answer n ≡ Held
held_answer n low high = (λ i. cond (le-leb 1 n low i && le-leb n 254 high i) Held (cond (n == 255) Full Zero))

mark_high : (q : ℕ) → 256 ≤ 256 + q
mark_high q = omega arith

answer_in : (x : Phase) (live : ℕ) → (is_live_phase x ≡ false → live ≡ 0) → get_answer (word_in_phase x live) ≡ get_answer live
answer_in (Lent q PassingOut) live dead = high_answer (256 + q) (mark_high q) ∙ sym (ap get_answer (dead refl))
answer_in (Lent q PassingBack) live dead = high_answer (256 + q) (mark_high q) ∙ sym (ap get_answer (dead refl))
answer_in (Head u (FreshPassing q)) live dead = high_answer (256 + q) (mark_high q) ∙ sym (ap get_answer (dead refl))
answer_in (Head u (BackPassing q)) live dead = high_answer (256 + q) (mark_high q) ∙ sym (ap get_answer (dead refl))
answer_in x live dead = refl

-- the word decides the answer of a get as the number of references does
pub answer_by_word : (s : State) (f : ℕ) → KeepsInvariant s → get_answer (frame_word s f) ≡ get_answer (live_references s f)
answer_by_word s f sound = answer_in (s.phases f) (live_references s f) (none_live s f sound)
