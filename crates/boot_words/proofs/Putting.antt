-- A put is allowed by the rule of the one table.
use Rattle.std.proofs.Common.{◌≡◌, ◌≢◌, ℕ, ◌+◌, ◌-◌, ◌%◌, ◌^◌, ◌<◌, ◌≤◌, ◌==◌, refl, ap, sym, ◌∙◌, subst, arith, inl, inr, eq-eqb}
use Rattle.std.proofs.lemmas.Bool.{cases_eq, cond-false, cond-true, ne_eqb}
use Rattle.step_rules.specs.declared.step.Action.TheVariants.{Put}
use Rattle.step_rules.specs.declared.step.Answer.TheVariants.{Left, Last}
use Rattle.step_rules.specs.State.{Zone}
use Rattle.boot_words.specs.Words.{Words}
use Rattle.boot_words.specs.{with_frame_word, ChangesWords, frame_word_at, put_answer_at}

-- ---- the answer by the word
pub less_one : (x : ℕ) → 1 ≤ x → x < 18446744073709551616 → (x + (2 ^ 64 - 1)) % 2 ^ 64 ≡ x - 1
less_one x a h = omega arith

minus_one : (n : ℕ) → n ≡ 1 → n - 1 ≡ 0
minus_one n e = omega arith

above_one : (n : ℕ) → 1 ≤ n → n ≢ 1 → 1 ≤ n - 1
above_one n low ne = omega (arith, low, ne)

and_one : (n : ℕ) → 1 ≤ n → n ≡ (n - 1) + 1
and_one n low = omega arith

pub put_changes : (zone : Zone) (words : Words) (seat f n : ℕ) → frame_word_at words f ≡ n → 1 ≤ n
    → ChangesWords zone words seat (Put f) (put_answer_at n) (with_frame_word words f (n - 1))
put_changes zone words seat f n is some = elim (cases_eq n 1) [
  | inl one ↦
      let answer : put_answer_at n ≡ Last = cond-true (n == 1) Last (Left (n - 1)) (eq-eqb n 1 one) in
      subst (λ a. ChangesWords zone words seat (Put f) a (with_frame_word words f (n - 1))) (sym answer) (is ∙ one, ap (with_frame_word words f) (minus_one n one))
  | inr many ↦
      let answer : put_answer_at n ≡ Left (n - 1) = cond-false (n == 1) Last (Left (n - 1)) (ne_eqb n 1 many) in
      subst (λ a. ChangesWords zone words seat (Put f) a (with_frame_word words f (n - 1))) (sym answer)
      (record { some = above_one n some many; found = is ∙ and_one n some; later_is = refl })
]
