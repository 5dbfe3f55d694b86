-- A table of zeros, with the pasts of all in one seat, keeps the rule by the empty run.
use Rattle.std.proofs.Common.{[], ◌≡◌, ◌≢◌, ℕ, zero, suc, ◌+◌, ◌*◌, ◌-◌, ◌<◌, ◌≤◌, List, ◌∷◌, drop, length, replicate, take, refl, ap, sym, ◌∙◌, subst, arith, inl, inr}
use Rattle.std.specs.Prelude.{nat_le, slice_index}
use Rattle.std.proofs.lemmas.List.{drop-replicate, length-replicate, take-replicate}
use mathlib.Core.Logic.{dite}
use native.Mathlib.Decide.{ℕ_discrete}
use Rattle.stock_word.specs.Stock.{group_base}
use Rattle.step_rules.specs.State.{Zone, one_if}
use Rattle.boot_words.specs.{AllOf, frame_base, words_in, word_count, BeginsRun, RunRule, of_number, sum_over, no_past, all_pasts, cpus_pasts}
use Rattle.boot_words.proofs.Booting.{a_boot_has_words}
use Rattle.boot_words.proofs.Counting.{case_le, is_high, is_low, is_none, is_own}

zeros : (n k : ℕ) → slice_index (replicate n 0) k ≡ 0
zeros zero k = refl
zeros (suc n) zero = refl
zeros (suc n) (suc k) = zeros n k

frame_zeros : (zone : Zone) → drop {A = ℕ} (frame_base zone) (replicate (word_count zone) 0) ≡ replicate (zone.frames + zone.cpus) 0
frame_zeros zone = drop-replicate (frame_base zone) (word_count zone) 0
    ∙ ap (λ n. replicate n 0) (let e : frame_base zone + (zone.frames + zone.cpus) - frame_base zone ≡ zone.frames + zone.cpus = omega arith in e)

stock_zeros : (zone : Zone) → take {A = ℕ} (frame_base zone) (replicate (word_count zone) 0) ≡ replicate (frame_base zone) 0
stock_zeros zone = take-replicate (frame_base zone) (word_count zone) 0 (omega arith)

none_else : (q p n : ℕ) → ((k : ℕ) → p ≤ k → k < p + n → k ≢ q) → sum_over (of_number q) (cpus_pasts p n) ≡ 0
none_else q p zero else = refl
none_else q p (suc n) else =
    let a = is_none (no_past p) q (else p (omega arith) (omega arith)) in
    let b = none_else q (p + 1) n (λ k low high. else k (omega (arith, low)) (omega (arith, high))) in omega (arith, a, b)

one_among : (q p n : ℕ) → p ≤ q → q < p + n → sum_over (of_number q) (cpus_pasts p n) ≡ 1
one_among q p zero low high = absurd (omega (arith, low, high))
one_among q p (suc n) low high = dite (ℕ_discrete p q)
    (λ e. let a = is_own (no_past p) q e in let b = none_else q (p + 1) n (λ k above below same. absurd (omega (arith, e, above, same))) in omega (arith, a, b))
    (λ ne. let a = is_none (no_past p) q ne in let b = one_among q (p + 1) n (omega (arith, low, ne)) (omega (arith, high)) in omega (arith, a, b))

one_each : (cpus q : ℕ) → sum_over (of_number q) (all_pasts cpus) + 0 ≡ one_if (nat_le q cpus)
one_each cpus q = dite (ℕ_discrete 0 q)
    (λ e. let a = is_own (no_past 0) q e in
    let b = none_else q 1 cpus (λ k low high same. absurd (omega (arith, low, same, e))) in
    let c = is_low q cpus (omega (arith, e)) in omega (arith, a, b, c))
    (λ ne. let a = is_none (no_past 0) q ne in
    elim (case_le q cpus) [
      | inl low ↦ let b = one_among q 1 cpus (omega (arith, ne)) (omega (arith, low)) in let c = is_low q cpus low in omega (arith, a, b, c)
      | inr high ↦ let b = none_else q 1 cpus (λ k above below same. absurd (omega (arith, below, same, high))) in let c = is_high q cpus high in omega (arith, a, b, c)
    ])

first_begins : (zone : Zone) (number : ℕ) → BeginsRun zone [] (no_past number)
first_begins zone number = record { goes = record { rest = []; is = refl; others = tt }; fast = λ lock. tt; few = (let e : 0 < group_base = omega arith in e) }

cpus_begin : (zone : Zone) (p n : ℕ) → AllOf (BeginsRun zone []) (cpus_pasts p n)
cpus_begin zone p zero = tt
cpus_begin zone p (suc n) = (first_begins zone p, cpus_begin zone (p + 1) n)

pub rule_opens : (zone : Zone) → RunRule zone (replicate (word_count zone) 0) (all_pasts zone.cpus ∷ [])
rule_opens zone =
    let words : List ℕ = replicate (word_count zone) 0 in record {
      run = [];
      is = a_boot_has_words zone (words_in zone words) (record {
        frames_wide = subst (λ n. zone.frames + zone.cpus ≤ n) (sym (ap length (frame_zeros zone) ∙ length-replicate (zone.frames + zone.cpus) 0)) (let e : zone.frames + zone.cpus ≤ zone.frames + zone.cpus = omega arith in e);
        stocks_wide = subst (λ n. 16 * (zone.cpus + 1) ≤ n) (sym (ap length (stock_zeros zone) ∙ length-replicate (16 * (zone.cpus + 1)) 0)) (let e : 16 * (zone.cpus + 1) ≤ 16 * (zone.cpus + 1) = omega arith in e);
        frames = λ i. ap (λ l. slice_index l i) (frame_zeros zone) ∙ zeros (zone.frames + zone.cpus) i;
        stocks = λ i. ap (λ l. slice_index l i) (stock_zeros zone) ∙ zeros (16 * (zone.cpus + 1)) i;
      });
      wide = length-replicate (word_count zone) 0;
      small = λ cpu. (let e : 0 < group_base = omega arith in e);
      one_past = one_each zone.cpus;
      fits = ((first_begins zone 0, cpus_begin zone 1 zone.cpus), tt);
    }
