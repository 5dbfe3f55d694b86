-- The table at the end: one seat has all pasts.
use Rattle.std.proofs.Common.{[], ◌≡◌, ℕ, suc, ◌+◌, ◌<◌, ◌≤◌, List, ◌∷◌, ◌++◌, length, refl, ap, sym, ◌∙◌, subst, arith, inl, inr}
use Rattle.atomic_table.specs.Table.{Final, Seen}
use Rattle.step_rules.specs.State.{Zone}
use Rattle.boot_words.specs.declared.past.Past.{Past}
use Rattle.boot_words.specs.{AllOf, BeginsRun, RunRule, of_number, sum_over, run_rule, HasCpuPast, IsClosedRun, IsEndOfRun, pasts_of_cpus, KnownCpuSeat}
use Rattle.boot_words.proofs.Each.{all_at}
use Rattle.boot_words.proofs.Counting.{all_low, case_le, count_all, each_one, is_high, is_low}
use Rattle.boot_words.proofs.Totals.{total_member}
use Rattle.boot_words.specs.Tables.{KnownTable}

pub end_of_run : (zone : Zone) (id : ℕ) (pasts : List Past) (words : List ℕ) (slots : List (Unit {0})) → Final (Seen (run_rule zone) id pasts) words slots
    → IsEndOfRun zone words pasts
end_of_run zone id pasts words slots final =
    let s = final.0 in
    let k : RunRule zone words s.views = subst (λ (w : List ℕ). RunRule zone w s.views) final.2 final.1.0 in
    let at = final.1.1 in record {
      run = k.run;
      is = k.is;
      small = k.small;
      begin = all_at (AllOf (BeginsRun zone k.run)) s.views id pasts at k.fits;
      few = λ number. let a = total_member (of_number number) s.views id pasts at in let b = k.one_past number in omega (arith, a, b);
    }

one_each : (t : KnownTable) (cpus : List KnownCpuSeat) → AllOf (HasCpuPast t) cpus → length (pasts_of_cpus cpus) ≡ length cpus
one_each t [] all = refl
one_each t (c ∷ cpus) all =
    ap (λ (l : List Past). length (l ++ pasts_of_cpus cpus)) all.0.alone ∙ ap suc (one_each t cpus all.1)

pub closed_run : (zone : Zone) (t : KnownTable) (words : List ℕ) (z : Past) (cpus : List KnownCpuSeat) (pasts : List Past) → IsEndOfRun zone words pasts → AllOf (HasCpuPast t) cpus
    → pasts ≡ z ∷ pasts_of_cpus cpus → length cpus ≡ zone.cpus → IsClosedRun zone words pasts
closed_run zone t words z cpus pasts end all are count = record {
  end = end;
  one_past = λ number.
      let n = zone.cpus in
      let none : (q : ℕ) → n < q → sum_over (of_number q) pasts ≡ 0 = λ q high. let a = end.few q in let b = is_high q n high in omega (arith, a, b) in
      let few : (q : ℕ) → q < n + 1 → sum_over (of_number q) pasts ≤ 1 = λ q low. let a = end.few q in let b = is_low q n (omega (arith, low)) in omega (arith, a, b) in
      let many : length pasts ≡ n + 1 = ap length are ∙ ap suc (one_each t cpus all ∙ count) ∙ (let e : suc n ≡ n + 1 = omega arith in e) in
      elim (case_le number n) [
        | inl low ↦ each_one (n + 1) (λ q. sum_over (of_number q) pasts) few (count_all (n + 1) pasts (all_low n pasts none) ∙ many) number (omega (arith, low)) ∙ sym (is_low number n low)
        | inr high ↦ none number high ∙ sym (is_high number n high)
      ];
}
