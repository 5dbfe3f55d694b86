-- Joining or parting seats keeps the rule.
use Rattle.std.proofs.Common.{[], ◌≡◌, ℕ, zero, suc, ◌+◌, List, ◌∷◌, ◌++◌, set, refl, ap, sym, ◌∙◌, arith}
use lib.ListN.{get_elem?}
use Rattle.atomic_table.specs.Table.{Joins, Splits}
use Rattle.step_rules.specs.State.{Zone}
use Rattle.boot_words.specs.declared.past.Past.{Past}
use Rattle.boot_words.specs.{AllOf, AllPasts, BeginsRun, RunRule, run_rule, of_number, sum_over, total_over, first_alone, rest_of}
use Rattle.boot_words.proofs.Each.{all_at, all_set, all_append}
use Rattle.boot_words.proofs.Totals.{total_join, total_more, total_set}

-- in which seat a past is doesn't matter to the rule
moved : (zone : Zone) (words : List ℕ) (seats later : List (List Past)) → ((q : ℕ) → total_over (of_number q) later ≡ total_over (of_number q) seats)
    → (k : RunRule zone words seats) → AllPasts (BeginsRun zone k.run) later → RunRule zone words later
moved zone words seats later same k fits = record {
  run = k.run;
  is = k.is;
  wide = k.wide;
  small = k.small;
  one_past = λ number. same number ∙ k.one_past number;
  fits = fits;
}

-- a new seat gets some of a seat's pasts
pub split_allowed : {S : Type 0} (zone : Zone) (id : ℕ) (pasts left right : List Past) → ((f : Past → ℕ) → sum_over f left + sum_over f right ≡ sum_over f pasts)
    → ((P : Past → Type 0) → AllOf P pasts → AllOf P left × AllOf P right) → Splits {S = S} (run_rule zone) id pasts left right
split_allowed zone id pasts left right sums parts s k at =
    let P : List Past → Type 0 = AllOf (BeginsRun zone k.run) in
    let dealt = parts (BeginsRun zone k.run) (all_at P s.views id pasts at k.fits) in
    moved zone s.words s.views (set s.views id left ++ right ∷ [])
    (λ q. omega (arith, total_more (of_number q) (set s.views id left) right, total_set (of_number q) s.views id pasts left at, sums (of_number q))) k
    (all_append P (set s.views id left) (right ∷ []) (all_set P s.views id left dealt.0 k.fits) (dealt.1, tt))

pub nothing_allowed : {S : Type 0} (zone : Zone) (id : ℕ) (pasts : List Past) → Splits {S = S} (run_rule zone) id pasts pasts []
nothing_allowed zone id pasts = split_allowed zone id pasts pasts [] (λ f. omega arith) (λ P all. (all, tt))

pub others_allowed : {S : Type 0} (zone : Zone) (id : ℕ) (pasts : List Past) → Splits {S = S} (run_rule zone) id pasts (first_alone pasts) (rest_of pasts)
others_allowed zone id [] = split_allowed zone id [] [] [] (λ f. refl) (λ P all. (tt, tt))
others_allowed zone id (p ∷ ps) = split_allowed zone id (p ∷ ps) (p ∷ []) ps (λ f. omega arith) (λ P all. ((all.0, tt), all.1))

at_other : {A : Type 0} (xs : List A) (i j : ℕ) (y : A) → ¬ (j ≡ i) → get_elem? (set xs i y) j ≡ get_elem? xs j
at_other [] i j y ne = refl
at_other (x ∷ xs) zero zero y ne = absurd (ne refl)
at_other (x ∷ xs) zero (suc j) y ne = refl
at_other (x ∷ xs) (suc i) zero y ne = refl
at_other (x ∷ xs) (suc i) (suc j) y ne = at_other xs i j y (λ e. ne (ap suc e))

-- a seat gets all of another's pasts
pub join_allowed : {S : Type 0} (zone : Zone) (id other : ℕ) (pasts taken : List Past) → Joins {S = S} (run_rule zone) id pasts other taken (pasts ++ taken) []
join_allowed zone id other pasts taken s k at apart there =
    let P : List Past → Type 0 = AllOf (BeginsRun zone k.run) in
    let own = all_at P s.views id pasts at k.fits in
    let others = all_at P s.views other taken (sym (at_other s.views id other (pasts ++ taken) apart) ∙ there) k.fits in
    moved zone s.words s.views (set (set s.views id (pasts ++ taken)) other []) (λ q. total_join (of_number q) s.views id other pasts taken at there) k
    (all_set P (set s.views id (pasts ++ taken)) other [] tt (all_set P s.views id (pasts ++ taken) (all_append (BeginsRun zone k.run) pasts taken own others) k.fits))
