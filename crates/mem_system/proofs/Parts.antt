-- Serves `make_cpus`. The parts of the CPUs at first, made one by one.
use Rattle.std.proofs.Common.{◌≡◌, ℕ, zero, suc, ◌+◌, ◌-◌, ◌<◌, List, [], ◌∷◌, ◌++◌, All, length, get_or, Some, refl, sym, ap, ◌∙◌, subst, arith}
use Rattle.std.specs.Prelude.{is_some, slice_get}
use Rattle.std.proofs.lemmas.Option.{get_or_from_slice_get}
use Rattle.std.proofs.lemmas.Bool.{false≢true}
use Rattle.atomic_table.specs.Seated.{TableId}
use Rattle.boot_words.specs.declared.past.Past.{Past}
use Rattle.boot_words.specs.{IsAwayCpu, KnownCpuSeat, state_left, cpu_at_first, cpus_at_first, no_past, KnownTable}
use Rattle.cpu_part.specs.{KnownCpuLists, IsIdle, first_cpu, HasOwn, KnowsItsPart}
use Rattle.mem_system.specs.Boots.{first_cpus, first_pasts}

-- the seats that are left after i CPUs were dealt
pub seats_left : (id : TableId) (i n : ℕ) → i < n
    → cpus_at_first id (i + 1) (n - i) ≡ cpu_at_first id (i + 1) ∷ cpus_at_first id ((i + 1) + 1) (n - (i + 1))
seats_left id i n lt = ap (cpus_at_first id (i + 1)) (let e : n - i ≡ suc (n - (i + 1)) = omega arith in e)

-- what `remove(0)` returned is the front
pub front_is : {A : Type 0} (xs : List A) (first : A) (rest : List A) (taken : A) → xs ≡ first ∷ rest → taken ≡ get_or xs 0 taken → taken ≡ first
front_is xs first rest taken e is = is ∙ ap (λ l. get_or l 0 taken) e

-- a CPU that did nothing knows its part
pub knows_first : (t : KnownTable) (seat : KnownCpuSeat) (part : KnownCpuLists) → seat ≡ cpu_at_first t.table seat.number → IsAwayCpu t seat → part ≡ first_cpu seat.number
    → KnowsItsPart t seat part
knows_first t seat part first away is =
    let own : HasOwn (state_left t (cpu_at_first t.table seat.number)) (first_cpu seat.number) = record { list = refl; fresh = refl; back = refl; references = λ f. refl } in
    subst (KnowsItsPart t seat) (sym is)
    (record { is = away; number = refl; own = subst (λ (k : KnownCpuSeat). HasOwn (state_left t k) (first_cpu seat.number)) (sym first) own })

cpus_more : (p n : ℕ) → first_cpus p (suc n) ≡ first_cpus p n ++ first_cpu (p + n) ∷ []
cpus_more p zero = ap (λ (m : ℕ). first_cpu m ∷ []) (let e : p ≡ p + 0 = omega arith in e)
cpus_more p (suc n) = ap (λ l. first_cpu p ∷ l)
    (cpus_more (p + 1) n ∙ ap (λ (m : ℕ). first_cpus (p + 1) n ++ first_cpu m ∷ []) (let e : (p + 1) + n ≡ p + suc n = omega arith in e))

-- one more part
pub cpus_next : (i : ℕ) → first_cpus 1 (i + 1) ≡ first_cpus 1 i ++ first_cpu (i + 1) ∷ []
cpus_next i = ap (first_cpus 1) (let e : i + 1 ≡ suc i = omega arith in e) ∙ cpus_more 1 i
    ∙ ap (λ (m : ℕ). first_cpus 1 i ++ first_cpu m ∷ []) (let e : 1 + i ≡ i + 1 = omega arith in e)

-- nothing is left in any of them
pub cpus_idle : (p n : ℕ) → All IsIdle (first_cpus p n)
cpus_idle p zero k d lt = absurd (omega arith)
cpus_idle p (suc n) zero d lt = (refl, refl, refl, refl)
cpus_idle p (suc n) (suc k) d lt = cpus_idle (p + 1) n k d (omega arith)

-- there are n of them
pub cpus_long : (p n : ℕ) → length (first_cpus p n) ≡ n
cpus_long p zero = refl
cpus_long p (suc n) = let rest = cpus_long (p + 1) n in omega (arith, rest)

first_pasts_more : (p n : ℕ) → first_pasts p (suc n) ≡ first_pasts p n ++ no_past (p + n) ∷ []
first_pasts_more p zero = ap (λ (m : ℕ). no_past m ∷ []) (let e : p ≡ p + 0 = omega arith in e)
first_pasts_more p (suc n) = ap (λ (l : List Past). no_past p ∷ l)
    (first_pasts_more (p + 1) n ∙ ap (λ (m : ℕ). first_pasts (p + 1) n ++ no_past m ∷ []) (let e : (p + 1) + n ≡ p + suc n = omega arith in e))

pub pasts_next : (i : ℕ) → first_pasts 1 (i + 1) ≡ first_pasts 1 i ++ no_past (i + 1) ∷ []
pasts_next i = ap (first_pasts 1) (let e : i + 1 ≡ suc i = omega arith in e) ∙ first_pasts_more 1 i
    ∙ ap (λ (m : ℕ). first_pasts 1 i ++ no_past m ∷ []) (let e : 1 + i ≡ i + 1 = omega arith in e)

-- a CPU's past at first has its number and no step
pub first_past_at : (p n k : ℕ) (past : Past) → slice_get (first_pasts p n) k ≡ Some past → (past.number ≡ p + k) × (past.seen ≡ [])
first_past_at p zero k past at = absurd (false≢true (ap is_some at))
first_past_at p (suc n) zero past at =
    let is : no_past p ≡ past = get_or_from_slice_get (first_pasts p (suc n)) 0 past past at in
    (sym (ap (λ (x : Past). x.number) is) ∙ (let e : p ≡ p + 0 = omega arith in e), sym (ap (λ (x : Past). x.seen) is))
first_past_at p (suc n) (suc k) past at =
    let rest = first_past_at (p + 1) n k past at in
    (rest.0 ∙ (let e : (p + 1) + k ≡ p + suc k = omega arith in e), rest.1)
