-- The seats of the CPUs are split off one by one.
use Rattle.std.proofs.Common.{[], ◌≡◌, ℕ, suc, ◌+◌, ◌-◌, ◌<◌, ◌≤◌, List, ◌∷◌, ◌++◌, append_assoc, ap, sym, ◌∙◌, arith}
use Rattle.std.proofs.lemmas.List.{append-nil}
use Rattle.atomic_table.specs.Seated.{TableId}
use Rattle.boot_words.specs.declared.past.Past.{Past}
use Rattle.boot_words.specs.{no_past, KnownCpuSeat, cpu_at_first, cpus_at_first, cpus_pasts}

-- how many CPUs are left
pub one_more : (cpus p : ℕ) → p < cpus + 1 → cpus + 1 - p ≡ suc (cpus + 1 - (p + 1))
one_more cpus p h = omega arith

pub none_more : (cpus p : ℕ) → cpus + 1 ≤ p → cpus + 1 - p ≡ 0
none_more cpus p h = omega arith

pub all_left : (cpus : ℕ) → cpus ≡ cpus + 1 - 1
all_left cpus = omega arith

pub next_past : (pasts : List Past) (p n k : ℕ) → pasts ≡ cpus_pasts p n → n ≡ suc k → pasts ≡ no_past p ∷ cpus_pasts (p + 1) k
next_past pasts p n k is more = is ∙ ap (cpus_pasts p) more

pub next_seats : (table : TableId) (p n k : ℕ) (seats later all : List KnownCpuSeat) (seat : KnownCpuSeat) → seats ++ cpus_at_first table p n ≡ all → n ≡ suc k
    → seat ≡ cpu_at_first table p → later ≡ seats ++ seat ∷ [] → later ++ cpus_at_first table (p + 1) k ≡ all
next_seats table p n k seats later all seat is more same pushed =
    ap (λ l. l ++ cpus_at_first table (p + 1) k) pushed
    ∙ append_assoc seats (seat ∷ []) (cpus_at_first table (p + 1) k)
    ∙ ap (λ (s : KnownCpuSeat). seats ++ s ∷ cpus_at_first table (p + 1) k) same
    ∙ ap (λ c. seats ++ cpus_at_first table p c) (sym more)
    ∙ is

pub last_seats : (table : TableId) (p n : ℕ) (seats all : List KnownCpuSeat) → seats ++ cpus_at_first table p n ≡ all → n ≡ 0 → seats ≡ all
last_seats table p n seats all is more = sym (append-nil seats) ∙ ap (λ c. seats ++ cpus_at_first table p c) (sym more) ∙ is

pub no_seats : (table : TableId) (cpus : ℕ) (seats : List KnownCpuSeat) → seats ≡ [] → seats ++ cpus_at_first table 1 (cpus + 1 - 1) ≡ cpus_at_first table 1 cpus
no_seats table cpus seats is = λ i. is i ++ cpus_at_first table 1 (sym (all_left cpus) i)
