-- Serves the loops over the CPUs at the end of a system: what the visits so far did.
use Rattle.std.proofs.Common.{◌≡◌, ℕ, zero, suc, ◌+◌, ◌<◌, ◌≤◌, List, [], ◌∷◌, ◌++◌, length, take, drop, get_or, refl, sym, ap, ◌∙◌, subst, arith, append_assoc, append-nil}
use Rattle.std.specs.Prelude.{slice_set, sum_by, All}
use Rattle.std.proofs.lemmas.List.{drop_more, take_more_set, drop-set-lt, length-set, nil_from_length, take_all, drop_all}
use Rattle.std.proofs.lemmas.List.Sums.{get_or-le-sum_by, sum_by-cons}
use Rattle.std.proofs.lemmas.List.Elements.{All-push}
use Rattle.boot_words.specs.Tables.{KnownTable}
use Rattle.cpu_part.specs.Cpus.{KnownCpuLists}
use Rattle.mem_machine.specs.Machines.{KnownMachine}
use Rattle.mem_system.specs.{CpuInRun, parts_of, ForEachCpu, IsEmptied, LendsAndFillsNone, MachineAndCpu, machine_and_cpu, pins_of_all}

-- the visits of the first i CPUs lead from the first machine to this one, and the others are as they were
pub record SoFar (Visit : MachineAndCpu → MachineAndCpu → Type 0) (i : ℕ) (m : KnownMachine) (cpus : List CpuInRun) (x : KnownMachine) (now : List CpuInRun) : Type 0 where
  pub long : length now ≡ length cpus
  pub left : drop i now ≡ drop i cpus
  pub turns : (n : KnownMachine) (rest : List CpuInRun) → ForEachCpu Visit x (drop i cpus) n rest → ForEachCpu Visit m cpus n (take i now ++ rest)

pub so_far_start : (Visit : MachineAndCpu → MachineAndCpu → Type 0) (m : KnownMachine) (cpus : List CpuInRun) → SoFar Visit 0 m cpus m cpus
so_far_start Visit m cpus = record { long = refl; left = refl; turns = λ n rest turn. turn }

pub same_next : (i : ℕ) (cpus now : List CpuInRun) (any : CpuInRun) → i < length cpus → length now ≡ length cpus → drop i now ≡ drop i cpus
    → get_or now i any ∷ drop (i + 1) now ≡ get_or cpus i any ∷ drop (i + 1) cpus
same_next i cpus now any inside long left = sym (drop_more now i any (omega (arith, inside, long))) ∙ left ∙ drop_more cpus i any inside

-- a CPU that was not visited yet is unchanged
pub same_at : (cpus now : List CpuInRun) (i : ℕ) (any : CpuInRun) → i < length now → length now ≡ length cpus → drop i now ≡ drop i cpus
    → get_or now i any ≡ get_or cpus i any
same_at cpus now i any inside long left = ap (λ (l : List CpuInRun). get_or l 0 any) (same_next i cpus now any (omega (arith, inside, long)) long left)

pub so_far_more : (Visit : MachineAndCpu → MachineAndCpu → Type 0) (i : ℕ) (m : KnownMachine) (cpus : List CpuInRun) (x y : KnownMachine) (now : List CpuInRun) (any d : CpuInRun)
    → SoFar Visit i m cpus x now → i < length now → Visit (machine_and_cpu x (get_or now i any)) (machine_and_cpu y d)
    → SoFar Visit (i + 1) m cpus y (slice_set now i d)
so_far_more Visit i m cpus x y now any d so_far inside one =
    let long = so_far.long in
    let within : i < length cpus = omega (arith, inside, long) in
    let next = same_next i cpus now any within long so_far.left in
    let same : get_or now i any ≡ get_or cpus i any = ap (λ (l : List CpuInRun). get_or l 0 any) next in
    let its : Visit (machine_and_cpu x (get_or cpus i any)) (machine_and_cpu y d) =
    subst (λ (c : CpuInRun). Visit (machine_and_cpu x c) (machine_and_cpu y d)) same one in
    record {
      long = length-set now i d ∙ long;
      left = drop-set-lt (i + 1) now i d (omega arith) ∙ ap (λ (l : List CpuInRun). drop 1 l) next;
      turns = λ n rest turn. subst (λ (l : List CpuInRun). ForEachCpu Visit m cpus n l)
          (sym (append_assoc (take i now) (d ∷ []) rest) ∙ ap (λ (l : List CpuInRun). l ++ rest) (sym (take_more_set now i d inside)))
          (so_far.turns n (d ∷ rest) (subst (λ (l : List CpuInRun). ForEachCpu Visit x l n (d ∷ rest)) (sym (drop_more cpus i any within)) (record { between = y; first = its; rest = turn })));
    }

pub so_far_end : (Visit : MachineAndCpu → MachineAndCpu → Type 0) (i : ℕ) (m : KnownMachine) (cpus : List CpuInRun) (x : KnownMachine) (now : List CpuInRun)
    → SoFar Visit i m cpus x now → length now ≤ i → ForEachCpu Visit m cpus x now
so_far_end Visit i m cpus x now so_far past =
    let long = so_far.long in
    subst (λ (l : List CpuInRun). ForEachCpu Visit m cpus x l) (append-nil (take i now) ∙ take_all i now past)
    (so_far.turns x [] (subst (λ (l : List CpuInRun). ForEachCpu Visit x l x []) (sym (drop_all i cpus (omega (arith, past, long)))) refl))

-- ---- what holds of each

pub parts_all : (P : KnownCpuLists → Type 0) (cpus : List CpuInRun) → All P (parts_of cpus) → All (λ c. P c.part) cpus
parts_all P [] all k any inside = absurd (omega (arith, inside))
parts_all P (c ∷ cpus) all zero any inside = all zero c.part (omega arith)
parts_all P (c ∷ cpus) all (suc k) any inside = parts_all P cpus (λ j other within. all (suc j) other (omega (arith, within))) k any (omega (arith, inside))

pub sum_parts : (h : KnownCpuLists → ℕ) (cpus : List CpuInRun) → sum_by h (parts_of cpus) ≡ sum_by (λ c. h c.part) cpus
sum_parts h [] = refl
sum_parts h (c ∷ cpus) =
    sum_by-cons h c.part (parts_of cpus) ∙ ap (λ (n : ℕ). h c.part + n) (sum_parts h cpus) ∙ sym (sum_by-cons (λ (d : CpuInRun). h d.part) c cpus)

pub no_pin_at : (cpus now : List CpuInRun) (i : ℕ) (any : CpuInRun) → i < length now → length now ≡ length cpus → drop i now ≡ drop i cpus
    → pins_of_all (parts_of cpus) ≡ 0 → (get_or now i any).part.pins ≡ []
no_pin_at cpus now i any inside long left none =
    let within : i < length cpus = omega (arith, inside, long) in
    let part = get_or-le-sum_by (λ (c : CpuInRun). length c.part.pins) cpus i any within in
    let all = sum_parts (λ c. length c.pins) cpus in
    ap (λ (l : List CpuInRun). (get_or l 0 any).part.pins) (same_next i cpus now any within long left) ∙ nil_from_length _ (omega (arith, part, all, none))

pub emptied_still : (t : KnownTable) (x y : KnownMachine) → LendsAndFillsNone t x y → (c : KnownCpuLists) → IsEmptied t x c → IsEmptied t y c
emptied_still t x y alone c emptied =
    record { idle = emptied.idle; none_lent = alone.none_lent c.number emptied.none_lent; drained = alone.drained c.number emptied.drained }

pub all_more : (P : CpuInRun → Type 0) (now : List CpuInRun) (i : ℕ) (d : CpuInRun) → i < length now → All P (take i now) → P d
    → All P (take (i + 1) (slice_set now i d))
all_more P now i d inside all one = subst (All P) (sym (take_more_set now i d inside)) (All-push P (take i now) d all one)

pub all_taken : (P : CpuInRun → Type 0) (now : List CpuInRun) (i : ℕ) → length now ≤ i → All P (take i now) → All P now
all_taken P now i past all = subst (All P) (take_all i now past) all
