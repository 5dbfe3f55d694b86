-- Sums of the pages of kept units. Serves `memory_stat` and what it calls.
use Rattle.std.proofs.Common.{◌≡◌, ℕ, ◌+◌, ◌*◌, ◌^◌, ◌<◌, ◌≤◌, Bool, true, false, cond, List, [], ◌∷◌, length, take, get_or, refl, ap, ◌∙◌, arith}
use Rattle.std.specs.Prelude.{sum_by}
use Rattle.std.specs.Option.{option_map_or}
use Rattle.std.proofs.lemmas.List.Sums.{sum_by-cons, sum_by_more}
use Rattle.std.proofs.Math.Pow.{pow_mono}
use Rattle.group_tree.specs.declared.group.Group.{Group}
use Rattle.lru_lists.specs.declared.record.Entry.{Entry}
use Rattle.boot_words.specs.Tables.{KnownTable}
use Rattle.mem_machine.specs.declared.frame_state.FrameState.{FrameState}
use Rattle.mem_machine.specs.declared.frame_state.FrameState.TheVariants.{Free, Lent, Head, Tail}
use Rattle.mem_machine.specs.{KnownMachine, IsConsistent, frame_state_at, headed_unit}
use Rattle.machine_texts.specs.Stat.{counted_pages, is_counted, pages_at}

-- ---- the units of a list

-- a unit has at most 1,024 pages
module _ (t : KnownTable) (m : KnownMachine) (ok : IsConsistent t m) (f : ℕ) where
  few_of : (s : FrameState) → frame_state_at m.frame_states f ≡ s
      → option_map_or (λ unit. 2 ^ unit.order) (headed_unit s) 0 ≤ 1024
  few_of Free is = omega arith
  few_of (Lent cpu) is = omega arith
  few_of (Head unit) is = pow_mono {i = unit.order} {j = 10} (ok.units.heads f unit is).block.order
  few_of (Tail group) is = omega arith

  pub few_pages : pages_at m f ≤ 1024
  few_pages = few_of (frame_state_at m.frame_states f) refl

pub few_if : (b : Bool) (n k : ℕ) → n ≤ k → cond b n 0 ≤ k
few_if true n k few = few
few_if false n k few = omega arith

-- and so a list has at most 1,024 for each of its units
pub few_on : (t : KnownTable) (m : KnownMachine) → IsConsistent t m → (only_dirty : Bool) (es : List Entry)
    → sum_by (counted_pages m only_dirty) es ≤ length es * 1024
few_on t m ok only_dirty [] = let none : sum_by (counted_pages m only_dirty) [] ≡ 0 = refl in omega (arith, none)
few_on t m ok only_dirty (e ∷ es) =
    let one = few_if (is_counted only_dirty e) (pages_at m e.number) 1024 (few_pages t m ok e.number) in
    let more = few_on t m ok only_dirty es in
    let both = sum_by-cons (counted_pages m only_dirty) e es in
    omega (arith, one, more, both)

-- ---- the groups of a subtree

-- the rows before the i-th have this many pages
abbrev pub CountedTo : (Group → ℕ) → List Group → ℕ → ℕ → Type 0
CountedTo pages rows i sum = (sum ≡ sum_by pages (take i rows)) × (sum ≤ i * 2 ^ 42)

pub counted_more : (pages : Group → ℕ) (rows : List Group) (i sum some : ℕ) (row : Group) → i < length rows → row ≡ get_or rows i row → some ≡ pages row
    → some < 2 ^ 42 → CountedTo pages rows i sum → CountedTo pages rows (i + 1) (sum + some)
counted_more pages rows i sum some row within is told low so =
    let more = sum_by_more pages rows i row within in
    let here : some ≡ pages (get_or rows i row) = told ∙ ap pages is in
    let before = so.0 in
    let few = so.1 in (
      omega (arith, more, here, before),
      omega (arith, few, low),
    )
