-- The sum of what children claim. Serves `claimed`.
use Rattle.std.proofs.Common.{◌≡◌, ℕ, ◌+◌, ◌*◌, ◌^◌, ◌<◌, ◌≤◌, List, length, take, get_or, ap, ◌∙◌, arith}
use Rattle.std.specs.Prelude.{sum_by}
use Rattle.std.proofs.lemmas.List.Sums.{sum_by_more}
use Rattle.group_tree.specs.declared.group.Group.{Group}

-- the rows before the i-th claim this much
abbrev pub ClaimedTo : (Group → ℕ) → List Group → ℕ → ℕ → Type 0
ClaimedTo claim rows i sum = (sum ≡ sum_by claim (take i rows)) × (sum ≤ i * 2 ^ 32)

pub claimed_more : (claim : Group → ℕ) (rows : List Group) (i sum some : ℕ) (row : Group) → i < length rows → row ≡ get_or rows i row → some ≡ claim row
    → some < 2 ^ 32 → ClaimedTo claim rows i sum → ClaimedTo claim rows (i + 1) (sum + some)
claimed_more claim rows i sum some row within is told low so =
    let more = sum_by_more claim rows i row within in
    let here : some ≡ claim (get_or rows i row) = told ∙ ap claim is in
    let before = so.0 in
    let few = so.1 in (
      omega (arith, more, here, before),
      omega (arith, few, low),
    )
