-- For callers: steps that one atomic step made, as steps made one after the other.
use Rattle.std.proofs.Common.{[], ◌∷◌, ◌∙◌, refl, sym}
use Rattle.step_rules.specs.After.{Run}
use Rattle.boot_words.specs.{GrewInTurn, MakesInTurn, KnownPasts, IsHeld, cpu_past, own_past, zone_of_boot, KnownTable}
use Rattle.cpu_part.proofs.Made.{MakesAll}

made_each : (t : KnownTable) (later : KnownPasts) (now : IsHeld t later) (steps : Run) (s : KnownPasts) → IsHeld t s
    → GrewInTurn (zone_of_boot t) (own_past s) (cpu_past s) steps (own_past later) (cpu_past later) → MakesAll t s steps later
made_each t later now [] s held grew = λ i. record {
  table = (now.table_is ∙ sym held.table_is) i;
  pasts = (now.both ∙ (λ k. grew.0 k ∷ grew.1 k ∷ []) ∙ sym held.both) i;
}
made_each t later now (made ∷ rest) s held grew =
    let g = grew.2 in
    let mid : KnownPasts = record { table = t.table; pasts = grew.0 ∷ grew.1 ∷ [] } in
    let mid_held : IsHeld t mid = record { table_is = refl; both = refl; holds = g.holds } in
    (mid, record { zone_grew = g.zone_grew; cpu_grew = g.cpu_grew; held = mid_held; local_is = g.local_is }, made_each t later now rest mid mid_held grew.3)

pub makes_each : (t : KnownTable) (s : KnownPasts) (steps : Run) (later : KnownPasts) → IsHeld t s → MakesInTurn t s steps later → MakesAll t s steps later
makes_each t s steps later held made = made_each t later made.held steps s held made.grew
