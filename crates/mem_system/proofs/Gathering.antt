-- The seats of the CPUs are gathered, one CPU after the other. Serves the end of a system.
use Rattle.std.proofs.Common.{◌≡◌, ℕ, ◌<◌, List, [], ◌∷◌, ◌++◌, length, map, get_or, refl, sym, ap, subst, arith}
use Rattle.std.specs.List.{remove}
use Rattle.boot_words.specs.{HasCpuPast, IsClosedRun, pasts_of_cpus, own_past, AllOf, zone_of_boot, KnownTable}
use Rattle.mem_machine.specs.{KnownMachine, Rests}
use Rattle.mem_system.specs.{CpuInRun, KnowsItself, pasts_of, seat_of, IsClosed}

-- the front and the rest
pub front_of : (cpus : List CpuInRun) (c : CpuInRun) → 0 < length cpus → c ≡ get_or cpus 0 c → cpus ≡ c ∷ remove cpus 0
front_of [] c some is = absurd (omega (arith, some))
front_of (d ∷ cpus) c some is = ap (λ (x : CpuInRun). x ∷ cpus) (sym is)

module _ (t : KnownTable) where
  -- each seat has its CPU's past
  pub have_pasts : (cpus : List CpuInRun) → AllOf (KnowsItself t) cpus → AllOf (HasCpuPast t) (map seat_of cpus)
  have_pasts [] knows = tt
  have_pasts (c ∷ cpus) knows = (knows.0.is.past, have_pasts cpus knows.1)

  gathered : (cpus : List CpuInRun) → AllOf (KnowsItself t) cpus → pasts_of_cpus (map seat_of cpus) ≡ pasts_of cpus
  gathered [] knows = refl
  gathered (c ∷ cpus) knows = λ i. knows.0.is.past.alone i ++ gathered cpus knows.1 i

  -- the closed table's pasts are those of the zone and of the CPUs
  pub closed_run : (m : KnownMachine) (cpus : List CpuInRun) (words : List ℕ) → Rests t m → AllOf (KnowsItself t) cpus → IsClosed t m (map seat_of cpus) words
      → IsClosedRun (zone_of_boot t) words (own_past m.run.past ∷ pasts_of cpus)
  closed_run m cpus words rests knows closed =
      subst (IsClosedRun (zone_of_boot t) words) (λ i. rests.past_is.alone i ++ gathered cpus knows i) closed.closed
