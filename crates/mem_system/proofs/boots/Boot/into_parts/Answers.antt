use Rattle.std.proofs.Common.{◌≡◌, ◌+◌, suc, Some, List, All, arith, length, sym, ap, ◌∙◌, subst}
use Rattle.std.specs.Prelude.{slice_get}
use Rattle.std.proofs.lemmas.List.{length-map}
use Rattle.boot_words.specs.declared.past.Past.{Past}
use Rattle.boot_words.specs.{IsAwayCpu, cpus_at_first, KnownPasts, own_past, AllOf, KnownTable}
use Rattle.boot_words.proofs.Gaining.{a_boot_has_no_steps}
use Rattle.cpu_part.specs.Cpus.{IsIdle}
use Rattle.mem_system.specs.{KnownBoot, CpuInRun, pasts_of}
use Rattle.mem_system.proofs.Parts.{cpus_idle, cpus_long, first_past_at}
use Rattle.mem_system.proofs.boots.Boot.into_parts.Goals as goal

pub make_cpus-requires-clause-seats : goal.make_cpus-requires-clause-seats
make_cpus-requires-clause-seats g c =
    c.self.invariant.cpus_are
    ∙ ap (λ (t : KnownTable). cpus_at_first t.table 1 c.self.inside.sizes.cpus) (ap (λ (b : KnownBoot). b.table) c.self.view_is ∙ c.requires.table)

pub make_cpus-requires-clause-away : goal.make_cpus-requires-clause-away
make_cpus-requires-clause-away g c =
    subst (λ (t : KnownTable). AllOf (IsAwayCpu t) c.self.inside.cpus.items) (ap (λ (b : KnownBoot). b.table) c.self.view_is ∙ c.requires.table)
    c.self.invariant.away

pub take_apart-requires : goal.take_apart-requires
take_apart-requires g c = subst (All IsIdle) (sym c.in_ok-cpus.ensures.parts) (cpus_idle 1 c.self.inside.sizes.cpus)

pub returns-in-Ok-clause-count : goal.returns-in-Ok-clause-count
returns-in-Ok-clause-count g c =
    sym (length-map c.in_ok-cpus.cpus.items (λ (cpu : CpuInRun). cpu.part)) ∙ ap length c.in_ok-cpus.ensures.parts ∙ cpus_long 1 c.self.inside.sizes.cpus
    ∙ sym c.self.invariant.sized.cpus ∙ ap (λ (t : KnownTable). t.cpus) (ap (λ (b : KnownBoot). b.table) c.self.view_is ∙ c.requires.table)

pub returns-in-Ok-clause-so_far : goal.returns-in-Ok-clause-so_far
returns-in-Ok-clause-so_far g c =
    let none = ap (λ (s : KnownPasts). (own_past s).seen) (c.in-Ok.ensures.past ∙ c.self.invariant.zone_is) in
    a_boot_has_no_steps (own_past c.in-Ok.locked.machine.run.past) (pasts_of c.in_ok-cpus.cpus.items) none
    (λ index past at.
    let first = first_past_at 1 c.self.inside.sizes.cpus index past (subst (λ (l : List Past). slice_get l index ≡ Some past) c.in_ok-cpus.ensures.pasts at) in
    (first.0 ∙ (let e : 1 + index ≡ suc index = omega arith in e), first.1))
