-- What stands after a boot is shown. Serves `replay_on_boot`, `check_on_boot`,
-- `steps_on_boot`, `run_by_threads`.
use Rattle.std.proofs.Common.{◌≡◌, ℕ, ◌+◌, Some, List, [], ◌++◌, All, drop, length, sym, take, ◌∙◌, ap, subst, arith, zero, suc}
use Rattle.std.specs.List.{slice_get}
use Rattle.std.proofs.lemmas.Option.{slice_get_within}
use Rattle.cpu_part.specs.Cpus.{KnownCpuLists, first_cpu}
use Rattle.zone_blocks.specs.declared.choices.Choices.{Choices}
use Rattle.zone_blocks.specs.declared.config.Config.{Config}
use Rattle.step_rules.specs.State.{Zone}
use Rattle.step_watch.specs.Watched.{IsNewWatch, KnownWatch}
use Rattle.mem_core.specs.Shown as core
use Rattle.mem_machine.specs.{KnownMachine, IsFirst, with_watch, AgreesWithRun}
use Rattle.mem_history.specs.Whole.{ShowsAll}
use Rattle.mem_history.proofs.Booting.{a_boot_is_shown}
use Rattle.boot_words.specs.declared.past.Past.{Past}
use Rattle.boot_words.specs.{own_past, IsRunSoFar, zone_of_boot, KnownTable}
use Rattle.mem_system.specs.{IsSizedAs, first_cpus, CpuInRun, parts_of, pasts_of, KnownLocked}
use Rattle.mem_history.proofs.Agreeing.{a_boot_agrees}
use Rattle.mem_system.proofs.Closing.{written_back}
use Rattle.script_lines.specs.declared.line.Line.{Line}
use Rattle.script_replay.specs.{SystemState, system_state, LineInRange}
use Rattle.load_run.specs.Starting.{IsNewBootState}
use Rattle.load_run.proofs.Answering.{first_long}

first_at : (p n k : ℕ) (c : KnownCpuLists) → slice_get (first_cpus p n) k ≡ Some c → c ≡ first_cpu (p + k)
first_at p zero k c at = absurd (let none = slice_get_within (first_cpus p 0) k c at in omega arith)
first_at p (suc n) zero c at = same (first_cpu p) c at ∙ ap first_cpu (omega arith)
  where
    same : (a b : KnownCpuLists) → Some a ≡ Some b → b ≡ a
    same a b e = cc
first_at p (suc n) (suc k) c at = first_at (p + 1) n k c at ∙ ap first_cpu (omega arith)

-- the parts of a boot as they are made
pub new_state : (booted sizes : Config) (t : KnownTable) (locked : KnownLocked) (cpus : List CpuInRun) → booted ≡ sizes
    → IsSizedAs booted t → IsFirst t locked.machine → locked.sizes ≡ booted → parts_of cpus ≡ first_cpus 1 booted.cpus
    → IsRunSoFar [] (own_past locked.machine.run.past) (pasts_of cpus)
    → IsNewBootState sizes t (system_state locked cpus)
new_state booted sizes t locked cpus same sized machine sizes_are are so_far =
    subst (λ (s : Config). IsNewBootState s t (system_state locked cpus)) same
    (record { sized = sized; machine = machine; sizes_are = sizes_are; cpus = are; so_far = so_far })

module _ (sizes : Config) (t : KnownTable) (start : SystemState) (new : IsNewBootState sizes t start) where
  each_first : (k : ℕ) (c : KnownCpuLists) → slice_get (parts_of start.cpus) k ≡ Some c → c ≡ first_cpu (suc k)
  each_first k c at =
      first_at 1 sizes.cpus k c (subst (λ (l : List KnownCpuLists). slice_get l k ≡ Some c) new.cpus at) ∙ ap first_cpu (omega arith)

  pub boot_shown : ShowsAll t [] start.locked.machine (parts_of start.cpus)
  boot_shown = a_boot_is_shown t start.locked.machine (parts_of start.cpus) (record {
    machine = new.machine;
    count = ap length new.cpus ∙ first_long 1 sizes.cpus ∙ sym new.sized.cpus;
    each = each_first;
  })

  pub boot_agrees : AgreesWithRun t [] start.locked.machine.ledger
  boot_agrees = a_boot_agrees t start.locked.machine new.machine

-- what lines name is there, also as the system and the CPUs' parts have it
pub lines_there : (sizes : Config) (t : KnownTable) (parts : ℕ) (lines : List Line) → IsSizedAs sizes t → parts ≡ t.cpus
    → All (LineInRange sizes.frames sizes.cpus) lines → All (LineInRange t.frames parts) lines
lines_there sizes t parts lines sized long all =
    subst (λ (b : ℕ × ℕ). All (LineInRange b.0 b.1) lines) (λ i. (sym sized.frames i, (sym sized.cpus ∙ sym long) i)) all

-- the CPUs that were lent as a slice are those of the boot
pub lent_parts : {parts : List KnownCpuLists} (lent given : List CpuInRun) → lent ≡ given → parts_of given ≡ parts → parts_of lent ≡ parts
lent_parts lent given same are = ap parts_of same ∙ are

pub lent_so_far : (past : Past) (lent given : List CpuInRun) → lent ≡ given → IsRunSoFar [] past (pasts_of given) → IsRunSoFar [] past (pasts_of lent)
lent_so_far past lent given same so_far = subst (λ (l : List CpuInRun). IsRunSoFar [] past (pasts_of l)) (sym same) so_far

-- the parts that were lent as a slice, and are back in their vector
pub given_back : (len : ℕ) (given lent now : List CpuInRun) → lent ≡ given → length lent ≡ len → length now ≡ length lent
    → take len (now ++ drop (length now) given) ≡ now
given_back len given lent now same count long = written_back len now given (long ∙ ap length same) (sym count ∙ ap length same)

-- the machine of a new boot is that of one with any watch
pub watched_first : (t : KnownTable) (m : KnownMachine) (watch : KnownWatch) → IsFirst t m → IsFirst t (with_watch m watch)
watched_first t m watch first = record {
  frame_states = first.frame_states;
  ledger = first.ledger;
  nowhere = first.nowhere;
  killed = first.killed;
  counts = first.counts;
  notes = first.notes;
  is_proportional = first.is_proportional;
  past = first.past;
}

-- a new watch of a boot's sizes is one of its system
pub new_watch : (booted sizes : Config) (t : KnownTable) → IsSizedAs booted t → booted ≡ sizes → (watch : KnownWatch)
    → IsNewWatch (core.zone_of_config sizes) watch → IsNewWatch (zone_of_boot t) watch
new_watch booted sizes t sized same watch new =
    let frames : sizes.frames ≡ t.frames = ap (λ (s : Config). s.frames) (sym same) ∙ sym sized.frames in
    let cpus : sizes.cpus ≡ t.cpus = ap (λ (s : Config). s.cpus) (sym same) ∙ sym sized.cpus in
    let groups : sizes.choices.groups ≡ t.choices.groups = ap (λ (s : Config). s.choices.groups) (sym same) ∙ sym (ap (λ (c : Choices). c.groups) sized.choices) in
    subst (λ (zone : Zone). IsNewWatch zone watch) (λ i. record { frames = frames i; cpus = cpus i; groups = groups i }) new
