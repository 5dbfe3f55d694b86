-- Serves the settings that are written, and the values that write them.
use Rattle.std.proofs.Common.{◌≡◌, ◌≢◌, ◌⊎◌, ℕ, false, ◌+◌, ◌<◌, ◌≤◌, Option, List, [], refl, sym, subst, inl, inr}
use Rattle.group_tree.specs.declared.fault.Fault.{Fault}
use Rattle.group_tree.specs.declared.fault.Fault.TheVariants.{Again, BadLimit, BadNumber}
use Rattle.control_files.specs.declared.file.File.{File}
use Rattle.control_files.specs.declared.file.File.TheVariants.{Current, Max, High, Low, Min, Peak, Events, EventsLocal, OomGroup, Reclaim, Stat}
use Rattle.control_files.specs.{is_writable}
use Rattle.boot_words.specs.Tables.{KnownTable}
use Rattle.mem_machine.specs.{KnownMachine, Makes, BySteps, transition}
use Rattle.mem_machine.proofs.Followed.{makes_both}
use Rattle.group_charge.specs.Charges.{current_of}
use Rattle.mem_reclaim.specs.{FreesBySteps, ReclaimsAmount, Keeps, MissedAll}
use Rattle.mem_system.specs.declared.outcome.Outcome.TheVariants.{Done, Refused}
use Rattle.mem_system.specs.declared.setting.Setting.TheVariants as setting
use Rattle.mem_system.specs.{RefusesValue, SetsHigh, Writes, with_high_of, LowersToHigh}

-- ---- values that are refused

-- a value is refused for the one or the other cause
pub refused : (file : File) (value : List ℕ) (fault : Fault) → (fault ≡ BadNumber) ⊎ (fault ≡ BadLimit)
    → (fault ≡ BadNumber → RefusesValue file value BadNumber) → (fault ≡ BadLimit → RefusesValue file value BadLimit) → RefusesValue file value fault
refused file value fault (inl number) great none = subst (λ (f : Fault). RefusesValue file value f) (sym number) (great number)
refused file value fault (inr limit) great none = subst (λ (f : Fault). RefusesValue file value f) (sym limit) (none limit)

-- what isn't one of these six files isn't written
pub read_only : (file : File) → file ≢ Max → file ≢ High → file ≢ Low → file ≢ Min → file ≢ OomGroup → file ≢ Reclaim → is_writable file ≡ false
read_only Current a b c d e f = refl
read_only Max a b c d e f = absurd (a refl)
read_only High a b c d e f = absurd (b refl)
read_only Low a b c d e f = absurd (c refl)
read_only Min a b c d e f = absurd (d refl)
read_only Peak a b c d e f = refl
read_only Events a b c d e f = refl
read_only EventsLocal a b c d e f = refl
read_only OomGroup a b c d e f = absurd (e refl)
read_only Reclaim a b c d e f = absurd (f refl)
read_only Stat a b c d e f = refl

-- ---- settings that are made

-- memory.high is set by no step, and then the usage is lowered to it
pub high_set : (t : KnownTable) (g : ℕ) (of : Option ℕ) (m x n : KnownMachine) → x ≡ with_high_of m g of
    → Makes t m [] x → BySteps Makes t (LowersToHigh g of) x n → BySteps Makes t (SetsHigh g of) m n
high_set t g of m x n set first last = record {
  steps = last.steps;
  does = subst (λ (k : KnownMachine). LowersToHigh g of (transition t k last.steps n)) set last.does;
  makes = makes_both t [] last.steps m x n first last.makes;
}

module _ (t : KnownTable) (g asked freed : ℕ) (m n : KnownMachine) (below : g ≢ 0)
    (leads : FreesBySteps t freed m n (ReclaimsAmount g asked)) (missed : freed < asked → MissedAll g m n)
    (usage : current_of n.ledger g + freed ≡ current_of m.ledger g) (keeps : Keeps t m n) where
  -- all that was asked for is freed
  pub reclaims_all : asked ≤ freed → BySteps Makes t (Writes g (setting.Reclaim asked) Done) m n
  reclaims_all enough = record {
    steps = leads.steps;
    does = (below, record { freed = freed; reclaims = leads; missed = missed; usage = usage; keeps = keeps; ends = enough; steps_are = refl });
    makes = leads.moves.runs;
  }

  -- less is freed
  pub reclaims_less : freed < asked → BySteps Makes t (Writes g (setting.Reclaim asked) (Refused Again)) m n
  reclaims_less less = record {
    steps = leads.steps;
    does = (below, record { freed = freed; reclaims = leads; missed = missed; usage = usage; keeps = keeps; ends = less; steps_are = refl });
    makes = leads.moves.runs;
  }
