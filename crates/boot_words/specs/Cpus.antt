-- The seat of a CPU in contracts, and its calls on its own stock.
use Rattle.std.specs.Prelude.{◌≡◌, ◌≢◌, ◌⊎◌, ℕ, ◌+◌, false, Some, MatchBool}
use Rattle.stock_word.specs.declared.stock.Stock.{Stock}
use Rattle.stock_word.specs.declared.stock.Stock.TheVariants.{HeldBy}
use Rattle.stock_word.specs.declared.answers.Consume.{Consume}
use Rattle.stock_word.specs.declared.answers.Consume.TheVariants as consumes
use Rattle.stock_word.specs.declared.answers.Credit.{Credit}
use Rattle.stock_word.specs.declared.answers.Credit.TheVariants as credits
use Rattle.stock_word.specs.Stock.{HasWord, drained_of, group_of, is_held}
use Rattle.step_rules.specs.declared.step.Action.{Action}
use Rattle.step_rules.specs.declared.step.Action.TheVariants as step
use Rattle.step_rules.specs.declared.step.Answer.{Answer}
use Rattle.step_rules.specs.declared.step.Answer.TheVariants.{Drained, Stocked, Took}
use Rattle.step_rules.specs.State.{State}
use Rattle.step_rules.specs.{state_of, holds_lock}
use Rattle.boot_words.specs.Pasts.{KnownPasts, own_past, IsCpuPast}
use Rattle.boot_words.specs.Seats.{zone_of_boot}
use Rattle.boot_words.specs.Words.{stock_in}
use Rattle.boot_words.specs.Calls.{CpuMakes}
use Rattle.boot_words.specs.Tables.{KnownTable}

-- what a contract sees of the seat: its pasts, the CPU's number, and the last stock that the CPU saw
pub record KnownCpuSeat : Type 0 where
  pub past : KnownPasts
  pub number : ℕ
  pub last : Stock

-- what the CPU's past leaves
abbrev pub state_left : KnownTable → KnownCpuSeat → State
state_left t c = state_of (zone_of_boot t) (own_past c.past).seen

-- since the CPU saw its stock, nobody changed it, or a drain did
abbrev pub SawLast : Stock → Stock → Type 0
SawLast stock last = (stock ≡ last) ⊎ (stock ≡ drained_of last)

-- a CPU of the table that is without the lock, and knows its stock but for a drain
pub record IsAwayCpu (t : KnownTable) (c : KnownCpuSeat) : Type 0 where
  pub past : IsCpuPast t c.past
  pub number : c.number ≡ (own_past c.past).number
  pub away : holds_lock c.number (state_left t c).hold ≡ false
  pub last : SawLast (stock_in ((state_left t c).parts c.number)) c.last
  pub has_word : HasWord c.last

-- the CPU has made the step, and now this is the stock that it saw last
pub record Exchanges (t : KnownTable) (c : KnownCpuSeat) (action : Action) (answer : Answer) (last : Stock)
    (c' : KnownCpuSeat) : Type 0 where
  pub is : IsAwayCpu t c'
  pub number : c'.number ≡ c.number
  pub last_is : c'.last ≡ last
  pub makes : CpuMakes t c.past action answer c'.past

-- a consume for g answers from the last stock seen; it is a step if that stock is held by g and has a page
abbrev pub ConsumesPage : KnownTable → KnownCpuSeat → ℕ → Consume → KnownCpuSeat → Type 0
ConsumesPage t c g consumes.Took c' =
    (n : ℕ) × (c.last ≡ HeldBy g (n + 1)) × Exchanges t c (step.Consume g) Took (HeldBy g n) c'
ConsumesPage t c g consumes.Empty c' = (c.last ≡ HeldBy g 0) × (c' ≡ c)
ConsumesPage t c g consumes.OtherGroup c' = (group_of c.last ≢ Some g) × (c' ≡ c)
ConsumesPage t c g consumes.Drained c' = (group_of c.last ≡ Some g)
    × MatchBool (is_held c.last) (Exchanges t c (step.Consume g) Drained (drained_of c.last) c') (c' ≡ c)

-- a credit of frame f is a step if the last stock seen is held
abbrev pub CreditsPage : KnownTable → KnownCpuSeat → ℕ → Credit → KnownCpuSeat → Type 0
CreditsPage t c f credits.Stocked c' =
    (g : ℕ) × (n : ℕ) × (c.last ≡ HeldBy g n) × Exchanges t c (step.Credit f) Stocked (HeldBy g (n + 1)) c'
CreditsPage t c f credits.Drained c' =
    MatchBool (is_held c.last) (Exchanges t c (step.Credit f) Drained (drained_of c.last) c') (c' ≡ c)
