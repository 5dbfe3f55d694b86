-- How each step with its answer changes the words, by the word that it finds. What isn't named here is unchanged.
use Rattle.std.specs.Prelude.{[], ◌≡◌, ◌≢◌, ℕ, ◌+◌, ◌*◌, ◌<◌, ◌≤◌, true, Some, length, slice_index}
use Rattle.frame_word.specs.Word.{mark}
use Rattle.stock_word.specs.declared.stock.Stock.{Stock}
use Rattle.stock_word.specs.declared.stock.Stock.TheVariants.{NoGroup, HeldBy, DrainedOf}
use Rattle.stock_word.specs.{word_of, HasWord, stock_pages_of, group_of, stock_index, report_index}
use Rattle.step_rules.specs.declared.step.Step.{Step}
use Rattle.step_rules.specs.declared.step.Action.{Action}
use Rattle.step_rules.specs.declared.step.Action.TheVariants.{OpenVisit, ShutVisit, Get, Put, Freeze, Unfreeze, PassOut, TakeIn, PassBack, Collect, Consume, Credit, Report, Absorb, Fill, DrainStock, Lock, Unlock, Grant, Ungrant, PlaceBlock, Publish, Return, Note, NoteGroupKill, SetMax, SetFlag, Make, Remove, Kill}
use Rattle.step_rules.specs.declared.step.Answer.{Answer}
use Rattle.step_rules.specs.declared.step.Answer.TheVariants.{Done, Held, Zero, Full, Left, Last, Missed, Took, Drained, Stocked, Pages}
use Rattle.step_rules.specs.{Zone, is_legal, get_answer, Allows, Run, state_of, pushed, most_references}
use Rattle.boot_words.specs.Words.{Words, IsRunOf, with_frame_word, with_visit_word, with_stock_word, with_report_word}

-- the frame's word
abbrev pub frame_word_at : Words → ℕ → ℕ
frame_word_at words f = slice_index words.frames f

-- the CPU's stock word
abbrev pub stock_word_at : Words → ℕ → ℕ
stock_word_at words cpu = slice_index words.stocks (stock_index cpu)

-- the CPU's report word
abbrev pub report_word_at : Words → ℕ → ℕ
report_word_at words cpu = slice_index words.stocks (report_index cpu)

-- a get finds 1 to 254 references, and adds one
pub record AddsReference (words : Words) (f : ℕ) (later : Words) : Type 0 where
  pub some : 1 ≤ frame_word_at words f
  pub room : frame_word_at words f < most_references
  pub later_is : later ≡ with_frame_word words f (frame_word_at words f + 1)

-- a get finds a word that decides this answer, and changes nothing
pub record RefusesGet (words : Words) (f : ℕ) (answer : Answer) (later : Words) : Type 0 where
  pub answered : get_answer (frame_word_at words f) ≡ answer
  pub later_is : later ≡ words

-- a put finds more than one reference, and leaves n
pub record PutLeavesSome (words : Words) (f n : ℕ) (later : Words) : Type 0 where
  pub some : 1 ≤ n
  pub found : frame_word_at words f ≡ n + 1
  pub later_is : later ≡ with_frame_word words f n

-- the CPU's stock word is that of one stock, and becomes that of another
pub record ExchangesStock (words : Words) (cpu : ℕ) (before after : Stock) (later : Words) : Type 0 where
  pub before_fits : HasWord before
  pub after_fits : HasWord after
  pub found : stock_word_at words cpu ≡ word_of before
  pub later_is : later ≡ with_stock_word words cpu (word_of after)

-- the CPU's stock word is that of this stock, and stays
pub record FindsStock (words : Words) (cpu : ℕ) (stock : Stock) (later : Words) : Type 0 where
  pub fits : HasWord stock
  pub found : stock_word_at words cpu ≡ word_of stock
  pub later_is : later ≡ words

-- A drain of n pages. Of a stock of group g it leaves the drained stock of g; a stock of no group has no page, and its
-- word stays.
pub data LeavesDrained (words : Words) (cpu n : ℕ) (later : Words) : Type 0 where
  OfGroup : (stock : Stock) (g : ℕ) → group_of stock ≡ Some g → n ≡ stock_pages_of stock
      → ExchangesStock words cpu stock (DrainedOf g) later → LeavesDrained words cpu n later
  OfNone : n ≡ 0 → FindsStock words cpu NoGroup later → LeavesDrained words cpu n later

-- The table: the step with this answer makes `later` of the words. A get adds 1 to a word of 1 to 254, and a put takes 1
-- off. A freeze stores 0 if the word is the number that it names. A frame in transit has the mark of its CPU. A consume
-- or a credit exchanges the stock word if that is held by a group.
abbrev pub ChangesWords : Zone → Words → ℕ → Action → Answer → Words → Type 0
ChangesWords zone words seat (Get f) Held later = AddsReference words f later
ChangesWords zone words seat (Get f) Zero later = RefusesGet words f Zero later
ChangesWords zone words seat (Get f) Full later = RefusesGet words f Full later
ChangesWords zone words seat (Put f) (Left n) later = PutLeavesSome words f n later
ChangesWords zone words seat (Put f) Last later = (frame_word_at words f ≡ 1) × (later ≡ with_frame_word words f 0)
ChangesWords zone words seat (Freeze f n) Done later = (frame_word_at words f ≡ n) × (later ≡ with_frame_word words f 0)
ChangesWords zone words seat (Freeze f n) Missed later = (frame_word_at words f ≢ n) × (later ≡ words)
ChangesWords zone words seat (Unfreeze f n) Done later = later ≡ with_frame_word words f n
ChangesWords zone words seat (PassOut f cpu) Done later = later ≡ with_frame_word words f (mark cpu)
ChangesWords zone words seat (TakeIn f) Done later = later ≡ with_frame_word words f 0
ChangesWords zone words seat (PassBack f) Done later = later ≡ with_frame_word words f (mark seat)
ChangesWords zone words seat (Collect f cpu) Done later = later ≡ with_frame_word words f 0
ChangesWords zone words seat (OpenVisit cpu) Done later = later ≡ with_visit_word zone words cpu 1
ChangesWords zone words seat (ShutVisit cpu) Done later = later ≡ with_visit_word zone words cpu 0
ChangesWords zone words seat (Consume g) Took later =
    (n : ℕ) × ExchangesStock words seat (HeldBy g (n + 1)) (HeldBy g n) later
ChangesWords zone words seat (Consume g) Drained later = FindsStock words seat (DrainedOf g) later
ChangesWords zone words seat (Credit f) Stocked later =
    (g : ℕ) × (n : ℕ) × ExchangesStock words seat (HeldBy g n) (HeldBy g (n + 1)) later
ChangesWords zone words seat (Credit f) Drained later = (g : ℕ) × FindsStock words seat (DrainedOf g) later
ChangesWords zone words seat (Report n) Done later =
    later ≡ with_report_word words seat (report_word_at words seat + n)
ChangesWords zone words seat (Absorb cpu) (Pages n) later =
    (n ≡ report_word_at words cpu) × (later ≡ with_report_word words cpu 0)
ChangesWords zone words seat (Fill cpu g n) Done later =
    HasWord (HeldBy g n) × (later ≡ with_stock_word words cpu (word_of (HeldBy g n)))
ChangesWords zone words seat (DrainStock cpu) (Pages n) later = LeavesDrained words cpu n later
ChangesWords zone words seat action answer later = ⊥

-- a step that no word is of: it is made by a load of a word that nobody writes
abbrev pub IsPlain : Action → Type 0
IsPlain Lock = Unit {0}
IsPlain Unlock = Unit {0}
IsPlain (Grant g n) = Unit {0}
IsPlain (Ungrant g n) = Unit {0}
IsPlain (PlaceBlock g k) = Unit {0}
IsPlain (Publish f) = Unit {0}
IsPlain (Return f) = Unit {0}
IsPlain (Note key g) = Unit {0}
IsPlain (NoteGroupKill g) = Unit {0}
IsPlain (SetMax g limit) = Unit {0}
IsPlain (SetFlag g flag) = Unit {0}
IsPlain (Make path) = Unit {0}
IsPlain (Remove g) = Unit {0}
IsPlain (Kill g) = Unit {0}
IsPlain action = ⊥

-- If the words are those of a run, the step is legal after it, and the words that it finds decide this answer, then the
-- words that it leaves are those of the run with the step.
abbrev pub WordsFollow : Type 0
WordsFollow = (zone : Zone) (words later : Words) (run : Run) (step : Step) (answer : Answer) → IsRunOf zone words run
    → is_legal (state_of zone run) step.seat step.action ≡ true
    → ChangesWords zone words step.seat step.action answer later → IsRunOf zone later (pushed run step answer)

-- An allowed plain step leaves the words those of the run.
abbrev pub PlainStepsKeepWords : Type 0
PlainStepsKeepWords = (zone : Zone) (words : Words) (run : Run) (step : Step) (answer : Answer) → IsRunOf zone words run
    → IsPlain step.action → Allows (state_of zone run) step.seat step.action answer
    → IsRunOf zone words (pushed run step answer)

-- all words are 0
pub record AreZero (zone : Zone) (words : Words) : Type 0 where
  pub frames_wide : zone.frames + zone.cpus ≤ length words.frames
  pub stocks_wide : 16 * (zone.cpus + 1) ≤ length words.stocks
  pub frames : (i : ℕ) → slice_index words.frames i ≡ 0
  pub stocks : (i : ℕ) → slice_index words.stocks i ≡ 0

-- Words that are all 0 are those of the run without steps.
abbrev pub ABootHasWords : Type 0
ABootHasWords = (zone : Zone) (words : Words) → AreZero zone words → IsRunOf zone words []
