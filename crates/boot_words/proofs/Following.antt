-- What a step owes, and what is known where it is made.
use Rattle.std.proofs.Common.{◌≡◌, ℕ, true, refl, sym, subst}
use Rattle.std.proofs.lemmas.Bool.{or_left, or_right}
use Rattle.step_rules.specs.declared.step.Step.{Step}
use Rattle.step_rules.specs.declared.step.Action.{Action}
use Rattle.step_rules.specs.declared.step.Answer.{Answer}
use Rattle.step_rules.specs.{Zone, Part, with_at, is_cpu, is_held_by, visits, is_legal, IsAnswer, IsCounted, Run, after, state_of, pushed}
use Rattle.step_rules.specs.{KeepsInvariant, IsHomed}
use Rattle.step_rules.specs.State.{State}
use Rattle.step_rules.proofs.Basics.{at_each}
use Rattle.step_rules.proofs.Keeping.{homed_run}
use Rattle.step_rules.proofs.LocalLaws.{made_allows}
use Rattle.step_rules.proofs.Runs.{legal_more, sound_run, state_more}
use Rattle.step_rules.proofs.Stocked.{FitsStock, stocks_fit}
use Rattle.boot_words.specs.Words.{Words, AreFrameWords, AreStockWords, IsRunOf}
use Rattle.boot_words.proofs.WordLists.{HasSameStock}

-- what holds of the state of a run and of its words
pub record Stands (s : State) (words : Words) : Type 0 where
  pub sound : KeepsInvariant s
  pub homed : IsHomed s
  pub fits : (cpu : ℕ) → FitsStock (s.parts cpu)
  pub frames : AreFrameWords s words.frames
  pub stocks : AreStockWords s words.stocks

-- the answer is one that the step may get, and the words later are those of the state after it
pub record Follows (s : State) (seat : ℕ) (action : Action) (answer : Answer) (later : Words) : Type 0 where
  pub answered : IsAnswer s seat action answer
  pub counted : IsCounted s action answer
  pub frames : AreFrameWords (after s seat action answer) later.frames
  pub stocks : AreStockWords (after s seat action answer) later.stocks

pub stands_in : (zone : Zone) (words : Words) (run : Run) → IsRunOf zone words run → Stands (state_of zone run) words
stands_in zone words run is = record {
  sound = sound_run zone run is.legal;
  homed = (homed_run zone run is.legal).1;
  fits = stocks_fit zone run is.legal;
  frames = is.frames;
  stocks = is.stocks;
}

pub run_follows : (zone : Zone) (words later : Words) (run : Run) (step : Step) (answer : Answer) → IsRunOf zone words run
    → is_legal (state_of zone run) step.seat step.action ≡ true → Follows (state_of zone run) step.seat step.action answer later
    → IsRunOf zone later (pushed run step answer)
run_follows zone words later run step answer is legal follows =
    let s = state_of zone run in
    let more = sym (state_more zone run step answer) in record {
      legal = legal_more zone run step answer is.legal (made_allows s step.seat step.action answer
          (record { legal = legal; answered = follows.answered; counted = follows.counted }));
      frames = subst (λ (t : State). AreFrameWords t later.frames) more follows.frames;
      stocks = subst (λ (t : State). AreStockWords t later.stocks) more follows.stocks;
    }

-- one part changes, and its stock and reported pages stay
pub same_stocks : (parts : ℕ → Part) (k : ℕ) (part : Part) → HasSameStock (parts k) part → (q : ℕ) → HasSameStock (parts q) (with_at parts k part q)
same_stocks parts k part same = at_each parts k part (λ n x. HasSameStock (parts n) x) same (λ n ne. record { stock = refl; reported = refl })

pub all_stocks : (parts : ℕ → Part) (q : ℕ) → HasSameStock (parts q) (parts q)
all_stocks parts q = record { stock = refl; reported = refl }

-- the CPU whose visit is open is one of the zone
pub visited_cpu : (s : State) (words : Words) (cpu : ℕ) → Stands s words → visits cpu s.hold ≡ true → is_cpu s.zone cpu ≡ true
visited_cpu s words cpu stands visit = stands.homed.holder cpu (or_right (is_held_by cpu s.hold) (visits cpu s.hold) visit)

pub holding_cpu : (s : State) (words : Words) (cpu : ℕ) → Stands s words → is_held_by cpu s.hold ≡ true → is_cpu s.zone cpu ≡ true
holding_cpu s words cpu stands held = stands.homed.holder cpu (or_left (is_held_by cpu s.hold) (visits cpu s.hold) held)
