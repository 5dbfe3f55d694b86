-- Each step of the table keeps the words those of the run.
use Rattle.std.proofs.Common.{◌≡◌, ℕ, true, sym, subst}
use Rattle.step_rules.specs.declared.step.Action.{Action}
use Rattle.step_rules.specs.declared.step.Action.TheVariants.{OpenVisit, ShutVisit, Get, Put, Freeze, Unfreeze, PassOut, TakeIn, PassBack, Collect, Consume, Credit, Report, Absorb, Fill, DrainStock}
use Rattle.step_rules.specs.declared.step.Answer.{Answer}
use Rattle.step_rules.specs.declared.step.Answer.TheVariants.{Done, Held, Zero, Full, Left, Last, Missed, Took, Drained, Stocked, Pages}
use Rattle.step_rules.specs.State.{State}
use Rattle.step_rules.specs.{is_legal, state_of}
use Rattle.step_rules.proofs.Freeing.{zone_of_run}
use Rattle.boot_words.specs.Words.{Words}
use Rattle.boot_words.specs.Steps.{ChangesWords, WordsFollow}
use Rattle.boot_words.proofs.Following.{Stands, Follows, stands_in, run_follows}
use Rattle.boot_words.proofs.Referencing.{follows_get, follows_zero, follows_full, follows_put, follows_last, follows_freeze, follows_missed, follows_unfreeze}
use Rattle.boot_words.proofs.Passing.{follows_pass_out, follows_take_in, follows_pass_back, follows_collect, follows_open, follows_shut}
use Rattle.boot_words.proofs.Stocking.{follows_consume, follows_consume_drained, follows_credit, follows_credit_drained, follows_report, follows_absorb, follows_fill, follows_drain}

-- what the step leaves is the words that the proof speaks of
to_later : (s : State) (seat : ℕ) (action : Action) (answer : Answer) (later is : Words) → later ≡ is → Follows s seat action answer is
    → Follows s seat action answer later
to_later s seat action answer later is e follows = subst (Follows s seat action answer) (sym e) follows

follows : (s : State) (words later : Words) (seat : ℕ) (action : Action) (answer : Answer) → Stands s words → is_legal s seat action ≡ true
    → ChangesWords s.zone words seat action answer later → Follows s seat action answer later
follows s words later seat (Get f) Held stands legal h =
    to_later s seat (Get f) Held later _ h.later_is (follows_get s words seat f stands legal h.some h.room)
follows s words later seat (Get f) Zero stands legal h =
    to_later s seat (Get f) Zero later _ h.later_is (follows_zero s words seat f stands legal h.answered)
follows s words later seat (Get f) Full stands legal h =
    to_later s seat (Get f) Full later _ h.later_is (follows_full s words seat f stands legal h.answered)
follows s words later seat (Put f) (Left n) stands legal h =
    to_later s seat (Put f) (Left n) later _ h.later_is (follows_put s words seat f n stands legal h.some h.found)
follows s words later seat (Put f) Last stands legal h =
    to_later s seat (Put f) Last later _ h.1 (follows_last s words seat f stands legal h.0)
follows s words later seat (Freeze f n) Done stands legal h =
    to_later s seat (Freeze f n) Done later _ h.1 (follows_freeze s words seat f n stands legal h.0)
follows s words later seat (Freeze f n) Missed stands legal h =
    to_later s seat (Freeze f n) Missed later _ h.1 (follows_missed s words seat f n stands legal h.0)
follows s words later seat (Unfreeze f n) Done stands legal h =
    to_later s seat (Unfreeze f n) Done later _ h (follows_unfreeze s words seat f n stands legal)
follows s words later seat (PassOut f cpu) Done stands legal h =
    to_later s seat (PassOut f cpu) Done later _ h (follows_pass_out s words seat f cpu stands legal)
follows s words later seat (TakeIn f) Done stands legal h =
    to_later s seat (TakeIn f) Done later _ h (follows_take_in s words seat f stands legal)
follows s words later seat (PassBack f) Done stands legal h =
    to_later s seat (PassBack f) Done later _ h (follows_pass_back s words seat f stands legal)
follows s words later seat (Collect f cpu) Done stands legal h =
    to_later s seat (Collect f cpu) Done later _ h (follows_collect s words seat f cpu stands legal)
follows s words later seat (OpenVisit cpu) Done stands legal h =
    to_later s seat (OpenVisit cpu) Done later _ h (follows_open s words seat cpu stands legal)
follows s words later seat (ShutVisit cpu) Done stands legal h =
    to_later s seat (ShutVisit cpu) Done later _ h (follows_shut s words seat cpu stands legal)
follows s words later seat (Consume g) Took stands legal h =
    to_later s seat (Consume g) Took later _ h.1.later_is (follows_consume s words later seat g h.0 stands legal h.1)
follows s words later seat (Consume g) Drained stands legal h =
    to_later s seat (Consume g) Drained later _ h.later_is (follows_consume_drained s words later seat g stands legal h)
follows s words later seat (Credit f) Stocked stands legal h =
    to_later s seat (Credit f) Stocked later _ h.2.later_is (follows_credit s words later seat f h.0 h.1 stands legal h.2)
follows s words later seat (Credit f) Drained stands legal h =
    to_later s seat (Credit f) Drained later _ h.1.later_is (follows_credit_drained s words later seat f h.0 stands legal h.1)
follows s words later seat (Report n) Done stands legal h =
    to_later s seat (Report n) Done later _ h (follows_report s words seat n stands legal)
follows s words later seat (Absorb cpu) (Pages n) stands legal h =
    to_later s seat (Absorb cpu) (Pages n) later _ h.1 (follows_absorb s words seat cpu n stands legal h.0)
follows s words later seat (Fill cpu g n) Done stands legal h =
    to_later s seat (Fill cpu g n) Done later _ h.1 (follows_fill s words seat cpu g n stands legal h.0)
follows s words later seat (DrainStock cpu) (Pages n) stands legal h = follows_drain s words later seat cpu n stands legal h
follows s words later seat action answer stands legal h = absurd h

pub words_follow : WordsFollow
words_follow zone words later run step answer is legal changes =
    let s = state_of zone run in
    run_follows zone words later run step answer is legal
    (follows s words later step.seat step.action answer (stands_in zone words run is) legal
    (subst (λ z. ChangesWords z words step.seat step.action answer later) (sym (zone_of_run zone run)) changes))
