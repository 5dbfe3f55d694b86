-- A step of a CPU that needs no lock.
use Rattle.std.proofs.Common.{[], ◌≡◌, ◌≢◌, ℕ, true, List, ◌∷◌, ◌++◌, set, refl, ap, sym, ◌∙◌, subst}
use Rattle.std.specs.Prelude.{slice_index}
use mathlib.Core.Option.{some}
use lib.ListN.{get_elem?}
use Rattle.atomic_table.specs.Table.{Act, State as Board, Valid, carried_after, keeps, stepped}
use Rattle.step_rules.specs.declared.step.Step.{Step}
use Rattle.step_rules.specs.declared.step.Action.{Action}
use Rattle.step_rules.specs.declared.step.Action.TheVariants.{Get, Put, Consume, Credit}
use Rattle.step_rules.specs.declared.step.Answer.{Answer}
use Rattle.step_rules.specs.{Zone, is_legal, Run, after, state_of, IsLegalRun}
use Rattle.step_rules.proofs.Runs.{state_more}
use Rattle.boot_words.specs.{IsFast, GrewBy, IsRunOf, ChangesWords, AllOf, words_in, BeginsRun, of_number, sum_over, run_rule}
use Rattle.boot_words.specs.declared.past.Past.{Past}
use Rattle.boot_words.proofs.Grown.{grown, grown_legal}
use Rattle.boot_words.proofs.Lasting.{fast_legality_lasts}
use Rattle.boot_words.proofs.Each.{all_at}
use Rattle.boot_words.proofs.Stepping.{words_follow}
use Rattle.boot_words.proofs.Booking.{IsNoFill, small_step}
use Rattle.boot_words.proofs.Growing.{notes_alone, notes_nothing}

-- the seat's only past has grown by the step
pub record Made (zone : Zone) (p : Past) (action : Action) (answer : Answer) (later : List Past) : Type 0 where
  pub past : Past
  pub later_is : later ≡ past ∷ []
  pub legal : IsLegalRun zone past.seen
  pub grew : GrewBy p (record { seat = p.number; action = action }) answer past

-- what a step that leaves x in word j makes of the table, and holds of the seat's pasts
abbrev pub Leaves : Zone → Board (Unit {0}) (List Past) → ℕ → ℕ → ℕ → (List Past → Type 0) → Type 0
Leaves zone s id j x post = (w : List Past) × (a : Act (Unit {0})) × Valid s.homes [] a × run_rule zone (stepped s j x id [] w a)
    × ((carried_after [] a ≡ []) × post w)

fast_no_fill : (action : Action) → IsFast action → IsNoFill action
fast_no_fill (Get f) fast = tt
fast_no_fill (Put f) fast = tt
fast_no_fill (Consume g) fast = tt
fast_no_fill (Credit f) fast = tt
fast_no_fill action fast = absurd fast

-- by the rule the seat's only past is a beginning of the run
pub past_begins : (zone : Zone) (s : Board (Unit {0}) (List Past)) (k : run_rule zone s) (id : ℕ) (p : Past) → get_elem? s.views id ≡ some (p ∷ []) → BeginsRun zone k.run p
past_begins zone s k id p at = (all_at (AllOf (BeginsRun zone k.run)) s.views id (p ∷ []) at k.fits).0

pub legal_still : (zone : Zone) (s : Board (Unit {0}) (List Past)) (k : run_rule zone s) (id : ℕ) (p : Past) (action : Action) → get_elem? s.views id ≡ some (p ∷ [])
    → p.number ≢ 0 → IsFast action → is_legal (state_of zone p.seen) p.number action ≡ true → is_legal (state_of zone k.run) p.number action ≡ true
legal_still zone s k id p action at ne fast legal =
    fast_legality_lasts zone p.seen k.run p.number action ne k.is.legal (past_begins zone s k id p at).goes fast ∙ legal

-- now the past is the whole run, and the table's words are its words
pub record MadeOn (zone : Zone) (words : List ℕ) (run : Run) (p : Past) (action : Action) (answer : Answer) (later : List Past) : Type 0 where
  pub made : Made zone p action answer later
  pub now : IsRunOf zone (words_in zone words) made.past.seen
  pub state : state_of zone made.past.seen ≡ after (state_of zone run) p.number action answer

-- the run grows by the step
pub makes_on : (zone : Zone) (s : Board (Unit {0}) (List Past)) (k : run_rule zone s) (id j x : ℕ) (p : Past) (action : Action) (answer : Answer) → get_elem? s.views id ≡ some (p ∷ [])
    → p.number ≢ 0 → IsFast action → is_legal (state_of zone p.seen) p.number action ≡ true
    → ChangesWords zone (words_in zone s.words) p.number action answer (words_in zone (set s.words j x))
    → Leaves zone s id j x (MadeOn zone (set s.words j x) k.run p action answer)
makes_on zone s k id j x p action answer at ne fast legal changes =
    let goes = (past_begins zone s k id p at).goes in
    let made_step : Step = record { seat = p.number; action = action } in
    let e : Step × Answer = (made_step, answer) in
    let now = words_follow zone (words_in zone s.words) (words_in zone (set s.words j x)) k.run made_step answer k.is (legal_still zone s k id p action at ne fast legal) changes in
    let past = grown p goes.rest e in (
      past ∷ [],
      keeps,
      tt,
      notes_alone zone s.words s.views k id j x p action answer goes at fast (small_step (state_of zone k.run) p.number action answer (fast_no_fill action fast) k.small) now,
      (
        refl,
        record {
          made = record {
            past = past;
            later_is = refl;
            legal = grown_legal zone k.run p e goes now.legal;
            grew = record { between = goes.rest; others = goes.others; number = refl; seen = refl };
          };
          now = subst (λ r. IsRunOf zone (words_in zone (set s.words j x)) (r ++ e ∷ [])) goes.is now;
          state = ap (λ r. state_of zone (r ++ e ∷ [])) (sym goes.is) ∙ state_more zone k.run made_step answer;
        },
      ),
    )

pub makes : (zone : Zone) (s : Board (Unit {0}) (List Past)) (k : run_rule zone s) (id j x : ℕ) (p : Past) (action : Action) (answer : Answer) → get_elem? s.views id ≡ some (p ∷ [])
    → p.number ≢ 0 → IsFast action → is_legal (state_of zone p.seen) p.number action ≡ true
    → ChangesWords zone (words_in zone s.words) p.number action answer (words_in zone (set s.words j x))
    → Leaves zone s id j x (Made zone p action answer)
makes zone s k id j x p action answer at ne fast legal changes =
    let r = makes_on zone s k id j x p action answer at ne fast legal changes in (r.0, r.1, r.2, r.3, (r.4.0, r.4.1.made))

-- no step is made, and the seat's pasts become these
pub sees_run : (zone : Zone) (s : Board (Unit {0}) (List Past)) (k : run_rule zone s) (id j x : ℕ) (old new : List Past) (post : List Past → Type 0) → get_elem? s.views id ≡ some old
    → x ≡ slice_index s.words j → ((q : ℕ) → sum_over (of_number q) new ≡ sum_over (of_number q) old) → AllOf (BeginsRun zone k.run) new → post new
    → Leaves zone s id j x post
sees_run zone s k id j x old new post at same counts fits tells =
    (new, keeps, tt, notes_nothing zone s.words s.views k id j x old new at same counts fits, (refl, tells))

pub stays : (zone : Zone) (s : Board (Unit {0}) (List Past)) (k : run_rule zone s) (id j x : ℕ) (old : List Past) → get_elem? s.views id ≡ some old → x ≡ slice_index s.words j
    → Leaves zone s id j x (λ later. later ≡ old)
stays zone s k id j x old at same =
    sees_run zone s k id j x old old (λ later. later ≡ old) at same (λ q. refl) (all_at (AllOf (BeginsRun zone k.run)) s.views id old at k.fits) refl
