-- Gets, puts, freezes and unfreezes.
use Rattle.std.proofs.Common.{◌≡◌, ◌≢◌, ℕ, ◌+◌, ◌-◌, ◌<◌, ◌≤◌, ◌==◌, Bool, true, false, refl, sym, ◌∙◌, ap, arith, cond}
use Rattle.std.proofs.lemmas.Bool.{leb-true}
use Rattle.step_rules.specs.declared.phase.Stage.TheVariants.{Live, BackAt, AwaitsReturn}
use Rattle.step_rules.specs.declared.phase.Phase.{Phase}
use Rattle.step_rules.specs.declared.phase.Phase.TheVariants.{Head}
use Rattle.step_rules.specs.declared.step.Action.TheVariants.{Get, Put, Freeze, Unfreeze}
use Rattle.step_rules.specs.declared.step.Answer.{Answer}
use Rattle.step_rules.specs.declared.step.Answer.TheVariants.{Done, Held, Zero, Full, Left, Last, Missed}
use Rattle.step_rules.specs.{is_live_phase, at_stage, stage_after_last, with_at, live_references, is_legal, get_answer, after, with_back}
use Rattle.step_rules.specs.State.{State}
use Rattle.step_rules.proofs.Basics.{at_same, at_other}
use Rattle.step_rules.proofs.LegalTests.{get_tests, put_tests, freeze_tests, unfreeze_tests}
use Rattle.step_rules.proofs.Living.{sum_changed}
use Rattle.step_rules.proofs.PhaseLemmas.{live_is, in_hand, InHand, WasCollected, WasBare, WasEnded}
use Rattle.step_rules.proofs.Referring.{live_from_one, live_from_references, seat_there}
use Rattle.step_rules.proofs.SoundSteps.{below_frames, cpu_range}
use Rattle.step_rules.proofs.Sums.{sum_part}
use Rattle.boot_words.specs.Words.{Words, word_in_phase, frame_word, with_frame_word}
use Rattle.boot_words.specs.Steps.{frame_word_at}
use Rattle.boot_words.proofs.WordLists.{HasSameStock, frame_set, stocks_same}
use Rattle.boot_words.proofs.Following.{Stands, Follows, all_stocks, same_stocks}
use Rattle.boot_words.proofs.WordCounts.{answer_by_word, held_answer, live_word, low_word, none_live, sum_others}

-- the number of references of a live frame is its word
word_is_live : (s : State) (words : Words) (f : ℕ) → Stands s words → f < s.zone.frames → is_live_phase (s.phases f) ≡ true → frame_word_at words f ≡ live_references s f
word_is_live s words f stands below live = stands.frames.frame f below ∙ live_word s f live (live_references s f)

more_by_one : (t r l : ℕ) → t + r ≡ l + (r + 1) → t ≡ l + 1
more_by_one t r l e = omega arith

less_by_one : (t r l : ℕ) → 1 ≤ r → t + r ≡ l + (r - 1) → t ≡ l - 1
less_by_one t r l some e = omega arith

pub follows_get : (s : State) (words : Words) (seat f : ℕ) → Stands s words → is_legal s seat (Get f) ≡ true
    → 1 ≤ frame_word_at words f → frame_word_at words f < 255 → Follows s seat (Get f) Held (with_frame_word words f (frame_word_at words f + 1))
follows_get s words seat f stands legal some room =
    let tests = get_tests s seat f legal in
    let below = below_frames s.zone f tests.1 in
    let n = frame_word_at words f in
    let live = live_references s f in
    let t = after s seat (Get f) Held in
    let found : n ≡ frame_word s f = stands.frames.frame f below in
    let low : frame_word s f < 256 = omega (arith, room, found) in
    let is : n ≡ live = found ∙ low_word (s.phases f) live low in
    let positive : 1 ≤ live = omega (arith, some, is) in
    let is_one = live_from_references s f stands.sound positive in
    let more = more_by_one (live_references t f) (s.references seat f) live (sum_changed s seat f (s.references seat f + 1) (cpu_range s.zone seat tests.0).1) in
    record {
      answered = tt;
      counted = sym (held_answer live positive (omega (arith, room, is)));
      frames = frame_set s t words.frames f (n + 1) stands.frames below refl refl (record {
        here = live_word s f is_one (live_references t f) ∙ more ∙ ap (λ m. m + 1) (sym is);
        others = λ m ne. ap (word_in_phase (s.phases m)) (sum_others s seat f (s.references seat f + 1) m ne);
      });
      stocks = stocks_same s t words.stocks stands.stocks refl (all_stocks s.parts);
    }

get_counted : (s : State) (words : Words) (seat f : ℕ) (answer : Answer) → Stands s words → is_legal s seat (Get f) ≡ true → get_answer (frame_word_at words f) ≡ answer
    → answer ≡ get_answer (live_references s f)
get_counted s words seat f answer stands legal e =
    let below = below_frames s.zone f (get_tests s seat f legal).1 in
    sym e ∙ ap get_answer (stands.frames.frame f below) ∙ answer_by_word s f stands.sound

pub follows_zero : (s : State) (words : Words) (seat f : ℕ) → Stands s words → is_legal s seat (Get f) ≡ true → get_answer (frame_word_at words f) ≡ Zero
    → Follows s seat (Get f) Zero words
follows_zero s words seat f stands legal e =
    record { answered = tt; counted = get_counted s words seat f Zero stands legal e; frames = stands.frames; stocks = stands.stocks }

pub follows_full : (s : State) (words : Words) (seat f : ℕ) → Stands s words → is_legal s seat (Get f) ≡ true → get_answer (frame_word_at words f) ≡ Full
    → Follows s seat (Get f) Full words
follows_full s words seat f stands legal e =
    record { answered = tt; counted = get_counted s words seat f Full stands legal e; frames = stands.frames; stocks = stands.stocks }

left_one : (t l n : ℕ) → t ≡ l - 1 → l ≡ n + 1 → t ≡ n
left_one t l n e f = omega arith

pub follows_put : (s : State) (words : Words) (seat f n : ℕ) → Stands s words → is_legal s seat (Put f) ≡ true
    → 1 ≤ n → frame_word_at words f ≡ n + 1 → Follows s seat (Put f) (Left n) (with_frame_word words f n)
follows_put s words seat f n stands legal some found =
    let tests = put_tests s seat f legal in
    let below = below_frames s.zone f tests.1 in
    let one : 1 ≤ s.references seat f = leb-true 1 (s.references seat f) tests.2 in
    let is_one = live_from_one s seat f stands.sound one in
    let live = live_references s f in
    let t = after s seat (Put f) (Left n) in
    let is : live ≡ n + 1 = sym (word_is_live s words f stands below is_one) ∙ found in
    let fewer = less_by_one (live_references t f) (s.references seat f) live one (sum_changed s seat f (s.references seat f - 1) (seat_there s seat f stands.sound one)) in
    record {
      answered = tt;
      counted = (is, some);
      frames = frame_set s t words.frames f n stands.frames below refl refl (record {
        here = live_word s f is_one (live_references t f) ∙ left_one (live_references t f) live n fewer is;
        others = λ m ne. ap (word_in_phase (s.phases m)) (sum_others s seat f (s.references seat f - 1) m ne);
      });
      stocks = stocks_same s t words.stocks stands.stocks refl (all_stocks s.parts);
    }

last_word : (seat live : ℕ) (x : Phase) → is_live_phase x ≡ true → word_in_phase (at_stage (stage_after_last seat) x) live ≡ live
last_word seat live x is = ap (λ y. word_in_phase (at_stage (stage_after_last seat) y) live) (live_is x is).1 ∙ by_seat (seat == 0)
  where
    by_seat : (b : Bool) → word_in_phase (Head (live_is x is).0 (cond b AwaitsReturn (BackAt seat))) live ≡ live
    by_seat true = refl
    by_seat false = refl

last_stocks : (s : State) (seat f q : ℕ) → HasSameStock (s.parts q) ((after s seat (Put f) Last).parts q)
last_stocks s seat f q = by_seat (seat == 0)
  where
    by_seat : (b : Bool) → HasSameStock (s.parts q) ((cond b s.parts (with_at s.parts seat (with_back (s.parts seat) f))) q)
    by_seat true = record { stock = refl; reported = refl }
    by_seat false = same_stocks s.parts seat (with_back (s.parts seat) f) (record { stock = refl; reported = refl }) q

-- a frame gets another phase and a seat another number of references on it: the words of other frames stay
others_stay : (s : State) (seat f n : ℕ) (y : Phase) (m : ℕ) → m ≢ f
    → frame_word (record s { phases = with_at s.phases f y; references = with_at s.references seat (with_at (s.references seat) f n) }) m ≡ frame_word s m
others_stay s seat f n y m ne = λ i. word_in_phase (at_other s.phases f y m ne i) (sum_others s seat f n m ne i)

pub follows_last : (s : State) (words : Words) (seat f : ℕ) → Stands s words → is_legal s seat (Put f) ≡ true
    → frame_word_at words f ≡ 1 → Follows s seat (Put f) Last (with_frame_word words f 0)
follows_last s words seat f stands legal found =
    let tests = put_tests s seat f legal in
    let below = below_frames s.zone f tests.1 in
    let one : 1 ≤ s.references seat f = leb-true 1 (s.references seat f) tests.2 in
    let is_one = live_from_one s seat f stands.sound one in
    let live = live_references s f in
    let t = after s seat (Put f) Last in
    let is : live ≡ 1 = sym (word_is_live s words f stands below is_one) ∙ found in
    let fewer = less_by_one (live_references t f) (s.references seat f) live one (sum_changed s seat f (s.references seat f - 1) (seat_there s seat f stands.sound one)) in
    let y = at_stage (stage_after_last seat) (s.phases f) in
    record {
      answered = tt;
      counted = is;
      frames = frame_set s t words.frames f 0 stands.frames below refl refl (record {
        here = ap (λ x. word_in_phase x (live_references t f)) (at_same s.phases f y) ∙ last_word seat (live_references t f) (s.phases f) is_one
            ∙ left_one (live_references t f) live 0 fewer is;
        others = others_stay s seat f (s.references seat f - 1) y;
      });
      stocks = stocks_same s t words.stocks stands.stocks refl (last_stocks s seat f);
    }

none_after : (t r l n : ℕ) → t + r ≡ l + (r - n) → l ≡ n → n ≤ r → r ≤ l → t ≡ 0
none_after t r l n e all enough part = omega arith

frozen_word : (live : ℕ) (x : Phase) → is_live_phase x ≡ true → word_in_phase (at_stage AwaitsReturn x) live ≡ live
frozen_word live x is = ap (λ y. word_in_phase (at_stage AwaitsReturn y) live) (live_is x is).1

low_zero : (n : ℕ) → 0 ≤ n
low_zero n = omega arith

pub follows_freeze : (s : State) (words : Words) (seat f n : ℕ) → Stands s words → is_legal s seat (Freeze f n) ≡ true
    → frame_word_at words f ≡ n → Follows s seat (Freeze f n) Done (with_frame_word words f 0)
follows_freeze s words seat f n stands legal found =
    let tests = freeze_tests s seat f n legal in
    let below = below_frames s.zone f tests.1 in
    let positive : 1 ≤ n = leb-true 1 n tests.2 in
    let enough : n ≤ s.references 0 f = leb-true n (s.references 0 f) tests.3 in
    let is_one = live_from_one s 0 f stands.sound (omega (arith, positive, enough)) in
    let live = live_references s f in
    let t = after s seat (Freeze f n) Done in
    let is : live ≡ n = sym (word_is_live s words f stands below is_one) ∙ found in
    let part : s.references 0 f ≤ live = sum_part (s.zone.cpus + 1) (λ q. s.references q f) 0 (omega arith) in
    let none = none_after (live_references t f) (s.references 0 f) live n (sum_changed s 0 f (s.references 0 f - n) (low_zero s.zone.cpus)) is enough part in
    let y = at_stage AwaitsReturn (s.phases f) in
    record {
      answered = tt;
      counted = is;
      frames = frame_set s t words.frames f 0 stands.frames below refl refl (record {
        here = ap (λ x. word_in_phase x (live_references t f)) (at_same s.phases f y) ∙ frozen_word (live_references t f) (s.phases f) is_one ∙ none;
        others = others_stay s 0 f (s.references 0 f - n) y;
      });
      stocks = stocks_same s t words.stocks stands.stocks refl (all_stocks s.parts);
    }

pub follows_missed : (s : State) (words : Words) (seat f n : ℕ) → Stands s words → is_legal s seat (Freeze f n) ≡ true
    → frame_word_at words f ≢ n → Follows s seat (Freeze f n) Missed words
follows_missed s words seat f n stands legal found =
    let tests = freeze_tests s seat f n legal in
    let below = below_frames s.zone f tests.1 in
    let positive : 1 ≤ n = leb-true 1 n tests.2 in
    let enough : n ≤ s.references 0 f = leb-true n (s.references 0 f) tests.3 in
    let is_one = live_from_one s 0 f stands.sound (omega (arith, positive, enough)) in
    record {
      answered = tt;
      counted = λ e. found (word_is_live s words f stands below is_one ∙ e);
      frames = stands.frames;
      stocks = stands.stocks;
    }

hand_dead : (x : Phase) → InHand x → is_live_phase x ≡ false
hand_dead x (WasCollected u e) = ap is_live_phase e
hand_dead x (WasBare u e) = ap is_live_phase e
hand_dead x (WasEnded u e) = ap is_live_phase e

woken_word : (live : ℕ) (x : Phase) → InHand x → word_in_phase (at_stage Live x) live ≡ live
woken_word live x (WasCollected u e) = ap (λ y. word_in_phase (at_stage Live y) live) e
woken_word live x (WasBare u e) = ap (λ y. word_in_phase (at_stage Live y) live) e
woken_word live x (WasEnded u e) = ap (λ y. word_in_phase (at_stage Live y) live) e

first_given : (t r l n : ℕ) → t + r ≡ l + (r + n) → l ≡ 0 → t ≡ n
first_given t r l n e none = omega arith

pub follows_unfreeze : (s : State) (words : Words) (seat f n : ℕ) → Stands s words → is_legal s seat (Unfreeze f n) ≡ true
    → Follows s seat (Unfreeze f n) Done (with_frame_word words f n)
follows_unfreeze s words seat f n stands legal =
    let tests = unfreeze_tests s seat f n legal in
    let below = below_frames s.zone f tests.1 in
    let hand = in_hand (s.phases f) tests.2 in
    let t = after s seat (Unfreeze f n) Done in
    let none = none_live s f stands.sound (hand_dead (s.phases f) hand) in
    let all = first_given (live_references t f) (s.references 0 f) (live_references s f) n (sum_changed s 0 f (s.references 0 f + n) (low_zero s.zone.cpus)) none in
    let y = at_stage Live (s.phases f) in
    record {
      answered = tt;
      counted = tt;
      frames = frame_set s t words.frames f n stands.frames below refl refl (record {
        here = ap (λ x. word_in_phase x (live_references t f)) (at_same s.phases f y) ∙ woken_word (live_references t f) (s.phases f) hand ∙ all;
        others = others_stay s 0 f (s.references 0 f + n) y;
      });
      stocks = stocks_same s t words.stocks stands.stocks refl (all_stocks s.parts);
    }
