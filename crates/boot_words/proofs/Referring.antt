-- The accesses of get and put, and the steps that they make.
use Rattle.std.proofs.Common.{[], ◌≡◌, ◌≢◌, ℕ, eqb, ◌+◌, ◌-◌, ◌%◌, ◌^◌, ◌<◌, ◌≤◌, ◌==◌, ◌&&◌, Bool, true, false, cond, List, ◌∷◌, ◌++◌, append_assoc, set, refl, ap, sym, ◌∙◌, subst, arith, eq-eqb, inl, inr}
use Rattle.std.specs.Prelude.{slice_index, nat_le}
use Rattle.std.proofs.lemmas.Bool.{cond-false, cond-true, false≢true, leb-true, ne_eqb}
use Rattle.std.proofs.lemmas.List.{set-get_or}
use mathlib.Core.Option.{some}
use lib.ListN.{get_elem?}
use prog.Atomic.{either}
use Rattle.atomic_table.proofs.Lists.{exchanged}
use Rattle.stock_word.specs.Stock.{group_base}
use Rattle.step_rules.specs.declared.step.Action.{Action}
use Rattle.step_rules.specs.declared.step.Action.TheVariants.{Get, Put}
use Rattle.step_rules.specs.declared.step.Answer.{Answer}
use Rattle.step_rules.specs.declared.step.Answer.TheVariants.{Held, Zero, Full, Left, Last}
use Rattle.step_rules.specs.{Zone, live_references, one_if, get_answer, is_legal, Run, state_of, IsLegalRun, holds_lock, most_references}
use Rattle.step_rules.proofs.Freeing.{zone_of_run}
use Rattle.step_rules.proofs.LegalTests.{put_tests}
use Rattle.step_rules.proofs.Referring.{live_from_one, seat_there}
use Rattle.step_rules.proofs.SoundSteps.{below_frames}
use Rattle.step_rules.proofs.Sums.{sum_part}
use Rattle.boot_words.specs.Words.{Words}
use Rattle.boot_words.specs.{IsRunOf, frame_word, with_frame_word, ChangesWords, frame_word_at, put_answer_at, frame_base, words_in, HasLock}
use Rattle.boot_words.specs.{BeginsRun, SeesMore, HasNoStepOf, OthersFollow, MayChange, RacesAt}
use Rattle.boot_words.specs.declared.past.Past.{Past}
use Rattle.boot_words.proofs.Holding.{append_none}
use Rattle.boot_words.proofs.Lasting.{fast_legality_lasts}
use Rattle.boot_words.proofs.WordCounts.{live_word}
use Rattle.boot_words.proofs.Following.{stands_in}
use Rattle.boot_words.proofs.Parts.{frame_reads, words_set}
use Rattle.boot_words.proofs.Putting.{less_one, put_changes}
use Rattle.boot_words.specs.declared.word.Word.TheVariants.{OfFrame}
use Rattle.boot_words.proofs.Booking.{AreSmall}
use Rattle.boot_words.proofs.Fast.{Leaves, Made, legal_still, makes, past_begins, sees_run}
use Rattle.boot_words.proofs.Growing.{none_both}

-- a legal put finds a word of at least 1
pub word_positive : (zone : Zone) (words : Words) (run : Run) (seat f : ℕ) → IsRunOf zone words run → is_legal (state_of zone run) seat (Put f) ≡ true → 1 ≤ frame_word_at words f
word_positive zone words run seat f is legal =
    let s = state_of zone run in
    let stands = stands_in zone words run is in
    let tests = put_tests s seat f legal in
    let below = below_frames s.zone f tests.1 in
    let one : 1 ≤ s.references seat f = leb-true 1 (s.references seat f) tests.2 in
    let part = sum_part (s.zone.cpus + 1) (λ q. s.references q f) seat (let there = seat_there s seat f stands.sound one in omega (arith, there)) in
    let found = stands.frames.frame f below ∙ live_word s f (live_from_one s seat f stands.sound one) (live_references s f) in
    omega (arith, one, part, found)

-- the postcondition of a put's subtraction
pub record Puts (zone : Zone) (p : Past) (f found : ℕ) (later : List Past) : Type 0 where
  pub some : 1 ≤ found
  pub made : Made zone p (Put f) (put_answer_at found) later

pub may_put : (zone : Zone) (p : Past) (f : ℕ) → p.number ≢ 0 → is_legal (state_of zone p.seen) p.number (Put f) ≡ true
    → MayChange zone (p ∷ []) (OfFrame f) (λ n. (n + (2 ^ 64 - 1)) % 2 ^ 64) (Puts zone p f)
may_put zone p f ne legal id s k homes at small =
    let j = frame_base zone + f in
    let n = slice_index s.words j in
    let words = words_in zone s.words in
    let reads : frame_word_at words f ≡ n = frame_reads zone f s.words in
    let positive = word_positive zone words k.run p.number f k.is (legal_still zone s k id p (Put f) at ne tt legal) in
    let some : 1 ≤ n = omega (arith, positive, reads) in
    let r = makes zone s k id j ((n + (2 ^ 64 - 1)) % 2 ^ 64) p (Put f) (put_answer_at n) at ne tt legal
    (subst (ChangesWords zone words p.number (Put f) (put_answer_at n)) (ap (with_frame_word words f) (sym (less_one n some small)) ∙ sym (words_set zone f _ s.words))
    (put_changes zone words p.number f n reads some)) in
    (r.0, r.1, r.2, r.3, (r.4.0, record { some = some; made = r.4.1 }))

pub says_last : (n : ℕ) → n ≡ 1 → put_answer_at n ≡ Last
says_last n e = cond-true (n == 1) Last (Left (n - 1)) (eq-eqb n 1 e)

pub says_left : (n : ℕ) → (n ≡ 1 → ⊥) → put_answer_at n ≡ Left (n - 1)
says_left n e = cond-false (n == 1) Last (Left (n - 1)) (ne_eqb n 1 e)

-- ---- get
-- the past that has seen the whole run
abbrev pub all_seen : Past → Run → Past
all_seen p run = record { number = p.number; seen = run }

pub all_begin : (zone : Zone) (run : Run) (p : Past) → AreSmall (state_of zone run) → BeginsRun zone run (all_seen p run)
all_begin zone run p small = record { goes = record { rest = []; is = sym (append_none run); others = tt }; fast = λ lock. tt; few = small p.number }

-- the CPU's past has seen more of the run, after which the frame has this word
pub record SawWord (zone : Zone) (p : Past) (f found : ℕ) (later : List Past) : Type 0 where
  pub past : Past
  pub later_is : later ≡ past ∷ []
  pub more : SeesMore p past
  pub legal : IsLegalRun zone past.seen
  pub is : frame_word (state_of zone past.seen) f ≡ found
  pub few : ((state_of zone p.seen).parts p.number).book < group_base

-- the postcondition of a get's load: it is the step itself if the word refuses a reference
pub record Sees (zone : Zone) (p : Past) (f found : ℕ) (later : List Past) : Type 0 where
  pub refused : get_answer found ≢ Held → Made zone p (Get f) (get_answer found) later
  pub goes_on : get_answer found ≡ Held → SawWord zone p f found later

-- the exchange of a get that saw this word: the step, or a race, which is none
pub record Adds (zone : Zone) (p : Past) (f seen found : ℕ) (later : List Past) : Type 0 where
  pub held : found ≡ seen → Made zone p (Get f) Held later
  pub raced : found ≢ seen → (later ≡ p ∷ []) × RacesAt zone p f found

-- a word either gives a reference or refuses it
data GetAnswered (n : ℕ) : Type 0 where
  Gives : get_answer n ≡ Held → GetAnswered n
  HasNone : get_answer n ≡ Zero → GetAnswered n
  HasAll : get_answer n ≡ Full → GetAnswered n

get_answered : (n : ℕ) → GetAnswered n
get_answered n = by_room (nat_le 1 n && nat_le n 254) refl
  where
    by_full : (b c : Bool) → (n == 255) ≡ c → (nat_le 1 n && nat_le n 254) ≡ b → b ≡ false → GetAnswered n
    by_full b true e f g = HasAll ((λ i. cond ((f ∙ g) i) Held (cond (e i) Full Zero)))
    by_full b false e f g = HasNone ((λ i. cond ((f ∙ g) i) Held (cond (e i) Full Zero)))

    by_room : (b : Bool) → (nat_le 1 n && nat_le n 254) ≡ b → GetAnswered n
    by_room true e = Gives (ap (λ t. cond t Held (cond (n == 255) Full Zero)) e)
    by_room false e = by_full false (n == 255) refl e refl

pub zero_not_held : Zero ≡ Held → ⊥
zero_not_held e = cc

pub full_not_held : Full ≡ Held → ⊥
full_not_held e = cc

-- the word of a frame of the zone is the one that the run's state says
pub word_now : (zone : Zone) (words : Words) (run : Run) (f : ℕ) → IsRunOf zone words run → f < zone.frames → frame_word (state_of zone run) f ≡ frame_word_at words f
word_now zone words run f is inside = sym (is.frames.frame f (subst (λ (z : Zone). f < z.frames) (sym (zone_of_run zone run)) inside))

pub may_see : (zone : Zone) (p : Past) (f : ℕ) → p.number ≢ 0 → f < zone.frames → is_legal (state_of zone p.seen) p.number (Get f) ≡ true
    → MayChange zone (p ∷ []) (OfFrame f) (λ n. n) (Sees zone p f)
may_see zone p f ne inside legal id s k homes at small =
    let j = frame_base zone + f in
    let n = slice_index s.words j in
    let words = words_in zone s.words in
    let reads : frame_word_at words f ≡ n = frame_reads zone f s.words in
    let same : words_in zone (set s.words j n) ≡ words = ap (words_in zone) (set-get_or s.words j 0) in
    let goes = (past_begins zone s k id p at).goes in
    let refused : (answer : Answer) → get_answer n ≡ answer → (answer ≡ Held → ⊥) → ChangesWords zone words p.number (Get f) answer words → Leaves zone s id j n (Sees zone p f n)
    = λ answer says other changes.
    let r = makes zone s k id j n p (Get f) answer at ne tt legal (subst (ChangesWords zone words p.number (Get f) answer) (sym same) changes) in (
      r.0,
      r.1,
      r.2,
      r.3,
      (
        r.4.0,
        record {
          refused = λ not. subst (λ a. Made zone p (Get f) a r.0) (sym says) r.4.1;
          goes_on = λ held. absurd (other (sym says ∙ held));
        },
      ),
    ) in
    elim (get_answered n) [
      | Gives held ↦
          sees_run zone s k id j n (p ∷ []) (all_seen p k.run ∷ []) (Sees zone p f n) at refl (λ q. refl) (all_begin zone k.run p k.small, tt) (record {
            refused = λ not. absurd (not held);
            goes_on = λ h. record {
              past = all_seen p k.run;
              later_is = refl;
              more = record { between = goes.rest; others = goes.others; number = refl; seen = goes.is };
              legal = k.is.legal;
              is = word_now zone words k.run f k.is inside ∙ reads;
              few = (past_begins zone s k id p at).few;
            };
          })
      | HasNone says ↦ refused Zero says zero_not_held (record { answered = ap get_answer reads ∙ says; later_is = refl })
      | HasAll says ↦ refused Full says full_not_held (record { answered = ap get_answer reads ∙ says; later_is = refl })
    ]

-- a past that saw more and then noted the step has grown by it
since : (zone : Zone) (p q : Past) (action : Action) (answer : Answer) (later : List Past) → SeesMore p q → Made zone q action answer later → Made zone p action answer later
since zone p q action answer later more m = record {
  past = m.past;
  later_is = m.later_is;
  legal = m.legal;
  grew = record {
    between = more.between ++ m.grew.between;
    others = none_both p.number more.between m.grew.between more.others (subst (λ n. HasNoStepOf n m.grew.between) more.number m.grew.others);
    number = m.grew.number ∙ more.number;
    seen = m.grew.seen ∙ (λ i. (more.seen i ++ m.grew.between) ++ (record { seat = more.number i; action = action }, answer) ∷ [])
        ∙ ap (λ l. l ++ (record { seat = p.number; action = action }, answer) ∷ []) (append_assoc p.seen more.between m.grew.between);
  };
}

-- the earlier past still is a beginning of the run
begins_since : (zone : Zone) (p q : Past) (run : Run) → SeesMore p q → (HasLock zone p → ⊥) → OthersFollow q.number q.seen run
    → ((state_of zone p.seen).parts p.number).book < group_base → BeginsRun zone run p
begins_since zone p q run more away goes few = record {
  goes = record {
    rest = more.between ++ goes.rest;
    is = goes.is ∙ ap (λ l. l ++ goes.rest) more.seen ∙ append_assoc p.seen more.between goes.rest;
    others = none_both p.number more.between goes.rest more.others (subst (λ n. HasNoStepOf n goes.rest) more.number goes.others);
  };
  fast = λ lock. absurd (away lock);
  few = few;
}

pub may_add : (zone : Zone) (p : Past) (f seen : ℕ) (saw : List Past) → p.number ≢ 0 → holds_lock p.number (state_of zone p.seen).hold ≡ false → f < zone.frames → 1 ≤ seen
    → seen < most_references → is_legal (state_of zone p.seen) p.number (Get f) ≡ true → SawWord zone p f seen saw
    → MayChange zone saw (OfFrame f) (λ n. either (n == seen) (seen + 1) n) (Adds zone p f seen)
may_add zone p f seen saw ne away inside low high legal w id s k homes at small =
    let q = w.past in
    let here : get_elem? s.views id ≡ some (q ∷ []) = at ∙ ap some w.later_is in
    let q_ne : q.number ≢ 0 = λ e. ne (sym w.more.number ∙ e) in
    let q_legal : is_legal (state_of zone q.seen) q.number (Get f) ≡ true =
    ap (λ c. is_legal (state_of zone q.seen) c (Get f)) w.more.number
    ∙ fast_legality_lasts zone p.seen q.seen p.number (Get f) ne w.legal (record { rest = w.more.between; is = w.more.seen; others = w.more.others }) tt ∙ legal in
    let j = frame_base zone + f in
    let n = slice_index s.words j in
    let words = words_in zone s.words in
    let reads : frame_word_at words f ≡ n = frame_reads zone f s.words in
    let x = either (eqb n seen) (seen + 1) n in
    let goes = (past_begins zone s k id q here).goes in
    let no_lock : HasLock zone p → ⊥ = λ lock. elim lock [
      | inl zeroth ↦ ne zeroth
      | inr holds ↦ false≢true (sym away ∙ holds)
    ] in
    let F : ℕ → Type 0 = λ word. word ≡ x → Leaves zone s id j x (Adds zone p f seen n) in
    exchanged n seen (seen + 1) F
    (λ hit word.
    let found : frame_word_at words f ≡ seen = reads ∙ hit in
    let later : words_in zone (set s.words j x) ≡ with_frame_word words f (frame_word_at words f + 1) =
    words_set zone f x s.words ∙ ap (with_frame_word words f) (sym word ∙ ap (λ m. m + 1) (sym found)) in
    let r = makes zone s k id j x q (Get f) Held here q_ne tt q_legal
    (record { some = subst (λ m. 1 ≤ m) (sym found) low; room = subst (λ m. m < most_references) (sym found) high; later_is = later }) in
    (r.0, r.1, r.2, r.3, (r.4.0, record { held = λ h. since zone p q (Get f) Held r.0 w.more r.4.1; raced = λ not. absurd (not hit) })))
    (λ miss word.
    sees_run zone s k id j x (q ∷ []) (p ∷ []) (Adds zone p f seen n) here (sym word) (λ c. ap (λ m. one_if (m == c) + 0) (sym w.more.number))
    (begins_since zone p q k.run w.more no_lock goes w.few, tt) (record {
      held = λ h. absurd (miss h);
      raced = λ not. (
        refl,
        record {
          loaded = q.seen;
          exchanged = k.run;
          before = record { rest = w.more.between; is = w.more.seen; others = w.more.others };
          meanwhile = record { rest = goes.rest; is = goes.is; others = subst (λ c. HasNoStepOf c goes.rest) w.more.number goes.others };
          legal = k.is.legal;
          some = subst (λ m. 1 ≤ m) (sym w.is) low;
          room = subst (λ m. m < most_references) (sym w.is) high;
          found_is = word_now zone words k.run f k.is inside ∙ reads;
          other = λ e. not (e ∙ w.is);
        },
      );
    })) refl
