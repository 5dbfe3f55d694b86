-- Frames in transit, and visits.
use Rattle.std.proofs.Common.{◌≡◌, ℕ, ◌==◌, ◌&&◌, ◌||◌, true, false, refl, sym, ◌∙◌, ap, inl, inr, eq-eqb}
use Rattle.std.proofs.lemmas.Bool.{and_parts, ne_eqb, or_cases}
use Rattle.frame_word.specs.Word.{mark}
use Rattle.step_rules.specs.declared.phase.Hold.{Hold}
use Rattle.step_rules.specs.declared.phase.Hold.TheVariants.{Unheld, HeldBy, Visiting}
use Rattle.step_rules.specs.declared.phase.Way.TheVariants.{PassingOut, OnList}
use Rattle.step_rules.specs.declared.phase.Phase.{Phase}
use Rattle.step_rules.specs.declared.phase.Phase.TheVariants.{Lent}
use Rattle.step_rules.specs.declared.step.Action.TheVariants.{OpenVisit, ShutVisit, PassOut, TakeIn, PassBack, Collect}
use Rattle.step_rules.specs.declared.step.Answer.TheVariants.{Done}
use Rattle.step_rules.specs.Phases.{ListFrame, FreshFrame, is_live_phase, has_as, passed_back, collected}
use Rattle.step_rules.specs.Phases as kinds
use Rattle.step_rules.specs.State.{State}
use Rattle.step_rules.specs.{with_at, live_references, one_if, front_of, is_held_by, visits, is_legal, after, with_listed, without_frame}
use Rattle.step_rules.proofs.Basics.{at_same, at_other}
use Rattle.step_rules.proofs.LegalTests.{pass_out_tests, take_in_tests, pass_back_tests, collect_tests, open_visit_tests, shut_visit_tests}
use Rattle.step_rules.proofs.PhaseLemmas.{out_is, came_back, CameBack, FromList, FromFresh, FromBack, listed_is, fresh_is, back_is, visited}
use Rattle.step_rules.proofs.SoundSteps.{below_frames, cpu_range}
use Rattle.boot_words.specs.Words.{Words, word_in_phase, with_frame_word, with_visit_word}
use Rattle.boot_words.proofs.WordLists.{HasFrameWord, frame_set, visit_set, stocks_same}
use Rattle.boot_words.proofs.Following.{Stands, Follows, all_stocks, same_stocks, holding_cpu, visited_cpu}
use Rattle.boot_words.proofs.WordCounts.{none_live}

-- one frame gets another phase, whose word is this
phase_word : (s : State) (f : ℕ) (y : Phase) (word : ℕ) → word_in_phase y (live_references s f) ≡ word
    → HasFrameWord s (record s { phases = with_at s.phases f y }) f word
phase_word s f y word is = record {
  here = ap (λ x. word_in_phase x (live_references s f)) (at_same s.phases f y) ∙ is;
  others = λ m ne. ap (λ x. word_in_phase x (live_references s m)) (at_other s.phases f y m ne);
}

pub follows_pass_out : (s : State) (words : Words) (seat f cpu : ℕ) → Stands s words → is_legal s seat (PassOut f cpu) ≡ true
    → Follows s seat (PassOut f cpu) Done (with_frame_word words f (mark cpu))
follows_pass_out s words seat f cpu stands legal =
    let below = below_frames s.zone f (pass_out_tests s seat f cpu legal).1 in
    let t = after s seat (PassOut f cpu) Done in
    let has = phase_word s f (Lent cpu PassingOut) (mark cpu) refl in
    record {
      answered = tt;
      counted = tt;
      frames = frame_set s t words.frames f (mark cpu) stands.frames below refl refl (record { here = has.here; others = has.others });
      stocks = stocks_same s t words.stocks stands.stocks refl (all_stocks s.parts);
    }

pub follows_take_in : (s : State) (words : Words) (seat f : ℕ) → Stands s words → is_legal s seat (TakeIn f) ≡ true
    → Follows s seat (TakeIn f) Done (with_frame_word words f 0)
follows_take_in s words seat f stands legal =
    let tests = take_in_tests s seat f legal in
    let below = below_frames s.zone f tests.1 in
    let dead : is_live_phase (s.phases f) ≡ false = ap is_live_phase (out_is seat (s.phases f) tests.2) in
    let t = after s seat (TakeIn f) Done in
    let has = phase_word s f (Lent seat OnList) 0 (none_live s f stands.sound dead) in
    record {
      answered = tt;
      counted = tt;
      frames = frame_set s t words.frames f 0 stands.frames below refl refl (record { here = has.here; others = has.others });
      stocks = stocks_same s t words.stocks stands.stocks refl
          (same_stocks s.parts seat (with_listed (s.parts seat) f) (record { stock = refl; reported = refl }));
    }

sent_word : (s : State) (seat f live : ℕ) → is_legal s seat (PassBack f) ≡ true → word_in_phase (passed_back (s.phases f)) live ≡ mark seat
sent_word s seat f live legal =
    elim (or_cases (has_as ListFrame seat (s.phases f) && front_of (s.parts seat).list == f || has_as FreshFrame seat (s.phases f))
    (has_as kinds.BackFrame seat (s.phases f)) (pass_back_tests s seat f legal).3) [
      | inl first ↦ elim (or_cases (has_as ListFrame seat (s.phases f) && front_of (s.parts seat).list == f) (has_as FreshFrame seat (s.phases f)) first) [
        | inl front ↦ ap (λ x. word_in_phase (passed_back x) live)
            (listed_is seat (s.phases f) (and_parts (has_as ListFrame seat (s.phases f)) (front_of (s.parts seat).list == f) front).0)
        | inr fresh ↦ ap (λ x. word_in_phase (passed_back x) live) (fresh_is seat (s.phases f) fresh).1
      ]
      | inr back ↦ ap (λ x. word_in_phase (passed_back x) live) (back_is seat (s.phases f) back).1
    ]

pub follows_pass_back : (s : State) (words : Words) (seat f : ℕ) → Stands s words → is_legal s seat (PassBack f) ≡ true
    → Follows s seat (PassBack f) Done (with_frame_word words f (mark seat))
follows_pass_back s words seat f stands legal =
    let below = below_frames s.zone f (pass_back_tests s seat f legal).1 in
    let t = after s seat (PassBack f) Done in
    let has = phase_word s f (passed_back (s.phases f)) (mark seat) (sent_word s seat f (live_references s f) legal) in
    record {
      answered = tt;
      counted = tt;
      frames = frame_set s t words.frames f (mark seat) stands.frames below refl refl (record { here = has.here; others = has.others });
      stocks = stocks_same s t words.stocks stands.stocks refl
          (same_stocks s.parts seat (without_frame (s.parts seat) (s.phases f) seat f) (record { stock = refl; reported = refl }));
    }

got_word : (cpu : ℕ) (x : Phase) (live : ℕ) → CameBack cpu x → word_in_phase (collected x) live ≡ live
got_word cpu x live (FromList e) = ap (λ y. word_in_phase (collected y) live) e
got_word cpu x live (FromFresh u e) = ap (λ y. word_in_phase (collected y) live) e
got_word cpu x live (FromBack u e) = ap (λ y. word_in_phase (collected y) live) e

got_dead : (cpu : ℕ) (x : Phase) → CameBack cpu x → is_live_phase x ≡ false
got_dead cpu x (FromList e) = ap is_live_phase e
got_dead cpu x (FromFresh u e) = ap is_live_phase e
got_dead cpu x (FromBack u e) = ap is_live_phase e

pub follows_collect : (s : State) (words : Words) (seat f cpu : ℕ) → Stands s words → is_legal s seat (Collect f cpu) ≡ true
    → Follows s seat (Collect f cpu) Done (with_frame_word words f 0)
follows_collect s words seat f cpu stands legal =
    let tests = collect_tests s seat f cpu legal in
    let below = below_frames s.zone f tests.1 in
    let came = came_back cpu (s.phases f) tests.3 in
    let none = none_live s f stands.sound (got_dead cpu (s.phases f) came) in
    let t = after s seat (Collect f cpu) Done in
    let has = phase_word s f (collected (s.phases f)) 0 (got_word cpu (s.phases f) (live_references s f) came ∙ none) in
    record {
      answered = tt;
      counted = tt;
      frames = frame_set s t words.frames f 0 stands.frames below refl refl (record { here = has.here; others = has.others });
      stocks = stocks_same s t words.stocks stands.stocks refl (all_stocks s.parts);
    }

-- ---- visits
held_is : (p : ℕ) (hold : Hold) → is_held_by p hold ≡ true → (q : ℕ) → visits q hold ≡ false
held_is p (HeldBy r) e q = refl
held_is p Unheld e q = refl
held_is p (Visiting r) e q = absurd (let a : false ≡ true = e in cc)

pub follows_open : (s : State) (words : Words) (seat cpu : ℕ) → Stands s words → is_legal s seat (OpenVisit cpu) ≡ true
    → Follows s seat (OpenVisit cpu) Done (with_visit_word s.zone words cpu 1)
follows_open s words seat cpu stands legal =
    let test = (open_visit_tests s seat cpu legal).1 in
    let range = cpu_range s.zone cpu (holding_cpu s words cpu stands test) in
    let held = held_is cpu s.hold test in
    let t = after s seat (OpenVisit cpu) Done in
    record {
      answered = tt;
      counted = tt;
      frames = visit_set s t words.frames cpu 1 stands.frames range.0 range.1 refl (λ f. refl) (ap one_if (eq-eqb cpu cpu refl))
          (λ q ne. ap one_if (ne_eqb cpu q (λ e. ne (sym e)) ∙ sym (held q)));
      stocks = stocks_same s t words.stocks stands.stocks refl (all_stocks s.parts);
    }

pub follows_shut : (s : State) (words : Words) (seat cpu : ℕ) → Stands s words → is_legal s seat (ShutVisit cpu) ≡ true
    → Follows s seat (ShutVisit cpu) Done (with_visit_word s.zone words cpu 0)
follows_shut s words seat cpu stands legal =
    let test = (shut_visit_tests s seat cpu legal).1 in
    let range = cpu_range s.zone cpu (visited_cpu s words cpu stands test) in
    let visit = visited cpu s.hold test in
    let t = after s seat (ShutVisit cpu) Done in
    record {
      answered = tt;
      counted = tt;
      frames = visit_set s t words.frames cpu 0 stands.frames range.0 range.1 refl (λ f. refl) refl
          (λ q ne. sym (ap (λ h. one_if (visits q h)) visit ∙ ap one_if (ne_eqb cpu q (λ e. ne (sym e)))));
      stocks = stocks_same s t words.stocks stands.stocks refl (all_stocks s.parts);
    }
