-- Plain steps leave the words those of the run.
use Rattle.std.proofs.Common.{◌≡◌, ◌≢◌, ℕ, ◌+◌, ◌^◌, ◌<◌, ◌≤◌, ◌==◌, Bool, true, false, refl, sym, ◌∙◌, ap, subst, arith, rules, inl, inr, cond}
use Rattle.std.proofs.lemmas.Bool.{cases_eq, false≢true}
use Rattle.zone_blocks.specs.declared.block.Block.{Block}
use Rattle.zone_blocks.specs.Areas.{IsFreeBlock}
use Rattle.step_rules.specs.declared.phase.ChargedUnit.{ChargedUnit}
use Rattle.step_rules.specs.declared.phase.Hold.{Hold}
use Rattle.step_rules.specs.declared.phase.Hold.TheVariants.{Unheld, HeldBy}
use Rattle.step_rules.specs.declared.phase.Stage.{Stage}
use Rattle.step_rules.specs.declared.phase.Stage.TheVariants.{Bare, Collected, AwaitsReturn}
use Rattle.step_rules.specs.declared.phase.Phase.{Phase}
use Rattle.step_rules.specs.declared.phase.Phase.TheVariants.{InZone, Head, Tail}
use Rattle.step_rules.specs.declared.step.Action.{Action}
use Rattle.step_rules.specs.declared.step.Action.TheVariants.{Lock, Unlock, PlaceBlock, Return}
use Rattle.step_rules.specs.declared.step.Answer.{Answer}
use Rattle.step_rules.specs.declared.step.Answer.TheVariants.{Illegal, Done, Placed}
use Rattle.step_rules.specs.{is_free, unit_of, Part, free_in, is_unheld, is_held_by, live_references, one_if, visits, is_legal, IsAnswer, after}
use Rattle.step_rules.specs.{placed_phase, state_of, unit_size, with_block, without_unit, KeepsInvariant}
use Rattle.step_rules.specs.State.{State}
use Rattle.step_rules.proofs.LegalTests.{lock_tests, unlock_tests, return_tests}
use Rattle.step_rules.proofs.PhaseLemmas.{is_quiet, is_quiet_stage, returning_is, Returns, AsEnded, AsKilled}
use Rattle.step_rules.proofs.Placing.{block_free, in_block, in_unit, off_block, off_unit, within_cases}
use Rattle.step_rules.proofs.LocalLaws.{no_illegal}
use Rattle.step_rules.proofs.Runs.{after_illegal, allowed, legal_more, state_more}
use Rattle.boot_words.specs.Words.{Words, AreFrameWords, AreStockWords, word_in_phase, frame_word}
use Rattle.boot_words.specs.Steps.{IsPlain, PlainStepsKeepWords}
use Rattle.boot_words.proofs.WordLists.{HasSameFrameWords, frames_same, stocks_same}
use Rattle.boot_words.proofs.Following.{Stands, stands_in}

-- the parts and all words of frames and visits stay
record StaysSo (s t : State) : Type 0 where
  pub frames : HasSameFrameWords s t
  pub parts : t.parts ≡ s.parts

stays : (s : State) → StaysSo s s
stays s = record { frames = record { zone = refl; frame = λ f. refl; visit = λ cpu. refl }; parts = refl }

-- in a quiet phase the word is the number of references
quiet_stage_word : (u : ChargedUnit) (stage : Stage) (live : ℕ) → is_quiet_stage stage ≡ true → word_in_phase (Head u stage) live ≡ live
quiet_stage_word u Collected live e = refl
quiet_stage_word u Bare live e = refl
quiet_stage_word u AwaitsReturn live e = refl
quiet_stage_word u stage live e = absurd (false≢true e)

quiet_word : (x : Phase) (live : ℕ) → is_quiet x ≡ true → word_in_phase x live ≡ live
quiet_word InZone live e = refl
quiet_word (Tail g) live e = refl
quiet_word (Head u stage) live e = quiet_stage_word u stage live e
quiet_word x live e = absurd (false≢true e)

free_word : (x : Phase) (live : ℕ) → is_free x ≡ true → word_in_phase x live ≡ live
free_word InZone live e = refl
free_word x live e = absurd (false≢true e)

placed_word : (g : ℕ) (b : Block) (x live : ℕ) → word_in_phase (placed_phase g b x) live ≡ live
placed_word g b x live = placed (x == b.at)
  where
    placed : (t : Bool) → word_in_phase (cond t (Head (record { group = g; order = b.order }) Bare) (Tail g)) live ≡ live
    placed true = refl
    placed false = refl

block_words : (s : State) (g : ℕ) (b : Block) → IsFreeBlock (free_in s.zone s.phases) b
    → (m : ℕ) → word_in_phase (with_block s.phases g b m) (live_references s m) ≡ frame_word s m
block_words s g b free m =
    let live = live_references s m in
    elim (within_cases b.at (2 ^ b.order) m) [
      | inl within ↦
          ap (λ x. word_in_phase x live) (in_block s.phases g b m within.0) ∙ placed_word g b m live
          ∙ sym (free_word (s.phases m) live (block_free s.zone s.phases b free m within.1 within.2).1)
      | inr outside ↦ ap (λ x. word_in_phase x live) (off_block s.phases g b m outside.0)
    ]

behind : (f m : ℕ) → f ≤ m → m ≢ f → f < m
behind f m low ne = omega (arith, low, ne)

unit_words : (s : State) (f : ℕ) (u : ChargedUnit) (stage : Stage) → KeepsInvariant s → s.phases f ≡ Head u stage → is_quiet_stage stage ≡ true
    → (m : ℕ) → word_in_phase (without_unit s.phases f m) (live_references s m) ≡ frame_word s m
unit_words s f u stage sound was quiet m =
    let live = live_references s m in
    let size : unit_size (unit_of (s.phases f)) ≡ 2 ^ u.order = ap (λ x. unit_size (unit_of x)) was in
    elim (within_cases f (unit_size (unit_of (s.phases f))) m) [
      | inl within ↦
          let before : is_quiet (s.phases m) ≡ true = elim (cases_eq m f) [
            | inl e ↦ ap (λ (k : ℕ). is_quiet (s.phases k)) e ∙ ap is_quiet was ∙ quiet
            | inr ne ↦ ap is_quiet (sound.units f u (ap unit_of was) m (behind f m within.1 ne) (subst (λ n. m < f + n) size within.2))
          ] in
          ap (λ x. word_in_phase x live) (in_unit s.phases f m within.0) ∙ sym (quiet_word (s.phases m) live before)
      | inr outside ↦ ap (λ x. word_in_phase x live) (off_unit s.phases f m outside.0)
    ]

returned_words : (s : State) (f : ℕ) → KeepsInvariant s → Returns s.killed (s.phases f)
    → (m : ℕ) → word_in_phase (without_unit s.phases f m) (live_references s m) ≡ frame_word s m
returned_words s f sound (AsEnded u was) = unit_words s f u AwaitsReturn sound was refl
returned_words s f sound (AsKilled u was killed) = unit_words s f u Collected sound was refl

unheld_visits : (hold : Hold) (q : ℕ) → is_unheld hold ≡ true → visits q hold ≡ false
unheld_visits Unheld q e = refl
unheld_visits hold q e = absurd (false≢true e)

held_visits : (p : ℕ) (hold : Hold) (q : ℕ) → is_held_by p hold ≡ true → visits q hold ≡ false
held_visits p (HeldBy r) q e = refl
held_visits p hold q e = absurd (false≢true e)

plain_stays : (s : State) (words : Words) (seat : ℕ) (action : Action) (answer : Answer) → Stands s words → IsPlain action
    → is_legal s seat action ≡ true → IsAnswer s seat action answer → StaysSo s (after s seat action answer)
plain_stays s words seat action Illegal stands plain legal ok = absurd (no_illegal s seat action ok)
plain_stays s words seat Lock Done stands plain legal ok = record {
  frames = record { zone = refl; frame = λ f. refl; visit = λ q. sym (ap one_if (unheld_visits s.hold q (lock_tests s seat legal).1)) };
  parts = refl;
}
plain_stays s words seat Unlock Done stands plain legal ok = record {
  frames = record { zone = refl; frame = λ f. refl; visit = λ q. sym (ap one_if (held_visits seat s.hold q (unlock_tests s seat legal).1)) };
  parts = refl;
}
plain_stays s words seat (PlaceBlock g k) (Placed b) stands plain legal ok = record {
  frames = record { zone = refl; frame = block_words s g b ok.1; visit = λ q. refl };
  parts = refl;
}
plain_stays s words seat (Return f) Done stands plain legal ok = record {
  frames = record { zone = refl; frame = returned_words s f stands.sound (returning_is s.killed (s.phases f) (return_tests s seat f legal).2); visit = λ q. refl };
  parts = refl;
}
plain_stays s words seat Lock answer stands plain legal ok = stays s
plain_stays s words seat action answer stands plain legal ok = search rules

pub plain_steps_keep_words : PlainStepsKeepWords
plain_steps_keep_words zone words run step answer is plain ok =
    let s = state_of zone run in
    let stands = stands_in zone words run is in
    let t = after s step.seat step.action answer in
    let so : StaysSo s t = elim (allowed s step.seat step.action answer ok) [
      | inl illegal ↦ subst (StaysSo s) (sym (ap (after s step.seat step.action) illegal ∙ after_illegal s step.seat step.action)) (stays s)
      | inr made ↦ plain_stays s words step.seat step.action answer stands plain made.legal made.answered
    ] in
    let more = sym (state_more zone run step answer) in record {
      legal = legal_more zone run step answer is.legal ok;
      frames = subst (λ (x : State). AreFrameWords x words.frames) more (frames_same s t words.frames is.frames so.frames);
      stocks = subst (λ (x : State). AreStockWords x words.stocks) more
          (stocks_same s t words.stocks is.stocks so.frames.zone (λ cpu. record { stock = ap (λ (h : ℕ → Part). (h cpu).stock) so.parts; reported = ap (λ (h : ℕ → Part). (h cpu).reported) so.parts }));
    }
