-- A frame that has a reference is on no list of a CPU, whatever others did since the CPU's past.
use Rattle.std.proofs.Common.{◌≡◌, ◌≢◌, ℕ, zero, suc, ◌+◌, ◌<◌, ◌≤◌, true, false, [], ◌∷◌, ◌++◌, length, refl, ap, sym, ◌∙◌, subst, arith, inl, inr}
use Rattle.std.proofs.lemmas.Bool.{cases_Bool}
use Rattle.frame_word.specs.declared.answers.Get as gets
use Rattle.frame_word.specs.declared.answers.Get.TheVariants as get
use Rattle.step_rules.specs.declared.phase.ChargedUnit.{ChargedUnit}
use Rattle.step_rules.specs.declared.phase.Phase.{Phase}
use Rattle.step_rules.specs.declared.phase.Phase.TheVariants as phase
use Rattle.step_rules.specs.declared.phase.Stage.{Stage}
use Rattle.step_rules.specs.declared.phase.Stage.TheVariants as stage
use Rattle.step_rules.specs.declared.phase.Way.{Way}
use Rattle.step_rules.specs.declared.phase.Way.TheVariants as way
use Rattle.step_rules.specs.declared.step.Action.{Action}
use Rattle.step_rules.specs.declared.step.Action.TheVariants.{Get, Put}
use Rattle.step_rules.specs.declared.step.Answer.{Answer}
use Rattle.step_rules.specs.declared.step.Answer.TheVariants.{Full, Held, Last, Left, Zero}
use Rattle.step_rules.specs.{Allows, get_answer, LiveIsReferenced, Kind, has_as, is_live_phase, frames_of, live_references, one_if, times, Run}
use Rattle.step_rules.specs.{state_of, IsLegalRun}
use Rattle.step_rules.specs.Phases.{BackFrame, FreshFrame, ListFrame}
use Rattle.step_rules.specs.State.{State}
use Rattle.step_rules.proofs.Living.{live_are_referenced}
use Rattle.step_rules.proofs.PhaseLemmas.{live_is, nobody_has_live}
use Rattle.step_rules.proofs.Runs.{legal_from, sound_run}
use Rattle.step_rules.proofs.Sums.{sum_none}
use Rattle.boot_words.specs.{KnownPasts, own_past, OthersFollow, zone_of_boot, frame_word, word_in_phase, CpuMakes, GetsReference, KnownCpuSeat}
use Rattle.boot_words.specs.{state_left, KnownTable}
use Rattle.boot_words.proofs.Holding.{allowed_at, take_length}
use Rattle.boot_words.proofs.Owning.{lists_are_own}
use Rattle.boot_words.proofs.Counts.{never_zero}
use Rattle.cpu_part.specs.{IsUnlisted, KnownCpuLists, KnowsItsPart}
use Rattle.cpu_part.proofs.Knowing.{not_the_zone}

-- ---- words of live frames

-- without references a word is 0 or a mark
dead_way : (q : ℕ) (w : Way) → 1 ≤ word_in_phase (phase.Lent q w) 0 → word_in_phase (phase.Lent q w) 0 < 255 → ⊥
dead_way q way.PassingOut low high = absurd (omega (arith, high))
dead_way q way.OnList low high = absurd (omega (arith, low))
dead_way q way.PassingBack low high = absurd (omega (arith, high))

dead_stage : (unit : ChargedUnit) (x : Stage) → 1 ≤ word_in_phase (phase.Head unit x) 0 → word_in_phase (phase.Head unit x) 0 < 255 → ⊥
dead_stage unit (stage.FreshPassing q) low high = absurd (omega (arith, high))
dead_stage unit (stage.BackPassing q) low high = absurd (omega (arith, high))
dead_stage unit (stage.FreshAt q) low high = absurd (omega (arith, low))
dead_stage unit stage.Collected low high = absurd (omega (arith, low))
dead_stage unit stage.Bare low high = absurd (omega (arith, low))
dead_stage unit stage.Live low high = absurd (omega (arith, low))
dead_stage unit (stage.BackAt q) low high = absurd (omega (arith, low))
dead_stage unit stage.AwaitsReturn low high = absurd (omega (arith, low))

dead_word : (x : Phase) → 1 ≤ word_in_phase x 0 → word_in_phase x 0 < 255 → ⊥
dead_word phase.InZone low high = absurd (omega (arith, low))
dead_word (phase.Tail g) low high = absurd (omega (arith, low))
dead_word (phase.Lent q w) low high = dead_way q w low high
dead_word (phase.Head unit x) low high = dead_stage unit x low high

none_counted : (s : State) (f : ℕ) → LiveIsReferenced s f → is_live_phase (s.phases f) ≡ false → live_references s f ≡ 0
none_counted s f is dead = sum_none (s.zone.cpus + 1) (λ seat. s.references seat f) (λ seat below. is.none dead seat)

counted_lives : (s : State) (f : ℕ) → LiveIsReferenced s f → 1 ≤ live_references s f → is_live_phase (s.phases f) ≡ true
counted_lives s f is some = elim (cases_Bool (is_live_phase (s.phases f))) [
  | inl live ↦ live
  | inr dead ↦ absurd (let none = none_counted s f is dead in omega (arith, none, some))
]

word_lives : (s : State) (f : ℕ) → LiveIsReferenced s f → 1 ≤ frame_word s f → frame_word s f < 255 → is_live_phase (s.phases f) ≡ true
word_lives s f is low high = elim (cases_Bool (is_live_phase (s.phases f))) [
  | inl live ↦ live
  | inr dead ↦
      let none = none_counted s f is dead in
      absurd (dead_word (s.phases f) (subst (λ n. 1 ≤ word_in_phase (s.phases f) n) none low) (subst (λ n. word_in_phase (s.phases f) n < 255) none high))
]

-- ---- the frame of a get or a put

module _ (t : KnownTable) (k : KnownCpuSeat) (c : KnownCpuLists) (knows : KnowsItsPart t k c) (f : ℕ) where
  -- a frame that is live after others' steps
  unlisted_at : (run : Run) → IsLegalRun (zone_of_boot t) run → OthersFollow (own_past k.past).number (own_past k.past).seen run
      → is_live_phase ((state_of (zone_of_boot t) run).phases f) ≡ true → IsUnlisted f c
  unlisted_at run legal goes live =
      let zone = zone_of_boot t in let s = state_of zone run in
      let lives = live_is (s.phases f) live in
      let none : (kind : Kind) → times f (frames_of (s.parts c.number) kind) ≡ 0 = λ kind.
      (sound_run zone run legal).lists c.number kind f ∙ ap (λ (x : Phase). one_if (has_as kind c.number x)) lives.1 ∙ ap one_if (nobody_has_live lives.0 c.number kind) in
      let same = lists_are_own zone (own_past k.past).seen run c.number (not_the_zone t k c knows)
      (subst (λ (q : ℕ). OthersFollow q (own_past k.past).seen run) (sym knows.is.number ∙ knows.number) goes) in (
        ap (times f) (sym (same.list ∙ knows.own.list)) ∙ none ListFrame,
        ap (times f) (sym (same.fresh ∙ knows.own.fresh)) ∙ none FreshFrame,
        ap (times f) (sym (same.back ∙ knows.own.back)) ∙ none BackFrame,
      )

  -- the run after which the CPU made its step, and that it was allowed there
  record IsBehind (action : Action) (answer : Answer) : Type 0 where
    run : Run
    legal : IsLegalRun (zone_of_boot t) run
    goes : OthersFollow (own_past k.past).number (own_past k.past).seen run
    allowed : Allows (state_of (zone_of_boot t) run) (own_past k.past).number action answer

  behind : (action : Action) (answer : Answer) (s : KnownPasts) → CpuMakes t k.past action answer s → IsBehind action answer
  behind action answer s made =
      let zone = zone_of_boot t in let p = own_past k.past in
      let before = p.seen ++ made.grew.between in
      let whole = subst (IsLegalRun zone) made.grew.seen made.is_past.legal in
      record {
        run = before;
        legal = subst (IsLegalRun zone) (take_length before ((record { seat = p.number; action = action }, answer) ∷ []))
            (legal_from zone (before ++ (record { seat = p.number; action = action }, answer) ∷ []) (length before) whole);
        goes = record { rest = made.grew.between; is = refl; others = made.grew.others };
        allowed = allowed_at zone before (record { seat = p.number; action = action }, answer) [] whole;
      }

  -- a frame that had this many references when the CPU made its step
  counted_at : (action : Action) (answer : Answer) (b : IsBehind action answer) → 1 ≤ live_references (state_of (zone_of_boot t) b.run) f → IsUnlisted f c
  counted_at action answer b some =
      unlisted_at b.run b.legal b.goes (counted_lives (state_of (zone_of_boot t) b.run) f (live_are_referenced (zone_of_boot t) b.run b.legal f) some)

  some_answer : (n : ℕ) (answer : Answer) → answer ≡ get_answer n → answer ≢ Zero → 1 ≤ n
  some_answer zero answer is not = absurd (not is)
  some_answer (suc n) answer is not = omega arith

  get_unlisted : (answer : Answer) (s : KnownPasts) → CpuMakes t k.past (Get f) answer s → answer ≢ Zero
      → ((b : IsBehind (Get f) answer) → answer ≡ get_answer (live_references (state_of (zone_of_boot t) b.run) f)) → IsUnlisted f c
  get_unlisted answer s made not counted =
      let b = behind (Get f) answer s made in
      counted_at (Get f) answer b (some_answer (live_references (state_of (zone_of_boot t) b.run) f) answer (counted b) not)

  pub got_unlisted : (answer : gets.Get) (s : KnownPasts) → GetsReference t k.past f answer s → answer ≢ get.Zero → IsUnlisted f c
  got_unlisted get.Held s made not = get_unlisted Held s made (λ e. held_zero e) (λ b. b.allowed.counted)
    where
      held_zero : Held ≡ Zero → ⊥
      held_zero e = cc
  got_unlisted get.Full s made not = get_unlisted Full s made (λ e. full_zero e) (λ b. b.allowed.counted)
    where
      full_zero : Full ≡ Zero → ⊥
      full_zero e = cc
  got_unlisted get.Zero s made not = absurd (not refl)
  got_unlisted (get.Raced n) s made not =
      let raced = made.1 in let zone = zone_of_boot t in
      let legal : IsLegalRun zone raced.loaded = subst (IsLegalRun zone) (take_length raced.loaded raced.meanwhile.rest)
      (legal_from zone (raced.loaded ++ raced.meanwhile.rest) (length raced.loaded) (subst (IsLegalRun zone) raced.meanwhile.is raced.legal)) in
      unlisted_at raced.loaded legal raced.before
      (word_lives (state_of zone raced.loaded) f (live_are_referenced zone raced.loaded legal f) raced.some raced.room)

  -- what a put says of the references that are left
  pub put_left : (n : ℕ) (s : KnownPasts) → CpuMakes t k.past (Put f) (Left n) s → IsUnlisted f c × (1 ≤ n) × (n < 255)
  put_left n s made =
      let b = behind (Put f) (Left n) s made in let u = state_of (zone_of_boot t) b.run in
      let count = b.allowed.counted.0 in let some = b.allowed.counted.1 in
      let is = live_are_referenced (zone_of_boot t) b.run b.legal f in
      let low : 1 ≤ live_references u f = omega (arith, count) in
      let high = (is.some (counted_lives u f is low)).1 in
      (counted_at (Put f) (Left n) b low, some, omega (arith, count, high))

  pub put_last : (s : KnownPasts) → CpuMakes t k.past (Put f) Last s → IsUnlisted f c
  put_last s made =
      let b = behind (Put f) Last s made in
      counted_at (Put f) Last b (let count = b.allowed.counted in omega (arith, count))

  -- a pinned frame is never answered Zero
  pub pinned_not_zero : (answer : gets.Get) (s : KnownPasts) → GetsReference t k.past f answer s → 1 ≤ times f c.pins → answer ≢ get.Zero
  pinned_not_zero get.Held s made some is = cc
  pinned_not_zero get.Full s made some is = cc
  pinned_not_zero (get.Raced n) s made some is = cc
  pinned_not_zero get.Zero s made some is =
      let none = never_zero t k.past f s knows.is.past made in
      let own = knows.own.references f in
      let here : (state_left t k).references (own_past k.past).number f ≡ (state_left t k).references c.number f =
      ap (λ q. (state_left t k).references q f) (sym knows.is.number ∙ knows.number) in
      absurd (omega (arith, none, own, here, some))
