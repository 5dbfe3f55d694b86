-- What a CPU knows of its own part: its frames are the table's, which of its steps without the lock are legal, and that it
-- knows its part after each.
use Rattle.std.proofs.Common.{◌≡◌, ◌≢◌, ℕ, ◌+◌, ◌<◌, ◌≤◌, ◌&&◌, Bool, true, false, List, [], ◌∷◌, ◌++◌, length, get_or, refl, sym, ◌∙◌, subst, arith}
use Rattle.std.proofs.lemmas.Bool.{le-leb}
use Rattle.std.specs.Prelude.{IsPermutation, MatchBool, remove}
use Rattle.frame_word.specs.declared.answers.Get as gets
use Rattle.frame_word.specs.declared.answers.Get.TheVariants as get
use Rattle.stock_word.specs.declared.stock.Stock.TheVariants.{HeldBy}
use Rattle.stock_word.specs.Stock.{drained_of, is_held}
use Rattle.step_rules.specs.declared.step.Action.{Action}
use Rattle.step_rules.specs.declared.step.Action.TheVariants.{Get, Put, Consume, Credit}
use Rattle.step_rules.specs.declared.step.Answer.{Answer}
use Rattle.step_rules.specs.declared.step.Answer.TheVariants.{Drained, Full, Held, Left, Last, Took, Stocked, Zero}
use Rattle.step_rules.specs.{KeepsInvariant, is_legal, Zone, is_cpu, times, after}
use Rattle.step_rules.specs.State.{State}
use Rattle.step_rules.proofs.Freeing.{zone_of_run}
use Rattle.step_rules.proofs.Runs.{sound_run}
use Rattle.boot_words.specs.{IsFast, HasSameLists, MayDo, own_past, zone_of_boot, CpuMakes, GetsReference, Exchanges, IsAwayCpu, KnownCpuSeat}
use Rattle.boot_words.specs.{state_left, KnownTable}
use Rattle.boot_words.proofs.OwnParts.{own_part_follows}
use Rattle.cpu_part.specs.{KnownCpuLists, HasOwn, KnowsItsPart}
use Rattle.cpu_part.proofs.Legal.{fresh_once, legal_consume, legal_credit, legal_get, legal_put, list_inside, listed_once, pin_inside}
use Rattle.cpu_part.proofs.Owning.{own_credited, own_last, own_left, own_pinned, own_same, own_took}

not_zone : (q : ℕ) → 1 ≤ q → q ≢ 0
not_zone q low e = absurd (omega (arith, low, e))

module _ (t : KnownTable) (k : KnownCpuSeat) (c : KnownCpuLists) (knows : KnowsItsPart t k c) where
  sound : KeepsInvariant (state_left t k)
  sound = sound_run (zone_of_boot t) (own_past k.past).seen knows.is.past.legal

  zone_is : (state_left t k).zone ≡ zone_of_boot t
  zone_is = zone_of_run (zone_of_boot t) (own_past k.past).seen

  -- the number of its past
  number_is : c.number ≡ (own_past k.past).number
  number_is = sym knows.number ∙ knows.is.number

  pub not_the_zone : c.number ≢ 0
  not_the_zone none = not_zone (own_past k.past).number knows.is.past.low (sym number_is ∙ none)

  a_cpu : is_cpu (state_left t k).zone c.number ≡ true
  a_cpu = let is = knows.is.past in let q = (own_past k.past).number in
      (λ i. is_cpu (zone_is i) (number_is i)) ∙ (λ i. le-leb 1 q is.low i && le-leb q t.cpus is.high i)

  -- ---- its frames are of the table

  in_table : (f : ℕ) → f < (state_left t k).zone.frames → f < t.frames
  in_table f inside = subst (λ (z : Zone). f < z.frames) zone_is inside

  pub front_inside : (f : ℕ) → 1 ≤ times f c.list → f < t.frames
  front_inside f some = in_table f (list_inside (state_left t k) sound c knows.own f some)

  pub pinned_inside : (f : ℕ) → 1 ≤ times f c.pins → f < t.frames
  pinned_inside f some = in_table f (pin_inside (state_left t k) sound c knows.own f some)

  -- ---- which steps are legal after its past

  may : (action : Action) → is_legal (state_left t k) c.number action ≡ true → MayDo t k.past action
  may action legal = subst (λ (q : ℕ). is_legal (state_left t k) q action ≡ true) number_is legal

  pub may_consume : (g : ℕ) → 1 ≤ length c.list → length c.fresh < 32 → MayDo t k.past (Consume g)
  may_consume g some short = may (Consume g) (legal_consume (state_left t k) sound c knows.own a_cpu g some short)

  pub may_credit : (f : ℕ) → 1 ≤ times f c.fresh → MayDo t k.past (Credit f)
  may_credit f some = may (Credit f) (legal_credit (state_left t k) sound c knows.own a_cpu f some)

  pub may_put : (f : ℕ) → 1 ≤ times f c.pins → MayDo t k.past (Put f)
  may_put f some = may (Put f) (legal_put (state_left t k) sound c knows.own a_cpu f some)

  pub may_get : (f : ℕ) → f < t.frames → length c.back + length c.pins < 256 → MayDo t k.past (Get f)
  may_get f inside room =
      may (Get f) (legal_get (state_left t k) sound c knows.own a_cpu f (subst (λ (z : Zone). f < z.frames) (sym zone_is) inside) room)

  -- ---- what it knows after each step

  -- it made the step, and its lists are what the step makes of them, whatever others did before
  knows_after : (l : KnownCpuSeat) (d : KnownCpuLists) (action : Action) (answer : Answer) → IsFast action → IsAwayCpu t l → l.number ≡ k.number
      → d.number ≡ c.number → CpuMakes t k.past action answer l.past → HasOwn (after (state_left t k) c.number action answer) d → KnowsItsPart t l d
  knows_after l d action answer fast is number same makes own =
      let q = (own_past k.past).number in
      let follows : HasSameLists d.number (after (state_left t k) c.number action answer) (state_left t l) =
      subst (λ (p : ℕ × ℕ). HasSameLists p.0 (after (state_left t k) p.1 action answer) (state_left t l)) (λ i. (sym (same ∙ number_is) i, sym number_is i))
      (own_part_follows (zone_of_boot t) (own_past k.past) action answer (own_past l.past) (not_zone q knows.is.past.low) fast makes.grew) in
      record {
        is = is;
        number = number ∙ knows.number ∙ sym same;
        own = own_same (after (state_left t k) c.number action answer) d own (state_left t l) follows;
      }

  pub knows_same : (l : KnownCpuSeat) → l ≡ k → KnowsItsPart t l c
  knows_same l same = subst (λ (x : KnownCpuSeat). KnowsItsPart t x c) (sym same) knows

  pub knows_took : (g f n : ℕ) (rest fresh : List ℕ) (l : KnownCpuSeat) → Exchanges t k (Consume g) Took (HeldBy g n) l → c.list ≡ f ∷ rest → fresh ≡ c.fresh ++ f ∷ []
      → KnowsItsPart t l (record c { list = rest; fresh = fresh })
  knows_took g f n rest fresh l made front end =
      knows_after l (record c { list = rest; fresh = fresh }) (Consume g) Took tt made.is made.number refl made.makes
      (own_took (state_left t k) c knows.own g f rest fresh front end (listed_once (state_left t k) sound c knows.own f))

  pub knows_listed : (f g n i drops : ℕ) (list fresh : List ℕ) (l : KnownCpuSeat) → Exchanges t k (Credit f) Stocked (HeldBy g n) l → i < length c.fresh
      → get_or c.fresh i 0 ≡ f → list ≡ c.list ++ f ∷ [] → fresh ≡ remove c.fresh i → KnowsItsPart t l (record c { list = list; fresh = fresh; drops = drops })
  knows_listed f g n i drops list fresh l made inside is end left =
      knows_after l (record c { list = list; fresh = fresh; drops = drops }) (Credit f) Stocked tt made.is made.number refl made.makes
      (own_credited (state_left t k) c knows.own f i drops list fresh inside is end left
      (fresh_once (state_left t k) sound c knows.own f))

  -- the stock was found drained now or before
  pub knows_drained : (action : Action) (l : KnownCpuSeat) → IsFast action → ((s : State) (q : ℕ) → after s q action Drained ≡ s)
      → MatchBool (is_held k.last) (Exchanges t k action Drained (drained_of k.last) l) (l ≡ k) → KnowsItsPart t l c
  knows_drained action l fast stays told = by (is_held k.last) told
    where
      by : (b : Bool) → MatchBool b (Exchanges t k action Drained (drained_of k.last) l) (l ≡ k) → KnowsItsPart t l c
      by true made = knows_after l c action Drained fast made.is made.number refl made.makes
          (subst (λ (s : State). HasOwn s c) (sym (stays (state_left t k) c.number)) knows.own)
      by false same = knows_same l same

  module _ (l : KnownCpuSeat) (is : IsAwayCpu t l) (number : l.number ≡ k.number) where
    pub knows_held : (f : ℕ) (pins : List ℕ) → CpuMakes t k.past (Get f) Held l.past → pins ≡ c.pins ++ f ∷ [] → KnowsItsPart t l (record c { pins = pins })
    knows_held f pins makes end = knows_after l (record c { pins = pins }) (Get f) Held tt is number refl makes (own_pinned (state_left t k) c knows.own f pins end)

    pub knows_not_held : (f : ℕ) (answer : gets.Get) → l.last ≡ k.last → answer ≢ get.Held → GetsReference t k.past f answer l.past → KnowsItsPart t l c
    knows_not_held f get.Held last not makes = absurd (not refl)
    knows_not_held f get.Zero last not makes = knows_after l c (Get f) Zero tt is number refl makes knows.own
    knows_not_held f get.Full last not makes = knows_after l c (Get f) Full tt is number refl makes knows.own
    knows_not_held f (get.Raced n) last not raced = knows_same l (λ i. record { past = raced.0 i; number = number i; last = last i })

    pub knows_left : (f n : ℕ) (pins : List ℕ) → CpuMakes t k.past (Put f) (Left n) l.past → IsPermutation c.pins (f ∷ pins)
        → KnowsItsPart t l (record c { pins = pins })
    knows_left f n pins makes parts =
        knows_after l (record c { pins = pins }) (Put f) (Left n) tt is number refl makes (own_left (state_left t k) c knows.own f n pins parts)

    pub knows_last : (f : ℕ) (pins back : List ℕ) → CpuMakes t k.past (Put f) Last l.past → IsPermutation c.pins (f ∷ pins) → back ≡ c.back ++ f ∷ []
        → KnowsItsPart t l (record c { back = back; pins = pins })
    knows_last f pins back makes parts end =
        knows_after l (record c { back = back; pins = pins }) (Put f) Last tt is number refl makes
        (own_last (state_left t k) c knows.own f pins back not_the_zone parts end)
