-- A CPU's lists and pins after each of its steps without the lock.
use Rattle.std.proofs.Common.{◌≡◌, ◌≢◌, ℕ, ◌+◌, ◌-◌, ◌<◌, ◌≤◌, ◌==◌, List, [], ◌∷◌, ◌++◌, length, get_or, refl, sym, ap, ◌∙◌, arith, inr}
use Rattle.std.proofs.lemmas.Bool.{cond-false, ne_eqb}
use Rattle.std.specs.Prelude.{IsPermutation, remove}
use Rattle.step_rules.specs.declared.step.Action.TheVariants.{Get, Put, Consume, Credit}
use Rattle.step_rules.specs.declared.step.Answer.TheVariants.{Held, Left, Last, Took, Stocked}
use Rattle.step_rules.specs.{Part, front_of, with_at, with_last, without, times, after, credited, paid, with_back, seen_by}
use Rattle.step_rules.specs.State.{State}
use Rattle.step_rules.proofs.Basics.{at_each, at_same}
use Rattle.step_rules.proofs.Lists.{removed_once, times_same, times_other, times_last, without_front}
use Rattle.step_rules.proofs.CoverParts.{own_part, own_reference}
use Rattle.boot_words.specs.Sight.{HasSameLists}
use Rattle.cpu_part.specs.{KnownCpuLists, HasOwn}
use Rattle.cpu_part.proofs.Counts.{times_parted}

module _ (s : State) (c : KnownCpuLists) (own : HasOwn s c) where
  pub own_same : (u : State) → HasSameLists c.number s u → HasOwn u c
  own_same u same = record {
    list = same.list ∙ own.list;
    fresh = same.fresh ∙ own.fresh;
    back = same.back ∙ own.back;
    references = λ f. ap (λ (r : ℕ → ℕ). r f) same.references ∙ own.references f;
  }

  pub own_took : (g f : ℕ) (rest fresh : List ℕ) → c.list ≡ f ∷ rest → fresh ≡ c.fresh ++ f ∷ [] → times f c.list ≤ 1
      → HasOwn (after s c.number (Consume g) Took) (record c { list = rest; fresh = fresh })
  own_took g f rest fresh front end once =
      let here = at_same s.parts c.number (paid (s.parts c.number)) in
      let count = ap (times f) front in let t = times_same f in
      let none : times f rest ≡ 0 = omega (arith, count, t, once) in
      record {
        list = ap (λ (part : Part). part.list) here ∙ ap (λ (l : List ℕ). without (front_of l) l) (own.list ∙ front) ∙ without_front f (f ∷ rest) rest refl none;
        fresh = ap (λ (part : Part). part.fresh) here ∙ (λ i. with_last (own.fresh i) (front_of ((own.list ∙ front) i))) ∙ sym end;
        back = ap (λ (part : Part). part.back) here ∙ own.back;
        references = own.references;
      }

  pub own_credited : (f i drops : ℕ) (list fresh : List ℕ) → i < length c.fresh → get_or c.fresh i 0 ≡ f → list ≡ c.list ++ f ∷ [] → fresh ≡ remove c.fresh i
      → times f c.fresh ≤ 1 → HasOwn (after s c.number (Credit f) Stocked) (record c { list = list; fresh = fresh; drops = drops })
  own_credited f i drops list fresh inside is end left once =
      let here = at_same s.parts c.number (credited (s.parts c.number) f) in
      record {
        list = ap (λ (part : Part). part.list) here ∙ ap (λ (l : List ℕ). with_last l f) own.list ∙ sym end;
        fresh = ap (λ (part : Part). part.fresh) here ∙ ap (without f) own.fresh ∙ sym (removed_once f c.fresh i inside is once) ∙ sym left;
        back = ap (λ (part : Part). part.back) here ∙ own.back;
        references = own.references;
      }

  -- the references after those on one frame changed
  changed_references : (f n : ℕ) (pins : List ℕ) → n ≡ times f pins → ((m : ℕ) → f ≢ m → times m c.pins ≡ times m pins)
      → (m : ℕ) → with_at s.references c.number (with_at (s.references c.number) f n) c.number m ≡ times m pins
  changed_references f n pins here else m =
      ap (λ (r : ℕ → ℕ). r m) (at_same s.references c.number (with_at (s.references c.number) f n))
      ∙ at_each (s.references c.number) f n (λ k x. x ≡ times k pins) here (λ k ne. own.references k ∙ else k (λ e. ne (sym e))) m

  pub own_pinned : (f : ℕ) (pins : List ℕ) → pins ≡ c.pins ++ f ∷ [] → HasOwn (after s c.number (Get f) Held) (record c { pins = pins })
  own_pinned f pins end = record {
    list = own.list;
    fresh = own.fresh;
    back = own.back;
    references = changed_references f (s.references c.number f + 1) pins
        (let r = own.references f in let e = ap (times f) end ∙ times_last f f c.pins in let t = times_same f in omega (arith, r, e, t))
        (λ m ne. let e = ap (times m) end ∙ times_last m f c.pins in let t = times_other f m ne in omega (arith, e, t));
  }

  fewer : (f : ℕ) (pins : List ℕ) → IsPermutation c.pins (f ∷ pins)
      → (m : ℕ) → with_at s.references c.number (with_at (s.references c.number) f (s.references c.number f - 1)) c.number m ≡ times m pins
  fewer f pins parts = changed_references f (s.references c.number f - 1) pins
      (let r = own.references f in let e = times_parted f f c.pins pins parts in let t = times_same f in omega (arith, r, e, t))
      (λ m ne. let e = times_parted m f c.pins pins parts in let t = times_other f m ne in omega (arith, e, t))

  pub own_left : (f n : ℕ) (pins : List ℕ) → IsPermutation c.pins (f ∷ pins) → HasOwn (after s c.number (Put f) (Left n)) (record c { pins = pins })
  own_left f n pins parts = record { list = own.list; fresh = own.fresh; back = own.back; references = fewer f pins parts }

  pub own_last : (f : ℕ) (pins back : List ℕ) → c.number ≢ 0 → IsPermutation c.pins (f ∷ pins) → back ≡ c.back ++ f ∷ []
      → HasOwn (after s c.number (Put f) Last) (record c { back = back; pins = pins })
  own_last f pins back ne parts end =
      let q = c.number in
      let here : (after s q (Put f) Last).parts q ≡ with_back (s.parts q) f =
      ap (λ (parts : ℕ → Part). parts q) (cond-false (q == 0) s.parts (with_at s.parts q (with_back (s.parts q) f)) (ne_eqb q 0 ne))
      ∙ at_same s.parts q (with_back (s.parts q) f) in
      record {
        list = ap (λ (part : Part). part.list) here ∙ own.list;
        fresh = ap (λ (part : Part). part.fresh) here ∙ own.fresh;
        back = ap (λ (part : Part). part.back) here ∙ ap (λ (l : List ℕ). with_last l f) own.back ∙ sym end;
        references = fewer f pins parts;
      }

-- ---- what the CPU sees

module _ (s : State) (c : KnownCpuLists) where
  here : (seen_by c.number s).parts c.number ≡ s.parts c.number
  here = own_part c.number s.parts c.number refl

  pub own_unseen : HasOwn (seen_by c.number s) c → HasOwn s c
  own_unseen own = record {
    list = ap (λ (part : Part). part.list) (sym here) ∙ own.list;
    fresh = ap (λ (part : Part). part.fresh) (sym here) ∙ own.fresh;
    back = ap (λ (part : Part). part.back) (sym here) ∙ own.back;
    references = λ f. sym (own_reference c.number s.references c.number f (inr refl)) ∙ own.references f;
  }
