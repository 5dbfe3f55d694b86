-- A stock that was never filled has no book, and a drained one has no page. Serves `keepers_are_there`.
use Rattle.std.proofs.Common.{◌≡◌, ℕ, ◌==◌, Bool, true, false, Option, None, refl, sym, ◌∙◌, ap, subst, arith, inl, inr, cond, eq-eqb}
use Rattle.std.specs.Prelude.{is_some}
use Rattle.std.proofs.lemmas.Bool.{cases_eq, ne_eqb, false≢true, true≢false}
use Rattle.step_rules.specs.declared.step.Action.{Action}
use Rattle.step_rules.specs.declared.step.Action.TheVariants.{Lock, Put, TakeIn, PassBack, Consume, Credit, Report, Absorb, Fill, DrainStock}
use Rattle.step_rules.specs.declared.step.Answer.{Answer}
use Rattle.step_rules.specs.declared.step.Answer.TheVariants.{Illegal, Done, Last, Took, Stocked, Pages}
use Rattle.step_rules.specs.{Zone, Part, with_at, IsMade, Run, after, state_of, IsLegalRun, with_back, without_frame, paid, credited, filled, drained}
use Rattle.step_rules.specs.State.{State}
use Rattle.step_rules.proofs.PhaseLemmas.{none_some}
use Rattle.step_rules.proofs.LocalLaws.{no_illegal}
use Rattle.step_rules.proofs.Telling.{told_run}

pub record FitsStock (part : Part) : Type 0 where
  pub book : part.stock.group ≡ None → part.book ≡ 0
  pub mark : part.stock.group ≡ None → part.stock.is_drained ≡ false
  pub none : part.stock.is_drained ≡ true → part.stock.pages ≡ 0

fits_at : (parts : ℕ → Part) (p k : ℕ) (part : Part) → FitsStock (parts p) → (FitsStock (parts k) → FitsStock part) → FitsStock (with_at parts k part p)
fits_at parts p k part fits change = elim (cases_eq p k) [
  | inl same ↦ rw (eq-eqb p k same) (change (subst (λ (n : ℕ). FitsStock (parts n)) same fits))
  | inr ne ↦ rw (ne_eqb p k ne) fits
]

-- the stock and the book are the same
fits_same : (old new : Part) → new.stock ≡ old.stock → new.book ≡ old.book → FitsStock old → FitsStock new
fits_same old new stock book fits = record {
  book = λ e. book ∙ fits.book (sym (ap (λ st. st.group) stock) ∙ e);
  mark = λ e. ap (λ st. st.is_drained) stock ∙ fits.mark (sym (ap (λ st. st.group) stock) ∙ e);
  none = λ e. ap (λ st. st.pages) stock ∙ fits.none (sym (ap (λ st. st.is_drained) stock) ∙ e);
}

abbrev Fits : ℕ → State → ℕ → Type 0
Fits p s x = FitsStock (s.parts p)

no_mark : (o : Option ℕ) → o ≡ None → is_some o ≡ false
no_mark o e = ap is_some e

fits_made : (p : ℕ) (s : State) (x seat : ℕ) (action : Action) (answer : Answer) → Fits p s x → IsMade s seat action answer →
    Fits p (after s seat action answer) x
fits_made p s x seat action Illegal fits made = absurd (no_illegal s seat action made.answered)
fits_made p s x seat (Put f) Last fits made = by_seat (seat == 0)
  where
    by_seat : (b : Bool) → FitsStock (cond b s.parts (with_at s.parts seat (with_back (s.parts seat) f)) p)
    by_seat true = fits
    by_seat false = fits_at s.parts p seat (with_back (s.parts seat) f) fits (fits_same (s.parts seat) (with_back (s.parts seat) f) refl refl)
fits_made p s x seat (TakeIn f) Done fits made = fits_at s.parts p seat _ fits (fits_same (s.parts seat) _ refl refl)
fits_made p s x seat (PassBack f) Done fits made =
    fits_at s.parts p seat (without_frame (s.parts seat) (s.phases f) seat f) fits
    (fits_same (s.parts seat) (without_frame (s.parts seat) (s.phases f) seat f) refl refl)
fits_made p s x seat (Consume g) Took fits made = fits_at s.parts p seat (paid (s.parts seat)) fits (λ old. record {
  book = old.book;
  mark = old.mark;
  none = λ e. let a = old.none e in omega arith;
})
fits_made p s x seat (Credit f) Stocked fits made = fits_at s.parts p seat (credited (s.parts seat) f) fits (λ old. record {
  book = old.book;
  mark = old.mark;
  none = λ e. absurd (true≢false (sym e ∙ made.answered));
})
fits_made p s x seat (Report n) Done fits made = fits_at s.parts p seat _ fits (fits_same (s.parts seat) _ refl refl)
fits_made p s x seat (Absorb q) (Pages n) fits made = fits_at s.parts p q _ fits (λ old. record {
  book = λ e. let a = old.book e in omega arith;
  mark = old.mark;
  none = old.none;
})
fits_made p s x seat (Fill q g n) Done fits made = fits_at s.parts p q (filled (s.parts q) g n) fits (λ old. record {
  book = λ e. absurd (none_some g (sym e));
  mark = λ e. refl;
  none = λ e. absurd (false≢true e);
})
fits_made p s x seat (DrainStock q) (Pages n) fits made = fits_at s.parts p q (drained (s.parts q) n) fits (λ old. record {
  book = λ e. let a = old.book e in omega arith;
  mark = λ e. no_mark (s.parts q).stock.group e;
  none = λ e. let all = made.counted in omega arith;
})
fits_made p s x seat Lock answer fits made = fits
fits_made p s x seat action answer fits made = fits

pub stocks_fit : (zone : Zone) (run : Run) → IsLegalRun zone run → (p : ℕ) → FitsStock ((state_of zone run).parts p)
stocks_fit zone run legal p =
    told_run (λ x seat action answer. x) (Fits p) (λ x seat action. refl) (λ s x seat action answer sound. fits_made p s x seat action answer) zone 0
    (record { book = λ e. refl; mark = λ e. refl; none = λ e. refl }) run legal
