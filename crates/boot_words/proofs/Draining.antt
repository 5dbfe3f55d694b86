-- A CPU's stock changes by its own steps, by fills and absorbs, and by drains.
use Rattle.std.proofs.Common.{[], ◌≡◌, ◌≢◌, ℕ, ◌-◌, ◌==◌, Bool, true, false, ◌∷◌, ◌++◌, suc, zero, refl, sym, ◌∙◌, ap, subst, arith, inl, inr, cond, eq-eqb}
use Rattle.std.specs.Prelude.{is_some}
use Rattle.std.specs.List.{fold}
use Rattle.std.proofs.lemmas.Bool.{true≢false}
use Rattle.step_rules.specs.declared.step.Action.{Action}
use Rattle.step_rules.specs.declared.step.Action.TheVariants.{Lock, Put, TakeIn, PassBack, Consume, Credit, Report, Absorb, Fill, DrainStock}
use Rattle.step_rules.specs.declared.step.Answer.{Answer}
use Rattle.step_rules.specs.declared.step.Answer.TheVariants.{Illegal, Done, Last, Took, Stocked, Pages}
use Rattle.step_rules.specs.State.{State}
use Rattle.step_rules.specs.{Part, with_at, at_boot, Allows, IsMade, Run, after, state_of, with_back, drained}
use Rattle.step_rules.proofs.Basics.{at_other, at_each}
use Rattle.step_rules.proofs.LocalLaws.{no_illegal}
use Rattle.step_rules.proofs.Runs.{next, after_illegal, allowed, IsLegalFrom}
use Rattle.boot_words.specs.{HasNoStepOf, BooksNothingOf, books, HasSameOrDrained, StocksAreOwn}
use Rattle.boot_words.proofs.Owning.{fold_on}

pub same_part : (a b : Part) → b ≡ a → HasSameOrDrained a b
same_part a b e = record {
  group = ap (λ (x : Part). x.stock.group) e;
  unreported = ap (λ (x : Part). x.unreported) e;
  reported = ap (λ (x : Part). x.reported) e;
  stock = inl (ap (λ (x : Part). x.stock) e);
}

none_left : (n m : ℕ) → n ≡ m → m - n ≡ 0
none_left n m e = omega arith

-- a drain of some CPU
drained_at : (s : State) (r n p : ℕ) → n ≡ (s.parts r).stock.pages → HasSameOrDrained (s.parts p) (with_at s.parts r (drained (s.parts r) n) p)
drained_at s r n p all =
    at_each s.parts r (drained (s.parts r) n) (λ k x. HasSameOrDrained (s.parts k) x) (record {
      group = refl;
      unreported = refl;
      reported = refl;
      stock = inr (none_left n (s.parts r).stock.pages all, refl);
    }) (λ k ne. same_part (s.parts k) (s.parts k) refl) p

-- a step that books for another CPU leaves this one's part
other_booked : (s : State) (r p : ℕ) (part : Part) → (r == p) ≡ false → with_at s.parts r part p ≡ s.parts p
other_booked s r p part other = at_other s.parts r part p (λ e. true≢false (sym (eq-eqb r p (sym e)) ∙ other))

pub stock_step : (s : State) (q p : ℕ) (action : Action) (answer : Answer) → q ≢ p → books p action ≡ false → IsMade s q action answer
    → HasSameOrDrained (s.parts p) ((after s q action answer).parts p)
stock_step s q p action Illegal ne other made = absurd (no_illegal s q action made.answered)
stock_step s q p (Put f) Last ne other made = by_seat (q == 0)
  where
    by_seat : (b : Bool) → HasSameOrDrained (s.parts p) (cond b s.parts (with_at s.parts q (with_back (s.parts q) f)) p)
    by_seat true = same_part _ _ refl
    by_seat false = same_part _ _ (at_other s.parts q _ p (λ e. ne (sym e)))
stock_step s q p (TakeIn f) Done ne other made = same_part _ _ (at_other s.parts q _ p (λ e. ne (sym e)))
stock_step s q p (PassBack f) Done ne other made = same_part _ _ (at_other s.parts q _ p (λ e. ne (sym e)))
stock_step s q p (Consume g) Took ne other made = same_part _ _ (at_other s.parts q _ p (λ e. ne (sym e)))
stock_step s q p (Credit f) Stocked ne other made = same_part _ _ (at_other s.parts q _ p (λ e. ne (sym e)))
stock_step s q p (Report n) Done ne other made = same_part _ _ (at_other s.parts q _ p (λ e. ne (sym e)))
stock_step s q p (Absorb r) (Pages n) ne other made = same_part _ _ (other_booked s r p _ other)
stock_step s q p (Fill r g n) Done ne other made = same_part _ _ (other_booked s r p _ other)
stock_step s q p (DrainStock r) (Pages n) ne other made = drained_at s r n p made.counted
stock_step s q p Lock answer ne other made = same_part _ _ refl
stock_step s q p action answer ne other made = same_part _ _ refl

pub drained_twice : (a b c : Part) → HasSameOrDrained a b → HasSameOrDrained b c → HasSameOrDrained a c
drained_twice a b c first second = record {
  group = second.group ∙ first.group;
  unreported = second.unreported ∙ first.unreported;
  reported = second.reported ∙ first.reported;
  stock = elim second.stock [
    | inl same ↦ elim first.stock [
      | inl before ↦ inl (same ∙ before)
      | inr gone ↦ inr (ap (λ st. st.pages) same ∙ gone.0, ap (λ st. st.is_drained) same ∙ gone.1)
    ]
    | inr gone ↦ inr (gone.0, gone.1 ∙ ap is_some first.group)
  ];
}

stock_one : (s : State) (q p : ℕ) (action : Action) (answer : Answer) → q ≢ p → books p action ≡ false → Allows s q action answer
    → HasSameOrDrained (s.parts p) ((after s q action answer).parts p)
stock_one s q p action answer ne other ok = elim (allowed s q action answer ok) [
  | inl illegal ↦ same_part _ _ (ap (λ (t : State). t.parts p) (ap (after s q action) illegal ∙ after_illegal s q action))
  | inr made ↦ stock_step s q p action answer ne other made
]

stock_rest : (s : State) (p : ℕ) (rest : Run) → IsLegalFrom s rest → HasNoStepOf p rest → BooksNothingOf p rest
    → HasSameOrDrained (s.parts p) ((fold next s rest).parts p)
stock_rest s p [] legal none other = same_part _ _ refl
stock_rest s p (e ∷ rest) legal none other =
    drained_twice _ _ _ (stock_one s e.0.seat p e.0.action e.1 none.0 other.0 (legal zero))
    (stock_rest (next s e) p rest (λ k. legal (suc k)) none.1 other.1)

pub legal_behind : (s : State) (xs ys : Run) → IsLegalFrom s (xs ++ ys) → IsLegalFrom (fold next s xs) ys
legal_behind s [] ys legal = legal
legal_behind s (x ∷ xs) ys legal = legal_behind (next s x) xs ys (λ k. legal (suc k))

pub stocks_are_own : StocksAreOwn
stocks_are_own zone seen rest cpu legal none other =
    subst (λ (t : State). HasSameOrDrained ((state_of zone seen).parts cpu) (t.parts cpu)) (sym (fold_on (at_boot zone) seen rest))
    (stock_rest (state_of zone seen) cpu rest (legal_behind (at_boot zone) seen rest legal) none other)
