-- A CPU's lists and references change by its own steps alone.
use Rattle.std.proofs.Common.{[], ◌≡◌, ◌≢◌, ℕ, ◌==◌, Bool, true, false, ◌∷◌, ◌++◌, List, refl, sym, ap, ◌∙◌, cond}
use Rattle.std.specs.List.{fold}
use Rattle.step_rules.specs.declared.step.Action.{Action}
use Rattle.step_rules.specs.declared.step.Action.TheVariants.{Lock, Get, Put, Freeze, Unfreeze, TakeIn, PassBack, Consume, Credit, Report, Absorb, Fill, DrainStock}
use Rattle.step_rules.specs.declared.step.Answer.{Answer}
use Rattle.step_rules.specs.declared.step.Answer.TheVariants.{Illegal, Done, Held, Left, Last, Took, Stocked, Pages}
use Rattle.step_rules.specs.State.{Zone, State, Part, with_at, at_boot}
use Rattle.step_rules.specs.After.{Run, after, state_of, with_back, absorbed, filled, drained}
use Rattle.step_rules.proofs.Basics.{at_other, at_each}
use Rattle.step_rules.proofs.Runs.{next, after_illegal}
use Rattle.boot_words.specs.{HasNoStepOf, OthersFollow, ListsAreOwn}

-- the lists of a part
abbrev pub lists_in : Part → List ℕ × (List ℕ × List ℕ)
lists_in part = (part.list, (part.fresh, part.back))

changed_at : (parts : ℕ → Part) (r : ℕ) (part : Part) (p : ℕ) → lists_in part ≡ lists_in (parts r) → lists_in (with_at parts r part p) ≡ lists_in (parts p)
changed_at parts r part p same = at_each parts r part (λ k x. lists_in x ≡ lists_in (parts k)) same (λ k ne. refl) p

-- another seat's step leaves the CPU's lists and references
pub own_keeps : (s : State) (q p : ℕ) (action : Action) (answer : Answer) → p ≢ 0 → q ≢ p
    → (lists_in ((after s q action answer).parts p) ≡ lists_in (s.parts p)) × ((after s q action answer).references p ≡ s.references p)
own_keeps s q p action Illegal zone ne =
    let none = after_illegal s q action in (ap (λ (t : State). lists_in (t.parts p)) none, ap (λ (t : State). t.references p) none)
own_keeps s q p (Get f) Held zone ne = (refl, at_other s.references q _ p (λ e. ne (sym e)))
own_keeps s q p (Put f) (Left n) zone ne = (refl, at_other s.references q _ p (λ e. ne (sym e)))
own_keeps s q p (Put f) Last zone ne = (by_seat (q == 0), at_other s.references q _ p (λ e. ne (sym e)))
  where
    by_seat : (b : Bool) → lists_in ((cond b s.parts (with_at s.parts q (with_back (s.parts q) f))) p) ≡ lists_in (s.parts p)
    by_seat true = refl
    by_seat false = ap lists_in (at_other s.parts q _ p (λ e. ne (sym e)))
own_keeps s q p (Freeze f n) Done zone ne = (refl, at_other s.references 0 _ p zone)
own_keeps s q p (Unfreeze f n) Done zone ne = (refl, at_other s.references 0 _ p zone)
own_keeps s q p (TakeIn f) Done zone ne = (ap lists_in (at_other s.parts q _ p (λ e. ne (sym e))), refl)
own_keeps s q p (PassBack f) Done zone ne = (ap lists_in (at_other s.parts q _ p (λ e. ne (sym e))), refl)
own_keeps s q p (Consume g) Took zone ne = (ap lists_in (at_other s.parts q _ p (λ e. ne (sym e))), refl)
own_keeps s q p (Credit f) Stocked zone ne = (ap lists_in (at_other s.parts q _ p (λ e. ne (sym e))), refl)
own_keeps s q p (Report n) Done zone ne = (ap lists_in (at_other s.parts q _ p (λ e. ne (sym e))), refl)
own_keeps s q p (Absorb r) (Pages n) zone ne = (changed_at s.parts r (absorbed (s.parts r) n) p refl, refl)
own_keeps s q p (Fill r g n) Done zone ne = (changed_at s.parts r (filled (s.parts r) g n) p refl, refl)
own_keeps s q p (DrainStock r) (Pages n) zone ne = (changed_at s.parts r (drained (s.parts r) n) p refl, refl)
own_keeps s q p Lock answer zone ne = (refl, refl)
own_keeps s q p action answer zone ne = (refl, refl)

rest_keeps : {X : Type 0} (p : ℕ) (T : State → X) → ((s : State) (q : ℕ) (action : Action) (answer : Answer) → q ≢ p → T (after s q action answer) ≡ T s)
    → (s : State) (rest : Run) → HasNoStepOf p rest → T (fold next s rest) ≡ T s
rest_keeps p T keep s [] none = refl
rest_keeps p T keep s (e ∷ es) none = rest_keeps p T keep (next s e) es none.1 ∙ keep s e.0.seat e.0.action e.1 none.0

pub fold_on : (s : State) (xs ys : Run) → fold next s (xs ++ ys) ≡ fold next (fold next s xs) ys
fold_on s [] ys = refl
fold_on s (x ∷ xs) ys = fold_on (next s x) xs ys

-- what no other seat's step changes is that of the seat's last step
pub others_keep : {X : Type 0} (p : ℕ) (T : State → X) → ((s : State) (q : ℕ) (action : Action) (answer : Answer) → q ≢ p → T (after s q action answer) ≡ T s)
    → (zone : Zone) (seen run : Run) → OthersFollow p seen run → T (state_of zone run) ≡ T (state_of zone seen)
others_keep p T keep zone seen run goes =
    ap (λ r. T (state_of zone r)) goes.is ∙ ap T (fold_on (at_boot zone) seen goes.rest)
    ∙ rest_keeps p T keep (state_of zone seen) goes.rest goes.others

pub lists_are_own : ListsAreOwn
lists_are_own zone seen run cpu ne goes =
    let lists = others_keep cpu (λ s. lists_in (s.parts cpu)) (λ s q action answer other. (own_keeps s q cpu action answer ne other).0) zone seen run goes in
    record {
      list = ap (λ x. x.0) lists;
      fresh = ap (λ x. x.1.0) lists;
      back = ap (λ x. x.1.1) lists;
      references = others_keep cpu (λ s. s.references cpu) (λ s q action answer other. (own_keeps s q cpu action answer ne other).1) zone seen run goes;
    }
