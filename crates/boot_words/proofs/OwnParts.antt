-- A CPU's lists and references after its step without the lock.
use Rattle.std.proofs.Common.{◌≡◌, ◌≢◌, ℕ, ◌+◌, ◌-◌, ◌==◌, ◌++◌, List, refl, ap, sym, ◌∙◌, subst}
use Rattle.std.proofs.lemmas.Bool.{cond-false, ne_eqb}
use Rattle.step_rules.specs.declared.step.Action.{Action}
use Rattle.step_rules.specs.declared.step.Action.TheVariants.{Get, Put, Consume, Credit}
use Rattle.step_rules.specs.declared.step.Answer.{Answer}
use Rattle.step_rules.specs.declared.step.Answer.TheVariants.{Held, Left, Last, Took, Stocked}
use Rattle.step_rules.specs.State.{State, Part, front_of, with_at, without, with_last}
use Rattle.step_rules.specs.After.{after, credited, paid, state_of, with_back}
use Rattle.step_rules.proofs.Basics.{at_same}
use Rattle.step_rules.proofs.Runs.{state_more}
use Rattle.boot_words.specs.{IsFast, HasSameLists, OwnPartFollows}
use Rattle.boot_words.proofs.Owning.{lists_are_own}

-- the references of the seat, after its references on one frame became those
own_references : (s t : State) (q f : ℕ) (change : ℕ → ℕ) → t.references q ≡ s.references q
    → with_at t.references q (with_at (t.references q) f (change (t.references q f))) q ≡ with_at s.references q (with_at (s.references q) f (change (s.references q f))) q
own_references s t q f change same =
    at_same t.references q (with_at (t.references q) f (change (t.references q f)))
    ∙ ap (λ (r : ℕ → ℕ). with_at r f (change (r f))) same
    ∙ sym (at_same s.references q (with_at (s.references q) f (change (s.references q f))))

-- a part of the two states, after the seat's own part became that
own_part : {X : Type 0} (s t : State) (q : ℕ) (change : Part → Part) (part_of : Part → X) → part_of (change (t.parts q)) ≡ part_of (change (s.parts q))
    → part_of (with_at t.parts q (change (t.parts q)) q) ≡ part_of (with_at s.parts q (change (s.parts q)) q)
own_part s t q change part_of same = ap part_of (at_same t.parts q (change (t.parts q))) ∙ same ∙ sym (ap part_of (at_same s.parts q (change (s.parts q))))

-- the part of a CPU, after its last put
last_part : {X : Type 0} (s t : State) (q f : ℕ) (part_of : Part → X) → q ≢ 0 → part_of (with_back (t.parts q) f) ≡ part_of (with_back (s.parts q) f)
    → part_of ((after t q (Put f) Last).parts q) ≡ part_of ((after s q (Put f) Last).parts q)
last_part s t q f part_of ne same =
    let of_cpu : (u : State) → (after u q (Put f) Last).parts q ≡ with_back (u.parts q) f =
    λ u. ap (λ (parts : ℕ → Part). parts q) (cond-false (q == 0) u.parts (with_at u.parts q (with_back (u.parts q) f)) (ne_eqb q 0 ne))
    ∙ at_same u.parts q (with_back (u.parts q) f) in
    ap part_of (of_cpu t) ∙ same ∙ sym (ap part_of (of_cpu s))

after_same : (s t : State) (q : ℕ) (action : Action) (answer : Answer) → q ≢ 0 → IsFast action → HasSameLists q s t
    → HasSameLists q (after s q action answer) (after t q action answer)
after_same s t q (Get f) Held ne fast same = record {
  list = same.list;
  fresh = same.fresh;
  back = same.back;
  references = own_references s t q f (λ n. n + 1) same.references;
}
after_same s t q (Put f) (Left n) ne fast same = record {
  list = same.list;
  fresh = same.fresh;
  back = same.back;
  references = own_references s t q f (λ n. n - 1) same.references;
}
after_same s t q (Put f) Last ne fast same = record {
  list = last_part s t q f (λ part. part.list) ne same.list;
  fresh = last_part s t q f (λ part. part.fresh) ne same.fresh;
  back = last_part s t q f (λ part. part.back) ne (ap (λ (l : List ℕ). with_last l f) same.back);
  references = own_references s t q f (λ n. n - 1) same.references;
}
after_same s t q (Consume g) Took ne fast same = record {
  list = own_part s t q paid (λ part. part.list) (ap (λ (l : List ℕ). without (front_of l) l) same.list);
  fresh = own_part s t q paid (λ part. part.fresh) (λ i. with_last (same.fresh i) (front_of (same.list i)));
  back = own_part s t q paid (λ part. part.back) same.back;
  references = same.references;
}
after_same s t q (Credit f) Stocked ne fast same = record {
  list = own_part s t q (λ part. credited part f) (λ part. part.list) (ap (λ (l : List ℕ). with_last l f) same.list);
  fresh = own_part s t q (λ part. credited part f) (λ part. part.fresh) (ap (without f) same.fresh);
  back = own_part s t q (λ part. credited part f) (λ part. part.back) same.back;
  references = same.references;
}
after_same s t q (Get f) answer ne fast same = same
after_same s t q (Put f) answer ne fast same = same
after_same s t q (Consume g) answer ne fast same = same
after_same s t q (Credit f) answer ne fast same = same
after_same s t q action answer ne fast same = absurd fast

pub own_part_follows : OwnPartFollows
own_part_follows zone p action answer later ne fast grew =
    let behind = p.seen ++ grew.between in
    let same = lists_are_own zone p.seen behind p.number ne (record { rest = grew.between; is = refl; others = grew.others }) in
    let more = ap (state_of zone) grew.seen ∙ state_more zone behind (record { seat = p.number; action = action }) answer in
    subst (HasSameLists p.number (after (state_of zone p.seen) p.number action answer)) (sym more)
    (after_same (state_of zone p.seen) (state_of zone behind) p.number action answer ne fast same)
