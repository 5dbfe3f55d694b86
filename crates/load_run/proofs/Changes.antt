-- The changes of a seat in a run, and how they grow with its past.
use Rattle.std.proofs.Common.{◌≡◌, ◌∙◌, ℕ, ◌==◌, ◌&&◌, Bool, true, false, [], ◌∷◌, ◌++◌, cond, refl, ap, sym, subst, inl, inr, append-nil, append_assoc}
use Rattle.std.specs.Prelude.{not}
use Rattle.std.proofs.lemmas.Bool.{ne_eqb}
use Rattle.std.proofs.lemmas.List.Elements.{filter-append}
use Rattle.step_rules.specs.declared.step.Step.{Step}
use Rattle.step_rules.specs.declared.step.Answer.{Answer}
use Rattle.step_rules.specs.After.{Run}
use Rattle.boot_words.specs.{AreChangesOf, GrewByAll, SeesMore, changes_nothing, HasNoStepOf, OthersFollow}
use Rattle.boot_words.specs.declared.past.Past.{Past}
use Rattle.mem_system.proofs.Mixed.{AreBehindOthers, gained}
use Rattle.load_run.specs.Survey.{ChangesFollow, changes_by}

-- the step is a change of the seat
abbrev pub is_change : ℕ → Step × Answer → Bool
is_change seat e = e.0.seat == seat && not (changes_nothing e.1)

changes_both : (seat : ℕ) (xs ys : Run) → changes_by seat (xs ++ ys) ≡ changes_by seat xs ++ changes_by seat ys
changes_both seat xs ys = filter-append (is_change seat) xs ys

-- a step that is no change of the seat
not_one : (seat : ℕ) (e : Step × Answer) (run : Run) → is_change seat e ≡ false → changes_by seat (e ∷ run) ≡ changes_by seat run
not_one seat e run out = ap (λ (b : Bool). cond b (e ∷ changes_by seat run) (changes_by seat run)) out

and_false : (b : Bool) → (b && false) ≡ false
and_false true = refl
and_false false = refl

no_change : (seat : ℕ) (run : Run) → HasNoStepOf seat run → changes_by seat run ≡ []
no_change seat [] none = refl
no_change seat (e ∷ run) none =
    not_one seat e run (ap (λ (b : Bool). b && not (changes_nothing e.1)) (ne_eqb e.0.seat seat none.0)) ∙ no_change seat run none.1

-- steps that change nothing don't count
pub same_changes : (seat : ℕ) (run steps : Run) → AreChangesOf run steps → changes_by seat run ≡ changes_by seat steps
same_changes seat [] steps e = ap (changes_by seat) (sym e)
same_changes seat (e ∷ run) steps (inl out) =
    not_one seat e run (ap (λ (b : Bool). e.0.seat == seat && not b) out.0 ∙ and_false (e.0.seat == seat)) ∙ same_changes seat run steps out.1
same_changes seat (e ∷ run) steps (inr h) =
    ap (λ (l : Run). cond (is_change seat e) (e ∷ l) l) (same_changes seat run h.0 h.2) ∙ ap (changes_by seat) (sym h.1)

-- ---- a past that grew by steps

-- such a run has the changes of the steps
changes_behind : (seat : ℕ) (steps run : Run) → AreBehindOthers seat steps run → changes_by seat run ≡ changes_by seat steps
changes_behind seat [] run e = ap (changes_by seat) e
changes_behind seat (e ∷ steps) run h =
    ap (changes_by seat) h.3 ∙ changes_both seat h.0 (e ∷ h.1) ∙ ap (λ (l : Run). l ++ changes_by seat (e ∷ h.1)) (no_change seat h.0 h.2)
    ∙ ap (λ (l : Run). cond (is_change seat e) (e ∷ l) l) (changes_behind seat steps h.1 h.4)

pub grew_number : (before : Past) (steps : Run) (later : Past) → GrewByAll before steps later → later.number ≡ before.number
grew_number before steps later grew = (gained before steps later grew).number

-- what a seat changes after a beginning, and then after a longer one
pub follow_both : (seat : ℕ) (a one b two c : Run) → ChangesFollow seat a one b → ChangesFollow seat b two c → ChangesFollow seat a (one ++ two) c
follow_both seat a one b two c f g = record {
  rest = f.rest ++ g.rest;
  is = g.is ∙ ap (λ (l : Run). l ++ g.rest) f.is ∙ append_assoc a f.rest g.rest;
  changes = changes_both seat f.rest g.rest ∙ ap (λ (l : Run). l ++ changes_by seat g.rest) f.changes
      ∙ ap (λ (l : Run). changes_by seat one ++ l) g.changes ∙ sym (changes_both seat one two);
}

-- others' steps alone
pub others_follow : (seat : ℕ) (a b : Run) → OthersFollow seat a b → ChangesFollow seat a [] b
others_follow seat a b o = record { rest = o.rest; is = o.is; changes = no_change seat o.rest o.others }

-- a past that grew by steps
pub grew_follow : (before : Past) (steps : Run) (later : Past) → GrewByAll before steps later → ChangesFollow before.number before.seen steps later.seen
grew_follow before steps later grew =
    let g = gained before steps later grew in record { rest = g.run; is = g.seen; changes = changes_behind before.number steps g.run g.behind }

-- and then has seen steps of others
pub follow_seen : (before : Past) (steps : Run) (last later : Past) → GrewByAll before steps last → SeesMore last later
    → ChangesFollow before.number before.seen steps later.seen
follow_seen before steps last later grew more =
    let none = subst (λ (n : ℕ). HasNoStepOf n more.between) (grew_number before steps last grew) more.others in
    subst (λ (r : Run). ChangesFollow before.number before.seen r later.seen) (append-nil steps)
    (follow_both before.number before.seen steps last.seen [] later.seen (grew_follow before steps last grew)
    (others_follow before.number last.seen later.seen (record { rest = more.between; is = more.seen; others = none })))
