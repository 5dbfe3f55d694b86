-- A past that grew by steps, each after steps of other seats. Serves what the machine counts.
use Rattle.std.proofs.Common.{◌≡◌, ◌≢◌, ◌∙◌, ◌≤◌, ℕ, ◌+◌, ◌==◌, ◌||◌, Bool, true, false, [], ◌∷◌, ◌++◌, cond, refl, ap, sym, subst, arith, append_assoc, inl, inr}
use Rattle.std.specs.Prelude.{◌⊎◌}
use Rattle.std.proofs.lemmas.Bool.{eq-eqb, ne_eqb}
use Rattle.std.proofs.lemmas.List.Elements.{filter-append}
use Rattle.step_rules.specs.declared.step.Step.{Step}
use Rattle.step_rules.specs.declared.step.Answer.{Answer}
use Rattle.step_rules.specs.State.{State}
use Rattle.step_rules.specs.{one_if, Run, after, IsLocalRun, is_own, own_steps}
use Rattle.boot_words.specs.{GrewByAll, HasNoStepOf}
use Rattle.boot_words.specs.declared.past.Past.{Past}
use Rattle.boot_words.proofs.Holding.{append_none}

-- the run is these steps, each after steps of other seats
abbrev pub AreBehindOthers : ℕ → (steps run : Run) → Type 0
AreBehindOthers seat [] run = run ≡ []
AreBehindOthers seat (e ∷ steps) run = (gap : Run) × (rest : Run) × HasNoStepOf seat gap × (run ≡ gap ++ e ∷ rest) × AreBehindOthers seat steps rest

-- what a past gained with these steps
pub record Gained (before : Past) (steps : Run) (later : Past) : Type 0 where
  pub number : later.number ≡ before.number
  pub run : Run
  pub seen : later.seen ≡ before.seen ++ run
  pub behind : AreBehindOthers before.number steps run

pub gained : (before : Past) (steps : Run) (later : Past) → GrewByAll before steps later → Gained before steps later
gained before [] later same = record {
  number = ap (λ (p : Past). p.number) same;
  run = [];
  seen = ap (λ (p : Past). p.seen) same ∙ sym (append_none before.seen);
  behind = refl;
}
gained before (e ∷ steps) later grew =
    let one = grew.1 in
    let more = gained grew.0 steps later grew.2 in
    record {
      number = more.number ∙ one.number;
      run = one.between ++ e ∷ more.run;
      seen = more.seen ∙ ap (λ (l : Run). l ++ more.run) one.seen ∙ append_assoc (before.seen ++ one.between) (e ∷ []) more.run
          ∙ append_assoc before.seen one.between (e ∷ more.run);
      behind = (
        one.between,
        more.run,
        one.others,
        refl,
        subst (λ (n : ℕ). AreBehindOthers n steps more.run) one.number more.behind,
      );
    }

-- ---- how many steps of a seat

abbrev pub steps_of : ℕ → Run → ℕ
steps_of seat [] = 0
steps_of seat (e ∷ run) = one_if (e.0.seat == seat) + steps_of seat run

pub both : (seat : ℕ) (xs ys : Run) → steps_of seat (xs ++ ys) ≡ steps_of seat xs + steps_of seat ys
both seat [] ys = omega arith
both seat (e ∷ xs) ys = let more = both seat xs ys in omega (arith, more)

pub none_of : (seat : ℕ) (run : Run) → HasNoStepOf seat run → steps_of seat run ≡ 0
none_of seat [] none = refl
none_of seat (e ∷ run) none =
    let here = ap one_if (ne_eqb e.0.seat seat none.0) in
    let more = none_of seat run none.1 in omega (arith, here, more)

own_one : (seat : ℕ) (e : Step × Answer) → e.0.seat ≡ seat → one_if (e.0.seat == seat) ≡ 1
own_one seat e same = ap one_if (eq-eqb e.0.seat seat same)

pub has_none : (seat : ℕ) (run : Run) → steps_of seat run ≡ 0 → HasNoStepOf seat run
has_none seat [] none = tt
has_none seat (e ∷ run) none =
    (λ same. absurd (let one = own_one seat e same in omega (arith, one, none)), has_none seat run (omega (arith, none)))

-- steps after those of others: no more of the seat, and no fewer of any other
pub as_many : (seat : ℕ) (steps run : Run) → AreBehindOthers seat steps run → steps_of seat run ≡ steps_of seat steps
as_many seat [] run e = ap (steps_of seat) e
as_many seat (e ∷ steps) run h =
    let is = ap (steps_of seat) h.3 in
    let parts = both seat h.0 (e ∷ h.1) in
    let none = none_of seat h.0 h.2 in
    let more = as_many seat steps h.1 h.4 in omega (arith, is, parts, none, more)

pub no_fewer : (seat other : ℕ) (steps run : Run) → AreBehindOthers seat steps run → steps_of other steps ≤ steps_of other run
no_fewer seat other [] run e = let none = ap (steps_of other) e in omega (arith, none)
no_fewer seat other (e ∷ steps) run h =
    let is = ap (steps_of other) h.3 in
    let parts = both other h.0 (e ∷ h.1) in
    let more = no_fewer seat other steps h.1 h.4 in omega (arith, is, parts, more)

-- ---- the steps of two seats

-- these two seats are the zone's and the CPU's
abbrev pub AreOwn : (cpu one other : ℕ) → Type 0
AreOwn cpu one other = (seat : ℕ) → seat ≢ one → seat ≢ other → is_own cpu seat ≡ false

none_own : (cpu one other : ℕ) → AreOwn cpu one other → (run : Run) → HasNoStepOf one run → HasNoStepOf other run → own_steps cpu run ≡ []
none_own cpu one other own [] none also = refl
none_own cpu one other own (e ∷ run) none also =
    ap (λ (b : Bool). cond b (e ∷ own_steps cpu run) (own_steps cpu run)) (own e.0.seat none.0 also.0) ∙ none_own cpu one other own run none.1 also.1

-- If the run has no more steps of either seat than these steps, they are all steps of both.
pub just_these : (cpu one other : ℕ) → AreOwn cpu one other → (steps run : Run) → AreBehindOthers one steps run → steps_of other run ≤ steps_of other steps
    → own_steps cpu run ≡ own_steps cpu steps
just_these cpu one other own [] run e most = ap (own_steps cpu) e
just_these cpu one other own (e ∷ steps) run h most =
    let is = ap (steps_of other) h.3 in
    let parts = both other h.0 (e ∷ h.1) in
    let least = no_fewer one other steps h.1 h.4 in
    let none : HasNoStepOf other h.0 = has_none other h.0 (omega (arith, is, parts, least, most)) in
    ap (own_steps cpu) h.3 ∙ filter-append (λ d. is_own cpu d.0.seat) h.0 (e ∷ h.1)
    ∙ ap (λ (l : Run). l ++ own_steps cpu (e ∷ h.1)) (none_own cpu one other own h.0 h.2 none)
    ∙ ap (λ (l : Run). cond (is_own cpu e.0.seat) (e ∷ l) l) (just_these cpu one other own steps h.1 h.4 (omega (arith, is, parts, most)))

pub zone_and_cpu : (cpu : ℕ) → AreOwn cpu 0 cpu
zone_and_cpu cpu seat not_zone not_cpu = ap (λ (b : Bool). b || seat == cpu) (ne_eqb seat 0 not_zone) ∙ ne_eqb seat cpu not_cpu

pub own_is : (cpu seat : ℕ) → (seat ≡ 0) ⊎ (seat ≡ cpu) → is_own cpu seat ≡ true
own_is cpu seat (inl is) = ap (λ (b : Bool). b || seat == cpu) (eq-eqb seat 0 is)
own_is cpu seat (inr is) = ap (λ (b : Bool). seat == 0 || b) (eq-eqb seat cpu is) ∙ or_true (seat == 0)
  where
    or_true : (b : Bool) → (b || true) ≡ true
    or_true true = refl
    or_true false = refl

-- the steps of a visit are all of its CPU and of the zone's seat
pub all_own : (cpu : ℕ) (a : State) (steps : Run) (b : State) → IsLocalRun cpu a steps b → own_steps cpu steps ≡ steps
all_own cpu a [] b leads = refl
all_own cpu a (e ∷ steps) b leads =
    ap (λ (t : Bool). cond t (e ∷ own_steps cpu steps) (own_steps cpu steps)) (own_is cpu e.0.seat leads.0.own)
    ∙ ap (λ (l : Run). e ∷ l) (all_own cpu (after a e.0.seat e.0.action e.1) steps b leads.1)
