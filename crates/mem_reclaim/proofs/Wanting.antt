-- Things done one after the other, as far as they were done. Serves all loops.
use Rattle.std.proofs.Common.{◌≡◌, ℕ, ◌+◌, ◌-◌, ◌<◌, ◌≤◌, List, [], ◌∷◌, ◌++◌, refl, sym, subst, inl, inr, arith}
use Rattle.std.proofs.lemmas.List.{append_assoc, append-nil}
use Rattle.step_rules.specs.After.{Run}
use Rattle.boot_words.specs.Tables.{KnownTable}
use Rattle.mem_machine.specs.Machines.{KnownMachine}
use Rattle.mem_reclaim.specs.{FreesNothing, Reclaiming, WhileWanted, progress, FreesPages, FreesBySteps}
use Rattle.mem_reclaim.proofs.Moving.{moves_rest, moves_both}

pub rested : (m : KnownMachine) → FreesNothing (progress 0 m [] m)
rested m = record { no_page = refl; machine = refl; no_step = refl }

-- what was done, so that whatever is done with the things that are left makes up the whole
pub record SoFar {A : Type 0} (t : KnownTable) (does : A → ℕ → Reclaiming) (all : List A) (want : ℕ) (m : KnownMachine)
    (todo : List A) (freed : ℕ) (now : KnownMachine) : Type 0 where
  pub steps : Run
  pub whole : (more : ℕ) (rest : Run) (n : KnownMachine) → WhileWanted does todo (want - freed) (progress more now rest n)
      → WhileWanted does all want (progress (freed + more) m (steps ++ rest) n)
  pub moves : FreesPages t m freed steps now

module _ {A : Type 0} (t : KnownTable) (does : A → ℕ → Reclaiming) (all : List A) (want : ℕ) (m : KnownMachine) where
  pub so_far_none : SoFar t does all want m all 0 m
  so_far_none = record {
    steps = [];
    whole = λ more rest n h.
        let e : want - 0 ≡ want = omega arith in
        let d : more ≡ 0 + more = omega arith in
        subst (λ (x : ℕ × ℕ). WhileWanted does all x.0 (progress x.1 m rest n)) (λ i. (e i, d i)) h;
    moves = moves_rest t m;
  }

  pub so_far_more : (x : A) (later : List A) (freed : ℕ) (now : KnownMachine) → SoFar t does all want m (x ∷ later) freed now → freed < want
      → (some : ℕ) (then : KnownMachine) → FreesBySteps t some now then (does x (want - freed))
      → SoFar t does all want m later (freed + some) then
  so_far_more x later freed now so wanted some then leads =
      let first : Run = leads.steps in
      record {
        steps = so.steps ++ first;
        whole = λ more rest n h.
            let e : want - (freed + some) ≡ want - freed - some = omega arith in
            let d : freed + (some + more) ≡ freed + some + more = omega arith in
            let one : WhileWanted does (x ∷ later) (want - freed) (progress (some + more) now (first ++ rest) n) =
            inr (
              omega (arith, wanted),
              record {
                between = then;
                earlier = first;
                later = rest;
                some = some;
                more = more;
                first = leads.does;
                second = subst (λ (y : ℕ). WhileWanted does later y (progress more then rest n)) e h;
                freed_is = refl;
                steps_are = refl;
              },
            ) in
            subst (λ (y : ℕ × Run). WhileWanted does all want (progress y.0 m y.1 n)) (λ i. (d i, sym (append_assoc so.steps first rest) i))
            (so.whole (some + more) (first ++ rest) n one);
        moves = moves_both t m now then freed some so.steps first so.moves leads.moves;
      }

  left_alone : (todo : List A) (freed : ℕ) (now : KnownMachine) → want ≤ freed → WhileWanted does todo (want - freed) (progress 0 now [] now)
  left_alone [] freed now enough = rested now
  left_alone (x ∷ later) freed now enough = inl (omega (arith, enough), rested now)

  ended : (todo : List A) (freed : ℕ) (now : KnownMachine) → SoFar t does all want m todo freed now → WhileWanted does todo (want - freed) (progress 0 now [] now)
      → FreesBySteps t freed m now (WhileWanted does all want)
  ended todo freed now so rest =
      let d : freed + 0 ≡ freed = omega arith in
      record {
        steps = so.steps;
        does = subst (λ (y : ℕ × Run). WhileWanted does all want (progress y.0 m y.1 now)) (λ i. (d i, append-nil so.steps i)) (so.whole 0 [] now rest);
        moves = so.moves;
      }

  pub so_far_done : (freed : ℕ) (now : KnownMachine) → SoFar t does all want m [] freed now
      → FreesBySteps t freed m now (WhileWanted does all want)
  so_far_done freed now so = ended [] freed now so (rested now)

  pub so_far_enough : (todo : List A) (freed : ℕ) (now : KnownMachine) → SoFar t does all want m todo freed now → want ≤ freed
      → FreesBySteps t freed m now (WhileWanted does all want)
  so_far_enough todo freed now so enough = ended todo freed now so (left_alone todo freed now enough)

-- ---- the things of a list, and then those of another

-- ---- a first thing, a second and a third

module _ {A : Type 0} (t : KnownTable) (does : A → ℕ → Reclaiming) (x : A) (later : List A) (want : ℕ) (m : KnownMachine)
    (wanted : 0 < want) (some : ℕ) (k : KnownMachine) (first : FreesBySteps t some m k (does x want)) where
  so_far_one : SoFar t does (x ∷ later) want m later some k
  so_far_one =
      let e : want ≡ want - 0 = omega arith in
      let d : 0 + some ≡ some = omega arith in
      subst (λ (w : ℕ). SoFar t does (x ∷ later) want m later w k) d
      (so_far_more t does (x ∷ later) want m x later 0 m (so_far_none t does (x ∷ later) want m) wanted some k
      (subst (λ (w : ℕ). FreesBySteps t some m k (does x w)) e first))

  -- the first gave enough
  pub first_enough : want ≤ some → FreesBySteps t some m k (WhileWanted does (x ∷ later) want)
  first_enough enough = so_far_enough t does (x ∷ later) want m later some k so_far_one enough

module _ {A : Type 0} (t : KnownTable) (does : A → ℕ → Reclaiming) (x y : A) (want : ℕ) (m : KnownMachine)
    (wanted : 0 < want) (some : ℕ) (k : KnownMachine) (first : FreesBySteps t some m k (does x want))
    (less : some < want) (more : ℕ) (n : KnownMachine) (second : FreesBySteps t more k n (does y (want - some))) where
  so_far_two : (later : List A) → SoFar t does (x ∷ y ∷ later) want m later (some + more) n
  so_far_two later =
      so_far_more t does (x ∷ y ∷ later) want m y later some k (so_far_one t does x (y ∷ later) want m wanted some k first) less more n second

  -- both together gave enough
  pub both_enough : (later : List A) → want ≤ some + more → FreesBySteps t (some + more) m n (WhileWanted does (x ∷ y ∷ later) want)
  both_enough later enough = so_far_enough t does (x ∷ y ∷ later) want m later (some + more) n (so_far_two later) enough

  -- both were done, and there is no third
  pub both_done : FreesBySteps t (some + more) m n (WhileWanted does (x ∷ y ∷ []) want)
  both_done = so_far_done t does (x ∷ y ∷ []) want m (some + more) n (so_far_two [])

  -- all three were done
  pub three_done : (z : A) → some + more < want → (rest : ℕ) (o : KnownMachine) → FreesBySteps t rest n o (does z (want - (some + more)))
      → FreesBySteps t (some + more + rest) m o (WhileWanted does (x ∷ y ∷ z ∷ []) want)
  three_done z few rest o third =
      so_far_done t does (x ∷ y ∷ z ∷ []) want m (some + more + rest) o
      (so_far_more t does (x ∷ y ∷ z ∷ []) want m z [] (some + more) n (so_far_two (z ∷ [])) few rest o third)
