-- Rounds of reclaim, as far as they were made. Serves `reclaim_round`, `reclaim_in_batches`, `reclaim_to_limit` and `reclaim_amount`.
use Rattle.std.proofs.Common.{◌≡◌, ◌≢◌, ◌⊎◌, ℕ, zero, suc, ◌+◌, ◌-◌, ◌*◌, ◌^◌, ◌<◌, ◌≤◌, ◌==◌, Bool, true, [], ◌++◌, refl, sym, ◌∙◌, subst, inl, inr, arith}
use Rattle.std.specs.Prelude.{max, nat_lt}
use Rattle.std.proofs.lemmas.Bool.{cond-false, lt-ltb, ne_eqb}
use Rattle.std.proofs.lemmas.List.{append_assoc, append-nil}
use Rattle.group_charge.specs.{Ledger, current_of}
use Rattle.step_rules.specs.After.{Run}
use Rattle.group_charge.specs.declared.note.Note.{Note}
use Rattle.group_charge.specs.declared.note.Note.TheVariants.{Asked}
use Rattle.boot_words.specs.Tables.{KnownTable}
use Rattle.mem_machine.specs.Machines.{KnownMachine, with_note}
use Rattle.mem_reclaim.specs.{AfterNote, FreesNothing, Reclaiming, progress, FreesPages, FreesBySteps, Reclaims, ReclaimsAmount, ReclaimsPages}
use Rattle.mem_reclaim.specs.{ReclaimsRound, ReclaimsRounds, pages_missing, pages_wanted, round_note, at_least, Keeps, MissedAll}
use Rattle.mem_reclaim.specs.Laws.{BatchesOfOneWantWhatIsMissing}
use Rattle.mem_reclaim.proofs.Wanting.{rested}
use Rattle.mem_reclaim.proofs.Moving.{moves_after_notes, moves_both, moves_noted, moves_rest}
use Rattle.mem_reclaim.proofs.Keeping.{keeps_after_notes, keeps_both, keeps_none, keeps_noted}
use Rattle.mem_reclaim.proofs.Passing.{all_missed}

-- what is done after a note is done, as seen from before it
pub leads_after_note : (t : KnownTable) (freed : ℕ) (m n : KnownMachine) (note : Note) (Does : Reclaiming) → FreesBySteps t freed (with_note m note) n Does
    → FreesBySteps t freed m n (AfterNote note Does)
leads_after_note t freed m n note Does leads = record {
  steps = leads.steps;
  does = leads.does;
  moves = moves_after_notes t m n freed leads.steps (with_note m note).notes leads.moves;
}

-- what the reclaim of an amount left
pub record AmountGives (t : KnownTable) (g asked : ℕ) (m : KnownMachine) (freed : ℕ) (n : KnownMachine) : Type 0 where
  pub rounds : FreesBySteps t freed m n (ReclaimsAmount g asked)
  pub keeps : Keeps t m n
  pub usage : current_of n.ledger g + freed ≡ current_of m.ledger g
  pub missed : freed < asked → MissedAll g m n

-- the note of what is asked for, and then the rounds
pub amount_noted : (t : KnownTable) (g asked freed : ℕ) (m x n : KnownMachine) → x ≡ with_note m (Asked g asked) → FreesBySteps t freed x n (ReclaimsPages g asked)
    → (freed < asked → MissedAll g x n) → current_of n.ledger g + freed ≡ current_of x.ledger g → Keeps t x n → AmountGives t g asked m freed n
amount_noted t g asked freed m x n noted leads missed usage keeps =
    let note = Asked g asked in
    let here = subst (λ (y : KnownMachine). FreesBySteps t freed y n (ReclaimsPages g asked)) noted leads in
    record {
      rounds = leads_after_note t freed m n note (ReclaimsPages g asked) here;
      keeps = keeps_after_notes t m n (with_note m note).notes (subst (λ (y : KnownMachine). Keeps t y n) noted keeps);
      usage = subst (λ (y : KnownMachine). current_of n.ledger g + freed ≡ current_of y.ledger g) noted usage;
      missed = λ few. subst (λ (y : KnownMachine). MissedAll g y n) noted (missed few);
    }

-- what one round left
pub record RoundGives (t : KnownTable) (g number want : ℕ) (m : KnownMachine) (freed : ℕ) (now : KnownMachine) : Type 0 where
  pub makes : FreesBySteps t freed m now (ReclaimsRound g number want)
  pub keeps : Keeps t m now

-- a reclaim, and then its note
pub round_noted : (t : KnownTable) (g number want : ℕ) (m : KnownMachine) (freed : ℕ) (x n : KnownMachine)
    → FreesBySteps t freed m x (Reclaims g want) → Keeps t m x
    → n ≡ with_note x (round_note g number freed m x) → RoundGives t g number want m freed n
round_noted t g number want m freed x n leads keeps noted =
    let note = round_note g number freed m x in
    subst (λ (y : KnownMachine). RoundGives t g number want m freed y) (sym noted) (record {
      makes = record {
        steps = leads.steps;
        does = record {
          reclaimed = x;
          reclaims = leads.does;
          noted = refl;
          returned = leads.moves.returned;
          missed = leads.moves.missed;
        };
        moves = moves_noted t m x freed leads.steps (with_note x note).notes leads.moves;
      };
      keeps = keeps_noted t m x (with_note x note).notes keeps;
    })

-- ---- what a round wants

-- how many pages a round wants, by how many are missing at a limit
abbrev pub asks : (ℕ → ℕ) → (g need limit : ℕ) → Ledger → ℕ
asks wanted g need limit ledger = wanted (pages_missing g need limit ledger)

-- it wants at least the pages that are missing
pub record AsksEnough (wanted : ℕ → ℕ) : Type 0 where
  pub least : (n : ℕ) → n ≤ wanted n

-- it wants just the pages that are missing
pub asks_missing : AsksEnough (λ n. n)
asks_missing = record { least = λ n. omega arith }

some_wanted : (batch n : ℕ) → at_least batch (suc n) ≡ max batch (suc n)
some_wanted batch n = cond-false (suc n == 0) 0 (max batch (suc n)) (ne_eqb (suc n) 0 (λ none. omega (arith, none)))

batch_least : (batch n : ℕ) → n ≤ at_least batch n
batch_least batch zero = omega arith
batch_least batch (suc n) = let is = some_wanted batch n in omega (arith, is)

-- it wants at least a batch
pub asks_batch : (batch : ℕ) → AsksEnough (at_least batch)
asks_batch batch = record { least = batch_least batch }

-- a batch of one page asks for no page more
one_each : (n : ℕ) → at_least 1 n ≡ n
one_each zero = refl
one_each (suc n) = let is = some_wanted 1 n in omega (arith, is)

pub batch_of_one : BatchesOfOneWantWhatIsMissing
batch_of_one g need limit = λ i ledger. one_each (pages_missing g need limit ledger) i

pub batch_one : (t : KnownTable) (g need limit freed : ℕ) (m n : KnownMachine) → FreesBySteps t freed m n (ReclaimsRounds g (pages_wanted 1 g need limit) 16)
    → FreesBySteps t freed m n (ReclaimsRounds g (pages_missing g need limit) 16)
batch_one t g need limit freed m n leads =
    subst (λ (w : Ledger → ℕ). FreesBySteps t freed m n (ReclaimsRounds g w 16)) (batch_of_one g need limit) leads

-- ---- rounds

-- what rounds left: pages of the group's subtree were freed and, if they are too few, each clean unit was tried
pub record RoundsGive (t : KnownTable) (wanted : ℕ → ℕ) (g need limit : ℕ) (m : KnownMachine) (freed : ℕ) (now : KnownMachine) : Type 0 where
  pub rounds : FreesBySteps t freed m now (ReclaimsRounds g (asks wanted g need limit) 16)
  pub keeps : Keeps t m now
  pub usage : current_of now.ledger g + freed ≡ current_of m.ledger g
  pub missed : limit < current_of now.ledger g + need → MissedAll g m now

-- this many rounds were made, so what the remaining rounds do makes up the whole
pub record RoundsSoFar (t : KnownTable) (wanted : ℕ → ℕ) (g need limit : ℕ) (m : KnownMachine) (made freed : ℕ) (now : KnownMachine) : Type 0 where
  pub steps : Run
  pub whole : (more : ℕ) (rest : Run) (n : KnownMachine) → ReclaimsRounds g (asks wanted g need limit) (16 - made) (progress more now rest n)
      → ReclaimsRounds g (asks wanted g need limit) 16 (progress (freed + more) m (steps ++ rest) n)
  pub moves : FreesPages t m freed steps now
  pub keeps : Keeps t m now
  pub usage : current_of now.ledger g + freed ≡ current_of m.ledger g
  pub few : freed ≤ made * 2 ^ 32
  pub missed : 1 ≤ made → limit < current_of now.ledger g + need → MissedAll g m now

module _ (t : KnownTable) (wanted : ℕ → ℕ) (g need limit : ℕ) (m : KnownMachine) where
  pub rounds_none : RoundsSoFar t wanted g need limit m 0 0 m
  rounds_none = record {
    steps = [];
    whole = λ more rest n h.
        let d : more ≡ 0 + more = omega arith in
        subst (λ (x : ℕ). ReclaimsRounds g (asks wanted g need limit) 16 (progress x m rest n)) d h;
    moves = moves_rest t m;
    keeps = keeps_none t m;
    usage = omega arith;
    few = omega arith;
    missed = λ some. absurd (omega (arith, some));
  }

  module _ (made freed : ℕ) (now : KnownMachine) (so : RoundsSoFar t wanted g need limit m made freed now) where
    -- nothing more is done
    ended : ReclaimsRounds g (asks wanted g need limit) (16 - made) (progress 0 now [] now)
        → FreesBySteps t freed m now (ReclaimsRounds g (asks wanted g need limit) 16)
    ended rest =
        let d : freed + 0 ≡ freed = omega arith in
        record {
          steps = so.steps;
          does = subst (λ (y : ℕ × Run). ReclaimsRounds g (asks wanted g need limit) 16 (progress y.0 m y.1 now)) (λ i. (d i, append-nil so.steps i))
              (so.whole 0 [] now rest);
          moves = so.moves;
        }

    -- all rounds were made
    pub rounds_done : 16 ≤ made → RoundsGive t wanted g need limit m freed now
    rounds_done all =
        let e : 0 ≡ 16 - made = omega (arith, all) in
        record {
          rounds = ended (subst (λ (k : ℕ). ReclaimsRounds g (asks wanted g need limit) k (progress 0 now [] now)) e (rested now));
          keeps = so.keeps;
          usage = so.usage;
          missed = so.missed (omega (arith, all));
        }

    module _ (left : made < 16) where
      next_left : suc (16 - (made + 1)) ≡ 16 - made
      next_left = omega (arith, left)

      -- no page is missing
      pub rounds_enough : AsksEnough wanted → asks wanted g need limit now.ledger ≡ 0 → RoundsGive t wanted g need limit m freed now
      rounds_enough enough none = record {
        rounds = ended (subst (λ (k : ℕ). ReclaimsRounds g (asks wanted g need limit) k (progress 0 now [] now)) next_left (inl (none, rested now)));
        keeps = so.keeps;
        usage = so.usage;
        missed = λ over. let least = enough.least (pages_missing g need limit now.ledger) in absurd (omega (arith, none, over, least));
      }

      -- one round more
      module _ (want some : ℕ) (then : KnownMachine) (tried_all : Bool) (enough : AsksEnough wanted) (wants : want ≡ asks wanted g need limit now.ledger) (some_wanted : want ≢ 0)
          (leads : FreesBySteps t some now then (ReclaimsRound g (made + 1) want)) (tells : tried_all ≡ nat_lt some want)
          (missed : tried_all ≡ true → MissedAll g now then) (usage : current_of then.ledger g + some ≡ current_of now.ledger g)
          (keeps : Keeps t now then) where
        does : ReclaimsRound g (16 - (16 - (made + 1))) (asks wanted g need limit now.ledger) (progress some now leads.steps then)
        does =
            let number : made + 1 ≡ 16 - (16 - (made + 1)) = omega (arith, left) in
            subst (λ (w : ℕ × ℕ). ReclaimsRound g w.0 w.1 (progress some now leads.steps then)) (λ i. (number i, wants i)) leads.does

        keeps_on : Keeps t m then
        keeps_on = keeps_both t m now then so.keeps keeps

        usage_on : current_of then.ledger g + (freed + some) ≡ current_of m.ledger g
        usage_on = let a = so.usage in omega (arith, a, usage)

        moves_on : FreesPages t m (freed + some) (so.steps ++ leads.steps) then
        moves_on = moves_both t m now then freed some so.steps leads.steps so.moves leads.moves

        -- a round that leaves pages missing has tried everything
        missed_on : limit < current_of then.ledger g + need → MissedAll g m then
        missed_on over =
            let few : some < want = let least = enough.least (pages_missing g need limit now.ledger) in omega (arith, over, usage, wants, least) in
            let all : tried_all ≡ true = tells ∙ lt-ltb some want few in
            all_missed t g m now then so.keeps (missed all)

        -- the round and what comes after it make up what was left
        goes_on : (more : ℕ) (rest : Run) (n : KnownMachine)
            → ((some ≡ 0) × FreesNothing (progress more then rest n)) ⊎ ((1 ≤ some) × ReclaimsRounds g (asks wanted g need limit) (16 - (made + 1)) (progress more then rest n))
            → ReclaimsRounds g (asks wanted g need limit) 16 (progress (freed + some + more) m (so.steps ++ (leads.steps ++ rest)) n)
        goes_on more rest n h =
            let d : freed + (some + more) ≡ freed + some + more = omega arith in
            let one : ReclaimsRounds g (asks wanted g need limit) (suc (16 - (made + 1))) (progress (some + more) now (leads.steps ++ rest) n) =
            inr (
              omega (arith, wants, some_wanted),
              record {
                between = then;
                earlier = leads.steps;
                later = rest;
                some = some;
                more = more;
                first = does;
                second = h;
                freed_is = refl;
                steps_are = refl;
              },
            ) in
            subst (λ (y : ℕ). ReclaimsRounds g (asks wanted g need limit) 16 (progress y m (so.steps ++ (leads.steps ++ rest)) n)) d
            (so.whole (some + more) (leads.steps ++ rest) n
            (subst (λ (k : ℕ). ReclaimsRounds g (asks wanted g need limit) k (progress (some + more) now (leads.steps ++ rest) n)) next_left one))

        pub rounds_more : some ≢ 0 → current_of now.ledger g < 2 ^ 32 → RoundsSoFar t wanted g need limit m (made + 1) (freed + some) then
        rounds_more gave low = record {
          steps = so.steps ++ leads.steps;
          whole = λ more rest n h.
              subst (λ (y : Run). ReclaimsRounds g (asks wanted g need limit) 16 (progress (freed + some + more) m y n)) (sym (append_assoc so.steps leads.steps rest))
              (goes_on more rest n (inr (omega (arith, gave), h)));
          moves = moves_on;
          keeps = keeps_on;
          usage = usage_on;
          few = let a = so.few in omega (arith, a, usage, low);
          missed = λ _. missed_on;
        }

        -- it gave nothing
        pub rounds_end : some ≡ 0 → RoundsGive t wanted g need limit m (freed + some) then
        rounds_end none =
            let d : freed + some + 0 ≡ freed + some = omega arith in
            record {
              rounds = record {
                steps = so.steps ++ leads.steps;
                does = subst (λ (y : ℕ × Run). ReclaimsRounds g (asks wanted g need limit) 16 (progress y.0 m (so.steps ++ y.1) then))
                    (λ i. (d i, append-nil leads.steps i)) (goes_on 0 [] then (inl (none, rested then)));
                moves = moves_on;
              };
              keeps = keeps_on;
              usage = usage_on;
              missed = missed_on;
            }
