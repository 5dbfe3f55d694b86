-- Rounds of reclaim with one more try each, as far as they were made, and what they keep. Serves `refill_in_rounds`,
-- `take_after_drain`, and those who call them.
use Rattle.std.proofs.Common.{◌≡◌, ◌≢◌, ℕ, zero, suc, ◌+◌, ◌-◌, ◌<◌, ◌≤◌, [], ◌++◌, refl, sym, ap, ◌∙◌, subst, inl, inr, arith, rules}
use Rattle.std.proofs.lemmas.List.{append_assoc, append-nil}
use Rattle.boot_words.specs.Tables.{KnownTable}
use Rattle.cpu_part.specs.Cpus.{KnownCpuLists}
use Rattle.step_rules.specs.After.{Run}
use Rattle.group_charge.specs.declared.note.Note.{Note}
use Rattle.group_charge.specs.declared.note.Note.TheVariants.{Zone}
use Rattle.mem_machine.specs.{KnownMachine, with_note, Makes, VisitMakes, Visits, VisitState, visit_state, BySteps, Transition, transition}
use Rattle.mem_reclaim.specs.{progress, FreesBySteps, ReclaimsRound, Keeps, MissedAll}
use Rattle.mem_alloc.specs.Rounds.{AfterZoneNote, FailsInRounds, FreesInRound, MakesRound, SucceedsInRounds}
use Rattle.mem_alloc.proofs.Lowering.{Lowers, lowers_none, lowers_both, keeps_lower}
use Rattle.mem_machine.proofs.Followed.{makes_both, makes_none}
use Rattle.mem_machine.proofs.Made.{visit_same}

-- ---- what a failed try keeps

-- the machine as after a note, a drain or a reclaim; and the CPU's part stays
pub record Spares (t : KnownTable) (m : KnownMachine) (c : KnownCpuLists) (n : KnownMachine) (d : KnownCpuLists) : Type 0 where
  pub lowers : Lowers t m n
  pub killed : n.killed ≡ m.killed
  pub cpu : d ≡ c

pub spares_none : (t : KnownTable) (m : KnownMachine) (c : KnownCpuLists) → Spares t m c m c
spares_none t m c = record { lowers = lowers_none t m; killed = refl; cpu = refl }

pub spares_both : (t : KnownTable) (m x n : KnownMachine) (c y d : KnownCpuLists) → Spares t m c x y → Spares t x y n d → Spares t m c n d
spares_both t m x n c y d a b = record {
  lowers = lowers_both t m x n a.lowers b.lowers;
  killed = b.killed ∙ a.killed;
  cpu = b.cpu ∙ a.cpu;
}

pub spares_same : (t : KnownTable) (m n : KnownMachine) (c d : KnownCpuLists) → n ≡ m → d ≡ c → Spares t m c n d
spares_same t m n c d machine cpu = record {
  lowers = subst (λ (x : KnownMachine). Lowers t m x) (sym machine) (lowers_none t m);
  killed = ap (λ (x : KnownMachine). x.killed) machine;
  cpu = cpu;
}

spares_reclaim : (t : KnownTable) (m n : KnownMachine) (c : KnownCpuLists) → Keeps t m n → Spares t m c n c
spares_reclaim t m n c keeps = record { lowers = keeps_lower t m n keeps; killed = keeps.killed; cpu = refl }

-- a try that fails keeps this
abbrev pub FailureSpares : KnownTable → (Transition VisitState → Type 0) → Type 0
FailureSpares t Fails =
    (m n : KnownMachine) (c d : KnownCpuLists) (steps : Run) → Fails (transition t (visit_state m c) steps (visit_state n d)) → Spares t m c n d

module _ (t : KnownTable) (want : ℕ) (Fails : Transition VisitState → Type 0) (failure : FailureSpares t Fails) where
  -- a round in which the try fails keeps it too
  round_spares : (number freed : ℕ) (m n : KnownMachine) (c d : KnownCpuLists) (steps : Run)
      → MakesRound number want freed Fails (transition t (visit_state m c) steps (visit_state n d)) → Spares t m c n d
  round_spares number freed m n c d steps h =
      spares_both t m h.reclaimed n c c d (spares_reclaim t m h.reclaimed c h.keeps)
      (failure h.reclaimed n c d h.trying h.tries)

  -- all such rounds keep it too
  pub fails_spare : (rounds : ℕ) (m n : KnownMachine) (c d : KnownCpuLists) (steps : Run)
      → FailsInRounds rounds want Fails (transition t (visit_state m c) steps (visit_state n d)) → Spares t m c n d
  fails_spare zero m n c d steps h = spares_same t m n c d h.machine h.cpu
  fails_spare (suc more) m n c d steps (inl last) = round_spares (16 - more) 0 m n c d steps last
  fails_spare (suc more) m n c d steps (inr h) =
      let x = h.between in
      spares_both t m x.machine n c x.cpu d (round_spares (16 - more) h.first.freed m x.machine c x.cpu h.earlier h.first.round)
      (fails_spare more x.machine n x.cpu d h.later h.second)

  -- if the try succeeds in a round, this was kept until then
  pub record InTheEnd (Succeeds : Transition VisitState → Type 0) (m : KnownMachine) (c : KnownCpuLists) (n : VisitState) : Type 0 where
    pub before : KnownMachine
    pub cpu : KnownCpuLists
    pub trying : Run
    pub spares : Spares t m c before cpu
    pub succeeds : Succeeds (transition t (visit_state before cpu) trying n)

  pub in_the_end : (Succeeds : Transition VisitState → Type 0) (rounds : ℕ) (m : KnownMachine) (c : KnownCpuLists) (n : VisitState) (steps : Run)
      → SucceedsInRounds rounds want Succeeds Fails (transition t (visit_state m c) steps n) → InTheEnd Succeeds m c n
  in_the_end Succeeds zero m c n steps h = absurd h
  in_the_end Succeeds (suc more) m c n steps (inl h) = record {
    before = h.1.reclaimed;
    cpu = c;
    trying = h.1.trying;
    spares = spares_reclaim t m h.1.reclaimed c h.1.keeps;
    succeeds = h.1.tries;
  }
  in_the_end Succeeds (suc more) m c n steps (inr h) =
      let x = h.between in
      let one = round_spares (16 - more) h.first.freed m x.machine c x.cpu h.earlier h.first.round in
      let last = in_the_end Succeeds more x.machine x.cpu n h.later h.second in
      record {
        before = last.before;
        cpu = last.cpu;
        trying = last.trying;
        spares = spares_both t m x.machine last.before c x.cpu last.cpu one last.spares;
        succeeds = last.succeeds;
      }

-- ---- a note before them

-- what is kept from a note on is kept from before it
pub spares_after_note : (t : KnownTable) (m n : KnownMachine) (c d : KnownCpuLists) (note : Note) → Spares t (with_note m note) c n d → Spares t m c n d
spares_after_note t m n c d note s = search rules

-- a visit stays open at a note
pub noted_visit : (t : KnownTable) (m : KnownMachine) (c : KnownCpuLists) (note : Note) → Visits t m c → Visits t (with_note m note) c
noted_visit t m c note v = visit_same t m (with_note m note) c refl v

-- a note of the zone, and then what follows it
pub zone_noted : (t : KnownTable) (order : ℕ) (Does : Transition VisitState → Type 0) (m x : KnownMachine) (c : KnownCpuLists) (n : VisitState)
    → x ≡ with_note m (Zone order) → BySteps VisitMakes t Does (visit_state x c) n → BySteps VisitMakes t (AfterZoneNote order Does) (visit_state m c) n
zone_noted t order Does m x c n noted by =
    let here = subst (λ (y : KnownMachine). BySteps VisitMakes t Does (visit_state y c) n) noted by in
    let k = here.makes in
    record {
      steps = here.steps;
      does = here.does;
      makes = record { holder = k.holder; leads = k.leads; follows = k.follows; counts = k.counts; noted = k.noted };
    }

module _ (t : KnownTable) (want : ℕ) (Fails : Transition VisitState → Type 0) (failure : FailureSpares t Fails) (order : ℕ) where
  -- all rounds after the note keep what a failed try keeps
  pub noted_fails_spare : (m n : KnownMachine) (c d : KnownCpuLists) (steps : Run)
      → AfterZoneNote order (FailsInRounds 16 want Fails) (transition t (visit_state m c) steps (visit_state n d)) → Spares t m c n d
  noted_fails_spare m n c d steps h =
      spares_after_note t m n c d (Zone order) (fails_spare t want Fails failure 16 (with_note m (Zone order)) n c d steps h)

  -- if the try succeeds in one of them, this was kept until then
  pub noted_in_the_end : (Succeeds : Transition VisitState → Type 0) (m : KnownMachine) (c : KnownCpuLists) (n : VisitState) (steps : Run)
      → AfterZoneNote order (SucceedsInRounds 16 want Succeeds Fails) (transition t (visit_state m c) steps n) → InTheEnd t want Fails failure Succeeds m c n
  noted_in_the_end Succeeds m c n steps h =
      let e = in_the_end t want Fails failure Succeeds 16 (with_note m (Zone order)) c n steps h in
      record {
        before = e.before;
        cpu = e.cpu;
        trying = e.trying;
        spares = spares_after_note t m e.before c e.cpu (Zone order) e.spares;
        succeeds = e.succeeds;
      }

-- ---- the rounds of a loop

-- this many rounds were made in which the try failed, so the result of the remaining rounds is the result of all
pub record RoundsSoFar (t : KnownTable) (want : ℕ) (Fails : Transition VisitState → Type 0) (Succeeds : ℕ → Transition VisitState → Type 0)
    (m : KnownMachine) (c : KnownCpuLists) (made : ℕ) (now : KnownMachine) (d : KnownCpuLists) : Type 0 where
  pub steps : Run
  pub fails : (rest : Run) (n : VisitState) → FailsInRounds (16 - made) want Fails (transition t (visit_state now d) rest n)
      → FailsInRounds 16 want Fails (transition t (visit_state m c) (steps ++ rest) n)
  pub succeeds : (k : ℕ) (rest : Run) (n : VisitState)
      → SucceedsInRounds (16 - made) want (Succeeds k) Fails (transition t (visit_state now d) rest n)
      → SucceedsInRounds 16 want (Succeeds k) Fails (transition t (visit_state m c) (steps ++ rest) n)
  pub runs : Makes t m steps now
  pub visit : Visits t m c → Visits t now d
  pub spares : Spares t m c now d

module _ (t : KnownTable) (want : ℕ) (Fails : Transition VisitState → Type 0) (Succeeds : ℕ → Transition VisitState → Type 0)
    (m : KnownMachine) (c : KnownCpuLists) where
  pub rounds_none : RoundsSoFar t want Fails Succeeds m c 0 m c
  rounds_none = record {
    steps = [];
    fails = λ rest n h. h;
    succeeds = λ k rest n h. h;
    runs = makes_none t m;
    visit = λ v. v;
    spares = spares_none t m c;
  }

  module _ (made : ℕ) (now : KnownMachine) (d : KnownCpuLists) (so : RoundsSoFar t want Fails Succeeds m c made now d) where
    -- it failed in all rounds
    pub rounds_done : 16 ≤ made → BySteps VisitMakes t (FailsInRounds 16 want Fails) (visit_state m c) (visit_state now d)
    rounds_done all =
        let e : 0 ≡ 16 - made = omega (arith, all) in
        let none : FailsInRounds 0 want Fails (transition t (visit_state now d) [] (visit_state now d)) =
        record { machine = refl; cpu = refl; steps_are = refl } in record {
          steps = so.steps ++ [];
          does = so.fails [] (visit_state now d)
              (subst (λ (k : ℕ). FailsInRounds k want Fails (transition t (visit_state now d) [] (visit_state now d))) e none);
          makes = subst (λ (r : Run). Makes t m r now) (sym (append-nil so.steps)) so.runs;
        }

    -- one round more
    module _ (left : made < 16) (freed : ℕ) (x : KnownMachine) (leads : FreesBySteps t freed now x (ReclaimsRound 0 (made + 1) want))
        (missed : freed < want → MissedAll 0 now x) (keeps : Keeps t now x) (then : KnownMachine) (e : KnownCpuLists) (trying : Run)
        (tries : Makes t x trying then) where
      next_left : suc (16 - (made + 1)) ≡ 16 - made
      next_left = omega (arith, left)

      numbered : made + 1 ≡ 16 - (16 - (made + 1))
      numbered = omega (arith, left)

      abbrev first : Run
      first = leads.steps ++ trying

      round : (Tries : Transition VisitState → Type 0) → Tries (transition t (visit_state x d) trying (visit_state then e))
          → MakesRound (16 - (16 - (made + 1))) want freed Tries (transition t (visit_state now d) first (visit_state then e))
      round Tries does = record {
        reclaimed = x;
        reclaiming = leads.steps;
        trying = trying;
        reclaims = subst (λ (k : ℕ). ReclaimsRound 0 k want (progress freed now leads.steps x)) numbered leads.does;
        missed = missed;
        keeps = keeps;
        moves = leads.moves;
        tries = does;
        steps_are = refl;
      }

      runs_on : Makes t m (so.steps ++ first) then
      runs_on = makes_both t so.steps first m now then so.runs (makes_both t leads.steps trying now x then leads.moves.runs tries)

      -- in which it succeeded
      pub rounds_succeed : (k : ℕ) → Succeeds k (transition t (visit_state x d) trying (visit_state then e))
          → BySteps VisitMakes t (SucceedsInRounds 16 want (Succeeds k) Fails) (visit_state m c) (visit_state then e)
      rounds_succeed k does = record {
        steps = so.steps ++ first;
        does = so.succeeds k first (visit_state then e)
            (subst (λ (j : ℕ). SucceedsInRounds j want (Succeeds k) Fails (transition t (visit_state now d) first (visit_state then e))) next_left
            (inl (freed, round (Succeeds k) does)));
        makes = runs_on;
      }

      module _ (does : Fails (transition t (visit_state x d) trying (visit_state then e))) where
        -- the try failed, and no page was freed
        pub rounds_end : freed ≡ 0 → BySteps VisitMakes t (FailsInRounds 16 want Fails) (visit_state m c) (visit_state then e)
        rounds_end none =
            let last : FailsInRounds (suc (16 - (made + 1))) want Fails (transition t (visit_state now d) first (visit_state then e)) =
            inl (subst (λ (k : ℕ). MakesRound (16 - (16 - (made + 1))) want k Fails (transition t (visit_state now d) first (visit_state then e))) none (round Fails does)) in record {
              steps = so.steps ++ first;
              does = so.fails first (visit_state then e)
                  (subst (λ (j : ℕ). FailsInRounds j want Fails (transition t (visit_state now d) first (visit_state then e))) next_left last);
              makes = runs_on;
            }

        gave_pages : freed ≢ 0 → FreesInRound (16 - (16 - (made + 1))) want Fails (transition t (visit_state now d) first (visit_state then e))
        gave_pages gave = record { freed = freed; some = omega (arith, gave); round = round Fails does }

        -- the try failed, and pages were freed
        pub rounds_more : freed ≢ 0 → Spares t x d then e → Visits t then e → RoundsSoFar t want Fails Succeeds m c (made + 1) then e
        rounds_more gave spares visit = record {
          steps = so.steps ++ first;
          fails = λ rest n h.
              let one : FailsInRounds (suc (16 - (made + 1))) want Fails (transition t (visit_state now d) (first ++ rest) n) =
              inr (record { between = visit_state then e; earlier = first; later = rest; first = gave_pages gave; second = h; steps_are = refl }) in
              subst (λ (r : Run). FailsInRounds 16 want Fails (transition t (visit_state m c) r n)) (sym (append_assoc so.steps first rest))
              (so.fails (first ++ rest) n
              (subst (λ (j : ℕ). FailsInRounds j want Fails (transition t (visit_state now d) (first ++ rest) n)) next_left one));
          succeeds = λ k rest n h.
              let one : SucceedsInRounds (suc (16 - (made + 1))) want (Succeeds k) Fails (transition t (visit_state now d) (first ++ rest) n) =
              inr (record { between = visit_state then e; earlier = first; later = rest; first = gave_pages gave; second = h; steps_are = refl }) in
              subst (λ (r : Run). SucceedsInRounds 16 want (Succeeds k) Fails (transition t (visit_state m c) r n)) (sym (append_assoc so.steps first rest))
              (so.succeeds k (first ++ rest) n
              (subst (λ (j : ℕ). SucceedsInRounds j want (Succeeds k) Fails (transition t (visit_state now d) (first ++ rest) n)) next_left one));
          runs = runs_on;
          visit = λ _. visit;
          spares = spares_both t m now then c d e so.spares
              (spares_both t now x then d d e (spares_reclaim t now x d keeps) spares);
        }
