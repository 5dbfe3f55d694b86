-- A line under the lock carries the whole on. Serves `lines_follow`.
use Rattle.std.proofs.Common.{◌≡◌, ℕ, ◌<◌, true, Some, List, [], ◌∷◌, ◌++◌, length, refl, sym, ◌∙◌, ap, subst, arith, inl, inr, suc}
use Rattle.std.specs.Prelude.{slice_set, nat_le}
use Rattle.std.specs.List.{slice_get}
use Rattle.std.proofs.lemmas.Bool.{cases_eq, and_from, le-leb}
use Rattle.std.proofs.lemmas.List.{append_assoc, length-set, get_or-set_same, get_or-set_other}
use Rattle.std.proofs.lemmas.Option.{slice_get_within, get_or_from_slice_get, slice_get-get_or}
use Rattle.cpu_part.specs.{KnownCpuLists, HasOwn}
use Rattle.cpu_part.proofs.Owning.{own_same, own_unseen}
use Rattle.step_rules.specs.declared.phase.Hold.TheVariants.{Unheld, HeldBy}
use Rattle.step_rules.specs.declared.step.Step.{Step}
use Rattle.step_rules.specs.declared.step.Action.TheVariants.{Lock, Unlock}
use Rattle.step_rules.specs.declared.step.Answer.TheVariants.{Done}
use Rattle.step_rules.specs.{Zone, is_cpu, is_unheld, is_legal, Run, after, state_of, IsLegalRun, seen_by, ShowsLocal, pushed, IsLocalRun, cpu_makes}
use Rattle.step_rules.specs.State.{State}
use Rattle.step_rules.proofs.Runs.{state_more}
use Rattle.step_rules.proofs.Freeing.{zone_of_run}
use Rattle.step_rules.proofs.Interleaving.{local_runs_interleave}
use Rattle.step_rules.proofs.Seeing.{the_lock_is_passed_on}
use Rattle.boot_words.specs.{hide, HasNoStepOf, zone_of_boot, KnownTable}
use Rattle.boot_words.proofs.Owning.{lists_are_own}
use Rattle.mem_machine.specs.{AgreesWithRun, KnownMachine, VisitState, left_by, lock_holder, local_of, IsInterleaving, Shows}
use Rattle.mem_machine.proofs.Sight.{hide_seen, left_seen}
use Rattle.mem_machine.proofs.Tells.{ledgers_agree}
use Rattle.mem_history.specs.Whole.{HasTakenLock, IsPartAt, LeavesState, LinesFollow, ShowsAll, TheHolderIsShown, TheSameIsShown, under_lock}
use Rattle.mem_history.proofs.Agreeing.{tells_still}
use Rattle.mem_history.proofs.Along.{interleaved, legal_front, own_all}
use Rattle.mem_history.proofs.Seeing.{leaves, sees_whole}

-- ---- lists of parts

pub set_here : {X : Type 0} (xs : List X) (k : ℕ) (x y : X) → k < length xs → slice_get (slice_set xs k x) k ≡ Some y → y ≡ x
set_here xs k x y inside e =
    sym (get_or_from_slice_get (slice_set xs k x) k y y e) ∙ get_or-set_same xs k x y inside

pub set_else : {X : Type 0} (xs : List X) (k j : ℕ) (x y : X) → (j ≡ k → ⊥) → slice_get (slice_set xs k x) j ≡ Some y → slice_get xs j ≡ Some y
set_else xs k j x y ne e =
    let below = slice_get_within (slice_set xs k x) j y e in
    let long = length-set xs k x in
    slice_get-get_or xs j y (omega arith) ∙ ap Some (sym (get_or-set_other xs k j x y ne) ∙ get_or_from_slice_get (slice_set xs k x) j y y e)

-- ---- the whole, by one part

module _ (t : KnownTable) (run : Run) (m : KnownMachine) (cpus : List KnownCpuLists) (k : ℕ) (c : KnownCpuLists) (shows : ShowsAll t run m cpus)
    (is_part : slice_get cpus k ≡ Some c) where
  abbrev zone : Zone
  zone = zone_of_boot t

  abbrev whole : State
  whole = state_of zone run

  pub part_number : c.number ≡ suc k
  part_number = (shows.each k c is_part).number

  pub is_one : is_cpu zone c.number ≡ true
  is_one =
      let below = slice_get_within cpus k c is_part in
      let all = shows.count in
      let named = part_number in
      and_from (nat_le 1 c.number) (nat_le c.number t.cpus) (le-leb 1 c.number (omega arith)) (le-leb c.number t.cpus (omega arith))

  pub not_zone : c.number ≡ 0 → ⊥
  not_zone e = let named = part_number in absurd (omega arith)

  -- each has its lists and pins
  pub has_own : (j : ℕ) (d : KnownCpuLists) → slice_get cpus j ≡ Some d → HasOwn whole d
  has_own j d at = (shows.each j d at).own

  abbrev pub locked : Run
  locked = pushed run (record { seat = c.number; action = Lock }) Done

  pub locked_is : state_of zone locked ≡ record whole { hold = HeldBy c.number }
  locked_is = state_more zone run (record { seat = c.number; action = Lock }) Done

  -- others' parts are what they were after steps that are none of theirs
  pub others_keep : (rest : Run) → ((q : ℕ) → (q ≡ 0 → ⊥) → (q ≡ c.number → ⊥) → HasNoStepOf q rest) → (j : ℕ) (e : KnownCpuLists)
      → slice_get cpus j ≡ Some e → (j ≡ k → ⊥) → IsPartAt (state_of zone (run ++ rest)) j e
  others_keep rest none j e at ne =
      let was = shows.each j e at in
      let named = part_number in let number = was.number in
      let some : e.number ≡ 0 → ⊥ = λ z. absurd (omega (arith, number, z)) in
      let far : e.number ≡ c.number → ⊥ = λ z. ne (omega (arith, number, named, z)) in
      let same = lists_are_own zone run (run ++ rest) e.number some (record { rest = rest; is = refl; others = none e.number some far }) in
      record { number = was.number; own = own_same whole e was.own (state_of zone (run ++ rest)) same }

-- ---- the lock is taken

module _ (t : KnownTable) (run : Run) (cpus : List KnownCpuLists) (k : ℕ) (now : VisitState) (shows : ShowsAll t run now.machine cpus)
    (taken : HasTakenLock t cpus k now) where
  -- the CPU sees what the run shows it
  pub takes : ShowsLocal (zone_of_boot t) (locked t run now.machine cpus k now.cpu shows taken.is_part) now.cpu.number (local_of t now.machine)
  takes =
      let zone = zone_of_boot t in let c = now.cpu in let whole = state_of zone run in
      let lock = locked t run now.machine cpus k c shows taken.is_part in
      let lock_is = locked_is t run now.machine cpus k c shows taken.is_part in
      let zoned : is_cpu whole.zone c.number ≡ true = ap (λ (z : Zone). is_cpu z c.number) (zone_of_run zone run) ∙ is_one t run now.machine cpus k c shows taken.is_part in
      let may : is_legal whole c.number Lock ≡ true = and_from _ _ zoned shows.free in
      let takes = the_lock_is_passed_on.taken zone run c.number shows.legal may in
      let own = has_own t run now.machine cpus k c shows taken.is_part k c taken.is_part in
      let sees : local_of t now.machine ≡ seen_by c.number (state_of zone lock) =
      sees_whole t lock cpus k now taken takes.legal
      (subst (LeavesState t now.machine) (sym lock_is) shows.left)
      (subst (λ (x : State). HasOwn x c) (sym lock_is) (record { list = own.list; fresh = own.fresh; back = own.back; references = own.references }))
      (lock_is ∙ ap (λ (x : State). record x { hold = HeldBy c.number }) (sym lock_is)) in
      record { legal = takes.legal; holds = takes.holds; sees = sees }

pub the_same_is_shown : TheSameIsShown
the_same_is_shown t run m other cpus shows same = record {
  legal = shows.legal;
  free = shows.free;
  left = same ∙ ap (λ (s : State). record s { hold = (left_by t other.run.past).hold }) shows.left;
  count = shows.count;
  each = shows.each;
}

holder_shown : (t : KnownTable) (run : Run) (m : KnownMachine) (p : ℕ) → lock_holder m ≡ p → ShowsLocal (zone_of_boot t) run p (local_of t m) → Shows t run m
holder_shown t run m p who = subst (λ (q : ℕ). ShowsLocal (zone_of_boot t) run q (local_of t m)) (sym who)

pub the_holder_is_shown : TheHolderIsShown
the_holder_is_shown t run cpus k now shows taken =
    holder_shown t (run ++ cpu_makes now.cpu.number Lock Done ∷ []) now.machine now.cpu.number taken.holds.who (takes t run cpus k now shows taken)

-- ---- a line

none_both : (q : ℕ) (xs ys : Run) → HasNoStepOf q xs → HasNoStepOf q ys → HasNoStepOf q (xs ++ ys)
none_both q [] ys none rest = rest
none_both q (e ∷ xs) ys none rest = (none.0, none_both q xs ys none.1 rest)

-- local steps of p are none of others'
none_of : (p : ℕ) (a : State) (steps : Run) (b : State) → IsLocalRun p a steps b → (q : ℕ) → (q ≡ 0 → ⊥) → (q ≡ p → ⊥) → HasNoStepOf q steps
none_of p a [] b leads q some far = tt
none_of p a (e ∷ steps) b leads q some far = (
  λ is. elim leads.0.own [
    | inl z ↦ some (sym is ∙ z)
    | inr own ↦ far (sym is ∙ own)
  ],
  none_of p (after a e.0.seat e.0.action e.1) steps b leads.1 q some far,
)

-- all parts after the part at index k became d
pub parts_after : (s : State) (cpus : List KnownCpuLists) (k : ℕ) (c d : KnownCpuLists) → slice_get cpus k ≡ Some c → d.number ≡ suc k → HasOwn s d
    → ((j : ℕ) (e : KnownCpuLists) → slice_get cpus j ≡ Some e → (j ≡ k → ⊥) → IsPartAt s j e)
    → (j : ℕ) (e : KnownCpuLists) → slice_get (slice_set cpus k d) j ≡ Some e → IsPartAt s j e
parts_after s cpus k c d is_part number own others j e at = elim (cases_eq j k) [
  | inl here ↦
      let is : e ≡ d = set_here cpus k d e (slice_get_within cpus k c is_part) (subst (λ (i : ℕ). slice_get (slice_set cpus k d) i ≡ Some e) here at) in
      subst (λ (x : KnownCpuLists). IsPartAt s j x) (sym is) (record { number = number ∙ ap suc (sym here); own = own })
  | inr ne ↦ others j e (set_else cpus k j d e ne at) ne
]

pub lines_follow : LinesFollow
lines_follow t run cpus k before steps later shows serves legal =
    let zone = zone_of_boot t in
    let m = before.machine in let n = later.machine in
    let c = before.cpu in let d = later.cpu in
    let p = c.number in
    let is_part = serves.taken.is_part in
    let lock = locked t run m cpus k c shows is_part in
    let lock_is = locked_is t run m cpus k c shows is_part in
    let took = takes t run cpus k before shows serves.taken in
    let a = local_of t m in let b = local_of t n in
    let leads : IsLocalRun p a steps b = subst (λ (q : ℕ). IsLocalRun q a steps b) serves.taken.holds.who serves.leads.leads in
    let made : Run = lock ++ steps in
    let unlock : Step = record { seat = p; action = Unlock } in
    let done : Run = pushed made unlock Done in
    let joined : done ≡ run ++ under_lock p steps =
    append_assoc (run ++ cpu_makes p Lock Done ∷ []) steps (cpu_makes p Unlock Done ∷ [])
    ∙ append_assoc run (cpu_makes p Lock Done ∷ []) (steps ++ cpu_makes p Unlock Done ∷ []) in
    let done_legal : IsLegalRun zone done = subst (IsLegalRun zone) (sym joined) legal in
    let mine = own_all p a steps b leads in
    let follows = interleaved zone p lock a steps b leads (legal_front zone made (cpu_makes p Unlock Done ∷ []) done_legal) in
    let goes : ShowsLocal zone made p b = local_runs_interleave zone lock p a steps b took (subst (λ (r : Run). IsLocalRun p a r b) (sym mine) leads) follows in
    let last = state_of zone made in
    let number : d.number ≡ p = sym serves.holds.who ∙ serves.leads.holder ∙ serves.taken.holds.who in
    let done_is : state_of zone done ≡ record last { hold = Unheld } = state_more zone made unlock Done in
    let left : left_by t n.run.past ≡ hide last = left_seen t n.run.past serves.holds.held ∙ ap hide goes.sees ∙ hide_seen p last in
    let own = own_unseen last d (subst (λ (s : State). HasOwn s d) (goes.sees ∙ ap (λ (q : ℕ). seen_by q last) (sym number)) serves.holds.own) in
    let own_done : HasOwn (state_of zone done) d = subst (λ (s : State). HasOwn s d) (sym done_is)
    (record { list = own.list; fresh = own.fresh; back = own.back; references = own.references }) in
    let none : (q : ℕ) → (q ≡ 0 → ⊥) → (q ≡ p → ⊥) → HasNoStepOf q (under_lock p steps) = λ q some far.
    (λ is. far (sym is), none_both q steps (cpu_makes p Unlock Done ∷ []) (none_of p a steps b leads q some far) (λ is. far (sym is), tt)) in
    let number_is : d.number ≡ suc k = number ∙ part_number t run m cpus k c shows is_part in
    record {
      shows = record {
        legal = legal;
        free = subst (λ (r : Run). is_unheld (state_of zone r).hold ≡ true) joined (ap (λ (s : State). is_unheld s.hold) done_is);
        left = subst (λ (r : Run). LeavesState t n (state_of zone r)) joined (subst (LeavesState t n) (sym done_is) (leaves t n last Unheld left));
        count = length-set cpus k d ∙ shows.count;
        each = parts_after (state_of zone (run ++ under_lock p steps)) cpus k c d is_part number_is
            (subst (λ (r : Run). HasOwn (state_of zone r) d) joined own_done)
            (λ j e at ne. others_keep t run m cpus k c shows is_part (under_lock p steps) none j e at ne);
      };
      agrees = λ told.
          let told_lock = tells_still t run m.ledger (record { seat = p; action = Lock }) Done shows.legal took.legal refl (ap (λ (s : State). s.groups) lock_is) told in
          let mixes : IsInterleaving t lock (lock_holder m) steps steps =
          subst (λ (q : ℕ). IsInterleaving t lock q steps steps) (sym serves.taken.holds.who) (record { own = mine; follows = follows }) in
          let told_made = ledgers_agree t lock steps steps m n (the_holder_is_shown t run cpus k before shows serves.taken) told_lock serves.leads mixes in
          subst (λ (r : Run). AgreesWithRun t r n.ledger) joined
          (tells_still t made n.ledger unlock Done goes.legal done_legal refl (ap (λ (s : State). s.groups) done_is) told_made);
    }
