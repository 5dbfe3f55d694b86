-- No kill of a command comes before everything else was tried. Serves `serve_outcome`.
use Rattle.std.proofs.Common.{◌≡◌, ℕ, ◌+◌, ◌≤◌, ◌^◌, Bool, true, false, Option, Some, None, List, [], ◌∷◌, ◌++◌, refl, sym, ap, ◌∙◌, subst, inl, inr, arith}
use Rattle.std.specs.Prelude.{Result, Ok, Err, nat_le}
use Rattle.std.specs.List.{flat_map}
use Rattle.std.proofs.lemmas.Bool.{cases_eq, cases_lt, leb-false}
use Rattle.boot_words.specs.Pasts.{IsHeld}
use Rattle.group_tree.specs.declared.group.Group.{Group}
use Rattle.group_tree.specs.declared.fault.Fault.TheVariants as fault
use Rattle.group_tree.specs.{has_group, in_subtree, limit_of, with_limit, fits_limit}
use Rattle.group_tree.proofs.CallerLemmas.{limit_of-limited}
use Rattle.group_charge.specs.Charges.{current_of}
use Rattle.group_charge.proofs.UsageLemmas.{usage-limited}
use Rattle.zone_blocks.specs.declared.config.Config.{Config}
use Rattle.mem_system.specs.declared.setting.Setting.{Setting}
use Rattle.mem_system.specs.declared.setting.Setting.TheVariants.{Max, High, Low, Min, OomGroup, Reclaim}
use Rattle.boot_words.specs.Tables.{KnownTable}
use Rattle.cpu_part.specs.Cpus.{KnownCpuLists}
use Rattle.step_rules.specs.After.{Run}
use Rattle.mem_machine.specs.declared.releasing.Released.TheVariants as released
use Rattle.mem_machine.specs.{KnownMachine, with_run, VisitState, visit_state, release_steps, return_all_steps, all_fresh_steps, fresh_steps}
use Rattle.mem_machine.specs.{is_fresh_killed, return_steps, settle_steps, drain_stocks_steps, lend_steps, open_steps, remove_steps, set_max_steps}
use Rattle.mem_machine.specs.{shut_steps, of_subtree, Transition, transition}
use Rattle.mem_reclaim.specs.Moves.{has_kill}
use Rattle.mem_reclaim.proofs.LettingGo.{drains_leave, quiet_drains}
use Rattle.mem_alloc.specs.declared.faults.AllocFault.{AllocFault}
use Rattle.mem_alloc.specs.declared.faults.AllocFault.TheVariants.{Over, NoFrames, RequesterKilled}
use Rattle.mem_alloc.specs.{KillsForRoom, has_room_at, with_limit_noted, NoRashKill}
use Rattle.mem_alloc.proofs.Calm.{back_calm}
use Rattle.mem_alloc.proofs.NoRash.{Passes, RashFree, drained_on, keeps_pass, missed_since, passes_both, passes_same, rash_both, rash_quiet, tame_kills, unless_tame}
use Rattle.mem_alloc.proofs.NoRashAllocs.{block_no_rash, frame_no_rash, no_kill_both}
use Rattle.mem_system.specs.declared.command.LockedCommand.{LockedCommand}
use Rattle.mem_system.specs.declared.command.LockedCommand.TheVariants.{Mkdir, Rmdir, Write, Read, Settle, Owner, Release, Alloc}
use Rattle.mem_system.specs.declared.outcome.Outcome.{Outcome}
use Rattle.mem_system.specs.declared.outcome.Outcome.TheVariants as outcome
use Rattle.mem_system.specs.Files.{FallsShort}
use Rattle.mem_system.specs.{MakesGroup, NamesWhatExists, Removes, Sets, SetsLimit, Writes, with_high_of, with_limit_of, LowersUsage}
use Rattle.mem_system.specs.{LowersAbove, LowersByKills, LowersToHigh, KeepsToLimit, with_high_told, Allocates, AllocatesWithin, CutsList, ListsFrame}
use Rattle.mem_system.specs.{ReleasesFrame, ReturnsFrames, MayAskFor, Executes}

-- ---- commands that kill nobody

makes_quiet : (path : List ℕ) (said : Outcome) (call : Transition KnownMachine) → MakesGroup path said call → has_kill call.steps ≡ false
makes_quiet path (outcome.Group n) call h = ap has_kill h.steps_are
makes_quiet path (outcome.Refused fault) call h = ap has_kill h.1.steps_are
makes_quiet path other call h = absurd h

lowers_quiet : (g limit : ℕ) (call : Transition KnownMachine) → LowersUsage g limit call → has_kill call.steps ≡ false
lowers_quiet g limit call h =
    ap has_kill h.steps_are
    ∙ no_kill_both (drain_stocks_steps h.drains) h.reclaims.steps (quiet_drains h.drains).no_kill h.reclaims.moves.no_kill

high_quiet : (g : ℕ) (of : Option ℕ) (call : Transition KnownMachine) → LowersToHigh g of call → has_kill call.steps ≡ false
high_quiet g None call h = ap has_kill h.steps_are
high_quiet g (Some high) call h = elim (cases_lt high (current_of call.before.ledger g)) [
  | inl above ↦ lowers_quiet g high (transition call.table (with_high_told call.before g high) call.steps call.after) (h.above above)
  | inr within ↦ ap has_kill (h.within within).steps_are
]

removes_quiet : (group : ℕ) (said : Outcome) (call : Transition KnownMachine) → Removes group said call → has_kill call.steps ≡ false
removes_quiet group outcome.Done call h =
    ap has_kill h.steps_are
    ∙ no_kill_both h.lowering (remove_steps group) (lowers_quiet group 0 (transition call.table call.before h.lowering h.emptied) h.lowers) refl
removes_quiet group (outcome.Refused fault.Busy) call h = lowers_quiet group 0 call h.lowers
removes_quiet group (outcome.Refused other) call h = ap has_kill h.1.steps_are
removes_quiet group other call h = absurd h

cuts_quiet : (sizes : Config) (call : Transition VisitState) → CutsList sizes call → has_kill call.steps ≡ false
cuts_quiet sizes call h = ap has_kill h.steps_are ∙ back_calm call.before.cpu.number h.cut

lists_quiet : (sizes : Config) (f : ℕ) (call : Transition VisitState) → ListsFrame sizes f call → has_kill call.steps ≡ false
lists_quiet sizes f call h =
    ap has_kill h.steps_are
    ∙ no_kill_both h.cutting (lend_steps call.before.cpu.number f) (cuts_quiet sizes (transition call.table call.before h.cutting h.mid) h.cuts) refl

returns_quiet : (sizes : Config) (f : ℕ) (call : Transition VisitState) → ReturnsFrames sizes f call → has_kill call.steps ≡ false
returns_quiet sizes f call h =
    let listed : has_kill h.listing ≡ false = elim (cases_eq h.returns.unit.order 0) [
      | inl single ↦ lists_quiet sizes f (transition call.table (visit_state h.freed call.before.cpu) h.listing call.after) (h.single single)
      | inr block ↦ ap has_kill (h.block block).steps_are
    ] in
    ap has_kill h.steps_are ∙ no_kill_both (release_steps f released.Returned) h.listing refl listed

releases_quiet : (sizes : Config) (f : ℕ) (said : Outcome) (call : Transition VisitState) → ReleasesFrame sizes f said call → has_kill call.steps ≡ false
releases_quiet sizes f (outcome.Left left) call h = ap has_kill h.steps_are
releases_quiet sizes f outcome.Returned call h = returns_quiet sizes f call h
releases_quiet sizes f (outcome.Refused fault.NotKept) call h = ap has_kill h.does.stays.steps_are
releases_quiet sizes f other call h = absurd h

-- a note before the steps changes nothing of what they pass on
passes_told : (t : KnownTable) (g : ℕ) (m n : KnownMachine) (steps : Run) → Passes t (with_limit_noted m g 0) steps n → Passes t m steps n
passes_told t g m n steps p = record {
  runs = record { holder = p.runs.holder; leads = p.runs.leads; follows = p.runs.follows; counts = p.runs.counts; noted = p.runs.noted };
  owners = p.owners;
  dirt = p.dirt;
  settings = p.settings;
  usage = p.usage;
}

module _ (t : KnownTable) (MayAsk : List Group → ℕ → ℕ → Type 0) (s : KnownMachine) (held : IsHeld t s.run.past) where
  -- the steps of the whole command kill nobody
  quiet : (steps : Run) → has_kill steps ≡ false → NoRashKill t MayAsk s steps
  quiet steps none = rash_quiet t MayAsk s held [] steps none

  -- ---- a limit that is written

  -- usage is lowered by kills, in steps that come after others
  kills_rash : (g limit : ℕ) (made : Run) (m : KnownMachine) (steps : Run) (n : KnownMachine) → limit_of m.ledger.groups g ≡ Some limit
      → MayAsk m.ledger.groups g 0 → Passes t s made m → LowersByKills g limit (transition t m steps n) → RashFree t MayAsk s made steps
  kills_rash g limit made m steps n is asked since h =
      let x = h.lowered in
      let low = h.lowers in
      let y = low.drained in
      let first = drain_stocks_steps low.drains in
      let told = with_limit_noted m g 0 in
      let same = drains_leave t (of_subtree g) t.cpus told y low.drains low.drains_all in
      let drains = passes_told t g m y first (passes_same t told y first low.drain_runs same.links same.settings same.usage) in
      let after_drains = passes_both t s m y made first since drains in
      let rounds = keeps_pass t y x low.reclaims.steps low.reclaims.moves.runs low.keeps in
      let lowering = subst (λ (k : Run). Passes t m k x) (sym low.steps_are) (passes_both t m y x first low.reclaims.steps drains rounds) in
      let groups : x.ledger.groups ≡ m.ledger.groups = low.keeps.groups ∙ same.groups in
      let here : limit_of x.ledger.groups g ≡ Some limit = ap (λ (l : List Group). limit_of l g) groups ∙ is in
      let missed = λ (over : has_room_at x.ledger g 0 ≡ false).
      let full : nat_le (current_of x.ledger g + 0) limit ≡ false = sym (ap (λ (o : Option ℕ). fits_limit o (current_of x.ledger g + 0)) here) ∙ over in
      let more = leb-false (current_of x.ledger g + 0) limit full in
      missed_since t MayAsk s held g (made ++ first) y x after_drains (low.missed (omega (arith, more))) in
      let drained = drained_on t MayAsk s held g y x low.keeps.groups low.keeps.stocks low.none_held in
      let still = subst (λ (l : List Group). MayAsk l g 0) (sym groups) asked in
      let done = made ++ h.lowering in
      let killing = unless_tame t MayAsk s held t.choices.is_no_kill refl (KillsForRoom None g 0) done x h.killing n
      (λ allowed kills. tame_kills t MayAsk s held None g 0 done x h.killing n allowed still (passes_both t s m x made h.lowering since lowering) drained missed kills)
      h.kills in
      subst (λ (k : Run). RashFree t MayAsk s made k) (sym h.steps_are) (rash_both t MayAsk s held made h.lowering h.killing
      (rash_quiet t MayAsk s held made h.lowering (lowers_quiet g limit (transition t told h.lowering x) low)) killing.rash)

  lowers_rash : (g limit : ℕ) (made : Run) (m : KnownMachine) (steps : Run) (n : KnownMachine) → limit_of m.ledger.groups g ≡ Some limit
      → MayAsk m.ledger.groups g 0 → Passes t s made m → LowersAbove g limit (transition t m steps n) → RashFree t MayAsk s made steps
  lowers_rash g limit made m steps n is asked since h = elim (cases_lt limit (current_of m.ledger g)) [
    | inl above ↦ kills_rash g limit made m steps n is asked since (h.above above)
    | inr within ↦ rash_quiet t MayAsk s held made steps (ap has_kill (h.within within).steps_are)
  ]

  keeps_rash : (g : ℕ) (of : Option ℕ) (made : Run) (m : KnownMachine) (steps : Run) (n : KnownMachine) → limit_of m.ledger.groups g ≡ of
      → MayAsk m.ledger.groups g 0 → Passes t s made m → KeepsToLimit g of (transition t m steps n) → RashFree t MayAsk s made steps
  keeps_rash g None made m steps n is asked since h = rash_quiet t MayAsk s held made steps (ap has_kill h.steps_are)
  keeps_rash g (Some limit) made m steps n is asked since h = lowers_rash g limit made m steps n is asked since h

  sets_rash : (g : ℕ) (of : Option ℕ) (steps : Run) (n : KnownMachine) → has_group s.ledger.groups g ≡ true
      → MayAsk (with_limit s.ledger.groups g of) g 0 → SetsLimit g of (transition t s steps n) → NoRashKill t MayAsk s steps
  sets_rash g of steps n there asked h =
      let x = with_run (with_limit_of s g of) h.seen in
      let first = set_max_steps g of in
      let set = passes_same t s x first h.sets refl refl (λ k. let e = usage-limited s.ledger.groups s.ledger.accounts g k of in omega (arith, e)) in
      subst (λ (k : Run). RashFree t MayAsk s [] k) (sym h.steps_are) (rash_both t MayAsk s held [] first h.lowering
      (rash_quiet t MayAsk s held [] first refl)
      (keeps_rash g of first x h.lowering n (limit_of-limited s.ledger.groups g of there) asked set h.keeps))

  -- a setting kills only by the limit that it sets
  set_no_rash : (g : ℕ) (setting : Setting) (steps : Run) (n : KnownMachine) → has_group s.ledger.groups g ≡ true
      → ((of : Option ℕ) → setting ≡ Max of → MayAsk (with_limit s.ledger.groups g of) g 0)
      → Sets g setting (transition t s steps n) → NoRashKill t MayAsk s steps
  set_no_rash g (Max of) steps n there asks h = sets_rash g of steps n there (asks of refl) h
  set_no_rash g (High of) steps n there asks h = quiet steps (high_quiet g of (transition t (with_high_of s g of) steps n) h)
  set_no_rash g (Low of) steps n there asks h = quiet steps (ap has_kill h.1)
  set_no_rash g (Min of) steps n there asks h = quiet steps (ap has_kill h.1)
  set_no_rash g (OomGroup flag) steps n there asks h = quiet steps (ap has_kill h.steps_are)
  set_no_rash g (Reclaim asked) steps n there asks h = quiet steps (ap has_kill h.steps_are ∙ h.reclaims.moves.no_kill)

  short_quiet : (g : ℕ) (setting : Setting) (steps : Run) (n : KnownMachine) → FallsShort g setting (transition t s steps n) → has_kill steps ≡ false
  short_quiet g (Reclaim asked) steps n h = ap has_kill h.steps_are ∙ h.reclaims.moves.no_kill
  short_quiet g other steps n h = absurd h

  writes_no_rash : (g : ℕ) (setting : Setting) (said : Outcome) (steps : Run) (n : KnownMachine) → has_group s.ledger.groups g ≡ true
      → ((of : Option ℕ) → setting ≡ Max of → MayAsk (with_limit s.ledger.groups g of) g 0)
      → Writes g setting said (transition t s steps n) → NoRashKill t MayAsk s steps
  writes_no_rash g setting outcome.Done steps n there asks h = set_no_rash g setting steps n there asks h.1
  writes_no_rash g setting (outcome.Refused fault.NoFile) steps n there asks h = quiet steps (ap has_kill h.1.steps_are)
  writes_no_rash g setting (outcome.Refused fault.Again) steps n there asks h = quiet steps (short_quiet g setting steps n h.1)
  writes_no_rash g setting other steps n there asks h = absurd h

  -- ---- an allocation

  module _ (c : KnownCpuLists) (sizes : Config) (g order : ℕ)
      (asks : (over : ℕ) → in_subtree s.ledger.groups over g ≡ true → 2 ^ order ≤ 8 → MayAsk s.ledger.groups over (2 ^ order)) where
    allocates_for : (answer : Result ℕ AllocFault) (steps : Run) (n : VisitState)
        → AllocatesWithin sizes g order answer (transition t (visit_state s c) steps n) → NoRashKill t MayAsk s steps
    allocates_for answer steps n h = elim (cases_eq order 0) [
      | inl frame ↦
          let one : 2 ^ order ≡ 1 = ap (λ (k : ℕ). 2 ^ k) frame in
          let may = subst (λ (p : ℕ). (over : ℕ) → in_subtree s.ledger.groups over g ≡ true → p ≤ 8 → MayAsk s.ledger.groups over p) one asks in
          frame_no_rash t MayAsk s c held g may sizes answer steps n (h.1.frame frame)
      | inr block ↦ block_no_rash t MayAsk s c held g order asks answer steps n (h.1.block block)
    ]

    allocates_no_rash : (said : Outcome) (steps : Run) (n : VisitState) → Allocates sizes g order said (transition t (visit_state s c) steps n)
        → NoRashKill t MayAsk s steps
    allocates_no_rash (outcome.Frame f) steps n h = allocates_for (Ok f) steps n h
    allocates_no_rash (outcome.OverLimit over) steps n h = allocates_for (Err (Over over)) steps n h
    allocates_no_rash (outcome.Refused fault.BadOrder) steps n h = quiet steps (ap has_kill h.1.steps_are)
    allocates_no_rash (outcome.Refused fault.NoFrames) steps n h = allocates_for (Err NoFrames) steps n h
    allocates_no_rash (outcome.Refused fault.Killed) steps n h = allocates_for (Err RequesterKilled) steps n h
    allocates_no_rash other steps n h = absurd h

-- ---- all commands

module _ (t : KnownTable) (sizes : Config) (s : KnownMachine) (c : KnownCpuLists) (held : IsHeld t s.run.past) where
  pub obeys_no_rash : (cmd : LockedCommand) (said : Outcome) (steps : Run) (n : VisitState) → NamesWhatExists t s.ledger.groups cmd
      → Executes sizes cmd said (transition t (visit_state s c) steps n) → NoRashKill t (MayAskFor cmd s.ledger.groups) s steps
  obeys_no_rash (Mkdir path) said steps n names h =
      quiet t (MayAskFor (Mkdir path) s.ledger.groups) s held steps (makes_quiet path.now said (transition t s steps n.machine) h.does)
  obeys_no_rash (Rmdir group) said steps n names h =
      quiet t (MayAskFor (Rmdir group) s.ledger.groups) s held steps (removes_quiet group said (transition t s steps n.machine) h.does)
  obeys_no_rash (Write group setting) said steps n names h =
      writes_no_rash t (MayAskFor (Write group setting) s.ledger.groups) s held group setting said steps n.machine names
      (λ of is. rw is (record { limited = refl; now_is = refl; no_page = refl })) h.does
  obeys_no_rash (Read group file) said steps n names h =
      quiet t (MayAskFor (Read group file) s.ledger.groups) s held steps (ap has_kill h.1.steps_are)
  obeys_no_rash Settle said steps n names h = quiet t (MayAskFor Settle s.ledger.groups) s held steps (ap has_kill h.1.steps_are)
  obeys_no_rash (Owner f) said steps n names h = quiet t (MayAskFor (Owner f) s.ledger.groups) s held steps (ap has_kill h.1.steps_are)
  obeys_no_rash (Release f) said steps n names h =
      quiet t (MayAskFor (Release f) s.ledger.groups) s held steps (releases_quiet sizes f said (transition t (visit_state s c) steps n) h)
  obeys_no_rash (Alloc group order) said steps n names h =
      allocates_no_rash t (MayAskFor (Alloc group order) s.ledger.groups) s held c sizes group order
      (λ over below few. record { same = refl; below = record { on_path = below; need_is = refl; few = few } }) said steps n h
  -- any other makes no step
  obeys_no_rash cmd said steps n names h = quiet t (MayAskFor cmd s.ledger.groups) s held steps (ap has_kill h.does.steps_are)

-- ---- the steps around it

fresh_quiet : (killed : Bool) (p : ℕ) (frames : List ℕ) → has_kill (flat_map (fresh_steps killed p) frames) ≡ false
fresh_quiet killed p [] = refl
fresh_quiet true p (f ∷ frames) = no_kill_both (fresh_steps true p f) (flat_map (fresh_steps true p) frames) refl (fresh_quiet true p frames)
fresh_quiet false p (f ∷ frames) = no_kill_both (fresh_steps false p f) (flat_map (fresh_steps false p) frames) refl (fresh_quiet false p frames)

return_quiet : (p : ℕ) (frames : List ℕ) → has_kill (flat_map (return_steps p) frames) ≡ false
return_quiet p [] = refl
return_quiet p (f ∷ frames) = no_kill_both (return_steps p f) (flat_map (return_steps p) frames) refl (return_quiet p frames)

settle_quiet : (t : KnownTable) (now : VisitState) → has_kill (settle_steps t now) ≡ false
settle_quiet t now =
    no_kill_both (all_fresh_steps t now) (return_all_steps now) (fresh_quiet (is_fresh_killed t now) now.cpu.number now.cpu.fresh)
    (return_quiet now.cpu.number now.cpu.back)

pub around_quiet : (t : KnownTable) (p : ℕ) (now : VisitState) → has_kill (open_steps p ++ (settle_steps t now ++ shut_steps p)) ≡ false
around_quiet t p now =
    no_kill_both (open_steps p) (settle_steps t now ++ shut_steps p) refl (no_kill_both (settle_steps t now) (shut_steps p) (settle_quiet t now) refl)
