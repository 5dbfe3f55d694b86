-- Laws of kills and refills. Serves `laws`, and those of the commands.
use Rattle.std.proofs.Common.{◌≡◌, ℕ, ◌+◌, ◌⊎◌, Bool, true, false, List, [], ◌∷◌, ◌++◌, Option, Some, None, length, refl, sym, ap, ◌∙◌, inl, inr, arith}
use Rattle.std.proofs.Common.{length-append}
use Rattle.std.proofs.lemmas.Bool.{cases_lt, false≢true}
use Rattle.std.proofs.lemmas.List.{append_assoc, append-nil}
use Rattle.group_tree.specs.declared.group.Group.{Group}
use Rattle.group_protection.specs.Protections.{min_key}
use Rattle.group_protection.proofs.Effective.{same_setting}
use Rattle.group_protection.proofs.Topping.{kept_some_min}
use Rattle.boot_words.specs.Tables.{KnownTable}
use Rattle.cpu_part.specs.Cpus.{KnownCpuLists}
use Rattle.step_rules.specs.After.{Run}
use Rattle.mem_machine.specs.{KnownMachine, is_killed, VisitState, LendsMany}
use Rattle.mem_alloc.specs.{IsAlive, KillsUntilRoom, has_room_at, ChargesKillLast, KillsComeLast, KillsEndInTime, RefillsAreWhole, WasLast}
use Rattle.mem_alloc.specs.{IsChargedBelow, MayKillAfter}
use Rattle.mem_reclaim.specs.Victim.{IsVictim}
use Rattle.mem_alloc.specs.Laws.{ChargesTryAllWithoutMin, TriesAllWithoutMin}

-- the steps before the first kill of a set were the last to be tried
abbrev pub was_last : (MayAsk : List Group → ℕ → ℕ → Type 0) (t : KnownTable) (start : KnownMachine) (before : Run) (g : ℕ) (rest : Run)
    (after : MayKillAfter t MayAsk start before g rest) → WasLast MayAsk t start after.tried after.killed
was_last MayAsk t start before g rest after = record {
  now = after.now;
  leads = after.leads;
  consistent = after.may.consistent;
  charges = after.may.charges;
  tied = after.may.tied;
  limited = after.may.limited;
  need = after.may.need;
  asked = after.may.asked;
  over = after.may.over;
  noted = after.may.noted;
  drained = after.may.drained;
  frozen = λ f home below kept clean. elim (after.may.missed home.owner below) [
    | inl all ↦
        let rose = all f home.list kept clean in
        let counted = after.may.tied.misses f in
        inl (omega (arith, rose, counted))
    | inr spared ↦ inr spared
  ];
  chosen = after.may.chosen;
  killed_root_is = after.may.killed_root_is;
}

pub kills_come_last : (MayAsk : List Group → ℕ → ℕ → Type 0) → KillsComeLast MayAsk
kills_come_last MayAsk t start steps before rest made g none is kills =
    let after = none before rest made g is kills in
    record {
      tried = after.tried;
      since = after.since;
      killed = after.killed;
      left = after.left;
      steps_are = after.steps_are;
      last = was_last MayAsk t start before g rest after;
      set_is = after.set_is;
    }

pub tries_all_without_min : (MayAsk : List Group → ℕ → ℕ → Type 0) → TriesAllWithoutMin MayAsk
tries_all_without_min MayAsk t start tried killed last none f home below kept clean = elim (last.frozen f home below kept clean) [
  | inl frozen ↦ frozen
  | inr spared ↦
      absurd (kept_some_min start.ledger last.now.ledger last.limited home.owner
      (λ other. same_setting min_key last.now.ledger start.ledger last.tied.settings other ∙ none other) spared)
]

pub charges_try_all_without_min : ChargesTryAllWithoutMin
charges_try_all_without_min g pages = tries_all_without_min (IsChargedBelow g pages)

pub charges_kill_last : ChargesKillLast
charges_kill_last g pages = kills_come_last (IsChargedBelow g pages)

-- whoever asks is alive, or is killed
alive_or_not : (requester : Option ℕ) (m : KnownMachine) → IsAlive requester m ⊎ (¬ IsAlive requester m)
alive_or_not None m = inl tt
alive_or_not (Some r) m = by_mark (is_killed m.killed r) refl
  where
    by_mark : (mark : Bool) → is_killed m.killed r ≡ mark → IsAlive (Some r) m ⊎ (¬ IsAlive (Some r) m)
    by_mark true is = inr (λ alive. false≢true (sym alive ∙ is))
    by_mark false is = inl is

pub kills_end_in_time : KillsEndInTime
kills_end_in_time requester g pages call kills = by_room (has_room_at call.before.ledger g pages) refl
  where
    Ended : Type 0
    Ended = (has_room_at call.after.ledger g pages ≡ true) ⊎ ((¬ IsAlive requester call.after) ⊎ IsVictim call.after g None)

    at_end : KillsUntilRoom requester g pages call → (room : Bool) → has_room_at call.after.ledger g pages ≡ room → Ended
    at_end until true is = inl is
    at_end until false is = elim (alive_or_not requester call.after) [
      | inl alive ↦ inr (inr (until.ended (record { over = is; alive = alive })))
      | inr dead ↦ inr (inl dead)
    ]

    by_room : (room : Bool) → has_room_at call.before.ledger g pages ≡ room → Ended
    by_room true is = inl (ap (λ (m : KnownMachine). has_room_at m.ledger g pages) (kills.room is).machine ∙ is)
    by_room false is = at_end (kills.over is) (has_room_at call.after.ledger g pages) refl

-- the frames that were lent are at the end of the list
lent_list : (frames : List ℕ) (a b : VisitState) → LendsMany frames a b → b.cpu.list ≡ a.cpu.list ++ frames
lent_list [] a b h = ap (λ (e : KnownCpuLists). e.list) h.cpu ∙ sym (append-nil a.cpu.list)
lent_list (f ∷ frames) a b h =
    lent_list frames h.between b h.rest ∙ ap (λ (e : KnownCpuLists). e.list ++ frames) h.first.lends.cpu ∙ append_assoc a.cpu.list (f ∷ []) frames

pub refills_are_whole : RefillsAreWhole
refills_are_whole batch call refill =
    let long : length call.after.cpu.list ≡ length call.before.cpu.list + length refill.frames =
    ap length (lent_list refill.frames call.before call.after refill.lends) ∙ length-append call.before.cpu.list refill.frames in
    let most = refill.at_most in
    elim (cases_lt (length refill.frames) batch) [
      | inl fewer ↦ inr (refill.fewer fewer)
      | inr all ↦ inl (omega (arith, long, most, all))
    ]
