-- The lock is taken and released, and a CPU and the zone meet. Serves `lock`, `unlock` and `meet`.
use Rattle.std.proofs.Common.{◌≡◌, ◌≢◌, ℕ, ◌==◌, true, ◌++◌, length, refl, sym, ap, ◌∙◌, subst, inr, eq-eqb}
use Rattle.std.proofs.lemmas.Bool.{and_from}
use Rattle.step_rules.specs.declared.phase.Hold.{Hold}
use Rattle.step_rules.specs.declared.phase.Hold.TheVariants.{HeldBy, Unheld}
use Rattle.step_rules.specs.declared.step.Action.TheVariants.{Unlock}
use Rattle.step_rules.specs.declared.step.Answer.TheVariants.{Done}
use Rattle.step_rules.specs.{Part, Zone, is_cpu, is_held_by, state_of, seen_by}
use Rattle.step_rules.specs.State.{State}
use Rattle.step_rules.proofs.CoverParts.{own_part, own_reference}
use Rattle.step_rules.proofs.Runs.{state_more}
use Rattle.step_rules.proofs.Sums.{all_each}
use Rattle.group_tree.specs.Bounds.{most_groups}
use Rattle.boot_words.specs.{LeavesFree, HasSameLists, KnownPasts, IsZonePast, MayMake, Meets, Unlocks, cpu_past, own_past}
use Rattle.boot_words.specs.{zone_of_boot, IsAwayCpu, KnownCpuSeat, state_left, KnownTable}
use Rattle.boot_words.specs.Pasts.{Locks}
use Rattle.boot_words.proofs.Owning.{lists_are_own}
use Rattle.cpu_part.specs.{KnownCpuLists, HasOwn, KnowsItsPart}
use Rattle.mem_machine.specs.declared.machine.Machine.TheInside.{Inside}
use Rattle.mem_machine.specs.{AreBooked, AreOwners, IsSoundMachine, machine_of, KnownMachine, IsConsistent, IsShownBy, left_by, Holds}
use Rattle.mem_machine.specs.{IsShut, local_of, Rests}
use Rattle.mem_machine.proofs.Hiding.{none_passes}
use Rattle.mem_machine.proofs.Made.{holder_is_cpu, own_same, zone_seen}
use Rattle.mem_machine.proofs.Sight.{left_seen, shown_seen}

-- ---- who holds the lock is nothing that the fields show

pub shown_held : (t : KnownTable) (m n : KnownMachine) (s : State) (hold : Hold) → n ≡ record m { run = n.run } → IsShownBy t m s → IsShownBy t n (record s { hold = hold })
shown_held t m n s hold same shown = subst (λ (x : KnownMachine). IsShownBy t x (record s { hold = hold })) (sym same) (record {
  groups = shown.groups;
  killed = shown.killed;
  phases = shown.phases;
  references = shown.references;
  settled = shown.settled;
  absorbed = shown.absorbed;
  bounded = shown.bounded;
  charged = shown.charged;
})

module _ {N : Type 0} (t : KnownTable) (fields : Inside N) (ok : IsSoundMachine t fields) (past : KnownPasts) (hold : Hold)
    (found : left_by t past ≡ record (left_by t fields.past) { hold = hold }) where
  pub sound_then : IsSoundMachine {N = N} t (record fields { past = past })
  sound_then =
      let was = ok.consistent in record {
        consistent = record {
          choice = was.choice;
          sizes = record { frame_states = was.sizes.frame_states; links = was.sizes.links; lists = was.sizes.lists; killed = was.sizes.killed };
          areas = was.areas;
          frame_states = was.frame_states;
          units = was.units;
          lists = was.lists;
          balances = was.balances;
          shown = subst (IsShownBy t (machine_of {N = N} (record fields { past = past }))) (sym found)
              (shown_held t (machine_of {N = N} fields) (machine_of {N = N} (record fields { past = past })) (left_by t fields.past) hold refl was.shown);
        };
        free = ok.free;
        clean = ok.clean;
        sums = subst (λ (u : State). AreBooked (length fields.killed.items) t.cpus u.parts fields.sums.items) (sym found) (record { size = ok.sums.size; each = ok.sums.each });
        owners = subst (λ (u : State). AreOwners t.cpus u.parts fields.owners) (sym found)
            (record { size = ok.owners.size; few = ok.owners.few; each = ok.owners.each; beyond = ok.owners.beyond });
      }

-- ---- what a CPU has for itself

own_seen : (s : State) (c : KnownCpuLists) → HasOwn s c → HasOwn (seen_by c.number s) c
own_seen s c own = record {
  list = ap (λ (x : Part). x.list) (own_part c.number s.parts c.number refl) ∙ own.list;
  fresh = ap (λ (x : Part). x.fresh) (own_part c.number s.parts c.number refl) ∙ own.fresh;
  back = ap (λ (x : Part). x.back) (own_part c.number s.parts c.number refl) ∙ own.back;
  references = λ f. own_reference c.number s.references c.number f (inr refl) ∙ own.references f;
}

seen_own : (s : State) (c : KnownCpuLists) → HasOwn (seen_by c.number s) c → HasOwn s c
seen_own s c own = record {
  list = ap (λ (x : Part). x.list) (sym (own_part c.number s.parts c.number refl)) ∙ own.list;
  fresh = ap (λ (x : Part). x.fresh) (sym (own_part c.number s.parts c.number refl)) ∙ own.fresh;
  back = ap (λ (x : Part). x.back) (sym (own_part c.number s.parts c.number refl)) ∙ own.back;
  references = λ f. sym (own_reference c.number s.references c.number f (inr refl)) ∙ own.references f;
}

-- ---- the lock is taken

module _ (t : KnownTable) (before : KnownPasts) (k : KnownCpuSeat) (c : KnownCpuLists) (after : KnownMachine) (knows : KnowsItsPart t k c) (locks : Locks t before k.past after.run.past) where
  who_then : (cpu_past after.run.past).number ≡ c.number
  who_then = locks.cpu_grew.number ∙ sym knows.is.number ∙ knows.number

  pub locked_holds : Holds t after c
  locked_holds =
      let q = (own_past k.past).number in
      let same : q ≡ c.number = sym knows.is.number ∙ knows.number in
      let u = state_of (zone_of_boot t) (cpu_past after.run.past).seen in
      let lists : HasSameLists c.number (state_left t k) u = subst (λ (n : ℕ). HasSameLists n (state_left t k) u) same locks.own in
      record {
        held = locks.held;
        who = who_then;
        own = subst (λ (n : ℕ). HasOwn (seen_by n u) c) (sym who_then) (own_seen u c (own_same (state_left t k) u c lists knows.own));
      }

  pub locked_shut : IsShut t after c.number
  locked_shut =
      ap (λ (s : State). s.hold) (sym (left_seen t after.run.past locks.held) ∙ locks.found)
      ∙ ap HeldBy (sym knows.is.number ∙ knows.number)

-- the zone's past is one, and leaves the lock free, also by the table that the call is given
pub rests_at : (t u : KnownTable) → u ≡ t → (m now : KnownMachine) → m ≡ now → Rests t now
    → IsZonePast u m.run.past × LeavesFree (zone_of_boot u) (own_past m.run.past)
rests_at t u words m now same rests =
    subst (λ (x : KnownTable × KnownMachine). IsZonePast x.0 x.1.run.past × LeavesFree (zone_of_boot x.0) (own_past x.1.run.past))
    (λ i. (sym words i, sym same i)) (rests.past_is, rests.free)

-- ---- the lock is released

module _ (t : KnownTable) (m : KnownMachine) (c : KnownCpuLists) (ok : IsConsistent t m) (holds : Holds t m c) (shut : IsShut t m c.number) where
  pub may_unlock : MayMake t m.run.past c.number Unlock
  may_unlock =
      let s = local_of t m in
      let shown = shown_seen t m ok holds.held in
      let here : is_cpu s.zone c.number ≡ true = ap (λ (z : Zone). is_cpu z c.number) (zone_seen t m.run.past)
      ∙ subst (λ (n : ℕ). is_cpu (zone_of_boot t) n ≡ true) holds.who (holder_is_cpu t m.run.past holds.held) in
      and_from _ _ (and_from _ _ (and_from _ _ here (ap (is_held_by c.number) shut ∙ eq-eqb c.number c.number refl))
      (all_each most_groups (λ g. s.pending g == 0) (λ g inside. eq-eqb (s.pending g) 0 (shown.settled g))))
      (none_passes t m s shown)

module _ (t : KnownTable) (before : KnownMachine) (c : KnownCpuLists) (zone : KnownPasts) (k : KnownCpuSeat) (holds : Holds t before c)
    (unlocks : Unlocks t before.run.past zone k.past) where
  pub unlocked_knows : IsAwayCpu t k → KnowsItsPart t k c
  unlocked_knows is =
      let z = zone_of_boot t in
      let p = cpu_past before.run.past in
      let between = unlocks.cpu_grew.between in
      let behind = p.seen ++ between in
      let same : (own_past k.past).number ≡ c.number = unlocks.cpu_grew.number ∙ holds.who in
      let ne : p.number ≢ 0 = holds.held.holds.cpu_is in
      let lists : HasSameLists p.number (state_of z p.seen) (state_of z behind) =
      lists_are_own z p.seen behind p.number ne (record { rest = between; is = refl; others = unlocks.cpu_grew.others }) in
      let more = ap (state_of z) unlocks.cpu_grew.seen ∙ state_more z behind (record { seat = p.number; action = Unlock }) Done in
      let follows : HasSameLists p.number (state_of z p.seen) (state_left t k) = subst (HasSameLists p.number (state_of z p.seen)) (sym more)
      (record { list = lists.list; fresh = lists.fresh; back = lists.back; references = lists.references }) in
      let here : HasSameLists c.number (state_of z p.seen) (state_left t k) = subst (λ (n : ℕ). HasSameLists n (state_of z p.seen) (state_left t k)) holds.who follows in
      record {
        is = is;
        number = is.number ∙ same;
        own = own_same (state_of z p.seen) (state_left t k) c here (seen_own (state_of z p.seen) c (subst (λ (n : ℕ). HasOwn (seen_by n (state_of z p.seen)) c) holds.who holds.own));
      }

  -- what is left is what the holder saw, hidden
  pub unlocked_found : left_by t zone ≡ record (left_by t before.run.past) { hold = Unheld }
  unlocked_found = unlocks.left ∙ ap (λ (u : State). record u { hold = Unheld }) (sym (left_seen t before.run.past holds.held))

-- ---- a CPU and the zone meet

pub met_knows : (t : KnownTable) (zone zone' : KnownPasts) (k l : KnownCpuSeat) (c : KnownCpuLists) → KnowsItsPart t k c → Meets t zone k.past zone' l.past → IsAwayCpu t l → l.number ≡ k.number
    → KnowsItsPart t l c
met_knows t zone zone' k l c knows meets is number =
    let same : (own_past k.past).number ≡ c.number = sym knows.is.number ∙ knows.number in
    record {
      is = is;
      number = number ∙ knows.number;
      own = own_same (state_left t k) (state_left t l) c (subst (λ (n : ℕ). HasSameLists n (state_left t k) (state_left t l)) same meets.own) knows.own;
    }
