use Rattle.std.proofs.Common.{◌≡◌, ℕ, ◌+◌, ◌≤◌, List, length, ap, sym, ◌∙◌, refl, subst}
use Rattle.group_tree.specs.declared.group.Group.{Group}
use Rattle.group_charge.specs.Charges.{Ledger}
use Rattle.boot_words.specs.Cpus.{KnownCpuSeat}
use Rattle.mem_machine.specs.Machines.{KnownMachine}
use Rattle.mem_system.specs.{CpuInRun, cpu_in_run, KnownLocked, HasItsGroups, NamesWhatExists, locked_state, IsServed}
use Rattle.mem_system.proofs.Lost.{no_unit_is_lost}
use Rattle.mem_system.proofs.Staying.{settled_groups}
use Rattle.mem_system.proofs.Visiting.{GoesThrough, counted, forgotten_holds, forgotten_shut, resting_shut, served}
use Rattle.mem_system.proofs.visits.serve_outcome.Given as given
use Rattle.mem_system.proofs.visits.serve_outcome.Goals as goal
use Rattle.mem_system.proofs.visits.serve_outcome.Goals.{After-settle, After-unlock}

-- the calls of the visit, one after the other
visit : (g : given.Over) (c : After-unlock g) → GoesThrough g.N.BootName.table c.locked.inside.machine c.cpu.inside.part c.cpu.inside.past
    c.execute-outcome.ensures.executed.steps c.unlock.new.self c.execute-outcome.new.cpu c.unlock.new.seat
visit g c = record {
  found = c.lock.new.self;
  begun = c.forget_notes.new.self;
  entered = c.open.new.self;
  mid = c.settle.new.self;
  settled = c.settle.new.cpu;
  done = c.execute-outcome.new.machine;
  left = c.shut.new.self;
  knows = c.cpu.invariant;
  locks = c.lock.ensures.machine;
  takes = c.lock.ensures.run;
  holds = c.lock.ensures.holds;
  shut = c.lock.ensures.shut;
  forgets = c.forget_notes.ensures;
  opens = c.open.ensures.machine;
  opening = c.open.ensures.steps;
  settles = c.settle.ensures.settles;
  settling = c.settle.ensures.steps;
  same = c.settle.ensures.others.number;
  making = c.execute-outcome.ensures.executed.makes;
  still = c.execute-outcome.ensures.stays.number;
  shuts = c.shut.ensures.machine;
  shutting = c.shut.ensures.steps;
  left_holds = c.shut.ensures.holds;
  left_shut = c.shut.ensures.shut;
  unlocks = c.unlock.ensures.machine;
  gives = c.unlock.ensures.run;
}

-- settling leaves the groups that were found
groups_found : (g : given.Over) (c : After-settle g) → c.settle.new.self.ledger.groups ≡ c.args.locked.now.machine.ledger.groups
groups_found g c =
    settled_groups g.N.BootName.table _ _ _ _ c.settle.ensures.settles
    ∙ ap (λ (y : KnownMachine). y.ledger.groups) c.open.ensures.machine ∙ ap (λ (y : KnownMachine). y.ledger.groups) c.forget_notes.ensures
    ∙ ap (λ (y : KnownMachine). y.ledger.groups) c.lock.ensures.machine ∙ ap (λ (y : KnownLocked). y.machine.ledger.groups) c.locked.view_is

-- so what the command names exists then
names_found : (g : given.Over) (c : After-settle g) → NamesWhatExists g.N.BootName.table c.settle.new.self.ledger.groups c.args.cmd.now
names_found g c =
    subst (λ (groups : List Group). NamesWhatExists g.N.BootName.table groups c.args.cmd.now) (sym (groups_found g c)) c.requires

pub execute-outcome-requires-clause-names : goal.execute-outcome-requires-clause-names
execute-outcome-requires-clause-names g c = names_found g (goal.at.execute-outcome-requires-clause-names g c).After-settle

pub open-requires-clause-holds : goal.open-requires-clause-holds
open-requires-clause-holds g c = forgotten_holds g.N.BootName.table c.lock.new.self c.forget_notes.new.self c.cpu.inside.part c.forget_notes.ensures c.lock.ensures.holds

pub open-requires-clause-shut : goal.open-requires-clause-shut
open-requires-clause-shut g c = forgotten_shut g.N.BootName.table c.lock.new.self c.forget_notes.new.self c.cpu.inside.part.number c.forget_notes.ensures c.lock.ensures.shut

pub unlock-requires-clause-number : goal.unlock-requires-clause-number
unlock-requires-clause-number g c =
    ap (λ (s : KnownCpuSeat). s.number) c.lock.ensures.given ∙ c.cpu.invariant.number
    ∙ sym (c.execute-outcome.ensures.stays.number ∙ c.settle.ensures.others.number)

pub invariant_of-locked : goal.invariant_of-locked
invariant_of-locked g c =
    let t = g.N.BootName.table in
    let quiet = c.locked.invariant.quiet in
    let rests = c.unlock.ensures.rests in
    record {
      quiet = record {
        shut = resting_shut t c.unlock.new.self rests;
        rests = rests;
        counted = counted t c.locked.inside.machine c.cpu.inside.part c.cpu.inside.past c.execute-outcome.ensures.executed.steps c.unlock.new.self
            c.execute-outcome.new.cpu c.unlock.new.seat (visit g (goal.at.invariant_of-locked g c).After-unlock) quiet.rests quiet.counted rests;
        valid = quiet.valid;
        sized = quiet.sized;
      };
      seats = c.locked.invariant.seats;
    }

pub returns : goal.returns
unfolding visit
returns g c =
    let t = g.N.BootName.table in
    let d = c.execute-outcome.new.cpu in
    let l : KnownLocked = record { machine = c.locked.inside.machine; sizes = c.locked.inside.sizes } in
    let k : KnownLocked = record { machine = c.unlock.new.self; sizes = c.locked.inside.sizes } in
    let executed = c.execute-outcome.ensures.executed in
    let stays = c.execute-outcome.ensures.stays in
    let outcome = c.execute-outcome.result in
    let kept : k.machine.ledger ≡ c.execute-outcome.new.machine.ledger =
    ap (λ (y : KnownMachine). y.ledger) c.unlock.ensures.machine ∙ ap (λ (y : KnownMachine). y.ledger) c.shut.ensures.machine in
    record {
      groups = subst (λ (l : Ledger). HasItsGroups l outcome) (sym kept) c.execute-outcome.ensures.groups;
      served = subst (λ (y : KnownLocked × CpuInRun). IsServed t c.args.cmd.now outcome (locked_state y.0 y.1) (locked_state k (cpu_in_run d c.unlock.new.seat)))
          (λ i. (c.locked.view_is i, c.cpu.view_is i))
          (served t c.args.cmd.now outcome l k c.cpu.inside.part c.cpu.inside.past executed.steps d c.unlock.new.seat
          (visit g (goal.at.returns g c).After-unlock) refl (names_found g (goal.at.returns g c).After-settle) executed.does);
      settled = (c.execute-outcome.ensures.fresh, stays.back ∙ c.settle.ensures.none_back);
      ends = record {
        at_most_high = subst (λ (y : KnownLocked × CpuInRun). length y.1.part.list ≤ y.0.sizes.high → length d.list + length d.fresh ≤ y.0.sizes.high)
            (λ i. (c.locked.view_is i, c.cpu.view_is i))
            (λ within. c.execute-outcome.ensures.at_most_high
            (subst (λ (l : List ℕ). length l ≤ c.locked.inside.sizes.high) (sym c.settle.ensures.others.list) within));
        last = c.unlock.ensures.last;
      };
      lost = no_unit_is_lost t c.unlock.new.self c.prove_consistent.ensures c.unlock.ensures.rests;
    }
