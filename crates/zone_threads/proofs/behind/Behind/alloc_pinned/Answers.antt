-- Serves `alloc_pinned`: the visit serves the group that was found, and the CPU may still have one more pin.
use Rattle.std.proofs.Common.{rules, ℕ, refl, subst}
use Rattle.group_charge.specs.Charges.{Ledger}
use Rattle.host_memory.specs.{IsMissingIn}
use Rattle.mem_system.specs.declared.command.LockedCommand.TheVariants.{Alloc}
use Rattle.mem_system.specs.declared.outcome.Outcome.TheVariants.{Frame}
use Rattle.mem_system.specs.{IsServed, locked_state}
use Rattle.mem_system.proofs.Dirtying.{given_inside}
use Rattle.zone_threads.specs.Calling.{GivesUpBlock, MissesPin, ServesPinned}
use Rattle.zone_threads.proofs.Pinning.{missed_for, refusal_served, room_left}
use Rattle.zone_threads.proofs.Visited.{seen_behind, serves_behind}
use Rattle.zone_threads.proofs.behind.Behind.alloc_pinned.Goals as goal

pub returns-in_default : goal.returns-in_default
returns-in_default g c =
    seen_behind g.N.BootName.table (λ (ledger : Ledger). IsMissingIn ledger.groups c.args.group) _ _ _ _ _ c.self.view_is
    (subst (λ (ledger : Ledger). IsMissingIn ledger.groups c.args.group) c.charges.ensures c.in_default.ensures.none)
    c.meet.ensures.locked
    (record { quiet = c.prove_quiet-in_default.ensures.quiet; consistent = c.prove_quiet-in_default.ensures.consistent; charges = c.prove_quiet-in_default.ensures.charges })
    c.meet.ensures.part c.meet.ensures.last c.meet.ensures.meets

pub returns-in_default-outcome : goal.returns-in_default-outcome
returns-in_default-outcome g c =
    let done = c.serve_outcome-outcome in
    serves_behind g.N.BootName.table (ServesPinned g.N.BootName.table c.args.group c.args.order done.result) _ _ _ _ _ c.self.view_is
    (record { quiet = c.prove_quiet.ensures.quiet; consistent = c.prove_quiet.ensures.consistent; charges = c.prove_quiet.ensures.charges })
    (refusal_served _ _ _ _ _ _ c.in_default-outcome.not-Frame (subst (λ (k : ℕ). IsServed g.N.BootName.table (Alloc k c.args.order) done.result (locked_state c.self.inside.locked c.args.cpu.now) (locked_state done.new.locked done.new.cpu))
    c.in-Some.ensures.found.0 done.ensures.served))
    (record { quiet = c.prove_quiet-2.ensures.quiet; consistent = c.prove_quiet-2.ensures.consistent; charges = c.prove_quiet-2.ensures.charges })

pub pin-requires-clause-room : goal.pin-requires-clause-room
pin-requires-clause-room g c =
    room_left g.N.BootName.table c.in-Some.group c.args.order c.in-Frame.frame (locked_state c.self.inside.locked c.args.cpu.now)
    (locked_state c.serve_outcome-outcome.new.locked c.serve_outcome-outcome.new.cpu) c.requires.1.0 c.in-Frame.ensures.served c.in-Frame.ensures.settled.1 c.requires.0

pub pin-requires-clause-frame : goal.pin-requires-clause-frame
pin-requires-clause-frame g c =
    given_inside g.N.BootName.table c.in-Some.group c.in-Frame.frame (locked_state c.self.inside.locked c.args.cpu.now)
    (locked_state c.serve_outcome-outcome.new.locked c.serve_outcome-outcome.new.cpu) c.args.order c.in-Frame.ensures.served c.in-Frame.ensures.settled.0
    c.prove_quiet-2.ensures.consistent

pub returns-then-pin : goal.returns-then-pin
returns-then-pin g c =
    let done = c.serve_outcome-outcome in
    serves_behind g.N.BootName.table (ServesPinned g.N.BootName.table c.args.group c.args.order (Frame c.in-Frame.frame)) _ _ _ _ _ c.self.view_is
    (record { quiet = c.prove_quiet.ensures.quiet; consistent = c.prove_quiet.ensures.consistent; charges = c.prove_quiet.ensures.charges })
    (record {
      between = locked_state done.new.locked done.new.cpu;
      allocates = subst (λ (k : ℕ). IsServed g.N.BootName.table (Alloc k c.args.order) (Frame c.in-Frame.frame) (locked_state c.self.inside.locked c.args.cpu.now) (locked_state done.new.locked done.new.cpu))
          c.in-Some.ensures.found.0 c.in-Frame.ensures.served;
      lock_kept = refl;
      asks = search rules;
    })
    (record { quiet = c.prove_quiet-2.ensures.quiet; consistent = c.prove_quiet-2.ensures.consistent; charges = c.prove_quiet-2.ensures.charges })

pub serve_outcome-released-requires : goal.serve_outcome-released-requires
serve_outcome-released-requires g c =
    given_inside g.N.BootName.table c.in-Some.group c.in-Frame.frame (locked_state c.self.inside.locked c.args.cpu.now)
    (locked_state c.serve_outcome-outcome.new.locked c.serve_outcome-outcome.new.cpu) c.args.order c.in-Frame.ensures.served c.in-Frame.ensures.settled.0
    c.prove_quiet-2.ensures.consistent

pub returns : goal.returns
returns g c =
    let done = c.serve_outcome-outcome in
    let missed = locked_state done.new.locked c.pin.new.cpu in
    let asks : MissesPin g.N.BootName.table c.in-Frame.frame done.new.cpu c.pin.new.cpu = search rules in
    serves_behind g.N.BootName.table (GivesUpBlock g.N.BootName.table c.args.group c.args.order) _ _ _ _ _ c.self.view_is
    (record { quiet = c.prove_quiet.ensures.quiet; consistent = c.prove_quiet.ensures.consistent; charges = c.prove_quiet.ensures.charges })
    (record {
      frame = c.in-Frame.frame;
      missed = missed;
      outcome = c.serve_outcome-released.result;
      allocates = record {
        between = locked_state done.new.locked done.new.cpu;
        allocates = subst (λ (k : ℕ). IsServed g.N.BootName.table (Alloc k c.args.order) (Frame c.in-Frame.frame) (locked_state c.self.inside.locked c.args.cpu.now) (locked_state done.new.locked done.new.cpu))
            c.in-Some.ensures.found.0 c.in-Frame.ensures.served;
        lock_kept = refl;
        asks = asks;
      };
      cause = missed_for g.N.BootName.table c.in-Frame.frame _ c.serve_outcome-released.result done.new.cpu missed _ asks c.serve_outcome-released.ensures.served;
      releases = c.serve_outcome-released.ensures.served;
    })
    (record { quiet = c.prove_quiet-3.ensures.quiet; consistent = c.prove_quiet-3.ensures.consistent; charges = c.prove_quiet-3.ensures.charges })
