-- Serves the contract of `execute`: what each command did, in the words of the command that it is.
use Rattle.std.proofs.Common.{◌≡◌, ◌∙◌, [], ap, arith, length, refl, subst}
use Rattle.zone_blocks.specs.declared.config.Config.{Config}
use Rattle.cpu_part.specs.Cpus.{KnownCpuLists}
use Rattle.mem_machine.proofs.Followed.{makes_none}
use Rattle.mem_system.specs.{ListAndFreshStayWithin, NamesWhatExists}
use Rattle.mem_machine.proofs.Made.{visit_same}
use Rattle.mem_system.proofs.Keeping.{keeps_visit}
use Rattle.mem_system.proofs.command.execute.Goals as goal

-- a CPU without fresh frames has at most `high` frames, if its list has
none_fresh : (sizes : Config) (cpu : KnownCpuLists) → cpu.fresh ≡ [] → ListAndFreshStayWithin sizes cpu cpu
none_fresh sizes cpu none = λ within. let no_more = ap length none in omega (arith, no_more, within)

pub make_group-requires : goal.make_group-requires
make_group-requires g c = record { held = c.requires.visit.visit.held }

pub write_setting-requires : goal.write_setting-requires
write_setting-requires g c = record {
  there = subst (NamesWhatExists g.N.BootName.table c.args.machine.now.ledger.groups) c.in-Write.is c.requires.names;
  held = c.requires.visit.visit.held;
}

pub remove_group-requires : goal.remove_group-requires
remove_group-requires g c = record {
  there = subst (NamesWhatExists g.N.BootName.table c.args.machine.now.ledger.groups) c.in-Rmdir.is c.requires.names;
  held = c.requires.visit.visit.held;
}

pub read_file-requires : goal.read_file-requires
read_file-requires g c =
    let names = subst (NamesWhatExists g.N.BootName.table c.args.machine.now.ledger.groups) c.in-Read.is c.requires.names in
    record { there = names.0; below_root = names.1 }

pub allocate-requires-clause-there : goal.allocate-requires-clause-there
allocate-requires-clause-there g c = subst (NamesWhatExists g.N.BootName.table c.args.machine.now.ledger.groups) c.in-Alloc.is c.requires.names

pub report_place-requires : goal.report_place-requires
report_place-requires g c = subst (NamesWhatExists g.N.BootName.table c.args.machine.now.ledger.groups) c.in-Owner.is c.requires.names

pub touch_frame-requires : goal.touch_frame-requires
touch_frame-requires g c = subst (NamesWhatExists g.N.BootName.table c.args.machine.now.ledger.groups) c.in-Touch.is c.requires.names

pub note_dirt-requires : goal.note_dirt-requires
note_dirt-requires g c = subst (NamesWhatExists g.N.BootName.table c.args.machine.now.ledger.groups) c.in-Dirty.is c.requires.names

pub returns-in-Mkdir : goal.returns-in-Mkdir
returns-in-Mkdir g c =
    let told = c.make_group.ensures in
    let does = told.made in
    rw c.in-Mkdir.is (record {
      executed = record { steps = does.steps; does = record { does = does.does; cpu = refl }; makes = does.makes };
      groups = told.groups;
      stays = keeps_visit g.N.BootName.table c.args.machine.now c.make_group.new.machine c.args.cpu.now (told.visit c.args.cpu.now c.requires.visit.visit);
      fresh = c.requires.visit.settled.0;
      at_most_high = none_fresh c.args.sizes c.args.cpu.now c.requires.visit.settled.0;
    })

pub returns-in-Touch : goal.returns-in-Touch
returns-in-Touch g c =
    let told = c.touch_frame.ensures in
    let does = told.touched in
    rw c.in-Touch.is (record {
      executed = record { steps = does.steps; does = record { does = does.does; cpu = refl }; makes = does.makes };
      groups = told.groups;
      stays = keeps_visit g.N.BootName.table c.args.machine.now c.touch_frame.new.machine c.args.cpu.now
          (visit_same g.N.BootName.table c.args.machine.now c.touch_frame.new.machine c.args.cpu.now does.does.run c.requires.visit.visit);
      fresh = c.requires.visit.settled.0;
      at_most_high = none_fresh c.args.sizes c.args.cpu.now c.requires.visit.settled.0;
    })

pub returns-in-Dirty : goal.returns-in-Dirty
returns-in-Dirty g c =
    let told = c.note_dirt.ensures in
    let does = told.noted in
    rw c.in-Dirty.is (record {
      executed = record { steps = does.steps; does = record { does = does.does; cpu = refl }; makes = does.makes };
      groups = told.groups;
      stays = keeps_visit g.N.BootName.table c.args.machine.now c.note_dirt.new.machine c.args.cpu.now
          (visit_same g.N.BootName.table c.args.machine.now c.note_dirt.new.machine c.args.cpu.now does.does.run c.requires.visit.visit);
      fresh = c.requires.visit.settled.0;
      at_most_high = none_fresh c.args.sizes c.args.cpu.now c.requires.visit.settled.0;
    })

pub returns-in-Clean : goal.returns-in-Clean
returns-in-Clean g c =
    let told = c.note_dirt-in-Clean.ensures in
    let does = told.noted in
    rw c.in-Clean.is (record {
      executed = record { steps = does.steps; does = record { does = does.does; cpu = refl }; makes = does.makes };
      groups = told.groups;
      stays = keeps_visit g.N.BootName.table c.args.machine.now c.note_dirt-in-Clean.new.machine c.args.cpu.now
          (visit_same g.N.BootName.table c.args.machine.now c.note_dirt-in-Clean.new.machine c.args.cpu.now does.does.run c.requires.visit.visit);
      fresh = c.requires.visit.settled.0;
      at_most_high = none_fresh c.args.sizes c.args.cpu.now c.requires.visit.settled.0;
    })

pub returns-in-Write : goal.returns-in-Write
returns-in-Write g c =
    let told = c.write_setting.ensures in
    let does = told.written in
    rw c.in-Write.is (record {
      executed = record { steps = does.steps; does = record { does = does.does; cpu = refl }; makes = does.makes };
      groups = told.groups;
      stays = keeps_visit g.N.BootName.table c.args.machine.now c.write_setting.new.machine c.args.cpu.now (told.visit c.args.cpu.now c.requires.visit.visit);
      fresh = c.requires.visit.settled.0;
      at_most_high = none_fresh c.args.sizes c.args.cpu.now c.requires.visit.settled.0;
    })

pub returns-in-Rmdir : goal.returns-in-Rmdir
returns-in-Rmdir g c =
    let told = c.remove_group.ensures in
    let does = told.removed in
    rw c.in-Rmdir.is (record {
      executed = record { steps = does.steps; does = record { does = does.does; cpu = refl }; makes = does.makes };
      groups = told.groups;
      stays = keeps_visit g.N.BootName.table c.args.machine.now c.remove_group.new.machine c.args.cpu.now (told.visit c.args.cpu.now c.requires.visit.visit);
      fresh = c.requires.visit.settled.0;
      at_most_high = none_fresh c.args.sizes c.args.cpu.now c.requires.visit.settled.0;
    })

pub returns-in-Release : goal.returns-in-Release
returns-in-Release g c =
    let told = c.release_frame.ensures in
    let fresh = told.fresh ∙ c.requires.visit.settled.0 in
    rw c.in-Release.is (record {
      executed = told.released;
      groups = told.groups;
      stays = told.stays;
      fresh = fresh;
      at_most_high = λ within.
          let listed = told.at_most_high within in
          let none = ap length fresh in
          omega (arith, listed, none);
    })

pub returns-in-Alloc : goal.returns-in-Alloc
returns-in-Alloc g c =
    let told = c.allocate.ensures in
    rw c.in-Alloc.is (record {
      executed = told.allocates;
      groups = told.groups;
      stays = told.stays;
      fresh = told.fresh;
      at_most_high = told.at_most_high;
    })

pub returns-in-Read : goal.returns-in-Read
returns-in-Read g c =
    rw c.in-Read.is (record {
      executed = record {
        steps = [];
        does = (c.read_file.ensures.read, record { machine = refl; cpu = refl; steps_are = refl });
        makes = makes_none g.N.BootName.table c.args.machine.now;
      };
      groups = c.read_file.ensures.groups;
      stays = keeps_visit g.N.BootName.table c.args.machine.now c.args.machine.now c.args.cpu.now c.requires.visit.visit;
      fresh = c.requires.visit.settled.0;
      at_most_high = none_fresh c.args.sizes c.args.cpu.now c.requires.visit.settled.0;
    })

pub returns-in-Owner : goal.returns-in-Owner
returns-in-Owner g c =
    rw c.in-Owner.is (record {
      executed = record {
        steps = [];
        does = (c.report_place.ensures.place, record { machine = refl; cpu = refl; steps_are = refl });
        makes = makes_none g.N.BootName.table c.args.machine.now;
      };
      groups = c.report_place.ensures.groups;
      stays = keeps_visit g.N.BootName.table c.args.machine.now c.args.machine.now c.args.cpu.now c.requires.visit.visit;
      fresh = c.requires.visit.settled.0;
      at_most_high = none_fresh c.args.sizes c.args.cpu.now c.requires.visit.settled.0;
    })

pub returns-in-Settle : goal.returns-in-Settle
returns-in-Settle g c =
    rw c.in-Settle.is (record {
      executed = record {
        steps = [];
        does = (refl, record { machine = refl; cpu = refl; steps_are = refl });
        makes = makes_none g.N.BootName.table c.args.machine.now;
      };
      groups = tt;
      stays = keeps_visit g.N.BootName.table c.args.machine.now c.args.machine.now c.args.cpu.now c.requires.visit.visit;
      fresh = c.requires.visit.settled.0;
      at_most_high = none_fresh c.args.sizes c.args.cpu.now c.requires.visit.settled.0;
    })
