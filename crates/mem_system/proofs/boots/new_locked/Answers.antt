use Rattle.std.proofs.Common.{ap, rules}
use Rattle.step_rules.specs.{visits, Run, state_of}
use Rattle.boot_words.specs.{KnownPasts, own_past, zone_of_boot}
use Rattle.mem_system.proofs.Counted.{first_counted}
use Rattle.mem_system.proofs.boots.new_locked.Goals as goal

pub invariant_of-result : goal.invariant_of-result
invariant_of-result g c =
    let made = c.in_ok-machine.ensures in
    let none = ap (λ (s : KnownPasts). (own_past s).seen) made.first.past in
    record {
      quiet = record {
        shut = λ cpu. ap (λ (run : Run). visits cpu (state_of (zone_of_boot g.N.BootName.table) run).hold) none;
        rests = made.rests;
        counted = first_counted g.N.BootName.table c.in_ok-machine.machine made.first;
        valid = c.requires.valid;
        sized = c.requires.sized;
      };
      seats = search rules;
    }
