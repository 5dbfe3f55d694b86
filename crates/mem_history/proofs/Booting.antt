-- The run of no step shows a new boot. Serves `a_boot_is_shown`.
use Rattle.std.proofs.Common.{◌≡◌, refl, sym, subst}
use Rattle.cpu_part.specs.Cpus.{KnownCpuLists}
use Rattle.step_rules.specs.State.{at_boot}
use Rattle.boot_words.specs.{KnownPasts, hide, zone_of_boot}
use Rattle.mem_machine.specs.{left_by}
use Rattle.mem_history.specs.{IsPartAt, ABootIsShown}

pub a_boot_is_shown : ABootIsShown
a_boot_is_shown t m cpus boot = record {
  legal = λ k. tt;
  free = refl;
  left = subst (λ (past : KnownPasts). left_by t past ≡ record (hide (at_boot (zone_of_boot t))) { hold = (left_by t past).hold }) (sym boot.machine.past) refl;
  count = boot.count;
  each = λ k c at. subst (λ (x : KnownCpuLists). IsPartAt (at_boot (zone_of_boot t)) k x) (sym (boot.each k c at)) (record {
    number = refl;
    own = record { list = refl; fresh = refl; back = refl; references = λ f. refl };
  });
}
