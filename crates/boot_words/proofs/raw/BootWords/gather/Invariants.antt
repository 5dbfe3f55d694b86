use Rattle.std.proofs.Common.{◌≡◌, ◌++◌, length}
use Rattle.std.specs.Vec.Iter.{into_iter_items, into_iter_len}
use Rattle.boot_words.specs.{AllOf, HasCpuPast, pasts_of_cpus}
use Rattle.boot_words.proofs.raw.BootWords.gather.Given as goal

abbrev pub invariant-loop-cpu : goal.invariant-loop-cpu
invariant-loop-cpu l = record {
  table : l.zone.table ≡ l.self.table;
  left : AllOf (HasCpuPast l.self) (into_iter_items l.cpu-iterator);
  counted : into_iter_len l.cpu-iterator ≡ length (into_iter_items l.cpu-iterator);
  pasts : l.zone.pasts ++ pasts_of_cpus (into_iter_items l.cpu-iterator) ≡ l.initial.zone.pasts ++ pasts_of_cpus (into_iter_items l.initial.cpu-iterator);
}
