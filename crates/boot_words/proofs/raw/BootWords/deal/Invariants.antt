use Rattle.std.proofs.Common.{◌≡◌, ◌≤◌, ◌+◌, ◌-◌, ◌++◌, vec_capacity, vec_len}
use Rattle.boot_words.specs.{cpus_at_first, cpus_pasts}
use Rattle.boot_words.proofs.raw.BootWords.deal.Given as goal

abbrev pub invariant-loop-cpu : goal.invariant-loop-cpu
invariant-loop-cpu l = record {
  table : l.rest.table ≡ l.self.table;
  range : l.cpu ≤ l.cpus + 1;
  pasts : l.rest.pasts ≡ cpus_pasts l.cpu (l.cpus + 1 - l.cpu);
  room : vec_capacity l.seats ≡ l.cpus;
  number : vec_len l.seats + 1 ≡ l.cpu;
  seats : l.seats.items ++ cpus_at_first l.self.table l.cpu (l.cpus + 1 - l.cpu) ≡ cpus_at_first l.self.table 1 l.cpus;
}
