use Rattle.std.proofs.Common.{◌≡◌, ◌+◌, ◌-◌, ◌<◌, ◌++◌, ◌∷◌, [], All, length, sym, ap, ◌∙◌, subst, arith, rules}
use Rattle.std.specs.List.{remove}
use Rattle.std.proofs.lemmas.List.{map-append}
use Rattle.boot_words.specs.{IsAwayCpu, KnownCpuSeat, cpu_at_first, cpus_at_first, own_past, AllOf}
use Rattle.cpu_part.specs.Cpus.{IsIdle, first_cpu}
use Rattle.mem_system.specs.{first_cpus, first_pasts, CpuInRun, parts_of, pasts_of}
use Rattle.mem_system.proofs.Parts.{seats_left, front_is, cpus_next, cpus_idle, pasts_next}
use Rattle.mem_system.proofs.boots.make_cpus.Goals as goal

pub loop-dealt-init : goal.loop-dealt-init
loop-dealt-init g c = record {
  room = omega (arith, c.in_ok-made.ensures.capacity);
  size = c.in_ok-made.ensures.len;
  seats = c.requires.seats ∙ ap (cpus_at_first g.N.BootName.table.table 1) (let e : c.args.cpus ≡ c.args.cpus - 0 = omega arith in e);
  away = c.requires.away;
  parts = ap parts_of c.in_ok-made.ensures.items;
  pasts = ap pasts_of c.in_ok-made.ensures.items;
}

pub remove-requires : goal.remove-requires
remove-requires g c =
    let left = c.loop-dealt.invariant.seats ∙ seats_left g.N.BootName.table.table c.loop-dealt._dealt c.args.cpus c.loop-dealt-test.true in
    let some : 0 < length c.loop-dealt.seats.items = omega (arith, ap length left) in search rules

pub new-requires-clause-seat : goal.new-requires-clause-seat
new-requires-clause-seat g c =
    let id = g.N.BootName.table.table in
    let i = c.loop-dealt._dealt in
    let front = front_is _ (cpu_at_first id (i + 1)) _ _ (c.loop-dealt.invariant.seats ∙ seats_left id i c.args.cpus c.loop-dealt-test.true) c.remove.ensures.value in
    front ∙ ap (cpu_at_first id) (sym (ap (λ (s : KnownCpuSeat). s.number) front))

pub new-requires-clause-away : goal.new-requires-clause-away
new-requires-clause-away g c =
    let t = g.N.BootName.table in
    let left = c.loop-dealt.invariant.seats ∙ seats_left t.table c.loop-dealt._dealt c.args.cpus c.loop-dealt-test.true in
    subst (IsAwayCpu t) (sym (front_is _ _ _ _ left c.remove.ensures.value)) (subst (AllOf (IsAwayCpu t)) left c.loop-dealt.invariant.away).0

pub take_apart-requires : goal.take_apart-requires
take_apart-requires g c = subst (All IsIdle) (sym c.loop-dealt.invariant.parts) (cpus_idle 1 c.loop-dealt._dealt)

pub loop-dealt-preserved : goal.loop-dealt-preserved
loop-dealt-preserved g c =
    let t = g.N.BootName.table in
    let i = c.loop-dealt._dealt in
    let left = c.loop-dealt.invariant.seats ∙ seats_left t.table i c.args.cpus c.loop-dealt-test.true in
    let front = front_is _ (cpu_at_first t.table (i + 1)) _ _ left c.remove.ensures.value in
    let rest = c.remove.ensures.items ∙ ap (λ l. remove l 0) left in
    record {
      room = omega (arith, c.push_reserved.ensures.capacity, c.loop-dealt.invariant.room);
      size = omega (arith, c.push_reserved.ensures.len, c.loop-dealt.invariant.size);
      seats = rest;
      away = subst (AllOf (IsAwayCpu t)) (sym rest) (subst (AllOf (IsAwayCpu t)) left c.loop-dealt.invariant.away).1;
      parts = ap parts_of c.push_reserved.ensures.items ∙ map-append (λ (x : CpuInRun). x.part) c.loop-dealt.made.items (c.in-Ok.cpu ∷ [])
          ∙ (λ j. c.loop-dealt.invariant.parts j ++ (ap (λ (x : CpuInRun). x.part) c.in-Ok.ensures ∙ ap (λ (s : KnownCpuSeat). first_cpu s.number) front) j ∷ [])
          ∙ sym (cpus_next i);
      pasts = ap pasts_of c.push_reserved.ensures.items ∙ map-append (λ (x : CpuInRun). own_past x.past) c.loop-dealt.made.items (c.in-Ok.cpu ∷ [])
          ∙ (λ j. c.loop-dealt.invariant.pasts j ++ (ap (λ (x : CpuInRun). own_past x.past) c.in-Ok.ensures ∙ ap (λ (s : KnownCpuSeat). own_past s.past) front) j ∷ [])
          ∙ sym (pasts_next i);
    }

pub returns : goal.returns
returns g c =
    let all : c.loop-dealt._dealt ≡ c.args.cpus = omega arith in record {
      parts = c.loop-dealt.invariant.parts ∙ ap (first_cpus 1) all;
      pasts = c.loop-dealt.invariant.pasts ∙ ap (first_pasts 1) all;
    }
