use Rattle.std.proofs.Common.{◌≡◌, ◌<◌, ◌++◌, ◌∷◌, [], ◌∙◌, All, List, length, map, arith, rules, ap, subst, sym, append-nil, append_assoc}
use Rattle.std.proofs.lemmas.List.{nil_from_length}
use Rattle.std.proofs.lemmas.List.Elements.{All-head, All-tail}
use Rattle.boot_words.specs.{KnownCpuSeat, AllOf}
use Rattle.cpu_part.specs.Cpus.{IsIdle}
use Rattle.mem_system.specs.Cpus.{CpuInRun, KnowsItself, seat_of}
use Rattle.mem_system.proofs.Gathering.{front_of}
use Rattle.mem_system.proofs.InTurns.{parts_all}
use Rattle.mem_system.proofs.emptied_boot.gather_seats.Goals as goal

pub loop-seats-init : goal.loop-seats-init
loop-seats-init g c =
    let empty = c.requires.room.empty in
    let enough = c.requires.room.enough in record {
      idle = parts_all IsIdle c.args.cpus.items c.requires.idle;
      room = omega (arith, empty, enough);
      seats = ap (λ (l : List KnownCpuSeat). l ++ map seat_of c.args.cpus.items) (nil_from_length c.args.seats.items empty);
      knows = λ knows. knows;
    }

pub into_seat-requires : goal.into_seat-requires
into_seat-requires g c =
    let some : 0 < length c.loop-seats.cpus.items = search rules in
    let front = front_of c.loop-seats.cpus.items c.remove.result some c.remove.ensures.value in
    All-head (λ (cpu : CpuInRun). IsIdle cpu.part) _ _ (subst (All (λ cpu. IsIdle cpu.part)) front c.loop-seats.invariant.idle)

pub loop-seats-preserved : goal.loop-seats-preserved
loop-seats-preserved g c =
    let t = g.N.BootName.table in
    let some : 0 < length c.loop-seats.cpus.items = search rules in
    let front = front_of c.loop-seats.cpus.items c.remove.result some c.remove.ensures.value in
    let was = c.loop-seats.invariant in
    let left = c.remove.ensures.items in
    let pushed = c.push_reserved.ensures.items in
    let given = c.into_seat.ensures in
    let Idle : CpuInRun → Type 0 = λ cpu. IsIdle cpu.part in
    let before = was.room in
    let one = c.push_reserved.ensures.len in
    let room = c.push_reserved.ensures.capacity in record {
      idle = subst (All Idle) (sym left) (All-tail Idle _ _ (subst (All Idle) front was.idle));
      room = omega (arith, before, one, room, ap length front, ap length left);
      seats = (λ i. (pushed ∙ ap (λ (s : KnownCpuSeat). c.loop-seats.seats.items ++ s ∷ []) given.seat) i ++ map seat_of (left i))
          ∙ append_assoc c.loop-seats.seats.items (seat_of c.remove.result ∷ []) _
          ∙ ap (λ (l : List CpuInRun). c.loop-seats.seats.items ++ map seat_of l) (sym front) ∙ was.seats;
      knows = λ rest. was.knows (subst (AllOf (KnowsItself t)) (sym front) (given.knows, subst (AllOf (KnowsItself t)) left rest));
    }

pub returns : goal.returns
returns g c =
    let none : length c.loop-seats.cpus.items ≡ 0 = search rules in
    let empty = nil_from_length c.loop-seats.cpus.items none in record {
      seats = sym (ap (λ (l : List CpuInRun). c.loop-seats.seats.items ++ map seat_of l) empty ∙ append-nil c.loop-seats.seats.items) ∙ c.loop-seats.invariant.seats;
      knows = c.loop-seats.invariant.knows (subst (AllOf (KnowsItself g.N.BootName.table)) (sym empty) tt);
    }
