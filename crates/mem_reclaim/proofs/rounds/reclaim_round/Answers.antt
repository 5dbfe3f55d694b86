use Rattle.std.proofs.Common.{◌≡◌, sym, subst, rules}
use Rattle.mem_machine.specs.Machines.{KnownMachine, with_note}
use Rattle.mem_reclaim.specs.Staying.{MissedAll}
use Rattle.mem_reclaim.specs.Rounds.{round_note}
use Rattle.mem_reclaim.proofs.Rounding.{round_noted}
use Rattle.mem_reclaim.proofs.rounds.reclaim_round.Goals as goal

pub returns-clause-makes : goal.returns-clause-makes
returns-clause-makes g c =
    let x = c.reclaim-reclaimed.new.machine in
    let freed = c.reclaim-reclaimed.result.pages in
    let noted : c.note.new.self ≡ with_note x (round_note c.args.group c.args.number freed c.args.machine.now x) = search rules in
    (round_noted g.N.BootName.table c.args.group c.args.number c.args.want c.args.machine.now freed x c.note.new.self c.reclaim-reclaimed.ensures.reclaims
    c.reclaim-reclaimed.ensures.keeps noted).makes

pub returns-clause-keeps : goal.returns-clause-keeps
returns-clause-keeps g c =
    let x = c.reclaim-reclaimed.new.machine in
    let freed = c.reclaim-reclaimed.result.pages in
    let noted : c.note.new.self ≡ with_note x (round_note c.args.group c.args.number freed c.args.machine.now x) = search rules in
    (round_noted g.N.BootName.table c.args.group c.args.number c.args.want c.args.machine.now freed x c.note.new.self c.reclaim-reclaimed.ensures.reclaims
    c.reclaim-reclaimed.ensures.keeps noted).keeps

pub returns-clause-missed : goal.returns-clause-missed
returns-clause-missed g c less =
    let x = c.reclaim-reclaimed.new.machine in
    let freed = c.reclaim-reclaimed.result.pages in
    let noted : c.note.new.self ≡ with_note x (round_note c.args.group c.args.number freed c.args.machine.now x) = search rules in
    subst (λ (y : KnownMachine). MissedAll c.args.group c.args.machine.now y) (sym noted) (λ other inside. c.reclaim-reclaimed.ensures.missed less other inside)
