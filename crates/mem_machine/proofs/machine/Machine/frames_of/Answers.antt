use Rattle.std.proofs.Common.{◌≡◌, ◌<◌, false, true, length, arith, rules}
use Rattle.group_tree.specs.Groups.{has_group}
use Rattle.mem_machine.specs.Kept.{machine_of}
use Rattle.group_tree.proofs.CallerLemmas.{number_in_room}
use Rattle.mem_machine.proofs.Entries.{entry_read}
use Rattle.mem_machine.proofs.Staying.{frames_none, frames_rest}
use Rattle.mem_machine.proofs.machine.Machine.frames_of.Goals as goal

pub returns-then-not-contains : goal.returns-then-not-contains
returns-then-not-contains g c =
    let gone : has_group c.self.inside.charges.groups c.args.group ≡ false = search rules in
    frames_none g.N.BootName.table (machine_of c.self.inside) _ c.self.view_is c.self.invariant.consistent c.tree.ensures.legal c.args.group gone

pub index-requires : goal.index-requires
index-requires g c =
    let there : has_group c.self.inside.charges.groups c.args.group ≡ true = search rules in
    let low = number_in_room c.self.inside.charges.groups c.args.group c.tree.ensures.legal.groups there in
    let inside : c.args.group < length c.self.inside.sums.items = omega (arith, low, c.self.invariant.consistent.sizes.killed, c.self.invariant.sums.size) in
    omega (arith, inside, c.number.ensures.value)

pub overflow_sub-own_pages : goal.overflow_sub-own_pages
overflow_sub-own_pages g c =
    let there : has_group c.self.inside.charges.groups c.args.group ≡ true = search rules in
    let low = number_in_room c.self.inside.charges.groups c.args.group c.tree.ensures.legal.groups there in
    let inside : c.args.group < length c.self.inside.sums.items = omega (arith, low, c.self.invariant.consistent.sizes.killed, c.self.invariant.sums.size) in
    let read = entry_read _ _ _ _ c.number.ensures.value inside c.index.ensures in
    let all = frames_rest g.N.BootName.table _ _ c.self.view_is c.self.invariant.consistent _ c.self.invariant.sums c.args.group in
    omega (arith, all, read, c.own_pages.ensures)

pub returns : goal.returns
returns g c =
    let there : has_group c.self.inside.charges.groups c.args.group ≡ true = search rules in
    let low = number_in_room c.self.inside.charges.groups c.args.group c.tree.ensures.legal.groups there in
    let inside : c.args.group < length c.self.inside.sums.items = omega (arith, low, c.self.invariant.consistent.sizes.killed, c.self.invariant.sums.size) in
    let read = entry_read _ _ _ _ c.number.ensures.value inside c.index.ensures in
    let all = frames_rest g.N.BootName.table _ _ c.self.view_is c.self.invariant.consistent _ c.self.invariant.sums c.args.group in
    omega (arith, all, read, c.own_pages.ensures, c.from.ensures)
