use Rattle.std.proofs.Common.{◌≡◌, ◌≤◌, ◌∙◌, ◌++◌, ℕ, Some, List, drop, length, refl, rules, subst, sym, take}
use Rattle.std.proofs.lemmas.List.{take-append-le, take_all}
use Rattle.std.specs.Borrow.{Bor}
use Rattle.group_tree.specs.declared.group.Group.{Group}
use Rattle.group_tree.specs.Groups.{number_at, path_of}
use Rattle.group_charge.specs.Charges.{AreCharges, Ledger}
use Rattle.mem_system.specs.Cpus.{CpuInRun}
use Rattle.script_lines.specs.declared.line.Command.TheVariants as cmd
use Rattle.script_replay.specs.{system_state, SaysCommand}
use Rattle.tempolemon_c.specs.{CallsLive, IsCpu, KnownLive}
use Rattle.tempolemon_c.specs.declared.calls.Call.TheVariants.{Alloc}
use Rattle.tempolemon_c.specs.declared.calls.CallAnswer.TheVariants.{Served}
use Rattle.tempolemon_c.proofs.Finding.{block_taken}
use Rattle.tempolemon_c.proofs.live.Live.take_block.Goals as goal

pub returns : goal.returns
returns g c =
    let live : KnownLive = record {
      sizes = c.self.inside.sizes;
      state = system_state c.self.inside.locked c.self.inside.cpus.items;
      unread_answer = c.self.inside.unread_answer.items;
    } in
    let group = c.args.group in
    let seen = c.path_of.result.now in
    let in_ledger : path_of live.state.locked.machine.ledger.groups group ≡ Some seen =
    subst (λ (l : Ledger). path_of l.groups group ≡ Some seen) c.charges.ensures
    (subst (λ (groups : List Group). path_of groups group ≡ Some seen) c.tree.ensures.tree c.path_of.ensures.value) in
    let is : path_of live.state.locked.machine.ledger.groups group ≡ Some c.as_bytes-path.result.now =
    subst (λ (path : List ℕ). path_of live.state.locked.machine.ledger.groups group ≡ Some path) (sym c.as_bytes-path.ensures.text) in_ledger in
    let left : KnownLive = record {
      sizes = c.self.inside.sizes;
      state = system_state c.alloc_value.new.locked c.alloc_value.new.cpus;
      unread_answer = c.self.inside.unread_answer.items;
    } in
    let says : (named : Bor (List ℕ)) → number_at live.state.locked.machine.ledger.groups named.now ≡ Some group
    → SaysCommand g.N.BootName.table c.args.cpu (cmd.Alloc named c.args.order) live.state left.state
    c.alloc_value.result =
    λ named found. subst (λ cpus. SaysCommand g.N.BootName.table c.args.cpu (cmd.Alloc named c.args.order)
    (system_state c.self.inside.locked cpus) left.state c.alloc_value.result)
    c.deref_mut.ensures.value (c.alloc_value.ensures.answer named found) in
    let most : c.args.cpu ≤ c.self.inside.sizes.cpus = search rules in
    let exists : IsCpu c.self.inside.sizes.cpus c.args.cpu = record { low = c.requires.there.low; high = most } in
    let frames = g.N.BootName.table in
    let inside = c.self.inside in
    let cpus = c.alloc_value.new.cpus in
    let short : inside.cpus.len ≤ length cpus = search rules in
    let long : length cpus ≤ inside.cpus.len = search rules in
    let same : take inside.cpus.len (cpus ++ drop (length cpus) inside.cpus.items) ≡ cpus
    = take-append-le inside.cpus.len cpus (drop (length cpus) inside.cpus.items) short ∙ take_all inside.cpus.len cpus long in
    subst (λ (from : KnownLive). CallsLive frames c.args.cpu (Alloc group c.args.order) from
    (record {
      sizes = inside.sizes;
      state = system_state c.alloc_value.new.locked (take inside.cpus.len (cpus ++ drop (length cpus) inside.cpus.items));
      unread_answer = inside.unread_answer.items;
    }) (Served c.alloc_value.result)) c.self.view_is
    (subst (λ (l : List CpuInRun). CallsLive frames c.args.cpu (Alloc group c.args.order) live
    (record { sizes = inside.sizes; state = system_state c.alloc_value.new.locked l; unread_answer = inside.unread_answer.items })
    (Served c.alloc_value.result)) (sym same)
    (block_taken frames c.args.cpu group c.args.order live left c.alloc_value.result c.as_bytes-path.result exists
    (subst AreCharges c.charges.ensures c.tree.ensures.legal) is says c.alloc_value.ensures.groups (record { sizes = refl; unread_answer = refl })))
