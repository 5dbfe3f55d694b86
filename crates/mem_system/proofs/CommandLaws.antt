-- Laws of commands and of the end. Serves `laws`.
use Rattle.std.proofs.Common.{◌≡◌, ◌⊎◌, ℕ, ◌≤◌, Bool, true, false, List, [], ◌∷◌, ◌++◌, length, refl, sym, subst, ap, ◌∙◌, inl, inr, arith, length-append}
use Rattle.std.specs.Prelude.{is_some}
use Rattle.std.proofs.lemmas.Bool.{cases_eq, cases_lt}
use Rattle.std.proofs.lemmas.List.{append-nil, length-take-le, nil_from_length}
use Rattle.std.specs.Borrow.{Bor}
use Rattle.group_tree.specs.declared.group.Group.{Group}
use Rattle.group_tree.specs.declared.fault.Fault.{Fault}
use Rattle.group_tree.specs.declared.fault.Fault.TheVariants as fault
use Rattle.control_files.specs.declared.file.File.{File}
use Rattle.control_files.specs.declared.file.File.TheVariants.{Reclaim}
use Rattle.zone_blocks.specs.declared.config.Config.{Config}
use Rattle.zone_blocks.specs.Config.{IsValidConfig}
use Rattle.control_files.specs.Files.{name_of_file}
use Rattle.cpu_part.specs.Cpus.{KnownCpuLists}
use Rattle.step_rules.specs.{one_if, Run}
use Rattle.mem_machine.specs.{KnownMachine, VisitState, visit_state, home_of, settle_steps, open_steps, shut_steps, Transition, transition}
use Rattle.mem_reclaim.specs.Moves.{has_kill, kills_in}
use Rattle.mem_reclaim.proofs.KillSets.{kills_both, quiet_kills}
use Rattle.mem_system.specs.declared.command.LockedCommand.{LockedCommand}
use Rattle.mem_system.specs.declared.command.LockedCommand.TheVariants as cmd
use Rattle.mem_system.specs.declared.outcome.Outcome.{Outcome}
use Rattle.mem_system.specs.declared.outcome.Outcome.TheVariants as outcome
use Rattle.mem_system.specs.declared.setting.Setting.{Setting}
use Rattle.mem_system.specs.declared.setting.Setting.TheVariants as setting
use Rattle.mem_system.specs.declared.text_command.TextCommand.TheVariants.{Write}
use Rattle.mem_system.specs.Files.{FallsShort}
use Rattle.mem_system.specs.Settings.{WritesSetting}
use Rattle.mem_system.specs.TextCommands.{StandsFor}
use Rattle.mem_system.specs.{Executes}
use Rattle.mem_system.specs.{EndsLeaveEmptyWords, OnlyCommandsKill, OnlyReclaimFallsShort, ReleasesCutLists, ListStaysWithin, ListsFrame}
use Rattle.mem_system.specs.{ReturnsFrames, visit_state_of}
use Rattle.mem_system.proofs.Listing.{cut_off}

-- ---- whom the steps of a visit kill

-- of three parts and what comes among them, only that kills
kills_inside : (a b inner c : Run) → has_kill (a ++ (b ++ ([] ++ c))) ≡ false → kills_in (a ++ (b ++ (inner ++ c))) ≡ kills_in inner
kills_inside a b inner c quiet =
    let none = ap length (sym (kills_both a (b ++ c) ∙ ap (λ (k : List ℕ). kills_in a ++ k) (kills_both b c)) ∙ quiet_kills (a ++ (b ++ c)) quiet) in
    let first = length-append (kills_in a) (kills_in b ++ kills_in c) in
    let rest = length-append (kills_in b) (kills_in c) in
    let in_a = nil_from_length (kills_in a) (omega (arith, none, first, rest)) in
    let in_b = nil_from_length (kills_in b) (omega (arith, none, first, rest)) in
    let in_c = nil_from_length (kills_in c) (omega (arith, none, first, rest)) in
    kills_both a (b ++ (inner ++ c))
    ∙ ap (λ (k : List ℕ). k ++ kills_in (b ++ (inner ++ c))) in_a
    ∙ kills_both b (inner ++ c)
    ∙ ap (λ (k : List ℕ). k ++ kills_in (inner ++ c)) in_b
    ∙ kills_both inner c
    ∙ ap (λ (k : List ℕ). kills_in inner ++ k) in_c
    ∙ append-nil (kills_in inner)

pub only_commands_kill : OnlyCommandsKill
only_commands_kill cmd said call served =
    let before = visit_state_of call.before in
    ap kills_in served.steps_are
    ∙ kills_inside (open_steps before.cpu.number) (settle_steps call.table before) served.inner (shut_steps before.cpu.number) served.only_inner

-- ---- a Write that is refused

short_file : (file : File) (value : List ℕ) (s : Setting) (g : ℕ) (call : Transition KnownMachine) → WritesSetting file value s → FallsShort g s call
    → file ≡ Reclaim
short_file file value (setting.Reclaim asked) g call writes short = writes.0
short_file file value other g call writes short = absurd short

refused_write : (groups : List Group) (path name value : Bor (List ℕ)) (c : LockedCommand) (why : Fault) (sizes : Config) (call : Transition VisitState)
    → StandsFor groups (Write path name value) c → Executes sizes c (outcome.Refused why) call
    → ((call.after.machine ≡ call.before.machine) × (call.steps ≡ [])) ⊎ ((name.now ≡ name_of_file Reclaim) × (why ≡ fault.Again))
refused_write groups path name value (cmd.Write g s) fault.NoFile sizes call stands h = inl (h.does.1.machine, h.does.1.steps_are)
refused_write groups path name value (cmd.Write g s) fault.Again sizes call stands h =
    inr (stands.is_file.named ∙ ap name_of_file (short_file stands.file value.now s g _ stands.writes h.does.1), refl)
refused_write groups path name value (cmd.Write g s) other sizes call stands h = absurd h.does
refused_write groups path name value other why sizes call stands h = absurd stands

pub only_reclaim_falls_short : OnlyReclaimFallsShort
only_reclaim_falls_short t path file value why before after served =
    let visit = served.visit.serves in
    let call = transition t visit.settled visit.inner (visit_state visit.done after.cpu.part) in
    elim served.stands [
      | inl is ↦ refused_write before.locked.machine.ledger.groups path file value served.served why before.locked.sizes call is.0
          (subst (λ (o : Outcome). Executes before.locked.sizes served.served o call) (sym is.1) visit.executes)
      | inr none ↦
          let settled = subst (λ (c : LockedCommand). Executes before.locked.sizes c served.given call) none.1 visit.executes in
          inl (settled.1.machine, settled.1.steps_are)
    ]

-- ---- the list after a Release

same_within : (sizes : Config) (c d : KnownCpuLists) → d ≡ c → ListStaysWithin sizes c d
same_within sizes c d same within = let long = ap (λ (e : KnownCpuLists). length e.list) same in omega (arith, long, within)

lists_within : (sizes : Config) (f : ℕ) (call : Transition VisitState) → IsValidConfig sizes → ListsFrame sizes f call
    → ListStaysWithin sizes call.before.cpu call.after.cpu
lists_within sizes f call valid lists within =
    let cuts = lists.cuts in
    let before = call.before.cpu.list in
    let split = ap length (cut_off cuts.cut call.before.machine call.before.cpu lists.mid.machine lists.mid.cpu cuts.takes).split in
    let parts = length-append cuts.cut lists.mid.cpu.list in
    let added = ap (λ (e : KnownCpuLists). length e.list) lists.lends.cpu in
    let one = length-append lists.mid.cpu.list (f ∷ []) in
    let some = valid.batch_low in
    let low = valid.high_low in
    elim (cases_lt (length before) sizes.high) [
      | inl less ↦
          let none = ap length (cuts.below_high less) in
          omega (arith, split, parts, added, one, none, less)
      | inr enough ↦
          let taken = ap length (cuts.at_high enough) ∙ length-take-le sizes.batch before (omega (arith, low, enough)) in
          omega (arith, split, parts, added, one, taken, some, within)
    ]

returns_within : (sizes : Config) (f : ℕ) (call : Transition VisitState) → IsValidConfig sizes → ReturnsFrames sizes f call
    → ListStaysWithin sizes call.before.cpu call.after.cpu
returns_within sizes f call valid returns = elim (cases_eq returns.returns.unit.order 0) [
  | inl single ↦
      lists_within sizes f (transition call.table (visit_state returns.freed call.before.cpu) returns.listing call.after) valid (returns.single single)
  | inr block ↦ same_within sizes call.before.cpu call.after.cpu (returns.block block).cpu
]

pub releases_cut_lists : ReleasesCutLists
releases_cut_lists sizes f (outcome.Left left) call valid h = same_within sizes call.before.cpu call.after.cpu h.cpu
releases_cut_lists sizes f outcome.Returned call valid h = returns_within sizes f call valid h
releases_cut_lists sizes f (outcome.Refused fault.NotKept) call valid h = same_within sizes call.before.cpu call.after.cpu h.cpu
releases_cut_lists sizes f other call valid h = absurd h

-- ---- the words at the end

one_at_most : (b : Bool) → one_if b ≤ 1
one_at_most true = omega arith
one_at_most false = omega arith

pub ends_leave_empty_words : EndsLeaveEmptyWords
ends_leave_empty_words t emptied audit closes = record {
  each = λ cpu some within. (closes.no_page cpu some within).words;
  references = λ f inside.
      let is = closes.last_words f inside in
      let most = one_at_most (is_some (home_of emptied.machine.links f)) in
      omega (arith, is, most);
}
