use Rattle.std.proofs.Common.{rules, ℕ, ◌∙◌, sym, subst}
use Rattle.std.proofs.lemmas.Bool.{false≢true}
use Rattle.mem_system.specs.Commands.{BySteps}
use Rattle.mem_system.specs.Releases.{ReturnsFrames}
use Rattle.mem_system.proofs.Listing.{returned_single, returned_block}
use Rattle.mem_system.proofs.releases.release_frame.Goals.{then-is_single, else-is_single}
use Rattle.mem_system.proofs.Keeping.{keeps_visit}
use Rattle.mem_machine.specs.Local.{KeepsVisit, VisitMakes, visit_state}
use Rattle.mem_system.proofs.releases.release_frame.Goals as goal

pub returns-after-is_single-clause-released : goal.returns-after-is_single-clause-released
returns-after-is_single-clause-released g c =
    let t = g.N.BootName.table in
    let m = c.args.machine.now in
    let before = c.args.cpu.now in
    let sizes = c.args.sizes in
    let f = c.in-Some.frame in
    let done = c.in-Returned.ensures in
    let told = c.is_single-is_single.ensures done.releases.unit done.releases.heads in
    subst (λ (x : ℕ). BySteps VisitMakes t (ReturnsFrames sizes x) (visit_state m before) (visit_state c.if-is_single.machine c.if-is_single.cpu)) c.in-Some.ensures.found.same (elim c.if-is_single.branch [
      | then-is_single w ↦ rw (w.machine-is, w.cpu-is) (returned_single t sizes f m c.release.new.self w.list_frame.new.machine before
          w.list_frame.new.cpu done.releases (told.0 w.if-is_single.true) done.steps w.list_frame.ensures.lists)
      | else-is_single w ↦ rw (w.machine-is, w.cpu-is) (returned_block t sizes f m c.release.new.self before done.releases
          (λ single. false≢true (sym w.if-is_single.false ∙ told.1 single)) done.steps)
    ])

pub returns-in-Left-clause-released : goal.returns-in-Left-clause-released
returns-in-Left-clause-released g c = search rules

pub returns-after-is_single-clause-stays : goal.returns-after-is_single-clause-stays
returns-after-is_single-clause-stays g c =
    let t = g.N.BootName.table in
    elim c.if-is_single.branch [
      | then-is_single w ↦
          let last = w.list_frame.ensures.stays in
          let both : KeepsVisit t c.args.cpu.now w.list_frame.new.machine w.list_frame.new.cpu =
          record { visit = last.visit; number = last.number; back = last.back } in
          rw (w.machine-is, w.cpu-is) both
      | else-is_single w ↦ rw (w.machine-is, w.cpu-is) (keeps_visit t c.args.machine.now c.release.new.self c.args.cpu.now c.in-Returned.ensures.visit)
    ]
