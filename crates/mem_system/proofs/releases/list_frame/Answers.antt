use Rattle.std.proofs.Common.{◌≡◌, ℕ, [], ◌∷◌, ◌++◌, length, ap, refl, ◌∙◌, subst, arith}
use Rattle.std.proofs.lemmas.List.{length-append}
use Rattle.cpu_part.specs.Cpus.{KnownCpuLists}
use Rattle.mem_machine.specs.{Makes, visit_state, lend_steps}
use Rattle.mem_system.proofs.Listing.{cut_off}
use Rattle.mem_system.proofs.releases.list_frame.Goals as goal
use Rattle.mem_machine.proofs.Followed.{makes_both}

pub lend-requires-clause-free : goal.lend-requires-clause-free
lend-requires-clause-free g c = (cut_off _ _ _ _ _ c.cut_list.ensures.cuts.does.takes).free c.args.frame c.requires.free

pub lend-requires-clause-room : goal.lend-requires-clause-room
lend-requires-clause-room g c =
    let kept = cut_off _ _ _ _ _ c.cut_list.ensures.cuts.does.takes in
    let none = ap length (kept.fresh ∙ c.requires.none_fresh) in
    let room = c.cut_list.ensures.room in
    omega (arith, none, room)

pub returns-clause-lists : goal.returns-clause-lists
returns-clause-lists g c =
    let t = g.N.BootName.table in
    let cuts = c.cut_list.ensures.cuts in
    let p = c.args.cpu.now.number in
    let m = c.args.machine.now in
    let x = c.cut_list.new.machine in
    let n = c.lend.new.self in
    let same : c.cut_list.new.cpu.number ≡ p = (cut_off _ _ _ _ _ cuts.does.takes).number in
    let lent = subst (λ (q : ℕ). Makes t x (lend_steps q c.args.frame) n) same c.lend.ensures.steps in record {
      steps = cuts.steps ++ lend_steps p c.args.frame;
      does = record {
        mid = visit_state x c.cut_list.new.cpu;
        cutting = cuts.steps;
        cuts = cuts.does;
        lends = c.lend.ensures.lends;
        steps_are = refl;
      };
      makes = makes_both t cuts.steps (lend_steps p c.args.frame) m x n cuts.makes lent;
    }

pub returns-clause-stays : goal.returns-clause-stays
returns-clause-stays g c =
    let kept = cut_off _ _ _ _ _ c.cut_list.ensures.cuts.does.takes in
    record {
      visit = c.lend.ensures.visit;
      number = ap (λ (e : KnownCpuLists). e.number) c.lend.ensures.lends.cpu ∙ kept.number;
      back = ap (λ (e : KnownCpuLists). e.back) c.lend.ensures.lends.cpu ∙ kept.back;
    }

pub returns-clause-fresh : goal.returns-clause-fresh
returns-clause-fresh g c =
    ap (λ (e : KnownCpuLists). e.fresh) c.lend.ensures.lends.cpu ∙ (cut_off _ _ _ _ _ c.cut_list.ensures.cuts.does.takes).fresh

pub returns-clause-at_most_high : goal.returns-clause-at_most_high
returns-clause-at_most_high g c =
    let longer = ap (λ (e : KnownCpuLists). length e.list) c.lend.ensures.lends.cpu ∙ length-append c.cut_list.new.cpu.list (c.args.frame ∷ []) in
    λ within. let below = c.cut_list.ensures.below_high within in omega (arith, longer, below)
