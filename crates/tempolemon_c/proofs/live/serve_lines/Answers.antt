-- Serves the contract of `serve_lines`: what the lines of the script name is there, in a boot of its sizes.
use Rattle.std.proofs.Common.{ℕ, All, List, sym, subst, ◌∙◌}
use Rattle.script_lines.specs.declared.line.Line.{Line}
use Rattle.script_replay.specs.Ranges.{LineInRange}
use Rattle.script_replay.proofs.InRange.{script_there}
use Rattle.tempolemon_c.proofs.live.serve_lines.Goals as goal

pub replay-requires : goal.replay-requires
replay-requires g c =
    let sized = c.requires.sized in
    let there = script_there c.args.sizes.now c.args.text.now c.in-Ok.lines.items c.in-Ok.ensures.ok in
    record {
      there = subst (λ (b : ℕ × ℕ). All (LineInRange b.0 b.1) c.deref.result.now) (λ i. (sym sized.frames i, (sym sized.cpus ∙ sym c.requires.count) i))
          (subst (λ (lines : List Line). All (LineInRange c.args.sizes.now.frames c.args.sizes.now.cpus) lines) (sym c.deref.ensures.value) there);
    }
