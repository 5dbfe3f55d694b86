use Rattle.std.proofs.Common.{slice_set, arith}
use Rattle.std.proofs.lemmas.Grind.{common_steps}
use Rattle.lru_lists.specs.declared.record.LruList.TheVariants.{Inactive, Active}
use Rattle.lru_lists.specs.Queue.{nowhere}
use Rattle.lru_lists.proofs.Pairs.{AfterUnlinkAndClear, after_unlink_and_clear, forgotten_moves, moves_both, forgotten_use, use_both}
use Rattle.lru_lists.proofs.lru.Lru.unlink_and_clear.Goals as goal

pub returns : goal.returns
returns c =
    let p = c.unlink_keeping_flags.ensures in
    let all : AfterUnlinkAndClear c.args.links.now (slice_set c.unlink_keeping_flags.new.links c.args.unit nowhere) c.args.self.now c.unlink_keeping_flags.new.self c.args.unit =
    after_unlink_and_clear c.args.links.now c.unlink_keeping_flags.new.links c.args.self.now c.unlink_keeping_flags.new.self c.list-list.result c.args.unit
    c.requires.linked c.list-list.ensures p.linked p.entries p.other p.unit (rw p.moves.frames c.requires.frame) in
    record {
      linked = rw c.clear.ensures all.stands;
      owner = p.owner;
      inactive = rw c.clear.ensures (all.entries Inactive);
      active = rw c.clear.ensures (all.entries Active);
      forgotten = grind (arith, common_steps);
      others = grind (arith, common_steps);
      moves = moves_both c.args.links.now c.unlink_keeping_flags.new.links c.clear.new.self c.args.self.now.owner c.args.unit p.moves
          (rw c.clear.ensures (forgotten_moves c.unlink_keeping_flags.new.links c.args.self.now.owner c.args.unit));
      used = use_both c.args.links.now c.unlink_keeping_flags.new.links c.clear.new.self c.args.unit p.used
          (rw c.clear.ensures (forgotten_use c.unlink_keeping_flags.new.links c.args.unit));
    }
