use Rattle.std.proofs.Common.{◌∙◌}
use Rattle.zone_blocks.specs.Zone.{free_set_of}
use Rattle.zone_blocks.proofs.BuddyFrames.{apart_from_use}
use Rattle.zone_blocks.proofs.Merging.{not_there, merge_step, last_kept, last_given, halving_same, union_same, none_same}
use Rattle.zone_blocks.proofs.merge.insert_merged.Goals as goal

pub take_buddy-requires-clause-alone : goal.take_buddy-requires-clause-alone
take_buddy-requires-clause-alone c = not_there c.loop-larger.areas c.loop-larger.merged c.loop-larger.invariant.halving

pub loop-larger-preserved : goal.loop-larger-preserved
loop-larger-preserved c =
    let r = merge_step c.loop-larger.areas c.take_buddy.new.areas c.loop-larger.merged c.in-Some.larger c.loop-larger.invariant.halving c.in-Some.ensures in
    record {
      halving = r.0;
      frames = c.in-Some.ensures.same_frames ∙ c.loop-larger.invariant.frames;
      union = r.1 (free_set_of c.args.areas.now) c.args.block c.loop-larger.invariant.union;
    }

pub insert-requires-clause-apart : goal.insert-requires-clause-apart
insert-requires-clause-apart c =
    let h = halving_same c.loop-larger.areas c.take_buddy.new.areas c.loop-larger.merged c.in_default.ensures c.loop-larger.invariant.halving in
    apart_from_use c.take_buddy.new.areas c.loop-larger.merged h.kept.maximal h.in_use

pub returns-clause-kept : goal.returns-clause-kept
returns-clause-kept c =
    let h = halving_same c.loop-larger.areas c.take_buddy.new.areas c.loop-larger.merged c.in_default.ensures c.loop-larger.invariant.halving in
    let none = none_same c.loop-larger.areas c.take_buddy.new.areas c.loop-larger.merged c.in_default.ensures in
    last_kept c.take_buddy.new.areas c.insert.new.self c.loop-larger.merged h none c.insert.ensures.blocks c.insert.ensures.frames

pub returns-clause-free : goal.returns-clause-free
returns-clause-free c =
    let h = halving_same c.loop-larger.areas c.take_buddy.new.areas c.loop-larger.merged c.in_default.ensures c.loop-larger.invariant.halving in
    let u = union_same (free_set_of c.args.areas.now) c.args.block c.loop-larger.areas c.take_buddy.new.areas c.loop-larger.merged c.in_default.ensures
    c.loop-larger.invariant.union in
    last_given (free_set_of c.args.areas.now) c.args.block c.take_buddy.new.areas c.insert.new.self c.loop-larger.merged c.requires.in_use u h
    c.insert.ensures.blocks c.insert.ensures.frames
