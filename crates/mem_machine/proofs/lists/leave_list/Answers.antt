use Rattle.std.proofs.Common.{rules}
use Rattle.mem_machine.proofs.Leaving.{leave_all}
use Rattle.mem_machine.proofs.lists.leave_list.Goals as goal

pub returns : goal.returns
returns c =
    let all = leave_all c.args.links.now c.args.lists.now.items c.args.head c.in-Some.home c.in-Some.ensures c.requires.owner c.requires.lists
    _ _ c.index.ensures _ c.unlink_and_clear.new.self c.unlink_and_clear.ensures.linked c.unlink_and_clear.ensures.owner c.unlink_and_clear.ensures.inactive c.unlink_and_clear.ensures.active
    c.unlink_and_clear.ensures.forgotten c.unlink_and_clear.ensures.others c.unlink_and_clear.ensures.moves c.unlink_and_clear.ensures.used c.others_stay_linked.ensures c.one_of_all_changes.ensures in
    record { leaves = all.leaves; lists = all.stand; groups = all.groups; frames = search rules; clean = search rules }
