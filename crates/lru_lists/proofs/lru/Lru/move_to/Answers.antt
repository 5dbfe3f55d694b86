use Rattle.std.proofs.Common.{◌∙◌, refl, ap}
use Rattle.lru_lists.specs.{link_at, owner_of}
use Rattle.lru_lists.proofs.Pairs.{unlinked_each, home_of_list, entry_unlinked, moved_owners}
use Rattle.lru_lists.proofs.lru.Lru.move_to.Goals as goal

pub returns-clause-gained : goal.returns-clause-gained
returns-clause-gained c =
    let out = unlinked_each c.args.links.now c.unlink_keeping_flags.new.links c.args.self.now c.unlink_keeping_flags.new.self c.list-from.result c.args.unit c.requires.linked
    (home_of_list (link_at c.args.links.now c.args.unit).home c.args.self.now c.list-from.result c.list-from.ensures) c.unlink_keeping_flags.ensures.entries
    c.unlink_keeping_flags.ensures.other c.args.list in
    rw (c.push.ensures.entries, out, entry_unlinked c.args.links.now c.unlink_keeping_flags.new.links c.args.unit c.unlink_keeping_flags.ensures.unit) refl

pub returns-clause-lost : goal.returns-clause-lost
returns-clause-lost c m ne =
    c.push.ensures.other m ne
    ∙ unlinked_each c.args.links.now c.unlink_keeping_flags.new.links c.args.self.now c.unlink_keeping_flags.new.self c.list-from.result c.args.unit c.requires.linked
    (home_of_list (link_at c.args.links.now c.args.unit).home c.args.self.now c.list-from.result c.list-from.ensures) c.unlink_keeping_flags.ensures.entries
    c.unlink_keeping_flags.ensures.other m

pub returns-clause-owners : goal.returns-clause-owners
returns-clause-owners c =
    moved_owners c.args.links.now c.unlink_keeping_flags.new.links c.push.new.links c.args.self.now c.unlink_keeping_flags.new.self.owner c.list-from.result c.args.list c.args.unit
    c.list-from.ensures c.unlink_keeping_flags.ensures.used c.unlink_keeping_flags.ensures.unit c.push.ensures.used c.unlink_keeping_flags.ensures.owner (ap owner_of c.push.ensures.unit) c.push.ensures.dirt
