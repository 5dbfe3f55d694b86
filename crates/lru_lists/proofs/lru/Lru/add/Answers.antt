use Rattle.std.proofs.Common.{◌≢◌, false, ◌∙◌, ap, refl}
use Rattle.lru_lists.specs.declared.record.Link.{Link}
use Rattle.lru_lists.specs.declared.record.Entry.{Entry}
use Rattle.lru_lists.specs.declared.record.LruList.TheVariants.{Inactive, Active}
use Rattle.lru_lists.specs.Queue.{nowhere}
use Rattle.lru_lists.proofs.Records.{set_same}
use Rattle.lru_lists.proofs.Pairs.{forgotten_stands, forgotten_entries, forgotten_moves, moves_both, own_after_push}
use Rattle.lru_lists.proofs.lru.Lru.add.Goals as goal

pub push-requires-clause-linked : goal.push-requires-clause-linked
push-requires-clause-linked c =
    rw c.clear.ensures (forgotten_stands c.args.links.now c.args.self.now c.args.unit c.requires.linked c.requires.away c.requires.frame)

pub returns-clause-inactive : goal.returns-clause-inactive
returns-clause-inactive c =
    let e = rw c.clear.ensures at c.push.ensures.entries in
    let k = set_same c.args.links.now c.args.unit nowhere c.requires.frame in
    let clean = ap (λ (v : Link). let w : Entry = record { number = c.args.unit; is_marked = false; is_dirty = v.is_dirty } in w) k in
    rw (e, forgotten_entries c.args.links.now c.args.self.now c.args.unit c.requires.linked c.requires.away c.requires.frame Inactive, clean) refl

pub returns-clause-active : goal.returns-clause-active
returns-clause-active c =
    let ne : Active ≢ Inactive = λ e. cc in
    let e = rw c.clear.ensures at (c.push.ensures.other Active ne) in
    e ∙ forgotten_entries c.args.links.now c.args.self.now c.args.unit c.requires.linked c.requires.away c.requires.frame Active

pub returns-clause-others : goal.returns-clause-others
returns-clause-others c =
    own_after_push c.args.links.now c.push.new.links c.args.self.now Inactive c.args.unit
    (moves_both c.args.links.now c.clear.new.self c.push.new.links c.args.self.now.owner c.args.unit
    (rw c.clear.ensures (forgotten_moves c.args.links.now c.args.self.now.owner c.args.unit)) c.push.ensures.moves)
    c.requires.away c.push.ensures.unit

pub returns-clause-moves : goal.returns-clause-moves
returns-clause-moves c =
    moves_both c.args.links.now c.clear.new.self c.push.new.links c.args.self.now.owner c.args.unit
    (rw c.clear.ensures (forgotten_moves c.args.links.now c.args.self.now.owner c.args.unit)) c.push.ensures.moves
