use Rattle.std.proofs.Common.{◌≢◌, ◌∙◌}
use Rattle.lru_lists.specs.declared.record.LruList.TheVariants.{Inactive, Active}
use Rattle.lru_lists.specs.Queue.{link_at}
use Rattle.lru_lists.proofs.Pairs.{home_of_list, elsewhere, other_lacks}
use Rattle.lru_lists.proofs.lru.Lru.renew.Goals as goal

pub returns-clause-inactive : goal.returns-clause-inactive
returns-clause-inactive c = c.move_to.ensures.gained

pub returns-clause-active : goal.returns-clause-active
returns-clause-active c =
    let ne : Active ≢ Inactive = λ e. cc in
    let there = home_of_list (link_at c.args.links.now c.args.unit).home c.args.self.now Inactive c.requires.on in
    let away = elsewhere c.args.self.now Inactive _ there Active ne in
    c.move_to.ensures.lost Active ne ∙ other_lacks c.args.links.now c.args.self.now Active c.args.unit c.requires.linked away
