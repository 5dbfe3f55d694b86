use Rattle.std.proofs.Common.{◌-◌, subst}
use Rattle.step_rules.specs.declared.step.Action.TheVariants.{Put}
use Rattle.step_rules.specs.declared.step.Answer.TheVariants.{Last, Left}
use Rattle.boot_words.specs.{own_past, zone_of_boot}
use Rattle.boot_words.proofs.Fast.{Made}
use Rattle.boot_words.proofs.Referring.{says_last, says_left}
use Rattle.boot_words.proofs.Calling.{frame_of_put, made, puts}
use Rattle.boot_words.proofs.raw.BootWords.put_one.Goals as goal

pub take_one-found-requires-clause-place : goal.take_one-found-requires-clause-place
take_one-found-requires-clause-place c = frame_of_put c.args.self.now c.args.seat.now c.args.frame c.requires.legal

pub take_one-found-requires-clause-may : goal.take_one-found-requires-clause-may
take_one-found-requires-clause-may c = puts c.args.self.now c.args.seat.now c.args.frame c.requires.past c.requires.legal

pub overflow_sub-result : goal.overflow_sub-result
overflow_sub-result c = c.take_one-found.ensures.post.some

pub returns-then-found-eq1 : goal.returns-then-found-eq1
returns-then-found-eq1 c =
    let post = c.take_one-found.ensures.post in
    made c.args.self.now c.args.seat.now (Put c.args.frame) Last c.take_one-found.new.seat c.requires.past c.take_one-found.ensures.table
    (subst (λ a. Made (zone_of_boot c.args.self.now) (own_past c.args.seat.now) (Put c.args.frame) a c.take_one-found.new.seat.pasts) (says_last c.take_one-found.result c.if-found-eq1.true) post.made)

pub returns-else-found-eq1 : goal.returns-else-found-eq1
returns-else-found-eq1 c =
    let post = c.take_one-found.ensures.post in
    made c.args.self.now c.args.seat.now (Put c.args.frame) (Left (c.take_one-found.result - 1)) c.take_one-found.new.seat c.requires.past c.take_one-found.ensures.table
    (subst (λ a. Made (zone_of_boot c.args.self.now) (own_past c.args.seat.now) (Put c.args.frame) a c.take_one-found.new.seat.pasts) (says_left c.take_one-found.result c.if-found-eq1.false) post.made)
