use Rattle.std.proofs.Common.{◌-◌, subst}
use Rattle.step_rules.specs.declared.step.Action.TheVariants.{Put}
use Rattle.step_rules.specs.declared.step.Answer.TheVariants.{Last, Left}
use Rattle.boot_words.specs.{cpu_past, own_past, zone_of_boot}
use Rattle.boot_words.proofs.Drains.{frame_of_put_held, puts_held}
use Rattle.boot_words.proofs.Referring.{says_last, says_left}
use Rattle.boot_words.proofs.UnderLock.{MadeHeld, held_made}
use Rattle.boot_words.proofs.raw.BootWords.put_held.Goals as goal

pub take_one_by-found-requires-clause-frame : goal.take_one_by-found-requires-clause-frame
take_one_by-found-requires-clause-frame c = frame_of_put_held c.args.self.now c.args.held.now c.args.seat c.args.frame c.requires.legal

pub take_one_by-found-requires-clause-may : goal.take_one_by-found-requires-clause-may
take_one_by-found-requires-clause-may c = puts_held c.args.self.now c.args.held.now c.args.seat c.args.frame c.requires.held c.requires.seat c.requires.legal

pub overflow_sub-result : goal.overflow_sub-result
overflow_sub-result c = c.take_one_by-found.ensures.post.some

pub returns-then-found-eq1 : goal.returns-then-found-eq1
returns-then-found-eq1 c =
    let later = c.take_one_by-found.new.held in
    held_made c.args.self.now c.args.held.now (record { seat = c.args.seat; action = Put c.args.frame }) Last later c.requires.held c.take_one_by-found.ensures.table
    (subst (λ a. MadeHeld (zone_of_boot c.args.self.now) (own_past c.args.held.now) (cpu_past c.args.held.now) (record { seat = c.args.seat; action = Put c.args.frame }) a later.pasts)
    (says_last c.take_one_by-found.result c.if-found-eq1.true) c.take_one_by-found.ensures.post.made)

pub returns-else-found-eq1 : goal.returns-else-found-eq1
returns-else-found-eq1 c =
    let later = c.take_one_by-found.new.held in
    held_made c.args.self.now c.args.held.now (record { seat = c.args.seat; action = Put c.args.frame }) (Left (c.take_one_by-found.result - 1)) later c.requires.held c.take_one_by-found.ensures.table
    (subst (λ a. MadeHeld (zone_of_boot c.args.self.now) (own_past c.args.held.now) (cpu_past c.args.held.now) (record { seat = c.args.seat; action = Put c.args.frame }) a later.pasts)
    (says_left c.take_one_by-found.result c.if-found-eq1.false) c.take_one_by-found.ensures.post.made)
