use Rattle.std.proofs.Common.{◌+◌, ◌==◌, sym, ◌∙◌, subst, arith}
use prog.Atomic.{either}
use Rattle.step_rules.specs.declared.step.Action.TheVariants.{Get}
use Rattle.step_rules.specs.declared.step.Answer.TheVariants.{Held}
use Rattle.boot_words.specs.Seats.{zone_of_boot, MayChange}
use Rattle.boot_words.specs.declared.past.Past.{Past}
use Rattle.boot_words.specs.declared.word.Word.TheVariants.{OfFrame}
use Rattle.boot_words.proofs.Referring.{Adds}
use Rattle.boot_words.proofs.Calling.{adds, answers_full, answers_zero, frame_of_get, goes_on, made, same, sees}
use Rattle.boot_words.proofs.raw.BootWords.get_since.Goals as goal

pub load-seen-requires-clause-place : goal.load-seen-requires-clause-place
load-seen-requires-clause-place g c = frame_of_get c.args.self.now c.args.seat.now c.args.frame c.requires.1.1.1

pub load-seen-requires-clause-may : goal.load-seen-requires-clause-may
load-seen-requires-clause-may g c = sees c.args.self.now c.args.seat.now c.args.frame c.requires.0 c.requires.1.1.1

pub returns-then-seen-eq0 : goal.returns-then-seen-eq0
returns-then-seen-eq0 g c =
    answers_zero c.args.self.now c.args.seat.now c.args.frame c.load-seen.result c.load-seen.new.seat c.requires.0 c.load-seen.ensures.table c.then-seen-eq0.either
    c.load-seen.ensures.post

pub returns-then-seen-eq-MAX_REFERENCES : goal.returns-then-seen-eq-MAX_REFERENCES
returns-then-seen-eq-MAX_REFERENCES g c =
    answers_full c.args.self.now c.args.seat.now c.args.frame c.load-seen.result c.load-seen.new.seat c.requires.0 c.load-seen.ensures.table
    c.if-seen-eq-MAX_REFERENCES.true c.load-seen.ensures.post

pub exchange-found-requires-clause-place : goal.exchange-found-requires-clause-place
exchange-found-requires-clause-place g c = frame_of_get c.args.self.now c.args.seat.now c.args.frame c.requires.1.1.1

pub exchange-found-requires-clause-may : goal.exchange-found-requires-clause-may
exchange-found-requires-clause-may g c =
    let seen = c.load-seen.result in
    let some = c.if-seen-eq0.false in
    let high = c.if-seen-gt-MAX_REFERENCES.false in
    let room = c.if-seen-eq-MAX_REFERENCES.false in
    let zone = zone_of_boot c.args.self.now in
    let later = c.load-seen.new.seat.pasts in
    subst (λ (p : Past). MayChange zone later (OfFrame c.args.frame) (λ n. either (n == seen) (seen + 1) n) (Adds zone p c.args.frame seen)) c.requires.1.0
    (adds c.args.self.now c.args.seat.now c.args.frame seen later c.requires.0 c.requires.1.1.0 c.requires.1.1.1 (omega (arith, some)) (omega (arith, high, room))
    (goes_on c.args.self.now c.args.seat.now c.args.frame seen later some high room c.load-seen.ensures.post))

pub returns-then-found-seen : goal.returns-then-found-seen
returns-then-found-seen g c =
    let later = c.exchange-found.new.seat in
    let post = subst (λ (p : Past). Adds (zone_of_boot c.args.self.now) p c.args.frame c.load-seen.result c.exchange-found.result later.pasts) (sym c.requires.1.0) c.exchange-found.ensures.post in
    made c.args.self.now c.args.seat.now (Get c.args.frame) Held later c.requires.0 (c.exchange-found.ensures.table ∙ c.load-seen.ensures.table)
    (post.held c.if-found-seen.true)

pub returns-else-found-seen : goal.returns-else-found-seen
returns-else-found-seen g c =
    let later = c.exchange-found.new.seat in
    let post = subst (λ (p : Past). Adds (zone_of_boot c.args.self.now) p c.args.frame c.load-seen.result c.exchange-found.result later.pasts) (sym c.requires.1.0) c.exchange-found.ensures.post in
    let raced = post.raced c.if-found-seen.false in
    (same c.args.self.now c.args.seat.now later c.requires.0 (c.exchange-found.ensures.table ∙ c.load-seen.ensures.table) raced.0, raced.1)
