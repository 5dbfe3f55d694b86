use Rattle.std.proofs.Common.{sym, subst}
use Rattle.frame_word.specs.Word.{mark}
use Rattle.boot_words.specs.{cpu_past, own_past, zone_of_boot, MayChange}
use Rattle.boot_words.specs.declared.word.Word.TheVariants.{OfFrame}
use Rattle.boot_words.proofs.Visiting.{frame_of_pass_back, passed_back_made, passes_back_held, passes_post}
use Rattle.boot_words.proofs.raw.BootWords.pass_back.Goals as goal

pub store-requires-clause-place : goal.store-requires-clause-place
store-requires-clause-place c = frame_of_pass_back c.args.self.now c.args.held.now c.args.cpu c.args.frame c.requires.legal

pub store-requires-clause-may : goal.store-requires-clause-may
store-requires-clause-may c =
    subst (λ n. MayChange (zone_of_boot c.args.self.now) c.args.held.now.pasts (OfFrame c.args.frame) (λ old. mark n)
    (λ found. passes_post (zone_of_boot c.args.self.now) (own_past c.args.held.now) (cpu_past c.args.held.now) c.args.frame (mark n))) (sym c.from.ensures)
    (passes_back_held c.args.self.now c.args.held.now c.args.cpu c.args.frame c.requires.held c.requires.holder c.requires.legal)

pub returns : goal.returns
returns c = passed_back_made c.args.self.now c.args.held.now c.args.cpu c.args.frame 0 c.store.new.seat c.requires.held c.requires.holder c.store.ensures.table c.store.ensures.post
