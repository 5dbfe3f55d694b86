use Rattle.boot_words.proofs.Visiting.{holder_of_held, takes_held, took_made}
use Rattle.boot_words.proofs.raw.BootWords.consume_held.Goals as goal

pub take_page_of-requires-clause-cpu : goal.take_page_of-requires-clause-cpu
take_page_of-requires-clause-cpu c = (holder_of_held c.args.self.now c.args.held.now c.args.cpu c.requires.held c.requires.holder).1

pub take_page_of-requires-clause-may : goal.take_page_of-requires-clause-may
take_page_of-requires-clause-may c = takes_held c.args.self.now c.args.held.now c.args.cpu c.args.group c.requires.held c.requires.holder c.requires.pays c.requires.legal

pub returns : goal.returns
returns c = took_made c.args.self.now c.args.held.now c.args.cpu c.args.group c.take_page_of.result c.take_page_of.new.held c.requires.held c.requires.holder c.take_page_of.ensures.table c.take_page_of.ensures.post
