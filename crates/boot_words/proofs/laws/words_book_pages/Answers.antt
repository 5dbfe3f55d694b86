use Rattle.boot_words.proofs.Booked.{words_book_pages}
use Rattle.boot_words.proofs.laws.words_book_pages.Goals as goal

pub returns : goal.returns
returns c = words_book_pages
