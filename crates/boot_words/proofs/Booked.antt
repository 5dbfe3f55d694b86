-- A CPU's prepaid pages are in its words and its fresh frames. Serves `words_book_pages`.
use Rattle.std.proofs.Common.{◌≡◌, ℕ, ◌≤◌, Bool, true, false, Option, Some, None, refl, sym, subst, arith}
use Rattle.stock_word.specs.{stock_pages_of}
use Rattle.step_rules.specs.{Zone, state_of}
use Rattle.step_rules.proofs.Freeing.{zone_of_run}
use Rattle.step_rules.proofs.Runs.{sound_run}
use Rattle.step_rules.proofs.SoundSteps.{cpu_range}
use Rattle.step_rules.proofs.Stocked.{stocks_fit}
use Rattle.boot_words.specs.{stock_said, WordsBookPages}

pages_by : (o : Option ℕ) (n : ℕ) (d : Bool) → (o ≡ None → n ≡ 0) → (d ≡ true → n ≡ 0) → stock_pages_of (stock_said o n d) ≡ n
pages_by None n d none drained = sym (none refl)
pages_by (Some g) n true none drained = sym (drained refl)
pages_by (Some g) n false none drained = refl

pub words_book_pages : WordsBookPages
words_book_pages zone words seats k cpu of_cpu =
    let part = (state_of zone k.run).parts cpu in
    let range = cpu_range zone cpu of_cpu in
    let high = subst (λ (z : Zone). cpu ≤ z.cpus) (sym (zone_of_run zone k.run)) range.1 in
    let fits = stocks_fit zone k.run k.is.legal cpu in
    let booked = (sound_run zone k.run k.is.legal).booked cpu in
    let no_pages : part.stock.group ≡ None → part.stock.pages ≡ 0 = λ e. let b = fits.book e in omega (arith, b, booked) in
    let pages = pages_by part.stock.group part.stock.pages part.stock.is_drained no_pages fits.none in
    let reported = k.is.stocks.report cpu range.0 high in record {
      stock = k.is.stocks.stock cpu range.0 high;
      has_word = k.is.stocks.has_word cpu range.0 high;
      book = omega (arith, booked, pages, reported);
      few = k.small cpu;
      unfilled = fits.book;
    }
