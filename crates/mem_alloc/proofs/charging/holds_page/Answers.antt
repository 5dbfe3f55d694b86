use Rattle.std.proofs.Common.{◌≡◌, ℕ, ◌+◌, ◌-◌, ◌<◌, sym, ap, ◌∙◌, arith}
use Rattle.std.proofs.lemmas.Bool.{lt-ltb, ltb-true}
use Rattle.stock_word.specs.declared.stock.Stock.TheVariants.{HeldBy}
use Rattle.stock_word.specs.Stock.{stock_pages_of}
use Rattle.boot_words.specs.Tables.{KnownTable}
use Rattle.mem_machine.specs.{KnownMachine, HoldsPage, stock_now}
use Rattle.mem_alloc.proofs.charging.holds_page.Goals as goal

-- a stock of the group with some pages has a page and the others
has_page : (t : KnownTable) (m : KnownMachine) (cpu g own pages : ℕ) → HeldBy own pages ≡ stock_now t m cpu → own ≡ g → 0 < pages → HoldsPage t m cpu g
has_page t m cpu g own pages is same some =
    let more : pages ≡ pages - 1 + 1 = omega (arith, some) in
    (pages - 1, sym is ∙ (λ i. HeldBy (same i) (more i)))

-- a stock that has a page of the group has some pages
some_pages : (t : KnownTable) (m : KnownMachine) (cpu g own pages : ℕ) → HeldBy own pages ≡ stock_now t m cpu → HoldsPage t m cpu g → 0 < pages
some_pages t m cpu g own pages is page = let e : pages ≡ page.0 + 1 = ap stock_pages_of (is ∙ page.1) in omega (arith, e)

pub returns-then-own-number-clause-holds : goal.returns-then-own-number-clause-holds
returns-then-own-number-clause-holds g c =
    let t = g.N.BootName.table in
    let m = c.args.machine.now in
    let cpu = c.args.cpu.now.number in
    let own = c.in-HeldBy.own in
    let pages = c.in-HeldBy.pages in
    let is : HeldBy own pages ≡ stock_now t m cpu = sym c.in-HeldBy.is ∙ c.look_at_stock.ensures.stock in
    let same : own ≡ c.args.group = c.if-own-number.true ∙ c.number-number.ensures.value in (
      λ more. has_page t m cpu c.args.group own pages is same (ltb-true 0 pages more),
      λ page. lt-ltb 0 pages (some_pages t m cpu c.args.group own pages is page),
    )
