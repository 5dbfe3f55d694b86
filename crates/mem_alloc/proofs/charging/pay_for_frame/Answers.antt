use Rattle.std.proofs.Common.{ℕ, sym, ap, ◌∙◌, subst}
use Rattle.std.proofs.lemmas.Bool.{false≢true}
use Rattle.group_tree.specs.Groups.{has_group}
use Rattle.boot_words.specs.Pasts.{IsHeld}
use Rattle.mem_machine.specs.{IsCpuOf, KnownMachine, is_killed, Visits, HoldsPage, IsDrained}
use Rattle.mem_machine.proofs.DrainingAll.{drained_now, drained_trees}
use Rattle.mem_machine.proofs.Moved.{number_range}
use Rattle.mem_alloc.proofs.Filling.{charged_page, pays_anew, pays_none}
use Rattle.mem_alloc.proofs.charging.pay_for_frame.Goals as goal

pub holds_page-requires : goal.holds_page-requires
holds_page-requires g c =
    record { holds = record { held = c.requires.visit.held; who = c.requires.visit.who; own = c.requires.visit.own } }

pub returns-then-holds_page : goal.returns-then-holds_page
returns-then-holds_page g c =
    let t = g.N.BootName.table in
    let looked = c.holds_page.ensures in
    let page = looked.holds.0 c.if-holds_page.true in
    record {
      pays = pays_none t c.args.machine.now c.holds_page.new.machine c.args.cpu.now looked.machine c.args.sizes c.args.group page;
      visit = subst (λ (m : KnownMachine). Visits t m c.args.cpu.now) (sym looked.machine) c.requires.visit;
      page = subst (λ (m : KnownMachine). HoldsPage t m c.args.cpu.now.number c.args.group) (sym looked.machine) page;
    }

-- the CPU that holds the lock is one of the boot
pub drain_stock-requires-clause-cpu : goal.drain_stock-requires-clause-cpu
drain_stock-requires-clause-cpu g c =
    let t = g.N.BootName.table in
    subst (IsCpuOf t) (sym c.number-cpu_number.ensures.number) (number_range t c.args.machine.now c.args.cpu.now c.requires.visit)

pub drain_stock-requires-clause-held : goal.drain_stock-requires-clause-held
drain_stock-requires-clause-held g c =
    subst (λ (m : KnownMachine). IsHeld g.N.BootName.table m.run.past) (sym c.holds_page.ensures.machine) c.requires.visit.held

pub fill_drained_stock-requires-clause-may_pay : goal.fill_drained_stock-requires-clause-may_pay
fill_drained_stock-requires-clause-may_pay g c =
    let t = g.N.BootName.table in
    let drains = c.drain_stock.ensures.drains in
    let looked = c.holds_page.ensures.machine in
    record {
      visit = c.drain_stock.ensures.visit c.args.cpu.now (subst (λ (m : KnownMachine). Visits t m c.args.cpu.now) (sym looked) c.requires.visit);
      size = c.requires.size;
      sizes = c.requires.sizes;
      there = ap (λ x. has_group x c.args.group) (drained_trees t _ _ _ _ drains)
          ∙ ap (λ (x : KnownMachine). has_group x.ledger.groups c.args.group) looked ∙ c.requires.there;
      alive = ap (λ (x : KnownMachine). is_killed x.killed c.args.group) (drains.machine)
          ∙ ap (λ (x : KnownMachine). is_killed x.killed c.args.group) looked ∙ c.requires.alive;
      none_fresh = c.requires.none_fresh;
    }

pub fill_drained_stock-requires-clause-drained : goal.fill_drained_stock-requires-clause-drained
fill_drained_stock-requires-clause-drained g c =
    subst (λ (p : ℕ). IsDrained g.N.BootName.table c.drain_stock.new.self p) c.number-cpu_number.ensures.number
    (drained_now g.N.BootName.table c.number-cpu_number.result c.drain_stock.result _ _ c.drain_stock.ensures.drains)

pub returns-clause-pays : goal.returns-clause-pays
returns-clause-pays g c =
    pays_anew g.N.BootName.table c.drain_stock.result c.number-cpu_number.result c.args.machine.now _ _ c.args.cpu.now c.holds_page.ensures.machine
    c.number-cpu_number.ensures.number c.drain_stock.ensures.drains c.drain_stock.ensures.steps c.args.sizes c.args.group _ _
    (λ page. false≢true (sym c.if-holds_page.false ∙ c.holds_page.ensures.holds.1 page)) c.fill_drained_stock.result c.fill_drained_stock.ensures.charges

pub returns-clause-page : goal.returns-clause-page
returns-clause-page g c =
    let b = c.fill_drained_stock.ensures.charges in
    charged_page g.N.BootName.table c.args.sizes c.args.group c.fill_drained_stock.result _ _ _ _ b.steps c.requires.sizes
    c.fill_drained_stock.ensures.visit b.does c.requires.none_fresh
