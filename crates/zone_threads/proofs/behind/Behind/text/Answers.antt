use Rattle.std.proofs.Common.{ℕ, List, subst, sym}
use Rattle.zone_threads.specs.{ServesBehind}
use Rattle.zone_threads.specs.Shown.{SaysText, SaysUnits, SettlesAndSays}
use Rattle.zone_threads.specs.declared.texts.TextCall.{TextCall}
use Rattle.zone_threads.proofs.behind.Behind.text.Goals as goal

pub returns-in-Show : goal.returns-in-Show
returns-in-Show g c =
    let t = g.N.BootName.table in
    let says = c.show in
    subst (λ (asked : TextCall). ServesBehind t (SettlesAndSays t (SaysText t asked says.result)) c.args.self.now says.new.self c.args.cpu.now says.new.cpu)
    (sym c.in-Show.is) says.ensures

pub returns-in-Blocks : goal.returns-in-Blocks
returns-in-Blocks g c =
    let t = g.N.BootName.table in
    let says = c.blocks-in-Blocks in
    subst (λ (asked : TextCall). ServesBehind t (SettlesAndSays t (SaysText t asked says.result)) c.args.self.now says.new.self c.args.cpu.now says.new.cpu)
    (sym c.in-Blocks.is) says.ensures

pub returns-in-Stock : goal.returns-in-Stock
returns-in-Stock g c =
    let t = g.N.BootName.table in
    let says = c.stock in
    subst (λ (asked : TextCall). ServesBehind t (SettlesAndSays t (SaysText t asked says.result)) c.args.self.now says.new.self c.args.cpu.now says.new.cpu)
    (sym c.in-Stock.is) says.ensures

pub returns-in-Units : goal.returns-in-Units
returns-in-Units g c =
    let t = g.N.BootName.table in
    let says = c.units in
    subst (λ (asked : TextCall). ServesBehind t (SettlesAndSays t (SaysText t asked says.result)) c.args.self.now says.new.self c.args.cpu.now says.new.cpu)
    (sym c.in-Units.is)
    (subst (λ (path : List ℕ). ServesBehind t (SettlesAndSays t (SaysUnits t path says.result)) c.args.self.now says.new.self c.args.cpu.now says.new.cpu)
    c.deref.ensures.value says.ensures)
