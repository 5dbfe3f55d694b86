-- Serves `units`: the CPU was settled, and one look at the word of each unit was made.
use Rattle.std.proofs.Common.{rules, ◌≡◌, ◌∙◌, ◌++◌, List, ℕ, ap, sym, true, false, true≢false}
use Rattle.std.specs.String.{string_bytes}
use Rattle.zone_threads.specs.Shown.{SaysUnits, SettlesAndSays}
use Rattle.zone_threads.specs.declared.texts.TextAnswer.TheVariants as answer
use Rattle.zone_threads.proofs.UnitsShown.{there_is, units_missing, units_shown}
use Rattle.zone_threads.proofs.Visited.{serves_behind}
use Rattle.zone_threads.proofs.behind.Behind.units.Goals as goal

pub returns-in_default : goal.returns-in_default
returns-in_default g c =
    let t = g.N.BootName.table in
    serves_behind t (SettlesAndSays t (SaysUnits t c.args.path.now answer.NoMemory)) _ _ _ _ _ c.self.view_is
    (record { quiet = c.prove_quiet.ensures.quiet; consistent = c.prove_quiet.ensures.consistent; charges = c.prove_quiet.ensures.charges })
    (record {
      settled = c.serve_settle.new.locked;
      settles = c.serve_settle.ensures.served;
      sound = record { quiet = c.prove_quiet-2.ensures.quiet; consistent = c.prove_quiet-2.ensures.consistent; charges = c.prove_quiet-2.ensures.charges };
      says = tt;
    })
    (record { quiet = c.prove_quiet-3.ensures.quiet; consistent = c.prove_quiet-3.ensures.consistent; charges = c.prove_quiet-3.ensures.charges })

pub returns-then-not-is_there : goal.returns-then-not-is_there
returns-then-not-is_there g c =
    let gone : c.in-Ok.is_there ≡ false = search rules in
    let t = g.N.BootName.table in
    serves_behind t (SettlesAndSays t (SaysUnits t c.args.path.now answer.NoGroup)) _ _ _ _ _ c.self.view_is
    (record { quiet = c.prove_quiet.ensures.quiet; consistent = c.prove_quiet.ensures.consistent; charges = c.prove_quiet.ensures.charges })
    (record {
      settled = c.serve_settle.new.locked;
      settles = c.serve_settle.ensures.served;
      sound = record { quiet = c.prove_quiet-2.ensures.quiet; consistent = c.prove_quiet-2.ensures.consistent; charges = c.prove_quiet-2.ensures.charges };
      says = units_missing _ _ _ _ _ _ (λ shown told. true≢false (sym told.0 ∙ gone)) c.in-Ok.ensures.units;
    })
    (record { quiet = c.prove_quiet-3.ensures.quiet; consistent = c.prove_quiet-3.ensures.consistent; charges = c.prove_quiet-3.ensures.charges })

pub returns : goal.returns
returns g c =
    let there : c.in-Ok.is_there ≡ true = search rules in
    let same : c.into_bytes.result.items ≡ string_bytes c.write_units_at-shown.new.text = search rules in
    let t = g.N.BootName.table in
    serves_behind t (SettlesAndSays t (SaysUnits t c.args.path.now (answer.Text c.into_bytes.result))) _ _ _ _ _ c.self.view_is
    (record { quiet = c.prove_quiet.ensures.quiet; consistent = c.prove_quiet.ensures.consistent; charges = c.prove_quiet.ensures.charges })
    (record {
      settled = c.serve_settle.new.locked;
      settles = c.serve_settle.ensures.served;
      sound = record { quiet = c.prove_quiet-2.ensures.quiet; consistent = c.prove_quiet-2.ensures.consistent; charges = c.prove_quiet-2.ensures.charges };
      says = units_shown _ _ _ _ _ _ _ (λ missing. there_is c.in-Ok.is_there there missing.0)
          (λ shown told. same ∙ told.1 ∙ ap (λ (b : List ℕ). b ++ shown) c.new-text.ensures.bytes) c.in-Ok.ensures.units;
    })
    (record { quiet = c.prove_quiet-3.ensures.quiet; consistent = c.prove_quiet-3.ensures.consistent; charges = c.prove_quiet-3.ensures.charges })
