-- Serves `stock`: the CPU was settled, so it has seen its stock as it is.
use Rattle.std.proofs.Common.{refl, rules}
use Rattle.mem_system.specs.{IsSound}
use Rattle.zone_threads.specs.Shown.{SaysText, SettlesAndSays}
use Rattle.zone_threads.specs.declared.texts.TextAnswer.TheVariants as answer
use Rattle.zone_threads.specs.declared.texts.TextCall.TheVariants.{Stock}
use Rattle.zone_threads.proofs.Visited.{serves_behind}
use Rattle.zone_threads.proofs.behind.Behind.stock.Goals as goal

pub returns-in_default : goal.returns-in_default
returns-in_default g c =
    let t = g.N.BootName.table in
    let sound : IsSound t c.serve_settle.new.locked = record { quiet = c.prove_quiet-2.ensures.quiet; consistent = c.prove_quiet-2.ensures.consistent; charges = c.prove_quiet-2.ensures.charges } in
    serves_behind t (SettlesAndSays t (SaysText t Stock answer.NoMemory)) _ _ _ _ _ c.self.view_is
    (record { quiet = c.prove_quiet.ensures.quiet; consistent = c.prove_quiet.ensures.consistent; charges = c.prove_quiet.ensures.charges })
    (record { settled = c.serve_settle.new.locked; settles = c.serve_settle.ensures.served; sound = sound; says = tt }) sound

pub returns : goal.returns
returns g c =
    let t = g.N.BootName.table in
    let sound : IsSound t c.serve_settle.new.locked = record { quiet = c.prove_quiet-2.ensures.quiet; consistent = c.prove_quiet-2.ensures.consistent; charges = c.prove_quiet-2.ensures.charges } in
    serves_behind t (SettlesAndSays t (SaysText t Stock (answer.Text c.into_bytes.result))) _ _ _ _ _ c.self.view_is
    (record { quiet = c.prove_quiet.ensures.quiet; consistent = c.prove_quiet.ensures.consistent; charges = c.prove_quiet.ensures.charges })
    (record {
      settled = c.serve_settle.new.locked;
      settles = c.serve_settle.ensures.served;
      sound = sound;
      says = record { text_is = search rules; stays = refl };
    }) sound
