use Rattle.std.proofs.Common.{refl}
use Rattle.mem_system.specs.{IsSound}
use Rattle.zone_threads.specs.Shown.{SaysText, SettlesAndSays}
use Rattle.zone_threads.specs.declared.texts.TextAnswer.TheVariants as answer
use Rattle.zone_threads.specs.declared.texts.TextCall.TheVariants.{Show}
use Rattle.zone_threads.proofs.Visited.{serves_behind}
use Rattle.zone_threads.proofs.behind.Behind.show.Goals as goal

pub returns-in_default : goal.returns-in_default
returns-in_default g c =
    let t = g.N.BootName.table in
    let sound : IsSound t c.show_text-shown.new.locked = record { quiet = c.prove_quiet-2.ensures.quiet; consistent = c.prove_quiet-2.ensures.consistent; charges = c.prove_quiet-2.ensures.charges } in
    serves_behind t (SettlesAndSays t (SaysText t Show answer.NoMemory)) _ _ _ _ _ c.self.view_is
    (record { quiet = c.prove_quiet.ensures.quiet; consistent = c.prove_quiet.ensures.consistent; charges = c.prove_quiet.ensures.charges })
    (record { settled = c.show_text-shown.new.locked; settles = c.show_text-shown.ensures.served; sound = sound; says = tt }) sound

pub returns : goal.returns
returns g c =
    let t = g.N.BootName.table in
    let sound : IsSound t c.show_text-shown.new.locked = record { quiet = c.prove_quiet-2.ensures.quiet; consistent = c.prove_quiet-2.ensures.consistent; charges = c.prove_quiet-2.ensures.charges } in
    serves_behind t (SettlesAndSays t (SaysText t Show (answer.Text c.in-Ok.text))) _ _ _ _ _ c.self.view_is
    (record { quiet = c.prove_quiet.ensures.quiet; consistent = c.prove_quiet.ensures.consistent; charges = c.prove_quiet.ensures.charges })
    (record {
      settled = c.show_text-shown.new.locked;
      settles = c.show_text-shown.ensures.served;
      sound = sound;
      says = record { text_is = c.in-Ok.ensures.text; stays = refl };
    }) sound
