use Rattle.std.proofs.Common.{◌<◌, ◌≤◌, arith, refl, rules, subst}
use Rattle.script_replay.specs.{system_state, CommandInRange}
use Rattle.tempolemon_c.specs.{IsCpu, RefusesCall, KnownLive}
use Rattle.tempolemon_c.proofs.live.Live.serve_command.Goals as goal

pub returns-then-frame-self : goal.returns-then-frame-self
returns-then-frame-self g c =
    let inside = c.self.inside in
    let command = c.args.command.now in
    let most : c.args.cpu ≤ inside.sizes.cpus = search rules in
    let above : inside.sizes.frames ≤ c.in-Some.frame = search rules in
    let live : KnownLive = record {
      sizes = inside.sizes;
      state = system_state inside.locked inside.cpus.items;
      unread_answer = inside.unread_answer.items;
    } in
    let refuses : RefusesCall (IsCpu live.sizes.cpus c.args.cpu × (¬ CommandInRange live.sizes.frames command)) live live = record {
      missing = (
        record { low = c.requires.there.low; high = most },
        λ named. let below = (c.in-Some.ensures.named inside.sizes.frames).0 named in omega (arith, above, below),
      );
      stays = refl;
    } in
    subst (λ (from : KnownLive). RefusesCall (IsCpu from.sizes.cpus c.args.cpu × (¬ CommandInRange from.sizes.frames command)) from from)
    c.self.view_is refuses

pub serve_inlined-requires-clause-there : goal.serve_inlined-requires-clause-there
serve_inlined-requires-clause-there g c =
    let below : c.in-Some.frame < g.N.BootName.table.frames = search rules in record {
      low = c.requires.there.low;
      high = c.requires.there.high;
      names = (c.in-Some.ensures.named g.N.BootName.table.frames).1 below;
    }

pub serve-requires-clause-there : goal.serve-requires-clause-there
serve-requires-clause-there g c = record {
  low = c.requires.there.low;
  high = c.requires.there.high;
  names = c.in-None.ensures.none g.N.BootName.table.frames;
}
