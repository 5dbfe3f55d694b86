-- A core that showed a run shows it with the step and its answer.
use Rattle.std.proofs.Common.{◌≡◌, ℕ, ◌+◌, ◌*◌, ◌^◌, ◌<◌, ◌++◌, ◌∷◌, [], List, sym, ◌∙◌, ap, subst, arith}
use Rattle.zone_blocks.specs.Areas.{AreMaximalBlocks}
use Rattle.step_rules.specs.{Zone, free_in, Allows, after, UsageMoves, KeepsInvariant, IsHomed}
use Rattle.step_rules.specs.State.{State}
use Rattle.step_rules.proofs.Placed.{zone_kept}
use Rattle.step_rules.proofs.Keeping.{homes_allowed}
use Rattle.mem_core.specs.declared.rows.Rows.{Rows}
use Rattle.mem_core.specs.Rooms.{pages_asked}
use Rattle.mem_core.specs.Rows as rows
use Rattle.mem_core.specs.{IsBounded, CoreState, state_shown, core_state, IsWhole, PlacesFrontIn, AccountsFollow}
use Rattle.mem_core.specs.declared.reading_core.Core.TheInside.{Inside}
use Rattle.mem_core.specs.Accounts.{Account}
use Rattle.mem_core.proofs.Linking.{shown_is, ready}
use Rattle.mem_core.proofs.Advancing.{sound_after, usage_after, widened, bounded_after, follow_illegal, shown_more, first_from}
use Rattle.mem_core.proofs.Keeping.{keeps_promise}
use Rattle.mem_core.proofs.reading_core.Core.step.Goals as goal

pub serve-answer-requires-clause-bounded : goal.serve-answer-requires-clause-bounded
serve-answer-requires-clause-bounded c =
    let few = c.self.invariant.few in
    ready c.self.inside.rows (c.self.inside.steps * 2 ^ 32) (omega arith) c.self.invariant.fits c.self.invariant.sound c.self.invariant.bounded

pub update_accounts-requires-clause-bounded : goal.update_accounts-requires-clause-bounded
update_accounts-requires-clause-bounded c =
    let s = rows.state_in c.self.inside.rows in
    let n = c.self.inside.steps in
    let seat = c.args.step.seat in
    let action = c.args.step.action in
    let answer = c.serve-answer.result in
    let few = c.self.invariant.few in
    let state : rows.state_in c.serve-answer.new.rows ≡ after s seat action answer = c.serve-answer.ensures.state in
    let asked : pages_asked action < 2 ^ 32 = let a = c.pages_asked.ensures.pages in let b = c.pages_asked.ensures.few in omega arith in
    let bounded = bounded_after (n * 2 ^ 32) s seat action answer c.self.invariant.sound c.self.invariant.bounded c.serve-answer.ensures.allowed asked in
    ready c.serve-answer.new.rows (n * 2 ^ 32 + 2 ^ 32) (omega arith) c.serve-answer.ensures.fits
    (subst KeepsInvariant (sym state) (sound_after s seat action answer c.self.invariant.sound c.serve-answer.ensures.allowed))
    (subst (IsBounded (n * 2 ^ 32 + 2 ^ 32)) (sym state) bounded)

pub set_areas-requires-clause-frames : goal.set_areas-requires-clause-frames
set_areas-requires-clause-frames c =
    let s = rows.state_in c.self.inside.rows in
    let zone = ap (λ (x : State). x.zone) c.serve-answer.ensures.state ∙ zone_kept s c.args.step.seat c.args.step.action c.serve-answer.result in
    c.self.invariant.frames ∙ sym (ap (λ (z : Zone). z.frames) zone)

pub invariant_of-self-2 : goal.invariant_of-self-2
invariant_of-self-2 c =
    let s = rows.state_in c.self.inside.rows in
    let t = rows.state_in c.serve-answer.new.rows in
    let n = c.self.inside.steps in
    let seat = c.args.step.seat in
    let action = c.args.step.action in
    let answer = c.serve-answer.result in
    let state : t ≡ after s seat action answer = c.serve-answer.ensures.state in
    let zone : t.zone ≡ s.zone = ap (λ (x : State). x.zone) state ∙ zone_kept s seat action answer in
    let asked : pages_asked action < 2 ^ 32 = let a = c.pages_asked.ensures.pages in let b = c.pages_asked.ensures.few in omega arith in
    let count : n * 2 ^ 32 + 2 ^ 32 ≡ (n + 1) * 2 ^ 32 = omega arith in
    let bounded = bounded_after (n * 2 ^ 32) s seat action answer c.self.invariant.sound c.self.invariant.bounded c.serve-answer.ensures.allowed asked in
    let frames : t.zone.frames ≡ s.zone.frames = ap (λ (z : Zone). z.frames) zone in
    record {
      fits = c.serve-answer.ensures.fits;
      sound = subst KeepsInvariant (sym state) (sound_after s seat action answer c.self.invariant.sound c.serve-answer.ensures.allowed);
      homed = subst IsHomed (sym state) (homes_allowed s seat action answer c.self.invariant.sound c.self.invariant.homed c.serve-answer.ensures.allowed);
      bounded = subst (λ (m : ℕ). IsBounded m t) count (subst (IsBounded (n * 2 ^ 32 + 2 ^ 32)) (sym state) bounded);
      accounts = c.update_accounts.ensures.length;
      peaks = c.update_accounts.ensures.small;
      few = subst (λ (x : CoreState). x.steps + 1 < 2 ^ 64) (sym c.self.view_is) c.requires;
      frames = c.set_areas.ensures.frames ∙ c.self.invariant.frames ∙ sym frames;
      room = let a = c.set_areas.ensures.room in let b = c.self.invariant.room in omega arith;
      areas = c.set_areas.ensures.areas;
    }

-- what the core showed before
pub returns-clause-allowed : goal.returns-clause-allowed
returns-clause-allowed c =
    let link : state_shown c.args.self.now ≡ rows.state_in c.self.inside.rows = ap state_shown (sym c.self.view_is) ∙ shown_is c.self.inside in
    subst (λ (s : State). Allows s c.args.step.seat c.args.step.action c.serve-answer.result) (sym link) c.serve-answer.ensures.allowed

pub returns-clause-state : goal.returns-clause-state
returns-clause-state c =
    let a = c.set_areas.new in
    let inside : Inside = record { rows = c.serve-answer.new.rows; free = a.free; accounts = c.update_accounts.new.accounts; areas = a.areas; steps = c.self.inside.steps + 1 } in
    let link : state_shown c.args.self.now ≡ rows.state_in c.self.inside.rows = ap state_shown (sym c.self.view_is) ∙ shown_is c.self.inside in
    shown_is inside ∙ c.serve-answer.ensures.state ∙ ap (λ (s : State). after s c.args.step.seat c.args.step.action c.serve-answer.result) (sym link)

pub returns-clause-zone : goal.returns-clause-zone
returns-clause-zone c =
    let s = rows.state_in c.self.inside.rows in
    ap (λ (x : State). x.zone) c.serve-answer.ensures.state
    ∙ zone_kept s c.args.step.seat c.args.step.action c.serve-answer.result ∙ ap (λ (x : CoreState). x.zone) c.self.view_is

pub returns-clause-first : goal.returns-clause-first
returns-clause-first c =
    let link : state_shown c.args.self.now ≡ rows.state_in c.self.inside.rows = ap state_shown (sym c.self.view_is) ∙ shown_is c.self.inside in
    let s = rows.state_in c.self.inside.rows in
    subst (λ (x : State). PlacesFrontIn x c.args.step.action c.serve-answer.result) (sym link)
    (first_from s c.self.inside.areas.blocks c.args.step.action c.serve-answer.result c.self.invariant.areas c.serve-answer.ensures.front)

pub returns-clause-shows : goal.returns-clause-shows
returns-clause-shows c run shows =
    let a = c.set_areas.new in
    let inside : Inside = record { rows = c.serve-answer.new.rows; free = a.free; accounts = c.update_accounts.new.accounts; areas = a.areas; steps = c.self.inside.steps + 1 } in
    shown_more c.args.self.now (core_state inside) run c.args.step c.serve-answer.result shows (returns-clause-allowed c) (returns-clause-zone c)
    (ap (λ (x : CoreState). x.steps + 1) c.self.view_is) (returns-clause-state c)
    (subst (λ (old : List Account). AccountsFollow
    (after (state_shown c.args.self.now) c.args.step.seat c.args.step.action c.serve-answer.result) c.args.step.action
    c.serve-answer.result old c.update_accounts.new.accounts.items)
    (ap (λ (x : CoreState). x.accounts) c.self.view_is)
    (subst (λ (t : State). AccountsFollow t c.args.step.action c.serve-answer.result c.self.inside.accounts.items
    c.update_accounts.new.accounts.items) (sym (shown_is inside) ∙ returns-clause-state c) c.update_accounts.ensures.follow))

pub returns-clause-promise : goal.returns-clause-promise
returns-clause-promise c run shows =
    let a = c.set_areas.new in
    let inside : Inside = record { rows = c.serve-answer.new.rows; free = a.free; accounts = c.update_accounts.new.accounts; areas = a.areas; steps = c.self.inside.steps + 1 } in
    keeps_promise (core_state inside) (run ++ (c.args.step, c.serve-answer.result) ∷ []) (returns-clause-shows c run shows) c.set_areas.ensures.areas

pub returns-clause-usage : goal.returns-clause-usage
returns-clause-usage c =
    let link : state_shown c.args.self.now ≡ rows.state_in c.self.inside.rows = ap state_shown (sym c.self.view_is) ∙ shown_is c.self.inside in
    let s = rows.state_in c.self.inside.rows in
    subst (λ (x : State). UsageMoves x c.args.step.seat c.args.step.action c.serve-answer.result) (sym link)
    (usage_after s c.args.step.seat c.args.step.action c.serve-answer.result c.self.invariant.sound c.self.invariant.homed c.serve-answer.ensures.allowed)

-- a step that is refused
pub returns-in-Illegal-clause-allowed : goal.returns-in-Illegal-clause-allowed
returns-in-Illegal-clause-allowed c =
    let link : state_shown c.args.self.now ≡ rows.state_in c.self.inside.rows = ap state_shown (sym c.self.view_is) ∙ shown_is c.self.inside in
    subst (λ (s : State). Allows s c.args.step.seat c.args.step.action c.serve-answer.result) (sym link) c.serve-answer.ensures.allowed

pub returns-in-Illegal-clause-state : goal.returns-in-Illegal-clause-state
returns-in-Illegal-clause-state c =
    let inside : Inside = record c.self.inside { rows = c.serve-answer.new.rows; steps = c.self.inside.steps + 1 } in
    let link : state_shown c.args.self.now ≡ rows.state_in c.self.inside.rows = ap state_shown (sym c.self.view_is) ∙ shown_is c.self.inside in
    shown_is inside ∙ c.serve-answer.ensures.state ∙ ap (λ (s : State). after s c.args.step.seat c.args.step.action c.serve-answer.result) (sym link)

pub returns-in-Illegal-clause-shows : goal.returns-in-Illegal-clause-shows
returns-in-Illegal-clause-shows c run shows =
    let inside : Inside = record c.self.inside { rows = c.serve-answer.new.rows; steps = c.self.inside.steps + 1 } in
    let s = rows.state_in c.self.inside.rows in
    let zone = ap (λ (x : State). x.zone) c.serve-answer.ensures.state
    ∙ zone_kept s c.args.step.seat c.args.step.action c.serve-answer.result ∙ ap (λ (x : CoreState). x.zone) c.self.view_is in
    shown_more c.args.self.now (core_state inside) run c.args.step c.serve-answer.result shows (returns-in-Illegal-clause-allowed c) zone
    (ap (λ (x : CoreState). x.steps + 1) c.self.view_is) (returns-in-Illegal-clause-state c)
    (subst (λ (old : List Account). AccountsFollow
    (after (state_shown c.args.self.now) c.args.step.seat c.args.step.action c.serve-answer.result) c.args.step.action
    c.serve-answer.result old c.self.inside.accounts.items)
    (ap (λ (x : CoreState). x.accounts) c.self.view_is)
    (follow_illegal (after (state_shown c.args.self.now) c.args.step.seat c.args.step.action c.serve-answer.result)
    c.args.step.action c.serve-answer.result c.self.inside.accounts.items c.in-Illegal.is))

pub returns-in-Illegal-clause-areas : goal.returns-in-Illegal-clause-areas
returns-in-Illegal-clause-areas c =
    let same : c.serve-answer.new.rows ≡ c.self.inside.rows = c.serve-answer.ensures.unchanged c.in-Illegal.is in
    subst (λ (r : Rows). AreMaximalBlocks (free_in (rows.state_in r).zone (rows.state_in r).phases) c.self.inside.areas.blocks)
    (sym same) c.self.invariant.areas

pub returns-in-Illegal-clause-promise : goal.returns-in-Illegal-clause-promise
returns-in-Illegal-clause-promise c run shows =
    let inside : Inside = record c.self.inside { rows = c.serve-answer.new.rows; steps = c.self.inside.steps + 1 } in
    keeps_promise (core_state inside) (run ++ (c.args.step, c.serve-answer.result) ∷ []) (returns-in-Illegal-clause-shows c run shows)
    (returns-in-Illegal-clause-areas c)

pub invariant_of-self : goal.invariant_of-self
invariant_of-self c =
    let same : c.serve-answer.new.rows ≡ c.self.inside.rows = c.serve-answer.ensures.unchanged c.in-Illegal.is in
    let n = c.self.inside.steps in
    let count : n * 2 ^ 32 + 2 ^ 32 ≡ (n + 1) * 2 ^ 32 = omega arith in
    let s = rows.state_in c.self.inside.rows in
    subst (λ (r : Rows). IsWhole (record c.self.inside { rows = r; steps = n + 1 })) (sym same) (record {
      fits = c.self.invariant.fits;
      sound = c.self.invariant.sound;
      homed = c.self.invariant.homed;
      bounded = subst (λ (m : ℕ). IsBounded m s) count (widened (n * 2 ^ 32) s c.self.invariant.bounded);
      accounts = c.self.invariant.accounts;
      peaks = c.self.invariant.peaks;
      few = subst (λ (x : CoreState). x.steps + 1 < 2 ^ 64) (sym c.self.view_is) c.requires;
      frames = c.self.invariant.frames;
      room = c.self.invariant.room;
      areas = c.self.invariant.areas;
    })
