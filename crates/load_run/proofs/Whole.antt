-- All steps of a boot's lines and of its end are one legal run. Serves `replay_on_boot`, `check_on_boot`,
-- `steps_on_boot`, `run_by_threads`, `serve_on_boot`.
use Rattle.std.proofs.Common.{◌∙◌, ℕ, List, [], ◌∷◌, ◌++◌, subst, sym}
use Rattle.std.proofs.lemmas.List.{length-map}
use Rattle.boot_words.specs.declared.past.Past.{Past}
use Rattle.boot_words.specs.{own_past, AllOf, BeginsRun, IsPastOf, AreFrameWords, AreStockWords, zone_of_boot, KnownTable}
use Rattle.boot_words.proofs.Gaining.{the_run_so_far_is_legal}
use Rattle.boot_words.proofs.Growing.{past_of_run}
use Rattle.step_rules.specs.State.{State, Zone}
use Rattle.step_rules.specs.After.{Run}
use Rattle.mem_core.proofs.Keeping.{always_keeps}
use Rattle.mem_system.specs.Cpus.{CpuInRun, pasts_of}
use Rattle.script_lines.specs.declared.line.Line.{Line}
use Rattle.script_replay.specs.{KeepsHistory, LinesSoFar, with_line, HasRun, SystemState}
use Rattle.script_replay.specs.Terms.{Terms}
use Rattle.load_run.specs.declared.boot_end.BootEnd.{BootEnd}
use Rattle.load_run.specs.Ending.{EndsHeld, IsWholeRun, last_words}

-- the run so far goes on by the lines of a history that keeps the promise
pub kept_goes_on : (on : Terms) (lines : List Line) (before last : LinesSoFar) (text : List ℕ) → KeepsHistory on lines before last text → HasRun before.run before.now
    → HasRun last.run last.now
kept_goes_on on [] before last text keeps has = subst (λ (p : LinesSoFar). HasRun p.run p.now) (sym keeps.1) has
kept_goes_on on (line ∷ lines) before last text keeps has =
    kept_goes_on on lines (with_line before keeps.steps keeps.between) last keeps.rest keeps.keeps (keeps.goes_on before.run has)

-- the pasts at the end of a table
all_begin : (zone : Zone) (run : Run) (pasts : List Past) → AllOf (BeginsRun zone run) pasts → AllOf (IsPastOf run) pasts
all_begin zone run [] all = tt
all_begin zone run (p ∷ pasts) all = (past_of_run zone run p all.0, all_begin zone run pasts all.1)

-- if a run led to the end, it and the steps of the end are one legal run, which led to the words that were closed
pub whole_run : (t : KnownTable) (run : Run) (end : SystemState) (ended : BootEnd) → HasRun run end → (ends : EndsHeld t end ended)
    → IsWholeRun (zone_of_boot t) (last_words ends.closes) (run ++ ends.leaves.steps)
whole_run t run end ended has ends =
    let closes = ends.closes in
    let cpus = ends.emptied.cpus in
    let whole : Run = run ++ ends.leaves.steps in
    let last : Run = closes.end.run in
    let words = last_words closes in
    let both = the_run_so_far_is_legal (zone_of_boot t) last whole (own_past ends.emptied.machine.run.past) (pasts_of cpus) closes.end.is.legal closes.zone
    (length-map cpus (λ (x : CpuInRun). own_past x.past) ∙ closes.count) (all_begin (zone_of_boot t) last (own_past ends.emptied.machine.run.past ∷ pasts_of cpus) closes.end.begin) (ends.leaves.so_far run has) in
    record {
      leads = record {
        legal = both.0;
        frames = subst (λ (s : State). AreFrameWords s words.frames) (sym both.1) closes.end.is.frames;
        stocks = subst (λ (s : State). AreStockWords s words.stocks) (sym both.1) closes.end.is.stocks;
      };
      promise = always_keeps (zone_of_boot t) whole both.0;
    }
