-- The lines of one CPU, so far, and what the lines name, whichever their CPUs. Serves `serve_own`, `serve_own_line`,
-- `run_each`.
use Rattle.std.proofs.Common.{Bool, false, ◌==◌, ◌≡◌, ℕ, ◌+◌, ◌<◌, ◌≤◌, List, [], ◌++◌, All, length, take, get_or, append-nil, refl, subst, sym}
use Rattle.std.specs.Prelude.{MatchBool}
use Rattle.mem_system.specs.{KnownSystem, CpuInRun}
use Rattle.step_rules.specs.After.{Run}
use Rattle.script_lines.specs.declared.line.Command.{Command}
use Rattle.script_lines.specs.declared.line.Line.{Line}
use Rattle.script_lines.specs.declared.line.Line.TheVariants.{Go, At}
use Rattle.script_replay.specs.{SaysNumbered, LineInRange, LineCommandInRange, ServesOwn, ServesOwnBySteps, ServesOwnLine, TellsCommand, ToldCpu}
use Rattle.script_replay.specs.{told_cpu, worker}
use Rattle.script_replay.proofs.InOrder.{in_order_end, in_order_line}
use Rattle.script_replay.proofs.Growing.{all_grew, grew_both}

line_names : (frames cpus : ℕ) (line : Line) → LineInRange frames cpus line → LineCommandInRange frames line
line_names frames cpus Go there = tt
line_names frames cpus (At number cpu command) there = there.names

-- what lines name that are there is in range
pub lines_name : (frames cpus : ℕ) (lines : List Line) → All (LineInRange frames cpus) lines → All (LineCommandInRange frames) lines
lines_name frames cpus lines there = λ k any inside. line_names frames cpus (get_or lines k any) (there k any inside)

module _ (on : KnownSystem) (is_numbered : Bool) (own : ℕ) where
  -- ---- one line

  -- a line is skipped
  skipped : (line : Line) (c : CpuInRun) → ((told : ToldCpu) → ServesOwnLine on is_numbered own line told told [])
      → ServesOwnBySteps on is_numbered own line c c []
  skipped line c skips = record {
    steps = [];
    serves = λ told. subst (λ (r : Run). ServesOwnLine on is_numbered own line (told_cpu c told) (told_cpu c r) []) (sym (append-nil told))
        (skips (told_cpu c told));
    grew = all_grew c.past [] c.past refl;
  }

  pub go_skipped : (line : Line) (c : CpuInRun) → line ≡ Go → ServesOwnBySteps on is_numbered own line c c []
  go_skipped line c is = subst (λ (l : Line). ServesOwnBySteps on is_numbered own l c c []) (sym is) (skipped Go c (λ told. (refl, refl)))

  pub other_skipped : (line : Line) (number cpu : ℕ) (command : Command) (c : CpuInRun) → line ≡ At number cpu command → (cpu == own) ≡ false
      → ServesOwnBySteps on is_numbered own line c c []
  other_skipped line number cpu command c is other =
      subst (λ (l : Line). ServesOwnBySteps on is_numbered own l c c []) (sym is)
      (skipped (At number cpu command) c (λ told. subst (λ (b : Bool). MatchBool b (SaysNumbered is_numbered number (TellsCommand on command told told) [])
      ((◌≡◌ {A = List ℕ} [] []) × (told ≡ told))) (sym other) (refl, refl)))

  -- ---- the lines so far

  abbrev Serves : CpuInRun → List Line → CpuInRun → List ℕ → Type 0
  Serves c lines d text = (told : Run) × ServesOwn on (worker own c lines is_numbered) d told text

  pub own_begun : (c : CpuInRun) (text : List ℕ) → text ≡ [] → Serves c [] c text
  own_begun c text none = ([], record { serves = (none, refl); grew = all_grew c.past [] c.past refl })

  pub own_more : (s m e : CpuInRun) (lines : List Line) (i : ℕ) (default : Line) (text new : List ℕ) → i < length lines → Serves s (take i lines) m text
      → (more : List ℕ) → ServesOwnBySteps on is_numbered own (get_or lines i default) m e more → new ≡ text ++ more
      → Serves s (take (i + 1) lines) e new
  own_more s m e lines i default text new inside all more one is = (
    all.0 ++ one.steps,
    record {
      serves = in_order_line (ServesOwnLine on is_numbered own) (told_cpu s []) (told_cpu m all.0) (told_cpu e (all.0 ++ one.steps)) lines i default text new
          inside all.1.serves more (one.serves all.0) is;
      grew = grew_both s.past all.0 m.past one.steps e.past all.1.grew one.grew;
    },
  )

  pub own_end : (s e : CpuInRun) (lines : List Line) (i : ℕ) (text : List ℕ) → length lines ≤ i → Serves s (take i lines) e text → Serves s lines e text
  own_end s e lines i text past all = (
    all.0,
    record {
      serves = in_order_end (ServesOwnLine on is_numbered own) (told_cpu s []) (told_cpu e all.0) lines i text text past all.1.serves refl;
      grew = all.1.grew;
    },
  )
