-- The lines that were served so far. Serves `serve_line`, `replay`, `replay_checked`.
use Rattle.std.proofs.Common.{Result, IfOk, ◌≡◌, ℕ, Bool, ◌+◌, ◌-◌, ◌<◌, true, false, Some, List, [], ◌++◌, length, take, get_or, append-nil, ap, refl, sym, ◌∙◌, subst, arith}
use Rattle.std.specs.Prelude.{slice_set}
use Rattle.std.specs.List.{slice_get}
use Rattle.std.specs.declared.string.String.{String}
use Rattle.std.specs.String.{string_bytes}
use Rattle.std.proofs.lemmas.List.{get_or_default}
use Rattle.std.proofs.lemmas.Option.{slice_get_read}
use Rattle.boot_words.specs.Tables.{KnownTable}
use Rattle.step_watch.specs.Watched.{has_legal_steps}
use Rattle.mem_system.specs.{CpuInRun, KnownLocked, IsSound, locked_state}
use Rattle.script_lines.specs.declared.line.Command.{Command}
use Rattle.script_lines.specs.declared.line.Line.{Line}
use Rattle.script_lines.specs.declared.line.Line.TheVariants.{Go, At}
use Rattle.script_replay.specs.{AddsText, ServesCommand, SystemState, system_state, ServesLine, ServesAll, StopsAt, number_in_script, StopsFor}
use Rattle.script_replay.specs.{LineInRange, numbered_text, text_with_number, form_terms, numbered_terms, terms}
use Rattle.script_replay.specs.declared.replays.Stopped.TheVariants.{NotLegal}
use Rattle.script_replay.specs.declared.form.Form.{Form}
use Rattle.script_replay.specs.Terms.{Terms}
use Rattle.script_replay.proofs.InOrder.{in_order_line}
use Rattle.script_replay.proofs.Gaining.{goes_on_none, part_goes_on}
use Rattle.script_replay.proofs.Telling.{at_ok}

-- ---- one line

-- a command that was served at the part that was read
pub part_read : (on : Terms) (before after : KnownLocked) (cpus : List CpuInRun) (line : Line) (cpu : ℕ) (command : Command) (c d : CpuInRun)
    {number : ℕ} {Z U E : Type 0} (r : Result U E) (old new : String Z) → on.is_numbered ≡ false → line ≡ At number cpu command →
    LineInRange on.table.frames (length cpus) line → c ≡ get_or cpus (cpu - 1) c →
    AddsText r old new (ServesCommand on command (locked_state before c) (locked_state after d)) → IsSound on.table after →
    AddsText r old new (ServesLine on line (system_state before cpus) (system_state after (slice_set cpus (cpu - 1) d)))
part_read on before after cpus line cpu command c d {number = number} r old new plain is there read answered sound =
    let named : LineInRange on.table.frames (length cpus) (At number cpu command) = subst (LineInRange on.table.frames (length cpus)) is there in
    let low = named.low in
    let high = named.high in
    let is_part : slice_get cpus (cpu - 1) ≡ Some c = slice_get_read cpus (length cpus) (cpu - 1) c refl (omega arith) read in record {
      text = answered.text;
      so = subst (λ (x : Line). ServesLine on x (system_state before cpus) (system_state after (slice_set cpus (cpu - 1) d)) answered.text) (sym is)
          (record {
            steps = answered.so.steps;
            tells = record {
              plain = answered.text;
              so = record { part = c; left = d; is_part = is_part; done = answered.so.writes; cpus = refl };
              text_is = sym (ap (λ (b : Bool). text_with_number b number answered.text) plain);
            };
            goes_on = part_goes_on before after cpus (cpu - 1) c d answered.so.steps is_part answered.so.gains;
            sound = sound;
          });
      added = answered.added;
    }

-- nothing is done for `go`, and nothing is added
pub go_keeps : (t : KnownTable) (is_explained : Bool) (before : KnownLocked) (cpus : List CpuInRun) {Z U E : Type 0} (r : Result U E)
    (answers : String Z) (line : Line) → line ≡ Go → IsSound t before
    → AddsText r answers answers (ServesLine (terms t is_explained) line (system_state before cpus) (system_state before cpus))
go_keeps t is_explained before cpus r answers line is holds = record {
  text = [];
  so = subst (λ (x : Line). ServesLine (terms t is_explained) x (system_state before cpus) (system_state before cpus) []) (sym is) (record {
    steps = [];
    tells = record { plain = []; so = record { text_is = refl; stays = refl; steps_are = refl }; text_is = refl };
    goes_on = goes_on_none (system_state before cpus);
    sound = holds;
  });
  added = at_ok r (sym (append-nil (string_bytes answers)));
}

-- the same line with its number
pub numbered_keeps : (t : KnownTable) (is_explained : Bool) (line : Line) (s e : SystemState) (text : List ℕ)
    → ServesLine (terms t is_explained) line s e text
    → ServesLine (numbered_terms t is_explained true) line s e (numbered_text (number_in_script line) text)
numbered_keeps t is_explained line s e text keeps = record {
  steps = keeps.steps;
  tells = record { plain = keeps.tells.plain; so = keeps.tells.so; text_is = ap (numbered_text (number_in_script line)) keeps.tells.text_is };
  goes_on = keeps.goes_on;
  sound = keeps.sound;
}

-- a line that was answered into a text of its own, which is then added with the number, as far as there is memory
pub number_added : (t : KnownTable) (is_explained : Bool) (line : Line) (s e : SystemState) {Z U E : Type 0} (r : Result U E)
    (old new : String Z) (number : ℕ) (said plain : List ℕ) → ServesLine (terms t is_explained) line s e said → plain ≡ said
    → number ≡ number_in_script line → IfOk r (λ _. string_bytes new ≡ string_bytes old ++ numbered_text number plain)
    → AddsText r old new (ServesLine (numbered_terms t is_explained true) line s e)
number_added t is_explained line s e r old new number said plain keeps is numbers added = record {
  text = numbered_text (number_in_script line) said;
  so = numbered_keeps t is_explained line s e said keeps;
  added = subst (λ (b : ℕ × List ℕ). IfOk r (λ _. string_bytes new ≡ string_bytes old ++ numbered_text b.0 b.1)) (λ i. (numbers i, is i)) added;
}

-- an answer in this form, by whether lines are numbered in it
pub formed : (t : KnownTable) (form : Form) (line : Line) (s e : SystemState) {Z U E : Type 0} (r : Result U E) (old new : String Z)
    (is_numbered : Bool) → form.is_numbered ≡ is_numbered
    → AddsText r old new (ServesLine (numbered_terms t form.is_explained is_numbered) line s e)
    → AddsText r old new (ServesLine (form_terms t form) line s e)
formed t form line s e r old new is_numbered is adds =
    subst (λ (b : Bool). AddsText r old new (ServesLine (numbered_terms t form.is_explained b) line s e)) (sym is) adds

-- ---- the lines so far

-- memory ran out for the text of the next line
pub keeps_stop : (on : Terms) (s m e : SystemState) (lines : List Line) (i : ℕ) (default : Line) (text more : List ℕ)
    → i < length lines → ServesAll on (take i lines) s m text → ServesLine on (get_or lines i default) m e more
    → StopsAt (ServesAll on) lines s e
keeps_stop on s m e lines i default text more inside all one =
    let said = text ++ more in
    record {
      number = i + 1;
      low = omega arith;
      high = omega (arith, inside);
      text = said;
      served = in_order_line (ServesLine on) s m e lines i default text said inside all more one refl;
    }

-- the line after so many, as a stop after it names the line
line_of_stop : (lines : List Line) (i : ℕ) (default : Line) → i < length lines → get_or lines i default ≡ get_or lines (i + 1 - 1) Go
line_of_stop lines i default inside =
    let back : i ≡ i + 1 - 1 = omega arith in
    get_or_default lines i default Go inside ∙ ap (λ (k : ℕ). get_or lines k Go) back

-- the watch allowed the steps of the lines so far, and not a step of the next line
pub stops_illegal : (on : Terms) (s m e : SystemState) (lines : List Line) (i : ℕ) (default : Line) (text more : List ℕ)
    → i < length lines → ServesAll on (take i lines) s m text → ServesLine on (get_or lines i default) m e more
    → has_legal_steps m.locked.machine.run.watch ≡ true → has_legal_steps e.locked.machine.run.watch ≡ false
    → (n : ℕ) → n ≡ number_in_script (get_or lines i default) → StopsFor on lines s e (NotLegal n)
unfolding keeps_stop
stops_illegal on s m e lines i default text more inside all one allowed off n is =
    let back : i ≡ i + 1 - 1 = omega arith in
    let line = line_of_stop lines i default inside in record {
      stops = keeps_stop on s m e lines i default text more inside all one;
      reason = (
        record {
          between = m;
          earlier = text;
          last = more;
          served = subst (λ (k : ℕ). ServesAll on (take k lines) s m text) back all;
          allowed = allowed;
          serves = subst (λ (x : Line). ServesLine on x m e more) line one;
          not_allowed = off;
        },
        is ∙ ap number_in_script line,
      );
    }
