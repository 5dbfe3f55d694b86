-- Lines that go on legally with a run that shows the state before them keep the promise. Serves `legal_lines_are_shown`,
-- `legal_lines_keep_it`, `replay_checked`, and `serve` of `line_server`.
use Rattle.std.proofs.Common.{◌≡◌, ◌∙◌, ◌-◌, ◌++◌, ℕ, Some, List, [], ◌∷◌, append-nil, append_assoc, ap, refl, subst, sym}
use Rattle.std.specs.Prelude.{slice_set}
use Rattle.std.specs.Option.{option_map}
use Rattle.std.specs.List.{slice_get}
use Rattle.std.proofs.lemmas.List.{map-set}
use Rattle.std.proofs.lemmas.Option.{slice_get-map}
use Rattle.step_rules.specs.After.{Run, IsLegalRun}
use Rattle.boot_words.specs.{zone_of_boot, KnownTable}
use Rattle.mem_machine.specs.{AgreesWithRun}
use Rattle.mem_history.specs.Whole.{GoesOnTo, ShowsAll}
use Rattle.mem_history.proofs.Along.{legal_front}
use Rattle.mem_history.proofs.Promised.{the_whole_is_promised}
use Rattle.mem_system.specs.Cpus.{CpuInRun, parts_of}
use Rattle.mem_system.specs.Visits.{transition, locked_state}
use Rattle.script_lines.specs.declared.line.Line.{Line}
use Rattle.script_lines.specs.declared.line.Line.TheVariants.{Go, At}
use Rattle.script_replay.specs.{WritesCommand, KeepsHistory, KeepsPromise, LegalLinesAreShown, LegalLinesKeepIt, lines_so_far, AtPart, ServesAll, ServesLine}
use Rattle.script_replay.specs.{SystemState, steps_of_served}
use Rattle.script_replay.specs.Terms.{Terms}
use Rattle.script_replay.proofs.Following.{answer_follows}

-- the part of a CPU among the parts
part_at : (cpus : List CpuInRun) (k : ℕ) (c : CpuInRun) → slice_get cpus k ≡ Some c → slice_get (parts_of cpus) k ≡ Some c.part
part_at cpus k c is_part = slice_get-map (λ (x : CpuInRun). x.part) cpus k ∙ ap (option_map (λ (x : CpuInRun). x.part)) is_part

parts_set : (cpus : List CpuInRun) (k : ℕ) (d : CpuInRun) → parts_of (slice_set cpus k d) ≡ slice_set (parts_of cpus) k d.part
parts_set cpus k d = map-set (λ (x : CpuInRun). x.part) cpus k d

-- the run goes on to a longer one, which shows the state after
abbrev pub Follows : KnownTable → Run → SystemState → Run → SystemState → Type 0
Follows t run s longer e = GoesOnTo t run s.locked.machine longer e.locked.machine (parts_of e.cpus)

-- by nothing
pub nothing_follows : (t : KnownTable) (run : Run) (s e : SystemState) (steps : Run) → steps ≡ [] → e ≡ s → ShowsAll t run s.locked.machine (parts_of s.cpus)
    → Follows t run s (run ++ steps) e
nothing_follows t run s e steps none same shows =
    subst (λ (x : Run × SystemState). Follows t run s x.0 x.1) (λ i. ((sym (append-nil run) ∙ ap (λ (r : Run). run ++ r) (sym none)) i, sym same i))
    (record { shows = shows; agrees = λ told. told })

pub line_follows : (on : Terms) (run : Run) (line : Line) (s e : SystemState) (text : List ℕ) → ShowsAll on.table run s.locked.machine (parts_of s.cpus)
    → (serves : ServesLine on line s e text) → IsLegalRun (zone_of_boot on.table) (run ++ serves.steps) → Follows on.table run s (run ++ serves.steps) e
line_follows on run Go s e text shows serves legal =
    nothing_follows on.table run s e serves.steps serves.tells.so.steps_are serves.tells.so.stays shows
line_follows on run (At number cpu command) s e text shows serves legal =
    let steps = serves.steps in
    let is : AtPart cpu (λ part left. WritesCommand on.is_explained command
    (transition on.table (locked_state s.locked part) steps (locked_state e.locked left)) serves.tells.plain) s.cpus e.cpus = serves.tells.so in
    subst (GoesOnTo on.table run s.locked.machine (run ++ steps) e.locked.machine) (sym (ap parts_of is.cpus ∙ parts_set s.cpus (cpu - 1) is.left))
    (answer_follows on.table run s.locked (parts_of s.cpus) (cpu - 1) is.part shows (part_at s.cpus (cpu - 1) is.part is.is_part) on.is_explained command steps
    (locked_state e.locked is.left) is.done.answer is.done.answered legal)

-- and then by more
pub follows_both : (t : KnownTable) (run : Run) (s m e : SystemState) (one two : Run) → Follows t run s (run ++ one) m
    → Follows t (run ++ one) m ((run ++ one) ++ two) e → Follows t run s (run ++ (one ++ two)) e
follows_both t run s m e one two first rest =
    subst (λ (r : Run). Follows t run s r e) (append_assoc run one two)
    (record { shows = rest.shows; agrees = λ told. rest.agrees (first.agrees told) })

-- the legal run of two lists of steps, up to the second
pub legal_first : (t : KnownTable) (run one two : Run) → IsLegalRun (zone_of_boot t) (run ++ (one ++ two)) → IsLegalRun (zone_of_boot t) (run ++ one)
legal_first t run one two legal = legal_front (zone_of_boot t) (run ++ one) two (subst (IsLegalRun (zone_of_boot t)) (sym (append_assoc run one two)) legal)

pub legal_lines_are_shown : LegalLinesAreShown
legal_lines_are_shown on [] s e text served run shows legal = nothing_follows on.table run s e [] refl served.1 shows
legal_lines_are_shown on (line ∷ lines) s e text served run shows legal =
    let one = served.serves_first in
    let mid = served.between in
    let more = steps_of_served on lines mid e served.rest served.serves_rest in
    let first = line_follows on run line s mid served.first shows one (legal_first on.table run one.steps more legal) in
    follows_both on.table run s mid e one.steps more first
    (legal_lines_are_shown on lines mid e served.rest served.serves_rest (run ++ one.steps) first.shows
    (subst (IsLegalRun (zone_of_boot on.table)) (sym (append_assoc run one.steps more)) legal))

-- the promise holds after a line
pub line_kept : (on : Terms) (run : Run) (line : Line) (s e : SystemState) (text : List ℕ) (serves : ServesLine on line s e text)
    → Follows on.table run s (run ++ serves.steps) e → AgreesWithRun on.table run s.locked.machine.ledger
    → KeepsPromise on.table (run ++ serves.steps) e
line_kept on run line s e text serves goes told = record {
  promise = the_whole_is_promised on.table (run ++ serves.steps) e.locked.machine (parts_of e.cpus) goes.shows serves.sound.consistent serves.sound.charges;
  tells = goes.agrees told;
}

all_kept : (on : Terms) (lines : List Line) (s e : SystemState) (text : List ℕ) (served : ServesAll on lines s e text) (run : Run)
    → ShowsAll on.table run s.locked.machine (parts_of s.cpus) → (whole : Run) → whole ≡ run ++ steps_of_served on lines s e text served
    → IsLegalRun (zone_of_boot on.table) whole → AgreesWithRun on.table run s.locked.machine.ledger → KeepsHistory on lines (lines_so_far run s) (lines_so_far whole e) text
all_kept on [] s e text served run shows whole is legal told = (served.0, λ i. lines_so_far ((is ∙ append-nil run) i) (served.1 i))
all_kept on (line ∷ lines) s e text served run shows whole is legal told =
    let one = served.serves_first in
    let mid = served.between in
    let more = steps_of_served on lines mid e served.rest served.serves_rest in
    let first = line_follows on run line s mid served.first shows one (legal_first on.table run one.steps more (subst (IsLegalRun (zone_of_boot on.table)) is legal)) in
    record {
      first = served.first;
      rest = served.rest;
      between = mid;
      steps = one.steps;
      writes_first = one.tells;
      goes_on = one.goes_on;
      kept = line_kept on run line s mid served.first one first told;
      keeps = all_kept on lines mid e served.rest served.serves_rest (run ++ one.steps) first.shows whole (is ∙ sym (append_assoc run one.steps more)) legal
          (first.agrees told);
      text_is = served.text_is;
    }

pub legal_lines_keep_it : LegalLinesKeepIt
legal_lines_keep_it on lines s e text served run shows legal told =
    all_kept on lines s e text served run shows (run ++ steps_of_served on lines s e text served) refl legal told
