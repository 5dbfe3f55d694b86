-- The answers of the early lines and those of the later, joined, and all steps as one run. Serves `run_by_threads`.
use Rattle.std.proofs.Common.{◌≡◌, ◌∙◌, ℕ, zero, suc, ◌+◌, Bool, false, Some, List, [], ◌∷◌, ◌++◌, All, take, drop, refl, ap, sym, subst, append-nil}
use Rattle.std.specs.Prelude.{option_map, slice_get}
use Rattle.std.proofs.lemmas.List.Elements.{All-take, All-drop}
use Rattle.std.proofs.lemmas.Option.{get_or_from_slice_get, slice_get-map}
use Rattle.zone_blocks.specs.declared.config.Config.{Config}
use Rattle.step_rules.specs.After.{Run}
use Rattle.step_rules.proofs.PhaseLemmas.{none_some}
use Rattle.boot_words.specs.declared.past.Past.{Past}
use Rattle.boot_words.specs.{IsRunSoFar, own_past, AllOf, OthersFollow, KnownTable}
use Rattle.mem_system.specs.{IsSizedAs, KnownSystem, CpuInRun, pasts_of}
use Rattle.script_lines.specs.declared.line.Line.{Line}
use Rattle.script_replay.specs.{HasRun, ServesAll, SystemState, steps_of_served, LineInRange, known_system, numbered_terms, AreAllAnswers}
use Rattle.script_replay.specs.{workers_from, lines_before_go, GrewByChanges}
use Rattle.script_replay.proofs.Gaining.{all_lines_go_on}
use Rattle.script_replay.proofs.Keeping.{legal_lines_keep_it}
use Rattle.load_run.specs.declared.boot_end.BootEnd.{BootEnd}
use Rattle.load_run.specs.{AreThreadAnswers, IsNewBootState, IsQuietSystem, EndsHeld, boot_end_text, AreNumbered, HasPast, ChangesFollow, HasSeen}
use Rattle.load_run.specs.{SeesAllPasts}
use Rattle.load_run.proofs.Changes.{follow_both, follow_seen, grew_number, others_follow, same_changes}
use Rattle.load_run.proofs.Starting.{boot_agrees, boot_shown, lines_there}
use Rattle.load_run.proofs.Surveying.{at_index}
use Rattle.load_run.proofs.Whole.{whole_run}

-- what the first of the lines name is there
pub early_there : (sizes : Config) (t : KnownTable) (n parts : ℕ) (lines early : List Line) → IsSizedAs sizes t
    → parts ≡ t.cpus → early ≡ take n lines → All (LineInRange sizes.frames sizes.cpus) lines → All (LineInRange t.frames parts) early
early_there sizes t n parts lines early sized long is all =
    subst (All (LineInRange t.frames parts)) (sym is) (All-take (LineInRange t.frames parts) n lines (lines_there sizes t parts lines sized long all))

-- and what the others do
pub later_there : (sizes : Config) (t : KnownTable) (n parts : ℕ) (lines later : List Line) → IsSizedAs sizes t
    → parts ≡ t.cpus → later ≡ drop n lines → All (LineInRange sizes.frames sizes.cpus) lines → All (LineInRange t.frames parts) later
later_there sizes t n parts lines later sized long is all =
    subst (All (LineInRange t.frames parts)) (sym is) (All-drop (LineInRange t.frames parts) n lines (lines_there sizes t parts lines sized long all))

-- ---- each CPU's lines

-- what a CPU told, and how it went on
record TellsAt (before : List CpuInRun) (told : List Run) (index : ℕ) (after : CpuInRun) : Type 0 where
  cpu : CpuInRun
  steps : Run
  cpu_is : slice_get before index ≡ Some cpu
  steps_are : slice_get told index ≡ Some steps
  grew : GrewByChanges cpu.past steps after.past

tells_at : (system : KnownSystem) (first : ℕ) (before after : List CpuInRun) (lines : List Line) (is_numbered : Bool) (told : List Run) (text : List ℕ)
    → AreAllAnswers system (workers_from first before lines is_numbered) after told text → (index : ℕ) (cpu : CpuInRun) → slice_get after index ≡ Some cpu
    → TellsAt before told index cpu
tells_at system first [] [] lines is_numbered told text all index cpu at = absurd (none_some cpu at)
tells_at system first [] (d ∷ after) lines is_numbered told text all index cpu at = absurd all
tells_at system first (c ∷ before) [] lines is_numbered told text all index cpu at = absurd (none_some cpu at)
tells_at system first (c ∷ before) (d ∷ after) lines is_numbered [] text all index cpu at = absurd all
tells_at system first (c ∷ before) (d ∷ after) lines is_numbered (steps ∷ told) text all zero cpu at = record {
  cpu = c;
  steps = steps;
  cpu_is = refl;
  steps_are = refl;
  grew = subst (λ (x : CpuInRun). GrewByChanges c.past steps x.past) (get_or_from_slice_get (d ∷ after) 0 cpu d at) all.2.grew;
}
tells_at system first (c ∷ before) (d ∷ after) lines is_numbered (steps ∷ told) text all (suc index) cpu at =
    let rest = tells_at system (first + 1) before after lines is_numbered told all.1 all.3 index cpu at in
    record { cpu = rest.cpu; steps = rest.steps; cpu_is = rest.cpu_is; steps_are = rest.steps_are; grew = rest.grew }

past_at : (cpus : List CpuInRun) (index : ℕ) (cpu : CpuInRun) → slice_get cpus index ≡ Some cpu → slice_get (pasts_of cpus) index ≡ Some (own_past cpu.past)
past_at cpus index cpu at =
    slice_get-map (λ (x : CpuInRun). own_past x.past) cpus index ∙ ap (option_map (λ (x : CpuInRun). own_past x.past)) at

cpu_at : (cpus : List CpuInRun) (index : ℕ) (p : Past) → slice_get (pasts_of cpus) index ≡ Some p
    → (cpu : CpuInRun) × (slice_get cpus index ≡ Some cpu) × (p ≡ own_past cpu.past)
cpu_at [] index p at = absurd (none_some p at)
cpu_at (c ∷ cpus) zero p at = (c, refl, sym (get_or_from_slice_get (pasts_of (c ∷ cpus)) 0 p (own_past c.past) at))
cpu_at (c ∷ cpus) (suc index) p at = cpu_at cpus index p at

-- ---- one run

-- the pasts of all CPUs at `go` are this run and others' steps, and the CPUs went on as they told
module _ (beginning : Run) (z : Past) (system : KnownSystem) (before after : List CpuInRun) (lines : List Line) (is_numbered : Bool) (told : List Run)
    (text : List ℕ) (seen : AllOf (HasSeen beginning) (pasts_of before)) (run : Run) (so_far : IsRunSoFar run z (pasts_of before))
    (all : AreAllAnswers system (workers_from 1 before lines is_numbered) after told text) where
  number_before : (index : ℕ) (cpu : CpuInRun) → slice_get before index ≡ Some cpu → (own_past cpu.past).number ≡ suc index
  number_before index cpu at = so_far.number index (own_past cpu.past) (past_at before index cpu at)

  -- each CPU's past after its lines
  lines_follow : (index : ℕ) (cpu : CpuInRun) (at : slice_get after index ≡ Some cpu)
      → ChangesFollow (suc index) beginning (tells_at system 1 before after lines is_numbered told text all index cpu at).steps (own_past cpu.past).seen
  lines_follow index cpu at =
      let tells = tells_at system 1 before after lines is_numbered told text all index cpu at in
      let was = own_past tells.cpu.past in
      let has : HasSeen beginning was = at_index (HasSeen beginning) (pasts_of before) index was seen (past_at before index tells.cpu tells.cpu_is) in
      let made = follow_both was.number beginning [] was.seen tells.grew.made (own_past cpu.past).seen (others_follow was.number beginning was.seen has)
      (follow_seen was tells.grew.made tells.grew.last (own_past cpu.past) tells.grew.grew tells.grew.more) in
      subst (λ (n : ℕ). ChangesFollow n beginning tells.steps (own_past cpu.past).seen) (number_before index tells.cpu tells.cpu_is)
      (record { rest = made.rest; is = made.is; changes = made.changes ∙ same_changes was.number tells.grew.made tells.steps tells.grew.changes })

  numbers_after : AreNumbered (pasts_of after)
  numbers_after index p at =
      let cpu = cpu_at after index p at in
      let tells = tells_at system 1 before after lines is_numbered told text all index cpu.0 cpu.1 in
      ap (λ (q : Past). q.number) cpu.2 ∙ tells.grew.more.number ∙ grew_number (own_past tells.cpu.past) tells.grew.made tells.grew.last tells.grew.grew
      ∙ number_before index tells.cpu tells.cpu_is

  -- what all have seen then begins with it
  module _ (then : Run) (begins : AllOf (HasPast then) (pasts_of after)) where
    others_after : (index : ℕ) (cpu : CpuInRun) → slice_get after index ≡ Some cpu → OthersFollow (suc index) (own_past cpu.past).seen then
    others_after index cpu at =
        subst (λ (n : ℕ). OthersFollow n (own_past cpu.past).seen then) (numbers_after index (own_past cpu.past) (past_at after index cpu at))
        (at_index (HasPast then) (pasts_of after) index (own_past cpu.past) begins (past_at after index cpu at))

    all_follow : (index : ℕ) (cpu : CpuInRun) (at : slice_get after index ≡ Some cpu)
        → ChangesFollow (suc index) beginning (tells_at system 1 before after lines is_numbered told text all index cpu at).steps then
    all_follow index cpu at =
        let steps = (tells_at system 1 before after lines is_numbered told text all index cpu at).steps in
        subst (λ (r : Run). ChangesFollow (suc index) beginning r then) (append-nil steps)
        (follow_both (suc index) beginning steps (own_past cpu.past).seen [] then (lines_follow index cpu at)
        (others_follow (suc index) (own_past cpu.past).seen then (others_after index cpu at)))

-- ---- the answers

same_some : {X : Type 0} (a b : X) → Some a ≡ Some b → a ≡ b
same_some a b e = cc

-- the early lines were served from the boot on, all pasts were looked at, the later lines were answered by CPU, all pasts
-- were looked at again, and the boot ended: these are the answers
pub are_answers : (sizes : Config) (is_numbered is_audited : Bool) (t : KnownTable) (lines first_lines other_lines : List Line)
    (start replayed at_go end at_end : SystemState) (early later text : List ℕ) (told : List Run) (ended : BootEnd) → IsNewBootState sizes t start
    → first_lines ≡ take (lines_before_go lines) lines → other_lines ≡ drop (lines_before_go lines) lines
    → ServesAll (numbered_terms t false is_numbered) first_lines start replayed early → SeesAllPasts t replayed at_go
    → AreAllAnswers (known_system t sizes) (workers_from 1 at_go.cpus other_lines is_numbered) end.cpus told later
    → IsQuietSystem t end → SeesAllPasts t end at_end → EndsHeld t at_end ended
    → text ≡ (early ++ later) ++ boot_end_text is_audited ended → AreThreadAnswers sizes is_numbered is_audited lines text
are_answers sizes is_numbered is_audited t lines first_lines other_lines start replayed at_go end at_end early later text told ended new is_first is_other first
    sees all quiet sees_end ends is =
    let on = numbered_terms t false is_numbered in
    let front = take (lines_before_go lines) lines in
    let served = subst (λ (l : List Line). ServesAll on l start replayed early) is_first first in
    let tells = subst (λ (l : List Line). AreAllAnswers (known_system t sizes) (workers_from 1 at_go.cpus l is_numbered) end.cpus told later) is_other all in
    let run : Run = steps_of_served on front start replayed early served in
    let has : HasRun run replayed = all_lines_go_on on front start replayed early served [] new.so_far in
    let rest = drop (lines_before_go lines) lines in
    let z = own_past at_go.locked.machine.run.past in
    let told_at = tells_at (known_system t sizes) 1 at_go.cpus end.cpus rest is_numbered told later tells in
    let goes = sees.goes_on run has in
    let its_lines = all_follow sees.beginning z (known_system t sizes) at_go.cpus end.cpus rest is_numbered told later sees.seen.1 run goes tells sees_end.beginning
    sees_end.begins.1 in
    let its_past = others_after sees.beginning z (known_system t sizes) at_go.cpus end.cpus rest is_numbered told later sees.seen.1 run goes tells sees_end.beginning
    sees_end.begins.1 in
    let numbers = numbers_after sees.beginning z (known_system t sizes) at_go.cpus end.cpus rest is_numbered told later sees.seen.1 run goes tells in
    record {
      frames = t;
      start = start;
      replayed = replayed;
      at_go = at_go;
      end = end;
      at_end = at_end;
      run = run;
      told = told;
      early = early;
      later = later;
      ending = boot_end_text is_audited ended;
      first = new;
      served = served;
      history = legal_lines_keep_it on front start replayed early served [] (boot_shown _ _ _ new) (sees.steps_legal run has) (boot_agrees _ _ _ new);
      agrees = boot_agrees _ _ _ new;
      sees = sees;
      tells = tells;
      quiet = quiet;
      sees_end = sees_end;
      ends = record { ended = ended; ends = ends; text_is = refl };
      whole = sees_end.beginning ++ ends.leaves.steps;
      whole_is = refl;
      is_whole = whole_run t sees_end.beginning at_end ended (sees_end.is_run numbers) ends;
      changes = sees.changes run has;
      each = λ index cpu steps at steps_are.
          let tells = told_at index cpu at in (
            subst (λ (r : Run). ChangesFollow (suc index) sees.beginning r sees_end.beginning) (same_some tells.steps steps (sym tells.steps_are ∙ steps_are))
                (its_lines index cpu at),
            its_past index cpu at,
          );
      text_is = is;
    }
