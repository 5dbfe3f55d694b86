-- What lines were answered by visits. Serves `visits`.
use Rattle.std.proofs.Common.{Result, ◌≡◌, ℕ, zero, ◌+◌, ◌-◌, ◌<◌, false, Option, Some, None, List, [], ◌++◌, length, take, get_or, inl, inr, refl, sym, subst, arith}
use Rattle.std.specs.Prelude.{IfNone, IfSome, slice_set}
use Rattle.std.specs.declared.string.String.{String}
use Rattle.std.proofs.lemmas.Option.{none-some, slice_get_read}
use Rattle.step_rules.specs.After.{Run}
use Rattle.boot_words.specs.Tables.{KnownTable}
use Rattle.mem_system.specs.{CpuInRun, between_locks, KnownSystem, IsSound, KnownLocked, IsServed, locked_state}
use Rattle.mem_system.specs.declared.command.LockedCommand.{LockedCommand}
use Rattle.mem_system.specs.declared.outcome.Outcome.{Outcome}
use Rattle.reply_texts.specs.Answers.{unlocked_text}
use Rattle.reply_texts.specs.declared.line_answer.LineAnswer.{LineAnswer}
use Rattle.reply_texts.specs.declared.steps.UnlockedAnswer.{UnlockedAnswer}
use Rattle.script_lines.specs.declared.line.Command.{Command}
use Rattle.script_lines.specs.declared.line.Command.TheVariants.{Alloc}
use Rattle.script_lines.specs.declared.line.Line.{Line}
use Rattle.script_lines.specs.declared.line.Line.TheVariants.{At}
use Rattle.script_replay.specs.{AddsText, AnswersUnlocked, AnswersLocked, IsAnswerText, MakesUnlocked, NeedsLock, steps_unlocked, steps_tried, OnlySettles}
use Rattle.script_replay.specs.{locked_command_of, frame_path, is_tried, AnswersWithoutVisitBySteps, AnswersWithoutVisit, GrewByChanges, NeedsVisit}
use Rattle.script_replay.specs.{ServesByVisits, TriesInVain, WritesByVisit, VisitsLine, VisitsAll, StopsAt, LineInRange}
use Rattle.script_replay.proofs.Growing.{all_grew, unlocked_grew, grew_both}
use Rattle.script_replay.proofs.InOrder.{in_order_line}
use Rattle.script_replay.proofs.Serving.{only_settles, untried}

-- ---- the steps

-- a visit in which a command was served
pub served_grew : (t : KnownTable) (cmd : LockedCommand) (reply : Outcome) (l m : KnownLocked) (c d : CpuInRun)
    → (is : IsServed t cmd reply (locked_state l c) (locked_state m d)) → GrewByChanges c.past (between_locks c.part.number is.steps) d.past
served_grew t cmd reply l m c d is = all_grew c.past (between_locks c.part.number is.steps) d.past is.run.cpu_grew

-- ---- one command

unlocked_is : (on : KnownSystem) (command : Command) (c d : CpuInRun) (said : UnlockedAnswer) → AnswersUnlocked command c d said
    → AnswersWithoutVisit on command (steps_unlocked c.part.number command said) c d said
unlocked_is on (Alloc path order) c d said is = absurd is
unlocked_is on command c d said is = (is, refl)

vain_is : (on : KnownSystem) (command : Command) (c seen : CpuInRun) → frame_path command ≡ None → NeedsLock command c seen
    → MakesUnlocked c.part.number [] c.past seen.past → TriesInVain on command c seen
vain_is on (Alloc path zero) c seen none is alone = absurd (none-some path (sym none))
vain_is on command c seen none is alone = (is, alone)

module _ (on : KnownSystem) (command : Command) (c d : CpuInRun) where
  -- what was tried of a command that allocates no single frame gave an answer
  pub tried_unlocked : (o : Option UnlockedAnswer) → IfSome o (AnswersUnlocked command c d)
      → MakesUnlocked c.part.number (steps_tried c.part.number command o) c.past d.past → IfSome o (AnswersWithoutVisitBySteps on command c d)
  tried_unlocked (Some said) is makes = let steps = steps_unlocked c.part.number command said in record {
    steps = steps;
    answers = unlocked_is on command c d said is;
    grew = unlocked_grew c.part.number steps c.past d.past makes;
  }
  tried_unlocked None is makes = tt

  -- or it gave none
  pub tried_in_vain : (o : Option UnlockedAnswer) → frame_path command ≡ None → IfNone o (NeedsLock command c d)
      → MakesUnlocked c.part.number (steps_tried c.part.number command o) c.past d.past → (is_tried command ≡ false → d ≡ c)
      → IfNone o (NeedsVisit on command c d)
  tried_in_vain (Some said) other needs makes stays = tt
  tried_in_vain None other needs makes stays = record {
    tried = vain_is on command c d other needs makes;
    grew = unlocked_grew c.part.number [] c.past d.past makes;
    untried = λ settles. stays (untried command settles);
  }

  pub said_unlocked : (said : UnlockedAnswer) → AnswersWithoutVisitBySteps on command c d said → ServesByVisits on command c d (unlocked_text said)
  said_unlocked said is = (is.steps, record { tells = inl (record { said = said; answers = is.answers; text_is = refl }); grew = is.grew })

  -- the text of a command that was tried in vain
  pub said_by_visit : (seen : CpuInRun) (text : List ℕ) → NeedsVisit on command c seen → (steps : Run) × WritesByVisit on command steps seen d text
      → ServesByVisits on command c d text
  said_by_visit seen text needs is =
      let visit = is.1.visited in (
        is.0,
        record {
          tells = inr (record { seen = seen; needs = needs; writes = is.1 });
          grew = grew_both c.past [] seen.past is.0 d.past needs.grew
              (subst (λ (r : Run). GrewByChanges seen.past r d.past) (sym is.1.steps_are)
              (served_grew on.table visit.served.serves.served visit.served.serves.given visit.found visit.left seen d visit.served.serves.visit));
        },
      )

-- a text that was written from what a visit left
pub visit_written : (on : KnownSystem) (command : Command) (l m : KnownLocked) (c d : CpuInRun) (answer : LineAnswer) (text : List ℕ)
    → l.sizes ≡ on.sizes → IsSound on.table l → AnswersLocked on.table command answer (locked_state l c) (locked_state m d) → IsSound on.table m
    → IsAnswerText on.table false command answer text (locked_state m d) → (steps : Run) × WritesByVisit on command steps c d text
visit_written on command l m c d answer text sized before answers left told = (
  between_locks c.part.number answers.serves.visit.steps,
  record {
    answer = answer;
    visited = record { found = l; left = m; sizes_are = sized; sound_before = before; served = answers; sound_after = left };
    steps_are = refl;
    told = told;
  },
)

-- a command without a `TextCommand` that needs a visit only settles its CPU
pub visit_settles : (on : KnownSystem) (command : Command) (c seen : CpuInRun) → TriesInVain on command c seen → locked_command_of command ≡ None
    → OnlySettles command
visit_settles on (Alloc path order) c seen tried none = absurd (none-some _ (sym none))
visit_settles on command c seen tried none = only_settles command c seen none tried.0

-- ---- one line

-- a command that was answered at the part that was read
pub part_visited : (on : KnownSystem) (cpus : List CpuInRun) (line : Line) (cpu : ℕ) (command : Command) (c d : CpuInRun)
    {number : ℕ} {Z U E : Type 0} (r : Result U E) (old new : String Z) → line ≡ At number cpu command → LineInRange on.table.frames (length cpus) line →
    c ≡ get_or cpus (cpu - 1) c →
    AddsText r old new (ServesByVisits on command c d) →
    AddsText r old new (VisitsLine on line cpus (slice_set cpus (cpu - 1) d))
part_visited on cpus line cpu command c d {number = number} r old new is there read answered =
    let named : LineInRange on.table.frames (length cpus) (At number cpu command) = subst (LineInRange on.table.frames (length cpus)) is there in
    let low = named.low in
    let high = named.high in record {
      text = answered.text;
      so = subst (λ (x : Line). VisitsLine on x cpus (slice_set cpus (cpu - 1) d) answered.text) (sym is) (record {
        part = c;
        left = d;
        is_part = slice_get_read cpus (length cpus) (cpu - 1) c refl (omega arith) read;
        done = answered.so;
        cpus = refl;
      });
      added = answered.added;
    }

-- memory ran out for the text of the next line
pub visits_stop : (on : KnownSystem) (s m e : List CpuInRun) (lines : List Line) (i : ℕ) (default : Line) (text more : List ℕ)
    → i < length lines → VisitsAll on (take i lines) s m text → VisitsLine on (get_or lines i default) m e more
    → StopsAt (VisitsAll on) lines s e
visits_stop on s m e lines i default text more inside all one = record {
  number = i + 1;
  low = omega arith;
  high = omega (arith, inside);
  text = text ++ more;
  served = in_order_line (VisitsLine on) s m e lines i default text (text ++ more) inside all more one refl;
}
