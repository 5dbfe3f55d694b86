use Rattle.std.proofs.Common.{ℕ, [], ap, refl, subst, sym}
use Rattle.cpu_part.specs.{KnownCpuLists, FastAnswers}
use Rattle.cpu_part.specs.declared.answers.Fast.TheVariants.{Got}
use Rattle.reply_texts.specs.declared.steps.UnlockedAnswer.TheVariants as unlocked
use Rattle.script_lines.specs.declared.line.Command.TheVariants.{Fast}
use Rattle.script_replay.specs.Answers.{MakesUnlocked, steps_unlocked}
use Rattle.script_replay.proofs.Gaining.{fast_made, no_fast_made}
use Rattle.script_replay.proofs.Growing.{unlocked_grew, grew_both, seen_grew}
use Rattle.script_replay.proofs.visits.take_listed.Goals as goal

pub returns-in_default : goal.returns-in_default
returns-in_default g c = let found = c.in_default.ensures in record {
  answers = record {
    steps = [];
    answers = (
      record { locked = found.locked; sound = found.sound; part = found.part; last = found.last; sees = found.sees; same = found.same; so = sym found.so },
      refl,
    );
    grew = seen_grew c.args.cpu.now.past c.find.new.cpu.past found.sees;
  };
  needs_visit = tt;
}

pub returns-in-Got : goal.returns-in-Got
returns-in-Got g c =
    let found = c.in-Some.ensures in
    let said = unlocked.Fast (Got c.in-Got.frame) in
    let cpu = c.args.cpu.now in
    let met = c.find.new.cpu in
    let left = c.alloc_fast.new.self in
    let steps = steps_unlocked met.part.number (Fast c.in-Some.group) said in
    let made : MakesUnlocked met.part.number steps met.past left.past =
    subst (λ (group : ℕ). MakesUnlocked met.part.number (steps_unlocked met.part.number (Fast group) said) met.past left.past) c.number.ensures.value
    (fast_made met.part.number met.past left.past c.number.result (Got c.in-Got.frame) met.last c.in-Got.ensures.run) in record {
      answers = record {
        steps = steps;
        answers = (
          met,
          record {
            locked = found.locked;
            sound = found.sound;
            part = found.part;
            last = found.last;
            sees = found.sees;
            same = found.same;
            so = record {
              gets = record {
                group = c.in-Some.group;
                found = sym found.so;
                got = subst (λ (group : ℕ). FastAnswers group (Got c.in-Got.frame) met.last met.part left.last left.part) c.number.ensures.value c.in-Got.ensures.answer;
              };
              steps_are = refl;
            };
          },
        );
        grew = grew_both cpu.past [] met.past steps left.past (seen_grew cpu.past met.past found.sees)
            (unlocked_grew met.part.number steps met.past left.past made);
      };
      needs_visit = tt;
    }

pub returns-in_default-alloc_fast : goal.returns-in_default-alloc_fast
returns-in_default-alloc_fast g c =
    let found = c.in-Some.ensures in
    let cpu = c.args.cpu.now in
    let met = c.find.new.cpu in
    let seen = c.alloc_fast.new.self in
    let alone : MakesUnlocked met.part.number [] met.past seen.past =
    no_fast_made met.part.number met.past seen.past c.number.result c.alloc_fast.result met.last c.in_default-alloc_fast.not-Got
    c.alloc_fast.ensures.run in record {
      answers = tt;
      needs_visit = record {
        tried = record {
          met = met;
          found = record {
            locked = found.locked;
            sound = found.sound;
            part = found.part;
            last = found.last;
            sees = found.sees;
            same = found.same;
            so = record {
              group = c.in-Some.group;
              found = sym found.so;
              fast = c.alloc_fast.result;
              answers = subst (λ (g : ℕ). FastAnswers g c.alloc_fast.result met.last met.part seen.last seen.part) c.number.ensures.value c.alloc_fast.ensures.answer;
              none = c.in_default-alloc_fast.not-Got;
            };
          };
          makes = subst (λ (n : ℕ). MakesUnlocked n [] met.past seen.past) (ap (λ (p : KnownCpuLists). p.number) found.part) alone;
        };
        grew = grew_both cpu.past [] met.past [] seen.past (seen_grew cpu.past met.past found.sees)
            (unlocked_grew met.part.number [] met.past seen.past alone);
        untried = λ settles. absurd settles;
      };
    }
