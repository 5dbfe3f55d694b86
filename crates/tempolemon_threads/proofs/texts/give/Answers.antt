-- Serves the contract of `give`: what the buffer and the length are, by the answer.
use Rattle.std.proofs.Common.{rules, refl, ap, ◌∙◌, sym, inr, inl, Some}
use Rattle.zone_threads.specs.declared.texts.TextAnswer.TheVariants as answer
use Rattle.tempolemon_threads.proofs.texts.give.Goals as goal

pub returns-in-Some-NoGroup : goal.returns-in-Some-NoGroup
returns-in-Some-NoGroup c = inr (record {
  answer = answer.NoGroup;
  shows = rw c.in-Some-NoGroup.field-0-is at c.in-Some-NoGroup.ensures.shown;
  gives = (search rules, refl, refl);
})

pub returns-in-Some-NoMemory : goal.returns-in-Some-NoMemory
returns-in-Some-NoMemory c = inr (record {
  answer = answer.NoMemory;
  shows = rw c.in-Some-NoMemory.field-0-is at c.in-Some-NoMemory.ensures.shown;
  gives = (refl, refl, refl);
})

pub returns-then-copy_answers : goal.returns-then-copy_answers
returns-then-copy_answers c = inr (record {
  answer = answer.Text c.in-Some-Text.shown;
  shows = rw c.in-Some-Text.field-0-is at c.in-Some-Text.ensures.shown;
  gives = inl (
    refl,
    record {
      text = c.in-Some-Text.shown.items;
      is = refl;
      written_is = search rules;
      fits = search rules;
      after_is = search rules;
    },
  );
})

pub returns : goal.returns
returns c = inr (record {
  answer = answer.Text c.in-Some-Text.shown;
  shows = rw c.in-Some-Text.field-0-is at c.in-Some-Text.ensures.shown;
  gives = inr (
    refl,
    search rules,
    record {
      text = c.in-Some-Text.shown.items;
      is = refl;
      needed_is = search rules;
      exceeds = search rules;
    },
  );
})
