-- What is written for the answer to a line of a script.
use Rattle.std.specs.Prelude.{ℕ, List, ◌++◌, codes}
use Rattle.std.specs.Fmt.{decimal}
use Rattle.cpu_part.specs.declared.answers.Fast as cpu
use Rattle.cpu_part.specs.declared.answers.Fast.TheVariants.{Got, FreshFull, ListEmpty, OtherGroup, Drained, NoStock}
use Rattle.frame_word.specs.declared.answers.Get.{Get}
use Rattle.frame_word.specs.declared.answers.Get.TheVariants.{Held, Zero, Raced, Full}
use Rattle.frame_word.specs.declared.answers.Put as word
use Rattle.frame_word.specs.declared.answers.Put.TheVariants.{Left, Last}
use Rattle.group_charge.specs.Charges.{Ledger}
use Rattle.reply_texts.specs.declared.line_answer.LineAnswer.{LineAnswer}
use Rattle.reply_texts.specs.declared.line_answer.LineAnswer.TheVariants as answer
use Rattle.reply_texts.specs.Replies.{refusal_text, outcome_text}
use Rattle.reply_texts.specs.declared.steps.UnlockedAnswer.{UnlockedAnswer}
use Rattle.reply_texts.specs.declared.steps.UnlockedAnswer.TheVariants as unlocked

-- what is written for a frame asked for without the lock
abbrev pub fast_text : cpu.Fast → List ℕ
fast_text (Got frame) = codes "frame " ++ decimal frame ++ codes "\n"
fast_text FreshFull = codes "fresh-full\n"
fast_text ListEmpty = codes "list-empty\n"
fast_text OtherGroup = codes "other-group\n"
fast_text Drained = codes "drained\n"
fast_text NoStock = codes "no-stock\n"

-- what is written for a pin asked for
abbrev pub get_text : Get → List ℕ
get_text Held = codes "held\n"
get_text Zero = codes "zero\n"
get_text (Raced found) = codes "raced\n"
get_text Full = codes "full\n"

-- what is written for a pin given up
abbrev pub put_text : word.Put → List ℕ
put_text (Left references) = codes "left " ++ decimal references ++ codes "\n"
put_text Last = codes "last\n"

-- what is written for an answer that needed no lock
abbrev pub unlocked_text : UnlockedAnswer → List ℕ
unlocked_text (unlocked.Fast fast) = fast_text fast
unlocked_text (unlocked.Got get) = get_text get
unlocked_text (unlocked.Put put) = put_text put
unlocked_text unlocked.Listed = codes "listed\n"
unlocked_text (unlocked.Refused reason) = refusal_text reason

-- the line of a CPU that was settled
abbrev pub settled_text : List ℕ
settled_text = codes "settled\n"

-- what is written for the answer to a line, with paths and texts of files by the charges
abbrev pub answer_text : Ledger → LineAnswer → List ℕ
answer_text ledger (answer.Served outcome) = outcome_text ledger outcome
answer_text ledger answer.Settled = settled_text
answer_text ledger (answer.Unlocked said) = unlocked_text said
