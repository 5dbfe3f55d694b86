use Rattle.std.proofs.Common.{arith, sym, ap, ◌∙◌}
use Rattle.std.proofs.lemmas.Fmt.{decimal_digit}
use Rattle.group_tree.specs.declared.fault.Fault.TheVariants as fault
use Rattle.itoa.proofs.Decimal.{decimal_two}
use Rattle.reply_texts.specs.Replies.{refusal_text}
use Rattle.reply_texts.proofs.Lines.{over_limit, with_number}
use Rattle.reply_texts.proofs.refusals.refusal_line.Goals as goal

pub returns-in-NoParent : goal.returns-in-NoParent
returns-in-NoParent c = with_number fault.NoParent _ (decimal_digit 1 (omega arith)) ∙ sym (ap refusal_text c.in-NoParent.is)

pub returns-in-Exists : goal.returns-in-Exists
returns-in-Exists c = with_number fault.Exists _ (decimal_digit 2 (omega arith)) ∙ sym (ap refusal_text c.in-Exists.is)

pub returns-in-BadName : goal.returns-in-BadName
returns-in-BadName c = with_number fault.BadName _ (decimal_digit 3 (omega arith)) ∙ sym (ap refusal_text c.in-BadName.is)

pub returns-in-TreeFull : goal.returns-in-TreeFull
returns-in-TreeFull c = with_number fault.TreeFull _ (decimal_digit 4 (omega arith)) ∙ sym (ap refusal_text c.in-TreeFull.is)

pub returns-in-TooDeep : goal.returns-in-TooDeep
returns-in-TooDeep c = with_number fault.TooDeep _ (decimal_digit 5 (omega arith)) ∙ sym (ap refusal_text c.in-TooDeep.is)

pub returns-in-NoGroup : goal.returns-in-NoGroup
returns-in-NoGroup c = with_number fault.NoGroup _ (decimal_digit 6 (omega arith)) ∙ sym (ap refusal_text c.in-NoGroup.is)

pub returns-in-HasChildren : goal.returns-in-HasChildren
returns-in-HasChildren c = with_number fault.HasChildren _ (decimal_digit 7 (omega arith)) ∙ sym (ap refusal_text c.in-HasChildren.is)

pub returns-in-Busy : goal.returns-in-Busy
returns-in-Busy c = with_number fault.Busy _ (decimal_digit 8 (omega arith)) ∙ sym (ap refusal_text c.in-Busy.is)

pub returns-in-PinsFull : goal.returns-in-PinsFull
returns-in-PinsFull c = with_number fault.PinsFull _ (decimal_digit 9 (omega arith)) ∙ sym (ap refusal_text c.in-PinsFull.is)

pub returns-in-NoFile : goal.returns-in-NoFile
returns-in-NoFile c = with_number fault.NoFile _ (decimal_two 10 (omega arith) (omega arith)) ∙ sym (ap refusal_text c.in-NoFile.is)

pub returns-in-ReadOnly : goal.returns-in-ReadOnly
returns-in-ReadOnly c = with_number fault.ReadOnly _ (decimal_two 11 (omega arith) (omega arith)) ∙ sym (ap refusal_text c.in-ReadOnly.is)

pub returns-in-BadLimit : goal.returns-in-BadLimit
returns-in-BadLimit c = with_number fault.BadLimit _ (decimal_two 12 (omega arith) (omega arith)) ∙ sym (ap refusal_text c.in-BadLimit.is)

pub returns-in-BadNumber : goal.returns-in-BadNumber
returns-in-BadNumber c = with_number fault.BadNumber _ (decimal_two 13 (omega arith) (omega arith)) ∙ sym (ap refusal_text c.in-BadNumber.is)

pub returns-in-BadConfig : goal.returns-in-BadConfig
returns-in-BadConfig c = with_number fault.BadConfig _ (decimal_two 14 (omega arith) (omega arith)) ∙ sym (ap refusal_text c.in-BadConfig.is)

pub returns-in-OverLimit : goal.returns-in-OverLimit
returns-in-OverLimit c = over_limit _ _ c.in-OverLimit.is

pub returns-in-NoFrames : goal.returns-in-NoFrames
returns-in-NoFrames c = with_number fault.NoFrames _ (decimal_two 16 (omega arith) (omega arith)) ∙ sym (ap refusal_text c.in-NoFrames.is)

pub returns-in-Again : goal.returns-in-Again
returns-in-Again c = with_number fault.Again _ (decimal_two 17 (omega arith) (omega arith)) ∙ sym (ap refusal_text c.in-Again.is)

pub returns-in-Killed : goal.returns-in-Killed
returns-in-Killed c = with_number fault.Killed _ (decimal_two 18 (omega arith) (omega arith)) ∙ sym (ap refusal_text c.in-Killed.is)

pub returns-in-BadOrder : goal.returns-in-BadOrder
returns-in-BadOrder c = with_number fault.BadOrder _ (decimal_two 19 (omega arith) (omega arith)) ∙ sym (ap refusal_text c.in-BadOrder.is)

pub returns-in-NotKept : goal.returns-in-NotKept
returns-in-NotKept c = with_number fault.NotKept _ (decimal_two 20 (omega arith) (omega arith)) ∙ sym (ap refusal_text c.in-NotKept.is)

pub returns-in-NotPinned : goal.returns-in-NotPinned
returns-in-NotPinned c = with_number fault.NotPinned _ (decimal_two 21 (omega arith) (omega arith)) ∙ sym (ap refusal_text c.in-NotPinned.is)

pub returns-in-WriteOnly : goal.returns-in-WriteOnly
returns-in-WriteOnly c = with_number fault.WriteOnly _ (decimal_two 22 (omega arith) (omega arith)) ∙ sym (ap refusal_text c.in-WriteOnly.is)
