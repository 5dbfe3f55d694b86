-- The line of a refusal, by the digits of its number.
use Rattle.std.proofs.Common.{◌≡◌, ℕ, List, ◌++◌, codes, arith, sym, ap, ◌∙◌}
use Rattle.std.specs.Fmt.{decimal}
use Rattle.group_tree.specs.Faults.{name_of, number_of}
use Rattle.group_tree.specs.declared.fault.Fault.{Fault}
use Rattle.group_tree.specs.declared.fault.Fault.TheVariants as fault
use Rattle.group_tree.specs.declared.group.GroupId.{GroupId}
use Rattle.itoa.proofs.Decimal.{decimal_two}
use Rattle.reply_texts.specs.Replies.{refusal_text}

pub with_number : (reason : Fault) (number : List ℕ) → decimal (number_of reason) ≡ number
    → (codes "refused " ++ number ++ codes " " ++ name_of reason) ++ codes "\n" ≡ refusal_text reason
with_number reason number e = ap (λ (n : List ℕ). (codes "refused " ++ n ++ codes " " ++ name_of reason) ++ codes "\n") (sym e)

-- it is the same for each group
pub over_limit : (reason : Fault) (group : GroupId) → reason ≡ fault.OverLimit group → codes "refused 15 OverLimit\n" ≡ refusal_text reason
over_limit reason group is = with_number (fault.OverLimit group) _ (decimal_two 15 (omega arith) (omega arith)) ∙ sym (ap refusal_text is)
