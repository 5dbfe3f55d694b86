-- The groups that were passed have their new accounts.
use Rattle.std.proofs.Common.{◌≡◌, take, vec_len}
use Rattle.group_tree.specs.Bounds.{most_groups}
use Rattle.mem_core.specs.{state_in, account_after, HaveSmallPeaks}
use Rattle.mem_core.proofs.AccountLemmas.{AreChanged}
use Rattle.mem_core.proofs.accounts.update_accounts.Given as goal

abbrev pub invariant-loop-row : goal.invariant-loop-row
invariant-loop-row l = record {
  length : vec_len l.accounts ≡ most_groups;
  few : HaveSmallPeaks l.accounts.items;
  changed : AreChanged (take l.row-index l.row-items) (account_after (state_in l.rows) l.action l.answer) l.fn.accounts.items l.accounts.items;
}
