use Rattle.std.proofs.Common.{inl, inr}
use Rattle.script_lint.proofs.refusal.limit_refusal.Goals as goal

pub returns-in_default : goal.returns-in_default
returns-in_default c = c.read_limit.ensures.bad_limit.0 (elim c.in-Err.ensures.err [
  | inl great ↦ absurd (c.in_default.not-BadNumber great)
  | inr bad ↦ let is = c.in-Err.is in cc
])
