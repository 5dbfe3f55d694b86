-- Rounds of reclaim while pages are missing.
use Rattle.std.specs.Prelude.{◌≡◌, ℕ, zero, suc, ◌+◌, ◌-◌, ◌≤◌, ◌==◌, ◌⊎◌, max, if◌then◌else◌}
use Rattle.group_charge.specs.Charges.{Ledger, current_of}
use Rattle.group_charge.specs.declared.note.Note.{Note}
use Rattle.group_charge.specs.declared.note.Note.TheVariants.{Asked, Round}
use Rattle.mem_machine.specs.Machines.{KnownMachine, with_note}
use Rattle.mem_reclaim.specs.Moves.{Rises, all_missed_in, returned_in}
use Rattle.mem_reclaim.specs.Wanted.{AfterNote, BothFree, FreesNothing, Progress, Reclaiming, progress}
use Rattle.mem_reclaim.specs.Shares.{Reclaims}

-- the greatest number of rounds of reclaim, before a limit or if no frame is free
abbrev pub max_rounds : ℕ
max_rounds = 16

-- how many pages must be freed in the group's subtree, so that with `need` more pages its usage is at most the limit
abbrev pub pages_missing : ℕ → ℕ → ℕ → Ledger → ℕ
pages_missing group need limit ledger = current_of ledger group + need - limit

-- how many pages a round wants if this many are missing, and if it has to want at least `batch`: none if none is
-- missing
abbrev pub at_least : (batch missing : ℕ) → ℕ
at_least batch missing = if missing == 0 then 0 else max batch missing

-- the same, if the pages are missing at a limit
abbrev pub pages_wanted : (batch group need limit : ℕ) → Ledger → ℕ
pages_wanted batch group need limit ledger = at_least batch (pages_missing group need limit ledger)

-- the note of a round of this number for the group, which led from one machine to the other and freed this many pages
abbrev pub round_note : ℕ → ℕ → ℕ → KnownMachine → KnownMachine → Note
round_note group number pages before after =
    Round number (after.counts.freezes - before.counts.freezes) (after.counts.misses - before.counts.misses) pages
    (current_of after.ledger group)

-- One round of this number, followed by its note. The note reports how far two counts rose: the freezes by the units
-- that the steps return, and the misses by the freezes that missed.
pub record ReclaimsRound (group number want : ℕ) (done : Progress) : Type 0 where
  pub reclaimed : KnownMachine
  pub reclaims : Reclaims group want (progress done.freed done.before done.steps reclaimed)
  pub noted : done.after ≡ with_note reclaimed (round_note group number done.freed done.before reclaimed)
  pub returned : Rises done.before.counts.freezes (returned_in done.steps) reclaimed.counts.freezes
  pub missed : Rises done.before.counts.misses (all_missed_in done.steps) reclaimed.counts.misses

-- what is done after a round that freed `some` pages: nothing if it freed none
abbrev pub UnlessNone : Reclaiming → ℕ → Reclaiming
UnlessNone Does some done = ((some ≡ 0) × FreesNothing done) ⊎ ((1 ≤ some) × Does done)

-- At most `rounds` of the `max_rounds` rounds of reclaim from the group's subtree. `wanted` says how many pages a round
-- wants, by the ledger when it begins. The rounds end as soon as no page is wanted, or after a round that freed none.
abbrev pub ReclaimsRounds : ℕ → (wanted : Ledger → ℕ) → ℕ → Reclaiming
ReclaimsRounds group wanted zero done = FreesNothing done
ReclaimsRounds group wanted (suc rounds) done =
    ((wanted done.before.ledger ≡ 0) × FreesNothing done)
    ⊎ ((1 ≤ wanted done.before.ledger)
    × BothFree (ReclaimsRound group (max_rounds - rounds) (wanted done.before.ledger))
    (UnlessNone (ReclaimsRounds group wanted rounds)) done)

-- This many pages of the group's subtree are reclaimed, in at most 16 rounds. Each round wants what is still missing:
-- the pages to free so that the usage with the pages asked for is at most the usage before.
abbrev pub ReclaimsPages : (group asked : ℕ) → Reclaiming
ReclaimsPages group asked done =
    ReclaimsRounds group (pages_missing group asked (current_of done.before.ledger group)) max_rounds done

-- a note says how many pages are asked for, and then they are reclaimed
abbrev pub ReclaimsAmount : (group asked : ℕ) → Reclaiming
ReclaimsAmount group asked done = AfterNote (Asked group asked) (ReclaimsPages group asked) done
