pub mod Charges
pub mod Kept
pub mod Notes
-- what other crates and the proofs import by one name, `Rattle.group_charge.specs`
pub use Rattle.group_charge.specs.Charges.{AreCharges, CountsEvent, Ledger, SamePages, SamePeaks, SameUsage, UsageRises, current_of, empty_account}
pub use Rattle.group_charge.specs.Charges.{initial_ledger, pages_of, settings_of, with_charge, with_group_kill_noted, with_group_limit}
pub use Rattle.group_charge.specs.Charges.{with_group_removed, with_kill_noted, with_max_noted, with_new_group, with_noted, with_oom_flag}
pub use Rattle.group_charge.specs.Charges.{with_oom_noted, with_settings, with_uncharge}
pub use Rattle.group_charge.specs.Kept.{account_by, accounts_of, ledger_of}
pub use Rattle.group_charge.specs.Notes.{KnownNotes, detail_noted, forgotten, no_notes, noted, unit_noted}
