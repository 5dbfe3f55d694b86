-- What crates above cite of the charges: how each change of a ledger keeps what holds of every ledger, the root's usage, and
-- what a change leaves of an account. Serves callers of `Charges` that keep a ledger of their own.
pub use Rattle.group_charge.proofs.ChargeLemmas.{AreCharges-charged, AreCharges-flagged, AreCharges-initial, AreCharges-limited, AreCharges-new, AreCharges-noted}
pub use Rattle.group_charge.proofs.ChargeLemmas.{AreCharges-taken, charge_rises, has_account, root_usage, uncharge_falls, usage-le-root}
pub use Rattle.group_charge.proofs.ReaderLemmas.{charge_events, charge_pages, charge_peaks, note_counts, note_pages, note_peaks, pages-le-current}
pub use Rattle.group_charge.proofs.ReaderLemmas.{uncharge_events, uncharge_pages, uncharge_peaks}
pub use Rattle.group_charge.proofs.SumLemmas.{added-group, peaked-group, peaked-pages, sum-map_same}
