use Rattle.std.proofs.Common.{◌≡◌, ℕ, zero, suc, false, replicate, refl, sym, ap, ◌∙◌}
use Rattle.group_charge.specs.Charges.{are_protecting, no_settings}
use Rattle.group_charge.proofs.settings.SettingsTable.new.Goals as goal

-- the defaults protect nothing
none_protecting : (n : ℕ) → are_protecting (replicate n no_settings) ≡ false
none_protecting zero = refl
none_protecting (suc n) = none_protecting n

pub invariant_of-result : goal.invariant_of-result
invariant_of-result c = sym (ap are_protecting c.in_ok-settings.ensures ∙ none_protecting c.args.room)
