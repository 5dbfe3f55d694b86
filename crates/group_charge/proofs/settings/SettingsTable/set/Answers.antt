use Rattle.std.proofs.Common.{◌≡◌, ℕ, zero, suc, ◌||◌, Bool, true, false, List, [], ◌∷◌, set, refl, sym, ap, ◌∙◌, rules, tests}
use Rattle.std.proofs.lemmas.Iterator.{YieldsList-from_slice}
use Rattle.std.proofs.lemmas.Iterator.Search.{any_from_yields_List}
use Rattle.std.proofs.lemmas.Bool.{true≢false}
use Rattle.group_charge.specs.Charges.{ReclaimSettings, are_protecting, is_protecting}
use Rattle.group_charge.proofs.settings.SettingsTable.set.Goals as goal

-- a write of what doesn't pass, over what didn't
set_none : (settings : List ReclaimSettings) (at : ℕ) (one : ReclaimSettings) → are_protecting settings ≡ false → is_protecting one ≡ false
    → are_protecting (set settings at one) ≡ false
set_none [] at one none off = refl
set_none (s ∷ settings) zero one none off = by_case (is_protecting s) none
  where
    by_case : (b : Bool) → (b || are_protecting settings) ≡ false → (is_protecting one || are_protecting settings) ≡ false
    by_case false is = ap (λ (x : Bool). x || are_protecting settings) off ∙ is
    by_case true is = absurd (true≢false is)
set_none (s ∷ settings) (suc at) one none off = by_case (is_protecting s) none (λ is. set_none settings at one is off)
  where
    by_case : (b : Bool) → (b || are_protecting settings) ≡ false → (are_protecting settings ≡ false → are_protecting (set settings at one) ≡ false)
        → (b || are_protecting (set settings at one)) ≡ false
    by_case false is rest = rest is
    by_case true is rest = absurd (true≢false is)

pub invariant_of-self : goal.invariant_of-self
invariant_of-self c =
    let settings = c.self.inside.settings.items in
    c.if-self.false ∙ sym (set_none settings c.number-number.result c.args.settings (sym c.self.invariant ∙ c.if-self.false)
    (sym c.is_protecting.ensures ∙ c.if-is_protecting.false))

pub invariant_of-self-then-self : goal.invariant_of-self-then-self
invariant_of-self-then-self c =
    any_from_yields_List is_protecting _ _ _ c.any-self-inside.ensures.ran
    (YieldsList-from_slice (set c.self.inside.settings.items c.number-number.result c.args.settings) cc)
    (λ x b q k. search (rules, tests))
