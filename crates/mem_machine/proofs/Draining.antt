-- A stock is drained: the charges, and the steps. Serves `drain_stock`.
use Rattle.std.proofs.Common.{◌≡◌, ℕ, zero, suc, ◌+◌, ◌-◌, ◌≤◌, ◌==◌, Bool, true, false, Option, Some, None, List, [], ◌∷◌, map, length, cond, refl, sym, ap, ◌∙◌, arith}
use Rattle.std.specs.Option.{option_map_or}
use Rattle.std.specs.Prelude.{nat_le, is_some}
use Rattle.std.proofs.lemmas.Bool.{and_from, le-leb}
use Rattle.group_tree.specs.Groups.{has_group}
use Rattle.group_tree.proofs.GroupLemmas.{is_some-find}
use Rattle.group_charge.specs.declared.account.Account as charge
use Rattle.group_charge.specs.Charges.{Ledger, AreCharges, account_at, pages_of, taken}
use Rattle.group_charge.proofs.CallerLemmas.{has_account, uncharge_events, uncharge_peaks}
use Rattle.step_rules.specs.declared.step.Action.TheVariants.{DrainStock, Ungrant}
use Rattle.step_rules.specs.declared.step.Answer.TheVariants.{Done, Pages}
use Rattle.step_rules.specs.{Part, Zone, is_cpu, with_at, is_legal, IsLocalStep, after, drained, with_more, with_part, IsLocalRun, other_part_seen}
use Rattle.step_rules.specs.State.{State}
use Rattle.step_rules.proofs.Basics.{at_each, at_other, at_same}
use Rattle.step_rules.proofs.LegalTests.{drain_stock_tests}
use Rattle.step_rules.specs.After.{zone_makes}
use Rattle.boot_words.specs.{hide, KnownPasts, IsHeld, MayMake, HasSameLists, KnownTable}
use Rattle.mem_machine.specs.declared.counts.Counts.{Counts}
use Rattle.mem_machine.specs.{counts_along, FollowsSteps, IsCpuOf, drain_steps, ungrant_steps, uncharged}
use Rattle.mem_machine.proofs.Behind.{FitsDrain}
use Rattle.mem_machine.proofs.Followed.{follows_same, follows_still}
use Rattle.mem_machine.proofs.Made.{zone_acts, zone_seen}
use Rattle.mem_machine.proofs.Reaching.{zone_step}
use Rattle.mem_machine.proofs.Sight.{hide_part}

-- ---- the ledger

pub cond-same : {X : Type 0} (b : Bool) (x : X) → cond b x x ≡ x
cond-same true x = refl
cond-same false x = refl

there_by : (l : Ledger) (g : ℕ) (o : Option charge.Account) → account_at l g ≡ o
    → 1 ≤ option_map_or (λ (a : charge.Account). a.pages) o 0 → is_some (account_at l g) ≡ true
there_by l g None e some = absurd (omega arith)
there_by l g (Some a) e some = ap is_some e

has_there : (l : Ledger) (g : ℕ) → AreCharges l → is_some (account_at l g) ≡ true → has_group l.groups g ≡ true
unfolding account_at
has_there l g facts is = sym (has_account l g facts) ∙ sym (is_some-find (λ (a : charge.Account). a.group == g) l.accounts) ∙ is

-- a group that has pages is there
pub charged_there : (l : Ledger) (g : ℕ) → AreCharges l → 1 ≤ pages_of l g → has_group l.groups g ≡ true
unfolding pages_of
charged_there l g facts some = has_there l g facts (there_by l g (account_at l g) refl some)

-- no page taken
taken_none : (g : ℕ) (xs : List charge.Account) → map (taken g 0) xs ≡ xs
taken_none g [] = refl
taken_none g (x ∷ xs) =
    let here : x.pages - 0 ≡ x.pages = omega arith in
    let one : taken g 0 x ≡ x = (λ i. cond (x.group == g) (record x { pages = here i }) x) ∙ cond-same (x.group == g) x in
    λ i. one i ∷ taken_none g xs i

uncharged_none : (l : Ledger) (o : Option ℕ) → uncharged l o 0 ≡ l
uncharged_none l None = refl
uncharged_none l (Some g) = λ i. record l { accounts = taken_none g l.accounts i }

-- if it had no page, the charges stay
pub drained_none : (l : Ledger) (o : Option ℕ) (n : ℕ) → n ≡ 0 → l ≡ uncharged l o n
drained_none l o n none = sym (ap (uncharged l o) none ∙ uncharged_none l o)

pub groups_stay : (l : Ledger) (o : Option ℕ) (n : ℕ) → (uncharged l o n).groups ≡ l.groups
groups_stay l None n = refl
groups_stay l (Some g) n = refl

-- ---- the steps

module _ (s : State) (q n : ℕ) where
  -- what a drain leaves
  abbrev pub drain_state : State
  drain_state = with_part s q (drained (s.parts q) n)

  -- the pages that were pending for a group are ungranted
  pending_back : (g k : ℕ) (h : ℕ) → with_at (with_at s.pending g (s.pending g + k)) g (with_at s.pending g (s.pending g + k) g - k) h ≡ s.pending h
  pending_back g k =
      let more : ℕ → ℕ = with_at s.pending g (s.pending g + k) in
      at_each more g (more g - k) (λ j x. x ≡ s.pending j) (let a = at_same s.pending g (s.pending g + k) in omega (arith, a)) (λ j ne. at_other s.pending g (s.pending g + k) j ne)

  -- none were pending
  pending_none : (g h : ℕ) → with_at s.pending g (s.pending g + 0) h ≡ s.pending h
  pending_none g = at_each s.pending g (s.pending g + 0) (λ j x. x ≡ s.pending j) (omega arith) (λ j ne. refl)

  -- the steps are legal, and lead there
  pub drain_leads : (p : ℕ) (o : Option ℕ) → (s.parts q).stock.group ≡ o → is_legal s 0 (DrainStock q) ≡ true → FitsDrain s q n → IsLocalRun p s (drain_steps q o n) drain_state
  drain_leads p o group legal fits = by o n group fits.there
    where
      first : (k : ℕ) → IsLocalStep s p 0 (DrainStock q) (Pages k)
      first k = zone_step s p (DrainStock q) (Pages k) refl legal tt

      by : (o : Option ℕ) (k : ℕ) → (s.parts q).stock.group ≡ o → ((g : ℕ) → (s.parts q).stock.group ≡ Some g → 1 ≤ k → has_group s.groups g ≡ true)
          → IsLocalRun p s (drain_steps q o k) (with_part s q (drained (s.parts q) k))
      by None k group there = (first k, λ i. record (with_part s q (drained (s.parts q) k)) { pending = with_more s.pending (group i) k })
      by (Some g) zero group there = (
        first 0,
        λ i. record (with_part s q (drained (s.parts q) 0)) {
          pending = (ap (λ (x : Option ℕ). with_more s.pending x 0) group ∙ (λ j. λ h. pending_none g h j)) i;
        },
      )
      by (Some g) (suc k) group there =
          let now = after s 0 (DrainStock q) (Pages (suc k)) in
          let more : now.pending ≡ with_at s.pending g (s.pending g + suc k) = ap (λ (x : Option ℕ). with_more s.pending x (suc k)) group in
          let enough : suc k ≤ now.pending g = let a = ap (λ (f : ℕ → ℕ). f g) more in let b = at_same s.pending g (s.pending g + suc k) in omega (arith, a, b) in (
            first (suc k),
            (
              zone_step now p (Ungrant g (suc k)) Done refl
                  (and_from _ _ (and_from _ _ (drain_stock_tests s 0 q legal).0 (there g group (omega arith))) (le-leb (suc k) (now.pending g) enough)) tt,
              λ i. record (with_part s q (drained (s.parts q) (suc k))) {
                pending = (ap (λ (f : ℕ → ℕ). with_at f g (f g - suc k)) more ∙ (λ j. λ h. pending_back g (suc k) h j)) i;
              },
            ),
          )

  pub drain_follows : (l : Ledger) (o : Option ℕ) → FollowsSteps s l (drain_steps q o n) (uncharged l o n)
  drain_follows l o = by o n
    where
      by : (o : Option ℕ) (n : ℕ) → FollowsSteps s l (drain_steps q o n) (uncharged l o n)
      by None n = follows_same s l (drain_steps q None n) refl
      by (Some g) zero = follows_still s l (drain_steps q (Some g) zero) (uncharged l (Some g) zero) refl (uncharge_peaks l g zero) (uncharge_events l g zero)
      by (Some g) (suc k) = follows_still s l (drain_steps q (Some g) (suc k)) (uncharged l (Some g) (suc k)) refl (uncharge_peaks l g (suc k)) (uncharge_events l g (suc k))

  -- no unit ends
  pub drain_counts : (counts : Counts) (o : Option ℕ) → counts ≡ counts_along s (drain_steps q o n) counts
  drain_counts counts o = by o n
    where
      by : (o : Option ℕ) (n : ℕ) → counts ≡ counts_along s (drain_steps q o n) counts
      by None n = refl
      by (Some g) zero = refl
      by (Some g) (suc k) = refl

  -- no list changes
  pub drain_lists : (p : ℕ) → HasSameLists p s drain_state
  drain_lists p =
      let same : (h : Part → List ℕ) → ((part : Part) → h (drained part n) ≡ h part) → h (with_at s.parts q (drained (s.parts q) n) p) ≡ h (s.parts p) =
      λ h stays. at_each s.parts q (drained (s.parts q) n) (λ j x. h x ≡ h (s.parts j)) (stays (s.parts q)) (λ j ne. refl) p in
      record {
        list = same (λ x. x.list) (λ x. refl);
        fresh = same (λ x. x.fresh) (λ x. refl);
        back = same (λ x. x.back) (λ x. refl);
        references = refl;
      }

-- what a drain leaves, every CPU's own part hidden
pub drain_hidden : (s : State) (q n : ℕ) → n ≤ (s.parts q).stock.pages → hide (drain_state s q n) ≡ drain_state (hide s) q n
drain_hidden s q n enough = hide_part s q (λ part. drained part n)
    (let part = s.parts q in let same : part.stock.pages - n + length part.fresh ≡ part.stock.pages + length part.fresh - n = omega (arith, enough) in
    λ i. record (drained (other_part_seen part) n) { stock = record ((drained (other_part_seen part) n).stock) { pages = same i } })

-- there is an ungrant exactly if there were pages
pub ungrants_some : (g k : ℕ) → 1 ≤ k → ungrant_steps (Some g) k ≡ zone_makes (Ungrant g k) Done ∷ []
ungrants_some g zero some = absurd (omega (arith, some))
ungrants_some g (suc k) some = refl

pub ungrants_none : (o : Option ℕ) (k : ℕ) → k ≡ 0 → ungrant_steps o k ≡ []
ungrants_none None k none = refl
ungrants_none (Some g) k none = ap (ungrant_steps (Some g)) none

-- any stock of the boot may be drained
pub drain_may : (t : KnownTable) (past : KnownPasts) → IsHeld t past → (q : ℕ) → IsCpuOf t q → MayMake t past 0 (DrainStock q)
drain_may t past is q of =
    and_from _ _ (zone_acts t past is) (ap (λ (z : Zone). is_cpu z q) (zone_seen t past)
    ∙ and_from (nat_le 1 q) (nat_le q t.cpus) (le-leb 1 q of.0) (le-leb q t.cpus of.1))
