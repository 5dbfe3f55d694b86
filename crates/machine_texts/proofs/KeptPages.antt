-- The pages of kept units are at most those that are charged. Serves `memory_stat`.
use Rattle.std.proofs.Common.{◌≡◌, ℕ, suc, ◌+◌, ◌^◌, ◌<◌, ◌≤◌, ◌==◌, Bool, true, false, cond, Option, Some, List, [], ◌∷◌, length}
use Rattle.std.proofs.Common.{get_or, drop, map, All, refl, sym, ap, ◌∙◌, subst, arith, inl, inr, eq-eqb}
use Rattle.std.specs.Prelude.{sum_by}
use Rattle.std.specs.Option.{option_map_or}
use Rattle.std.proofs.lemmas.Bool.{cases_Bool, cases_eq, cases_lt, cond-true, cond-false, false≢true, or_right}
use Rattle.std.proofs.lemmas.Option.{none-some, same_Some}
use Rattle.std.proofs.lemmas.List.Elements.{Contains-get_or}
use Rattle.std.proofs.lemmas.List.Sums.{sum_by-cons}
use Rattle.group_tree.specs.Groups.{in_subtree}
use Rattle.group_tree.specs.declared.group.Group.{Group}
use Rattle.group_charge.specs.declared.account.Account.{Account}
use Rattle.group_charge.specs.Charges.{AreCharges, current_of, pages_of, usage_charged}
use Rattle.group_charge.proofs.ChargeLemmas.{account_at-there}
use Rattle.lru_lists.specs.declared.record.Home.{Home}
use Rattle.lru_lists.specs.declared.record.Entry.{Entry}
use Rattle.lru_lists.specs.declared.record.LruList.{LruList}
use Rattle.lru_lists.specs.declared.record.LruList.TheVariants.{Inactive, Active}
use Rattle.step_rules.specs.declared.phase.ChargedUnit.{ChargedUnit}
use Rattle.step_rules.specs.{is_within, one_if}
use Rattle.step_rules.specs.State.{sum_to}
use Rattle.step_rules.proofs.Placing.{within_cases}
use Rattle.step_rules.proofs.Sums.{sum_both, sum_same}
use Rattle.boot_words.specs.Tables.{KnownTable}
use Rattle.mem_machine.specs.declared.frame_state.FrameState.{FrameState}
use Rattle.mem_machine.specs.declared.frame_state.FrameState.TheVariants.{Free, Lent, Head, Tail}
use Rattle.group_tree.specs.Groups.{room_of}
use Rattle.mem_machine.specs.{AreUnits, FitsFrameState, IsConsistent, KnownMachine, entries_in, frame_state_at, frame_state_group, head_group_of}
use Rattle.mem_machine.specs.{headed_unit, one_if_is}
use Rattle.mem_machine.proofs.Freeing.{is_out, sum_within}
use Rattle.mem_machine.proofs.Listing.{AreApartUnits, has_mid, has_unit, home_inside, listed_is}
use Rattle.machine_texts.proofs.Counting.{few_if}
use Rattle.machine_texts.specs.Stat.{counted_pages, is_counted, pages_at, pages_below, pages_on, pages_shared}

-- ---- the units of two lists, none twice

-- the frame heads a unit, and each frame of that counts once
record Counts (frame_states : List FrameState) (h : ℕ → ℕ) (f : ℕ) : Type 0 where
  unit : ChargedUnit
  heads : frame_state_at frame_states f ≡ Head unit
  whole : (x : ℕ) → f ≤ x → x < f + 2 ^ unit.order → h x ≡ 1

module _ (m : KnownMachine) (units : AreUnits m.frame_states) (only_dirty : Bool) where
  abbrev AllCount : (ℕ → ℕ) → List Entry → Type 0
  AllCount h es = (f : ℕ) → has_unit f es ≡ true → Counts m.frame_states h f

  -- no frame of a unit heads another one
  no_head : (f e x : ℕ) (u v : ChargedUnit) → frame_state_at m.frame_states f ≡ Head u → frame_state_at m.frame_states e ≡ Head v
      → f < e → e ≤ x → x < f + 2 ^ u.order → ⊥
  no_head f e x u v is other before low high =
      none-some v.group (ap head_group_of (sym ((units.heads f u is).tails e before (omega (arith, low, high))) ∙ other))

  module _ (h : ℕ → ℕ) (e : ℕ) (mine : Counts m.frame_states h e) where
    abbrev is_mine : ℕ → Bool
    is_mine = is_within e (2 ^ mine.unit.order)

    -- what counts without the frames of this unit
    abbrev left : ℕ → ℕ
    left x = cond (is_mine x) 0 (h x)

    -- the frames of other units still count
    still : (es : List Entry) → has_unit e es ≡ false → AllCount h es → AllCount left es
    still es none all f is =
        let his = all f is in
        let ne : (f ≡ e → ⊥) = λ same. false≢true (sym none ∙ ap (λ (k : ℕ). has_unit k es) (sym same) ∙ is) in
        record {
          unit = his.unit;
          heads = his.heads;
          whole = λ x low high.
              cond-false (is_mine x) 0 (h x) (is_out e (2 ^ mine.unit.order) x (λ from below. elim (cases_lt f e) [
                | inl lt ↦ no_head f e x his.unit mine.unit his.heads mine.heads lt from high
                | inr ge ↦ no_head e f x mine.unit his.unit mine.heads his.heads (omega (arith, ge, ne)) low below
              ])) ∙ his.whole x low high;
        }

    split : sum_to (length m.frame_states) h ≡ sum_to (length m.frame_states) left + 2 ^ mine.unit.order
    split =
        let n : ℕ = length m.frame_states in
        let same = sum_same n h (λ x. left x + one_if (is_mine x)) (λ x below. elim (within_cases e (2 ^ mine.unit.order) x) [
          | inl w ↦ mine.whole x w.1 w.2 ∙ sym (ap (λ (b : Bool). cond b 0 (h x) + one_if b) w.0)
          | inr out ↦ let one = ap (λ (b : Bool). cond b 0 (h x) + one_if b) out.0 in omega (arith, one)
        ]) in
        omega (arith, same, sum_both n left (λ x. one_if (is_mine x)), sum_within n e (2 ^ mine.unit.order), (units.heads e mine.unit mine.heads).block.inside)

  -- the pages of the first entries, and a sum that counts those of the others, are at most all that counts
  fit : (ys : List Entry) (sum : ℕ) → ((h : ℕ → ℕ) → AllCount h ys → sum ≤ sum_to (length m.frame_states) h) → (xs : List Entry)
      → AreApartUnits xs → ((f : ℕ) → has_unit f xs ≡ true → has_unit f ys ≡ false) → (h : ℕ → ℕ) → AllCount h xs → AllCount h ys
      → sum_by (counted_pages m only_dirty) xs + sum ≤ sum_to (length m.frame_states) h
  fit ys sum more [] apart others h all rest = let a = more h rest in omega (arith, a)
  fit ys sum more (x ∷ xs) apart others h all rest =
      let first = has_mid [] xs x x.number refl in
      let mine = all x.number first in
      let a = fit ys sum more xs apart.1 (λ f is. others f (or_right (x.number == f) (has_unit f xs) is)) (left h x.number mine)
      (still h x.number mine xs apart.0 (λ f is. all f (or_right (x.number == f) (has_unit f xs) is)))
      (still h x.number mine ys (others x.number first) rest) in
      let pages : pages_at m x.number ≡ 2 ^ mine.unit.order =
      ap (λ (s : FrameState). option_map_or (λ (u : ChargedUnit). 2 ^ u.order) (headed_unit s) 0) mine.heads in
      let b = few_if (is_counted only_dirty x) (pages_at m x.number) (2 ^ mine.unit.order) (omega (arith, pages)) in
      omega (arith, a, b, split h x.number mine, sum_by-cons (counted_pages m only_dirty) x xs)

-- ---- the two lists of a group

abbrev is_inactive : LruList → Bool
is_inactive Inactive = true
is_inactive Active = false

module _ (t : KnownTable) (m : KnownMachine) (ok : IsConsistent t m) (only_dirty : Bool) (g : ℕ) where
  abbrev one_of : FrameState → ℕ
  one_of s = one_if_is g (frame_state_group s)

  -- each frame of a unit of the group counts once
  headed : (f : ℕ) (s : FrameState) → frame_state_at m.frame_states f ≡ s → head_group_of s ≡ Some g
      → Counts m.frame_states (λ x. one_of (frame_state_at m.frame_states x)) f
  headed f Free is own = absurd (none-some g own)
  headed f (Lent cpu) is own = absurd (none-some g own)
  headed f (Tail group) is own = absurd (none-some g own)
  headed f (Head unit) is own =
      let one : one_if_is g (Some unit.group) ≡ 1 = cond-true (unit.group == g) 1 0 (eq-eqb unit.group g (same_Some unit.group g own)) in
      record {
        unit = unit;
        heads = is;
        whole = λ x low high. elim (cases_eq x f) [
          | inl e ↦ ap (λ (k : ℕ). one_of (frame_state_at m.frame_states k)) e ∙ ap one_of is ∙ one
          | inr ne ↦ ap one_of ((ok.units.heads f unit is).tails x (omega (arith, low, ne)) high) ∙ one
        ];
      }

  owned : (list : LruList) → AllCount m ok.units only_dirty (λ x. one_of (frame_state_at m.frame_states x)) (entries_in m g list)
  owned list f is =
      let home = (listed_is t m ok g list).homes f is in
      let there = ok.frame_states f (home_inside t m ok f (record { owner = g; list = list }) home) in
      headed f (frame_state_at m.frame_states f) refl (subst (λ (o : Option Home). FitsFrameState (room_of m.ledger.groups) o (frame_state_at m.frame_states f)) home there).1

  -- what is on its lists is charged to it
  kept_of : pages_on m Inactive only_dirty g + pages_on m Active only_dirty g ≤ pages_of m.ledger g
  kept_of =
      let inactive = listed_is t m ok g Inactive in
      let active = listed_is t m ok g Active in
      let a = fit m ok.units only_dirty (entries_in m g Active) (pages_on m Active only_dirty g)
      (λ h all. let one = fit m ok.units only_dirty [] 0 (λ h none. omega arith) (entries_in m g Active) active.apart (λ f is. refl) h all
      (λ f is. absurd (false≢true is)) in omega (arith, one))
      (entries_in m g Inactive) inactive.apart
      (λ f is. elim (cases_Bool (has_unit f (entries_in m g Active))) [
        | inl too ↦ absurd (false≢true (ap (λ (o : Option Home). option_map_or (λ (h : Home). is_inactive h.list) o false)
            (sym (active.homes f too) ∙ inactive.homes f is)))
        | inr out ↦ out
      ])
      (λ x. one_of (frame_state_at m.frame_states x)) (owned Inactive) (owned Active) in
      omega (arith, a, ok.shown.charged g)

-- ---- the groups of a subtree

-- two sums over the groups, if each group's part of both is at most its account's part of a third
rows_few : (f h : ℕ → ℕ) (most : Account → ℕ) (rows : List Group) (accounts : List Account)
    → map (λ (a : Account). a.group) accounts ≡ map (λ (row : Group). row.number) rows → All (λ (a : Account). f a.group + h a.group ≤ most a) accounts
    → sum_by (λ (row : Group). f row.number) rows + sum_by (λ (row : Group). h row.number) rows ≤ sum_by most accounts
rows_few f h most [] accounts same few = omega arith
rows_few f h most (row ∷ rows) [] same few = absurd (let none = ap length same in omega (arith, none))
rows_few f h most (row ∷ rows) (a ∷ accounts) same few =
    let number : a.group ≡ row.number = ap (λ (ns : List ℕ). get_or ns 0 0) same in
    let rest = rows_few f h most rows accounts (ap (drop 1) same) (λ k d lt. few (suc k) d (omega arith)) in
    let one : f a.group + h a.group ≤ most a = few 0 a (omega arith) in
    omega (
      arith,
      rest,
      one,
      ap f number,
      ap h number,
      sum_by-cons (λ (r : Group). f r.number) row rows,
      sum_by-cons (λ (r : Group). h r.number) row rows,
      sum_by-cons most a accounts,
    )

both_if : (b : Bool) (n k most : ℕ) → n + k ≤ most → cond b n 0 + cond b k 0 ≤ cond b most 0
both_if true n k most few = few
both_if false n k most few = omega arith

-- what a subtree keeps is at most its usage
pub kept_below : (t : KnownTable) (m : KnownMachine) → IsConsistent t m → AreCharges m.ledger → (only_dirty : Bool) (g : ℕ)
    → pages_below m Inactive only_dirty g + pages_below m Active only_dirty g ≤ current_of m.ledger g
unfolding usage_charged pages_of
kept_below t m ok legal only_dirty g =
    rows_few (pages_shared m Inactive only_dirty g) (pages_shared m Active only_dirty g) (λ (a : Account). cond (in_subtree m.ledger.groups g a.group) a.pages 0)
    m.ledger.groups m.ledger.accounts legal.numbers
    (λ k d lt.
    let a : Account = get_or m.ledger.accounts k d in
    let own : pages_of m.ledger a.group ≡ a.pages =
    ap (λ (o : Option Account). option_map_or (λ (x : Account). x.pages) o 0) (account_at-there m.ledger a legal (Contains-get_or m.ledger.accounts k d lt)) in
    both_if (in_subtree m.ledger.groups g a.group) (pages_on m Inactive only_dirty a.group) (pages_on m Active only_dirty a.group) a.pages
    (omega (arith, own, kept_of t m ok only_dirty a.group)))
