-- A limit that is written in a boot without kills. Serves the law.
use Rattle.std.proofs.Common.{◌≡◌, ℕ, suc, ◌+◌, ◌≤◌, true, false, Option, Some, None, List, ◌++◌, refl, sym, ap, ◌∙◌, subst, inl, inr, arith}
use Rattle.std.specs.Prelude.{nat_le}
use Rattle.std.proofs.lemmas.Bool.{cases_lt, leb-false, false≢true}
use Rattle.group_tree.specs.declared.group.Group.{Group}
use Rattle.group_tree.specs.{fits_limit, has_group, limit_of}
use Rattle.group_tree.proofs.CallerLemmas.{limit_of-limited}
use Rattle.group_charge.specs.Charges.{current_of}
use Rattle.group_charge.proofs.UsageLemmas.{usage-limited}
use Rattle.group_protection.proofs.Topping.{kept_still}
use Rattle.boot_words.specs.Tables.{KnownTable}
use Rattle.step_rules.specs.{Part, Run}
use Rattle.mem_machine.specs.{KnownMachine, with_run, drain_stocks_steps, of_subtree, set_max_steps, AreDrained, HasDrained, transition}
use Rattle.mem_reclaim.specs.{CountsMisses, MissedAll, missed_in}
use Rattle.mem_reclaim.proofs.Grown.{missed_append}
use Rattle.mem_reclaim.proofs.LettingGo.{drains_leave}
use Rattle.mem_alloc.specs.{has_room_at, with_limit_noted}
use Rattle.mem_alloc.specs.Laws.{TriedAll}
use Rattle.mem_alloc.proofs.Refused.{none_killed}
use Rattle.mem_system.specs.{KeepsToLimit, LowersByKills, SetsLimit, with_limit_of}
use Rattle.mem_system.specs.KillLaws.{WritesOverALimitTriedAll}

-- the limit has no room for what is used
exceeds : (limit used : ℕ) (o : Option ℕ) → o ≡ Some limit → fits_limit o (used + 0) ≡ false → suc limit ≤ used
exceeds limit used o is over =
    let full : nat_le (used + 0) limit ≡ false = sym (ap (λ (x : Option ℕ). fits_limit x (used + 0)) is) ∙ over in
    let more = leb-false (used + 0) limit full in
    omega (arith, more)

module _ (t : KnownTable) (s : KnownMachine) (g : ℕ) (inner : Run) (n : KnownMachine) (chosen : t.choices.is_no_kill ≡ true)
    (counts : CountsMisses (transition t s inner n)) (over : has_room_at n.ledger g 0 ≡ false) where
  abbrev Tried : Type 0
  Tried = TriedAll g 0 (transition t s inner n)

  -- the usage is lowered after these steps, from a machine that has the usages from before
  lowered_tried : (limit : ℕ) (first steps : Run) (x : KnownMachine) → inner ≡ first ++ steps → limit_of x.ledger.groups g ≡ Some limit
      → ((h : ℕ) → current_of x.ledger h ≡ current_of s.ledger h) → LowersByKills g limit (transition t x steps n) → Tried
  lowered_tried limit first steps x is here uses k =
      let z = k.lowered in
      let low = k.lowers in
      let y = low.drained in
      let same : n ≡ z = (none_killed t.choices.is_no_kill _ (transition t z k.killing n) chosen k.kills).machine in
      let drains = drains_leave t (of_subtree g) t.cpus (with_limit_noted x g 0) y low.drains low.drains_all in
      let limit_is : limit_of z.ledger.groups g ≡ Some limit = ap (λ (l : List Group). limit_of l g) (low.keeps.groups ∙ drains.groups) ∙ here in
      let full = exceeds limit (current_of z.ledger g) (limit_of z.ledger.groups g) limit_is (ap (λ (m : KnownMachine). has_room_at m.ledger g 0) (sym same) ∙ over) in
      let counted = subst (λ (m : KnownMachine). CountsMisses (transition t s inner m)) same counts in
      let missed : MissedAll g s z = λ other inside. elim (low.missed full other inside) [
        | inl all ↦ inl (λ f list is_there clean.
            let more = all f list is_there clean in
            let late = low.reclaims.moves.misses f in
            let whole = counted f in
            let one = ap (missed_in f) is ∙ missed_append f first steps in
            let two = ap (missed_in f) k.steps_are ∙ missed_append f k.lowering k.killing in
            let three = ap (missed_in f) low.steps_are ∙ missed_append f (drain_stocks_steps low.drains) low.reclaims.steps in
            omega (arith, more, late, whole, one, two, three))
        | inr spared ↦ inr (kept_still s.ledger y.ledger z.ledger z.ledger g other refl refl
            (λ h. let fell = drains.usage h in let e = uses h in omega (arith, fell, e)) (λ h. omega arith) spared)
      ] in
      let drained : AreDrained t g z = λ q some few of.
      subst HasDrained (sym (low.keeps.stocks q))
      (low.none_held q some few (ap (λ (p : List Group × Part). of_subtree g p.0 p.1.stock.group) (λ i. (sym low.keeps.groups i, sym (low.keeps.stocks q) i)) ∙ of)) in
      record {
        over = over;
        drained = subst (λ (m : KnownMachine). AreDrained t g m) (sym same) drained;
        missed = subst (λ (m : KnownMachine). MissedAll g s m) (sym same) missed;
      }

  kept_tried : (of : Option ℕ) (first steps : Run) (x : KnownMachine) → inner ≡ first ++ steps → limit_of x.ledger.groups g ≡ of
      → ((h : ℕ) → current_of x.ledger h ≡ current_of s.ledger h) → KeepsToLimit g of (transition t x steps n) → Tried
  kept_tried None first steps x is here uses keeps =
      absurd (false≢true (sym over ∙ ap (λ (m : KnownMachine). has_room_at m.ledger g 0) keeps.machine ∙ ap (λ (o : Option ℕ). fits_limit o (current_of x.ledger g + 0)) here))
  kept_tried (Some limit) first steps x is here uses keeps = elim (cases_lt limit (current_of x.ledger g)) [
    | inl above ↦ lowered_tried limit first steps x is here uses (keeps.above above)
    | inr within ↦
        let stays : n ≡ x = (keeps.within within).machine in
        let full = exceeds limit (current_of x.ledger g) (limit_of x.ledger.groups g) here (ap (λ (m : KnownMachine). has_room_at m.ledger g 0) (sym stays) ∙ over) in
        absurd (omega (arith, within, full))
  ]

  set_tried : (of : Option ℕ) → has_group s.ledger.groups g ≡ true → SetsLimit g of (transition t s inner n) → Tried
  set_tried of there sets =
      kept_tried of (set_max_steps g of) sets.lowering (with_run (with_limit_of s g of) sets.seen) sets.steps_are
      (limit_of-limited s.ledger.groups g of there) (λ h. usage-limited s.ledger.groups s.ledger.accounts g h of) sets.keeps

pub written_tried_all : WritesOverALimitTriedAll
written_tried_all g of call served chosen over =
    set_tried call.table served.settled.machine g served.inner served.done chosen served.misses over of served.names served.executes.does.1
