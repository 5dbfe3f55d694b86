-- What notes and drains keep: usage is no higher, and groups stay. Serves all calls.
use Rattle.std.proofs.Common.{◌≡◌, ℕ, zero, suc, ◌+◌, ◌-◌, ◌<◌, ◌≤◌, ◌==◌, Bool, true, false, Option, List, [], ◌∷◌, map, refl, sym, ap, ◌∙◌}
use Rattle.std.proofs.Common.{subst, inl, inr, arith, cond, eq-eqb}
use Rattle.std.specs.List.{sum_by}
use Rattle.std.proofs.lemmas.Bool.{cases_eq, cases_lt, ne_eqb, cond-true, cond-false, false≢true}
use Rattle.std.proofs.lemmas.List.Sums.{sum_by-cons}
use Rattle.group_tree.specs.Bounds.{most_groups}
use Rattle.group_tree.specs.declared.group.Group.{Group}
use Rattle.group_tree.specs.{has_group, in_subtree, limit_of, fits_limit, PathHasRoom}
use Rattle.group_charge.specs.declared.account.Account as charge
use Rattle.group_charge.specs.Charges.{Ledger, current_of, usage_charged, max_noted, added, taken, peaked, charged, with_charge, with_uncharge}
use Rattle.group_charge.proofs.CallerLemmas.{sum-map_same}
use Rattle.group_charge.proofs.SumLemmas.{share}
use Rattle.step_rules.specs.State.{sum_to}
use Rattle.step_rules.specs.After.{Run}
use Rattle.boot_words.specs.Tables.{KnownTable}
use Rattle.mem_machine.specs.{KnownMachine, is_killed, with_run, HasRoomFor, Drain, DrainsAllBelow, of_subtree, transition, KnownRun}
use Rattle.mem_reclaim.proofs.LettingGo.{drains_leave}
use Rattle.mem_reclaim.specs.Staying.{Keeps}
use Rattle.mem_alloc.specs.Room.{ClearsBelow, has_room_at, with_max_noted_at}

-- the groups stay, who was killed stays killed, and no usage is higher
pub record Lowers (t : KnownTable) (m n : KnownMachine) : Type 0 where
  pub groups : n.ledger.groups ≡ m.ledger.groups
  pub killed : (v : ℕ) → is_killed m.killed v ≡ true → is_killed n.killed v ≡ true
  pub falls : (h : ℕ) → current_of n.ledger h ≤ current_of m.ledger h

pub lowers_none : (t : KnownTable) (m : KnownMachine) → Lowers t m m
lowers_none t m = record {
  groups = refl;
  killed = λ v dead. dead;
  falls = λ h. omega arith;
}

pub lowers_both : (t : KnownTable) (m x n : KnownMachine) → Lowers t m x → Lowers t x n → Lowers t m n
lowers_both t m x n a b = record {
  groups = b.groups ∙ a.groups;
  killed = λ v dead. b.killed v (a.killed v dead);
  falls = λ h. let u = a.falls h in let v = b.falls h in omega (arith, u, v);
}

pub all_lower : (t : KnownTable) (g k : ℕ) (m n : KnownMachine) (drains : List Drain) → DrainsAllBelow t g k drains m n → Lowers t m n
all_lower t g k m n drains h =
    let l = drains_leave t (of_subtree g) k m n drains h in
    record { groups = l.groups; killed = λ v dead. ap (λ (y : List Bool). is_killed y v) l.killed ∙ dead; falls = l.usage }

usage_noted : (groups : List Group) (xs : List charge.Account) (g m : ℕ) → usage_charged groups (map (max_noted groups g) xs) m ≡ usage_charged groups xs m
unfolding usage_charged
usage_noted groups xs g m = sum-map_same (share groups m) (max_noted groups g) (λ a. refl) xs

-- another run changes nothing of this
pub run_lowers : (t : KnownTable) (m : KnownMachine) (w : KnownRun) → Lowers t m (with_run m w)
run_lowers t m w = record {
  groups = refl;
  killed = λ v dead. dead;
  falls = λ h. omega arith;
}

pub note_lowers : (t : KnownTable) (m : KnownMachine) (g pages : ℕ) (w : KnownRun) → Lowers t m (with_run (with_max_noted_at m g pages) w)
note_lowers t m g pages w = record {
  groups = refl;
  killed = λ v dead. dead;
  falls = λ h.
      let a : current_of (with_max_noted_at m g pages).ledger h ≡ current_of m.ledger h = usage_noted m.ledger.groups m.ledger.accounts g h in
      omega (arith, a);
}

pub clears_lower : (t : KnownTable) (g pages : ℕ) (m n : KnownMachine) (steps : Run) → ClearsBelow g pages (transition t m steps n) → Lowers t m n
clears_lower t g pages m n steps c =
    let x = with_run (with_max_noted_at m g pages) c.seen in
    lowers_both t m x n (note_lowers t m g pages c.seen) (all_lower t g t.cpus x n c.drains c.all)

-- reclaim keeps it too
pub keeps_lower : (t : KnownTable) (m n : KnownMachine) → Keeps t m n → Lowers t m n
keeps_lower t m n keeps = record {
  groups = keeps.groups;
  killed = λ v dead. ap (λ (k : List Bool). is_killed k v) keeps.killed ∙ dead;
  falls = keeps.usage;
}

-- ---- what stays

pub lowered_there : (t : KnownTable) (m n : KnownMachine) (g : ℕ) → Lowers t m n → has_group m.ledger.groups g ≡ true → has_group n.ledger.groups g ≡ true
lowered_there t m n g l there = ap (λ (x : List Group). has_group x g) l.groups ∙ there

pub lowered_fits : (t : KnownTable) (m n : KnownMachine) (pages : ℕ) → Lowers t m n → HasRoomFor m pages → HasRoomFor n pages
lowered_fits t m n pages l fits = let a = l.falls 0 in omega (arith, a, fits)

-- ---- each refused try lowers the sum of all usages, if there is room after it

sum_le : (n : ℕ) (f g : ℕ → ℕ) → ((i : ℕ) → f i ≤ g i) → sum_to n f ≤ sum_to n g
unfolding sum_to
sum_le zero f g each = omega arith
sum_le (suc n) f g each = let a = sum_le n f g each in let b = each n in omega (arith, a, b)

pub sum_less : (n : ℕ) (f g : ℕ → ℕ) (k : ℕ) → k < n → ((i : ℕ) → f i ≤ g i) → f k < g k → sum_to n f < sum_to n g
unfolding sum_to
sum_less zero f g k inside each less = absurd (omega (arith, inside))
sum_less (suc n) f g k inside each less = elim (cases_eq k n) [
  | inl e ↦
      let a = sum_le n f g each in
      let b : f n < g n = subst (λ (j : ℕ). f j < g j) e less in
      omega (arith, a, b)
  | inr ne ↦ let a = sum_less n f g k (omega (arith, inside, ne)) each less in let b = each n in omega (arith, a, b)
]

room_falls : (o : Option ℕ) (a b pages : ℕ) → fits_limit o (a + pages) ≡ false → fits_limit o (b + pages) ≡ true → b ≤ a → b < a
room_falls o a b pages was now low = elim (cases_lt b a) [
  | inl less ↦ less
  | inr enough ↦
      let same : a ≡ b = omega (arith, low, enough) in
      absurd (false≢true (sym was ∙ ap (λ (x : ℕ). fits_limit o (x + pages)) same ∙ now))
]

-- the sum of the usages of all groups
abbrev pub all_usages : KnownMachine → ℕ
all_usages m = sum_to most_groups (current_of m.ledger)

pub usages_fall : (t : KnownTable) (m n : KnownMachine) (over pages : ℕ) → Lowers t m n → over < most_groups → has_room_at m.ledger over pages ≡ false → has_room_at n.ledger over pages ≡ true
    → all_usages n < all_usages m
usages_fall t m n over pages l inside was now =
    let limit : limit_of n.ledger.groups over ≡ limit_of m.ledger.groups over = ap (λ (x : List Group). limit_of x over) l.groups in
    let less = room_falls (limit_of m.ledger.groups over) (current_of m.ledger over) (current_of n.ledger over) pages was
    (ap (λ (o : Option ℕ). fits_limit o (current_of n.ledger over + pages)) (sym limit) ∙ now) (l.falls over) in
    sum_less most_groups (current_of n.ledger) (current_of m.ledger) over inside l.falls less

-- ---- a charge that is uncharged again leaves the usages as before

charged_share : (groups : List Group) (all : List charge.Account) (g n m : ℕ) (x : charge.Account)
    → share groups m (taken g n (peaked groups all g (added g n x))) ≡ share groups m x
charged_share groups all g n m x = elim (cases_eq x.group g) [
  | inl e ↦
      let is : (x.group == g) ≡ true = eq-eqb x.group g e in
      let back : x.pages + n - n ≡ x.pages = omega arith in
      ap (λ (y : charge.Account). share groups m (taken g n (peaked groups all g y))) (cond-true (x.group == g) (record x { pages = x.pages + n }) x is)
      ∙ ap (λ (y : charge.Account). share groups m y)
      (cond-true (x.group == g) (let y = peaked groups all g (record x { pages = x.pages + n }) in record y { pages = x.pages + n - n })
      (peaked groups all g (record x { pages = x.pages + n })) is)
      ∙ ap (λ (k : ℕ). cond (in_subtree groups m x.group) k 0) back
  | inr ne ↦
      let is : (x.group == g) ≡ false = ne_eqb x.group g ne in
      ap (λ (y : charge.Account). share groups m (taken g n (peaked groups all g y))) (cond-false (x.group == g) (record x { pages = x.pages + n }) x is)
      ∙ ap (λ (y : charge.Account). share groups m y)
      (cond-false (x.group == g) (let y = peaked groups all g x in record y { pages = x.pages - n }) (peaked groups all g x) is)
]

charged_back : (groups : List Group) (all xs : List charge.Account) (g n m : ℕ)
    → sum_by (share groups m) (map (taken g n) (map (peaked groups all g) (map (added g n) xs))) ≡ sum_by (share groups m) xs
charged_back groups all [] g n m = refl
charged_back groups all (x ∷ xs) g n m =
    sum_by-cons (share groups m) (taken g n (peaked groups all g (added g n x))) (map (taken g n) (map (peaked groups all g) (map (added g n) xs)))
    ∙ (λ i. charged_share groups all g n m x i + charged_back groups all xs g n m i)
    ∙ sym (sum_by-cons (share groups m) x xs)

pub usage_back : (l : Ledger) (g n m : ℕ) → current_of (with_uncharge (with_charge l g n) g n) m ≡ current_of l m
unfolding usage_charged charged
usage_back l g n m = charged_back l.groups (map (added g n) l.accounts) l.accounts g n m

pub room_back : (l : Ledger) (g n : ℕ) → PathHasRoom l.groups (current_of l) g n
    → PathHasRoom l.groups (current_of (with_uncharge (with_charge l g n) g n)) g n
room_back l g n room = λ h on. subst (λ (u : ℕ). fits_limit (limit_of l.groups h) (u + n) ≡ true) (sym (usage_back l g n h)) (room h on)
