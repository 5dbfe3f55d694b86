-- The usage of a group by the ledger, as the frames that are charged in its subtree and the books of the stocks of it.
-- Serves `take_block`, `remove` and `prove_room`.
use Rattle.std.proofs.Common.{◌≡◌, ◌≢◌, ℕ, ◌+◌, ◌<◌, ◌≤◌, ◌==◌, Bool, true, false, cond, Option, Some, None, List, [], ◌∷◌, length}
use Rattle.std.proofs.Common.{get_or, All, AllPairs, refl, sym, ap, ◌∙◌, arith, inl, inr, suc}
use Rattle.std.specs.Prelude.{◌⊎◌}
use Rattle.std.specs.List.{find, sum_by}
use Rattle.std.specs.Option.{option_map_or}
use Rattle.std.proofs.lemmas.Bool.{cases_eq, cases_lt, ne_eqb, eq-eqb}
use Rattle.std.proofs.lemmas.List.{get_or-map}
use Rattle.std.proofs.lemmas.List.Sums.{sum_by-cons}
use Rattle.group_tree.specs.Bounds.{most_groups}
use Rattle.group_tree.specs.declared.group.Group.{Group}
use Rattle.group_tree.specs.Groups.{in_subtree, the_root}
use Rattle.group_charge.specs.declared.account.Account.{Account}
use Rattle.group_charge.specs.Charges.{Ledger, AreCharges, current_of, usage_charged, pages_of, account_at}
use Rattle.group_charge.proofs.ChargeLemmas.{all_distinct, as_many}
use Rattle.group_tree.specs.{is_in_subtree}
use Rattle.step_rules.specs.{Part, one_if, sum_to}
use Rattle.step_rules.proofs.Sums.{sum_same, sum_none, sum_both, sum_part, sum_swap, sum_only}
use Rattle.boot_words.specs.Tables.{KnownTable}
use Rattle.mem_machine.specs.declared.frame_state.FrameState.{FrameState}
use Rattle.mem_machine.specs.{frame_state_at, frame_state_group, one_if_is, KnownMachine, IsConsistent, booked, left_by, pages_booked}

abbrev nothing : ℕ
nothing = 0

pub cond_zero : (b : Bool) → cond b nothing nothing ≡ nothing
cond_zero true = refl
cond_zero false = refl

pub cond_one : (b : Bool) → cond b 1 0 ≡ one_if b
cond_one true = refl
cond_one false = refl

cond_plus : (b : Bool) (x y : ℕ) → cond b (x + y) 0 ≡ cond b x 0 + cond b y 0
cond_plus true x y = refl
cond_plus false x y = refl

pub cond_sum : (b : Bool) (n : ℕ) (h : ℕ → ℕ) → cond b (sum_to n h) 0 ≡ sum_to n (λ i. cond b (h i) 0)
cond_sum true n h = refl
cond_sum false n h = sym (sum_none n (λ i. 0) (λ i below. refl))

-- ---- the ledger's usage, one number after another

-- the pages of the account of this number
abbrev own : List Account → ℕ → ℕ
own xs h = option_map_or (λ (a : Account). a.pages) (find (λ (a : Account). a.group == h) xs) 0

own_none : (xs : List Account) (h : ℕ) → ((k : ℕ) (d : Account) → k < length xs → (get_or xs k d).group ≡ h → ⊥) → own xs h ≡ 0
own_none [] h none = refl
own_none (x ∷ xs) h none =
    ap (λ (b : Bool). option_map_or (λ (a : Account). a.pages) (cond b (Some x) (find (λ (a : Account). a.group == h) xs)) 0)
    (ne_eqb x.group h (none 0 x (omega arith)))
    ∙ own_none xs h (λ k d lt. none (suc k) d (omega arith))

-- the pages of the account, if it counts
abbrev counted : (ℕ → Bool) → Account → ℕ
counted below a = cond (below a.group) a.pages 0

by_number : (below : ℕ → Bool) (n : ℕ) (xs : List Account) → AllPairs (λ (a b : Account). a.group ≢ b.group) xs
    → All (λ (a : Account). a.group < n) xs → sum_by (counted below) xs ≡ sum_to n (λ h. cond (below h) (own xs h) 0)
by_number below n [] distinct small = sym (sum_none n _ (λ h lt. cond_zero (below h)))
by_number below n (x ∷ xs) distinct small =
    let rest = by_number below n xs (λ i j d before lt. distinct (suc i) (suc j) d (omega arith) (omega arith)) (λ k d lt. small (suc k) d (omega arith)) in
    let split = sum_same n (λ h. cond (below h) (own (x ∷ xs) h) 0) (λ h. cond (below h) (own xs h) 0 + cond (x.group == h) (counted below x) 0)
    (λ h lt. each h) in
    let both = sum_both n (λ h. cond (below h) (own xs h) 0) (λ h. cond (x.group == h) (counted below x) 0) in
    let one = sum_only n (λ h. cond (x.group == h) (counted below x) 0) x.group (small 0 x (omega arith))
    (λ h lt ne. ap (λ (b : Bool). cond b (counted below x) 0) (ne_eqb x.group h (λ e. ne (sym e)))) in
    let value : cond (x.group == x.group) (counted below x) 0 ≡ counted below x = ap (λ (b : Bool). cond b (counted below x) 0) (eq-eqb x.group x.group refl) in
    let front = sum_by-cons (counted below) x xs in
    omega arith
  where
    each : (h : ℕ) → cond (below h) (own (x ∷ xs) h) 0 ≡ cond (below h) (own xs h) 0 + cond (x.group == h) (counted below x) 0
    each h = elim (cases_eq x.group h) [
      | inl e ↦
          let mine : own (x ∷ xs) h ≡ x.pages =
          ap (λ (b : Bool). option_map_or (λ (a : Account). a.pages) (cond b (Some x) (find (λ (a : Account). a.group == h) xs)) 0) (eq-eqb x.group h e) in
          let none : own xs h ≡ 0 = own_none xs h (λ k d lt same. distinct 0 (suc k) d (omega arith) (omega arith) (e ∙ sym same)) in
          let a : cond (below h) (own (x ∷ xs) h) 0 ≡ cond (below h) x.pages 0 = ap (λ (v : ℕ). cond (below h) v 0) mine in
          let b : cond (below h) (own xs h) 0 ≡ 0 = ap (λ (v : ℕ). cond (below h) v 0) none ∙ cond_zero (below h) in
          let c : cond (x.group == h) (counted below x) 0 ≡ counted below x = ap (λ (v : Bool). cond v (counted below x) 0) (eq-eqb x.group h e) in
          let d : counted below x ≡ cond (below h) x.pages 0 = ap (λ (v : ℕ). cond (below v) x.pages 0) e in
          omega arith
      | inr ne ↦
          let same : own (x ∷ xs) h ≡ own xs h =
          ap (λ (b : Bool). option_map_or (λ (a : Account). a.pages) (cond b (Some x) (find (λ (a : Account). a.group == h) xs)) 0) (ne_eqb x.group h ne) in
          let a : cond (below h) (own (x ∷ xs) h) 0 ≡ cond (below h) (own xs h) 0 = ap (λ (v : ℕ). cond (below h) v 0) same in
          let c : cond (x.group == h) (counted below x) 0 ≡ 0 = ap (λ (v : Bool). cond v (counted below x) 0) (ne_eqb x.group h ne) in
          omega arith
    ]

-- each account's number is one of a group
all_small : (l : Ledger) → AreCharges l → All (λ (a : Account). a.group < most_groups) l.accounts
all_small l facts = λ k d lt.
    let many = as_many l facts in
    let also : k < length l.groups = omega arith in
    let same : (get_or l.accounts k d).group ≡ (get_or l.groups k (the_root 0)).number =
    sym (get_or-map (λ (a : Account). a.group) l.accounts k d 0 lt) ∙ ap (λ (ns : List ℕ). get_or ns k 0) facts.numbers
    ∙ get_or-map (λ (x : Group). x.number) l.groups k (the_root 0) 0 also in
    let bound : (get_or l.groups k (the_root 0)).number < most_groups =
    let low = facts.groups.numbers k (the_root 0) also in let room = facts.groups.room in omega arith in
    omega arith

usage_by_number : (l : Ledger) (g : ℕ) → AreCharges l → current_of l g ≡ sum_to most_groups (λ h. cond (in_subtree l.groups g h) (pages_of l h) 0)
unfolding usage_charged pages_of account_at
usage_by_number l g facts = by_number (in_subtree l.groups g) most_groups l.accounts (all_distinct l facts) (all_small l facts)

-- no account has another number
none_beyond : (l : Ledger) (h : ℕ) → AreCharges l → most_groups ≤ h → pages_of l h ≡ 0
unfolding pages_of account_at
none_beyond l h facts beyond = own_none l.accounts h (λ k d lt same. absurd (let a = all_small l facts k d lt in omega arith))

-- ---- what one frame, or one book, counts for a subtree

module _ (groups : List Group) (g : ℕ) where
  picked : (k v : ℕ) (F : ℕ → ℕ) → k < most_groups → F k ≡ v → ((h : ℕ) → (h ≡ k → ⊥) → F h ≡ 0)
      → sum_to most_groups (λ h. cond (in_subtree groups g h) (F h) 0) ≡ cond (in_subtree groups g k) v 0
  picked k v F small value others =
      sum_only most_groups (λ h. cond (in_subtree groups g h) (F h) 0) k small
      (λ h lt ne. ap (λ (x : ℕ). cond (in_subtree groups g h) x 0) (others h ne) ∙ cond_zero (in_subtree groups g h))
      ∙ ap (λ (x : ℕ). cond (in_subtree groups g k) x 0) value

  picked_none : (F : ℕ → ℕ) → ((h : ℕ) → F h ≡ 0) → sum_to most_groups (λ h. cond (in_subtree groups g h) (F h) 0) ≡ 0
  picked_none F none = sum_none most_groups _ (λ h lt. ap (λ (x : ℕ). cond (in_subtree groups g h) x 0) (none h) ∙ cond_zero (in_subtree groups g h))

  count_own : (k : ℕ) → one_if_is k (Some k) ≡ 1
  count_own k = ap (λ (b : Bool). cond b 1 0) (eq-eqb k k refl)

  count_other : (k h : ℕ) → (h ≡ k → ⊥) → one_if_is h (Some k) ≡ 0
  count_other k h ne = ap (λ (b : Bool). cond b 1 0) (ne_eqb k h (λ e. ne (sym e)))

  frame_counts : (o : Option ℕ) → ((k : ℕ) → o ≡ Some k → k < most_groups)
      → sum_to most_groups (λ h. cond (in_subtree groups g h) (one_if_is h o) 0) ≡ one_if (is_in_subtree groups g o)
  frame_counts None small = picked_none (λ h. 0) (λ h. refl)
  frame_counts (Some k) small = picked k 1 (λ h. one_if_is h (Some k)) (small k refl) (count_own k) (count_other k) ∙ cond_one (in_subtree groups g k)

  book_counts : (o : Option ℕ) (b : ℕ) → ((k : ℕ) → o ≡ Some k → (k < most_groups) ⊎ (b ≡ 0))
      → sum_to most_groups (λ h. cond (in_subtree groups g h) (cond (one_if_is h o == 0) 0 b) 0) ≡ cond (is_in_subtree groups g o) b 0
  book_counts None b small = picked_none (λ h. 0) (λ h. refl)
  book_counts (Some k) b small = elim (small k refl) [
    | inl inside ↦ picked k b (λ h. cond (one_if_is h (Some k) == 0) 0 b) inside (ap (λ (n : ℕ). cond (n == 0) 0 b) (count_own k))
        (λ h ne. ap (λ (n : ℕ). cond (n == 0) 0 b) (count_other k h ne))
    | inr none ↦
        picked_none (λ h. cond (one_if_is h (Some k) == 0) 0 b)
        (λ h. ap (λ (x : ℕ). cond (one_if_is h (Some k) == 0) 0 x) none ∙ cond_zero (one_if_is h (Some k) == 0))
        ∙ sym (ap (λ (x : ℕ). cond (in_subtree groups g k) x 0) none ∙ cond_zero (in_subtree groups g k))
  ]

-- ---- all frames and all books

module _ (t : KnownTable) (m : KnownMachine) (is : IsConsistent t m) (charges : AreCharges m.ledger) (g : ℕ) where
  abbrev groups : List Group
  groups = m.ledger.groups

  abbrev frame_state : ℕ → FrameState
  frame_state f = frame_state_at m.frame_states f

  abbrev part : ℕ → Part
  part p = (left_by t m.run.past).parts p

  abbrev frame_count : ℕ → ℕ → ℕ
  frame_count h f = one_if_is h (frame_state_group (frame_state f))

  abbrev book_count : ℕ → ℕ → ℕ
  book_count h p = booked h (part p)

  charged_frame : (f k : ℕ) → f < t.frames → frame_state_group (frame_state f) ≡ Some k → k < most_groups
  charged_frame f k inside at = elim (cases_lt k most_groups) [
    | inl lt ↦ lt
    | inr beyond ↦ absurd (
        let none = none_beyond m.ledger k charges beyond in
        let all = is.shown.charged k in
        let sized = is.sizes.frame_states in
        let share = sum_part (length m.frame_states) (frame_count k) f (omega arith) in
        let one : frame_count k f ≡ 1 = ap (λ (o : Option ℕ). one_if_is k o) at ∙ ap (λ (b : Bool). cond b 1 0) (eq-eqb k k refl) in
        omega arith)
  ]

  booked_pages : (p k : ℕ) → p < t.cpus + 1 → (part p).stock.group ≡ Some k → (k < most_groups) ⊎ ((part p).book ≡ 0)
  booked_pages p k inside at = elim (cases_lt k most_groups) [
    | inl lt ↦ inl lt
    | inr beyond ↦ inr (
        let none = none_beyond m.ledger k charges beyond in
        let all = is.shown.charged k in
        let share = sum_part (t.cpus + 1) (book_count k) p inside in
        let one : one_if_is k (part p).stock.group ≡ 1 = ap (λ (o : Option ℕ). one_if_is k o) at ∙ ap (λ (b : Bool). cond b 1 0) (eq-eqb k k refl) in
        let whole : book_count k p ≡ (part p).book = ap (λ (n : ℕ). cond (n == 0) 0 (part p).book) one in
        omega arith)
  ]

  -- the usage of the group, by its frames and by the books of the stocks
  pub ledger_visit_state : current_of m.ledger g ≡ sum_to t.frames (λ f. one_if (is_in_subtree groups g (frame_state_group (frame_state f))))
      + sum_to (t.cpus + 1) (λ q. cond (is_in_subtree groups g (part q).stock.group) (part q).book 0)
  ledger_visit_state =
      let by = usage_by_number m.ledger g charges in
      let split = sum_same most_groups (λ h. cond (in_subtree groups g h) (pages_of m.ledger h) 0)
      (λ h. sum_to t.frames (λ f. cond (in_subtree groups g h) (frame_count h f) 0) + sum_to (t.cpus + 1)
      (λ p. cond (in_subtree groups g h) (book_count h p) 0))
      (λ h lt. ap (λ (n : ℕ). cond (in_subtree groups g h) n 0) (is.shown.charged h
      ∙ ap (λ (n : ℕ). sum_to n (frame_count h) + pages_booked t.cpus (left_by t m.run.past).parts h) is.sizes.frame_states)
      ∙ cond_plus (in_subtree groups g h) (sum_to t.frames (frame_count h)) (sum_to (t.cpus + 1) (book_count h))
      ∙ (λ i. cond_sum (in_subtree groups g h) t.frames (frame_count h) i + cond_sum (in_subtree groups g h) (t.cpus + 1) (book_count h) i)) in
      let both = sum_both most_groups (λ h. sum_to t.frames (λ f. cond (in_subtree groups g h) (frame_count h f) 0))
      (λ h. sum_to (t.cpus + 1) (λ p. cond (in_subtree groups g h) (book_count h p) 0)) in
      let turned = sum_swap most_groups t.frames (λ h f. cond (in_subtree groups g h) (frame_count h f) 0) in
      let turned_too = sum_swap most_groups (t.cpus + 1) (λ h p. cond (in_subtree groups g h) (book_count h p) 0) in
      let frames = sum_same t.frames (λ f. sum_to most_groups (λ h. cond (in_subtree groups g h) (frame_count h f) 0))
      (λ f. one_if (is_in_subtree groups g (frame_state_group (frame_state f))))
      (λ f lt. frame_counts groups g (frame_state_group (frame_state f)) (λ k at. charged_frame f k lt at)) in
      let books = sum_same (t.cpus + 1) (λ p. sum_to most_groups (λ h. cond (in_subtree groups g h) (book_count h p) 0))
      (λ q. cond (is_in_subtree groups g (part q).stock.group) (part q).book 0)
      (λ p lt. book_counts groups g (part p).stock.group (part p).book (λ k at. booked_pages p k lt at)) in
      omega arith
