-- Usage is the same under the cover.
use Rattle.std.proofs.Common.{◌≡◌, ℕ, ◌+◌, ◌<◌, ◌==◌, Bool, true, false, Option, Some, List, length, refl, sym, ◌∙◌, ap, arith, cond, if◌then◌else◌, eq-eqb}
use Rattle.std.proofs.lemmas.Bool.{ne_eqb}
use Rattle.group_tree.specs.declared.group.Group.{Group}
use Rattle.group_tree.specs.{is_in_subtree}
use Rattle.step_rules.specs.declared.phase.ChargedUnit.{ChargedUnit}
use Rattle.step_rules.specs.declared.phase.Stage.TheVariants.{FreshAt, BackAt, Live}
use Rattle.step_rules.specs.declared.phase.Phase.{Phase}
use Rattle.step_rules.specs.declared.phase.Phase.TheVariants.{Lent, Head}
use Rattle.step_rules.specs.declared.phase.Way.TheVariants.{OnList}
use Rattle.step_rules.specs.Phases.{FreshFrame}
use Rattle.step_rules.specs.{has_as, keeper_of, Part, one_if, sum_to, times, frames_kept, stock_in_subtree, pages_prepaid, usage_of}
use Rattle.step_rules.specs.{phase_seen_by, other_part_seen, parts_seen_by, seen_by, IsPaid, PhasePaid, groups_in, KeepsInvariant}
use Rattle.step_rules.specs.State.{State}
use Rattle.step_rules.proofs.Sums.{sum_same, sum_none, sum_both, sum_swap, sum_only}
use Rattle.step_rules.proofs.Lists.{count_length}
use Rattle.step_rules.proofs.PhaseLemmas.{free_is}

-- 1 where another CPU than p, whose stock is of the subtree, has the frame fresh
abbrev covered : List Group → ℕ → ℕ → (ℕ → Option ℕ) → ℕ → Phase → ℕ
covered groups g p stocks q x = if q == p then 0 else (if is_in_subtree groups g (stocks q) then one_if (has_as FreshFrame q x) else 0)

covered_not : (groups : List Group) (g p : ℕ) (stocks : ℕ → Option ℕ) (q : ℕ) (x : Phase) → has_as FreshFrame q x ≡ false → covered groups g p stocks q x ≡ 0
covered_not groups g p stocks q x e = none (q == p) (is_in_subtree groups g (stocks q)) (one_if (has_as FreshFrame q x)) (ap one_if e)
  where
    none : (a b : Bool) (n : ℕ) → n ≡ 0 → cond a 0 (cond b n 0) ≡ 0
    none true b n e = refl
    none false true n e = e
    none false false n e = refl

-- a fresh frame counts at the cover or under it
fresh_counts : (groups : List Group) (g p cpus : ℕ) (stocks : ℕ → Option ℕ) (u : ChargedUnit) (r : ℕ) → IsPaid cpus stocks u r →
    one_if (is_in_subtree groups g (Some u.group)) ≡ one_if (is_in_subtree groups g (keeper_of (phase_seen_by p (Head u (FreshAt r)))))
    + sum_to (cpus + 1) (λ q. covered groups g p stocks q (Head u (FreshAt r)))
fresh_counts groups g p cpus stocks u r paid =
    let below : r < cpus + 1 = let h = paid.high in omega arith in
    let one : sum_to (cpus + 1) (λ q. covered groups g p stocks q (Head u (FreshAt r))) ≡ covered groups g p stocks r (Head u (FreshAt r)) =
    sum_only (cpus + 1) (λ q. covered groups g p stocks q (Head u (FreshAt r))) r below
    (λ q here ne. covered_not groups g p stocks q (Head u (FreshAt r)) (ne_eqb r q (λ e. ne (sym e)))) in
    let mine : one_if (has_as FreshFrame r (Head u (FreshAt r))) ≡ 1 = ap one_if (eq-eqb r r refl) in
    let same : is_in_subtree groups g (stocks r) ≡ is_in_subtree groups g (Some u.group) = ap (is_in_subtree groups g) paid.group in
    let counted : covered groups g p stocks r (Head u (FreshAt r)) ≡ cond (r == p) 0 (cond (is_in_subtree groups g (Some u.group)) 1 0) =
    (λ i. cond (r == p) 0 (cond (same i) (mine i) 0)) in
    splits (r == p) (is_in_subtree groups g (Some u.group)) refl
    ∙ ap (λ n. one_if (is_in_subtree groups g (keeper_of (cond (r == p) (Head u (FreshAt r)) (Lent r OnList)))) + n) (sym (one ∙ counted))
  where
    splits : (a b : Bool) → b ≡ is_in_subtree groups g (Some u.group) →
        one_if b ≡ one_if (is_in_subtree groups g (keeper_of (cond a (Head u (FreshAt r)) (Lent r OnList)))) + cond a 0 (cond b 1 0)
    splits true b e = ap one_if e ∙ (omega arith)
    splits false true e = refl
    splits false false e = refl

other_counts : (groups : List Group) (g p cpus : ℕ) (stocks : ℕ → Option ℕ) (x : Phase) → keeper_of (phase_seen_by p x) ≡ keeper_of x →
    ((q : ℕ) → has_as FreshFrame q x ≡ false) →
    one_if (is_in_subtree groups g (keeper_of x)) ≡ one_if (is_in_subtree groups g (keeper_of (phase_seen_by p x))) + sum_to (cpus + 1) (λ q. covered groups g p stocks q x)
other_counts groups g p cpus stocks x same nobody =
    let none = sum_none (cpus + 1) (λ q. covered groups g p stocks q x) (λ q below. covered_not groups g p stocks q x (nobody q)) in
    let e : one_if (is_in_subtree groups g (keeper_of (phase_seen_by p x))) ≡ one_if (is_in_subtree groups g (keeper_of x)) = ap (λ k. one_if (is_in_subtree groups g k)) same in
    omega arith

back_keeper : (u : ChargedUnit) (r : ℕ) (b : Bool) → keeper_of (cond b (Head u (BackAt r)) (Head u Live)) ≡ Some u.group
back_keeper u r true = refl
back_keeper u r false = refl

phase_counts : (groups : List Group) (g p cpus : ℕ) (stocks : ℕ → Option ℕ) (x : Phase) → PhasePaid cpus stocks x →
    one_if (is_in_subtree groups g (keeper_of x)) ≡ one_if (is_in_subtree groups g (keeper_of (phase_seen_by p x))) + sum_to (cpus + 1) (λ q. covered groups g p stocks q x)
phase_counts groups g p cpus stocks (Head u (FreshAt r)) paid = fresh_counts groups g p cpus stocks u r paid
phase_counts groups g p cpus stocks (Head u (BackAt r)) paid = other_counts groups g p cpus stocks (Head u (BackAt r)) (back_keeper u r (r == p)) (λ q. refl)
phase_counts groups g p cpus stocks x paid = other_counts groups g p cpus stocks x refl (λ q. refl)

-- the pages of a stock under the cover: others' fresh frames are among them
stock_counts : (groups : List Group) (g p : ℕ) (parts : ℕ → Part) (q : ℕ) →
    stock_in_subtree groups g (parts_seen_by p parts q) ≡ stock_in_subtree groups g (parts q)
    + cond (q == p) 0 (cond (is_in_subtree groups g (parts q).stock.group) (length (parts q).fresh) 0)
stock_counts groups g p parts q = counts (q == p) (is_in_subtree groups g (parts q).stock.group) refl
  where
    counts : (a b : Bool) → is_in_subtree groups g (parts q).stock.group ≡ b →
        stock_in_subtree groups g (cond a (parts q) (other_part_seen (parts q)))
        ≡ stock_in_subtree groups g (parts q) + cond a 0 (cond b (length (parts q).fresh) 0)
    counts true b e = omega arith
    counts false true e = rw e refl
    counts false false e = rw e refl

-- the fresh frames of a CPU, counted by frame
fresh_length : (s : State) (q : ℕ) → KeepsInvariant s → sum_to s.zone.frames (λ f. one_if (has_as FreshFrame q (s.phases f))) ≡ length (s.parts q).fresh
fresh_length s q sound =
    sum_same s.zone.frames (λ f. one_if (has_as FreshFrame q (s.phases f))) (λ f. times f (s.parts q).fresh) (λ f below. sym (sound.lists q FreshFrame f))
    ∙ count_length s.zone.frames (s.parts q).fresh (λ f beyond. sound.lists q FreshFrame f
    ∙ ap (λ x. one_if (has_as FreshFrame q x)) (free_is (s.phases f) ((sound.frames f).inside beyond)))

pub usage_seen : (s : State) (p : ℕ) → KeepsInvariant s → (g : ℕ) → usage_of (seen_by p s) g ≡ usage_of s g
usage_seen s p sound g =
    let groups = s.groups in
    let n = s.zone.frames in
    let m = s.zone.cpus + 1 in
    let stocks = groups_in s.parts in
    let shown : ℕ → ℕ = λ f. one_if (is_in_subtree groups g (keeper_of (phase_seen_by p (s.phases f)))) in
    let hidden : ℕ → ℕ → ℕ = λ f q. covered groups g p stocks q (s.phases f) in
    let lent : ℕ → ℕ = λ q. cond (q == p) 0 (cond (is_in_subtree groups g (s.parts q).stock.group) (length (s.parts q).fresh) 0) in
    let a : frames_kept groups s.phases n g ≡ sum_to n (λ f. shown f + sum_to m (hidden f)) =
    sum_same n _ _ (λ f below. phase_counts groups g p s.zone.cpus stocks (s.phases f) (sound.frames f).paid) in
    let b : sum_to n (λ f. shown f + sum_to m (hidden f)) ≡ sum_to n shown + sum_to n (λ f. sum_to m (hidden f)) =
    sum_both n shown (λ f. sum_to m (hidden f)) in
    let c : sum_to n (λ f. sum_to m (hidden f)) ≡ sum_to m (λ q. sum_to n (λ f. hidden f q)) = sum_swap n m hidden in
    let d : sum_to m (λ q. sum_to n (λ f. hidden f q)) ≡ sum_to m lent =
    sum_same m _ _ (λ q below. column (q == p) (is_in_subtree groups g (s.parts q).stock.group) q) in
    let e : pages_prepaid groups (parts_seen_by p s.parts) s.zone.cpus g ≡ sum_to m (λ q. stock_in_subtree groups g (s.parts q) + lent q) =
    sum_same m _ _ (λ q below. stock_counts groups g p s.parts q) in
    let f : sum_to m (λ q. stock_in_subtree groups g (s.parts q) + lent q) ≡ pages_prepaid groups s.parts s.zone.cpus g + sum_to m lent =
    sum_both m (λ q. stock_in_subtree groups g (s.parts q)) lent in
    omega arith
  where
    column : (a b : Bool) (q : ℕ) →
        sum_to s.zone.frames (λ f. cond a 0 (cond b (one_if (has_as FreshFrame q (s.phases f))) 0)) ≡ cond a 0 (cond b (length (s.parts q).fresh) 0)
    column true b q = sum_none s.zone.frames (λ f. 0) (λ f below. refl)
    column false true q = fresh_length s q sound
    column false false q = sum_none s.zone.frames (λ f. 0) (λ f below. refl)
