-- The sizes of classes: one frame moves, and what the sizes say of all frames.
use Rattle.std.proofs.Common.{◌≡◌, ℕ, ◌+◌, ◌-◌, ◌*◌, ◌<◌, ◌≤◌, ◌==◌, ◌&&◌, Bool, true, false, Option, Some, None, List, length, get_or, set, replicate}
use Rattle.std.proofs.Common.{refl, sym, ◌∙◌, ap, subst, arith, inl, inr, zero, suc, eq-eqb, cond}
use Rattle.std.specs.Prelude.{not, nat_lt}
use Rattle.std.proofs.lemmas.Bool.{cases_eq, cases_lt, cond-false, cond-true, ne_eqb}
use Rattle.std.proofs.lemmas.List.{length-set, length-replicate}
use Rattle.group_tree.specs.Bounds.{most_groups}
use Rattle.group_tree.specs.declared.group.Group.{Group}
use Rattle.group_tree.specs.Groups.{in_subtree}
use Rattle.group_tree.specs.{is_in_subtree}
use Rattle.step_rules.specs.declared.phase.Way.TheVariants.{PassingOut, PassingBack}
use Rattle.step_rules.specs.declared.phase.Stage.{Stage}
use Rattle.step_rules.specs.declared.phase.Stage.TheVariants.{FreshPassing, BackPassing}
use Rattle.step_rules.specs.declared.phase.Phase.{Phase}
use Rattle.step_rules.specs.declared.phase.Phase.TheVariants.{InZone, Lent, Head}
use Rattle.step_rules.specs.Phases.{is_passing, is_stage_passing, keeper_of, passes_out, passes_back, stage_passes_back}
use Rattle.step_rules.specs.State.{all_to, one_if, sum_to, with_at}
use Rattle.step_rules.specs.Usage.{frames_kept}
use Rattle.step_rules.proofs.Basics.{at_same, at_other, at_each, at_through}
use Rattle.step_rules.proofs.Sums.{sum_same, sum_none, sum_part, sum_change, sum_swap, sum_only}
use Rattle.mem_core.specs.Counted.{IsTally, class_in, class_of, class_size, keeper_class, moved_sizes, stage_transit_cpu, transit_class}
use Rattle.mem_core.proofs.Bounding.{sum_most, one_most}
use Rattle.mem_core.proofs.Changing.{looked_set}
use Rattle.mem_core.proofs.Starting.{replicate_all}

pub class_few : (n : ℕ) (class : ℕ → ℕ) (k : ℕ) → class_size n class k ≤ n
class_few n class k = sum_most n (λ f. one_if (class f == k)) (λ f. one_most (class f == k))

pub sizes_few : (n : ℕ) (class : ℕ → ℕ) (sizes : List ℕ) (k : ℕ) → IsTally n class sizes → get_or sizes k 0 ≤ n
sizes_few n class sizes k tally = let e = tally.each k in let few = class_few n class k in omega arith

pub sizes_some : (n : ℕ) (class : ℕ → ℕ) (sizes : List ℕ) (f : ℕ) → IsTally n class sizes → f < n → 1 ≤ get_or sizes (class f) 0
sizes_some n class sizes f tally below =
    let e = tally.each (class f) in
    let part = sum_part n (λ i. one_if (class i == class f)) f below in
    let one : one_if (class f == class f) ≡ 1 = ap one_if (eq-eqb (class f) (class f) refl) in
    omega arith

one_same : (a b : ℕ) → a ≡ b → one_if (a == b) ≡ 1
one_same a b e = ap one_if (eq-eqb a b e)

one_other : (a b : ℕ) → (a ≡ b → ⊥) → one_if (a == b) ≡ 0
one_other a b ne = ap one_if (ne_eqb a b ne)

-- one less at a, then one more at b
at_both : (h : ℕ → ℕ) (a b k : ℕ) → 1 ≤ h a →
    with_at (with_at h a (h a - 1)) b (with_at h a (h a - 1) b + 1) k + one_if (a == k) ≡ h k + one_if (b == k)
at_both h a b k some =
    elim (cases_eq k b) [
      | inl e ↦
          let new : with_at g b (g b + 1) k ≡ g b + 1 = ap (with_at g b (g b + 1)) e ∙ at_same g b (g b + 1) in
          let here : h k ≡ h b = ap h e in
          let one = one_same b k (sym e) in
          elim (cases_eq b a) [
            | inl same ↦
                let less : g b ≡ h a - 1 = ap g same ∙ at_same h a (h a - 1) in
                let was : h b ≡ h a = ap h same in
                let two = one_same a k (sym (e ∙ same)) in
                omega arith
            | inr ne ↦
                let kept : g b ≡ h b = at_other h a (h a - 1) b ne in
                let none = one_other a k (λ z. ne (sym e ∙ sym z)) in
                omega arith
          ]
      | inr ne ↦
          let new : with_at g b (g b + 1) k ≡ g k = at_other g b (g b + 1) k ne in
          let none = one_other b k (λ z. ne (sym z)) in
          elim (cases_eq k a) [
            | inl same ↦
                let less : g k ≡ h a - 1 = ap g same ∙ at_same h a (h a - 1) in
                let was : h k ≡ h a = ap h same in
                let one = one_same a k (sym same) in
                omega arith
            | inr other ↦
                let kept : g k ≡ h k = at_other h a (h a - 1) k other in
                let nought = one_other a k (λ z. other (sym z)) in
                omega arith
          ]
    ]
  where
    g : ℕ → ℕ
    g = with_at h a (h a - 1)

pub tally_moves : (n : ℕ) (class : ℕ → ℕ) (sizes : List ℕ) (f to : ℕ) → IsTally n class sizes → f < n → to < length sizes
    → IsTally n (with_at class f to) (moved_sizes sizes (class f) to)
tally_moves n class sizes f to tally here there = record { below = below; each = each }
  where
    h : ℕ → ℕ
    h = λ m. get_or sizes m 0

    less : List ℕ
    less = set sizes (class f) (h (class f) - 1)

    len : length (moved_sizes sizes (class f) to) ≡ length sizes
    len = length-set less to (get_or less to 0 + 1) ∙ length-set sizes (class f) (h (class f) - 1)

    below : (m : ℕ) → m < n → with_at class f to m < length (moved_sizes sizes (class f) to)
    below = at_each class f to (λ m k. m < n → k < length (moved_sizes sizes (class f) to))
        (λ b. omega (arith, len, there)) (λ m ne b. let old = tally.below m b in omega (arith, len, old))

    each : (k : ℕ) → get_or (moved_sizes sizes (class f) to) k 0 ≡ class_size n (with_at class f to) k
    each k =
        let in_less : to < length less = omega (arith, length-set sizes (class f) (h (class f) - 1), there) in
        let first = looked_set sizes 0 (class f) (h (class f) - 1) (tally.below f here) in
        let second = looked_set less 0 to (get_or less to 0 + 1) in_less in
        let new : get_or (moved_sizes sizes (class f) to) k 0 ≡ with_at (with_at h (class f) (h (class f) - 1)) to
        (with_at h (class f) (h (class f) - 1) to + 1) k = (λ i. second i k) ∙ (λ i. with_at (first i) to (first i to + 1) k) in
        let both = at_both h (class f) to k (sizes_some n class sizes f tally here) in
        let through : class_size n (with_at class f to) k ≡ sum_to n (with_at (λ i. one_if (class i == k)) f (one_if (to == k))) =
        ap (sum_to n) (at_through (λ c. one_if (c == k)) class f to) in
        let change = sum_change n (λ i. one_if (class i == k)) f (one_if (to == k)) here in
        let old = tally.each k in
        omega arith

-- all frames are of the first class
sum_all : (n x : ℕ) → sum_to n (λ f. x) ≡ n * x
unfolding sum_to
sum_all zero x = omega arith
sum_all (suc n) x = let a = sum_all n x in omega arith

pub tally_begins : (n classes : ℕ) → 1 ≤ classes → IsTally n (λ f. 0) (set (replicate classes 0) 0 n)
tally_begins n classes some = record { below = λ f b. omega (arith, len, some); each = each }
  where
    zeros : List ℕ
    zeros = replicate classes 0

    len : length (set zeros 0 n) ≡ classes
    len = length-set zeros 0 n ∙ length-replicate {A = ℕ} classes 0

    each : (k : ℕ) → get_or (set zeros 0 n) k 0 ≡ class_size n (λ f. 0) k
    each k =
        let there : 0 < length zeros = let e = length-replicate {A = ℕ} classes 0 in omega (arith, e, some) in
        (λ i. looked_set zeros 0 0 n there i k)
        ∙ at_each (λ m. get_or zeros m 0) 0 n (λ m x. x ≡ class_size n (λ f. 0) m)
        (let all = sum_all n 1 in omega arith)
        (λ m ne. replicate_all classes 0 m ∙ sym (sum_none n (λ f. one_if (0 == m)) (λ f b. one_other 0 m (λ z. ne (sym z))))) k

-- a class is empty exactly if no frame is of it
and_true : (b : Bool) → (b && true) ≡ b
and_true true = refl
and_true false = refl

and_false : (b : Bool) → (b && false) ≡ false
and_false true = refl
and_false false = refl

none_one : (a : ℕ) (b : Bool) → (a + one_if b == 0) ≡ ((a == 0) && not b)
none_one a true = ne_eqb (a + 1) 0 (λ z. absurd (omega arith)) ∙ sym (and_false (a == 0))
none_one a false = ap (λ k. k == 0) (let e : a + 0 ≡ a = omega arith in e) ∙ sym (and_true (a == 0))

pub none_of : (n : ℕ) (class : ℕ → ℕ) (k : ℕ) → (class_size n class k == 0) ≡ all_to n (λ f. not (class f == k))
unfolding sum_to all_to
none_of zero class k = refl
none_of (suc n) class k = none_one (class_size n class k) (class n == k) ∙ ap (λ b. b && not (class n == k)) (none_of n class k)

-- a class has all frames exactly if each is of it
all_one : (a n : ℕ) (b : Bool) → a ≤ n → (a + one_if b == suc n) ≡ ((a == n) && b)
all_one a n true few =
    elim (cases_eq a n) [
      | inl e ↦ eq-eqb (a + 1) (suc n) (omega arith) ∙ sym (ap (λ b. b && true) (eq-eqb a n e))
      | inr ne ↦ ne_eqb (a + 1) (suc n) (λ z. ne (omega arith)) ∙ sym (ap (λ b. b && true) (ne_eqb a n ne))
    ]
all_one a n false few =
    ne_eqb (a + 0) (suc n) (λ z. absurd (omega arith)) ∙ sym (and_false (a == n))

pub all_of : (n : ℕ) (class : ℕ → ℕ) (k : ℕ) → (class_size n class k == n) ≡ all_to n (λ f. class f == k)
unfolding sum_to all_to
all_of zero class k = refl
all_of (suc n) class k =
    all_one (class_size n class k) n (class n == k) (class_few n class k) ∙ ap (λ b. b && (class n == k)) (all_of n class k)

-- what the classes say of a phase
lt_false : (a b : ℕ) → b ≤ a → nat_lt a b ≡ false
lt_false a b h = grind arith

lt_true : (a b : ℕ) → a < b → nat_lt a b ≡ true
lt_true a b h = grind arith

class_some : (last n : ℕ) → n ≤ last → class_of last (Some n) ≡ n + 1
class_some last n below = cond-false (nat_lt last n) (last + 2) (n + 1) (lt_false last n below)

class_past : (last n : ℕ) → last < n → class_of last (Some n) ≡ last + 2
class_past last n past = cond-true (nat_lt last n) (last + 2) (n + 1) (lt_true last n past)

class_is : (last n k : ℕ) → k ≤ last → (class_of last (Some n) == k + 1) ≡ (n == k)
class_is last n k below =
    elim (cases_lt last n) [
      | inl past ↦ let e = class_past last n past in
          ne_eqb (class_of last (Some n)) (k + 1) (λ z. absurd (omega arith)) ∙ sym (ne_eqb n k (λ z. absurd (omega arith)))
      | inr le ↦ let e = class_some last n le in elim (cases_eq n k) [
        | inl same ↦ eq-eqb (class_of last (Some n)) (k + 1) (omega arith) ∙ sym (eq-eqb n k same)
        | inr ne ↦ ne_eqb (class_of last (Some n)) (k + 1) (λ z. ne (omega arith)) ∙ sym (ne_eqb n k ne)
      ]
    ]

class_none : (last n : ℕ) → false ≡ (class_of last (Some n) == 0)
class_none last n =
    elim (cases_lt last n) [
      | inl past ↦ let e = class_past last n past in sym (ne_eqb (class_of last (Some n)) 0 (λ z. absurd (omega arith)))
      | inr le ↦ let e = class_some last n le in sym (ne_eqb (class_of last (Some n)) 0 (λ z. absurd (omega arith)))
    ]

rest_stage : (stage : Stage) → not (is_stage_passing stage) ≡ (class_of 64 (stage_transit_cpu stage) == 0)
rest_stage (FreshPassing cpu) = class_none 64 cpu
rest_stage (BackPassing cpu) = class_none 64 cpu
rest_stage stage = refl

-- a frame that is not in transit is of the first class
pub rest_class : (x : Phase) → not (is_passing x) ≡ (transit_class x == 0)
rest_class (Lent cpu PassingOut) = class_none 64 cpu
rest_class (Lent cpu PassingBack) = class_none 64 cpu
rest_class (Head unit stage) = rest_stage stage
rest_class x = refl

no_class : (cpu : ℕ) → true ≡ not (0 == cpu + 1)
no_class cpu = sym (ap not (ne_eqb 0 (cpu + 1) (λ z. absurd (omega arith))))

rests_stage : (cpu : ℕ) (stage : Stage) → cpu ≤ 64 → not (stage_passes_back cpu stage) ≡ not (class_of 64 (stage_transit_cpu stage) == cpu + 1)
rests_stage cpu (FreshPassing other) below = ap not (sym (class_is 64 other cpu below))
rests_stage cpu (BackPassing other) below = ap not (sym (class_is 64 other cpu below))
rests_stage cpu stage below = no_class cpu

-- a frame is in transit to or from the CPU exactly if it is of the CPU's class
pub rests_class : (cpu : ℕ) (x : Phase) → cpu ≤ 64 → (not (passes_out cpu x) && not (passes_back cpu x)) ≡ not (transit_class x == cpu + 1)
rests_class cpu (Lent other PassingOut) below = and_true (not (other == cpu)) ∙ ap not (sym (class_is 64 other cpu below))
rests_class cpu (Lent other PassingBack) below = ap not (sym (class_is 64 other cpu below))
rests_class cpu (Head unit stage) below = rests_stage cpu stage below
rests_class cpu x below = no_class cpu

-- the sizes follow the change of one phase
pub tally_set : (class : Phase → ℕ) (xs : List Phase) (sizes : List ℕ) (f : ℕ) (x : Phase)
    → IsTally (length xs) (class_in class xs) sizes → f < length xs → class x < length sizes
    → IsTally (length (set xs f x)) (class_in class (set xs f x)) (moved_sizes sizes (class_in class xs f) (class x))
tally_set class xs sizes f x tally here there =
    let after : List ℕ = moved_sizes sizes (class_in class xs f) (class x) in
    let through : class_in class (set xs f x) ≡ with_at (class_in class xs) f (class x) =
    (λ i. λ m. class (looked_set xs InZone f x here i m)) ∙ at_through class (λ m. get_or xs m InZone) f x in
    subst (λ (n : ℕ). IsTally n (class_in class (set xs f x)) after) (sym (length-set xs f x))
    (subst (λ (k : ℕ → ℕ). IsTally (length xs) k after) (sym through)
    (tally_moves (length xs) (class_in class xs) sizes f (class x) tally here there))

pub tally_new : (class : Phase → ℕ) (n classes : ℕ) → class InZone ≡ 0 → 1 ≤ classes
    → IsTally (length (replicate n InZone)) (class_in class (replicate n InZone)) (set (replicate classes 0) 0 n)
tally_new class n classes zero_is some =
    let sizes : List ℕ = set (replicate classes 0) 0 n in
    let first : class_in class (replicate n InZone) ≡ (λ f. 0) = λ i. λ f. (ap class (replicate_all n InZone f) ∙ zero_is) i in
    subst (λ (m : ℕ). IsTally m (class_in class (replicate n InZone)) sizes) (sym (length-replicate n InZone))
    (subst (λ (k : ℕ → ℕ). IsTally n k sizes) (sym first) (tally_begins n classes some))

-- the frames that a subtree keeps, summed by group
cond_sum : (b : Bool) (n : ℕ) (h : ℕ → ℕ) → cond b (sum_to n h) 0 ≡ sum_to n (λ f. cond b (h f) 0)
cond_sum true n h = refl
cond_sum false n h = sym (sum_none n (λ f. 0) (λ f b. refl))

cond_zero : (b : Bool) (x : ℕ) → x ≡ 0 → cond b x 0 ≡ 0
cond_zero true x e = e
cond_zero false x e = refl

cond_one : (b : Bool) (x : ℕ) → x ≡ 1 → cond b x 0 ≡ one_if b
cond_one true x e = e
cond_one false x e = refl

keeper_sum : (groups : List Group) (g : ℕ) (o : Option ℕ) → class_of (most_groups - 1) o < most_groups + 1
    → sum_to most_groups (λ h. cond (in_subtree groups g h) (one_if (class_of (most_groups - 1) o == h + 1)) 0) ≡ one_if (is_in_subtree groups g o)
keeper_sum groups g None below =
    sum_none most_groups (λ h. cond (in_subtree groups g h) (one_if (0 == h + 1)) 0)
    (λ h b. cond_zero (in_subtree groups g h) (one_if (0 == h + 1)) (one_other 0 (h + 1) (λ z. absurd (omega arith))))
keeper_sum groups g (Some p) below =
    elim (cases_lt (most_groups - 1) p) [
      | inl past ↦ absurd (let e = class_past (most_groups - 1) p past in omega arith)
      | inr le ↦
          let is = class_some (most_groups - 1) p le in
          sum_only most_groups (λ h. cond (in_subtree groups g h) (one_if (class_of (most_groups - 1) (Some p) == h + 1)) 0) p (omega arith)
          (λ h b ne. cond_zero (in_subtree groups g h) (one_if (class_of (most_groups - 1) (Some p) == h + 1))
          (one_other (class_of (most_groups - 1) (Some p)) (h + 1) (λ z. ne (omega arith))))
          ∙ cond_one (in_subtree groups g p) (one_if (class_of (most_groups - 1) (Some p) == p + 1)) (one_same (class_of (most_groups - 1) (Some p)) (p + 1) is)
    ]

pub kept_by_class : (groups : List Group) (phases : ℕ → Phase) (n g : ℕ) (sizes : List ℕ) → IsTally n (λ f. keeper_class (phases f)) sizes → length sizes ≡ most_groups + 1
    → sum_to most_groups (λ h. cond (in_subtree groups g h) (get_or sizes (h + 1) 0) 0) ≡ frames_kept groups phases n g
kept_by_class groups phases n g sizes tally size =
    sum_same most_groups (λ h. cond (in_subtree groups g h) (get_or sizes (h + 1) 0) 0) (λ h. sum_to n (each h))
    (λ h b. ap (λ x. cond (in_subtree groups g h) x 0) (tally.each (h + 1))
    ∙ cond_sum (in_subtree groups g h) n (λ f. one_if (keeper_class (phases f) == h + 1)))
    ∙ sum_swap most_groups n each
    ∙ sum_same n (λ f. sum_to most_groups (λ h. each h f)) (λ f. one_if (is_in_subtree groups g (keeper_of (phases f))))
    (λ f b. keeper_sum groups g (keeper_of (phases f)) (let low = tally.below f b in omega (arith, low, size)))
  where
    each : ℕ → ℕ → ℕ
    each h f = cond (in_subtree groups g h) (one_if (keeper_class (phases f) == h + 1)) 0
