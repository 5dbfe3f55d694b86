-- Frames that are lent, or returned to the zone, one after the other. Serves the loops of `refill` and `drain_list`.
use Rattle.std.proofs.Common.{◌≡◌, ℕ, ◌+◌, ◌≤◌, List, [], ◌∷◌, ◌++◌, take, length, refl, sym, ap, ◌∙◌, subst, arith, length-append}
use Rattle.std.proofs.lemmas.List.{append_assoc, append-nil}
use Rattle.std.proofs.Math.Seq.{take-append_seam}
use Rattle.std.proofs.lemmas.Grind.{flat_map-append}
use Rattle.std.specs.List.{flat_map}
use Rattle.zone_blocks.specs.Areas.{HasNoneFrom}
use Rattle.boot_words.specs.Tables.{KnownTable}
use Rattle.cpu_part.specs.Cpus.{KnownCpuLists}
use Rattle.step_rules.specs.After.{Run}
use Rattle.mem_machine.specs.{KnownMachine, VisitStateStays, OneByOne, Visits, Makes, VisitState, visit_state, LendsOne, LendsNone, LendsByStep}
use Rattle.mem_machine.specs.{Refills, UnlistsOne, UnlistsNone, UnlistsMany, UnlistsByStep, lend_steps, unlist_steps, drain_list_steps}
use Rattle.mem_machine.proofs.Followed.{makes_none, makes_both}

-- a visit state that stays
visit_state_stays : (now : VisitState) → VisitStateStays now now
visit_state_stays now = record { machine = refl; cpu = refl }

-- the steps of frames, and then of one more
steps_more : (t : KnownTable) (steps : ℕ → Run) (frames : List ℕ) (f : ℕ) (a b c : KnownMachine) → Makes t a (flat_map steps frames) b
    → Makes t b (steps f) c → Makes t a (flat_map steps (frames ++ f ∷ [])) c
steps_more t steps frames f a b c before one =
    let list : flat_map steps frames ++ steps f ≡ flat_map steps (frames ++ f ∷ []) =
    sym (flat_map-append steps frames (f ∷ []) ∙ ap (λ (r : Run). flat_map steps frames ++ r) (append-nil (steps f))) in
    subst (λ (r : Run). Makes t a r c) list (makes_both t (flat_map steps frames) (steps f) a b c before one)

length_more : (frames : List ℕ) (f k : ℕ) → k ≡ length frames → k + 1 ≡ length (frames ++ f ∷ [])
length_more frames f k all = let a = length-append frames (f ∷ []) in omega (arith, a, all)

-- one after another, and then one more
one_more : (IsDone : ℕ → VisitState → VisitState → Type 0) (frames : List ℕ) (f : ℕ) (m : KnownMachine) (c : KnownCpuLists) (x : KnownMachine) (y : KnownCpuLists) (n : KnownMachine) (d : KnownCpuLists)
    → OneByOne IsDone frames (visit_state m c) (visit_state x y) → IsDone f (visit_state x y) (visit_state n d) → OneByOne IsDone (frames ++ f ∷ []) (visit_state m c) (visit_state n d)
one_more IsDone [] f m c x y n d before one =
    record {
      between = visit_state n d;
      first = subst (λ (z : KnownMachine × KnownCpuLists). IsDone f (visit_state z.0 z.1) (visit_state n d)) (λ i. (before.machine i, before.cpu i)) one;
      rest = visit_state_stays (visit_state n d);
    }
one_more IsDone (g ∷ frames) f m c x y n d before one = record {
  between = before.between;
  first = before.first;
  rest = one_more IsDone frames f before.between.machine before.between.cpu x y n d before.rest one;
}

-- what the loop of `refill` keeps after k frames
pub record LentSoFar (t : KnownTable) (k : ℕ) (m : KnownMachine) (c : KnownCpuLists) (n : KnownMachine) (d : KnownCpuLists) : Type 0 where
  pub refills : Refills t k (visit_state m c) (visit_state n d)
  pub visit : Visits t n d
  pub number : d.number ≡ c.number
  pub count : length d.list + length d.fresh ≡ length c.list + length c.fresh + k

pub lent_more : (t : KnownTable) (k : ℕ) (m : KnownMachine) (c : KnownCpuLists) (x : KnownMachine) (y : KnownCpuLists) (n : KnownMachine) (d : KnownCpuLists)
    → LentSoFar t k m c x y → LendsByStep t (visit_state x y) (visit_state n d) → Visits t n d → LentSoFar t (k + 1) m c n d
lent_more t k m c x y n d before one visit =
    let so_far = before.refills in
    let f = one.frame in
    let longer : length d.list ≡ length y.list + 1 = ap (λ (e : KnownCpuLists). length e.list) one.lends.lends.cpu ∙ length-append y.list (f ∷ []) in
    let fresh : length d.fresh ≡ length y.fresh = ap (λ (e : KnownCpuLists). length e.fresh) one.lends.lends.cpu in
    let count = before.count in
    record {
      refills = record {
        frames = so_far.frames ++ f ∷ [];
        all = length_more so_far.frames f k so_far.all;
        lends = one_more LendsOne so_far.frames f m c x y n d so_far.lends one.lends;
        steps = steps_more t (lend_steps c.number) so_far.frames f m x n so_far.steps
            (subst (λ (p : ℕ). Makes t x (lend_steps p f) n) before.number one.steps);
      };
      visit = visit;
      number = ap (λ (e : KnownCpuLists). e.number) one.lends.lends.cpu ∙ before.number;
      count = omega (arith, longer, fresh, count);
    }

pub lent_end : (t : KnownTable) (k : ℕ) (m : KnownMachine) (c : KnownCpuLists) (x : KnownMachine) (y : KnownCpuLists) (n : KnownMachine) (d : KnownCpuLists)
    → LentSoFar t k m c x y
    → LendsNone (visit_state x y) (visit_state n d) → LentSoFar t k m c n d × HasNoneFrom n.blocks 0
lent_end t k m c x y n d before none = (
  subst (λ (z : KnownMachine × KnownCpuLists). LentSoFar t k m c z.0 z.1) (λ i. (sym none.stays.machine i, sym none.stays.cpu i)) before,
  subst (λ (z : KnownMachine). HasNoneFrom z.blocks 0) (sym none.stays.machine) none.none,
)

-- ---- frames returned to the zone

-- what the loop of `drain_list` keeps after k frames
pub record TakenSoFar (t : KnownTable) (k : ℕ) (m : KnownMachine) (c : KnownCpuLists) (n : KnownMachine) (d : KnownCpuLists) : Type 0 where
  pub frames : List ℕ
  pub all : k ≡ length frames
  pub split : c.list ≡ frames ++ d.list
  pub takes : UnlistsMany frames (visit_state m c) (visit_state n d)
  pub visit : Visits t n d
  pub steps : Makes t m (drain_list_steps c.number frames) n
  pub number : d.number ≡ c.number

pub taken_start : (t : KnownTable) (m : KnownMachine) (c : KnownCpuLists) → Visits t m c → TakenSoFar t 0 m c m c
taken_start t m c visit =
    record { frames = []; all = refl; split = refl; takes = visit_state_stays (visit_state m c); visit = visit; steps = makes_none t m; number = refl }

pub taken_more : (t : KnownTable) (k : ℕ) (m : KnownMachine) (c : KnownCpuLists) (x : KnownMachine) (y : KnownCpuLists) (n : KnownMachine) (d : KnownCpuLists)
    → TakenSoFar t k m c x y → UnlistsByStep t (visit_state x y) (visit_state n d) → Visits t n d → TakenSoFar t (k + 1) m c n d
taken_more t k m c x y n d before one visit =
    let f = one.frame in
    let left : y.list ≡ f ∷ d.list = one.takes.front ∙ ap (λ (l : List ℕ). f ∷ l) (sym (ap (λ (e : KnownCpuLists). e.list) one.takes.cpu)) in
    record {
      frames = before.frames ++ f ∷ [];
      all = length_more before.frames f k before.all;
      split = before.split ∙ ap (λ (l : List ℕ). before.frames ++ l) left ∙ sym (append_assoc before.frames (f ∷ []) d.list);
      takes = one_more UnlistsOne before.frames f m c x y n d before.takes one.takes;
      visit = visit;
      steps = steps_more t (unlist_steps c.number) before.frames f m x n before.steps
          (subst (λ (p : ℕ). Makes t x (unlist_steps p f) n) before.number one.steps);
      number = ap (λ (e : KnownCpuLists). e.number) one.takes.cpu ∙ before.number;
    }

pub taken_end : (t : KnownTable) (k : ℕ) (m : KnownMachine) (c : KnownCpuLists) (x : KnownMachine) (y : KnownCpuLists) (n : KnownMachine) (d : KnownCpuLists)
    → TakenSoFar t k m c x y
    → UnlistsNone (visit_state x y) (visit_state n d) → TakenSoFar t k m c n d × (d.list ≡ [])
taken_end t k m c x y n d before none = (
  subst (λ (z : KnownMachine × KnownCpuLists). TakenSoFar t k m c z.0 z.1) (λ i. (sym none.stays.machine i, sym none.stays.cpu i)) before,
  ap (λ (e : KnownCpuLists). e.list) none.stays.cpu ∙ none.none,
)

-- what was taken after k frames, said of the front of the list
pub record TakesFront (t : KnownTable) (k : ℕ) (m : KnownMachine) (c : KnownCpuLists) (n : KnownMachine) (d : KnownCpuLists) : Type 0 where
  pub listed : k ≤ length c.list
  pub takes : UnlistsMany (take k c.list) (visit_state m c) (visit_state n d)
  pub steps : Makes t m (drain_list_steps c.number (take k c.list)) n

pub taken_front : (t : KnownTable) (k : ℕ) (m : KnownMachine) (c : KnownCpuLists) (n : KnownMachine) (d : KnownCpuLists) → TakenSoFar t k m c n d
    → TakesFront t k m c n d
taken_front t k m c n d so_far =
    let long : length c.list ≡ length so_far.frames + length d.list = ap length so_far.split ∙ length-append so_far.frames d.list in
    let all = so_far.all in
    let front : so_far.frames ≡ take k c.list =
    sym ((λ i. take (all i) (so_far.split i)) ∙ take-append_seam so_far.frames d.list) in
    record {
      listed = omega (arith, long, all);
      takes = subst (λ (l : List ℕ). UnlistsMany l (visit_state m c) (visit_state n d)) front so_far.takes;
      steps = subst (λ (l : List ℕ). Makes t m (drain_list_steps c.number l) n) front so_far.steps;
    }

-- the same if all that were asked for were returned
pub taken_whole : (t : KnownTable) (k count : ℕ) (m : KnownMachine) (c : KnownCpuLists) (n : KnownMachine) (d : KnownCpuLists) → TakenSoFar t k m c n d
    → k ≤ count → count ≤ k → TakesFront t count m c n d
taken_whole t k count m c n d so_far at_most at_least =
    let same : k ≡ count = omega (arith, at_most, at_least) in
    subst (λ (j : ℕ). TakesFront t j m c n d) same (taken_front t k m c n d so_far)
