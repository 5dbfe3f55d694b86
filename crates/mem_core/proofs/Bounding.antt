-- What bounds the numbers, and that every allowed step keeps it.
use Rattle.std.proofs.Common.{◌≡◌, ℕ, ◌+◌, ◌-◌, ◌^◌, ◌<◌, ◌≤◌, ◌==◌, Bool, true, false, Option, Some, None, length, refl, sym, ◌∙◌, ap, subst}
use Rattle.std.proofs.Common.{arith, inl, inr, cond, zero, suc}
use Rattle.std.specs.Prelude.{nat_le}
use Rattle.std.proofs.lemmas.Bool.{cases_eq, cases_lt, and_parts, leb-true, eqb-true, false≢true}
use Rattle.group_tree.specs.Bounds.{most_groups}
use Rattle.step_rules.specs.declared.phase.Hold.{Hold}
use Rattle.step_rules.specs.declared.phase.Hold.TheVariants.{Unheld, HeldBy, Visiting}
use Rattle.step_rules.specs.declared.phase.Phase.{Phase}
use Rattle.step_rules.specs.declared.step.Action.{Action}
use Rattle.step_rules.specs.declared.step.Action.TheVariants.{Lock, Unlock, OpenVisit, ShutVisit, Get, Put, Freeze, Unfreeze, TakeIn, PassBack}
use Rattle.step_rules.specs.declared.step.Action.TheVariants.{Consume, Credit, Report, Absorb, Fill, DrainStock, Grant, Ungrant, PlaceBlock}
use Rattle.step_rules.specs.declared.step.Answer.{Answer}
use Rattle.step_rules.specs.declared.step.Answer.TheVariants.{Illegal, Done, Held, Left, Last, Took, Stocked, Pages, Granted, Placed}
use Rattle.step_rules.specs.Phases.{Kind, ListFrame, has_as, is_live_phase, is_head_in_hand}
use Rattle.step_rules.specs.State.{Zone, State, Part, with_at, sum_to, one_if, is_cpu, is_held_by, visits, front_of, frames_of, live_references, times}
use Rattle.step_rules.specs.Legal.{is_legal, IsAnswer, IsCounted, get_answer}
use Rattle.step_rules.specs.After.{after, with_back, filled, drained, with_more}
use Rattle.step_rules.specs.Invariant.{KeepsInvariant}
use Rattle.step_rules.proofs.Basics.{at_other, at_each, at_through}
use Rattle.step_rules.proofs.Sums.{sum_same, sum_part, sum_change}
use Rattle.step_rules.proofs.Lists.{count_length, front_stands, one_if_true}
use Rattle.step_rules.proofs.PhaseLemmas.{free_is, in_hand, WasCollected, WasBare, WasEnded}
use Rattle.step_rules.proofs.Few.{HaveFewPins, pins_made}
use Rattle.step_rules.proofs.LocalLaws.{no_illegal}
use Rattle.step_rules.proofs.Placed.{zone_kept}
use Rattle.mem_core.specs.{IsBounded, pages_out, HolderIsThere, IsBelowBounds, pages_asked}

hand_not_live : (x : Phase) → is_head_in_hand x ≡ true → is_live_phase x ≡ false
hand_not_live x e = elim (in_hand x e) [
  | WasCollected u is ↦ ap is_live_phase is
  | WasBare u is ↦ ap is_live_phase is
  | WasEnded u is ↦ ap is_live_phase is
]

-- but for the pins
record AreSmall (n : ℕ) (s : State) : Type 0 where
  pub references : (seat f : ℕ) → s.references seat f ≤ 255
  pub pages : pages_out s ≤ n
  pub holder : HolderIsThere s.zone.cpus s.hold

pub sum_most : (n : ℕ) (h : ℕ → ℕ) → ((i : ℕ) → h i ≤ 1) → sum_to n h ≤ n
unfolding sum_to
sum_most zero h each = omega arith
sum_most (suc n) h each = let a = sum_most n h each in let b = each n in omega arith

-- a kind's list has room for a frame that isn't of that kind
sum_room : (n : ℕ) (h : ℕ → ℕ) (f : ℕ) → ((i : ℕ) → h i ≤ 1) → f < n → h f ≡ 0 → sum_to n h < n
unfolding sum_to
sum_room zero h f each below none = absurd (omega arith)
sum_room (suc n) h f each below none =
    let last = each n in
    elim (cases_eq f n) [
      | inl e ↦ let all = sum_most n h each in let z : h n ≡ 0 = ap h (sym e) ∙ none in omega arith
      | inr ne ↦ let rest = sum_room n h f each (omega arith) none in omega arith
    ]

pub one_most : (b : Bool) → one_if b ≤ 1
one_most true = omega arith
one_most false = omega arith

pub list_sum : (s : State) (p : ℕ) (kind : Kind) → KeepsInvariant s
    → sum_to s.zone.frames (λ f. one_if (has_as kind p (s.phases f))) ≡ length (frames_of (s.parts p) kind)
list_sum s p kind sound =
    sum_same s.zone.frames (λ f. one_if (has_as kind p (s.phases f))) (λ f. times f (frames_of (s.parts p) kind)) (λ f below. sym (sound.lists p kind f))
    ∙ count_length s.zone.frames (frames_of (s.parts p) kind) (λ f beyond. sound.lists p kind f
    ∙ ap (λ x. one_if (has_as kind p x)) (free_is (s.phases f) ((sound.frames f).inside beyond)))

pub room_there : (s : State) (p : ℕ) (kind : Kind) (f : ℕ) → KeepsInvariant s → f < s.zone.frames
    → has_as kind p (s.phases f) ≡ false → length (frames_of (s.parts p) kind) < s.zone.frames
room_there s p kind f sound below other =
    let e = list_sum s p kind sound in
    let a = sum_room s.zone.frames (λ f. one_if (has_as kind p (s.phases f))) f (λ i. one_most (has_as kind p (s.phases i))) below (ap one_if other) in
    omega arith

pub referred_live : (s : State) (seat f : ℕ) → KeepsInvariant s → 1 ≤ s.references seat f → is_live_phase (s.phases f) ≡ true
referred_live s seat f sound some = dec (is_live_phase (s.phases f)) refl
  where
    dec : (b : Bool) → is_live_phase (s.phases f) ≡ b → b ≡ true
    dec true e = refl
    dec false e = absurd (let none : s.references seat f ≡ 0 = (sound.frames f).unreferred e seat in omega arith)

pub front_listed : (s : State) (p : ℕ) → KeepsInvariant s → 1 ≤ length (s.parts p).list → has_as ListFrame p (s.phases (front_of (s.parts p).list)) ≡ true
front_listed s p sound some =
    let f = front_of (s.parts p).list in
    let stands = front_stands (s.parts p).list some in
    let e : times f (s.parts p).list ≡ one_if (has_as ListFrame p (s.phases f)) = sound.lists p ListFrame f in
    one_if_true (has_as ListFrame p (s.phases f)) (omega arith)

pub front_there : (s : State) (p : ℕ) → KeepsInvariant s → 1 ≤ length (s.parts p).list → front_of (s.parts p).list < s.zone.frames
front_there s p sound some =
    let f = front_of (s.parts p).list in
    let listed = front_listed s p sound some in
    elim (cases_lt f s.zone.frames) [
      | inl below ↦ below
      | inr beyond ↦ absurd (false≢true (sym (ap (has_as ListFrame p) (free_is (s.phases f) ((sound.frames f).inside beyond))) ∙ listed))
    ]

visitor_there : (cpus p : ℕ) (hold : Hold) → HolderIsThere cpus hold → visits p hold ≡ true → p ≤ cpus
visitor_there cpus p (Visiting q) there e = let same = eqb-true q p e in omega arith
visitor_there cpus p Unheld there e = absurd (false≢true e)
visitor_there cpus p (HeldBy q) there e = absurd (false≢true e)

holder_there : (cpus p : ℕ) (hold : Hold) → HolderIsThere cpus hold → is_held_by p hold ≡ true → p ≤ cpus
holder_there cpus p (HeldBy q) there e = let same = eqb-true q p e in omega arith
holder_there cpus p Unheld there e = absurd (false≢true e)
holder_there cpus p (Visiting q) there e = absurd (false≢true e)

-- rows of the zone's size whose state is sound and bounded are ready for a step
pub few_from : (n : ℕ) (s : State) → n ≤ 2 ^ 96 → ((p : ℕ) → s.zone.cpus < p → (s.parts p).book ≡ 0)
    → ((g : ℕ) → most_groups ≤ g → s.pending g ≡ 0) → KeepsInvariant s → IsBounded n s → IsBelowBounds s
few_from n s small beyond absent sound bounded = record {
  references = bounded.references;
  booked = sound.booked;
  books = λ p. elim (cases_lt p (s.zone.cpus + 1)) [
    | inl below ↦ let a = sum_part (s.zone.cpus + 1) (λ q. (s.parts q).book) p below in let b = bounded.pages in omega arith
    | inr past ↦ let none = beyond p (omega arith) in omega arith
  ];
  pending = λ g. elim (cases_lt g most_groups) [
    | inl below ↦ let a = sum_part most_groups s.pending g below in let b = bounded.pages in omega arith
    | inr past ↦ let none = absent g past in omega arith
  ];
  room = λ p kind f below other. room_there s p kind f sound below other;
  live = λ seat f some. referred_live s seat f sound some;
  front = λ p some. front_there s p sound some;
  pins = bounded.pins;
  visitor = λ p e. visitor_there s.zone.cpus p s.hold bounded.holder e;
}

-- ---- one more step
refs_with : (h : ℕ → ℕ → ℕ) (k f m : ℕ) → ((seat g : ℕ) → h seat g ≤ 255) → m ≤ 255 → (seat g : ℕ) → with_at h k (with_at (h k) f m) seat g ≤ 255
refs_with h k f m each few seat g =
    at_each h k (with_at (h k) f m) (λ n row. (x : ℕ) → row x
    ≤ 255) (λ x. at_each (h k) f m (λ y v. v ≤ 255) few (λ y ne. each k y) x) (λ n ne x. each n x) seat g

sum_more : (n : ℕ) (h : ℕ → ℕ) (k x y : ℕ) → x ≤ h k + y → sum_to n (with_at h k x) ≤ sum_to n h + y
sum_more n h k x y le =
    elim (cases_lt k n) [
      | inl below ↦ let a = sum_change n h k x below in omega arith
      | inr past ↦ let a = sum_same n (with_at h k x) h (λ i b. at_other h k x i (λ e. absurd (omega arith))) in omega arith
    ]

books_are : (n : ℕ) (parts : ℕ → Part) (k : ℕ) (part : Part)
    → sum_to n (λ p. (with_at parts k part p).book) ≡ sum_to n (with_at (λ p. (parts p).book) k part.book)
books_are n parts k part = ap (sum_to n) (at_through (λ (x : Part). x.book) parts k part)

books_more : (n : ℕ) (parts : ℕ → Part) (k : ℕ) (part : Part) (y : ℕ) → part.book ≤ (parts k).book + y
    → sum_to n (λ p. (with_at parts k part p).book) ≤ sum_to n (λ p. (parts p).book) + y
books_more n parts k part y le = let a = sum_more n (λ p. (parts p).book) k part.book y le in let e = books_are n parts k part in omega arith

-- a part changes and its book stays
part_kept : (n : ℕ) (s : State) (k : ℕ) (part : Part) → part.book ≡ (s.parts k).book → pages_out s ≤ n
    → sum_to most_groups s.pending + sum_to (s.zone.cpus + 1) (λ p. (with_at s.parts k part p).book) ≤ n + 2 ^ 32
part_kept n s k part same few = let a = books_more (s.zone.cpus + 1) s.parts k part 0 (omega arith) in omega arith

wide : (n m : ℕ) → m ≤ n → m ≤ n + 2 ^ 32
wide n m h = omega arith

held_few : (live : ℕ) → Held ≡ get_answer live → live ≤ 254
held_few live e = grind arith

cpu_high : (zone : Zone) (p : ℕ) → is_cpu zone p ≡ true → p ≤ zone.cpus
cpu_high zone p e = leb-true p zone.cpus (and_parts (nat_le 1 p) (nat_le p zone.cpus) e).1

small_step : (n : ℕ) (s : State) (seat : ℕ) (action : Action) (answer : Answer) → KeepsInvariant s → AreSmall n s → is_legal s seat action ≡ true →
    IsAnswer s seat action answer → IsCounted s action answer → pages_asked action < 2 ^ 32 → AreSmall (n + 2 ^ 32) (after s seat action answer)
small_step n s seat action Illegal sound b legal ok counted small = absurd (no_illegal s seat action ok)
small_step n s seat Lock Done sound b legal ok counted small =
    let cpu : is_cpu s.zone seat ≡ true = grind (arith, legal) in
    record { references = b.references; pages = wide n (pages_out s) b.pages; holder = cpu_high s.zone seat cpu }
small_step n s seat Unlock Done sound b legal ok counted small = record { references = b.references; pages = wide n (pages_out s) b.pages; holder = tt }
small_step n s seat (OpenVisit p) Done sound b legal ok counted small =
    let held : is_held_by p s.hold ≡ true = grind (arith, legal) in
    record { references = b.references; pages = wide n (pages_out s) b.pages; holder = holder_there s.zone.cpus p s.hold b.holder held }
small_step n s seat (ShutVisit p) Done sound b legal ok counted small =
    let visit : visits p s.hold ≡ true = grind (arith, legal) in
    record { references = b.references; pages = wide n (pages_out s) b.pages; holder = visitor_there s.zone.cpus p s.hold b.holder visit }
small_step n s seat (Get f) Held sound b legal ok counted small =
    let cpu : is_cpu s.zone seat ≡ true = grind (arith, legal) in
    let high = cpu_high s.zone seat cpu in
    let part = sum_part (s.zone.cpus + 1) (λ k. s.references k f) seat (omega arith) in
    let few = held_few (live_references s f) counted in
    let refs = refs_with s.references seat f (s.references seat f + 1) b.references (omega arith) in
    record { references = refs; pages = wide n (pages_out s) b.pages; holder = b.holder }
small_step n s seat (Put f) (Left m) sound b legal ok counted small =
    let was = b.references seat f in
    let refs = refs_with s.references seat f (s.references seat f - 1) b.references (omega arith) in
    record { references = refs; pages = wide n (pages_out s) b.pages; holder = b.holder }
small_step n s seat (Put f) Last sound b legal ok counted small =
    let was = b.references seat f in
    record {
      references = refs_with s.references seat f (s.references seat f - 1) b.references (omega arith);
      pages = last (seat == 0);
      holder = b.holder;
    }
  where
    last : (z : Bool) → sum_to most_groups s.pending + sum_to (s.zone.cpus + 1)
        (λ p. ((cond z s.parts (with_at s.parts seat (with_back (s.parts seat) f))) p).book) ≤ n + 2 ^ 32
    last true = wide n (pages_out s) b.pages
    last false = part_kept n s seat (with_back (s.parts seat) f) refl b.pages
small_step n s seat (Freeze f m) Done sound b legal ok counted small =
    let was = b.references 0 f in
    let refs = refs_with s.references 0 f (s.references 0 f - m) b.references (omega arith) in
    record { references = refs; pages = wide n (pages_out s) b.pages; holder = b.holder }
small_step n s seat (Unfreeze f m) Done sound b legal ok counted small =
    let hand : is_head_in_hand (s.phases f) ≡ true = grind (arith, legal) in
    let top : nat_le m 255 ≡ true = grind (arith, legal) in
    let most = leb-true m 255 top in
    let none : s.references 0 f ≡ 0 = (sound.frames f).unreferred (hand_not_live (s.phases f) hand) 0 in
    let refs = refs_with s.references 0 f (s.references 0 f + m) b.references (omega arith) in
    record { references = refs; pages = wide n (pages_out s) b.pages; holder = b.holder }
small_step n s seat (TakeIn f) Done sound b legal ok counted small =
    record { references = b.references; pages = part_kept n s seat _ refl b.pages; holder = b.holder }
small_step n s seat (PassBack f) Done sound b legal ok counted small =
    record { references = b.references; pages = part_kept n s seat _ refl b.pages; holder = b.holder }
small_step n s seat (Consume g) Took sound b legal ok counted small =
    record { references = b.references; pages = part_kept n s seat _ refl b.pages; holder = b.holder }
small_step n s seat (Credit f) Stocked sound b legal ok counted small =
    record { references = b.references; pages = part_kept n s seat _ refl b.pages; holder = b.holder }
small_step n s seat (Report m) Done sound b legal ok counted small =
    record { references = b.references; pages = part_kept n s seat _ refl b.pages; holder = b.holder }
small_step n s seat (Absorb p) (Pages m) sound b legal ok counted small =
    let part : Part = record (s.parts p) { book = (s.parts p).book - m; reported = (s.parts p).reported - m } in
    let a = books_more (s.zone.cpus + 1) s.parts p part 0 (omega arith) in
    let few = b.pages in
    record { references = b.references; pages = omega arith; holder = b.holder }
small_step n s seat (Fill p g m) Done sound b legal ok counted small =
    let a = books_more (s.zone.cpus + 1) s.parts p (filled (s.parts p) g m) m (omega arith) in
    let d = sum_more most_groups s.pending g (s.pending g - m) 0 (omega arith) in
    let few = b.pages in
    record { references = b.references; pages = omega arith; holder = b.holder }
small_step n s seat (DrainStock p) (Pages m) sound b legal ok counted small =
    let cpu : is_cpu s.zone p ≡ true = grind (arith, legal) in
    let high = cpu_high s.zone p cpu in
    let booked = sound.booked p in
    let e = books_are (s.zone.cpus + 1) s.parts p (drained (s.parts p) m) in
    let a = sum_change (s.zone.cpus + 1) (λ q. (s.parts q).book) p ((s.parts p).book - m) (omega arith) in
    let d = more (s.parts p).stock.group in
    let few = b.pages in
    record { references = b.references; pages = omega arith; holder = b.holder }
  where
    more : (of : Option ℕ) → sum_to most_groups (with_more s.pending of m) ≤ sum_to most_groups s.pending + m
    more None = omega arith
    more (Some g) = sum_more most_groups s.pending g (s.pending g + m) m (omega arith)
small_step n s seat (Grant g m) Granted sound b legal ok counted small =
    let d = sum_more most_groups s.pending g (s.pending g + m) m (omega arith) in
    let few = b.pages in
    record { references = b.references; pages = omega arith; holder = b.holder }
small_step n s seat (Ungrant g m) Done sound b legal ok counted small =
    let d = sum_more most_groups s.pending g (s.pending g - m) 0 (omega arith) in
    let few = b.pages in
    record { references = b.references; pages = omega arith; holder = b.holder }
small_step n s seat (PlaceBlock g k) (Placed x) sound b legal ok counted small =
    let d = sum_more most_groups s.pending g (s.pending g - 2 ^ k) 0 (omega arith) in
    let few = b.pages in
    record { references = b.references; pages = omega arith; holder = b.holder }
small_step n s seat Lock answer sound b legal ok counted small =
    record { references = b.references; pages = wide n (pages_out s) b.pages; holder = b.holder }
small_step n s seat action answer sound b legal ok counted small =
    record { references = b.references; pages = wide n (pages_out s) b.pages; holder = b.holder }

pub bounded_step : (n : ℕ) (s : State) (seat : ℕ) (action : Action) (answer : Answer) → KeepsInvariant s → IsBounded n s → is_legal s seat action ≡ true →
    IsAnswer s seat action answer → IsCounted s action answer → pages_asked action < 2 ^ 32 → IsBounded (n + 2 ^ 32) (after s seat action answer)
bounded_step n s seat action answer sound b legal ok counted small =
    let t : State = after s seat action answer in
    let next = small_step n s seat action answer sound (record { references = b.references; pages = b.pages; holder = b.holder }) legal ok counted small in
    record {
      references = next.references;
      pages = next.pages;
      holder = next.holder;
      pins = subst (λ (z : Zone). HaveFewPins z t.references t.parts) (sym (zone_kept s seat action answer))
          (pins_made s 0 seat action answer sound b.pins (record { legal = legal; answered = ok; counted = counted }));
    }
