-- Spans of frames with equal place, one after the other. Serves `span_length` and `write_places`.
use Rattle.std.proofs.Common.{◌≡◌, ℕ, zero, suc, ◌+◌, ◌-◌, ◌<◌, ◌≤◌, List, [], ◌∷◌, ◌++◌, Bool, true, false, cond, All, length, take, drop, get_or}
use Rattle.std.proofs.Common.{Option, Some, None, MatchOption, arith, ap, sym, ◌∙◌, refl}
use Rattle.std.proofs.lemmas.Bool.{eq-eqb}
use Rattle.std.proofs.lemmas.List.{append-nil, drop-drop, length-drop}
use Rattle.std.proofs.lemmas.List.Sums.{prefix_len-le-length}
use Rattle.std.proofs.Math.Seq.{drop-cons}
use Rattle.std.specs.List.{prefix_len}
use Rattle.std.specs.Option.{unwrap_or}
use Rattle.group_tree.specs.declared.group.Group.{Group}
use Rattle.mem_machine.specs.declared.frame_state.FrameState.{FrameState}
use Rattle.mem_machine.specs.declared.frame_state.FrameState.TheVariants as frame_state
use Rattle.mem_machine.specs.declared.frame_state.Place.{Place}
use Rattle.mem_machine.specs.declared.frame_state.Place.TheVariants.{Free, Lent, Charged}
use Rattle.mem_machine.specs.FrameStates.{place_of}
use Rattle.machine_texts.specs.Places.{IsAt, IsFirstElsewhere, is_same_place, span_length, span_text, spans_text}

-- ---- how long a span is

first_true : (b : Bool) (n : ℕ) → b ≡ true → cond b (1 + n) 0 ≡ 1 + n
first_true b n e = ap (λ (c : Bool). cond c (1 + n) 0) e

first_false : (b : Bool) (n : ℕ) → b ≡ false → cond b (1 + n) 0 ≡ 0
first_false b n e = ap (λ (c : Bool). cond c (1 + n) 0) e

-- the first so many pass, and the next doesn't
prefix_is : {X : Type 0} (p : X → Bool) (xs : List X) (at : ℕ) (d : X) → at < length xs → p (get_or xs at d) ≡ false
    → All (λ x. p x ≡ true) (take at xs) → prefix_len p xs ≡ at
prefix_is p [] at d inside here before = absurd (omega arith)
prefix_is p (x ∷ xs) zero d inside here before = first_false (p x) (prefix_len p xs) here
prefix_is p (x ∷ xs) (suc at) d inside here before =
    let rest = prefix_is p xs at d (omega arith) here (λ k e lt. before (suc k) e (omega arith)) in
    let one = first_true (p x) (prefix_len p xs) (before 0 x (omega arith)) in
    omega (arith, rest, one)

-- all pass
prefix_all : {X : Type 0} (p : X → Bool) (xs : List X) → All (λ x. p x ≡ true) xs → prefix_len p xs ≡ length xs
prefix_all p [] all = refl
prefix_all p (x ∷ xs) all =
    let rest = prefix_all p xs (λ k e lt. all (suc k) e (omega arith)) in
    let one = first_true (p x) (prefix_len p xs) (all 0 x (omega arith)) in
    omega (arith, rest, one)

-- a span ends at the first frame that is elsewhere, or at the end of the zone
pub span_found : (place : Place) (frame_states : List FrameState) (found : Option ℕ) → MatchOption found (All (IsAt place) frame_states)
    (λ at. IsFirstElsewhere place frame_states at)
    → unwrap_or found (length frame_states) ≡ span_length place frame_states
span_found place frame_states None all = sym (prefix_all (λ s. is_same_place (place_of s) place) frame_states all)
span_found place frame_states (Some at) is = sym (prefix_is (λ s. is_same_place (place_of s) place) frame_states at frame_state.Free is.inside is.here
    is.before)

-- a place is itself
same_self : (place : Place) → is_same_place place place ≡ true
same_self Free = refl
same_self (Lent n) = eq-eqb n n refl
same_self (Charged n) = eq-eqb n n refl

-- ---- the lines of spans

-- the lines of the frames from this one on, which have these records
abbrev pub rest_text : List Group → ℕ → List FrameState → List ℕ
rest_text groups first [] = []
rest_text groups first (s ∷ ss) = spans_text groups first (first + 1) (place_of s) ss

-- the line of a span, and those of the frames after it
abbrev split_text : List Group → (first next : ℕ) → Place → (more : ℕ) → List FrameState → List ℕ
split_text groups first next place more frame_states = span_text groups first (next + more - 1) place ++ rest_text groups (next + more) (drop more frame_states)

split_one : (b : Bool) (groups : List Group) (first next : ℕ) (place : Place) (s : FrameState) (ss : List FrameState) (k : ℕ)
    → spans_text groups first (next + 1) place ss ≡ split_text groups first (next + 1) place k ss
    → cond b (spans_text groups first (next + 1) place ss) (span_text groups first (next - 1) place ++ spans_text groups next (next + 1) (place_of s) ss)
    ≡ split_text groups first next place (cond b (1 + k) 0) (s ∷ ss)
split_one true groups first next place s ss k rest =
    let e : next + 1 + k ≡ next + (1 + k) = omega arith in
    let n : suc k ≡ 1 + k = omega arith in
    rest ∙ ap (λ (m : ℕ). span_text groups first (m - 1) place ++ rest_text groups m (drop k ss)) e
    ∙ ap (λ (m : ℕ). span_text groups first (next + (1 + k) - 1) place ++ rest_text groups (next + (1 + k)) (drop m (s ∷ ss))) n
split_one false groups first next place s ss k rest =
    let e : next ≡ next + 0 = omega arith in
    ap (λ (m : ℕ). span_text groups first (m - 1) place ++ rest_text groups m (s ∷ ss)) e

-- the frames that are at the place of the span are its, and those after them have lines of their own
split : (groups : List Group) (first next : ℕ) (place : Place) (frame_states : List FrameState)
    → spans_text groups first next place frame_states ≡ split_text groups first next place (span_length place frame_states) frame_states
split groups first next place [] =
    let e : next - 1 ≡ next + 0 - 1 = omega arith in
    ap (λ (m : ℕ). span_text groups first m place) e ∙ sym (append-nil (span_text groups first (next + 0 - 1) place))
split groups first next place (s ∷ ss) =
    split_one (is_same_place (place_of s) place) groups first next place s ss (span_length place ss) (split groups first (next + 1) place ss)

-- the first of some frames, at a place, begins a span, and that has a line
line_of : (groups : List Group) (first : ℕ) (s : FrameState) (ss : List FrameState)
    → rest_text groups first (s ∷ ss) ≡ split_text groups first first (place_of s) (span_length (place_of s) (s ∷ ss)) (s ∷ ss)
line_of groups first s ss =
    let k : ℕ = span_length (place_of s) ss in
    let long : span_length (place_of s) (s ∷ ss) ≡ 1 + k = first_true (is_same_place (place_of s) (place_of s)) k (same_self (place_of s)) in
    let e : first + 1 + k ≡ first + (1 + k) = omega arith in
    let n : suc k ≡ 1 + k = omega arith in
    split groups first (first + 1) (place_of s) ss
    ∙ ap (λ (m : ℕ). span_text groups first (m - 1) (place_of s) ++ rest_text groups m (drop k ss)) e
    ∙ ap (λ (m : ℕ). span_text groups first (first + (1 + k) - 1) (place_of s) ++ rest_text groups (first + (1 + k)) (drop m (s ∷ ss))) n
    ∙ ap (λ (m : ℕ). split_text groups first first (place_of s) m (s ∷ ss)) (sym long)

-- The frame at which a span begins. The span is at least this frame, and ends within the zone
pub record IsSpan (groups : List Group) (frame_states : List FrameState) (first size : ℕ) (place : Place) : Type 0 where
  pub some : 1 ≤ size
  pub within : first + size ≤ length frame_states
  pub text : rest_text groups first (drop first frame_states)
      ≡ span_text groups first (first + size - 1) place ++ rest_text groups (first + size) (drop (first + size) frame_states)

pub is_span : (groups : List Group) (frame_states : List FrameState) (first size : ℕ) (place : Place) (s : FrameState) → first < length frame_states
    → s ≡ get_or frame_states first s → place ≡ place_of s → size ≡ span_length place (drop first frame_states) → IsSpan groups frame_states first size place
is_span groups frame_states first size place s inside at is long =
    let ss : List FrameState = drop (suc first) frame_states in
    let here : drop first frame_states ≡ s ∷ ss = drop-cons frame_states first s inside ∙ ap (λ (x : FrameState). x ∷ ss) (sym at) in
    let size_is : size ≡ span_length (place_of s) (s ∷ ss) = long ∙ ap (λ (p : Place). span_length p (drop first frame_states)) is ∙ ap
    (span_length (place_of s)) here in
    let one : span_length (place_of s) (s ∷ ss) ≡ 1 + span_length (place_of s) ss
    = first_true (is_same_place (place_of s) (place_of s)) (span_length (place_of s) ss) (same_self (place_of s)) in
    let short = prefix_len-le-length (λ x. is_same_place (place_of x) place) (drop first frame_states) in
    let left = length-drop first frame_states in
    let line : rest_text groups first (drop first frame_states) ≡ split_text groups first first (place_of s) size (s ∷ ss)
    = ap (rest_text groups first) here ∙ line_of groups first s ss ∙ ap (λ (m : ℕ). split_text groups first first (place_of s) m (s ∷ ss)) (sym size_is) in
    record {
      some = omega (arith, size_is, one);
      within = omega (arith, long, short, left);
      text = line
          ∙ ap (λ (p : Place). span_text groups first (first + size - 1) p ++ rest_text groups (first + size) (drop size (s ∷ ss))) (sym is)
          ∙ ap (λ (x : List FrameState). span_text groups first (first + size - 1) place ++ rest_text groups (first + size) (drop size x)) (sym here)
          ∙ ap (λ (x : List FrameState). span_text groups first (first + size - 1) place ++ rest_text groups (first + size) x)
          (drop-drop size first frame_states);
    }
