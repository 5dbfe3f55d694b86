-- The text of the places of the frames.
use Rattle.std.specs.Prelude.{◌≡◌, ℕ, List, [], ◌∷◌, ◌++◌, codes, ◌+◌, ◌-◌, ◌<◌, ◌==◌, Bool, true, false, if◌then◌else◌, All, length, take}
use Rattle.std.specs.List.{prefix_len}
use Rattle.std.specs.Option.{option_map_or}
use Rattle.std.specs.Fmt.{decimal}
use Rattle.group_tree.specs.declared.group.Group.{Group}
use Rattle.group_tree.specs.Groups.{has_group, path_of}
use Rattle.mem_machine.specs.declared.frame_state.FrameState.{FrameState}
use Rattle.mem_machine.specs.declared.frame_state.Place.{Place}
use Rattle.mem_machine.specs.declared.frame_state.Place.TheVariants.{Free, Lent, Charged}
use Rattle.mem_machine.specs.FrameStates.{place_of, frame_state_at}
use Rattle.machine_texts.specs.Characters.{characters}

-- whether the two places are the same
abbrev pub is_same_place : Place → Place → Bool
is_same_place Free Free = true
is_same_place (Lent one) (Lent other) = one == other
is_same_place (Charged one) (Charged other) = one == other
is_same_place Free (Lent other) = false
is_same_place Free (Charged other) = false
is_same_place (Lent one) Free = false
is_same_place (Lent one) (Charged other) = false
is_same_place (Charged one) Free = false
is_same_place (Charged one) (Lent other) = false

-- the frame with this record is at this place
abbrev pub IsAt : Place → FrameState → Type 0
IsAt place frame_state = is_same_place (place_of frame_state) place ≡ true

-- how many frames from the first on are at this place
abbrev pub span_length : Place → List FrameState → ℕ
span_length place frame_states = prefix_len (λ frame_state. is_same_place (place_of frame_state) place) frame_states

-- all frames before this one are at the place, and this one isn't
pub record IsFirstElsewhere (place : Place) (frame_states : List FrameState) (at : ℕ) : Type 0 where
  pub inside : at < length frame_states
  pub here : is_same_place (place_of (frame_state_at frame_states at)) place ≡ false
  pub before : All (IsAt place) (take at frame_states)

-- the group that is charged for frames at this place, if any, exists
abbrev pub PlaceGroupExists : List Group → Place → Type 0
PlaceGroupExists groups (Charged group) = has_group groups group ≡ true
PlaceGroupExists groups Free = Unit {0}
PlaceGroupExists groups (Lent cpu) = Unit {0}

-- the group that is charged for a frame with this record, if any, exists
abbrev pub FrameGroupExists : List Group → FrameState → Type 0
FrameGroupExists groups frame_state = PlaceGroupExists groups (place_of frame_state)

-- the place of a frame: in the free areas, lent to this CPU, or charged to the group of this path
abbrev pub place_text : List Group → Place → List ℕ
place_text groups Free = codes "free"
place_text groups (Lent cpu) = codes "cpu " ++ decimal cpu
place_text groups (Charged group) = option_map_or characters (path_of groups group) []

-- the frames from the first to the last
abbrev pub frames_text : (first last : ℕ) → List ℕ
frames_text first last =
    if first == last then decimal first ++ codes " "
    else decimal first ++ codes "-" ++ decimal last ++ codes " "

-- the line of a span: its frames from the first to the last, and the place where they all are
abbrev pub span_text : List Group → (first last : ℕ) → Place → List ℕ
span_text groups first last place = frames_text first last ++ place_text groups place ++ codes "\n"

-- the lines for the frames from `first` on: those up to just before `next` are at this place, and those from `next` on
-- have these records
abbrev pub spans_text : List Group → (first next : ℕ) → Place → List FrameState → List ℕ
spans_text groups first next place [] = span_text groups first (next - 1) place
spans_text groups first next place (frame_state ∷ frame_states) =
    if is_same_place (place_of frame_state) place then spans_text groups first (next + 1) place frame_states
    else span_text groups first (next - 1) place ++ spans_text groups next (next + 1) (place_of frame_state)
    frame_states

-- a line for each longest span of frames with equal place
abbrev pub places_text : List Group → List FrameState → List ℕ
places_text groups [] = []
places_text groups (frame_state ∷ frame_states) = spans_text groups 0 1 (place_of frame_state) frame_states
