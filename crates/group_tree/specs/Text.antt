-- A text kept in an array of a fixed size.
use Rattle.std.specs.Prelude.{◌≡◌, ℕ, ◌-◌, ◌≤◌, ◌++◌, List, length, take, drop, replicate}
use Rattle.std.proofs.Common.{arith}
use Rattle.std.proofs.lemmas.List.{take-append-drop, length-take-le}
use Rattle.group_tree.specs.Bounds.{longest_path}
use Rattle.group_tree.specs.declared.path.PathText.TheInside.{Inside}

-- the first `len` bytes of the room are the text, and the bytes after it are zero
pub record IsPadded (room : ℕ) (bytes : List ℕ) (len : ℕ) : Type 0 where
  pub size : length bytes ≡ room
  pub fits : len ≤ room
  pub zeros : drop len bytes ≡ replicate (room - len) 0

-- a text followed by zeros, `room` bytes in all
abbrev pub padded : ℕ → List ℕ → List ℕ
padded room text = text ++ replicate (room - length text) 0

-- the first bytes of such a room are a text of that length, and followed by zeros they are the room
pub padded-text : (room : ℕ) (bytes : List ℕ) (len : ℕ) → IsPadded room bytes len
    → (length (take len bytes) ≡ len) × (padded room (take len bytes) ≡ bytes)
padded-text room bytes len h =
    let size : length (take len bytes) ≡ len = length-take-le len bytes (omega (arith, h.size, h.fits)) in
    (size, rw size (rw (← h.zeros) (take-append-drop len bytes)))

-- the text alone determines the fields
pub padded-view : (bytes : List ℕ) (len : ℕ) → IsPadded longest_path bytes len
    → ◌≡◌ {A = Inside} (record { bytes = padded longest_path (take len bytes); len = length (take len bytes) })
    (record { bytes = bytes; len = len })
padded-view bytes len h =
    let size : length (take len bytes) ≡ len = (padded-text longest_path bytes len h).0 in
    let same : padded longest_path (take len bytes) ≡ bytes = (padded-text longest_path bytes len h).1 in
    cc
