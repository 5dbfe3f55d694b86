-- The files by their names. Serves `file_named`.
use Rattle.std.proofs.Common.{◌≡◌, ℕ, Bool, true, false, List, [], ◌∷◌, refl, sym}
use Rattle.std.specs.Prelude.{Some, ◌↔◌, cond}
use Rattle.std.specs.List.{find}
use Rattle.std.specs.Str.{bytes_eq}
use Rattle.std.proofs.lemmas.Slice.Eq.{bytes_eq-Decides}
use Rattle.control_files.specs.declared.file.File.{File}
use Rattle.control_files.specs.declared.file.File.TheVariants.{Current, Max, High, Low, Min, Peak, Events, EventsLocal, OomGroup, Reclaim, Stat}
use Rattle.control_files.specs.Files.{name_of_file}

abbrev all_files : List File
all_files = Current ∷ Max ∷ High ∷ Low ∷ Min ∷ Peak ∷ Events ∷ EventsLocal ∷ OomGroup ∷ Reclaim ∷ Stat ∷ []

passes_by : (p : File → Bool) (x : File) (xs : List File) (y : File) (b : Bool) → b ≡ p x → (find p xs ≡ Some y → p y ≡ true) →
    cond b (Some x) (find p xs) ≡ Some y → p y ≡ true
passes_by p x xs y true passes rest found = let same : x ≡ y = cc in rw (← same) (sym passes)
passes_by p x xs y false passes rest found = rest found

-- what is found passes
found_passes : (p : File → Bool) (xs : List File) (y : File) → find p xs ≡ Some y → p y ≡ true
found_passes p [] y found = cc
found_passes p (x ∷ xs) y found = passes_by p x xs y (p x) refl (found_passes p xs y) found

-- each file is found by its name
found_by_name : (file : File) → find (λ f. bytes_eq (name_of_file f) (name_of_file file)) all_files ≡ Some file
found_by_name Current = refl
found_by_name Max = refl
found_by_name High = refl
found_by_name Low = refl
found_by_name Min = refl
found_by_name Peak = refl
found_by_name Events = refl
found_by_name EventsLocal = refl
found_by_name OomGroup = refl
found_by_name Reclaim = refl
found_by_name Stat = refl

pub found-name_of : (name : List ℕ) (file : File) → (find (λ f. bytes_eq (name_of_file f) name) all_files ≡ Some file) ↔ (name ≡ name_of_file file)
found-name_of name file = (
  λ found. sym ((bytes_eq-Decides (name_of_file file) name).0 (found_passes (λ f. bytes_eq (name_of_file f) name) all_files file found)),
  λ same. rw same (found_by_name file),
)
