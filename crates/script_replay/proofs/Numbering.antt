-- The lines of an answer, with their numbers so far. Serves `write_numbered`.
use Rattle.std.proofs.Common.{◌≡◌, ℕ, ◌≤◌, List, ◌++◌, length, take, map, ap, sym, ◌∙◌}
use Rattle.std.specs.Borrow.{Bor}
use Rattle.std.specs.List.{flat_map}
use Rattle.std.specs.Str.Lines.{lines}
use Rattle.std.proofs.lemmas.List.{take_all}
use Rattle.std.proofs.lemmas.List.Folds.{flat_map-map}
use Rattle.script_replay.specs.Numbers.{numbered_line, numbered_text}

-- so many of the lines were added
abbrev pub AreNumbered : (number : ℕ) → List (Bor (List ℕ)) → ℕ → (before after : List ℕ) → Type 0
AreNumbered number found i before after = after ≡ before ++ flat_map (λ l. numbered_line number l.now) (take i found)

pub all_numbered : (number : ℕ) (found : List (Bor (List ℕ))) (i : ℕ) (plain before text : List ℕ) → length found ≤ i
    → map (λ l. l.now) found ≡ lines plain → AreNumbered number found i before text → text ≡ before ++ numbered_text number plain
all_numbered number found i plain before text past are so_far =
    so_far ∙ ap (λ t. before ++ t) (ap (flat_map (λ (l : Bor (List ℕ)). numbered_line number l.now)) (take_all i found past)
    ∙ (sym (flat_map-map (numbered_line number) (λ (l : Bor (List ℕ)). l.now) found) ∙ ap (flat_map (numbered_line number)) are))
