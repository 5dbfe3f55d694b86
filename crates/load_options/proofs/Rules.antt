-- The options of a command, one after the other.
use Rattle.std.proofs.Common.{◌≡◌, ◌∙◌, ◌<◌, ◌≤◌, ◌+◌, ℕ, List, [], ◌∷◌, length, map, drop, get_or, add-one, ap, sym, append_assoc}
use Rattle.std.proofs.Math.Seq.{drop-cons}
use Rattle.std.proofs.lemmas.List.{append-nil, drop_all}
use Rattle.clap.specs.Words.{Rule}
use Rattle.clap.specs.Simple.{Shape}
use Rattle.load_options.specs.Words.{with_option, with_options}

-- one more, and then the rest
one_more : (shape : Shape) (rule : Rule) (rest : List Rule) → with_options (with_option shape rule) rest ≡ with_options shape (rule ∷ rest)
one_more shape rule rest = ap (λ (rules : List Rule). record shape { rules = rules }) (append_assoc shape.rules (rule ∷ []) rest)

-- none more
none_more : (shape : Shape) → with_options shape [] ≡ shape
none_more shape = ap (λ (rules : List Rule). record shape { rules = rules }) (append-nil shape.rules)

-- one option of a list, and then those after it
pub next_of : {X : Type 0} (rule : X → Rule) (xs : List X) (i : ℕ) (x : X) (start before after : Shape) → i < length xs
    → with_options before (map rule (drop i xs)) ≡ with_options start (map rule xs) → after ≡ with_option before (rule (get_or xs i x))
    → with_options after (map rule (drop (i + 1) xs)) ≡ with_options start (map rule xs)
next_of rule xs i x start before after more told is =
    let rest : List Rule = map rule (drop (i + 1) xs) in
    let here : drop i xs ≡ get_or xs i x ∷ drop (i + 1) xs = drop-cons xs i x more ∙ ap (λ (k : ℕ). get_or xs i x ∷ drop k xs) (sym (add-one i)) in
    ap (λ (shape : Shape). with_options shape rest) is ∙ one_more before (rule (get_or xs i x)) rest
    ∙ ap (λ (ys : List _). with_options before (map rule ys)) (sym here) ∙ told

-- none after the last
pub last_of : {X : Type 0} (rule : X → Rule) (xs : List X) (i : ℕ) (start last : Shape) → length xs ≤ i
    → with_options last (map rule (drop i xs)) ≡ with_options start (map rule xs) → last ≡ with_options start (map rule xs)
last_of rule xs i start last none told =
    sym (none_more last) ∙ ap (λ (ys : List _). with_options last (map rule ys)) (sym (drop_all i xs none)) ∙ told
