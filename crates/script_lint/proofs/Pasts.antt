-- What one line more says of groups.
use Rattle.std.proofs.Common.{◌≡◌, ◌∙◌, ◌||◌, ◌&&◌, ◌++◌, ◌∷◌, [], ℕ, List, Bool, true, false, codes, cond, ap₂, nat_eq, refl, sym}
use Rattle.std.proofs.Math.Bool.{or-false}
use Rattle.std.proofs.lemmas.List.Folds.{list_any-append}
use Rattle.std.specs.Borrow.{Bor}
use Rattle.std.specs.HashSet.{HashSet}
use Rattle.std.specs.List.{list_any}
use Rattle.std.specs.Cmp.Lexicographic.{pointwise}
use Rattle.std.specs.Str.{bytes_eq}
use Rattle.script_lines.specs.Script.{has_go, is_go}
use Rattle.script_lint.specs.{word_behind, KnowsPast, has_path, is_made, makes}
use Rattle.script_lint.specs.declared.past.Past.{Past}

-- a test of some list of texts, and of one more
any_more : (test : List ℕ → Bool) (texts : List (List ℕ)) (text : List ℕ) (before : Bool) → before ≡ list_any test texts
    → (before || test text) ≡ list_any test (texts ++ text ∷ [])
any_more test texts text before is =
    let one : list_any test (text ∷ []) ≡ test text = or-false (test text) in
    ap₂ (λ (a b : Bool). a || b) is (sym one) ∙ sym (list_any-append test texts (text ∷ []))

pub knows_more : (old now : Past) (texts : List (List ℕ)) (text : List ℕ) → KnowsPast old texts
    → ((path : List ℕ) → has_path now.made path ≡ (has_path old.made path || makes path text)) → now.had_go ≡ (old.had_go || is_go text)
    → KnowsPast now (texts ++ text ∷ [])
knows_more old now texts text knows made went = record {
  made = λ path. made path ∙ any_more (makes path) texts text (has_path old.made path) (knows.made path);
  had_go = went ∙ any_more is_go texts text old.had_go knows.had_go;
}

-- a key is there if it was before or is the new one
pub put_or : (is_new before : Bool) → cond is_new true before ≡ (before || is_new)
put_or true true = refl
put_or true false = refl
put_or false true = refl
put_or false false = refl

-- the path that the line makes was put
pub put_path : (now old : Bool) (text path word : List ℕ) → now ≡ cond (pointwise nat_eq word path) true old → word ≡ word_behind 2 text
    → bytes_eq (word_behind 1 text) (codes "mkdir") ≡ true → now ≡ (old || makes path text)
put_path now old text path word put is makes_one =
    put ∙ put_or (pointwise nat_eq word path) old
    ∙ ap₂ (λ (a : Bool) (w : List ℕ). old || (a && pointwise nat_eq w path)) (sym makes_one) is
