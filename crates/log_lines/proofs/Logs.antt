-- A text is that of one log at most.
use Rattle.std.proofs.Common.{◌≡◌, ◌≢◌, ℕ, List, [], ◌∷◌, ◌++◌, ◌==◌, All, filter, flat_map, map, refl, sym, ap, ap₂, ◌∙◌, append_assoc, ne_eqb}
use Rattle.std.specs.List.{AllByRecursion, AllZip, slice_split}
use Rattle.std.proofs.lemmas.List.{append_cancel_right}
use Rattle.std.proofs.lemmas.List.Splits.{slice_split_at}
use Rattle.step_rules.specs.declared.step.Step.{Step}
use Rattle.step_rules.specs.declared.step.Answer.{Answer}
use Rattle.step_rules.specs.State.{Zone}
use Rattle.log_lines.specs.declared.line.LogLine.{LogLine}
use Rattle.log_lines.specs.declared.line.LogLine.TheVariants as kinds
use Rattle.log_lines.specs.{IsLogLineText, AreLinesOf, IsLog, WholeLog, says_something, line_of_zone}
use Rattle.log_lines.proofs.Lines.{same_line}

-- a line with its line feed
abbrev pub ended : List ℕ → List ℕ
ended line = line ++ 10 ∷ []

-- the parts between the line feeds are the lines, and nothing follows the last
lines_split : (lines : List (List ℕ)) → AllByRecursion (λ line. All (λ b. b ≢ 10) line) lines
    → slice_split (λ b. b == 10) (flat_map ended lines) ≡ lines ++ [] ∷ []
lines_split [] fit = refl
lines_split (line ∷ lines) fit =
    ap (slice_split (λ b. b == 10)) (append_assoc line (10 ∷ []) (flat_map ended lines))
    ∙ slice_split_at (λ b. b == 10) line 10 (flat_map ended lines) (λ k d h. ne_eqb _ 10 (fit.0 k d h)) refl
    ∙ ap (λ (rest : List (List ℕ)). line ∷ rest) (lines_split lines fit.1)

same_texts : (text : List ℕ) (one other : List (List ℕ)) → AreLinesOf text one → AreLinesOf text other → one ≡ other
same_texts text one other is_one is_other = append_cancel_right one other ([] ∷ [])
    (sym (lines_split one is_one.no_feeds) ∙ ap (slice_split (λ b. b == 10)) (sym is_one.parts ∙ is_other.parts) ∙ lines_split other is_other.no_feeds)

same_lines : (texts : List (List ℕ)) (one other : List LogLine) → AllZip IsLogLineText texts one → AllZip IsLogLineText texts other → one ≡ other
same_lines [] [] [] a b = refl
same_lines [] (x ∷ xs) ys a b = absurd a
same_lines [] [] (y ∷ ys) a b = absurd b
same_lines (t ∷ ts) [] ys a b = absurd a
same_lines (t ∷ ts) (x ∷ xs) [] a b = absurd b
same_lines (t ∷ ts) (x ∷ xs) (y ∷ ys) a b = ap₂ (λ (l : LogLine) (ls : List LogLine). l ∷ ls) (same_line t x y a.0 b.0) (same_lines ts xs ys a.1 b.1)

-- the line of a step
abbrev pub line_of_entry : Step × Answer → LogLine
line_of_entry e = kinds.Step e.0 e.1

both : (s t : Step) (a b : Answer) → s ≡ t → a ≡ b → ◌≡◌ {A = Step × Answer} (s, a) (t, b)
both s t a b e f = cc

pub same_entry : (a b : Step × Answer) → line_of_entry a ≡ line_of_entry b → a ≡ b
same_entry a b e =
    let step : a.0 ≡ b.0 = cc in
    let answer : a.1 ≡ b.1 = cc in
    both a.0 b.0 a.1 b.1 step answer

same_run : (one other : List (Step × Answer)) → map line_of_entry one ≡ map line_of_entry other → one ≡ other
same_run [] [] e = refl
same_run [] (y ∷ ys) e = cc
same_run (x ∷ xs) [] e = cc
same_run (x ∷ xs) (y ∷ ys) e =
    let heads : line_of_entry x ≡ line_of_entry y = cc in
    let tails : map line_of_entry xs ≡ map line_of_entry ys = cc in
    ap₂ (λ (l : Step × Answer) (ls : List (Step × Answer)). l ∷ ls) (same_entry x y heads) (same_run xs ys tails)

same_sizes : (f g c d m n : ℕ) → f ≡ g → c ≡ d → m ≡ n
    → ◌≡◌ {A = Zone} (record { frames = f; cpus = c; groups = m }) (record { frames = g; cpus = d; groups = n })
same_sizes f g c d m n e h k = cc

pub same_zone : (one other : Zone) → line_of_zone one ≡ line_of_zone other → one ≡ other
same_zone one other e =
    let frames : one.frames ≡ other.frames = cc in
    let cpus : one.cpus ≡ other.cpus = cc in
    let groups : one.groups ≡ other.groups = cc in
    same_sizes one.frames other.frames one.cpus other.cpus one.groups other.groups frames cpus groups

whole : (one other : Zone) (r s : List (Step × Answer)) → one ≡ other → r ≡ s
    → ◌≡◌ {A = WholeLog} (record { zone = one; run = r }) (record { zone = other; run = s })
whole one other r s e h = cc

same_parts : (one other : WholeLog) → line_of_zone one.zone ∷ map line_of_entry one.run ≡ line_of_zone other.zone ∷ map line_of_entry other.run → one ≡ other
same_parts one other e =
    let heads : line_of_zone one.zone ≡ line_of_zone other.zone = cc in
    let tails : map line_of_entry one.run ≡ map line_of_entry other.run = cc in
    whole one.zone other.zone one.run other.run (same_zone one.zone other.zone heads) (same_run one.run other.run tails)

pub same_log : (text : List ℕ) (one other : WholeLog) → IsLog text one → IsLog text other → one ≡ other
same_log text one other is_one is_other =
    let texts = same_texts text is_one.texts is_other.texts is_one.cut is_other.cut in
    let lines = same_lines is_other.texts is_one.lines is_other.lines (rw texts at is_one.says) is_other.says in
    same_parts one other (sym is_one.in_order ∙ ap (filter says_something) lines ∙ is_other.in_order)
