-- A text with a first bad line is no log.
use Rattle.std.proofs.Common.{◌≡◌, ◌≢◌, ℕ, List, [], ◌∷◌, ◌++◌, ◌⊎◌, ◌==◌, inl, inr, All, filter, flat_map, map, refl, sym, ap, ap₂, ◌∙◌, append_assoc, append-nil, ne_eqb}
use Rattle.std.specs.List.{AllByRecursion, AllZip, slice_split}
use Rattle.std.proofs.lemmas.List.{append_cancel_left}
use Rattle.std.proofs.lemmas.List.Splits.{slice_split_at}
use Rattle.step_rules.specs.declared.step.Step.{Step}
use Rattle.step_rules.specs.declared.step.Answer.{Answer}
use Rattle.log_lines.specs.declared.line.LogLine.{LogLine}
use Rattle.log_lines.specs.declared.line.LogLine.TheVariants as kinds
use Rattle.log_lines.specs.{IsLogLineText, EndsBadly, IsFirstBadLogLine, IsLog, MayBegin, SayInOrder, WholeLog, says_something, line_of_zone}
use Rattle.log_lines.proofs.Lines.{same_line}
use Rattle.log_lines.proofs.Logs.{ended, line_of_entry}

abbrev NoFeed : List ℕ → Type 0
NoFeed line = All (λ b. b ≢ 10) line

abbrev feeds : List ℕ → List (List ℕ)
feeds text = slice_split (λ b. b == 10) text

-- ---- the texts of the lines

first_line : (x rest : List ℕ) → NoFeed x → feeds (x ++ 10 ∷ rest) ≡ x ∷ feeds rest
first_line x rest none = slice_split_at (λ b. b == 10) x 10 rest (λ k d h. ne_eqb _ 10 (none k d h)) refl

-- a text has one first line
pub same_first : (x y a b : List ℕ) → NoFeed x → NoFeed y → x ++ 10 ∷ a ≡ y ++ 10 ∷ b → (x ≡ y) × (a ≡ b)
same_first x y a b no_x no_y e =
    let split : x ∷ feeds a ≡ y ∷ feeds b = sym (first_line x a no_x) ∙ ap feeds e ∙ first_line y b no_y in
    let heads : x ≡ y = cc in
    let tails : x ++ 10 ∷ a ≡ x ++ 10 ∷ b = e ∙ ap (λ (t : List ℕ). t ++ 10 ∷ b) (sym heads) in
    let cut : 10 ∷ a ≡ 10 ∷ b = append_cancel_left x (10 ∷ a) (10 ∷ b) tails in
    (heads, cc)

some_text : (x a rest : List ℕ) → [] ≡ (ended x ++ a) ++ rest → ⊥
some_text [] a rest e = cc
some_text (b ∷ x) a rest e = cc

-- the lines of a whole text begin with those of its front
pub record Continues (all front : List (List ℕ)) (rest : List ℕ) : Type 0 where
  pub back : List (List ℕ)
  pub lines : all ≡ front ++ back
  pub text : rest ≡ flat_map ended back
  pub no_feeds : AllByRecursion NoFeed back

pub continues : (all front : List (List ℕ)) (rest : List ℕ) → AllByRecursion NoFeed all → AllByRecursion NoFeed front
    → flat_map ended all ≡ flat_map ended front ++ rest → Continues all front rest
continues all [] rest no_all no_front e = record { back = all; lines = refl; text = sym e; no_feeds = no_all }
continues [] (x ∷ front) rest no_all no_front e = absurd (some_text x (flat_map ended front) rest e)
continues (y ∷ all) (x ∷ front) rest no_all no_front e =
    let left : flat_map ended (y ∷ all) ≡ y ++ 10 ∷ flat_map ended all = append_assoc y (10 ∷ []) (flat_map ended all) in
    let right : flat_map ended (x ∷ front) ++ rest ≡ x ++ 10 ∷ (flat_map ended front ++ rest)
    = append_assoc (ended x) (flat_map ended front) rest ∙ append_assoc x (10 ∷ []) (flat_map ended front ++ rest) in
    let same = same_first y x (flat_map ended all) (flat_map ended front ++ rest) no_all.0 no_front.0 (sym left ∙ e ∙ right) in
    let others = continues all front rest no_all.1 no_front.1 same.1 in
    record {
      back = others.back;
      lines = ap₂ (λ (t : List ℕ) (ts : List (List ℕ)). t ∷ ts) same.0 others.lines;
      text = others.text;
      no_feeds = others.no_feeds;
    }

-- ---- what the lines say

-- the lines of a text whose first lines are known
pub record Says (back : List (List ℕ)) (front all : List LogLine) : Type 0 where
  pub lines : List LogLine
  pub parts : all ≡ front ++ lines
  pub says : AllZip IsLogLineText back lines

pub says_both : (texts back : List (List ℕ)) (front all : List LogLine) → AllZip IsLogLineText texts front → AllZip IsLogLineText (texts ++ back) all → Says back front all
says_both [] back [] all one two = record { lines = all; parts = refl; says = two }
says_both [] back (x ∷ front) all one two = absurd one
says_both (t ∷ texts) back [] all one two = absurd one
says_both (t ∷ texts) back (x ∷ front) [] one two = absurd two
says_both (t ∷ texts) back (x ∷ front) (y ∷ all) one two =
    let others = says_both texts back front all one.1 two.1 in
    record {
      lines = others.lines;
      parts = ap₂ (λ (l : LogLine) (ls : List LogLine). l ∷ ls) (same_line t y x two.0 one.0) others.parts;
      says = others.says;
    }

pub filter_append : (a b : List LogLine) → filter says_something (a ++ b) ≡ filter says_something a ++ filter says_something b
filter_append [] b = refl
filter_append (kinds.Skipped ∷ a) b = filter_append a b
filter_append (kinds.Zone f c n ∷ a) b = ap (λ (ls : List LogLine). kinds.Zone f c n ∷ ls) (filter_append a b)
filter_append (kinds.Step s r ∷ a) b = ap (λ (ls : List LogLine). kinds.Step s r ∷ ls) (filter_append a b)

-- the front of the lines of steps
steps_front : (front back : List LogLine) (run : List (Step × Answer)) → front ++ back ≡ map line_of_entry run
    → (start : List (Step × Answer)) × (front ≡ map line_of_entry start)
steps_front [] back run e = ([], refl)
steps_front (x ∷ front) back [] e = cc
steps_front (x ∷ front) back (s ∷ run) e =
    let heads : x ≡ line_of_entry s = cc in
    let tails : front ++ back ≡ map line_of_entry run = cc in
    let others = steps_front front back run tails in
    (s ∷ others.0, ap₂ (λ (l : LogLine) (ls : List LogLine). l ∷ ls) heads others.1)

begun : (said back : List LogLine) (log : WholeLog) → said ++ back ≡ line_of_zone log.zone ∷ map line_of_entry log.run
    → (said ≡ []) ⊎ ((start : WholeLog) × (said ≡ line_of_zone start.zone ∷ map line_of_entry start.run))
begun [] back log e = inl refl
begun (x ∷ said) back log e =
    let heads : x ≡ line_of_zone log.zone = cc in
    let tails : said ++ back ≡ map line_of_entry log.run = cc in
    let steps = steps_front said back log.run tails in
    inr (record { zone = log.zone; run = steps.0 }, ap₂ (λ (l : LogLine) (ls : List LogLine). l ∷ ls) heads steps.1)

-- with the front of a log's lines a log may begin
front_begins : (front back : List LogLine) (log : WholeLog) → SayInOrder (front ++ back) log → MayBegin front
front_begins front back log e = begun (filter says_something front) (filter says_something back) log (sym (filter_append front back) ∙ e)

-- what follows the front of a log isn't bad
not_bad : (texts : List (List ℕ)) (said lines : List LogLine) (rest : List ℕ) (log : WholeLog) → EndsBadly lines rest → AllByRecursion NoFeed texts
    → rest ≡ flat_map ended texts → AllZip IsLogLineText texts said → SayInOrder (lines ++ said) log → ⊥
not_bad [] [] lines rest log bad no_feeds text says order =
    let nothing : filter says_something lines ≡ [] = bad.no_sizes text in
    let whole : filter says_something (lines ++ []) ≡ [] = ap (filter says_something) (append-nil lines) ∙ nothing in
    let wrong : [] ≡ line_of_zone log.zone ∷ map line_of_entry log.run = sym whole ∙ order in
    cc
not_bad [] (x ∷ said) lines rest log bad no_feeds text says order = absurd says
not_bad (t ∷ texts) [] lines rest log bad no_feeds text says order = absurd says
not_bad (t ∷ texts) (x ∷ said) lines rest log bad no_feeds text says order =
    let front : SayInOrder ((lines ++ x ∷ []) ++ said) log = ap (filter says_something) (append_assoc lines (x ∷ []) said) ∙ order in
    bad.no_line t (flat_map ended texts) x no_feeds.0 (text ∙ append_assoc t (10 ∷ []) (flat_map ended texts)) says.0 (front_begins (lines ++ x ∷ []) said log front)

pub bad_line_is_no_log : (text : List ℕ) (n : ℕ) (log : WholeLog) → IsFirstBadLogLine text n → ¬ IsLog text log
bad_line_is_no_log text n log bad is =
    let parts : flat_map ended is.texts ≡ flat_map ended bad.texts ++ bad.rest
    = sym is.cut.parts ∙ bad.parts ∙ ap (λ (t : List ℕ). t ++ bad.rest) bad.cut.parts in
    let rest = continues is.texts bad.texts bad.rest is.cut.no_feeds bad.cut.no_feeds parts in
    let lines = says_both bad.texts rest.back bad.lines is.lines bad.says (rw rest.lines at is.says) in
    not_bad rest.back lines.lines bad.lines bad.rest log bad.bad rest.no_feeds rest.text lines.says (ap (filter says_something) (sym lines.parts) ∙ is.in_order)
