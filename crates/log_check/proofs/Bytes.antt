-- What is read of a log after one byte more. Serves `LogReader`.
use Rattle.std.proofs.Common.{◌≡◌, ◌≢◌, ℕ, ◌+◌, ◌<◌, ◌≤◌, zero, suc, List, [], ◌∷◌, ◌++◌, Option, Some, None, All, flat_map, get_or, length, refl, sym, ap, subst, ◌∙◌}
use Rattle.std.proofs.Common.{append_assoc, append-nil, arith, inl, inr, length-append}
use Rattle.std.specs.List.{AllByRecursion, AllZip}
use Rattle.std.specs.Prelude.{◌⊎◌, Bool, is_some, true, false, drop, if◌then◌else◌, take}
use Rattle.std.proofs.lemmas.List.{nil_from_length, take_more, take-append-drop}
use Rattle.std.proofs.lemmas.Bool.{false≢true}
use Rattle.std.proofs.lemmas.Grind.{flat_map-append}
use Rattle.std.proofs.lemmas.List.Elements.{All-append}
use Rattle.step_rules.specs.State.{State}
use Rattle.step_rules.specs.After.{IsLegalRun, Run, state_of}
use Rattle.mem_core.specs.Shown.{CoreState, state_shown}
use Rattle.mem_core.proofs.Keeping.{always_keeps}
use Rattle.log_lines.specs.declared.line.LogLine.{LogLine}
use Rattle.log_lines.specs.{IsLogLineText, EndsBadly, MayBegin}
use Rattle.log_lines.proofs.BadLines.{same_first}
use Rattle.log_lines.proofs.Lines.{same_line}
use Rattle.log_lines.proofs.Logs.{ended}
use Rattle.log_check.specs.declared.reader.LogReader.{LogReader}
use Rattle.log_check.specs.declared.verdict.LogVerdict.{LogVerdict}
use Rattle.log_check.specs.declared.verdict.LogVerdict.TheVariants as kinds
use Rattle.log_check.specs.declared.progress.Progress.{Progress}
use Rattle.log_check.specs.declared.progress.Taken.{Taken}
use Rattle.log_check.specs.declared.progress.Taken.TheVariants.{GoesOn, NotLegal, Bad}
use Rattle.log_check.specs.declared.line_fault.LineFault.{LineFault}
use Rattle.log_check.specs.declared.line_fault.LineFault.TheVariants.{NoLineFeed, NoSizes, SizesAgain, StepFirst, TooLong}
use Rattle.log_check.specs.declared.line_fault.LineFault.TheVariants.{ByteOrderMark, Gzip, WideText, CarriageReturn, NoLine}
use Rattle.log_check.specs.declared.verdict.IllegalStep.{IllegalStep}
use Rattle.log_check.specs.{BeginsWith, BreaksRules, IsBadLine, IsLogVerdict, IsMisplaced, IsWhy, IsPromisedLog, NamesLeftOut, fault_of}
use Rattle.log_check.specs.{begins_as_gzip, is_marked, is_returned, is_wide, IsEnd, free_count, AreLeftOut, AreWholeLines, Checked}
use Rattle.log_check.specs.{Concludes, EndsIllegally, HasChecked, HasRead, HasTakenLines, LeadsTo, ReadsOrJudges, TakesAfter, illegal_in}
use Rattle.log_check.specs.declared.verdict.LogEnd.{LogEnd}

abbrev NoFeed : List ℕ → Type 0
NoFeed line = All (λ b. b ≢ 10) line

-- ---- one line more

all_more : (texts : List (List ℕ)) (t : List ℕ) → AllByRecursion NoFeed texts → NoFeed t → AllByRecursion NoFeed (texts ++ t ∷ [])
all_more [] t all one = (one, tt)
all_more (x ∷ texts) t all one = (all.0, all_more texts t all.1 one)

zip_more : (texts : List (List ℕ)) (lines : List LogLine) (t : List ℕ) (l : LogLine) → AllZip IsLogLineText texts lines → IsLogLineText t l
    → AllZip IsLogLineText (texts ++ t ∷ []) (lines ++ l ∷ [])
zip_more [] [] t l all one = (one, tt)
zip_more [] (y ∷ lines) t l all one = absurd all
zip_more (x ∷ texts) [] t l all one = absurd all
zip_more (x ∷ texts) (y ∷ lines) t l all one = (all.0, zip_more texts lines t l all.1 one)

line_more : (front t : List ℕ) (n m : ℕ) (lines : List LogLine) (l : LogLine) → AreWholeLines front n lines → NoFeed t → IsLogLineText t l → m ≡ n + 1
    → AreWholeLines ((front ++ t) ++ 10 ∷ []) m (lines ++ l ∷ [])
line_more front t n m lines l are no_feed is one =
    let last : flat_map ended (t ∷ []) ≡ t ++ 10 ∷ [] = append-nil (ended t) in
    let parts : (front ++ t) ++ 10 ∷ [] ≡ flat_map ended (are.texts ++ t ∷ []) =
    append_assoc front t (10 ∷ []) ∙ ap (λ (x : List ℕ). x ++ (t ++ 10 ∷ [])) are.cut.parts
    ∙ ap (λ (x : List ℕ). flat_map ended are.texts ++ x) (sym last) ∙ sym (flat_map-append ended are.texts (t ∷ [])) in
    record {
      texts = are.texts ++ t ∷ [];
      cut = record { parts = parts; no_feeds = all_more are.texts t are.cut.no_feeds no_feed };
      says = zip_more are.texts lines t l are.says is;
      count_is = one ∙ ap (λ k. k + 1) are.count_is ∙ sym (length-append are.texts (t ∷ []));
    }

-- the text before the line feed is the lines before, and the line
pub whole_more : (before : List ℕ) (r : LogReader) (l : LogLine) (m : ℕ) (h : HasRead before r) → IsLogLineText r.line.items l → m ≡ r.lines + 1
    → AreWholeLines (before ++ 10 ∷ []) m (h.taken.lines ++ l ∷ [])
whole_more before r l m h is one =
    subst (λ (x : List ℕ). AreWholeLines (x ++ 10 ∷ []) m (h.taken.lines ++ l ∷ [])) (sym h.parts)
    (line_more h.front r.line.items r.lines m h.taken.lines l h.taken.are h.no_feed is one)

-- ---- what is read

feed_less : (xs : List ℕ) (b : ℕ) → NoFeed xs → b ≢ 10 → NoFeed (xs ++ b ∷ [])
feed_less xs b all one = All-append (λ (x : ℕ). x ≢ 10) xs (b ∷ []) all (only b one)
  where
    only : (b : ℕ) → b ≢ 10 → NoFeed (b ∷ [])
    only b one zero d h = one
    only b one (suc k) d h = absurd (omega (arith, h))

-- the line ended, and the log goes on
read_line : (before : List ℕ) (r s : LogReader) (l : LogLine) (left : List IllegalStep) (h : HasRead before r) → IsLogLineText r.line.items l
    → HasChecked s.progress (r.lines + 1) (h.taken.lines ++ l ∷ []) left → AreLeftOut left s.left_out → (s.is_all ≡ false → left ≡ [])
    → s.line.items ≡ [] → s.lines ≡ r.lines + 1 → HasRead (before ++ 10 ∷ []) s
read_line before r s l left h is checked are none empty one = record {
  front = before ++ 10 ∷ [];
  parts = sym (ap (λ (x : List ℕ). (before ++ 10 ∷ []) ++ x) empty ∙ append-nil (before ++ 10 ∷ []));
  no_feed = subst NoFeed (sym empty) (λ k d h. absurd (omega (arith, h)));
  left = left;
  taken = record {
    lines = h.taken.lines ++ l ∷ [];
    are = whole_more before r l s.lines h is one;
    checked = subst (λ n. HasChecked s.progress n (h.taken.lines ++ l ∷ []) left) (sym one) checked;
  };
  left_is = are;
  none = none;
}

-- ---- what the text is known to be

-- a step was not allowed
line_illegal : (before rest : List ℕ) (r : LogReader) (l : LogLine) (illegal : IllegalStep) (h : HasRead before r)
    → IsLogLineText r.line.items l → EndsIllegally (h.taken.lines ++ l ∷ []) illegal.step illegal.expected illegal.reason
    → illegal.line ≡ r.lines + 1 → BreaksRules ((before ++ 10 ∷ []) ++ rest) illegal
line_illegal before rest r l illegal h is ends one =
    let are = whole_more before r l illegal.line h is one in
    record {
      front = before ++ 10 ∷ [];
      rest = rest;
      parts = refl;
      log = ends.log;
      is = record { texts = are.texts; lines = h.taken.lines ++ l ∷ []; cut = are.cut; says = are.says; in_order = ends.order };
      line_is = are.count_is;
      step_is = ends.count;
      first = ends.first;
      why = ends.why;
    }

begins : (checker : Option CoreState) (count : ℕ) (lines : List LogLine) (steps free : ℕ) (left : List IllegalStep)
    → Checked checker count lines steps free left → MayBegin lines
begins None count lines steps free left checked = inl checked.empty
begins (Some s) count lines steps free left checked = inr (checked.log, checked.order)

-- what follows the lines before is bad
first_bad : (text before rest : List ℕ) (r : LogReader) (line : ℕ) (fault : LineFault) (h : HasRead before r) → text ≡ h.front ++ rest
    → EndsBadly h.taken.lines rest → IsWhy fault h.taken.lines rest → line ≡ r.lines + 1 → IsBadLine text line fault
first_bad text before rest r line fault h parts bad why one = record {
  first = record {
    front = h.front;
    rest = rest;
    parts = parts;
    texts = h.taken.are.texts;
    lines = h.taken.lines;
    cut = h.taken.are.cut;
    says = h.taken.are.says;
    begins = begins r.progress.checker r.lines h.taken.lines r.progress.steps r.progress.free h.left h.taken.checked;
    place = one ∙ ap (λ k. k + 1) h.taken.are.count_is;
    bad = bad;
  };
  why = why;
}

some_text : (x : List ℕ) (b : ℕ) (rest : List ℕ) → x ++ b ∷ rest ≡ [] → ⊥
some_text [] b rest e = cc
some_text (c ∷ x) b rest e = cc

-- the text from the line that ended on
line_parts : (before rest : List ℕ) (r : LogReader) (h : HasRead before r) → (before ++ 10 ∷ []) ++ rest ≡ h.front ++ (r.line.items ++ 10 ∷ rest)
line_parts before rest r h =
    append_assoc before (10 ∷ []) rest ∙ ap (λ (x : List ℕ). x ++ 10 ∷ rest) h.parts ∙ append_assoc h.front r.line.items (10 ∷ rest)

-- the line ended, and no log goes on with it
line_bad : (before rest : List ℕ) (r : LogReader) (line : ℕ) (fault : LineFault) (h : HasRead before r)
    → ((l : LogLine) → IsLogLineText r.line.items l → ¬ MayBegin (h.taken.lines ++ l ∷ [])) → IsWhy fault h.taken.lines (r.line.items ++ 10 ∷ rest)
    → line ≡ r.lines + 1 → IsBadLine ((before ++ 10 ∷ []) ++ rest) line fault
line_bad before rest r line fault h none why one =
    let t = r.line.items in
    let bad : EndsBadly h.taken.lines (t ++ 10 ∷ rest) = record {
      no_sizes = λ e. absurd (some_text t 10 rest e);
      no_line = λ next more l no_feed e is.
          let same : t ≡ next = (same_first t next rest more h.no_feed no_feed e).0 in
          none l (subst (λ (x : List ℕ). IsLogLineText x l) (sym same) is);
    } in
    first_bad ((before ++ 10 ∷ []) ++ rest) before (t ++ 10 ∷ rest) r line fault h (line_parts before rest r h) bad why one

-- a line that may not come here
why_misplaced : (fault : LineFault) (lines : List LogLine) (l : LogLine) (t rest : List ℕ) → NoFeed t → IsLogLineText t l → IsMisplaced fault lines l
    → IsWhy fault lines (t ++ 10 ∷ rest)
why_misplaced SizesAgain lines l t rest no_feed is misplaced = (t, l, record { more = rest; no_feed = no_feed; parts = refl }, is, misplaced)
why_misplaced StepFirst lines l t rest no_feed is misplaced = (t, l, record { more = rest; no_feed = no_feed; parts = refl }, is, misplaced)
why_misplaced NoSizes lines l t rest no_feed is misplaced = absurd misplaced
why_misplaced NoLineFeed lines l t rest no_feed is misplaced = absurd misplaced
why_misplaced TooLong lines l t rest no_feed is misplaced = absurd misplaced
why_misplaced ByteOrderMark lines l t rest no_feed is misplaced = absurd misplaced
why_misplaced Gzip lines l t rest no_feed is misplaced = absurd misplaced
why_misplaced WideText lines l t rest no_feed is misplaced = absurd misplaced
why_misplaced CarriageReturn lines l t rest no_feed is misplaced = absurd misplaced
why_misplaced NoLine lines l t rest no_feed is misplaced = absurd misplaced

-- a line whose text is that of no line
why_no_line : (lines : List LogLine) (t rest : List ℕ) → NoFeed t → ((l : LogLine) → ¬ IsLogLineText t l) → IsWhy (fault_of t) lines (t ++ 10 ∷ rest)
why_no_line lines t rest no_feed none = by (is_marked t) (begins_as_gzip t) (is_wide t) (is_returned t) refl
  where
    begins : BeginsWith t (t ++ 10 ∷ rest)
    begins = record { more = rest; no_feed = no_feed; parts = refl }

    fault_by : (a b c d : Bool) → LineFault
    fault_by a b c d = if a then ByteOrderMark else if b then Gzip else if c then WideText else if d then CarriageReturn else NoLine

    by : (a b c d : Bool) → fault_by a b c d ≡ fault_of t → IsWhy (fault_by a b c d) lines (t ++ 10 ∷ rest)
    by true b c d is = (t, begins, none, is)
    by false true c d is = (t, begins, none, is)
    by false false true d is = (t, begins, none, is)
    by false false false true is = (t, begins, none, is)
    by false false false false is = (t, begins, none, is)

-- the line has a text of its own, and may not come here
line_misplaced : (before rest : List ℕ) (r : LogReader) (line : ℕ) (fault : LineFault) (l : LogLine) (h : HasRead before r) → IsLogLineText r.line.items l
    → ¬ MayBegin (h.taken.lines ++ l ∷ []) × IsMisplaced fault h.taken.lines l → line ≡ r.lines + 1
    → IsBadLine ((before ++ 10 ∷ []) ++ rest) line fault
line_misplaced before rest r line fault l h is bad one =
    line_bad before rest r line fault h
    (λ other has. subst (λ x. ¬ MayBegin (h.taken.lines ++ x ∷ [])) (same_line r.line.items l other is has) bad.0)
    (why_misplaced fault h.taken.lines l r.line.items rest h.no_feed is bad.1) one

tail_of : (x : ℕ) (xs : List ℕ) → NoFeed (x ∷ xs) → NoFeed xs
tail_of x xs all k d h = all (suc k) d (omega (arith, h))

-- the text before a line feed is no shorter than one without
longer : (long next rest more : List ℕ) → NoFeed long → long ++ rest ≡ next ++ 10 ∷ more → length long ≤ length next
longer [] next rest more no_feed e = omega arith
longer (x ∷ long) [] rest more no_feed e = let head : x ≡ 10 = cc in absurd (no_feed 0 0 (omega arith) head)
longer (x ∷ long) (y ∷ next) rest more no_feed e =
    let tails : long ++ rest ≡ next ++ 10 ∷ more = cc in
    let others = longer long next rest more (tail_of x long no_feed) tails in
    omega (arith, others)

-- the line is too long
pub line_long : (before rest : List ℕ) (r : LogReader) (b line : ℕ) → HasRead before r → b ≢ 10 → 1024 ≤ length r.line.items
    → line ≡ r.lines + 1 → IsBadLine ((before ++ b ∷ []) ++ rest) line TooLong
line_long before rest r b line h other long one =
    let t = r.line.items in
    let parts : (before ++ b ∷ []) ++ rest ≡ h.front ++ ((t ++ b ∷ []) ++ rest) =
    ap (λ (x : List ℕ). (x ++ b ∷ []) ++ rest) h.parts ∙ ap (λ (x : List ℕ). x ++ rest) (append_assoc h.front t (b ∷ []))
    ∙ append_assoc h.front (t ++ b ∷ []) rest in
    let size : length (t ++ b ∷ []) ≡ length t + 1 = length-append t (b ∷ []) in
    let bad : EndsBadly h.taken.lines ((t ++ b ∷ []) ++ rest) = record {
      no_sizes = λ e. absurd (some_text t b rest (sym (append_assoc t (b ∷ []) rest) ∙ e));
      no_line = λ next more l no_feed e is.
          let least = longer (t ++ b ∷ []) next rest more (feed_less t b h.no_feed other) e in
          let most = is.short in
          absurd (omega (arith, least, most, size, long));
    } in
    let why : IsWhy TooLong h.taken.lines ((t ++ b ∷ []) ++ rest) =
    (t ++ b ∷ [], rest, refl, feed_less t b h.no_feed other, omega (arith, size, long)) in
    first_bad ((before ++ b ∷ []) ++ rest) before ((t ++ b ∷ []) ++ rest) r line TooLong h parts bad why one

-- ---- the end of the text

-- the last line has no line feed
cut_off : (t next more : List ℕ) → NoFeed t → t ≡ next ++ 10 ∷ more → ⊥
cut_off [] next more no_feed e = some_text next 10 more (sym e)
cut_off (x ∷ t) [] more no_feed e = let head : x ≡ 10 = cc in no_feed 0 0 (omega arith) head
cut_off (x ∷ t) (y ∷ next) more no_feed e =
    let tails : t ≡ next ++ 10 ∷ more = cc in
    cut_off t next more (tail_of x t no_feed) tails

-- the last line has no line feed
pub ends_cut : (before : List ℕ) (r : LogReader) (line : ℕ) → HasRead before r → r.line.items ≢ [] → line ≡ r.lines + 1
    → IsBadLine before line NoLineFeed
ends_cut before r line h some one =
    let bad : EndsBadly h.taken.lines r.line.items = record {
      no_sizes = λ e. absurd (some e);
      no_line = λ next more l no_feed e is. absurd (cut_off r.line.items next more h.no_feed e);
    } in
    first_bad before before r.line.items r line NoLineFeed h h.parts bad (some, h.no_feed) one

-- all lines are empty or comments
pub ends_unsized : (before : List ℕ) (r : LogReader) (line : ℕ) → HasRead before r → r.line.items ≡ [] → r.progress.checker ≡ None
    → line ≡ r.lines + 1 → IsBadLine before line NoSizes
ends_unsized before r line h empty none one =
    let nothing = (subst (λ c. Checked c r.lines h.taken.lines r.progress.steps r.progress.free h.left) none h.taken.checked).empty in
    let bad : EndsBadly h.taken.lines r.line.items = record {
      no_sizes = λ e. nothing;
      no_line = λ next more l no_feed e is. absurd (cut_off r.line.items next more h.no_feed e);
    } in
    first_bad before before r.line.items r line NoSizes h h.parts bad (empty, nothing) one

-- the text is its whole lines
whole : (before : List ℕ) (r : LogReader) (h : HasRead before r) → r.line.items ≡ [] → h.front ≡ before
whole before r h empty = sym (h.parts ∙ ap (λ (x : List ℕ). h.front ++ x) empty ∙ append-nil h.front)

leads : (before : List ℕ) (r : LogReader) (s : CoreState) (h : HasRead before r) → r.progress.checker ≡ Some s
    → LeadsTo r.lines h.taken.lines s r.progress.steps r.progress.free h.left
leads before r s h some = subst (λ c. Checked c r.lines h.taken.lines r.progress.steps r.progress.free h.left) some h.taken.checked

pub ends_well : (before : List ℕ) (r : LogReader) (s : CoreState) (end : LogEnd) → HasRead before r → r.line.items ≡ []
    → r.progress.checker ≡ Some s → r.left_out.count ≡ 0 → IsEnd (state_shown s) end → IsPromisedLog before r.progress.steps r.progress.free end
ends_well before r s end h empty some none left =
    let to = leads before r s h some in
    let zone = to.log.zone in
    let all : to.made ≡ to.log.run = to.whole (nil_from_length h.left (sym h.left_is.count ∙ none)) in
    let legal = subst (IsLegalRun zone) all to.legal in
    let t = h.taken in
    subst (λ (x : List ℕ). IsPromisedLog x r.progress.steps r.progress.free end) (whole before r h empty) (record {
      log = to.log;
      is = record { texts = t.are.texts; lines = t.lines; cut = t.are.cut; says = t.are.says; in_order = to.order };
      count = to.steps_are;
      free_is = to.free_is ∙ ap (λ (run : Run). free_count zone run) all;
      end_is = subst (λ (x : State). IsEnd x end) (to.state ∙ ap (state_of zone) all) left;
      legal = legal;
      promise = always_keeps zone to.log.run legal;
    })

-- some steps aren't legal
pub ends_left_out : (before : List ℕ) (r : LogReader) (s : CoreState) → HasRead before r → r.line.items ≡ []
    → r.progress.checker ≡ Some s → r.left_out.count ≢ 0
    → (r.is_all ≡ true) × NamesLeftOut before r.progress.steps r.left_out.count r.left_out.first.items
ends_left_out before r s h empty some more = (
  by_mode r.is_all (λ stops. absurd (counted (h.none stops))),
  subst (λ (x : List ℕ). NamesLeftOut x r.progress.steps r.left_out.count r.left_out.first.items) (whole before r h empty) (record {
    log = to.log;
    is = record { texts = t.are.texts; lines = t.lines; cut = t.are.cut; says = t.are.says; in_order = to.order };
    steps_are = to.steps_are;
    left = h.left;
    end = record { lines = r.lines; steps = r.progress.steps; state = state_of to.log.zone to.made };
    leaves = to.leaves;
    count_is = h.left_is.count;
    first_are = h.left_is.first;
    not_legal = λ legal. counted (to.none legal);
  }),
)
  where
    to : LeadsTo r.lines h.taken.lines s r.progress.steps r.progress.free h.left
    to = leads before r s h some

    t : HasTakenLines h.front r.lines r.progress h.left
    t = h.taken

    counted : h.left ≡ [] → ⊥
    counted none = more (h.left_is.count ∙ ap length none)

    by_mode : (b : Bool) → (b ≡ false → ⊥) → b ≡ true
    by_mode true other = refl
    by_mode false other = absurd (other refl)

-- ---- what came of a line

-- the line that ended was taken so, or there is no line that has its text
abbrev pub Judged : LogReader → Progress → Taken → Type 0
Judged r now taken = ((l : LogLine) × IsLogLineText r.line.items l × TakesAfter r.progress l now taken)
    ⊎ ((taken ≡ Bad (fault_of r.line.items)) × ((l : LogLine) → ¬ IsLogLineText r.line.items l))

-- it stays known if the reader is another by name
read_as : (text : List ℕ) (m s : LogReader) (known known_now : Option LogVerdict) → known ≡ known_now → s ≡ m → ReadsOrJudges text m known_now → ReadsOrJudges text s known
read_as text m s known known_now is same reads =
    subst (λ (x : LogReader). ReadsOrJudges text x known) (sym same) (subst (ReadsOrJudges text m) (sym is) reads)

items : (r s : LogReader) → s.line ≡ r.line → s.line.items ≡ r.line.items
items r s e = ap (λ l. l.items) e

pub line_ended : (before : List ℕ) (r m s : LogReader) (taken : Taken) (known : Option LogVerdict) → HasRead before r → Judged r m.progress taken
    → m.line.items ≡ [] → m.lines ≡ r.lines + 1 → m.is_all ≡ r.is_all → m.left_out ≡ r.left_out → s.line ≡ m.line → Concludes taken m s known
    → ReadsOrJudges (before ++ 10 ∷ []) s known
line_ended before r m s GoesOn known h (inl j) empty one all out line concluded =
    read_as (before ++ 10 ∷ []) m s known None concluded.0 concluded.1
    (read_line before r m j.0 h.left h j.1 (j.2 r.lines h.taken.lines h.left h.taken.checked) (subst (AreLeftOut h.left) (sym out) h.left_is)
    (λ stops. h.none (sym all ∙ stops)) empty one)
line_ended before r m s GoesOn known h (inr none) empty one all out line concluded = let wrong = none.0 in cc
line_ended before r m s (NotLegal expected reason) known h (inl j) empty one all out line (inl stops) =
    let illegal = illegal_in m expected reason in
    let ends = (j.2 r.lines h.taken.lines h.left h.taken.checked).0 (h.none (sym all ∙ stops.0)) in
    read_as (before ++ 10 ∷ []) m s known (Some (kinds.NotLegal illegal)) stops.1 stops.2
    (λ rest. (stops.0, line_illegal before rest r j.0 illegal h j.1 ends one))
line_ended before r m s (NotLegal expected reason) known h (inl j) empty one all out line (inr goes) =
    let noted = goes.2 in
    let illegal = illegal_in m expected reason in
    let left = h.left ++ illegal ∷ [] in
    let takes = (j.2 r.lines h.taken.lines h.left h.taken.checked).1 in
    let named : HasChecked m.progress (r.lines + 1) (h.taken.lines ++ j.0 ∷ []) left =
    subst (λ n. HasChecked m.progress (r.lines + 1) (h.taken.lines ++ j.0 ∷ [])
    (h.left ++ record { line = n; step = m.progress.steps; expected = expected; reason = reason } ∷ [])) (sym one) takes in
    let checked : HasChecked s.progress (r.lines + 1) (h.taken.lines ++ j.0 ∷ []) left =
    subst (λ (p : Progress). HasChecked p (r.lines + 1) (h.taken.lines ++ j.0 ∷ []) left) (sym noted.progress) named in
    subst (ReadsOrJudges (before ++ 10 ∷ []) s) (sym goes.1)
    (read_line before r s j.0 left h j.1 checked (noted.noted h.left (subst (AreLeftOut h.left) (sym out) h.left_is))
    (λ stops. absurd (false≢true (sym stops ∙ noted.is_all ∙ goes.0)))
    (items m s line ∙ empty) (noted.lines ∙ one))
line_ended before r m s (NotLegal expected reason) known h (inr none) empty one all out line concluded = let wrong = none.0 in cc
line_ended before r m s (Bad fault) known h (inl j) empty one all out line concluded =
    let takes = j.2 r.lines h.taken.lines h.left h.taken.checked in
    read_as (before ++ 10 ∷ []) m s known (Some (kinds.BadLine m.lines fault)) concluded.0 concluded.1
    (λ rest. line_misplaced before rest r m.lines fault j.0 h j.1 takes one)
line_ended before r m s (Bad fault) known h (inr none) empty one all out line concluded =
    let t = r.line.items in
    let same : fault ≡ fault_of t = let e = none.0 in cc in
    read_as (before ++ 10 ∷ []) m s known (Some (kinds.BadLine m.lines fault)) concluded.0 concluded.1
    (λ rest. subst (λ (f : LineFault). IsBadLine ((before ++ 10 ∷ []) ++ rest) m.lines f) (sym same)
    (line_bad before rest r m.lines (fault_of t) h (λ l has. absurd (none.1 l has))
    (why_no_line h.taken.lines t rest h.no_feed none.1) one))

-- it is known before the bytes end
pub stops : (before bytes : List ℕ) (i d : ℕ) (r : LogReader) (end : Option LogVerdict) → i < length bytes → is_some end ≡ true
    → ReadsOrJudges ((before ++ take i bytes) ++ get_or bytes i d ∷ []) r end → ReadsOrJudges (before ++ bytes) r end
stops before bytes i d r None h some reads = absurd (false≢true some)
stops before bytes i d r (Some end) h some reads = λ rest.
    let more : take (i + 1) bytes ≡ take i bytes ++ get_or bytes i d ∷ [] = take_more bytes i d h in
    let all : take (i + 1) bytes ++ drop (i + 1) bytes ≡ bytes = take-append-drop (i + 1) bytes in
    let here : (before ++ take i bytes) ++ get_or bytes i d ∷ [] ≡ before ++ take (i + 1) bytes =
    append_assoc before (take i bytes) (get_or bytes i d ∷ []) ∙ ap (λ (x : List ℕ). before ++ x) (sym more) in
    let whole : ((before ++ take i bytes) ++ get_or bytes i d ∷ []) ++ (drop (i + 1) bytes ++ rest) ≡ (before ++ bytes) ++ rest =
    ap (λ (x : List ℕ). x ++ (drop (i + 1) bytes ++ rest)) here
    ∙ sym (append_assoc (before ++ take (i + 1) bytes) (drop (i + 1) bytes) rest)
    ∙ ap (λ (x : List ℕ). x ++ rest) (append_assoc before (take (i + 1) bytes) (drop (i + 1) bytes) ∙ ap (λ (x : List ℕ). before ++ x) all) in
    subst (λ (x : List ℕ). IsLogVerdict r.is_all x end) whole (reads (drop (i + 1) bytes ++ rest))
