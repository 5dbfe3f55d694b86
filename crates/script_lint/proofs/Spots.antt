-- Where a line goes wrong, from where its text can't be continued.
use Rattle.std.proofs.Common.{◌≡◌, ◌∙◌, ℕ, ◌<◌, ◌≤◌, ◌++◌, List, length, Bool, true, false, Option, None, Some, MatchOption, nat_lt, not, ◌==◌, drop, take, ap, arith, refl, subst, sym}
use Rattle.std.specs.Prelude.{if◌then◌else◌, ⊤}
use Rattle.std.proofs.lemmas.Bool.{ltb-false, ltb-true}
use Rattle.std.proofs.lemmas.List.{append_assoc, length-take-le, take-append-drop, take-take}
use Rattle.zone_blocks.specs.declared.config.Config.{Config}
use Rattle.script_lint.specs.{byte_at, cause_at, is_between_words, is_double_space, is_printable, is_number_out_of_range, is_unknown_command}
use Rattle.script_lint.specs.{is_no_cpu, later_cause_at, is_frame_out_of_zone, is_group_out_of_range, is_cpu_out_of_range, is_late_comment}
use Rattle.script_lint.specs.{is_byte_order_mark, is_gzip, is_wide_text, GoesOn, IsCause, IsGoodHere, IsGoodText, IsSpot, IsStuck, spot_past_limit}
use Rattle.script_lint.specs.{stuck_spot, whole_spot}
use Rattle.script_lint.specs.declared.finding.Cause.{Cause}
use Rattle.script_lint.specs.declared.finding.Cause.TheVariants.{ByteOrderMark, WideText, Gzip, LateComment, NoCpu, CpuOutOfRange, UnknownCommand, TooFewWords}
use Rattle.script_lint.specs.declared.finding.Cause.TheVariants.{TooManyWords, TwoSpaces, SpaceAtEnd, Tab, CarriageReturn}
use Rattle.script_lint.specs.declared.finding.Cause.TheVariants.{NumberOutOfRange, FrameOutOfZone, GroupOutOfRange, UnprintableByte}
use Rattle.script_lint.specs.declared.finding.Cause.TheVariants.{InputTooLong, LineTooLong, SecondGo}
use Rattle.script_lint.specs.declared.finding.Spot.{Spot}

-- what goes on after more of a text goes on after less of it
goes_on_sooner : (Form : List ℕ → Type 0) (text : List ℕ) (m n : ℕ) → m ≤ n → GoesOn Form (take n text) → GoesOn Form (take m text)
goes_on_sooner Form text m n le on =
    let front : take m (take n text) ≡ take m text = take-take m n text le in
    let whole : take m text ++ drop m (take n text) ≡ take n text = rw (← front) (take-append-drop m (take n text)) in
    let same : take m text ++ (drop m (take n text) ++ on.0) ≡ take n text ++ on.0
    = sym (append_assoc (take m text) (drop m (take n text)) on.0) ∙ ap (λ (t : List ℕ). t ++ on.0) whole in
    (drop m (take n text) ++ on.0, subst Form (sym same) on.1)

-- every beginning of a text of the form goes on
good_goes_on : (Form : List ℕ → Type 0) (text : List ℕ) (n : ℕ) → Form text → GoesOn Form (take n text)
good_goes_on Form text n good = (drop n text, subst Form (sym (take-append-drop n text)) good)

-- a cause that isn't a length
abbrev IsLocal : Cause → Type 0
IsLocal LineTooLong = ⊥
IsLocal InputTooLong = ⊥
IsLocal cause = ⊤

later_of : (a b c d e f g : Bool)
    → IsLocal (if a then SpaceAtEnd else if b then Tab else if c then CarriageReturn else if d then NumberOutOfRange
    else if e then FrameOutOfZone else if f then GroupOutOfRange else if g then UnprintableByte else SecondGo)
later_of true b c d e f g = tt
later_of false true c d e f g = tt
later_of false false true d e f g = tt
later_of false false false true e f g = tt
later_of false false false false true f g = tt
later_of false false false false false true g = tt
later_of false false false false false false true = tt
later_of false false false false false false false = tt

later_local : (text : List ℕ) (place : ℕ) → IsLocal (later_cause_at text place)
later_local text place =
    later_of (byte_at text place == 32) (byte_at text place == 9) (byte_at text place == 13) (is_number_out_of_range text place)
    (is_frame_out_of_zone text place) (is_group_out_of_range text place) (not (is_printable (byte_at text place)))

first_of : (w x y z a b c d e f : Bool) (later : Cause) → IsLocal later
    → IsLocal (if w then ByteOrderMark else if x then WideText else if y then Gzip else if z then LateComment else if a then NoCpu
    else if b then CpuOutOfRange else if c then UnknownCommand else if d then TooFewWords else if e then TooManyWords else if f then TwoSpaces
    else later)
first_of true x y z a b c d e f later is = tt
first_of false true y z a b c d e f later is = tt
first_of false false true z a b c d e f later is = tt
first_of false false false true a b c d e f later is = tt
first_of false false false false true b c d e f later is = tt
first_of false false false false false true c d e f later is = tt
first_of false false false false false false true d e f later is = tt
first_of false false false false false false false true e f later is = tt
first_of false false false false false false false false true f later is = tt
first_of false false false false false false false false false true later is = tt
first_of false false false false false false false false false false later is = is

cause_local : (text : List ℕ) (place : ℕ) → IsLocal (cause_at text place)
cause_local text place =
    first_of (is_byte_order_mark text place) (is_wide_text text place) (is_gzip text place) (is_late_comment text place) (is_no_cpu text place)
    (is_cpu_out_of_range text place) (is_unknown_command text place) (byte_at text place == 10)
    (is_between_words text place) (is_double_space text place) (later_cause_at text place) (later_local text place)

is_cause : (sizes : Config) (had_go : Bool) (text : List ℕ) (place : ℕ) (cause : Cause) → IsLocal cause
    → IsStuck (IsGoodText sizes had_go) text place → cause ≡ cause_at text place → IsCause sizes had_go ⊤ text place cause
is_cause sizes had_go text place LineTooLong local is e = absurd local
is_cause sizes had_go text place InputTooLong local is e = absurd local
is_cause sizes had_go text place cause local is e = (tt, is, e)

-- ---- the text by itself

-- the line is too long, if a good text goes on with one byte too many
too_long : (sizes : Config) (had_go : Bool) (text : List ℕ) → 1024 < length text
    → GoesOn (IsGoodText sizes had_go) (take 1025 text) → IsSpot sizes had_go ⊤ text (record { place = 1024; cause = LineTooLong })
too_long sizes had_go text long on =
    let most = length-take-le 1024 text (omega arith) in
    let more = length-take-le 1025 text (omega arith) in
    record {
      inside = omega arith;
      goes_on = record { short = omega arith; on = goes_on_sooner (IsGoodText sizes had_go) text 1024 1025 (omega arith) on };
      stuck = λ h here. let short = here.short in omega arith;
      bad = λ good. let short = good.short in omega arith;
      cause = (tt, refl, long, on);
    }

stuck_by : (sizes : Config) (had_go : Bool) (text : List ℕ) (place : ℕ) → IsStuck (IsGoodText sizes had_go) text place
    → (b : Bool) → nat_lt 1024 place ≡ b
    → IsSpot sizes had_go ⊤ text (if b then record { place = 1024; cause = LineTooLong } else record { place = place; cause = cause_at text place })
stuck_by sizes had_go text place is true e =
    let past = ltb-true 1024 place e in
    let inside = is.inside in
    too_long sizes had_go text (omega arith) (goes_on_sooner (IsGoodText sizes had_go) text 1025 place (omega arith) is.goes_on)
stuck_by sizes had_go text place is false e =
    let near = ltb-false 1024 place e in
    let taken = length-take-le place text is.inside in
    record {
      inside = is.inside;
      goes_on = record { short = omega arith; on = is.goes_on };
      stuck = λ h here. is.stuck h here.on;
      bad = λ good. is.bad good.good;
      cause = is_cause sizes had_go text place (cause_at text place) (cause_local text place) is refl;
    }

-- a text that, however long, is stuck at some place
pub stuck_is : (sizes : Config) (had_go : Bool) (text : List ℕ) (place : ℕ) → IsStuck (IsGoodText sizes had_go) text place
    → IsSpot sizes had_go ⊤ text (stuck_spot text place)
stuck_is sizes had_go text place is = stuck_by sizes had_go text place is (nat_lt 1024 place) refl

-- what is known of the spot of a line, or of a line without one
abbrev pub IsJudged : Config → Bool → Type 0 → List ℕ → Option Spot → Type 0
IsJudged sizes had_go Within text found = MatchOption found (IsGoodHere sizes had_go Within text) (λ spot. IsSpot sizes had_go Within text spot)

whole_by : (sizes : Config) (had_go : Bool) (text : List ℕ) → IsGoodText sizes had_go text → (b : Bool) → nat_lt 1024 (length text) ≡ b
    → IsJudged sizes had_go ⊤ text (if b then Some (record { place = 1024; cause = LineTooLong }) else None)
whole_by sizes had_go text good true e =
    too_long sizes had_go text (ltb-true 1024 (length text) e) (good_goes_on (IsGoodText sizes had_go) text 1025 good)
whole_by sizes had_go text good false e = let short = ltb-false 1024 (length text) e in record { good = good; short = short; within = tt }

-- a text that, however long, is good
pub whole_is : (sizes : Config) (had_go : Bool) (text : List ℕ) → IsGoodText sizes had_go text → IsJudged sizes had_go ⊤ text (whole_spot text)
whole_is sizes had_go text good = whole_by sizes had_go text good (nat_lt 1024 (length text)) refl

-- ---- the line in its script

cause_to : (sizes : Config) (had_go : Bool) (A B : Type 0) → (A → B) → (B → A) → (text : List ℕ) (place : ℕ) (cause : Cause)
    → IsCause sizes had_go A text place cause → IsCause sizes had_go B text place cause
cause_to sizes had_go A B to back text place InputTooLong is = λ b. is (back b)
cause_to sizes had_go A B to back text place LineTooLong is = (to is.0, is.1, is.2, is.3)
cause_to sizes had_go A B to back text place cause is = (to is.0, is.1, is.2)

-- whether the line is within the script may be said in other words
pub spot_to : (sizes : Config) (had_go : Bool) (A B : Type 0) → (A → B) → (B → A) → (text : List ℕ) (spot : Spot)
    → IsSpot sizes had_go A text spot → IsSpot sizes had_go B text spot
spot_to sizes had_go A B to back text spot is = record {
  inside = is.inside;
  goes_on = is.goes_on;
  stuck = is.stuck;
  bad = λ good. is.bad (record { good = good.good; short = good.short; within = back good.within });
  cause = cause_to sizes had_go A B to back text spot.place spot.cause is.cause;
}

-- a line within the script goes wrong as its text does by itself
pub within_is : (sizes : Config) (had_go : Bool) (text : List ℕ) (is_within : Bool) → is_within ≡ true → (alone : Option Spot)
    → IsJudged sizes had_go ⊤ text alone → IsJudged sizes had_go (is_within ≡ true) text alone
within_is sizes had_go text is_within is None good = record { good = good.good; short = good.short; within = is }
within_is sizes had_go text is_within is (Some spot) found = spot_to sizes had_go ⊤ (is_within ≡ true) (λ t. is) (λ e. tt) text spot found

-- a line past the limit goes wrong there or at its end
pub past_is : (sizes : Config) (had_go : Bool) (text : List ℕ) (is_within : Bool) → is_within ≡ false → (alone : Option Spot)
    → IsJudged sizes had_go ⊤ text alone → IsSpot sizes had_go (is_within ≡ true) text (spot_past_limit text alone)
past_is sizes had_go text is_within isnt None good =
    let short = good.short in
    let taken = length-take-le (length text) text (omega arith) in
    record {
      inside = omega arith;
      goes_on = record { short = omega arith; on = good_goes_on (IsGoodText sizes had_go) text (length text) good.good };
      stuck = λ h. absurd (omega arith);
      bad = λ here. let within = here.within in cc;
      cause = λ within. cc;
    }
past_is sizes had_go text is_within isnt (Some spot) found = record {
  inside = found.inside;
  goes_on = found.goes_on;
  stuck = found.stuck;
  bad = λ here. let within = here.within in cc;
  cause = λ within. cc;
}
