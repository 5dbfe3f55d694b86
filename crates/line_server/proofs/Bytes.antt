-- What is read of a line, byte by byte.
use Rattle.std.proofs.Common.{◌≡◌, ◌≢◌, ◌∙◌, ℕ, zero, suc, ◌+◌, ◌≤◌, List, [], ◌∷◌, ◌++◌, Option, None, Some, Result, Ok, Err, IfOk, IfSome, OnOk, All, ap, arith, append-nil, cond, length, ne_eqb, refl, subst, sym}
use Rattle.std.proofs.lemmas.List.{length-append}
use Rattle.std.proofs.lemmas.List.Elements.{All-append, All-head, All-tail}
use Rattle.std.proofs.BufReadLemmas.{drop_through-append}
use Rattle.std.proofs.KnownBytes.{Consumes-trans}
use Rattle.std.specs.Io.BufRead.{DropsThrough, drop_through}
use Rattle.std.specs.Io.KnownBytes.{Consumes, IsAtEnd}
use Rattle.line_server.specs.declared.reading.Found.{Found}
use Rattle.line_server.specs.declared.reading.Found.TheVariants.{Line, TooLong, End}
use Rattle.line_server.specs.Streams.{EndsLine, IsFound, first_text}

abbrev pub NoFeed : List ℕ → Type 0
NoFeed = All (λ b. b ≢ 10)

-- ---- one byte

-- ---- bytes without a line feed

no_feed_one : (b : ℕ) → b ≢ 10 → NoFeed (b ∷ [])
no_feed_one b other zero d h = other
no_feed_one b other (suc k) d h = absurd (omega (arith, h))

-- the text goes on after bytes without a line feed
pub text_append : (xs ys : List ℕ) → NoFeed xs → first_text (xs ++ ys) ≡ xs ++ first_text ys
text_append [] ys none = refl
text_append (x ∷ xs) ys none =
    ap (λ b. cond b [] (x ∷ first_text (xs ++ ys))) (ne_eqb x 10 (All-head (λ y. y ≢ 10) x xs none))
    ∙ ap (λ (l : List ℕ). x ∷ l) (text_append xs ys (All-tail (λ y. y ≢ 10) x xs none))

-- so many bytes of the input were read, and none of them is a line feed
pub record HasRead (input left : Option (List ℕ)) (bytes : List ℕ) : Type 0 where
  pub read : Consumes input left bytes
  pub no_feed : NoFeed bytes

pub read_more : (input left after : Option (List ℕ)) (bytes new : List ℕ) (b : ℕ) → HasRead input left bytes → Consumes left after (b ∷ [])
    → b ≢ 10 → new ≡ bytes ++ b ∷ [] → HasRead input after new
read_more input left after bytes new b has read other is = subst (HasRead input after) (sym is) (record {
  read = Consumes-trans input left after bytes (b ∷ []) has.read read;
  no_feed = All-append (λ (x : ℕ). x ≢ 10) bytes (b ∷ []) has.no_feed (no_feed_one b other);
})

-- ---- what is dropped

pub drops_after : (input left after : Option (List ℕ)) (bytes : List ℕ) → HasRead input left bytes → DropsThrough left after 10 → DropsThrough input after 10
drops_after None left after bytes has drops = tt
drops_after (Some x) None after bytes has drops = absurd has.read
drops_after (Some x) (Some y) after bytes has drops =
    drops ∙ ap Some (sym (ap (drop_through 10) has.read ∙ drop_through-append 10 bytes y has.no_feed))

pub drops_feed : (left after : Option (List ℕ)) → Consumes left after (10 ∷ []) → DropsThrough left after 10
drops_feed None after read = tt
drops_feed (Some y) None read = absurd read
drops_feed (Some y) (Some z) read = ap Some (sym (ap (drop_through 10) read))

pub drops_end : (left after : Option (List ℕ)) → Consumes left after [] → IsAtEnd left → DropsThrough left after 10
drops_end None after read end = tt
drops_end (Some y) None read end = absurd read
drops_end (Some y) (Some z) read end = ap Some (sym read ∙ end ∙ sym (ap (drop_through 10) end))

-- ---- what is left of a line

pub text_end : (left : Option (List ℕ)) → IsAtEnd left → IfSome left (λ bytes. first_text bytes ≡ [])
text_end None end = tt
text_end (Some y) end = ap first_text end

-- ---- what is found

pub found_line : (input left : Option (List ℕ)) (bytes : List ℕ) → HasRead input left bytes → length bytes ≤ 1024
    → IfSome left (λ rest. (first_text rest ≡ []) × (1 ≤ length bytes + length rest)) → IfSome input (λ all. IsFound all Line bytes)
found_line None left bytes has short ends = tt
found_line (Some x) None bytes has short ends = absurd has.read
found_line (Some x) (Some y) bytes has short ends =
    let text : first_text x ≡ bytes =
    ap first_text has.read ∙ text_append bytes y has.no_feed ∙ ap (λ (l : List ℕ). bytes ++ l) ends.0 ∙ append-nil bytes in
    let long = ap length has.read ∙ length-append bytes y in
    let some = ends.1 in
    (omega (arith, long, some), sym text, short)

pub found_long : (input left : Option (List ℕ)) (bytes : List ℕ) → HasRead input left bytes → length bytes ≡ 1024
    → IfSome left (λ rest. 1 ≤ length (first_text rest)) → (text : List ℕ) → text ≡ [] → IfSome input (λ all. IsFound all TooLong text)
found_long None left bytes has long more text none = tt
found_long (Some x) None bytes has long more text none = absurd has.read
found_long (Some x) (Some y) bytes has long more text none =
    let all : first_text x ≡ bytes ++ first_text y = ap first_text has.read ∙ text_append bytes y has.no_feed in
    let size = ap length all ∙ length-append bytes (first_text y) in
    (omega (arith, size, long, more), none)

-- the line ends with this line feed
pub ends_feed : (left after : Option (List ℕ)) (bytes : List ℕ) → Consumes left after (10 ∷ [])
    → IfSome left (λ rest. (first_text rest ≡ []) × (1 ≤ length bytes + length rest))
ends_feed None after bytes read = tt
ends_feed (Some y) None bytes read = absurd read
ends_feed (Some y) (Some z) bytes read = let long = ap length read in (ap first_text read, omega (arith, long))

-- the line has bytes, and nothing of its text follows
pub ends_some : (left : Option (List ℕ)) (bytes : List ℕ) → 1 ≤ length bytes → IfSome left (λ rest. first_text rest ≡ [])
    → IfSome left (λ rest. (first_text rest ≡ []) × (1 ≤ length bytes + length rest))
ends_some None bytes some ends = tt
ends_some (Some y) bytes some ends = (ends, omega (arith, some))

-- the line ended after its first 1,024 bytes
pub line_ended : (input left after : Option (List ℕ)) (bytes new : List ℕ) (found : Found) → HasRead input left bytes → length bytes ≡ 1024
    → EndsLine left after found bytes new
    → IfSome input (λ all. IsFound all found new) × DropsThrough input after 10 × (length new ≤ 1024)
line_ended input left after bytes new Line has long ends =
    let short : length bytes ≤ 1024 = omega (arith, long) in
    let some : 1 ≤ length bytes = omega (arith, long) in (
      subst (λ (l : List ℕ). IfSome input (λ all. IsFound all Line l)) (sym ends.0) (found_line input left bytes has short (ends_some left bytes some ends.1)),
      drops_after input left after bytes has ends.2,
      subst (λ (l : List ℕ). length l ≤ 1024) (sym ends.0) short,
    )
line_ended input left after bytes new TooLong has long ends = (
  found_long input left bytes has long ends.1 new ends.0,
  drops_after input left after bytes has ends.2,
  subst (λ (l : List ℕ). length l ≤ 1024) (sym ends.0) (omega arith),
)
line_ended input left after bytes new End has long ends = absurd ends

-- and what was read is what was found
pub all_ended : {E : Type 0} (r : Result Found E) (input left after : Option (List ℕ)) (bytes new : List ℕ) → HasRead input left bytes
    → length bytes ≡ 1024 → IfOk r (λ found. EndsLine left after found bytes new)
    → IfOk r (λ found. IfSome input (λ all. IsFound all found new)) × OnOk r (DropsThrough input after 10) × OnOk r (length new ≤ 1024)
all_ended (Ok found) input left after bytes new has long ends = line_ended input left after bytes new found has long ends
all_ended (Err e) input left after bytes new has long ends = (tt, tt, tt)
