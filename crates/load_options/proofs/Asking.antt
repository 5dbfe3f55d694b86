-- From what clap promises of a parse to the options that the words ask for.
use Rattle.std.proofs.Common.{◌≡◌, ◌∙◌, ◌<◌, ◌≤◌, ◌^◌, ℕ, Bool, true, false, cond, List, [], ◌∷◌, Option, Some, None, Result, Ok, Err, IfOk}
use Rattle.std.proofs.Common.{MatchResult, arith, refl, ap, sym, subst}
use Rattle.std.specs.Prelude.{IsSome, OnOk, codes, nat_lt, option_and_then, unwrap_or, ◌||◌}
use Rattle.std.specs.Option.{option_map_or}
use Rattle.std.specs.Result.{IsErrAnd}
use Rattle.std.specs.Str.{bytes_eq}
use Rattle.std.specs.Str.Parse.{ParsesBool, ParsesUnsigned, digits_value, without_leading_plus}
use Rattle.std.proofs.lemmas.Bool.{ltb-false, ltb-true}
use Rattle.std.proofs.lemmas.Slice.Eq.{bytes_eq-Decides}
use Rattle.clap.specs.Kinds.{IsAmong, Kinds}
use Rattle.clap.specs.Words.{ReadsOne, Row, fault_of, one_text, rows_of, subcommand_of}
use Rattle.clap.specs.Values.{IsUnsignedIn}
use Rattle.clap.specs.ValueTests.{is_unsigned_in}
use Rattle.clap.specs.declared.builder.value_parser.ValueParser.TheVariants.{Unsigned}
use Rattle.clap.specs.declared.error.kind.ErrorKind.{ErrorKind}
use Rattle.clap.specs.declared.parser.matches.Found.{Found}
use Rattle.clap.proofs.WalkLemmas.{one_text-rows}
use Rattle.clap.proofs.ValueTestLemmas.{Accepts-accepts, accepts-Accepts}
use Rattle.load_options.specs.declared.task.Options.{Options}
use Rattle.load_options.specs.declared.task.Task.TheVariants.{Version}
use Rattle.load_options.specs.declared.fault.WordsFault.{WordsFault}
use Rattle.load_options.specs.declared.fault.WordsFault.TheVariants.{BadWords, NoMemory}
use Rattle.load_options.specs.Fault.{IsNoMemory}
use Rattle.load_options.specs.Words.{GivesOptions, if_none, number_in, number_kept, asks_version, bare_options}
use Rattle.load_options.specs.Words.{options_of, options_under, parsed_options, program, size_in}

-- ---- values

no_number : (most : ℕ) (t : List ℕ) → (IsUnsignedIn 1 most t → ⊥) → number_in most t ≡ None
no_number most t refused = go (is_unsigned_in 1 most t) refl
  where
    go : (b : Bool) → is_unsigned_in 1 most t ≡ b → cond b (Some (digits_value 10 (without_leading_plus t))) None ≡ None
    go true e = absurd (refused (accepts-Accepts false (Unsigned 1 most) t e))
    go false e = refl

is_number : (E : Type 0) (most n : ℕ) (t : List ℕ) → ParsesUnsigned {E = E} 32 10 t (Ok n) → 1 ≤ n → n ≤ most → number_in most t ≡ Some n
is_number E most n t parsed low high =
    let v = digits_value 10 (without_leading_plus t) in
    let is : n ≡ v = parsed.1 in
    let small : v < 2 ^ 64 = omega (arith, parsed.0.1) in
    let passes : is_unsigned_in 1 most t ≡ true =
    Accepts-accepts false (Unsigned 1 most) t (parsed.0.0, small, omega (arith, is, low), omega (arith, is, high)) in
    ap (λ (b : Bool). cond b (Some v) None) passes ∙ ap (λ (k : ℕ). Some k) (sym is)

one_number : (E : Type 0) (most n : ℕ) (t : List ℕ) → ParsesUnsigned {E = E} 32 10 t (Ok n) → number_in most t ≡ number_kept most n
one_number E most n t parsed = go (nat_lt n 1) (nat_lt most n) refl refl
  where
    is : n ≡ digits_value 10 (without_leading_plus t)
    is = parsed.1

    go : (a b : Bool) → nat_lt n 1 ≡ a → nat_lt most n ≡ b → number_in most t ≡ cond (a || b) None (Some n)
    go true b low high = no_number most t (λ h. omega (arith, is, h.2, ltb-true n 1 low))
    go false true low high = no_number most t (λ h. omega (arith, is, h.3, ltb-true most n high))
    go false false low high = is_number E most n t parsed (omega (arith, ltb-false n 1 low)) (ltb-false most n high)

-- a size, by what clap reads of its option
pub size_read : (E : Type 0) (G : List ℕ → Result ℕ E → Type 0) → ((u : List ℕ) (x : Result ℕ E) → G u x → ParsesUnsigned 32 10 u x)
    → (most : ℕ) → most < 2 ^ 32 → (text : Option (List ℕ)) (r : Option ℕ) → (text ≡ None → r ≡ None) → ((t : List ℕ) → text ≡ Some t → ReadsOne G t r)
    → option_and_then (number_in most) text ≡ option_and_then (number_kept most) r
size_read E G parses most fits None r none value = sym (ap (option_and_then (number_kept most)) (none refl))
size_read E G parses most fits (Some t) (Some n) none value = one_number E most n t (parses t (Ok n) (value t refl))
size_read E G parses most fits (Some t) None none value =
    let failed = value t refl in
    no_number most t (λ h. parses t (Err failed.0) failed.1 (h.0, omega (arith, fits, h.3)))

-- so by its row
pub read_as_row : (E : Type 0) (G : List ℕ → Result ℕ E → Type 0) → ((u : List ℕ) (x : Result ℕ E) → G u x → ParsesUnsigned 32 10 u x)
    → (most : ℕ) → most < 2 ^ 32 → (found : Found) (name : List ℕ) (r : Option ℕ) → (one_text found name ≡ None → r ≡ None)
    → ((t : List ℕ) → one_text found name ≡ Some t → ReadsOne G t r) → size_in name most (rows_of found) ≡ option_and_then (number_kept most) r
read_as_row E G parses most fits found name r none value =
    ap (option_and_then (number_in most)) (sym (one_text-rows found name)) ∙ size_read E G parses most fits (one_text found name) r none value

-- an option without a value, by what clap reads of it
pub given_read : (E : Type 0) (text : Option (List ℕ)) (r : Option Bool) → (text ≡ None → r ≡ None)
    → ((t : List ℕ) → text ≡ Some t → ReadsOne {T = Bool} {E = E} ParsesBool t r)
    → unwrap_or r false ≡ option_map_or (λ t. bytes_eq t (codes "true")) text false
given_read E None r none value = ap (λ o. unwrap_or o false) (none refl)
given_read E (Some t) (Some true) none value = sym ((bytes_eq-Decides t (codes "true")).1 (value t refl))
given_read E (Some t) (Some false) none value = sym (ap (λ (u : List ℕ). bytes_eq u (codes "true")) (value t refl))
given_read E (Some t) None none value = go (bytes_eq t (codes "true")) refl
  where
    go : (b : Bool) → bytes_eq t (codes "true") ≡ b → false ≡ b
    go true e = absurd ((value t refl).1.0 ((bytes_eq-Decides t (codes "true")).0 e))
    go false e = refl

-- ---- all the words

-- they ask for the version, and for nothing else
pub asked_version : (words : List (List ℕ)) → asks_version words ≡ true → options_of words ≡ Some (bare_options Version)
unfolding options_of
asked_version words version = ap (λ (b : Bool). cond b (Some (bare_options Version)) (parsed_options words)) version

-- or for what a parse finds
pub asked_parsed : (words : List (List ℕ)) → asks_version words ≡ false → options_of words ≡ parsed_options words
unfolding options_of
asked_parsed words other = ap (λ (b : Bool). cond b (Some (bare_options Version)) (parsed_options words)) other

-- the options are those that clap found, if it found no fault
pub asked_found : (words : List (List ℕ)) → fault_of program words ≡ []
    → parsed_options words ≡ option_and_then (λ (p : List ℕ × List Row). options_under p.0 p.1) (subcommand_of program words)
asked_found words none =
    ap (λ (kinds : Kinds). if_none kinds (option_and_then (λ (p : List ℕ × List Row). options_under p.0 p.1) (subcommand_of program words))) none

-- and there are none if it found one
pub asked_nothing : (words : List (List ℕ)) (kind : ErrorKind) → IsAmong kind (fault_of program words) → parsed_options words ≡ None
asked_nothing words kind among = go (fault_of program words) among
  where
    go : (kinds : Kinds) → IsAmong kind kinds
        → if_none kinds (option_and_then (λ (p : List ℕ × List Row). options_under p.0 p.1) (subcommand_of program words)) ≡ None
    go [] none = absurd none
    go (k ∷ rest) some = refl

-- a fault is what such words are answered
pub answers_fault : (asked : Option Options) (fault : WordsFault) → asked ≡ None → GivesOptions asked (Err fault)
answers_fault asked (BadWords text) none = none
answers_fault asked (NoMemory e) none = tt

-- that memory ran out is an answer to all words
pub answers_memory : (asked : Option Options) (fault : WordsFault) → IsNoMemory fault → GivesOptions asked (Err fault)
answers_memory asked (BadWords text) memory = absurd memory
answers_memory asked (NoMemory e) memory = tt

-- there are such options, whatever comes after
pub asked_some : {T E : Type 0} (asked : Option Options) (o : Options) (r : Result T E) → asked ≡ Some o → OnOk r (IsSome asked)
asked_some asked o (Ok x) is = subst IsSome (sym is) refl
asked_some asked o (Err e) is = tt

-- ---- errors

-- what holds of a value still holds if one error replaces another
pub kept : {T D E : Type 0} (r : Result T E) (s : Result T D) (P : T → Type 0) (Q : E → D → Type 0)
    → MatchResult r (λ x. s ≡ Ok x) (λ e. IsErrAnd s (Q e)) → IfOk r P → IfOk s P
kept (Ok x) s P Q cases is = subst (λ t. IfOk t P) (sym cases) is
kept (Err e) (Ok y) P Q cases is = absurd cases
kept (Err e) (Err d) P Q cases is = tt
