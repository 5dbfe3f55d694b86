-- A good line that begins with a text can be had by one of few ends.
use Rattle.std.proofs.Common.{◌≡◌, ◌⊎◌, inl, inr, ℕ, zero, suc, ◌+◌, ◌<◌, ◌≤◌, List, [], ◌∷◌, ◌++◌, All, length, take, drop, arith, refl, sym, ap, ap₂, subst, ◌∙◌}
use Rattle.std.proofs.Common.{◌↔◌, Bool, Bor, IfOk, IsTrue, Result, Ok, Err, true, false, codes, get_or, eqb, map, ◌≢◌}
use Rattle.std.proofs.Math.Seq.{take-append_seam}
use Rattle.std.proofs.lemmas.Bool.{cases_lt, eqb-true}
use Rattle.std.proofs.lemmas.Int.Digits.{digits_push, digits_value_push}
use Rattle.std.proofs.lemmas.List.{append_assoc, append-nil, get_or_append_left, length-append}
use Rattle.std.proofs.lemmas.List.Elements.{All-push}
use Rattle.std.proofs.lemmas.Str.Parse.{digits_value-take-le}
use Rattle.std.specs.Cmp.Lexicographic.{same_text}
use Rattle.std.specs.Str.Parse.{AllDigits, digits_value}
use Rattle.zone_blocks.specs.declared.config.Config.{Config}
use Rattle.script_lines.specs.Script.{IsCommandText, IsCut, IsLineText, IsPathText, WritesNumber, is_go, is_skipped}
use Rattle.script_lines.specs.Verb.{Alone, Arguments, Frame, Group, Path, PathFile, PathFileValue, PathOrder}
use Rattle.script_lines.specs.Verb.{all_verbs, IsArguments, IsNameWith, form_of_verb, its_verb, name_of_verb, words_of_command}
use Rattle.script_lines.specs.declared.line.Command.{Command}
use Rattle.script_lines.specs.declared.line.Line.{Line}
use Rattle.script_lines.specs.declared.line.Line.TheVariants.{At, Go}
use Rattle.script_lines.specs.declared.line.Command.TheVariants as command
use Rattle.script_lines.specs.declared.verb.ArgumentForm.{ArgumentForm}
use Rattle.script_lines.specs.declared.verb.ArgumentForm.TheVariants as form
use Rattle.script_lines.specs.declared.verb.Verb.{Verb}
use Rattle.script_lines.specs.declared.verb.Verb.TheVariants.{Mkdir}
use Rattle.script_lines.proofs.Cuts.{cut_once, digits_no_space, no_cut}
use Rattle.script_lines.proofs.Forms.{form_of, its_form, made}
use Rattle.script_lines.proofs.Readings.{begins, command_parts, is_command, request_no_go}
use Rattle.script_lines.proofs.Verbs.{in_all, name_no_space}
use Rattle.script_lint.specs.{IsNamedBy, ends, example_text, GoesOn, HasValidCounts, IsGoodText, IsRequest}

-- the text of a `go`
pub go_text : (text : List ℕ) → is_go text ≡ true → text ≡ codes "go"
go_text text e = same_text text (codes "go") (sym e)

pub go_is : (text : List ℕ) → text ≡ codes "go" → is_go text ≡ true
go_is text e = rw e refl

pub good_request : (sizes : Config) (had_go : Bool) (text : List ℕ) → IsRequest sizes text → IsGoodText sizes had_go text
good_request sizes had_go text is = record { says = λ _. inr is; once = λ _. request_no_go sizes is.0 is.1 text is.2 }

-- an empty text is good
pub empty_good : (sizes : Config) (had_go : Bool) → IsGoodText sizes had_go []
empty_good sizes had_go = record { says = λ e. cc; once = λ _. refl }

-- a text that no line says isn't good, unless it is skipped
pub no_line : (sizes : Config) (had_go : Bool) (text : List ℕ) → is_skipped text ≡ false → ((line : Line) → ¬ IsLineText sizes 1 line text)
    → ¬ IsGoodText sizes had_go text
no_line sizes had_go text asks none good = elim (good.says asks) [
  | inl goes ↦ none Go (go_text text goes)
  | inr is ↦ none (At 1 is.0 is.1) (refl, is.2)
]

-- ---- a beginning of a word, a space and a rest

-- the first text ends in the word, or after the space
abbrev IsFrontOf : (front rest word t : List ℕ) → Type 0
IsFrontOf front rest word t =
    ((x : List ℕ) × (word ≡ front ++ x) × (rest ≡ x ++ 32 ∷ t)) ⊎ ((y : List ℕ) × (front ≡ word ++ 32 ∷ y) × (t ≡ y ++ rest))

front_of : (front rest word t : List ℕ) → front ++ rest ≡ word ++ 32 ∷ t → IsFrontOf front rest word t
front_of [] rest word t e = inl (word, refl, e)
front_of (b ∷ bs) rest [] t e = inr (bs, cc, cc)
front_of (b ∷ bs) rest (y ∷ ys) t e =
    let tails : bs ++ rest ≡ ys ++ 32 ∷ t = cc in
    let heads : y ≡ b = cc in
    elim (front_of bs rest ys t tails) [
      | inl x ↦ inl (x.0, ap₂ (λ (c : ℕ) (cs : List ℕ). c ∷ cs) heads x.1, x.2)
      | inr y ↦ inr (y.0, ap₂ (λ (c : ℕ) (cs : List ℕ). c ∷ cs) (sym heads) y.1, y.2)
    ]

-- ---- paths and numbers

slash : IsPathText (47 ∷ [])
slash = record { some = omega arith; graphic = at }
  where
    at : All (λ b. (32 < b) × (b < 127)) (47 ∷ [])
    at zero d h = (omega arith, omega arith)
    at (suc k) d h = absurd (omega arith)

nought : WritesNumber (48 ∷ []) 0
nought = record { digits = (omega arith, (omega arith, tt)); value = refl; fits = omega arith }

graphic_left : (front rest : List ℕ) → IsPathText (front ++ rest) → All (λ b. (32 < b) × (b < 127)) front
graphic_left front rest is k d h =
    let long = length-append front rest in
    subst (λ (b : ℕ). (32 < b) × (b < 127)) (get_or_append_left front rest d k h) (is.graphic k d (omega arith))

-- a beginning of a path is one with a slash after it
path_more : (front rest : List ℕ) → IsPathText (front ++ rest) → IsPathText (front ++ 47 ∷ [])
path_more front rest is = record {
  some = let long = length-append front (47 ∷ []) in omega arith;
  graphic = All-push (λ b. (32 < b) × (b < 127)) front 47 (graphic_left front rest is) (omega arith, omega arith);
}

digits_left : (front rest : List ℕ) → AllDigits 10 (front ++ rest) → AllDigits 10 front
digits_left [] rest all = tt
digits_left (b ∷ bs) rest all = (all.0, digits_left bs rest all.1)

-- a beginning of digits has no greater value
value_left : (front rest : List ℕ) → digits_value 10 front ≤ digits_value 10 (front ++ rest)
value_left front rest =
    let less = digits_value-take-le 10 (front ++ rest) (length front) (omega arith) in
    let same = ap (digits_value 10) (take-append_seam front rest) in
    omega arith

-- a beginning of a number is one itself, or with a 0 after it
number_more : (front rest : List ℕ) (n : ℕ) → WritesNumber (front ++ rest) n
    → (m : ℕ) × (m ≤ n) × (WritesNumber (front ++ []) m ⊎ WritesNumber (front ++ 48 ∷ []) m)
number_more [] rest n is = (0, omega arith, inr nought)
number_more (b ∷ bs) rest n is =
    let less = value_left (b ∷ bs) rest in
    let value = is.value in
    let fits = is.fits in
    let front : WritesNumber (b ∷ bs) (digits_value 10 (b ∷ bs))
    = record { digits = (omega arith, digits_left (b ∷ bs) rest is.digits.1); value = refl; fits = omega arith } in
    (digits_value 10 (b ∷ bs), omega arith, inl (subst (λ (t : List ℕ). WritesNumber t (digits_value 10 (b ∷ bs))) (sym (append-nil (b ∷ bs))) front))

-- ---- what follows the name of a command

-- the text says some arguments of this form
abbrev SaysArguments : Config → ArgumentForm → List ℕ → Type 0
SaysArguments sizes f t = (arguments : Arguments) × (form_of arguments ≡ f) × IsArguments sizes arguments t

-- one of the ends makes it so
abbrev HasEnd : (List ℕ → Type 0) → List ℕ → Type 0
HasEnd Good front = (k : ℕ) × (k < length ends) × Good (front ++ get_or ends k [])

arguments_end : (sizes : Config) (arguments : Arguments) (a rest : List ℕ) → IsArguments sizes arguments (a ++ rest)
    → HasEnd (SaysArguments sizes (form_of arguments)) a
arguments_end sizes Alone a rest is = absurd is
arguments_end sizes (Path path) a rest is =
    (4, omega arith, (Path (a ++ 47 ∷ []), refl, (path_more a rest (subst IsPathText is.1 is.0), refl)))
arguments_end sizes (PathFile path file) a rest is = elim (front_of a rest path file is.parts) [
  | inl x ↦ (
    5,
    omega arith,
    (
      PathFile (a ++ 47 ∷ []) (47 ∷ []),
      refl,
      record {
        parts = sym (append_assoc a (47 ∷ []) (32 ∷ 47 ∷ []));
        path_text = path_more a x.0 (subst IsPathText x.1 is.path_text);
        file_text = slash;
      },
    ),
  )
  | inr y ↦ (
    4,
    omega arith,
    (
      PathFile path (y.0 ++ 47 ∷ []),
      refl,
      record {
        parts = ap (λ (t : List ℕ). t ++ 47 ∷ []) y.1 ∙ append_assoc path (32 ∷ y.0) (47 ∷ []);
        path_text = is.path_text;
        file_text = path_more y.0 rest (subst IsPathText y.2 is.file_text);
      },
    ),
  )
]
arguments_end sizes (PathFileValue path file value) a rest is = elim (front_of a rest path (file ++ 32 ∷ value) is.parts) [
  | inl x ↦ (
    6,
    omega arith,
    (
      PathFileValue (a ++ 47 ∷ []) (47 ∷ []) [],
      refl,
      record {
        parts = sym (append_assoc a (47 ∷ []) (32 ∷ 47 ∷ 32 ∷ []));
        path_text = path_more a x.0 (subst IsPathText x.1 is.path_text);
        file_text = slash;
      },
    ),
  )
  | inr y ↦ elim (front_of y.0 rest file value (sym y.2)) [
    | inl z ↦ (
      7,
      omega arith,
      (
        PathFileValue path (y.0 ++ 47 ∷ []) [],
        refl,
        record {
          parts = ap (λ (t : List ℕ). t ++ 47 ∷ 32 ∷ []) y.1 ∙ append_assoc path (32 ∷ y.0) (47 ∷ 32 ∷ [])
              ∙ ap (λ (t : List ℕ). path ++ 32 ∷ t) (sym (append_assoc y.0 (47 ∷ []) (32 ∷ [])));
          path_text = is.path_text;
          file_text = path_more y.0 z.0 (subst IsPathText z.1 is.file_text);
        },
      ),
    )
    | inr z ↦ (
      0,
      omega arith,
      (
        PathFileValue path file (z.0 ++ []),
        refl,
        record {
          parts = ap (λ (t : List ℕ). t ++ []) y.1 ∙ append_assoc path (32 ∷ y.0) []
              ∙ ap (λ (t : List ℕ). path ++ 32 ∷ (t ++ [])) z.1
              ∙ ap (λ (t : List ℕ). path ++ 32 ∷ t) (append_assoc file (32 ∷ z.0) []);
          path_text = is.path_text;
          file_text = is.file_text;
        },
      ),
    )
  ]
]
arguments_end sizes (PathOrder path order) a rest is = elim (front_of a rest path is.digits is.parts) [
  | inl x ↦ (
    8,
    omega arith,
    (
      PathOrder (a ++ 47 ∷ []) 0,
      refl,
      record {
        digits = 48 ∷ [];
        parts = sym (append_assoc a (47 ∷ []) (32 ∷ 48 ∷ []));
        path_text = path_more a x.0 (subst IsPathText x.1 is.path_text);
        writes = nought;
      },
    ),
  )
  | inr y ↦
      let more = number_more y.0 rest order (subst (λ (t : List ℕ). WritesNumber t order) y.2 is.writes) in
      let at : (end : List ℕ) → WritesNumber (y.0 ++ end) more.0 → SaysArguments sizes form.PathOrder (a ++ end) = λ end writes. (
        PathOrder path more.0,
        refl,
        record {
          digits = y.0 ++ end;
          parts = ap (λ (t : List ℕ). t ++ end) y.1 ∙ append_assoc path (32 ∷ y.0) end;
          path_text = is.path_text;
          writes = writes;
        },
      ) in
      elim more.2 [
        | inl bare ↦ (0, omega arith, at [] bare)
        | inr with_0 ↦ (9, omega arith, at (48 ∷ []) with_0)
      ]
]
arguments_end sizes (Group group) a rest is =
    let more = number_more a rest group is.writes in
    let possible = is.possible in
    let low = is.low in
    let le = more.1 in
    elim more.2 [
      | inl bare ↦ (0, omega arith, (Group more.0, refl, record { writes = bare; possible = omega arith; low = omega arith }))
      | inr with_0 ↦ (9, omega arith, (Group more.0, refl, record { writes = with_0; possible = omega arith; low = omega arith }))
    ]
arguments_end sizes (Frame frame) a rest is =
    let more = number_more a rest frame is.writes in
    let low = is.in_zone in
    let le = more.1 in
    elim more.2 [
      | inl bare ↦ (0, omega arith, (Frame more.0, refl, record { writes = bare; in_zone = omega arith }))
      | inr with_0 ↦ (9, omega arith, (Frame more.0, refl, record { writes = with_0; in_zone = omega arith }))
    ]

-- the text of a command
abbrev IsCommand : Config → List ℕ → Type 0
IsCommand sizes text = (command : Command) × IsCommandText sizes command text

-- a name, a space and arguments of its form are a command
command_from : (sizes : Config) (v : Verb) (r : List ℕ) → SaysArguments sizes (form_of_verb v) r → IsCommand sizes (name_of_verb v ++ 32 ∷ r)
command_from sizes v r says =
    let command = made v says.0 says.1 in
    let has = subst (λ (w : Verb × Arguments). IsArguments sizes w.1 r) (sym command.1) says.2 in
    let cut : IsCut (name_of_verb v ++ 32 ∷ r) (name_of_verb v) r = record { parts = refl; no_space = name_no_space v } in
    (command.0, is_command sizes (name_of_verb v ++ 32 ∷ r) r v cut command.0 (ap (λ (w : Verb × Arguments). w.0) command.1) has)

-- every name with its example is one
example_is : (sizes : Config) → HasValidCounts sizes → (v : Verb) (f : ArgumentForm) → form_of_verb v ≡ f → IsCommand sizes (name_of_verb v ++ example_text f)
example_is sizes counts v form.Alone e =
    let command = made v Alone (sym e) in
    (command.0, subst (λ (w : Verb × Arguments). IsNameWith sizes (name_of_verb w.0) w.1 (name_of_verb v ++ [])) (sym command.1) (append-nil (name_of_verb v)))
example_is sizes counts v form.Path e = command_from sizes v (47 ∷ []) (Path (47 ∷ []), sym e, (slash, refl))
example_is sizes counts v form.PathFile e =
    command_from sizes v (47 ∷ 32 ∷ 47 ∷ []) (PathFile (47 ∷ []) (47 ∷ []), sym e, record { parts = refl; path_text = slash; file_text = slash })
example_is sizes counts v form.PathFileValue e =
    command_from sizes v (47 ∷ 32 ∷ 47 ∷ 32 ∷ [])
    (PathFileValue (47 ∷ []) (47 ∷ []) [], sym e, record { parts = refl; path_text = slash; file_text = slash })
example_is sizes counts v form.PathOrder e =
    command_from sizes v (47 ∷ 32 ∷ 48 ∷ [])
    (PathOrder (47 ∷ []) 0, sym e, record { digits = 48 ∷ []; parts = refl; path_text = slash; writes = nought })
example_is sizes counts v form.Group e =
    let root = counts.groups_low in
    command_from sizes v (48 ∷ []) (Group 0, sym e, record { writes = nought; possible = omega arith; low = omega arith })
example_is sizes counts v form.Frame e =
    let some = counts.frames_low in
    command_from sizes v (48 ∷ []) (Frame 0, sym e, record { writes = nought; in_zone = omega arith })

-- the rest of a name, and its example, make it so
abbrev HasName : (List ℕ → Type 0) → List ℕ → Type 0
HasName Good front = (v : Verb) × IsNamedBy Good front front v

name_end : (sizes : Config) → HasValidCounts sizes → (front x : List ℕ) (v : Verb) → name_of_verb v ≡ front ++ x → HasName (IsCommand sizes) front
name_end sizes counts front x v e =
    let long = ap length e ∙ length-append front x in
    let whole : front ++ drop (length front) (name_of_verb v) ≡ name_of_verb v
    = rw e (ap (λ (t : List ℕ). front ++ t) (drop_front front x)) in
    let same : (front ++ drop (length front) (name_of_verb v)) ++ example_text (form_of_verb v) ≡ name_of_verb v ++ example_text (form_of_verb v)
    = ap (λ (t : List ℕ). t ++ example_text (form_of_verb v)) whole in (
      v,
      (
        omega arith,
        subst (IsCommand sizes) (sym same ∙ append_assoc front (drop (length front) (name_of_verb v)) (example_text (form_of_verb v)))
            (example_is sizes counts v (form_of_verb v) refl),
      ),
    )
  where
    drop_front : (one other : List ℕ) → drop (length one) (one ++ other) ≡ other
    drop_front [] other = refl
    drop_front (b ∷ bs) other = drop_front bs other

-- a beginning of a command
command_end : (sizes : Config) → HasValidCounts sizes → (front rest : List ℕ) → IsCommand sizes (front ++ rest)
    → HasEnd (IsCommand sizes) front ⊎ HasName (IsCommand sizes) front
command_end sizes counts front rest is =
    let v : Verb = its_verb is.0 in
    elim (begins sizes (front ++ rest) is.0 is.1) [
      | inl e ↦ inr (name_end sizes counts front rest v (sym e))
      | inr e ↦ elim (front_of front rest (name_of_verb v) e.0 e.1) [
        | inl x ↦ inr (name_end sizes counts front x.0 v x.1)
        | inr y ↦
            let cut : IsCut (front ++ rest) (name_of_verb v) e.0 = record { parts = e.1; no_space = name_no_space v } in
            let has = (command_parts sizes (front ++ rest) (name_of_verb v) e.0 cut is.0 is.1).1 in
            let found = arguments_end sizes (words_of_command is.0).1 y.0 rest (subst (IsArguments sizes (words_of_command is.0).1) y.2 has) in
            let says = subst (λ f. SaysArguments sizes f (y.0 ++ get_or ends found.0 [])) (its_form is.0) found.2 in
            let same : name_of_verb v ++ 32 ∷ (y.0 ++ get_or ends found.0 []) ≡ front ++ get_or ends found.0 []
            = sym (ap (λ (t : List ℕ). t ++ get_or ends found.0 []) y.1 ∙ append_assoc (name_of_verb v) (32 ∷ y.0) (get_or ends found.0 [])) in
            inl (found.0, found.1, subst (IsCommand sizes) same (command_from sizes v (y.0 ++ get_or ends found.0 []) says))
      ]
    ]

-- ---- a line

-- a CPU's number, a space and the beginning of a name, with the rest of it and its example
pub record HasNameBehind (Good : List ℕ → Type 0) (front : List ℕ) : Type 0 where
  pub digits : List ℕ
  pub begun : List ℕ
  pub cut : IsCut front digits begun
  pub verb : Verb
  pub named : IsNamedBy Good front begun verb

show_is : (sizes : Config) → IsCommandText sizes command.Show (codes "show")
show_is sizes = refl

-- the beginning of a CPU's number
cpu_end : (sizes : Config) → HasValidCounts sizes → (front rest : List ℕ) (cpu : ℕ) → 0 < length front → WritesNumber (front ++ rest) cpu
    → cpu ≤ sizes.cpus → HasEnd (IsRequest sizes) front
cpu_end sizes counts front rest cpu some is high =
    let less = value_left front rest in
    let value = is.value in
    let fits = is.fits in
    let cpus = counts.cpus_low in
    let digits = digits_left front rest is.digits.1 in
    elim (cases_lt 0 (digits_value 10 front)) [
      | inl low ↦ (
        2,
        omega arith,
        (
          digits_value 10 front,
          command.Show,
          record {
            digits = front;
            rest = codes "show";
            parts = refl;
            writes = record { digits = (some, digits); value = refl; fits = omega arith };
            low = omega arith;
            high = omega arith;
            command_text = show_is sizes;
          },
        ),
      )
      | inr none ↦
          let pushed = digits_value_push 10 front 49 in
          let long = length-append front (49 ∷ []) in
          let one : digits_value 10 (front ++ 49 ∷ []) ≡ 1 = omega arith in (
            3,
            omega arith,
            (
              1,
              command.Show,
              record {
                digits = front ++ 49 ∷ [];
                rest = codes "show";
                parts = sym (append_assoc front (49 ∷ []) (32 ∷ codes "show"));
                writes = record { digits = (omega arith, digits_push 10 front 49 digits (omega arith)); value = one; fits = omega arith };
                low = omega arith;
                high = omega arith;
                command_text = show_is sizes;
              },
            ),
          )
    ]

-- the beginning of a request
request_end : (sizes : Config) → HasValidCounts sizes → (front rest : List ℕ) → 0 < length front → IsRequest sizes (front ++ rest)
    → HasEnd (IsRequest sizes) front ⊎ HasNameBehind (IsRequest sizes) front
request_end sizes counts front rest some is = elim (front_of front rest is.2.digits is.2.rest is.2.parts) [
  | inl x ↦ inl (cpu_end sizes counts front x.0 is.0 some (subst (λ (t : List ℕ). WritesNumber t is.0) x.1 is.2.writes) is.2.high)
  | inr y ↦
      let request : (end : List ℕ) → IsCommand sizes (y.0 ++ end) → IsRequest sizes (front ++ end) = λ end command. (
        is.0,
        command.0,
        record {
          digits = is.2.digits;
          rest = y.0 ++ end;
          parts = ap (λ (t : List ℕ). t ++ end) y.1 ∙ append_assoc is.2.digits (32 ∷ y.0) end;
          writes = is.2.writes;
          low = is.2.low;
          high = is.2.high;
          command_text = command.1;
        },
      ) in
      elim (command_end sizes counts y.0 rest (is.1, subst (IsCommandText sizes is.1) y.2 is.2.command_text)) [
        | inl found ↦ inl (found.0, found.1, request (get_or ends found.0 []) found.2)
        | inr found ↦ inr (record {
          digits = is.2.digits;
          begun = y.0;
          cut = record { parts = y.1; no_space = digits_no_space is.2.digits is.2.writes.digits.1 };
          verb = found.0;
          named = (found.1.0, request (drop (length y.0) (name_of_verb found.0) ++ example_text (form_of_verb found.0)) found.1.1);
        })
      ]
]

-- the rest of `go`
go_end : (sizes : Config) (had_go : Bool) (b : ℕ) (bs rest : List ℕ) → IsGoodText sizes had_go ((b ∷ bs) ++ rest)
    → (b ∷ bs) ++ rest ≡ codes "go" → HasEnd (IsGoodText sizes had_go) (b ∷ bs)
go_end sizes had_go b [] rest good e =
    let is : rest ≡ codes "o" = cc in (1, omega arith, subst (λ (t : List ℕ). IsGoodText sizes had_go (b ∷ t)) is good)
go_end sizes had_go b (c ∷ []) rest good e =
    let is : rest ≡ [] = cc in (0, omega arith, subst (λ (t : List ℕ). IsGoodText sizes had_go (b ∷ c ∷ t)) is good)
go_end sizes had_go b (c ∷ d ∷ bs) rest good e = cc

-- a beginning of a good line is one with some end, or with the rest of a name
pub line_end : (sizes : Config) → HasValidCounts sizes → (had_go : Bool) (front : List ℕ) → GoesOn (IsGoodText sizes had_go) front
    → HasEnd (IsGoodText sizes had_go) front ⊎ HasNameBehind (IsGoodText sizes had_go) front
line_end sizes counts had_go [] on = inl (0, omega arith, empty_good sizes had_go)
line_end sizes counts had_go (b ∷ bs) on = by_mark (eqb b 35) refl
  where
    by_mark : (mark : Bool) → eqb b 35 ≡ mark
        → HasEnd (IsGoodText sizes had_go) (b ∷ bs) ⊎ HasNameBehind (IsGoodText sizes had_go) (b ∷ bs)
    by_mark true e =
        let hash : b ≡ 35 = eqb-true b 35 e in
        inl (0, omega arith, record { says = λ asks. cc; once = λ _. rw hash refl })
    by_mark false e = elim (on.1.says e) [
      | inl goes ↦ inl (go_end sizes had_go b bs on.0 on.1 (go_text ((b ∷ bs) ++ on.0) goes))
      | inr is ↦ elim (request_end sizes counts (b ∷ bs) on.0 (omega arith) is) [
        | inl found ↦ inl (found.0, found.1, good_request sizes had_go ((b ∷ bs) ++ get_or ends found.0 []) found.2)
        | inr found ↦ inr (record {
          digits = found.digits;
          begun = found.begun;
          cut = found.cut;
          verb = found.verb;
          named = (found.named.0, good_request sizes had_go _ found.named.1);
        })
      ]
    ]

-- no end makes a good line of the text
abbrev pub HasNoEnd : Config → Bool → List ℕ → Type 0
HasNoEnd sizes had_go front = All (λ end. ¬ IsGoodText sizes had_go (front ++ end)) ends

-- without an end and without a space, no good line begins so
pub no_word : (sizes : Config) → HasValidCounts sizes → (had_go : Bool) (front : List ℕ) → HasNoEnd sizes had_go front → All (λ b. b ≢ 32) front
    → ¬ GoesOn (IsGoodText sizes had_go) front
no_word sizes counts had_go front none no_space on = elim (line_end sizes counts had_go front on) [
  | inl found ↦ none found.0 [] found.1 found.2
  | inr found ↦ no_cut front found.digits found.begun no_space found.cut.parts
]

-- nor without an end and a name for what follows the first space
pub no_name : (sizes : Config) → HasValidCounts sizes → (had_go : Bool) (front word begun : List ℕ) → HasNoEnd sizes had_go front
    → IsCut front word begun → All (λ verb. ¬ IsNamedBy (IsGoodText sizes had_go) front begun verb) all_verbs
    → ¬ GoesOn (IsGoodText sizes had_go) front
no_name sizes counts had_go front word begun none cut no_verb on = elim (line_end sizes counts had_go front on) [
  | inl found ↦ none found.0 [] found.1 found.2
  | inr found ↦
      let same = (cut_once front word begun found.digits found.begun cut found.cut.no_space found.cut.parts).1 in
      let place = in_all found.verb in
      let not_so : ¬ IsNamedBy (IsGoodText sizes had_go) front begun found.verb
      = subst (λ (v : Verb). ¬ IsNamedBy (IsGoodText sizes had_go) front begun v) place.2 (no_verb place.0 Mkdir place.1) in
      not_so (subst (λ (t : List ℕ). IsNamedBy (IsGoodText sizes had_go) front t found.verb) (sym same) found.named)
]

-- what is answered is so exactly if it isn't refuted
pub told : {E : Type 0} {Is None : Type 0} (r : Result Bool E) → IfOk r (λ b. IsTrue b → Is) → IfOk r (λ b. b ≡ false → None) → (None → ¬ Is)
    → IfOk r (λ b. IsTrue b ↔ Is)
told (Err e) found none not_so = tt
told (Ok true) found none not_so = (found, λ is. refl)
told (Ok false) found none not_so = (λ yes. cc, λ is. absurd (not_so (none refl) is))
