-- The tables of names: what follows each name is read as its row says.
use Rattle.std.proofs.Common.{◌≡◌, ℕ, List, [], ◌∷◌, ◌++◌, inl, inr, Some, IsTrue, bytes_eq, codes, refl, sym, ap, subst, ◌∙◌}
use Rattle.std.specs.List.{list_all}
use Rattle.std.specs.Map.{lookup}
use Rattle.std.proofs.lemmas.Slice.Eq.{bytes_eq-Decides}
use Rattle.step_rules.specs.declared.step.NoteKey.TheVariants.{Low, High, Max, Oom}
use Rattle.step_rules.specs.declared.step.Action.{Action}
use Rattle.step_rules.specs.declared.step.Action.TheVariants as action
use Rattle.step_rules.specs.declared.step.Answer.{Answer}
use Rattle.step_rules.specs.declared.step.Answer.TheVariants as answer
use Rattle.log_lines.specs.Words.{Word, Fixed, is_no_space, number, group, action_words, answer_words}
use Rattle.log_lines.specs.Names.{action_names, answer_names}
use Rattle.log_lines.specs.Reading.{◌>>=◌, ParserOf, front_word, u32_at, group_number_at, arguments_at, action_at, results_at, answer_at}
use Rattle.log_lines.proofs.Codecs.{AllFit, IsCodec, Takes, bind_is, first_is, gives, some_is, texts, one_takes, one_again, two_takes, two_again, takes_both, chosen}
use Rattle.log_lines.proofs.Codecs.{wide_codec, number_codec, group_codec, order_codec, limit_codec, flag_codec, path_codec}

infixr 4 ◌&◌
-- a pair
abbrev ◌&◌ : {A B : Type 0} → A → B → A × B
a & b = (a, b)

-- P holds of each row
abbrev pub AllRows : {K : Type 0} → (List ℕ → K → Type 0) → List (List ℕ × K) → Type 0
AllRows P [] = Unit {0}
AllRows P (row ∷ rows) = P row.0 row.1 × AllRows P rows

-- what is found in the table is a row
found : {K : Type 0} (P : List ℕ → K → Type 0) (rows : List (List ℕ × K)) (word : List ℕ) (k : K) → AllRows P rows
    → lookup (λ name. bytes_eq name word) rows ≡ Some k → P word k
found P [] word k all e = absurd cc
found {K} P (row ∷ rows) word k all e =
    elim (chosen (bytes_eq row.0 word) (Some row.1) (lookup (λ name. bytes_eq name word) rows) (Some k) e) [
      | inl h ↦ let name : row.0 ≡ word = (bytes_eq-Decides row.0 word).0 h.0 in
          let value : row.1 ≡ k = some_is row.1 k h.1 in
          subst (λ (w : List ℕ). P w k) name (subst (λ (x : K). P row.0 x) value all.0)
      | inr h ↦ found P rows word k all.1 h.1
    ]

-- reading what follows the name takes the words of the value
abbrev TakesRow : {V : Type 0} → (V → List Word) → List ℕ → ParserOf V → Type 0
TakesRow {V} words name read = (from : List (List ℕ)) (v : V) (rest : List (List ℕ)) → read from ≡ Some (v, rest) → Takes (name ∷ from) (words v) rest

behind : {V : Type 0} (words : V → List Word) (name : List ℕ) (no_space : IsTrue (list_all is_no_space name)) (from : List (List ℕ)) (args : List Word)
    (rest : List (List ℕ)) (x v : V) → words x ≡ Fixed name ∷ args → x ≡ v → Takes from args rest → Takes (name ∷ from) (words v) rest
behind words name no_space from args rest x v same is taken =
    let whole : Takes (name ∷ from) (Fixed name ∷ args) rest
    = record { parts = ap (λ (ts : List (List ℕ)). name ∷ ts) taken.parts; fit = (no_space, taken.fit) } in
    subst (λ (ws : List Word). Takes (name ∷ from) ws rest) (sym same ∙ ap words is) whole

row_alone : {V : Type 0} (words : V → List Word) (name : List ℕ) → IsTrue (list_all is_no_space name) → (x : V) → words x ≡ Fixed name ∷ []
    → TakesRow words name (λ from. Some (x, from))
row_alone words name no_space x same from v rest e =
    let is = some_is (x, from) (v, rest) e in
    behind words name no_space from [] rest x v same (ap (λ p. p.0) is) (record { parts = ap (λ p. p.1) is; fit = tt })

module _ {V A : Type 0} (words : V → List Word) (name : List ℕ) (no_space : IsTrue (list_all is_no_space name))
    {ra : ParserOf A} {wa : A → List Word} (ca : IsCodec ra wa) where
  row_one : (f : A → V) → ((a : A) → words (f a) ≡ Fixed name ∷ wa a) → TakesRow words name (λ from. ra from >>= gives f)
  row_one f same from v rest e =
      let a = one_takes ca f from v rest e in
      behind words name no_space from (wa a.0) rest (f a.0) v (same a.0) a.1 a.2

  row_two : {B : Type 0} {rb : ParserOf B} {wb : B → List Word} (cb : IsCodec rb wb) (f : A → B → V)
      → ((a : A) (b : B) → words (f a b) ≡ Fixed name ∷ (wa a ++ wb b))
      → TakesRow words name (λ from. ra from >>= λ a. rb a.1 >>= gives (f a.0))
  row_two {B} {rb} {wb} cb f same from v rest e =
      let p = two_takes ca cb f from v rest e in
      behind words name no_space from (wa p.0 ++ wb p.1) rest (f p.0 p.1) v (same p.0 p.1) p.2 p.3

-- `fill` has three numbers
fill_row : TakesRow action_words (codes "fill") (λ from. u32_at from >>= λ p. group_number_at p.1 >>= λ g. u32_at g.1 >>= gives (action.Fill p.0 g.0))
fill_row from v rest e =
    let p = bind_is (u32_at from) (λ p. group_number_at p.1 >>= λ g. u32_at g.1 >>= gives (action.Fill p.0 g.0)) (v, rest) e in
    let q = two_takes group_codec number_codec (action.Fill p.0.0) p.0.1 v rest p.2 in
    behind action_words (codes "fill") refl from (number p.0.0 ∷ group q.0 ∷ number q.1 ∷ []) rest (action.Fill p.0.0 q.0 q.1) v refl q.2
    (takes_both from (number p.0.0 ∷ []) p.0.1 (group q.0 ∷ number q.1 ∷ []) rest (number_codec.takes from p.0.0 p.0.1 p.1) q.3)

action_rows : AllRows (λ name k. TakesRow action_words name (arguments_at k)) action_names
unfolding arguments_at
action_rows =
    row_alone action_words (codes "lock") refl action.Lock refl
    & row_alone action_words (codes "unlock") refl action.Unlock refl
    & row_one action_words (codes "open") refl number_codec action.OpenVisit (λ a. refl)
    & row_one action_words (codes "shut") refl number_codec action.ShutVisit (λ a. refl)
    & row_one action_words (codes "get") refl number_codec action.Get (λ a. refl)
    & row_one action_words (codes "put") refl number_codec action.Put (λ a. refl)
    & row_one action_words (codes "take-in") refl number_codec action.TakeIn (λ a. refl)
    & row_one action_words (codes "pass-back") refl number_codec action.PassBack (λ a. refl)
    & row_one action_words (codes "credit") refl number_codec action.Credit (λ a. refl)
    & row_one action_words (codes "report") refl number_codec action.Report (λ a. refl)
    & row_one action_words (codes "absorb") refl number_codec action.Absorb (λ a. refl)
    & row_one action_words (codes "drain") refl number_codec action.DrainStock (λ a. refl)
    & row_one action_words (codes "publish") refl number_codec action.Publish (λ a. refl)
    & row_one action_words (codes "return") refl number_codec action.Return (λ a. refl)
    & row_two action_words (codes "freeze") refl number_codec number_codec action.Freeze (λ a b. refl)
    & row_two action_words (codes "unfreeze") refl number_codec number_codec action.Unfreeze (λ a b. refl)
    & row_two action_words (codes "pass-out") refl number_codec number_codec action.PassOut (λ a b. refl)
    & row_two action_words (codes "collect") refl number_codec number_codec action.Collect (λ a b. refl)
    & row_one action_words (codes "consume") refl group_codec action.Consume (λ a. refl)
    & row_one action_words (codes "note-low") refl group_codec (action.Note Low) (λ a. refl)
    & row_one action_words (codes "note-high") refl group_codec (action.Note High) (λ a. refl)
    & row_one action_words (codes "note-max") refl group_codec (action.Note Max) (λ a. refl)
    & row_one action_words (codes "note-oom") refl group_codec (action.Note Oom) (λ a. refl)
    & row_one action_words (codes "group-kill") refl group_codec action.NoteGroupKill (λ a. refl)
    & row_one action_words (codes "remove") refl group_codec action.Remove (λ a. refl)
    & row_one action_words (codes "kill") refl group_codec action.Kill (λ a. refl)
    & row_two action_words (codes "grant") refl group_codec number_codec action.Grant (λ a b. refl)
    & row_two action_words (codes "ungrant") refl group_codec number_codec action.Ungrant (λ a b. refl)
    & fill_row
    & row_two action_words (codes "place") refl group_codec order_codec action.PlaceBlock (λ a b. refl)
    & row_two action_words (codes "limit") refl group_codec limit_codec action.SetMax (λ a b. refl)
    & row_two action_words (codes "flag") refl group_codec flag_codec action.SetFlag (λ a b. refl)
    & row_one action_words (codes "make") refl path_codec action.Make (λ a. refl)
    & tt

abbrev placed : ℕ → ℕ → Answer
placed f k = answer.Placed (record { at = f; order = k })

answer_rows : AllRows (λ name k. TakesRow answer_words name (results_at k)) answer_names
unfolding results_at
answer_rows =
    row_alone answer_words (codes "illegal") refl answer.Illegal refl
    & row_alone answer_words (codes "done") refl answer.Done refl
    & row_alone answer_words (codes "held") refl answer.Held refl
    & row_alone answer_words (codes "zero") refl answer.Zero refl
    & row_alone answer_words (codes "full") refl answer.Full refl
    & row_alone answer_words (codes "last") refl answer.Last refl
    & row_alone answer_words (codes "missed") refl answer.Missed refl
    & row_alone answer_words (codes "took") refl answer.Took refl
    & row_alone answer_words (codes "empty") refl answer.Empty refl
    & row_alone answer_words (codes "other-group") refl answer.OtherGroup refl
    & row_alone answer_words (codes "drained") refl answer.Drained refl
    & row_alone answer_words (codes "back") refl answer.Stocked refl
    & row_alone answer_words (codes "granted") refl answer.Granted refl
    & row_alone answer_words (codes "no-block") refl answer.NoFreeBlock refl
    & row_one answer_words (codes "left") refl number_codec answer.Left (λ a. refl)
    & row_one answer_words (codes "pages") refl wide_codec answer.Pages (λ a. refl)
    & row_one answer_words (codes "over") refl group_codec answer.Over (λ a. refl)
    & row_two answer_words (codes "placed") refl number_codec order_codec placed (λ a b. refl)
    & row_one answer_words (codes "number") refl group_codec answer.Number (λ a. refl)
    & tt

-- the words of an action or an answer, its name first
named_takes : {K V : Type 0} (words : V → List Word) (names : List (List ℕ × K)) (args : K → ParserOf V) → AllRows (λ name k. TakesRow words name (args k)) names
    → (from : List (List ℕ)) (v : V) (rest : List (List ℕ))
    → (front_word from >>= λ word. lookup (λ name. bytes_eq name word.0) names >>= λ k. args k word.1) ≡ Some (v, rest) → Takes from (words v) rest
named_takes words names args rows from v rest e =
    let w = bind_is (front_word from) (λ word. lookup (λ name. bytes_eq name word.0) names >>= λ k. args k word.1) (v, rest) e in
    let k = bind_is (lookup (λ name. bytes_eq name w.0.0) names) (λ k. args k w.0.1) (v, rest) w.2 in
    let row = found (λ name k. TakesRow words name (args k)) names w.0.0 k.0 rows k.1 in
    subst (λ (ts : List (List ℕ)). Takes ts (words v) rest) (sym (first_is from w.0 w.1)) (row w.0.1 v rest k.2)

-- an action is read again from its words
action_again : (v : Action) (rest : List (List ℕ)) → AllFit (action_words v) → action_at (texts (action_words v) ++ rest) ≡ Some (v, rest)
unfolding action_at arguments_at
action_again action.Lock rest fit = refl
action_again action.Unlock rest fit = refl
action_again (action.OpenVisit a) rest fit = one_again number_codec action.OpenVisit a rest fit.1
action_again (action.ShutVisit a) rest fit = one_again number_codec action.ShutVisit a rest fit.1
action_again (action.Get a) rest fit = one_again number_codec action.Get a rest fit.1
action_again (action.Put a) rest fit = one_again number_codec action.Put a rest fit.1
action_again (action.TakeIn a) rest fit = one_again number_codec action.TakeIn a rest fit.1
action_again (action.PassBack a) rest fit = one_again number_codec action.PassBack a rest fit.1
action_again (action.Credit a) rest fit = one_again number_codec action.Credit a rest fit.1
action_again (action.Report a) rest fit = one_again number_codec action.Report a rest fit.1
action_again (action.Absorb a) rest fit = one_again number_codec action.Absorb a rest fit.1
action_again (action.DrainStock a) rest fit = one_again number_codec action.DrainStock a rest fit.1
action_again (action.Publish a) rest fit = one_again number_codec action.Publish a rest fit.1
action_again (action.Return a) rest fit = one_again number_codec action.Return a rest fit.1
action_again (action.Freeze a b) rest fit = two_again number_codec number_codec action.Freeze a b rest (fit.1.0, tt) fit.1.1
action_again (action.Unfreeze a b) rest fit = two_again number_codec number_codec action.Unfreeze a b rest (fit.1.0, tt) fit.1.1
action_again (action.PassOut a b) rest fit = two_again number_codec number_codec action.PassOut a b rest (fit.1.0, tt) fit.1.1
action_again (action.Collect a b) rest fit = two_again number_codec number_codec action.Collect a b rest (fit.1.0, tt) fit.1.1
action_again (action.Consume a) rest fit = one_again group_codec action.Consume a rest fit.1
action_again (action.Note Low a) rest fit = one_again group_codec (action.Note Low) a rest fit.1
action_again (action.Note High a) rest fit = one_again group_codec (action.Note High) a rest fit.1
action_again (action.Note Max a) rest fit = one_again group_codec (action.Note Max) a rest fit.1
action_again (action.Note Oom a) rest fit = one_again group_codec (action.Note Oom) a rest fit.1
action_again (action.NoteGroupKill a) rest fit = one_again group_codec action.NoteGroupKill a rest fit.1
action_again (action.Remove a) rest fit = one_again group_codec action.Remove a rest fit.1
action_again (action.Kill a) rest fit = one_again group_codec action.Kill a rest fit.1
action_again (action.Grant a b) rest fit = two_again group_codec number_codec action.Grant a b rest (fit.1.0, tt) fit.1.1
action_again (action.Ungrant a b) rest fit = two_again group_codec number_codec action.Ungrant a b rest (fit.1.0, tt) fit.1.1
action_again (action.Fill a b c) rest fit =
    rw (number_codec.again a (texts (group b ∷ number c ∷ []) ++ rest) (fit.1.0, tt))
    (two_again group_codec number_codec (action.Fill a) b c rest (fit.1.1.0, tt) fit.1.1.1)
action_again (action.PlaceBlock a b) rest fit = two_again group_codec order_codec action.PlaceBlock a b rest (fit.1.0, tt) fit.1.1
action_again (action.SetMax a b) rest fit = two_again group_codec limit_codec action.SetMax a b rest (fit.1.0, tt) fit.1.1
action_again (action.SetFlag a b) rest fit = two_again group_codec flag_codec action.SetFlag a b rest (fit.1.0, tt) fit.1.1
action_again (action.Make a) rest fit = one_again path_codec action.Make a rest fit.1

-- an answer is read again from its words
answer_again : (v : Answer) (rest : List (List ℕ)) → AllFit (answer_words v) → answer_at (texts (answer_words v) ++ rest) ≡ Some (v, rest)
unfolding answer_at results_at
answer_again (answer.Left a) rest fit = one_again number_codec answer.Left a rest fit.1
answer_again (answer.Pages a) rest fit = one_again wide_codec answer.Pages a rest fit.1
answer_again (answer.Over a) rest fit = one_again group_codec answer.Over a rest fit.1
answer_again (answer.Number a) rest fit = one_again group_codec answer.Number a rest fit.1
answer_again (answer.Placed block) rest fit = two_again number_codec order_codec placed block.at block.order rest (fit.1.0, tt) fit.1.1
answer_again v rest fit = refl

pub action_codec : IsCodec action_at action_words
unfolding action_at
action_codec = record { takes = named_takes action_words action_names arguments_at action_rows; again = action_again }

pub answer_codec : IsCodec answer_at answer_words
unfolding answer_at
answer_codec = record { takes = named_takes answer_words answer_names results_at answer_rows; again = answer_again }
