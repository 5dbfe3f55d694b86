-- The text of the units of a path, or the refusal if no group has it. Serves `write_units_or_refusal`.
use Rattle.std.proofs.Common.{◌≡◌, ◌∙◌, ◌++◌, ℕ, Bool, true, false, Option, Some, None, Result, Ok, Err, IfOk, List, refl, sym, subst}
use Rattle.std.specs.declared.string.String.{String}
use Rattle.std.specs.String.{string_bytes}
use Rattle.boot_words.specs.Tables.{KnownTable}
use Rattle.machine_texts.specs.Units.{ReadsUnits, units_text}
use Rattle.mem_machine.specs.{KnownMachine, units_in}
use Rattle.mem_system.specs.{KnownLocked, UnitsAt}
use Rattle.script_replay.specs.Answers.{AddsText}
use Rattle.script_replay.proofs.Telling.{at_ok}

-- nothing changes behind the lock
units_stay : (t : KnownTable) (o : Option ℕ) (none : Type 0) (tells : List ℕ → Type 0) (m n : KnownMachine) → UnitsAt t o none tells m n → n ≡ m
units_stay t None none tells m n is = is.1
units_stay t (Some g) none tells m n is = is.same

pub locked_stays : (t : KnownTable) (o : Option ℕ) (none : Type 0) (tells : List ℕ → Type 0) (l k : KnownLocked)
    → UnitsAt t o none tells l.machine k.machine → k.sizes ≡ l.sizes → k ≡ l
locked_stays t o none tells l k is sizes = λ i. record { machine = units_stay t o none tells l.machine k.machine is i; sizes = sizes i }

-- a text of the units, or the refusal
module _ (t : KnownTable) (refusal : List ℕ) (m n : KnownMachine) where
  abbrev IsText : Option ℕ → List ℕ → Type 0
  IsText o text = UnitsAt t o (text ≡ refusal) (λ shown. text ≡ shown) m m

  its_text : (g : ℕ) (tells : List ℕ → Type 0) → (is : ReadsUnits t g tells m n) → IsText (Some g) (units_text m (units_in m g) is.pins)
  its_text g tells is = record { pins = is.pins; looks = is.looks; told = refl; same = refl }

-- what is added by way of a call for the units, which finds a group of the path or none
module _ {Z U E F : Type 0} (t : KnownTable) (refusal : List ℕ) (old mid new : String Z) (m n : KnownMachine) (r : Result U F) where
  -- what the call says
  abbrev Says : Option ℕ → Result Bool E → String Z → Type 0
  Says o called left =
      UnitsAt t o ((called ≡ Ok false) × (left ≡ old))
      (λ shown. IfOk called (λ is_there. (is_there ≡ true) × (string_bytes left ≡ string_bytes old ++ shown))) m n

  -- memory ran out: there is a text, which was not added
  pub units_failed : (o : Option ℕ) (called : Result Bool E) → Says o called mid → (e : E) → called ≡ Err e
      → ((text : List ℕ) → IfOk r (λ _. string_bytes new ≡ string_bytes old ++ text)) → AddsText r old new (IsText t refusal m n o)
  units_failed None called is e failed added = absurd (let k : Ok false ≡ Err e = sym is.0.0 ∙ failed in cc)
  units_failed (Some g) called is e failed added =
      let text = units_text m (units_in m g) is.pins in record { text = text; so = its_text t refusal m n g _ is; added = added text }

  -- there is such a group
  pub units_there : (o : Option ℕ) (called : Result Bool E) → Says o called new → called ≡ Ok true → AddsText r old new (IsText t refusal m n o)
  units_there None called is there = absurd (let k : Ok false ≡ Ok true = sym is.0.0 ∙ there in cc)
  units_there (Some g) called is there =
      let text = units_text m (units_in m g) is.pins in record {
        text = text;
        so = its_text t refusal m n g _ is;
        added = at_ok r (subst (λ (x : Result Bool E). IfOk x (λ is_there. (is_there ≡ true) × (string_bytes new ≡ string_bytes old ++ text))) there is.told).1;
      }

  -- there is none, and the refusal was added
  pub units_none : (o : Option ℕ) (called : Result Bool E) → Says o called mid → called ≡ Ok false
      → IfOk r (λ _. string_bytes new ≡ string_bytes mid ++ refusal) → AddsText r old new (IsText t refusal m n o)
  units_none None called is none added = record {
    text = refusal;
    so = (refl, refl);
    added = subst (λ (x : String Z). IfOk r (λ _. string_bytes new ≡ string_bytes x ++ refusal)) is.0.1 added;
  }
  units_none (Some g) called is none added =
      absurd (let k : false ≡ true = (subst (λ (x : Result Bool E). IfOk x (λ is_there. (is_there ≡ true)
      × (string_bytes mid ≡ string_bytes old ++ units_text m (units_in m g) is.pins))) none is.told).0 in cc)
