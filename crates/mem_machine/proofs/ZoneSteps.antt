-- Steps of the zone's seat that change no CPU's part and no reference of a CPU. Serves the calls on kept units and on
-- blocks.
use Rattle.std.proofs.Common.{◌≡◌, ◌≢◌, ℕ, true, sym, ap, ◌∙◌, subst}
use Rattle.std.specs.List.{fold}
use Rattle.boot_words.specs.Tables.{KnownTable}
use Rattle.cpu_part.specs.Known.{HasOwn}
use Rattle.step_rules.specs.State.{State, Part, visits}
use Rattle.step_rules.specs.After.{Run}
use Rattle.mem_machine.specs.{StaysVisited, local_of, KnownMachine, Records, after_made}
use Rattle.mem_machine.proofs.Staying.{HaveSameBooks}

-- the same parts have the same books
pub same_books : (a b : ℕ → Part) → b ≡ a → HaveSameBooks a b
same_books a b same = record { book = λ k. ap (λ (p : ℕ → Part). (p k).book) same; group = λ k. ap (λ (p : ℕ → Part). (p k).stock.group) same }

-- each visit stays open
pub zone_visited : (t : KnownTable) (m n : KnownMachine) (steps : Run) → Records t m.run steps n.run
    → (fold after_made (local_of t m) steps).hold ≡ (local_of t m).hold → (fold after_made (local_of t m) steps).parts ≡ (local_of t m).parts
    → ((p : ℕ) → p ≢ 0 → (fold after_made (local_of t m) steps).references p ≡ (local_of t m).references p) → StaysVisited t m n
zone_visited t m n steps noted hold parts references c visit =
    let later = sym (noted.grew.sees visit.held) in
    let some : c.number ≢ 0 = λ none. visit.held.holds.cpu_is (visit.who ∙ none) in
    record {
      held = noted.grew.held visit.held;
      who = noted.grew.holder visit.held ∙ visit.who;
      is_open = subst (λ (s : State). visits c.number s.hold ≡ true) later (ap (visits c.number) hold ∙ visit.is_open);
      own = subst (λ (s : State). HasOwn s c) later (record {
        list = ap (λ (p : ℕ → Part). (p c.number).list) parts ∙ visit.own.list;
        fresh = ap (λ (p : ℕ → Part). (p c.number).fresh) parts ∙ visit.own.fresh;
        back = ap (λ (p : ℕ → Part). (p c.number).back) parts ∙ visit.own.back;
        references = λ f. ap (λ (r : ℕ → ℕ). r f) (references c.number some) ∙ visit.own.references f;
      });
    }
