-- The sums and the owners stay through steps that book nothing, and what else they say of a group. Serves all calls under
-- the lock.
use Rattle.std.proofs.Common.{◌≡◌, ℕ, ◌+◌, ◌<◌, ◌^◌, false, true, Option, List, length, get_or, sym, ap, ◌∙◌, subst, inl, inr, arith}
use Rattle.std.specs.List.{fold}
use Rattle.std.proofs.lemmas.Bool.{cases_lt, false≢true}
use Rattle.group_tree.specs.Groups.{has_group}
use Rattle.group_charge.specs.Charges.{AreCharges, current_of, pages_of}
use Rattle.group_charge.proofs.CallerLemmas.{pages-le-current, usage-le-root}
use Rattle.step_rules.specs.State.{Part, State}
use Rattle.step_rules.specs.After.{Run}
use Rattle.boot_words.specs.{hide, IsHeld, KnownTable}
use Rattle.mem_machine.specs.declared.machine.Machine.TheInside.{Inside}
use Rattle.mem_machine.specs.{AreBooked, AreOwners, IsSoundMachine, machine_of, local_of, KnownMachine, IsConsistent, IsShownBy, frames_charged}
use Rattle.mem_machine.specs.{left_by, pages_booked, KnownRun, Records, after_made}
use Rattle.mem_machine.proofs.Booking.{books_same, sums_same}
use Rattle.mem_machine.proofs.Draining.{charged_there}
use Rattle.mem_machine.proofs.Sight.{left_seen, left_then}

-- parts that have the same books, of the same groups
pub record HaveSameBooks (a b : ℕ → Part) : Type 0 where
  pub book : (k : ℕ) → (b k).book ≡ (a k).book
  pub group : (k : ℕ) → (b k).stock.group ≡ (a k).stock.group

-- ---- steps that book nothing

-- the books and the owners of a hidden state are the state's
pub sums_shown : {room : ℕ} (cpus : ℕ) (s : State) (sums : List ℕ) → AreBooked room cpus s.parts sums → AreBooked room cpus (hide s).parts sums
sums_shown cpus s sums are = record { size = are.size; each = are.each }

pub sums_hidden : {room : ℕ} (cpus : ℕ) (s : State) (sums : List ℕ) → AreBooked room cpus (hide s).parts sums → AreBooked room cpus s.parts sums
sums_hidden cpus s sums are = record { size = are.size; each = are.each }

pub owners_shown : (cpus : ℕ) (s : State) (owners : List (Option ℕ)) → AreOwners cpus s.parts owners → AreOwners cpus (hide s).parts owners
owners_shown cpus s owners are = record { size = are.size; few = are.few; each = are.each; beyond = are.beyond }

pub owners_hidden : (cpus : ℕ) (s : State) (owners : List (Option ℕ)) → AreOwners cpus (hide s).parts owners → AreOwners cpus s.parts owners
owners_hidden cpus s owners are = record { size = are.size; few = are.few; each = are.each; beyond = are.beyond }

module _ (t : KnownTable) (m : KnownMachine) (is : IsHeld t m.run.past) where
  -- the sums and owners, of what the lock's holder sees
  pub sums_seen : (sums : List ℕ) → AreBooked (length m.killed) t.cpus (left_by t m.run.past).parts sums → AreBooked (length m.killed) t.cpus (local_of t m).parts sums
  sums_seen sums are = sums_hidden t.cpus (local_of t m) sums (subst (λ (u : State). AreBooked (length m.killed) t.cpus u.parts sums) (left_seen t m.run.past is) are)

  pub owners_seen : (owners : List (Option ℕ)) → AreOwners t.cpus (left_by t m.run.past).parts owners → AreOwners t.cpus (local_of t m).parts owners
  owners_seen owners are = owners_hidden t.cpus (local_of t m) owners (subst (λ (u : State). AreOwners t.cpus u.parts owners) (left_seen t m.run.past is) are)

  module _ (steps : Run) (run : KnownRun) (noted : Records t m.run steps run) where
    -- those of what the steps made are those of what is left then
    pub sums_left : (sums : List ℕ) → AreBooked (length m.killed) t.cpus (fold after_made (local_of t m) steps).parts sums → AreBooked (length m.killed) t.cpus (left_by t run.past).parts sums
    sums_left sums are = subst (λ (u : State). AreBooked (length m.killed) t.cpus u.parts sums) (sym (left_then t m steps run is noted)) (sums_shown t.cpus (fold after_made (local_of t m) steps) sums are)

    pub owners_left : (owners : List (Option ℕ)) → AreOwners t.cpus (fold after_made (local_of t m) steps).parts owners → AreOwners t.cpus (left_by t run.past).parts owners
    owners_left owners are = subst (λ (u : State). AreOwners t.cpus u.parts owners) (sym (left_then t m steps run is noted)) (owners_shown t.cpus (fold after_made (local_of t m) steps) owners are)

    module _ (same : HaveSameBooks (local_of t m).parts (fold after_made (local_of t m) steps).parts) where
      -- steps that book nothing leave the sums and the owners
      pub sums_stay : (sums : List ℕ) → AreBooked (length m.killed) t.cpus (left_by t m.run.past).parts sums → AreBooked (length m.killed) t.cpus (left_by t run.past).parts sums
      sums_stay sums are = sums_left sums (sums_same t.cpus (local_of t m).parts (fold after_made (local_of t m) steps).parts sums (sums_seen sums are)
          (books_same t.cpus (local_of t m).parts (fold after_made (local_of t m) steps).parts same.book same.group))

      pub owners_stay : (owners : List (Option ℕ)) → AreOwners t.cpus (left_by t m.run.past).parts owners → AreOwners t.cpus (left_by t run.past).parts owners
      owners_stay owners are =
          let seen = owners_seen owners are in
          owners_left owners (record { size = seen.size; few = seen.few; each = λ place low. seen.each place low ∙ sym (same.group (place + 1)); beyond = seen.beyond })

-- the pages of a group that is there leave its books room for as many as its root has
pub room_booked : (t : KnownTable) (m now : KnownMachine) → m ≡ now → IsConsistent t m → AreCharges m.ledger → (g n : ℕ)
    → has_group now.ledger.groups g ≡ true → current_of now.ledger 0 + n < 2 ^ 32 → (h : ℕ) → h ≡ g → pages_booked t.cpus (left_by t m.run.past).parts h + n < 2 ^ 32
room_booked t m now same ok charges g n there fits h is =
    subst (λ (k : ℕ). pages_booked t.cpus (left_by t m.run.past).parts k + n < 2 ^ 32) (sym is)
    (let here : has_group m.ledger.groups g ≡ true = ap (λ (x : KnownMachine). has_group x.ledger.groups g) same ∙ there in
    let few : current_of m.ledger 0 + n < 2 ^ 32 = subst (λ (x : KnownMachine). current_of x.ledger 0 + n < 2 ^ 32) (sym same) fits in
    let own = pages-le-current m.ledger g here in
    let root = usage-le-root m.ledger g charges in
    let all = ok.shown.charged g in
    omega (arith, own, root, all, few))

-- the frames of a group are what is charged to it and isn't booked to its stocks
pub frames_rest : {room : ℕ} (t : KnownTable) (m now : KnownMachine) → m ≡ now → IsConsistent t m → (sums : List ℕ) → AreBooked room t.cpus (left_by t m.run.past).parts sums
    → (g : ℕ) → pages_of m.ledger g ≡ frames_charged now.frame_states g + get_or sums g 0
frames_rest t m now same ok sums are g =
    let all = ok.shown.charged g in
    let sum = are.each g in
    let here = ap (λ (x : KnownMachine). frames_charged x.frame_states g) same in
    omega (arith, all, sum, here)

-- a group that isn't there has none
pub frames_none : (t : KnownTable) (m now : KnownMachine) → m ≡ now → IsConsistent t m → AreCharges m.ledger → (g : ℕ)
    → has_group m.ledger.groups g ≡ false → 0 ≡ frames_charged now.frame_states g
frames_none t m now same ok charges g gone = elim (cases_lt 0 (pages_of m.ledger g)) [
  | inl some ↦ absurd (false≢true (sym gone ∙ charged_there m.ledger g charges some))
  | inr none ↦
      let all = ok.shown.charged g in
      let here : ◌≡◌ {A = ℕ} 0 (frames_charged m.frame_states g) = omega (arith, all, none) in
      here ∙ ap (λ (x : KnownMachine). frames_charged x.frame_states g) same
]

-- ---- a run that leaves the same

-- the fields stay, and what the run leaves
pub sound_same : {N : Type 0} (t : KnownTable) (fields : Inside N) → IsSoundMachine t fields → (run : KnownRun) → left_by t run.past ≡ left_by t fields.past
    → IsSoundMachine {N = N} t (record fields { past = run.past; watch = run.watch })
sound_same {N} t fields ok run left =
    let was = ok.consistent in
    let shown = was.shown in record {
      consistent = record {
        choice = was.choice;
        sizes = record { frame_states = was.sizes.frame_states; links = was.sizes.links; lists = was.sizes.lists; killed = was.sizes.killed };
        areas = was.areas;
        frame_states = was.frame_states;
        units = was.units;
        lists = was.lists;
        balances = was.balances;
        shown = subst (IsShownBy t (machine_of {N = N} (record fields { past = run.past; watch = run.watch }))) (sym left) (record {
          groups = shown.groups;
          killed = shown.killed;
          phases = shown.phases;
          references = shown.references;
          settled = shown.settled;
          absorbed = shown.absorbed;
          bounded = shown.bounded;
          charged = shown.charged;
        });
      };
      free = ok.free;
      clean = ok.clean;
      sums = subst (λ (s : State). AreBooked (length fields.killed.items) t.cpus s.parts fields.sums.items) (sym left) ok.sums;
      owners = subst (λ (s : State). AreOwners t.cpus s.parts fields.owners) (sym left) ok.owners;
    }
