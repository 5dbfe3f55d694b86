-- The first machine is consistent. Serves `new`.
use Rattle.std.proofs.Common.{◌≡◌, ℕ, ◌+◌, ◌<◌, ◌≤◌, Bool, true, false, Option, None, List, [], ◌∷◌, length, replicate, get_or, refl, sym, ap, ◌∙◌}
use Rattle.std.proofs.Common.{subst, inl, inr, arith, zero, suc, ◌==◌, ◌++◌}
use Rattle.std.proofs.lemmas.Bool.{cases_lt, cases_eq, ne_eqb}
use Rattle.std.proofs.lemmas.List.{get_or-replicate, length-replicate, length_push, get_or_append_left, get_or_push}
use Rattle.group_tree.specs.Groups.{room_of}
use Rattle.group_tree.proofs.GroupLemmas.{room_of-initial}
use Rattle.zone_blocks.specs.Areas.{AreMaximalBlocks}
use Rattle.std.specs.Prelude.{◌-◌, is_some, min}
use Rattle.group_tree.specs.Bounds.{most_groups}
use Rattle.group_charge.specs.Charges.{Ledger, pages_of, account_at}
use Rattle.group_charge.specs.Notes.{no_notes}
use Rattle.lru_lists.specs.declared.record.Link.{Link}
use Rattle.lru_lists.specs.declared.record.Home.{Home}
use Rattle.lru_lists.specs.declared.lru.Lru.{Lru}
use Rattle.lru_lists.specs.{AllLinked, AreLinked, HasNoUnits, list_at, AreNowhere}
use Rattle.step_rules.specs.declared.phase.ChargedUnit.{ChargedUnit}
use Rattle.step_rules.proofs.Sums.{sum_none}
use Rattle.mem_machine.specs.declared.frame_state.FrameState.{FrameState}
use Rattle.mem_machine.specs.declared.frame_state.FrameState.TheVariants.{Free, Head, Tail}
use Rattle.mem_machine.specs.Machines.{boot_ledger, boot_room}
use Rattle.mem_machine.specs.{frame_state_at, free_of, frame_state_group, one_if_is, phase_hidden, AreUnits, AreEmpty, no_counts, KnownMachine}
use Rattle.mem_machine.specs.{FitsFrameState, IsConsistent, IsFirst, IsShownBy, BalancesCounts, home_of, frames_charged, left_by, pages_booked}
use Rattle.mem_machine.specs.{booked, AreBooked, AreOwners, Rests}
use Rattle.step_rules.specs.State.{State, Zone, at_boot, is_unheld, one_if}
use Rattle.step_rules.specs.After.{state_of}
use Rattle.boot_words.specs.{hide, IsZonePast, KnownPasts, own_past, seat_at_first, zone_of_boot, KnownTable}

pub empty_none : (lists : List Lru) → lists ≡ [] → AreEmpty lists 0
empty_none lists none = record {
  count = ap length none;
  owned = λ k any inside. let e = ap length none in absurd (omega arith);
  stand = λ k any inside. let e = ap length none in absurd (omega arith);
}

pub empty_pushed : (lists more : List Lru) (n : ℕ) (new : Lru) → AreEmpty lists n → new.owner ≡ n
    → ((links : List Link) → HasNoUnits links n → AreLinked links new) → more ≡ lists ++ new ∷ [] → AreEmpty more (n + 1)
empty_pushed lists more n new empty owner stands is = subst (λ (l : List Lru). AreEmpty l (n + 1)) (sym is)
    (let count = empty.count in let longer = length_push lists new in record {
      count = omega (arith, count, longer);
      owned = λ k any inside. elim (cases_lt k n) [
        | inl below ↦
            let same : get_or (lists ++ new ∷ []) k any ≡ get_or lists k any = get_or_append_left lists (new ∷ []) any k (omega arith) in
            ap (λ (l : Lru). l.owner) same ∙ empty.owned k any (omega arith)
        | inr past ↦
            let last : k ≡ n = omega arith in
            let same : get_or (lists ++ new ∷ []) k any ≡ new = get_or_push lists new any k (omega arith) in
            ap (λ (l : Lru). l.owner) same ∙ owner ∙ sym last
      ];
      stand = λ k any inside links away. elim (cases_lt k n) [
        | inl below ↦
            let same : get_or (lists ++ new ∷ []) k any ≡ get_or lists k any = get_or_append_left lists (new ∷ []) any k (omega arith) in
            subst (AreLinked links) (sym same) (empty.stand k any (omega arith) links away)
        | inr past ↦
            let same : get_or (lists ++ new ∷ []) k any ≡ new = get_or_push lists new any k (omega arith) in
            subst (AreLinked links) (sym same) (stands links (λ f. ap (λ (l : Link). list_at l.home n) (away f)))
      ];
    })

pub empty_stand : (lists : List Lru) (n : ℕ) → AreEmpty lists n → (links : List Link) → AreNowhere links → AllLinked links lists
empty_stand lists n empty links away = λ k any inside. (empty.owned k any inside, empty.stand k any inside links away)

pub free_all : (n : ℕ) → free_of (replicate n Free) ≡ replicate n true
free_all zero = refl
free_all (suc n) = ap (λ (l : List Bool). true ∷ l) (free_all n)

pub repeated : {X : Type 0} (n i : ℕ) (x : X) → get_or (replicate n x) i x ≡ x
repeated n i x = elim (cases_lt i n) [ inl inside ↦ get_or-replicate n i x x inside | inr past ↦ beyond n i x past ]
  where
    beyond : {X : Type 0} (n i : ℕ) (x : X) → n ≤ i → get_or (replicate n x) i x ≡ x
    beyond zero i x past = refl
    beyond (suc n) zero x past = absurd (omega arith)
    beyond (suc n) (suc i) x past = beyond n i x (omega arith)

not_head : (unit : ChargedUnit) → Free ≡ Head unit → ⊥
not_head unit e = cc

not_tail : (g : ℕ) → Free ≡ Tail g → ⊥
not_tail g e = cc

no_pages : (groups g : ℕ) → pages_of (boot_ledger groups) g ≡ 0
unfolding pages_of account_at
no_pages groups g = elim (cases_eq 0 g) [
  | inl e ↦ subst (λ (h : ℕ). pages_of (boot_ledger groups) h ≡ 0) e refl
  | inr ne ↦ let none : (0 == g) ≡ false = ne_eqb 0 g ne in rw none refl
]

none_booked : (cpus : ℕ) (zone : Zone) (g : ℕ) → pages_booked cpus (hide (at_boot zone)).parts g ≡ 0
none_booked cpus zone g = sum_none (cpus + 1) (λ p. booked g ((hide (at_boot zone)).parts p)) (λ p inside. refl)

module _ (t : KnownTable) (m : KnownMachine) (first : IsFirst t m) where
  all_free : (f : ℕ) → frame_state_at m.frame_states f ≡ Free
  all_free f = ap (λ (l : List FrameState). get_or l f Free) first.frame_states ∙ repeated t.frames f Free

  no_home : (f : ℕ) → home_of m.links f ≡ None
  no_home f = ap (λ (l : Link). l.home) (first.nowhere f)

  -- no step was made
  pub left_first : left_by t m.run.past ≡ hide (at_boot (zone_of_boot t))
  left_first = ap (left_by t) first.past

  units_first : AreUnits m.frame_states
  units_first = record {
    heads = λ f unit is. absurd (not_head unit (sym (all_free f) ∙ is));
    tails = λ x g is. absurd (not_tail g (sym (all_free x) ∙ is));
  }

  frame_states_first : (f : ℕ) → f < t.frames → FitsFrameState (room_of m.ledger.groups) (home_of m.links f) (frame_state_at m.frame_states f)
  frame_states_first f inside = subst (λ (x : Option Home). FitsFrameState (room_of m.ledger.groups) x (frame_state_at m.frame_states f)) (sym (no_home f)) tt

  charged_first : (g : ℕ) → pages_of m.ledger g ≡ frames_charged m.frame_states g + pages_booked t.cpus (hide (at_boot (zone_of_boot t))).parts g
  charged_first g =
      let pages : pages_of m.ledger g ≡ 0 = ap (λ (l : Ledger). pages_of l g) first.ledger ∙ no_pages t.choices.groups g in
      let frames : frames_charged m.frame_states g ≡ 0 =
      sum_none (length m.frame_states) (λ f. one_if_is g (frame_state_group (frame_state_at m.frame_states f))) (λ f inside. ap (λ (x : FrameState). one_if_is g (frame_state_group x)) (all_free f)) in
      let books = none_booked t.cpus (zone_of_boot t) g in
      omega (arith, pages, frames, books)

  shown_first : IsShownBy t m (hide (at_boot (zone_of_boot t)))
  shown_first = record {
    groups = sym (ap (λ (l : Ledger). l.groups) first.ledger);
    killed = λ g. sym (ap (λ (l : List Bool). get_or l g false) first.killed ∙ repeated (boot_room t.choices.groups) g false);
    phases = λ f. sym (ap phase_hidden (all_free f));
    references = λ f. sym (ap (λ (h : Option Home). one_if (is_some h)) (no_home f));
    settled = λ g. refl;
    absorbed = λ p. refl;
    bounded = λ p. omega arith;
    charged = charged_first;
  }

  room_first : room_of m.ledger.groups ≡ boot_room t.choices.groups
  room_first = ap (λ (l : Ledger). room_of l.groups) first.ledger ∙ room_of-initial (min t.choices.groups most_groups - 1) ∙ omega arith

  consistent_first : AreMaximalBlocks (free_of m.frame_states) m.blocks → length m.links ≡ t.frames → length m.lists ≡ boot_room t.choices.groups → AllLinked m.links m.lists → IsConsistent t m
  consistent_first areas links lists stand = record {
    choice = first.is_proportional;
    sizes = record {
      frame_states = ap length first.frame_states ∙ length-replicate t.frames Free;
      links = links;
      lists = lists ∙ sym room_first;
      killed = ap length first.killed ∙ length-replicate (boot_room t.choices.groups) false ∙ sym room_first;
    };
    areas = areas;
    frame_states = frame_states_first;
    units = units_first;
    lists = stand;
    balances = subst BalancesCounts (sym first.counts) refl;
    shown = subst (IsShownBy t m) (sym left_first) shown_first;
  }

  -- what the parts of the first machine are made of
  pub starts : (free : List Bool) (frames : ℕ) → frames ≡ t.frames → length m.links ≡ frames
      → AreEmpty m.lists (boot_room t.choices.groups) → free ≡ replicate frames true → AreMaximalBlocks free m.blocks → IsConsistent t m × (free ≡ free_of m.frame_states)
  starts free frames sized links empty all areas =
      let same : free ≡ free_of m.frame_states = all ∙ ap (λ (n : ℕ). replicate n true) sized ∙ sym (ap free_of first.frame_states ∙ free_all t.frames) in (
        consistent_first (subst (λ (l : List Bool). AreMaximalBlocks l m.blocks) same areas) (links ∙ sized) empty.count
            (empty_stand m.lists (boot_room t.choices.groups) empty m.links first.nowhere),
        same,
      )

  -- nothing is booked
  pub sums_first : (marks : List Bool) (room : ℕ) → marks ≡ replicate room false → (sums : List ℕ) → sums ≡ replicate room 0
      → AreBooked (length marks) t.cpus (left_by t m.run.past).parts sums
  sums_first marks room unmarked sums zeros = subst (λ (u : State). AreBooked (length marks) t.cpus u.parts sums) (sym left_first) (record {
    size = ap length zeros ∙ length-replicate {A = ℕ} room 0 ∙ sym (ap length unmarked ∙ length-replicate room false);
    each = λ g. ap (λ (l : List ℕ). get_or l g 0) zeros ∙ repeated room g 0 ∙ sym (none_booked t.cpus (zone_of_boot t) g);
  })

  pub owners_first : (owners : List (Option ℕ)) → owners ≡ replicate 64 None → t.cpus ≤ 64 → AreOwners t.cpus (left_by t m.run.past).parts owners
  owners_first owners none few = subst (λ (u : State). AreOwners t.cpus u.parts owners) (sym left_first) (record {
    size = ap length none ∙ length-replicate {A = Option ℕ} 64 None;
    few = few;
    each = λ place low. nobody place;
    beyond = λ place past. nobody place;
  })
    where
      nobody : (place : ℕ) → get_or owners place None ≡ None
      nobody place = ap (λ (l : List (Option ℕ)). get_or l place None) none ∙ repeated {X = Option ℕ} 64 place None

  -- nobody holds the lock
  pub rests_first : Rests t m
  rests_first = record {
    past_is = subst (IsZonePast t) (sym first.past) (record { table_is = refl; alone = refl; zone_is = refl; legal = λ k. tt });
    free = ap (λ (s : KnownPasts). is_unheld (state_of (zone_of_boot t) (own_past s).seen).hold) first.past;
  }

pub first_is : (t : KnownTable) (m : KnownMachine) (frames : ℕ) → frames ≡ t.frames → m.frame_states ≡ replicate frames Free
    → m.ledger ≡ boot_ledger t.choices.groups → AreNowhere m.links → m.killed ≡ replicate (boot_room t.choices.groups) false → m.counts ≡ no_counts
    → m.notes ≡ no_notes → m.is_proportional ≡ t.choices.is_proportional → m.run.past ≡ seat_at_first t.table 0 → IsFirst t m
first_is t m frames sized frame_states ledger nowhere killed counts notes choice past = record {
  frame_states = frame_states ∙ ap (λ (n : ℕ). replicate n Free) sized;
  ledger = ledger;
  nowhere = nowhere;
  killed = killed;
  counts = counts;
  notes = notes;
  is_proportional = choice;
  past = past;
}
