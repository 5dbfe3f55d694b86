-- How many pages more than wanted a turn frees. Serves `try_reclaim` and the laws.
use Rattle.std.proofs.Common.{◌≡◌, ℕ, ◌+◌, ◌-◌, ◌^◌, ◌<◌, ◌≤◌, ◌&&◌, ◌==◌, Bool, true, false, Option, Some, None, List, [], ◌∷◌, refl, sym, ap, ◌∙◌, inl, inr, arith, cond}
use Rattle.std.specs.Prelude.{min, nat_lt, unwrap_or}
use Rattle.std.proofs.Math.Pow.{pow_mono}
use Rattle.std.proofs.lemmas.Bool.{cases_lt, cond-false, ne_eqb, true≢false}
use Rattle.lru_lists.specs.declared.record.LruList.{LruList}
use Rattle.lru_lists.specs.declared.record.LruList.TheVariants.{Inactive, Active}
use Rattle.group_charge.specs.Charges.{current_of}
use Rattle.group_charge.specs.declared.note.Note.{Note}
use Rattle.group_charge.specs.declared.note.Note.TheVariants as note
use Rattle.group_protection.specs.Protections.{effective, low_key, min_key}
use Rattle.step_rules.specs.After.{is_within}
use Rattle.step_rules.specs.declared.phase.ChargedUnit.{ChargedUnit}
use Rattle.boot_words.specs.Tables.{KnownTable}
use Rattle.mem_machine.specs.declared.frame_state.FrameState.{FrameState}
use Rattle.mem_machine.specs.declared.frame_state.FrameState.TheVariants.{Free, Head}
use Rattle.mem_machine.specs.FrameStates.{frame_state_at}
use Rattle.mem_machine.specs.{IsConsistent, KnownMachine, clean_pages, Evicts, entries_in}
use Rattle.mem_reclaim.specs.declared.passes.Pass.{Pass}
use Rattle.mem_reclaim.specs.declared.passes.Pass.TheVariants.{First, Second, Third}
use Rattle.mem_reclaim.specs.Passes.{NotesLowIf, PassesGroup, ReclaimsGroup, TakesTurn, notes_spared, spared_by, with_detail_if}
use Rattle.mem_reclaim.specs.Units.{ScansList, TriesReclaim, TriesReclaimAs}
use Rattle.mem_reclaim.specs.Wanted.{Progress, Reclaiming, WhileWanted, progress}
use Rattle.mem_reclaim.specs.Laws.{TurnsFreeFewMore, TurnsOfFramesLeaveMin, UnitsHaveAtMost, wanted_of}

-- ---- units

pub units_few : (t : KnownTable) (m : KnownMachine) → IsConsistent t m → UnitsHaveAtMost 1024 m
units_few t m ok f unit is = pow_mono {i = unit.order} {j = 10} (ok.units.heads f unit is).block.order

pub evicted_few : (f : ℕ) (answer : Option ℕ) (m n : KnownMachine) → UnitsHaveAtMost 1024 m → Evicts f answer m n
    → (freed : ℕ) → freed ≡ unwrap_or answer 0 → freed ≤ 1024
evicted_few f None m n units is freed pages = omega (arith, pages)
evicted_few f (Some p) m n units is freed pages = let few = units f is.unit is.heads in let size = is.size in omega (arith, pages, few, size)

same_units : (most : ℕ) (m n : KnownMachine) → n.frame_states ≡ m.frame_states → UnitsHaveAtMost most m → UnitsHaveAtMost most n
same_units most m n same units f unit is = units f unit (ap (λ (l : List FrameState). frame_state_at l f) (sym same) ∙ is)

abbrev is_free : FrameState → Bool
is_free Free = true
is_free other = false

no_head : (unit : ChargedUnit) → Free ≡ Head unit → ⊥
no_head unit is = true≢false (ap is_free is)

-- a pass spares at least what memory.min protects
spares_min : (pass : Pass) (least low : ℕ) → least ≤ spared_by pass least low
spares_min First least low = omega arith
spares_min Second least low = omega arith
spares_min Third least low = omega arith

-- ---- one thing after another

-- at most this many pages more than wanted were freed, and no unit grew
record Few (most want : ℕ) (done : Progress) : Type 0 where
  pub freed : done.freed < want + most
  pub units : UnitsHaveAtMost most done.after

while_none : {A : Type 0} (does : A → ℕ → Reclaiming) (things : List A) (want : ℕ) (done : Progress) → want ≡ 0 → WhileWanted does things want done → done.freed ≡ 0
while_none does [] want done none h = h.no_page
while_none does (x ∷ xs) want done none (inl h) = h.1.no_page
while_none does (x ∷ xs) want done none (inr h) = let some = h.0 in absurd (omega (arith, none, some))

module _ (most : ℕ) (one : 1 ≤ most) where
  rests : (want : ℕ) (done : Progress) → UnitsHaveAtMost most done.before → done.freed ≡ 0 → done.after.frame_states ≡ done.before.frame_states → Few most want done
  rests want done units none same = record { freed = omega (arith, none, one); units = same_units most done.before done.after same units }

  while_few : {A : Type 0} (does : A → ℕ → Reclaiming)
      → ((thing : A) (want : ℕ) (done : Progress) → 1 ≤ want → UnitsHaveAtMost most done.before → does thing want done → Few most want done)
      → (things : List A) (want : ℕ) (done : Progress) → UnitsHaveAtMost most done.before → WhileWanted does things want done → Few most want done
  while_few does each [] want done units h = rests want done units h.no_page (ap (λ (m : KnownMachine). m.frame_states) h.machine)
  while_few does each (x ∷ xs) want done units (inl h) = rests want done units h.1.no_page (ap (λ (m : KnownMachine). m.frame_states) h.1.machine)
  while_few does each (x ∷ xs) want done units (inr h) =
      let both = h.1 in
      let last = progress both.more both.between both.later done.after in
      let first = each x want (progress both.some done.before both.earlier both.between) h.0 units both.first in
      let rest = while_few does each xs (want - both.some) last first.units both.second in
      let sum = both.freed_is in
      let a = first.freed in
      let b = rest.freed in
      record {
        freed = elim (cases_lt both.some want) [
          | inl more ↦ omega (arith, sum, b, more)
          | inr enough ↦ let none = while_none does xs (want - both.some) last (omega (arith, enough)) both.second in omega (arith, sum, a, none)
        ];
        units = rest.units;
      }

  -- ---- a unit

  evicts_few : (f : ℕ) (answer : Option ℕ) (want : ℕ) (done : Progress) → 1 ≤ want → UnitsHaveAtMost most done.before
      → Evicts f answer done.before done.after → done.freed ≡ unwrap_or answer 0 → Few most want done
  evicts_few f None want done some units is pages = rests want done units pages (ap (λ (m : KnownMachine). m.frame_states) is)
  evicts_few f (Some p) want done some units is pages =
      let size = is.size in
      let few = units f is.unit is.heads in
      record {
        freed = omega (arith, pages, size, few, some);
        units = λ g unit head. still g unit (is_within f (2 ^ is.unit.order) g) (sym (is.frees.records g) ∙ head);
      }
    where
      still : (g : ℕ) (unit : ChargedUnit) (b : Bool) → cond b Free (frame_state_at done.before.frame_states g) ≡ Head unit → 2 ^ unit.order ≤ most
      still g unit true head = absurd (no_head unit head)
      still g unit false head = units g unit head

  tries_few : (dirty spared : Bool) (g f want : ℕ) (done : Progress) → 1 ≤ want → UnitsHaveAtMost most done.before
      → TriesReclaimAs dirty spared g f done → Few most want done
  tries_few true spared g f want done some units h = rests want done units h.no_page (ap (λ (m : KnownMachine). m.frame_states) h.machine)
  tries_few false true g f want done some units h = rests want done units h.no_page (ap (λ (m : KnownMachine). m.frame_states) h.renews.machine)
  tries_few false false g f want done some units h = evicts_few f h.answer want done some units h.evicts h.pages

  scans_few : (spares : Bool) (g : ℕ) (list : LruList) (want : ℕ) (done : Progress) → UnitsHaveAtMost most done.before → ScansList spares g list want done → Few most want done
  scans_few spares g list want done units h =
      while_few (TriesReclaim spares g) (λ e some d wanted u t. tries_few e.is_dirty (spares && e.is_marked) g e.number some d wanted u t)
      (entries_in done.before g list) want done units h

  -- ---- a turn

  passes_few : (first : Bool) (g want : ℕ) (done : Progress) → UnitsHaveAtMost most done.before → PassesGroup first g want done → Few most want done
  passes_few true g want done units h =
      let scanned = scans_few true g Inactive want (progress done.freed h.aged done.steps done.after)
      (same_units most done.before h.aged (ap (λ (m : KnownMachine). m.frame_states) h.ages.machine) units) h.scans in
      record { freed = scanned.freed; units = scanned.units }
  passes_few false g want done units h =
      while_few (ScansList false g) (λ list some d wanted u s. scans_few false g list some d u s) (Inactive ∷ Active ∷ []) want done units h

  notes_few : (b : Bool) (g : ℕ) (detail : Note) (want : ℕ) (done : Progress) → UnitsHaveAtMost most done.before
      → NotesLowIf b g detail (PassesGroup false g want) done → Few most want done
  notes_few false g detail want done units h = passes_few false g want done units h
  notes_few true g detail want done units h =
      let scanned = passes_few false g want (progress done.freed done.before h.earlier h.reclaimed) units h.does in
      record {
        freed = scanned.freed;
        units = same_units most h.reclaimed done.after (ap (λ (m : KnownMachine). m.frame_states) h.noted) scanned.units;
      }

  group_few : (pass : Pass) (of_min of_low usage g want : ℕ) (done : Progress) → UnitsHaveAtMost most done.before
      → ReclaimsGroup pass of_min of_low usage g want done → Few most want done
  group_few First of_min of_low usage g want done units h = passes_few true g want done units h
  group_few Second of_min of_low usage g want done units h = passes_few false g want done units h
  group_few Third of_min of_low usage g want done units h =
      notes_few (nat_lt of_min of_low && nat_lt 0 done.freed) g (note.Low g usage of_min of_low) want done units h

same_states : (b : Bool) (m : KnownMachine) (detail : Note) → (with_detail_if b m detail).frame_states ≡ m.frame_states
same_states true m detail = refl
same_states false m detail = refl

module _ (pass : Pass) (target g want : ℕ) (done : Progress) where
  abbrev least : ℕ
  least = effective min_key done.before.ledger target g

  abbrev low : ℕ
  low = effective low_key done.before.ledger target g

  abbrev used : ℕ
  used = current_of done.before.ledger g

  abbrev wanted : ℕ
  wanted = wanted_of pass target g want done.before

  abbrev begun : KnownMachine
  begun = with_detail_if (notes_spared pass (clean_pages done.before g) want wanted) done.before (note.Spared g used least low)

  few_more : (most : ℕ) → 1 ≤ most → UnitsHaveAtMost most done.before → TakesTurn pass target g want done → done.freed < wanted + most
  few_more most one units (inl none) = let z = none.1.no_page in omega (arith, z, one)
  few_more most one units (inr some) =
      (group_few most one pass least low used g wanted (progress done.freed begun done.steps done.after)
      (same_units most done.before begun
      (same_states (notes_spared pass (clean_pages done.before g) want wanted) done.before (note.Spared g used least low)) units) some.1).freed

  leaves_min : UnitsHaveAtMost 1 done.before → TakesTurn pass target g want done → 1 ≤ least → done.freed ≤ used - least
  leaves_min units turn protected =
      let few = few_more 1 (omega arith) units turn in
      let more = spares_min pass least low in
      let is : wanted ≡ min want (used - spared_by pass least low) =
      cond-false (spared_by pass least low == 0) want (min want (used - spared_by pass least low)) (ne_eqb (spared_by pass least low) 0 (λ none. omega (arith, none, more, protected))) in
      omega (arith, few, more, is)

pub turns_free_few_more : TurnsFreeFewMore
turns_free_few_more pass target g want most done one units turn = few_more pass target g want done most one units turn

pub turns_of_frames_leave_min : TurnsOfFramesLeaveMin
turns_of_frames_leave_min pass target g want done units turn protected = leaves_min pass target g want done units turn protected
