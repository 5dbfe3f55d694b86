-- From the steps of get and put to the contracts of the calls.
use Rattle.std.proofs.Common.{[], ◌≡◌, ◌≢◌, ℕ, ◌+◌, ◌-◌, ◌%◌, ◌^◌, ◌<◌, ◌≤◌, ◌==◌, ◌&&◌, Bool, true, false, cond, List, ◌∷◌, refl, ap, sym, ◌∙◌, subst, arith, inl, inr}
use Rattle.std.specs.Prelude.{◌⊎◌, nat_le}
use Rattle.std.proofs.lemmas.Bool.{cases_Bool, cond-false, leb-true, ne_eqb}
use prog.Atomic.{either}
use Rattle.step_rules.specs.declared.step.Action.{Action}
use Rattle.step_rules.specs.declared.step.Action.TheVariants.{Get, Put}
use Rattle.step_rules.specs.declared.step.Answer.{Answer}
use Rattle.step_rules.specs.declared.step.Answer.TheVariants.{Full, Held, Zero}
use Rattle.step_rules.specs.{is_frame, get_answer, state_of, IsLegalRun, holds_lock, most_references}
use Rattle.step_rules.proofs.Freeing.{zone_of_run}
use Rattle.step_rules.proofs.LegalTests.{get_tests, put_tests}
use Rattle.step_rules.proofs.SoundSteps.{below_frames}
use Rattle.boot_words.specs.{GrewBy, KnownPasts, first_past, own_past, IsCpuPast, MayDo, zone_of_boot, MayChange, CpuMakes, KnownTable}
use Rattle.boot_words.specs.declared.past.Past.{Past}
use Rattle.boot_words.proofs.WordCounts.{held_answer}
use Rattle.boot_words.specs.declared.word.Word.TheVariants.{OfFrame}
use Rattle.boot_words.proofs.Fast.{Made}
use Rattle.boot_words.proofs.Referring.{Adds, Puts, SawWord, Sees, full_not_held, may_add, may_put, may_see, zero_not_held}

pub not_zone : (t : KnownTable) (s : KnownPasts) → IsCpuPast t s → (own_past s).number ≢ 0
not_zone t s is none = let low = is.low in absurd (omega (arith, low, none))

-- a legal step is of a frame of the table
pub frame_of_get : (t : KnownTable) (s : KnownPasts) (f : ℕ) → MayDo t s (Get f) → f < t.frames
frame_of_get t s f legal =
    let zone = zone_of_boot t in
    below_frames zone f (ap (λ z. is_frame z f) (sym (zone_of_run zone (own_past s).seen)) ∙ (get_tests (state_of zone (own_past s).seen) (own_past s).number f legal).1)

pub frame_of_put : (t : KnownTable) (s : KnownPasts) (f : ℕ) → MayDo t s (Put f) → f < t.frames
frame_of_put t s f legal =
    let zone = zone_of_boot t in
    below_frames zone f (ap (λ z. is_frame z f) (sym (zone_of_run zone (own_past s).seen)) ∙ (put_tests (state_of zone (own_past s).seen) (own_past s).number f legal).1)

pub sees : (t : KnownTable) (s : KnownPasts) (f : ℕ) → IsCpuPast t s → MayDo t s (Get f)
    → MayChange (zone_of_boot t) s.pasts (OfFrame f) (λ n. n) (Sees (zone_of_boot t) (own_past s) f)
sees t s f is legal =
    let zone = zone_of_boot t in
    subst (λ (l : List Past). MayChange zone l (OfFrame f) (λ n. n) (Sees zone (own_past s) f)) (sym is.alone)
    (may_see zone (own_past s) f (not_zone t s is) (frame_of_get t s f legal) legal)

pub adds : (t : KnownTable) (s : KnownPasts) (f seen : ℕ) (saw : List Past) → IsCpuPast t s → holds_lock (own_past s).number (state_of (zone_of_boot t) (own_past s).seen).hold ≡ false
    → MayDo t s (Get f) → 1 ≤ seen → seen < most_references → SawWord (zone_of_boot t) (own_past s) f seen saw
    → MayChange (zone_of_boot t) saw (OfFrame f) (λ n. either (n == seen) (seen + 1) n) (Adds (zone_of_boot t) (own_past s) f seen)
adds t s f seen saw is away legal low high w =
    may_add (zone_of_boot t) (own_past s) f seen saw (not_zone t s is) away (frame_of_get t s f legal) low high legal w

pub puts : (t : KnownTable) (s : KnownPasts) (f : ℕ) → IsCpuPast t s → MayDo t s (Put f)
    → MayChange (zone_of_boot t) s.pasts (OfFrame f) (λ n. (n + (2 ^ 64 - 1)) % 2 ^ 64) (Puts (zone_of_boot t) (own_past s) f)
puts t s f is legal =
    let zone = zone_of_boot t in
    subst (λ (l : List Past). MayChange zone l (OfFrame f) (λ n. (n + (2 ^ 64 - 1)) % 2 ^ 64) (Puts zone (own_past s) f)) (sym is.alone)
    (may_put zone (own_past s) f (not_zone t s is) legal)

-- the call was a step
pub made : (t : KnownTable) (s : KnownPasts) (action : Action) (answer : Answer) (s' : KnownPasts) → IsCpuPast t s → s'.table ≡ s.table
    → Made (zone_of_boot t) (own_past s) action answer s'.pasts → CpuMakes t s action answer s'
made t s action answer s' is table m =
    let p = own_past s in
    let past : own_past s' ≡ m.past = ap first_past m.later_is in
    let number : (own_past s').number ≡ p.number = ap (λ (q : Past). q.number) past ∙ m.grew.number in record {
      is_past = record {
        table_is = table ∙ is.table_is;
        alone = m.later_is ∙ ap (λ (q : Past). q ∷ []) (sym past);
        low = subst (λ n. 1 ≤ n) (sym number) is.low;
        high = subst (λ n. n ≤ t.cpus) (sym number) is.high;
        legal = subst (λ (q : Past). IsLegalRun (zone_of_boot t) q.seen) (sym past) m.legal;
      };
      grew = subst (λ (q : Past). GrewBy p (record { seat = p.number; action = action }) answer q) (sym past) m.grew;
    }

-- the call was none, and the seat is what it was
pub same : (t : KnownTable) (s s' : KnownPasts) → IsCpuPast t s → s'.table ≡ s.table → s'.pasts ≡ own_past s ∷ [] → s' ≡ s
same t s s' is table later i = record { table = table i; pasts = (later ∙ sym is.alone) i }

-- ---- the answers of a get

not_le : (a b : ℕ) → b < a → nat_le a b ≡ false
not_le a b h = elim (cases_Bool (nat_le a b)) [
  | inl e ↦ absurd (let l = leb-true a b e in omega arith)
  | inr e ↦ e
]

and_not : (b : Bool) → (b && false) ≡ false
and_not true = refl
and_not false = refl

high_answer : (n : ℕ) → 255 < n → get_answer n ≡ Zero
high_answer n high =
    cond-false (nat_le 1 n && nat_le n 254) Held (cond (n == 255) Full Zero) (ap (λ b. nat_le 1 n && b) (not_le n 254 (omega (arith, high))) ∙ and_not (nat_le 1 n))
    ∙ cond-false (n == 255) Full Zero (ne_eqb n 255 (λ e. absurd (omega (arith, high, e))))

zero_answer : (n : ℕ) → (n ≡ 0) ⊎ (((n ≡ 0) → ⊥) × (255 < n)) → get_answer n ≡ Zero
zero_answer n e = elim e [
  | inl none ↦ ap get_answer none
  | inr high ↦ high_answer n high.1
]

pub refuses : (t : KnownTable) (s : KnownPasts) (f found : ℕ) (answer : Answer) (s' : KnownPasts) → IsCpuPast t s → s'.table ≡ s.table
    → get_answer found ≡ answer → (answer ≡ Held → ⊥) → Sees (zone_of_boot t) (own_past s) f found s'.pasts → CpuMakes t s (Get f) answer s'
refuses t s f found answer s' is table says other post =
    made t s (Get f) answer s' is table (subst (λ a. Made (zone_of_boot t) (own_past s) (Get f) a s'.pasts) says (post.refused (λ held. other (sym says ∙ held))))

pub answers_zero : (t : KnownTable) (s : KnownPasts) (f found : ℕ) (s' : KnownPasts) → IsCpuPast t s → s'.table ≡ s.table
    → (found ≡ 0) ⊎ (((found ≡ 0) → ⊥) × (255 < found)) → Sees (zone_of_boot t) (own_past s) f found s'.pasts → CpuMakes t s (Get f) Zero s'
answers_zero t s f found s' is table e post = refuses t s f found Zero s' is table (zero_answer found e) zero_not_held post

pub answers_full : (t : KnownTable) (s : KnownPasts) (f found : ℕ) (s' : KnownPasts) → IsCpuPast t s → s'.table ≡ s.table
    → found ≡ 255 → Sees (zone_of_boot t) (own_past s) f found s'.pasts → CpuMakes t s (Get f) Full s'
answers_full t s f found s' is table e post = refuses t s f found Full s' is table (ap get_answer e) full_not_held post

-- a load that finds 1 to 254 decides nothing: the seat has seen the word
pub goes_on : (t : KnownTable) (s : KnownPasts) (f found : ℕ) (later : List Past) → ((found ≡ 0) → ⊥) → found ≤ 255 → ((found ≡ 255) → ⊥)
    → Sees (zone_of_boot t) (own_past s) f found later → SawWord (zone_of_boot t) (own_past s) f found later
goes_on t s f found later some high room post = post.goes_on (held_answer found (omega (arith, some)) (omega (arith, high, room)))
