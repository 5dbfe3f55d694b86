-- A CPU and the zone see the same run, and what a CPU knows then.
use Rattle.std.proofs.Common.{[], ◌≡◌, ℕ, zero, suc, ◌+◌, ◌≤◌, true, List, ◌∷◌, ◌++◌, length, refl, ap, sym, ◌∙◌, subst, arith, inl}
use Rattle.std.specs.Prelude.{slice_index}
use Rattle.step_rules.specs.declared.step.Step.{Step}
use Rattle.step_rules.specs.declared.step.Action.TheVariants.{Lock}
use Rattle.step_rules.specs.declared.step.Answer.{Answer}
use Rattle.step_rules.specs.declared.step.Answer.TheVariants.{Done}
use Rattle.step_rules.specs.State.{State}
use Rattle.step_rules.specs.{Zone, is_cpu, is_unheld, state_of, IsLegalRun, holds_lock}
use Rattle.step_rules.proofs.CoverParts.{own_part}
use Rattle.step_rules.proofs.Runs.{legal_from, state_more}
use Rattle.boot_words.specs.{SeesMore, hide, LeavesFree, HasNoStepOf, HasSameLists, stock_in, AllOf, BeginsRun, KnownPasts, IsCpuPast, IsZonePast}
use Rattle.boot_words.specs.{Meets, cpu_past, first_past, local_by_pasts, own_past, second_past, zone_of_boot, MayChange, first_alone, rest_of}
use Rattle.boot_words.specs.{IsAwayCpu, KnownCpuSeat, SawLast, cpu_at_first, cpus_at_first, KnownTable}
use Rattle.boot_words.specs.declared.past.Past.{Past}
use Rattle.boot_words.specs.Pasts.{Locks}
use Rattle.boot_words.proofs.Away.{away_stays}
use Rattle.boot_words.proofs.Holding.{take_length}
use Rattle.boot_words.proofs.Owning.{lists_are_own}
use Rattle.boot_words.proofs.Resting.{zone_rests}
use Rattle.boot_words.proofs.Each.{all_at}
use Rattle.boot_words.specs.declared.word.Word.TheVariants.{AlwaysZero}
use Rattle.boot_words.proofs.Fast.{sees_run}
use Rattle.boot_words.proofs.Growing.{past_of_run}
use Rattle.boot_words.proofs.Locking.{Takes, in_range, locked, not_none}
use Rattle.boot_words.proofs.Prepaying.{saw_still}
use Rattle.boot_words.proofs.Referring.{all_begin, all_seen}

-- both pasts have seen the whole run
pub record SeeSame (zone : Zone) (z c : Past) (found : ℕ) (later : List Past) : Type 0 where
  pub zone_past : Past
  pub cpu_past : Past
  pub later_is : later ≡ zone_past ∷ cpu_past ∷ []
  pub zone_sees : SeesMore z zone_past
  pub cpu_sees : SeesMore c cpu_past
  pub same : zone_past.seen ≡ cpu_past.seen
  pub legal : IsLegalRun zone zone_past.seen
  pub free : LeavesFree zone zone_past
  pub left : hide (state_of zone zone_past.seen) ≡ hide (state_of zone z.seen)
  pub own : HasSameLists c.number (state_of zone c.seen) (state_of zone cpu_past.seen)

may_meet : (zone : Zone) (z c : Past) → z.number ≡ 0 → is_cpu zone c.number ≡ true → LeavesFree zone z → MayChange zone (z ∷ c ∷ []) AlwaysZero (λ n. n) (SeeSame zone z c)
may_meet zone z c zone_is cpu free id s k homes at small =
    let all = all_at (AllOf (BeginsRun zone k.run)) s.views id (z ∷ c ∷ []) at k.fits in
    let zone_goes = all.0.goes in
    let goes = all.1.0.goes in
    let rests : hide (state_of zone k.run) ≡ hide (state_of zone z.seen) = zone_rests zone k.run z k.is.legal (past_of_run zone k.run z all.0) zone_is free in
    sees_run zone s k id 0 (slice_index s.words 0) (z ∷ c ∷ []) (all_seen z k.run ∷ all_seen c k.run ∷ []) (SeeSame zone z c (slice_index s.words 0)) at refl (λ q. refl)
    (all_begin zone k.run z k.small, (all_begin zone k.run c k.small, tt)) (record {
      zone_past = all_seen z k.run;
      cpu_past = all_seen c k.run;
      later_is = refl;
      zone_sees = record { between = zone_goes.rest; others = zone_goes.others; number = refl; seen = zone_goes.is };
      cpu_sees = record { between = goes.rest; others = goes.others; number = refl; seen = goes.is };
      same = refl;
      legal = k.is.legal;
      free = ap (λ (t : State). is_unheld t.hold) rests ∙ free;
      left = rests;
      own = lists_are_own zone c.seen k.run c.number (not_none zone c.number cpu) goes;
    })

pub meets : (t : KnownTable) (z c s : KnownPasts) → IsZonePast t z → IsCpuPast t c → LeavesFree (zone_of_boot t) (own_past z) → s.pasts ≡ z.pasts ++ c.pasts
    → MayChange (zone_of_boot t) s.pasts AlwaysZero (λ n. n) (SeeSame (zone_of_boot t) (own_past s) (cpu_past s))
meets t z c s zone cpu free is =
    let table = zone_of_boot t in
    subst (λ (l : List Past). MayChange table l AlwaysZero (λ n. n) (SeeSame table (first_past l) (second_past l))) (sym (is ∙ (λ i. zone.alone i ++ cpu.alone i)))
    (may_meet table (own_past z) (own_past c) zone.zone_is (in_range table (own_past c).number cpu.low cpu.high) free)

pub met : (t : KnownTable) (z c z' c' : KnownPasts) (pasts : List Past) (found : ℕ) → IsZonePast t z → IsCpuPast t c → SeeSame (zone_of_boot t) (own_past z) (own_past c) found pasts
    → z' ≡ record { table = t.table; pasts = first_alone pasts } → c' ≡ record { table = t.table; pasts = rest_of pasts } → Meets t z c z' c'
met t z c z' c' pasts found zone cpu m zone_is cpu_is =
    subst (λ (y : KnownPasts × KnownPasts). Meets t z c y.0 y.1)
    (λ i. (sym zone_is i, sym cpu_is i))
    (subst (λ (l : List Past). Meets t z c (record { table = t.table; pasts = first_alone l }) (record { table = t.table; pasts = rest_of l })) (sym m.later_is) (record {
      zone_is = record { table_is = refl; alone = refl; zone_is = m.zone_sees.number ∙ zone.zone_is; legal = m.legal };
      cpu_is = record {
        table_is = refl;
        alone = refl;
        low = subst (λ n. 1 ≤ n) (sym m.cpu_sees.number) cpu.low;
        high = subst (λ n. n ≤ t.cpus) (sym m.cpu_sees.number) cpu.high;
        legal = subst (IsLegalRun (zone_of_boot t)) m.same m.legal;
      };
      zone_sees = m.zone_sees;
      cpu_sees = m.cpu_sees;
      same = m.same;
      free = m.free;
      left = m.left;
      own = m.own;
    }))

-- what the CPU knows after others' steps
pub knows_since : (t : KnownTable) (c : KnownCpuSeat) (s' : KnownPasts) → IsAwayCpu t c → IsCpuPast t s' → SeesMore (own_past c.past) (own_past s')
    → IsAwayCpu t (record { past = s'; number = c.number; last = c.last })
knows_since t c s' is past more =
    let zone = zone_of_boot t in
    let p = own_past c.past in
    let q = c.number in
    let stays = away_stays zone p.seen more.between q (subst (IsLegalRun zone) more.seen past.legal) (subst (λ k. HasNoStepOf k more.between) (sym is.number) more.others) is.away in
    let later : state_of zone (own_past s').seen ≡ state_of zone (p.seen ++ more.between) = ap (state_of zone) more.seen in record {
      past = past;
      number = is.number ∙ sym more.number;
      away = ap (λ (x : State). holds_lock q x.hold) later ∙ stays.0;
      last = subst (λ (x : State). SawLast (stock_in (x.parts q)) c.last) (sym later)
          (saw_still ((state_of zone p.seen).parts q) ((state_of zone (p.seen ++ more.between)).parts q) c.last stays.1 is.last);
      has_word = is.has_word;
    }

-- what the CPU finds when it takes the lock is the stock that it saw last, or that one was drained since
pub lock_finds : (t : KnownTable) (z : KnownPasts) (c : KnownCpuSeat) (s : KnownPasts) → IsAwayCpu t c → Locks t z c.past s
    → SawLast (stock_in ((local_by_pasts t s).parts c.number)) c.last
lock_finds t z c s is m =
    let zone = zone_of_boot t in
    let p = own_past c.past in
    let q = c.number in
    let between = m.cpu_grew.between in
    let before = p.seen ++ between in
    let e : Step × Answer = (record { seat = p.number; action = Lock }, Done) in
    let whole : IsLegalRun zone (before ++ e ∷ []) = subst (IsLegalRun zone) m.cpu_grew.seen m.held.holds.shows.legal in
    let legal : IsLegalRun zone before = subst (IsLegalRun zone) (take_length before (e ∷ [])) (legal_from zone (before ++ e ∷ []) (length before) whole) in
    let stays = away_stays zone p.seen between q legal (subst (λ k. HasNoStepOf k between) (sym is.number) m.cpu_grew.others) is.away in
    let later : (state_of zone (cpu_past s).seen).parts ≡ (state_of zone before).parts = ap (λ r. (state_of zone r).parts) m.cpu_grew.seen
    ∙ ap (λ (x : State). x.parts) (state_more zone before (record { seat = p.number; action = Lock }) Done) in
    let own : (local_by_pasts t s).parts q ≡ (state_of zone before).parts q =
    own_part (cpu_past s).number (state_of zone (cpu_past s).seen).parts q (is.number ∙ sym m.cpu_grew.number) ∙ ap (λ h. h q) later in
    subst (λ x. SawLast (stock_in x) c.last) (sym own) (saw_still ((state_of zone p.seen).parts q) ((state_of zone before).parts q) c.last stays.1 is.last)

-- ---- the seats of a new table
pub first_away : (t : KnownTable) (cpu : ℕ) → 1 ≤ cpu → cpu ≤ t.cpus → IsAwayCpu t (cpu_at_first t.table cpu)
first_away t cpu low high = record {
  past = record { table_is = refl; alone = refl; low = low; high = high; legal = λ k. tt };
  number = refl;
  away = refl;
  last = inl refl;
  has_word = tt;
}

pub firsts_away : (t : KnownTable) (cpu n : ℕ) → 1 ≤ cpu → cpu + n ≤ t.cpus + 1 → AllOf (IsAwayCpu t) (cpus_at_first t.table cpu n)
firsts_away t cpu zero low high = tt
firsts_away t cpu (suc n) low high = (first_away t cpu low (omega (arith, high)), firsts_away t (cpu + 1) n (omega arith) (omega (arith, high)))

-- ---- by what the calls know
-- the pasts of the joined seat
joined_pasts : (t : KnownTable) (z c s : KnownPasts) → IsZonePast t z → IsCpuPast t c → s.pasts ≡ z.pasts ++ c.pasts → s.pasts ≡ own_past z ∷ own_past c ∷ []
joined_pasts t z c s zone cpu is = is ∙ (λ i. zone.alone i ++ cpu.alone i)

pub lock_last : (t : KnownTable) (z : KnownPasts) (c : KnownCpuSeat) (s later : KnownPasts) (found : ℕ) → IsZonePast t z → IsAwayCpu t c → s.pasts ≡ z.pasts ++ c.past.pasts → later.table ≡ t.table
    → Takes (zone_of_boot t) (own_past s) (cpu_past s) found later.pasts → SawLast (stock_in ((local_by_pasts t later).parts c.number)) c.last
lock_last t z c s later found zone is joined table post =
    lock_finds t z c later is (locked t z c.past later found table
    (subst (λ (l : List Past). Takes (zone_of_boot t) (first_past l) (second_past l) found later.pasts) (joined_pasts t z c.past s zone is.past joined) post))

pub meet_knows : (t : KnownTable) (z : KnownPasts) (c : KnownCpuSeat) (s c' : KnownPasts) (pasts : List Past) (found : ℕ) → IsZonePast t z → IsAwayCpu t c → s.pasts ≡ z.pasts ++ c.past.pasts
    → SeeSame (zone_of_boot t) (own_past s) (cpu_past s) found pasts → c' ≡ record { table = t.table; pasts = rest_of pasts }
    → IsAwayCpu t (record { past = c'; number = c.number; last = c.last })
meet_knows t z c s c' pasts found zone is joined post cpu_is =
    let m = met t z c.past (record { table = t.table; pasts = first_alone pasts }) c' pasts found zone is.past
    (subst (λ (l : List Past). SeeSame (zone_of_boot t) (first_past l) (second_past l) found pasts) (joined_pasts t z c.past s zone is.past joined) post) refl cpu_is in
    knows_since t c c' is m.cpu_is m.cpu_sees
