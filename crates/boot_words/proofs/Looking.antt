-- Loads under the lock that are no step.
use Rattle.std.proofs.Common.{[], ◌≡◌, ℕ, ◌+◌, ◌<◌, ◌≤◌, true, List, ◌∷◌, refl, ap, sym, ◌∙◌, subst, arith}
use Rattle.std.specs.Prelude.{slice_index, IfSome}
use Rattle.group_tree.specs.Bounds.{most_groups}
use Rattle.stock_word.specs.declared.stock.Stock.{Stock}
use Rattle.stock_word.specs.declared.stock.Stock.TheVariants.{DrainedOf, HeldBy, NoGroup}
use Rattle.stock_word.specs.{HasWord, group_of, word_of, stock_index}
use Rattle.stock_word.specs.Stock.{group_base}
use Rattle.step_rules.specs.{is_live_phase, Zone, live_references, state_of, most_references}
use Rattle.step_rules.specs.State.{State}
use Rattle.step_rules.proofs.Living.{live_are_referenced}
use Rattle.step_rules.proofs.Referring.{live_from_one}
use Rattle.boot_words.specs.{stock_in, local_seen, AllOf, BeginsRun, frame_base, words_in, LeavesFree, KnownPasts, IsHeld, IsHolder, IsZonePast}
use Rattle.boot_words.specs.{cpu_past, local_by_pasts, own_past, zone_of_boot, MayChange, LoadsReferences, KnownTable}
use Rattle.boot_words.specs.declared.past.Past.{Past}
use Rattle.boot_words.proofs.Each.{all_at}
use Rattle.boot_words.proofs.Growing.{past_of_run}
use Rattle.boot_words.proofs.Resting.{zone_rests}
use Rattle.boot_words.proofs.WordCounts.{live_word}
use Rattle.boot_words.proofs.Following.{stands_in}
use Rattle.boot_words.proofs.Parts.{frame_reads}
use Rattle.boot_words.specs.declared.word.Word.TheVariants.{OfFrame, StockOf}
use Rattle.boot_words.proofs.Fast.{stays}
use Rattle.boot_words.proofs.Visiting.{cpu_of_held, stock_held}
use Rattle.boot_words.proofs.Drains.{StockFound, stock_found}
use Rattle.boot_words.proofs.Referring.{word_now}
use Rattle.boot_words.proofs.UnderLock.{of_held, stands_at}

-- the seat has the pasts that it had
pub same_seat : (t : KnownTable) (s s' : KnownPasts) → IsHeld t s → s'.table ≡ s.table → s'.pasts ≡ own_past s ∷ cpu_past s ∷ [] → s' ≡ s
same_seat t s s' is table later i = record { table = table i; pasts = (later ∙ sym is.both) i }

-- ---- the holder's stock
pub record SeesStock (zone : Zone) (z c : Past) (found : ℕ) (later : List Past) : Type 0 where
  pub fits : HasWord (stock_in ((local_seen zone c).parts c.number))
  pub word : found ≡ word_of (stock_in ((local_seen zone c).parts c.number))
  pub few : ((local_seen zone c).parts c.number).book < group_base
  pub later_is : later ≡ z ∷ c ∷ []

pub sees_stock : (t : KnownTable) (s : KnownPasts) (cpu : ℕ) → IsHeld t s → IsHolder s cpu
    → MayChange (zone_of_boot t) s.pasts (StockOf cpu) (λ n. n) (SeesStock (zone_of_boot t) (own_past s) (cpu_past s))
sees_stock t s cpu is holder =
    let zone = zone_of_boot t in
    let z = own_past s in
    let c = cpu_past s in
    let range = cpu_of_held t s is in
    subst (λ q. MayChange zone s.pasts (StockOf q) (λ n. n) (SeesStock zone z c)) (sym holder)
    (of_held t s (StockOf c.number) (λ n. n) (SeesStock zone z c) is
    (λ id b k homes at small.
    let j = stock_index c.number in
    let h = stock_held zone b.words b.views id z c range.0 range.1 (stands_at zone b k id z c at is.holds) in
    let r = stays zone b k id j (slice_index b.words j) (z ∷ c ∷ []) at refl in
    (r.0, r.1, r.2, r.3, (r.4.0, record { fits = h.fits; word = h.word; few = h.few; later_is = r.4.1 }))))

pub stock_is : (t : KnownTable) (s : KnownPasts) (cpu found : ℕ) (later : List Past) (stock : Stock) → IsHolder s cpu → SeesStock (zone_of_boot t) (own_past s) (cpu_past s) found later
    → ((k : Stock) → HasWord k → found ≡ word_of k → stock ≡ k) → stock ≡ stock_in ((local_by_pasts t s).parts cpu)
stock_is t s cpu found later stock holder post decodes =
    decodes (stock_in ((local_by_pasts t s).parts (cpu_past s).number)) post.fits post.word ∙ ap (λ q. stock_in ((local_by_pasts t s).parts q)) (sym holder)

-- ---- the group of any stock
pub record SeesGroup (zone : Zone) (z c : Past) (cpu found : ℕ) (later : List Past) : Type 0 where
  pub is : StockFound zone c cpu found
  pub later_is : later ≡ z ∷ c ∷ []

pub sees_group : (t : KnownTable) (s : KnownPasts) (cpu : ℕ) → IsHeld t s → 1 ≤ cpu → cpu ≤ t.cpus
    → MayChange (zone_of_boot t) s.pasts (StockOf cpu) (λ n. n) (SeesGroup (zone_of_boot t) (own_past s) (cpu_past s) cpu)
sees_group t s cpu is low high =
    let zone = zone_of_boot t in
    let z = own_past s in
    let c = cpu_past s in
    of_held t s (StockOf cpu) (λ n. n) (SeesGroup zone z c cpu) is
    (λ id b k homes at small.
    let j = stock_index cpu in
    let there = stock_found zone b k id z c cpu at is.holds low high in
    let r = stays zone b k id j (slice_index b.words j) (z ∷ c ∷ []) at refl in
    (r.0, r.1, r.2, r.3, (r.4.0, record { is = there; later_is = r.4.1 })))

pub group_is : (t : KnownTable) (s : KnownPasts) (cpu found : ℕ) (later : List Past) (stock : Stock) → (post : SeesGroup (zone_of_boot t) (own_past s) (cpu_past s) cpu found later)
    → ((k : Stock) → HasWord k → found ≡ word_of k → stock ≡ k) → group_of stock ≡ ((local_by_pasts t s).parts cpu).stock.group
group_is t s cpu found later stock post decodes = ap group_of (decodes post.is.stock post.is.fits post.is.word) ∙ post.is.group

few_group : (stock : Stock) → HasWord stock → IfSome (group_of stock) (λ g. g < most_groups)
few_group NoGroup h = tt
few_group (HeldBy g n) h = h.0
few_group (DrainedOf g) h = h

pub group_fits : (t : KnownTable) (s : KnownPasts) (cpu found : ℕ) (later : List Past) (stock : Stock) → (post : SeesGroup (zone_of_boot t) (own_past s) (cpu_past s) cpu found later)
    → ((k : Stock) → HasWord k → found ≡ word_of k → stock ≡ k) → IfSome (group_of stock) (λ g. g < most_groups)
group_fits t s cpu found later stock post decodes =
    subst (λ k. IfSome (group_of k) (λ g. g < most_groups)) (sym (decodes post.is.stock post.is.fits post.is.word)) (few_group post.is.stock post.is.fits)

-- ---- references
pub record SeesReferences (t : KnownTable) (s : KnownPasts) (f found : ℕ) (later : List Past) : Type 0 where
  pub counted : LoadsReferences (zone_of_boot t) (own_past s) f found
  pub some : 1 ≤ found
  pub most : found ≤ most_references
  pub later_is : later ≡ own_past s ∷ []

pub sees_references : (t : KnownTable) (s : KnownPasts) (f : ℕ) → IsZonePast t s → LeavesFree (zone_of_boot t) (own_past s) → f < t.frames
    → 1 ≤ (state_of (zone_of_boot t) (own_past s).seen).references 0 f → MayChange (zone_of_boot t) s.pasts (OfFrame f) (λ n. n) (SeesReferences t s f)
sees_references t s f is free inside some =
    let zone = zone_of_boot t in
    let z = own_past s in
    subst (λ (l : List Past). MayChange zone l (OfFrame f) (λ n. n) (SeesReferences t s f)) (sym is.alone)
    (λ id b k homes at small.
    let fits : BeginsRun zone k.run z = (all_at (AllOf (BeginsRun zone k.run)) b.views id (z ∷ []) at k.fits).0 in
    let run = state_of zone k.run in
    let stands = stands_in zone (words_in zone b.words) k.run k.is in
    let own : run.references 0 f ≡ (state_of zone z.seen).references 0 f
    = ap (λ (l : State). l.references 0 f) (zone_rests zone k.run z k.is.legal (past_of_run zone k.run z fits) is.zone_is free) in
    let one : 1 ≤ run.references 0 f = subst (λ n. 1 ≤ n) (sym own) some in
    let live : is_live_phase (run.phases f) ≡ true = live_from_one run 0 f stands.sound one in
    let j = frame_base zone + f in
    let found : live_references run f ≡ slice_index b.words j =
    sym (live_word run f live (live_references run f)) ∙ word_now zone (words_in zone b.words) k.run f k.is inside ∙ frame_reads zone f b.words in
    let range = (live_are_referenced zone k.run k.is.legal f).some live in
    let r = stays zone b k id j (slice_index b.words j) (z ∷ []) at refl in (
      r.0,
      r.1,
      r.2,
      r.3,
      (
        r.4.0,
        record {
          counted = record { run = k.run; begins = fits.goes; legal = k.is.legal; counted = found };
          some = (let a = range.0 in omega (arith, a, found));
          most = (let a = range.1 in omega (arith, a, found));
          later_is = r.4.1;
        },
      ),
    ))

-- the seat has the past that it had
pub same_zone : (t : KnownTable) (s s' : KnownPasts) → IsZonePast t s → s'.table ≡ s.table → s'.pasts ≡ own_past s ∷ [] → s' ≡ s
same_zone t s s' is table later i = record { table = table i; pasts = (later ∙ sym is.alone) i }
