-- After which run a step under the lock was made, and so what holds of an answer that others' steps decide. Serves
-- `drain_stock`, `evict`, `release` and `put_zone_reference`.
use Rattle.std.proofs.Common.{◌≡◌, ℕ, ◌≤◌, ◌==◌, Bool, true, false, Some, None, [], ◌∷◌, ◌++◌, length, cond, refl, ap, sym, ◌∙◌, subst, arith}
use Rattle.std.proofs.lemmas.List.{append_cancel_left, append_cancel_right}
use Rattle.group_tree.specs.Groups.{has_group}
use Rattle.step_rules.specs.declared.step.Step.{Step}
use Rattle.step_rules.specs.declared.step.Action.{Action}
use Rattle.step_rules.specs.declared.step.Action.TheVariants.{DrainStock}
use Rattle.step_rules.specs.declared.step.Answer.{Answer}
use Rattle.step_rules.specs.declared.step.Answer.TheVariants.{Pages}
use Rattle.step_rules.specs.{Part, Zone, Allows, Run, state_of, IsLegalRun, other_part_seen, seen_by}
use Rattle.step_rules.specs.State.{State}
use Rattle.step_rules.proofs.CoverParts.{part_seen}
use Rattle.step_rules.proofs.Keeping.{keepers_are_there}
use Rattle.step_rules.proofs.Runs.{legal_from, sound_run}
use Rattle.boot_words.specs.{HasNoStepOf, KnownPasts, IsHeld, MakesStep, cpu_past, local_by_pasts, own_past, zone_of_boot, KnownTable}
use Rattle.boot_words.proofs.Holding.{allowed_at, still_shows, take_length}

-- a legal run that shows the holder what it saw, and allows the step
pub record IsBehind (t : KnownTable) (past : KnownPasts) (seat : ℕ) (action : Action) (answer : Answer) : Type 0 where
  pub run : Run
  pub legal : IsLegalRun (zone_of_boot t) run
  pub sees : local_by_pasts t past ≡ seen_by (cpu_past past).number (state_of (zone_of_boot t) run)
  pub allowed : Allows (state_of (zone_of_boot t) run) seat action answer

legal_before : (zone : Zone) (xs ys : Run) → IsLegalRun zone (xs ++ ys) → IsLegalRun zone xs
legal_before zone xs ys legal = subst (IsLegalRun zone) (take_length xs ys) (legal_from zone (xs ++ ys) (length xs) legal)

pub behind : (t : KnownTable) (past later : KnownPasts) (seat : ℕ) (action : Action) (answer : Answer) → IsHeld t past → MakesStep t past seat action answer later
    → IsBehind t past seat action answer
behind t past later seat action answer is made =
    let zone = zone_of_boot t in
    let c = cpu_past past in
    let e : Step × Answer = (record { seat = seat; action = action }, answer) in
    let by_zone = made.zone_grew.between in
    let by_cpu = made.cpu_grew.between in
    let same : by_zone ≡ by_cpu = append_cancel_left c.seen by_zone by_cpu (append_cancel_right (c.seen ++ by_zone) (c.seen ++ by_cpu) (e ∷ [])
    (ap (λ (r : Run). (r ++ by_zone) ++ e ∷ []) (sym is.holds.same) ∙ sym made.zone_grew.seen ∙ made.held.holds.same ∙ made.cpu_grew.seen)) in
    let whole : IsLegalRun zone ((c.seen ++ by_cpu) ++ e ∷ []) = subst (IsLegalRun zone) made.cpu_grew.seen made.held.holds.shows.legal in
    let legal = legal_before zone (c.seen ++ by_cpu) (e ∷ []) whole in
    let no_zone : HasNoStepOf 0 by_cpu = subst (λ (k : ℕ). HasNoStepOf k by_cpu) is.holds.zone_is (subst (HasNoStepOf (own_past past).number) same made.zone_grew.others) in
    let shows = still_shows zone c.seen by_cpu c.number (local_by_pasts t past) is.holds.shows no_zone made.cpu_grew.others legal in
    record { run = c.seen ++ by_cpu; legal = legal; sees = shows.sees; allowed = allowed_at zone (c.seen ++ by_cpu) e [] whole }

-- what holds of the pages of a drain
pub record FitsDrain (s : State) (q n : ℕ) : Type 0 where
  pub within : n ≤ (s.parts q).book
  pub enough : n ≤ (s.parts q).stock.pages
  pub no_group : (s.parts q).stock.group ≡ None → n ≡ 0
  pub drained : (s.parts q).stock.is_drained ≡ true → n ≡ 0
  pub there : (g : ℕ) → (s.parts q).stock.group ≡ Some g → 1 ≤ n → has_group s.groups g ≡ true

shown_pages : (b : Bool) (part : Part) → part.stock.pages ≤ (cond b part (other_part_seen part)).stock.pages
shown_pages true part = omega arith
shown_pages false part = omega arith

pub fits_drain : (t : KnownTable) (past later : KnownPasts) (q n : ℕ) → IsHeld t past → MakesStep t past 0 (DrainStock q) (Pages n) later → FitsDrain (local_by_pasts t past) q n
fits_drain t past later q n is made =
    let at = behind t past later 0 (DrainStock q) (Pages n) is made in
    let u = state_of (zone_of_boot t) at.run in
    let p = (cpu_past past).number in
    let kept = (keepers_are_there (zone_of_boot t) at.run at.legal).parts q in
    let count : n ≡ (u.parts q).stock.pages = at.allowed.counted in
    let booked = (sound_run (zone_of_boot t) at.run at.legal).booked q in
    let group = part_seen (λ part. part.stock.group) (λ part. refl) p u.parts q in
    subst (λ (s : State). FitsDrain s q n) (sym at.sees) (record {
      within = let book = part_seen (λ part. part.book) (λ part. refl) p u.parts q in omega (arith, count, booked, book);
      enough = let pages = shown_pages (q == p) (u.parts q) in omega (arith, count, pages);
      no_group = λ none. count ∙ kept.no_group (sym group ∙ none);
      drained = λ is_so. count ∙ kept.drained (sym (part_seen (λ part. part.stock.is_drained) (λ part. refl) p u.parts q) ∙ is_so);
      there = λ g of some. kept.stock g (sym group ∙ of) (omega (arith, count, some));
    })
