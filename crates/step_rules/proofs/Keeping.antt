-- Each group that keeps a frame or a page is there after every legal run. Serves `keepers_are_there` and, through
-- `homed_run`, the laws of usage and peaks and of what holds while the lock is free.
use Rattle.std.proofs.Common.{◌≡◌, ℕ, ◌+◌, ◌-◌, ◌<◌, ◌==◌, true, Some, refl, sym, ◌∙◌, ap, subst, arith, inl, inr, min}
use Rattle.std.proofs.lemmas.Bool.{cases_Bool, cases_lt, false≢true}
use Rattle.group_tree.specs.Groups.{has_group}
use Rattle.group_tree.proofs.GroupLemmas.{AreGroups-initial, room_of-initial}
use Rattle.group_tree.proofs.AncestorLemmas.{parent_of-there}
use Rattle.group_tree.specs.{most_groups, is_there}
use Rattle.step_rules.specs.declared.phase.Stage.TheVariants.{FreshAt}
use Rattle.step_rules.specs.declared.phase.Phase.TheVariants.{Head}
use Rattle.step_rules.specs.declared.step.Step.{Step}
use Rattle.step_rules.specs.declared.step.Action.{Action}
use Rattle.step_rules.specs.declared.step.Answer.{Answer}
use Rattle.step_rules.specs.Phases.{FreshFrame}
use Rattle.step_rules.specs.{keeper_of, has_as, Zone, at_boot, front_of, Allows, no_page_pends, Run, after, state_of, IsLegalRun, StockIsKept}
use Rattle.step_rules.specs.{AllKeepersAreThere, PhasePaid, groups_in, KeepsInvariant, some_there, IsHomed}
use Rattle.step_rules.specs.State.{State}
use Rattle.step_rules.proofs.Lists.{front_stands, one_if_true}
use Rattle.step_rules.proofs.PhaseLemmas.{fresh_is, equal_test}
use Rattle.step_rules.proofs.Sums.{all_at}
use Rattle.step_rules.proofs.Runs.{after_illegal, allowed, kept_along, sound_boot}
use Rattle.step_rules.proofs.Stocked.{FitsStock, stocks_fit}
use Rattle.step_rules.proofs.Homes.{homes_step, number_low}

pub homes_allowed : (s : State) (seat : ℕ) (action : Action) (answer : Answer) → KeepsInvariant s → IsHomed s → Allows s seat action answer →
    IsHomed (after s seat action answer)
homes_allowed s seat action answer sound h ok =
    elim (allowed s seat action answer ok) [
      | inl illegal ↦ subst IsHomed (sym (ap (after s seat action) illegal ∙ after_illegal s seat action)) h
      | inr made ↦ homes_step s seat action answer sound h made.legal made.answered made.counted
    ]

pub homes_boot : (zone : Zone) → IsHomed (at_boot zone)
homes_boot zone = record {
  tree = AreGroups-initial (min zone.groups most_groups - 1) (omega arith);
  room = λ some few. room_of-initial (min zone.groups most_groups - 1) ∙ omega arith;
  frames = λ f. refl;
  stocks = λ q some. absurd (omega arith);
  beyond = λ q other. refl;
  pages = λ g absent. refl;
  holder = λ q e. absurd (false≢true e);
  quiet = λ q e. refl;
}

-- both facts of the state after a legal run
pub homed_run : (zone : Zone) (run : Run) → IsLegalRun zone run → KeepsInvariant (state_of zone run) × IsHomed (state_of zone run)
homed_run zone run legal =
    kept_along (λ (x : ℕ) (e : Step × Answer). x) (λ s x. IsHomed s) (λ s x e sound h ok. homes_allowed s e.0.seat e.0.action e.1 sound h ok)
    (at_boot zone) 0 run (sound_boot zone) (homes_boot zone) legal

-- a book beyond what was passed back has a page in the stock, or a fresh frame
book_there : (s : State) (p g : ℕ) → KeepsInvariant s → IsHomed s → (s.parts p).stock.group ≡ Some g →
    (s.parts p).unreported + (s.parts p).reported < (s.parts p).book → has_group s.groups g ≡ true
book_there s p g sound h e more =
    elim (cases_lt 0 (s.parts p).stock.pages) [
      | inl some ↦ sym (ap (some_there s.groups) e) ∙ h.stocks p (omega arith)
      | inr none ↦
          let booked = sound.booked p in
          let f = front_of (s.parts p).fresh in
          let stands = front_stands (s.parts p).fresh (omega arith) in
          let listed = sound.lists p FreshFrame f in
          let fresh : has_as FreshFrame p (s.phases f) ≡ true = one_if_true (has_as FreshFrame p (s.phases f)) (omega arith) in
          let is = fresh_is p (s.phases f) fresh in
          let paid : PhasePaid s.zone.cpus (groups_in s.parts) (Head is.0 (FreshAt p)) =
          subst (PhasePaid s.zone.cpus (groups_in s.parts)) is.1 (sound.frames f).paid in
          ap (some_there s.groups) (sym e ∙ paid.group) ∙ sym (ap (λ x. is_there s.groups (keeper_of x)) is.1) ∙ h.frames f
    ]

kept_stock_of : (s : State) (p : ℕ) → KeepsInvariant s → IsHomed s → FitsStock (s.parts p) → StockIsKept s p
kept_stock_of s p sound h fits = record {
  stock = λ g e some. sym (ap (some_there s.groups) e) ∙ h.stocks p some;
  book = λ g e more. book_there s p g sound h e more;
  no_group = λ e. elim (cases_lt 0 (s.parts p).stock.pages) [
    | inl some ↦ absurd (false≢true (sym (ap (some_there s.groups) e) ∙ h.stocks p (omega arith)))
    | inr none ↦ omega arith
  ];
  no_book = fits.book;
  not_drained = fits.mark;
  drained = fits.none;
  no_cpu = h.beyond p;
  unreported = λ off. let a = h.quiet p off in omega arith;
  reported = λ off. let a = h.quiet p off in omega arith;
}

pub settled_all : (s : State) → IsHomed s → no_page_pends s ≡ true → (g : ℕ) → s.pending g ≡ 0
settled_all s h all g = elim (cases_Bool (has_group s.groups g)) [
  | inl there ↦ equal_test (s.pending g) 0 (all_at most_groups (λ k. s.pending k == 0) all g (number_low s.groups g h.tree there))
  | inr absent ↦ h.pages g absent
]

pub keepers_are_there : AllKeepersAreThere
keepers_are_there zone run legal =
    let s = state_of zone run in
    let both = homed_run zone run legal in
    let h = both.1 in
    record {
      groups = h.tree;
      room = h.room;
      numbers = λ g there. number_low s.groups g h.tree there;
      parents = λ g k e. parent_of-there s.groups g k h.tree e;
      frames = λ f g e. sym (ap (is_there s.groups) e) ∙ h.frames f;
      parts = λ p. kept_stock_of s p both.0 h (stocks_fit zone run legal p);
      pending = h.pages;
      settled = λ all g. settled_all s h all g;
      holder = h.holder;
    }
