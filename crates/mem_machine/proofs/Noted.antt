-- The steps of the open visit, as the pasts have them. Serves each call that makes steps.
use Rattle.std.proofs.Common.{◌≡◌, ℕ, ◌++◌, [], ◌∷◌, refl, sym, ◌∙◌, ap, subst}
use Rattle.std.specs.List.{fold}
use Rattle.std.proofs.lemmas.List.Sums.{fold-append}
use Rattle.step_rules.specs.declared.step.Step.{Step}
use Rattle.step_rules.specs.declared.step.Action.{Action}
use Rattle.step_rules.specs.declared.step.Answer.{Answer}
use Rattle.step_rules.specs.State.{State}
use Rattle.step_rules.specs.{Run, IsLocalStep, IsLocalRun}
use Rattle.boot_words.specs.{KnownPasts, MakesStep, cpu_past, local_by_pasts, own_past, AreLegal, IsPlain, KnownTable}
use Rattle.boot_words.proofs.Grown.{all_grew_both}
use Rattle.cpu_part.proofs.Made.{MakesAll}
use Rattle.step_watch.specs.Watched.{Builds, Watches}
use Rattle.step_watch.proofs.Watching.{watches_none, watches_both}
use Rattle.mem_machine.specs.Noted.{AreLocal, PastsGrowBy, KnownRun, MayTake, MayTakeAll, Records, after_made}

-- ---- how the pasts grow

pub grows_none : (t : KnownTable) (s : KnownPasts) → PastsGrowBy t s [] s
grows_none t s = record { held = λ held. held; holder = λ _. refl; sees = λ _. refl; zone_grew = λ _. refl; cpu_grew = λ _. refl }

pub grows_both : (t : KnownTable) (a : KnownPasts) (one : Run) (b : KnownPasts) (two : Run) (c : KnownPasts) → PastsGrowBy t a one b → PastsGrowBy t b two c
    → PastsGrowBy t a (one ++ two) c
grows_both t a one b two c first second = record {
  held = λ held. second.held (first.held held);
  holder = λ held. second.holder (first.held held) ∙ first.holder held;
  sees = λ held. second.sees (first.held held) ∙ ap (λ (s : State). fold after_made s two) (first.sees held)
      ∙ sym (fold-append after_made (local_by_pasts t a) one two);
  zone_grew = λ held. all_grew_both (own_past a) one (own_past b) two (own_past c) (first.zone_grew held) (second.zone_grew (first.held held));
  cpu_grew = λ held. all_grew_both (cpu_past a) one (cpu_past b) two (cpu_past c) (first.cpu_grew held) (second.cpu_grew (first.held held));
}

pub made_grows : (t : KnownTable) (s : KnownPasts) (seat : ℕ) (action : Action) (answer : Answer) (s' : KnownPasts) → MakesStep t s seat action answer s'
    → PastsGrowBy t s ((record { seat = seat; action = action }, answer) ∷ []) s'
made_grows t s seat action answer s' made = record {
  held = λ _. made.held;
  holder = λ _. made.cpu_grew.number;
  sees = λ _. made.local_is;
  zone_grew = λ _. (own_past s', made.zone_grew, refl);
  cpu_grew = λ _. (cpu_past s', made.cpu_grew, refl);
}

pub all_grow : (t : KnownTable) (s : KnownPasts) (steps : Run) (s' : KnownPasts) → MakesAll t s steps s' → PastsGrowBy t s steps s'
all_grow t s [] s' is = subst (PastsGrowBy t s []) (sym is) (grows_none t s)
all_grow t s (e ∷ rest) s' made = grows_both t s (e ∷ []) made.0 rest s' (made_grows t s e.0.seat e.0.action e.1 made.0 made.1) (all_grow t made.0 rest s' made.2)

-- ---- the pasts and the watch

pub notes_none : (t : KnownTable) (run : KnownRun) → Records t run [] run
notes_none t run = record { grew = grows_none t run.past; watched = watches_none run.watch }

pub notes_both : (t : KnownTable) (a : KnownRun) (one : Run) (b : KnownRun) (two : Run) (c : KnownRun) → Records t a one b → Records t b two c → Records t a (one ++ two) c
notes_both t a one b two c first second = record {
  grew = grows_both t a.past one b.past two c.past first.grew second.grew;
  watched = watches_both a.watch one b.watch two c.watch first.watched second.watched;
}

-- one step: the pasts have grown by it, and the watch took it
pub notes_one : (t : KnownTable) (a : KnownRun) (e : Step × Answer) (b : KnownRun) → MakesStep t a.past e.0.seat e.0.action e.1 b.past → Watches a.watch (e ∷ []) b.watch
    → Records t a (e ∷ []) b
notes_one t a e b made took = record { grew = made_grows t a.past e.0.seat e.0.action e.1 b.past made; watched = took }

-- ---- lists of local steps

-- a list of local steps leads where it says
pub run_ends : (p : ℕ) (a : State) (steps : Run) (b : State) → IsLocalRun p a steps b → fold after_made a steps ≡ b
run_ends p a [] b run = run
run_ends p a (e ∷ rest) b run = run_ends p (after_made a e) rest b run.1

-- the steps of a list of local steps
pub run_steps : (p : ℕ) (a : State) (steps : Run) (b : State) → IsLocalRun p a steps b → AreLocal p a steps
run_steps p a [] b run = tt
run_steps p a (e ∷ rest) b run = (run.0, run_steps p (after_made a e) rest b run.1)

-- the first of a list of local steps may be taken, and then the rest are local
pub first_made : (t : KnownTable) (past : KnownPasts) (p : ℕ) (a : State) → (cpu_past past).number ≡ p → local_by_pasts t past ≡ a → (e : Step × Answer) (rest : Run)
    → AreLocal p a (e ∷ rest) → MayTake t past e
first_made t past p a who at e rest all =
    subst (λ (x : ℕ × State). IsLocalStep x.1 x.0 e.0.seat e.0.action e.1) (λ i. (sym who i, sym at i)) all.0

-- steps that are local in what the holder sees may be taken
pub may_all : (t : KnownTable) (past : KnownPasts) (p : ℕ) (a : State) (steps : Run) → (cpu_past past).number ≡ p → local_by_pasts t past ≡ a → AreLocal p a steps
    → MayTakeAll t past steps
may_all t past p a [] who at all = tt
may_all t past p a (e ∷ rest) who at all = (
  first_made t past p a who at e rest all,
  λ later made. may_all t later p (after_made a e) rest (made.cpu_grew.number ∙ who) (made.local_is ∙ ap (λ (s : State). after_made s e) at) all.1,
)

-- the first of two lists of local steps is legal
pub local_legal : (p : ℕ) (a : State) (first second : Run) → AreLocal p a (first ++ second) → AreLegal a first
local_legal p a [] second all = tt
local_legal p a (e ∷ rest) second all = (all.0.legal, local_legal p (after_made a e) rest second all.1)

-- ---- what a step's maker asks

-- the closure builds this step, which may be made
pub legal_step : (May : Action → Answer → Type 0) (built : Action × Answer → Type 0) (action : Action) (answer : Answer) → May action answer → IsPlain action
    → Builds built action answer → (a : Action) × (b : Answer) × May a b × IsPlain a × Builds built a b
legal_step May built action answer may plain builds = (action, answer, may, plain, builds)
