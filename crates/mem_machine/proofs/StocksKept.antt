-- Steps that consume, credit, fill and drain nothing leave all stocks as they are. Serves the crates above.
use Rattle.std.proofs.Common.{◌≡◌, ℕ, ◌+◌, ◌==◌, ◌||◌, Bool, true, false, None, [], ◌∷◌, length, cond, refl, sym, ap, ◌∙◌, subst, arith}
use Rattle.std.specs.List.{fold}
use Rattle.std.specs.Prelude.{◌⊎◌}
use Rattle.std.proofs.lemmas.Bool.{false≢true, or_parts}
use Rattle.stock_word.specs.declared.stock.Stock.TheVariants.{HeldBy}
use Rattle.step_rules.specs.declared.step.Action.{Action}
use Rattle.step_rules.specs.declared.step.Action.TheVariants.{Put, TakeIn, PassBack, Consume, Credit, Report, Absorb, DrainStock, Fill, Lock}
use Rattle.step_rules.specs.declared.step.Answer.{Answer}
use Rattle.step_rules.specs.declared.step.Answer.TheVariants.{Illegal, Done, Last, Pages}
use Rattle.step_rules.specs.State.{Part, State, PartStock, with_at}
use Rattle.step_rules.specs.After.{Run, after, filled, with_back}
use Rattle.step_rules.proofs.Basics.{at_each, at_same}
use Rattle.step_rules.proofs.Runs.{after_illegal}
use Rattle.boot_words.specs.{IsHeld, stock_in, stock_said, KnownTable}
use Rattle.cpu_part.specs.{KnownCpuLists, HasOwn}
use Rattle.mem_machine.specs.{Makes, Visits, local_of, KnownMachine, part_at, stock_group, after_made, stock_now, Fills, HasDrained}
use Rattle.mem_machine.specs.{IsDrained}
use Rattle.mem_machine.proofs.Sight.{left_seen}

-- the step may change a stock
abbrev pub is_stock_step : Action → Bool
is_stock_step (Consume g) = true
is_stock_step (Credit f) = true
is_stock_step (Fill cpu g n) = true
is_stock_step (DrainStock cpu) = true
is_stock_step action = false

-- some step of the list may
abbrev pub has_stock_step : Run → Bool
has_stock_step [] = false
has_stock_step (e ∷ rest) = is_stock_step e.0.action || has_stock_step rest

-- ---- what the steps leave

same_stock : (parts : ℕ → Part) (r : ℕ) (part : Part) (p : ℕ) → part.stock ≡ (parts r).stock → (with_at parts r part p).stock ≡ (parts p).stock
same_stock parts r part p same = at_each parts r part (λ k x. x.stock ≡ (parts k).stock) same (λ k ne. refl) p

stock_step : (s : State) (q p : ℕ) (action : Action) (answer : Answer) → is_stock_step action ≡ false → ((after s q action answer).parts p).stock ≡ (s.parts p).stock
stock_step s q p action Illegal none = ap (λ (u : State). (u.parts p).stock) (after_illegal s q action)
stock_step s q p (Put f) Last none = by_seat (q == 0)
  where
    by_seat : (b : Bool) → (cond b s.parts (with_at s.parts q (with_back (s.parts q) f)) p).stock ≡ (s.parts p).stock
    by_seat true = refl
    by_seat false = same_stock s.parts q (with_back (s.parts q) f) p refl
stock_step s q p (TakeIn f) Done none = same_stock s.parts q _ p refl
stock_step s q p (PassBack f) Done none = same_stock s.parts q _ p refl
stock_step s q p (Report n) Done none = same_stock s.parts q _ p refl
stock_step s q p (Absorb r) (Pages n) none = same_stock s.parts r _ p refl
stock_step s q p (Consume g) answer none = absurd (false≢true (sym none))
stock_step s q p (Credit f) answer none = absurd (false≢true (sym none))
stock_step s q p (Fill r g n) answer none = absurd (false≢true (sym none))
stock_step s q p (DrainStock r) answer none = absurd (false≢true (sym none))
stock_step s q p Lock answer none = refl
stock_step s q p action answer none = refl

pub stocks_stay : (s : State) (p : ℕ) (steps : Run) → has_stock_step steps ≡ false → ((fold after_made s steps).parts p).stock ≡ (s.parts p).stock
stocks_stay s p [] none = refl
stocks_stay s p (e ∷ rest) none =
    let both = or_parts (is_stock_step e.0.action) (has_stock_step rest) none in
    stocks_stay (after_made s e) p rest both.1 ∙ stock_step s e.0.seat p e.0.action e.1 both.0

-- ---- of the machine

module _ (t : KnownTable) (m n : KnownMachine) (steps : Run) (is : IsHeld t m.run.past) (makes : Makes t m steps n) (none : has_stock_step steps ≡ false) where
  stock_seen : (p : ℕ) → ((local_of t n).parts p).stock ≡ ((local_of t m).parts p).stock
  stock_seen p = ap (λ (s : State). (s.parts p).stock) (makes.noted.grew.sees is) ∙ stocks_stay (local_of t m) p steps none

  -- each stock is of the same group
  pub groups_kept : (p : ℕ) → stock_group t n p ≡ stock_group t m p
  groups_kept p =
      ap (λ (s : State). (s.parts p).stock.group) (left_seen t n.run.past (makes.noted.grew.held is))
      ∙ ap (λ (stock : PartStock). stock.group) (stock_seen p)
      ∙ ap (λ (s : State). (s.parts p).stock.group) (sym (left_seen t m.run.past is))

  -- each drained one still is
  pub drained_kept : (p : ℕ) → IsDrained t m p → IsDrained t n p
  drained_kept p was =
      let seen : HasDrained ((local_of t m).parts p) = subst (λ (s : State). HasDrained (s.parts p)) (left_seen t m.run.past is) was in
      let here : HasDrained ((local_of t n).parts p) =
      subst (λ (stock : PartStock). (stock.group ≡ None) ⊎ (stock.is_drained ≡ true)) (sym (stock_seen p)) seen in
      subst (λ (s : State). HasDrained (s.parts p)) (sym (left_seen t n.run.past (makes.noted.grew.held is))) here

  -- the own stock has the same pages
  pub stock_kept : (c d : KnownCpuLists) → d.number ≡ c.number → stock_now t n d.number ≡ stock_now t m c.number
  stock_kept c d number =
      ap (λ (k : ℕ). stock_in ((local_of t n).parts k)) number
      ∙ ap (λ (stock : PartStock). stock_said stock.group stock.pages stock.is_drained) (stock_seen c.number)

-- ---- a stock that is filled

-- without a fresh frame, what the run left of the own stock is what the CPU sees
pub stock_left : (t : KnownTable) (m : KnownMachine) (c : KnownCpuLists) → IsHeld t m.run.past → HasOwn (local_of t m) c → c.fresh ≡ [] → stock_now t m c.number ≡ stock_in (part_at t m c.number)
stock_left t m c is own none =
    let part = (local_of t m).parts c.number in
    let long = ap length (own.fresh ∙ none) in
    let pages : part.stock.pages ≡ part.stock.pages + length part.fresh = omega (arith, long) in
    ap (λ (k : ℕ). stock_said part.stock.group k part.stock.is_drained) pages ∙ ap (λ (s : State). stock_in (s.parts c.number)) (sym (left_seen t m.run.past is))

-- a filled stock has the pages
pub filled_stock : (t : KnownTable) (m n : KnownMachine) (c : KnownCpuLists) (g k : ℕ) → Visits t n c → c.fresh ≡ [] → Fills t c.number g k m n → stock_now t n c.number ≡ HeldBy g k
filled_stock t m n c g k visit none fills =
    stock_left t n c visit.held visit.own none
    ∙ ap (λ (s : State). stock_in (s.parts c.number)) fills.left
    ∙ ap stock_in (at_same (λ p. part_at t m p) c.number (filled (part_at t m c.number) g k))
