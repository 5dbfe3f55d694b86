-- A CPU is settled, or its list is returned and its stock drained. Serves the visits at the end of a system.
use Rattle.std.proofs.Common.{◌≡◌, ℕ, zero, suc, ◌<◌, ◌≤◌, Bool, true, false, List, [], ◌∷◌, ◌++◌, length, take, refl, sym, ap, ◌∙◌, subst, inl, inr, arith}
use Rattle.std.proofs.Common.{append-nil}
use Rattle.std.specs.Prelude.{slice_set, unwrap_or}
use Rattle.std.specs.List.{flat_map}
use Rattle.std.proofs.lemmas.Bool.{cases_lt, false≢true}
use Rattle.std.proofs.lemmas.List.{nil_from_length}
use Rattle.boot_words.specs.Tables.{KnownTable}
use Rattle.cpu_part.specs.Cpus.{KnownCpuLists}
use Rattle.mem_machine.specs.declared.frame_state.FrameState.{FrameState}
use Rattle.mem_machine.specs.declared.frame_state.FrameState.TheVariants.{Free, Lent}
use Rattle.mem_machine.specs.{frame_state_at, KnownMachine, is_killed, with_run, UnlistsMany, Drains, IsDrained, stock_group, visit_state, Makes}
use Rattle.mem_machine.specs.{VisitMakes, Settles, fresh_steps, is_fresh_killed, return_all_steps, settle_steps, open_steps, shut_steps}
use Rattle.mem_machine.specs.{drain_list_steps, drain_steps}
use Rattle.boot_words.specs.Pasts.{IsHeld}
use Rattle.mem_machine.proofs.DrainingAll.{drained_now, drained_still}
use Rattle.mem_machine.proofs.StocksKept.{drained_kept, groups_kept, has_stock_step}
use Rattle.mem_system.specs.Commands.{BySteps}
use Rattle.mem_system.specs.Ends.{SettlesInVisit, Empties, LendsAndFillsNone}
use Rattle.mem_system.proofs.Listing.{left_over}
use Rattle.mem_machine.proofs.Followed.{makes_both}

-- ---- a settle after the begin of the visit

-- the same frames are settled by the same steps, whether the visit is open
pub same_settle : (t : KnownTable) (m entered : KnownMachine) (c : KnownCpuLists) → entered ≡ with_run m entered.run → IsHeld t m.run.past → Makes t m (open_steps c.number) entered
    → settle_steps t (visit_state entered c) ≡ settle_steps t (visit_state m c)
same_settle t m entered c opened is first =
    let groups = groups_kept t m entered (open_steps c.number) is first refl c.number in
    let killed : is_fresh_killed t (visit_state entered c) ≡ is_fresh_killed t (visit_state m c) =
    λ i. is_killed (ap (λ (k : KnownMachine). k.killed) opened i) (unwrap_or (groups i) 0) in
    ap (λ (b : Bool). flat_map (fresh_steps b c.number) c.fresh ++ return_all_steps (visit_state m c)) killed

-- the whole visit in which a CPU is settled, from its three parts
pub rested : (t : KnownTable) (m n : KnownMachine) (c d : KnownCpuLists) (entered x : KnownMachine) → IsHeld t m.run.past
    → entered ≡ with_run m entered.run → d.number ≡ c.number → n ≡ with_run x n.run → Makes t m (open_steps c.number) entered
    → Settles t (visit_state entered c) (visit_state x d) → Makes t entered (settle_steps t (visit_state entered c)) x → Makes t x (shut_steps d.number) n
    → BySteps VisitMakes t SettlesInVisit (visit_state m c) (visit_state n d)
rested t m n c d entered x is opened same shut first settles rests last =
    let p = c.number in
    let middle = settle_steps t (visit_state m c) in
    let done : Makes t entered middle x = subst (λ steps. Makes t entered steps x) (same_settle t m entered c opened is first) rests in
    let ended : Makes t x (shut_steps p) n = subst (λ (q : ℕ). Makes t x (shut_steps q) n) same last in record {
      steps = open_steps p ++ (middle ++ shut_steps p);
      does = record {
        settled = x;
        seen = entered.run;
        settles = subst (λ (k : KnownMachine). Settles t (visit_state k c) (visit_state x d)) opened settles;
        machine = shut;
        steps_are = refl;
      };
      makes = makes_both t (open_steps p) (middle ++ shut_steps p) m entered n first (makes_both t middle (shut_steps p) entered x n done ended);
    }

-- ---- a list that is returned whole

pub record WholeList (k : ℕ) (list left : List ℕ) : Type 0 where
  pub none_left : left ≡ []
  pub all_taken : take k list ≡ list

pub whole_list : (k count : ℕ) (list left : List ℕ) → k ≤ length list → count ≡ length list → (k < count → left ≡ []) → list ≡ take k list ++ left
    → WholeList k list left
whole_list k count list left listed all fewer split =
    let none : left ≡ [] = elim (cases_lt k count) [
      | inl less ↦ fewer less
      | inr enough ↦ let more = left_over k list left listed split in nil_from_length left (omega (arith, enough, all, more))
    ] in
    record { none_left = none; all_taken = sym (split ∙ ap (λ (l : List ℕ). take k list ++ l) none ∙ append-nil (take k list)) }

-- ---- what a visit leaves that returns the list and drains the stock

past_free : (p : ℕ) → Free ≡ Lent p → ⊥
past_free p e = false≢true (ap is_some_cpu e)
  where
    is_some_cpu : FrameState → Bool
    is_some_cpu (Lent q) = true
    is_some_cpu x = false

-- a frame that is free now is lent to no one
still_lent : (frame_states : List FrameState) (f g p : ℕ) → frame_state_at (slice_set frame_states f Free) g ≡ Lent p → frame_state_at frame_states g ≡ Lent p
still_lent [] f g p is = is
still_lent (x ∷ xs) zero zero p is = absurd (past_free p is)
still_lent (x ∷ xs) zero (suc g) p is = is
still_lent (x ∷ xs) (suc f) zero p is = is
still_lent (x ∷ xs) (suc f) (suc g) p is = still_lent xs f g p is

pub record TakenAlone (m : KnownMachine) (c : KnownCpuLists) (n : KnownMachine) (d : KnownCpuLists) : Type 0 where
  pub lent : (f p : ℕ) → frame_state_at n.frame_states f ≡ Lent p → frame_state_at m.frame_states f ≡ Lent p
  pub pins : d.pins ≡ c.pins

pub taken_alone : (frames : List ℕ) (m : KnownMachine) (c : KnownCpuLists) (n : KnownMachine) (d : KnownCpuLists) → UnlistsMany frames (visit_state m c) (visit_state n d) → TakenAlone m c n d
taken_alone [] m c n d t = record {
  lent = λ f p is. sym (ap (λ (k : KnownMachine). frame_state_at k.frame_states f) t.machine) ∙ is;
  pins = ap (λ (e : KnownCpuLists). e.pins) t.cpu;
}
taken_alone (f ∷ rest) m c n d t =
    let one = t.first in
    let more = taken_alone rest t.between.machine t.between.cpu n d t.rest in
    record {
      lent = λ g p is. still_lent m.frame_states f g p (sym (ap (λ (k : KnownMachine). frame_state_at k.frame_states g) one.machine) ∙ more.lent g p is);
      pins = more.pins ∙ ap (λ (e : KnownCpuLists). e.pins) one.cpu;
    }

-- no stock changes when frames are returned
no_stock_step : (p : ℕ) (frames : List ℕ) → has_stock_step (drain_list_steps p frames) ≡ false
no_stock_step p [] = refl
no_stock_step p (f ∷ rest) = no_stock_step p rest

-- the four parts of the visit
pub record EmptyParts (t : KnownTable) (m n : KnownMachine) (c d : KnownCpuLists) (entered x y : KnownMachine) (frames : List ℕ) (pages : ℕ) : Type 0 where
  pub held : IsHeld t m.run.past
  pub opened : entered ≡ with_run m entered.run
  pub first : Makes t m (open_steps c.number) entered
  pub takes : UnlistsMany frames (visit_state entered c) (visit_state x d)
  pub gives : Makes t entered (drain_list_steps c.number frames) x
  pub drains : Drains t d.number pages x y
  pub drips : Makes t x (drain_steps d.number (stock_group t x d.number) pages) y
  pub shut : n ≡ with_run y n.run
  pub last : Makes t y (shut_steps d.number) n
  pub same : d.number ≡ c.number

module _ (t : KnownTable) (m n : KnownMachine) (c d : KnownCpuLists) (entered x y : KnownMachine) (frames : List ℕ) (pages : ℕ)
    (v : EmptyParts t m n c d entered x y frames pages) where
  entered_held : IsHeld t entered.run.past
  entered_held = v.first.noted.grew.held v.held

  taken_held : IsHeld t x.run.past
  taken_held = v.gives.noted.grew.held entered_held

  drained_held : IsHeld t y.run.past
  drained_held = v.drips.noted.grew.held taken_held

  -- the visit leaves alone whom a frame is lent to, and which stocks are drained
  pub emptied_alone : LendsAndFillsNone t m n
  emptied_alone = record {
    none_lent = λ r none f is.
        let before = sym (ap (λ (z : KnownMachine). frame_state_at z.frame_states f) (v.shut ∙ ap (λ (z : KnownMachine). with_run z n.run) v.drains.machine)) ∙ is in
        none f (sym (ap (λ (z : KnownMachine). frame_state_at z.frame_states f) v.opened) ∙ (taken_alone frames entered c x d v.takes).lent f r before);
    drained = λ r was.
        drained_kept t y n (shut_steps d.number) drained_held v.last refl r
        (drained_still t d.number pages x y v.drains r
        (drained_kept t entered x (drain_list_steps c.number frames) entered_held v.gives (no_stock_step c.number frames) r
        (drained_kept t m entered (open_steps c.number) v.held v.first refl r was)));
  }

  -- and the CPU's own stock is drained
  pub emptied_drained : IsDrained t n d.number
  emptied_drained = drained_kept t y n (shut_steps d.number) drained_held v.last refl d.number (drained_now t d.number pages x y v.drains)

  -- the whole visit
  pub emptied : frames ≡ c.list → BySteps VisitMakes t Empties (visit_state m c) (visit_state n d)
  emptied whole =
      let p = c.number in
      let gives : Makes t entered (drain_list_steps p c.list) x = subst (λ (l : List ℕ). Makes t entered (drain_list_steps p l) x) whole v.gives in
      let drips : Makes t x (drain_steps p (stock_group t x p) pages) y = subst (λ (q : ℕ). Makes t x (drain_steps q (stock_group t x q) pages) y) v.same v.drips in
      let ended : Makes t y (shut_steps p) n = subst (λ (q : ℕ). Makes t y (shut_steps q) n) v.same v.last in
      let drain = drain_steps p (stock_group t x p) pages in record {
        steps = open_steps p ++ (drain_list_steps p c.list ++ (drain ++ shut_steps p));
        does = record {
          emptied = x;
          seen = entered.run;
          takes = subst (λ (z : List ℕ × KnownMachine). UnlistsMany z.0 (visit_state z.1 c) (visit_state x d)) (λ i. (whole i, v.opened i)) v.takes;
          pages = pages;
          drained = y;
          drains = subst (λ (q : ℕ). Drains t q pages x y) v.same v.drains;
          machine = v.shut;
          steps_are = refl;
        };
        makes = makes_both t (open_steps p) (drain_list_steps p c.list ++ (drain ++ shut_steps p)) m entered n v.first
            (makes_both t (drain_list_steps p c.list) (drain ++ shut_steps p) entered x n gives (makes_both t drain (shut_steps p) x y n drips ended));
      }
