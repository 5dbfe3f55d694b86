-- Frames from the front of a CPU's list are returned to the zone, and one frame is added to its end. Serves `release`.
use Rattle.std.proofs.Common.{◌≡◌, ◌≢◌, ℕ, zero, suc, ◌+◌, ◌<◌, ◌≤◌, List, [], ◌∷◌, ◌++◌, length, take, sym, ap, ◌∙◌, refl, inl, inr, arith}
use Rattle.std.specs.Prelude.{slice_set}
use Rattle.std.proofs.lemmas.Bool.{cases_lt}
use Rattle.std.proofs.lemmas.List.{length-append, length-take-le}
use Rattle.boot_words.specs.Tables.{KnownTable}
use Rattle.cpu_part.specs.Cpus.{KnownCpuLists}
use Rattle.zone_blocks.specs.declared.config.Config.{Config}
use Rattle.mem_machine.specs.declared.frame_state.FrameState.{FrameState}
use Rattle.mem_machine.specs.declared.frame_state.FrameState.TheVariants.{Free}
use Rattle.mem_machine.specs.declared.releasing.Released.TheVariants.{Returned}
use Rattle.mem_machine.specs.{frame_state_at, KnownMachine, UnlistsMany, visit_state, Makes, VisitMakes, ReturnsUnit, release_steps}
use Rattle.mem_system.specs.Commands.{BySteps}
use Rattle.mem_system.specs.Releases.{ListsFrame, ReturnsFrames}
use Rattle.mem_machine.proofs.Followed.{makes_both}

-- another frame that is free now leaves a free one free
set_free : (frame_states : List FrameState) (f g : ℕ) → frame_state_at frame_states g ≡ Free → frame_state_at (slice_set frame_states f Free) g ≡ Free
set_free [] f g is = refl
set_free (x ∷ xs) zero zero is = refl
set_free (x ∷ xs) zero (suc g) is = is
set_free (x ∷ xs) (suc f) zero is = is
set_free (x ∷ xs) (suc f) (suc g) is = set_free xs f g is

-- what the frames returned from the front leave
pub record Cut (frames : List ℕ) (m : KnownMachine) (c : KnownCpuLists) (n : KnownMachine) (d : KnownCpuLists) : Type 0 where
  pub split : c.list ≡ frames ++ d.list
  pub number : d.number ≡ c.number
  pub fresh : d.fresh ≡ c.fresh
  pub back : d.back ≡ c.back
  pub free : (f : ℕ) → frame_state_at m.frame_states f ≡ Free → frame_state_at n.frame_states f ≡ Free

pub cut_off : (frames : List ℕ) (m : KnownMachine) (c : KnownCpuLists) (n : KnownMachine) (d : KnownCpuLists) → UnlistsMany frames (visit_state m c) (visit_state n d) → Cut frames m c n d
cut_off [] m c n d t = record {
  split = sym (ap (λ (e : KnownCpuLists). e.list) t.cpu);
  number = ap (λ (e : KnownCpuLists). e.number) t.cpu;
  fresh = ap (λ (e : KnownCpuLists). e.fresh) t.cpu;
  back = ap (λ (e : KnownCpuLists). e.back) t.cpu;
  free = λ f is. ap (λ (k : KnownMachine). frame_state_at k.frame_states f) t.machine ∙ is;
}
cut_off (f ∷ rest) m c n d t =
    let one = t.first in
    let more = cut_off rest t.between.machine t.between.cpu n d t.rest in
    record {
      split = one.front ∙ ap (λ (l : List ℕ). f ∷ l) (sym (ap (λ (e : KnownCpuLists). e.list) one.cpu) ∙ more.split);
      number = more.number ∙ ap (λ (e : KnownCpuLists). e.number) one.cpu;
      fresh = more.fresh ∙ ap (λ (e : KnownCpuLists). e.fresh) one.cpu;
      back = more.back ∙ ap (λ (e : KnownCpuLists). e.back) one.cpu;
      free = λ g is. more.free g (ap (λ (k : KnownMachine). frame_state_at k.frame_states g) one.machine ∙ set_free m.frame_states f g is);
    }

-- a list of at least `high` frames has a whole batch
pub whole_batch : (k batch high : ℕ) (list left : List ℕ) → k ≤ batch → k ≤ length list → (k < batch → left ≡ []) → list ≡ take k list ++ left
    → batch ≤ high → high ≤ length list → k ≡ batch
whole_batch k batch high list left at_most listed fewer split low stands = elim (cases_lt k batch) [
  | inl less ↦
      let none = ap length (fewer less) in
      let all = ap length split ∙ length-append (take k list) left in
      let taken = length-take-le k list listed in
      absurd (omega (arith, less, none, all, taken, low, stands))
  | inr enough ↦ omega (arith, enough, at_most)
]

-- as many frames are left as were not taken
pub left_over : (k : ℕ) (list left : List ℕ) → k ≤ length list → list ≡ take k list ++ left → length list ≡ k + length left
left_over k list left listed split =
    ap length split ∙ length-append (take k list) left ∙ ap (λ (n : ℕ). n + length left) (length-take-le k list listed)

-- a single frame was freed and added to the list
pub returned_single : (t : KnownTable) (sizes : Config) (f : ℕ) (m freed n : KnownMachine) (c d : KnownCpuLists) (returns : ReturnsUnit f m freed)
    → returns.unit.order ≡ 0 → Makes t m (release_steps f Returned) freed
    → BySteps VisitMakes t (ListsFrame sizes f) (visit_state freed c) (visit_state n d) → BySteps VisitMakes t (ReturnsFrames sizes f) (visit_state m c) (visit_state n d)
returned_single t sizes f m freed n c d returns single first lists = record {
  steps = release_steps f Returned ++ lists.steps;
  does = record {
    freed = freed;
    returns = returns;
    listing = lists.steps;
    single = λ _. lists.does;
    block = λ more. absurd (more single);
    steps_are = refl;
  };
  makes = makes_both t (release_steps f Returned) lists.steps m freed n first lists.makes;
}

-- a block was freed
pub returned_block : (t : KnownTable) (sizes : Config) (f : ℕ) (m freed : KnownMachine) (c : KnownCpuLists) (returns : ReturnsUnit f m freed)
    → returns.unit.order ≢ 0 → Makes t m (release_steps f Returned) freed
    → BySteps VisitMakes t (ReturnsFrames sizes f) (visit_state m c) (visit_state freed c)
returned_block t sizes f m freed c returns more first = record {
  steps = release_steps f Returned;
  does = record {
    freed = freed;
    returns = returns;
    listing = [];
    single = λ single. absurd (more single);
    block = λ _. record { machine = refl; cpu = refl; steps_are = refl };
    steps_are = refl;
  };
  makes = first;
}
